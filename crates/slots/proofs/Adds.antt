-- A pair that is written into an unused slot is one more pair, and one unused slot less. Assumes nothing.
use Rattle.std.proofs.Common.{◌≡◌, ℕ, zero, suc, ◌+◌, ◌-◌, ◌/◌, ◌<◌, ◌≤◌, Bool, true, false, cond, List, [], ◌∷◌, ◌++◌, length, get_or, drop, set, Some, None, Option, sym, refl, ap, ◌∙◌, arith, rules}
use mathlib.Core.Path.{fun_ext}
use Rattle.std.specs.Str.{bytes_eq}
use Rattle.std.proofs.lemmas.Slice.Eq.{bytes_eq-Decides}
use Rattle.std.proofs.lemmas.List.{append_assoc, drop_at, get_or-append_right, length-append, take_at}
use Rattle.std.proofs.lemmas.Bool.{le-leb}
use Rattle.store.specs.Calls.{with_block, with_pair}
use Rattle.slots.specs.Memory.{holds, held_in, slots_in, slots_meaning, unused}
use Rattle.slots.specs.Slot.{big_endian, filled, is_used, slot_name, slot_length, slot_block}
use Rattle.slots.proofs.Cuts.{slot_count}

-- a slot that holds a name and a block
pub record Holds (slot name block : List ℕ) : Type 0 where
  pub used : is_used slot ≡ true
  pub named : slot_name slot ≡ name
  pub stored : slot_block slot ≡ block

filled-length : (name block slot : List ℕ) → length name ≡ 32 → length block ≤ 10752 → slot_length (filled name block slot) ≡ length block
filled-length name block slot long short =
    let rest = big_endian (length block) ++ (block ++ drop (36 + length block) slot) in
    rw (get_or-append_right name rest 32 32 0 long (omega arith), get_or-append_right name rest 32 33 0 long (omega arith), get_or-append_right name rest 32 34 0 long (omega arith), get_or-append_right name rest 32 35 0 long (omega arith)) (omega arith)

pub filled-holds : (name block slot : List ℕ) → length name ≡ 32 → length block ≤ 10752 → Holds (filled name block slot) name block
filled-holds name block slot long short =
    let bytes = big_endian (length block) in
    let rest = block ++ drop (36 + length block) slot in
    let size = filled-length name block slot long short in
    let past : drop 36 (filled name block slot) ≡ rest = ap (drop 36) (sym (append_assoc name bytes rest)) ∙ drop_at (name ++ bytes) rest 36 (length-append name bytes ∙ omega arith) in
    record {
      used = rw size (le-leb (length block) 10752 short);
      named = take_at name (bytes ++ rest) 32 long;
      stored = rw (size, past) (take_at block (drop (36 + length block) slot) (length block) refl);
    }

same_turned : (xs ys : List ℕ) → bytes_eq xs ys ≡ bytes_eq ys xs
same_turned xs ys = search (rules, bytes_eq-Decides)

none_of : (here : Bool) (x : List ℕ) (rest : Option (List ℕ)) → cond here (Some x) rest ≡ None → (here ≡ false) × (rest ≡ None)
none_of true x rest is = absurd (grind arith)
none_of false x rest is = (refl, is)

-- a pair in front of one more, and one more in front of a pair
exchange : (name block other x : List ℕ) (s : List ℕ) (rest : Option (List ℕ)) → holds s name ≡ false → (same : Bool) → bytes_eq other name ≡ same → cond (holds s other) (Some x) (cond same (Some block) rest) ≡ cond same (Some block) (cond (holds s other) (Some x) rest)
exchange name block other x s rest absent true e =
    let equal : other ≡ name = (bytes_eq-Decides other name).0 e in
    let passed : holds s other ≡ false = ap (holds s) equal ∙ absent in
    rw passed
exchange name block other x s rest absent false e = refl

pub held_set : (ss : List (List ℕ)) (i : ℕ) (w name block : List ℕ) → i < length ss → is_used (get_or ss i []) ≡ false → held_in ss name ≡ None → Holds w name block → (other : List ℕ) → held_in (set ss i w) other ≡ with_block (held_in ss) name block other
held_set [] i w name block within free absent h other = absurd (omega arith)
held_set (s ∷ ss) zero w name block within free absent h other =
    rw (h.used, h.named, h.stored, free, same_turned name other)
held_set (s ∷ ss) (suc i) w name block within free absent h other =
    let none = none_of (holds s name) (slot_block s) (held_in ss name) absent in
    let later = held_set ss i w name block (omega arith) free none.1 h other in
    rw later (exchange name block other (slot_block s) s (held_in ss other) none.0 (bytes_eq other name) refl)

pub unused-set : (ss : List (List ℕ)) (i : ℕ) (w : List ℕ) → i < length ss → is_used (get_or ss i []) ≡ false → is_used w ≡ true → unused (set ss i w) + 1 ≡ unused ss
unused-set [] i w within free used = absurd (omega arith)
unused-set (s ∷ ss) zero w within free used = rw (used, free) (omega arith)
unused-set (s ∷ ss) (suc i) w within free used =
    let later = unused-set ss i w (omega arith) free used in
    omega arith

-- the store with one more pair
pub pair_added : (m n : List ℕ) (i : ℕ) (name block : List ℕ) → i < length m / 10788 → is_used (get_or (slots_in m) i []) ≡ false → held_in (slots_in m) name ≡ None → length name ≡ 32 → length block ≤ 10752 → slots_in n ≡ set (slots_in m) i (filled name block (get_or (slots_in m) i [])) → slots_meaning n ≡ with_pair (slots_meaning m) name block
pair_added m n i name block within free absent long short is =
    let slot = get_or (slots_in m) i [] in
    let inside : i < length (slots_in m) = omega (arith, slot_count m) in
    let h = filled-holds name block slot long short in
    let pairs : held_in (slots_in n) ≡ with_block (held_in (slots_in m)) name block
    = fun_ext (λ other. ap (λ ss. held_in ss other) is ∙ held_set (slots_in m) i (filled name block slot) name block inside free absent h other) in
    let units : unused (slots_in n) ≡ unused (slots_in m) - 1
    = omega (arith, ap unused is, unused-set (slots_in m) i (filled name block slot) inside free h.used) in
    λ j. record { held = pairs j; free = units j; cost = λ len. 1 }

-- an unused slot is a free unit
pub some_unused : (ss : List (List ℕ)) (i : ℕ) → i < length ss → is_used (get_or ss i []) ≡ false → 1 ≤ unused ss
some_unused [] i within free = absurd (omega arith)
some_unused (s ∷ ss) zero within free = rw free (omega arith)
some_unused (s ∷ ss) (suc i) within free = let later = some_unused ss i (omega arith) free in omega arith
