-- Walks over slots: what is passed, and what is found. Assumes nothing.
use Rattle.std.proofs.Common.{◌≡◌, ℕ, suc, ◌+◌, ◌<◌, ◌≤◌, Bool, true, false, cond, List, [], ◌∷◌, length, get_or, Some, None, refl, Option, sym, ap, subst, ◌∙◌, arith}
use Rattle.std.specs.List.{find, sum_by, AllWithin, HoldsAt}
use Rattle.std.specs.Str.{bytes_eq}
use Rattle.std.specs.Option.{option_map, MatchOption}
use Rattle.std.proofs.lemmas.Bool.{and_parts}
use Rattle.std.proofs.lemmas.List.Sums.{sum_by-cons}
use Rattle.store.specs.declared.block.Block.{Block}
use Rattle.slots.specs.Memory.{holds, held_in, unused}
use Rattle.slots.specs.Slot.{is_used, slot_block, slot_name}

-- the block under a name is that of the first slot that holds it
pub held_in-find : (ss : List (List ℕ)) (name : List ℕ) → held_in ss name ≡ option_map slot_block (find (λ s. holds s name) ss)
held_in-find [] name = refl
held_in-find (s ∷ ss) name =
    elim (holds s name) as (λ t. cond t (Some (slot_block s)) (held_in ss name) ≡ option_map slot_block (cond t (Some s) (find (λ x. holds x name) ss))) [
      | true ↦ refl
      | false ↦ held_in-find ss name
    ]

-- which is in use
used_here : (ss : List (List ℕ)) (name x s : List ℕ) (here : Bool) → holds x name ≡ here → (find (λ y. holds y name) ss ≡ Some s → is_used s ≡ true)
    → cond here (Some x) (find (λ y. holds y name) ss) ≡ Some s → is_used s ≡ true
used_here ss name x s true holds-it later is = let same : x ≡ s = cc in subst (λ y. is_used y ≡ true) same (and_parts (is_used x) (bytes_eq (slot_name x) name) holds-it).0
used_here ss name x s false passed later is = later is

pub used-find : (ss : List (List ℕ)) (name s : List ℕ) → find (λ x. holds x name) ss ≡ Some s → is_used s ≡ true
used-find [] name s is = cc
used-find (x ∷ ss) name s is = used_here ss name x s (holds x name) refl (used-find ss name s) is

-- each unused slot adds one
pub unused-sum : (ss : List (List ℕ)) → sum_by (λ s. cond (is_used s) 0 1) ss ≡ unused ss
unused-sum [] = refl
unused-sum (s ∷ ss) = sum_by-cons (λ x. cond (is_used x) 0 1) s ss ∙ ap (λ n. cond (is_used s) 0 1 + n) (unused-sum ss)

pub unused_le : (ss : List (List ℕ)) → unused ss ≤ length ss
unused_le [] = omega arith
unused_le (s ∷ ss) = let rest = unused_le ss in grind (arith, rest)

-- where every slot is used, none is unused
pub unused_none : (ss : List (List ℕ)) → AllWithin (λ s. is_used s ≡ true) ss 0 (length ss) → unused ss ≡ 0
unused_none [] used = refl
unused_none (s ∷ ss) used =
    let here : is_used s ≡ true = used 0 [] (omega arith) (omega arith) in
    let rest = unused_none ss (λ k d low high. used (suc k) d (omega arith) (omega arith)) in
    rw here (omega arith)

-- the first slot that is not used, if there is one
pub first_unused : (ss ts : List (List ℕ)) (n : ℕ) (r : Option ℕ) → ss ≡ ts → length ts ≡ n
    → MatchOption r (AllWithin (λ s. is_used s ≡ true) ss 0 (length ss)) (λ i. (i < length ss) × HoldsAt (λ s. is_used s ≡ false) ss i × AllWithin (λ s. is_used s ≡ true) ss 0 i)
    → MatchOption r (unused ts ≡ 0) (λ i. (i < n) × (is_used (get_or ts i []) ≡ false))
first_unused ss ts n None same count all = subst (λ us. unused us ≡ 0) same (unused_none ss all)
first_unused ss ts n (Some i) same count first = (omega (arith, ap length same, first.0), subst (λ us. is_used (get_or us i []) ≡ false) same (first.1 []))

-- the block of the first slot that holds a name
pub looked_up : (ss ts : List (List ℕ)) (name slot : List ℕ) (r : Option Block) → ss ≡ ts → Some slot ≡ find (λ s. holds s name) ss
    → MatchOption r (is_used slot ≡ false) (λ b. (is_used slot ≡ true) × (b.bytes.now ≡ slot_block slot))
    → MatchOption r (held_in ts name ≡ None) (λ b. held_in ts name ≡ Some b.bytes.now)
looked_up ss ts name slot None same found unused = let used = used-find ss name slot (sym found) in absurd (grind arith)
looked_up ss ts name slot (Some b) same found (used, is) =
    ap (λ us. held_in us name) (sym same) ∙ held_in-find ss name ∙ ap (option_map slot_block) (sym found) ∙ ap Some (sym is)

-- no slot holds it
pub not_found : (ss ts : List (List ℕ)) (name : List ℕ) → ss ≡ ts → None ≡ find (λ s. holds s name) ss → held_in ts name ≡ None
not_found ss ts name same none = ap (λ us. held_in us name) (sym same) ∙ held_in-find ss name ∙ ap (option_map slot_block) (sym none)

-- where no slot is used, nothing is held
pub held_none : (ss : List (List ℕ)) (name : List ℕ) → ((k : ℕ) → k < length ss → is_used (get_or ss k []) ≡ false) → held_in ss name ≡ None
held_none [] name none = refl
held_none (s ∷ ss) name none =
    let here : is_used s ≡ false = none 0 (omega arith) in
    rw here (held_none ss name (λ k within. none (suc k) (omega arith)))

-- and every slot counts
pub unused_all : (ss : List (List ℕ)) → ((k : ℕ) → k < length ss → is_used (get_or ss k []) ≡ false) → unused ss ≡ length ss
unused_all [] none = refl
unused_all (s ∷ ss) none =
    let here : is_used s ≡ false = none 0 (omega arith) in
    let rest = unused_all ss (λ k within. none (suc k) (omega arith)) in
    rw here (omega arith)
