-- Slots are a lawful store. The ghost member `lawful` cites this proof, and so it stands here and not among the proofs.
--
--   whole_chunks    every slot of memory is whole
--   slots_lawful    whole slots hold blocks within the limit under names of 32 bytes
--
-- Assumes nothing.
use Rattle.std.specs.Prelude.{◌≡◌, ℕ, zero, suc, ◌*◌, ◌/◌, ◌≤◌, Bool, true, false, cond, List, [], ◌∷◌, length, drop, Some, Option, refl}
use Rattle.std.proofs.Common.{sym, ap, subst, ◌∙◌, suc-mul, arith}
use Rattle.std.specs.Simd.{first_chunks}
use Rattle.std.specs.List.{AllByRecursion}
use Rattle.std.specs.Str.{bytes_eq}
use Rattle.std.proofs.lemmas.Slice.Eq.{bytes_eq-Decides}
use Rattle.std.proofs.lemmas.List.{length-drop, length-take, length-take-le}
use Rattle.std.proofs.lemmas.Bool.{and_parts, leb-true}
use Rattle.store.specs.Meaning.{Lawful}
use Rattle.slots.specs.Memory.{holds, held_in, slots_in, slots_meaning}
use Rattle.slots.specs.Slot.{is_used, slot_name, slot_length, slot_block}

-- every slot is whole
whole_chunks : (n k : ℕ) (m : List ℕ) → k * n ≤ length m → AllByRecursion (λ s. length s ≡ n) (first_chunks n k m)
whole_chunks n zero m room = tt
whole_chunks n (suc k) m room = (
  length-take-le n m (omega (arith, suc-mul k n)),
  whole_chunks n k (drop n m) (omega (arith, suc-mul k n, length-drop n m)),
)

-- of a name and a block
record Sized (name block : List ℕ) : Type 0 where
  name_length : length name ≡ 32
  block_length : length block ≤ 10752

-- what a slot holds
sized_slot : (slot name : List ℕ) → length slot ≡ 10788 → holds slot name ≡ true → Sized name (slot_block slot)
sized_slot slot name whole is =
    let parts = and_parts (is_used slot) (bytes_eq (slot_name slot) name) is in
    let same : slot_name slot ≡ name = (bytes_eq-Decides (slot_name slot) name).0 parts.1 in
    let short : slot_length slot ≤ 10752 = leb-true (slot_length slot) 10752 parts.0 in
    record {
      name_length = ap length (sym same) ∙ length-take-le 32 slot (omega arith);
      block_length = omega (arith, length-take (slot_length slot) (drop 36 slot));
    }

by_test : (slot name block : List ℕ) (rest : Option (List ℕ)) → length slot ≡ 10788 → (rest ≡ Some block → Sized name block) → (here : Bool) → holds slot name ≡ here → cond here (Some (slot_block slot)) rest ≡ Some block → Sized name block
by_test slot name block rest whole later true here is = let e : slot_block slot ≡ block = cc in subst (λ b. Sized name b) e (sized_slot slot name whole here)
by_test slot name block rest whole later false here is = later is

sized : (ss : List (List ℕ)) (name block : List ℕ) → AllByRecursion (λ s. length s ≡ 10788) ss → held_in ss name ≡ Some block → Sized name block
sized [] name block whole is = let z : ◌≡◌ {A = ℕ} 0 1 = cc in absurd (omega arith)
sized (s ∷ ss) name block whole is = by_test s name block (held_in ss name) whole.0 (sized ss name block whole.1) (holds s name) refl is

pub slots_lawful : (memory : List ℕ) → Lawful (slots_meaning memory)
slots_lawful memory =
    let whole = whole_chunks 10788 (length memory / 10788) memory (omega arith) in
    record {
      name_length = λ name block is. (sized (slots_in memory) name block whole is).name_length;
      block_length = λ name block is. (sized (slots_in memory) name block whole is).block_length;
      cost_least = λ len. omega arith;
    }
