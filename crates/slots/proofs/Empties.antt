-- Memory whose slots are emptied one after the other. Assumes nothing.
use Rattle.std.proofs.Common.{◌≡◌, ℕ, ◌+◌, ◌*◌, ◌/◌, ◌<◌, false, ◌≢◌, List, [], length, get_or, drop, set, None, sym, ap, ◌∙◌, arith, below_more}
use mathlib.Core.Path.{fun_ext}
use Rattle.std.proofs.lemmas.List.{get_or-set_same, get_or-set_other, length-drop, length-take}
use Rattle.std.proofs.lemmas.Bool.{lt-leb}
use Rattle.slots.specs.Memory.{held_in, slots_in, slots_meaning, unused, without_pairs}
use Rattle.slots.specs.Slot.{emptied, is_used, slot_length}
use Rattle.slots.proofs.Cuts.{slot_at, slot_count}
use Rattle.slots.proofs.Walks.{held_none, unused_all}

emptied-unused : (slot : List ℕ) → 32 < length slot → is_used (emptied slot) ≡ false
emptied-unused slot within =
    let mark : get_or (emptied slot) 32 0 ≡ 255 = get_or-set_same slot 32 255 0 within in
    lt-leb (slot_length (emptied slot)) 10752 (omega arith)

-- one slot more
pub emptied_more : (m n : List ℕ) (i : ℕ) → i < length m / 10788 → slots_in n ≡ set (slots_in m) i (emptied (get_or (slots_in m) i [])) → ((k : ℕ) → k < i → is_used (get_or (slots_in m) k []) ≡ false) → (k : ℕ) → k < i + 1 → is_used (get_or (slots_in n) k []) ≡ false
emptied_more m n i within is before =
    let slot = get_or (slots_in m) i [] in
    let size : 32 < length slot = omega (arith, ap length (slot_at m i within), length-take 10788 (drop (i * 10788) m), length-drop (i * 10788) m) in
    let inside : i < length (slots_in m) = omega (arith, slot_count m) in
    below_more (λ k. is_used (get_or (slots_in n) k []) ≡ false) i
    (λ k below. let ne : k ≢ i = omega arith in ap (λ ss. is_used (get_or ss k [])) is ∙ ap is_used (get_or-set_other (slots_in m) i k (emptied slot) [] ne) ∙ before k below)
    (ap (λ ss. is_used (get_or ss i [])) is ∙ ap is_used (get_or-set_same (slots_in m) i (emptied slot) [] inside) ∙ emptied-unused slot size)

-- all of them
pub emptied_all : (m : List ℕ) (n : ℕ) → n ≡ length m / 10788 → ((k : ℕ) → k < n → is_used (get_or (slots_in m) k []) ≡ false) → slots_meaning m ≡ without_pairs n
emptied_all m n count none =
    let every : (k : ℕ) → k < length (slots_in m) → is_used (get_or (slots_in m) k []) ≡ false = λ k within. none k (omega (arith, slot_count m)) in
    let nothing : held_in (slots_in m) ≡ (λ name. None) = fun_ext (λ name. held_none (slots_in m) name every) in
    let units : unused (slots_in m) ≡ n = unused_all (slots_in m) every ∙ slot_count m ∙ sym count in
    λ i. record { held = nothing i; free = units i; cost = λ len. 1 }
