-- A slot that is written in memory is one slot of the cut memory, and all else stays. Assumes nothing.
use Rattle.std.proofs.Common.{◌≡◌, ℕ, ◌+◌, ◌-◌, ◌*◌, ◌/◌, ◌<◌, List, [], length, get_or, take, drop, set, sym, ap, ◌∙◌, arith}
use borrow.Rule.Slice.PartMut.{put_mid}
use Rattle.std.proofs.lemmas.List.{length-drop, length-take}
use Rattle.std.proofs.lemmas.Slice.{drop-put_mid}
use Rattle.store.proofs.Chunks.{length_chunked, getD_chunked, piece_written, length-put}
use Rattle.slots.specs.Memory.{slots_in, left_over}

-- how many slots memory has
pub slot_count : (m : List ℕ) → length (slots_in m) ≡ length m / 10788
slot_count m = length_chunked 10788 (length m / 10788) m

-- a slot where it stands in memory
pub slot_at : (m : List ℕ) (i : ℕ) → i < length m / 10788 → get_or (slots_in m) i [] ≡ take 10788 (drop (i * 10788) m)
slot_at m i within = getD_chunked 10788 (length m / 10788) i m within

-- as the checker has a change to the part of memory where a slot stands
pub slot_changed : (change : List ℕ → List ℕ) (m w : List ℕ) (i : ℕ)
    → i < length m / 10788
    → length w ≡ length (take (i * 10788 + 10788 - i * 10788) (drop (i * 10788) m))
    → w ≡ change (take (i * 10788 + 10788 - i * 10788) (drop (i * 10788) m))
    → slots_in (put_mid (i * 10788) (i * 10788 + 10788 - i * 10788) m w) ≡ set (slots_in m) i (change (get_or (slots_in m) i []))
slot_changed change m w i within long is =
    let size : i * 10788 + 10788 - i * 10788 ≡ 10788 = omega arith in
    let whole : take (i * 10788 + 10788 - i * 10788) (drop (i * 10788) m) ≡ get_or (slots_in m) i [] = ap (λ n. take n (drop (i * 10788) m)) size ∙ sym (slot_at m i within) in
    let full : length w ≡ 10788 = long ∙ ap (λ n. length (take n (drop (i * 10788) m))) size ∙ omega (arith, length-take 10788 (drop (i * 10788) m), length-drop (i * 10788) m) in
    ap (λ n. slots_in (put_mid (i * 10788) n m w)) size
    ∙ piece_written 10788 i m w within full
    ∙ ap (set (slots_in m) i) (is ∙ ap change whole)

-- and what belongs to no slot stays
pub left_over_kept : (m w : List ℕ) (i : ℕ)
    → i < length m / 10788
    → length w ≡ length (take (i * 10788 + 10788 - i * 10788) (drop (i * 10788) m))
    → left_over (put_mid (i * 10788) (i * 10788 + 10788 - i * 10788) m w) ≡ left_over m
left_over_kept m w i within long =
    let a = i * 10788 in
    let k = i * 10788 + 10788 - i * 10788 in
    let full : length w ≡ k = long ∙ omega (arith, length-take k (drop a m), length-drop a m) in
    let size = length-put a k m w (omega arith) full in
    rw size (drop-put_mid a k m w (length m / 10788 * 10788) (omega arith) (omega arith) full)
