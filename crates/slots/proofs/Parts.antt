-- The parts of a slot, written one after the other. Assumes nothing.
use Rattle.std.proofs.Common.{◌≡◌, ℕ, ◌+◌, ◌-◌, List, ◌++◌, ◌≤◌, length, take, drop, sym, ◌∙◌, arith}
use borrow.Rule.Slice.PartMut.{put_mid}
use Rattle.std.proofs.lemmas.List.{append_assoc, drop_at, drop-drop, length-append, take_at, take-take}
use Rattle.std.specs.List.{slice_range}
use Rattle.slots.specs.Slot.{big_endian, filled}

-- a part right behind what was written before
next_part : (p q s : List ℕ) (n k : ℕ) → length p ≡ n → put_mid n k (p ++ drop n s) q ≡ (p ++ q) ++ drop (n + k) s
next_part p q s n k long =
    rw (take_at p (drop n s) n long, drop_at p (drop n s) n long, drop-drop k n s) (sym (append_assoc p q (drop (n + k) s)))

all_parts : (name block slot : List ℕ) → length name ≡ 32 → put_mid 36 (36 + length block - 36) (put_mid 32 4 (name ++ drop 32 slot) (big_endian (length block))) block ≡ filled name block slot
all_parts name block slot long =
    let bytes = big_endian (length block) in
    let one = next_part name bytes slot 32 4 long in
    let two = next_part (name ++ bytes) block slot 36 (36 + length block - 36) (length-append name bytes ∙ omega arith) in
    let far : 36 + (36 + length block - 36) ≡ 36 + length block = omega arith in
    rw (one, two, far, append_assoc (name ++ bytes) block (drop (36 + length block) slot), append_assoc name bytes (block ++ drop (36 + length block) slot))

-- as the checker has three writes to parts of a slice
pub written : (name block slot x y z : List ℕ) → length name ≡ 32 → x ≡ name → y ≡ big_endian (length block) → z ≡ block → put_mid 36 (36 + length block - 36) (put_mid 32 4 (x ++ drop 32 slot) y) z ≡ filled name block slot
written name block slot x y z long first second third = rw (first, second, third) (all_parts name block slot long)

-- a part of room that is long enough
pub front_of : (n k : ℕ) (xs b : List ℕ) (len : ℕ) → len ≡ n → n ≤ k → b ≡ slice_range (take k xs) 0 len → b ≡ take n xs
front_of n k xs b len same long is = let all : n - 0 ≡ n = omega arith in is ∙ rw (same, all) (take-take n k xs long)
