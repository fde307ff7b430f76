-- The bytes of a sector, written one part after the other. Assumes nothing.
use Rattle.std.proofs.lemmas.Grind.{common_steps}
use Rattle.std.proofs.Common.{◌≡◌, ℕ, ◌+◌, ◌-◌, ◌≤◌, List, [], ◌++◌, length, take, drop, sym, refl, ap, ◌∙◌, arith}
use borrow.Rule.Slice.PartMut.{put_mid}
use Rattle.std.proofs.lemmas.List.{append_assoc, append-nil, drop_at, drop-replicate, length-append, length-drop, take_at, replicate-append-replicate}
use Rattle.store.proofs.Chunks.{length-put}
use Rattle.pack.specs.Sector.{body, four_bytes, head, sector, weighed, zeros}
use Rattle.pack.proofs.Sectors.{length-body}

next_part : (p q s : List ℕ) (n k : ℕ) → length p ≡ n → put_mid n k (p ++ drop n s) q ≡ (p ++ q) ++ drop (n + k) s
next_part p q s n k long = grind (arith, common_steps)

drop-zeros : (m n : ℕ) → drop m (zeros n) ≡ zeros (n - m)
unfolding zeros
drop-zeros m n = drop-replicate m n 0

join_zeros : (m n : ℕ) → zeros m ++ zeros n ≡ zeros (m + n)
unfolding zeros
join_zeros m n = replicate-append-replicate m n 0

-- the sector before its sum
laid : (kind part : ℕ) (name payload : List ℕ) → length name ≡ 32 → length payload ≤ 468 → put_mid 40 (40 + length payload - 40) (put_mid 8 32 (head kind part (length payload) ++ drop 8 (zeros 512)) name) payload ≡ body kind part name payload ++ zeros 4
unfolding body
laid kind part name payload long short =
    let h = head kind part (length payload) in
    let one = next_part h name (zeros 512) 8 32 refl in
    let size : length (h ++ name) ≡ 40 = length-append h name ∙ omega arith in
    let two = next_part (h ++ name) payload (zeros 512) 40 (40 + length payload - 40) size in
    let far : 40 + (40 + length payload - 40) ≡ 40 + length payload = omega arith in
    let left : 512 - (40 + length payload) ≡ 468 - length payload + 4 = omega arith in
    let pad : List ℕ = zeros (468 - length payload) in
    ap (λ x. put_mid 40 (40 + length payload - 40) x payload) one
    ∙ two
    ∙ ap (λ n. ((h ++ name) ++ payload) ++ drop n (zeros 512)) far
    ∙ ap (λ x. ((h ++ name) ++ payload) ++ x) (drop-zeros (40 + length payload) 512 ∙ ap zeros left ∙ sym (join_zeros (468 - length payload) 4))
    ∙ append_assoc (h ++ name) payload (pad ++ zeros 4)
    ∙ append_assoc h name (payload ++ (pad ++ zeros 4))
    ∙ ap (λ x. h ++ (name ++ x)) (sym (append_assoc payload pad (zeros 4)))
    ∙ ap (λ x. h ++ x) (sym (append_assoc name (payload ++ pad) (zeros 4)))
    ∙ sym (append_assoc h (name ++ (payload ++ pad)) (zeros 4))

-- the pieces keep the length
pub length_laid : (n : ℕ) (x y z blank : List ℕ) → length x ≡ 8 → length y ≡ 32 → length z ≡ n → n ≤ 468 → length blank ≡ 512 → length (put_mid 40 (40 + n - 40) (put_mid 8 32 (x ++ drop 8 blank) y) z) ≡ 512
length_laid n x y z blank eight name load short empty =
    let whole : length (x ++ drop 8 blank) ≡ 512 = omega (arith, length-append x (drop 8 blank), length-drop 8 blank) in
    let named = length-put 8 32 (x ++ drop 8 blank) y (omega arith) name in
    length-put 40 (40 + n - 40) (put_mid 8 32 (x ++ drop 8 blank) y) z (omega (arith, named)) (omega arith) ∙ named ∙ whole

none : drop 4 (zeros 4) ≡ []
unfolding zeros
none = refl

-- as the checker has the writes to a sector that was made zeros
pub made : (kind part : ℕ) (name payload blank x y z w : List ℕ) → length name ≡ 32 → length payload ≤ 468 → blank ≡ zeros 512 → x ≡ head kind part (length payload) → y ≡ name → z ≡ payload → w ≡ four_bytes (weighed 1 (take 508 (put_mid 40 (40 + length payload - 40) (put_mid 8 32 (x ++ drop 8 blank) y) z))) → put_mid 508 4 (put_mid 40 (40 + length payload - 40) (put_mid 8 32 (x ++ drop 8 blank) y) z) w ≡ sector kind part name payload
unfolding sector
made kind part name payload blank x y z w long short empty first second third sum =
    let b = body kind part name payload in
    let wide : length b ≡ 508 = length-body kind part name payload long short in
    let s = put_mid 40 (40 + length payload - 40) (put_mid 8 32 (x ++ drop 8 blank) y) z in
    let is : s ≡ b ++ zeros 4
    = ap (λ v. put_mid 40 (40 + length payload - 40) (put_mid 8 32 (x ++ drop 8 v) y) z) empty
    ∙ ap (λ v. put_mid 40 (40 + length payload - 40) (put_mid 8 32 (v ++ drop 8 (zeros 512)) y) z) first
    ∙ ap (λ v. put_mid 40 (40 + length payload - 40) (put_mid 8 32 (head kind part (length payload) ++ drop 8 (zeros 512)) v) z) second
    ∙ ap (put_mid 40 (40 + length payload - 40) (put_mid 8 32 (head kind part (length payload) ++ drop 8 (zeros 512)) name)) third
    ∙ laid kind part name payload long short in
    let front : take 508 s ≡ b = ap (take 508) is ∙ take_at b (zeros 4) 508 wide in
    let back : drop 4 (drop 508 s) ≡ [] = ap (λ v. drop 4 (drop 508 v)) is ∙ ap (drop 4) (drop_at b (zeros 4) 508 wide) ∙ none in
    ap (λ f. f ++ (w ++ drop 4 (drop 508 s))) front
    ∙ ap (λ r. b ++ (w ++ r)) back
    ∙ ap (λ r. b ++ r) (append-nil w ∙ sum ∙ ap (λ f. four_bytes (weighed 1 f)) front)
