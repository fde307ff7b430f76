-- What stands in the sector of a part. Assumes nothing.
use Rattle.std.proofs.lemmas.Bool.Decides.{nat_tests}
use Rattle.std.proofs.lemmas.Grind.{common_steps}
use Rattle.std.proofs.Common.{◌≡◌, ℕ, ◌+◌, ◌-◌, ◌*◌, ◌<◌, ◌≤◌, true, false, ◌&&◌, ltb, leb, List, ◌++◌, length, get_or, take, drop, sym, refl, ap, ◌∙◌, arith}
use Rattle.std.specs.Str.{bytes_eq}
use Rattle.std.proofs.lemmas.Slice.Eq.{bytes_eq-Decides}
use Rattle.std.proofs.lemmas.List.{drop_at, drop-drop, length-append, length-drop, length-replicate, length-take-le, take_at}
use Rattle.std.proofs.lemmas.Bool.{and_from, and_right, le-leb, lt-ltb}
use Rattle.pack.specs.Sector.{zeros, weighed, four_bytes, head, body, sector, unused_sector, more_follows, last, name_of, count_of, payload_of}
use Rattle.pack.specs.Reader.{fewest, goes_on, ends}

pub length-zeros : (n : ℕ) → length (zeros n) ≡ n
unfolding zeros
length-zeros n = length-replicate n 0

pub length-body : (kind part : ℕ) (name payload : List ℕ) → length name ≡ 32 → length payload ≤ 468 → length (body kind part name payload) ≡ 508
unfolding body
length-body kind part name payload long short =
    let rest = payload ++ zeros (468 - length payload) in
    omega (arith, length-append name rest, length-append payload (zeros (468 - length payload)), length-zeros (468 - length payload))

-- behind the eight bytes of the head
past_head : (kind part : ℕ) (name payload : List ℕ) → drop 8 (sector kind part name payload) ≡ name ++ (payload ++ (zeros (468 - length payload) ++ four_bytes (weighed 1 (body kind part name payload))))
unfolding sector body
past_head kind part name payload = grind (arith, common_steps)

pub sector_name : (kind part : ℕ) (name payload : List ℕ) → length name ≡ 32 → name_of (sector kind part name payload) ≡ name
sector_name kind part name payload long =
    ap (take 32) (past_head kind part name payload)
    ∙ take_at name (payload ++ (zeros (468 - length payload) ++ four_bytes (weighed 1 (body kind part name payload)))) 32 long

pub sector_payload : (kind part : ℕ) (name payload : List ℕ) (count : ℕ) → length name ≡ 32 → length payload ≡ count → payload_of count (sector kind part name payload) ≡ payload
sector_payload kind part name payload count long is =
    let rest = zeros (468 - length payload) ++ four_bytes (weighed 1 (body kind part name payload)) in
    let past : drop 40 (sector kind part name payload) ≡ payload ++ rest
    = sym (drop-drop 32 8 (sector kind part name payload)) ∙ ap (drop 32) (past_head kind part name payload) ∙ drop_at name (payload ++ rest) 32 long in
    ap (take count) past ∙ take_at payload rest count is

pub sector_kind : (kind part : ℕ) (name payload : List ℕ) → get_or (sector kind part name payload) 0 0 ≡ kind
unfolding sector body
sector_kind kind part name payload = refl

pub sector-count : (kind part : ℕ) (name payload : List ℕ) → length payload ≤ 468 → count_of (sector kind part name payload) ≡ length payload
unfolding sector body
sector-count kind part name payload short = omega arith

pub unused_kind : get_or unused_sector 0 0 ≡ 0
unfolding unused_sector zeros
unused_kind = refl

pub same_refl : (xs : List ℕ) → bytes_eq xs xs ≡ true
same_refl xs = (bytes_eq-Decides xs xs).1 refl

-- bytes that differ are not the same
pub same_no : (xs ys : List ℕ) → (xs ≡ ys → ⊥) → bytes_eq xs ys ≡ false
same_no xs ys apart = grind (arith, nat_tests, bytes_eq-Decides)

-- where the first eight bytes are no head of a part, the whole is no such part
pub wrong_head : (s : List ℕ) (kind part count : ℕ) → length s ≡ 512 → count ≤ 468 → (take 8 s ≡ head kind part count → ⊥) → bytes_eq s (sector kind part (name_of s) (payload_of count s)) ≡ false
unfolding sector body
wrong_head s kind part count whole short apart =
    let size : length (payload_of count s) ≡ count = length-take-le count (drop 40 s) (omega (arith, length-drop 40 s)) in
    same_no s (sector kind part (name_of s) (payload_of count s)) (λ is. apart (ap (take 8) is ∙ ap (head kind part) size))

-- sectors of different kinds differ
pub kinds_apart : (s t : List ℕ) (j k : ℕ) → get_or s 0 0 ≡ j → get_or t 0 0 ≡ k → (j ≡ k → ⊥) → bytes_eq s t ≡ false
kinds_apart s t j k first second apart = grind (arith, common_steps)

pub used_not_unused : (kind part : ℕ) (name payload : List ℕ) → 1 ≤ kind → bytes_eq (sector kind part name payload) unused_sector ≡ false
used_not_unused kind part name payload used =
    kinds_apart (sector kind part name payload) unused_sector kind 0 (sector_kind kind part name payload) unused_kind (λ e. omega arith)

pub goes_on_yes : (left part : ℕ) (name payload : List ℕ) → length name ≡ 32 → length payload ≡ 468 → (part + 1) * 468 < 10752 → 0 < left → goes_on left part (sector more_follows part name payload) ≡ true
unfolding goes_on
goes_on_yes left part name payload long full room more =
    let s = sector more_follows part name payload in
    let same : bytes_eq s (sector more_follows part (name_of s) (payload_of 468 s)) ≡ true
    = ap (λ n. bytes_eq s (sector more_follows part n (payload_of 468 s))) (sector_name 1 part name payload long)
    ∙ ap (λ p. bytes_eq s (sector more_follows part name p)) (sector_payload 1 part name payload 468 long full)
    ∙ same_refl s in
    let test = bytes_eq s (sector more_follows part (name_of s) (payload_of 468 s)) in
    and_from (ltb ((part + 1) * 468) 10752) (ltb 0 left && test) (lt-ltb ((part + 1) * 468) 10752 room) (and_from (ltb 0 left) test (lt-ltb 0 left more) same)

pub goes_on_no : (left part part' : ℕ) (name payload : List ℕ) → goes_on left part (sector last part' name payload) ≡ false
unfolding goes_on
goes_on_no left part part' name payload =
    let s = sector last part' name payload in
    let test = bytes_eq s (sector more_follows part (name_of s) (payload_of 468 s)) in
    and_right (ltb ((part + 1) * 468) 10752) (ltb 0 left && test) (and_right (ltb 0 left) test (kinds_apart s (sector more_follows part (name_of s) (payload_of 468 s)) 2 1 (sector_kind 2 part' name payload) (sector_kind 1 part (name_of s) (payload_of 468 s)) (λ e. omega arith)))

pub ends_yes : (part : ℕ) (name payload : List ℕ) → length name ≡ 32 → length payload ≤ 468 → part * 468 + length payload ≤ 10752 → fewest part ≤ length payload → ends part (sector last part name payload) ≡ true
unfolding ends
ends_yes part name payload long short room some =
    let s = sector last part name payload in
    let count : count_of s ≡ length payload = sector-count 2 part name payload short in
    let same : bytes_eq s (sector last part (name_of s) (payload_of (count_of s) s)) ≡ true
    = ap (λ n. bytes_eq s (sector last part n (payload_of (count_of s) s))) (sector_name 2 part name payload long)
    ∙ ap (λ p. bytes_eq s (sector last part name p)) (sector_payload 2 part name payload (count_of s) long (sym count))
    ∙ same_refl s in
    let test = bytes_eq s (sector last part (name_of s) (payload_of (count_of s) s)) in
    let fits = leb (part * 468 + count_of s) 10752 in
    let enough = leb (fewest part) (count_of s) in
    and_from (leb (count_of s) 468) (fits && (enough && test)) (le-leb (count_of s) 468 (omega arith))
    (and_from fits (enough && test) (le-leb (part * 468 + count_of s) 10752 (omega arith))
    (and_from enough test (le-leb (fewest part) (count_of s) (omega arith)) same))

-- a full part that was read
pub record Full (left part : ℕ) (s : List ℕ) : Type 0 where
  pub is : s ≡ sector more_follows part (name_of s) (payload_of 468 s)
  pub room : (part + 1) * 468 < 10752
  pub more : 0 < left

pub full : (left part : ℕ) (s : List ℕ) → goes_on left part s ≡ true → Full left part s
unfolding goes_on
full left part s e = grind (arith, nat_tests, bytes_eq-Decides)

-- a last part that was read
pub record Last (part : ℕ) (s : List ℕ) : Type 0 where
  pub is : s ≡ sector last part (name_of s) (payload_of (count_of s) s)
  pub short : count_of s ≤ 468
  pub room : part * 468 + count_of s ≤ 10752
  pub some : fewest part ≤ count_of s

pub ended_by : (part : ℕ) (s : List ℕ) → ends part s ≡ true → Last part s
unfolding ends
ended_by part s e = grind (arith, nat_tests, bytes_eq-Decides)
