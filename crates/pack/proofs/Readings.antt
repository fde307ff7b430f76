-- A pack that was made of sound pairs is read as these pairs. Assumes nothing.
use Rattle.std.proofs.Common.{◌≡◌, ℕ, zero, suc, ◌+◌, ◌-◌, ◌*◌, ◌/◌, ◌<◌, ◌≤◌, Bool, true, false, cond, eqb, List, [], ◌∷◌, ◌++◌, length, take, drop, replicate, Some, sym, refl, ap, ◌∙◌, subst, arith}
use Rattle.std.specs.List.{AllByRecursion}
use Rattle.std.specs.Str.{bytes_eq}
use Rattle.std.proofs.lemmas.List.{append_assoc, append-nil, length-append, length-drop, length-take-le, take-append-drop}
use Rattle.std.proofs.lemmas.Bool.{ne_eqb, eqb-false}
use Rattle.store.specs.Runs.{Pair}
use Rattle.pack.specs.Sector.{sector, unused_sector, more_follows, last, name_of, count_of, payload_of}
use Rattle.pack.specs.Pack.{Fits, Apart, Sound, block_sectors, blocks, full_parts, named, pack_sectors, parts, sector_cost}
use Rattle.pack.specs.Reader.{State, between, inside, ended, good, fewest, part_step, read_from, read_sectors, step}
use Rattle.pack.proofs.Names.{apart_before}
use Rattle.pack.proofs.Sectors.{ends_yes, goes_on_no, goes_on_yes, same_refl, sector-count, sector_name, sector_payload, used_not_unused}

pub length-parts : (name : List ℕ) (part k : ℕ) (block : List ℕ) → length (parts name part k block) ≡ k + 1
length-parts name part zero block = omega arith
length-parts name part (suc k) block = omega (arith, length-parts name (part + 1) k (drop 468 block))

-- a part behind others has a byte
pub at_least : (n : ℕ) → 1 ≤ n → fewest n ≡ 1
at_least n some = let e = ne_eqb n 0 (λ z. omega arith) in rw e

-- full parts and the last one have the bytes of a block
pub record Cut (part k len : ℕ) : Type 0 where
  pub least : fewest (part + k) + k * 468 ≤ len
  pub most : len ≤ k * 468 + 468
  pub room : part * 468 + len ≤ 10752

pub last_step : (left : ℕ) (pairs : List Pair) (name : List ℕ) (part : ℕ) (bytes payload : List ℕ) → length name ≡ 32 → length payload ≤ 468 → part * 468 + length payload ≤ 10752 → fewest part ≤ length payload → part_step left pairs name part bytes (sector last part name payload) ≡ Some (between (pairs ++ (record { name = name; block = bytes ++ payload } ∷ [])))
last_step left pairs name part bytes payload long short room some =
    let s = sector last part name payload in
    let count : count_of s ≡ length payload = sector-count 2 part name payload short in
    let found : payload_of (count_of s) s ≡ payload = sector_payload 2 part name payload (count_of s) long (sym count) in
    let same : bytes_eq (name_of s) name ≡ true = ap (λ n. bytes_eq n name) (sector_name 2 part name payload long) ∙ same_refl name in
    rw (same, goes_on_no left part part name payload, ends_yes part name payload long short room some, found)

pub more_step : (left : ℕ) (pairs : List Pair) (name : List ℕ) (part : ℕ) (bytes payload : List ℕ) → length name ≡ 32 → length payload ≡ 468 → (part + 1) * 468 < 10752 → 0 < left → part_step left pairs name part bytes (sector more_follows part name payload) ≡ Some (inside pairs name (part + 1) (bytes ++ payload))
more_step left pairs name part bytes payload long whole room more =
    let s = sector more_follows part name payload in
    let found : payload_of 468 s ≡ payload = sector_payload 1 part name payload 468 long whole in
    let same : bytes_eq (name_of s) name ≡ true = ap (λ n. bytes_eq n name) (sector_name 1 part name payload long) ∙ same_refl name in
    rw (same, goes_on_yes left part name payload long whole room more, found)

-- one sector that can stand there
pub read_one : (state after : State) (at : ℕ) (s : List ℕ) (ss : List (List ℕ)) → step (length ss) state s ≡ Some after → read_from state at (s ∷ ss) ≡ read_from after (at + 1) ss
read_one state after at s ss is = grind arith

pub read_parts : (k : ℕ) (pairs : List Pair) (name : List ℕ) (part : ℕ) (bytes block : List ℕ) (at : ℕ) (rest : List (List ℕ)) → length name ≡ 32 → Cut part k (length block) → read_from (inside pairs name part bytes) at (parts name part k block ++ rest) ≡ read_from (between (pairs ++ (record { name = name; block = bytes ++ block } ∷ []))) (at + (k + 1)) rest
read_parts zero pairs name part bytes block at rest long cut =
    let some : fewest part ≤ length block = omega (arith, cut.least, ap fewest (sum_zero part)) in
    read_one (inside pairs name part bytes) (between (pairs ++ (record { name = name; block = bytes ++ block } ∷ []))) at (sector last part name block) rest (last_step (length rest) pairs name part bytes block long (omega (arith, cut.most)) cut.room some)
  where
    sum_zero : (n : ℕ) → n + 0 ≡ n
    sum_zero n = omega arith
read_parts (suc k) pairs name part bytes block at rest long cut =
    let first = take 468 block in
    let others = drop 468 block in
    let tail = parts name (part + 1) k others ++ rest in
    let one : fewest (part + suc k) ≡ 1 = at_least (part + suc k) (omega arith) in
    let two : fewest (part + 1 + k) ≡ 1 = at_least (part + 1 + k) (omega arith) in
    let left : 0 < length tail = omega (arith, length-append (parts name (part + 1) k others) rest, length-parts name (part + 1) k others) in
    let whole : length first ≡ 468 = length-take-le 468 block (omega (arith, one, cut.least)) in
    let cut' : Cut (part + 1) k (length others) = record {
      least = omega (arith, length-drop 468 block, one, two, cut.least);
      most = omega (arith, length-drop 468 block, cut.most);
      room = omega (arith, length-drop 468 block, one, cut.room, cut.least);
    } in
    let rejoined : (bytes ++ first) ++ others ≡ bytes ++ block = append_assoc bytes first others ∙ ap (λ x. bytes ++ x) (take-append-drop 468 block) in
    let there : at + 1 + (k + 1) ≡ at + (suc k + 1) = omega arith in
    read_one (inside pairs name part bytes) (inside pairs name (part + 1) (bytes ++ first)) at (sector more_follows part name first) tail (more_step (length tail) pairs name part bytes first long whole (omega (arith, one, cut.least, cut.room)) left)
    ∙ read_parts k pairs name (part + 1) (bytes ++ first) others (at + 1) rest long cut'
    ∙ ap (λ b. read_from (between (pairs ++ (record { name = name; block = b } ∷ []))) (at + 1 + (k + 1)) rest) rejoined
    ∙ ap (λ n. read_from (between (pairs ++ (record { name = name; block = bytes ++ block } ∷ []))) n rest) there

-- how a block is cut into parts
pub block_cut : (len : ℕ) → len ≤ 10752 → Cut 0 (full_parts len) len
block_cut len short = grind arith

pub length_block : (name block : List ℕ) → length (block_sectors name block) ≡ sector_cost (length block)
length_block name block = length-parts name 0 (full_parts (length block)) block ∙ by_test (eqb (length block) 0) refl where
  by_test : (b : Bool) → eqb (length block) 0 ≡ b → cond b 1 ((length block + 467) / 468) - 1 + 1 ≡ cond b 1 ((length block + 467) / 468)
  by_test true e = omega arith
  by_test false e = let some : 1 ≤ length block = omega (arith, eqb-false (length block) 0 e) in omega arith

-- where a block begins, it is as if one were inside it before its first part
pub read_start : (pairs : List Pair) (at : ℕ) (s : List ℕ) (ss : List (List ℕ)) → bytes_eq s unused_sector ≡ false → named pairs (name_of s) ≡ false → read_from (between pairs) at (s ∷ ss) ≡ read_from (inside pairs (name_of s) 0 []) at (s ∷ ss)
read_start pairs at s ss used fresh = rw (used, fresh)

-- the first sector of a block
first_part : (name : List ℕ) (k : ℕ) (block : List ℕ) (rest : List (List ℕ)) (pairs : List Pair) (at : ℕ) → length name ≡ 32 → named pairs name ≡ false → read_from (between pairs) at (parts name 0 k block ++ rest) ≡ read_from (inside pairs name 0 []) at (parts name 0 k block ++ rest)
first_part name zero block rest pairs at long fresh =
    let s = sector last 0 name block in
    let is = sector_name 2 0 name block long in
    read_start pairs at s rest (used_not_unused 2 0 name block (omega arith)) (ap (named pairs) is ∙ fresh) ∙ ap (λ n. read_from (inside pairs n 0 []) at (s ∷ rest)) is
first_part name (suc k) block rest pairs at long fresh =
    let s = sector more_follows 0 name (take 468 block) in
    let ss = parts name 1 k (drop 468 block) ++ rest in
    let is = sector_name 1 0 name (take 468 block) long in
    read_start pairs at s ss (used_not_unused 1 0 name (take 468 block) (omega arith)) (ap (named pairs) is ∙ fresh) ∙ ap (λ n. read_from (inside pairs n 0 []) at (s ∷ ss)) is

pub read_block : (pairs : List Pair) (p : Pair) (at : ℕ) (rest : List (List ℕ)) → Fits p → named pairs p.name ≡ false → read_from (between pairs) at (block_sectors p.name p.block ++ rest) ≡ read_from (between (pairs ++ (p ∷ []))) (at + length (block_sectors p.name p.block)) rest
read_block pairs p at rest fits fresh =
    let k = full_parts (length p.block) in
    first_part p.name k p.block rest pairs at fits.name_length fresh
    ∙ read_parts k pairs p.name 0 [] p.block at rest fits.name_length (block_cut (length p.block) fits.block_length)
    ∙ ap (λ n. read_from (between (pairs ++ (p ∷ []))) (at + n) rest) (sym (length-parts p.name 0 k p.block))

pub read_blocks : (pairs more : List Pair) (at : ℕ) (rest : List (List ℕ)) → AllByRecursion Fits more → Apart (pairs ++ more) → read_from (between pairs) at (blocks more ++ rest) ≡ read_from (between (pairs ++ more)) (at + length (blocks more)) rest
read_blocks pairs [] at rest fit apart =
    let here : at + 0 ≡ at = omega arith in
    let all : pairs ++ [] ≡ pairs = append-nil pairs in
    ap (λ ps. read_from (between ps) at rest) (sym all) ∙ ap (λ n. read_from (between (pairs ++ [])) n rest) (sym here)
read_blocks pairs (p ∷ more) at rest fit apart =
    let own = block_sectors p.name p.block in
    let regroup : (pairs ++ (p ∷ [])) ++ more ≡ pairs ++ (p ∷ more) = append_assoc pairs (p ∷ []) more in
    let there : at + length own + length (blocks more) ≡ at + length (own ++ blocks more) = omega (arith, length-append own (blocks more)) in
    ap (read_from (between pairs) at) (append_assoc own (blocks more) rest)
    ∙ read_block pairs p at (blocks more ++ rest) fit.0 (apart_before pairs p more apart)
    ∙ read_blocks (pairs ++ (p ∷ [])) more (at + length own) rest fit.1 (subst Apart (sym regroup) apart)
    ∙ ap (λ ps. read_from (between ps) (at + length own + length (blocks more)) rest) regroup
    ∙ ap (λ n. read_from (between (pairs ++ (p ∷ more))) n rest) there

read_ended : (pairs : List Pair) (n u at : ℕ) → read_from (ended pairs n) at (replicate u unused_sector) ≡ good pairs (n + u)
read_ended pairs n zero at = ap (good pairs) (omega arith)
read_ended pairs n (suc u) at = rw (same_refl unused_sector) (read_ended pairs (n + 1) u (at + 1) ∙ ap (good pairs) (omega arith))

pub read_unused : (pairs : List Pair) (u at : ℕ) → read_from (between pairs) at (replicate u unused_sector) ≡ good pairs u
read_unused pairs zero at = refl
read_unused pairs (suc u) at = rw (same_refl unused_sector) (read_ended pairs 1 u (at + 1) ∙ ap (good pairs) (omega arith))

-- making the sectors of pairs and reading them gives the same pairs
pub read_pack : (pairs : List Pair) (unused : ℕ) → Sound pairs → read_sectors (pack_sectors pairs unused) ≡ good pairs unused
read_pack pairs unused sound =
    read_blocks [] pairs 0 (replicate unused unused_sector) sound.fit sound.apart ∙ read_unused pairs unused (0 + length (blocks pairs))
