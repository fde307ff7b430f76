-- Packs: blocks in the sectors of memory, one after the other.
--
--   sectors_in       memory as sectors
--   full_parts       how many parts of a block of so many bytes are followed by another
--   sector_cost      how many sectors a block of so many bytes takes: its length / 468 rounded up, at least 1
--   parts            some full parts, and the last one
--   block_sectors    the sectors of a block
--   blocks           the sectors of blocks, one after the other
--   pack_sectors     a pack: the sectors of blocks, and unused ones to the end
--   named            whether a name is among those of some pairs
--   Sound            pairs that a pack may hold: names of 32 bytes, blocks within the limit, and no name twice
--   Good             a good pack: the pack of sound pairs and of some unused sectors, in bytes
--
-- Assumes nothing.
use Rattle.std.specs.Prelude.{◌≡◌, ℕ, zero, suc, ◌+◌, ◌-◌, ◌/◌, ◌<◌, ◌≤◌, Bool, false, cond, ◌||◌, List, [], ◌∷◌, ◌++◌, length, take, drop, replicate, ◌==◌}
use Rattle.std.specs.Simd.{first_chunks}
use Rattle.std.specs.List.{AllByRecursion}
use Rattle.std.specs.Str.{bytes_eq}
use Rattle.store.specs.Runs.{Pair}
use Rattle.pack.specs.Sector.{sector, unused_sector, more_follows, last}

abbrev pub sectors_in : List ℕ → List (List ℕ)
sectors_in memory = first_chunks 512 (length memory / 512) memory

abbrev pub sector_cost : ℕ → ℕ
sector_cost len = cond (len == 0) 1 ((len + 467) / 468)

abbrev pub full_parts : ℕ → ℕ
full_parts len = sector_cost len - 1

-- of a block under a name, from this part number on, so many full ones
abbrev pub parts : List ℕ → ℕ → ℕ → List ℕ → List (List ℕ)
parts name part zero block = sector last part name block ∷ []
parts name part (suc full) block = sector more_follows part name (take 468 block) ∷ parts name (part + 1) full (drop 468 block)

abbrev pub block_sectors : List ℕ → List ℕ → List (List ℕ)
block_sectors name block = parts name 0 (full_parts (length block)) block

abbrev pub blocks : List Pair → List (List ℕ)
blocks [] = []
blocks (p ∷ ps) = block_sectors p.name p.block ++ blocks ps

abbrev pub pack_sectors : List Pair → ℕ → List (List ℕ)
pack_sectors pairs unused = blocks pairs ++ replicate unused unused_sector

abbrev pub named : List Pair → List ℕ → Bool
named [] name = false
named (p ∷ ps) name = bytes_eq p.name name || named ps name

pub record Fits (p : Pair) : Type 0 where
  -- a name is 32 bytes
  pub name_length : length p.name ≡ 32
  -- a block keeps the limit
  pub block_length : length p.block ≤ 10752

-- no name is there twice
abbrev pub Apart : List Pair → Type 0
Apart [] = Unit {0}
Apart (p ∷ ps) = (named ps p.name ≡ false) × Apart ps

pub record Sound (pairs : List Pair) : Type 0 where
  pub fit : AllByRecursion Fits pairs
  pub apart : Apart pairs

pub record Good (sectors : List (List ℕ)) : Type 0 where
  pub pairs : List Pair
  pub unused : ℕ
  pub sound : Sound pairs
  pub is : sectors ≡ pack_sectors pairs unused
  -- every number is a byte
  pub bytes : AllByRecursion (AllByRecursion (λ b. b < 256)) sectors
