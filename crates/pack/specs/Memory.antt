-- What memory means that is lent for a pack.
--
--   Sectored        memory of whole sectors, at least one
--   sectored        whether it is
--   reading         what is read from memory; no pack where it is no memory for one
--   pairs_read      the pairs that were read, none where there is no good pack
--   free_read       the unused sectors, none where there is no good pack
--   used_in         how many sectors the blocks take
--   held_among      the block under a name, among pairs
--   pack_meaning    the store of this memory, in which a block costs the sectors that it takes
--
-- Assumes nothing.
use Rattle.std.specs.Prelude.{◌≡◌, ℕ, ◌%◌, ◌<◌, Bool, cond, ◌&&◌, List, [], ◌∷◌, length, Some, None, Option, ◌==◌, nat_lt}
use Rattle.std.specs.Str.{bytes_eq}
use Rattle.store.specs.Meaning.{Meaning}
use Rattle.store.specs.Runs.{Pair}
use Rattle.pack.specs.Pack.{blocks, sector_cost, sectors_in}
use Rattle.pack.specs.Reader.{Reading, good, bad, read_sectors}

pub record Sectored (memory : List ℕ) : Type 0 where
  pub some : 0 < length memory
  pub whole : length memory % 512 ≡ 0

abbrev pub sectored : List ℕ → Bool
sectored memory = nat_lt 0 (length memory) && length memory % 512 == 0

unfoldable pub reading : List ℕ → Reading
reading memory = cond (sectored memory) (read_sectors (sectors_in memory)) (bad 0)

abbrev pub pairs_read : Reading → List Pair
pairs_read (good pairs unused) = pairs
pairs_read (bad s) = []

abbrev pub free_read : Reading → ℕ
free_read (good pairs unused) = unused
free_read (bad s) = 0

abbrev pub used_in : List ℕ → ℕ
used_in memory = length (blocks (pairs_read (reading memory)))

abbrev pub free_in : List ℕ → ℕ
free_in memory = free_read (reading memory)

-- of the first pair that has it
abbrev pub held_among : List Pair → List ℕ → Option (List ℕ)
held_among [] name = None
held_among (p ∷ ps) name = cond (bytes_eq p.name name) (Some p.block) (held_among ps name)

abbrev pub pack_meaning : List ℕ → Meaning
pack_meaning memory = record {
  held = held_among (pairs_read (reading memory));
  free = free_in memory;
  cost = sector_cost;
}
