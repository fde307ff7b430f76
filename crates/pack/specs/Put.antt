-- The sectors that a put leaves.
--
--   sectors_left    the sectors after a put, by what it came to
--   put_sectors     the sectors after a put
--   Kept            where a put adds no pair, every byte of memory stays
--
-- Assumes nothing.
use Rattle.std.specs.Prelude.{◌≡◌, ℕ, ◌+◌, List, ◌++◌, length, take, drop}
use Rattle.store.specs.Calls.{Outcome, too_long, held_already, conflict, no_room, added, outcome}
use Rattle.pack.specs.Memory.{pack_meaning, used_in}
use Rattle.pack.specs.Pack.{block_sectors, sector_cost, sectors_in}

-- a pair that is added takes the first unused sectors, and every other sector stays
abbrev pub sectors_left : Outcome → List ℕ → List ℕ → List ℕ → List (List ℕ)
sectors_left too_long memory name block = sectors_in memory
sectors_left held_already memory name block = sectors_in memory
sectors_left conflict memory name block = sectors_in memory
sectors_left no_room memory name block = sectors_in memory
sectors_left added memory name block =
    take (used_in memory) (sectors_in memory)
    ++ (block_sectors name block ++ drop (used_in memory + sector_cost (length block)) (sectors_in memory))

abbrev pub put_sectors : List ℕ → List ℕ → List ℕ → List (List ℕ)
put_sectors memory name block = sectors_left (outcome (pack_meaning memory) name block) memory name block

-- from this memory to that
abbrev pub Kept : Outcome → List ℕ → List ℕ → Type 0
Kept too_long memory after = after ≡ memory
Kept held_already memory after = after ≡ memory
Kept conflict memory after = after ≡ memory
Kept no_room memory after = after ≡ memory
Kept added memory after = Unit {0}
