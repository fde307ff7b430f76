-- A block where it stands.
--
--   part_bytes    the bytes of a block that a sector has
--   block_from    the block whose first part is the first of these sectors
--   Stands        the block under a name, and the sectors from its first on
--
-- Assumes nothing.
use Rattle.std.specs.Prelude.{◌≡◌, ℕ, ◌<◌, ◌≤◌, min, cond, List, [], ◌∷◌, ◌++◌, length, Some, Option, ◌==◌, slice_index}
use Rattle.pack.specs.Sector.{count_of, more_follows, payload_of}

unfoldable pub part_bytes : List ℕ → List ℕ
part_bytes s = payload_of (min (count_of s) 468) s

-- up to the first sector after which no more follows
abbrev pub block_from : List (List ℕ) → List ℕ
block_from [] = []
block_from (s ∷ ss) = part_bytes s ++ cond (slice_index s 0 == more_follows) (block_from ss) []

pub record Stands (held : Option (List ℕ)) (ss : List (List ℕ)) : Type 0 where
  pub some : 0 < length ss
  pub is : held ≡ Some (block_from ss)
  pub short : length (block_from ss) ≤ 10752
