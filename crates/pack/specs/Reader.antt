-- Reading a pack, sector by sector.
--
--   State          the pairs that were read, and what the next sector has to be
--   goes_on        whether a sector is a full part of this number, and another part can follow
--   fewest         the least count of the last part, of this number
--   ends           whether a sector is the last part, of this number
--   part_step      the next state, from a part
--   step           the next state, none where the sector cannot stand there
--   Reading        a pack that was read, or its first sector that cannot stand where it stands
--   read_from      what is read from a state on
--   read_sectors   what is read from the start
--
-- Assumes nothing.
use Rattle.std.specs.Prelude.{ℕ, ◌+◌, ◌*◌, Bool, cond, ◌&&◌, List, [], ◌∷◌, ◌++◌, length, Some, None, Option, ◌==◌, nat_le, nat_lt}
use Rattle.std.specs.Str.{bytes_eq}
use Rattle.store.specs.Runs.{Pair}
use Rattle.pack.specs.Sector.{sector, unused_sector, more_follows, last, name_of, count_of, payload_of}
use Rattle.pack.specs.Pack.{named}

pub data State : Type 0 where
  -- a block begins, or the unused sectors
  between : List Pair → State
  -- the part of this number comes next, of a block of this name that has these bytes so far
  inside : List Pair → List ℕ → ℕ → List ℕ → State
  -- only unused sectors come, of which there were so many
  ended : List Pair → ℕ → State

-- so many sectors are left after this one; at least one byte has to follow
unfoldable pub goes_on : ℕ → ℕ → List ℕ → Bool
goes_on left part s = nat_lt ((part + 1) * 468) 10752 && (nat_lt 0 left && bytes_eq s (sector more_follows part (name_of s) (payload_of 468 s)))

-- only the empty block has no byte in its last part
abbrev pub fewest : ℕ → ℕ
fewest part = cond (part == 0) 0 1

unfoldable pub ends : ℕ → List ℕ → Bool
ends part s = nat_le (count_of s) 468 && (nat_le (part * 468 + count_of s) 10752 && (nat_le (fewest part) (count_of s) && bytes_eq s (sector last part (name_of s) (payload_of (count_of s) s))))

abbrev pub part_step : ℕ → List Pair → List ℕ → ℕ → List ℕ → List ℕ → Option State
part_step left pairs name part bytes s =
    cond
    (bytes_eq (name_of s) name)
    (cond
    (goes_on left part s)
    (Some (inside pairs name (part + 1) (bytes ++ payload_of 468 s)))
    (cond
    (ends part s)
    (Some (between (pairs ++ (record { name = name; block = bytes ++ payload_of (count_of s) s } ∷ []))))
    None))
    None

abbrev pub step : ℕ → State → List ℕ → Option State
step left (between pairs) s =
    cond
    (bytes_eq s unused_sector)
    (Some (ended pairs 1))
    (cond (named pairs (name_of s)) None (part_step left pairs (name_of s) 0 [] s))
step left (inside pairs name part bytes) s = part_step left pairs name part bytes s
step left (ended pairs n) s = cond (bytes_eq s unused_sector) (Some (ended pairs (n + 1))) None

pub data Reading : Type 0 where
  -- these pairs, and so many unused sectors
  good : List Pair → ℕ → Reading
  -- this sector is the first that cannot stand there
  bad : ℕ → Reading

-- at the end of the sectors
abbrev pub read_end : State → ℕ → Reading
read_end (between pairs) at = good pairs 0
read_end (inside pairs name part bytes) at = bad at
read_end (ended pairs n) at = good pairs n

abbrev pub read_next : Option State → (State → Reading) → ℕ → Reading
read_next None rest at = bad at
read_next (Some state) rest at = rest state

-- where so many sectors were read
abbrev pub read_from : State → ℕ → List (List ℕ) → Reading
read_from state at [] = read_end state at
read_from state at (s ∷ ss) = read_next (step (length ss) state s) (λ after. read_from after (at + 1) ss) at

abbrev pub read_sectors : List (List ℕ) → Reading
read_sectors ss = read_from (between []) 0 ss
