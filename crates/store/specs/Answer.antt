-- What a call answers, as the outside sees it.
--
--   Answer    a value, or the number of a refusal
--   number    the number of each fault
--   told      the result of a call as an answer
--   Within    a length that was found is that of a block, and the buffer had room for every block
--
-- Assumes nothing.
use Rattle.std.specs.Prelude.{ℕ, ◌≤◌, Some, None, Ok, Err, Option, Result}
use Rattle.store.specs.Meaning.{block_limit}
use Rattle.store.specs.declared.fault.Fault.{Fault}
use Rattle.store.specs.declared.fault.Fault.TheVariants.{BlockTooLong, BufferTooShort, Conflict, NoRoom}

pub data Answer (X : Type 0) : Type 0 where
  -- the call was carried out
  done : X → Answer X
  -- the call was refused, under this number
  refused : ℕ → Answer X

-- each number once, so that an answer tells the fault
abbrev pub number : Fault → ℕ
number BlockTooLong = 2
number BufferTooShort = 3
number Conflict = 10
number NoRoom = 11

-- faults by their numbers
abbrev pub told : {X : Type 0} → Result X Fault → Answer X
told (Ok x) = done x
told (Err fault) = refused (number fault)

-- of a result, and of how many bytes the buffer has
abbrev pub Within : Result (Option ℕ) Fault → ℕ → Type 0
Within (Ok (Some len)) room = (len ≤ block_limit) × (block_limit ≤ room)
Within (Ok None) room = block_limit ≤ room
Within (Err fault) room = Unit {0}
