-- What becomes of bytes that are put as a block, before their cost is looked at.
--
--   Keeps    bytes as a block, unless they are too many
--   Admits   a block that is to be added, or is held already, or is refused
--
-- Assumes nothing.
use Rattle.std.specs.Prelude.{◌≡◌, ℕ, ◌<◌, ◌≤◌, List, length, Some, None, Ok, Err, Option, Result}
use Rattle.std.specs.Borrow.{Bor}
use Rattle.store.specs.Meaning.{block_limit}
use Rattle.store.specs.declared.block.Block.{Block}
use Rattle.store.specs.declared.compared.Compared.{Compared}
use Rattle.store.specs.declared.compared.Compared.TheVariants.{Absent, Same, Other}
use Rattle.store.specs.declared.fault.Fault.{Fault}
use Rattle.store.specs.declared.fault.Fault.TheVariants.{BlockTooLong, BufferTooShort, Conflict, NoRoom}

-- a block has the very bytes
abbrev pub Keeps : Bor (List ℕ) → Result Block Fault → Type 0
Keeps bytes (Ok block) = block.bytes ≡ bytes
Keeps bytes (Err fault) = (block_limit < length bytes.now) × (fault ≡ BlockTooLong)

-- of the bytes, of what is held under the name beside them, and of a result
abbrev pub Admits : List ℕ → Compared → Result (Option Block) Fault → Type 0
Admits bytes held (Ok (Some block)) = (held ≡ Absent) × (block.bytes.now ≡ bytes)
Admits bytes held (Ok None) = (length bytes ≤ block_limit) × (held ≡ Same)
Admits bytes held (Err BlockTooLong) = block_limit < length bytes
Admits bytes held (Err BufferTooShort) = ⊥
Admits bytes held (Err Conflict) = (length bytes ≤ block_limit) × (held ≡ Other)
Admits bytes held (Err NoRoom) = ⊥
