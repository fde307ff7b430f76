-- What the walks over sectors answer.
--
--   has_name   whether a sector has a name where a part has its name
--   is_used    whether a sector is not unused
--   scanned    a reading as the scan answers it: how many sectors the blocks take, or the first bad sector
--
-- Assumes nothing.
use Rattle.std.specs.Prelude.{ℕ, Bool, not, List, length, Ok, Err, Result}
use Rattle.std.specs.Str.{bytes_eq}
use Rattle.pack.specs.Sector.{name_of, unused_sector}
use Rattle.pack.specs.Pack.{blocks}
use Rattle.pack.specs.Reader.{Reading, good, bad}
use Rattle.pack.specs.declared.fault.MemoryFault.{MemoryFault}
use Rattle.pack.specs.declared.fault.MemoryFault.TheVariants.{BadSector}

abbrev pub has_name : List ℕ → List ℕ → Bool
has_name name s = bytes_eq (name_of s) name

abbrev pub is_used : List ℕ → Bool
is_used s = not (bytes_eq s unused_sector)

abbrev pub scanned : Reading → Result ℕ MemoryFault
scanned (good pairs unused) = Ok (length (blocks pairs))
scanned (bad s) = Err (BadSector s)
