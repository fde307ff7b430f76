-- How refused memory is printed.
--
--   memory_fault_text   a refusal, with its number, and the sector where one is named
--
-- Assumes nothing.
use Rattle.std.specs.Prelude.{ℕ, List, [], ◌++◌, codes}
use Rattle.std.specs.Fmt.{decimal}
use Rattle.store.specs.Text.{refusal_text}
use Rattle.pack.specs.Test.{fault_told, verdict_number}
use Rattle.pack.specs.declared.fault.MemoryFault.{MemoryFault}
use Rattle.pack.specs.declared.fault.MemoryFault.TheVariants.{NoSectors, BadSector}

-- the sector in decimal digits
abbrev pub place_text : MemoryFault → List ℕ
place_text NoSectors = []
place_text (BadSector s) = codes " at " ++ decimal s

abbrev pub memory_fault_text : MemoryFault → List ℕ
memory_fault_text fault = refusal_text (verdict_number (fault_told fault)) ++ place_text fault
