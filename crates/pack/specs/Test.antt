-- What the test of memory answers.
--
--   Verdict          memory is accepted, or refused by a number, or refused by a number at a sector
--   memory_told      the result of the test as a verdict: each fault has its number, and a bad sector is named
--   verdict          which verdict memory gets, by reading it
--   Judged           what a verdict says of memory
--
-- Assumes nothing.
use Rattle.std.specs.Prelude.{◌≡◌, ℕ, cond, List, Ok, Err, Result}
use Rattle.pack.specs.FirstBad.{FirstBad}
use Rattle.pack.specs.Memory.{Sectored, sectored}
use Rattle.pack.specs.Pack.{Good, sectors_in}
use Rattle.pack.specs.Reader.{Reading, good, bad, read_sectors}
use Rattle.pack.specs.Scan.{scanned}
use Rattle.pack.specs.declared.fault.MemoryFault.{MemoryFault}
use Rattle.pack.specs.declared.fault.MemoryFault.TheVariants.{NoSectors, BadSector}

pub data Verdict : Type 0 where
  -- a good pack
  accepted : Verdict
  -- refused, under this number
  refused : ℕ → Verdict
  -- refused, under this number, because of this sector
  refused_at : ℕ → ℕ → Verdict

abbrev pub fault_told : MemoryFault → Verdict
fault_told NoSectors = refused 14
fault_told (BadSector s) = refused_at 15 s

abbrev pub memory_told : Result (Unit {0}) MemoryFault → Verdict
memory_told (Ok x) = accepted
memory_told (Err fault) = fault_told fault

abbrev pub verdict_number : Verdict → ℕ
verdict_number accepted = 0
verdict_number (refused n) = n
verdict_number (refused_at n s) = n

abbrev pub read_verdict : Reading → Verdict
read_verdict (good pairs unused) = accepted
read_verdict (bad s) = refused_at 15 s

abbrev pub verdict : List ℕ → Verdict
verdict memory = cond (sectored memory) (read_verdict (read_sectors (sectors_in memory))) (refused 14)

-- it is a good pack; it is empty or has no whole number of sectors; it has whole sectors, and this is the first bad one
abbrev pub Judged : List ℕ → Verdict → Type 0
Judged memory accepted = Sectored memory × Good (sectors_in memory)
Judged memory (refused n) = (n ≡ 14) × (Sectored memory → ⊥)
Judged memory (refused_at n s) = (n ≡ 15) × (Sectored memory × FirstBad (sectors_in memory) s)

-- the sectors that the blocks of a good pack take, or what is wrong
abbrev pub tested : List ℕ → Result ℕ MemoryFault
tested memory = cond (sectored memory) (scanned (read_sectors (sectors_in memory))) (Err NoSectors)
