use Rattle.std.specs.Io.KnownBytes.{Keeps}
use Rattle.timetable.proofs.read_some.Given as goal

-- the reads so far took nothing
abbrev pub invariant-loop : goal.invariant-loop
invariant-loop g l = Keeps (g.R.Read.remaining l.fn.input) (g.R.Read.remaining l.input)
