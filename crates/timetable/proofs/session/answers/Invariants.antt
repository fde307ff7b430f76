use Rattle.std.proofs.Common.{string_bytes}
use Rattle.std.specs.Iterator.Adapters.{enumerate_source, enumerate_count}
use Rattle.timetable.specs.Lines.{lines}
use Rattle.timetable.proofs.Sessions.{Answered}
use Rattle.timetable.proofs.session.answers.Given as goal

abbrev pub invariant-loop-i : goal.invariant-loop-i
invariant-loop-i g l =
    (goal.iterator-loop-i g).can_next l.i-iterator × (goal.iterator-loop-i g).is_finite l.i-iterator
    × Answered g.K.DigestKind.kind l.input (string_bytes l.out) (enumerate_count l.i-iterator) (lines (enumerate_source l.i-iterator).rest.now)
