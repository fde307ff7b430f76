use Rattle.node_reader.proofs.Passages.{Taken}
use Rattle.node_reader.proofs.entries.Entries.end.Given as goal

abbrev pub invariant-loop : goal.invariant-loop
invariant-loop l = Taken l.initial.self l.self l.counter
