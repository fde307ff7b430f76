-- The entries of the turns so far have been written, and nothing behind them.
use Rattle.node_writer.specs.Put.{Kept}
use Rattle.node_writer.proofs.Turns.{Turns}
use Rattle.node_writer.proofs.whole.write_node.Given as goal

abbrev pub invariant-loop-entry : goal.invariant-loop-entry
invariant-loop-entry g l =
    Turns g.K.DigestKind.kind.code l.entries l.entry-index l.writer l.out × Kept l.initial.out l.out l.initial.writer.at l.writer.at
