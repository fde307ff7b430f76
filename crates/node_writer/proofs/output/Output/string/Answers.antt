-- The length, and then the bytes.
use Rattle.node_writer.proofs.Puts.{then_writes}
use Rattle.node_writer.proofs.output.Output.string.Goals as goal

pub returns-clause-writes : goal.returns-clause-writes
returns-clause-writes c = then_writes c.head.ensures.writes c.bytes.ensures
