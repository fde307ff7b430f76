-- A part of the buffer is overwritten.
use Rattle.std.proofs.Common.{refl, rules}
use Rattle.node_writer.proofs.Puts.{put_part, writes}
use Rattle.node_writer.proofs.output.Output.bytes.Goals as goal

pub returns : goal.returns
returns c = writes _ _ _ refl (record { ends = refl; within = c.requires; is = search (rules, put_part) })
