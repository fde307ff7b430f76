-- The opening of a node.
use Rattle.std.proofs.Common.{refl, arith, rules}
use Rattle.node_writer.proofs.Puts.{then, puts_kept}
use Rattle.node_writer.proofs.Writes.{begun_into, written_none}
use Rattle.node_writer.proofs.writer.NodeWriter.begin.Goals as goal

pub returns : goal.returns
returns c =
    let puts = then c.bytes.ensures.puts c.head.ensures.writes.puts in
    begun_into {t = c.head.new.self.buffer.now} (search rules) (record {
      roomy = record { room = omega arith; few = omega arith };
      written = λ code. written_none code c.args.count _ _ _ puts refl refl;
      kept = puts_kept puts;
    })
