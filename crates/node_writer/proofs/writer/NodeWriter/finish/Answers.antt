-- The closing of a node.
use Rattle.std.proofs.Common.{rules}
use Rattle.node.specs.Format.{link_or_null}
use Rattle.node.specs.Values.{link_of}
use Rattle.node_writer.proofs.Puts.{then, puts_into, puts_kept}
use Rattle.node_writer.proofs.Writes.{written_all}
use Rattle.node_writer.proofs.writer.NodeWriter.finish.Goals as goal

pub returns-clause-puts : goal.returns-clause-puts
returns-clause-puts g c =
    puts_into {t = c.link_or_null.new.self.buffer.now} (search rules)
    (then {q = link_or_null g.K.DigestKind.kind.code (link_of c.args.first)} c.bytes.ensures.puts c.link_or_null.ensures.writes.puts)

pub returns-clause-kept : goal.returns-clause-kept
returns-clause-kept g c = puts_kept (returns-clause-puts g c)

pub returns-clause-written : goal.returns-clause-written
returns-clause-written g c =
    written_all g.K.DigestKind.kind.code (link_of c.args.first) c.args.self c.args.out.now _ _ (returns-clause-puts g c) c.requires.none
