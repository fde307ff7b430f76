-- One entry more.
use Rattle.std.proofs.Common.{sym, refl, ap, arith, rules}
use Rattle.node.specs.Format.{entry}
use Rattle.node.specs.Values.{entry_of}
use Rattle.node_writer.proofs.Puts.{puts_as, puts_into, puts_kept}
use Rattle.node_writer.proofs.Writes.{written_push}
use Rattle.node_writer.proofs.writer.NodeWriter.push.Goals as goal

pub returns-clause-puts : goal.returns-clause-puts
returns-clause-puts g c =
    puts_into {t = c.entry.new.self.buffer.now} (search rules)
    (puts_as (ap (λ before. entry g.K.DigestKind.kind.code before (entry_of c.args.entry.now)) (sym c.previous.ensures)) c.entry.ensures.writes.puts)

pub returns-clause-kept : goal.returns-clause-kept
returns-clause-kept g c = puts_kept (returns-clause-puts g c)

pub returns-clause-written : goal.returns-clause-written
returns-clause-written g c =
    written_push g.K.DigestKind.kind.code (entry_of c.args.entry.now) c.args.self.now _ c.args.out.now _ (returns-clause-puts g c) (omega arith) refl
