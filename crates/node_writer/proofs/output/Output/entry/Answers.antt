-- The eight parts of an entry, one after the other.
use Rattle.node.specs.Values.{entry_of}
use Rattle.node_writer.proofs.Puts.{then_writes, writes_as}
use Rattle.node_writer.proofs.Writes.{entry_is}
use Rattle.node_writer.proofs.output.Output.entry.Goals as goal

pub returns-clause-writes : goal.returns-clause-writes
returns-clause-writes g c =
    let key = c.as_slice-key.result.now in
    let shared = c.shared_len-shared.result in
    writes_as (entry_is g.K.DigestKind.kind.code c.args.before.now key (entry_of c.args.entry.now) shared c.as_slice-key.ensures.value c.shared_len-shared.ensures.value)
    (then_writes c.bytes.ensures
    (then_writes c.string.ensures.writes
    (then_writes c.bytes-2.ensures
    (then_writes c.head.ensures.writes
    (then_writes c.bytes-3.ensures
    (then_writes c.link_or_null.ensures.writes
    (then_writes c.bytes-4.ensures c.link.ensures.writes)))))))
