-- What stands in the buffer up to the end of the node is its encoding.
use Rattle.std.proofs.Common.{◌++◌, map, length, drop, ◌∙◌, arith}
use Rattle.std.proofs.lemmas.List.{take-take, take-append-le}
use Rattle.node.specs.Values.{entry_of, link_of}
use Rattle.node_writer.specs.Answer.{Ended}
use Rattle.damaged_nodes.proofs.nodes.block_of.Goals as goal

pub returns : goal.returns
returns g c =
    let ended : Ended _ c.write_node.new.out g.K.DigestKind.kind.code (record { first = link_of c.args.first; entries = map entry_of c.args.entries.now }) c.in_ok-len.len = rw c.in_ok-len.ensures at c.write_node.ensures in
    c.truncate.ensures.items
    ∙ take-take c.in_ok-len.len c.in_ok-block.block.len
    (c.write_node.new.out ++ drop (length c.write_node.new.out) c.in_ok-block.block.items)
    (omega (arith, ended.bound, c.in_ok-block.ensures.len))
    ∙ take-append-le c.in_ok-len.len c.write_node.new.out
    (drop (length c.write_node.new.out) c.in_ok-block.block.items)
    (omega (arith, ended.bound, ended.kept.size, c.deref_mut.ensures.len, c.in_ok-block.ensures.len))
    ∙ ended.bytes
