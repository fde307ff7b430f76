-- What every link begins with, and then the digest.
use Rattle.std.proofs.Common.{◌++◌, sym, ap, ◌∙◌}
use Rattle.node.specs.Format.{link}
use Rattle.node_writer.proofs.Puts.{then_writes, writes_as}
use Rattle.node_writer.proofs.output.Output.link.Goals as goal

pub returns-clause-writes : goal.returns-clause-writes
returns-clause-writes g c =
    let digest = c.args.to.now.bytes in
    writes_as (ap (λ code. link code digest) (sym (c.CODE.ensures ∙ g.met.K.DigestKind.coded)) ∙ ap (λ prefix. prefix ++ digest) (sym c.link_prefix.ensures))
    (then_writes c.bytes.ensures c.bytes-2.ensures)
