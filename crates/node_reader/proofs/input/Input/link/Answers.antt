-- The 32 bytes behind the link's front, if it stands there.
use Rattle.std.proofs.Common.{◌++◌, subst, rules}
use Rattle.node_reader.specs.Items.{NoLink}
use Rattle.node_reader.specs.Stands.{Absent, Stands}
use Rattle.node_reader.proofs.Walks.{link_stands}
use Rattle.node_reader.proofs.input.Input.link.Goals as goal

pub returns-in_err-start : goal.returns-in_err-start
returns-in_err-start c =
    let absent = subst (Absent c.args.self.block.now c.args.at) c.link_prefix.ensures c.in_err-start.ensures in
    let none : NoLink c.args.self.block.now c.args.at c.args.self.code = λ d long r e. absent (d ++ r) e in
    search rules

pub returns : goal.returns
returns c =
    let chunk = c.in_ok-digest.ensures.cases in
    let front = subst (λ p. Stands c.args.self.block.now c.args.at p c.in_ok-start.start) c.link_prefix.ensures c.in_ok-start.ensures in
    link_stands _ _ _ _ front _ chunk.enough chunk.same
