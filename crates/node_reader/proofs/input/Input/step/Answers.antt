-- One entry on, or none stands there, or its key does not go on from the one before it.
use Rattle.std.proofs.Common.{rules}
use Rattle.node_reader.specs.Nodes.{Ends}
use Rattle.node_reader.proofs.Rests.{no_entry, not_extended, steps}
use Rattle.node_reader.proofs.input.Input.step.Goals as goal

pub returns-in_err-parts : goal.returns-in_err-parts
returns-in_err-parts c =
    let none : Ends c.args.self.code c.args.self.block.now c.args.cursor = no_entry _ _ c.args.cursor c.in_err-parts.ensures in
    search rules

pub returns-in_err-key : goal.returns-in_err-key
returns-in_err-key c =
    let e = c.in_ok-parts.ensures in
    let none : Ends c.args.self.code c.args.self.block.now c.args.cursor = not_extended _ _ c.args.cursor _ _ _ _ _ e.long e.digest e.stands c.in_err-key.ensures in
    search rules

pub returns : goal.returns
returns c =
    let e = c.in_ok-parts.ensures in
    let k = c.in_ok-key.ensures in
    steps _ _ c.args.cursor _ _ _ _ _ e.long e.digest e.stands c.in_ok-left.left (search rules) _ c.in_ok-key.key k.0 k.1 (rw c.link_of.ensures)
