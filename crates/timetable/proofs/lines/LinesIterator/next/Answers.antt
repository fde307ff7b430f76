-- Each call takes the first line off.
use Rattle.std.proofs.Common.{◌≡◌, [], ap, false-eqb, true-eqb, rules, arith}
use Rattle.std.proofs.lemmas.List.{nil_from_length}
use Rattle.timetable.specs.Lines.{lines}
use Rattle.timetable.proofs.Cuts.{lines_split}
use Rattle.timetable.proofs.lines.LinesIterator.next.Goals as goal

pub returns-then-is_empty-clause-steps : goal.returns-then-is_empty-clause-steps
unfolding lines
returns-then-is_empty-clause-steps c =
    let none : lines c.args.self.now.rest.now ≡ [] = ap lines (nil_from_length c.args.self.now.rest.now (true-eqb _ 0 c.if-is_empty.ensures)) in
    (none, none)

pub returns-clause-steps : goal.returns-clause-steps
returns-clause-steps c = lines_split _ _ _ c.split_line.ensures (omega (arith, false-eqb _ 0 c.if-is_empty.ensures))

pub returns-clause-goes : goal.returns-clause-goes
returns-clause-goes c =
    let cut = lines_split _ _ _ c.split_line.ensures (omega (arith, false-eqb _ 0 c.if-is_empty.ensures)) in
    search (rules, cut)
