-- The line ends before the first newline.
use Rattle.std.proofs.Common.{◌≡◌, ◌+◌, rules, tests, arith}
use Rattle.std.proofs.lemmas.Iterator.{IsFirst-from_position, YieldsList-from_slice}
use Rattle.std.proofs.lemmas.List.{take_rest}
use Rattle.timetable.specs.Lines.{newline}
use Rattle.timetable.proofs.Cuts.{splits_at, splits_none}
use Rattle.timetable.proofs.lines.split_line.Goals as goal

pub returns-in-Some : goal.returns-in-Some
returns-in-Some c =
    let first = IsFirst-from_position _ _ _ (λ b. b ≡ newline) (λ b. b ≡ newline → ⊥) c.position.ensures.ran (YieldsList-from_slice c.args.text.now (search rules)) (λ x q k. search (rules, tests)) (λ x q k. search (rules, tests)) in
    let found = rw c.in-Some.is at first in
    rw (take_rest c.args.text.now (c.in-Some.end + 1)) (splits_at c.args.text.now c.in-Some.end found.0 (found.1 0) (λ k h. found.2 k 0 (omega arith) h))

pub returns-in-None : goal.returns-in-None
returns-in-None c =
    let first = IsFirst-from_position _ _ _ (λ b. b ≡ newline) (λ b. b ≡ newline → ⊥) c.position.ensures.ran (YieldsList-from_slice c.args.text.now (search rules)) (λ x q k. search (rules, tests)) (λ x q k. search (rules, tests)) in
    let none = rw c.in-None.is at first in
    splits_none c.args.text.now (λ k h. none k 0 (omega arith) h)
