use Rattle.std.proofs.Common.{arith, rules}
use Rattle.std.proofs.lemmas.List.{length-set}
use Rattle.digest.proofs.Columns.{summed_none, summed_more, summed_all}
use Rattle.digest.proofs.fold.FoldDigestKind.digest.Goals as goal

pub loop-position-init : goal.loop-position-init
loop-position-init c = (search rules, summed_none c.args.message.now)

pub loop-position-preserved : goal.loop-position-preserved
loop-position-preserved c =
    let turn = c.loop-position in
    (simp length-set (omega arith), summed_more c.args.message.now turn.sums turn.position (search rules) turn.invariant.0 turn.invariant.1)

pub returns : goal.returns
returns c =
    let turn = c.loop-position in
    summed_all c.args.message.now turn.sums turn.position c.loop-position-test.false turn.invariant.0 turn.invariant.1
