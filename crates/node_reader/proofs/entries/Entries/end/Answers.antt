-- From the start to the cursor there are the entries that were read.
use Rattle.std.proofs.Common.{rules, arith}
use Rattle.node_reader.proofs.Passages.{taken_none, taken_more, taken_ends, taken_all}
use Rattle.node_reader.proofs.entries.Entries.end.Goals as goal

pub loop-init : goal.loop-init
loop-init c = taken_none c.args.self

pub returns-in_err-next : goal.returns-in_err-next
returns-in_err-next c =
    let none = taken_ends c.args.self c.loop.self c.loop.counter c.loop.invariant (omega (arith, c.loop-test.true)) c.next.new.self c.in_err-next.ensures.steps in
    search rules

pub loop-preserved : goal.loop-preserved
loop-preserved c = taken_more c.args.self c.loop.self c.loop.counter c.loop.invariant c.in_ok-next.field-0 c.next.new.self c.in_ok-next.ensures.steps

pub returns : goal.returns
returns c = taken_all c.args.self c.loop.self c.loop.counter c.loop.invariant (omega (arith, c.loop-test.false))
