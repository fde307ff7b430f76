use Rattle.std.proofs.Common.{◌≡◌, length, sym, ap, ◌∙◌, inl, rules, arith}
use Rattle.std.specs.Iterator.Adapters.{enumerate_source, enumerate_count}
use Rattle.std.proofs.lemmas.Result.{IfOk-weaker, IfOk-from_err}
use Rattle.timetable.specs.Lines.{lines}
use Rattle.timetable.proofs.Cuts.{length-lines-le, lines_of}
use Rattle.timetable.proofs.Sessions.{answered_none, answered_more, answered_all, transcript_long}
use Rattle.timetable.proofs.session.answers.Goals as goal

pub returns-then-input-gt-LIMIT : goal.returns-then-input-gt-LIMIT
returns-then-input-gt-LIMIT g c = record {
  transcript = IfOk-weaker c.from_str.result _ _ (λ v made. made ∙ sym (transcript_long g.K.DigestKind.kind _ c.if-input-gt-LIMIT.true)) c.from_str.ensures.ok;
  lines = lines_of _;
}

pub returns-in_err-write_answer : goal.returns-in_err-write_answer
returns-in_err-write_answer g c = record {
  transcript = IfOk-from_err c.from_residual.result _ c.from_residual.ensures.0;
  lines = lines_of _;
}

pub loop-i-init : goal.loop-i-init
loop-i-init g c =
    let it = c.into_iter-i-iterator.result in
    let start : enumerate_count it ≡ 0 = search rules in
    let left : lines (enumerate_source it).rest.now ≡ lines c.args.input.now = search rules in
    let few = length-lines-le c.args.input.now in
    ((tt, tt, inl (omega (arith, ap length left))), tt, answered_none _ _ _ _ _ c.new-out.ensures.bytes start left)

pub loop-i-preserved : goal.loop-i-preserved
loop-i-preserved g c =
    let so_far = c.loop-i.invariant.2 in
    let step = c.in-Some.ensures.steps in
    let more = answered_more _ _ _ _ _ _ _ _ so_far step.0 (rw step.1 at c.in_ok-write_answer.ensures) in
    let now = rw (← step.2) at more in
    ((tt, tt, inl (omega (arith, now.few))), tt, now)

pub returns : goal.returns
returns g c = record {
  transcript = answered_all _ _ _ _ _ c.loop-i.invariant.2 c.in-None.ensures.steps.0.0 c.if-input-gt-LIMIT.false;
  lines = lines_of _;
}
