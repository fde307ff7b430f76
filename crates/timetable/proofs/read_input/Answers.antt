-- The buffer has what the reader gave, until it is full or the reader is at its end.
use Rattle.std.proofs.Common.{◌≡◌, ◌+◌, ◌-◌, ◌≤◌, length, take, subst, sym, ◌∙◌, arith, rules}
use Rattle.std.specs.Io.KnownBytes.{Consumes}
use borrow.Rule.Slice.PartMut.{same_len_mid}
use Rattle.std.proofs.lemmas.List.{length-take-le}
use Rattle.timetable.specs.Session.{limit}
use Rattle.timetable.proofs.Taken.{consumes_more, ended_at, full, placed}
use Rattle.timetable.proofs.read_input.Goals as goal

pub loop-filled-preserved : goal.loop-filled-preserved
loop-filled-preserved g c =
    let filled = c.loop-filled.filled in
    let buffer = c.loop-filled.buffer in
    let got = c.read_some.new.buffer in
    let count = c.in_ok-count.count in
    let first = g.R.Read.remaining c.args.input.now in
    let before = g.R.Read.remaining c.loop-filled.input in
    let after = g.R.Read.remaining c.read_some.new.input in
    let within : filled ≤ length buffer = omega (arith, c.loop-filled.invariant.0, c.loop-filled.invariant.1) in
    let most : length got ≡ limit + 1 - filled = search rules in
    let short : count ≤ length got = c.in_ok-count.ensures.bound.0 in (
      omega (arith, short, most, c.loop-filled.invariant.0),
      same_len_mid filled (limit + 1 - filled) buffer got c.read_some.auto.buffer ∙ c.loop-filled.invariant.1,
      subst (Consumes first after) (sym (placed filled count (limit + 1 - filled) buffer got within short))
          (consumes_more first before after (take filled buffer) (take count got) c.loop-filled.invariant.2 c.in_ok-count.ensures.bytes.0),
    )

pub returns-after-loop-filled-clause-value : goal.returns-after-loop-filled-clause-value
returns-after-loop-filled-clause-value g c =
    let filled = c.loop-filled.filled in
    let buffer = c.loop-filled.buffer in
    let all : filled ≡ limit + 1 = omega (arith, c.loop-filled-test.false, c.loop-filled.invariant.0) in
    let within : filled ≤ length buffer = omega (arith, c.loop-filled.invariant.1, all) in
    full (limit + 1) (g.R.Read.remaining c.args.input.now) (g.R.Read.remaining c.loop-filled.input) (take filled buffer) (length-take-le filled buffer within ∙ all) c.loop-filled.invariant.2

pub returns-then-count-eq0-clause-value : goal.returns-then-count-eq0-clause-value
returns-then-count-eq0-clause-value g c =
    let filled = c.loop-filled.filled in
    let buffer = c.loop-filled.buffer in
    let got = c.read_some.new.buffer in
    let none = c.if-count-eq0.true in
    let first = g.R.Read.remaining c.args.input.now in
    let before = g.R.Read.remaining c.loop-filled.input in
    let after = g.R.Read.remaining c.read_some.new.input in
    let within : filled ≤ length buffer = omega (arith, c.loop-filled.invariant.0, c.loop-filled.invariant.1) in
    let most : length got ≡ limit + 1 - filled = search rules in
    ended_at (limit + 1) filled (limit + 1 - filled) buffer got first before after within c.loop-filled.invariant.0 c.loop-filled.invariant.2
    (subst (λ n. Consumes before after (take n got)) none c.in_ok-count.ensures.bytes.0)
    (c.in_ok-count.ensures.bytes.1 none (omega (arith, most, c.loop-filled-test.true)))
