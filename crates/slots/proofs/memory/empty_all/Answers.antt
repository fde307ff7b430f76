-- One slot after the other is unused.
use Rattle.std.proofs.Common.{◌/◌, ◌<◌, length, sym, ap, ◌∙◌, arith}
use Rattle.slots.specs.Slot.{emptied}
use Rattle.slots.proofs.Cuts.{left_over_kept, slot_changed}
use Rattle.slots.proofs.Empties.{emptied_more, emptied_all}
use Rattle.slots.proofs.memory.empty_all.Goals as goal

pub loop-place-preserved : goal.loop-place-preserved
loop-place-preserved c =
    let memory = c.loop-place.memory in
    let place = c.loop-place.place in
    let within : place < length memory / 10788 = omega (arith, c.loop-place-test.true, ap (λ n. n / 10788) c.loop-place.auto.memory) in (
      emptied_more memory _ place within (slot_changed emptied memory c.empty.new.slot place within c.empty.auto.slot c.empty.ensures) c.loop-place.invariant.0,
      left_over_kept memory c.empty.new.slot place within c.empty.auto.slot ∙ c.loop-place.invariant.1,
    )

pub returns : goal.returns
returns c =
    let memory = c.loop-place.memory in
    let n = length c.args.memory.now / 10788 in
    record {
      after = emptied_all memory n (ap (λ s. s / 10788) (sym c.loop-place.auto.memory)) (λ k within. c.loop-place.invariant.0 k (omega arith));
      rest = c.loop-place.invariant.1;
    }
