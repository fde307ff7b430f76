-- An unused slot takes the pair.
use Rattle.std.proofs.Common.{◌≡◌, ◌/◌, ◌<◌, false, [], length, get_or, sym, ap, ◌∙◌, arith}
use Rattle.store.specs.Calls.{added, answer_of, left_by, outcome}
use Rattle.store.proofs.Outcomes.{outcome_added}
use Rattle.slots.specs.Memory.{slots_in, slots_meaning}
use Rattle.slots.specs.Slot.{is_used}
use Rattle.slots.proofs.Adds.{pair_added, some_unused}
use Rattle.slots.proofs.Cuts.{slot_count}
use Rattle.slots.proofs.memory.add_pair.Goals as goal
use Rattle.slots.proofs.memory.add_pair.Goals.{In_ok-place}

place : (c : In_ok-place) → (c.in_ok-place.place < length c.args.memory.now / 10788) × (is_used (get_or (slots_in c.args.memory.now) c.in_ok-place.place []) ≡ false)
place c = rw c.in_ok-place.ensures.ok_part at c.find_unused.ensures

is_added : (c : In_ok-place) → outcome (slots_meaning c.args.memory.now) c.args.name.now.bytes c.args.block.bytes.now ≡ added
is_added c =
    let memory = c.args.memory.now in
    let inside : c.in_ok-place.place < length (slots_in memory) = omega (arith, slot_count memory, (place c).0) in
    outcome_added (slots_meaning memory) c.args.name.now.bytes c.args.block.bytes.now c.args.block.short c.requires (some_unused (slots_in memory) c.in_ok-place.place inside (place c).1)

pub returns-clause-answer : goal.returns-clause-answer
returns-clause-answer c = sym (ap answer_of (is_added (goal.at.returns-clause-answer c).In_ok-place))

pub returns-clause-after : goal.returns-clause-after
returns-clause-after c =
    let m = slots_meaning c.args.memory.now in
    let name = c.args.name.now.bytes in
    let block = c.args.block.bytes.now in
    let at = place (goal.at.returns-clause-after c).In_ok-place in
    pair_added c.args.memory.now c.fill_place.new.memory c.in_ok-place.place name block at.0 at.1 c.requires c.fill_place.ensures.name_size c.args.block.short c.fill_place.ensures.after
    ∙ sym (ap (λ k. left_by k m name block) (is_added (goal.at.returns-clause-after c).In_ok-place))
