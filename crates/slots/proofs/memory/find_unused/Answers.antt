-- The first slot that is not used, or all are.
use Rattle.std.proofs.Common.{◌≡◌, true, false, rules, tests}
use Rattle.std.proofs.lemmas.Iterator.{IsFirst-from_position, YieldsList-from_slice}
use Rattle.slots.specs.Memory.{slots_in}
use Rattle.slots.specs.Slot.{is_used}
use Rattle.slots.proofs.Cuts.{slot_count}
use Rattle.slots.proofs.Walks.{first_unused}
use Rattle.slots.proofs.memory.find_unused.Goals as goal

pub returns : goal.returns
returns c =
    let slots = c.as_chunks.result.0.now in
    first_unused slots (slots_in c.args.memory.now) _ c.position.result c.as_chunks.ensures.front (slot_count c.args.memory.now)
    (IsFirst-from_position _ _ _ (λ s. is_used s ≡ false) (λ s. is_used s ≡ true) c.position.ensures.ran (YieldsList-from_slice slots cc) (λ x q k. search (rules, tests)) (λ x q k. search (rules, tests)))
