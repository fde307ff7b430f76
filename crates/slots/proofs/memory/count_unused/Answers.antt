-- Each unused slot adds one, and the sum is at most the number of slots.
use Rattle.std.proofs.Common.{◌<◌, ◌^◌, cond, ap, ◌∙◌, rules, arith, tests}
use Rattle.std.specs.List.{sum_by}
use Rattle.std.proofs.lemmas.Iterator.{YieldsList-from_slice, YieldsList-from_map}
use Rattle.std.proofs.lemmas.Iterator.Consumers.{sum_by_from_yields_List, fits_by_from_yields_list}
use Rattle.slots.specs.Memory.{unused}
use Rattle.slots.specs.Slot.{is_used}
use Rattle.slots.proofs.Walks.{unused-sum, unused_le}
use Rattle.slots.proofs.memory.count_unused.Goals as goal

pub sum-requires-clause-fits : goal.sum-requires-clause-fits
sum-requires-clause-fits c =
    let slots = c.as_chunks.result.0.now in
    let small : sum_by (λ s. cond (is_used s) 0 1) slots < 2 ^ 64 = omega (arith, unused-sum slots, unused_le slots) in
    fits_by_from_yields_list _ _ c.map.result _
    (YieldsList-from_map _ (λ s. cond (is_used s) 0 1) (YieldsList-from_slice slots cc) c.map.ensures.closure (λ x r q k. search (rules, tests)))
    small

pub returns : goal.returns
returns c =
    let slots = c.as_chunks.result.0.now in
    sum_by_from_yields_List _ _ c.map.result _ c.sum.ensures.ran
    (YieldsList-from_map _ (λ s. cond (is_used s) 0 1) (YieldsList-from_slice slots cc) c.map.ensures.closure (λ x r q k. search (rules, tests)))
    ∙ unused-sum slots
    ∙ ap unused c.as_chunks.ensures.front
