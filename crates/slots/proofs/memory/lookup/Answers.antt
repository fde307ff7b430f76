-- The block of the first slot that holds the name.
use Rattle.std.proofs.Common.{◌≡◌, Some, None, rules, tests}
use Rattle.std.proofs.lemmas.Iterator.{YieldsList-from_slice}
use Rattle.std.proofs.lemmas.Iterator.Search.{find_from_yields_List}
use Rattle.slots.specs.Memory.{holds, held_in, slots_in}
use Rattle.slots.proofs.Walks.{looked_up, not_found}
use Rattle.slots.proofs.memory.lookup.Goals as goal

pub returns-in_err-find : goal.returns-in_err-find
returns-in_err-find c =
    let slots = c.as_chunks.result.0.now in
    let name = c.args.name.now.bytes in
    let none : held_in (slots_in c.args.memory.now) name ≡ None = not_found slots _ name c.as_chunks.ensures.front
    (find_from_yields_List (λ s. holds s name) _ _ None c.in_err-find.ensures.ran (YieldsList-from_slice slots cc) (λ x b q k. search (rules, tests))) in
    search rules

pub returns : goal.returns
returns c =
    let slots = c.as_chunks.result.0.now in
    let name = c.args.name.now.bytes in
    looked_up slots _ name c.in_ok-find.field-0.now c.block_in.result c.as_chunks.ensures.front
    (find_from_yields_List (λ s. holds s name) c.find.new.self _ (Some c.in_ok-find.field-0) c.in_ok-find.ensures.ran (YieldsList-from_slice slots cc) (λ x b q k. search (rules, tests)))
    c.block_in.ensures
