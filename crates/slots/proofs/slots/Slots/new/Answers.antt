-- A store whose slots are all unused holds nothing.
use Rattle.std.proofs.Common.{ap}
use Rattle.store.specs.Meaning.{Meaning}
use Rattle.slots.proofs.slots.Slots.new.Goals as goal

pub returns : goal.returns
returns c =
    let empty = c.empty_all.ensures.after in
    record { after = empty; unused = λ name. ap (λ (m : Meaning). m.held name) empty; rest = c.empty_all.ensures.rest }
