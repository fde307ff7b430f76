-- The slot at its place is written, and no other.
use Rattle.slots.specs.Slot.{filled}
use Rattle.slots.proofs.Cuts.{left_over_kept, slot_changed}
use Rattle.slots.proofs.memory.fill_place.Goals as goal

pub returns : goal.returns
returns c =
    record {
      after = slot_changed (filled c.args.name.now.bytes c.args.block.bytes.now) c.args.memory.now c.fill.new.slot c.args.place c.requires c.fill.auto.slot c.fill.ensures.after;
      rest = left_over_kept c.args.memory.now c.fill.new.slot c.args.place c.requires c.fill.auto.slot;
      name_size = c.fill.ensures.name_size;
    }
