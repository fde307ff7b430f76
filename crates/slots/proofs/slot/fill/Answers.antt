-- The name, the length and the block stand one behind the other.
use Rattle.std.proofs.Common.{◌≡◌, length, ◌∙◌, rules}
use Rattle.slots.proofs.Parts.{written}
use Rattle.slots.proofs.slot.fill.Goals as goal

pub returns-clause-after : goal.returns-clause-after
returns-clause-after c =
    let long : length c.args.name.now.bytes ≡ 32 = search rules in
    written
    c.args.name.now.bytes
    c.args.block.bytes.now
    c.args.slot.now
    c.copy_from_slice.new.self
    c.copy_from_slice-2.new.self
    c.copy_from_slice-3.new.self
    long
    c.copy_from_slice.ensures.after
    (c.copy_from_slice-2.ensures.after ∙ c.to_be_bytes.ensures)
    c.copy_from_slice-3.ensures.after
