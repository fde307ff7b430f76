-- The length is that of a block where the room behind it is as long.
use Rattle.std.proofs.Common.{◌≤◌, drop, arith}
use Rattle.std.proofs.lemmas.Bool.{le-leb}
use Rattle.std.proofs.lemmas.List.{length-take}
use Rattle.slots.specs.Slot.{slot_length}
use Rattle.slots.proofs.Parts.{front_of}
use Rattle.slots.proofs.slot.block_in.Goals as goal

pub returns : goal.returns
returns c =
    let get = c.in_ok-bytes.ensures.lookup.0 in
    let slot = c.args.slot.now in
    let short : slot_length slot ≤ 10752 = omega (arith, get.1, c.length_in.ensures, length-take 10752 (drop 36 slot)) in
    (le-leb (slot_length slot) 10752 short, front_of (slot_length slot) 10752 (drop 36 slot) c.in_ok-bytes.bytes.now c.length_in.result c.length_in.ensures short get.2)
