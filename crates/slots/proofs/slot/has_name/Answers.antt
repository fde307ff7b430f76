-- A used slot has the name where the bytes agree.
use Rattle.std.proofs.Common.{sym}
use Rattle.std.proofs.lemmas.Bool.Decides.{Decides-eqb}
use Rattle.std.proofs.lemmas.Slice.Eq.{slice_eq-Decides}
use Rattle.slots.proofs.Names.{named}
use Rattle.slots.proofs.slot.has_name.Goals as goal

pub returns-then-in_use : goal.returns-then-in_use
returns-then-in_use c =
    named c.args.slot.now c.args.name.now.bytes c.eq.result (sym c.if-in_use.ensures) (slice_eq-Decides Decides-eqb _ _ _ c.eq.ensures)
