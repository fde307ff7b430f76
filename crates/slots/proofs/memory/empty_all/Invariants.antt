use Rattle.std.proofs.Common.{◌≡◌, ℕ, ◌<◌, false, [], get_or}
use Rattle.slots.specs.Memory.{slots_in, left_over}
use Rattle.slots.specs.Slot.{is_used}
use Rattle.slots.proofs.memory.empty_all.Given as goal

abbrev pub invariant-loop-place : goal.invariant-loop-place
invariant-loop-place l = ((k : ℕ) → k < l.place → is_used (get_or (slots_in l.memory) k []) ≡ false) × (left_over l.memory ≡ left_over l.initial.memory)
