use Rattle.std.proofs.Common.{◌≡◌, ◌-◌, length, take}
use Rattle.sha256.specs.Rounds.{extended, schedule}
use Rattle.sha256.proofs.block.schedule.Given as goal

abbrev pub invariant-loop-t : goal.invariant-loop-t
invariant-loop-t l = (length l.words ≡ 64) × (extended (64 - l.t) (take l.t l.words) ≡ schedule l.block)
