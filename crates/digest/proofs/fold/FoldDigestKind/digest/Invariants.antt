use Rattle.std.proofs.Common.{◌≡◌, length}
use Rattle.digest.proofs.Columns.{Summed}
use Rattle.digest.proofs.fold.FoldDigestKind.digest.Given as goal

abbrev pub invariant-loop-position : goal.invariant-loop-position
invariant-loop-position l = (length l.sums ≡ 32) × Summed l.message l.position l.sums
