use Rattle.std.proofs.Common.{◌≡◌, length}
use Rattle.digest.proofs.Digits.{Written}
use Rattle.digest.proofs.digest.Digest.to_hex.Given as goal

abbrev pub invariant-loop-i : goal.invariant-loop-i
invariant-loop-i l = (length l.text ≡ 64) × Written l.self.bytes l.i l.text
