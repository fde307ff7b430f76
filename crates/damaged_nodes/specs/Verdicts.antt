-- What verdicts mean.
--
--   Judged   what a verdict says of a block; none is written in another way
--   alike    whether two verdicts are one
--   times    how many of some verdicts are one
--
-- Assumes nothing.
use Rattle.std.specs.Prelude.{ℕ, Bool, true, false, List, count_by}
use Rattle.node.specs.Format.{Node}
use Rattle.node.specs.Laws.{Encodes}
use Rattle.damaged_nodes.specs.declared.verdict.Verdict.{Verdict}
use Rattle.damaged_nodes.specs.declared.verdict.Verdict.TheVariants.{Refused, Same, Differs}

-- c is the code byte of the digest kind, s the block
abbrev pub Judged : ℕ → List ℕ → Verdict → Type 0
Judged c s Refused = (n : Node) → Encodes c s n → ⊥
Judged c s Same = (n : Node) × Encodes c s n
Judged c s Differs = ⊥

abbrev pub alike : Verdict → Verdict → Bool
alike Refused Refused = true
alike Refused Same = false
alike Refused Differs = false
alike Same Refused = false
alike Same Same = true
alike Same Differs = false
alike Differs Refused = false
alike Differs Same = false
alike Differs Differs = true

abbrev pub times : Verdict → List Verdict → ℕ
times wanted verdicts = count_by (λ v. alike v wanted) verdicts
