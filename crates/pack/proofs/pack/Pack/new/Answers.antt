-- The test tells how many sectors are used.
use Rattle.std.proofs.Common.{ap, ◌∙◌}
use Rattle.pack.proofs.Stores.{known, made_bad, made_good}
use Rattle.pack.proofs.pack.Pack.new.Goals as goal
use Rattle.pack.proofs.pack.Pack.new.Goals.{in-Ok, in-Err}

pub overflow_sub-used : goal.overflow_sub-used
overflow_sub-used c = (made_good c.args.memory.now c.in-Ok.used c.in-Ok.ensures).2

pub invariant_of-result : goal.invariant_of-result
invariant_of-result c = elim c.match-used_sectors.branch [
  | in-Ok w ↦
      let h = made_good c.args.memory.now w.in-Ok.used w.in-Ok.ensures in
      record { filled = ap (λ p. p.0) w.used-is ∙ h.0; vacant = ap (λ p. p.1) w.used-is ∙ h.1 }
  | in-Err w ↦
      let h = made_bad c.args.memory.now w.in-Err.field-0 w.in-Err.ensures in
      record { filled = ap (λ p. p.0) w.used-is ∙ h.0; vacant = ap (λ p. p.1) w.used-is ∙ h.1 }
]

pub returns-clause-sound : goal.returns-clause-sound
returns-clause-sound c = (known c.args.memory.now).sound
