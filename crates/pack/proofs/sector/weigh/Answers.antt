-- What was summed and what is left make up all.
use Rattle.std.proofs.Common.{◌≡◌, ℕ, suc, ◌+◌, ◌*◌, ◌<◌, ◌≤◌, length, get_or, ap, subst, arith}
use Rattle.pack.specs.Sector.{weighed}
use Rattle.pack.proofs.sector.weigh.Goals as goal

-- one byte more keeps the sum small
term_bound : (sum weight byte : ℕ) → sum ≤ weight * 129540 → weight ≤ 508 → byte < 256 → sum + weight * byte ≤ (weight + 1) * 129540
term_bound sum weight byte small within fits = grind arith

bounded : (c : goal.After-from) → (c.in-Some.weight ≤ 508) × (c.loop-byte.sum + c.in-Some.weight * c.from.result ≤ (c.in-Some.weight + 1) * 129540)
bounded c =
    let steps = c.in-Some.ensures.steps in
    let byte : c.in-Some.byte.now < 256 = subst (λ xs. get_or xs 0 0 < 256) steps.0 (c.loop-byte.invariant.3 0) in
    let weight : c.in-Some.weight ≤ 508 = omega (arith, steps.1.0, ap length steps.0, c.loop-byte.invariant.0, c.requires) in
    (weight, term_bound c.loop-byte.sum c.in-Some.weight c.from.result (omega (arith, c.loop-byte.invariant.1, steps.1.0)) weight (omega (arith, byte, c.from.ensures)))

pub loop-byte-preserved : goal.loop-byte-preserved
loop-byte-preserved c =
    let steps = c.in-Some.ensures.steps in
    let sum = c.loop-byte.sum in
    let all = ap (weighed c.loop-byte.byte-iterator.b.start) steps.0 in
    let here : c.loop-byte.byte-iterator.b.start * c.in-Some.byte.now ≡ c.in-Some.weight * c.from.result = grind (arith, steps.1.0, c.from.ensures) in
    let next : weighed c.next.new.self.b.start c.next.new.self.a.rest.now ≡ weighed (c.loop-byte.byte-iterator.b.start + 1) c.next.new.self.a.rest.now = grind (arith, steps.1.0, steps.1.1) in (
      omega (arith, steps.1.0, steps.1.1, ap length steps.0, c.loop-byte.invariant.0),
      omega (arith, bounded c, steps.1.1),
      omega (arith, all, here, next, c.loop-byte.invariant.2),
      λ k. subst (λ xs. get_or xs (suc k) 0 < 256) steps.0 (c.loop-byte.invariant.3 (suc k)),
    )
