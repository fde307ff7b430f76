-- The scan goes as the reader does.
use Rattle.std.proofs.Common.{◌≡◌, ◌+◌, ◌-◌, ◌<◌, true, false, ◌⊎◌, [], length, get_or, take, drop, Some, None, sym, ap, ◌∙◌, subst, inl, inr, arith}
use native.Mathlib.Nat.{sub-zero}
use Rattle.std.proofs.lemmas.List.{take_rest}
use Rattle.std.specs.List.{AllByRecursion, position}
use Rattle.std.specs.Str.{bytes_eq}
use Rattle.pack.specs.Lawful.{whole_sectors}
use Rattle.pack.specs.Reader.{goes_on}
use Rattle.pack.specs.Sector.{unused_sector}
use Rattle.pack.proofs.Bads.{Whole}
use Rattle.pack.proofs.Named.{any_found, any_named}
use Rattle.pack.specs.Scan.{is_used}
use Rattle.pack.proofs.Scans.{Inside, bad_name, between_start, inside_last, inside_more, inside_start, scan_ends, scan_good, told_bad, told_good}
use Rattle.pack.proofs.scan.scan.Goals as goal
use Rattle.pack.proofs.scan.scan.Goals.{then-at-count-via-then-at-count, then-at-count-via-else-at-count+then-is_unused}

pub scan-init : goal.scan-init
scan-init c = between_start c.as_chunks.result.0.now

pub returns-in-None : goal.returns-in-None
returns-in-None c =
    let ss = c.as_chunks.result.0.now in
    let at = c.scan.at in
    let unused : (at ≡ length ss) ⊎ ((at < length ss) × (bytes_eq (get_or ss at []) unused_sector ≡ true)) = elim c.then-at-count.branch [
      | then-at-count-via-then-at-count w ↦ inl w.if-at-count.true
      | then-at-count-via-else-at-count+then-is_unused w ↦ inr (omega (arith, w.if-at-count.false, c.scan.invariant.upto), sym w.if-is_unused.ensures)
    ] in
    told_good ss c.args.memory.now at c.scan.invariant.pairs (length (drop at ss)) c.as_chunks.ensures.front (scan_ends ss at c.scan.invariant None unused (c.in-None.ensures ∙ ap (position is_used) (take_rest ss at))) (scan_good ss at c.scan.invariant)

pub parts-init : goal.parts-init
parts-init c =
    let ss = c.as_chunks.result.0.now in
    let at = c.scan.at in
    let whole : AllByRecursion Whole ss = subst (λ xs. AllByRecursion Whole xs) (sym c.as_chunks.ensures.front) (whole_sectors c.args.memory.now) in
    let within : at < length ss = omega (arith, c.if-at-count.false, c.scan.invariant.upto) in
    let name = c.name_in-name.result.bytes in
    let fresh : any_named (take at ss) name ≡ false = ap (λ n. any_named (take n ss) name) (sym (sub-zero at)) ∙ any_found name (take (at - 0) ss) c.first_named.result c.first_named.ensures ∙ sym c.if-is_some.ensures in
    let first = inside_start ss at c.scan.invariant whole within (sym c.if-is_unused.ensures) (ap (any_named (take at ss)) (sym c.name_in-name.ensures) ∙ fresh) in
    (omega arith, subst (λ n. Inside ss at n 0) (sym c.name_in-name.ensures) first)

pub parts-preserved : goal.parts-preserved
parts-preserved c =
    let ss = c.as_chunks.result.0.now in
    let at = c.parts.at in
    let whole : AllByRecursion Whole ss = subst (λ xs. AllByRecursion Whole xs) (sym c.as_chunks.ensures.front) (whole_sectors c.args.memory.now) in
    let left : length ss - at - 1 ≡ length ss - (at + 1) = omega arith in
    let more : goes_on (length ss - (at + 1)) c.parts.part (get_or ss at []) ≡ true = ap (λ n. goes_on n c.parts.part (get_or ss at [])) (sym left) ∙ sym c.if-goes_on.ensures in
    (omega (arith, c.parts.invariant.0), inside_more ss at _ c.parts.part whole c.parts.invariant.1 (sym c.if-not-has_name.ensures) more)

pub scan-preserved : goal.scan-preserved
scan-preserved c =
    let ss = c.as_chunks.result.0.now in
    let at = c.parts.at in
    let whole : AllByRecursion Whole ss = subst (λ xs. AllByRecursion Whole xs) (sym c.as_chunks.ensures.front) (whole_sectors c.args.memory.now) in
    let left : length ss - at - 1 ≡ length ss - (at + 1) = omega arith in
    let stops : goes_on (length ss - (at + 1)) c.parts.part (get_or ss at []) ≡ false = ap (λ n. goes_on n c.parts.part (get_or ss at [])) (sym left) ∙ sym c.if-goes_on.ensures in
    inside_last ss at _ c.parts.part whole c.parts.invariant.1 (sym c.if-not-has_name.ensures) stops (sym c.if-not-ends.ensures)

pub returns-in-Some : goal.returns-in-Some
returns-in-Some c =
    let ss = c.as_chunks.result.0.now in
    let at = c.scan.at in
    let unused : (at ≡ length ss) ⊎ ((at < length ss) × (bytes_eq (get_or ss at []) unused_sector ≡ true)) = elim c.then-at-count.branch [
      | then-at-count-via-then-at-count w ↦ inl w.if-at-count.true
      | then-at-count-via-else-at-count+then-is_unused w ↦ inr (omega (arith, w.if-at-count.false, c.scan.invariant.upto), sym w.if-is_unused.ensures)
    ] in
    told_bad ss c.args.memory.now (at + c.in-Some.used) c.as_chunks.ensures.front (scan_ends ss at c.scan.invariant (Some c.in-Some.used) unused (c.in-Some.ensures ∙ ap (position is_used) (take_rest ss at)))

pub returns-then-is_some : goal.returns-then-is_some
returns-then-is_some c =
    let ss = c.as_chunks.result.0.now in
    let at = c.scan.at in
    let within : at < length ss = omega (arith, c.if-at-count.false, c.scan.invariant.upto) in
    let name = c.name_in-name.result.bytes in
    let twice : any_named (take at ss) name ≡ true = ap (λ n. any_named (take n ss) name) (sym (sub-zero at)) ∙ any_found name (take (at - 0) ss) c.first_named.result c.first_named.ensures ∙ sym c.if-is_some.ensures in
    told_bad ss c.args.memory.now at c.as_chunks.ensures.front (bad_name ss at c.scan.invariant within (sym c.if-is_unused.ensures) (ap (any_named (take at ss)) (sym c.name_in-name.ensures) ∙ twice))
