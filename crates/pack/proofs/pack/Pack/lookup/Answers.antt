-- The blocks are in the used sectors.
use Rattle.std.proofs.Common.{◌≡◌, ℕ, ◌-◌, ◌≤◌, List, length, take, drop, ap, sym, ◌∙◌, subst, arith, rules, Some, None, MatchOption}
use native.Mathlib.Nat.{sub-zero}
use Rattle.std.proofs.lemmas.List.{take_rest}
use Rattle.std.specs.List.{position}
use Rattle.pack.specs.Block.{Stands}
use Rattle.pack.specs.Memory.{held_among, pairs_read, reading, used_in}
use Rattle.pack.specs.Pack.{sectors_in}
use Rattle.pack.specs.Scan.{has_name}
use Rattle.pack.proofs.Stores.{looked_up, used_within}
use Rattle.pack.proofs.pack.Pack.lookup.Goals as goal

pub slice_bounds-first_named-end : goal.slice_bounds-first_named-end
slice_bounds-first_named-end c =
    let m = c.args.self.now.memory.now in
    let room : c.args.self.now.used ≤ length c.as_chunks.result.0.now = omega (arith, used_within m, c.args.self.now.filled, ap length c.as_chunks.ensures.front) in
    search rules

-- the used sectors, as they are sliced
used_part : (m : List ℕ) (ss : List (List ℕ)) (used : ℕ) → used ≡ used_in m → ss ≡ sectors_in m → take (used - 0) ss ≡ take (used_in m) (sectors_in m)
used_part m ss used filled front = ap (λ n. take n ss) (sub-zero used ∙ filled) ∙ ap (take (used_in m)) front

pub returns-in_err-place : goal.returns-in_err-place
returns-in_err-place c =
    let m = c.args.self.now.memory.now in
    let name = c.args.name.now.bytes in
    let none = looked_up m name None (c.in_err-place.ensures ∙ ap (position (has_name name)) (used_part m c.as_chunks.result.0.now c.args.self.now.used c.args.self.now.filled c.as_chunks.ensures.front)) in
    subst (λ o. MatchOption o (held_among (pairs_read (reading m)) name ≡ None) (λ ss. Stands (held_among (pairs_read (reading m)) name) ss.sectors.now)) (sym c.from_residual.ensures) none

pub returns : goal.returns
returns c =
    let m = c.args.self.now.memory.now in
    let name = c.args.name.now.bytes in
    let place = c.in_ok-place.place in
    let ss = c.as_chunks.result.0.now in
    let found = looked_up m name (Some place) (c.in_ok-place.ensures ∙ ap (position (has_name name)) (used_part m c.as_chunks.result.0.now c.args.self.now.used c.args.self.now.filled c.as_chunks.ensures.front)) in
    subst (λ xs. Stands (held_among (pairs_read (reading m)) name) xs) (sym (take_rest ss place ∙ ap (drop place) c.as_chunks.ensures.front)) found
