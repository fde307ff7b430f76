-- Nodes that are not wide, each and all. Assumes nothing.
use Rattle.std.proofs.Common.{◌≡◌, ◌≤◌, Bool, true, false, ◌||◌, List, [], ◌∷◌, length, refl, arith}
use Rattle.std.specs.List.{AllByRecursion}
use Rattle.std.proofs.lemmas.Bool.Decides.{nat_tests}
use Rattle.tree.specs.Tree.{Placed, wide, any_wide}

pub all_narrow : (ts : List Placed) → any_wide ts ≡ false → AllByRecursion (λ t. wide t ≡ false) ts
all_narrow [] h = tt
all_narrow (t ∷ ts) h = go (wide t) refl h (all_narrow ts)
  where
    go : (b : Bool) → wide t ≡ b → (b || any_wide ts) ≡ false → (any_wide ts ≡ false → AllByRecursion (λ t. wide t ≡ false) ts) → (wide t ≡ false) × AllByRecursion (λ t. wide t ≡ false) ts
    go true e h rest = absurd (grind arith)
    go false e h rest = (e, rest h)

pub narrow_all : (ts : List Placed) → AllByRecursion (λ t. wide t ≡ false) ts → any_wide ts ≡ false
narrow_all [] h = refl
narrow_all (t ∷ ts) h = rw (h.0, narrow_all ts h.1)

pub narrow_few : (t : Placed) → wide t ≡ false → length t.node.entries ≤ 64
narrow_few t h = grind (arith, nat_tests)
