-- Maps whose keys are all below a layer, and the highest layer of a map. Assumes nothing.
use Rattle.std.proofs.Common.{◌≡◌, ℕ, suc, ◌<◌, ◌≤◌, max, Bool, true, false, eqb, [], ◌∷◌, ◌++◌, refl, subst, arith}
use Rattle.std.specs.List.{AllByRecursion}
use Rattle.std.proofs.ByRecursion.{All-append, All-weaker}
use Rattle.std.proofs.lemmas.Bool.{eqb-true}
use Rattle.digest.specs.Kind.{Kind}
use Rattle.digest.specs.Layer.{layer}
use Rattle.tree.specs.Laws.{Parted}
use Rattle.tree.specs.Map.{Item, Map}
use Rattle.tree.specs.Row.{Row, end, more, prepend, count, first_gap, last_gap}
use Rattle.tree.specs.Tree.{at, cut, below, row, top}
use Rattle.tree.proofs.Rows.{cut_parted, flat-cut, parted_first, parted_last}

abbrev pub Under : Kind → ℕ → Map → Type 0
Under κ n m = AllByRecursion (λ x. layer κ x.key < n) m

pub at-below : (m n : ℕ) → eqb m n ≡ false → m < suc n → m < n
at-below m n t h = grind arith

pub at_above : (m n : ℕ) → m < n → eqb m n ≡ false
at_above m n h = grind arith

pub under_left : (κ : Kind) (n : ℕ) (a b : Map) → Under κ n (a ++ b) → Under κ n a
under_left κ n [] b u = tt
under_left κ n (x ∷ a) b u = (u.0, under_left κ n a b u.1)

pub under_right : (κ : Kind) (n : ℕ) (a b : Map) → Under κ n (a ++ b) → Under κ n b
under_right κ n [] b u = u
under_right κ n (x ∷ a) b u = under_right κ n a b u.1

pub under_append : (κ : Kind) (n : ℕ) (a b : Map) → Under κ n a → Under κ n b → Under κ n (a ++ b)
under_append κ n a b = All-append (λ x. layer κ x.key < n) a b

pub under_le : (κ : Kind) (n k : ℕ) (m : Map) → n ≤ k → Under κ n m → Under κ k m
under_le κ n k m h = All-weaker (λ x. layer κ x.key < n) (λ x. layer κ x.key < k) (λ x l. omega arith) m

-- the gaps of a node are below its layer
module _ (κ : Kind) (n : ℕ) where
  pub cut_under : (m : Map) → Under κ (suc n) m → Parted (λ x. layer κ x.key < n) (λ x. layer κ x.key ≡ n) (cut κ n m)
  cut_under m u =
      cut_parted (at κ n) (λ x. layer κ x.key < n) (λ x. layer κ x.key ≡ n) (λ x. layer κ x.key < suc n)
      (λ x t _. eqb-true (layer κ x.key) n t) (λ x t h. at-below (layer κ x.key) n t h) m u

  pub first_under : (m : Map) → Under κ (suc n) m → Under κ n (first_gap (cut κ n m))
  first_under m u = parted_first (λ x. layer κ x.key < n) (λ x. layer κ x.key ≡ n) (cut κ n m) (cut_under m u)

  pub last_under : (m : Map) → Under κ (suc n) m → Under κ n (last_gap (cut κ n m))
  last_under m u = parted_last (λ x. layer κ x.key < n) (λ x. layer κ x.key ≡ n) (cut κ n m) (cut_under m u)

-- the highest layer

pub under_top : (κ : Kind) (m : Map) → Under κ (suc (top κ m)) m
under_top κ [] = tt
under_top κ (x ∷ m) = (omega arith, under_le κ (suc (top κ m)) (suc (top κ (x ∷ m))) m (omega arith) (under_top κ m))

pub top_under : (κ : Kind) (n : ℕ) (m : Map) → Under κ (suc n) m → top κ m ≤ n
top_under κ n [] u = omega arith
top_under κ n (x ∷ m) u = omega (arith, u.0, top_under κ n m u.1)

pub top_some : (κ : Kind) (n : ℕ) (x : Item) (m : Map) → Under κ n (x ∷ m) → top κ (x ∷ m) < n
top_some κ n x [] u = omega (arith, u.0)
top_some κ n x (y ∷ m) u = omega (arith, u.0, top_some κ n y m u.1)

pub top-insert : (κ : Kind) (a : Map) (x : Item) (b : Map) → top κ (a ++ (x ∷ b)) ≡ max (layer κ x.key) (top κ (a ++ b))
top-insert κ [] x b = refl
top-insert κ (y ∷ a) x b = omega (arith, top-insert κ a x b)

-- a node above the highest layer has no key

pub cut_above : (κ : Kind) (n : ℕ) (m : Map) → Under κ n m → cut κ n m ≡ end m
cut_above κ n [] u = refl
cut_above κ n (x ∷ m) u = rw (at_above (layer κ x.key) n u.0, cut_above κ n m u.1)

pub row_above : (κ : Kind) (n : ℕ) (m : Map) → Under κ n m → row κ n m ≡ end (below κ n m)
row_above κ n m u = rw (cut_above κ n m u)

-- and a node with no key is above it

pub keyless_under : (κ : Kind) (n : ℕ) (m g : Map) → Under κ (suc n) m → cut κ n m ≡ end g → Under κ n m
keyless_under κ n m g u e =
    let whole : g ≡ m = let f = flat-cut (at κ n) m in cc in
    subst (Under κ n) whole (subst (Parted (λ x. layer κ x.key < n) (λ x. layer κ x.key ≡ n)) e (cut_under κ n m u))

count-prepend : (x : Item) (r : Row Map Item) → count (prepend false x r) ≡ count r
count-prepend x (end g) = refl
count-prepend x (more g y r) = refl

pub keyed_top : (κ : Kind) (n : ℕ) (m : Map) → Under κ (suc n) m → 0 < count (cut κ n m) → top κ m ≡ n
keyed_top κ n [] u h = absurd (omega arith)
keyed_top κ n (x ∷ m) u h = go (at κ n x) refl h (keyed_top κ n m u.1)
  where
    go : (t : Bool) → at κ n x ≡ t → 0 < count (prepend t x (cut κ n m)) → (0 < count (cut κ n m) → top κ m ≡ n) → top κ (x ∷ m) ≡ n
    go true t h rest = omega (arith, eqb-true (layer κ x.key) n t, top_under κ n m u.1)
    go false t h rest = omega (arith, at-below (layer κ x.key) n t u.0, rest (omega (arith, count-prepend x (cut κ n m))))
