-- Byte strings in order: the laws of a strict order, and the library's order of lists is this one. Assumes nothing.
use Rattle.std.proofs.Common.{◌≡◌, ℕ, true, false, List, [], ◌∷◌, ◌++◌, Ordering, refl, arith}
use Rattle.std.specs.Ordering.{MatchOrdering, nat_cmp}
use Rattle.std.specs.Cmp.Lexicographic.{slice_cmp}
use Rattle.std.proofs.lemmas.Bool.Decides.{nat_tests}
use Rattle.keys.specs.Order.{before, StrictTotal}

pub before_self : (a : List ℕ) → before a a ≡ false
before_self [] = refl
before_self (x ∷ a) = let rest = before_self a in grind (arith, nat_tests)

pub before_trans : (a b c : List ℕ) → before a b ≡ true → before b c ≡ true → before a c ≡ true
before_trans [] [] c p q = grind arith
before_trans [] (y ∷ b) [] p q = grind arith
before_trans [] (y ∷ b) (z ∷ c) p q = refl
before_trans (x ∷ a) [] c p q = grind arith
before_trans (x ∷ a) (y ∷ b) [] p q = grind arith
before_trans (x ∷ a) (y ∷ b) (z ∷ c) p q = let rest = before_trans a b c in grind (arith, nat_tests)

pub before_neither : (a b : List ℕ) → before a b ≡ false → before b a ≡ false → a ≡ b
before_neither [] [] p q = refl
before_neither [] (y ∷ b) p q = grind arith
before_neither (x ∷ a) [] p q = grind arith
before_neither (x ∷ a) (y ∷ b) p q = let rest = before_neither a b in grind (arith, nat_tests)

pub before_strict : StrictTotal before
before_strict = record { irreflexive = before_self; transitive = before_trans; total = before_neither }

-- no two strings come each before the other
pub before_one_way : (a b : List ℕ) → before a b ≡ true → before b a ≡ false
before_one_way [] [] p = refl
before_one_way [] (y ∷ b) p = refl
before_one_way (x ∷ a) [] p = grind arith
before_one_way (x ∷ a) (y ∷ b) p = let rest = before_one_way a b in grind (arith, nat_tests)

-- a common front does not matter
pub before_common : (p a b : List ℕ) → before (p ++ a) (p ++ b) ≡ before a b
before_common [] a b = refl
before_common (x ∷ p) a b = let rest = before_common p a b in grind (arith, nat_tests)

-- the library's order of lists of numbers ranks two strings
ranked_slices : (a b : List ℕ) → MatchOrdering (slice_cmp nat_cmp a b) (before a b ≡ true) (a ≡ b) (before b a ≡ true)
ranked_slices [] [] = refl
ranked_slices [] (y ∷ b) = refl
ranked_slices (x ∷ a) [] = refl
ranked_slices (x ∷ a) (y ∷ b) = let rest = ranked_slices a b in grind (arith, nat_tests)

pub ranked_from_slice_cmp : (a b : List ℕ) (o : Ordering) → o ≡ slice_cmp nat_cmp a b → MatchOrdering o (before a b ≡ true) (a ≡ b) (before b a ≡ true)
ranked_from_slice_cmp a b o is = rw is (ranked_slices a b)
