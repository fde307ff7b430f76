-- The order of keys.
--
--   before        which of two byte strings comes first
--   StrictTotal   the laws of a strict order in which any two strings have their places
--
-- A byte string is a list of numbers. Assumes nothing.
use Rattle.std.specs.Prelude.{◌≡◌, ℕ, Bool, true, false, cond, List, [], ◌∷◌, ◌==◌, nat_lt}

-- the first byte that differs decides; a string that begins another comes first
abbrev pub before : List ℕ → List ℕ → Bool
before [] [] = false
before [] (y ∷ b) = true
before (x ∷ a) [] = false
before (x ∷ a) (y ∷ b) = cond (nat_lt x y) true (cond (x == y) (before a b) false)

pub record StrictTotal (less : List ℕ → List ℕ → Bool) : Type 0 where
  -- no string comes before itself
  pub irreflexive : (a : List ℕ) → less a a ≡ false
  -- a string before a second, which is before a third, is before the third
  pub transitive : (a b c : List ℕ) → less a b ≡ true → less b c ≡ true → less a c ≡ true
  -- two strings, neither of which is before the other, are equal
  pub total : (a b : List ℕ) → less a b ≡ false → less b a ≡ false → a ≡ b
