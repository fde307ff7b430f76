-- Parts of byte strings.
--
--   Stands     p stands in s at a place
--   Replaced   t is s with q in the place of p, somewhere
--
-- Assumes nothing.
use Rattle.std.specs.Prelude.{◌≡◌, ℕ, ◌+◌, ◌≤◌, List, ◌++◌, length, take, drop}

pub record Stands (s p : List ℕ) (at : ℕ) : Type 0 where
  pub within : at + length p ≤ length s
  pub is : p ≡ take (length p) (drop at s)

pub record Replaced (s p q t : List ℕ) : Type 0 where
  pub at : ℕ
  pub stood : Stands s p at
  pub is : t ≡ (take at s ++ q) ++ drop (at + length p) s
