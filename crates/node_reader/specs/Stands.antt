-- What stands at a place of a block.
--
--   Stands     bytes stand at a place, and end at another
--   Absent     bytes do not stand at a place
--   Part       bytes that are a part of the block
--
-- A block is a list of bytes, and a place an index from 0. Assumes nothing.
use Rattle.std.specs.Prelude.{◌≡◌, ℕ, ◌+◌, ◌≤◌, List, ◌++◌, length, take, drop, ◌≢◌}

-- at `at` in s stands p, which ends at `end`
pub record Stands (s : List ℕ) (at : ℕ) (p : List ℕ) (end : ℕ) : Type 0 where
  pub within : end ≤ length s
  pub is : drop at s ≡ p ++ drop end s

-- p does not stand at `at` in s
abbrev pub Absent : List ℕ → ℕ → List ℕ → Type 0
Absent s at p = (r : List ℕ) → drop at s ≢ p ++ r

-- b is the part of s from `at` on
pub record Part (s b : List ℕ) (at : ℕ) : Type 0 where
  pub inside : at + length b ≤ length s
  pub is : b ≡ take (length b) (drop at s)
