-- What two byte strings have in common at the front.
--
--   shared          how many bytes of the front are the same
--   LongestShared   a common front of that length, and none longer
--
-- Assumes nothing.
use Rattle.std.specs.Prelude.{◌≡◌, ℕ, suc, ◌≤◌, cond, List, [], ◌∷◌, length, take, ◌==◌}

-- counted up to the first byte that differs, or to the end of the shorter string
abbrev pub shared : List ℕ → List ℕ → ℕ
shared [] b = 0
shared (x ∷ a) [] = 0
shared (x ∷ a) (y ∷ b) = cond (x == y) (suc (shared a b)) 0

pub record LongestShared (a b : List ℕ) (n : ℕ) : Type 0 where
  -- both strings have n bytes
  pub left : n ≤ length a
  pub right : n ≤ length b
  -- and begin with the same n
  pub same : take n a ≡ take n b
  -- they begin with the same m for no greater m
  pub longest : (m : ℕ) → m ≤ length a → m ≤ length b → take m a ≡ take m b → m ≤ n
