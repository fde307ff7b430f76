-- The first bad sector of memory that is no good pack.
--
--   FirstBad    the least sector such that no good pack of that length has the same sectors up to it
--
-- Assumes nothing.
use Rattle.std.specs.Prelude.{◌≡◌, ℕ, ◌+◌, ◌<◌, List, length, take}
use Rattle.pack.specs.Pack.{Good}

-- a good pack of the same length that has the same sectors 0 to s
pub record Agrees (sectors : List (List ℕ)) (s : ℕ) (pack : List (List ℕ)) : Type 0 where
  pub is_good : Good pack
  pub size : length pack ≡ length sectors
  pub same : take (s + 1) pack ≡ take (s + 1) sectors

pub record FirstBad (sectors : List (List ℕ)) (s : ℕ) : Type 0 where
  pub within : s < length sectors
  -- no good pack agrees up to this sector
  pub never : (pack : List (List ℕ)) → Agrees sectors s pack → ⊥
  -- up to every earlier sector one does
  pub before : (t : ℕ) → t < s → (pack : List (List ℕ)) × Agrees sectors t pack
