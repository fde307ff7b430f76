-- What a digest kind means.
--
--   Kind        a function from byte strings to digests, and the code byte that names it in links
--
-- A byte string is a list of numbers. Assumes nothing.
use Rattle.std.specs.Prelude.{◌≡◌, ℕ, ◌<◌, List, length}
use Rattle.std.specs.List.{AllByRecursion}

pub record Kind : Type 0 where
  -- the digest of each byte string
  pub hash : List ℕ → List ℕ
  -- the byte that stands for this kind in links
  pub code : ℕ
  -- a digest is 32 bytes
  pub hash_length : (message : List ℕ) → length (hash message) ≡ 32
  pub hash_bytes : (message : List ℕ) → AllByRecursion (λ b. b < 256) (hash message)
  -- the code is a byte below 80 hex
  pub code_below : code < 128
