-- Fold, the digest kind for tests: easy to work out by hand, and easy to collide.
--
--   column      the sum of the bytes at every 32nd position
--   fold_hash   the digest: 32 columns, each modulo 256
--   fold        the kind, code 00
--
-- Assumes nothing.
use Rattle.std.specs.Prelude.{◌≡◌, ℕ, ◌+◌, ◌%◌, ◌<◌, cond, List, [], ◌∷◌, map, length, ◌==◌, refl}
use Rattle.std.proofs.Common.{mod-lt, lit<}
use Rattle.std.specs.List.{range_with_len, AllByRecursion}
use Rattle.digest.specs.Kind.{Kind}

-- of bytes whose first stands at position p: the sum of those at positions i, i + 32, i + 64 and so on, for an i below 32
abbrev pub column : ℕ → ℕ → List ℕ → ℕ
column i p [] = 0
column i p (b ∷ bytes) = cond (p % 32 == i) b 0 + column i (p + 1) bytes

-- byte i of the digest
abbrev pub fold_byte : List ℕ → ℕ → ℕ
fold_byte message i = column i 0 message % 256

unfoldable pub fold_hash : List ℕ → List ℕ
fold_hash message = map (fold_byte message) (range_with_len 0 32)

pub fold_length : (message : List ℕ) → length (fold_hash message) ≡ 32
unfolding fold_hash
fold_length message = refl

below : (message : List ℕ) (is : List ℕ) → AllByRecursion (λ b. b < 256) (map (fold_byte message) is)
below message [] = tt
below message (i ∷ is) = (mod-lt (column i 0 message) (lit< tt), below message is)

pub fold_bytes : (message : List ℕ) → AllByRecursion (λ b. b < 256) (fold_hash message)
unfolding fold_hash
fold_bytes message = below message (range_with_len 0 32)

abbrev pub fold : Kind
fold = record {
  hash = fold_hash;
  code = 0x00;
  hash_length = fold_length;
  hash_bytes = fold_bytes;
  code_below = lit< tt;
}
