-- The layer of a key in the tree, from the digest of the key.
--
--   zero_bits     how many zero bits stand before the first one bit
--   digest_layer  half of that, rounded down
--   layer         of a key, under a digest kind
--
-- Assumes nothing.
use Rattle.std.specs.Prelude.{ℕ, zero, suc, ◌+◌, ◌/◌, List, [], ◌∷◌}
use Rattle.std.specs.Int.Count.{count_leading_zeros}
use Rattle.digest.specs.Kind.{Kind}

-- of bytes of eight bits each, highest bit first
unfoldable pub zero_bits : List ℕ → ℕ
zero_bits [] = 0
zero_bits (zero ∷ bytes) = 8 + zero_bits bytes
zero_bits (suc b ∷ bytes) = count_leading_zeros 8 (suc b)

abbrev pub digest_layer : List ℕ → ℕ
digest_layer digest = zero_bits digest / 2

abbrev pub layer : Kind → List ℕ → ℕ
layer κ key = digest_layer (κ.hash key)
