-- The padding of a message to whole blocks of 64 bytes (FIPS 180-4, section 5.1.1).
--
--   length_bytes    the length of a message in bits, in eight bytes
--   zeros           the bytes of zeros after a message of n bytes, as few as do
--   padding         what follows a message of n bytes
--   padded          the message and its padding
--   blocks          its blocks of 64 bytes
--
-- The standard ends at messages of 2 ^ 64 - 1 bits. A longer one has the length of its bits modulo 2 ^ 64 written. Assumes nothing.
use Rattle.std.specs.Prelude.{◌≡◌, ℕ, ◌+◌, ◌-◌, ◌*◌, ◌/◌, ◌%◌, ◌^◌, ◌≤◌, List, [], ◌∷◌, ◌++◌, length, replicate}
use Rattle.std.specs.Simd.{first_chunks}

-- a number in eight bytes, high byte first
abbrev pub eight_bytes : ℕ → List ℕ
eight_bytes x =
    (x / 2 ^ 56 % 256) ∷ ((x / 2 ^ 48 % 256) ∷ ((x / 2 ^ 40 % 256) ∷ ((x / 2 ^ 32 % 256)
    ∷ ((x / 2 ^ 24 % 256) ∷ ((x / 2 ^ 16 % 256) ∷ ((x / 2 ^ 8 % 256) ∷ ((x % 256) ∷ [])))))))

abbrev pub length_bytes : ℕ → List ℕ
length_bytes n = eight_bytes (n * 8 % 2 ^ 64)

-- how many bytes of zeros lead to eight bytes before the end of a block
abbrev pub zeros : ℕ → ℕ
zeros n = (119 - n % 64) % 64

-- the least number of them that does
pub record LeastZeros (n : ℕ) : Type 0 where
  pub reaches : (n + 1 + zeros n) % 64 ≡ 56
  pub least : (k : ℕ) → (n + 1 + k) % 64 ≡ 56 → zeros n ≤ k

-- a one bit and seven zero bits, bytes of zeros, and the length
unfoldable pub padding : ℕ → List ℕ
padding n = 0x80 ∷ (replicate (zeros n) 0 ++ length_bytes n)

unfoldable pub padded : List ℕ → List ℕ
padded message = message ++ padding (length message)

unfoldable pub blocks : List ℕ → List (List ℕ)
blocks bytes = first_chunks 64 (length bytes / 64) bytes
