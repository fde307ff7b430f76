-- The operations of SHA-256 on words of 32 bits (FIPS 180-4, sections 2.2.2, 3.2 and 4.1.2).
--
--   add                   addition modulo 2 ^ 32
--   rotr, shr             rotation and shift to the right
--   ch, maj               x chooses between y and z; the majority of x, y and z
--   rotations             the sum, bit by bit, of three rotations, and rotations_and_shift, of two and a shift
--   Σ₀, Σ₁, σ₀, σ₁        the four sums of the standard
--   word, word_bytes      a word of four bytes, high byte first, and back
--
-- Assumes nothing.
use Rattle.std.specs.Prelude.{ℕ, ◌+◌, ◌-◌, ◌*◌, ◌/◌, ◌%◌, ◌^◌, List, [], ◌∷◌, bit_and, bit_or, bit_xor, slice_index}

abbrev pub add : ℕ → ℕ → ℕ
add x y = (x + y) % 2 ^ 32

-- the bits that fall out on the right come in on the left
abbrev pub rotr : ℕ → ℕ → ℕ
rotr n x = bit_or (x / 2 ^ n) ((x * 2 ^ (32 - n)) % 2 ^ 32)

abbrev pub shr : ℕ → ℕ → ℕ
shr n x = x / 2 ^ n

-- every bit turned
abbrev pub complement : ℕ → ℕ
complement x = (2 ^ 32 - 1) - x

abbrev pub ch : ℕ → ℕ → ℕ → ℕ
ch x y z = bit_xor (bit_and x y) (bit_and (complement x) z)

abbrev pub maj : ℕ → ℕ → ℕ → ℕ
maj x y z = bit_xor (bit_xor (bit_and x y) (bit_and x z)) (bit_and y z)

-- three rotations
abbrev pub rotations : ℕ → ℕ → ℕ → ℕ → ℕ
rotations a b c x = bit_xor (bit_xor (rotr a x) (rotr b x)) (rotr c x)

-- two rotations and a shift
abbrev pub rotations_and_shift : ℕ → ℕ → ℕ → ℕ → ℕ
rotations_and_shift a b c x = bit_xor (bit_xor (rotr a x) (rotr b x)) (shr c x)

abbrev pub Σ₀ : ℕ → ℕ
Σ₀ = rotations 2 13 22

abbrev pub Σ₁ : ℕ → ℕ
Σ₁ = rotations 6 11 25

abbrev pub σ₀ : ℕ → ℕ
σ₀ = rotations_and_shift 7 18 3

abbrev pub σ₁ : ℕ → ℕ
σ₁ = rotations_and_shift 17 19 10

abbrev pub word : List ℕ → ℕ
word bytes = slice_index bytes 0 * 2 ^ 24 + slice_index bytes 1 * 2 ^ 16 + slice_index bytes 2 * 2 ^ 8 + slice_index bytes 3

abbrev pub word_bytes : ℕ → List ℕ
word_bytes x = (x / 2 ^ 24 % 256) ∷ ((x / 2 ^ 16 % 256) ∷ ((x / 2 ^ 8 % 256) ∷ ((x % 256) ∷ [])))
