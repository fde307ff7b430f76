-- What the numbers of SHA-256 are, in words of arithmetic.
--
--   Prime             a number that only 1 and itself divide
--   PrimesAfter       each number is the first prime after the one before it
--   LargestPower      c is the largest number whose e-th power is at most n
--   RootFraction      a word has the first 32 bits of the fraction of an e-th root
--   RootFractions     words that have them of the first primes
--
-- Assumes nothing.
use Rattle.std.specs.Prelude.{◌≡◌, ℕ, ◌+◌, ◌*◌, ◌%◌, ◌^◌, ◌<◌, ◌≤◌, List, [], ◌∷◌, length, ◌≢◌, slice_index}

pub record Prime (n : ℕ) : Type 0 where
  pub from_two : 2 ≤ n
  pub undivided : (d : ℕ) → 2 ≤ d → d < n → n % d ≢ 0

abbrev pub PrimesAfter : ℕ → List ℕ → Type 0
PrimesAfter p [] = Unit {0}
PrimesAfter p (q ∷ qs) = (p < q) × Prime q × ((r : ℕ) → p < r → r < q → Prime r → ⊥) × PrimesAfter q qs

pub record LargestPower (e n c : ℕ) : Type 0 where
  pub fits : c ^ e ≤ n
  pub next : n < (c + 1) ^ e

-- p · 2 ^ 32e, so that c has the whole part of the root and 32 bits of its fraction
pub record RootFraction (e p word : ℕ) : Type 0 where
  pub c : ℕ
  pub largest : LargestPower e (p * 2 ^ (32 * e)) c
  pub low_bits : word ≡ c % 2 ^ 32

pub record RootFractions (e : ℕ) (words : List ℕ) : Type 0 where
  pub primes : List ℕ
  pub first : PrimesAfter 0 primes
  pub many : length words ≤ length primes
  pub each : (i : ℕ) → i < length words → RootFraction e (slice_index primes i) (slice_index words i)
