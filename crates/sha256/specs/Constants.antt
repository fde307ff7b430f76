-- The numbers of SHA-256 by their rule (FIPS 180-4, sections 4.2.2 and 5.3.3): the first 32 bits of the fractions of the square roots
-- of the first 8 primes, and of the cube roots of the first 64.
--
--   prime               whether a number is prime
--   first_primes        the primes below 312, of which there are 64
--   root                the largest c with c ^ e ≤ n
--   fraction            the first 32 bits of the fraction of an e-th root
--   start_words         the 8 start words
--   constants           the 64 constants
--
-- These compute. Rule.antt says in words of arithmetic what they come to. Assumes nothing.
use Rattle.std.specs.Prelude.{ℕ, zero, suc, ◌+◌, ◌-◌, ◌*◌, ◌%◌, ◌^◌, Bool, true, cond, not, ◌&&◌, List, map, take, filter, ◌==◌, nat_le}
use Rattle.std.specs.List.{range_with_len}

-- none of the k numbers from d on divides n
abbrev pub undivided : ℕ → ℕ → ℕ → Bool
undivided n d zero = true
undivided n d (suc k) = not (n % d == 0) && undivided n (d + 1) k

-- a number that none from 2 up to below itself divides, of those from 2 on
abbrev pub prime : ℕ → Bool
prime n = undivided n 2 (n - 2)

abbrev pub first_primes : List ℕ
first_primes = filter prime (range_with_len 2 310)

-- the largest c with c ^ e ≤ n, if it lies between so_far and so_far + 2 ^ k: bit by bit, the highest first
abbrev pub root_from : ℕ → ℕ → ℕ → ℕ → ℕ
root_from e n zero so_far = so_far
root_from e n (suc k) so_far = root_from e n k (cond (nat_le ((so_far + 2 ^ k) ^ e) n) (so_far + 2 ^ k) so_far)

-- below 2 ^ 40, as the roots here are
abbrev pub root : ℕ → ℕ → ℕ
root e n = root_from e n 40 0

-- the root of p · 2 ^ 32e is that of p with 32 bits of its fraction
abbrev pub fraction : ℕ → ℕ → ℕ
fraction e p = root e (p * 2 ^ (32 * e)) % 2 ^ 32

unfoldable pub start_words : List ℕ
start_words = map (fraction 2) (take 8 first_primes)

unfoldable pub constants : List ℕ
constants = map (fraction 3) (take 64 first_primes)
