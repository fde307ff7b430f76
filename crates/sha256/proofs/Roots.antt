-- The root is the largest number whose power fits, so that the tables have what their rule says. Assumes nothing.
use Rattle.std.proofs.Common.{◌≡◌, ℕ, zero, suc, ◌+◌, ◌*◌, ◌^◌, ◌<◌, ◌≤◌, Bool, true, false, cond, leb, List, map, length, get_or, take, sym, refl, ap, ◌∙◌, subst, pow-suc, arith}
use Rattle.std.specs.List.{AllByRecursion}
use Rattle.std.proofs.ByRecursion.{All-get_or}
use Rattle.std.proofs.lemmas.List.{get_or-map, get_or-take, length-map, length-take}
use Rattle.std.proofs.lemmas.Bool.{leb-true, leb-false}
use Rattle.sha256.specs.Constants.{first_primes, root_from, root, fraction, start_words, constants}
use Rattle.sha256.specs.Rule.{LargestPower, PrimesAfter, RootFractions}
use Rattle.sha256.proofs.Primes.{first_primes-below, first_primes_first}

root_largest : (e n k so_far : ℕ) → so_far ^ e ≤ n → n < (so_far + 2 ^ k) ^ e → LargestPower e n (root_from e n k so_far)
root_largest e n zero so_far fits next = record { fits = fits; next = next }
root_largest e n (suc k) so_far fits next = go (leb ((so_far + 2 ^ k) ^ e) n) refl (root_largest e n k)
  where
    go : (t : Bool) → leb ((so_far + 2 ^ k) ^ e) n ≡ t
        → ((c : ℕ) → c ^ e ≤ n → n < (c + 2 ^ k) ^ e → LargestPower e n (root_from e n k c))
        → LargestPower e n (root_from e n k (cond t (so_far + 2 ^ k) so_far))
    go true passed step =
        let twice : so_far + 2 ^ suc k ≡ so_far + 2 ^ k + 2 ^ k = omega (arith, pow-suc 2 k) in
        step (so_far + 2 ^ k) (leb-true _ _ passed) (subst (λ x. n < x ^ e) twice next)
    go false failed step = step so_far fits (leb-false _ _ failed)

-- each of the first k primes ps below a bound has the root that its fraction comes from
fractions : (e k bound : ℕ) (ps : List ℕ) → PrimesAfter 0 ps → AllByRecursion (λ p. p < bound) ps
    → ((p : ℕ) → p < bound → LargestPower e (p * 2 ^ (32 * e)) (root e (p * 2 ^ (32 * e)))) → RootFractions e (map (fraction e) (take k ps))
fractions e k bound ps first small largest = record {
  primes = ps;
  first = first;
  many = simp (length-map, length-take) (omega arith);
  each = λ i within.
      let few : i < length (take k ps) = rw (sym (length-map (take k ps) (fraction e))) within in
      let in-k : i < k = omega (arith, length-take k ps) in
      let in-ps : i < length ps = omega (arith, length-take k ps) in
      record {
        c = root e (get_or ps i 0 * 2 ^ (32 * e));
        largest = largest (get_or ps i 0) (All-get_or (λ p. p < bound) ps i 0 in-ps small);
        low_bits = get_or-map (fraction e) (take k ps) i 0 0 few ∙ ap (fraction e) (get_or-take k ps i 0 in-k);
      };
}

square_roots : (p : ℕ) → p < 312 → LargestPower 2 (p * 2 ^ (32 * 2)) (root 2 (p * 2 ^ (32 * 2)))
square_roots p small = root_largest 2 (p * 2 ^ (32 * 2)) 40 0 (omega arith) (omega arith)

cube_roots : (p : ℕ) → p < 312 → LargestPower 3 (p * 2 ^ (32 * 3)) (root 3 (p * 2 ^ (32 * 3)))
cube_roots p small = root_largest 3 (p * 2 ^ (32 * 3)) 40 0 (omega arith) (omega arith)

pub start_words_rule : RootFractions 2 start_words
unfolding start_words
start_words_rule = fractions 2 8 312 first_primes first_primes_first first_primes-below square_roots

pub constants_rule : RootFractions 3 constants
unfolding constants
constants_rule = fractions 3 64 312 first_primes first_primes_first first_primes-below cube_roots
