-- The test of primes decides them, and the numbers that pass it, in order, are the first primes. Assumes nothing.
use Rattle.std.proofs.Common.{◌≡◌, ℕ, zero, suc, ◌+◌, ◌-◌, ◌%◌, ◌<◌, ◌≤◌, Bool, true, false, cond, not, eqb, ◌∷◌, filter, sym, refl, subst, ⊎_elim, arith}
use Rattle.std.specs.List.{range_with_len, AllByRecursion}
use Rattle.std.proofs.ByRecursion.{all_kept_by, All-weaker}
use Rattle.std.proofs.lemmas.Bool.{and_cases, and_parts, both_ways, cases_lt, cases_order, eqb-false, eqb-true, not-false, not-true}
use Rattle.sha256.specs.Constants.{undivided, prime, first_primes}
use Rattle.sha256.specs.Rule.{Prime, PrimesAfter}

undivided_true : (n d k : ℕ) → undivided n d k ≡ true → (x : ℕ) → d ≤ x → x < d + k → n % x ≡ 0 → ⊥
undivided_true n d zero passed x low high divides = omega arith
undivided_true n d (suc k) passed x low high divides =
    let parts = and_parts _ _ passed in
    ⊎_elim
    (λ (here : d ≡ x). eqb-false (n % d) 0 (not-true _ parts.0) (subst (λ y. n % y ≡ 0) (sym here) divides))
    (λ other. ⊎_elim (λ (later : d < x). undivided_true n (d + 1) k parts.1 x (omega arith) (omega arith) divides) (λ (before : x < d). omega arith) other)
    (cases_order d x)

undivided_false : (n d k : ℕ) → undivided n d k ≡ false → ((x : ℕ) → d ≤ x → x < d + k → n % x ≡ 0 → ⊥) → ⊥
undivided_false n d zero failed none = both_ways true failed refl
undivided_false n d (suc k) failed none =
    ⊎_elim
    (λ (here : not (eqb (n % d) 0) ≡ false). none d (omega arith) (omega arith) (eqb-true (n % d) 0 (not-false _ here)))
    (λ later. undivided_false n (d + 1) k later (λ x low high. none x (omega arith) (omega arith)))
    (and_cases _ _ failed)

prime_true : (n : ℕ) → 2 ≤ n → prime n ≡ true → Prime n
prime_true n from_two passed =
    record { from_two = from_two; undivided = λ d low high. undivided_true n 2 (n - 2) passed d low (omega arith) }

prime_false : (n : ℕ) → prime n ≡ false → Prime n → ⊥
prime_false n failed p = undivided_false n 2 (n - 2) failed (λ x low high. p.undivided x low (omega arith))

-- the primes among n numbers from a on, where none lies between p and a
kept_primes : (n a p : ℕ) → 2 ≤ a → p < a → ((r : ℕ) → p < r → r < a → Prime r → ⊥) → PrimesAfter p (filter prime (range_with_len a n))
kept_primes zero a p from_two above none = tt
kept_primes (suc n) a p from_two above none = go (prime a) refl (λ q. kept_primes n (a + 1) q (omega arith))
  where
    go : (t : Bool) → prime a ≡ t
        → ((q : ℕ) → q < a + 1 → ((r : ℕ) → q < r → r < a + 1 → Prime r → ⊥) → PrimesAfter q (filter prime (range_with_len (a + 1) n)))
        → PrimesAfter p (cond t (a ∷ filter prime (range_with_len (a + 1) n)) (filter prime (range_with_len (a + 1) n)))
    go true passed after = (above, prime_true a from_two passed, none, after a (omega arith) (λ r low high. omega arith))
    go false failed after =
        after p (omega arith)
        (λ r low high is. ⊎_elim (λ (before : r < a). none r low before is) (λ (past : a ≤ r). prime_false a failed (subst Prime (omega arith) is)) (cases_lt r a))

-- no number of a list passes its end
counting_below : (a n : ℕ) → AllByRecursion (λ x. x < a + n) (range_with_len a n)
counting_below a zero = tt
counting_below a (suc n) = (omega arith, All-weaker _ _ (λ x h. omega arith) (range_with_len (a + 1) n) (counting_below (a + 1) n))

pub first_primes-below : AllByRecursion (λ p. p < 312) first_primes
first_primes-below = all_kept_by prime (λ p. p < 312) (range_with_len 2 310) (counting_below 2 310)

pub first_primes_first : PrimesAfter 0 first_primes
first_primes_first = kept_primes 310 2 0 (omega arith) (omega arith) (λ r low high p. omega (arith, p.from_two))
