-- Summing a message column by column: what is summed and what is left give the digest at every step. Assumes nothing.
use Rattle.std.proofs.Common.{◌≡◌, ℕ, ◌+◌, ◌%◌, ◌<◌, ◌≤◌, cond, eqb, List, length, get_or, drop, set, replicate, sym, ap, ⊎_elim, arith}
use Rattle.std.proofs.lemmas.List.FromFn.{fill_by_all}
use Rattle.std.proofs.lemmas.List.{at_drop_more, at_drop_all, get_or-set_same, get_or-set_other, get_or-replicate}
use Rattle.std.proofs.lemmas.Bool.{cases_eq, eq-eqb, ne_eqb, cond-true, cond-false}
use Rattle.digest.specs.Fold.{column, fold_byte, fold_hash}

-- the sums so far, each a byte, and the bytes from position p on come to the digest
abbrev pub Summed : List ℕ → ℕ → List ℕ → Type 0
Summed message p sums =
    (i : ℕ) → i < 32 → (get_or sums i 0 < 256) × ((get_or sums i 0 + column i p (drop p message)) % 256 ≡ fold_byte message i)

pub summed_none : (message : List ℕ) → Summed message 0 (replicate 32 0)
summed_none message i h =
    let none : ◌≡◌ {A = ℕ} (get_or (replicate 32 0) i 0) 0 = get_or-replicate 32 i 0 0 h in
    (omega arith, omega arith)

pub summed_more : (message sums : List ℕ) (p : ℕ) → p < length message → length sums ≡ 32 → Summed message p sums
    → Summed message (p + 1) (set sums (p % 32) ((get_or sums (p % 32) 0 + get_or message p 0) % 256))
summed_more message sums p within long so_far i h =
    let step : column i p (drop p message) ≡ cond (eqb (p % 32) i) (get_or message p 0) 0 + column i (p + 1) (drop (p + 1) message)
    = at_drop_more (column i p) message p 0 within in
    let inside : p % 32 < length sums = omega arith in
    let sum = (get_or sums (p % 32) 0 + get_or message p 0) % 256 in
    ⊎_elim
    (λ (here : p % 32 ≡ i).
    let added : cond (eqb (p % 32) i) (get_or message p 0) 0 ≡ get_or message p 0 = cond-true _ _ _ (eq-eqb _ _ here) in
    let set_here : get_or (set sums (p % 32) sum) i 0 ≡ sum = rw (sym here) (get_or-set_same sums (p % 32) sum 0 inside) in
    let old : get_or sums (p % 32) 0 ≡ get_or sums i 0 = ap (λ k. get_or sums k 0) here in
    (omega arith, omega (arith, (so_far i h).1)))
    (λ elsewhere.
    let added : cond (eqb (p % 32) i) (get_or message p 0) 0 ≡ 0 = cond-false _ _ _ (ne_eqb _ _ elsewhere) in
    let kept = get_or-set_other sums (p % 32) i sum 0 (λ e. elsewhere (sym e)) in
    (omega (arith, (so_far i h).0), omega (arith, (so_far i h).1)))
    (cases_eq (p % 32) i)

pub summed_all : (message sums : List ℕ) (p : ℕ) → length message ≤ p → length sums ≡ 32 → Summed message p sums → sums ≡ fold_hash message
unfolding fold_hash
summed_all message sums p past long all =
    fill_by_all (fold_byte message) sums 32 0 long
    (λ i h. omega (arith, (all i h).0, (all i h).1, at_drop_all (column i p) message p past))
