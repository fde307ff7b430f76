-- The blocks of a padded message: those of the message, and those of its padded rest. Assumes nothing.
use Rattle.std.proofs.Common.{◌≡◌, ℕ, zero, suc, ◌+◌, ◌*◌, ◌/◌, ◌≤◌, List, ◌∷◌, ◌++◌, length, take, drop, refl, ap, suc-mul, add_comm, suc-add, zero-add, zero-mul, arith}
use Rattle.std.specs.Simd.{first_chunks}
use Rattle.std.proofs.lemmas.List.{drop-append-le, drop-drop, length-append, length-drop, take-append-le}
use Rattle.sha256.specs.Padding.{blocks, padded, padding}

chunked_append : (n k j : ℕ) (xs : List ℕ) → first_chunks n (k + j) xs ≡ first_chunks n k xs ++ first_chunks n j (drop (k * n) xs)
chunked_append n zero j xs = rw (zero-add, zero-mul)
chunked_append n (suc k) j xs =
    let past : drop (suc k * n) xs ≡ drop (k * n) (drop n xs) = rw (drop-drop, suc-mul, add_comm (k * n) n) in
    rw (suc-add, past) (ap (λ rest. take n xs ∷ rest) (chunked_append n k j (drop n xs)))

chunked_front : (n k : ℕ) (xs ys : List ℕ) → k * n ≤ length xs → first_chunks n k (xs ++ ys) ≡ first_chunks n k xs
chunked_front n zero xs ys room = refl
chunked_front n (suc k) xs ys room =
    let one : n ≤ length xs = omega (arith, suc-mul k n) in
    let rest : k * n ≤ length (drop n xs) = omega (arith, suc-mul k n, length-drop n xs) in
    rw (take-append-le n xs ys one, drop-append-le n xs ys one) (ap (λ more. take n xs ∷ more) (chunked_front n k (drop n xs) ys rest))

pub blocks-padded : (message : List ℕ)
    → blocks (padded message)
    ≡ first_chunks 64 (length message / 64) message ++ blocks (drop (length message / 64 * 64) message ++ padding (length message))
unfolding blocks padded
blocks-padded message =
    let n = length message in
    let q = n / 64 in
    let end = padding n in
    let whole : q * 64 ≤ n = omega arith in
    let tail : drop (q * 64) (message ++ end) ≡ drop (q * 64) message ++ end = drop-append-le (q * 64) message end whole in
    let count : length (message ++ end) / 64 ≡ q + length (drop (q * 64) message ++ end) / 64
    = omega (arith, length-append message end, length-append (drop (q * 64) message) end, length-drop (q * 64) message) in
    rw (count, chunked_append 64 q (length (drop (q * 64) message ++ end) / 64) (message ++ end), tail)
    (ap (λ front. front ++ first_chunks 64 (length (drop (q * 64) message ++ end) / 64) (drop (q * 64) message ++ end)) (chunked_front 64 q message end whole))
