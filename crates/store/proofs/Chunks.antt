-- Memory that is cut into pieces of one size: where a piece stands, and that writing one leaves the others. Kinds of store that live in lent
-- memory cite this. Assumes nothing.
use Rattle.std.proofs.Common.{◌≡◌, ℕ, zero, suc, ◌+◌, ◌*◌, ◌/◌, ◌<◌, ◌≤◌, List, [], ◌∷◌, length, get_or, take, drop, set, refl, ap, mul-le-mul_right, suc-mul, zero-mul, arith}
use borrow.Rule.Slice.PartMut.{put_mid}
use Rattle.std.proofs.Math.Nat.{div-mul-le_self}
use Rattle.std.specs.Simd.{first_chunks}
use Rattle.std.proofs.lemmas.List.{drop_at, drop-append-le, drop-drop, drop-take, length-append, length-drop, length-take, take_at}
use Rattle.std.proofs.lemmas.Slice.{take-put_mid_below}

pub length_chunked : (n k : ℕ) (m : List ℕ) → length (first_chunks n k m) ≡ k
length_chunked n zero m = refl
length_chunked n (suc k) m = ap suc (length_chunked n k (drop n m))

pub getD_chunked : (n k i : ℕ) (m : List ℕ) → i < k → get_or (first_chunks n k m) i [] ≡ take n (drop (i * n) m)
getD_chunked n zero i m within = absurd (omega arith)
getD_chunked n (suc k) zero m within = grind (arith, zero-mul)
getD_chunked n (suc k) (suc i) m within = grind (arith, drop-drop, suc-mul, getD_chunked n k i (drop n m))

-- a write past the first bytes is a write to the rest
later : (n j k : ℕ) (m w : List ℕ) → n ≤ length m → drop n (put_mid (n + j) k m w) ≡ put_mid j k (drop n m) w
later n j k m w room = grind (arith, length-take, drop-append-le, drop-take, drop-drop)

pub chunked_put : (n k i : ℕ) (m w : List ℕ) → i < k → k * n ≤ length m → length w ≡ n → first_chunks n k (put_mid (i * n) n m w) ≡ set (first_chunks n k m) i w
chunked_put n zero i m w within room long = absurd (omega arith)
chunked_put n (suc k) zero m w within room long = grind (arith, zero-mul, take_at, drop_at)
chunked_put n (suc k) (suc i) m w within room long =
    let one : n ≤ length m = omega (arith, suc-mul k n) in
    let rest : k * n ≤ length (drop n m) = omega (arith, suc-mul k n, length-drop n m) in
    let below : i * n ≤ k * n = mul-le-mul_right n (omega arith) in
    let inside : n + i * n ≤ length m = omega (arith, suc-mul k n) in
    let at : suc i * n ≡ n + i * n = omega (arith, suc-mul i n) in
    rw (at, take-put_mid_below (n + i * n) n m w n (omega arith) inside, later n (i * n) n m w one)
    (ap (λ more. take n m ∷ more) (chunked_put n k i (drop n m) w (omega arith) rest long))

pub length-put : (a k : ℕ) (m w : List ℕ) → a + k ≤ length m → length w ≡ k → length (put_mid a k m w) ≡ length m
length-put a k m w room long = grind (arith, length-append, length-take, length-drop)

-- a whole piece is written in memory that is cut into as many as it has
pub piece_written : (n i : ℕ) (m w : List ℕ) → i < length m / n → length w ≡ n → first_chunks n (length (put_mid (i * n) n m w) / n) (put_mid (i * n) n m w) ≡ set (first_chunks n (length m / n) m) i w
piece_written n i m w within long =
    let all : length m / n * n ≤ length m = div-mul-le_self (length m) n in
    let upto : suc i * n ≤ length m / n * n = mul-le-mul_right n (omega arith) in
    let size = length-put (i * n) n m w (omega (arith, suc-mul i n)) long in
    rw size (chunked_put n (length m / n) i m w within all long)
