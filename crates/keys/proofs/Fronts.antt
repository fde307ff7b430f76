-- What two byte strings share at the front. Assumes nothing.
use Rattle.std.proofs.Common.{◌≡◌, ℕ, zero, suc, ◌+◌, ◌-◌, ◌<◌, ◌≤◌, Bool, nat_eq, List, [], ◌∷◌, ◌++◌, length, get_or, take, drop, min, ap, refl, ◌∙◌, arith}
use Rattle.std.proofs.lemmas.List.{get_or-append_right, length-append, length-take-le, take-append-drop}
use Rattle.std.proofs.lemmas.List.Folds.{length-prefix_len}
use Rattle.std.proofs.lemmas.Bool.{ne_eqb}
use Rattle.std.proofs.lemmas.Bool.Decides.{nat_tests}
use Rattle.std.specs.List.{zip, prefix_len}
use Rattle.keys.specs.Shared.{shared, LongestShared}

pub shared_self : (a : List ℕ) → shared a a ≡ length a
shared_self [] = refl
shared_self (x ∷ a) = let rest = shared_self a in grind (arith, nat_tests)

pub shared_left : (a b : List ℕ) → shared a b ≤ length a
shared_left [] b = omega arith
shared_left (x ∷ a) [] = omega arith
shared_left (x ∷ a) (y ∷ b) = let rest = shared_left a b in grind arith

pub shared_right : (a b : List ℕ) → shared a b ≤ length b
shared_right [] b = omega arith
shared_right (x ∷ a) [] = omega arith
shared_right (x ∷ a) (y ∷ b) = let rest = shared_right a b in grind arith

pub shared_same : (a b : List ℕ) → take (shared a b) a ≡ take (shared a b) b
shared_same [] b = refl
shared_same (x ∷ a) [] = refl
shared_same (x ∷ a) (y ∷ b) = let rest = shared_same a b in grind (arith, nat_tests)

-- a common front is no longer than what is shared
pub shared_longest : (a b : List ℕ) (m : ℕ) → m ≤ length a → m ≤ length b → take m a ≡ take m b → m ≤ shared a b
shared_longest a b zero l r same = omega arith
shared_longest [] b (suc m) l r same = omega arith
shared_longest (x ∷ a) [] (suc m) l r same = omega arith
shared_longest (x ∷ a) (y ∷ b) (suc m) l r same =
    let rest = shared_longest a b m (omega arith) (omega arith) in
    grind (arith, nat_tests)

-- two strings side by side, byte by byte
abbrev pub same_bytes : ℕ × ℕ → Bool
same_bytes p = nat_eq p.0 p.1

-- the pairs up to the first of two different bytes are as many as are shared
prefix_len-zip : (a b : List ℕ) → prefix_len same_bytes (zip a b) ≡ shared a b
prefix_len-zip [] b = refl
prefix_len-zip (x ∷ a) [] = refl
prefix_len-zip (x ∷ a) (y ∷ b) = let rest = prefix_len-zip a b in grind (arith, nat_tests)

pub length-zip_front : (a b : List ℕ) → length (take (prefix_len same_bytes (zip a b)) (zip a b)) ≡ shared a b
length-zip_front a b = length-prefix_len same_bytes (zip a b) ∙ prefix_len-zip a b

-- two strings side by side end with the shorter, so that both may be cut where it ends
pub zip_cut : (n : ℕ) (a b : List ℕ) → min (length a) (length b) ≤ n → zip (take n a) (take n b) ≡ zip a b
zip_cut zero [] b past = refl
zip_cut (suc n) [] b past = refl
zip_cut zero (x ∷ a) [] past = refl
zip_cut (suc n) (x ∷ a) [] past = refl
zip_cut zero (x ∷ a) (y ∷ b) past = grind arith
zip_cut (suc n) (x ∷ a) (y ∷ b) past = ap (λ pairs. (x, y) ∷ pairs) (zip_cut n a b (omega arith))

pub longest_shared : (a b : List ℕ) (n : ℕ) → n ≡ shared a b → LongestShared a b n
longest_shared a b n is =
    rw is record { left = shared_left a b; right = shared_right a b; same = shared_same a b; longest = shared_longest a b }

-- the second string, from the first and the bytes past what is shared
pub shared_rebuilds : (a b : List ℕ) → take (shared a b) a ++ drop (shared a b) b ≡ b
shared_rebuilds a b = rw (shared_same a b) (take-append-drop (shared a b) b)

-- a common front counts in full
pub shared_common : (p a b : List ℕ) → shared (p ++ a) (p ++ b) ≡ length p + shared a b
shared_common [] a b = omega arith
shared_common (x ∷ p) a b = let rest = shared_common p a b in grind (arith, nat_tests)

-- the byte after what is shared differs
pub shared_apart : (a b : List ℕ) → shared a b < length a → shared a b < length b → get_or a (shared a b) 0 ≡ get_or b (shared a b) 0 → ⊥
shared_apart [] b l r e = omega arith
shared_apart (x ∷ a) [] l r e = omega arith
shared_apart (x ∷ a) (y ∷ b) l r e = let rest = shared_apart a b in grind (arith, ne_eqb)

-- the front of a string, and a tail that does not go on as the string does
pub record Branches (a : List ℕ) (p : ℕ) (tail : List ℕ) : Type 0 where
  pub within : p ≤ length a
  pub apart : p < length a → 0 < length tail → get_or a p 0 ≡ get_or tail 0 0 → ⊥

pub shared_front : (a : List ℕ) (p : ℕ) (tail : List ℕ) → Branches a p tail → shared a (take p a ++ tail) ≡ p
shared_front [] zero tail h = refl
shared_front (x ∷ a) zero [] h = refl
shared_front (x ∷ a) zero (y ∷ tail) h = let differ = h.apart (omega arith) (omega arith) in grind arith
shared_front [] (suc p) tail h = omega (arith, h.within)
shared_front (x ∷ a) (suc p) tail h =
    let rest = shared_front a p tail (record { within = omega (arith, h.within); apart = λ l r. h.apart (omega arith) r }) in
    grind arith

-- and only then
pub shared_front_branches : (a : List ℕ) (p : ℕ) (tail : List ℕ) → shared a (take p a ++ tail) ≡ p → Branches a p tail
shared_front_branches a p tail is =
    let within : p ≤ length a = omega (arith, shared_left a (take p a ++ tail)) in
    let size = length-take-le p a within in
    let all = length-append (take p a) tail in
    let first : get_or (take p a ++ tail) p 0 ≡ get_or tail (p - p) 0 = get_or-append_right (take p a) tail p p 0 size (omega arith) in
    let none : p - p ≡ 0 = omega arith in
    record { within = within; apart = λ l r e. shared_apart a (take p a ++ tail) (omega arith) (omega arith) (cc) }
