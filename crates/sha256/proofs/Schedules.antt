-- Making the schedule in place: the words so far, extended, are the schedule at every step. Assumes nothing.
use Rattle.std.proofs.Common.{◌≡◌, ℕ, suc, ◌+◌, ◌-◌, ◌<◌, ◌≤◌, List, [], ◌∷◌, ◌++◌, length, take, set, sym, ap, ◌∙◌, arith}
use Rattle.std.proofs.lemmas.List.{get_or-take, length-take-le, take_all, take_more_set}
use Rattle.sha256.specs.Rounds.{next_word, extended}

-- a word depends on those before it alone
pub next_word-take : (words : List ℕ) (t : ℕ) → 16 ≤ t → next_word (take t words) t ≡ next_word words t
next_word-take words t past =
    rw (get_or-take t words (t - 2) 0 (omega arith), get_or-take t words (t - 7) 0 (omega arith), get_or-take t words (t - 15) 0 (omega arith), get_or-take t words (t - 16) 0 (omega arith))

-- one word more
pub extended_more : (words : List ℕ) (t x : ℕ) → 16 ≤ t → t < 64 → length words ≡ 64 → x ≡ next_word words t
    → extended (64 - t) (take t words) ≡ extended (64 - (t + 1)) (take (t + 1) (set words t x))
unfolding extended
extended_more words t x past within long made =
    let one_less : 64 - t ≡ suc (64 - (t + 1)) = omega arith in
    let size : length (take t words) ≡ t = length-take-le t words (omega arith) in
    let inside : t < length words = omega arith in
    let next : next_word (take t words) (length (take t words)) ≡ x = rw size (next_word-take words t past ∙ sym made) in
    rw (one_less, take_more_set) (ap (λ w. extended (64 - (t + 1)) (take t words ++ (w ∷ []))) next)

pub extended_all : (words : List ℕ) (t : ℕ) → 64 ≤ t → length words ≡ 64 → extended (64 - t) (take t words) ≡ words
unfolding extended
extended_all words t past long =
    let none : 64 - t ≡ 0 = omega arith in
    rw none (take_all t words (omega arith))
