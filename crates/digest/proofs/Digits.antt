-- Writing two digits a byte: the digits written and those of the bytes left are the whole text at every step; and digits are text. Assumes
-- nothing.
use Rattle.std.proofs.Common.{◌≡◌, ℕ, zero, suc, true, nat_lt, ◌+◌, ◌*◌, ◌/◌, ◌%◌, ◌<◌, ◌≤◌, List, [], ◌∷◌, ◌++◌, length, get_or, take, drop, set, codes, refl, sym, ap, ◌∙◌, arith}
use Rattle.std.proofs.lemmas.Bool.Decides.{nat_tests}
use Rattle.std.proofs.lemmas.List.{append_assoc, append-nil, at_drop_more, at_drop_all, length-set, take_all, take_more_set}
use Rattle.std.specs.List.{list_all}
use Rattle.std.specs.Str.{IsAscii}
use Rattle.digest.specs.Hex.{hex_digit, hex}

-- the digits of the first i bytes stand in text
abbrev pub Written : List ℕ → ℕ → List ℕ → Type 0
Written bytes i text = take (2 * i) text ++ hex (drop i bytes) ≡ hex bytes

-- two places set, one after the other
take_two : (text : List ℕ) (i x y : ℕ) → 2 * i + 1 < length text
    → take (2 * (i + 1)) (set (set text (2 * i) x) (2 * i + 1) y) ≡ take (2 * i) text ++ (x ∷ (y ∷ []))
take_two text i x y within =
    let two : 2 * (i + 1) ≡ 2 * i + 1 + 1 = omega arith in
    let inside : 2 * i + 1 < length (set text (2 * i) x) = rw length-set within in
    let before : 2 * i < length text = omega arith in
    rw (two, take_more_set, take_more_set) (append_assoc (take (2 * i) text) (x ∷ []) (y ∷ []))

pub written_more : (bytes text : List ℕ) (i : ℕ) → i < length bytes → 2 * i + 1 < length text → Written bytes i text
    → Written bytes (i + 1) (set (set text (2 * i) (hex_digit (get_or bytes i 0 / 16))) (2 * i + 1) (hex_digit (get_or bytes i 0 % 16)))
written_more bytes text i within room so_far =
    let high = hex_digit (get_or bytes i 0 / 16) in
    let low = hex_digit (get_or bytes i 0 % 16) in
    let step : hex (drop i bytes) ≡ high ∷ (low ∷ hex (drop (i + 1) bytes)) = at_drop_more hex bytes i 0 within in
    rw take_two (append_assoc (take (2 * i) text) (high ∷ (low ∷ [])) (hex (drop (i + 1) bytes)) ∙ ap (λ rest. take (2 * i) text ++ rest) (sym step) ∙ so_far)

pub written_all : (bytes text : List ℕ) (i : ℕ) → length bytes ≤ i → length text ≤ 2 * i → Written bytes i text → text ≡ hex bytes
written_all bytes text i past full all =
    rw (at_drop_all hex bytes i past, take_all (2 * i) text full, append-nil) at all

-- bytes of which each passes the test are text
below : (xs : List ℕ) (n : ℕ) → list_all (λ b. nat_lt b 128) xs ≡ true → get_or xs n 0 < 128
below [] n all = omega arith
below (x ∷ xs) zero all = grind (arith, nat_tests)
below (x ∷ xs) (suc n) all = let rest = below xs n in grind (arith, nat_tests)

hex_digit-ascii : (n : ℕ) → hex_digit n < 128
hex_digit-ascii n = below (codes "0123456789abcdef") n refl

-- digits are text
pub hex-IsAscii : (bytes : List ℕ) → IsAscii (hex bytes)
hex-IsAscii [] i = omega arith
hex-IsAscii (b ∷ bytes) zero = hex_digit-ascii (b / 16)
hex-IsAscii (b ∷ bytes) (suc zero) = hex_digit-ascii (b % 16)
hex-IsAscii (b ∷ bytes) (suc (suc i)) = hex-IsAscii bytes i
