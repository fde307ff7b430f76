-- Leading zeros of a word, and of the bytes that make it. Assumes nothing.
use Rattle.std.proofs.Common.{◌≡◌, ℕ, zero, suc, ◌+◌, ◌*◌, ◌/◌, ◌^◌, ◌<◌, ◌≤◌, List, [], ◌∷◌, ◌++◌, length, get_or, take, drop, sym, refl, ap, ◌∙◌, mul-le-mul_right, mul_assoc, suc-mul, add-mul, add_comm, pow-suc, zero-mul, arith, pow_pos, pow-add}
use lib.Count.{count_leading_zeros, leading_length, leading_top, leading_unique}
use Rattle.std.specs.Simd.{first_chunks}
use Rattle.std.specs.List.{flat_map, AllByRecursion}
use Rattle.std.proofs.ByRecursion.{All-from_get_or, All-get_or, All-take, All-drop}
use Rattle.std.proofs.lemmas.List.{append_assoc, append-nil, at_drop_more, drop_all, drop-drop, length-drop, length-take-le, take-append-drop}
use Rattle.digest.specs.Layer.{zero_bits}

-- a byte that is zero before k more bits
pub leading_zero_byte : (k r : ℕ) → r < 2 ^ k → count_leading_zeros (8 + k) r ≡ 8 + count_leading_zeros k r
leading_zero_byte k r small =
    let size = leading_length k r small in
    sym (leading_unique (8 + k) r (8 + count_leading_zeros k r) size.0 (omega (arith, size.1)) size.2 size.3)

-- a byte that is not, before k more bits
pub leading_byte : (k b r : ℕ) → 0 < b → b < 256 → r < 2 ^ k → count_leading_zeros (8 + k) (b * 2 ^ k + r) ≡ count_leading_zeros 8 b
leading_byte k b r some small rest =
    let top = leading_top 8 b some small in
    let j = top.0 in
    let split : 2 ^ (suc j + k) ≡ 2 ^ suc j * 2 ^ k = pow-add 2 (suc j) k in
    let above : suc b * 2 ^ k ≤ 2 ^ suc j * 2 ^ k = mul-le-mul_right (2 ^ k) top.3 in
    let below : 2 ^ j * 2 ^ k ≤ b * 2 ^ k = mul-le-mul_right (2 ^ k) top.2 in
    let one_more : suc b * 2 ^ k ≡ b * 2 ^ k + 2 ^ k = omega (arith, add-mul b 1 (2 ^ k)) in
    let twice : 2 ^ suc j * 2 ^ k ≡ 2 * (2 ^ j * 2 ^ k) = omega (arith, ap (λ x. x * 2 ^ k) (pow-suc 2 j), mul_assoc 2 (2 ^ j) (2 ^ k)) in
    sym (leading_unique (8 + k) (b * 2 ^ k + r) (count_leading_zeros 8 b) (suc j + k) (omega (arith, top.1)) (omega arith) (omega arith))

-- the number that bytes write, high byte first
abbrev pub big_endian : List ℕ → ℕ
big_endian [] = 0
big_endian (b ∷ bytes) = b * 2 ^ (8 * length bytes) + big_endian bytes

pub big_endian_below : (bytes : List ℕ) → AllByRecursion (λ b. b < 256) bytes → big_endian bytes < 2 ^ (8 * length bytes)
big_endian_below [] small = omega arith
big_endian_below (b ∷ bytes) (here, rest) =
    let k = 8 * length bytes in
    let split : 2 ^ (8 + k) ≡ 256 * 2 ^ k = pow-add 2 8 k in
    let width : 8 * length (b ∷ bytes) ≡ 8 + k = omega arith in
    let above : suc b * 2 ^ k ≤ 256 * 2 ^ k = mul-le-mul_right (2 ^ k) here in
    let one_more : suc b * 2 ^ k ≡ b * 2 ^ k + 2 ^ k = omega (arith, add-mul b 1 (2 ^ k)) in
    let tail = big_endian_below bytes rest in
    rw width (omega arith)

-- a word that is zero, and what follows it
pub zero_bits_zero : (word rest : List ℕ) → big_endian word ≡ 0 → zero_bits (word ++ rest) ≡ 8 * length word + zero_bits rest
unfolding zero_bits
zero_bits_zero [] rest none = omega arith
zero_bits_zero (zero ∷ word) rest none =
    let tail = zero_bits_zero word rest (omega arith) in
    omega arith
zero_bits_zero (suc b ∷ word) rest none =
    let k = 8 * length word in
    absurd (omega (arith, add-mul b 1 (2 ^ k), pow_pos k))

-- a word that is not: what follows it does not matter
pub zero_bits_word : (word rest : List ℕ) → AllByRecursion (λ b. b < 256) word → 0 < big_endian word
    → zero_bits (word ++ rest) ≡ count_leading_zeros (8 * length word) (big_endian word)
unfolding zero_bits
zero_bits_word [] rest small some = absurd (omega arith)
zero_bits_word (zero ∷ word) rest (here, small) some =
    let k = 8 * length word in
    let width : 8 * suc (length word) ≡ 8 + k = omega arith in
    let value : 0 * 2 ^ k + big_endian word ≡ big_endian word = omega arith in
    let tail = zero_bits_word word rest small (omega arith) in
    rw (width, value, tail) (sym (leading_zero_byte k (big_endian word) (big_endian_below word small)))
zero_bits_word (suc b ∷ word) rest (here, small) some =
    let k = 8 * length word in
    let width : 8 * suc (length word) ≡ 8 + k = omega arith in
    rw width (sym (leading_byte k (suc b) (big_endian word) (omega arith) here (big_endian_below word small)))

-- the bytes of words from place i on, one after the other
abbrev pub from : ℕ → List (List ℕ) → List ℕ
from i words = flat_map (λ word. word) (drop i words)

pub joined_chunks : (n k : ℕ) (bytes : List ℕ) → flat_map (λ word. word) (first_chunks n k bytes) ++ drop (k * n) bytes ≡ bytes
joined_chunks n zero bytes = rw zero-mul
joined_chunks n (suc k) bytes =
    let rest : drop (suc k * n) bytes ≡ drop (k * n) (drop n bytes) = rw (drop-drop, suc-mul, add_comm (k * n) n) in
    rw (append_assoc, rest, joined_chunks n k (drop n bytes)) (take-append-drop n bytes)

-- four bytes
abbrev pub Word : List ℕ → Type 0
Word bytes = (length bytes ≡ 4) × AllByRecursion (λ b. b < 256) bytes

pub chunks_words : (k : ℕ) (bytes : List ℕ) → k * 4 ≤ length bytes → AllByRecursion (λ b. b < 256) bytes → AllByRecursion Word (first_chunks 4 k bytes)
chunks_words zero bytes long small = tt
chunks_words (suc k) bytes long small =
    let four : length (take 4 bytes) ≡ 4 = length-take-le 4 bytes (omega (arith, suc-mul k 4)) in
    let rest = length-drop 4 bytes in
    ((four, All-take _ 4 bytes small), chunks_words k (drop 4 bytes) (omega (arith, suc-mul k 4)) (All-drop _ 4 bytes small))

pub word_value : (word : List ℕ) → length word ≡ 4
    → get_or word 0 0 * 16777216 + get_or word 1 0 * 65536 + get_or word 2 0 * 256 + get_or word 3 0 ≡ big_endian word
word_value [] four = absurd (omega arith)
word_value (a ∷ []) four = absurd (omega arith)
word_value (a ∷ (b ∷ [])) four = absurd (omega arith)
word_value (a ∷ (b ∷ (c ∷ []))) four = absurd (omega arith)
word_value (a ∷ (b ∷ (c ∷ (d ∷ [])))) four = omega arith
word_value (a ∷ (b ∷ (c ∷ (d ∷ (e ∷ rest))))) four = absurd (omega arith)

-- one word on, where it is zero
pub from_zero : (words : List (List ℕ)) (i : ℕ) → i < length words → AllByRecursion Word words → big_endian (get_or words i []) ≡ 0
    → zero_bits (from i words) ≡ 32 + zero_bits (from (i + 1) words)
from_zero words i within all none =
    let word = All-get_or Word words i [] within all in
    let step : from i words ≡ get_or words i [] ++ from (i + 1) words = at_drop_more (flat_map (λ word. word)) words i [] within in
    rw step (zero_bits_zero (get_or words i []) (from (i + 1) words) none ∙ omega (arith, word.0))

-- and where it is not
pub from_word : (words : List (List ℕ)) (i : ℕ) → i < length words → AllByRecursion Word words → 0 < big_endian (get_or words i [])
    → zero_bits (from i words) ≡ count_leading_zeros 32 (big_endian (get_or words i []))
from_word words i within all some =
    let word = All-get_or Word words i [] within all in
    let step : from i words ≡ get_or words i [] ++ from (i + 1) words = at_drop_more (flat_map (λ word. word)) words i [] within in
    let width : 8 * length (get_or words i []) ≡ 32 = omega (arith, word.0) in
    rw step (zero_bits_word (get_or words i []) (from (i + 1) words) word.1 some ∙ rw width)

-- a digest's eight words
pub record Words (bytes : List ℕ) (words : List (List ℕ)) : Type 0 where
  pub each : AllByRecursion Word words
  pub eight : length words ≡ 8
  pub all : from 0 words ≡ bytes

pub words_of : (bytes : List ℕ) (words : List (List ℕ)) → length bytes ≡ 32 → ((i : ℕ) → get_or bytes i 0 < 256)
    → words ≡ first_chunks 4 (length bytes / 4) bytes → Words bytes words
words_of bytes words long small cut =
    let count : length bytes / 4 ≡ 8 = rw long in
    let eight : words ≡ first_chunks 4 8 bytes = rw count at cut in
    let bytes_small = All-from_get_or (λ b. b < 256) bytes 0 (λ i _. small i) in
    let none_left : drop (8 * 4) bytes ≡ [] = drop_all 32 bytes (omega arith) in
    rw eight record {
      each = chunks_words 8 bytes (omega arith) bytes_small;
      eight = refl;
      all = sym (append-nil _) ∙ rw none_left at (joined_chunks 4 8 bytes);
    }
