-- SHA-256 as a whole, and as a digest kind.
--
--   start          the state before the first block
--   state_of       eight words as a state, and back, state_words
--   state_bytes    a state in 32 bytes
--   sha256_hash    the digest of a message
--   sha256         the kind, code 12
--
-- Assumes nothing.
use Rattle.std.specs.Prelude.{◌≡◌, ℕ, ◌/◌, ◌^◌, ◌<◌, List, [], ◌∷◌, length, slice_index, refl}
use Rattle.std.proofs.Common.{mod-lt, lit<}
use Rattle.std.specs.List.{flat_map, AllByRecursion}
use Rattle.digest.specs.Kind.{Kind}
use Rattle.sha256.specs.declared.state.State.{State}
use Rattle.sha256.specs.Constants.{start_words}
use Rattle.sha256.specs.Padding.{padded, blocks}
use Rattle.sha256.specs.Rounds.{compress_all}
use Rattle.sha256.specs.Words.{word_bytes}

-- eight words as a state
abbrev pub state_of : List ℕ → State
state_of w = record {
  a = slice_index w 0;
  b = slice_index w 1;
  c = slice_index w 2;
  d = slice_index w 3;
  e = slice_index w 4;
  f = slice_index w 5;
  g = slice_index w 6;
  h = slice_index w 7;
}

unfoldable pub start : State
start = state_of start_words

abbrev pub state_words : State → List ℕ
state_words s = s.a ∷ (s.b ∷ (s.c ∷ (s.d ∷ (s.e ∷ (s.f ∷ (s.g ∷ (s.h ∷ [])))))))

unfoldable pub state_bytes : State → List ℕ
state_bytes s = flat_map word_bytes (state_words s)

unfoldable pub sha256_hash : List ℕ → List ℕ
sha256_hash message = state_bytes (compress_all start (blocks (padded message)))

pub sha256_length : (message : List ℕ) → length (sha256_hash message) ≡ 32
unfolding sha256_hash state_bytes
sha256_length message = refl

words_below : (words : List ℕ) → AllByRecursion (λ b. b < 256) (flat_map word_bytes words)
words_below [] = tt
words_below (x ∷ words) =
    (mod-lt (x / 2 ^ 24) (lit< tt), (mod-lt (x / 2 ^ 16) (lit< tt), (mod-lt (x / 2 ^ 8) (lit< tt), (mod-lt x (lit< tt), words_below words))))

pub sha256_bytes : (message : List ℕ) → AllByRecursion (λ b. b < 256) (sha256_hash message)
unfolding sha256_hash state_bytes
sha256_bytes message = words_below (state_words (compress_all start (blocks (padded message))))

abbrev pub sha256 : Kind
sha256 = record {
  hash = sha256_hash;
  code = 0x12;
  hash_length = sha256_length;
  hash_bytes = sha256_bytes;
  code_below = lit< tt;
}
