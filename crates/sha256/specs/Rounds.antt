-- The compression of one block (FIPS 180-4, section 6.2.2).
--
--   message_words   the 16 words of a block
--   next_word       one word more of the message schedule
--   schedule        the 64 words of a block
--   round           one round
--   rounds          a round for each constant and word
--   compress        the state after a block
--   compress_all    the state after several
--
-- Assumes nothing.
use Rattle.std.specs.Prelude.{ℕ, zero, suc, ◌-◌, List, [], ◌∷◌, ◌++◌, map, length, slice_index, fold}
use Rattle.std.specs.List.{zip}
use Rattle.std.specs.Simd.{first_chunks}
use Rattle.sha256.specs.declared.state.State.{State}
use Rattle.sha256.specs.Constants.{constants}
use Rattle.sha256.specs.Words.{add, ch, maj, Σ₀, Σ₁, σ₀, σ₁, word}

-- W(t) from the words before it
abbrev pub next_word : List ℕ → ℕ → ℕ
next_word w t = add (add (add (σ₁ (slice_index w (t - 2))) (slice_index w (t - 7))) (σ₀ (slice_index w (t - 15)))) (slice_index w (t - 16))

-- n words more
unfoldable pub extended : ℕ → List ℕ → List ℕ
extended zero w = w
extended (suc n) w = extended n (w ++ (next_word w (length w) ∷ []))

-- the sixteen words of a block
unfoldable pub message_words : List ℕ → List ℕ
message_words block = map word (first_chunks 4 16 block)

-- the words of the block, and 48 more
unfoldable pub schedule : List ℕ → List ℕ
schedule block = extended 48 (message_words block)

-- one round, with the constant k and the word w
unfoldable pub round : State → ℕ → ℕ → State
round s k w = turn (add (add (add (add s.h (Σ₁ s.e)) (ch s.e s.f s.g)) k) w) (add (Σ₀ s.a) (maj s.a s.b s.c))
  where
    turn : ℕ → ℕ → State
    turn t₁ t₂ = record { a = add t₁ t₂; b = s.a; c = s.b; d = s.c; e = add s.d t₁; f = s.e; g = s.f; h = s.g }

abbrev pub rounds : State → List ℕ → List ℕ → State
rounds s ks ws = fold (λ s p. round s p.0 p.1) s (zip ks ws)

-- the words of two states, added one by one
abbrev pub add_states : State → State → State
add_states s t = record {
  a = add s.a t.a;
  b = add s.b t.b;
  c = add s.c t.c;
  d = add s.d t.d;
  e = add s.e t.e;
  f = add s.f t.f;
  g = add s.g t.g;
  h = add s.h t.h;
}

unfoldable pub compress : State → List ℕ → State
compress s block = add_states s (rounds s constants (schedule block))

abbrev pub compress_all : State → List (List ℕ) → State
compress_all = fold compress
