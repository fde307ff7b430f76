-- How long keys and records are.
--
--   KeySized      a length that a key may have
--   RecordSized   a length that a record may have
--   Joins         the front of a string and a tail make a key
--
-- Assumes nothing.
use Rattle.std.specs.Prelude.{ℕ, ◌+◌, ◌≤◌, List, length}

-- from 1 to 64 bytes
pub record KeySized (n : ℕ) : Type 0 where
  pub some : 1 ≤ n
  pub short : n ≤ 64

-- up to 4,096 bytes, and none too
abbrev pub RecordSized : ℕ → Type 0
RecordSized n = n ≤ 4096

-- the string has the n bytes that are kept, and with the tail they are as many as a key may have
pub record Joins (a : List ℕ) (n : ℕ) (tail : List ℕ) : Type 0 where
  pub within : n ≤ length a
  pub sized : KeySized (n + length tail)
