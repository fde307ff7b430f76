-- Bytes written into a buffer.
--
--   put      s with p written over its bytes from a place on
--   Puts     s became t by writing p at a place, up to an end
--   Writes   an output wrote p where it stood, and stands behind it
--   Kept     s became t by changes between two places only
--
-- Assumes nothing.
use Rattle.std.specs.Prelude.{◌≡◌, ℕ, ◌+◌, ◌≤◌, List, ◌++◌, length, take, drop}
use Rattle.node_writer.specs.declared.output.Output.{Output}

unfoldable pub put : List ℕ → ℕ → List ℕ → List ℕ
put s at p = take at s ++ (p ++ drop (at + length p) s)

pub record Puts (s t : List ℕ) (at : ℕ) (p : List ℕ) (end : ℕ) : Type 0 where
  -- it ends right behind p
  pub ends : end ≡ at + length p
  -- inside the buffer
  pub within : end ≤ length s
  -- and nothing else is changed
  pub is : t ≡ put s at p

pub record Writes (before after : Output) (p : List ℕ) : Type 0 where
  pub puts : Puts before.buffer.now after.buffer.now before.at p after.at
  -- into the same buffer, which is as long as it was
  pub same : after.buffer.ghost_name ≡ before.buffer.ghost_name
  pub size : length after.buffer.now ≡ length before.buffer.now

pub record Kept (s t : List ℕ) (from end : ℕ) : Type 0 where
  pub ordered : from ≤ end
  -- what stands before
  pub front : take from t ≡ take from s
  -- what stands behind
  pub back : drop end t ≡ drop end s
  -- and the length
  pub size : length t ≡ length s
