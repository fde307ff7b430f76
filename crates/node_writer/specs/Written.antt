-- What a writer has written so far.
--
--   last_key     the key of the last entry
--   Written      these entries stand in the buffer, up to where the writer is
--
-- A byte string is a list of numbers, and c is the code byte of the digest kind. Assumes nothing.
use Rattle.std.specs.Prelude.{◌≡◌, ℕ, ◌+◌, List, [], ◌∷◌, ◌++◌, length, take}
use Rattle.node.specs.Format.{Entry, entries, opening}
use Rattle.node.specs.Values.{key_before}
use Rattle.node_writer.specs.declared.writer.NodeWriter.{NodeWriter}

-- of entries that follow a key
abbrev pub last_key : List ℕ → List Entry → List ℕ
last_key before [] = before
last_key before (e ∷ es) = last_key e.key es

pub record Written (c count : ℕ) (es : List Entry) (w : NodeWriter) (out : List ℕ) : Type 0 where
  -- what stands there
  pub bytes : take w.at out ≡ opening count ++ entries c [] es
  -- how many entries are to come
  pub rest : w.left + length es ≡ count
  -- which key the next one follows
  pub follows : key_before w.last ≡ last_key [] es
