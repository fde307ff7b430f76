-- What the calls of a writer answer.
--
--   Roomy      a buffer and a count that a node can be written with
--   Refused    they were not, and the buffer is as it was
--   Begun      a node of so many entries has been begun
--   Ended      a node has been written, and nothing behind it
--
-- Assumes nothing.
use Rattle.std.specs.Prelude.{◌≡◌, ℕ, ◌≤◌, List, [], length, take}
use Rattle.node.specs.Format.{Node, encode}
use Rattle.node_writer.specs.Put.{Kept}
use Rattle.node_writer.specs.Written.{Written}
use Rattle.node_writer.specs.declared.writer.NodeWriter.{NodeWriter}

-- the buffer has room for every node, and a node has that many entries
pub record Roomy (s : List ℕ) (count : ℕ) : Type 0 where
  pub room : 10752 ≤ length s
  pub few : count ≤ 64

pub record Refused (s t : List ℕ) (count : ℕ) : Type 0 where
  pub never : Roomy s count → ⊥
  pub same : t ≡ s

pub record Begun (s t : List ℕ) (count : ℕ) (w : NodeWriter) : Type 0 where
  pub roomy : Roomy s count
  -- with no entry yet, and so with a code of any kind
  pub written : (c : ℕ) → Written c count [] w t
  pub kept : Kept s t 0 w.at

pub record Ended (s t : List ℕ) (c : ℕ) (n : Node) (end : ℕ) : Type 0 where
  pub roomy : Roomy s (length n.entries)
  pub bytes : take end t ≡ encode c n
  pub kept : Kept s t 0 end
  pub bound : end ≤ 10752
