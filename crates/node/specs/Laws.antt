-- What the encoding of nodes promises.
--
--   Encodes     s is the encoding of a well-formed node
--   Encodings   the laws of encoding and decoding
--   Fits        every node fits a block
--   OfBytes     a node made of bytes has an encoding made of bytes
--
-- Assumes nothing.
use Rattle.std.specs.Prelude.{◌≡◌, ℕ, ◌<◌, ◌≤◌, List, length, Some}
use Rattle.node.specs.Decode.{decode}
use Rattle.node.specs.Format.{Node, encode}
use Rattle.node.specs.WellFormed.{Linked, WellFormed, Bytes, NodeBytes}

pub record Encodes (c : ℕ) (s : List ℕ) (n : Node) : Type 0 where
  pub formed : WellFormed n
  pub is : s ≡ encode c n

pub record Encodings (c : ℕ) : Type 0 where
  -- an encoding is that of one node, however many its entries are and however long its keys; as a list of numbers, since with more than
  -- 255 entries it is no byte string
  pub injective : (m n : Node) → Linked m → Linked n → encode c m ≡ encode c n → m ≡ n
  -- that is asked of no well-formed node
  pub linked : (n : Node) → WellFormed n → Linked n
  -- what is decoded encodes to the same bytes
  pub encodes : (s : List ℕ) (n : Node) → decode c s ≡ Some n → Encodes c s n
  -- what is encoded decodes to the same node
  pub decodes : (s : List ℕ) (n : Node) → Encodes c s n → decode c s ≡ Some n

abbrev pub Fits : ℕ → Type 0
Fits limit = (c : ℕ) (n : Node) → WellFormed n → length (encode c n) ≤ limit

abbrev pub OfBytes : Type 0
OfBytes = (c : ℕ) (n : Node) → c < 256 → WellFormed n → NodeBytes n → Bytes (encode c n)
