-- Worked examples of nodes and their bytes.
--
--   empty_bytes    the node of the empty map
--   lesson         with Fold: key 61 with record 62, alone in its node
--   lesson_bytes   its 61 bytes
--   WorkedNodes    what the definitions say of them, and of the keys rm/12 and rm/3 in one node
--
-- Assumes nothing.
use Rattle.std.specs.Prelude.{◌≡◌, ℕ, List, [], ◌∷◌, ◌++◌, length, replicate, Some, None, codes, Option}
use Rattle.digest.specs.Fold.{fold}
use Rattle.node.specs.Decode.{decode}
use Rattle.node.specs.Format.{Node, encode, entry, entry_parts}

abbrev pub empty : Node
empty = record { first = None; entries = [] }

abbrev pub empty_bytes : List ℕ
empty_bytes = 0xA2 ∷ (0x61 ∷ (0x65 ∷ (0x80 ∷ (0x61 ∷ (0x6C ∷ (0xF6 ∷ []))))))

abbrev pub lesson : Node
lesson = record { first = None; entries = record { key = 0x61 ∷ []; value = fold.hash (0x62 ∷ []); after = None } ∷ [] }

abbrev pub lesson_bytes : List ℕ
lesson_bytes =
    0xA2 ∷ (0x61 ∷ (0x65 ∷ (0x81 ∷ (0xA4 ∷ (0x61 ∷ (0x6B ∷ (0x41 ∷ (0x61 ∷ (0x61 ∷ (0x70 ∷ (0x00 ∷ (0x61 ∷ (0x74 ∷ (0xF6 ∷ (0x61 ∷ (0x76
    ∷ (0xD8 ∷ (0x2A ∷ (0x58 ∷ (0x25 ∷ (0x00 ∷ (0x01 ∷ (0x71 ∷ (0x00 ∷ (0x20 ∷ (0x62 ∷ (replicate 31 0x00
    ++ (0x61 ∷ (0x6C ∷ (0xF6 ∷ []))))))))))))))))))))))))))))))

pub record WorkedNodes : Type 0 where
  -- under every kind
  pub empty_node : (c : ℕ) → encode c empty ≡ empty_bytes
  pub one_lesson : encode fold.code lesson ≡ lesson_bytes
  pub one_lesson_length : length lesson_bytes ≡ 61
  pub one_lesson_back : decode fold.code lesson_bytes ≡ Some lesson
  -- p is 3 and k is 33, whatever the links
  pub shared_front : (c : ℕ) (value : List ℕ) (after : Option (List ℕ))
      → entry c (codes "rm/12") (record { key = codes "rm/3"; value = value; after = after }) ≡ entry_parts c (0x33 ∷ []) 3 after value
