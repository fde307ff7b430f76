-- The bytes of a node: its one encoding in DAG-CBOR.
--
--   Entry, Node     a node as a value
--   head            a number behind the kind of item that it belongs to
--   byte_string     a byte string
--   link            a link to a block, by its digest
--   link_or_null    a link, or null where there is none
--   entry_parts     an entry from its parts
--   entry           an entry after the key before it
--   entries         entries, one after the other
--   opening         a node up to its first entry
--   closing         a node behind its last entry
--   encode          the node
--
-- A byte string is a list of numbers, and c is the code byte of the digest kind. Assumes nothing.
use Rattle.std.specs.Prelude.{ℕ, ◌+◌, cond, List, [], ◌∷◌, ◌++◌, length, drop, Some, None, Option, nat_lt}
use Rattle.keys.specs.Shared.{shared}

-- a key, the digest of its record, and the link to the node between this key and the next
pub record Entry : Type 0 where
  pub key : List ℕ
  pub value : List ℕ
  pub after : Option (List ℕ)

-- the link to the node before the first key, and the entries
pub record Node : Type 0 where
  pub first : Option (List ℕ)
  pub entries : List Entry

-- m stands for the kind of item; a number below 24 is added to it, and a larger one follows in a byte of its own
abbrev pub head : ℕ → ℕ → List ℕ
head m n = cond (nat_lt n 24) ((m + n) ∷ []) ((m + 24) ∷ (n ∷ []))

abbrev pub byte_string : List ℕ → List ℕ
byte_string b = head 0x40 (length b) ++ b

-- tag 42, a byte string of 37 bytes: 00, version 1, DAG-CBOR, the code, a digest of 32 bytes
abbrev pub link : ℕ → List ℕ → List ℕ
link c d = 0xD8 ∷ (0x2A ∷ (0x58 ∷ (0x25 ∷ (0x00 ∷ (0x01 ∷ (0x71 ∷ (c ∷ (0x20 ∷ d))))))))

abbrev pub link_or_null : ℕ → Option (List ℕ) → List ℕ
link_or_null c None = 0xF6 ∷ []
link_or_null c (Some d) = link c d

-- a map of four: "k" the rest of the key, "p" how much it shares, "t" the link after it, "v" the record's link
abbrev pub entry_parts : ℕ → List ℕ → ℕ → Option (List ℕ) → List ℕ → List ℕ
entry_parts c k p t v =
    0xA4 ∷ (0x61 ∷ (0x6B ∷ (byte_string k ++ (0x61 ∷ (0x70 ∷ (head 0x00 p
    ++ (0x61 ∷ (0x74 ∷ (link_or_null c t ++ (0x61 ∷ (0x76 ∷ link c v)))))))))))

-- the key goes without what it shares with the key before it
abbrev pub entry : ℕ → List ℕ → Entry → List ℕ
entry c before e = entry_parts c (drop (shared before e.key) e.key) (shared before e.key) e.after e.value

abbrev pub entries : ℕ → List ℕ → List Entry → List ℕ
entries c before [] = []
entries c before (e ∷ es) = entry c before e ++ entries c e.key es

-- a map of two, and "e" with the head of the array
abbrev pub opening : ℕ → List ℕ
opening count = 0xA2 ∷ (0x61 ∷ (0x65 ∷ head 0x80 count))

-- "l" with the first link
abbrev pub closing : ℕ → Option (List ℕ) → List ℕ
closing c first = 0x61 ∷ (0x6C ∷ link_or_null c first)

-- before the first entry there is no key to share with
unfoldable pub encode : ℕ → Node → List ℕ
encode c n = opening (length n.entries) ++ (entries c [] n.entries ++ closing c n.first)
