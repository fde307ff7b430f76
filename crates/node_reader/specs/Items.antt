-- The items of a block, one by one.
--
--   Value        an item as a value
--   item_bytes   its bytes
--   Sized        an item of a size that a node has
--   value_of     what the code's items mean
--   Lends        what an item lends is that part of the block
--   ReadsItem    an item stands at a place, and what it lends is that part of the block
--   NoItem       none does
--
-- c is the code byte of the digest kind. Assumes nothing.
use Rattle.std.specs.Prelude.{◌≡◌, ℕ, ◌+◌, ◌-◌, ◌<◌, ◌≤◌, List, [], ◌∷◌, ◌++◌, length}
use Rattle.node.specs.Format.{head, link}
use Rattle.node_reader.specs.Stands.{Stands, Absent, Part}
use Rattle.node_reader.specs.declared.item.Item.{Item}
use Rattle.node_reader.specs.declared.item.Item.TheVariants.{Number, Bytes, Text, Array, Map, Link, Null}

-- of an array and a map the number of its elements or pairs, which follow as items of their own
pub data Value : Type 0 where
  number : ℕ → Value
  byte_string : List ℕ → Value
  text : List ℕ → Value
  array_of : ℕ → Value
  map_of : ℕ → Value
  digest : List ℕ → Value
  null : Value

abbrev pub item_bytes : ℕ → Value → List ℕ
item_bytes c (number n) = head 0x00 n
item_bytes c (byte_string b) = head 0x40 (length b) ++ b
item_bytes c (text t) = head 0x60 (length t) ++ t
item_bytes c (array_of n) = head 0x80 n
item_bytes c (map_of n) = head 0xA0 n
item_bytes c (digest d) = link c d
item_bytes c null = 0xF6 ∷ []

-- lengths and numbers of one byte, digests of 32
abbrev pub Sized : Value → Type 0
Sized (number n) = n < 256
Sized (byte_string b) = length b < 256
Sized (text t) = length t < 256
Sized (array_of n) = n < 256
Sized (map_of n) = n < 256
Sized (digest d) = length d ≡ 32
Sized null = Unit {0}

abbrev pub value_of : Item → Value
value_of (Number n) = number n
value_of (Bytes b at) = byte_string b.now
value_of (Text t at) = text t.now
value_of (Array n) = array_of n
value_of (Map n) = map_of n
value_of (Link d at) = digest d.now
value_of Null = null

-- what is lent is the part of the block from its offset on, up to the end of the item
abbrev pub Lends : List ℕ → ℕ → Item → Type 0
Lends s end (Number n) = Unit {0}
Lends s end (Bytes b at) = Part s b.now at × (at + length b.now ≡ end)
Lends s end (Text t at) = Part s t.now at × (at + length t.now ≡ end)
Lends s end (Array n) = Unit {0}
Lends s end (Map n) = Unit {0}
Lends s end (Link d at) = Part s d.now at × (at + length d.now ≡ end)
Lends s end Null = Unit {0}

pub record ReadsItem (s : List ℕ) (at c : ℕ) (i : Item) (end : ℕ) : Type 0 where
  pub sized : Sized (value_of i)
  pub stands : Stands s at (item_bytes c (value_of i)) end
  pub lends : Lends s end i

abbrev pub NoItem : List ℕ → ℕ → ℕ → Type 0
NoItem s at c = (v : Value) → Sized v → Absent s at (item_bytes c v)

-- no head of this kind, no string of this kind, no link stands there
abbrev pub NoHead : List ℕ → ℕ → ℕ → Type 0
NoHead s at m = (n : ℕ) → n < 256 → Absent s at (head m n)

abbrev pub NoString : List ℕ → ℕ → ℕ → Type 0
NoString s at m = (b : List ℕ) → length b < 256 → Absent s at (head m (length b) ++ b)

abbrev pub NoLink : List ℕ → ℕ → ℕ → Type 0
NoLink s at c = (d : List ℕ) → length d ≡ 32 → Absent s at (link c d)

-- a string of kind m stands at `at`, its bytes from `from` to `end`
pub record ReadsString (s : List ℕ) (at m : ℕ) (b : List ℕ) (end : ℕ) : Type 0 where
  pub short : length b < 256
  pub stands : Stands s at (head m (length b) ++ b) end
  pub ends : length b ≤ end
  pub part : Part s b (end - length b)

pub record ReadsLink (s : List ℕ) (at c : ℕ) (d : List ℕ) (end : ℕ) : Type 0 where
  pub long : length d ≡ 32
  pub stands : Stands s at (link c d) end
  pub ends : length d ≤ end
  pub part : Part s d (end - length d)
