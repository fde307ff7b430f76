-- What is left of a node at a cursor.
--
--   Rest         the entries to come and the first link, up to the end of the block
--   Extends      a key that shares so many bytes with the one before it, and no more
--   Ends         no entry is to come
--   Steps        one entry, and what is left behind it
--   Passes       some entries, and what is left behind them
--   Closes       all entries, and the place of the end
--   Finishes     the end of a node, with its first link
--
-- c is the code byte of the digest kind. Assumes nothing.
use Rattle.std.specs.Prelude.{◌≡◌, ℕ, ◌+◌, ◌<◌, List, ◌∷◌, ◌++◌, length, take, drop, Option}
use Rattle.std.specs.List.{AllByRecursion}
use Rattle.keys.specs.Shared.{shared}
use Rattle.keys.specs.Size.{Joins}
use Rattle.node.specs.Format.{Node, closing, entries}
use Rattle.node.specs.Format as format
use Rattle.node.specs.Values.{entry_of, key_before}
use Rattle.node.specs.WellFormed.{EntryFormed, Link}
use Rattle.node.specs.declared.entry.Entry.{Entry}
use Rattle.node_reader.specs.declared.cursor.Cursor.{Cursor}

-- from the cursor on, the rest of the block s is the rest n of a node
pub record Rest (c : ℕ) (s : List ℕ) (cursor : Cursor) (n : Node) : Type 0 where
  pub count : cursor.left ≡ length n.entries
  pub each : AllByRecursion EntryFormed n.entries
  pub first : Link n.first
  pub is : drop cursor.at s ≡ entries c (key_before cursor.last) n.entries ++ closing c n.first

-- the first p bytes of the key before and then the tail are a key, and p is all that the two share
pub record Extends (before : List ℕ) (p : ℕ) (tail : List ℕ) : Type 0 where
  pub joins : Joins before p tail
  pub longest : shared before (take p before ++ tail) ≡ p

-- an entry, and then what is left
abbrev pub with_entry : format.Entry → Node → Node
with_entry e n = record { first = n.first; entries = e ∷ n.entries }

abbrev pub Ends : ℕ → List ℕ → Cursor → Type 0
Ends c s cursor = (e : format.Entry) (n : Node) → Rest c s cursor (with_entry e n) → ⊥

pub record Steps (c : ℕ) (s : List ℕ) (cursor : Cursor) (e : Entry) (next : Cursor) : Type 0 where
  pub some : 0 < cursor.left
  pub fewer : next.left + 1 ≡ cursor.left
  -- what is left begins with this entry
  pub down : (n : Node) → Rest c s cursor n → (m : Node) × (n ≡ with_entry (entry_of e) m) × Rest c s next m
  -- and what is left behind it, with this entry, is what is left
  pub up : (m : Node) → Rest c s next m → Rest c s cursor (with_entry (entry_of e) m)

-- some entries, and then what is left
abbrev pub with_entries : List format.Entry → Node → Node
with_entries es n = record { first = n.first; entries = es ++ n.entries }

-- from one cursor to another there are these entries
pub record Passes (c : ℕ) (s : List ℕ) (from to : Cursor) : Type 0 where
  pub passed : List format.Entry
  pub down : (n : Node) → Rest c s from n → (m : Node) × (n ≡ with_entries passed m) × Rest c s to m
  pub up : (m : Node) → Rest c s to m → Rest c s from (with_entries passed m)

-- from the cursor on there are just these entries, and their end stands at a place
pub record Closes (c : ℕ) (s : List ℕ) (from : Cursor) (at : ℕ) : Type 0 where
  pub passed : List format.Entry
  pub down : (n : Node) → Rest c s from n → (n.entries ≡ passed) × Link n.first × (drop at s ≡ closing c n.first)
  pub up : (first : Option (List ℕ)) → Link first → drop at s ≡ closing c first → Rest c s from (record { first = first; entries = passed })

-- the end with this first link stands at a place, and the block ends behind it
pub record Finishes (c : ℕ) (s : List ℕ) (at : ℕ) (first : Option (List ℕ)) : Type 0 where
  pub formed : Link first
  pub is : drop at s ≡ closing c first
