-- An entry as it stands in a block.
--
--   lent                    the digest that a lent link has, if it is one
--   NoLinkOrNull, NoEntry   none stands at a place
--   ReadsEntry              the parts of an entry stand at a place
--
-- c is the code byte of the digest kind. Assumes nothing.
use Rattle.std.specs.Prelude.{◌≡◌, ℕ, ◌+◌, ◌<◌, List, length, Some, None, Option}
use Rattle.std.specs.Borrow.{Bor}
use Rattle.node.specs.Format.{entry_parts, head, link_or_null}
use Rattle.node.specs.WellFormed.{Link}
use Rattle.node_reader.specs.Stands.{Absent, Part, Stands}
use Rattle.node_reader.specs.declared.entry.EntryParts.{EntryParts}

abbrev pub lent : Option (Bor (List ℕ)) → Option (List ℕ)
lent None = None
lent (Some d) = Some d.now

pub record ReadsLinkOrNull (s : List ℕ) (at c : ℕ) (t : Option (List ℕ)) (end : ℕ) : Type 0 where
  pub long : Link t
  pub stands : Stands s at (link_or_null c t) end

abbrev pub NoLinkOrNull : List ℕ → ℕ → ℕ → Type 0
NoLinkOrNull s at c = (t : Option (List ℕ)) → Link t → Absent s at (link_or_null c t)

abbrev pub NoEntry : List ℕ → ℕ → ℕ → Type 0
NoEntry s at c =
    (k : List ℕ) (p : ℕ) (t : Option (List ℕ)) (v : List ℕ) → length k < 256 → p < 256 → Link t → length v ≡ 32 → Absent s at (entry_parts c k p t v)

pub record ReadsEntry (s : List ℕ) (at c : ℕ) (e : EntryParts) (end : ℕ) : Type 0 where
  pub stands : Stands s at (entry_parts c e.rest.now e.shared (lent e.after) e.value.now) end
  pub long : Link (lent e.after)
  pub short : length e.rest.now < 256
  pub digest : length e.value.now ≡ 32
  -- the rest of the key is the block's own bytes from its place on, right behind the head of the byte string
  pub part : Part s e.rest.now e.place
  pub behind_head : e.place ≡ at + 3 + length (head 0x40 (length e.rest.now))
