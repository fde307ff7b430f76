-- What the code's entries and links mean.
--
--   link_of      the digest that a link has, if it is one
--   entry_of     an entry
--   key_before   the bytes of the key that an entry follows
--
-- Assumes nothing.
use Rattle.std.specs.Prelude.{ℕ, List, [], Some, None, Option}
use Rattle.keys.specs.Key.{key_bytes}
use Rattle.keys.specs.declared.key.Key.{Key}
use Rattle.digest.specs.declared.digest.Digest.{Digest}
use Rattle.node.specs.Format as format
use Rattle.node.specs.declared.entry.Entry.{Entry}

abbrev pub link_of : Option Digest → Option (List ℕ)
link_of None = None
link_of (Some d) = Some d.bytes

abbrev pub entry_of : Entry → format.Entry
entry_of e = record { key = key_bytes e.key; value = e.value.bytes; after = link_of e.after }

-- before the first entry there is none
abbrev pub key_before : Option Key → List ℕ
key_before None = []
key_before (Some key) = key_bytes key
