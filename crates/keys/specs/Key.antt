-- What a key means, and when one is made.
--
--   key_bytes   the bytes of a key
--   Made        a key of these bytes, exactly where a condition holds
--
-- Assumes nothing.
use Rattle.std.specs.Prelude.{◌≡◌, ℕ, List, take, Some, None, Option}
use Rattle.keys.specs.declared.key.Key.{Key}

-- those at the start of its room
unfoldable pub key_bytes : Key → List ℕ
key_bytes key = take key.len key.bytes

-- of an answer: a key where P holds, whose bytes are s, and none where it does not
abbrev pub Made : Option Key → Type 0 → List ℕ → Type 0
Made None P s = P → ⊥
Made (Some key) P s = P × (key_bytes key ≡ s)
