-- The bytes of a slot: a name, a length, and room for a block.
--
--   slot_size      how many bytes a slot has
--   slot_name      the name
--   slot_length    the length, high byte first
--   is_used        whether the length is that of a block; the slot is unused where it is more
--   slot_block     the block of a used slot
--   big_endian     a number in four bytes, high byte first
--   filled         a slot once a name and a block are written into it
--   emptied        a slot once it is marked as unused
--
-- Assumes nothing.
use Rattle.std.specs.Prelude.{ℕ, ◌+◌, ◌*◌, ◌/◌, ◌%◌, Bool, List, [], ◌∷◌, ◌++◌, length, take, drop, nat_le, slice_index, slice_set}
use Rattle.store.specs.Meaning.{block_limit}

-- 32 + 4 + 10,752
abbrev pub slot_size : ℕ
slot_size = 10788

-- bytes 0 to 31
abbrev pub slot_name : List ℕ → List ℕ
slot_name slot = take 32 slot

-- bytes 32 to 35
abbrev pub slot_length : List ℕ → ℕ
slot_length slot = slice_index slot 32 * 16777216 + slice_index slot 33 * 65536 + slice_index slot 34 * 256 + slice_index slot 35

-- a length beyond the limit is that of no block
abbrev pub is_used : List ℕ → Bool
is_used slot = nat_le (slot_length slot) block_limit

-- from byte 36 on
abbrev pub slot_block : List ℕ → List ℕ
slot_block slot = take (slot_length slot) (drop 36 slot)

-- of a number below 2^32
abbrev pub big_endian : ℕ → List ℕ
big_endian n = (n / 16777216 % 256) ∷ (n / 65536 % 256) ∷ (n / 256 % 256) ∷ (n % 256) ∷ []

-- what stands behind the block stays
abbrev pub filled : List ℕ → List ℕ → List ℕ → List ℕ
filled name block slot = name ++ (big_endian (length block) ++ (block ++ drop (36 + length block) slot))

-- a length of at least 4,278,190,080 bytes, which no block has
abbrev pub emptied : List ℕ → List ℕ
emptied slot = slice_set slot 32 255
