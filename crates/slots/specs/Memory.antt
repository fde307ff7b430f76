-- What memory means that is cut into slots.
--
--   slots_in         the slots of memory: one for each whole slot size
--   left_over        what is left behind the last whole slot
--   holds            whether a slot is used under a name
--   held_in          the block under a name
--   unused           how many slots are unused
--   slots_meaning    the store of these slots, in which every block costs one unit
--   without_pairs    the store of so many unused slots
--
-- Assumes nothing.
use Rattle.std.specs.Prelude.{ℕ, ◌+◌, ◌*◌, ◌/◌, Bool, cond, ◌&&◌, List, [], ◌∷◌, length, drop, Some, None, Option}
use Rattle.std.specs.Simd.{first_chunks}
use Rattle.std.specs.Str.{bytes_eq}
use Rattle.store.specs.Meaning.{Meaning}
use Rattle.slots.specs.Slot.{slot_size, slot_name, slot_block, is_used}

-- from the start of the memory; what is left behind the last is no slot
abbrev pub slots_in : List ℕ → List (List ℕ)
slots_in memory = first_chunks slot_size (length memory / slot_size) memory

-- bytes that belong to no slot
abbrev pub left_over : List ℕ → List ℕ
left_over memory = drop (length memory / slot_size * slot_size) memory

-- a used slot, with the same 32 bytes
abbrev pub holds : List ℕ → List ℕ → Bool
holds slot name = is_used slot && bytes_eq (slot_name slot) name

-- of the first slot that holds it
abbrev pub held_in : List (List ℕ) → List ℕ → Option (List ℕ)
held_in [] name = None
held_in (slot ∷ slots) name = cond (holds slot name) (Some (slot_block slot)) (held_in slots name)

-- each of them a free unit
abbrev pub unused : List (List ℕ) → ℕ
unused [] = 0
unused (slot ∷ slots) = cond (is_used slot) 0 1 + unused slots

-- read off the bytes
abbrev pub slots_meaning : List ℕ → Meaning
slots_meaning memory = record {
  held = held_in (slots_in memory);
  free = unused (slots_in memory);
  cost = λ len. 1;
}

-- so many free units
abbrev pub without_pairs : ℕ → Meaning
without_pairs n = record { held = λ name. None; free = n; cost = λ len. 1 }
