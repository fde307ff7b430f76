-- Whether memory has room for a slot.
--
--   memory_number    the number of each fault
--   memory_text      how a fault is printed
--   memory_told      the result of the test as an answer
--   memory_answer    what the test answers
--
-- Assumes nothing.
use Rattle.std.specs.Prelude.{ℕ, cond, List, Ok, Err, Result, nat_lt}
use Rattle.store.specs.Answer.{Answer, done, refused}
use Rattle.store.specs.Text.{refusal_text}
use Rattle.slots.specs.Slot.{slot_size}
use Rattle.slots.specs.declared.fault.MemoryFault.{MemoryFault}
use Rattle.slots.specs.declared.fault.MemoryFault.TheVariants.{NoSlot}

-- there is one fault
abbrev pub memory_number : MemoryFault → ℕ
memory_number NoSlot = 14

-- with its number
abbrev pub memory_text : MemoryFault → List ℕ
memory_text fault = refusal_text (memory_number fault)

-- the fault by its number
abbrev pub memory_told : Result (Unit {0}) MemoryFault → Answer (Unit {0})
memory_told (Ok x) = done x
memory_told (Err fault) = refused (memory_number fault)

-- of memory of so many bytes
abbrev pub memory_answer : ℕ → Answer (Unit {0})
memory_answer size = cond (nat_lt size slot_size) (refused (memory_number NoSlot)) (done tt)
