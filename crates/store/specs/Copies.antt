-- What copying a block from one store to another answers, and what it leaves.
--
--   was_there       an answer that the block was there, once it is put
--   handed_answer   what handing a block to the store answers
--   handed_after    the store afterwards
--   copy_answer     whether the block was there, or the number of a refusal
--   copy_after      the store that it was copied to
--
-- Assumes nothing.
use Rattle.std.specs.Prelude.{ℕ, Bool, true, false, cond, List, Some, None, Option, nat_lt}
use Rattle.store.specs.Answer.{Answer, done, refused, number}
use Rattle.store.specs.Calls.{put_answer, put_after}
use Rattle.store.specs.Meaning.{Meaning, block_limit}
use Rattle.store.specs.declared.fault.Fault.TheVariants.{BufferTooShort}

-- a refused put is refused here too
abbrev pub was_there : Answer (Unit {0}) → Answer Bool
was_there (done _) = done true
was_there (refused n) = refused n

-- none, where the name is absent
abbrev pub handed_answer : Option (List ℕ) → Meaning → List ℕ → Answer Bool
handed_answer None to name = done false
handed_answer (Some block) to name = was_there (put_answer to name block)

-- without a block it stays
abbrev pub handed_after : Option (List ℕ) → Meaning → List ℕ → Meaning
handed_after None to name = to
handed_after (Some block) to name = put_after to name block

-- a buffer without room for every block is refused first
abbrev pub copy_answer : Meaning → Meaning → List ℕ → ℕ → Answer Bool
copy_answer from to name room = cond (nat_lt room block_limit) (refused (number BufferTooShort)) (handed_answer (from.held name) to name)

-- of a store to copy from and one to copy to
abbrev pub copy_after : Meaning → Meaning → List ℕ → ℕ → Meaning
copy_after from to name room = cond (nat_lt room block_limit) to (handed_after (from.held name) to name)
