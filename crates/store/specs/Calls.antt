-- What the calls of a store answer, and what they leave.
--
--   compared       what is held under a name, beside a block
--   find_answer    what find answers: the length of the block, or that the name is absent
--   over           a block at the start of a buffer
--   find_buffer    what find leaves in the buffer
--   Outcome        what a put comes to
--   settled        which outcome, by what is held
--   outcome        which outcome
--   answer_of      the answer of each outcome
--   put_answer     what put answers
--   with_block     the blocks under all names, once a pair is added
--   with_pair      the store with one more pair, and fewer free units
--   left_by        the store that each outcome leaves
--   put_after      the store that put leaves
--
-- Each is for all arguments. The numbers of refusals are those of `number`. Assumes nothing.
use Rattle.std.specs.Prelude.{ℕ, ◌-◌, cond, List, ◌++◌, length, drop, Some, None, Option, nat_lt}
use Rattle.std.specs.Option.{option_map}
use Rattle.std.specs.Str.{bytes_eq}
use Rattle.store.specs.Answer.{Answer, done, refused, number}
use Rattle.store.specs.Meaning.{Meaning, block_limit}
use Rattle.store.specs.declared.compared.Compared.{Compared}
use Rattle.store.specs.declared.compared.Compared.TheVariants.{Absent, Same, Other}
use Rattle.store.specs.declared.fault.Fault.TheVariants.{BlockTooLong, BufferTooShort, Conflict, NoRoom}

-- none is held, or this block, or another
abbrev pub compared : Option (List ℕ) → List ℕ → Compared
compared None block = Absent
compared (Some other) block = cond (bytes_eq other block) Same Other

-- a buffer without room for every block is refused before the name is looked at
abbrev pub find_answer : Meaning → List ℕ → ℕ → Answer (Option ℕ)
find_answer m name room = cond (nat_lt room block_limit) (refused (number BufferTooShort)) (done (option_map length (m.held name)))

-- where there is a block it stands at the start of the buffer, and the rest stays
abbrev pub over : Option (List ℕ) → List ℕ → List ℕ
over None buffer = buffer
over (Some block) buffer = block ++ drop (length block) buffer

-- nothing is written where the buffer is refused
abbrev pub find_buffer : Meaning → List ℕ → List ℕ → List ℕ
find_buffer m name buffer = cond (nat_lt (length buffer) block_limit) buffer (over (m.held name) buffer)

pub data Outcome : Type 0 where
  -- the block has too many bytes
  too_long : Outcome
  -- the pair is held already
  held_already : Outcome
  -- another block is held under the name
  conflict : Outcome
  -- the block costs more than is free
  no_room : Outcome
  -- the pair is added
  added : Outcome

-- what is held under the name decides, and where nothing is, the cost
abbrev pub settled : Compared → Outcome → Outcome
settled Absent by_cost = by_cost
settled Same by_cost = held_already
settled Other by_cost = conflict

-- the length of the block is looked at first, then the name, then the cost
abbrev pub outcome : Meaning → List ℕ → List ℕ → Outcome
outcome m name block =
    cond
    (nat_lt block_limit (length block))
    too_long
    (settled (compared (m.held name) block) (cond (nat_lt m.free (m.cost (length block))) no_room added))

-- a pair that is held already is accepted, as one that is added
abbrev pub answer_of : Outcome → Answer (Unit {0})
answer_of too_long = refused (number BlockTooLong)
answer_of held_already = done tt
answer_of conflict = refused (number Conflict)
answer_of no_room = refused (number NoRoom)
answer_of added = done tt

-- the answer where a name and a block are put
abbrev pub put_answer : Meaning → List ℕ → List ℕ → Answer (Unit {0})
put_answer m name block = answer_of (outcome m name block)

-- the block under that name, and under every other name what was held
abbrev pub with_block : (List ℕ → Option (List ℕ)) → List ℕ → List ℕ → List ℕ → Option (List ℕ)
with_block held name block other = cond (bytes_eq other name) (Some block) (held other)

-- the units fall by the cost, and costs stay
abbrev pub with_pair : Meaning → List ℕ → List ℕ → Meaning
with_pair m name block = record {
  held = with_block m.held name block;
  free = m.free - m.cost (length block);
  cost = m.cost;
}

-- only a pair that is added changes the store
abbrev pub left_by : Outcome → Meaning → List ℕ → List ℕ → Meaning
left_by too_long m name block = m
left_by held_already m name block = m
left_by conflict m name block = m
left_by no_room m name block = m
left_by added m name block = with_pair m name block

-- the store once a name and a block were put
abbrev pub put_after : Meaning → List ℕ → List ℕ → Meaning
put_after m name block = left_by (outcome m name block) m name block
