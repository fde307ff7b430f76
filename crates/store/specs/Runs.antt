-- Runs of calls on a store, and what they add to it.
--
--   Call        a call with its arguments, what it answered, and what it left in a buffer
--   Step        what one call does to a store
--   Run         calls one after the other, the newest first
--   Pair        a name and a block
--   spent       what pairs cost
--   with_all    more pairs
--   Fresh       pairs whose names were not held, and are all different
--   Grown       a store became another by more pairs, at their cost, and by nothing else
--   Spent       so it did, and each pair cost a unit at least
--   AllSpent    whatever calls led to a store
--
-- Assumes nothing.
use Rattle.std.specs.Prelude.{◌≡◌, ℕ, ◌+◌, ◌-◌, ◌≤◌, List, [], ◌∷◌, length, Some, None, Option}
use Rattle.store.specs.Answer.{Answer}
use Rattle.store.specs.Calls.{compared, find_answer, find_buffer, put_answer, put_after, with_block}
use Rattle.store.specs.Meaning.{Meaning}
use Rattle.store.specs.declared.compared.Compared.{Compared}

pub data Call : Type 0 where
  -- a name and a buffer; the answer, and the buffer afterwards
  finding : List ℕ → List ℕ → Answer (Option ℕ) → List ℕ → Call
  -- a name and a block, and the answer
  comparing : List ℕ → List ℕ → Compared → Call
  -- a name and a block, and the answer
  putting : List ℕ → List ℕ → Answer (Unit {0}) → Call
  -- the answer
  asking_free : ℕ → Call
  -- a length, and the answer
  asking_cost : ℕ → ℕ → Call

-- from one store to another, as the clauses of the trait say, and nothing more
abbrev pub Step : Call → Meaning → Meaning → Type 0
Step (finding name buffer answer after) m n = (answer ≡ find_answer m name (length buffer)) × (after ≡ find_buffer m name buffer) × (n ≡ m)
Step (comparing name block answer) m n = (answer ≡ compared (m.held name) block) × (n ≡ m)
Step (putting name block answer) m n = (answer ≡ put_answer m name block) × (n ≡ put_after m name block)
Step (asking_free answer) m n = (answer ≡ m.free) × (n ≡ m)
Step (asking_cost len answer) m n = (answer ≡ m.cost len) × (n ≡ m)

-- from the store before the first call to the store after the last
abbrev pub Run : List Call → Meaning → Meaning → Type 0
Run [] m n = n ≡ m
Run (call ∷ calls) m n = (k : Meaning) × Run calls m k × Step call k n

-- what a store holds
pub record Pair : Type 0 where
  pub name : List ℕ
  pub block : List ℕ

-- in a store where a block of each length costs so much
abbrev pub spent : (ℕ → ℕ) → List Pair → ℕ
spent cost [] = 0
spent cost (p ∷ ps) = cost (length p.block) + spent cost ps

-- one after the other, the last of the list first
abbrev pub with_all : (List ℕ → Option (List ℕ)) → List Pair → List ℕ → Option (List ℕ)
with_all held [] = held
with_all held (p ∷ ps) = with_block (with_all held ps) p.name p.block

-- each name was absent when its pair came
abbrev pub Fresh : (List ℕ → Option (List ℕ)) → List Pair → Type 0
Fresh held [] = Unit {0}
Fresh held (p ∷ ps) = (with_all held ps p.name ≡ None) × Fresh held ps

pub record Grown (m : Meaning) (new : List Pair) (n : Meaning) : Type 0 where
  -- every pair is kept
  pub kept : (name block : List ℕ) → m.held name ≡ Some block → n.held name ≡ Some block
  -- the new ones come to them, and no others
  pub pairs : n.held ≡ with_all m.held new
  -- and were not there before
  pub fresh : Fresh m.held new
  -- free units and the cost of all that was added stay the same
  pub units : n.free + spent m.cost new ≡ m.free
  -- costs never change
  pub costs : n.cost ≡ m.cost

pub record Spent (m n : Meaning) : Type 0 where
  -- what the calls added
  pub new : List Pair
  pub grown : Grown m new n
  -- what is no longer free was spent on it
  pub cost : spent m.cost new ≡ m.free - n.free
  pub least : length new ≤ m.free - n.free

-- from any store on
abbrev pub AllSpent : Meaning → Type 0
AllSpent n = (calls : List Call) (m : Meaning) → Run calls m n → Spent m n
