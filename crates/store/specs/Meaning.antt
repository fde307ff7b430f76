-- What a store means.
--
--   block_limit   the most bytes that a block has
--   Meaning       the block under each name, the free units, and what a block of each length costs
--   Lawful        names are 32 bytes, blocks keep the limit, and nothing is free of cost
--   Unused        a store without any pair
--
-- Names and blocks are byte strings, which are lists of numbers. Assumes nothing.
use Rattle.std.specs.Prelude.{◌≡◌, ℕ, ◌≤◌, List, length, Some, None, Option}

-- enough for every node of the tree and every record
abbrev pub block_limit : ℕ
block_limit = 10752

pub record Meaning : Type 0 where
  -- the block under each name, none where the name is absent: a function, so no name is there twice
  pub held : List ℕ → Option (List ℕ)
  -- the units that are free
  pub free : ℕ
  -- the units that a block of each length costs
  pub cost : ℕ → ℕ

pub record Lawful (m : Meaning) : Type 0 where
  -- a name is 32 bytes
  pub name_length : (name block : List ℕ) → m.held name ≡ Some block → length name ≡ 32
  -- a block is at most the limit
  pub block_length : (name block : List ℕ) → m.held name ≡ Some block → length block ≤ block_limit
  -- a block costs at least one unit
  pub cost_least : (len : ℕ) → 1 ≤ m.cost len

-- every name is absent
abbrev pub Unused : Meaning → Type 0
Unused m = (name : List ℕ) → m.held name ≡ None
