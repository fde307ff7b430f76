-- What a draft means.
--
--   or_else        what one store holds, or else what another does
--   draft_of       a front store, and behind it a back store
--   draft_lawful   a draft of lawful stores is lawful
--
-- The last is a proof; it stands here since the ghost member `lawful` cites it. Assumes nothing.
use Rattle.std.specs.Prelude.{◌≡◌, ℕ, ◌≤◌, List, length, Some, None, Option}
use Rattle.store.specs.Meaning.{Meaning, Lawful, block_limit}

-- the first comes first
abbrev pub or_else : Option (List ℕ) → Option (List ℕ) → Option (List ℕ)
or_else None behind = behind
or_else (Some block) behind = Some block

-- the front's pairs and those of the back whose name the front lacks; units and costs are the front's
abbrev pub draft_of : Meaning → Meaning → Meaning
draft_of front back = record {
  held = λ name. or_else (front.held name) (back.held name);
  free = front.free;
  cost = front.cost;
}

-- what holds of each block of two stores holds of each block of their draft
of_either : (P : List ℕ → Type 0) (f b : Option (List ℕ)) → ((x : List ℕ) → f ≡ Some x → P x) → ((x : List ℕ) → b ≡ Some x → P x) → (x : List ℕ) → or_else f b ≡ Some x → P x
of_either P None b first second x is = second x is
of_either P (Some y) b first second x is = first x is

pub draft_lawful : (f b : Meaning) → Lawful f → Lawful b → Lawful (draft_of f b)
draft_lawful f b first second = record {
  name_length = λ name block is. of_either (λ _. length name ≡ 32) (f.held name) (b.held name) (first.name_length name) (second.name_length name) block is;
  block_length = λ name block is. of_either (λ x. length x ≤ block_limit) (f.held name) (b.held name) (first.block_length name) (second.block_length name) block is;
  cost_least = first.cost_least;
}
