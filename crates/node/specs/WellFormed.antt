-- Which nodes there are.
--
--   Digest        32 numbers
--   Link          a digest, or none
--   EntryLinked   an entry whose links are digests, but for the one after the key, which may be none
--   Linked        a node of such entries, with a first link
--   EntryFormed   an entry with a key of 1 to 64 bytes
--   WellFormed    a node of at most 64 entries
--   well_formed   the same as a test
--   Bytes         numbers below 256
--   LinkBytes     a link made of bytes
--   EntryBytes    an entry made of bytes
--   NodeBytes     a node made of bytes
--
-- That keys rise is no matter of form. Assumes nothing.
use Rattle.std.specs.Prelude.{◌≡◌, ℕ, ◌<◌, ◌≤◌, Bool, true, ◌&&◌, List, [], ◌∷◌, length, Some, None, Option, ◌==◌, nat_le}
use Rattle.std.specs.List.{AllByRecursion}
use Rattle.node.specs.Format.{Entry, Node}

abbrev pub Digest : List ℕ → Type 0
Digest d = length d ≡ 32

abbrev pub Link : Option (List ℕ) → Type 0
Link None = Unit {0}
Link (Some d) = Digest d

pub record EntryLinked (e : Entry) : Type 0 where
  pub value : Digest e.value
  pub after : Link e.after

pub record Linked (n : Node) : Type 0 where
  pub each : AllByRecursion EntryLinked n.entries
  pub first : Link n.first

pub record EntryFormed (e : Entry) : Type 0 where
  pub some : 1 ≤ length e.key
  pub short : length e.key ≤ 64
  pub value : Digest e.value
  pub after : Link e.after

pub record WellFormed (n : Node) : Type 0 where
  pub few : length n.entries ≤ 64
  pub each : AllByRecursion EntryFormed n.entries
  pub first : Link n.first

abbrev pub is_digest : List ℕ → Bool
is_digest d = length d == 32

abbrev pub is_link : Option (List ℕ) → Bool
is_link None = true
is_link (Some d) = is_digest d

abbrev pub entry_formed : Entry → Bool
entry_formed e = nat_le 1 (length e.key) && (nat_le (length e.key) 64 && (is_digest e.value && is_link e.after))

-- what a test says of each
abbrev pub all : {X : Type 0} → (X → Bool) → List X → Bool
all test [] = true
all test (x ∷ xs) = test x && all test xs

abbrev pub well_formed : Node → Bool
well_formed n = nat_le (length n.entries) 64 && (all entry_formed n.entries && is_link n.first)

abbrev pub Bytes : List ℕ → Type 0
Bytes s = AllByRecursion (λ b. b < 256) s

abbrev pub LinkBytes : Option (List ℕ) → Type 0
LinkBytes None = Unit {0}
LinkBytes (Some d) = Bytes d

pub record EntryBytes (e : Entry) : Type 0 where
  pub key : Bytes e.key
  pub value : Bytes e.value
  pub after : LinkBytes e.after

pub record NodeBytes (n : Node) : Type 0 where
  pub each : AllByRecursion EntryBytes n.entries
  pub first : LinkBytes n.first
