-- The node of an encoding.
--
-- First a node is read from the bytes with no test at all; then it is the node of these bytes exactly where it is well formed and
-- they are its encoding.
--
--   argument, after_head   the number of a head, and what follows the head
--   digest_at              the digest of a link
--   link_at, after_link    the digest of a link, none of a null, and what follows
--   Read                   something read, and what follows it
--   entry_at               an entry after the key before it
--   entries_at             a number of entries
--   node_at                a node
--   decode                 the node that bytes encode, if any
--
-- Assumes nothing.
use Rattle.std.specs.Prelude.{ℕ, zero, suc, ◌%◌, cond, ◌&&◌, List, [], ◌∷◌, ◌++◌, take, drop, Some, None, Option, ◌==◌, nat_lt, slice_index}
use Rattle.std.specs.Str.{bytes_eq}
use Rattle.node.specs.Format.{Entry, Node, encode}
use Rattle.node.specs.WellFormed.{well_formed}

abbrev pub argument : List ℕ → ℕ
argument s = cond (nat_lt (slice_index s 0 % 32) 24) (slice_index s 0 % 32) (slice_index s 1)

abbrev pub after_head : List ℕ → List ℕ
after_head s = cond (nat_lt (slice_index s 0 % 32) 24) (drop 1 s) (drop 2 s)

abbrev pub digest_at : List ℕ → List ℕ
digest_at s = take 32 (drop 9 s)

abbrev pub link_at : List ℕ → Option (List ℕ)
link_at s = cond (slice_index s 0 == 0xF6) None (Some (digest_at s))

abbrev pub after_link : List ℕ → List ℕ
after_link s = cond (slice_index s 0 == 0xF6) (drop 1 s) (drop 41 s)

pub record Read (X : Type 0) : Type 0 where
  pub value : X
  pub rest : List ℕ

-- behind the head of the map and "k" the rest of the key, behind "p" the number, behind "t" and "v" the links
abbrev pub entry_at : List ℕ → List ℕ → Read Entry
entry_at before s =
    let at_k = drop 3 s in
    let tail = take (argument at_k) (after_head at_k) in
    let at_p = drop 2 (drop (argument at_k) (after_head at_k)) in
    let at_t = drop 2 (after_head at_p) in
    let at_v = drop 2 (after_link at_t) in
    record {
      value = record { key = take (argument at_p) before ++ tail; value = digest_at at_v; after = link_at at_t };
      rest = drop 41 at_v;
    }

abbrev pub entries_at : ℕ → List ℕ → List ℕ → Read (List Entry)
entries_at zero before s = record { value = []; rest = s }
entries_at (suc n) before s =
    let e = entry_at before s in
    let es = entries_at n e.value.key e.rest in
    record { value = e.value ∷ es.value; rest = es.rest }

-- behind the head of the map and "e" the array, behind "l" the first link
abbrev pub node_at : List ℕ → Node
node_at s =
    let es = entries_at (argument (drop 3 s)) [] (after_head (drop 3 s)) in
    record { first = link_at (drop 2 es.rest); entries = es.value }

unfoldable pub decode : ℕ → List ℕ → Option Node
decode c s = cond (well_formed (node_at s) && bytes_eq (encode c (node_at s)) s) (Some (node_at s)) None
