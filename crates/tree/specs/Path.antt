-- The nodes of a tree that a change of one key is concerned with.
--
--   place              how many keys of a node come before a key
--   has                whether a node has a key
--   says               what a node says of a key: the digest of its record
--   gap_of             the gap of a node in which a key belongs
--   path               the nodes below a layer on the way to a key
--   path_from_root     all of them
--   path_says          what a path says of its key
--   Sides              the nodes of one layer on the left and on the right of a key
--   sides              those nodes, layer by layer
--   ForkedPath         the path to the node that has a key, and below it the nodes on its sides
--   forked_path        that below a layer
--   forked_from_root   all of it
--
-- A path has one row for each layer, from the highest down to 0, and so has a forked path. Where there is no node, as past a null link and
-- below the node that has the key, stands the row with no key and no link. Assumes nothing.
use Rattle.std.specs.Prelude.{ℕ, zero, suc, Bool, false, cond, not, List, [], ◌∷◌, Some, None, Option}
use Rattle.keys.specs.Order.{before}
use Rattle.digest.specs.Kind.{Kind}
use Rattle.tree.specs.Map.{Map}
use Rattle.tree.specs.Row.{end, more, first_gap, last_gap, gap_at}
use Rattle.tree.specs.Tree.{Links, cut, row, top}

-- in a node whose keys rise, the keys before k come first
abbrev pub place : List ℕ → Links → ℕ
place k (end l) = 0
place k (more l s r) = cond (before s.key k) (suc (place k r)) 0

abbrev pub has : List ℕ → Links → Bool
has k (end l) = false
has k (more l s r) = cond (before s.key k) (has k r) (not (before k s.key))

abbrev pub says : List ℕ → Links → Option (List ℕ)
says k (end l) = None
says k (more l s r) = cond (before s.key k) (says k r) (cond (before k s.key) None (Some s.value))

-- of the node at layer n; empty where the node has k itself
abbrev pub gap_of : Kind → ℕ → List ℕ → Map → Map
gap_of κ n k m = cond (has k (row κ n m)) [] (gap_at (place k (row κ n m)) (cut κ n m))

-- through the gaps in which k belongs, to the node that has k or to a null link
abbrev pub path : Kind → ℕ → List ℕ → Map → List Links
path κ zero k m = []
path κ (suc n) k m = row κ n m ∷ path κ n k (gap_of κ n k m)

abbrev pub path_from_root : Kind → List ℕ → Map → List Links
path_from_root κ k m = path κ (suc (top κ m)) k m

abbrev pub path_says : List ℕ → List Links → Option (List ℕ)
path_says k [] = None
path_says k (r ∷ p) = cond (has k r) (says k r) (path_says k p)

pub record Sides : Type 0 where
  pub left : Links
  pub right : Links

-- of two gaps on both sides of a key: the nodes on the left by last links, and those on the right by first links
abbrev pub sides : Kind → ℕ → Map → Map → List Sides
sides κ zero a b = []
sides κ (suc n) a b = record { left = row κ n a; right = row κ n b } ∷ sides κ n (last_gap (cut κ n a)) (first_gap (cut κ n b))

pub record ForkedPath : Type 0 where
  pub upper : List Links
  pub lower : List Sides

-- below the node that has k come the gaps before and after k; where k is not there, the path is all
abbrev pub forked_path : Kind → ℕ → List ℕ → Map → ForkedPath
forked_path κ zero k m = record { upper = []; lower = [] }
forked_path κ (suc n) k m =
    let r = row κ n m in
    let i = place k r in
    let rest = forked_path κ n k (gap_of κ n k m) in
    cond (has k r)
    (record { upper = r ∷ []; lower = sides κ n (gap_at i (cut κ n m)) (gap_at (suc i) (cut κ n m)) })
    (record { upper = r ∷ rest.upper; lower = rest.lower })

abbrev pub forked_from_root : Kind → List ℕ → Map → ForkedPath
forked_from_root κ k m = forked_path κ (suc (top κ m)) k m
