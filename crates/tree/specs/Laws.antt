-- What is proved of trees.
--
--   Parted           what holds of each element of the gaps, and of each item
--   NodeLaw          a node holds the keys of its layer, and the gaps between hold the others
--   SplitJoin        how the nodes of two parts of a map and that of the whole come from each other
--   PathLaw          a path follows links, and says of its key what the map does
--   Rebuilds         what was rebuilt, with what was there before, is the tree of the changed map
--   InsertLaw        an insert, by its path
--   DeleteLaw        a delete, by its path
--   Collision        two different blocks with one digest
--   EqualRoots       equal roots: equal maps, or a collision between their blocks
--   Kept             a map that is not crowded
--   BlockLaw         the nodes of such a map are well formed, and its blocks fit a store
--   EqualKeptRoots   of such maps: a collision between byte strings
--
-- Assumes nothing.
use Rattle.std.specs.Prelude.{◌≡◌, ℕ, suc, ◌<◌, ◌≤◌, false, ◌≢◌, ◌⊎◌, List, [], ◌++◌, map, length}
use mathlib.Core.List.{Sublistᴰ}
use Rattle.std.specs.Option.{option_map}
use Rattle.std.specs.List.{ContainsAt as Has, AllByRecursion}
use Rattle.digest.specs.Kind.{Kind}
use Rattle.digest.specs.Layer.{layer}
use Rattle.node.specs.Format.{Node}
use Rattle.node.specs.WellFormed.{WellFormed, Bytes}
use Rattle.tree.specs.ByLayer.{on_layer, nodes_up, items_at, leaves}
use Rattle.tree.specs.Change.{link_up, Rebuilt, insert_path, delete_path, handed}
use Rattle.tree.specs.Map.{Item, Map, IsMap, Rising, insert, delete, lookup}
use Rattle.tree.specs.Path.{place, has, gap_of, path, path_from_root, path_says, forked_from_root}
use Rattle.tree.specs.Row.{Row, end, more, flat, count, first_gap, last_gap, gap_at, meet, front, back}
use Rattle.tree.specs.Tree.{cut, leaf, Links, node_of, row_of, row, below, top, root_node, root, Placed, nodes, blocks, any_wide, crowded}

abbrev pub Parted : {X : Type 0} → (X → Type 0) → (X → Type 0) → Row (List X) X → Type 0
Parted P Q (end g) = AllByRecursion P g
Parted P Q (more g x r) = AllByRecursion P g × Q x × Parted P Q r

pub record NodeLaw (κ : Kind) : Type 0 where
  -- the gaps and the keys of the node at layer n, put together again, are the map
  pub whole : (n : ℕ) (m : Map) → flat (cut κ n m) ≡ m
  -- its keys are of layer n, and those in its gaps are not
  pub layers : (n : ℕ) (m : Map) → Parted (λ x. layer κ x.key ≢ n) (λ x. layer κ x.key ≡ n) (cut κ n m)
  -- no key is above the root's layer, and one is on it, but in the empty map
  pub under_top : (m : Map) → AllByRecursion (λ x. layer κ x.key ≤ top κ m) m
  pub on_top : (m : Map) → (m ≡ []) ⊎ ((x : Item) × Has m x × (layer κ x.key ≡ top κ m))
  -- the nodes of layer n, from left to right, hold the keys of layer n in their order, with the digests of their records
  pub held : (n : ℕ) (m : Map) → leaves (on_layer n (nodes κ m)) ≡ map (leaf κ) (items_at κ n m)
  -- a node and its row tell each other
  pub node_of_row : (n : Node) → node_of (row_of n) ≡ n
  pub row_of_node : (r : Links) → row_of (node_of r) ≡ r

-- of a map in two parts, one behind the other; the gap between the last key of layer n in a and the first in b is shared
pub record SplitJoin (κ : Kind) (n : ℕ) (a b : Map) : Type 0 where
  pub joined : row κ n (a ++ b) ≡ meet (row κ n a) (below κ n (last_gap (cut κ n a) ++ first_gap (cut κ n b))) (row κ n b)
  pub left : row κ n a ≡ front (count (cut κ n a)) (row κ n (a ++ b)) (below κ n (last_gap (cut κ n a)))
  pub right : row κ n b ≡ back (count (cut κ n a)) (row κ n (a ++ b)) (below κ n (first_gap (cut κ n b)))

pub record PathLaw (κ : Kind) : Type 0 where
  -- from a node that has not the key, the link in the key's place leads to the next node, and is null where there is none
  pub follows : (n : ℕ) (k : List ℕ) (m : Map) → AllByRecursion (λ x. layer κ x.key < suc n) m → has k (row κ n m) ≡ false
      → gap_at (place k (row κ n m)) (row κ n m) ≡ link_up κ (path κ n k (gap_of κ n k m))
  -- a path says of its key what the map does
  pub tells : (k : List ℕ) (m : Map) → Rising m → path_says k (path_from_root κ k m) ≡ option_map κ.hash (lookup k m)

pub record Rebuilds (κ : Kind) (old changed : Map) (new : Rebuilt) : Type 0 where
  -- the new root is that of the changed map's tree
  pub root : new.root ≡ root_node κ changed
  -- every new node is a node of that tree
  pub sound : (t : Placed) → Has (handed new) t → Has (nodes κ changed) t
  -- every node of that tree is new or was there before
  pub complete : (t : Placed) → Has (nodes κ changed) t → Has (handed new) t ⊎ Has (nodes κ old) t
  -- new nodes come by layer from 0 up, within a layer from left to right, and none twice
  pub order : Sublistᴰ (handed new) (nodes_up κ changed)
  -- new nodes alone tell whether the changed map is crowded
  pub crowds : crowded κ old ≡ false → crowded κ changed ≡ any_wide (handed new)

abbrev pub InsertLaw : Kind → Type 0
InsertLaw κ = (k v : List ℕ) (m : Map) → Rising m
    → Rebuilds κ m (insert k v m) (insert_path κ (record { key = k; value = v }) (path_from_root κ k m))

abbrev pub DeleteLaw : Kind → Type 0
DeleteLaw κ = (k : List ℕ) (m : Map) → Rising m
    → Rebuilds κ m (delete k m) (delete_path κ k (forked_from_root κ k m))

pub record Collision (κ : Kind) (these those : List (List ℕ)) : Type 0 where
  pub one : List ℕ
  pub other : List ℕ
  pub one_in : Has these one
  pub other_in : Has those other
  pub differ : one ≢ other
  pub same_digest : κ.hash one ≡ κ.hash other

abbrev pub EqualRoots : Kind → Type 0
EqualRoots κ = (m n : Map) → root κ m ≡ root κ n → (m ≡ n) ⊎ Collision κ (blocks κ m) (blocks κ n)

-- a byte string that a store takes
pub record IsBlock (b : List ℕ) : Type 0 where
  pub short : length b ≤ 10752
  pub bytes : Bytes b

-- what a repository may hold
pub record Kept (κ : Kind) (m : Map) : Type 0 where
  pub is_map : IsMap m
  pub narrow : crowded κ m ≡ false

pub record BlockLaw (κ : Kind) : Type 0 where
  pub well_formed : (m : Map) → Kept κ m → AllByRecursion (λ t. WellFormed t.node) (nodes κ m)
  pub fit : (m : Map) → Kept κ m → AllByRecursion IsBlock (blocks κ m)

abbrev pub EqualKeptRoots : Kind → Type 0
EqualKeptRoots κ = (m n : Map) → Kept κ m → Kept κ n → root κ m ≡ root κ n
    → (m ≡ n) ⊎ ((c : Collision κ (blocks κ m) (blocks κ n)) × IsBlock c.one × IsBlock c.other)
