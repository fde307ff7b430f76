-- The tree of a map, under a digest kind.
--
--   at            whether a key is of a layer
--   cut           a map parted by its keys of one layer
--   Leaf          what a node says of a key
--   Links         a node as a row: links, and leaves between them
--   node_of       the node of a row
--   row_of        the row of a node
--   bytes_of      the bytes of a node
--   digest        the digest of a node, by its row
--   links         the row at a layer, for a given meaning of a link
--   below         the link to the tree of a gap
--   row           the row at a layer
--   top           the layer of the root
--   Placed        a node, and its layer
--   root_node     the node at the root
--   root          its digest
--   over_gaps     what there is of each gap, from left to right
--   nodes_below   the nodes of the tree of a gap
--   nodes         the nodes of the tree
--   blocks        its blocks: the nodes and the records
--   wide          a node with more keys than a node may have
--   crowded       whether the tree has one
--
-- Assumes nothing.
use Rattle.std.specs.Prelude.{ℕ, zero, suc, max, Bool, false, ◌||◌, List, [], ◌∷◌, ◌++◌, map, length, Some, None, Option, ◌==◌, nat_lt}
use Rattle.digest.specs.Kind.{Kind}
use Rattle.digest.specs.Layer.{layer}
use Rattle.node.specs.Format.{Entry, Node, encode}
use Rattle.tree.specs.Map.{Item, Map}
use Rattle.tree.specs.Row.{Row, end, more, cut_by, map_row, first_gap}

abbrev pub at : Kind → ℕ → Item → Bool
at κ n x = layer κ x.key == n

-- the keys of layer n, and the gaps before, between and after them
abbrev pub cut : Kind → ℕ → Map → Row Map Item
cut κ n m = cut_by (at κ n) m

-- the value is the digest of the key's record
pub record Leaf : Type 0 where
  pub key : List ℕ
  pub value : List ℕ

abbrev pub leaf : Kind → Item → Leaf
leaf κ x = record { key = x.key; value = κ.hash x.value }

abbrev pub Links : Type 0
Links = Row (Option (List ℕ)) Leaf

-- an entry has a leaf and the link after it
abbrev pub entries_of : Links → List Entry
entries_of (end l) = []
entries_of (more l s r) = record { key = s.key; value = s.value; after = first_gap r } ∷ entries_of r

abbrev pub node_of : Links → Node
node_of r = record { first = first_gap r; entries = entries_of r }

abbrev pub row_from : Option (List ℕ) → List Entry → Links
row_from l [] = end l
row_from l (e ∷ es) = more l (record { key = e.key; value = e.value }) (row_from e.after es)

abbrev pub row_of : Node → Links
row_of n = row_from n.first n.entries

abbrev pub bytes_of : Kind → Node → List ℕ
bytes_of κ n = encode κ.code n

abbrev pub digest : Kind → Links → List ℕ
digest κ r = κ.hash (bytes_of κ (node_of r))

-- the keys of layer n with their records' digests, and for each gap the link that f gives it
abbrev pub links : Kind → (Map → Option (List ℕ)) → ℕ → Map → Links
links κ f n m = map_row f (leaf κ) (cut κ n m)

-- from layer n to a gap m, all of whose keys are deeper: null if the gap is empty, else to the node at layer n - 1
abbrev pub below : Kind → ℕ → Map → Option (List ℕ)
below κ zero m = None
below κ (suc n) [] = None
below κ (suc n) (x ∷ m) = Some (digest κ (links κ (below κ n) n (x ∷ m)))

abbrev pub row : Kind → ℕ → Map → Links
row κ n m = links κ (below κ n) n m

-- the highest layer of any key, and 0 of the empty map
abbrev pub top : Kind → Map → ℕ
top κ [] = 0
top κ (x ∷ m) = max (layer κ x.key) (top κ m)

pub record Placed : Type 0 where
  pub layer : ℕ
  pub node : Node

abbrev pub placed_at : ℕ → Links → Placed
placed_at n r = record { layer = n; node = node_of r }

abbrev pub root_node : Kind → Map → Placed
root_node κ m = placed_at (top κ m) (row κ (top κ m) m)

unfoldable pub root : Kind → Map → List ℕ
root κ m = κ.hash (bytes_of κ (root_node κ m).node)

abbrev pub over_gaps : {T : Type 0} → (Map → List T) → Row Map Item → List T
over_gaps f (end g) = f g
over_gaps f (more g x r) = f g ++ over_gaps f r

-- the node at layer n, and of each gap the nodes that f gives
abbrev pub node_and : Kind → (Map → List Placed) → ℕ → Map → List Placed
node_and κ f n m = placed_at n (row κ n m) ∷ over_gaps f (cut κ n m)

-- the nodes of a gap that a node at layer n links to
abbrev pub nodes_below : Kind → ℕ → Map → List Placed
nodes_below κ zero m = []
nodes_below κ (suc n) [] = []
nodes_below κ (suc n) (x ∷ m) = node_and κ (nodes_below κ n) n (x ∷ m)

unfoldable pub nodes : Kind → Map → List Placed
nodes κ m = node_and κ (nodes_below κ (top κ m)) (top κ m) m

unfoldable pub blocks : Kind → Map → List (List ℕ)
blocks κ m = map (λ t. bytes_of κ t.node) (nodes κ m) ++ map (λ x. x.value) m

-- a node may have 64
abbrev pub wide : Placed → Bool
wide t = nat_lt 64 (length t.node.entries)

abbrev pub any_wide : List Placed → Bool
any_wide [] = false
any_wide (t ∷ ts) = wide t || any_wide ts

unfoldable pub crowded : Kind → Map → Bool
crowded κ m = any_wide (nodes κ m)
