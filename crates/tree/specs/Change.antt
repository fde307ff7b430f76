-- How the tree changes with one key: from layer 0 upward, each node is made from the old node and what the layer below hands up.
--
--   link_to                      the link to a node
--   link_up, left_up, right_up   what a layer hands up: the links to its nodes
--   split                        the nodes on the two sides of a key that comes between
--   join                         the nodes of the path of a key that goes
--   with_item                    the node at the layer of a key that is inserted
--   insert_up                    the forked path after an insert, from the path before it
--   delete_up                    the path after a delete, from the forked path before it
--   raise                        a path that begins higher up
--   Rebuilt                      the new root, and the other new nodes
--   placed, upward               the nodes among rows, of one layer and of all
--   grown, shrunk                what is rebuilt from the path after an insert, and after a delete
--   insert_path, delete_path     what an insert and a delete rebuild
--   handed                       what is handed to a store, in this order
--
-- A path has one row for each layer from the root's down to 0, so that its length is the root's layer and one. Assumes nothing.
use Rattle.std.specs.Prelude.{ℕ, zero, suc, ◌-◌, cond, List, [], ◌∷◌, ◌++◌, map, length, Some, None, Option, ◌==◌}
use Rattle.digest.specs.Kind.{Kind}
use Rattle.digest.specs.Layer.{layer}
use Rattle.tree.specs.Map.{Item}
use Rattle.tree.specs.Path.{place, has, Sides, ForkedPath}
use Rattle.tree.specs.Row.{end, more, meet, graft, front, back, relink, omit, replace}
use Rattle.tree.specs.Tree.{leaf, Links, digest, Placed, placed_at}

-- null where it holds neither key nor link
abbrev pub link_to : Kind → Links → Option (List ℕ)
link_to κ (end None) = None
link_to κ (end (Some d)) = Some (digest κ (end (Some d)))
link_to κ (more l s r) = Some (digest κ (more l s r))

-- a list of layers begins with the highest
abbrev pub link_up : Kind → List Links → Option (List ℕ)
link_up κ [] = None
link_up κ (r ∷ p) = link_to κ r

abbrev pub left_up : Kind → List Sides → Option (List ℕ)
left_up κ [] = None
left_up κ (s ∷ p) = link_to κ s.left

abbrev pub right_up : Kind → List Sides → Option (List ℕ)
right_up κ [] = None
right_up κ (s ∷ p) = link_to κ s.right

-- each node of a path is cut in two at k
abbrev pub split : Kind → List ℕ → List Links → List Sides
split κ k [] = []
split κ k (r ∷ p) =
    let s = split κ k p in
    record { left = front (place k r) r (left_up κ s); right = back (place k r) r (right_up κ s) } ∷ s

-- a node on the left and one on the right become one, around the link to what was joined below
abbrev pub join : Kind → List Sides → List Links
join κ [] = []
join κ (s ∷ p) = let q = join κ p in meet s.left (link_up κ q) s.right ∷ q

-- the node at the key's own layer: a key that is there gets its new record, any other comes between the two sides
abbrev pub with_item : Kind → Item → Links → List Sides → Links
with_item κ x r s =
    let i = place x.key r in
    cond (has x.key r) (replace i r (leaf κ x)) (graft (front i r (left_up κ s)) (leaf κ x) (back i r (right_up κ s)))

-- below the key's layer the path is split, above it one link changes
abbrev pub insert_up : Kind → Item → List Links → ForkedPath
insert_up κ x [] = record { upper = []; lower = [] }
insert_up κ x (r ∷ p) =
    let s = split κ x.key p in
    let rest = insert_up κ x p in
    cond (layer κ x.key == length p)
    (record { upper = with_item κ x r s ∷ []; lower = s })
    (record { upper = relink (place x.key r) r (link_up κ rest.upper) ∷ rest.upper; lower = rest.lower })

-- the node that has the key loses it, and the joint link takes the place of its two links; above it one link changes
abbrev pub delete_up : Kind → List ℕ → List Links → List Links → List Links
delete_up κ k [] joined = joined
delete_up κ k (r ∷ p) joined =
    let rest = delete_up κ k p joined in
    let i = place k r in
    cond (has k r) (omit i r (link_up κ rest)) (relink i r (link_up κ rest)) ∷ rest

-- above the root: nodes with no key and one link
abbrev pub raise : Kind → ℕ → List Links → List Links
raise κ zero p = p
raise κ (suc j) p = let q = raise κ j p in end (link_up κ q) ∷ q

pub record Rebuilt : Type 0 where
  pub root : Placed
  pub others : List Placed

-- a row with no key and no link is no node
abbrev pub placed : ℕ → List Links → List Placed
placed n [] = []
placed n (end None ∷ rs) = placed n rs
placed n (end (Some d) ∷ rs) = placed_at n (end (Some d)) ∷ placed n rs
placed n (more l s r ∷ rs) = placed_at n (more l s r) ∷ placed n rs

-- of layers, the highest first, their nodes from layer 0 up, and within a layer from left to right
abbrev pub upward : List (List Links) → List Placed
upward [] = []
upward (rs ∷ layers) = upward layers ++ placed (length layers) rs

abbrev pub rebuilt : Links → List (List Links) → Rebuilt
rebuilt r layers = record { root = placed_at (length layers) r; others = upward layers }

abbrev pub single : Links → List Links
single r = r ∷ []

abbrev pub both : Sides → List Links
both s = s.left ∷ (s.right ∷ [])

-- the highest node is the root; a path has one at least
abbrev pub grown : List Links → List Sides → Rebuilt
grown [] lower = rebuilt (end None) []
grown (r ∷ upper) lower = rebuilt r (map single upper ++ map both lower)

-- the highest node that has a key is the root, or the empty map's node if none has
abbrev pub shrunk : List Links → Rebuilt
shrunk [] = rebuilt (end None) []
shrunk (end l ∷ p) = shrunk p
shrunk (more l s r ∷ p) = rebuilt (more l s r) (map single p)

-- the path reaches up to the key's layer at least
unfoldable pub insert_path : Kind → Item → List Links → Rebuilt
insert_path κ x p = let s = insert_up κ x (raise κ (suc (layer κ x.key) - length p) p) in grown s.upper s.lower

unfoldable pub delete_path : Kind → List ℕ → ForkedPath → Rebuilt
delete_path κ k s = shrunk (delete_up κ k s.upper (join κ s.lower))

-- the root is last
abbrev pub handed : Rebuilt → List Placed
handed new = new.others ++ (new.root ∷ [])
