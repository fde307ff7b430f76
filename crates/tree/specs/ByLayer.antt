-- The nodes of a tree by layer.
--
--   on_layer    of nodes, those of one layer
--   by_layer    of nodes, those below a layer, by layer from 0 up
--   nodes_up    the nodes of a tree by layer from 0 up, and within a layer from left to right
--   items_at    of a map, the keys of one layer
--   leaves      what nodes say of their keys, one after the other
--
-- Assumes nothing.
use Rattle.std.specs.Prelude.{ℕ, zero, suc, cond, List, [], ◌∷◌, ◌++◌, ◌==◌}
use Rattle.digest.specs.Kind.{Kind}
use Rattle.node.specs.Format.{Entry}
use Rattle.tree.specs.Map.{Map}
use Rattle.tree.specs.Tree.{at, Leaf, top, Placed, nodes}

abbrev pub on_layer : ℕ → List Placed → List Placed
on_layer n [] = []
on_layer n (t ∷ ts) = cond (t.layer == n) (t ∷ on_layer n ts) (on_layer n ts)

abbrev pub by_layer : ℕ → List Placed → List Placed
by_layer zero ts = []
by_layer (suc n) ts = by_layer n ts ++ on_layer n ts

abbrev pub nodes_up : Kind → Map → List Placed
nodes_up κ m = by_layer (suc (top κ m)) (nodes κ m)

abbrev pub items_at : Kind → ℕ → Map → Map
items_at κ n [] = []
items_at κ n (x ∷ m) = cond (at κ n x) (x ∷ items_at κ n m) (items_at κ n m)

abbrev pub leaves_in : List Entry → List Leaf
leaves_in [] = []
leaves_in (e ∷ es) = record { key = e.key; value = e.value } ∷ leaves_in es

abbrev pub leaves : List Placed → List Leaf
leaves [] = []
leaves (t ∷ ts) = leaves_in t.node.entries ++ leaves ts
