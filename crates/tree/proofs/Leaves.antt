-- What the nodes of a tree hold: those of a layer hold the keys of that layer, in their order. Assumes nothing.
use Rattle.std.proofs.Common.{◌≡◌, ℕ, zero, suc, ◌<◌, ◌≤◌, max, Bool, true, false, cond, eqb, ◌≢◌, ◌⊎◌, List, [], ◌∷◌, ◌++◌, map, Option, sym, refl, ap, ◌∙◌, subst, inl, inr, append_assoc, append-nil, arith}
use Rattle.std.specs.List.{ContainsAt as Has, AllByRecursion}
use Rattle.std.proofs.ByRecursion.{All-append, all_has_itself, All-weaker, has_append_right}
use Rattle.std.proofs.lemmas.List.{map-append}
use Rattle.std.proofs.lemmas.Bool.{eqb-true, eqb-false, ne_eqb}
use Rattle.digest.specs.Kind.{Kind}
use Rattle.digest.specs.Layer.{layer}
use Rattle.node.specs.Format.{Entry}
use Rattle.tree.specs.ByLayer.{on_layer, items_at, leaves, leaves_in}
use Rattle.tree.specs.Laws.{Parted, NodeLaw}
use Rattle.tree.specs.Map.{Item, Map}
use Rattle.tree.specs.Row.{Row, end, more, prepend, flat, map_row, first_gap}
use Rattle.tree.specs.Tree.{at, cut, leaf, Links, entries_of, row_from, below, row, top, Placed, placed_at, over_gaps, nodes_below, nodes}
use Rattle.tree.proofs.Layers.{Under, cut_under, under_top}
use Rattle.tree.proofs.Rows.{cut_parted, flat-cut}

-- one list behind another

pub on_append : (n : ℕ) (ts us : List Placed) → on_layer n (ts ++ us) ≡ on_layer n ts ++ on_layer n us
on_append n [] us = refl
on_append n (t ∷ ts) us = go (eqb t.layer n) (on_append n ts us)
  where
    go : (b : Bool) → on_layer n (ts ++ us) ≡ on_layer n ts ++ on_layer n us
        → cond b (t ∷ on_layer n (ts ++ us)) (on_layer n (ts ++ us)) ≡ cond b (t ∷ on_layer n ts) (on_layer n ts) ++ on_layer n us
    go true rest = ap (◌∷◌ t) rest
    go false rest = rest

leaves-append : (ts us : List Placed) → leaves (ts ++ us) ≡ leaves ts ++ leaves us
leaves-append [] us = refl
leaves-append (t ∷ ts) us = ap (λ ls. leaves_in t.node.entries ++ ls) (leaves-append ts us) ∙ sym (append_assoc (leaves_in t.node.entries) (leaves ts) (leaves us))

items_append : (κ : Kind) (n : ℕ) (a b : Map) → items_at κ n (a ++ b) ≡ items_at κ n a ++ items_at κ n b
items_append κ n [] b = refl
items_append κ n (x ∷ a) b = go (at κ n x) (items_append κ n a b)
  where
    go : (t : Bool) → items_at κ n (a ++ b) ≡ items_at κ n a ++ items_at κ n b
        → cond t (x ∷ items_at κ n (a ++ b)) (items_at κ n (a ++ b)) ≡ cond t (x ∷ items_at κ n a) (items_at κ n a) ++ items_at κ n b
    go true rest = ap (◌∷◌ x) rest
    go false rest = rest

-- the leaves of one node

prepend-leaves : (κ : Kind) (f : Map → Option (List ℕ)) (x : Item) (r : Row Map Item)
    → leaves_in (entries_of (map_row f (leaf κ) (prepend false x r))) ≡ leaves_in (entries_of (map_row f (leaf κ) r))
prepend-leaves κ f x (end g) = refl
prepend-leaves κ f x (more g y r) = refl

row-leaves : (κ : Kind) (f : Map → Option (List ℕ)) (n : ℕ) (m : Map) → leaves_in (entries_of (map_row f (leaf κ) (cut κ n m))) ≡ map (leaf κ) (items_at κ n m)
row-leaves κ f n [] = refl
row-leaves κ f n (x ∷ m) = go (at κ n x) (row-leaves κ f n m)
  where
    go : (t : Bool) → leaves_in (entries_of (map_row f (leaf κ) (cut κ n m))) ≡ map (leaf κ) (items_at κ n m)
        → leaves_in (entries_of (map_row f (leaf κ) (prepend t x (cut κ n m)))) ≡ map (leaf κ) (cond t (x ∷ items_at κ n m) (items_at κ n m))
    go true rest = ap (◌∷◌ (leaf κ x)) rest
    go false rest = prepend-leaves κ f x (cut κ n m) ∙ rest

-- the nodes below a layer are of lower layers

gaps_low : (N : ℕ) (f : Map → List Placed) → ((g : Map) → AllByRecursion (λ t. t.layer < N) (f g)) → (c : Row Map Item) → AllByRecursion (λ t. t.layer < N) (over_gaps f c)
gaps_low N f low (end g) = low g
gaps_low N f low (more g x c) = All-append (λ t. t.layer < N) (f g) (over_gaps f c) (low g) (gaps_low N f low c)

below_low : (κ : Kind) (N : ℕ) (m : Map) → AllByRecursion (λ t. t.layer < N) (nodes_below κ N m)
below_low κ zero m = tt
below_low κ (suc N) [] = tt
below_low κ (suc N) (x ∷ m) =
    let gaps = gaps_low N (nodes_below κ N) (below_low κ N) (cut κ N (x ∷ m)) in
    (omega arith, All-weaker (λ t. t.layer < N) (λ t. t.layer < suc N) (λ t l. omega arith) (over_gaps (nodes_below κ N) (cut κ N (x ∷ m))) gaps)

none_on : (N : ℕ) (ts : List Placed) → AllByRecursion (λ t. t.layer < N) ts → on_layer N ts ≡ []
none_on N [] low = refl
none_on N (t ∷ ts) low = rw (ne_eqb t.layer N (λ e. omega (arith, low.0)), none_on N ts low.1)

-- the leaves of the nodes of one layer
module _ (κ : Kind) (n : ℕ) where
  abbrev Holds : List Placed → Map → Type 0
  Holds ts m = leaves (on_layer n ts) ≡ map (leaf κ) (items_at κ n m)

  gaps_hold : (N : ℕ) (f : Map → List Placed) → N ≢ n → ((g : Map) → Under κ N g → Holds (f g) g)
      → (c : Row Map Item) → Parted (λ x. layer κ x.key < N) (λ x. layer κ x.key ≡ N) c → Holds (over_gaps f c) (flat c)
  gaps_hold N f ne each (end g) parts = each g parts
  gaps_hold N f ne each (more g x c) parts =
      let other : at κ n x ≡ false = ne_eqb (layer κ x.key) n (λ e. ne (sym parts.1 ∙ e)) in
      let rest = gaps_hold N f ne each c parts.2 in
      rw (on_append n (f g) (over_gaps f c), leaves-append (on_layer n (f g)) (on_layer n (over_gaps f c)), each g parts.0, rest, items_append κ n g (x ∷ flat c), other, map-append (leaf κ) (items_at κ n g) (items_at κ n (flat c)))

  node_holds : (N : ℕ) → ((g : Map) → Under κ N g → Holds (nodes_below κ N g) g) → (m : Map) → Under κ (suc N) m
      → Holds (placed_at N (row κ N m) ∷ over_gaps (nodes_below κ N) (cut κ N m)) m
  node_holds N each m u = go (eqb N n) refl
    where
      go : (t : Bool) → eqb N n ≡ t → Holds (placed_at N (row κ N m) ∷ over_gaps (nodes_below κ N) (cut κ N m)) m
      go true e =
          let same = eqb-true N n e in
          let none : on_layer n (over_gaps (nodes_below κ N) (cut κ N m)) ≡ [] =
          rw (← same) (none_on N (over_gaps (nodes_below κ N) (cut κ N m)) (gaps_low N (nodes_below κ N) (below_low κ N) (cut κ N m))) in
          rw (e, none, append-nil (leaves_in (entries_of (row κ N m))), row-leaves κ (below κ N) N m, same)
      go false e =
          rw e (subst (λ (w : Map). Holds (over_gaps (nodes_below κ N) (cut κ N m)) w) (flat-cut (at κ N) m)
          (gaps_hold N (nodes_below κ N) (eqb-false N n e) each (cut κ N m) (cut_under κ N m u)))

  below_holds : (N : ℕ) (m : Map) → Under κ N m → Holds (nodes_below κ N m) m
  below_holds zero [] u = refl
  below_holds zero (x ∷ m) u = absurd (omega (arith, u.0))
  below_holds (suc N) [] u = refl
  below_holds (suc N) (x ∷ m) u = node_holds N (below_holds N) (x ∷ m) u

-- a node and its row

row_of_from : (r : Links) → row_from (first_gap r) (entries_of r) ≡ r
row_of_from (end l) = refl
row_of_from (more l s r) = ap (more l s) (row_of_from r)

first_from : (l : Option (List ℕ)) (es : List Entry) → first_gap (row_from l es) ≡ l
first_from l [] = refl
first_from l (e ∷ es) = refl

entries_from : (l : Option (List ℕ)) (es : List Entry) → entries_of (row_from l es) ≡ es
entries_from l [] = refl
entries_from l (e ∷ es) =
    let first = first_from e.after es in
    let rest = entries_from e.after es in
    λ i. record { key = e.key; value = e.value; after = first i } ∷ rest i

-- the root's layer

on_top : (κ : Kind) (m : Map) → (m ≡ []) ⊎ ((x : Item) × Has m x × (layer κ x.key ≡ top κ m))
on_top κ [] = inl refl
on_top κ (x ∷ m) = inr (go (on_top κ m))
  where
    here : top κ (x ∷ m) ≡ layer κ x.key → (y : Item) × Has (x ∷ m) y × (layer κ y.key ≡ top κ (x ∷ m))
    here e = (x, (all_has_itself (x ∷ m)).0, sym e)

    deeper : (y : Item) → Has m y → layer κ y.key ≡ top κ m → (t : Bool) → eqb (max (layer κ x.key) (top κ m)) (layer κ x.key) ≡ t
        → (z : Item) × Has (x ∷ m) z × (layer κ z.key ≡ top κ (x ∷ m))
    deeper y h e true t = here (eqb-true _ _ t)
    deeper y h e false t = (y, has_append_right (x ∷ []) m y h, omega (arith, eqb-false _ _ t))

    go : (m ≡ []) ⊎ ((y : Item) × Has m y × (layer κ y.key ≡ top κ m)) → (y : Item) × Has (x ∷ m) y × (layer κ y.key ≡ top κ (x ∷ m))
    go (inl e) = here (omega (arith, ap (top κ) e))
    go (inr (y, h, e)) = deeper y h e (eqb (max (layer κ x.key) (top κ m)) (layer κ x.key)) refl

pub node_law : (κ : Kind) → NodeLaw κ
unfolding nodes
node_law κ = record {
  whole = λ n m. flat-cut (at κ n) m;
  layers = λ n m.
      cut_parted (at κ n) (λ x. layer κ x.key ≢ n) (λ x. layer κ x.key ≡ n) (Has m)
      (λ x t _. eqb-true (layer κ x.key) n t) (λ x t _. eqb-false (layer κ x.key) n t) m (all_has_itself m);
  under_top = λ m. All-weaker (λ x. layer κ x.key < suc (top κ m)) (λ x. layer κ x.key ≤ top κ m) (λ x l. omega arith) m (under_top κ m);
  on_top = on_top κ;
  held = λ n m. node_holds κ n (top κ m) (below_holds κ n (top κ m)) m (under_top κ m);
  node_of_row = λ n. let first = first_from n.first n.entries in let rest = entries_from n.first n.entries in λ i. record { first = first i; entries = rest i };
  row_of_node = row_of_from;
}
