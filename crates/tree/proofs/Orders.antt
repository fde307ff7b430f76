-- The nodes of a changed path come in the order of the tree: by layer from 0 up, and within a layer from left to right. Assumes nothing.
use Rattle.std.proofs.Common.{◌≡◌, ℕ, zero, suc, ◌<◌, Bool, true, false, cond, not, eqb, List, [], ◌∷◌, ◌++◌, map, length, Some, None, sym, refl, ap, subst, arith}
use mathlib.Core.List.Sublistᴰ as ListSublistᴰ
use mathlib.Core.List.{Sublistᴰ}
use Rattle.std.proofs.lemmas.Bool.{cond_both, eq-eqb, eqb-true}
use Rattle.keys.specs.Order.{before}
use Rattle.digest.specs.Kind.{Kind}
use Rattle.digest.specs.Layer.{layer}
use Rattle.tree.specs.ByLayer.{on_layer, by_layer}
use Rattle.tree.specs.Change.{placed, upward, single, both}
use Rattle.tree.specs.Map.{Item, Map}
use Rattle.tree.specs.Path.{place, has, gap_of, path, sides, ForkedPath, forked_path}
use Rattle.tree.specs.Row.{Row, end, more, count, first_gap, last_gap, gap_at}
use Rattle.tree.specs.Tree.{at, cut, leaf, Links, below, row, Placed, placed_at, over_gaps, nodes_below}
use Rattle.tree.proofs.Changes.{layers_of, rest_of, rest_layers, head_layers, forked_path-head, path_layers, sides_layers, fork_layers, known, known_layers}
use Rattle.tree.proofs.Layers.{at-below}
use Rattle.tree.proofs.Leaves.{on_append}
use Rattle.tree.proofs.Paths.{below_none, forked_path-at, forked_path_past}
use Rattle.tree.proofs.Places.{Around, around_gaps}
use Rattle.tree.proofs.Rows.{cut_past, map-count, gap_meet}
use Rattle.tree.proofs.Splits.{left_gap, right_gap}

-- lists without some of their elements

pub sub_append : {X : Type 0} {xs ys zs ws : List X} → Sublistᴰ xs ys → Sublistᴰ zs ws → Sublistᴰ (xs ++ zs) (ys ++ ws)
sub_append ListSublistᴰ.slnil t = t
sub_append (ListSublistᴰ.cons s) t = ListSublistᴰ.cons (sub_append s t)
sub_append (ListSublistᴰ.cons-cons e s) t = ListSublistᴰ.cons-cons e (sub_append s t)

sub_right : {X : Type 0} (xs ys : List X) → Sublistᴰ ys (xs ++ ys)
sub_right xs ys = sub_append (ListSublistᴰ.nil-sublist xs) (ListSublistᴰ.refl ys)

sub_left : {X : Type 0} (xs ys : List X) → Sublistᴰ xs (xs ++ ys)
sub_left [] ys = ListSublistᴰ.nil-sublist ys
sub_left (x ∷ xs) ys = ListSublistᴰ.cons-cons refl (sub_left xs ys)

on_sub : (n : ℕ) {ts us : List Placed} → Sublistᴰ ts us → Sublistᴰ (on_layer n ts) (on_layer n us)
on_sub n ListSublistᴰ.slnil = ListSublistᴰ.slnil
on_sub n (ListSublistᴰ.cons {a = u} {l₁ = ts} {l₂ = us} s) = cond_both (eqb u.layer n) _ _ (λ (vs : List Placed). Sublistᴰ (on_layer n ts) vs) (λ _. ListSublistᴰ.cons (on_sub n s)) (λ _. on_sub n s)
on_sub n (ListSublistᴰ.cons-cons {a = t} {b = u} {l₁ = ts} {l₂ = us} e s) =
    subst (λ (v : Placed). Sublistᴰ (on_layer n (t ∷ ts)) (on_layer n (v ∷ us))) e (go (eqb t.layer n) (on_sub n s))
  where
    go : (b : Bool) → Sublistᴰ (on_layer n ts) (on_layer n us) → Sublistᴰ (cond b (t ∷ on_layer n ts) (on_layer n ts)) (cond b (t ∷ on_layer n us) (on_layer n us))
    go true rest = ListSublistᴰ.cons-cons refl rest
    go false rest = rest

pub by_sub : (n : ℕ) {ts us : List Placed} → Sublistᴰ ts us → Sublistᴰ (by_layer n ts) (by_layer n us)
by_sub zero s = ListSublistᴰ.slnil
by_sub (suc n) s = sub_append (by_sub n s) (on_sub n s)

-- gaps, from left to right
module _ (f : Map → List Placed) where
  first_sub : (r : Row Map Item) → Sublistᴰ (f (first_gap r)) (over_gaps f r)
  first_sub (end g) = ListSublistᴰ.refl (f g)
  first_sub (more g x r) = sub_left (f g) (over_gaps f r)

  last_sub : (r : Row Map Item) → Sublistᴰ (f (last_gap r)) (over_gaps f r)
  last_sub (end g) = ListSublistᴰ.refl (f g)
  last_sub (more g x r) = ListSublistᴰ.trans (last_sub r) (sub_right (f g) (over_gaps f r))

  gap_sub : (i : ℕ) (r : Row Map Item) → Sublistᴰ (f (gap_at i r)) (over_gaps f r)
  gap_sub zero r = first_sub r
  gap_sub (suc i) (end g) = ListSublistᴰ.refl (f g)
  gap_sub (suc i) (more g x r) = ListSublistᴰ.trans (gap_sub i r) (sub_right (f g) (over_gaps f r))

  beside_sub : (i : ℕ) (r : Row Map Item) → i < count r → Sublistᴰ (f (gap_at i r) ++ f (gap_at (suc i) r)) (over_gaps f r)
  beside_sub i (end g) l = absurd (omega arith)
  beside_sub zero (more g x r) l = sub_append (ListSublistᴰ.refl (f g)) (first_sub r)
  beside_sub (suc i) (more g x r) l = ListSublistᴰ.trans (beside_sub i r (omega arith)) (sub_right (f g) (over_gaps f r))

-- a key that a node has is at a place within it
has_within : (k : List ℕ) (r : Links) → has k r ≡ true → place k r < count r
has_within k (end l) h = absurd (grind arith)
has_within k (more l s r) h = go (before s.key k) refl h (has_within k r)
  where
    go : (t : Bool) → before s.key k ≡ t → cond t (has k r) (not (before k s.key)) ≡ true → (has k r ≡ true → place k r < count r)
        → cond t (suc (place k r)) 0 < suc (count r)
    go true e h rest = omega (arith, rest h)
    go false e h rest = omega arith

-- layers above layers

over_sub : (n : ℕ) (rs : List Links) (layers : List (List Links)) (ts : List Placed) → length layers ≡ n
    → Sublistᴰ (upward layers) (by_layer n ts) → Sublistᴰ (placed n rs) (on_layer n ts) → Sublistᴰ (upward (rs ∷ layers)) (by_layer (suc n) ts)
over_sub n rs layers ts e s t = sub_append s (rw e t)

-- of one node, and of two, those that are nodes
one_sub : (n : ℕ) (r : Links) → Sublistᴰ (placed n (r ∷ [])) (placed_at n r ∷ [])
one_sub n (end None) = ListSublistᴰ.cons ListSublistᴰ.slnil
one_sub n (end (Some d)) = ListSublistᴰ.refl _
one_sub n (more l s r) = ListSublistᴰ.refl _

placed_parts : (n : ℕ) (r : Links) (rs : List Links) → placed n (r ∷ rs) ≡ placed n (r ∷ []) ++ placed n rs
placed_parts n (end None) rs = refl
placed_parts n (end (Some d)) rs = refl
placed_parts n (more l s r) rs = refl

module _ (κ : Kind) where
  none_sub : (n : ℕ) (ts : List Placed) → Sublistᴰ (nodes_below κ n []) ts
  none_sub zero ts = ListSublistᴰ.nil-sublist ts
  none_sub (suc n) ts = ListSublistᴰ.nil-sublist ts

  inner_sub : (n : ℕ) (m : Map) → Sublistᴰ (over_gaps (nodes_below κ n) (cut κ n m)) (nodes_below κ (suc n) m)
  inner_sub n [] = none_sub n []
  inner_sub n (x ∷ m) = ListSublistᴰ.cons (ListSublistᴰ.refl _)

  -- the node at the head of its own layer
  pub head_sub : (n : ℕ) (r : Links) (ts : List Placed) → Sublistᴰ (placed_at n r ∷ []) (on_layer n (placed_at n r ∷ ts))
  head_sub n r ts = rw (eq-eqb n n refl) (ListSublistᴰ.cons-cons refl (ListSublistᴰ.nil-sublist (on_layer n ts)))

  own_sub : (n : ℕ) (m : Map) → Sublistᴰ (placed n (row κ n m ∷ [])) (on_layer n (nodes_below κ (suc n) m))
  own_sub n [] = subst (λ (r : Links). Sublistᴰ (placed n (r ∷ [])) []) (sym (ap end (below_none κ n))) ListSublistᴰ.slnil
  own_sub n (x ∷ m) = ListSublistᴰ.trans (one_sub n (row κ n (x ∷ m))) (head_sub n (row κ n (x ∷ m)) (over_gaps (nodes_below κ n) (cut κ n (x ∷ m))))

  pub gap_of_sub : (n : ℕ) (k : List ℕ) (m : Map) → Sublistᴰ (nodes_below κ n (gap_of κ n k m)) (over_gaps (nodes_below κ n) (cut κ n m))
  gap_of_sub n k m =
      cond_both (has k (row κ n m)) _ _ (λ (g : Map). Sublistᴰ (nodes_below κ n g) (over_gaps (nodes_below κ n) (cut κ n m)))
      (λ _. none_sub n _) (λ _. gap_sub (nodes_below κ n) (place k (row κ n m)) (cut κ n m))

  -- the nodes of a path, of its sides, and of a forked path

  pub path_order : (n : ℕ) (k : List ℕ) (m : Map) → Sublistᴰ (upward (map single (path κ n k m))) (by_layer n (nodes_below κ n m))
  path_order zero k m = ListSublistᴰ.slnil
  path_order (suc n) k m =
      let g = gap_of κ n k m in
      over_sub n (single (row κ n m)) (map single (path κ n k g)) (nodes_below κ (suc n) m) (path_layers κ n k g)
      (ListSublistᴰ.trans (path_order n k g) (by_sub n (ListSublistᴰ.trans (gap_of_sub n k m) (inner_sub n m)))) (own_sub n m)

  sides_order : (n : ℕ) (a b : Map) → Sublistᴰ (upward (map both (sides κ n a b))) (by_layer n (nodes_below κ n a ++ nodes_below κ n b))
  sides_order zero a b = ListSublistᴰ.slnil
  sides_order (suc n) a b =
      let c = left_gap κ n a in
      let d = right_gap κ n b in
      let f = nodes_below κ n in
      let low : Sublistᴰ (f c ++ f d) (nodes_below κ (suc n) a ++ nodes_below κ (suc n) b) =
      sub_append (ListSublistᴰ.trans (last_sub f (cut κ n a)) (inner_sub n a)) (ListSublistᴰ.trans (first_sub f (cut κ n b)) (inner_sub n b)) in
      over_sub n (row κ n a ∷ (row κ n b ∷ [])) (map both (sides κ n c d)) (nodes_below κ (suc n) a ++ nodes_below κ (suc n) b) (sides_layers κ n c d)
      (ListSublistᴰ.trans (sides_order n c d) (by_sub n low))
      (rw (placed_parts n (row κ n a) (row κ n b ∷ []), on_append n (nodes_below κ (suc n) a) (nodes_below κ (suc n) b)) (sub_append (own_sub n a) (own_sub n b)))

  fork_lower : (n : ℕ) (k : List ℕ) (m : Map) → ((g : Map) → Sublistᴰ (upward (layers_of (forked_path κ n k g))) (by_layer n (nodes_below κ n g)))
      → Sublistᴰ (upward (rest_layers (forked_path κ (suc n) k m))) (by_layer n (over_gaps (nodes_below κ n) (cut κ n m)))
  fork_lower n k m deeper =
      let i = place k (row κ n m) in
      let a = gap_at i (cut κ n m) in
      let b = gap_at (suc i) (cut κ n m) in
      let g = gap_of κ n k m in
      let f = nodes_below κ n in
      cond_both (has k (row κ n m)) _ _ (λ (p : ForkedPath). Sublistᴰ (upward (rest_layers p)) (by_layer n (over_gaps f (cut κ n m))))
      (λ h. ListSublistᴰ.trans (sides_order n a b) (by_sub n (beside_sub f i (cut κ n m) (omega (arith, has_within k (row κ n m) h, map-count (below κ n) (leaf κ) (cut κ n m))))))
      (λ _. ListSublistᴰ.trans (deeper g) (by_sub n (gap_of_sub n k m)))

  -- one more layer above a forked path
  raised_order : (n : ℕ) (m : Map) (p : ForkedPath) → p.upper ≡ row κ n m ∷ rest_of p.upper → length (layers_of p) ≡ suc n
      → Sublistᴰ (upward (rest_layers p)) (by_layer n (over_gaps (nodes_below κ n) (cut κ n m))) → Sublistᴰ (upward (layers_of p)) (by_layer (suc n) (nodes_below κ (suc n) m))
  raised_order n m p head long low =
      let all = head_layers (row κ n m) p head in
      rw all (over_sub n (single (row κ n m)) (rest_layers p) (nodes_below κ (suc n) m) (omega (arith, ap length all)) (ListSublistᴰ.trans low (by_sub n (inner_sub n m))) (own_sub n m))

  fork_order : (n : ℕ) (k : List ℕ) (m : Map) → Sublistᴰ (upward (layers_of (forked_path κ n k m))) (by_layer n (nodes_below κ n m))
  fork_order zero k m = ListSublistᴰ.slnil
  fork_order (suc n) k m =
      raised_order n m (forked_path κ (suc n) k m) (forked_path-head κ n k m) (fork_layers κ (suc n) k m) (fork_lower n k m (fork_order n k))

  pub new_order : (n : ℕ) (k : List ℕ) (m : Map) → Sublistᴰ (upward (rest_layers (forked_path κ (suc n) k m))) (by_layer n (over_gaps (nodes_below κ n) (cut κ n m)))
  new_order n k m = fork_lower n k m (fork_order n k)

  -- of a key that was there
  known_lower : (n : ℕ) (a : Map) (x : Item) (b : Map) → Around x.key a b → layer κ x.key < suc n
      → (layer κ x.key < n → let m = left_gap κ n a ++ (x ∷ right_gap κ n b) in
      Sublistᴰ (upward (layers_of (known κ n (left_gap κ n a) x (right_gap κ n b)))) (by_layer n (nodes_below κ n m)))
      → Sublistᴰ (upward (rest_layers (known κ (suc n) a x b))) (by_layer n (over_gaps (nodes_below κ n) (cut κ n (a ++ (x ∷ b)))))
  known_lower n a x b s h deeper = go (at κ n x) refl
    where
      go : (t : Bool) → at κ n x ≡ t → Sublistᴰ (upward (rest_layers (known κ (suc n) a x b))) (by_layer n (over_gaps (nodes_below κ n) (cut κ n (a ++ (x ∷ b)))))
      go true t =
          rw (forked_path-at κ n x.key a b s x refl t, eqb-true (layer κ x.key) n t)
          (ListSublistᴰ.trans (sides_order n [] []) (by_sub n (sub_append (none_sub n []) (none_sub n (over_gaps (nodes_below κ n) (cut κ n (a ++ (x ∷ b))))))))
      go false t =
          let m = left_gap κ n a ++ (x ∷ right_gap κ n b) in
          let f = nodes_below κ n in
          let gap : gap_at (count (cut κ n a)) (cut κ n (a ++ (x ∷ b))) ≡ m = rw (cut_past (at κ n) a x b t, gap_meet) in
          let within : Sublistᴰ (f m) (over_gaps f (cut κ n (a ++ (x ∷ b)))) = rw gap at (gap_sub f (count (cut κ n a)) (cut κ n (a ++ (x ∷ b)))) in
          rw (forked_path_past κ n x.key a b s x t) (ListSublistᴰ.trans (deeper (at-below (layer κ x.key) n t h)) (by_sub n within))

  known_order : (n : ℕ) (a : Map) (x : Item) (b : Map) → Around x.key a b → layer κ x.key < n
      → Sublistᴰ (upward (layers_of (known κ n a x b))) (by_layer n (nodes_below κ n (a ++ (x ∷ b))))
  known_order zero a x b s h = absurd (omega arith)
  known_order (suc n) a x b s h =
      raised_order n (a ++ (x ∷ b)) (known κ (suc n) a x b) (forked_path-head κ n x.key (a ++ (x ∷ b))) (known_layers κ (suc n) a x b s h)
      (known_lower n a x b s h (known_order n (left_gap κ n a) x (right_gap κ n b) (around_gaps κ n x.key a b s)))

  pub replaced_order : (n : ℕ) (a : Map) (x : Item) (b : Map) → Around x.key a b → layer κ x.key < suc n
      → Sublistᴰ (upward (rest_layers (known κ (suc n) a x b))) (by_layer n (over_gaps (nodes_below κ n) (cut κ n (a ++ (x ∷ b)))))
  replaced_order n a x b s h = known_lower n a x b s h (known_order n (left_gap κ n a) x (right_gap κ n b) (around_gaps κ n x.key a b s))
