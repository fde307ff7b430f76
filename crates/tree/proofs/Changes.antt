-- Which nodes a change makes below a layer: those of the changed path are nodes of the changed tree, and with the nodes that were there
-- they are all of them. What is said of each node is said for any P. Assumes nothing.
use Rattle.std.proofs.Common.{◌≡◌, ℕ, zero, suc, ◌<◌, Bool, true, false, eqb, List, [], ◌∷◌, ◌++◌, map, length, sym, refl, ap, ◌∙◌, subst, arith}
use Rattle.std.specs.List.{AllByRecursion}
use Rattle.std.proofs.ByRecursion.{All-append}
use Rattle.std.proofs.lemmas.List.{length-map}
use Rattle.std.proofs.lemmas.Bool.{cond_both, eqb-true}
use Rattle.digest.specs.Kind.{Kind}
use Rattle.digest.specs.Layer.{layer}
use Rattle.tree.specs.Change.{placed, upward, single, both}
use Rattle.tree.specs.Map.{Item, Map}
use Rattle.tree.specs.Path.{place, has, gap_of, path, sides, ForkedPath, forked_path}
use Rattle.tree.specs.Row.{gap_at, meet}
use Rattle.tree.specs.Tree.{at, cut, Links, row, Placed, over_gaps, nodes_below}
use Rattle.tree.proofs.Layers.{Under, at-below, first_under, last_under, under_append}
use Rattle.tree.proofs.Nodes.{all_parts, gap_nodes, first_nodes, last_nodes, meet_gap, meet_left, meet_right, meet_again, meet_from, graft_from, graft_parts, none, inner, own, made, placed_rest}
use Rattle.tree.proofs.Paths.{path-length, forked_path-at, forked_path_past, forked_path_cases}
use Rattle.tree.proofs.Places.{Around, around_gaps, gap_absent}
use Rattle.tree.proofs.Rows.{cut-append, cut_at, cut_past}
use Rattle.tree.proofs.Splits.{left_gap, right_gap}

-- the layers of a forked path
abbrev pub layers_of : ForkedPath → List (List Links)
layers_of p = map single p.upper ++ map both p.lower

-- the row at the head of a forked path
abbrev pub rest_of : List Links → List Links
rest_of [] = []
rest_of (r ∷ rs) = rs

pub forked_path-head : (κ : Kind) (n : ℕ) (k : List ℕ) (m : Map) → (forked_path κ (suc n) k m).upper ≡ row κ n m ∷ rest_of (forked_path κ (suc n) k m).upper
forked_path-head κ n k m = forked_path_cases κ n k m (λ (p : ForkedPath). p.upper ≡ row κ n m ∷ rest_of p.upper) refl refl

abbrev pub rest_layers : ForkedPath → List (List Links)
rest_layers p = map single (rest_of p.upper) ++ map both p.lower

pub head_layers : (r : Links) (p : ForkedPath) → p.upper ≡ r ∷ rest_of p.upper → layers_of p ≡ single r ∷ rest_layers p
head_layers r p e = ap (λ (u : List Links). map single u ++ map both p.lower) e

pub path_layers : (κ : Kind) (n : ℕ) (k : List ℕ) (m : Map) → length (map single (path κ n k m)) ≡ n
path_layers κ n k m = length-map (path κ n k m) single ∙ path-length κ n k m

pub sides_layers : (κ : Kind) (n : ℕ) (a b : Map) → length (map both (sides κ n a b)) ≡ n
sides_layers κ zero a b = refl
sides_layers κ (suc n) a b = ap suc (sides_layers κ n (left_gap κ n a) (right_gap κ n b))

pub fork_layers : (κ : Kind) (n : ℕ) (k : List ℕ) (m : Map) → length (layers_of (forked_path κ n k m)) ≡ n
fork_layers κ zero k m = refl
fork_layers κ (suc n) k m =
    forked_path_cases κ n k m (λ (p : ForkedPath). length (layers_of p) ≡ suc n)
    (ap suc (sides_layers κ n (gap_at (place k (row κ n m)) (cut κ n m)) (gap_at (suc (place k (row κ n m))) (cut κ n m))))
    (ap suc (fork_layers κ n k (gap_of κ n k m)))

module _ (κ : Kind) (P : Placed → Type 0) where
  -- one layer above others
  pub over : (n : ℕ) (rs : List Links) (layers : List (List Links)) → length layers ≡ n → AllByRecursion P (upward layers) → AllByRecursion P (placed n rs) → AllByRecursion P (upward (rs ∷ layers))
  over n rs layers e h i = All-append P (upward layers) (placed (length layers) rs) h (rw e i)

  pub under : (n : ℕ) (rs : List Links) (layers : List (List Links)) → length layers ≡ n → AllByRecursion P (upward (rs ∷ layers)) → AllByRecursion P (upward layers) × AllByRecursion P (placed n rs)
  under n rs layers e h = let parts = all_parts P (upward layers) (placed (length layers) rs) h in (parts.0, rw e at parts.1)

  -- the nodes of a path, of its sides and of a forked path are nodes of the tree

  pub gap_of-all : (n : ℕ) (k : List ℕ) (m : Map) → AllByRecursion P (over_gaps (nodes_below κ n) (cut κ n m)) → AllByRecursion P (nodes_below κ n (gap_of κ n k m))
  gap_of-all n k m h =
      cond_both (has k (row κ n m)) _ _ (λ (g : Map). AllByRecursion P (nodes_below κ n g)) (λ _. none κ P n)
      (λ _. gap_nodes P (nodes_below κ n) (place k (row κ n m)) (cut κ n m) h)

  pub path_sound : (n : ℕ) (k : List ℕ) (m : Map) → AllByRecursion P (nodes_below κ n m) → AllByRecursion P (upward (map single (path κ n k m)))
  path_sound zero k m h = tt
  path_sound (suc n) k m h =
      let g = gap_of κ n k m in
      over n (single (row κ n m)) (map single (path κ n k g)) (path_layers κ n k g) (path_sound n k g (gap_of-all n k m (inner κ P n m h))) (own κ P n m [] h tt)

  pub sides_sound : (n : ℕ) (a b : Map) → AllByRecursion P (nodes_below κ n a) → AllByRecursion P (nodes_below κ n b) → AllByRecursion P (upward (map both (sides κ n a b)))
  sides_sound zero a b h i = tt
  sides_sound (suc n) a b h i =
      let c = left_gap κ n a in
      let d = right_gap κ n b in
      let rest = sides_sound n c d (last_nodes P (nodes_below κ n) (cut κ n a) (inner κ P n a h)) (first_nodes P (nodes_below κ n) (cut κ n b) (inner κ P n b i)) in
      over n (row κ n a ∷ (row κ n b ∷ [])) (map both (sides κ n c d)) (sides_layers κ n c d) rest (own κ P n a (row κ n b ∷ []) h (own κ P n b [] i tt))

  pub fork_sound : (n : ℕ) (k : List ℕ) (m : Map) → AllByRecursion P (nodes_below κ n m) → AllByRecursion P (upward (layers_of (forked_path κ n k m)))
  fork_sound zero k m h = tt
  fork_sound (suc n) k m h =
      let i = place k (row κ n m) in
      let a = gap_at i (cut κ n m) in
      let b = gap_at (suc i) (cut κ n m) in
      let g = gap_of κ n k m in
      let f = nodes_below κ n in
      let gaps = inner κ P n m h in
      let node = own κ P n m [] h tt in
      forked_path_cases κ n k m (λ (p : ForkedPath). AllByRecursion P (upward (layers_of p)))
      (over n (single (row κ n m)) (map both (sides κ n a b)) (sides_layers κ n a b) (sides_sound n a b (gap_nodes P f i (cut κ n m) gaps) (gap_nodes P f (suc i) (cut κ n m) gaps)) node)
      (over n (single (row κ n m)) (layers_of (forked_path κ n k g)) (fork_layers κ n k g) (fork_sound n k g (gap_of-all n k m gaps)) node)

  -- the nodes that a split makes, with those that were there
  pub split_complete : (n : ℕ) (a b : Map) → Under κ n a → Under κ n b → AllByRecursion P (upward (map both (sides κ n a b))) → AllByRecursion P (nodes_below κ n (a ++ b)) → AllByRecursion P (nodes_below κ n a) × AllByRecursion P (nodes_below κ n b)
  split_complete zero a b u v new old = (tt, tt)
  split_complete (suc n) a b u v new old =
      let c = left_gap κ n a in
      let d = right_gap κ n b in
      let f = nodes_below κ n in
      let parts = under n (row κ n a ∷ (row κ n b ∷ [])) (map both (sides κ n c d)) (sides_layers κ n c d) new in
      let gaps = subst (λ r. AllByRecursion P (over_gaps f r)) (cut-append (at κ n) a b) (inner κ P n (a ++ b) old) in
      let rest = split_complete n c d (last_under κ n a u) (first_under κ n b v) parts.0 (meet_gap P f (cut κ n a) (c ++ d) (cut κ n b) gaps) in (
        made κ P n a (row κ n b ∷ []) u parts.1 (meet_left P f (cut κ n a) (c ++ d) (cut κ n b) gaps rest.0),
        made κ P n b [] v (placed_rest P n (row κ n a) (row κ n b ∷ []) parts.1) (meet_right P f (cut κ n a) (c ++ d) (cut κ n b) gaps rest.1),
      )

  -- those that a join makes
  pub join_complete : (n : ℕ) (k : List ℕ) (a b : Map) → Around k a b → Under κ n a → Under κ n b
      → AllByRecursion P (upward (map single (path κ n k (a ++ b)))) → AllByRecursion P (nodes_below κ n a) → AllByRecursion P (nodes_below κ n b) → AllByRecursion P (nodes_below κ n (a ++ b))
  join_complete zero k a b s u v new olda oldb = tt
  join_complete (suc n) k a b s u v new olda oldb =
      let c = left_gap κ n a in
      let d = right_gap κ n b in
      let f = nodes_below κ n in
      let parts = under n (single (row κ n (a ++ b))) (map single (path κ n k (gap_of κ n k (a ++ b)))) (path_layers κ n k (gap_of κ n k (a ++ b))) new in
      let path-new = subst (λ g. AllByRecursion P (upward (map single (path κ n k g)))) (gap_absent κ n k a b s) parts.0 in
      let gaps-a = inner κ P n a olda in
      let gaps-b = inner κ P n b oldb in
      let rest = join_complete n k c d (around_gaps κ n k a b s) (last_under κ n a u) (first_under κ n b v) path-new (last_nodes P f (cut κ n a) gaps-a) (first_nodes P f (cut κ n b) gaps-b) in
      made κ P n (a ++ b) [] (under_append κ (suc n) a b u v) parts.1
      (subst (λ r. AllByRecursion P (over_gaps f r)) (sym (cut-append (at κ n) a b)) (meet_from P f (cut κ n a) (c ++ d) (cut κ n b) gaps-a rest gaps-b))

  -- those that a delete makes
  pub delete_complete : (n : ℕ) (k : List ℕ) (a : Map) (x : Item) (b : Map) → Around k a b → Under κ n a → Under κ n b
      → AllByRecursion P (upward (map single (path κ n k (a ++ b)))) → AllByRecursion P (nodes_below κ n (a ++ (x ∷ b))) → AllByRecursion P (nodes_below κ n (a ++ b))
  delete_complete zero k a x b s u v new old = tt
  delete_complete (suc n) k a x b s u v new old =
      let c = left_gap κ n a in
      let d = right_gap κ n b in
      let parts = under n (single (row κ n (a ++ b))) (map single (path κ n k (gap_of κ n k (a ++ b)))) (path_layers κ n k (gap_of κ n k (a ++ b))) new in
      let path-new = subst (λ g. AllByRecursion P (upward (map single (path κ n k g)))) (gap_absent κ n k a b s) parts.0 in
      made κ P n (a ++ b) [] (under_append κ (suc n) a b u v) parts.1
      (subst (λ r. AllByRecursion P (over_gaps (nodes_below κ n) r)) (sym (cut-append (at κ n) a b))
      (go (around_gaps κ n k a b s) path-new (delete_complete n k c x d (around_gaps κ n k a b s) (last_under κ n a u) (first_under κ n b v) path-new) (at κ n x) refl))
    where
      go : Around k (left_gap κ n a) (right_gap κ n b) → AllByRecursion P (upward (map single (path κ n k (left_gap κ n a ++ right_gap κ n b))))
          → (AllByRecursion P (nodes_below κ n (left_gap κ n a ++ (x ∷ right_gap κ n b))) → AllByRecursion P (nodes_below κ n (left_gap κ n a ++ right_gap κ n b)))
          → (t : Bool) → at κ n x ≡ t → AllByRecursion P (over_gaps (nodes_below κ n) (meet (cut κ n a) (left_gap κ n a ++ right_gap κ n b) (cut κ n b)))
      go gaps path-new rest true t =
          let f = nodes_below κ n in
          let sides = graft_parts P f (cut κ n a) x (cut κ n b) (subst (λ r. AllByRecursion P (over_gaps f r)) (cut_at (at κ n) a x b t) (inner κ P n (a ++ (x ∷ b)) old)) in
          let joint = join_complete n k (left_gap κ n a) (right_gap κ n b) gaps (last_under κ n a u) (first_under κ n b v) path-new (last_nodes P f (cut κ n a) sides.0) (first_nodes P f (cut κ n b) sides.1) in
          meet_from P f (cut κ n a) (left_gap κ n a ++ right_gap κ n b) (cut κ n b) sides.0 joint sides.1
      go gaps path-new rest false t =
          let f = nodes_below κ n in
          let all = subst (λ r. AllByRecursion P (over_gaps f r)) (cut_past (at κ n) a x b t) (inner κ P n (a ++ (x ∷ b)) old) in
          meet_again P f (cut κ n a) (left_gap κ n a ++ (x ∷ right_gap κ n b)) (left_gap κ n a ++ right_gap κ n b) (cut κ n b) all
          (rest (meet_gap P f (cut κ n a) (left_gap κ n a ++ (x ∷ right_gap κ n b)) (cut κ n b) all))

  -- those that an insert of a new key makes
  pub insert_complete : (n : ℕ) (a : Map) (x : Item) (b : Map) → Around x.key a b → Under κ n a → Under κ n b → layer κ x.key < n
      → AllByRecursion P (upward (layers_of (forked_path κ n x.key (a ++ (x ∷ b))))) → AllByRecursion P (nodes_below κ n (a ++ b)) → AllByRecursion P (nodes_below κ n (a ++ (x ∷ b)))
  insert_complete zero a x b s u v h new old = absurd (omega arith)
  insert_complete (suc n) a x b s u v h new old =
      go (subst (λ r. AllByRecursion P (over_gaps (nodes_below κ n) r)) (cut-append (at κ n) a b) (inner κ P n (a ++ b) old))
      (insert_complete n (left_gap κ n a) x (right_gap κ n b) (around_gaps κ n x.key a b s) (last_under κ n a u) (first_under κ n b v)) (at κ n x) refl
    where
      go : AllByRecursion P (over_gaps (nodes_below κ n) (meet (cut κ n a) (left_gap κ n a ++ right_gap κ n b) (cut κ n b)))
          → (layer κ x.key < n → AllByRecursion P (upward (layers_of (forked_path κ n x.key (left_gap κ n a ++ (x ∷ right_gap κ n b)))))
          → AllByRecursion P (nodes_below κ n (left_gap κ n a ++ right_gap κ n b)) → AllByRecursion P (nodes_below κ n (left_gap κ n a ++ (x ∷ right_gap κ n b))))
          → (t : Bool) → at κ n x ≡ t → AllByRecursion P (nodes_below κ (suc n) (a ++ (x ∷ b)))
      go gaps rest true t =
          let c = left_gap κ n a in
          let d = right_gap κ n b in
          let f = nodes_below κ n in
          let new' = subst (λ (p : ForkedPath). AllByRecursion P (upward (layers_of p))) (forked_path-at κ n x.key a b s x refl t) new in
          let parts = under n (single (row κ n (a ++ (x ∷ b)))) (map both (sides κ n c d)) (sides_layers κ n c d) new' in
          let halves = split_complete n c d (last_under κ n a u) (first_under κ n b v) parts.0 (meet_gap P f (cut κ n a) (c ++ d) (cut κ n b) gaps) in
          made κ P n (a ++ (x ∷ b)) [] (under_append κ (suc n) a (x ∷ b) u (h, v)) parts.1
          (subst (λ r. AllByRecursion P (over_gaps f r)) (sym (cut_at (at κ n) a x b t))
          (graft_from P f (cut κ n a) x (cut κ n b) (meet_left P f (cut κ n a) (c ++ d) (cut κ n b) gaps halves.0) (meet_right P f (cut κ n a) (c ++ d) (cut κ n b) gaps halves.1)))
      go gaps rest false t =
          let c = left_gap κ n a in
          let d = right_gap κ n b in
          let f = nodes_below κ n in
          let m = c ++ (x ∷ d) in
          let new' = subst (λ (p : ForkedPath). AllByRecursion P (upward (layers_of p))) (forked_path_past κ n x.key a b s x t) new in
          let parts = under n (single (row κ n (a ++ (x ∷ b)))) (layers_of (forked_path κ n x.key m)) (fork_layers κ n x.key m) new' in
          let joint = rest (at-below (layer κ x.key) n t h) parts.0 (meet_gap P f (cut κ n a) (c ++ d) (cut κ n b) gaps) in
          made κ P n (a ++ (x ∷ b)) [] (under_append κ (suc n) a (x ∷ b) u (h, v)) parts.1
          (subst (λ r. AllByRecursion P (over_gaps f r)) (sym (cut_past (at κ n) a x b t)) (meet_again P f (cut κ n a) (c ++ d) m (cut κ n b) gaps joint))

-- a key that was there with another record: what an insert makes of its path
abbrev pub known : Kind → ℕ → Map → Item → Map → ForkedPath
known κ n a x b = record { upper = (forked_path κ n x.key (a ++ (x ∷ b))).upper; lower = sides κ (layer κ x.key) [] [] }

module _ (κ : Kind) (n : ℕ) (a : Map) (x : Item) (b : Map) (s : Around x.key a b) where
  known_at : at κ n x ≡ true → layers_of (known κ (suc n) a x b) ≡ single (row κ n (a ++ (x ∷ b))) ∷ map both (sides κ n [] [])
  known_at t = rw (forked_path-at κ n x.key a b s x refl t, eqb-true (layer κ x.key) n t)

  known_past : at κ n x ≡ false → layers_of (known κ (suc n) a x b) ≡ single (row κ n (a ++ (x ∷ b))) ∷ layers_of (known κ n (left_gap κ n a) x (right_gap κ n b))
  known_past t = rw (forked_path_past κ n x.key a b s x t)

pub known_layers : (κ : Kind) (n : ℕ) (a : Map) (x : Item) (b : Map) → Around x.key a b → layer κ x.key < n → length (layers_of (known κ n a x b)) ≡ n
known_layers κ zero a x b s h = absurd (omega arith)
known_layers κ (suc n) a x b s h = go (known_layers κ n (left_gap κ n a) x (right_gap κ n b) (around_gaps κ n x.key a b s)) (at κ n x) refl
  where
    go : (layer κ x.key < n → length (layers_of (known κ n (left_gap κ n a) x (right_gap κ n b))) ≡ n) → (t : Bool) → at κ n x ≡ t
        → length (layers_of (known κ (suc n) a x b)) ≡ suc n
    go rest true t = ap length (known_at κ n a x b s t) ∙ ap suc (sides_layers κ n [] [])
    go rest false t = ap length (known_past κ n a x b s t) ∙ ap suc (rest (at-below (layer κ x.key) n t h))

module _ (κ : Kind) (P : Placed → Type 0) where
  pub known_sound : (n : ℕ) (a : Map) (x : Item) (b : Map) → Around x.key a b → layer κ x.key < n
      → AllByRecursion P (nodes_below κ n (a ++ (x ∷ b))) → AllByRecursion P (upward (layers_of (known κ n a x b)))
  known_sound zero a x b s h new = absurd (omega arith)
  known_sound (suc n) a x b s h new = go (known_sound n (left_gap κ n a) x (right_gap κ n b) (around_gaps κ n x.key a b s)) (at κ n x) refl
    where
      go : (layer κ x.key < n → AllByRecursion P (nodes_below κ n (left_gap κ n a ++ (x ∷ right_gap κ n b))) → AllByRecursion P (upward (layers_of (known κ n (left_gap κ n a) x (right_gap κ n b)))))
          → (t : Bool) → at κ n x ≡ t → AllByRecursion P (upward (layers_of (known κ (suc n) a x b)))
      go rest true t =
          subst (λ layers. AllByRecursion P (upward layers)) (sym (known_at κ n a x b s t))
          (over κ P n (single (row κ n (a ++ (x ∷ b)))) (map both (sides κ n [] [])) (sides_layers κ n [] []) (sides_sound κ P n [] [] (none κ P n) (none κ P n)) (own κ P n (a ++ (x ∷ b)) [] new tt))
      go rest false t =
          let c = left_gap κ n a in
          let d = right_gap κ n b in
          let f = nodes_below κ n in
          let l = at-below (layer κ x.key) n t h in
          let gaps = subst (λ r. AllByRecursion P (over_gaps f r)) (cut_past (at κ n) a x b t) (inner κ P n (a ++ (x ∷ b)) new) in
          subst (λ layers. AllByRecursion P (upward layers)) (sym (known_past κ n a x b s t))
          (over κ P n (single (row κ n (a ++ (x ∷ b)))) (layers_of (known κ n c x d)) (known_layers κ n c x d (around_gaps κ n x.key a b s) l)
          (rest l (meet_gap P f (cut κ n a) (c ++ (x ∷ d)) (cut κ n b) gaps)) (own κ P n (a ++ (x ∷ b)) [] new tt))

  pub known_complete : (n : ℕ) (a : Map) (x y : Item) (b : Map) → y.key ≡ x.key → Around x.key a b → Under κ n a → Under κ n b → layer κ x.key < n
      → AllByRecursion P (upward (layers_of (known κ n a x b))) → AllByRecursion P (nodes_below κ n (a ++ (y ∷ b))) → AllByRecursion P (nodes_below κ n (a ++ (x ∷ b)))
  known_complete zero a x y b e s u v h new old = absurd (omega arith)
  known_complete (suc n) a x y b e s u v h new old =
      go (known_complete n (left_gap κ n a) x y (right_gap κ n b) e (around_gaps κ n x.key a b s) (last_under κ n a u) (first_under κ n b v)) (at κ n x) refl
    where
      same_layer : at κ n y ≡ at κ n x
      same_layer = ap (λ (j : List ℕ). eqb (layer κ j) n) e

      go : (layer κ x.key < n → AllByRecursion P (upward (layers_of (known κ n (left_gap κ n a) x (right_gap κ n b)))) → AllByRecursion P (nodes_below κ n (left_gap κ n a ++ (y ∷ right_gap κ n b)))
          → AllByRecursion P (nodes_below κ n (left_gap κ n a ++ (x ∷ right_gap κ n b))))
          → (t : Bool) → at κ n x ≡ t → AllByRecursion P (nodes_below κ (suc n) (a ++ (x ∷ b)))
      go rest true t =
          let f = nodes_below κ n in
          let new' = subst (λ layers. AllByRecursion P (upward layers)) (known_at κ n a x b s t) new in
          let parts = under κ P n (single (row κ n (a ++ (x ∷ b)))) (map both (sides κ n [] [])) (sides_layers κ n [] []) new' in
          let gaps = graft_parts P f (cut κ n a) y (cut κ n b) (subst (λ r. AllByRecursion P (over_gaps f r)) (cut_at (at κ n) a y b (same_layer ∙ t)) (inner κ P n (a ++ (y ∷ b)) old)) in
          made κ P n (a ++ (x ∷ b)) [] (under_append κ (suc n) a (x ∷ b) u (h, v)) parts.1
          (subst (λ r. AllByRecursion P (over_gaps f r)) (sym (cut_at (at κ n) a x b t)) (graft_from P f (cut κ n a) x (cut κ n b) gaps.0 gaps.1))
      go rest false t =
          let c = left_gap κ n a in
          let d = right_gap κ n b in
          let f = nodes_below κ n in
          let l = at-below (layer κ x.key) n t h in
          let new' = subst (λ layers. AllByRecursion P (upward layers)) (known_past κ n a x b s t) new in
          let parts = under κ P n (single (row κ n (a ++ (x ∷ b)))) (layers_of (known κ n c x d)) (known_layers κ n c x d (around_gaps κ n x.key a b s) l) new' in
          let gaps = subst (λ r. AllByRecursion P (over_gaps f r)) (cut_past (at κ n) a y b (same_layer ∙ t)) (inner κ P n (a ++ (y ∷ b)) old) in
          let joint = rest l parts.0 (meet_gap P f (cut κ n a) (c ++ (y ∷ d)) (cut κ n b) gaps) in
          made κ P n (a ++ (x ∷ b)) [] (under_append κ (suc n) a (x ∷ b) u (h, v)) parts.1
          (subst (λ r. AllByRecursion P (over_gaps f r)) (sym (cut_past (at κ n) a x b t)) (meet_again P f (cut κ n a) (c ++ (y ∷ d)) (c ++ (x ∷ d)) (cut κ n b) gaps joint))
