-- Trees seen from above their root: a path that is raised, a split below a higher key, a join below a lower root. Assumes nothing.
use Rattle.std.proofs.Common.{◌≡◌, ℕ, zero, suc, ◌+◌, true, List, [], ◌∷◌, ◌++◌, map, Option, sym, refl, ap, subst, arith}
use Rattle.std.specs.List.{AllByRecursion}
use Rattle.std.proofs.lemmas.Bool.{eq-eqb}
use Rattle.digest.specs.Kind.{Kind}
use Rattle.digest.specs.Layer.{layer}
use Rattle.tree.specs.Change.{raise, rebuilt, shrunk, upward, single, both}
use Rattle.tree.specs.Map.{Item, Map}
use Rattle.tree.specs.Path.{gap_of, path, sides, ForkedPath, forked_path}
use Rattle.tree.specs.Row.{Row, end, more, map_row, count, graft}
use Rattle.tree.specs.Tree.{at, cut, Leaf, Links, leaf, below, row, top, Placed, over_gaps, nodes_below}
use Rattle.tree.proofs.Changes.{layers_of, under, sides_layers, split_complete, join_complete}
use Rattle.tree.proofs.Layers.{Under, under_le, under_append, cut_above, row_above, keyless_under, keyed_top}
use Rattle.tree.proofs.Nodes.{graft_from, graft_parts, inner, made, placed_rest}
use Rattle.tree.proofs.Paths.{path-link, forked_path-at}
use Rattle.tree.proofs.Places.{Around}
use Rattle.tree.proofs.Rows.{cut_at}
use Rattle.tree.proofs.Splits.{left_gap, right_gap}

-- j layers above n
abbrev pub up : ℕ → ℕ → ℕ
up zero n = n
up (suc j) n = suc (up j n)

pub up_is : (j n : ℕ) → up j n ≡ j + n
up_is zero n = omega arith
up_is (suc j) n = omega (arith, up_is j n)

under_up : (κ : Kind) (j n : ℕ) (m : Map) → Under κ n m → Under κ (up j n) m
under_up κ j n m u = under_le κ n (up j n) m (omega (arith, up_is j n)) u

pub gap_above : (κ : Kind) (n : ℕ) (k : List ℕ) (m : Map) → Under κ n m → gap_of κ n k m ≡ m
gap_above κ n k m u = rw (cut_above κ n m u)

pub path_above : (κ : Kind) (n : ℕ) (k : List ℕ) (m : Map) → Under κ n m → path κ (suc n) k m ≡ end (below κ n m) ∷ path κ n k m
path_above κ n k m u = rw (gap_above κ n k m u, row_above κ n m u)

pub raise-path : (κ : Kind) (j n : ℕ) (k : List ℕ) (m : Map) → Under κ n m → raise κ j (path κ n k m) ≡ path κ (up j n) k m
raise-path κ zero n k m u = refl
raise-path κ (suc j) n k m u =
    let rest = raise-path κ j n k m u in
    let v = under_up κ j n m u in
    rw (rest, path-link κ (up j n) k m v, path_above κ (up j n) k m v)

-- a split below a key that is above the old root
module _ (κ : Kind) (P : Placed → Type 0) where
  pub split_above : (j n : ℕ) (a b : Map) → Under κ n a → Under κ n b
      → AllByRecursion P (upward (map both (sides κ (up j n) a b))) → AllByRecursion P (nodes_below κ n (a ++ b)) → AllByRecursion P (nodes_below κ (up j n) a) × AllByRecursion P (nodes_below κ (up j n) b)
  split_above zero n a b u v new old = split_complete κ P n a b u v new old
  split_above (suc j) n a b u v new old =
      let N = up j n in
      let ca = cut_above κ N a (under_up κ j n a u) in
      let cb = cut_above κ N b (under_up κ j n b v) in
      let parts = under κ P N (row κ N a ∷ (row κ N b ∷ [])) (map both (sides κ N (left_gap κ N a) (right_gap κ N b))) (sides_layers κ N (left_gap κ N a) (right_gap κ N b)) new in
      let lower : AllByRecursion P (upward (map both (sides κ N a b))) = rw (ca, cb) at parts.0 in
      let rest = split_above j n a b u v lower old in (
        made κ P N a (row κ N b ∷ []) (under_up κ (suc j) n a u) parts.1 (subst (λ r. AllByRecursion P (over_gaps (nodes_below κ N) r)) (sym ca) rest.0),
        made κ P N b [] (under_up κ (suc j) n b v) (placed_rest P N (row κ N a) (row κ N b ∷ []) parts.1) (subst (λ r. AllByRecursion P (over_gaps (nodes_below κ N) r)) (sym cb) rest.1),
      )

  -- an insert of a key above the old root
  pub insert_above_root : (j n : ℕ) (a : Map) (x : Item) (b : Map) → Around x.key a b → Under κ n a → Under κ n b → layer κ x.key ≡ up j n
      → AllByRecursion P (upward (layers_of (forked_path κ (suc (up j n)) x.key (a ++ (x ∷ b))))) → AllByRecursion P (nodes_below κ n (a ++ b)) → AllByRecursion P (nodes_below κ (suc (up j n)) (a ++ (x ∷ b)))
  insert_above_root j n a x b s u v e new old =
      let N = up j n in
      let f = nodes_below κ N in
      let t : at κ N x ≡ true = rw e (eq-eqb N N refl) in
      let ua = under_up κ j n a u in
      let ub = under_up κ j n b v in
      let new' = subst (λ (p : ForkedPath). AllByRecursion P (upward (layers_of p))) (forked_path-at κ N x.key a b s x refl t) new in
      let parts = under κ P N (single (row κ N (a ++ (x ∷ b)))) (map both (sides κ N (left_gap κ N a) (right_gap κ N b))) (sides_layers κ N (left_gap κ N a) (right_gap κ N b)) new' in
      let lower : AllByRecursion P (upward (map both (sides κ N a b))) = rw (cut_above κ N a ua, cut_above κ N b ub) at parts.0 in
      let halves = split_above j n a b u v lower old in
      let gaps : AllByRecursion P (over_gaps f (graft (end a) x (end b))) = graft_from P f (end a) x (end b) halves.0 halves.1 in
      let cut-is : cut κ N (a ++ (x ∷ b)) ≡ graft (end a) x (end b) = rw (cut_at (at κ N) a x b t, cut_above κ N a ua, cut_above κ N b ub) in
      made κ P N (a ++ (x ∷ b)) [] (under_append κ (suc N) a (x ∷ b) (under_up κ (suc j) n a u) (omega arith, under_up κ (suc j) n b v)) parts.1
      (subst (λ r. AllByRecursion P (over_gaps f r)) (sym cut-is) gaps)

  -- the nodes of a map that are below its highest layer
  pub descend : (j n : ℕ) (m : Map) → Under κ n m → AllByRecursion P (nodes_below κ (up j n) m) → AllByRecursion P (nodes_below κ n m)
  descend zero n m u h = h
  descend (suc j) n m u h =
      let N = up j n in
      descend j n m u (subst (λ r. AllByRecursion P (over_gaps (nodes_below κ N) r)) (cut_above κ N m (under_up κ j n m u)) (inner κ P N m h))

  -- a delete of the only key on the old root's layer
  pub delete-top : (j n : ℕ) (k : List ℕ) (a : Map) (x : Item) (b : Map) → Around k a b → Under κ n a → Under κ n b → layer κ x.key ≡ up j n
      → AllByRecursion P (upward (map single (path κ n k (a ++ b)))) → AllByRecursion P (nodes_below κ (suc (up j n)) (a ++ (x ∷ b))) → AllByRecursion P (nodes_below κ n (a ++ b))
  delete-top j n k a x b s u v e new old =
      let N = up j n in
      let f = nodes_below κ N in
      let t : at κ N x ≡ true = rw e (eq-eqb N N refl) in
      let cut-is : cut κ N (a ++ (x ∷ b)) ≡ graft (end a) x (end b) = rw (cut_at (at κ N) a x b t, cut_above κ N a (under_up κ j n a u), cut_above κ N b (under_up κ j n b v)) in
      let gaps = graft_parts P f (end a) x (end b) (subst (λ r. AllByRecursion P (over_gaps f r)) cut-is (inner κ P N (a ++ (x ∷ b)) old)) in
      join_complete κ P n k a b s u v new (descend j n a u gaps.0) (descend j n b v gaps.1)

-- the root of a path is the highest node with a key

shrunk_keyed : (r : Links) (p : List Links) (l : Option (List ℕ)) (s : Leaf) (t : Links) → r ≡ more l s t → shrunk (r ∷ p) ≡ rebuilt r (map single p)
shrunk_keyed r p l s t e = subst (λ (r : Links). shrunk (r ∷ p) ≡ rebuilt r (map single p)) (sym e) refl

pub shrunk-path : (κ : Kind) (n : ℕ) (k : List ℕ) (m : Map) → Under κ n m
    → shrunk (path κ n k m) ≡ rebuilt (row κ (top κ m) m) (map single (path κ (top κ m) k (gap_of κ (top κ m) k m)))
shrunk-path κ zero k [] u = refl
shrunk-path κ zero k (x ∷ m) u = absurd (omega (arith, u.0))
shrunk-path κ (suc n) k m u = go (cut κ n m) refl (shrunk-path κ n k m)
  where
    go : (r : Row Map Item) → cut κ n m ≡ r
        → (Under κ n m → shrunk (path κ n k m) ≡ rebuilt (row κ (top κ m) m) (map single (path κ (top κ m) k (gap_of κ (top κ m) k m))))
        → shrunk (path κ (suc n) k m) ≡ rebuilt (row κ (top κ m) m) (map single (path κ (top κ m) k (gap_of κ (top κ m) k m)))
    go (end g) e rest =
        let v = keyless_under κ n m g u e in
        rw (path_above κ n k m v, rest v)
    go (more g x r) e rest =
        let t : top κ m ≡ n = keyed_top κ n m u (omega (arith, ap count e)) in
        rw t (shrunk_keyed (row κ n m) (path κ n k (gap_of κ n k m)) (below κ n g) (leaf κ x) (map_row (below κ n) (leaf κ) r) (ap (map_row (below κ n) (leaf κ)) e))
