-- The folds over a path: splitting and joining undo each other, and an insert and a delete give the path in the changed map's tree.
-- Assumes nothing.
use Rattle.std.proofs.Common.{◌≡◌, ℕ, zero, suc, ◌<◌, Bool, true, false, eqb, List, [], ◌∷◌, ◌++◌, length, Some, None, sym, refl, ap, ◌∙◌, arith}
use Rattle.std.proofs.lemmas.Bool.{cond_both, eqb-true}
use Rattle.digest.specs.Kind.{Kind}
use Rattle.digest.specs.Layer.{layer}
use Rattle.tree.specs.Change.{link_to, link_up, left_up, right_up, split, join, insert_up, delete_up}
use Rattle.tree.specs.Map.{Item, Map}
use Rattle.tree.specs.Path.{place, has, gap_of, path, sides, ForkedPath, forked_path}
use Rattle.tree.specs.Row.{Row, end, more, prepend, map_row, gap_at}
use Rattle.tree.specs.Tree.{at, cut, Links, leaf, digest, below, row}
use Rattle.tree.proofs.Layers.{Under, at-below, first_under, last_under, under_append}
use Rattle.tree.proofs.Places.{Around, around_gaps, place_absent, has_absent, gap_absent, place_at, has-at, gap_of-at, place_past, has_past, gap_of_past}
use Rattle.tree.proofs.Rows.{cut_at, gap_before, gap_after}
use Rattle.tree.proofs.Splits.{left_gap, right_gap, row-append, row_left, row_right, row_same, insert-at, insert_above, delete-at, delete_above, replace-at, replace_above}

-- the link to the node of a map is that of the map

pub below_none : (κ : Kind) (n : ℕ) → below κ n [] ≡ None
below_none κ zero = refl
below_none κ (suc n) = refl

end_link : (κ : Kind) (n : ℕ) (x : Item) (m : Map) → layer κ x.key < n → link_to κ (end (below κ n (x ∷ m))) ≡ Some (digest κ (end (below κ n (x ∷ m))))
end_link κ zero x m h = absurd (omega arith)
end_link κ (suc n) x m h = refl

prepend-link : (κ : Kind) (n : ℕ) (t : Bool) (x : Item) (r : Row Map Item) → at κ n x ≡ t → layer κ x.key < suc n
    → link_to κ (map_row (below κ n) (leaf κ) (prepend t x r)) ≡ Some (digest κ (map_row (below κ n) (leaf κ) (prepend t x r)))
prepend-link κ n true x r t h = refl
prepend-link κ n false x (end g) t h = end_link κ n x g (at-below (layer κ x.key) n t h)
prepend-link κ n false x (more g y r) t h = refl

pub row-link : (κ : Kind) (n : ℕ) (m : Map) → Under κ (suc n) m → link_to κ (row κ n m) ≡ below κ (suc n) m
row-link κ n [] u = rw (below_none κ n)
row-link κ n (x ∷ m) u = prepend-link κ n (at κ n x) x (cut κ n m) refl u.0

pub path-link : (κ : Kind) (n : ℕ) (k : List ℕ) (m : Map) → Under κ n m → link_up κ (path κ n k m) ≡ below κ n m
path-link κ zero k m u = refl
path-link κ (suc n) k m u = row-link κ n m u

left_link : (κ : Kind) (n : ℕ) (a b : Map) → Under κ n a → left_up κ (sides κ n a b) ≡ below κ n a
left_link κ zero a b u = refl
left_link κ (suc n) a b u = row-link κ n a u

right_link : (κ : Kind) (n : ℕ) (a b : Map) → Under κ n b → right_up κ (sides κ n a b) ≡ below κ n b
right_link κ zero a b u = refl
right_link κ (suc n) a b u = row-link κ n b u

pub path-length : (κ : Kind) (n : ℕ) (k : List ℕ) (m : Map) → length (path κ n k m) ≡ n
path-length κ zero k m = refl
path-length κ (suc n) k m = ap suc (path-length κ n k (gap_of κ n k m))

-- splitting and joining

module _ (κ : Kind) (k : List ℕ) where
  pub split-sides : (n : ℕ) (a b : Map) → Around k a b → Under κ n a → Under κ n b → split κ k (path κ n k (a ++ b)) ≡ sides κ n a b
  split-sides zero a b s u v = refl
  split-sides (suc n) a b s u v =
      let rest = split-sides n (left_gap κ n a) (right_gap κ n b) (around_gaps κ n k a b s) (last_under κ n a u) (first_under κ n b v) in
      rw (gap_absent κ n k a b s, rest, place_absent κ n k a b s, left_link κ n (left_gap κ n a) (right_gap κ n b) (last_under κ n a u), right_link κ n (left_gap κ n a) (right_gap κ n b) (first_under κ n b v), ← (row_left κ n a b), ← (row_right κ n a b))

  pub join-path : (n : ℕ) (a b : Map) → Around k a b → Under κ n a → Under κ n b → join κ (sides κ n a b) ≡ path κ n k (a ++ b)
  join-path zero a b s u v = refl
  join-path (suc n) a b s u v =
      let rest = join-path n (left_gap κ n a) (right_gap κ n b) (around_gaps κ n k a b s) (last_under κ n a u) (first_under κ n b v) in
      let link = path-link κ n k (left_gap κ n a ++ right_gap κ n b) (under_append κ n (left_gap κ n a) (right_gap κ n b) (last_under κ n a u) (first_under κ n b v)) in
      rw (rest, link, ← (row-append κ n a b), gap_absent κ n k a b s)

-- a node above the forked path of a gap
abbrev pub step : Kind → ℕ → List ℕ → Links → Map → ForkedPath
step κ n k r m = record { upper = r ∷ (forked_path κ n k m).upper; lower = (forked_path κ n k m).lower }

-- one step of a forked path: at the key's layer, above it, and where the key is not there
module _ (κ : Kind) (n : ℕ) (k : List ℕ) (a b : Map) (s : Around k a b) where
  pub forked_path-at : (x : Item) → x.key ≡ k → at κ n x ≡ true
      → forked_path κ (suc n) k (a ++ (x ∷ b)) ≡ record { upper = row κ n (a ++ (x ∷ b)) ∷ []; lower = sides κ n (left_gap κ n a) (right_gap κ n b) }
  forked_path-at x e t = rw (has-at κ n k a b s x e t, place_at κ n k a b s x e t, cut_at (at κ n) a x b t, gap_before, gap_after)

  pub forked_path_past : (x : Item) → at κ n x ≡ false → forked_path κ (suc n) k (a ++ (x ∷ b)) ≡ step κ n k (row κ n (a ++ (x ∷ b))) (left_gap κ n a ++ (x ∷ right_gap κ n b))
  forked_path_past x t = rw (gap_of_past κ n k a b s x t, has_past κ n k a b s x t)

  pub forked_path_absent : forked_path κ (suc n) k (a ++ b) ≡ step κ n k (row κ n (a ++ b)) (left_gap κ n a ++ right_gap κ n b)
  forked_path_absent = rw (gap_absent κ n k a b s, has_absent κ n k a b s)

-- what holds of both forms of a forked path holds of it
pub forked_path_cases : (κ : Kind) (n : ℕ) (k : List ℕ) (m : Map) (Q : ForkedPath → Type 0)
    → Q (record { upper = row κ n m ∷ []; lower = sides κ n (gap_at (place k (row κ n m)) (cut κ n m)) (gap_at (suc (place k (row κ n m))) (cut κ n m)) })
    → Q (step κ n k (row κ n m) (gap_of κ n k m)) → Q (forked_path κ (suc n) k m)
forked_path_cases κ n k m Q at_key above = cond_both (has k (row κ n m)) _ _ Q (λ _. at_key) (λ _. above)

pub forked_path-link : (κ : Kind) (n : ℕ) (k : List ℕ) (m : Map) → Under κ n m → link_up κ (forked_path κ n k m).upper ≡ below κ n m
forked_path-link κ zero k m u = refl
forked_path-link κ (suc n) k m u =
    forked_path_cases κ n k m (λ (p : ForkedPath). link_up κ p.upper ≡ below κ (suc n) m) (row-link κ n m u) (row-link κ n m u)

-- an insert
module _ (κ : Kind) (x : Item) where
  abbrev k : List ℕ
  k = x.key

  -- of a key that is not there
  pub insert_new : (n : ℕ) (a b : Map) → Around k a b → Under κ n a → Under κ n b → layer κ k < n
      → insert_up κ x (path κ n k (a ++ b)) ≡ forked_path κ n k (a ++ (x ∷ b))
  insert_new zero a b s u v h = absurd (omega arith)
  insert_new (suc n) a b s u v h =
      let gaps = around_gaps κ n k a b s in
      let left = last_under κ n a u in
      let right = first_under κ n b v in
      go left right (split-sides κ k n (left_gap κ n a) (right_gap κ n b) gaps left right) (insert_new n (left_gap κ n a) (right_gap κ n b) gaps left right) (at κ n x) refl
    where
      go : Under κ n (left_gap κ n a) → Under κ n (right_gap κ n b)
          → split κ k (path κ n k (left_gap κ n a ++ right_gap κ n b)) ≡ sides κ n (left_gap κ n a) (right_gap κ n b)
          → (layer κ k < n → insert_up κ x (path κ n k (left_gap κ n a ++ right_gap κ n b)) ≡ forked_path κ n k (left_gap κ n a ++ (x ∷ right_gap κ n b)))
          → (t : Bool) → at κ n x ≡ t → insert_up κ x (path κ (suc n) k (a ++ b)) ≡ forked_path κ (suc n) k (a ++ (x ∷ b))
      go left right halves rest true t =
          rw (
            forked_path-at κ n k a b s x refl t,
            gap_absent κ n k a b s,
            path-length κ n k (left_gap κ n a ++ right_gap κ n b),
            t,
            halves,
            has_absent κ n k a b s,
            place_absent κ n k a b s,
            left_link κ n (left_gap κ n a) (right_gap κ n b) left,
            right_link κ n (left_gap κ n a) (right_gap κ n b) right,
            insert-at κ n a x b t,
          )
      go left right halves rest false t =
          let l : layer κ k < n = at-below (layer κ k) n t h in
          let link = forked_path-link κ n k (left_gap κ n a ++ (x ∷ right_gap κ n b)) (under_append κ n (left_gap κ n a) (x ∷ right_gap κ n b) left (l, right)) in
          rw (forked_path_past κ n k a b s x t, gap_absent κ n k a b s, path-length κ n k (left_gap κ n a ++ right_gap κ n b), t, rest l, link, place_absent κ n k a b s, insert_above κ n a x b t)

  -- of a key that is there: below its node nothing changes
  pub insert_known : (n : ℕ) (a : Map) (y : Item) (b : Map) → y.key ≡ k → Around k a b → Under κ n a → Under κ n b → layer κ k < n
      → insert_up κ x (path κ n k (a ++ (y ∷ b))) ≡ record { upper = (forked_path κ n k (a ++ (x ∷ b))).upper; lower = sides κ (layer κ k) [] [] }
  insert_known zero a y b e s u v h = absurd (omega arith)
  insert_known (suc n) a y b e s u v h =
      let gaps = around_gaps κ n k a b s in
      let left = last_under κ n a u in
      let right = first_under κ n b v in
      go left right (split-sides κ k n [] [] (record { left = tt; right = tt }) tt tt) (insert_known n (left_gap κ n a) y (right_gap κ n b) e gaps left right) (at κ n x) refl
    where
      same_layer : at κ n y ≡ at κ n x
      same_layer = ap (λ (j : List ℕ). eqb (layer κ j) n) e

      go : Under κ n (left_gap κ n a) → Under κ n (right_gap κ n b)
          → split κ k (path κ n k []) ≡ sides κ n [] []
          → (layer κ k < n → insert_up κ x (path κ n k (left_gap κ n a ++ (y ∷ right_gap κ n b)))
          ≡ record { upper = (forked_path κ n k (left_gap κ n a ++ (x ∷ right_gap κ n b))).upper; lower = sides κ (layer κ k) [] [] })
          → (t : Bool) → at κ n x ≡ t
          → insert_up κ x (path κ (suc n) k (a ++ (y ∷ b))) ≡ record { upper = (forked_path κ (suc n) k (a ++ (x ∷ b))).upper; lower = sides κ (layer κ k) [] [] }
      go left right halves rest true t =
          let t' = same_layer ∙ t in
          rw (
            forked_path-at κ n k a b s x refl t,
            gap_of-at κ n k a b s y e t',
            path-length κ n k [],
            t,
            halves,
            has-at κ n k a b s y e t',
            place_at κ n k a b s y e t',
            eqb-true (layer κ k) n t,
            ← (replace-at κ n a y x b t' t),
          )
      go left right halves rest false t =
          let t' = same_layer ∙ t in
          let l : layer κ k < n = at-below (layer κ k) n t h in
          let link = forked_path-link κ n k (left_gap κ n a ++ (x ∷ right_gap κ n b)) (under_append κ n (left_gap κ n a) (x ∷ right_gap κ n b) left (l, right)) in
          rw (forked_path_past κ n k a b s x t, gap_of_past κ n k a b s y t', path-length κ n k (left_gap κ n a ++ (y ∷ right_gap κ n b)), t, rest l, link, place_past κ n k a b s y t', ← (replace_above κ n a y x b t' t))

-- a delete
module _ (κ : Kind) (k : List ℕ) where
  abbrev deleted : ForkedPath → List Links
  deleted p = delete_up κ k p.upper (join κ p.lower)

  -- of a key that is there
  pub delete_known : (n : ℕ) (a : Map) (x : Item) (b : Map) → x.key ≡ k → Around k a b → Under κ n a → Under κ n b → layer κ k < n
      → deleted (forked_path κ n k (a ++ (x ∷ b))) ≡ path κ n k (a ++ b)
  delete_known zero a x b e s u v h = absurd (omega arith)
  delete_known (suc n) a x b e s u v h =
      let gaps = around_gaps κ n k a b s in
      let left = last_under κ n a u in
      let right = first_under κ n b v in
      go (path-link κ n k (left_gap κ n a ++ right_gap κ n b) (under_append κ n (left_gap κ n a) (right_gap κ n b) left right))
      (join-path κ k n (left_gap κ n a) (right_gap κ n b) gaps left right) (delete_known n (left_gap κ n a) x (right_gap κ n b) e gaps left right) (at κ n x) refl
    where
      go : link_up κ (path κ n k (left_gap κ n a ++ right_gap κ n b)) ≡ below κ n (left_gap κ n a ++ right_gap κ n b)
          → join κ (sides κ n (left_gap κ n a) (right_gap κ n b)) ≡ path κ n k (left_gap κ n a ++ right_gap κ n b)
          → (layer κ k < n → deleted (forked_path κ n k (left_gap κ n a ++ (x ∷ right_gap κ n b))) ≡ path κ n k (left_gap κ n a ++ right_gap κ n b))
          → (t : Bool) → at κ n x ≡ t → deleted (forked_path κ (suc n) k (a ++ (x ∷ b))) ≡ path κ (suc n) k (a ++ b)
      go link halves rest true t =
          rw (forked_path-at κ n k a b s x e t, halves, has-at κ n k a b s x e t, place_at κ n k a b s x e t, link, ← (delete-at κ n a x b t), gap_absent κ n k a b s)
      go link halves rest false t =
          let l : layer κ k < n = at-below (layer κ k) n (ap (λ (j : List ℕ). eqb (layer κ j) n) (sym e) ∙ t) h in
          rw (forked_path_past κ n k a b s x t, rest l, has_past κ n k a b s x t, place_past κ n k a b s x t, link, ← (delete_above κ n a x b t), gap_absent κ n k a b s)

  -- of a key that is not: every node is made again as it was
  pub delete_unknown : (n : ℕ) (a b : Map) → Around k a b → Under κ n a → Under κ n b → deleted (forked_path κ n k (a ++ b)) ≡ path κ n k (a ++ b)
  delete_unknown zero a b s u v = refl
  delete_unknown (suc n) a b s u v =
      let gaps = around_gaps κ n k a b s in
      let left = last_under κ n a u in
      let right = first_under κ n b v in
      let rest = delete_unknown n (left_gap κ n a) (right_gap κ n b) gaps left right in
      let link = path-link κ n k (left_gap κ n a ++ right_gap κ n b) (under_append κ n (left_gap κ n a) (right_gap κ n b) left right) in
      rw (forked_path_absent κ n k a b s, gap_absent κ n k a b s, rest, has_absent κ n k a b s, place_absent κ n k a b s, link, ← (row_same κ n a b))
