-- The node of a map in two parts, and those of the parts. Assumes nothing.
use Rattle.std.proofs.Common.{◌≡◌, ℕ, true, false, ◌∷◌, ◌++◌}
use Rattle.digest.specs.Kind.{Kind}
use Rattle.tree.specs.Laws.{SplitJoin}
use Rattle.tree.specs.Map.{Item, Map}
use Rattle.tree.specs.Row.{count, first_gap, last_gap, meet, graft, front, back, relink, omit, replace}
use Rattle.tree.specs.Tree.{at, cut, leaf, below, row}
use Rattle.tree.proofs.Rows.{cut-append, cut_at, cut_past, map-meet, map-graft, map_first, map_last, map-count, front-meet, back-meet, relink-meet, omit-graft, replace-graft}

-- the gaps at the ends of the parts, and how many keys of layer n the first part has
abbrev pub left_gap : Kind → ℕ → Map → Map
left_gap κ n a = last_gap (cut κ n a)

abbrev pub right_gap : Kind → ℕ → Map → Map
right_gap κ n b = first_gap (cut κ n b)

abbrev pub keys_in : Kind → ℕ → Map → ℕ
keys_in κ n a = count (cut κ n a)

module _ (κ : Kind) (n : ℕ) (a b : Map) where
  pub row-append : row κ n (a ++ b) ≡ meet (row κ n a) (below κ n (left_gap κ n a ++ right_gap κ n b)) (row κ n b)
  row-append = rw (cut-append (at κ n) a b, map-meet)

  pub row_left : row κ n a ≡ front (keys_in κ n a) (row κ n (a ++ b)) (below κ n (left_gap κ n a))
  row_left = rw (row-append, ← (map_last (below κ n) (leaf κ) (cut κ n a)), ← (map-count (below κ n) (leaf κ) (cut κ n a)), front-meet)

  pub row_right : row κ n b ≡ back (keys_in κ n a) (row κ n (a ++ b)) (below κ n (right_gap κ n b))
  row_right = rw (row-append, ← (map_first (below κ n) (leaf κ) (cut κ n b)), ← (map-count (below κ n) (leaf κ) (cut κ n a)), back-meet)

  pub row_same : row κ n (a ++ b) ≡ relink (keys_in κ n a) (row κ n (a ++ b)) (below κ n (left_gap κ n a ++ right_gap κ n b))
  row_same = rw (row-append, ← (map-count (below κ n) (leaf κ) (cut κ n a)), relink-meet)

pub split-join : (κ : Kind) (n : ℕ) (a b : Map) → SplitJoin κ n a b
split-join κ n a b = record { joined = row-append κ n a b; left = row_left κ n a b; right = row_right κ n a b }

-- a key between the parts
module _ (κ : Kind) (n : ℕ) (a : Map) (x : Item) (b : Map) where
  pub row_at : at κ n x ≡ true → row κ n (a ++ (x ∷ b)) ≡ graft (row κ n a) (leaf κ x) (row κ n b)
  row_at t = rw (cut_at (at κ n) a x b t, map-graft)

  pub row_past : at κ n x ≡ false → row κ n (a ++ (x ∷ b)) ≡ meet (row κ n a) (below κ n (left_gap κ n a ++ (x ∷ right_gap κ n b))) (row κ n b)
  row_past t = rw (cut_past (at κ n) a x b t, map-meet)

  -- it comes
  pub insert-at : at κ n x ≡ true
      → row κ n (a ++ (x ∷ b))
      ≡ graft (front (keys_in κ n a) (row κ n (a ++ b)) (below κ n (left_gap κ n a))) (leaf κ x) (back (keys_in κ n a) (row κ n (a ++ b)) (below κ n (right_gap κ n b)))
  insert-at t = rw (row_at t, ← (row_left κ n a b), ← (row_right κ n a b))

  pub insert_above : at κ n x ≡ false
      → row κ n (a ++ (x ∷ b)) ≡ relink (keys_in κ n a) (row κ n (a ++ b)) (below κ n (left_gap κ n a ++ (x ∷ right_gap κ n b)))
  insert_above t = rw (row_past t, row-append κ n a b, ← (map-count (below κ n) (leaf κ) (cut κ n a)), relink-meet)

  -- it goes
  pub delete-at : at κ n x ≡ true → row κ n (a ++ b) ≡ omit (keys_in κ n a) (row κ n (a ++ (x ∷ b))) (below κ n (left_gap κ n a ++ right_gap κ n b))
  delete-at t = rw (row-append κ n a b, row_at t, ← (map-count (below κ n) (leaf κ) (cut κ n a)), omit-graft)

  pub delete_above : at κ n x ≡ false → row κ n (a ++ b) ≡ relink (keys_in κ n a) (row κ n (a ++ (x ∷ b))) (below κ n (left_gap κ n a ++ right_gap κ n b))
  delete_above t = rw (row-append κ n a b, row_past t, ← (map-count (below κ n) (leaf κ) (cut κ n a)), relink-meet)

-- another item with the same layer takes its place
module _ (κ : Kind) (n : ℕ) (a : Map) (x y : Item) (b : Map) where
  pub replace-at : at κ n x ≡ true → at κ n y ≡ true → row κ n (a ++ (y ∷ b)) ≡ replace (keys_in κ n a) (row κ n (a ++ (x ∷ b))) (leaf κ y)
  replace-at s t = rw (row_at κ n a x b s, row_at κ n a y b t, ← (map-count (below κ n) (leaf κ) (cut κ n a)), replace-graft)

  pub replace_above : at κ n x ≡ false → at κ n y ≡ false
      → row κ n (a ++ (y ∷ b)) ≡ relink (keys_in κ n a) (row κ n (a ++ (x ∷ b))) (below κ n (left_gap κ n a ++ (y ∷ right_gap κ n b)))
  replace_above s t = rw (row_past κ n a x b s, row_past κ n a y b t, ← (map-count (below κ n) (leaf κ) (cut κ n a)), relink-meet)
