-- A path follows links, and says of its key what the map does. Assumes nothing.
use Rattle.std.proofs.Common.{◌≡◌, ℕ, zero, suc, ◌<◌, Bool, true, false, List, [], ◌∷◌, ◌++◌, Some, None, Option, sym, refl, ap, ◌∙◌, arith}
use Rattle.std.specs.Option.{option_map}
use Rattle.keys.specs.Order.{before}
use Rattle.keys.proofs.Orders.{before_self, before_one_way}
use Rattle.digest.specs.Kind.{Kind}
use Rattle.digest.specs.Layer.{layer}
use Rattle.tree.specs.Change.{link_up}
use Rattle.tree.specs.Laws.{Parted, PathLaw}
use Rattle.tree.specs.Map.{Item, Map, Rising, lookup}
use Rattle.tree.specs.Path.{place, has, says, gap_of, path, path_from_root, path_says}
use Rattle.tree.specs.Row.{Row, end, more, map_row, gap_at, graft}
use Rattle.tree.specs.Tree.{at, cut, leaf, Links, below, row, top}
use Rattle.tree.proofs.Layers.{Under, at-below, cut_under, under_top, under_right}
use Rattle.tree.proofs.Paths.{path-link}
use Rattle.tree.proofs.Places.{Around, Located, absent, present, locate, around_gaps, has_absent, gap_absent, has-at, has_past, gap_of_past}
use Rattle.tree.proofs.Rows.{map_gap, parted_gap, cut_parted}
use Rattle.tree.proofs.Splits.{left_gap, right_gap, row_at}

-- the link in the key's place
follows : (κ : Kind) (n : ℕ) (k : List ℕ) (m : Map) → Under κ (suc n) m → has k (row κ n m) ≡ false
    → gap_at (place k (row κ n m)) (row κ n m) ≡ link_up κ (path κ n k (gap_of κ n k m))
follows κ n k m u lacks =
    let i = place k (row κ n m) in
    let g = gap_at i (cut κ n m) in
    let low : Under κ n g = parted_gap (λ x. layer κ x.key < n) (λ x. layer κ x.key ≡ n) i (cut κ n m) (cut_under κ n m u) in
    rw (map_gap (below κ n) (leaf κ) i (cut κ n m), lacks, path-link κ n k g low)

-- what the map says

lookup_absent : (k : List ℕ) (a b : Map) → Around k a b → lookup k (a ++ b) ≡ None
lookup_absent k [] [] s = refl
lookup_absent k [] (y ∷ b) s = rw (before_one_way k y.key s.right.0, s.right.0)
lookup_absent k (x ∷ a) b s = rw (s.left.0, lookup_absent k a b (record { left = s.left.1; right = s.right }))

lookup_present : (k : List ℕ) (a : Map) (x : Item) (b : Map) → Around k a b → x.key ≡ k → lookup k (a ++ (x ∷ b)) ≡ Some x.value
lookup_present k [] x b s e = rw (e, before_self k)
lookup_present k (y ∷ a) x b s e = rw (s.left.0, lookup_present k a x b (record { left = s.left.1; right = s.right }) e)

-- what the path says

path_absent : (κ : Kind) (n : ℕ) (k : List ℕ) (a b : Map) → Around k a b → path_says k (path κ n k (a ++ b)) ≡ None
path_absent κ zero k a b s = refl
path_absent κ (suc n) k a b s =
    rw (gap_absent κ n k a b s, has_absent κ n k a b s) (path_absent κ n k (left_gap κ n a) (right_gap κ n b) (around_gaps κ n k a b s))

says-graft : (κ : Kind) (k : List ℕ) (f : Map → Option (List ℕ)) (r : Row Map Item) (x : Item) (t : Links)
    → Parted (λ y. before y.key k ≡ true) (λ y. before y.key k ≡ true) r → x.key ≡ k → says k (graft (map_row f (leaf κ) r) (leaf κ x) t) ≡ Some (κ.hash x.value)
says-graft κ k f (end g) x t p e = rw (e, before_self k)
says-graft κ k f (more g y r) x t p e = rw (p.1, says-graft κ k f r x t p.2 e)

path_present : (κ : Kind) (n : ℕ) (k : List ℕ) (a : Map) (x : Item) (b : Map) → Around k a b → x.key ≡ k → layer κ x.key < n
    → path_says k (path κ n k (a ++ (x ∷ b))) ≡ Some (κ.hash x.value)
path_present κ zero k a x b s e h = absurd (omega arith)
path_present κ (suc n) k a x b s e h = go (path_present κ n k (left_gap κ n a) x (right_gap κ n b) (around_gaps κ n k a b s) e) (at κ n x) refl
  where
    go : (layer κ x.key < n → path_says k (path κ n k (left_gap κ n a ++ (x ∷ right_gap κ n b))) ≡ Some (κ.hash x.value))
        → (t : Bool) → at κ n x ≡ t → path_says k (path κ (suc n) k (a ++ (x ∷ b))) ≡ Some (κ.hash x.value)
    go rest true t =
        let left = cut_parted (at κ n) (λ y. before y.key k ≡ true) (λ y. before y.key k ≡ true) (λ y. before y.key k ≡ true) (λ y _ h. h) (λ y _ h. h) a s.left in
        rw (has-at κ n k a b s x e t, row_at κ n a x b t) (says-graft κ k (below κ n) (cut κ n a) x (row κ n b) left e)
    go rest false t = rw (gap_of_past κ n k a b s x t, has_past κ n k a b s x t) (rest (at-below (layer κ x.key) n t h))

tells : (κ : Kind) (k : List ℕ) (m : Map) → Rising m → path_says k (path_from_root κ k m) ≡ option_map κ.hash (lookup k m)
tells κ k m r = go m (locate k m r)
  where
    go : (m : Map) → Located k m → path_says k (path_from_root κ k m) ≡ option_map κ.hash (lookup k m)
    go m (absent a b s) = path_absent κ (suc (top κ (a ++ b))) k a b s ∙ sym (ap (option_map κ.hash) (lookup_absent k a b s))
    go m (present a x b s e) =
        let n = suc (top κ (a ++ (x ∷ b))) in
        let low = (under_right κ n a (x ∷ b) (under_top κ (a ++ (x ∷ b)))).0 in
        path_present κ n k a x b s e low ∙ sym (ap (option_map κ.hash) (lookup_present k a x b s e))

pub path_law : (κ : Kind) → PathLaw κ
path_law κ = record { follows = follows κ; tells = tells κ }
