-- Rows: what a cut, a meet and a graft make of each other, and of the places in them. Assumes nothing.
use Rattle.std.proofs.Common.{◌≡◌, ℕ, zero, suc, Bool, true, false, List, [], ◌∷◌, ◌++◌, sym, refl, ap, ◌∙◌, append-nil}
use Rattle.std.specs.List.{AllByRecursion}
use Rattle.tree.specs.Laws.{Parted}
use Rattle.tree.specs.Row.{Row, end, more, prepend, cut_by, flat, map_row, count, first_gap, last_gap, gap_at, set_first, meet, graft, front, back, relink, omit, replace}

-- the first gap of a row

set_first_same : {G X : Type 0} (s : Row G X) → set_first (first_gap s) s ≡ s
set_first_same (end g) = refl
set_first_same (more g x s) = refl

set_first_twice : {G X : Type 0} (h k : G) (s : Row G X) → set_first h (set_first k s) ≡ set_first h s
set_first_twice h k (end g) = refl
set_first_twice h k (more g x s) = refl

first_of_set : {G X : Type 0} (h : G) (s : Row G X) → first_gap (set_first h s) ≡ h
first_of_set h (end g) = refl
first_of_set h (more g x s) = refl

-- a list in two parts, and an element between them

prepend-meet : {X : Type 0} (t : Bool) (x : X) (r s : Row (List X) X)
    → meet (prepend t x r) (last_gap (prepend t x r) ++ first_gap s) s ≡ prepend t x (meet r (last_gap r ++ first_gap s) s)
prepend-meet true x r s = refl
prepend-meet false x (end g) (end h) = refl
prepend-meet false x (end g) (more h y s) = refl
prepend-meet false x (more g y r) s = refl

pub cut-append : {X : Type 0} (test : X → Bool) (a b : List X)
    → cut_by test (a ++ b) ≡ meet (cut_by test a) (last_gap (cut_by test a) ++ first_gap (cut_by test b)) (cut_by test b)
cut-append test [] b = sym (set_first_same (cut_by test b))
cut-append test (x ∷ a) b = rw (cut-append test a b, prepend-meet)

meet_more : {G X : Type 0} (r : Row G X) (h g : G) (x : X) (s : Row G X) → meet r h (more g x s) ≡ graft (meet r h (end h)) x s
meet_more (end g') h g x s = refl
meet_more (more g' y r) h g x s = ap (more g' y) (meet_more r h g x s)

meet_last : {G X : Type 0} (r : Row G X) (g : G) → meet r (last_gap r) (end g) ≡ r
meet_last (end h) g = refl
meet_last (more h x r) g = ap (more h x) (meet_last r g)

-- an element that passes is an item
pub cut_at : {X : Type 0} (test : X → Bool) (a : List X) (x : X) (b : List X) → test x ≡ true
    → cut_by test (a ++ (x ∷ b)) ≡ graft (cut_by test a) x (cut_by test b)
cut_at test a x b passes = rw (cut-append test a (x ∷ b), passes, append-nil (last_gap (cut_by test a)), meet_more, meet_last)

first_prepend : {X : Type 0} (x : X) (s : Row (List X) X) → first_gap (prepend false x s) ≡ x ∷ first_gap s
first_prepend x (end g) = refl
first_prepend x (more g y s) = refl

meet-prepend : {X : Type 0} (r : Row (List X) X) (h : List X) (x : X) (s : Row (List X) X) → meet r h (prepend false x s) ≡ meet r h s
meet-prepend (end g) h x (end k) = refl
meet-prepend (end g) h x (more k y s) = refl
meet-prepend (more g y r) h x s = ap (more g y) (meet-prepend r h x s)

-- any other is in the gap between the parts
pub cut_past : {X : Type 0} (test : X → Bool) (a : List X) (x : X) (b : List X) → test x ≡ false
    → cut_by test (a ++ (x ∷ b)) ≡ meet (cut_by test a) (last_gap (cut_by test a) ++ (x ∷ first_gap (cut_by test b))) (cut_by test b)
cut_past test a x b fails = rw (cut-append test a (x ∷ b), fails, first_prepend, meet-prepend)

-- a row put together again is the list

flat-prepend : {X : Type 0} (t : Bool) (x : X) (r : Row (List X) X) → flat (prepend t x r) ≡ x ∷ flat r
flat-prepend true x r = refl
flat-prepend false x (end g) = refl
flat-prepend false x (more g y r) = refl

pub flat-cut : {X : Type 0} (test : X → Bool) (m : List X) → flat (cut_by test m) ≡ m
flat-cut test [] = refl
flat-cut test (x ∷ m) = flat-prepend (test x) x (cut_by test m) ∙ ap (◌∷◌ x) (flat-cut test m)

-- what is known of each element is known of the gaps and items that it comes to stand in
module _ {X : Type 0} (test : X → Bool) (P Q R : X → Type 0) (parts : (x : X) → test x ≡ true → R x → Q x) (stays : (x : X) → test x ≡ false → R x → P x) where
  prepend_parted : (t : Bool) (x : X) (r : Row (List X) X) → test x ≡ t → R x → Parted P Q r → Parted P Q (prepend t x r)
  prepend_parted true x r e h p = (tt, parts x e h, p)
  prepend_parted false x (end g) e h p = (stays x e h, p)
  prepend_parted false x (more g y r) e h p = ((stays x e h, p.0), p.1, p.2)

  pub cut_parted : (m : List X) → AllByRecursion R m → Parted P Q (cut_by test m)
  cut_parted [] h = tt
  cut_parted (x ∷ m) h = prepend_parted (test x) x (cut_by test m) refl h.0 (cut_parted m h.1)

module _ {X : Type 0} (P Q : X → Type 0) where
  pub parted_first : (r : Row (List X) X) → Parted P Q r → AllByRecursion P (first_gap r)
  parted_first (end g) p = p
  parted_first (more g x r) p = p.0

  pub parted_last : (r : Row (List X) X) → Parted P Q r → AllByRecursion P (last_gap r)
  parted_last (end g) p = p
  parted_last (more g x r) p = parted_last r p.2

  pub parted_gap : (i : ℕ) (r : Row (List X) X) → Parted P Q r → AllByRecursion P (gap_at i r)
  parted_gap zero r p = parted_first r p
  parted_gap (suc i) (end g) p = p
  parted_gap (suc i) (more g x r) p = parted_gap i r p.2

-- a row with other gaps and items in the same places

pub map-meet : {G H X Y : Type 0} (f : G → H) (s : X → Y) (r : Row G X) (h : G) (t : Row G X)
    → map_row f s (meet r h t) ≡ meet (map_row f s r) (f h) (map_row f s t)
map-meet f s (end g) h (end k) = refl
map-meet f s (end g) h (more k y t) = refl
map-meet f s (more g x r) h t = ap (more (f g) (s x)) (map-meet f s r h t)

pub map-graft : {G H X Y : Type 0} (f : G → H) (s : X → Y) (r : Row G X) (x : X) (t : Row G X)
    → map_row f s (graft r x t) ≡ graft (map_row f s r) (s x) (map_row f s t)
map-graft f s (end g) x t = refl
map-graft f s (more g y r) x t = ap (more (f g) (s y)) (map-graft f s r x t)

pub map_first : {G H X Y : Type 0} (f : G → H) (s : X → Y) (r : Row G X) → first_gap (map_row f s r) ≡ f (first_gap r)
map_first f s (end g) = refl
map_first f s (more g x r) = refl

pub map_last : {G H X Y : Type 0} (f : G → H) (s : X → Y) (r : Row G X) → last_gap (map_row f s r) ≡ f (last_gap r)
map_last f s (end g) = refl
map_last f s (more g x r) = map_last f s r

pub map_gap : {G H X Y : Type 0} (f : G → H) (s : X → Y) (i : ℕ) (r : Row G X) → gap_at i (map_row f s r) ≡ f (gap_at i r)
map_gap f s zero r = map_first f s r
map_gap f s (suc i) (end g) = refl
map_gap f s (suc i) (more g x r) = map_gap f s i r

pub map-count : {G H X Y : Type 0} (f : G → H) (s : X → Y) (r : Row G X) → count (map_row f s r) ≡ count r
map-count f s (end g) = refl
map-count f s (more g x r) = ap suc (map-count f s r)

-- where two rows meet around a gap

pub front-meet : {G X : Type 0} (r : Row G X) (h : G) (s : Row G X) → front (count r) (meet r h s) (last_gap r) ≡ r
front-meet (end g) h s = refl
front-meet (more g x r) h s = ap (more g x) (front-meet r h s)

pub back-meet : {G X : Type 0} (r : Row G X) (h : G) (s : Row G X) → back (count r) (meet r h s) (first_gap s) ≡ s
back-meet (end g) h s = set_first_twice (first_gap s) h s ∙ set_first_same s
back-meet (more g x r) h s = back-meet r h s

pub gap_meet : {G X : Type 0} (r : Row G X) (h : G) (s : Row G X) → gap_at (count r) (meet r h s) ≡ h
gap_meet (end g) h s = first_of_set h s
gap_meet (more g x r) h s = gap_meet r h s

pub relink-meet : {G X : Type 0} (r : Row G X) (h k : G) (s : Row G X) → relink (count r) (meet r h s) k ≡ meet r k s
relink-meet (end g) h k s = set_first_twice k k (set_first h s) ∙ set_first_twice k h s
relink-meet (more g x r) h k s = ap (more g x) (relink-meet r h k s)

-- where they meet around an item

pub gap_before : {G X : Type 0} (r : Row G X) (x : X) (s : Row G X) → gap_at (count r) (graft r x s) ≡ last_gap r
gap_before (end g) x s = refl
gap_before (more g y r) x s = gap_before r x s

pub gap_after : {G X : Type 0} (r : Row G X) (x : X) (s : Row G X) → gap_at (suc (count r)) (graft r x s) ≡ first_gap s
gap_after (end g) x s = refl
gap_after (more g y r) x s = gap_after r x s

pub omit-graft : {G X : Type 0} (r : Row G X) (x : X) (s : Row G X) (h : G) → omit (count r) (graft r x s) h ≡ meet r h s
omit-graft (end g) x s h = set_first_twice h h s
omit-graft (more g y r) x s h = ap (more g y) (omit-graft r x s h)

pub replace-graft : {G X : Type 0} (r : Row G X) (x y : X) (s : Row G X) → replace (count r) (graft r x s) y ≡ graft r y s
replace-graft (end g) x y s = ap (more g y) (set_first_same s)
replace-graft (more g z r) x y s = ap (more g z) (replace-graft r x y s)

-- what holds of each element by two accounts
pub both-all : {X : Type 0} (P Q R : X → Type 0) → ((x : X) → P x → Q x → R x) → (xs : List X) → AllByRecursion P xs → AllByRecursion Q xs → AllByRecursion R xs
both-all P Q R f [] p q = tt
both-all P Q R f (x ∷ xs) p q = (f x p.0 q.0, both-all P Q R f xs p.1 q.1)
