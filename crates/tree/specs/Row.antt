-- Rows: a gap, an item, a gap, and so on to a last gap. A map that is cut at its keys of one layer is a row of maps and items; a node is a
-- row of links and leaves.
--
--   Row                   gaps, and the items that part them
--   prepend               a row with one more element in front
--   cut_by                a list as a row, whose items are the elements that pass a test
--   flat                  such a row as a list again
--   map_row               a row with other gaps and items in the same places
--   count                 how many items there are
--   first_gap, last_gap   the gaps at the ends
--   gap_at                the gap behind a number of items
--   set_first             a row with another first gap
--   meet                  two rows around a gap
--   graft                 two rows around an item
--   front, back           the items before a place, and those from it on
--   relink                another gap at a place
--   omit                  an item less, and a gap in the place of the two beside it
--   replace               another item at a place
--
-- Places past the end stand for the last gap. Assumes nothing.
use Rattle.std.specs.Prelude.{ℕ, zero, suc, Bool, true, false, List, [], ◌∷◌, ◌++◌}

pub data Row (G X : Type 0) : Type 0 where
  end : G → Row G X
  more : G → X → Row G X → Row G X

-- as an item it parts two gaps, else it joins the first gap
abbrev pub prepend : {X : Type 0} → Bool → X → Row (List X) X → Row (List X) X
prepend true x r = more [] x r
prepend false x (end g) = end (x ∷ g)
prepend false x (more g y r) = more (x ∷ g) y r

abbrev pub cut_by : {X : Type 0} → (X → Bool) → List X → Row (List X) X
cut_by test [] = end []
cut_by test (x ∷ xs) = prepend (test x) x (cut_by test xs)

abbrev pub flat : {X : Type 0} → Row (List X) X → List X
flat (end g) = g
flat (more g x r) = g ++ (x ∷ flat r)

abbrev pub map_row : {G H X Y : Type 0} → (G → H) → (X → Y) → Row G X → Row H Y
map_row f s (end g) = end (f g)
map_row f s (more g x r) = more (f g) (s x) (map_row f s r)

abbrev pub count : {G X : Type 0} → Row G X → ℕ
count (end g) = zero
count (more g x r) = suc (count r)

abbrev pub first_gap : {G X : Type 0} → Row G X → G
first_gap (end g) = g
first_gap (more g x r) = g

abbrev pub last_gap : {G X : Type 0} → Row G X → G
last_gap (end g) = g
last_gap (more g x r) = last_gap r

abbrev pub gap_at : {G X : Type 0} → ℕ → Row G X → G
gap_at zero r = first_gap r
gap_at (suc i) (end g) = g
gap_at (suc i) (more g x r) = gap_at i r

abbrev pub set_first : {G X : Type 0} → G → Row G X → Row G X
set_first h (end g) = end h
set_first h (more g x r) = more h x r

-- r without its last gap, the gap h, and s without its first gap
abbrev pub meet : {G X : Type 0} → Row G X → G → Row G X → Row G X
meet (end g) h s = set_first h s
meet (more g x r) h s = more g x (meet r h s)

abbrev pub graft : {G X : Type 0} → Row G X → X → Row G X → Row G X
graft (end g) x s = more g x s
graft (more g y r) x s = more g y (graft r x s)

-- the first i items, and h as the last gap
abbrev pub front : {G X : Type 0} → ℕ → Row G X → G → Row G X
front zero r h = end h
front (suc i) (end g) h = end h
front (suc i) (more g x r) h = more g x (front i r h)

-- the items after the first i, and h as the first gap
abbrev pub back : {G X : Type 0} → ℕ → Row G X → G → Row G X
back zero r h = set_first h r
back (suc i) (end g) h = end h
back (suc i) (more g x r) h = back i r h

-- meet puts h where front and back end, so that what they are given there does not matter
abbrev pub relink : {G X : Type 0} → ℕ → Row G X → G → Row G X
relink i r h = meet (front i r h) h (back i r h)

abbrev pub omit : {G X : Type 0} → ℕ → Row G X → G → Row G X
omit i r h = meet (front i r h) h (back (suc i) r h)

abbrev pub replace : {G X : Type 0} → ℕ → Row G X → X → Row G X
replace i r x = graft (front i r (gap_at i r)) x (back (suc i) r (gap_at (suc i) r))
