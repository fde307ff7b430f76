-- Maps with one root are one map, or their trees have two different blocks with one digest. Assumes nothing.
use Rattle.std.proofs.Common.{◌≡◌, ℕ, zero, suc, ◌<◌, ◌≢◌, ◌⊎◌, List, [], ◌∷◌, ◌++◌, map, sym, refl, ap, ◌∙◌, subst, inl, inr, arith}
use mathlib.Core.List.{List-discrete, head-eq_of_cons-eq, tail-eq_of_cons-eq, cons≢nil}
use mathlib.Core.Logic.{⊎_map}
use native.Mathlib.Decide.{ℕ_discrete}
use Rattle.std.specs.List.{ContainsAt as Has, AllByRecursion}
use Rattle.std.proofs.ByRecursion.{all_has_itself, has_append_left, has_append_right}
use Rattle.std.proofs.lemmas.List.{map-append}
use Rattle.digest.specs.Kind.{Kind}
use Rattle.digest.specs.Layer.{layer}
use Rattle.node.specs.Format.{Entry, Node}
use Rattle.node.specs.WellFormed.{Link, EntryLinked, Linked}
use Rattle.node.proofs.Prefixes.{encode_one}
use Rattle.tree.specs.Laws.{Parted, Collision, EqualRoots}
use Rattle.tree.specs.Map.{Item, Map}
use Rattle.tree.specs.Row.{Row, end, more, flat, map_row, first_gap}
use Rattle.tree.specs.Tree.{at, cut, Leaf, leaf, Links, entries_of, node_of, bytes_of, digest, below, row, top, root, Placed, over_gaps, node_and, nodes_below, nodes, blocks}
use Rattle.tree.proofs.Layers.{Under, cut_under, under_top, top_some, keyless_under}
use Rattle.tree.proofs.Rows.{flat-cut}

-- a node tells its row

rows_same : (r s : Links) → first_gap r ≡ first_gap s → entries_of r ≡ entries_of s → r ≡ s
rows_same (end l) (end k) f e = ap end f
rows_same (end l) (more k t s) f e = absurd (cons≢nil (sym e))
rows_same (more l t r) (end k) f e = absurd (cons≢nil e)
rows_same (more l t r) (more k u s) f e =
    let h = head-eq_of_cons-eq e in
    let rest = rows_same r s (ap (λ (x : Entry). x.after) h) (tail-eq_of_cons-eq e) in
    let key = ap (λ (x : Entry). x.key) h in
    let value = ap (λ (x : Entry). x.value) h in
    let same : t ≡ u = λ i. record { key = key i; value = value i } in
    cc

node_row : (r s : Links) → node_of r ≡ node_of s → r ≡ s
node_row r s e = rows_same r s (ap (λ (n : Node). n.first) e) (ap (λ (n : Node). n.entries) e)

-- its links are digests

below_linked : (κ : Kind) (n : ℕ) (m : Map) → Link (below κ n m)
below_linked κ zero m = tt
below_linked κ (suc n) [] = tt
below_linked κ (suc n) (x ∷ m) = κ.hash_length _

first_linked : (κ : Kind) (n : ℕ) (c : Row Map Item) → Link (first_gap (map_row (below κ n) (leaf κ) c))
first_linked κ n (end g) = below_linked κ n g
first_linked κ n (more g x c) = below_linked κ n g

entries_linked : (κ : Kind) (n : ℕ) (c : Row Map Item) → AllByRecursion EntryLinked (entries_of (map_row (below κ n) (leaf κ) c))
entries_linked κ n (end g) = tt
entries_linked κ n (more g x c) = (record { value = κ.hash_length x.value; after = first_linked κ n c }, entries_linked κ n c)

row_linked : (κ : Kind) (n : ℕ) (m : Map) → Linked (node_of (row κ n m))
row_linked κ n m = record { each = entries_linked κ n (cut κ n m); first = first_linked κ n (cut κ n m) }

-- two different byte strings with one digest, of which A and B hold
record Clash (κ : Kind) (A B : List ℕ → Type 0) : Type 0 where
  one : List ℕ
  other : List ℕ
  one_in : A one
  other_in : B other
  differ : one ≢ other
  same_digest : κ.hash one ≡ κ.hash other

widen : {κ : Kind} {A B C D : List ℕ → Type 0} → ((b : List ℕ) → A b → C b) → ((b : List ℕ) → B b → D b) → Clash κ A B → Clash κ C D
widen f g k = record { one = k.one; other = k.other; one_in = f k.one k.one_in; other_in = g k.other k.other_in; differ = k.differ; same_digest = k.same_digest }

digest_same : (κ : Kind) (x y : List ℕ) → κ.hash x ≡ κ.hash y → (x ≡ y) ⊎ Clash κ (λ b. b ≡ x) (λ b. b ≡ y)
digest_same κ x y e = go (List-discrete ℕ_discrete x y)
  where
    go : Dec (x ≡ y) → (x ≡ y) ⊎ Clash κ (λ b. b ≡ x) (λ b. b ≡ y)
    go (yes p) = inl p
    go (no q) = inr (record { one = x; other = y; one_in = refl; other_in = refl; differ = q; same_digest = e })

-- the blocks of nodes and of items
abbrev In : Kind → List Placed → Map → List ℕ → Type 0
In κ ts m b = Has (map (λ t. bytes_of κ t.node) ts) b ⊎ Has (map (λ x. x.value) m) b

module _ {X : Type 0} (f : X → List ℕ) where
  map_left : (xs ys : List X) (b : List ℕ) → Has (map f xs) b → Has (map f (xs ++ ys)) b
  map_left xs ys b h = rw (map-append f xs ys) (has_append_left (map f xs) (map f ys) b h)

  map_right : (xs ys : List X) (b : List ℕ) → Has (map f ys) b → Has (map f (xs ++ ys)) b
  map_right xs ys b h = rw (map-append f xs ys) (has_append_right (map f xs) (map f ys) b h)

  map_first : (x : X) (xs : List X) (b : List ℕ) → b ≡ f x → Has (map f (x ∷ xs)) b
  map_first x xs b e = subst (λ (c : List ℕ). Has (map f (x ∷ xs)) c) (sym e) (all_has_itself (map f (x ∷ xs))).0

  map_rest : (x : X) (xs : List X) (b : List ℕ) → Has (map f xs) b → Has (map f (x ∷ xs)) b
  map_rest x xs b h = has_append_right (f x ∷ []) (map f xs) b h

in_left : (κ : Kind) (ts us : List Placed) (m n : Map) (b : List ℕ) → In κ ts m b → In κ (ts ++ us) (m ++ n) b
in_left κ ts us m n b (inl h) = inl (map_left (λ (t : Placed). bytes_of κ t.node) ts us b h)
in_left κ ts us m n b (inr h) = inr (map_left (λ (x : Item). x.value) m n b h)

in_right : (κ : Kind) (ts us : List Placed) (m n : Map) (b : List ℕ) → In κ us n b → In κ (ts ++ us) (m ++ n) b
in_right κ ts us m n b (inl h) = inl (map_right (λ (t : Placed). bytes_of κ t.node) ts us b h)
in_right κ ts us m n b (inr h) = inr (map_right (λ (x : Item). x.value) m n b h)

in_item : (κ : Kind) (ts : List Placed) (x : Item) (m : Map) (b : List ℕ) → In κ ts m b → In κ ts (x ∷ m) b
in_item κ ts x m b (inl h) = inl h
in_item κ ts x m b (inr h) = inr (map_rest (λ (x : Item). x.value) x m b h)

in_node : (κ : Kind) (t : Placed) (ts : List Placed) (m : Map) (b : List ℕ) → In κ ts m b → In κ (t ∷ ts) m b
in_node κ t ts m b (inl h) = inl (map_rest (λ (t : Placed). bytes_of κ t.node) t ts b h)
in_node κ t ts m b (inr h) = inr h

-- the blocks below a link, those below a row, and those from a node on
abbrev Below : Kind → ℕ → Map → List ℕ → Type 0
Below κ n m = In κ (nodes_below κ n m) m

abbrev Within : Kind → ℕ → Row Map Item → List ℕ → Type 0
Within κ n c = In κ (over_gaps (nodes_below κ n) c) (flat c)

abbrev From : Kind → ℕ → Map → List ℕ → Type 0
From κ n m = In κ (node_and κ (nodes_below κ n) n m) m

-- equal links lead to equal maps, or to a collision
abbrev LinksTell : Kind → ℕ → Type 0
LinksTell κ n = (g h : Map) → Under κ n g → Under κ n h → below κ n g ≡ below κ n h → (g ≡ h) ⊎ Clash κ (Below κ n g) (Below κ n h)

abbrev Layered : Kind → ℕ → Row Map Item → Type 0
Layered κ n c = Parted (λ x. layer κ x.key < n) (λ x. layer κ x.key ≡ n) c

row-tells : (κ : Kind) (n : ℕ) → LinksTell κ n → (c d : Row Map Item) → Layered κ n c → Layered κ n d
    → map_row (below κ n) (leaf κ) c ≡ map_row (below κ n) (leaf κ) d → (c ≡ d) ⊎ Clash κ (Within κ n c) (Within κ n d)
row-tells κ n tell (end g) (end h) u v e = ⊎_map (λ p. ap end p) (λ k. k) (tell g h u v (cc))
row-tells κ n tell (end g) (more h y d) u v e = absurd (let z : ◌≡◌ {A = ℕ} 0 1 = cc in omega arith)
row-tells κ n tell (more g x c) (end h) u v e = absurd (let z : ◌≡◌ {A = ℕ} 0 1 = cc in omega arith)
row-tells κ n tell (more g x c) (more h y d) u v e =
    let s : leaf κ x ≡ leaf κ y = cc in
    go (tell g h u.0 v.0 (cc)) (digest_same κ x.value y.value (ap (λ (t : Leaf). t.value) s)) (row-tells κ n tell c d u.2 v.2 (cc)) (ap (λ (t : Leaf). t.key) s)
  where
    gap_in : (g : Map) (x : Item) (c : Row Map Item) (b : List ℕ) → Below κ n g b → Within κ n (more g x c) b
    gap_in g x c b h = in_left κ (nodes_below κ n g) (over_gaps (nodes_below κ n) c) g (x ∷ flat c) b h

    value_in : (g : Map) (x : Item) (c : Row Map Item) (b : List ℕ) → b ≡ x.value → Within κ n (more g x c) b
    value_in g x c b e =
        in_right κ (nodes_below κ n g) (over_gaps (nodes_below κ n) c) g (x ∷ flat c) b (inr (map_first (λ (x : Item). x.value) x (flat c) b e))

    rest_in : (g : Map) (x : Item) (c : Row Map Item) (b : List ℕ) → Within κ n c b → Within κ n (more g x c) b
    rest_in g x c b h =
        in_right κ (nodes_below κ n g) (over_gaps (nodes_below κ n) c) g (x ∷ flat c) b (in_item κ (over_gaps (nodes_below κ n) c) x (flat c) b h)

    go : (g ≡ h) ⊎ Clash κ (Below κ n g) (Below κ n h) → (x.value ≡ y.value) ⊎ Clash κ (λ b. b ≡ x.value) (λ b. b ≡ y.value)
        → (c ≡ d) ⊎ Clash κ (Within κ n c) (Within κ n d) → x.key ≡ y.key → (more g x c ≡ more h y d) ⊎ Clash κ (Within κ n (more g x c)) (Within κ n (more h y d))
    go (inr k) q r w = inr (widen (gap_in g x c) (gap_in h y d) k)
    go (inl p) (inr k) r w = inr (widen (value_in g x c) (value_in h y d) k)
    go (inl p) (inl q) (inr k) w = inr (widen (rest_in g x c) (rest_in h y d) k)
    go (inl p) (inl q) (inl r) w = let same : x ≡ y = λ i. record { key = w i; value = q i } in inl (cc)

-- two nodes with one digest
module _ (κ : Kind) (n k : ℕ) (g h : Map) where
  node_in : (i : ℕ) (m : Map) (b : List ℕ) → b ≡ bytes_of κ (node_of (row κ i m)) → From κ i m b
  node_in i m b e = inl (map_first (λ (t : Placed). bytes_of κ t.node) (record { layer = i; node = node_of (row κ i m) }) (over_gaps (nodes_below κ i) (cut κ i m)) b e)

  rows_or_clash : digest κ (row κ n g) ≡ digest κ (row κ k h) → (row κ n g ≡ row κ k h) ⊎ Clash κ (From κ n g) (From κ k h)
  rows_or_clash e =
      ⊎_map (λ p. node_row (row κ n g) (row κ k h) (encode_one κ.code (node_of (row κ n g)) (node_of (row κ k h)) (row_linked κ n g) (row_linked κ k h) p))
      (widen (node_in n g) (node_in k h)) (digest_same κ (bytes_of κ (node_of (row κ n g))) (bytes_of κ (node_of (row κ k h))) e)

node_tells : (κ : Kind) (n : ℕ) → LinksTell κ n → (g h : Map) → Under κ (suc n) g → Under κ (suc n) h → digest κ (row κ n g) ≡ digest κ (row κ n h) → (g ≡ h) ⊎ Clash κ (From κ n g) (From κ n h)
node_tells κ n tell g h u v e = go (rows_or_clash κ n n g h e)
  where
    within : (m : Map) (b : List ℕ) → Within κ n (cut κ n m) b → From κ n m b
    within m b i =
        in_node κ (record { layer = n; node = node_of (row κ n m) }) (over_gaps (nodes_below κ n) (cut κ n m)) m b
        (subst (λ (w : Map). In κ (over_gaps (nodes_below κ n) (cut κ n m)) w b) (flat-cut (at κ n) m) i)

    maps : (cut κ n g ≡ cut κ n h) ⊎ Clash κ (Within κ n (cut κ n g)) (Within κ n (cut κ n h)) → (g ≡ h) ⊎ Clash κ (From κ n g) (From κ n h)
    maps (inl p) = inl (cc (flat-cut (at κ n) g, flat-cut (at κ n) h))
    maps (inr k) = inr (widen (within g) (within h) k)

    go : (row κ n g ≡ row κ n h) ⊎ Clash κ (From κ n g) (From κ n h) → (g ≡ h) ⊎ Clash κ (From κ n g) (From κ n h)
    go (inl p) = maps (row-tells κ n tell (cut κ n g) (cut κ n h) (cut_under κ n g u) (cut_under κ n h v) p)
    go (inr k) = inr k

links_tell : (κ : Kind) (n : ℕ) → LinksTell κ n
links_tell κ zero [] [] u v e = inl refl
links_tell κ zero [] (y ∷ h) u v e = absurd (omega (arith, v.0))
links_tell κ zero (x ∷ g) h u v e = absurd (omega (arith, u.0))
links_tell κ (suc n) [] [] u v e = inl refl
links_tell κ (suc n) [] (y ∷ h) u v e = absurd (let z : ◌≡◌ {A = ℕ} 0 1 = cc in omega arith)
links_tell κ (suc n) (x ∷ g) [] u v e = absurd (let z : ◌≡◌ {A = ℕ} 0 1 = cc in omega arith)
links_tell κ (suc n) (x ∷ g) (y ∷ h) u v e = node_tells κ n (λ a b. links_tell κ n a b) (x ∷ g) (y ∷ h) u v (cc)

-- two roots: their nodes are at one layer, since they have a key in common, or else both maps are empty

record Keyless (c d : Row Map Item) : Type 0 where
  left : Map
  right : Map
  left_is : c ≡ end left
  right_is : d ≡ end right

one_layer : (κ : Kind) (n k : ℕ) (c d : Row Map Item) → Layered κ n c → Layered κ k d → map_row (below κ n) (leaf κ) c ≡ map_row (below κ k) (leaf κ) d → (n ≡ k) ⊎ Keyless c d
one_layer κ n k (end g) (end h) u v e = inr (record { left = g; right = h; left_is = refl; right_is = refl })
one_layer κ n k (end g) (more h y d) u v e = absurd (let z : ◌≡◌ {A = ℕ} 0 1 = cc in omega arith)
one_layer κ n k (more g x c) (end h) u v e = absurd (let z : ◌≡◌ {A = ℕ} 0 1 = cc in omega arith)
one_layer κ n k (more g x c) (more h y d) u v e =
    let s : leaf κ x ≡ leaf κ y = cc in
    let keys : x.key ≡ y.key = ap (λ (t : Leaf). t.key) s in
    inl (sym u.1 ∙ (ap (layer κ) keys ∙ v.1))

keyless_empty : (κ : Kind) (m g : Map) → cut κ (top κ m) m ≡ end g → m ≡ []
keyless_empty κ [] g e = refl
keyless_empty κ (x ∷ m) g e =
    let n = top κ (x ∷ m) in
    let u = keyless_under κ n (x ∷ m) g (under_top κ (x ∷ m)) e in
    absurd (omega (arith, top_some κ n x m u))

at_one_layer : (κ : Kind) (n k : ℕ) (g h : Map) → n ≡ k → Under κ (suc n) g → Under κ (suc k) h → digest κ (row κ n g) ≡ digest κ (row κ k h) → (g ≡ h) ⊎ Clash κ (From κ n g) (From κ k h)
at_one_layer κ n k g h p =
    subst (λ k. Under κ (suc n) g → Under κ (suc k) h → digest κ (row κ n g) ≡ digest κ (row κ k h) → (g ≡ h) ⊎ Clash κ (From κ n g) (From κ k h)) p
    (λ u v e. node_tells κ n (links_tell κ n) g h u v e)

roots_tell : (κ : Kind) (g h : Map) → digest κ (row κ (top κ g) g) ≡ digest κ (row κ (top κ h) h) → (g ≡ h) ⊎ Clash κ (From κ (top κ g) g) (From κ (top κ h) h)
roots_tell κ g h e = go (rows_or_clash κ (top κ g) (top κ h) g h e)
  where
    layers : (top κ g ≡ top κ h) ⊎ Keyless (cut κ (top κ g) g) (cut κ (top κ h) h) → (g ≡ h) ⊎ Clash κ (From κ (top κ g) g) (From κ (top κ h) h)
    layers (inl p) = at_one_layer κ (top κ g) (top κ h) g h p (under_top κ g) (under_top κ h) e
    layers (inr w) = inl (keyless_empty κ g w.left w.left_is ∙ sym (keyless_empty κ h w.right w.right_is))

    go : (row κ (top κ g) g ≡ row κ (top κ h) h) ⊎ Clash κ (From κ (top κ g) g) (From κ (top κ h) h) → (g ≡ h) ⊎ Clash κ (From κ (top κ g) g) (From κ (top κ h) h)
    go (inl p) = layers (one_layer κ (top κ g) (top κ h) (cut κ (top κ g) g) (cut κ (top κ h) h) (cut_under κ (top κ g) g (under_top κ g)) (cut_under κ (top κ h) h (under_top κ h)) p)
    go (inr k) = inr k

in_blocks : (κ : Kind) (m : Map) (b : List ℕ) → From κ (top κ m) m b → Has (blocks κ m) b
unfolding nodes blocks
in_blocks κ m b (inl h) = has_append_left (map (λ t. bytes_of κ t.node) (node_and κ (nodes_below κ (top κ m)) (top κ m) m)) (map (λ x. x.value) m) b h
in_blocks κ m b (inr h) = has_append_right (map (λ t. bytes_of κ t.node) (node_and κ (nodes_below κ (top κ m)) (top κ m) m)) (map (λ x. x.value) m) b h

collides : (κ : Kind) (these those : List (List ℕ)) → Clash κ (Has these) (Has those) → Collision κ these those
collides κ these those k = record { one = k.one; other = k.other; one_in = k.one_in; other_in = k.other_in; differ = k.differ; same_digest = k.same_digest }

pub equal_roots : (κ : Kind) → EqualRoots κ
unfolding root
equal_roots κ m n e = ⊎_map (λ p. p) (λ k. collides κ (blocks κ m) (blocks κ n) (widen (in_blocks κ m) (in_blocks κ n) k)) (roots_tell κ m n e)
