-- The nodes of a map that is not crowded are well formed, and its blocks fit a store; so do those of a collision. Assumes nothing.
use Rattle.std.proofs.Common.{ℕ, zero, suc, ◌≤◌, List, [], ◌∷◌, map, length, arith}
use mathlib.Core.Logic.{⊎_map}
use Rattle.std.specs.List.{AllByRecursion}
use Rattle.std.proofs.ByRecursion.{All-append, all-has, All-map, All-weaker}
use Rattle.digest.specs.Kind.{Kind}
use Rattle.node.specs.Format.{Node}
use Rattle.node.specs.WellFormed.{Link, EntryFormed, WellFormed, LinkBytes, EntryBytes, NodeBytes}
use Rattle.node.proofs.OfBytes.{encode_bytes}
use Rattle.node.proofs.Sizes.{encode_fits}
use Rattle.tree.specs.Laws.{Parted, IsBlock, Kept, BlockLaw, EqualKeptRoots}
use Rattle.tree.specs.Map.{IsKey, IsRecord, Item, Map}
use Rattle.tree.specs.Row.{Row, end, more, map_row, first_gap}
use Rattle.tree.specs.Tree.{at, cut, leaf, entries_of, node_of, bytes_of, below, row, top, Placed, over_gaps, nodes_below, nodes, blocks, crowded}
use Rattle.tree.proofs.Collisions.{equal_roots}
use Rattle.tree.proofs.Rows.{cut_parted, both-all}
use Rattle.tree.proofs.Widths.{all_narrow, narrow_few}

-- all of a well-formed node but the number of its entries
record Sound (n : Node) : Type 0 where
  each : AllByRecursion EntryFormed n.entries
  first : Link n.first
  bytes : NodeBytes n

abbrev Keyed : Item → Type 0
Keyed x = IsKey x.key

module _ (κ : Kind) where
  link_formed : (n : ℕ) (m : Map) → Link (below κ n m) × LinkBytes (below κ n m)
  link_formed zero m = (tt, tt)
  link_formed (suc n) [] = (tt, tt)
  link_formed (suc n) (x ∷ m) = (κ.hash_length _, κ.hash_bytes _)

  first_formed : (n : ℕ) (c : Row Map Item) → Link (first_gap (map_row (below κ n) (leaf κ) c)) × LinkBytes (first_gap (map_row (below κ n) (leaf κ) c))
  first_formed n (end g) = link_formed n g
  first_formed n (more g x c) = link_formed n g

  entries_formed : (n : ℕ) (c : Row Map Item) → Parted Keyed Keyed c → AllByRecursion EntryFormed (entries_of (map_row (below κ n) (leaf κ) c))
  entries_formed n (end g) h = tt
  entries_formed n (more g x c) h =
      (record { some = h.1.sized.some; short = h.1.sized.short; value = κ.hash_length x.value; after = (first_formed n c).0 }, entries_formed n c h.2)

  entries_of_bytes : (n : ℕ) (c : Row Map Item) → Parted Keyed Keyed c → AllByRecursion EntryBytes (entries_of (map_row (below κ n) (leaf κ) c))
  entries_of_bytes n (end g) h = tt
  entries_of_bytes n (more g x c) h = (record { key = h.1.bytes; value = κ.hash_bytes x.value; after = (first_formed n c).1 }, entries_of_bytes n c h.2)

  row_sound : (n : ℕ) (m : Map) → AllByRecursion Keyed m → Sound (node_of (row κ n m))
  row_sound n m h =
      let c = cut κ n m in
      let parts = cut_parted (at κ n) Keyed Keyed Keyed (λ x _ k. k) (λ x _ k. k) m h in
      record { each = entries_formed n c parts; first = (first_formed n c).0; bytes = record { each = entries_of_bytes n c parts; first = (first_formed n c).1 } }

  gaps_sound : (f : Map → List Placed) → ((g : Map) → AllByRecursion Keyed g → AllByRecursion (λ t. Sound t.node) (f g)) → (c : Row Map Item) → Parted Keyed Keyed c → AllByRecursion (λ t. Sound t.node) (over_gaps f c)
  gaps_sound f each (end g) h = each g h
  gaps_sound f each (more g x c) h = All-append (λ t. Sound t.node) (f g) (over_gaps f c) (each g h.0) (gaps_sound f each c h.2)

  below_sound : (n : ℕ) (m : Map) → AllByRecursion Keyed m → AllByRecursion (λ t. Sound t.node) (nodes_below κ n m)
  below_sound zero m h = tt
  below_sound (suc n) [] h = tt
  below_sound (suc n) (x ∷ m) h = (
    row_sound n (x ∷ m) h,
    gaps_sound (nodes_below κ n) (below_sound n) (cut κ n (x ∷ m)) (cut_parted (at κ n) Keyed Keyed Keyed (λ x _ k. k) (λ x _ k. k) (x ∷ m) h),
  )

  nodes_sound : (m : Map) → AllByRecursion Keyed m → AllByRecursion (λ t. Sound t.node) (nodes κ m)
  unfolding nodes
  nodes_sound m h =
      let n = top κ m in
      (row_sound n m h, gaps_sound (nodes_below κ n) (below_sound n) (cut κ n m) (cut_parted (at κ n) Keyed Keyed Keyed (λ x _ k. k) (λ x _ k. k) m h))

-- a node of the tree, as the store takes it
record Fitting (κ : Kind) (t : Placed) : Type 0 where
  formed : WellFormed t.node
  block : IsBlock (bytes_of κ t.node)

fitting : (κ : Kind) (t : Placed) → Sound t.node → length t.node.entries ≤ 64 → Fitting κ t
fitting κ t sound few =
    let formed : WellFormed t.node = record { few = few; each = sound.each; first = sound.first } in
    record {
      formed = formed;
      block = record { short = encode_fits κ.code t.node formed; bytes = encode_bytes κ.code t.node (omega (arith, κ.code_below)) formed sound.bytes };
    }

nodes_fitting : (κ : Kind) (m : Map) → Kept κ m → AllByRecursion (Fitting κ) (nodes κ m)
unfolding crowded
nodes_fitting κ m kept =
    both-all (λ t. Sound t.node) (λ t. length t.node.entries ≤ 64) (Fitting κ) (fitting κ) (nodes κ m) (nodes_sound κ m kept.is_map.keys)
    (All-weaker _ (λ t. length t.node.entries ≤ 64) narrow_few (nodes κ m) (all_narrow (nodes κ m) kept.narrow))

blocks_fit : (κ : Kind) (m : Map) → Kept κ m → AllByRecursion IsBlock (blocks κ m)
unfolding blocks
blocks_fit κ m kept =
    All-append IsBlock (map (λ t. bytes_of κ t.node) (nodes κ m)) (map (λ x. x.value) m)
    (All-map IsBlock (λ (t : Placed). bytes_of κ t.node) (nodes κ m)
    (All-weaker (Fitting κ) (λ t. IsBlock (bytes_of κ t.node)) (λ t f. f.block) (nodes κ m) (nodes_fitting κ m kept)))
    (All-map IsBlock (λ (x : Item). x.value) m
    (All-weaker (λ (x : Item). IsRecord x.value) (λ x. IsBlock x.value) (λ x r. record { short = omega (arith, r.sized); bytes = r.bytes }) m kept.is_map.records))

pub block_law : (κ : Kind) → BlockLaw κ
block_law κ = record {
  well_formed = λ m kept. All-weaker (Fitting κ) (λ t. WellFormed t.node) (λ t f. f.formed) (nodes κ m) (nodes_fitting κ m kept);
  fit = blocks_fit κ;
}

pub equal_kept_roots : (κ : Kind) → EqualKeptRoots κ
equal_kept_roots κ m n km kn e =
    ⊎_map (λ p. p)
    (λ c. (c, all-has IsBlock (blocks κ m) c.one (blocks_fit κ m km) c.one_in, all-has IsBlock (blocks κ n) c.other (blocks_fit κ n kn) c.other_in))
    (equal_roots κ m n e)
