-- The test of well-formed nodes decides them, and their links are digests. Assumes nothing.
use Rattle.std.proofs.Common.{ℕ, Bool, leb, List, [], ◌∷◌, length, Some, None, Decides, Option, refl}
use Rattle.std.specs.List.{AllByRecursion}
use Rattle.std.proofs.ByRecursion.{All-weaker}
use Rattle.std.proofs.lemmas.Bool.{and_from, and_parts, eq-eqb, eqb-true, le-leb, leb-true}
use Rattle.node.specs.Format.{Entry, Node}
use Rattle.node.specs.WellFormed.{Digest, Link, EntryLinked, Linked, EntryFormed, WellFormed, all, is_digest, is_link, entry_formed, well_formed}

all_decides : {X : Type 0} (test : X → Bool) (P : X → Type 0) → ((x : X) → Decides (test x) (P x)) → (xs : List X) → Decides (all test xs) (AllByRecursion P xs)
all_decides test P each [] = ((λ _. tt), (λ _. refl))
all_decides test P each (x ∷ xs) =
    let rest = all_decides test P each xs in (
      (λ e. let parts = and_parts (test x) (all test xs) e in ((each x).0 parts.0, rest.0 parts.1)),
      (λ h. and_from (test x) (all test xs) ((each x).1 h.0) (rest.1 h.1)),
    )

digest_decides : (d : List ℕ) → Decides (is_digest d) (Digest d)
digest_decides d = (eqb-true (length d) 32, eq-eqb (length d) 32)

link_decides : (t : Option (List ℕ)) → Decides (is_link t) (Link t)
link_decides None = ((λ _. tt), (λ _. refl))
link_decides (Some d) = digest_decides d

entry_decides : (e : Entry) → Decides (entry_formed e) (EntryFormed e)
entry_decides e =
    let n = length e.key in
    let value = digest_decides e.value in
    let after = link_decides e.after in (
      (λ t.
          let one = and_parts (leb 1 n) _ t in
          let two = and_parts (leb n 64) _ one.1 in
          let three = and_parts (is_digest e.value) (is_link e.after) two.1 in
          record { some = leb-true 1 n one.0; short = leb-true n 64 two.0; value = value.0 three.0; after = after.0 three.1 }),
      (λ h.
          and_from (leb 1 n) _ (le-leb 1 n h.some)
          (and_from (leb n 64) _ (le-leb n 64 h.short)
          (and_from (is_digest e.value) (is_link e.after) (value.1 h.value) (after.1 h.after)))),
    )

pub node_decides : (n : Node) → Decides (well_formed n) (WellFormed n)
node_decides n =
    let few = length n.entries in
    let each = all_decides entry_formed EntryFormed entry_decides n.entries in
    let first = link_decides n.first in (
      (λ t.
          let one = and_parts (leb few 64) _ t in
          let two = and_parts (all entry_formed n.entries) (is_link n.first) one.1 in
          record { few = leb-true few 64 one.0; each = each.0 two.0; first = first.0 two.1 }),
      (λ h.
          and_from (leb few 64) _ (le-leb few 64 h.few)
          (and_from (all entry_formed n.entries) (is_link n.first) (each.1 h.each) (first.1 h.first))),
    )

-- well-formed nodes have links that are digests

entries_linked : (es : List Entry) → AllByRecursion EntryFormed es → AllByRecursion EntryLinked es
entries_linked es = All-weaker EntryFormed EntryLinked (λ e formed. record { value = formed.value; after = formed.after }) es

pub formed_linked : (n : Node) → WellFormed n → Linked n
formed_linked n formed = record { each = entries_linked n.entries formed.each; first = formed.first }
