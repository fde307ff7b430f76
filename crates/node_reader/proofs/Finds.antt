-- Looking for a key among the entries. Assumes nothing.
use Rattle.std.proofs.Common.{◌≡◌, ℕ, ◌+◌, suc, Bool, true, false, not, cond, nat_lt, List, [], ◌∷◌, length, Some, None, Option, sym, refl, ap, ◌∙◌, subst, arith}
use Rattle.std.proofs.lemmas.Iterator.{YieldsList}
use Rattle.std.specs.Iterator.{AlwaysYields}
use Rattle.std.proofs.lemmas.Bool.Decides.{nat_tests}
use Rattle.std.specs.List.{position, position_or_len}
use Rattle.std.specs.Str.{bytes_eq}
use Rattle.node.specs.Format as format
use Rattle.node.specs.Format.{Node}
use Rattle.node.specs.Values.{entry_of}
use Rattle.node.specs.declared.entry.Entry.{Entry}
use Rattle.node_reader.specs.Find.{moved, place}
use Rattle.node_reader.specs.Nodes.{Rest}
use Rattle.node_reader.specs.Reader.{Left, Takes}
use Rattle.node_reader.specs.declared.entries.Entries.{Entries}
use Rattle.node_reader.specs.declared.input.Input.{Input}

-- what was taken is the first entry of what is left
taken_first : (es next : Entries) (e : Entry) (first : Option (List ℕ)) (x : format.Entry) (left : List format.Entry)
    → Takes es (Some e) next → Left es (record { first = first; entries = x ∷ left }) → (entry_of e ≡ x) × Left next (record { first = first; entries = left })
taken_first es next e first x left takes here =
    let on = takes.0.down (record { first = first; entries = x ∷ left }) here in
    let m = on.0 in
    let lists : x ∷ left ≡ entry_of e ∷ m.entries = ap (λ (n : Node). n.entries) on.1 in
    let firsts : first ≡ m.first = ap (λ (n : Node). n.first) on.1 in
    let tails : m.entries ≡ left = cc in
    let whole : m ≡ record { first = first; entries = left } = λ i. record { first = sym firsts i; entries = tails i } in
    let P : Input → Type 0 = λ input. Rest input.code input.block.now next.cursor (record { first = first; entries = left }) in
    (cc, subst P (sym takes.1) (subst (Rest es.input.code es.input.block.now next.cursor) whole on.2))

-- from a cursor on, the entries of what is left of the node come
always_yields : (es : Entries) (first : Option (List ℕ)) (left : List format.Entry) → Left es (record { first = first; entries = left }) → AlwaysYields Takes entry_of es left
always_yields es first [] here = λ e next takes. omega (arith, here.count, takes.0.some)
always_yields es first (x ∷ left) here = (
  (λ next takes. takes.0 x (record { first = first; entries = left }) here),
  λ e next takes. let on = taken_first es next e first x left takes here in (on.0, always_yields next first left on.1),
)

pub yields_entries : (es : Entries) (n : Node) → Left es n → YieldsList Takes entry_of es n.entries
yields_entries es n here = record { runs = always_yields es n.first n.entries here }

-- the library's place of the first that passes a test
place_more : (t : Bool) (k l : ℕ)
    → cond (nat_lt (cond (not t) (1 + k) 0) (suc l)) (Some (cond (not t) (1 + k) 0)) None ≡ cond t (Some 0) (moved 1 (cond (nat_lt k l) (Some k) None))
place_more true k l = grind (arith, nat_tests)
place_more false k l = grind (arith, nat_tests)

pub position-place : (key : List ℕ) (es : List format.Entry) → position (λ e. bytes_eq e.key key) es ≡ place key es
position-place key [] = refl
position-place key (e ∷ es) =
    place_more (bytes_eq e.key key) (position_or_len (λ x. bytes_eq x.key key) es) (length es)
    ∙ ap (λ rest. cond (bytes_eq e.key key) (Some 0) (moved 1 rest)) (position-place key es)
