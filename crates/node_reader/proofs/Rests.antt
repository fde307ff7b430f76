-- One entry of what is left of a node: what was read is what stands there. Assumes nothing.
use Rattle.std.proofs.Common.{◌≡◌, ℕ, ◌+◌, List, [], ◌∷◌, ◌++◌, length, take, drop, Some, Option, sym, refl, ap, ◌∙◌, subst, append_assoc, arith}
use Rattle.std.proofs.lemmas.List.{drop_at, length-append, length-drop, length-take-le}
use Rattle.keys.specs.Key.{key_bytes}
use Rattle.keys.specs.Shared.{shared}
use Rattle.keys.specs.declared.key.Key.{Key}
use Rattle.keys.proofs.Fronts.{shared_left, shared_rebuilds, shared_right}
use Rattle.node.specs.Format as format
use Rattle.node.specs.Format.{Node, closing, entries, entry, entry_parts}
use Rattle.node.specs.Values.{entry_of, key_before}
use Rattle.node.specs.WellFormed.{EntryFormed, Link}
use Rattle.node.specs.declared.entry.Entry.{Entry}
use Rattle.node.proofs.Prefixes.{entry_parts_one}
use Rattle.node_reader.specs.Entries.{NoEntry}
use Rattle.node_reader.specs.Nodes.{Ends, Extends, Rest, Steps, with_entry}
use Rattle.node_reader.specs.Stands.{Stands}
use Rattle.node_reader.specs.declared.cursor.Cursor.{Cursor}

-- the first entry by its parts, and what follows it
first_entry : (c : ℕ) (s : List ℕ) (cursor : Cursor) (e : format.Entry) (n : Node) → Rest c s cursor (with_entry e n)
    → (let p = shared (key_before cursor.last) e.key in
    drop cursor.at s ≡ entry_parts c (drop p e.key) p e.after e.value ++ (entries c e.key n.entries ++ closing c n.first))
first_entry c s cursor e n rest = rest.is ∙ append_assoc (entry c (key_before cursor.last) e) (entries c e.key n.entries) (closing c n.first)

pub no_entry : (c : ℕ) (s : List ℕ) (cursor : Cursor) → NoEntry s cursor.at c → Ends c s cursor
no_entry c s cursor none e n rest =
    let p = shared (key_before cursor.last) e.key in
    let formed = rest.each.0 in
    let size = length-drop p e.key in
    let within = shared_right (key_before cursor.last) e.key in
    none (drop p e.key) p e.after e.value (omega (arith, formed.short)) (omega (arith, formed.short)) formed.after formed.value _ (first_entry c s cursor e n rest)

-- a key extends the one before it
extends_key : (before : List ℕ) (e : format.Entry) → EntryFormed e → Extends before (shared before e.key) (drop (shared before e.key) e.key)
extends_key before e formed =
    let p = shared before e.key in
    let size = length-drop p e.key in
    let within = shared_right before e.key in
    record {
      joins = record {
        within = shared_left before e.key;
        sized = record { some = omega (arith, formed.some); short = omega (arith, formed.short) };
      };
      longest = ap (shared before) (shared_rebuilds before e.key);
    }

-- what was read of an entry, against the entry that stands there
module _ (c : ℕ) (s : List ℕ) (cursor : Cursor) (r : List ℕ) (p : ℕ) (u : Option (List ℕ)) (v : List ℕ) (end : ℕ)
    (lu : Link u) (lv : length v ≡ 32) (h : Stands s cursor.at (entry_parts c r p u v) end) where
  record Found (e : format.Entry) (n : Node) : Type 0 where
    extends : Extends (key_before cursor.last) p r
    is : e ≡ record { key = take p (key_before cursor.last) ++ r; value = v; after = u }
    rest : drop end s ≡ entries c e.key n.entries ++ closing c n.first

  found : (e : format.Entry) (n : Node) → Rest c s cursor (with_entry e n) → Found e n
  found e n rest =
      let old = key_before cursor.last in
      let q = shared old e.key in
      let formed = rest.each.0 in
      let same = entry_parts_one c r (drop q e.key) p q u e.after v e.value (drop end s) _ lu formed.after lv formed.value (sym h.is ∙ first_entry c s cursor e n rest) in
      let key : e.key ≡ take p old ++ r = sym (shared_rebuilds old e.key) ∙ rw (same.shares, same.rest) in
      record {
        extends = rw (same.shares, same.rest) (extends_key old e formed);
        is = λ i. record { key = key i; value = sym same.value i; after = sym same.after i };
        rest = same.end;
      }

  pub not_extended : (Extends (key_before cursor.last) p r → ⊥) → Ends c s cursor
  not_extended refused e n rest = refused (found e n rest).extends

  -- the entry by value, and the cursor behind it
  module _ (left : ℕ) (fewer : left + 1 ≡ cursor.left) (x : Entry) (key : Key) (extends : Extends (key_before cursor.last) p r)
      (made : key_bytes key ≡ take p (key_before cursor.last) ++ r) (is : entry_of x ≡ record { key = key_bytes key; value = v; after = u }) where
    abbrev next : Cursor
    next = record { at = end; left = left; last = Some key }

    step_down : (n : Node) → Rest c s cursor n → (m : Node) × (n ≡ with_entry (entry_of x) m) × Rest c s next m
    step_down n rest = go n.entries refl
      where
        go : (es : List format.Entry) → n.entries ≡ es → (m : Node) × (n ≡ with_entry (entry_of x) m) × Rest c s next m
        go [] none = absurd (omega (arith, rest.count, ap length none))
        go (e ∷ es) begins =
            let m : Node = record { first = n.first; entries = es } in
            let whole : n ≡ with_entry e m = λ i. record { first = n.first; entries = begins i } in
            let here = subst (Rest c s cursor) whole rest in
            let f = found e m here in
            let same : e ≡ entry_of x = f.is ∙ (λ i. record { key = sym made i; value = v; after = u }) ∙ sym is in
            let its-key : e.key ≡ key_bytes key = ap (λ (z : format.Entry). z.key) f.is ∙ sym made in (
              m,
              whole ∙ ap (λ z. with_entry z m) same,
              record {
                count = omega (arith, here.count);
                each = here.each.1;
                first = rest.first;
                is = f.rest ∙ ap (λ k. entries c k es ++ closing c m.first) its-key;
              },
            )

    -- the entry that was read is the entry's encoding
    encoded : entry_parts c r p u v ≡ entry c (key_before cursor.last) (entry_of x)
    encoded =
        let old = key_before cursor.last in
        let size = length-take-le p old extends.joins.within in
        let rest-is : drop p (take p old ++ r) ≡ r = drop_at (take p old) r p size in
        sym (ap (entry c old) (is ∙ (λ i. record { key = made i; value = v; after = u })) ∙ rw (extends.longest, rest-is))

    formed : EntryFormed (entry_of x)
    formed =
        let old = key_before cursor.last in
        let size = length-append (take p old) r in
        let front = length-take-le p old extends.joins.within in
        let long : length (key_bytes key) ≡ p + length r = ap length made ∙ omega arith in
        subst EntryFormed (sym is) record {
          some = omega (arith, extends.joins.sized.some);
          short = omega (arith, extends.joins.sized.short);
          value = lv;
          after = lu;
        }

    step_up : (m : Node) → Rest c s next m → Rest c s cursor (with_entry (entry_of x) m)
    step_up m rest =
        let old = key_before cursor.last in
        let its-key : key_bytes key ≡ (entry_of x).key = sym (ap (λ (z : format.Entry). z.key) is) in
        record {
          count = omega (arith, rest.count);
          each = (formed, rest.each);
          first = rest.first;
          is =
              h.is ∙ ap (λ z. entry_parts c r p u v ++ z) (rest.is ∙ ap (λ k. entries c k m.entries ++ closing c m.first) its-key)
              ∙ ap (λ z. z ++ (entries c (entry_of x).key m.entries ++ closing c m.first)) encoded
              ∙ sym (append_assoc (entry c old (entry_of x)) (entries c (entry_of x).key m.entries) (closing c m.first));
        }

    pub steps : Steps c s cursor x (record { at = end; left = left; last = Some key })
    steps = record { some = omega arith; fewer = fewer; down = step_down; up = step_up }
