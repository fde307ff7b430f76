-- Entry after entry, from the first to the end of the node. Assumes nothing.
use Rattle.std.proofs.Common.{◌≡◌, ℕ, ◌+◌, ◌<◌, ◌≤◌, List, [], ◌∷◌, ◌++◌, length, drop, Some, None, Option, sym, refl, ap, ◌∙◌, subst, ap₂, append_assoc, append-nil, arith}
use Rattle.std.proofs.lemmas.List.{nil_from_length}
use Rattle.node.specs.Format as format
use Rattle.node.specs.Format.{Node, closing, encode, entries, head, link_or_null}
use Rattle.node.specs.Laws.{Encodes}
use Rattle.node.specs.Values.{entry_of, key_before}
use Rattle.node.specs.WellFormed.{Link}
use Rattle.node.specs.declared.entry.Entry.{Entry}
use Rattle.node.proofs.Prefixes.{head_one}
use Rattle.node_reader.specs.Entries.{NoLinkOrNull}
use Rattle.node_reader.specs.Nodes.{Closes, Ends, Finishes, Passes, Rest, Steps, with_entry, with_entries}
use Rattle.node_reader.specs.Reader.{Left, Takes}
use Rattle.node_reader.specs.Stands.{Absent, Stands}
use Rattle.node_reader.specs.declared.entries.Entries.{Entries}
use Rattle.node_reader.specs.declared.input.Input.{Input}
use Rattle.node_reader.specs.declared.cursor.Cursor.{Cursor}
use Rattle.node_reader.proofs.Parts.{joins, past_bytes}

pub passes_none : (c : ℕ) (s : List ℕ) (start : Cursor) → Passes c s start start
passes_none c s start = record { passed = []; down = λ n rest. (n, refl, rest); up = λ m rest. rest }

pub passes_more : (c : ℕ) (s : List ℕ) (start cursor next : Cursor) (e : Entry) → Passes c s start cursor → Steps c s cursor e next → Passes c s start next
passes_more c s start cursor next e passes step =
    let done = passes.passed in
    let more : (m : Node) → with_entries done (with_entry (entry_of e) m) ≡ with_entries (done ++ (entry_of e ∷ [])) m
    = λ m. λ i. record { first = m.first; entries = sym (append_assoc done (entry_of e ∷ []) m.entries) i } in
    record {
      passed = done ++ (entry_of e ∷ []);
      down = λ n rest.
          let here = passes.down n rest in
          let on = step.down here.0 here.2 in
          (on.0, here.1 ∙ ap (with_entries done) on.1 ∙ more on.0, on.2);
      up = λ m rest. subst (Rest c s start) (more m) (passes.up (with_entry (entry_of e) m) (step.up m rest));
    }

-- no entry, though one is to come
pub passes_ends : (c : ℕ) (s : List ℕ) (start cursor : Cursor) → Passes c s start cursor → 0 < cursor.left → Ends c s cursor → (n : Node) → Rest c s start n → ⊥
passes_ends c s start cursor passes some ends n rest = go here.0.entries refl
  where
    here : (m : Node) × (n ≡ with_entries passes.passed m) × Rest c s cursor m
    here = passes.down n rest

    go : (es : List format.Entry) → here.0.entries ≡ es → ⊥
    go [] none = omega (arith, here.2.count, ap length none)
    go (e ∷ es) begins =
        let m : Node = record { first = here.0.first; entries = es } in
        let whole : here.0 ≡ with_entry e m = λ i. record { first = here.0.first; entries = begins i } in
        ends e m (subst (Rest c s cursor) whole here.2)

-- none is to come
pub passes_all : (c : ℕ) (s : List ℕ) (start cursor : Cursor) → Passes c s start cursor → cursor.left ≤ 0 → Closes c s start cursor.at
passes_all c s start cursor passes none = record { passed = passes.passed; down = down; up = up }
  where
    down : (n : Node) → Rest c s start n → (n.entries ≡ passes.passed) × Link n.first × (drop cursor.at s ≡ closing c n.first)
    down n rest =
        let here = passes.down n rest in
        let m = here.0 in
        let empty : m.entries ≡ [] = nil_from_length m.entries (omega (arith, here.2.count)) in
        let its_first : n.first ≡ m.first = ap (λ (z : Node). z.first) here.1 in (
          ap (λ (z : Node). z.entries) here.1 ∙ ap (λ es. passes.passed ++ es) empty ∙ append-nil passes.passed,
          rest.first,
          here.2.is ∙ ap (λ es. entries c (key_before cursor.last) es ++ closing c m.first) empty ∙ ap (closing c) (sym its_first),
        )

    up : (first : Option (List ℕ)) → Link first → drop cursor.at s ≡ closing c first → Rest c s start (record { first = first; entries = passes.passed })
    up first formed is =
        let m : Node = record { first = first; entries = [] } in
        let whole : with_entries passes.passed m ≡ record { first = first; entries = passes.passed } = λ i. record { first = first; entries = append-nil passes.passed i } in
        subst (Rest c s start) whole (passes.up m (record { count = omega arith; each = tt; first = formed; is = is }))

-- so many entries were taken, one after the other
pub record Taken (from to : Entries) (count : ℕ) : Type 0 where
  pub passes : Passes from.input.code from.input.block.now from.cursor to.cursor
  pub same : to.input ≡ from.input
  pub left : count + to.cursor.left ≡ from.cursor.left

pub taken_none : (from : Entries) → Taken from from 0
taken_none from = record { passes = passes_none _ _ from.cursor; same = refl; left = omega arith }

module _ (from to : Entries) (count : ℕ) (taken : Taken from to count) where
  here : (P : Input → Type 0) → P to.input → P from.input
  here P = subst P taken.same

  pub taken_more : (e : Entry) (next : Entries) → Takes to (Some e) next → Taken from next (count + 1)
  taken_more e next (step, same) =
      let on = here (λ input. Steps input.code input.block.now to.cursor e next.cursor) step in
      record { passes = passes_more _ _ from.cursor to.cursor next.cursor e taken.passes on; same = same ∙ taken.same; left = omega (arith, taken.left, on.fewer) }

  pub taken_ends : count < from.cursor.left → (next : Entries) → Takes to None next → (n : Node) → Left from n → ⊥
  taken_ends some next (ends, same) =
      passes_ends _ _ from.cursor to.cursor taken.passes (omega (arith, taken.left)) (here (λ input. Ends input.code input.block.now to.cursor) ends)

  pub taken_all : from.cursor.left ≤ count → Closes from.input.code from.input.block.now from.cursor to.cursor.at
  taken_all all = passes_all _ _ from.cursor to.cursor taken.passes (omega (arith, taken.left))

-- the end of a node

module _ (c : ℕ) (s : List ℕ) (at link_at : ℕ) (tag : Stands s at (0x61 ∷ (0x6C ∷ [])) link_at) where
  pub no_first : NoLinkOrNull s link_at c → (first : Option (List ℕ)) → Finishes c s at first → ⊥
  no_first none first ends = none first ends.formed [] (past_bytes tag ends.is ∙ sym (append-nil (link_or_null c first)))

-- all entries are there, and their end is not
pub closes_not : (c : ℕ) (s : List ℕ) (start : Cursor) (at : ℕ) → Closes c s start at → ((first : Option (List ℕ)) → Finishes c s at first → ⊥)
    → (n : Node) → Rest c s start n → ⊥
closes_not c s start at closes none n rest =
    let here = closes.down n rest in
    none n.first (record { formed = here.1; is = here.2 })

-- a whole node

pub no_tag : (c : ℕ) (s : List ℕ) → Absent s 0 (0xA2 ∷ (0x61 ∷ (0x65 ∷ []))) → (n : Node) → Encodes c s n → ⊥
unfolding encode
no_tag c s none n encodes = none _ encodes.is

module _ (c : ℕ) (s : List ℕ) (after_tag : ℕ) (tag : Stands s 0 (0xA2 ∷ (0x61 ∷ (0x65 ∷ []))) after_tag) where
  pub no_count : ((n : ℕ) → n < 256 → Absent s after_tag (head 0x80 n)) → (n : Node) → Encodes c s n → ⊥
  unfolding encode
  no_count none n encodes = none (length n.entries) (omega (arith, encodes.formed.few)) _ (past_bytes tag encodes.is)

  module _ (count at : ℕ) (counted : Stands s after_tag (head 0x80 count) at) where
    abbrev start : Cursor
    start = record { at = at; left = count; last = None }

    pub node_rest : (n : Node) → Encodes c s n → Rest c s start n
    unfolding encode
    node_rest n encodes =
        let behind-tag = past_bytes tag encodes.is in
        let same = head_one 0x80 count (length n.entries) (drop at s) _ (sym counted.is ∙ behind-tag) in
        record { count = same.0; each = encodes.formed.each; first = encodes.formed.first; is = same.1 }

    pub rest_node : (n : Node) → count ≤ 64 → Rest c s start n → Encodes c s n
    unfolding encode
    rest_node n few rest = record {
      formed = record { few = omega (arith, rest.count); each = rest.each; first = rest.first };
      is = (joins tag counted).is ∙ ap₂ (λ k tail. 0xA2 ∷ (0x61 ∷ (0x65 ∷ (head 0x80 k ++ tail)))) rest.count rest.is;
    }

    -- the node of the entries that were passed and the first link
    pub node_read : count ≤ 64 → (end : ℕ) → Closes c s start end → (first : Option (List ℕ)) → Finishes c s end first
        → (n : Node) × Encodes c s n × Rest c s start n × (first ≡ n.first)
    node_read few end closes first ends =
        let n : Node = record { first = first; entries = closes.passed } in
        let rest = closes.up first ends.formed ends.is in
        (n, rest_node n few rest, rest, refl)
