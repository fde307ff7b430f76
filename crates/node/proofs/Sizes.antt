-- How long encodings are, and that every node fits a block. Assumes nothing.
use Rattle.std.proofs.Common.{◌≡◌, ℕ, ◌+◌, ◌*◌, ◌≤◌, Bool, true, false, cond, ltb, List, [], ◌∷◌, length, drop, Some, None, Option, arith}
use Rattle.std.specs.List.{AllByRecursion}
use Rattle.std.proofs.lemmas.List.{length-append, length-drop}
use Rattle.keys.specs.Shared.{shared}
use Rattle.node.specs.Format.{Entry, Node, head, link_or_null, entry_parts, entry, entries, encode}
use Rattle.node.specs.WellFormed.{Link, EntryFormed, WellFormed}

pub head-length : (m n : ℕ) → length (head m n) ≤ 2
head-length m n = go (ltb n 24)
  where
    go : (t : Bool) → length (cond t ((m + n) ∷ []) ((m + 24) ∷ (n ∷ []))) ≤ 2
    go true = omega arith
    go false = omega arith

pub link_or_null-length : (c : ℕ) (t : Option (List ℕ)) → Link t → length (link_or_null c t) ≤ 41
link_or_null-length c None long = omega arith
link_or_null-length c (Some d) long = omega arith

-- the length of an entry by its parts
pub entry_parts-length : (c : ℕ) (k : List ℕ) (p : ℕ) (t : Option (List ℕ)) (v : List ℕ)
    → length (entry_parts c k p t v) ≡ 18 + length (head 0x40 (length k)) + length k + length (head 0x00 p) + length (link_or_null c t) + length v
entry_parts-length c k p t v = simp length-append (omega arith)

pub entry_length : (c : ℕ) (before : List ℕ) (e : Entry) → EntryFormed e → length (entry c before e) ≤ 159
entry_length c before e formed =
    let p = shared before e.key in
    let k = drop p e.key in
    omega (arith, entry_parts-length c k p e.after e.value, head-length 0x40 (length k), head-length 0x00 p, length-drop p e.key, formed.short, formed.value, link_or_null-length c e.after formed.after)

pub entries-length : (c : ℕ) (before : List ℕ) (es : List Entry) → AllByRecursion EntryFormed es → length (entries c before es) ≤ 159 * length es
entries-length c before [] formed = omega arith
entries-length c before (e ∷ es) formed =
    let rest = entries-length c e.key es formed.1 in
    let here = entry_length c before e formed.0 in
    omega (arith, length-append (entry c before e) (entries c e.key es))

pub encode-length : (c : ℕ) (n : Node)
    → length (encode c n) ≡ 5 + length (head 0x80 (length n.entries)) + length (entries c [] n.entries) + length (link_or_null c n.first)
unfolding encode
encode-length c n = simp length-append (omega arith)

pub encode_fits : (c : ℕ) (n : Node) → WellFormed n → length (encode c n) ≤ 10752
encode_fits c n formed =
    omega (arith, encode-length c n, head-length 0x80 (length n.entries), entries-length c [] n.entries formed.each, formed.few, link_or_null-length c n.first formed.first)
