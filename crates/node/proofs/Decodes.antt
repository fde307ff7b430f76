-- What is read from an encoding is the node, so that decoding undoes encoding. Assumes nothing.
use Rattle.std.proofs.Common.{◌≡◌, ℕ, ◌+◌, ◌%◌, Bool, true, false, cond, ◌&&◌, ltb, List, [], ◌∷◌, ◌++◌, length, drop, Some, None, Option, sym, refl, ap, ◌∙◌, append_assoc, arith}
use Rattle.std.specs.List.{AllByRecursion}
use Rattle.std.specs.Str.{bytes_eq}
use Rattle.std.proofs.lemmas.Slice.Eq.{bytes_eq-Decides}
use Rattle.std.proofs.lemmas.List.{append-nil, drop_at, take_at}
use Rattle.std.proofs.lemmas.Bool.{and_from, and_parts, ltb-true}
use Rattle.keys.specs.Shared.{shared}
use Rattle.keys.proofs.Fronts.{shared_rebuilds}
use Rattle.node.specs.Decode.{argument, after_head, digest_at, link_at, after_link, Read, entry_at, entries_at, node_at, decode}
use Rattle.node.specs.Format.{Entry, Node, head, link, link_or_null, entry_parts, entry, entries, encode}
use Rattle.node.specs.Laws.{Encodes}
use Rattle.node.specs.WellFormed.{EntryFormed, Link, WellFormed, well_formed}
use Rattle.node.proofs.Forms.{node_decides}

-- a head of a kind whose number is a multiple of 32
head_read : (m n : ℕ) (r : List ℕ) → m % 32 ≡ 0 → (argument (head m n ++ r) ≡ n) × (after_head (head m n ++ r) ≡ r)
head_read m n r kind = go (ltb n 24) refl
  where
    go : (t : Bool) → ltb n 24 ≡ t
        → (argument (cond t ((m + n) ∷ []) ((m + 24) ∷ (n ∷ [])) ++ r) ≡ n) × (after_head (cond t ((m + n) ∷ []) ((m + 24) ∷ (n ∷ [])) ++ r) ≡ r)
    go true small =
        let low : (m + n) % 32 ≡ n = omega (arith, ltb-true n 24 small) in
        (rw (low, small), rw (low, small))
    go false large =
        let low : (m + 24) % 32 ≡ 24 = omega arith in
        (rw low, rw low)

digest_read : (c : ℕ) (d r : List ℕ) → length d ≡ 32 → digest_at (link c d ++ r) ≡ d
digest_read c d r long = take_at d r 32 long

link_read : (c : ℕ) (t : Option (List ℕ)) (r : List ℕ) → Link t → (link_at (link_or_null c t ++ r) ≡ t) × (after_link (link_or_null c t ++ r) ≡ r)
link_read c None r long = (refl, refl)
link_read c (Some d) r long = (ap Some (take_at d r 32 long), drop_at (link c d) r 41 (omega arith))

-- the parts of an entry, one after the other
parts_right : (c : ℕ) (k : List ℕ) (p : ℕ) (t : Option (List ℕ)) (v r : List ℕ)
    → entry_parts c k p t v ++ r
    ≡ 0xA4 ∷ (0x61 ∷ (0x6B ∷ (head 0x40 (length k) ++ (k ++ (0x61 ∷ (0x70 ∷ (head 0x00 p ++ (0x61 ∷ (0x74 ∷ (link_or_null c t ++ (0x61 ∷ (0x76 ∷ (link c v ++ r)))))))))))))
parts_right c k p t v r = simp append_assoc

entry_read : (c : ℕ) (before : List ℕ) (e : Entry) (r : List ℕ) → EntryFormed e → entry_at before (entry c before e ++ r) ≡ record { value = e; rest = r }
entry_read c before e r formed =
    let p = shared before e.key in
    let k = drop p e.key in
    let from_v = 0x61 ∷ (0x76 ∷ (link c e.value ++ r)) in
    let from_t = 0x61 ∷ (0x74 ∷ (link_or_null c e.after ++ from_v)) in
    let from_p = 0x61 ∷ (0x70 ∷ (head 0x00 p ++ from_t)) in
    let at_k = head_read 0x40 (length k) (k ++ from_p) refl in
    let at_p = head_read 0x00 p from_t refl in
    let at_t = link_read c e.after from_v formed.after in
    let key = shared_rebuilds before e.key in
    rw (parts_right c k p e.after e.value r, at_k.0, at_k.1, drop_at k from_p (length k) refl, take_at k from_p (length k) refl, at_p.0, at_p.1, at_t.0, at_t.1, digest_read c e.value r formed.value, drop_at (link c e.value) r 41 (omega (arith, formed.value)), key)

entries_read : (c : ℕ) (before : List ℕ) (es : List Entry) (r : List ℕ) → AllByRecursion EntryFormed es
    → entries_at (length es) before (entries c before es ++ r) ≡ record { value = es; rest = r }
entries_read c before [] r formed = refl
entries_read c before (e ∷ es) r formed =
    let more : Read Entry → Read (List Entry)
    = λ first. let rest = entries_at (length es) first.value.key first.rest in record { value = first.value ∷ rest.value; rest = rest.rest } in
    ap (entries_at (length (e ∷ es)) before) (append_assoc (entry c before e) (entries c e.key es) r)
    ∙ ap more (entry_read c before e (entries c e.key es ++ r) formed.0)
    ∙ ap (λ (rest : Read (List Entry)). record { value = e ∷ rest.value; rest = rest.rest }) (entries_read c e.key es r formed.1)

node_read : (c : ℕ) (n : Node) → WellFormed n → node_at (encode c n) ≡ n
unfolding encode
node_read c n formed =
    let end = 0x61 ∷ (0x6C ∷ link_or_null c n.first) in
    let count = head_read 0x80 (length n.entries) (entries c [] n.entries ++ end) refl in
    let first = link_read c n.first [] formed.first in
    rw (count.0, count.1, entries_read c [] n.entries end formed.each, ← (append-nil (link_or_null c n.first)), first.0)

pub decode_encodes : (c : ℕ) (s : List ℕ) (n : Node) → decode c s ≡ Some n → Encodes c s n
unfolding decode
decode_encodes c s n is = go (well_formed (node_at s) && bytes_eq (encode c (node_at s)) s) refl is
  where
    go : (t : Bool) → (well_formed (node_at s) && bytes_eq (encode c (node_at s)) s) ≡ t → cond t (Some (node_at s)) None ≡ Some n → Encodes c s n
    go true passed found =
        let parts = and_parts (well_formed (node_at s)) (bytes_eq (encode c (node_at s)) s) passed in
        let same : node_at s ≡ n = cc in
        rw (← same) record { formed = (node_decides (node_at s)).0 parts.0; is = sym ((bytes_eq-Decides (encode c (node_at s)) s).0 parts.1) }
    go false failed found = absurd (grind arith)

pub encodes_decode : (c : ℕ) (s : List ℕ) (n : Node) → Encodes c s n → decode c s ≡ Some n
unfolding decode
encodes_decode c s n h =
    let read : node_at s ≡ n = ap node_at h.is ∙ node_read c n h.formed in
    let passed : (well_formed n && bytes_eq (encode c n) s) ≡ true
    = and_from (well_formed n) (bytes_eq (encode c n) s) ((node_decides n).1 h.formed) ((bytes_eq-Decides (encode c n) s).1 (sym h.is)) in
    ap (λ (m : Node). cond (well_formed m && bytes_eq (encode c m) s) (Some m) None) read ∙ ap (λ t. cond t (Some n) None) passed
