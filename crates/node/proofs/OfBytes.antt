-- The encoding of a node made of bytes is made of bytes. Assumes nothing.
use Rattle.std.proofs.Common.{◌≡◌, ℕ, ◌+◌, ◌<◌, ◌≤◌, Bool, true, false, cond, ltb, List, [], ◌∷◌, ◌++◌, length, drop, Some, None, Option, refl, arith, lit<}
use Rattle.std.specs.List.{AllByRecursion}
use Rattle.std.proofs.ByRecursion.{All-append, All-drop}
use Rattle.std.proofs.lemmas.List.{length-drop}
use Rattle.std.proofs.lemmas.Bool.{ltb-true}
use Rattle.keys.specs.Shared.{shared}
use Rattle.keys.proofs.Fronts.{shared_right}
use Rattle.node.specs.Format.{Entry, Node, head, byte_string, link, link_or_null, entry_parts, entry, entries, opening, closing, encode}
use Rattle.node.specs.WellFormed.{EntryFormed, WellFormed, Bytes, LinkBytes, EntryBytes, NodeBytes}

joined : (a b : List ℕ) → Bytes a → Bytes b → Bytes (a ++ b)
joined a b = All-append (λ x. x < 256) a b

head_bytes : (m n : ℕ) → m + 24 < 256 → n < 256 → Bytes (head m n)
head_bytes m n low small = go (ltb n 24) refl
  where
    go : (t : Bool) → ltb n 24 ≡ t → Bytes (cond t ((m + n) ∷ []) ((m + 24) ∷ (n ∷ [])))
    go true e = (omega (arith, ltb-true n 24 e), tt)
    go false e = (low, (small, tt))

string_bytes : (b : List ℕ) → length b ≤ 64 → Bytes b → Bytes (byte_string b)
string_bytes b short h = joined (head 0x40 (length b)) b (head_bytes 0x40 (length b) (lit< tt) (omega arith)) h

link_bytes : (c : ℕ) (d : List ℕ) → c < 256 → Bytes d → Bytes (link c d)
link_bytes c d code h = (lit< tt, (lit< tt, (lit< tt, (lit< tt, (lit< tt, (lit< tt, (lit< tt, (code, (lit< tt, h)))))))))

link_or_null_bytes : (c : ℕ) (t : Option (List ℕ)) → c < 256 → LinkBytes t → Bytes (link_or_null c t)
link_or_null_bytes c None code h = (lit< tt, tt)
link_or_null_bytes c (Some d) code h = link_bytes c d code h

parts_bytes : (c : ℕ) (k : List ℕ) (p : ℕ) (t : Option (List ℕ)) (v : List ℕ) → c < 256 → length k ≤ 64 → Bytes k → p < 256 → LinkBytes t → Bytes v → Bytes (entry_parts c k p t v)
parts_bytes c k p t v code short hk small ht hv =
    let from_v : Bytes (0x61 ∷ (0x76 ∷ link c v)) = (lit< tt, (lit< tt, link_bytes c v code hv)) in
    let from_t : Bytes (0x61 ∷ (0x74 ∷ (link_or_null c t ++ (0x61 ∷ (0x76 ∷ link c v))))) = (lit< tt, (lit< tt, joined (link_or_null c t) _ (link_or_null_bytes c t code ht) from_v)) in
    let from_p : Bytes (0x61 ∷ (0x70 ∷ (head 0x00 p ++ (0x61 ∷ (0x74 ∷ (link_or_null c t ++ (0x61 ∷ (0x76 ∷ link c v)))))))) =
    (lit< tt, (lit< tt, joined (head 0x00 p) _ (head_bytes 0x00 p (lit< tt) small) from_t)) in
    (lit< tt, (lit< tt, (lit< tt, joined (byte_string k) _ (string_bytes k short hk) from_p)))

entry_bytes : (c : ℕ) (before : List ℕ) (e : Entry) → c < 256 → EntryFormed e → EntryBytes e → Bytes (entry c before e)
entry_bytes c before e code formed h =
    let p = shared before e.key in
    parts_bytes c (drop p e.key) p e.after e.value code (omega (arith, length-drop p e.key, formed.short)) (All-drop (λ x. x < 256) p e.key h.key)
    (omega (arith, shared_right before e.key, formed.short)) h.after h.value

entries_bytes : (c : ℕ) (before : List ℕ) (es : List Entry) → c < 256 → AllByRecursion EntryFormed es → AllByRecursion EntryBytes es → Bytes (entries c before es)
entries_bytes c before [] code formed h = tt
entries_bytes c before (e ∷ es) code formed h = joined (entry c before e) (entries c e.key es) (entry_bytes c before e code formed.0 h.0) (entries_bytes c e.key es code formed.1 h.1)

pub encode_bytes : (c : ℕ) (n : Node) → c < 256 → WellFormed n → NodeBytes n → Bytes (encode c n)
unfolding encode
encode_bytes c n code formed h =
    let end : Bytes (closing c n.first) = (lit< tt, (lit< tt, link_or_null_bytes c n.first code h.first)) in
    let count = head_bytes 0x80 (length n.entries) (lit< tt) (omega (arith, formed.few)) in
    let start : Bytes (opening (length n.entries)) = (lit< tt, (lit< tt, (lit< tt, count))) in
    joined (opening (length n.entries)) _ start (joined (entries c [] n.entries) (closing c n.first) (entries_bytes c [] n.entries code formed.each h.each) end)
