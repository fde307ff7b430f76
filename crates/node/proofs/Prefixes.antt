-- No part of a node begins another: where two parts of one kind stand in the same place, they are the same part. So an encoding is that of one
-- node. Assumes nothing.
use Rattle.std.proofs.Common.{◌≡◌, ℕ, List, [], ◌∷◌, ◌++◌, length, drop, Some, None, Option, sym, refl, ap, ◌∙◌, append_assoc, arith}
use mathlib.Core.List.{tail-eq_of_cons-eq as past}
use Rattle.std.specs.List.{AllByRecursion}
use Rattle.keys.specs.Shared.{shared}
use Rattle.keys.proofs.Fronts.{shared_rebuilds}
use Rattle.node.specs.Format.{Entry, Node, head, byte_string, link, link_or_null, entry_parts, entry, entries, encode}
use Rattle.node.specs.WellFormed.{Link, EntryLinked, Linked}

-- two parts of one length
pub same_length : (a b r s : List ℕ) → length a ≡ length b → a ++ r ≡ b ++ s → (a ≡ b) × (r ≡ s)
same_length [] [] r s same e = (refl, e)
same_length [] (y ∷ b) r s same e = absurd (omega arith)
same_length (x ∷ a) [] r s same e = absurd (omega arith)
same_length (x ∷ a) (y ∷ b) r s same e =
    let tails : a ++ r ≡ b ++ s = cc in
    let heads : x ≡ y = cc in
    let rest = same_length a b r s (omega arith) tails in
    (let p = rest.0 in cc, rest.1)

pub head_one : (m n k : ℕ) (r s : List ℕ) → head m n ++ r ≡ head m k ++ s → (n ≡ k) × (r ≡ s)
head_one m n k r s e = (grind arith, grind arith)

pub byte_string_one : (a b r s : List ℕ) → byte_string a ++ r ≡ byte_string b ++ s → (a ≡ b) × (r ≡ s)
byte_string_one a b r s e =
    let f : head 0x40 (length a) ++ (a ++ r) ≡ head 0x40 (length b) ++ (b ++ s) = simp append_assoc at e in
    let h = head_one 0x40 (length a) (length b) (a ++ r) (b ++ s) f in
    same_length a b r s h.0 h.1

pub link_one : (c : ℕ) (a b r s : List ℕ) → length a ≡ 32 → length b ≡ 32 → link c a ++ r ≡ link c b ++ s → (a ≡ b) × (r ≡ s)
link_one c a b r s la lb e =
    let t : a ++ r ≡ b ++ s = cc in
    same_length a b r s (omega arith) t

pub link_or_null_one : (c : ℕ) (a b : Option (List ℕ)) (r s : List ℕ) → Link a → Link b → link_or_null c a ++ r ≡ link_or_null c b ++ s → (a ≡ b) × (r ≡ s)
link_or_null_one c None None r s la lb e = (refl, cc)
link_or_null_one c None (Some b) r s la lb e = (grind arith, grind arith)
link_or_null_one c (Some a) None r s la lb e = absurd (grind arith)
link_or_null_one c (Some a) (Some b) r s la lb e =
    let h = link_one c a b r s la lb e in
    (ap Some h.0, h.1)

-- two entries by their parts, and what follows them
pub record SameParts (k k' : List ℕ) (p p' : ℕ) (t t' : Option (List ℕ)) (v v' r r' : List ℕ) : Type 0 where
  pub rest : k ≡ k'
  pub shares : p ≡ p'
  pub after : t ≡ t'
  pub value : v ≡ v'
  pub end : r ≡ r'

pub entry_parts_one : (c : ℕ) (k k' : List ℕ) (p p' : ℕ) (t t' : Option (List ℕ)) (v v' r r' : List ℕ) → Link t → Link t' → length v ≡ 32 → length v' ≡ 32
    → entry_parts c k p t v ++ r ≡ entry_parts c k' p' t' v' ++ r' → SameParts k k' p p' t t' v v' r r'
entry_parts_one c k k' p p' t t' v v' r r' lt lt' lv lv' e =
    let from_v : List ℕ → List ℕ → List ℕ = λ w q. 0x61 ∷ (0x76 ∷ (link c w ++ q)) in
    let from_t : Option (List ℕ) → List ℕ → List ℕ → List ℕ = λ u w q. 0x61 ∷ (0x74 ∷ (link_or_null c u ++ from_v w q)) in
    let from_p : ℕ → Option (List ℕ) → List ℕ → List ℕ → List ℕ = λ n u w q. 0x61 ∷ (0x70 ∷ (head 0x00 n ++ from_t u w q)) in
    let f : head 0x40 (length k) ++ (k ++ from_p p t v r) ≡ head 0x40 (length k') ++ (k' ++ from_p p' t' v' r') = past (past (past (simp append_assoc at e))) in
    let h0 = head_one 0x40 (length k) (length k') (k ++ from_p p t v r) (k' ++ from_p p' t' v' r') f in
    let h1 = same_length k k' (from_p p t v r) (from_p p' t' v' r') h0.0 h0.1 in
    let h2 = head_one 0x00 p p' (from_t t v r) (from_t t' v' r') (past (past h1.1)) in
    let h3 = link_or_null_one c t t' (from_v v r) (from_v v' r') lt lt' (past (past h2.1)) in
    let h4 = link_one c v v' r r' lv lv' (past (past h3.1)) in
    record { rest = h1.0; shares = h2.0; after = h3.0; value = h4.0; end = h4.1 }

-- a key from what it shares with the key before it, and the rest
pub key_one : (before k k' : List ℕ) → shared before k ≡ shared before k' → drop (shared before k) k ≡ drop (shared before k') k' → k ≡ k'
key_one before k k' e d =
    let one = shared_rebuilds before k in
    let other = shared_rebuilds before k' in
    cc

pub entry_one : (c : ℕ) (before : List ℕ) (x y : Entry) (r s : List ℕ) → EntryLinked x → EntryLinked y → entry c before x ++ r ≡ entry c before y ++ s → (x ≡ y) × (r ≡ s)
entry_one c before x y r s fx fy e =
    let h = entry_parts_one c _ _ _ _ x.after y.after x.value y.value r s fx.after fy.after fx.value fy.value e in
    let k = key_one before x.key y.key h.shares h.rest in
    (λ i. record { key = k i; value = h.value i; after = h.after i }, h.end)

pub entries_one : (c : ℕ) (before : List ℕ) (xs ys : List Entry) (r s : List ℕ) → AllByRecursion EntryLinked xs → AllByRecursion EntryLinked ys → length xs ≡ length ys
    → entries c before xs ++ r ≡ entries c before ys ++ s → (xs ≡ ys) × (r ≡ s)
entries_one c before [] [] r s fx fy same e = (refl, e)
entries_one c before [] (y ∷ ys) r s fx fy same e = absurd (omega arith)
entries_one c before (x ∷ xs) [] r s fx fy same e = absurd (omega arith)
entries_one c before (x ∷ xs) (y ∷ ys) r s fx fy same e =
    let h = entry_one c before x y (entries c x.key xs ++ r) (entries c y.key ys ++ s) fx.0 fy.0 (sym (append_assoc (entry c before x) _ r) ∙ (e ∙ append_assoc (entry c before y) _ s)) in
    let f : entries c x.key xs ++ r ≡ entries c x.key ys ++ s = h.1 ∙ sym (ap (λ (z : Entry). entries c z.key ys ++ s) h.0) in
    let rest = entries_one c x.key xs ys r s fx.1 fy.1 (omega arith) f in
    (let p = h.0 in let q = rest.0 in cc, rest.1)

pub encode_one : (c : ℕ) (m n : Node) → Linked m → Linked n → encode c m ≡ encode c n → m ≡ n
unfolding encode
encode_one c m n fm fn e =
    let f : head 0x80 (length m.entries) ++ (entries c [] m.entries ++ (0x61 ∷ (0x6C ∷ link_or_null c m.first)))
    ≡ head 0x80 (length n.entries) ++ (entries c [] n.entries ++ (0x61 ∷ (0x6C ∷ link_or_null c n.first))) = past (past (past e)) in
    let h = head_one 0x80 _ _ _ _ f in
    let i = entries_one c [] _ _ _ _ fm.each fn.each h.0 h.1 in
    let j = link_or_null_one c m.first n.first [] [] fm.first fn.first (ap (λ z. z ++ []) (past (past i.1))) in
    λ k. record { first = j.0 k; entries = i.0 k }
