-- Going through a block byte by byte, and part by part. Assumes nothing.
use Rattle.std.proofs.Common.{◌≡◌, ℕ, ◌+◌, ◌-◌, ◌<◌, ◌≤◌, Bool, true, false, cond, ltb, List, [], ◌∷◌, ◌++◌, length, take, drop, sym, ap, ◌∙◌, subst, append_assoc, arith}
use Rattle.std.proofs.lemmas.List.{drop-drop, length-append, length-drop, length-take, take_all, take-append-drop}
use Rattle.std.specs.List.{slice_range}
use Rattle.node.specs.Format.{byte_string, head, link}
use Rattle.node.proofs.Prefixes.{head_one}
use Rattle.node_reader.specs.Items.{NoString, ReadsLink, ReadsString}
use Rattle.node_reader.specs.Stands.{Absent, Part, Stands}

-- what `get(at..)` lends is all that stands from there on
rest_all : (s : List ℕ) (at : ℕ) → slice_range s at (length s) ≡ drop at s
rest_all s at = take_all (length s - at) (drop at s) (omega (arith, length-drop at s))

-- p stands where it is the front of what is lent from `at` on
pub front_stands : (s : List ℕ) (at : ℕ) (p rest : List ℕ) → at ≤ length s → rest ≡ slice_range s at (length s) → length p ≤ length rest → slice_range rest 0 (length p) ≡ p
    → Stands s at p (at + length p)
front_stands s at p rest within lent room same =
    let all : rest ≡ drop at s = lent ∙ rest_all s at in
    let whole : length p ≡ length p - 0 = omega arith in
    let here : take (length p) (drop at s) ≡ p = ap (take (length p)) (sym all) ∙ ap (λ n. take n rest) whole ∙ same in
    let behind = drop-drop (length p) at s in
    let both = take-append-drop (length p) (drop at s) in
    record { within = omega (arith, length-drop at s, ap length all); is = cc }

-- a part of s from `start` on
part_then : (s : List ℕ) (start n : ℕ) → drop start s ≡ take ((start + n) - start) (drop start s) ++ drop (start + n) s
part_then s start n =
    let size : (start + n) - start ≡ n = omega arith in
    rw (size, ← drop-drop n start s) (sym (take-append-drop n (drop start s)))

part_length : (s : List ℕ) (start n : ℕ) → start + n ≤ length s → length (take ((start + n) - start) (drop start s)) ≡ n
part_length s start n room = simp (length-take, length-drop) (omega arith)

part_of : (s : List ℕ) (start n : ℕ) → start + n ≤ length s → Part s (take ((start + n) - start) (drop start s)) (start + n - length (take ((start + n) - start) (drop start s)))
part_of s start n room =
    let b = take ((start + n) - start) (drop start s) in
    let size : length b ≡ n = part_length s start n room in
    let cut : (start + n) - start ≡ n = omega arith in
    let from : (start + n) - length b ≡ start = omega arith in
    record { inside = omega arith; is = cc }

pub head_some : (m n : ℕ) → 0 < length (head m n)
head_some m n = go (ltb n 24)
  where
    go : (t : Bool) → 0 < length (cond t ((m + n) ∷ []) ((m + 24) ∷ (n ∷ [])))
    go true = omega arith
    go false = omega arith

-- where bytes end that stand at a place
pub stands_end : (s : List ℕ) (at : ℕ) (p : List ℕ) (end : ℕ) → Stands s at p end → 0 < length p → end ≡ at + length p
stands_end s at p end h some =
    let sizes = ap length h.is in
    omega (arith, length-append p (drop end s), length-drop at s, length-drop end s, h.within)

-- the rest of a key stands right behind the head of its byte string
pub place_behind_head : (s : List ℕ) (at at_k : ℕ) (rest : List ℕ) (end : ℕ) → Stands s at (0xA4 ∷ (0x61 ∷ (0x6B ∷ []))) at_k → Stands s at_k (byte_string rest) end
    → end - length rest ≡ at + 3 + length (head 0x40 (length rest))
place_behind_head s at at_k rest end tag string =
    let size = length-append (head 0x40 (length rest)) rest in
    let some = head_some 0x40 (length rest) in
    omega (arith, stands_end s at _ at_k tag (omega arith), stands_end s at_k (byte_string rest) end string (omega arith))

-- a part that is longer than what is left
pub too_short : (s : List ℕ) (at : ℕ) (p : List ℕ) → length s - at < length p → Absent s at p
too_short s at p short = λ r e. omega (arith, simp (length-append, length-drop) at (ap length e))

module _ (s : List ℕ) (at start m n : ℕ) (behind : Stands s at (head m n) start) where
  pub string_short : length s < start + n → NoString s at m
  string_short short = λ b small r e.
      let f : head m n ++ drop start s ≡ head m (length b) ++ (b ++ r) = sym behind.is ∙ (simp append_assoc at e) in
      let same = head_one m n (length b) (drop start s) (b ++ r) f in
      omega (arith, same.0, behind.within, simp (length-append, length-drop) at (ap length same.1))

  pub string_stands : (b : List ℕ) → n < 256 → start + n ≤ length s → b ≡ slice_range s start (start + n) → ReadsString s at m b (start + n)
  string_stands b small room lent = rw lent
      let b = slice_range s start (start + n) in
      let size = part_length s start n room in
      record {
        short = omega arith;
        stands = record {
          within = room;
          is =
              let f = behind.is in
              let p = part_then s start n in
              let a = append_assoc (head m (length b)) b (drop (start + n) s) in
              cc;
        };
        ends = omega arith;
        part = part_of s start n room;
      }

  -- the same, as the front of all that stands from `start` on
  pub string_front : (rest b : List ℕ) → n < 256 → rest ≡ slice_range s start (length s) → n ≤ length rest → b ≡ slice_range rest 0 n → length b ≡ n
      → ReadsString s at m b (start + length b)
  string_front rest b small lent room first size =
      let all : rest ≡ drop start s = lent ∙ rest_all s start in
      let long : start + n ≤ length s = omega (arith, behind.within, length-drop start s, ap length all) in
      let cut : n - 0 ≡ (start + n) - start = omega arith in
      let same : b ≡ slice_range s start (start + n) = first ∙ ap (λ k. take k rest) cut ∙ ap (take ((start + n) - start)) all in
      subst (λ k. ReadsString s at m b (start + k)) (sym size) (string_stands b small long same)

module _ (s : List ℕ) (at start c : ℕ) (behind : Stands s at (link c []) start) where
  pub link_stands : (d : List ℕ) → 32 ≤ length (slice_range s start (length s)) → d ≡ take 32 (slice_range s start (length s)) → ReadsLink s at c d (start + 32)
  link_stands d room lent =
      let all = rest_all s start in
      let long : start + 32 ≤ length s = omega (arith, behind.within, length-drop start s, ap length all) in
      let cut : (start + 32) - start ≡ 32 = omega arith in
      let same : d ≡ take ((start + 32) - start) (drop start s) = lent ∙ ap (take 32) all ∙ ap (λ n. take n (drop start s)) (sym cut) in
      rw same record {
        long = part_length s start 32 long;
        stands = record { within = long; is = behind.is ∙ ap (λ z. link c [] ++ z) (part_then s start 32) };
        ends = omega (arith, part_length s start 32 long);
        part = part_of s start 32 long;
      }
