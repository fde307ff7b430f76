-- What stands in a buffer after bytes are written into it. Assumes nothing.
use Rattle.std.proofs.Common.{◌≡◌, ℕ, ◌+◌, ◌-◌, ◌≤◌, List, ◌++◌, length, take, drop, sym, refl, ap, ◌∙◌, subst, arith}
use lib.Seq.{paste}
use borrow.Rule.Slice.PartMut.{put_mid}
use Rattle.std.proofs.lemmas.List.Edits.{length-paste, paste_all, paste-paste}
use Rattle.std.proofs.lemmas.List.{append_assoc, drop_at, drop-drop, length-append, length-take-le, take_at, take-take}
use Rattle.std.proofs.lemmas.Slice.{put_mid-paste}
use Rattle.node_writer.specs.Put.{put, Puts, Writes, Kept}
use Rattle.node_writer.specs.declared.output.Output.{Output}

put_paste : (s : List ℕ) (at : ℕ) (p : List ℕ) → put s at p ≡ paste s at p (length p)
unfolding put
put_paste s at p = sym (paste_all s at p (length p) refl)

-- as the checker has a write to a part of a slice
pub put_part : (s : List ℕ) (at k : ℕ) (w p : List ℕ) → w ≡ p → k ≡ length p → put_mid at k s w ≡ put s at p
put_part s at k w p is long = put_mid-paste at k s w p (length p) is (sym long) refl ∙ sym (put_paste s at p)

pub put-length : (s : List ℕ) (at : ℕ) (p : List ℕ) → at + length p ≤ length s → length (put s at p) ≡ length s
put-length s at p room = ap length (put_paste s at p) ∙ length-paste s at p (length p) room (omega arith)

put-put : (s : List ℕ) (at : ℕ) (p q : List ℕ) → at + length p ≤ length s → put (put s at p) (at + length p) q ≡ put s at (p ++ q)
put-put s at p q room =
    let one = put_paste s at p in
    let other = put_paste (put s at p) (at + length p) q in
    let pasted = paste-paste s at p q (length p) (length q) refl refl (omega arith) in
    let both = put_paste s at (p ++ q) in
    let long = length-append p q in
    cc

-- one write after another
pub then : {s t u p q : List ℕ} {at m end : ℕ} → Puts s t at p m → Puts t u m q end → Puts s u at (p ++ q) end
then {s} {t} {u} {p} {q} {at} {m} {end} a b =
    let long = length-append p q in
    let fits : at + length p ≤ length s = omega (arith, a.ends, a.within) in
    let size = put-length s at p fits in
    let both = put-put s at p q fits in
    record {
      ends = omega (arith, a.ends, b.ends);
      within = omega (arith, b.within, ap length a.is);
      is = cc;
    }

pub puts_as : {s t p q : List ℕ} {at end : ℕ} → p ≡ q → Puts s t at q end → Puts s t at p end
puts_as {s} {t} {p} {q} {at} {end} same w = subst (λ z. Puts s t at z end) (sym same) w

pub puts_into : {s t u p : List ℕ} {at end : ℕ} → u ≡ t → Puts s t at p end → Puts s u at p end
puts_into {s} {t} {u} {p} {at} {end} same w = subst (λ z. Puts s z at p end) (sym same) w

-- of an output
pub writes : (before after : Output) (p : List ℕ) → after.buffer.ghost_name ≡ before.buffer.ghost_name
    → Puts before.buffer.now after.buffer.now before.at p after.at → Writes before after p
writes before after p same w =
    record { puts = w; same = same; size = ap length w.is ∙ put-length before.buffer.now before.at p (omega (arith, w.ends, w.within)) }

pub then_writes : {a b c : Output} {p q : List ℕ} → Writes a b p → Writes b c q → Writes a c (p ++ q)
then_writes v w = record { puts = then v.puts w.puts; same = w.same ∙ v.same; size = w.size ∙ v.size }

pub writes_as : {a b : Output} {p q : List ℕ} → p ≡ q → Writes a b q → Writes a b p
writes_as same w = record { puts = puts_as same w.puts; same = w.same; size = w.size }

-- up to the end of what was written
pub take_puts : {s t p : List ℕ} {at end : ℕ} → Puts s t at p end → take end t ≡ take at s ++ p
unfolding put
take_puts {s} {t} {p} {at} {end} w =
    let size : length (take at s ++ p) ≡ end = length-append (take at s) p ∙ omega (arith, w.ends, w.within, length-take-le at s (omega (arith, w.ends, w.within))) in
    ap (take end) (w.is ∙ sym (append_assoc (take at s) p (drop (at + length p) s))) ∙ take_at (take at s ++ p) (drop (at + length p) s) end size

pub puts_kept : {s t p : List ℕ} {at end : ℕ} → Puts s t at p end → Kept s t at end
unfolding put
puts_kept {s} {t} {p} {at} {end} w =
    let fits : at + length p ≤ length s = omega (arith, w.ends, w.within) in
    let begins = length-take-le at s (omega arith) in
    let size : length (take at s ++ p) ≡ end = length-append (take at s) p ∙ omega (arith, w.ends) in
    record {
      ordered = omega (arith, w.ends);
      front = ap (take at) w.is ∙ take_at (take at s) (p ++ drop (at + length p) s) at begins;
      back =
          ap (drop end) (w.is ∙ sym (append_assoc (take at s) p (drop (at + length p) s)))
          ∙ drop_at (take at s ++ p) (drop (at + length p) s) end size
          ∙ ap (λ z. drop z s) (sym w.ends);
      size = ap length w.is ∙ put-length s at p fits;
    }

-- past the changes
kept_back : {s t : List ℕ} {from end : ℕ} → Kept s t from end → (n : ℕ) → end ≤ n → drop n t ≡ drop n s
kept_back {s} {t} {from} {end} k n past =
    let far : end + (n - end) ≡ n = omega arith in
    rw (← far, ← (drop-drop (n - end) end t), ← (drop-drop (n - end) end s)) (ap (drop (n - end)) k.back)

-- before the changes
kept_front : {s t : List ℕ} {from end : ℕ} → Kept s t from end → (n : ℕ) → n ≤ from → take n t ≡ take n s
kept_front {s} {t} {from} {end} k n before =
    sym (take-take n from t before) ∙ ap (take n) k.front ∙ take-take n from s before

-- one change after another
pub kept_then : {s t u : List ℕ} {from m end : ℕ} → Kept s t from m → Kept t u m end → Kept s u from end
kept_then {from = from} {end = end} a b =
    record {
      ordered = omega (arith, a.ordered, b.ordered);
      front = kept_front b from a.ordered ∙ a.front;
      back = b.back ∙ kept_back a end b.ordered;
      size = b.size ∙ a.size;
    }

pub kept_none : (s : List ℕ) (at : ℕ) → Kept s s at at
kept_none s at = record { ordered = omega arith; front = refl; back = refl; size = refl }
