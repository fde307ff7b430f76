-- What a writer has written after each of its calls. Assumes nothing.
use Rattle.std.proofs.Common.{◌≡◌, ℕ, ◌+◌, ◌-◌, List, [], ◌∷◌, ◌++◌, length, take, drop, Option, sym, refl, ap, ◌∙◌, subst, arith}
use Rattle.std.proofs.lemmas.List.{append_assoc, append-nil, length-append, take_rest}
use Rattle.keys.specs.Shared.{shared}
use Rattle.node.specs.Values.{key_before}
use Rattle.node.specs.Format.{Entry, closing, encode, entries, entry, entry_parts, opening}
use Rattle.node_writer.specs.Answer.{Begun}
use Rattle.node_writer.specs.Put.{Puts}
use Rattle.node_writer.specs.Written.{last_key, Written}
use Rattle.node_writer.specs.declared.writer.NodeWriter.{NodeWriter}
use Rattle.node_writer.proofs.Puts.{take_puts}

-- an entry from the parts that the code writes
pub entry_is : (c : ℕ) (before key : List ℕ) (e : Entry) (p : ℕ) → key ≡ e.key → p ≡ shared before key
    → entry c before e ≡ entry_parts c (take (length key - p) (drop p key)) p e.after e.value
entry_is c before key e p same is = rw (take_rest key p, is, same)

entries_push : (c : ℕ) (before : List ℕ) (es : List Entry) (e : Entry) → entries c before (es ++ e ∷ []) ≡ entries c before es ++ entry c (last_key before es) e
entries_push c before [] e = append-nil (entry c before e)
entries_push c before (x ∷ es) e =
    ap (λ z. entry c before x ++ z) (entries_push c x.key es e) ∙ sym (append_assoc (entry c before x) (entries c x.key es) (entry c (last_key x.key es) e))

last_key_push : (before : List ℕ) (es : List Entry) (e : Entry) → last_key before (es ++ e ∷ []) ≡ e.key
last_key_push before [] e = refl
last_key_push before (x ∷ es) e = last_key_push x.key es e

pub written_none : (c count : ℕ) (w : NodeWriter) (s t : List ℕ) → Puts s t 0 (opening count) w.at → w.left ≡ count → key_before w.last ≡ [] → Written c count [] w t
written_none c count w s t puts left none =
    record { bytes = take_puts puts ∙ sym (append-nil (opening count)); rest = omega arith; follows = none }

pub begun_into : {s t u : List ℕ} {count : ℕ} {w : NodeWriter} → u ≡ t → Begun s t count w → Begun s u count w
begun_into {s} {t} {u} {count} {w} same begun = subst (λ z. Begun s z count w) (sym same) begun

pub written_push : (c : ℕ) (e : Entry) (v w : NodeWriter) (s t : List ℕ)
    → Puts s t v.at (entry c (key_before v.last) e) w.at → w.left + 1 ≡ v.left → key_before w.last ≡ e.key
    → (count : ℕ) (es : List Entry) → Written c count es v s → Written c count (es ++ e ∷ []) w t
written_push c e v w s t puts left last count es so_far =
    record {
      bytes =
          take_puts puts
          ∙ ap (λ z. z ++ entry c (key_before v.last) e) so_far.bytes
          ∙ append_assoc (opening count) (entries c [] es) (entry c (key_before v.last) e)
          ∙ ap (λ z. opening count ++ (entries c [] es ++ entry c z e)) so_far.follows
          ∙ ap (λ z. opening count ++ z) (sym (entries_push c [] es e));
      rest = omega (arith, so_far.rest, length-append es (e ∷ []));
      follows = last ∙ sym (last_key_push [] es e);
    }

pub written_all : (c : ℕ) (first : Option (List ℕ)) (w : NodeWriter) (s t : List ℕ) (end : ℕ) → Puts s t w.at (closing c first) end → w.left ≡ 0
    → (count : ℕ) (es : List Entry) → Written c count es w s → take end t ≡ encode c (record { first = first; entries = es })
unfolding encode
written_all c first w s t end puts none count es so_far =
    let full : length es ≡ count = omega (arith, so_far.rest) in
    take_puts puts
    ∙ ap (λ z. z ++ closing c first) so_far.bytes
    ∙ append_assoc (opening count) (entries c [] es) (closing c first)
    ∙ ap (λ z. opening z ++ (entries c [] es ++ closing c first)) (sym full)
