-- The entries of a slice, written one in each turn of a loop. Assumes nothing.
use Rattle.std.proofs.Common.{◌≡◌, ℕ, ◌+◌, ◌<◌, ◌≤◌, List, [], ◌∷◌, ◌++◌, map, length, get_or, take, sym, ap, ◌∙◌, subst, arith}
use Rattle.std.proofs.lemmas.List.{length-map, length-take-le, map_more, take_all}
use Rattle.node.specs.Values.{entry_of}
use Rattle.node.specs.declared.entry.Entry.{Entry}
use Rattle.node_writer.specs.Written.{Written}
use Rattle.node_writer.specs.declared.writer.NodeWriter.{NodeWriter}

-- the first i entries have been written
abbrev pub Turns : ℕ → List Entry → ℕ → NodeWriter → List ℕ → Type 0
Turns c xs i w out = Written c (length xs) (map entry_of (take i xs)) w out

pub turns_left : (c : ℕ) (xs : List Entry) (i : ℕ) (w : NodeWriter) (out : List ℕ) → i ≤ length xs → Turns c xs i w out → w.left + i ≡ length xs
turns_left c xs i w out within so_far = omega (arith, so_far.rest, length-map (take i xs) entry_of, length-take-le i xs within)

-- one turn on, at the entry x
pub turns_more : (c : ℕ) (xs : List Entry) (i : ℕ) (x : Entry) (w : NodeWriter) (out : List ℕ) → i < length xs → x ≡ get_or xs i x
    → Written c (length xs) (map entry_of (take i xs) ++ entry_of x ∷ []) w out → Turns c xs (i + 1) w out
turns_more c xs i x w out within is so_far =
    subst (λ es. Written c (length xs) es w out) (ap (λ y. map entry_of (take i xs) ++ entry_of y ∷ []) is ∙ sym (map_more entry_of xs i x within)) so_far

pub turns_all : (c : ℕ) (xs : List Entry) (i : ℕ) (w : NodeWriter) (out : List ℕ) → length xs ≤ i → Turns c xs i w out → Written c (length xs) (map entry_of xs) w out
turns_all c xs i w out past so_far = subst (λ ys. Written c (length xs) (map entry_of ys) w out) (take_all i xs past) so_far
