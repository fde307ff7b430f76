-- Cutting a text at its first newline again and again gives its lines, and the lines give the text back. Assumes nothing.
use Rattle.std.proofs.Common.{◌≡◌, ℕ, ◌+◌, ◌<◌, ◌≤◌, Bool, true, false, cond, eqb, List, [], ◌∷◌, ◌++◌, length, get_or, take, drop, sym, refl, ap, ◌∙◌, inl, inr, ⊎_elim, arith}
use Rattle.std.specs.List.{flat_map, AllByRecursion}
use Rattle.std.proofs.ByRecursion.{All-from_get_or}
use Rattle.std.proofs.lemmas.List.{drop_more, get_or-take, length-take-le, length-append, take-append-drop}
use Rattle.std.proofs.lemmas.Bool.{eqb-true, eqb-false, ne_eqb}
use Rattle.timetable.specs.Lines.{newline, terminated, before, lines, Line, Closed, LinesOf, Splits}

-- the first newline cuts the first line off

pub splits_none : (text : List ℕ) → ((k : ℕ) → k < length text → get_or text k 0 ≡ newline → ⊥) → Splits text text []
splits_none text none = record {
  one = All-from_get_or (λ b. b ≡ newline → ⊥) text 0 none;
  whole = inl (refl, refl);
}

pub splits_at : (text : List ℕ) (n : ℕ) → n < length text → get_or text n 0 ≡ newline → ((k : ℕ) → k < n → get_or text k 0 ≡ newline → ⊥)
    → Splits text (take n text) (drop (n + 1) text)
splits_at text n inside here none =
    let long = length-take-le n text (omega arith) in
    record {
      one = All-from_get_or (λ b. b ≡ newline → ⊥) (take n text) 0
          (λ i h is. none i (omega arith) (sym (get_or-take n text i 0 (omega arith)) ∙ is));
      whole = inr (sym (take-append-drop n text) ∙ ap (λ xs. take n text ++ xs) (drop_more text n 0 inside ∙ ap (λ b. b ∷ drop (n + 1) text) here));
    }

-- what is left to cut

lines-newline : (line rest : List ℕ) → Line line → lines (line ++ newline ∷ rest) ≡ line ∷ lines rest
unfolding lines
lines-newline [] rest one = refl
lines-newline (b ∷ line) rest one = rw (ne_eqb b newline one.0, lines-newline line rest one.1)

lines_last : (line : List ℕ) → Line line → 0 < length line → lines line ≡ line ∷ []
unfolding lines
lines_last [] one some = absurd (omega arith)
lines_last (b ∷ []) one some = rw (ne_eqb b newline one.0)
lines_last (b ∷ (c ∷ line)) one some =
    rw (ne_eqb b newline one.0) (ap (before b) (lines_last (c ∷ line) one.1 (omega arith)))

pub lines_split : (text line rest : List ℕ) → Splits text line rest → 0 < length text → lines text ≡ line ∷ lines rest
unfolding lines
lines_split text line rest cut some =
    ⊎_elim
    (λ w. rw (w.0, w.1) (lines_last line cut.one (omega (arith, ap length w.0))))
    (λ w. rw w (lines-newline line rest cut.one))
    cut.whole

-- no more lines than bytes

before_few : (b : ℕ) (ls : List (List ℕ)) → length (before b ls) ≤ length ls + 1
before_few b [] = omega arith
before_few b (line ∷ rest) = omega arith

few_more : (b : ℕ) (t : Bool) (ls : List (List ℕ)) → length (cond t ([] ∷ ls) (before b ls)) ≤ length ls + 1
few_more b true ls = omega arith
few_more b false ls = before_few b ls

pub length-lines-le : (text : List ℕ) → length (lines text) ≤ length text
unfolding lines
length-lines-le [] = omega arith
length-lines-le (b ∷ text) = omega (arith, few_more b (eqb b newline) (lines text), length-lines-le text)

-- no line has a newline in it

each_before : (b : ℕ) (ls : List (List ℕ)) → (b ≡ newline → ⊥) → AllByRecursion Line ls → AllByRecursion Line (before b ls)
each_before b [] other all = ((other, tt), tt)
each_before b (line ∷ rest) other all = ((other, all.0), all.1)

each_more : (b : ℕ) (t : Bool) (ls : List (List ℕ)) → eqb b newline ≡ t → AllByRecursion Line ls → AllByRecursion Line (cond t ([] ∷ ls) (before b ls))
each_more b true ls is all = (tt, all)
each_more b false ls is all = each_before b ls (eqb-false b newline is) all

lines_each : (text : List ℕ) → AllByRecursion Line (lines text)
unfolding lines
lines_each [] = tt
lines_each (b ∷ text) = each_more b (eqb b newline) (lines text) refl (lines_each text)

-- the lines, each followed by a newline

some_more : (b : ℕ) (t : Bool) (ls : List (List ℕ)) → 0 < length (cond t ([] ∷ ls) (before b ls))
some_more b true ls = omega arith
some_more b false [] = omega arith
some_more b false (line ∷ rest) = omega arith

joined_more : (b : ℕ) (t : Bool) (ls : List (List ℕ)) → eqb b newline ≡ t → 0 < length ls
    → flat_map terminated (cond t ([] ∷ ls) (before b ls)) ≡ b ∷ flat_map terminated ls
joined_more b true ls is some = ap (λ x. x ∷ flat_map terminated ls) (sym (eqb-true b newline is))
joined_more b false [] is some = absurd (omega arith)
joined_more b false (line ∷ rest) is some = refl

lines_joined : (b c : ℕ) (text : List ℕ) → flat_map terminated (lines (b ∷ (c ∷ text))) ≡ b ∷ flat_map terminated (lines (c ∷ text))
unfolding lines
lines_joined b c text = joined_more b (eqb b newline) (lines (c ∷ text)) refl (some_more c (eqb c newline) (lines text))

-- a text of one byte, by whether that is a newline
joined_newline : (b : ℕ) → b ≡ newline → flat_map terminated (lines (b ∷ [])) ≡ b ∷ []
unfolding lines
joined_newline b is = rw is

joined_byte : (b : ℕ) → (b ≡ newline → ⊥) → flat_map terminated (lines (b ∷ [])) ≡ terminated (b ∷ [])
unfolding lines
joined_byte b other = rw (ne_eqb b newline other)

-- a longer text is closed where its tail is
closed_byte : (b : ℕ) (front : List ℕ) → b ∷ [] ≡ terminated front → b ≡ newline
closed_byte b [] is = cc
closed_byte b (x ∷ front) is = absurd (omega (arith, ap length is, length-append front (newline ∷ [])))

closed_tail : (b c : ℕ) (text front : List ℕ) → b ∷ (c ∷ text) ≡ terminated front → Closed (c ∷ text)
closed_tail b c text [] is = absurd (omega (arith, ap length is))
closed_tail b c text (x ∷ front) is = inr (front, (cc))

closed_more : (b c : ℕ) (text : List ℕ) → Closed (c ∷ text) → Closed (b ∷ (c ∷ text))
closed_more b c text (inl is) = absurd (omega (arith, ap length is))
closed_more b c text (inr last) = inr (b ∷ last.0, ap (λ xs. b ∷ xs) last.1)

lines_closed : (text : List ℕ) → Closed text → flat_map terminated (lines text) ≡ text
unfolding lines
lines_closed [] closed = refl
lines_closed (b ∷ []) (inl is) = absurd (omega (arith, ap length is))
lines_closed (b ∷ []) (inr last) = joined_newline b (closed_byte b last.0 last.1)
lines_closed (b ∷ (c ∷ text)) (inl is) = absurd (omega (arith, ap length is))
lines_closed (b ∷ (c ∷ text)) (inr last) =
    lines_joined b c text ∙ ap (λ xs. b ∷ xs) (lines_closed (c ∷ text) (closed_tail b c text last.0 last.1))

lines_unclosed : (text : List ℕ) → (Closed text → ⊥) → flat_map terminated (lines text) ≡ terminated text
lines_unclosed [] unclosed = absurd (unclosed (inl refl))
lines_unclosed (b ∷ []) unclosed = joined_byte b (λ is. unclosed (inr ([], ap (λ x. x ∷ []) is)))
lines_unclosed (b ∷ (c ∷ text)) unclosed =
    lines_joined b c text ∙ ap (λ xs. b ∷ xs) (lines_unclosed (c ∷ text) (λ closed. unclosed (closed_more b c text closed)))

pub lines_of : (text : List ℕ) → LinesOf text (lines text)
lines_of text = record { each = lines_each text; closed = lines_closed text; unclosed = lines_unclosed text }
