-- Answering the lines of a text one by one gives its transcript. Assumes nothing.
use Rattle.std.proofs.Common.{◌≡◌, ℕ, ◌+◌, ◌<◌, ◌≤◌, ltb, List, [], ◌∷◌, ◌++◌, length, Some, None, codes, decimal, Option, sym, refl, ap, ◌∙◌, append_assoc, append-nil, arith}
use Rattle.std.proofs.lemmas.Bool.{cond-true, cond-false, lt-ltb, le-ltb}
use Rattle.digest.specs.Hex.{hex}
use Rattle.digest.specs.Kind.{Kind}
use Rattle.timetable.specs.Command.{Parses}
use Rattle.timetable.specs.Lines.{terminated, lines}
use Rattle.timetable.specs.Session.{limit, empty_node, reply, answer, answers_from, transcript}
use Rattle.timetable.specs.declared.command.Command.{Command}
use Rattle.timetable.specs.declared.command.Command.TheVariants.{Root}
use Rattle.timetable.proofs.Commands.{command_from_parses}
use Rattle.timetable.proofs.Cuts.{length-lines-le}

answer_is : (κ : Kind) (number : ℕ) (line : List ℕ) (c : Option Command) → Parses line c → answer κ number line ≡ reply κ number c
unfolding answer
answer_is κ number line c parses = ap (reply κ number) (command_from_parses line c parses)

pub answer-root : (κ : Kind) (number : ℕ) (line digits : List ℕ) (c : Command) → Parses line (Some c) → digits ≡ hex (κ.hash empty_node)
    → terminated digits ≡ answer κ number line
answer-root κ number line digits Root parses is = ap terminated is ∙ sym (answer_is κ number line (Some Root) parses)

pub answer_bad : (κ : Kind) (number : ℕ) (line : List ℕ) → Parses line None → terminated (codes "bad " ++ decimal number) ≡ answer κ number line
answer_bad κ number line parses = sym (answer_is κ number line None parses)

-- what is written, and the answers to the lines that are left, after this many, are the answers to all lines of the input
pub record Answered (κ : Kind) (input out : List ℕ) (count : ℕ) (left : List (List ℕ)) : Type 0 where
  pub all : out ++ answers_from κ (count + 1) left ≡ answers_from κ 1 (lines input)
  pub few : count + length left ≤ length input

pub answered_none : (κ : Kind) (input out : List ℕ) (count : ℕ) (left : List (List ℕ)) → out ≡ [] → count ≡ 0 → left ≡ lines input → Answered κ input out count left
answered_none κ input out count left none start is = rw (none, start, is) record { all = refl; few = omega (arith, length-lines-le input) }

pub answered_more : (κ : Kind) (input out : List ℕ) (count : ℕ) (line : List ℕ) (left left' : List (List ℕ)) (more : List ℕ) → Answered κ input out count left
    → left ≡ line ∷ left' → more ≡ out ++ answer κ (count + 1) line → Answered κ input more (count + 1) left'
unfolding answers_from
answered_more κ input out count line left left' more so_far one is = record {
  all = rw is (append_assoc out _ _ ∙ ap (λ ls. out ++ answers_from κ (count + 1) ls) (sym one) ∙ so_far.all);
  few = omega (arith, so_far.few, ap length one);
}

pub answered_all : (κ : Kind) (input out : List ℕ) (count : ℕ) (left : List (List ℕ)) → Answered κ input out count left → left ≡ []
    → length input ≤ limit → out ≡ transcript κ input
unfolding answers_from transcript
answered_all κ input out count left so_far none short =
    let end : answers_from κ (count + 1) left ≡ [] = ap (answers_from κ (count + 1)) none in
    sym (append-nil out) ∙ ap (λ xs. out ++ xs) (sym end) ∙ so_far.all ∙ sym (cond-false (ltb limit (length input)) _ _ (le-ltb limit (length input) short))

pub transcript_long : (κ : Kind) (input : List ℕ) → limit < length input → transcript κ input ≡ terminated (codes "too long")
unfolding transcript
transcript_long κ input long = cond-true (ltb limit (length input)) _ _ (lt-ltb limit (length input) long)
