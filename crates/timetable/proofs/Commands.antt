-- A line is one command at most, and `command_of` finds it. Assumes nothing.
use Rattle.std.proofs.Common.{◌≡◌, ℕ, Bool, true, false, cond, List, Some, None, Option, sym, refl, ap, ◌∙◌}
use Rattle.std.specs.Str.{bytes_eq}
use Rattle.std.proofs.lemmas.Slice.Eq.{bytes_eq-Decides}
use Rattle.std.proofs.lemmas.Bool.Decides.{not_from_Decides}
use Rattle.timetable.specs.Command.{text_of, NoCommand, Parses, command_of}
use Rattle.timetable.specs.declared.command.Command.{Command}
use Rattle.timetable.specs.declared.command.Command.TheVariants.{Root}

text_injective : (c d : Command) → text_of c ≡ text_of d → c ≡ d
text_injective Root Root same = refl

parses_unique : (line : List ℕ) (a b : Option Command) → Parses line a → Parses line b → a ≡ b
parses_unique line (Some c) (Some d) p q = ap Some (text_injective c d (sym p ∙ q))
parses_unique line (Some c) None p q = absurd (q.never c p)
parses_unique line None (Some d) p q = absurd (p.never d q)
parses_unique line None None p q = refl

not_any : (line : List ℕ) → (line ≡ text_of Root → ⊥) → (c : Command) → line ≡ text_of c → ⊥
not_any line differs Root = differs

pub none_from_root : (line : List ℕ) → (line ≡ text_of Root → ⊥) → NoCommand line
none_from_root line differs = record { never = not_any line differs }

parses_tested : (line : List ℕ) (same : Bool) → bytes_eq line (text_of Root) ≡ same → Parses line (cond same (Some Root) None)
parses_tested line true is = (bytes_eq-Decides line (text_of Root)).0 is
parses_tested line false is = none_from_root line (not_from_Decides _ (bytes_eq-Decides line (text_of Root)) is)

command_of_parses : (line : List ℕ) → Parses line (command_of line)
command_of_parses line = parses_tested line (bytes_eq line (text_of Root)) refl

pub command_from_parses : (line : List ℕ) (a : Option Command) → Parses line a → command_of line ≡ a
command_from_parses line a p = parses_unique line (command_of line) a (command_of_parses line) p
