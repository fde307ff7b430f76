-- What a session answers.
--
--   limit          how many bytes a session takes
--   empty_node     the bytes of the node of the map that holds nothing
--   reply          the answer to a command, or to a line that is none
--   answer         the answer to one line
--   answers_from   the answers to lines, one after the other
--   transcript     all that a session writes
--
-- Assumes nothing.
use Rattle.std.specs.Prelude.{ℕ, ◌+◌, cond, List, [], ◌∷◌, ◌++◌, length, Some, None, codes, decimal, Option, nat_lt}
use Rattle.digest.specs.Hex.{hex}
use Rattle.digest.specs.Kind.{Kind}
use Rattle.timetable.specs.Command.{command_of}
use Rattle.timetable.specs.Lines.{terminated, lines}
use Rattle.timetable.specs.declared.command.Command.{Command}
use Rattle.timetable.specs.declared.command.Command.TheVariants.{Root}

-- 16 KiB
abbrev pub limit : ℕ
limit = 16384

-- no entries under "e", and nothing under "l"
abbrev pub empty_node : List ℕ
empty_node = 0xA2 ∷ 0x61 ∷ 0x65 ∷ 0x80 ∷ 0x61 ∷ 0x6C ∷ 0xF6 ∷ []

-- under a digest kind, at the line of this number
abbrev pub reply : Kind → ℕ → Option Command → List ℕ
reply κ number (Some Root) = terminated (hex (κ.hash empty_node))
reply κ number None = terminated (codes "bad " ++ decimal number)

-- a line that is a command is answered as that command
unfoldable pub answer : Kind → ℕ → List ℕ → List ℕ
answer κ number line = reply κ number (command_of line)

-- the first line has this number, the next the next
unfoldable pub answers_from : Kind → ℕ → List (List ℕ) → List ℕ
answers_from κ number [] = []
answers_from κ number (line ∷ rest) = answer κ number line ++ answers_from κ (number + 1) rest

-- an input over the limit is refused whole; otherwise every line is answered, and the first has number 1
unfoldable pub transcript : Kind → List ℕ → List ℕ
transcript κ input = cond (nat_lt limit (length input)) (terminated (codes "too long")) (answers_from κ 1 (lines input))
