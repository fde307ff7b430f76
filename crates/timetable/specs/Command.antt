-- What a command is as text.
--
--   text_of      the line that is a command
--   NoCommand    a line that is no command
--   Parses       which command a line is, if any
--   command_of   the same as a function
--
-- Assumes nothing.
use Rattle.std.specs.Prelude.{◌≡◌, ℕ, cond, List, Some, None, codes, Option, ◌≢◌}
use Rattle.std.specs.Str.{bytes_eq}
use Rattle.timetable.specs.declared.command.Command.{Command}
use Rattle.timetable.specs.declared.command.Command.TheVariants.{Root}

-- the line comes without its newline
abbrev pub text_of : Command → List ℕ
text_of Root = codes "root"

-- no command's text is this line
pub record NoCommand (line : List ℕ) : Type 0 where
  pub never : (c : Command) → line ≢ text_of c

-- the answer is the command whose text the line is, or none where there is no such command
abbrev pub Parses : List ℕ → Option Command → Type 0
Parses line (Some c) = line ≡ text_of c
Parses line None = NoCommand line

-- each command's text is tried in turn
abbrev pub command_of : List ℕ → Option Command
command_of line = cond (bytes_eq line (text_of Root)) (Some Root) None
