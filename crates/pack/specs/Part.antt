-- The kinds of a part.
--
--   code_of   the byte that stands for a kind
--
-- Assumes nothing.
use Rattle.std.specs.Prelude.{ℕ}
use Rattle.pack.specs.Sector.{more_follows, last}
use Rattle.pack.specs.declared.part.PartKind.{PartKind}
use Rattle.pack.specs.declared.part.PartKind.TheVariants.{MoreFollows, Last}

abbrev pub code_of : PartKind → ℕ
code_of MoreFollows = more_follows
code_of Last = last
