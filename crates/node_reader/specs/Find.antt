-- The place of a key among entries.
--
--   place   the place of the first entry with a key, if there is one
--   moved   a place, counted from earlier
--
-- Assumes nothing.
use Rattle.std.specs.Prelude.{ℕ, ◌+◌, cond, List, [], ◌∷◌, Some, None, Option}
use Rattle.std.specs.Str.{bytes_eq}
use Rattle.node.specs.Format.{Entry}

abbrev pub moved : ℕ → Option ℕ → Option ℕ
moved n None = None
moved n (Some i) = Some (n + i)

abbrev pub place : List ℕ → List Entry → Option ℕ
place key [] = None
place key (e ∷ es) = cond (bytes_eq e.key key) (Some 0) (moved 1 (place key es))
