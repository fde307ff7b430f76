-- The end of a padded message.
--
--   tail_blocks    its one block or two
--
-- Assumes nothing.
use Rattle.std.specs.Prelude.{ℕ, List, [], ◌∷◌}
use Rattle.sha256.specs.declared.padding.Tail.{Tail}
use Rattle.sha256.specs.declared.padding.Tail.TheVariants.{One, Two}

abbrev pub tail_blocks : Tail → List (List ℕ)
tail_blocks (One block) = block ∷ []
tail_blocks (Two blocks) = blocks
