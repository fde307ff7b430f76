-- The table is computed from its rule, as a whole.
use Rattle.std.proofs.Common.{refl}
use Rattle.sha256.specs.Constants.{start_words}
use Rattle.sha256.specs.Sha256.{start}
use Rattle.sha256.proofs.Roots.{start_words_rule}
use Rattle.sha256.proofs.tables.start_state.Goals as goal

pub returns : goal.returns
unfolding start start_words
returns c = record { value = refl; rule = start_words_rule }
