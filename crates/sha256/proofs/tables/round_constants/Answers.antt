-- The table is computed from its rule, as a whole.
use Rattle.std.proofs.Common.{refl}
use Rattle.sha256.specs.Constants.{constants}
use Rattle.sha256.proofs.Roots.{constants_rule}
use Rattle.sha256.proofs.tables.round_constants.Goals as goal

pub returns : goal.returns
unfolding constants
returns c = record { value = refl; rule = constants_rule }
