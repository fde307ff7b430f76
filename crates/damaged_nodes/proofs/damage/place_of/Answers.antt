-- The first place where it stands.
use Rattle.std.proofs.Common.{rules}
use Rattle.damaged_nodes.proofs.damage.place_of.Goals as goal

pub returns : goal.returns
returns c = search rules
