-- What a root tells.
use Rattle.tree.proofs.Blocks.{equal_kept_roots}
use Rattle.tree.proofs.Collisions.{equal_roots}
use Rattle.tree.proofs.root.equal_roots_mean_equal_maps.Goals as goal

pub returns : goal.returns
returns c = record { all = equal_roots; kept = equal_kept_roots }
