-- The tree after a delete.
use Rattle.tree.proofs.Rebuilds.{delete_law}
use Rattle.tree.proofs.change.delete_rebuilds_a_path.Goals as goal

pub returns : goal.returns
returns c = delete_law
