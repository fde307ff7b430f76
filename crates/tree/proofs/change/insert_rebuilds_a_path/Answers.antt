-- The tree after an insert.
use Rattle.tree.proofs.Rebuilds.{insert_law}
use Rattle.tree.proofs.change.insert_rebuilds_a_path.Goals as goal

pub returns : goal.returns
returns c = insert_law
