-- Nodes of parts and of the whole.
use Rattle.tree.proofs.Splits.{split-join}
use Rattle.tree.proofs.shape.nodes_split_and_join.Goals as goal

pub returns : goal.returns
returns c = split-join
