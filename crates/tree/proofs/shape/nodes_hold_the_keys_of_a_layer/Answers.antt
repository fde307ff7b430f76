-- What a node holds.
use Rattle.tree.proofs.Leaves.{node_law}
use Rattle.tree.proofs.shape.nodes_hold_the_keys_of_a_layer.Goals as goal

pub returns : goal.returns
returns c = node_law
