-- What blocks are.
use Rattle.tree.proofs.Blocks.{block_law}
use Rattle.tree.proofs.root.blocks_fit_a_store.Goals as goal

pub returns : goal.returns
returns c = block_law
