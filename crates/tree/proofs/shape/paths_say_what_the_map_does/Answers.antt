-- What paths tell.
use Rattle.tree.proofs.Lookups.{path_law}
use Rattle.tree.proofs.shape.paths_say_what_the_map_does.Goals as goal

pub returns : goal.returns
returns c = path_law
