-- The laws of maps.
use Rattle.tree.proofs.Maps.{map_laws}
use Rattle.tree.proofs.map.maps_keep_what_they_are_told.Goals as goal

pub returns : goal.returns
returns c = map_laws
