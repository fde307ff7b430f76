-- The entries that the reader gives are those of its node.
use Rattle.std.proofs.Common.{◌≡◌, map, vec_items}
use Rattle.std.proofs.lemmas.Iterator.Consumers.{map_from_collect}
use Rattle.node.specs.Format.{Node}
use Rattle.node.specs.Values.{entry_of}
use Rattle.node_reader.specs.Reader.{OfNode}
use Rattle.node_reader.proofs.Finds.{yields_entries}
use Rattle.damaged_nodes.proofs.Handed.{ok_each}
use Rattle.damaged_nodes.proofs.verdict.entries_of.Goals as goal

pub returns : goal.returns
returns c =
    ok_each c.collect.result (OfNode c.args.reader.now) (λ v (n : Node). map entry_of (vec_items v) ≡ n.entries)
    (λ n of. map_from_collect c.collect.result c.collect.ensures.ran (yields_entries c.entries.result n (c.entries.ensures.left n of)))
