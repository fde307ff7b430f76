-- The place of the first entry that has the key.
use Rattle.std.proofs.Common.{◌∙◌, rules, tests}
use Rattle.std.specs.Str.{bytes_eq}
use Rattle.std.proofs.lemmas.Iterator.Search.{position_from_yields_List}
use Rattle.node_reader.proofs.Finds.{yields_entries, position-place}
use Rattle.node_reader.proofs.reader.NodeReader.find.Goals as goal

pub returns : goal.returns
returns c n of =
    position_from_yields_List (λ e. bytes_eq e.key c.args.key.now) _ _ c.position.result c.position.ensures.ran (yields_entries c.entries.result n (c.entries.ensures.left n of)) (λ x b q k. search (rules, tests))
    ∙ position-place c.args.key.now n.entries
