-- What was read is written the same.
use Rattle.std.proofs.Common.{map, ap, ◌∙◌}
use Rattle.std.proofs.lemmas.Slice.Eq.{slice_eq-Decides}
use Rattle.std.proofs.lemmas.Bool.Decides.{not_from_Decides, Decides-eqb}
use Rattle.node.specs.Values.{entry_of, link_of}
use Rattle.damaged_nodes.proofs.Handed.{same_again}
use Rattle.damaged_nodes.proofs.verdict.judge.Goals as goal

pub returns : goal.returns
returns g c =
    let reads = c.in-Some.ensures in
    not_from_Decides _ (slice_eq-Decides Decides-eqb _ _ _ c.eq.ensures) c.if-eq.false
    (c.as_slice-2.ensures.value
    ∙ c.in_ok-again.ensures
    ∙ same_again g.K.DigestKind.kind.code c.args.block.now c.in-Some.reader reads
    (link_of c.first.result) (map entry_of c.as_slice.result.now)
    (c.first.ensures reads.node reads.of_node)
    (ap (map entry_of) c.as_slice.ensures.value ∙ c.in_ok-entries.ensures reads.node reads.of_node))
