-- Part after part is compared.
use Rattle.std.proofs.Common.{Some, None, sym, ◌∙◌}
use Rattle.std.proofs.lemmas.Slice.Eq.{strip_prefix_is}
use Rattle.std.proofs.lemmas.Bool.Decides.{Decides-eqb}
use Rattle.pack.specs.Block.{block_from}
use Rattle.pack.proofs.Blocks.{lent, passed, same_not}
use Rattle.pack.proofs.read.Payloads.is_block.Goals as goal

pub returns-in_default : goal.returns-in_default
returns-in_default c =
    let rest = c.loop-payload.rest.now in
    let p = c.in-Some.payload in
    let is = lent c.loop-payload.payload-iterator c.next.new.self p c.in-Some.ensures.steps in
    let other = strip_prefix_is Decides-eqb rest p.now None c.in_default.ensures.cases in
    sym (sym c.loop-payload.invariant ∙ same_not (block_from c.loop-payload.payload-iterator.sectors.now) p.now _ rest is other)

pub loop-payload-preserved : goal.loop-payload-preserved
loop-payload-preserved c =
    let rest = c.loop-payload.rest.now in
    let p = c.in-Some.payload in
    let is = lent c.loop-payload.payload-iterator c.next.new.self p c.in-Some.ensures.steps in
    let starts = strip_prefix_is Decides-eqb rest p.now (Some c.in-Some-strip_prefix.behind) c.in-Some-strip_prefix.ensures.cases in
    sym (passed (block_from c.loop-payload.payload-iterator.sectors.now) p.now _ rest c.in-Some-strip_prefix.behind.now is starts) ∙ c.loop-payload.invariant
