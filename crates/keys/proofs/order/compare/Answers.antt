-- The library's order of lists is this one.
use Rattle.keys.proofs.Orders.{before_strict, ranked_from_slice_cmp}
use Rattle.keys.proofs.order.compare.Goals as goal

pub returns : goal.returns
returns c = record { value = ranked_from_slice_cmp c.args.a.now c.args.b.now _ c.cmp.ensures; strict = before_strict }
