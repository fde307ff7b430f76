-- The room holds what is kept and the tail, up to the end of the tail.
use Rattle.std.proofs.Common.{arith, rules}
use Rattle.std.proofs.lemmas.Slice.{overwrites}
use Rattle.keys.specs.Key.{key_bytes}
use Rattle.keys.proofs.key.Key.joined.Goals as goal

pub invariant_of-result : goal.invariant_of-result
invariant_of-result c = record { some = omega arith; short = omega arith; room = search (rules, overwrites) }

pub returns : goal.returns
unfolding key_bytes
returns c = (record { some = omega arith; short = omega arith }, search (rules, overwrites))
