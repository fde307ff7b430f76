-- The count says how many bytes, up to a full part.
use Rattle.std.proofs.Common.{◌≡◌, ◌+◌, ◌-◌, min, ap, arith}
use Rattle.pack.specs.Block.{part_bytes}
use Rattle.pack.specs.Sector.{count_of, payload_of}
use Rattle.pack.proofs.sector.payload_in.Goals as goal

pub returns-clause-value : goal.returns-clause-value
unfolding part_bytes
returns-clause-value c =
    let count : 40 + c.min-count.result - 40 ≡ min (count_of c.args.sector.now) 468 = omega (arith, c.min-count.ensures, c.count_in.ensures.value) in
    ap (λ n. payload_of n c.args.sector.now) count
