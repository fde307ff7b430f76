use Rattle.std.proofs.Common.{◌≡◌, ◌+◌, ◌*◌}
use Rattle.digest.specs.Layer.{zero_bits}
use Rattle.digest.proofs.Zeros.{Words, from}
use Rattle.digest.proofs.digest.leading_zeros.Given as goal

abbrev pub invariant-loop-chunk : goal.invariant-loop-chunk
invariant-loop-chunk l =
    Words l.bytes l.chunks
    × (l.zeros ≡ 32 * l.chunk-index)
    × (l.zeros + zero_bits (from l.chunk-index l.chunks) ≡ zero_bits l.bytes)
