use Rattle.std.proofs.Common.{◌≡◌}
use Rattle.std.specs.Str.{bytes_eq}
use Rattle.pack.specs.Block.{block_from}
use Rattle.pack.proofs.read.Payloads.is_block.Given as goal

abbrev pub invariant-loop-payload : goal.invariant-loop-payload
invariant-loop-payload l = bytes_eq (block_from l.payload-iterator.sectors.now) l.rest ≡ bytes_eq (block_from l.self.sectors.now) l.block
