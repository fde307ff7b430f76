use Rattle.std.proofs.Common.{◌≡◌, ◌≤◌, ◌++◌, length, take, drop}
use Rattle.pack.specs.Block.{block_from}
use Rattle.pack.proofs.read.Payloads.copy_to.Given as goal

abbrev pub invariant-loop-payload : goal.invariant-loop-payload
invariant-loop-payload l =
    (l.len ≤ length (block_from l.self.sectors.now))
    × (drop l.len (block_from l.self.sectors.now) ≡ block_from l.payload-iterator.sectors.now)
    × (l.out ≡ take l.len (block_from l.self.sectors.now) ++ drop l.len l.initial.out)
