use Rattle.std.proofs.Common.{◌≡◌}
use Rattle.pack.specs.Pack.{sectors_in}
use Rattle.pack.proofs.Writes.{so_far}
use Rattle.pack.proofs.write.write_block.Given as goal

abbrev pub invariant-loop-number : goal.invariant-loop-number
invariant-loop-number l = sectors_in l.memory ≡ so_far (sectors_in l.initial.memory) l.place l.name.bytes l.block.bytes.now l.number
