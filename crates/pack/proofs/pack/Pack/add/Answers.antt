-- The block takes the first unused sectors.
use Rattle.std.proofs.Common.{◌/◌, ◌+◌, ◌≤◌, length, sym, ap, ◌∙◌, arith, rules}
use Rattle.store.specs.Calls.{left_by}
use Rattle.store.proofs.Outcomes.{outcome_added}
use Rattle.pack.specs.Memory.{free_in, free_read, pack_meaning}
use Rattle.pack.specs.Pack.{sector_cost}
use Rattle.store.proofs.Chunks.{length_chunked}
use Rattle.pack.proofs.Stores.{added_read, known, meaning_written, used_written}
use Rattle.pack.proofs.pack.Pack.add.Goals as goal

pub write_block-requires : goal.write_block-requires
write_block-requires c =
    let s = c.args.self.now in
    let m = s.memory.now in
    omega (arith, (known m).room, length_chunked 512 (length m / 512) m, c.sectors_for-cost.ensures, s.filled, s.vacant)

pub overflow_add-self : goal.overflow_add-self
overflow_add-self c =
    let s = c.args.self.now in
    let m = s.memory.now in
    let room : s.used + c.sectors_for-cost.result ≤ length m = omega (arith, (known m).room, length_chunked 512 (length m / 512) m, s.filled, s.vacant, c.if-cost-self.false) in
    search rules

pub invariant_of-self : goal.invariant_of-self
invariant_of-self c =
    let s = c.args.self.now in
    let m = s.memory.now in
    let n = c.write_block.new.memory in
    let name = c.args.name.now.bytes in
    let block = c.args.block.bytes.now in
    let is = added_read m n s.used s.free c.sectors_for-cost.result name block s.filled s.vacant c.sectors_for-cost.ensures c.if-cost-self.false c.write_block.auto.memory c.write_block.ensures.name_size c.args.block.short c.requires c.write_block.ensures.after in
    record {
      filled = omega (arith, used_written m n name block is, s.filled, c.sectors_for-cost.ensures);
      vacant = omega (arith, ap free_read is, s.vacant, c.sectors_for-cost.ensures);
    }

pub returns-clause-after : goal.returns-clause-after
returns-clause-after c =
    let s = c.args.self.now in
    let m = s.memory.now in
    let name = c.args.name.now.bytes in
    let block = c.args.block.bytes.now in
    let is = added_read m c.write_block.new.memory s.used s.free c.sectors_for-cost.result name block s.filled s.vacant c.sectors_for-cost.ensures c.if-cost-self.false c.write_block.auto.memory c.write_block.ensures.name_size c.args.block.short c.requires c.write_block.ensures.after in
    let room : sector_cost (length block) ≤ free_in m = omega (arith, c.if-cost-self.false, c.sectors_for-cost.ensures, s.vacant) in
    let o = outcome_added (pack_meaning m) name block c.args.block.short c.requires room in
    meaning_written m c.write_block.new.memory name block c.requires is ∙ sym (ap (λ k. left_by k (pack_meaning m) name block) o)
