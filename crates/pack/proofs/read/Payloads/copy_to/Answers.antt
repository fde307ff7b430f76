-- Part after part is copied.
use Rattle.std.proofs.Common.{◌+◌, ◌≤◌, length, refl, ap, ◌∙◌, arith, rules}
use Rattle.pack.specs.Block.{block_from}
use Rattle.pack.proofs.Blocks.{copied, copied_all, lent, next}
use Rattle.pack.proofs.read.Payloads.copy_to.Goals as goal

pub slice_bounds-copy_from_slice-end : goal.slice_bounds-copy_from_slice-end
slice_bounds-copy_from_slice-end c =
    let b = block_from c.args.self.sectors.now in
    let p = c.in-Some.payload in
    let n = next b p.now _ c.loop-payload.len c.loop-payload.invariant.0 (c.loop-payload.invariant.1 ∙ lent c.loop-payload.payload-iterator c.next.new.self p c.in-Some.ensures.steps) in
    let room : c.loop-payload.len + length p.now ≤ length c.loop-payload.out = omega (arith, n.room, c.requires.short, c.loop-payload.auto.out) in
    search rules

pub loop-payload-preserved : goal.loop-payload-preserved
loop-payload-preserved c =
    let b = block_from c.args.self.sectors.now in
    let p = c.in-Some.payload in
    let len = c.loop-payload.len in
    let rest = block_from c.next.new.self.sectors.now in
    let is = c.loop-payload.invariant.1 ∙ lent c.loop-payload.payload-iterator c.next.new.self p c.in-Some.ensures.steps in
    let n = next b p.now rest len c.loop-payload.invariant.0 is in
    (n.room, n.back, copied b p.now rest c.copy_from_slice.new.self c.loop-payload.out c.args.out.now len (len + length p.now) c.loop-payload.invariant.0 is c.loop-payload.invariant.2 c.copy_from_slice.ensures.after refl)

pub returns : goal.returns
returns c =
    let all = copied_all (block_from c.args.self.sectors.now) c.args.out.now c.loop-payload.out c.loop-payload.len c.loop-payload.invariant.0 (c.loop-payload.invariant.1 ∙ ap block_from c.in-None.ensures.steps.0) c.loop-payload.invariant.2 in
    record { len = all.0; after = all.1 }
