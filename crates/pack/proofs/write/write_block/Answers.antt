-- Full parts are written one after the other, and then the last.
use Rattle.std.proofs.Common.{◌/◌, ◌≡◌, ◌+◌, ◌-◌, ◌*◌, ◌<◌, ◌≤◌, length, set, ap, ◌∙◌, arith}
use Rattle.std.specs.Simd.{first_chunks}
use Rattle.store.proofs.Chunks.{length_chunked}
use Rattle.pack.specs.Pack.{sector_cost, sectors_in}
use Rattle.pack.specs.Sector.{sector}
use Rattle.pack.proofs.Readings.{block_cut}
use Rattle.pack.proofs.Writes.{so_far, whole_part, whole_parts, written_more, written_last}
use Rattle.pack.proofs.write.write_block.Goals as goal

pub loop-number-preserved : goal.loop-number-preserved
loop-number-preserved c =
    let ss = sectors_in c.args.memory.now in
    let number = c.loop-number.number in
    let full = c.sectors_for-full.result - 1 in
    let place = c.args.place in
    let name = c.args.name.now.bytes in
    let block = c.args.block.bytes.now in
    let cut = block_cut (length block) c.args.block.short in
    let upto : full * 468 ≤ length block = omega (arith, cut.least, c.sectors_for-full.ensures) in
    let cuts = c.as_chunks.ensures.front ∙ ap (λ front. first_chunks 468 (length front / 468) front) c.split_at.ensures.front in
    let below : number < full = omega (arith, whole_parts block full c.as_chunks.result.0.now upto cuts, c.loop-number-test.true) in
    let within : place + number < length ss = omega (arith, length_chunked 512 (length c.args.memory.now / 512) c.args.memory.now, c.requires, below, c.sectors_for-full.ensures) in
    let room : (number + 1) * 468 ≤ length block = omega (arith, upto, below) in
    c.write_sector.ensures
    ∙ ap (λ xs. set xs (place + number) c.to_sector.result) c.loop-number.invariant
    ∙ written_more ss place name block c.to_sector.result number within room (c.to_sector.ensures.value ∙ ap (sector 1 number name) (whole_part block full number c.as_chunks.result.0.now upto cuts below))

pub returns-clause-after : goal.returns-clause-after
returns-clause-after c =
    let ss = sectors_in c.args.memory.now in
    let full = c.sectors_for-full.result - 1 in
    let place = c.args.place in
    let name = c.args.name.now.bytes in
    let block = c.args.block.bytes.now in
    let cut = block_cut (length block) c.args.block.short in
    let cuts = c.as_chunks.ensures.front ∙ ap (λ front. first_chunks 468 (length front / 468) front) c.split_at.ensures.front in
    let count : full ≡ sector_cost (length block) - 1 = ap (λ n. n - 1) c.sectors_for-full.ensures in
    let all = whole_parts block full c.as_chunks.result.0.now (omega (arith, cut.least, count)) cuts in
    let upto : c.loop-number.number ≡ full = omega (arith, all, c.loop-number-test.false, c.loop-number.auto.number-end) in
    let room : place + sector_cost (length block) ≤ length ss = omega (arith, length_chunked 512 (length c.args.memory.now / 512) c.args.memory.now, c.requires) in
    let w = c.to_sector-2.result in
    c.write_sector-2.ensures
    ∙ ap (λ xs. set xs (place + full) w) (c.loop-number.invariant ∙ ap (so_far ss place name block) upto)
    ∙ written_last ss place name block w full count c.args.block.short room (c.to_sector-2.ensures.value ∙ ap (sector 2 full name) c.split_at.ensures.back)
