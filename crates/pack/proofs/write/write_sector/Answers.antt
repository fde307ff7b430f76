-- The sector at its place is written, and no other.
use Rattle.std.proofs.Common.{◌≡◌, ◌+◌, ◌-◌, ◌*◌, ap, ◌∙◌, arith}
use borrow.Rule.Slice.PartMut.{put_mid}
use Rattle.pack.specs.Pack.{sectors_in}
use Rattle.store.proofs.Chunks.{piece_written}
use Rattle.pack.proofs.write.write_sector.Goals as goal

pub returns : goal.returns
returns c =
    let m = c.args.memory.now in
    let at = c.args.place * 512 in
    let size : at + 512 - at ≡ 512 = omega arith in
    ap (λ w. sectors_in (put_mid at (at + 512 - at) m w)) c.copy_from_slice.ensures.after
    ∙ ap (λ n. sectors_in (put_mid at n m c.args.sector.now)) size
    ∙ piece_written 512 c.args.place m c.args.sector.now c.requires c.told-sector
