use Rattle.std.proofs.Common.{◌+◌, ◌*◌, ◌<◌, length, refl, arith}
use Rattle.std.proofs.lemmas.List.{length-set}
use Rattle.digest.proofs.Digits.{written_more, written_all}
use Rattle.digest.proofs.digest.Digest.to_hex.Goals as goal

pub loop-i-init : goal.loop-i-init
loop-i-init c = (refl, refl)

pub loop-i-preserved : goal.loop-i-preserved
loop-i-preserved c =
    let bytes = c.args.self.now.bytes in
    let within : c.loop-i.i < length bytes = omega arith in
    let room : 2 * c.loop-i.i + 1 < length c.loop-i.text = omega arith in (
      simp length-set c.loop-i.invariant.0,
      rw (c.digit.ensures, c.digit-in-loop-i.ensures) (written_more bytes c.loop-i.text c.loop-i.i within room c.loop-i.invariant.1),
    )

pub returns : goal.returns
returns c =
    written_all c.args.self.now.bytes c.loop-i.text c.loop-i.i (omega arith) (omega arith) c.loop-i.invariant.1
