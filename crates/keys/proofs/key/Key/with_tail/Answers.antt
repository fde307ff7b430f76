-- The bytes kept are the key's own, as no more are kept than it has.
use Rattle.std.proofs.Common.{◌≤◌, ◌++◌, sym, ap, arith}
use Rattle.std.proofs.lemmas.List.{take-take}
use Rattle.keys.specs.Key.{key_bytes}
use Rattle.keys.proofs.Keys.{length-key_bytes, made_like}
use Rattle.keys.proofs.key.Key.with_tail.Goals as goal

pub returns-then-keep-self : goal.returns-then-keep-self
returns-then-keep-self c = λ joins. omega (arith, joins.within, length-key_bytes c.args.self.now)

pub returns : goal.returns
unfolding key_bytes
returns c =
    let key = c.args.self.now in
    let keep = c.args.keep in
    let within : keep ≤ key.len = omega arith in
    let kept = take-take keep key.len key.bytes within in
    let size = length-key_bytes key in
    made_like c.joined.result _ _ _ _
    (λ sized. record { within = omega arith; sized = sized })
    (λ joins. joins.sized)
    (ap (λ front. front ++ c.args.tail.now) (sym kept))
    c.joined.ensures
