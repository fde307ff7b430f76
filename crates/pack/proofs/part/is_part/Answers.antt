-- Where the head is another one, so is the whole.
use Rattle.std.proofs.Common.{◌≡◌, ◌+◌, ◌-◌, length, take, drop, Decides, sym, ap, ◌∙◌, arith, rules}
use Rattle.std.proofs.lemmas.Slice.Eq.{slice_eq-Decides}
use Rattle.std.proofs.lemmas.Bool.{both_ways}
use Rattle.std.proofs.lemmas.Bool.Decides.{Decides-eqb}
use Rattle.std.proofs.lemmas.List.{length-drop, length-take}
use Rattle.pack.specs.Part.{code_of}
use Rattle.pack.specs.Sector.{head}
use Rattle.pack.proofs.Sectors.{wrong_head}
use Rattle.pack.proofs.part.is_part.Goals as goal

pub returns-else-eq : goal.returns-else-eq
returns-else-eq c =
    let s = c.args.sector.now in
    let kind = code_of c.args.kind in
    let whole : length s ≡ 512 = search rules in
    let size : length (take (40 + c.args.count - 40) (drop 40 s)) ≡ c.args.count = omega (arith, length-take (40 + c.args.count - 40) (drop 40 s), length-drop 40 s) in
    let decides : Decides c.eq.result (take 8 s ≡ c.head.result) = slice_eq-Decides Decides-eqb _ _ _ c.eq.ensures in
    let made : c.head.result ≡ head kind c.args.number c.args.count = c.head.ensures ∙ ap (head kind c.args.number) size in
    c.if-eq.false
    ∙ sym (wrong_head s kind c.args.number c.args.count whole c.requires (λ e. both_ways c.eq.result c.if-eq.false (decides.1 (e ∙ sym made))))
