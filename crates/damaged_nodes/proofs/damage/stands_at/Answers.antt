-- The part begins what is left of the bytes.
use Rattle.std.proofs.Common.{◌≡◌, length, take, drop, sym, ap, ◌∙◌, arith}
use Rattle.std.proofs.lemmas.Bool.Decides.{Decides-eqb}
use Rattle.std.proofs.lemmas.List.{length-drop, take_all}
use Rattle.std.proofs.lemmas.Slice.Eq.{slice_eq-Decides}
use Rattle.damaged_nodes.proofs.damage.stands_at.Goals as goal

pub returns-in-Some : goal.returns-in-Some
returns-in-Some c =
    let s = c.args.bytes.now in
    let at = c.args.at in
    let get = c.in-Some.ensures.lookup.0 in
    let rest : c.in-Some.rest.now ≡ drop at s = get.2 ∙ take_all _ (drop at s) (omega (arith, length-drop at s)) in
    let test = slice_eq-Decides Decides-eqb c.args.part.now (take (length c.args.part.now) c.in-Some.rest.now) c.starts_with.result c.starts_with.ensures.value in
    let front : take (length c.args.part.now) c.in-Some.rest.now ≡ take (length c.args.part.now) (drop at s) = ap (take (length c.args.part.now)) rest in (
      λ yes. record {
        within = omega (arith, get.0, c.starts_with.ensures.bound yes, ap length rest, length-drop at s);
        is = test.0 yes ∙ front;
      },
      λ stands. test.1 (stands.is ∙ sym front),
    )
