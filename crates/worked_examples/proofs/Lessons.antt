-- What the writer answers to the lesson. Assumes nothing.
use Rattle.std.proofs.Common.{◌≡◌, ℕ, ◌<◌, ◌≤◌, List, length, take, Some, None, Option, sym, refl, ap, ◌∙◌, ⊎_elim, arith, MatchOption}
use Rattle.std.proofs.lemmas.List.{length-take-le}
use Rattle.std.proofs.lemmas.Bool.{cases_lt}
use Rattle.digest.specs.Fold.{fold, fold_hash}
use Rattle.node.specs.Format.{Node, encode}
use Rattle.node_writer.specs.Answer.{Ended, Refused}
use Rattle.worked_examples.specs.Nodes.{lesson, lesson_bytes}

lesson_encoded : encode fold.code lesson ≡ lesson_bytes
unfolding fold_hash encode
lesson_encoded = refl

pub lesson_written : (r : Option ℕ) (s t : List ℕ) (n : Node) → n ≡ lesson → MatchOption r (Refused s t 1) (λ end. Ended s t 0 n end)
    → MatchOption r (length s < 10752) (λ end. (end ≡ 61) × (take end t ≡ lesson_bytes))
lesson_written None s t n is refused =
    ⊎_elim (λ (short : length s < 10752). short) (λ (enough : 10752 ≤ length s). absurd (refused.never (record { room = enough; few = omega arith }))) (cases_lt (length s) 10752)
lesson_written (Some end) s t n is ended =
    let bytes = ended.bytes ∙ ap (encode 0) is ∙ lesson_encoded in
    let size = length-take-le end t (omega (arith, ended.kept.size, ended.bound, ended.roomy.room)) in
    (sym size ∙ ap length bytes, bytes)
