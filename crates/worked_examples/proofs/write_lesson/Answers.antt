-- The definitions compute, and the writer writes what they say.
use Rattle.std.proofs.Common.{[], ◌∷◌, None, refl}
use Rattle.digest.specs.Fold.{fold_hash}
use Rattle.node.specs.Decode.{decode}
use Rattle.node.specs.Format.{encode}
use Rattle.worked_examples.proofs.Lessons.{lesson_written}
use Rattle.worked_examples.proofs.write_lesson.Goals as goal

pub returns : goal.returns
unfolding fold_hash encode decode
returns c = record {
  bytes =
      lesson_written _ _ _ _
      (λ i. record { first = None; entries = record { key = c.in_ok-new.ensures.1 i; value = c.digest.ensures i; after = None } ∷ [] }) c.write_node.ensures;
  definitions = record {
    empty_node = λ code. refl;
    one_lesson = refl;
    one_lesson_length = refl;
    one_lesson_back = refl;
    shared_front = λ code value after. refl;
  };
}
