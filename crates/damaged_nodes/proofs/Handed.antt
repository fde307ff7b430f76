-- What was read is written again as it was. Assumes nothing.
use Rattle.std.proofs.Common.{◌≡◌, ℕ, List, Option, Result, Ok, Err, IfOk, sym, ap, ◌∙◌}
use Rattle.node.specs.Format.{encode}
use Rattle.node.specs.Format as format
use Rattle.node_reader.specs.Reader.{Reads}
use Rattle.node_reader.specs.declared.reader.NodeReader.{NodeReader}

-- what holds of an answer under each premise
pub ok_each : {X E N : Type 0} (r : Result X E) (Q : N → Type 0) (P : X → N → Type 0) → ((n : N) → Q n → IfOk r (λ x. P x n)) → IfOk r (λ x. (n : N) → Q n → P x n)
ok_each (Ok x) Q P each = λ n q. each n q
ok_each (Err e) Q P each = tt

pub same_again : (c : ℕ) (s : List ℕ) (r : NodeReader) (reads : Reads c s r) (first : Option (List ℕ)) (es : List format.Entry) →
    first ≡ reads.node.first → es ≡ reads.node.entries → encode c (record { first = first; entries = es }) ≡ s
same_again c s r reads first es e f =
    ap (λ (x : Option (List ℕ)). encode c (record { first = x; entries = es })) e
    ∙ ap (λ (x : List format.Entry). encode c (record { first = reads.node.first; entries = x })) f
    ∙ ap (λ (k : ℕ). encode k reads.node) (sym reads.kind)
    ∙ sym reads.of_node.encodes.is
    ∙ reads.block
