-- Nothing stands after the length.
use Rattle.std.proofs.Common.{◌≡◌, [], ◌++◌, drop, take, ap, ◌∙◌, arith}
use Rattle.std.proofs.lemmas.List.{append-nil, drop-drop, drop_all}
use Rattle.sha256.proofs.padding.ended.Goals as goal

pub returns : goal.returns
returns c =
    let block = c.args.block in
    let new = c.copy_from_slice.new.self in
    let none : drop 8 (drop 56 block) ≡ [] = drop-drop 8 56 block ∙ drop_all 64 block (omega arith) in
    ap (λ rest. take 56 block ++ (new ++ rest)) none ∙ ap (λ xs. take 56 block ++ xs) (append-nil new ∙ c.copy_from_slice.ensures.after ∙ c.length_bytes.ensures)
