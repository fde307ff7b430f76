-- The blocks that were written are those of the padded rest.
use Rattle.std.proofs.Common.{◌++◌, ◌∷◌, [], drop, take, replicate, length, set, ap, ◌∙◌, arith}
use Rattle.sha256.specs.Padding.{length_bytes}
use Rattle.sha256.proofs.Pads.{marked, blocks_one, blocks_two}
use Rattle.sha256.proofs.padding.pad.Goals as goal

pub returns-then-rest-lt-LENGTH_AT-clause-blocks : goal.returns-then-rest-lt-LENGTH_AT-clause-blocks
returns-then-rest-lt-LENGTH_AT-clause-blocks c =
    let rest = c.args.rest.now in
    let copied = ap (λ front. set (front ++ drop (length rest) (replicate 64 0)) (length rest) 0x80) c.copy_from_slice.ensures.after ∙ marked rest (omega arith) in
    ap (λ block. block ∷ []) (c.ended.ensures ∙ ap (λ block. take 56 block ++ length_bytes c.args.len) copied)
    ∙ blocks_one rest c.args.len c.requires c.if-rest-lt-LENGTH_AT.true

pub returns-else-rest-lt-LENGTH_AT-clause-blocks : goal.returns-else-rest-lt-LENGTH_AT-clause-blocks
returns-else-rest-lt-LENGTH_AT-clause-blocks c =
    let rest = c.args.rest.now in
    let copied = ap (λ front. set (front ++ drop (length rest) (replicate 64 0)) (length rest) 0x80) c.copy_from_slice.ensures.after ∙ marked rest (omega arith) in
    rw c.ended-else-rest-lt-LENGTH_AT.ensures
    (ap (λ block. block ∷ ((take 56 (replicate 64 0) ++ length_bytes c.args.len) ∷ [])) copied ∙ blocks_two rest c.args.len c.requires c.if-rest-lt-LENGTH_AT.false)
