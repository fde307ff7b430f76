-- The rounds of the chunks are those of the block.
use Rattle.std.proofs.Common.{◌≡◌, List, ℕ, fold, length, ap, ◌∙◌, rules, arith}
use Rattle.std.specs.List.{zip}
use Rattle.std.specs.Simd.{first_chunks}
use Rattle.std.proofs.lemmas.Iterator.{YieldsList-from_slice, YieldsList-from_zip}
use Rattle.std.proofs.lemmas.Iterator.Consumers.{fold_from_yields_List}
use Rattle.sha256.specs.declared.state.State.{State}
use Rattle.sha256.specs.Constants.{constants}
use Rattle.sha256.specs.Rounds.{add_states, compress, rounds}
use Rattle.sha256.proofs.Folds.{length-constants, rounds-chunks}
use Rattle.sha256.proofs.block.compress.Goals as goal

pub returns : goal.returns
unfolding compress
returns c =
    let words = c.schedule-words.result in
    let step : State → List ℕ × List ℕ → State = λ s p. rounds s p.0 p.1 in
    let state : c.fold-state.result ≡ fold step c.args.start (zip c.as_chunks.result.0.now c.as_chunks-2.result.0.now)
    = fold_from_yields_List _ step c.args.start c.fold-state.result c.fold-state.ensures.ran
    (YieldsList-from_zip (YieldsList-from_slice c.as_chunks.result.0.now (search rules)) (YieldsList-from_slice c.as_chunks-2.result.0.now (search rules)))
    (λ a x b q k. search rules) in
    let cut-constants : c.as_chunks.result.0.now ≡ first_chunks 8 8 constants
    = rw (c.round_constants.ensures.value, length-constants) at c.as_chunks.ensures.front in
    let long : length words ≡ 64 = omega arith in
    let cut-words : c.as_chunks-2.result.0.now ≡ first_chunks 8 8 words = rw long at c.as_chunks-2.ensures.front in
    let all : fold step c.args.start (zip c.as_chunks.result.0.now c.as_chunks-2.result.0.now) ≡ rounds c.args.start constants words
    = rw (cut-constants, cut-words) (rounds-chunks 8 8 c.args.start constants words length-constants long) in
    c.add.ensures ∙ ap (add_states c.args.start) (state ∙ all ∙ ap (rounds c.args.start constants) c.schedule-words.ensures)
