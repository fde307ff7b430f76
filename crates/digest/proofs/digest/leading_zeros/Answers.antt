-- The words that were zero, and the words that are left, make up the zero bits of the digest.
use Rattle.std.proofs.Common.{◌≡◌, ◌<◌, [], get_or, sym, ap, ◌∙◌, arith}
use lib.Count.{count_leading_zeros, leading_le}
use Rattle.std.proofs.ByRecursion.{All-get_or}
use Rattle.std.proofs.lemmas.List.{at_drop_all}
use Rattle.std.specs.List.{flat_map}
use Rattle.digest.specs.Layer.{zero_bits}
use Rattle.digest.proofs.Zeros.{Word, words_of, word_value, big_endian, from_zero, from_word}
use Rattle.digest.proofs.digest.leading_zeros.Goals as goal

pub loop-chunk-init : goal.loop-chunk-init
loop-chunk-init c =
    let words = words_of c.args.bytes.now c.as_chunks.result.0.now c.told-bytes c.fits-bytes c.as_chunks.ensures.front in
    (words, omega arith, omega (arith, ap zero_bits words.all))

pub overflow_add-result : goal.overflow_add-result
overflow_add-result c = omega (arith, leading_le 32 c.from_be_bytes-word.result, c.loop-chunk.invariant.0.eight)

pub returns-then-word-ne0 : goal.returns-then-word-ne0
returns-then-word-ne0 c =
    let chunks = c.as_chunks.result.0.now in
    let i = c.loop-chunk.chunk-index in
    let words = c.loop-chunk.invariant.0 in
    let word = All-get_or Word chunks i [] c.loop-chunk-test.true words.each in
    let value : c.from_be_bytes-word.result ≡ big_endian (get_or chunks i []) = c.from_be_bytes-word.ensures ∙ word_value _ word.0 in
    let some : 0 < big_endian (get_or chunks i []) = omega (arith, c.if-word-ne0.true) in
    let zeros = from_word chunks i c.loop-chunk-test.true words.each some in
    record {
      value = omega (arith, ap (count_leading_zeros 32) value, c.loop-chunk.invariant.2);
      bound = omega (arith, leading_le 32 c.from_be_bytes-word.result, words.eight);
    }

pub loop-chunk-preserved : goal.loop-chunk-preserved
loop-chunk-preserved c =
    let chunks = c.as_chunks.result.0.now in
    let i = c.loop-chunk.chunk-index in
    let words = c.loop-chunk.invariant.0 in
    let word = All-get_or Word chunks i [] c.loop-chunk-test.true words.each in
    let value : c.from_be_bytes-word.result ≡ big_endian (get_or chunks i []) = c.from_be_bytes-word.ensures ∙ word_value _ word.0 in
    let zeros = from_zero chunks i c.loop-chunk-test.true words.each (sym value ∙ c.if-word-ne0.false) in
    (words, omega arith, omega (arith, c.loop-chunk.invariant.2))

pub returns : goal.returns
unfolding zero_bits
returns c =
    let chunks = c.as_chunks.result.0.now in
    let none_left = at_drop_all (λ (words : _). zero_bits (flat_map (λ word. word) words)) chunks c.loop-chunk.chunk-index c.loop-chunk-test.false in
    record { value = omega (arith, c.loop-chunk.invariant.2); bound = omega (arith, c.loop-chunk.invariant.0.eight) }
