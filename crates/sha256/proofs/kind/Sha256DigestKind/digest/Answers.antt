-- The whole blocks, and those of the padded rest, are the blocks of the padded message.
use Rattle.std.proofs.Common.{◌≡◌, ◌*◌, ◌/◌, ◌++◌, length, drop, sym, ap, ◌∙◌}
use Rattle.std.proofs.lemmas.List.Sums.{fold-append}
use Rattle.std.specs.Simd.{first_chunks}
use Rattle.sha256.specs.Padding.{blocks, padding}
use Rattle.sha256.specs.Rounds.{compress, compress_all}
use Rattle.sha256.specs.Sha256.{sha256_hash, start, state_bytes}
use Rattle.sha256.proofs.Chunks.{blocks-padded}
use Rattle.sha256.proofs.kind.Sha256DigestKind.digest.Goals as goal

pub returns : goal.returns
unfolding sha256_hash blocks
returns c =
    let message = c.args.message.now in
    let whole = first_chunks 64 (length message / 64) message in
    let tail = drop (length message / 64 * 64) message ++ padding (length message) in
    let last : c.as_blocks-last.result.now ≡ blocks tail
    = c.as_blocks-last.ensures ∙ c.pad-tail.ensures.blocks ∙ ap (λ rest. blocks (rest ++ padding (length message))) c.as_chunks.ensures.back in
    let state : c.compress_all-state.result ≡ compress_all start whole = c.compress_all-state.ensures ∙ rw (c.start_state.ensures.value, c.as_chunks.ensures.front) in
    let end : c.compress_all.result ≡ compress_all start (whole ++ blocks tail)
    = c.compress_all.ensures ∙ rw (state, last) (sym (fold-append compress start whole (blocks tail))) in
    c.to_bytes.ensures ∙ ap state_bytes (end ∙ ap (compress_all start) (sym (blocks-padded message)))
