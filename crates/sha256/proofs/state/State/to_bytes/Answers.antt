-- The bytes of the words, one word after the other.
use Rattle.std.proofs.Common.{◌≡◌, ◌<◌, ℕ, List, map, get_or, sym, ap, ◌∙◌, rules, arith}
use Rattle.std.specs.List.{flat_map}
use Rattle.std.proofs.lemmas.List.{get_or-map, same_lists}
use Rattle.std.proofs.lemmas.List.Folds.{flat_map-map}
use Rattle.sha256.specs.Sha256.{state_bytes, state_words}
use Rattle.sha256.specs.Words.{word_bytes}
use Rattle.sha256.proofs.state.State.to_bytes.Goals as goal

pub returns : goal.returns
unfolding state_bytes
returns c =
    let words = state_words c.args.self in
    let each : (i : ℕ) (d : List ℕ) → i < 8 → get_or c.map.result i d ≡ word_bytes (get_or words i 0)
    = λ i d below. let call = c.map.ensures.items.at i 0 d below in search rules in
    let mapped : c.map.result ≡ map word_bytes words
    = same_lists c.map.result (map word_bytes words) c.map.ensures.items.long
    (λ i d below. each i d (omega (arith, c.map.ensures.items.long)) ∙ sym (get_or-map word_bytes words i 0 d (omega (arith, c.map.ensures.items.long)))) in
    c.copy_from_slice.ensures.after ∙ c.as_flattened.ensures.value ∙ ap (flat_map (λ (x : List ℕ). x)) mapped ∙ flat_map-map (λ (x : List ℕ). x) word_bytes words
