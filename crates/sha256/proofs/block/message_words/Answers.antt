-- Each word is that of its chunk.
use Rattle.std.proofs.Common.{◌≡◌, ◌/◌, ℕ, suc, zero, ◌+◌, ◌<◌, ◌≤◌, [], List, map, length, get_or, sym, subst, ap, ◌∙◌, ⊎_elim, rules, arith}
use denote.Param.Members.{Mut, Called}
use Rattle.std.proofs.lemmas.Bool.{cases_order}
use Rattle.std.proofs.lemmas.List.{get_or-map, length-map, same_lists}
use Rattle.std.specs.Array.{IsFromFnResultFrom}
use Rattle.std.specs.Simd.{first_chunks}
use Rattle.sha256.specs.Rounds.{message_words}
use Rattle.sha256.specs.Words.{word}
use Rattle.sha256.proofs.block.message_words.Goals as goal

-- a closure that stays as it is and gives h of each index
from_calls : {F : Type 0} (g : Mut F (ℕ × Unit {0}) ℕ) (h : ℕ → ℕ) (f : F)
    → ((i y : ℕ) (q : F) → i < 16 → Called g f (i, tt) y q → (q ≡ f) × (y ≡ h i))
    → (ys : List ℕ) (i n : ℕ) → i + n ≤ 16 → IsFromFnResultFrom g f ys i n → (k d : ℕ) → i ≤ k → k < i + n → get_or ys k d ≡ h k
from_calls g h f calls ys i zero room all k d low high = absurd (omega arith)
from_calls {F} g h f calls ys i (suc n) room all k d low high =
    let call = calls i all.1 all.0 (omega arith) all.3 in
    let rest : IsFromFnResultFrom g f ys (i + 1) n = subst (λ (q : F). IsFromFnResultFrom g q ys (i + 1) n) call.0 all.4 in
    ⊎_elim
    (λ (here : i ≡ k). subst (λ (j : ℕ). get_or ys j d ≡ h j) here (all.2.1 d ∙ call.1))
    (λ other. ⊎_elim (λ (later : i < k). from_calls g h f calls ys (i + 1) n (omega arith) rest k d (omega arith) (omega arith)) (λ (before : k < i). absurd (omega arith)) other)
    (cases_order i k)

pub returns : goal.returns
unfolding message_words
returns c =
    let chunks = c.as_chunks.result.0.now in
    let block = c.args.block.now in
    let sixteen : chunks ≡ first_chunks 4 16 block = rw (ap (λ n. n / 4) c.told-block) at c.as_chunks.ensures.front in
    let long : length chunks ≡ 16 = omega (arith, c.as_chunks.ensures.front_len, c.told-block) in
    let each : (i d : ℕ) → i < 16 → get_or c.from_fn.result i d ≡ word (get_or chunks i [])
    = λ i d below. from_calls _ (λ k. word (get_or chunks k [])) _ (λ j y q h k. search rules) c.from_fn.result 0 16 (omega arith) c.from_fn.ensures.items.each i d (omega arith) (omega arith) in
    same_lists c.from_fn.result (map word chunks) (c.from_fn.ensures.items.long ∙ sym (length-map chunks word ∙ long))
    (λ i d below. each i d (omega (arith, c.from_fn.ensures.items.long)) ∙ sym (get_or-map word chunks i [] d (omega (arith, c.from_fn.ensures.items.long))))
    ∙ ap (map word) sixteen
