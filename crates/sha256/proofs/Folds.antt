-- The rounds of a block, several at a time. Assumes nothing.
use Rattle.std.proofs.Common.{◌≡◌, ℕ, zero, suc, ◌+◌, ◌*◌, List, [], ◌∷◌, ◌++◌, length, take, drop, fold, sym, refl, ◌∙◌, ap₂, suc-mul, zero-mul, arith}
use Rattle.std.specs.List.{zip}
use Rattle.std.specs.Simd.{first_chunks}
use Rattle.std.proofs.lemmas.List.{length-drop, length-take-le, nil_from_length, take-append-drop}
use Rattle.sha256.specs.declared.state.State.{State}
use Rattle.sha256.specs.Constants.{constants}
use Rattle.sha256.specs.Rounds.{round, rounds}

pub length-constants : length constants ≡ 64
unfolding constants
length-constants = refl

-- rounds, and those that follow them
rounds-append : (s : State) (ks ws ks' ws' : List ℕ) → length ks ≡ length ws → rounds s (ks ++ ks') (ws ++ ws') ≡ rounds (rounds s ks ws) ks' ws'
rounds-append s [] [] ks' ws' same = refl
rounds-append s [] (w ∷ ws) ks' ws' same = absurd (omega arith)
rounds-append s (k ∷ ks) [] ks' ws' same = absurd (omega arith)
rounds-append s (k ∷ ks) (w ∷ ws) ks' ws' same = rounds-append (round s k w) ks ws ks' ws' (omega arith)

-- the constants and words cut into k chunks of n
pub rounds-chunks : (n k : ℕ) (s : State) (ks ws : List ℕ) → length ks ≡ k * n → length ws ≡ k * n
    → fold (λ (s : State) (p : List ℕ × List ℕ). rounds s p.0 p.1) s (zip (first_chunks n k ks) (first_chunks n k ws)) ≡ rounds s ks ws
rounds-chunks n zero s ks ws in-ks in-ws =
    let no-ks : ks ≡ [] = nil_from_length ks (omega (arith, zero-mul n)) in
    rw no-ks refl
rounds-chunks n (suc k) s ks ws in-ks in-ws =
    let more : suc k * n ≡ k * n + n = suc-mul k n in
    let same : length (take n ks) ≡ length (take n ws) = length-take-le n ks (omega arith) ∙ sym (length-take-le n ws (omega arith)) in
    rounds-chunks n k (rounds s (take n ks) (take n ws)) (drop n ks) (drop n ws) (omega (arith, length-drop n ks)) (omega (arith, length-drop n ws))
    ∙ sym (rounds-append s (take n ks) (take n ws) (drop n ks) (drop n ws) same)
    ∙ ap₂ (rounds s) (take-append-drop n ks) (take-append-drop n ws)
