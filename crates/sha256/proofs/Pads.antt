-- The blocks of a padded rest. Assumes nothing.
use Rattle.std.proofs.Common.{◌≡◌, ℕ, suc, ◌+◌, ◌-◌, ◌%◌, ◌<◌, ◌≤◌, List, [], ◌∷◌, ◌++◌, length, take, drop, set, replicate, sym, refl, ap, ◌∙◌, arith}
use Rattle.std.proofs.lemmas.List.{append_assoc, drop-replicate, drop_at, length-append, length-replicate, replicate-append-replicate, set_at, take_all, take_at}
use Rattle.sha256.specs.Padding.{blocks, length_bytes, padding, zeros}

-- a block of zeros with the rest and a one bit written into it
pub marked : (rest : List ℕ) → length rest < 64
    → set (rest ++ drop (length rest) (replicate 64 0)) (length rest) 0x80 ≡ rest ++ (0x80 ∷ replicate (63 - length rest) 0)
marked rest short =
    let one_less : 64 - length rest ≡ suc (63 - length rest) = omega arith in
    rw (drop-replicate {X = ℕ} (length rest) 64 0, one_less) (set_at rest 0 (replicate (63 - length rest) 0) 0x80 (length rest) refl)

-- zeros, and those that follow them
split : (rest : List ℕ) (a b n : ℕ) → a + b ≡ n → rest ++ (0x80 ∷ replicate n 0) ≡ (rest ++ (0x80 ∷ replicate a 0)) ++ replicate b 0
split rest a b n sum =
    ap (λ z. rest ++ (0x80 ∷ z)) (ap (λ k. replicate k 0) (sym sum) ∙ sym (replicate-append-replicate {A = ℕ} a b 0))
    ∙ sym (append_assoc rest (0x80 ∷ replicate a 0) (replicate b 0))

one_block : (bytes : List ℕ) → length bytes ≡ 64 → blocks bytes ≡ bytes ∷ []
unfolding blocks
one_block bytes long = rw long (ap (λ b. b ∷ []) (take_all 64 bytes (omega arith)))

two_blocks : (first second : List ℕ) → length first ≡ 64 → length second ≡ 64 → blocks (first ++ second) ≡ first ∷ (second ∷ [])
unfolding blocks
two_blocks first second long also =
    let both : length (first ++ second) ≡ 128 = length-append first second ∙ omega arith in
    rw (both, take_at first second 64 long, drop_at first second 64 long) (ap (λ b. first ∷ (b ∷ [])) (take_all 64 second (omega arith)))

pub blocks_one : (rest : List ℕ) (len : ℕ) → length rest ≡ len % 64 → length rest < 56
    → (take 56 (rest ++ (0x80 ∷ replicate (63 - length rest) 0)) ++ length_bytes len) ∷ [] ≡ blocks (rest ++ padding len)
unfolding padding
blocks_one rest len left short =
    let front = rest ++ (0x80 ∷ replicate (zeros len) 0) in
    let size : length front ≡ 56 = length-append rest (0x80 ∷ replicate (zeros len) 0) ∙ omega (arith, length-replicate {A = ℕ} (zeros len) 0) in
    let whole : length (front ++ length_bytes len) ≡ 64 = length-append front (length_bytes len) ∙ omega arith in
    rw (split rest (zeros len) 8 (63 - length rest) (omega arith), take_at front (replicate 8 0) 56 size)
    (sym (one_block (front ++ length_bytes len) whole) ∙ ap blocks (append_assoc rest (0x80 ∷ replicate (zeros len) 0) (length_bytes len)))

pub blocks_two : (rest : List ℕ) (len : ℕ) → length rest ≡ len % 64 → 56 ≤ length rest
    → (rest ++ (0x80 ∷ replicate (63 - length rest) 0)) ∷ ((take 56 (replicate 64 0) ++ length_bytes len) ∷ []) ≡ blocks (rest ++ padding len)
unfolding padding
blocks_two rest len left long =
    let n = 63 - length rest in
    let front = rest ++ (0x80 ∷ replicate n 0) in
    let back = replicate 56 0 ++ length_bytes len in
    let size : length front ≡ 64 = length-append rest (0x80 ∷ replicate n 0) ∙ omega (arith, length-replicate {A = ℕ} n 0) in
    let enough : zeros len ≡ n + 56 = omega arith in
    let joined : rest ++ (0x80 ∷ (replicate (zeros len) 0 ++ length_bytes len)) ≡ front ++ back
    = sym (append_assoc rest (0x80 ∷ replicate (zeros len) 0) (length_bytes len))
    ∙ ap (λ z. z ++ length_bytes len) (split rest n 56 (zeros len) (sym enough))
    ∙ append_assoc front (replicate 56 0) (length_bytes len) in
    sym (two_blocks front back size refl) ∙ ap blocks (sym joined)
