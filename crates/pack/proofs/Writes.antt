-- The sectors of a block, written one after the other. Assumes nothing.
use Rattle.std.proofs.Common.{◌≡◌, ℕ, zero, suc, ◌+◌, ◌-◌, ◌*◌, ◌/◌, ◌<◌, ◌≤◌, List, [], ◌∷◌, ◌++◌, length, get_or, take, drop, set, sym, refl, ap, ◌∙◌, arith}
use Rattle.std.proofs.lemmas.List.{append_assoc, drop_more, drop-take, length-append, length-drop, length-take-le, set_at, take-append-drop, take-take}
use Rattle.std.specs.Simd.{first_chunks}
use Rattle.store.proofs.Chunks.{getD_chunked, length_chunked}
use Rattle.pack.specs.Lawful.{cost_least}
use Rattle.pack.specs.Pack.{block_sectors, parts, sector_cost}
use Rattle.pack.specs.Sector.{last, more_follows, sector}
use Rattle.pack.proofs.Reaches.{fulls, fulls_last, fulls_push}
use Rattle.pack.proofs.Readings.{block_cut}

-- so many full parts are written behind a place
abbrev pub so_far : List (List ℕ) → ℕ → List ℕ → List ℕ → ℕ → List (List ℕ)
so_far ss place name block part = take place ss ++ (fulls name 0 part (take (part * 468) block) ++ drop (place + part) ss)

length_fulls : (name : List ℕ) (part k : ℕ) (bytes : List ℕ) → length (fulls name part k bytes) ≡ k
length_fulls name part zero bytes = refl
length_fulls name part (suc k) bytes = ap suc (length_fulls name (part + 1) k (drop 468 bytes))

-- one sector more
set_next : (ss : List (List ℕ)) (place : ℕ) (name block w : List ℕ) (part : ℕ) → place + part < length ss → set (so_far ss place name block part) (place + part) w ≡ take place ss ++ ((fulls name 0 part (take (part * 468) block) ++ (w ∷ [])) ++ drop (place + part + 1) ss)
set_next ss place name block w part within =
    let front = take place ss in
    let done = fulls name 0 part (take (part * 468) block) in
    let rest = drop (place + part + 1) ss in
    let old = get_or ss (place + part) [] in
    let size : length (front ++ done) ≡ place + part = length-append front done ∙ omega (arith, length_fulls name 0 part (take (part * 468) block), length-take-le place ss (omega arith)) in
    let opened : so_far ss place name block part ≡ (front ++ done) ++ (old ∷ rest)
    = ap (λ x. front ++ (done ++ x)) (drop_more ss (place + part) [] within) ∙ sym (append_assoc front done (old ∷ rest)) in
    ap (λ x. set x (place + part) w) opened
    ∙ set_at (front ++ done) old rest w (place + part) size
    ∙ append_assoc front done (w ∷ rest)
    ∙ ap (λ x. front ++ x) (sym (append_assoc done (w ∷ []) rest))

pub written_more : (ss : List (List ℕ)) (place : ℕ) (name block w : List ℕ) (part : ℕ) → place + part < length ss → (part + 1) * 468 ≤ length block → w ≡ sector more_follows part name (take 468 (drop (part * 468) block)) → set (so_far ss place name block part) (place + part) w ≡ so_far ss place name block (part + 1)
written_more ss place name block w part within room is =
    let load = take 468 (drop (part * 468) block) in
    let size : length (take (part * 468) block) ≡ part * 468 = length-take-le (part * 468) block (omega arith) in
    let whole : length load ≡ 468 = length-take-le 468 (drop (part * 468) block) (omega (arith, length-drop (part * 468) block)) in
    let here : part ≡ 0 + part = omega arith in
    let w-is : w ≡ sector more_follows (0 + part) name load = is ∙ ap (λ p. sector more_follows p name load) here in
    let bytes : take (part * 468) block ++ load ≡ take ((part + 1) * 468) block = two_cuts (part * 468) 468 block ∙ ap (λ n. take n block) (omega arith) in
    let there : place + part + 1 ≡ place + (part + 1) = omega arith in
    set_next ss place name block w part within
    ∙ ap (λ x. take place ss ++ ((fulls name 0 part (take (part * 468) block) ++ (x ∷ [])) ++ drop (place + part + 1) ss)) w-is
    ∙ ap (λ x. take place ss ++ (x ++ drop (place + part + 1) ss)) (fulls_push part name 0 (take (part * 468) block) load size whole)
    ∙ ap (λ x. take place ss ++ (fulls name 0 (part + 1) x ++ drop (place + part + 1) ss)) bytes
    ∙ ap (λ n. take place ss ++ (fulls name 0 (part + 1) (take ((part + 1) * 468) block) ++ drop n ss)) there
  where
    two_cuts : (a b : ℕ) (xs : List ℕ) → take a xs ++ take b (drop a xs) ≡ take (a + b) xs
    two_cuts a b xs =
        ap (λ ys. take a xs ++ ys) (sym (drop-take a b xs))
        ∙ ap (λ ys. ys ++ drop a (take (a + b) xs)) (sym (take-take a (a + b) xs (omega arith)))
        ∙ take-append-drop a (take (a + b) xs)

-- the whole parts of a block, as it is cut
pub whole_parts : (block : List ℕ) (full : ℕ) (payloads : List (List ℕ)) → full * 468 ≤ length block → payloads ≡ first_chunks 468 (length (take (full * 468) block) / 468) (take (full * 468) block) → length payloads ≡ full
whole_parts block full payloads within is =
    ap length is ∙ length_chunked 468 (length (take (full * 468) block) / 468) (take (full * 468) block) ∙ omega (arith, length-take-le (full * 468) block within)

-- and one of them
pub whole_part : (block : List ℕ) (full part : ℕ) (payloads : List (List ℕ)) → full * 468 ≤ length block → payloads ≡ first_chunks 468 (length (take (full * 468) block) / 468) (take (full * 468) block) → part < full → get_or payloads part [] ≡ take 468 (drop (part * 468) block)
whole_part block full part payloads within is below =
    let front = take (full * 468) block in
    let more : ℕ = full * 468 - part * 468 in
    let all : full * 468 ≡ part * 468 + more = omega arith in
    ap (λ xs. get_or xs part []) is
    ∙ getD_chunked 468 (length front / 468) part front (omega (arith, length-take-le (full * 468) block within))
    ∙ ap (λ n. take 468 (drop (part * 468) (take n block))) all
    ∙ ap (take 468) (drop-take (part * 468) more block)
    ∙ take-take 468 more (drop (part * 468) block) (omega arith)

pub written_last : (ss : List (List ℕ)) (place : ℕ) (name block w : List ℕ) (full : ℕ) → full ≡ sector_cost (length block) - 1 → length block ≤ 10752 → place + sector_cost (length block) ≤ length ss → w ≡ sector last full name (drop (full * 468) block) → set (so_far ss place name block full) (place + full) w ≡ take place ss ++ (block_sectors name block ++ drop (place + sector_cost (length block)) ss)
written_last ss place name block w full count short room is =
    let cut = block_cut (length block) short in
    let some = cost_least (length block) in
    let size : length (take (full * 468) block) ≡ full * 468 = length-take-le (full * 468) block (omega (arith, cut.least)) in
    let here : full ≡ 0 + full = omega arith in
    let load = drop (full * 468) block in
    let w-is : w ≡ sector last (0 + full) name load = is ∙ ap (λ p. sector last p name load) here in
    let there : place + full + 1 ≡ place + sector_cost (length block) = omega arith in
    set_next ss place name block w full (omega arith)
    ∙ ap (λ x. take place ss ++ ((fulls name 0 full (take (full * 468) block) ++ (x ∷ [])) ++ drop (place + full + 1) ss)) w-is
    ∙ ap (λ x. take place ss ++ (x ++ drop (place + full + 1) ss)) (fulls_last full name 0 (take (full * 468) block) load size)
    ∙ ap (λ x. take place ss ++ (parts name 0 full x ++ drop (place + full + 1) ss)) (take-append-drop (full * 468) block)
    ∙ ap (λ k. take place ss ++ (parts name 0 k block ++ drop (place + full + 1) ss)) count
    ∙ ap (λ n. take place ss ++ (block_sectors name block ++ drop n ss)) there
