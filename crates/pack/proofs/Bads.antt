-- The reader tells good packs, and the first bad sector of all others. Assumes nothing.
use Rattle.std.proofs.Common.{◌≡◌, ℕ, zero, suc, ◌+◌, ◌-◌, ◌<◌, ◌≤◌, Bool, true, false, cond, List, [], ◌∷◌, ◌++◌, length, take, drop, replicate, Some, None, Option, sym, refl, ap, ◌∙◌, subst, arith}
use Rattle.std.specs.List.{AllByRecursion}
use Rattle.std.specs.Str.{bytes_eq}
use Rattle.std.proofs.ByRecursion.{All-append, All-take, All-drop}
use Rattle.std.proofs.lemmas.List.{append_assoc, append-nil, length-append, length-replicate, length-take-le, replicate-append-replicate, take_at}
use Rattle.store.specs.Runs.{Pair}
use Rattle.pack.specs.FirstBad.{Agrees, FirstBad}
use Rattle.pack.specs.Sector.{body, four_bytes, head, last, name_of, sector, unused_sector, weighed, zeros}
use Rattle.pack.specs.Pack.{Good, Sound, blocks, named, pack_sectors}
use Rattle.pack.specs.Reader.{State, between, inside, ended, good, bad, fewest, part_step, read_from, read_next, read_sectors, step}
use Rattle.pack.proofs.Reaches.{In, Reached, closes, reached_start, step_reached}
use Rattle.pack.proofs.Readings.{read_pack}

abbrev pub Bytes : List ℕ → Type 0
Bytes s = AllByRecursion (λ b. b < 256) s

abbrev pub Whole : List ℕ → Type 0
Whole s = length s ≡ 512

all_replicate : {X : Type 0} (P : X → Type 0) (n : ℕ) (x : X) → P x → AllByRecursion P (replicate n x)
all_replicate P zero x h = tt
all_replicate P (suc n) x h = (h, all_replicate P n x h)

bytes_zeros : (n : ℕ) → Bytes (zeros n)
unfolding zeros
bytes_zeros n = all_replicate (λ b. b < 256) n 0 (omega arith)

bytes_unused : Bytes unused_sector
unfolding unused_sector
bytes_unused = bytes_zeros 512

bytes_four : (n : ℕ) → Bytes (four_bytes n)
bytes_four n = grind arith

bytes_head : (kind part count : ℕ) → kind < 256 → Bytes (head kind part count)
bytes_head kind part count small = grind arith

-- the sector of a last part of one byte
bytes_closing : (part : ℕ) (name : List ℕ) → Bytes name → Bytes (sector last part name (0 ∷ []))
unfolding sector body
bytes_closing part name h =
    let sum = weighed 1 (body last part name (0 ∷ [])) in
    let rest : Bytes (name ++ ((0 ∷ []) ++ zeros 467)) = All-append (λ b. b < 256) name ((0 ∷ []) ++ zeros 467) h (omega arith, bytes_zeros 467) in
    All-append (λ b. b < 256) (head last part 1 ++ (name ++ ((0 ∷ []) ++ zeros 467))) (four_bytes sum) (All-append (λ b. b < 256) (head last part 1) (name ++ ((0 ∷ []) ++ zeros 467)) (bytes_head 2 part 1 (omega arith)) rest) (bytes_four sum)

-- more sectors make it a good pack
pub record Completes (left : ℕ) (xs : List (List ℕ)) : Type 0 where
  pub rest : List (List ℕ)
  pub count : length rest ≡ left
  pub bytes : AllByRecursion Bytes rest
  pub pairs : List Pair
  pub unused : ℕ
  pub sound : Sound pairs
  pub is : xs ++ rest ≡ pack_sectors pairs unused

complete_unused : (left : ℕ) (xs : List (List ℕ)) (pairs : List Pair) (n : ℕ) → Sound pairs → xs ≡ pack_sectors pairs n → Completes left xs
complete_unused left xs pairs n sound is = record {
  rest = replicate left unused_sector;
  count = length-replicate left unused_sector;
  bytes = all_replicate Bytes left unused_sector bytes_unused;
  pairs = pairs;
  unused = n + left;
  sound = sound;
  is =
      ap (λ ss. ss ++ replicate left unused_sector) is
      ∙ append_assoc (blocks pairs) (replicate n unused_sector) (replicate left unused_sector)
      ∙ ap (λ ss. blocks pairs ++ ss) (replicate-append-replicate n left unused_sector);
}

fewest_one : (n : ℕ) → fewest n ≤ 1
fewest_one n = grind arith

complete_in : (left : ℕ) (xs : List (List ℕ)) (pairs : List Pair) (name : List ℕ) (part : ℕ) (bytes : List ℕ) → Bytes name → In (suc left) xs pairs name part bytes → Completes (suc left) xs
complete_in left xs pairs name part bytes small h =
    let s = sector last part name (0 ∷ []) in
    let c = closes (suc left) xs pairs name part bytes (0 ∷ []) h (omega arith) (fewest_one part) (omega (arith, h.room)) in
    let pair : Pair = record { name = name; block = bytes ++ (0 ∷ []) } in
    record {
      rest = s ∷ replicate left unused_sector;
      count = ap suc (length-replicate left unused_sector);
      bytes = (bytes_closing part name small, all_replicate Bytes left unused_sector bytes_unused);
      pairs = pairs ++ (pair ∷ []);
      unused = left;
      sound = c.0;
      is =
          sym (append_assoc xs (s ∷ []) (replicate left unused_sector))
          ∙ ap (λ ss. ss ++ replicate left unused_sector) c.1;
    }

-- names of bytes, where one is inside a block
abbrev pub Named : State → Type 0
Named (between pairs) = Unit {0}
Named (inside pairs name part bytes) = Bytes name
Named (ended pairs n) = Unit {0}

pub complete : (left : ℕ) (xs : List (List ℕ)) (state : State) → Named state → Reached left xs state → Completes left xs
complete left xs (between pairs) small r = complete_unused left xs pairs 0 r.0 (r.1 ∙ sym (append-nil (blocks pairs)))
complete zero xs (inside pairs name part bytes) small r = absurd (omega (arith, r.more))
complete (suc left) xs (inside pairs name part bytes) small r = complete_in left xs pairs name part bytes small r
complete left xs (ended pairs n) small r = complete_unused left xs pairs n r.0 r.1

part_named : (left : ℕ) (pairs : List Pair) (name : List ℕ) (part : ℕ) (bytes s : List ℕ) (after : State) → Bytes name → part_step left pairs name part bytes s ≡ Some after → Named after
part_named left pairs name part bytes s after small is = grind arith

step-named : (left : ℕ) (state : State) (s : List ℕ) (after : State) → Bytes s → Named state → step left state s ≡ Some after → Named after
step-named left (between pairs) s after small n is = by_use (bytes_eq s unused_sector) is where
  by_name : (b : Bool) → cond b None (part_step left pairs (name_of s) 0 [] s) ≡ Some after → Named after
  by_name true i = absurd (grind arith)
  by_name false i = part_named left pairs (name_of s) 0 [] s after (All-take (λ b. b < 256) 32 (drop 8 s) (All-drop (λ b. b < 256) 8 s small)) i

  by_use : (b : Bool) → cond b (Some (ended pairs 1)) (cond (named pairs (name_of s)) None (part_step left pairs (name_of s) 0 [] s)) ≡ Some after → Named after
  by_use true i = let q : ended pairs 1 ≡ after = cc in subst Named q tt
  by_use false i = by_name (named pairs (name_of s)) i
step-named left (inside pairs name part bytes) s after small n is = part_named left pairs name part bytes s after n is
step-named left (ended pairs k) s after small n is = by_use (bytes_eq s unused_sector) is where
  by_use : (b : Bool) → cond b (Some (ended pairs (k + 1))) None ≡ Some after → Named after
  by_use true i = let q : ended pairs (k + 1) ≡ after = cc in subst Named q tt
  by_use false i = absurd (grind arith)

-- what was read is the pack of the pairs
read_all : (ss xs : List (List ℕ)) (state : State) (at : ℕ) (pairs : List Pair) (unused : ℕ) → AllByRecursion Whole ss → Reached (length ss) xs state → read_from state at ss ≡ good pairs unused → Sound pairs × (xs ++ ss ≡ pack_sectors pairs unused)
read_all [] xs (between ps) at pairs unused whole r is =
    let p : ps ≡ pairs = cc in
    let u : 0 ≡ unused = cc in
    (subst Sound p r.0, append-nil xs ∙ r.1 ∙ sym (append-nil (blocks ps)) ∙ ap (λ qs. pack_sectors qs 0) p ∙ ap (pack_sectors pairs) u)
read_all [] xs (inside ps name part bytes) at pairs unused whole r is = absurd (grind arith)
read_all [] xs (ended ps n) at pairs unused whole r is =
    let p : ps ≡ pairs = cc in
    let u : n ≡ unused = cc in
    (subst Sound p r.0, append-nil xs ∙ r.1 ∙ ap (λ qs. pack_sectors qs n) p ∙ ap (pack_sectors pairs) u)
read_all (s ∷ ss) xs state at pairs unused whole r is = by_step (λ after. read_all ss (xs ++ (s ∷ [])) after (at + 1) pairs unused whole.1) (step (length ss) state s) refl is where
  by_step : ((after : State) → Reached (length ss) (xs ++ (s ∷ [])) after → read_from after (at + 1) ss ≡ good pairs unused → Sound pairs × ((xs ++ (s ∷ [])) ++ ss ≡ pack_sectors pairs unused)) → (o : Option State) → step (length ss) state s ≡ o → read_next o (λ after. read_from after (at + 1) ss) at ≡ good pairs unused → Sound pairs × (xs ++ (s ∷ ss) ≡ pack_sectors pairs unused)
  by_step again None e i = absurd (grind arith)
  by_step again (Some after) e i =
      let h = again after (step_reached (length ss) xs state s after r whole.0 e) i in
      (h.0, sym (append_assoc xs (s ∷ []) ss) ∙ h.1)

pub read_good : (ss : List (List ℕ)) (pairs : List Pair) (unused : ℕ) → AllByRecursion Whole ss → read_sectors ss ≡ good pairs unused → Sound pairs × (ss ≡ pack_sectors pairs unused)
read_good ss pairs unused whole is = read_all ss [] (between []) 0 pairs unused whole (reached_start (length ss)) is

-- the reader stops behind where it starts
bad_behind : (ss : List (List ℕ)) (state : State) (at b : ℕ) → read_from state at ss ≡ bad b → at ≤ b
bad_behind [] (between ps) at b is = absurd (grind arith)
bad_behind [] (inside ps name part bytes) at b is = let q : at ≡ b = cc in omega arith
bad_behind [] (ended ps n) at b is = absurd (grind arith)
bad_behind (s ∷ ss) state at b is = by_step (λ after. bad_behind ss after (at + 1) b) (step (length ss) state s) is where
  by_step : ((after : State) → read_from after (at + 1) ss ≡ bad b → at + 1 ≤ b) → (o : Option State) → read_next o (λ after. read_from after (at + 1) ss) at ≡ bad b → at ≤ b
  by_step again None i = let q : at ≡ b = cc in omega arith
  by_step again (Some after) i = let h = again after i in omega arith

-- up to the sector where the reader stops, some good pack goes on
bad_before : (ss xs : List (List ℕ)) (state : State) (at b k : ℕ) → AllByRecursion Whole ss → AllByRecursion Bytes ss → Named state → Reached (length ss) xs state → read_from state at ss ≡ bad b → at + k ≤ b → Completes (length ss - k) (xs ++ take k ss)
bad_before ss xs state at b zero whole small n r is within =
    let all : length ss ≡ length ss - 0 = omega arith in
    subst (λ m. Completes m (xs ++ [])) all (subst (Completes (length ss)) (sym (append-nil xs)) (complete (length ss) xs state n r))
bad_before [] xs (between ps) at b (suc k) whole small n r is within = absurd (grind arith)
bad_before [] xs (inside ps name part bytes) at b (suc k) whole small n r is within = absurd (omega (arith, r.more))
bad_before [] xs (ended ps m) at b (suc k) whole small n r is within = absurd (grind arith)
bad_before (s ∷ ss) xs state at b (suc k) whole small n r is within = by_step (λ after m h i. bad_before ss (xs ++ (s ∷ [])) after (at + 1) b k whole.1 small.1 m h i) (step (length ss) state s) refl is where
  by_step : ((after : State) → Named after → Reached (length ss) (xs ++ (s ∷ [])) after → read_from after (at + 1) ss ≡ bad b → at + 1 + k ≤ b → Completes (length ss - k) ((xs ++ (s ∷ [])) ++ take k ss)) → (o : Option State) → step (length ss) state s ≡ o → read_next o (λ after. read_from after (at + 1) ss) at ≡ bad b → Completes (suc (length ss) - suc k) (xs ++ (s ∷ take k ss))
  by_step again None e i = let q : at ≡ b = cc in absurd (omega arith)
  by_step again (Some after) e i =
      let h = again after (step-named (length ss) state s after small.0 n e) (step_reached (length ss) xs state s after r whole.0 e) i (omega arith) in
      let count : length ss - k ≡ suc (length ss) - suc k = omega arith in
      subst (λ m. Completes m (xs ++ (s ∷ take k ss))) count (subst (Completes (length ss - k)) (append_assoc xs (s ∷ []) (take k ss)) h)

bad_within : (ss xs : List (List ℕ)) (state : State) (at b : ℕ) → AllByRecursion Whole ss → Reached (length ss) xs state → read_from state at ss ≡ bad b → b < at + length ss
bad_within [] xs (between ps) at b whole r is = absurd (grind arith)
bad_within [] xs (inside ps name part bytes) at b whole r is = absurd (omega (arith, r.more))
bad_within [] xs (ended ps n) at b whole r is = absurd (grind arith)
bad_within (s ∷ ss) xs state at b whole r is = by_step (λ after. bad_within ss (xs ++ (s ∷ [])) after (at + 1) b whole.1) (step (length ss) state s) refl is where
  by_step : ((after : State) → Reached (length ss) (xs ++ (s ∷ [])) after → read_from after (at + 1) ss ≡ bad b → b < at + 1 + length ss) → (o : Option State) → step (length ss) state s ≡ o → read_next o (λ after. read_from after (at + 1) ss) at ≡ bad b → b < at + suc (length ss)
  by_step again None e i = let q : at ≡ b = cc in omega arith
  by_step again (Some after) e i = let h = again after (step_reached (length ss) xs state s after r whole.0 e) i in omega arith

-- the reader stops at the same sector wherever the sectors up to it are the same
bad_same : (ss gs : List (List ℕ)) (state : State) (at k : ℕ) → length gs ≡ length ss → take (k + 1) gs ≡ take (k + 1) ss → read_from state at ss ≡ bad (at + k) → read_from state at gs ≡ bad (at + k)
bad_same [] [] state at k size same is = is
bad_same [] (g ∷ gs) state at k size same is = absurd (omega arith)
bad_same (s ∷ ss) [] state at k size same is = absurd (omega arith)
bad_same (s ∷ ss) (g ∷ gs) state at k size same is =
    let one : k + 1 ≡ suc k = omega arith in
    let cut : g ∷ take k gs ≡ s ∷ take k ss = subst (λ n. take n (g ∷ gs) ≡ take n (s ∷ ss)) one same in
    let heads : g ≡ s = cc in
    let tails : take k gs ≡ take k ss = cc in
    let count : length gs ≡ length ss = omega arith in
    by_step (λ after j. bad_same ss gs after (at + 1) j count) k tails (step (length ss) state s) refl (ap (λ n. step n state g) count ∙ ap (step (length ss) state) heads) is where
      by_step : ((after : State) (j : ℕ) → take (j + 1) gs ≡ take (j + 1) ss → read_from after (at + 1) ss ≡ bad (at + 1 + j) → read_from after (at + 1) gs ≡ bad (at + 1 + j)) → (j : ℕ) → take j gs ≡ take j ss → (o : Option State) → step (length ss) state s ≡ o → step (length gs) state g ≡ step (length ss) state s → read_next o (λ after. read_from after (at + 1) ss) at ≡ bad (at + j) → read_from state at (g ∷ gs) ≡ bad (at + j)
      by_step again j tails None e same_step i = ap (λ o. read_next o (λ after. read_from after (at + 1) gs) at) (same_step ∙ e) ∙ i
      by_step again zero tails (Some after) e same_step i = absurd (omega (arith, bad_behind ss after (at + 1) (at + 0) i))
      by_step again (suc j) tails (Some after) e same_step i =
          let one : j + 1 ≡ suc j = omega arith in
          let there : at + 1 + j ≡ at + suc j = omega arith in
          ap (λ o. read_next o (λ then. read_from then (at + 1) gs) at) (same_step ∙ e)
          ∙ again after j (subst (λ n. take n gs ≡ take n ss) (sym one) tails) (i ∙ ap bad (sym there))
          ∙ ap bad there

-- a good pack is read as one
pub good_read : (gs : List (List ℕ)) (g : Good gs) → read_sectors gs ≡ good g.pairs g.unused
good_read gs g = ap read_sectors g.is ∙ read_pack g.pairs g.unused g.sound

agrees : (ss : List (List ℕ)) (t : ℕ) → t < length ss → AllByRecursion Bytes ss → Completes (length ss - (t + 1)) (take (t + 1) ss) → (pack : List (List ℕ)) × Agrees ss t pack
agrees ss t within small c =
    let front = take (t + 1) ss in
    let size : length front ≡ t + 1 = length-take-le (t + 1) ss (omega arith) in (
      front ++ c.rest,
      record {
        is_good = record { pairs = c.pairs; unused = c.unused; sound = c.sound; is = c.is; bytes = All-append Bytes front c.rest (All-take Bytes (t + 1) ss small) c.bytes };
        size = length-append front c.rest ∙ omega (arith, c.count);
        same = take_at front c.rest (t + 1) size;
      },
    )

-- where the reader stops is the first bad sector
pub first_bad : (ss : List (List ℕ)) (b : ℕ) → AllByRecursion Whole ss → AllByRecursion Bytes ss → read_sectors ss ≡ bad b → FirstBad ss b
first_bad ss b whole small is =
    let zero_more : b ≡ 0 + b = omega arith in
    let behind : b < 0 + length ss = bad_within ss [] (between []) 0 b whole (reached_start (length ss)) is in
    record {
      within = omega arith;
      never = λ pack h. not_both h.is_good.pairs h.is_good.unused (sym (good_read pack h.is_good) ∙ bad_same ss pack (between []) 0 b h.size h.same (is ∙ ap bad zero_more));
      before = λ t below. agrees ss t (omega arith) small (bad_before ss [] (between []) 0 b (t + 1) whole small tt (reached_start (length ss)) is (omega arith));
    }
  where
    not_both : (pairs : List Pair) (unused : ℕ) → good pairs unused ≡ bad (0 + b) → ⊥
    not_both pairs unused e = absurd (grind arith)
