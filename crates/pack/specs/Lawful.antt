-- Packs are a lawful store.
--
--   whole_sectors    every sector of memory has 512 bytes
--   cost_least       a block takes at least one sector
--   FitState         what was read up to a state keeps the limits
--   pack_lawful      a pack holds blocks within the limit under names of 32 bytes
--
-- Assumes nothing.
use Rattle.std.specs.Prelude.{◌≡◌, ℕ, zero, suc, ◌+◌, ◌*◌, ◌/◌, ◌≤◌, Bool, true, false, cond, ◌&&◌, leb, List, [], ◌∷◌, ◌++◌, length, drop, Some, None, Option, ◌==◌, ◌≢◌, nat_le, refl}
use Rattle.std.proofs.Common.{sym, ap, subst, ◌∙◌, suc-mul, arith}
use Rattle.std.specs.Simd.{first_chunks}
use Rattle.std.specs.List.{AllByRecursion}
use Rattle.std.specs.Str.{bytes_eq}
use Rattle.std.proofs.ByRecursion.{All-push}
use Rattle.std.proofs.lemmas.Slice.Eq.{bytes_eq-Decides}
use Rattle.std.proofs.lemmas.List.{length-append, length-drop, length-take, length-take-le}
use Rattle.std.proofs.lemmas.Bool.{and_parts, eqb-false, leb-true}
use Rattle.store.specs.Meaning.{Lawful}
use Rattle.store.specs.Runs.{Pair}
use Rattle.pack.specs.Memory.{held_among, pack_meaning, pairs_read, reading, sectored}
use Rattle.pack.specs.Pack.{Fits, named, sector_cost, sectors_in}
use Rattle.pack.specs.Reader.{State, between, inside, ended, bad, ends, fewest, goes_on, part_step, read_from, read_next, read_sectors, step}
use Rattle.pack.specs.Sector.{count_of, last, name_of, payload_of, sector, unused_sector}

pub whole_chunks : (k : ℕ) (m : List ℕ) → k * 512 ≤ length m → AllByRecursion (λ s. length s ≡ 512) (first_chunks 512 k m)
whole_chunks zero m room = tt
whole_chunks (suc k) m room = (
  length-take-le 512 m (omega (arith, suc-mul k 512)),
  whole_chunks k (drop 512 m) (omega (arith, suc-mul k 512, length-drop 512 m)),
)

pub whole_sectors : (m : List ℕ) → AllByRecursion (λ s. length s ≡ 512) (sectors_in m)
whole_sectors m = whole_chunks (length m / 512) m (omega arith)

pub cost_least : (len : ℕ) → 1 ≤ sector_cost len
cost_least len = by_test (len == 0) refl where
  by_test : (b : Bool) → (len == 0) ≡ b → 1 ≤ cond b 1 ((len + 467) / 468)
  by_test true e = omega arith
  by_test false e = let some = eqb-false len 0 e in omega arith

abbrev FitState : State → Type 0
FitState (between pairs) = AllByRecursion Fits pairs
FitState (inside pairs name part bytes) = AllByRecursion Fits pairs × ((length name ≡ 32) × (length bytes ≤ part * 468))
FitState (ended pairs n) = AllByRecursion Fits pairs

fit-pair : (part : ℕ) (name bytes s : List ℕ) → length name ≡ 32 → length bytes ≤ part * 468 → ends part s ≡ true → Fits (record { name = name; block = bytes ++ payload_of (count_of s) s })
unfolding ends
fit-pair part name bytes s long short e =
    let same = bytes_eq s (sector last part (name_of s) (payload_of (count_of s) s)) in
    let enough = leb (fewest part) (count_of s) in
    let fits = leb (part * 468 + count_of s) 10752 in
    let a = and_parts (nat_le (count_of s) 468) (fits && (enough && same)) e in
    let b = and_parts fits (enough && same) a.1 in
    let room = leb-true (part * 468 + count_of s) 10752 b.0 in
    record {
      name_length = long;
      block_length = omega (arith, length-append bytes (payload_of (count_of s) s), length-take (count_of s) (drop 40 s));
    }

none_some : (after : State) → None ≢ Some after
none_some after e = let z : ◌≡◌ {A = ℕ} 0 1 = cc in omega arith

part_fits : (left : ℕ) (pairs : List Pair) (name : List ℕ) (part : ℕ) (bytes s : List ℕ) (after : State) → AllByRecursion Fits pairs → length name ≡ 32 → length bytes ≤ part * 468 → part_step left pairs name part bytes s ≡ Some after → FitState after
part_fits left pairs name part bytes s after fit long short is = by_name (bytes_eq (name_of s) name) is where
  by_end : (b : Bool) → ends part s ≡ b → cond b (Some (between (pairs ++ (record { name = name; block = bytes ++ payload_of (count_of s) s } ∷ [])))) None ≡ Some after → FitState after
  by_end true e i =
      let q : between (pairs ++ (record { name = name; block = bytes ++ payload_of (count_of s) s } ∷ [])) ≡ after = cc in
      subst FitState q (All-push Fits pairs (record { name = name; block = bytes ++ payload_of (count_of s) s }) fit (fit-pair part name bytes s long short e))
  by_end false e i = absurd (none_some after i)

  by_more : (b : Bool) → cond b (Some (inside pairs name (part + 1) (bytes ++ payload_of 468 s))) (cond (ends part s) (Some (between (pairs ++ (record { name = name; block = bytes ++ payload_of (count_of s) s } ∷ [])))) None) ≡ Some after → FitState after
  by_more true i =
      let q : inside pairs name (part + 1) (bytes ++ payload_of 468 s) ≡ after = cc in
      subst FitState q (fit, (long, omega (arith, length-append bytes (payload_of 468 s), length-take 468 (drop 40 s))))
  by_more false i = by_end (ends part s) refl i

  by_name : (b : Bool) → cond b (cond (goes_on left part s) (Some (inside pairs name (part + 1) (bytes ++ payload_of 468 s))) (cond (ends part s) (Some (between (pairs ++ (record { name = name; block = bytes ++ payload_of (count_of s) s } ∷ [])))) None)) None ≡ Some after → FitState after
  by_name true i = by_more (goes_on left part s) i
  by_name false i = absurd (none_some after i)

step_fits : (left : ℕ) (state : State) (s : List ℕ) (after : State) → length s ≡ 512 → FitState state → step left state s ≡ Some after → FitState after
step_fits left (between pairs) s after whole fit is = by_use (bytes_eq s unused_sector) is where
  by_name : (b : Bool) → cond b None (part_step left pairs (name_of s) 0 [] s) ≡ Some after → FitState after
  by_name true i = absurd (none_some after i)
  by_name false i = part_fits left pairs (name_of s) 0 [] s after fit (length-take-le 32 (drop 8 s) (omega (arith, length-drop 8 s))) (omega arith) i

  by_use : (b : Bool) → cond b (Some (ended pairs 1)) (cond (named pairs (name_of s)) None (part_step left pairs (name_of s) 0 [] s)) ≡ Some after → FitState after
  by_use true i = let q : ended pairs 1 ≡ after = cc in subst FitState q fit
  by_use false i = by_name (named pairs (name_of s)) i
step_fits left (inside pairs name part bytes) s after whole fit is = part_fits left pairs name part bytes s after fit.0 fit.1.0 fit.1.1 is
step_fits left (ended pairs n) s after whole fit is = by_use (bytes_eq s unused_sector) is where
  by_use : (b : Bool) → cond b (Some (ended pairs (n + 1))) None ≡ Some after → FitState after
  by_use true i = let q : ended pairs (n + 1) ≡ after = cc in subst FitState q fit
  by_use false i = absurd (none_some after i)

read_fits : (ss : List (List ℕ)) (state : State) (at : ℕ) → AllByRecursion (λ s. length s ≡ 512) ss → FitState state → AllByRecursion Fits (pairs_read (read_from state at ss))
read_fits [] (between pairs) at whole fit = fit
read_fits [] (inside pairs name part bytes) at whole fit = tt
read_fits [] (ended pairs n) at whole fit = fit
read_fits (s ∷ ss) state at whole fit = by_step (λ after. read_fits ss after (at + 1) whole.1) (step (length ss) state s) refl where
  by_step : ((after : State) → FitState after → AllByRecursion Fits (pairs_read (read_from after (at + 1) ss))) → (o : Option State) → step (length ss) state s ≡ o → AllByRecursion Fits (pairs_read (read_next o (λ after. read_from after (at + 1) ss) at))
  by_step again None e = tt
  by_step again (Some after) e = again after (step_fits (length ss) state s after whole.0 fit e)

memory_fits : (m : List ℕ) → AllByRecursion Fits (pairs_read (reading m))
unfolding reading
memory_fits m = by_size (sectored m) where
  by_size : (b : Bool) → AllByRecursion Fits (pairs_read (cond b (read_sectors (sectors_in m)) (bad 0)))
  by_size true = read_fits (sectors_in m) (between []) 0 (whole_sectors m) tt
  by_size false = tt

fits_held : (ps : List Pair) (name block : List ℕ) → AllByRecursion Fits ps → held_among ps name ≡ Some block → (length name ≡ 32) × (length block ≤ 10752)
fits_held [] name block fit is = let z : ◌≡◌ {A = ℕ} 0 1 = cc in absurd (omega arith)
fits_held (p ∷ ps) name block fit is = by_test (fits_held ps name block fit.1) (bytes_eq p.name name) refl is where
  by_test : (held_among ps name ≡ Some block → (length name ≡ 32) × (length block ≤ 10752)) → (b : Bool) → bytes_eq p.name name ≡ b → cond b (Some p.block) (held_among ps name) ≡ Some block → (length name ≡ 32) × (length block ≤ 10752)
  by_test again true e i =
      let own : p.block ≡ block = cc in
      let same : p.name ≡ name = (bytes_eq-Decides p.name name).0 e in
      (ap length (sym same) ∙ fit.0.name_length, omega (arith, ap length own, fit.0.block_length))
  by_test again false e i = again i

pub pack_lawful : (memory : List ℕ) → Lawful (pack_meaning memory)
pack_lawful memory =
    let ps = pairs_read (reading memory) in
    record {
      name_length = λ name block is. (fits_held ps name block (memory_fits memory) is).0;
      block_length = λ name block is. (fits_held ps name block (memory_fits memory) is).1;
      cost_least = cost_least;
    }
