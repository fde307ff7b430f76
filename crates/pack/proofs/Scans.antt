-- The steps of the scan. Assumes nothing.
use Rattle.std.proofs.lemmas.Grind.{common_steps}
use Rattle.std.proofs.Common.{◌≡◌, ℕ, suc, ◌+◌, ◌-◌, ◌<◌, ◌≤◌, Bool, true, false, cond, not, ◌⊎◌, List, [], ◌∷◌, ◌++◌, length, get_or, take, drop, Some, None, Ok, Err, Option, sym, refl, ap, ◌∙◌, subst, arith}
use Rattle.std.specs.List.{AllByRecursion, position, position_from}
use Rattle.std.proofs.lemmas.Iterator.Adapters.{position_from-zero}
use Rattle.std.specs.Str.{bytes_eq}
use Rattle.std.proofs.ByRecursion.{All-get_or}
use Rattle.std.proofs.lemmas.Slice.Eq.{bytes_eq-Decides}
use Rattle.std.proofs.lemmas.List.{length-take-le, take_more}
use Rattle.store.specs.Runs.{Pair}
use Rattle.pack.specs.Sector.{count_of, name_of, payload_of, unused_sector}
use Rattle.pack.specs.Pack.{Sound, blocks, named, sectors_in}
use Rattle.pack.specs.Reader.{State, between, inside, ended, Reading, good, bad, ends, goes_on, read_from, read_next, read_sectors, step}
use Rattle.pack.specs.Scan.{is_used, scanned}
use Rattle.pack.specs.declared.fault.MemoryFault.TheVariants.{BadSector}
use Rattle.pack.proofs.Bads.{Whole}
use Rattle.pack.proofs.Named.{any_blocks, any_named}
use Rattle.pack.proofs.Reaches.{In, reached_in, reached_more, reached_last, reached_start, length_name}
use Rattle.pack.proofs.Sectors.{full, ended_by}

-- what is read where only unused sectors may come, from the first used one
abbrev pub ended_reading : ℕ → Option ℕ → List Pair → ℕ → Reading
ended_reading at None pairs unused = good pairs unused
ended_reading at (Some used) pairs unused = bad (at + used)

-- a block may begin at a place
pub record Between (ss : List (List ℕ)) (at : ℕ) : Type 0 where
  pub pairs : List Pair
  pub reads : read_from (between pairs) at (drop at ss) ≡ read_sectors ss
  pub sound : Sound pairs
  pub is : take at ss ≡ blocks pairs
  pub upto : at ≤ length ss

-- a part of a block is at a place
pub record Inside (ss : List (List ℕ)) (at : ℕ) (name : List ℕ) (part : ℕ) : Type 0 where
  pub pairs : List Pair
  pub bytes : List ℕ
  pub reads : read_from (inside pairs name part bytes) at (drop at ss) ≡ read_sectors ss
  pub reached : In (suc (length ss - (at + 1))) (take at ss) pairs name part bytes
  pub within : at < length ss

-- one sector at a place
pub read_here : (state : State) (ss : List (List ℕ)) (at : ℕ) → at < length ss → read_from state at (drop at ss) ≡ read_next (step (length ss - (at + 1)) state (get_or ss at [])) (λ after. read_from after (at + 1) (drop (at + 1) ss)) at
read_here state ss at within = grind (arith, common_steps)

read_by : (state : State) (ss : List (List ℕ)) (at : ℕ) (o : Option State) → at < length ss → step (length ss - (at + 1)) state (get_or ss at []) ≡ o → read_from state at (drop at ss) ≡ read_next o (λ after. read_from after (at + 1) (drop (at + 1) ss)) at
read_by state ss at o within is = grind (arith, common_steps)

pub between_start : (ss : List (List ℕ)) → Between ss 0
between_start ss = record { pairs = []; reads = refl; sound = (reached_start 0).0; is = refl; upto = omega arith }

-- unused sectors begin here, or nothing is left
pub at_unused : (ss : List (List ℕ)) (at : ℕ) (pairs : List Pair) → (at ≡ length ss) ⊎ ((at < length ss) × (bytes_eq (get_or ss at []) unused_sector ≡ true)) → read_from (between pairs) at (drop at ss) ≡ read_from (ended pairs 0) at (drop at ss)
at_unused ss at pairs here = grind (arith, common_steps)

-- the first used sector behind them is bad
ended_from : (at : ℕ) (ss : List (List ℕ)) (k : ℕ) (pairs : List Pair) (n : ℕ) → read_from (ended pairs n) (at + k) ss ≡ ended_reading at (position_from is_used k ss) pairs (n + length ss)
ended_from at [] k pairs n = ap (good pairs) (omega arith)
ended_from at (s ∷ ss) k pairs n = by_test (again (ended_from at ss (k + 1) pairs (n + 1))) (bytes_eq s unused_sector) where
  again : read_from (ended pairs (n + 1)) (at + (k + 1)) ss ≡ ended_reading at (position_from is_used (k + 1) ss) pairs (n + 1 + length ss) → read_from (ended pairs (n + 1)) (at + k + 1) ss ≡ ended_reading at (position_from is_used (k + 1) ss) pairs (n + suc (length ss))
  again rest =
      let next : at + k + 1 ≡ at + (k + 1) = omega arith in
      let count : n + 1 + length ss ≡ n + suc (length ss) = omega arith in
      ap (λ m. read_from (ended pairs (n + 1)) m ss) next
      ∙ rest
      ∙ ap (ended_reading at (position_from is_used (k + 1) ss) pairs) count

  by_test : read_from (ended pairs (n + 1)) (at + k + 1) ss ≡ ended_reading at (position_from is_used (k + 1) ss) pairs (n + suc (length ss)) → (b : Bool) → read_next (cond b (Some (ended pairs (n + 1))) None) (λ after. read_from after (at + k + 1) ss) (at + k) ≡ ended_reading at (cond (not b) (Some k) (position_from is_used (k + 1) ss)) pairs (n + suc (length ss))
  by_test rest true = rest
  by_test rest false = refl

pub scan_ends : (ss : List (List ℕ)) (at : ℕ) (b : Between ss at) (r : Option ℕ) → (at ≡ length ss) ⊎ ((at < length ss) × (bytes_eq (get_or ss at []) unused_sector ≡ true)) → r ≡ position is_used (drop at ss) → read_sectors ss ≡ ended_reading at r b.pairs (length (drop at ss))
scan_ends ss at b r here is =
    let first : at ≡ at + 0 = omega arith in
    sym b.reads
    ∙ at_unused ss at b.pairs here
    ∙ ap (λ n. read_from (ended b.pairs 0) n (drop at ss)) first
    ∙ ended_from at (drop at ss) 0 b.pairs 0
    ∙ ap (λ o. ended_reading at o b.pairs (0 + length (drop at ss))) (sym (is ∙ position_from-zero is_used (drop at ss)))
    ∙ ap (ended_reading at r b.pairs) (omega arith)

-- the sectors of the blocks are those that were passed
pub scan_good : (ss : List (List ℕ)) (at : ℕ) (b : Between ss at) → at ≡ length (blocks b.pairs)
scan_good ss at b = sym (length-take-le at ss b.upto) ∙ ap length b.is

-- a block begins
pub inside_start : (ss : List (List ℕ)) (at : ℕ) → Between ss at → AllByRecursion Whole ss → at < length ss → bytes_eq (get_or ss at []) unused_sector ≡ false → any_named (take at ss) (name_of (get_or ss at [])) ≡ false → Inside ss at (name_of (get_or ss at [])) 0
inside_start ss at b whole within used fresh =
    let s = get_or ss at [] in
    let name = name_of s in
    let size : length s ≡ 512 = All-get_or Whole ss at [] within whole in
    let new : named b.pairs name ≡ false = sym (any_blocks b.pairs name b.sound.fit) ∙ ap (λ xs. any_named xs name) (sym b.is) ∙ fresh in
    record {
      pairs = b.pairs;
      bytes = [];
      reads = sym (read_by (between b.pairs) ss at (step (length ss - (at + 1)) (inside b.pairs name 0 []) s) within (opens new) ∙ sym (read_here (inside b.pairs name 0 []) ss at within)) ∙ b.reads;
      reached = reached_in (length ss - (at + 1)) (take at ss) b.pairs name (b.sound, b.is) (length_name s size) new;
      within = within;
    }
  where
    opens : named b.pairs (name_of (get_or ss at [])) ≡ false → step (length ss - (at + 1)) (between b.pairs) (get_or ss at []) ≡ step (length ss - (at + 1)) (inside b.pairs (name_of (get_or ss at [])) 0 []) (get_or ss at [])
    opens new = rw (used, new)

-- a name is there a second time
pub bad_name : (ss : List (List ℕ)) (at : ℕ) → Between ss at → at < length ss → bytes_eq (get_or ss at []) unused_sector ≡ false → any_named (take at ss) (name_of (get_or ss at [])) ≡ true → read_sectors ss ≡ bad at
bad_name ss at b within used twice =
    let name = name_of (get_or ss at []) in
    let old : named b.pairs name ≡ true = sym (any_blocks b.pairs name b.sound.fit) ∙ ap (λ xs. any_named xs name) (sym b.is) ∙ twice in
    let none : step (length ss - (at + 1)) (between b.pairs) (get_or ss at []) ≡ None = rw (used, old) in
    sym b.reads ∙ read_by (between b.pairs) ss at None within none

pub inside_more : (ss : List (List ℕ)) (at : ℕ) (name : List ℕ) (part : ℕ) → AllByRecursion Whole ss → Inside ss at name part → bytes_eq (name_of (get_or ss at [])) name ≡ true → goes_on (length ss - (at + 1)) part (get_or ss at []) ≡ true → Inside ss (at + 1) name (part + 1)
inside_more ss at name part whole i same more =
    let s = get_or ss at [] in
    let left : ℕ = length ss - (at + 1) in
    let size : length s ≡ 512 = All-get_or Whole ss at [] i.within whole in
    let f = full left part s more in
    let again : left ≡ suc (length ss - (at + 1 + 1)) = omega (arith, f.more) in
    let h = reached_more left (take at ss) i.pairs name part i.bytes s i.reached size ((bytes_eq-Decides (name_of s) name).0 same) f in
    record {
      pairs = i.pairs;
      bytes = i.bytes ++ payload_of 468 s;
      reads = (read_there i) ∙ i.reads;
      reached = subst (λ n. In n (take (at + 1) ss) i.pairs name (part + 1) (i.bytes ++ payload_of 468 s)) again (subst (λ xs. In left xs i.pairs name (part + 1) (i.bytes ++ payload_of 468 s)) (sym (take_more ss at [] i.within)) h);
      within = omega (arith, f.more);
    }
  where
    read_there : (i : Inside ss at name part) → read_from (inside i.pairs name (part + 1) (i.bytes ++ payload_of 468 (get_or ss at []))) (at + 1) (drop (at + 1) ss) ≡ read_from (inside i.pairs name part i.bytes) at (drop at ss)
    read_there i =
        let s = get_or ss at [] in
        let next : step (length ss - (at + 1)) (inside i.pairs name part i.bytes) s ≡ Some (inside i.pairs name (part + 1) (i.bytes ++ payload_of 468 s)) = rw (same, more) in
        sym (read_by (inside i.pairs name part i.bytes) ss at (Some (inside i.pairs name (part + 1) (i.bytes ++ payload_of 468 s))) i.within next)

pub inside_last : (ss : List (List ℕ)) (at : ℕ) (name : List ℕ) (part : ℕ) → AllByRecursion Whole ss → Inside ss at name part → bytes_eq (name_of (get_or ss at [])) name ≡ true → goes_on (length ss - (at + 1)) part (get_or ss at []) ≡ false → ends part (get_or ss at []) ≡ true → Between ss (at + 1)
inside_last ss at name part whole i same stops over =
    let s = get_or ss at [] in
    let left : ℕ = length ss - (at + 1) in
    let size : length s ≡ 512 = All-get_or Whole ss at [] i.within whole in
    let pair : Pair = record { name = name; block = i.bytes ++ payload_of (count_of s) s } in
    let h = reached_last left (take at ss) i.pairs name part i.bytes s i.reached size ((bytes_eq-Decides (name_of s) name).0 same) (ended_by part s over) in
    record {
      pairs = i.pairs ++ (pair ∷ []);
      reads = (read_there i) ∙ i.reads;
      sound = h.0;
      is = take_more ss at [] i.within ∙ h.1;
      upto = omega (arith, i.within);
    }
  where
    read_there : (i : Inside ss at name part) → read_from (between (i.pairs ++ (record { name = name; block = i.bytes ++ payload_of (count_of (get_or ss at [])) (get_or ss at []) } ∷ []))) (at + 1) (drop (at + 1) ss) ≡ read_from (inside i.pairs name part i.bytes) at (drop at ss)
    read_there i =
        let s = get_or ss at [] in
        let pairs : List Pair = i.pairs ++ (record { name = name; block = i.bytes ++ payload_of (count_of s) s } ∷ []) in
        let next : step (length ss - (at + 1)) (inside i.pairs name part i.bytes) s ≡ Some (between pairs) = rw (same, stops, over) in
        sym (read_by (inside i.pairs name part i.bytes) ss at (Some (between pairs)) i.within next)

-- the answers of the scan, over the sectors of memory
pub told_bad : (ss : List (List ℕ)) (m : List ℕ) (at : ℕ) → ss ≡ sectors_in m → read_sectors ss ≡ bad at → Err (BadSector at) ≡ scanned (read_sectors (sectors_in m))
told_bad ss m at is found = grind arith

pub told_good : (ss : List (List ℕ)) (m : List ℕ) (at : ℕ) (pairs : List Pair) (unused : ℕ) → ss ≡ sectors_in m → read_sectors ss ≡ good pairs unused → at ≡ length (blocks pairs) → Ok at ≡ scanned (read_sectors (sectors_in m))
told_good ss m at pairs unused is found size = grind arith
