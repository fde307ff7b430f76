-- What memory means as a store, before and after a block is written. Assumes nothing.
use Rattle.std.proofs.Common.{◌≡◌, ℕ, ◌+◌, ◌-◌, ◌/◌, ◌%◌, ◌<◌, ◌≤◌, Bool, true, false, cond, ◌&&◌, ◌||◌, eqb, ltb, List, [], ◌∷◌, ◌++◌, length, take, drop, replicate, Some, None, Ok, Err, Option, sym, refl, ap, ◌∙◌, subst, arith, MatchOption}
use mathlib.Core.Path.{fun_ext}
use Rattle.std.specs.List.{position}
use Rattle.std.specs.Str.{bytes_eq}
use Rattle.std.proofs.lemmas.Slice.Eq.{bytes_eq-Decides}
use Rattle.std.proofs.lemmas.List.{length-drop, length-take, append_assoc, drop-append-le, drop_at, drop-drop, drop-replicate, length-append, length-replicate, take-append-drop, take_at}
use Rattle.std.proofs.lemmas.Bool.{or_from, or_parts}
use Rattle.store.specs.Calls.{with_block, with_pair}
use Rattle.store.specs.Runs.{Pair}
use Rattle.pack.specs.Block.{Stands, block_from}
use Rattle.pack.specs.Lawful.{cost_least, whole_sectors}
use Rattle.pack.specs.Memory.{held_among, pack_meaning, pairs_read, reading, sectored, used_in, free_in, free_read}
use Rattle.pack.specs.Pack.{Sound, block_sectors, blocks, full_parts, named, pack_sectors, sector_cost, sectors_in}
use Rattle.pack.specs.Reader.{Reading, good, bad, read_sectors}
use Rattle.pack.specs.Scan.{has_name, scanned}
use Rattle.pack.specs.Sector.{unused_sector}
use Rattle.pack.specs.Test.{tested}
use Rattle.pack.specs.declared.fault.MemoryFault.{MemoryFault}
use Rattle.pack.specs.declared.fault.MemoryFault.TheVariants.{NoSectors}
use Rattle.pack.proofs.Bads.{read_good}
use Rattle.store.proofs.Chunks.{length_chunked}
use Rattle.pack.proofs.Founds.{absent, block_parts, find_first}
use Rattle.pack.proofs.Named.{FirstNamed, any_blocks, any_named, searched}
use Rattle.pack.proofs.Names.{same_turned, sound_push}
use Rattle.pack.proofs.Reaches.{blocks_push}
use Rattle.pack.proofs.Readings.{block_cut, length_block, read_pack}

-- a good pack in memory
pub record Holds (m : List ℕ) (ps : List Pair) (unused : ℕ) : Type 0 where
  pub whole : sectored m ≡ true
  pub sound : Sound ps
  pub is : sectors_in m ≡ pack_sectors ps unused

pub holds : (m : List ℕ) (ps : List Pair) (unused : ℕ) → reading m ≡ good ps unused → Holds m ps unused
unfolding reading
holds m ps unused e = by_size (sectored m) refl e where
  by_size : (b : Bool) → sectored m ≡ b → cond b (read_sectors (sectors_in m)) (bad 0) ≡ good ps unused → Holds m ps unused
  by_size true w i = let g = read_good (sectors_in m) ps unused (whole_sectors m) i in record { whole = w; sound = g.0; is = g.1 }
  by_size false w i = absurd (grind arith)

-- what is read holds for a good pack and for any other memory
pub record Known (m : List ℕ) (r : Reading) : Type 0 where
  pub sound : Sound (pairs_read r)
  pub taken : take (length (blocks (pairs_read r))) (sectors_in m) ≡ blocks (pairs_read r)
  pub room : length (blocks (pairs_read r)) + free_read r ≤ length (sectors_in m)

known_by : (m : List ℕ) (r : Reading) → reading m ≡ r → Known m r
known_by m (good ps unused) e =
    let h = holds m ps unused e in
    record {
      sound = h.sound;
      taken = ap (take (length (blocks ps))) h.is ∙ take_at (blocks ps) (replicate unused unused_sector) (length (blocks ps)) refl;
      room = omega (arith, ap length h.is, length-append (blocks ps) (replicate unused unused_sector), length-replicate unused unused_sector);
    }
known_by m (bad s) e = record { sound = record { fit = tt; apart = tt }; taken = refl; room = omega arith }

pub known : (m : List ℕ) → Known m (reading m)
known m = known_by m (reading m) refl

-- no sector has the name
pub not_held : (m name : List ℕ) → any_named (take (used_in m) (sectors_in m)) name ≡ false → held_among (pairs_read (reading m)) name ≡ None
not_held m name none =
    let k = known m in
    let ps = pairs_read (reading m) in
    absent ps name (sym (any_blocks ps name k.sound.fit) ∙ ap (λ xs. any_named xs name) (sym k.taken) ∙ none)

-- a sector has it
pub held_at : (m name : List ℕ) (i : ℕ) → FirstNamed (take (used_in m) (sectors_in m)) name i → Stands (held_among (pairs_read (reading m)) name) (drop i (sectors_in m))
held_at m name i h =
    let k = known m in
    let ps = pairs_read (reading m) in
    let ss = sectors_in m in
    let first : FirstNamed (blocks ps) name i = subst (λ xs. FirstNamed xs name i) k.taken h in
    let f = find_first ps name i k.sound.fit first in
    let tail = drop (used_in m) ss in
    let split : ss ≡ blocks ps ++ tail = sym (take-append-drop (used_in m) ss) ∙ ap (λ xs. xs ++ tail) k.taken in
    let there : drop i ss ≡ block_sectors name f.block ++ (f.rest ++ tail)
    = ap (drop i) split
    ∙ drop-append-le i (blocks ps) tail (omega (arith, first.within))
    ∙ ap (λ xs. xs ++ tail) f.is
    ∙ append_assoc (block_sectors name f.block) f.rest tail in
    let block : block_from (drop i ss) ≡ f.block = ap block_from there ∙ block_parts (full_parts (length f.block)) name 0 f.block (f.rest ++ tail) f.long (block_cut (length f.block) f.short) in
    record {
      some = omega (arith, h.within, length-take (used_in m) ss, length-drop i ss);
      is = f.held ∙ ap Some (sym block);
      short = omega (arith, ap length block, f.short);
    }

-- a free sector tells that the pack is good
pub good_by_room : (m : List ℕ) → 0 < free_in m → reading m ≡ good (pairs_read (reading m)) (free_in m)
good_by_room m some = grind arith

named_absent : (ps : List Pair) (name : List ℕ) → held_among ps name ≡ None → named ps name ≡ false
named_absent [] name h = refl
named_absent (p ∷ ps) name h = by_test (named_absent ps name) (bytes_eq p.name name) refl h where
  by_test : (held_among ps name ≡ None → named ps name ≡ false) → (b : Bool) → bytes_eq p.name name ≡ b → cond b (Some p.block) (held_among ps name) ≡ None → (bytes_eq p.name name || named ps name) ≡ false
  by_test again true e i = absurd (grind arith)
  by_test again false e i = or_from (bytes_eq p.name name) (named ps name) e (again i)

held_push : (ps : List Pair) (q : Pair) → named ps q.name ≡ false → (other : List ℕ) → held_among (ps ++ (q ∷ [])) other ≡ with_block (held_among ps) q.name q.block other
held_push [] q fresh other = ap (λ b. cond b (Some q.block) None) (same_turned q.name other)
held_push (p ∷ ps) q fresh other =
    let parts = or_parts (bytes_eq p.name q.name) (named ps q.name) fresh in
    ap (λ h. cond (bytes_eq p.name other) (Some p.block) h) (held_push ps q parts.1 other)
    ∙ exchange (bytes_eq other q.name) refl parts.0
  where
    exchange : (b : Bool) → bytes_eq other q.name ≡ b → bytes_eq p.name q.name ≡ false → cond (bytes_eq p.name other) (Some p.block) (cond b (Some q.block) (held_among ps other)) ≡ cond b (Some q.block) (cond (bytes_eq p.name other) (Some p.block) (held_among ps other))
    exchange true e apart =
        let equal : other ≡ q.name = (bytes_eq-Decides other q.name).0 e in
        let passed : bytes_eq p.name other ≡ false = ap (bytes_eq p.name) equal ∙ apart in
        rw passed
    exchange false e apart = refl

-- memory once the sectors of a block are written behind the blocks
pub written_pack : (m n : List ℕ) (name block : List ℕ) → length n ≡ length m → sector_cost (length block) ≤ free_in m → length name ≡ 32 → length block ≤ 10752 → held_among (pairs_read (reading m)) name ≡ None → sectors_in n ≡ take (used_in m) (sectors_in m) ++ (block_sectors name block ++ drop (used_in m + sector_cost (length block)) (sectors_in m)) → reading n ≡ good (pairs_read (reading m) ++ (record { name = name; block = block } ∷ [])) (free_in m - sector_cost (length block))
unfolding reading
written_pack m n name block size room long short none is =
    let cost = sector_cost (length block) in
    let ps = pairs_read (reading m) in
    let pair : Pair = record { name = name; block = block } in
    let own = block_sectors name block in
    let free : ℕ = free_in m in
    let h = holds m ps free (good_by_room m (omega (arith, cost_least (length block)))) in
    let sound : Sound (ps ++ (pair ∷ [])) = sound_push ps pair h.sound (record { name_length = long; block_length = short }) (named_absent ps name none) in
    let tail : drop (used_in m + cost) (sectors_in m) ≡ replicate (free - cost) unused_sector
    = ap (drop (used_in m + cost)) h.is
    ∙ sym (drop-drop cost (used_in m) (pack_sectors ps free))
    ∙ ap (drop cost) (drop_at (blocks ps) (replicate free unused_sector) (used_in m) refl)
    ∙ drop-replicate cost free unused_sector in
    let there : sectors_in n ≡ pack_sectors (ps ++ (pair ∷ [])) (free - cost)
    = is
    ∙ ap (λ xs. xs ++ (own ++ drop (used_in m + cost) (sectors_in m))) (known m).taken
    ∙ ap (λ xs. blocks ps ++ (own ++ xs)) tail
    ∙ sym (append_assoc (blocks ps) own (replicate (free - cost) unused_sector))
    ∙ ap (λ xs. xs ++ replicate (free - cost) unused_sector) (sym (blocks_push ps pair)) in
    let whole : sectored n ≡ true = ap (λ k. ltb 0 k && eqb (k % 512) 0) size ∙ h.whole in
    ap (λ b. cond b (read_sectors (sectors_in n)) (bad 0)) whole ∙ ap read_sectors there ∙ read_pack (ps ++ (pair ∷ [])) (free - cost) sound

pub used_written : (m n : List ℕ) (name block : List ℕ) → reading n ≡ good (pairs_read (reading m) ++ (record { name = name; block = block } ∷ [])) (free_in m - sector_cost (length block)) → used_in n ≡ used_in m + sector_cost (length block)
used_written m n name block is =
    let ps = pairs_read (reading m) in
    let pair : Pair = record { name = name; block = block } in
    ap (λ r. length (blocks (pairs_read r))) is
    ∙ ap length (blocks_push ps pair)
    ∙ length-append (blocks ps) (block_sectors name block)
    ∙ ap (λ k. length (blocks ps) + k) (length_block name block)

pub meaning_written : (m n : List ℕ) (name block : List ℕ) → held_among (pairs_read (reading m)) name ≡ None → reading n ≡ good (pairs_read (reading m) ++ (record { name = name; block = block } ∷ [])) (free_in m - sector_cost (length block)) → pack_meaning n ≡ with_pair (pack_meaning m) name block
meaning_written m n name block none is =
    let ps = pairs_read (reading m) in
    let pair : Pair = record { name = name; block = block } in
    let pairs : held_among (pairs_read (reading n)) ≡ with_block (held_among ps) name block
    = fun_ext (λ other. ap (λ r. held_among (pairs_read r) other) is ∙ held_push ps pair (named_absent ps name none) other) in
    let units : free_in n ≡ free_in m - sector_cost (length block) = ap free_read is in
    λ j. record { held = pairs j; free = units j; cost = sector_cost }

-- what a search in the used sectors finds
pub looked_up : (m name : List ℕ) (o : Option ℕ) → o ≡ position (has_name name) (take (used_in m) (sectors_in m)) → MatchOption o (held_among (pairs_read (reading m)) name ≡ None) (λ i. Stands (held_among (pairs_read (reading m)) name) (drop i (sectors_in m)))
looked_up m name o is = by o (searched name (take (used_in m) (sectors_in m)) o is) where
  by : (p : Option ℕ) → MatchOption p (any_named (take (used_in m) (sectors_in m)) name ≡ false) (λ i. FirstNamed (take (used_in m) (sectors_in m)) name i) → MatchOption p (held_among (pairs_read (reading m)) name ≡ None) (λ i. Stands (held_among (pairs_read (reading m)) name) (drop i (sectors_in m)))
  by None h = not_held m name h
  by (Some i) h = held_at m name i h

pub used_within : (m : List ℕ) → used_in m ≤ length (sectors_in m)
used_within m = omega (arith, (known m).room)

-- what the test of memory found out
pub made_good : (m : List ℕ) (used : ℕ) → Ok used ≡ tested m → (used ≡ used_in m) × (length m / 512 - used ≡ free_in m) × (used ≤ length m / 512)
unfolding reading
made_good m used e = by_size (sectored m) refl (read_sectors (sectors_in m)) refl e where
  by_size : (b : Bool) → sectored m ≡ b → (r : Reading) → read_sectors (sectors_in m) ≡ r → Ok used ≡ cond b (scanned r) (Err NoSectors) → (used ≡ used_in m) × (length m / 512 - used ≡ free_in m) × (used ≤ length m / 512)
  by_size false w r is i = absurd (grind arith)
  by_size true w (bad s) is i = absurd (grind arith)
  by_size true w (good ps unused) is i =
      let read : reading m ≡ good ps unused = ap (λ b. cond b (read_sectors (sectors_in m)) (bad 0)) w ∙ is in
      let h = holds m ps unused read in
      let count : used ≡ length (blocks ps) = cc in
      let u : used_in m ≡ length (blocks ps) = ap (λ r. length (blocks (pairs_read r))) read in
      let f : free_in m ≡ unused = ap free_read read in
      let size : length m / 512 ≡ length (blocks ps) + unused = sym (length_chunked 512 (length m / 512) m) ∙ ap length h.is ∙ length-append (blocks ps) (replicate unused unused_sector) ∙ ap (λ k. length (blocks ps) + k) (length-replicate unused unused_sector) in
      (count ∙ sym u, omega arith, omega arith)

pub made_bad : (m : List ℕ) (fault : MemoryFault) → Err fault ≡ tested m → (0 ≡ used_in m) × (0 ≡ free_in m)
unfolding reading
made_bad m fault e = grind arith

-- a block that is written where the store counts its first unused sector
pub added_read : (m n : List ℕ) (used free cost : ℕ) (name block : List ℕ) → used ≡ used_in m → free ≡ free_in m → cost ≡ sector_cost (length block) → cost ≤ free → length n ≡ length m → length name ≡ 32 → length block ≤ 10752 → held_among (pairs_read (reading m)) name ≡ None → sectors_in n ≡ take used (sectors_in m) ++ (block_sectors name block ++ drop (used + sector_cost (length block)) (sectors_in m)) → reading n ≡ good (pairs_read (reading m) ++ (record { name = name; block = block } ∷ [])) (free_in m - sector_cost (length block))
added_read m n used free cost name block filled vacant costs room size long short none is =
    written_pack m n name block size (omega arith) long short none (is ∙ ap (λ k. take k (sectors_in m) ++ (block_sectors name block ++ drop (k + sector_cost (length block)) (sectors_in m))) filled)
