-- A block is found where the first sector of its name stands. Assumes nothing.
use Rattle.std.proofs.Common.{◌≡◌, ℕ, zero, suc, ◌+◌, ◌-◌, ◌<◌, ◌≤◌, min, Bool, true, false, cond, eqb, List, [], ◌∷◌, ◌++◌, length, get_or, take, drop, Some, None, sym, refl, ap, ◌∙◌, arith}
use Rattle.std.specs.List.{AllByRecursion}
use Rattle.std.specs.Str.{bytes_eq}
use Rattle.std.proofs.lemmas.Slice.Eq.{bytes_eq-Decides}
use Rattle.std.proofs.lemmas.List.{append-nil, get_or_append_left, get_or-append_right, length-append, length-drop, length-take-le, take-append-drop}
use Rattle.std.proofs.lemmas.Bool.{eq-eqb, ne_eqb, or_parts}
use Rattle.store.specs.Runs.{Pair}
use Rattle.pack.specs.Block.{block_from, part_bytes}
use Rattle.pack.specs.Memory.{held_among}
use Rattle.pack.specs.Pack.{Fits, block_sectors, blocks, full_parts, named, parts}
use Rattle.pack.specs.Sector.{count_of, last, more_follows, name_of, payload_of, sector}
use Rattle.pack.proofs.Named.{FirstNamed, any_append, any_named}
use Rattle.pack.proofs.Readings.{Cut, at_least}
use Rattle.pack.proofs.Sectors.{sector-count, sector_kind, sector_name, sector_payload}

part_of : (kind part : ℕ) (name payload : List ℕ) → length name ≡ 32 → length payload ≤ 468 → part_bytes (sector kind part name payload) ≡ payload
unfolding part_bytes
part_of kind part name payload long short =
    let s = sector kind part name payload in
    let count : min (count_of s) 468 ≡ length payload = omega (arith, sector-count kind part name payload short) in
    ap (λ n. payload_of n s) count ∙ sector_payload kind part name payload (length payload) long refl

-- the parts of a block have its bytes
pub block_parts : (k : ℕ) (name : List ℕ) (part : ℕ) (block : List ℕ) (rest : List (List ℕ)) → length name ≡ 32 → Cut part k (length block) → block_from (parts name part k block ++ rest) ≡ block
block_parts zero name part block rest long cut =
    let s = sector last part name block in
    let kind : eqb (get_or s 0 0) more_follows ≡ false = ne_eqb (get_or s 0 0) 1 (λ e. omega (arith, sector_kind 2 part name block)) in
    ap (λ b. part_bytes s ++ cond b (block_from rest) []) kind ∙ append-nil (part_bytes s) ∙ part_of 2 part name block long (omega (arith, cut.most))
block_parts (suc k) name part block rest long cut =
    let first = take 468 block in
    let others = drop 468 block in
    let s = sector more_follows part name first in
    let tail = parts name (part + 1) k others ++ rest in
    let one = at_least (part + suc k) (omega arith) in
    let two = at_least (part + 1 + k) (omega arith) in
    let whole : length first ≡ 468 = length-take-le 468 block (omega (arith, one, cut.least)) in
    let cut' : Cut (part + 1) k (length others) = record {
      least = omega (arith, length-drop 468 block, one, two, cut.least);
      most = omega (arith, length-drop 468 block, cut.most);
      room = omega (arith, length-drop 468 block, one, cut.room, cut.least);
    } in
    let kind : eqb (get_or s 0 0) more_follows ≡ true = eq-eqb (get_or s 0 0) 1 (sector_kind 1 part name first) in
    ap (λ b. part_bytes s ++ cond b (block_from tail) []) kind
    ∙ ap (λ p. p ++ block_from tail) (part_of 1 part name first long (omega arith))
    ∙ ap (λ b. first ++ b) (block_parts k name (part + 1) others rest long cut')
    ∙ take-append-drop 468 block

-- where the block of a name begins
pub record Found (ps : List Pair) (name : List ℕ) (i : ℕ) : Type 0 where
  pub block : List ℕ
  pub held : held_among ps name ≡ Some block
  pub short : length block ≤ 10752
  pub long : length name ≡ 32
  pub rest : List (List ℕ)
  pub is : drop i (blocks ps) ≡ block_sectors name block ++ rest

first_name : (name : List ℕ) (k : ℕ) (block : List ℕ) (rest : List (List ℕ)) (i : ℕ) → length name ≡ 32 → any_named (take (suc i) (parts name 0 k block ++ rest)) name ≡ true
first_name name zero block rest i long =
    let same = (bytes_eq-Decides (name_of (sector last 0 name block)) name).1 (sector_name 2 0 name block long) in
    rw same
first_name name (suc k) block rest i long =
    let same = (bytes_eq-Decides (name_of (sector more_follows 0 name (take 468 block))) name).1 (sector_name 1 0 name (take 468 block) long) in
    rw same

-- every sector of a block has its name
own_name : (name : List ℕ) (part k : ℕ) (block : List ℕ) (i : ℕ) → length name ≡ 32 → i < length (parts name part k block) → name_of (get_or (parts name part k block) i []) ≡ name
own_name name part zero block zero long within = sector_name 2 part name block long
own_name name part zero block (suc i) long within = absurd (omega arith)
own_name name part (suc k) block zero long within = sector_name 1 part name (take 468 block) long
own_name name part (suc k) block (suc i) long within = own_name name (part + 1) k (drop 468 block) i long (omega arith)

take_past : (xs ys : List (List ℕ)) (i : ℕ) → length xs ≤ i → take i (xs ++ ys) ≡ xs ++ take (i - length xs) ys
take_past [] ys i past = ap (λ n. take n ys) (omega arith)
take_past (x ∷ xs) ys zero past = absurd (omega arith)
take_past (x ∷ xs) ys (suc i) past =
    let e : i - length xs ≡ suc i - suc (length xs) = omega arith in
    ap (λ zs. x ∷ zs) (take_past xs ys i (omega arith) ∙ ap (λ n. xs ++ take n ys) e)

drop_past : (xs ys : List (List ℕ)) (i : ℕ) → length xs ≤ i → drop i (xs ++ ys) ≡ drop (i - length xs) ys
drop_past [] ys i past = ap (λ n. drop n ys) (omega arith)
drop_past (x ∷ xs) ys zero past = absurd (omega arith)
drop_past (x ∷ xs) ys (suc i) past =
    let e : i - length xs ≡ suc i - suc (length xs) = omega arith in
    drop_past xs ys i (omega arith) ∙ ap (λ n. drop n ys) e

pub find_first : (ps : List Pair) (name : List ℕ) (i : ℕ) → AllByRecursion Fits ps → FirstNamed (blocks ps) name i → Found ps name i
find_first [] name i fit h = absurd (omega (arith, h.within))
find_first (p ∷ ps) name i fit h = by_name (λ j. find_first ps name j fit.1) (bytes_eq p.name name) refl where
  own : List (List ℕ)
  own = block_sectors p.name p.block

  here : (j : ℕ) → FirstNamed (own ++ blocks ps) name j → bytes_eq p.name name ≡ true → Found (p ∷ ps) name j
  here zero f same =
      let e : p.name ≡ name = (bytes_eq-Decides p.name name).0 same in
      record {
        block = p.block;
        held = rw same;
        short = fit.0.block_length;
        long = ap length (sym e) ∙ fit.0.name_length;
        rest = blocks ps;
        is = ap (λ n. block_sectors n p.block ++ blocks ps) e;
      }
  here (suc j) f same =
      let e : p.name ≡ name = (bytes_eq-Decides p.name name).0 same in
      let never : any_named (take (suc j) (own ++ blocks ps)) p.name ≡ false = ap (any_named (take (suc j) (own ++ blocks ps))) e ∙ f.before in
      let first = first_name p.name (full_parts (length p.block)) p.block (blocks ps) j fit.0.name_length in
      absurd (grind arith)

  past : bytes_eq p.name name ≡ false → (i < length own → ⊥)
  past other within =
      let mine : name_of (get_or own i []) ≡ p.name = own_name p.name 0 (full_parts (length p.block)) p.block i fit.0.name_length within in
      let there : get_or (own ++ blocks ps) i [] ≡ get_or own i [] = get_or_append_left own (blocks ps) [] i within in
      let e : p.name ≡ name = sym mine ∙ ap name_of (sym there) ∙ h.here in
      let t = (bytes_eq-Decides p.name name).1 e in
      absurd (grind arith)

  later : Found ps name (i - length own) → bytes_eq p.name name ≡ false → length own ≤ i → Found (p ∷ ps) name i
  later f other beyond = record {
    block = f.block;
    held = rw other f.held;
    short = f.short;
    long = f.long;
    rest = f.rest;
    is = drop_past own (blocks ps) i beyond ∙ f.is;
  }

  shifted : length own ≤ i → FirstNamed (blocks ps) name (i - length own)
  shifted beyond = record {
    within = omega (arith, h.within, length-append own (blocks ps));
    here = ap name_of (sym (get_or-append_right own (blocks ps) (length own) i [] refl beyond)) ∙ h.here;
    before = (or_parts (any_named own name) (any_named (take (i - length own) (blocks ps)) name) (sym (any_append own (take (i - length own) (blocks ps)) name) ∙ ap (λ xs. any_named xs name) (sym (take_past own (blocks ps) i beyond)) ∙ h.before)).1;
  }

  by_name : ((j : ℕ) → FirstNamed (blocks ps) name j → Found ps name j) → (b : Bool) → bytes_eq p.name name ≡ b → Found (p ∷ ps) name i
  by_name again true e = here i h e
  by_name again false e =
      let beyond : length own ≤ i = omega (arith, past e) in
      later (again (i - length own) (shifted beyond)) e beyond

-- a name that no sector has is not held
pub absent : (ps : List Pair) (name : List ℕ) → named ps name ≡ false → held_among ps name ≡ None
absent [] name other = refl
absent (p ∷ ps) name other =
    let parts = or_parts (bytes_eq p.name name) (named ps name) other in
    rw parts.0 (absent ps name parts.1)
