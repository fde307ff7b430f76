-- The names that stand in the sectors of blocks. Assumes nothing.
use Rattle.std.proofs.Common.{◌≡◌, ℕ, zero, suc, ◌+◌, ◌-◌, ◌<◌, ◌≤◌, Bool, true, false, cond, ◌||◌, List, [], ◌∷◌, ◌++◌, length, get_or, take, drop, is_some, Some, None, Option, sym, refl, ap, ◌∙◌, subst, arith, MatchOption}
use native.Mathlib.Nat.{sub-zero}
use Rattle.std.specs.List.{AllByRecursion, position, position_from}
use Rattle.std.specs.Str.{bytes_eq}
use Rattle.std.proofs.lemmas.Slice.Eq.{bytes_eq-Decides}
use Rattle.std.proofs.lemmas.Iterator.Adapters.{position_from-zero}
use Rattle.std.proofs.lemmas.Bool.{or_right}
use Rattle.std.proofs.Math.Bool.{or_assoc, or_self, or-false}
use Rattle.store.specs.Runs.{Pair}
use Rattle.pack.specs.Sector.{sector, more_follows, last, name_of}
use Rattle.pack.specs.Pack.{Fits, block_sectors, blocks, full_parts, named, parts}
use Rattle.pack.specs.Scan.{has_name}
use Rattle.pack.proofs.Sectors.{sector_name}

-- whether a sector has a name where a part has its name
abbrev pub any_named : List (List ℕ) → List ℕ → Bool
any_named [] name = false
any_named (s ∷ ss) name = bytes_eq (name_of s) name || any_named ss name

-- the first sector that has it
pub record FirstNamed (ss : List (List ℕ)) (name : List ℕ) (i : ℕ) : Type 0 where
  pub within : i < length ss
  pub here : name_of (get_or ss i []) ≡ name
  pub before : any_named (take i ss) name ≡ false

pub any_append : (xs ys : List (List ℕ)) (name : List ℕ) → any_named (xs ++ ys) name ≡ (any_named xs name || any_named ys name)
any_append [] ys name = refl
any_append (x ∷ xs) ys name = ap (λ b. bytes_eq (name_of x) name || b) (any_append xs ys name) ∙ sym (or_assoc (bytes_eq (name_of x) name) (any_named xs name) (any_named ys name))

-- every part of a block has its name
pub any_parts : (name : List ℕ) (part k : ℕ) (block other : List ℕ) → length name ≡ 32 → any_named (parts name part k block) other ≡ bytes_eq name other
any_parts name part zero block other long = or-false (bytes_eq (name_of (sector last part name block)) other) ∙ ap (λ n. bytes_eq n other) (sector_name 2 part name block long)
any_parts name part (suc k) block other long =
    ap (λ b. bytes_eq (name_of (sector more_follows part name (take 468 block))) other || b) (any_parts name (part + 1) k (drop 468 block) other long)
    ∙ ap (λ n. bytes_eq n other || bytes_eq name other) (sector_name 1 part name (take 468 block) long)
    ∙ or_self (bytes_eq name other)

pub any_blocks : (ps : List Pair) (name : List ℕ) → AllByRecursion Fits ps → any_named (blocks ps) name ≡ named ps name
any_blocks [] name fit = refl
any_blocks (p ∷ ps) name fit =
    any_append (block_sectors p.name p.block) (blocks ps) name
    ∙ ap (λ b. b || any_named (blocks ps) name) (any_parts p.name 0 (full_parts (length p.block)) p.block name fit.0.name_length)
    ∙ ap (λ b. bytes_eq p.name name || b) (any_blocks ps name fit.1)

-- a sector that has the name tells
any_at : (ss : List (List ℕ)) (i : ℕ) (name : List ℕ) → i < length ss → name_of (get_or ss i []) ≡ name → any_named ss name ≡ true
any_at [] i name within here = absurd (omega arith)
any_at (s ∷ ss) zero name within here = let same = (bytes_eq-Decides (name_of s) name).1 here in rw same
any_at (s ∷ ss) (suc i) name within here = or_right (bytes_eq (name_of s) name) (any_named ss name) (any_at ss i name (omega arith) here)

-- what a search for the name from some number on tells
search_from : (name : List ℕ) (k : ℕ) (ss : List (List ℕ)) → MatchOption (position_from (has_name name) k ss) (any_named ss name ≡ false) (λ i. (k ≤ i) × FirstNamed ss name (i - k))
search_from name k [] = refl
search_from name k (s ∷ ss) = by_test (search_from name (k + 1) ss) (bytes_eq (name_of s) name) refl where
  later : (o : Option ℕ) → MatchOption o (any_named ss name ≡ false) (λ i. (k + 1 ≤ i) × FirstNamed ss name (i - (k + 1))) → bytes_eq (name_of s) name ≡ false → MatchOption o (any_named (s ∷ ss) name ≡ false) (λ i. (k ≤ i) × FirstNamed (s ∷ ss) name (i - k))
  later None h e = rw e h
  later (Some i) h e =
      let at : suc (i - (k + 1)) ≡ i - k = omega (arith, h.0) in
      (omega (arith, h.0), subst (λ j. FirstNamed (s ∷ ss) name j) at (record { within = omega (arith, h.1.within); here = h.1.here; before = rw e h.1.before }))

  by_test : MatchOption (position_from (has_name name) (k + 1) ss) (any_named ss name ≡ false) (λ i. (k + 1 ≤ i) × FirstNamed ss name (i - (k + 1))) → (b : Bool) → bytes_eq (name_of s) name ≡ b → MatchOption (cond b (Some k) (position_from (has_name name) (k + 1) ss)) (any_named (s ∷ ss) name ≡ false) (λ i. (k ≤ i) × FirstNamed (s ∷ ss) name (i - k))
  by_test again true e =
      let at : 0 ≡ k - k = omega arith in
      (omega arith, subst (λ j. FirstNamed (s ∷ ss) name j) at (record { within = omega arith; here = (bytes_eq-Decides (name_of s) name).0 e; before = refl }))
  by_test again false e = later (position_from (has_name name) (k + 1) ss) again e

-- what a search for the name tells
pub searched : (name : List ℕ) (ss : List (List ℕ)) (o : Option ℕ) → o ≡ position (has_name name) ss → MatchOption o (any_named ss name ≡ false) (λ i. FirstNamed ss name i)
searched name ss o is = by o (subst (λ p. MatchOption p (any_named ss name ≡ false) (λ i. (0 ≤ i) × FirstNamed ss name (i - 0))) (sym (is ∙ position_from-zero (has_name name) ss)) (search_from name 0 ss)) where
  by : (p : Option ℕ) → MatchOption p (any_named ss name ≡ false) (λ i. (0 ≤ i) × FirstNamed ss name (i - 0)) → MatchOption p (any_named ss name ≡ false) (λ i. FirstNamed ss name i)
  by None h = h
  by (Some i) h = subst (λ j. FirstNamed ss name j) (sub-zero i) h.1

-- whether one was found
pub any_found : (name : List ℕ) (ss : List (List ℕ)) (o : Option ℕ) → o ≡ position (has_name name) ss → any_named ss name ≡ is_some o
any_found name ss o is = by o (searched name ss o is) where
  by : (p : Option ℕ) → MatchOption p (any_named ss name ≡ false) (λ i. FirstNamed ss name i) → any_named ss name ≡ is_some p
  by None h = h
  by (Some i) h = any_at ss i name h.within h.here
