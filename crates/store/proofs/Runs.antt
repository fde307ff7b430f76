-- Any run of calls keeps every pair, and free units and the cost of all that was added stay the same. Assumes nothing.
use Rattle.std.proofs.Common.{◌≡◌, ℕ, ◌-◌, ◌≤◌, List, [], ◌∷◌, length, None, refl, arith}
use Rattle.std.proofs.lemmas.Slice.Eq.{bytes_eq-Decides}
use Rattle.std.proofs.lemmas.Bool.Decides.{nat_tests}
use Rattle.store.specs.Calls.{Outcome, too_long, held_already, conflict, no_room, added, outcome, left_by, put_after, with_pair}
use Rattle.store.specs.Meaning.{Meaning, Lawful}
use Rattle.store.specs.Runs.{Call, finding, comparing, putting, asking_free, asking_cost, Step, Run, Pair, spent, Grown, AllSpent}

-- nothing was added
pub grown_none : (m : Meaning) → Grown m [] m
grown_none m = grind arith

-- what a put that adds a pair found
record Room (m : Meaning) (name block : List ℕ) : Type 0 where
  absent : m.held name ≡ None
  fits : m.cost (length block) ≤ m.free

room : (m : Meaning) (name block : List ℕ) → outcome m name block ≡ added → Room m name block
room m name block is = record { absent = grind arith; fits = grind (arith, nat_tests) }

-- one pair more
grown-more : (m : Meaning) (new : List Pair) (k : Meaning) (name block : List ℕ) → Grown m new k → Room k name block → Grown m (record { name = name; block = block } ∷ new) (with_pair k name block)
grown-more m new k name block g r = record {
  kept = λ other b is. grind (arith, bytes_eq-Decides, r.absent, g.kept other b is);
  pairs = rw g.pairs;
  fresh = (rw (← g.pairs) r.absent, g.fresh);
  units = grind (arith, g.units, g.costs, r.fits);
  costs = g.costs;
}

grown_put : (m : Meaning) (new : List Pair) (k : Meaning) (name block : List ℕ) → Grown m new k → (o : Outcome) → outcome k name block ≡ o → (more : List Pair) × Grown m more (left_by o k name block)
grown_put m new k name block g too_long is = (new, g)
grown_put m new k name block g held_already is = (new, g)
grown_put m new k name block g conflict is = (new, g)
grown_put m new k name block g no_room is = (new, g)
grown_put m new k name block g added is = (record { name = name; block = block } ∷ new, grown-more m new k name block g (room k name block is))

-- what is left is the store itself
as_it_was : (m : Meaning) (new : List Pair) (k n : Meaning) → Grown m new k → n ≡ k → (more : List Pair) × Grown m more n
as_it_was m new k n g same = (new, grind arith)

grown_step : (m : Meaning) (new : List Pair) (k n : Meaning) (call : Call) → Grown m new k → Step call k n → (more : List Pair) × Grown m more n
grown_step m new k n (finding name buffer answer after) g s = as_it_was m new k n g s.2
grown_step m new k n (comparing name block answer) g s = as_it_was m new k n g s.1
grown_step m new k n (putting name block answer) g s =
    let e = grown_put m new k name block g (outcome k name block) refl in
    as_it_was m e.0 (put_after k name block) n e.1 s.1
grown_step m new k n (asking_free answer) g s = as_it_was m new k n g s.1
grown_step m new k n (asking_cost len answer) g s = as_it_was m new k n g s.1

grown_run : (calls : List Call) (m n : Meaning) → Run calls m n → (new : List Pair) × Grown m new n
grown_run [] m n run = as_it_was m [] m n (grown_none m) run
grown_run (call ∷ calls) m n run =
    let before = grown_run calls m run.0 run.1 in
    grown_step m before.0 run.0 n call before.1 run.2

-- each pair costs a unit at least
least : (cost : ℕ → ℕ) → ((len : ℕ) → 1 ≤ cost len) → (ps : List Pair) → length ps ≤ spent cost ps
least cost some [] = omega arith
least cost some (p ∷ ps) = omega (arith, some (length p.block), least cost some ps)

pub all_spent : (n : Meaning) → Lawful n → AllSpent n
all_spent n lawful calls m run =
    let e = grown_run calls m n run in
    let some : (len : ℕ) → 1 ≤ m.cost len = rw (← e.1.costs) lawful.cost_least in
    let cost : spent m.cost e.0 ≡ m.free - n.free = omega (arith, e.1.units) in
    record { new = e.0; grown = e.1; cost = cost; least = omega (arith, least m.cost some e.0) }
