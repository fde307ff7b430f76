-- What a put comes to, from what an implementation has found out. Assumes nothing.
use Rattle.std.proofs.Common.{◌≡◌, ℕ, ◌≤◌, List, length, None, arith}
use Rattle.std.proofs.lemmas.Bool.Decides.{nat_tests}
use Rattle.store.specs.Calls.{added, outcome}
use Rattle.store.specs.Meaning.{Meaning, block_limit}

-- the name is absent, and the units suffice
pub outcome_added : (m : Meaning) (name block : List ℕ) → length block ≤ block_limit → m.held name ≡ None → m.cost (length block) ≤ m.free → outcome m name block ≡ added
outcome_added m name block short absent fits = grind (arith, nat_tests)
