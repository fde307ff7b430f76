-- The walk over the parts of a block.
--
--   behind   the sectors that are left behind the first part
--   Lends    the bytes of the next part, and the parts behind it
--
-- Assumes nothing.
use Rattle.std.specs.Prelude.{◌≡◌, ℕ, cond, List, [], ◌∷◌, Some, None, Option, ◌==◌, slice_index}
use Rattle.std.specs.Borrow.{Bor}
use Rattle.pack.specs.Block.{part_bytes}
use Rattle.pack.specs.Sector.{more_follows}
use Rattle.pack.specs.declared.read.Payloads.{Payloads}

-- none, where no more follows
abbrev pub behind : List ℕ → List (List ℕ) → List (List ℕ)
behind s ss = cond (slice_index s 0 == more_follows) ss []

abbrev pub Lends : Payloads → Option (Bor (List ℕ)) → Payloads → Type 0
Lends ps None rest = (ps.sectors.now ≡ []) × (rest ≡ ps)
Lends ps (Some payload) rest = (s : List ℕ) × (ss : List (List ℕ)) × (ps.sectors.now ≡ s ∷ ss) × (payload.now ≡ part_bytes s) × (rest.sectors.now ≡ behind s ss)
