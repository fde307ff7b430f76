use Rattle.std.proofs.Common.{◌≡◌, ℕ, ◌+◌, ◌*◌, ◌<◌, ◌≤◌, length, get_or}
use Rattle.pack.specs.Sector.{weighed}
use Rattle.pack.proofs.sector.weigh.Given as goal

abbrev pub invariant-loop-byte : goal.invariant-loop-byte
invariant-loop-byte l =
    (l.byte-iterator.b.start + length l.byte-iterator.a.rest.now ≡ length l.bytes + 1)
    × (l.sum ≤ l.byte-iterator.b.start * 129540)
    × (l.sum + weighed l.byte-iterator.b.start l.byte-iterator.a.rest.now ≡ weighed 1 l.bytes)
    × ((k : ℕ) → get_or l.byte-iterator.a.rest.now k 0 < 256)
