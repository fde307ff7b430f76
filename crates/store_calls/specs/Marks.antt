-- Buffers before a call. Assumes nothing.
use Rattle.std.specs.Prelude.{◌≡◌, ℕ, ◌<◌, List, length, slice_index}

-- every byte is the mark
abbrev pub AllMarks : List ℕ → Type 0
AllMarks bytes = (k : ℕ) → k < length bytes → slice_index bytes k ≡ 0xEE
