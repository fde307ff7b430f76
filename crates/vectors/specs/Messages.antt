-- The bytes of test messages. Assumes nothing.
use Rattle.std.specs.Prelude.{ℕ, ◌%◌, List, map}
use Rattle.std.specs.List.{range_with_len}

-- the bytes 0 to 250, again and again, n of them
abbrev pub counted_bytes : ℕ → List ℕ
counted_bytes n = map (λ i. i % 251) (range_with_len 0 n)
