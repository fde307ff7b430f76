-- Keys, and the room that their bytes stand in. Assumes nothing.
use Rattle.std.proofs.Common.{◌≡◌, ℕ, List, length, Some, None, Option, ◌∙◌, arith}
use Rattle.std.proofs.lemmas.List.{length-take-le}
use Rattle.keys.specs.declared.key.Key.{Key}
use Rattle.keys.specs.Size.{KeySized}
use Rattle.keys.specs.Key.{key_bytes, Made}

pub length-key_bytes : (key : Key) → length (key_bytes key) ≡ key.len
unfolding key_bytes
length-key_bytes key = length-take-le key.len key.bytes (omega (arith, key.short, key.room))

pub key_sized : (key : Key) → KeySized (length (key_bytes key))
key_sized key =
    let size = length-key_bytes key in
    record { some = omega (arith, key.some); short = omega (arith, key.short) }

-- an answer under another condition that comes to the same, of bytes that are the same
pub made_like : (r : Option Key) (P Q : Type 0) (s t : List ℕ) → (P → Q) → (Q → P) → s ≡ t → Made r P s → Made r Q t
made_like None P Q s t to from same none = λ q. none (from q)
made_like (Some key) P Q s t to from same (p, is) = (to p, is ∙ same)
