-- Comparing the name of a slot. Assumes nothing.
use Rattle.std.proofs.Common.{◌≡◌, ℕ, Bool, true, List, take, Decides, rules}
use Rattle.std.specs.Str.{bytes_eq}
use Rattle.std.proofs.lemmas.Slice.Eq.{bytes_eq-Decides}
use Rattle.slots.specs.Memory.{holds}
use Rattle.slots.specs.Slot.{is_used}

as_test : (xs ys : List ℕ) (r : Bool) → Decides r (xs ≡ ys) → r ≡ bytes_eq xs ys
as_test xs ys r h = search (rules, bytes_eq-Decides)

-- the first 32 bytes of a used slot are the name
pub named : (slot name : List ℕ) (r : Bool) → is_used slot ≡ true → Decides r (take 32 slot ≡ name) → r ≡ holds slot name
named slot name r used same =
    let e : r ≡ bytes_eq (take 32 slot) name = as_test (take 32 slot) name r same in
    rw used e
