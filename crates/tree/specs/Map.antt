-- Maps: keys, each with one record.
--
--   IsKey       a byte string that a key may be
--   IsRecord    a byte string that a record may be
--   Item        a key and its record
--   Map         a list of items
--   BeforeAll   a key comes before every key of a map
--   Rising      each key comes before every later one
--   IsMap       a rising list of keys with records
--   insert      the map with the record of a key set
--   delete      the map without a key
--   lookup      the record of a key
--
-- Assumes nothing.
use Rattle.std.specs.Prelude.{◌≡◌, ℕ, true, cond, List, [], ◌∷◌, length, Some, None, Option}
use Rattle.std.specs.List.{AllByRecursion}
use Rattle.keys.specs.Order.{before}
use Rattle.keys.specs.Size.{KeySized, RecordSized}
use Rattle.node.specs.WellFormed.{Bytes}

-- 1 to 64 bytes
pub record IsKey (k : List ℕ) : Type 0 where
  pub sized : KeySized (length k)
  pub bytes : Bytes k

-- 0 to 4,096 bytes
pub record IsRecord (v : List ℕ) : Type 0 where
  pub sized : RecordSized (length v)
  pub bytes : Bytes v

-- the value is the record itself
pub record Item : Type 0 where
  pub key : List ℕ
  pub value : List ℕ

abbrev pub Map : Type 0
Map = List Item

abbrev pub BeforeAll : List ℕ → Map → Type 0
BeforeAll k m = AllByRecursion (λ x. before k x.key ≡ true) m

abbrev pub Rising : Map → Type 0
Rising [] = Unit {0}
Rising (x ∷ m) = BeforeAll x.key m × Rising m

pub record IsMap (m : Map) : Type 0 where
  pub rising : Rising m
  pub keys : AllByRecursion (λ x. IsKey x.key) m
  pub records : AllByRecursion (λ x. IsRecord x.value) m

-- behind the keys that come before it; an equal key gives way
abbrev pub insert : List ℕ → List ℕ → Map → Map
insert k v [] = record { key = k; value = v } ∷ []
insert k v (x ∷ m) =
    cond (before x.key k) (x ∷ insert k v m)
    (cond (before k x.key) (record { key = k; value = v } ∷ (x ∷ m)) (record { key = k; value = v } ∷ m))

abbrev pub delete : List ℕ → Map → Map
delete k [] = []
delete k (x ∷ m) = cond (before x.key k) (x ∷ delete k m) (cond (before k x.key) (x ∷ m) m)

-- none where the key is not there
abbrev pub lookup : List ℕ → Map → Option (List ℕ)
lookup k [] = None
lookup k (x ∷ m) = cond (before x.key k) (lookup k m) (cond (before k x.key) None (Some x.value))
