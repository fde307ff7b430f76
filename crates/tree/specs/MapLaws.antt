-- The laws of maps, which know nothing of trees.
--
--   MapLaws   what insert, delete and lookup do for each other, and that look-ups tell maps apart
--
-- Assumes nothing.
use Rattle.std.specs.Prelude.{◌≡◌, ℕ, ◌≢◌, List, Some, None}
use Rattle.std.specs.List.{ContainsAt as Has}
use Rattle.tree.specs.Map.{IsKey, IsRecord, Item, Map, IsMap, Rising, insert, delete, lookup}

pub record MapLaws : Type 0 where
  -- a map stays a map
  pub insert_keeps : (k v : List ℕ) (m : Map) → IsKey k → IsRecord v → IsMap m → IsMap (insert k v m)
  pub delete_keeps : (k : List ℕ) (m : Map) → IsMap m → IsMap (delete k m)
  -- a key that was inserted has its new record, one that was deleted has none, and every other key has what it had
  pub inserted : (k v : List ℕ) (m : Map) → Rising m → lookup k (insert k v m) ≡ Some v
  pub insert_other : (k v j : List ℕ) (m : Map) → Rising m → j ≢ k → lookup j (insert k v m) ≡ lookup j m
  pub deleted : (k : List ℕ) (m : Map) → Rising m → lookup k (delete k m) ≡ None
  pub delete_other : (k j : List ℕ) (m : Map) → Rising m → j ≢ k → lookup j (delete k m) ≡ lookup j m
  -- nothing happens where a key is set to the record that it has, or deleted where it is not there
  pub insert_same : (k v : List ℕ) (m : Map) → Rising m → lookup k m ≡ Some v → insert k v m ≡ m
  pub delete_absent : (k : List ℕ) (m : Map) → Rising m → lookup k m ≡ None → delete k m ≡ m
  -- what a look-up finds is in the list, and what is in the list is found
  pub found : (k v : List ℕ) (m : Map) → lookup k m ≡ Some v → Has m (record { key = k; value = v })
  pub listed : (x : Item) (m : Map) → Rising m → Has m x → lookup x.key m ≡ Some x.value
  -- maps with equal look-ups are equal
  pub equal_lookups : (m n : Map) → Rising m → Rising n → ((k : List ℕ) → lookup k m ≡ lookup k n) → m ≡ n
