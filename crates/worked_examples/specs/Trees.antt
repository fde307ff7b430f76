-- Worked examples of trees, with Fold.
--
--   item                    a key with a record
--   lesson_map              key 61 with record 62
--   lesson_root             its root
--   lowest, middle, upper   the nodes of the map with keys 05 and 61, as rows
--   keys_from               keys of one byte, one after the other
--   high_key                key 6D, 31 zeros, C4
--   between                 that key between as many keys below it as above
--   insert_all              items inserted one by one, the last first
--   parting_key             key 6D, 31 zeros, 98
--   one_key, over_key       a node with one key, and one above it with none, as rows
--   WorkedTrees             what the definitions say of them
--
-- Assumes nothing.
use Rattle.std.specs.Prelude.{◌≡◌, ℕ, zero, suc, ◌+◌, ◌-◌, true, false, List, [], ◌∷◌, ◌++◌, take, replicate, Some, None}
use Rattle.digest.specs.Fold.{fold}
use Rattle.digest.specs.Layer.{layer}
use Rattle.tree.specs.ByLayer.{items_at}
use Rattle.tree.specs.Change.{insert_path, handed}
use Rattle.tree.specs.Map.{Item, Map, insert, delete}
use Rattle.tree.specs.Path.{path_from_root}
use Rattle.tree.specs.Row.{end, more}
use Rattle.tree.specs.Tree.{leaf, Links, digest, root, placed_at, nodes, blocks, crowded}
use Rattle.worked_examples.specs.Nodes.{lesson_bytes}

abbrev pub item : List ℕ → List ℕ → Item
item k v = record { key = k; value = v }

abbrev pub lesson_map : Map
lesson_map = item (0x61 ∷ []) (0x62 ∷ []) ∷ []

-- the first 26 bytes of its node: what follows is folded onto the last six
abbrev pub lesson_root : List ℕ
lesson_root = take 26 lesson_bytes ++ (0xC3 ∷ (0x6C ∷ (0xF6 ∷ (0x00 ∷ (0x00 ∷ (0x00 ∷ []))))))

-- key 61 with record v, no link
abbrev pub lowest : List ℕ → Links
lowest v = more None (leaf fold (item (0x61 ∷ []) v)) (end None)

-- no key, one link
abbrev pub middle : List ℕ → Links
middle v = end (Some (digest fold (lowest v)))

-- key 05 with record u, and a link after it
abbrev pub upper : List ℕ → List ℕ → Links
upper u v = more None (leaf fold (item (0x05 ∷ []) u)) (end (Some (digest fold (middle v))))

-- n keys from b on, with empty records
abbrev pub keys_from : ℕ → ℕ → Map
keys_from b zero = []
keys_from b (suc n) = item (b ∷ []) [] ∷ keys_from (b + 1) n

abbrev pub high_key : List ℕ
high_key = 0x6D ∷ (replicate 31 0x00 ++ (0xC4 ∷ []))

abbrev pub between : ℕ → Map
between n = keys_from (0x6D - n) n ++ (item high_key [] ∷ keys_from 0x6E n)

abbrev pub insert_all : Map → Map
insert_all [] = []
insert_all (x ∷ m) = insert x.key x.value (insert_all m)

abbrev pub parting_key : List ℕ
parting_key = 0x6D ∷ (replicate 31 0x00 ++ (0x98 ∷ []))

abbrev pub one_key : ℕ → Links
one_key b = more None (leaf fold (item (b ∷ []) [])) (end None)

abbrev pub over_key : ℕ → Links
over_key b = end (Some (digest fold (one_key b)))

pub record WorkedTrees : Type 0 where
  pub one_lesson_root : root fold lesson_map ≡ lesson_root
  pub one_lesson_blocks : blocks fold lesson_map ≡ lesson_bytes ∷ ((0x62 ∷ []) ∷ [])
  -- 05 at layer 2, no key at layer 1, 61 at layer 0, whatever the records
  pub three_nodes : (u v : List ℕ)
      → nodes fold (item (0x05 ∷ []) u ∷ (item (0x61 ∷ []) v ∷ [])) ≡ placed_at 2 (upper u v) ∷ (placed_at 1 (middle v) ∷ (placed_at 0 (lowest v) ∷ []))
  pub high_key_layer : layer fold high_key ≡ 1
  -- the keys around it rise, and are of layer 0
  pub rising : insert_all (between 33) ≡ between 33
  pub around : items_at fold 0 (between 33) ≡ delete high_key (between 33)
  -- without it, 33 and 33 keys come together in one node
  pub apart : crowded fold (between 33) ≡ false
  pub together : crowded fold (delete high_key (between 33)) ≡ true
  pub fewer : crowded fold (delete high_key (between 32)) ≡ false
  -- a key of layer 2 between 61 and 7A, which were in one node: what is handed over comes by layer from 0 up, from left to right
  pub parting_key_layer : layer fold parting_key ≡ 2
  pub parted : handed (insert_path fold (item parting_key []) (path_from_root fold parting_key (item (0x61 ∷ []) [] ∷ (item (0x7A ∷ []) [] ∷ []))))
      ≡ placed_at 0 (one_key 0x61) ∷ (placed_at 0 (one_key 0x7A) ∷ (placed_at 1 (over_key 0x61) ∷ (placed_at 1 (over_key 0x7A)
      ∷ (placed_at 2 (more (Some (digest fold (over_key 0x61))) (leaf fold (item parting_key [])) (end (Some (digest fold (over_key 0x7A))))) ∷ []))))
