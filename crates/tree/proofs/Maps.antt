-- The laws of maps. Assumes nothing.
use Rattle.std.proofs.Common.{◌≡◌, ℕ, Bool, true, false, cond, ◌≢◌, List, [], ◌∷◌, Some, None, sym, refl, ap, ◌∙◌, subst, ⊎_elim, arith}
use Rattle.std.specs.List.{ContainsAt as Has, AllByRecursion}
use Rattle.std.proofs.ByRecursion.{all-has, all_has_itself, All-weaker, has_append_right}
use Rattle.std.proofs.lemmas.Bool.{cases_Bool, cond_both}
use Rattle.std.proofs.lemmas.Bool.Decides.{nat_tests}
use Rattle.keys.specs.Order.{before}
use Rattle.keys.proofs.Orders.{before_self, before_trans, before_neither, before_one_way}
use Rattle.tree.specs.Map.{IsKey, IsRecord, Item, Map, BeforeAll, Rising, insert, delete, lookup}
use Rattle.tree.specs.MapLaws.{MapLaws}
use Rattle.tree.proofs.Rows.{both-all}

-- what is known of a new item and of every old one

all_insert : (P : Item → Type 0) (k v : List ℕ) (m : Map) → P (record { key = k; value = v }) → AllByRecursion P m → AllByRecursion P (insert k v m)
all_insert P k v [] p h = (p, tt)
all_insert P k v (x ∷ m) p h =
    cond_both (before x.key k) _ _ (AllByRecursion P)
    (λ _. (h.0, all_insert P k v m p h.1))
    (λ _. cond_both (before k x.key) _ _ (AllByRecursion P) (λ _. (p, h)) (λ _. (p, h.1)))

all-delete : (P : Item → Type 0) (k : List ℕ) (m : Map) → AllByRecursion P m → AllByRecursion P (delete k m)
all-delete P k [] h = tt
all-delete P k (x ∷ m) h =
    cond_both (before x.key k) _ _ (AllByRecursion P) (λ _. (h.0, all-delete P k m h.1)) (λ _. cond_both (before k x.key) _ _ (AllByRecursion P) (λ _. h) (λ _. h.1))

-- rising lists stay rising

pub before-all_trans : (j k : List ℕ) (m : Map) → before j k ≡ true → BeforeAll k m → BeforeAll j m
before-all_trans j k m h = All-weaker (λ x. before k x.key ≡ true) (λ x. before j x.key ≡ true) (λ x. before_trans j k x.key h) m

before-all_same : (j k : List ℕ) (m : Map) → before j k ≡ false → before k j ≡ false → BeforeAll j m → BeforeAll k m
before-all_same j k m p q h = subst (λ i. BeforeAll i m) (before_neither j k p q) h

rising_insert : (k v : List ℕ) (m : Map) → Rising m → Rising (insert k v m)
rising_insert k v [] r = (tt, tt)
rising_insert k v (x ∷ m) r =
    cond_both (before x.key k) _ _ Rising
    (λ p. (all_insert (λ y. before x.key y.key ≡ true) k v m p r.0, rising_insert k v m r.1))
    (λ p. cond_both (before k x.key) _ _ Rising
    (λ q. ((q, before-all_trans k x.key m q r.0), r))
    (λ q. (before-all_same x.key k m p q r.0, r.1)))

rising_delete : (k : List ℕ) (m : Map) → Rising m → Rising (delete k m)
rising_delete k [] r = tt
rising_delete k (x ∷ m) r =
    cond_both (before x.key k) _ _ Rising
    (λ _. (all-delete (λ y. before x.key y.key ≡ true) k m r.0, rising_delete k m r.1))
    (λ _. cond_both (before k x.key) _ _ Rising (λ _. r) (λ _. r.1))

-- look-ups

-- a key before all others is not there
lookup-before : (k : List ℕ) (m : Map) → BeforeAll k m → lookup k m ≡ None
lookup-before k [] h = refl
lookup-before k (x ∷ m) h = rw (before_one_way k x.key h.0, h.0)

-- what is not after a first key is not in the rest
lookup_not_after : (k : List ℕ) (x : Item) (m : Map) → BeforeAll x.key m → before x.key k ≡ false → lookup k m ≡ None
lookup_not_after k x m h p =
    lookup-before k m
    (⊎_elim (λ q. before-all_trans k x.key m q h) (λ q. before-all_same x.key k m p q h) (cases_Bool (before k x.key)))

inserted : (k v : List ℕ) (m : Map) → lookup k (insert k v m) ≡ Some v
inserted k v [] = rw (before_self k)
inserted k v (x ∷ m) = let self = before_self k in let rest = inserted k v m in grind (arith, nat_tests)

insert_other : (k v j : List ℕ) (m : Map) → Rising m → j ≢ k → lookup j (insert k v m) ≡ lookup j m
insert_other k v j [] r ne = let lemma = before_neither k j in grind (arith, nat_tests)
insert_other k v j (x ∷ m) r ne =
    let rest = insert_other k v j m r.1 ne in
    let apart = before_neither k j in
    let over = before_trans k x.key j in
    let under = before_trans j k x.key in
    let same = before_neither x.key k in
    grind (arith, nat_tests)

deleted : (k : List ℕ) (m : Map) → Rising m → lookup k (delete k m) ≡ None
deleted k [] r = refl
deleted k (x ∷ m) r =
    let rest = deleted k m r.1 in
    let gone = lookup_not_after k x m r.0 in
    grind (arith, nat_tests)

delete_other : (k j : List ℕ) (m : Map) → Rising m → j ≢ k → lookup j (delete k m) ≡ lookup j m
delete_other k j [] r ne = refl
delete_other k j (x ∷ m) r ne =
    let rest = delete_other k j m r.1 ne in
    let same = before_neither x.key k in
    let apart = before_neither k j in
    let none = lookup_not_after j x m r.0 in
    grind (arith, nat_tests)

insert_same : (k v : List ℕ) (m : Map) → Rising m → lookup k m ≡ Some v → insert k v m ≡ m
insert_same k v [] r h = absurd (grind arith)
insert_same k v (x ∷ m) r h = go (before x.key k) refl (before k x.key) refl h (insert_same k v m r.1)
  where
    go : (s : Bool) → before x.key k ≡ s → (t : Bool) → before k x.key ≡ t
        → cond s (lookup k m) (cond t None (Some x.value)) ≡ Some v → (lookup k m ≡ Some v → insert k v m ≡ m)
        → cond s (x ∷ insert k v m) (cond t (record { key = k; value = v } ∷ (x ∷ m)) (record { key = k; value = v } ∷ m)) ≡ x ∷ m
    go true p t q found rest = ap (◌∷◌ x) (rest found)
    go false p true q found rest = absurd (grind arith)
    go false p false q found rest =
        let e : v ≡ x.value = cc in
        let f : k ≡ x.key = sym (before_neither x.key k p q) in
        λ i. record { key = f i; value = e i } ∷ m

delete_absent : (k : List ℕ) (m : Map) → lookup k m ≡ None → delete k m ≡ m
delete_absent k [] h = refl
delete_absent k (x ∷ m) h = let rest = delete_absent k m in grind (arith, nat_tests)

-- look-ups tell maps apart

first_same : (x y : Item) (m n : Map) → Rising (x ∷ m) → Rising (y ∷ n) → ((k : List ℕ) → lookup k (x ∷ m) ≡ lookup k (y ∷ n)) → x ≡ y
first_same x y m n r s same = go (before x.key y.key) refl (before y.key x.key) refl
  where
    -- a first key is before all of the other map's keys only if it is not there
    lone : (z w : Item) (a b : Map) → Rising (w ∷ b) → lookup z.key (z ∷ a) ≡ lookup z.key (w ∷ b) → before z.key w.key ≡ true → ⊥
    lone z w a b q e h =
        let self = before_self z.key in
        let none = lookup-before z.key (w ∷ b) (h, before-all_trans z.key w.key b h q.0) in
        absurd (grind (arith, nat_tests))

    go : (s : Bool) → before x.key y.key ≡ s → (t : Bool) → before y.key x.key ≡ t → x ≡ y
    go true p t q = absurd (lone x y m n s (same x.key) p)
    go false p true q = absurd (lone y x n m r (sym (same y.key)) q)
    go false p false q =
        let k : x.key ≡ y.key = before_neither x.key y.key p q in
        let e = same x.key in
        let self = before_self x.key in
        let v : x.value ≡ y.value = grind (arith, nat_tests) in
        λ i. record { key = k i; value = v i }

rest_same : (x : Item) (m n : Map) → BeforeAll x.key m → BeforeAll x.key n → (k : List ℕ) → lookup k (x ∷ m) ≡ lookup k (x ∷ n) → lookup k m ≡ lookup k n
rest_same x m n h i k e =
    let none = lookup_not_after k x m h in
    let none' = lookup_not_after k x n i in
    grind (arith, nat_tests)

pub equal_lookups : (m n : Map) → Rising m → Rising n → ((k : List ℕ) → lookup k m ≡ lookup k n) → m ≡ n
equal_lookups [] [] r s same = refl
equal_lookups [] (y ∷ n) r s same = let e = same y.key in let self = before_self y.key in absurd (grind (arith, nat_tests))
equal_lookups (x ∷ m) [] r s same = let e = same x.key in let self = before_self x.key in absurd (grind (arith, nat_tests))
equal_lookups (x ∷ m) (y ∷ n) r s same =
    let first : x ≡ y = first_same x y m n r s same in
    let after : BeforeAll x.key n = subst (λ (z : Item). BeforeAll z.key n) (sym first) s.0 in
    let lookups : (k : List ℕ) → lookup k (x ∷ m) ≡ lookup k (x ∷ n) = λ k. same k ∙ ap (λ (z : Item). lookup k (z ∷ n)) (sym first) in
    let rest : m ≡ n = equal_lookups m n r.1 s.1 (λ k. rest_same x m n r.0 after k (lookups k)) in
    cc

-- what is found is in the list, and what is in the list is found

found : (k v : List ℕ) (m : Map) → lookup k m ≡ Some v → Has m (record { key = k; value = v })
found k v [] h = absurd (grind arith)
found k v (x ∷ m) h = go (before x.key k) refl (before k x.key) refl h (found k v m)
  where
    go : (s : Bool) → before x.key k ≡ s → (t : Bool) → before k x.key ≡ t → cond s (lookup k m) (cond t None (Some x.value)) ≡ Some v
        → (lookup k m ≡ Some v → Has m (record { key = k; value = v })) → Has (x ∷ m) (record { key = k; value = v })
    go true p t q h rest = has_append_right (x ∷ []) m (record { key = k; value = v }) (rest h)
    go false p true q h rest = absurd (grind arith)
    go false p false q h rest =
        let key = before_neither x.key k p q in
        let value : x.value ≡ v = cc in
        let same : x ≡ record { key = k; value = v } = λ i. record { key = key i; value = value i } in
        subst (λ (y : Item). Has (x ∷ m) y) same (all_has_itself (x ∷ m)).0

listed-all : (m : Map) → Rising m → AllByRecursion (λ x. lookup x.key m ≡ Some x.value) m
listed-all [] r = tt
listed-all (y ∷ m) r = (
  rw (before_self y.key),
  both-all (λ x. before y.key x.key ≡ true) (λ x. lookup x.key m ≡ Some x.value) (λ x. lookup x.key (y ∷ m) ≡ Some x.value) (λ x p h. rw (p, h)) m r.0 (listed-all m r.1),
)

listed : (x : Item) (m : Map) → Rising m → Has m x → lookup x.key m ≡ Some x.value
listed x m r h = all-has (λ (x : Item). lookup x.key m ≡ Some x.value) m x (listed-all m r) h

pub map_laws : MapLaws
map_laws = record {
  insert_keeps = λ k v m key value is. record {
    rising = rising_insert k v m is.rising;
    keys = all_insert (λ x. IsKey x.key) k v m key is.keys;
    records = all_insert (λ x. IsRecord x.value) k v m value is.records;
  };
  delete_keeps = λ k m is. record {
    rising = rising_delete k m is.rising;
    keys = all-delete (λ x. IsKey x.key) k m is.keys;
    records = all-delete (λ x. IsRecord x.value) k m is.records;
  };
  inserted = λ k v m r. inserted k v m;
  insert_other = insert_other;
  deleted = deleted;
  delete_other = delete_other;
  insert_same = insert_same;
  delete_absent = λ k m r. delete_absent k m;
  found = found;
  listed = listed;
  equal_lookups = equal_lookups;
}
