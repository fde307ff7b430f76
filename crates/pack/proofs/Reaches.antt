-- What was read up to a state, and how it can go on to a good pack. Assumes nothing.
use Rattle.std.proofs.lemmas.Grind.{common_steps}
use Rattle.std.proofs.Common.{◌≡◌, ℕ, zero, suc, ◌+◌, ◌*◌, ◌<◌, ◌≤◌, Bool, true, false, cond, List, [], ◌∷◌, ◌++◌, length, take, drop, Some, None, sym, refl, ap, ◌∙◌, subst, arith}
use Rattle.std.specs.Str.{bytes_eq}
use Rattle.std.proofs.lemmas.Slice.Eq.{bytes_eq-Decides}
use Rattle.std.proofs.lemmas.List.{append_assoc, append-nil, drop-append-le, length-append, length-drop, length-take-le, take_all, take-append-le}
use Rattle.store.specs.Runs.{Pair}
use Rattle.pack.specs.Sector.{last, more_follows, name_of, count_of, payload_of, sector, unused_sector}
use Rattle.pack.specs.Pack.{Sound, block_sectors, blocks, full_parts, named, pack_sectors, parts}
use Rattle.pack.specs.Reader.{State, between, inside, ended, ends, fewest, goes_on, part_step, step}
use Rattle.pack.proofs.Names.{sound_push}
use Rattle.pack.proofs.Sectors.{Full, full, Last, ended_by}

-- the full parts of a block, from this part number on
abbrev pub fulls : List ℕ → ℕ → ℕ → List ℕ → List (List ℕ)
fulls name part zero bytes = []
fulls name part (suc k) bytes = sector more_follows part name (take 468 bytes) ∷ fulls name (part + 1) k (drop 468 bytes)

front : (bytes payload : List ℕ) → 468 ≤ length bytes → take 468 (bytes ++ payload) ≡ take 468 bytes
front bytes payload long = take-append-le 468 bytes payload long

-- one more full part
pub fulls_push : (k : ℕ) (name : List ℕ) (part : ℕ) (bytes payload : List ℕ) → length bytes ≡ k * 468 → length payload ≡ 468 → fulls name part k bytes ++ (sector more_follows (part + k) name payload ∷ []) ≡ fulls name part (k + 1) (bytes ++ payload)
fulls_push zero name part [] payload long whole =
    let here : part + 0 ≡ part = omega arith in
    let all : take 468 payload ≡ payload = take_all 468 payload (omega arith) in
    rw (here, all)
fulls_push zero name part (b ∷ bytes) payload long whole = absurd (omega arith)
fulls_push (suc k) name part bytes payload long whole =
    let one : take 468 (bytes ++ payload) ≡ take 468 bytes = front bytes payload (omega arith) in
    let two : drop 468 (bytes ++ payload) ≡ drop 468 bytes ++ payload = drop-append-le 468 bytes payload (omega arith) in
    let there : part + suc k ≡ part + 1 + k = omega arith in
    let more = fulls_push k name (part + 1) (drop 468 bytes) payload (omega (arith, length-drop 468 bytes)) whole in
    let count : suc k + 1 ≡ suc (k + 1) = omega arith in
    rw (count, one, two, there) (ap (λ ss. sector more_follows part name (take 468 bytes) ∷ ss) more)

-- the last part
pub fulls_last : (k : ℕ) (name : List ℕ) (part : ℕ) (bytes payload : List ℕ) → length bytes ≡ k * 468 → fulls name part k bytes ++ (sector last (part + k) name payload ∷ []) ≡ parts name part k (bytes ++ payload)
fulls_last zero name part [] payload long =
    let here : part + 0 ≡ part = omega arith in
    rw here
fulls_last zero name part (b ∷ bytes) payload long = absurd (omega arith)
fulls_last (suc k) name part bytes payload long =
    let one : take 468 (bytes ++ payload) ≡ take 468 bytes = front bytes payload (omega arith) in
    let two : drop 468 (bytes ++ payload) ≡ drop 468 bytes ++ payload = drop-append-le 468 bytes payload (omega arith) in
    let there : part + suc k ≡ part + 1 + k = omega arith in
    let more = fulls_last k name (part + 1) (drop 468 bytes) payload (omega (arith, length-drop 468 bytes)) in
    rw (one, two, there) (ap (λ ss. sector more_follows part name (take 468 bytes) ∷ ss) more)

-- so many full parts and a last one make a block
pub counted_parts : (k count : ℕ) → count ≤ 468 → fewest k ≤ count → full_parts (k * 468 + count) ≡ k
counted_parts k count short some = grind arith

pub blocks_push : (ps : List Pair) (q : Pair) → blocks (ps ++ (q ∷ [])) ≡ blocks ps ++ block_sectors q.name q.block
blocks_push [] q = append-nil (block_sectors q.name q.block)
blocks_push (p ∷ ps) q = ap (λ ss. block_sectors p.name p.block ++ ss) (blocks_push ps q) ∙ sym (append_assoc (block_sectors p.name p.block) (blocks ps) (block_sectors q.name q.block))

-- inside a block
pub record In (left : ℕ) (xs : List (List ℕ)) (pairs : List Pair) (name : List ℕ) (part : ℕ) (bytes : List ℕ) : Type 0 where
  pub sound : Sound pairs
  pub fresh : named pairs name ≡ false
  pub long : length name ≡ 32
  pub size : length bytes ≡ part * 468
  pub room : part * 468 < 10752
  pub more : 0 < left
  pub is : xs ≡ blocks pairs ++ fulls name 0 part bytes

-- these sectors lead to this state, and so many are left
abbrev pub Reached : ℕ → List (List ℕ) → State → Type 0
Reached left xs (between pairs) = Sound pairs × (xs ≡ blocks pairs)
Reached left xs (inside pairs name part bytes) = In left xs pairs name part bytes
Reached left xs (ended pairs n) = Sound pairs × (xs ≡ pack_sectors pairs n)

pub reached_start : (left : ℕ) → Reached left [] (between [])
reached_start left = (record { fit = tt; apart = tt }, refl)

-- where a block begins
pub reached_in : (left : ℕ) (xs : List (List ℕ)) (pairs : List Pair) (name : List ℕ) → Reached (suc left) xs (between pairs) → length name ≡ 32 → named pairs name ≡ false → In (suc left) xs pairs name 0 []
reached_in left xs pairs name r long fresh = grind (arith, common_steps)

length_payload : (s : List ℕ) (count : ℕ) → length s ≡ 512 → count ≤ 468 → length (payload_of count s) ≡ count
length_payload s count whole short = length-take-le count (drop 40 s) (omega (arith, length-drop 40 s))

pub reached_more : (left : ℕ) (xs : List (List ℕ)) (pairs : List Pair) (name : List ℕ) (part : ℕ) (bytes s : List ℕ) → In (suc left) xs pairs name part bytes → length s ≡ 512 → name_of s ≡ name → Full left part s → In left (xs ++ (s ∷ [])) pairs name (part + 1) (bytes ++ payload_of 468 s)
reached_more left xs pairs name part bytes s h whole same f =
    let load = payload_of 468 s in
    let size : length load ≡ 468 = length_payload s 468 whole (omega arith) in
    let here : 0 + part ≡ part = omega arith in
    let s-is : s ≡ sector more_follows (0 + part) name load = f.is ∙ ap (λ n. sector more_follows part n load) same ∙ ap (λ p. sector more_follows p name load) (sym here) in
    record {
      sound = h.sound;
      fresh = h.fresh;
      long = h.long;
      size = omega (arith, length-append bytes load, h.size);
      room = f.room;
      more = f.more;
      is =
          ap (λ ss. ss ++ (s ∷ [])) h.is
          ∙ append_assoc (blocks pairs) (fulls name 0 part bytes) (s ∷ [])
          ∙ ap (λ t. blocks pairs ++ (fulls name 0 part bytes ++ (t ∷ []))) s-is
          ∙ ap (λ ss. blocks pairs ++ ss) (fulls_push part name 0 bytes load h.size size);
    }

-- a block whose full parts were read, with a last part
pub closes : (left : ℕ) (xs : List (List ℕ)) (pairs : List Pair) (name : List ℕ) (part : ℕ) (bytes load : List ℕ) → In left xs pairs name part bytes → length load ≤ 468 → fewest part ≤ length load → part * 468 + length load ≤ 10752 → Sound (pairs ++ (record { name = name; block = bytes ++ load } ∷ [])) × (xs ++ (sector last part name load ∷ []) ≡ blocks (pairs ++ (record { name = name; block = bytes ++ load } ∷ [])))
closes left xs pairs name part bytes load h short some room =
    let pair : Pair = record { name = name; block = bytes ++ load } in
    let size : length (bytes ++ load) ≡ part * 468 + length load = omega (arith, length-append bytes load, h.size) in
    let count : full_parts (length (bytes ++ load)) ≡ part = ap full_parts size ∙ counted_parts part (length load) short some in
    let here : 0 + part ≡ part = omega arith in (
      sound_push pairs pair h.sound (record { name_length = h.long; block_length = omega (arith, size) }) h.fresh,
      ap (λ ss. ss ++ (sector last part name load ∷ [])) h.is
          ∙ append_assoc (blocks pairs) (fulls name 0 part bytes) (sector last part name load ∷ [])
          ∙ ap (λ p. blocks pairs ++ (fulls name 0 part bytes ++ (sector last p name load ∷ []))) (sym here)
          ∙ ap (λ ss. blocks pairs ++ ss) (fulls_last part name 0 bytes load h.size)
          ∙ ap (λ k. blocks pairs ++ parts name 0 k (bytes ++ load)) (sym count)
          ∙ sym (blocks_push pairs pair),
    )

pub reached_last : (left : ℕ) (xs : List (List ℕ)) (pairs : List Pair) (name : List ℕ) (part : ℕ) (bytes s : List ℕ) → In (suc left) xs pairs name part bytes → length s ≡ 512 → name_of s ≡ name → Last part s → Reached left (xs ++ (s ∷ [])) (between (pairs ++ (record { name = name; block = bytes ++ payload_of (count_of s) s } ∷ [])))
reached_last left xs pairs name part bytes s h whole same f =
    let load = payload_of (count_of s) s in
    let size : length load ≡ count_of s = length_payload s (count_of s) whole f.short in
    let c = closes (suc left) xs pairs name part bytes load h (omega (arith, f.short)) (omega (arith, f.some)) (omega (arith, f.room)) in
    let s-is : s ≡ sector last part name load = f.is ∙ ap (λ n. sector last part n load) same in
    (c.0, ap (λ t. xs ++ (t ∷ [])) s-is ∙ c.1)

pub reached_unused : (xs : List (List ℕ)) (pairs : List Pair) (n : ℕ) (s : List ℕ) → xs ≡ pack_sectors pairs n → s ≡ unused_sector → xs ++ (s ∷ []) ≡ pack_sectors pairs (n + 1)
reached_unused xs pairs n s is same = grind (arith, common_steps)

part_reached : (left : ℕ) (xs : List (List ℕ)) (pairs : List Pair) (name : List ℕ) (part : ℕ) (bytes s : List ℕ) (after : State) → In (suc left) xs pairs name part bytes → length s ≡ 512 → part_step left pairs name part bytes s ≡ Some after → Reached left (xs ++ (s ∷ [])) after
part_reached left xs pairs name part bytes s after h whole is = by_name (bytes_eq (name_of s) name) refl is where
  Next : Type 0
  Next = Reached left (xs ++ (s ∷ [])) after

  by_end : name_of s ≡ name → (b : Bool) → ends part s ≡ b → cond b (Some (between (pairs ++ (record { name = name; block = bytes ++ payload_of (count_of s) s } ∷ [])))) None ≡ Some after → Next
  by_end same true e i =
      let q : between (pairs ++ (record { name = name; block = bytes ++ payload_of (count_of s) s } ∷ [])) ≡ after = cc in
      subst (λ st. Reached left (xs ++ (s ∷ [])) st) q (reached_last left xs pairs name part bytes s h whole same (ended_by part s e))
  by_end same false e i = absurd (grind arith)

  by_more : name_of s ≡ name → (b : Bool) → goes_on left part s ≡ b → cond b (Some (inside pairs name (part + 1) (bytes ++ payload_of 468 s))) (cond (ends part s) (Some (between (pairs ++ (record { name = name; block = bytes ++ payload_of (count_of s) s } ∷ [])))) None) ≡ Some after → Next
  by_more same true e i =
      let q : inside pairs name (part + 1) (bytes ++ payload_of 468 s) ≡ after = cc in
      subst (λ st. Reached left (xs ++ (s ∷ [])) st) q (reached_more left xs pairs name part bytes s h whole same (full left part s e))
  by_more same false e i = by_end same (ends part s) refl i

  by_name : (b : Bool) → bytes_eq (name_of s) name ≡ b → cond b (cond (goes_on left part s) (Some (inside pairs name (part + 1) (bytes ++ payload_of 468 s))) (cond (ends part s) (Some (between (pairs ++ (record { name = name; block = bytes ++ payload_of (count_of s) s } ∷ [])))) None)) None ≡ Some after → Next
  by_name true e i = by_more ((bytes_eq-Decides (name_of s) name).0 e) (goes_on left part s) refl i
  by_name false e i = absurd (grind arith)

pub length_name : (s : List ℕ) → length s ≡ 512 → length (name_of s) ≡ 32
length_name s whole = length-take-le 32 (drop 8 s) (omega (arith, length-drop 8 s))

pub step_reached : (left : ℕ) (xs : List (List ℕ)) (state : State) (s : List ℕ) (after : State) → Reached (suc left) xs state → length s ≡ 512 → step left state s ≡ Some after → Reached left (xs ++ (s ∷ [])) after
step_reached left xs (between pairs) s after r whole is = by_use (bytes_eq s unused_sector) refl is where
  by_name : (b : Bool) → named pairs (name_of s) ≡ b → cond b None (part_step left pairs (name_of s) 0 [] s) ≡ Some after → Reached left (xs ++ (s ∷ [])) after
  by_name true e i = absurd (grind arith)
  by_name false e i = part_reached left xs pairs (name_of s) 0 [] s after (reached_in left xs pairs (name_of s) r (length_name s whole) e) whole i

  by_use : (b : Bool) → bytes_eq s unused_sector ≡ b → cond b (Some (ended pairs 1)) (cond (named pairs (name_of s)) None (part_step left pairs (name_of s) 0 [] s)) ≡ Some after → Reached left (xs ++ (s ∷ [])) after
  by_use true e i =
      let q : ended pairs 1 ≡ after = cc in
      subst (λ st. Reached left (xs ++ (s ∷ [])) st) q (r.0, reached_unused xs pairs 0 s (r.1 ∙ sym (append-nil (blocks pairs))) ((bytes_eq-Decides s unused_sector).0 e))
  by_use false e i = by_name (named pairs (name_of s)) refl i
step_reached left xs (inside pairs name part bytes) s after r whole is = part_reached left xs pairs name part bytes s after r whole is
step_reached left xs (ended pairs n) s after r whole is = by_use (bytes_eq s unused_sector) refl is where
  by_use : (b : Bool) → bytes_eq s unused_sector ≡ b → cond b (Some (ended pairs (n + 1))) None ≡ Some after → Reached left (xs ++ (s ∷ [])) after
  by_use true e i =
      let q : ended pairs (n + 1) ≡ after = cc in
      subst (λ st. Reached left (xs ++ (s ∷ [])) st) q (r.0, reached_unused xs pairs n s r.1 ((bytes_eq-Decides s unused_sector).0 e))
  by_use false e i = absurd (grind arith)
