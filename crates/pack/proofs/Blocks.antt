-- Walks over the parts of a block. Assumes nothing.
use Rattle.std.proofs.Common.{Bool, true, false, cond, ◌≡◌, ℕ, ◌+◌, ◌-◌, ◌≤◌, ◌&&◌, List, [], ◌∷◌, ◌++◌, length, take, drop, sym, refl, ap, ◌∙◌, arith}
use borrow.Rule.Slice.PartMut.{put_mid}
use Rattle.std.specs.Str.{bytes_eq}
use Rattle.std.proofs.lemmas.List.{append_assoc, drop_at, drop-drop, drop-take, length-append, length-drop, length-take-le, take_all, take-append-drop, take_at, take-take}
use Rattle.std.proofs.lemmas.Bool.{eq-eqb}
use Rattle.std.specs.Borrow.{Bor}
use Rattle.std.specs.Prelude.{◌==◌, slice_index, Some}
use Rattle.pack.specs.Block.{block_from, part_bytes}
use Rattle.pack.specs.Payloads.{Lends, behind}
use Rattle.pack.specs.Sector.{more_follows}
use Rattle.pack.specs.declared.read.Payloads.{Payloads}
use Rattle.pack.proofs.Sectors.{same_no}

-- a part, and the block that is left behind it
pub lent : (ps rest : Payloads) (payload : Bor (List ℕ)) → Lends ps (Some payload) rest → block_from ps.sectors.now ≡ payload.now ++ block_from rest.sectors.now
lent ps rest payload h =
    ap block_from h.2
    ∙ left (slice_index h.0 0 == more_follows)
    ∙ ap (λ p. p ++ block_from (behind h.0 h.1)) (sym h.3)
    ∙ ap (λ ss. payload.now ++ block_from ss) (sym h.4)
  where
    left : (b : Bool) → part_bytes h.0 ++ cond b (block_from h.1) [] ≡ part_bytes h.0 ++ block_from (cond b h.1 [])
    left true = refl
    left false = refl

-- a part of the list is next
pub record Next (b p x : List ℕ) (len : ℕ) : Type 0 where
  pub front : take (len + length p) b ≡ take len b ++ p
  pub back : drop (len + length p) b ≡ x
  pub room : len + length p ≤ length b

pub next : (b p x : List ℕ) (len : ℕ) → len ≤ length b → drop len b ≡ p ++ x → Next b p x len
next b p x len within is = record {
  front =
      sym (take-append-drop len (take (len + length p) b))
      ∙ ap (λ ys. ys ++ drop len (take (len + length p) b)) (take-take len (len + length p) b (omega arith))
      ∙ ap (λ ys. take len b ++ ys) (drop-take len (length p) b ∙ ap (take (length p)) is ∙ take_at p x (length p) refl);
  back = sym (drop-drop (length p) len b) ∙ ap (drop (length p)) is ∙ drop_at p x (length p) refl;
  room = omega (arith, length-drop len b, ap length is, length-append p x);
}

-- it is copied behind what was copied before
pub copied : (b p x w out start : List ℕ) (len end : ℕ) → len ≤ length b → drop len b ≡ p ++ x → out ≡ take len b ++ drop len start → w ≡ p → end ≡ len + length p → put_mid len (end - len) out w ≡ take end b ++ drop end start
copied b p x w out start len end within is before same at =
    let n = next b p x len within is in
    let size : length (take len b) ≡ len = length-take-le len b within in
    let count : end - len ≡ length p = omega arith in
    let there : len + length p ≡ end = omega arith in
    ap (λ o. put_mid len (end - len) o w) before
    ∙ ap (λ k. put_mid len k (take len b ++ drop len start) w) count
    ∙ ap (put_mid len (length p) (take len b ++ drop len start)) same
    ∙ placed (take len b) size
    ∙ ap (λ f. f ++ drop (len + length p) start) (sym n.front)
    ∙ ap (λ e. take e b ++ drop e start) there
  where
    placed : (f : List ℕ) → length f ≡ len → put_mid len (length p) (f ++ drop len start) p ≡ (f ++ p) ++ drop (len + length p) start
    placed f long = rw (take_at f (drop len start) len long, drop_at f (drop len start) len long, drop-drop (length p) len start) (sym (append_assoc f p (drop (len + length p) start)))

-- the whole block is copied
pub copied_all : (b start out : List ℕ) (len : ℕ) → len ≤ length b → drop len b ≡ [] → out ≡ take len b ++ drop len start → (len ≡ length b) × (out ≡ b ++ drop (length b) start)
copied_all b start out len within none is =
    let size : len ≡ length b = omega (arith, length-drop len b, ap length none) in
    (size, is ∙ ap (λ n. take n b ++ drop n start) size ∙ ap (λ f. f ++ drop (length b) start) (take_all (length b) b (omega arith)))

same_front : (p x y : List ℕ) → bytes_eq (p ++ x) (p ++ y) ≡ bytes_eq x y
same_front [] x y = refl
same_front (b ∷ p) x y = ap (λ t. t && bytes_eq (p ++ x) (p ++ y)) (eq-eqb b b refl) ∙ same_front p x y

-- a part that is the same is passed
pub passed : (b p x r y : List ℕ) → b ≡ p ++ x → r ≡ p ++ y → bytes_eq b r ≡ bytes_eq x y
passed b p x r y is starts = ap (λ z. bytes_eq z r) is ∙ ap (bytes_eq (p ++ x)) starts ∙ same_front p x y

-- one that is not tells
pub same_not : (b p x y : List ℕ) → b ≡ p ++ x → ((rest : List ℕ) → y ≡ p ++ rest → ⊥) → bytes_eq b y ≡ false
same_not b p x y is other = same_no b y (λ e. other x (sym e ∙ is))
