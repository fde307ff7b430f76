-- Names that are apart. Assumes nothing.
use Rattle.std.proofs.Common.{◌≡◌, ℕ, false, ◌||◌, List, [], ◌∷◌, ◌++◌, sym, refl, ap, ◌∙◌, rules}
use Rattle.std.specs.Str.{bytes_eq}
use Rattle.std.proofs.ByRecursion.{All-push}
use Rattle.std.proofs.lemmas.Slice.Eq.{bytes_eq-Decides}
use Rattle.std.proofs.lemmas.Bool.{or_parts, or_from}
use Rattle.std.proofs.Math.Bool.{or_assoc, or-false}
use Rattle.store.specs.Runs.{Pair}
use Rattle.pack.specs.Pack.{Fits, Apart, Sound, named}

pub same_turned : (xs ys : List ℕ) → bytes_eq xs ys ≡ bytes_eq ys xs
same_turned xs ys = search (rules, bytes_eq-Decides)

pub named_push : (ps : List Pair) (q : Pair) (name : List ℕ) → named (ps ++ (q ∷ [])) name ≡ (named ps name || bytes_eq q.name name)
named_push [] q name = or-false (bytes_eq q.name name)
named_push (p ∷ ps) q name = ap (λ b. bytes_eq p.name name || b) (named_push ps q name) ∙ sym (or_assoc (bytes_eq p.name name) (named ps name) (bytes_eq q.name name))

-- a name that stands in the middle is not among those before it
pub apart_before : (ps : List Pair) (q : Pair) (qs : List Pair) → Apart (ps ++ (q ∷ qs)) → named ps q.name ≡ false
apart_before [] q qs apart = refl
apart_before (p ∷ ps) q qs apart =
    or_from (bytes_eq p.name q.name) (named ps q.name) (same_turned p.name q.name ∙ other ps apart.0) (apart_before ps q qs apart.1) where
      other : (rs : List Pair) → named (rs ++ (q ∷ qs)) p.name ≡ false → bytes_eq q.name p.name ≡ false
      other [] is = (or_parts (bytes_eq q.name p.name) (named qs p.name) is).0
      other (r ∷ rs) is = other rs (or_parts (bytes_eq r.name p.name) (named (rs ++ (q ∷ qs)) p.name) is).1

pub apart_push : (ps : List Pair) (q : Pair) → Apart ps → named ps q.name ≡ false → Apart (ps ++ (q ∷ []))
apart_push [] q apart fresh = (refl, tt)
apart_push (p ∷ ps) q apart fresh =
    let parts = or_parts (bytes_eq p.name q.name) (named ps q.name) fresh in
    (named_push ps q p.name ∙ or_from (named ps p.name) (bytes_eq q.name p.name) apart.0 (same_turned q.name p.name ∙ parts.0), apart_push ps q apart.1 parts.1)

pub sound_push : (ps : List Pair) (q : Pair) → Sound ps → Fits q → named ps q.name ≡ false → Sound (ps ++ (q ∷ []))
sound_push ps q sound fits fresh = record { fit = All-push Fits ps q sound.fit fits; apart = apart_push ps q sound.apart fresh }
