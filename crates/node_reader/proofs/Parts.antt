-- An entry, part by part: where one part ends the next stands. Assumes nothing.
use Rattle.std.proofs.Common.{◌≡◌, ℕ, List, [], ◌∷◌, ◌++◌, drop, Option, sym, ap, ◌∙◌, append_assoc}
use mathlib.Core.List.{append_cancel_left}
use Rattle.node.specs.Format.{byte_string, entry_parts, head, link, link_or_null}
use Rattle.node.specs.WellFormed.{Link}
use Rattle.node.proofs.Prefixes.{byte_string_one, head_one, link_or_null_one}
use Rattle.node_reader.specs.Stands.{Stands}

module _ {s : List ℕ} {a b : ℕ} where
  pub past_bytes : {p q : List ℕ} → Stands s a p b → drop a s ≡ p ++ q → drop b s ≡ q
  past_bytes {p} {q} h e = append_cancel_left p (drop b s) q (sym h.is ∙ e)

  pub past_string : (k l : List ℕ) {q : List ℕ} → Stands s a (byte_string k) b → drop a s ≡ byte_string l ++ q → drop b s ≡ q
  past_string k l {q} h e = (byte_string_one k l (drop b s) q (sym h.is ∙ e)).1

  pub past_number : (n m : ℕ) {q : List ℕ} → Stands s a (head 0x00 n) b → drop a s ≡ head 0x00 m ++ q → drop b s ≡ q
  past_number n m {q} h e = (head_one 0x00 n m (drop b s) q (sym h.is ∙ e)).1

  pub past_link : (c : ℕ) (t u : Option (List ℕ)) {q : List ℕ} → Link t → Link u → Stands s a (link_or_null c t) b → drop a s ≡ link_or_null c u ++ q → drop b s ≡ q
  past_link c t u {q} lt lu h e = (link_or_null_one c t u (drop b s) q lt lu (sym h.is ∙ e)).1

  -- one after the other
  pub joins : {p q : List ℕ} {d : ℕ} → Stands s a p b → Stands s b q d → Stands s a (p ++ q) d
  joins {p} {q} {d} h k = record { within = k.within; is = h.is ∙ (ap (λ z. p ++ z) k.is ∙ sym (append_assoc p q (drop d s))) }

-- what follows the rest of the key, the number and the link after, up to r
abbrev pub from_v : ℕ → List ℕ → List ℕ → List ℕ
from_v c v r = 0x61 ∷ (0x76 ∷ (link c v ++ r))

abbrev pub from_t : ℕ → Option (List ℕ) → List ℕ → List ℕ → List ℕ
from_t c t v r = 0x61 ∷ (0x74 ∷ (link_or_null c t ++ from_v c v r))

abbrev pub from_p : ℕ → ℕ → Option (List ℕ) → List ℕ → List ℕ → List ℕ
from_p c p t v r = 0x61 ∷ (0x70 ∷ (head 0x00 p ++ from_t c t v r))

pub parts_right : (c : ℕ) (k : List ℕ) (p : ℕ) (t : Option (List ℕ)) (v r : List ℕ)
    → entry_parts c k p t v ++ r ≡ 0xA4 ∷ (0x61 ∷ (0x6B ∷ (byte_string k ++ from_p c p t v r)))
parts_right c k p t v r = simp append_assoc

-- in s an entry stands at `at`: where a part that was read ends, the next one stands
module _ (c : ℕ) (k : List ℕ) (p : ℕ) (t : Option (List ℕ)) (v r : List ℕ) {s : List ℕ} {at : ℕ} (e : drop at s ≡ entry_parts c k p t v ++ r)
    {ak : ℕ} (hk : Stands s at (0xA4 ∷ (0x61 ∷ (0x6B ∷ []))) ak) where
  pub at_k : drop ak s ≡ byte_string k ++ from_p c p t v r
  at_k = past_bytes hk (e ∙ parts_right c k p t v r)

  module _ (rest : List ℕ) {ek : ℕ} (hr : Stands s ak (byte_string rest) ek) where
    pub end_k : drop ek s ≡ from_p c p t v r
    end_k = past_string rest k hr at_k

    module _ {ap : ℕ} (hp : Stands s ek (0x61 ∷ (0x70 ∷ [])) ap) where
      pub at_p : drop ap s ≡ head 0x00 p ++ from_t c t v r
      at_p = past_bytes hp end_k

      module _ (n : ℕ) {ep : ℕ} (hn : Stands s ap (head 0x00 n) ep) where
        pub end_p : drop ep s ≡ from_t c t v r
        end_p = past_number n p hn at_p

        module _ {at' : ℕ} (ht : Stands s ep (0x61 ∷ (0x74 ∷ [])) at') where
          pub at_t : drop at' s ≡ link_or_null c t ++ from_v c v r
          at_t = past_bytes ht end_p

          module _ (u : Option (List ℕ)) (lu : Link u) (lt : Link t) {et : ℕ} (hu : Stands s at' (link_or_null c u) et) where
            pub end_t : drop et s ≡ from_v c v r
            end_t = past_link c u t lu lt hu at_t

            module _ {av : ℕ} (hv : Stands s et (0x61 ∷ (0x76 ∷ [])) av) where
              pub at_v : drop av s ≡ link c v ++ r
              at_v = past_bytes hv end_t
