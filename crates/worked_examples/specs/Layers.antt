-- Worked examples of layers: what the first bytes of a digest say of the layer. Assumes nothing.
use Rattle.std.specs.Prelude.{◌≡◌, ℕ, List, ◌∷◌}
use Rattle.digest.specs.Fold.{fold}
use Rattle.digest.specs.Layer.{layer}

-- under Fold, whatever the key and the rest of its digest
pub record WorkedLayers : Type 0 where
  pub begins_3f : (key rest : List ℕ) → fold.hash key ≡ 0x3f ∷ rest → layer fold key ≡ 1
  pub begins_00_00_00_01 : (key rest : List ℕ) → fold.hash key ≡ 0 ∷ (0 ∷ (0 ∷ (1 ∷ rest))) → layer fold key ≡ 15
  pub begins_00_00_00_00_80 : (key rest : List ℕ) → fold.hash key ≡ 0 ∷ (0 ∷ (0 ∷ (0 ∷ (0x80 ∷ rest)))) → layer fold key ≡ 16
