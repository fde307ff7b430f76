-- The lines of a text.
--
--   newline         the byte that ends a line
--   terminated      a line followed by its newline
--   before          one byte more at the front of the first line
--   lines           the lines of a text, in order
--   Line            bytes with no newline among them
--   Closed          a text that is empty or ends with a newline
--   LinesOf         what the lines of a text are
--   Splits          the first line and the text after it
--
-- Assumes nothing.
use Rattle.std.specs.Prelude.{◌≡◌, ℕ, cond, ◌⊎◌, List, [], ◌∷◌, ◌++◌, ◌==◌, ◌≢◌}
use Rattle.std.specs.List.{flat_map, AllByRecursion}

-- 0A
abbrev pub newline : ℕ
newline = 10

-- a line as it stands in a text
abbrev pub terminated : List ℕ → List ℕ
terminated line = line ++ newline ∷ []

-- a byte put before the first line; where there is no line, it is a line of its own
abbrev pub before : ℕ → List (List ℕ) → List (List ℕ)
before b [] = (b ∷ []) ∷ []
before b (line ∷ rest) = (b ∷ line) ∷ rest

-- a newline ends a line, and a last line may lack it
unfoldable pub lines : List ℕ → List (List ℕ)
lines [] = []
lines (b ∷ text) = cond (b == newline) ([] ∷ lines text) (before b (lines text))

-- no byte is a newline
abbrev pub Line : List ℕ → Type 0
Line = AllByRecursion (λ b. b ≢ newline)

-- no line lacks its newline
abbrev pub Closed : List ℕ → Type 0
Closed text = (text ≡ []) ⊎ ((front : List ℕ) × (text ≡ terminated front))

-- this fixes the lines of a text, with no word of how they are found
pub record LinesOf (text : List ℕ) (ls : List (List ℕ)) : Type 0 where
  -- no line has a newline in it
  pub each : AllByRecursion Line ls
  -- the lines, each followed by a newline, are the text
  pub closed : Closed text → flat_map terminated ls ≡ text
  -- or, where the last line lacks its newline, the text with a newline after it
  pub unclosed : (Closed text → ⊥) → flat_map terminated ls ≡ terminated text

-- the text begins with this line, and the rest follows
pub record Splits (text line rest : List ℕ) : Type 0 where
  -- the line has no newline in it
  pub one : Line line
  -- the line is the whole text, or its newline and the rest come after it
  pub whole : ((text ≡ line) × (rest ≡ [])) ⊎ (text ≡ line ++ newline ∷ rest)
