-- Spellings whose tokens carry how they count for the limits of depth and of operators
-- (docs/TOOL.md, "Limits").
--
-- The operators of one outermost expression are counted along the tokens. A token apart from all
-- expressions ends the count. Two outermost expressions never stand side by side: a token that is
-- part of neither stands between them.
use Rattle.std.specs.Prelude.{◌≡◌, ℕ, suc, Bool, false, List, [], ◌∷◌, ◌++◌}
use lib.Dec.{leb}
use Rattle.spark_base.specs.declared.limits.TheConstants.{NESTING, OPERATORS}
use Rattle.token_reading.specs.declared.side.Side.{Side}
use Rattle.token_reading.specs.declared.side.Side.TheVariants.{Apart, Within}
use Rattle.token_reading.specs.Spelled.{Spelled, EndOfFile}

-- How a token counts, by the operators of its outermost expression that stand before it.
pub record Weight : Type 0 where
  -- whether the token exceeds the limit
  pub exceeds : ℕ → Bool
  -- the operators after the token
  pub step : ℕ → ℕ

abbrev pub rests : Side → ℕ → ℕ
rests Apart k = 0
rests Within k = k

-- The token opens no construct and is no operator.
abbrev pub resting : Side → Weight
resting side = record { exceeds = λ k. false; step = rests side }

-- The token opens a construct, and so many are open around it.
abbrev pub opening : Side → ℕ → Weight
opening side depth = record { exceeds = λ k. leb NESTING depth; step = rests side }

-- The token is an operator, or the first word of one.
abbrev pub operating : Weight
operating = record { exceeds = λ k. leb OPERATORS k; step = λ k. suc k }

pub record WeighedToken : Type 0 where
  pub token : Spelled
  pub weight : Weight

abbrev pub plain : Side → Spelled → WeighedToken
plain side t = record { token = t; weight = resting side }

abbrev pub opens : Side → ℕ → Spelled → WeighedToken
opens side depth t = record { token = t; weight = opening side depth }

abbrev pub operates : Spelled → WeighedToken
operates t = record { token = t; weight = operating }

-- The tokens alone.
abbrev pub bare : List WeighedToken → List Spelled
bare [] = []
bare (m ∷ ms) = m.token ∷ bare ms

-- The operators of one outermost expression after these tokens, where so many stand before them.
abbrev pub after : ℕ → List WeighedToken → ℕ
after k [] = k
after k (m ∷ ms) = after (m.weight.step k) ms

-- A token of a source that exceeds no limit, where so many operators stand before it.
pub record IsWithinLimits (k : ℕ) (m : WeighedToken) : Type 0 where
  pub allowed : m.weight.exceeds k ≡ false
  pub within_file : m.token ≡ EndOfFile → ⊥

abbrev pub WithinLimits : ℕ → List WeighedToken → Type 0
WithinLimits k [] = Unit {0}
WithinLimits k (m ∷ ms) = IsWithinLimits k m × WithinLimits (m.weight.step k) ms

-- Parts in a row.
abbrev pub row_spelling : {A : Type 0} → (A → List WeighedToken) → List A → List WeighedToken
row_spelling s [] = []
row_spelling s (x ∷ xs) = s x ++ row_spelling s xs
