-- Types within the limits (docs/LANGUAGE.md, "Types").
use Rattle.std.specs.Prelude.{◌≤◌, ℕ, length, IsTrue}
use Rattle.type_definitions.specs.Types.{Table, words, parts}
use Rattle.type_definitions.specs.Whole.{all_short}

-- A type has at most 65,536 words, and at most 64 access parts of at most 16 selectors.
pub record IsWithin (table : Table) (t : ℕ) : Type 0 where
  pub few_words : words table t ≤ 65536
  pub few_parts : length (parts table t) ≤ 64
  pub short_parts : IsTrue (all_short (parts table t))

-- All types are within the limits.
abbrev pub AreWithin : Table → Type 0
AreWithin table = (t : ℕ) → IsWithin table t
