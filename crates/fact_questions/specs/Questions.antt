-- Facts that a word and a name tell apart (docs/RULES.md, "Reports").
use Rattle.std.specs.Prelude.{Bool, true, false, ◌&&◌}
use Rattle.place_names.specs.declared.fact.Fact.{Fact}
use Rattle.place_names.specs.declared.rule.State.{State}
use Rattle.place_names.specs.declared.rule.State.TheVariants.{Moved, Borrowed, Observed}
use Rattle.place_names.specs.Names.{Name, overlaps}
use Rattle.place_names.specs.Facts.{place}
use Rattle.place_names.specs.Rules.{word}

-- One word is the other.
abbrev pub is_same_word : State → State → Bool
is_same_word Moved Moved = true
is_same_word Moved Borrowed = false
is_same_word Moved Observed = false
is_same_word Borrowed Moved = false
is_same_word Borrowed Borrowed = true
is_same_word Borrowed Observed = false
is_same_word Observed Moved = false
is_same_word Observed Borrowed = false
is_same_word Observed Observed = true

-- A report names the fact by this word, and its place overlaps m.
abbrev pub is_overlapping : Name → State → Fact → Bool
is_overlapping m w f = is_same_word (word f) w && overlaps (place f) m
