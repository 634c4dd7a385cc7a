-- The texts of words and rules (docs/RULES.md, "Reports").
use Rattle.std.specs.Prelude.{ℕ, List, codes}
use Rattle.place_names.specs.declared.rule.State.{State}
use Rattle.place_names.specs.declared.rule.State.TheVariants.{Moved, Borrowed, Observed}
use Rattle.place_names.specs.declared.rule.Rule.{Rule}
use Rattle.place_names.specs.declared.rule.Rule.TheVariants.{O1, O2, O3, O4, O5, O6, O7, O8, O9, O10, O11, O14, A1, A2, V1, V2, V3, V4}

-- The word of a report.
abbrev pub state_text : State → List ℕ
state_text Moved = codes "moved"
state_text Borrowed = codes "borrowed"
state_text Observed = codes "observed"

-- The code of a rule.
abbrev pub rule_text : Rule → List ℕ
rule_text O1 = codes "O1"
rule_text O2 = codes "O2"
rule_text O3 = codes "O3"
rule_text O4 = codes "O4"
rule_text O5 = codes "O5"
rule_text O6 = codes "O6"
rule_text O7 = codes "O7"
rule_text O8 = codes "O8"
rule_text O9 = codes "O9"
rule_text O10 = codes "O10"
rule_text O11 = codes "O11"
rule_text O14 = codes "O14"
rule_text A1 = codes "A1"
rule_text A2 = codes "A2"
rule_text V1 = codes "V1"
rule_text V2 = codes "V2"
rule_text V3 = codes "V3"
rule_text V4 = codes "V4"
