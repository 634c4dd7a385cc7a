-- The lines of refusals, reports, leak checks and self tests, and the fixed lines (docs/TOOL.md,
-- "Lines").
use Rattle.std.specs.Prelude.{ℕ, Bool, true, false, List, [], ◌∷◌, ◌++◌, Option, Some, None, flat_map, codes}
use Rattle.std.specs.Fmt.{decimal}
use Rattle.spark_base.specs.declared.position.Pos.{Pos}
use Rattle.spark_base.specs.Positions.{position_text}
use Rattle.place_names.specs.declared.rule.State.{State}
use Rattle.place_names.specs.declared.rule.Rule.{Rule}
use Rattle.place_names.specs.declared.rule.Rule.TheVariants.{O1, O2, O3, O4, O5, O6, O7, O8, O9, O10, O11, O14, A1, A2, V1, V2, V3, V4}
use Rattle.place_names.specs.Names.{Name}
use Rattle.place_names.specs.Reports.{Report}
use Rattle.place_names.specs.Texts.{state_text, rule_text}
use Rattle.flow_paths.specs.declared.report.LeakLine.{LeakLine}
use Rattle.rule_reports.specs.declared.code.Code.{Code}
use Rattle.rule_reports.specs.declared.summary.Summary.{Summary}
use Rattle.rule_reports.specs.Codes.{code_letters, code_text}

-- A text and the line feed that ends each line.
abbrev pub line : List ℕ → List ℕ
line text = text ++ 10 ∷ []

-- POS: CODE TEXT
abbrev pub refusal_line : List (List ℕ) → Pos → Code → List ℕ
refusal_line files pos code =
    line (position_text files pos ++ codes ": " ++ code_letters code ++ codes " " ++ code_text code)

-- What the rules that look at the text without paths say. A report of another rule has a word: the
-- kind of fact that forbids.
abbrev pub rule_words : Rule → List ℕ
rule_words O1 = []
rule_words O2 = []
rule_words O3 = []
rule_words O4 = []
rule_words O5 = []
rule_words O6 = []
rule_words O7 = []
rule_words O8 = []
rule_words O9 = []
rule_words O10 = []
rule_words O11 = []
rule_words O14 = []
rule_words A1 = codes "overlaps another actual"
rule_words A2 = codes "overlaps a global of the callee"
rule_words V1 = codes "constant view"
rule_words V2 = codes "source ends before the observer"
rule_words V3 = codes "not rooted in the traversed parameter"
rule_words V4 = codes "not rooted in the borrower"

abbrev pub word_text : Rule → Option State → List ℕ
word_text rule None = rule_words rule
word_text rule (Some word) = state_text word

-- POS: RULE NAME: WORD. The text of each file's name and of each name of a place is given.
abbrev pub report_line : List (List ℕ) → (Name → List ℕ) → Report → List ℕ
report_line files printed r =
    line (position_text files r.pos ++ codes ": " ++ rule_text r.rule ++ codes " " ++ printed r.name
    ++ codes ": " ++ word_text r.rule r.word)

-- The lines of some reports, in their order.
abbrev pub report_lines : List (List ℕ) → (Name → List ℕ) → List Report → List ℕ
report_lines files printed reports = flat_map (report_line files printed) reports

-- What is said of a leak check.
abbrev pub check_word : Bool → List ℕ
check_word true = codes "excused"
check_word false = codes "checked"

-- POS: NAME checked, or POS: NAME excused
abbrev pub leak_plan_line : List (List ℕ) → (Name → List ℕ) → LeakLine → List ℕ
leak_plan_line files printed check =
    line (position_text files check.pos ++ codes ": " ++ printed check.name ++ codes " " ++ check_word check.excused)

-- The lines of some leak checks, in their order.
abbrev pub leak_plan_lines : List (List ℕ) → (Name → List ℕ) → List LeakLine → List ℕ
leak_plan_lines files printed checks = flat_map (leak_plan_line files printed) checks

-- selftest N: output B bytes, steps S, made M, freed F, leaked K
abbrev pub output_part : ℕ → ℕ → List ℕ
output_part number bytes = codes "selftest " ++ decimal number ++ codes ": output " ++ decimal bytes ++ codes " bytes"

abbrev pub counts_part : ℕ → ℕ → ℕ → ℕ → List ℕ
counts_part steps made freed leaked =
    line (codes ", steps " ++ decimal steps ++ codes ", made " ++ decimal made ++ codes ", freed " ++ decimal freed
    ++ codes ", leaked " ++ decimal leaked)

abbrev pub summary_line : Summary → List ℕ
summary_line s = output_part s.number s.bytes ++ counts_part s.steps s.made s.freed s.leaked

-- What `spark check` writes where nothing is reported.
abbrev pub accepted_line : List ℕ
accepted_line = line (codes "accepted")

-- The words that the program takes.
abbrev pub usage_line : List ℕ
usage_line = line (codes "usage: spark check FILE... | run [--steps=N] [--stats] FILE... | leaks FILE... | make N | selftest N")
