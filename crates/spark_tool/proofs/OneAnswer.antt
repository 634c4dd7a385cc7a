-- One answer is defined for the words and the files.
use Rattle.std.proofs.Common.{◌≡◌, ℕ, refl, sym, ap, ◌∙◌, subst, List, [], ◌∷◌, ◌++◌, All, Option, None, Some, Ok, Err}
use Rattle.spark_base.specs.declared.position.Pos.{Pos}
use Rattle.spark_base.specs.declared.limits.TheConstants.{SOURCE_BYTES, TOKENS}
use Rattle.ada_lexer.specs.Positions.{first_position}
use Rattle.ada_lexer.specs.Tokens.{Cut}
use Rattle.token_reading.proofs.OneRefused.{Order, same, earlier, later, order}
use Rattle.ada_tree.specs.declared.unit.SourceUnit.{SourceUnit}
use Rattle.ada_tree.specs.Refusals as grammar
use Rattle.name_events.specs.declared.declaration.NameRule.{NameRule}
use Rattle.name_events.specs.Faults.{name_fault}
use Rattle.type_definitions.specs.Whole.{TypeFault, type_fault}
use Rattle.type_definitions.specs.Refusals.{refusal_of}
use Rattle.typing_steps.specs.Programs.{program_of}
use Rattle.ada_grammar.proofs.OneRefused.{one_refused_of, tree_not_refused_of}
use Rattle.place_names.specs.Reports.{Report}
use Rattle.place_names.proofs.Reports.{report_list-unique}
use Rattle.flow_paths.specs.declared.refusal.LayFault.{LayFault}
use Rattle.flow_paths.specs.declared.report.Effects.{Effects}
use Rattle.flow_paths.specs.Effects.{AreEffects}
use Rattle.flow_paths.specs.Laid.{FlowProgram}
use Rattle.flow_paths.specs.Limits.{lay_fault}
use Rattle.flow_paths.specs.Reports.{ProgramReport, AreReports}
use Rattle.flow_paths.specs.declared.report.LeakLine.{LeakLine}
use Rattle.leak_checks.specs.Plan.{LeakPlan}
use Rattle.leak_checks.proofs.Unique.{plan-unique}
use Rattle.program_check.specs.Sources.{flow_of, printed_in}
use Rattle.rule_reports.specs.Lines.{leak_plan_lines}
use Rattle.program_check.proofs.OneEffects.{one_effects}
use Rattle.rule_reports.specs.declared.code.Code.{Code}
use Rattle.rule_reports.specs.declared.code.Code.TheVariants.{S1}
use Rattle.command_words.specs.Words.{Command, Check, Run, Leaks, Make, Selftest}
use Rattle.answered_runs.specs.run_command.Answers.{Answer}
use Rattle.answered_runs.specs.tool_answers.Commands.{command_of}
use Rattle.answered_runs.specs.tool_answers.Reading.{Sources, Texts, TooLarge, Missing, sources}
use Rattle.source_trees.specs.Cuts.{AllTokens, all_tokens}
use Rattle.source_trees.specs.Trees.{told_cut, AreTreesOf}
use Rattle.answered_runs.specs.tool_answers.Parsing.{IsParsed, IsRefusedAt, FirstRefused}
use Rattle.answered_runs.specs.tool_answers.Product.{Finding, Ends, Rejects, Passes, rejected, Lists, ends, rejects, planned, listed, leaks, Answers, Product, usage, check, check_answer, run, run_answer_of, make, made, Checks, missing, too_large, lexical, syntactic, unresolved, mistyped, beyond, checked, stops, unread, misused, judged, lexical_code, syntactic_code, name_code, type_code, limit_code, selftest, made_names, made_source, test_answer}
use Rattle.spark_tool.proofs.Parsed.{at_middle, parsed_of}

-- ---- pairs

abbrev value_or : {X : Type 0} → X → Option X → X
value_or x None = x
value_or x (Some y) = y

-- a pair that is found has its parts
same_parts : {A B : Type 0} (a a2 : A) (b b2 : B) (found : Option (A × B)) → found ≡ Some (a, b) → found ≡ Some (a2, b2) → (a ≡ a2) × (b ≡ b2)
same_parts {A} {B} a a2 b b2 found one two =
    let first : A × B = (a, b) in
    let second : A × B = (a2, b2) in
    let pairs : first ≡ second = sym (ap (value_or first) one) ∙ ap (value_or first) two in
    (ap (λ (p : A × B). p.0) pairs, ap (λ (p : A × B). p.1) pairs)

-- ---- the first file that the grammar refuses

-- the same code at the same position
abbrev IsSame : grammar.Code → Pos → grammar.Code → Pos → Type 0
IsSame code at code2 at2 = (code ≡ code2) × (at ≡ at2)

refused_at_once : (cuts cuts2 : List Cut) (code code2 : grammar.Code) (at at2 : Pos) → cuts ≡ cuts2 → IsRefusedAt code at cuts
    → IsRefusedAt code2 at2 cuts2 → IsSame code at code2 at2
refused_at_once cuts cuts2 code code2 at at2 e one two =
    let is = one_refused_of told_cut code one.before one.token one.behind code2 two.before two.token two.behind
    (sym one.splits ∙ e ∙ two.splits) one.refused two.refused in
    (is.0, sym one.position ∙ ap (λ (cut : Cut). cut.pos) is.1 ∙ two.position)

parsed_not_refused : (cuts : List Cut) (code : grammar.Code) (at : Pos) → IsParsed cuts → IsRefusedAt code at cuts → ⊥
parsed_not_refused cuts code at parsed r =
    tree_not_refused_of told_cut cuts parsed.0 code r.before r.token r.behind parsed.1 r.splits r.refused

refused_file_parsed : (code : grammar.Code) (at : Pos) (before : List (List Cut)) (file : List Cut) (between all : List (List Cut)) → IsRefusedAt code at file
    → All IsParsed all → all ≡ before ++ (file ∷ between) → ⊥
refused_file_parsed code at before file between all r parsed longer =
    parsed_not_refused file code at (at_middle IsParsed before file between (subst (λ (fs : List (List Cut)). All IsParsed fs) longer parsed)) r

first_refused_once : (files : List (List Cut)) (code code2 : grammar.Code) (at at2 : Pos) → FirstRefused code at files → FirstRefused code2 at2 files
    → IsSame code at code2 at2
first_refused_once files code code2 at at2 one two =
    of_order (order one.before one.file one.behind two.before two.file two.behind (sym one.splits ∙ two.splits))
  where
    of_order : Order one.before one.file one.behind two.before two.file two.behind → IsSame code at code2 at2
    of_order (same fronts cuts backs) = refused_at_once one.file two.file code code2 at at2 cuts one.refused two.refused
    of_order (earlier between longer) =
        absurd (refused_file_parsed code at one.before one.file between two.before one.refused two.parsed longer)
    of_order (later between longer) =
        absurd (refused_file_parsed code2 at2 two.before two.file between one.before two.refused one.parsed longer)

all_parsed_not_refused : (files : List (List Cut)) (code : grammar.Code) (at : Pos) → All IsParsed files → FirstRefused code at files → ⊥
all_parsed_not_refused files code at parsed first =
    refused_file_parsed code at first.before first.file first.behind files first.refused parsed first.splits

trees_not_refused : (files : List (List Cut)) (trees : List (List SourceUnit)) (code : grammar.Code) (at : Pos) → AreTreesOf files trees
    → FirstRefused code at files → ⊥
trees_not_refused files trees code at of first = all_parsed_not_refused files code at (parsed_of files trees of) first

-- ---- the trees of the files

trees_once : (files : List (List Cut)) (one two : List (List SourceUnit)) → AreTreesOf files one → AreTreesOf files two → one ≡ two
trees_once [] [] [] of of2 = refl
trees_once [] (units ∷ one) two of of2 = absurd of
trees_once [] [] (units ∷ two) of of2 = absurd of2
trees_once (cuts ∷ files) [] two of of2 = absurd of
trees_once (cuts ∷ files) (units ∷ one) [] of of2 = absurd of2
trees_once (cuts ∷ files) (units ∷ one) (units2 ∷ two) of of2 =
    ap (λ (u : List SourceUnit). u ∷ one) (of2.0.only units of.0.spells) ∙ ap (λ (rest : List (List SourceUnit)). units2 ∷ rest)
    (trees_once files one two of.1 of2.1)

-- ---- the answer to sources with these tokens

-- the reports of a program that is within its limits
record IsReported (names : List (List ℕ)) (program : FlowProgram) (answer : Finding) : Type 0 where
  effects : Effects
  found : List Report
  are : AreEffects program effects
  reports : AreReports program effects found
  says : answer ≡ judged names program found

-- by the first limit that a program is beyond
abbrev OfLimits : List (List ℕ) → FlowProgram → Option LayFault → Finding → Type 0
OfLimits names program (Some fault) answer = answer ≡ stops names (limit_code fault).0 (limit_code fault).1
OfLimits names program None answer = IsReported names program answer

-- by the first broken sentence on types
abbrev OfTypes : List (List ℕ) → FlowProgram → Option TypeFault → Finding → Type 0
OfTypes names program (Some broken) answer =
    (pos : Pos) × ((code : Code) × ((type_code (refusal_of broken) ≡ Some (pos, code)) × (answer ≡ stops names pos code)))
OfTypes names program None answer = OfLimits names program (lay_fault program) answer

-- by the first broken rule of names
abbrev OfNames : List (List ℕ) → List (List SourceUnit) → Option (NameRule × Pos) → Finding → Type 0
OfNames names trees (Some broken) answer = answer ≡ stops names broken.1 (name_code broken.0)
OfNames names trees None answer = OfTypes names (flow_of trees) (type_fault (program_of trees)) answer

data OfTokens (names : List (List ℕ)) (cuts : List (List Cut)) (answer : Finding) : Type 0 where
  refuses : (code : grammar.Code) (pos : Pos) → FirstRefused code pos cuts → answer ≡ stops names pos (syntactic_code code) → OfTokens names cuts answer
  parses : (trees : List (List SourceUnit)) → AreTreesOf cuts trees → OfNames names trees (name_fault trees) answer → OfTokens names cuts answer

reports_once : (names : List (List ℕ)) (program : FlowProgram) (a b : Finding) → IsReported names program a → IsReported names program b → a ≡ b
reports_once names program a b one two =
    let here = subst (λ (e : Effects). AreReports program e two.found) (one_effects program two.effects one.effects two.are one.are) two.reports in
    one.says
    ∙ ap (judged names program)
    (report_list-unique (printed_in program) (ProgramReport program one.effects) one.found two.found one.reports here)
    ∙ sym two.says

limits_once : (names : List (List ℕ)) (program : FlowProgram) (fault : Option LayFault) (a b : Finding) → OfLimits names program fault a
    → OfLimits names program fault b → a ≡ b
limits_once names program None a b one two = reports_once names program a b one two
limits_once names program (Some fault) a b one two = one ∙ sym two

types_once : (names : List (List ℕ)) (program : FlowProgram) (fault : Option TypeFault) (a b : Finding) → OfTypes names program fault a
    → OfTypes names program fault b → a ≡ b
types_once names program None a b one two = limits_once names program (lay_fault program) a b one two
types_once names program (Some broken) a b one two =
    let both = same_parts one.0 two.0 one.1.0 two.1.0 (type_code (refusal_of broken)) one.1.1.0 two.1.1.0 in
    one.1.1.1 ∙ ap (λ p. stops names p one.1.0) both.0 ∙ ap (λ c. stops names two.0 c) both.1 ∙ sym two.1.1.1

names_once : (names : List (List ℕ)) (trees : List (List SourceUnit)) (fault : Option (NameRule × Pos)) (a b : Finding)
    → OfNames names trees fault a → OfNames names trees fault b → a ≡ b
names_once names trees None a b one two = types_once names (flow_of trees) (type_fault (program_of trees)) a b one two
names_once names trees (Some broken) a b one two = one ∙ sym two

tokens_once : (names : List (List ℕ)) (cuts : List (List Cut)) (a b : Finding) → OfTokens names cuts a → OfTokens names cuts b → a ≡ b
tokens_once names cuts a b (refuses code pos first is) (refuses code2 pos2 first2 is2) =
    let once = first_refused_once cuts code code2 pos pos2 first first2 in
    is ∙ ap (λ c. stops names pos (syntactic_code c)) once.0 ∙ ap (λ p. stops names p (syntactic_code code2)) once.1 ∙ sym is2
tokens_once names cuts a b (refuses code pos first is) (parses trees of named) = absurd (trees_not_refused cuts trees code pos of first)
tokens_once names cuts a b (parses trees of named) (refuses code pos first is) = absurd (trees_not_refused cuts trees code pos of first)
tokens_once names cuts a b (parses trees of named) (parses trees2 of2 named2) =
    names_once names trees (name_fault trees) a b named
    (subst (λ (t : List (List SourceUnit)). OfNames names t (name_fault t) b) (trees_once cuts trees2 trees of2 of) named2)

-- ---- the answer to sources

-- what a check answers, by what is found of the texts
abbrev OfCut : List (List ℕ) → AllTokens → Finding → Type 0
OfCut names (Ok cuts) answer = OfTokens names cuts answer
OfCut names (Err fault) answer = (pos : Pos) × ((code : Code) × ((lexical_code fault ≡ Some (pos, code)) × (answer ≡ stops names pos code)))

abbrev Says : List (List ℕ) → Sources → Finding → Type 0
Says names Missing answer = answer ≡ Ends unread
Says names (TooLarge file) answer = answer ≡ stops names (first_position file) S1
Says names (Texts texts) answer = OfCut names (all_tokens 0 TOKENS texts) answer

of_trees : (names texts : List (List ℕ)) (cuts : List (List Cut)) (trees : List (List SourceUnit)) (answer : Finding)
    → all_tokens 0 TOKENS texts ≡ Ok cuts → AreTreesOf cuts trees → OfNames names trees (name_fault trees) answer
    → OfCut names (all_tokens 0 TOKENS texts) answer
of_trees names texts cuts trees answer cut of found =
    subst (λ (o : AllTokens). OfCut names o answer) (sym cut) (parses trees of found)

of_names : (names texts : List (List ℕ)) (cuts : List (List Cut)) (trees : List (List SourceUnit)) (answer : Finding)
    → all_tokens 0 TOKENS texts ≡ Ok cuts → AreTreesOf cuts trees → name_fault trees ≡ None
    → OfTypes names (flow_of trees) (type_fault (program_of trees)) answer → OfCut names (all_tokens 0 TOKENS texts) answer
of_names names texts cuts trees answer cut of named found =
    of_trees names texts cuts trees answer cut of
    (subst (λ (f : Option (NameRule × Pos)). OfNames names trees f answer) (sym named) found)

of_types : (names texts : List (List ℕ)) (cuts : List (List Cut)) (trees : List (List SourceUnit)) (answer : Finding)
    → all_tokens 0 TOKENS texts ≡ Ok cuts → AreTreesOf cuts trees → name_fault trees ≡ None → type_fault (program_of trees) ≡ None
    → OfLimits names (flow_of trees) (lay_fault (flow_of trees)) answer → OfCut names (all_tokens 0 TOKENS texts) answer
of_types names texts cuts trees answer cut of named fine found =
    of_names names texts cuts trees answer cut of named
    (subst (λ (f : Option TypeFault). OfTypes names (flow_of trees) f answer) (sym fine) found)

says : (names : List (List ℕ)) (found : Sources) (answer : Finding) → Checks names found answer → Says names found answer
says names _ _ missing = refl
says names _ _ (too_large file) = refl
says names _ _ (lexical texts fault pos code cut coded) =
    subst (λ (o : AllTokens). OfCut names o (stops names pos code)) (sym cut) (pos, (code, (coded, refl)))
says names _ _ (syntactic texts cuts code pos cut first) =
    subst (λ (o : AllTokens). OfCut names o (stops names pos (syntactic_code code))) (sym cut) (refuses code pos first refl)
says names _ _ (unresolved texts cuts trees broken pos cut of fault) =
    of_trees names texts cuts trees _ cut of
    (subst (λ (f : Option (NameRule × Pos)). OfNames names trees f (stops names pos (name_code broken))) (sym fault) refl)
says names _ _ (mistyped texts cuts trees broken pos code cut of named fault coded) =
    of_names names texts cuts trees _ cut of named
    (subst (λ (f : Option TypeFault). OfTypes names (flow_of trees) f (stops names pos code)) (sym fault) (pos, (code, (coded, refl))))
says names _ _ (beyond texts cuts trees fault cut of named fine over) =
    of_types names texts cuts trees _ cut of named fine
    (subst (λ (f : Option LayFault). OfLimits names (flow_of trees) f (stops names (limit_code fault).0 (limit_code fault).1)) (sym over) refl)
says names _ _ (checked texts cuts trees effects found cut of named fine within are reports) =
    of_types names texts cuts trees _ cut of named fine
    (subst (λ (f : Option LayFault). OfLimits names (flow_of trees) f (judged names (flow_of trees) found)) (sym within)
    (record { effects = effects; found = found; are = are; reports = reports; says = refl }))

cut_once : (names : List (List ℕ)) (cut : AllTokens) (a b : Finding) → OfCut names cut a → OfCut names cut b → a ≡ b
cut_once names (Ok cuts) a b one two = tokens_once names cuts a b one two
cut_once names (Err fault) a b one two =
    let both = same_parts one.0 two.0 one.1.0 two.1.0 (lexical_code fault) one.1.1.0 two.1.1.0 in
    one.1.1.1 ∙ ap (λ p. stops names p one.1.0) both.0 ∙ ap (λ c. stops names two.0 c) both.1 ∙ sym two.1.1.1

says_once : (names : List (List ℕ)) (found : Sources) (a b : Finding) → Says names found a → Says names found b → a ≡ b
says_once names Missing a b one two = one ∙ sym two
says_once names (TooLarge file) a b one two = one ∙ sym two
says_once names (Texts texts) a b one two = cut_once names (all_tokens 0 TOKENS texts) a b one two

-- one thing is found of sources
pub checks_once : (names : List (List ℕ)) (found : Sources) (a b : Finding) → Checks names found a → Checks names found b → a ≡ b
checks_once names found a b one two = says_once names found a b (says names found a one) (says names found b two)

-- ---- the answer to words

-- ---- the answer of the command for leak plans

abbrev Listed : List (List ℕ) → Finding → Answer → Type 0
Listed names (Ends told) answer = answer ≡ told
Listed names (Rejects main lines) answer = answer ≡ rejected lines
Listed names (Passes program) answer =
    (plan : List LeakLine) × ((effects : Effects) → LeakPlan program effects plan) × (answer ≡ listed (leak_plan_lines names (printed_in program) plan))

is_listed : (names : List (List ℕ)) (found : Finding) (answer : Answer) → Lists names found answer → Listed names found answer
is_listed names _ _ (ends answer) = refl
is_listed names _ _ (rejects main lines) = refl
is_listed names _ _ (planned program plan is) = (plan, is, refl)

no_effects : Effects
no_effects = record { read = []; written = [] }

listed_once : (names : List (List ℕ)) (found : Finding) (a b : Answer) → Listed names found a → Listed names found b → a ≡ b
listed_once names (Ends told) a b one two = one ∙ sym two
listed_once names (Rejects main lines) a b one two = one ∙ sym two
listed_once names (Passes program) a b one two =
    one.2
    ∙ ap (λ plan. listed (leak_plan_lines names (printed_in program) plan))
    (plan-unique program no_effects one.0 two.0 (one.1 no_effects) (two.1 no_effects))
    ∙ sym two.2

-- what a command answers, by what is found of its files
abbrev Told : List (List ℕ × List ℕ) → List ℕ → Option Command → Answer → Type 0
Told stored input None answer = answer ≡ misused
Told stored input (Some (Check names)) answer = (found : Finding) × Says names (sources stored 0 SOURCE_BYTES names) found × (answer ≡ check_answer found)
Told stored input (Some (Run names budget stats)) answer =
    (found : Finding) × Says names (sources stored 0 SOURCE_BYTES names) found × (answer ≡ run_answer_of names budget stats input found)
Told stored input (Some (Leaks names)) answer = (found : Finding) × Says names (sources stored 0 SOURCE_BYTES names) found × Listed names found answer
Told stored input (Some (Make n)) answer = answer ≡ made n
Told stored input (Some (Selftest n)) answer = (found : Finding) × Says made_names (made_source n) found × (answer ≡ test_answer n found)

told : (stored : List (List ℕ × List ℕ)) (input : List ℕ) (command : Option Command) (answer : Answer) → Answers stored input command answer
    → Told stored input command answer
told stored input _ _ usage = refl
told stored input _ _ (check names found checks) = (found, says names (sources stored 0 SOURCE_BYTES names) found checks, refl)
told stored input _ _ (run names budget stats found checks untrapped) = (found, says names (sources stored 0 SOURCE_BYTES names) found checks, refl)
told stored input _ _ (leaks names found answer checks lists) =
    (found, says names (sources stored 0 SOURCE_BYTES names) found checks, is_listed names found answer lists)
told stored input _ _ (make n) = refl
told stored input _ _ (selftest n found checks) = (found, says made_names (made_source n) found checks, refl)

found_once : {A : Type 0} (names : List (List ℕ)) (found : Sources) (f : Finding → A) (a b : A) → (x : Finding) × Says names found x × (a ≡ f x)
    → (x : Finding) × Says names found x × (b ≡ f x) → a ≡ b
found_once names found f a b one two = one.2 ∙ ap f (says_once names found one.0 two.0 one.1 two.1) ∙ sym two.2

told_once : (stored : List (List ℕ × List ℕ)) (input : List ℕ) (command : Option Command) (a b : Answer) → Told stored input command a
    → Told stored input command b → a ≡ b
told_once stored input None a b one two = one ∙ sym two
told_once stored input (Some (Check names)) a b one two = found_once names (sources stored 0 SOURCE_BYTES names) check_answer a b one two
told_once stored input (Some (Run names budget stats)) a b one two =
    found_once names (sources stored 0 SOURCE_BYTES names) (run_answer_of names budget stats input) a b one two
told_once stored input (Some (Leaks names)) a b one two =
    listed_once names two.0 a b
    (subst (λ (f : Finding). Listed names f a) (says_once names (sources stored 0 SOURCE_BYTES names) one.0 two.0 one.1 two.1) one.2) two.2
told_once stored input (Some (Make n)) a b one two = one ∙ sym two
told_once stored input (Some (Selftest n)) a b one two = found_once made_names (made_source n) (test_answer n) a b one two

pub one_answer : (stored : List (List ℕ × List ℕ)) (input : List ℕ) (words : List (List ℕ)) (a b : Answer) → Product stored input words a
    → Product stored input words b → a ≡ b
one_answer stored input words a b one two =
    told_once stored input (command_of words) a b (told stored input (command_of words) a one) (told stored input (command_of words) b two)
