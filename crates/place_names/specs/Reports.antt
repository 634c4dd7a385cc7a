-- Reports of one path, and their order (docs/RULES.md, "Reports").
use Rattle.std.specs.Prelude.{◌≡◌, ℕ, List, [], ◌∷◌, ◌++◌, map, Option, Some, None}
use Rattle.std.specs.declared.cmp.Ordering.{Ordering}
use Rattle.std.specs.declared.cmp.Ordering.TheVariants.{Less, Equal, Greater}
use Rattle.std.specs.Ordering.{ordering_then, nat_cmp}
use Rattle.std.specs.Cmp.Lexicographic.{slice_cmp}
use Rattle.spark_base.specs.declared.position.Pos.{Pos}
use Rattle.spark_base.specs.Positions.{position_cmp}
use Rattle.place_names.specs.declared.selector.Sel.{Sel}
use Rattle.place_names.specs.declared.selector.Sel.TheVariants.{Field, Elem, Deref}
use Rattle.place_names.specs.declared.rule.State.{State}
use Rattle.place_names.specs.declared.rule.State.TheVariants as state
use Rattle.place_names.specs.declared.rule.Rule.{Rule}
use Rattle.place_names.specs.declared.rule.Rule.TheVariants.{O1, O2, O3, O4, O5, O6, O7, O8, O9, O10, O11, O14, A1, A2, V1, V2, V3, V4}
use Rattle.spark_base.specs.Lists.{Has}
use Rattle.place_names.specs.Names.{Name}
use Rattle.place_names.specs.declared.act.Placed.{Placed}
use Rattle.place_names.specs.declared.fact.Fact.{Fact}
use Rattle.place_names.specs.Facts.{facts_after}
use Rattle.place_names.specs.Rules.{Forbidden, forbids}

-- A position, a rule, a name and a word. The rules that look at the text without paths have no
-- word.
pub record Report : Type 0 where
  pub pos : Pos
  pub rule : Rule
  pub name : Name
  pub word : Option State

-- What is forbidden at a position, as a report.
abbrev pub report_at : Pos → Forbidden → Report
report_at pos found = record { pos = pos; rule = found.rule; name = found.name; word = Some found.word }

-- Some act of a list is forbidden by a fact that the acts before it leave, and the report says so.
pub record Gives (acts : List Placed) (report : Report) : Type 0 where
  pub before : List Placed
  pub placed : Placed
  pub after : List Placed
  pub split : acts ≡ before ++ placed ∷ after
  pub fact : Fact
  pub holds : Has (facts_after (map (λ (p : Placed). p.act) before)) fact
  pub found : Forbidden
  pub forbidden : forbids placed.act fact ≡ Some found
  pub reported : report ≡ report_at placed.pos found

-- The rank of a rule in the order of reports: O1 to O11, O14, A1, A2, V1 to V4.
abbrev pub rule_rank : Rule → ℕ
rule_rank O1 = 1
rule_rank O2 = 2
rule_rank O3 = 3
rule_rank O4 = 4
rule_rank O5 = 5
rule_rank O6 = 6
rule_rank O7 = 7
rule_rank O8 = 8
rule_rank O9 = 9
rule_rank O10 = 10
rule_rank O11 = 11
rule_rank O14 = 12
rule_rank A1 = 13
rule_rank A2 = 14
rule_rank V1 = 15
rule_rank V2 = 16
rule_rank V3 = 17
rule_rank V4 = 18

-- The rank of a word: moved, borrowed, observed. Two reports of one rule both have a word or both
-- have none.
abbrev pub word_rank : Option State → ℕ
word_rank None = 0
word_rank (Some state.Moved) = 1
word_rank (Some state.Borrowed) = 2
word_rank (Some state.Observed) = 3

-- Components go by their numbers, and stand before some element and what is designated.
abbrev pub selector_cmp : Sel → Sel → Ordering
selector_cmp (Field i) (Field j) = nat_cmp i j
selector_cmp (Field i) Elem = Less
selector_cmp (Field i) Deref = Less
selector_cmp Elem (Field j) = Greater
selector_cmp Elem Elem = Equal
selector_cmp Elem Deref = Less
selector_cmp Deref (Field j) = Greater
selector_cmp Deref Elem = Greater
selector_cmp Deref Deref = Equal

-- Reports go by position, rule, bytes of the printed name and word. Where all of these are equal
-- and the roots differ, the root that is declared later, which has the greater number, stands
-- first. Where the roots are equal too, the lists of selectors decide, the first pair that differs
-- or the shorter list. Two parts of one object have different texts wherever they come from a
-- source, so that this last key only makes the order one of all reports.
abbrev pub report_cmp : (Name → List ℕ) → Report → Report → Ordering
report_cmp printed a b =
    ordering_then (position_cmp a.pos b.pos)
    (ordering_then (nat_cmp (rule_rank a.rule) (rule_rank b.rule))
    (ordering_then (slice_cmp nat_cmp (printed a.name) (printed b.name))
    (ordering_then (nat_cmp (word_rank a.word) (word_rank b.word))
    (ordering_then (nat_cmp b.name.root a.name.root)
    (slice_cmp selector_cmp a.name.sels b.name.sels)))))

-- Each report stands strictly before each later one.
abbrev pub IsAscending : (Name → List ℕ) → List Report → Type 0
IsAscending printed [] = Unit {0}
IsAscending printed (a ∷ rest) =
    ((b : Report) → Has rest b → report_cmp printed a b ≡ Less) × IsAscending printed rest

-- A list has exactly the reports for which P holds, in order and without repeats.
pub record IsReportList (printed : Name → List ℕ) (P : Report → Type 0) (reports : List Report) : Type 0 where
  pub ascending : IsAscending printed reports
  pub sound : (r : Report) → Has reports r → P r
  pub complete : (r : Report) → P r → Has reports r
