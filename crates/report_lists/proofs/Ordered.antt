-- The order of printed reports is that of their reports.
use Rattle.std.proofs.Common.{◌≡◌, refl, ℕ, List, Option, Some, None}
use Rattle.std.specs.Ordering.{ordering_then, nat_cmp}
use Rattle.std.specs.Option.{option_cmp}
use Rattle.std.specs.Cmp.Lexicographic.{slice_cmp}
use Rattle.spark_base.specs.Positions.{position_cmp}
use Rattle.place_names.specs.declared.rule.State.{State}
use Rattle.place_names.specs.declared.rule.State.TheVariants as state
use Rattle.place_names.specs.contracts.rule.StateOrd.TheImpl as state_ord
use Rattle.place_names.specs.declared.selector.Sel.{Sel}
use Rattle.place_names.specs.contracts.selector.SelOrd.TheImpl as sel_ord
use Rattle.place_names.specs.Names.{Name}
use Rattle.place_names.specs.Reports.{rule_rank, word_rank, selector_cmp, report_cmp}
use Rattle.place_names.proofs.Reports.{derived_selector_cmp}
use Rattle.report_lists.specs.PrintedReports.{Printed, printed_cmp, IsPrinted}

-- the derived order of words goes by their ranks
pub word_cmp-ranks : (a b : Option State) → option_cmp (state_ord.ghosts).cmp a b ≡ nat_cmp (word_rank a) (word_rank b)
word_cmp-ranks None None = refl
word_cmp-ranks None (Some state.Moved) = refl
word_cmp-ranks None (Some state.Borrowed) = refl
word_cmp-ranks None (Some state.Observed) = refl
word_cmp-ranks (Some state.Moved) None = refl
word_cmp-ranks (Some state.Borrowed) None = refl
word_cmp-ranks (Some state.Observed) None = refl
word_cmp-ranks (Some state.Moved) (Some state.Moved) = refl
word_cmp-ranks (Some state.Moved) (Some state.Borrowed) = refl
word_cmp-ranks (Some state.Moved) (Some state.Observed) = refl
word_cmp-ranks (Some state.Borrowed) (Some state.Moved) = refl
word_cmp-ranks (Some state.Borrowed) (Some state.Borrowed) = refl
word_cmp-ranks (Some state.Borrowed) (Some state.Observed) = refl
word_cmp-ranks (Some state.Observed) (Some state.Moved) = refl
word_cmp-ranks (Some state.Observed) (Some state.Borrowed) = refl
word_cmp-ranks (Some state.Observed) (Some state.Observed) = refl

-- and that of lists of selectors by theirs
pub selectors_cmp : (k m : List Sel) → slice_cmp (sel_ord.ghosts).cmp k m ≡ slice_cmp selector_cmp k m
selectors_cmp k m = λ i. slice_cmp (λ s t. derived_selector_cmp s t i) k m

-- where each has the text of its name, they are ordered as their reports are
pub printed_order : (printed : Name → List ℕ) (a b : Printed) → IsPrinted printed a → IsPrinted printed b
    → printed_cmp a b ≡ report_cmp printed a.report b.report
printed_order printed a b named_a named_b =
    λ i. ordering_then (position_cmp a.report.pos b.report.pos)
    (ordering_then (nat_cmp (rule_rank a.report.rule) (rule_rank b.report.rule))
    (ordering_then (slice_cmp nat_cmp (named_a i) (named_b i))
    (ordering_then (nat_cmp (word_rank a.report.word) (word_rank b.report.word))
    (ordering_then (nat_cmp b.report.name.root a.report.name.root)
    (slice_cmp selector_cmp a.report.name.sels b.report.name.sels)))))
