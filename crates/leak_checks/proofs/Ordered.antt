-- Lines that are sorted with the texts of their names are sorted as lines.
use Rattle.std.proofs.Common.{◌≡◌, refl, sym, ap, ◌∙◌, subst, ℕ, zero, suc, ◌+◌, ◌<◌, List, [], ◌∷◌, map, length, get_or, arith}
use Rattle.std.specs.Ordering.{ordering_then, nat_cmp, bool_cmp, is_lt}
use Rattle.std.specs.Cmp.Lexicographic.{slice_cmp}
use Rattle.std.specs.List.{All}
use Rattle.std.specs.List.Sorted.{IsPermutation, IsSorted}
use Rattle.std.proofs.lemmas.List.{length-map}
use Rattle.std.proofs.lemmas.List.Sorted.{IsPermutation-map, All-permutation}
use Rattle.spark_base.specs.Positions.{position_cmp}
use Rattle.place_names.specs.Names.{Name}
use Rattle.place_names.specs.Reports.{selector_cmp}
use Rattle.type_definitions.specs.Types.{Table}
use Rattle.typed_tree.specs.declared.object.Object.{Object}
use Rattle.flow_paths.specs.declared.report.Effects.{Effects}
use Rattle.flow_paths.specs.declared.report.LeakLine.{LeakLine}
use Rattle.flow_paths.specs.Laid.{FlowProgram}
use Rattle.flow_paths.specs.Printing.{printed_name}
use Rattle.leak_checks.specs.Plan.{checks_of, TellAll, line_cmp, AreSorted, LeakPlan}
use Rattle.leak_checks.specs.PrintedLines.{Printed, printed_cmp, told}

-- a line has the text of its name
abbrev IsPrinted : (Name → List ℕ) → Printed → Type 0
IsPrinted printed p = p.text ≡ printed p.line.name

abbrev line : Printed → LeakLine
line p = p.line

-- such lines are ordered as the lines themselves
printed_order : (printed : Name → List ℕ) (a b : Printed) → IsPrinted printed a → IsPrinted printed b
    → printed_cmp a b ≡ line_cmp printed a.line b.line
printed_order printed a b named_a named_b =
    λ i. ordering_then
    (ordering_then (position_cmp a.line.pos b.line.pos)
    (ordering_then (slice_cmp nat_cmp (named_a i) (named_b i))
    (ordering_then (nat_cmp b.line.name.root a.line.name.root) (slice_cmp selector_cmp a.line.name.sels b.line.name.sels))))
    (bool_cmp a.line.excused b.line.excused)

all_told : (printed : Name → List ℕ) (lines : List LeakLine) → All (IsPrinted printed) (map (told printed) lines)
all_told printed [] k d h = absurd (omega arith)
all_told printed (l ∷ lines) zero d h = refl
all_told printed (l ∷ lines) (suc k) d h = all_told printed lines k d (omega arith)

lines_told : (printed : Name → List ℕ) (lines : List LeakLine) → map line (map (told printed) lines) ≡ lines
lines_told printed [] = refl
lines_told printed (l ∷ lines) = ap (λ rest. l ∷ rest) (lines_told printed lines)

-- the line of one with a number
line_at : (printed : Name → List ℕ) (ps : List Printed) (k : ℕ) (d : LeakLine) → get_or (map line ps) k d ≡ (get_or ps k (told printed d)).line
line_at printed [] k d = refl
line_at printed (p ∷ ps) zero d = refl
line_at printed (p ∷ ps) (suc k) d = line_at printed ps k d

lines_sorted : (printed : Name → List ℕ) (ps : List Printed) → All (IsPrinted printed) ps → IsSorted printed_cmp ps
    → IsSorted (line_cmp printed) (map line ps)
lines_sorted printed ps all sorted k d low high =
    let within : k + 1 < length ps = subst (λ n. k + 1 < n) (length-map ps line) high in
    let a : Printed = get_or ps (k + 1) (told printed d) in
    let b : Printed = get_or ps k (told printed d) in
    (λ i. is_lt (line_cmp printed (line_at printed ps (k + 1) d i) (line_at printed ps k d i)))
    ∙ ap is_lt (sym (printed_order printed a b (all (k + 1) (told printed d) within) (all k (told printed d) (omega (arith, within)))))
    ∙ sorted k (told printed d) low within

-- what is sorted with texts is sorted without them
pub ordered_lines : (printed : Name → List ℕ) (all lines : List LeakLine) (texts sorted : List Printed) → texts ≡ map (told printed) all
    → IsPermutation texts sorted → IsSorted printed_cmp sorted → lines ≡ map (λ (p : Printed). p.line) sorted → AreSorted printed all lines
ordered_lines printed all lines texts sorted with moved ordered without =
    let each : All (IsPrinted printed) sorted =
    All-permutation (IsPrinted printed) texts sorted moved (subst (All (IsPrinted printed)) (sym with) (all_told printed all)) in
    record {
      same = subst (IsPermutation all) (sym without)
          (subst (λ l. IsPermutation l (map line sorted)) (ap (map line) with ∙ lines_told printed all) (IsPermutation-map line texts sorted moved));
      ordered = subst (IsSorted (line_cmp printed)) (sym without) (lines_sorted printed sorted each ordered);
    }

-- the lines of all leak checks, sorted by the names of their program, are its plan
pub planned : (program : FlowProgram) (effects : Effects) (table : Table) (objects : List Object) (all lines : List LeakLine)
    → table ≡ program.table → objects ≡ program.objects → TellAll program effects (checks_of program.subs) all
    → AreSorted (printed_name table objects) all lines → LeakPlan program effects lines
planned program effects table objects all lines same_table same_objects tells sorted = record {
  told = all;
  all = tells;
  sorted = subst (λ t. AreSorted (printed_name t program.objects) all lines) same_table
      (subst (λ o. AreSorted (printed_name table o) all lines) same_objects sorted);
}
