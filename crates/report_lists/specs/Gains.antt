-- What comes to a set of reports.
use Rattle.std.specs.Prelude.{◌⊎◌, ℕ, List, [], ◌∷◌}
use Rattle.std.specs.BTreeSet.{insert_key}
use Rattle.spark_base.specs.Lists.{Has}
use Rattle.place_names.specs.Names.{Name}
use Rattle.place_names.specs.Reports.{Report}
use Rattle.report_lists.specs.PrintedReports.{Printed, printed_cmp, IsPrinted}

-- A report with the text of its name.
abbrev pub told : (Name → List ℕ) → Report → Printed
told printed r = record { report = r; text = printed r.name }

-- A set keeps what it had, and has of each report of some property one with the text of its name. It
-- has no others.
pub record Gains (printed : Name → List ℕ) (P : Report → Type 0) (old new : List Printed) : Type 0 where
  pub stays : (p : Printed) → Has old p → Has new p
  pub only : (p : Printed) → Has new p → Has old p ⊎ (IsPrinted printed p × P p.report)
  pub comes : (r : Report) → P r → Has new (told printed r)

-- A set into which some reports were put, one after the other.
abbrev pub put_told : (Name → List ℕ) → List Printed → List Report → List Printed
put_told printed set [] = set
put_told printed set (r ∷ more) = put_told printed (insert_key printed_cmp set (told printed r)) more
