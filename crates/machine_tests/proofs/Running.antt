-- What lemmas over runs say.
use Rattle.std.proofs.Common.{ℕ, List, [], ◌∷◌, ◌++◌}
use Rattle.std.specs.Prelude.{flat_map}
use Rattle.std.specs.Fmt.{digits}
use Rattle.spark_base.specs.declared.position.Pos.{Pos}
use Rattle.flow_tests.proofs.Flow.{laying}
use Rattle.machine.specs.Words.{default_within, default, offsets}
use Rattle.machine.specs.Memory.{Peak}
use Rattle.machine.specs.Evaluate.{evaluate, text_of}
use Rattle.machine.specs.States.{Leak, Ending}
use Rattle.machine.specs.Step.{any_chosen}
use Rattle.machine.specs.Run.{Run, within, run, moment}
use Rattle.machine.specs.Typed.{sorts_within, sorts, gives, is_text, is_elaboration}

-- The definitions that are computed where a lemma names this one.
unfoldable pub running : Type 0
unfolding laying default_within default offsets evaluate text_of any_chosen within run moment digits sorts_within sorts gives is_text is_elaboration
running = Unit {0}

-- The cells: how many were made, freed and leaked, and of each size the greatest count at once.
pub record Cells : Type 0 where
  pub made : ℕ
  pub freed : ℕ
  pub leaked : ℕ
  pub peaks : List Peak

abbrev pub no_cells : Cells
no_cells = record { made = 0; freed = 0; leaked = 0; peaks = [] }

abbrev pub size : ℕ → ℕ → Peak
size words count = record { size = words; count = count }

abbrev pub ran : List ℕ → List Leak → Ending → ℕ → Cells → Run
ran output leaks ending steps cells = record {
  output = output;
  leaks = leaks;
  ending = ending;
  steps = steps;
  made = cells.made;
  freed = cells.freed;
  leaked = cells.leaked;
  peaks = cells.peaks;
}

abbrev pub leak : ℕ → Pos → Leak
leak n p = record { number = n; pos = p }

-- Lines of output.
abbrev pub lines : List (List ℕ) → List ℕ
lines texts = flat_map (λ text. text ++ 10 ∷ []) texts
