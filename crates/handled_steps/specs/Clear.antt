-- Runs over numbers after each step of which null stands where it moved.
use Rattle.std.specs.Prelude.{◌≡◌, ℕ, zero, suc, ◌+◌, Bool, List, [], ◌∷◌, map, nat_lt, nat_le, ℤ, pos, negsuc, if◌then◌else◌}
use Rattle.handled_runs.specs.spark_base.declared.position.Pos.{Pos}
use Rattle.handled_runs.specs.type_definitions.Types.{Table}
use Rattle.handled_runs.specs.run_values.declared.value.Value.{Value}
use Rattle.handled_runs.specs.run_values.declared.value.Value.TheVariants as value
use Rattle.handled_runs.specs.run_values.declared.value.Kind.{Kind}
use Rattle.handled_runs.specs.run_values.declared.value.Kind.TheVariants as sort
use Rattle.handled_runs.specs.machine.Evaluate.{StorageError}
use Rattle.handled_runs.specs.machine.States.{Raised, Spent, stack_words}
use Rattle.handled_runs.specs.kept_cells.Cells.{Cell}
use Rattle.handled_runs.specs.run_codes.Flat.{Flat, gone_from}
use Rattle.handled_runs.specs.run_codes.Points.{State, Outcome, Goes, Ends, then_on, step, sub_at, state_at_start}
use Rattle.handled_runs.specs.run_codes.Programs.{Program}
use Rattle.handled_steps.specs.Looks.{LooksStep, step_kinds}
use Rattle.handled_steps.specs.Runs.{first_kinds}

-- ---- null where something is gone

abbrev pub word_or_null : ℤ → ℤ
word_or_null (pos n) = pos n
word_or_null (negsuc n) = pos 0

abbrev pub cleared_word : Kind → ℤ → ℤ
cleared_word sort.Access z = word_or_null z
cleared_word sort.Int z = z
cleared_word sort.Enum z = z

abbrev pub cleared_words : List Kind → List ℤ → List ℤ
cleared_words (k ∷ ks) (z ∷ zs) = cleared_word k z ∷ cleared_words ks zs
cleared_words _ _ = []

abbrev pub cleared_value : Value → Value
cleared_value (value.Cell n) = if nat_lt n gone_from then value.Cell n else value.Null
cleared_value v = v

abbrev pub cleared_cell : Cell → Cell
cleared_cell c = record c { words = map cleared_value c.words }

-- `here` has the kinds of the words of the stack.
abbrev pub cleared_flat : List Kind → Flat → Flat
cleared_flat here m = record m { stack = cleared_words here m.stack; cells = map cleared_cell m.cells }

abbrev pub cleared : List Kind → State → State
cleared here s = record s { memory = cleared_flat here s.memory }

-- ---- runs

-- A run of at most n steps from a state, whose stack has words of these kinds.
unfoldable pub clear_within : ℕ → Table → Program → List ℕ → State → List Kind → Outcome
clear_within zero table program input s here = Ends Spent s
clear_within (suc n) table program input s here =
    then_on (step table program input s)
    (λ next. clear_within n table program input (cleared (step_kinds table program input s here s.frames) next) (step_kinds table program input s here s.frames))

abbrev pub clear_run_of : Table → Program → Bool → Pos → ℕ → List ℕ → ℕ → Outcome
clear_run_of table program declares at main input n =
    if nat_le ((sub_at program main).words + (sub_at program 0).words) stack_words
    then clear_within n table program input (state_at_start table program declares) (first_kinds table program declares)
    else Ends (Raised StorageError at) (state_at_start table program declares)

-- It is as steps ask it at each of n steps.
unfoldable pub LooksRun : ℕ → Table → Program → List ℕ → State → List Kind → Type 0
LooksRun zero table program input s here = Unit {0}
LooksRun (suc n) table program input s here =
    LooksStep table program input s here s.frames
    × ((next : State) → step table program input s ≡ Goes next
    → LooksRun n table program input (cleared (step_kinds table program input s here s.frames) next) (step_kinds table program input s here s.frames))
