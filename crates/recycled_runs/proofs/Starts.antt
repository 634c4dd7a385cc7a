-- What stands before the first step.
use Rattle.std.proofs.Common.{◌≡◌, refl, sym, ap, ◌∙◌, subst, ℕ, zero, suc, ◌+◌, arith, Bool, true, false, nat_lt, List, [], ◌∷◌, ◌++◌, length, get_or, sum, Option, Some, None}
use Rattle.std.proofs.lemmas.Bool.{true≢false, false≢true}
use Rattle.machine.specs.type_definitions.Types.{Table}
use Rattle.machine.specs.flow_paths.Objects.{object_at}
use Rattle.machine.specs.flow_paths.Points.{FlowPoint}
use Rattle.machine.specs.flow_paths.Laid.{FlowSub, FlowProgram, flow_typing}
use Rattle.machine.specs.Words.{default}
use Rattle.soundness.specs.Seen.{content}
use Rattle.soundness.specs.Typed.{loc_of}
use Rattle.machine.specs.Memory.{Base, OfVariable, OfCell}
use Rattle.machine.specs.States.{Frame, sub_of, frame_words, frame_at_start}
use Rattle.machine.specs.States as machine
use Rattle.machine.specs.Run.{empty_memory, frames_at_start}
use Rattle.machine.specs.Run as machine_run
use Rattle.recycled_runs.proofs.ViewedFacts.NullPlaces.Only.{OwnersGone, OnlyOwners, fresh_whole}
use Rattle.run_codes.specs.Points.{no_sub, sub_at, is_declaring}
use Rattle.run_codes.specs.Points as points
use Rattle.run_codes.specs.Programs.{Program, sub_rows}
use Rattle.run_points.specs.Outcomes.{IsSeenAlike}
use Rattle.handled_steps.specs.Alike.{frame_kinds}
use Rattle.handled_steps.specs.Rises.{AreUnder}
use Rattle.handled_steps.specs.Runs as handled_runs
use Rattle.handled_steps.specs.Runs.{main_kinds, first_kinds}
use Rattle.handled_kinds.specs.Stacks.{subs_of, IsStacked}
use Rattle.recycled_runs.proofs.Machine.{all_subs}
use Rattle.recycled_runs.proofs.Frames.{frame_long}
use Rattle.recycled_runs.proofs.Clear.{NoneGone, kept_on, template_kept}
use Rattle.std.specs.Prelude.{is_some}

-- ---- the machine's memory

pub start_only : (program : FlowProgram) → OnlyOwners (flow_typing program) empty_memory
start_only program = (
  owners,
  λ f x o gone. (let no : true ≡ false = sym gone ∙ fresh_whole (default (flow_typing program).table (object_at (flow_typing program) x).of) o in absurd (true≢false no)),
)
  where
    owners : (b : Base) → OwnersGone (flow_typing program).table (content (flow_typing program) empty_memory [] (loc_of b))
    owners (OfVariable f x) o gone =
        (let no : true ≡ false = sym gone ∙ fresh_whole (default (flow_typing program).table (object_at (flow_typing program) x).of) o in absurd (true≢false no))
    owners (OfCell zero) o gone = absurd (false≢true gone)
    owners (OfCell (suc k)) o gone = absurd (false≢true gone)

-- ---- the counts of words

words_alike : (program : FlowProgram) (subs : List FlowSub) (k n : ℕ) → (get_or (sub_rows (flow_typing program) k subs) n no_sub).words ≡ (get_or subs n machine.no_sub).words
words_alike program [] k n = refl
words_alike program (sub ∷ rest) k zero = refl
words_alike program (sub ∷ rest) k (suc n) = words_alike program rest (k + length sub.points) n

two : (a b : ℕ) → sum (a ∷ b ∷ []) ≡ a + b
two a b = omega arith

pub start_words : (program : FlowProgram) (p : Program) → p.subs ≡ sub_rows (flow_typing program) 0 program.subs → (main : ℕ)
    → (sub_at p main).words + (sub_at p 0).words ≡ frame_words program (frame_at_start main [] ∷ frame_at_start 0 [] ∷ [])
start_words program p subs main =
    ap (λ k. k + (sub_at p 0).words) (of_sub main) ∙ ap (λ k. (sub_of program main).words + k) (of_sub 0) ∙ sym (two (sub_of program main).words (sub_of program 0).words)
  where
    of_sub : (k : ℕ) → (sub_at p k).words ≡ (sub_of program k).words
    of_sub k = ap (λ rows. (get_or rows k no_sub).words) subs ∙ words_alike program program.subs 0 k

-- ---- nothing is there

pub start_seen : (program : FlowProgram) (p : Program) (declares : Bool) → IsSeenAlike (machine_run.state_at_start program) (points.state_at_start (flow_typing program).table p declares)
start_seen program p true = record { output = refl; leaks = refl; steps = refl; made = refl; freed = refl; sizes = refl }
start_seen program p false = by p.main
  where
    by : (main : Option ℕ) → IsSeenAlike (machine_run.state_at_start program) (points.state_at_start (flow_typing program).table (record p { main = main }) false)
    by None = record { output = refl; leaks = refl; steps = refl; made = refl; freed = refl; sizes = refl }
    by (Some main) = record { output = refl; leaks = refl; steps = refl; made = refl; freed = refl; sizes = refl }

-- ---- frames without a value

pub start_none : (table : Table) (p : Program) (declares : Bool) → NoneGone (first_kinds table p declares) (points.state_at_start table p declares).memory
start_none table p true = (template_kept table (sub_at p 0), λ n c is. absurd (false≢true (ap is_some is)))
start_none table p false = by p.main
  where
    by : (main : Option ℕ) → NoneGone (main_kinds table p (frame_kinds table (sub_at p 0)) main) (points.state_at_start table (record p { main = main }) false).memory
    by None = (template_kept table (sub_at p 0), λ n c is. absurd (false≢true (ap is_some is)))
    by (Some main) = (
      kept_on (frame_kinds table (sub_at p 0)) (frame_kinds table (sub_at p main)) (points.template table (sub_at p 0)) (points.template table (sub_at p main))
          (sym (frame_long table (sub_at p 0))) (template_kept table (sub_at p 0)) (template_kept table (sub_at p main)),
      λ n c is. absurd (false≢true (ap is_some is)),
    )

-- ---- the frames

abbrev mains : Option ℕ → List Frame
mains None = []
mains (Some n) = frame_at_start n [] ∷ []

module _ (program : FlowProgram) (p : Program) (main : p.main ≡ program.main) where
  abbrev table : Table
  table = (flow_typing program).table

  abbrev StackedWith : List FlowPoint → Bool → Type 0
  StackedWith first declares = IsStacked table p (all_subs (frames_at_start program first)) (points.state_at_start table p declares).frames (first_kinds table p declares)

  at_once : (x : Option ℕ) → IsStacked table p (all_subs (mains x ++ frame_at_start 0 [] ∷ [])) (points.state_at_start table (record p { main = x }) false).frames (main_kinds table p (frame_kinds table (sub_at p 0)) x)
  at_once None = record { ends = refl; kinds = refl; based = (refl, tt) }
  at_once (Some x) = record { ends = refl; kinds = refl; based = (frame_long table (sub_at p 0), (refl, tt)) }

  positive : (n : ℕ) → nat_lt 0 (suc n) ≡ true
  positive n = grind arith

  with_first : (first : List FlowPoint) → StackedWith first (nat_lt 0 (length first))
  with_first [] =
      subst (λ x. IsStacked table p (all_subs (mains x ++ frame_at_start 0 [] ∷ [])) (points.state_at_start table p false).frames (first_kinds table p false)) main (at_once p.main)
  with_first (q ∷ rest) = subst (StackedWith (q ∷ rest)) (sym (positive (length rest))) (record { ends = refl; kinds = refl; based = (refl, tt) })

  pub starts_stacked : IsStacked table p (subs_of (machine_run.state_at_start program)) (points.state_at_start table p (is_declaring program)).frames (first_kinds table p (is_declaring program))
  starts_stacked = with_first (sub_of program 0).points

-- ---- no cells

pub start_peaks : (types : Table) (p : Program) (declares : Bool) → (handled_runs.state_at_start types p declares).memory.peaks ≡ []
start_peaks types p true = refl
start_peaks types p false = by p.main
  where
    by : (main : Option ℕ) → (handled_runs.state_at_start types (record p { main = main }) false).memory.peaks ≡ []
    by None = refl
    by (Some main) = refl

pub start_under : (types : Table) (p : Program) (declares : Bool) → AreUnder (handled_runs.state_at_start types p declares).memory
start_under types p true = λ n. omega arith
start_under types p false = by p.main
  where
    by : (main : Option ℕ) → AreUnder (handled_runs.state_at_start types (record p { main = main }) false).memory
    by None = λ n. omega arith
    by (Some main) = λ n. omega arith
