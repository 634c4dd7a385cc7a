-- Fronts of what a run writes and answers.
use Rattle.std.proofs.Common.{◌≡◌, ◌≤◌, ◌<◌, ◌∙◌, ◌++◌, ap, refl, ℕ, Bool, true, false, nat_le, List, [], length, sym, subst, Option, None, Some, IfSome, Result, Ok, Err, OnErr, Vec, if◌then◌else◌, arith}
use Rattle.std.specs.declared.alloc.Global.{Global}
use Rattle.std.specs.Io.KnownBytes.{Appends}
use Rattle.std.proofs.KnownBytes.{Appends-trans}
use Rattle.spark_base.specs.declared.limits.TheConstants.{INPUT_BYTES}
use Rattle.spark_base.specs.Outside.{AppendsPrefix}
use Rattle.flow_paths.specs.Laid.{FlowProgram}
use Rattle.machine.specs.Run.{Run, run}
use Rattle.slot_heap.specs.Heaps.{Heap, no_heap, Knows}
use Rattle.slot_execute.specs.Left.{LeavesHeap}
use Rattle.run_results.specs.Lines.{leak_lines}
use Rattle.run_results.proofs.Fronts.{none_front, all_front, front_more, front_after}
use Rattle.run_codes.specs.Points.{ran_of}
use Rattle.slot_runs.specs.Tellings.{Sinks, HaveFronts}
use Rattle.run_results.specs.declared.ran.Ran.{Ran}
use Rattle.run_results.specs.Results.{ending_of, IsRun}
use Rattle.slot_executor.specs.Executes.{IsExecuted}
use Rattle.run_command.specs.Answers.{Tells, TellsFront}
use Rattle.run_command.specs.Counts.{asked_line, slots_of, stats_line}
use Rattle.run_command.specs.Endings.{ending_line, ending_status}
use Rattle.run_command.specs.Inputs.{IsWithin}
use Rattle.run_command.specs.Stores.{IsLeftBy, run_made}
use Rattle.run_command.specs.Runs.{last_lines, told, run_answer, too_large, too_large_line}

-- A run that is cut off.
pub cut_told : (files : List (List ℕ)) (budget : ℕ) (stats : Bool) (r : Run) (old new : Sinks) → HaveFronts files old new r.output r.leaks
    → TellsFront (told files budget stats r) old.output new.output old.lines new.lines
cut_told files budget stats r old new is =
    (is.output, front_more old.lines new.lines (leak_lines files r.leaks) (last_lines files budget stats r) is.lines)

-- What comes after its leak lines, by what was answered of it.
asked_same : (stats : Bool) (r : Run) (ran : Ran) (slots : ℕ) → IsRun (ran_of r) ran → slots ≡ slots_of r.peaks
    → asked_line stats ran.steps ran.made ran.freed ran.leaked slots ≡ stats_line stats r
asked_same stats r ran slots is same =
    ap (λ n. asked_line stats n ran.made ran.freed ran.leaked slots) (sym is.steps)
    ∙ ap (λ n. asked_line stats r.steps n ran.freed ran.leaked slots) (sym is.made)
    ∙ ap (λ n. asked_line stats r.steps r.made n ran.leaked slots) (sym is.freed)
    ∙ ap (λ n. asked_line stats r.steps r.made r.freed n slots) (sym is.leaked)
    ∙ ap (λ n. asked_line stats r.steps r.made r.freed r.leaked n) same

abbrev last_of : List (List ℕ) → ℕ → Bool → Ran → ℕ → List ℕ
last_of files budget stats ran slots =
    ending_line files budget (ending_of ran.ending) ++ asked_line stats ran.steps ran.made ran.freed ran.leaked slots

last_same : (files : List (List ℕ)) (budget : ℕ) (stats : Bool) (r : Run) (ran : Ran) (slots : ℕ) → IsRun (ran_of r) ran → slots ≡ slots_of r.peaks
    → last_of files budget stats ran slots ≡ last_lines files budget stats r
last_same files budget stats r ran slots is same =
    ap (λ e. ending_line files budget e ++ asked_line stats ran.steps ran.made ran.freed ran.leaked slots) (sym is.ending)
    ∙ ap (λ l. ending_line files budget r.ending ++ l) (asked_same stats r ran slots is same)

-- A run that isn't, and a front of the lines that come last.
pub ended_told : (files : List (List ℕ)) (budget : ℕ) (stats : Bool) (r : Run) (ran : Ran) (old now : Sinks) (new_err : Option (List ℕ)) (line : List ℕ)
    → IsExecuted files r ran old now → line ≡ last_lines files budget stats r → AppendsPrefix now.lines new_err line
    → TellsFront (told files budget stats r) old.output now.output old.lines new_err
ended_told files budget stats r ran old now new_err line is same cut = (
  all_front old.output now.output r.output is.output,
  front_after old.lines now.lines new_err (leak_lines files r.leaks) (last_lines files budget stats r) is.lines
      (subst (λ l. AppendsPrefix now.lines new_err l) same cut),
)

pub last_told : (files : List (List ℕ)) (budget : ℕ) (stats : Bool) (r : Run) (ran : Ran) (slots : ℕ) (old now : Sinks) (new_err : Option (List ℕ)) (line : List ℕ)
    → IsExecuted files r ran old now → slots ≡ slots_of r.peaks → line ≡ last_of files budget stats ran slots → AppendsPrefix now.lines new_err line
    → TellsFront (told files budget stats r) old.output now.output old.lines new_err
last_told files budget stats r ran slots old now new_err line is counted same cut =
    ended_told files budget stats r ran old now new_err line is (same ∙ last_same files budget stats r ran slots is.is counted) cut

-- What is so at any rate is so at an error.
pub at_err : {A E P : Type 0} (r : Result A E) → P → OnErr r P
at_err (Ok a) p = tt
at_err (Err e) p = p

-- ---- a run that ends

pub ended_tells : (files : List (List ℕ)) (budget : ℕ) (stats : Bool) (r : Run) (ran : Ran) (slots : ℕ) (old now : Sinks) (new_err : Option (List ℕ)) (line : List ℕ)
    (status : ℕ) → IsExecuted files r ran old now → slots ≡ slots_of r.peaks → line ≡ last_of files budget stats ran slots → Appends now.lines new_err line
    → status ≡ ending_status ran.leaked (ending_of ran.ending) → Tells (told files budget stats r) old.output now.output old.lines new_err status
ended_tells files budget stats r ran slots old now new_err line status is counted same written status_is = (
  status_is ∙ ap (λ n. ending_status n (ending_of ran.ending)) (sym is.is.leaked) ∙ ap (ending_status r.leaked) (sym is.is.ending),
  is.output,
  Appends-trans old.lines now.lines new_err (leak_lines files r.leaks) (last_lines files budget stats r) is.lines
      (subst (λ l. Appends now.lines new_err l) (same ∙ last_same files budget stats r ran slots is.is counted) written),
)

-- ---- inputs

few : (a b : ℕ) → a ≤ b → nat_le a b ≡ true
few a b le = grind arith

many : (a b : ℕ) → b < a → nat_le a b ≡ false
many a b less = grind arith

-- All of the input was read.
pub read_front : (files : List (List ℕ)) (program : FlowProgram) (budget : ℕ) (stats : Bool) (left : Option (List ℕ)) (found : Option (Vec ℕ Global)) (text : Vec ℕ Global) (input : List ℕ)
    (out new_out err new_err : Option (List ℕ)) → IfSome left (λ bytes. IsWithin bytes INPUT_BYTES found) → found ≡ Some text → input ≡ text.items
    → TellsFront (told files budget stats (run program input budget)) out new_out err new_err
    → (bytes : List ℕ) → left ≡ Some bytes → TellsFront (run_answer files program bytes budget stats) out new_out err new_err
read_front files program budget stats left found text input out new_out err new_err within is read front bytes has =
    let w : IsWithin bytes INPUT_BYTES (Some text) =
    subst (λ f. IsWithin bytes INPUT_BYTES f) is (subst (λ l. IfSome l (λ bytes. IsWithin bytes INPUT_BYTES found)) has within) in
    subst (λ (b : Bool). TellsFront (if b then told files budget stats (run program bytes budget) else too_large) out new_out err new_err) (sym (few (length bytes) INPUT_BYTES w.1))
    (subst (λ all. TellsFront (told files budget stats (run program all budget)) out new_out err new_err) (read ∙ w.0) front)

-- There is too much of it.
pub refused_front : (files : List (List ℕ)) (program : FlowProgram) (budget : ℕ) (stats : Bool) (left : Option (List ℕ)) (found : Option (Vec ℕ Global))
    (out err new_err : Option (List ℕ)) → IfSome left (λ bytes. IsWithin bytes INPUT_BYTES found) → found ≡ None → AppendsPrefix err new_err too_large_line
    → (bytes : List ℕ) → left ≡ Some bytes → TellsFront (run_answer files program bytes budget stats) out out err new_err
refused_front files program budget stats left found out err new_err within is front bytes has =
    let w : IsWithin bytes INPUT_BYTES None =
    subst (λ f. IsWithin bytes INPUT_BYTES f) is (subst (λ l. IfSome l (λ bytes. IsWithin bytes INPUT_BYTES found)) has within) in
    subst (λ (b : Bool). TellsFront (if b then told files budget stats (run program bytes budget) else too_large) out out err new_err) (sym (many (length bytes) INPUT_BYTES w))
    (none_front out [], front)

-- ---- what is left in the store

-- All of the input was read.
pub read_left : {S : Type 0} (Means : S → Heap → Type 0) (store : S) (program : FlowProgram) (budget : ℕ) (left : Option (List ℕ)) (found : Option (Vec ℕ Global))
    (text : Vec ℕ Global) (input : List ℕ) → IfSome left (λ bytes. IsWithin bytes INPUT_BYTES found) → found ≡ Some text → input ≡ text.items
    → Knows Means store (LeavesHeap program input budget)
    → (bytes : List ℕ) → left ≡ Some bytes → Knows Means store (IsLeftBy (run_made program bytes budget))
read_left Means store program budget left found text input within is read known bytes has =
    let w : IsWithin bytes INPUT_BYTES (Some text) =
    subst (λ f. IsWithin bytes INPUT_BYTES f) is (subst (λ l. IfSome l (λ bytes. IsWithin bytes INPUT_BYTES found)) has within) in
    subst (λ (b : Bool). Knows Means store (IsLeftBy (if b then Some (record { program = program; input = bytes; budget = budget }) else None)))
    (sym (few (length bytes) INPUT_BYTES w.1))
    (subst (λ all. Knows Means store (LeavesHeap program all budget)) (read ∙ w.0) known)

-- There is too much of it.
pub refused_left : {S : Type 0} (Means : S → Heap → Type 0) (store : S) (program : FlowProgram) (budget : ℕ) (left : Option (List ℕ)) (found : Option (Vec ℕ Global))
    → IfSome left (λ bytes. IsWithin bytes INPUT_BYTES found) → found ≡ None → Means store no_heap
    → (bytes : List ℕ) → left ≡ Some bytes → Knows Means store (IsLeftBy (run_made program bytes budget))
refused_left Means store program budget left found within is means bytes has =
    let w : IsWithin bytes INPUT_BYTES None =
    subst (λ f. IsWithin bytes INPUT_BYTES f) is (subst (λ l. IfSome l (λ bytes. IsWithin bytes INPUT_BYTES found)) has within) in
    subst (λ (b : Bool). Knows Means store (IsLeftBy (if b then Some (record { program = program; input = bytes; budget = budget }) else None)))
    (sym (many (length bytes) INPUT_BYTES w)) (no_heap, (means, refl))
