-- What is written and answered, by what a command does.
use Rattle.std.proofs.Common.{◌≡◌, ◌≢◌, ◌⊎◌, ◌<◌, inl, inr, ℕ, Bool, true, false, refl, sym, subst, List, [], ◌∷◌, Option, None, Some, Result, Ok, Err, IfSome, IfOk, OnErr, arith}
use Rattle.spark_base.specs.Lists.{Has}
use Rattle.command_words.specs.Words.{Command, Check, Run, Leaks, Make, Selftest}
use Rattle.answered_runs.specs.run_command.Answers.{Answer, Tells}
use Rattle.spark_tool.specs.declared.finding.Outcome.{Outcome}
use Rattle.spark_tool.specs.declared.stop.Stop.{Stop}
use Rattle.spark_tool.specs.declared.stop.Stop.TheVariants.{Read, Write, Memory}
use Rattle.spark_tool.specs.Answers.{answer_for, run_for}
use Rattle.slot_heap.specs.Heaps.{Heap}
use Rattle.answered_runs.specs.run_command.Stores.{Running, IsLeftBy}
use Rattle.answered_runs.specs.tool_answers.Commands.{command_of, reads_files, runs}
use Rattle.answered_runs.specs.tool_answers.Product.{Answers, Product}
use Rattle.answered_runs.specs.tool_answers.Runs.{Makes}
use Rattle.spark_tool.specs.Promises.{IsUnrun, HasInput, Delivers, Leaves}
use Rattle.spark_tool.specs.Refusals.{Gives, MakesFor}
use Rattle.spark_tool.proofs.OneRun.{one_run}
use Rattle.spark_tool.specs.Stops.{stop_status}
use Rattle.spark_tool.proofs.Complete.{answer_delivers, run_delivers, fixed_tells}

-- of a command that does this
pub gives_this : (stored : Option (List (List ℕ × List ℕ))) (command : Option Command) (done this : Outcome) → done ≡ this
    → IfSome stored (λ files. Gives files command done) → IfSome stored (λ files. (input : List ℕ) → Answers files input command (answer_for input this))
gives_this stored command done this same gives =
    subst (λ (o : Outcome). IfSome stored (λ files. (input : List ℕ) → Answers files input command (answer_for input o))) same gives

-- ---- where an answer is written

pub ok_delivers : (result : Result ℕ Stop) (stored : Option (List (List ℕ × List ℕ))) (runs : Bool) (left : Option (List ℕ)) (words : List (List ℕ))
    (answer : Answer) (out new_out err new_err : Option (List ℕ)) → IfSome stored (λ files. (input : List ℕ) → Product files input words answer)
    → IfOk result (Tells answer out new_out err new_err)
    → IfOk result (λ status. IfSome stored (λ files. (input : List ℕ) → HasInput runs left input → Delivers files input words out new_out err new_err status))
ok_delivers (Ok status) stored runs left words answer out new_out err new_err is told =
    answer_delivers stored runs left words answer out new_out err new_err status is told
ok_delivers (Err stop) stored runs left words answer out new_out err new_err is told = tt

pub ok_fixed : (result : Result ℕ Stop) (fixed : Option Answer) (answer : Answer) (out new_out err new_err : Option (List ℕ))
    → IfSome fixed (λ told. answer ≡ told) → IfOk result (Tells answer out new_out err new_err)
    → IfOk result (λ status. IfSome fixed (λ told. Tells told out new_out err new_err status))
ok_fixed (Ok status) fixed answer out new_out err new_err is told = fixed_tells fixed answer out new_out err new_err status is told
ok_fixed (Err stop) fixed answer out new_out err new_err is told = tt

-- an answer that isn't status 0 comes without a run
unrun : (status : ℕ) → Has (0 ∷ 1 ∷ 2 ∷ 6 ∷ []) status → status ≢ 0 → IsUnrun status
unrun status has other = elim has [
  | inl none ↦ absurd (other (sym none))
  | inr rest ↦ elim rest [
    | inl one ↦ inl one
    | inr rest ↦ elim rest [ inl two ↦ inr (inl two) | inr rest ↦ elim rest [ inl six ↦ inr (inr (inl six)) | inr none ↦ absurd none ] ]
  ]
]

pub ok_unrun : (result : Result ℕ Stop) (status : ℕ) (P : Type 0) → IfOk result (λ answered. answered ≡ status) → Has (0 ∷ 1 ∷ 2 ∷ 6 ∷ []) status
    → status ≢ 0 → IfOk result (λ answered. IsUnrun answered ⊎ P)
ok_unrun (Ok answered) status P is has other = inl (subst IsUnrun (sym is) (unrun status has other))
ok_unrun (Err stop) status P is has other = tt

-- what is so where it stops, where it stops for this
pub at_stop : (result : Result ℕ Stop) (stop : Stop) (P : Type 0) → result ≡ Err stop → OnErr result P → P
at_stop result stop P is stopped = subst (λ (r : Result ℕ Stop). OnErr r P) is stopped

-- ---- where a program is run

pub run_ok_delivers : (result : Result ℕ Stop) (stored : Option (List (List ℕ × List ℕ))) (runs : Bool) (left : Option (List ℕ)) (words : List (List ℕ))
    (answer : List ℕ → Answer) (out new_out err new_err : Option (List ℕ)) → runs ≡ true
    → IfSome stored (λ files. (input : List ℕ) → Product files input words (answer input))
    → IfOk result (λ status. (input : List ℕ) → left ≡ Some input → Tells (answer input) out new_out err new_err status)
    → IfOk result (λ status. IfSome stored (λ files. (input : List ℕ) → HasInput runs left input → Delivers files input words out new_out err new_err status))
run_ok_delivers (Ok status) stored runs left words answer out new_out err new_err runs_is is told =
    run_delivers stored runs left words answer out new_out err new_err status runs_is is told
run_ok_delivers (Err stop) stored runs left words answer out new_out err new_err runs_is is told = tt

-- nothing is fixed then
pub no_fixed : (fixed : Option Answer) (P : Answer → Type 0) → IfSome fixed (λ told. ⊥) → IfSome fixed P
no_fixed None P none = tt
no_fixed (Some answer) P none = absurd none

pub ok_no_fixed : (result : Result ℕ Stop) (fixed : Option Answer) (P : ℕ → Answer → Type 0) → IfSome fixed (λ told. ⊥)
    → IfOk result (λ status. IfSome fixed (P status))
ok_no_fixed (Ok status) fixed P none = no_fixed fixed (P status) none
ok_no_fixed (Err stop) fixed P none = tt

-- files are read for it
pub run_reads : (command : Option Command) → runs command ≡ true → reads_files command ≡ true
run_reads None is = absurd (cc)
run_reads (Some (Check names)) is = absurd (cc)
run_reads (Some (Run names budget stats)) is = refl
run_reads (Some (Leaks names)) is = absurd (cc)
run_reads (Some (Make n)) is = absurd (cc)
run_reads (Some (Selftest n)) is = absurd (cc)

-- ---- what is left in the store

leaves : (files : List (List ℕ × List ℕ)) (input : List ℕ) (words : List (List ℕ)) (ran : Option Running) (Means : Heap → Type 0)
    → Makes files input (command_of words) ran → (m : Heap) × (Means m × IsLeftBy ran m) → Leaves files input words Means
leaves files input words ran Means makes known = record {
  ran = ran;
  made = makes;
  only = λ other other_makes. one_run files input words other ran other_makes makes;
  heap = known.0;
  means = known.1.0;
  left = known.1.1;
}

-- by what is done for the command
pub makes_this : (stored : Option (List (List ℕ × List ℕ))) (command : Option Command) (done this : Outcome) → done ≡ this
    → IfSome stored (λ files. MakesFor files command done) → IfSome stored (λ files. (input : List ℕ) → Makes files input command (run_for input this))
makes_this stored command done this same makes =
    subst (λ (o : Outcome). IfSome stored (λ files. (input : List ℕ) → Makes files input command (run_for input o))) same makes

pub ok_leaves : (result : Result ℕ Stop) (stored : Option (List (List ℕ × List ℕ))) (runs : Bool) (left : Option (List ℕ)) (words : List (List ℕ))
    (ran : List ℕ → Option Running) (Means : Heap → Type 0) → IfSome stored (λ files. (input : List ℕ) → Makes files input (command_of words) (ran input))
    → IfOk result (λ status. (input : List ℕ) → HasInput runs left input → (m : Heap) × (Means m × IsLeftBy (ran input) m))
    → IfOk result (λ status. IfSome stored (λ files. (input : List ℕ) → HasInput runs left input → Leaves files input words Means))
ok_leaves (Err stop) stored runs left words ran Means makes known = tt
ok_leaves (Ok status) None runs left words ran Means makes known = tt
ok_leaves (Ok status) (Some files) runs left words ran Means makes known =
    λ input has. leaves files input words (ran input) Means (makes input) (known input has)

-- of a program that was run on the input
pub input_known : (result : Result ℕ Stop) (runs : Bool) (left : Option (List ℕ)) (P : List ℕ → Type 0) → runs ≡ true
    → IfOk result (λ status. (input : List ℕ) → left ≡ Some input → P input) → IfOk result (λ status. (input : List ℕ) → HasInput runs left input → P input)
input_known (Err stop) runs left P is known = tt
input_known (Ok status) true left P is known = known
input_known (Ok status) false left P is known = absurd (cc)

-- whatever the input is
pub any_known : (result : Result ℕ Stop) (runs : Bool) (left : Option (List ℕ)) (P : List ℕ → Type 0) → ((input : List ℕ) → P input)
    → IfOk result (λ status. (input : List ℕ) → HasInput runs left input → P input)
any_known (Err stop) runs left P known = tt
any_known (Ok status) runs left P known = λ input has. known input

pub ok_any_known : (result : Result ℕ Stop) (runs : Bool) (left : Option (List ℕ)) (P : List ℕ → Type 0) (Q : Type 0) → (Q → (input : List ℕ) → P input)
    → IfOk result (λ status. Q) → IfOk result (λ status. (input : List ℕ) → HasInput runs left input → P input)
ok_any_known (Err stop) runs left P Q from known = tt
ok_any_known (Ok status) runs left P Q from known = λ input has. from known input

-- ---- statuses of stops

larger : (n : ℕ) → 7 < n → n ≡ 7 → ⊥
larger n more is = omega (arith, more, is)

pub read_stop : (stop : Stop) → stop_status stop ≡ 7 → stop ≡ Read
read_stop Read is = refl
read_stop Write is = absurd (larger (stop_status Write) (omega arith) is)
read_stop Memory is = absurd (larger (stop_status Memory) (omega arith) is)
