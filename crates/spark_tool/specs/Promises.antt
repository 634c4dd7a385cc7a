-- What the call of the program promises (docs/TOOL.md, "Statuses").
use Rattle.std.specs.Prelude.{◌≡◌, ℕ, List, Bool, true, false, Option, Some, [], ◌∷◌}
use Rattle.spark_base.specs.Lists.{Has}
use Rattle.answered_runs.specs.run_command.Answers.{Answer, Tells, TellsFront}
use Rattle.answered_runs.specs.Headline.{IsRunSoundly}
use Rattle.slot_heap.specs.Heaps.{Heap}
use Rattle.answered_runs.specs.run_command.Stores.{Running, IsLeftBy}
use Rattle.answered_runs.specs.tool_answers.Commands.{command_of}
use Rattle.answered_runs.specs.tool_answers.Product.{Product}
use Rattle.answered_runs.specs.tool_answers.Runs.{Makes}

-- The statuses of an answer: done; rejected; refused; the ends of a run by an exception, by its
-- budget and after a leak; misused; an input that is too large.
abbrev pub IsRegular : ℕ → Type 0
IsRegular status = Has (0 ∷ 1 ∷ 2 ∷ 3 ∷ 4 ∷ 5 ∷ 6 ∷ 10 ∷ []) status

-- The statuses of the program: those of an answer, and a read fault, a write fault, out of memory.
abbrev pub IsStatus : ℕ → Type 0
IsStatus status = Has (0 ∷ 1 ∷ 2 ∷ 3 ∷ 4 ∷ 5 ∷ 6 ∷ 7 ∷ 8 ∷ 9 ∷ 10 ∷ []) status

-- Those with which nothing was run, and nothing goes to the first output.
abbrev pub IsUnrun : ℕ → Type 0
IsUnrun status = Has (1 ∷ 2 ∷ 6 ∷ 7 ∷ 10 ∷ []) status

-- The input has these bytes, if a program is run on it.
abbrev pub HasInput : Bool → Option (List ℕ) → List ℕ → Type 0
HasInput true left input = left ≡ Some input
HasInput false left input = Unit {0}

-- Both streams got the bytes of the one answer that is defined, and its status was answered. What was run, it ran
-- soundly.
pub record Delivers (stored : List (List ℕ × List ℕ)) (input : List ℕ) (words : List (List ℕ)) (out new_out err new_err : Option (List ℕ)) (status : ℕ) : Type 0 where
  pub answer : Answer
  pub defined : Product stored input words answer
  pub only : (other : Answer) → Product stored input words other → other ≡ answer
  pub told : Tells answer out new_out err new_err status
  pub sound : IsRunSoundly stored input words

-- Both streams got some front of the bytes of the one answer that is defined.
pub record DeliversFront (stored : List (List ℕ × List ℕ)) (input : List ℕ) (words : List (List ℕ)) (out new_out err new_err : Option (List ℕ)) : Type 0 where
  pub answer : Answer
  pub defined : Product stored input words answer
  pub only : (other : Answer) → Product stored input words other → other ≡ answer
  pub told : TellsFront answer out new_out err new_err

-- Both streams got some front of the bytes of each answer that is defined.
abbrev pub DeliversNoMore : (stored : List (List ℕ × List ℕ)) (input : List ℕ) (words : List (List ℕ)) (out new_out err new_err : Option (List ℕ)) → Type 0
DeliversNoMore stored input words out new_out err new_err = (answer : Answer) → Product stored input words answer → TellsFront answer out new_out err new_err

-- The store has the slots and the cells that the one run leaves that is defined; or none is, and it has neither.
pub record Leaves (stored : List (List ℕ × List ℕ)) (input : List ℕ) (words : List (List ℕ)) (Means : Heap → Type 0) : Type 0 where
  pub ran : Option Running
  pub made : Makes stored input (command_of words) ran
  pub only : (other : Option Running) → Makes stored input (command_of words) other → other ≡ ran
  pub heap : Heap
  pub means : Means heap
  pub left : IsLeftBy ran heap
