-- An answer is the one that is defined, also where no count rose, and what was written where a
-- write failed.
use Rattle.std.proofs.Common.{◌≡◌, ◌≢◌, ◌⊎◌, inl, inr, ℕ, Bool, true, false, refl, sym, subst, List, [], Option, None, Some, IfSome, IsSomeAnd}
use Rattle.std.specs.Io.KnownBytes.{Appends, Keeps}
use Rattle.std.proofs.KnownBytes.{Appends-nil, Appends-kept}
use Rattle.spark_base.specs.Outside.{AppendsPrefix}
use Rattle.answered_runs.specs.run_command.Answers.{Answer, Tells, TellsFront}
use Rattle.answered_runs.specs.tool_answers.Product.{Product, unread}
use Rattle.answered_runs.proofs.Headline.{run_soundly}
use Rattle.spark_tool.specs.Promises.{Delivers, DeliversFront, DeliversNoMore, HasInput}
use Rattle.spark_tool.specs.Stops.{stop_status}
use Rattle.spark_tool.specs.declared.stop.Stop.{Stop}
use Rattle.spark_tool.specs.declared.stop.Stop.TheVariants.{Read, Write, Memory}
use Rattle.spark_tool.proofs.OneAnswer.{one_answer}

delivers : (files : List (List ℕ × List ℕ)) (input : List ℕ) (words : List (List ℕ)) (answer : Answer) (out new_out err new_err : Option (List ℕ)) (status : ℕ)
    → Product files input words answer → Tells answer out new_out err new_err status → Delivers files input words out new_out err new_err status
delivers files input words answer out new_out err new_err status is told = record {
  answer = answer;
  defined = is;
  only = λ other other_is. one_answer files input words other answer other_is is;
  told = told;
  sound = run_soundly files input words;
}

-- an answer was written that is defined whatever the input has
pub answer_delivers : (stored : Option (List (List ℕ × List ℕ))) (runs : Bool) (left : Option (List ℕ)) (words : List (List ℕ)) (answer : Answer)
    (out new_out err new_err : Option (List ℕ)) (status : ℕ) → IfSome stored (λ files. (input : List ℕ) → Product files input words answer)
    → Tells answer out new_out err new_err status
    → IfSome stored (λ files. (input : List ℕ) → HasInput runs left input → Delivers files input words out new_out err new_err status)
answer_delivers None runs left words answer out new_out err new_err status is told = tt
answer_delivers (Some files) runs left words answer out new_out err new_err status is told =
    λ input has. delivers files input words answer out new_out err new_err status (is input) told

-- a program was run on the input
pub run_delivers : (stored : Option (List (List ℕ × List ℕ))) (runs : Bool) (left : Option (List ℕ)) (words : List (List ℕ)) (answer : List ℕ → Answer)
    (out new_out err new_err : Option (List ℕ)) (status : ℕ) → runs ≡ true → IfSome stored (λ files. (input : List ℕ) → Product files input words (answer input))
    → ((input : List ℕ) → left ≡ Some input → Tells (answer input) out new_out err new_err status)
    → IfSome stored (λ files. (input : List ℕ) → HasInput runs left input → Delivers files input words out new_out err new_err status)
run_delivers None runs left words answer out new_out err new_err status runs_is is told = tt
run_delivers (Some files) true left words answer out new_out err new_err status runs_is is told =
    λ input has. delivers files input words (answer input) out new_out err new_err status (is input) (told input has)
run_delivers (Some files) false left words answer out new_out err new_err status runs_is is told = absurd (cc)

delivers_front : (files : List (List ℕ × List ℕ)) (input : List ℕ) (words : List (List ℕ)) (answer : Answer) (out new_out err new_err : Option (List ℕ))
    → Product files input words answer → TellsFront answer out new_out err new_err → DeliversFront files input words out new_out err new_err
delivers_front files input words answer out new_out err new_err is told = record {
  answer = answer;
  defined = is;
  only = λ other other_is. one_answer files input words other answer other_is is;
  told = told;
}

-- a front of it was written
pub answer_delivers_front : (stored : Option (List (List ℕ × List ℕ))) (runs : Bool) (left : Option (List ℕ)) (words : List (List ℕ)) (answer : Answer)
    (out new_out err new_err : Option (List ℕ)) → IfSome stored (λ files. (input : List ℕ) → Product files input words answer) → TellsFront answer out new_out err new_err
    → IfSome stored (λ files. (input : List ℕ) → HasInput runs left input → DeliversFront files input words out new_out err new_err)
answer_delivers_front None runs left words answer out new_out err new_err is told = tt
answer_delivers_front (Some files) runs left words answer out new_out err new_err is told =
    λ input has. delivers_front files input words answer out new_out err new_err (is input) told

-- of a run
pub run_delivers_front : (stored : Option (List (List ℕ × List ℕ))) (runs : Bool) (left : Option (List ℕ)) (words : List (List ℕ)) (answer : List ℕ → Answer)
    (out new_out err new_err : Option (List ℕ)) → runs ≡ true → IfSome stored (λ files. (input : List ℕ) → Product files input words (answer input))
    → ((input : List ℕ) → left ≡ Some input → TellsFront (answer input) out new_out err new_err)
    → IfSome stored (λ files. (input : List ℕ) → HasInput runs left input → DeliversFront files input words out new_out err new_err)
run_delivers_front None runs left words answer out new_out err new_err runs_is is told = tt
run_delivers_front (Some files) true left words answer out new_out err new_err runs_is is told =
    λ input has. delivers_front files input words (answer input) out new_out err new_err (is input) (told input has)
run_delivers_front (Some files) false left words answer out new_out err new_err runs_is is told = absurd (cc)

-- that is a front of each answer that is defined
pub no_more : (stored : Option (List (List ℕ × List ℕ))) (runs : Bool) (left : Option (List ℕ)) (words : List (List ℕ)) (out new_out err new_err : Option (List ℕ))
    → IfSome stored (λ files. (input : List ℕ) → HasInput runs left input → DeliversFront files input words out new_out err new_err)
    → IfSome stored (λ files. (input : List ℕ) → HasInput runs left input → DeliversNoMore files input words out new_out err new_err)
no_more None runs left words out new_out err new_err delivers = tt
no_more (Some files) runs left words out new_out err new_err delivers = λ input has answer is.
    let one = delivers input has in
    subst (λ (a : Answer). TellsFront a out new_out err new_err) (sym (one.only answer is)) one.told

kept : (old new : Option (List ℕ)) → Keeps old new → Appends old new []
kept old new same = Appends-kept old old new [] (Appends-nil old) same

pub front_kept : (old new : Option (List ℕ)) (piece : List ℕ) → Keeps old new → AppendsPrefix old new piece
front_kept old new piece same = ([], piece, refl, kept old new same)

-- nothing was written
pub nothing_more : (stored : Option (List (List ℕ × List ℕ))) (runs : Bool) (left : Option (List ℕ)) (words : List (List ℕ)) (out new_out err new_err : Option (List ℕ))
    → Keeps out new_out → Keeps err new_err
    → IfSome stored (λ files. (input : List ℕ) → HasInput runs left input → DeliversNoMore files input words out new_out err new_err)
nothing_more None runs left words out new_out err new_err same_out same_err = tt
nothing_more (Some files) runs left words out new_out err new_err same_out same_err =
    λ input has answer is. (front_kept out new_out answer.out same_out, front_kept err new_err answer.err same_err)

-- a named file isn't there, and nothing was written
pub unread_delivers : (stored : Option (List (List ℕ × List ℕ))) (runs : Bool) (left : Option (List ℕ)) (words : List (List ℕ))
    (out new_out err new_err : Option (List ℕ)) → Keeps out new_out → Keeps err new_err
    → IsSomeAnd stored (λ files. (input : List ℕ) → Product files input words unread)
    → IfSome stored (λ files. (input : List ℕ) → HasInput runs left input → Delivers files input words out new_out err new_err 7)
unread_delivers None runs left words out new_out err new_err same_out same_err gone = tt
unread_delivers (Some files) runs left words out new_out err new_err same_out same_err gone =
    λ input has. delivers files input words unread out new_out err new_err 7 (gone input) (refl, kept out new_out same_out, kept err new_err same_err)

-- each way to stop: one with a count that rose, one with no memory, or a file that isn't there
pub stop_delivers : (stop : Stop) (status : ℕ) (stored : Option (List (List ℕ × List ℕ))) (runs : Bool) (left : Option (List ℕ)) (words : List (List ℕ))
    (out new_out err new_err : Option (List ℕ)) (FilesRose InputRose OutRose ErrRose : Type 0) → status ≡ stop_status stop → ¬ FilesRose
    → (runs ≡ true → ¬ InputRose) → ¬ OutRose → ¬ ErrRose → status ≢ 9
    → (stop ≡ Read → FilesRose ⊎ ((runs ≡ true) × InputRose) ⊎ IsSomeAnd stored (λ files. (input : List ℕ) → Product files input words unread))
    → (stop ≡ Write → OutRose ⊎ ErrRose) → (stop ≡ Read → Keeps out new_out × Keeps err new_err)
    → IfSome stored (λ files. (input : List ℕ) → HasInput runs left input → Delivers files input words out new_out err new_err status)
stop_delivers Read status stored runs left words out new_out err new_err F I O E is files_stay input_stays out_stays err_stays memory read write nothing =
    let same : Keeps out new_out × Keeps err new_err = nothing refl in
    let gone : IsSomeAnd stored (λ files. (input : List ℕ) → Product files input words unread) =
    elim (read refl) [ inl rose ↦ absurd (files_stay rose) | inr later ↦ elim later [ inl rose ↦ absurd (input_stays rose.0 rose.1) | inr gone ↦ gone ] ] in
    subst (λ (n : ℕ). IfSome stored (λ files. (input : List ℕ) → HasInput runs left input → Delivers files input words out new_out err new_err n)) (sym is)
    (unread_delivers stored runs left words out new_out err new_err same.0 same.1 gone)
stop_delivers Write status stored runs left words out new_out err new_err F I O E is files_stay input_stays out_stays err_stays memory read write nothing =
    absurd (elim (write refl) [ inl rose ↦ out_stays rose | inr rose ↦ err_stays rose ])
stop_delivers Memory status stored runs left words out new_out err new_err F I O E is files_stay input_stays out_stays err_stays memory read write nothing = absurd (memory is)

-- an answer that needs no file was written
pub fixed_tells : (fixed : Option Answer) (answer : Answer) (out new_out err new_err : Option (List ℕ)) (status : ℕ) → IfSome fixed (λ told. answer ≡ told)
    → Tells answer out new_out err new_err status → IfSome fixed (λ told. Tells told out new_out err new_err status)
fixed_tells None answer out new_out err new_err status is told = tt
fixed_tells (Some fixed) answer out new_out err new_err status is told = subst (λ (a : Answer). Tells a out new_out err new_err status) is told

-- a front of it was written
pub fixed_tells_front : (fixed : Option Answer) (answer : Answer) (out new_out err new_err : Option (List ℕ)) → IfSome fixed (λ told. answer ≡ told)
    → TellsFront answer out new_out err new_err → IfSome fixed (λ told. TellsFront told out new_out err new_err)
fixed_tells_front None answer out new_out err new_err is told = tt
fixed_tells_front (Some fixed) answer out new_out err new_err is told = subst (λ (a : Answer). TellsFront a out new_out err new_err) is told
