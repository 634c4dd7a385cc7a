-- What steps and tellings keep of a run.
use Rattle.std.proofs.Common.{◌≡◌, ℕ, suc, ◌+◌, ◌-◌, ◌<◌, ◌≤◌, false, List, [], ◌++◌, length, refl, sym, ◌∙◌, ap, subst, Some, Result, Ok, Err, OnOk, OnErr, IfOk, arith}
use Rattle.std.specs.Io.KnownBytes.{Appends}
use Rattle.std.proofs.lemmas.List.{length-append}
use Rattle.machine.specs.States.{Ending, Spent}
use Rattle.handled_steps.specs.States.{State, Outcome, Goes, Ends, Wants, Fails}
use Rattle.handled_steps.specs.Steps.{Then, Within}
use Rattle.handled_steps.specs.Runs.{ran_with}
use Rattle.run_results.specs.declared.ran.Ending.{Ending as EndingRow}
use Rattle.run_results.specs.Results.{ending_of}
use Rattle.run_results.specs.Lines.{leak_lines}
use Rattle.slot_runs.specs.Pasts.{Past, plain_memory, plain, since, stepped, mapped}
use Rattle.slot_runs.specs.Turns.{Setting, Untold, Inside, state_of, Still, OneStep, SomeSteps, is_failing, NeverFails, IsSeen, GoesOn, IsEnded}
use Rattle.slot_runs.specs.Tellings.{Owes, Sinks, with_untold, TellsOn, TellsFronts}
use Rattle.slot_runs.specs.Underway.{IsUnderway}
use Rattle.slot_runs.specs.Answers.{IsOver, IsWritten, IsCut, CanRun}
use Rattle.slot_runs.proofs.Since.{step_since}
use Rattle.slot_runs.proofs.Owed.{owed_written, owed_more, owed_none, owed_all, lines_more}

-- ---- outcomes

goes_state : Outcome → State → State
goes_state (Goes s) x = s
goes_state (Ends e s) x = s
goes_state Wants x = x
goes_state Fails x = x

-- What goes on where its mapped state does.
went : (f : State → State) (out : Outcome) (x : State) → mapped f out ≡ Goes x → (s : State) × (out ≡ Goes s) × (f s ≡ x)
unfolding goes_state
went f (Goes s) x same = (s, refl, ap (λ o. goes_state o x) same)
went f (Ends e s) x same = cc
went f Wants x same = cc
went f Fails x same = cc

ending_or : Outcome → Ending → Ending
ending_or (Ends e s) k = e
ending_or _ k = k

over : (f : State → State) (out : Outcome) (e : Ending) (x : State) → mapped f out ≡ Ends e x → (s : State) × (out ≡ Ends e s) × (f s ≡ x)
unfolding goes_state ending_or
over f (Goes s) e x same = cc
over f (Ends k s) e x same = (s, ap (λ k. Ends k s) (ap (λ o. ending_or o e) same), ap (λ o. goes_state o x) same)
over f Wants e x same = cc
over f Fails e x same = cc

failing_same : (f : State → State) (out : Outcome) → is_failing (mapped f out) ≡ is_failing out
failing_same f (Goes s) = refl
failing_same f (Ends e s) = refl
failing_same f Wants = refl
failing_same f Fails = refl

-- ---- runs

within_more : (c : Setting) (n : ℕ) (s : State) (g r : Outcome) → OneStep c s g → Then (SomeSteps n c) g r → SomeSteps (suc n) c s r
unfolding Within
within_more c n s g r comes on = (g, comes, on)

within_none : (c : Setting) (s : State) → SomeSteps 0 c s (Ends Spent s)
unfolding Within
within_none c s = refl

-- The first step doesn't fail of what doesn't.
first_there : (c : Setting) (n : ℕ) (s : State) (g : Outcome) → OneStep c s g → NeverFails (SomeSteps (suc n) c s) → is_failing g ≡ false
first_there c n s (Goes k) comes not = refl
first_there c n s (Ends e k) comes not = refl
first_there c n s Wants comes not = refl
first_there c n s Fails comes not = not Fails (within_more c n s Fails Fails comes refl)

-- ---- a step

-- The step at hand doesn't fail.
not_failing : (files : List (List ℕ)) (c : Setting) (start now : Sinks) (lines : List ℕ) (leaked : ℕ) (first : State) (n steps : ℕ) (u : Untold) (S : Inside → Type 0)
    → (is : IsUnderway files c start now lines leaked first steps u S) → NeverFails (SomeSteps (steps + suc n) c first) → NeverFails (OneStep c (state_of u is.inside))
not_failing files c start now lines leaked first n steps u S is not = λ r comes.
    let a = step_since is.past c is.state (state_of u is.inside) is.running.0 is.running.1 is.running.2 is.same r comes in
    sym (failing_same (since (stepped is.past)) r) ∙ ap is_failing (sym a.2) ∙ failing_same plain a.0
    ∙ first_there c n is.state a.0 a.1 (λ q there. not q (is.rest (suc n) q there))

moved : (steps more : ℕ) → steps + suc more ≡ suc steps + more
moved steps more = omega arith

pub goes_on : (files : List (List ℕ)) (c : Setting) (start now : Sinks) (lines : List ℕ) (leaked : ℕ) (first : State) (steps : ℕ) (u v : Untold) (S T : Inside → Type 0)
    → (is : IsUnderway files c start now lines leaked first steps u S) → GoesOn (OneStep c (state_of u is.inside)) v T
    → IsUnderway files c start now lines leaked first (suc steps) v T
goes_on files c start now lines leaked first steps u v S T is on =
    let q : Past = stepped is.past in
    let a = step_since is.past c is.state (state_of u is.inside) is.running.0 is.running.1 is.running.2 is.same (Goes on.state) on.comes in
    let w = went plain a.0 (since q on.state) a.2 in
    record {
      past = q;
      state = w.0;
      inside = on.inside;
      stands = on.stands;
      told = record { output = is.told.output; lines = is.told.lines; leaked = is.told.leaked };
      counted = ap suc is.counted;
      same = w.2 ∙ ap (since q) on.same;
      running = on.running;
      rest = λ more r there.
          subst (λ n. SomeSteps n c first r) (moved steps more)
          (is.rest (suc more) r (within_more c more is.state (Goes w.0) r (subst (OneStep c is.state) w.1 a.1) there));
    }

-- What is seen of states that end a run.
seen_same : (e : Ending) (p : Past) (s h : State) → IsSeen s h → ran_with e (since p s) ≡ ran_with e (since p h)
seen_same e p s h is =
    ap (λ o. record (ran_with e (since p s)) { output = p.output ++ o }) is.output
    ∙ ap (λ l. record (ran_with e (since p s)) { output = p.output ++ h.output; leaks = p.leaks ++ l; leaked = length (p.leaks ++ l) }) is.leaks
    ∙ ap (λ n. record (ran_with e (since p h)) { made = n; freed = s.memory.freed }) is.made
    ∙ ap (λ n. record (ran_with e (since p h)) { freed = n }) is.freed

pub ends : (files : List (List ℕ)) (c : Setting) (start now : Sinks) (lines : List ℕ) (leaked : ℕ) (first : State) (n steps : ℕ) (u v : Untold) (S T : Inside → Type 0) (e : EndingRow)
    → (is : IsUnderway files c start now lines leaked first steps u S) → IsEnded (OneStep c (state_of u is.inside)) e v T
    → IsOver files c start now lines leaked first (steps + suc n) (ending_of e) (suc steps) v T
ends files c start now lines leaked first n steps u v S T e is end =
    let q : Past = stepped is.past in
    let a = step_since is.past c is.state (state_of u is.inside) is.running.0 is.running.1 is.running.2 is.same (Ends (ending_of e) end.state) end.comes in
    let w = over plain a.0 (ending_of e) (since q end.state) a.2 in
    record {
      past = q;
      told = record { output = is.told.output; lines = is.told.lines; leaked = is.told.leaked };
      counted = ap suc is.counted;
      outcome = Ends (ending_of e) w.0;
      comes =
          is.rest (suc n) (Ends (ending_of e) w.0)
          (within_more c n is.state (Ends (ending_of e) w.0) (Ends (ending_of e) w.0) (subst (OneStep c is.state) w.1 a.1) refl);
      inside = end.inside;
      stands = end.stands;
      gives = ap (λ s. Some (ran_with (ending_of e) s)) w.2 ∙ ap Some (seen_same (ending_of e) q end.state (state_of v end.inside) end.seen);
      heap = ap (λ (s : State). s.memory.heap) w.2 ∙ end.seen.heap;
    }

-- No step is left.
pub spent : (files : List (List ℕ)) (c : Setting) (start now : Sinks) (lines : List ℕ) (leaked : ℕ) (first : State) (steps : ℕ) (u : Untold) (S : Inside → Type 0)
    → IsUnderway files c start now lines leaked first steps u S → IsOver files c start now lines leaked first (steps + 0) Spent steps u S
spent files c start now lines leaked first steps u S is = record {
  past = is.past;
  told = is.told;
  counted = is.counted;
  outcome = Ends Spent is.state;
  comes = is.rest 0 (Ends Spent is.state) (within_none c is.state);
  inside = is.inside;
  stands = is.stands;
  gives = ap (λ s. Some (ran_with Spent s)) is.same;
  heap = ap (λ (s : State). s.memory.heap) is.same;
}

-- ---- tellings

-- A state that isn't told, with all that was there before.
shown : Past → Inside → State
shown p x = record { memory = plain_memory x.memory; frames = x.frames; at = x.at; output = p.output; leaks = p.leaks; steps = p.steps }

told_same : (p q : Past) (u v : Untold) (x : Inside) → with_untold q v ≡ with_untold p u → since p (state_of u x) ≡ since q (state_of v x)
unfolding shown
told_same p q u v x same = ap (λ a. shown a x) (sym same)

pub told_on : (files : List (List ℕ)) (c : Setting) (start old new : Sinks) (before after : List ℕ) (was is : ℕ) (first : State) (steps : ℕ) (u v : Untold) (S T : Inside → Type 0)
    → IsUnderway files c start old before was first steps u S → TellsOn files old new before after was is u v → Still S T
    → IsUnderway files c start new after is first steps v T
told_on files c start old new before after was is first steps u v S T at tells still =
    let t = tells start at.past at.told in
    record {
      past = t.0;
      state = at.state;
      inside = at.inside;
      stands = still at.inside at.stands;
      told = t.1;
      counted = ap (λ (p : Past). p.steps) t.2 ∙ at.counted;
      same = at.same ∙ told_same at.past t.0 u v at.inside t.2;
      running = at.running;
      rest = at.rest;
    }

from_none : (more : ℕ) → more ≡ 0 + more
from_none more = omega arith

-- A run begins.
pub begun : (files : List (List ℕ)) (c : Setting) (start : Sinks) (limit : ℕ) (u : Untold) (S : Inside → Type 0) (x : Inside) → CanRun limit c u S x
    → IsUnderway files c start start [] 0 (state_of u x) 0 u S
begun files c start limit u S x can = record {
  past = record { output = []; leaks = []; steps = 0 };
  state = state_of u x;
  inside = x;
  stands = can.stands;
  told = record { output = owed_none start.output; lines = owed_none start.lines; leaked = refl };
  counted = refl;
  same = refl;
  running = can.running;
  rest = λ more r there. subst (λ n. SomeSteps n c (state_of u x) r) (from_none more) there;
}

-- ---- the answer

pub answered : (files : List (List ℕ)) (c : Setting) (start old new : Sinks) (lines all : List ℕ) (leaked count : ℕ) (first : State) (most : ℕ) (e : EndingRow) (steps made freed : ℕ) (u v : Untold) (S T : Inside → Type 0)
    → IsOver files c start old lines leaked first most (ending_of e) steps u S → Still S T
    → v ≡ record u { leaks = [] } → all ≡ lines ++ leak_lines files u.leaks → count ≡ leaked + length u.leaks
    → Appends old.output new.output v.output → Appends old.lines new.lines all
    → ((x : Inside) → T x → made ≡ x.memory.made) → ((x : Inside) → T x → freed ≡ x.memory.freed)
    → IsWritten files (SomeSteps most c first) T (record { ending = e; steps = steps; made = made; freed = freed; leaked = count }) start new
answered files c start old new lines all leaked count first most e steps made freed u v S T is still none more counted output written cells gone =
    let p : Past = is.past in
    let stands : T is.inside = still is.inside is.stands in
    let put : Appends old.output new.output u.output = subst (λ (x : Untold). Appends old.output new.output x.output) none output in
    let told : Owes start.lines old.lines (lines ++ leak_lines files u.leaks) (leak_lines files (p.leaks ++ u.leaks)) =
    subst (λ l. Owes start.lines old.lines (lines ++ leak_lines files u.leaks) l) (sym (lines_more files p.leaks u.leaks))
    (owed_more start.lines old.lines lines (leak_lines files p.leaks) (leak_lines files u.leaks) is.told.lines) in
    record {
      outcome = is.outcome;
      comes = is.comes;
      run = ran_with (ending_of e) (since p (state_of u is.inside));
      gives = is.gives;
      is = record {
        ending = refl;
        steps = is.counted;
        made = sym (cells is.inside stands);
        freed = sym (gone is.inside stands);
        leaked = length-append p.leaks u.leaks ∙ ap (λ n. n + length u.leaks) (sym is.told.leaked) ∙ sym counted;
      };
      output = owed_all start.output new.output (p.output ++ u.output) (owed_written start.output old.output new.output u.output (p.output ++ u.output) (owed_more start.output old.output [] p.output u.output is.told.output) put);
      lines = owed_all start.lines new.lines (leak_lines files (p.leaks ++ u.leaks)) (owed_written start.lines old.lines new.lines all (leak_lines files (p.leaks ++ u.leaks)) (subst (λ l. Owes start.lines old.lines l (leak_lines files (p.leaks ++ u.leaks))) (sym more) told) written);
      inside = is.inside;
      left = stands;
      heap = is.heap;
    }

-- ---- numbers of steps

one_left : (limit steps : ℕ) → steps < limit → steps + suc (limit - (steps + 1)) ≡ limit
one_left limit steps below = omega (arith, below)

none_left : (steps : ℕ) → steps + 0 ≡ steps
none_left steps = omega arith

next : (steps : ℕ) → suc steps ≡ steps + 1
next steps = omega arith

-- The same over counts of code.
pub step_there : (files : List (List ℕ)) (c : Setting) (start now : Sinks) (lines : List ℕ) (leaked : ℕ) (first : State) (limit steps : ℕ) (u : Untold) (S : Inside → Type 0) → steps < limit
    → (is : IsUnderway files c start now lines leaked first steps u S) → NeverFails (SomeSteps limit c first) → NeverFails (OneStep c (state_of u is.inside))
step_there files c start now lines leaked first limit steps u S below is not =
    not_failing files c start now lines leaked first (limit - (steps + 1)) steps u S is
    (subst (λ n. NeverFails (SomeSteps n c first)) (sym (one_left limit steps below)) not)

pub step_on : (files : List (List ℕ)) (c : Setting) (start now : Sinks) (lines : List ℕ) (leaked : ℕ) (first : State) (steps : ℕ) (u v : Untold) (S T : Inside → Type 0)
    → (is : IsUnderway files c start now lines leaked first steps u S) → GoesOn (OneStep c (state_of u is.inside)) v T
    → IsUnderway files c start now lines leaked first (steps + 1) v T
step_on files c start now lines leaked first steps u v S T is on =
    subst (λ n. IsUnderway files c start now lines leaked first n v T) (next steps) (goes_on files c start now lines leaked first steps u v S T is on)

pub step_ends : (files : List (List ℕ)) (c : Setting) (start now : Sinks) (lines : List ℕ) (leaked : ℕ) (first : State) (limit steps : ℕ) (u v : Untold) (S T : Inside → Type 0) (e : EndingRow) → steps < limit
    → (is : IsUnderway files c start now lines leaked first steps u S) → IsEnded (OneStep c (state_of u is.inside)) e v T
    → IsOver files c start now lines leaked first limit (ending_of e) (steps + 1) v T
step_ends files c start now lines leaked first limit steps u v S T e below is end =
    subst (λ n. IsOver files c start now lines leaked first limit (ending_of e) n v T) (next steps)
    (subst (λ n. IsOver files c start now lines leaked first n (ending_of e) (suc steps) v T) (one_left limit steps below)
    (ends files c start now lines leaked first (limit - (steps + 1)) steps u v S T e is end))

pub all_spent : (files : List (List ℕ)) (c : Setting) (start now : Sinks) (lines : List ℕ) (leaked : ℕ) (first : State) (limit steps : ℕ) (u : Untold) (S : Inside → Type 0) → steps ≡ limit
    → IsUnderway files c start now lines leaked first steps u S → IsOver files c start now lines leaked first limit Spent steps u S
all_spent files c start now lines leaked first limit steps u S same is =
    subst (λ n. IsOver files c start now lines leaked first n Spent steps u S) (none_left steps ∙ same) (spent files c start now lines leaked first steps u S is)

-- ---- runs that are cut off

-- At what is written at the end.
pub over_cut : (files : List (List ℕ)) (c : Setting) (start old new : Sinks) (lines : List ℕ) (leaked : ℕ) (first : State) (most limit : ℕ) (e : Ending) (steps : ℕ) (u : Untold) (S : Inside → Type 0) → most ≤ limit
    → IsOver files c start old lines leaked first most e steps u S → TellsFronts files old new lines leaked u → IsCut files (λ n. SomeSteps n c first) limit start new
over_cut files c start old new lines leaked first most limit e steps u S few is tells = record {
  steps = most;
  few = few;
  outcome = is.outcome;
  comes = is.comes;
  run = ran_with e (since is.past (state_of u is.inside));
  gives = is.gives;
  fronts = tells start is.past is.told;
}

-- At a step, or at what is written after it.
pub underway_cut : (files : List (List ℕ)) (c : Setting) (start old new : Sinks) (lines : List ℕ) (leaked : ℕ) (first : State) (limit steps : ℕ) (u : Untold) (S : Inside → Type 0) → steps ≤ limit
    → IsUnderway files c start old lines leaked first steps u S → TellsFronts files old new lines leaked u → IsCut files (λ n. SomeSteps n c first) limit start new
underway_cut files c start old new lines leaked first limit steps u S few is tells =
    over_cut files c start old new lines leaked first steps limit Spent steps u S few (all_spent files c start old lines leaked first steps steps u S refl is) tells

-- ---- answers that are there

pub on_ok : {A E P Q : Type 0} (r : Result A E) → (P → Q) → OnOk r P → OnOk r Q
on_ok (Ok a) f p = f p
on_ok (Err e) f p = tt

pub if_ok : {A E : Type 0} {P Q : A → Type 0} (r : Result A E) → ((a : A) → P a → Q a) → IfOk r P → IfOk r Q
if_ok (Ok a) f p = f a p
if_ok (Err e) f p = tt

pub on_err : {A E P Q : Type 0} (r : Result A E) → (P → Q) → OnErr r P → OnErr r Q
on_err (Ok a) f p = tt
on_err (Err e) f p = f p

pub for_err : {A E P : Type 0} (r : Result A E) → P → OnErr r P
for_err (Ok a) p = tt
for_err (Err e) p = p

pub ok_apart : {A E : Type 0} (a : A) (e : E) → Ok a ≡ Err e → ⊥
ok_apart a e same = cc
