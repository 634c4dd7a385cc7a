-- What a place takes is evaluated and checked, and is what is lowered by `value`.
use Rattle.std.proofs.Common.{◌≡◌, ℕ, suc, ◌+◌, ◌<◌, true, false, Bool, List, [], ◌∷◌, length, refl, sym, ap, subst, ◌∙◌, arith, Some, if◌then◌else◌}
use Rattle.type_definitions.specs.declared.judgement.View.{View}
use Rattle.type_definitions.specs.declared.judgement.View.TheVariants as view
use Rattle.type_definitions.specs.Types.{full}
use Rattle.typed_tree.specs.Trees.{TypedTree}
use Rattle.flow_paths.specs.Objects.{is_anonymous}
use Rattle.flow_paths.specs.Names.{waiting}
use Rattle.flow_paths.specs.Laid.{flow_typing}
use Rattle.machine.specs.Words.{Word, are_within}
use Rattle.machine.specs.Typed.{sorts}
use Rattle.machine.specs.Evaluate.{Here, Now, Evaluated, Done, ConstraintError, followed_by, AsValue, AsView, evaluate, checked}
use Rattle.machine.specs.Evaluate as evaluation
use Rattle.machine.specs.Step as machine_step
use Rattle.machine.specs.Step.{taken_by}
use Rattle.run_codes.specs.Codes.{Fill}
use Rattle.run_codes.specs.Flat.{filled}
use Rattle.run_codes.specs.Lowered.{value}
use Rattle.run_codes.specs.Programs.{use_for}
use Rattle.run_codes.specs.Related.{now}
use Rattle.run_fills.specs.Filled.{Filled}
use Rattle.run_fills.proofs.Fills.{fills}
use Rattle.run_points.specs.States.{Laid}
use Rattle.run_points.specs.Turns.{Turns, turn, around, seen, TurnStands}
use Rattle.run_points.proofs.Ends.{start_is}
use Rattle.run_points.proofs.Undeclared.{Keeps, keeps_on, evaluate_low, checked_low}
use Rattle.run_points.proofs.Halts.{is_whole}

never : {A : Type 0} → false ≡ true → A
never is = absurd (no_way is)
  where
    no_way : false ≡ true → ⊥
    no_way is = cc

-- All words are values of an anonymous access type.
all_within : (v : View) (ws : List Word) → is_anonymous v ≡ true → are_within v ws ≡ true
all_within (view.Whole low high) ws is = never is
all_within (view.Listed low high) ws is = never is
all_within v [] is = refl
all_within v (w ∷ u ∷ ws) is = refl
all_within v (w ∷ []) is = refl

unchecked : (h : Here) (of : ℕ) → is_anonymous (full h.typing.table of) ≡ true → (ev : Evaluated (List Word)) → ev ≡ followed_by ev (checked h of)
unchecked h of is (Done ws now) =
    sym (ap (λ b. if b then Done ws now else evaluation.Raises ConstraintError now) (all_within (full h.typing.table of) ws is))
unchecked h of is (evaluation.Raises e now) = refl
unchecked h of is (evaluation.Traps t now) = refl

-- What a place takes is evaluated, and checked.
pub taken_is : (b : Turns) (of : ℕ) (e : TypedTree) (n : Now)
    → taken_by (turn b) of e n ≡ followed_by (evaluate (machine_step.here (turn b)) (use_for (flow_typing b.program).table of) e n) (checked (machine_step.here (turn b)) of)
taken_is b of e n = by (is_anonymous (full (flow_typing b.program).table of)) refl
  where
    h : Here
    h = machine_step.here (turn b)

    by : (k : Bool) → is_anonymous (full (flow_typing b.program).table of) ≡ k
        → (if k then evaluate h AsView e n else followed_by (evaluate h AsValue e n) (checked h of)) ≡ followed_by (evaluate h (if k then AsView else AsValue) e n) (checked h of)
    by true is = unchecked h of is (evaluate h AsView e n)
    by false is = refl

pub taken_filled : (b : Turns) (laid : Laid) → TurnStands b laid → (of : ℕ) (e : TypedTree) (v : Fill) → value (around b).site 0 (use_for (flow_typing b.program).table of) of e ≡ Some v
    → Filled (seen b) laid.objects (0 + waiting e) (sorts (flow_typing b.program).table of) (taken_by (turn b) of e (machine_step.start (turn b))) (filled (flow_typing b.program).table v (seen b).flat)
taken_filled b laid is of e v lowers =
    subst (λ y. Filled (seen b) laid.objects (0 + waiting e) (sorts (flow_typing b.program).table of) y (filled (flow_typing b.program).table v (seen b).flat))
    (sym (taken_is b of e (machine_step.start (turn b))
    ∙ ap (λ s. followed_by (evaluate (machine_step.here (turn b)) (use_for (flow_typing b.program).table of) e s) (checked (machine_step.here (turn b)) of)) (start_is b laid is)))
    (fills (seen b) laid.objects (is_whole b laid is) e 0 of (use_for (flow_typing b.program).table of) v lowers)

-- It leaves frames that aren't there as they are.
pub taken_low : (b : Turns) (laid : Laid) → TurnStands b laid → (of : ℕ) (e : TypedTree) → Keeps (flow_typing b.program) (suc (length b.outer)) (taken_by (turn b) of e (machine_step.start (turn b)))
taken_low b laid is of e =
    subst (λ y. Keeps (flow_typing b.program) (suc (length b.outer)) y) (sym (taken_is b of e (machine_step.start (turn b))))
    (keeps_on (flow_typing b.program) (suc (length b.outer)) (evaluate h (use_for (flow_typing b.program).table of) e (machine_step.start (turn b))) (checked h of)
    (evaluate_low h (suc (length b.outer)) (last (length b.outer)) (use_for (flow_typing b.program).table of) e (machine_step.start (turn b)) is.memory.undeclared)
    (λ ws later kept. checked_low h (suc (length b.outer)) of ws later kept))
  where
    h : Here
    h = machine_step.here (turn b)

    last : (n : ℕ) → n < suc n
    last n = omega arith
