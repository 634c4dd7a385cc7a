-- A choice leads to the point of the alternative that the machine chooses.
use Rattle.std.proofs.Common.{◌≡◌, ◌⊎◌, inl, inr, ℕ, suc, ◌+◌, ◌<◌, true, false, Bool, not, ◌||◌, cond, List, [], ◌∷◌, ◌++◌, length, refl, sym, ap, subst, ◌∙◌, Option, Some, None, arith, nat_lt, ℤ, if◌then◌else◌}
use Rattle.std.specs.Prelude.{option_and_then}
use Rattle.std.specs.List.{position_or_len}
use Rattle.typed_tree.specs.Trees.{TypedTree, TypedCode, Interval, Others, More}
use Rattle.flow_paths.specs.Names.{waiting}
use Rattle.flow_paths.specs.Laid.{flow_typing}
use Rattle.flow_paths.specs.Points.{FlowPoint}
use Rattle.run_values.specs.Arithmetic.{is_integer}
use Rattle.machine.specs.Words.{Word}
use Rattle.machine.specs.Typed.{Sort, Whole, Position, Pointer}
use Rattle.machine.specs.Evaluate.{AsValue, ConstraintError, value, value_of}
use Rattle.machine.specs.States as machine
use Rattle.machine.specs.Step as machine_step
use Rattle.machine.specs.Step.{is_chosen, any_chosen}
use Rattle.run_codes.specs.Codes.{Code, Does, Choice, Choose}
use Rattle.run_codes.specs.Flat.{word, is_between}
use Rattle.run_codes.specs.Flat as flat
use Rattle.run_codes.specs.Lowered.{option_map, lowered}
use Rattle.run_codes.specs.Programs.{Around, going, choice, choices_of, alternatives, chosen_code}
use Rattle.run_codes.specs.Programs as lowering
use Rattle.run_codes.specs.Points.{chosen, goes, halted, choose}
use Rattle.run_codes.specs.Points as points
use Rattle.run_codes.specs.Related.{Stands, Same, types}
use Rattle.run_codes.proofs.Places.{impossible, some_same}
use Rattle.run_codes.proofs.Expressions.{and_then_some}
use Rattle.run_points.specs.Outcomes.{IsAlike}
use Rattle.run_points.specs.States.{Laid, StateStands, MainBegins}
use Rattle.run_points.specs.Turns.{Turns, turn, flat_turn, around, seen, TurnStands}
use Rattle.run_points.proofs.Ends.{raised_alike, word_alike, goes_on}
use Rattle.run_points.proofs.Tests.{mapped, both_there, value_same, DoneAlike}

-- ---- values within bounds

either : {A : Type 0} (x y : Bool) (a : A) (o : Option A) → (if x then Some a else (if y then Some a else o)) ≡ (if x || y then Some a else o)
either true y a o = refl
either false y a o = refl

-- The values of one alternative.
chosen_in : (z : ℤ) → is_integer z ≡ true → (n : ℕ) (c : TypedCode) (more : List Choice)
    → chosen z (choices_of n c ++ more) ≡ (if any_chosen z c then Some n else chosen z more)
unfolding choices_of any_chosen
chosen_in z whole n (More (Interval low high) rest) more =
    ap (λ o. if is_between low high z then Some n else o) (chosen_in z whole n rest more) ∙ either (is_between low high z) (any_chosen z rest) n (chosen z more)
chosen_in z whole n (More Others rest) more = ap (λ b. if b then Some n else chosen z (choices_of n rest ++ more)) whole
chosen_in z whole n (More _ rest) more = chosen_in z whole n rest more
chosen_in z whole n _ more = refl

-- ---- alternatives

abbrev Chosen : Around → FlowPoint → ℤ → ℕ → List TypedCode → List Choice → Type 0
Chosen a p z k all cs =
    ((i : ℕ) × (n : ℕ) × (position_or_len (any_chosen z) all ≡ i) × (i < length all) × (going a p (k + i) ≡ Some (Some n)) × (chosen z cs ≡ Some n))
    ⊎ ((position_or_len (any_chosen z) all ≡ length all) × (chosen z cs ≡ None))

abbrev choices_at : TypedCode → Option (Option ℕ) → Option (List Choice)
choices_at c (Some (Some n)) = Some (choices_of n c)
choices_at c _ = None

choices_there : (c : TypedCode) (o : Option (Option ℕ)) (cs : List Choice) → choices_at c o ≡ Some cs → (n : ℕ) × (o ≡ Some (Some n)) × (choices_of n c ≡ cs)
choices_there c (Some (Some n)) cs is = (n, refl, some_same (choices_of n c) cs is)
choices_there c (Some None) cs is = impossible cs is
choices_there c None cs is = impossible cs is

picks : (a : Around) (p : FlowPoint) (z : ℤ) → is_integer z ≡ true → (k : ℕ) (all : List TypedCode) (cs : List Choice) → alternatives a p k all ≡ Some cs → Chosen a p z k all cs
picks a p z whole k [] cs is = inr (refl, ap (λ l. chosen z l) (sym (some_same [] cs is)))
picks a p z whole k (c ∷ rest) cs is =
    let both = both_there (choices_at c (going a p k)) (alternatives a p (suc k) rest) cs is in
    let first = choices_there c (going a p k) both.0 both.1 in
    let more = both.2 in
    let value : chosen z cs ≡ (if any_chosen z c then Some first.0 else chosen z more.0) =
    ap (λ l. chosen z l) (sym more.2) ∙ ap (λ l. chosen z (l ++ more.0)) (sym first.2) ∙ chosen_in z whole first.0 c more.0 in
    by (any_chosen z c) refl first.0 first.1 more.0 value (picks a p z whole (suc k) rest more.0 more.1)
  where
    below : (n : ℕ) → 0 < suc n
    below n = omega arith

    none : (k : ℕ) → k + 0 ≡ k
    none k = omega arith

    one : (a b : ℕ) → a ≡ b → 1 + a ≡ suc b
    one a b is = omega (arith, is)

    below_more : (i n : ℕ) → i < n → suc i < suc n
    below_more i n is = omega (arith, is)

    further : (k i : ℕ) → k + suc i ≡ suc k + i
    further k i = omega arith

    by : (b : Bool) → any_chosen z c ≡ b → (n : ℕ) → going a p k ≡ Some (Some n) → (more : List Choice)
        → chosen z cs ≡ (if any_chosen z c then Some n else chosen z more) → Chosen a p z (suc k) rest more → Chosen a p z k (c ∷ rest) cs
    by true is n leads more worth on = inl (
      0,
      n,
      ap (λ b. cond (not b) (1 + position_or_len (any_chosen z) rest) 0) is,
      below (length rest),
      ap (λ i. going a p i) (none k) ∙ leads,
      worth ∙ ap (λ b. if b then Some n else chosen z more) is,
    )
    by false is n leads more worth on = elim on [
      | inl there ↦ inl (
        suc there.0,
        there.1,
        ap (λ b. cond (not b) (1 + position_or_len (any_chosen z) rest) 0) is ∙ one (position_or_len (any_chosen z) rest) there.0 there.2,
        below_more there.0 (length rest) there.3,
        ap (λ i. going a p i) (further k there.0) ∙ there.4,
        worth ∙ ap (λ b. if b then Some n else chosen z more) is ∙ there.5,
      )
      | inr lacks ↦ inr (
        ap (λ b. cond (not b) (1 + position_or_len (any_chosen z) rest) 0) is ∙ one (position_or_len (any_chosen z) rest) (length rest) lacks.0,
        worth ∙ ap (λ b. if b then Some n else chosen z more) is ∙ lacks.1,
      )
    ]

-- ---- the point

abbrev of_choices : Turns → List TypedCode → ℕ → machine.Outcome
of_choices b all k = machine_step.chosen (turn b) (length all) k b.memory

abbrev of_choice : Turns → Does → Option ℕ → points.Outcome
of_choice b x None = halted (flat_turn b x) flat.constraint (seen b).flat
of_choice b x (Some n) = goes (flat_turn b x) (seen b).flat (Some n)

below_is : (i n : ℕ) → i < n → nat_lt i n ≡ true
below_is i n is = grind arith

not_below : (n : ℕ) → nat_lt n n ≡ false
not_below n = grind arith

picked : (b : Turns) (laid : Laid) → TurnStands b laid → MainBegins b.program b.lowered → (x : Does) (z : ℤ) → is_integer z ≡ true → (all : List TypedCode) (cs : List Choice)
    → alternatives (around b) b.point 0 all ≡ Some cs
    → IsAlike (StateStands b.program) (of_choices b all (position_or_len (any_chosen z) all)) (of_choice b x (chosen z cs))
picked b laid is begins x z whole all cs lowers = elim (picks (around b) b.point z whole 0 all cs lowers) [
  | inl there ↦
      subst (λ o. IsAlike (StateStands b.program) (of_choices b all (position_or_len (any_chosen z) all)) (of_choice b x o)) (sym there.5)
      (subst (λ k. IsAlike (StateStands b.program) (of_choices b all k) (goes (flat_turn b x) (seen b).flat (Some there.1))) (sym there.2)
      (subst (λ t. IsAlike (StateStands b.program) (if t then machine_step.goes (turn b) b.memory there.0 else machine_step.raised (turn b) ConstraintError b.memory) (goes (flat_turn b x) (seen b).flat (Some there.1)))
      (sym (below_is there.0 (length all) there.3)) (goes_on b laid is begins x there.0 (Some there.1) (ap (λ i. going (around b) b.point i) (sym (none there.0)) ∙ there.4))))
  | inr none ↦
      subst (λ o. IsAlike (StateStands b.program) (of_choices b all (position_or_len (any_chosen z) all)) (of_choice b x o)) (sym none.1)
      (subst (λ k. IsAlike (StateStands b.program) (of_choices b all k) (halted (flat_turn b x) flat.constraint (seen b).flat)) (sym none.0)
      (subst (λ t. IsAlike (StateStands b.program) (if t then machine_step.goes (turn b) b.memory (length all) else machine_step.raised (turn b) ConstraintError b.memory) (halted (flat_turn b x) flat.constraint (seen b).flat))
      (sym (not_below (length all))) (raised_alike b laid is x ConstraintError)))
]
  where
    none : (i : ℕ) → 0 + i ≡ i
    none i = omega arith

-- A value of a scalar sort is its word.
scalar_value : (b : Turns) (c : Code) (s : Sort) (d : Code) → chosen_code (record { code = c; sort = s }) ≡ Some d
    → (c ≡ d) × ((w : Word) (z : ℤ) → Stands (flow_typing b.program).table (types b.memory) s w z → (value_of w ≡ z) × (is_integer z ≡ true))
scalar_value b c Whole d is = (some_same c d is, λ w z stands. (ap value_of stands.0, stands.1))
scalar_value b c Position d is = (some_same c d is, λ w z stands. (ap value_of stands.0 ∙ sym stands.1, stands.2))
scalar_value b c (Pointer t) d is = impossible d is

pub choose_alike : (b : Turns) (laid : Laid) → TurnStands b laid → MainBegins b.program b.lowered → (e : TypedTree) (all : List TypedCode) (d : Does)
    → lowering.chosen (around b) b.point e all ≡ Some d → DoneAlike b (machine_step.choose (turn b) e all) d
choose_alike b laid is begins e all d lowers =
    let c = and_then_some (λ c. option_map (Choose c) (alternatives (around b) b.point 0 all)) (option_and_then chosen_code (lowered (around b).site 0 AsValue e)) d lowers in
    let l = and_then_some chosen_code (lowered (around b).site 0 AsValue e) c.0 c.1 in
    let cs = mapped (Choose c.0) (alternatives (around b) b.point 0 all) d c.2 in
    let x : Does = Choose c.0 cs.0 in
    let sure = scalar_value b l.0.code l.0.sort c.0 l.2 in
    let same : Same (seen b) l.0.sort (0 + waiting e) (value (machine_step.here (turn b)) e (machine_step.start (turn b))) (word (seen b).flat c.0) =
    subst (λ z. Same (seen b) l.0.sort (0 + waiting e) (value (machine_step.here (turn b)) e (machine_step.start (turn b))) (word (seen b).flat z)) sure.0 (value_same b laid is e l.0 l.1) in
    subst (λ x. DoneAlike b (machine_step.choose (turn b) e all) x) cs.2
    (word_alike b laid is x l.0.sort (0 + waiting e) (value (machine_step.here (turn b)) e (machine_step.start (turn b))) (word (seen b).flat c.0)
    (λ ws mem. machine_step.chosen (turn b) (length all) (machine_step.choice all ws) mem) (λ w. of_choice b x (chosen w cs.0)) same
    (λ w z stands. let v = sure.1 w z stands in
    subst (λ y. IsAlike (StateStands b.program) (of_choices b all (position_or_len (any_chosen y) all)) (of_choice b x (chosen z cs.0))) (sym v.0)
    (picked b laid is begins x z v.1 all cs.0 cs.1)))
