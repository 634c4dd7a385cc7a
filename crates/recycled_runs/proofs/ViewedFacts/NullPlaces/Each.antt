-- Each instruction leads to the same in memories that agree, calls and what differs between classes of
-- programs apart: declarations, assignments, returns and ends of scopes.
use Rattle.std.proofs.Common.{◌≡◌, refl, sym, ap, ◌∙◌, subst, ℕ, ◌+◌, Bool, true, false, ◌||◌, List, [], ◌∷◌, Option}
use Rattle.std.proofs.lemmas.Bool.{false≢true}
use Rattle.machine.specs.spark_base.declared.position.Pos.{Pos}
use Rattle.machine.specs.place_names.declared.act.Act.{Act}
use Rattle.machine.specs.place_names.declared.act.Act.TheVariants as act
use Rattle.machine.specs.place_names.declared.fact.Fact.{Fact}
use Rattle.machine.specs.type_definitions.Types.{shape_of}
use Rattle.machine.specs.type_definitions.declared.table.Shape.TheVariants as shape
use Rattle.machine.specs.typed_tree.Trees.{TypedTree, Name, NoMore, More}
use Rattle.machine.specs.flow_paths.Instructions.{Instruction, Skip, Declare, Assign, Call, Output, Input, Release, Test, Choose, Start, Next, Evaluate, LeaveLoop, Hold, EndScope, Finish, Fall}
use Rattle.machine.specs.flow_paths.Names.{has_call, waiting as waits_in, name_of}
use Rattle.machine.specs.flow_paths.Acts.{acts_of, acts_in}
use Rattle.machine.specs.flow_paths.Scopes.{taken}
use Rattle.machine.specs.Words as machine
use Rattle.machine.specs.Memory.{Memory}
use Rattle.machine.specs.States.{Waiting}
use Rattle.machine.specs.Step.{Turn, typing, here, turn, start}
use Rattle.machine.specs.Owners.{waiting_in}
use Rattle.soundness.specs.OwnedWays.Ways.{AllowsAll}
use Rattle.soundness.specs.PartOffsets.Parts.{IsSettled}
use Rattle.soundness.specs.Typed.{OwnsByShape}
use Rattle.soundness.specs.Sound.{calls_procedures, IsNoCall}
use Rattle.soundness.specs.TypedLaws.Needed.{IsFine, FirstWrites, FirstStays}
use Rattle.soundness.proofs.Scalars.{acts, acts_append}
use Rattle.soundness.proofs.Successors.{not_true, both_not}
use Rattle.soundness.proofs.Taking.{Takes, takes_as, takes_both, nothing_more}
use Rattle.soundness.proofs.Waits.{or_both}
use Rattle.recycled_runs.specs.ViewedFacts.NullPlaces.Agrees.{Agrees}
use Rattle.recycled_runs.specs.ViewedFacts.NullPlaces.Compares.{Compares, ComparesIn}
use Rattle.recycled_runs.proofs.ViewedFacts.NullPlaces.Only.{OnlyOwners}
use Rattle.recycled_runs.proofs.ViewedFacts.NullPlaces.Laws.{Premises, Values}
use Rattle.recycled_runs.proofs.ViewedFacts.NullPlaces.Instructions.{SameStep, twin, release_on, input_on, skip_same, fall_same, test_on, choose_on, leave_loop_on, operand_on, output_on, line_same, start_on, next_same}

module _ (t : Turn) (settled : IsSettled (typing t).table) (own_law : OwnsByShape (typing t).table) (asks : Premises (here t))
    (ready : Memory → List Waiting → List Fact → Type 0) (values : Values (here t) asks ready) (facts : List Fact)
    (so : ready t.state.memory (waiting_in t.state) facts) (only : OnlyOwners (typing t) t.state.memory) (n : Memory) (agrees : Agrees t.state.memory n)
    (on : List (List machine.Word)) (result : Option ℕ) (roots : List ℕ) (pos : Pos) where
  abbrev pub Same : Instruction → Type 0
  Same i = SameStep t (turn t i) (turn (twin t n) i)

  abbrev pub ActsBy : Instruction → List Act
  ActsBy i = acts (acts_of (record { typing = typing t; result = result; roots = roots }) pos i)

  -- whether an instruction has a call, where only procedures are called
  abbrev pub CallsBy : Instruction → Type 0
  CallsBy i = (calls : Bool) → (calls_procedures i ≡ true → calls ≡ false) → asks.calls calls

  -- what it takes of the values that wait
  abbrev pub TakesBy : Instruction → Type 0
  TakesBy i = Takes (taken i) (start t).waits on

  writes : (text : TypedTree) (line : Bool) → FirstWrites (typing t) text → CallsBy (Output text line) → TakesBy (Output text line) → Compares (typing t) text
      → AllowsAll facts (ActsBy (Output text line)) → Same (Output text line)
  unfolding acts_in has_call waits_in Compares
  writes (More e rest) line (last, text) calls takes compares allowed =
      output_on t settled own_law asks ready values facts so only n agrees on e rest line last text
      (takes_as (taken (Output (More e rest) line)) (waits_in e) (start t).waits on (ap (λ z. waits_in e + waits_in z) last ∙ nothing_more (waits_in e)) takes)
      (calls (has_call e) (λ none. (or_both (has_call e) (has_call rest) (not_true (has_call e || has_call rest) none)).0)) compares.0 allowed
  writes NoMore line text calls takes compares allowed = line_same t settled own_law asks ready values facts so only n agrees line
  writes other_text line never calls takes compares allowed = absurd never

  reads : (target : TypedTree) → IsFine (typing t) result (Input target) → CallsBy (Input target) → TakesBy (Input target) → Compares (typing t) target
      → AllowsAll facts (ActsBy (Input target)) → Same (Input target)
  unfolding has_call waits_in Compares
  reads (Name q x path u) (v, (leads, type), scalar) calls takes compares allowed =
      input_on t settled own_law asks ready values facts so only n agrees on q x u path leads takes (calls (has_call path) (λ none. not_true (has_call path) none)) compares allowed
  reads target (v, never, scalar) calls takes compares allowed = absurd never

  releases : (target : TypedTree) → IsFine (typing t) result (Release target) → CallsBy (Release target) → TakesBy (Release target) → Compares (typing t) target
      → AllowsAll facts (ActsBy (Release target)) → asks.keeps (ActsBy (Release target)) → Same (Release target)
  unfolding has_call waits_in Compares
  releases (Name q x path u) (v, d, (leads, type), access) calls takes compares allowed keep =
      release_on t settled own_law asks ready values facts so only n agrees on q x u d path
      (subst (λ z. shape_of (typing t).table z ≡ shape.Access d false true) (sym type) access) leads takes
      (calls (has_call path) (λ none. not_true (has_call path) none)) compares allowed
      (asks.both_keep (acts (acts_in (typing t) path)) (act.Free (name_of x path) ∷ [])
      (subst asks.keeps (acts_append (acts_in (typing t) path) (record { pos = q; act = act.Free (name_of x path) } ∷ [])) keep)).1
  releases target (v, d, never, access) calls takes compares allowed keep = absurd never

  leaves : (e : TypedTree) → FirstStays (typing t) e → CallsBy (LeaveLoop e) → TakesBy (LeaveLoop e) → Compares (typing t) e
      → AllowsAll facts (ActsBy (LeaveLoop e)) → Same (LeaveLoop e)
  unfolding acts_in has_call waits_in Compares
  leaves (More e rest) (last, stays) calls takes compares allowed =
      leave_loop_on t settled own_law asks ready values facts so only n agrees on e rest last stays
      (takes_as (taken (LeaveLoop (More e rest))) (waits_in e) (start t).waits on (ap (λ z. waits_in e + waits_in z) last ∙ nothing_more (waits_in e)) takes)
      (calls (has_call e) (λ none. (or_both (has_call e) (has_call rest) (not_true (has_call e || has_call rest) none)).0)) compares.0 allowed
  leaves NoMore text calls takes compares allowed = skip_same t settled own_law asks ready values facts so only n agrees
  leaves e never calls takes compares allowed = absurd never

  -- What differs between classes of programs.
  pub record Others (i : Instruction) : Type 0 where
    pub declares : (x : ℕ) (v : TypedTree) → i ≡ Declare x v → Same (Declare x v)
    pub assigns : (target e : TypedTree) → i ≡ Assign target e → Same (Assign target e)
    pub holds : (v : TypedTree) → i ≡ Hold v → Same (Hold v)
    pub ends : (x : ℕ) → i ≡ EndScope x → Same (EndScope x)

  pub each_by : (i : Instruction) → IsNoCall i → (i ≡ Finish → ⊥) → Others i → IsFine (typing t) result i → CallsBy i → TakesBy i → ComparesIn (typing t) i
      → AllowsAll facts (ActsBy i) → asks.keeps (ActsBy i) → Same i
  each_by Skip no_call going others text calls takes compares allowed keep = skip_same t settled own_law asks ready values facts so only n agrees
  each_by (Declare x v) no_call going others text calls takes compares allowed keep = others.declares x v refl
  each_by (Assign target e) no_call going others text calls takes compares allowed keep = others.assigns target e refl
  each_by (Call sub actuals r) no_call going others text calls takes compares allowed keep = absurd (no_call sub actuals r refl)
  each_by (Output text line) no_call going others writing calls takes compares allowed keep = writes text line writing calls takes compares allowed
  each_by (Input target) no_call going others text calls takes compares allowed keep = reads target text calls takes compares allowed
  each_by (Release e) no_call going others text calls takes compares allowed keep = releases e text calls takes compares allowed keep
  each_by (Test e) no_call going others stays calls takes compares allowed keep =
      test_on t settled own_law asks ready values facts so only n agrees on e stays takes (calls (has_call e) (λ none. not_true (has_call e) none)) compares allowed
  each_by (Choose e choices) no_call going others stays calls takes compares allowed keep =
      choose_on t settled own_law asks ready values facts so only n agrees on e choices stays takes (calls (has_call e) (λ none. not_true (has_call e) none)) compares allowed
  each_by (Start x reversed low high) no_call going others (scalar, stays, stays') calls takes compares allowed keep =
      let two = takes_both (waits_in low) (waits_in high) (start t).waits on takes in
      start_on t settled own_law asks ready values facts so only n agrees two.0 on x low high stays stays' two.1 two.2
      (calls (has_call low) (λ none. (both_not (has_call low) (has_call high) none).0)) (calls (has_call high) (λ none. (both_not (has_call low) (has_call high) none).1))
      compares.0 compares.1 allowed
  each_by (Next x reversed low high) no_call going others scalar calls takes compares allowed keep =
      next_same t settled own_law asks ready values facts so only n agrees x reversed scalar
  each_by (Evaluate temporary e op) no_call going others stays calls takes compares allowed keep =
      operand_on t settled own_law asks ready values facts so only n agrees on e op stays takes (calls (has_call e) (λ none. (let no : false ≡ true = none in absurd (false≢true no)))) compares allowed
  each_by (LeaveLoop e) no_call going others text calls takes compares allowed keep = leaves e text calls takes compares allowed
  each_by (Hold v) no_call going others text calls takes compares allowed keep = others.holds v refl
  each_by (EndScope x) no_call going others text calls takes compares allowed keep = others.ends x refl
  each_by Finish no_call going others text calls takes compares allowed keep = absurd (going refl)
  each_by Fall no_call going others text calls takes compares allowed keep = fall_same t settled own_law asks ready values facts so only n agrees
