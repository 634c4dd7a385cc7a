-- The acts of each point, those of calls among them.
use Rattle.std.proofs.Common.{Bool, not, is_some, ◌≡◌, refl, sym, ap, subst, ◌⊎◌, inl, inr, ℕ, true, false, ◌||◌, List, ◌∷◌, map, ◌++◌, [], Option, Some}
use Rattle.machine.specs.spark_base.Lists.{Has}
use Rattle.machine.specs.spark_base.declared.position.Pos.{Pos}
use Rattle.soundness.proofs.Lists.{Has-append_cases, Has-append_right}
use Rattle.machine.specs.place_names.declared.act.Mode.{Mode}
use Rattle.machine.specs.place_names.declared.act.Mode.TheVariants as mode
use Rattle.machine.specs.place_names.declared.act.Placed.{Placed}
use Rattle.machine.specs.type_definitions.Types.{full, is_owning}
use Rattle.machine.specs.typed_tree.Trees.{TypedTree, Name, More}
use Rattle.machine.specs.flow_paths.Instructions.{Instruction, Call}
use Rattle.machine.specs.flow_paths.Objects.{Typing, object_at, is_formal, is_variable, is_anonymous, traverses, view_of}
use Rattle.machine.specs.flow_paths.Views.{traversed_formal}
use Rattle.machine.specs.flow_paths.Acts.{acts_of, index_acts, actual_values, actual_acts}
use Rattle.machine.specs.flow_paths.Points.{FlowPoint}
use Rattle.machine.specs.flow_paths.Laid.{FlowSub, FlowProgram, flow_typing}
use Rattle.machine.specs.States.{sub_of}
use Rattle.soundness.specs.Typed.{OwnsByShape}
use Rattle.soundness.proofs.Successors.{call_or}
use Rattle.soundness.proofs.Passing.{AreReads}
use Rattle.soundness.specs.TypedLaws.Needed.{Leads, IsFine}
use Rattle.soundness.specs.ViewedSoundness.Holds.{PartsAreNamed}
use Rattle.settled_types.specs.OrderLaws.ScopeLaws.Code.{roots}
use Rattle.settled_types.specs.OrderLaws.ScopeLaws.Order.{named_in}
use Rattle.viewed_steps.specs.Sound.{IsKindOfFormal, IsStoredAt}
use Rattle.viewed_steps.specs.Traversals.{TraversalCall}
use Rattle.viewed_steps.proofs.Called.{way_to, owning_of, head_of, head_values_are, head_of_reads, values_are_read, passes_to}
use Rattle.viewed_steps.proofs.Reading.{both_reads, index_reads}
use Rattle.viewed_steps.proofs.Followed.{is_traversing}
use Rattle.viewed_steps.proofs.Traversing.{first_actual}
use Rattle.viewed_steps.proofs.Views.{AreUnseen}
use Rattle.accepted_runs.specs.ViewedFiles.ViewLaws.Program.{IsPassedTo, ArePassedTo}
use Rattle.accepted_runs.specs.ViewedFiles.ViewLaws.InOrder.{NamesSource}
use Rattle.accepted_runs.proofs.ViewedFiles.ViewLaws.Acts.{AreGood, instruction_good, reads_good, copies_good}
use Rattle.viewed_steps.specs.Seeing.{sees_in}

-- Formals of a function whose result is of no anonymous access type, or of a procedure, are of none.
abbrev pub IsPlainCall : FlowProgram → ℕ → Type 0
IsPlainCall program n = (traverses program.table (sub_of program n).result ≡ false) × AreUnseen (flow_typing program) (sub_of program n).formals

-- Those of a traversal function are of mode `in`, and others than the first one are of none; the first actual is a name
-- of an access value.
pub record IsThroughCall (program : FlowProgram) (n : ℕ) (actuals : TypedTree) : Type 0 where
  pub f : ℕ
  pub traversed : traversed_formal (flow_typing program) (sub_of program n) ≡ Some f
  pub unseen : AreUnseen (flow_typing program) (is_traversing program n f traversed).rest
  pub q : Pos
  pub y : ℕ
  pub path : TypedTree
  pub u : ℕ
  pub more : TypedTree
  pub actuals_are : actuals ≡ More (Name q y path u) more
  pub leads : Leads (flow_typing program) (object_at (flow_typing program) y).of path u
  pub lasts : is_owning program.table u || is_anonymous (full program.table u) ≡ true

-- Formals of what is called are known as such and are of the class, and so are its actuals.
pub record IsViewCall (program : FlowProgram) (owns : OwnsByShape (flow_typing program).table) (n : ℕ) (actuals : TypedTree) : Type 0 where
  pub known : (x : ℕ) → Has (sub_of program n).formals x → is_formal (flow_typing program) x ≡ true
  pub kinds : (x : ℕ) → Has (sub_of program n).formals x → IsKindOfFormal (flow_typing program) x
  pub actuals_stay : ArePassedTo (flow_typing program) (sub_of program n).formals actuals
  pub passes : IsPlainCall program n ⊎ IsThroughCall program n actuals

abbrev pub AreViewCalls : (program : FlowProgram) → OwnsByShape (flow_typing program).table → Type 0
AreViewCalls program owns =
    (sub : FlowSub) → Has program.subs sub → (p : FlowPoint) → Has sub.points p → (n : ℕ) (actuals : TypedTree) (result : Option ℕ)
    → p.instr ≡ Call n actuals result → IsViewCall program owns n actuals

module _ (s : Typing) (owns : OwnsByShape s.table) (parts_named : PartsAreNamed s.table) (procedure : Bool) where
  passed_reads : (x : ℕ) (m : Mode) (owning : Bool) (e : TypedTree) → owning_of s owns procedure x ≡ owning → is_anonymous (view_of s x) ≡ false → IsPassedTo s x m e
      → AreReads (head_of s owns procedure m owning e)
  passed_reads x mode.In owning e is unseen passed = head_of_reads s owns procedure parts_named x mode.In owning e is unseen passed
  passed_reads x mode.Out owning e is unseen place = index_reads s owns e place.0 place.1
  passed_reads x mode.InOut owning e is unseen place = index_reads s owns e place.0 place.1

  -- The values of actuals are read.
  values_read : (formals : List ℕ) (actuals : TypedTree) → AreUnseen s formals → ArePassedTo s formals actuals → AreReads (actual_values s (map (way_to s owns procedure) formals) actuals)
  values_read (x ∷ formals) (More e rest) unseen passed =
      subst AreReads (sym (head_values_are s owns procedure x e (map (way_to s owns procedure) formals) rest))
      (both_reads (head_of s owns procedure (object_at s x).mode (owning_of s owns procedure x) e) (actual_values s (map (way_to s owns procedure) formals) rest)
      (passed_reads x (object_at s x).mode (owning_of s owns procedure x) e refl (unseen x (inl refl)) passed.0) (values_read formals rest (λ y has. unseen y (inr has)) passed.1))
  values_read [] actuals unseen passed = values_are_read s owns procedure parts_named [] actuals unseen passed
  values_read (x ∷ formals) actuals unseen passed = values_are_read s owns procedure parts_named (x ∷ formals) actuals unseen passed

module _ (program : FlowProgram) (owns : OwnsByShape program.table) (parts_named : PartsAreNamed program.table) where
  abbrev sees : ℕ → Bool
  sees = sees_in program

  -- A call reads what its actuals name, and what is copied back to is no observer.
  plain_good : (result : Option ℕ) (kept xs : List ℕ) (pos : Pos) (n : ℕ) (actuals : TypedTree) (t : Option ℕ) → IsViewCall program owns n actuals → IsPlainCall program n
      → ((y : ℕ) → Has (roots actuals) y → Has xs y) → AreGood (flow_typing program) owns parts_named (acts_of (record { typing = flow_typing program; result = result; roots = kept }) pos (Call n actuals t)) xs
  plain_good result kept xs pos n actuals t call (no_traversal, unseen) named =
      let formals : List ℕ = (sub_of program n).formals in
      let procedure : Bool = not (is_some (sub_of program n).result) in
      let values : List Placed = actual_values (flow_typing program) (map (way_to (flow_typing program) owns procedure) formals) actuals in
      let copies : List Placed = actual_acts (map (way_to (flow_typing program) owns procedure) formals) actuals in
      subst (λ z. AreGood (flow_typing program) owns parts_named z xs)
      (sym (ap (λ ways. actual_values (flow_typing program) ways actuals ++ actual_acts ways actuals) (passes_to program n no_traversal)))
      (λ a has. elim (Has-append_cases values copies a has) [
        | inl value ↦ reads_good (flow_typing program) owns parts_named values xs
            (values_read (flow_typing program) owns parts_named procedure formals actuals unseen call.actuals_stay) a value
        | inr copy ↦ copies_good (flow_typing program) owns parts_named procedure formals actuals xs call.kinds call.actuals_stay named a copy
      ])

  through_good : (result : Option ℕ) (kept xs : List ℕ) (pos : Pos) (n : ℕ) (actuals : TypedTree) (t : Option ℕ) → IsViewCall program owns n actuals → IsThroughCall program n actuals
      → ((y : ℕ) → Has (roots actuals) y → Has xs y) → AreGood (flow_typing program) owns parts_named (acts_of (record { typing = flow_typing program; result = result; roots = kept }) pos (Call n actuals t)) xs
  unfolding roots
  through_good result kept xs pos n actuals t call through named =
      let s : Typing = flow_typing program in
      let ways = is_traversing program n through.f through.traversed in
      let c : TraversalCall = record { pos = pos; name_pos = through.q; root = through.y; path = through.path; of = through.u; others = through.more } in
      let stays : ArePassedTo s (through.f ∷ ways.rest) (More (first_actual s sees owns c) through.more) =
      subst (λ z. ArePassedTo s z (More (first_actual s sees owns c) through.more)) ways.formals (subst (ArePassedTo s (sub_of program n).formals) through.actuals_are call.actuals_stay) in
      let values : List Placed = index_acts s (first_actual s sees owns c) ++ actual_values s (map (way_to s owns false) ways.rest) through.more in
      let copies : List Placed = actual_acts (map (way_to s owns false) ways.rest) through.more in
      subst (λ z. AreGood s owns parts_named z xs)
      (λ j. actual_values s (sym ways.ways j) (sym through.actuals_are j) ++ actual_acts (sym ways.ways j) (sym through.actuals_are j))
      (λ a has. elim (Has-append_cases values copies a has) [
        | inl value ↦ reads_good s owns parts_named values xs (both_reads (index_acts s (first_actual s sees owns c)) (actual_values s (map (way_to s owns false) ways.rest) through.more)
            (index_reads s owns (first_actual s sees owns c) through.u (through.leads, refl)) (values_read s owns parts_named false ways.rest through.more through.unseen stays.1)) a value
        | inr copy ↦ copies_good s owns parts_named false ways.rest through.more xs (λ x there. call.kinds x (subst (λ z. Has z x) (sym ways.formals) (inr there))) stays.1
            (λ y there. named y (subst (λ z. Has (roots z) y) (sym through.actuals_are) (Has-append_right (roots (first_actual s sees owns c)) (roots through.more) y there))) a copy
      ])

  call_good : (result : Option ℕ) (kept xs : List ℕ) (pos : Pos) (n : ℕ) (actuals : TypedTree) (t : Option ℕ) → IsViewCall program owns n actuals
      → ((y : ℕ) → Has (roots actuals) y → Has xs y) → AreGood (flow_typing program) owns parts_named (acts_of (record { typing = flow_typing program; result = result; roots = kept }) pos (Call n actuals t)) xs
  call_good result kept xs pos n actuals t call named = elim call.passes [ inl plain ↦ plain_good result kept xs pos n actuals t call plain named | inr through ↦ through_good result kept xs pos n actuals t call through named ]

  pub point_good : (i : Instruction) → ((x : ℕ) → IsStoredAt i x → is_anonymous (view_of (flow_typing program) x) ≡ true → is_variable (object_at (flow_typing program) x).kind ≡ true)
      → (result : Option ℕ) (kept : List ℕ) (pos : Pos) → IsFine (flow_typing program) result i
      → ((n : ℕ) (actuals : TypedTree) (t : Option ℕ) → i ≡ Call n actuals t → IsViewCall program owns n actuals) → NamesSource (flow_typing program) i
      → AreGood (flow_typing program) owns parts_named (acts_of (record { typing = flow_typing program; result = result; roots = kept }) pos i) (named_in i)
  point_good i local result kept pos fine calls names = elim (call_or i) [
    | inr no_call ↦ instruction_good (flow_typing program) owns parts_named i local result kept pos fine no_call names
    | inl call ↦ subst (λ j. AreGood (flow_typing program) owns parts_named (acts_of (record { typing = flow_typing program; result = result; roots = kept }) pos j) (named_in i))
        (sym call.3) (call_good result kept (named_in i) pos call.0 call.1 call.2 (calls call.0 call.1 call.2 call.3) (λ y has. subst (λ j. Has (named_in j) y) (sym call.3) has))
  ]
