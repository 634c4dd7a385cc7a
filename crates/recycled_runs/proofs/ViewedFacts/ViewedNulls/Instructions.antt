-- Instructions of programs with borrowers and observers, calls and returns apart, lead to the same
-- in memories that agree.
use Rattle.std.proofs.Common.{◌≡◌, refl, sym, ap, ◌∙◌, subst, inl, inr, ℕ, ◌+◌, Bool, true, false, List, [], ◌∷◌, ◌++◌, length, if◌then◌else◌}
use Rattle.machine.specs.spark_base.declared.position.Pos.{Pos}
use Rattle.machine.specs.place_names.declared.act.Act.{Act}
use Rattle.machine.specs.place_names.declared.act.Act.TheVariants as act
use Rattle.machine.specs.place_names.declared.fact.Fact.{Fact}
use Rattle.machine.specs.type_definitions.Types.{Table, full}
use Rattle.machine.specs.typed_tree.Trees.{TypedTree, Name, NoMore, More}
use Rattle.machine.specs.typed_tree.Programs.{TypedProgram}
use Rattle.machine.specs.flow_paths.declared.report.Effects.{Effects}
use Rattle.machine.specs.flow_paths.Instructions.{Instruction, Declare, Assign, Hold, Finish}
use Rattle.machine.specs.flow_paths.Objects.{Typing, object_at, is_anonymous, is_observer, view_of, is_variable}
use Rattle.machine.specs.flow_paths.Names.{has_call, waiting as waits_in, name_of, first}
use Rattle.machine.specs.flow_paths.Acts.{acts_of, acts_in, source_acts, observe, declared_acts}
use Rattle.machine.specs.flow_paths.Points.{NamedPoint}
use Rattle.machine.specs.flow_paths.Laid.{FlowProgram, NamedSub, kept_roots, sub_facts, typing_of, flow_typing, flow_program}
use Rattle.machine.specs.flow_paths.Scopes.{taken}
use Rattle.machine.specs.Words as machine
use Rattle.machine.specs.Memory.{Memory}
use Rattle.machine.specs.States.{Waiting, Frame, State}
use Rattle.machine.specs.Step.{Turn, turn, start}
use Rattle.machine.specs.Step as steps
use Rattle.machine.specs.Owners.{waiting_in}
use Rattle.soundness.specs.OwnedWays.Ways.{Way, AllowsAll}
use Rattle.soundness.specs.Seen.{IsNear, home}
use Rattle.soundness.specs.Sound.{IsNoCall}
use Rattle.soundness.specs.TypedLaws.Needed.{IsFine, Source, FirstSource}
use Rattle.soundness.proofs.Numbers.{index_law}
use Rattle.soundness.proofs.Points.{flow_at}
use Rattle.soundness.proofs.Scalars.{acts, acts_append}
use Rattle.soundness.proofs.Taking.{Takes, takes_as, takes_both, nothing_more}
use Rattle.soundness.specs.OwnedLoans.Views.{Around, Views}
use Rattle.soundness.specs.ViewedSoundness.Holds.{is_fixed, IsNamed, AllKeep, Seeing}
use Rattle.soundness.proofs.ViewedSoundness.ViewKinds.{plain_named, true_false}
use Rattle.soundness.proofs.ViewedSoundness.Evaluated.{keep_both}
use Rattle.soundness.proofs.ViewedSoundness.Outcomes.{named_plain, not_views, assigned_acts}
use Rattle.viewed_steps.specs.Awaited.{TakesScalars}
use Rattle.viewed_steps.specs.Ready.{IsReady, AreOrderly, IsNewSource}
use Rattle.viewed_steps.proofs.Sources.{leads_or}
use Rattle.viewed_steps.proofs.Standing as standing
use Rattle.recycled_runs.specs.ViewedFacts.NullPlaces.Agrees.{Agrees}
use Rattle.recycled_runs.specs.ViewedFacts.NullPlaces.Compares.{Compares, ComparesIn}
use Rattle.recycled_runs.proofs.ViewedFacts.NullPlaces.Only.{OnlyOwners}
use Rattle.recycled_runs.proofs.ViewedFacts.NullPlaces.Laws.{Premises, Values}
use Rattle.recycled_runs.proofs.ViewedFacts.NullPlaces.Instructions.{SameStep, twin, declare_on, assign_on, end_scope_same}
use Rattle.recycled_runs.proofs.ViewedFacts.NullPlaces.Each.{each_by}
use Rattle.recycled_runs.proofs.ViewedFacts.ViewedNulls.Viewed.{viewed_premises, IsReadyIn, viewed_values}
use Rattle.recycled_runs.proofs.ViewedFacts.ViewedNulls.Sources.{view_declared_same, view_assigned_same, call_declared_same, call_assigned_same}
use Rattle.viewed_steps.proofs.Views.{AreAccess}
use Rattle.viewed_steps.specs.Seeing.{sees_in}
use Rattle.viewed_steps.proofs.Sees.{sees_seeing}
use Rattle.soundness.proofs.Parted.{by_either}

module _ (table : Table) (typed : TypedProgram) (effects : Effects) (input : List ℕ) (ready : IsReady table typed effects) where
  abbrev sees : ℕ → Bool
  sees = sees_in (flow_program table typed)

  abbrev seeing : Seeing (flow_typing (flow_program table typed)) sees
  seeing = sees_seeing (flow_program table typed)

  abbrev program : FlowProgram
  program = flow_program table typed

  abbrev s : Typing
  s = flow_typing program

  abbrev own : Typing
  own = typing_of table typed

  abbrev pub in_formals : AreAccess (flow_typing (flow_program table typed))
  in_formals = standing.in_formals table typed effects input ready

  module _ (state : State) (frame : Frame) (outer : List Frame) (named : NamedSub) (p : NamedPoint)
      (other : Around (home s (length outer))) (alone : (w : Way) → IsNear (length outer) w → other.gone w → ⊥) (v : Views) (facts : List Fact)
      (next : NamedPoint → Type 0) (orderly : AreOrderly program p next) (on : List (List machine.Word)) where
    abbrev pub t : Turn
    t = record { program = flow_program table typed; input = input; point = flow_at (typing_of table typed) named p; state = state; frame = frame; outer = outer }

    abbrev pub Ready : Memory → List Waiting → List Fact → Type 0
    Ready m hands known =
        IsReadyIn (steps.here t) sees seeing ready.accepted.settled state.leaks other alone in_formals index_law ready.owns v ready.class.parts_named m hands known

    abbrev pub asks : Premises (steps.here t)
    asks = viewed_premises (steps.here t) sees ready.class.parts_named

    pub laws : Values (steps.here t) asks Ready
    laws = viewed_values (steps.here t) sees seeing ready.accepted.settled state.leaks other alone in_formals index_law ready.owns v ready.class.parts_named

    abbrev acts_by : Instruction → List Act
    acts_by i =
        acts (acts_of (record { typing = s; result = named.sub.result; roots = kept_roots own 0 own.objects (sub_facts own named.sub named.points) }) p.pos i)

    abbrev Keep : List Act → Type 0
    Keep all = AllKeep (is_fixed s sees) all

    module _ (so : Ready state.memory (waiting_in state) facts) (only : OnlyOwners s state.memory) (n : Memory) (agrees : Agrees state.memory n) where
      abbrev Same : Instruction → Type 0
      Same i = SameStep t (turn t i) (turn (twin t n) i)

      -- what it takes of the results of calls
      abbrev Plainly : Instruction → Type 0
      Plainly i = TakesScalars s i

      -- what it takes of the values that wait
      abbrev TakesIn : Instruction → Type 0
      TakesIn i = Takes (taken i) (start t).waits on

      -- ---- declarations

      abbrev DeclaresSame : ℕ → TypedTree → Type 0
      DeclaresSame x e =
          FirstSource s (object_at s x).of e → Plainly (Declare x e) → TakesIn (Declare x e) → Compares s e
          → AllowsAll facts (acts_by (Declare x e)) → Keep (acts_by (Declare x e)) → Same (Declare x e)

      view_declares : (x : ℕ) (q : Pos) (y u : ℕ) (path : TypedTree) → is_anonymous (view_of s x) ≡ true → is_variable (object_at s x).kind ≡ true → DeclaresSame x (More (Name q y path u) NoMore)
      unfolding Compares has_call waits_in
      view_declares x q y u path view variable_here text plainly takes compares allowed keep =
          view_declared_same t sees seeing ready.accepted.settled ready.owns other alone in_formals v ready.class.parts_named facts so only n agrees on q x y u path view
          variable_here text.1
          (takes_as (waits_in path + 0) (waits_in path) (start t).waits on (nothing_more (waits_in path)) takes) compares.0 allowed

      declares : (x : ℕ) (e : TypedTree) → p.instr ≡ Declare x e → DeclaresSame x e
      declares x e is text plainly takes compares allowed keep = by_view (is_anonymous (view_of s x)) refl
        where
          by_view : (b : Bool) → is_anonymous (view_of s x) ≡ b → Same (Declare x e)
          by_view true view =
              let found = orderly.declared x e is view in
              let variable_here = orderly.variables x (inl (inl (e, is))) view in
              by_either found.6
              (λ named_is. (subst (DeclaresSame x) (sym (found.5 ∙ ap (λ z. More z NoMore) named_is)) (view_declares x found.0 found.1 found.3 found.2 view variable_here)
              text plainly takes compares allowed keep))
              (λ (r, k, more, call_is, gives). (subst (λ z. Same (Declare x z)) (sym (found.5 ∙ ap (λ z. More z NoMore) call_is))
              (call_declared_same t sees seeing ready.accepted.settled ready.owns other alone in_formals v ready.class.parts_named facts so only n agrees
              x r k (More (Name found.0 found.1 found.2 found.3) more) view)))
          by_view false owner =
              let own_type : IsNamed s.table (object_at s x).of = plain_named s.table (object_at s x).of owner in
              let kinds = not_views s x own_type in
              let same : declared_acts s x e ≡ acts_in s e =
              ap (λ b. if b then source_acts s (first e) (act.Borrow x) else (if is_observer s x then source_acts s (first e) (observe s x) else acts_in s e)) kinds.0
              ∙ ap (λ b. if b then source_acts s (first e) (observe s x) else acts_in s e) kinds.1 in
              declare_on t ready.accepted.settled ready.owns asks Ready laws facts so only n agrees on x e owner own_type text
              tt plainly takes compares (subst (λ z. AllowsAll facts (acts z)) same allowed)
              (subst (λ z. Keep (acts z)) same keep)

      -- ---- assignments

      abbrev AssignsSame : TypedTree → TypedTree → Type 0
      AssignsSame target e =
          Plainly (Assign target e) → TakesIn (Assign target e) → ComparesIn s (Assign target e)
          → AllowsAll facts (acts_by (Assign target e)) → Keep (acts_by (Assign target e)) → Same (Assign target e)

      view_assigns : (q : Pos) (x : ℕ) (r : Pos) (y w : ℕ) (path : TypedTree) → is_anonymous (view_of s x) ≡ true → is_variable (object_at s x).kind ≡ true → (is_observer s x ≡ false → y ≡ x)
          → Source s (object_at s x).of (Name r y path w) → AssignsSame (Name q x NoMore (object_at s x).of) (Name r y path w)
      unfolding Compares has_call waits_in
      view_assigns q x r y w path view variable_here itself source plainly takes compares allowed keep =
          view_assigned_same t sees seeing ready.accepted.settled ready.owns other alone in_formals v ready.class.parts_named facts so only n agrees on p.pos q r x y w path view
          variable_here source
          (takes_as (waits_in path + 0) (waits_in path) (start t).waits on (nothing_more (waits_in path)) takes) itself compares.1 allowed

      -- the whole of a view
      to_view : (q : Pos) (x : ℕ) (path : TypedTree) (u : ℕ) (e : TypedTree) → p.instr ≡ Assign (Name q x path u) e → path ≡ NoMore → (object_at s x).of ≡ u
          → Source s u e → is_anonymous (full s.table u) ≡ true → AssignsSame (Name q x path u) e
      to_view q x path u e is nothing type source view =
          subst (λ z. AssignsSame z e) (sym target_is) (by_either found.4
          (λ named_is. (subst (λ z. AssignsSame (Name q x NoMore (object_at s x).of) z) (sym named_is)
          (view_assigns q x found.0 found.1 found.3 found.2 view_there (orderly.variables x (inl (inr (q, (object_at s x).of, e, is ∙ ap (λ z. Assign z e) target_is))) view_there) found.6
          (subst (Source s (object_at s x).of) named_is (subst (λ z. Source s z e) (sym type) source)))))
          (λ (r, k, more, call_is, gives). (λ plainly takes compares allowed keep.
          subst (λ z. Same (Assign (Name q x NoMore (object_at s x).of) z)) (sym call_is)
          (call_assigned_same t sees seeing ready.accepted.settled ready.owns other alone in_formals v ready.class.parts_named facts so only n agrees
          q x r k (More (Name found.0 found.1 found.2 found.3) more) view_there))))
        where
          target_is : Name q x path u ≡ Name q x NoMore (object_at s x).of
          target_is = (λ j. Name q x (nothing j) (sym type j))

          view_there : is_anonymous (view_of s x) ≡ true
          view_there = ap (λ z. is_anonymous (full s.table z)) type ∙ view

          found : IsNewSource (flow_program table typed) p.scope x e
          found = orderly.assigned q x (object_at s x).of e (is ∙ ap (λ z. Assign z e) target_is) view_there

      assigns : (target e : TypedTree) → p.instr ≡ Assign target e → IsFine s named.sub.result (Assign target e) → AssignsSame target e
      unfolding Compares has_call waits_in
      assigns (Name q x path u) e is (k, (leads, type), source) plainly takes compares allowed keep =
          by_view (subst (λ z. Source s z e) (sym type) source) (is_anonymous (full s.table u)) refl
        where
          by_view : Source s u e → (b : Bool) → is_anonymous (full s.table u) ≡ b → Same (Assign (Name q x path u) e)
          by_view (inl view) false owner = absurd (true_false (is_anonymous (full s.table u)) view.0 owner)
          by_view (inr gives) false owner =
              let own_type : IsNamed s.table u = plain_named s.table u owner in
              let same = assigned_acts s p.pos x u (Name q x path u) path e own_type leads in
              let kept_there = subst (λ z. Keep (acts z)) same keep in
              let before = (keep_both (is_fixed s sees) (acts (acts_in s e ++ acts_in s path)) (act.Write (name_of x path) ∷ [])
              (subst Keep (acts_append (acts_in s e ++ acts_in s path) (record { pos = q; act = act.Write (name_of x path) } ∷ [])) kept_there)).0 in
              let two = takes_both (waits_in e) (waits_in path) (start t).waits on takes in
              assign_on t ready.accepted.settled ready.owns asks Ready laws facts so only n agrees two.0 on q x u path e owner own_type gives leads
              tt plainly tt two.1 two.2 compares.0 compares.1
              (subst (λ z. AllowsAll facts (acts z)) same allowed)
              (keep_both (is_fixed s sees) (acts (acts_in s e)) (acts (acts_in s path)) (subst Keep (acts_append (acts_in s e) (acts_in s path)) before)).0
          by_view source_there true view = by_either (leads_or s ready.class.parts_named path (object_at s x).of u leads)
              (λ whole_path. (to_view q x path u e is whole_path.0 whole_path.1 source_there view plainly takes compares allowed keep))
              (λ own_type. (absurd (true_false (is_anonymous (full s.table u)) view (named_plain s.table u own_type))))
      assigns target e is (k, never, source) plainly takes compares allowed keep = absurd never

      -- Each instruction that is no call, but for returns and for ends of calls.
      pub each_same : (i : Instruction) → p.instr ≡ i → IsNoCall i → (i ≡ Finish → ⊥) → ((e : TypedTree) → i ≡ Hold e → Same (Hold e))
          → IsFine s named.sub.result i → Plainly i → TakesIn i → ComparesIn s i → AllowsAll facts (acts_by i) → Keep (acts_by i) → Same i
      each_same i is no_call end hold text plainly takes compares allowed keep =
          each_by t ready.accepted.settled ready.owns asks Ready laws facts so only n agrees on named.sub.result
          (kept_roots own 0 own.objects (sub_facts own named.sub named.points)) p.pos i no_call end
          (record {
            declares = λ x e same. declares x e (is ∙ same) (subst (IsFine s named.sub.result) same text) (subst Plainly same plainly) (subst TakesIn same takes)
                (subst (ComparesIn s) same compares) (subst (λ z. AllowsAll facts (acts_by z)) same allowed) (subst (λ z. Keep (acts_by z)) same keep);
            assigns = λ target e same. assigns target e (is ∙ same) (subst (IsFine s named.sub.result) same text) (subst Plainly same plainly) (subst TakesIn same takes)
                (subst (ComparesIn s) same compares) (subst (λ z. AllowsAll facts (acts_by z)) same allowed) (subst (λ z. Keep (acts_by z)) same keep);
            holds = hold;
            ends = λ x same. end_scope_same t n agrees only x;
          }) text (λ calls none. tt) takes compares allowed keep
