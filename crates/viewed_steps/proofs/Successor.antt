-- Where a call of a traversal function leads, its result is taken. So nothing of what the first actual names is moved or
-- borrowed there; and if the call changes no fact, nothing of it is where the call stands.
use Rattle.viewed_steps.proofs.Standing as standing
use Rattle.viewed_steps.proofs.Taker.{taker_clears}
use Rattle.viewed_steps.proofs.TakerActs.{taker_names}
use Rattle.viewed_steps.specs.Ready.{IsReady}
use Rattle.viewed_steps.specs.Sound.{ViewStage}
use Rattle.viewed_steps.specs.Traversals.{IsViewTaker, TraversalCall, call_in, traversed_name}
use Rattle.soundness.proofs.Points.{flow_at, path_there}
use Rattle.soundness.specs.Sound.{IsNoCall, Stage, IsNamedSub, IsAtPoint}
use Rattle.std.proofs.Common.{◌≡◌, refl, sym, ◌∙◌, subst, ◌⊎◌, inl, inr, ℕ, true, false, Option, List, ◌∷◌, ap}
use Rattle.std.proofs.lemmas.Bool.{false≢true}
use Rattle.machine.specs.spark_base.Lists.{Has}
use Rattle.machine.specs.place_names.declared.act.Placed.{Placed}
use Rattle.machine.specs.place_names.declared.fact.Fact.{Fact}
use Rattle.machine.specs.typed_tree.Trees.{NoMore, More, Name}
use Rattle.machine.specs.typed_tree.Programs.{TypedProgram}
use Rattle.machine.specs.type_definitions.Types.{Table}
use Rattle.machine.specs.flow_paths.declared.report.Effects.{Effects}
use Rattle.machine.specs.flow_paths.Effects.{path_points, act_writes, act_reads}
use Rattle.machine.specs.flow_paths.Objects.{is_borrower, is_package_object}
use Rattle.machine.specs.flow_paths.Instructions.{Instruction, Declare, Assign, Call, Hold}
use Rattle.machine.specs.flow_paths.Laid.{NamedSub, FlowSub, flow_sub, flow_program, flow_named, typing_of, flow_typing}
use Rattle.machine.specs.flow_paths.Paths.{ControlPath, goes_on, path_point, facts_before}
use Rattle.machine.specs.flow_paths.Paths.{PathPoint}
use Rattle.machine.specs.flow_paths.Points.{NamedPoint}
use Rattle.machine.specs.States.{State, Frame, sub_of}
use Rattle.soundness.specs.OwnedWays.Ways.{Way, AllowsAll}
use Rattle.soundness.specs.OwnedWays.Ways as ways
use Rattle.soundness.proofs.OwnedLoans.Allowed.{Cleared}
use Rattle.viewed_steps.proofs.Constructors.{is_call_instruction}

-- what takes it isn't a call
pub takes_no_call : (table : Table) (typed : TypedProgram) (n : ℕ) (c : TraversalCall) (result : Option ℕ) (i : Instruction)
    → IsViewTaker (flow_typing (flow_program table typed)) n c result i → IsNoCall i
takes_no_call table typed n c result i (inl (x, is, sight)) k actuals t call = (let never : Declare x (More (call_in n c) NoMore) ≡ Call k actuals t = sym is ∙ call in absurd (false≢true (ap is_call_instruction never)))
takes_no_call table typed n c result i (inr (inl (p, x, u, is, sight, itself))) k actuals t call =
    (let never : Assign (Name p x NoMore u) (call_in n c) ≡ Call k actuals t = sym is ∙ call in absurd (false≢true (ap is_call_instruction never)))
takes_no_call table typed n c result i (inr (inr (is, gives))) k actuals t call = (let never : Hold (More (call_in n c) NoMore) ≡ Call k actuals t = sym is ∙ call in absurd (false≢true (ap is_call_instruction never)))

module _ (table : Table) (typed : TypedProgram) (effects : Effects) (input : List ℕ) (ready : IsReady table typed effects)
    (state : State) (top : Stage) (older : List ViewStage) (outer : List Frame) (named : NamedSub) (p : NamedPoint)
    (frames : state.frames ≡ top.frame ∷ outer) (of_sub : IsNamedSub (flow_named table typed) top.frame.sub named)
    (at_point : IsAtPoint named.points top.frame.next p)
    (path : ControlPath (path_points (flow_program table typed) effects (sub_of (flow_program table typed) top.frame.sub)) top.before top.frame.next)
    (k : ℕ) (next : Has (flow_at (typing_of table typed) named p).next k) (q : NamedPoint) (at_q : IsAtPoint named.points k q) where
  abbrev there : Stage
  there = standing.at_next table typed effects input ready state top older outer named p frames of_sub at_point path top.frame.waits top.frame.loops k

  abbrev state_there : State
  state_there = record state { frames = there.frame ∷ outer }

  step_on : Has (path_point (standing.points table typed effects input ready state top older outer named p frames of_sub at_point) top.frame.next).next k
  step_on = subst (λ (z : PathPoint). Has z.next k) (sym (path_there (typing_of table typed) named top.frame.next p at_point (flow_program table typed) effects)) next

  path_next : ControlPath (path_points (flow_program table typed) effects (sub_of (flow_program table typed) top.frame.sub)) (top.frame.next ∷ top.before) k
  path_next =
      subst (λ (z : FlowSub). ControlPath (path_points (flow_program table typed) effects z) (top.frame.next ∷ top.before) k)
      (sym (standing.sub_is table typed effects input ready state top older outer named p frames of_sub at_point))
      (goes_on top.before top.frame.next k (standing.path_here table typed effects input ready state top older outer named p frames of_sub at_point path) step_on)

  abbrev facts_there : List Fact
  facts_there = facts_before (standing.points table typed effects input ready state top older outer named p frames of_sub at_point) (top.frame.next ∷ top.before)

  -- its acts
  pub in_next : Has (flow_sub (typing_of table typed) named).points (flow_at (typing_of table typed) named q)
  in_next = standing.in_sub table typed effects input ready state_there there older outer named q refl of_sub at_q

  abbrev pub acts_next : List Placed
  acts_next = standing.acts_by table typed effects input ready state_there there older outer named q refl of_sub at_q (flow_typing (flow_program table typed)) q.instr

  pub act_next : (a : Placed) → Has acts_next a → Has (flow_at (typing_of table typed) named q).acts a
  act_next a has = subst (λ z. Has z a) (standing.acts_agree table typed effects input ready state_there there older outer named q refl of_sub at_q) has

  pub allowed_next : IsNoCall q.instr
      → AllowsAll facts_there (standing.acts_here table typed effects input ready state_there there older outer named q refl of_sub at_q q.instr)
  allowed_next plain = standing.allowed table typed effects input ready state_there there older outer named q refl of_sub at_q path_next plain

  -- one of them names the object that the first actual is rooted in
  module _ (n : ℕ) (c : TraversalCall) (local : (x : ℕ) → is_borrower (flow_typing (flow_program table typed)) x ≡ true → is_package_object (flow_typing (flow_program table typed)) x ≡ false)
      (shared : is_package_object (flow_typing (flow_program table typed)) c.root ≡ true) where
    abbrev roots_there : List ℕ
    roots_there = standing.roots table typed effects input ready state_there there older outer named q refl of_sub at_q

    pub names_next : IsViewTaker (flow_typing (flow_program table typed)) n c named.sub.result q.instr
        → (a : Placed) × Has (flow_at (typing_of table typed) named q).acts a × ((act_writes c.root a.act ≡ true) ⊎ (act_reads c.root a.act ≡ true))
    names_next taker =
        let found = taker_names (flow_typing (flow_program table typed)) n c named.sub.result roots_there q.pos local shared q.instr taker in
        (found.0, act_next found.0 found.1, found.2)

  -- nothing of the name is moved or borrowed
  pub clear_next : (n : ℕ) (c : TraversalCall) → IsViewTaker (flow_typing (flow_program table typed)) n c named.sub.result q.instr
      → (u : Way) → ways.name_of u ≡ traversed_name c → Cleared facts_there u
  clear_next n c taker u called =
      taker_clears (flow_typing (flow_program table typed)) n c
      (record { typing = flow_typing (flow_program table typed); result = named.sub.result; roots = standing.roots table typed effects input ready state_there there older outer named q refl of_sub at_q })
      refl q.pos facts_there u called q.instr taker
      (allowed_next (takes_no_call table typed n c named.sub.result q.instr taker))

  pub clear_here : (facts : List Fact) → facts_there ≡ facts → (n : ℕ) (c : TraversalCall) → IsViewTaker (flow_typing (flow_program table typed)) n c named.sub.result q.instr
      → (u : Way) → ways.name_of u ≡ traversed_name c → Cleared facts u
  clear_here facts same n c taker u called = subst (λ z. Cleared z u) same (clear_next n c taker u called)
