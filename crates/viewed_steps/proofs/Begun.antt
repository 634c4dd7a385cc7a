-- A traversal function begins: its first formal has the way of what the first actual designates.
use Rattle.viewed_steps.specs.Sound.{ViewStage, IsTraversal}
use Rattle.viewed_steps.specs.Awaited.{IsTakenBy}
use Rattle.viewed_steps.specs.Traversals.{TraversalCall, call_in, IsViewTaker, AreRooted, SeesFirst}
use Rattle.viewed_steps.proofs.LaidOut.{IsLaidOne, AreLaidOut}
use Rattle.soundness.proofs.Points.{one_named, one_point}
use Rattle.soundness.specs.Sound.{IsNamedSub, IsAtPoint}
use Rattle.std.proofs.Common.{◌≡◌, refl, sym, ap, ◌∙◌, subst, inl, inr, ℕ, List, [], ◌∷◌, ◌++◌, Option, Some, Bool}
use Rattle.machine.specs.spark_base.Lists.{Has}
use Rattle.machine.specs.place_names.declared.act.Mode.TheVariants as mode
use Rattle.machine.specs.typed_tree.Trees.{TypedTree, NoMore, More}
use Rattle.machine.specs.typed_tree.Programs.{TypedProgram}
use Rattle.machine.specs.type_definitions.Types.{Table}
use Rattle.machine.specs.flow_paths.Laid.{NamedSub, flow_program, flow_named, flow_typing}
use Rattle.machine.specs.flow_paths.Instructions.{Instruction}
use Rattle.machine.specs.flow_paths.Names.{has_call}
use Rattle.machine.specs.flow_paths.Objects.{Typing, object_at}
use Rattle.machine.specs.flow_paths.Points.{NamedPoint}
use Rattle.machine.specs.flow_paths.Views.{traversed_formal, sub_acts}
use Rattle.machine.specs.Calls.{Passed, Value, From, To, return_of, returns_of}
use Rattle.machine.specs.Memory.{Memory}
use Rattle.machine.specs.States.{sub_of}
use Rattle.soundness.specs.OwnedWays.Ways.{Way, View}
use Rattle.soundness.specs.OwnedLoans.Views.{Views}

-- what takes the result takes the call
pub taker_takes : (s : Typing) (n : ℕ) (c : TraversalCall) (result : Option ℕ) (i : Instruction) → IsViewTaker s n c result i → IsTakenBy i (call_in n c)
unfolding has_call
taker_takes s n c result i (inl (x, is, sight)) = inl (x, is)
taker_takes s n c result i (inr (inl (p, x, u, is, sight, itself))) = inr (inl (p, x, NoMore, u, is, refl))
taker_takes s n c result i (inr (inr (is, gives))) = inr (inr is)

-- formals of mode `in` aren't copied back
pub no_returns : (s : Typing) (sees : ℕ → Bool) (m : Memory) (depth : ℕ) (v : Views) (view : View) (formals : List ℕ) (actuals : TypedTree) (passed : List Passed)
    → AreLaidOut s sees m depth v view formals actuals passed → ((x : ℕ) → Has formals x → (object_at s x).mode ≡ mode.In) → returns_of formals passed ≡ []
no_returns s sees m depth v view [] actuals passed laid modes = refl
no_returns s sees m depth v view (x ∷ formals) (More e rest) (a ∷ passed) laid modes =
    by_value a (subst (λ how. IsLaidOne s sees m depth v view x how e a) (modes x (inl refl)) laid.0) ∙ no_returns s sees m depth v view formals rest passed laid.1 (λ y has. modes y (inr has))
  where
    by_value : (a : Passed) → IsLaidOne s sees m depth v view x mode.In e a → return_of x a ++ returns_of formals passed ≡ returns_of formals passed
    by_value (Value ws) there = refl
    by_value (From k) never = absurd never
    by_value (To k) never = absurd never
no_returns s sees m depth v view (x ∷ formals) (More e rest) [] laid modes = refl
no_returns s sees m depth v view (x ∷ formals) actuals passed laid modes = ap (returns_of (x ∷ formals)) laid

some_is : (a b : ℕ) → Some a ≡ Some b → a ≡ b
some_is a b same = cc

-- So its frame is that of a traversal function, over the frame that calls it.
pub begins_traversal : (table : Table) (typed : TypedProgram) (inner g : ViewStage) (f : ℕ) (first : Option Way)
    → traversed_formal (flow_typing (flow_program table typed)) (sub_of (flow_program table typed) inner.stage.frame.sub) ≡ Some f
    → AreRooted (flow_typing (flow_program table typed)) (sub_acts (sub_of (flow_program table typed) inner.stage.frame.sub)) f first inner.views
    → inner.stage.frame.returns ≡ [] → (named : NamedSub) → IsNamedSub (flow_named table typed) g.stage.frame.sub named → (q : NamedPoint)
    → IsAtPoint named.points g.stage.frame.next q
    → SeesFirst (flow_typing (flow_program table typed)) g.stage.depth q.instr inner.stage.frame.sub g.views first → IsTraversal table typed inner g
begins_traversal table typed inner g f first traversed rooted none named of_sub q at_q sight f' also = (
  first,
  subst (λ z. AreRooted (flow_typing (flow_program table typed)) (sub_acts (sub_of (flow_program table typed) inner.stage.frame.sub)) z first inner.views) same_formal rooted,
  λ other other_of p at_p. (
      let same_sub : other ≡ named = one_named (flow_named table typed) g.stage.frame.sub other named other_of of_sub in
      let same_point : q ≡ p = one_point named.points g.stage.frame.next q p at_q (subst (λ (z : NamedSub). IsAtPoint z.points g.stage.frame.next p) same_sub at_p) in
      subst (λ (z : NamedPoint). SeesFirst (flow_typing (flow_program table typed)) g.stage.depth z.instr inner.stage.frame.sub g.views first) same_point sight),
  none,
)
  where
    same_formal : f ≡ f'
    same_formal = some_is f f' (sym traversed ∙ also)
