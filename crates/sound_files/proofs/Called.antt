-- What is called has a body.
use Rattle.std.proofs.Common.{◌≡◌, refl, ap, ◌∙◌, inl, inr, ℕ, zero, suc, ◌<◌, ◌+◌, List, [], ◌∷◌, length, get_or, arith, Option, None}
use Rattle.std.proofs.lemmas.List.{length-map}
use Rattle.machine.specs.spark_base.Lists.{Has}
use Rattle.ada_tree.specs.declared.unit.SourceUnit.{SourceUnit}
use Rattle.name_events.specs.Outline.{source_events}
use Rattle.name_events.specs.Identified.{identified}
use Rattle.name_events.specs.Faults.{name_fault}
use Rattle.machine.specs.resolved_tree.Trees.{Program}
use Rattle.typing_steps.specs.Programs.{program_of}
use Rattle.machine.specs.type_definitions.Types.{Table}
use Rattle.machine.specs.type_definitions.Whole.{known_of}
use Rattle.machine.specs.typed_tree.Trees.{TypedTree}
use Rattle.machine.specs.typed_tree.Programs.{TypedSub, typed_program}
use Rattle.machine.specs.flow_paths.Instructions.{Call}
use Rattle.machine.specs.flow_paths.Objects.{Typing}
use Rattle.machine.specs.flow_paths.Points.{FlowPoint}
use Rattle.machine.specs.flow_paths.Laid.{FlowSub, FlowProgram, sub_temporaries, named_subs, all_named, flow_sub, typing_of, flow_named, flow_program}
use Rattle.machine.specs.States.{no_sub}
use Rattle.machine.specs.Run.{no_point}
use Rattle.settled_types.specs.FilePositions.Order.{Ascends, event_positions}
use Rattle.sound_files.proofs.MeantFiles.Told.{files_followed}
use Rattle.sound_files.proofs.MeantFiles.Bodies.{files_have_bodies}
use Rattle.sound_files.specs.CalledSubs.Called.{HaveBodies}
use Rattle.sound_files.proofs.CalledSubs.Main.{calls_within}
use Rattle.settled_types.specs.OrderLaws.ReadyLaws.InOrder.{IsSub}
use Rattle.settled_types.specs.OrderLaws.Orderly.{typed_of, bodies_of}

-- ---- lists

pub at_number : {A : Type 0} (xs : List A) (x d : A) → Has xs x → (n : ℕ) × (get_or xs n d ≡ x)
at_number [] x d has = absurd has
at_number (y ∷ xs) x d (inl e) = (0, e)
at_number (y ∷ xs) x d (inr has) = (let later = at_number xs x d has in (suc later.0, later.1))

sub_at_place : (subs : List TypedSub) (k : ℕ) → k < length subs → (sub : TypedSub) × IsSub subs k sub
sub_at_place [] k less = absurd (omega (arith, less))
sub_at_place (sub ∷ subs) zero less = (sub, ([], subs, refl, refl))
sub_at_place (sub ∷ subs) (suc k) less =
    let found = sub_at_place subs k (omega (arith, less)) in
    let at = found.1 in
    (found.0, (sub ∷ at.0, at.1, ap (λ z. sub ∷ z) at.2, ap suc at.3))

named_long : (s : Typing) (n : ℕ) (subs : List TypedSub) → length (named_subs s n subs) ≡ length subs
named_long s n [] = refl
named_long s n (sub ∷ rest) = ap suc (named_long s (n + length (sub_temporaries s sub)) rest)

all_long : (s : Typing) (subs : List TypedSub) → length (all_named s subs) ≡ length subs
all_long s [] = refl
all_long s (sub ∷ rest) = ap suc (named_long s (length s.objects) rest)

-- ---- what is called

module _ (p : Program) (bodies : HaveBodies p) where
  abbrev table_of_text : Table
  table_of_text = (known_of p).table

  abbrev flow_of_text : FlowProgram
  flow_of_text = flow_program table_of_text (typed_of p)

  subs_long : length flow_of_text.subs ≡ suc (length (bodies_of p))
  unfolding flow_program typed_program
  subs_long =
      length-map (flow_named table_of_text (typed_of p)) (flow_sub (typing_of table_of_text (typed_of p)))
      ∙ all_long (typing_of table_of_text (typed_of p)) (typed_of p).subs

  -- It has a body.
  pub called_body : (sub : FlowSub) → Has (flow_program (known_of p).table (typed_of p)).subs sub → (q : FlowPoint) → Has sub.points q
      → (n : ℕ) (actuals : TypedTree) (result : Option ℕ) → q.instr ≡ Call n actuals result → (k : ℕ) × (callee : TypedSub) × (n ≡ suc k) × IsSub (bodies_of p) k callee
  called_body sub has q there n actuals result is =
      let i = at_number flow_of_text.subs sub no_sub has in
      let k = at_number sub.points q no_point there in
      let called = calls_within p bodies i.0 k.0 n actuals result
      (ap (λ (z : FlowSub). (get_or z.points k.0 no_point).instr) i.1 ∙ ap (λ (z : FlowPoint). z.instr) k.1 ∙ is) in
      by_number n called.0 called.1
    where
      by_number : (n : ℕ) → 0 < n → n < length flow_of_text.subs
          → (k : ℕ) × (callee : TypedSub) × (n ≡ suc k) × IsSub (bodies_of p) k callee
      by_number zero some less = absurd (omega (arith, some))
      by_number (suc k) some less =
          let long = subs_long in
          let found = sub_at_place (bodies_of p) k (omega (arith, less, long)) in
          (k, found.0, refl, found.1)

-- ---- files

module _ (files : List (List SourceUnit)) where
  abbrev p : Program
  p = program_of files

  -- Each subprogram that is declared has a body, since no rule of names is broken.
  pub files_bodies : Ascends (event_positions (source_events files)) → name_fault files ≡ None → HaveBodies p
  unfolding name_fault
  files_bodies up named d has = files_have_bodies files (identified files) (files_followed files up named) named d has
