-- The law: a text that has no fault of typing and is meant is typed.
use Rattle.std.proofs.Common.{◌≡◌, ◌≤◌, refl, sym, subst, inl, ℕ, true, false, None}
use Rattle.machine.specs.resolved_tree.Trees.{Program}
use Rattle.machine.specs.type_definitions.declared.table.Shape.{Shape}
use Rattle.machine.specs.type_definitions.declared.table.Shape.TheVariants as shape
use Rattle.machine.specs.type_definitions.Types.{Table, shape_of, is_untyped, words}
use Rattle.machine.specs.type_definitions.Entries.{integer, boolean}
use Rattle.machine.specs.type_definitions.Whole.{known_of, type_fault}
use Rattle.type_sizes.proofs.Limits.{within_limits}
use Rattle.settled_types.proofs.Main.{finite}
use Rattle.settled_types.specs.GatheredLaws.Made.{IsMade}
use Rattle.settled_types.proofs.GatheredLaws.Laws.{program_laws}
use Rattle.settled_types.proofs.GatheredLaws.Main.{are_types, certain}
use Rattle.machine.specs.spark_base.Lists.{Has}
use Rattle.machine.specs.typed_tree.Programs.{TypedSub, typed_program}
use Rattle.machine.specs.flow_paths.Points.{FlowPoint}
use Rattle.machine.specs.flow_paths.Laid.{FlowSub, flow_typing, flow_program}
use Rattle.machine.specs.Typed.{sorts, sorts_of, is_typed}
use Rattle.soundness.specs.TypedLaws.Fine.{Laws, counts, lists}
use Rattle.soundness.specs.TypedLaws.Needed.{AreFine}
use Rattle.soundness.proofs.TypedLaws.Cases.{shape_view}
use Rattle.soundness.proofs.TypedLaws.Agreeing.{either_right, Owns}
use Rattle.soundness.proofs.TypedLaws.Sound.{stays}
use Rattle.soundness.specs.TypedLaws.TypedPoints.Code.{AreEvaluated}
use Rattle.soundness.proofs.TypedLaws.TypedPoints.Main.{all_fine}
use Rattle.run_codes.specs.Related.{IsTable}
use Rattle.settled_types.proofs.TableLaws.Tables.{is_table}
use Rattle.soundness.specs.TypedLaws.TypedSteps.Steps.{IsTypedStep, AreTyped, AreCounted}
use Rattle.sound_files.specs.TypedFiles.TypedRuns.Code.{IsTypedUse, IsTypedCode}
use Rattle.sound_files.specs.TypedFiles.TypedRuns.Meant.{typed_in, laid_in, typing_laid, IsMeantText}
use Rattle.sound_files.proofs.TypedFiles.TypedRuns.Words.{SortsLaw}
use Rattle.sound_files.proofs.TypedFiles.TypedRuns.Main.{are_typed, are_used, code_used}
use Rattle.sound_files.proofs.TypedFiles.TypedRuns.Programs.{FirstNone, is_typed_program}
use Rattle.sound_files.specs.TypedFiles.TypedTexts.Meant.{IsMeant}
use Rattle.sound_files.proofs.TypedFiles.TypedTexts.Bounds.{have_bounds}
use Rattle.sound_files.proofs.TypedFiles.TypedTexts.Counts.{counted}

-- The sorts of a type go by its definition.
sorts_law : (table : Table) → IsTable table → ((t of : ℕ) → shape_of table t ≡ shape.Same of → ⊥) → SortsLaw table
sorts_law table laws plain t = by (shape_of table t) refl
  where
    by : (z : Shape) → shape_of table t ≡ z → sorts table t ≡ sorts_of (sorts table) z
    by (shape.Whole low high) is = laws.whole t low high is
    by (shape.Listed literals low high) is = laws.listed t low high literals is
    by (shape.Access d constant named) is = laws.access t d constant named is
    by (shape.Fields components) is = laws.fields t components is
    by (shape.Elements low high element) is = laws.elements t element low high is
    by (shape.Same of) is = absurd (plain t of is)

module _ (p : Program) (none : type_fault p ≡ None) (text : IsMeant p) where
  abbrev table : Table
  table = (known_of p).table

  laws : Laws (known_of p) (IsMade p.units)
  laws = program_laws p text.formed text.orderly none text.views text.apart

  each_certain : (t : ℕ) → is_untyped table t ≡ false
  each_certain t = certain (IsMade p.units) (λ u less. inl less) (known_of p) (are_types p text.orderly) t

  small : (t : ℕ) → words table t ≤ 65536
  small t = (within_limits p text.formed none t).few_words

  -- The sorts of the program's types go by their definitions.
  pub types_sorted : SortsLaw table
  types_sorted = sorts_law table (is_table table (finite p text.formed text.orderly none) small) laws.plain

  is_meant : IsMeantText p (IsMade p.units)
  is_meant = record {
    bounds = have_bounds p each_certain;
    profiled = text.profiled;
    bodies = text.bodies;
    objects = text.objects;
  }

  -- Each step has expressions of the types of their places.
  pub text_typed : AreTyped (laid_in p)
  text_typed = are_typed p (IsMade p.units) none laws is_meant

  pub text_used : (sub : FlowSub) → Has (laid_in p).subs sub → (q : FlowPoint) → Has sub.points q → IsTypedUse (flow_typing (laid_in p)) sub.result q.instr
  text_used = are_used p (IsMade p.units) none laws is_meant

  pub text_code : (sub : TypedSub) → Has (typed_in p).subs sub → IsTypedCode (typing_laid p) sub.result sub.body
  text_code = code_used p (IsMade p.units) none laws is_meant

  -- Each point has the successors that its instruction leads to.
  pub text_counted : AreCounted (laid_in p).subs
  text_counted = counted table (known_of p) p.units text.written

  -- So has each operand of a short circuit that is evaluated by itself, and its names stay within what they name.
  evaluated : AreEvaluated (laid_in p)
  unfolding flow_program
  evaluated sub has point there t e left is =
      let step = subst (λ i. IsTypedStep (flow_typing (laid_in p)) sub.result i) is (text_typed sub has point there) in
      stays (flow_typing (laid_in p)) laws.whole laws.listed laws.word_law e boolean step (shape_view (shape_of table boolean) (either_right _ _ laws.listed))

  -- Each instruction is as soundness needs it.
  pub text_fine : AreFine (laid_in p)
  text_fine = all_fine p (IsMade p.units) none laws (λ u has. (text.bodies u has, text.objects u has)) evaluated

  first_none : FirstNone (laid_in p).subs
  unfolding flow_program typed_program
  first_none = refl

  same_table : (laid_in p).table ≡ table
  unfolding flow_program
  same_table = refl

  -- The law: the program is typed as the machine says it.
  pub text_is_typed : is_typed (laid_in p) ≡ true
  text_is_typed =
      is_typed_program (laid_in p) (subst SortsLaw (sym same_table) types_sorted) (subst Owns (sym same_table) laws.owns)
      (subst (λ z. counts (shape_of z integer) ≡ true) (sym same_table) laws.whole) (subst (λ z. lists (shape_of z boolean) ≡ true) (sym same_table) laws.listed)
      text_typed first_none text_counted
