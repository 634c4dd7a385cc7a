-- The law: files that break no rule of names and of types are typed, where their identifiers stand in the order of the
-- text.
use Rattle.std.proofs.Common.{◌≡◌, ◌≤◌, ◌∙◌, inl, inr, sym, ap, subst, ℕ, Bool, true, List, [], ◌∷◌, map, length, IsTrue, Some, None}
use Rattle.std.specs.Prelude.{flat_map}
use Rattle.machine.specs.spark_base.Lists.{Has}
use Rattle.machine.specs.place_names.declared.act.Mode.TheVariants as mode
use Rattle.machine.specs.type_definitions.declared.table.Shape.TheVariants as shape
use Rattle.machine.specs.type_definitions.Types.{shape_of}
use Rattle.ada_lexer.specs.Tokens.{Cut}
use Rattle.ada_tree.specs.declared.unit.SourceUnit.{SourceUnit}
use Rattle.name_events.specs.Outline.{source_events}
use Rattle.name_events.specs.Identified.{identified}
use Rattle.name_events.specs.Denotes.{known_of as names_known}
use Rattle.name_events.specs.Faults.{name_fault}
use Rattle.machine.specs.resolved_tree.Trees.{Code, Program}
use Rattle.machine.specs.type_definitions.declared.table.ObjectInfo.{ObjectInfo}
use Rattle.machine.specs.type_definitions.declared.table.Entry.TheVariants as entry
use Rattle.machine.specs.type_definitions.declared.table.Profile.{Profile}
use Rattle.machine.specs.type_definitions.Entries.{entry_of}
use Rattle.machine.specs.type_definitions.Whole.{outside, known_of, type_fault}
use Rattle.typing_steps.specs.Programs.{program_of}
use Rattle.machine.specs.typed_tree.Expressions.{object_number, object_type}
use Rattle.machine.specs.typed_tree.Programs.{TypedSub, DeclaredObject, program_objects}
use Rattle.type_sizes.specs.Formed.{all_formed}
use Rattle.type_rules.proofs.Formed.{files_formed}
use Rattle.settled_types.specs.Orderly.{at_start, IsOrderly}
use Rattle.settled_types.specs.Stamped.{AllOpen}
use Rattle.settled_types.proofs.Faultless.{program_open}
use Rattle.settled_types.specs.OrderlyFiles.Apart.{AreApart}
use Rattle.settled_types.specs.OrderlyFiles.Ended.{AllEnded}
use Rattle.settled_types.proofs.OrderlyFiles.Main.{files_in_order}
use Rattle.settled_types.specs.FilePositions.Order.{Ascends, event_positions}
use Rattle.settled_types.specs.FilePositions.Texts.{AreParsed}
use Rattle.settled_types.proofs.FilePositions.Ascending.{events_ascend}
use Rattle.settled_types.proofs.FilePositions.Main.{files_apart as parsed_apart, files_ended}
use Rattle.machine.specs.flow_paths.Objects.{object_at, sub_at, is_anonymous, traverses, view_of}
use Rattle.machine.specs.flow_paths.Views.{traversed_of}
use Rattle.machine.specs.flow_paths.Points.{FlowPoint}
use Rattle.machine.specs.flow_paths.Laid.{FlowSub, flow_typing}
use Rattle.settled_types.specs.GatheredLaws.Made.{IsMade}
use Rattle.settled_types.specs.GatheredLaws.Views.{AreViews}
use Rattle.settled_types.proofs.GatheredLaws.Components.{components_left}
use Rattle.settled_types.proofs.GatheredLaws.Laws.{program_laws}
use Rattle.settled_types.proofs.GatheredLaws.Main.{are_types, formal}
use Rattle.settled_types.proofs.AnonymousTypes.Main.{are_views as program_views}
use Rattle.settled_types.proofs.NamedFiles.Library.{procedures}
use Rattle.settled_types.proofs.NamedFiles.Records.{records_apart}
use Rattle.settled_types.proofs.NamedFiles.Formals.{formals_are_apart}
use Rattle.settled_types.specs.OrderLaws.ScopeLaws.Code.{Once}
use Rattle.sound_files.specs.SeenFiles.Reached.{IsObjectIn}
use Rattle.sound_files.proofs.SeenFiles.Entries.{is_object_entry, known_keeps}
use Rattle.sound_files.proofs.SeenFiles.Files.{files_fit}
use Rattle.machine.specs.Typed.{is_typed}
use Rattle.sound_files.specs.MeantFiles.Denoted.{AreDenoted}
use Rattle.sound_files.specs.MeantFiles.Typed.{AreTyped as AreDeclared}
use Rattle.sound_files.proofs.MeantFiles.Objects.{object_numbers, units_same}
use Rattle.sound_files.proofs.MeantFiles.Puts.{subprogram_declared}
use Rattle.sound_files.proofs.MeantFiles.Bodies.{files_have_bodies}
use Rattle.sound_files.proofs.MeantFiles.Denoted.{units_denoted}
use Rattle.sound_files.proofs.MeantFiles.Main.{followed, files_apart, files_bodied, files_kept, files_typed}
use Rattle.sound_files.proofs.MeantFiles.Codes as codes
use Rattle.settled_types.specs.OrderLaws.Written.{is_unit}
use Rattle.settled_types.proofs.OrderLaws.Faults.{units_faultless}
use Rattle.settled_types.specs.SteadyTypes.Flat.{IsFlatUnit}
use Rattle.settled_types.proofs.SteadyTypes.Main.{alike, steady}
use Rattle.settled_types.proofs.Main.{second, rows_first, rows_second}
use Rattle.sound_files.proofs.Flat.{unit_flat}
use Rattle.sound_files.proofs.Once.{files_once}
use Rattle.sound_files.proofs.Written.{files_written}
use Rattle.sound_files.proofs.Fronts.{files_fronts}
use Rattle.soundness.specs.TypedLaws.Fine.{Denotes, Laws}
use Rattle.soundness.specs.TypedLaws.Needed.{AreFine}
use Rattle.soundness.proofs.TypedLaws.TypedPoints.Numbers.{object_numbered, denotes}
use Rattle.soundness.specs.TypedLaws.TypedSteps.Steps.{AreTyped, AreCounted}
use Rattle.sound_files.specs.TypedFiles.TypedRuns.Code.{IsTypedUse, IsTypedCode}
use Rattle.sound_files.specs.TypedFiles.TypedRuns.Formals.{AreProfiled}
use Rattle.sound_files.specs.TypedFiles.TypedRuns.Meant.{typed_in, laid_in, site_in, typing_laid}
use Rattle.sound_files.proofs.TypedFiles.TypedRuns.Laid.{laid_typing}
use Rattle.sound_files.specs.TypedFiles.TypedTexts.Meant.{IsMeant}
use Rattle.sound_files.proofs.TypedFiles.TypedTexts.Main.{text_typed, text_used, text_code, text_fine, text_counted, text_is_typed}
use Rattle.sound_files.proofs.TypedFiles.Profiled.{are_profiled}
use Rattle.sound_files.proofs.TypedFiles.Traversed.{firsts_there, first_in}
use Rattle.sound_files.proofs.TypedFiles.Denoted.{same_object, laid_object, denotes_laid}

first_long : (p : Program) (orderly : IsOrderly p) (opens : AllOpen (known_of p) p.units) → p.count ≤ length (second p orderly opens)
first_long p orderly opens = (rows_first p orderly opens).long

module _ (files : List (List SourceUnit)) where
  abbrev p : Program
  p = program_of files

  module _ (apart : AreApart (identified files)) (ended : AllEnded at_start p.units) (up : Ascends (event_positions (source_events files))) (named : name_fault files ≡ None)
      (none : type_fault p ≡ None) where
    formed : IsTrue (all_formed p.units)
    formed = files_formed (identified files) files

    orderly : IsOrderly p
    orderly = files_in_order files apart ended

    opens : AllOpen (known_of p) p.units
    opens = program_open p formed none

    written : (u : Code) → Has p.units u → is_unit u ≡ true
    written u has = files_written (identified files) (outside (known_of p)) files (procedures files named) u has (units_faultless p none u has)

    -- anonymous access types have rows of their own
    pub are_views : AreViews p.units (known_of p).table
    are_views = program_views p formed orderly none (files_apart files up named)

    laws : Laws (known_of p) (IsMade p.units)
    laws = program_laws p formed orderly none are_views (components_left p (records_apart (identified files) files named))

    -- there is a row for each declaration
    long : p.count ≤ length (known_of p).table
    unfolding known_of
    long = (rows_second p orderly opens).long

    -- objects and formals have the types that are indicated
    declared : (u : Code) → Has p.units u → AreDeclared (IsMade p.units) (outside (known_of p)) u
    declared =
        let flat : (u : Code) → Has p.units u → IsFlatUnit u = λ u has. unit_flat u (written u has) in
        let kept = files_kept files up named (first_long p orderly opens) in
        files_typed files up named (IsMade p.units) (λ m has. inr has) long (steady p orderly opens flat kept) (alike p orderly opens flat kept)

    -- ---- names

    there : (d : ℕ) → (IsObjectIn (names_known files) d → Has (flat_map object_numbers p.units) d) → (o : ObjectInfo) → entry_of (known_of p) d ≡ entry.Object o
        → Has (site_in p).objects d
    there d placed o is =
        subst (λ ns. Has ns d) (sym (units_same p.units (record { known = known_of p; identifier = None }) 1 p.units))
        (placed (known_keeps (IsObjectIn (names_known files)) p (files_fit files up named) d (ap is_object_entry is)))

    laid_denotes : (d : ℕ) → (IsObjectIn (names_known files) d → Has (flat_map object_numbers p.units) d) → Denotes (site_in p) (typing_laid p) d
    laid_denotes d placed =
        denotes_laid p d (there d placed) (denotes (known_of p) p.units d (there d placed) (files_bodied files up named d))

    denoted : (u : Code) → Has p.units u → AreDenoted (Denotes (site_in p) (typing_laid p)) u
    denoted =
        units_denoted (IsObjectIn (names_known files)) (Denotes (site_in p) (typing_laid p)) (flat_map object_numbers p.units)
        laid_denotes p.units [] (λ n has. absurd has) (λ n has. has) (files_fit files up named)

    object_named : (d : ℕ) (o : ObjectInfo) → entry_of (known_of p) d ≡ entry.Object o → Has (site_in p).objects d
        → (object_at (typing_laid p) (object_number (site_in p) d)).of ≡ o.of
    object_named d o is has = ap (λ x. x.of) (same_object p d has) ∙ object_numbered (known_of p) p.units d has ∙ ap object_type is

    -- ---- subprograms

    once : Once (map (λ (o : DeclaredObject). o.number) (program_objects (known_of p) p.units))
    once = files_once files apart (known_of p)

    bodied : (d : ℕ) (profile : Profile) → entry_of (known_of p) d ≡ entry.Subprogram profile → Has (site_in p).bodies d
    unfolding name_fault
    bodied d profile is = files_have_bodies files (identified files) (followed files up named) named d (subprogram_declared p d profile is)

    profiled : AreProfiled (known_of p) (site_in p).bodies (typing_laid p) (IsMade p.units)
    profiled =
        are_profiled p formed orderly none (files_apart files up named) (IsMade p.units) laws once (laid_object p) object_named (units_faultless p none) declared
        (formals_are_apart (identified files) files named)
        (λ u has. files_fronts (identified files) files u has (formals_are_apart (identified files) files named u has)) bodied
        (λ d i. formal (IsMade p.units) (λ u less. inl less) (known_of p) (are_types p orderly) d i)

    pub are_meant : IsMeant p
    are_meant =
        let all = codes.files_meant (identified files) (typing_laid p) (IsMade p.units) (site_in p) files denoted declared in
        record {
          formed = formed;
          orderly = orderly;
          written = written;
          views = are_views;
          apart = components_left p (records_apart (identified files) files named);
          profiled = profiled;
          bodies = λ u has. (all u has).0;
          objects = λ u has. (all u has).1;
        }

    pub files_steps : AreTyped (laid_in p)
    files_steps = text_typed p none are_meant

    -- So are what is passed, and sources of views.
    pub files_used : (sub : FlowSub) → Has (laid_in p).subs sub → (q : FlowPoint) → Has sub.points q → IsTypedUse (flow_typing (laid_in p)) sub.result q.instr
    files_used = text_used p none are_meant

    -- Formals of anonymous access types are the first ones of traversal functions.
    pub files_firsts : (n x : ℕ) → Has (sub_at (flow_typing (laid_in p)) n).formals x → is_anonymous (view_of (flow_typing (laid_in p)) x) ≡ true
        → traversed_of (traverses (flow_typing (laid_in p)).table (sub_at (flow_typing (laid_in p)) n).result) (sub_at (flow_typing (laid_in p)) n).formals ≡ Some x
    files_firsts =
        subst (λ z. (n x : ℕ) → Has (sub_at z n).formals x → is_anonymous (view_of z x) ≡ true → traversed_of (traverses z.table (sub_at z n).result) (sub_at z n).formals ≡ Some x)
        (laid_typing (known_of p).table (typed_in p))
        (firsts_there p formed orderly none (files_apart files up named) (IsMade p.units) laws once (laid_object p) object_named (units_faultless p none) declared
        (formals_are_apart (identified files) files named))

    -- Each of these has a first formal, of mode `in` and of an access type.
    pub files_first : (n : ℕ) → traverses (flow_typing (laid_in p)).table (sub_at (flow_typing (laid_in p)) n).result ≡ true
        → (f : ℕ) × (rest : List ℕ) × ((sub_at (flow_typing (laid_in p)) n).formals ≡ f ∷ rest) × ((object_at (flow_typing (laid_in p)) f).mode ≡ mode.In)
        × (d : ℕ) × (c : Bool) × (k : Bool) × (shape_of (flow_typing (laid_in p)).table (object_at (flow_typing (laid_in p)) f).of ≡ shape.Access d c k)
    files_first =
        subst (λ z. (n : ℕ) → traverses z.table (sub_at z n).result ≡ true
        → (f : ℕ) × (rest : List ℕ) × ((sub_at z n).formals ≡ f ∷ rest) × ((object_at z f).mode ≡ mode.In)
        × (d : ℕ) × (c : Bool) × (k : Bool) × (shape_of z.table (object_at z f).of ≡ shape.Access d c k))
        (laid_typing (known_of p).table (typed_in p))
        (first_in p formed orderly none (files_apart files up named) (IsMade p.units) laws once (laid_object p) object_named (units_faultless p none) declared
        (formals_are_apart (identified files) files named))

    pub files_code : (sub : TypedSub) → Has (typed_in p).subs sub → IsTypedCode (typing_laid p) sub.result sub.body
    files_code = text_code p none are_meant

    -- Instructions are as soundness needs them.
    pub files_fine : AreFine (laid_in p)
    files_fine = text_fine p none are_meant

    pub files_counted : AreCounted (laid_in p).subs
    files_counted = text_counted p none are_meant

    -- The law.
    pub files_are_typed : is_typed (laid_in p) ≡ true
    files_are_typed = text_is_typed p none are_meant

  -- So it is if the files are parsed from texts: then their positions are as in a text.
  pub parsed_steps : (texts : List (List Cut)) → AreParsed 0 texts files → name_fault files ≡ None → type_fault p ≡ None → AreTyped (laid_in p)
  parsed_steps texts parsed = files_steps (parsed_apart texts files parsed) (files_ended (identified files) texts files parsed) (events_ascend texts files parsed)
