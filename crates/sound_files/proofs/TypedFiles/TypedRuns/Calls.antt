-- Statements that call: a procedure, an instance of Unchecked_Deallocation, input and output.
use Rattle.std.proofs.Common.{◌≡◌, refl, sym, ap, ◌∙◌, subst, ℕ, ◌+◌, Bool, true, false, ◌&&◌, List, [], ◌∷◌, ◌++◌, map, Option, Some, None}
use Rattle.std.specs.Prelude.{is_none, is_some}
use Rattle.std.proofs.lemmas.Bool.{false≢true}
use Rattle.machine.specs.spark_base.declared.position.Pos.{Pos}
use Rattle.machine.specs.resolved_tree.Trees.{Tree, Named, Applied, Argument, NoMore, More}
use Rattle.machine.specs.type_definitions.declared.table.Entry.{Entry}
use Rattle.machine.specs.type_definitions.declared.table.Entry.TheVariants as entry
use Rattle.machine.specs.type_definitions.declared.table.FormalInfo.{FormalInfo}
use Rattle.machine.specs.type_definitions.declared.table.Predefined.{Predefined}
use Rattle.machine.specs.type_definitions.declared.table.Predefined.TheVariants as predefined
use Rattle.machine.specs.type_definitions.declared.table.Profile.{Profile}
use Rattle.machine.specs.type_definitions.declared.judgement.Fault.{Fault}
use Rattle.machine.specs.type_definitions.declared.judgement.Role.{Role}
use Rattle.machine.specs.type_definitions.declared.judgement.Role.TheVariants as role
use Rattle.machine.specs.type_definitions.declared.judgement.Way.TheVariants as way
use Rattle.machine.specs.type_definitions.Types.{Table}
use Rattle.machine.specs.type_definitions.Entries.{entry_of, integer}
use Rattle.machine.specs.type_definitions.Faults.{demand}
use Rattle.machine.specs.type_definitions.Names.{Context, seen}
use Rattle.machine.specs.type_definitions.Expressions.{Given, inside, around_variable, around_string, arguments, behind, within_suffix, associates, formal_names, given_names, call_arguments, profile_of, role_type}
use Rattle.machine.specs.type_definitions.Statements.{name_x, actuals_of, variable_argument, text_argument, is_one, called, call_faults}
use Rattle.machine.specs.type_definitions.Statements as rules
use Rattle.machine.specs.typed_tree.Trees.{TypedCode}
use Rattle.machine.specs.typed_tree.declared.object.Object.{Object}
use Rattle.machine.specs.typed_tree.Expressions.{Site, sub_number, typed_expression, typed_first, typed_values, typed_actuals, arguments_given}
use Rattle.machine.specs.typed_tree.Statements.{typed_text, typed_call, call_of, predefined_call}
use Rattle.machine.specs.flow_paths.Instructions as instruction
use Rattle.machine.specs.flow_paths.Objects.{Typing, Signature}
use Rattle.soundness.specs.TypedLaws.Fine.{Agree, Laws, IsMeant, AreSuffixes, IsSuffix, AreArguments}
use Rattle.soundness.proofs.TypedLaws.Agreeing.{holds, nil_left, nil_right, and_left, and_right, agree_access, agree_counts, is_free}
use Rattle.soundness.proofs.TypedLaws.TypedPoints.Flags.{flagged, at_flags, typed_same, meant_same}
use Rattle.soundness.proofs.TypedLaws.TypedPoints.Strings.{string_own}
use Rattle.soundness.specs.TypedLaws.TypedSteps.Steps.{IsPlaceOf, FirstText, IsText, IsCall}
use Rattle.sound_files.specs.TypedFiles.TypedRuns.Code.{ArePassed, IsTypedUse, IsTypedCode, Within}
use Rattle.sound_files.specs.TypedFiles.TypedRuns.Formals.{AreProfiled}
use Rattle.sound_files.proofs.TypedFiles.TypedRuns.Actuals.{variable_placed}
use Rattle.sound_files.proofs.TypedFiles.TypedRuns.Within.{actuals_within}
use Rattle.sound_files.proofs.TypedFiles.TypedRuns.Strings.{written}
use Rattle.sound_files.proofs.TypedFiles.TypedRuns.Sources.{inner}

-- The arguments of a call, where its name has nothing after it but these.
with_arguments : (s : Site) (y : Typing) (rest : Tree) (P : Tree → Type 0) (F : Option Tree → List Fault) → (F None ≡ [] → ⊥)
    → ((args : Tree) → AreArguments s y args → F (Some args) ≡ [] → P args) → AreSuffixes s y rest → F (actuals_of rest) ≡ [] → P (call_arguments rest)
unfolding AreSuffixes IsSuffix AreArguments
with_arguments s y NoMore P F never good meant none = good NoMore tt none
with_arguments s y (More (Applied args) NoMore) P F never good meant none = good args meant.0 none
with_arguments s y rest P F never good meant none = absurd (never none)

none_given : (o : Option ℕ) → is_none o ≡ true → is_some o ≡ false
none_given None is = refl
none_given (Some t) is = absurd (false≢true is)

-- ---- whether in a loop, a call means the same

module _ (looped starts : Bool) where
  role_same : (c : Context) (for : Role) (i : ℕ) (w : Given) → role_type (flagged looped starts c) for i w ≡ role_type c for i w
  unfolding seen
  role_same c (role.Parts t) i w = refl
  role_same c (role.Actuals f) i w = refl
  role_same c (role.Allocated t) i w = refl
  role_same c (role.Every t) i w = refl

  values_same : (s : Site) (for : Role) (i : ℕ) (args : Tree) → typed_values (at_flags looped starts s) for i args ≡ typed_values s for i args
  unfolding typed_values
  values_same s for i (Argument w e rest) =
      let z = at_flags looped starts s in
      ap (λ t. typed_expression z t e ∷ typed_values z for (i + 1) rest) (role_same s.context for i w)
      ∙ ap (λ x. x ∷ typed_values z for (i + 1) rest) (typed_same looped starts s (role_type s.context for i w) e)
      ∙ ap (λ xs. typed_expression s (role_type s.context for i w) e ∷ xs) (values_same s for (i + 1) rest)
  values_same s for i args = refl

  actuals_same : (s : Site) (f : ℕ) (rest : Tree) → typed_actuals (at_flags looped starts s) f rest ≡ typed_actuals s f rest
  unfolding typed_actuals
  actuals_same s f (More (Applied args) rest) = ap (arguments_given s.context (role.Actuals f) args) (values_same s (role.Actuals f) 0 args)
  actuals_same s f rest = refl

module _ (s : Site) (objects : List Object) (subs : List Signature) (made : ℕ → Type 0) (laws : Laws s.context.known made)
    (profiled : AreProfiled s.context.known s.bodies (record { table = s.context.known.table; objects = objects; subs = subs }) made) where
  abbrev y : Typing
  y = record { table = s.context.known.table; objects = objects; subs = subs }

  abbrev table : Table
  table = s.context.known.table

  module _ (looped starts : Bool) where
    abbrev c : Context
    c = flagged looped starts s.context

    abbrev z : Site
    z = at_flags looped starts s

    -- A variable that is demanded.
    placed : (e : Tree) (t : ℕ) → IsMeant s y e → made t → around_variable c t e ++ inside c false t e ≡ []
        → ((u : ℕ) × IsPlaceOf y u (typed_expression s t e) × Agree table t u) × Within y (typed_expression s t e)
    placed e t meant m none =
        let found = variable_placed z objects subs made laws e t (meant_same looped starts s y e meant) m none in (
          (found.0, subst (λ x. IsPlaceOf y found.0 x) (typed_same looped starts s t e) found.1, found.2),
          inner s objects subs made laws profiled looped starts e t meant m (nil_right (around_variable c t e) _ none),
        )

    -- ---- instances of Unchecked_Deallocation

    released : (p : Pos) (d t : ℕ) (args : Tree) → entry_of s.context.known d ≡ entry.Instance t → AreArguments s y args
        → demand 3 p (associates (name_x ∷ []) (given_names args)) ++ variable_argument c t args ≡ [] → IsTypedUse y None (instruction.Release (typed_first s t args))
    unfolding typed_first AreArguments
    released p d t (Argument w e rest) is meant none =
        let law = laws.freed d t is in
        let found = placed e t meant.0 law.0 (nil_right (demand 3 p (associates (name_x ∷ []) (given_names (Argument w e rest)))) _ none) in
        ((found.0.0, law.1, found.0.1, agree_access table t found.0.0 law.1 false true found.0.2 law.2), found.1)
    released p d t args is meant none = absurd (false≢true (ap is_free none))

    -- ---- input and output

    put : (p : Pos) (args : Tree) → AreArguments s y args → demand 3 p (is_one (given_names args)) ++ text_argument c args ≡ []
        → FirstText y (typed_text s args) × Within y (typed_text s args)
    unfolding typed_first AreArguments Within
    put p (Argument w e rest) meant none =
        let more = nil_right (demand 3 p (is_one (given_names (Argument w e rest)))) _ none in
        let into = nil_right (around_string c e) _ more in
        let kept = meant_same looped starts s y e meant.0 in
        let text = string_own z objects subs made laws e integer kept (nil_left (around_string c e) _ more) into in (
          (refl, subst (IsText y) (typed_same looped starts s integer e) (written z objects subs made laws e integer kept text into)),
          (inner s objects subs made laws profiled looped starts e integer meant.0 laws.integers into, tt),
        )
    put p args meant none = absurd (false≢true (ap is_free none))

    get : (p : Pos) (args : Tree) → AreArguments s y args → demand 3 p (is_one (given_names args)) ++ variable_argument c integer args ≡ []
        → IsTypedUse y None (instruction.Input (typed_first s integer args))
    unfolding typed_first AreArguments
    get p (Argument w e rest) meant none =
        let found = placed e integer meant.0 laws.integers (nil_right (demand 3 p (is_one (given_names (Argument w e rest)))) _ none) in
        ((found.0.0, found.0.1, agree_counts table integer found.0.0 found.0.2 laws.whole), found.1)
    get p args meant none = absurd (false≢true (ap is_free none))

    -- ---- procedures

    procedure_called : (p : Pos) (d : ℕ) (profile : Profile) (rest : Tree) → entry_of s.context.known d ≡ entry.Subprogram profile → IsMeant s y (Named p d rest)
        → called c p d (entry.Subprogram profile) (actuals_of rest) ≡ [] → IsCall y false (sub_number s d) (typed_actuals s d rest) × ArePassed y (sub_number s d) (typed_actuals s d rest) × Within y (typed_actuals s d rest)
    unfolding IsMeant behind within_suffix arguments
    procedure_called p d profile rest is meant none = subst (λ es. IsCall y false (sub_number s d) es × ArePassed y (sub_number s d) es × Within y es) (actuals_same looped starts s d rest) (by rest (kept (meant_same looped starts s y (Named p d rest) meant)) none)
      where
        kept : IsMeant z y (Named p d rest) → AreSuffixes z y rest
        kept h = h.1

        names_is : map (λ (f : FormalInfo). f.name) profile.formals ≡ formal_names (profile_of (entry_of s.context.known d))
        names_is = ap (λ e. formal_names (profile_of e)) (sym is)

        at : (rest args : Tree) → call_arguments rest ≡ args → AreSuffixes z y rest → behind c (way.Giving (role.Actuals d)) rest ≡ []
            → is_none profile.result && associates (map (λ (f : FormalInfo). f.name) profile.formals) (given_names args) ≡ true
            → IsCall y false (sub_number s d) (typed_actuals z d rest) × ArePassed y (sub_number s d) (typed_actuals z d rest) × Within y (typed_actuals z d rest)
        at rest args same kept inner fit =
            actuals_within z objects subs made laws profiled false d rest (profiled d profile is)
            (ap (λ e. is_some (profile_of e).result) is ∙ none_given profile.result (and_left (is_none profile.result) _ fit)) kept inner
            (subst (λ ns. associates ns (given_names (call_arguments rest)) ≡ true) names_is
            (subst (λ x. associates (map (λ (f : FormalInfo). f.name) profile.formals) (given_names x) ≡ true) (sym same) (and_right (is_none profile.result) _ fit)))

        by : (rest : Tree) → AreSuffixes z y rest → called c p d (entry.Subprogram profile) (actuals_of rest) ≡ []
            → IsCall y false (sub_number s d) (typed_actuals z d rest) × ArePassed y (sub_number s d) (typed_actuals z d rest) × Within y (typed_actuals z d rest)
        by NoMore h none = at NoMore NoMore refl h refl (holds 3 p _ (nil_left _ (arguments c (role.Actuals d) 0 NoMore) none))
        by (More (Applied args) NoMore) h none =
            at (More (Applied args) NoMore) args refl h (ap (λ xs. xs ++ []) (nil_right (demand 3 p (is_none profile.result && associates (map (λ (f : FormalInfo). f.name) profile.formals) (given_names args))) _ none))
            (holds 3 p _ (nil_left _ (arguments c (role.Actuals d) 0 args) none))
        by rest h none = absurd (false≢true (ap is_free none))

    module _ (result : Option ℕ) where
      abbrev IsTypedCall : TypedCode → Type 0
      IsTypedCall code = IsTypedCode y result code

      predefined_typed : (p : Pos) (which : Predefined) (args : Tree) → AreArguments s y args → rules.predefined_call c p which args ≡ [] → IsTypedCall (predefined_call s p which args)
      unfolding IsTypedCode Within
      predefined_typed p predefined.Put args meant none = put p args meant none
      predefined_typed p predefined.PutLine args meant none = put p args meant none
      predefined_typed p predefined.NewLine args meant none = (tt, tt)
      predefined_typed p predefined.Get args meant none = get p args meant none
      predefined_typed p predefined.EndOfFile args meant none = tt
      predefined_typed p predefined.Deallocation args meant none = tt

      pub call_typed : (name : Tree) → IsMeant s y name → call_faults c name ≡ [] → IsTypedCall (typed_call s name)
      unfolding IsMeant IsTypedCode
      call_typed (Named p d rest) meant none = by (entry_of s.context.known d) refl none
        where
          by : (e : Entry) → entry_of s.context.known d ≡ e → called c p d e (actuals_of rest) ≡ [] → IsTypedCall (call_of s p d e rest)
          by (entry.Subprogram profile) is h = (let call = procedure_called p d profile rest is meant h in (call.0, (call.1, call.2)))
          by (entry.Instance t) is h =
              with_arguments s y rest (λ args. IsTypedUse y None (instruction.Release (typed_first s t args))) (λ o. called c p d (entry.Instance t) o) (λ e. false≢true (ap is_free e))
              (λ args m n. released p d t args is m n) meant.1 h
          by (entry.Predefined which) is h =
              with_arguments s y rest (λ args. IsTypedCall (predefined_call s p which args)) (λ o. called c p d (entry.Predefined which) o) (λ e. false≢true (ap is_free e))
              (λ args m n. predefined_typed p which args m n) meant.1 h
          by e is h = tt
      call_typed name meant none = tt
