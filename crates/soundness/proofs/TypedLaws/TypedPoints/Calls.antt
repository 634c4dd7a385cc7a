-- Statements that call: an instance of Unchecked_Deallocation, input and output.
use Rattle.std.proofs.Common.{◌≡◌, refl, sym, subst, ℕ, Bool, true, false, List, [], ◌∷◌, ◌++◌, nat_eq, Option, Some, None, ap}
use Rattle.std.proofs.lemmas.Bool.{eqb-true, false≢true}
use Rattle.machine.specs.spark_base.declared.position.Pos.{Pos}
use Rattle.machine.specs.resolved_tree.Trees.{Tree, Named, Applied, Argument, NoMore, More, position}
use Rattle.machine.specs.type_definitions.declared.table.Entry.{Entry}
use Rattle.machine.specs.type_definitions.declared.table.Entry.TheVariants as entry
use Rattle.machine.specs.type_definitions.declared.table.Predefined.{Predefined}
use Rattle.machine.specs.type_definitions.declared.table.Predefined.TheVariants as predefined
use Rattle.machine.specs.type_definitions.declared.judgement.Fault.{Fault}
use Rattle.machine.specs.type_definitions.declared.judgement.Own.TheVariants as own
use Rattle.machine.specs.type_definitions.declared.judgement.Reading.{Reading}
use Rattle.machine.specs.type_definitions.declared.judgement.Reading.TheVariants as reading
use Rattle.machine.specs.type_definitions.declared.judgement.Where.TheVariants as stands
use Rattle.machine.specs.type_definitions.Types.{Table, base, shape_of, is_untyped}
use Rattle.machine.specs.type_definitions.Entries.{entry_of, integer}
use Rattle.machine.specs.type_definitions.Faults.{demand}
use Rattle.machine.specs.type_definitions.Names.{Context, reading_of}
use Rattle.machine.specs.type_definitions.Expressions.{own_of, inside, around, around_string, around_variable, is_of, is_variable, associates, given_names, reading_faults, call_arguments}
use Rattle.machine.specs.type_definitions.Statements.{name_x, actuals_of, variable_argument, text_argument, is_one, called, call_faults}
use Rattle.machine.specs.type_definitions.Statements as rules
use Rattle.machine.specs.typed_tree.Trees.{TypedCode}
use Rattle.machine.specs.typed_tree.declared.object.Object.{Object}
use Rattle.machine.specs.typed_tree.Expressions.{Site, typed_expression, typed_first}
use Rattle.machine.specs.typed_tree.Statements.{typed_text, typed_call, call_of, predefined_call}
use Rattle.machine.specs.flow_paths.Instructions as instruction
use Rattle.machine.specs.flow_paths.Objects.{Typing, Signature}
use Rattle.soundness.specs.TypedLaws.Fine.{Agree, Laws, IsMeant, AreSuffixes, IsSuffix, AreArguments}
use Rattle.soundness.specs.TypedLaws.Needed.{IsPlace, IsFine, Writes, FirstWrites}
use Rattle.soundness.proofs.TypedLaws.Agreeing.{of_known, holds, nil_left, nil_right, agree_access, agree_counts, either_left, is_free}
use Rattle.soundness.proofs.TypedLaws.Assigns as assigns
use Rattle.soundness.proofs.TypedLaws.Cases.{shape_view}
use Rattle.soundness.specs.TypedLaws.TypedPoints.Code.{IsFineCode}
use Rattle.soundness.proofs.TypedLaws.TypedPoints.Flags.{flagged, at_flags, typed_same, meant_same}
use Rattle.soundness.proofs.TypedLaws.TypedPoints.Sources.{place}
use Rattle.soundness.proofs.TypedLaws.TypedPoints.Strings.{written, string_own}

-- The arguments of a call, where its name has nothing after it but these.
with_arguments : (s : Site) (y : Typing) (rest : Tree) (P : Tree → Type 0) (F : Option Tree → List Fault) → (F None ≡ [] → ⊥)
    → ((args : Tree) → AreArguments s y args → F (Some args) ≡ [] → P args) → AreSuffixes s y rest → F (actuals_of rest) ≡ [] → P (call_arguments rest)
unfolding AreSuffixes IsSuffix AreArguments
with_arguments s y NoMore P F never good meant none = good NoMore tt none
with_arguments s y (More (Applied args) NoMore) P F never good meant none = good args meant.0 none
with_arguments s y rest P F never good meant none = absurd (never none)

refused : (p : Pos) (b : Bool) → demand 1 p b ++ demand 2 p false ≡ [] → ⊥
refused p true e = false≢true (ap is_free e)
refused p false e = false≢true (ap is_free e)

other_refused : (a b : List Fault) (p : Pos) → (a ++ demand 2 p false) ++ b ≡ [] → ⊥
other_refused a b p e = let f = nil_right a (demand 2 p false) (nil_left (a ++ demand 2 p false) b e) in false≢true (ap is_free f)

module _ (s : Site) (objects : List Object) (subs : List Signature) (made : ℕ → Type 0) (laws : Laws s.context.known made) where
  abbrev y : Typing
  y = record { table = s.context.known.table; objects = objects; subs = subs }

  abbrev table : Table
  table = s.context.known.table

  module _ (looped starts : Bool) where
    abbrev c : Context
    c = flagged looped starts s.context

    abbrev z : Site
    z = at_flags looped starts s

    -- A variable that is demanded.
    variable_placed : (e : Tree) (t : ℕ) → IsMeant s y e → made t → around_variable c t e ++ inside c false t e ≡ []
        → (u : ℕ) × IsPlace y (typed_expression s t e) u × Agree table t u
    unfolding inside
    variable_placed (Named p d rest) t meant m none = by (reading_of c d rest) refl (nil_left _ (inside c false t (Named p d rest)) none)
        (nil_right (around_variable c t (Named p d rest)) (inside c false t (Named p d rest)) none)
      where
        by : (r : Reading) → reading_of c d rest ≡ r
            → demand 1 p (is_of c.known t (own_of c.known r)) ++ demand 2 p (is_variable (entry_of c.known d) r) ≡ [] → inside c false t (Named p d rest) ≡ []
            → (u : ℕ) × IsPlace y (typed_expression s t (Named p d rest)) u × Agree table t u
        by (reading.Place u) is around within =
            let found = assigns.named_placed z objects subs made laws p d u t rest (meant_same looped starts s y (Named p d rest) meant) within is in
            let of = holds 1 p (is_of c.known t (own.Of u)) (nil_left (demand 1 p (is_of c.known t (own.Of u))) _ around) in
            let one = eqb-true (base table u) (base table t) (of_known (is_untyped table u) (nat_eq (base table u) (base table t)) (laws.certain u found.0) of) in (
              u,
              subst (λ x. IsPlace y x u) (typed_same looped starts s t (Named p d rest)) (place s objects subs made laws (typed_expression z t (Named p d rest)) u found.1),
              laws.same t u m found.0 (sym one),
            )
        by reading.Off is around within = (
            let f = nil_left (reading_faults c p d false (given_names (call_arguments rest)) (reading_of c d rest)) _ within in
            let g : reading_faults c p d false (given_names (call_arguments rest)) reading.Off ≡ [] = rw is at f in absurd (false≢true (ap is_free g)))
        by (reading.Value u v) is around within = absurd (refused p (is_of c.known t (own.Of u)) around)
        by (reading.Call f) is around within = absurd (refused p (is_of c.known t (own_of c.known (reading.Call f))) around)
        by (reading.Image u) is around within = absurd (refused p false around)
        by reading.EndOfFile is around within = absurd (refused p (is_of c.known t (own_of c.known reading.EndOfFile)) around)
    variable_placed e t meant m none = absurd (other_refused (around c stands.Actual t e) (inside c false t e) (position e) none)

    -- ---- instances of Unchecked_Deallocation

    released : (p : Pos) (d t : ℕ) (args : Tree) → entry_of s.context.known d ≡ entry.Instance t → AreArguments s y args
        → demand 3 p (associates (name_x ∷ []) (given_names args)) ++ variable_argument c t args ≡ [] → IsFine y None (instruction.Release (typed_first s t args))
    unfolding typed_first AreArguments
    released p d t (Argument w e rest) is meant none =
        let law = laws.freed d t is in
        let found = variable_placed e t meant.0 law.0 (nil_right (demand 3 p (associates (name_x ∷ []) (given_names (Argument w e rest)))) _ none) in
        (found.0, law.1, found.1, agree_access table t found.0 law.1 false true found.2 law.2)
    released p d t args is meant none = absurd (false≢true (ap is_free none))

    -- ---- input and output

    put : (p : Pos) (args : Tree) → AreArguments s y args → demand 3 p (is_one (given_names args)) ++ text_argument c args ≡ [] → FirstWrites y (typed_text s args)
    unfolding typed_first AreArguments
    put p (Argument w e rest) meant none =
        let more = nil_right (demand 3 p (is_one (given_names (Argument w e rest)))) _ none in
        let within = nil_right (around_string c e) _ more in
        let text = string_own z objects subs made laws e integer (meant_same looped starts s y e meant.0) (nil_left (around_string c e) _ more) within in
        (refl, subst (Writes y) (typed_same looped starts s integer e) (written z objects subs made laws e integer (meant_same looped starts s y e meant.0) text within))
    put p args meant none = absurd (false≢true (ap is_free none))

    get : (p : Pos) (args : Tree) → AreArguments s y args → demand 3 p (is_one (given_names args)) ++ variable_argument c integer args ≡ []
        → IsFine y None (instruction.Input (typed_first s integer args))
    unfolding typed_first AreArguments
    get p (Argument w e rest) meant none =
        let found = variable_placed e integer meant.0 laws.integers (nil_right (demand 3 p (is_one (given_names (Argument w e rest)))) _ none) in
        (found.0, found.1, shape_view (shape_of table found.0) (either_left _ _ (agree_counts table integer found.0 found.2 laws.whole)))
    get p args meant none = absurd (false≢true (ap is_free none))

    module _ (result : Option ℕ) where
      abbrev IsFineCall : TypedCode → Type 0
      IsFineCall code = IsFineCode y result code

      predefined_fine : (p : Pos) (which : Predefined) (args : Tree) → AreArguments s y args → rules.predefined_call c p which args ≡ [] → IsFineCall (predefined_call s p which args)
      unfolding IsFineCode
      predefined_fine p predefined.Put args meant none = put p args meant none
      predefined_fine p predefined.PutLine args meant none = put p args meant none
      predefined_fine p predefined.NewLine args meant none = tt
      predefined_fine p predefined.Get args meant none = get p args meant none
      predefined_fine p predefined.EndOfFile args meant none = tt
      predefined_fine p predefined.Deallocation args meant none = tt

      pub call_fine : (name : Tree) → IsMeant s y name → call_faults c name ≡ [] → IsFineCall (typed_call s name)
      unfolding IsMeant IsFineCode
      call_fine (Named p d rest) meant none = by (entry_of s.context.known d) refl none
        where
          by : (e : Entry) → entry_of s.context.known d ≡ e → called c p d e (actuals_of rest) ≡ [] → IsFineCall (call_of s p d e rest)
          by (entry.Subprogram profile) is h = tt
          by (entry.Instance t) is h =
              with_arguments s y rest (λ args. IsFine y None (instruction.Release (typed_first s t args))) (λ o. called c p d (entry.Instance t) o) (λ e. false≢true (ap is_free e))
              (λ args m n. released p d t args is m n) meant.1 h
          by (entry.Predefined which) is h =
              with_arguments s y rest (λ args. IsFineCall (predefined_call s p which args)) (λ o. called c p d (entry.Predefined which) o) (λ e. false≢true (ap is_free e))
              (λ args m n. predefined_fine p which args m n) meant.1 h
          by e is h = tt
      call_fine name meant none = tt
