-- Expressions and sources at their places, and what stands within them.
use Rattle.std.proofs.Common.{◌≡◌, refl, sym, ◌&&◌, Some, subst, inl, ℕ, Bool, true, false, List, [], ◌++◌, if◌then◌else◌, ap}
use Rattle.std.proofs.lemmas.Bool.{false≢true}
use Rattle.machine.specs.resolved_tree.Trees.{Tree, Null, Named, position}
use Rattle.machine.specs.type_definitions.declared.judgement.Fault.{Fault}
use Rattle.machine.specs.type_definitions.declared.judgement.Where.{Where}
use Rattle.machine.specs.type_definitions.declared.judgement.Where.TheVariants as stands
use Rattle.machine.specs.type_definitions.Types.{Table, full, is_scalar}
use Rattle.machine.specs.type_definitions.declared.judgement.Reading.{Reading}
use Rattle.machine.specs.type_definitions.declared.judgement.Reading.TheVariants as reading
use Rattle.machine.specs.type_definitions.Entries.{integer, entry_of}
use Rattle.machine.specs.type_definitions.Faults.{demand, K6}
use Rattle.machine.specs.type_definitions.Names.{Context, reading_of}
use Rattle.machine.specs.type_definitions.Expressions.{around, faults, inside, is_anonymous, own_of, profile_of, is_traversal_call}
use Rattle.machine.specs.type_definitions.Statements.{designates, is_source, keeps_constant, source_name, source_fits, is_name, return_source, formal_source, source_faults}
use Rattle.machine.specs.typed_tree.declared.object.Object.{Object}
use Rattle.machine.specs.typed_tree.Trees.{TypedTree}
use Rattle.machine.specs.typed_tree.Expressions.{Site, typed_expression, typed_name, typed_steps, typed_actuals, typed_imaged, called_function, object_type}
use Rattle.machine.specs.flow_paths.Objects.{Typing, Signature}
use Rattle.soundness.specs.TypedLaws.Fine.{Has, Laws, IsMeant}
use Rattle.soundness.proofs.TypedLaws.Agreeing.{holds, nil_left, nil_right, and_left, is_free}
use Rattle.soundness.proofs.TypedLaws.TypedPoints.Flags.{flagged, at_flags, typed_same, meant_same}
use Rattle.soundness.proofs.TypedLaws.TypedPoints.Values.{has_at, unwanted, scalar_own_type}
use Rattle.soundness.specs.TypedLaws.TypedSteps.Steps.{Taken}
use Rattle.sound_files.specs.TypedFiles.TypedRuns.Code.{Within, WithinSource, IsViewSource}
use Rattle.sound_files.specs.TypedFiles.TypedRuns.Formals.{AreProfiled}
use Rattle.sound_files.proofs.TypedFiles.TypedRuns.Views.{source_taken, return_taken, formal_taken}
use Rattle.sound_files.proofs.TypedFiles.TypedRuns.Within.{view_shown, call_read, function_entry, view_given, within, source_within, plain_within}

-- A source whose sentences are those of a borrower or an observer.
source_inside : (c : Context) (want : ℕ) (e : Tree) → source_faults c want e ≡ [] → inside c true want e ≡ []
unfolding inside
source_inside c want (Named p d rest) none = nil_right (source_name c want p (reading_of c d rest)) (inside c true integer (Named p d rest)) none
source_inside c want e none = absurd (let f = nil_left (K6 (position e)) _ (nil_right (demand 1 (position e) (source_fits c want e)) _ none) in false≢true (ap is_free f))

return_inside : (c : Context) (want : ℕ) (e : Tree) → return_source c want e ≡ [] → inside c true want e ≡ []
unfolding inside
return_inside c want (Null p) none = refl
return_inside c want e none = source_inside c want e none

pub target_inside : (b : Bool) (a n k : List Fault) → (if b then a ++ n else k) ≡ [] → (b ≡ false → k ≡ [] → ⊥) → n ≡ []
target_inside true a n k e never = nil_right a n e
target_inside false a n k e never = absurd (never refl e)

module _ (s : Site) (objects : List Object) (subs : List Signature) (made : ℕ → Type 0) (laws : Laws s.context.known made)
    (profiled : AreProfiled s.context.known s.bodies (record { table = s.context.known.table; objects = objects; subs = subs }) made) where
  abbrev y : Typing
  y = record { table = s.context.known.table; objects = objects; subs = subs }

  abbrev table : Table
  table = s.context.known.table

  module _ (looped starts : Bool) where
    abbrev c : Context
    c = flagged looped starts s.context

    abbrev z : Site
    z = at_flags looped starts s

    abbrev same : (want : ℕ) (e : Tree) → typed_expression z want e ≡ typed_expression s want e
    same want e = typed_same looped starts s want e

    pub inner : (e : Tree) (want : ℕ) → IsMeant s y e → made want → inside c false want e ≡ [] → Within y (typed_expression s want e)
    inner e want meant m none =
        subst (Within y) (same want e) (within z objects subs made laws profiled e want (meant_same looped starts s y e meant) m none)

    -- a source of a view, which may be what a traversal function gives
    source_inner : (e : Tree) (loose : Bool) (want : ℕ) → IsMeant s y e → made want → is_anonymous (full table want) ≡ true → inside c loose want e ≡ []
        → WithinSource y want (typed_expression s want e)
    source_inner e loose want meant m anonymous none =
        subst (WithinSource y want) (same want e)
        (source_within z objects subs made laws profiled e loose want (meant_same looped starts s y e meant) m (λ any. view_shown (full table want) anonymous) none)

    pub had : (e : Tree) (at : Where) (want : ℕ) → IsMeant s y e → made want → faults c at want e ≡ [] → Has y want (typed_expression s want e) × Within y (typed_expression s want e)
    had e at want meant m none = (has_at s objects subs made laws looped starts e at want meant m none, inner e want meant m (nil_right (around c at want e) _ none))

    -- Where a scalar type is demanded, and the text is typed for Integer.
    pub bound_had : (e : Tree) (t : ℕ) → IsMeant s y e → made t → is_scalar (full table t) ≡ true → faults c stands.Elsewhere t e ≡ []
        → Has y t (typed_expression s integer e) × Within y (typed_expression s integer e)
    bound_had e t meant m scalar none =
        let found = had e stands.Elsewhere t meant m none in
        let one = unwanted s e t integer (λ is. scalar_own_type s y e t meant found.0 scalar is) in
        (subst (Has y t) one found.0, subst (Within y) one found.1)

    -- ---- sources

    pub plain_source : (e : Tree) (want : ℕ) → IsMeant s y e → made want → faults c stands.Stored want e ≡ [] → Taken y want (typed_expression s want e) × WithinSource y want (typed_expression s want e)
    plain_source e want meant m none = let found = had e stands.Stored want meant m none in (inl found.0, plain_within y want (typed_expression s want e) found.1)

    pub viewed_source : (e : Tree) (want : ℕ) → IsMeant s y e → made want → is_anonymous (full table want) ≡ true → source_faults c want e ≡ []
        → Taken y want (typed_expression s want e) × WithinSource y want (typed_expression s want e)
    viewed_source e want meant m anonymous none = (
      subst (Taken y want) (same want e) (source_taken z objects subs made laws want m anonymous e (meant_same looped starts s y e meant) none),
      source_inner e true want meant m anonymous (source_inside c want e none),
    )

    pub returned_source : (e : Tree) (want : ℕ) → IsMeant s y e → made want → is_anonymous (full table want) ≡ true → return_source c want e ≡ []
        → Taken y want (typed_expression s want e) × WithinSource y want (typed_expression s want e)
    returned_source e want meant m anonymous none = (
      subst (Taken y want) (same want e) (return_taken z objects subs made laws want m anonymous e (meant_same looped starts s y e meant) none),
      source_inner e true want meant m anonymous (return_inside c want e none),
    )

    pub formal_given : (e : Tree) (want : ℕ) → IsMeant s y e → made want → is_anonymous (full table want) ≡ true → formal_source c want e ≡ []
        → Taken y want (typed_expression s want e) × WithinSource y want (typed_expression s want e)
    formal_given e want meant m anonymous none = (
      subst (Taken y want) (same want e) (formal_taken z objects subs made laws want m anonymous e (meant_same looped starts s y e meant) none),
      source_inner e (is_name e) want meant m anonymous (nil_right (demand 1 (position e) (source_fits c want e)) _ none),
    )

    -- What a traversal function returns.
    form : (want : ℕ) (e : Tree) → IsMeant z y e → return_source c want e ≡ [] → IsViewSource y (typed_expression z want e)
    unfolding typed_expression IsMeant
    form want (Null p) meant none = tt
    form want (Named p d rest) meant none =
        by (reading_of c d rest) refl (typed_steps z (object_type (entry_of c.known d)) rest) (typed_actuals z (called_function (reading_of c d rest)) rest) (typed_imaged z rest)
        (nil_left (source_name c want p (reading_of c d rest)) _ none)
      where
        by : (r : Reading) → reading_of c d rest ≡ r → (steps actuals imaged : TypedTree) → source_name c want p r ≡ [] → IsViewSource y (typed_name z p d r steps actuals imaged)
        by reading.Off is steps actuals imaged h = tt
        by (reading.Place t) is steps actuals imaged h = tt
        by (reading.Call f) is steps actuals imaged h =
            let found = call_read c d f rest is in
            let result_is : (profile_of (entry_of c.known f)).result ≡ Some found.1 = subst (λ k. (profile_of (entry_of c.known k)).result ≡ Some found.1) (sym found.0) found.2 in
            let entry_is = function_entry c.known f found.1 result_is in
            view_given z objects subs made laws profiled f (profiled f entry_is.0 entry_is.1)
            (and_left (is_traversal_call c.known (reading.Call f)) _ (holds 6 p (is_source c.known (reading.Call f) && keeps_constant c.known want (own_of c.known (reading.Call f)))
            (nil_right (demand 1 p (designates c want (own_of c.known (reading.Call f)))) _ h)))
        by (reading.Value t v) is steps actuals imaged h =
            absurd (let g = nil_right (demand 1 p (designates c want (own_of c.known (reading.Value t v)))) _ h in false≢true (ap is_free g))
        by (reading.Image t) is steps actuals imaged h = absurd (let g = nil_right (demand 1 p (designates c want (own_of c.known (reading.Image t)))) _ h in false≢true (ap is_free g))
        by reading.EndOfFile is steps actuals imaged h = absurd (let g = nil_right (demand 1 p (designates c want (own_of c.known reading.EndOfFile))) _ h in false≢true (ap is_free g))
    form want e meant none = absurd (let f = nil_left (K6 (position e)) _ (nil_right (demand 1 (position e) (source_fits c want e)) _ none) in false≢true (ap is_free f))

    pub returned_form : (e : Tree) (want : ℕ) → IsMeant s y e → return_source c want e ≡ [] → IsViewSource y (typed_expression s want e)
    returned_form e want meant none = subst (IsViewSource y) (same want e) (form want e (meant_same looped starts s y e meant) none)
