-- Which objects of the text are views, and where they stand, is the same by the text and as the program is laid out.
use Rattle.std.proofs.Common.{◌≡◌, refl, sym, ap, ◌∙◌, ◌⊎◌, inl, inr, ℕ, zero, suc, Bool, true, false, ◌&&◌, List, [], ◌∷◌, ◌++◌, map, get_or}
use Rattle.std.specs.Prelude.{flat_map}
use Rattle.std.proofs.lemmas.Bool.{true≢false}
use Rattle.machine.specs.type_definitions.Types.{Table, full}
use Rattle.machine.specs.typed_tree.declared.object.Object.{Object}
use Rattle.machine.specs.typed_tree.Programs.{TypedProgram, text_io}
use Rattle.machine.specs.flow_paths.Objects.{Typing, object_at, is_variable, is_borrower, is_borrowing, is_observer, is_observing, is_anonymous, view_of}
use Rattle.machine.specs.flow_paths.Laid.{Temporary, NamedSub, temporary_object, typing_of, flow_typing, flow_named, flow_program}
use Rattle.machine.specs.flow_paths.Scopes.{is_temporary}
use Rattle.machine.specs.flow_paths.Views.{scope_of}
use Rattle.soundness.specs.Sound.{is_temporary_object}
use Rattle.soundness.proofs.Typings.{Agree, flow_agrees}
use Rattle.soundness.proofs.Parted.{by_either}

-- After the objects of the text come temporaries.
object_there : (xs : List Object) (ts : List Temporary) (x : ℕ)
    → (get_or (xs ++ map temporary_object ts) x text_io ≡ get_or xs x text_io)
    ⊎ ((is_temporary (get_or (xs ++ map temporary_object ts) x text_io).kind ≡ true) × ((get_or (xs ++ map temporary_object ts) x text_io).scope ≡ 0)
    × (get_or xs x text_io ≡ text_io))
object_there [] [] x = inl refl
object_there [] (t ∷ ts) zero = inr (refl, refl, refl)
object_there [] (t ∷ ts) (suc x) = object_there [] ts x
object_there (o ∷ xs) ts zero = inl refl
object_there (o ∷ xs) ts (suc x) = object_there xs ts x

abbrev temporaries_of : NamedSub → List Temporary
temporaries_of named = named.temporaries

false_and : (a b : Bool) → a ≡ false → a && b ≡ false
false_and true b e = let no : true ≡ false = e in absurd (true≢false no)
false_and false b e = refl

module _ (table : Table) (typed : TypedProgram) where
  abbrev s : Typing
  s = flow_typing (flow_program table typed)

  abbrev own : Typing
  own = typing_of table typed

  alike : Agree s own
  alike = flow_agrees table typed

  -- An object is as the text has it, or a temporary in scope 0, where the text has Ada.Text_IO.
  object_or : (x : ℕ) → (object_at s x ≡ object_at own x)
      ⊎ ((is_temporary_object s x ≡ true) × ((object_at s x).scope ≡ 0) × (object_at own x ≡ text_io))
  unfolding flow_program
  object_or x = object_there typed.objects (flat_map temporaries_of (flow_named table typed)) x

  -- what is no temporary is a view where the text has one
  pub as_text : (x : ℕ) → is_temporary_object s x ≡ false → object_at s x ≡ object_at own x
  as_text x lasts = by_either (object_or x) (λ same. (same)) (λ (temporary, scope, none). (let no : true ≡ false = sym temporary ∙ lasts in absurd (true≢false no)))

  pub anonymous_same : (x : ℕ) → is_temporary_object s x ≡ false → is_anonymous (view_of s x) ≡ is_anonymous (view_of own x)
  anonymous_same x lasts = (λ j. is_anonymous (full (alike.table j) (as_text x lasts j).of))

  pub observer_same : (x : ℕ) → is_observer s x ≡ is_observer own x
  observer_same x = elim (alike.object x) [
    | inl same ↦ (λ j. is_variable (same j).kind && is_observing (full (alike.table j) (same j).of))
    | inr others ↦ false_and (is_variable (object_at s x).kind) (is_observing (view_of s x)) others.0.0
        ∙ sym (false_and (is_variable (object_at own x).kind) (is_observing (view_of own x)) others.1.0)
  ]

  pub borrower_same : (x : ℕ) → is_borrower s x ≡ is_borrower own x
  borrower_same x = elim (alike.object x) [
    | inl same ↦ (λ j. is_variable (same j).kind && is_borrowing (full (alike.table j) (same j).of))
    | inr others ↦ false_and (is_variable (object_at s x).kind) (is_borrowing (view_of s x)) others.0.0
        ∙ sym (false_and (is_variable (object_at own x).kind) (is_borrowing (view_of own x)) others.1.0)
  ]

  pub scope_same : (x : ℕ) → scope_of s x ≡ scope_of own x
  scope_same x = by_either (object_or x) (λ same. (ap (λ (o : Object). o.scope) same)) (λ (temporary, scope, none). (scope ∙ sym (ap (λ (o : Object). o.scope) none)))
