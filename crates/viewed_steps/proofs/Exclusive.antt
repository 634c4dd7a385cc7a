-- What a formal sees that a procedure changes through it: no view sees past it, and neither what another
-- such formal sees nor a place that the call takes meets it.
use Rattle.std.proofs.Common.{◌≡◌, refl, sym, ap, ◌∙◌, subst, ◌⊎◌, inl, inr, ℕ, Bool, true, false, not, ◌&&◌, List, [], ◌∷◌, ◌++◌, Some}
use Rattle.std.proofs.lemmas.Bool.{false≢true}
use Rattle.machine.specs.spark_base.Lists.{Has}
use Rattle.machine.specs.place_names.declared.fact.Fact.{Fact}
use Rattle.machine.specs.place_names.declared.fact.Fact.TheVariants.{Moved, Lent}
use Rattle.machine.specs.place_names.declared.rule.Loan.TheVariants.{Borrowed}
use Rattle.machine.specs.place_names.declared.act.Mode.{Mode}
use Rattle.machine.specs.place_names.declared.act.Mode.TheVariants as mode
use Rattle.machine.specs.type_definitions.declared.judgement.View.{View as TypeView}
use Rattle.machine.specs.type_definitions.declared.judgement.View.TheVariants as view
use Rattle.soundness.proofs.Lists.{Has-append_right}
use Rattle.machine.specs.place_names.Names.{Name as PlaceName, overlaps}
use Rattle.machine.specs.place_names.Reports.{Report}
use Rattle.machine.specs.place_names.Rules.{moved_or_lent, moved_or_borrowed}
use Rattle.machine.specs.typed_tree.Trees.{TypedTree, Name, More}
use Rattle.machine.specs.flow_paths.Objects.{Typing, object_at, is_named_access, is_variable_access, view_of}
use Rattle.machine.specs.Owners.{is_in}
use Rattle.machine.specs.flow_paths.Names.{Written, written, name_of}
use Rattle.machine.specs.flow_paths.Aliases.{overlap_reports}
use Rattle.machine.specs.flow_paths.Aliases as alias
use Rattle.soundness.specs.OwnedWays.Ways.{Step, Way, All, View, Under, Past, Named, AllowsAll, number_of}
use Rattle.soundness.specs.OwnedWays.Ways as ways
use Rattle.soundness.specs.Seen.{home}
use Rattle.soundness.proofs.Scalars.{acts}
use Rattle.soundness.specs.OwnedLoans.Views.{Around, Views, expand, Viewed}
use Rattle.soundness.proofs.OwnedLoans.Safe.{Unlent, Unborrowed, unlent_below, designated_over}
use Rattle.soundness.proofs.PlaceNames.{overlaps-sym}
use Rattle.soundness.proofs.OwnedLoans.Ways.{Meet}
use Rattle.soundness.specs.ViewedSoundness.Holds.{is_given, is_view, is_bundle, is_fixed, AllKeep, GoesBy}
use Rattle.viewed_steps.proofs.SeenApart.{seen_apart}
use Rattle.soundness.proofs.Contents.{bool_cases}
use Rattle.soundness.proofs.ViewedSoundness.Given.{lent_past, lent_past_part, lent_far, lent_beside}
use Rattle.viewed_steps.specs.Ready.{AreDifferent}
use Rattle.viewed_steps.proofs.Seeing.{IsClear, AreClear}
use Rattle.viewed_steps.specs.Sound.{IsCopiedBack}
use Rattle.viewed_steps.proofs.Lending.{IsNameOf, IsKeptApart, IsLentTo, named_has, lent_clear, lent_free, apart_listed, copies_of}

pub first_true : (a b : Bool) → a && b ≡ true → a ≡ true
first_true true b is = refl
first_true false b is = absurd (false≢true is)

pub second_true : (a b : Bool) → a && b ≡ true → b ≡ true
second_true true b is = is
second_true false b is = absurd (false≢true is)

pub mode_in : (how : Mode) → is_in how ≡ true → how ≡ mode.In
mode_in mode.In is = refl
mode_in how is = absurd (false≢true is)

-- A formal that is copied back, or is shown what its actual designates.
abbrev pub IsMet : Typing → ℕ → Type 0
IsMet s x = IsCopiedBack s x ⊎ (is_given s x ≡ true)

-- What is lent to a formal: it isn't seen only, nothing of it is moved or lent, and it doesn't overlap what is
-- passed for others that are copied back or shown.
pub record IsLentAs (s : Typing) (sees : ℕ → Bool) (facts : List Fact) (all : List alias.Passed) (y : ℕ) (m : Written) : Type 0 where
  pub of_in : (object_at s y).mode ≡ mode.In
  pub given : is_given s y ≡ true
  pub plain : sees m.name.root ≡ false
  pub clear : (f : Fact) → Has facts f → moved_or_lent m.name f ≡ true → ⊥
  pub apart : (b : alias.Passed) → Has all b → (y ≡ b.formal → ⊥) → IsMet s b.formal → overlaps m.name b.actual.name ≡ true → ⊥

-- So it is for each formal that is given and has no parts that see.
abbrev pub AreLent : Typing → (ℕ → Bool) → List Fact → List ℕ → TypedTree → Type 0
AreLent s sees facts formals actuals =
    (y : ℕ) → Has formals y → is_given s y ≡ true → is_bundle s y ≡ false → (m : Written) → IsNameOf formals actuals y m → IsLentAs s sees facts (alias.passed formals actuals) y m

-- So it is for each that changes what it sees.
abbrev pub ChangesLent : Typing → (ℕ → Bool) → List Fact → List ℕ → TypedTree → Type 0
ChangesLent s sees facts formals actuals =
    (y : ℕ) → Has formals y → is_given s y ≡ true → sees y ≡ false → (m : Written) → IsNameOf formals actuals y m
    → IsLentAs s sees facts (alias.passed formals actuals) y m

-- the rules on actuals say so where these formals are of named access types
pub are_lent : (s : Typing) (sees : ℕ → Bool) (facts : List Fact) (formals : List ℕ) (actuals : TypedTree) → AreDifferent formals
    → ((r : Report) → Has (overlap_reports s (alias.passed formals actuals)) r → ⊥)
    → AllowsAll facts (acts (copies_of s sees formals actuals)) → AllKeep (is_fixed s sees) (acts (copies_of s sees formals actuals))
    → ((y : ℕ) → Has formals y → is_given s y ≡ true → is_bundle s y ≡ false → IsLentTo s sees y) → ((y : ℕ) → is_bundle s y ≡ true → alias.is_scalar_formal s y ≡ false)
    → AreLent s sees facts formals actuals
are_lent s sees facts formals actuals differ none allowed keep lent many y has formal bare m of =
    let to = lent y has formal bare in
    let access = variable_named (view_of s y) to.access in
    record {
      of_in = to.of_in;
      given = formal;
      plain = lent_free s sees formals actuals keep y m of to;
      clear = lent_clear s sees formals actuals facts differ allowed none y m of to access;
      apart = λ b there other met over.
          apart_listed s sees (alias.passed formals actuals) none (record { formal = y; actual = m }) b of there other (inr access) (changed b.formal (named_has formals actuals b there) met) over;
    }
  where
    second : (a b : Bool) → a && b ≡ true → b ≡ true
    second true b e = e
    second false b e = absurd (false≢true e)

    variable_named : (w : TypeView) → is_named_access w ≡ true → is_variable_access w ≡ true
    variable_named (view.Access d c n) e = second n (not c) e
    variable_named w e = absurd (false≢true e)

    changed : (x : ℕ) → Has formals x → IsMet s x → IsKeptApart s sees x
    changed x there (inl back) = inl (inl back)
    changed x there (inr shown) = elim (bool_cases (is_bundle s x)) [
      | inl bundle ↦ inr (many x bundle)
      | inr bare ↦ inl (inr (variable_named (view_of s x) (lent x there shown bare).access))
    ]

-- nothing of it was moved, and nothing borrows it
pub lent_clears : (s : Typing) (sees : ℕ → Bool) (facts : List Fact) (formals : List ℕ) (actuals : TypedTree)
    → ((y : ℕ) → Has formals y → is_given s y ≡ true → (m : Written) → IsNameOf formals actuals y m → (f : Fact) → Has facts f → moved_or_borrowed m.name f ≡ true → ⊥)
    → AreClear s sees facts formals actuals
lent_clears s sees facts [] actuals clear = tt
lent_clears s sees facts (x ∷ formals) (More e rest) clear =
    (λ formal. first e (clear x (inl refl) formal), lent_clears s sees facts formals rest (λ y has formal m of. clear y (inr has) formal m (Has-append_right (alias.passed_as x (written e)) (alias.passed formals rest) (record { formal = y; actual = m }) of)))
  where
    first : (e : TypedTree) → ((m : Written) → Has (alias.passed_as x (written e) ++ alias.passed formals rest) (record { formal = x; actual = m }) → (f : Fact) → Has facts f → moved_or_borrowed m.name f ≡ true → ⊥)
        → IsClear s sees facts e
    first (Name p y path u) clear =
        let m : Written = record { pos = p; name = name_of y path; of = u } in λ w called plain. (
          λ h n has over. clear m (inl refl) (Lent Borrowed h n) has (subst (λ (z : PlaceName). overlaps n z ≡ true) called over),
          λ n has over. clear m (inl refl) (Moved n) has (subst (λ (z : PlaceName). overlaps n z ≡ true) called over),
        )
    first e clear = tt
lent_clears s sees facts (x ∷ formals) actuals clear = tt

-- The way of such a formal, with the name of its actual.
pub record IsFrom (s : Typing) (sees : ℕ → Bool) (frame : ℕ) (v : Views) (facts : List Fact) (all : List alias.Passed) (y : ℕ) (w : Way) : Type 0 where
  pub from : Way
  pub named : Named (home s frame) from
  pub leads : w ≡ expand v (All from)
  pub actual : Written
  pub of : Has all (record { formal = y; actual = actual })
  pub called : actual.name ≡ ways.name_of from
  pub lent : IsLentAs s sees facts all y actual

-- The way of a formal that sees, with the name of its actual.
pub record IsSeenFrom (s : Typing) (frame : ℕ) (v : Views) (all : List alias.Passed) (y : ℕ) (w : Way) : Type 0 where
  pub from : Way
  pub named : Named (home s frame) from
  pub there : Way
  pub begins : Under from there
  pub leads : w ≡ expand v there
  pub goes : GoesBy s v (number_of from) there
  pub actual : Written
  pub of : Has all (record { formal = y; actual = actual })
  pub called : actual.name ≡ ways.name_of from
  pub given : is_given s y ≡ true

module _ (s : Typing) (sees : ℕ → Bool) (frame : ℕ) (v : Views) (facts : List Fact) (all : List alias.Passed) (y : ℕ) (w : Way) (is : IsFrom s sees frame v facts all y w) where
  from_plain : sees (number_of is.from) ≡ false
  from_plain = ap (λ (z : PlaceName). sees z.root) (sym is.called) ∙ is.lent.plain

  from_unlent : Unlent facts is.from
  from_unlent l h n has over = is.lent.clear (Lent l h n) has (subst (λ (z : PlaceName). overlaps n z ≡ true) (sym is.called) over)

  -- no view of the frame goes past it, nor one of others
  pub from_past : (other : Around (home s frame)) (view : View) (viewed : Viewed (home s frame) sees other v view facts)
      → (x : ℕ) (k : Way) → v.way x ≡ Some k → Past w k → ⊥
  from_past other view viewed x k has past =
      lent_past s sees frame other v view facts viewed is.from is.named from_plain from_unlent x k has (subst (λ z. Past z k) is.leads past)

  pub from_past_part : (other : Around (home s frame)) (view : View) (viewed : Viewed (home s frame) sees other v view facts)
      → (x : ℕ) (q : List Step) (k : Way) → v.part_way x q ≡ Some k → Past w k → ⊥
  from_past_part other view viewed x q k has past =
      lent_past_part s sees frame other v view facts viewed is.from is.named from_plain from_unlent x q k has (subst (λ z. Past z k) is.leads past)

  pub from_far : (other : Around (home s frame)) (view : View) (viewed : Viewed (home s frame) sees other v view facts)
      → (k : Way) (n : ℕ) → other.kept k n → Past w k → ⊥
  from_far other view viewed k n keeps past =
      lent_far s sees frame other v view facts viewed is.from is.named from_plain from_unlent k n keeps (subst (λ z. Past z k) is.leads past)

  -- nor does what another one sees meet it
  pub from_apart : (other : Around (home s frame)) (view : View) (viewed : Viewed (home s frame) sees other v view facts)
      → ((x : ℕ) → sees x ≡ true → is_view s x ≡ true)
      → (z : ℕ) (u : Way) (to : IsSeenFrom s frame v all z u) → (sees to.actual.name.root ≡ false → Unborrowed facts to.from) → (z ≡ y → ⊥) → Under w u ⊎ Under u w → ⊥
  from_apart other view viewed views z u to free differ meets =
      seen_apart s sees frame other v view facts viewed (All is.from) is.named from_plain (unlent_below facts is.from from_unlent) views to.from to.there to.named to.begins to.goes
      (λ plain. free (ap (λ (q : PlaceName). sees q.root) to.called ∙ plain))
      (λ over. is.lent.apart (record { formal = z; actual = to.actual }) to.of (λ same. differ (sym same)) (inr to.given)
      (subst (λ (q : PlaceName). overlaps is.actual.name q ≡ true) (sym to.called) (subst (λ (q : PlaceName). overlaps q (ways.name_of to.from) ≡ true) (sym is.called)
      (overlaps-sym (ways.name_of is.from) (ways.name_of to.from) ∙ designated_over (ways.name_of to.from) is.from (overlaps-sym (ways.name_of to.from) (ways.name_of (All is.from)) ∙ over)))))
      (subst (λ q. Meet q (expand v to.there)) is.leads (subst (Meet w) to.leads meets))

  -- nor a place that is copied back to
  pub from_place : (other : Around (home s frame)) (view : View) (known : List Fact) (viewed : Viewed (home s frame) sees other v view known)
      → ((f : Fact) → Has known f → Has facts f) → (b : alias.Passed) → Has all b → IsCopiedBack s b.formal
      → (to : Way) → b.actual.name ≡ ways.name_of to → Named (home s frame) to → sees (number_of to) ≡ false → Unlent known to → Meet w (expand v to) → ⊥
  from_place other view known viewed less b has back to called named plain free meets =
      lent_beside s sees frame other v view known viewed is.from to is.named named from_plain plain
      (λ h n has_it over. from_unlent Borrowed h n (less (Lent Borrowed h n) has_it) over) (λ h n has_it over. free Borrowed h n has_it over)
      (λ over. is.lent.apart b has (λ same. back (ap (λ q. (object_at s q).mode) (sym same) ∙ is.lent.of_in)) (inl back)
      (subst (λ (q : PlaceName). overlaps is.actual.name q ≡ true) (sym called) (subst (λ (q : PlaceName). overlaps q (ways.name_of to) ≡ true) (sym is.called) over)))
      (subst (λ q. Meet q (expand v to)) is.leads meets)
