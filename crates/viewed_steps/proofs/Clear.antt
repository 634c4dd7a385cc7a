-- What is shown to formals that own nothing is neither moved nor borrowed: the acts of the call ask so.
use Rattle.std.proofs.Common.{◌≡◌, refl, sym, ap, ◌∙◌, subst, inl, inr, ℕ, Bool, true, false, ◌&&◌, List, [], ◌∷◌, map, Option, Some, None}
use Rattle.std.proofs.lemmas.Bool.{false≢true, true≢false}
use Rattle.machine.specs.spark_base.Lists.{Has}
use Rattle.machine.specs.place_names.declared.act.Act.TheVariants as act
use Rattle.machine.specs.place_names.declared.act.Mode.{Mode}
use Rattle.machine.specs.place_names.declared.act.Mode.TheVariants as mode
use Rattle.machine.specs.place_names.declared.act.Placed.{Placed}
use Rattle.machine.specs.place_names.declared.fact.Fact.{Fact}
use Rattle.machine.specs.place_names.declared.fact.Fact.TheVariants.{Moved, Lent}
use Rattle.machine.specs.place_names.declared.rule.Loan.TheVariants.{Borrowed}
use Rattle.machine.specs.place_names.declared.rule.Rule.TheVariants.{O10}
use Rattle.machine.specs.place_names.Rules.{breaks_O10}
use Rattle.machine.specs.type_definitions.Types.{is_owning}
use Rattle.machine.specs.typed_tree.Trees.{TypedTree, Name, More}
use Rattle.machine.specs.flow_paths.Objects.{Typing, object_at, is_anonymous, is_named_access, view_of, passing, passing_by}
use Rattle.machine.specs.flow_paths.Names.{Written, written}
use Rattle.machine.specs.flow_paths.Acts.{naming, actual_act, actual_acts}
use Rattle.machine.specs.Owners.{is_in_formal}
use Rattle.soundness.specs.OwnedWays.Ways.{Way, Allows, AllowsAll, after}
use Rattle.soundness.specs.OwnedWays.Ways as ways
use Rattle.soundness.proofs.OwnedLoans.Clear.{refused}
use Rattle.soundness.proofs.Scalars.{acts, acts_append, allows_both, read_effect}
use Rattle.soundness.proofs.OwnedLoans.Allowed.{Cleared}
use Rattle.soundness.specs.ViewedSoundness.Holds.{is_given}
use Rattle.viewed_steps.proofs.Seeing.{IsClear, AreClear}
use Rattle.viewed_steps.proofs.Views.{AreUnseen, given_cases}

actual_clears : (facts : List Fact) (access : Bool) (u : Way) → Allows facts (act.Actual (ways.name_of u) mode.In true access) → Cleared facts u
actual_clears facts false u allowed = (
  λ h n has over. refused (breaks_O10 (ways.name_of u) mode.In true false (Lent Borrowed h n)) O10 (ways.name_of u) (Lent Borrowed h n) over (allowed (Lent Borrowed h n) has),
  λ n has over. refused (breaks_O10 (ways.name_of u) mode.In true false (Moved n)) O10 (ways.name_of u) (Moved n) over (allowed (Moved n) has),
)
actual_clears facts true u allowed = (
  λ h n has over. refused (breaks_O10 (ways.name_of u) mode.In true true (Lent Borrowed h n)) O10 (ways.name_of u) (Lent Borrowed h n) over (allowed (Lent Borrowed h n) has),
  λ n has over. refused (breaks_O10 (ways.name_of u) mode.In true true (Moved n)) O10 (ways.name_of u) (Moved n) over (allowed (Moved n) has),
)

second_true : (a b : Bool) → a && b ≡ true → b ≡ true
second_true true b e = e
second_true false b e = absurd (false≢true e)

module _ (s : Typing) (sees : ℕ → Bool) (procedure : Bool) where
  abbrev copies_of : List ℕ → TypedTree → List Placed
  copies_of formals actuals = actual_acts (map (passing s procedure) formals) actuals

  naming_sees : (w : Option Written) (access : Bool) (facts : List Fact) → after (acts (naming w (λ k. act.Actual k mode.In true access))) facts ≡ facts
  naming_sees None access facts = refl
  naming_sees (Some w) access facts = read_effect w.name facts

  -- those of mode `in` change no fact
  pub head_keeps : (owning access : Bool) (e : TypedTree) (facts : List Fact) → after (acts (actual_act (passing_by mode.In owning access) e)) facts ≡ facts
  head_keeps false access e facts = refl
  head_keeps true access e facts = naming_sees (written e) access facts

  head_clears : (owning access : Bool) (e : TypedTree) (facts : List Fact) → owning ≡ true → AllowsAll facts (acts (actual_act (passing_by mode.In owning access) e)) → IsClear s sees facts e
  head_clears false access e facts owns allowed = (let no : false ≡ true = owns in absurd (false≢true no))
  head_clears true access (Name p y path u) facts owns allowed =
      λ w called plain. actual_clears facts access w (subst (λ z. Allows facts (act.Actual z mode.In true access)) (sym called) allowed.0)
  head_clears true access e facts owns allowed = tt

  owns_there : (x : ℕ) → is_anonymous (view_of s x) ≡ false → is_given s x ≡ true → is_owning s.table (object_at s x).of ≡ true
  owns_there x unseen given = elim (given_cases s x given) [
    | inl formal ↦ second_true (is_in_formal s x) (is_owning s.table (object_at s x).of) formal
    | inr anonymous ↦ (let no : true ≡ false = sym anonymous ∙ unseen in absurd (true≢false no))
  ]

  pub all_clear : (formals : List ℕ) (actuals : TypedTree) (facts : List Fact) → AreUnseen s formals → ((x : ℕ) → Has formals x → (object_at s x).mode ≡ mode.In)
      → AllowsAll facts (acts (copies_of formals actuals)) → AreClear s sees facts formals actuals
  all_clear [] actuals facts unseen modes allowed = tt
  all_clear (x ∷ formals) (More e rest) facts unseen modes allowed =
      let owning : Bool = is_owning s.table (object_at s x).of in
      let access : Bool = procedure && is_named_access (view_of s x) in
      let each = allows_both facts (acts (actual_act (passing s procedure x) e)) (acts (copies_of formals rest))
      (subst (AllowsAll facts) (acts_append (actual_act (passing s procedure x) e) (copies_of formals rest)) allowed) in
      let by_mode : (how : Mode) → (object_at s x).mode ≡ how → acts (actual_act (passing s procedure x) e) ≡ acts (actual_act (passing_by how owning access) e) =
      (λ how is. ap (λ z. acts (actual_act (passing_by z owning access) e)) is) in
      let is = by_mode mode.In (modes x (inl refl)) in (
        (λ given. head_clears owning access e facts (owns_there x (unseen x (inl refl)) given) (subst (AllowsAll facts) is each.0)),
        all_clear formals rest facts (λ y has. unseen y (inr has)) (λ y has. modes y (inr has))
            (subst (λ z. AllowsAll z (acts (copies_of formals rest))) (ap (λ z. after z facts) is ∙ head_keeps owning access e facts) each.1),
      )
  all_clear (x ∷ formals) actuals facts unseen modes allowed = tt
