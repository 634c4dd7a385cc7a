-- What is passed first to a traversal function has no act of its own. Nothing of it is moved or borrowed, so one as for
-- formals of other functions would be allowed, and would change no fact.
use Rattle.std.proofs.Common.{◌≡◌, refl, sym, ap, ◌∙◌, subst, inl, inr, ℕ, Bool, true, false, List, [], ◌∷◌, ◌++◌, append_assoc, append-nil}
use Rattle.std.proofs.lemmas.Bool.{false≢true}
use Rattle.machine.specs.spark_base.Lists.{Has}
use Rattle.machine.specs.place_names.declared.selector.Sel.{Sel}
use Rattle.machine.specs.place_names.declared.selector.Sel.TheVariants as sel
use Rattle.machine.specs.place_names.Names.{Name as PlaceName}
use Rattle.machine.specs.place_names.Rules.{breaks_O6, forbidden_if}
use Rattle.machine.specs.place_names.declared.act.Act.TheVariants as act
use Rattle.machine.specs.place_names.declared.act.Mode.TheVariants as mode
use Rattle.machine.specs.place_names.declared.fact.Fact.{Fact}
use Rattle.machine.specs.place_names.declared.fact.Fact.TheVariants.{Moved, Lent}
use Rattle.machine.specs.place_names.declared.rule.Loan.TheVariants.{Borrowed, Observed}
use Rattle.machine.specs.place_names.declared.rule.Rule.TheVariants.{O10}
use Rattle.machine.specs.type_definitions.Types.{is_owning}
use Rattle.machine.specs.typed_tree.Trees.{TypedTree, Name}
use Rattle.machine.specs.flow_paths.Objects.{Typing, object_at, passing, passing_by}
use Rattle.machine.specs.flow_paths.Acts.{actual_act}
use Rattle.soundness.specs.OwnedWays.Ways.{OfVariable, Way, Object, Into, All, Component, Element, Allows, AllowsAll, after}
use Rattle.soundness.specs.OwnedWays.Ways as ways
use Rattle.soundness.proofs.Contents.{bool_cases}
use Rattle.soundness.proofs.Scalars.{acts}
use Rattle.soundness.proofs.OwnedLoans.Allowed.{Cleared}
use Rattle.viewed_steps.specs.Traversals.{TraversalCall, traversed_name}
use Rattle.viewed_steps.proofs.Clear.{head_keeps}

-- ---- each name is that of a way

goes_by : Way → List Sel → Way
goes_by w [] = w
goes_by w (sel.Field i ∷ rest) = goes_by (Into w (Component i)) rest
goes_by w (sel.Elem ∷ rest) = goes_by (Into w (Element 0)) rest
goes_by w (sel.Deref ∷ rest) = goes_by (All w) rest

goes_root : (w : Way) (rest : List Sel) → ways.number_of (goes_by w rest) ≡ ways.number_of w
unfolding goes_by
goes_root w [] = refl
goes_root w (sel.Field i ∷ rest) = goes_root (Into w (Component i)) rest
goes_root w (sel.Elem ∷ rest) = goes_root (Into w (Element 0)) rest
goes_root w (sel.Deref ∷ rest) = goes_root (All w) rest

goes_sels : (w : Way) (rest : List Sel) → ways.sels_of (goes_by w rest) ≡ ways.sels_of w ++ rest
unfolding goes_by
goes_sels w [] = sym (append-nil (ways.sels_of w))
goes_sels w (sel.Field i ∷ rest) = goes_sels (Into w (Component i)) rest ∙ append_assoc (ways.sels_of w) (sel.Field i ∷ []) rest
goes_sels w (sel.Elem ∷ rest) = goes_sels (Into w (Element 0)) rest ∙ append_assoc (ways.sels_of w) (sel.Elem ∷ []) rest
goes_sels w (sel.Deref ∷ rest) = goes_sels (All w) rest ∙ append_assoc (ways.sels_of w) (sel.Deref ∷ []) rest

goes_at : (home : ℕ → ℕ) (w : Way) (rest : List Sel) → ways.Named home w → ways.Named home (goes_by w rest)
unfolding goes_by
goes_at home w [] named = named
goes_at home w (sel.Field i ∷ rest) named = goes_at home (Into w (Component i)) rest named
goes_at home w (sel.Elem ∷ rest) named = goes_at home (Into w (Element 0)) rest named
goes_at home w (sel.Deref ∷ rest) named = goes_at home (All w) rest named

pub way_at : (home : ℕ → ℕ) (m : PlaceName) → (w : Way) × ways.Named home w × (ways.name_of w ≡ m)
way_at home m =
    let begin : Way = Object (OfVariable (home m.root) m.root) in
    (goes_by begin m.sels, goes_at home begin m.sels refl, λ j. record { root = goes_root begin m.sels j; sels = goes_sels begin m.sels j })

pub way_named : (m : PlaceName) → (w : Way) × (ways.name_of w ≡ m)
way_named m = (let at = way_at (λ x. 0) m in (at.0, at.2))

-- ---- the act

cleared_breaks : (facts : List Fact) (u : Way) → Cleared facts u → (f : Fact) → Has facts f → breaks_O6 (ways.name_of u) f ≡ true → ⊥
cleared_breaks facts u clear (Moved n) has breaks = clear.1 n has breaks
cleared_breaks facts u clear (Lent Borrowed h n) has breaks = clear.0 h n has breaks
cleared_breaks facts u clear (Lent Observed h n) has breaks = absurd (false≢true breaks)

pub cleared_actual : (facts : List Fact) (u : Way) → Cleared facts u → Allows facts (act.Actual (ways.name_of u) mode.In true false)
cleared_actual facts u clear f has = elim (bool_cases (breaks_O6 (ways.name_of u) f)) [
  | inl breaks ↦ absurd (cleared_breaks facts u clear f has breaks)
  | inr none ↦ ap (λ b. forbidden_if b O10 (ways.name_of u) f) none
]

module _ (s : Typing) (sees : ℕ → Bool) (c : TraversalCall) where
  abbrev first : TypedTree
  first = Name c.name_pos c.root c.path c.of

  by_owning : (facts : List Fact) (owning : Bool) → ((u : Way) → ways.name_of u ≡ traversed_name c → Cleared facts u)
      → AllowsAll facts (acts (actual_act (passing_by mode.In owning false) first))
  by_owning facts false clear = tt
  by_owning facts true clear =
      let named = way_named (traversed_name c) in
      (subst (λ m. Allows facts (act.Actual m mode.In true false)) named.1 (cleared_actual facts named.0 (clear named.0 named.1)), tt)

  by_mode : (f : ℕ) → (object_at s f).mode ≡ mode.In
      → acts (actual_act (passing s false f) first) ≡ acts (actual_act (passing_by mode.In (is_owning s.table (object_at s f).of) false) first)
  by_mode f is = ap (λ z. acts (actual_act (passing_by z (is_owning s.table (object_at s f).of) false) first)) is

  pub first_allowed : (facts : List Fact) (f : ℕ) → (object_at s f).mode ≡ mode.In → ((u : Way) → ways.name_of u ≡ traversed_name c → Cleared facts u)
      → AllowsAll facts (acts (actual_act (passing s false f) first))
  first_allowed facts f is clear = subst (AllowsAll facts) (sym (by_mode f is)) (by_owning facts (is_owning s.table (object_at s f).of) clear)

  pub first_keeps : (facts : List Fact) (f : ℕ) → (object_at s f).mode ≡ mode.In → after (acts (actual_act (passing s false f) first)) facts ≡ facts
  first_keeps facts f is = ap (λ z. after z facts) (by_mode f is) ∙ head_keeps s sees false (is_owning s.table (object_at s f).of) false first facts
