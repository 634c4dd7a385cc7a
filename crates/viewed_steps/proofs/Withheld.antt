-- What a frame keeps from what it calls.
use Rattle.std.proofs.Common.{◌≡◌, refl, sym, ap, ◌∙◌, ◌⊎◌, inl, inr, ℕ, Bool, true, false, not, ◌||◌, ◌==◌, eqb-true, eq-eqb, List, [], ◌∷◌, filter, if◌then◌else◌, subst}
use Rattle.std.specs.Prelude.{map, flat_map}
use Rattle.std.specs.List.{list_any}
use Rattle.std.proofs.lemmas.Bool.{false≢true}
use Rattle.machine.specs.spark_base.Lists.{Has}
use Rattle.soundness.proofs.Lists.{Has-append_left, Has-append_right, Has-append_cases, Has-map, Has-map_from, Has-filter, Has-filter_passes}
use Rattle.machine.specs.place_names.declared.fact.Fact.{Fact}
use Rattle.machine.specs.place_names.declared.fact.Fact.TheVariants.{Moved, Lent}
use Rattle.machine.specs.place_names.declared.rule.Loan.{Loan}
use Rattle.machine.specs.place_names.Names.{Name, object}
use Rattle.machine.specs.place_names.Facts.{place}
use Rattle.machine.specs.flow_paths.declared.report.Effects.{Effects}
use Rattle.machine.specs.flow_paths.Effects.{written_by}
use Rattle.machine.specs.flow_paths.Laid.{FlowProgram}
use Rattle.soundness.specs.OwnedWays.Ways.{Way, number_of, Loc, OfRoot, OfVariable, OfHand, OfCell, Inside, base_of}
use Rattle.soundness.proofs.Contents.{bool_cases}
use Rattle.soundness.proofs.Used.{any_has}
use Rattle.viewed_steps.specs.Taken.{Lodge}
use Rattle.viewed_steps.specs.Sound.{ViewStage, known_at, passed_roots, is_passed, withheld, shared_root}
use Rattle.viewed_steps.proofs.Whole.{flat_has}
use Rattle.viewed_steps.proofs.Constructors.{is_moved_fact}
use Rattle.soundness.proofs.Parted.{by_either}

any_root : (ys : List ℕ) (x : ℕ) → list_any (λ y. y == x) ys ≡ true → Has ys x
any_root [] x e = absurd (false≢true e)
any_root (y ∷ ys) x e = elim (bool_cases (y == x)) [
  | inl same ↦ inl (eqb-true y x same)
  | inr other ↦ inr (any_root ys x (sym (ap (λ b. b || list_any (λ z. z == x) ys) other) ∙ e))
]

pub flat_from : {A B : Type 0} (f : A → List B) (xs : List A) (y : B) → Has (flat_map f xs) y → (x : A) × Has xs x × Has (f x) y
flat_from f [] y h = absurd h
flat_from f (x ∷ xs) y h = elim (Has-append_cases (f x) (flat_map f xs) y h) [
  | inl mine ↦ (x, inl refl, mine)
  | inr later ↦ (let found = flat_from f xs y later in (found.0, inr found.1, found.2))
]

true_or_not : (b : Bool) → b ≡ true → not b ≡ true → ⊥
true_or_not true e n = absurd (false≢true n)
true_or_not false e n = absurd (false≢true e)

module _ (program : FlowProgram) (effects : Effects) (g : ViewStage) where
  -- a fact on an object that isn't passed, or such an object
  pub kept_cases : (f : Fact) → Has (withheld program effects g) f
      → (Has (known_at program effects g.stage) f × (Has (passed_roots effects g) (place f).root → ⊥))
      ⊎ ((y : ℕ) × Has (passed_roots effects g) y × (f ≡ Moved (object y)))
  kept_cases f has =
      elim (Has-append_cases (filter (λ f. not (is_passed effects g f)) (known_at program effects g.stage)) (map (λ y. Moved (object y)) (passed_roots effects g)) f has) [
        | inl fact ↦ (
            let both = Has-filter (λ f. not (is_passed effects g f)) (known_at program effects g.stage) f fact in
            inl (both.0, λ passed. true_or_not (is_passed effects g f) (any_has (λ y. y == (place f).root) (passed_roots effects g) (place f).root passed (eq-eqb (place f).root (place f).root refl)) both.1))
        | inr root ↦ (let from = Has-map_from (λ y. Moved (object y)) (passed_roots effects g) f root in inr (from.0, from.1, sym from.2))
      ]

  pub kept_root : (y : ℕ) → Has (passed_roots effects g) y → Has (withheld program effects g) (Moved (object y))
  kept_root y has =
      Has-append_right (filter (λ f. not (is_passed effects g f)) (known_at program effects g.stage)) (map (λ y. Moved (object y)) (passed_roots effects g)) (Moved (object y))
      (Has-map (λ y. Moved (object y)) (passed_roots effects g) y has)

  pub kept_fact : (f : Fact) → Has (known_at program effects g.stage) f → Has (withheld program effects g) f ⊎ Has (passed_roots effects g) (place f).root
  kept_fact f has = elim (bool_cases (is_passed effects g f)) [
    | inl passed ↦ inr (any_root (passed_roots effects g) (place f).root passed)
    | inr other ↦ inl (Has-append_left (filter (λ f. not (is_passed effects g f)) (known_at program effects g.stage)) (map (λ y. Moved (object y)) (passed_roots effects g)) f
        (Has-filter_passes (λ f. not (is_passed effects g f)) (known_at program effects g.stage) f has (ap not other)))
  ]

  -- its loans are those of facts
  pub kept_loan : (l : Loan) (h : ℕ) (n : Name) → Has (withheld program effects g) (Lent l h n)
      → Has (known_at program effects g.stage) (Lent l h n) × (Has (passed_roots effects g) n.root → ⊥)
  kept_loan l h n has = by_either (kept_cases (Lent l h n) has)
      (λ fact. (fact))
      (λ (y, passed, is). (let no : Lent l h n ≡ Moved (object y) = is in absurd (false≢true (ap is_moved_fact no))))

-- what is taken, and cells, are of such objects
at_first_root : (l : Loc) (y : ℕ) → l ≡ OfRoot (OfVariable 0 y) → Has (shared_root l) y
at_first_root l y is = subst (λ z. Has (shared_root z) y) (sym is) (inl refl)

from_first_root : (l : Loc) (y : ℕ) → Has (shared_root l) y → l ≡ OfRoot (OfVariable 0 y)
from_first_root (OfRoot (OfVariable f z)) y has = by_frame (f == 0) refl has
  where
    by_frame : (b : Bool) → f == 0 ≡ b → Has (if b then z ∷ [] else []) y → OfRoot (OfVariable f z) ≡ OfRoot (OfVariable 0 y)
    by_frame true e (inl same) = (λ j. OfRoot (OfVariable (eqb-true f 0 e j) (same j)))
    by_frame true e (inr never) = absurd never
    by_frame false e never = absurd never
from_first_root (OfRoot (OfHand h)) y has = absurd has
from_first_root (OfCell n) y has = absurd has
from_first_root (Inside l i) y has = absurd has

abbrev written_roots : Effects → ViewStage → ℕ → Bool
written_roots effects g y = list_any (λ z. z == y) (written_by effects g.stage.frame.sub)

pub taken_passed : (effects : Effects) (g : ViewStage) (to : Way) (y : ℕ) → Has g.stage.returns to → base_of to ≡ OfRoot (OfVariable 0 y)
    → Has (written_by effects g.stage.frame.sub) y → Has (passed_roots effects g) y
taken_passed effects g to y has base written =
    Has-append_left (filter (written_roots effects g) (flat_map (λ (to : Way). shared_root (base_of to)) g.stage.returns)) (map (λ (c : Lodge). number_of c.name) g.cells) y
    (Has-filter_passes (written_roots effects g) (flat_map (λ (to : Way). shared_root (base_of to)) g.stage.returns) y
    (flat_has (λ (to : Way). shared_root (base_of to)) g.stage.returns to y has (at_first_root (base_of to) y base))
    (any_has (λ z. z == y) (written_by effects g.stage.frame.sub) y written (eq-eqb y y refl)))

pub cell_passed : (effects : Effects) (g : ViewStage) (c : Lodge) → Has g.cells c → Has (passed_roots effects g) (number_of c.name)
cell_passed effects g c has =
    Has-append_right (filter (written_roots effects g) (flat_map (λ (to : Way). shared_root (base_of to)) g.stage.returns)) (map (λ (c : Lodge). number_of c.name) g.cells) (number_of c.name)
    (Has-map (λ (c : Lodge). number_of c.name) g.cells c has)

pub passed_from : (effects : Effects) (g : ViewStage) (y : ℕ) → Has (passed_roots effects g) y
    → ((to : Way) × Has g.stage.returns to × (base_of to ≡ OfRoot (OfVariable 0 y)) × Has (written_by effects g.stage.frame.sub) y)
    ⊎ ((c : Lodge) × Has g.cells c × (number_of c.name ≡ y))
passed_from effects g y has =
    elim (Has-append_cases (filter (written_roots effects g) (flat_map (λ (to : Way). shared_root (base_of to)) g.stage.returns)) (map (λ (c : Lodge). number_of c.name) g.cells) y has) [
      | inl taken ↦ (
          let both = Has-filter (written_roots effects g) (flat_map (λ (to : Way). shared_root (base_of to)) g.stage.returns) y taken in
          let found = flat_from (λ (to : Way). shared_root (base_of to)) g.stage.returns y both.0 in
          inl (found.0, found.1, from_first_root (base_of found.0) y found.2, any_root (written_by effects g.stage.frame.sub) y both.1))
      | inr cell ↦ inr (Has-map_from (λ (c : Lodge). number_of c.name) g.cells y cell)
    ]
