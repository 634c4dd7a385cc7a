-- The end of a variable or of a hand keeps the ways of views that don't begin there.
use Rattle.std.proofs.Common.{◌≡◌, refl, sym, ap, ◌∙◌, subst, ◌⊎◌, inl, inr, ℕ, Bool, true, false, not, ◌==◌, eqb-true, eq-eqb, List, [], ◌∷◌, ◌++◌, Some, None, is_some}
use Rattle.std.specs.List.{filter}
use Rattle.std.proofs.lemmas.Bool.{false≢true, true≢false}
use Rattle.machine.specs.spark_base.Lists.{Has}
use Rattle.spark_base.proofs.Lists.{Has-append_cases, Has-filter, Has-filter_passes}
use Rattle.machine.specs.place_names.declared.rule.Loan.{Loan}
use Rattle.machine.specs.place_names.declared.rule.Loan.TheVariants.{Borrowed}
use Rattle.machine.specs.place_names.Names.{Name}
use Rattle.machine.specs.place_names.declared.act.Act.{Act}
use Rattle.machine.specs.place_names.declared.act.Act.TheVariants.{EndScope}
use Rattle.machine.specs.place_names.declared.fact.Fact.{Fact}
use Rattle.machine.specs.place_names.declared.fact.Fact.TheVariants.{Moved, Lent}
use Rattle.machine.specs.place_names.Facts.{belongs_to, effect}
use Rattle.soundness.specs.OwnedWays.Ways.{Step, Root, OfVariable, OfHand, Loc, OfRoot, OfCell, Way, Object, Lost, Into, All, Empty, Held, View, part, along, Below, Reaches, Owned, IsDrop, base_of, number_of, name_of, Named, IsMoved, Excused, Sound}
use Rattle.soundness.proofs.OwnedWays.Locations.{same_loc, reaches_along}
use Rattle.soundness.proofs.OwnedWays.Unique.{one_way}
use Rattle.soundness.proofs.OwnedWays.Assigned.{kept_fact, is_false}
use Rattle.soundness.proofs.OwnedWays.Named.{longer}
use Rattle.soundness.proofs.OwnedWays.Dropped.{named_base, dropped, left}
use Rattle.soundness.specs.OwnedLoans.Views.{Views, Around, expand, IsMovedBy, ExcusedBy, HasLoan, Viewed, InPart}
use Rattle.soundness.proofs.OwnedLoans.Ways.{base_on, home_or_foreign, lifts, lifted_root, lifted_way, part_root}
use Rattle.soundness.proofs.OwnedLoans.Clear.{before_or_new, clear_same}
use Rattle.soundness.proofs.OwnedLoans.Moves.{view_rooted, reached, view_on, parts_on, moved_parts, as_sound, all_known}
use Rattle.soundness.proofs.Constructors.{is_empty_word}
use Rattle.soundness.proofs.Parted.{by_either}

along_base : (w : Way) (p : List Step) → base_of (along w p) ≡ base_of w
along_base w [] = refl
along_base w (i ∷ p) = along_base w p

-- what has a number then had it before
drop_held : (s t : View) (r : Root) → IsDrop s t r → (l : Loc) (c : ℕ) → t.word l ≡ Held c → s.word l ≡ Held c
drop_held s t r d l c held =
    let outside : Below (OfRoot r) l → ⊥ = λ b. (let is : Held c ≡ Empty = sym held ∙ ap t.word b.1 ∙ d.empty b.0 in absurd (false≢true (ap is_empty_word is))) in
    sym (d.off l outside) ∙ held

-- a way that doesn't begin at a root that ends reaches what it reached
drop_reaches : (s t : View) (r : Root) → Owned s → IsDrop s t r → (w : Way) (l : Loc) → Reaches s w l → (base_of w ≡ OfRoot r → ⊥) → Reaches t w l
drop_reaches s t r owned d (Object x) l reach off = reach
drop_reaches s t r owned d (Lost n) l reach off = (d.keeps n reach.0, reach.1)
drop_reaches s t r owned d (Into w i) l (m, reach, e) off = (m, drop_reaches s t r owned d w m reach off, e)
drop_reaches s t r owned d (All w) l (m, n, reach, h, e) off =
    let outside : Below (OfRoot r) m → ⊥ = λ b. (
    let same = one_way s owned w (along (Object r) b.0) m reach
    (subst (Reaches s (along (Object r) b.0)) (sym b.1) (reaches_along s (Object r) (OfRoot r) b.0 refl)) in
    off (ap base_of same ∙ along_base (Object r) b.0)) in
    (m, n, drop_reaches s t r owned d w m reach off, d.off m outside ∙ h, e)

pub number_base : (w : Way) (f y : ℕ) → base_of w ≡ OfRoot (OfVariable f y) → number_of w ≡ y
number_base (Object (OfVariable g z)) f y e = cc
number_base (Object (OfHand h)) f y e = cc
number_base (Lost n) f y e = cc
number_base (Into w i) f y e = number_base w f y e
number_base (All w) f y e = number_base w f y e

variable_hand : (f x h : ℕ) → OfRoot (OfVariable f x) ≡ OfRoot (OfHand h) → ⊥
variable_hand f x h e = cc

same_frame : (f g x y : ℕ) → OfRoot (OfVariable f x) ≡ OfRoot (OfVariable g y) → (f ≡ g) × (x ≡ y)
same_frame f g x y e = (cc, cc)

same_variable : (f g x y : ℕ) → OfRoot (OfVariable f x) ≡ OfRoot (OfVariable g y) → x ≡ y
same_variable f g x y e = cc

module _ (home : ℕ → ℕ) (observer : ℕ → Bool) (other : Around home) (v : Views) where
  -- a hand ends
  pub hand_left : (s t : View) (h : ℕ) (facts : List Fact) → Viewed home observer other v s facts → IsDrop s t (OfHand h)
      → Viewed home observer other v t facts
  hand_left s t h facts viewed d =
      let sound = left home (ExcusedBy home v other facts) s t (OfHand h) [] (as_sound home observer other v s facts viewed) d in record {
        owned = sound.owned;
        covered = sound.covered;
        known = all_known home observer other v t facts sound.known;
        clear = viewed.clear;
        views = (
          λ x w has. (let view = viewed.views.0 x w has in
              let root = view_rooted home observer other v s facts viewed.views x w has in
              view_on home observer other v s t facts facts x w view (λ seen n loan. loan)
              (drop_reaches s t (OfHand h) viewed.owned d w (OfCell (v.cell x)) (reached home observer other v s facts x w view)
              (λ e. variable_hand root.0 root.1 h (sym root.2 ∙ e)))),
          parts_on home observer other v s t viewed.views.1
              (λ x p w has reach. (let root = (viewed.views.1 x p w has).begins in
              drop_reaches s t (OfHand h) viewed.owned d w (OfCell (v.part_cell x p)) reach (λ e. variable_hand root.0 root.1 h (sym root.2 ∙ e)))),
        );
        whole = viewed.whole;
        whole_away = viewed.whole_away;
        shown = viewed.shown;
        whole_parts = viewed.whole_parts;
        parts_away = viewed.parts_away;
        past = viewed.past;
        lends = viewed.lends;
        far = λ w n keeps. (let root = other.begins w n keeps in
            drop_reaches s t (OfHand h) viewed.owned d w (OfCell n) (viewed.far w n keeps) (λ e. variable_hand root.0 root.1 h (sym root.2 ∙ e)));
        bare = λ w l p bare q c held. viewed.bare w l p bare q c (drop_held s t (OfHand h) d (part l (q ++ p)) c held);
      }

  -- a name that is rooted in no view with a value stands for itself
  pub stands_itself : (u : Way) → Named home u → v.way (number_of u) ≡ None → ((p : List Step) → v.part_way (number_of u) p ≡ None) → expand v u ≡ u
  stands_itself u named none bare = elim (lifts v u) [
    | inl e ↦ e
    | inr (inr l) ↦ (let is : Some l.way ≡ None = sym l.has ∙ ap (λ z. v.part_way z l.steps) (sym (part_root v u l)) ∙ bare l.steps in absurd (true≢false (ap is_some is)))
    | inr (inl l) ↦ (let is : Some l.way ≡ None = sym l.has ∙ ap v.way (sym (lifted_root v u l)) ∙ none in absurd (true≢false (ap is_some is)))
  ]

  -- A variable without a value as a view ends. No view begins there, and the observers that are left
  -- have loans of others.
  pub record Leaves (x : ℕ) (facts : List Fact) : Type 0 where
    pub none : v.way x ≡ None
    pub roots : (y : ℕ) (w : Way) → v.way y ≡ Some w → Named home w → number_of w ≡ x → ⊥
    pub loans : (y : ℕ) (w : Way) → v.way y ≡ Some w → Named home (v.up y) → observer y ≡ true → HasLoan observer true y facts (name_of (v.loan y))
    pub unlent : (l : Loan) (n : Name) → other.lent l n → n.root ≡ x → ⊥

  abbrev variable : ℕ → Loc
  variable x = OfRoot (OfVariable (home x) x)

  -- what is known of ways that the variable doesn't begin, or elsewhere
  abbrev Aside : ℕ → List Fact → Way → Type 0
  Aside x facts w = ExcusedBy home v other facts w × ((base_of w ≡ variable x → ⊥) ⊎ other.gone w)

  -- a way that begins at a variable of the frame is named
  begun : (x : ℕ) (w : Way) → base_of w ≡ variable x → Named home w × (number_of w ≡ x)
  begun x (Object (OfVariable g y)) e = (let a : g ≡ home x = cc in let b : y ≡ x = cc in (a ∙ ap home (sym b), b))
  begun x (Object (OfHand h)) e = cc
  begun x (Lost n) e = cc
  begun x (Into w i) e = begun x w e
  begun x (All w) e = begun x w e

  split : (s : View) (facts : List Fact) (x : ℕ) → Viewed home observer other v s facts → v.way x ≡ None
      → ((y : ℕ) (w : Way) → v.way y ≡ Some w → Named home w → number_of w ≡ x → ⊥) → ((l : Loan) (n : Name) → other.lent l n → n.root ≡ x → ⊥)
      → Sound home (Aside x facts) s (filter (belongs_to x) facts)
  split s facts x viewed none roots unlent = record {
    owned = viewed.owned;
    covered = viewed.covered;
    known = λ w l n r h. elim (same_loc (base_of w) (variable x)) [
      | inr off ↦ inr (viewed.known w l n r h, inl off)
      | inl here ↦ by_root w (viewed.known w l n r h) here (begun x w here).0 (begun x w here).1
    ];
  }
    where
      no_part_in : (u : Way) → IsMoved home facts u → InPart v u → ⊥
      no_part_in u moved l =
          let none : v.part_way l.object l.steps ≡ None =
          ap (λ z. v.part_way z l.steps) (sym (part_root v u l)) ∙ moved_parts home observer other v s facts viewed u moved.1 l.steps in
          let is : Some l.way ≡ None = sym l.has ∙ none in absurd (true≢false (ap is_some is))

      direct : (w : Way) → IsMovedBy home v facts w → base_of w ≡ variable x → IsMoved home facts w
      direct w (u, moved, same) here = elim (lifts v u) [
        | inl e ↦ subst (IsMoved home facts) (sym e ∙ same) moved
        | inr (inr l) ↦ absurd (no_part_in u moved l)
        | inr (inl l) ↦ (
            let base : base_of l.way ≡ variable x =
            sym (base_on l.way l.rest) ∙ ap base_of (sym (lifted_way v u l)) ∙ ap base_of same ∙ here in
            let is = begun x l.way base in absurd (roots l.object l.way l.has is.0 is.1))
      ]

      by_root : (w : Way) → ExcusedBy home v other facts w → base_of w ≡ variable x → Named home w → number_of w ≡ x
          → Excused home (Aside x facts) (filter (belongs_to x) facts) w
      by_root w known here named is = elim known [
        | inl (inr away) ↦ (let t = other.through w away in
            absurd (unlent Borrowed (name_of t.0) t.3 (sym (longer t.0 w t.2).root ∙ is)))
        | inl (inl moved) ↦ (let own = direct w moved here in
            inl (own.0, Has-filter_passes (belongs_to x) facts (Moved (name_of w)) own.1 (eq-eqb (number_of w) x is)))
        | inr o ↦ inr (inr o, inr o)
      ]

  -- what belongs to the variable ends with it
  all_end : (facts : List Fact) (x : ℕ) (borrower : Bool) (f : Fact) → Has (effect (EndScope x borrower) (filter (belongs_to x) facts)) f → ⊥
  all_end facts x borrower f h = elim (before_or_new (EndScope x borrower) (filter (belongs_to x) facts) f h) [
    | inr none ↦ none
    | inl own ↦ (
        let own = (Has-filter (belongs_to x) facts f own).1 in
        elim (Has-append_cases (filter (λ g. not (belongs_to x g)) (filter (belongs_to x) facts)) [] f h) [
          | inl kept ↦ (let rest = (Has-filter (λ g. not (belongs_to x g)) (filter (belongs_to x) facts) f kept).1 in cc)
          | inr none ↦ none
        ])
  ]

  pub ended : (s t : View) (x : ℕ) (borrower : Bool) (facts : List Fact) → Viewed home observer other v s facts
      → IsDrop s t (OfVariable (home x) x) → Leaves x (effect (EndScope x borrower) facts)
      → Viewed home observer other v t (effect (EndScope x borrower) facts)
  ended s t x borrower facts viewed d leaves =
      let act : Act = EndScope x borrower in
      let sound = dropped home (Aside x facts) s t x borrower (filter (belongs_to x) facts) (split s facts x viewed leaves.none leaves.roots leaves.unlent) d in record {
        owned = sound.owned;
        covered = sound.covered;
        known = λ w l n r h. by_either (sound.known w l n r h)
            (λ moved. (absurd (all_end facts x borrower (Moved (name_of w)) moved.1)))
            (λ both. (elim both.0 [
              | inr o ↦ inr o
              | inl (inr away) ↦ inl (inr away)
              | inl (inl moved) ↦ by_either both.1
                  (λ off. (inl (inl (
                    moved.0,
                    (
                      moved.1.0,
                      kept_fact act facts (Moved (name_of moved.0)) moved.1.1
                          (is_false (number_of moved.0 == x) (λ e. off (
                          let same = eqb-true (number_of moved.0) x e in
                          ap base_of (sym moved.2
                          ∙ stands_itself moved.0 moved.1.0 (ap v.way same ∙ leaves.none) (moved_parts home observer other v s facts viewed moved.0 moved.1.1))
                          ∙ named_base home moved.0 moved.1.0 ∙ ap variable same))),
                    ),
                    moved.2,
                  ))))
                  (λ o. (inr o))
            ]));
        clear = clear_same observer facts viewed.clear act refl;
        views = (
          λ y w has. (let view = viewed.views.0 y w has in
              let root = view_rooted home observer other v s facts viewed.views y w has in
              let reaches = drop_reaches s t (OfVariable (home x) x) viewed.owned d w (OfCell (v.cell y)) (reached home observer other v s facts y w view)
              (λ e. (let same = same_frame root.0 (home x) root.1 x (sym root.2 ∙ e) in by_either root.3
              (λ own. (leaves.roots y w has own (number_base w root.0 root.1 root.2 ∙ same.1)))
              (λ foreign. (
              let here = same_frame foreign.0 (home x) foreign.1 x (sym foreign.2 ∙ e) in
              foreign.3 (here.0 ∙ ap home (sym here.1)))))) in
              by_either view
              (λ own. (inl (record {
                named = own.named;
                leads = own.leads;
                begins = own.begins;
                deep = own.deep;
                plain = own.plain;
                older = own.older;
                lent = own_loan y w has own.named (observer y) refl own.lent;
                reaches = reaches;
              })))
              (λ passed. (inr (record { begins = passed.begins; given = passed.given; alone = passed.alone; reaches = reaches })))),
          parts_on home observer other v s t viewed.views.1
              (λ y p w has reach.
              drop_reaches s t (OfVariable (home x) x) viewed.owned d w (OfCell (v.part_cell y p)) reach
              (λ e. by_either (home_or_foreign home w (viewed.views.1 y p w has).begins)
              (λ named. (
              let (l, (k, at_home, under, lent), changed) = viewed.shown.1 y p w has named in
              let bases = sym (named_base home k at_home) ∙ sym (longer k w under).base ∙ e in
              leaves.unlent l (name_of k) lent (same_variable (home (number_of k)) (home x) (number_of k) x bases)))
              (λ foreign. (
              let here = same_frame foreign.0 (home x) foreign.1 x (sym foreign.2 ∙ e) in
              foreign.3 (here.0 ∙ ap home (sym here.1)))))),
        );
        whole = viewed.whole;
        whole_away = viewed.whole_away;
        shown = viewed.shown;
        whole_parts = viewed.whole_parts;
        parts_away = viewed.parts_away;
        past = viewed.past;
        lends = λ l n lent. (let old = viewed.lends l n lent in record {
          has = kept_fact act facts (Lent l n.root n) old.has
              (is_false (n.root == x) (λ same. leaves.unlent l n lent (eqb-true n.root x same)));
          none = old.none;
          plain = old.plain;
        });
        far = λ w n keeps. (let root = other.begins w n keeps in
            drop_reaches s t (OfVariable (home x) x) viewed.owned d w (OfCell n) (viewed.far w n keeps) (λ e. (
            let same = same_frame root.0 (home x) root.1 x (sym root.2 ∙ e) in
            by_either root.3
            (λ away. (away (same.0 ∙ ap home (sym same.1))))
            (λ (l, (k, named, under, lent)). (
            let bases = sym (named_base home k named) ∙ sym (longer k w under).base ∙ e in
            leaves.unlent l (name_of k) lent (same_variable (home (number_of k)) (home x) (number_of k) x bases))))));
        bare = λ w l p bare q c held. viewed.bare w l p bare q c (drop_held s t (OfVariable (home x) x) d (part l (q ++ p)) c held);
      }
    where
      own_loan : (y : ℕ) (w : Way) → v.way y ≡ Some w → Named home (v.up y) → (b : Bool) → observer y ≡ b → HasLoan observer (observer y) y facts (name_of (v.loan y))
          → HasLoan observer (observer y) y (effect (EndScope x borrower) facts) (name_of (v.loan y))
      own_loan y w has named true e loan = subst (λ z. HasLoan observer z y (effect (EndScope x borrower) facts) (name_of (v.loan y))) (sym e) (leaves.loans y w has named e)
      own_loan y w has named false e loan =
          let act : Act = EndScope x borrower in
          let old = subst (λ z. HasLoan observer z y facts (name_of (v.loan y))) e loan in
          subst (λ z. HasLoan observer z y (effect act facts) (name_of (v.loan y))) (sym e)
          (kept_fact act facts (Lent Borrowed y (name_of (v.loan y))) old
          (is_false (y == x) (λ same. (let is : Some w ≡ None = sym has ∙ ap v.way (eqb-true y x same) ∙ leaves.none in absurd (true≢false (ap is_some is))))))
