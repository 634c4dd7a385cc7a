-- Borrow, Observe and Reborrow: a view gets the way of the cell that a name designates.
use Rattle.std.proofs.Common.{◌≡◌, refl, sym, ap, ◌∙◌, subst, ◌⊎◌, inl, inr, ℕ, ◌==◌, eqb-true, eq-eqb, Bool, true, false, List, [], ◌∷◌, ◌<◌, arith, Option, Some, None, if◌then◌else◌, is_some}
use Rattle.machine.specs.spark_base.Lists.{Has}
use Rattle.spark_base.proofs.Lists.{Has-append_right}
use Rattle.std.specs.List.{filter}
use Rattle.std.proofs.Common.{not}
use Rattle.std.proofs.lemmas.Bool.{false≢true}
use Rattle.machine.specs.place_names.declared.rule.Rule.TheVariants.{O7}
use Rattle.machine.specs.place_names.declared.rule.Loan.TheVariants.{Borrowed, Observed}
use Rattle.machine.specs.place_names.Names.{Name, object, agree_along, overlaps}
use Rattle.place_names.proofs.Names.{both_true}
use Rattle.machine.specs.place_names.declared.act.Act.{Act}
use Rattle.machine.specs.place_names.declared.act.Act.TheVariants.{Borrow, Observe, Reborrow}
use Rattle.machine.specs.place_names.declared.fact.Fact.{Fact}
use Rattle.machine.specs.place_names.declared.fact.Fact.TheVariants.{Moved, Lent}
use Rattle.machine.specs.place_names.Facts.{removes, effect}
use Rattle.machine.specs.place_names.Rules.{moved_or_lent}
use Rattle.soundness.specs.OwnedWays.Ways.{Step, OfVariable, OfHand, OfRoot, OfCell, base_of, Way, Object, Lost, Into, All, View, Reaches, Under, Past, Named, number_of, name_of, Allows}
use Rattle.soundness.proofs.OwnedWays.Named.{longer}
use Rattle.soundness.proofs.OwnedWays.Assigned.{kept_fact}
use Rattle.soundness.proofs.OwnedWays.Locations.{under_itself}
use Rattle.soundness.specs.OwnedLoans.Views.{Go, Views, Around, expand_root, expand_part, inner_steps, part_from, ArePartsSeen, expand, IsObject, AreClear, HasLoan, IsView, Viewed, Becomes, with_view, Unused, on, IsForeign, IsOuter, IsShared, IsPassed, Lifted, InPart}
use Rattle.soundness.proofs.OwnedLoans.Ways.{under_on, on_under, on_named, base_on, root_on, named_on, meets_front, on_deep, lifted_way, next_of, in_part_way}
use Rattle.soundness.proofs.OwnedLoans.Meeting.{stands, own_off, own_view, next}
use Rattle.soundness.proofs.OwnedLoans.Clear.{refused, clear_borrow, clear_observe, clear_same}
use Rattle.soundness.proofs.OwnedLoans.Allowed.{LoansStay, loan_kept}
use Rattle.soundness.proofs.OwnedLoans.Moves.{own_loan}

part_same : (v t : Views) (b : ℕ) (o : Option Way) (loan up : Way) (n : ℕ) → Becomes v t b o loan up n → (w : Way) (p : List Step) → part_from t w p ≡ part_from v w p
part_same v t b o loan up n c (Object (OfVariable f x)) p = c.part_ways x p
part_same v t b o loan up n c (Object (OfHand h)) p = refl
part_same v t b o loan up n c (Lost m) p = refl
part_same v t b o loan up n c (Into w i) p = part_same v t b o loan up n c w p
part_same v t b o loan up n c (All w) p = refl

-- names that aren't rooted in the view stand for what they stood for
pub expand_other : (v t : Views) (b : ℕ) (o : Option Way) (loan up : Way) (n : ℕ) → Becomes v t b o loan up n → (u : Way) → (number_of u ≡ b → ⊥) → expand t u ≡ expand v u
expand_other v t b o loan up n c (Object r) off = refl
expand_other v t b o loan up n c (Lost x) off = refl
expand_other v t b o loan up n c (Into w i) off = ap (λ z. Into z i) (expand_other v t b o loan up n c w off)
expand_other v t b o loan up n c (All (Object (OfVariable f x))) off = ap (λ z. expand_root z (OfVariable f x)) (c.ways x off)
expand_other v t b o loan up n c (All (Object (OfHand h))) off = refl
expand_other v t b o loan up n c (All (Lost x)) off = refl
expand_other v t b o loan up n c (All (Into w i)) off =
    (λ j. expand_part (part_same v t b o loan up n c (Into w i) (inner_steps (Into w i)) j) (expand_other v t b o loan up n c (Into w i) off j))
expand_other v t b o loan up n c (All (All w)) off = ap All (expand_other v t b o loan up n c (All w) off)

-- What is asked of the way that a view gets.
pub record Fits (home : ℕ → ℕ) (observer : ℕ → Bool) (v : Views) (s : View) (facts : List Fact) (b : ℕ) (loan up : Way) (n : ℕ) (w : Way) : Type 0 where
  pub named : Named home up
  pub leads : expand v up ≡ w
  pub begins : Under loan up
  pub deep : IsObject up → ⊥
  pub plain : observer (number_of up) ≡ false
  pub older : observer b ≡ false → number_of up < b
  pub lent : HasLoan observer (observer b) b facts (name_of loan)
  pub reaches : Reaches s w (OfCell n)

module _ (home : ℕ → ℕ) (observer : ℕ → Bool) (other : Around home) (v t : Views) (b : ℕ) (o : Option Way) (loan up : Way) (n : ℕ)
    (becomes : Becomes v t b o loan up n) where
  -- a view isn't taken from itself
  not_itself : (observer b ≡ false → number_of up < b) → observer (number_of up) ≡ false → number_of up ≡ b → ⊥
  not_itself older plain e =
      let less = older (ap observer (sym e) ∙ plain) in absurd (omega arith)

  new_view : (s : View) (facts : List Fact) (w : Way) → Fits home observer v s facts b loan up n w → IsView home observer t s facts b w
  new_view s facts w fits = record {
    named = subst (Named home) (sym becomes.up_is) fits.named;
    leads = ap (expand t) becomes.up_is
        ∙ expand_other v t b o loan up n becomes up (not_itself fits.older fits.plain) ∙ fits.leads;
    begins = subst (λ z. Under z (t.up b)) (sym becomes.loan_is) (subst (Under loan) (sym becomes.up_is) fits.begins);
    deep = subst (λ z. IsObject z → ⊥) (sym becomes.up_is) fits.deep;
    plain = ap (λ z. observer (number_of z)) becomes.up_is ∙ fits.plain;
    older = λ e. subst (λ z. number_of z < b) (sym becomes.up_is) (fits.older e);
    lent = subst (λ z. HasLoan observer (observer b) b facts (name_of z)) (sym becomes.loan_is) fits.lent;
    reaches = subst (λ z. Reaches s w (OfCell z)) (sym becomes.cell_is) fits.reaches;
  }

  old_view : (s : View) (facts facts' : List Fact) (x : ℕ) (w : Way) → (x ≡ b → ⊥) → (number_of (v.up x) ≡ b → ⊥) → IsView home observer v s facts x w
      → LoansStay facts facts' → IsView home observer t s facts' x w
  old_view s facts facts' x w off unused view loans = record {
    named = subst (Named home) (sym (becomes.ups x off)) view.named;
    leads = ap (expand t) (becomes.ups x off) ∙ expand_other v t b o loan up n becomes (v.up x) unused ∙ view.leads;
    begins = subst (λ z. Under z (t.up x)) (sym (becomes.loans x off)) (subst (Under (v.loan x)) (sym (becomes.ups x off)) view.begins);
    deep = subst (λ z. IsObject z → ⊥) (sym (becomes.ups x off)) view.deep;
    plain = ap (λ z. observer (number_of z)) (becomes.ups x off) ∙ view.plain;
    older = λ e. subst (λ z. number_of z < x) (sym (becomes.ups x off)) (view.older e);
    lent = subst (λ z. HasLoan observer (observer x) x facts' (name_of z)) (sym (becomes.loans x off))
        (own_loan observer facts facts' loans (observer x) x (name_of (v.loan x)) view.lent);
    reaches = subst (λ z. Reaches s w (OfCell z)) (sym (becomes.cells x off)) view.reaches;
  }

  -- What is asked of the way that an observer gets from what the frame was given.
  pub record FitsPassed (s : View) (w : Way) : Type 0 where
    pub sees : observer b ≡ true
    pub begins : (f : ℕ) × (y : ℕ) × (base_of w ≡ OfRoot (OfVariable f y))
    pub given : Named home up → ⊥
    pub alone : (x : ℕ) (z : Way) → v.way x ≡ Some z → observer x ≡ false → (Named home (v.up x) → ⊥) → Under z w ⊎ Under w z → ⊥
    pub reaches : Reaches s w (OfCell n)
    pub whole : (z : Way) → other.gone z → Under z w ⊎ Under w z → ⊥
    pub whole_away : (z : Way) → other.away z → Under z w ⊎ Under w z → ⊥
    pub shown : Named home w → IsShared home other.lent true w

  abbrev FitsEither : View → List Fact → Way → Type 0
  FitsEither s facts w = Fits home observer v s facts b loan up n w ⊎ FitsPassed s w

  -- another view that was given is so still, and is alone
  old_given : (x : ℕ) → (x ≡ b → ⊥) → (Named home (v.up x) → ⊥) → Named home (t.up x) → ⊥
  old_given x off given named = given (subst (Named home) (becomes.ups x off) named)

  old_alone : (s : View) (facts : List Fact) → ((w : Way) → o ≡ Some w → FitsEither s facts w) → (x : ℕ) (w : Way) → (x ≡ b → ⊥) → v.way x ≡ Some w
      → IsPassed home observer v s x w → observer x ≡ false → (y : ℕ) (u : Way) → t.way y ≡ Some u → (y ≡ x → ⊥) → (Named home (t.up y) → ⊥)
      → Under w u ⊎ Under u w → (c : Bool) → (y == b) ≡ c → ⊥
  old_alone s facts fits x w off has passed plain y u there differs given meets false e =
      let other_one : y ≡ b → ⊥ = λ same. false≢true (sym e ∙ eq-eqb y b same) in
      passed.alone plain y u (sym (becomes.ways y other_one) ∙ there) differs (λ named. given (subst (Named home) (sym (becomes.ups y other_one)) named)) meets
  old_alone s facts fits x w off has passed plain y u there differs given meets true e =
      let same = eqb-true y b e in
      by_fit (fits u (sym becomes.way_is ∙ ap t.way (sym same) ∙ there))
    where
      by_fit : FitsEither s facts u → ⊥
      by_fit (inl own) = given (subst (Named home) (sym (ap t.up (eqb-true y b e) ∙ becomes.up_is)) own.named)
      by_fit (inr passed_u) = passed_u.alone x w has plain passed.given meets

  old_either : (s : View) (facts facts' : List Fact) → ((w : Way) → o ≡ Some w → FitsEither s facts' w) → (x : ℕ) (w : Way) → (x ≡ b → ⊥) → v.way x ≡ Some w
      → (Named home (v.up x) → number_of (v.up x) ≡ b → ⊥) → IsView home observer v s facts x w ⊎ IsPassed home observer v s x w → LoansStay facts facts'
      → IsView home observer t s facts' x w ⊎ IsPassed home observer t s x w
  old_either s facts facts' fits x w off has unused (inl view) loans = inl (old_view s facts facts' x w off (unused view.named) view loans)
  old_either s facts facts' fits x w off has unused (inr passed) loans = inr (record {
    begins = passed.begins;
    given = old_given x off passed.given;
    alone = λ plain y u there differs given meets. old_alone s facts' fits x w off has passed plain y u there differs given meets (y == b) refl;
    reaches = subst (λ z. Reaches s w (OfCell z)) (sym (becomes.cells x off)) passed.reaches;
  })

  pub rebound_any : (s : View) (facts facts' : List Fact) → Viewed home observer other v s facts → Unused home other.lent v facts b
      → ((m : Name) → Has facts (Moved m) → Has facts' (Moved m)) → LoansStay facts facts' → AreClear observer facts'
      → ((w : Way) → o ≡ Some w → FitsEither s facts' w) → Viewed home observer other t s facts'
  rebound_any s facts facts' viewed unused stays loans clear fits = record {
    owned = viewed.owned;
    covered = viewed.covered;
    known = λ w l m r h. elim (viewed.known w l m r h) [
      | inr taken ↦ inr taken
      | inl (inr away) ↦ inl (inr away)
      | inl (inl moved) ↦ inl (inl (
        moved.0,
        (moved.1.0, stays (name_of moved.0) moved.1.1),
        expand_other v t b o loan up n becomes moved.0 (unused.unmoved (name_of moved.0) moved.1.1) ∙ moved.2,
      ))
    ];
    clear = clear;
    views = (λ x w has. by_object x w has (x == b) refl, part_seen);
    whole = λ x w z has outer gone meets. by_root x w z has outer gone meets (x == b) refl;
    whole_away = λ x w z has given away meets. by_away x w z has given away meets (x == b) refl;
    shown = (
      λ x w has given named. by_shown x w has given named (x == b) refl,
      λ x p w has named. viewed.shown.1 x p w (sym (becomes.part_ways x p) ∙ has) named,
    );
    whole_parts = λ x p w z has. viewed.whole_parts x p w z (sym (becomes.part_ways x p) ∙ has);
    parts_away = λ x p w z has. viewed.parts_away x p w z (sym (becomes.part_ways x p) ∙ has);
    past = λ x w has given plain k m keeps goes. not_past x w has given plain k m keeps goes (x == b) refl;
    lends = λ l m lent. (let old = viewed.lends l m lent in record {
      has = loans l m.root m old.has;
      none = becomes.ways m.root (unused.unlent l m lent) ∙ old.none;
      plain = old.plain;
    });
    far = viewed.far;
    bare = viewed.bare;
  }
    where
      true_false : (c : Bool) → c ≡ true → c ≡ false → ⊥
      true_false c e f = cc

      fit : (w : Way) → FitsEither s facts' w → IsView home observer t s facts' b w ⊎ IsPassed home observer t s b w
      fit w (inl own) = inl (new_view s facts' w own)
      fit w (inr passed) = inr (record {
        begins = passed.begins;
        given = λ named. passed.given (subst (Named home) becomes.up_is named);
        alone = λ plain. absurd (true_false (observer b) passed.sees plain);
        reaches = subst (λ z. Reaches s w (OfCell z)) (sym becomes.cell_is) passed.reaches;
      })

      part_seen : ArePartsSeen home observer t s
      part_seen x p w has =
          let old = viewed.views.1 x p w (sym (becomes.part_ways x p) ∙ has) in record {
            begins = old.begins;
            sees = old.sees;
            apart = λ y u there given plain meets. part_apart x p w (sym (becomes.part_ways x p) ∙ has) y u there given plain meets (y == b) refl;
            reaches = subst (λ z. Reaches s w (OfCell z)) (sym (becomes.part_cells x p)) old.reaches;
          }
        where
          part_apart : (x : ℕ) (p : List Step) (w : Way) → v.part_way x p ≡ Some w → (y : ℕ) (u : Way) → t.way y ≡ Some u → (Named home (t.up y) → ⊥) → observer y ≡ false
              → Under u w ⊎ Under w u → (c : Bool) → (y == b) ≡ c → ⊥
          part_apart x p w old y u there given plain meets false e =
              let off : y ≡ b → ⊥ = λ same. false≢true (sym e ∙ eq-eqb y b same) in
              (viewed.views.1 x p w old).apart y u (sym (becomes.ways y off) ∙ there) (λ named. given (subst (Named home) (sym (becomes.ups y off)) named)) plain meets
          part_apart x p w old y u there given plain meets true e = by_fit (fits u (sym becomes.way_is ∙ ap t.way (sym (eqb-true y b e)) ∙ there))
            where
              by_fit : FitsEither s facts' u → ⊥
              by_fit (inl own) = given (subst (Named home) (sym (ap t.up (eqb-true y b e) ∙ becomes.up_is)) own.named)
              by_fit (inr passed) = true_false (observer b) passed.sees (ap observer (sym (eqb-true y b e)) ∙ plain)

      -- what is taken from a view that was given is as whole
      fit_whole : (w z : Way) → FitsEither s facts' w → IsForeign home w ⊎ (Named home up → ⊥) → other.gone z → Under z w ⊎ Under w z → ⊥
      fit_whole w z (inr passed) outer gone meets = passed.whole z gone meets
      fit_whole w z (inl own) (inr given) gone meets = given own.named
      fit_whole w z (inl own) (inl foreign) gone meets = elim (stands home observer v s facts viewed.views up (own.named, own.plain)) [
        | inl mine ↦ own_off home observer v s facts viewed.views up w mine foreign (ap base_of own.leads)
        | inr held ↦ viewed.whole held.object held.way z held.has (inr held.passed.given) gone
            (meets_front held.way w z (subst (Under held.way) own.leads held.under) meets)
      ]

      not_past : (x : ℕ) (w : Way) → t.way x ≡ Some w → (Named home (t.up x) → ⊥) → observer x ≡ false → (k : Way) (m : ℕ) → other.kept k m → Past w k
          → (c : Bool) → (x == b) ≡ c → ⊥
      not_past x w has given plain k m keeps goes false e =
          let off : x ≡ b → ⊥ = λ same. false≢true (sym e ∙ eq-eqb x b same) in
          viewed.past x w (sym (becomes.ways x off) ∙ has) (λ named. given (subst (Named home) (sym (becomes.ups x off)) named)) plain k m keeps goes
      not_past x w has given plain k m keeps goes true e = by_fit (fits w (sym becomes.way_is ∙ ap t.way (sym (eqb-true x b e)) ∙ has))
        where
          by_fit : FitsEither s facts' w → ⊥
          by_fit (inl own) = given (subst (Named home) (sym (ap t.up (eqb-true x b e) ∙ becomes.up_is)) own.named)
          by_fit (inr passed) = true_false (observer b) passed.sees (ap observer (sym (eqb-true x b e)) ∙ plain)

      -- the view that gets a way was given it if it was taken from none of the frame
      new_fits : (x : ℕ) (w : Way) → t.way x ≡ Some w → (x == b) ≡ true → FitsEither s facts' w
      new_fits x w has e = fits w (sym becomes.way_is ∙ ap t.way (sym (eqb-true x b e)) ∙ has)

      new_given : (x : ℕ) → (Named home (t.up x) → ⊥) → (x == b) ≡ true → Named home up → ⊥
      new_given x given e named = given (subst (Named home) (sym (ap t.up (eqb-true x b e) ∙ becomes.up_is)) named)

      old_way : (x : ℕ) (w : Way) → t.way x ≡ Some w → (x == b) ≡ false → v.way x ≡ Some w
      old_way x w has e = sym (becomes.ways x (λ same. false≢true (sym e ∙ eq-eqb x b same))) ∙ has

      was_given : (x : ℕ) → (Named home (t.up x) → ⊥) → (x == b) ≡ false → Named home (v.up x) → ⊥
      was_given x given e named = given (subst (Named home) (sym (becomes.ups x (λ same. false≢true (sym e ∙ eq-eqb x b same)))) named)

      by_root : (x : ℕ) (w z : Way) → t.way x ≡ Some w → IsOuter home t x w → other.gone z → Under z w ⊎ Under w z → (c : Bool) → (x == b) ≡ c → ⊥
      by_root x w z has outer gone meets true e =
          fit_whole w z (new_fits x w has e) (elim outer [ inl foreign ↦ inl foreign | inr given ↦ inr (new_given x given e) ]) gone meets
      by_root x w z has outer gone meets false e =
          viewed.whole x w z (old_way x w has e) (elim outer [ inl foreign ↦ inl foreign | inr given ↦ inr (was_given x given e) ]) gone meets

      by_away : (x : ℕ) (w z : Way) → t.way x ≡ Some w → (Named home (t.up x) → ⊥) → other.away z → Under z w ⊎ Under w z → (c : Bool) → (x == b) ≡ c → ⊥
      by_away x w z has given away meets false e = viewed.whole_away x w z (old_way x w has e) (was_given x given e) away meets
      by_away x w z has given away meets true e = elim (new_fits x w has e) [
        | inl own ↦ new_given x given e own.named
        | inr passed ↦ passed.whole_away z away meets
      ]

      by_shown : (x : ℕ) (w : Way) → t.way x ≡ Some w → (Named home (t.up x) → ⊥) → Named home w → (c : Bool) → (x == b) ≡ c → IsShared home other.lent (observer x) w
      by_shown x w has given named false e = viewed.shown.0 x w (old_way x w has e) (was_given x given e) named
      by_shown x w has given named true e = elim (new_fits x w has e) [
        | inl own ↦ absurd (new_given x given e own.named)
        | inr passed ↦ subst (λ c. IsShared home other.lent c w) (sym (ap observer (eqb-true x b e) ∙ passed.sees)) (passed.shown named)
      ]

      by_object : (x : ℕ) (w : Way) → t.way x ≡ Some w → (c : Bool) → (x == b) ≡ c → IsView home observer t s facts' x w ⊎ IsPassed home observer t s x w
      by_object x w has true e =
          let same = eqb-true x b e in
          subst (λ z. IsView home observer t s facts' z w ⊎ IsPassed home observer t s z w) (sym same)
          (fit w (fits w (sym becomes.way_is ∙ ap t.way (sym same) ∙ has)))
      by_object x w has false e =
          let off : x ≡ b → ⊥ = λ same. false≢true (sym e ∙ eq-eqb x b same) in
          let old = sym (becomes.ways x off) ∙ has in
          old_either s facts facts' fits x w off old (λ named. unused.untaken x w old named off) (viewed.views.0 x w old) loans

  pub rebound : (s : View) (facts facts' : List Fact) → Viewed home observer other v s facts → Unused home other.lent v facts b
      → ((m : Name) → Has facts (Moved m) → Has facts' (Moved m)) → LoansStay facts facts' → AreClear observer facts'
      → ((w : Way) → o ≡ Some w → Fits home observer v s facts' b loan up n w) → Viewed home observer other t s facts'
  rebound s facts facts' viewed unused stays loans clear fits = rebound_any s facts facts' viewed unused stays loans clear (λ w e. inl (fits w e))

-- ---- the acts

-- No fact of what was moved is taken back, and no loan.
pub record Leaves (observer : ℕ → Bool) (facts after_it : List Fact) : Type 0 where
  pub moved : (m : Name) → Has facts (Moved m) → Has after_it (Moved m)
  pub loans : LoansStay facts after_it
  pub clear : AreClear observer after_it

-- so it is in what lends
module _ (observer : ℕ → Bool) (facts : List Fact) (clear : AreClear observer facts) where
  pub observe_leaves : (b : ℕ) (m : Name) (seen : Bool) → Allows facts (Observe b m seen) → Leaves observer facts (effect (Observe b m seen) facts)
  observe_leaves b m seen allowed = record {
    moved = λ n has. kept_fact (Observe b m seen) facts (Moved n) has refl;
    loans = loan_kept (Observe b m seen) facts (λ l h z. refl);
    clear = clear_observe observer facts clear b m seen allowed;
  }

  pub borrow_leaves : (b : ℕ) (m : Name) → Allows facts (Borrow b m) → Leaves observer facts (effect (Borrow b m) facts)
  borrow_leaves b m allowed = record {
    moved = λ n has. kept_fact (Borrow b m) facts (Moved n) has refl;
    loans = loan_kept (Borrow b m) facts (λ l h z. refl);
    clear = clear_borrow observer facts clear b m allowed;
  }

  pub reborrow_leaves : (b : ℕ) (m : Name) → Leaves observer facts (effect (Reborrow b m) facts)
  reborrow_leaves b m = record {
    moved = λ n has. kept_fact (Reborrow b m) facts (Moved n) has refl;
    loans = loan_kept (Reborrow b m) facts (λ l h z. refl);
    clear = clear_same observer facts clear (Reborrow b m) refl;
  }

not_both : (c : Bool) → c ≡ true → c ≡ false → ⊥
not_both c e f = cc

module _ (home : ℕ → ℕ) (observer : ℕ → Bool) (other : Around home) (v t : Views) (s : View) (facts : List Fact)
    (viewed : Viewed home observer other v s facts) where
  stays : (a : Act) → ((m : Name) → removes a (Moved m) ≡ false) → (m : Name) → Has facts (Moved m) → Has (effect a facts) (Moved m)
  stays a keeps m has = kept_fact a facts (Moved m) has (keeps m)

  own_of : (x : ℕ) (w : Way) → v.way x ≡ Some w → Named home (v.up x) → IsView home observer v s facts x w
  own_of = own_view home observer v s facts viewed.views

  -- nothing is rooted in an observer but names that are looked at
  pub observer_unused : (b : ℕ) → observer b ≡ true → Unused home other.lent v facts b
  observer_unused b is = record {
    unmoved = λ n has e. not_both (observer b) is (ap observer (sym e) ∙ viewed.clear.owned n has);
    unlent = λ l n lent e. not_both (observer b) is (ap observer (sym e) ∙ (viewed.lends l n lent).plain);
    untaken = λ x w has named off e. not_both (observer b) is (ap observer (sym e) ∙ (own_of x w has named).plain);
  }

  -- The way that a name stands for, if it leads to a cell.
  abbrev pub LeadsTo : Option Way → Way → ℕ → Type 0
  LeadsTo o k n = (w : Way) → o ≡ Some w → (w ≡ expand v k) × Reaches s w (OfCell n)

  -- The place that is lent is what a name designates, or a part of that.
  designated_begins : (u : Way) (r : List Go) → Under u (on (All u) r)
  designated_begins u r = under_on u (All u) (on (All u) r) (inr (under_itself u)) (on_under (All u) r)

  pub borrowed : (b : ℕ) (o : Option Way) (u : Way) (r : List Go) (n : ℕ) → Becomes v t b o u (on (All u) r) n → Unused home other.lent v facts b → observer b ≡ false
      → Named home u → observer (number_of u) ≡ false → number_of u < b → LeadsTo o (on (All u) r) n → Allows facts (Borrow b (name_of u))
      → Viewed home observer other t s (effect (Borrow b (name_of u)) facts)
  borrowed b o u r n becomes unused borrows named plain less designates allowed =
      let act : Act = Borrow b (name_of u) in
      rebound home observer other v t b o u (on (All u) r) n becomes s facts (effect act facts) viewed unused
      (stays act (λ m. refl)) (loan_kept act facts (λ l h k. refl))
      (clear_borrow observer facts viewed.clear b (name_of u) allowed)
      (λ w e. record {
        named = named_on home (All u) r named;
        leads = sym (designates w e).0;
        begins = designated_begins u r;
        deep = on_deep (All u) r (λ d. d);
        plain = ap observer (root_on (All u) r) ∙ plain;
        older = λ is. subst (λ z. z < b) (sym (root_on (All u) r)) less;
        lent = subst (λ z. HasLoan observer z b (effect act facts) (name_of u)) (sym borrows)
            (Has-append_right (filter (λ g. not (removes act g)) facts) (Lent Borrowed b (name_of u) ∷ []) (Lent Borrowed b (name_of u)) (inl refl));
        reaches = (designates w e).1;
      })

  pub observed : (b : ℕ) (o : Option Way) (u : Way) (r : List Go) (n : ℕ) → Becomes v t b o u (on (All u) r) n → observer b ≡ true
      → Named home u → observer (number_of u) ≡ false → LeadsTo o (on (All u) r) n → Allows facts (Observe b (name_of u) false)
      → Viewed home observer other t s (effect (Observe b (name_of u) false) facts)
  observed b o u r n becomes observes named plain designates allowed =
      let act : Act = Observe b (name_of u) false in
      rebound home observer other v t b o u (on (All u) r) n becomes s facts (effect act facts) viewed (observer_unused b observes)
      (stays act (λ m. refl)) (loan_kept act facts (λ l h k. refl))
      (clear_observe observer facts viewed.clear b (name_of u) false allowed)
      (λ w e. record {
        named = named_on home (All u) r named;
        leads = sym (designates w e).0;
        begins = designated_begins u r;
        deep = on_deep (All u) r (λ d. d);
        plain = ap observer (root_on (All u) r) ∙ plain;
        older = λ is. absurd (not_both (observer b) observes is);
        lent = subst (λ z. HasLoan observer z b (effect act facts) (name_of u)) (sym observes)
            (b, Has-append_right (filter (λ g. not (removes act g)) facts) (Lent Observed b (name_of u) ∷ []) (Lent Observed b (name_of u)) (inl refl), observes);
        reaches = (designates w e).1;
      })

  -- what an observer sees that the frame was given
  passed_on : (b : ℕ) (o : Option Way) (k : Way) (n : ℕ) (l : Lifted v k) → IsPassed home observer v s l.object l.way → observer l.object ≡ true
      → (becomes : Becomes v t b o (v.loan l.object) (next_of v k l) n) → observer b ≡ true → LeadsTo o k n → (w : Way) → o ≡ Some w
      → FitsPassed home observer other v t b o (v.loan l.object) (next_of v k l) n becomes s w
  passed_on b o k n l passed sees becomes observes designates w e =
      let stands : w ≡ on l.way l.rest = (designates w e).0 ∙ lifted_way v k l in
      let under : Under l.way w = subst (Under l.way) (sym stands) (on_under l.way l.rest) in
      record {
        sees = observes;
        begins = (passed.begins.0, passed.begins.1, ap base_of stands ∙ base_on l.way l.rest ∙ passed.begins.2);
        given = λ named. passed.given (on_named home (v.up l.object) l.rest named);
        alone = λ x z has plain given meets. elim (viewed.views.0 x z has) [
          | inl view ↦ given view.named
          | inr first ↦ first.alone plain l.object l.way l.has (λ same. not_both (observer l.object) sees (ap observer same ∙ plain)) passed.given
              (meets_front l.way w z under meets)
        ];
        reaches = (designates w e).1;
        whole = λ z gone meets. viewed.whole l.object l.way z l.has (inr passed.given) gone (meets_front l.way w z under meets);
        whole_away = λ z away meets. viewed.whole_away l.object l.way z l.has passed.given away (meets_front l.way w z under meets);
        shown = λ named. (let (loan, (k, at_home, above, lent), changed) = viewed.shown.0 l.object l.way l.has passed.given
            (on_named home l.way l.rest (subst (Named home) stands named)) in
            (loan, (k, at_home, under_on k l.way w above under, lent), λ plain. absurd (not_both true refl plain)));
      }

  -- one of what the frame was given needs no loan
  seen_passed : (b : ℕ) (o : Option Way) (k : Way) (n : ℕ) (l : Lifted v k) → IsPassed home observer v s l.object l.way → observer l.object ≡ true
      → Becomes v t b o (v.loan l.object) (next_of v k l) n → observer b ≡ true → LeadsTo o k n → (after_it : List Fact) → Leaves observer facts after_it
      → Viewed home observer other t s after_it
  seen_passed b o k n l passed sees becomes observes designates after_it leaves =
      rebound_any home observer other v t b o (v.loan l.object) (next_of v k l) n becomes s facts after_it viewed (observer_unused b observes)
      leaves.moved leaves.loans leaves.clear (λ w e. inr (passed_on b o k n l passed sees becomes observes designates w e))

  -- what an observer sees of what a part of a formal designates
  part_on : (b : ℕ) (o : Option Way) (k : Way) (n : ℕ) (l : InPart v k) → (becomes : Becomes v t b o (Lost 0) (Lost 0) n) → observer b ≡ true → LeadsTo o k n
      → (w : Way) → o ≡ Some w → FitsPassed home observer other v t b o (Lost 0) (Lost 0) n becomes s w
  part_on b o k n l becomes observes designates w e =
      let part = viewed.views.1 l.object l.steps l.way l.has in
      let stands : w ≡ on l.way l.rest = (designates w e).0 ∙ in_part_way v k l in
      let under : Under l.way w = subst (Under l.way) (sym stands) (on_under l.way l.rest) in
      record {
        sees = observes;
        begins = (part.begins.0, part.begins.1, ap base_of stands ∙ base_on l.way l.rest ∙ part.begins.2);
        given = λ named. named;
        alone = λ x z has plain given meets. elim (viewed.views.0 x z has) [
          | inl view ↦ given view.named
          | inr first ↦ part.apart x z has first.given plain (meets_front l.way w z under meets)
        ];
        reaches = (designates w e).1;
        whole = λ z gone meets. viewed.whole_parts l.object l.steps l.way z l.has gone (meets_front l.way w z under meets);
        whole_away = λ z away meets. viewed.parts_away l.object l.steps l.way z l.has away (meets_front l.way w z under meets);
        shown = λ named. (let (loan, (k, at_home, above, lent), changed) = viewed.shown.1 l.object l.steps l.way l.has
            (on_named home l.way l.rest (subst (Named home) stands named)) in
            (loan, (k, at_home, under_on k l.way w above under, lent), λ plain. absurd (not_both true refl plain)));
      }

  pub seen_part : (b : ℕ) (o : Option Way) (k : Way) (n : ℕ) (l : InPart v k) → Becomes v t b o (Lost 0) (Lost 0) n → observer b ≡ true
      → LeadsTo o k n → (after_it : List Fact) → Leaves observer facts after_it → Viewed home observer other t s after_it
  seen_part b o k n l becomes observes designates after_it leaves =
      rebound_any home observer other v t b o (Lost 0) (Lost 0) n becomes s facts after_it viewed (observer_unused b observes)
      leaves.moved leaves.loans leaves.clear (λ w e. inr (part_on b o k n l becomes observes designates w e))

  -- what another observer sees: its loan serves
  own_again : (b : ℕ) (o : Option Way) (k : Way) (n : ℕ) (l : Lifted v k) → IsView home observer v s facts l.object l.way → observer l.object ≡ true
      → Becomes v t b o (v.loan l.object) (next_of v k l) n → observer b ≡ true → Named home k → LeadsTo o k n
      → (after_it : List Fact) → Leaves observer facts after_it → Viewed home observer other t s after_it
  own_again b o k n l view sees becomes observes named designates after_it leaves =
      let on = next home observer v s facts viewed.views k l view named in
      let loan = subst (λ z. HasLoan observer z l.object facts (name_of (v.loan l.object))) sees view.lent in
      rebound home observer other v t b o (v.loan l.object) (next_of v k l) n becomes s facts after_it viewed (observer_unused b observes)
      leaves.moved leaves.loans leaves.clear
      (λ w e. record {
        named = on.plain.0;
        leads = on.same ∙ sym (designates w e).0;
        begins = on.loan;
        deep = on_deep (v.up l.object) l.rest view.deep;
        plain = on.plain.1;
        older = λ is. absurd (not_both (observer b) observes is);
        lent = subst (λ z. HasLoan observer z b after_it (name_of (v.loan l.object))) (sym observes)
            (loan.0, leaves.loans Observed loan.0 (name_of (v.loan l.object)) loan.1, loan.2);
        reaches = (designates w e).1;
      })

  -- an object that only sees gets what another one sees
  pub seen_again : (b : ℕ) (o : Option Way) (k : Way) (n : ℕ) (l : Lifted v k) → observer l.object ≡ true
      → Becomes v t b o (v.loan l.object) (next_of v k l) n → observer b ≡ true → Named home k → LeadsTo o k n
      → (after_it : List Fact) → Leaves observer facts after_it → Viewed home observer other t s after_it
  seen_again b o k n l sees becomes observes named designates after_it leaves = elim (viewed.views.0 l.object l.way l.has) [
    | inl view ↦ own_again b o k n l view sees becomes observes named designates after_it leaves
    | inr passed ↦ seen_passed b o k n l passed sees becomes observes designates after_it leaves
  ]

  -- no name that is rooted in an object that is reborrowed was moved, or is lent
  pub reborrow_unused : (b : ℕ) (m : Name) → Allows facts (Reborrow b m) → Unused home other.lent v facts b
  reborrow_unused b m allowed = record {
    unmoved = λ n has e. refused (moved_or_lent (object b) (Moved n)) O7 (object b) (Moved n) (whole n b e) (allowed (Moved n) has);
    unlent = λ l n lent e.
        refused (moved_or_lent (object b) (Lent l n.root n)) O7 (object b) (Lent l n.root n) (whole n b e) (allowed (Lent l n.root n) (viewed.lends l n lent).has);
    untaken = λ x w has named off e. (let view = own_of x w has named in
        not_lent (observer x) x (v.loan x) (sym (longer (v.loan x) (v.up x) view.begins).root ∙ e) view.lent);
  }
    where
      whole : (n : Name) (b : ℕ) → n.root ≡ b → overlaps n (object b) ≡ true
      whole n b e = both_true (n.root == b) (agree_along n.sels []) (eq-eqb n.root b e) (nothing n.sels)
        where
          nothing : (k : List _) → agree_along k [] ≡ true
          nothing [] = refl
          nothing (s ∷ k) = refl

      not_lent : (seen : Bool) (x : ℕ) (loan : Way) → number_of loan ≡ b → HasLoan observer seen x facts (name_of loan) → ⊥
      not_lent true x loan e (h, has, sees) =
          refused (moved_or_lent (object b) (Lent Observed h (name_of loan))) O7 (object b) (Lent Observed h (name_of loan)) (whole (name_of loan) b e)
          (allowed (Lent Observed h (name_of loan)) has)
      not_lent false x loan e has =
          refused (moved_or_lent (object b) (Lent Borrowed x (name_of loan))) O7 (object b) (Lent Borrowed x (name_of loan)) (whole (name_of loan) b e)
          (allowed (Lent Borrowed x (name_of loan)) has)

  -- a borrower goes on from where it is
  pub reborrowed : (b : ℕ) (o : Option Way) (m : Name) (k : Way) (n : ℕ) (l : Lifted v k) → l.object ≡ b
      → Becomes v t b o (v.loan l.object) (next_of v k l) n → observer b ≡ false → Named home (v.up l.object) → Named home k → LeadsTo o k n
      → Allows facts (Reborrow b m) → Viewed home observer other t s (effect (Reborrow b m) facts)
  reborrowed b o m k n l same becomes borrows own named designates allowed =
      let act : Act = Reborrow b m in
      let is : observer l.object ≡ false = ap observer same ∙ borrows in
      let view = own_of l.object l.way l.has own in
      let on = next home observer v s facts viewed.views k l view named in
      let loan = subst (λ z. HasLoan observer z l.object facts (name_of (v.loan l.object))) is view.lent in
      rebound home observer other v t b o (v.loan l.object) (next_of v k l) n becomes s facts (effect act facts) viewed
      (reborrow_unused b m allowed)
      (stays act (λ z. refl)) (loan_kept act facts (λ l h z. refl))
      (clear_same observer facts viewed.clear act refl)
      (λ w e. record {
        named = on.plain.0;
        leads = on.same ∙ sym (designates w e).0;
        begins = on.loan;
        deep = on_deep (v.up l.object) l.rest view.deep;
        plain = on.plain.1;
        older = λ z. subst (λ y. number_of (next_of v k l) < y) same (on.less is);
        lent = subst (λ z. HasLoan observer z b (effect act facts) (name_of (v.loan l.object))) (sym borrows)
            (subst (λ z. Has (effect act facts) (Lent Borrowed z (name_of (v.loan l.object)))) same
            (kept_fact act facts (Lent Borrowed l.object (name_of (v.loan l.object))) loan refl));
        reaches = (designates w e).1;
      })

  -- a view that no name is rooted in any more gives its way up
  pub given_up : (b : ℕ) (loan up : Way) (n : ℕ) → Becomes v t b None loan up n → Unused home other.lent v facts b → Viewed home observer other t s facts
  given_up b loan up n becomes unused =
      rebound home observer other v t b None loan up n becomes s facts facts viewed unused (λ m has. has) (λ l h m has. has) viewed.clear
      (λ w e. absurd (none_some w e))
    where
      none_some : (w : Way) → None ≡ Some w → ⊥
      none_some w e = absurd (false≢true (ap is_some e))

pub becomes_with : (v : Views) (b : ℕ) (o : Option Way) (loan up : Way) (n : ℕ) → Becomes v (with_view v b o loan up n) b o loan up n
becomes_with v b o loan up n = record {
  way_is = ap (λ c. if c then o else v.way b) (eq-eqb b b refl);
  loan_is = ap (λ c. if c then loan else v.loan b) (eq-eqb b b refl);
  up_is = ap (λ c. if c then up else v.up b) (eq-eqb b b refl);
  cell_is = ap (λ c. if c then n else v.cell b) (eq-eqb b b refl);
  ways = λ y off. ap (λ c. if c then o else v.way y) (differs y b off);
  loans = λ y off. ap (λ c. if c then loan else v.loan y) (differs y b off);
  ups = λ y off. ap (λ c. if c then up else v.up y) (differs y b off);
  cells = λ y off. ap (λ c. if c then n else v.cell y) (differs y b off);
  part_ways = λ y p. refl;
  part_cells = λ y p. refl;
}
  where
    differs : (y b : ℕ) → (y ≡ b → ⊥) → (y == b) ≡ false
    differs y b off = by (y == b) refl
      where
        by : (c : Bool) → (y == b) ≡ c → (y == b) ≡ false
        by true e = absurd (off (eqb-true y b e))
        by false e = e
