-- The ways of views of a frame go on from places of owners that are lent.
use Rattle.std.proofs.Common.{◌≡◌, refl, sym, ap, ◌∙◌, subst, ◌⊎◌, inl, inr, ℕ, zero, suc, ◌<◌, Bool, true, false, List, arith, Some}
use Rattle.std.proofs.lemmas.Bool.{true≢false}
use Rattle.machine.specs.spark_base.Lists.{Has}
use Rattle.machine.specs.place_names.declared.fact.Fact.{Fact}
use Rattle.machine.specs.place_names.Names.{Name as PlaceName}
use Rattle.machine.specs.place_names.declared.fact.Fact.TheVariants.{Lent}
use Rattle.machine.specs.place_names.declared.rule.Loan.{Loan}
use Rattle.machine.specs.place_names.declared.rule.Loan.TheVariants.{Borrowed, Observed}
use Rattle.soundness.specs.OwnedWays.Ways.{Way, Object, Lost, Into, All, View, Under, Named, name_of}
use Rattle.soundness.specs.OwnedLoans.Views.{on, Views, expand, IsThrough, HasLoan, AreShared, AreViews, IsView, Lifted}
use Rattle.soundness.proofs.OwnedLoans.Ways.{under_on, on_under, on_named, lifted_root, lifted_way}
use Rattle.soundness.proofs.OwnedWays.Locations.{under_itself}
use Rattle.soundness.proofs.OwnedLoans.Meeting.{plain_lifts}

named_front : (at_home : ℕ → ℕ) (k w : Way) → Under k w → Named at_home w → Named at_home k
named_front at_home k (Object r) u named = subst (Named at_home) (sym u) named
named_front at_home k (Lost n) u named = absurd named
named_front at_home k (Into w i) u named = elim u [ inl e ↦ subst (Named at_home) (sym e) named | inr u ↦ named_front at_home k w u named ]
named_front at_home k (All w) u named = elim u [ inl e ↦ subst (Named at_home) (sym e) named | inr u ↦ named_front at_home k w u named ]

-- The way of each view goes on from a place of an owner that is lent.
module _ (at_home : ℕ → ℕ) (observer : ℕ → Bool) (v : Views) (s : View) (facts : List Fact) (views : AreViews at_home observer v s facts) where
  abbrev pub GoesOn : Loan → Way → Type 0
  GoesOn l w = (h : ℕ) × (k : Way) × Has facts (Lent l h (name_of k)) × Named at_home k × Under k w

  -- the place of its own loan, where it was taken from an owner
  own_place : (x : ℕ) (w : Way) → IsView at_home observer v s facts x w → expand v (v.up x) ≡ v.up x → Named at_home (v.loan x) × Under (v.loan x) w
  own_place x w view e = (named_front at_home (v.loan x) (v.up x) view.begins view.named, subst (Under (v.loan x)) (sym e ∙ view.leads) view.begins)

  further : (l : Loan) (x : ℕ) (w : Way) → IsView at_home observer v s facts x w → (z : Lifted v (v.up x)) → GoesOn l z.way → GoesOn l w
  further l x w view z these = let (h, k, lent, named, under) = these in (
    h,
    k,
    lent,
    named,
    subst (Under k) (sym (lifted_way v (v.up x) z) ∙ view.leads) (under_on k z.way (on z.way z.rest) under (on_under z.way z.rest)),
  )

  -- what a named way goes on from is named
  front_named : {x : ℕ} (w : Way) → IsView at_home observer v s facts x w → (z : Lifted v (v.up x)) → Named at_home w → Named at_home z.way
  front_named w view z named = on_named at_home z.way z.rest (subst (Named at_home) (sym view.leads ∙ lifted_way v (v.up _) z) named)

  -- Or it goes on from what a view was given that it changes.
  abbrev pub FromGiven : Way → Type 0
  FromGiven w = (x : ℕ) × (u : Way) × (v.way x ≡ Some u) × (Named at_home (v.up x) → ⊥) × (observer x ≡ false) × Under u w

  further_from : (x : ℕ) (w : Way) → IsView at_home observer v s facts x w → (z : Lifted v (v.up x)) → GoesOn Borrowed z.way ⊎ FromGiven z.way
      → GoesOn Borrowed w ⊎ FromGiven w
  further_from x w view z (inl own) = inl (further Borrowed x w view z own)
  further_from x w view z (inr (y, u, has, given, sight, under)) = inr (
    y,
    u,
    has,
    given,
    sight,
    subst (Under u) (sym (lifted_way v (v.up x) z) ∙ view.leads) (under_on u z.way (on z.way z.rest) under (on_under z.way z.rest)),
  )

  from_given : (n x : ℕ) (w : Way) → x < n → observer x ≡ false → v.way x ≡ Some w → GoesOn Borrowed w ⊎ FromGiven w
  from_given zero x w less borrows has = absurd (omega (arith, less))
  from_given (suc n) x w less borrows has = elim (views.0 x w has) [
    | inr passed ↦ inr (x, w, has, passed.given, borrows, under_itself w)
    | inl view ↦ elim (plain_lifts at_home observer v s facts views (v.up x) (view.named, view.plain)) [
      | inl e ↦ (
          let place = own_place x w view e in
          inl (x, v.loan x, subst (λ b. HasLoan observer b x facts (name_of (v.loan x))) borrows view.lent, place.0, place.1))
      | inr z ↦ (
          let root = lifted_root v (v.up x) z in
          let older = view.older borrows in
          further_from x w view z (from_given n z.object z.way (omega (arith, less, older, root)) (ap observer (sym root) ∙ view.plain) z.has))
    ]
  ]

  pub borrower_from : (x : ℕ) (w : Way) → observer x ≡ false → v.way x ≡ Some w → GoesOn Borrowed w ⊎ FromGiven w
  borrower_from x w borrows has = from_given (suc x) x w (omega arith) borrows has

  -- Or it goes on from what others have lent.
  module _ (lent : Loan → PlaceName → Type 0) (shown : AreShared at_home observer lent v) where
    abbrev pub Goes : Loan → Way → Type 0
    Goes l w = GoesOn l w ⊎ IsThrough at_home lent l w

    further_on : (l : Loan) (x : ℕ) (w : Way) → IsView at_home observer v s facts x w → (z : Lifted v (v.up x)) → Goes l z.way → Goes l w
    further_on l x w view z (inl own) = inl (further l x w view z own)
    further_on l x w view z (inr (k, named, under, is)) = inr (
      k,
      named,
      subst (Under k) (sym (lifted_way v (v.up x) z) ∙ view.leads) (under_on k z.way (on z.way z.rest) under (on_under z.way z.rest)),
      is,
    )

    borrower_on : (n x : ℕ) (w : Way) → x < n → observer x ≡ false → v.way x ≡ Some w → Named at_home w → Goes Borrowed w
    borrower_on zero x w less borrows has named = absurd (omega (arith, less))
    borrower_on (suc n) x w less borrows has named = elim (views.0 x w has) [
      | inr passed ↦ inr (let (l, (k, at, under, is), changed) = shown.0 x w has passed.given named in
          (k, at, under, subst (λ z. lent z (name_of k)) (changed borrows) is))
      | inl view ↦ elim (plain_lifts at_home observer v s facts views (v.up x) (view.named, view.plain)) [
        | inl e ↦ (
            let place = own_place x w view e in
            inl (x, v.loan x, subst (λ b. HasLoan observer b x facts (name_of (v.loan x))) borrows view.lent, place.0, place.1))
        | inr z ↦ (
            let root = lifted_root v (v.up x) z in
            let older = view.older borrows in
            further_on Borrowed x w view z (borrower_on n z.object z.way (omega (arith, less, older, root)) (ap observer (sym root) ∙ view.plain) z.has (front_named w view z named)))
      ]
    ]

    pub borrower_goes : (x : ℕ) (w : Way) → observer x ≡ false → v.way x ≡ Some w → Named at_home w → Goes Borrowed w
    borrower_goes x w borrows has named = borrower_on (suc x) x w (omega arith) borrows has named

    pub view_goes : (x : ℕ) (w : Way) → v.way x ≡ Some w → Named at_home w → (l : Loan) × Goes l w × (observer x ≡ false → l ≡ Borrowed)
    view_goes x w has named = by_kind (observer x) refl
      where
        by_kind : (b : Bool) → observer x ≡ b → (l : Loan) × Goes l w × (b ≡ false → l ≡ Borrowed)
        by_kind false e = (Borrowed, borrower_goes x w e has named, λ plain. refl)
        by_kind true e = elim (views.0 x w has) [
          | inr passed ↦ (let (l, through, changed) = shown.0 x w has passed.given named in (l, inr through, λ plain. (let no : true ≡ false = plain in absurd (true≢false no))))
          | inl view ↦ elim (plain_lifts at_home observer v s facts views (v.up x) (view.named, view.plain)) [
            | inl own ↦ (
                let place = own_place x w view own in
                let held = subst (λ b. HasLoan observer b x facts (name_of (v.loan x))) e view.lent in
                (Observed, inl (held.0, v.loan x, held.1, place.0, place.1), λ plain. (let no : true ≡ false = plain in absurd (true≢false no))))
            | inr z ↦ (
                let root = lifted_root v (v.up x) z in
                (Borrowed, further_on Borrowed x w view z (borrower_goes z.object z.way (ap observer (sym root) ∙ view.plain) z.has (front_named w view z named)), λ plain. refl))
          ]
        ]
