-- Freeing the cell that a name leads to keeps owners, what is known and the ways of views.
use Rattle.std.proofs.Common.{◌≡◌, refl, sym, ap, ◌∙◌, subst, inl, inr, ℕ, Bool, false, List, [], ◌∷◌, ◌++◌}
use Rattle.std.proofs.lemmas.Bool.{false≢true}
use Rattle.machine.specs.place_names.Names.{covers}
use Rattle.machine.specs.place_names.declared.act.Act.{Act}
use Rattle.machine.specs.place_names.declared.act.Act.TheVariants.{Free}
use Rattle.machine.specs.place_names.declared.fact.Fact.{Fact}
use Rattle.machine.specs.place_names.declared.fact.Fact.TheVariants.{Moved}
use Rattle.machine.specs.place_names.Facts.{effect}
use Rattle.soundness.specs.OwnedWays.Ways.{Step, OfVariable, OfHand, OfRoot, Sound, base_of, Loc, OfCell, Inside, Way, Object, Lost, Into, All, Empty, Gone, Held, View, part, along, Below, Reaches, IsRooted, Under, Past, Owned, IsRelease, name_of, number_of, Named, Allows}
use Rattle.soundness.proofs.OwnedWays.Locations.{past_under, under_along, under_itself, reaches_along}
use Rattle.soundness.proofs.OwnedWays.Unique.{one_location, one_way}
use Rattle.soundness.proofs.OwnedWays.Named.{covered_under}
use Rattle.soundness.proofs.OwnedWays.Assigned.{kept_fact, is_false}
use Rattle.soundness.proofs.OwnedWays.Released.{released}
use Rattle.soundness.specs.OwnedLoans.Views.{Views, Around, expand, ExcusedBy, Viewed}
use Rattle.soundness.proofs.OwnedLoans.Meeting.{IsPlain, stands_base}
use Rattle.soundness.proofs.OwnedLoans.Clear.{clear_same}
use Rattle.soundness.proofs.OwnedLoans.Safe.{off_view, off_parts}
use Rattle.soundness.proofs.OwnedLoans.Others.{off_kept}
use Rattle.soundness.proofs.OwnedLoans.Allowed.{loan_kept, free_unlent}
use Rattle.soundness.proofs.OwnedLoans.Moves.{IsPlace, expand_under, reached, view_on, parts_on, moved_parts, own_loan, lends_on}
use Rattle.soundness.proofs.Constructors.{is_empty_word, is_gone_word, is_held_word}

-- ---- what a release leaves

module _ (s t : View) (at : Loc) (n : ℕ) (step : IsRelease s t at n) where
  held_before : (l : Loc) (c : ℕ) → t.word l ≡ Held c → s.word l ≡ Held c
  held_before l c h =
      let other : l ≡ at → ⊥ = λ e. (let is : Held c ≡ Empty = sym h ∙ ap t.word e ∙ step.null in cc) in
      let outside : Below (OfCell n) l → ⊥ = λ b. (let is : Held c ≡ Empty = sym h ∙ ap t.word b.1 ∙ step.empty b.0 in absurd (false≢true (ap is_empty_word is))) in
      sym (step.off l other outside) ∙ h

  gone_before : (l : Loc) → t.word l ≡ Gone → s.word l ≡ Gone
  gone_before l h =
      sym (step.off l (λ e. (let is : Gone ≡ Empty = sym h ∙ ap t.word e ∙ step.null in absurd (false≢true (ap is_empty_word is))))
      (λ b. (let is : Gone ≡ Empty = sym h ∙ ap t.word b.1 ∙ step.empty b.0 in absurd (false≢true (ap is_empty_word is))))) ∙ h

  not_gone : (p : List Step) → t.word (part at p) ≡ Gone → ⊥
  not_gone [] e = let is : Empty ≡ Gone = sym step.null ∙ e in absurd (false≢true (ap is_gone_word is))
  not_gone (i ∷ p) e = let is : Empty ≡ Gone = sym (step.leaf p i) ∙ e in absurd (false≢true (ap is_gone_word is))

  no_number : (p : List Step) (c : ℕ) → t.word (part at p) ≡ Held c → ⊥
  no_number [] c e = let is : Empty ≡ Held c = sym step.null ∙ e in absurd (false≢true (ap is_held_word is))
  no_number (i ∷ p) c e = let is : Empty ≡ Held c = sym (step.leaf p i) ∙ e in absurd (false≢true (ap is_held_word is))

  reached_before : (w : Way) (l : Loc) → IsRooted w → Reaches t w l → Reaches s w l
  reached_before (Object x) l rooted r = r
  reached_before (Lost x) l rooted r = absurd rooted
  reached_before (Into w i) l rooted (m, r, e) = (m, reached_before w m rooted r, e)
  reached_before (All w) l rooted (m, c, r, h, e) = (m, c, reached_before w m rooted r, held_before m c h, e)

  -- a way that the argument's way begins ends below the argument
  stuck : (k w : Way) (l : Loc) → Reaches s k at → IsRooted w → Reaches t w l → Under k w → Below at l
  stuck k (Object x) l target rooted r u = ([], one_location s (Object x) l at r (subst (λ z. Reaches s z at) u target))
  stuck k (Lost x) l target rooted r u = absurd rooted
  stuck k (Into w i) l target rooted (m, r, e) u = elim u [
    | inl same ↦ ([], one_location s (Into w i) l at (reached_before (Into w i) l rooted (m, r, e)) (subst (λ z. Reaches s z at) same target))
    | inr u ↦ (let b = stuck k w m target rooted r u in (i ∷ b.0, e ∙ ap (λ y. Inside y i) b.1))
  ]
  stuck k (All w) l target rooted (m, c, r, h, e) u = elim u [
    | inl same ↦ ([], one_location s (All w) l at (reached_before (All w) l rooted (m, c, r, h, e)) (subst (λ z. Reaches s z at) same target))
    | inr u ↦ (let b = stuck k w m target rooted r u in absurd (no_number b.0 c (sym (ap t.word b.1) ∙ h)))
  ]

  -- a way that doesn't go past the argument reaches what it reached
  reaches_on : (k w : Way) (l : Loc) → Owned s → s.word at ≡ Held n → Reaches s k at → Reaches s w l → (Past k w → ⊥) → Reaches t w l
  reaches_on k (Object x) l owned held target r off = r
  reaches_on k (Lost x) l owned held target r off = (step.keeps x r.0, r.1)
  reaches_on k (Into w i) l owned held target (m, r, e) off = (m, reaches_on k w m owned held target r off, e)
  reaches_on k (All w) l owned held target (m, c, r, h, e) off =
      let other : m ≡ at → ⊥ = λ x. (
      let same = one_way s owned w k m r (subst (Reaches s k) (sym x) target) in
      off (subst (Under k) (sym same) (under_itself k))) in
      let outside : Below (OfCell n) m → ⊥ = λ x. (
      let below = reaches_along s (All k) (OfCell n) x.0 (at, n, target, held, refl) in
      let same = one_way s owned w (along (All k) x.0) m r (subst (Reaches s (along (All k) x.0)) (sym x.1) below) in
      off (subst (Under k) (sym same) (under_along k (All k) x.0 (inr (under_itself k))))) in (
        m,
        c,
        reaches_on k w m owned held target r (λ p. off (past_under k w p)),
        step.off m other outside ∙ h,
        e,
      )

-- ---- under its act

named_there : {f x : ℕ} (w : Way) → base_of w ≡ OfRoot (OfVariable f x) → Named (λ z. f) w
named_there (Object (OfVariable g y)) e = cc
named_there (Object (OfHand h)) e = cc
named_there (Lost n) e = cc
named_there (Into w i) e = named_there w e
named_there (All w) e = named_there w e

module _ (home : ℕ → ℕ) (observer : ℕ → Bool) (other : Around home) (v : Views) where
  -- a way is named where each object lives in the frame that it begins in

  pub freed : (s t : View) (k : Way) (at : Loc) (n : ℕ) (facts : List Fact) → Viewed home observer other v s facts → IsRelease s t at n
      → Named home k → observer (number_of k) ≡ false → IsPlace v k → Reaches s (expand v k) at → s.word at ≡ Held n
      → Allows facts (Free (name_of k)) → Viewed home observer other v t (effect (Free (name_of k)) facts)
  freed s t k at n facts viewed step named plain place target held allowed =
      let act : Act = Free (name_of k) in
      let name : IsPlain home observer v s facts viewed.views k = (named, plain) in
      let base = stands_base home observer v s facts viewed.views k name in
      let known : Sound (λ z. base.0) (ExcusedBy home v other facts) s [] =
      record { owned = viewed.owned; covered = viewed.covered; known = λ w l n' r h. inr (viewed.known w l n' r h) } in
      let sound = released (λ z. base.0) (ExcusedBy home v other facts) s t (expand v k) at n [] known step (named_there (expand v k) base.2) target held in
      record {
        owned = sound.owned;
        covered = sound.covered;
        known = λ w l n' r h. elim (viewed.known w l n' (reached_before s t at n step w l n' r) (gone_before s t at n step l h)) [
          | inr else ↦ inr else
          | inl (inr away) ↦ inl (inr away)
          | inl (inl moved) ↦ inl (inl (
            moved.0,
            (
              moved.1.0,
              kept_fact act facts (Moved (name_of moved.0)) moved.1.1
                  (is_false (covers (name_of k) (name_of moved.0)) (λ e. (
                  let under = expand_under v k moved.0 place (moved_parts home observer other v s facts viewed moved.0 moved.1.1) (covered_under home k moved.0 named moved.1.0 e) in
                  let b = stuck s t at n step (expand v k) w l target n' r (subst (Under (expand v k)) moved.2 under) in
                  not_gone s t at n step b.0 (sym (ap t.word b.1) ∙ h)))),
            ),
            moved.2,
          ))
        ];
        clear = clear_same observer facts viewed.clear act refl;
        views = (
          λ x w has. (let view = viewed.views.0 x w has in
              view_on home observer other v s t facts (effect act facts) x w view (λ seen m. own_loan observer facts (effect act facts) (loan_kept act facts (λ l h z. refl)) seen x m)
              (reaches_on s t at n step (expand v k) w (OfCell (v.cell x)) viewed.owned held target (reached home observer other v s facts x w view)
              (λ past. off_view home observer other v s facts viewed k x w name (free_unlent facts k allowed) has past))),
          parts_on home observer other v s t viewed.views.1
              (λ x p w has reach. reaches_on s t at n step (expand v k) w (OfCell (v.part_cell x p)) viewed.owned held target reach
              (λ past. off_parts home observer other v s facts viewed k x p w name (free_unlent facts k allowed) has past)),
        );
        whole = viewed.whole;
        whole_away = viewed.whole_away;
        shown = viewed.shown;
        whole_parts = viewed.whole_parts;
        parts_away = viewed.parts_away;
        past = viewed.past;
        lends = λ l m lent. lends_on observer v facts (effect act facts) (loan_kept act facts (λ l h z. refl)) l m (viewed.lends l m lent);
        far = λ w n' keeps. reaches_on s t at n step (expand v k) w (OfCell n') viewed.owned held target (viewed.far w n' keeps)
            (λ past. off_kept home observer other v s facts viewed k w n' name (free_unlent facts k allowed) keeps past);
        bare = λ w l p bare q c h. viewed.bare w l p bare q c (held_before s t at n step (part l (q ++ p)) c h);
      }
