-- Some observers give up their ways.
use Rattle.std.proofs.Common.{◌≡◌, refl, sym, ap, ◌∙◌, inl, inr, ℕ, Bool, true, false, List, Some, None, if◌then◌else◌}
use Rattle.std.proofs.lemmas.Bool.{false≢true}
use Rattle.std.specs.Prelude.{is_some}
use Rattle.machine.specs.place_names.declared.fact.Fact.{Fact}
use Rattle.soundness.specs.OwnedWays.Ways.{Step, OfVariable, OfHand, Way, Object, Lost, Into, All, View, number_of, name_of}
use Rattle.soundness.specs.OwnedLoans.Views.{Around, Views, expand_root, expand_part, inner_steps, part_from, expand, Viewed}

abbrev pub without : Views → (ℕ → Bool) → Views
without v fades = record {
  way = λ x. if fades x then None else v.way x;
  loan = v.loan;
  up = v.up;
  cell = v.cell;
  part_way = v.part_way;
  part_cell = v.part_cell;
}

-- one that has a way still had it before
pub had_way : (v : Views) (fades : ℕ → Bool) (x : ℕ) (w : Way) → (without v fades).way x ≡ Some w → (fades x ≡ false) × (v.way x ≡ Some w)
had_way v fades x w e = by_kind (fades x) refl e
  where
    by_kind : (b : Bool) → fades x ≡ b → (if b then None else v.way x) ≡ Some w → (fades x ≡ false) × (v.way x ≡ Some w)
    by_kind true f has = absurd (false≢true (ap is_some has))
    by_kind false f has = (f, has)

pub has_way : (v : Views) (fades : ℕ → Bool) (x : ℕ) → fades x ≡ false → (without v fades).way x ≡ v.way x
has_way v fades x e = ap (λ b. if b then None else v.way x) e

pub no_way : (v : Views) (fades : ℕ → Bool) (x : ℕ) → fades x ≡ true → (without v fades).way x ≡ None
no_way v fades x e = ap (λ b. if b then None else v.way x) e

module _ (home : ℕ → ℕ) (observer : ℕ → Bool) (other : Around home) (v : Views) (fades : ℕ → Bool)
    (sight : (x : ℕ) → fades x ≡ true → observer x ≡ true) where
  abbrev left : Views
  left = without v fades

  stays : (x : ℕ) → observer x ≡ false → fades x ≡ false
  stays x plain = by_kind (fades x) refl
    where
      by_kind : (b : Bool) → fades x ≡ b → fades x ≡ false
      by_kind true e = (let is = sym (sight x e) ∙ plain in cc)
      by_kind false e = e

  part_same : (w : Way) (p : List Step) → part_from left w p ≡ part_from v w p
  part_same (Object (OfVariable f x)) p = refl
  part_same (Object (OfHand h)) p = refl
  part_same (Lost n) p = refl
  part_same (Into w i) p = part_same w p
  part_same (All w) p = refl

  -- names that aren't rooted in observers stand for what they stood for
  expand_left : (u : Way) → observer (number_of u) ≡ false → expand left u ≡ expand v u
  expand_left (Object r) plain = refl
  expand_left (Lost n) plain = refl
  expand_left (Into w i) plain = ap (λ z. Into z i) (expand_left w plain)
  expand_left (All (Object (OfVariable f x))) plain = ap (λ o. expand_root o (OfVariable f x)) (has_way v fades x (stays x plain))
  expand_left (All (Object (OfHand h))) plain = refl
  expand_left (All (Lost n)) plain = refl
  expand_left (All (Into w i)) plain =
      (λ j. expand_part (part_same w (inner_steps (Into w i)) j) (expand_left (Into w i) plain j))
  expand_left (All (All w)) plain = ap All (expand_left (All w) plain)

  pub faded : (s : View) (facts : List Fact) → Viewed home observer other v s facts → Viewed home observer other left s facts
  faded s facts viewed = record {
    owned = viewed.owned;
    covered = viewed.covered;
    known = λ w l rooted r gone. elim (viewed.known w l rooted r gone) [
      | inr o ↦ inr o
      | inl (inr away) ↦ inl (inr away)
      | inl (inl (u, moved, leads)) ↦ inl (inl (u, moved, expand_left u (viewed.clear.owned (name_of u) moved.1) ∙ leads))
    ];
    clear = viewed.clear;
    views = (
      λ x w has. (
          let old = had_way v fades x w has in
          elim (viewed.views.0 x w old.1) [
            | inl view ↦ inl (record {
              named = view.named;
              leads = expand_left (v.up x) view.plain ∙ view.leads;
              begins = view.begins;
              deep = view.deep;
              plain = view.plain;
              older = view.older;
              lent = view.lent;
              reaches = view.reaches;
            })
            | inr passed ↦ inr (record {
              begins = passed.begins;
              given = passed.given;
              alone = λ plain y u there. passed.alone plain y u (had_way v fades y u there).1;
              reaches = passed.reaches;
            })
          ]),
      λ x p w has. (let old = viewed.views.1 x p w has in record {
        begins = old.begins;
        sees = old.sees;
        apart = λ y u there. old.apart y u (had_way v fades y u there).1;
        reaches = old.reaches;
      }),
    );
    whole_parts = viewed.whole_parts;
    parts_away = viewed.parts_away;
    whole = λ x w z has outer gone meets. viewed.whole x w z (had_way v fades x w has).1 outer gone meets;
    whole_away = λ x w z has given away meets. viewed.whole_away x w z (had_way v fades x w has).1 given away meets;
    shown = (λ x w has given named. viewed.shown.0 x w (had_way v fades x w has).1 given named, viewed.shown.1);
    past = λ x w has. viewed.past x w (had_way v fades x w has).1;
    lends = λ l n lent. (let old = viewed.lends l n lent in record {
      has = old.has;
      none = has_way v fades n.root (stays n.root old.plain) ∙ old.none;
      plain = old.plain;
    });
    far = viewed.far;
    bare = viewed.bare;
  }
