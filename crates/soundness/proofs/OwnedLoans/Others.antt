-- What is lent to others, where the facts allow an act: its name meets no place that others have
-- borrowed, and what is changed lies on no way of their views.
use Rattle.std.proofs.Common.{◌≡◌, refl, sym, ap, ◌∙◌, subst, inl, inr, ℕ, Bool, true, List, [], ◌∷◌, ◌++◌, Some}
use Rattle.machine.specs.spark_base.Lists.{Has}
use Rattle.machine.specs.place_names.declared.rule.Loan.{Loan}
use Rattle.machine.specs.place_names.declared.rule.Loan.TheVariants.{Borrowed}
use Rattle.machine.specs.place_names.declared.fact.Fact.{Fact}
use Rattle.machine.specs.place_names.declared.fact.Fact.TheVariants.{Lent}
use Rattle.machine.specs.place_names.Names.{overlaps}
use Rattle.soundness.specs.OwnedWays.Ways.{Step, Loc, OfVariable, OfRoot, Way, Object, Lost, Into, All, View, Under, Past, Named, along, name_of, number_of}
use Rattle.soundness.proofs.OwnedWays.Locations.{past_under, under_itself, under_along}
use Rattle.soundness.proofs.OwnedWays.Named.{longer, under_leads}
use Rattle.soundness.proofs.OwnedWays.Dropped.{named_base}
use Rattle.soundness.specs.OwnedLoans.Views.{Around, Views, expand, HasLoan, IsThrough, IsAway, IsView, Viewed, InPart, Lifted}
use Rattle.soundness.proofs.OwnedLoans.Ways.{Meet, in_part_way, lifted_way, flip, meets_on, meets_front, beginnings, under_on, on_under, meet_overlaps, next_of}
use Rattle.soundness.proofs.OwnedLoans.Meeting.{IsPlain, stands, next, IsOwn}
use Rattle.soundness.proofs.OwnedLoans.Safe.{under_shorter, past_front, Open, OpenWhole, Unlent, Unborrowed, Unmoved, lent_fact, lent_itself, only_itself, seen_lent, open_way, open_above, seen_above, seen_way, clean_below, seen_below, part_above, part_below}
use Rattle.soundness.proofs.Parted.{by_either}

-- what goes past a way goes past what begins it
pub under_past : (a b w : Way) → Under a b → Past b w → Past a w
under_past a b (Object r) u p = p
under_past a b (Lost n) u p = p
under_past a b (Into w i) u p = under_past a b w u p
under_past a b (All w) u p = under_on a b w u p

root_variable : (f x g y : ℕ) → OfRoot (OfVariable f x) ≡ OfRoot (OfVariable g y) → (f ≡ g) × (x ≡ y)
root_variable f x g y e = (cc, cc)

along_more : (w : Way) (p q : List Step) → along (along w p) q ≡ along w (q ++ p)
along_more w p [] = refl
along_more w p (i ∷ q) = ap (λ z. Into z i) (along_more w p q)

module _ (home : ℕ → ℕ) (observer : ℕ → Bool) (other : Around home) (v : Views) (s : View) (facts : List Fact)
    (viewed : Viewed home observer other v s facts) where
  abbrev IsName : Way → Type 0
  IsName u = IsPlain home observer v s facts viewed.views u

  -- ---- one place that others have lent

  -- what a name that belongs to the frame stands for meets it only if the name does
  own_met : (l : Loan) (k u : Way) → other.lent l (name_of k) → IsOwn home observer v s facts viewed.views u → Meet (expand v u) k → Meet u k
  own_met l k u lent own meets = only_itself home observer other v s facts viewed l k u lent (own.touches k meets)

  -- so it doesn't if nothing that is lent overlaps it
  own_unmet : (l : Loan) (k u : Way) → other.lent l (name_of k) → IsOwn home observer v s facts viewed.views u
      → (Has facts (Lent l (number_of k) (name_of k)) → overlaps (name_of k) (name_of u) ≡ true → ⊥) → Meet (expand v u) k → ⊥
  own_unmet l k u lent own unlent meets =
      unlent (lent_fact home observer other v s facts viewed l k lent) (meet_overlaps k u (flip u k (own_met l k u lent own meets)))

  -- ---- what is gone for others that have borrowed the place that it goes on from

  module _ (w : Way) (away : other.away w) where
    abbrev through : IsThrough home other.lent Borrowed w
    through = other.through w away

    -- what a view was given doesn't meet it
    held_off : (o : ℕ) (k : Way) → v.way o ≡ Some k → (Named home (v.up o) → ⊥) → (u : Way) → Under k u → Meet w u → ⊥
    held_off o k has given u under meets = viewed.whole_away o k w has given away (meets_front k u w under meets)

    pub below_through : (u : Way) → IsName u → Unborrowed facts u → Under (expand v u) w → ⊥
    below_through u name free below =
        let (k, named, under, lent) = through in
        elim (stands home observer v s facts viewed.views u name) [
          | inr held ↦ held_off held.object held.way held.has held.passed.given (expand v u) held.under (inr below)
          | inl own ↦ own_unmet Borrowed k u lent own (free (number_of k) (name_of k)) (beginnings (expand v u) k w below under)
        ]

    open_through : (u : Way) → IsName u → Open facts u → Past w (expand v u) → ⊥
    open_through u name free past =
        let (k, named, under, lent) = through in
        let above = past_under w (expand v u) past in
        elim (stands home observer v s facts viewed.views u name) [
          | inr held ↦ held_off held.object held.way held.has held.passed.given (expand v u) held.under (inl above)
          | inl own ↦ by_place k lent under (own_met Borrowed k u lent own (inr (under_on k w (expand v u) under above)))
        ]
      where
        by_place : (k : Way) → other.lent Borrowed (name_of k) → Under k w → Meet u k → ⊥
        by_place k lent under (inl a) =
            past_front u w (under_on u k w a under)
            (subst (Past w) (lent_itself home observer other v s facts viewed Borrowed k lent u (sym (longer u k a).root)) past)
        by_place k lent under (inr a) = elim (under_shorter k u a) [
          | inl e ↦ past_front k w under (subst (Past w) (lent_itself home observer other v s facts viewed Borrowed k lent u (ap number_of (sym e)) ∙ sym e) past)
          | inr less ↦ free.lent (number_of k) (name_of k) (lent_fact home observer other v s facts viewed Borrowed k lent) (under_leads k u a) less
        ]

    -- nor is it one that is open as a whole, or begins that
    above_through : (u : Way) → IsName u → OpenWhole facts u → Under w (expand v u) → ⊥
    above_through u name free above =
        let (k, named, under, lent) = through in
        elim (stands home observer v s facts viewed.views u name) [
          | inr held ↦ held_off held.object held.way held.has held.passed.given (expand v u) held.under (inl above)
          | inl own ↦ by_place k lent (under_on k w (expand v u) under above) (own_met Borrowed k u lent own (inr (under_on k w (expand v u) under above)))
        ]
      where
        by_place : (k : Way) → other.lent Borrowed (name_of k) → Under k (expand v u) → Meet u k → ⊥
        by_place k lent below meets =
            let root : number_of u ≡ number_of k = elim meets [ inl a ↦ sym (longer u k a).root | inr a ↦ (longer k u a).root ] in
            free.lent (number_of k) (name_of k) (lent_fact home observer other v s facts viewed Borrowed k lent)
            (under_leads k u (subst (Under k) (lent_itself home observer other v s facts viewed Borrowed k lent u root) below))

    -- a name through an observer meets none
    seen_own : (u : Way) (z : Lifted v u) → IsView home observer v s facts z.object z.way → Named home u → observer z.object ≡ true → Meet w (expand v u) → ⊥
    seen_own u z view named_u is meets =
        let (k, named, under, lent) = through in
        let on = next home observer v s facts viewed.views u z view named_u in
        let y : Way = next_of v u z in
        let loan = subst (λ b. HasLoan observer b z.object facts (name_of (v.loan z.object))) is view.lent in
        let there : Meet w (expand v y) = subst (Meet w) (sym on.same) meets in
        elim (stands home observer v s facts viewed.views y on.plain) [
          | inr held ↦ held_off held.object held.way held.has held.passed.given (expand v y) held.under there
          | inl own ↦ seen_lent home observer other v s facts viewed k lent loan.0 (v.loan z.object) loan.1
              (meets_on (v.loan z.object) y k on.loan (own_met Borrowed k y lent own (meets_front k w (expand v y) under (flip w (expand v y) there))))
        ]

    seen_through : (u : Way) (z : Lifted v u) → Named home u → observer z.object ≡ true → Meet w (expand v u) → ⊥
    seen_through u z named is meets = elim (viewed.views.0 z.object z.way z.has) [
      | inl view ↦ seen_own u z view named is meets
      | inr passed ↦ held_off z.object z.way z.has passed.given (expand v u) (subst (Under z.way) (sym (lifted_way v u z)) (on_under z.way z.rest)) meets
    ]

    -- nor does one that goes through a part of a formal
    part_through : (u : Way) (z : InPart v u) → Meet w (expand v u) → ⊥
    part_through u z meets =
        viewed.parts_away z.object z.steps z.way w z.has away
        (meets_front z.way (expand v u) w (subst (Under z.way) (sym (in_part_way v u z)) (on_under z.way z.rest)) meets)

  -- ---- all of it

  -- what is changed lies above no way of others
  pub off_kept : (u w : Way) (n : ℕ) → IsName u → Unlent facts u → other.kept w n → Past (expand v u) w → ⊥
  off_kept u w n name unlent keeps past =
      by_either (stands home observer v s facts viewed.views u name)
      (λ own. (let root = other.begins w n keeps in by_either root.3
      (λ away. (
      let base = sym root.2 ∙ (longer (expand v u) w (past_under (expand v u) w past)).base ∙ named_base home (expand v u) own.named in
      let same = root_variable root.0 root.1 (home (number_of (expand v u))) (number_of (expand v u)) base in
      away (same.0 ∙ ap home (sym same.1))))
      (λ (l, (k, named, under, lent)). (own_unmet l k u lent own (unlent l (number_of k) (name_of k)) (beginnings (expand v u) k w (past_under (expand v u) w past) under)))))
      (λ held. (viewed.past held.object held.way held.has held.passed.given held.plain w n keeps
      (under_past held.way (expand v u) w held.under past)))

  -- nor is it above what is bare, or below it
  pub off_bare : (u w : Way) (l : Loc) (p q : List Step) → IsName u → Unlent facts u → other.bare w l p → Under (expand v u) (along w (q ++ p)) → ⊥
  off_bare u w l p q name unlent bare under =
      let z : Way = along w (q ++ p) in
      by_either (stands home observer v s facts viewed.views u name)
      (λ own. (let root = other.bares w l p bare in by_either root.3
      (λ away. (
      let base = sym root.2 ∙ sym (longer w z (under_along w w (q ++ p) (under_itself w))).base ∙ (longer (expand v u) z under).base ∙ named_base home (expand v u) own.named in
      let same = root_variable root.0 root.1 (home (number_of (expand v u))) (number_of (expand v u)) base in
      away (same.0 ∙ ap home (sym same.1))))
      (λ (loan, (k, named, below, lent)). (own_unmet loan k u lent own (unlent loan (number_of k) (name_of k))
      (beginnings (expand v u) k z under (subst (Under k) (along_more w p q) (under_along k (along w p) q below)))))))
      (λ held. (by_either (other.emptied w l p bare q)
      (λ gone. (viewed.whole held.object held.way z held.has (inr held.passed.given) gone (inr (under_on held.way (expand v u) z held.under under))))
      (λ away. (viewed.whole_away held.object held.way z held.has held.passed.given away (inr (under_on held.way (expand v u) z held.under under))))))

  -- nothing that is away lies above a name that is open
  pub open_away : (u w : Way) → IsName u → Open facts u → Past w (expand v u) → IsAway home v other facts w → ⊥
  open_away u w name free past (inl moved) = open_way home observer other v s facts viewed u w name free past moved
  open_away u w name free past (inr away) = open_through w away u name free past

  -- nor is it the name itself, or what begins it, if that is open as a whole
  pub above_away : (u w : Way) → IsName u → OpenWhole facts u → Under w (expand v u) → IsAway home v other facts w → ⊥
  above_away u w name free above (inl moved) = open_above home observer other v s facts viewed u w name free above moved
  above_away u w name free above (inr away) = above_through w away u name free above

  pub itself_away : (u : Way) → IsName u → OpenWhole facts u → IsAway home v other facts (expand v u) → ⊥
  itself_away u name free away = above_away u (expand v u) name free (under_itself (expand v u)) away

  -- nor above one through an observer
  pub seen_away : (u w : Way) (l : Lifted v u) → Named home u → observer l.object ≡ true → Past w (expand v u) → IsAway home v other facts w → ⊥
  seen_away u w l named is past (inl moved) = seen_way home observer other v s facts viewed u w l named is past moved
  seen_away u w l named is past (inr away) = seen_through w away u l named is (inl (past_under w (expand v u) past))

  pub seen_above_away : (u w : Way) (l : Lifted v u) → Named home u → observer l.object ≡ true → Under w (expand v u) → IsAway home v other facts w → ⊥
  seen_above_away u w l named is above (inl moved) = seen_above home observer other v s facts viewed u w l named is above moved
  seen_above_away u w l named is above (inr away) = seen_through w away u l named is (inl above)

  -- nor does it meet one through a part of a formal
  pub part_above_away : (u w : Way) (l : InPart v u) → Under w (expand v u) → IsAway home v other facts w → ⊥
  part_above_away u w l above (inl moved) = part_above home observer other v s facts viewed u w l above moved
  part_above_away u w l above (inr away) = part_through w away u l (inl above)

  pub part_away_below : (u w : Way) (l : InPart v u) → Under (expand v u) w → IsAway home v other facts w → ⊥
  part_away_below u w l below (inl moved) = part_below home observer other v s facts viewed u w l below moved
  part_away_below u w l below (inr away) = part_through w away u l (inr below)

  -- nor at or below a name that overlaps nothing moved or borrowed
  pub clean_away : (u w : Way) → IsName u → Unborrowed facts u → Unmoved facts u → Under (expand v u) w → IsAway home v other facts w → ⊥
  clean_away u w name free unmoved below (inl moved) = clean_below home observer other v s facts viewed u w name free unmoved below moved
  clean_away u w name free unmoved below (inr away) = below_through w away u name free below

  pub seen_away_below : (u w : Way) (l : Lifted v u) → Named home u → observer l.object ≡ true → Under (expand v u) w → IsAway home v other facts w → ⊥
  seen_away_below u w l named is below (inl moved) = seen_below home observer other v s facts viewed u w l named is below moved
  seen_away_below u w l named is below (inr away) = seen_through w away u l named is (inr below)
