-- A move keeps owners, what is known and the ways of views, where the facts allow its act on a name
-- that may be rooted in a borrower. So does a cell that is made.
use Rattle.std.proofs.Common.{◌≡◌, refl, sym, ap, ◌∙◌, subst, ◌⊎◌, inl, inr, ℕ, Bool, true, false, not, List, [], ◌∷◌, ◌++◌, Some, None}
use Rattle.std.specs.List.{filter}
use Rattle.machine.specs.spark_base.Lists.{Has}
use Rattle.spark_base.proofs.Lists.{Has-append_right, Has-map}
use Rattle.machine.specs.place_names.declared.selector.Sel.{Sel}
use Rattle.machine.specs.place_names.declared.rule.Loan.{Loan}
use Rattle.machine.specs.place_names.declared.rule.Loan.TheVariants.{Borrowed, Observed}
use Rattle.machine.specs.place_names.Names.{Name, extend, covers}
use Rattle.machine.specs.place_names.declared.act.Act.{Act}
use Rattle.machine.specs.place_names.declared.act.Act.TheVariants.{Move, Write}
use Rattle.machine.specs.place_names.declared.fact.Fact.{Fact}
use Rattle.machine.specs.place_names.declared.fact.Fact.TheVariants.{Moved, Lent}
use Rattle.machine.specs.place_names.Facts.{adds, removes, effect}
use Rattle.machine.specs.place_names.Rules.{lent}
use Rattle.soundness.specs.OwnedWays.Ways.{Step, Root, OfVariable, OfHand, Loc, OfRoot, OfCell, Way, Object, Lost, Into, All, Gone, Held, View, part, along, Reaches, IsRooted, Under, Past, Known, IsMove, IsFresh, IsSame, base_of, name_of, number_of, Named, Excused, Spares, Allows, Sound}
use Rattle.soundness.proofs.OwnedWays.Locations.{past_under, under_along, under_itself, reaches_along, same_loc}
use Rattle.soundness.proofs.OwnedWays.Unique.{one_way}
use Rattle.soundness.proofs.OwnedWays.Named.{longer, covered_under}
use Rattle.soundness.proofs.OwnedWays.Assigned.{kept_fact, is_false, Apart, given_apart, InHand, same_sound}
use Rattle.soundness.proofs.OwnedWays.Moving.{Given, owner_before, keeps, owned_after, covered_after, known_after}
use Rattle.soundness.proofs.OwnedWays.Released.{freshly, fresh_on}
use Rattle.soundness.proofs.OwnedWays.Dropped.{named_base}
use Rattle.soundness.specs.OwnedLoans.Views.{on, Views, Around, way_at, expand, expand_root, expand_part, IsMovedBy, IsAway, ExcusedBy, AreClear, HasLoan, IsView, IsForeign, IsPassed, ArePartsSeen, AreViews, IsLentToOthers, Viewed}
use Rattle.soundness.proofs.OwnedLoans.Ways.{home_or_foreign, part_none}
use Rattle.soundness.proofs.OwnedLoans.Meeting.{IsPlain, no_part, stands, stands_base}
use Rattle.soundness.proofs.OwnedLoans.Clear.{nothing_new, clear_move, clear_same}
use Rattle.soundness.proofs.OwnedLoans.Safe.{off_view, off_parts}
use Rattle.soundness.proofs.OwnedLoans.Others.{off_kept, off_bare, clean_away}
use Rattle.soundness.proofs.OwnedLoans.Allowed.{LoansStay, loan_kept, move_unlent, move_unmoved, write_unlent}
use Rattle.soundness.proofs.Parted.{by_either}

-- ---- names and what they stand for

pub expand_along : (v : Views) (u : Way) (p : List Step) → expand v (along u p) ≡ along (expand v u) p
expand_along v u [] = refl
expand_along v u (i ∷ p) = ap (λ z. Into z i) (expand_along v u p)

named_part : (home : ℕ → ℕ) (w : Way) (p : List Step) → Named home w → Named home (along w p)
named_part home w [] n = n
named_part home w (i ∷ p) n = named_part home w p n

-- A name isn't that of a view with a value alone.
abbrev pub IsPlace : Views → Way → Type 0
IsPlace v k = (r : Root) → k ≡ Object r → way_at v r ≡ None

pub expand_under : (v : Views) (k w : Way) → IsPlace v k → ((p : List Step) → v.part_way (number_of w) p ≡ None) → Under k w → Under (expand v k) (expand v w)
expand_under v k (Object r) place none u = ap (expand v) u
expand_under v k (Lost n) place none u = ap (expand v) u
expand_under v k (Into w i) place none u = by_either u (λ e. (inl (ap (expand v) e))) (λ u. (inr (expand_under v k w place none u)))
expand_under v k (All (Object r)) place none u = by_either u
    (λ e. (subst (λ z. Under z (expand v (All (Object r)))) (sym (ap (expand v) e)) (self (expand v (All (Object r))))))
    (λ e. (let none = place r e in
    subst (λ z. Under (expand v k) (expand_root z r)) (sym none) (inr (ap (expand v) e))))
  where
    self : (w : Way) → Under w w
    self (Object r) = refl
    self (Lost n) = refl
    self (Into w i) = inl refl
    self (All w) = inl refl
expand_under v k (All (Lost n)) place none u = by_either u (λ e. (inl (ap (expand v) e))) (λ u. (inr (ap (expand v) u)))
expand_under v k (All (Into w i)) place none u = by_either u
    (λ e. (subst (λ z. Under z (expand v (All (Into w i)))) (sym (ap (expand v) e)) (under_itself (expand v (All (Into w i))))))
    (λ u. (subst (λ z. Under (expand v k) (expand_part z (expand v (Into w i)))) (sym (part_none v (Into w i) (inr none)))
    (inr (expand_under v k (Into w i) place none u))))
expand_under v k (All (All w)) place none u = by_either u (λ e. (inl (ap (expand v) e))) (λ u. (inr (expand_under v k (All w) place none u)))

abbrev hand_of : Way → ℕ
hand_of (Object (OfVariable f x)) = 0
hand_of (Object (OfHand h)) = h
hand_of (Lost n) = 0
hand_of (Into w i) = hand_of w
hand_of (All w) = hand_of w

-- a hand begins no way of a name
hand_under : (f v : Way) → InHand f → Under f v → InHand v
hand_under f (Object r) n u = subst InHand u n
hand_under f (Lost x) n u = subst InHand u n
hand_under f (Into w i) n u = by_either u (λ e. (subst InHand e n)) (λ u. (hand_under f w n u))
hand_under f (All w) n u = by_either u (λ e. (subst InHand e n)) (λ u. (hand_under f w n u))

same_reaches : (s t : View) → IsSame s t → (w : Way) (l : Loc) → Reaches s w l → Reaches t w l
same_reaches s t e (Object r) l h = h
same_reaches s t e (Lost n) l h = (e.leaked n ∙ h.0, h.1)
same_reaches s t e (Into w i) l (m, h, is) = (m, same_reaches s t e w m h, is)
same_reaches s t e (All w) l (m, n, h, held, is) = (m, n, same_reaches s t e w m h, e.word m ∙ held, is)

no_hand_base : {f x : ℕ} (w : Way) → InHand w → base_of w ≡ OfRoot (OfVariable f x) → ⊥
no_hand_base (Object (OfVariable g y)) n e = n
no_hand_base (Object (OfHand h)) n e = cc
no_hand_base (Lost x) n e = n
no_hand_base (Into w i) n e = no_hand_base w n e
no_hand_base (All w) n e = no_hand_base w n e

hand_rooted : (w : Way) → InHand w → IsRooted w
hand_rooted (Object r) n = tt
hand_rooted (Lost x) n = absurd n
hand_rooted (Into w i) n = hand_rooted w n
hand_rooted (All w) n = hand_rooted w n

bases_apart : {a b : Loc} {g x h : ℕ} → a ≡ OfRoot (OfVariable g x) → b ≡ OfRoot (OfHand h) → a ≡ b → ⊥
bases_apart p q e = cc

pub variable_apart : {g x : ℕ} (f k : Way) → base_of f ≡ OfRoot (OfVariable g x) → InHand k → base_of f ≡ base_of k → ⊥
variable_apart f k base inhand e = bases_apart base (hand_base k inhand) e
  where
    hand_base : (k : Way) (n : InHand k) → base_of k ≡ OfRoot (OfHand (hand_of k))
    hand_base (Object (OfVariable f x)) n = absurd n
    hand_base (Object (OfHand h)) n = refl
    hand_base (Lost n) i = absurd i
    hand_base (Into w i) n = hand_base w n
    hand_base (All w) n = hand_base w n

pub hand_apart : (home : ℕ → ℕ) (f k : Way) → Named home f → InHand k → base_of f ≡ base_of k → ⊥
hand_apart home f k named inhand e = variable_apart f k (named_base home f named) inhand e

pub base_rooted : {f x : ℕ} (w : Way) → base_of w ≡ OfRoot (OfVariable f x) → IsRooted w
base_rooted (Object r) e = tt
base_rooted (Lost n) e = cc
base_rooted (Into w i) e = base_rooted w e
base_rooted (All w) e = base_rooted w e

-- ---- where loans stay

pub own_loan : (observer : ℕ → Bool) (facts facts' : List Fact) → LoansStay facts facts' → (seen : Bool) (x : ℕ) (n : Name)
    → HasLoan observer seen x facts n → HasLoan observer seen x facts' n
own_loan observer facts facts' stay true x n (h, lent, sees) = (h, stay Observed h n lent, sees)
own_loan observer facts facts' stay false x n lent = stay Borrowed x n lent

pub lends_on : (observer : ℕ → Bool) (v : Views) (facts facts' : List Fact) → LoansStay facts facts' → (l : Loan) (n : Name)
    → IsLentToOthers observer v facts l n → IsLentToOthers observer v facts' l n
lends_on observer v facts facts' stay l n lent = record { has = stay l n.root n lent.has; none = lent.none; plain = lent.plain }

-- ---- a move, whatever the act

-- the ways that others keep go past no hand
module _ (home : ℕ → ℕ) (other : Around home) where
  pub far_hand : (f w : Way) (n : ℕ) → InHand f → other.kept w n → Past f w → ⊥
  far_hand f w n inhand keeps past =
      let root = other.begins w n keeps in
      variable_hand (hand_under f w inhand (past_under f w past)) root.2
    where
      variable_hand : {g x : ℕ} → InHand w → base_of w ≡ OfRoot (OfVariable g x) → ⊥
      variable_hand i e = no_hand_base w i e

module _ (home : ℕ → ℕ) (observer : ℕ → Bool) (other : Around home) (v : Views) where
  -- A view with a value, of its own frame or of another one's.
  abbrev pub Either : View → List Fact → ℕ → Way → Type 0
  Either s facts x w = IsView home observer v s facts x w ⊎ IsPassed home observer v s x w

  pub reached : (s : View) (facts : List Fact) (x : ℕ) (w : Way) → Either s facts x w → Reaches s w (OfCell (v.cell x))
  reached s facts x w (inl view) = view.reaches
  reached s facts x w (inr passed) = passed.reaches

  own_on : (s t : View) (facts facts' : List Fact) (x : ℕ) (w : Way) → IsView home observer v s facts x w
      → ((seen : Bool) (n : Name) → HasLoan observer seen x facts n → HasLoan observer seen x facts' n) → Reaches t w (OfCell (v.cell x)) → IsView home observer v t facts' x w
  own_on s t facts facts' x w view loans reaches = record {
    named = view.named;
    leads = view.leads;
    begins = view.begins;
    deep = view.deep;
    plain = view.plain;
    older = view.older;
    lent = loans (observer x) (name_of (v.loan x)) view.lent;
    reaches = reaches;
  }

  pub view_on : (s t : View) (facts facts' : List Fact) (x : ℕ) (w : Way) → Either s facts x w
      → ((seen : Bool) (n : Name) → HasLoan observer seen x facts n → HasLoan observer seen x facts' n) → Reaches t w (OfCell (v.cell x)) → Either t facts' x w
  view_on s t facts facts' x w (inl view) loans reaches = inl (own_on s t facts facts' x w view loans reaches)
  view_on s t facts facts' x w (inr passed) loans reaches =
      inr (record { begins = passed.begins; given = passed.given; alone = passed.alone; reaches = reaches })

  -- Parts are seen in another state where their ways reach what they reached.
  pub parts_on : (s t : View) → ArePartsSeen home observer v s
      → ((x : ℕ) (p : List Step) (w : Way) → v.part_way x p ≡ Some w → Reaches s w (OfCell (v.part_cell x p)) → Reaches t w (OfCell (v.part_cell x p)))
      → ArePartsSeen home observer v t
  parts_on s t seen reaches x p w has =
      let old = seen x p w has in record { begins = old.begins; sees = old.sees; apart = old.apart; reaches = reaches x p w has old.reaches }

  -- No way of a view goes past a place.
  abbrev pub Off : Way → Type 0
  Off f = ((x : ℕ) (w : Way) → v.way x ≡ Some w → Past f w → ⊥) × ((x : ℕ) (p : List Step) (w : Way) → v.part_way x p ≡ Some w → Past f w → ⊥)

  -- Nor does one of others.
  abbrev pub OffFar : Way → Type 0
  OffFar f = (w : Way) (n : ℕ) → other.kept w n → Past f w → ⊥

  -- Nothing that is bare is a part of a place, or has it for a part.
  abbrev pub OffBare : Way → Type 0
  OffBare f = (w : Way) (l : Loc) (p : List Step) → other.bare w l p → (q : List Step) → Under f (along w (q ++ p)) → ⊥

  -- its way leads there
  pub rests_there : (s : View) (facts : List Fact) → Viewed home observer other v s facts → (w : Way) (l : Loc) (p : List Step) → other.bare w l p → Reaches s w l
  rests_there s facts viewed w l p bare = by_either (other.rests w l p bare)
      (λ (n, kept, is). (subst (Reaches s w) (sym is) (viewed.far w n kept)))
      (λ (r, is, at). (subst (λ z. Reaches s z l) (sym is) at))

  -- what is bare gets no number
  pub bare_on : (s t : View) (k : Way) (from to : Loc) (facts : List Fact) → Viewed home observer other v s facts → IsMove s t from to → Reaches s k to → OffBare k
      → (w : Way) (l : Loc) (p : List Step) → other.bare w l p → (q : List Step) (c : ℕ) → t.word (part l (q ++ p)) ≡ Held c → ⊥
  bare_on s t k from to facts viewed move target off w l p bare q c held =
      by_either (owner_before s t from to move (part l (q ++ p)) c held)
      (λ (r, is, before). (
      let reach = rests_there s facts viewed w l p bare in
      let same = one_way s viewed.owned (along w (q ++ p)) (along k r) (part l (q ++ p)) (reaches_along s w l (q ++ p) reach)
      (subst (Reaches s (along k r)) (sym is) (reaches_along s k to r target)) in
      off w l p bare q (subst (Under k) (sym same) (under_along k k r (under_itself k)))))
      (λ stays. (viewed.bare w l p bare q c stays.word))

  pub moved_on : (s t : View) (f k : Way) (from to : Loc) (facts facts' : List Fact) → Given s t f k from to
      → Viewed home observer other v s facts → IsRooted f
      → ((w : Way) → Under f w → ExcusedBy home v other facts w → ⊥)
      → ((w : Way) → IsMovedBy home v facts w → (Under k w → ⊥) → IsMovedBy home v facts' w)
      → ((p : List Step) → t.word (part from p) ≡ Gone → ExcusedBy home v other facts' (along f p))
      → AreClear observer facts' → LoansStay facts facts'
      → Off f → Off k → OffFar f → OffFar k → OffBare k → Viewed home observer other v t facts'
  moved_on s t f k from to facts facts' given viewed rooted clean stays adds clear loans off away far_off far_away off_bare = record {
    owned = owned_after s t f k from to given;
    covered = covered_after s t f k from to given viewed.covered;
    known = known_after s t f k from to (ExcusedBy home v other facts) (ExcusedBy home v other facts') given viewed.known rooted clean
        (λ w moved apart. by_either moved (λ away. (inl (by_either away (λ m. (inl (stays w m apart))) (λ o. (inr o))))) (λ o. (inr o))) adds;
    clear = clear;
    views = (
      λ x w has. (let view = viewed.views.0 x w has in
          view_on s t facts facts' x w view (λ seen n. own_loan observer facts facts' loans seen x n)
          (keeps s t f k from to given w (OfCell (v.cell x)) (reached s facts x w view) (λ p. off.0 x w has p) (λ p. away.0 x w has p))),
      parts_on s t viewed.views.1
          (λ x p w has reach. keeps s t f k from to given w (OfCell (v.part_cell x p)) reach (λ past. off.1 x p w has past) (λ past. away.1 x p w has past)),
    );
    whole = viewed.whole;
    whole_away = viewed.whole_away;
    shown = viewed.shown;
    whole_parts = viewed.whole_parts;
    parts_away = viewed.parts_away;
    past = viewed.past;
    lends = λ l n lent. lends_on observer v facts facts' loans l n (viewed.lends l n lent);
    far = λ w n held. keeps s t f k from to given w (OfCell n) (viewed.far w n held) (λ p. far_off w n held p) (λ p. far_away w n held p);
    bare = bare_on s t k from to facts viewed given.move given.target off_bare;
  }

  -- what a name stands for begins at a variable
  pub rooted_way : (s : View) (facts : List Fact) (views : AreViews home observer v s facts) (u : Way) → IsPlain home observer v s facts views u → IsRooted (expand v u)
  rooted_way s facts views u plain = (let base = stands_base home observer v s facts views u plain in base_rooted (expand v u) base.2)

  -- the way of each view begins at a variable
  pub view_rooted : (s : View) (facts : List Fact) (views : AreViews home observer v s facts) (x : ℕ) (w : Way) → v.way x ≡ Some w
      → (f : ℕ) × (y : ℕ) × (base_of w ≡ OfRoot (OfVariable f y)) × (Named home w ⊎ IsForeign home w)
  view_rooted s facts views x w has = elim (views.0 x w has) [
    | inl view ↦ elim (stands home observer v s facts views (v.up x) (view.named, view.plain)) [
      | inl own ↦ (let named = subst (Named home) view.leads own.named in (home (number_of w), number_of w, named_base home w named, inl named))
      | inr held ↦ (
          let (f, y, begins) = held.passed.begins in
          let base : base_of w ≡ OfRoot (OfVariable f y) = ap base_of (sym view.leads) ∙ (longer held.way (expand v (v.up x)) held.under).base ∙ begins in
          (f, y, base, home_or_foreign home w (f, y, base)))
    ]
    | inr passed ↦ (passed.begins.0, passed.begins.1, passed.begins.2, home_or_foreign home w passed.begins)
  ]

  pub hand_off : (s : View) (facts : List Fact) (views : AreViews home observer v s facts) (f : Way) → InHand f → Off f
  hand_off s facts views f inhand = (
    λ x w has past. (let root = view_rooted s facts views x w has in no_hand_base w (hand_under f w inhand (past_under f w past)) root.2),
    λ x p w has past. no_hand_base w (hand_under f w inhand (past_under f w past)) (views.1 x p w has).begins.2,
  )

  hand_far : (f : Way) → InHand f → OffFar f
  hand_far f inhand w n keeps past = far_hand home other f w n inhand keeps past

  pub hand_bare : (f : Way) → InHand f → OffBare f
  hand_bare f inhand w l p bare q under =
      let root = other.bares w l p bare in
      no_hand_base (along w (q ++ p)) (hand_under f (along w (q ++ p)) inhand under) ((longer w (along w (q ++ p)) (under_along w w (q ++ p) (under_itself w))).base ∙ root.2)

  -- what is moved by a fact is no hand
  pub no_hand : (s : View) (facts : List Fact) → Viewed home observer other v s facts → (f w : Way) → InHand f → Under f w → IsAway home v other facts w → ⊥
  no_hand s facts viewed f w inhand under (inr away) =
      let t = other.through w away in
      hand_apart home t.0 f t.1 inhand (sym (longer t.0 w t.2).base ∙ (longer f w under).base)
  no_hand s facts viewed f w inhand under (inl (u, moved, same)) =
      (let base = stands_base home observer v s facts viewed.views u (moved.0, viewed.clear.owned (name_of u) moved.1) in
      no_hand_base w (hand_under f w inhand under) (ap base_of (sym same) ∙ base.2))

  -- ---- taking into a hand, or a part of one

  pub taken : (s t : View) (u k : Way) (from to : Loc) (parts : List (List Sel)) (facts : List Fact)
      → Viewed home observer other v s facts → IsMove s t from to → Named home u → observer (number_of u) ≡ false
      → Spares other.gone (expand v u) → Reaches s (expand v u) from → InHand k → Reaches s k to
      → Allows facts (Move (name_of u) parts)
      → ((p : List Step) → t.word (part from p) ≡ Gone → (q : List Sel) × Has parts q × (name_of (along u p) ≡ extend (name_of u) q))
      → Viewed home observer other v t (effect (Move (name_of u) parts) facts)
  taken s t u k from to parts facts viewed move named plain spares source inhand target allowed marks =
      let act : Act = Move (name_of u) parts in
      let name : IsPlain home observer v s facts viewed.views u = (named, plain) in
      let base = stands_base home observer v s facts viewed.views u name in
      let unlent = move_unlent facts u parts allowed in
      let unmoved = move_unmoved facts u parts allowed in
      moved_on s t (expand v u) k from to facts (effect act facts)
      (given_apart s t (expand v u) k from to viewed.owned move source target (variable_apart (expand v u) k base.2 inhand)) viewed
      (base_rooted (expand v u) base.2)
      (λ w under known. elim known [
        | inl h ↦ clean_away home observer other v s facts viewed u w name (λ h n. unlent Borrowed h n) unmoved under h
        | inr o ↦ spares w under o
      ])
      (λ w moved off. (moved.0, (moved.1.0, kept_fact act facts (Moved (name_of moved.0)) moved.1.1 refl), moved.2))
      (λ p gone. (let found = marks p gone in inl (inl (
        along u p,
        (
          named_part home u p named,
          Has-append_right (filter (λ g. not (removes act g)) facts) (adds act) (Moved (name_of (along u p)))
              (subst (λ n. Has (adds act) (Moved n)) (sym found.2) (Has-map (λ q. Moved (extend (name_of u) q)) parts found.0 found.1)),
        ),
        expand_along v u p,
      ))))
      (clear_move observer facts viewed.clear (name_of u) parts plain allowed)
      (loan_kept act facts (λ l h m. refl)) (
        λ x w has past. off_view home observer other v s facts viewed u x w name unlent has past,
        λ x p w has past. off_parts home observer other v s facts viewed u x p w name unlent has past,
      )
      (hand_off s facts viewed.views k inhand) (λ w n keeps past. off_kept home observer other v s facts viewed u w n name unlent keeps past) (hand_far k inhand) (hand_bare k inhand)

  -- ---- from a hand to where no view's way goes: to another hand, or to a new variable or cell

  pub handed : (s t : View) (f k : Way) (from to : Loc) (facts : List Fact) → Viewed home observer other v s facts → IsMove s t from to
      → InHand f → Off k → OffFar k → OffBare k → Spares other.gone f → Reaches s f from → Reaches s k to → Apart f k
      → ((p : List Step) → t.word (part from p) ≡ Gone → ⊥) → Viewed home observer other v t facts
  handed s t f k from to facts viewed move inhand away far_away bare_away spares source target apart empty =
      moved_on s t f k from to facts facts (given_apart s t f k from to viewed.owned move source target apart) viewed (hand_rooted f inhand)
      (λ w under known. elim known [ inl h ↦ no_hand s facts viewed f w inhand under h | inr o ↦ spares w under o ])
      (λ w moved off. moved) (λ p gone. absurd (empty p gone)) viewed.clear (λ l h n has. has)
      (hand_off s facts viewed.views f inhand) away (hand_far f inhand) far_away bare_away

  -- no part goes on at a moved name
  pub moved_parts : (s : View) (facts : List Fact) → Viewed home observer other v s facts → (w : Way) → Has facts (Moved (name_of w)) → (p : List Step)
      → v.part_way (number_of w) p ≡ None
  moved_parts s facts viewed w moved p = no_part home observer v s facts viewed.views w (viewed.clear.owned (name_of w) moved) p

  -- ---- putting at a target

  pub put : (s t : View) (f k : Way) (from to : Loc) (facts : List Fact) → Viewed home observer other v s facts → IsMove s t from to
      → InHand f → Spares other.gone f → Reaches s f from → Named home k → observer (number_of k) ≡ false → IsPlace v k
      → Reaches s (expand v k) to → Allows facts (Write (name_of k))
      → ((p : List Step) → t.word (part from p) ≡ Gone → ⊥) → Viewed home observer other v t (effect (Write (name_of k)) facts)
  put s t f k from to facts viewed move inhand spares source named plain place target allowed empty =
      let act : Act = Write (name_of k) in
      let name : IsPlain home observer v s facts viewed.views k = (named, plain) in
      let base = stands_base home observer v s facts viewed.views k name in
      moved_on s t f (expand v k) from to facts (effect act facts)
      (given_apart s t f (expand v k) from to viewed.owned move source target (λ e. variable_apart (expand v k) f base.2 inhand (sym e))) viewed
      (hand_rooted f inhand)
      (λ w under known. elim known [ inl h ↦ no_hand s facts viewed f w inhand under h | inr o ↦ spares w under o ])
      (λ w moved off. (
        moved.0,
        (
          moved.1.0,
          kept_fact act facts (Moved (name_of moved.0)) moved.1.1
              (is_false (covers (name_of k) (name_of moved.0)) (λ e.
              off (subst (Under (expand v k)) moved.2
              (expand_under v k moved.0 place (moved_parts s facts viewed moved.0 moved.1.1) (covered_under home k moved.0 named moved.1.0 e))))),
        ),
        moved.2,
      ))
      (λ p gone. absurd (empty p gone))
      (clear_same observer facts viewed.clear act refl)
      (loan_kept act facts (λ l h m. refl))
      (hand_off s facts viewed.views f inhand) (
        λ x w has past. off_view home observer other v s facts viewed k x w name (write_unlent facts k allowed) has past,
        λ x p w has past. off_parts home observer other v s facts viewed k x p w name (write_unlent facts k allowed) has past,
      )
      (hand_far f inhand) (λ w n keeps past. off_kept home observer other v s facts viewed k w n name (write_unlent facts k allowed) keeps past)
      (λ w l p bare q under. off_bare home observer other v s facts viewed k w l p q name (write_unlent facts k allowed) bare under)

  -- ---- a new cell, and nothing

  -- what is known stands in the place of another frame's facts
  pub as_sound : (s : View) (facts : List Fact) → Viewed home observer other v s facts → Sound home (ExcusedBy home v other facts) s []
  as_sound s facts viewed = record { owned = viewed.owned; covered = viewed.covered; known = λ w l n r h. inr (viewed.known w l n r h) }

  pub all_known : (s : View) (facts : List Fact) → Known s (Excused home (ExcusedBy home v other facts) []) → Known s (ExcusedBy home v other facts)
  all_known s facts known w l n r h = elim (known w l n r h) [ inl m ↦ absurd m.1 | inr o ↦ o ]

  pub freshly_viewed : (s t : View) (k : Way) (at : Loc) (facts : List Fact) → Viewed home observer other v s facts → Reaches s k at
      → OffBare k → IsFresh s t at → Viewed home observer other v t facts
  freshly_viewed s t k at facts viewed there off fresh =
      let sound = freshly home (ExcusedBy home v other facts) s t k at [] (as_sound s facts viewed) there fresh in record {
        owned = sound.owned;
        covered = sound.covered;
        known = all_known t facts sound.known;
        clear = viewed.clear;
        whole = viewed.whole;
        whole_away = viewed.whole_away;
        shown = viewed.shown;
        whole_parts = viewed.whole_parts;
        parts_away = viewed.parts_away;
        past = viewed.past;
        lends = viewed.lends;
        views = (
          λ x w has. (let view = viewed.views.0 x w has in
              view_on s t facts facts x w view (λ seen n has. has) (fresh_on s t at fresh w (OfCell (v.cell x)) (reached s facts x w view))),
          parts_on s t viewed.views.1 (λ x p w has reach. fresh_on s t at fresh w (OfCell (v.part_cell x p)) reach),
        );
        far = λ w n keeps. fresh_on s t at fresh w (OfCell n) (viewed.far w n keeps);
        bare = λ w l p bare q c held. elim (same_loc (part l (q ++ p)) at) [
          | inr other_one ↦ viewed.bare w l p bare q c (sym (fresh.off (part l (q ++ p)) other_one) ∙ held)
          | inl same ↦ (
              let reach = reaches_along s w l (q ++ p) (rests_there s facts viewed w l p bare) in
              let one = one_way s viewed.owned k (along w (q ++ p)) at there (subst (Reaches s (along w (q ++ p))) same reach) in
              off w l p bare q (subst (Under k) one (under_itself k)))
        ];
      }

  pub same_viewed : (s t : View) (facts : List Fact) → IsSame s t → Viewed home observer other v s facts → Viewed home observer other v t facts
  same_viewed s t facts same viewed =
      let sound = same_sound home (ExcusedBy home v other facts) s t [] same (as_sound s facts viewed) in record {
        owned = sound.owned;
        covered = sound.covered;
        known = all_known t facts sound.known;
        clear = viewed.clear;
        whole = viewed.whole;
        whole_away = viewed.whole_away;
        shown = viewed.shown;
        whole_parts = viewed.whole_parts;
        parts_away = viewed.parts_away;
        past = viewed.past;
        lends = viewed.lends;
        views = (
          λ x w has. (let view = viewed.views.0 x w has in
              view_on s t facts facts x w view (λ seen n has. has) (same_reaches s t same w (OfCell (v.cell x)) (reached s facts x w view))),
          parts_on s t viewed.views.1 (λ x p w has reach. same_reaches s t same w (OfCell (v.part_cell x p)) reach),
        );
        far = λ w n keeps. same_reaches s t same w (OfCell n) (viewed.far w n keeps);
        bare = λ w l p bare q c held. viewed.bare w l p bare q c (sym (same.word (part l (q ++ p))) ∙ held);
      }

  -- an act that ends no fact and adds none
  pub quiet_act : (s : View) (facts facts' : List Fact) → ((f : Fact) → Has facts f → Has facts' f) → ((f : Fact) → Has facts' f → Has facts f)
      → Viewed home observer other v s facts → Viewed home observer other v s facts'
  quiet_act s facts facts' on back viewed = record {
    owned = viewed.owned;
    covered = viewed.covered;
    known = λ w l n r h. elim (viewed.known w l n r h) [
      | inl (inl m) ↦ inl (inl (m.0, (m.1.0, on (Moved (name_of m.0)) m.1.1), m.2))
      | inl (inr away) ↦ inl (inr away)
      | inr o ↦ inr o
    ];
    clear = nothing_new observer facts facts' back viewed.clear;
    views = (
      λ x w has. (let view = viewed.views.0 x w has in
          view_on s s facts facts' x w view (λ seen n. own_loan observer facts facts' (λ l h m. on (Lent l h m)) seen x n) (reached s facts x w view)),
      viewed.views.1,
    );
    whole = viewed.whole;
    whole_away = viewed.whole_away;
    shown = viewed.shown;
    whole_parts = viewed.whole_parts;
    parts_away = viewed.parts_away;
    past = viewed.past;
    lends = λ l n lent. lends_on observer v facts facts' (λ k h m. on (Lent k h m)) l n (viewed.lends l n lent);
    far = viewed.far;
    bare = viewed.bare;
  }
