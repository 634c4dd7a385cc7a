-- Facts without an element stay exact in each of the four steps, under its act, and where a view gets another way.
use Rattle.std.proofs.Common.{◌≡◌, refl, sym, ap, ◌∙◌, subst, ◌⊎◌, inl, inr, ℕ, Bool, true, false, eq-eqb, List, [], ◌∷◌, Option, Some}
use Rattle.std.proofs.lemmas.Bool.{false≢true, true≢false}
use Rattle.machine.specs.spark_base.Lists.{Has}
use Rattle.machine.specs.place_names.declared.selector.Sel.{Sel}
use Rattle.machine.specs.place_names.declared.rule.Loan.TheVariants.{Borrowed}
use Rattle.machine.specs.place_names.declared.act.Act.{Act}
use Rattle.machine.specs.place_names.declared.act.Act.TheVariants.{Move, Write, Free, EndScope}
use Rattle.machine.specs.place_names.declared.fact.Fact.{Fact}
use Rattle.machine.specs.place_names.declared.fact.Fact.TheVariants.{Moved}
use Rattle.machine.specs.place_names.Names.{Name, has_elem}
use Rattle.machine.specs.place_names.Facts.{adds, effect}
use Rattle.soundness.specs.OwnedWays.Ways.{Step, Root, OfVariable, OfHand, Loc, OfRoot, OfCell, Way, Object, Lost, Into, All, Empty, Gone, Held, View, part, along, Reaches, IsRooted, Under, Told, IsRelease, IsDrop, base_of, number_of, sels_of, name_of, Named, IsMoved, Allows}
use Rattle.soundness.proofs.OwnedWays.Locations.{under_itself, under_along, reaches_along}
use Rattle.soundness.proofs.OwnedWays.Unique.{one_way}
use Rattle.soundness.proofs.OwnedWays.Named.{longer}
use Rattle.soundness.proofs.OwnedWays.Moving.{Given}
use Rattle.soundness.proofs.OwnedWays.Told.{told_after}
use Rattle.soundness.specs.OwnedLoans.Views.{Go, Part, Down, on, Views, Around, expand, Viewed, Becomes, Unused, Lifted, InPart}
use Rattle.soundness.proofs.OwnedLoans.Others.{below_through}
use Rattle.machine.specs.place_names.declared.rule.Loan.{Loan}
use Rattle.machine.specs.flow_paths.Objects.{Typing}
use Rattle.soundness.specs.Seen.{IsNear, home as frame_home}
use Rattle.soundness.proofs.Near.{near_under, named_near}
use Rattle.soundness.proofs.OwnedLoans.Ways.{flip, under_on, meet_overlaps, base_on, on_named, lifts, part_root, lifted_root, lifted_way}
use Rattle.soundness.proofs.OwnedLoans.Meeting.{IsPlain}
use Rattle.soundness.proofs.OwnedLoans.Safe.{Unborrowed, loan_of, clean_below, met, no_both, only_itself, lent_fact}
use Rattle.soundness.proofs.OwnedLoans.Allowed.{move_unlent, move_unmoved, write_unlent, free_unlent}
use Rattle.soundness.proofs.OwnedLoans.Moves.{expand_along}
use Rattle.soundness.proofs.OwnedLoans.Taken.{expand_other}
use Rattle.soundness.specs.ExactFacts.Exact.{IsOfVariable}
use Rattle.soundness.proofs.OwnedLoans.Meeting.{stands, stands_base}
use Rattle.viewed_steps.proofs.Views.{base_named}
use Rattle.soundness.proofs.ExactFacts.Steps.{fact_before, under_covers, named_variable, Keeps, told_on, variable_begins, variable_rooted}
use Rattle.recycled_runs.specs.ViewedFacts.Exact.{IsDefiniteBy, IsDefinite}
use Rattle.recycled_runs.proofs.ViewedFacts.Constructors.{is_empty_word, is_held_word}
use Rattle.soundness.proofs.Parted.{by_either}

-- ---- ways that begin at variables

pub no_hand_base : (w : Way) (h : ℕ) → IsOfVariable w → base_of w ≡ OfRoot (OfHand h) → ⊥
no_hand_base (Object (OfVariable f x)) h is e = cc
no_hand_base (Object (OfHand k)) h is e = absurd is
no_hand_base (Lost n) h is e = absurd is
no_hand_base (Into w i) h is e = no_hand_base w h is e
no_hand_base (All w) h is e = no_hand_base w h is e

-- where numbers are no other ones than before, ways lead where they led
reached_before : (s t : View) → ((l : Loc) (n : ℕ) → t.word l ≡ Held n → s.word l ≡ Held n) → (w : Way) (l : Loc) → IsRooted w → Reaches t w l → Reaches s w l
reached_before s t held (Object r) l rooted reach = reach
reached_before s t held (Lost n) l rooted reach = absurd rooted
reached_before s t held (Into w i) l rooted (m, reach, e) = (m, reached_before s t held w m rooted reach, e)
reached_before s t held (All w) l rooted (m, n, reach, h, e) = (m, n, reached_before s t held w m rooted reach, held m n h, e)

-- a way that begins at a variable is rooted in its object
number_there : (w : Way) {f x : ℕ} → base_of w ≡ OfRoot (OfVariable f x) → number_of w ≡ x
number_there (Object (OfVariable g y)) e = cc
number_there (Object (OfHand h)) e = cc
number_there (Lost n) e = cc
number_there (Into w i) e = number_there w e
number_there (All w) e = number_there w e

-- ---- one frame

-- A way of others begins with no name of the frame and is gone for them, or is gone and goes on from a place that they have
-- borrowed.
abbrev pub IsOthers : (home : ℕ → ℕ) → Around home → Way → Type 0
IsOthers home other w = (((k : Way) → Under k w → Named home k → ⊥) × other.gone w) ⊎ other.away w

-- What begins at no variable of a frame and of no package object, or goes on from such a place.
abbrev pub IsAway : (s : Typing) (depth : ℕ) → Around (frame_home s depth) → Way → Type 0
IsAway s depth other w = ((IsNear depth w → ⊥) × other.gone w) ⊎ other.away w

pub of_others : (s : Typing) (depth : ℕ) (other : Around (frame_home s depth)) (w : Way) → IsAway s depth other w → IsOthers (frame_home s depth) other w
of_others s depth other w (inl (far, gone)) = inl ((λ k under named. far (near_under depth k w under (named_near s depth k named))), gone)
of_others s depth other w (inr away) = inr away

-- A way that begins at a variable is one of a variable.
pub based_variable : (w : Way) (f x : ℕ) → base_of w ≡ OfRoot (OfVariable f x) → IsOfVariable w
based_variable (Object (OfVariable g y)) f x e = tt
based_variable (Object (OfHand h)) f x e = cc
based_variable (Lost n) f x e = cc
based_variable (Into w i) f x e = based_variable w f x e
based_variable (All w) f x e = based_variable w f x e

-- What is moved elsewhere is so.
module _ (home : ℕ → ℕ) (observer : ℕ → Bool) (other : Around home) (v : Views) (elsewhere : Way → Type 0)
    (apart : (w : Way) → elsewhere w → IsOthers home other w) where
  abbrev Definite : List Fact → Way → Type 0
  Definite facts w = IsDefinite home v elsewhere facts w

  abbrev IsName : (s : View) (facts : List Fact) → Viewed home observer other v s facts → Way → Type 0
  IsName s facts viewed k = IsPlain home observer v s facts viewed.views k

  -- what a name stands for begins at a variable
  pub stands_variable : (s : View) (facts : List Fact) (viewed : Viewed home observer other v s facts) (k : Way) → IsName s facts viewed k → IsOfVariable (expand v k)
  stands_variable s facts viewed k plain =
      let base = stands_base home observer v s facts viewed.views k plain in based_variable (expand v k) base.0 base.1 base.2

  named_definite : (s : View) (facts : List Fact) (viewed : Viewed home observer other v s facts) (w : Way) → IsDefiniteBy home v facts w → IsOfVariable w
  named_definite s facts viewed w d =
      subst IsOfVariable d.3 (stands_variable s facts viewed d.0 (d.1.0, viewed.clear.owned (name_of d.0) d.1.1))

  pub definite_variable : (s : View) (facts : List Fact) (viewed : Viewed home observer other v s facts) (w : Way) → Definite facts w → IsOfVariable w
  definite_variable s facts viewed w (inl d) = named_definite s facts viewed w d
  definite_variable s facts viewed w (inr e) = e.0

  -- so it is after an act that moves nothing through an observer
  pub variables_after : (s : View) (facts : List Fact) → Viewed home observer other v s facts → (a : Act) → ((n : Name) → Has (adds a) (Moved n) → observer n.root ≡ false)
      → (w : Way) → Definite (effect a facts) w → IsOfVariable w
  variables_after s facts viewed a new w (inr e) = e.0
  variables_after s facts viewed a new w (inl d) =
      let plain : observer (number_of d.0) ≡ false = elim (fact_before a facts (Moved (name_of d.0)) d.1.1) [
        | inl old ↦ viewed.clear.owned (name_of d.0) old.0
        | inr added ↦ new (name_of d.0) added
      ] in
      subst IsOfVariable d.3 (stands_variable s facts viewed d.0 (d.1.0, plain))

  rooted : (s : View) (facts : List Fact) (viewed : Viewed home observer other v s facts) (w : Way) → Definite facts w → IsRooted w
  rooted s facts viewed w is = variable_rooted w (definite_variable s facts viewed w is)

  -- a name that no loan overlaps begins none that is moved elsewhere
  off_elsewhere : (s : View) (facts : List Fact) (viewed : Viewed home observer other v s facts) (k : Way) → IsName s facts viewed k → Unborrowed facts k
      → (w : Way) → Under (expand v k) w → elsewhere w → ⊥
  off_elsewhere s facts viewed k name free w under e = elim (apart w e) [
    | inl far ↦ elim (stands home observer v s facts viewed.views k name) [
      | inl own ↦ far.0 (expand v k) under own.named
      | inr held ↦ viewed.whole held.object held.way w held.has (inr held.passed.given) far.1 (inr (under_on held.way (expand v k) w held.under under))
    ]
    | inr away ↦ below_through home observer other v s facts viewed w away k name free under
  ]

  -- a hand begins none
  hand_apart : (s : View) (facts : List Fact) (viewed : Viewed home observer other v s facts) (h : ℕ) (w : Way) → Under (Object (OfHand h)) w → Definite facts w → ⊥
  hand_apart s facts viewed h w under is =
      no_hand_base w h (definite_variable s facts viewed w is) (longer (Object (OfHand h)) w under).base

  -- Where a name that no loan overlaps begins what a moved name stands for, it begins that name.
  begins_name : (s : View) (facts : List Fact) (viewed : Viewed home observer other v s facts) (k u : Way) → IsName s facts viewed k → Unborrowed facts k
      → IsMoved home facts u → Under (expand v k) (expand v u) → Under k u
  begins_name s facts viewed k u plain unborrowed moved under =
      let clear = viewed.clear in
      elim (met home observer other v s facts viewed k u plain (moved.0, clear.owned (name_of u) moved.1) under) [
        | inl below ↦ below
        | inr more ↦ elim more [
          | inl a ↦ absurd (clear.moved Borrowed a.object (name_of u) (name_of (v.loan a.object)) moved.1
              (loan_of home observer other v s facts viewed a.object a.lends)
              (meet_overlaps u (v.loan a.object) (inr (under_on (v.loan a.object) a.name u a.loan a.begins))))
          | inr more ↦ elim more [
            | inl b ↦ absurd (unborrowed b.object (name_of (v.loan b.object)) (loan_of home observer other v s facts viewed b.object b.lends)
                (meet_overlaps (v.loan b.object) k (flip k (v.loan b.object) b.meets)))
            | inr loans ↦ elim loans [
              | inl both ↦ absurd (no_both home observer other v s facts viewed both)
              -- nor does one of the two meet a place that others have borrowed
              | inr lone ↦ elim lone [
                | inl l ↦ absurd (
                    let meets = only_itself home observer other v s facts viewed Borrowed l.place k l.lent_it l.meets in
                    unborrowed (number_of l.place) (name_of l.place) (lent_fact home observer other v s facts viewed Borrowed l.place l.lent_it)
                    (meet_overlaps l.place k (flip k l.place meets)))
                | inr l ↦ absurd (
                    let meets = only_itself home observer other v s facts viewed Borrowed l.place u l.lent_it l.meets in
                    clear.moved Borrowed (number_of l.place) (name_of u) (name_of l.place) moved.1 (lent_fact home observer other v s facts viewed Borrowed l.place l.lent_it)
                    (meet_overlaps u l.place meets))
              ]
            ]
          ]
        ]
      ]

  -- ---- where nothing comes that ways could go through

  pub told_still : (s t : View) (on : Loc → Type 0) (facts : List Fact) → Viewed home observer other v s facts → ((f x : ℕ) → on (OfRoot (OfVariable f x))) → Keeps s t on
      → ((l : Loc) → on l → s.word l ≡ Gone → t.word l ≡ Gone) → Told s (Definite facts) → Told t (Definite facts)
  told_still s t on facts viewed all keeps gone told =
      told_on s t on (Definite facts) (λ w is. variable_begins on all w (definite_variable s facts viewed w is)) keeps gone told

  -- ---- a value in hand is put at a target

  pub told_put : (s t : View) (h : ℕ) (k : Way) (to : Loc) (facts : List Fact) → Viewed home observer other v s facts → Named home k → observer (number_of k) ≡ false
      → Given s t (Object (OfHand h)) (expand v k) (OfRoot (OfHand h)) to → Allows facts (Write (name_of k))
      → Told s (Definite facts) → Told t (Definite (effect (Write (name_of k)) facts))
  told_put s t h k to facts viewed named plain given allowed told =
      told_after s t (Object (OfHand h)) (expand v k) (OfRoot (OfHand h)) to (Definite facts) (Definite (effect (Write (name_of k)) facts))
      (rooted s facts viewed) given told
      (λ w under is. hand_apart s facts viewed h w under is) only
    where
      only : (w : Way) → Definite (effect (Write (name_of k)) facts) w
          → (Definite facts w × (Under (expand v k) w → ⊥)) ⊎ ((p : List Step) × (w ≡ along (Object (OfHand h)) p) × (t.word (part (OfRoot (OfHand h)) p) ≡ Gone))
      only w (inr e) = inl (inr e, λ under. off_elsewhere s facts viewed k (named, plain) (λ n m. write_unlent facts k allowed Borrowed n m) w under e.1)
      only w (inl d) = by_either (fact_before (Write (name_of k)) facts (Moved (name_of d.0)) d.1.1)
          (λ old. (inl (
            inl (d.0, (d.1.0, old.0), d.2, d.3),
            λ under. (
                let below : Under k d.0 = begins_name s facts viewed k d.0 (named, plain) (λ n m. write_unlent facts k allowed Borrowed n m) (d.1.0, old.0) (subst (Under (expand v k)) (sym d.3) under) in
                let covered = under_covers k d.0 below d.2 in let kept = old.1 in cc),
          )))
          (λ none. (absurd none))

  -- a variable gets a value, of which no fact speaks
  pub told_given : (s t : View) (h : ℕ) (k : Way) (to : Loc) (facts : List Fact) → Viewed home observer other v s facts
      → Given s t (Object (OfHand h)) k (OfRoot (OfHand h)) to → ((w : Way) → Definite facts w → Under k w → ⊥)
      → Told s (Definite facts) → Told t (Definite facts)
  told_given s t h k to facts viewed given none told =
      told_after s t (Object (OfHand h)) k (OfRoot (OfHand h)) to (Definite facts) (Definite facts) (rooted s facts viewed) given told
      (λ w under is. hand_apart s facts viewed h w under is) (λ w is. inl (is, none w is))

  -- ---- what a name has is taken into a hand

  pub told_taken : (s t : View) (k : Way) (h : ℕ) (from : Loc) (parts : List (List Sel)) (facts : List Fact) → Viewed home observer other v s facts
      → Named home k → observer (number_of k) ≡ false → Given s t (expand v k) (Object (OfHand h)) from (OfRoot (OfHand h)) → Allows facts (Move (name_of k) parts)
      → ((u : Way) → Named home u → has_elem (sels_of u) ≡ false → Has (adds (Move (name_of k) parts)) (Moved (name_of u))
      → (p : List Step) × (u ≡ along k p) × (t.word (part from p) ≡ Gone))
      → Told s (Definite facts) → Told t (Definite (effect (Move (name_of k) parts) facts))
  told_taken s t k h from parts facts viewed named plain given allowed takes told =
      told_after s t (expand v k) (Object (OfHand h)) from (OfRoot (OfHand h)) (Definite facts) (Definite (effect (Move (name_of k) parts) facts))
      (rooted s facts viewed) given told clean only
    where
      clean : (w : Way) → Under (expand v k) w → Definite facts w → ⊥
      clean w under (inl d) =
          clean_below home observer other v s facts viewed k w (named, plain) (λ n m. move_unlent facts k parts allowed Borrowed n m)
          (move_unmoved facts k parts allowed) under (d.0, d.1, d.3)
      clean w under (inr e) = off_elsewhere s facts viewed k (named, plain) (λ n m. move_unlent facts k parts allowed Borrowed n m) w under e.1

      only : (w : Way) → Definite (effect (Move (name_of k) parts) facts) w
          → (Definite facts w × (Under (Object (OfHand h)) w → ⊥)) ⊎ ((p : List Step) × (w ≡ along (expand v k) p) × (t.word (part from p) ≡ Gone))
      only w (inr e) = inl (inr e, λ under. hand_apart s facts viewed h w under (inr e))
      only w (inl d) = by_either (fact_before (Move (name_of k) parts) facts (Moved (name_of d.0)) d.1.1)
          (λ old. (let was : Definite facts w = inl (d.0, (d.1.0, old.0), d.2, d.3) in inl (was, λ under. hand_apart s facts viewed h w under was)))
          (λ new. (let found = takes d.0 d.1.0 d.2 new in
          inr (found.0, sym d.3 ∙ ap (expand v) found.1 ∙ expand_along v k found.0, found.2)))

  -- ---- a cell is freed, and its name becomes null

  pub told_released : (s t : View) (k : Way) (at : Loc) (n : ℕ) (facts : List Fact) → Viewed home observer other v s facts → Named home k → observer (number_of k) ≡ false
      → IsRelease s t at n → Reaches s (expand v k) at → s.word at ≡ Held n → Allows facts (Free (name_of k))
      → Told s (Definite facts) → Told t (Definite (effect (Free (name_of k)) facts))
  told_released s t k at n facts viewed named plain step target held allowed told = by
    where
      was : (l : Loc) (c : ℕ) → t.word l ≡ Held c → s.word l ≡ Held c
      was l c h =
          sym (step.off l (λ e. (let is : Held c ≡ Empty = sym h ∙ ap t.word e ∙ step.null in absurd (false≢true (ap is_empty_word is))))
          (λ b. (let is : Held c ≡ Empty = sym h ∙ ap t.word b.1 ∙ step.empty b.0 in absurd (false≢true (ap is_empty_word is))))) ∙ h

      -- what isn't below the cell stays gone
      stays : (w : Way) (l : Loc) → Definite facts w → (Under (expand v k) w → ⊥) → Reaches t w l → t.word l ≡ Gone
      stays w l is off reach =
          let before = reached_before s t was w l (rooted s facts viewed w is) reach in
          let gone : s.word l ≡ Gone = told w l is before in
          step.off l
          (λ e. (let is_held : Gone ≡ Held n = sym gone ∙ ap s.word e ∙ held in absurd (false≢true (ap is_held_word is_held))))
          (λ b. (
          let cell : Reaches s (along (All (expand v k)) b.0) (part (OfCell n) b.0) = reaches_along s (All (expand v k)) (OfCell n) b.0 (at, n, target, held, refl) in
          let same : w ≡ along (All (expand v k)) b.0 = one_way s viewed.owned w (along (All (expand v k)) b.0) l before (subst (Reaches s (along (All (expand v k)) b.0)) (sym b.1) cell) in
          off (subst (Under (expand v k)) (sym same) (under_along (expand v k) (All (expand v k)) b.0 (inr (under_itself (expand v k)))))))
          ∙ gone

      by : Told t (Definite (effect (Free (name_of k)) facts))
      by w l (inr e) reach = stays w l (inr e) (λ under. off_elsewhere s facts viewed k (named, plain) (λ n m. free_unlent facts k allowed Borrowed n m) w under e.1) reach
      by w l (inl d) reach = by_either (fact_before (Free (name_of k)) facts (Moved (name_of d.0)) d.1.1)
          (λ old. (stays w l (inl (d.0, (d.1.0, old.0), d.2, d.3))
          (λ under. (
          let below : Under k d.0 = begins_name s facts viewed k d.0 (named, plain) (λ n m. free_unlent facts k allowed Borrowed n m) (d.1.0, old.0) (subst (Under (expand v k)) (sym d.3) under) in
          let covered = under_covers k d.0 below d.2 in let kept = old.1 in cc)) reach))
          (λ none. (absurd none))

  -- ---- acts that move nothing

  -- what is moved after it was moved before
  pub told_fewer : (s : View) (facts facts' : List Fact) → ((m : Name) → Has facts' (Moved m) → Has facts (Moved m)) → Told s (Definite facts) → Told s (Definite facts')
  told_fewer s facts facts' less told w l (inr e) reach = told w l (inr e) reach
  told_fewer s facts facts' less told w l (inl d) reach = told w l (inl (d.0, (d.1.0, less (name_of d.0) d.1.1), d.2, d.3)) reach

  -- a view gets another way, or none, where no moved name is rooted in it
  pub told_rebound : (s : View) (t : Views) (b : ℕ) (o : Option Way) (loan up : Way) (n : ℕ) → Becomes v t b o loan up n → (facts facts' : List Fact) → Unused home other.lent v facts b
      → ((m : Name) → Has facts' (Moved m) → Has facts (Moved m)) → Told s (IsDefinite home v elsewhere facts) → Told s (IsDefinite home t elsewhere facts')
  told_rebound s t b o loan up n becomes facts facts' unused less told w l (inr e) reach = told w l (inr e) reach
  told_rebound s t b o loan up n becomes facts facts' unused less told w l (inl d) reach =
      let moved : Has facts (Moved (name_of d.0)) = less (name_of d.0) d.1.1 in
      let same = expand_other v t b o loan up n becomes d.0 (unused.unmoved (name_of d.0) moved) in
      told w l (inl (d.0, (d.1.0, moved), d.2, sym same ∙ d.3)) reach

  -- ---- views with other ways

  -- a name that goes through what an object designates finds a number there
  root_held : (rest : List Go) (s : View) (r : Root) (l : Loc) → Reaches s (on (All (Object r)) rest) l → (n : ℕ) × (s.word (OfRoot r) ≡ Held n)
  root_held [] s r l reach = (reach.1, ap s.word (sym reach.2) ∙ reach.3)
  root_held (Part i ∷ rest) s r l reach = root_held rest s r reach.0 reach.1
  root_held (Down ∷ rest) s r l reach = root_held rest s r reach.0 reach.2

  -- Formals with parts are seen alone, so that no moved name goes through a part.
  abbrev pub AreSeenParts : Views → Type 0
  AreSeenParts t = (y : ℕ) (p : List Step) (w : Way) → t.part_way y p ≡ Some w → observer y ≡ true

  none_in : (t : Views) → AreSeenParts t → (u : Way) → observer (number_of u) ≡ false → InPart t u → ⊥
  none_in t seen u plain l = (let is : true ≡ false = sym (seen l.object l.steps l.way l.has) ∙ ap observer (sym (part_root t u l)) ∙ plain in absurd (true≢false is))

  before_seen : (s : View) (facts : List Fact) → Viewed home observer other v s facts → AreSeenParts v
  before_seen s facts viewed y p w has = (viewed.views.1 y p w has).sees

  -- Each view with a way has the one that it had, or no moved name is rooted in it. (Variables of views own nothing.)
  pub told_turned : (s : View) (t : Views) (facts : List Fact) → AreSeenParts v → AreSeenParts t → ((u : Way) → IsMoved home facts u → observer (number_of u) ≡ false)
      → ((x : ℕ) (w : Way) → t.way x ≡ Some w → (v.way x ≡ Some w) ⊎ ((n : Name) → Has facts (Moved n) → n.root ≡ x → ⊥))
      → ((x : ℕ) (w : Way) (n : ℕ) → v.way x ≡ Some w → s.word (OfRoot (OfVariable (home x) x)) ≡ Held n → ⊥)
      → Told s (IsDefinite home v elsewhere facts) → Told s (IsDefinite home t elsewhere facts)
  told_turned s t facts seen_before seen_then plain_moved turned empty told w l (inr e) reach = told w l (inr e) reach
  told_turned s t facts seen_before seen_then plain_moved turned empty told w l (inl d) reach = by_name d.0 d.1 d.2 d.3
    where
      by_name : (u : Way) → IsMoved home facts u → has_elem (sels_of u) ≡ false → expand t u ≡ w → s.word l ≡ Gone
      by_name u moved plain same = elim (lifts t u) [
        | inr (inr inner) ↦ absurd (none_in t seen_then u (plain_moved u moved) inner)
        | inr (inl a) ↦ by_either (turned a.object a.way a.has)
            (λ old. (let before : Lifted v u = record { frame = a.frame; object = a.object; rest = a.rest; way = a.way; is = a.is; has = old } in
            told w l (inl (u, moved, plain, lifted_way v u before ∙ sym (lifted_way t u a) ∙ same)) reach))
            (λ unmoved. (absurd (unmoved (name_of u) moved.1 (lifted_root t u a))))
        | inl e ↦ elim (lifts v u) [
          | inl f ↦ told w l (inl (u, moved, plain, f ∙ sym e ∙ same)) reach
          | inr (inr inner) ↦ absurd (none_in v seen_before u (plain_moved u moved) inner)
          | inr (inl b) ↦ absurd (
              let at : Reaches s (on (All (Object (OfVariable b.frame b.object))) b.rest) l = subst (λ z. Reaches s z l) (sym same ∙ e ∙ b.is) reach in
              let frame : b.frame ≡ home b.object = on_named home (All (Object (OfVariable b.frame b.object))) b.rest (subst (Named home) b.is moved.0) in
              let held = root_held b.rest s (OfVariable b.frame b.object) l at in
              empty b.object b.way held.0 b.has (subst (λ f. s.word (OfRoot (OfVariable f b.object)) ≡ Held held.0) frame held.1))
        ]
      ]

  -- ---- the scope of an object of the frame ends

  abbrev place : ℕ → Way
  place x = Object (OfVariable (home x) x)

  -- where the views that are left have the ways that they had
  pub left_variable : (s : View) (left : Views) (facts : List Fact) → Viewed home observer other v s facts
      → AreSeenParts left
      → ((y : ℕ) (w : Way) → left.way y ≡ Some w → v.way y ≡ Some w) → (w : Way) → IsDefinite home left elsewhere facts w → IsOfVariable w
  left_variable s left facts viewed parts was w (inr e) = e.0
  left_variable s left facts viewed parts was w (inl d) = elim (lifts left d.0) [
    | inl e ↦ named_variable home w (subst (Named home) (sym e ∙ d.3) d.1.0)
    | inr (inr inner) ↦ absurd (none_in left parts d.0 (viewed.clear.owned (name_of d.0) d.1.1) inner)
    | inr (inl l) ↦ (
        let before : Lifted v d.0 = record { frame = l.frame; object = l.object; rest = l.rest; way = l.way; is = l.is; has = was l.object l.way l.has } in
        definite_variable s facts viewed w (inl (d.0, d.1, d.2, lifted_way v d.0 before ∙ sym (lifted_way left d.0 l) ∙ d.3)))
  ]

  -- none of them begins there
  pub told_ended : (s t : View) (left : Views) (x : ℕ) (borrower : Bool) (facts : List Fact) → Viewed home observer other v s facts
      → ((l : Loan) (n : Name) → other.lent l n → n.root ≡ x → ⊥)
      → IsDrop s t (OfVariable (home x) x) → AreSeenParts left
      → ((y : ℕ) (w : Way) → left.way y ≡ Some w → (v.way y ≡ Some w) × (Named home w → number_of w ≡ x → ⊥))
      → ((y : ℕ) (w : Way) (n : ℕ) → v.way y ≡ Some w → s.word (OfRoot (OfVariable (home y) y)) ≡ Held n → ⊥)
      → Told s (Definite facts) → Told t (IsDefinite home left elsewhere (effect (EndScope x borrower) facts))
  told_ended s t left x borrower facts viewed unlent step parts was empty told = by
    where
      told_left : Told s (IsDefinite home left elsewhere facts)
      told_left = told_turned s left facts (before_seen s facts viewed) parts (λ u moved. viewed.clear.owned (name_of u) moved.1) (λ y w has. inl (was y w has).0) empty told

      held_before : (l : Loc) (c : ℕ) → t.word l ≡ Held c → s.word l ≡ Held c
      held_before l c h = sym (step.off l (λ b. (let is : Held c ≡ Empty = sym h ∙ ap t.word b.1 ∙ step.empty b.0 in absurd (false≢true (ap is_empty_word is))))) ∙ h

      stays : (w : Way) (l : Loc) → IsDefinite home left elsewhere facts w → (Under (place x) w → ⊥) → Reaches t w l → t.word l ≡ Gone
      stays w l is off reach =
          let before = reached_before s t held_before w l (variable_rooted w (left_variable s left facts viewed parts (λ y k has. (was y k has).0) w is)) reach in
          step.off l (λ b. (
          let there : Reaches s (along (place x) b.0) (part (OfRoot (OfVariable (home x) x)) b.0) = reaches_along s (place x) (OfRoot (OfVariable (home x) x)) b.0 refl in
          let same : w ≡ along (place x) b.0 = one_way s viewed.owned w (along (place x) b.0) l before (subst (Reaches s (along (place x) b.0)) (sym b.1) there) in
          off (subst (Under (place x)) (sym same) (under_along (place x) (place x) b.0 (under_itself (place x))))))
          ∙ told_left w l is before

      -- what stands for a way that begins there is rooted there
      own_root : (u : Way) → IsMoved home facts u → base_of (expand left u) ≡ OfRoot (OfVariable (home x) x) → number_of u ≡ x
      own_root u moved is = elim (lifts left u) [
        | inl e ↦ number_there u (ap base_of (sym e) ∙ is)
        | inr (inr inner) ↦ absurd (none_in left parts u (viewed.clear.owned (name_of u) moved.1) inner)
        | inr (inl l) ↦ absurd (let begins : base_of l.way ≡ OfRoot (OfVariable (home x) x) = sym (base_on l.way l.rest) ∙ ap base_of (sym (lifted_way left u l)) ∙ is in
            (was l.object l.way l.has).1 (base_named home l.way x begins) (number_there l.way begins))
      ]

      by : Told t (IsDefinite home left elsewhere (effect (EndScope x borrower) facts))
      by w l (inr e) reach =
          stays w l (inr e)
          (λ under. by_either (apart w e.1)
          (λ far. (far.0 (place x) under refl))
          (λ away. (let (k, named, begins_it, lent) = other.through w away in
          unlent Borrowed (name_of k) lent (sym (longer k w begins_it).root ∙ (longer (place x) w under).root)))) reach
      by w l (inl d) reach = by_either (fact_before (EndScope x borrower) facts (Moved (name_of d.0)) d.1.1)
          (λ old. (stays w l (inl (d.0, (d.1.0, old.0), d.2, d.3))
          (λ under. (
          let number : number_of d.0 ≡ x = own_root d.0 (d.1.0, old.0) (ap base_of d.3 ∙ (longer (place x) w under).base) in
          let ends = eq-eqb (number_of d.0) x number in
          let kept = old.1 in cc)) reach))
          (λ none. (absurd none))
