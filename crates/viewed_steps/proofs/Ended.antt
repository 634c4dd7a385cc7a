-- The end of a scope: observers that fade give up their ways, and the object gives up its own.
use Rattle.std.proofs.Common.{◌≡◌, refl, sym, ap, ◌∙◌, subst, inl, inr, ℕ, ◌<◌, Bool, true, false, ◌&&◌, ◌||◌, ◌==◌, eqb-true, eq-eqb, List, [], ◌∷◌, drop, length, get_or, arith, Option, Some, None, is_some}
use Rattle.std.proofs.lemmas.Bool.{false≢true}
use Rattle.machine.specs.spark_base.Lists.{Has}
use Rattle.machine.specs.place_names.declared.act.Act.TheVariants as act
use Rattle.machine.specs.place_names.declared.fact.Fact.{Fact}
use Rattle.machine.specs.place_names.declared.fact.Fact.TheVariants.{Lent}
use Rattle.machine.specs.place_names.declared.rule.Loan.{Loan}
use Rattle.machine.specs.place_names.declared.rule.Loan.TheVariants.{Observed, Borrowed}
use Rattle.machine.specs.place_names.Names.{Name as PlaceName}
use Rattle.machine.specs.place_names.Facts.{effect}
use Rattle.machine.specs.flow_paths.Instructions.{EndScope}
use Rattle.machine.specs.flow_paths.Objects.{Typing, object_at, is_variable, is_anonymous, is_borrowing, is_observing, is_borrower, is_observer, is_package_object, view_of}
use Rattle.machine.specs.flow_paths.Points.{NamedPoint}
use Rattle.machine.specs.flow_paths.Scopes.{taken, Leads, is_within, is_last}
use Rattle.machine.specs.flow_paths.Views.{encloses, scope_of}
use Rattle.machine.specs.Words as machine
use Rattle.machine.specs.Memory.{Memory, Slot, fresh, no_slot, variable_slots, undeclared}
use Rattle.machine.specs.Step.{Turn, typing}
use Rattle.machine.specs.Step as steps
use Rattle.machine.specs.Owners.{waiting_in}
use Rattle.soundness.specs.OwnedWays.Ways.{Step, OfVariable, Way, Named, Allows, name_of, number_of}
use Rattle.soundness.proofs.OwnedWays.Assigned.{kept_fact}
use Rattle.soundness.specs.PartOffsets.Parts.{offset_in, IsSettled}
use Rattle.soundness.specs.Seen.{IsNear, is_view_formal, home}
use Rattle.soundness.specs.Typed.{OwnsByShape, Kept}
use Rattle.soundness.specs.Sound as sound
use Rattle.soundness.proofs.Defaults.{none_default}
use Rattle.soundness.proofs.Keeping.{cell_has}
use Rattle.soundness.proofs.Memories.{removed_same, removed_other}
use Rattle.soundness.specs.OwnedLoans.Views.{Around, Views, Viewed, Unused, with_view, IsThrough}
use Rattle.soundness.proofs.OwnedLoans.Safe.{root_before}
use Rattle.soundness.proofs.OwnedLoans.Taken.{becomes_with, given_up}
use Rattle.soundness.specs.ViewedSoundness.Holds.{is_bundle, PartsAreNamed, is_view, Seeing}
use Rattle.soundness.proofs.ViewedSoundness.ViewKinds.{observer_sees, both_no, true_false}
use Rattle.soundness.proofs.ViewedSoundness.Outcomes.{LeavesOthers, Is_left, scope_left, borrower_unmoved}
use Rattle.viewed_steps.specs.Sound.{Lasts, IsFading, HoldsAt, ArePlacedWith}
use Rattle.viewed_steps.proofs.Faded.{without, had_way, has_way, no_way, faded}
use Rattle.viewed_steps.proofs.Placed.{lasts_on, within_on}
use Rattle.viewed_steps.proofs.Views.{view_ends}
use Rattle.soundness.proofs.OwnedWays.Named.{longer}

-- an object that isn't a borrower or observer has no anonymous type, if those that have one are
-- variables
pub view_kinds : (a b c : Bool) → b || c ≡ true → a ≡ true → a && c ≡ false → a && b ≡ true
view_kinds true true c any is none = refl
view_kinds true false true any is none = sym none
view_kinds true false false any is none = any
view_kinds false b c any is none = is

both_parts : (a b : Bool) → a && b ≡ true → (a ≡ true) × (b ≡ true)
both_parts true b e = (refl, e)
both_parts false b e = absurd (false≢true e)

both_true : (a b : Bool) → a ≡ true → b ≡ true → a && b ≡ true
both_true a b e f = ap (λ x. x && b) e ∙ f

pub refused : (b : Bool) → (b ≡ true → ⊥) → b ≡ false
refused true e = absurd (e refl)
refused false e = refl

pub none_some : (w : Way) → None ≡ Some w → ⊥
none_some w e = absurd (false≢true (ap is_some e))

same_object : (f x g y : ℕ) → OfVariable f x ≡ OfVariable g y → y ≡ x
same_object f x g y e = cc

-- in scope but for the last one
rest_within : (x y : ℕ) (scope : List ℕ) → is_last y scope ≡ true → is_within x scope ≡ true → (x ≡ y → ⊥) → is_within x (drop 1 scope) ≡ true
rest_within x y [] last within off = absurd (false≢true last)
rest_within x y (z ∷ rest) last within off =
    drop_none rest (by_first (x == z) refl (is_within x rest) within)
  where
    by_first : (b : Bool) → (x == z) ≡ b → (c : Bool) → (x == z) || c ≡ true → c ≡ true
    by_first true e c any = absurd (off (eqb-true x z e ∙ sym (eqb-true y z last)))
    by_first false e c any = sym (ap (λ d. d || c) e) ∙ any

    drop_none : (rest : List ℕ) → is_within x rest ≡ true → is_within x (drop 0 rest) ≡ true
    drop_none [] w = w
    drop_none (a ∷ rest) w = w

same_end : (a b : ℕ) → EndScope a ≡ EndScope b → a ≡ b
same_end a b e = cc

module _ (t : Turn) (sees : ℕ → Bool) (seeing : Seeing (typing t) sees) (settled : IsSettled (typing t).table) (own_law : OwnsByShape (typing t).table) (other : Around (home (typing t) (length t.outer)))
    (alone : (w : Way) → IsNear (length t.outer) w → other.gone w → ⊥)
    (v : Views) (parts_named : PartsAreNamed (typing t).table) (may : ℕ → ℕ → Type 0)
    (frames : t.state.frames ≡ t.frame ∷ t.outer) (none : taken t.point.instr ≡ 0)
    (p q : NamedPoint) (y : ℕ) (is : p.instr ≡ EndScope y) (mine : home (typing t) (length t.outer) y ≡ length t.outer)
    (not_shared : is_package_object (typing t) y ≡ false) (owner : is_view_formal (typing t) y ≡ false) (last : is_last y p.scope ≡ true)
    (variable : is_anonymous (view_of (typing t) y) ≡ true → is_variable (object_at (typing t) y).kind ≡ true)
    (ended : (x : ℕ) → is_within x p.scope ≡ true → (x ≡ y → ⊥)
    → (x < y) × (encloses t.program.scopes (scope_of (typing t) y) (scope_of (typing t) x) ≡ true → scope_of (typing t) x ≡ scope_of (typing t) y))
    (followed : (x : ℕ) → is_within x q.scope ≡ true → is_observer (typing t) x ≡ true → scope_of (typing t) x ≡ scope_of (typing t) y
    → (z : ℕ) × (q.instr ≡ EndScope z) × (scope_of (typing t) x ≡ scope_of (typing t) z))
    (leads : Leads (typing t) (drop 1 p.scope) q.scope)
    (facts : List Fact) (allowed : Allows facts (act.EndScope y (is_borrower (typing t) y)))
    (viewed : Viewed (home (typing t) (length t.outer)) sees other v (sound.view_of (typing t) t.state) facts)
    (kept : Kept (typing t) t.state.memory (waiting_in t.state))
    (holds : HoldsAt (typing t) sees (length t.outer) v t.state.memory p) (placed : ArePlacedWith t.program sees (length t.outer) facts v p.scope)
    (unlent : (l : Loan) (n : PlaceName) → other.lent l n → n.root ≡ y → ⊥) where
  abbrev pub s : Typing
  s = typing t

  abbrev pub depth : ℕ
  depth = length t.outer

  abbrev pub m : Memory
  m = t.state.memory

  abbrev after_end : List Fact
  after_end = effect (act.EndScope y (is_borrower s y)) facts

  -- the observers of the region
  abbrev pub fades : ℕ → Bool
  fades x = is_observer s x && (scope_of s x == scope_of s y)

  abbrev left : Views
  left = without v fades

  left_viewed : Viewed (home s depth) sees other left (sound.view_of s t.state) facts
  left_viewed = faded (home s depth) sees other v fades
      (λ x e. observer_sees s sees seeing x (both_parts (is_observer s x) (scope_of s x == scope_of s y) e).0) (sound.view_of s t.state) facts viewed

  abbrev Home : ℕ → ℕ
  Home = home s depth

  -- a borrower of the frame is younger than what it was taken from
  older_of : (x : ℕ) (w : Way) → v.way x ≡ Some w → Named Home (v.up x) → sees x ≡ false → number_of (v.up x) < x
  older_of x w has named e = elim (viewed.views.0 x w has) [
    | inl own ↦ own.older e
    | inr passed ↦ absurd (passed.given named)
  ]

  -- nothing that another view goes by is the object
  other_root : (x : ℕ) → is_within x p.scope ≡ true → (x ≡ y → ⊥) → fades x ≡ false → (r : ℕ) → Lasts t.program p.scope r x
      → (sees x ≡ false → r < x) → (is_observer s x ≡ false → sees x ≡ false) → r ≡ y → ⊥
  other_root x within off stays r (inl shared) older changes same = true_false (is_package_object s y) (ap (is_package_object s) (sym same) ∙ shared) not_shared
  other_root x within off stays r (inr (there, end, around, plain)) older changes same = by_kind (is_observer s x) refl
    where
      by_kind : (b : Bool) → is_observer s x ≡ b → ⊥
      by_kind false e =
          let less = (ended x within off).0 in
          let low = older (changes e) in
          absurd (omega (arith, less, low, same))
      by_kind true e =
          let region = (ended x within off).1 (subst (λ z. encloses t.program.scopes (scope_of s z) (scope_of s x) ≡ true) same around) in
          true_false (fades x) (both_true (is_observer s x) (scope_of s x == scope_of s y) e (eq-eqb (scope_of s x) (scope_of s y) region)) stays

  -- ---- what is left of the views

  -- The views afterwards.
  pub record Leaves_views (views : Views) : Type 0 where
    pub sound_still : Viewed (home s depth) sees other views (sound.view_of s t.state) facts
    pub no_value : views.way y ≡ None
    pub was : (x : ℕ) (w : Way) → views.way x ≡ Some w → (x ≡ y → ⊥) × (fades x ≡ false) × (v.way x ≡ Some w)
    pub still : (x : ℕ) (w : Way) → (x ≡ y → ⊥) → fades x ≡ false → v.way x ≡ Some w → views.way x ≡ Some w
    pub ups : (x : ℕ) → (x ≡ y → ⊥) → views.up x ≡ v.up x
    pub loans : (x : ℕ) → (x ≡ y → ⊥) → views.loan x ≡ v.loan x
    pub cells : (x : ℕ) → (x ≡ y → ⊥) → views.cell x ≡ v.cell x
    pub part_ways : (x : ℕ) (p : List Step) → views.part_way x p ≡ v.part_way x p
    pub part_cells : (x : ℕ) (p : List Step) → views.part_cell x p ≡ v.part_cell x p

  -- the object had no way, or it faded
  without_it : left.way y ≡ None → Leaves_views left
  without_it none_there = record {
    sound_still = left_viewed;
    no_value = none_there;
    was = λ x w has. (
        let old = had_way v fades x w has in
        (λ same. none_some w (sym none_there ∙ ap left.way (sym same) ∙ has), old.0, old.1));
    still = λ x w off stays has. has_way v fades x stays ∙ has;
    ups = λ x off. refl;
    loans = λ x off. refl;
    cells = λ x off. refl;
    part_ways = λ x p. refl;
    part_cells = λ x p. refl;
  }

  -- a borrower
  without_borrower : is_borrower s y ≡ true → is_observer s y ≡ false → Leaves_views (with_view left y None (left.loan y) (left.up y) 0)
  without_borrower borrows borrower_sees =
      let views : Views = with_view left y None (left.loan y) (left.up y) 0 in
      let becomes = becomes_with left y None (left.loan y) (left.up y) 0 in
      let unused : Unused (home s depth) other.lent left facts y = record {
        unlent = unlent;
        unmoved = borrower_unmoved facts y (subst (λ b. Allows facts (act.EndScope y b)) borrows allowed);
        untaken = λ x w has named off root. (
            let old = had_way v fades x w has in
            let place = placed x w old.1 in
            let taken : Named Home (v.up x) = named in
            other_root x place.within off old.0 (number_of (v.up x)) (place.up taken) (older_of x w old.1 taken) (holds.taken x w old.1 taken) root);
      } in
      record {
        sound_still = given_up (home s depth) sees other left views (sound.view_of s t.state) facts left_viewed y (left.loan y) (left.up y) 0 becomes unused;
        no_value = becomes.way_is;
        was = λ x w has. (
            let off : x ≡ y → ⊥ = λ same. none_some w (sym becomes.way_is ∙ ap views.way (sym same) ∙ has) in
            let old = had_way v fades x w (sym (becomes.ways x off) ∙ has) in
            (off, old.0, old.1));
        still = λ x w off stays has. becomes.ways x off ∙ has_way v fades x stays ∙ has;
        ups = λ x off. becomes.ups x off;
        loans = λ x off. becomes.loans x off;
        cells = λ x off. becomes.cells x off;
        part_ways = λ x p. refl;
        part_cells = λ x p. refl;
      }

  pub leaves : (views : Views) × Leaves_views views
  leaves = by_view (is_anonymous (view_of s y)) refl
    where
      no_view : (o : Option Way) → left.way y ≡ o → is_anonymous (view_of s y) ≡ false → left.way y ≡ None
      no_view None e plain = e
      no_view (Some w) e plain = absurd (true_false (is_view s y) (holds.only y w (had_way v fades y w e).1) (both_no (is_anonymous (view_of s y)) (is_view_formal s y) plain owner))

      by_kind : (b : Bool) → is_observer s y ≡ b → is_anonymous (view_of s y) ≡ true → (views : Views) × Leaves_views views
      by_kind true e view = (left, without_it (no_way v fades y (both_true (is_observer s y) (scope_of s y == scope_of s y) e (eq-eqb (scope_of s y) (scope_of s y) refl))))
      by_kind false e view = (
        with_view left y None (left.loan y) (left.up y) 0,
        without_borrower (view_kinds (is_variable (object_at s y).kind) (is_borrowing (view_of s y)) (is_observing (view_of s y)) view (variable view) e) e,
      )

      by_view : (b : Bool) → is_anonymous (view_of s y) ≡ b → (views : Views) × Leaves_views views
      by_view true e = by_kind (is_observer s y) refl e
      by_view false e = (left, without_it (no_view (left.way y) refl e))

  abbrev pub views_left : Views
  views_left = leaves.0

  -- ---- the outcome

  -- the root of a way isn't the object, and no loan that is gone by is its
  root_left : (x : ℕ) (w : Way) → views_left.way x ≡ Some w → Named Home w → number_of w ≡ y → ⊥
  root_left x w has named is =
      let old = leaves.1.was x w has in
      let place = placed x w old.2 in
      let through : (l : Loan) → IsThrough Home other.lent l w → ⊥ = λ l (k, at_home, under, lent). unlent l (name_of k) lent (sym (longer k w under).root ∙ is) in
      elim (viewed.views.0 x w old.2) [
        | inr passed ↦ (let (l, lent, changed) = viewed.shown.0 x w old.2 passed.given named in through l lent)
        | inl view ↦ other_root x place.within old.0 old.1 (number_of w) (place.root named)
            (λ e. elim (root_before Home sees other v (sound.view_of s t.state) facts viewed x w old.2 e named) [
              | inl less ↦ less
              | inr lent ↦ absurd (through Borrowed lent)
            ])
            (holds.taken x w old.2 view.named) is
      ]

  holder_left : (x : ℕ) (w : Way) → views_left.way x ≡ Some w → Named Home (v.up x) → sees x ≡ true
      → (h : ℕ) × Has after_end (Lent Observed h (name_of (views_left.loan x))) × Lasts t.program p.scope h x × (h ≡ y → ⊥)
      × (sees h ≡ true)
  holder_left x w has named sight =
      let old = leaves.1.was x w has in
      let place = placed x w old.2 in
      let h = place.holder named sight in
      let off : h.0 ≡ y → ⊥ =
      other_root x place.within old.0 old.1 h.0 h.2 (λ e. absurd (true_false (sees x) sight e)) (holds.taken x w old.2 named) in (
        h.0,
        kept_fact (act.EndScope y (is_borrower s y)) facts (Lent Observed h.0 (name_of (views_left.loan x)))
            (subst (λ z. Has facts (Lent Observed h.0 (name_of z))) (sym (leaves.1.loans x old.0)) h.1)
            (refused (h.0 == y) (λ e. off (eqb-true h.0 y e))),
        h.2,
        off,
        h.3,
      )

  pub leaves_others : LeavesOthers t sees seeing settled own_law other alone v parts_named may frames none views_left y after_end
  leaves_others = record {
    no_value = leaves.1.no_value;
    roots = root_left;
    loans = λ x w has named sight. (
        let h = holder_left x w has (subst (Named Home) (leaves.1.ups x (leaves.1.was x w has).0) named) sight in (h.0, h.1, h.4));
    unlent = unlent;
  }

  pub ends_well : Is_left t sees seeing settled own_law other alone v parts_named may frames none views_left y after_end (steps.end_scope t y)
  ends_well = scope_left t sees seeing settled own_law other alone v parts_named may frames none views_left y (is_borrower s y) mine owner facts leaves.1.sound_still kept leaves_others

  -- ---- at the next point

  lasts_left : (r x : ℕ) → (r ≡ y → ⊥) → Lasts t.program p.scope r x → Lasts t.program q.scope r x
  lasts_left r x off (inl shared) = inl shared
  lasts_left r x off (inr (within, end, around, plain)) = lasts_on t.program (drop 1 p.scope) q.scope r x leads (inr (rest_within r y p.scope last within off, end, around, plain))

  pub placed_left : ArePlacedWith t.program sees depth after_end views_left q.scope
  placed_left x w has =
      let old = leaves.1.was x w has in
      let place = placed x w old.2 in
      record {
        within = within_on s (drop 1 p.scope) q.scope x leads (view_ends s x (holds.only x w old.2)) (rest_within x y p.scope last place.within old.0);
        plain = place.plain;
        up = λ named. (
            let taken = subst (Named Home) (leaves.1.ups x old.0) named in
            subst (λ z. Lasts t.program q.scope (number_of z) x) (sym (leaves.1.ups x old.0))
            (lasts_left (number_of (v.up x)) x
            (other_root x place.within old.0 old.1 (number_of (v.up x)) (place.up taken) (older_of x w old.2 taken) (holds.taken x w old.2 taken))
            (place.up taken)));
        root = λ named. lasts_left (number_of w) x (root_left x w has named) (place.root named);
        holder = λ named sight. (let h = holder_left x w has (subst (Named Home) (leaves.1.ups x old.0) named) sight in (h.0, h.1, lasts_left h.0 x h.3 h.2, h.4));
      }

  -- the variable of a view that has a number was there before
  word_before : (x i n : ℕ) → (get_or (variable_slots s (home s depth x) x (undeclared depth y m).variables) i no_slot).word ≡ machine.Cell n
      → (x ≡ y → ⊥) × ((get_or (variable_slots s (home s depth x) x m.variables) i no_slot).word ≡ machine.Cell n)
  word_before x i n e = by_object (x == y) refl
    where
      by_object : (b : Bool) → (x == y) ≡ b → (x ≡ y → ⊥) × ((get_or (variable_slots s (home s depth x) x m.variables) i no_slot).word ≡ machine.Cell n)
      by_object true b =
          let same = eqb-true x y b in
          let was : get_or (fresh (machine.default s.table (object_at s y).of)) i no_slot ≡ get_or (variable_slots s (home s depth x) x (undeclared depth y m).variables) i no_slot =
          sym (ap (λ z. get_or z i no_slot) (removed_same s depth y m.variables))
          ∙ ap (λ f. get_or (variable_slots s f y (undeclared depth y m).variables) i no_slot) (sym mine)
          ∙ ap (λ z. get_or (variable_slots s (home s depth z) z (undeclared depth y m).variables) i no_slot) (sym same) in
          absurd (none_default s.table (object_at s y).of n (cell_has (machine.default s.table (object_at s y).of) i n (ap (λ (z : Slot). z.word) was ∙ e)))
      by_object false b =
          let off : x ≡ y → ⊥ = λ same. false≢true (sym b ∙ eq-eqb x y same) in
          (off, sym (ap (λ z. (get_or z i no_slot).word) (removed_other s depth y (home s depth x) x (λ same. off (same_object depth y (home s depth x) x same)) m.variables)) ∙ e)

  pub holds_left : HoldsAt s sees depth views_left (undeclared depth y m) q
  holds_left = record {
    held = held;
    within = λ x n view bare e. (let old = word_before x 0 n e in within x view old.0 (holds.within x n view bare old.1));
    only = λ x w has. (let old = leaves.1.was x w has in holds.only x w old.2);
    lies = λ x w has. (let old = leaves.1.was x w has in holds.lies x w old.2);
    owners = λ x w has. (let old = leaves.1.was x w has in holds.owners x w old.2);
    passed = λ x w has formal taken. (let old = leaves.1.was x w has in holds.passed x w old.2 formal (subst (Named Home) (leaves.1.ups x old.0) taken));
    own = λ x w has sight none. (let old = leaves.1.was x w has in subst (Named Home) (sym (leaves.1.ups x old.0)) (holds.own x w old.2 sight none));
    taken = λ x w has named borrows. (let old = leaves.1.was x w has in holds.taken x w old.2 (subst (Named Home) (leaves.1.ups x old.0) named) borrows);
    parts = record {
      held = λ x q d c n k bundle there is at. (
          let old = word_before x (offset_in s.table (object_at s x).of q) k at in
          let found = holds.parts.held x q d c n k bundle there is old.1 in
          (found.0, leaves.1.part_ways x q ∙ found.1, leaves.1.part_cells x q ∙ found.2));
      only = λ x q w has. holds.parts.only x q w (sym (leaves.1.part_ways x q) ∙ has);
      owners = λ x q w has. holds.parts.owners x q w (sym (leaves.1.part_ways x q) ∙ has);
      looks = holds.parts.looks;
    };
    low = λ x q w has. holds.low x q w (sym (leaves.1.part_ways x q) ∙ has);
  }
    where
      within : (x : ℕ) → is_view s x ≡ true → (x ≡ y → ⊥) → is_within x p.scope ≡ true → is_within x q.scope ≡ true
      within x view off there = within_on s (drop 1 p.scope) q.scope x leads (view_ends s x view) (rest_within x y p.scope last there off)

      fading_before : (x : ℕ) → IsFading s p x → scope_of s x ≡ scope_of s y
      fading_before x (z, e, sight, region) = region ∙ ap (scope_of s) (same_end z y (sym e ∙ is))

      held : (x n : ℕ) → (IsFading s q x → ⊥) → is_view s x ≡ true → is_bundle s x ≡ false
          → (get_or (variable_slots s (home s depth x) x (undeclared depth y m).variables) 0 no_slot).word ≡ machine.Cell n
          → (w : Way) × (views_left.way x ≡ Some w) × (views_left.cell x ≡ n)
      held x n lasts view bare e =
          let old = word_before x 0 n e in
          let there = within x view old.0 (holds.within x n view bare old.1) in
          let not_region : is_observer s x ≡ true → scope_of s x ≡ scope_of s y → ⊥ = λ sight region. (
          let next = followed x there sight region in lasts (next.0, next.1, sight, next.2)) in
          let own = holds.held x n (λ fading. not_region fading.2 (fading_before x fading)) view bare old.1 in
          let stays : fades x ≡ false = refused (fades x) (λ f. (
          let both = both_parts (is_observer s x) (scope_of s x == scope_of s y) f in
          not_region both.0 (eqb-true (scope_of s x) (scope_of s y) both.1))) in
          (own.0, leaves.1.still x own.0 old.0 stays own.1, leaves.1.cells x old.0 ∙ own.2)
