-- What the rules on actuals say of formals that a procedure changes: their actuals aren't lent, and don't
-- overlap those of others.
use Rattle.std.proofs.Common.{◌≡◌, refl, sym, ap, ◌∙◌, subst, ◌⊎◌, inl, inr, ℕ, Bool, true, false, not, ◌&&◌, ◌||◌, ◌==◌, eqb-true, eq-eqb, List, [], ◌∷◌, Option, Some, None, if◌then◌else◌}
use Rattle.std.specs.Prelude.{flat_map, map}
use Rattle.std.proofs.lemmas.Bool.{true≢false, false≢true}
use Rattle.machine.specs.spark_base.Lists.{Has}
use Rattle.soundness.proofs.Lists.{Has-append_left, Has-append_right, Has-append_cases}
use Rattle.machine.specs.place_names.declared.rule.Rule.TheVariants.{A1, O10}
use Rattle.machine.specs.place_names.declared.act.Act.TheVariants as act
use Rattle.machine.specs.place_names.declared.act.Mode.{Mode}
use Rattle.machine.specs.place_names.declared.act.Mode.TheVariants as mode
use Rattle.machine.specs.place_names.declared.fact.Fact.{Fact}
use Rattle.machine.specs.place_names.declared.fact.Fact.TheVariants.{Moved, Lent}
use Rattle.machine.specs.place_names.declared.selector.Sel.{Sel}
use Rattle.machine.specs.place_names.declared.act.Act.{Act}
use Rattle.machine.specs.place_names.declared.act.Placed.{Placed}
use Rattle.machine.specs.place_names.declared.selector.Sel.TheVariants.{Deref}
use Rattle.machine.specs.place_names.Names.{Name as PlaceName, extend, overlaps, covers, begins, is_prefix, is_equal, agrees, agree_along, has_elem}
use Rattle.soundness.proofs.PlaceNames.{overlaps-sym, both_parts, both_true, is_equal-decides}
use Rattle.machine.specs.place_names.Facts.{is_moved_under}
use Rattle.machine.specs.place_names.Reports.{Report}
use Rattle.machine.specs.place_names.declared.rule.Loan.TheVariants.{Borrowed, Observed}
use Rattle.machine.specs.place_names.Rules.{moved_or_lent, moved_or_borrowed, breaks_O10}
use Rattle.machine.specs.typed_tree.Trees.{TypedTree, More}
use Rattle.machine.specs.type_definitions.Types.{is_owning}
use Rattle.machine.specs.flow_paths.Objects.{Typing, object_at, is_variable_access, is_named_access, view_of, Place, passing, passing_by}
use Rattle.machine.specs.flow_paths.Acts.{naming, actual_act, actual_acts}
use Rattle.machine.specs.flow_paths.Names.{Written, written}
use Rattle.machine.specs.flow_paths.Views.{is_in_mode, text_report}
use Rattle.machine.specs.flow_paths.Aliases.{pair_reports, overlap_reports, may_overlap}
use Rattle.machine.specs.flow_paths.Aliases as alias
use Rattle.soundness.specs.OwnedWays.Ways.{Allows, AllowsAll, after}
use Rattle.soundness.proofs.OwnedWays.Assigned.{kept_fact, is_false}
use Rattle.soundness.proofs.Scalars.{acts, acts_append, allows_both}
use Rattle.soundness.proofs.OwnedLoans.Clear.{refused}
use Rattle.soundness.specs.ViewedSoundness.Holds.{is_fixed, AllKeep}
use Rattle.soundness.proofs.ViewedSoundness.ViewKinds.{free_sees}
use Rattle.soundness.proofs.ViewedSoundness.Evaluated.{keep_both}
use Rattle.viewed_steps.specs.Ready.{AreDifferent}
use Rattle.viewed_steps.specs.Sound.{IsCopiedBack}
use Rattle.viewed_steps.proofs.Passed.{flat_has, later_none}
use Rattle.viewed_steps.proofs.Constructors.{is_out_mode}

-- An actual stands for a formal.
abbrev pub IsActualOf : List ℕ → TypedTree → ℕ → TypedTree → Type 0
IsActualOf (x ∷ formals) (More e rest) y a = ((x ≡ y) × (e ≡ a)) ⊎ IsActualOf formals rest y a
IsActualOf _ _ y a = ⊥

-- What a formal gets has a name among what is passed.
abbrev pub IsNameOf : List ℕ → TypedTree → ℕ → Written → Type 0
IsNameOf formals actuals y m = Has (alias.passed formals actuals) (record { formal = y; actual = m })

pub named_has : (formals : List ℕ) (actuals : TypedTree) (b : alias.Passed) → Has (alias.passed formals actuals) b → Has formals b.formal
named_has (x ∷ formals) (More e rest) b has = elim (Has-append_cases (alias.passed_as x (written e)) (alias.passed formals rest) b has) [
  | inl first ↦ inl (is_first (written e) first)
  | inr later ↦ inr (named_has formals rest b later)
]
  where
    is_first : (w : Option Written) → Has (alias.passed_as x w) b → x ≡ b.formal
    is_first None none = absurd none
    is_first (Some m) (inl same) = ap (λ (z : alias.Passed). z.formal) same
    is_first (Some m) (inr none) = absurd none
named_has [] actuals b has = absurd has
named_has (x ∷ formals) _ b has = absurd has

pub actual_named : (formals : List ℕ) (actuals : TypedTree) (y : ℕ) (a : TypedTree) (m : Written) → IsActualOf formals actuals y a → written a ≡ Some m
    → IsNameOf formals actuals y m
actual_named (x ∷ formals) (More e rest) y a m (inl (same, is)) called =
    Has-append_left (alias.passed_as x (written e)) (alias.passed formals rest) (record { formal = y; actual = m })
    (subst (λ z. Has (alias.passed_as x z) (record { formal = y; actual = m })) (sym (ap written is ∙ called))
    (inl (λ j. record { formal = same j; actual = m })))
actual_named (x ∷ formals) (More e rest) y a m (inr later) called =
    Has-append_right (alias.passed_as x (written e)) (alias.passed formals rest) (record { formal = y; actual = m }) (actual_named formals rest y a m later called)
actual_named [] actuals y a m of called = absurd of
actual_named (x ∷ formals) _ y a m of called = absurd of

module _ (s : Typing) (sees : ℕ → Bool) where
  -- A formal whose actual may change.
  abbrev pub IsChanged : ℕ → Type 0
  IsChanged x = IsCopiedBack s x ⊎ (is_variable_access (view_of s x) ≡ true)

  mutable : (x : ℕ) → IsChanged x → alias.is_immutable s x ≡ false
  mutable x (inl back) = ap (λ b. b && not (is_variable_access (view_of s x))) (not_in (object_at s x).mode back)
    where
      not_in : (m : Mode) → (m ≡ mode.In → ⊥) → is_in_mode m ≡ false
      not_in mode.In is = absurd (is refl)
      not_in mode.Out is = refl
      not_in mode.InOut is = refl
  mutable x (inr access) = ap (λ b. is_in_mode (object_at s x).mode && not b) access ∙ none (is_in_mode (object_at s x).mode)
    where
      none : (b : Bool) → b && false ≡ false
      none true = refl
      none false = refl

  never : (a b : alias.Passed) → IsChanged a.formal → IsChanged b.formal → may_overlap s a b ≡ false
  never a b one two =
      (λ j. (mutable a.formal one j && mutable b.formal two j) || ((mutable a.formal one j && alias.is_scalar_formal s a.formal) || (mutable b.formal two j && alias.is_scalar_formal s b.formal)))

  -- One whose actual may not overlap that of such a one.
  abbrev pub IsKeptApart : ℕ → Type 0
  IsKeptApart x = IsChanged x ⊎ (alias.is_scalar_formal s x ≡ false)

  kept_apart : (a b : alias.Passed) → IsChanged a.formal → IsKeptApart b.formal → (may_overlap s a b ≡ false) × (may_overlap s b a ≡ false)
  kept_apart a b one (inl two) = (never a b one two, never b a two one)
  kept_apart a b one (inr many) =
      by (alias.is_immutable s a.formal) (alias.is_immutable s b.formal) (alias.is_scalar_formal s a.formal) (alias.is_scalar_formal s b.formal) (mutable a.formal one) many
    where
      by : (i k x y : Bool) → i ≡ false → y ≡ false → ((i && k) || ((i && x) || (k && y)) ≡ false) × ((k && i) || ((k && y) || (i && x)) ≡ false)
      by true k x y e f = absurd (true≢false e)
      by false k x true e f = absurd (true≢false f)
      by false true x false e f = (refl, refl)
      by false false x false e f = (refl, refl)

  refuted : (a b : alias.Passed) → may_overlap s a b ≡ false → ((r : Report) → Has (pair_reports s a b) r → ⊥) → overlaps a.actual.name b.actual.name ≡ true → ⊥
  refuted a b apart none over =
      let test : overlaps a.actual.name b.actual.name && not (may_overlap s a b) ≡ true = ap (λ z. z && not (may_overlap s a b)) over ∙ ap not apart in
      none (text_report b.actual.pos A1 b.actual.name)
      (subst (λ z. Has (if z then text_report b.actual.pos A1 b.actual.name ∷ [] else []) (text_report b.actual.pos A1 b.actual.name)) (sym test) (inl refl))

  -- names of different formals don't overlap, where one may change, and the other one may or isn't scalar
  pub apart_listed : (all : List alias.Passed) → ((r : Report) → Has (overlap_reports s all) r → ⊥) → (a b : alias.Passed) → Has all a → Has all b
      → (a.formal ≡ b.formal → ⊥) → IsChanged a.formal → IsKeptApart b.formal → overlaps a.actual.name b.actual.name ≡ true → ⊥
  apart_listed [] none a b one two differ ca cb over = absurd one
  apart_listed (c ∷ rest) none a b (inl one) (inl two) differ ca cb over =
      differ (sym (ap (λ (z : alias.Passed). z.formal) one) ∙ ap (λ (z : alias.Passed). z.formal) two)
  apart_listed (c ∷ rest) none a b (inl one) (inr two) differ ca cb over =
      refuted a b (kept_apart a b ca cb).0
      (λ r report. none r (Has-append_left (flat_map (pair_reports s c) rest) (overlap_reports s rest) r
      (flat_has (pair_reports s c) rest b r two (subst (λ z. Has (pair_reports s z b) r) (sym one) report)))) over
  apart_listed (c ∷ rest) none a b (inr one) (inl two) differ ca cb over =
      refuted b a (kept_apart a b ca cb).1
      (λ r report. none r (Has-append_left (flat_map (pair_reports s c) rest) (overlap_reports s rest) r
      (flat_has (pair_reports s c) rest a r one (subst (λ z. Has (pair_reports s z a) r) (sym two) report))))
      (overlaps-sym b.actual.name a.actual.name ∙ over)
  apart_listed (c ∷ rest) none a b (inr one) (inr two) differ ca cb over =
      apart_listed rest (λ r has. none r (Has-append_right (flat_map (pair_reports s c) rest) (overlap_reports s rest) r has)) a b one two differ ca cb over

  -- ---- what the acts of a call say

  -- A formal of a procedure that is lent what its actual designates.
  pub record IsLentTo (y : ℕ) : Type 0 where
    pub of_in : (object_at s y).mode ≡ mode.In
    pub owning : is_owning s.table (object_at s y).of ≡ true
    pub access : is_named_access (view_of s y) ≡ true

  lent_passing : (y : ℕ) → IsLentTo y → passing s true y ≡ Place mode.In true true
  lent_passing y lent =
      (λ j. passing_by (lent.of_in j) (is_owning s.table (object_at s y).of) (true && is_named_access (view_of s y)))
      ∙ (λ j. passing_by mode.In (lent.owning j) (lent.access j))

  abbrev pub copies_of : List ℕ → TypedTree → List Placed
  copies_of formals actuals = actual_acts (map (passing s true) formals) actuals

  -- a fact about a name is there after the act of an actual, but where the act covers it
  still_there : (w : Option Written) (how : Mode) (owning access : Bool) (known : List Fact) (f : Fact) → Has known f
      → ((m : Written) → w ≡ Some m → (how ≡ mode.Out) → is_moved_under m.name f ≡ true → ⊥)
      → Has (after (acts (naming w (λ k. act.Actual k how owning access))) known) f
  still_there None how owning access known f has off = has
  still_there (Some m) mode.In owning access known f has off = kept_fact (act.Actual m.name mode.In owning access) known f has refl
  still_there (Some m) mode.InOut owning access known f has off = kept_fact (act.Actual m.name mode.InOut owning access) known f has refl
  still_there (Some m) mode.Out owning access known f has off =
      kept_fact (act.Actual m.name mode.Out owning access) known f has (is_false (is_moved_under m.name f) (λ e. off m refl refl e))

  covered : (k n u : List Sel) → begins k n ≡ true → agree_along n u ≡ true → agree_along k u ≡ true
  covered [] n u b e = refl
  covered (s ∷ k) [] u b e = absurd (false≢true b)
  covered (s ∷ k) (t ∷ n) [] b e = refl
  covered (s ∷ k) (t ∷ n) (r ∷ u) b e =
      let one = both_parts (is_equal s t) (begins k n) b in
      let two = both_parts (agrees t r) (agree_along n u) e in
      both_true (agrees s r) (agree_along k u) (subst (λ z. agrees z r ≡ true) (sym ((is_equal-decides s t).0 one.0)) two.0) (covered k n u one.1 two.1)

  -- what covers a name overlaps what the name does
  covers_over : (k n u : PlaceName) → covers k n ≡ true → overlaps n u ≡ true → overlaps k u ≡ true
  covers_over k n u c over =
      let one = both_parts (is_prefix k n) (not (has_elem k.sels)) c in
      let two = both_parts (k.root == n.root) (begins k.sels n.sels) one.0 in
      let three = both_parts (n.root == u.root) (agree_along n.sels u.sels) over in
      both_true (k.root == u.root) (agree_along k.sels u.sels)
      (eq-eqb k.root u.root (eqb-true k.root n.root two.0 ∙ eqb-true n.root u.root three.0)) (covered k.sels n.sels u.sels two.1 three.1)

  under_over : (k u : PlaceName) (f : Fact) → is_moved_under k f ≡ true → moved_or_lent u f ≡ true → overlaps k u ≡ true
  under_over k u (Moved n) c over = covers_over k n u c over
  under_over k u (Lent l h n) c over = absurd (false≢true c)

  pub borrowed_lent : (m : PlaceName) (f : Fact) → moved_or_borrowed m f ≡ true → moved_or_lent m f ≡ true
  borrowed_lent m (Moved n) over = over
  borrowed_lent m (Lent Borrowed h n) over = over
  borrowed_lent m (Lent Observed h n) over = absurd (false≢true over)

  -- A fact that overlaps the actual of such a formal is there still where its act comes: no act before it takes that back.
  pub record Comes (m : Written) (access : Bool) (f : Fact) : Type 0 where
    pub facts : List Fact
    pub there : Has facts f
    pub allowed : Allows facts (act.Actual m.name mode.In true access)

  pub act_comes : (formals : List ℕ) (actuals : TypedTree) (known : List Fact) → AreDifferent formals → AllowsAll known (acts (copies_of formals actuals))
      → ((r : Report) → Has (overlap_reports s (alias.passed formals actuals)) r → ⊥) → (y : ℕ) (m : Written) → IsNameOf formals actuals y m
      → (access : Bool) → passing s true y ≡ Place mode.In true access → IsKeptApart y → (f : Fact) → Has known f → moved_or_lent m.name f ≡ true → Comes m access f
  act_comes [] actuals known differ allowed none y m of access lent kept f has over = absurd of
  act_comes (x ∷ formals) (More e rest) known differ allowed none y m of access lent kept f has over =
      let first : List Act = acts (actual_act (passing s true x) e) in
      let each = allows_both known first (acts (copies_of formals rest))
      (subst (AllowsAll known) (acts_append (actual_act (passing s true x) e) (copies_of formals rest)) allowed) in
      elim (Has-append_cases (alias.passed_as x (written e)) (alias.passed formals rest) (record { formal = y; actual = m }) of) [
        | inl here ↦ (let is = is_first (written e) here in record {
          facts = known;
          there = has;
          allowed = head_allows (written e) refl is.1 (subst (λ z. AllowsAll known (acts (actual_act z e))) (ap (passing s true) is.0 ∙ lent) each.0);
        })
        | inr later ↦ act_comes formals rest (after first known) differ.1 each.1 (later_none s x e formals rest none) y m later access lent kept f
            (by_passing (object_at s x).mode refl (is_owning s.table (object_at s x).of) later) over
      ]
    where
      is_first : (w : Option Written) → Has (alias.passed_as x w) (record { formal = y; actual = m }) → (x ≡ y) × (w ≡ Some m)
      is_first None here = absurd here
      is_first (Some k) (inr none_more) = absurd none_more
      is_first (Some k) (inl same) = (ap (λ (z : alias.Passed). z.formal) same, ap (λ (z : alias.Passed). Some z.actual) same)

      head_allows : (w : Option Written) → written e ≡ w → w ≡ Some m → AllowsAll known (acts (naming (written e) (λ k. act.Actual k mode.In true access)))
          → Allows known (act.Actual m.name mode.In true access)
      head_allows w is same allows = (subst (λ z. AllowsAll known (acts (naming z (λ k. act.Actual k mode.In true access)))) (is ∙ same) allows).0

      covers_not : (k : Written) → Has (alias.passed formals rest) (record { formal = y; actual = m }) → written e ≡ Some k → (object_at s x).mode ≡ mode.Out
          → is_moved_under k.name f ≡ true → ⊥
      covers_not k later called out c =
          let a : alias.Passed = record { formal = x; actual = k } in
          let b : alias.Passed = record { formal = y; actual = m } in
          apart_listed (alias.passed (x ∷ formals) (More e rest)) none a b
          (Has-append_left (alias.passed_as x (written e)) (alias.passed formals rest) a (subst (λ z. Has (alias.passed_as x z) a) (sym called) (inl refl)))
          (Has-append_right (alias.passed_as x (written e)) (alias.passed formals rest) b later)
          (λ same. differ.0 y (named_has formals rest b later) (sym same)) (inl (λ is_in. out_in (sym out ∙ is_in))) kept
          (under_over k.name m.name f c over)
        where
          out_in : mode.Out ≡ mode.In → ⊥
          out_in e = false≢true (ap is_out_mode (sym e))

      by_passing : (how : Mode) → (object_at s x).mode ≡ how → (owning : Bool) → Has (alias.passed formals rest) (record { formal = y; actual = m })
          → Has (after (acts (actual_act (passing s true x) e)) known) f
      by_passing how is owning later =
          subst (λ z. Has (after (acts (actual_act z e)) known) f) (ap (λ z. passing_by z (is_owning s.table (object_at s x).of) (true && is_named_access (view_of s x))) (sym is))
          (by_mode how is (is_owning s.table (object_at s x).of) (true && is_named_access (view_of s x)))
        where
          by_mode : (how : Mode) → (object_at s x).mode ≡ how → (owning access : Bool) → Has (after (acts (actual_act (passing_by how owning access) e)) known) f
          by_mode mode.In is false access = has
          by_mode mode.In is true access = still_there (written e) mode.In true access known f has (λ k w out. absurd (in_out out))
            where
              in_out : mode.In ≡ mode.Out → ⊥
              in_out e = false≢true (ap is_out_mode e)
          by_mode mode.Out is owning access = still_there (written e) mode.Out owning access known f has (λ k w out c. covers_not k later w is c)
          by_mode mode.InOut is owning access = still_there (written e) mode.InOut owning access known f has (λ k w out. absurd (in_out out))
            where
              in_out : mode.InOut ≡ mode.Out → ⊥
              in_out e = false≢true (ap is_out_mode e)
  act_comes (x ∷ formals) _ known differ allowed none y m of access lent kept f has over = absurd of

  -- nothing that overlaps what is lent is moved or lent before the call
  pub lent_clear : (formals : List ℕ) (actuals : TypedTree) (known : List Fact) → AreDifferent formals → AllowsAll known (acts (copies_of formals actuals))
      → ((r : Report) → Has (overlap_reports s (alias.passed formals actuals)) r → ⊥) → (y : ℕ) (m : Written) → IsNameOf formals actuals y m → IsLentTo y
      → is_variable_access (view_of s y) ≡ true → (f : Fact) → Has known f → moved_or_lent m.name f ≡ true → ⊥
  lent_clear formals actuals known differ allowed none y m of lent access f has over =
      let comes = act_comes formals actuals known differ allowed none y m of true (lent_passing y lent) (inl (inr access)) f has over in
      refused (moved_or_lent m.name f) O10 m.name f over (comes.allowed f comes.there)

  -- nor is what a formal with parts that see is shown moved or borrowed
  pub shown_clear : (formals : List ℕ) (actuals : TypedTree) (known : List Fact) → AreDifferent formals → AllowsAll known (acts (copies_of formals actuals))
      → ((r : Report) → Has (overlap_reports s (alias.passed formals actuals)) r → ⊥) → (y : ℕ) (m : Written) → IsNameOf formals actuals y m
      → passing s true y ≡ Place mode.In true false → alias.is_scalar_formal s y ≡ false → (f : Fact) → Has known f → moved_or_borrowed m.name f ≡ true → ⊥
  shown_clear formals actuals known differ allowed none y m of shown many f has over =
      let comes = act_comes formals actuals known differ allowed none y m of false shown (inr many) f has (borrowed_lent m.name f over) in
      refused (breaks_O10 m.name mode.In true false f) O10 m.name f over (comes.allowed f comes.there)

  -- what is lent isn't fixed
  pub lent_free : (formals : List ℕ) (actuals : TypedTree) → AllKeep (is_fixed s sees) (acts (copies_of formals actuals)) → (y : ℕ) (m : Written)
      → IsNameOf formals actuals y m → IsLentTo y → sees m.name.root ≡ false
  lent_free [] actuals keep y m of lent = absurd of
  lent_free (x ∷ formals) (More e rest) keep y m of lent =
      let each = keep_both (is_fixed s sees) (acts (actual_act (passing s true x) e)) (acts (copies_of formals rest))
      (subst (AllKeep (is_fixed s sees)) (acts_append (actual_act (passing s true x) e) (copies_of formals rest)) keep) in
      elim (Has-append_cases (alias.passed_as x (written e)) (alias.passed formals rest) (record { formal = y; actual = m }) of) [
        | inl here ↦ (let is = is_first (written e) here in
            head_free (written e) is.1 (subst (λ z. AllKeep (is_fixed s sees) (acts (actual_act z e))) (ap (passing s true) is.0 ∙ lent_passing y lent) each.0))
        | inr later ↦ lent_free formals rest each.1 y m later lent
      ]
    where
      is_first : (w : Option Written) → Has (alias.passed_as x w) (record { formal = y; actual = m }) → (x ≡ y) × (w ≡ Some m)
      is_first None here = absurd here
      is_first (Some k) (inr none_more) = absurd none_more
      is_first (Some k) (inl same) = (ap (λ (z : alias.Passed). z.formal) same, ap (λ (z : alias.Passed). Some z.actual) same)

      head_free : (w : Option Written) → w ≡ Some m → AllKeep (is_fixed s sees) (acts (naming w (λ k. act.Actual k mode.In true true))) → sees m.name.root ≡ false
      head_free w is keeps =
          free_sees s sees (extend m.name (Deref ∷ [])) (subst (λ z. AllKeep (is_fixed s sees) (acts (naming z (λ k. act.Actual k mode.In true true)))) is keeps).0
  lent_free (x ∷ formals) _ keep y m of lent = absurd of
