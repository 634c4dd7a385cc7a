-- Actuals that are copied back to in cells: nothing that was moved leads to them before the call, no place that
-- the call takes lies above them, and each cell has a name.
use Rattle.std.proofs.Common.{◌≡◌, refl, sym, ap, ◌∙◌, subst, ◌⊎◌, inl, inr, ℕ, Bool, true, false, ◌&&◌, ◌==◌, eqb-true, eq-eqb, List, [], ◌∷◌, ◌++◌, map, flat_map, Option, Some, None, is_some}
use Rattle.std.proofs.lemmas.Bool.{false≢true, true≢false}
use Rattle.machine.specs.spark_base.Lists.{Has}
use Rattle.machine.specs.spark_base.declared.position.Pos.{Pos}
use Rattle.soundness.proofs.Lists.{Has-append_left, Has-append_right, Has-append_cases, Has-map_from}
use Rattle.machine.specs.place_names.declared.selector.Sel.{Sel}
use Rattle.machine.specs.place_names.declared.selector.Sel.TheVariants.{Field, Elem, Deref}
use Rattle.machine.specs.place_names.declared.act.Act.{Act}
use Rattle.machine.specs.place_names.declared.act.Act.TheVariants as act
use Rattle.machine.specs.place_names.declared.act.Mode.{Mode}
use Rattle.machine.specs.place_names.declared.act.Mode.TheVariants as mode
use Rattle.machine.specs.place_names.declared.act.Placed.{Placed}
use Rattle.machine.specs.place_names.declared.fact.Fact.{Fact}
use Rattle.machine.specs.place_names.declared.fact.Fact.TheVariants.{Moved, Lent}
use Rattle.machine.specs.place_names.Names.{Name as PlaceName, is_equal, agree_along, overlaps, covers}
use Rattle.machine.specs.place_names.Facts.{adds, is_moved_under}
use Rattle.machine.specs.place_names.Reports.{Report}
use Rattle.soundness.proofs.PlaceNames.{both_parts, both_true}
use Rattle.machine.specs.type_definitions.Types.{full, is_scalar, is_owning}
use Rattle.machine.specs.typed_tree.Trees.{TypedTree, Name, More}
use Rattle.machine.specs.flow_paths.Objects.{Typing, object_at, is_named_access, view_of, Passing, passing, passing_by}
use Rattle.machine.specs.flow_paths.Names.{Written, written, name_of}
use Rattle.machine.specs.flow_paths.Acts.{naming, actual_act, actual_acts}
use Rattle.machine.specs.flow_paths.Aliases as alias
use Rattle.machine.specs.flow_paths.Aliases.{pair_reports, overlap_reports}
use Rattle.machine.specs.flow_paths.Views.{is_in_mode}
use Rattle.machine.specs.Memory.{Memory, Place}
use Rattle.machine.specs.Memory as memory
use Rattle.machine.specs.Calls.{Passed, Value, From, To}
use Rattle.machine.specs.Owners.{is_in}
use Rattle.soundness.specs.OwnedWays.Ways.{OfRoot, OfCell, Way, Under, Named, Reaches, Allows, AllowsAll, after, number_of}
use Rattle.soundness.specs.OwnedWays.Ways as ways
use Rattle.soundness.proofs.OwnedWays.Assigned.{kept_fact}
use Rattle.soundness.specs.PartOffsets.Parts.{IsSettled}
use Rattle.soundness.specs.Seen.{home}
use Rattle.soundness.specs.Typed.{OwnsByShape}
use Rattle.soundness.specs.Ready.{root_of}
use Rattle.soundness.proofs.Contents.{bool_cases}
use Rattle.soundness.proofs.Scalars.{acts, acts_append, after_append, allows_both}
use Rattle.soundness.specs.OwnedLoans.Views.{Views, expand}
use Rattle.soundness.proofs.OwnedLoans.Safe.{Unlent}
use Rattle.viewed_steps.specs.Taken.{Lodge}
use Rattle.viewed_steps.specs.Sound.{IsScalarObject, IsCopiedBack}
use Rattle.viewed_steps.specs.Ready.{AreUnobserved}
use Rattle.viewed_steps.proofs.LaidOut.{IsHoused, house_of, IsPlaceLaid, IsBackLaid, IsLaidOne, AreLaidOut, place_cell, back_cell, cell_of, cells_of, IsOpenActual, AreOpenActuals}
use Rattle.viewed_steps.proofs.Opened.{actual_open, IsLess, open_before}
use Rattle.viewed_steps.proofs.Called.{copies_add}
use Rattle.viewed_steps.proofs.Entered.{IsFrom, IsOfPlace}
use Rattle.viewed_steps.proofs.Passed.{apart_pair, flat_has, later_none, after_less}
use Rattle.viewed_steps.proofs.Constructors.{is_of_cell_loc, is_out_mode}
use Rattle.soundness.proofs.Parted.{by_either}

-- ---- names that don't overlap

equal_flip : (a b : Sel) → is_equal a b ≡ true → is_equal b a ≡ true
equal_flip (Field i) (Field j) e = eq-eqb j i (sym (eqb-true i j e))
equal_flip (Field i) Elem e = absurd (false≢true e)
equal_flip (Field i) Deref e = absurd (false≢true e)
equal_flip Elem (Field j) e = absurd (false≢true e)
equal_flip Elem Elem e = refl
equal_flip Elem Deref e = absurd (false≢true e)
equal_flip Deref (Field j) e = absurd (false≢true e)
equal_flip Deref Elem e = absurd (false≢true e)
equal_flip Deref Deref e = refl

agree_flip : (k m : List Sel) → agree_along k m ≡ true → agree_along m k ≡ true
agree_flip [] [] e = refl
agree_flip [] (b ∷ m) e = refl
agree_flip (a ∷ k) [] e = refl
agree_flip (a ∷ k) (b ∷ m) e =
    let both = both_parts (is_equal a b) (agree_along k m) e in
    both_true (is_equal b a) (agree_along m k) (equal_flip a b both.0) (agree_flip k m both.1)

pub overlaps_flip : (k m : PlaceName) → overlaps k m ≡ true → overlaps m k ≡ true
overlaps_flip k m e =
    let both = both_parts (k.root == m.root) (agree_along k.sels m.sels) e in
    both_true (m.root == k.root) (agree_along m.sels k.sels) (eq-eqb m.root k.root (sym (eqb-true k.root m.root both.0))) (agree_flip k.sels m.sels both.1)

module _ (s : Typing) where
  abbrev NoOverlap : List ℕ → TypedTree → Type 0
  NoOverlap formals actuals = (r : Report) → Has (overlap_reports s (alias.passed formals actuals)) r → ⊥

  -- two for formals that differ don't overlap, if both are copied back
  pub passed_apart : (formals : List ℕ) (actuals : TypedTree) → NoOverlap formals actuals → (a b : alias.Passed) → Has (alias.passed formals actuals) a
      → Has (alias.passed formals actuals) b → IsCopiedBack s a.formal → IsCopiedBack s b.formal → (a.formal ≡ b.formal → ⊥)
      → overlaps a.actual.name b.actual.name ≡ true → ⊥
  passed_apart (x ∷ formals) (More e rest) none a b has_a has_b back_a back_b differ over =
      by_written (written e) refl
      (λ later_a later_b. passed_apart formals rest (later_none s x e formals rest none) a b later_a later_b back_a back_b differ over)
    where
      by_written : (w : Option Written) → written e ≡ w → (Has (alias.passed formals rest) a → Has (alias.passed formals rest) b → ⊥) → ⊥
      by_written None is others =
          others (subst (λ z. Has (alias.passed_as x z ++ alias.passed formals rest) a) is has_a) (subst (λ z. Has (alias.passed_as x z ++ alias.passed formals rest) b) is has_b)
      by_written (Some m) is others =
          let first : alias.Passed = record { formal = x; actual = m } in
          let with_first : (c : alias.Passed) → Has (alias.passed formals rest) c → (r : Report) → Has (pair_reports s first c) r → ⊥ =
          λ c has r report. none r (subst (λ z. Has (overlap_reports s (alias.passed_as x z ++ alias.passed formals rest)) r) (sym is)
          (Has-append_left (flat_map (pair_reports s first) (alias.passed formals rest)) (overlap_reports s (alias.passed formals rest)) r
          (flat_has (pair_reports s first) (alias.passed formals rest) c r has report))) in
          elim (subst (λ z. Has (alias.passed_as x z ++ alias.passed formals rest) a) is has_a) [
            | inl same_a ↦ elim (subst (λ z. Has (alias.passed_as x z ++ alias.passed formals rest) b) is has_b) [
              | inl same_b ↦ differ (ap (λ (z : alias.Passed). z.formal) (sym same_a ∙ same_b))
              | inr later ↦ apart_pair s a b back_a back_b (subst (λ (z : alias.Passed). (r : Report) → Has (pair_reports s z b) r → ⊥) same_a (with_first b later)) over
            ]
            | inr later_a ↦ elim (subst (λ z. Has (alias.passed_as x z ++ alias.passed formals rest) b) is has_b) [
              | inl same_b ↦ apart_pair s b a back_b back_a (subst (λ (z : alias.Passed). (r : Report) → Has (pair_reports s z a) r → ⊥) same_b (with_first a later_a))
                  (overlaps_flip a.actual.name b.actual.name over)
              | inr later_b ↦ others later_a later_b
            ]
          ]
  passed_apart [] actuals none a b has_a has_b back_a back_b differ over = has_a
  passed_apart (x ∷ formals) actuals none a b has_a has_b back_a back_b differ over = absurd has_a

-- what is passed is for a formal
pub passed_formal : (formals : List ℕ) (actuals : TypedTree) (b : alias.Passed) → Has (alias.passed formals actuals) b → Has formals b.formal
passed_formal [] actuals b has = absurd has
passed_formal (x ∷ formals) (More e rest) b has = by_written (written e) has (λ later. passed_formal formals rest b later)
  where
    by_written : (w : Option Written) → Has (alias.passed_as x w ++ alias.passed formals rest) b → (Has (alias.passed formals rest) b → Has formals b.formal) → Has (x ∷ formals) b.formal
    by_written None has others = inr (others has)
    by_written (Some m) (inl same) others = inl (ap (λ (z : alias.Passed). z.formal) same)
    by_written (Some m) (inr later) others = inr (others later)
passed_formal (x ∷ formals) actuals b has = absurd has

-- ---- before the acts of the call

not_in : (m : Mode) → is_in m ≡ false → m ≡ mode.In → ⊥
not_in mode.In e is = true≢false e
not_in mode.Out e is = absurd (false≢true (ap is_in_mode is))
not_in mode.InOut e is = absurd (false≢true (ap is_in_mode is))

same_written : {a b : Written} → Some a ≡ Some b → a ≡ b
same_written e = cc

module _ (s : Typing) (sees : ℕ → Bool) (own_law : OwnsByShape s.table) (depth : ℕ) (facts : List Fact) (procedure : Bool) where
  -- where all are of mode `in`
  pub all_in : (formals : List ℕ) (actuals : TypedTree) → ((x : ℕ) → Has formals x → (object_at s x).mode ≡ mode.In) → AreOpenActuals s sees depth facts formals actuals
  all_in [] actuals modes = tt
  all_in (x ∷ formals) (More e rest) modes = (λ other. absurd (not_in (object_at s x).mode other (modes x (inl refl))), all_in formals rest (λ y has. modes y (inr has)))
  all_in (x ∷ formals) actuals modes = tt

  -- what an act of a copy removes
  head_less : (m : Mode) (owning access : Bool) (e : TypedTree) (known : List Fact) (f : Fact) → Has known f
      → Has (after (acts (actual_act (passing_by m owning access) e)) known) f
      ⊎ ((m ≡ mode.In → ⊥) × (w : Written) × (written e ≡ Some w) × (n : PlaceName) × (f ≡ Moved n) × (covers w.name n ≡ true))
  head_less mode.In true access e known f has = by_written (written e)
    where
      by_written : (w : Option Written) → Has (after (acts (naming w (λ k. act.Actual k mode.In true access))) known) f
          ⊎ ((mode.In ≡ mode.In → ⊥) × (z : Written) × (written e ≡ Some z) × (n : PlaceName) × (f ≡ Moved n) × (covers z.name n ≡ true))
      by_written None = inl has
      by_written (Some w) = inl (kept_fact (act.Actual w.name mode.In true access) known f has refl)
  head_less mode.In false access e known f has = inl has
  head_less mode.InOut owning access e known f has = by_written (written e)
    where
      by_written : (w : Option Written) → Has (after (acts (naming w (λ k. act.Actual k mode.InOut owning access))) known) f
          ⊎ ((mode.InOut ≡ mode.In → ⊥) × (z : Written) × (written e ≡ Some z) × (n : PlaceName) × (f ≡ Moved n) × (covers z.name n ≡ true))
      by_written None = inl has
      by_written (Some w) = inl (kept_fact (act.Actual w.name mode.InOut owning access) known f has refl)
  head_less mode.Out owning access e known f has = by_written (written e) refl
    where
      by_fact : (w : Written) (g : Fact) → f ≡ g → is_moved_under w.name g ≡ true → (n : PlaceName) × (f ≡ Moved n) × (covers w.name n ≡ true)
      by_fact w (Moved n) is under = (n, is, under)
      by_fact w (Lent l h n) is under = absurd (false≢true under)

      by_written : (w : Option Written) → written e ≡ w → Has (after (acts (naming w (λ k. act.Actual k mode.Out owning access))) known) f
          ⊎ ((mode.Out ≡ mode.In → ⊥) × (z : Written) × (written e ≡ Some z) × (n : PlaceName) × (f ≡ Moved n) × (covers z.name n ≡ true))
      by_written None is = inl has
      by_written (Some w) is = by_either (bool_cases (is_moved_under w.name f))
          (λ under. (let found = by_fact w f refl under in inr ((λ e. false≢true (ap is_out_mode (sym e))), w, is, found.0, found.1, found.2)))
          (λ stays. (inl (kept_fact (act.Actual w.name mode.Out owning access) known f has stays)))

  abbrev ways_of : List ℕ → List Passing
  ways_of formals = map (passing s procedure) formals

  one_open : (x : ℕ) (m : Mode) (e : TypedTree) (known : List Fact) (outs : List PlaceName) → (object_at s x).mode ≡ m → (m ≡ mode.In → ⊥)
      → ((y : ℕ) → Has (root_of e) y → sees y ≡ false)
      → AllowsAll known (acts (actual_act (passing s procedure x) e)) → ((f : Fact) → Has facts f → IsLess outs known f)
      → ((w : Written) → written e ≡ Some w → (k : PlaceName) → Has outs k → overlaps k w.name ≡ true → ⊥) → IsOpenActual s sees depth facts e
  one_open x m (Name p y path u) known outs is other roots allowed less apart =
      let owning : Bool = is_owning s.table (object_at s x).of in
      let access : Bool = procedure && is_named_access (view_of s x) in
      let here : Allows known (act.Actual (name_of y path) m owning access) =
      by_mode m other (subst (λ z. AllowsAll known (acts (actual_act (passing_by z owning access) (Name p y path u)))) is allowed) in (
        roots y (inl refl),
        λ q named called.
            open_before facts known outs q less
            (λ k has over. apart (record { pos = p; name = name_of y path; of = u }) refl k has (subst (λ z. overlaps k z ≡ true) called over))
            (actual_open known m owning access q other (subst (λ z. Allows known (act.Actual z m owning access)) (sym called) here)).0,
      )
    where
      by_mode : (m : Mode) → (m ≡ mode.In → ⊥)
          → AllowsAll known (acts (actual_act (passing_by m (is_owning s.table (object_at s x).of) (procedure && is_named_access (view_of s x))) (Name p y path u)))
          → Allows known (act.Actual (name_of y path) m (is_owning s.table (object_at s x).of) (procedure && is_named_access (view_of s x)))
      by_mode mode.In other allowed = absurd (other refl)
      by_mode mode.Out other allowed = allowed.0
      by_mode mode.InOut other allowed = allowed.0
  one_open x m e known outs is other roots allowed less apart = tt

  pub all_open : (formals : List ℕ) (actuals : TypedTree) (known : List Fact) (outs : List PlaceName) → AreUnobserved s sees formals actuals → NoOverlap s formals actuals
      → AllowsAll known (acts (actual_acts (ways_of formals) actuals)) → ((f : Fact) → Has facts f → IsLess outs known f)
      → ((k : PlaceName) → Has outs k → (b : alias.Passed) → Has (alias.passed formals actuals) b → IsCopiedBack s b.formal → overlaps k b.actual.name ≡ true → ⊥)
      → AreOpenActuals s sees depth facts formals actuals
  all_open [] actuals known outs unobserved none allowed less apart = tt
  all_open (x ∷ formals) (More e rest) known outs unobserved none allowed less apart =
      let first : List Act = acts (actual_act (passing s procedure x) e) in
      let others : List Act = acts (actual_acts (ways_of formals) rest) in
      let each = allows_both known first others (subst (AllowsAll known) (acts_append (actual_act (passing s procedure x) e) (actual_acts (ways_of formals) rest)) allowed) in
      let among : (w : Written) → written e ≡ Some w → Has (alias.passed (x ∷ formals) (More e rest)) (record { formal = x; actual = w }) =
      λ w is. subst (λ z. Has (alias.passed_as x z ++ alias.passed formals rest) (record { formal = x; actual = w })) (sym is) (inl refl) in
      let later : (b : alias.Passed) → Has (alias.passed formals rest) b → Has (alias.passed (x ∷ formals) (More e rest)) b =
      λ b has. Has-append_right (alias.passed_as x (written e)) (alias.passed formals rest) b has in (
        λ other. one_open x (object_at s x).mode e known outs refl (not_in (object_at s x).mode other) (λ y has. unobserved.0 other y has) each.0 less
            (λ w is k has over. apart k has (record { formal = x; actual = w }) (among w is) (not_in (object_at s x).mode other) over),
        rest_open x e formals rest known outs none less
            (λ k has b there back over. apart k has b (later b there) back over) (written e) refl
            (λ more less_then apart_then. all_open formals rest (after first known) more unobserved.1 (later_none s x e formals rest none) each.1 less_then apart_then),
      )
    where
      -- what is asked of the others
      Leaves : ℕ → TypedTree → List ℕ → TypedTree → List Fact → List PlaceName → Type 0
      Leaves x e formals rest known outs =
          ((f : Fact) → Has facts f → IsLess outs (after (acts (actual_act (passing s procedure x) e)) known) f)
          → ((k : PlaceName) → Has outs k → (b : alias.Passed) → Has (alias.passed formals rest) b → IsCopiedBack s b.formal → overlaps k b.actual.name ≡ true → ⊥)
          → AreOpenActuals s sees depth facts formals rest

      rest_open : (x : ℕ) (e : TypedTree) (formals : List ℕ) (rest : TypedTree) (known : List Fact) (outs : List PlaceName)
          → NoOverlap s (x ∷ formals) (More e rest) → ((f : Fact) → Has facts f → IsLess outs known f)
          → ((k : PlaceName) → Has outs k → (b : alias.Passed) → Has (alias.passed formals rest) b → IsCopiedBack s b.formal → overlaps k b.actual.name ≡ true → ⊥)
          → (o : Option Written) → written e ≡ o → ((more : List PlaceName) → Leaves x e formals rest known more) → AreOpenActuals s sees depth facts formals rest
      rest_open x e formals rest known outs none less apart None is others =
          others outs
          (λ f has. elim (less f has) [
            | inr gone ↦ inr gone
            | inl there ↦ elim (head_less (object_at s x).mode (is_owning s.table (object_at s x).of) (procedure && is_named_access (view_of s x)) e known f there) [
              | inl stays ↦ inl stays
              | inr (other, w, is_w, n, is_f, covered) ↦ (let no : None ≡ Some w = sym is ∙ is_w in absurd (false≢true (ap is_some no)))
            ]
          ]) apart
      rest_open x e formals rest known outs none less apart (Some m) is others =
          elim (bool_cases (is_in (object_at s x).mode)) [
            | inl in_mode ↦
                others outs
                (λ f has. elim (less f has) [
                  | inr gone ↦ inr gone
                  | inl there ↦ elim (head_less (object_at s x).mode (is_owning s.table (object_at s x).of) (procedure && is_named_access (view_of s x)) e known f there) [
                    | inl stays ↦ inl stays
                    | inr (other, w, is_w, n, is_f, covered) ↦ absurd (other (in_is (object_at s x).mode in_mode))
                  ]
                ]) apart
            | inr back ↦
                others (m.name ∷ outs)
                (λ f has. elim (less f has) [
                  | inr (k, among, n, is_f, covered) ↦ inr (k, inr among, n, is_f, covered)
                  | inl there ↦ elim (head_less (object_at s x).mode (is_owning s.table (object_at s x).of) (procedure && is_named_access (view_of s x)) e known f there) [
                    | inl stays ↦ inl stays
                    | inr (other, w, is_w, n, is_f, covered) ↦ inr (m.name, inl refl, n, is_f, subst (λ (z : Written). covers z.name n ≡ true) (same_written (sym is_w ∙ is)) covered)
                  ]
                ])
                (λ k among b there back_b over. elim among [
                  | inr old ↦ apart k old b there back_b over
                  | inl same ↦
                      apart_pair s (record { formal = x; actual = m }) b (not_in (object_at s x).mode back) back_b
                      (λ r report. none r (subst (λ z. Has (overlap_reports s (alias.passed_as x z ++ alias.passed formals rest)) r) (sym is)
                      (Has-append_left (flat_map (pair_reports s (record { formal = x; actual = m })) (alias.passed formals rest)) (overlap_reports s (alias.passed formals rest)) r
                      (flat_has (pair_reports s (record { formal = x; actual = m })) (alias.passed formals rest) b r there report))))
                      (subst (λ z. overlaps z b.actual.name ≡ true) (sym same) over)
                ])
          ]
        where
          in_is : (m : Mode) → is_in m ≡ true → m ≡ mode.In
          in_is mode.In e = refl
          in_is mode.Out e = absurd (false≢true e)
          in_is mode.InOut e = absurd (false≢true e)
  all_open (x ∷ formals) actuals known outs unobserved none allowed less apart = tt

-- ---- the cells

-- A cell of a place: its name begins that of an actual that is copied back to, which isn't lent.
pub record IsCellNamed (s : Typing) (sees : ℕ → Bool) (depth : ℕ) (facts : List Fact) (v : Views) (view : ways.View) (formals : List ℕ) (actuals : TypedTree) (passed : List Passed)
    (c : Lodge) : Type 0 where
  pub whole : Way
  pub named : Named (home s depth) whole
  pub plain : sees (number_of whole) ≡ false
  pub begins : Under c.name whole
  pub deep : (r : ways.Root) → c.name ≡ ways.Object r → ⊥
  pub leads : expand v c.name ≡ c.way
  pub reaches : Reaches view c.way (OfCell c.cell)
  pub unlent : Unlent facts whole
  pub by : alias.Passed
  pub among : Has (alias.passed formals actuals) by
  pub back : IsCopiedBack s by.formal
  pub called : by.actual.name ≡ ways.name_of whole
  pub sort : IsScalarObject s by.formal
      ⊎ ((k : Place) × (k.base ≡ memory.OfCell c.cell) × IsFrom formals passed by.formal k × (is_scalar (full s.table (object_at s by.formal).of) ≡ false))

-- what begins a name of a frame is one
pub named_before : (home : ℕ → ℕ) (t w : Way) → Under t w → Named home w → Named home t
named_before home t (ways.Object r) under named = subst (Named home) (sym under) named
named_before home t (ways.Lost n) under named = absurd named
named_before home t (ways.Into w i) under named = elim under [ inl e ↦ subst (Named home) (sym e) named | inr u ↦ named_before home t w u named ]
named_before home t (ways.All w) under named = elim under [ inl e ↦ subst (Named home) (sym e) named | inr u ↦ named_before home t w u named ]

same_cell : {a b : ℕ} → OfCell a ≡ OfCell b → a ≡ b
same_cell e = cc

module _ (s : Typing) (sees : ℕ → Bool) (settled : IsSettled s.table) (own_law : OwnsByShape s.table) (mem : Memory) (depth : ℕ) (facts : List Fact) (procedure : Bool) (v : Views) (view : ways.View) where
  abbrev Called : List ℕ → TypedTree → List Passed → Lodge → Type 0
  Called formals actuals passed c = IsCellNamed s sees depth facts v view formals actuals passed c

  cell_later : (x : ℕ) (e : TypedTree) (a : Passed) (formals : List ℕ) (actuals : TypedTree) (passed : List Passed) (c : Lodge) → Called formals actuals passed c
      → Called (x ∷ formals) (More e actuals) (a ∷ passed) c
  cell_later x e a formals actuals passed c there = record {
    whole = there.whole;
    named = there.named;
    plain = there.plain;
    begins = there.begins;
    deep = there.deep;
    leads = there.leads;
    reaches = there.reaches;
    unlent = there.unlent;
    by = there.by;
    among = Has-append_right (alias.passed_as x (written e)) (alias.passed formals actuals) there.by there.among;
    back = there.back;
    called = there.called;
    sort = by_either there.sort (λ scalar. (inl scalar)) (λ (k, base, from, many). (inr (k, base, inr from, many)));
  }

  -- such an actual isn't lent
  unlent_there : (x : ℕ) (m : Mode) (p : Pos) (y u : ℕ) (path : TypedTree) (known : List Fact) (w : Way) → (object_at s x).mode ≡ m → (m ≡ mode.In → ⊥)
      → ways.name_of w ≡ name_of y path → AllowsAll known (acts (actual_act (passing s procedure x) (Name p y path u))) → ((f : Fact) → Has facts f → Has known f) → Unlent facts w
  unlent_there x m p y u path known w is other called allowed less l h n has over =
      (actual_open known m (is_owning s.table (object_at s x).of) (procedure && is_named_access (view_of s x)) w other
      (subst (λ z. Allows known (act.Actual z m (is_owning s.table (object_at s x).of) (procedure && is_named_access (view_of s x)))) (sym called)
      (by_mode m other
      (subst (λ z. AllowsAll known (acts (actual_act (passing_by z (is_owning s.table (object_at s x).of) (procedure && is_named_access (view_of s x))) (Name p y path u))))
      is allowed)))).1 l h n (less (Lent l h n) has) over
    where
      by_mode : (m : Mode) → (m ≡ mode.In → ⊥)
          → AllowsAll known (acts (actual_act (passing_by m (is_owning s.table (object_at s x).of) (procedure && is_named_access (view_of s x))) (Name p y path u)))
          → Allows known (act.Actual (name_of y path) m (is_owning s.table (object_at s x).of) (procedure && is_named_access (view_of s x)))
      by_mode mode.In other allowed = absurd (other refl)
      by_mode mode.Out other allowed = allowed.0
      by_mode mode.InOut other allowed = allowed.0

  house_base : (s : Typing) (sees : ℕ → Bool) (depth : ℕ) (v : Views) (view : ways.View) (x y : ℕ) (path : TypedTree) (k : Place) → (h : IsHoused s sees depth v view x y path k)
      → k.base ≡ memory.OfCell h.cell
  house_base s sees depth v view x y path k h = elim (h.inside).stands [
    | inl variable ↦ (let never : OfRoot (ways.OfVariable (h.inside).frame (h.inside).object) ≡ OfCell h.cell = sym variable.1 ∙ h.start in absurd (false≢true (ap is_of_cell_loc never)))
    | inr cell ↦ cell.2 ∙ ap memory.OfCell (same_cell (sym cell.1 ∙ h.start))
  ]

  -- the cell of one that isn't scalar
  housed_cell : (x : ℕ) (m : Mode) (p : Pos) (y u : ℕ) (path : TypedTree) (k : Place) (a : Passed) (known : List Fact) (formals : List ℕ) (rest : TypedTree) (passed : List Passed) → (object_at s x).mode ≡ m → (m ≡ mode.In → ⊥)
      → IsOfPlace a k → (h : IsHoused s sees depth v view x y path k) → AllowsAll known (acts (actual_act (passing s procedure x) (Name p y path u))) → ((f : Fact) → Has facts f → Has known f)
      → is_scalar (full s.table (object_at s x).of) ≡ false → Called (x ∷ formals) (More (Name p y path u) rest) (a ∷ passed) (house_of s sees depth v view x y path k h)
  housed_cell x m p y u path k a known formals rest passed is other of h allowed less many = record {
    whole = h.name;
    named = h.named;
    plain = ap sees (ap (λ (z : PlaceName). z.root) h.called) ∙ h.plain;
    begins = h.begins;
    deep = h.deep;
    leads = h.leads;
    reaches = h.reaches;
    unlent = unlent_there x m p y u path known h.name is other h.called allowed less;
    by = record { formal = x; actual = record { pos = p; name = name_of y path; of = u } };
    among = inl refl;
    back = λ in_mode. other (sym is ∙ in_mode);
    called = sym h.called;
    sort = inr (k, house_base s sees depth v view x y path k h, inl (refl, of), many);
  }

  one_cell : (x : ℕ) (m : Mode) (e : TypedTree) (k : Place) (known : List Fact) (formals : List ℕ) (rest : TypedTree) (passed : List Passed) → (object_at s x).mode ≡ m → (m ≡ mode.In → ⊥)
      → (laid : IsPlaceLaid s sees depth v view x e k) → AllowsAll known (acts (actual_act (passing s procedure x) e)) → ((f : Fact) → Has facts f → Has known f)
      → (c : Lodge) → Has (place_cell s sees depth v view x e k laid) c → (a : Passed) → Called (x ∷ formals) (More e rest) (a ∷ passed) c
  one_cell x m (Name p y path u) k known formals rest passed is other (inl (plain, inr (c, there, sort))) allowed less d (inl same) a =
      subst (Called (x ∷ formals) (More (Name p y path u) rest) (a ∷ passed)) same (record {
        whole = there.whole;
        named = there.named;
        plain = ap sees (ap (λ (z : PlaceName). z.root) there.called) ∙ there.plain;
        begins = there.begins;
        deep = there.deep;
        leads = there.leads;
        reaches = there.reaches;
        unlent = unlent_there x m p y u path known there.whole is other there.called allowed less;
        by = record { formal = x; actual = record { pos = p; name = name_of y path; of = u } };
        among = inl refl;
        back = λ in_mode. other (sym is ∙ in_mode);
        called = sym there.called;
        sort = inl plain;
      })
  one_cell x m (Name p y path u) k known formals rest passed is other (inl (plain, inr lodged)) allowed less d (inr never) a = absurd never
  one_cell x m (Name p y path u) k known formals rest passed is other (inl (plain, inl fixed)) allowed less d has a = absurd has
  one_cell x m e k known formals rest passed is other (inr own) allowed less d has a = absurd has
  one_cell x m e k known formals rest passed is other (inl (plain, never)) allowed less d has a = absurd never

  back_cell_named : (x : ℕ) (m : Mode) (e : TypedTree) (k : Place) (a : Passed) (known : List Fact) (formals : List ℕ) (rest : TypedTree) (passed : List Passed) → (object_at s x).mode ≡ m → (m ≡ mode.In → ⊥)
      → IsOfPlace a k → (laid : IsBackLaid s sees depth v view x e k) → AllowsAll known (acts (actual_act (passing s procedure x) e)) → ((f : Fact) → Has facts f → Has known f)
      → (c : Lodge) → Has (back_cell s sees depth v view x e k laid) c → Called (x ∷ formals) (More e rest) (a ∷ passed) c
  back_cell_named x m e k a known formals rest passed is other of (inl laid) allowed less c has = one_cell x m e k known formals rest passed is other laid allowed less c has a
  back_cell_named x m (Name p y path u) k a known formals rest passed is other of (inr housed) allowed less c (inl same) =
      subst (Called (x ∷ formals) (More (Name p y path u) rest) (a ∷ passed)) same (housed_cell x m p y u path k a known formals rest passed is other of housed.1 allowed less housed.0)
  back_cell_named x m (Name p y path u) k a known formals rest passed is other of (inr housed) allowed less c (inr never) = absurd never
  back_cell_named x m e k a known formals rest passed is other of (inr never) allowed less c has = absurd never.1

  first_cell : (x : ℕ) (m : Mode) (e : TypedTree) (a : Passed) (known : List Fact) (formals : List ℕ) (rest : TypedTree) (passed : List Passed) → (object_at s x).mode ≡ m
      → (laid : IsLaidOne s sees mem depth v view x m e a) → AllowsAll known (acts (actual_act (passing s procedure x) e)) → ((f : Fact) → Has facts f → Has known f)
      → (c : Lodge) → Has (cell_of s sees mem depth v view x m e a laid) c → Called (x ∷ formals) (More e rest) (a ∷ passed) c
  first_cell x mode.In e (Value ws) known formals rest passed is laid allowed less c has = absurd has
  first_cell x mode.Out e (To k) known formals rest passed is laid allowed less c has = back_cell_named x mode.Out e k (To k) known formals rest passed is (λ e. cc) (inr refl) laid allowed less c has
  first_cell x mode.InOut e (From k) known formals rest passed is laid allowed less c has = back_cell_named x mode.InOut e k (From k) known formals rest passed is (λ e. cc) (inl refl) laid allowed less c has
  first_cell x m e a known formals rest passed is laid allowed less c has = absurd laid

  pub cells_named : (formals : List ℕ) (actuals : TypedTree) (passed : List Passed) (known : List Fact) → (laid : AreLaidOut s sees mem depth v view formals actuals passed)
      → facts ≡ after (acts (actual_acts (map (passing s procedure) formals) actuals)) known
      → AllowsAll known (acts (actual_acts (map (passing s procedure) formals) actuals)) → (c : Lodge) → Has (cells_of s sees mem depth v view formals actuals passed laid) c
      → Called formals actuals passed c
  cells_named [] actuals passed known laid same allowed c has = absurd has
  cells_named (x ∷ formals) (More e rest) (a ∷ passed) known laid same allowed c has =
      let first : List Act = acts (actual_act (passing s procedure x) e) in
      let others : List Act = acts (actual_acts (map (passing s procedure) formals) rest) in
      let both : acts (actual_acts (map (passing s procedure) (x ∷ formals)) (More e rest)) ≡ first ++ others =
      acts_append (actual_act (passing s procedure x) e) (actual_acts (map (passing s procedure) formals) rest) in
      let each = allows_both known first others (subst (AllowsAll known) both allowed) in
      by_either (Has-append_cases (cell_of s sees mem depth v view x (object_at s x).mode e a laid.0) (cells_of s sees mem depth v view formals rest passed laid.1) c has)
      (λ mine. (first_cell x (object_at s x).mode e a known formals rest passed refl laid.0 each.0
      (λ f there. after_less (acts (actual_acts (map (passing s procedure) (x ∷ formals)) (More e rest)))
      (λ b among. (let from = Has-map_from (λ (z : Placed). z.act) (actual_acts (map (passing s procedure) (x ∷ formals)) (More e rest)) b among in
      λ g new. copies_add s own_law procedure (x ∷ formals) (More e rest) from.0 from.1 g (subst (λ z. Has (adds z) g) (sym from.2) new))) known f (subst (λ z. Has z f) same there))
      c mine))
      (λ later. (cell_later x e a formals rest passed c
      (cells_named formals rest passed (after first known) laid.1 (same ∙ ap (λ z. after z known) both ∙ after_append first others known) each.1 c later)))
  cells_named (x ∷ formals) (More e rest) [] known laid same allowed c has = absurd laid
  cells_named (x ∷ formals) actuals passed known laid same allowed c has = absurd has
