-- What is passed for a formal of mode `in out` is whole before the call. Its act comes after those of other actuals, which
-- say no more of what is passed for formals of mode `out` that it was moved; but no other actual overlaps that.
use Rattle.std.proofs.Common.{◌≡◌, refl, sym, ap, subst, ◌⊎◌, inl, inr, ℕ, Bool, true, false, not, ◌==◌, eqb-true, List, [], ◌∷◌, Option, Some, None}
use Rattle.std.specs.List.{filter}
use Rattle.std.proofs.lemmas.Bool.{false≢true}
use Rattle.machine.specs.spark_base.Lists.{Has}
use Rattle.soundness.proofs.Lists.{Has-append_left, Has-append_right, Has-filter_passes}
use Rattle.machine.specs.spark_base.declared.position.Pos.{Pos}
use Rattle.machine.specs.place_names.declared.selector.Sel.{Sel}
use Rattle.machine.specs.place_names.declared.selector.Sel.TheVariants.{Field, Elem, Deref}
use Rattle.machine.specs.place_names.declared.act.Act.{Act}
use Rattle.machine.specs.place_names.declared.act.Act.TheVariants as act
use Rattle.machine.specs.place_names.declared.act.Mode.{Mode}
use Rattle.machine.specs.place_names.declared.act.Mode.TheVariants as mode
use Rattle.machine.specs.place_names.declared.fact.Fact.{Fact}
use Rattle.machine.specs.place_names.declared.fact.Fact.TheVariants.{Moved, Lent}
use Rattle.machine.specs.place_names.declared.rule.Loan.{Loan}
use Rattle.machine.specs.place_names.Names.{Name as PlaceName, is_equal, begins, is_prefix, agree_along, overlaps, has_elem, covers}
use Rattle.machine.specs.place_names.Facts.{adds, removes, effect}
use Rattle.machine.specs.place_names.Reports.{Report}
use Rattle.soundness.proofs.PlaceNames.{both_parts, both_true}
use Rattle.machine.specs.typed_tree.Trees.{TypedTree, Name, More}
use Rattle.machine.specs.flow_paths.Objects.{Typing, passing_by}
use Rattle.machine.specs.flow_paths.Names.{Written, written, name_of}
use Rattle.machine.specs.flow_paths.Acts.{naming, actual_act}
use Rattle.machine.specs.flow_paths.Aliases as alias
use Rattle.machine.specs.flow_paths.Aliases.{overlap_reports}
use Rattle.soundness.specs.OwnedWays.Ways.{Way, Allows, after}
use Rattle.soundness.specs.OwnedWays.Ways as ways
use Rattle.soundness.proofs.OwnedLoans.Safe.{Unlent, Unmoved}
use Rattle.soundness.proofs.Contents.{bool_cases}
use Rattle.soundness.proofs.Scalars.{acts}
use Rattle.viewed_steps.specs.Sound.{IsCopiedBack}
use Rattle.viewed_steps.proofs.Passed.{passed_unlent, passed_unmoved, first_apart, later_none}
use Rattle.soundness.proofs.Parted.{by_either}

-- ---- names

equal_same : (s t : Sel) → is_equal s t ≡ true → s ≡ t
equal_same (Field i) (Field j) e = ap Field (eqb-true i j e)
equal_same (Field i) Elem e = absurd (false≢true e)
equal_same (Field i) Deref e = absurd (false≢true e)
equal_same Elem (Field j) e = absurd (false≢true e)
equal_same Elem Elem e = refl
equal_same Elem Deref e = absurd (false≢true e)
equal_same Deref (Field j) e = absurd (false≢true e)
equal_same Deref Elem e = absurd (false≢true e)
equal_same Deref Deref e = refl

begins_along : (a b c : List Sel) → begins a b ≡ true → agree_along b c ≡ true → agree_along a c ≡ true
begins_along [] b c starts agrees = refl
begins_along (s ∷ a) [] c starts agrees = cc
begins_along (s ∷ a) (t ∷ b) [] starts agrees = refl
begins_along (s ∷ a) (t ∷ b) (r ∷ c) starts agrees =
    let first = both_parts (is_equal s t) (begins a b) starts in
    let more = both_parts (is_equal t r) (agree_along b c) agrees in
    both_true (is_equal s r) (agree_along a c) (subst (λ z. is_equal z r ≡ true) (sym (equal_same s t first.0)) more.0) (begins_along a b c first.1 more.1)

-- what overlaps a name overlaps each one that covers it
covers_on : (k n w : PlaceName) → covers k n ≡ true → overlaps n w ≡ true → overlaps k w ≡ true
covers_on k n w covered over =
    let prefix = both_parts (k.root == n.root) (begins k.sels n.sels) (both_parts (is_prefix k n) (not (has_elem k.sels)) covered).0 in
    let agrees = both_parts (n.root == w.root) (agree_along n.sels w.sels) over in
    both_true (k.root == w.root) (agree_along k.sels w.sels) (subst (λ z. (z == w.root) ≡ true) (sym (eqb-true k.root n.root prefix.0)) agrees.0)
    (begins_along k.sels n.sels w.sels prefix.1 agrees.1)

-- ---- facts after acts

effect_keeps : (a : Act) (f : Fact) (known : List Fact) → removes a f ≡ false → Has known f → Has (effect a known) f
effect_keeps a f known stays has = Has-append_left (filter (λ g. not (removes a g)) known) (adds a) f (Has-filter_passes (λ g. not (removes a g)) known f has (ap not stays))

plain_keeps : (m : Mode) → (m ≡ mode.Out → ⊥) → (w : Option Written) (owning access : Bool) (known : List Fact) (f : Fact) → Has known f
    → Has (after (acts (naming w (λ k. act.Actual k m owning access))) known) f
plain_keeps m other None owning access known f has = has
plain_keeps m other (Some w) owning access known f has = effect_keeps (act.Actual w.name m owning access) f known (none m other) has
  where
    none : (m : Mode) → (m ≡ mode.Out → ⊥) → removes (act.Actual w.name m owning access) f ≡ false
    none mode.In other = refl
    none mode.Out other = absurd (other refl)
    none mode.InOut other = refl

-- ---- the actuals of a call

-- The names of those of mode `out`.
abbrev pub done_on : Mode → Option Written → List PlaceName → List PlaceName
done_on mode.Out (Some w) done = w.name ∷ done
done_on m w done = done

module _ (s : Typing) (facts : List Fact) where
  -- What is known after the acts of some actuals, of which these are of mode `out`; the others are still to come. What is lent is as
  -- before the call; what was moved is, or lies in one of these; and none of the others overlaps one of them, or another one.
  pub record Spares (known : List Fact) (done : List PlaceName) (formals : List ℕ) (actuals : TypedTree) : Type 0 where
    pub lents : (l : Loan) (h : ℕ) (n : PlaceName) → Has facts (Lent l h n) → Has known (Lent l h n)
    pub moved : (n : PlaceName) → Has facts (Moved n) → Has known (Moved n) ⊎ ((k : PlaceName) × Has done k × (covers k n ≡ true))
    pub apart : (k : PlaceName) → Has done k → (b : alias.Passed) → Has (alias.passed formals actuals) b → IsCopiedBack s b.formal → overlaps k b.actual.name ≡ true → ⊥
    pub none : (r : Report) → Has (overlap_reports s (alias.passed formals actuals)) r → ⊥

  pub spares_first : (formals : List ℕ) (actuals : TypedTree) → ((r : Report) → Has (overlap_reports s (alias.passed formals actuals)) r → ⊥) → Spares facts [] formals actuals
  spares_first formals actuals none = record {
    lents = λ l h n has. has;
    moved = λ n has. inl has;
    apart = λ k has. absurd has;
    none = none;
  }

  -- after the act of one of another mode
  spares_more : (x : ℕ) (e : TypedTree) (formals : List ℕ) (rest : TypedTree) (known later : List Fact) (done : List PlaceName) → ((f : Fact) → Has known f → Has later f)
      → Spares known done (x ∷ formals) (More e rest) → Spares later done formals rest
  spares_more x e formals rest known later done keeps old = record {
    lents = λ l h n has. keeps (Lent l h n) (old.lents l h n has);
    moved = λ n has. elim (old.moved n has) [ inl there ↦ inl (keeps (Moved n) there) | inr covered ↦ inr covered ];
    apart = λ k has b there back. old.apart k has b (Has-append_right (alias.passed_as x (written e)) (alias.passed formals rest) b there) back;
    none = later_none s x e formals rest old.none;
  }

  -- after that of one of mode `out`
  spares_out : (x : ℕ) (e : TypedTree) (w : Written) (formals : List ℕ) (rest : TypedTree) (known : List Fact) (done : List PlaceName) (owning access : Bool) → written e ≡ Some w
      → IsCopiedBack s x → Spares known done (x ∷ formals) (More e rest) → Spares (effect (act.Actual w.name mode.Out owning access) known) (w.name ∷ done) formals rest
  spares_out x e w formals rest known done owning access is back old = record {
    lents = λ l h n has. effect_keeps (act.Actual w.name mode.Out owning access) (Lent l h n) known refl (old.lents l h n has);
    moved = λ n has. by_either (old.moved n has)
        (λ there. (by_either (bool_cases (covers w.name n)) (λ covered. (inr (w.name, inl refl, covered))) (λ off. (inl (effect_keeps (act.Actual w.name mode.Out owning access) (Moved n) known off there)))))
        (λ (k, there, covered). (inr (k, inr there, covered)));
    apart = λ k has b there also over. by_either has
        (λ same. (first_apart s x e w formals rest back is old.none b there also (subst (λ z. overlaps z b.actual.name ≡ true) (sym same) over)))
        (λ earlier. (old.apart k earlier b (Has-append_right (alias.passed_as x (written e)) (alias.passed formals rest) b there) also over));
    none = later_none s x e formals rest old.none;
  }

  pub spares_on : (m : Mode) (owning access : Bool) (x : ℕ) (e : TypedTree) (formals : List ℕ) (rest : TypedTree) (known : List Fact) (done : List PlaceName)
      → (m ≡ mode.Out → IsCopiedBack s x) → Spares known done (x ∷ formals) (More e rest)
      → Spares (after (acts (actual_act (passing_by m owning access) e)) known) (done_on m (written e) done) formals rest
  spares_on mode.In true access x e formals rest known done back old =
      spares_more x e formals rest known (after (acts (naming (written e) (λ k. act.Actual k mode.In true access))) known) done
      (plain_keeps mode.In (λ never. cc) (written e) true access known) old
  spares_on mode.In false access x e formals rest known done back old = spares_more x e formals rest known known done (λ f has. has) old
  spares_on mode.InOut owning access x e formals rest known done back old =
      spares_more x e formals rest known (after (acts (naming (written e) (λ k. act.Actual k mode.InOut owning access))) known) done
      (plain_keeps mode.InOut (λ never. cc) (written e) owning access known) old
  spares_on mode.Out owning access x e formals rest known done back old = by_written (written e) refl
    where
      by_written : (w : Option Written) → written e ≡ w
          → Spares (after (acts (naming w (λ k. act.Actual k mode.Out owning access))) known) (done_on mode.Out w done) formals rest
      by_written None is = spares_more x e formals rest known known done (λ f has. has) old
      by_written (Some w) is = spares_out x e w formals rest known done owning access is (back refl) old

  -- So what is passed for a formal of mode `in out` wasn't lent or moved before the call.
  pub spared_whole : (x y u : ℕ) (p : Pos) (path : TypedTree) (formals : List ℕ) (rest : TypedTree) (known : List Fact) (done : List PlaceName) (owning access : Bool)
      → IsCopiedBack s x → Spares known done (x ∷ formals) (More (Name p y path u) rest) → Allows known (act.Actual (name_of y path) mode.InOut owning access)
      → (w : Way) → ways.name_of w ≡ name_of y path → Unlent facts w × Unmoved facts w
  spared_whole x y u p path formals rest known done owning access back old allowed w called =
      let mine : Allows known (act.Actual (ways.name_of w) mode.InOut owning access) =
      subst (λ z. Allows known (act.Actual z mode.InOut owning access)) (sym called) allowed in (
        λ l h n has over. passed_unlent known w owning access mine l h n (old.lents l h n has) over,
        λ n has over. by_either (old.moved n has)
            (λ there. (passed_unmoved known w owning access mine n there over))
            (λ (k, there, covered). (old.apart k there (record { formal = x; actual = record { pos = p; name = name_of y path; of = u } }) (inl refl) back
            (covers_on k n (name_of y path) covered (subst (λ z. overlaps n z ≡ true) called over)))),
      )
