-- What a call passes: places that aren't scalar aren't lent, and don't overlap; those of mode `in out` aren't
-- moved, and those of mode `out` are emptied; and what a call leads to after its actuals.
use Rattle.std.proofs.Common.{◌≡◌, refl, sym, ap, ◌∙◌, subst, ◌⊎◌, inl, inr, ℕ, Bool, true, false, not, ◌&&◌, ◌||◌, ◌==◌, eqb-true, eq-eqb, List, [], ◌∷◌, ◌++◌, map, flat_map, nat_le, Option, Some, None, is_some, if◌then◌else◌, append-nil, append_assoc}
use Rattle.std.proofs.lemmas.Grind.{flat_map-append}
use Rattle.std.specs.List.{list_any, filter}
use Rattle.std.proofs.lemmas.Bool.{false≢true, true≢false}
use Rattle.machine.specs.spark_base.Lists.{Has}
use Rattle.soundness.proofs.Lists.{Has-append_left, Has-append_right, Has-append_cases, Has-filter, Has-map_from}
use Rattle.machine.specs.spark_base.declared.position.Pos.{Pos}
use Rattle.machine.specs.place_names.declared.act.Act.{Act}
use Rattle.machine.specs.place_names.declared.act.Act.TheVariants as act
use Rattle.machine.specs.place_names.declared.act.Mode.{Mode}
use Rattle.machine.specs.place_names.declared.act.Mode.TheVariants as mode
use Rattle.machine.specs.place_names.declared.act.Placed.{Placed}
use Rattle.machine.specs.place_names.declared.fact.Fact.{Fact}
use Rattle.machine.specs.place_names.declared.fact.Fact.TheVariants.{Moved, Lent}
use Rattle.machine.specs.place_names.declared.rule.Rule.TheVariants.{A1, O10}
use Rattle.machine.specs.place_names.declared.selector.Sel.{Sel}
use Rattle.machine.specs.place_names.declared.selector.Sel.TheVariants.{Field, Elem, Deref}
use Rattle.machine.specs.place_names.Names.{Name as PlaceName, is_equal, begins, is_prefix, agree_along, overlaps, has_elem, covers, strict_prefixes}
use Rattle.soundness.proofs.PlaceNames.{both_parts, both_true, overlaps-sym}
use Rattle.machine.specs.place_names.Facts.{adds, removes, effect}
use Rattle.machine.specs.place_names.Rules.{lent, moved_or_borrowed, moved_or_lent, breaks_O2, breaks_O3, breaks_O10}
use Rattle.machine.specs.place_names.Reports.{Report}
use Rattle.machine.specs.type_definitions.Types.{shape_of, full, parts, is_scalar, is_owning}
use Rattle.machine.specs.typed_tree.Trees.{TypedTree, Name, More}
use Rattle.machine.specs.flow_paths.declared.report.Effects.{Effects}
use Rattle.machine.specs.flow_paths.Instructions.{Call}
use Rattle.machine.specs.flow_paths.Objects.{Typing, Signature, object_at, sub_at, is_formal, is_package_object, is_named_access, is_variable_access, is_anonymous, view_of, Passing, passing, passing_by, passings}
use Rattle.machine.specs.Owners.{is_in}
use Rattle.soundness.specs.Seen.{is_view_formal, home}
use Rattle.machine.specs.flow_paths.Names.{Written, written, name_of}
use Rattle.machine.specs.flow_paths.Acts.{actual_act, actual_acts}
use Rattle.machine.specs.flow_paths.Views.{is_in_mode, text_report}
use Rattle.machine.specs.flow_paths.Points.{FlowPoint}
use Rattle.machine.specs.flow_paths.Laid.{FlowSub, FlowProgram, flow_typing}
use Rattle.machine.specs.flow_paths.Reports.{AreReports, on_actuals}
use Rattle.machine.specs.flow_paths.Aliases as alias
use Rattle.machine.specs.flow_paths.Aliases.{may_overlap, pair_reports, overlap_reports, passed_reports, call_reports}
use Rattle.machine.specs.flow_paths.Scopes.{is_within}
use Rattle.machine.specs.Words as machine
use Rattle.machine.specs.Memory.{Memory, Place, slots_at}
use Rattle.machine.specs.Evaluate.{Now, Exception, Evaluated, Done, Raises, Traps, StorageError}
use Rattle.machine.specs.Calls.{Passed, Value, From, To, all_passed, out_checks, checks_at, checked_at, written_pos, return_of, returns_of}
use Rattle.machine.specs.States.{Leak, Return, Outcome, Goes, stack_words, frame_words, frame_at_start, sub_of}
use Rattle.machine.specs.Step.{Turn, typing, here, start, raised, leaking_goes, call}
use Rattle.machine.specs.Step as steps
use Rattle.soundness.specs.OwnedWays.Ways.{Way, Under, Allows, AllowsAll, after, Named}
use Rattle.soundness.specs.OwnedWays.Ways as ways
use Rattle.soundness.specs.PartOffsets.Parts.{IsSettled}
use Rattle.soundness.specs.Typed.{Matches, OwnsByShape}
use Rattle.soundness.specs.Changes.{leaks_at}
use Rattle.soundness.specs.Ready.{root_of}
use Rattle.soundness.proofs.Contents.{bool_cases, all_checks}
use Rattle.soundness.proofs.Freeing.{plain_parts}
use Rattle.soundness.proofs.Passing.{Enters, formals_there, entered, signature_is, plain_type}
use Rattle.soundness.proofs.Scalars.{acts, acts_append, after_append, allows_both}
use Rattle.soundness.proofs.Stays.{Quiet}
use Rattle.soundness.specs.OwnedLoans.Views.{Views, expand, Around, Viewed}
use Rattle.soundness.proofs.OwnedLoans.Clear.{refused}
use Rattle.soundness.proofs.OwnedLoans.Allowed.{either_right}
use Rattle.soundness.proofs.OwnedLoans.Safe.{Unlent, Unmoved, clean_below}
use Rattle.viewed_steps.specs.Sound.{IsScalarObject, IsCopiedBack, IsKindOfFormal}
use Rattle.viewed_steps.specs.Ready.{roots_passed, AreDifferent, AreActualsTo}
use Rattle.soundness.proofs.ViewedSoundness.ViewKinds.{sees_view, true_false, both_no, owner_sees}
use Rattle.soundness.proofs.ViewedSoundness.Outcomes.{named_plain}
use Rattle.viewed_steps.proofs.Views.{given_cases, given_type, unowned_view, scalar_unseen}
use Rattle.viewed_steps.specs.Taken.{Lodge, IsInside, IsAmong, IsPlainPlace, IsApartFrom, IsOwnAt}
use Rattle.viewed_steps.proofs.Outs.{Out, found_in}
use Rattle.viewed_steps.proofs.LaidOut.{IsHoused, house_of, IsValueLaid, IsOwnPut, IsPlainAt, IsHousedPut, IsPlaceLaid, IsBackLaid, IsLaidOne, AreLaidOut, own_out, place_out, housed_out, back_out, out_of, outs_of, plain_cell, back_cell, cell_of, cells_of}
use Rattle.viewed_steps.proofs.Called.{copies_add}
use Rattle.viewed_steps.proofs.Entered.{IsPlainOne, DiffersFrom, IsTakenAs, ArePassedOn, own_named, own_number, own_plain, own_itself}
use Rattle.soundness.proofs.Fixed.{plain_word}
use Rattle.viewed_steps.proofs.Aside.{names_off}
use Rattle.soundness.specs.ViewedSoundness.Holds.{is_bundle, is_view, Seeing}
use Rattle.machine.specs.place_names.declared.rule.Loan.TheVariants.{Borrowed}
use Rattle.viewed_steps.proofs.Constructors.{is_of_cell_loc}
use Rattle.soundness.proofs.Parted.{loc_cells}

-- ---- what the rules on facts say

either_left : (a b : Bool) → a ≡ true → a || b ≡ true
either_left true b e = refl
either_left false b e = absurd (false≢true e)

-- nothing that overlaps an actual of mode `out` is lent
pub out_unlent : (facts : List Fact) (u : Way) (owning access : Bool) → Allows facts (act.Actual (ways.name_of u) mode.Out owning access) → Unlent facts u
out_unlent facts u owning access allowed l h n has over =
    refused (breaks_O10 (ways.name_of u) mode.Out owning access (Lent l h n)) O10 (ways.name_of u) (Lent l h n)
    (either_right (list_any (λ p. breaks_O2 p (Lent l h n)) (strict_prefixes (ways.name_of u))) (lent (ways.name_of u) (Lent l h n)) over) (allowed (Lent l h n) has)

-- nothing that overlaps one of mode `in out` is moved or lent
pub passed_unlent : (facts : List Fact) (u : Way) (owning access : Bool) → Allows facts (act.Actual (ways.name_of u) mode.InOut owning access) → Unlent facts u
passed_unlent facts u true access allowed l h n has over =
    refused (moved_or_lent (ways.name_of u) (Lent l h n)) O10 (ways.name_of u) (Lent l h n) over (allowed (Lent l h n) has)
passed_unlent facts u false access allowed l h n has over =
    refused (breaks_O10 (ways.name_of u) mode.InOut false access (Lent l h n)) O10 (ways.name_of u) (Lent l h n)
    (either_right (moved_or_borrowed (ways.name_of u) (Lent l h n)) (breaks_O3 (ways.name_of u) (Lent l h n))
    (either_right (list_any (λ p. breaks_O2 p (Lent l h n)) (strict_prefixes (ways.name_of u))) (lent (ways.name_of u) (Lent l h n)) over)) (allowed (Lent l h n) has)

pub passed_unmoved : (facts : List Fact) (u : Way) (owning access : Bool) → Allows facts (act.Actual (ways.name_of u) mode.InOut owning access) → Unmoved facts u
passed_unmoved facts u true access allowed n has over =
    refused (moved_or_lent (ways.name_of u) (Moved n)) O10 (ways.name_of u) (Moved n) over (allowed (Moved n) has)
passed_unmoved facts u false access allowed n has over =
    refused (breaks_O10 (ways.name_of u) mode.InOut false access (Moved n)) O10 (ways.name_of u) (Moved n)
    (either_left (moved_or_borrowed (ways.name_of u) (Moved n)) (breaks_O3 (ways.name_of u) (Moved n)) over) (allowed (Moved n) has)

-- ---- what is moved after the act

equal_flip : (s t : Sel) → is_equal s t ≡ true → is_equal t s ≡ true
equal_flip (Field i) (Field j) e = eq-eqb j i (sym (eqb-true i j e))
equal_flip (Field i) Elem e = absurd (false≢true e)
equal_flip (Field i) Deref e = absurd (false≢true e)
equal_flip Elem (Field j) e = absurd (false≢true e)
equal_flip Elem Elem e = refl
equal_flip Elem Deref e = absurd (false≢true e)
equal_flip Deref (Field j) e = absurd (false≢true e)
equal_flip Deref Elem e = absurd (false≢true e)
equal_flip Deref Deref e = refl

begins_agree : (a b : List Sel) → begins a b ≡ true → agree_along b a ≡ true
begins_agree [] [] e = refl
begins_agree [] (t ∷ b) e = refl
begins_agree (s ∷ a) [] e = absurd (false≢true e)
begins_agree (s ∷ a) (t ∷ b) e =
    let parts = both_parts (is_equal s t) (begins a b) e in both_true (is_equal t s) (agree_along b a) (equal_flip s t parts.0) (begins_agree a b parts.1)

covers_overlaps : (k n : PlaceName) → covers k n ≡ true → overlaps n k ≡ true
covers_overlaps k n e =
    let prefix = both_parts (k.root == n.root) (begins k.sels n.sels) (both_parts (is_prefix k n) (not (has_elem k.sels)) e).0 in
    both_true (n.root == k.root) (agree_along n.sels k.sels) (eq-eqb n.root k.root (sym (eqb-true k.root n.root prefix.0))) (begins_agree k.sels n.sels prefix.1)

refuted : (b : Bool) → b ≡ true → not b ≡ true → ⊥
refuted true e none = absurd (false≢true none)
refuted false e none = absurd (false≢true e)

-- after an act of mode `out` no part of its place is known to be moved
out_cleared : (k : PlaceName) (owning access : Bool) (facts : List Fact) (n : PlaceName) → Has (effect (act.Actual k mode.Out owning access) facts) (Moved n) → covers k n ≡ true → ⊥
out_cleared k owning access facts n has covered =
    elim (Has-append_cases (filter (λ g. not (removes (act.Actual k mode.Out owning access) g)) facts) [] (Moved n) has) [
      | inl old ↦ refuted (covers k n) covered (Has-filter (λ g. not (removes (act.Actual k mode.Out owning access) g)) facts (Moved n) old).1
      | inr never ↦ never
    ]

-- ---- what the rules on actuals say

pub flat_has : {A B : Type 0} (f : A → List B) (xs : List A) (x : A) (y : B) → Has xs x → Has (f x) y → Has (flat_map f xs) y
flat_has f [] x y h k = absurd h
flat_has f (z ∷ xs) x y h k = elim h [
  | inl e ↦ Has-append_left (f z) (flat_map f xs) y (subst (λ w. Has (f w) y) (sym e) k)
  | inr later ↦ Has-append_right (f z) (flat_map f xs) y (flat_has f xs x y later k)
]

pub no_call_reports : (program : FlowProgram) (effects : Effects) → AreReports program effects [] → (sub : FlowSub) → Has program.subs sub → (p : FlowPoint) → Has sub.points p
    → (r : Report) → Has (call_reports (flow_typing program) effects p.instr) r → ⊥
no_call_reports program effects none sub in_program p in_sub r has =
    none.complete r (on_actuals (flat_has (λ (z : FlowSub). flat_map (λ (q : FlowPoint). call_reports (flow_typing program) effects q.instr) z.points) program.subs sub r in_program
    (flat_has (λ (q : FlowPoint). call_reports (flow_typing program) effects q.instr) sub.points p r in_sub has)))

module _ (s : Typing) where
  -- two that are copied back may not overlap
  mutable : (x : ℕ) → IsCopiedBack s x → alias.is_immutable s x ≡ false
  mutable x back = ap (λ b. b && not (is_variable_access (view_of s x))) (not_in (object_at s x).mode back)
    where
      not_in : (m : Mode) → (m ≡ mode.In → ⊥) → is_in_mode m ≡ false
      not_in mode.In is = absurd (is refl)
      not_in mode.Out is = refl
      not_in mode.InOut is = refl

  never : (a b : alias.Passed) → IsCopiedBack s a.formal → IsCopiedBack s b.formal → may_overlap s a b ≡ false
  never a b one two =
      (λ j. (mutable a.formal one j && mutable b.formal two j) || ((mutable a.formal one j && alias.is_scalar_formal s a.formal) || (mutable b.formal two j && alias.is_scalar_formal s b.formal)))

  pub apart_pair : (a b : alias.Passed) → IsCopiedBack s a.formal → IsCopiedBack s b.formal → ((r : Report) → Has (pair_reports s a b) r → ⊥)
      → overlaps a.actual.name b.actual.name ≡ true → ⊥
  apart_pair a b one two none over =
      let test : overlaps a.actual.name b.actual.name && not (may_overlap s a b) ≡ true =
      ap (λ z. z && not (may_overlap s a b)) over ∙ ap not (never a b one two) in
      none (text_report b.actual.pos A1 b.actual.name)
      (subst (λ z. Has (if z then text_report b.actual.pos A1 b.actual.name ∷ [] else []) (text_report b.actual.pos A1 b.actual.name)) (sym test) (inl refl))

module _ (program : FlowProgram) (effects : Effects) where
  abbrev all : Typing
  all = flow_typing program

  abbrev IsApartOr : (ℕ → Type 0) → ℕ → TypedTree → Type 0
  IsApartOr kind n actuals =
      ((r : Report) → Has (overlap_reports (flow_typing program) (alias.passed (sub_of program n).formals actuals)) r → ⊥)
      ⊎ ((x : ℕ) → Has (sub_of program n).formals x → kind x)

  reports_are : (n : ℕ) (actuals : TypedTree) (o : Option ℕ) → is_some o ≡ false → call_reports all effects (Call n actuals o)
      ≡ (if is_some (sub_at all n).result then [] else passed_reports all effects n (alias.passed (sub_at all n).formals actuals))
  reports_are n actuals None none = refl
  reports_are n actuals (Some of) none = absurd (true≢false none)

  -- the actuals of the call of a procedure don't overlap where they may not
  pub apart_there : AreReports program effects [] → (sub : FlowSub) → Has program.subs sub → (p : FlowPoint) → Has sub.points p
      → (n : ℕ) (actuals : TypedTree) (result : Option ℕ) → p.instr ≡ Call n actuals result → is_some (sub_of program n).result ≡ is_some result
      → (sub_of program n).result ≡ None → (r : Report) → Has (overlap_reports (flow_typing program) (alias.passed (sub_of program n).formals actuals)) r → ⊥
  apart_there none sub in_program p in_sub n actuals result e answers given r has =
      no_call_reports program effects none sub in_program p in_sub r
      (subst (λ i. Has (call_reports all effects i) r) (sym e)
      (subst (λ z. Has z r) (sym (reports_are n actuals result (sym answers ∙ ap is_some given)))
      (subst (λ z. Has (if is_some z.result then [] else passed_reports all effects n (alias.passed z.formals actuals)) r) (sym (signature_is program n))
      (subst (λ z. Has (if is_some z then [] else passed_reports all effects n (alias.passed (sub_of program n).formals actuals)) r) (sym given)
      (Has-append_left (overlap_reports all (alias.passed (sub_of program n).formals actuals))
      (flat_map (alias.global_reports all effects n) (alias.passed (sub_of program n).formals actuals)) r has)))))

  -- the actuals of a call don't overlap where they may not, or its formals are those of a function
  pub apart_or : (kind : ℕ → Type 0) → AreReports program effects [] → (sub : FlowSub) → Has program.subs sub → (p : FlowPoint) → Has sub.points p
      → (n : ℕ) (actuals : TypedTree) (result : Option ℕ) → p.instr ≡ Call n actuals result → is_some (sub_of program n).result ≡ is_some result
      → ((t : ℕ) → (sub_at all n).result ≡ Some t → (x : ℕ) → Has (sub_at all n).formals x → kind x) → IsApartOr kind n actuals
  apart_or kind none sub in_program p in_sub n actuals result e answers plain = by_result (sub_of program n).result refl
    where
      by_result : (o : Option ℕ) → (sub_of program n).result ≡ o → IsApartOr kind n actuals
      by_result (Some of) given = inr (λ x has.
          plain of (ap (λ (z : Signature). z.result) (signature_is program n) ∙ given) x
          (subst (λ z. Has z x) (sym (ap (λ (z : Signature). z.formals) (signature_is program n))) has))
      by_result None given = inl (apart_there none sub in_program p in_sub n actuals result e answers given)

-- ---- what is passed

-- A way that the name of an actual stands for, with its formal, which isn't scalar.
pub record IsNamedBy (s : Typing) (sees : ℕ → Bool) (depth : ℕ) (v : Views) (facts : List Fact) (formals : List ℕ) (actuals : TypedTree) (to : Way) : Type 0 where
  pub by : alias.Passed
  pub among : Has (alias.passed formals actuals) by
  pub back : IsCopiedBack s by.formal
  pub name : Way
  pub named : Named (home s depth) name
  pub plain : sees (ways.number_of name) ≡ false
  pub means : expand v name ≡ to
  pub called : by.actual.name ≡ ways.name_of name
  pub unlent : Unlent facts name
  pub cleared : (n : PlaceName) → Has facts (Moved n) → covers (ways.name_of name) n ≡ true → ⊥
  pub many : is_scalar (full s.table (object_at s by.formal).of) ≡ false

module _ (s : Typing) where
  -- the name of one doesn't overlap those of later ones
  pub first_apart : (x : ℕ) (e : TypedTree) (m : Written) (formals : List ℕ) (actuals : TypedTree) → IsCopiedBack s x → written e ≡ Some m
      → ((r : Report) → Has (overlap_reports s (alias.passed (x ∷ formals) (More e actuals))) r → ⊥)
      → (b : alias.Passed) → Has (alias.passed formals actuals) b → IsCopiedBack s b.formal → overlaps m.name b.actual.name ≡ true → ⊥
  first_apart x e m formals actuals back is none b has also over =
      let first : alias.Passed = record { formal = x; actual = m } in
      let all : alias.passed (x ∷ formals) (More e actuals) ≡ first ∷ alias.passed formals actuals =
      ap (λ z. alias.passed_as x z ++ alias.passed formals actuals) is in
      apart_pair s first b back also
      (λ r report. none r (subst (λ z. Has (overlap_reports s z) r) (sym all)
      (Has-append_left (flat_map (pair_reports s first) (alias.passed formals actuals)) (overlap_reports s (alias.passed formals actuals)) r
      (flat_has (pair_reports s first) (alias.passed formals actuals) b r has report)))) over

  -- the reports on the others are among those
  pub later_none : (x : ℕ) (e : TypedTree) (formals : List ℕ) (actuals : TypedTree)
      → ((r : Report) → Has (overlap_reports s (alias.passed (x ∷ formals) (More e actuals))) r → ⊥)
      → (r : Report) → Has (overlap_reports s (alias.passed formals actuals)) r → ⊥
  later_none x e formals actuals none r has = by_written (written e) refl
    where
      by_written : (w : Option Written) → written e ≡ w → ⊥
      by_written None is = none r (subst (λ z. Has (overlap_reports s (alias.passed_as x z ++ alias.passed formals actuals)) r) (sym is) has)
      by_written (Some m) is =
          none r (subst (λ z. Has (overlap_reports s (alias.passed_as x z ++ alias.passed formals actuals)) r) (sym is)
          (Has-append_right (flat_map (pair_reports s (record { formal = x; actual = m })) (alias.passed formals actuals)) (overlap_reports s (alias.passed formals actuals)) r has))

-- acts that add nothing leave fewer facts
pub after_less : (more : List Act) → ((a : Act) → Has more a → (f : Fact) → Has (adds a) f → ⊥) → (facts : List Fact) (f : Fact) → Has (after more facts) f → Has facts f
after_less [] none facts f has = has
after_less (a ∷ more) none facts f has =
    elim (Has-append_cases (filter (λ g. not (removes a g)) facts) (adds a) f (after_less more (λ b there. none b (inr there)) (effect a facts) f has)) [
      | inl old ↦ (Has-filter (λ g. not (removes a g)) facts f old).0
      | inr new ↦ absurd (none a (inl refl) f new)
    ]

-- ---- all that is passed

module _ (s : Typing) (sees : ℕ → Bool) (seeing : Seeing s sees) (own_law : OwnsByShape s.table) (settled : IsSettled s.table) (m : Memory) (cells : List Lodge) (depth : ℕ) (v : Views)
    (only : (x : ℕ) (w : Way) → v.way x ≡ Some w → is_view s x ≡ true) (view : ways.View) (facts : List Fact)
    (other : Around (home s depth)) (stilled : ways.View) (viewed : Viewed (home s depth) sees other v stilled facts) (scope : List ℕ) (procedure : Bool) where
  abbrev copies_of : List ℕ → TypedTree → List Placed
  copies_of formals actuals = actual_acts (map (passing s procedure) formals) actuals

  -- its ways
  abbrev Passes : List ℕ → TypedTree → List Passed → List Out → Type 0
  Passes formals actuals passed outs =
      (ways_there : List Way) × ArePassedOn s sees m cells depth v facts scope formals passed ways_there outs × ((k : Way) → Has ways_there k → IsNamedBy s sees depth v facts formals actuals k)

  more_named : (x : ℕ) (e : TypedTree) (formals : List ℕ) (actuals : TypedTree) (k : Way) → IsNamedBy s sees depth v facts formals actuals k
      → IsNamedBy s sees depth v facts (x ∷ formals) (More e actuals) k
  more_named x e formals actuals k one = record {
    by = one.by;
    among = Has-append_right (alias.passed_as x (written e)) (alias.passed formals actuals) one.by one.among;
    back = one.back;
    name = one.name;
    named = one.named;
    plain = one.plain;
    means = one.means;
    called = one.called;
    unlent = one.unlent;
    cleared = one.cleared;
    many = one.many;
  }

  -- what a name stands for is apart from all later ones
  apart_from : (x : ℕ) (e : TypedTree) (m : Written) (formals : List ℕ) (actuals : TypedTree) (name : Way) (ways_left : List Way) → IsCopiedBack s x
      → written e ≡ Some m → Named (home s depth) name → sees (ways.number_of name) ≡ false → Unlent facts name → m.name ≡ ways.name_of name
      → ((r : Report) → Has (overlap_reports s (alias.passed (x ∷ formals) (More e actuals))) r → ⊥)
      → ((k : Way) → Has ways_left k → IsNamedBy s sees depth v facts formals actuals k) → IsApartFrom (expand v name) ways_left
  apart_from x e m formals actuals name ways_left in_out is named plain unlent called none names k has =
      let b = names k has in
      let apart : overlaps (ways.name_of name) (ways.name_of b.name) ≡ true → ⊥ =
      (λ over. first_apart s x e m formals actuals in_out is none b.by b.among b.back
      (subst (λ z. overlaps z b.by.actual.name ≡ true) (sym called) (subst (λ z. overlaps (ways.name_of name) z ≡ true) (sym b.called) over))) in (
        λ under. names_off (home s depth) sees other v stilled facts viewed name b.name (named, plain) (b.named, b.plain) unlent b.unlent apart
            (subst (Under (expand v name)) (sym b.means) under),
        λ under. names_off (home s depth) sees other v stilled facts viewed b.name name (b.named, b.plain) (named, plain) b.unlent unlent
            (λ over. apart (overlaps-sym (ways.name_of name) (ways.name_of b.name) ∙ over)) (subst (λ z. Under z (expand v name)) (sym b.means) under),
      )

  plain_first : (x : ℕ) (e : TypedTree) (a : Passed) (formals : List ℕ) (actuals : TypedTree) (passed : List Passed) (outs : List Out) → IsPlainOne s m cells x a
      → Passes formals actuals passed outs → Passes (x ∷ formals) (More e actuals) (a ∷ passed) outs
  plain_first x e a formals actuals passed outs plain ([], are, names) = ([], (plain, are), λ k has. more_named x e formals actuals k (names k has))
  plain_first x e a formals actuals passed outs plain (to ∷ ways_left, are, names) =
      (to ∷ ways_left, inl (plain, are), λ k has. more_named x e formals actuals k (names k has))

  -- what is copied back owns
  copied_owner : (x : ℕ) → IsCopiedBack s x → is_view_formal s x ≡ false
  copied_owner x back =
      ap (λ b. (is_formal s x && b) && is_owning s.table (object_at s x).of) (no_in (object_at s x).mode back)
      ∙ no_middle (is_formal s x) (is_owning s.table (object_at s x).of)
    where
      no_in : (m : Mode) → (m ≡ mode.In → ⊥) → is_in m ≡ false
      no_in mode.In back = absurd (back refl)
      no_in mode.Out back = refl
      no_in mode.InOut back = refl

      no_middle : (a b : Bool) → (a && false) && b ≡ false
      no_middle true b = refl
      no_middle false b = refl

  abbrev IsWithin : TypedTree → Type 0
  IsWithin e = (y : ℕ) → Has (root_of e) y → is_package_object s y ≡ false → is_owning s.table (object_at s y).of ≡ true → is_within y scope ≡ true

  abbrev NoOverlap : List ℕ → TypedTree → Type 0
  NoOverlap formals actuals = (r : Report) → Has (overlap_reports s (alias.passed formals actuals)) r → ⊥

  abbrev AllowsOne : List Fact → ℕ → TypedTree → Type 0
  AllowsOne known x e = AllowsAll known (acts (actual_act (passing s procedure x) e))

  -- A place that is passed on, of this name.
  record OwnPlace (x y : ℕ) (path : TypedTree) (k : Place) : Type 0 where
    to : Way
    inside : IsInside s depth k to
    name : Way
    named : Named (home s depth) name
    plain : sees (ways.number_of name) ≡ false
    means : expand v name ≡ to
    called : ways.name_of name ≡ name_of y path
    fits : Matches s.table k.of (object_at s x).of
    among : IsAmong cells inside.start inside.trunk
    own : IsOwnAt s depth inside.frame inside.object k inside.trunk inside.start → y ≡ inside.object

  in_variable : (x : ℕ) (p : Pos) (y u : ℕ) (path : TypedTree) (k : Place) → (own : IsOwnPut s depth x (Name p y path u) k) → OwnPlace x y path k
  in_variable x p y u path k (to, inside, called, is, fits, own) = record {
    to = to;
    inside = inside;
    name = to;
    named = own_named s settled depth k to inside own;
    plain = ap sees (own_number s settled depth k to inside own) ∙ owner_sees s sees seeing inside.object (no_left (is_anonymous (view_of s inside.object)) (is_view_formal s inside.object)
        (own_plain s settled depth k to inside own)) own.4;
    means = own_itself s settled depth k to inside own v only (λ z q w has. sees_view s sees seeing z (viewed.views.1 z q w has).sees);
    called = called;
    fits = fits;
    among = λ n is. absurd (no_cell n (sym own.1 ∙ is));
    own = λ at. sym is;
  }
    where
      no_cell : (n : ℕ) → {f z : ℕ} → ways.OfRoot (ways.OfVariable f z) ≡ ways.OfCell n → ⊥
      no_cell n e = absurd (false≢true (ap is_of_cell_loc e))

      no_left : (a b : Bool) → a || b ≡ false → a ≡ false
      no_left true b e = e
      no_left false b e = refl

  in_cell : (x y : ℕ) (path : TypedTree) (k : Place) → (h : IsHoused s sees depth v view x y path k) → Has cells (house_of s sees depth v view x y path k h) → OwnPlace x y path k
  in_cell x y path k h has = record {
    to = h.to;
    inside = h.inside;
    name = h.name;
    named = h.named;
    plain = ap sees (ap (λ (z : PlaceName). z.root) h.called) ∙ h.plain;
    means = h.means;
    called = h.called;
    fits = h.fits;
    among = λ n is. (house_of s sees depth v view x y path k h, has, refl, same_cell (sym h.start ∙ is));
    own = λ at. absurd (no_cell (sym at.1 ∙ h.start));
  }
    where
      same_cell : {a b : ℕ} → ways.OfCell a ≡ ways.OfCell b → a ≡ b
      same_cell e = loc_cells e

      no_cell : {n f z : ℕ} → ways.OfRoot (ways.OfVariable f z) ≡ ways.OfCell n → ⊥
      no_cell e = absurd (false≢true (ap is_of_cell_loc e))

  -- another place, by the mode
  own_first : (x : ℕ) (how : Mode) (p : Pos) (y u : ℕ) (path : TypedTree) (k : Place) (a : Passed) (formals : List ℕ) (actuals : TypedTree) (passed : List Passed) (known : List Fact)
      (outs later : List Out)
      → IsCopiedBack s x → is_scalar (full s.table (object_at s x).of) ≡ false → (own : OwnPlace x y path k) → is_package_object s x ≡ false
      → DiffersFrom x formals → IsWithin (Name p y path u) → NoOverlap (x ∷ formals) (More (Name p y path u) actuals)
      → ((f : Fact) → Has facts f → Has known f)
      → Allows known (act.Actual (name_of y path) how (is_owning s.table (object_at s x).of) (procedure && is_named_access (view_of s x)))
      → ((w : Way) → Allows known (act.Actual (ways.name_of w) how (is_owning s.table (object_at s x).of) (procedure && is_named_access (view_of s x))) → Unlent known w)
      → (Allows known (act.Actual (ways.name_of own.name) how (is_owning s.table (object_at s x).of) (procedure && is_named_access (view_of s x))) → Unlent facts own.name
      → IsTakenAs s depth v facts k own.to a outs later × ((n : PlaceName) → Has facts (Moved n) → covers (ways.name_of own.name) n ≡ true → ⊥))
      → Passes formals actuals passed later → Passes (x ∷ formals) (More (Name p y path u) actuals) (a ∷ passed) outs
  own_first x how p y u path k a formals actuals passed known outs later back many own local differ within none less allowed unlent taken these =
      let (ways_left, are, names) = these in
      let actual : Written = record { pos = p; name = name_of y path; of = u } in
      let by_name : Allows known (act.Actual (ways.name_of own.name) how (is_owning s.table (object_at s x).of) (procedure && is_named_access (view_of s x))) =
      subst (λ z. Allows known (act.Actual z how (is_owning s.table (object_at s x).of) (procedure && is_named_access (view_of s x)))) (sym own.called) allowed in
      let free : Unlent facts own.name = λ l h n has over. unlent own.name by_name l h n (less (Lent l h n) has) over in (
        own.to ∷ ways_left,
        inr (
          k,
          later,
          (taken by_name free).0,
          record {
            inside = own.inside;
            called = own.named;
            name = own.name;
            leads = own.means;
            plain = own.plain;
            among = own.among;
            fits = own.fits;
            formal = local;
            owner = copied_owner x back;
            many = many;
            within = λ at mine owns. within own.inside.object (inl (own.own at)) mine owns;
            unlent = free;
            cleared = (taken by_name free).1;
          },
          subst (λ z. IsApartFrom z ways_left) own.means
              (apart_from x (Name p y path u) actual formals actuals own.name ways_left back refl own.named own.plain free (sym own.called) none names),
          differ,
          are,
        ),
        λ z has. elim has [
          | inr rest ↦ more_named x (Name p y path u) formals actuals z (names z rest)
          | inl same ↦ record {
            by = record { formal = x; actual = actual };
            among = inl refl;
            back = back;
            name = own.name;
            named = own.named;
            plain = own.plain;
            means = own.means ∙ same;
            called = sym own.called;
            unlent = free;
            cleared = (taken by_name free).1;
            many = many;
          }
        ],
      )

  back_of : (x : ℕ) (how : Mode) → (object_at s x).mode ≡ how → (how ≡ mode.In → ⊥) → IsCopiedBack s x
  back_of x how is other in_mode = other (sym is ∙ in_mode)

  no_out : mode.Out ≡ mode.In → ⊥
  no_out e = absurd (false≢true (ap is_in_mode e))

  no_in_out : mode.InOut ≡ mode.In → ⊥
  no_in_out e = absurd (false≢true (ap is_in_mode e))

  -- its act
  act_allowed : (x : ℕ) (how : Mode) (p : Pos) (y u : ℕ) (path : TypedTree) (known : List Fact) → (object_at s x).mode ≡ how → (how ≡ mode.In → ⊥) → AllowsOne known x (Name p y path u)
      → Allows known (act.Actual (name_of y path) how (is_owning s.table (object_at s x).of) (procedure && is_named_access (view_of s x)))
  act_allowed x how p y u path known is other allowed =
      by_mode how other
      (subst (λ z. AllowsAll known (acts (actual_act (passing_by z (is_owning s.table (object_at s x).of) (procedure && is_named_access (view_of s x))) (Name p y path u)))) is allowed)
    where
      by_mode : (how : Mode) → (how ≡ mode.In → ⊥)
          → AllowsAll known (acts (actual_act (passing_by how (is_owning s.table (object_at s x).of) (procedure && is_named_access (view_of s x))) (Name p y path u)))
          → Allows known (act.Actual (name_of y path) how (is_owning s.table (object_at s x).of) (procedure && is_named_access (view_of s x)))
      by_mode mode.In other allowed = absurd (other refl)
      by_mode mode.Out other allowed = allowed.0
      by_mode mode.InOut other allowed = allowed.0

  in_out_first : (x : ℕ) (p : Pos) (y u : ℕ) (path : TypedTree) (k : Place) (formals : List ℕ) (actuals : TypedTree) (passed : List Passed) (known : List Fact) (later : List Out)
      → (object_at s x).mode ≡ mode.InOut → is_scalar (full s.table (object_at s x).of) ≡ false → OwnPlace x y path k → is_package_object s x ≡ false
      → DiffersFrom x formals → IsWithin (Name p y path u) → NoOverlap (x ∷ formals) (More (Name p y path u) actuals) → ((f : Fact) → Has facts f → Has known f)
      → AllowsOne known x (Name p y path u)
      → Passes formals actuals passed later → Passes (x ∷ formals) (More (Name p y path u) actuals) (From k ∷ passed) later
  in_out_first x p y u path k formals actuals passed known later is many own local differ within none less allowed rest =
      let owning : Bool = is_owning s.table (object_at s x).of in
      let access : Bool = procedure && is_named_access (view_of s x) in
      own_first x mode.InOut p y u path k (From k) formals actuals passed known later later (back_of x mode.InOut is no_in_out) many own local differ within none less
      (act_allowed x mode.InOut p y u path known is no_in_out allowed) (λ w by_name. passed_unlent known w owning access by_name)
      (λ by_name free. (
        inl (
          refl,
          (λ w under moved. clean_below (home s depth) sees other v stilled facts viewed own.name w (own.named, own.plain) (λ h n has over. free Borrowed h n has over)
              (λ n has over. passed_unmoved known own.name owning access by_name n (less (Moved n) has) over) (subst (λ z. Under z w) (sym own.means) under) moved),
          refl,
        ),
        λ n has covered. passed_unmoved known own.name owning access by_name n (less (Moved n) has) (covers_overlaps (ways.name_of own.name) n covered),
      )) rest

  in_out_own : (x : ℕ) (e : TypedTree) (k : Place) (formals : List ℕ) (actuals : TypedTree) (passed : List Passed) (known : List Fact) (later : List Out)
      → (object_at s x).mode ≡ mode.InOut → is_scalar (full s.table (object_at s x).of) ≡ false → IsOwnPut s depth x e k → is_package_object s x ≡ false
      → DiffersFrom x formals → IsWithin e → NoOverlap (x ∷ formals) (More e actuals) → ((f : Fact) → Has facts f → Has known f) → AllowsOne known x e
      → Passes formals actuals passed later → Passes (x ∷ formals) (More e actuals) (From k ∷ passed) later
  in_out_own x (Name p y path u) k formals actuals passed known later is many own local differ within none less allowed rest =
      in_out_first x p y u path k formals actuals passed known later is many (in_variable x p y u path k own) local differ within none less allowed rest
  in_out_own x e k formals actuals passed known later is many never local differ within none less allowed rest = absurd never

  -- what is left after the act of an actual
  abbrev LessAfter : List Fact → ℕ → TypedTree → Type 0
  LessAfter known x e = (f : Fact) → Has facts f → Has (after (acts (actual_act (passing s procedure x) e)) known) f

  out_first : (x : ℕ) (p : Pos) (y u : ℕ) (path : TypedTree) (k : Place) (formals : List ℕ) (actuals : TypedTree) (passed : List Passed) (known : List Fact) (later : List Out)
      → (object_at s x).mode ≡ mode.Out → is_scalar (full s.table (object_at s x).of) ≡ false → (own : OwnPlace x y path k) → is_package_object s x ≡ false
      → DiffersFrom x formals → IsWithin (Name p y path u) → NoOverlap (x ∷ formals) (More (Name p y path u) actuals) → ((f : Fact) → Has facts f → Has known f)
      → LessAfter known x (Name p y path u) → AllowsOne known x (Name p y path u)
      → Passes formals actuals passed later
      → Passes (x ∷ formals) (More (Name p y path u) actuals) (To k ∷ passed) (record { way = own.to; place = k; pos = p } ∷ later)
  out_first x p y u path k formals actuals passed known later is many own local differ within none less less_after allowed rest =
      let owning : Bool = is_owning s.table (object_at s x).of in
      let access : Bool = procedure && is_named_access (view_of s x) in
      own_first x mode.Out p y u path k (To k) formals actuals passed known (record { way = own.to; place = k; pos = p } ∷ later) later (back_of x mode.Out is no_out) many own local differ
      within none less (act_allowed x mode.Out p y u path known is no_out allowed) (λ w by_name. out_unlent known w owning access by_name) (λ by_name free. (
        inr (p, refl, refl),
        λ n has covered. out_cleared (name_of y path) owning access known n
            (subst (λ z. Has (after (acts (actual_act (passing_by z owning access) (Name p y path u))) known) (Moved n)) is (less_after (Moved n) has))
            (subst (λ z. covers z n ≡ true) own.called covered),
      )) rest

  out_own : (x : ℕ) (e : TypedTree) (k : Place) (formals : List ℕ) (actuals : TypedTree) (passed : List Passed) (known : List Fact) (later : List Out)
      → (object_at s x).mode ≡ mode.Out → is_scalar (full s.table (object_at s x).of) ≡ false → (own : IsOwnPut s depth x e k) → is_package_object s x ≡ false
      → DiffersFrom x formals → IsWithin e → NoOverlap (x ∷ formals) (More e actuals) → ((f : Fact) → Has facts f → Has known f) → LessAfter known x e → AllowsOne known x e
      → Passes formals actuals passed later → Passes (x ∷ formals) (More e actuals) (To k ∷ passed) (own_out s depth x e k own ++ later)
  unfolding in_variable
  out_own x (Name p y path u) k formals actuals passed known later is many own local differ within none less less_after allowed rest =
      out_first x p y u path k formals actuals passed known later is many (in_variable x p y u path k own) local differ within none less less_after allowed rest
  out_own x e k formals actuals passed known later is many never local differ within none less less_after allowed rest = absurd never

  out_housed : (x : ℕ) (e : TypedTree) (k : Place) (formals : List ℕ) (actuals : TypedTree) (passed : List Passed) (known : List Fact) (later : List Out)
      → (object_at s x).mode ≡ mode.Out → (many : is_scalar (full s.table (object_at s x).of) ≡ false) → (housed : IsHousedPut s sees depth v view x e k) → is_package_object s x ≡ false
      → DiffersFrom x formals → IsWithin e → NoOverlap (x ∷ formals) (More e actuals) → ((f : Fact) → Has facts f → Has known f) → LessAfter known x e → AllowsOne known x e
      → ((c : Lodge) → Has (back_cell s sees depth v view x e k (inr (many, housed))) c → Has cells c)
      → Passes formals actuals passed later → Passes (x ∷ formals) (More e actuals) (To k ∷ passed) (housed_out s sees depth v view x e k housed ++ later)
  unfolding in_cell
  out_housed x (Name p y path u) k formals actuals passed known later is many h local differ within none less less_after allowed lodged rest =
      out_first x p y u path k formals actuals passed known later is many (in_cell x y path k h (lodged (house_of s sees depth v view x y path k h) (inl refl))) local differ within none less
      less_after allowed rest
  out_housed x e k formals actuals passed known later is many never local differ within none less less_after allowed lodged rest = absurd never

  -- a value of mode `in`
  value_first : (x : ℕ) (ws : List machine.Word) → (object_at s x).mode ≡ mode.In → IsKindOfFormal s x → IsValueLaid s m x ws → IsPlainOne s m cells x (Value ws)
  value_first x ws is (inl plain) laid =
      inl (plain, (laid.0 (both_no (is_owning s.table (object_at s x).of) (is_anonymous (view_of s x)) (plain_type s own_law (object_at s x).of plain) (scalar_unseen s x plain))).0 ∙ plain_word s settled (object_at s x).of plain)
  value_first x ws is (inr (inl (back, own))) laid = absurd (back is)
  value_first x ws is (inr (inr (inr (by_mode, plain, named)))) laid = inr (inr (inl (plain, named), ws, refl, laid.0 (both_no (is_owning s.table (object_at s x).of) (is_anonymous (view_of s x)) plain (named_plain s.table (object_at s x).of named))))
  value_first x ws is (inr (inr (inl shown))) laid = by_bundle (is_bundle s x) refl
    where
      by_bundle : (b : Bool) → is_bundle s x ≡ b → IsPlainOne s m cells x (Value ws)
      by_bundle true bundle = inr (inr (inr bundle, ws, refl, laid.2 bundle))
      by_bundle false bare = (let value = laid.1 (given_type s x shown) bare in inr (inl ((shown, bare), value.0, ap Value value.1, value.2)))

  -- a scalar place
  plain_place_of : (e : TypedTree) (k : Place) → (there : IsPlainAt s sees depth v view e k) → ((c : Lodge) → Has (plain_cell s sees depth v view e k there) c → Has cells c) → IsPlainPlace s cells k
  plain_place_of (Name p y path u) k (inl fixed) lodged = inl fixed
  plain_place_of (Name p y path u) k (inr (c, there, plain)) lodged = inr (c, lodged c (inl refl), there.lodged, plain)
  plain_place_of e k never lodged = absurd never

  first_passed : (x : ℕ) (how : Mode) (e : TypedTree) (a : Passed) (formals : List ℕ) (actuals : TypedTree) (passed : List Passed) (known : List Fact) (later : List Out)
      → (object_at s x).mode ≡ how → (laid : IsLaidOne s sees m depth v view x how e a) → IsKindOfFormal s x → is_package_object s x ≡ false → DiffersFrom x formals → IsWithin e
      → NoOverlap (x ∷ formals) (More e actuals) ⊎ ((y : ℕ) → Has (x ∷ formals) y → IsCopiedBack s y → IsScalarObject s y)
      → ((f : Fact) → Has facts f → Has known f) → LessAfter known x e → AllowsOne known x e → ((c : Lodge) → Has (cell_of s sees m depth v view x how e a laid) c → Has cells c)
      → Passes formals actuals passed later → Passes (x ∷ formals) (More e actuals) (a ∷ passed) (out_of s sees m depth v view x how e a laid ++ later)
  first_passed x mode.In e (Value ws) formals actuals passed known later is laid kind local differ within none less less_after allowed lodged rest =
      plain_first x e (Value ws) formals actuals passed later (value_first x ws is kind laid) rest
  first_passed x mode.Out e (To k) formals actuals passed known later is (inl (inl (plain, there))) kind local differ within none less less_after allowed lodged rest =
      plain_first x e (To k) formals actuals passed later (inl (plain, plain_place_of e k there lodged)) rest
  first_passed x mode.Out e (To k) formals actuals passed known later is (inl (inr (many, own))) kind local differ within (inl none) less less_after allowed lodged rest =
      out_own x e k formals actuals passed known later is many own local differ within none less less_after allowed rest
  first_passed x mode.Out e (To k) formals actuals passed known later is (inr (many, housed)) kind local differ within (inl none) less less_after allowed lodged rest =
      out_housed x e k formals actuals passed known later is many housed local differ within none less less_after allowed lodged rest
  first_passed x mode.InOut e (From k) formals actuals passed known later is (inl (inl (plain, there))) kind local differ within none less less_after allowed lodged rest =
      plain_first x e (From k) formals actuals passed later (inl (plain, plain_place_of e k there lodged)) rest
  first_passed x mode.InOut e (From k) formals actuals passed known later is (inl (inr (many, own))) kind local differ within (inl none) less less_after allowed lodged rest =
      in_out_own x e k formals actuals passed known later is many own local differ within none less allowed rest
  first_passed x mode.InOut (Name p y path u) (From k) formals actuals passed known later is (inr (many, h)) kind local differ within (inl none) less less_after allowed lodged rest =
      in_out_first x p y u path k formals actuals passed known later is many (in_cell x y path k h (lodged (house_of s sees depth v view x y path k h) (inl refl))) local differ within none less
      allowed rest
  first_passed x mode.Out e (To k) formals actuals passed known later is (inr (many, housed)) kind local differ within (inr plain) less less_after allowed lodged rest =
      absurd (true_false (is_scalar (full s.table (object_at s x).of)) (plain x (inl refl) (back_of x mode.Out is no_out)) many)
  first_passed x mode.Out e (To k) formals actuals passed known later is (inl (inr (many, own))) kind local differ within (inr plain) less less_after allowed lodged rest =
      absurd (true_false (is_scalar (full s.table (object_at s x).of)) (plain x (inl refl) (back_of x mode.Out is no_out)) many)
  first_passed x mode.InOut e (From k) formals actuals passed known later is (inl (inr (many, own))) kind local differ within (inr plain) less less_after allowed lodged rest =
      absurd (true_false (is_scalar (full s.table (object_at s x).of)) (plain x (inl refl) (back_of x mode.InOut is no_in_out)) many)
  first_passed x mode.InOut (Name p y path u) (From k) formals actuals passed known later is (inr (many, h)) kind local differ within (inr plain) less less_after allowed lodged rest =
      absurd (true_false (is_scalar (full s.table (object_at s x).of)) (plain x (inl refl) (back_of x mode.InOut is no_in_out)) many)
  first_passed x mode.InOut e (From k) formals actuals passed known later is (inr (many, never)) kind local differ within none less less_after allowed lodged rest = absurd never
  first_passed x how e a formals actuals passed known later is laid kind local differ within none less less_after allowed lodged rest = absurd laid

  pub all_passed_on : (formals : List ℕ) (actuals : TypedTree) (passed : List Passed) (known : List Fact) → (laid : AreLaidOut s sees m depth v view formals actuals passed)
      → ((x : ℕ) → Has formals x → IsKindOfFormal s x) → ((x : ℕ) → Has formals x → is_package_object s x ≡ false) → AreDifferent formals
      → ((y : ℕ) → Has (roots_passed actuals) y → is_package_object s y ≡ false → is_owning s.table (object_at s y).of ≡ true → is_within y scope ≡ true)
      → NoOverlap formals actuals ⊎ ((x : ℕ) → Has formals x → IsCopiedBack s x → IsScalarObject s x)
      → facts ≡ after (acts (actual_acts (map (passing s procedure) formals) actuals)) known
      → AllowsAll known (acts (actual_acts (map (passing s procedure) formals) actuals)) → ((c : Lodge) → Has (cells_of s sees m depth v view formals actuals passed laid) c → Has cells c)
      → Passes formals actuals passed (outs_of s sees m depth v view formals actuals passed laid)
  unfolding roots_passed
  all_passed_on [] actuals passed known laid kinds local differ within none same allowed lodged = ([], (refl, refl), λ k has. absurd has)
  all_passed_on (x ∷ formals) (More e rest) (a ∷ passed) known laid kinds local differ within none same allowed lodged =
      let first : List Act = acts (actual_act (passing s procedure x) e) in
      let others : List Act = acts (copies_of formals rest) in
      let both : acts (copies_of (x ∷ formals) (More e rest)) ≡ first ++ others = acts_append (actual_act (passing s procedure x) e) (copies_of formals rest) in
      let each = allows_both known first others (subst (AllowsAll known) both allowed) in
      first_passed x (object_at s x).mode e a formals rest passed known (outs_of s sees m depth v view formals rest passed laid.1) refl laid.0 (kinds x (inl refl)) (local x (inl refl)) differ.0
      (λ y has. within y (Has-append_left (root_of e) (roots_passed rest) y has)) none
      (λ f has. after_less (acts (copies_of (x ∷ formals) (More e rest)))
      (λ b there. (let from = Has-map_from (λ (z : Placed). z.act) (copies_of (x ∷ formals) (More e rest)) b there in
      λ g new. copies_add s own_law procedure (x ∷ formals) (More e rest) from.0 from.1 g (subst (λ z. Has (adds z) g) (sym from.2) new))) known f (subst (λ z. Has z f) same has))
      (λ f has. after_less others
      (λ b there. (let from = Has-map_from (λ (z : Placed). z.act) (copies_of formals rest) b there in
      λ g new. copies_add s own_law procedure formals rest from.0 from.1 g (subst (λ z. Has (adds z) g) (sym from.2) new)))
      (after first known) f (subst (λ z. Has z f) (same ∙ ap (λ z. after z known) both ∙ after_append first others known) has))
      each.0 (λ c has. lodged c (Has-append_left (cell_of s sees m depth v view x (object_at s x).mode e a laid.0) (cells_of s sees m depth v view formals rest passed laid.1) c has))
      (all_passed_on formals rest passed (after first known) laid.1 (λ y has. kinds y (inr has)) (λ y has. local y (inr has)) differ.1
      (λ y has. within y (Has-append_right (root_of e) (roots_passed rest) y has)) (elim none [ inl no_reports ↦ inl (later_none s x e formals rest no_reports) | inr plain ↦ inr (λ y has. plain y (inr has)) ])
      (same ∙ ap (λ z. after z known) both ∙ after_append first others known) each.1
      (λ c has. lodged c (Has-append_right (cell_of s sees m depth v view x (object_at s x).mode e a laid.0) (cells_of s sees m depth v view formals rest passed laid.1) c has)))
  all_passed_on (x ∷ formals) (More e rest) [] known laid kinds local differ within none same allowed lodged = absurd laid
  all_passed_on (x ∷ formals) actuals passed known laid kinds local differ within none same allowed lodged =
      ([], subst (λ z. ArePassedOn s sees m cells depth v facts scope (x ∷ formals) z [] []) (sym laid) (refl, refl), λ k has. absurd has)

-- ---- what is checked, and what is to be copied back

module _ (s : Typing) (sees : ℕ → Bool) (settled : IsSettled s.table) (depth : ℕ) (v : Views) (view : ways.View) where
  -- a scalar place has no leak checks
  no_checks : (p : Pos) (m : Memory) (k : Place) → is_scalar (full s.table k.of) ≡ true → checks_at s p m k ≡ []
  no_checks p m k plain =
      ap (map (λ part. checked_at p k.at (slots_at s m k.base) (machine.offsets s.table k.of part)))
      (settled.part_law k.of ∙ plain_parts (parts s.table) (shape_of s.table k.of) plain)

  abbrev all_leaks : List (List Leak) → List Leak
  all_leaks checks = flat_map (λ (leaks : List Leak). leaks) checks

  out_found : (p : Pos) (m : Memory) (x : ℕ) (e : TypedTree) (k : Place) → (laid : IsPlaceLaid s sees depth v view x e k)
      → all_leaks (checks_at s (written_pos p (written e)) m k) ≡ found_in s m (place_out s sees depth v view x e k laid)
  out_found p m x (Name q y path u) k (inl (plain, inl (fixed, bare))) = ap all_leaks (no_checks q m k fixed.scalar)
  out_found p m x (Name q y path u) k (inl (plain, inr (c, there, scalar))) = ap all_leaks (no_checks q m k scalar)
  out_found p m x e k (inl (plain, never)) = absurd never
  out_found p m x (Name q y path u) k (inr (many, own)) = all_checks s q m k ∙ sym (append-nil (leaks_at s q m k))
  out_found p m x e k (inr (many, never)) = absurd never

  found_both : (m : Memory) (a b : List Out) → found_in s m (a ++ b) ≡ found_in s m a ++ found_in s m b
  found_both m [] b = refl
  found_both m (o ∷ a) b =
      ap (λ z. leaks_at s o.pos m o.place ++ z) (found_both m a b) ∙ sym (append_assoc (leaks_at s o.pos m o.place) (found_in s m a) (found_in s m b))

  back_found : (p : Pos) (m : Memory) (x : ℕ) (e : TypedTree) (k : Place) → (laid : IsBackLaid s sees depth v view x e k)
      → all_leaks (checks_at s (written_pos p (written e)) m k) ≡ found_in s m (back_out s sees depth v view x e k laid)
  back_found p m x e k (inl laid) = out_found p m x e k laid
  back_found p m x (Name q y path u) k (inr (many, housed)) = all_checks s q m k ∙ sym (append-nil (leaks_at s q m k))
  back_found p m x e k (inr (many, never)) = absurd never

  first_checks : (p : Pos) (m : Memory) (x : ℕ) (how : Mode) (e : TypedTree) (a : Passed) (passed : List Passed) (rest : TypedTree) (outs : List Out)
      → (laid : IsLaidOne s sees m depth v view x how e a) → all_leaks (out_checks s p m passed rest) ≡ found_in s m outs
      → all_leaks (out_checks s p m (a ∷ passed) (More e rest)) ≡ found_in s m (out_of s sees m depth v view x how e a laid ++ outs)
  first_checks p m x mode.In e (Value ws) passed rest outs laid others = others
  first_checks p m x mode.InOut e (From k) passed rest outs laid others = others
  first_checks p m x mode.Out e (To k) passed rest outs laid others =
      flat_map-append (λ (leaks : List Leak). leaks) (checks_at s (written_pos p (written e)) m k) (out_checks s p m passed rest)
      ∙ (λ j. back_found p m x e k laid j ++ others j)
      ∙ sym (found_both m (back_out s sees depth v view x e k laid) outs)
  first_checks p m x how e a passed rest outs laid others = absurd laid

  -- the leak checks of a call are those of the places that are emptied
  pub found_there : (p : Pos) (m : Memory) (formals : List ℕ) (actuals : TypedTree) (passed : List Passed) → (laid : AreLaidOut s sees m depth v view formals actuals passed)
      → all_leaks (out_checks s p m passed actuals) ≡ found_in s m (outs_of s sees m depth v view formals actuals passed laid)
  found_there p m [] actuals passed laid = ap (λ z. all_leaks (out_checks s p m z actuals)) laid
  found_there p m (x ∷ formals) (More e rest) (a ∷ passed) laid =
      first_checks p m x (object_at s x).mode e a passed rest (outs_of s sees m depth v view formals rest passed laid.1) laid.0 (found_there p m formals rest passed laid.1)
  found_there p m (x ∷ formals) (More e rest) [] laid = absurd laid
  found_there p m (x ∷ formals) actuals passed laid = ap (λ z. all_leaks (out_checks s p m z actuals)) laid

  -- A formal is of a scalar type, or is copied back, or owns nothing.
  abbrev IsReturned : ℕ → List Return → Type 0
  IsReturned x returns = IsScalarObject s x ⊎ (((r : Return) × Has returns r × (r.formal ≡ x)) ⊎ ((is_view_formal s x ≡ true) ⊎ (is_owning s.table (object_at s x).of ≡ false)))

  more_return : (x y : ℕ) (a : Passed) (formals : List ℕ) (passed : List Passed) → IsReturned y (returns_of formals passed) → IsReturned y (returns_of (x ∷ formals) (a ∷ passed))
  more_return x y a formals passed (inl plain) = inl plain
  more_return x y a formals passed (inr (inl (r, has, is))) = inr (inl (r, Has-append_right (return_of x a) (returns_of formals passed) r has, is))
  more_return x y a formals passed (inr (inr shown)) = inr (inr shown)

  first_return : OwnsByShape s.table → (m : Memory) (x : ℕ) (how : Mode) (e : TypedTree) (a : Passed) (formals : List ℕ) (passed : List Passed) → (object_at s x).mode ≡ how → IsLaidOne s sees m depth v view x how e a
      → IsKindOfFormal s x → IsReturned x (returns_of (x ∷ formals) (a ∷ passed))
  first_return own_law m x mode.InOut e (From k) formals passed is laid kind = inr (inl (record { formal = x; to = k }, inl refl, refl))
  first_return own_law m x mode.In e (Value ws) formals passed is laid (inl plain) = inl plain
  first_return own_law m x mode.In e (Value ws) formals passed is laid (inr (inl (back, own))) = absurd (back is)
  first_return own_law m x mode.In e (Value ws) formals passed is laid (inr (inr (inl shown))) = inr (inr (elim (given_cases s x shown) [ inl formal ↦ inl formal | inr anonymous ↦ inr (unowned_view s own_law x anonymous) ]))
  first_return own_law m x mode.In e (Value ws) formals passed is laid (inr (inr (inr plain))) = inr (inr (inr plain.1))
  first_return own_law m x mode.Out e (To k) formals passed is laid kind = inr (inl (record { formal = x; to = k }, inl refl, refl))
  first_return own_law m x how e a formals passed is laid kind = absurd laid

  pub all_returned : OwnsByShape s.table → (m : Memory) (formals : List ℕ) (actuals : TypedTree) (passed : List Passed) → AreLaidOut s sees m depth v view formals actuals passed → AreActualsTo s formals actuals
      → ((x : ℕ) → Has formals x → IsKindOfFormal s x) → (x : ℕ) → Has formals x → IsReturned x (returns_of formals passed)
  all_returned own_law m [] actuals passed laid stay kinds x has = absurd has
  all_returned own_law m (y ∷ formals) (More e rest) (a ∷ passed) laid stay kinds x (inl same) =
      subst (λ z. IsReturned z (returns_of (y ∷ formals) (a ∷ passed))) same
      (first_return own_law m y (object_at s y).mode e a formals passed refl laid.0 (kinds y (inl refl)))
  all_returned own_law m (y ∷ formals) (More e rest) (a ∷ passed) laid stay kinds x (inr has) =
      more_return y x a formals passed (all_returned own_law m formals rest passed laid.1 stay.1 (λ z there. kinds z (inr there)) x has)
  all_returned own_law m (y ∷ formals) (More e rest) [] laid stay kinds x has = absurd laid
  all_returned own_law m (y ∷ formals) actuals passed laid stay kinds x has = inl (stay x has)

-- ---- the call

-- What a call leads to after its actuals.
module _ (t : Turn) (settled : IsSettled (typing t).table) (n : ℕ) (actuals : TypedTree)
    (P : Outcome → Type 0) (raises : (e : Exception) (m : Memory) → P (raised t e m)) (Given : List Passed → Type 0)
    (goes : (passed : List Passed) → Given passed
    → P (leaking_goes (out_checks (typing t) t.point.pos t.state.memory passed actuals) (Goes (entered t settled n actuals passed)))) where
  abbrev frames_with : List Passed → Memory → ℕ
  frames_with passed m = frame_words t.program (frame_at_start n (returns_of (sub_of t.program n).formals passed) ∷ (steps.behind t (steps.waiting t) m 0).frames)

  by_room : (f : List Passed → Memory → Outcome) → Enters t settled n actuals f → (passed : List Passed) → Given passed → P (f passed t.state.memory)
  by_room f enters passed are = elim (bool_cases (nat_le (frames_with passed t.state.memory) stack_words)) [
    | inr full ↦ subst P (sym (enters.full passed t.state.memory full)) (raises StorageError t.state.memory)
    | inl fits ↦ subst P (sym (enters.fits passed t.state.memory fits)) (goes passed are)
  ]

  by_values : (f : List Passed → Memory → Outcome) → Enters t settled n actuals f → (now : Now) → now.memory ≡ t.state.memory → (y : Evaluated (List Passed)) → Quiet now Given y
      → P (steps.evaluated t y f)
  by_values f enters now same (Done passed m) (is, are) =
      subst (λ z. P (f passed z)) (sym same ∙ ap (λ (z : Now). z.memory) (sym is)) (by_room f enters passed are)
  by_values f enters now same (Raises e m) is = raises e m.memory
  by_values f enters now same (Traps e m) never_there = absurd never_there

  called_by : (f : List Passed → Memory → Outcome) → Enters t settled n actuals f → (ways_there : List Passing) → passings (typing t) (sub_at (typing t) n) ≡ ways_there
      → (before now : Now) → start t ≡ before → now.memory ≡ t.state.memory → Quiet now Given (all_passed (here t) ways_there (formals_there t settled n actuals) actuals before)
      → P (steps.evaluated t (all_passed (here t) (passings (typing t) (sub_at (typing t) n)) (formals_there t settled n actuals) actuals (start t)) f)
  called_by f enters ways_there are before now started same quiet_there =
      subst (λ z. P (steps.evaluated t (all_passed (here t) z (formals_there t settled n actuals) actuals (start t)) f)) (sym are)
      (subst (λ z. P (steps.evaluated t (all_passed (here t) ways_there (formals_there t settled n actuals) actuals z) f)) (sym started)
      (by_values f enters now same (all_passed (here t) ways_there (formals_there t settled n actuals) actuals before) quiet_there))

  pub call_goes : (ways_there : List Passing) → passings (typing t) (sub_at (typing t) n) ≡ ways_there
      → (before now : Now) → start t ≡ before → now.memory ≡ t.state.memory → Quiet now Given (all_passed (here t) ways_there (formals_there t settled n actuals) actuals before)
      → P (call t n actuals)
  call_goes ways_there are before now started same quiet_there =
      called_by _ (record { fits = λ passed m e. rw e refl; full = λ passed m e. rw e refl }) ways_there are before now started same quiet_there
