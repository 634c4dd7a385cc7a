-- Calls: what the actuals are, and how they are passed. Each is a value of one word, a scalar place in a
-- variable, or another place in a variable of the caller.
use Rattle.std.proofs.Common.{◌≡◌, refl, ◌&&◌, ◌||◌, not, is_some, sym, ap, ◌∙◌, subst, ◌⊎◌, inl, inr, ℕ, Bool, true, false, List, [], ◌∷◌, ◌++◌, map, Option, if◌then◌else◌}
use Rattle.std.proofs.lemmas.Bool.{false≢true}
use Rattle.machine.specs.spark_base.Lists.{Has}
use Rattle.soundness.proofs.Lists.{Has-append_cases}
use Rattle.machine.specs.place_names.declared.act.Act.TheVariants as act
use Rattle.machine.specs.place_names.declared.act.Mode.{Mode}
use Rattle.machine.specs.place_names.declared.act.Mode.TheVariants as mode
use Rattle.machine.specs.place_names.declared.act.Placed.{Placed}
use Rattle.machine.specs.place_names.declared.fact.Fact.{Fact}
use Rattle.machine.specs.type_definitions.Types.{full, is_scalar, is_owning}
use Rattle.machine.specs.typed_tree.Trees.{TypedTree, Name, More}
use Rattle.machine.specs.typed_tree.Trees as typed
use Rattle.machine.specs.flow_paths.Objects.{Typing, object_at, sub_at, is_anonymous, is_named_access, view_of, traverses, first_traversed, Passing, ByValue, passing, passing_by, passings}
use Rattle.machine.specs.flow_paths.Names.{written, is_empty, waiting as waits_in}
use Rattle.machine.specs.flow_paths.Laid.{FlowProgram, flow_typing}
use Rattle.machine.specs.flow_paths.Acts.{acts_in, index_acts, actual_act, actual_acts, actual_values}
use Rattle.machine.specs.Words as machine
use Rattle.machine.specs.Memory.{Memory, Place, words_of}
use Rattle.machine.specs.Evaluate.{Here, Now, Evaluated, Done, Raises, Traps, followed_by, place_of, checked, viewed}
use Rattle.machine.specs.Calls.{Passed, Value, From, To, type_of, value_passed, passed, all_passed}
use Rattle.machine.specs.States.{Waiting, Leak, sub_of}
use Rattle.machine.specs.Owners.{is_in}
use Rattle.soundness.specs.OwnedWays.Ways.{Loc, Way, Reaches, AllowsAll, after}
use Rattle.soundness.specs.PartOffsets.Parts.{IsSettled}
use Rattle.soundness.specs.Seen.{IsNear, content, trunk, seen, home}
use Rattle.soundness.specs.Typed.{Matches, OwnsByShape, Kept}
use Rattle.soundness.specs.Sound.{goes_through_none}
use Rattle.soundness.specs.TypedLaws.Needed.{Gives, Stays, IndexLaw, IsPlace as IsPlaceOf}
use Rattle.soundness.proofs.Contents.{bool_cases}
use Rattle.soundness.proofs.Fixed.{matches_scalar}
use Rattle.soundness.proofs.Scalars.{acts, acts_append, allows_both}
use Rattle.soundness.proofs.Stays.{One, Quiet, quiet_then, quiet_from}
use Rattle.soundness.proofs.Taking.{Takes}
use Rattle.soundness.proofs.Passing.{IsRead, AreReads, AddNone, IsValue, plain_type, reads_keep, read_adds_none, signature_is}
use Rattle.soundness.specs.OwnedLoans.Views.{Around, Views, Viewed}
use Rattle.soundness.specs.ViewedSoundness.Holds.{IsNamed, IsAccess, PartsAreNamed, Holds, IsOwners, is_given, Seeing, is_bundle}
use Rattle.soundness.proofs.ViewedSoundness.ViewKinds.{true_false, both_no, plain_named, bundle_access, given_view}
use Rattle.soundness.proofs.ViewedSoundness.Evaluated.{matches_named}
use Rattle.viewed_steps.specs.Sound.{IsScalarObject}
use Rattle.viewed_steps.specs.Ready.{is_shown_type, IsOwnPlace, IsSeen, IsActualTo, AreActualsTo}
use Rattle.viewed_steps.proofs.Views.{AreAccess, AreUnseen, AreLowFormals, bundle_owns, view_access}
use Rattle.viewed_steps.proofs.Seeing.{IsSeenAs, SeesParts, IsClear, AreClear, seen_given, parts_given}
use Rattle.viewed_steps.proofs.LaidOut.{IsOwnPut, IsOpenActual, AreOpenActuals, IsHousedPut}
use Rattle.viewed_steps.proofs.Entered.{IsFit}
use Rattle.viewed_steps.proofs.Lent.{ends, Spare, spare_both, spare_naming}
use Rattle.viewed_steps.proofs.Copies.{copies_read}
use Rattle.viewed_steps.proofs.Reading.{no_reads, both_reads, naming_adds, index_reads}
use Rattle.viewed_steps.proofs.Puts as puts
use Rattle.soundness.specs.ViewedSoundness.Taken.{types_taken, TakesFit}
use Rattle.viewed_steps.proofs.Supplied.{Supplies, SuppliesAll, takes_supplied, scalar_types, place_types, seen_types}
use Rattle.soundness.proofs.Parted.{by_either}

module _ (s : Typing) (own_law : OwnsByShape s.table) (procedure : Bool) where
  abbrev pub way_to : ℕ → Passing
  way_to x = passing s procedure x

  abbrev pub owning_of : ℕ → Bool
  owning_of x = is_owning s.table (object_at s x).of

  -- Those of mode `in` are evaluated where the formal owns nothing of them by its type; of others the indexes are.
  abbrev pub head_of : Mode → Bool → TypedTree → List Placed
  head_of mode.In false e = acts_in s e
  head_of m owning e = index_acts s e

  head_is : (m : Mode) (owning access : Bool) → (e : TypedTree) (ways : List Passing) (rest : TypedTree)
      → actual_values s (passing_by m owning access ∷ ways) (More e rest) ≡ head_of m owning e ++ actual_values s ways rest
  head_is mode.In false access e ways rest = refl
  head_is mode.In true access e ways rest = refl
  head_is mode.Out owning access e ways rest = refl
  head_is mode.InOut owning access e ways rest = refl

  pub head_values_are : (x : ℕ) → (e : TypedTree) (ways : List Passing) (rest : TypedTree)
      → actual_values s (way_to x ∷ ways) (More e rest) ≡ head_of (object_at s x).mode (owning_of x) e ++ actual_values s ways rest
  head_values_are x e ways rest = head_is (object_at s x).mode (owning_of x) (procedure && is_named_access (view_of s x)) e ways rest

  seen_reads : (x : ℕ) (e : TypedTree) → IsSeen s x e → AreReads (index_acts s e)
  seen_reads x typed.Null seen = no_reads
  seen_reads x (Name p y path u) seen = index_reads s own_law (Name p y path u) u (seen.0, refl)
  seen_reads x e seen = absurd seen

  pub head_of_reads : PartsAreNamed s.table → (x : ℕ) (m : Mode) (owning : Bool) (e : TypedTree) → owning_of x ≡ owning → is_anonymous (view_of s x) ≡ false → IsActualTo s x m e → AreReads (head_of m owning e)
  head_of_reads parts_named x mode.In false e is unseen stays =
      copies_read s own_law parts_named e (object_at s x).of (stays.0 (both_no (owning_of x) (is_anonymous (view_of s x)) is unseen)).0 is
      (plain_named s.table (object_at s x).of unseen)
  head_of_reads parts_named x mode.In true e is unseen stays = seen_reads x e (stays.1 (ap (λ b. b || is_anonymous (view_of s x)) is))
  head_of_reads parts_named x mode.Out owning e is unseen place = index_reads s own_law e place.0 place.1
  head_of_reads parts_named x mode.InOut owning e is unseen place = index_reads s own_law e place.0 place.1

  none_of : (m : Mode) (owning access : Bool) (ways : List Passing) (actuals : TypedTree) → is_empty actuals ≡ true
      → AreReads (actual_values s (passing_by m owning access ∷ ways) actuals)
  none_of mode.In false access ways (More e rest) none = absurd (false≢true none)
  none_of mode.In false access ways actuals none = λ p has. absurd has
  none_of mode.In true access ways (More e rest) none = absurd (false≢true none)
  none_of mode.In true access ways actuals none = λ p has. absurd has
  none_of mode.Out owning access ways (More e rest) none = absurd (false≢true none)
  none_of mode.Out owning access ways actuals none = λ p has. absurd has
  none_of mode.InOut owning access ways (More e rest) none = absurd (false≢true none)
  none_of mode.InOut owning access ways actuals none = λ p has. absurd has

  pub values_are_read : PartsAreNamed s.table → (formals : List ℕ) (actuals : TypedTree) → AreUnseen s formals → AreActualsTo s formals actuals → AreReads (actual_values s (map way_to formals) actuals)
  values_are_read parts_named [] actuals unseen stay = λ p has. absurd has
  values_are_read parts_named (x ∷ formals) (More e rest) unseen stay =
      subst AreReads (sym (head_values_are x e (map way_to formals) rest))
      (both_reads (head_of (object_at s x).mode (owning_of x) e) (actual_values s (map way_to formals) rest)
      (head_of_reads parts_named x (object_at s x).mode (owning_of x) e refl (unseen x (inl refl)) stay.0) (values_are_read parts_named formals rest (λ y has. unseen y (inr has)) stay.1))
  values_are_read parts_named (x ∷ formals) actuals unseen stay =
      none_of (object_at s x).mode (owning_of x) (procedure && is_named_access (view_of s x)) (map way_to formals) actuals refl

  -- those of places that are copied back to add no fact, and end no scope
  copy_adds : (m : Mode) (owning access : Bool) (e : TypedTree) → AddNone (actual_act (passing_by m owning access) e)
  copy_adds mode.In true access e = naming_adds (written e) (λ k. act.Actual k mode.In true access) (λ n. refl)
  copy_adds mode.In false access e = λ p has f new. has
  copy_adds mode.Out owning access e = naming_adds (written e) (λ k. act.Actual k mode.Out owning access) (λ n. refl)
  copy_adds mode.InOut owning access e = naming_adds (written e) (λ k. act.Actual k mode.InOut owning access) (λ n. refl)

  pub copies_add : (formals : List ℕ) (actuals : TypedTree) → AddNone (actual_acts (map way_to formals) actuals)
  copies_add [] actuals p has f new = has
  copies_add (x ∷ formals) (More e rest) p has f new =
      elim (Has-append_cases (actual_act (way_to x) e) (actual_acts (map way_to formals) rest) p has) [
        | inl l ↦ copy_adds (object_at s x).mode (is_owning s.table (object_at s x).of) (procedure && is_named_access (view_of s x)) e p l f new
        | inr r ↦ copies_add formals rest p r f new
      ]
  copies_add (x ∷ formals) actuals p has f new = has

  pub call_adds_none : PartsAreNamed s.table → (formals : List ℕ) (actuals : TypedTree) → AreUnseen s formals → AreActualsTo s formals actuals
      → AddNone (actual_values s (map way_to formals) actuals ++ actual_acts (map way_to formals) actuals)
  call_adds_none parts_named formals actuals unseen stay p has f new =
      elim (Has-append_cases (actual_values s (map way_to formals) actuals) (actual_acts (map way_to formals) actuals) p has) [
        | inl l ↦ read_adds_none p (values_are_read parts_named formals actuals unseen stay p l) f new
        | inr r ↦ copies_add formals actuals p r f new
      ]

  spare_copy : (m : Mode) (owning access : Bool) (e : TypedTree) → Spare s (actual_act (passing_by m owning access) e)
  spare_copy mode.In true access e = spare_naming s (written e) (λ k. act.Actual k mode.In true access) (λ n. refl)
  spare_copy mode.In false access e = tt
  spare_copy mode.Out owning access e = spare_naming s (written e) (λ k. act.Actual k mode.Out owning access) (λ n. refl)
  spare_copy mode.InOut owning access e = spare_naming s (written e) (λ k. act.Actual k mode.InOut owning access) (λ n. refl)

  pub spare_copies : (formals : List ℕ) (actuals : TypedTree) → Spare s (actual_acts (map way_to formals) actuals)
  spare_copies [] actuals = tt
  spare_copies (x ∷ formals) (More e rest) =
      spare_both s (actual_act (way_to x) e) (actual_acts (map way_to formals) rest)
      (spare_copy (object_at s x).mode (is_owning s.table (object_at s x).of) (procedure && is_named_access (view_of s x)) e) (spare_copies formals rest)
  spare_copies (x ∷ formals) actuals = tt

-- all formals are passed so, where the result isn't of an anonymous access type
pub passes_to : (program : FlowProgram) (n : ℕ) → traverses (flow_typing program).table (sub_of program n).result ≡ false
    → passings (flow_typing program) (sub_at (flow_typing program) n)
    ≡ map (passing (flow_typing program) (not (is_some (sub_of program n).result))) (sub_of program n).formals
passes_to program n plain =
    ap (passings (flow_typing program)) (signature_is program n) ∙ by_result (sub_of program n).result (sub_of program n).formals plain
  where
    by_result : (r : Option ℕ) (formals : List ℕ) → traverses (flow_typing program).table r ≡ false
        → passings (flow_typing program) (record { formals = formals; result = r }) ≡ map (passing (flow_typing program) (not (is_some r))) formals
    by_result r formals plain =
        ap (λ b. if b then first_traversed (map (passing (flow_typing program) (not (is_some r))) formals) else map (passing (flow_typing program) (not (is_some r))) formals) plain

pub spare_reads : (s : Typing) (ps : List Placed) → AreReads ps → Spare s ps
spare_reads s [] reads = tt
spare_reads s (p ∷ ps) reads = (one p (reads p (inl refl)), spare_reads s ps (λ q has. reads q (inr has)))
  where
    one : (p : Placed) → IsRead p → ends s p.act ≡ false
    one p (m, inl e) = ap (ends s) e
    one p (m, inr e) = ap (ends s) e

pub neither : (a b : Bool) → a ≡ false → b ≡ false → a || b ≡ false
neither a b e f = ap (λ z. z || b) e ∙ f

-- ---- the actuals

module _ (h : Here) (sees : ℕ → Bool) (seeing : Seeing h.typing sees) (settled : IsSettled h.typing.table) (hands : List Waiting) (leaks : List Leak) (m : Memory) (waits : List (List machine.Word))
    (other : Around (home h.typing h.frame)) (facts : List Fact) (v : Views)
    (kept : Kept h.typing m hands)
    (well : Viewed (home h.typing h.frame) sees other v (seen h.typing m hands leaks) facts)
    (holds : Holds h.typing sees h.frame v m)
    (alone : (w : Way) → IsNear h.frame w → other.gone w → ⊥)
    (live : (w : Way) (l : Loc) → IsOwners h.typing w → Reaches (seen h.typing m hands leaks) w l → (content h.typing m hands (trunk l)).owns ≡ true)
    (in_formals : AreAccess h.typing)
    (index_law : IndexLaw)
    (own_law : OwnsByShape h.typing.table)
    (parts_named : PartsAreNamed h.typing.table)
    (formals_low : AreLowFormals h.typing h.frame v)
    (procedure : Bool) where
  abbrev at : List (List machine.Word) → Now
  at = puts.at h sees seeing settled hands leaks m waits other facts v kept well holds alone live in_formals index_law own_law parts_named formals_low procedure

  abbrev IsKind : ℕ → Type 0
  IsKind = puts.IsKind h sees seeing settled hands leaks m waits other facts v kept well holds alone live in_formals index_law own_law parts_named formals_low procedure

  abbrev checked_quiet : (on : List (List machine.Word)) (P : List machine.Word → Type 0) (t : ℕ) (ws : List machine.Word) → P ws → Quiet (at on) P (checked h t ws (at on))
  checked_quiet = puts.checked_quiet h sees seeing settled hands leaks m waits other facts v kept well holds alone live in_formals index_law own_law parts_named formals_low procedure

  abbrev value_given : (before on : List (List machine.Word)) (x : ℕ) (e : TypedTree) → Stays h.typing e → Takes (waits_in e) before on → AllowsAll facts (acts (acts_in h.typing e))
      → Quiet (at on) (λ a. IsValue a) (passed h ByValue x e (at before))
  value_given = puts.value_given h sees seeing settled hands leaks m waits other facts v kept well holds alone live in_formals index_law own_law parts_named formals_low procedure

  abbrev scalar_fit : (x : ℕ) (ws : List machine.Word) → is_scalar (full h.typing.table (object_at h.typing x).of) ≡ true → One ws → IsFit h.typing m (object_at h.typing x).of ws
  scalar_fit = puts.scalar_fit h sees seeing settled hands leaks m waits other facts v kept well holds alone live in_formals index_law own_law parts_named formals_low procedure

  abbrev IsCopied : ℕ → Passed → Type 0
  IsCopied = puts.IsCopied h sees seeing settled hands leaks m waits other facts v kept well holds alone live in_formals index_law own_law parts_named formals_low procedure

  abbrev copy_given : (before on : List (List machine.Word)) (x : ℕ) (e : TypedTree) → is_owning h.typing.table (object_at h.typing x).of ≡ false → IsNamed h.typing.table (object_at h.typing x).of
      → Gives h.typing (object_at h.typing x).of e → TakesFit h.typing e → Supplies h.typing m (types_taken h.typing e) before on → AllowsAll facts (acts (acts_in h.typing e)) → Quiet (at on) (IsCopied x) (passed h ByValue x e (at before))
  copy_given = puts.copy_given h sees seeing settled hands leaks m waits other facts v kept well holds alone live in_formals index_law own_law parts_named formals_low procedure

  abbrev IsPut : TypedTree → Place → Type 0
  IsPut = puts.IsPut h sees seeing settled hands leaks m waits other facts v kept well holds alone live in_formals index_law own_law parts_named formals_low procedure

  abbrev through_given : (before on : List (List machine.Word)) (e : TypedTree) (t : ℕ) → IsPlaceOf h.typing e t → is_scalar (full h.typing.table t) ≡ true → Takes (waits_in e) before on
      → IsOpenActual h.typing sees h.frame facts e → AllowsAll facts (acts (index_acts h.typing e)) → Quiet (at on) (λ k. IsPut e k) (place_of h e (at before))
  through_given = puts.through_given h sees seeing settled hands leaks m waits other facts v kept well holds alone live in_formals index_law own_law parts_named formals_low procedure

  abbrev quiet_on : (on : List (List machine.Word)) (P Q : Place → Type 0) → ((k : Place) → P k → Q k) → (y : Evaluated Place) → Quiet (at on) P y → Quiet (at on) Q y
  quiet_on = puts.quiet_on h sees seeing settled hands leaks m waits other facts v kept well holds alone live in_formals index_law own_law parts_named formals_low procedure

  abbrev IsKeptPut : ℕ → TypedTree → Place → Type 0
  IsKeptPut = puts.IsKeptPut h sees seeing settled hands leaks m waits other facts v kept well holds alone live in_formals index_law own_law parts_named formals_low procedure

  abbrev housed_given : (before on : List (List machine.Word)) (x : ℕ) (e : TypedTree) (t : ℕ) → IsPlaceOf h.typing e t → IsNamed h.typing.table t → Matches h.typing.table t (object_at h.typing x).of
      → (goes_through_none e ≡ true → IsOwnPlace h.typing e) → Takes (waits_in e) before on → IsOpenActual h.typing sees h.frame facts e
      → AllowsAll facts (acts (index_acts h.typing e)) → Quiet (at on) (λ k. IsKeptPut x e k) (place_of h e (at before))
  housed_given = puts.housed_given h sees seeing settled hands leaks m waits other facts v kept well holds alone live in_formals index_law own_law parts_named formals_low procedure

  abbrev pub ways_of : List ℕ → List Passing
  ways_of formals = map (way_to h.typing own_law procedure) formals

  -- What is passed for an actual, by the mode: a scalar value, a scalar place in a variable, or another
  -- place in a variable of the frame.
  abbrev pub IsPlaceGiven : ℕ → TypedTree → Place → Type 0
  IsPlaceGiven x e k =
      (IsScalarObject h.typing x × IsPut e k) ⊎ ((is_scalar (full h.typing.table (object_at h.typing x).of) ≡ false) × IsOwnPut h.typing h.frame x e k)

  abbrev pub IsBackGiven : ℕ → TypedTree → Place → Type 0
  IsBackGiven x e k =
      IsPlaceGiven x e k ⊎ ((is_scalar (full h.typing.table (object_at h.typing x).of) ≡ false) × IsHousedPut h.typing sees h.frame v (seen h.typing m hands leaks) x e k)

  -- A scalar value; or null, or the number of a cell that a way leads to; or words with such numbers.
  abbrev pub IsValueGiven : ℕ → TypedTree → List machine.Word → Type 0
  IsValueGiven x e ws =
      (is_shown_type h.typing x ≡ false → IsFit h.typing m (object_at h.typing x).of ws)
      × (is_shown_type h.typing x ≡ true → is_bundle h.typing x ≡ false
      → IsSeenAs h sees seeing settled hands leaks m waits other facts v kept well holds alone live index_law own_law parts_named formals_low x e ws)
      × (is_bundle h.typing x ≡ true
      → SeesParts h sees seeing settled hands leaks m waits other facts v kept well holds alone live index_law own_law parts_named formals_low x e ws)

  abbrev pub IsGiven : ℕ → Mode → TypedTree → Passed → Type 0
  IsGiven x mode.In e (Value ws) = IsValueGiven x e ws
  IsGiven x mode.Out e (To k) = IsBackGiven x e k
  IsGiven x mode.InOut e (From k) = IsBackGiven x e k
  IsGiven x m' e a = ⊥

  abbrev pub AreGiven : List ℕ → TypedTree → List Passed → Type 0
  AreGiven (x ∷ formals) (More e rest) (a ∷ passed) = IsGiven x (object_at h.typing x).mode e a × AreGiven formals rest passed
  AreGiven (x ∷ formals) (More e rest) [] = ⊥
  AreGiven formals actuals passed = passed ≡ []

  -- a formal with parts is shown what it is passed
  bundle_shown : (x : ℕ) → is_bundle h.typing x ≡ true → is_shown_type h.typing x ≡ true
  bundle_shown x bundle = ap (λ b. b || is_anonymous (view_of h.typing x)) (bundle_owns h.typing x bundle)

  value_is : (on : List (List machine.Word)) (x : ℕ) (e : TypedTree) → is_shown_type h.typing x ≡ false → IsScalarObject h.typing x → (y : Evaluated Passed)
      → Quiet (at on) (λ a. IsValue a) y → Quiet (at on) (λ a. IsGiven x mode.In e a) y
  value_is on x e plain scalar_type (Done (Value ws) n) is = (
    is.0,
    (
      (λ own. scalar_fit x ws scalar_type is.1),
      (λ own bare. absurd (true_false (is_shown_type h.typing x) own plain)),
      (λ bundle. absurd (true_false (is_shown_type h.typing x) (bundle_shown x bundle) plain)),
    ),
  )
  value_is on x e plain scalar_type (Done (From k) n) is = absurd is.1
  value_is on x e plain scalar_type (Done (To k) n) is = absurd is.1
  value_is on x e plain scalar_type (Raises y n) is = is
  value_is on x e plain scalar_type (Traps y n) is = is

  copy_is : (on : List (List machine.Word)) (x : ℕ) (e : TypedTree) → is_shown_type h.typing x ≡ false → (y : Evaluated Passed)
      → Quiet (at on) (IsCopied x) y → Quiet (at on) (λ a. IsGiven x mode.In e a) y
  copy_is on x e plain (Done (Value ws) n) is = (
    is.0,
    (
      (λ own. is.1),
      (λ own bare. absurd (true_false (is_shown_type h.typing x) own plain)),
      (λ bundle. absurd (true_false (is_shown_type h.typing x) (bundle_shown x bundle) plain)),
    ),
  )
  copy_is on x e plain (Done (From k) n) is = absurd is.1
  copy_is on x e plain (Done (To k) n) is = absurd is.1
  copy_is on x e plain (Raises y n) is = is
  copy_is on x e plain (Traps y n) is = is

  pub shown_given : (before on : List (List machine.Word)) (x : ℕ) (e : TypedTree) → IsAccess h.typing x → is_shown_type h.typing x ≡ true → IsSeen h.typing x e
      → Takes (waits_in e) before on → AllowsAll facts (acts (index_acts h.typing e))
      → IsClear h.typing sees facts e
      → Quiet (at on) (λ a. IsGiven x mode.In e a) (followed_by (viewed h e (at before)) value_passed)
  shown_given before on x e access shown seen takes allowed clears =
      quiet_then (at on) (λ ws. IsSeenAs h sees seeing settled hands leaks m waits other facts v kept well holds alone live index_law own_law parts_named formals_low x e ws)
      (λ a. IsGiven x mode.In e a) (viewed h e (at before)) value_passed
      (seen_given h sees seeing settled hands leaks m waits other facts v kept well holds alone live index_law own_law parts_named formals_low before on x e access seen takes allowed clears)
      (λ ws is. (
        refl,
        (
          (λ plain. absurd (true_false (is_shown_type h.typing x) shown plain)),
          (λ own bare. is),
          (λ bundle. absurd (bundle_access h.typing x access.0 access.1 access.2 bundle access.3)),
        ),
      ))

  bundle_given : (before on : List (List machine.Word)) (x : ℕ) (e : TypedTree) → is_bundle h.typing x ≡ true → IsSeen h.typing x e
      → Takes (waits_in e) before on → AllowsAll facts (acts (index_acts h.typing e))
      → IsClear h.typing sees facts e
      → Quiet (at on) (λ a. IsGiven x mode.In e a) (followed_by (viewed h e (at before)) value_passed)
  bundle_given before on x e bundle seen takes allowed clears =
      quiet_then (at on) (λ ws. SeesParts h sees seeing settled hands leaks m waits other facts v kept well holds alone live index_law own_law parts_named formals_low x e ws)
      (λ a. IsGiven x mode.In e a) (viewed h e (at before)) value_passed
      (parts_given h sees seeing settled hands leaks m waits other facts v kept well holds alone live index_law own_law parts_named formals_low before on x e bundle seen takes allowed clears)
      (λ ws is. (
        refl,
        (
          (λ plain. absurd (true_false (is_shown_type h.typing x) (bundle_shown x bundle) plain)),
          (λ own bare. absurd (true_false (is_bundle h.typing x) bundle bare)),
          (λ any. is),
        ),
      ))

  abbrev IsCopiedName : ℕ → Mode → TypedTree → Type 0
  IsCopiedName x m' e = is_in m' ≡ false → IsOpenActual h.typing sees h.frame facts e

  abbrev from_place : ℕ → Place → Now → Evaluated Passed
  from_place x k now = followed_by (checked h (type_of h x) (words_of h.typing now.memory k) now) (λ ws now. Done (From k) now)

  from_given : (before on : List (List machine.Word)) (x : ℕ) (e : TypedTree) → Quiet (at on) (λ k. IsBackGiven x e k) (place_of h e (at before))
      → Quiet (at on) (λ a. IsGiven x mode.InOut e a) (followed_by (place_of h e (at before)) (from_place x))
  from_given before on x e there =
      quiet_then (at on) (λ k. IsBackGiven x e k) (λ a. IsGiven x mode.InOut e a) (place_of h e (at before)) (from_place x) there
      (λ k put. quiet_then (at on) (λ (ws : List machine.Word). Unit {0}) (λ a. IsGiven x mode.InOut e a) (checked h (type_of h x) (words_of h.typing m k) (at on))
      (λ ws now. Done (From k) now) (checked_quiet on (λ ws. Unit {0}) (type_of h x) (words_of h.typing m k) tt) (λ ws any. (refl, put)))

  scalar_type : (t u : ℕ) → Matches h.typing.table t u → is_scalar (full h.typing.table u) ≡ true → is_scalar (full h.typing.table t) ≡ true
  scalar_type t u (inl e) plain = matches_scalar h.typing u t (inl (sym e)) plain
  scalar_type t u (inr both) plain = both.0

  flipped : (t u : ℕ) → Matches h.typing.table t u → Matches h.typing.table u t
  flipped t u (inl e) = inl (sym e)
  flipped t u (inr (a, b)) = inr (b, a)

  named_there : (x : ℕ) → is_anonymous (view_of h.typing x) ≡ false → IsNamed h.typing.table (object_at h.typing x).of
  named_there x unseen = plain_named h.typing.table (object_at h.typing x).of unseen

  back_given : (before on : List (List machine.Word)) (x : ℕ) (e : TypedTree) → is_anonymous (view_of h.typing x) ≡ false → IsActualTo h.typing x mode.InOut e
      → IsOpenActual h.typing sees h.frame facts e → Takes (waits_in e) before on
      → AllowsAll facts (acts (index_acts h.typing e)) → Quiet (at on) (λ k. IsBackGiven x e k) (place_of h e (at before))
  back_given before on x e unseen (t, place, fits, which) opens takes allowed = elim (bool_cases (is_scalar (full h.typing.table (object_at h.typing x).of))) [
    | inl plain ↦ quiet_on on (λ k. IsPut e k) (λ k. IsBackGiven x e k) (λ k put. inl (inl (plain, put))) (place_of h e (at before))
        (through_given before on e t place (scalar_type t (object_at h.typing x).of fits plain) takes opens allowed)
    | inr other_type ↦ quiet_on on (λ k. IsKeptPut x e k) (λ k. IsBackGiven x e k)
        (λ k put. elim put [ inl own ↦ inl (inr (other_type, own)) | inr housed ↦ inr (other_type, housed) ]) (place_of h e (at before))
        (housed_given before on x e t place
        (matches_named h.typing.table (object_at h.typing x).of t (flipped t (object_at h.typing x).of fits) (named_there x unseen)) fits (own_there which other_type) takes opens allowed)
  ]
    where
      own_there : (is_scalar (full h.typing.table t) ≡ true) ⊎ (goes_through_none e ≡ true → IsOwnPlace h.typing e) → is_scalar (full h.typing.table (object_at h.typing x).of) ≡ false
          → goes_through_none e ≡ true → IsOwnPlace h.typing e
      own_there (inl plain) other_type = absurd (true_false (is_scalar (full h.typing.table (object_at h.typing x).of))
          (matches_scalar h.typing t (object_at h.typing x).of fits plain) other_type)
      own_there (inr own) other_type = own

  pub one_given : (before on : List (List machine.Word)) (mode_of : Mode) (owning access : Bool) (x : ℕ) (e : TypedTree) → (object_at h.typing x).mode ≡ mode_of
      → is_owning h.typing.table (object_at h.typing x).of ≡ owning → is_anonymous (view_of h.typing x) ≡ false → IsKind x → IsActualTo h.typing x mode_of e
      → (is_given h.typing x ≡ true → IsClear h.typing sees facts e)
      → IsCopiedName x mode_of e → TakesFit h.typing e → Supplies h.typing m (types_taken h.typing e) before on
      → AllowsAll facts (acts (head_of h.typing own_law procedure mode_of owning e)) → Quiet (at on) (λ a. IsGiven x mode_of e a) (passed h (passing_by mode_of owning access) x e (at before))
  one_given before on mode.In false access x e is fits unseen kind actual clears copied fit takes allowed =
      let plain_type_there = both_no (is_owning h.typing.table (object_at h.typing x).of) (is_anonymous (view_of h.typing x)) fits unseen in
      let value_there = actual.0 plain_type_there in
      by_either value_there.1
      (λ (plain, stays). (value_is on x e plain_type_there plain (passed h ByValue x e (at before))
      (value_given before on x e stays (takes_supplied h.typing settled m e before on (scalar_types h.typing e (object_at h.typing x).of plain value_there.0 fit) takes) allowed)))
      (λ (many, named). (copy_is on x e plain_type_there (passed h ByValue x e (at before)) (copy_given before on x e fits named value_there.0 fit takes allowed)))
  one_given before on mode.In true access x e is fits unseen kind actual clears copied fit takes allowed = by_either kind
      (λ plain. (absurd (true_false (is_owning h.typing.table (object_at h.typing x).of) fits (plain_type h.typing own_law (object_at h.typing x).of plain))))
      (λ other_kind. (elim other_kind [
        | inl back ↦ absurd (back.0 is)
        | inr (inl shown) ↦ (
            let shown_type = ap (λ b. b || is_anonymous (view_of h.typing x)) fits in
            let taken = takes_supplied h.typing settled m e before on (seen_types h.typing x e (actual.1 shown_type) fit) takes in
            by_either (bool_cases (is_bundle h.typing x))
            (λ bundle. (bundle_given before on x e bundle (actual.1 shown_type) taken allowed (clears shown)))
            (λ bare. (shown_given before on x e (view_access h.typing sees in_formals x (given_view h.typing x shown) bare) shown_type (actual.1 shown_type) taken allowed (clears shown))))
        | inr (inr plain) ↦ absurd (true_false (is_owning h.typing.table (object_at h.typing x).of) fits plain.1)
      ]))
  one_given before on mode.Out owning access x e is fits unseen kind actual clears copied fit takes allowed =
      quiet_then (at on) (λ k. IsBackGiven x e k) (λ a. IsGiven x mode.Out e a) (place_of h e (at before)) (λ k now. Done (To k) now)
      (back_given before on x e unseen actual (copied refl) (takes_supplied h.typing settled m e before on (place_types h.typing e actual.0 actual.1 fit) takes) allowed) (λ k put. (refl, put))
  one_given before on mode.InOut owning access x e is fits unseen kind actual clears copied fit takes allowed =
      from_given before on x e (back_given before on x e unseen actual (copied refl) (takes_supplied h.typing settled m e before on (place_types h.typing e actual.0 actual.1 fit) takes) allowed)

  pub all_given : (before on : List (List machine.Word)) (formals : List ℕ) (actuals : TypedTree) → ((x : ℕ) → Has formals x → IsKind x) → AreUnseen h.typing formals → AreActualsTo h.typing formals actuals
      → AreClear h.typing sees facts formals actuals → AreOpenActuals h.typing sees h.frame facts formals actuals → SuppliesAll h.typing m formals actuals before on
      → AllowsAll facts (acts (actual_values h.typing (ways_of formals) actuals))
      → Quiet (at on) (λ passed. AreGiven formals actuals passed) (all_passed h (ways_of formals) formals actuals (at before))
  all_given before on [] actuals kinds unseen stay clears copied takes allowed = ((ap at takes), refl)
  all_given before on (x ∷ formals) (More e rest) kinds unseen stay clears copied (mid, fit, takes, more) allowed =
      let mode_of : Mode = (object_at h.typing x).mode in
      let owning : Bool = is_owning h.typing.table (object_at h.typing x).of in
      let kind = kinds x (inl refl) in
      let both : AllowsAll facts (acts (head_of h.typing own_law procedure mode_of owning e ++ actual_values h.typing (ways_of formals) rest)) =
      subst (λ z. AllowsAll facts (acts z)) (head_values_are h.typing own_law procedure x e (ways_of formals) rest) allowed in
      let each = allows_both facts (acts (head_of h.typing own_law procedure mode_of owning e)) (acts (actual_values h.typing (ways_of formals) rest))
      (subst (AllowsAll facts) (acts_append (head_of h.typing own_law procedure mode_of owning e) (actual_values h.typing (ways_of formals) rest)) both) in
      let same : after (acts (head_of h.typing own_law procedure mode_of owning e)) facts ≡ facts =
      reads_keep (head_of h.typing own_law procedure mode_of owning e) (head_of_reads h.typing own_law procedure parts_named x mode_of owning e refl (unseen x (inl refl)) stay.0) facts in
      quiet_from (at mid) (at on) (λ a. IsGiven x mode_of e a) (λ passed. AreGiven (x ∷ formals) (More e rest) passed) refl (passed h (way_to h.typing own_law procedure x) x e (at before))
      (λ a now. followed_by (all_passed h (ways_of formals) formals rest now) (λ more now. Done (a ∷ more) now))
      (one_given before mid mode_of owning (procedure && is_named_access (view_of h.typing x)) x e refl refl (unseen x (inl refl)) kind stay.0 clears.0 copied.0 fit takes each.0)
      (λ a is. quiet_then (at on) (λ passed. AreGiven formals rest passed) (λ passed. AreGiven (x ∷ formals) (More e rest) passed)
      (all_passed h (ways_of formals) formals rest (at mid)) (λ more now. Done (a ∷ more) now)
      (all_given mid on formals rest (λ y has. kinds y (inr has)) (λ y has. unseen y (inr has)) stay.1 clears.1 copied.1 more
      (subst (λ z. AllowsAll z (acts (actual_values h.typing (ways_of formals) rest))) same each.1))
      (λ more are. (refl, (is, are))))
  all_given before on (x ∷ formals) actuals kinds unseen stay clears copied takes allowed = ((ap at takes), refl)
