-- The call of a traversal function changes no fact; and its first formal is shown what the first actual designates.
use Rattle.std.proofs.Common.{◌≡◌, refl, sym, ap, ◌∙◌, subst, inl, inr, ℕ, Bool, true, false, List, [], ◌∷◌, ◌++◌, map, ◌&&◌}
use Rattle.machine.specs.spark_base.Lists.{Has}
use Rattle.machine.specs.place_names.declared.act.Mode.{Mode}
use Rattle.machine.specs.place_names.declared.act.Mode.TheVariants as mode
use Rattle.machine.specs.place_names.declared.act.Placed.{Placed}
use Rattle.machine.specs.place_names.declared.fact.Fact.{Fact}
use Rattle.machine.specs.type_definitions.Types.{is_owning}
use Rattle.machine.specs.typed_tree.Trees.{TypedTree, More, Name}
use Rattle.machine.specs.flow_paths.Acts.{actual_values, actual_acts, actual_act, index_acts}
use Rattle.machine.specs.flow_paths.Objects.{Typing, Passing, Traversed, passing, passing_by, first_traversed, object_at, is_named_access, view_of}
use Rattle.machine.specs.Words as machine
use Rattle.machine.specs.Memory.{Memory}
use Rattle.machine.specs.Calls.{Passed, passed, all_passed}
use Rattle.machine.specs.Evaluate.{Here, Done, followed_by}
use Rattle.machine.specs.States.{Waiting, Leak}
use Rattle.soundness.specs.OwnedWays.Ways.{Loc, Way, Reaches, AllowsAll, after}
use Rattle.soundness.specs.PartOffsets.Parts.{IsSettled}
use Rattle.soundness.specs.Seen.{IsNear, content, trunk, seen, home}
use Rattle.soundness.specs.Typed.{Kept, OwnsByShape}
use Rattle.soundness.specs.TypedLaws.Needed.{Leads, IndexLaw}
use Rattle.soundness.proofs.Passing.{AreReads, reads_keep}
use Rattle.soundness.proofs.Scalars.{acts, acts_append, after_append, allows_both}
use Rattle.soundness.proofs.Stays.{Quiet, quiet_then, quiet_from}
use Rattle.soundness.specs.OwnedLoans.Views.{Around, Views, Viewed}
use Rattle.soundness.specs.ViewedSoundness.Holds.{PartsAreNamed, IsAccess, IsOwners, Holds, Seeing}
use Rattle.viewed_steps.specs.Ready.{is_shown_type, IsSeen, AreActualsTo}
use Rattle.viewed_steps.specs.Sound.{IsKindOfFormal}
use Rattle.viewed_steps.specs.Traversals.{TraversalCall}
use Rattle.viewed_steps.proofs.Called.{values_are_read, IsGiven, AreGiven, shown_given, all_given}
use Rattle.viewed_steps.proofs.Clear.{head_keeps}
use Rattle.viewed_steps.proofs.LaidOut.{AreOpenActuals}
use Rattle.viewed_steps.proofs.Reading.{index_reads, both_reads}
use Rattle.viewed_steps.proofs.Seeing.{IsClear, AreClear}
use Rattle.viewed_steps.proofs.Views.{AreAccess, AreUnseen, AreLowFormals}
use Rattle.viewed_steps.proofs.Supplied.{SuppliesAll, takes_supplied, seen_types}

module _ (s : Typing) (sees : ℕ → Bool) (own_law : OwnsByShape s.table) where
  abbrev pub ways_to : List ℕ → List Passing
  ways_to formals = first_traversed (map (passing s false) formals)

  abbrev pub first_actual : TraversalCall → TypedTree
  first_actual c = Name c.name_pos c.root c.path c.of

  copies_keep : (formals : List ℕ) (actuals : TypedTree) → ((x : ℕ) → Has formals x → (object_at s x).mode ≡ mode.In) → (facts : List Fact)
      → after (acts (actual_acts (map (passing s false) formals) actuals)) facts ≡ facts
  copies_keep [] actuals modes facts = refl
  copies_keep (x ∷ formals) (More e rest) modes facts =
      let owning : Bool = is_owning s.table (object_at s x).of in
      let access : Bool = false && is_named_access (view_of s x) in
      let by_mode : (how : Mode) → (object_at s x).mode ≡ how → acts (actual_act (passing s false x) e) ≡ acts (actual_act (passing_by how owning access) e) =
      (λ how is. ap (λ z. acts (actual_act (passing_by z owning access) e)) is) in
      ap (λ z. after z facts) (acts_append (actual_act (passing s false x) e) (actual_acts (map (passing s false) formals) rest))
      ∙ after_append (acts (actual_act (passing s false x) e)) (acts (actual_acts (map (passing s false) formals) rest)) facts
      ∙ ap (λ z. after (acts (actual_acts (map (passing s false) formals) rest)) z) (ap (λ z. after z facts) (by_mode mode.In (modes x (inl refl))) ∙ head_keeps s sees false owning access e facts)
      ∙ copies_keep formals rest (λ y has. modes y (inr has)) facts
  copies_keep (x ∷ formals) actuals modes facts = refl

  pub first_reads : PartsAreNamed s.table → (formals : List ℕ) (c : TraversalCall) → Leads s (object_at s c.root).of c.path c.of → AreUnseen s formals → AreActualsTo s formals c.others
      → AreReads (index_acts s (first_actual c) ++ actual_values s (map (passing s false) formals) c.others)
  first_reads parts_named formals c leads unseen stay =
      both_reads (index_acts s (first_actual c)) (actual_values s (map (passing s false) formals) c.others)
      (index_reads s own_law (first_actual c) c.of (leads, refl)) (values_are_read s own_law false parts_named formals c.others unseen stay)

  -- where all formals are of mode `in`
  pub traversal_keeps : PartsAreNamed s.table → (f : ℕ) (formals : List ℕ) (c : TraversalCall) → Leads s (object_at s c.root).of c.path c.of → AreUnseen s formals → AreActualsTo s formals c.others
      → ((x : ℕ) → Has formals x → (object_at s x).mode ≡ mode.In) → (facts : List Fact)
      → after (acts (actual_values s (ways_to (f ∷ formals)) (More (first_actual c) c.others) ++ actual_acts (ways_to (f ∷ formals)) (More (first_actual c) c.others))) facts ≡ facts
  traversal_keeps parts_named f formals c leads unseen stay modes facts =
      let values : List Placed = index_acts s (first_actual c) ++ actual_values s (map (passing s false) formals) c.others in
      let copies : List Placed = actual_acts (map (passing s false) formals) c.others in
      ap (λ z. after z facts) (acts_append values copies) ∙ after_append (acts values) (acts copies) facts
      ∙ ap (after (acts copies)) (reads_keep values (first_reads parts_named formals c leads unseen stay) facts)
      ∙ copies_keep formals c.others modes facts

-- ---- what the formals are given

module _ (h : Here) (sees : ℕ → Bool) (seeing : Seeing h.typing sees) (settled : IsSettled h.typing.table) (hands : List Waiting) (leaks : List Leak) (m : Memory) (waits : List (List machine.Word))
    (other : Around (home h.typing h.frame)) (facts : List Fact) (v : Views)
    (kept : Kept h.typing m hands)
    (well : Viewed (home h.typing h.frame) sees other v (seen h.typing m hands leaks) facts)
    (holds : Holds h.typing sees h.frame v m)
    (alone : (w : Way) → IsNear h.frame w → other.gone w → ⊥)
    (live : (w : Way) (l : Loc) → IsOwners h.typing w → Reaches (seen h.typing m hands leaks) w l → (content h.typing m hands (trunk l)).owns ≡ true)
    (in_formals : AreAccess h.typing)
    (index_law : IndexLaw)
    (own_law : OwnsByShape h.typing.table)
    (parts_named : PartsAreNamed h.typing.table)
    (formals_low : AreLowFormals h.typing h.frame v)
    (f : ℕ) (formals : List ℕ) (c : TraversalCall) (in_mode : (object_at h.typing f).mode ≡ mode.In) (access : IsAccess h.typing f) (shown : is_shown_type h.typing f ≡ true) where
  abbrev AreAllGiven : List Passed → Type 0
  AreAllGiven passed =
      AreGiven h sees seeing settled hands leaks m waits other facts v kept well holds alone live in_formals index_law own_law parts_named formals_low false (f ∷ formals)
      (More (first_actual h.typing sees own_law c) c.others) passed

  abbrev IsOneGiven : Mode → Passed → Type 0
  IsOneGiven how a = IsGiven h sees seeing settled hands leaks m waits other facts v kept well holds alone live in_formals index_law own_law parts_named formals_low false f how (first_actual h.typing sees own_law c) a

  abbrev AreOthersGiven : List Passed → Type 0
  AreOthersGiven passed = AreGiven h sees seeing settled hands leaks m waits other facts v kept well holds alone live in_formals index_law own_law parts_named formals_low false formals c.others passed

  abbrev others : List Passing
  others = map (passing h.typing false) formals

  -- the first one as what it sees, and the others as any function is given them
  pub all_traversed : (before on : List (List machine.Word)) → SuppliesAll h.typing m (f ∷ formals) (More (first_actual h.typing sees own_law c) c.others) before on
      → IsSeen h.typing f (first_actual h.typing sees own_law c) → ((x : ℕ) → Has formals x → IsKindOfFormal h.typing x) → AreUnseen h.typing formals → AreActualsTo h.typing formals c.others
      → IsClear h.typing sees facts (first_actual h.typing sees own_law c) → AreClear h.typing sees facts formals c.others → AreOpenActuals h.typing sees h.frame facts formals c.others
      → AllowsAll facts (acts (actual_values h.typing (Traversed ∷ others) (More (first_actual h.typing sees own_law c) c.others)))
      → Quiet (record { memory = m; waits = on }) AreAllGiven
      (all_passed h (Traversed ∷ others) (f ∷ formals) (More (first_actual h.typing sees own_law c) c.others) (record { memory = m; waits = before }))
  all_traversed before on these seen_first kinds unseen stay opens opens_others back allowed =
      let (mid, fit, takes, more) = these in
      let first_acts : List Placed = index_acts h.typing (first_actual h.typing sees own_law c) in
      let each = allows_both facts (acts first_acts) (acts (actual_values h.typing others c.others))
      (subst (AllowsAll facts) (acts_append first_acts (actual_values h.typing others c.others)) allowed) in
      let same : after (acts first_acts) facts ≡ facts = reads_keep first_acts (index_reads h.typing own_law (first_actual h.typing sees own_law c) c.of (seen_first.0, refl)) facts in
      quiet_from (record { memory = m; waits = mid }) (record { memory = m; waits = on }) (IsOneGiven mode.In) AreAllGiven refl
      (passed h Traversed f (first_actual h.typing sees own_law c) (record { memory = m; waits = before }))
      (λ a now. followed_by (all_passed h others formals c.others now) (λ more now. Done (a ∷ more) now))
      (shown_given h sees seeing settled hands leaks m waits other facts v kept well holds alone live in_formals index_law own_law parts_named formals_low false before mid f (first_actual h.typing sees own_law c)
      access shown seen_first (takes_supplied h.typing settled m (first_actual h.typing sees own_law c) before mid (seen_types h.typing f (first_actual h.typing sees own_law c) seen_first fit) takes) each.0 opens)
      (λ a is. quiet_then (record { memory = m; waits = on }) AreOthersGiven AreAllGiven
      (all_passed h others formals c.others (record { memory = m; waits = mid })) (λ more now. Done (a ∷ more) now)
      (all_given h sees seeing settled hands leaks m waits other facts v kept well holds alone live in_formals index_law own_law parts_named formals_low false mid on formals c.others kinds unseen stay opens_others back more
      (subst (λ z. AllowsAll z (acts (actual_values h.typing others c.others))) same each.1))
      (λ more are. (refl, (subst (λ z. IsOneGiven z a) (sym in_mode) is, are))))
