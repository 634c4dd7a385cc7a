-- A value that owns nothing, for a formal of mode `in`, is the same in memories that agree.
use Rattle.machine.specs.flow_paths.Names.{waiting}
use Rattle.soundness.proofs.Taking.{Takes}
use Rattle.std.proofs.Common.{◌≡◌, refl, sym, ap, ◌∙◌, subst, ◌⊎◌, inl, inr, ℕ, suc, ◌+◌, ◌<◌, Bool, true, false, ◌||◌, List, [], ◌∷◌, ◌++◌, drop, get_or, arith, if◌then◌else◌}
use Rattle.machine.specs.place_names.declared.act.Act.{Act}
use Rattle.machine.specs.place_names.declared.act.Act.TheVariants as act
use Rattle.machine.specs.place_names.declared.act.Placed.{Placed}
use Rattle.machine.specs.place_names.declared.fact.Fact.{Fact}
use Rattle.machine.specs.place_names.Names.{Name as PlaceName}
use Rattle.machine.specs.type_definitions.declared.table.Shape.{Shape}
use Rattle.machine.specs.type_definitions.Types.{shape_of, is_owning}
use Rattle.machine.specs.typed_tree.Trees.{TypedTree, Call, Parens, Aggregate, Alike, New, NoMore, More}
use Rattle.machine.specs.flow_paths.Acts.{acts_in}
use Rattle.machine.specs.Words as machine
use Rattle.machine.specs.Words.{element_type, element_count, fits_type}
use Rattle.machine.specs.Memory.{Memory}
use Rattle.machine.specs.Evaluate.{Here, Now, AsValue, ConstraintError, part_type, parts_of, Evaluated, Done, Raises, followed_by, evaluate, checked}
use Rattle.machine.specs.States.{Waiting, Leak}
use Rattle.machine.specs.Typed.{field_count, is_record, is_array, tree_count}
use Rattle.soundness.specs.OwnedWays.Ways.{Loc, Reaches, Way, after, AllowsAll}
use Rattle.soundness.specs.PartOffsets.Parts.{IsSettled}
use Rattle.soundness.specs.Seen.{home, content, trunk, seen, IsNear}
use Rattle.soundness.specs.Typed.{OwnsByShape}
use Rattle.soundness.specs.TypedLaws.Needed.{Gives, GivesParts, Stays, IndexLaw}
use Rattle.soundness.proofs.Lasting.{keeps}
use Rattle.soundness.proofs.Passing.{AreReads, reads_keep}
use Rattle.soundness.proofs.Scalars.{acts, acts_append, allows_both}
use Rattle.soundness.proofs.Stays.{Quiet}
use Rattle.soundness.specs.OwnedLoans.Views.{Around, Views}
use Rattle.soundness.specs.ViewedSoundness.Holds.{IsNamed, IsOwners, PartsAreNamed, is_fixed, KeepsObserved, AllKeep, Seeing}
use Rattle.soundness.specs.ViewedSoundness.Taken.{GivesPlainly, types_taken, TakesFit}
use Rattle.soundness.proofs.ViewedSoundness.Evaluated.{live_trunk, part_named}
use Rattle.viewed_steps.proofs.Copies.{copies_read, copy_quiet, part_owns, element_owns, no_cell}
use Rattle.viewed_steps.proofs.Entered.{IsFit}
use Rattle.viewed_steps.proofs.Reading.{unowned}
use Rattle.viewed_steps.proofs.Supplied.{Supplies, supplies_both, takes_supplied}
use Rattle.viewed_steps.proofs.Views.{AreAccess}
use Rattle.recycled_runs.specs.ViewedFacts.NullPlaces.Compares.{Compares}
use Rattle.recycled_runs.proofs.ViewedFacts.NullPlaces.Only.{OnlyOwners}
use Rattle.recycled_runs.proofs.ViewedFacts.NullPlaces.Evaluated.{value_on}
use Rattle.recycled_runs.proofs.ViewedFacts.NullPlaces.Laws.{Premises}
use Rattle.recycled_runs.proofs.ViewedFacts.NullPlaces.Walks.{SameNow, SameTo, then_same, simply}
use Rattle.recycled_runs.proofs.ViewedFacts.ViewedNulls.Viewed.{viewed_premises, viewed_values, IsReadyIn}

module _ (h : Here) (sees : ℕ → Bool) (seeing : Seeing h.typing sees) (settled : IsSettled h.typing.table) (leaks : List Leak) (other : Around (home h.typing h.frame))
    (alone : (w : Way) → IsNear h.frame w → other.gone w → ⊥) (in_formals : AreAccess h.typing) (index_law : IndexLaw)
    (own_law : OwnsByShape h.typing.table) (v : Views) (parts_named : PartsAreNamed h.typing.table) (m : Memory) (hands : List Waiting) (facts : List Fact)
    (ready : IsReadyIn h sees seeing settled leaks other alone in_formals index_law own_law v parts_named m hands facts)
    (only : OnlyOwners h.typing m) where
  abbrev at : List (List machine.Word) → Now
  at ws = record { memory = m; waits = ws }

  abbrev asks : Premises h
  asks = viewed_premises h sees parts_named

  live : (w : Way) (l : Loc) → IsOwners h.typing w → Reaches (seen h.typing m hands leaks) w l → (content h.typing m hands (trunk l)).owns ≡ true
  live = live_trunk h sees seeing settled leaks [] other alone (keeps h.typing settled own_law) index_law own_law v parts_named m hands ready.viewed.owned

  -- what reads changes nothing
  pub reads_kept : (ps : List Placed) → AreReads ps → AllKeep (is_fixed h.typing sees) (acts ps)
  reads_kept [] reads = tt
  reads_kept (p ∷ ps) reads = (one p.act (reads p (inl refl)).0 (reads p (inl refl)).1, reads_kept ps (λ q has. reads q (inr has)))
    where
      one : (a : Act) (m : PlaceName) → (a ≡ act.Read m) ⊎ (a ≡ act.Look m) → KeepsObserved (is_fixed h.typing sees) a
      one a m (inl e) = subst (KeepsObserved (is_fixed h.typing sees)) (sym e) tt
      one a m (inr e) = subst (KeepsObserved (is_fixed h.typing sees)) (sym e) tt

  abbrev Fits : ℕ → List machine.Word → Type 0
  Fits t ws = IsFit h.typing m t ws

  then_checked : (u : ℕ) (ws : List machine.Word) (n n' : Now) (next : List machine.Word → Now → Evaluated (List machine.Word)) → SameNow h.typing n n'
      → SameTo h.typing (next ws n) (next ws n') → SameTo h.typing (followed_by (checked h u ws n) next) (followed_by (checked h u ws n') next)
  then_checked u ws n n' next now same = by_test (fits_type h.typing.table u ws)
    where
      by_test : (b : Bool) → SameTo h.typing (followed_by (if b then Done ws n else Raises ConstraintError n) next) (followed_by (if b then Done ws n' else Raises ConstraintError n') next)
      by_test true = same
      by_test false = (refl, now)

  -- what takes scalar values alone
  plainly : (e : TypedTree) (want : ℕ) → Gives h.typing want e → is_owning h.typing.table want ≡ false → IsNamed h.typing.table want → GivesPlainly h.typing e
      → (before on : List (List machine.Word)) → Takes (waiting e) before on → Compares h.typing e → AllowsAll facts (acts (acts_in h.typing e))
      → (n' : Now) → SameNow h.typing (at before) n' → SameTo h.typing (evaluate h AsValue e (at before)) (evaluate h AsValue e n')
  plainly e want gives none named plain before on takes compares allowed n' same =
      value_on h settled own_law asks (IsReadyIn h sees seeing settled leaks other alone in_formals index_law own_law v parts_named)
      (viewed_values h sees seeing settled leaks other alone in_formals index_law own_law v parts_named) e want gives tt plain before on takes compares m hands facts ready allowed only named
      (reads_kept (acts_in h.typing e) (copies_read h.typing own_law parts_named e want gives none named)) n' same

  mutual
    unfolding Gives GivesParts GivesPlainly TakesFit types_taken Stays Compares evaluate parts_of acts_in

    pub copies_same : (e : TypedTree) (want : ℕ) → Gives h.typing want e → is_owning h.typing.table want ≡ false → IsNamed h.typing.table want → TakesFit h.typing e
        → (before on : List (List machine.Word)) → Supplies h.typing m (types_taken h.typing e) before on → Compares h.typing e → AllowsAll facts (acts (acts_in h.typing e))
        → (n' : Now) → SameNow h.typing (at before) n' → SameTo h.typing (evaluate h AsValue e (at before)) (evaluate h AsValue e n')
    copies_same (Call p n actuals) want gives none named fit before on takes compares allowed n' same = (
      ap (λ z. get_or z 0 []) same.1,
      (same.0, ap (drop 1) same.1, same.2),
    )
    copies_same (Parens e) want gives none named fit before on takes compares allowed n' same = copies_same e want gives none named fit before on takes compares allowed n' same
    copies_same (Aggregate t es) want (fits, made, count, gives) none named fit before on takes compares allowed n' same =
        parts_copied_same es t 0 gives (unowned h.typing own_law t want fits none) fit (omega (arith, count)) made before on takes compares allowed n' same
    copies_same (Alike t e) want (fits, array, plain, gives) none named fit before on takes compares allowed n' same =
        let el : ℕ = element_type h.typing.table t in
        let owns : is_owning h.typing.table el ≡ false =
        element_owns (is_owning h.typing.table) (shape_of h.typing.table t) array (sym (own_law t) ∙ unowned h.typing own_law t want fits none) in
        let repeats : List machine.Word → Now → Evaluated (List machine.Word) = (λ ws n. Done (machine.repeated (element_count h.typing.table t) ws) n) in
        simply h.typing (evaluate h AsValue e (at before)) (evaluate h AsValue e n') (λ ws n. followed_by (checked h el ws n) repeats) (λ ws n. followed_by (checked h el ws n) repeats)
        (copies_same e el gives owns (parts_named.element t) fit before on takes compares allowed n' same)
        (λ ws n n'' now. then_checked el ws n n'' repeats now (refl, now))
    copies_same (New t e) want (d, constant, by_name, is, fits, gives) none named fit before on takes compares allowed n' same =
        absurd (no_cell h.typing own_law want d constant by_name is named none)
    copies_same (More e rest) want gives none named fit before on takes compares allowed n' same = absurd gives
    copies_same e want gives none named fit before on takes compares allowed n' same =
        plainly e want gives none named tt before on (takes_supplied h.typing settled m e before on fit takes) compares allowed n' same

    parts_copied_same : (es : TypedTree) (t i : ℕ) → GivesParts h.typing t i es → is_owning h.typing.table t ≡ false → TakesFit h.typing es
        → i + tree_count es ≡ field_count (shape_of h.typing.table t) → is_record (shape_of h.typing.table t) || is_array (shape_of h.typing.table t) ≡ true
        → (before on : List (List machine.Word)) → Supplies h.typing m (types_taken h.typing es) before on → Compares h.typing es → AllowsAll facts (acts (acts_in h.typing es))
        → (n' : Now) → SameNow h.typing (at before) n' → SameTo h.typing (parts_of h t i es (at before)) (parts_of h t i es n')
    parts_copied_same (More e rest) t i gives none fit count made before on takes compares allowed n' same =
        let sh : Shape = shape_of h.typing.table t in
        let u : ℕ = part_type sh i in
        let lt : i < field_count sh = omega (arith, count) in
        let owns = part_owns (is_owning h.typing.table) sh i lt made (sym (own_law t) ∙ none) in
        let named = part_named h.typing.table parts_named t i sh refl made in
        let two = supplies_both h.typing m (types_taken h.typing e) (types_taken h.typing rest) before on takes in
        let each = allows_both facts (acts (acts_in h.typing e)) (acts (acts_in h.typing rest)) (subst (AllowsAll facts) (acts_append (acts_in h.typing e) (acts_in h.typing rest)) allowed) in
        let still : after (acts (acts_in h.typing e)) facts ≡ facts = reads_keep (acts_in h.typing e) (copies_read h.typing own_law parts_named e u gives.0 owns named) facts in
        let next : List machine.Word → Now → Evaluated (List machine.Word) = (λ ws now. followed_by (parts_of h t (suc i) rest now) (λ more now. Done (ws ++ more) now)) in
        then_same h.typing (λ y. Quiet (at two.0) (Fits u) y) (evaluate h AsValue e (at before)) (evaluate h AsValue e n') (λ ws now. followed_by (checked h u ws now) next) (λ ws now. followed_by (checked h u ws now) next)
        (copy_quiet h sees seeing settled hands leaks m [] other facts v ready.kept ready.viewed ready.holds alone live index_law own_law parts_named e u gives.0 owns named fit.0 before two.0 two.1 each.0).0
        (copies_same e u gives.0 owns named fit.0 before two.0 two.1 compares.0 each.0 n' same)
        (λ ws n n'' q now. subst (λ z. SameTo h.typing (followed_by (checked h u ws z) next) (followed_by (checked h u ws n'') next)) (sym q.0)
        (then_checked u ws (at two.0) n'' next (subst (λ z. SameNow h.typing z n'') q.0 now)
        (simply h.typing (parts_of h t (suc i) rest (at two.0)) (parts_of h t (suc i) rest n'') (λ more now. Done (ws ++ more) now) (λ more now. Done (ws ++ more) now)
        (parts_copied_same rest t (suc i) gives.1 none fit.1 (omega (arith, count)) made two.0 on two.2 compares.1 (subst (λ z. AllowsAll z (acts (acts_in h.typing rest))) still each.1) n''
        (subst (λ z. SameNow h.typing z n'') q.0 now))
        (λ more k k' last. (refl, last)))))
    parts_copied_same NoMore t i gives none fit count made before on takes compares allowed n' same = (refl, same)
    parts_copied_same es t i gives none fit count made before on takes compares allowed n' same = absurd gives
