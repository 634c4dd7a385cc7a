-- An expression that takes the values that wait for its calls, of any types, gives the same in memories that agree.
use Rattle.std.proofs.Common.{◌≡◌, refl, sym, ap, ◌∙◌, subst, ℕ, suc, true, ◌||◌, List, [], ◌∷◌, ◌++◌, drop, get_or, append-nil, append_assoc, Bool}
use Rattle.machine.specs.place_names.declared.fact.Fact.{Fact}
use Rattle.machine.specs.type_definitions.declared.table.Shape.{Shape}
use Rattle.machine.specs.type_definitions.Types.{shape_of}
use Rattle.machine.specs.typed_tree.Trees.{TypedTree, Call, Parens, Aggregate, Alike, New, NoMore, More}
use Rattle.machine.specs.flow_paths.Acts.{acts_in}
use Rattle.machine.specs.Words as machine
use Rattle.machine.specs.Typed.{is_record, is_array}
use Rattle.machine.specs.Memory.{Memory}
use Rattle.machine.specs.Evaluate.{Here, Now, AsValue, part_type, parts_of, Evaluated, Done, followed_by, evaluate, initial, checked}
use Rattle.machine.specs.States.{Waiting, Leak}
use Rattle.soundness.specs.OwnedWays.Ways.{Way, after, AllowsAll}
use Rattle.soundness.specs.PartOffsets.Parts.{IsSettled}
use Rattle.soundness.specs.Seen.{home, IsNear}
use Rattle.soundness.specs.Typed.{OwnsByShape}
use Rattle.soundness.specs.TypedLaws.Needed.{Gives, GivesParts, GivesFirst, IndexLaw}
use Rattle.soundness.proofs.Scalars.{allows_both, acts, acts_append}
use Rattle.soundness.proofs.Taking.{Takes}
use Rattle.soundness.proofs.Evaluated.{regrouped}
use Rattle.soundness.proofs.Lasting.{keeps}
use Rattle.soundness.specs.OwnedLoans.Views.{Around, Views}
use Rattle.soundness.specs.ViewedSoundness.Holds.{is_fixed, IsNamed, PartsAreNamed, AllKeep, Seeing}
use Rattle.soundness.specs.ViewedSoundness.Taken.{GivesPlainly, types_taken, AreScalarTypes, TakesFit, AreOfTypes}
use Rattle.soundness.proofs.ViewedSoundness.Evaluated.{keep_both, matches_named, part_named}
use Rattle.soundness.proofs.ViewedSoundness.Hands.{blanks, first_words, first_both}
use Rattle.soundness.proofs.ViewedSoundness.Fed.{types_count, split_values, takes_values, fed}
use Rattle.viewed_steps.proofs.Views.{AreAccess}
use Rattle.recycled_runs.specs.ViewedFacts.NullPlaces.Compares.{Compares}
use Rattle.recycled_runs.proofs.ViewedFacts.NullPlaces.Only.{OnlyOwners}
use Rattle.recycled_runs.proofs.ViewedFacts.NullPlaces.Walks.{SameNow, SameTo, then_same, simply}
use Rattle.recycled_runs.proofs.ViewedFacts.NullPlaces.Laws.{Premises, Values, GivenBy, checked_by}
use Rattle.recycled_runs.proofs.ViewedFacts.NullPlaces.Evaluated.{checked_same, allocated_same, value_on}
use Rattle.recycled_runs.proofs.ViewedFacts.ViewedNulls.Viewed.{viewed_premises, viewed_values, IsReadyIn, given_by}

module _ (h : Here) (sees : ℕ → Bool) (seeing : Seeing h.typing sees) (settled : IsSettled h.typing.table) (leaks : List Leak) (other : Around (home h.typing h.frame))
    (alone : (w : Way) → IsNear h.frame w → other.gone w → ⊥) (in_formals : AreAccess h.typing) (index_law : IndexLaw)
    (own_law : OwnsByShape h.typing.table) (v : Views) (parts_named : PartsAreNamed h.typing.table) where
  abbrev asks : Premises h
  asks = viewed_premises h sees parts_named

  abbrev ReadyIn : Memory → List Waiting → List Fact → Type 0
  ReadyIn m hands facts = IsReadyIn h sees seeing settled leaks other alone in_formals index_law own_law v parts_named m hands facts

  laws : Values h asks ReadyIn
  laws = viewed_values h sees seeing settled leaks other alone in_formals index_law own_law v parts_named

  abbrev GivenHere : List (List machine.Word) → ℕ → List Waiting → List Fact → Evaluated (List machine.Word) → Type 0
  GivenHere mid want hands facts x = GivenBy h ReadyIn mid want hands facts x

  -- what the expression comes to
  fed_given : (e : TypedTree) (want : ℕ) → Gives h.typing want e → TakesFit h.typing e → (front : List Waiting) → AreOfTypes h.typing (types_taken h.typing e) front
      → (K below : List Waiting) (on : List (List machine.Word)) (m : Memory) (facts : List Fact)
      → ReadyIn m (K ++ (front ++ below)) facts → AllowsAll facts (acts (acts_in h.typing e)) → IsNamed h.typing.table want → AllKeep (is_fixed h.typing sees) (acts (acts_in h.typing e))
      → GivenHere on want (K ++ (blanks front ++ below)) (after (acts (acts_in h.typing e)) facts) (evaluate h AsValue e (record { memory = m; waits = first_words front on }))
  fed_given e want gives takes front fit K below on m facts ready allowed own keep =
      given_by h sees seeing settled leaks other alone in_formals index_law own_law v parts_named on want (K ++ (blanks front ++ below)) (after (acts (acts_in h.typing e)) facts)
      (evaluate h AsValue e (record { memory = m; waits = first_words front on }))
      (fed h sees seeing settled leaks [] other alone (keeps h.typing settled own_law) index_law own_law v parts_named e want gives takes front fit K below on m facts ready allowed own keep)

  -- what takes scalar values alone
  plainly_same : (e : TypedTree) (want : ℕ) → Gives h.typing want e → GivesPlainly h.typing e → AreScalarTypes h.typing (types_taken h.typing e) → Compares h.typing e
      → (front : List Waiting) → AreOfTypes h.typing (types_taken h.typing e) front → (K below : List Waiting) (on : List (List machine.Word)) (m : Memory) (facts : List Fact)
      → ReadyIn m (K ++ (front ++ below)) facts → AllowsAll facts (acts (acts_in h.typing e)) → IsNamed h.typing.table want → AllKeep (is_fixed h.typing sees) (acts (acts_in h.typing e))
      → OnlyOwners h.typing m → (n' : Now) → SameNow h.typing (record { memory = m; waits = first_words front on }) n'
      → SameTo h.typing (evaluate h AsValue e (record { memory = m; waits = first_words front on })) (evaluate h AsValue e n')
  plainly_same e want gives plain scalar compares front fit K below on m facts ready allowed own keep only n' same =
      value_on h settled own_law asks ReadyIn laws e want gives tt plain (first_words front on) on
      (subst (λ k. Takes k (first_words front on) on) (types_count h.typing e) (takes_values h.typing settled (types_taken h.typing e) front fit scalar on))
      compares m (K ++ (front ++ below)) facts ready allowed only own keep n' same

  mutual
    unfolding Gives GivesParts GivesFirst GivesPlainly Compares evaluate initial parts_of acts_in types_taken TakesFit

    pub fed_same : (e : TypedTree) (want : ℕ) → Gives h.typing want e → TakesFit h.typing e → Compares h.typing e
        → (front : List Waiting) → AreOfTypes h.typing (types_taken h.typing e) front → (K below : List Waiting) (on : List (List machine.Word)) (m : Memory) (facts : List Fact)
        → ReadyIn m (K ++ (front ++ below)) facts → AllowsAll facts (acts (acts_in h.typing e)) → IsNamed h.typing.table want → AllKeep (is_fixed h.typing sees) (acts (acts_in h.typing e))
        → OnlyOwners h.typing m → (n' : Now) → SameNow h.typing (record { memory = m; waits = first_words front on }) n'
        → SameTo h.typing (evaluate h AsValue e (record { memory = m; waits = first_words front on })) (evaluate h AsValue e n')
    fed_same (Call p sub actuals) want gives takes compares front fit K below on m facts ready allowed own keep only n' same = (
      ap (λ z. get_or z 0 []) same.1,
      (same.0, ap (drop 1) same.1, same.2),
    )
    fed_same (Parens e) want gives takes compares front fit K below on m facts ready allowed own keep only n' same =
        fed_same e want gives takes compares front fit K below on m facts ready allowed own keep only n' same
    fed_same (New t NoMore) want gives takes compares front fit K below on m facts ready allowed own keep only n' same =
        plainly_same (New t NoMore) want gives tt tt compares front fit K below on m facts ready allowed own keep only n' same
    fed_same (New t (More e more)) want (d, c, n, is, fits, (none, gives)) takes compares front fit K below on m facts ready allowed own keep only n' same =
        let now : Now = record { memory = m; waits = first_words front on } in
        let acts_same : acts_in h.typing e ++ acts_in h.typing more ≡ acts_in h.typing e = ap (λ z. acts_in h.typing e ++ acts_in h.typing z) none ∙ append-nil (acts_in h.typing e) in
        let types_same : types_taken h.typing more ++ types_taken h.typing e ≡ types_taken h.typing e = ap (λ z. types_taken h.typing z ++ types_taken h.typing e) none in
        allocated_same h settled own_law asks ReadyIn laws t (followed_by (evaluate h AsValue e now) (checked h t)) (followed_by (evaluate h AsValue e n') (checked h t))
        (checked_same h settled own_law asks ReadyIn laws t (evaluate h AsValue e now) (evaluate h AsValue e n')
        (fed_same e t gives takes.0 compares.0 front (subst (λ z. AreOfTypes h.typing z front) types_same fit) K below on m facts ready
        (subst (λ z. AllowsAll facts (acts z)) acts_same allowed)
        (matches_named h.typing.table d t fits (parts_named.designated want d c n is)) (subst (λ z. AllKeep (is_fixed h.typing sees) (acts z)) acts_same keep) only n' same))
    fed_same (New t w) want (d, c, n, is, fits, none) takes compares front fit K below on m facts ready allowed own keep only n' same = absurd none
    fed_same (Aggregate t es) want (fits, made, count, gives) takes compares front fit K below on m facts ready allowed own keep only n' same =
        parts_fed_same es t 0 gives takes compares front fit made K below on m facts ready allowed keep only n' same
    fed_same (Alike t e) want (fits, array, plain, gives) takes compares front fit K below on m facts ready allowed own keep only n' same =
        let now : Now = record { memory = m; waits = first_words front on } in
        let el : ℕ = machine.element_type h.typing.table t in
        let repeats : List machine.Word → Now → Evaluated (List machine.Word) = (λ ws n. Done (machine.repeated (machine.element_count h.typing.table t) ws) n) in
        subst (λ z. SameTo h.typing z (evaluate h AsValue (Alike t e) n')) (regrouped (evaluate h AsValue e now) (checked h el) repeats)
        (subst (SameTo h.typing (followed_by (followed_by (evaluate h AsValue e now) (checked h el)) repeats)) (regrouped (evaluate h AsValue e n') (checked h el) repeats)
        (simply h.typing (followed_by (evaluate h AsValue e now) (checked h el)) (followed_by (evaluate h AsValue e n') (checked h el)) repeats repeats
        (checked_same h settled own_law asks ReadyIn laws el (evaluate h AsValue e now) (evaluate h AsValue e n')
        (fed_same e el gives takes compares front fit K below on m facts ready allowed (parts_named.element t) keep only n' same))
        (λ ws n n'' last. (refl, last))))
    fed_same (More e more) want gives takes compares front fit K below on m facts ready allowed own keep only n' same = absurd gives
    fed_same e want gives takes compares front fit K below on m facts ready allowed own keep only n' same =
        plainly_same e want gives tt takes compares front fit K below on m facts ready allowed own keep only n' same

    -- the parts of an aggregate from the i-th on
    parts_fed_same : (es : TypedTree) (t i : ℕ) → GivesParts h.typing t i es → TakesFit h.typing es → Compares h.typing es
        → (front : List Waiting) → AreOfTypes h.typing (types_taken h.typing es) front
        → is_record (shape_of h.typing.table t) || is_array (shape_of h.typing.table t) ≡ true → (K below : List Waiting) (on : List (List machine.Word)) (m : Memory) (facts : List Fact)
        → ReadyIn m (K ++ (front ++ below)) facts → AllowsAll facts (acts (acts_in h.typing es)) → AllKeep (is_fixed h.typing sees) (acts (acts_in h.typing es))
        → OnlyOwners h.typing m → (n' : Now) → SameNow h.typing (record { memory = m; waits = first_words front on }) n'
        → SameTo h.typing (parts_of h t i es (record { memory = m; waits = first_words front on })) (parts_of h t i es n')
    parts_fed_same (More e more) t i gives takes compares front fit made K below on m facts ready allowed keep only n' same =
        let two = split_values h.typing (types_taken h.typing more) (types_taken h.typing e) front fit in
        let same_first : SameNow h.typing (record { memory = m; waits = first_words two.1 (first_words two.0 on) }) n' =
        subst (λ z. SameNow h.typing (record { memory = m; waits = z }) n') (words_both two.0 two.1 two.2) same in
        subst (λ z. SameTo h.typing (parts_of h t i (More e more) (record { memory = m; waits = z })) (parts_of h t i (More e more) n')) (sym (words_both two.0 two.1 two.2))
        (both two.0 two.1
        (fed_given e u gives.0 takes.0 two.1 two.4 (K ++ two.0) below (first_words two.0 on) m facts (start two.0 two.1 two.2) each.0 named_part names.0)
        (fed_same e u gives.0 takes.0 compares.0 two.1 two.4 (K ++ two.0) below (first_words two.0 on) m facts (start two.0 two.1 two.2) each.0 named_part names.0 only n' same_first)
        (λ w n k well still. parts_fed_same more t (suc i) gives.1 takes.1 compares.1 two.0 two.3 made (record { of = u; words = w } ∷ K) (blanks two.1 ++ below) on n.memory between well
        each.1 names.1 still.2 k still))
      where
        sh : Shape
        sh = shape_of h.typing.table t

        u : ℕ
        u = part_type sh i

        named_part : IsNamed h.typing.table u
        named_part = part_named h.typing.table parts_named t i sh refl made

        each : AllowsAll facts (acts (acts_in h.typing e)) × AllowsAll (after (acts (acts_in h.typing e)) facts) (acts (acts_in h.typing more))
        each = allows_both facts (acts (acts_in h.typing e)) (acts (acts_in h.typing more)) (subst (AllowsAll facts) (acts_append (acts_in h.typing e) (acts_in h.typing more)) allowed)

        names : AllKeep (is_fixed h.typing sees) (acts (acts_in h.typing e)) × AllKeep (is_fixed h.typing sees) (acts (acts_in h.typing more))
        names = keep_both (is_fixed h.typing sees) (acts (acts_in h.typing e)) (acts (acts_in h.typing more))
            (subst (AllKeep (is_fixed h.typing sees)) (acts_append (acts_in h.typing e) (acts_in h.typing more)) keep)

        between : List Fact
        between = after (acts (acts_in h.typing e)) facts

        next : List machine.Word → Now → Evaluated (List machine.Word)
        next w k = followed_by (parts_of h t (suc i) more k) (λ others k. Done (w ++ others) k)

        words_both : (later first : List Waiting) → front ≡ later ++ first → first_words front on ≡ first_words first (first_words later on)
        words_both later first split = ap (λ z. first_words z on) split ∙ first_both later first on

        start : (later first : List Waiting) → front ≡ later ++ first → ReadyIn m ((K ++ later) ++ (first ++ below)) facts
        start later first split =
            subst (λ z. ReadyIn m z facts)
            (ap (λ z. K ++ (z ++ below)) split ∙ ap (λ z. K ++ z) (append_assoc later first below) ∙ sym (append_assoc K later (first ++ below))) ready

        both : (later first : List Waiting)
            → GivenHere (first_words later on) u ((K ++ later) ++ (blanks first ++ below)) between
            (evaluate h AsValue e (record { memory = m; waits = first_words first (first_words later on) }))
            → SameTo h.typing (evaluate h AsValue e (record { memory = m; waits = first_words first (first_words later on) })) (evaluate h AsValue e n')
            → ((w : List machine.Word) (n k : Now) → ReadyIn n.memory (record { of = u; words = w } ∷ (K ++ (later ++ (blanks first ++ below)))) between
            → SameNow h.typing (record { memory = n.memory; waits = first_words later on }) k
            → SameTo h.typing (parts_of h t (suc i) more (record { memory = n.memory; waits = first_words later on })) (parts_of h t (suc i) more k))
            → SameTo h.typing (parts_of h t i (More e more) (record { memory = m; waits = first_words first (first_words later on) })) (parts_of h t i (More e more) n')
        both later first given inner others =
            subst (λ z. SameTo h.typing z (followed_by (evaluate h AsValue e n') (λ w k. followed_by (checked h u w k) next))) (regrouped (evaluate h AsValue e now) (checked h u) next)
            (subst (SameTo h.typing (followed_by (followed_by (evaluate h AsValue e now) (checked h u)) next)) (regrouped (evaluate h AsValue e n') (checked h u) next)
            (then_same h.typing (GivenHere mid u hands between) (followed_by (evaluate h AsValue e now) (checked h u)) (followed_by (evaluate h AsValue e n') (checked h u)) next next
            (checked_by h ReadyIn mid u u hands between (evaluate h AsValue e now) given)
            (checked_same h settled own_law asks ReadyIn laws u (evaluate h AsValue e now) (evaluate h AsValue e n') inner)
            (λ w n k there still. simply h.typing (parts_of h t (suc i) more n) (parts_of h t (suc i) more k) (λ others_there k. Done (w ++ others_there) k) (λ others_there k. Done (w ++ others_there) k)
            (subst (λ z. SameNow h.typing (record { memory = n.memory; waits = z }) k
            → SameTo h.typing (parts_of h t (suc i) more (record { memory = n.memory; waits = z })) (parts_of h t (suc i) more k)) (sym there.2)
            (λ still_so. others w n k (subst (λ z. ReadyIn n.memory (record { of = u; words = w } ∷ z) between) (append_assoc K later (blanks first ++ below)) there.0) still_so) still)
            (λ others_there a b last. (refl, last)))))
          where
            mid : List (List machine.Word)
            mid = first_words later on

            hands : List Waiting
            hands = (K ++ later) ++ (blanks first ++ below)

            now : Now
            now = record { memory = m; waits = first_words first (first_words later on) }
    parts_fed_same NoMore t i gives takes compares front fit made K below on m facts ready allowed keep only n' same = (refl, same)
    parts_fed_same es t i gives takes compares front fit made K below on m facts ready allowed keep only n' same = absurd gives
