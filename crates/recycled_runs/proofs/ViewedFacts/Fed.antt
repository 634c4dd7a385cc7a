-- Facts without an element stay exact where an expression takes the values that wait for its calls, of any types.
use Rattle.std.proofs.Common.{◌≡◌, refl, sym, ap, ◌∙◌, subst, ℕ, suc, true, ◌||◌, List, ◌∷◌, ◌++◌, append-nil, append_assoc, Bool}
use Rattle.machine.specs.place_names.declared.fact.Fact.{Fact}
use Rattle.machine.specs.type_definitions.declared.table.Shape.{Shape}
use Rattle.machine.specs.type_definitions.Types.{shape_of}
use Rattle.machine.specs.typed_tree.Trees.{TypedTree, Call, Parens, Aggregate, Alike, New, NoMore, More}
use Rattle.machine.specs.flow_paths.Acts.{acts_in}
use Rattle.machine.specs.Words as machine
use Rattle.machine.specs.Typed.{is_record, is_array}
use Rattle.machine.specs.Memory.{Memory}
use Rattle.machine.specs.Evaluate.{Here, Now, AsValue, part_type, parts_of, Evaluated, Done, followed_by, evaluate, initial, checked, allocated}
use Rattle.machine.specs.States.{Waiting, Leak}
use Rattle.soundness.specs.OwnedWays.Ways.{Way, after, AllowsAll}
use Rattle.soundness.specs.PartOffsets.Parts.{IsSettled}
use Rattle.soundness.specs.Seen.{home, IsNear}
use Rattle.soundness.specs.Typed.{OwnsByShape}
use Rattle.soundness.specs.TypedLaws.Needed.{Gives, GivesParts, GivesFirst, IndexLaw}
use Rattle.soundness.proofs.Scalars.{after_append, allows_both, acts, acts_append}
use Rattle.soundness.proofs.Taking.{Takes}
use Rattle.soundness.proofs.Evaluated.{Keeps, regrouped}
use Rattle.soundness.specs.OwnedLoans.Views.{Around, Views}
use Rattle.soundness.specs.ViewedSoundness.Holds.{is_fixed, IsNamed, PartsAreNamed, AllKeep, Seeing}
use Rattle.soundness.specs.ViewedSoundness.Taken.{GivesPlainly, types_taken, AreScalarTypes, TakesFit, AreOfTypes}
use Rattle.soundness.proofs.ViewedSoundness.Evaluated.{keep_both, matches_named, Ready, GivenOn, checked_on, part_named}
use Rattle.soundness.proofs.ViewedSoundness.Hands.{blanks, first_words, first_both}
use Rattle.soundness.proofs.ViewedSoundness.Fed.{types_count, split_values, takes_values, fed}
use Rattle.recycled_runs.specs.ViewedFacts.Exact.{IsExact}
use Rattle.recycled_runs.proofs.ViewedFacts.Evaluated.{ExactTo, checked_exact, done_exact, allocated_exact, then_parts, exact_on}
use Rattle.recycled_runs.proofs.ViewedFacts.Steps.{IsAway}

module _ (h : Here) (sees : ℕ → Bool) (seeing : Seeing h.typing sees) (settled : IsSettled h.typing.table) (leaks : List Leak) (waits : List (List machine.Word)) (other : Around (home h.typing h.frame))
    (alone : (w : Way) → IsNear h.frame w → other.gone w → ⊥) (keeps : Keeps h.typing)
    (index_law : IndexLaw) (own_law : OwnsByShape h.typing.table)
    (v : Views) (parts_named : PartsAreNamed h.typing.table)
    (elsewhere : Way → Type 0) (away : (w : Way) → elsewhere w → IsAway h.typing h.frame other w) where
  abbrev ReadyIn : Memory → List Waiting → List Fact → Type 0
  ReadyIn m hands facts = Ready h sees seeing settled leaks waits other alone keeps index_law own_law v parts_named m hands facts

  abbrev Exact : Memory → List Fact → Type 0
  Exact m facts = IsExact h.typing (home h.typing h.frame) v elsewhere m facts

  abbrev ExactHere : List Fact → Evaluated (List machine.Word) → Type 0
  ExactHere facts x = ExactTo h sees seeing settled leaks waits other alone keeps index_law own_law v parts_named elsewhere away facts x

  -- what takes scalar values alone
  plainly_exact : (e : TypedTree) (want : ℕ) → Gives h.typing want e → GivesPlainly h.typing e → AreScalarTypes h.typing (types_taken h.typing e)
      → (front : List Waiting) → AreOfTypes h.typing (types_taken h.typing e) front → (K below : List Waiting) (on : List (List machine.Word)) (m : Memory) (facts : List Fact)
      → ReadyIn m (K ++ (front ++ below)) facts → AllowsAll facts (acts (acts_in h.typing e)) → IsNamed h.typing.table want → AllKeep (is_fixed h.typing sees) (acts (acts_in h.typing e))
      → Exact m facts → ExactHere (after (acts (acts_in h.typing e)) facts) (evaluate h AsValue e (record { memory = m; waits = first_words front on }))
  plainly_exact e want gives plain scalar front fit K below on m facts ready allowed own keep exact =
      exact_on h sees seeing settled leaks waits other alone keeps index_law own_law v parts_named elsewhere away e want gives plain (first_words front on) on
      (subst (λ k. Takes k (first_words front on) on) (types_count h.typing e) (takes_values h.typing settled (types_taken h.typing e) front fit scalar on))
      m (K ++ (front ++ below)) facts ready allowed own keep exact

  mutual
    unfolding Gives GivesParts GivesFirst GivesPlainly evaluate initial parts_of acts_in types_taken TakesFit

    pub fed_exact : (e : TypedTree) (want : ℕ) → Gives h.typing want e → TakesFit h.typing e → (front : List Waiting) → AreOfTypes h.typing (types_taken h.typing e) front
        → (K below : List Waiting) (on : List (List machine.Word)) (m : Memory) (facts : List Fact)
        → ReadyIn m (K ++ (front ++ below)) facts → AllowsAll facts (acts (acts_in h.typing e)) → IsNamed h.typing.table want → AllKeep (is_fixed h.typing sees) (acts (acts_in h.typing e))
        → Exact m facts → ExactHere (after (acts (acts_in h.typing e)) facts) (evaluate h AsValue e (record { memory = m; waits = first_words front on }))
    fed_exact (Call p sub actuals) want gives takes front fit K below on m facts ready allowed own keep exact = exact
    fed_exact (Parens e) want gives takes front fit K below on m facts ready allowed own keep exact = fed_exact e want gives takes front fit K below on m facts ready allowed own keep exact
    fed_exact (New t NoMore) want gives takes front fit K below on m facts ready allowed own keep exact =
        plainly_exact (New t NoMore) want gives tt tt front fit K below on m facts ready allowed own keep exact
    fed_exact (New t (More e more)) want (d, c, n, is, fits, (none, gives)) takes front fit K below on m facts ready allowed own keep exact =
        let now : Now = record { memory = m; waits = first_words front on } in
        let acts_same : acts_in h.typing e ++ acts_in h.typing more ≡ acts_in h.typing e = ap (λ z. acts_in h.typing e ++ acts_in h.typing z) none ∙ append-nil (acts_in h.typing e) in
        let types_same : types_taken h.typing more ++ types_taken h.typing e ≡ types_taken h.typing e = ap (λ z. types_taken h.typing z ++ types_taken h.typing e) none in
        let mine = subst (λ z. AreOfTypes h.typing z front) types_same fit in
        let allows = subst (λ z. AllowsAll facts (acts z)) acts_same allowed in
        let names = subst (λ z. AllKeep (is_fixed h.typing sees) (acts z)) acts_same keep in
        let named_part = matches_named h.typing.table d t fits (parts_named.designated want d c n is) in
        let behind : List Fact = after (acts (acts_in h.typing e)) facts in
        let hands : List Waiting = K ++ (blanks front ++ below) in
        let given = fed h sees seeing settled leaks waits other alone keeps index_law own_law v parts_named e t gives takes.0 front mine K below on m facts ready allows named_part names in
        let inner = fed_exact e t gives takes.0 front mine K below on m facts ready allows named_part names exact in
        subst (λ z. ExactHere (after (acts z) facts) (followed_by (followed_by (evaluate h AsValue e now) (checked h t)) (allocated t))) (sym acts_same)
        (allocated_exact h sees seeing settled leaks waits other alone keeps index_law own_law v parts_named elsewhere away on t hands behind (followed_by (evaluate h AsValue e now) (checked h t))
        (checked_on h sees seeing settled leaks waits other alone keeps index_law own_law v parts_named on t t hands behind (evaluate h AsValue e now) given)
        (checked_exact h sees seeing settled leaks waits other alone keeps index_law own_law v parts_named elsewhere away t behind (evaluate h AsValue e now) inner))
    fed_exact (New t w) want (d, c, n, is, fits, none) takes front fit K below on m facts ready allowed own keep exact = absurd none
    fed_exact (Aggregate t es) want (fits, made, count, gives) takes front fit K below on m facts ready allowed own keep exact =
        parts_fed_exact es t 0 gives takes front fit made K below on m facts ready allowed keep exact
    fed_exact (Alike t e) want (fits, array, plain, gives) takes front fit K below on m facts ready allowed own keep exact =
        let now : Now = record { memory = m; waits = first_words front on } in
        let el : ℕ = machine.element_type h.typing.table t in
        let behind : List Fact = after (acts (acts_in h.typing e)) facts in
        subst (ExactHere behind) (regrouped (evaluate h AsValue e now) (checked h el) (λ ws n. Done (machine.repeated (machine.element_count h.typing.table t) ws) n))
        (done_exact h sees seeing settled leaks waits other alone keeps index_law own_law v parts_named elsewhere away behind (followed_by (evaluate h AsValue e now) (checked h el)) (machine.repeated (machine.element_count h.typing.table t))
        (checked_exact h sees seeing settled leaks waits other alone keeps index_law own_law v parts_named elsewhere away el behind (evaluate h AsValue e now) (fed_exact e el gives takes front fit K below on m facts ready allowed (parts_named.element t) keep exact)))
    fed_exact (More e more) want gives takes front fit K below on m facts ready allowed own keep exact = absurd gives
    fed_exact e want gives takes front fit K below on m facts ready allowed own keep exact = plainly_exact e want gives tt takes front fit K below on m facts ready allowed own keep exact

    parts_fed_exact : (es : TypedTree) (t i : ℕ) → GivesParts h.typing t i es → TakesFit h.typing es → (front : List Waiting) → AreOfTypes h.typing (types_taken h.typing es) front
        → is_record (shape_of h.typing.table t) || is_array (shape_of h.typing.table t) ≡ true → (K below : List Waiting) (on : List (List machine.Word)) (m : Memory) (facts : List Fact)
        → ReadyIn m (K ++ (front ++ below)) facts → AllowsAll facts (acts (acts_in h.typing es)) → AllKeep (is_fixed h.typing sees) (acts (acts_in h.typing es)) → Exact m facts
        → ExactHere (after (acts (acts_in h.typing es)) facts) (parts_of h t i es (record { memory = m; waits = first_words front on }))
    parts_fed_exact (More e more) t i gives takes front fit made K below on m facts ready allowed keep exact =
        let two = split_values h.typing (types_taken h.typing more) (types_taken h.typing e) front fit in
        subst (λ z. ExactHere (after (acts (acts_in h.typing e ++ acts_in h.typing more)) facts) (parts_of h t i (More e more) (record { memory = m; waits = first_words z on })))
        (sym two.2)
        (both two.0 two.1
        (fed h sees seeing settled leaks waits other alone keeps index_law own_law v parts_named e u gives.0 takes.0 two.1 two.4 (K ++ two.0) below (first_words two.0 on) m facts (start two.0 two.1 two.2) each.0 named_part names.0)
        (fed_exact e u gives.0 takes.0 two.1 two.4 (K ++ two.0) below (first_words two.0 on) m facts (start two.0 two.1 two.2) each.0 named_part names.0 exact)
        (λ w n well still. parts_fed_exact more t (suc i) gives.1 takes.1 two.0 two.3 made (record { of = u; words = w } ∷ K) (blanks two.1 ++ below) on n.memory between well each.1 names.1 still))
      where
        sh : Shape
        sh = shape_of h.typing.table t

        u : ℕ
        u = part_type sh i

        named_part : IsNamed h.typing.table u
        named_part = part_named h.typing.table parts_named t i sh refl made

        each : AllowsAll facts (acts (acts_in h.typing e)) × AllowsAll (after (acts (acts_in h.typing e)) facts) (acts (acts_in h.typing more))
        each = allows_both facts (acts (acts_in h.typing e)) (acts (acts_in h.typing more)) (subst (AllowsAll facts) (acts_append (acts_in h.typing e) (acts_in h.typing more)) allowed)

        names : AllKeep (is_fixed h.typing sees) (acts (acts_in h.typing e)) × AllKeep (is_fixed h.typing sees) (acts (acts_in h.typing more))
        names = keep_both (is_fixed h.typing sees) (acts (acts_in h.typing e)) (acts (acts_in h.typing more))
            (subst (AllKeep (is_fixed h.typing sees)) (acts_append (acts_in h.typing e) (acts_in h.typing more)) keep)

        between : List Fact
        between = after (acts (acts_in h.typing e)) facts

        behind : List Fact
        behind = after (acts (acts_in h.typing more)) between

        next : List machine.Word → Now → Evaluated (List machine.Word)
        next w k = followed_by (parts_of h t (suc i) more k) (λ others k. Done (w ++ others) k)

        start : (later first : List Waiting) → front ≡ later ++ first → ReadyIn m ((K ++ later) ++ (first ++ below)) facts
        start later first split =
            subst (λ z. ReadyIn m z facts)
            (ap (λ z. K ++ (z ++ below)) split ∙ ap (λ z. K ++ z) (append_assoc later first below) ∙ sym (append_assoc K later (first ++ below))) ready

        both : (later first : List Waiting)
            → GivenOn h sees seeing settled leaks waits other alone keeps index_law own_law v parts_named (first_words later on) u ((K ++ later) ++ (blanks first ++ below)) between
            (evaluate h AsValue e (record { memory = m; waits = first_words first (first_words later on) }))
            → ExactHere between (evaluate h AsValue e (record { memory = m; waits = first_words first (first_words later on) }))
            → ((w : List machine.Word) (n : Now) → ReadyIn n.memory (record { of = u; words = w } ∷ (K ++ (later ++ (blanks first ++ below)))) between → Exact n.memory between
            → ExactHere behind (parts_of h t (suc i) more (record { memory = n.memory; waits = first_words later on })))
            → ExactHere (after (acts (acts_in h.typing e ++ acts_in h.typing more)) facts) (parts_of h t i (More e more) (record { memory = m; waits = first_words (later ++ first) on }))
        both later first given inner others =
            subst (λ z. ExactHere z (followed_by (evaluate h AsValue e now) (λ w k. followed_by (checked h u w k) next)))
            (sym (ap (λ z. after z facts) (acts_append (acts_in h.typing e) (acts_in h.typing more))
            ∙ after_append (acts (acts_in h.typing e)) (acts (acts_in h.typing more)) facts))
            (subst (ExactHere behind) (regrouped (evaluate h AsValue e now) (checked h u) next)
            (then_parts h sees seeing settled leaks waits other alone keeps index_law own_law v parts_named elsewhere away mid u hands between behind (followed_by (evaluate h AsValue e now) (checked h u)) next
            (checked_on h sees seeing settled leaks waits other alone keeps index_law own_law v parts_named mid u u hands between (evaluate h AsValue e now)
            (subst (λ z. GivenOn h sees seeing settled leaks waits other alone keeps index_law own_law v parts_named mid u hands between (evaluate h AsValue e (record { memory = m; waits = z }))) (sym (first_both later first on)) given))
            (checked_exact h sees seeing settled leaks waits other alone keeps index_law own_law v parts_named elsewhere away u between (evaluate h AsValue e now)
            (subst (λ z. ExactHere between (evaluate h AsValue e (record { memory = m; waits = z }))) (sym (first_both later first on)) inner))
            (λ w n there still. done_exact h sees seeing settled leaks waits other alone keeps index_law own_law v parts_named elsewhere away behind (parts_of h t (suc i) more n) (λ others_there. w ++ others_there)
            (subst (λ z. ExactHere behind (parts_of h t (suc i) more (record { memory = n.memory; waits = z }))) (sym there.2)
            (others w n (subst (λ z. ReadyIn n.memory (record { of = u; words = w } ∷ z) between) (append_assoc K later (blanks first ++ below)) there.0) still)))))
          where
            mid : List (List machine.Word)
            mid = first_words later on

            hands : List Waiting
            hands = (K ++ later) ++ (blanks first ++ below)

            now : Now
            now = record { memory = m; waits = first_words (later ++ first) on }
    parts_fed_exact NoMore t i gives takes front fit made K below on m facts ready allowed keep exact = exact
    parts_fed_exact es t i gives takes front fit made K below on m facts ready allowed keep exact = absurd gives
