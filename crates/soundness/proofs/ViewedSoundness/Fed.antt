-- An expression takes the values that wait for its calls, of any types: each is in a hand below those of the
-- expression until it is taken.
use Rattle.std.proofs.Common.{◌≡◌, refl, sym, ap, ◌∙◌, subst, inl, inr, ℕ, suc, ◌+◌, ◌<◌, Bool, true, false, ◌||◌, List, [], ◌∷◌, ◌++◌, length, drop, arith, append-nil, append_assoc, length-append, if◌then◌else◌}
use Rattle.std.specs.List.{AllByRecursion}
use Rattle.machine.specs.place_names.declared.fact.Fact.{Fact}
use Rattle.machine.specs.type_definitions.declared.table.Shape.{Shape}
use Rattle.machine.specs.type_definitions.Entries.{boolean}
use Rattle.machine.specs.type_definitions.Types.{shape_of, words, full, is_scalar}
use Rattle.machine.specs.typed_tree.Trees.{TypedTree, Name, Component as IntoComponent, Designated, Element, Call, Parens, Image, Unary, Binary, Short, IsNull, Aggregate, Alike, New, NoMore, More}
use Rattle.machine.specs.flow_paths.Objects.{Typing}
use Rattle.machine.specs.flow_paths.Names.{has_call, waiting}
use Rattle.machine.specs.flow_paths.Acts.{acts_in}
use Rattle.machine.specs.Words as machine
use Rattle.machine.specs.Memory.{Memory}
use Rattle.machine.specs.Evaluate.{Here, Now, AsValue, part_type, parts_of, Evaluated, Done, Raises, Traps, followed_by, evaluate, initial, checked, allocated}
use Rattle.machine.specs.Owners.{no_value}
use Rattle.machine.specs.States.{Waiting, Leak}
use Rattle.machine.specs.Typed.{tree_count, field_count, is_record, is_array}
use Rattle.soundness.specs.OwnedWays.Ways.{Way, after, AllowsAll}
use Rattle.soundness.specs.PartOffsets.Parts.{IsSettled}
use Rattle.soundness.specs.Seen.{IsNear, home}
use Rattle.soundness.specs.Typed.{Matches, OwnsByShape}
use Rattle.soundness.specs.TypedLaws.Needed.{Gives, GivesParts, GivesFirst, IndexLaw}
use Rattle.soundness.proofs.Evaluated.{regrouped, Keeps}
use Rattle.soundness.proofs.Filling.{nth_part, words_to, words_none, words_next, part_there, part_is, part_offset, words_whole}
use Rattle.soundness.proofs.Scalars.{after_append, allows_both, acts, acts_append}
use Rattle.soundness.proofs.Steps.{plain_shape}
use Rattle.soundness.proofs.Taking.{IsWord, Takes, takes_none}
use Rattle.soundness.proofs.Waits.{drop_none}
use Rattle.soundness.specs.OwnedLoans.Views.{Around, Views}
use Rattle.soundness.specs.ViewedSoundness.Holds.{IsNamed, PartsAreNamed, is_fixed, AllKeep, Seeing}
use Rattle.soundness.specs.ViewedSoundness.Taken.{GivesPlainly, type_given, types_taken, AreScalarTypes, TakesFit, IsOfType, AreOfTypes, AreScalarValues}
use Rattle.soundness.proofs.ViewedSoundness.Evaluated.{keep_both, matches_named, part_named}
use Rattle.soundness.proofs.ViewedSoundness.Evaluated as evaluating
use Rattle.soundness.proofs.ViewedSoundness.Hands.{blanks, blanks_both, first_words, first_both}
use Rattle.soundness.proofs.ViewedSoundness.Hands as hand

-- ---- what is taken

both_count : (xs ys : List ℕ) (m n : ℕ) → length xs ≡ m → length ys ≡ n → length (ys ++ xs) ≡ m + n
both_count xs ys m n first second = (let size : length (ys ++ xs) ≡ length ys + length xs = length-append ys xs in omega (arith, size, first, second))

-- as many as are asked for
pub types_count : (s : Typing) (e : TypedTree) → length (types_taken s e) ≡ waiting e
unfolding types_taken waiting
types_count s (Call p sub actuals) = refl
types_count s (Name p x steps t) = types_count s steps
types_count s (IntoComponent i rest) = types_count s rest
types_count s (Designated rest) = types_count s rest
types_count s (Element index low high rest) = both_count (types_taken s index) (types_taken s rest) (waiting index) (waiting rest) (types_count s index) (types_count s rest)
types_count s (Image t e) = types_count s e
types_count s (Parens e) = types_count s e
types_count s (Unary op e) = types_count s e
types_count s (Binary op a b) = both_count (types_taken s a) (types_taken s b) (waiting a) (waiting b) (types_count s a) (types_count s b)
types_count s (Short op p a q b) =
    by (has_call b) (both_count (types_taken s a) (types_taken s b) (waiting a) (waiting b) (types_count s a) (types_count s b))
  where
    by : (c : Bool) → length (types_taken s b ++ types_taken s a) ≡ waiting a + waiting b
        → length (if c then boolean ∷ [] else types_taken s b ++ types_taken s a) ≡ (if c then 1 else waiting a + waiting b)
    by true both = refl
    by false both = both
types_count s (IsNull equal e) = types_count s e
types_count s (Aggregate t parts) = types_count s parts
types_count s (Alike t e) = types_count s e
types_count s (New t v) = types_count s v
types_count s (More e rest) = both_count (types_taken s e) (types_taken s rest) (waiting e) (waiting rest) (types_count s e) (types_count s rest)
types_count s _ = refl

-- values of two lists of types
pub split_values : (s : Typing) (ts us : List ℕ) (values : List Waiting) → AreOfTypes s (ts ++ us) values
    → (xs : List Waiting) × (ys : List Waiting) × (values ≡ xs ++ ys) × AreOfTypes s ts xs × AreOfTypes s us ys
split_values s [] us values fit = ([], values, refl, tt, fit)
split_values s (t ∷ ts) us [] fit = absurd fit
split_values s (t ∷ ts) us (v ∷ values) fit =
    let more = split_values s ts us values fit.1 in (v ∷ more.0, more.1, ap (λ z. v ∷ z) more.2, (fit.0, more.3), more.4)

pub scalar_both : (s : Typing) (ts us : List ℕ) → AreScalarTypes s (ts ++ us) → AreScalarTypes s ts × AreScalarTypes s us
scalar_both s [] us scalar = (tt, scalar)
scalar_both s (t ∷ ts) us scalar = let more = scalar_both s ts us scalar.1 in ((scalar.0, more.0), more.1)

-- values of scalar types are scalar
pub scalar_values : (s : Typing) (types : List ℕ) (values : List Waiting) → AreOfTypes s types values → AreScalarTypes s types → AreScalarValues s values
scalar_values s [] [] fit scalar = tt
scalar_values s [] (v ∷ values) fit scalar = absurd fit
scalar_values s (t ∷ types) [] fit scalar = absurd fit
scalar_values s (t ∷ types) (v ∷ values) fit scalar = (
  elim fit.0.0 [ inl both ↦ both.1 | inr same ↦ ap (λ z. is_scalar (full s.table z)) (sym same) ∙ scalar.0 ],
  scalar_values s types values fit.1 scalar.1,
)

-- They are taken one after the other.
pub takes_then : (j k : ℕ) (before mid on : List (List machine.Word)) → Takes j before mid → Takes k mid on → Takes (j + k) before on
takes_then j k before mid on first more = record {
  all = first.all ++ more.all;
  is = first.is ∙ ap (λ z. first.all ++ z) more.is ∙ sym (append_assoc first.all more.all on);
  count = (let size : length (first.all ++ more.all) ≡ length first.all + length more.all = length-append first.all more.all in
      let one = first.count in let two = more.count in omega (arith, size, one, two));
  each = each_both first.all more.all first.each more.each;
}
  where
    each_both : (xs ys : List (List machine.Word)) → AllByRecursion IsWord xs → AllByRecursion IsWord ys → AllByRecursion IsWord (xs ++ ys)
    each_both [] ys h g = g
    each_both (x ∷ xs) ys h g = (h.0, each_both xs ys h.1 g)

pub takes_values : (s : Typing) → IsSettled s.table → (types : List ℕ) (values : List Waiting) → AreOfTypes s types values → AreScalarTypes s types
    → (on : List (List machine.Word)) → Takes (length types) (first_words values on) on
takes_values s settled [] [] fit scalar on = takes_none on
takes_values s settled [] (v ∷ values) fit scalar on = absurd fit
takes_values s settled (t ∷ types) [] fit scalar on = absurd fit
takes_values s settled (t ∷ types) (v ∷ values) fit scalar on =
    let one : is_scalar (full s.table v.of) ≡ true = elim fit.0.0 [ inl both ↦ both.1 | inr same ↦ ap (λ z. is_scalar (full s.table z)) (sym same) ∙ scalar.0 ] in
    let word : IsWord v.words = fit.0.1 ∙ settled.word_law v.of ∙ (plain_shape (shape_of s.table v.of) one).3 (words s.table) in
    let mine : Takes 1 (v.words ∷ on) on = record { all = v.words ∷ []; is = refl; count = refl; each = (word, tt) } in
    let all = takes_then (length types) 1 (first_words values (v.words ∷ on)) (v.words ∷ on) on
    (takes_values s settled types values fit.1 scalar.1 (v.words ∷ on)) mine in
    subst (λ k. Takes k (first_words values (v.words ∷ on)) on) (let same : length types + 1 ≡ suc (length types) = omega arith in same) all

module _ (h : Here) (sees : ℕ → Bool) (seeing : Seeing h.typing sees) (settled : IsSettled h.typing.table) (leaks : List Leak) (waits : List (List machine.Word)) (other : Around (home h.typing h.frame))
    (alone : (w : Way) → IsNear h.frame w → other.gone w → ⊥) (keeps : Keeps h.typing)
    (index_law : IndexLaw) (own_law : OwnsByShape h.typing.table)
    (v : Views) (parts_named : PartsAreNamed h.typing.table) where
  abbrev Ready : Memory → List Waiting → List Fact → Type 0
  Ready = evaluating.Ready h sees seeing settled leaks waits other alone keeps index_law own_law v parts_named

  abbrev GivenOn : List (List machine.Word) → ℕ → List Waiting → List Fact → Evaluated (List machine.Word) → Type 0
  GivenOn = evaluating.GivenOn h sees seeing settled leaks waits other alone keeps index_law own_law v parts_named

  abbrev Grows : List (List machine.Word) → ℕ → List machine.Word → List Waiting → List Fact → Evaluated (List machine.Word) → Type 0
  Grows = evaluating.Grows h sees seeing settled leaks waits other alone keeps index_law own_law v parts_named

  then_fed : (mid on : List (List machine.Word)) (u t : ℕ) (acc : List machine.Word) (above below : List Waiting) (facts facts' : List Fact) (x : Evaluated (List machine.Word))
      (f : List machine.Word → Now → Evaluated (List machine.Word)) → GivenOn mid u above facts x
      → ((ws : List machine.Word) (n : Now) → GivenOn mid u above facts (Done ws n) → Grows on t acc below facts' (f ws n))
      → Grows on t acc below facts' (followed_by x f)
  then_fed mid on u t acc above below facts facts' (Done ws n) f given next = next ws n given
  then_fed mid on u t acc above below facts facts' (Raises e n) f given next = tt
  then_fed mid on u t acc above below facts facts' (Traps e n) f none next = none

  -- the type that is taken fits, so that of the value does
  value_matches : (t want : ℕ) (w : Waiting) → Matches h.typing.table t want → IsOfType h.typing t w → Matches h.typing.table w.of want
  value_matches t want w fits (inl both, long) = inr (both.1, evaluating.matches_plain h sees seeing settled leaks waits other alone keeps index_law own_law v parts_named t want fits both.0)
  value_matches t want w fits (inr same, long) = subst (λ z. Matches h.typing.table z want) same fits

  -- what takes scalar values alone
  plainly : (e : TypedTree) (want : ℕ) → Gives h.typing want e → GivesPlainly h.typing e → AreScalarTypes h.typing (types_taken h.typing e)
      → (front : List Waiting) → AreOfTypes h.typing (types_taken h.typing e) front → (K below : List Waiting) (on : List (List machine.Word)) (m : Memory) (facts : List Fact)
      → Ready m (K ++ (front ++ below)) facts → AllowsAll facts (acts (acts_in h.typing e)) → IsNamed h.typing.table want
      → AllKeep (is_fixed h.typing sees) (acts (acts_in h.typing e))
      → GivenOn on want (K ++ (blanks front ++ below)) (after (acts (acts_in h.typing e)) facts) (evaluate h AsValue e (record { memory = m; waits = first_words front on }))
  plainly e want gives plain scalar front fit K below on m facts ready allowed own keep =
      evaluating.evaluated_on h sees seeing settled leaks waits other alone keeps index_law own_law v parts_named e want gives plain (first_words front on) on
      (subst (λ k. Takes k (first_words front on) on) (types_count h.typing e) (takes_values h.typing settled (types_taken h.typing e) front fit scalar on))
      m (K ++ (blanks front ++ below)) facts
      (hand.all_blanked h sees seeing settled leaks waits other alone keeps index_law own_law v parts_named m K front below facts (scalar_values h.typing (types_taken h.typing e) front fit scalar) ready) allowed own keep

  -- where values of a second part lie above those of a first one
  two_fronts : (K later first below : List Waiting) → K ++ ((later ++ first) ++ below) ≡ (K ++ later) ++ (first ++ below)
  two_fronts K later first below = ap (λ z. K ++ z) (append_assoc later first below) ∙ sym (append_assoc K later (first ++ below))

  then_blank : (K later first below : List Waiting) → K ++ (blanks later ++ (blanks first ++ below)) ≡ K ++ (blanks (later ++ first) ++ below)
  then_blank K later first below =
      ap (λ z. K ++ z) (sym (append_assoc (blanks later) (blanks first) below) ∙ ap (λ z. z ++ below) (sym (blanks_both later first)))

  mutual
    unfolding Gives GivesParts GivesFirst GivesPlainly evaluate initial parts_of acts_in types_taken TakesFit

    pub fed : (e : TypedTree) (want : ℕ) → Gives h.typing want e → TakesFit h.typing e → (front : List Waiting) → AreOfTypes h.typing (types_taken h.typing e) front
        → (K below : List Waiting) (on : List (List machine.Word)) (m : Memory) (facts : List Fact)
        → Ready m (K ++ (front ++ below)) facts → AllowsAll facts (acts (acts_in h.typing e)) → IsNamed h.typing.table want
        → AllKeep (is_fixed h.typing sees) (acts (acts_in h.typing e))
        → GivenOn on want (K ++ (blanks front ++ below)) (after (acts (acts_in h.typing e)) facts) (evaluate h AsValue e (record { memory = m; waits = first_words front on }))
    fed (Call p sub actuals) want gives takes [] fit K below on m facts ready allowed own keep = absurd fit
    fed (Call p sub actuals) want gives takes (w ∷ x ∷ front) fit K below on m facts ready allowed own keep = absurd fit.1
    fed (Call p sub actuals) want (t, result, fits) takes (w ∷ []) fit K below on m facts ready allowed own keep =
        let mine : IsOfType h.typing t w = subst (λ z. IsOfType h.typing z w) (ap type_given result) fit.0 in
        evaluating.retyped_given h sees seeing settled leaks waits other alone keeps index_law own_law v parts_named on w.of want (K ++ (no_value ∷ below)) facts (value_matches t want w fits mine)
        (Done w.words (record { memory = m; waits = drop 1 (w.words ∷ on) })) (hand.lifted h sees seeing settled leaks waits other alone keeps index_law own_law v parts_named m K w below facts mine.1 ready, mine.1, drop_none on)
    fed (Parens e) want gives takes front fit K below on m facts ready allowed own keep = fed e want gives takes front fit K below on m facts ready allowed own keep
    fed (New t NoMore) want gives takes front fit K below on m facts ready allowed own keep =
        plainly (New t NoMore) want gives tt tt front fit K below on m facts ready allowed own keep
    fed (New t (More e more)) want (d, c, n, is, fits, (none, gives)) takes front fit K below on m facts ready allowed own keep =
        let now : Now = record { memory = m; waits = first_words front on } in
        let acts_same : acts_in h.typing e ++ acts_in h.typing more ≡ acts_in h.typing e = ap (λ z. acts_in h.typing e ++ acts_in h.typing z) none ∙ append-nil (acts_in h.typing e) in
        let types_same : types_taken h.typing more ++ types_taken h.typing e ≡ types_taken h.typing e = ap (λ z. types_taken h.typing z ++ types_taken h.typing e) none in
        let blank : Waiting = record { of = want; words = [] } in
        let inner = fed e t gives takes.0 front (subst (λ z. AreOfTypes h.typing z front) types_same fit) (blank ∷ K) below on m facts
        (evaluating.blank_ready h sees seeing settled leaks waits other alone keeps index_law own_law v parts_named m (K ++ (front ++ below)) facts want [] (λ k h. h) ready)
        (subst (λ z. AllowsAll facts (acts z)) acts_same allowed) (matches_named h.typing.table d t fits (parts_named.designated want d c n is))
        (subst (λ z. AllKeep (is_fixed h.typing sees) (acts z)) acts_same keep) in
        subst (λ z. GivenOn on want (K ++ (blanks front ++ below)) (after (acts z) facts) (followed_by (followed_by (evaluate h AsValue e now) (checked h t)) (allocated t))) (sym acts_same)
        (evaluating.allocated_given h sees seeing settled leaks waits other alone keeps index_law own_law v parts_named on t want d c n (K ++ (blanks front ++ below)) (after (acts (acts_in h.typing e)) facts) own is fits
        (followed_by (evaluate h AsValue e now) (checked h t))
        (evaluating.checked_on h sees seeing settled leaks waits other alone keeps index_law own_law v parts_named on t t (blank ∷ (K ++ (blanks front ++ below))) (after (acts (acts_in h.typing e)) facts) (evaluate h AsValue e now) inner))
    fed (New t v) want (d, c, n, is, fits, none) takes front fit K below on m facts ready allowed own keep = absurd none
    fed (Aggregate t es) want (fits, made, count, gives) takes front fit K below on m facts ready allowed own keep =
        let now : Now = record { memory = m; waits = first_words front on } in
        evaluating.retyped_given h sees seeing settled leaks waits other alone keeps index_law own_law v parts_named on t want (K ++ (blanks front ++ below)) (after (acts (acts_in h.typing es)) facts) fits (parts_of h t 0 es now)
        (evaluating.all_grown h sees seeing settled leaks waits other alone keeps index_law own_law v parts_named on t (K ++ (blanks front ++ below)) (after (acts (acts_in h.typing es)) facts) (parts_of h t 0 es now)
        (parts_fed es t 0 gives takes front fit (let n : 0 + tree_count es ≡ field_count (shape_of h.typing.table t) = omega (arith, count) in n) made K below on m [] facts
        (sym (words_none (words h.typing.table) (shape_of h.typing.table t)))
        (evaluating.blank_ready h sees seeing settled leaks waits other alone keeps index_law own_law v parts_named m (K ++ (front ++ below)) facts t [] (λ k h. h) ready) allowed keep))
    fed (Alike t e) want (fits, array, plain, gives) takes front fit K below on m facts ready allowed own keep = elim plain [
      | inr null ↦ plainly (Alike t e) want (fits, array, inr null, gives) (subst (GivesPlainly h.typing) (sym null) tt)
          (subst (λ z. AreScalarTypes h.typing (types_taken h.typing z)) (sym null) tt) front fit K below on m facts ready allowed own keep
      | inl none ↦ (
          let now : Now = record { memory = m; waits = first_words front on } in
          let el : ℕ = machine.element_type h.typing.table t in
          let hands : List Waiting = K ++ (blanks front ++ below) in
          let facts_then : List Fact = after (acts (acts_in h.typing e)) facts in
          evaluating.retyped_given h sees seeing settled leaks waits other alone keeps index_law own_law v parts_named on t want hands facts_then fits (followed_by (evaluate h AsValue e now) (λ ws now. followed_by (checked h el ws now) (evaluating.repeats h sees seeing settled leaks waits other alone keeps index_law own_law v parts_named t)))
          (subst (GivenOn on t hands facts_then) (regrouped (evaluate h AsValue e now) (checked h el) (evaluating.repeats h sees seeing settled leaks waits other alone keeps index_law own_law v parts_named t))
          (evaluating.repeated_given h sees seeing settled leaks waits other alone keeps index_law own_law v parts_named on t hands facts_then array none (followed_by (evaluate h AsValue e now) (checked h el))
          (evaluating.checked_on h sees seeing settled leaks waits other alone keeps index_law own_law v parts_named on el el hands facts_then (evaluate h AsValue e now)
          (fed e el gives takes front fit K below on m facts ready allowed (parts_named.element t) keep)))))
    ]
    fed (More e more) want gives takes front fit K below on m facts ready allowed own keep = absurd gives
    fed e want gives takes front fit K below on m facts ready allowed own keep = plainly e want gives tt takes front fit K below on m facts ready allowed own keep

    parts_fed : (es : TypedTree) (t i : ℕ) → GivesParts h.typing t i es → TakesFit h.typing es → (front : List Waiting) → AreOfTypes h.typing (types_taken h.typing es) front
        → i + tree_count es ≡ field_count (shape_of h.typing.table t)
        → is_record (shape_of h.typing.table t) || is_array (shape_of h.typing.table t) ≡ true
        → (K below : List Waiting) (on : List (List machine.Word)) (m : Memory) (acc : List machine.Word) (facts : List Fact)
        → length acc ≡ words_to (words h.typing.table) (shape_of h.typing.table t) i
        → Ready m (record { of = t; words = acc } ∷ (K ++ (front ++ below))) facts → AllowsAll facts (acts (acts_in h.typing es))
        → AllKeep (is_fixed h.typing sees) (acts (acts_in h.typing es))
        → Grows on t acc (K ++ (blanks front ++ below)) (after (acts (acts_in h.typing es)) facts) (parts_of h t i es (record { memory = m; waits = first_words front on }))
    parts_fed (More e more) t i gives takes front fit count made K below on m acc facts fills ready allowed keep =
        let two = split_values h.typing (types_taken h.typing more) (types_taken h.typing e) front fit in
        subst (λ z. Grows on t acc (K ++ (blanks z ++ below)) (after (acts (acts_in h.typing e ++ acts_in h.typing more)) facts) (parts_of h t i (More e more) (record { memory = m; waits = first_words z on })))
        (sym two.2)
        (both two.0 two.1
        (fed e u gives.0 takes.0 two.1 two.4 (part ∷ (K ++ two.0)) below (first_words two.0 on) m facts
        (subst (λ z. Ready m (part ∷ z) facts) (two_fronts K two.0 two.1 below) (subst (λ z. Ready m (part ∷ (K ++ (z ++ below))) facts) two.2 ready))
        each.0 (part_named h.typing.table parts_named t i sh refl made) names.0)
        (λ w n long well. parts_fed more t (suc i) gives.1 takes.1 two.0 two.3 (omega (arith, count)) made K (blanks two.1 ++ below) on n.memory (acc ++ w) between long well each.1 names.1))
      where
        sh : Shape
        sh = shape_of h.typing.table t

        u : ℕ
        u = part_type sh i

        lt : i < field_count sh
        lt = omega (arith, count)

        part : Waiting
        part = record { of = t; words = acc }

        each : AllowsAll facts (acts (acts_in h.typing e)) × AllowsAll (after (acts (acts_in h.typing e)) facts) (acts (acts_in h.typing more))
        each = allows_both facts (acts (acts_in h.typing e)) (acts (acts_in h.typing more))
            (subst (AllowsAll facts) (acts_append (acts_in h.typing e) (acts_in h.typing more)) allowed)

        names : AllKeep (is_fixed h.typing sees) (acts (acts_in h.typing e)) × AllKeep (is_fixed h.typing sees) (acts (acts_in h.typing more))
        names = keep_both (is_fixed h.typing sees) (acts (acts_in h.typing e)) (acts (acts_in h.typing more))
            (subst (AllKeep (is_fixed h.typing sees)) (acts_append (acts_in h.typing e) (acts_in h.typing more)) keep)

        between : List Fact
        between = after (acts (acts_in h.typing e)) facts

        behind : List Fact
        behind = after (acts (acts_in h.typing more)) between

        next : List machine.Word → Now → Evaluated (List machine.Word)
        next w k = followed_by (parts_of h t (suc i) more k) (λ others k. Done (w ++ others) k)

        grows : (w : List machine.Word) (n : Now) (hands : List Waiting) (mid : List (List machine.Word)) → GivenOn mid u (part ∷ hands) between (Done w n)
            → (length (acc ++ w) ≡ words_to (words h.typing.table) sh (suc i)) × Ready n.memory (record { of = t; words = acc ++ w } ∷ hands) between
        grows w n hands mid given = (
          (let size : length (acc ++ w) ≡ length acc + length w = length-append acc w in let step = words_next (words h.typing.table) sh i lt in let own = given.1 in
              omega (arith, size, step, fills, own)),
          evaluating.part_joined h sees seeing settled leaks waits other alone keeps index_law own_law v parts_named n.memory hands between t u acc w (nth_part sh i) (part_there h.typing.table t sh refl i lt)
              (part_offset h.typing.table t sh refl i lt ∙ sym fills) (part_is h.typing.table t sh refl i lt) given.1 given.0,
        )

        both : (later first : List Waiting)
            → GivenOn (first_words later on) u (part ∷ ((K ++ later) ++ (blanks first ++ below))) between
            (evaluate h AsValue e (record { memory = m; waits = first_words first (first_words later on) }))
            → ((w : List machine.Word) (n : Now) → length (acc ++ w) ≡ words_to (words h.typing.table) sh (suc i)
            → Ready n.memory (record { of = t; words = acc ++ w } ∷ (K ++ (later ++ (blanks first ++ below)))) between
            → Grows on t (acc ++ w) (K ++ (blanks later ++ (blanks first ++ below))) behind (parts_of h t (suc i) more (record { memory = n.memory; waits = first_words later on })))
            → Grows on t acc (K ++ (blanks (later ++ first) ++ below)) (after (acts (acts_in h.typing e ++ acts_in h.typing more)) facts)
            (parts_of h t i (More e more) (record { memory = m; waits = first_words (later ++ first) on }))
        both later first value_there others =
            subst (λ z. Grows on t acc (K ++ (blanks (later ++ first) ++ below)) z (followed_by (evaluate h AsValue e now) (λ w k. followed_by (checked h u w k) next)))
            (sym (ap (λ z. after z facts) (acts_append (acts_in h.typing e) (acts_in h.typing more))
            ∙ after_append (acts (acts_in h.typing e)) (acts (acts_in h.typing more)) facts))
            (subst (Grows on t acc (K ++ (blanks (later ++ first) ++ below)) behind) (regrouped (evaluate h AsValue e now) (checked h u) next)
            (then_fed mid on u t acc (part ∷ (K ++ (later ++ (blanks first ++ below)))) (K ++ (blanks (later ++ first) ++ below)) between behind
            (followed_by (evaluate h AsValue e now) (checked h u)) next
            (evaluating.checked_on h sees seeing settled leaks waits other alone keeps index_law own_law v parts_named mid u u (part ∷ (K ++ (later ++ (blanks first ++ below)))) between (evaluate h AsValue e now) value_first)
            (λ w n given. evaluating.grown h sees seeing settled leaks waits other alone keeps index_law own_law v parts_named on t acc w (K ++ (blanks (later ++ first) ++ below)) behind (parts_of h t (suc i) more n)
            (subst (λ z. Grows on t (acc ++ w) (K ++ (blanks (later ++ first) ++ below)) behind (parts_of h t (suc i) more (record { memory = n.memory; waits = z }))) (sym given.2)
            (subst (λ z. Grows on t (acc ++ w) z behind (parts_of h t (suc i) more (record { memory = n.memory; waits = mid }))) (then_blank K later first below)
            (others w n (grows w n (K ++ (later ++ (blanks first ++ below))) mid given).0 (grows w n (K ++ (later ++ (blanks first ++ below))) mid given).1))))))
          where
            mid : List (List machine.Word)
            mid = first_words later on

            now : Now
            now = record { memory = m; waits = first_words (later ++ first) on }

            value_first : GivenOn mid u (part ∷ (K ++ (later ++ (blanks first ++ below)))) between (evaluate h AsValue e now)
            value_first =
                subst (λ z. GivenOn mid u (part ∷ z) between (evaluate h AsValue e now)) (append_assoc K later (blanks first ++ below))
                (subst (λ z. GivenOn mid u (part ∷ ((K ++ later) ++ (blanks first ++ below))) between (evaluate h AsValue e (record { memory = m; waits = z }))) (sym (first_both later first on))
                value_there)
    parts_fed NoMore t i gives takes [] fit count made K below on m acc facts fills ready allowed keep =
        let sh : Shape = shape_of h.typing.table t in
        let end : i ≡ field_count sh = omega (arith, count) in (
          subst (λ z. Ready m (record { of = t; words = z } ∷ (K ++ below)) facts) (sym (append-nil acc)) ready,
          ap (λ (z : List machine.Word). length z) (append-nil acc) ∙ fills ∙ ap (words_to (words h.typing.table) sh) end
              ∙ words_whole (words h.typing.table) sh made ∙ sym (settled.word_law t),
          refl,
        )
    parts_fed NoMore t i gives takes (w ∷ front) fit count made K below on m acc facts fills ready allowed keep = absurd fit
    parts_fed es t i gives takes front fit count made K below on m acc facts fills ready allowed keep = absurd gives

  -- Scalar values that are taken later wait above. Then the value alone is in hand.
  pub fed_alone : (e : TypedTree) (want : ℕ) → Gives h.typing want e → TakesFit h.typing e → (later front : List Waiting) → AreScalarValues h.typing later
      → AreOfTypes h.typing (types_taken h.typing e) front → (below : List Waiting) (on : List (List machine.Word)) (m : Memory) (facts : List Fact)
      → Ready m ((later ++ front) ++ below) facts → AllowsAll facts (acts (acts_in h.typing e)) → IsNamed h.typing.table want
      → AllKeep (is_fixed h.typing sees) (acts (acts_in h.typing e))
      → GivenOn (first_words later on) want below (after (acts (acts_in h.typing e)) facts) (evaluate h AsValue e (record { memory = m; waits = first_words (later ++ front) on }))
  fed_alone e want gives takes later front scalar fit below on m facts ready allowed own keep =
      subst (λ z. GivenOn mid want below facts_then (evaluate h AsValue e (record { memory = m; waits = z }))) (sym (first_both later front on))
      (falls (evaluate h AsValue e (record { memory = m; waits = first_words front mid }))
      (fed e want gives takes front fit later below mid m facts (subst (λ z. Ready m z facts) (append_assoc later front below) ready) allowed own keep))
    where
      mid : List (List machine.Word)
      mid = first_words later on

      facts_then : List Fact
      facts_then = after (acts (acts_in h.typing e)) facts

      falls : (x : Evaluated (List machine.Word)) → GivenOn mid want (later ++ (blanks front ++ below)) facts_then x → GivenOn mid want below facts_then x
      falls (Done w n) (well, size, same) =
          let value : Waiting = record { of = want; words = w } in (
            hand.all_dropped h sees seeing settled leaks waits other alone keeps index_law own_law v parts_named n.memory value front below facts_then size
                (hand.all_dropped h sees seeing settled leaks waits other alone keeps index_law own_law v parts_named n.memory value later (blanks front ++ below) facts_then size
                (hand.all_blanked h sees seeing settled leaks waits other alone keeps index_law own_law v parts_named n.memory (value ∷ []) later (blanks front ++ below) facts_then scalar well)),
            size,
            same,
          )
      falls (Raises k n) given = tt
      falls (Traps k n) none = none
