-- Values that wait are hands below those of an expression. They go to a new hand where they are taken; those that
-- show no cell fall empty, and empty hands fall from below a value.
use Rattle.std.proofs.Common.{◌≡◌, refl, sym, ap, ◌∙◌, subst, inl, inr, ℕ, suc, ◌==◌, true, List, [], ◌∷◌, ◌++◌, length, reverse, map, arith, append_assoc, length-append, if◌then◌else◌, Bool}
use Rattle.std.proofs.lemmas.Bool.{false≢true}
use mathlib.Core.List.{reverse_aux}
use Rattle.machine.specs.place_names.declared.fact.Fact.{Fact}
use Rattle.machine.specs.type_definitions.Types.{words}
use Rattle.machine.specs.Words as machine
use Rattle.machine.specs.Memory.{Memory}
use Rattle.machine.specs.Evaluate.{Here}
use Rattle.machine.specs.Owners.{no_value, waiting_at}
use Rattle.machine.specs.States.{Waiting, Leak}
use Rattle.soundness.specs.OwnedWays.Ways.{Step, OfVariable, OfHand, Loc, OfRoot, OfCell, Inside, Way, Empty, IsSame}
use Rattle.soundness.specs.OwnedWays.Ways as ways
use Rattle.soundness.specs.PartOffsets.Parts.{IsSettled}
use Rattle.soundness.specs.Seen.{IsNear, in_hand, content, trunk, steps_in, word_in, seen, home}
use Rattle.soundness.specs.Changes.{hand}
use Rattle.soundness.specs.Typed.{OwnsByShape, Kept, Points}
use Rattle.soundness.specs.TypedLaws.Needed.{IndexLaw}
use Rattle.soundness.proofs.Around.{same_or_not}
use Rattle.soundness.proofs.Contents.{word_no}
use Rattle.soundness.proofs.Defaults.{blank_word}
use Rattle.soundness.proofs.Evaluated.{blank_hand, Keeps}
use Rattle.soundness.proofs.Keeping.{less}
use Rattle.soundness.proofs.Steps.{hand_top, hand_below, no_leaf}
use Rattle.machine.specs.type_definitions.Types.{full, is_scalar}
use Rattle.soundness.specs.OwnedLoans.Views.{Around, Views, ExcusedBy, Viewed}
use Rattle.soundness.proofs.OwnedLoans.Moves.{as_sound, same_viewed}
use Rattle.soundness.specs.ViewedSoundness.Holds.{PartsAreNamed, Seeing}
use Rattle.soundness.specs.ViewedSoundness.Taken.{AreScalarValues}
use Rattle.soundness.proofs.ViewedSoundness.Evaluated as evaluating
use Rattle.soundness.proofs.ViewedSoundness.Lifted.{lifted_sound, lifted_kept}
use Rattle.soundness.proofs.ViewedSoundness.Moments.{from_sound, hands_spared, other_hands}
use Rattle.soundness.proofs.Constructors.{is_cell_word}

-- ---- lists of hands

pub deep : (K : List Waiting) (x : Waiting) (rest : List Waiting) → waiting_at (K ++ x ∷ rest) (length rest) ≡ x
deep [] x rest = hand_top x rest
deep (y ∷ K) x rest =
    hand_below y (K ++ x ∷ rest) (length rest) (λ e. (let size = length-append K (x ∷ rest) in absurd (omega (arith, e, size)))) ∙ deep K x rest

same_length : (K : List Waiting) (x y : Waiting) (rest : List Waiting) → length (K ++ x ∷ rest) ≡ length (K ++ y ∷ rest)
same_length [] x y rest = refl
same_length (z ∷ K) x y rest = ap suc (same_length K x y rest)

elsewhere : (K : List Waiting) (x y : Waiting) (rest : List Waiting) (j : ℕ) → (j ≡ length rest → ⊥) → waiting_at (K ++ x ∷ rest) j ≡ waiting_at (K ++ y ∷ rest) j
elsewhere [] x y rest j off = hand_below x rest j off ∙ sym (hand_below y rest j off)
elsewhere (z ∷ K) x y rest j off = (λ i. if j == same_length K x y rest i then z else elsewhere K x y rest j off i)

deeper : (K : List Waiting) (x : Waiting) (rest : List Waiting) → length (K ++ x ∷ rest) ≡ length rest → ⊥
deeper K x rest e = (let size = length-append K (x ∷ rest) in omega (arith, e, size))

-- The values that wait, once they were taken.
abbrev pub blanks : List Waiting → List Waiting
blanks [] = []
blanks (x ∷ xs) = no_value ∷ blanks xs

pub blanks_both : (xs ys : List Waiting) → blanks (xs ++ ys) ≡ blanks xs ++ blanks ys
blanks_both [] ys = refl
blanks_both (x ∷ xs) ys = ap (λ z. no_value ∷ z) (blanks_both xs ys)

-- Their words, the last one first, before others.
abbrev pub first_words : List Waiting → List (List machine.Word) → List (List machine.Word)
first_words [] on = on
first_words (x ∷ xs) on = first_words xs (x.words ∷ on)

pub first_both : (xs ys : List Waiting) (on : List (List machine.Word)) → first_words (xs ++ ys) on ≡ first_words ys (first_words xs on)
first_both [] ys on = refl
first_both (x ∷ xs) ys on = first_both xs ys (x.words ∷ on)

abbrev words_of_value : Waiting → List machine.Word
words_of_value v = v.words

words_reversed : (xs ys : List Waiting) → map words_of_value (reverse_aux xs ys) ≡ first_words xs (map words_of_value ys)
words_reversed [] ys = refl
words_reversed (x ∷ xs) ys = words_reversed xs (x ∷ ys)

-- as an instruction is given them
pub words_first : (xs : List Waiting) → map words_of_value (reverse xs) ≡ first_words xs []
words_first xs = words_reversed xs []

module _ (h : Here) (sees : ℕ → Bool) (seeing : Seeing h.typing sees) (settled : IsSettled h.typing.table) (leaks : List Leak) (waits : List (List machine.Word)) (other : Around (home h.typing h.frame))
    (alone : (w : Way) → IsNear h.frame w → other.gone w → ⊥) (keeps : Keeps h.typing)
    (index_law : IndexLaw) (own_law : OwnsByShape h.typing.table)
    (v : Views) (parts_named : PartsAreNamed h.typing.table) where
  abbrev Ready : Memory → List Waiting → List Fact → Type 0
  Ready = evaluating.Ready h sees seeing settled leaks waits other alone keeps index_law own_law v parts_named

  -- the value goes to a new hand
  pub lifted : (m : Memory) (K : List Waiting) (x : Waiting) (rest : List Waiting) (facts : List Fact) → length x.words ≡ words h.typing.table x.of
      → Ready m (K ++ x ∷ rest) facts → Ready m (x ∷ (K ++ no_value ∷ rest)) facts
  lifted m K x rest facts long ready =
      let before : List Waiting = K ++ x ∷ rest in
      let a : List Waiting = record { of = x.of; words = [] } ∷ before in
      let b : List Waiting = x ∷ (K ++ no_value ∷ rest) in
      let blanked : Ready m a facts = evaluating.blank_ready h sees seeing settled leaks waits other alone keeps index_law own_law v parts_named m before facts x.of [] (λ c has. has) ready in
      let differ : length before ≡ length rest → ⊥ = deeper K x rest in
      let from : waiting_at a (length rest) ≡ x = hand_below (record { of = x.of; words = [] }) before (length rest) (λ e. differ (sym e)) ∙ deep K x rest in
      let left : waiting_at b (length rest) ≡ no_value =
      hand_below x (K ++ no_value ∷ rest) (length rest) (λ e. deeper K no_value rest (sym e)) ∙ deep K no_value rest in
      let free : waiting_at a (length before) ≡ record { of = x.of; words = [] } = hand_top (record { of = x.of; words = [] }) before in
      let to : waiting_at b (length before) ≡ x = ap (waiting_at b) (same_length K x no_value rest) ∙ hand_top x (K ++ no_value ∷ rest) in
      let others : (j : ℕ) → (j ≡ length rest → ⊥) → (j ≡ length before → ⊥) → waiting_at b j ≡ waiting_at a j =
      (λ j off top. hand_below x (K ++ no_value ∷ rest) j (λ e. top (e ∙ sym (same_length K x no_value rest))) ∙ elsewhere K no_value x rest j off
      ∙ sym (hand_below (record { of = x.of; words = [] }) before j top)) in record {
        viewed = from_sound (home h.typing h.frame) sees other v (seen h.typing m a leaks) (seen h.typing m b leaks) facts blanked.viewed
            (lifted_sound h.typing settled m leaks a b (length rest) (length before) x differ from left free to others long (home h.typing h.frame)
            (ExcusedBy (home h.typing h.frame) v other facts) []
            (hands_spared (home h.typing h.frame) sees other v (seen h.typing m a leaks) facts blanked.viewed (evaluating.spared_hand h sees seeing settled leaks waits other alone keeps index_law own_law v parts_named))
            (as_sound (home h.typing h.frame) sees other v (seen h.typing m a leaks) facts blanked.viewed))
            (other_hands h.typing m a b leaks);
        kept = lifted_kept h.typing settled m leaks a b (length rest) (length before) x differ from left free to others long blanked.kept;
        holds = ready.holds;
      }

  -- a hand that shows no cell is replaced by another one
  replaced : (m : Memory) (K : List Waiting) (y z : Waiting) (rest : List Waiting) (facts : List Fact)
      → ((p : List Step) → word_in h.typing.table (in_hand y) p ≡ Empty) → ((p : List Step) → word_in h.typing.table (in_hand z) p ≡ Empty)
      → Points h.typing m (in_hand z) → Ready m (K ++ y ∷ rest) facts → Ready m (K ++ z ∷ rest) facts
  replaced m K y z rest facts none_y none_z points_z ready = record {
    viewed = same_viewed (home h.typing h.frame) sees other v (seen h.typing m (K ++ y ∷ rest) leaks) (seen h.typing m (K ++ z ∷ rest) leaks) facts
        (record { word = λ l. by_trunk l (steps_in l); made = refl; freed = λ n. refl; leaked = λ n. refl }) ready.viewed;
    kept = record { variables = ready.kept.variables; cells = ready.kept.cells; points = points };
    holds = ready.holds;
  }
    where
      by_trunk : (l : Loc) (p : List Step)
          → word_in h.typing.table (content h.typing m (K ++ z ∷ rest) (trunk l)) p ≡ word_in h.typing.table (content h.typing m (K ++ y ∷ rest) (trunk l)) p
      by_trunk (OfRoot (OfVariable f i)) p = refl
      by_trunk (OfRoot (OfHand j)) p = elim (same_or_not j (length rest)) [
        | inr off ↦ ap (λ w. word_in h.typing.table (in_hand w) p) (elsewhere K z y rest j off)
        | inl e ↦ ap (λ w. word_in h.typing.table (in_hand w) p) (ap (waiting_at (K ++ z ∷ rest)) e ∙ deep K z rest) ∙ none_z p
            ∙ sym (ap (λ w. word_in h.typing.table (in_hand w) p) (ap (waiting_at (K ++ y ∷ rest)) e ∙ deep K y rest) ∙ none_y p)
      ]
      by_trunk (OfCell c) p = refl
      by_trunk (Inside l i) p = by_trunk l p

      in_hands : (j : ℕ) → Points h.typing m (in_hand (waiting_at (K ++ z ∷ rest) j))
      in_hands j = elim (same_or_not j (length rest)) [
        | inl e ↦ subst (λ w. Points h.typing m (in_hand w)) (sym (ap (waiting_at (K ++ z ∷ rest)) e ∙ deep K z rest)) points_z
        | inr off ↦ subst (λ w. Points h.typing m (in_hand w)) (sym (elsewhere K z y rest j off)) (ready.kept.points (hand j))
      ]

      points : (l : Loc) → Points h.typing m (content h.typing m (K ++ z ∷ rest) l)
      points (OfRoot (OfVariable f i)) = ready.kept.points (OfRoot (OfVariable f i))
      points (OfRoot (OfHand j)) = in_hands j
      points (OfCell c) = ready.kept.points (OfCell c)
      points (Inside l i) = points l

  nothing_shown : (t : ℕ) (p : List Step) → word_in h.typing.table (in_hand (record { of = t; words = [] })) p ≡ Empty
  nothing_shown t p = blank_word h.typing.table (in_hand (record { of = t; words = [] })) [] refl (λ c has. has) p

  nothing_points : (m : Memory) (t : ℕ) → Points h.typing m (in_hand (record { of = t; words = [] }))
  nothing_points m t p d c n i has is at = (let none : machine.Null ≡ machine.Cell i = at in absurd (false≢true (ap is_cell_word none)))

  -- a scalar value falls empty
  blanked : (m : Memory) (K : List Waiting) (x : Waiting) (rest : List Waiting) (facts : List Fact) → is_scalar (full h.typing.table x.of) ≡ true
      → Ready m (K ++ x ∷ rest) facts → Ready m (K ++ no_value ∷ rest) facts
  blanked m K x rest facts scalar ready =
      replaced m K x no_value rest facts (λ p. word_no h.typing.table (in_hand x) p (no_leaf h.typing.table settled x.of scalar p)) (nothing_shown no_value.of)
      (nothing_points m no_value.of) ready

  pub all_blanked : (m : Memory) (K front below : List Waiting) (facts : List Fact) → AreScalarValues h.typing front → Ready m (K ++ (front ++ below)) facts
      → Ready m (K ++ (blanks front ++ below)) facts
  all_blanked m K [] below facts scalar ready = ready
  all_blanked m K (x ∷ front) below facts scalar ready =
      subst (λ z. Ready m z facts) (append_assoc K (no_value ∷ []) (blanks front ++ below))
      (all_blanked m (K ++ no_value ∷ []) front below facts scalar.1
      (subst (λ z. Ready m z facts) (sym (append_assoc K (no_value ∷ []) (front ++ below))) (blanked m K x (front ++ below) facts scalar.0 ready)))

  -- an empty hand falls from below a value
  dropped : (m : Memory) (x : Waiting) (rest : List Waiting) (facts : List Fact) → length x.words ≡ words h.typing.table x.of
      → Ready m (x ∷ no_value ∷ rest) facts → Ready m (x ∷ rest) facts
  dropped m x rest facts long ready =
      let blank : Waiting = record { of = x.of; words = [] } in
      let a : List Waiting = x ∷ blank ∷ rest in
      let b : List Waiting = no_value ∷ x ∷ rest in
      let swapped : Ready m a facts = replaced m (x ∷ []) no_value blank rest facts (nothing_shown no_value.of) (nothing_shown x.of) (nothing_points m x.of) ready in
      let well : Viewed (home h.typing h.frame) sees other v (seen h.typing m a leaks) facts = swapped.viewed in
      let kept : Kept h.typing m a = swapped.kept in
      let differ : length rest ≡ suc (length rest) → ⊥ = (λ e. omega (arith, e)) in
      let from : waiting_at a (suc (length rest)) ≡ x = hand_top x (blank ∷ rest) in
      let left : waiting_at b (suc (length rest)) ≡ no_value = hand_top no_value (x ∷ rest) in
      let free : waiting_at a (length rest) ≡ blank = hand_below x (blank ∷ rest) (length rest) differ ∙ hand_top blank rest in
      let to : waiting_at b (length rest) ≡ x = hand_below no_value (x ∷ rest) (length rest) differ ∙ hand_top x rest in
      let others : (j : ℕ) → (j ≡ suc (length rest) → ⊥) → (j ≡ length rest → ⊥) → waiting_at b j ≡ waiting_at a j =
      (λ j off top. hand_below no_value (x ∷ rest) j off ∙ hand_below x rest j top ∙ sym (hand_below x (blank ∷ rest) j off ∙ hand_below blank rest j top)) in
      let moved : Viewed (home h.typing h.frame) sees other v (seen h.typing m b leaks) facts =
      from_sound (home h.typing h.frame) sees other v (seen h.typing m a leaks) (seen h.typing m b leaks) facts well
      (lifted_sound h.typing settled m leaks a b (suc (length rest)) (length rest) x differ from left free to others long (home h.typing h.frame)
      (ExcusedBy (home h.typing h.frame) v other facts) []
      (hands_spared (home h.typing h.frame) sees other v (seen h.typing m a leaks) facts well (evaluating.spared_hand h sees seeing settled leaks waits other alone keeps index_law own_law v parts_named))
      (as_sound (home h.typing h.frame) sees other v (seen h.typing m a leaks) facts well))
      (other_hands h.typing m a b leaks) in
      let kept_then : Kept h.typing m b =
      lifted_kept h.typing settled m leaks a b (suc (length rest)) (length rest) x differ from left free to others long kept in record {
        viewed = same_viewed (home h.typing h.frame) sees other v (seen h.typing m b leaks) (seen h.typing m (x ∷ rest) leaks) facts
            (flipped (seen h.typing m (x ∷ rest) leaks) (seen h.typing m b leaks)
            (blank_hand h.typing m leaks no_value (x ∷ rest) (λ p. blank_word h.typing.table (in_hand no_value) [] refl (λ c has. has) p))) moved;
        kept = record { variables = kept_then.variables; cells = kept_then.cells; points = less h.typing settled m no_value (x ∷ rest) kept_then.points };
        holds = ready.holds;
      }
    where
      flipped : (one two : ways.View) → IsSame one two → IsSame two one
      flipped one two e = record { word = λ l. sym (e.word l); made = sym e.made; freed = λ n. sym (e.freed n); leaked = λ n. sym (e.leaked n) }

  pub all_dropped : (m : Memory) (x : Waiting) (front rest : List Waiting) (facts : List Fact) → length x.words ≡ words h.typing.table x.of
      → Ready m (x ∷ (blanks front ++ rest)) facts → Ready m (x ∷ rest) facts
  all_dropped m x [] rest facts long ready = ready
  all_dropped m x (y ∷ front) rest facts long ready = all_dropped m x front rest facts long (dropped m x (blanks front ++ rest) facts long ready)
