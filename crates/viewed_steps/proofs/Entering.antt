-- All formals of a call are declared. The places of those that aren't scalar and are copied back are gone
-- meanwhile, and have no number.
use Rattle.std.proofs.Common.{◌≡◌, refl, sym, ap, ◌∙◌, subst, ◌⊎◌, inl, inr, ℕ, suc, List, [], ◌∷◌, ◌++◌, get_or, arith, append-nil, append_assoc, Bool, true, false}
use Rattle.std.proofs.lemmas.Bool.{false≢true}
use Rattle.machine.specs.spark_base.Lists.{Has}
use Rattle.machine.specs.spark_base.declared.position.Pos.{Pos}
use Rattle.machine.specs.place_names.declared.fact.Fact.{Fact}
use Rattle.machine.specs.flow_paths.Objects.{Typing, object_at}
use Rattle.machine.specs.Words.{default}
use Rattle.machine.specs.Words as machine
use Rattle.machine.specs.Memory.{Memory, Place, no_slot, variable_slots, words_of, moved_out, declared}
use Rattle.machine.specs.Calls.{Passed, Value, From, To, with_formal, with_formals, returns_of}
use Rattle.machine.specs.States.{Waiting, Leak, Return}
use Rattle.soundness.specs.OwnedWays.Ways.{Step, OfVariable, OfHand, Loc, OfRoot, OfCell, Reaches, Owned, Way, Object, Empty, Held, Under, Past, along, base_of}
use Rattle.soundness.proofs.OwnedWays.Locations.{under_along, under_itself}
use Rattle.machine.specs.type_definitions.Types.{is_owning}
use Rattle.soundness.specs.PartOffsets.Parts.{IsSettled}
use Rattle.soundness.proofs.Contents.{word_no}
use Rattle.soundness.proofs.Lasting.{keeps}
use Rattle.soundness.specs.Seen.{content, trunk, steps_in, word_in, seen, home}
use Rattle.soundness.specs.Changes.{Checks, leaks_at}
use Rattle.soundness.specs.Typed.{OwnsByShape, Kept}
use Rattle.soundness.specs.OwnedLoans.Views.{Views, IsMovedBy}
use Rattle.soundness.proofs.OwnedLoans.Ways.{beginnings}
use Rattle.soundness.specs.ViewedSoundness.Holds.{is_view}
use Rattle.viewed_steps.specs.Taken.{Lodge, AreCarried, TakenBy, IsPassedOn, IsBare, IsApartFrom, AreTaken}
use Rattle.viewed_steps.proofs.Left.{cells_same}
use Rattle.viewed_steps.proofs.Between.{carried_same, carried_then, same_reaches, more_gone, base_along, base_under, taken_more, OwnersStand, same_stand, Begins}
use Rattle.viewed_steps.proofs.Carried.{inside_begins, inside_low, start_reached, inside_at, inside_spot, inside_owns, inside_word}
use Rattle.viewed_steps.proofs.Alike.{IsLaidIn, plain_place}
use Rattle.viewed_steps.proofs.Views.{AreOnly, AreFar, AreAccess}
use Rattle.viewed_steps.proofs.Shown.{HasCells, then_cells, taken_cells, Stands, one_stands}
use Rattle.viewed_steps.proofs.Vacated.{place_checks}
use Rattle.viewed_steps.proofs.Outs.{Out, IsUnderOne, found_in, HasStill, HaveStill, still_then}
use Rattle.viewed_steps.proofs.Entered.{IsPlainPassed, IsPlainOne, DiffersFrom, ArePassedOn, IsOpen, AreBlank, passed_base, outs_taken, stand_next, kept_next, one_held, one_carried, one_views, one_bare, one_stays, one_blank, one_still, IsShownTo, HasWords}
use Rattle.viewed_steps.proofs.Emptying.{out_stand, out_kept, out_views, out_blank, out_held, out_carried, out_bare, out_stays, out_still}
use Rattle.viewed_steps.proofs.Constructors.{is_held_word, is_value_passed}
use Rattle.soundness.proofs.Parted.{by_either}

-- what has a number owns
pub owns_there : (s : Typing) → IsSettled s.table → OwnsByShape s.table → (m : Memory) (f x : ℕ) (q : List Step) (k : ℕ)
    → word_in s.table (content s m [] (OfRoot (OfVariable f x))) q ≡ Held k → is_owning s.table (object_at s x).of ≡ true
owns_there s settled own_law m f x q k held = by_type (is_owning s.table (object_at s x).of) refl
  where
    no_number : Empty ≡ Held k → ⊥
    no_number same_word = absurd (false≢true (ap is_held_word same_word))

    by_type : (b : Bool) → is_owning s.table (object_at s x).of ≡ b → b ≡ true
    by_type true is = refl
    by_type false is =
        absurd (no_number (sym (word_no s.table (content s m [] (OfRoot (OfVariable f x))) q ((keeps s settled own_law).ownerless (object_at s x).of is q)) ∙ held))

hand_base : (h f x : ℕ) → OfRoot (OfHand h) ≡ OfRoot (OfVariable f x) → ⊥
hand_base h f x e = cc

module _ (s : Typing) (sees : ℕ → Bool) (settled : IsSettled s.table) (own_law : OwnsByShape s.table) (in_formals : AreAccess s)
    (hands : List Waiting) (depth : ℕ) (v : Views) (far : AreFar (home s depth) v depth)
    (only : AreOnly s v) (facts : List Fact) (scope : List ℕ)
    (cells : List Lodge) (begins : (c : Lodge) → Has cells c → (g : ℕ) × (y : ℕ) × (base_of c.way ≡ OfRoot (OfVariable g y)) × (g ≡ suc depth → ⊥)) where
  abbrev StandIn : (Way → Type 0) → List Leak → Memory → Type 0
  StandIn other leaks m = OwnersStand (home s depth) v facts other (seen s m hands leaks)

  abbrev Moved : Way → Type 0
  Moved = IsMovedBy (home s depth) v facts

  -- what is taken is gone
  abbrev pub taken_also : (Way → Type 0) → List Way → Way → Type 0
  taken_also other ways w = other w ⊎ TakenBy ways w

  -- what is to be emptied may be gone
  abbrev pub outs_also : (Way → Type 0) → List Out → Way → Type 0
  outs_also other outs w = other w ⊎ IsUnderOne outs w

  -- one place is gone
  abbrev pub away : (Way → Type 0) → Way → Way → Type 0
  away other to w = other w ⊎ ((p : List Step) × (w ≡ along to p))

  -- The cells of places are there, and no way that is to be taken goes before one.
  abbrev pub AreThere : List Way → List Leak → Memory → Type 0
  AreThere ways leaks m = (c : Lodge) → Has cells c → Reaches (seen s m hands leaks) c.way (OfCell c.cell) × ((to : Way) → Has ways to → Past to c.way → ⊥)

  -- Words are typed; a variable that has a number had it before, or is a formal; views keep their words, or are
  -- formals with what is passed; and what was gone stays so.
  pub record AreDeclared (formals : List ℕ) (passed : List Passed) (ways : List Way) (leaks found : List Leak) (m n : Memory) : Type 0 where
    pub typed : Kept s n hands
    pub held : (g y : ℕ) (p : List Step) (c : ℕ) → word_in s.table (content s n [] (OfRoot (OfVariable g y))) p ≡ Held c
        → (word_in s.table (content s m [] (OfRoot (OfVariable g y))) p ≡ Held c) ⊎ ((g ≡ suc depth) × Has formals y)
    pub views : (g y : ℕ) → is_view s y ≡ true
        → ((i : ℕ) → (get_or (variable_slots s g y n.variables) i no_slot).word ≡ (get_or (variable_slots s g y m.variables) i no_slot).word)
        ⊎ ((g ≡ suc depth) × (ws : List machine.Word) × IsShownTo formals passed y ws × HasWords s g y n ws)
    pub carried : AreCarried s (λ g. g ≡ suc depth → ⊥) cells [] m n
    -- ways from the variables of other frames that don't go on after a place reach what they reached
    pub stays : (w : Way) (g y : ℕ) → base_of w ≡ OfRoot (OfVariable g y) → (g ≡ suc depth → ⊥) → ((to : Way) → Has ways to → Past to w → ⊥) → (c : ℕ)
        → Reaches (seen s m hands leaks) w (OfCell c) → Reaches (seen s n hands found) w (OfCell c)

  abbrev pub Enter : (Way → Type 0) → List Leak → List Leak → List ℕ → List Passed → List Way → Memory → Memory → Type 0
  Enter other leaks found formals passed ways m n =
      AreDeclared formals passed ways leaks found m n × StandIn (taken_also other ways) found n × AreTaken s sees cells n depth v facts scope (returns_of formals passed) ways

  pub formals_of_returns : (formals : List ℕ) (passed : List Passed) (r : Return) → Has (returns_of formals passed) r → Has formals r.formal
  formals_of_returns [] passed r has = absurd has
  formals_of_returns (x ∷ formals) [] r has = absurd has
  formals_of_returns (x ∷ formals) (Value ws ∷ passed) r has = inr (formals_of_returns formals passed r has)
  formals_of_returns (x ∷ formals) (From k ∷ passed) r (inl e) = inl (ap (λ (z : Return). z.formal) e)
  formals_of_returns (x ∷ formals) (From k ∷ passed) r (inr has) = inr (formals_of_returns formals passed r has)
  formals_of_returns (x ∷ formals) (To k ∷ passed) r (inl e) = inl (ap (λ (z : Return). z.formal) e)
  formals_of_returns (x ∷ formals) (To k ∷ passed) r (inr has) = inr (formals_of_returns formals passed r has)

  plain_returns : (n : Memory) (x : ℕ) (a : Passed) (formals : List ℕ) (passed : List Passed) (ways : List Way) (before : Memory) → IsPlainOne s before cells x a
      → AreTaken s sees cells n depth v facts scope (returns_of formals passed) ways → AreTaken s sees cells n depth v facts scope (returns_of (x ∷ formals) (a ∷ passed)) ways
  plain_returns n x (Value ws) formals passed ways before plain taken = taken
  plain_returns n x (From k) formals passed [] before (inl plain) taken = (plain, taken)
  plain_returns n x (From k) formals passed (to ∷ ways) before (inl plain) taken = inl (plain, taken)
  plain_returns n x (To k) formals passed [] before (inl plain) taken = (plain, taken)
  plain_returns n x (To k) formals passed (to ∷ ways) before (inl plain) taken = inl (plain, taken)
  plain_returns n x (From k) formals passed ways before (inr (inl (shown, z, is, typed))) taken = (let never : From k ≡ Value (z ∷ []) = is in absurd (false≢true (ap is_value_passed never)))
  plain_returns n x (To k) formals passed ways before (inr (inl (shown, z, is, typed))) taken = (let never : To k ≡ Value (z ∷ []) = is in absurd (false≢true (ap is_value_passed never)))
  plain_returns n x (From k) formals passed ways before (inr (inr (kind, ws, is, fit))) taken = (let never : From k ≡ Value ws = is in absurd (false≢true (ap is_value_passed never)))
  plain_returns n x (To k) formals passed ways before (inr (inr (kind, ws, is, fit))) taken = (let never : To k ≡ Value ws = is in absurd (false≢true (ap is_value_passed never)))

  nothing_declared : (formals : List ℕ) (passed : List Passed) (ways : List Way) (leaks : List Leak) (m : Memory) → Kept s m hands → AreDeclared formals passed ways leaks leaks m m
  nothing_declared formals passed ways leaks m typed = record {
    typed = typed;
    held = λ g y p c held. inl held;
    views = λ g y view. inl (λ i. refl);
    carried = carried_same s (λ g. g ≡ suc depth → ⊥) cells [] m m (λ g y p. refl) (λ c p. refl);
    stays = λ w g y base other_frame aside c reach. reach;
  }

  nothing_entered : (other : Way → Type 0) (leaks : List Leak) (formals : List ℕ) (passed : List Passed) (ways : List Way) (outs : List Out) (before m : Memory)
      → returns_of formals passed ≡ [] → (ways ≡ []) × (outs ≡ []) → Kept s m hands → StandIn (outs_also other outs) leaks m
      → Enter other leaks (leaks ++ found_in s before outs) formals passed ways m m
  nothing_entered other leaks formals passed ways outs before m none these typed stand =
      let (no_ways, no_outs) = these in
      subst (λ z. Enter other leaks z formals passed ways m m) (sym (ap (λ z. leaks ++ found_in s before z) no_outs ∙ append-nil leaks)) (
        nothing_declared formals passed ways leaks m typed,
        more_gone (home s depth) v facts (outs_also other outs) (taken_also other ways) (seen s m hands leaks) (λ w o. elim o [
          | inl gone ↦ inl gone
          | inr under ↦ absurd (subst (λ ks. Has ks under.0) no_outs under.1)
        ]) stand,
        subst (λ z. AreTaken s sees cells m depth v facts scope z ways) (sym none) no_ways,
      )

  -- scalar ones change nothing that owners see
  plain_then : (other : Way → Type 0) (leaks found : List Leak) (x : ℕ) (a : Passed) (formals : List ℕ) (passed : List Passed) (ways : List Way) (before m then_m n : Memory)
      → IsPlainOne s before cells x a → Stands s sees settled own_law in_formals hands leaks (suc depth) x a m then_m → Enter other leaks found formals passed ways then_m n
      → Enter other leaks found (x ∷ formals) (a ∷ passed) ways m n
  plain_then other leaks found x a formals passed ways before m then_m n plain on later = (
    record {
      typed = later.0.typed;
      held = λ g y p c held. by_either (later.0.held g y p c held) (λ h. (inl (sym (on.hold g y p) ∙ h))) (λ h. (inr (h.0, inr h.1)));
      views = λ g y view. by_either (later.0.views g y view)
          (λ same. (by_either (on.views g y view) (λ before_it. (inl (λ i. same i ∙ before_it i))) (λ mine. (inr (mine.0, mine.2, inl (mine.1, mine.3), λ i. same i ∙ mine.4 i)))))
          (λ shown. (inr (shown.0, shown.1, inr shown.2, shown.3)));
      carried = carried_then s (λ g. g ≡ suc depth → ⊥) cells [] [] [] m then_m n (λ w taken. taken) (λ w taken. taken)
          (carried_same s (λ g. g ≡ suc depth → ⊥) cells [] m then_m on.hold (λ c p. cells_same s m then_m hands leaks on.same c p)) later.0.carried;
      stays = λ w g y base other_frame aside c reach. later.0.stays w g y base other_frame aside c (same_reaches (seen s m hands leaks) (seen s then_m hands leaks) on.same w (OfCell c) reach);
    },
    later.1,
    plain_returns n x a formals passed ways before plain later.2,
  )

  taken_then : (other : Way → Type 0) (leaks mid found : List Leak) (x : ℕ) (k : Place) (a : Passed) (to : Way) (formals : List ℕ) (passed : List Passed) (ways : List Way)
      (m next n : Memory) → returns_of (x ∷ formals) (a ∷ passed) ≡ record { formal = x; to = k } ∷ returns_of formals passed
      → (one : IsPassedOn s sees cells depth v facts scope x k to) → IsApartFrom to ways → DiffersFrom x formals
      → ((g y : ℕ) (p : List Step) (c : ℕ) → word_in s.table (content s next [] (OfRoot (OfVariable g y))) p ≡ Held c
      → (word_in s.table (content s m [] (OfRoot (OfVariable g y))) p ≡ Held c) ⊎ ((g ≡ suc depth) × (y ≡ x)))
      → ((g y i : ℕ) → is_view s y ≡ true
      → (get_or (variable_slots s g y next.variables) i no_slot).word ≡ (get_or (variable_slots s g y m.variables) i no_slot).word)
      → IsBare s depth k to next one.inside → AreCarried s (λ g. g ≡ suc depth → ⊥) cells [] m next
      → ((w : Way) (g y : ℕ) → base_of w ≡ OfRoot (OfVariable g y) → (g ≡ suc depth → ⊥) → (Past to w → ⊥) → (c : ℕ)
      → Reaches (seen s m hands leaks) w (OfCell c) → Reaches (seen s next hands mid) w (OfCell c))
      → Enter (away other to) mid found formals passed ways next n → Enter other leaks found (x ∷ formals) (a ∷ passed) (to ∷ ways) m n
  taken_then other leaks mid found x k a to formals passed ways m next n return_is one apart differ held views bare carried one_stays later = (
    record {
      typed = later.0.typed;
      held = λ g y p c is. by_either (later.0.held g y p c is)
          (λ h. (by_either (held g y p c h) (λ before. (inl before)) (λ mine. (inr (mine.0, inl (sym mine.1))))))
          (λ h. (inr (h.0, inr h.1)));
      views = λ g y view. by_either (later.0.views g y view) (λ same. (inl (λ i. same i ∙ views g y i view))) (λ shown. (inr (shown.0, shown.1, inr shown.2, shown.3)));
      carried = carried_then s (λ g. g ≡ suc depth → ⊥) cells [] [] [] m next n (λ w taken. taken) (λ w taken. taken) carried later.0.carried;
      stays = λ w g y base other_frame aside c reach. later.0.stays w g y base other_frame (λ z has. aside z (inr has)) c (one_stays w g y base other_frame (aside to (inl refl)) c reach);
    },
    more_gone (home s depth) v facts (taken_also (away other to) ways) (taken_also other (to ∷ ways)) (seen s n hands found)
        (λ w o. by_either o
        (λ before. (by_either before (λ away. (inl away)) (λ (p, is). (inr (to, inl refl, p, is)))))
        (λ taken. (inr (taken_more to ways w taken)))) later.1,
    subst (λ z. AreTaken s sees cells n depth v facts scope z (to ∷ ways)) (sym return_is) (inr (
      (
        one,
        (λ p c is. bare p c (start_before (p ++ (one.inside).steps) c is)),
      ),
      apart,
      (λ r has. differ r.formal (formals_of_returns formals passed r has)),
      later.2,
    )),
  )
    where
      start_before : (q : List Step) (c : ℕ) → word_in s.table (content s n [] (one.inside).start) q ≡ Held c → word_in s.table (content s next [] (one.inside).start) q ≡ Held c
      start_before q c is = by_either (one.inside).stands
          (λ variable. (subst (λ z. word_in s.table (content s next [] z) q ≡ Held c) (sym variable.1)
          (by_either (later.0.held (one.inside).frame (one.inside).object q c (subst (λ z. word_in s.table (content s n [] z) q ≡ Held c) variable.1 is)) (λ h. (h)) (λ h. (let same = h.0 in let low = inside_low s depth k to one.inside in absurd (omega (arith, same, low)))))))
          (λ cell. (subst (λ z. word_in s.table (content s next [] z) q ≡ Held c) (sym cell.1)
          ((later.0.carried).in_cells cell.0 q c (λ taken. (taken.3).1) (subst (λ z. word_in s.table (content s n [] z) q ≡ Held c) cell.1 is))))

  -- ---- what is known elsewhere after one is taken

  pub along_under : (to w : Way) → (p : List Step) × (w ≡ along to p) → Under to w
  along_under to w these = let (p, is) = these in subst (Under to) (sym is) (under_along to to p (under_itself to))

  -- the others are open still
  pub others_open : (other : Way → Type 0) (to : Way) (ways : List Way) → Begins s depth to → IsApartFrom to ways → IsOpen Moved other (to ∷ ways)
      → IsOpen Moved (away other to) ways
  others_open other to ways from apart open_there = record {
    free = λ h w under o. elim o [
      | inl moved ↦ open_there.free h w under (inl moved)
      | inr (inl gone) ↦ open_there.free h w under (inr gone)
      | inr (inr (p, is)) ↦ hand_base h from.0 from.1 (sym (base_under (Object (OfHand h)) w under) ∙ ap base_of is ∙ base_along to p ∙ from.2)
    ];
    whole = λ z has w under o. elim o [
      | inl gone ↦ open_there.whole z (inr has) w under gone
      | inr at ↦ elim (beginnings to z w (along_under to w at) under) [ inl a ↦ (apart z has).0 a | inr b ↦ (apart z has).1 b ]
    ];
  }

  -- what isn't emptied is open, too
  pub taken_open : (other : Way → Type 0) (to : Way) (ways : List Way) (outs : List Out) → ((o : Out) → Has outs o → Has ways o.way)
      → ((z : Way) → Has ways z → Begins s depth z) → IsApartFrom to ways → IsOpen Moved other (to ∷ ways)
      → IsOpen Moved (outs_also other outs) (to ∷ [])
  taken_open other to ways outs among from apart open_there = record {
    free = λ h w under o. elim o [
      | inl moved ↦ open_there.free h w under (inl moved)
      | inr (inl gone) ↦ open_there.free h w under (inr gone)
      | inr (inr (one, has, below)) ↦ (let root = from one.way (among one has) in
          hand_base h root.0 root.1 (sym (base_under (Object (OfHand h)) w under) ∙ base_under one.way w below ∙ root.2))
    ];
    whole = λ z has w under o. by_either has
        (λ same. (by_either o
        (λ gone. (open_there.whole to (inl refl) w (subst (λ y. Under y w) (sym same) under) gone))
        (λ (one, has_one, below). (by_either (beginnings to one.way w (subst (λ y. Under y w) (sym same) under) below) (λ a. ((apart one.way (among one has_one)).0 a)) (λ b. ((apart one.way (among one has_one)).1 b))))))
        (λ never. (never));
  }

  -- the place of one that isn't emptied is gone beside those that are
  pub beside_outs : (other : Way → Type 0) (to : Way) (outs : List Out) (leaks : List Leak) (m : Memory)
      → StandIn (away (outs_also other outs) to) leaks m → StandIn (outs_also (away other to) outs) leaks m
  beside_outs other to outs leaks m stand =
      more_gone (home s depth) v facts (away (outs_also other outs) to) (outs_also (away other to) outs) (seen s m hands leaks)
      (λ w o. by_either o (λ before. (by_either before (λ gone. (inl (inl gone))) (λ under. (inr under)))) (λ at. (inl (inr at)))) stand

  -- What there is where the actuals are evaluated.
  pub record AtFirst (before : Memory) : Type 0 where
    pub typed : Kept s before hands
    pub leaks : List Leak
    pub owned : Owned (seen s before hands leaks)
    pub there : (c : Lodge) → Has cells c → Reaches (seen s before hands leaks) c.way (OfCell c.cell)

  -- a place that is passed on is reached where the cells are
  pub one_reached : (x : ℕ) (k : Place) (to : Way) (one : IsPassedOn s sees cells depth v facts scope x k to) (leaks : List Leak) (m : Memory)
      → ((c : Lodge) → Has cells c → Reaches (seen s m hands leaks) c.way (OfCell c.cell)) → Reaches (seen s m hands leaks) (one.inside).trunk (one.inside).start
  one_reached x k to one leaks m there =
      start_reached s depth k to one.inside (seen s m hands leaks) (λ n is. (
      let found = one.among n is in
      subst (λ z. Reaches (seen s m hands leaks) z (OfCell n)) found.2 (subst (λ z. Reaches (seen s m hands leaks) found.0.way (OfCell z)) found.3 (there found.0 found.1))))

  -- ---- what a place has still is leaked

  pub still_checks : (x : ℕ) (k : Place) (to : Way) (one : IsPassedOn s sees cells depth v facts scope x k to) (pos : Pos) (leaks : List Leak) (before m : Memory)
      → AtFirst before → HasStill s cells depth before m to
      → Checks s.table (content s m hands (trunk (inside_at s depth k to one.inside))) (steps_in (inside_at s depth k to one.inside)) leaks (leaks ++ leaks_at s pos before k)
  still_checks x k to one pos leaks before m first_one still =
      let at : Loc = inside_at s depth k to one.inside in
      let first =
      place_checks s settled before hands leaks k at first_one.typed
      (inside_spot s depth k to one.inside settled before hands first_one.leaks first_one.typed (one_reached x k to one first_one.leaks before first_one.there))
      (inside_owns s depth k to one.inside settled before hands first_one.leaks first_one.typed first_one.owned (one_reached x k to one first_one.leaks before first_one.there)) pos in
      let same : (p : List Step) → word_in s.table (content s m hands (trunk at)) (p ++ steps_in at) ≡ word_in s.table (content s before hands (trunk at)) (p ++ steps_in at) =
      λ p. inside_word s depth k to one.inside m hands p ∙ start_still p ∙ sym (inside_word s depth k to one.inside before hands p) in
      record {
        keeps = first.keeps;
        checks = λ p n held. first.checks p n (sym (same p) ∙ held);
        only = λ n leaked. by_either (first.only n leaked) (λ old. (inl old)) (λ (p, held). (inr (p, same p ∙ held)));
      }
    where
      start_still : (p : List Step) → word_in s.table (content s m [] (one.inside).start) (p ++ (one.inside).steps) ≡ word_in s.table (content s before [] (one.inside).start) (p ++ (one.inside).steps)
      start_still p = by_either (one.inside).stands
          (λ variable. (subst (λ z. word_in s.table (content s m [] z) (p ++ (one.inside).steps) ≡ word_in s.table (content s before [] z) (p ++ (one.inside).steps)) (sym variable.1)
          (still.0 (one.inside).frame (one.inside).object (one.inside).steps p (inside_low s depth k to one.inside)
          ((one.inside).way ∙ ap (λ z. along z (one.inside).steps) variable.0))))
          (λ cell. (
          let found = one.among cell.0 cell.1 in
          subst (λ z. word_in s.table (content s m [] z) (p ++ (one.inside).steps) ≡ word_in s.table (content s before [] z) (p ++ (one.inside).steps))
          (ap OfCell found.3 ∙ sym cell.1)
          (still.1 found.0 (one.inside).steps p found.1 ((one.inside).way ∙ ap (λ z. along z (one.inside).steps) (sym found.2)))))

  -- ---- all of them

  -- what is passed for a formal of a scalar type
  laid_in : (leaks : List Leak) (m : Memory) (a : Passed) → IsPlainPassed s cells a → Kept s m hands
      → ((c : Lodge) → Has cells c → Reaches (seen s m hands leaks) c.way (OfCell c.cell)) → IsLaidIn s sees settled own_law in_formals hands leaks m a
  laid_in leaks m (Value ws) plain typed there = plain
  laid_in leaks m (From k) plain typed there = plain_place s sees settled own_law in_formals hands leaks (suc depth) cells begins m k plain typed there
  laid_in leaks m (To k) plain typed there = plain_place s sees settled own_law in_formals hands leaks (suc depth) cells begins m k plain typed there

  pub all_declared : (other : Way → Type 0) (leaks : List Leak) (formals : List ℕ) (passed : List Passed) (ways : List Way) (outs : List Out) (before m : Memory)
      → ArePassedOn s sees before cells depth v facts scope formals passed ways outs → IsOpen Moved other ways → AtFirst before → Kept s m hands
      → AreThere ways leaks m → StandIn (outs_also other outs) leaks m → AreBlank s depth m formals → HaveStill s cells depth before m outs → HasCells before m
      → Enter other leaks (leaks ++ found_in s before outs) formals passed ways m (with_formals s (suc depth) formals passed m)
  all_declared other leaks [] passed ways outs before m are open_there at_first typed cells_there stand blank still had =
      nothing_entered other leaks [] passed ways outs before m refl are typed stand
  all_declared other leaks (x ∷ formals) [] ways outs before m are open_there at_first typed cells_there stand blank still had =
      nothing_entered other leaks (x ∷ formals) [] ways outs before m refl are typed stand
  all_declared other leaks (x ∷ formals) (a ∷ passed) [] outs before m are open_there at_first typed cells_there stand blank still had =
      let on = one_stands s sees settled own_law in_formals hands leaks (suc depth) x a before m cells are.0 (λ plain. laid_in leaks m a plain typed (λ c has. (cells_there c has).0)) had typed in
      let mid : Memory = with_formal s (suc depth) x a m in
      plain_then other leaks (leaks ++ found_in s before outs) x a formals passed [] before m mid (with_formals s (suc depth) formals passed mid) are.0 on
      (all_declared other leaks formals passed [] outs before mid are.1 open_there at_first on.typed
      (λ c has. (same_reaches (seen s m hands leaks) (seen s mid hands leaks) on.same c.way (OfCell c.cell) (cells_there c has).0, (cells_there c has).1))
      (same_stand (home s depth) v facts (outs_also other outs) (seen s m hands leaks) (seen s mid hands leaks) on.same stand)
      (λ y has p. on.hold (suc depth) y p ∙ blank y (inr has) p)
      (λ o has. still_then s cells depth before m mid o.way (still o has) ((λ f y q p low is. on.hold f y (p ++ q)), (λ c q p has is. cells_same s m mid hands leaks on.same c.cell (p ++ q)))) (then_cells before m mid had on.cells))
  all_declared other leaks (x ∷ formals) (a ∷ passed) (to ∷ ways) outs before m (inl are) open_there at_first typed cells_there stand blank still had =
      let on = one_stands s sees settled own_law in_formals hands leaks (suc depth) x a before m cells are.0 (λ plain. laid_in leaks m a plain typed (λ c has. (cells_there c has).0)) had typed in
      let mid : Memory = with_formal s (suc depth) x a m in
      plain_then other leaks (leaks ++ found_in s before outs) x a formals passed (to ∷ ways) before m mid (with_formals s (suc depth) formals passed mid) are.0 on
      (all_declared other leaks formals passed (to ∷ ways) outs before mid are.1 open_there at_first on.typed
      (λ c has. (same_reaches (seen s m hands leaks) (seen s mid hands leaks) on.same c.way (OfCell c.cell) (cells_there c has).0, (cells_there c has).1))
      (same_stand (home s depth) v facts (outs_also other outs) (seen s m hands leaks) (seen s mid hands leaks) on.same stand)
      (λ y has p. on.hold (suc depth) y p ∙ blank y (inr has) p)
      (λ o has. still_then s cells depth before m mid o.way (still o has) ((λ f y q p low is. on.hold f y (p ++ q)), (λ c q p has is. cells_same s m mid hands leaks on.same c.cell (p ++ q)))) (then_cells before m mid had on.cells))
  all_declared other leaks (x ∷ formals) (a ∷ passed) (to ∷ ways) outs before m (inr (k, later, inl (is, whole, same), one, apart, differ, more)) open_there at_first typed cells_there stand blank still had =
      let new = blank x (inl refl) in
      let there_now = one_reached x k to one leaks m (λ c has. (cells_there c has).0) in
      let next : Memory = declared (suc depth) x (words_of s m k) (moved_out s k m) in
      let among = outs_taken s sees before cells depth v facts scope formals passed ways later more in
      let from = passed_base s sees before cells depth v facts scope formals passed ways later more in
      let root : Begins s depth to = inside_begins s depth k to one.inside in
      let mine = taken_open other to ways later among from apart open_there in
      let here : StandIn (outs_also other later) leaks m = subst (λ z. StandIn (outs_also other z) leaks m) same stand in
      subst (λ z. Enter other leaks (leaks ++ found_in s before outs) (x ∷ formals) (z ∷ passed) (to ∷ ways) m (with_formals s (suc depth) (x ∷ formals) (z ∷ passed) m)) (sym is)
      (subst (λ z. Enter other leaks (leaks ++ found_in s before z) (x ∷ formals) (From k ∷ passed) (to ∷ ways) m (with_formals s (suc depth) (x ∷ formals) (From k ∷ passed) m)) (sym same)
      (taken_then other leaks leaks (leaks ++ found_in s before later) x k (From k) to formals passed ways m next (with_formals s (suc depth) formals passed next) refl one apart differ
      (one_held s sees settled own_law in_formals hands leaks depth v far only facts scope cells (outs_also other later) x k to one whole mine m typed here new there_now)
      (one_views s sees settled own_law in_formals hands leaks depth v far only facts scope cells (outs_also other later) x k to one whole mine m typed here new there_now)
      (one_bare s sees settled own_law in_formals hands leaks depth v far only facts scope cells (outs_also other later) x k to one whole mine m typed here new there_now)
      (one_carried s sees settled own_law in_formals hands leaks depth v far only facts scope cells (outs_also other later) x k to one whole mine m typed here new there_now)
      (one_stays s sees settled own_law in_formals hands leaks depth v far only facts scope cells (outs_also other later) x k to one whole mine m typed here new there_now)
      (all_declared (away other to) leaks formals passed ways later before next more (others_open other to ways root apart open_there) at_first
      (kept_next s sees settled own_law in_formals hands leaks depth v far only facts scope cells (outs_also other later) x k to one whole mine m typed here new there_now)
      (λ c has. (
        (let begin = begins c has in
            one_stays s sees settled own_law in_formals hands leaks depth v far only facts scope cells (outs_also other later) x k to one whole mine m typed here new there_now
            c.way begin.0 begin.1 begin.2 begin.3 ((cells_there c has).1 to (inl refl)) c.cell (cells_there c has).0),
        (λ z there. (cells_there c has).1 z (inr there)),
      ))
      (beside_outs other to later leaks next (stand_next s sees settled own_law in_formals hands leaks depth v far only facts scope cells (outs_also other later) x k to one whole mine m typed here new there_now))
      (λ y has p. one_blank s sees settled own_law in_formals hands leaks depth v far only facts scope cells (outs_also other later) x k to one whole mine m typed here new there_now y (differ y has) p (blank y (inr has) p))
      (λ o has. still_then s cells depth before m next o.way (still o (subst (λ z. Has z o) (sym same) has))
      (one_still s sees settled own_law in_formals hands leaks depth v far only facts scope cells (outs_also other later) x k to one whole mine m typed here new there_now (λ c has_c. (cells_there c has_c).0) o.way (apart o.way (among o has))))
      (then_cells before m next had (taken_cells s k (suc depth) x (words_of s m k) m)))))
  all_declared other leaks (x ∷ formals) (a ∷ passed) (to ∷ ways) outs before m (inr (k, later, inr (pos, is, same), one, apart, differ, more)) open_there at_first typed cells_there stand blank still had =
      let new = blank x (inl refl) in
      let there_now = one_reached x k to one leaks m (λ c has. (cells_there c has).0) in
      let next : Memory = declared (suc depth) x (default s.table (object_at s x).of) (moved_out s k m) in
      let among = outs_taken s sees before cells depth v facts scope formals passed ways later more in
      let from = passed_base s sees before cells depth v facts scope formals passed ways later more in
      let root : Begins s depth to = inside_begins s depth k to one.inside in
      let out : Out = record { way = to; place = k; pos = pos } in
      let here : StandIn (outs_also other (out ∷ later)) leaks m = subst (λ z. StandIn (outs_also other z) leaks m) same stand in
      let found : List Leak = leaks ++ leaks_at s pos before k in
      let mine = still_checks x k to one pos leaks before m at_first (still out (subst (λ z. Has z out) (sym same) (inl refl))) in
      subst (λ z. Enter other leaks (leaks ++ found_in s before outs) (x ∷ formals) (z ∷ passed) (to ∷ ways) m (with_formals s (suc depth) (x ∷ formals) (z ∷ passed) m)) (sym is)
      (subst (λ z. Enter other leaks (leaks ++ found_in s before z) (x ∷ formals) (To k ∷ passed) (to ∷ ways) m (with_formals s (suc depth) (x ∷ formals) (To k ∷ passed) m)) (sym same)
      (subst (λ z. Enter other leaks z (x ∷ formals) (To k ∷ passed) (to ∷ ways) m (with_formals s (suc depth) (x ∷ formals) (To k ∷ passed) m)) (append_assoc leaks (leaks_at s pos before k) (found_in s before later))
      (taken_then other leaks found (found ++ found_in s before later) x k (To k) to formals passed ways m next (with_formals s (suc depth) formals passed next) refl one apart differ
      (λ g y p c held. inl (out_held s sees settled own_law in_formals hands leaks depth v only facts scope cells (outs_also other (out ∷ later)) (outs_also (away other to) later) x k to one
      m typed here new there_now found mine g y p c held))
      (out_views s sees settled own_law in_formals hands leaks depth v only facts scope cells (outs_also other (out ∷ later)) (outs_also (away other to) later) x k to one
      m typed here new there_now found)
      (out_bare s sees settled own_law in_formals hands leaks depth v only facts scope cells (outs_also other (out ∷ later)) (outs_also (away other to) later) x k to one
      m typed here new there_now found mine)
      (out_carried s sees settled own_law in_formals hands leaks depth v only facts scope cells (outs_also other (out ∷ later)) (outs_also (away other to) later) x k to one
      m typed here new there_now found mine)
      (λ w g y base other_frame aside c reach.
      out_stays s sees settled own_law in_formals hands leaks depth v only facts scope cells (outs_also other (out ∷ later)) (outs_also (away other to) later) x k to one
      m typed here new there_now found mine w aside c reach)
      (all_declared (away other to) found formals passed ways later before next more (others_open other to ways root apart open_there) at_first
      (out_kept s sees settled own_law in_formals hands leaks depth v only facts scope cells (outs_also other (out ∷ later)) (outs_also (away other to) later) x k to one
      m typed here new there_now found)
      (λ c has. (
        out_stays s sees settled own_law in_formals hands leaks depth v only facts scope cells (outs_also other (out ∷ later)) (outs_also (away other to) later) x k to one
            m typed here new there_now found mine c.way ((cells_there c has).1 to (inl refl)) c.cell (cells_there c has).0,
        (λ z there. (cells_there c has).1 z (inr there)),
      ))
      (out_stand s sees settled own_law in_formals hands leaks depth v only facts scope cells (outs_also other (out ∷ later)) (outs_also (away other to) later) x k to one
      m typed here new there_now found mine
      (λ w o off. by_either o
      (λ gone. (inl (inl gone)))
      (λ (other_one, has_one, under). (by_either has_one (λ first. (absurd (off (subst (λ (z : Out). Under z.way w) (sym first) under)))) (λ rest. (inr (other_one, rest, under)))))) (λ p. inl (inr (p, refl))))
      (λ y has p. out_blank s sees settled own_law in_formals hands leaks depth v only facts scope cells (outs_also other (out ∷ later)) (outs_also (away other to) later) x k to one
      m typed here new there_now found y (differ y has) p (blank y (inr has) p))
      (λ o has. still_then s cells depth before m next o.way (still o (subst (λ z. Has z o) (sym same) (inr has)))
      (out_still s sees settled own_law in_formals hands leaks depth v only facts scope cells (outs_also other (out ∷ later)) (outs_also (away other to) later) x k to one
      m typed here new there_now found mine (λ c has_c. (cells_there c has_c).0) o.way (apart o.way (among o has))))
      (then_cells before m next had (taken_cells s k (suc depth) x (default s.table (object_at s x).of) m))))))
  -- ---- where no place is taken
