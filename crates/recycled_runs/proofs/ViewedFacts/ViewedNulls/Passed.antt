-- Of what a call passes nothing is gone, nor of the formals that it copies back.
use Rattle.soundness.specs.ViewedSoundness.Holds.{is_view}
use Rattle.viewed_steps.proofs.Left.{cells_same}
use Rattle.std.proofs.Common.{◌≡◌, refl, sym, ap, ◌∙◌, subst, ◌⊎◌, inl, inr, ℕ, suc, false, List, [], ◌∷◌, ◌++◌, length, Some, true, Bool}
use Rattle.std.proofs.lemmas.Bool.{false≢true, true≢false}
use Rattle.machine.specs.place_names.declared.fact.Fact.{Fact}
use Rattle.machine.specs.spark_base.Lists.{Has}
use Rattle.machine.specs.flow_paths.Objects.{Typing, object_at}
use Rattle.machine.specs.Words as machine
use Rattle.machine.specs.Words.{default}
use Rattle.machine.specs.Memory.{Memory, Place, words_of, moved_out, stored, declared}
use Rattle.machine.specs.Evaluate.{variable_place}
use Rattle.machine.specs.Calls.{Passed, Value, From, To, with_formal}
use Rattle.machine.specs.States.{Waiting, Leak, Return}
use Rattle.machine.specs.Step.{Turn, typing, here}
use Rattle.soundness.specs.OwnedWays.Ways.{OfVariable, OfHand, Loc, OfRoot, Way, Object, Under, along, base_of, OfCell, Reaches, Owned}
use Rattle.soundness.proofs.OwnedWays.Locations.{under_along, under_itself}
use Rattle.soundness.specs.PartOffsets.Parts.{IsSettled}
use Rattle.soundness.specs.Seen.{seen, home, is_view_formal}
use Rattle.soundness.specs.Changes.{leaks_at}
use Rattle.soundness.specs.Typed.{OwnsByShape, Kept, Spot, IsFixed}
use Rattle.soundness.proofs.Returning.{formal_fixed}
use Rattle.soundness.specs.OwnedLoans.Views.{Views, IsMovedBy}
use Rattle.viewed_steps.specs.Taken.{IsInside, IsTaken, AreTaken, Lodge, IsPlainPlace, IsCopiedTo}
use Rattle.viewed_steps.proofs.Between.{OwnersStand, more_gone, same_stand, same_reaches, Begins}
use Rattle.viewed_steps.proofs.Carried.{inside_at, inside_spot, inside_reached, inside_rooted, inside_owns, inside_begins}
use Rattle.viewed_steps.proofs.Alike.{IsPlainSpot, IsLaidIn, plain_place, variable_plain, one_there, Enters, moved_there, stored_there, one_then}
use Rattle.viewed_steps.proofs.Entered as entered
use Rattle.viewed_steps.proofs.Entered.{ArePassedOn, IsOpen, AreBlank, passed_base, outs_taken, IsPlainPassed, IsPlainOne}
use Rattle.viewed_steps.proofs.Entering as entering
use Rattle.viewed_steps.proofs.Emptying as emptying
use Rattle.viewed_steps.proofs.Outs.{Out, HaveStill, still_then}
use Rattle.viewed_steps.proofs.Backed as backed
use Rattle.viewed_steps.proofs.Backed.{AwayBy, StandsAway}
use Rattle.recycled_runs.proofs.ViewedFacts.NullPlaces.Places.{spot_whole, unmoved_whole, moved_only, plain_whole}
use Rattle.recycled_runs.proofs.ViewedFacts.NullPlaces.Calls.{IsWholly, IsWhollyPassed, AreWhollyPassed, fixed_wholly, AreWhollyBack, IsStanding}
use Rattle.viewed_steps.proofs.Views.{AreAccess, AreFar, AreOnly}
use Rattle.machine.specs.Memory as memory
use Rattle.viewed_steps.proofs.Shown.{HasCells, then_cells, taken_cells, one_stands}
use Rattle.viewed_steps.proofs.Lodged.{cell_live}
use Rattle.soundness.proofs.Steps.{no_leaf}
use Rattle.recycled_runs.proofs.ViewedFacts.Constructors.{is_of_variable_base, is_value_passed}
use Rattle.soundness.proofs.Parted.{by_either}

same_object : (f y g x : ℕ) → memory.OfVariable f y ≡ memory.OfVariable g x → y ≡ x
same_object f y g x e = cc

-- A place in a variable isn't in a formal that owns nothing.
in_owner : (s : Typing) (f : ℕ) (k : Place) (to : Way) (inside : IsInside s f k to) → (g x : ℕ) → k.base ≡ memory.OfVariable g x → is_view_formal s x ≡ false
in_owner s f k to inside g x at = elim inside.stands [
  | inl variable ↦ subst (λ z. is_view_formal s z ≡ false) (same_object inside.frame inside.object g x (sym variable.2 ∙ at)) variable.4
  | inr cell ↦ absurd (no_object cell.0 g x (sym cell.2 ∙ at))
]
  where
    no_object : (n g x : ℕ) → memory.OfCell n ≡ memory.OfVariable g x → ⊥
    no_object n g x e = absurd (false≢true (ap is_of_variable_base e))

-- Of a place nothing is gone, where nothing says so of its way and what goes on from it.
pub inside_wholly : (s : Typing) (settled : IsSettled s.table) (hands : List Waiting) (leaks : List Leak) (f depth : ℕ) (v : Views)
    (facts : List Fact) (other : Way → Type 0) (k : Place) (to : Way) → (inside : IsInside s f k to) → (m : Memory) → Kept s m hands
    → OwnersStand (home s depth) v facts other (seen s m hands leaks) → Reaches (seen s m hands leaks) inside.trunk inside.start
    → ((w : Way) → Under to w → IsMovedBy (home s depth) v facts w ⊎ other w → ⊥) → IsWholly s k m
inside_wholly s settled hands leaks f depth v facts other k to inside m typed stand there clean only =
    let at : Loc = inside_at s f k to inside in
    let spot : Spot s m hands k at = inside_spot s f k to inside settled m hands leaks typed there in (
      spot_whole s settled m hands only typed k at spot
          (unmoved_whole s settled m hands leaks (λ w. IsMovedBy (home s depth) v facts w ⊎ other w) stand.known to at (inside_rooted s f k to inside)
          (inside_reached s f k to inside (seen s m hands leaks) there) (inside_owns s f k to inside settled m hands leaks typed stand.owned there)
          (λ p said. clean (along to p) (under_along to to p (under_itself to)) said)),
      moved_only s settled m hands only typed k at spot (λ p leaf. in_owner s f k to inside),
    )

-- ---- what is passed

module _ (s : Typing) (sees : ℕ → Bool) (settled : IsSettled s.table) (own_law : OwnsByShape s.table) (in_formals : AreAccess s)
    (hands : List Waiting) (depth : ℕ) (v : Views) (far : AreFar (home s depth) v depth) (sight : AreOnly s v)
    (facts : List Fact) (scope : List ℕ)
    (cells : List Lodge) (begins : (c : Lodge) → Has cells c → (g : ℕ) × (y : ℕ) × (base_of c.way ≡ OfRoot (OfVariable g y)) × (g ≡ suc depth → ⊥)) where
  -- what a scalar place has isn't gone
  spot_wholly : (leaks : List Leak) (k : Place) (m : Memory) → IsPlainSpot s sees settled own_law in_formals hands leaks m k → Kept s m hands → IsWholly s k m
  spot_wholly leaks k m plain typed only = (
    spot_whole s settled m hands only typed k plain.loc plain.spot (plain_whole s settled m hands k plain.loc plain.spot (λ p. no_leaf s.table settled k.of plain.scalar p)),
    moved_only s settled m hands only typed k plain.loc plain.spot (λ p leaf f x is. (let no : true ≡ false = sym leaf ∙ no_leaf s.table settled k.of plain.scalar p in absurd (true≢false no))),
  )

  abbrev Reached : List Leak → Memory → Type 0
  Reached leaks m = (c : Lodge) → Has cells c → Reaches (seen s m hands leaks) c.way (OfCell c.cell)

  laid_there : (leaks : List Leak) (m : Memory) (a : Passed) → IsPlainPassed s cells a → Kept s m hands → Reached leaks m → IsLaidIn s sees settled own_law in_formals hands leaks m a
  laid_there leaks m (Value ws) plain typed there = plain
  laid_there leaks m (From k) plain typed there = plain_place s sees settled own_law in_formals hands leaks (suc depth) cells begins m k plain typed there
  laid_there leaks m (To k) plain typed there = plain_place s sees settled own_law in_formals hands leaks (suc depth) cells begins m k plain typed there

  plain_wholly : (leaks : List Leak) (x : ℕ) (a : Passed) (before m : Memory) → IsPlainOne s before cells x a → Kept s m hands → Reached leaks m → IsWhollyPassed s a m
  plain_wholly leaks x (Value ws) before m plain typed there = tt
  plain_wholly leaks x (From k) before m (inl (scalar, plain)) typed there = spot_wholly leaks k m (laid_there leaks m (From k) plain typed there) typed
  plain_wholly leaks x (To k) before m (inl (scalar, plain)) typed there = (λ only. (spot_wholly leaks k m (laid_there leaks m (To k) plain typed there) typed only).1)
  plain_wholly leaks x (From k) before m (inr (inl (shown, z, is, fits))) typed there = (let never : From k ≡ Value (z ∷ []) = is in absurd (false≢true (ap is_value_passed never)))
  plain_wholly leaks x (To k) before m (inr (inl (shown, z, is, fits))) typed there = (let never : To k ≡ Value (z ∷ []) = is in absurd (false≢true (ap is_value_passed never)))
  plain_wholly leaks x (From k) before m (inr (inr (kind, ws, is, fit))) typed there = (let never : From k ≡ Value ws = is in absurd (false≢true (ap is_value_passed never)))
  plain_wholly leaks x (To k) before m (inr (inr (kind, ws, is, fit))) typed there = (let never : To k ≡ Value ws = is in absurd (false≢true (ap is_value_passed never)))

  abbrev StandIn : (Way → Type 0) → List Leak → Memory → Type 0
  StandIn other leaks m = OwnersStand (home s depth) v facts other (seen s m hands leaks)

  abbrev outs_also : (Way → Type 0) → List Out → Way → Type 0
  outs_also = entering.outs_also s sees settled own_law in_formals hands depth v far sight facts scope cells begins

  abbrev away : (Way → Type 0) → Way → Way → Type 0
  away = entering.away s sees settled own_law in_formals hands depth v far sight facts scope cells begins

  -- one after the other, with the places that are taken gone, and those that are to be emptied
  pub passed_wholly : (other : Way → Type 0) (leaks : List Leak) (formals : List ℕ) (passed : List Passed) (ways : List Way) (outs : List Out) (before m : Memory)
      → ArePassedOn s sees before cells depth v facts scope formals passed ways outs → IsOpen (IsMovedBy (home s depth) v facts) other ways → entering.AtFirst s sees settled own_law in_formals hands depth v far sight facts scope cells begins before → Kept s m hands
      → entering.AreThere s sees settled own_law in_formals hands depth v far sight facts scope cells begins ways leaks m
      → StandIn (outs_also other outs) leaks m → AreBlank s depth m formals → HaveStill s cells depth before m outs → HasCells before m → AreWhollyPassed s (suc depth) formals passed m
  passed_wholly other leaks [] passed ways outs before m are open_there at_first typed cells_there stand blank still had = tt
  passed_wholly other leaks (x ∷ formals) [] ways outs before m are open_there at_first typed cells_there stand blank still had = tt
  passed_wholly other leaks (x ∷ formals) (a ∷ passed) [] outs before m are open_there at_first typed cells_there stand blank still had =
      let on = one_stands s sees settled own_law in_formals hands leaks (suc depth) x a before m cells are.0 (λ plain. laid_there leaks m a plain typed (λ c has. (cells_there c has).0)) had typed in
      let mid : Memory = with_formal s (suc depth) x a m in (
        plain_wholly leaks x a before m are.0 typed (λ c has. (cells_there c has).0),
        passed_wholly other leaks formals passed [] outs before mid are.1 open_there at_first on.typed
            (λ c has. (same_reaches (seen s m hands leaks) (seen s mid hands leaks) on.same c.way (OfCell c.cell) (cells_there c has).0, (cells_there c has).1))
            (same_stand (home s depth) v facts (outs_also other outs) (seen s m hands leaks) (seen s mid hands leaks) on.same stand)
            (λ y has p. on.hold (suc depth) y p ∙ blank y (inr has) p)
            (λ o has. still_then s cells depth before m mid o.way (still o has) ((λ f y q p low is. on.hold f y (p ++ q)), (λ c q p has is. cells_same s m mid hands leaks on.same c.cell (p ++ q))))
            (then_cells before m mid had on.cells),
      )
  passed_wholly other leaks (x ∷ formals) (a ∷ passed) (to ∷ ways) outs before m (inl are) open_there at_first typed cells_there stand blank still had =
      let on = one_stands s sees settled own_law in_formals hands leaks (suc depth) x a before m cells are.0 (λ plain. laid_there leaks m a plain typed (λ c has. (cells_there c has).0)) had typed in
      let mid : Memory = with_formal s (suc depth) x a m in (
        plain_wholly leaks x a before m are.0 typed (λ c has. (cells_there c has).0),
        passed_wholly other leaks formals passed (to ∷ ways) outs before mid are.1 open_there at_first on.typed
            (λ c has. (same_reaches (seen s m hands leaks) (seen s mid hands leaks) on.same c.way (OfCell c.cell) (cells_there c has).0, (cells_there c has).1))
            (same_stand (home s depth) v facts (outs_also other outs) (seen s m hands leaks) (seen s mid hands leaks) on.same stand)
            (λ y has p. on.hold (suc depth) y p ∙ blank y (inr has) p)
            (λ o has. still_then s cells depth before m mid o.way (still o has) ((λ f y q p low is. on.hold f y (p ++ q)), (λ c q p has is. cells_same s m mid hands leaks on.same c.cell (p ++ q))))
            (then_cells before m mid had on.cells),
      )
  passed_wholly other leaks (x ∷ formals) (a ∷ passed) (to ∷ ways) outs before m (inr (k, later, inl (is, whole, same), one, apart, differ, more)) open_there at_first typed cells_there stand blank still had =
      let new = blank x (inl refl) in
      let there_now = entering.one_reached s sees settled own_law in_formals hands depth v far sight facts scope cells begins x k to one leaks m (λ c has. (cells_there c has).0) in
      let next : Memory = declared (suc depth) x (words_of s m k) (moved_out s k m) in
      let among = outs_taken s sees before cells depth v facts scope formals passed ways later more in
      let from = passed_base s sees before cells depth v facts scope formals passed ways later more in
      let root : Begins s depth to = inside_begins s depth k to one.inside in
      let mine = entering.taken_open s sees settled own_law in_formals hands depth v far sight facts scope cells begins other to ways later among from apart open_there in
      let here : StandIn (outs_also other later) leaks m = subst (λ z. StandIn (outs_also other z) leaks m) same stand in
      subst (λ z. AreWhollyPassed s (suc depth) (x ∷ formals) (z ∷ passed) m) (sym is) (
        inside_wholly s settled hands leaks depth depth v facts (outs_also other later) k to one.inside m typed here there_now
            (entered.clean s sees settled own_law in_formals hands leaks depth v far sight facts scope cells (outs_also other later) x k to one whole mine m typed here new there_now),
        passed_wholly (away other to) leaks formals passed ways later before next more
            (entering.others_open s sees settled own_law in_formals hands depth v far sight facts scope cells begins other to ways root apart open_there) at_first
            (entered.kept_next s sees settled own_law in_formals hands leaks depth v far sight facts scope cells (outs_also other later) x k to one whole mine m typed here new there_now)
            (λ c has. (
              (let begin = begins c has in
                  entered.one_stays s sees settled own_law in_formals hands leaks depth v far sight facts scope cells (outs_also other later) x k to one whole mine m typed here new there_now
                  c.way begin.0 begin.1 begin.2 begin.3 ((cells_there c has).1 to (inl refl)) c.cell (cells_there c has).0),
              (λ z there. (cells_there c has).1 z (inr there)),
            ))
            (entering.beside_outs s sees settled own_law in_formals hands depth v far sight facts scope cells begins other to later leaks next
            (entered.stand_next s sees settled own_law in_formals hands leaks depth v far sight facts scope cells (outs_also other later) x k to one whole mine m typed here new there_now))
            (λ y has p. entered.one_blank s sees settled own_law in_formals hands leaks depth v far sight facts scope cells (outs_also other later) x k to one whole mine m typed here new there_now y (differ y has) p
            (blank y (inr has) p))
            (λ o has. still_then s cells depth before m next o.way (still o (subst (λ z. Has z o) (sym same) has))
            (entered.one_still s sees settled own_law in_formals hands leaks depth v far sight facts scope cells (outs_also other later) x k to one whole mine m typed here new there_now (λ c has_c. (cells_there c has_c).0) o.way (apart o.way (among o has))))
            (then_cells before m next had (taken_cells s k (suc depth) x (words_of s m k) m)),
      )
  passed_wholly other leaks (x ∷ formals) (a ∷ passed) (to ∷ ways) outs before m (inr (k, later, inr (pos, is, same), one, apart, differ, more)) open_there at_first typed cells_there stand blank still had =
      let new = blank x (inl refl) in
      let there_now = entering.one_reached s sees settled own_law in_formals hands depth v far sight facts scope cells begins x k to one leaks m (λ c has. (cells_there c has).0) in
      let next : Memory = declared (suc depth) x (default s.table (object_at s x).of) (moved_out s k m) in
      let among = outs_taken s sees before cells depth v facts scope formals passed ways later more in
      let root : Begins s depth to = inside_begins s depth k to one.inside in
      let out : Out = record { way = to; place = k; pos = pos } in
      let here : StandIn (outs_also other (out ∷ later)) leaks m = subst (λ z. StandIn (outs_also other z) leaks m) same stand in
      let found : List Leak = leaks ++ leaks_at s pos before k in
      let mine = entering.still_checks s sees settled own_law in_formals hands depth v far sight facts scope cells begins x k to one pos leaks before m at_first
      (still out (subst (λ z. Has z out) (sym same) (inl refl))) in
      subst (λ z. AreWhollyPassed s (suc depth) (x ∷ formals) (z ∷ passed) m) (sym is) (
        (λ only. moved_only s settled m hands only typed k (inside_at s depth k to one.inside) (inside_spot s depth k to one.inside settled m hands leaks typed there_now)
            (λ p leaf. in_owner s depth k to one.inside)),
        passed_wholly (away other to) found formals passed ways later before next more
            (entering.others_open s sees settled own_law in_formals hands depth v far sight facts scope cells begins other to ways root apart open_there) at_first
            (emptying.out_kept s sees settled own_law in_formals hands leaks depth v sight facts scope cells (outs_also other (out ∷ later)) (outs_also (away other to) later) x k to one m typed here new there_now found)
            (λ c has. (
              emptying.out_stays s sees settled own_law in_formals hands leaks depth v sight facts scope cells (outs_also other (out ∷ later)) (outs_also (away other to) later) x k to one
                  m typed here new there_now found mine c.way ((cells_there c has).1 to (inl refl)) c.cell (cells_there c has).0,
              (λ z there. (cells_there c has).1 z (inr there)),
            ))
            (emptying.out_stand s sees settled own_law in_formals hands leaks depth v sight facts scope cells (outs_also other (out ∷ later)) (outs_also (away other to) later) x k to one m typed here new there_now found mine
            (λ w o off. by_either o
            (λ gone. (inl (inl gone)))
            (λ (other_one, has_one, under). (by_either has_one (λ first. (absurd (off (subst (λ (z : Out). Under z.way w) (sym first) under)))) (λ rest. (inr (other_one, rest, under)))))) (λ p. inl (inr (p, refl))))
            (λ y has p. emptying.out_blank s sees settled own_law in_formals hands leaks depth v sight facts scope cells (outs_also other (out ∷ later)) (outs_also (away other to) later) x k to one m typed here new there_now found
            y (differ y has) p (blank y (inr has) p))
            (λ o has. still_then s cells depth before m next o.way (still o (subst (λ z. Has z o) (sym same) (inr has)))
            (emptying.out_still s sees settled own_law in_formals hands leaks depth v sight facts scope cells (outs_also other (out ∷ later)) (outs_also (away other to) later) x k to one m typed here new there_now found mine (λ c has_c. (cells_there c has_c).0)
            o.way (apart o.way (among o has))))
            (then_cells before m next had (taken_cells s k (suc depth) x (default s.table (object_at s x).of) m)),
      )

-- ---- what is copied back

module _ (t : Turn) (sees : ℕ → Bool) (settled : IsSettled (typing t).table) (own_law : OwnsByShape (typing t).table) (in_formals : AreAccess (typing t))
    (hands : List Waiting) (leaks : List Leak) (depth : ℕ) (deep : length t.outer ≡ suc depth) (v : Views)
    (far : AreFar (home (typing t) depth) v depth) (sight : (x : ℕ) (w : Way) → v.way x ≡ Some w → is_view (typing t) x ≡ true) (facts : List Fact) (scope : List ℕ)
    (other : Way → Type 0)
    (free : (h : ℕ) (w : Way) → Under (Object (OfHand h)) w → IsMovedBy (home (typing t) depth) v facts w ⊎ other w → ⊥)
    (whole : (x : ℕ) (w : Way) → base_of w ≡ OfRoot (OfVariable (suc depth) x) → IsMovedBy (home (typing t) depth) v facts w ⊎ other w → ⊥)
    (cells : List Lodge) (begins : (c : Lodge) → Has cells c → (g : ℕ) × (y : ℕ) × (base_of c.way ≡ OfRoot (OfVariable g y)) × (g ≡ suc depth → ⊥)) where
  abbrev s : Typing
  s = typing t

  abbrev StandNow : List Return → List Way → Memory → Type 0
  StandNow returns ways m = StandsAway t sees settled own_law in_formals hands leaks depth deep v far sight facts scope other free whole cells begins returns ways m

  abbrev There : List Way → Memory → Type 0
  There ways m = backed.AreThere t sees settled own_law in_formals hands leaks depth deep v far sight facts scope other free whole cells begins ways m

  stands : (m : Memory) (k : Place) → IsPlainPlace s cells k → Kept s m hands → Owned (seen s m hands leaks)
      → ((c : Lodge) → Has cells c → Reaches (seen s m hands leaks) c.way (OfCell c.cell)) → IsStanding m k.base
  stands m k (inl (fixed, bare)) typed owned there = subst (IsStanding m) (sym fixed.base) tt
  stands m k (inr (c, has, lodged, plain)) typed owned there =
      let begin = begins c has in subst (IsStanding m) (sym lodged.base) (cell_live s settled m hands leaks typed c.way begin.0 begin.1 c.cell begin.2 owned (there c has))

  taken_stands : (m : Memory) (r : Return) (to : Way) → IsTaken s sees cells m depth v facts scope r to → Kept s m hands → Owned (seen s m hands leaks)
      → ((c : Lodge) → Has cells c → Reaches (seen s m hands leaks) c.way (OfCell c.cell)) → IsStanding m r.to.base
  taken_stands m r to taken typed owned there = elim (taken.0).inside.stands [
    | inl variable ↦ subst (IsStanding m) (sym variable.2) tt
    | inr cell ↦ (
        let found = (taken.0).among cell.0 cell.1 in
        let begin = begins found.0 found.1 in
        subst (IsStanding m) (ap memory.OfCell found.3 ∙ sym cell.2)
        (cell_live s settled m hands leaks typed found.0.way begin.0 begin.1 found.0.cell begin.2 owned (there found.0 found.1)))
  ]

  -- a scalar one
  copied_wholly : (r : Return) (rest : List Return) (ways : List Way) (m : Memory) → IsCopiedTo s cells r → There ways m → Kept s m hands → StandNow (r ∷ rest) ways m
      → AreTaken s sees cells m depth v facts scope rest ways
      → ((next : Memory) → There ways next → Kept s next hands → StandNow rest ways next → AreTaken s sees cells next depth v facts scope rest ways → AreWhollyBack t rest next)
      → AreWhollyBack t (r ∷ rest) m
  copied_wholly r rest ways m copied cells_there typed stand taken more =
      let formal : Place = variable_place (here t) r.formal in
      let ws : List machine.Word = words_of s m formal in
      let fixed : IsFixed s formal = formal_fixed t r.formal copied.0 in
      let plain : IsPlainSpot s sees settled own_law in_formals hands leaks m formal = variable_plain s sees settled own_law in_formals hands leaks formal (home s (here t).frame r.formal) r.formal fixed refl copied.0 m in
      let mid : Memory = moved_out s formal m in
      let next : Memory = stored s r.to ws mid in
      let first = moved_there s sees settled own_law in_formals hands leaks formal m plain typed in
      let second = stored_there s sees settled own_law in_formals hands leaks r.to mid
      (plain_place s sees settled own_law in_formals hands leaks (suc depth) cells begins mid r.to copied.1 first.typed
      (λ c has. same_reaches (seen s m hands leaks) (seen s mid hands leaks) first.same c.way (OfCell c.cell) (cells_there c has).0))
      ws (one_there s sees settled own_law in_formals hands leaks m formal plain typed) first.typed in
      let on : Enters s sees settled own_law in_formals hands leaks m next = one_then s sees settled own_law in_formals hands leaks m mid next first second in (
        stands m r.to copied.1 typed stand.owned (λ c has. (cells_there c has).0),
        fixed_wholly s settled own_law hands formal fixed m typed,
        more next (λ c has. (same_reaches (seen s m hands leaks) (seen s next hands leaks) on.same c.way (OfCell c.cell) (cells_there c has).0, (cells_there c has).1)) on.typed
            (more_gone (home s depth) v facts (AwayBy t sees settled own_law in_formals hands leaks depth deep v far sight facts scope other free whole cells begins (r ∷ rest) ways)
            (AwayBy t sees settled own_law in_formals hands leaks depth deep v far sight facts scope other free whole cells begins rest ways) (seen s next hands leaks)
            (λ w o. elim o [
              | inl away_there ↦ inl away_there
              | inr later ↦ elim later [
                | inl taken_there ↦ inr (inl taken_there)
                | inr left ↦ inr (inr (backed.left_more t sees settled own_law in_formals hands leaks depth deep v far sight facts scope other free whole cells begins r rest w left))
              ]
            ])
            (same_stand (home s depth) v facts (AwayBy t sees settled own_law in_formals hands leaks depth deep v far sight facts scope other free whole cells begins (r ∷ rest) ways)
            (seen s m hands leaks) (seen s next hands leaks) on.same stand))
            (backed.taken_on t sees settled own_law in_formals hands leaks depth deep v far sight facts scope other free whole cells begins m next rest ways
            (λ k w has there among bare p c held. bare p c
            (sym (backed.start_same t sees settled own_law in_formals hands leaks depth deep v far sight facts scope other free whole cells begins m next k w there on.hold
            (λ n q. cells_same s m next hands leaks on.same n q) (p ++ there.steps)) ∙ held)) taken),
      )

  pub back_wholly : (returns : List Return) (ways : List Way) (m : Memory) → AreTaken s sees cells m depth v facts scope returns ways → There ways m → Kept s m hands → StandNow returns ways m
      → AreWhollyBack t returns m
  back_wholly [] ways m taken there typed stand = tt
  back_wholly (r ∷ rest) [] m taken there typed stand =
      copied_wholly r rest [] m taken.0 there typed stand taken.1 (λ next on kept seen_next later. back_wholly rest [] next later on kept seen_next)
  back_wholly (r ∷ rest) (to ∷ ways) m (inl copied) there typed stand =
      copied_wholly r rest (to ∷ ways) m copied.0 there typed stand copied.1 (λ next on kept seen_next later. back_wholly rest (to ∷ ways) next later on kept seen_next)
  back_wholly (r ∷ rest) (to ∷ ways) m (inr (taken, apart, another, more)) there typed stand =
      let reach_cells : (c : Lodge) → Has cells c → Reaches (seen s m hands leaks) c.way (OfCell c.cell) = λ c has. (there c has).0 in
      let begin = backed.taken_base t sees settled own_law in_formals hands leaks depth deep v far sight facts scope other free whole cells begins m rest ways more in
      let next : Memory = stored s r.to (words_of s m (variable_place (here t) r.formal)) (moved_out s (variable_place (here t) r.formal) m) in (
        taken_stands m r to taken typed stand.owned reach_cells,
        inside_wholly s settled hands leaks (suc depth) depth v facts
            (AwayBy t sees settled own_law in_formals hands leaks depth deep v far sight facts scope other free whole cells begins (r ∷ rest) (to ∷ ways))
            (variable_place (here t) r.formal) (Object (OfVariable (suc depth) r.formal))
            (backed.formal_inside t sees settled own_law in_formals hands leaks depth deep v far sight facts scope other free whole cells begins r rest to ways m taken apart another begin typed stand reach_cells) m typed stand
            (backed.formal_there t sees settled own_law in_formals hands leaks depth deep v far sight facts scope other free whole cells begins r rest to ways m taken apart another begin typed stand reach_cells (seen s m hands leaks))
            (backed.clean t sees settled own_law in_formals hands leaks depth deep v far sight facts scope other free whole cells begins r rest to ways m taken apart another begin typed stand reach_cells),
        back_wholly rest ways next
            (backed.taken_on t sees settled own_law in_formals hands leaks depth deep v far sight facts scope other free whole cells begins m next rest ways
            (λ k w has inside_it among bare. backed.one_bare t sees settled own_law in_formals hands leaks depth deep v far sight facts scope other free whole cells begins r rest to ways m taken apart another begin typed stand reach_cells k w has inside_it among bare) more)
            (λ c has. (
              (let from = begins c has in
                  backed.one_stays t sees settled own_law in_formals hands leaks depth deep v far sight facts scope other free whole cells begins r rest to ways m taken apart another begin typed stand reach_cells
                  c.way from.0 from.1 from.2 from.3 ((there c has).1 to (inl refl)) c.cell (there c has).0),
              (λ k later. (there c has).1 k (inr later)),
            ))
            (backed.one_kept t sees settled own_law in_formals hands leaks depth deep v far sight facts scope other free whole cells begins r rest to ways m taken apart another begin typed stand reach_cells)
            (backed.one_stand t sees settled own_law in_formals hands leaks depth deep v far sight facts scope other free whole cells begins r rest to ways m taken apart another begin typed stand reach_cells),
      )
