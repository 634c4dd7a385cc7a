-- Outcomes that are alike in the course of a point: what is read, copied and moved.
use Rattle.std.proofs.Common.{◌≡◌, refl, sym, ap, subst, ℕ, zero, suc, ◌<◌, arith, false, List, [], ◌∷◌, append-nil, length, slice_get, Some, ℤ}
use mathlib.Core.Logic.{inl, inr}
use Rattle.numbered_cells.specs.run_values.declared.value.Kind.{Kind}
use Rattle.numbered_cells.specs.kept_cells.Cells.{Cell}
use Rattle.numbered_cells.specs.run_codes.Codes.{Place}
use Rattle.numbered_cells.specs.run_codes.Flat.{Flat, Made, Done, Halted, Got, Given, Stops, Broken, Stop, Raises, Traps, Memory, Spot, InStack, InCell, touched, moved_out}
use Rattle.numbered_cells.specs.run_codes.Flat as flat
use Rattle.handled_runs.specs.Slots.{Slots}
use Rattle.handled_runs.specs.Slots as slots
use Rattle.handled_runs.specs.Changes.{moving}
use Rattle.handled_runs.specs.Values.{Outcome, Gives, Ends, Fails, reads, copies, moves}
use Rattle.handled_runs.specs.Beside.{IsSilent, GotsAlike, all_renamed, spot_renamed, NameWords}
use Rattle.handled_runs.specs.Looks.{LooksAt, AreKept, IsClear}
use Rattle.handled_runs.specs.Alike.{StandAt, Wherever, LooksThere, Alike, AreAlike, StopsAlike}
use Rattle.handled_runs.specs.Marks.{CellsUnmarked, MoveStands, During}
use Rattle.handled_runs.proofs.Gots.{there_of}
use Rattle.handled_runs.proofs.Kept.{words_kept}
use Rattle.handled_runs.proofs.Places.{spot_gots}
use Rattle.handled_runs.proofs.There.{AreRenamed, held_gots, moved_silent}
use Rattle.handled_runs.proofs.Unmarked.{spot_same, held_same}
use Rattle.handled_runs.proofs.Marking.{marking, during_clear, during_moved}

module _ (handles : List ℕ) (here taken : List Kind) where
  pub silent_stops : (x : Stop) (m : Flat) (r : Outcome) → IsSilent x → StopsAlike handles here taken x m r
  silent_stops x m (Gives us s) e = e
  silent_stops x m (Ends y s) e = inl e
  silent_stops x m Fails e = e

pub slice_below : {A : Type 0} (xs : List A) (n : ℕ) (a : A) → slice_get xs n ≡ Some a → n < length xs
slice_below [] n a e = cc
slice_below (x ∷ xs) zero a e = omega arith
slice_below (x ∷ xs) (suc n) a e = let less = slice_below xs n a e in omega (arith, less)

pub unmarked_long : (cs ds : List Cell) → CellsUnmarked cs ds → length cs ≡ length ds
unmarked_long [] [] are = refl
unmarked_long [] (d ∷ ds) are = absurd are
unmarked_long (c ∷ cs) [] are = absurd are
unmarked_long (c ∷ cs) (d ∷ ds) are = ap suc (unmarked_long cs ds are.2)

module _ (handles : List ℕ) (here taken : List Kind) (m : Flat) (s : Slots) (is : During handles here taken m s) where
  -- what is given, with no handle more
  pub given_alike : (ks : List Kind) (zs : List ℤ) (n : Flat) (t : Slots) → length ks ≡ length zs → NameWords (length handles) ks zs → AreKept ks zs → During handles here taken n t
      → Alike handles here taken ks zs n (all_renamed handles ks zs) t
  given_alike ks zs n t known names kept during = record {
    more = [];
    words = ap (λ hs. all_renamed hs ks zs) (sym (append-nil handles));
    known = known;
    names = subst (λ hs. NameWords (length hs) ks zs) (sym (append-nil handles)) names;
    kept = kept;
    during = subst (λ hs. During hs here taken n t) (sym (append-nil handles)) during;
  }

  pub stops_alike : (x : Stop) → StopsAlike handles here taken x m (Ends x s)
  stops_alike x = inr (inr (refl, ([], subst (λ hs. During hs here taken m s) (sym (append-nil handles)) is)))

  -- after what is only read
  pub reads_on : {A B : Type 0} (R : A → B → Type 0) (ks : List Kind) (x : Got A) (y : Got B) (F : A → Made (List ℤ)) (G : B → Outcome) → GotsAlike R x y
      → ((a : A) (b : B) → x ≡ Given a → R a b → AreAlike handles here taken ks (F a) (G b)) → AreAlike handles here taken ks (flat.reads m x F) (reads s y G)
  reads_on R ks (Given a) (Given b) F G same on = on a b refl same
  reads_on R ks (Given a) (Stops y) F G same on = absurd same
  reads_on R ks (Given a) Broken F G same on = absurd same
  reads_on R ks (Stops (Raises e)) y F G same on = subst (λ g. AreAlike handles here taken ks (Halted (Raises e) m) (reads s g G)) (sym same) (stops_alike (Raises e))
  reads_on R ks (Stops (Traps t)) y F G same on = silent_stops handles here taken (Traps t) m (reads s y G) tt
  reads_on R ks (Stops Memory) y F G same on = subst (λ g. AreAlike handles here taken ks (Halted Memory m) (reads s g G)) (sym same) (stops_alike Memory)
  reads_on R ks Broken y F G same on = tt

  -- ---- what stands at a place

  pub clear : IsClear here taken is.whole
  clear = during_clear handles here taken m s is

  stand_whole : (q : Spot) (ks : List Kind) → StandAt m here q ks → StandAt is.whole here q ks
  stand_whole (InStack n) ks stand =
      let less = stand.1 in
      let first = is.unmarked.known in
      let second = is.beside.known in
      (stand.0, omega (arith, less, first, second))
  stand_whole (InCell n o) ks stand = tt

  pub spots_alike : (p : Place) → Wherever m.base (λ x. LooksAt x here taken p) → GotsAlike (λ q r. r ≡ spot_renamed handles q) (flat.spot m p) (slots.spot s p)
  spots_alike p looks =
      subst (λ g. GotsAlike (λ q r. r ≡ spot_renamed handles q) g (slots.spot s p)) (spot_same here taken is.whole m is.unmarked is.kept p (looks m refl))
      (spot_gots handles here taken is.whole s is.beside clear p (looks is.whole is.unmarked.base))

  pub helds_alike : (q : Spot) (ks : List Kind) → StandAt m here q ks → GotsAlike (AreRenamed handles ks) (flat.held m q ks) (slots.held s (spot_renamed handles q) ks)
  helds_alike q ks stand =
      subst (λ g. GotsAlike (AreRenamed handles ks) g (slots.held s (spot_renamed handles q) ks)) (held_same here taken is.whole m is.unmarked is.kept q ks stand)
      (held_gots handles here taken is.whole s is.beside q ks (stand_whole q ks stand) (λ zs e. words_kept here taken is.whole clear q ks zs (stand_whole q ks stand) e))

  pub move_stands : (q : Spot) (ks : List Kind) (gone : List ℕ) (n : Flat) → StandAt m here q ks → moved_out m q ks gone ≡ Given n → MoveStands here (length handles) q ks
  move_stands (InStack i) ks gone n stand e =
      let less = stand.1 in
      let known = is.unmarked.known in
      (stand.0, omega (arith, less, known))
  move_stands (InCell i o) ks gone n stand e =
      let there = there_of (slice_get m.cells i) (marking m i o ks gone) n e in
      let less = slice_below m.cells i (record { words = there.0; freed = false }) there.1 in
      let same = unmarked_long is.whole.cells m.cells is.unmarked.cells in
      let long = is.beside.cells.len in
      omega (arith, less, same, long)

  -- ---- copies and moves

  there : (p : Place) (ks : List Kind) → LooksThere m.base here taken p ks → Wherever m.base (λ x. LooksAt x here taken p)
  there p ks looks x e = (looks x e).0

  pub copied_alike : (p : Place) (ks : List Kind) → LooksThere m.base here taken p ks
      → AreAlike handles here taken ks (flat.reads m (flat.spot m p) (λ q. flat.reads m (flat.held m q ks) (λ zs. Done zs m))) (copies s (slots.spot s p) ks)
  copied_alike p ks looks =
      reads_on (λ q r. r ≡ spot_renamed handles q) ks (flat.spot m p) (slots.spot s p) (λ q. flat.reads m (flat.held m q ks) (λ zs. Done zs m)) (λ q. reads s (slots.held s q ks) (λ zs. Gives zs s))
      (spots_alike p (there p ks looks))
      (λ q r found same.
      subst (λ x. AreAlike handles here taken ks (flat.reads m (flat.held m q ks) (λ zs. Done zs m)) (reads s (slots.held s x ks) (λ zs. Gives zs s))) (sym same)
      (reads_on (AreRenamed handles ks) ks (flat.held m q ks) (slots.held s (spot_renamed handles q) ks) (λ zs. Done zs m) (λ zs. Gives zs s) (helds_alike q ks ((looks m refl).1 q found))
      (λ zs us at words. subst (λ x. Alike handles here taken ks zs m x s) (sym words.words) (given_alike ks zs m s words.known words.names words.kept is))))

  pub moved_alike : (p : Place) (ks : List Kind) (gone : List ℕ) → LooksThere m.base here taken p ks
      → AreAlike handles here taken ks (flat.reads m (flat.spot m p) (λ q. flat.reads m (flat.held m q ks) (λ zs. flat.reads m (moved_out m q ks gone) (Done zs)))) (moves s (slots.spot s p) ks gone)
  moved_alike p ks gone looks =
      reads_on (λ q r. r ≡ spot_renamed handles q) ks (flat.spot m p) (slots.spot s p) (λ q. flat.reads m (flat.held m q ks) (λ zs. flat.reads m (moved_out m q ks gone) (Done zs)))
      (λ q. reads s (slots.held s q ks) (λ zs. Gives zs (moving s q ks gone))) (spots_alike p (there p ks looks))
      (λ q r found same.
      subst (λ x. AreAlike handles here taken ks (flat.reads m (flat.held m q ks) (λ zs. flat.reads m (moved_out m q ks gone) (Done zs))) (reads s (slots.held s x ks) (λ zs. Gives zs (moving s x ks gone)))) (sym same)
      (reads_on (AreRenamed handles ks) ks (flat.held m q ks) (slots.held s (spot_renamed handles q) ks) (λ zs. flat.reads m (moved_out m q ks gone) (Done zs))
      (λ zs. Gives zs (moving s (spot_renamed handles q) ks gone)) (helds_alike q ks ((looks m refl).1 q found))
      (λ zs us at words. by q ((looks m refl).1 q found) zs us words (moved_out m q ks gone) refl)))
    where
      by : (q : Spot) → StandAt m here q ks → (zs us : List ℤ) → AreRenamed handles ks zs us → (g : Got Flat) → moved_out m q ks gone ≡ g
          → AreAlike handles here taken ks (flat.reads m g (Done zs)) (Gives us (moving s (spot_renamed handles q) ks gone))
      by q stand zs us words (Given n) e =
          subst (λ x. Alike handles here taken ks zs n x (moving s (spot_renamed handles q) ks gone)) (sym words.words)
          (given_alike ks zs n (moving s (spot_renamed handles q) ks gone) words.known words.names words.kept
          (during_moved handles here taken m n s q ks gone is (move_stands q ks gone n stand e) e).0)
      by q stand zs us words (Stops t) e = moved_silent m q ks gone t e
      by q stand zs us words Broken e = tt
