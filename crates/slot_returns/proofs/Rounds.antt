-- Formals that are copied back one after the other.
use Rattle.std.proofs.Common.{◌≡◌, ◌≢◌, false, List, [], ◌∷◌, Ok, Err, Result, refl, sym, ap, subst, ◌∙◌}
use Rattle.std.specs.Prelude.{OnOk, OnErr, IsErrOf}
use Rattle.type_definitions.specs.Types.{Table}
use Rattle.slot_heap.specs.Heaps.{Heap}
use Rattle.run_codes.specs.Flat.{Stop as Why, is_broken}
use Rattle.run_codes.specs.Points.{Return}
use Rattle.code_rows.specs.declared.stop.Stop.{Stop}
use Rattle.code_rows.specs.declared.stop.Stop.TheVariants as stop
use Rattle.code_rows.specs.Stops.{stop_of}
use Rattle.handled_runs.specs.Slots.{Slots}
use Rattle.slot_memory.specs.Memory.{Kept, Ghosts, Stands, Knows, slots, ghosts_of}
use Rattle.slot_returns.specs.Backs.{copied, fitting, Copies, IsFit, Checks, Copying, Copied, Stopped, Missing, on_copied, all_copied, CanCopy, CanStore, ComesTo, StoresAll, ChecksAll, CopiesAll}
use Rattle.slot_returns.proofs.Checked.{first_there, Reaches, reaches_first, reaches_whole, reaches_next, reaches_stop}

-- ---- they are checked

-- Those before what is left fit, whatever no code keeps.
pub record Tried {R : Type 0} (m : Kept R) (table : Table) (all left : List Return) : Type 0 where
  pub tried : (g : Ghosts) → all_copied table all (slots m g) ≢ Missing → Reaches table all left (slots m g)

module _ {R : Type 0} (Means : R → Heap → Type 0) (m : Kept R) (table : Table) (all : List Return) where
  pub tried_first : Tried m table all all
  tried_first = record { tried = λ g whole. reaches_first table all (slots m g) }

  module _ (r : Return) (rest : List Return) (turn : Tried m table all (r ∷ rest)) where
    pub tried_can : CanCopy Means m table all → Knows Means m (λ s. is_broken (fitting table r s.base s.stack) ≡ false)
    tried_can can =
        let whole = can.whole in
        (can.ghosts, (can.stands, reaches_whole table all r rest (slots m can.ghosts) whole (turn.tried can.ghosts whole)))

    pub tried_next : IsFit table r m.base m.stack → Tried m table all rest
    tried_next fit = record {
      tried = λ g whole. reaches_next table all r rest (slots m g) whole (turn.tried g whole) fit.words fit.held fit.below;
    }

    pub tried_stops : (x : Stop) → Checks {U = Unit {0}} table r m.base m.stack (Err x) → ChecksAll {U = Unit {0}} m table all (Err x)
    tried_stops x checks = λ other g whole. reaches_stop table all r rest (slots m g) whole (turn.tried g whole) (stop_of x) (checks other)

  pub tried_end : Tried m table all [] → ChecksAll m table all (Ok (tt {0}))
  tried_end turn = λ g whole. let a = turn.tried g whole in (a.after, a.is)

-- ---- they are stored

-- What is left is copied from where the memory stands now.
pub record Round {R : Type 0} (Means : R → Heap → Type 0) (before : Kept R) (table : Table) (all left : List Return) (now : Kept R) : Type 0 where
  pub round :
      (g : Ghosts) → Stands Means before g → all_copied table all (slots before g) ≢ Missing → ComesTo Means (all_copied table all (slots before g)) (all_copied table left) now

copied_there : (x : Copying) (s : Slots) → x ≡ Copied s → x ≢ Missing
copied_there x s is missing = absurd (let never : Copied s ≡ Missing = sym is ∙ missing in cc)

copied_or_stopped : (x : Copying) (s t : Slots) (y : Why) → x ≡ Copied s → x ≡ Stopped y t → ⊥
copied_or_stopped x s t y is stops = let never : Copied s ≡ Stopped y t = sym is ∙ stops in cc

never_memory : (x : Stop) → (x ≢ stop.Memory → ⊥) → x ≡ stop.Memory
never_memory (stop.Raises e) other = absurd (other (λ is. cc))
never_memory stop.Memory other = refl

module _ {R : Type 0} (Means : R → Heap → Type 0) (before : Kept R) (table : Table) (all : List Return) where
  pub round_first : Round Means before table all all before
  round_first = record { round = λ g stands whole. record { after = slots before g; is = refl; shows = (stands, refl) } }

  left_whole : (r : Return) (rest : List Return) (now : Kept R) (g : Ghosts) → all_copied table all (slots before g) ≢ Missing
      → (a : ComesTo Means (all_copied table all (slots before g)) (all_copied table (r ∷ rest)) now) → is_broken (copied table r (slots now (ghosts_of a.after))) ≡ false
  left_whole r rest now g whole a =
      let P : Slots → Type 0 = λ s. is_broken (copied table r s) ≡ false in
      subst P (sym a.shows.1) (first_there a.after (copied table r a.after) (all_copied table rest) (λ missing. whole (a.is ∙ missing)))

  pub round_can : (r : Return) (rest : List Return) (now : Kept R) → CanStore Means before table all → Round Means before table all (r ∷ rest) now
      → Knows Means now (λ s. is_broken (copied table r s) ≡ false)
  round_can r rest now can turn =
      let whole = copied_there (all_copied table all (slots before can.ghosts)) can.after can.is in
      let a = turn.round can.ghosts can.stands whole in
      (ghosts_of a.after, (a.shows.0, left_whole r rest now can.ghosts whole a))

  pub round_next : (r : Return) (rest : List Return) (now next : Kept R) → Round Means before table all (r ∷ rest) now
      → Copies Means now (copied table r) (Ok (tt {0})) next → Round Means before table all rest next
  round_next r rest now next turn copies = record {
    round = λ g stands whole.
        let a = turn.round g stands whole in
        let b = copies.stored (ghosts_of a.after) a.shows.0 (left_whole r rest now g whole a) in
        record {
          after = b.after;
          is = a.is ∙ ap (λ x. on_copied a.after x (all_copied table rest)) (ap (copied table r) (sym a.shows.1) ∙ b.is);
          shows = b.shows;
        };
  }

  -- A formal that was checked doesn't stop it.
  pub round_stops : (r : Return) (rest : List Return) (now next : Kept R) (x : Stop) → CanStore Means before table all → Round Means before table all (r ∷ rest) now
      → Copies {U = Unit {0}} Means now (copied table r) (Err x) next → x ≡ stop.Memory
  round_stops r rest now next x can turn copies = never_memory x (λ other.
      let whole = copied_there (all_copied table all (slots before can.ghosts)) can.after can.is in
      let a = turn.round can.ghosts can.stands whole in
      let stops = (copies other).stops (ghosts_of a.after) a.shows.0 (left_whole r rest now can.ghosts whole a) in
      copied_or_stopped (all_copied table all (slots before can.ghosts)) can.after a.after (stop_of x) can.is
      (a.is ∙ ap (λ y. on_copied a.after y (all_copied table rest)) (ap (copied table r) (sym a.shows.1) ∙ stops)))

  pub round_end : (now : Kept R) → Round Means before table all [] now → StoresAll Means before table all now
  round_end now turn = record { stored = λ g stands whole. turn.round g stands whole }

-- ---- all or none

module _ {R : Type 0} (Means : R → Heap → Type 0) (before : Kept R) (table : Table) where
  pub all_can : (returns : List Return) → CanCopy Means before table returns → ChecksAll before table returns (Ok (tt {0})) → CanStore Means before table returns
  all_can returns can checks =
      let a = checks can.ghosts can.whole in
      record { ghosts = can.ghosts; stands = can.stands; after = a.0; is = a.1 }

  pub all_halted : {U : Type 0} (returns : List Return) (x : Stop) → ChecksAll {U = Unit {0}} before table returns (Err x) → CopiesAll {U = U} Means before table returns (Err x) before
  all_halted returns x checks = record { comes = λ g stands whole other. record { stops = checks other g whole; same = refl } }

  pub all_stored : {U : Type 0} (returns : List Return) (result : Result U Stop) (now : Kept R) → OnOk result (StoresAll Means before table returns now) → OnErr result (IsErrOf result stop.Memory)
      → CopiesAll Means before table returns result now
  all_stored returns (Ok u) now stores memory = record { comes = λ g stands whole. stores.stored g stands whole }
  all_stored returns (Err x) now stores memory = record { comes = λ g stands whole other. absurd (other (same x memory)) }
    where
      same : {U : Type 0} (x : Stop) → ◌≡◌ {A = Result U Stop} (Err x) (Err stop.Memory) → x ≡ stop.Memory
      same x is = cc

  -- There is none.
  pub none_copied : {U : Type 0} (u : U) → CopiesAll {U = U} Means before table [] (Ok u) before
  none_copied u = record { comes = λ g stands whole. record { after = slots before g; is = refl; shows = (stands, refl) } }

  -- There is one alone.
  pub one_can : (r : Return) → CanCopy Means before table (r ∷ []) → Knows Means before (λ s. is_broken (copied table r s) ≡ false)
  one_can r can = (can.ghosts, (can.stands, first_there (slots before can.ghosts) (copied table r (slots before can.ghosts)) Copied can.whole))

  pub one_alone : {U : Type 0} (r : Return) (result : Result U Stop) (now : Kept R) → Copies Means before (copied table r) result now → CopiesAll Means before table (r ∷ []) result now
  one_alone r (Ok u) now copies = record {
    comes = λ g stands whole.
        let b = copies.stored g stands (first_there (slots before g) (copied table r (slots before g)) Copied whole) in
        record { after = b.after; is = ap (λ x. on_copied (slots before g) x Copied) b.is; shows = b.shows };
  }
  one_alone r (Err x) now copies = record {
    comes = λ g stands whole other.
        let b = copies other in
        record {
          stops = record {
            after = slots before g;
            is = ap (λ y. on_copied (slots before g) y Copied) (b.stops g stands (first_there (slots before g) (copied table r (slots before g)) Copied whole));
            left = λ s. refl;
          };
          same = b.same;
        };
  }
