-- A memory on its way to what is settled.
use Rattle.std.proofs.Common.{◌≡◌, ℕ, zero, suc, ◌+◌, ◌<◌, List, [], ◌∷◌, length, drop, get_or, refl, sym, ap, subst, ◌∙◌, arith}
use Rattle.run_codes.specs.Flat.{Given, Spot, InStack, InCell}
use Rattle.slot_heap.specs.Heaps.{Heap}
use Rattle.handled_runs.specs.Slots.{Slots}
use Rattle.handled_runs.specs.Changes.{settled}
use Rattle.slot_memory.specs.declared.spot.Move.{Move as Noted}
use Rattle.slot_memory.specs.declared.spot.Spot.{Spot as Place}
use Rattle.slot_memory.specs.Memory.{Kept, Ghosts, Stands, Shows, slots, ghosts_of, beyond, single}
use Rattle.slot_memory.specs.Moves.{IsThere, AreThere, cleared, all_cleared, moved_spot, moved_spots}
use Rattle.slot_memory.specs.Spots.{spot_of}
use Rattle.slot_memory.proofs.Settled.{emptied_cleared}

-- Nothing is noted.
abbrev pub bare : Slots → Slots
bare s = record s { moves = [] }

-- The memory stands for some slots. What is left to clear leads to these.
pub record Settling {R : Type 0} (Means : R → Heap → Type 0) (m : Kept R) (before : Ghosts) (t : Slots) (left : List Spot) : Type 0 where
  pub ghosts : Ghosts
  pub stands : Stands Means m ghosts
  pub moves : ghosts.moves ≡ before.moves
  pub rest : all_cleared left (bare (slots m ghosts)) ≡ t
  pub there : AreThere (bare (slots m ghosts)) left

pub settling_first : {R : Type 0} (Means : R → Heap → Type 0) (m : Kept R) (g : Ghosts) (t : Slots) → Stands Means m g → settled (slots m g) ≡ Given t
    → Settling Means m g t (single g.moves)
settling_first Means m g t stands is =
    let c = emptied_cleared g.moves (bare (slots m g)) t is in
    record { ghosts = g; stands = stands; moves = refl; rest = c.0; there = c.1 }

there_bare : (s : Slots) (q : Spot) → IsThere (bare s) q → IsThere s q
there_bare s (InStack n) is = is
there_bare s (InCell h o) is = is

cleared_bare : (s : Slots) (q : Spot) → bare (cleared s q) ≡ cleared (bare s) q
cleared_bare s (InStack n) = refl
cleared_bare s (InCell h o) = refl

cleared_moves : (s : Slots) (q : Spot) → (cleared s q).moves ≡ s.moves
cleared_moves s (InStack n) = refl
cleared_moves s (InCell h o) = refl

-- What is there of the first spot that is left.
pub settling_there : {R : Type 0} (Means : R → Heap → Type 0) (m : Kept R) (before : Ghosts) (t : Slots) (q : Spot) (left : List Spot)
    → (s : Settling Means m before t (q ∷ left)) → IsThere (slots m s.ghosts) q
settling_there Means m before t q left s = there_bare (slots m s.ghosts) q s.there.0

pub settling_next : {R : Type 0} (Means : R → Heap → Type 0) (m n : Kept R) (before : Ghosts) (t : Slots) (q : Spot) (left : List Spot)
    → (s : Settling Means m before t (q ∷ left)) → Shows Means n (cleared (slots m s.ghosts) q) → Settling Means n before t left
settling_next Means m n before t q left s shows =
    let u : Slots = cleared (slots m s.ghosts) q in
    let e : bare (slots n (ghosts_of u)) ≡ cleared (bare (slots m s.ghosts)) q = ap bare shows.1 ∙ cleared_bare (slots m s.ghosts) q in
    let P : Slots → Type 0 = λ v. AreThere v left in
    record {
      ghosts = ghosts_of u;
      stands = shows.0;
      moves = cleared_moves (slots m s.ghosts) q ∙ s.moves;
      rest = ap (all_cleared left) e ∙ s.rest;
      there = subst P (sym e) s.there.1;
    }

-- Nothing is left.
pub settling_end : {R : Type 0} (Means : R → Heap → Type 0) (m : Kept R) (before : Ghosts) (t : Slots) (s : Settling Means m before t [])
    → Shows Means (record m { moves = [] }) t
settling_end Means m before t s =
    let P : Slots → Type 0 = λ v. Shows Means (record m { moves = [] }) v in
    subst P s.rest (record { cells = s.stands.cells; moves = refl }, refl)

-- ---- what is noted, one after the other

moved_after : (items : List Noted) (i : ℕ) (d : Noted) → i < length items → drop i (moved_spots items) ≡ moved_spot (get_or items i d) ∷ drop (suc i) (moved_spots items)
moved_after [] i d lt = absurd (omega (arith, lt))
moved_after (m ∷ items) zero d lt = refl
moved_after (m ∷ items) (suc i) d lt = moved_after items i d (omega (arith, lt))

moved_next : (items : List Noted) (i : ℕ) (d : Noted) → i < length items → drop i (moved_spots items) ≡ moved_spot (get_or items i d) ∷ drop (i + 1) (moved_spots items)
moved_next items i d lt = moved_after items i d lt ∙ ap (λ n. moved_spot (get_or items i d) ∷ drop n (moved_spots items)) (one_more i)
  where
    one_more : (i : ℕ) → suc i ≡ i + 1
    one_more i = omega arith

pub moved_long : (items : List Noted) → length (moved_spots items) ≡ length items
moved_long [] = refl
moved_long (m ∷ items) = ap suc (moved_long items)

pub moved_at : (items : List Noted) (i : ℕ) (found : Noted) (q : Place) (spots : List Spot) → spots ≡ moved_spots items → i < length items
    → found ≡ get_or items i found → q ≡ found.spot → drop i spots ≡ beyond (spot_of q) found.offset ∷ drop (i + 1) spots
moved_at items i found q spots same lt read is =
    let P : List Spot → Type 0 = λ l. drop i l ≡ beyond (spot_of q) found.offset ∷ drop (i + 1) l in
    subst P (sym same)
    (moved_next items i found lt
    ∙ ap (λ m. moved_spot m ∷ drop (i + 1) (moved_spots items)) (sym read)
    ∙ ap (λ p. beyond (spot_of p) found.offset ∷ drop (i + 1) (moved_spots items)) (sym is))
