-- What is read over both heaps, one after the other.
use Rattle.std.proofs.Common.{◌≡◌, refl, sym, ap, subst, Bool, true, false, List, Option, Some, None, if◌then◌else◌}
use Rattle.numbered_cells.specs.run_values.declared.value.Value.{Value}
use Rattle.numbered_cells.specs.machine.Evaluate.{Touched}
use Rattle.numbered_cells.specs.kept_cells.Cells.{Cell}
use Rattle.numbered_cells.specs.run_codes.Flat.{Got, Given, Stops, Broken, Stop, Raises, Traps, Memory, and_then, touched}
use Rattle.handled_runs.specs.Beside.{IsSilent, GotsAlike, mapped}

pub gots_mapped : {A B : Type 0} (f : A → B) (x : Got A) (y : Got B) → y ≡ mapped f x → GotsAlike (λ a b. b ≡ f a) x y
gots_mapped f (Given a) y e = subst (GotsAlike (λ a b. b ≡ f a) (Given a)) (sym e) refl
gots_mapped f (Stops (Raises x)) y e = e
gots_mapped f (Stops (Traps t)) y e = tt
gots_mapped f (Stops Memory) y e = e
gots_mapped f Broken y e = tt

pub gots_same : {A : Type 0} (x y : Got A) → y ≡ x → GotsAlike (λ a b. b ≡ a) x y
gots_same (Given a) y e = subst (GotsAlike (λ a b. b ≡ a) (Given a)) (sym e) refl
gots_same (Stops (Raises s)) y e = e
gots_same (Stops (Traps t)) y e = tt
gots_same (Stops Memory) y e = e
gots_same Broken y e = tt

pub gots_on : {A B : Type 0} (R S : A → B → Type 0) (x : Got A) (y : Got B) → ((a : A) (b : B) → R a b → S a b) → GotsAlike R x y → GotsAlike S x y
gots_on R S (Given a) (Given b) on is = on a b is
gots_on R S (Given a) (Stops y) on is = is
gots_on R S (Given a) Broken on is = is
gots_on R S (Stops (Raises e)) y on is = is
gots_on R S (Stops (Traps t)) y on is = tt
gots_on R S (Stops Memory) y on is = is
gots_on R S Broken y on is = tt

pub gots_then : {A B C D : Type 0} (R : A → B → Type 0) (S : C → D → Type 0) (x : Got A) (y : Got B) (F : A → Got C) (G : B → Got D) → GotsAlike R x y
    → ((a : A) (b : B) → x ≡ Given a → R a b → GotsAlike S (F a) (G b)) → GotsAlike S (and_then x F) (and_then y G)
gots_then R S (Given a) (Given b) F G is on = on a b refl is
gots_then R S (Given a) (Stops y) F G is on = absurd is
gots_then R S (Given a) Broken F G is on = absurd is
gots_then R S (Stops (Raises x)) y F G is on = ap (λ g. and_then g G) is
gots_then R S (Stops (Traps t)) y F G is on = tt
gots_then R S (Stops Memory) y F G is on = ap (λ g. and_then g G) is
gots_then R S Broken y F G is on = tt

-- What stops silently or is given over both.
pub given_both : {A B : Type 0} (R : A → B → Type 0) (x : Got A) (y : Got B) → ((s : Stop) → x ≡ Stops s → IsSilent s) → ((a : A) → x ≡ Given a → (b : B) × (y ≡ Given b) × R a b) → GotsAlike R x y
given_both R (Given a) y goes both = let is = both a refl in subst (GotsAlike R (Given a)) (sym is.1) is.2
given_both R (Stops (Raises e)) y goes both = absurd (goes (Raises e) refl)
given_both R (Stops (Traps t)) y goes both = tt
given_both R (Stops Memory) y goes both = absurd (goes Memory refl)
given_both R Broken y goes both = tt

-- ---- cells that are touched

as_there : (c : Cell) → c.freed ≡ false → c ≡ record { words = c.words; freed = false }
as_there c e = ap (λ b. record { words = c.words; freed = b }) e

-- What is given of a cell is of one that isn't freed.
pub there_of : {A : Type 0} (x : Option Cell) (f : Cell → Got A) (a : A) → touched x f ≡ Given a → (ws : List Value) × (x ≡ Some (record { words = ws; freed = false }))
there_of None f a e = cc
there_of (Some c) f a e = by c.freed refl e
  where
    by : (b : Bool) → c.freed ≡ b → (if b then Stops (Traps Touched) else f c) ≡ Given a → (ws : List Value) × (Some c ≡ Some (record { words = ws; freed = false }))
    by true is e = cc
    by false is e = (c.words, ap Some (as_there c is))

-- A touch stops silently, where what is read then does.
pub touch_silent : {A : Type 0} (x : Option Cell) (f : Cell → Got A) (s : Stop) → ((c : Cell) → f c ≡ Stops s → IsSilent s) → touched x f ≡ Stops s → IsSilent s
touch_silent None f s then_silent e = cc
touch_silent (Some c) f s then_silent e = by c.freed e
  where
    trap : (s : Stop) → Traps Touched ≡ s → IsSilent s
    trap (Raises x) e = cc
    trap (Traps t) e = tt
    trap Memory e = cc

    by : (b : Bool) → (if b then Stops (Traps Touched) else f c) ≡ Stops s → IsSilent s
    by true e = trap s (let same : Traps Touched ≡ s = cc in same)
    by false e = then_silent c e

-- What a touch gives is in relation, where it is of a cell that isn't freed.
pub touched_gots : {A B : Type 0} (R : A → B → Type 0) (x : Option Cell) (f : Cell → Got A) (y : Got B)
    → ((ws : List Value) → x ≡ Some (record { words = ws; freed = false }) → GotsAlike R (f (record { words = ws; freed = false })) y) → GotsAlike R (touched x f) y
touched_gots R None f y on = tt
touched_gots R (Some c) f y on = by c.freed refl
  where
    by : (b : Bool) → c.freed ≡ b → GotsAlike R (if b then Stops (Traps Touched) else f c) y
    by true is = tt
    by false is = subst (λ d. GotsAlike R (f d) y) (sym (as_there c is)) (on c.words (ap Some (as_there c is)))
