-- Ways that begin at variables of frames below: what they reach doesn't go by the variables of the innermost frame.
use Rattle.std.proofs.Common.{◌≡◌, refl, sym, ap, ◌∙◌, subst, inl, inr, ℕ, ◌<◌, List, arith, Some, if◌then◌else◌}
use Rattle.machine.specs.flow_paths.Instructions.{Instruction}
use Rattle.machine.specs.flow_paths.Objects.{Typing, object_at, is_package_object}
use Rattle.machine.specs.Memory.{Slot, Memory, undeclared}
use Rattle.machine.specs.States.{Waiting, Leak}
use Rattle.soundness.specs.OwnedWays.Ways.{Step, OfVariable, OfHand, Loc, OfRoot, OfCell, Inside, Way, Object, Lost, Into, All, View, Reaches, base_of, number_of}
use Rattle.soundness.specs.Seen.{content, trunk, steps_in, word_in, seen, home}
use Rattle.soundness.proofs.Contents.{bool_cases}
use Rattle.soundness.proofs.Memories.{removed_other}
use Rattle.soundness.proofs.OwnedWays.Dropped.{named_base}
use Rattle.soundness.specs.OwnedLoans.Views.{on, Views, expand}
use Rattle.soundness.proofs.OwnedLoans.Ways.{in_part_way, base_on, lifts, lifted_way}
use Rattle.viewed_steps.specs.Traversals.{IsGivenTo, AreGiven}

-- What a location is a part of is a cell, or a variable of a frame below.
abbrev pub IsLow : ℕ → Loc → Type 0
IsLow depth (OfRoot (OfVariable f x)) = f < depth
IsLow depth (OfRoot (OfHand h)) = ⊥
IsLow depth (OfCell n) = Unit {0}
IsLow depth (Inside l i) = ⊥

module _ (depth : ℕ) (a b : View) (same : (l : Loc) → IsLow depth (trunk l) → a.word l ≡ b.word l) where
  reach_both : (w : Way) (f x : ℕ) → base_of w ≡ OfRoot (OfVariable f x) → f < depth → (l : Loc) → Reaches a w l → Reaches b w l × IsLow depth (trunk l)
  reach_both (Object r) f x base less l is = (is, subst (λ z. IsLow depth (trunk z)) (sym (is ∙ base)) less)
  reach_both (Lost n) f x base less l is = cc
  reach_both (Into w i) f x base less l (m, there, is) =
      (let one = reach_both w f x base less m there in ((m, one.0, is), subst (λ z. IsLow depth (trunk z)) (sym is) one.1))
  reach_both (All w) f x base less l (m, n, there, held, is) =
      (let one = reach_both w f x base less m there in ((m, n, one.0, sym (same m one.1) ∙ held, is), subst (λ z. IsLow depth (trunk z)) (sym is) tt))

  pub reaches_low : (w : Way) (f x : ℕ) → base_of w ≡ OfRoot (OfVariable f x) → f < depth → (l : Loc) → Reaches a w l → Reaches b w l
  reaches_low w f x base less l there = (reach_both w f x base less l there).0

-- A way that begins so.
abbrev pub BeginsLow : ℕ → Way → Type 0
BeginsLow depth w = (f : ℕ) × (x : ℕ) × (base_of w ≡ OfRoot (OfVariable f x)) × (f < depth)

-- where the scope of an object of the innermost frame ends
pub undeclared_words : (s : Typing) (depth y : ℕ) (m : Memory) (hands hands' : List Waiting) (leaks leaks' : List Leak) → (l : Loc) → IsLow depth (trunk l)
    → (seen s m hands leaks).word l ≡ (seen s (undeclared depth y m) hands' leaks').word l
undeclared_words s depth y m hands hands' leaks leaks' l low = by_trunk (trunk l) low
  where
    by_trunk : (k : Loc) → IsLow depth k → word_in s.table (content s m hands k) (steps_in l) ≡ word_in s.table (content s (undeclared depth y m) hands' k) (steps_in l)
    by_trunk (OfRoot (OfVariable f x)) less =
        ap (λ (z : List Slot). word_in s.table (record { of = (object_at s x).of; slots = z; owns = (content s m hands (OfRoot (OfVariable f x))).owns }) (steps_in l))
        (sym (removed_other s depth y f x (apart f x less) m.variables))
      where
        apart : (f x : ℕ) → f < depth → OfVariable depth y ≡ OfVariable f x → ⊥
        apart f x less e = (let same : depth ≡ f = cc in omega (arith, less, same))
    by_trunk (OfRoot (OfHand h)) never = absurd never
    by_trunk (OfCell n) low = refl
    by_trunk (Inside k i) never = absurd never

pub given_again : (s : Typing) (frame : ℕ) (v : Views) (i : Instruction) (view next : View) (w : Waiting) (was : IsGivenTo s view frame i v w)
    → ((u : Way) → u ≡ expand v (on (All (was.traverses).place) was.rest) → (k : ℕ) → Reaches view u (OfCell k) → Reaches next u (OfCell k)) → IsGivenTo s next frame i v w
given_again s frame v i view next w was reach = record {
  sub = was.sub;
  traverses = was.traverses;
  rest = was.rest;
  word = was.word;
  is = was.is;
  reached = λ k e. reach (expand v (on (All (was.traverses).place) was.rest)) refl k (was.reached k e);
  goes = was.goes;
}

-- What is given to a frame below begins so, if what its views go by does.
module _ (s : Typing) (depth frame : ℕ) (less : frame < depth) (some : 0 < depth) (v : Views) (views_low : (x : ℕ) (w : Way) → v.way x ≡ Some w → BeginsLow depth w)
    (parts_low : (x : ℕ) (p : List Step) (w : Way) → v.part_way x p ≡ Some w → BeginsLow depth w) where
  low_home : (x : ℕ) → home s frame x < depth
  low_home x = elim (bool_cases (is_package_object s x)) [
    | inl shared ↦ subst (λ z. z < depth) (sym (ap (λ b. if b then 0 else frame) shared)) some
    | inr own ↦ subst (λ z. z < depth) (sym (ap (λ b. if b then 0 else frame) own)) less
  ]

  pub given_low : (i : Instruction) (view : View) (w : Waiting) (given : IsGivenTo s view frame i v w)
      → BeginsLow depth (expand v (on (All (given.traverses).place) given.rest))
  given_low i view w given = elim (lifts v there) [
    | inl itself ↦ (
      home s frame (number_of (given.traverses).place),
      number_of (given.traverses).place,
      ap base_of itself ∙ base_on (All (given.traverses).place) given.rest ∙ named_base (home s frame) (given.traverses).place (given.traverses).named,
      low_home (number_of (given.traverses).place),
    )
    | inr (inr l) ↦ (let low = parts_low l.object l.steps l.way l.has in (low.0, low.1, ap base_of (in_part_way v there l) ∙ base_on l.way l.rest ∙ low.2, low.3))
    | inr (inl l) ↦ (let low = views_low l.object l.way l.has in (low.0, low.1, ap base_of (lifted_way v there l) ∙ base_on l.way l.rest ∙ low.2, low.3))
  ]
    where
      there : Way
      there = on (All (given.traverses).place) given.rest

  -- it is given still, where what begins so reaches what it did
  pub given_still : (i : Instruction) (view next : View) (waits : List Waiting)
      → ((w : Way) → BeginsLow depth w → (k : ℕ) → Reaches view w (OfCell k) → Reaches next w (OfCell k)) → AreGiven s view frame i v waits → AreGiven s next frame i v waits
  given_still i view next waits reach given w others same seen_there =
      let was = given w others same seen_there in
      given_again s frame v i view next w was (λ u same_way k there. reach u (subst (BeginsLow depth) (sym same_way) (given_low i view w was)) k there)
