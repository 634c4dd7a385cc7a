-- What a search finds among identifiers in the order of the text.
use Rattle.std.proofs.Common.{◌≡◌, ◌∙◌, ℕ, zero, suc, ◌+◌, ◌-◌, ◌<◌, ◌≤◌, Bool, true, false, List, [], ◌∷◌, length, get_or, Some, None, inl, inr, IsTrue, refl, sym, ap, arith}
use Rattle.std.specs.declared.cmp.Ordering.{Ordering}
use Rattle.std.specs.declared.cmp.Ordering.TheVariants.{Less, Equal, Greater}
use Rattle.std.specs.Ordering.{is_eq, is_lt, nat_cmp, ordering_reverse}
use Rattle.std.specs.Cmp.{both_tied, unsigned_ties}
use Rattle.std.specs.List.{IsAllAdjacentAnswer}
use Rattle.std.proofs.lemmas.Bool.{cases_lt}
use Rattle.std.proofs.lemmas.List.{get_or_default}
use Rattle.spark_base.specs.declared.position.Pos.{Pos}
use Rattle.spark_base.specs.Positions.{position_cmp, Precedes}
use Rattle.spark_base.proofs.Positions.{position_cmp-equal, position_cmp-flip, Precedes-trans}
use Rattle.name_events.specs.declared.declaration.Identified.{Identified}
use Rattle.name_events.specs.Identified.{number_at, same_position}
use Rattle.expression_lowering.specs.NumberIndexes.{BeginsBehind, EndsBefore, InTextOrder}

-- positions that the order doesn't tell apart are the same
same_position-compared : (a b : Pos) → same_position a b ≡ is_eq (position_cmp a b)
same_position-compared a b =
    both_tied _ _ (nat_cmp a.file b.file) _ (unsigned_ties a.file b.file)
    (both_tied _ _ (nat_cmp a.line b.line) (nat_cmp a.column b.column) (unsigned_ties a.line b.line) (unsigned_ties a.column b.column))

-- the `i`th identifier is the first one with this position
number_at-found : (numbers : List Identified) (pos : Pos) (i : ℕ) (d : Identified) → i < length numbers
    → position_cmp (get_or numbers i d).pos pos ≡ Equal
    → ((k : ℕ) → k < i → is_eq (position_cmp (get_or numbers k d).pos pos) ≡ false)
    → number_at numbers pos ≡ Some (get_or numbers i d).number
number_at-found [] pos i d within here before = absurd (omega arith)
number_at-found (item ∷ rest) pos zero d within here before = rw (same_position-compared item.pos pos, here) refl
number_at-found (item ∷ rest) pos (suc i) d within here before =
    rw (same_position-compared item.pos pos, before 0 (omega arith))
    (number_at-found rest pos i d (omega arith) here (λ k below. before (suc k) (omega arith)))

-- no identifier with this position
number_at-none : (numbers : List Identified) (pos : Pos) (d : Identified)
    → ((k : ℕ) → k < length numbers → is_eq (position_cmp (get_or numbers k d).pos pos) ≡ false)
    → number_at numbers pos ≡ None
number_at-none [] pos d differs = refl
number_at-none (item ∷ rest) pos d differs =
    rw (same_position-compared item.pos pos, differs 0 (omega arith))
    (number_at-none rest pos d (λ k below. differs (suc k) (omega arith)))

-- a position after another compares as greater
position_cmp-behind : (a b : Pos) → Precedes b a → position_cmp a b ≡ Greater
position_cmp-behind a b before = position_cmp-flip a b ∙ ap ordering_reverse before

-- and what compares as greater comes after it
pub position_cmp-ahead : (a b : Pos) → position_cmp a b ≡ Greater → Precedes b a
position_cmp-ahead a b behind = position_cmp-flip b a ∙ ap ordering_reverse behind

module _ (numbers : List Identified) (ordered : InTextOrder numbers) (pos : Pos) where
  -- the identifier at a place has the position
  pub found_at : (i : ℕ) (d : Identified) → i < length numbers → position_cmp (get_or numbers i d).pos pos ≡ Equal
      → number_at numbers pos ≡ Some (get_or numbers i d).number
  found_at i d within here =
      let same = position_cmp-equal _ pos here in
      number_at-found numbers pos i d within here
      (λ k less. ap is_eq (ap (position_cmp (get_or numbers k d).pos) (sym same) ∙ ordered k i d less within))

  -- up to an identifier that stands before the position, all do
  pub ends_with : (i j : ℕ) (d : Identified) → i < length numbers → j ≤ i + 1 → Precedes (get_or numbers i d).pos pos
      → EndsBefore numbers j pos
  ends_with i j d within le here k e below =
      let at : ℕ → Pos = λ n. (get_or numbers n e).pos in
      let here : Precedes (at i) pos = rw (get_or_default numbers i e d within) here in
      elim (cases_lt k i) [
        | inl less ↦ Precedes-trans (at k) (at i) pos (ordered k i e less within) here
        | inr not_less ↦ let same : k ≡ i = omega arith in rw same here
      ]

  -- from an identifier on that stands after the position, all do
  pub begins_with : (i : ℕ) (d : Identified) → i < length numbers → Precedes pos (get_or numbers i d).pos
      → BeginsBehind numbers i pos
  begins_with i d within here k e above below =
      let at : ℕ → Pos = λ n. (get_or numbers n e).pos in
      let here : Precedes pos (at i) = rw (get_or_default numbers i e d within) here in
      elim (cases_lt i k) [
        | inl less ↦ Precedes-trans pos (at i) (at k) here (ordered i k e less below)
        | inr not_less ↦ let same : k ≡ i = omega arith in rw same here
      ]

-- all identifiers stand before the position or after it
pub none_between : (numbers : List Identified) (pos : Pos) (from to : ℕ) → EndsBefore numbers from pos
    → BeginsBehind numbers to pos → to ≤ from → number_at numbers pos ≡ None
none_between numbers pos from to before behind empty =
    let d : Identified = record { pos = pos; number = 0 } in
    number_at-none numbers pos d (λ k below. elim (cases_lt k from) [
      | inl less ↦ ap is_eq (before k d less)
      | inr not_less ↦ ap is_eq (position_cmp-behind (get_or numbers k d).pos pos (behind k d (omega arith) below))
    ])

module _ (numbers : List Identified)
    (next : (k : ℕ) (d : Identified) → k + 1 < length numbers → Precedes (get_or numbers k d).pos (get_or numbers (k + 1) d).pos) where
  later : (i n j : ℕ) (d : Identified) → j ≡ i + 1 + n → j < length numbers → Precedes (get_or numbers i d).pos (get_or numbers j d).pos
  later i zero j d e within = let e : j ≡ i + 1 = omega (arith, e) in rw e (next i d (omega arith))
  later i (suc n) j d e within =
      let e : j ≡ i + 1 + n + 1 = omega (arith, e) in
      let at : ℕ → Pos = λ k. (get_or numbers k d).pos in
      rw e (Precedes-trans (at i) (at (i + 1 + n)) (at (i + 1 + n + 1)) (later i n (i + 1 + n) d refl (omega arith)) (next (i + 1 + n) d (omega arith)))

  -- neighbours in order are enough
  in_order_from_neighbours : InTextOrder numbers
  in_order_from_neighbours i j d less within = later i (j - i - 1) j d (omega arith) within

-- what the test of neighbours says
pub is_lt-Less : (o : Ordering) → true ≡ is_lt o → o ≡ Less
is_lt-Less Less e = refl
is_lt-Less Equal e = cc
is_lt-Less Greater e = cc

pub in_order_from_answer : (numbers : List Identified) (r : Bool)
    → IsAllAdjacentAnswer (λ one next b. b ≡ is_lt (position_cmp one.pos next.pos)) numbers r → IsTrue r → InTextOrder numbers
in_order_from_answer numbers true answer e = in_order_from_neighbours numbers (λ k d within. is_lt-Less _ (answer k d within))
in_order_from_answer numbers false answer e = cc
