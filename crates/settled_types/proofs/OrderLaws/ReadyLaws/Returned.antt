-- Along the control paths of a function no return comes after another one, and the end of the call comes after one.
use Rattle.std.proofs.Common.{◌≡◌, refl, sym, ap, ◌∙◌, subst, ◌⊎◌, inl, inr, ℕ, suc, ◌+◌, Bool, true, false, cond, not, ◌&&◌, ◌||◌, ◌==◌, eqb-true, eq-eqb, List, [], ◌∷◌, map, length, get_or, arith, Option, None, Some, is_some}
use Rattle.std.specs.Bool.{Decides}
use Rattle.std.specs.List.{AllByRecursion, position_or_len}
use Rattle.std.specs.Cmp.Lexicographic.{pointwise_decides}
use Rattle.std.proofs.lemmas.Bool.Decides.{Decides-eqb}
use Rattle.std.proofs.lemmas.Bool.{false≢true, true≢false}
use Rattle.machine.specs.spark_base.Lists.{Has}
use Rattle.machine.specs.type_definitions.Types.{Table}
use Rattle.machine.specs.typed_tree.Programs.{TypedProgram}
use Rattle.machine.specs.flow_paths.declared.report.Effects.{Effects}
use Rattle.machine.specs.flow_paths.Instructions.{Instruction, Hold, Finish}
use Rattle.machine.specs.flow_paths.Objects.{Typing}
use Rattle.machine.specs.flow_paths.Points.{PointName, same_place, same_point, NamedPoint, FlowPoint}
use Rattle.machine.specs.flow_paths.Laid.{FlowSub, FlowProgram, NamedSub, number_in, flow_sub, typing_of, flow_program}
use Rattle.machine.specs.flow_paths.Paths.{PathPoint, ControlPath, begins, goes_on, is_some_point}
use Rattle.machine.specs.flow_paths.Effects.{path_points}
use Rattle.machine.specs.flow_paths.Scopes.{Differ}
use Rattle.machine.specs.Run.{no_point}
use Rattle.soundness.specs.TypedLaws.Needed.{IsFine}
use Rattle.soundness.specs.Sound.{IsAtPoint, returns_value, has_returned}
use Rattle.soundness.proofs.Points.{IsLaid, flow_at, point_has, point_there, path_there}
use Rattle.settled_types.specs.OrderLaws.ScopeLaws.Returning.{is_return, is_finish, IsClosing, IsReturned, IsOpen, Stands, StartsAtZero, returns, closes, goes}
use Rattle.settled_types.proofs.OrderLaws.ScopeLaws.Lists.{all_has}

-- ---- the number of a name

point_decides : (a b : PointName) → Decides (same_point a b) (a ≡ b)
point_decides a b =
    let places = pointwise_decides {E = λ i j. i == j} Decides-eqb a.place b.place in (
      λ e.
          let parts = both_parts (same_place a.place b.place) (a.row == b.row) e in
          let row = eqb-true a.row b.row parts.1 in
          let place = places.0 parts.0 in
          λ i. record { place = place i; row = row i },
      λ e. both_true (same_place a.place b.place) (a.row == b.row) (places.1 (ap (λ n. n.place) e)) (eq-eqb a.row b.row (ap (λ n. n.row) e)),
    )
  where
    both_parts : (a b : Bool) → a && b ≡ true → (a ≡ true) × (b ≡ true)
    both_parts true b e = (refl, e)
    both_parts false b e = absurd (false≢true e)

    both_true : (a b : Bool) → a ≡ true → b ≡ true → a && b ≡ true
    both_true a b e f = ap (λ x. x && b) e ∙ f

-- A name of a point has the number at which the point stands.
number_there : (points : List NamedPoint) (q : NamedPoint) → Differ points → Has points q → IsAtPoint points (number_in points q.name) q
number_there [] q differ has = absurd has
number_there (p ∷ rest) q (apart, differ) (inl e) = subst (λ z. IsAtPoint (p ∷ rest) (number_in (p ∷ rest) z.name) z) e
    ([], rest, refl, sym (ap (λ b. cond (not b) (1 + position_or_len (λ r. same_point p.name r.name) rest) 0) ((point_decides p.name p.name).1 refl)))
number_there (p ∷ rest) q (apart, differ) (inr has) =
    let later = number_there rest q differ has in
    let other : same_point q.name p.name ≡ false = refused (same_point q.name p.name) (λ e.
    all_has (λ r. p.name ≡ r.name → ⊥) rest q apart has (sym ((point_decides q.name p.name).0 e))) in
    let long = later.3 in
    let more : suc (length later.0) ≡ 1 + position_or_len (λ r. same_point q.name r.name) rest = omega (arith, long) in (
      p ∷ later.0,
      later.1,
      ap (λ z. p ∷ z) later.2,
      more ∙ sym (ap (λ b. cond (not b) (1 + position_or_len (λ r. same_point q.name r.name) rest) 0) other),
    )
  where
    refused : (b : Bool) → (b ≡ true → ⊥) → b ≡ false
    refused true e = absurd (e refl)
    refused false e = refl

one_point : (points : List NamedPoint) (p q : NamedPoint) → Differ points → Has points p → Has points q → p.name ≡ q.name → p ≡ q
one_point [] p q differ has also same = absurd has
one_point (r ∷ rest) p q (apart, differ) (inl is) (inl so) same = sym is ∙ so
one_point (r ∷ rest) p q (apart, differ) (inl is) (inr also) same =
    absurd (all_has (λ z. r.name ≡ z.name → ⊥) rest q apart also (ap (λ (z : NamedPoint). z.name) is ∙ same))
one_point (r ∷ rest) p q (apart, differ) (inr has) (inl so) same =
    absurd (all_has (λ z. r.name ≡ z.name → ⊥) rest p apart has (ap (λ (z : NamedPoint). z.name) so ∙ sym same))
one_point (r ∷ rest) p q (apart, differ) (inr has) (inr also) same = one_point rest p q differ has also same

-- ---- returns

-- In a function each return has a value.
pub valued : (s : Typing) (result : Option ℕ) (i : Instruction) → is_some result ≡ true → IsFine s result i → is_return i ≡ true → returns_value i ≡ true
valued s None i some fine is = absurd (false≢true some)
valued s (Some t) (Hold v) some (e, one, source) is = ap (λ z. returns_value (Hold z)) one
valued s (Some t) i some fine is = absurd (false≢true is)

is_a_return : (i : Instruction) → returns_value i ≡ true → is_return i ≡ true
is_a_return (Hold v) is = refl
is_a_return i is = absurd (false≢true is)

no_return : (i : Instruction) → IsClosing i → is_return i ≡ false
no_return i (inl (x, is)) = ap is_return is
no_return i (inr is) = ap is_return is

no_value : (i : Instruction) → is_return i ≡ false → returns_value i ≡ false
no_value (Hold v) none = absurd (true≢false none)
no_value i none = refl

not_both : (b : Bool) → b ≡ true → b ≡ false → ⊥
not_both true is none = true≢false none
not_both false is none = false≢true is

or_later : (a b : Bool) → b ≡ true → a || b ≡ true
or_later true b e = refl
or_later false b e = e

or_neither : (a b : Bool) → a ≡ false → b ≡ false → a || b ≡ false
or_neither true b e f = absurd (true≢false e)
or_neither false b e f = f

or_first : (a b : Bool) → a ≡ true → a || b ≡ true
or_first true b e = refl
or_first false b e = absurd (false≢true e)

module _ (table : Table) (typed : TypedProgram) (effects : Effects) (s : Typing) (named : NamedSub) (laid : IsLaid s named)
    (stands : AllByRecursion (Stands named.points) named.points) (starts : StartsAtZero named.points)
    (gives : (p : NamedPoint) → Has named.points p → is_return p.instr ≡ true → returns_value p.instr ≡ true) where
  abbrev own : Typing
  own = typing_of table typed

  abbrev program : FlowProgram
  program = flow_program table typed

  abbrev sub : FlowSub
  sub = flow_sub own named

  abbrev points : List PathPoint
  points = path_points program effects sub

  -- what comes after a return and what doesn't are two things
  apart : (n : PointName) → IsReturned named.points n → IsOpen named.points n → ⊥
  apart n (low, first) (inl zero) = absurd (omega (arith, low, zero))
  apart n (low, first) (inr other) =
      not_both (is_return (other.0).instr)
      (ap (λ (z : NamedPoint). is_return z.instr) (one_point named.points other.0 first.0 laid.0 other.1 first.1 (other.2 ∙ sym first.2)) ∙ first.3) other.3

  -- A point on a path comes after a return, or no return is before it.
  abbrev Along : List ℕ → PointName → Type 0
  Along before n = ((has_returned sub before ≡ true) × IsReturned named.points n) ⊎ ((has_returned sub before ≡ false) × IsOpen named.points n)

  next_named : (p : NamedPoint) → Has named.points p → (names : List PointName) → ((n : PointName) → Has names n → Has p.next n) → (b : ℕ)
      → Has (map (number_in named.points) names) b → (q : NamedPoint) × IsAtPoint named.points b q × Has p.next q.name
  next_named p has [] among b next = absurd next
  next_named p has (n ∷ names) among b (inl is) =
      let to = laid.1 p has n (among n (inl refl)) in (
        to.0,
        subst (λ k. IsAtPoint named.points k to.0) (ap (number_in named.points) to.2 ∙ is) (number_there named.points to.0 laid.0 to.1),
        subst (Has p.next) (sym to.2) (among n (inl refl)),
      )
  next_named p has (n ∷ names) among b (inr later) = next_named p has names (λ m there. among m (inr there)) b later

  first_at : (f : FlowPoint → PathPoint) (g : NamedPoint → FlowPoint) (qs : List NamedPoint) → StartsAtZero qs → is_some_point (map f (map g qs))
      → (p : NamedPoint) × IsAtPoint qs 0 p × (p.name.row ≡ 0)
  first_at f g [] zero some = absurd some
  first_at f g (p ∷ qs) zero some = (p, ([], qs, refl, refl), zero)

  abbrev value_at : ℕ → Bool
  value_at n = returns_value (get_or sub.points n no_point).instr

  -- one step along a path
  module _ (p : NamedPoint) (a : ℕ) (at_point : IsAtPoint named.points a p) (before : List ℕ) (along : Along before p.name) (n : PointName) (next : Has p.next n) where
    value_is : value_at a ≡ returns_value p.instr
    value_is = ap (λ (q : FlowPoint). returns_value q.instr) (point_there own named a p at_point)

    along_by : Stands named.points p → Along (a ∷ before) n
    along_by (returns is row on) =
        inl (or_first (value_at a) (has_returned sub before) (value_is ∙ gives p (point_has named.points a p at_point) is), on n next)
    along_by (closes none here on) = elim along [
      | inl (done, returned) ↦ inl (or_later (value_at a) (has_returned sub before) done, on n next)
      | inr (none_before, opened) ↦ absurd (apart p.name here opened)
    ]
    along_by (goes none going here on) = elim along [
      | inl (done, returned) ↦ absurd (apart p.name returned here)
      | inr (none_before, opened) ↦ inr (or_neither (value_at a) (has_returned sub before) (value_is ∙ no_value p.instr none) none_before, on n next)
    ]

  standing : (before : List ℕ) (last : ℕ) → ControlPath points before last → (p : NamedPoint) × IsAtPoint named.points last p × Along before p.name
  standing before last (begins some) =
      let found = first_at _ (λ (q : NamedPoint). flow_at own named q) named.points starts some in (found.0, found.1, inr (refl, inl found.2))
  standing before last (goes_on old a b path next) =
      let here = standing old a path in
      let p : NamedPoint = here.0 in
      let there : Has named.points p = point_has named.points a p here.1 in
      let on = next_named p there p.next (λ n has. has) b (subst (λ (z : PathPoint). Has z.next b) (path_there own named a p here.1 program effects) next) in
      (on.0, on.1, along_by p a here.1 old here.2 (on.0).name on.2 (all_has (Stands named.points) named.points p stands there))

  pub returned_once : (before : List ℕ) (last : ℕ) → ControlPath points before last
      → (returns_value (get_or sub.points last no_point).instr ≡ true → has_returned sub before ≡ false)
      × ((get_or sub.points last no_point).instr ≡ Finish → has_returned sub before ≡ true)
  returned_once before last path =
      let here = standing before last path in
      let p : NamedPoint = here.0 in
      let stand = all_has (Stands named.points) named.points p stands (point_has named.points last p here.1) in
      let is : get_or sub.points last no_point ≡ flow_at own named p = point_there own named last p here.1 in (
        λ value. none_yet p before here.2 stand (is_a_return p.instr (sym (ap (λ (q : FlowPoint). returns_value q.instr) is) ∙ value)),
        λ finish. one_then p before here.2 stand (sym (ap (λ (q : FlowPoint). q.instr) is) ∙ finish),
      )
    where
      none_yet : (p : NamedPoint) (before : List ℕ) → Along before p.name → Stands named.points p → is_return p.instr ≡ true → has_returned sub before ≡ false
      none_yet p before (inr (none, opened)) stand is = none
      none_yet p before (inl (done, (low, first))) (returns ret row on) is = absurd (omega (arith, low, row))
      none_yet p before (inl (done, returned)) (closes closing here on) is = absurd (not_both (is_return p.instr) is (no_return p.instr closing))
      none_yet p before (inl (done, returned)) (goes none going here on) is = absurd (not_both (is_return p.instr) is none)

      one_then : (p : NamedPoint) (before : List ℕ) → Along before p.name → Stands named.points p → p.instr ≡ Finish → has_returned sub before ≡ true
      one_then p before (inl (done, returned)) stand finish = done
      one_then p before (inr (none, opened)) (returns ret row on) finish = absurd (not_both false (sym (ap is_return finish) ∙ ret) refl)
      one_then p before (inr (none, opened)) (closes other here on) finish = absurd (apart p.name here opened)
      one_then p before (inr (none, opened)) (goes other going here on) finish = absurd (not_both true refl (sym (ap is_finish finish) ∙ going))

  -- After a return, only ends of scopes and the end of the call follow.
  pub closing_after : (before : List ℕ) (last : ℕ) → ControlPath points before last → has_returned sub before ≡ true
      → IsClosing (get_or sub.points last no_point).instr
  closing_after before last path done =
      let here = standing before last path in
      let p : NamedPoint = here.0 in
      let stand = all_has (Stands named.points) named.points p stands (point_has named.points last p here.1) in
      let is : get_or sub.points last no_point ≡ flow_at own named p = point_there own named last p here.1 in
      subst (λ (q : FlowPoint). IsClosing q.instr) (sym is) (closing p before here.2 stand done)
    where
      closing : (p : NamedPoint) (before : List ℕ) → Along before p.name → Stands named.points p → has_returned sub before ≡ true → IsClosing p.instr
      closing p before (inr (none, opened)) stand done = absurd (not_both (has_returned sub before) done none)
      closing p before (inl (is, (low, first))) (returns ret row on) done = absurd (omega (arith, low, row))
      closing p before (inl (is, returned)) (closes close here on) done = close
      closing p before (inl (is, returned)) (goes none going here on) done = absurd (apart p.name returned here)
