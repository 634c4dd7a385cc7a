-- The points of a subprogram by their numbers: a number finds its point, and scopes go on to
-- successors.
use Rattle.std.proofs.Common.{◌≡◌, refl, sym, ap, ◌∙◌, subst, inl, inr, ℕ, ◌<◌, suc, ◌+◌, Bool, true, false, cond, not, ◌&&◌, ◌==◌, eqb-true, eq-eqb, List, [], ◌∷◌, ◌++◌, map, length, get_or, arith}
use Rattle.std.specs.Bool.{Decides}
use Rattle.std.specs.List.{AllByRecursion, position_or_len}
use Rattle.std.specs.Cmp.Lexicographic.{pointwise_decides}
use Rattle.std.proofs.lemmas.Bool.Decides.{Decides-eqb}
use Rattle.std.proofs.lemmas.List.{length-map}
use Rattle.std.proofs.lemmas.Bool.{false≢true}
use Rattle.machine.specs.spark_base.Lists.{Has}
use Rattle.spark_base.proofs.Lists.{Has-append_right, Has-map}
use Rattle.machine.specs.type_definitions.Types.{Table}
use Rattle.machine.specs.typed_tree.Programs.{TypedSub, TypedProgram}
use Rattle.machine.specs.flow_paths.declared.report.Effects.{Effects}
use Rattle.machine.specs.flow_paths.Acts as flow
use Rattle.machine.specs.flow_paths.Objects.{Signature, Typing}
use Rattle.machine.specs.flow_paths.Points.{PointName, same_place, same_point, NamedPoint, FlowPoint, flow_point}
use Rattle.machine.specs.flow_paths.Laid.{FlowSub, FlowProgram, NamedSub, number_in, signature, frame_of, kept_roots, sub_facts, flow_sub, typing_of, flow_program, flow_named, named_subs, sub_temporaries, all_named}
use Rattle.machine.specs.flow_paths.Paths.{PathPoint, path_point}
use Rattle.machine.specs.flow_paths.Effects.{all_acts, path_points}
use Rattle.machine.specs.flow_paths.Scopes.{Differ, ScopesHold, Leads, scope_behind}
use Rattle.machine.specs.States.{no_sub, sub_of}
use Rattle.machine.specs.Run.{no_point}
use Rattle.soundness.specs.Sound.{IsNamedSub, IsAtPoint}

-- ---- lists

in_middle : {A : Type 0} (front : List A) (x : A) (rest : List A) → Has (front ++ x ∷ rest) x
in_middle front x rest = Has-append_right front (x ∷ rest) x (inl refl)

mapped : {A B : Type 0} (f : A → B) (front : List A) (x : A) (rest : List A) (d : B) → get_or (map f (front ++ x ∷ rest)) (length front) d ≡ f x
mapped f [] x rest d = refl
mapped f (y ∷ front) x rest d = mapped f front x rest d

at_map : {A B : Type 0} (f : A → B) (xs front : List A) (x : A) (rest : List A) (n : ℕ) (d : B) → xs ≡ front ++ x ∷ rest → length front ≡ n
    → get_or (map f xs) n d ≡ f x
at_map f xs front x rest n d is long =
    ap (λ z. get_or (map f z) n d) is ∙ ap (λ k. get_or (map f (front ++ x ∷ rest)) k d) (sym long) ∙ mapped f front x rest d

path_mapped : {A : Type 0} (g : FlowPoint → PathPoint) (f : A → FlowPoint) (front : List A) (x : A) (rest : List A)
    → path_point (map g (map f (front ++ x ∷ rest))) (length front) ≡ g (f x)
path_mapped g f [] x rest = refl
path_mapped g f (y ∷ front) x rest = path_mapped g f front x rest

all_has : {A : Type 0} (P : A → Type 0) (xs : List A) (x : A) → AllByRecursion P xs → Has xs x → P x
all_has P [] x all has = absurd has
all_has P (y ∷ xs) x all (inl e) = subst P e all.0
all_has P (y ∷ xs) x all (inr has) = all_has P xs x all.1 has

abbrev head_or : {A : Type 0} → A → List A → A
head_or d [] = d
head_or d (x ∷ xs) = x

abbrev tail_of : {A : Type 0} → List A → List A
tail_of [] = []
tail_of (x ∷ xs) = xs

at_one : {A : Type 0} (front front' : List A) (x y : A) (rest rest' : List A) → front ++ x ∷ rest ≡ front' ++ y ∷ rest' → length front ≡ length front' → x ≡ y
at_one [] [] x y rest rest' same long = ap (λ z. head_or x z) same
at_one [] (b ∷ front') x y rest rest' same long = absurd (omega (arith, long))
at_one (a ∷ front) [] x y rest rest' same long = absurd (omega (arith, long))
at_one (a ∷ front) (b ∷ front') x y rest rest' same long =
    at_one front front' x y rest rest' (ap (λ z. tail_of z) same) (omega (arith, long))

-- ---- subprograms and points by number

-- a point, as far as paths go
abbrev pub path_of : FlowProgram → Effects → FlowPoint → PathPoint
path_of program effects p = record { acts = all_acts program effects p; next = p.next }

abbrev pub frame_in : Typing → NamedSub → flow.Frame
frame_in s named = frame_of s named.sub (kept_roots s 0 s.objects (sub_facts s named.sub named.points))

abbrev pub flow_at : Typing → NamedSub → NamedPoint → FlowPoint
flow_at s named p = flow_point (frame_in s named) (number_in named.points) p

pub flow_table : (table : Table) (typed : TypedProgram) → (flow_program table typed).table ≡ table
unfolding flow_program
flow_table table typed = refl

pub named_has : (subs : List NamedSub) (k : ℕ) (named : NamedSub) → IsNamedSub subs k named → Has subs named
named_has subs k named (front, rest, is, long) = subst (λ z. Has z named) (sym is) (in_middle front named rest)

pub point_has : (points : List NamedPoint) (n : ℕ) (p : NamedPoint) → IsAtPoint points n p → Has points p
point_has points n p (front, rest, is, long) = subst (λ z. Has z p) (sym is) (in_middle front p rest)

pub one_named : (subs : List NamedSub) (k : ℕ) (a b : NamedSub) → IsNamedSub subs k a → IsNamedSub subs k b → a ≡ b
one_named subs k a b (front, rest, is, long) (front', rest', is', long') = at_one front front' a b rest rest' (sym is ∙ is') (long ∙ sym long')

pub one_point : (points : List NamedPoint) (n : ℕ) (p q : NamedPoint) → IsAtPoint points n p → IsAtPoint points n q → p ≡ q
one_point points n p q (front, rest, is, long) (front', rest', is', long') = at_one front front' p q rest rest' (sym is ∙ is') (long ∙ sym long')

pub sub_there : (table : Table) (typed : TypedProgram) (k : ℕ) (named : NamedSub) → IsNamedSub (flow_named table typed) k named
    → sub_of (flow_program table typed) k ≡ flow_sub (typing_of table typed) named
unfolding flow_program
sub_there table typed k named (front, rest, is, long) =
    at_map (flow_sub (typing_of table typed)) (flow_named table typed) front named rest k no_sub is long

pub sub_at_number : (table : Table) (typed : TypedProgram) (k : ℕ) (named : NamedSub) → IsNamedSub (flow_named table typed) k named → (d : FlowSub)
    → get_or (flow_program table typed).subs k d ≡ flow_sub (typing_of table typed) named
unfolding flow_program
sub_at_number table typed k named (front, rest, is, long) d =
    at_map (flow_sub (typing_of table typed)) (flow_named table typed) front named rest k d is long

pub sub_in_range : (table : Table) (typed : TypedProgram) (k : ℕ) (named : NamedSub) → IsNamedSub (flow_named table typed) k named
    → k < length (flow_program table typed).subs
unfolding flow_program
sub_in_range table typed k named (front, rest, is, long) =
    let all : length (map (flow_sub (typing_of table typed)) (flow_named table typed)) ≡ length (flow_named table typed) =
    length-map (flow_named table typed) (flow_sub (typing_of table typed)) in
    let less = before_end front named rest in
    let whole : length (flow_named table typed) ≡ length (front ++ named ∷ rest) = ap length is in
    omega (arith, all, less, whole, long)
  where
    before_end : (front : List NamedSub) (x : NamedSub) (rest : List NamedSub) → length front < length (front ++ x ∷ rest)
    before_end [] x rest = omega arith
    before_end (y ∷ front) x rest = (let less = before_end front x rest in omega (arith, less))

pub sub_has : (table : Table) (typed : TypedProgram) (k : ℕ) (named : NamedSub) → IsNamedSub (flow_named table typed) k named
    → Has (flow_program table typed).subs (flow_sub (typing_of table typed) named)
unfolding flow_program
sub_has table typed k named stands =
    Has-map (flow_sub (typing_of table typed)) (flow_named table typed) named (named_has (flow_named table typed) k named stands)

-- ---- what the laid-out program keeps of the typed one

abbrev signature_of : FlowSub → Signature
signature_of sub = record { formals = sub.formals; result = sub.result }

named_signatures : (s : Typing) (n : ℕ) (subs : List TypedSub) → map signature_of (map (flow_sub s) (named_subs s n subs)) ≡ map signature subs
named_signatures s n [] = refl
named_signatures s n (sub ∷ rest) = ap (λ z. signature sub ∷ z) (named_signatures s (n + length (sub_temporaries s sub)) rest)

pub all_signatures : (s : Typing) (subs : List TypedSub) → map signature_of (map (flow_sub s) (all_named s subs)) ≡ map signature subs
all_signatures s [] = refl
all_signatures s (sub ∷ rest) = ap (λ z. signature sub ∷ z) (named_signatures s (length s.objects) rest)

module _ (s : Typing) (named : NamedSub) (n : ℕ) (p : NamedPoint) (stands : IsAtPoint named.points n p) where
  pub point_there : get_or (flow_sub s named).points n no_point ≡ flow_at s named p
  point_there = at_map (flow_point (frame_in s named) (number_in named.points)) named.points stands.0 p stands.1 n no_point stands.2 stands.3

  pub point_in : Has (flow_sub s named).points (flow_at s named p)
  point_in = Has-map (flow_point (frame_in s named) (number_in named.points)) named.points p (point_has named.points n p stands)

  pub path_there : (program : FlowProgram) (effects : Effects)
      → path_point (path_points program effects (flow_sub s named)) n ≡ record { acts = all_acts program effects (flow_at s named p); next = (flow_at s named p).next }
  path_there program effects =
      let g : FlowPoint → PathPoint = path_of program effects in
      let f : NamedPoint → FlowPoint = flow_point (frame_in s named) (number_in named.points) in
      ap (λ z. path_point (map g (map f z)) n) stands.2
      ∙ ap (λ k. path_point (map g (map f (stands.0 ++ p ∷ stands.1))) k) (sym stands.3)
      ∙ path_mapped g f stands.0 p stands.1

-- ---- the number of a name

point_decides : (a b : PointName) → Decides (same_point a b) (a ≡ b)
point_decides a b =
    let places = pointwise_decides {E = λ i j. i == j} Decides-eqb a.place b.place in (
      λ e.
          let parts = both_parts (same_place a.place b.place) (a.row == b.row) e in
          let row = eqb-true a.row b.row parts.1 in
          let place = places.0 parts.0 in
          λ i. record { place = place i; row = row i },
      λ e. both_true (same_place a.place b.place) (a.row == b.row) (places.1 (ap (λ n. n.place) e)) (eq-eqb a.row b.row (ap (λ n. n.row) e)),
    )
  where
    both_parts : (a b : Bool) → a && b ≡ true → (a ≡ true) × (b ≡ true)
    both_parts true b e = (refl, e)
    both_parts false b e = absurd (false≢true e)

    both_true : (a b : Bool) → a ≡ true → b ≡ true → a && b ≡ true
    both_true a b e f = ap (λ x. x && b) e ∙ f

-- A name of a point has the number at which the point stands.
number_there : (points : List NamedPoint) (q : NamedPoint) → Differ points → Has points q → IsAtPoint points (number_in points q.name) q
number_there [] q differ has = absurd has
number_there (p ∷ rest) q (apart, differ) (inl e) = subst (λ z. IsAtPoint (p ∷ rest) (number_in (p ∷ rest) z.name) z) e
    ([], rest, refl, sym (ap (λ b. cond (not b) (1 + position_or_len (λ r. same_point p.name r.name) rest) 0) ((point_decides p.name p.name).1 refl)))
number_there (p ∷ rest) q (apart, differ) (inr has) =
    let later = number_there rest q differ has in
    let other : same_point q.name p.name ≡ false = refused (same_point q.name p.name) (λ e.
    all_has (λ r. p.name ≡ r.name → ⊥) rest q apart has (sym ((point_decides q.name p.name).0 e))) in
    let long = later.3 in
    let more : suc (length later.0) ≡ 1 + position_or_len (λ r. same_point q.name r.name) rest = omega (arith, long) in (
      p ∷ later.0,
      later.1,
      ap (λ z. p ∷ z) later.2,
      more ∙ sym (ap (λ b. cond (not b) (1 + position_or_len (λ r. same_point q.name r.name) rest) 0) other),
    )
  where
    refused : (b : Bool) → (b ≡ true → ⊥) → b ≡ false
    refused true e = absurd (e refl)
    refused false e = refl

-- ---- scopes of subprograms

-- What the layout keeps of each subprogram: its points differ, and scopes go on.
abbrev pub IsLaid : Typing → NamedSub → Type 0
IsLaid s named = Differ named.points × ScopesHold s named.points

-- The successor with a number is a point, and what is in scope there was in scope after the
-- instruction.
pub next_there : (s : Typing) (named : NamedSub) → IsLaid s named → (p : NamedPoint) → Has named.points p → (n : ℕ) → Has (map (number_in named.points) p.next) n
    → (q : NamedPoint) × IsAtPoint named.points n q × Leads s (scope_behind p) q.scope
next_there s named (differ, holds) p has n next =
    let found = named_by p.next next in
    let arrives = holds p has found.0 found.1 in
    (arrives.0, subst (λ z. IsAtPoint named.points z arrives.0) (ap (number_in named.points) arrives.2 ∙ found.2) (number_there named.points arrives.0 differ arrives.1), arrives.3)
  where
    named_by : (names : List PointName) → Has (map (number_in named.points) names) n → (name : PointName) × Has names name × (number_in named.points name ≡ n)
    named_by [] has = absurd has
    named_by (m ∷ names) (inl e) = (m, inl refl, e)
    named_by (m ∷ names) (inr has) = (let later = named_by names has in (later.0, inr later.1, later.2))
