-- A temporary has the type of what the point gives that fills it: the result of what is called, or a truth value.
use Rattle.std.proofs.Common.{◌≡◌, refl, sym, ap, ◌∙◌, subst, inl, inr, ℕ, zero, suc, ◌+◌, ◌<◌, Bool, true, false, not, ◌==◌, cond, List, [], ◌∷◌, ◌++◌, map, length, get_or, arith, length-append}
use Rattle.std.specs.Prelude.{Some, None}
use Rattle.std.specs.List.{position_or_len}
use Rattle.std.specs.Cmp.Lexicographic.{pointwise_decides}
use Rattle.std.proofs.lemmas.Bool.Decides.{Decides-eqb}
use Rattle.machine.specs.spark_base.Lists.{Has}
use Rattle.spark_base.proofs.Lists.{Has-append_left, Has-append_right, Has-append_cases}
use Rattle.machine.specs.type_definitions.Entries.{boolean}
use Rattle.machine.specs.typed_tree.declared.object.Object.{Object}
use Rattle.machine.specs.typed_tree.Programs.{TypedSub, text_io}
use Rattle.machine.specs.flow_paths.Instructions.{Instruction, Call, Evaluate}
use Rattle.machine.specs.flow_paths.Objects.{Typing, sub_at}
use Rattle.machine.specs.flow_paths.Points.{Place, same_place, NamedPoint}
use Rattle.machine.specs.flow_paths.Prep.{Setting}
use Rattle.machine.specs.flow_paths.Laid.{Temporary, temporary_object, filled, temporaries, result_of, numbers_from, unnumbered, sub_points, sub_temporaries, NamedSub, named_subs}
use Rattle.machine.specs.flow_paths.Scopes.{Differ}
use Rattle.flow_paths.proofs.PointsDiffer.{points_differ}
use Rattle.settled_types.proofs.OrderLaws.ScopeLaws.Lists.{all_has}
use Rattle.settled_types.proofs.OrderLaws.ScopeLaws.Filled.{IsOwn, Owned, sub_walk, placed, temporaries_of}

-- What a point gives, where it fills a temporary.
abbrev pub Gives : Typing → Instruction → ℕ → ℕ → Type 0
Gives s (Call k a (Some t)) x of = (x ≡ t) × (of ≡ result_of (sub_at s k).result)
Gives s (Evaluate t e (Some op)) x of = (x ≡ t) × (of ≡ boolean)
Gives s i x of = ⊥

place_is : (a b : Place) → same_place a b ≡ true → a ≡ b
place_is a b e = (pointwise_decides {E = λ i j. i == j} Decides-eqb a b).0 e

abbrev Found : Place → List Temporary → Temporary → Type 0
Found at xs r = Has xs r × (r.place ≡ at)

-- the first one of a place
first_placed : (at : Place) (all : List Temporary) (d : Temporary) → position_or_len (λ (t : Temporary). same_place at t.place) all < length all
    → Has all (get_or all (position_or_len (λ (t : Temporary). same_place at t.place) all) d)
    × ((get_or all (position_or_len (λ (t : Temporary). same_place at t.place) all) d).place ≡ at)
first_placed at [] d less = absurd (omega (arith, less))
first_placed at (t ∷ all) d less = by (same_place at t.place) refl less (first_placed at all d)
  where
    rest : ℕ
    rest = position_or_len (λ (u : Temporary). same_place at u.place) all

    by : (b : Bool) → same_place at t.place ≡ b → cond (not b) (1 + rest) 0 < length (t ∷ all) → (rest < length all → Found at all (get_or all rest d))
        → Found at (t ∷ all) (get_or (t ∷ all) (cond (not b) (1 + rest) 0) d)
    by true is less more = (inl refl, sym (place_is at t.place is))
    by false is less more =
        let one : 1 + rest ≡ suc rest = omega arith in
        let later = more (omega (arith, less)) in
        subst (λ k. Found at (t ∷ all) (get_or (t ∷ all) k d)) (sym one) (inr later.0, later.1)

-- a temporary of some points is filled by one of them
pub filled_by : (s : Typing) (ps : List NamedPoint) (r : Temporary) → Has (temporaries s ps) r
    → (q : NamedPoint) × Has ps q × Has (filled s q.name.place q.instr) r
filled_by s [] r has = absurd has
filled_by s (p ∷ ps) r has = elim (Has-append_cases (filled s p.name.place p.instr) (temporaries s ps) r has) [
  | inl here ↦ (p, inl refl, here)
  | inr more ↦ (let found = filled_by s ps r more in (found.0, inr found.1, found.2))
]

-- points of one name are one
one_name : (ps : List NamedPoint) → Differ ps → (p q : NamedPoint) → Has ps p → Has ps q → p.name ≡ q.name → p ≡ q
one_name [] differ p q here there same = absurd here
one_name (r ∷ ps) differ p q (inl a) (inl b) same = sym a ∙ b
one_name (r ∷ ps) differ p q (inl a) (inr b) same =
    absurd (all_has (λ (z : NamedPoint). r.name ≡ z.name → ⊥) ps q differ.0 b (ap (λ (z : NamedPoint). z.name) a ∙ same))
one_name (r ∷ ps) differ p q (inr a) (inl b) same =
    absurd (all_has (λ (z : NamedPoint). r.name ≡ z.name → ⊥) ps p differ.0 a (ap (λ (z : NamedPoint). z.name) b ∙ sym same))
one_name (r ∷ ps) differ p q (inr a) (inr b) same = one_name ps differ.1 p q a b same

pub no_temporary : Temporary
no_temporary = record { place = []; of = 0 }

module _ (s : Typing) (z : Setting) where
  -- what a point fills has its place, and its row is 0
  row_there : (q : NamedPoint) (r : Temporary) → Owned z q.name q.instr → Has (filled s q.name.place q.instr) r → (q.name.row ≡ 0) × (r.place ≡ q.name.place)
  row_there q r own has = by q.instr own has
    where
      by : (i : Instruction) → Owned z q.name i → Has (filled s q.name.place i) r → (q.name.row ≡ 0) × (r.place ≡ q.name.place)
      by (Call k a (Some t)) own (inl same) = (own.1, sym (ap (λ (u : Temporary). u.place) same))
      by (Call k a (Some t)) own (inr never) = absurd never
      by (Evaluate t e (Some op)) own (inl same) = (own.1, sym (ap (λ (u : Temporary). u.place) same))
      by (Evaluate t e (Some op)) own (inr never) = absurd never
      by (Call k a None) own has = absurd has
      by (Evaluate t e None) own has = absurd has
      by i own has = absurd has

-- The temporary that a point of a subprogram fills, by its number among those of the subprogram.
module _ (s : Typing) (n : ℕ) (sub : TypedSub) where
  abbrev all : List Temporary
  all = sub_temporaries s sub

  abbrev z : Setting
  z = record { typing = s; temporary = numbers_from n all }

  abbrev ps : List NamedPoint
  ps = sub_points z sub

  -- the temporary of the place where a point fills one is what that point fills
  there : (p : NamedPoint) → Has ps p → (r : Temporary) → Has (filled s p.name.place p.instr) r
      → (i : ℕ) × (i < length all) × (numbers_from n all p.name.place ≡ n + i) × (q : NamedPoint) × (p ≡ q)
      × Has (filled s q.name.place q.instr) (get_or all i no_temporary)
  there p has r fills =
      let walk = sub_walk s z (unnumbered s) sub in
      let own : Owned z p.name p.instr = all_has (IsOwn z) ps p walk.own has in
      let mine = row_there s z p r own fills in
      let among : Has all r = subst (λ ts. Has ts r) walk.same (has_filled ps p r has fills) in
      let less = subst (λ at. position_or_len (λ (t : Temporary). same_place at t.place) all < length all) mine.1 (placed all r among) in
      let found = first_placed p.name.place all no_temporary less in
      let i : ℕ = position_or_len (λ (t : Temporary). same_place p.name.place t.place) all in
      let by = filled_by s ps (get_or all i no_temporary) (subst (λ ts. Has ts (get_or all i no_temporary)) (sym walk.same) found.0) in
      let other = row_there s z by.0 (get_or all i no_temporary) (all_has (IsOwn z) ps by.0 walk.own by.1) by.2 in
      let same_place_there : p.name.place ≡ (by.0).name.place = sym found.1 ∙ other.1 in
      let same_row : p.name.row ≡ (by.0).name.row = mine.0 ∙ sym other.0 in
      let same_name : p.name ≡ (by.0).name = (λ j. record { place = same_place_there j; row = same_row j }) in
      (i, less, refl, by.0, one_name ps (points_differ z sub) p by.0 has by.1 same_name, by.2)
    where
      has_filled : (qs : List NamedPoint) (p : NamedPoint) (r : Temporary) → Has qs p → Has (filled s p.name.place p.instr) r → Has (temporaries s qs) r
      has_filled [] p r has fills = absurd has
      has_filled (q ∷ qs) p r (inl same) fills =
          Has-append_left (filled s q.name.place q.instr) (temporaries s qs) r (subst (λ (w : NamedPoint). Has (filled s w.name.place w.instr) r) (sym same) fills)
      has_filled (q ∷ qs) p r (inr more) fills = Has-append_right (filled s q.name.place q.instr) (temporaries s qs) r (has_filled qs p r more fills)

  abbrev pub Typed : ℕ → ℕ → Type 0
  Typed x of = (i : ℕ) × (x ≡ n + i) × (i < length all) × ((get_or all i no_temporary).of ≡ of)

  -- with its type
  pub type_there : (p : NamedPoint) → Has ps p → (x of : ℕ) → Gives s p.instr x of → Typed x of
  type_there p has x of gives = by p.instr refl gives
    where
      own : Owned z p.name p.instr
      own = all_has (IsOwn z) ps p (sub_walk s z (unnumbered s) sub).own has

      from : (r : Temporary) → Has (filled s p.name.place p.instr) r → x ≡ z.temporary p.name.place
          → ((u : Temporary) → Has (filled s p.name.place p.instr) u → u.of ≡ of) → Typed x of
      from r fills is only =
          let found = there p has r fills in (
            found.0,
            is ∙ found.2,
            found.1,
            only (get_or all found.0 no_temporary)
                (subst (λ (q : NamedPoint). Has (filled s q.name.place q.instr) (get_or all found.0 no_temporary)) (sym found.4) found.5),
          )

      by : (i : Instruction) → p.instr ≡ i → Gives s i x of → Typed x of
      by (Call k a (Some t)) is (same, type) =
          from (record { place = p.name.place; of = result_of (sub_at s k).result })
          (subst (λ j. Has (filled s p.name.place j) (record { place = p.name.place; of = result_of (sub_at s k).result })) (sym is) (inl refl))
          (same ∙ (subst (Owned z p.name) is own).0)
          (λ u has_u. elim (subst (λ j. Has (filled s p.name.place j) u) is has_u) [ inl e ↦ sym (ap (λ (w : Temporary). w.of) e) ∙ sym type | inr never ↦ absurd never ])
      by (Evaluate t e (Some op)) is (same, type) =
          from (record { place = p.name.place; of = boolean })
          (subst (λ j. Has (filled s p.name.place j) (record { place = p.name.place; of = boolean })) (sym is) (inl refl))
          (same ∙ (subst (Owned z p.name) is own).0)
          (λ u has_u. elim (subst (λ j. Has (filled s p.name.place j) u) is has_u) [ inl e ↦ sym (ap (λ (w : Temporary). w.of) e) ∙ sym type | inr never ↦ absurd never ])
      by (Call k a None) is gives = absurd gives
      by (Evaluate t e None) is gives = absurd gives
      by i is gives = absurd gives

-- ---- all subprograms

nth_first : (xs ys : List Temporary) (i : ℕ) → i < length xs → get_or (xs ++ ys) i no_temporary ≡ get_or xs i no_temporary
nth_first [] ys i less = absurd (omega (arith, less))
nth_first (x ∷ xs) ys zero less = refl
nth_first (x ∷ xs) ys (suc i) less = nth_first xs ys i (omega (arith, less))

nth_second : (xs ys : List Temporary) (i : ℕ) → get_or (xs ++ ys) (length xs + i) no_temporary ≡ get_or ys i no_temporary
nth_second [] ys i = ap (λ k. get_or ys k no_temporary) (let same : 0 + i ≡ i = omega arith in same)
nth_second (x ∷ xs) ys i =
    ap (λ k. get_or (x ∷ (xs ++ ys)) k no_temporary) (let same : suc (length xs) + i ≡ suc (length xs + i) = omega arith in same) ∙ nth_second xs ys i

abbrev TypedAmong : ℕ → List Temporary → ℕ → ℕ → Type 0
TypedAmong n all x of = (i : ℕ) × (x ≡ n + i) × (i < length all) × ((get_or all i no_temporary).of ≡ of)

named_typed : (s : Typing) (n : ℕ) (subs : List TypedSub) (named : NamedSub) → Has (named_subs s n subs) named → (p : NamedPoint) → Has named.points p
    → (x of : ℕ) → Gives s p.instr x of → TypedAmong n (temporaries_of (named_subs s n subs)) x of
named_typed s n [] named has p there x of gives = absurd has
named_typed s n (sub ∷ rest) named (inl is) p there x of gives =
    let all : List Temporary = sub_temporaries s sub in
    let more : List Temporary = temporaries_of (named_subs s (n + length all) rest) in
    let found = type_there s n sub p (subst (λ (m : NamedSub). Has m.points p) (sym is) there) x of gives in
    let long = length-append all more in
    let less = found.2 in
    (found.0, found.1, omega (arith, long, less), ap (λ (u : Temporary). u.of) (nth_first all more found.0 found.2) ∙ found.3)
named_typed s n (sub ∷ rest) named (inr later) p there x of gives =
    let all : List Temporary = sub_temporaries s sub in
    let more : List Temporary = temporaries_of (named_subs s (n + length all) rest) in
    let found = named_typed s (n + length all) rest named later p there x of gives in
    let long = length-append all more in
    let less = found.2 in
    let same = found.1 in (
      length all + found.0,
      (let on : x ≡ n + (length all + found.0) = omega (arith, same) in on),
      omega (arith, long, less),
      ap (λ (u : Temporary). u.of) (nth_second all more found.0) ∙ found.3,
    )

object_after : (os : List Object) (ts : List Temporary) (i : ℕ) → i < length ts
    → (get_or (os ++ map temporary_object ts) (length os + i) text_io).of ≡ (get_or ts i no_temporary).of
object_after [] ts i less = ap (λ k. (get_or (map temporary_object ts) k text_io).of) (let same : 0 + i ≡ i = omega arith in same) ∙ nth ts i less
  where
    nth : (ts : List Temporary) (i : ℕ) → i < length ts → (get_or (map temporary_object ts) i text_io).of ≡ (get_or ts i no_temporary).of
    nth [] i less = absurd (omega (arith, less))
    nth (t ∷ ts) zero less = refl
    nth (t ∷ ts) (suc i) less = nth ts i (omega (arith, less))
object_after (o ∷ os) ts i less =
    ap (λ k. (get_or (o ∷ (os ++ map temporary_object ts)) k text_io).of) (let same : suc (length os) + i ≡ suc (length os + i) = omega arith in same)
    ∙ object_after os ts i less

-- In a program that is laid out, but for its package objects: what a point fills has the type of what it gives.
pub filled_typed : (s : Typing) (os : List Object) (subs : List TypedSub) (named : NamedSub) → Has (named_subs s (length os) subs) named → (p : NamedPoint) → Has named.points p
    → (x of : ℕ) → Gives s p.instr x of → (get_or (os ++ map temporary_object (temporaries_of (named_subs s (length os) subs))) x text_io).of ≡ of
filled_typed s os subs named has p there x of gives =
    let found = named_typed s (length os) subs named has p there x of gives in
    ap (λ k. (get_or (os ++ map temporary_object (temporaries_of (named_subs s (length os) subs))) k text_io).of) found.1
    ∙ object_after os (temporaries_of (named_subs s (length os) subs)) found.0 found.2 ∙ found.3
