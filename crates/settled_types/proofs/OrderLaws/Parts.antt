-- The objects of a body are those of a part of the program, and each has a number of its own.
use Rattle.std.proofs.Common.{◌≡◌, refl, sym, ap, ◌∙◌, subst, ◌⊎◌, inl, inr, ℕ, ◌+◌, ◌≤◌, ◌<◌, Bool, true, false, not, cond, nat_eq, List, [], ◌∷◌, ◌++◌, map, length, get_or, append-nil, add-one, one-add, arith}
use Rattle.std.specs.List.{position_or_len}
use Rattle.std.proofs.lemmas.List.{length-map}
use Rattle.machine.specs.spark_base.Lists.{Has}
use Rattle.spark_base.proofs.Lists.{Has-map, Has-map_from}
use Rattle.machine.specs.typed_tree.declared.object.Object.{Object}
use Rattle.machine.specs.typed_tree.Expressions.{Site, object_number}
use Rattle.machine.specs.typed_tree.Programs.{DeclaredObject, text_io}
use Rattle.settled_types.specs.OrderLaws.ScopeLaws.Code.{Once}
use Rattle.settled_types.proofs.OrderLaws.Numbers.{numbers}

-- ---- lists of numbers

pub either : (b : Bool) → (b ≡ true) ⊎ (b ≡ false)
either true = inl refl
either false = inr refl

pub same_number : (d x : ℕ) → nat_eq d x ≡ true → d ≡ x
same_number d x e = grind (arith, e)

pub number_here : (d x : ℕ) (xs : List ℕ) → nat_eq d x ≡ true → position_or_len (nat_eq d) (x ∷ xs) ≡ 0
number_here d x xs e = ap (λ b. cond (not b) (1 + position_or_len (nat_eq d) xs) 0) e

pub number_later : (d x : ℕ) (xs : List ℕ) → nat_eq d x ≡ false → position_or_len (nat_eq d) (x ∷ xs) ≡ 1 + position_or_len (nat_eq d) xs
number_later d x xs e = ap (λ b. cond (not b) (1 + position_or_len (nat_eq d) xs) 0) e

zero_more : (n : ℕ) → ◌≡◌ {A = ℕ} 0 (1 + n) → ⊥
zero_more n e = omega (arith, e)

itself : (d x : ℕ) → nat_eq d x ≡ false → x ≡ d → ⊥
itself d x other e = grind (arith, other, e)

behind : (d x : ℕ) (xs : List ℕ) → nat_eq d x ≡ false → Has (x ∷ xs) d → Has xs d
behind d x xs other (inl e) = absurd (itself d x other e)
behind d x xs other (inr has) = has

one_less : (m n : ℕ) → 1 + m ≡ 1 + n → m ≡ n
one_less m n e = omega (arith, e)

less_one : (m n : ℕ) → m + 1 ≡ n + 1 → m ≡ n
less_one m n e = omega (arith, e)

-- An object after the first one.
pub one_on : (o : Object) (os : List Object) (k : ℕ) (other : Object) → get_or (o ∷ os) (1 + k) other ≡ get_or os k other
one_on o os k other = ap (λ n. get_or (o ∷ os) n other) (one-add k)

pub one_more : (o : Object) (os : List Object) (k : ℕ) (other : Object) → get_or (o ∷ os) (k + 1) other ≡ get_or os k other
one_more o os k other = ap (λ n. get_or (o ∷ os) n other) (add-one k)

-- Two numbers of a list that stand at one place are one.
one_place : (xs : List ℕ) (d e : ℕ) → Has xs d → Has xs e → position_or_len (nat_eq d) xs ≡ position_or_len (nat_eq e) xs → d ≡ e
one_place [] d e has there same = absurd has
one_place (x ∷ xs) d e has there same = elim (either (nat_eq d x)) [
  | inl here ↦ elim (either (nat_eq e x)) [
    | inl other ↦ same_number d x here ∙ sym (same_number e x other)
    | inr other ↦ absurd (zero_more (position_or_len (nat_eq e) xs) (sym (number_here d x xs here) ∙ same ∙ number_later e x xs other))
  ]
  | inr here ↦ elim (either (nat_eq e x)) [
    | inl other ↦ absurd (zero_more (position_or_len (nat_eq d) xs) (sym (number_here e x xs other) ∙ sym same ∙ number_later d x xs here))
    | inr other ↦ one_place xs d e (behind d x xs here has) (behind e x xs other there)
        (one_less (position_or_len (nat_eq d) xs) (position_or_len (nat_eq e) xs) (sym (number_later d x xs here) ∙ same ∙ number_later e x xs other))
  ]
]

place_below : (xs : List ℕ) (d : ℕ) → Has xs d → position_or_len (nat_eq d) xs < length xs
place_below [] d has = absurd has
place_below (x ∷ xs) d has = elim (either (nat_eq d x)) [
  | inl here ↦ (let is = number_here d x xs here in omega (arith, is))
  | inr other ↦ (let is = number_later d x xs other in let below = place_below xs d (behind d x xs other has) in omega (arith, is, below))
]

-- ---- objects by their numbers

abbrev pub number_of : DeclaredObject → ℕ
number_of o = o.number

abbrev pub object_of : DeclaredObject → Object
object_of o = o.object

-- An object stands at the place of its number, if no other one has that.
pub object_there : (all : List DeclaredObject) (o : DeclaredObject) → Once (map number_of all) → Has all o
    → get_or (map object_of all) (position_or_len (nat_eq o.number) (map number_of all)) text_io ≡ o.object
object_there [] o once has = absurd has
object_there (x ∷ all) o once has = elim (either (nat_eq o.number x.number)) [
  | inl here ↦
      ap (λ k. get_or (map object_of (x ∷ all)) k text_io) (number_here o.number x.number (map number_of all) here)
      ∙ ap object_of (it_is has (same_number o.number x.number here))
  | inr other ↦
      ap (λ k. get_or (map object_of (x ∷ all)) k text_io) (number_later o.number x.number (map number_of all) other)
      ∙ one_on (object_of x) (map object_of all) (position_or_len (nat_eq o.number) (map number_of all)) text_io ∙ object_there all o once.1 (later has other)
]
  where
    it_is : Has (x ∷ all) o → o.number ≡ x.number → x ≡ o
    it_is (inl e) same = e
    it_is (inr has) same = absurd (once.0 (subst (Has (map number_of all)) same (Has-map number_of all o has)))

    later : Has (x ∷ all) o → nat_eq o.number x.number ≡ false → Has all o
    later (inl e) other = absurd (itself o.number x.number other (ap number_of e))
    later (inr has) other = has

-- ---- parts

-- Some objects are left of others, in their order.
abbrev pub IsPart : List DeclaredObject → List DeclaredObject → Type 0
IsPart some [] = some ≡ []
IsPart some (o ∷ all) = ((rest : List DeclaredObject) × (some ≡ o ∷ rest) × IsPart rest all) ⊎ IsPart some all

pub part_whole : (all : List DeclaredObject) → IsPart all all
part_whole [] = refl
part_whole (o ∷ all) = inl (all, refl, part_whole all)

pub part_none : (all : List DeclaredObject) → IsPart [] all
part_none [] = refl
part_none (o ∷ all) = inr (part_none all)

pub part_both : (some all more whole : List DeclaredObject) → IsPart some all → IsPart more whole → IsPart (some ++ more) (all ++ whole)
part_both some [] more whole h g = subst (λ xs. IsPart (xs ++ more) whole) (sym h) g
part_both some (o ∷ all) more whole (inl h) g = inl (h.0 ++ more, ap (λ xs. xs ++ more) h.1, part_both h.0 all more whole h.2 g)
part_both some (o ∷ all) more whole (inr h) g = inr (part_both some all more whole h g)

nothing_more : (xs : List DeclaredObject) → xs ++ [] ≡ xs
nothing_more xs = append-nil xs

pub part_left : (some all more : List DeclaredObject) → IsPart some all → IsPart some (all ++ more)
part_left some all more h = subst (λ xs. IsPart xs (all ++ more)) (nothing_more some) (part_both some all [] more h (part_none more))

pub part_right : (some all before : List DeclaredObject) → IsPart some all → IsPart some (before ++ all)
part_right some all before h = part_both [] before some all (part_none before) h

pub part_has : (some all : List DeclaredObject) → IsPart some all → (o : DeclaredObject) → Has some o → Has all o
part_has some [] h o has = subst (λ xs. Has xs o) h has
part_has some (x ∷ all) (inl h) o has = elim (subst (λ xs. Has xs o) h.1 has) [ inl e ↦ inl e | inr later ↦ inr (part_has h.0 all h.2 o later) ]
part_has some (x ∷ all) (inr h) o has = inr (part_has some all h o has)

part_once : (some all : List DeclaredObject) → IsPart some all → Once (map number_of all) → Once (map number_of some)
part_once some [] h once = subst (λ xs. Once (map number_of xs)) (sym h) tt
part_once some (x ∷ all) (inl h) once =
    subst (λ xs. Once (map number_of xs)) (sym h.1) (apart, part_once h.0 all h.2 once.1)
  where
    apart : Has (map number_of h.0) x.number → ⊥
    apart has =
        (let other = Has-map_from number_of h.0 x.number has in
        once.0 (subst (Has (map number_of all)) other.2 (Has-map number_of all other.0 (part_has h.0 all h.2 other.0 other.1))))
part_once some (x ∷ all) (inr h) once = part_once some all h once.1

module _ (s : Site) (all : List DeclaredObject) (is : s.objects ≡ map number_of all) (once : Once (map number_of all)) where
  numbered_once : (some : List DeclaredObject) → ((o : DeclaredObject) → Has some o → Has all o) → Once (map number_of some) → Once (numbers s some)
  numbered_once [] within own = tt
  numbered_once (o ∷ some) within own = (apart, numbered_once some (λ u has. within u (inr has)) own.1)
    where
      apart : Has (numbers s some) (object_number s o.number) → ⊥
      apart has =
          let other = Has-map_from (λ (u : DeclaredObject). object_number s u.number) some (object_number s o.number) has in
          let same : o.number ≡ (other.0).number =
          one_place (map number_of all) o.number (other.0).number (Has-map number_of all o (within o (inl refl))) (Has-map number_of all other.0 (within other.0 (inr other.1)))
          (less_one (position_or_len (nat_eq o.number) (map number_of all)) (position_or_len (nat_eq (other.0).number) (map number_of all))
          (sym (sym (ap (λ xs. position_or_len (nat_eq (other.0).number) xs + 1) is) ∙ other.2 ∙ ap (λ xs. position_or_len (nat_eq o.number) xs + 1) is))) in
          own.0 (subst (Has (map number_of some)) (sym same) (Has-map number_of some other.0 other.1))

  -- The objects of a part have numbers of their own, those of objects of the program.
  pub part_numbers_once : (some : List DeclaredObject) → IsPart some all → Once (numbers s some)
  part_numbers_once some part = numbered_once some (part_has some all part) (part_once some all part once)

  pub part_numbers_within : (some : List DeclaredObject) → IsPart some all → (x : ℕ) → Has (numbers s some) x → (1 ≤ x) × (x < 1 + length all)
  part_numbers_within some part x has =
      let found = Has-map_from (λ (u : DeclaredObject). object_number s u.number) some x has in
      let below = place_below (map number_of all) (found.0).number (Has-map number_of all found.0 (part_has some all part found.0 found.1)) in
      let here : position_or_len (nat_eq (found.0).number) (map number_of all) + 1 ≡ x =
      sym (ap (λ xs. position_or_len (nat_eq (found.0).number) xs + 1) is) ∙ found.2 in
      let long = length-map all number_of in
      (omega (arith, here), omega (arith, here, below, long))

  -- The object with such a number is the one of the part.
  pub part_object : (some : List DeclaredObject) → IsPart some all → (x : ℕ) → Has (numbers s some) x
      → (o : DeclaredObject) × Has some o × (get_or (text_io ∷ map object_of all) x text_io ≡ o.object)
  part_object some part x has =
      let found = Has-map_from (λ (u : DeclaredObject). object_number s u.number) some x has in
      let here : x ≡ 1 + position_or_len (nat_eq (found.0).number) (map number_of all) =
      sym found.2 ∙ ap (λ xs. position_or_len (nat_eq (found.0).number) xs + 1) is ∙ more (position_or_len (nat_eq (found.0).number) (map number_of all)) in (
        found.0,
        found.1,
        ap (λ k. get_or (text_io ∷ map object_of all) k text_io) here ∙ one_on text_io (map object_of all) (position_or_len (nat_eq (found.0).number) (map number_of all)) text_io
            ∙ object_there all found.0 once (part_has some all part found.0 found.1),
      )
    where
      more : (n : ℕ) → n + 1 ≡ 1 + n
      more n = omega arith
