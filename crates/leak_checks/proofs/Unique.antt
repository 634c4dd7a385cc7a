-- A program has one leak plan.
use Rattle.std.proofs.Common.{◌≡◌, refl, sym, ap, ◌∙◌, subst, inl, inr, ℕ, suc, ◌+◌, ◌<◌, Bool, true, false, List, [], ◌∷◌, length, get_or, arith}
use Rattle.std.specs.declared.cmp.Ordering.{Ordering}
use Rattle.std.specs.declared.cmp.Ordering.TheVariants.{Less, Equal, Greater}
use Rattle.std.specs.Ordering.{ordering_reverse, nat_cmp, bool_cmp, is_lt}
use Rattle.std.specs.Cmp.{IsTotalOrder, nat_cmp_total, bool_cmp_total, on_total, then_total, back_total, tied_itself}
use Rattle.std.specs.Cmp.Lexicographic.{slice_cmp, lists_total, nat_list_cmp_total}
use Rattle.std.specs.List.{sum_by}
use Rattle.std.specs.List.Sorted.{IsPermutation, IsSorted}
use Rattle.std.proofs.lemmas.List.Sums.{sum_by-cons}
use Rattle.std.proofs.lemmas.List.MinMax.{ranks_by}
use Rattle.std.proofs.lemmas.List.Sorted.{sorted_far, sum_by-IsPermutation}
use Rattle.spark_base.specs.Lists.{Has}
use Rattle.spark_base.specs.Positions.{position_cmp}
use Rattle.spark_base.proofs.Orders.{then_equal, nat_cmp-equal, slice_cmp-equal}
use Rattle.spark_base.proofs.Positions.{position_cmp_total, position_cmp-equal}
use Rattle.place_names.specs.Names.{Name}
use Rattle.place_names.specs.Reports.{selector_cmp}
use Rattle.place_names.proofs.Reports.{selector_cmp_total, selector_cmp-equal}
use Rattle.flow_paths.specs.declared.report.Effects.{Effects}
use Rattle.flow_paths.specs.declared.report.LeakLine.{LeakLine}
use Rattle.flow_paths.specs.Laid.{FlowProgram}
use Rattle.flow_paths.specs.Printing.{printed_name}
use Rattle.leak_checks.specs.Plan.{Check, checks_of, Tells, TellAll, line_cmp, LeakPlan}

-- ---- what is told

same_truth : (a b : Bool) → (a ≡ true → b ≡ true) → (b ≡ true → a ≡ true) → a ≡ b
same_truth true b to from = sym (to refl)
same_truth false true to from = from refl
same_truth false false to from = refl

pub tells_same : (program : FlowProgram) (effects : Effects) (check : Check) (a b : LeakLine) → Tells program effects check a → Tells program effects check b → a ≡ b
tells_same program effects check a b s t =
    let pos = s.pos ∙ sym t.pos in
    let name = s.name ∙ sym t.name in
    let excused = same_truth a.excused b.excused (λ e. t.excused.1 (s.excused.0 e)) (λ e. s.excused.1 (t.excused.0 e)) in
    λ i. record { pos = pos i; name = name i; excused = excused i }

told_same : (program : FlowProgram) (effects : Effects) (checks : List Check) (xs ys : List LeakLine) → TellAll program effects checks xs
    → TellAll program effects checks ys → xs ≡ ys
told_same program effects [] [] [] s t = refl
told_same program effects [] [] (y ∷ ys) s t = absurd t
told_same program effects [] (x ∷ xs) ys s t = absurd s
told_same program effects (c ∷ checks) [] ys s t = absurd s
told_same program effects (c ∷ checks) (x ∷ xs) [] s t = absurd t
told_same program effects (c ∷ checks) (x ∷ xs) (y ∷ ys) s t =
    let first = tells_same program effects c x y s.0 t.0 in
    let rest = told_same program effects checks xs ys s.1 t.1 in
    λ i. first i ∷ rest i

-- ---- the order of lines

line_cmp_total : (printed : Name → List ℕ) → IsTotalOrder (line_cmp printed)
line_cmp_total printed =
    then_total
    (then_total (on_total (λ (l : LeakLine). l.pos) position_cmp_total)
    (then_total (on_total (λ (l : LeakLine). printed l.name) nat_list_cmp_total)
    (then_total (back_total (on_total (λ (l : LeakLine). l.name.root) nat_cmp_total))
    (on_total (λ (l : LeakLine). l.name.sels) (lists_total selector_cmp_total)))))
    (on_total (λ (l : LeakLine). l.excused) bool_cmp_total)

bool_cmp-equal : (a b : Bool) → bool_cmp a b ≡ Equal → a ≡ b
bool_cmp-equal true true e = refl
bool_cmp-equal true false e = cc
bool_cmp-equal false true e = cc
bool_cmp-equal false false e = refl

line_cmp-equal : (printed : Name → List ℕ) (a b : LeakLine) → line_cmp printed a b ≡ Equal → a ≡ b
line_cmp-equal printed a b e =
    let parts = then_equal _ (bool_cmp a.excused b.excused) e in
    let positions = then_equal (position_cmp a.pos b.pos) _ parts.0 in
    let texts = then_equal (slice_cmp nat_cmp (printed a.name) (printed b.name)) _ positions.1 in
    let roots = then_equal (nat_cmp b.name.root a.name.root) _ texts.1 in
    let pos = position_cmp-equal a.pos b.pos positions.0 in
    let root = nat_cmp-equal b.name.root a.name.root roots.0 in
    let sels = slice_cmp-equal selector_cmp selector_cmp-equal a.name.sels b.name.sels roots.1 in
    let excused = bool_cmp-equal a.excused b.excused parts.1 in
    λ i. record { pos = pos i; name = record { root = sym root i; sels = sels i }; excused = excused i }

-- ---- sorted lists of the same elements

abbrev one : Ordering → ℕ
one Less = 0
one Equal = 1
one Greater = 0

module _ {X : Type 0} (cmp : X → X → Ordering) (total : IsTotalOrder cmp) (same : (a b : X) → cmp a b ≡ Equal → a ≡ b) where
  -- how often a list has an element
  abbrev times : X → List X → ℕ
  times x xs = sum_by (λ y. one (cmp x y)) xs

  times-cons : (x y : X) (ys : List X) → times x (y ∷ ys) ≡ one (cmp x y) + times x ys
  times-cons x y ys = sum_by-cons (λ z. one (cmp x z)) y ys

  times-self : (x : X) (xs : List X) → times x (x ∷ xs) ≡ suc (times x xs)
  times-self x xs =
      let e = times-cons x x xs in
      let once : one (cmp x x) ≡ 1 = ap one (tied_itself total x) in
      omega (arith, e, once)

  has_some : (x : X) (ys : List X) → 0 < times x ys → Has ys x
  has_some x [] h = absurd (omega arith)
  has_some x (y ∷ ys) h = from (cmp x y) refl (λ more. has_some x ys more) (subst (λ n. 0 < n) (times-cons x y ys) h)
    where
      from : (o : Ordering) → cmp x y ≡ o → (0 < times x ys → Has ys x) → 0 < one o + times x ys → Has (y ∷ ys) x
      from Less e later h = inr (later (omega (arith, h)))
      from Equal e later h = inl (sym (same x y e))
      from Greater e later h = inr (later (omega (arith, h)))

  has_number : (x : X) (ys : List X) → Has ys x → (k : ℕ) × (k < length ys) × (get_or ys k x ≡ x)
  has_number x [] h = absurd h
  has_number x (y ∷ ys) h = elim h [
    | inl e ↦ (0, omega arith, e)
    | inr later ↦ (let n = has_number x ys later in let within = n.1 in (suc n.0, omega arith, n.2))
  ]

  -- none is less than the first one
  first_least : (x : X) (xs : List X) (y : X) → IsSorted cmp (x ∷ xs) → Has xs y → is_lt (cmp y x) ≡ false
  first_least x xs y up has =
      let n = has_number y xs has in
      let within = n.1 in
      (λ i. is_lt (cmp (sym n.2 i) x))
      ∙ sorted_far (λ a b. is_lt (cmp a b)) (ranks_by total (λ a. a)) (x ∷ xs) up 0 (suc n.0) y (omega arith) (omega arith)

  rest_sorted : (x : X) (xs : List X) → IsSorted cmp (x ∷ xs) → IsSorted cmp xs
  rest_sorted x xs up k d low high =
      let next : suc k + 1 ≡ suc (k + 1) = omega arith in
      (λ i. is_lt (cmp (get_or (x ∷ xs) (sym next i) d) (get_or xs k d))) ∙ up (suc k) d (omega arith) (omega arith)

  -- the first one of one list isn't less than that of the other
  not_less : (x y : X) (ys : List X) → IsSorted cmp (y ∷ ys) → Has (y ∷ ys) x → cmp x y ≡ Less → ⊥
  not_less x y ys up has less = elim has [
    | inl e ↦ (let tied : cmp x y ≡ Equal = ap (λ z. cmp x z) e ∙ tied_itself total x in cc)
    | inr later ↦ (let least : is_lt (cmp x y) ≡ false = first_least y ys x up later in let is : true ≡ false = sym (ap is_lt less) ∙ least in cc)
  ]

  sorted_same : (xs ys : List X) → IsSorted cmp xs → IsSorted cmp ys → ((z : X) → times z xs ≡ times z ys) → xs ≡ ys
  sorted_same [] [] up up' often = refl
  sorted_same [] (y ∷ ys) up up' often = (let e : 0 ≡ suc (times y ys) = often y ∙ times-self y ys in absurd (omega (arith, e)))
  sorted_same (x ∷ xs) [] up up' often = (let e : 0 ≡ suc (times x xs) = sym (often x) ∙ times-self x xs in absurd (omega (arith, e)))
  sorted_same (x ∷ xs) (y ∷ ys) up up' often =
      let first : x ≡ y = from (cmp x y) refl in
      let rest : xs ≡ ys = sorted_same xs ys (rest_sorted x xs up) (rest_sorted y ys up') (λ z. left z first) in
      λ i. first i ∷ rest i
    where
      in_other : Has (y ∷ ys) x
      in_other = has_some x (y ∷ ys) (let e = sym (often x) ∙ times-self x xs in omega (arith, e))

      in_this : Has (x ∷ xs) y
      in_this = has_some y (x ∷ xs) (let e = often y ∙ times-self y ys in omega (arith, e))

      from : (o : Ordering) → cmp x y ≡ o → x ≡ y
      from Less e = absurd (not_less x y ys up' in_other e)
      from Equal e = same x y e
      from Greater e = absurd (not_less y x xs up in_this (total.antisymm y x ∙ ap ordering_reverse e))

      left : (z : X) → x ≡ y → times z xs ≡ times z ys
      left z first =
          let all = sym (times-cons z x xs) ∙ often z ∙ times-cons z y ys in
          let here : one (cmp z x) ≡ one (cmp z y) = ap (λ w. one (cmp z w)) first in
          omega (arith, all, here)

  permuted_same : (all xs ys : List X) → IsPermutation all xs → IsPermutation all ys → IsSorted cmp xs → IsSorted cmp ys → xs ≡ ys
  permuted_same all xs ys one_way other up up' =
      sorted_same xs ys up up'
      (λ z. sum_by-IsPermutation (λ y. one (cmp z y)) all xs one_way ∙ sym (sum_by-IsPermutation (λ y. one (cmp z y)) all ys other))

-- ---- the plan

pub plan-unique : (program : FlowProgram) (effects : Effects) (xs ys : List LeakLine) → LeakPlan program effects xs → LeakPlan program effects ys → xs ≡ ys
plan-unique program effects xs ys p q =
    let printed = printed_name program.table program.objects in
    permuted_same (line_cmp printed) (line_cmp_total printed) (line_cmp-equal printed) p.told xs ys p.sorted.same
    (subst (λ l. IsPermutation l ys) (told_same program effects (checks_of program.subs) q.told p.told q.all p.all) q.sorted.same) p.sorted.ordered
    q.sorted.ordered
