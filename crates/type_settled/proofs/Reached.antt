-- The types that are found are those that have a marked type in them.
use Rattle.std.proofs.Common.{◌≡◌, ◌⊎◌, inl, inr, ℕ, zero, suc, ◌+◌, ◌<◌, ◌≤◌, Bool, true, false, ◌||◌, ◌&&◌, List, [], ◌∷◌, refl, sym, ap, ◌∙◌, arith, length, length-set, get_or, set, replicate, Option, Some, None, true≢false}
use Rattle.std.proofs.lemmas.Bool.{cases_eq, cases_lt}
use Rattle.std.proofs.lemmas.List.{length-replicate, get_or-replicate, get_or-set_other, get_or_past}
use Rattle.std.proofs.lemmas.Option.{slice_get-get_or, slice_get_past}
use Rattle.type_definitions.specs.declared.table.Component.{Component}
use Rattle.type_definitions.specs.declared.table.Shape.{Shape}
use Rattle.type_definitions.specs.declared.table.Shape.TheVariants as shape
use Rattle.type_definitions.specs.declared.table.Info.{Info}
use Rattle.type_definitions.specs.Types.{Table, info, info_found}
use Rattle.type_definitions.specs.Declarations.{any_of, holds_shape, holds_parent}
use Rattle.type_settled.specs.declared.reach.Found.{Found}
use Rattle.type_settled.specs.Measures.{marked, some_below}
use Rattle.type_settled.specs.Reach.{holds, has_some, is_in, IsFound, IsClosed, AreFound}

-- ---- tests

or_first : (a b : Bool) → a || b ≡ false → a ≡ false
or_first true b e = e
or_first false b e = refl

or_second : (a b : Bool) → a || b ≡ false → b ≡ false
or_second true b e = absurd (true≢false e)
or_second false b e = e

or_none : (a b : Bool) → a ≡ false → b ≡ false → a || b ≡ false
or_none a b e f = ap (λ c. c || b) e ∙ f

pub or_true : (a b : Bool) → b ≡ true → a || b ≡ true
or_true true b e = refl
or_true false b e = e

not_both : (a : Bool) → a ≡ true → a ≡ false → ⊥
not_both a e f = true≢false (sym e ∙ f)

-- Where one test implies another, it fails with it.
fails : (a b : Bool) → (a ≡ true → b ≡ true) → b ≡ false → a ≡ false
fails true b f e = absurd (not_both b (f refl) e)
fails false b f e = refl

-- Where one test fails with another, it implies it.
passes : (a b : Bool) → (b ≡ false → a ≡ false) → a ≡ true → b ≡ true
passes a true f e = refl
passes a false f e = absurd (not_both a e (f refl))

-- ---- what holds of no part

module _ (f g : ℕ → Bool) (none : (u : ℕ) → f u ≡ false → g u ≡ false) where
  any_none : (cs : List Component) → any_of f cs ≡ false → any_of g cs ≡ false
  any_none [] e = refl
  any_none (c ∷ rest) e =
      or_none (g c.of) (any_of g rest) (none c.of (or_first (f c.of) (any_of f rest) e)) (any_none rest (or_second (f c.of) (any_of f rest) e))

  shape_none : (s : Shape) → holds_shape f s ≡ false → holds_shape g s ≡ false
  shape_none (shape.Whole low high) e = refl
  shape_none (shape.Listed literals low high) e = refl
  shape_none (shape.Access t constant named) e = refl
  shape_none (shape.Fields cs) e = any_none cs e
  shape_none (shape.Elements low high t) e = none t e
  shape_none (shape.Same t) e = none t e

  parent_none : (p : Option ℕ) → holds_parent f p ≡ false → holds_parent g p ≡ false
  parent_none None e = refl
  parent_none (Some t) e = none t e

  parents_none : (parents : Bool) (p : Option ℕ) → parents && holds_parent f p ≡ false → parents && holds_parent g p ≡ false
  parents_none true p e = parent_none p e
  parents_none false p e = refl

  pub holds_none : (parents : Bool) (i : Info) → holds parents f i ≡ false → holds parents g i ≡ false
  holds_none parents i e =
      or_none (holds_shape g i.shape) (parents && holds_parent g i.parent)
      (shape_none i.shape (or_first (holds_shape f i.shape) (parents && holds_parent f i.parent) e))
      (parents_none parents i.parent (or_second (holds_shape f i.shape) (parents && holds_parent f i.parent) e))

-- What holds of a part still does where a test is passed more often.
pub holds_more : (f g : ℕ → Bool) → ((u : ℕ) → f u ≡ true → g u ≡ true) → (parents : Bool) (i : Info) → holds parents f i ≡ true
    → holds parents g i ≡ true
holds_more f g more parents i =
    passes (holds parents f i) (holds parents g i) (holds_none g f (λ u. fails (f u) (g u) (more u)) parents i)

-- ---- no type is found

none_found : (n t : ℕ) → (t < n) ⊎ (n ≤ t) → marked (replicate n false) t ≡ false
none_found n t (inl within) = get_or-replicate n t false false within
none_found n t (inr past) = get_or_past (replicate n false) t false (omega (arith, past, length-replicate n false))

pub found_first : (parents : Bool) (is : ℕ → Bool) (table : Table) (found : Found) → 0 < length table
    → found.made.items ≡ replicate (length table) false → found.depth ≡ 0 → IsFound parents is table found
found_first parents is table found some made depth = record {
  made_length = rw made (length-replicate (length table) false);
  within = omega (arith, some, depth);
  right = λ t n le is_found.
      absurd (not_both (marked found.made.items t) is_found
      (ap (λ ms. marked ms t) made ∙ none_found (length table) t (cases_lt t (length table))));
}

-- ---- one more type is found

-- One more than the depth is at least 1.
one_less : (d n : ℕ) → d + 1 ≤ n → (k : ℕ) × (n ≡ suc k) × (d ≤ k)
one_less d zero le = absurd (omega (arith, le))
one_less d (suc k) le = (k, refl, omega (arith, le))

module _ (parents : Bool) (marks : List Bool) (table : Table) (found : Found) (right : IsFound parents (marked marks) table found) (t : ℕ)
    (in_it : holds parents (is_in marks found.made.items) (info table t) ≡ true) where
  -- What is in a part that is found is found one level deeper.
  in_deeper : (k : ℕ) → found.depth ≤ k → (u : ℕ) → is_in marks found.made.items u ≡ true
      → marked marks u || has_some parents k (marked marks) table u ≡ true
  in_deeper k le u is = or_deeper (marked marks u) (marked found.made.items u) (has_some parents k (marked marks) table u) (right.right u k le) is
    where
      or_deeper : (a b c : Bool) → (b ≡ true → c ≡ true) → a || b ≡ true → a || c ≡ true
      or_deeper true b c f is = refl
      or_deeper false b c f is = f is

  here : (n : ℕ) → found.depth + 1 ≤ n → has_some parents n (marked marks) table t ≡ true
  unfolding has_some
  here n le =
      let less = one_less found.depth n le in
      ap (λ n. has_some parents n (marked marks) table t) less.1
      ∙ holds_more (is_in marks found.made.items) (λ u. marked marks u || has_some parents less.0 (marked marks) table u)
      (in_deeper less.0 less.2) parents (info table t) in_it

  there : (u n : ℕ) → found.depth + 1 ≤ n → (u ≡ t) ⊎ (u ≡ t → ⊥) → marked (set found.made.items t true) u ≡ true
      → has_some parents n (marked marks) table u ≡ true
  there u n le (inl e) is = rw e (here n le)
  there u n le (inr ne) is = right.right u n (omega (arith, le)) (sym (get_or-set_other found.made.items t u true false ne) ∙ is)

pub found_step : (parents : Bool) (marks : List Bool) (table : Table) (found after : Found) (t : ℕ) (i : Info)
    → IsFound parents (marked marks) table found → t < length table → found.depth + 1 < length table → i ≡ get_or table t i
    → holds parents (is_in marks found.made.items) i ≡ true → after.made.items ≡ set found.made.items t true
    → after.depth ≡ found.depth + 1 → IsFound parents (marked marks) table after
found_step parents marks table found after t i right within room at in_it made depth =
    let same : info table t ≡ i = ap info_found (slice_get-get_or table t i within) ∙ sym at in
    let in_it : holds parents (is_in marks found.made.items) (info table t) ≡ true = rw same in_it in
    record {
      made_length = rw made (length-set found.made.items t true ∙ right.made_length);
      within = omega (arith, depth, room);
      right = λ u n le is.
          there parents marks table found right t in_it u n (omega (arith, le, depth)) (cases_eq u t) (sym (ap (λ ms. marked ms u) made) ∙ is);
    }

-- ---- no type is left

pub past_none : (parents : Bool) (has : ℕ → Bool) (table : Table) (t : ℕ) → length table ≤ t → holds parents has (info table t) ≡ false
past_none true has table t past = ap (λ o. holds true has (info_found o)) (slice_get_past table t past)
past_none false has table t past = ap (λ o. holds false has (info_found o)) (slice_get_past table t past)

pub closed_at : (parents : Bool) (marks made : List Bool) (table : Table) (t : ℕ) (i : Info) → t < length table → i ≡ get_or table t i
    → holds parents (is_in marks made) i ≡ false → holds parents (is_in marks made) (info table t) ≡ false
closed_at parents marks made table t i within at none =
    let found : info table t ≡ i = ap info_found (slice_get-get_or table t i within) ∙ sym at in rw found none

pub all_closed : (parents : Bool) (marks made : List Bool) (table : Table)
    → ((k : ℕ) → k < length table → marked made k ≡ false → holds parents (is_in marks made) (info table k) ≡ false)
    → IsClosed parents marks table made
all_closed parents marks made table each t left =
    elim (cases_lt t (length table)) [ inl within ↦ each t within left | inr past ↦ past_none parents (is_in marks made) table t past ]

-- ---- all are found

module _ (parents : Bool) (marks made : List Bool) (table : Table) (closed : IsClosed parents marks table made) where
  left_none : (n t : ℕ) → marked made t ≡ false → has_some parents n (marked marks) table t ≡ false
  unfolding has_some
  left_none zero t left = refl
  left_none (suc n) t left =
      holds_none (is_in marks made) (λ u. marked marks u || has_some parents n (marked marks) table u)
      (λ u none.
      or_none (marked marks u) (has_some parents n (marked marks) table u) (or_first (marked marks u) (marked made u) none)
      (left_none n u (or_second (marked marks u) (marked made u) none)))
      parents (info table t) (closed t left)

by_cases : (a b : Bool) → (a ≡ true → b ≡ true) → (a ≡ false → b ≡ false) → a ≡ b
by_cases true b holds fails = sym (holds refl)
by_cases false b holds fails = sym (fails refl)

pub all_found : (parents : Bool) (marks : List Bool) (table : Table) (found : Found) → IsFound parents (marked marks) table found
    → IsClosed parents marks table found.made.items → AreFound parents (marked marks) table found.made.items
all_found parents marks table found right closed t n le =
    by_cases (marked found.made.items t) (has_some parents n (marked marks) table t)
    (right.right t n (omega (arith, le, right.within))) (left_none parents marks found.made.items table closed n t)

-- ---- where the type in a mark counts

pub some_found : (n : ℕ) (is : ℕ → Bool) (table : Table) (t : ℕ) → has_some true n is table t ≡ some_below n is table t
unfolding has_some some_below
some_found zero is table t = refl
some_found (suc n) is table t =
    λ j. holds true (λ u. is u || some_found n is table u j) (info table t)
