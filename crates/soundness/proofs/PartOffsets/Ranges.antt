-- A part stands within its whole, and two parts of which neither is in the other stand apart.
use Rattle.std.proofs.Common.{◌≡◌, refl, sym, ap, ◌∙◌, subst, ◌⊎◌, inl, inr, ℕ, suc, ◌+◌, ◌*◌, ◌<◌, ◌≤◌, Bool, true, false, ◌&&◌, List, [], ◌∷◌, ◌++◌, map, sum, length, arith, append_assoc, nat_lt, ltb-true}
use Rattle.std.proofs.lemmas.Bool.{cases_lt, false≢true}
use Rattle.spark_base.proofs.Lists.{ends}
use Rattle.machine.specs.type_definitions.declared.table.Component.{Component as Field}
use Rattle.machine.specs.type_definitions.declared.table.Shape.{Shape}
use Rattle.machine.specs.type_definitions.declared.table.Shape.TheVariants as shape
use Rattle.machine.specs.type_definitions.Types.{Table, shape_of, components_of, fields, words, words_of}
use Rattle.soundness.specs.OwnedWays.Ways.{Step, Component, Element}
use Rattle.machine.specs.Words.{no_component, words_before, component_type, element_of, count_of, element_type, element_count}
use Rattle.soundness.specs.PartOffsets.Parts.{type_in, offset_in, has_part, owns_one, is_leaf, IsSettled}
use Rattle.soundness.proofs.PartOffsets.Sums.{sum_next, sum_more, sum_all, run_before}
use Rattle.soundness.proofs.Parted.{by_either}

pub both_parts : (a b : Bool) → a && b ≡ true → (a ≡ true) × (b ≡ true)
both_parts true b e = (refl, e)
both_parts false b e = absurd (false≢true e)

-- ---- words of wholes

record_words : (w : ℕ → ℕ) (s : Shape) (i : ℕ) → i < length (components_of s) → words_of w s ≡ sum (map (λ (c : Field). w c.of) (components_of s))
record_words w (shape.Fields cs) i lt = refl
record_words w (shape.Whole a b) i lt = absurd (omega (arith, lt))
record_words w (shape.Listed l a b) i lt = absurd (omega (arith, lt))
record_words w (shape.Access d c n) i lt = absurd (omega (arith, lt))
record_words w (shape.Elements a b e) i lt = absurd (omega (arith, lt))
record_words w (shape.Same of) i lt = absurd (omega (arith, lt))

array_words : (w : ℕ → ℕ) (s : Shape) (n : ℕ) → n < count_of s → words_of w s ≡ count_of s * w (element_of s)
array_words w (shape.Elements a b e) n lt = refl
array_words w (shape.Whole a b) n lt = absurd (omega (arith, lt))
array_words w (shape.Listed l a b) n lt = absurd (omega (arith, lt))
array_words w (shape.Access d c m) n lt = absurd (omega (arith, lt))
array_words w (shape.Fields cs) n lt = absurd (omega (arith, lt))
array_words w (shape.Same of) n lt = absurd (omega (arith, lt))

-- a type has no components and elements at once
pub not_both : (s : Shape) (i n : ℕ) → i < length (components_of s) → n < count_of s → ⊥
not_both (shape.Fields cs) i n a b = absurd (omega (arith, b))
not_both (shape.Whole l h) i n a b = absurd (omega (arith, b))
not_both (shape.Listed k l h) i n a b = absurd (omega (arith, b))
not_both (shape.Access d c m) i n a b = absurd (omega (arith, b))
not_both (shape.Elements l h e) i n a b = absurd (omega (arith, a))
not_both (shape.Same of) i n a b = absurd (omega (arith, b))

-- an owning word has none
pub no_inner : (s : Shape) → owns_one s ≡ true → (components_of s ≡ []) × (count_of s ≡ 0) × ((w : ℕ → ℕ) → words_of w s ≡ 1)
no_inner (shape.Access d c n) e = (refl, refl, λ w. refl)
no_inner (shape.Fields cs) e = absurd (false≢true e)
no_inner (shape.Whole l h) e = absurd (false≢true e)
no_inner (shape.Listed k l h) e = absurd (false≢true e)
no_inner (shape.Elements l h el) e = absurd (false≢true e)
no_inner (shape.Same of) e = absurd (false≢true e)

module _ (table : Table) (settled : IsSettled table) where
  pub component_within : (u i : ℕ) → i < length (fields table u)
      → words_before table u i + words table (component_type table u i) ≤ words table u
  component_within u i lt =
      let whole = settled.word_law u ∙ record_words (words table) (shape_of table u) i lt in
      let next = sum_next (λ (c : Field). words table c.of) no_component (fields table u) i lt in
      let all = sum_all (λ (c : Field). words table c.of) no_component (fields table u) (suc i) in
      omega (arith, whole, next, all)

  pub component_before : (u i j : ℕ) → i < length (fields table u) → i < j
      → words_before table u i + words table (component_type table u i) ≤ words_before table u j
  component_before u i j lt less =
      let next = sum_next (λ (c : Field). words table c.of) no_component (fields table u) i lt in
      let more = sum_more (λ (c : Field). words table c.of) no_component (fields table u) (suc i) j (omega (arith, less)) in
      omega (arith, next, more)

  pub element_within : (u n : ℕ) → n < element_count table u
      → n * words table (element_type table u) + words table (element_type table u) ≤ words table u
  element_within u n lt =
      let whole = settled.word_law u ∙ array_words (words table) (shape_of table u) n lt in
      let run = run_before n (element_count table u) (words table (element_type table u)) lt in
      omega (arith, whole, run)

  pub record Within (t : ℕ) (q p : List Step) : Type 0 where
    pub start : offset_in table t q ≤ offset_in table t p
    pub stop : offset_in table t p + words table (type_in table t p) ≤ offset_in table t q + words table (type_in table t q)
    pub whole : has_part table t q ≡ true

  pub one_within : (t : ℕ) (p : List Step) (i : Step) → has_part table t (i ∷ p) ≡ true → Within t p (i ∷ p)
  one_within t p (Component i) has =
      let both = both_parts (has_part table t p) (nat_lt i (length (fields table (type_in table t p)))) has in
      let fit = component_within (type_in table t p) i (ltb-true _ _ both.1) in
      record { start = omega arith; stop = omega (arith, fit); whole = both.0 }
  one_within t p (Element n) has =
      let both = both_parts (has_part table t p) (nat_lt n (element_count table (type_in table t p))) has in
      let fit = element_within (type_in table t p) n (ltb-true _ _ both.1) in
      record { start = omega arith; stop = omega (arith, fit); whole = both.0 }

  pub all_within : (t : ℕ) (r q : List Step) → has_part table t (r ++ q) ≡ true → Within t q (r ++ q)
  all_within t [] q has = record { start = omega arith; stop = omega arith; whole = has }
  all_within t (i ∷ r) q has =
      let one = one_within t (r ++ q) i has in
      let more = all_within t r q one.whole in
      let a = one.start in let b = one.stop in let c = more.start in let d = more.stop in
      record { start = omega (arith, a, c); stop = omega (arith, b, d); whole = more.whole }

  -- one ends before the other begins
  abbrev pub Ends : ℕ → List Step → List Step → Type 0
  Ends t p q = offset_in table t p + words table (type_in table t p) ≤ offset_in table t q

  abbrev pub Aside : ℕ → List Step → List Step → Type 0
  Aside t p q = Ends t p q ⊎ Ends t q p

  cases_other : (i j : ℕ) → (i ≡ j → ⊥) → (i < j) ⊎ (j < i)
  cases_other i j ne = elim (cases_lt i j) [
    | inl lt ↦ inl lt
    | inr le ↦ inr (grind (arith, ne, le))
  ]

  siblings : (t : ℕ) (p : List Step) (i j : Step) → has_part table t (i ∷ p) ≡ true → has_part table t (j ∷ p) ≡ true
      → (i ≡ j → ⊥) → Aside t (i ∷ p) (j ∷ p)
  siblings t p (Component i) (Component j) a b ne =
      let one = both_parts (has_part table t p) (nat_lt i (length (fields table (type_in table t p)))) a in
      let two = both_parts (has_part table t p) (nat_lt j (length (fields table (type_in table t p)))) b in
      elim (cases_other i j (λ e. ne (ap Component e))) [
        | inl lt ↦ (let fit = component_before (type_in table t p) i j (ltb-true _ _ one.1) lt in inl (omega (arith, fit)))
        | inr lt ↦ (let fit = component_before (type_in table t p) j i (ltb-true _ _ two.1) lt in inr (omega (arith, fit)))
      ]
  siblings t p (Element n) (Element m) a b ne =
      elim (cases_other n m (λ e. ne (ap Element e))) [
        | inl lt ↦ (let run = run_before n m (words table (element_type table (type_in table t p))) lt in inl (omega (arith, run)))
        | inr lt ↦ (let run = run_before m n (words table (element_type table (type_in table t p))) lt in inr (omega (arith, run)))
      ]
  siblings t p (Component i) (Element m) a b ne =
      let one = both_parts (has_part table t p) (nat_lt i (length (fields table (type_in table t p)))) a in
      let two = both_parts (has_part table t p) (nat_lt m (element_count table (type_in table t p))) b in
      absurd (not_both (shape_of table (type_in table t p)) i m (ltb-true _ _ one.1) (ltb-true _ _ two.1))
  siblings t p (Element n) (Component j) a b ne =
      let one = both_parts (has_part table t p) (nat_lt n (element_count table (type_in table t p))) a in
      let two = both_parts (has_part table t p) (nat_lt j (length (fields table (type_in table t p)))) b in
      absurd (not_both (shape_of table (type_in table t p)) j n (ltb-true _ _ two.1) (ltb-true _ _ one.1))

  -- p is in q, or q in p, or they stand apart
  pub data Lie (t : ℕ) (p q : List Step) : Type 0 where
    first_in : (r : List Step) → p ≡ r ++ q → Lie t p q
    second_in : (r : List Step) → q ≡ r ++ p → Lie t p q
    aside : Aside t p q → Lie t p q

  same_or_not : (i j : Step) → (i ≡ j) ⊎ (i ≡ j → ⊥)
  same_or_not (Component i) (Component j) = by_either (cases_lt i j)
      (λ lt. (inr (λ e. (let same : i ≡ j = cc in absurd (omega (arith, lt, same))))))
      (λ le. (by_either (cases_lt j i)
      (λ lt. (inr (λ e. (let same : i ≡ j = cc in absurd (omega (arith, lt, same))))))
      (λ more. (let same : i ≡ j = omega (arith, le, more) in inl (ap Component same)))))
  same_or_not (Element i) (Element j) = by_either (cases_lt i j)
      (λ lt. (inr (λ e. (let same : i ≡ j = cc in absurd (omega (arith, lt, same))))))
      (λ le. (by_either (cases_lt j i)
      (λ lt. (inr (λ e. (let same : i ≡ j = cc in absurd (omega (arith, lt, same))))))
      (λ more. (let same : i ≡ j = omega (arith, le, more) in inl (ap Element same)))))
  same_or_not (Component i) (Element j) = inr (λ e. cc)
  same_or_not (Element i) (Component j) = inr (λ e. cc)

  below_sibling : (t : ℕ) (r q : List Step) (k j : Step) → has_part table t (r ++ k ∷ q) ≡ true → has_part table t (j ∷ q) ≡ true
      → Lie t (r ++ k ∷ q) (j ∷ q)
  below_sibling t r q k j a b =
      let within = all_within t r (k ∷ q) a in
      let lo = within.start in
      let hi = within.stop in
      by_either (same_or_not k j)
      (λ e. (first_in r (ap (λ x. r ++ x ∷ q) e)))
      (λ ne. (by_either (siblings t q k j within.whole b ne) (λ before. (aside (inl (omega (arith, hi, before))))) (λ behind. (aside (inr (omega (arith, lo, behind)))))))

  pub lie : (t : ℕ) (p q : List Step) → has_part table t p ≡ true → has_part table t q ≡ true → Lie t p q
  lie t p [] a b = first_in p (sym (no_more p))
    where
      no_more : (p : List Step) → p ++ [] ≡ p
      no_more [] = refl
      no_more (i ∷ p) = ap (λ x. i ∷ x) (no_more p)
  lie t p (j ∷ q) a b =
      let one = one_within t q j b in
      let lo = one.start in
      let hi = one.stop in
      elim (lie t p q a one.whole) [
        | first_in r e ↦ at_end r e (ends r)
        | second_in r e ↦ second_in (j ∷ r) (ap (λ x. j ∷ x) e)
        | aside x ↦ aside (elim x [ inl before ↦ inl (omega (arith, lo, before)) | inr behind ↦ inr (omega (arith, hi, behind)) ])
      ]
    where
      at_end : (r : List Step) → p ≡ r ++ q → (r ≡ []) ⊎ ((s : List Step) × (k : Step) × (r ≡ s ++ k ∷ [])) → Lie t p (j ∷ q)
      at_end r e (inl none) = second_in (j ∷ []) (ap (λ x. j ∷ x) (sym (e ∙ ap (λ x. x ++ q) none)))
      at_end r e (inr more) =
          let is : p ≡ more.0 ++ more.1 ∷ q = e ∙ ap (λ x. x ++ q) more.2 ∙ append_assoc more.0 (more.1 ∷ []) q in
          subst (λ x. Lie t x (j ∷ q)) (sym is) (below_sibling t more.0 q more.1 j (ap (has_part table t) (sym is) ∙ a) b)

  -- ---- words that own

  pub leaf_words : (t : ℕ) (p : List Step) → is_leaf table t p ≡ true → words table (type_in table t p) ≡ 1
  leaf_words t p e =
      let both = both_parts (has_part table t p) (owns_one (shape_of table (type_in table t p))) e in
      settled.word_law (type_in table t p) ∙ (no_inner (shape_of table (type_in table t p)) both.1).2 (words table)

  -- nothing is in one
  pub leaf_end : (t : ℕ) (r p : List Step) → is_leaf table t p ≡ true → has_part table t (r ++ p) ≡ true → r ≡ []
  leaf_end t [] p e has = refl
  leaf_end t (i ∷ r) p e has =
      let none = leaf_end t r p e (one_within t (r ++ p) i has).whole in
      absurd (no_step i (ap (λ x. has_part table t (i ∷ x ++ p)) (sym none) ∙ has))
    where
      no_step : (i : Step) → has_part table t (i ∷ p) ≡ true → ⊥
      no_step (Component i) has =
          let both = both_parts (has_part table t p) (owns_one (shape_of table (type_in table t p))) e in
          let one = both_parts (has_part table t p) (nat_lt i (length (fields table (type_in table t p)))) has in
          let lt = ltb-true _ _ one.1 in
          let none = ap length (no_inner (shape_of table (type_in table t p)) both.1).0 in
          absurd (omega (arith, lt, none))
      no_step (Element n) has =
          let both = both_parts (has_part table t p) (owns_one (shape_of table (type_in table t p))) e in
          let one = both_parts (has_part table t p) (nat_lt n (element_count table (type_in table t p))) has in
          let lt = ltb-true _ _ one.1 in
          let none = (no_inner (shape_of table (type_in table t p)) both.1).1 in
          absurd (omega (arith, lt, none))

  pub leaf_part : (t : ℕ) (p : List Step) → is_leaf table t p ≡ true → has_part table t p ≡ true
  leaf_part t p e = (both_parts (has_part table t p) (owns_one (shape_of table (type_in table t p))) e).0

  -- one that isn't in a place stands outside of the words of the place
  pub leaf_outside : (t : ℕ) (p q : List Step) → is_leaf table t p ≡ true → has_part table t q ≡ true
      → ((r : List Step) → p ≡ r ++ q → ⊥)
      → (offset_in table t p < offset_in table t q) ⊎ (offset_in table t q + words table (type_in table t q) ≤ offset_in table t p)
  leaf_outside t p q a b off =
      let wp = leaf_words t p a in
      elim (lie t p q (leaf_part t p a) b) [
        | first_in r e ↦ absurd (off r e)
        | second_in r e ↦ absurd (off [] (sym (e ∙ ap (λ x. x ++ p) (leaf_end t r p a (ap (has_part table t) (sym e) ∙ b)))))
        | aside x ↦ elim x [ inl before ↦ inl (omega (arith, before, wp)) | inr behind ↦ inr behind ]
      ]
