-- Types are made of what their parts are made of.
use Rattle.std.proofs.Common.{◌≡◌, ◌⊎◌, inl, inr, ℕ, zero, suc, ◌+◌, ◌<◌, ◌≤◌, Bool, true, false, ◌&&◌, List, [], ◌∷◌, map, length, get_or, set, replicate, IsTrue, refl, sym, ap, ◌∙◌, arith, length-set}
use Rattle.std.specs.Prelude.{slice_get}
use Rattle.std.proofs.lemmas.Grind.{common_steps}
use Rattle.std.proofs.lemmas.Bool.{cases_eq, cases_lt}
use Rattle.std.proofs.lemmas.List.{length-replicate, get_or-replicate, get_or-set_same, get_or-set_other, get_or_past}
use Rattle.std.proofs.lemmas.Option.{slice_get-get_or, slice_get_past}
use Rattle.type_definitions.specs.declared.table.Shape.{Shape}
use Rattle.type_definitions.specs.declared.table.Info.{Info}
use Rattle.type_definitions.specs.Types.{Table, info, info_found, shape_found, words, words_of, words_within, parts, parts_of, parts_within}
use Rattle.type_definitions.specs.Whole.{all_short}
use Rattle.type_table.specs.declared.table.TypeSize.{TypeSize}
use Rattle.type_table.specs.Sizes.{no_size, size_of, AreSizes}
use Rattle.type_settled.specs.Orders.{shape_ready, parent_ready, is_ready, is_done}
use Rattle.type_settled.proofs.Depths.{words_same, parts_same}
use Rattle.type_settled.proofs.Measured.{shape_info}
use Rattle.type_settled.proofs.Owning.{owning_has_part}
use Rattle.type_sizes.specs.declared.sizes.Sizes.{Sizes}
use Rattle.type_sizes.specs.Limits.{AreWithin}
use Rattle.type_sizes.specs.Sizes.{size_with, sized, words_in, parts_in, shape_size, IsSmall, IsSized}
use Rattle.type_sizes.proofs.Within.{few_words_at, short_parts_at}

and_first : (a b : Bool) → IsTrue (a && b) → IsTrue a
and_first a b p = grind arith

-- ---- the size of a type

found_shape : (table : Table) (t : ℕ) → (info table t).shape ≡ shape_found (slice_get table t)
found_shape table t = shape_info (slice_get table t)

-- Where the parts have their size at a depth, the type has its size at one more.
sized_ready : (sizes : List TypeSize) (n : ℕ) (table : Table) (t : ℕ) (done : ℕ → Bool)
    → ((u : ℕ) → IsTrue (done u) → get_or sizes u no_size ≡ sized n table u) → IsTrue (shape_ready done (info table t).shape)
    → shape_size sizes (info table t).shape ≡ sized (suc n) table t
unfolding words_within parts_within
sized_ready sizes n table t done same ready =
    let s : Shape = (info table t).shape in
    let w : words_of (words_in sizes) s ≡ words_of (words_within n table) s =
    words_same (words_in sizes) (words_within n table) done (λ u is. ap (λ z. z.words) (same u is)) s ready in
    let p : parts_of (parts_in sizes) s ≡ parts_of (parts_within n table) s =
    parts_same (parts_in sizes) (parts_within n table) done (λ u is. ap (λ z. z.parts) (same u is)) s ready in
    (λ j. size_with (w j) (p j))
    ∙ ap (λ s. size_with (words_of (words_within n table) s) (parts_of (parts_within n table) s)) (found_shape table t)

pub sized_step : (sizes : List TypeSize) (n : ℕ) (table : Table) (t : ℕ)
    → ((u : ℕ) → get_or sizes u no_size ≡ sized n table u) → shape_size sizes (info table t).shape ≡ sized (suc n) table t
unfolding words_within parts_within
sized_step sizes n table t same =
    (λ j. size_with (words_of (λ u. (same u j).words) (info table t).shape) (parts_of (λ u. (same u j).parts) (info table t).shape))
    ∙ ap (λ s. size_with (words_of (words_within n table) s) (parts_of (parts_within n table) s)) (found_shape table t)

-- Beyond the table there is nothing.
pub sized_past : (n : ℕ) (table : Table) (t : ℕ) → length table ≤ t → sized n table t ≡ no_size
unfolding words_within parts_within
sized_past zero table t past = refl
sized_past (suc n) table t past =
    ap (λ o. size_with (words_of (words_within n table) (shape_found o)) (parts_of (parts_within n table) (shape_found o)))
    (slice_get_past table t past)

pub sized_first : (table : Table) (t : ℕ) → get_or [] t no_size ≡ sized 0 table t
unfolding words_within parts_within
sized_first table t = refl

-- At the depth of the table it is the size of the type.
pub sized_whole : (table : Table) (t : ℕ) → sized (length table) table t ≡ size_of table t
unfolding words parts
sized_whole table t = ap (λ owns. record { words = words table t; owning = owns; parts = parts table t }) (sym (owning_has_part table t))

-- ---- within the limits

pub is_small : (sizes : List TypeSize) (s : Shape) (n : ℕ) (table : Table) (t : ℕ) → AreWithin table → n ≤ length table
    → shape_size sizes s ≡ sized n table t → IsSmall sizes s
is_small sizes s n table t within le is =
    let w : words_of (words_in sizes) s ≡ words_within n table t = ap (λ z. z.words) is in
    let few : words_within n table t ≤ 65536 = few_words_at table t n (within t) le in
    record {
      few_words = omega (arith, w, few);
      short_parts = ap (λ z. all_short z.parts) is ∙ short_parts_at table t n (within t) le;
    }

-- ---- no type is done

first_right : (table : Table) (t n : ℕ) → (t < length table) ⊎ (length table ≤ t)
    → IsTrue (get_or (replicate (length table) false) t true) → get_or (replicate (length table) no_size) t no_size ≡ sized n table t
first_right table t n (inl within) done =
    let e : false ≡ true = sym (get_or-replicate (length table) t false true within) ∙ done in absurd (cc e)
first_right table t n (inr past) done =
    get_or_past (replicate (length table) no_size) t no_size (grind (arith, common_steps, past)) ∙ sym (sized_past n table t past)

pub first_sized : (table : Table) (sizes : Sizes) → sizes.values.items ≡ replicate (length table) no_size
    → sizes.done.items ≡ replicate (length table) false → sizes.depth ≡ 0 → IsSized table sizes
first_sized table sizes values done depth = record {
  values_length = rw values (length-replicate (length table) no_size);
  done_length = rw done (length-replicate (length table) false);
  within = omega (arith, depth);
  right = λ t n le is_done.
      ap (λ ms. get_or ms t no_size) values
      ∙ first_right table t n (cases_lt t (length table)) (ap (λ ds. get_or ds t true) (sym done) ∙ is_done);
}

-- ---- one more type is done

one_less : (d n : ℕ) → d + 1 ≤ n → (k : ℕ) × (n ≡ suc k) × (d ≤ k)
one_less d zero le = absurd (omega (arith, le))
one_less d (suc k) le = (k, refl, omega (arith, le))

module _ (table : Table) (sizes : Sizes) (t : ℕ) (sized_so : IsSized table sizes) (within : t < length table)
    (ready : IsTrue (is_ready (is_done sizes.done.items) (info table t))) where
  -- The size that is put in.
  made : TypeSize
  made = shape_size sizes.values.items (info table t).shape

  made_right : (n : ℕ) → sizes.depth + 1 ≤ n → made ≡ sized n table t
  unfolding made
  made_right n le =
      let less = one_less sizes.depth n le in
      let k : ℕ = less.0 in
      sized_ready sizes.values.items k table t (is_done sizes.done.items) (λ u done. sized_so.right u k less.2 done)
      (and_first (shape_ready (is_done sizes.done.items) (info table t).shape) (parent_ready (is_done sizes.done.items) (info table t).parent)
      ready)
      ∙ ap (λ n. sized n table t) (sym less.1)

  next_right : (u n : ℕ) → sizes.depth + 1 ≤ n → (u ≡ t) ⊎ (u ≡ t → ⊥) → IsTrue (get_or (set sizes.done.items t true) u true)
      → get_or (set sizes.values.items t made) u no_size ≡ sized n table u
  next_right u n le (inl e) done =
      rw e (get_or-set_same sizes.values.items t made no_size (omega (arith, within, sized_so.values_length)) ∙ made_right n le)
  next_right u n le (inr ne) done =
      get_or-set_other sizes.values.items t u made no_size ne
      ∙ sized_so.right u n (omega (arith, le)) (sym (get_or-set_other sizes.done.items t u true true ne) ∙ done)

found_info : (table : Table) (t : ℕ) (i : Info) → t < length table → i ≡ get_or table t i → info table t ≡ i
found_info table t i within at = ap info_found (slice_get-get_or table t i within) ∙ sym at

-- It is within the limits.
pub small_step : (table : Table) (sizes : Sizes) (t : ℕ) (i : Info) → AreWithin table → IsSized table sizes → t < length table
    → sizes.depth < length table → i ≡ get_or table t i → IsTrue (is_ready (is_done sizes.done.items) i)
    → IsSmall sizes.values.items i.shape
unfolding made
small_step table sizes t i within sized_so lt room at ready =
    let found : info table t ≡ i = found_info table t i lt at in
    let ready : IsTrue (is_ready (is_done sizes.done.items) (info table t)) = rw found ready in
    is_small sizes.values.items i.shape (length table) table t within (omega arith)
    (ap (λ i. shape_size sizes.values.items i.shape) (sym found) ∙ made_right table sizes t sized_so lt ready (length table) (omega (arith, room)))

pub next_sized : (table : Table) (sizes after : Sizes) (t : ℕ) (i : Info) → IsSized table sizes → t < length table
    → sizes.depth < length table → i ≡ get_or table t i → IsTrue (is_ready (is_done sizes.done.items) i)
    → after.values.items ≡ set sizes.values.items t (shape_size sizes.values.items i.shape)
    → after.done.items ≡ set sizes.done.items t true → after.depth ≡ sizes.depth + 1 → IsSized table after
unfolding made
next_sized table sizes after t i sized_so lt room at ready values done depth =
    let found : info table t ≡ i = found_info table t i lt at in
    let ready : IsTrue (is_ready (is_done sizes.done.items) (info table t)) = rw found ready in
    let values : after.values.items ≡ set sizes.values.items t (shape_size sizes.values.items (info table t).shape) = rw found values in
    record {
      values_length = rw values (length-set sizes.values.items t (made table sizes t sized_so lt ready) ∙ sized_so.values_length);
      done_length = rw done (length-set sizes.done.items t true ∙ sized_so.done_length);
      within = omega (arith, depth, room);
      right = λ u n le is_done.
          ap (λ ms. get_or ms u no_size) values
          ∙ next_right table sizes t sized_so lt ready u n (omega (arith, le, depth)) (cases_eq u t)
          (ap (λ ds. get_or ds u true) (sym done) ∙ is_done);
    }

-- ---- all types are done

pub whole_sized : (table : Table) (sizes : Sizes) → IsSized table sizes → ((t : ℕ) → IsTrue (is_done sizes.done.items t))
    → AreSizes table sizes.values.items
whole_sized table sizes sized_so done t =
    sized_so.right t (length table) sized_so.within (done t) ∙ sized_whole table t

-- ---- in rounds

round_at : (f : Info → TypeSize) (table : Table) (t : ℕ) → t < length table → get_or (map f table) t no_size ≡ f (info table t)
round_at f [] t lt = absurd (omega (arith, lt))
round_at f (i ∷ rest) zero lt = refl
round_at f (i ∷ rest) (suc t) lt = round_at f rest t (omega (arith, lt))

length_map : {A B : Type 0} (f : A → B) (xs : List A) → length (map f xs) ≡ length xs
length_map f [] = refl
length_map f (x ∷ rest) = ap suc (length_map f rest)

pub round_small : (table : Table) (sizes : List TypeSize) (n : ℕ) → AreWithin table → n < length table
    → ((t : ℕ) → get_or sizes t no_size ≡ sized n table t) → (t : ℕ) → t < length table → IsSmall sizes (info table t).shape
round_small table sizes n within lt same t in_table =
    is_small sizes (info table t).shape (suc n) table t within (omega (arith, lt)) (sized_step sizes n table t same)

round_right : (table : Table) (sizes : List TypeSize) (n t : ℕ) → ((t : ℕ) → get_or sizes t no_size ≡ sized n table t)
    → (t < length table) ⊎ (length table ≤ t) → get_or (map (λ i. shape_size sizes i.shape) table) t no_size ≡ sized (suc n) table t
round_right table sizes n t same (inl lt) = round_at (λ i. shape_size sizes i.shape) table t lt ∙ sized_step sizes n table t same
round_right table sizes n t same (inr past) =
    let e : length (map (λ i. shape_size sizes i.shape) table) ≡ length table = length_map (λ i. shape_size sizes i.shape) table in
    get_or_past (map (λ i. shape_size sizes i.shape) table) t no_size (omega (arith, e, past)) ∙ sym (sized_past (suc n) table t past)

pub round_step : (table : Table) (sizes after : List TypeSize) (n k : ℕ) → ((t : ℕ) → get_or sizes t no_size ≡ sized n table t)
    → after ≡ map (λ i. shape_size sizes i.shape) table → k ≡ n + 1 → (t : ℕ) → get_or after t no_size ≡ sized k table t
round_step table sizes after n k same is next t =
    let next : k ≡ suc n = omega (arith, next) in
    ap (λ ms. get_or ms t no_size) is ∙ round_right table sizes n t same (cases_lt t (length table))
    ∙ ap (λ n. sized n table t) (sym next)
