-- What indexes of the names of components find.
use Rattle.std.proofs.Common.{◌≡◌, ◌≢◌, ◌⊎◌, inl, inr, ℕ, suc, ◌+◌, Bool, true, false, not, cond, if◌then◌else◌, List, [], ◌∷◌, length, slice_get, Option, Some, None, IfSome, is_some, refl, sym, ap, subst, ◌∙◌, arith}
use Rattle.std.proofs.lemmas.List.{length-map}
use Rattle.type_definitions.specs.declared.table.Component.{Component}
use Rattle.type_definitions.specs.declared.judgement.Next.{Next}
use Rattle.type_definitions.specs.declared.judgement.Next.TheVariants.{Goes, Stops}
use Rattle.type_definitions.specs.Types.{Table, fields, meant_type}
use Rattle.type_definitions.specs.Entries.{same_word}
use Rattle.type_definitions.specs.Names.{component}
use Rattle.expression_types.specs.declared.word_index.Occurrence.{Occurrence}
use Rattle.expression_types.specs.Occurrences.{Entries, Indexes, component_names, number_for, number_found, occurrence, occurs}
use Rattle.expression_types.specs.IndexLists.{OnlyHas}
use Rattle.expression_types.specs.ComponentNames.{component_number, own_components, FindAllComponents, SameBut}

-- ---- in an index

found_from : (n : ℕ) (cs : List Component) (w : List ℕ)
    → number_found (n + length cs) (occurrence n (component_names cs) w) ≡ n + component_number w cs
found_from n [] w = refl
found_from n (c ∷ rest) w = by (same_word w c.name) (found_from (n + 1) rest w)
  where
    o : Option Occurrence
    o = occurrence (n + 1) (component_names rest) w

    by : (b : Bool) → number_found (n + 1 + length rest) o ≡ n + 1 + component_number w rest
        → number_found (n + suc (length rest)) (if b then Some (record { first = n; again = is_some o }) else o)
        ≡ n + cond (not b) (1 + component_number w rest) 0
    by true is = omega arith
    by false is =
        let more : n + suc (length rest) ≡ n + 1 + length rest = omega arith in
        let next : n + 1 + component_number w rest ≡ n + (1 + component_number w rest) = omega arith in
        ap (λ k. number_found k o) more ∙ is ∙ next

number_of : (w : List ℕ) (cs : List Component) → number_found (length cs) (occurrence 0 (component_names cs) w) ≡ component_number w cs
number_of w cs =
    ap (λ k. number_found k (occurrence 0 (component_names cs) w)) (none_before (length cs)) ∙ found_from 0 cs w
    ∙ sym (none_before (component_number w cs))
  where
    none_before : (k : ℕ) → k ≡ 0 + k
    none_before k = omega arith

pub first_found : (table : Table) (indexes : List (Option Entries)) (t n : ℕ) (index : Entries) (w : List ℕ) (o : Option Occurrence)
    → FindAllComponents indexes table → n ≡ meant_type table t → slice_get indexes n ≡ Some (Some index) → o ≡ occurs index w
    → number_found (length (fields table t)) o ≡ component_number w (fields table t)
first_found table indexes t n index w o all is there found =
    ap (number_found (length (fields table t))) (found ∙ all (meant_type table t) index (ap (slice_get indexes) (sym is) ∙ there) w)
    ∙ number_of w (fields table t)

-- What an argument by name is for.
component_argument : (w : List ℕ) (cs : List Component) (i : ℕ) → component_number w cs ≡ number_for (component_names cs) i (Some w)
component_argument w cs i =
    sym (ap (λ n. number_found n (occurrence 0 (component_names cs) w)) (length-map cs (λ k. Some k.name)) ∙ number_of w cs)

pub argument_found : (w : List ℕ) (cs : List Component) (found : Option ℕ) → IfSome found (λ n. n ≡ component_number w cs)
    → IfSome found (λ n. (i : ℕ) → n ≡ number_for (component_names cs) i (Some w))
argument_found w cs None is = is
argument_found w cs (Some n) is = λ i. is ∙ component_argument w cs i

-- ---- in a record

abbrev goes_to : Option Component → Next
goes_to None = Stops
goes_to (Some c) = Goes c.of

component_at : (w : List ℕ) (cs : List Component) → component w cs ≡ goes_to (slice_get cs (component_number w cs))
component_at w [] = refl
component_at w (c ∷ rest) = by (same_word w c.name) (component_at w rest)
  where
    by : (b : Bool) → component w rest ≡ goes_to (slice_get rest (component_number w rest))
        → (if b then Goes c.of else component w rest) ≡ goes_to (slice_get (c ∷ rest) (cond (not b) (1 + component_number w rest) 0))
    by true is = refl
    by false is =
        let next : 1 + component_number w rest ≡ suc (component_number w rest) = omega arith in
        is ∙ ap (λ n. goes_to (slice_get (c ∷ rest) n)) (sym next)

pub component_there : (w : List ℕ) (cs : List Component) (n : ℕ) (c : Component) → n ≡ component_number w cs → slice_get cs n ≡ Some c
    → Goes c.of ≡ component w cs
component_there w cs n c is there =
    ap goes_to (sym there) ∙ ap (λ k. goes_to (slice_get cs k)) is ∙ sym (component_at w cs)

pub component_missing : (w : List ℕ) (cs : List Component) (n : ℕ) → n ≡ component_number w cs → slice_get cs n ≡ None
    → Stops ≡ component w cs
component_missing w cs n is none =
    ap goes_to (sym none) ∙ ap (λ k. goes_to (slice_get cs k)) is ∙ sym (component_at w cs)

-- ---- one more index

pub index_replaced : (before after : Table) (all next : List (Option Entries)) (t : ℕ) (own : Option Entries)
    → OnlyHas t own all next → SameBut t before after → IfSome own (λ index. Indexes index (component_names (own_components after t)))
    → FindAllComponents all before → FindAllComponents next after
index_replaced before after all next t own only same right each n index there = by (only n index there)
  where
    Right : ℕ → Entries → Type 0
    Right n index = Indexes index (component_names (own_components after n))

    by : ((n ≡ t) × (own ≡ Some index)) ⊎ ((n ≢ t) × (slice_get all n ≡ Some (Some index))) → Right n index
    by (inl (e, is)) = subst (λ k. Right k index) (sym e) (subst (λ o. IfSome o (Right t)) is right)
    by (inr (ne, at)) = subst (λ cs. Indexes index (component_names cs)) (same n ne) (each n index at)
