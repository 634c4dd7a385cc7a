-- What indexes of the names of formals find.
use Rattle.std.proofs.Common.{◌≡◌, ◌≢◌, ◌⊎◌, inl, inr, ℕ, List, length, slice_get, Option, Some, IfSome, sym, ap, subst, ◌∙◌}
use Rattle.std.proofs.lemmas.List.{length-map}
use Rattle.type_definitions.specs.declared.table.Entry.{Entry}
use Rattle.expression_types.specs.declared.word_index.Occurrence.{Occurrence}
use Rattle.expression_types.specs.Occurrences.{Entries, Indexes, formal_names, number_for, number_found, occurrence, occurs}
use Rattle.expression_types.specs.IndexLists.{OnlyHas}
use Rattle.expression_types.specs.FormalNames.{own_formals, FindAllFormals}

-- What an argument by name is for.
pub formal_argument : (declared : List Entry) (indexes : List (Option Entries)) (f : ℕ) (index : Entries) (w : List ℕ) (o : Option Occurrence) (i : ℕ)
    → FindAllFormals indexes declared → slice_get indexes f ≡ Some (Some index) → o ≡ occurs index w
    → number_found (length (own_formals declared f)) o ≡ number_for (formal_names (own_formals declared f)) i (Some w)
formal_argument declared indexes f index w o i all there found =
    ap (number_found (length (own_formals declared f))) (found ∙ all f index there w)
    ∙ ap (λ n. number_found n (occurrence 0 (formal_names (own_formals declared f)) w))
    (sym (length-map (own_formals declared f) (λ k. Some k.name)))

pub formals_replaced : (declared : List Entry) (all next : List (Option Entries)) (f : ℕ) (own : Option Entries)
    → OnlyHas f own all next → IfSome own (λ index. Indexes index (formal_names (own_formals declared f)))
    → FindAllFormals all declared → FindAllFormals next declared
formals_replaced declared all next f own only right each n index there = by (only n index there)
  where
    Right : ℕ → Entries → Type 0
    Right n index = Indexes index (formal_names (own_formals declared n))

    by : ((n ≡ f) × (own ≡ Some index)) ⊎ ((n ≢ f) × (slice_get all n ≡ Some (Some index))) → Right n index
    by (inl (e, is)) = subst (λ k. Right k index) (sym e) (subst (λ o. IfSome o (Right f)) is right)
    by (inr (ne, at)) = each n index at
