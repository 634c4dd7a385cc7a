-- What is stored in the stack, and moved out of it, is so over both heaps.
use Rattle.std.proofs.Common.{◌≡◌, refl, sym, ap, ◌∙◌, subst, ℕ, ◌+◌, ◌≤◌, arith, Bool, true, false, nat_le, List, [], ◌∷◌, zero, suc, drop, length, ℤ, if◌then◌else◌}
use Rattle.std.proofs.lemmas.Bool.Decides.{nat_tests}
use Rattle.numbered_cells.specs.run_values.declared.value.Kind.{Kind}
use Rattle.numbered_cells.specs.run_codes.Flat.{Flat, Got, Given, Stops, Broken, and_then, spliced, all_gone, are_pointers, InStack}
use Rattle.numbered_cells.specs.run_codes.Flat as flat
use Rattle.handled_runs.specs.Slots.{Slots}
use Rattle.handled_runs.specs.Slots as slots
use Rattle.handled_runs.specs.Changes.{stored, emptied, all_null}
use Rattle.handled_runs.specs.Changes as changes
use Rattle.handled_runs.specs.Beside.{all_renamed, NameWords, Beside}
use Rattle.handled_runs.specs.Looks.{IsFront}
use Rattle.handled_runs.proofs.Named.{long_renamed}
use Rattle.handled_runs.proofs.Places.{as_long}
use Rattle.handled_runs.proofs.Standing.{drop_renamed, front_same, front_long}
use Rattle.handled_runs.proofs.Lists.{replaced, spliced_is, replaced_long, replaced_renamed, replaced_names, all_nulled, gone_named, gone_long, front_names, front_within}

within : (a b : ℕ) → nat_le a b ≡ true → a ≤ b
within a b e = grind (arith, nat_tests)

module _ (handles : List ℕ) (kinds taken : List Kind) (m : Flat) (s : Slots) (beside : Beside handles kinds taken m s) where
  abbrev IsBeside : Flat → Slots → Type 0
  IsBeside = Beside handles kinds taken

  -- Words of these kinds stand in place of others.
  pub spliced_beside : (n : ℕ) (ks : List Kind) (zs : List ℤ) → IsFront ks (drop n kinds) → length ks ≡ length zs → n + length zs ≤ length m.stack → NameWords (length handles) ks zs
      → IsBeside (flat.with_stack m (spliced n zs m.stack)) (changes.with_stack s (spliced n (all_renamed handles ks zs) s.stack))
  spliced_beside n ks zs is long less names =
      let us : List ℤ = all_renamed handles ks zs in
      let same : length us ≡ length zs = long_renamed handles ks zs long in
      let all : length s.stack ≡ length m.stack = as_long handles kinds taken m s beside in
      let there : spliced n zs m.stack ≡ replaced n zs m.stack = spliced_is n zs m.stack less in
      let here : spliced n us s.stack ≡ replaced n us s.stack = spliced_is n us s.stack (omega (arith, same, all, less)) in
      record {
        stack = here ∙ (ap (replaced n us) beside.stack ∙ (replaced_renamed handles n ks kinds zs m.stack is long ∙ ap (all_renamed handles kinds) (sym there)));
        known = beside.known ∙ (sym (replaced_long n zs m.stack) ∙ ap length (sym there));
        waits = beside.waits;
        base = beside.base;
        live = beside.live;
        made = beside.made;
        freed = beside.freed;
        rest = beside.rest;
        cells = beside.cells;
        numbered = beside.numbered;
        small = beside.small;
        names = subst (NameWords (length handles) kinds) (sym there) (replaced_names (length handles) n ks kinds zs m.stack is long names beside.names);
        waiting_names = beside.waiting_names;
      }

  -- The law on stores.
  pub stack_stored : (n : ℕ) (js ks : List Kind) (zs : List ℤ) (m_after : Flat) → IsFront ks (drop n kinds) → length ks ≡ length zs → NameWords (length handles) ks zs
      → flat.stored m (InStack n) js zs ≡ Given m_after → (s_after : Slots) × (stored s (InStack n) js (all_renamed handles ks zs) ≡ Given s_after) × IsBeside m_after s_after
  stack_stored n js ks zs m_after is long names e = by (nat_le (n + length zs) (length m.stack)) refl e
    where
      us : List ℤ
      us = all_renamed handles ks zs

      tests : nat_le (n + length us) (length s.stack) ≡ nat_le (n + length zs) (length m.stack)
      tests =
          ap (λ l. nat_le (n + l) (length s.stack)) (long_renamed handles ks zs long) ∙ ap (nat_le (n + length zs)) (as_long handles kinds taken m s beside)

      by : (b : Bool) → nat_le (n + length zs) (length m.stack) ≡ b → (if b then Given (flat.with_stack m (spliced n zs m.stack)) else Broken) ≡ Given m_after
          → (s_after : Slots) × (stored s (InStack n) js us ≡ Given s_after) × IsBeside m_after s_after
      by true less e =
          let same : flat.with_stack m (spliced n zs m.stack) ≡ m_after = cc in (
            changes.with_stack s (spliced n us s.stack),
            ap (λ b. if b then Given (changes.with_stack s (spliced n us s.stack)) else Broken) (tests ∙ less),
            subst (λ x. IsBeside x (changes.with_stack s (spliced n us s.stack))) same (spliced_beside n ks zs is long (within (n + length zs) (length m.stack) less) names),
          )
      by false less e = cc

  -- The law on moves.
  pub stack_emptied : (n : ℕ) (ks : List Kind) (gone : List ℕ) (m_after : Flat) → IsFront ks (drop n kinds) → n ≤ length m.stack
      → flat.moved_out m (InStack n) ks gone ≡ Given m_after → (s_after : Slots) × (emptied s (InStack n) ks gone ≡ Given s_after) × IsBeside m_after s_after
  stack_emptied n ks gone m_after is less e = by (are_pointers ks gone) (flat.front ks (drop n m.stack)) refl refl e
    where
      drop_names : (n : ℕ) (js : List Kind) (zs : List ℤ) → NameWords (length handles) js zs → NameWords (length handles) (drop n js) (drop n zs)
      drop_names zero js zs names = names
      drop_names (suc n) [] zs names = tt
      drop_names (suc n) (j ∷ js) [] names = nothing (drop n js)
        where
          nothing : (js : List Kind) → NameWords (length handles) js []
          nothing [] = tt
          nothing (j ∷ js) = tt
      drop_names (suc n) (j ∷ js) (z ∷ zs) names = drop_names n js zs names.1

      by : (b : Bool) (g : Got (List ℤ)) → are_pointers ks gone ≡ b → flat.front ks (drop n m.stack) ≡ g
          → (if b then and_then g (λ zs. Given (flat.with_stack m (spliced n (all_gone gone zs) m.stack))) else Broken) ≡ Given m_after
          → (s_after : Slots) × (emptied s (InStack n) ks gone ≡ Given s_after) × IsBeside m_after s_after
      by true (Given zs) pointers found e =
          let same : flat.with_stack m (spliced n (all_gone gone zs) m.stack) ≡ m_after = cc in
          let us : List ℤ = all_renamed handles ks (all_gone gone zs) in
          let read : slots.front ks (drop n s.stack) ≡ Given (all_renamed handles ks zs)
          = ap (λ all. slots.front ks (drop n all)) beside.stack
          ∙ (ap (slots.front ks) (drop_renamed handles n kinds m.stack) ∙ front_same handles ks (drop n kinds) (drop n m.stack) zs is found) in
          let long : length ks ≡ length (all_gone gone zs) = front_long ks (drop n m.stack) zs found ∙ sym (gone_long gone zs) in
          let count = gone_long gone zs in
          let fits = front_within ks n m.stack zs found less in
          let names = gone_named (length handles) gone ks zs pointers (front_names (length handles) ks (drop n kinds) (drop n m.stack) zs is found (drop_names n kinds m.stack beside.names)) in (
            changes.with_stack s (spliced n us s.stack),
            ap (λ b. if b then and_then (slots.front ks (drop n s.stack)) (λ all. Given (changes.with_stack s (spliced n (all_null gone all) s.stack))) else Broken) pointers
                ∙ (ap (λ g. and_then g (λ all. Given (changes.with_stack s (spliced n (all_null gone all) s.stack)))) read
                ∙ ap (λ all. Given (changes.with_stack s (spliced n all s.stack))) (all_nulled handles gone ks zs pointers)),
            subst (λ x. IsBeside x (changes.with_stack s (spliced n us s.stack))) same
                (spliced_beside n ks (all_gone gone zs) is long (omega (arith, count, fits)) names),
          )
      by true (Stops x) pointers found e = cc
      by true Broken pointers found e = cc
      by false g pointers found e = cc
