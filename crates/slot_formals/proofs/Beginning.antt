-- A frame that begins, step by step.
use Rattle.std.proofs.Common.{◌≡◌, ℕ, false, List, ◌++◌, ap, subst, ◌∙◌}
use Rattle.type_definitions.specs.Types.{Table}
use Rattle.machine.specs.States.{Leak}
use Rattle.slot_heap.specs.Heaps.{Heap}
use Rattle.run_codes.specs.Codes.{Sub}
use Rattle.run_codes.specs.Flat.{Given, and_then, is_broken}
use Rattle.run_codes.specs.Points.{Passed}
use Rattle.handled_runs.specs.Slots.{Slots}
use Rattle.handled_runs.specs.Changes.{settled}
use Rattle.handled_steps.specs.Steps.{out_leaks}
use Rattle.slot_memory.specs.Memory.{Kept, Ghosts, Stands, Shows, Knows, Changes, slots, ghosts_of}
use Rattle.slot_formals.specs.Formals.{all_moved, Begun, placed_in, framed, checked_then, gone_then, Tells, Begins}
use Rattle.slot_formals.specs.Leads.{Gives, Leads}
use Rattle.slot_formals.proofs.Leading.{taken, same_given, knows_first, gives_first, gives_on, leads_first, leads_on}

module _ {R : Type 0} (Means : R → Heap → Type 0) (table : Table) (sub : Sub) (passed : List Passed) (m n : Kept R)
    (filled : Changes Means m (placed_in table sub passed) n) where
  first_leads : Leads Means m (framed table sub passed) n (λ s. and_then (settled s) (checked_then table sub.formals passed))
  first_leads = leads_first Means m n (placed_in table sub passed) (λ s. and_then (settled s) (checked_then table sub.formals passed)) filled

  -- what was moved so far may go
  pub first_settles : Gives Means m (framed table sub passed) → Knows Means n (λ s. is_broken (settled s) ≡ false)
  first_settles gives =
      knows_first Means n settled (λ s. checked_then table sub.formals passed)
      (gives_on Means m n (framed table sub passed) (λ s. and_then (settled s) (checked_then table sub.formals passed)) gives first_leads)

  module _ (k : Kept R) (settles : Changes Means n settled k) where
    then_leads : Leads Means m (framed table sub passed) k (checked_then table sub.formals passed)
    then_leads = leads_on Means m n k (framed table sub passed) settled (checked_then table sub.formals passed) first_leads settles

    pub checks : Gives Means m (framed table sub passed) → Gives Means k (λ s. out_leaks table s passed)
    checks gives =
        gives_first Means k (λ s. out_leaks table s passed) (λ s leaks. gone_then leaks (all_moved table sub.formals passed s))
        (gives_on Means m k (framed table sub passed) (checked_then table sub.formals passed) gives then_leads)

    module _ (fs : List ℕ) (same : fs ≡ sub.formals) (before after : List Leak) (told : Tells Means k table passed before after) (h : Kept R)
        (moved : Changes Means k (λ s. Given (all_moved table fs passed s)) h) where
      -- What there is then.
      path : (g : Ghosts) → Stands Means m g → (t : Begun) → framed table sub passed (slots m g) ≡ Given t
          → (u : Slots) × Shows Means h u × (c : Slots) × (settled u ≡ Given c) × (c ≡ t.memory) × (after ≡ before ++ t.leaks)
      path g stands t is =
          let (u, shows, left) = then_leads.on g stands t is in
          let (leaks, found, rest) = taken (out_leaks table u passed) (λ leaks. gone_then leaks (all_moved table sub.formals passed u)) t left in
          let (c, gone, last) = taken (settled (all_moved table sub.formals passed u)) (λ m. Given (record { memory = m; leaks = leaks })) t rest in
          let whole : record { memory = c; leaks = leaks } ≡ t = same_given (record { memory = c; leaks = leaks }) t last in (
            all_moved table sub.formals passed u,
            moved (ghosts_of u) shows.0 (all_moved table sub.formals passed u)
                (ap (λ s. Given (all_moved table fs passed s)) shows.1 ∙ ap (λ l. Given (all_moved table l passed u)) same),
            c,
            gone,
            ap (λ (b : Begun). b.memory) whole,
            told.told (ghosts_of u) shows.0 leaks (ap (λ s. out_leaks table s passed) shows.1 ∙ found)
                ∙ ap (λ (b : Begun). before ++ b.leaks) whole,
          )

      pub last_settles : Gives Means m (framed table sub passed) → Knows Means h (λ s. is_broken (settled s) ≡ false)
      last_settles gives =
          let (u, shows, c, gone, same_c, leaks) = path gives.ghosts gives.stands gives.after gives.is in
          (ghosts_of u, (shows.0, ap (λ s. is_broken (settled s)) shows.1 ∙ ap is_broken gone))

      pub begins : (e : Kept R) → Changes Means h settled e → Begins Means m table sub passed before after e
      begins e ends = record {
        begun = λ g stands t is. (
            let (u, shows, c, gone, same_c, leaks) = path g stands t is in
            (subst (λ w. Shows Means e w) same_c (ends (ghosts_of u) shows.0 c (ap settled shows.1 ∙ gone)), leaks));
      }
