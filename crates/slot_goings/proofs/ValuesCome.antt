-- A step at a point that may have leak checks may come to what its change comes to, whatever the state is beside the
-- memory.
use Rattle.std.proofs.Common.{◌≡◌, ℕ, ◌+◌, List, [], ◌∷◌, refl, sym, ap, ◌∙◌, ℤ, pos}
use Rattle.machine.specs.States.{Leak}
use Rattle.run_codes.specs.Flat.{Got, Given, Stops, Broken, and_then, default_words}
use Rattle.code_rows.specs.declared.rows.Rows.{Rows}
use Rattle.code_rows.specs.declared.point.Does.{Does}
use Rattle.code_rows.specs.declared.point.Does.TheVariants as does
use Rattle.code_rows.specs.Rows.{code_at, place_of}
use Rattle.code_rows.specs.Points.{next_of, does_of}
use Rattle.handled_runs.specs.Slots.{Slots}
use Rattle.handled_runs.specs.Leaks.{leak, leaks_at}
use Rattle.handled_runs.specs.Values as values
use Rattle.handled_runs.specs.Assigned.{Left, assigned}
use Rattle.handled_runs.specs.Released.{released}
use Rattle.handled_steps.specs.States.{Outcome, Turn, start, on_got, on_made, halted, leaking_goes}
use Rattle.handled_steps.specs.States as states
use Rattle.handled_steps.specs.Steps.{Done, in_stack, put_words, left_goes}
use Rattle.slot_points.specs.Steps.{word_in, pointer_ended}
use Rattle.slot_goings.specs.declared.groups.Group.TheVariants as group
use Rattle.slot_goings.specs.Groups.{group_of}
use Rattle.slot_goings.specs.Changes.{Change, Leads, Halts, Fails, left, on_value, pointer_left, ValuesChange}

-- What a change leads to.
abbrev pub leading : Turn → Change → Outcome
leading t (Leads m n leaks) = leaking_goes t leaks m (next_of n)
leading t (Halts x m) = halted t x m
leading t Fails = states.Fails

module _ (t : Turn) where
  abbrev s : Slots
  s = start t

  left_on : (n : ℕ) (u : Slots) (g : Got (Left Slots)) → leading t (left n u g) ≡ on_got t u g (left_goes t (next_of n))
  left_on n u (Given l) = refl
  left_on n u (Stops x) = refl
  left_on n u Broken = refl

  -- ---- assignments

  value_on : (n : ℕ) (g : values.Outcome) (f : List ℤ → Slots → Got (Left Slots))
      → leading t (on_value g (λ zs u. left n u (f zs u))) ≡ on_made t g (λ zs u. on_got t u (f zs u) (left_goes t (next_of n)))
  value_on n (values.Gives zs u) f = left_on n u (f zs u)
  value_on n (values.Ends x u) f = refl
  value_on n values.Fails f = refl

  -- ---- the ends of scopes

  ended_on : (n : ℕ) (w : ℤ) (g : Got Slots)
      → on_got t s g (λ m. leaking_goes t (leak s.numbers t.point.pos w) m (next_of n))
      ≡ leading t (pointer_left t.point.pos n s (and_then g (λ m. Given (record { memory = m; answer = w }))))
  ended_on n w (Given m) = refl
  ended_on n w (Stops x) = refl
  ended_on n w Broken = refl

  pointer_on : (at n : ℕ) (g : Got ℤ)
      → on_got t s g (λ w. on_got t s (put_words s at (pos 0 ∷ [])) (λ m. leaking_goes t (leak s.numbers t.point.pos w) m (next_of n)))
      ≡ leading t (pointer_left t.point.pos n s (and_then g (pointer_ended at s)))
  pointer_on at n (Given w) = ended_on n w (put_words s at (pos 0 ∷ []))
  pointer_on at n (Stops x) = refl
  pointer_on at n Broken = refl

  kept_on : (n : ℕ) (leaks : List Leak) (g : Got Slots)
      → on_got t s g (λ m. leaking_goes t leaks m (next_of n)) ≡ leading t (left n s (and_then g (λ m. Given (record { leaks = leaks; memory = m }))))
  kept_on n leaks (Given m) = refl
  kept_on n leaks (Stops x) = refl
  kept_on n leaks Broken = refl

  scope_on : (n : ℕ) (g : Got (List Leak)) (h : Got Slots)
      → on_got t s g (λ leaks. on_got t s h (λ m. leaking_goes t leaks m (next_of n)))
      ≡ leading t (left n s (and_then g (λ leaks. and_then h (λ m. Given (record { leaks = leaks; memory = m })))))
  scope_on n (Given leaks) h = kept_on n leaks h
  scope_on n (Stops x) h = refl
  scope_on n Broken h = refl

  -- ---- all of them

  words_apart : {A : Type 0} → group.Words ≡ group.Values → A
  words_apart is = cc

  others_apart : {A : Type 0} → group.Others ≡ group.Values → A
  others_apart is = cc

  pub values_come : (rows : Rows) (d : Does) (c : Change) → group_of d ≡ group.Values → ValuesChange t.table rows t.point.pos d (start t) c → Done t (does_of rows d) (leading t c)
  values_come rows (does.Assign p v of checks n) c is (g, fills, so) =
      (g, fills, ap (leading t) so ∙ value_on n g (λ zs u. assigned t.table (place_of (code_at rows.nodes) p) of checks zs u))
  values_come rows (does.Release p of at n) c is so =
      ap (leading t) so ∙ left_on n s (released t.table (place_of (code_at rows.nodes) p) of at s)
  values_come rows (does.EndPointer at n) c is so = ap (leading t) so ∙ sym (pointer_on at n (word_in s (s.base + at)))
  values_come rows (does.EndScope at of n) c is so =
      ap (leading t) so ∙ sym (scope_on n (leaks_at t.table s (in_stack s at) of t.point.pos) (put_words s at (default_words t.table of)))
  values_come rows (does.Go n) c is so = words_apart is
  values_come rows (does.Put at v low high n) c is so = words_apart is
  values_come rows (does.PutPointer at v n) c is so = words_apart is
  values_come rows (does.Store p v low high k n) c is so = words_apart is
  values_come rows (does.Test k holds fails) c is so = words_apart is
  values_come rows (does.Choose k r) c is so = words_apart is
  values_come rows (does.Start at counter low high first last n) c is so = words_apart is
  values_come rows (does.Next at counter reversed without turn leave) c is so = words_apart is
  values_come rows (does.Call sub r n) c is so = others_apart is
  values_come rows (does.Output r line n) c is so = others_apart is
  values_come rows (does.Input p low high n) c is so = others_apart is
  values_come rows (does.EvaluateLeft k or_else n decided) c is so = others_apart is
  values_come rows (does.EvaluateRight k n) c is so = others_apart is
  values_come rows (does.Hold v of n) c is so = others_apart is
  values_come rows does.Finish c is so = others_apart is
  values_come rows does.Fall c is so = others_apart is
