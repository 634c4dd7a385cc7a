-- The step of a call: what is asked for, and what it comes to.
use Rattle.std.proofs.Common.{◌≡◌, ◌≢◌, ◌++◌, ℕ, List, [], sym, ap, subst, ◌∙◌, Some, Result, Ok, Err}
use Rattle.std.specs.Prelude.{IsTrue, OnOk, IfErr}
use Rattle.type_definitions.specs.Types.{Table}
use Rattle.machine.specs.States.{Leak}
use Rattle.slot_heap.specs.Heaps.{Heap}
use Rattle.code_rows.specs.declared.range.Range.{Range}
use Rattle.code_rows.specs.declared.point.Point.{Point as PointRow}
use Rattle.code_rows.specs.declared.point.Does.TheVariants as row
use Rattle.code_rows.specs.declared.codes.Codes.{Codes}
use Rattle.code_rows.specs.declared.stop.Stop.{Stop}
use Rattle.code_rows.specs.declared.stop.Stop.TheVariants as stop
use Rattle.code_rows.specs.Points.{point_of, program_of, next_of, does_of, actuals_of, is_range, is_does_there}
use Rattle.run_codes.specs.Codes.{Point, Sub, Actual, Call}
use Rattle.run_codes.specs.Points.{sub_at}
use Rattle.run_results.specs.Results.{leaks_of}
use Rattle.slot_entries.specs.Entries.{stacked_words}
use Rattle.slot_runs.specs.Turns.{Setting}
use Rattle.slot_called.specs.Calls.{Callable, Calling}
use Rattle.slot_called.proofs.Steps.{can_call, call_on, call_left, call_off}
use Rattle.slot_turns.specs.declared.halt.Halt.{Halt}
use Rattle.slot_tells.specs.slot_parts.declared.parts.Parts.{Parts}
use Rattle.slot_tells.specs.slot_parts.Stages.{between_of, setting_of, IsAt}
use Rattle.slot_tells.specs.slot_parts.Steps.{StepsOf, as_going}
use Rattle.slot_tells.proofs.slot_parts.Sights.{does_at}
use Rattle.slot_tells.proofs.slot_parts.Leads.{leads_by}

module _ {R : Type 0} (Means : R → Heap → Type 0) (codes : Codes) (table : Table) (point : PointRow) (k : ℕ) (old : Parts R) (at : IsAt Means codes table point k old)
    (sub : ℕ) (actuals : Range) (next : ℕ) (does : point.does ≡ row.Call sub actuals next) where
  abbrev c : Setting
  c = setting_of codes table old.memory.input

  abbrev p : Point
  p = point_of codes point

  abbrev called : Sub
  called = sub_at (program_of codes) sub

  abbrev all : List Actual
  all = actuals_of codes.rows actuals

  calls : p.does ≡ Call sub all (next_of next)
  calls = ap (does_of codes.rows) does

  -- ---- what is asked for

  pub call_there : IsTrue (is_range codes.rows.actuals.items actuals)
  call_there = subst (λ d. IsTrue (is_does_there codes.rows d)) does (does_at Means codes table point k old at)

  pub call_can : Callable Means old.memory table called old.words all
  call_can = can_call Means c p k (between_of old) sub all (next_of next) calls at.between at.latest at.taken old.words at.words at.can

  -- ---- what it comes to

  abbrev CallsTo : {U : Type 0} → Result U Stop → List Leak → List Leak → Parts R → Type 0
  CallsTo r found new q = Calling Means old.memory table called old.words all r old.frames k next found new q.memory q.frames

  -- The leaks that the call found are told, and the run goes on.
  pub call_goes : {U V : Type 0} (u : U) (r : Result V Halt) (mid told : Parts R) (found : List Leak) → found ≡ [] → CallsTo (Ok u) found (leaks_of mid.found.items) mid
      → next_of next ≡ Some next → mid.words ≡ stacked_words mid.frames → mid.memory.heap.lent ≡ old.memory.heap.lent → mid.output.items ≡ old.output.items → mid.leaks.items ≡ old.leaks.items
      → OnOk r (leaks_of told.leaks.items ≡ leaks_of mid.leaks.items ++ leaks_of mid.found.items) → told ≡ record mid { leaks = told.leaks } → IfErr r (λ h. h.stop ≡ stop.Memory)
      → StepsOf Means codes table point (as_going r) old told
  call_goes {U} u r mid told found none is goes words lent output leaks tells rest memory =
      leads_by Means codes table point k old at r told (leaks_of told.leaks.items ≡ leaks_of mid.leaks.items ++ leaks_of mid.found.items) tells memory
      (λ tells.
      let P : Parts R → Type 0 = λ q. CallsTo {U = U} (Ok u) [] (leaks_of mid.found.items) q in
      let W : Parts R → Type 0 = λ q. q.words ≡ stacked_words q.frames in
      let here : P told = subst P (sym rest) (subst (λ f. CallsTo {U = U} (Ok u) f (leaks_of mid.found.items) mid) none is) in
      let same : told.output.items ≡ old.output.items = ap (λ (q : Parts R). q.output.items) rest ∙ output in
      let more : leaks_of told.leaks.items ≡ leaks_of old.leaks.items ++ leaks_of mid.found.items = tells ∙ ap (λ l. leaks_of l ++ leaks_of mid.found.items) leaks in
      let left = call_left Means c p k (between_of old) sub all (next_of next) calls at.between at.latest at.taken old.words at.words at.can u next goes (leaks_of mid.found.items)
      (between_of told) here in
      record {
        steps = call_on Means c p k (between_of old) sub all (next_of next) calls at.between at.latest at.taken old.words at.words u next goes (leaks_of mid.found.items)
            (between_of told) here (ap (λ (q : Parts R). q.memory.heap.lent) rest ∙ lent) same more;
        left = record { between = left.0; words = subst W (sym rest) words; input = left.1 };
      })

  -- It stops.
  pub call_halts : {U : Type 0} (h : Halt) (new : Parts R) (found all_found : List Leak) → found ≡ [] → CallsTo {U = U} (Err h.stop) found all_found new → h.made ≡ new.memory.heap.made
      → (h.stop ≢ stop.Memory → new.memory.heap.lent ≡ old.memory.heap.lent) → new.output.items ≡ old.output.items → new.leaks.items ≡ old.leaks.items → StepsOf Means codes table point (Err h) old new
  call_halts {U} h new found all_found none is made lent output leaks = record {
    steps = call_off Means c p k (between_of old) sub all (next_of next) calls at.between at.latest at.taken old.words at.words h next all_found (between_of new)
        (subst (λ f. CallsTo {U = U} (Err h.stop) f all_found new) none is) made lent output (ap leaks_of leaks);
    left = tt;
  }
