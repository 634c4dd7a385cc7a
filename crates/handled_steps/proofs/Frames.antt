-- Frames that are pushed and given back, over both heaps.
use Rattle.std.proofs.Common.{◌≡◌, refl, sym, ap, ◌∙◌, ℕ, zero, suc, List, [], ◌∷◌, ◌++◌, take, length, ℤ}
use Rattle.handled_runs.specs.type_definitions.Types.{Table}
use Rattle.handled_runs.specs.run_values.declared.value.Kind.{Kind}
use Rattle.handled_runs.specs.run_codes.Codes.{Sub}
use Rattle.handled_runs.specs.run_codes.Flat.{Flat}
use Rattle.handled_runs.specs.run_codes.Points.{template}
use Rattle.handled_runs.specs.run_codes.Points as points
use Rattle.handled_runs.specs.Slots.{Slots}
use Rattle.handled_runs.specs.Changes.{with_stack}
use Rattle.handled_runs.specs.Beside.{all_renamed, Beside}
use Rattle.handled_runs.proofs.Outcomes.{renamed_append, names_append, long_append}
use Rattle.handled_runs.proofs.Filled.{numbers_renamed, numbers_long, numbers_named, take_renamed, take_named}
use Rattle.handled_steps.specs.States.{with_frame}
use Rattle.handled_steps.specs.Alike.{frame_kinds}
use Rattle.handled_steps.proofs.Tables.{template_numbers}

take_same : {A B : Type 0} (n : ℕ) (xs : List A) (ys : List B) → length xs ≡ length ys → length (take n xs) ≡ length (take n ys)
take_same zero xs ys e = refl
take_same (suc n) [] [] e = refl
take_same (suc n) [] (y ∷ ys) e = cc
take_same (suc n) (x ∷ xs) [] e = cc
take_same (suc n) (x ∷ xs) (y ∷ ys) e = ap suc (take_same n xs ys (let same : length xs ≡ length ys = cc in same))

module _ (handles : List ℕ) (here taken : List Kind) (m : Flat) (s : Slots) (beside : Beside handles here taken m s) where
  pub frame_pushed : (table : Table) (sub : Sub) → Beside handles (here ++ frame_kinds table sub) taken (points.with_frame table sub m) (with_frame table sub s)
  frame_pushed table sub =
      let ks : List Kind = frame_kinds table sub in
      let new : List ℤ = template table sub in
      let are = template_numbers table sub in record {
        stack = ap (λ zs. zs ++ new) beside.stack
            ∙ (ap (λ zs. all_renamed handles here m.stack ++ zs) (numbers_renamed handles ks new are) ∙ sym (renamed_append handles here ks m.stack new beside.known));
        known = long_append here ks m.stack new beside.known (numbers_long ks new are);
        waits = beside.waits;
        base = beside.base;
        live = beside.live;
        made = beside.made;
        freed = beside.freed;
        rest = beside.rest;
        cells = beside.cells;
        numbered = beside.numbered;
        small = beside.small;
        names = names_append (length handles) here ks m.stack new beside.known beside.names (numbers_named (length handles) ks new are);
        waiting_names = beside.waiting_names;
      }

  pub frame_left : (n : ℕ) → Beside handles (take n here) taken (record m { stack = take n m.stack }) (with_stack s (take n s.stack))
  frame_left n = record {
    stack = ap (take n) beside.stack ∙ take_renamed handles n here m.stack;
    known = take_same n here m.stack beside.known;
    waits = beside.waits;
    base = beside.base;
    live = beside.live;
    made = beside.made;
    freed = beside.freed;
    rest = beside.rest;
    cells = beside.cells;
    numbered = beside.numbered;
    small = beside.small;
    names = take_named (length handles) n here m.stack beside.names;
    waiting_names = beside.waiting_names;
  }
