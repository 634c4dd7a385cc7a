-- What was noted as moved before a point at which nothing was is gone after it.
use Rattle.std.proofs.Common.{◌≡◌, refl, sym, ◌∙◌, subst, ℕ, zero, suc, ◌+◌, Bool, true, false, ◌&&◌, List, [], ◌∷◌, drop, length, Option, Some, None, ℤ, pos, unsigned_abs, if◌then◌else◌}
use Rattle.spark_base.specs.declared.position.Pos.{Pos}
use Rattle.type_definitions.specs.Types.{Table}
use Rattle.run_values.specs.declared.value.Value.{Value}
use Rattle.run_values.specs.declared.value.Kind.{Kind}
use Rattle.run_values.specs.declared.value.Kind.TheVariants as sort
use Rattle.machine.specs.States.{Leak}
use Rattle.slot_heap.specs.Heaps.{words_at}
use Rattle.run_codes.specs.Codes.{Code, Place}
use Rattle.run_codes.specs.Flat.{Got, Given, Stops, Broken, Spot, InStack, InCell, and_then, kinds, have_kinds, checked, spliced, constraint, default_words, are_pointers}
use Rattle.run_codes.specs.Points.{next_value}
use Rattle.code_rows.specs.declared.rows.Rows.{Rows}
use Rattle.code_rows.specs.declared.point.Does.{Does}
use Rattle.code_rows.specs.declared.point.Does.TheVariants as does
use Rattle.code_rows.specs.Rows.{code_at, place_of}
use Rattle.code_rows.specs.Points.{choices_of}
use Rattle.handled_runs.specs.Fits.{are_slot_words}
use Rattle.handled_runs.specs.Slots.{Slots, word, spot, held, Move, front}
use Rattle.handled_runs.specs.Changes.{with_stack, with_heap, written_all, slot_values, cell_stored, stored, settled, without_cell, all_null, nulled, emptied, cell_emptied, all_emptied}
use Rattle.handled_runs.specs.Leaks.{leaks_at}
use Rattle.handled_runs.specs.Values as values
use Rattle.handled_runs.specs.Assigned.{Left, checked_at, assigned}
use Rattle.handled_runs.specs.Released.{cell_at, named, released_at, released}
use Rattle.handled_steps.specs.Steps.{in_stack, put_words}
use Rattle.slot_points.specs.Changing.{With}
use Rattle.slot_points.specs.Steps.{only, tested, chosen_by, put_word, store_word, placed, word_in, pointer_ended, ended_pointer, is_refused, loop_words, with_loop, begun_with, bounded, started, turned_to, turned}
use Rattle.slot_places.specs.Steps.{ended_scope}
use Rattle.slot_goings.specs.Changes.{words_changed, Change, Leads, Halts, Fails, left, on_value, pointer_left, ValuesChange}

-- ---- what is true of what is given

abbrev pub AllOf : {A : Type 0} → (A → Type 0) → Got A → Type 0
AllOf P (Given a) = P a
AllOf P (Stops x) = Unit {0}
AllOf P Broken = Unit {0}

all_next : {A B : Type 0} (P : B → Type 0) (g : Got A) (f : A → Got B) → ((a : A) → g ≡ Given a → AllOf P (f a)) → AllOf P (and_then g f)
all_next P (Given a) f each = each a refl
all_next P (Stops x) f each = tt
all_next P Broken f each = tt

pub of_given : {A : Type 0} (P : A → Type 0) (g : Got A) (a : A) → AllOf P g → g ≡ Given a → P a
of_given P g a all is = subst (AllOf P) is all

-- ---- stores

-- What is noted as moved stays, and so do the numbers of handles.
pub record Kept (s t : Slots) : Type 0 where
  pub moves : t.moves ≡ s.moves
  pub numbers : t.numbers ≡ s.numbers

same : (s : Slots) → Kept s s
same s = record { moves = refl; numbers = refl }

then_kept : (s t u : Slots) → Kept s t → Kept t u → Kept s u
then_kept s t u first next = record { moves = next.moves ∙ first.moves; numbers = next.numbers ∙ first.numbers }

if_kept : (s t : Slots) (b : Bool) → Kept s t → AllOf (Kept s) (if b then Given t else Broken)
if_kept s t true kept = kept
if_kept s t false kept = tt

cell_kept : (s : Slots) (h o : ℕ) (ks : List Kind) (zs : List ℤ) (ws : Option (List Value)) → AllOf (Kept s) (cell_stored s h o ks zs ws)
cell_kept s h o ks zs None = tt
cell_kept s h o ks zs (Some ws) =
    if_kept s (with_heap s (written_all s.heap h o (slot_values ks zs))) (are_slot_words ks zs && have_kinds ks (drop o ws)) (record { moves = refl; numbers = refl })

stored_kept : (s : Slots) (q : Spot) (ks : List Kind) (zs : List ℤ) → AllOf (Kept s) (stored s q ks zs)
stored_kept s (InStack n) ks zs = if_kept s (with_stack s (spliced n zs s.stack)) _ (record { moves = refl; numbers = refl })
stored_kept s (InCell h o) ks zs = cell_kept s h o ks zs (words_at s.heap.cells h)

pub put_kept : (s : Slots) (at : ℕ) (zs : List ℤ) → AllOf (Kept s) (put_words s at zs)
put_kept s at zs = stored_kept s (in_stack s at) [] zs

-- ---- what was moved is gone

cell_emptied_kept : (s : Slots) (h o : ℕ) (ks : List Kind) (gone : List ℕ) (ws : Option (List Value)) → AllOf (Kept s) (cell_emptied s h o ks gone ws)
cell_emptied_kept s h o ks gone None = tt
cell_emptied_kept s h o ks gone (Some ws) =
    if_kept s (with_heap s (nulled s.heap h o gone)) (are_pointers ks gone && have_kinds ks (drop o ws)) (record { moves = refl; numbers = refl })

stack_emptied_kept : (s : Slots) (n : ℕ) (gone : List ℕ) (b : Bool) (g : Got (List ℤ))
    → AllOf (Kept s) (if b then and_then g (λ zs. Given (with_stack s (spliced n (all_null gone zs) s.stack))) else Broken)
stack_emptied_kept s n gone true (Given zs) = record { moves = refl; numbers = refl }
stack_emptied_kept s n gone true (Stops x) = tt
stack_emptied_kept s n gone true Broken = tt
stack_emptied_kept s n gone false g = tt

emptied_kept : (s : Slots) (q : Spot) (ks : List Kind) (gone : List ℕ) → AllOf (Kept s) (emptied s q ks gone)
emptied_kept s (InStack n) ks gone = stack_emptied_kept s n gone (are_pointers ks gone) (front ks (drop n s.stack))
emptied_kept s (InCell h o) ks gone = cell_emptied_kept s h o ks gone (words_at s.heap.cells h)

after_kept : (s t : Slots) → Kept s t → (g : Got Slots) → AllOf (Kept t) g → AllOf (Kept s) g
after_kept s t first (Given u) all = then_kept s t u first all
after_kept s t first (Stops x) all = tt
after_kept s t first Broken all = tt

all_emptied_kept : (qs : List Move) (s : Slots) → AllOf (Kept s) (all_emptied qs s)
all_emptied_kept [] s = same s
all_emptied_kept (q ∷ qs) s =
    all_next (Kept s) (emptied s q.at q.kinds q.offsets) (all_emptied qs)
    (λ t is. after_kept s t (of_given (Kept s) (emptied s q.at q.kinds q.offsets) t (emptied_kept s q.at q.kinds q.offsets) is) (all_emptied qs t) (all_emptied_kept qs t))

settled_moves : (s t : Slots) → settled s ≡ Given t → t.moves ≡ []
settled_moves s t is =
    let none : Slots = record s { moves = [] } in
    let k : Kept none t = of_given (Kept none) (settled s) t (all_emptied_kept s.moves none) is in
    k.moves

-- ---- points that store one word at most

abbrev pub KeptWith : {A : Type 0} → Slots → With A → Type 0
KeptWith s x = Kept s x.memory

module _ (s : Slots) where
  only_kept : (g : Got Slots) → AllOf (Kept s) g → AllOf (KeptWith s) (and_then g only)
  only_kept (Given t) all = all
  only_kept (Stops x) all = tt
  only_kept Broken all = tt

  with_kept : {A B : Type 0} (g : Got (With A)) (f : With A → B) → AllOf (KeptWith s) g → AllOf (KeptWith s) (and_then g (λ x. Given (record { memory = x.memory; answer = f x })))
  with_kept (Given x) f all = all
  with_kept (Stops x) f all = tt
  with_kept Broken f all = tt

  read_kept : {A : Type 0} (g : Got A) → AllOf (KeptWith s) (and_then g (λ a. Given (record { memory = s; answer = a })))
  read_kept (Given a) = same s
  read_kept (Stops x) = tt
  read_kept Broken = tt

  put_word_kept : (at : ℕ) (g : Got ℤ) → AllOf (KeptWith s) (and_then g (put_word at s))
  put_word_kept at g = all_next (KeptWith s) g (put_word at s) (λ w is. only_kept (put_words s at (w ∷ [])) (put_kept s at (w ∷ [])))

  store_word_kept : (p : Place) (k : Kind) (g : Got ℤ) → AllOf (KeptWith s) (and_then g (placed p k s))
  store_word_kept p k g =
      all_next (KeptWith s) g (placed p k s) (λ w is. all_next (KeptWith s) (spot s p) (store_word k w s)
      (λ q there. only_kept (stored s q (k ∷ []) (w ∷ [])) (stored_kept s q (k ∷ []) (w ∷ []))))

  loop_kept : (at counter : ℕ) (v : ℤ) (loop : List ℤ) → AllOf (KeptWith s) (with_loop at counter v loop s)
  loop_kept at counter v loop =
      all_next (KeptWith s) (put_words s at (v ∷ [])) (loop_words counter loop)
      (λ t is. only_kept (put_words t counter loop)
      (after_kept s t (of_given (Kept s) (put_words s at (v ∷ [])) t (put_kept s at (v ∷ [])) is) (put_words t counter loop) (put_kept t counter loop)))

  begun_kept : (at counter : ℕ) (a b : ℤ) (refused : Bool) → AllOf (KeptWith s) (if refused then Stops constraint else with_loop at counter a (a ∷ b ∷ pos 1 ∷ []) s)
  begun_kept at counter a b true = tt
  begun_kept at counter a b false = loop_kept at counter a (a ∷ b ∷ pos 1 ∷ [])

  started_kept : (at counter : ℕ) (low high : Code) (first last : ℤ) → AllOf (KeptWith s) (started at counter low high first last s)
  started_kept at counter low high first last =
      all_next (KeptWith s) (word s low) (bounded at counter high first last s) (λ a is. all_next (KeptWith s) (word s high) (λ b. begun_with at counter first last a b s)
      (λ b there. begun_kept at counter a b (is_refused first last a b)))

  turned_to_kept : (at counter : ℕ) (without low high : ℤ) (o : Option ℤ) → AllOf (KeptWith s) (turned_to at counter without low high o s)
  turned_to_kept at counter without low high (Some v) =
      with_kept (with_loop at counter v (low ∷ high ∷ pos 0 ∷ []) s) (λ x. true) (loop_kept at counter v (low ∷ high ∷ pos 0 ∷ []))
  turned_to_kept at counter without low high None =
      with_kept (with_loop at counter without (pos 1 ∷ pos 0 ∷ pos 1 ∷ []) s) (λ x. false) (loop_kept at counter without (pos 1 ∷ pos 0 ∷ pos 1 ∷ []))

  turned_kept : (at counter : ℕ) (reversed : Bool) (without : ℤ) → AllOf (KeptWith s) (turned at counter reversed without s)
  turned_kept at counter reversed without =
      let P : With Bool → Type 0 = KeptWith s in
      let to : ℤ → ℤ → ℤ → ℤ → Got (With Bool) = λ v low high first. turned_to at counter without low high (next_value reversed low high first v) s in
      all_next P (word_in s (s.base + at)) (λ v. and_then (word_in s (s.base + counter)) (λ low. and_then (word_in s (s.base + counter + 1)) (λ high. and_then (word_in s (s.base + counter + 2)) (to v low high))))
      (λ v a. all_next P (word_in s (s.base + counter)) (λ low. and_then (word_in s (s.base + counter + 1)) (λ high. and_then (word_in s (s.base + counter + 2)) (to v low high)))
      (λ low b. all_next P (word_in s (s.base + counter + 1)) (λ high. and_then (word_in s (s.base + counter + 2)) (to v low high))
      (λ high c. all_next P (word_in s (s.base + counter + 2)) (to v low high) (λ first d. turned_to_kept at counter without low high (next_value reversed low high first v)))))

  all_words_kept : (rows : Rows) (d : Does) → AllOf (KeptWith s) (words_changed rows d s)
  all_words_kept rows (does.Go n) = same s
  all_words_kept rows (does.Put at v low high n) =
      let g : Got ℤ = and_then (word s (code_at rows.nodes v)) (checked low high) in
      with_kept (and_then g (put_word at s)) (λ x. n) (put_word_kept at g)
  all_words_kept rows (does.PutPointer at v n) =
      let g : Got ℤ = word s (code_at rows.nodes v) in
      with_kept (and_then g (put_word at s)) (λ x. n) (put_word_kept at g)
  all_words_kept rows (does.Store p v low high k n) =
      let g : Got ℤ = and_then (word s (code_at rows.nodes v)) (checked low high) in
      let to : Place = place_of (code_at rows.nodes) p in
      with_kept (and_then g (placed to k s)) (λ x. n) (store_word_kept to k g)
  all_words_kept rows (does.Test c holds fails) = read_kept (tested (code_at rows.nodes c) holds fails s)
  all_words_kept rows (does.Choose c r) = read_kept (chosen_by (code_at rows.nodes c) (choices_of rows r) s)
  all_words_kept rows (does.Start at counter low high first last n) =
      with_kept (started at counter (code_at rows.nodes low) (code_at rows.nodes high) first last s) (λ x. n)
      (started_kept at counter (code_at rows.nodes low) (code_at rows.nodes high) first last)
  all_words_kept rows (does.Next at counter reversed without turn leave) =
      with_kept (turned at counter reversed without s) (λ x. if x.answer then turn else leave) (turned_kept at counter reversed without)
  all_words_kept rows _ = tt

  pub words_kept : (rows : Rows) (d : Does) (x : With ℕ) → words_changed rows d s ≡ Given x → x.memory.moves ≡ s.moves
  words_kept rows d x is = let k : KeptWith s x = of_given (KeptWith s) (words_changed rows d s) x (all_words_kept rows d) is in k.moves

  -- ---- points that may have leak checks

  pointer_kept : (at : ℕ) → AllOf (KeptWith s) (ended_pointer at s)
  pointer_kept at =
      all_next (KeptWith s) (word_in s (s.base + at)) (pointer_ended at s)
      (λ w is. ended (put_words s at (pos 0 ∷ [])) w (put_kept s at (pos 0 ∷ [])))
    where
      ended : (g : Got Slots) (w : ℤ) → AllOf (Kept s) g → AllOf (KeptWith s) (and_then g (λ t. Given (record { memory = t; answer = w })))
      ended (Given t) w all = all
      ended (Stops x) w all = tt
      ended Broken w all = tt

  -- The numbers of handles are those of before, by which the leak check goes.
  pub pointer_numbers : (at : ℕ) (x : With ℤ) → ended_pointer at s ≡ Given x → x.memory.numbers ≡ s.numbers
  pointer_numbers at x is = let k : KeptWith s x = of_given (KeptWith s) (ended_pointer at s) x (pointer_kept at) is in k.numbers

-- ---- what is left with leak checks

abbrev pub IsKept : Slots → Left Slots → Type 0
IsKept s l = Kept s l.memory

abbrev pub IsDone : Left Slots → Type 0
IsDone l = l.memory.moves ≡ []

module _ (s : Slots) where
  left_kept : (leaks : List Leak) (f : Slots → Slots) (g : Got Slots) → ((t : Slots) → Kept t (f t)) → AllOf (Kept s) g
      → AllOf (IsKept s) (and_then g (λ t. Given (record { leaks = leaks; memory = f t })))
  left_kept leaks f (Given t) on all = then_kept s t (f t) all (on t)
  left_kept leaks f (Stops x) on all = tt
  left_kept leaks f Broken on all = tt

  abbrev unfreed : Slots → Slots
  unfreed t = t

module _ (table : Table) (of : ℕ) where
  assigned_done : (p : Place) (checks : Option Pos) (zs : List ℤ) (s : Slots) → AllOf IsDone (assigned table p of checks zs s)
  assigned_done p checks zs s =
      all_next IsDone (spot s p) (λ q. and_then (settled s) (checks_at q))
      (λ q is. all_next IsDone (settled s) (checks_at q)
      (λ k gone. all_next IsDone (checked_at table k q of checks) (puts k q)
      (λ leaks there. done k (settled_moves s k gone) (puts k q leaks) (left_kept k leaks (λ t. t) (stored k q (kinds table of) zs) same (stored_kept k q (kinds table of) zs)))))
    where
      puts : Slots → Spot → List Leak → Got (Left Slots)
      puts k q leaks = and_then (stored k q (kinds table of) zs) (λ t. Given (record { leaks = leaks; memory = t }))

      checks_at : Spot → Slots → Got (Left Slots)
      checks_at q k = and_then (checked_at table k q of checks) (puts k q)

      done : (k : Slots) → k.moves ≡ [] → (g : Got (Left Slots)) → AllOf (IsKept k) g → AllOf IsDone g
      done k none (Given l) all = all.moves ∙ none
      done k none (Stops x) all = tt
      done k none Broken all = tt

  module _ (s : Slots) where
    cell_kept_at : (at : Pos) (q : Spot) (h : ℕ) (x : Option (List Value)) → AllOf (IsKept s) (cell_at table of at q s h x)
    cell_kept_at at q h None = tt
    cell_kept_at at q h (Some ws) =
        all_next (IsKept s) (leaks_at table s (InCell h 0) of at)
        (λ leaks. and_then (stored s q (sort.Access ∷ []) (pos 0 ∷ [])) (λ t. Given (record { leaks = leaks; memory = without_cell t h (length ws) })))
        (λ leaks is. left_kept s leaks (λ t. without_cell t h (length ws)) (stored s q (sort.Access ∷ []) (pos 0 ∷ [])) (λ t. record { moves = refl; numbers = refl })
        (stored_kept s q (sort.Access ∷ []) (pos 0 ∷ [])))

    named_kept : (at : Pos) (q : Spot) (n : ℕ) → AllOf (IsKept s) (named table of at q s n)
    named_kept at q zero = same s
    named_kept at q (suc h) = cell_kept_at at q h (words_at s.heap.cells h)

    at_kept : (at : Pos) (q : Spot) (zs : List ℤ) → AllOf (IsKept s) (released_at table of at q s zs)
    at_kept at q [] = tt
    at_kept at q (w ∷ []) = named_kept at q (unsigned_abs w)
    at_kept at q (w ∷ (z ∷ zs)) = tt

    released_kept : (p : Place) (at : Pos) → AllOf (IsKept s) (released table p of at s)
    released_kept p at =
        all_next (IsKept s) (spot s p) (λ q. and_then (held s q (sort.Access ∷ [])) (released_at table of at q s))
        (λ q is. all_next (IsKept s) (held s q (sort.Access ∷ [])) (released_at table of at q s) (λ zs there. at_kept at q zs))

    scope_kept : (at : ℕ) (p : Pos) → AllOf (IsKept s) (ended_scope table at of p s)
    scope_kept at p =
        all_next (IsKept s) (leaks_at table s (in_stack s at) of p) (λ leaks. and_then (put_words s at (default_words table of)) (λ t. Given (record { leaks = leaks; memory = t })))
        (λ leaks is. left_kept s leaks (λ t. t) (put_words s at (default_words table of)) same (put_kept s at (default_words table of)))

-- ---- changes

-- Nothing is noted as moved where a change leads to.
pub IsSettled : Change → Type 0
IsSettled (Leads t n leaks) = t.moves ≡ []
IsSettled (Halts x t) = Unit {0}
IsSettled Fails = Unit {0}

-- So it is of the slots that are led to.
pub leads_settled : (t : Slots) (n : ℕ) (leaks : List Leak) → IsSettled (Leads t n leaks) → t.moves ≡ []
unfolding IsSettled
leads_settled t n leaks is = is

done_settled : (n : ℕ) (s : Slots) (g : Got (Left Slots)) → AllOf IsDone g → IsSettled (left n s g)
unfolding IsSettled
done_settled n s (Given l) all = all
done_settled n s (Stops x) all = tt
done_settled n s Broken all = tt

kept_settled : (n : ℕ) (s : Slots) (g : Got (Left Slots)) → s.moves ≡ [] → AllOf (IsKept s) g → IsSettled (left n s g)
unfolding IsSettled
kept_settled n s (Given l) none all = all.moves ∙ none
kept_settled n s (Stops x) none all = tt
kept_settled n s Broken none all = tt

pointer_settled : (p : Pos) (n : ℕ) (s : Slots) (g : Got (With ℤ)) → s.moves ≡ [] → AllOf (KeptWith s) g → IsSettled (pointer_left p n s g)
unfolding IsSettled
pointer_settled p n s (Given x) none all = all.moves ∙ none
pointer_settled p n s (Stops x) none all = tt
pointer_settled p n s Broken none all = tt

module _ (table : Table) (rows : Rows) (pos : Pos) where
  value_settled : (p : Place) (of : ℕ) (checks : Option Pos) (n : ℕ) (g : values.Outcome) → IsSettled (on_value g (λ zs t. left n t (assigned table p of checks zs t)))
  unfolding IsSettled
  value_settled p of checks n (values.Gives zs t) = done_settled n t (assigned table p of checks zs t) (assigned_done table of p checks zs t)
  value_settled p of checks n (values.Ends x t) = tt
  value_settled p of checks n values.Fails = tt

  -- Where nothing was before the point, nothing is after it.
  pub values_settled : (d : Does) (s : Slots) (r : Change) → s.moves ≡ [] → ValuesChange table rows pos d s r → IsSettled r
  unfolding IsSettled
  values_settled (does.Assign p v of checks n) s r none is =
      subst IsSettled (sym is.2) (value_settled (place_of (code_at rows.nodes) p) of checks n is.0)
  values_settled (does.Release p of at n) s r none is =
      let to : Place = place_of (code_at rows.nodes) p in
      subst IsSettled (sym is) (kept_settled n s (released table to of at s) none (released_kept table of s to at))
  values_settled (does.EndPointer at n) s r none is =
      subst IsSettled (sym is) (pointer_settled pos n s (ended_pointer at s) none (pointer_kept s at))
  values_settled (does.EndScope at of n) s r none is =
      subst IsSettled (sym is) (kept_settled n s (ended_scope table at of pos s) none (scope_kept table of s at pos))
  values_settled _ s r none is = subst IsSettled (sym is) tt
