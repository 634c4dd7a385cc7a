-- A step at a point of these kinds may come to what its change comes to, whatever the state is beside the memory.
use Rattle.std.proofs.Common.{◌≡◌, ℕ, ◌+◌, Bool, true, false, not, ◌==◌, List, [], ◌∷◌, map, refl, sym, ap, ◌∙◌, arith, ℤ, pos, Option, Some, None, if◌then◌else◌}
use Rattle.std.specs.Prelude.{IsTrue}
use Rattle.std.specs.List.{list_all}
use Rattle.run_values.specs.declared.value.Kind.{Kind}
use Rattle.run_codes.specs.Codes.{Code, Place}
use Rattle.run_codes.specs.Flat.{Got, Given, Stops, Broken, Spot, and_then, is_zero, is_between, checked, constraint}
use Rattle.run_codes.specs.Points.{chosen, next_value}
use Rattle.code_rows.specs.declared.range.Range.{Range}
use Rattle.code_rows.specs.declared.rows.Rows.{Rows}
use Rattle.code_rows.specs.declared.point.Choice.{Choice}
use Rattle.code_rows.specs.declared.point.Does.{Does}
use Rattle.code_rows.specs.declared.point.Does.TheVariants as does
use Rattle.code_rows.specs.Rows.{code_at, place_of}
use Rattle.code_rows.specs.Points.{AreSound, next_of, does_of, choice_of, choices_of, is_choice_there, some}
use Rattle.code_rows.proofs.Grown.{and_first, and_second}
use Rattle.code_rows.proofs.Kept.{all_some, all_choices, rows_none}
use Rattle.handled_runs.specs.Slots.{Slots, word, spot}
use Rattle.handled_runs.specs.Changes.{stored}
use Rattle.handled_runs.specs.Values as values
use Rattle.handled_runs.specs.Values.{Fills}
use Rattle.handled_steps.specs.States.{Outcome, Turn, start, on_got, on_made, halted, goes}
use Rattle.handled_steps.specs.Steps.{Done, put_words, put, store, test, choice, choose, looped, loop_started, start_loop, next_turn}
use Rattle.handled_steps.specs.Steps as steps
use Rattle.slot_points.specs.Changing.{With}
use Rattle.slot_points.specs.Steps.{only, led_to, tested, led_by, chosen_by, put_word, placed, is_refused, loop_words, with_loop, begun_with, bounded, started, word_in, answering, turned_to, turned}
use Rattle.slot_goings.specs.declared.groups.Group.TheVariants as group
use Rattle.slot_goings.specs.Groups.{group_of}
use Rattle.slot_goings.specs.Changes.{going, led, turning, words_changed}

-- What a change leads to.
abbrev pub led_on : Turn → With ℕ → Outcome
led_on t x = goes t x.memory (next_of x.answer)

module _ (t : Turn) where
  abbrev s : Slots
  s = start t

  -- ---- steps that follow each other

  through : {A C : Type 0} (g : Got A) (f : A → Outcome) (h : A → Got C) (k : C → Got (With ℕ)) → ((a : A) → f a ≡ on_got t s (and_then (h a) k) (led_on t))
      → on_got t s g f ≡ on_got t s (and_then (and_then g h) k) (led_on t)
  through (Given a) f h k each = each a
  through (Stops x) f h k each = refl
  through Broken f h k each = refl

  done_on : (n : ℕ) (g : Got Slots) → on_got t s g (λ m. goes t m (next_of n)) ≡ on_got t s (going n (and_then g only)) (led_on t)
  done_on n (Given m) = refl
  done_on n (Stops x) = refl
  done_on n Broken = refl

  -- ---- one word

  put_on : (at n : ℕ) (g : Got ℤ) → on_made t (values.reads s g (λ w. values.Gives (w ∷ []) s)) (put t at (next_of n)) ≡ on_got t s (going n (and_then g (put_word at s))) (led_on t)
  put_on at n (Given w) = done_on n (put_words s at (w ∷ []))
  put_on at n (Stops x) = refl
  put_on at n Broken = refl

  placed_on : (n : ℕ) (g : Got Spot) (f : Spot → Got Slots)
      → on_got t s g (λ q. on_got t s (f q) (λ m. goes t m (next_of n))) ≡ on_got t s (going n (and_then g (λ q. and_then (f q) only))) (led_on t)
  placed_on n (Given q) f = done_on n (f q)
  placed_on n (Stops x) f = refl
  placed_on n Broken f = refl

  store_on : (p : Place) (k : Kind) (n : ℕ) (g : Got ℤ)
      → on_made t (values.reads s g (λ w. values.Gives (w ∷ []) s)) (store t p k (next_of n)) ≡ on_got t s (going n (and_then g (placed p k s))) (led_on t)
  store_on p k n (Given w) = placed_on n (spot s p) (λ q. stored s q (k ∷ []) (w ∷ []))
  store_on p k n (Stops x) = refl
  store_on p k n Broken = refl

  -- ---- where points lead

  pick : (b : Bool) (holds fails : ℕ) → goes t s (if b then next_of fails else next_of holds) ≡ goes t s (next_of (if b then fails else holds))
  pick true holds fails = refl
  pick false holds fails = refl

  abbrev unchanged : ℕ → Got (With ℕ)
  unchanged n = Given (record { memory = s; answer = n })

  test_on : (c : Code) (holds fails : ℕ) → test t c (next_of holds) (next_of fails) ≡ on_got t s (led s (tested c holds fails s)) (led_on t)
  test_on c holds fails =
      through (word s c) (λ w. goes t s (if is_zero w then next_of fails else next_of holds)) (λ w. Given (led_to w holds fails)) unchanged
      (λ w. pick (is_zero w) holds fails)

  -- A choice leads to a point.
  next_there : (n : ℕ) → not (n == 4294967295) ≡ true → next_of n ≡ Some n
  next_there n there = by (n == 4294967295) there
    where
      by : (b : Bool) → not b ≡ true → (if b then None else Some n) ≡ Some n
      by true there = absurd (let never : false ≡ true = there in cc)
      by false there = refl

  abbrev IsLed : Option ℕ → Type 0
  IsLed o = choice t o ≡ on_got t s (and_then (led_by o) unchanged) (led_on t)

  choice_on : (w : ℤ) (cs : List Choice) → IsTrue (list_all is_choice_there cs) → IsLed (chosen w (map choice_of cs))
  choice_on w [] there = refl
  choice_on w (c ∷ cs) there =
      by (is_between c.low c.high w) (and_first (is_choice_there c) (list_all is_choice_there cs) there)
      (choice_on w cs (and_second (is_choice_there c) (list_all is_choice_there cs) there))
    where
      by : (b : Bool) → not (c.next == 4294967295) ≡ true → IsLed (chosen w (map choice_of cs)) → IsLed (if b then Some c.next else chosen w (map choice_of cs))
      by true is rest = ap (goes t s) (sym (next_there c.next is))
      by false is rest = rest

  choose_on : (c : Code) (rows : Rows) (r : Range) → AreSound rows
      → choose t c (choices_of rows r) ≡ on_got t s (led s (chosen_by c (choices_of rows r) s)) (led_on t)
  choose_on c rows r sound =
      through (word s c) (λ w. choice t (chosen w (choices_of rows r))) (λ w. led_by (chosen w (choices_of rows r))) unchanged
      (λ w. choice_on w (some rows.choices.items r) (all_some is_choice_there rows.choices.items r (all_choices rows rows (rows_none rows) sound)))

  -- ---- `for` loops

  loop_on : (n counter : ℕ) (loop : List ℤ) (g : Got Slots)
      → on_got t s (and_then g (λ m. put_words m counter loop)) (λ m. goes t m (next_of n)) ≡ on_got t s (going n (and_then g (loop_words counter loop))) (led_on t)
  loop_on n counter loop (Given m) = done_on n (put_words m counter loop)
  loop_on n counter loop (Stops x) = refl
  loop_on n counter loop Broken = refl

  looped_on : (at counter : ℕ) (v : ℤ) (loop : List ℤ) (n : ℕ) → looped t at counter v loop (next_of n) ≡ on_got t s (going n (with_loop at counter v loop s)) (led_on t)
  looped_on at counter v loop n = loop_on n counter loop (put_words s at (v ∷ []))

  refused_or : (n : ℕ) (b : Bool) (r : Outcome) (g : Got (With (Unit {0}))) → r ≡ on_got t s (going n g) (led_on t)
      → (if b then halted t constraint s else r) ≡ on_got t s (going n (if b then Stops constraint else g)) (led_on t)
  refused_or n true r g is = refl
  refused_or n false r g is = is

  start_on : (at counter : ℕ) (low high : Code) (first last : ℤ) (n : ℕ)
      → start_loop t at counter low high first last (next_of n) ≡ on_got t s (going n (started at counter low high first last s)) (led_on t)
  start_on at counter low high first last n =
      let k : With (Unit {0}) → Got (With ℕ) = λ x. Given (record { memory = x.memory; answer = n }) in
      let begins : ℤ → ℤ → Outcome = loop_started t at counter first last (next_of n) in
      through (word s low) (λ a. on_got t s (word s high) (begins a)) (bounded at counter high first last s) k
      (λ a. through (word s high) (begins a) (λ b. begun_with at counter first last a b s) k
      (λ b. refused_or n (is_refused first last a b) (looped t at counter a (a ∷ b ∷ pos 1 ∷ []) (next_of n)) (with_loop at counter a (a ∷ b ∷ pos 1 ∷ []) s)
      (looped_on at counter a (a ∷ b ∷ pos 1 ∷ []) n)))

  -- ---- the next turn of a loop

  answered_on : (b : Bool) (turn leave : ℕ) (g : Got (With (Unit {0})))
      → on_got t s (going (if b then turn else leave) g) (led_on t) ≡ on_got t s (turning turn leave (answering b g)) (led_on t)
  answered_on b turn leave (Given x) = refl
  answered_on b turn leave (Stops x) = refl
  answered_on b turn leave Broken = refl

  turn_on : (at counter : ℕ) (without : ℤ) (turn leave : ℕ) (low high : ℤ) (o : Option ℤ)
      → steps.turning t at counter without (next_of turn) (next_of leave) low high o ≡ on_got t s (turning turn leave (turned_to at counter without low high o s)) (led_on t)
  turn_on at counter without turn leave low high (Some v) =
      looped_on at counter v (low ∷ high ∷ pos 0 ∷ []) turn ∙ answered_on true turn leave (with_loop at counter v (low ∷ high ∷ pos 0 ∷ []) s)
  turn_on at counter without turn leave low high None =
      looped_on at counter without (pos 1 ∷ pos 0 ∷ pos 1 ∷ []) leave ∙ answered_on false turn leave (with_loop at counter without (pos 1 ∷ pos 0 ∷ pos 1 ∷ []) s)

  further : (a b c : ℕ) → a + (b + c) ≡ a + b + c
  further a b c = omega arith

  at_on : {C : Type 0} (a b : ℕ) → a ≡ b → (f : ℤ → Outcome) (h : ℤ → Got C) (k : C → Got (With ℕ)) → ((w : ℤ) → f w ≡ on_got t s (and_then (h w) k) (led_on t))
      → on_got t s (word_in s a) f ≡ on_got t s (and_then (and_then (word_in s b) h) k) (led_on t)
  at_on a b is f h k each = ap (λ n. on_got t s (word_in s n) f) is ∙ through (word_in s b) f h k each

  next_on : (at counter : ℕ) (reversed : Bool) (without : ℤ) (turn leave : ℕ)
      → next_turn t at counter reversed without (next_of turn) (next_of leave) ≡ on_got t s (turning turn leave (turned at counter reversed without s)) (led_on t)
  next_on at counter reversed without turn leave =
      let k : With Bool → Got (With ℕ) = λ x. Given (record { memory = x.memory; answer = if x.answer then turn else leave }) in
      let comes : ℤ → ℤ → ℤ → ℤ → Outcome = λ v low high first. steps.turning t at counter without (next_of turn) (next_of leave) low high (next_value reversed low high first v) in
      let to : ℤ → ℤ → ℤ → ℤ → Got (With Bool) = λ v low high first. turned_to at counter without low high (next_value reversed low high first v) s in
      at_on (s.base + at) (s.base + at) refl
      (λ v. on_got t s (word_in s (s.base + counter)) (λ low. on_got t s (word_in s (s.base + (counter + 1))) (λ high. on_got t s (word_in s (s.base + (counter + 2))) (comes v low high))))
      (λ v. and_then (word_in s (s.base + counter)) (λ low. and_then (word_in s (s.base + counter + 1)) (λ high. and_then (word_in s (s.base + counter + 2)) (to v low high)))) k
      (λ v. at_on (s.base + counter) (s.base + counter) refl
      (λ low. on_got t s (word_in s (s.base + (counter + 1))) (λ high. on_got t s (word_in s (s.base + (counter + 2))) (comes v low high)))
      (λ low. and_then (word_in s (s.base + counter + 1)) (λ high. and_then (word_in s (s.base + counter + 2)) (to v low high))) k
      (λ low. at_on (s.base + (counter + 1)) (s.base + counter + 1) (further s.base counter 1)
      (λ high. on_got t s (word_in s (s.base + (counter + 2))) (comes v low high)) (λ high. and_then (word_in s (s.base + counter + 2)) (to v low high)) k
      (λ high. at_on (s.base + (counter + 2)) (s.base + counter + 2) (further s.base counter 2) (comes v low high) (to v low high) k
      (λ first. turn_on at counter without turn leave low high (next_value reversed low high first v)))))

  -- ---- all of them

  values_apart : {A : Type 0} → group.Values ≡ group.Words → A
  values_apart is = cc

  others_apart : {A : Type 0} → group.Others ≡ group.Words → A
  others_apart is = cc

  pub words_come : (rows : Rows) (d : Does) → AreSound rows → group_of d ≡ group.Words → Done t (does_of rows d) (on_got t (start t) (words_changed rows d (start t)) (led_on t))
  unfolding Fills
  words_come rows (does.Go n) sound is = refl
  words_come rows (does.Put at v low high n) sound is =
      let g : Got ℤ = and_then (word s (code_at rows.nodes v)) (checked low high) in
      (values.reads s g (λ w. values.Gives (w ∷ []) s), refl, sym (put_on at n g))
  words_come rows (does.PutPointer at v n) sound is =
      let g : Got ℤ = word s (code_at rows.nodes v) in
      (values.reads s g (λ w. values.Gives (w ∷ []) s), refl, sym (put_on at n g))
  words_come rows (does.Store p v low high k n) sound is =
      let g : Got ℤ = and_then (word s (code_at rows.nodes v)) (checked low high) in
      (values.reads s g (λ w. values.Gives (w ∷ []) s), refl, sym (store_on (place_of (code_at rows.nodes) p) k n g))
  words_come rows (does.Test c holds fails) sound is = sym (test_on (code_at rows.nodes c) holds fails)
  words_come rows (does.Choose c r) sound is = sym (choose_on (code_at rows.nodes c) rows r sound)
  words_come rows (does.Start at counter low high first last n) sound is =
      sym (start_on at counter (code_at rows.nodes low) (code_at rows.nodes high) first last n)
  words_come rows (does.Next at counter reversed without turn leave) sound is = sym (next_on at counter reversed without turn leave)
  words_come rows (does.Assign p v of checks n) sound is = values_apart is
  words_come rows (does.Release p of at n) sound is = values_apart is
  words_come rows (does.EndPointer at n) sound is = values_apart is
  words_come rows (does.EndScope at of n) sound is = values_apart is
  words_come rows (does.Call sub r n) sound is = others_apart is
  words_come rows (does.Output r line n) sound is = others_apart is
  words_come rows (does.Input p low high n) sound is = others_apart is
  words_come rows (does.EvaluateLeft c or_else n decided) sound is = others_apart is
  words_come rows (does.EvaluateRight c n) sound is = others_apart is
  words_come rows (does.Hold v of n) sound is = others_apart is
  words_come rows does.Finish sound is = others_apart is
  words_come rows does.Fall sound is = others_apart is
