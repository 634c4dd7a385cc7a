-- `for` loops.
use Rattle.std.proofs.Common.{◌≡◌, ℕ, ◌+◌, ◌≤◌, Bool, true, false, List, [], ◌∷◌, length, slice_get, Option, Some, None, refl, sym, ap, subst, ◌∙◌, arith, ℤ, pos, nat_le, Result, Ok, Err, if◌then◌else◌}
use Rattle.std.proofs.lemmas.Bool.Decides.{nat_tests}
use Rattle.slot_heap.specs.Heaps.{Heap}
use Rattle.run_codes.specs.Codes.{Code}
use Rattle.run_codes.specs.Flat.{Got, Given, Stops, Broken, Spot, InStack, and_then, constraint, found, is_broken, spliced}
use Rattle.run_codes.specs.Points.{next_value}
use Rattle.code_rows.specs.declared.stop.Stop.{Stop}
use Rattle.code_rows.specs.Stops.{stop_of}
use Rattle.handled_runs.specs.Slots.{Slots, word}
use Rattle.handled_runs.specs.Changes.{with_stack, stored}
use Rattle.handled_steps.specs.Steps.{in_stack, put_words}
use Rattle.slot_memory.specs.Memory.{Kept, Knows, Changes, slots}
use Rattle.slot_words.specs.Reading.{Reads, Gives}
use Rattle.slot_words.proofs.Wholes.{first_whole}
use Rattle.slot_words.proofs.Never.{stored_never}
use Rattle.slot_points.specs.Changing.{Whole, With, Done}
use Rattle.slot_points.specs.Steps.{only, is_refused, loop_words, with_loop, begun_with, bounded, started, answering, turned_to, turned, word_in}
use Rattle.slot_points.proofs.Doing.{word_reads, word_found, knows, first, next, next_of, stops, done_next, done_of, changed_done, then_whole, then_done}

plus_zero : (n : ℕ) → n + 0 ≡ n
plus_zero n = omega arith

module _ {R : Type 0} (Means : R → Heap → Type 0) where
  -- ---- words at an offset in the frame

  pub put_room : (m : Kept R) (at : ℕ) (zs : List ℤ) → Knows Means m (λ s. is_broken (put_words s at zs) ≡ false) → m.base + at + 0 ≤ length m.stack
  put_room m at zs (g, (stands, whole)) = by (nat_le (m.base + at + length zs) (length m.stack)) refl whole
    where
      by : (b : Bool) → nat_le (m.base + at + length zs) (length m.stack) ≡ b
          → is_broken (if b then Given (with_stack (slots m g) (spliced (m.base + at) zs m.stack)) else Broken) ≡ false → m.base + at + 0 ≤ length m.stack
      by true less is = grind (arith, nat_tests)
      by false less is = cc

  spot_at : (q : Spot) (b at : ℕ) → q ≡ InStack (b + at + 0) → q ≡ InStack (b + at)
  spot_at q b at e = e ∙ ap InStack (plus_zero (b + at))

  pub put_known : (m : Kept R) (q : Spot) (at : ℕ) (zs : List ℤ) → q ≡ InStack (m.base + at + 0) → Knows Means m (λ s. is_broken (put_words s at zs) ≡ false)
      → Knows Means m (λ s. is_broken (stored s q [] zs) ≡ false)
  put_known m q at zs e (g, (stands, whole)) = (g, (stands, subst (λ r. is_broken (stored (slots m g) r [] zs) ≡ false) (sym (spot_at q m.base at e)) whole))

  pub put_changes : (m n : Kept R) (q : Spot) (at : ℕ) (zs : List ℤ) → q ≡ InStack (m.base + at + 0) → Changes Means m (λ s. stored s q [] zs) n
      → Changes Means m (λ s. put_words s at zs) n
  put_changes m n q at zs e changes = λ g stands t is. changes g stands t (ap (λ r. stored (slots m g) r [] zs) (spot_at q m.base at e) ∙ is)

  -- ---- the words of a loop

  module _ (m : Kept R) (at counter : ℕ) (v : ℤ) (loop : List ℤ) where
    abbrev value_put : Slots → Got Slots
    value_put s = put_words s at (v ∷ [])

    pub loop_value : Whole Means m (with_loop at counter v loop) → Knows Means m (λ s. is_broken (put_words s at (v ∷ [])) ≡ false)
    loop_value is = knows Means m value_put (first Means m value_put (λ s. loop_words counter loop) is)

    pub loop_next : (n : Kept R) → Whole Means m (with_loop at counter v loop) → Changes Means m (λ s. put_words s at (v ∷ [])) n
        → Knows Means n (λ s. is_broken (put_words s counter loop) ≡ false)
    loop_next n is changes =
        knows Means n (λ s. put_words s counter loop)
        (first Means n (λ s. put_words s counter loop) (λ s. only)
        (then_whole Means m n n value_put (loop_words counter loop) (λ s. stored_never s (in_stack s at) [] (v ∷ [])) is changes))

    pub loop_done : (n k : Kept R) → Changes Means m (λ s. put_words s at (v ∷ [])) n → Changes Means n (λ s. put_words s counter loop) k
        → Done Means m (with_loop at counter v loop) (Ok tt) k
    loop_done n k first_put second_put =
        then_done Means m n k value_put (loop_words counter loop) (λ s. stored_never s (in_stack s at) [] (v ∷ [])) tt first_put
        (changed_done Means n k (λ s. put_words s counter loop) (λ s. only) (λ s. stored_never s (in_stack s counter) [] loop) tt second_put (λ s t. refl))

  -- ---- a start

  module _ (m : Kept R) (at counter : ℕ) (first_value last a b : ℤ) where
    pub begin_refused : (e : Stop) → is_refused first_value last a b ≡ true → stop_of e ≡ constraint → Done Means m (begun_with at counter first_value last a b) (Err e) m
    begin_refused e is same = record {
      done = λ g stands whole no. record {
        stops = ap (λ x. if x then Stops constraint else with_loop at counter a (a ∷ b ∷ pos 1 ∷ []) (slots m g)) is ∙ ap Stops (sym same);
        same = refl;
      };
    }

    pub begin_known : Whole Means m (begun_with at counter first_value last a b) → is_refused first_value last a b ≡ false → Whole Means m (with_loop at counter a (a ∷ b ∷ pos 1 ∷ []))
    begin_known is goes = record {
      ghosts = is.ghosts;
      stands = is.stands;
      whole = subst (λ x. is_broken (if x then Stops constraint else with_loop at counter a (a ∷ b ∷ pos 1 ∷ []) (slots m is.ghosts)) ≡ false) goes is.whole;
    }

    pub begin_done : (n : Kept R) → is_refused first_value last a b ≡ false → Done Means m (with_loop at counter a (a ∷ b ∷ pos 1 ∷ [])) (Ok tt) n
        → Done Means m (begun_with at counter first_value last a b) (Ok tt) n
    begin_done n goes done = record {
      done = λ g stands whole.
          let d = done.done g stands (subst (λ x. is_broken (if x then Stops constraint else with_loop at counter a (a ∷ b ∷ pos 1 ∷ []) (slots m g)) ≡ false) goes whole) in
          record {
            after = d.after;
            is = ap (λ x. if x then Stops constraint else with_loop at counter a (a ∷ b ∷ pos 1 ∷ []) (slots m g)) goes ∙ d.is;
            shows = d.shows;
          };
    }

  module _ (m : Kept R) (at counter : ℕ) (low high : Code) (first_value last : ℤ) where
    abbrev high_bound : Slots → ℤ → Got (With (Unit {0}))
    high_bound = bounded at counter high first_value last

    pub start_low : Whole Means m (started at counter low high first_value last) → Reads Means m low
    start_low is = word_reads Means m low (first Means m (λ s. word s low) high_bound is)

    pub start_low_stops : (e : Stop) → Gives Means m low (Err e) → Done Means m (started at counter low high first_value last) (Err e) m
    start_low_stops e gives = stops Means m (λ s. word s low) high_bound e (word_found Means m low (Err e) gives)

    module _ (a : ℤ) (gives : Gives Means m low (Ok a)) where
      at_high : Whole Means m (started at counter low high first_value last) → Whole Means m (λ s. high_bound s a)
      at_high is = next Means m (λ s. word s low) high_bound a is (word_found Means m low (Ok a) gives)

      pub start_high : Whole Means m (started at counter low high first_value last) → Reads Means m high
      start_high is = word_reads Means m high (first Means m (λ s. word s high) (λ s b. begun_with at counter first_value last a b s) (at_high is))

      pub start_high_stops : (e : Stop) → Gives Means m high (Err e) → Done Means m (started at counter low high first_value last) (Err e) m
      start_high_stops e high_gives =
          done_next Means m (λ s. word s low) high_bound a (Err e) m (word_found Means m low (Ok a) gives)
          (stops Means m (λ s. word s high) (λ s b. begun_with at counter first_value last a b s) e (word_found Means m high (Err e) high_gives))

      pub start_begins : (b : ℤ) → Whole Means m (started at counter low high first_value last) → Gives Means m high (Ok b)
          → Whole Means m (begun_with at counter first_value last a b)
      start_begins b is high_gives =
          next Means m (λ s. word s high) (λ s b. begun_with at counter first_value last a b s) b (at_high is) (word_found Means m high (Ok b) high_gives)

      pub start_done : (b : ℤ) (r : Result (Unit {0}) Stop) (n : Kept R) → Gives Means m high (Ok b) → Done Means m (begun_with at counter first_value last a b) r n
          → Done Means m (started at counter low high first_value last) r n
      start_done b r n high_gives done =
          done_next Means m (λ s. word s low) high_bound a r n (word_found Means m low (Ok a) gives)
          (done_next Means m (λ s. word s high) (λ s b. begun_with at counter first_value last a b s) b r n (word_found Means m high (Ok b) high_gives) done)

  -- ---- a turn

  pub answer_whole : (m : Kept R) (b : Bool) (f : Slots → Got (With (Unit {0}))) → Whole Means m (λ s. answering b (f s)) → Whole Means m f
  answer_whole m b f is = first Means m f (λ s x. Given (record { memory = x.memory; answer = b })) is

  pub answer_done : (m n : Kept R) (b : Bool) (f : Slots → Got (With (Unit {0}))) → Done Means m f (Ok tt) n → Done Means m (λ s. answering b (f s)) (Ok b) n
  answer_done m n b f done = record {
    done = λ g stands whole.
        let k : With (Unit {0}) → Got (With Bool) = (λ x. Given (record { memory = x.memory; answer = b })) in
        let d = done.done g stands (first_whole (f (slots m g)) k whole) in
        record { after = d.after; is = ap (λ (x : Got (With (Unit {0}))). and_then x k) d.is; shows = d.shows };
  }

  module _ (m n : Kept R) (at counter : ℕ) (without low high : ℤ) (o : Option ℤ) where
    pub turn_some : (v : ℤ) → o ≡ Some v → Whole Means m (turned_to at counter without low high o) → Whole Means m (with_loop at counter v (low ∷ high ∷ pos 0 ∷ []))
    turn_some v e is =
        answer_whole m true (with_loop at counter v (low ∷ high ∷ pos 0 ∷ [])) (subst (λ i. Whole Means m (turned_to at counter without low high i)) e is)

    pub turn_none : o ≡ None → Whole Means m (turned_to at counter without low high o) → Whole Means m (with_loop at counter without (pos 1 ∷ pos 0 ∷ pos 1 ∷ []))
    turn_none e is =
        answer_whole m false (with_loop at counter without (pos 1 ∷ pos 0 ∷ pos 1 ∷ [])) (subst (λ i. Whole Means m (turned_to at counter without low high i)) e is)

    pub some_done : (v : ℤ) → o ≡ Some v → Done Means m (with_loop at counter v (low ∷ high ∷ pos 0 ∷ [])) (Ok tt) n → Done Means m (turned_to at counter without low high o) (Ok true) n
    some_done v e done =
        subst (λ i. Done Means m (turned_to at counter without low high i) (Ok true) n) (sym e) (answer_done m n true (with_loop at counter v (low ∷ high ∷ pos 0 ∷ [])) done)

    pub none_done : o ≡ None → Done Means m (with_loop at counter without (pos 1 ∷ pos 0 ∷ pos 1 ∷ [])) (Ok tt) n → Done Means m (turned_to at counter without low high o) (Ok false) n
    none_done e done =
        subst (λ i. Done Means m (turned_to at counter without low high i) (Ok false) n) (sym e)
        (answer_done m n false (with_loop at counter without (pos 1 ∷ pos 0 ∷ pos 1 ∷ [])) done)

  module _ (m : Kept R) (at counter : ℕ) (reversed : Bool) (without : ℤ) where
    abbrev turn_at : ℤ → ℤ → ℤ → ℤ → Slots → Got (With Bool)
    turn_at v low high from s = turned_to at counter without low high (next_value reversed low high from v) s

    abbrev from_high : ℤ → ℤ → Slots → ℤ → Got (With Bool)
    from_high v low s high = and_then (word_in s (s.base + counter + 2)) (λ from. turn_at v low high from s)

    abbrev from_low : ℤ → Slots → ℤ → Got (With Bool)
    from_low v s low = and_then (word_in s (s.base + counter + 1)) (from_high v low s)

    abbrev from_value : Slots → ℤ → Got (With Bool)
    from_value s v = and_then (word_in s (s.base + counter)) (from_low v s)

    module _ (is : Whole Means m (turned at counter reversed without)) where
      pub value_there : is_broken (found (slice_get m.stack (m.base + at))) ≡ false
      value_there = (first Means m (λ s. word_in s (s.base + at)) from_value is).whole

      module _ (v : ℤ) (ev : found (slice_get m.stack (m.base + at)) ≡ Given v) where
        value_on : Whole Means m (λ s. from_value s v)
        value_on = next_of Means m (λ s. word_in s (s.base + at)) from_value is (λ g stands there. ev)

        pub low_there : is_broken (found (slice_get m.stack (m.base + counter + 0))) ≡ false
        low_there =
            ap (λ n. is_broken (found (slice_get m.stack n))) (plus_zero (m.base + counter)) ∙ (first Means m (λ s. word_in s (s.base + counter)) (from_low v) value_on).whole

        module _ (low : ℤ) (el : found (slice_get m.stack (m.base + counter + 0)) ≡ Given low) where
          low_at : found (slice_get m.stack (m.base + counter)) ≡ Given low
          low_at = ap (λ n. found (slice_get m.stack n)) (sym (plus_zero (m.base + counter))) ∙ el

          low_on : Whole Means m (λ s. from_low v s low)
          low_on = next_of Means m (λ s. word_in s (s.base + counter)) (from_low v) value_on (λ g stands there. low_at)

          pub high_there : is_broken (found (slice_get m.stack (m.base + counter + 1))) ≡ false
          high_there = (first Means m (λ s. word_in s (s.base + counter + 1)) (from_high v low) low_on).whole

          module _ (high : ℤ) (eh : found (slice_get m.stack (m.base + counter + 1)) ≡ Given high) where
            high_on : Whole Means m (λ s. from_high v low s high)
            high_on = next_of Means m (λ s. word_in s (s.base + counter + 1)) (from_high v low) low_on (λ g stands there. eh)

            pub first_there : is_broken (found (slice_get m.stack (m.base + counter + 2))) ≡ false
            first_there = (first Means m (λ s. word_in s (s.base + counter + 2)) (λ s from. turn_at v low high from s) high_on).whole

            module _ (from : ℤ) (ef : found (slice_get m.stack (m.base + counter + 2)) ≡ Given from) where
              pub turn_there : (o : Option ℤ) (l h w : ℤ) → o ≡ next_value reversed low high from v → l ≡ low → h ≡ high → w ≡ without
                  → Whole Means m (turned_to at counter w l h o)
              turn_there o l h w same el eh ew =
                  let there : Whole Means m (turn_at v low high from)
                  = next_of Means m (λ s. word_in s (s.base + counter + 2)) (λ s from. turn_at v low high from s) high_on (λ g stands there. ef) in
                  subst (λ i. Whole Means m (turned_to at counter i l h o)) (sym ew)
                  (subst (λ i. Whole Means m (turned_to at counter without i h o)) (sym el)
                  (subst (λ i. Whole Means m (turned_to at counter without low i o)) (sym eh) (subst (λ i. Whole Means m (turned_to at counter without low high i)) (sym same) there)))

              pub turn_done : (o : Option ℤ) (l h w : ℤ) (b : Bool) (n : Kept R) → Done Means m (turned_to at counter w l h o) (Ok b) n
                  → o ≡ next_value reversed low high from v → l ≡ low → h ≡ high → w ≡ without → Done Means m (turned at counter reversed without) (Ok b) n
              turn_done o l h w b n done same e_low e_high e_without =
                  done_of Means m (λ s. word_in s (s.base + at)) from_value (Ok b) n (λ g stands there. ev)
                  (done_of Means m (λ s. word_in s (s.base + counter)) (from_low v) (Ok b) n (λ g stands there. low_at)
                  (done_of Means m (λ s. word_in s (s.base + counter + 1)) (from_high v low) (Ok b) n (λ g stands there. eh)
                  (done_of Means m (λ s. word_in s (s.base + counter + 2)) (λ s from. turn_at v low high from s) (Ok b) n (λ g stands there. ef)
                  (subst (λ i. Done Means m (turned_to at counter without low high i) (Ok b) n) same
                  (subst (λ i. Done Means m (turned_to at counter without low i o) (Ok b) n) e_high
                  (subst (λ i. Done Means m (turned_to at counter without i h o) (Ok b) n) e_low (subst (λ i. Done Means m (turned_to at counter i l h o) (Ok b) n) e_without done)))))))
