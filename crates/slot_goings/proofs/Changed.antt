-- Points that store one word at most: what they ask for, and what they come to.
use Rattle.std.proofs.Common.{◌≡◌, refl, ap, ◌∙◌, ℕ, Bool, ℤ, Result, Ok, Err, if◌then◌else◌}
use Rattle.run_values.specs.declared.value.Kind.{Kind}
use Rattle.slot_heap.specs.Heaps.{Heap}
use Rattle.run_codes.specs.Flat.{Got, Given, and_then}
use Rattle.code_rows.specs.declared.stop.Stop.{Stop}
use Rattle.code_rows.specs.declared.stop.Stop.TheVariants as stop
use Rattle.code_rows.specs.declared.place.Place.{Place}
use Rattle.code_rows.specs.declared.range.Range.{Range}
use Rattle.code_rows.specs.declared.rows.Rows.{Rows}
use Rattle.code_rows.specs.declared.point.Does.TheVariants as does
use Rattle.code_rows.specs.Rows.{code_at, place_of}
use Rattle.code_rows.specs.Points.{choices_of}
use Rattle.handled_runs.specs.Slots.{Slots}
use Rattle.slot_memory.specs.Memory.{Kept, slots}
use Rattle.slot_words.proofs.Wholes.{first_whole}
use Rattle.slot_points.specs.Changing.{Whole, Found, With, IsDone, Done}
use Rattle.slot_points.specs.Steps.{tested, chosen_by, put_checked, put_pointer, stored_checked, started, turned}
use Rattle.slot_goings.specs.Changes.{led, words_changed}

module _ {R : Type 0} (Means : R → Heap → Type 0) (m : Kept R) where
  -- ---- what goes on at a point

  module _ {A : Type 0} (f : Slots → Got (With A)) (k : With A → Got (With ℕ)) where
    first_of : Whole Means m (λ s. and_then (f s) k) → Whole Means m f
    first_of is = record { ghosts = is.ghosts; stands = is.stands; whole = first_whole (f (slots m is.ghosts)) k is.whole }

    done_of : (a : A) (n : ℕ) (now : Kept R) → ((s : Slots) → k (record { memory = s; answer = a }) ≡ Given (record { memory = s; answer = n }))
        → Done Means m f (Ok a) now → Done Means m (λ s. and_then (f s) k) (Ok n) now
    done_of a n now on is = record {
      done = λ g stands whole.
          let d : IsDone Means (f (slots m g)) a now = is.done g stands (first_whole (f (slots m g)) k whole) in
          record { after = d.after; is = ap (λ (x : Got (With A)). and_then x k) d.is ∙ on d.after; shows = d.shows };
    }

    stops_of : (x : Stop) (now : Kept R) → Done Means m f (Err x) now → Done Means m (λ s. and_then (f s) k) (Err x) now
    stops_of x now is = record {
      done = λ g stands whole other.
          let d = is.done g stands (first_whole (f (slots m g)) k whole) other in
          record { stops = ap (λ (x : Got (With A)). and_then x k) d.stops; same = d.same };
    }

  abbrev goes : ℕ → With Unit → Got (With ℕ)
  goes n x = Given (record { memory = x.memory; answer = n })

  -- ---- what is read

  module _ (f : Slots → Got ℕ) where
    led_first : Whole Means m (λ s. led s (f s)) → Whole Means m f
    led_first is = record {
      ghosts = is.ghosts;
      stands = is.stands;
      whole = first_whole (f (slots m is.ghosts)) (λ n. Given (record { memory = slots m is.ghosts; answer = n })) is.whole;
    }

    led_done : (r : Result ℕ Stop) → Found Means m f r → Done Means m (λ s. led s (f s)) r m
    led_done (Ok n) is = record {
      done = λ g stands whole.
          let s : Slots = slots m g in
          record {
            after = s;
            is = ap (led s) (is.found g stands (first_whole (f s) (λ n. Given (record { memory = s; answer = n })) whole));
            shows = (stands, refl);
          };
    }
    led_done (Err x) is = record {
      done = λ g stands whole other.
          let s : Slots = slots m g in
          record { stops = ap (led s) (is.found g stands (first_whole (f s) (λ n. Given (record { memory = s; answer = n })) whole)); same = refl };
    }

  -- There is too little memory.
  pub no_change : {A : Type 0} (f : Slots → Got (With A)) (now : Kept R) → Done {A = A} Means m f (Err stop.Memory) now
  no_change f now = record { done = λ g stands whole other. absurd (other refl) }

  pub go_on : (rows : Rows) (n : ℕ) → Done Means m (words_changed rows (does.Go n)) (Ok n) m
  go_on rows n = record { done = λ g stands whole. record { after = slots m g; is = refl; shows = (stands, refl) } }

  -- ---- single points

  module _ (rows : Rows) where
    pub put_first : (at v : ℕ) (low high : ℤ) (n : ℕ) → Whole Means m (words_changed rows (does.Put at v low high n)) → Whole Means m (put_checked at (code_at rows.nodes v) low high)
    put_first at v low high n is = first_of (put_checked at (code_at rows.nodes v) low high) (goes n) is

    pub put_goes : (at v : ℕ) (low high : ℤ) (n : ℕ) (u : Unit) (now : Kept R) → Done Means m (put_checked at (code_at rows.nodes v) low high) (Ok u) now
        → Done Means m (words_changed rows (does.Put at v low high n)) (Ok n) now
    put_goes at v low high n u now is = done_of (put_checked at (code_at rows.nodes v) low high) (goes n) u n now (λ s. refl) is

    pub put_stops : (at v : ℕ) (low high : ℤ) (n : ℕ) (x : Stop) (now : Kept R) → Done {A = Unit} Means m (put_checked at (code_at rows.nodes v) low high) (Err x) now
        → Done {A = ℕ} Means m (words_changed rows (does.Put at v low high n)) (Err x) now
    put_stops at v low high n x now is = stops_of (put_checked at (code_at rows.nodes v) low high) (goes n) x now is

    pub pointer_first : (at v n : ℕ) → Whole Means m (words_changed rows (does.PutPointer at v n)) → Whole Means m (put_pointer at (code_at rows.nodes v))
    pointer_first at v n is = first_of (put_pointer at (code_at rows.nodes v)) (goes n) is

    pub pointer_goes : (at v n : ℕ) (u : Unit) (now : Kept R) → Done Means m (put_pointer at (code_at rows.nodes v)) (Ok u) now
        → Done Means m (words_changed rows (does.PutPointer at v n)) (Ok n) now
    pointer_goes at v n u now is = done_of (put_pointer at (code_at rows.nodes v)) (goes n) u n now (λ s. refl) is

    pub pointer_stops : (at v n : ℕ) (x : Stop) (now : Kept R) → Done {A = Unit} Means m (put_pointer at (code_at rows.nodes v)) (Err x) now
        → Done {A = ℕ} Means m (words_changed rows (does.PutPointer at v n)) (Err x) now
    pointer_stops at v n x now is = stops_of (put_pointer at (code_at rows.nodes v)) (goes n) x now is

    pub store_first : (p : Place) (v : ℕ) (low high : ℤ) (k : Kind) (n : ℕ) → Whole Means m (words_changed rows (does.Store p v low high k n))
        → Whole Means m (stored_checked (place_of (code_at rows.nodes) p) (code_at rows.nodes v) low high k)
    store_first p v low high k n is = first_of (stored_checked (place_of (code_at rows.nodes) p) (code_at rows.nodes v) low high k) (goes n) is

    pub store_goes : (p : Place) (v : ℕ) (low high : ℤ) (k : Kind) (n : ℕ) (u : Unit) (now : Kept R)
        → Done Means m (stored_checked (place_of (code_at rows.nodes) p) (code_at rows.nodes v) low high k) (Ok u) now
        → Done Means m (words_changed rows (does.Store p v low high k n)) (Ok n) now
    store_goes p v low high k n u now is = done_of (stored_checked (place_of (code_at rows.nodes) p) (code_at rows.nodes v) low high k) (goes n) u n now (λ s. refl) is

    pub store_stops : (p : Place) (v : ℕ) (low high : ℤ) (k : Kind) (n : ℕ) (x : Stop) (now : Kept R)
        → Done {A = Unit} Means m (stored_checked (place_of (code_at rows.nodes) p) (code_at rows.nodes v) low high k) (Err x) now
        → Done {A = ℕ} Means m (words_changed rows (does.Store p v low high k n)) (Err x) now
    store_stops p v low high k n x now is = stops_of (stored_checked (place_of (code_at rows.nodes) p) (code_at rows.nodes v) low high k) (goes n) x now is

    pub test_first : (c holds fails : ℕ) → Whole Means m (words_changed rows (does.Test c holds fails)) → Whole Means m (tested (code_at rows.nodes c) holds fails)
    test_first c holds fails is = led_first (tested (code_at rows.nodes c) holds fails) is

    pub test_leads : (c holds fails : ℕ) (r : Result ℕ Stop) → Found Means m (tested (code_at rows.nodes c) holds fails) r
        → Done Means m (words_changed rows (does.Test c holds fails)) r m
    test_leads c holds fails r is = led_done (tested (code_at rows.nodes c) holds fails) r is

    pub choose_first : (c : ℕ) (r : Range) → Whole Means m (words_changed rows (does.Choose c r)) → Whole Means m (chosen_by (code_at rows.nodes c) (choices_of rows r))
    choose_first c r is = led_first (chosen_by (code_at rows.nodes c) (choices_of rows r)) is

    pub choose_leads : (c : ℕ) (range : Range) (r : Result ℕ Stop) → Found Means m (chosen_by (code_at rows.nodes c) (choices_of rows range)) r
        → Done Means m (words_changed rows (does.Choose c range)) r m
    choose_leads c range r is = led_done (chosen_by (code_at rows.nodes c) (choices_of rows range)) r is

    pub start_first : (at counter low high : ℕ) (first last : ℤ) (n : ℕ) → Whole Means m (words_changed rows (does.Start at counter low high first last n))
        → Whole Means m (started at counter (code_at rows.nodes low) (code_at rows.nodes high) first last)
    start_first at counter low high first last n is = first_of (started at counter (code_at rows.nodes low) (code_at rows.nodes high) first last) (goes n) is

    pub start_goes : (at counter low high : ℕ) (first last : ℤ) (n : ℕ) (u : Unit) (now : Kept R)
        → Done Means m (started at counter (code_at rows.nodes low) (code_at rows.nodes high) first last) (Ok u) now
        → Done Means m (words_changed rows (does.Start at counter low high first last n)) (Ok n) now
    start_goes at counter low high first last n u now is =
        done_of (started at counter (code_at rows.nodes low) (code_at rows.nodes high) first last) (goes n) u n now (λ s. refl) is

    pub start_stops : (at counter low high : ℕ) (first last : ℤ) (n : ℕ) (x : Stop) (now : Kept R)
        → Done {A = Unit} Means m (started at counter (code_at rows.nodes low) (code_at rows.nodes high) first last) (Err x) now
        → Done {A = ℕ} Means m (words_changed rows (does.Start at counter low high first last n)) (Err x) now
    start_stops at counter low high first last n x now is = stops_of (started at counter (code_at rows.nodes low) (code_at rows.nodes high) first last) (goes n) x now is

    abbrev turns : ℕ → ℕ → With Bool → Got (With ℕ)
    turns turn leave x = Given (record { memory = x.memory; answer = if x.answer then turn else leave })

    pub turn_first : (at counter : ℕ) (reversed : Bool) (without : ℤ) (turn leave : ℕ) → Whole Means m (words_changed rows (does.Next at counter reversed without turn leave))
        → Whole Means m (turned at counter reversed without)
    turn_first at counter reversed without turn leave is = first_of (turned at counter reversed without) (turns turn leave) is

    pub turn_goes : (at counter : ℕ) (reversed : Bool) (without : ℤ) (turn leave : ℕ) (more : Bool) (now : Kept R) → Done Means m (turned at counter reversed without) (Ok more) now
        → Done Means m (words_changed rows (does.Next at counter reversed without turn leave)) (Ok (if more then turn else leave)) now
    turn_goes at counter reversed without turn leave more now is =
        done_of (turned at counter reversed without) (turns turn leave) more (if more then turn else leave) now (λ s. refl) is

pub ruleset words_rules = (
  put_first,
  put_goes,
  put_stops,
  pointer_first,
  pointer_goes,
  pointer_stops,
  store_first,
  store_goes,
  store_stops,
  test_first,
  test_leads,
  choose_first,
  choose_leads,
  start_first,
  start_goes,
  start_stops,
  turn_first,
  turn_goes,
)
