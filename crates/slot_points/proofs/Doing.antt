-- What is read and done in steps.
use Rattle.std.proofs.Common.{◌≡◌, refl, sym, ap, ◌∙◌, subst, false, ℤ, Result, Ok, Err}
use Rattle.slot_heap.specs.Heaps.{Heap}
use Rattle.run_codes.specs.Codes.{Code, Place}
use Rattle.run_codes.specs.Flat.{Got, Given, Stops, and_then, is_broken, checked}
use Rattle.code_rows.specs.declared.stop.Stop.{Stop}
use Rattle.code_rows.specs.Stops.{stop_of, shown}
use Rattle.handled_runs.specs.Slots.{Slots, word, spot}
use Rattle.slot_memory.specs.Memory.{Kept, Ghosts, Stands, Knows, Changes, slots, ghosts_of}
use Rattle.slot_words.specs.Reading.{Reads, Gives, ReadsSpot}
use Rattle.slot_words.proofs.Wholes.{first_whole, next_whole, first_stops, next_gives}
use Rattle.slot_words.proofs.Never.{Never, given_of}
use Rattle.slot_points.specs.Changing.{Whole, Found, With, IsDone, Does, Done}

module _ {R : Type 0} (Means : R → Heap → Type 0) where
  -- ---- what is read first

  pub word_reads : (m : Kept R) (c : Code) → Whole Means m (λ s. word s c) → Reads Means m c
  word_reads m c is = record { ghosts = is.ghosts; stands = is.stands; whole = is.whole }

  pub word_found : (m : Kept R) (c : Code) (r : Result ℤ Stop) → Gives Means m c r → Found Means m (λ s. word s c) r
  word_found m c r is = record { found = is.gives }

  pub spot_reads : (m : Kept R) (p : Place) → Whole Means m (λ s. spot s p) → ReadsSpot Means m p
  spot_reads m p is = record { ghosts = is.ghosts; stands = is.stands; whole = is.whole }

  pub knows : {A : Type 0} (m : Kept R) (f : Slots → Got A) → Whole Means m f → Knows Means m (λ s. is_broken (f s) ≡ false)
  knows m f is = (is.ghosts, (is.stands, is.whole))

  pub known : {A : Type 0} (m : Kept R) (f : Slots → Got A) → Knows Means m (λ s. is_broken (f s) ≡ false) → Whole Means m f
  known m f (g, (stands, whole)) = record { ghosts = g; stands = stands; whole = whole }

  -- ---- in steps

  module _ {A B : Type 0} (m : Kept R) (a : Slots → Got A) (k : Slots → A → Got B) where
    pub first : Whole Means m (λ s. and_then (a s) (k s)) → Whole Means m a
    first is = record { ghosts = is.ghosts; stands = is.stands; whole = first_whole (a (slots m is.ghosts)) (k (slots m is.ghosts)) is.whole }

    -- what is known of the first step in each of the slots
    pub next_of : {v : A} → Whole Means m (λ s. and_then (a s) (k s)) → ((g : Ghosts) → Stands Means m g → is_broken (a (slots m g)) ≡ false → a (slots m g) ≡ Given v)
        → Whole Means m (λ s. k s v)
    next_of {v} is found = record {
      ghosts = is.ghosts;
      stands = is.stands;
      whole = next_whole (a (slots m is.ghosts)) (k (slots m is.ghosts)) v (found is.ghosts is.stands) is.whole;
    }

    pub next : (v : A) → Whole Means m (λ s. and_then (a s) (k s)) → Found Means m a (Ok v) → Whole Means m (λ s. k s v)
    next v is found = next_of is found.found

    pub found_stops : (e : Stop) → Found Means m a (Err e) → Found Means m (λ s. and_then (a s) (k s)) (Err e)
    found_stops e is = record { found = λ g stands whole. first_stops (a (slots m g)) (k (slots m g)) (stop_of e) (is.found g stands) whole }

    pub found_next : (v : A) (r : Result B Stop) → Found Means m a (Ok v) → Found Means m (λ s. k s v) r → Found Means m (λ s. and_then (a s) (k s)) r
    found_next v r is then_is = record { found = λ g stands whole. next_gives (a (slots m g)) (k (slots m g)) v (shown r) (is.found g stands) (then_is.found g stands) whole }

  module _ {A B : Type 0} (m : Kept R) (a : Slots → Got A) (k : Slots → A → Got (With B)) where
    pub stops_of : (e : Stop) → ((g : Ghosts) → Stands Means m g → is_broken (a (slots m g)) ≡ false → a (slots m g) ≡ Stops (stop_of e))
        → Done {A = B} Means m (λ s. and_then (a s) (k s)) (Err e) m
    stops_of e found = record {
      done = λ g stands whole no. record { stops = first_stops (a (slots m g)) (k (slots m g)) (stop_of e) (found g stands) whole; same = refl };
    }

    pub stops : (e : Stop) → Found Means m a (Err e) → Done {A = B} Means m (λ s. and_then (a s) (k s)) (Err e) m
    stops e found = stops_of e found.found

    pub done_of : {v : A} (r : Result B Stop) (n : Kept R) → ((g : Ghosts) → Stands Means m g → is_broken (a (slots m g)) ≡ false → a (slots m g) ≡ Given v)
        → Done Means m (λ s. k s v) r n → Done Means m (λ s. and_then (a s) (k s)) r n
    done_of {v} r n found done = record {
      done = λ g stands whole.
          let s : Slots = slots m g in
          let e : a s ≡ Given v = found g stands (first_whole (a s) (k s) whole) in
          subst (λ got. Does Means m got r n) (sym (ap (λ (x : Got A). and_then x (k s)) e)) (done.done g stands (next_whole (a s) (k s) v (λ x. e) whole));
    }

    pub done_next : (v : A) (r : Result B Stop) (n : Kept R) → Found Means m a (Ok v) → Done Means m (λ s. k s v) r n → Done Means m (λ s. and_then (a s) (k s)) r n
    done_next v r n found done = done_of r n found.found done

  -- ---- a value within bounds

  module _ (m : Kept R) (c : Code) (low high : ℤ) where
    abbrev pub within : Slots → Got ℤ
    within s = and_then (word s c) (checked low high)

    pub bounded : (w : ℤ) (r : Result ℤ Stop) → Gives Means m c (Ok w) → checked low high w ≡ shown r → Found Means m within r
    bounded w r gives e = record {
      found = λ g stands whole. next_gives (word (slots m g) c) (checked low high) w (shown r) (gives.gives g stands) (λ there. e) whole;
    }

    pub bounded_stops : (e : Stop) → Gives Means m c (Err e) → Found Means m within (Err e)
    bounded_stops e gives = record { found = λ g stands whole. first_stops (word (slots m g) c) (checked low high) (stop_of e) (gives.gives g stands) whole }

  -- ---- a change that never stops

  module _ {B : Type 0} (m n : Kept R) (h : Slots → Got Slots) (k : Slots → Slots → Got (With B)) (never : (s : Slots) → Never (h s)) where
    pub changed_done : (b : B) → Changes Means m h n → ((s t : Slots) → k s t ≡ Given (record { memory = t; answer = b })) → Done Means m (λ s. and_then (h s) (k s)) (Ok b) n
    changed_done b changes same = record {
      done = λ g stands whole.
          let s : Slots = slots m g in
          let t = given_of (h s) (never s) (first_whole (h s) (k s) whole) in
          record { after = t.0; is = ap (λ (x : Got Slots). and_then x (k s)) t.1 ∙ same s t.0; shows = changes g stands t.0 t.1 };
    }

  -- ---- a change and what comes then

  module _ {B : Type 0} (m n k : Kept R) (h : Slots → Got Slots) (f : Slots → Got (With B)) (never : (s : Slots) → Never (h s)) where
    pub then_whole : Whole Means m (λ s. and_then (h s) f) → Changes Means m h n → Whole Means n f
    then_whole is changes =
        let s : Slots = slots m is.ghosts in
        let t = given_of (h s) (never s) (first_whole (h s) f is.whole) in
        let shows = changes is.ghosts is.stands t.0 t.1 in record {
          ghosts = ghosts_of t.0;
          stands = shows.0;
          whole = subst (λ x. is_broken (f x) ≡ false) (sym shows.1) (next_whole (h s) f t.0 (λ x. t.1) is.whole);
        }

    pub then_done : (b : B) → Changes Means m h n → Done Means n f (Ok b) k → Done Means m (λ s. and_then (h s) f) (Ok b) k
    then_done b changes done = record {
      done = λ g stands whole.
          let s : Slots = slots m g in
          let t = given_of (h s) (never s) (first_whole (h s) f whole) in
          let shows = changes g stands t.0 t.1 in
          let next : is_broken (f t.0) ≡ false = next_whole (h s) f t.0 (λ x. t.1) whole in
          let d : IsDone Means (f (slots n (ghosts_of t.0))) b k = done.done (ghosts_of t.0) shows.0 (subst (λ x. is_broken (f x) ≡ false) (sym shows.1) next) in
          let e : IsDone Means (f t.0) b k = subst (λ x. IsDone Means (f x) b k) shows.1 d in
          record { after = e.after; is = ap (λ (x : Got Slots). and_then x f) t.1 ∙ e.is; shows = e.shows };
    }
