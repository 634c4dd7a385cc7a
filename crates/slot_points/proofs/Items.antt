-- Items of the input.
use Rattle.std.proofs.Common.{◌≡◌, refl, sym, ap, ◌∙◌, subst, ℕ, Bool, true, false, List, [], ◌∷◌, ℤ, Result, Ok, Err, if◌then◌else◌}
use Rattle.run_values.specs.declared.value.Kind.TheVariants as sort
use Rattle.run_values.specs.declared.items.Item.{Item}
use Rattle.run_values.specs.declared.items.Item.TheVariants as item
use Rattle.run_values.specs.Items.{next_item}
use Rattle.machine.specs.Evaluate.{DataError, EndError}
use Rattle.slot_heap.specs.Heaps.{Heap}
use Rattle.run_codes.specs.Codes.{Place}
use Rattle.run_codes.specs.Flat.{Got, Given, Stops, Raises, Spot, and_then, constraint, is_broken, is_between}
use Rattle.code_rows.specs.declared.stop.Stop.{Stop}
use Rattle.code_rows.specs.Stops.{stop_of}
use Rattle.handled_runs.specs.Slots.{Slots, spot}
use Rattle.handled_runs.specs.Changes.{stored}
use Rattle.slot_memory.specs.declared.spot.Spot as declared
use Rattle.slot_memory.specs.Spots.{spot_of}
use Rattle.slot_memory.specs.Memory.{Kept, Knows, Changes, slots}
use Rattle.slot_words.specs.Reading.{ReadsSpot, GivesSpot}
use Rattle.slot_words.proofs.Never.{stored_never}
use Rattle.slot_points.specs.Changing.{Whole, With, Done}
use Rattle.slot_points.specs.Steps.{item_stored, item_at, item_read}
use Rattle.slot_points.proofs.Doing.{spot_reads, knows, first, next_of, stops_of, done_of, changed_done}

module _ {R : Type 0} (Means : R → Heap → Type 0) (m : Kept R) (low high : ℤ) (i : Item) (q : Spot) where
  always_stops : (e : Stop) → ((s : Slots) → item_at low high i q s ≡ Stops (stop_of e)) → Done Means m (item_at low high i q) (Err e) m
  always_stops e is = record { done = λ g stands whole no. record { stops = is (slots m g); same = refl } }

  pub missing_stops : (e : Stop) → i ≡ item.Missing → stop_of e ≡ Raises EndError → Done Means m (item_at low high i q) (Err e) m
  missing_stops e is same = always_stops e (λ s. ap (λ i. item_stored low high i s q) is ∙ ap Stops (sym same))

  pub bad_stops : (e : Stop) → i ≡ item.Bad → stop_of e ≡ Raises DataError → Done Means m (item_at low high i q) (Err e) m
  bad_stops e is same = always_stops e (λ s. ap (λ i. item_stored low high i s q) is ∙ ap Stops (sym same))

  module _ (v : ℤ) (end : ℕ) (is : i ≡ item.Number v end) where
    abbrev ends : Slots → Slots → Got (With ℕ)
    ends s t = Given (record { memory = t; answer = end })

    abbrev kept : Slots → Got (With ℕ)
    kept s = and_then (stored s q (sort.Int ∷ []) (v ∷ [])) (ends s)

    number_is : (b : Bool) → is_between low high v ≡ b → (s : Slots) → item_at low high i q s ≡ (if b then kept s else Stops constraint)
    number_is b e s = ap (λ i. item_stored low high i s q) is ∙ ap (λ b. if b then kept s else Stops constraint) e

    pub number_stops : (e : Stop) → is_between low high v ≡ false → stop_of e ≡ constraint → Done Means m (item_at low high i q) (Err e) m
    number_stops e out same = always_stops e (λ s. number_is false out s ∙ ap Stops (sym same))

    pub number_known : is_between low high v ≡ true → Whole Means m (item_at low high i q) → Knows Means m (λ s. is_broken (stored s q (sort.Int ∷ []) (v ∷ [])) ≡ false)
    number_known within whole =
        knows Means m (λ s. stored s q (sort.Int ∷ []) (v ∷ []))
        (first Means m (λ s. stored s q (sort.Int ∷ []) (v ∷ [])) ends (record {
          ghosts = whole.ghosts;
          stands = whole.stands;
          whole = subst (λ x. is_broken x ≡ false) (number_is true within (slots m whole.ghosts)) whole.whole;
        }))

    pub number_done : (n : Kept R) (a : ℕ) → is_between low high v ≡ true → Changes Means m (λ s. stored s q (sort.Int ∷ []) (v ∷ [])) n → a ≡ end
        → Done Means m (item_at low high i q) (Ok a) n
    number_done n a within changes same =
        let kept_done = changed_done Means m n (λ s. stored s q (sort.Int ∷ []) (v ∷ [])) ends (λ s. stored_never s q (sort.Int ∷ []) (v ∷ [])) end changes (λ s t. refl) in
        subst (λ a. Done Means m (item_at low high i q) (Ok a) n) (sym same) (record {
          done = λ g stands whole.
              let e = number_is true within (slots m g) in
              let d = kept_done.done g stands (subst (λ x. is_broken x ≡ false) e whole) in
              record { after = d.after; is = e ∙ d.is; shows = d.shows };
        })

module _ {R : Type 0} (Means : R → Heap → Type 0) (m : Kept R) (p : Place) (bytes : List ℕ) (at : ℕ) (low high : ℤ) where
  abbrev read_item : Slots → Spot → Got (With ℕ)
  read_item s q = item_stored low high (next_item bytes at) s q

  pub input_reads : Whole Means m (item_read p bytes at low high) → ReadsSpot Means m p
  input_reads is = spot_reads Means m p (first Means m (λ s. spot s p) read_item is)

  pub input_stops : (e : Stop) → GivesSpot Means m p (Err e) → Done Means m (item_read p bytes at low high) (Err e) m
  input_stops e gives = stops_of Means m (λ s. spot s p) read_item e gives.gives

  pub input_known : (q : declared.Spot) (i : Item) → Whole Means m (item_read p bytes at low high) → GivesSpot Means m p (Ok q) → i ≡ next_item bytes at
      → Whole Means m (item_at low high i (spot_of q))
  input_known q i is gives same =
      subst (λ i. Whole Means m (item_at low high i (spot_of q))) (sym same) (next_of Means m (λ s. spot s p) read_item is gives.gives)

  pub input_done : (q : declared.Spot) (i : Item) (r : Result ℕ Stop) (n : Kept R) → GivesSpot Means m p (Ok q) → Done Means m (item_at low high i (spot_of q)) r n
      → i ≡ next_item bytes at → Done Means m (item_read p bytes at low high) r n
  input_done q i r n gives done same =
      done_of Means m (λ s. spot s p) read_item r n gives.gives (subst (λ i. Done Means m (item_at low high i (spot_of q)) r n) same done)
