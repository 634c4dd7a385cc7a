-- Values that are made of values.
use Rattle.std.proofs.Common.{◌≡◌, ◌≢◌, refl, sym, ap, ◌∙◌, subst, ℕ, ◌≤◌, arith, List, ◌++◌, length, [], take, drop, ℤ, Result, Ok, Err, append_assoc, append-nil}
use Rattle.std.specs.Prelude.{OnOk, OnErr, IsErrOf}
use Rattle.std.proofs.lemmas.List.{take_at, drop_at, length-append}
use Rattle.type_definitions.specs.Types.{Table}
use Rattle.slot_heap.specs.Heaps.{Heap}
use Rattle.code_rows.specs.declared.stop.Stop.{Stop}
use Rattle.code_rows.specs.declared.stop.Stop.TheVariants as stop
use Rattle.code_rows.specs.Stops.{stop_of}
use Rattle.run_codes.specs.Codes.{Fill, New, Repeated, Both}
use Rattle.run_codes.specs.Flat.{kinds, repeated}
use Rattle.handled_runs.specs.Slots.{Slots}
use Rattle.handled_runs.specs.Values as values
use Rattle.handled_runs.specs.Values.{Outcome, Gives, Ends, Fails, Fills, Then}
use Rattle.slot_memory.specs.Memory.{Kept, Ghosts, Stands, Shows, slots, ghosts_of}
use Rattle.slot_hand.specs.Outcomes.{Answers, IsGiven, IsEnded, Makeable, Made}
use Rattle.slot_values.specs.Fillings.{Fillable, Filled}
use Rattle.slot_values.proofs.Reading.{error_is, shown_here}

-- ---- a value, and what comes after it

module _ {R : Type 0} (Means : R → Heap → Type 0) (m : Kept R) (table : Table) (v : Fill) where
  abbrev After : (List ℤ → Slots → Outcome → Type 0) → Slots → Outcome → Type 0
  After P s r = (g : Outcome) × Fills table v s g × Then g (λ zs t. P zs t r) r

  after_fails : (P : List ℤ → Slots → Outcome → Type 0) (s : Slots) → (After P s Fails → ⊥) → Fills table v s Fails → ⊥
  after_fails P s safe fails = safe (Fails, fails, refl)

  after_ends : (P : List ℤ → Slots → Outcome → Type 0) (s t : Slots) (x : Stop) → Fills table v s (Ends (stop_of x) t) → After P s (Ends (stop_of x) t)
  after_ends P s t x is = (Ends (stop_of x) t, is, refl)

  -- it stops, and so does what is made of it
  pub stops_first : {U : Type 0} (P : List ℤ → Slots → Outcome → Type 0) (Q : Slots → Outcome → Type 0) → ((s : Slots) (o : Outcome) → After P s o → Q s o)
      → (x : Stop) (old now : List ℤ) (n : Kept R) → Filled {U = U} Means m table v (Err x) old now n
      → (g : Ghosts) → Stands Means m g → (Q (slots m g) Fails → ⊥) → (x ≢ stop.Memory → IsEnded Means (Q (slots m g)) x n)
  stops_first P Q is x old now n first g stands safe = λ other.
      let ended = first.filled g stands (after_fails P (slots m g) (λ fails. safe (is (slots m g) Fails fails))) other in
      record { after = ended.after; may = is (slots m g) _ (after_ends P (slots m g) ended.after x ended.may); shows = ended.shows }

  -- it is given
  pub given_first : {U : Type 0} (P : List ℤ → Slots → Outcome → Type 0) (Q : Slots → Outcome → Type 0) → ((s : Slots) (o : Outcome) → After P s o → Q s o)
      → (u : U) (old now : List ℤ) (n : Kept R) → Filled Means m table v (Ok u) old now n → (g : Ghosts) → Stands Means m g → (Q (slots m g) Fails → ⊥)
      → IsGiven Means (Fills table v (slots m g)) old now n
  given_first P Q is u old now n first g stands safe = first.filled g stands (after_fails P (slots m g) (λ fails. safe (is (slots m g) Fails fails)))

  pub next_fails : (P : List ℤ → Slots → Outcome → Type 0) (Q : Slots → Outcome → Type 0) → ((s : Slots) (o : Outcome) → After P s o → Q s o)
      → (s t : Slots) (zs : List ℤ) → Fills table v s (Gives zs t) → (Q s Fails → ⊥) → P zs t Fails → ⊥
  next_fails P Q is s t zs given safe fails = safe (is s Fails (Gives zs t, given, fails))

-- ---- a new cell

module _ {R : Type 0} (Means : R → Heap → Type 0) (m : Kept R) (table : Table) (v : Fill) (of : ℕ) where
  abbrev cell : List ℤ → Slots → Outcome → Type 0
  cell zs t r = values.Makes t (kinds table of) zs r

  new_is : (s : Slots) (o : Outcome) → After Means m table v cell s o → Fills table (New v of) s o
  unfolding Fills
  new_is s o is = is

  pub new_first : Fillable Means m table (New v of) → Fillable Means m table v
  new_first is = record {
    ghosts = is.ghosts;
    stands = is.stands;
    whole = after_fails Means m table v cell (slots m is.ghosts) (λ fails. is.whole (new_is (slots m is.ghosts) Fails fails));
  }

  pub new_stops : {U V : Type 0} (x : Stop) (old now new : List ℤ) (n : Kept R) → Filled {U = U} Means m table v (Err x) old now n
      → Filled {U = V} Means m table (New v of) (Err x) old new n
  new_stops x old now new n first = record {
    filled = λ g stands safe. stops_first Means m table v cell (Fills table (New v of)) new_is x old now n first g stands safe;
  }

  -- the words of the cell begin where others end
  pub new_longer : {U : Type 0} (u : U) (old now : List ℤ) (n : Kept R) (k : ℕ) → k ≡ length old → Fillable Means m table (New v of) → Filled Means m table v (Ok u) old now n
      → k ≤ length now
  new_longer u old now n k from is first =
      let given = given_first Means m table v cell (Fills table (New v of)) new_is u old now n first is.ghosts is.stands is.whole in
      omega (arith, from, ap length given.appended, length-append old given.words)

  pub new_room : {U : Type 0} (u : U) (old now : List ℤ) (n : Kept R) (k : ℕ) → k ≡ length old → Fillable Means m table (New v of) → Filled Means m table v (Ok u) old now n
      → Makeable Means n (kinds table of) (drop k now)
  new_room u old now n k from is first =
      let given = given_first Means m table v cell (Fills table (New v of)) new_is u old now n first is.ghosts is.stands is.whole in
      let words : given.words ≡ drop k now = sym (ap (drop k) given.appended ∙ ap (λ i. drop i (old ++ given.words)) from ∙ drop_at old given.words (length old) refl) in record {
        ghosts = ghosts_of given.after;
        stands = given.shows.0;
        whole = λ fails. next_fails Means m table v cell (Fills table (New v of)) new_is (slots m is.ghosts) given.after given.words given.may is.whole
            (subst (λ t. values.Makes t (kinds table of) given.words Fails) given.shows.1 (subst (λ zs. values.Makes (slots n (ghosts_of given.after)) (kinds table of) zs Fails) (sym words) fails));
      }

  pub new_makes : {U V : Type 0} (u : U) (r : Result V Stop) (old now new : List ℤ) (n after : Kept R) (k : ℕ) → k ≡ length old
      → Filled Means m table v (Ok u) old now n → Made Means n (kinds table of) (drop k now) r (take k now) new after
      → Filled Means m table (New v of) r old new after
  new_makes u r old now new n after k from first made = record { filled = by r made }
    where
      by : {V : Type 0} (r : Result V Stop) → Made Means n (kinds table of) (drop k now) r (take k now) new after → (g : Ghosts) → Stands Means m g
          → (Fills table (New v of) (slots m g) Fails → ⊥) → Answers Means (Fills table (New v of) (slots m g)) r old new after
      by r made g stands safe =
          let given = given_first Means m table v cell (Fills table (New v of)) new_is u old now n first g stands safe in
          let front : take k now ≡ old = ap (take k) given.appended ∙ ap (λ i. take i (old ++ given.words)) from ∙ take_at old given.words (length old) refl in
          let words : drop k now ≡ given.words = ap (drop k) given.appended ∙ ap (λ i. drop i (old ++ given.words)) from ∙ drop_at old given.words (length old) refl in
          told r given front words
          (made.made (ghosts_of given.after) given.shows.0
          (λ fails. next_fails Means m table v cell (Fills table (New v of)) new_is (slots m g) given.after given.words given.may safe
          (subst (λ t. values.Makes t (kinds table of) given.words Fails) given.shows.1 (subst (λ zs. values.Makes (slots n (ghosts_of given.after)) (kinds table of) zs Fails) words fails))))
        where
          told : {V : Type 0} (r : Result V Stop) (given : IsGiven Means (Fills table v (slots m g)) old now n) → take k now ≡ old → drop k now ≡ given.words
              → Answers Means (values.Makes (slots n (ghosts_of given.after)) (kinds table of) (drop k now)) r (take k now) new after
              → Answers Means (Fills table (New v of) (slots m g)) r old new after
          told (Ok w) given front words is = record {
            words = is.words;
            after = is.after;
            may = new_is (slots m g) _ (
              Gives given.words given.after,
              given.may,
              subst (λ t. values.Makes t (kinds table of) given.words (Gives is.words is.after)) given.shows.1
                  (subst (λ zs. values.Makes (slots n (ghosts_of given.after)) (kinds table of) zs (Gives is.words is.after)) words is.may),
            );
            appended = is.appended ∙ ap (λ zs. zs ++ is.words) front;
            shows = is.shows;
          }
          told (Err x) given front words is = λ other.
              let ended = is other in record {
                after = ended.after;
                may = new_is (slots m g) _ (
                  Gives given.words given.after,
                  given.may,
                  subst (λ t. values.Makes t (kinds table of) given.words (Ends (stop_of x) ended.after)) given.shows.1
                      (subst (λ zs. values.Makes (slots n (ghosts_of given.after)) (kinds table of) zs (Ends (stop_of x) ended.after)) words ended.may),
                );
                shows = ended.shows;
              }

pub ruleset new_rules = (new_first, new_stops, new_longer, new_room, new_makes)

-- ---- so many times

module _ {R : Type 0} (Means : R → Heap → Type 0) (m : Kept R) (table : Table) (v : Fill) (count : ℕ) where
  abbrev times : List ℤ → Slots → Outcome → Type 0
  times zs t r = r ≡ Gives (repeated count zs) t

  repeated_is : (s : Slots) (o : Outcome) → After Means m table v times s o → Fills table (Repeated v count) s o
  unfolding Fills
  repeated_is s o is = is

  pub repeated_first : Fillable Means m table (Repeated v count) → Fillable Means m table v
  repeated_first is = record {
    ghosts = is.ghosts;
    stands = is.stands;
    whole = after_fails Means m table v times (slots m is.ghosts) (λ fails. is.whole (repeated_is (slots m is.ghosts) Fails fails));
  }

  pub repeated_stops : {U V : Type 0} (x : Stop) (old now new : List ℤ) (n : Kept R) → Filled {U = U} Means m table v (Err x) old now n
      → Filled {U = V} Means m table (Repeated v count) (Err x) old new n
  repeated_stops x old now new n first = record {
    filled = λ g stands safe. stops_first Means m table v times (Fills table (Repeated v count)) repeated_is x old now n first g stands safe;
  }

  pub repeated_longer : {U : Type 0} (u : U) (old now : List ℤ) (n : Kept R) (k : ℕ) → k ≡ length old → Fillable Means m table (Repeated v count)
      → Filled Means m table v (Ok u) old now n → k ≤ length now
  repeated_longer u old now n k from is first =
      let given = given_first Means m table v times (Fills table (Repeated v count)) repeated_is u old now n first is.ghosts is.stands is.whole in
      omega (arith, from, ap length given.appended, length-append old given.words)

  pub repeated_makes : {U V : Type 0} (u : U) (r : Result V Stop) (old now new : List ℤ) (n : Kept R) (k : ℕ) → k ≡ length old → Filled Means m table v (Ok u) old now n
      → OnOk r (new ≡ take k now ++ repeated count (drop k now)) → OnErr r (IsErrOf r stop.Memory) → Filled Means m table (Repeated v count) r old new n
  repeated_makes u (Ok w) old now new n k from first pushed memory = record {
    filled = λ g stands safe.
        let given = given_first Means m table v times (Fills table (Repeated v count)) repeated_is u old now n first g stands safe in
        let front : take k now ≡ old = ap (take k) given.appended ∙ ap (λ i. take i (old ++ given.words)) from ∙ take_at old given.words (length old) refl in
        let words : drop k now ≡ given.words = ap (drop k) given.appended ∙ ap (λ i. drop i (old ++ given.words)) from ∙ drop_at old given.words (length old) refl in record {
          words = repeated count given.words;
          after = given.after;
          may = repeated_is (slots m g) _ (Gives given.words given.after, given.may, refl);
          appended = pushed ∙ ap (λ zs. zs ++ repeated count (drop k now)) front ∙ ap (λ zs. old ++ repeated count zs) words;
          shows = given.shows;
        };
  }
  repeated_makes u (Err s) old now new n k from first pushed memory = record { filled = λ g stands safe other. absurd (other (error_is s stop.Memory memory)) }

pub ruleset repeated_rules = (repeated_first, repeated_stops, repeated_longer, repeated_makes)

-- ---- one after the other

abbrev pub after_words : List ℤ → Outcome → Outcome
after_words zs (Gives us t) = Gives (zs ++ us) t
after_words zs (Ends x t) = Ends x t
after_words zs Fails = Fails

-- What a value gives is what another one gives over a later memory, after words that came meanwhile.
pub record Follows {R : Type 0} (Means : R → Heap → Type 0) (m : Kept R) (table : Table) (v : Fill) (old : List ℤ) (w : Fill) (n : Kept R) (now : List ℤ) : Type 0 where
  pub follows : (g : Ghosts) → Stands Means m g → (Fills table v (slots m g) Fails → ⊥)
      → (zs : List ℤ) × (t : Slots) × Shows Means n t × (now ≡ old ++ zs) × ((o : Outcome) → Fills table w t o → Fills table v (slots m g) (after_words zs o))

module _ {R : Type 0} (Means : R → Heap → Type 0) (m : Kept R) (table : Table) (v : Fill) (old : List ℤ) where
  -- nothing came before it
  pub follows_itself : Follows Means m table v old v m old
  follows_itself = record {
    follows = λ g stands safe. ([], slots m g, shown_here Means m g stands, sym (append-nil old), λ o is. subst (Fills table v (slots m g)) (sym (none o)) is);
  }
    where
      none : (o : Outcome) → after_words [] o ≡ o
      none (Gives zs t) = refl
      none (Ends x t) = refl
      none Fails = refl

module _ {R : Type 0} (Means : R → Heap → Type 0) (m : Kept R) (table : Table) (v : Fill) (old : List ℤ) (w : Fill) (n : Kept R) (now : List ℤ) where
  -- what is made next
  pub follows_makes : {U : Type 0} (r : Result U Stop) (new : List ℤ) (k : Kept R) → Follows Means m table v old w n now → Filled Means n table w r now new k
      → Filled Means m table v r old new k
  follows_makes r new k is next = record { filled = by r next }
    where
      by : {U : Type 0} (r : Result U Stop) → Filled Means n table w r now new k → (g : Ghosts) → Stands Means m g → (Fills table v (slots m g) Fails → ⊥)
          → Answers Means (Fills table v (slots m g)) r old new k
      by r next g stands safe =
          let (zs, t, shows, appended, on) = is.follows g stands safe in
          told r zs appended
          (λ o may. on o (subst (λ s. Fills table w s o) shows.1 may))
          (next.filled (ghosts_of t) shows.0 (λ fails. safe (on Fails (subst (λ s. Fills table w s Fails) shows.1 fails))))
        where
          told : {U : Type 0} {P : Outcome → Type 0} (r : Result U Stop) (zs : List ℤ) → now ≡ old ++ zs → ((o : Outcome) → P o → Fills table v (slots m g) (after_words zs o))
              → Answers Means P r now new k → Answers Means (Fills table v (slots m g)) r old new k
          told (Ok u) zs appended on is = record {
            words = zs ++ is.words;
            after = is.after;
            may = on (Gives is.words is.after) is.may;
            appended = is.appended ∙ ap (λ xs. xs ++ is.words) appended ∙ append_assoc old zs is.words;
            shows = is.shows;
          }
          told (Err x) zs appended on is = λ other. (let ended = is other in record { after = ended.after; may = on (Ends (stop_of x) ended.after) ended.may; shows = ended.shows })

module _ {R : Type 0} (Means : R → Heap → Type 0) (m : Kept R) (table : Table) (a b : Fill) where
  abbrev second : List ℤ → Slots → Outcome → Type 0
  second zs t r = (q : Outcome) × Fills table b t q × Then q (λ us u. r ≡ Gives (zs ++ us) u) r

  both_is : (s : Slots) (o : Outcome) → After Means m table a second s o → Fills table (Both a b) s o
  unfolding Fills
  both_is s o is = is

  second_is : (zs : List ℤ) (t : Slots) (o : Outcome) → Fills table b t o → second zs t (after_words zs o)
  second_is zs t (Gives us u) is = (Gives us u, is, refl)
  second_is zs t (Ends x u) is = (Ends x u, is, refl)
  second_is zs t Fails is = (Fails, is, refl)

  pub both_first : Fillable Means m table (Both a b) → Fillable Means m table a
  both_first is = record {
    ghosts = is.ghosts;
    stands = is.stands;
    whole = after_fails Means m table a second (slots m is.ghosts) (λ fails. is.whole (both_is (slots m is.ghosts) Fails fails));
  }

  pub both_stops : {U V : Type 0} (x : Stop) (old now new : List ℤ) (n : Kept R) → Filled {U = U} Means m table a (Err x) old now n
      → Filled {U = V} Means m table (Both a b) (Err x) old new n
  both_stops x old now new n first = record {
    filled = λ g stands safe. stops_first Means m table a second (Fills table (Both a b)) both_is x old now n first g stands safe;
  }

  pub both_follows : {U : Type 0} (u : U) (old now : List ℤ) (n : Kept R) → Filled Means m table a (Ok u) old now n → Follows Means m table (Both a b) old b n now
  both_follows u old now n first = record {
    follows = λ g stands safe.
        let given = given_first Means m table a second (Fills table (Both a b)) both_is u old now n first g stands safe in (
          given.words,
          given.after,
          given.shows,
          given.appended,
          λ o is. both_is (slots m g) (after_words given.words o) (Gives given.words given.after, given.may, second_is given.words given.after o is),
        );
  }

  pub both_makes : {U V : Type 0} (u : U) (r : Result V Stop) (old now new : List ℤ) (n after : Kept R) → Filled Means m table a (Ok u) old now n
      → Filled Means n table b r now new after → Filled Means m table (Both a b) r old new after
  both_makes u r old now new n after first next =
      follows_makes Means m table (Both a b) old b n now r new after (both_follows u old now n first) next

  pub both_next : {U : Type 0} (u : U) (old now : List ℤ) (n : Kept R) → Fillable Means m table (Both a b) → Filled Means m table a (Ok u) old now n
      → Fillable Means n table b
  both_next u old now n is first =
      let given = given_first Means m table a second (Fills table (Both a b)) both_is u old now n first is.ghosts is.stands is.whole in record {
        ghosts = ghosts_of given.after;
        stands = given.shows.0;
        whole = λ fails. next_fails Means m table a second (Fills table (Both a b)) both_is (slots m is.ghosts) given.after given.words given.may is.whole
            (second_is given.words given.after Fails (subst (λ t. Fills table b t Fails) given.shows.1 fails));
      }

module _ {R : Type 0} (Means : R → Heap → Type 0) (m : Kept R) (table : Table) (v : Fill) (old : List ℤ) (a b : Fill) (n : Kept R) (now : List ℤ) where
  -- of two values the first one is made
  pub follows_on : {U : Type 0} (u : U) (next : List ℤ) (k : Kept R) → Follows Means m table v old (Both a b) n now → Filled Means n table a (Ok u) now next k
      → Follows Means m table v old b k next
  follows_on u next k is first = record {
    follows = λ g stands safe.
        let (zs, t, shows, appended, on) = is.follows g stands safe in
        let more = (both_follows Means n table a b u now next k first).follows (ghosts_of t) shows.0
        (λ fails. safe (on Fails (subst (λ s. Fills table (Both a b) s Fails) shows.1 fails))) in (
          zs ++ more.0,
          more.1,
          more.2,
          more.3 ∙ ap (λ xs. xs ++ more.0) appended ∙ append_assoc old zs more.0,
          λ o may. subst (Fills table v (slots m g)) (joined zs more.0 o) (on (after_words more.0 o) (subst (λ s. Fills table (Both a b) s (after_words more.0 o)) shows.1 (more.4 o may))),
        );
  }
    where
      joined : (zs us : List ℤ) (o : Outcome) → after_words zs (after_words us o) ≡ after_words (zs ++ us) o
      joined zs us (Gives xs t) = ap (λ l. Gives l t) (sym (append_assoc zs us xs))
      joined zs us (Ends x t) = refl
      joined zs us Fails = refl

  pub follows_stops : {U V : Type 0} (x : Stop) (next new : List ℤ) (k : Kept R) → Follows Means m table v old (Both a b) n now
      → Filled {U = U} Means n table a (Err x) now next k → Filled {U = V} Means m table v (Err x) old new k
  follows_stops x next new k is first =
      follows_makes Means m table v old (Both a b) n now (Err x) new k is (both_stops Means n table a b x now next new k first)

pub ruleset both_rules = (both_first, both_stops, both_next, both_makes)

pub ruleset list_rules = (follows_itself, follows_makes, follows_stops)
