-- What is read where a value is made.
use Rattle.std.proofs.Common.{◌≡◌, ◌≢◌, refl, sym, ap, ◌∙◌, subst, false, List, ◌++◌, ℤ, Result, Ok, Err}
use Rattle.std.specs.Prelude.{OnOk, OnErr, IsErrOf}
use Rattle.slot_heap.specs.Heaps.{Heap}
use Rattle.code_rows.specs.declared.stop.Stop.{Stop}
use Rattle.code_rows.specs.declared.stop.Stop.TheVariants as stop
use Rattle.code_rows.specs.Stops.{stop_of}
use Rattle.run_codes.specs.Flat as flat
use Rattle.run_codes.specs.Flat.{Got, Given, Stops, Broken, and_then, is_broken}
use Rattle.handled_runs.specs.Slots.{Slots}
use Rattle.handled_runs.specs.Values.{Outcome, Gives, Ends, Fails, reads}
use Rattle.slot_memory.specs.Memory.{Kept, Ghosts, Stands, Shows, slots}
use Rattle.slot_memory.specs.Answers.{Appends}
use Rattle.slot_hand.specs.Outcomes.{Answers, IsEnded}
use Rattle.type_definitions.specs.Types.{Table}
use Rattle.run_codes.specs.Codes.{Fill}
use Rattle.slot_values.specs.Fillings.{Filled}

pub error_is : {U : Type 0} (s e : Stop) → ◌≡◌ {A = Result U Stop} (Err s) (Err e) → s ≡ e
error_is s e is = cc

-- the same answer
pub filled_by : {R U : Type 0} (Means : R → Heap → Type 0) (before : Kept R) (table : Table) (v : Fill) (r q : Result U Stop) (old new : List ℤ) (now : Kept R) → r ≡ q
    → Filled Means before table v q old new now → Filled Means before table v r old new now
filled_by Means before table v r q old new now same is = subst (λ (x : Result _ Stop). Filled Means before table v x old new now) (sym same) is

-- a memory shows the slots that it stands for
pub shown_here : {R : Type 0} (Means : R → Heap → Type 0) (m : Kept R) (g : Ghosts) → Stands Means m g → Shows Means m (slots m g)
shown_here Means m g stands = (stands, refl)

-- ---- what isn't broken

pub first_read : {A : Type 0} (s : Slots) (got : Got A) (f : A → Outcome) → (Fails ≡ reads s got f → ⊥) → is_broken got ≡ false
first_read s (Given a) f safe = refl
first_read s (Stops x) f safe = refl
first_read s Broken f safe = absurd (safe refl)

pub then_read : {A : Type 0} (s : Slots) (got : Got A) (f : A → Outcome) (a : A) → got ≡ Given a → (Fails ≡ reads s got f → ⊥) → Fails ≡ f a → ⊥
then_read s got f a e safe fails = safe (fails ∙ ap (λ (x : Got _). reads s x f) (sym e))

pub whole_of : {A B : Type 0} (a : Got A) (f : A → Got B) → is_broken (and_then a f) ≡ false → is_broken a ≡ false
whole_of (Given x) f is = refl
whole_of (Stops s) f is = refl
whole_of Broken f is = is

-- ---- what is answered

-- it stops before anything changes
pub stops_here : {R : Type 0} (Means : R → Heap → Type 0) (P : Outcome → Type 0) (m : Kept R) (g : Ghosts) (x : Stop) → Stands Means m g
    → (x ≢ stop.Memory → P (Ends (stop_of x) (slots m g))) → (x ≢ stop.Memory → IsEnded Means P x m)
stops_here Means P m g x stands may = λ other. record { after = slots m g; may = may other; shows = shown_here Means m g stands }

pub gives_here : {R U : Type 0} (Means : R → Heap → Type 0) (P : Outcome → Type 0) (m : Kept R) (g : Ghosts) (zs old new : List ℤ) (r : Result U Stop) → Stands Means m g
    → P (Gives zs (slots m g)) → OnOk r (new ≡ old ++ zs) → OnErr r (IsErrOf r stop.Memory) → Answers Means P r old new m
gives_here Means P m g zs old new (Ok u) stands may pushed memory =
    record { words = zs; after = slots m g; may = may; appended = pushed; shows = shown_here Means m g stands }
gives_here Means P m g zs old new (Err s) stands may pushed memory = λ other. absurd (other (error_is s stop.Memory memory))

-- words are read and appended
appended_is : (zs old new : List ℤ) → and_then (Given zs) (λ us. Given (old ++ us)) ≡ Given new → new ≡ old ++ zs
appended_is zs old new is = cc

never_stops : (x : flat.Stop) (old new : List ℤ) → and_then (Stops x) (λ (us : List ℤ). Given (old ++ us)) ≡ Given new → ⊥
never_stops x old new is = cc

never_broken : (old new : List ℤ) → and_then Broken (λ (us : List ℤ). Given (old ++ us)) ≡ Given new → ⊥
never_broken old new is = cc

stop_is : (x y : flat.Stop) → ◌≡◌ {A = Got (List ℤ)} (Stops x) (Stops y) → x ≡ y
stop_is x y is = cc

pub words_of : (got : Got (List ℤ)) (old new : List ℤ) → and_then got (λ zs. Given (old ++ zs)) ≡ Given new → (zs : List ℤ) × (got ≡ Given zs) × (new ≡ old ++ zs)
words_of (Given zs) old new is = (zs, refl, appended_is zs old new is)
words_of (Stops x) old new is = absurd (never_stops x old new is)
words_of Broken old new is = absurd (never_broken old new is)

pub reads_here : {R U : Type 0} (Means : R → Heap → Type 0) (P : Outcome → Type 0) (m : Kept R) (g : Ghosts) (got : Got (List ℤ)) (r : Result U Stop) (old new : List ℤ)
    → Stands Means m g → ((o : Outcome) → o ≡ reads (slots m g) got (λ zs. Gives zs (slots m g)) → P o) → Appends got r old new → Answers Means P r old new m
reads_here Means P m g got (Ok u) old new stands may is =
    let found = words_of got old new is in record {
      words = found.0;
      after = slots m g;
      may = may (Gives found.0 (slots m g)) (ap (λ x. reads (slots m g) x (λ zs. Gives zs (slots m g))) (sym found.1));
      appended = found.2;
      shows = shown_here Means m g stands;
    }
reads_here Means P m g got (Err x) old new stands may is =
    stops_here Means P m g x stands (λ other. may (Ends (stop_of x) (slots m g)) (ap (λ z. reads (slots m g) z (λ zs. Gives zs (slots m g))) (sym (is other))))
