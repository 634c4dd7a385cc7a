-- The first fault is at an event that breaks a rule, and no event before it does.
use Rattle.std.proofs.Common.{◌≡◌, refl, ap, sym, ◌∙◌, true≢false, List, [], ◌∷◌, ◌++◌, Option, None, Some, is_some}
use Rattle.name_events.specs.declared.event.Event.{Event}
use Rattle.name_events.specs.Declarations.{or_else}
use Rattle.name_events.specs.Known.{Known}
use Rattle.name_events.specs.KnownBehind.{known_behind, known_behind_all}
use Rattle.name_events.specs.Faults.{Fault, fault, first_fault}
use Rattle.name_events.specs.Laws.{IsFirstFault, BreaksNothing}

-- The head of a list, and what follows it.
same_head : {A : Type 0} (x y : A) (xs ys : List A) → (x ∷ xs) ≡ (y ∷ ys) → x ≡ y
same_head x y xs ys e = cc e

same_tail : {A : Type 0} (x y : A) (xs ys : List A) → (x ∷ xs) ≡ (y ∷ ys) → xs ≡ ys
same_tail x y xs ys e = cc e

pub breaks_nothing : (whole now : Known) (events : List Event) → first_fault whole now events ≡ None → BreaksNothing whole now events
unfolding first_fault
breaks_nothing whole now [] e [] event rest splits = absurd (cc splits)
breaks_nothing whole now [] e (x ∷ front) event rest splits = absurd (cc splits)
breaks_nothing whole now (first ∷ events) e front event rest splits =
    by (fault whole now first) refl e (breaks_nothing whole (known_behind now first) events) front splits
  where
    by : (o : Option Fault) → fault whole now first ≡ o → or_else o (first_fault whole (known_behind now first) events) ≡ None
        → (first_fault whole (known_behind now first) events ≡ None → BreaksNothing whole (known_behind now first) events)
        → (front : List Event) → (first ∷ events) ≡ front ++ event ∷ rest → fault whole (known_behind_all now front) event ≡ None
    by (Some f) is e others front splits = absurd (true≢false (ap is_some e))
    by None is e others [] splits = ap (fault whole now) (sym (same_head first event events rest splits)) ∙ is
    by None is e others (x ∷ front) splits =
        rw (sym (same_head first x events (front ++ event ∷ rest) splits))
        (others e front event rest (same_tail first x events (front ++ event ∷ rest) splits))

pub is_first_fault : (whole now : Known) (events : List Event) (found : Fault) → first_fault whole now events ≡ Some found
    → IsFirstFault whole now events found
unfolding first_fault
is_first_fault whole now [] found e = absurd (true≢false (sym (ap is_some e)))
is_first_fault whole now (first ∷ events) found e =
    by (fault whole now first) refl e (is_first_fault whole (known_behind now first) events found)
  where
    none_in : (events : List Event) (front : List Event) (x : Event) (rest : List Event) → events ≡ [] → events ≡ front ++ x ∷ rest → ⊥
    none_in events [] x rest e s = cc (e, s)
    none_in events (y ∷ front) x rest e s = cc (e, s)

    earlier : (before : List Event) → fault whole now first ≡ None
        → ((front : List Event) (x : Event) (rest : List Event) → before ≡ front ++ x ∷ rest
        → fault whole (known_behind_all (known_behind now first) front) x ≡ None)
        → (front : List Event) (x : Event) (rest : List Event) → (first ∷ before) ≡ front ++ x ∷ rest
        → fault whole (known_behind_all now front) x ≡ None
    earlier before is none [] x rest s = ap (fault whole now) (sym (same_head first x before rest s)) ∙ is
    earlier before is none (y ∷ front) x rest s =
        rw (sym (same_head first y before (front ++ x ∷ rest) s)) (none front x rest (same_tail first y before (front ++ x ∷ rest) s))

    by : (o : Option Fault) → fault whole now first ≡ o → or_else o (first_fault whole (known_behind now first) events) ≡ Some found
        → (first_fault whole (known_behind now first) events ≡ Some found → IsFirstFault whole (known_behind now first) events found)
        → IsFirstFault whole now (first ∷ events) found
    by (Some f) is e others = record {
      before = [];
      event = first;
      behind = events;
      splits = refl;
      breaks = is ∙ e;
      none_before = λ front x rest s. absurd (none_in [] front x rest refl s);
    }
    by None is e others =
        let rest = others e in
        record {
          before = first ∷ rest.before;
          event = rest.event;
          behind = rest.behind;
          splits = ap (λ es. first ∷ es) rest.splits;
          breaks = rest.breaks;
          none_before = earlier rest.before is rest.none_before;
        }
