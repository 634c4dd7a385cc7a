-- The first occurrence that breaks a rule, and one event after the other.
use Rattle.std.proofs.Common.{◌≡◌, refl, ap, sym, ◌∙◌, ℕ, true, true≢false, if◌then◌else◌, List, [], ◌∷◌, ◌++◌, Option, None, Some, Result, Ok, Err, IsErr, IsErrAnd, subst, fold}
use Rattle.std.specs.List.{flat_map}
use Rattle.std.proofs.lemmas.List.{append_assoc, append-nil}
use Rattle.name_events.specs.declared.event.Event.{Event}
use Rattle.name_events.specs.declared.event.FoldedIdentifier.{FoldedIdentifier}
use Rattle.name_events.specs.declared.declaration.Declaration.{Declaration}
use Rattle.name_events.specs.declared.declaration.NameRule.{NameRule}
use Rattle.name_events.specs.declared.declaration.NameRule.TheVariants as rule
use Rattle.name_events.specs.declared.declaration.Meaning.TheVariants.{Denotes, Breaks}
use Rattle.name_events.specs.Declarations.{is_package, or_else}
use Rattle.name_events.specs.Known.{Known}
use Rattle.name_events.specs.KnownBehind.{known_behind}
use Rattle.name_events.specs.Denotes.{occurrences_from, selected_meaning, mentioned_at, mentioned_from}
use Rattle.name_events.specs.Identified.{identified_at, identified_from}
use Rattle.name_events.specs.Faults.{Fault, fault, first_fault, first_some, lacks_with, occurrence_fault}
use Rattle.name_resolve.specs.declared.found.Found.{Found}
use Rattle.name_resolve.specs.declared.knowledge.Knowledge.{Knowledge}
use Rattle.name_resolve.specs.declared.refusal.NameRefusal.{NameRefusal}
use Rattle.name_resolve.specs.declared.refusal.NameRefusal.TheVariants.{Unknown, Twice, NotVisible, TooEarly, NoBody, WrongEnd, Memory}
use Rattle.name_resolve.specs.Judges.{Judges, Says}
use Rattle.name_resolve.specs.Stands.{EachKnown, Stands}

pub occurrence_fails : (behind now : Known) (id : FoldedIdentifier) (r : NameRule) (rest : List FoldedIdentifier)
    → first_some (occurrence_fault now) (occurrences_from behind now id (Breaks r) rest) ≡ Some (r, id.pos)
occurrence_fails behind now id r [] = refl
occurrence_fails behind now id r (next ∷ rest) = refl

pub occurrence_lacks : (behind now : Known) (id : FoldedIdentifier) (d : Declaration) (rest : List FoldedIdentifier) → lacks_with now d ≡ true
    → first_some (occurrence_fault now) (occurrences_from behind now id (Denotes d) rest) ≡ Some (rule.NotVisible, id.pos)
occurrence_lacks behind now id d [] lacks = λ j. or_else (if lacks j then Some (rule.NotVisible, id.pos) else None) None
occurrence_lacks behind now id d (next ∷ rest) lacks =
    λ j. or_else (if lacks j then Some (rule.NotVisible, id.pos) else None)
    (first_some (occurrence_fault now) (if is_package d then occurrences_from behind now next (selected_meaning behind now d next.name) rest else []))

-- What is left to say of all events is what is left to say of the rest.
pub record Left (behind n : Known) (k : Knowledge) (events rest : List Event) (found : Found) : Type 0 where
  pub known : Known
  pub stands : Stands k known
  pub faults : first_fault behind n events ≡ first_fault behind known rest
  pub meanings : flat_map (λ ns. ns) (mentioned_from behind n events) ≡ found.denotes.items ++ flat_map (λ ns. ns) (mentioned_from behind known rest)
  pub items : identified_from behind n events ≡ found.identified.items ++ identified_from behind known rest

-- For all that may be known after the whole text.
abbrev pub ForEach : (Known → Type 0) → Knowledge → (Known → Known → Type 0) → Type 0
ForEach May k P = (behind now : Known) → May behind → Stands k now → P behind now

abbrev pub Goes : (Known → Type 0) → Knowledge → Knowledge → List Event → List Event → Found → Type 0
Goes May first k events rest found = ForEach May first (λ behind n. Left behind n k events rest found)

flat-append : (xs ys : List (List ℕ)) → flat_map (λ ns. ns) (xs ++ ys) ≡ flat_map (λ ns. ns) xs ++ flat_map (λ ns. ns) ys
flat-append [] ys = refl
flat-append (x ∷ xs) ys = ap (λ ns. x ++ ns) (flat-append xs ys) ∙ sym (append_assoc x (flat_map (λ ns. ns) xs) (flat_map (λ ns. ns) ys))

-- What may be known after the whole text may be less with each event.
pub goes_on : (Might May : Known → Type 0) (first k next : Knowledge) (events : List Event) (event : Event) (rest : List Event) (old new : Found)
    → ((behind : Known) → May behind → Might behind)
    → Goes Might first k events (event ∷ rest) old
    → ForEach May k (λ behind n. fault behind n event ≡ None)
    → ForEach May k (λ behind n. new.denotes.items ≡ old.denotes.items ++ flat_map (λ ns. ns) (mentioned_at behind n event))
    → ForEach May k (λ behind n. new.identified.items ≡ old.identified.items ++ identified_at behind n event)
    → ((now : Known) → Stands k now → Stands next (known_behind now event))
    → Goes May first next events rest new
unfolding first_fault mentioned_from identified_from
goes_on Might May first k next events event rest old new less goes right adds finds learns behind n sb sn =
    let left = goes behind n (less behind sb) sn in
    let after = known_behind left.known event in
    record {
      known = after;
      stands = learns left.known left.stands;
      faults = left.faults ∙ ap (λ o. or_else o (first_fault behind after rest)) (right behind left.known sb left.stands);
      meanings = left.meanings
          ∙ ap (λ ns. old.denotes.items ++ ns) (flat-append (mentioned_at behind left.known event) (mentioned_from behind after rest))
          ∙ sym (append_assoc old.denotes.items (flat_map (λ ns. ns) (mentioned_at behind left.known event)) (flat_map (λ ns. ns) (mentioned_from behind after rest)))
          ∙ ap (λ ns. ns ++ flat_map (λ ns. ns) (mentioned_from behind after rest)) (sym (adds behind left.known sb left.stands));
      items = left.items
          ∙ sym (append_assoc old.identified.items (identified_at behind left.known event) (identified_from behind after rest))
          ∙ ap (λ xs. xs ++ identified_from behind after rest) (sym (finds behind left.known sb left.stands));
    }

-- The first fault of the rest is that of all.
first_says : (r : NameRefusal) (found all : Option Fault) → Says r found → ((f : Fault) → found ≡ Some f → all ≡ Some f) → Says r all
first_says (Unknown p) found all is on = on _ is
first_says (Twice p) found all is on = on _ is
first_says (NotVisible p) found all is on = on _ is
first_says (TooEarly p) found all is on = on _ is
first_says (NoBody p) found all is on = on _ is
first_says (WrongEnd p) found all is on = on _ is
first_says Memory found all is on = tt

pub breaks_off : (whole first k : Knowledge) (events : List Event) (event : Event) (rest : List Event) (found : Found) (r : NameRefusal)
    → Goes (Stands whole) first k events (event ∷ rest) found
    → EachKnown whole k (λ behind n. Says r (fault behind n event))
    → EachKnown whole first (λ behind n. Says r (first_fault behind n events))
unfolding first_fault
breaks_off whole first k events event rest found r goes is behind n sb sn =
    let left = goes behind n sb sn in
    first_says r (fault behind left.known event) (first_fault behind n events) (is behind left.known sb left.stands)
    (λ f at. left.faults ∙ ap (λ o. or_else o (first_fault behind (known_behind left.known event) rest)) at)

pub goes_first : (May : Known → Type 0) (first : Knowledge) (events : List Event) (found : Found) → found.denotes.items ≡ [] → found.identified.items ≡ []
    → Goes May first first events events found
goes_first May first events found none nowhere behind n sb sn = record {
  known = n;
  stands = sn;
  faults = refl;
  meanings = ap (λ ns. ns ++ flat_map (λ ns. ns) (mentioned_from behind n events)) (sym none);
  items = ap (λ xs. xs ++ identified_from behind n events) (sym nowhere);
}

-- What is found after the last event is all.
pub record AllFound (behind n : Known) (events : List Event) (found : Found) : Type 0 where
  pub fault : first_fault behind n events ≡ None
  pub denotes : found.denotes.items ≡ flat_map (λ ns. ns) (mentioned_from behind n events)
  pub identified : found.identified.items ≡ identified_from behind n events

pub all_found : (behind n : Known) (k : Knowledge) (events rest : List Event) (found : Found) → rest ≡ [] → Left behind n k events rest found
    → AllFound behind n events found
unfolding first_fault mentioned_from identified_from
all_found behind n k events rest found none left = record {
  fault = left.faults ∙ ap (first_fault behind left.known) none;
  denotes = sym (left.meanings ∙ ap (λ es. found.denotes.items ++ flat_map (λ ns. ns) (mentioned_from behind left.known es)) none ∙ append-nil found.denotes.items);
  identified = sym (left.items ∙ ap (λ es. found.identified.items ++ identified_from behind left.known es) none ∙ append-nil found.identified.items);
}

-- A refusal that is handed on.
pub handed_on : (A : Type 0) (result : Result A NameRefusal) (P : NameRefusal → Type 0) (e : NameRefusal) (found : Option Fault)
    → IsErr result → IsErrAnd result P → ((r : NameRefusal) → P r → r ≡ e) → Says e found → Judges result found
handed_on A (Ok a) P e found err gives same is = absurd (true≢false (sym err))
handed_on A (Err r) P e found err gives same is = subst (λ r. Says r found) (sym (same r gives)) is

pub fold_push : {A B : Type 0} (f : B → A → B) (z : B) (xs : List A) (x : A) → fold f z (xs ++ x ∷ []) ≡ f (fold f z xs) x
fold_push f z [] x = refl
fold_push f z (y ∷ xs) x = fold_push f (f z y) xs x

-- Out of memory says nothing.
pub memory_says : (A : Type 0) (result : Result A NameRefusal) (found : Option Fault) → IsErr result → IsErrAnd result (λ r. r ≡ Memory) → Judges result found
memory_says A result found err gives = handed_on A result (λ r. r ≡ Memory) Memory found err gives (λ r h. h) tt
