-- Where no rule is broken, what stands later plays no part but for completions.
use Rattle.std.proofs.Common.{◌≡◌, refl, ap, sym, ◌∙◌, true≢false, Bool, true, false, if◌then◌else◌, List, [], ◌∷◌, ◌++◌, Option, None, Some, is_some, Result, Ok, Err, OnOk}
use Rattle.std.specs.List.{flat_map}
use Rattle.name_events.specs.declared.event.Clause.{Clause}
use Rattle.name_events.specs.declared.event.Event.{Event}
use Rattle.name_events.specs.declared.event.Event.TheVariants as e
use Rattle.name_events.specs.declared.event.FoldedIdentifier.{FoldedIdentifier}
use Rattle.name_events.specs.declared.event.FoldedName.{FoldedName}
use Rattle.name_events.specs.declared.declaration.Declaration.{Declaration}
use Rattle.name_events.specs.declared.declaration.DeclarationForm.{DeclarationForm}
use Rattle.name_events.specs.declared.declaration.Meaning.{Meaning}
use Rattle.name_events.specs.declared.declaration.Meaning.TheVariants.{Denotes, Breaks}
use Rattle.name_events.specs.declared.declaration.NameRule.{NameRule}
use Rattle.name_events.specs.declared.declaration.NameRule.TheVariants.{Unknown, Twice, TooEarly, NoBody}
use Rattle.name_events.specs.Declarations.{is_package, or_else}
use Rattle.name_events.specs.Known.{Known, seen, selected, source_package}
use Rattle.name_events.specs.Denotes.{meaning, meaning_along, meaning_or, mentioned_at, number_denoted, occurrences, occurrences_from, selected_meaning, whole_meaning, why_unseen, why_unselected}
use Rattle.name_events.specs.Identified.{identified_at, identified_use}
use Rattle.name_events.specs.Faults.{Fault, body_fault, fault, first_some, is_second_body, may_stand, mention_fault, occurrence_fault}
use Rattle.name_resolve.specs.declared.found.Found.{Found}
use Rattle.name_resolve.specs.declared.knowledge.Knowledge.{Knowledge}
use Rattle.name_resolve.specs.declared.refusal.NameRefusal.{NameRefusal}
use Rattle.name_resolve.specs.Judges.{Judges}
use Rattle.name_resolve.specs.Stands.{EachKnown, Stands}
use Rattle.name_resolve.proofs.Occurrences.{occurrence_fails}

-- ---- a name

rest_none : {A : Type 0} (o rest : Option A) → or_else o rest ≡ None → rest ≡ None
rest_none None rest none = none
rest_none (Some x) rest none = absurd (true≢false (ap is_some none))

-- Which rule an identifier might break else.
same_meaning : (whole now : Known) (id : FoldedIdentifier) (found : Option Declaration) (r s : NameRule) (rest : List FoldedIdentifier)
    → first_some (occurrence_fault now) (occurrences_from whole now id (meaning_or found r) rest) ≡ None
    → meaning_or found r ≡ meaning_or found s
same_meaning whole now id None r s rest none = absurd (true≢false (ap is_some (sym (occurrence_fails whole now id r rest) ∙ none)))
same_meaning whole now id (Some d) r s rest none = refl

same_selected : (a b now : Known) (holder : Declaration) (id : FoldedIdentifier) (rest : List FoldedIdentifier)
    → first_some (occurrence_fault now) (occurrences_from a now id (selected_meaning a now holder id.name) rest) ≡ None
    → selected_meaning a now holder id.name ≡ selected_meaning b now holder id.name
same_selected a b now holder id rest none =
    same_meaning a now id (selected now holder id.name) (why_unselected a now holder id.name) (why_unselected b now holder id.name) rest none

same_occurrences : (a b now : Known) (id : FoldedIdentifier) (m : Meaning) (rest : List FoldedIdentifier)
    → first_some (occurrence_fault now) (occurrences_from a now id m rest) ≡ None
    → occurrences_from a now id m rest ≡ occurrences_from b now id m rest
same_occurrences a b now id m [] none = refl
same_occurrences a b now id (Breaks r) (next ∷ rest) none = refl
same_occurrences a b now id (Denotes d) (next ∷ rest) none =
    ap (λ more. (id, Denotes d) ∷ more)
    (by (is_package d) (same_occurrences a b now next (selected_meaning a now d next.name) rest) (rest_none (occurrence_fault now (id, Denotes d)) _ none))
  where
    by : (goes_on : Bool)
        → (first_some (occurrence_fault now) (occurrences_from a now next (selected_meaning a now d next.name) rest) ≡ None
        → occurrences_from a now next (selected_meaning a now d next.name) rest ≡ occurrences_from b now next (selected_meaning a now d next.name) rest)
        → first_some (occurrence_fault now) (if goes_on then occurrences_from a now next (selected_meaning a now d next.name) rest else []) ≡ None
        → (if goes_on then occurrences_from a now next (selected_meaning a now d next.name) rest else [])
        ≡ (if goes_on then occurrences_from b now next (selected_meaning b now d next.name) rest else [])
    by true same none = same none ∙ ap (λ m. occurrences_from b now next m rest) (same_selected a b now d next rest none)
    by false same none = refl

same_along : (a b now : Known) (id : FoldedIdentifier) (m : Meaning) (rest : List FoldedIdentifier)
    → first_some (occurrence_fault now) (occurrences_from a now id m rest) ≡ None
    → meaning_along a now m rest ≡ meaning_along b now m rest
same_along a b now id (Breaks r) rest none = refl
same_along a b now id (Denotes d) [] none = refl
same_along a b now id (Denotes d) (next ∷ rest) none =
    by (is_package d) (same_along a b now next (selected_meaning a now d next.name) rest) (rest_none (occurrence_fault now (id, Denotes d)) _ none)
  where
    by : (goes_on : Bool)
        → (first_some (occurrence_fault now) (occurrences_from a now next (selected_meaning a now d next.name) rest) ≡ None
        → meaning_along a now (selected_meaning a now d next.name) rest ≡ meaning_along b now (selected_meaning a now d next.name) rest)
        → first_some (occurrence_fault now) (if goes_on then occurrences_from a now next (selected_meaning a now d next.name) rest else []) ≡ None
        → (if goes_on then meaning_along a now (selected_meaning a now d next.name) rest else Breaks Unknown)
        ≡ (if goes_on then meaning_along b now (selected_meaning b now d next.name) rest else Breaks Unknown)
    by true same none = same none ∙ ap (λ m. meaning_along b now m rest) (same_selected a b now d next rest none)
    by false same none = refl

then_none : (b : Bool) (o : Option Fault) (f : Fault) → (if b then o else Some f) ≡ None → o ≡ None
then_none true o f none = none
then_none false o f none = absurd (true≢false (ap is_some none))

record SameName (a b now : Known) (c : Clause) (name : FoldedName) : Type 0 where
  fault : mention_fault b now c name ≡ None
  occurs : occurrences a now name ≡ occurrences b now name

same_name : (a b now : Known) (c : Clause) (name : FoldedName) → mention_fault a now c name ≡ None → SameName a b now c name
same_name a b now c name none =
    let id = name.first in
    let first = then_none (may_stand c (whole_meaning a now name)) (first_some (occurrence_fault now) (occurrences a now name)) (Unknown, id.pos) none in
    let means = same_meaning a now id (seen now id.name) (why_unseen a now id.name) (why_unseen b now id.name) name.rest first in
    let occurs : occurrences a now name ≡ occurrences b now name =
    same_occurrences a b now id (meaning a now id.name) name.rest first ∙ ap (λ m. occurrences_from b now id m name.rest) means in
    let along : whole_meaning a now name ≡ whole_meaning b now name =
    same_along a b now id (meaning a now id.name) name.rest first ∙ ap (λ m. meaning_along b now m name.rest) means in
    record {
      fault = sym (λ j. if may_stand c (along j) then first_some (occurrence_fault now) (occurs j) else Some (Unknown, id.pos)) ∙ none;
      occurs = occurs;
    }

-- ---- a package body

body_by : (second known later other : Bool) (twice early missing : Fault)
    → (if second then Some twice else if known then None else if later then Some early else Some missing) ≡ None
    → (if second then Some twice else if known then None else if other then Some early else Some missing) ≡ None
body_by true known later other twice early missing none = absurd (true≢false (ap is_some none))
body_by false true later other twice early missing none = refl
body_by false false true other twice early missing none = absurd (true≢false (ap is_some none))
body_by false false false other twice early missing none = absurd (true≢false (ap is_some none))

same_body : (a b now : Known) (id : FoldedIdentifier) → body_fault a now id ≡ None → body_fault b now id ≡ None
same_body a b now id =
    body_by (is_second_body now id.name) (is_some (source_package now.ended id.name))
    (is_some (source_package a.declared id.name)) (is_some (source_package b.declared id.name))
    (Twice, id.pos) (TooEarly, id.pos) (NoBody, id.pos)

-- ---- an event

abbrev pub declares : Event → Bool
declares (e.Declares declared_as id) = true
declares _ = false

pub declares_not : (event : Event) → ((declared_as : DeclarationForm) (id : FoldedIdentifier) → event ≡ e.Declares declared_as id → ⊥) → declares event ≡ false
declares_not (e.Declares declared_as id) other = absurd (other declared_as id refl)
declares_not _ other = refl

-- What an event that breaks no rule says is the same, whatever is known after the whole text.
pub record SameAt (a b now : Known) (event : Event) : Type 0 where
  pub fault : fault b now event ≡ None
  pub meanings : mentioned_at a now event ≡ mentioned_at b now event
  pub items : identified_at a now event ≡ identified_at b now event

pub same_at : (a b now : Known) (event : Event) → declares event ≡ false → fault a now event ≡ None → SameAt a b now event
unfolding fault mentioned_at identified_at
same_at a b now (e.Mentions c name) other none =
    let same = same_name a b now c name none in
    record {
      fault = same.fault;
      meanings = ap (λ found. flat_map number_denoted found ∷ []) same.occurs;
      items = ap (flat_map identified_use) same.occurs;
    }
same_at a b now (e.Declares declared_as id) other none = absurd (true≢false other)
same_at a b now (e.PackageBodyOpens id) other none = record { fault = same_body a b now id none; meanings = refl; items = refl }
same_at a b now (e.DeclaresComponent id) other none = record { fault = none; meanings = refl; items = refl }
same_at a b now (e.EndsWithName id expected) other none = record { fault = none; meanings = refl; items = refl }
same_at a b now _ other none = record { fault = refl; meanings = refl; items = refl }

-- What an event says, whatever is known after the whole text.
pub record Says (behind now : Known) (event : Event) (old new : Found) : Type 0 where
  pub fault : fault behind now event ≡ None
  pub denotes : new.denotes.items ≡ old.denotes.items ++ flat_map (λ numbers. numbers) (mentioned_at behind now event)
  pub identified : new.identified.items ≡ old.identified.items ++ identified_at behind now event

-- It was looked at as if nothing stood later.
pub looked_at : {A : Type 0} (k : Knowledge) (event : Event) (old new : Found) (result : Result A NameRefusal) → declares event ≡ false
    → EachKnown k k (λ behind now. Judges result (fault behind now event))
    → OnOk result (EachKnown k k (λ behind now. new.denotes.items ≡ old.denotes.items ++ flat_map (λ numbers. numbers) (mentioned_at behind now event)))
    → OnOk result (EachKnown k k (λ behind now. new.identified.items ≡ old.identified.items ++ identified_at behind now event))
    → OnOk result ((behind now : Known) → Stands k now → Says behind now event old new)
looked_at k event old new (Ok a) other right adds finds = λ behind now s.
    let same = same_at now behind now event other (right now now s s) in
    record {
      fault = same.fault;
      denotes = adds now now s s ∙ ap (λ found. old.denotes.items ++ flat_map (λ numbers. numbers) found) same.meanings;
      identified = finds now now s s ∙ ap (λ found. old.identified.items ++ found) same.items;
    }
looked_at k event old new (Err r) other right adds finds = tt

pub on_ok : {A E P Q : Type 0} (result : Result A E) → (P → Q) → OnOk result P → OnOk result Q
on_ok (Ok a) f h = f h
on_ok (Err r) f h = tt
