-- What identifiers denote, by what the searches found.
use Rattle.std.proofs.Common.{◌≡◌, refl, ap, sym, ◌∙◌, true≢false, ℕ, Bool, true, false, not, ◌&&◌, if◌then◌else◌, List, Option, None, Some, is_some, reverse}
use Rattle.std.specs.Prelude.{◌||◌}
use Rattle.name_events.specs.declared.declaration.Declaration.{Declaration}
use Rattle.name_events.specs.declared.declaration.NameRule.{NameRule}
use Rattle.name_events.specs.declared.declaration.NameRule.TheVariants.{Unknown, NotVisible, TooEarly}
use Rattle.name_events.specs.declared.declaration.Meaning.{Meaning}
use Rattle.name_events.specs.declared.declaration.Meaning.TheVariants.{Denotes, Breaks}
use Rattle.name_events.specs.declared.declaration.OpenRegion.{OpenRegion}
use Rattle.name_events.specs.Declarations.{Name, Entry, Search, has_number, declared_in, innermost, or_else, is_visible}
use Rattle.name_events.specs.Known.{Known, directly_visible, here, part_here, is_number, packages_in_use, seen, selected, if_reached, visible_members}
use Rattle.name_events.specs.Denotes.{meaning, meaning_or, selected_meaning, stands_later, stands_later_in}
use Rattle.name_resolve.specs.declared.sighting.Sighting.{Sighting}
use Rattle.name_resolve.specs.declared.sighting.Sighting.TheVariants.{Nothing, One, Several}
use Rattle.name_resolve.specs.Sightings.{sighted_all, the_one, is_any}
use Rattle.name_events.specs.declared.declaration.DeclarationForm.{DeclarationForm}
use Rattle.name_events.specs.declared.declaration.DeclarationForm.TheVariants as form
use Rattle.name_events.specs.declared.declaration.RegionPart.{RegionPart}
use Rattle.name_events.specs.Completions.{awaiting, completed_by, completes_form, if_completes, may_complete}
use Rattle.name_resolve.specs.Tables.{Answers, asks_completion, first_in, is_completion}
use Rattle.name_resolve.proofs.Answering.{innermost_same}
use Rattle.name_resolve.proofs.Seeing.{any_seen, one_seen}

-- What a search in a table finds in the open regions.
pub found_is : (find : Search) (entries : List Entry) (stack enclosing : List OpenRegion) (w : Name) (r : Option Declaration)
    → Answers find entries → reverse stack ≡ enclosing → r ≡ innermost find (reverse stack) w → r ≡ innermost (declared_in entries) enclosing w
found_is find entries stack enclosing w r answers view is =
    is ∙ ap (λ fs. innermost find fs w) view ∙ innermost_same find entries enclosing w answers

abbrev pub sights : Known → Name → Sighting
sights now w = sighted_all Nothing (visible_members now (packages_in_use now) w)

pub seen_is : (now : Known) (w : Name) (direct : Option Declaration) (s : Sighting)
    → direct ≡ directly_visible now w → s ≡ sights now w → or_else direct (the_one s) ≡ seen now w
seen_is now w direct s is found =
    λ j. or_else (is j) ((ap the_one found ∙ sym (one_seen (visible_members now (packages_in_use now) w))) j)

abbrev pub means : Option Declaration → Sighting → NameRule → Meaning
means (Some d) s rule = Denotes d
means None (One d) rule = Denotes d
means None Several rule = Breaks NotVisible
means None Nothing rule = Breaks rule

by_cases : (direct : Option Declaration) (s : Sighting) (rule : NameRule)
    → means direct s rule ≡ meaning_or (or_else direct (the_one s)) (if is_any s then NotVisible else rule)
by_cases (Some d) s rule = refl
by_cases None (One d) rule = refl
by_cases None Several rule = refl
by_cases None Nothing rule = refl

pub meaning_is : (behind now : Known) (w : Name) (direct : Option Declaration) (s : Sighting) (rule : NameRule)
    → direct ≡ directly_visible now w → s ≡ sights now w → rule ≡ (if stands_later behind now w then TooEarly else Unknown)
    → means direct s rule ≡ meaning behind now w
meaning_is behind now w direct s rule is found why =
    by_cases direct s rule
    ∙ (λ j. meaning_or (seen_is now w direct s is found j) (if (ap is_any found ∙ sym (any_seen (visible_members now (packages_in_use now) w))) j then NotVisible else why j))

-- ---- in a package

pub selected_is : (now : Known) (holder : Declaration) (w : Name) (found : Option Declaration)
    → found ≡ declared_in now.ended holder.own_region w → if_reached now holder found ≡ selected now holder w
selected_is now holder w found is = ap (if_reached now holder) is

selected_by : (now : Known) (holder : Declaration) (d : Declaration) (b : Bool) (later : NameRule) → b ≡ (is_visible d || (now.in_own_body && is_number now.own_package holder.number))
    → (if b then Denotes d else Breaks NotVisible) ≡ meaning_or (if_reached now holder (Some d)) NotVisible
selected_by now holder d b later is = by b ∙ ap (λ b. meaning_or (if b then Some d else None) NotVisible) is
  where
    by : (b : Bool) → (if b then Denotes d else Breaks NotVisible) ≡ meaning_or (if b then Some d else None) NotVisible
    by true = refl
    by false = refl

-- It has ended there.
pub selected_there : (behind now : Known) (holder : Declaration) (w : Name) (d : Declaration) (b : Bool)
    → Some d ≡ declared_in now.ended holder.own_region w → b ≡ (is_visible d || (now.in_own_body && is_number now.own_package holder.number))
    → (if b then Denotes d else Breaks NotVisible) ≡ selected_meaning behind now holder w
selected_there behind now holder w d b is reaches =
    selected_by now holder d b Unknown reaches
    ∙ (λ j. meaning_or (if_reached now holder (is j)) (if is_some (is j) then NotVisible else (if stands_later_in behind holder w then (if is_number now.own_package holder.number then TooEarly else NotVisible) else Unknown)))

-- It hasn't.
pub selected_absent : (behind now : Known) (holder : Declaration) (w : Name) (rule : NameRule)
    → None ≡ declared_in now.ended holder.own_region w
    → rule ≡ (if stands_later_in behind holder w then (if is_number now.own_package holder.number then TooEarly else NotVisible) else Unknown)
    → Breaks rule ≡ selected_meaning behind now holder w
selected_absent behind now holder w rule is why =
    λ j. meaning_or (if_reached now holder (is j)) (if is_some (is j) then NotVisible else why j)

-- ---- completions

pub completed_is : (now : Known) (new : DeclarationForm) (w : Name) (found : Option Declaration) (region : ℕ)
    → region ≡ here now → found ≡ first_in asks_completion now.declared region w
    → if_completes now new found ≡ completed_by now new w
completed_is now new w found region at is =
    ap (if_completes now new) (is ∙ ap (λ r. first_in asks_completion now.declared r w) at)

-- A form that is no completion completes nothing.
completes_none : (old new : DeclarationForm) (old_part new_part : RegionPart) → is_completion new ≡ false
    → completes_form old old_part new new_part ≡ false
completes_none form.IncompleteType form.FullType p q none = absurd (true≢false none)
completes_none form.PrivateType form.FullType p q none = absurd (true≢false none)
completes_none form.SubprogramDeclaration form.ProcedureBody p q none = absurd (true≢false none)
completes_none form.SubprogramDeclaration form.FunctionBody p q none = absurd (true≢false none)
completes_none _ _ p q none = refl

if_none : (a b c : Bool) (d : Declaration) → b ≡ false → None ≡ (if a && (b && c) then Some d else None)
if_none true true c d none = absurd (true≢false none)
if_none true false c d none = refl
if_none false b c d none = refl

none_completed : (now : Known) (new : DeclarationForm) (found : Option Declaration) → is_completion new ≡ false
    → None ≡ if_completes now new found
none_completed now new None none = refl
none_completed now new (Some d) none =
    if_none (may_complete now) (completes_form d.form d.part new (part_here now)) (not (has_number d.number now.completed)) d
    (completes_none d.form new d.part (part_here now) none)

pub completes_nothing : (now : Known) (new : DeclarationForm) (w : Name) → is_completion new ≡ false
    → None ≡ completed_by now new w
completes_nothing now new w none = none_completed now new (awaiting now.declared (here now) w) none

pub completes_there : (now : Known) (new : DeclarationForm) (w : Name) (d : Declaration) (b : Bool) (region : ℕ)
    → region ≡ here now → Some d ≡ first_in asks_completion now.declared region w
    → b ≡ (may_complete now && (completes_form d.form d.part new (part_here now) && not (has_number d.number now.completed)))
    → (if b then Some d else None) ≡ completed_by now new w
completes_there now new w d b region at is completes =
    ap (λ b. if b then Some d else None) completes ∙ completed_is now new w (Some d) region at is
