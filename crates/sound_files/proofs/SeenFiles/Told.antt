-- What is told of the names of a text that breaks no rule of names, and whose identifiers stand in the order of the
-- text.
use Rattle.std.proofs.Common.{◌≡◌, inl, inr, ℕ, Bool, true, false, ◌&&◌, List, [], ◌∷◌, ◌++◌, map, length, nat_eq, refl, sym, ap, ◌∙◌, subst, arith, Option, Some, None, true≢false, append_assoc, if◌then◌else◌}
use Rattle.std.specs.Prelude.{slice_get, unwrap_or, is_some}
use Rattle.std.specs.List.{flat_map}
use Rattle.machine.specs.spark_base.declared.position.Pos.{Pos}
use Rattle.machine.specs.spark_base.Positions.{Precedes}
use Rattle.spark_base.proofs.Positions.{Precedes-irrefl}
use Rattle.machine.specs.spark_base.Lists.{Has}
use Rattle.soundness.proofs.Lists.{Has-append_cases, Has-append_left, Has-append_right}
use Rattle.name_events.specs.declared.event.Event.{Event}
use Rattle.name_events.specs.declared.event.Event.TheVariants as e
use Rattle.name_events.specs.declared.event.FoldedIdentifier.{FoldedIdentifier}
use Rattle.name_events.specs.declared.declaration.DeclarationForm.{DeclarationForm}
use Rattle.name_events.specs.declared.declaration.DeclarationForm.TheVariants as form
use Rattle.name_events.specs.declared.declaration.Declaration.{Declaration}
use Rattle.name_events.specs.declared.declaration.Identified.{Identified}
use Rattle.name_events.specs.declared.declaration.NameRule.{NameRule}
use Rattle.name_events.specs.declared.declaration.NameRule.TheVariants.{Unknown}
use Rattle.name_events.specs.declared.declaration.Meaning.{Meaning}
use Rattle.name_events.specs.declared.declaration.Meaning.TheVariants.{Denotes, Breaks}
use Rattle.name_events.specs.Declarations.{Name, Entry, or_else, is_package}
use Rattle.name_events.specs.Known.{Known, source_package, seen, selected}
use Rattle.name_events.specs.Completions.{completed_by}
use Rattle.name_events.specs.KnownBehind.{known_behind, known_behind_all, behind_declaration, new_entry}
use Rattle.name_events.specs.Denotes.{why_unseen, why_unselected, meaning_or, meaning, selected_meaning, occurrences_from, occurrences, whole_meaning}
use Rattle.name_events.specs.Faults.{occurrence_fault, first_some, may_stand, fault, first_fault}
use Rattle.name_events.specs.Identified.{identified_as, identified_use, identified_body, identified_at, identified_from, number_at, number_declared, completed_or_next, same_position}
use Rattle.name_events.proofs.VisibilityLaws.{seen_says, selected_says}
use Rattle.expression_lowering.specs.LoweredExpressions.{Numbers, before_others, last_of}
use Rattle.settled_types.specs.FilePositions.Order.{Ascends, event_position, event_positions}
use Rattle.sound_files.specs.SeenFiles.Uses.{numbers_along, name_number}
use Rattle.sound_files.specs.SeenFiles.Reached.{is_object_form, IsObjectIn, IsReached, IsTold, AreTold}
use Rattle.sound_files.proofs.SeenFiles.Steps.{completes_nothing}
use Rattle.sound_files.proofs.SeenFiles.Held.{has_middle, get_last, Grows, grows_all, IsHeld, last_ended, held_behind}

-- ---- numbers by position

both_so : (a b : Bool) → a && b ≡ true → (a ≡ true) × (b ≡ true)
both_so true b e = (refl, e)
both_so false b e = absurd (true≢false (sym e))

same : (a b : Pos) → same_position a b ≡ true → a ≡ b
same a b is =
    let files = both_so (nat_eq a.file b.file) (nat_eq a.line b.line && nat_eq a.column b.column) is in
    let lines = both_so (nat_eq a.line b.line) (nat_eq a.column b.column) files.1 in
    let file = equal a.file b.file files.0 in
    let line = equal a.line b.line lines.0 in
    let column = equal a.column b.column lines.1 in
    λ i. record { file = file i; line = line i; column = column i }
  where
    equal : (x y : ℕ) → nat_eq x y ≡ true → x ≡ y
    equal x y is = grind (arith, is)

same_self : (p : Pos) → same_position p p ≡ true
same_self p = all (nat_eq p.file p.file) (nat_eq p.line p.line) (nat_eq p.column p.column) (self p.file) (self p.line) (self p.column)
  where
    self : (n : ℕ) → nat_eq n n ≡ true
    self n = grind arith

    all : (a b c : Bool) → a ≡ true → b ≡ true → c ≡ true → a && (b && c) ≡ true
    all a b c x y z = grind (arith, x, y, z)

before_differs : (a b : Pos) → Precedes a b → same_position a b ≡ false
before_differs a b before = by (same_position a b) refl
  where
    by : (x : Bool) → same_position a b ≡ x → same_position a b ≡ false
    by false is = is
    by true is = absurd (Precedes-irrefl b (subst (λ from. Precedes from b) (same a b is) before))

after_differs : (a b : Pos) → Precedes a b → same_position b a ≡ false
after_differs a b before = by (same_position b a) refl
  where
    by : (x : Bool) → same_position b a ≡ x → same_position b a ≡ false
    by false is = is
    by true is = absurd (Precedes-irrefl b (subst (λ from. Precedes from b) (sym (same b a is)) before))

abbrev Differ : List Identified → Pos → Type 0
Differ items p = (x : Identified) → Has items x → same_position x.pos p ≡ false

skipped : (items more : List Identified) (p : Pos) → Differ items p → number_at (items ++ more) p ≡ number_at more p
skipped [] more p differ = refl
skipped (x ∷ rest) more p differ =
    ap (λ b. if b then Some x.number else number_at (rest ++ more) p) (differ x (inl refl)) ∙ skipped rest more p (λ y has. differ y (inr has))

absent : (items : List Identified) (p : Pos) → Differ items p → number_at items p ≡ None
absent [] p differ = refl
absent (x ∷ rest) p differ =
    ap (λ b. if b then Some x.number else number_at rest p) (differ x (inl refl)) ∙ absent rest p (λ y has. differ y (inr has))

found : (id : FoldedIdentifier) (n : ℕ) (done more : List Identified) → Differ done id.pos
    → number_at (done ++ (identified_as id n ∷ more)) id.pos ≡ Some n
found id n done more differ =
    skipped done (identified_as id n ∷ more) id.pos differ ∙ ap (λ b. if b then Some n else number_at more id.pos) (same_self id.pos)

-- ---- one name

abbrev Before : List Identified → List Pos → Type 0
Before items ps = (x : Identified) → Has items x → (p : Pos) → Has ps p → Precedes x.pos p

abbrev After : List Identified → List Pos → Type 0
After items ps = (x : Identified) → Has items x → (p : Pos) → Has ps p → Precedes p x.pos

abbrev places_of : FoldedIdentifier → List FoldedIdentifier → List Pos
places_of id rest = id.pos ∷ map (λ (i : FoldedIdentifier). i.pos) rest

abbrev Standing : Known → Declaration → Type 0
Standing now d = (w : Name) × Has now.ended (w, d) × IsReached now d.region

-- What the identifiers of a name denote by their positions.
record Read (now : Known) (ns : List Identified) (id : FoldedIdentifier) (rest : List FoldedIdentifier) : Type 0 where
  pub number : ℕ
  pub first : number_at ns id.pos ≡ Some number
  pub denoted : Declaration
  pub stands : Standing now denoted
  pub last : last_of number (numbers_along ns rest) ≡ denoted.number

meant : (o : Option Declaration) (rule : NameRule) (d : Declaration) → meaning_or o rule ≡ Denotes d → o ≡ Some d
meant None rule d is = cc
meant (Some x) rule d is = cc

or_rest : {A : Type 0} (a b : Option A) → or_else a b ≡ None → b ≡ None
or_rest None b e = e
or_rest (Some x) b e = absurd (true≢false (ap is_some e))

or_one : {A : Type 0} (a b : Option A) → or_else a b ≡ None → a ≡ None
or_one None b e = refl
or_one (Some x) b e = absurd (true≢false (ap is_some e))

member_stands : (now : Known) (holder d : Declaration) (w : Name) → is_package holder ≡ true → Standing now holder → selected now holder w ≡ Some d
    → Standing now d
member_stands now holder d w is stands e =
    let s = selected_says now holder w d e in
    let ended = last_ended now holder.own_region w d s.last in
    (ended.0, ended.1, inr (inr ((stands.0, holder), stands.1, is, sym s.last.is_of.0)))

seen_stands : (now : Known) (w : Name) (d : Declaration) → IsHeld now → seen now w ≡ Some d → Standing now d
seen_stands now w d held is = elim (seen_says now w d is) [
  | inl inner ↦
      (let ended = last_ended now inner.encloses.region w d inner.last in (
        ended.0,
        ended.1,
        inr (inl (
          inner.encloses,
          subst (λ os. Has os inner.encloses) (sym inner.around) (has_middle inner.further_in inner.encloses inner.further_out),
          sym inner.last.is_of.0,
        )),
      ))
  | inr used ↦
      (let m = used.member in
      let ended = last_ended now m.holder.1.own_region w d m.last in
      let p = held.uses m.in_use.0.region m.number m.in_use.2 in
      let one : p.0 ≡ m.holder = unsome (sym p.1 ∙ m.holds) in (
        ended.0,
        ended.1,
        inr (inr (p.0, p.2, p.3, ap (λ (h : Entry). h.1.own_region) one ∙ sym m.last.is_of.0)),
      ))
]
  where
    unsome : {x y : Entry} → Some x ≡ Some y → x ≡ y
    unsome {x = x} e = ap (λ o. unwrap_or o x) e

module _ (whole now : Known) where
  read_from : (id : FoldedIdentifier) (m : Meaning) (rest : List FoldedIdentifier) (done later : List Identified) → Before done (places_of id rest)
      → Ascends (places_of id rest) → After later (places_of id rest) → ((d : Declaration) → m ≡ Denotes d → Standing now d)
      → first_some (occurrence_fault now) (occurrences_from whole now id m rest) ≡ None
      → Read now (done ++ (flat_map identified_use (occurrences_from whole now id m rest) ++ later)) id rest
  read_from id (Breaks rule) [] done later before up after stands none = absurd (true≢false (ap is_some none))
  read_from id (Breaks rule) (next ∷ rest) done later before up after stands none = absurd (true≢false (ap is_some none))
  read_from id (Denotes d) [] done later before up after stands none = record {
    number = d.number;
    first = found id d.number done later (λ x has. before_differs x.pos id.pos (before x has id.pos (inl refl)));
    denoted = d;
    stands = stands d refl;
    last = refl;
  }
  read_from id (Denotes d) (next ∷ rest) done later before up after stands none =
      by (is_package d) refl (or_rest (occurrence_fault now (id, Denotes d)) (first_some (occurrence_fault now) (if is_package d then others else [])) none)
      (λ is_one. read_from next (selected_meaning whole now d next.name) rest (done ++ item ∷ []) later (λ x has p is. joined x has p is) up.1
      (λ x has p is. after x has p (inr is)) (λ y e. member_stands now d y next.name is_one (stands d refl) (meant (selected now d next.name) (why_unselected whole now d next.name) y e)))
    where
      item : Identified
      item = identified_as id d.number

      others : List (FoldedIdentifier × Meaning)
      others = occurrences_from whole now next (selected_meaning whole now d next.name) rest

      joined : Before (done ++ item ∷ []) (places_of next rest)
      joined x has p is = elim (Has-append_cases done (item ∷ []) x has) [
        | inl old ↦ before x old p (inr is)
        | inr (inl same) ↦ subst (λ (y : Identified). Precedes y.pos p) same (up.0 p is)
        | inr (inr never) ↦ absurd never
      ]

      first_is : (more : List Identified) → number_at (done ++ (item ∷ more)) id.pos ≡ Some d.number
      first_is more = found id d.number done more (λ x has. before_differs x.pos id.pos (before x has id.pos (inl refl)))

      none_next : number_at (done ++ (item ∷ later)) next.pos ≡ None
      none_next = absent (done ++ (item ∷ later)) next.pos (λ x has. elim (Has-append_cases done (item ∷ later) x has) [
        | inl old ↦ before_differs x.pos next.pos (before x old next.pos (inr (inl refl)))
        | inr (inl same) ↦ subst (λ (y : Identified). same_position y.pos next.pos ≡ false) same (before_differs id.pos next.pos (up.0 next.pos (inl refl)))
        | inr (inr more) ↦ after_differs next.pos x.pos (after x more next.pos (inr (inl refl)))
      ])

      by : (b : Bool) → is_package d ≡ b → first_some (occurrence_fault now) (if b then others else []) ≡ None
          → (is_package d ≡ true → first_some (occurrence_fault now) others ≡ None
          → Read now ((done ++ item ∷ []) ++ (flat_map identified_use others ++ later)) next rest)
          → Read now (done ++ ((item ∷ flat_map identified_use (if b then others else [])) ++ later)) id (next ∷ rest)
      by true is none on =
          let more : List Identified = flat_map identified_use others ++ later in
          let r : Read now (done ++ (item ∷ more)) next rest
          = subst (λ ns. Read now ns next rest) (append_assoc done (item ∷ []) more) (on is none) in
          record {
            number = d.number;
            first = first_is more;
            denoted = r.denoted;
            stands = r.stands;
            last = ap (λ o. last_of d.number (before_others o (numbers_along (done ++ (item ∷ more)) rest))) r.first ∙ r.last;
          }
      by false is none on = record {
        number = d.number;
        first = first_is later;
        denoted = d;
        stands = stands d refl;
        last = ap (λ o. last_of d.number (before_others o (numbers_along (done ++ (item ∷ later)) rest))) none_next;
      }

  use_placed : (id : FoldedIdentifier) (m : Meaning) (rest : List FoldedIdentifier) (x : Identified)
      → Has (flat_map identified_use (occurrences_from whole now id m rest)) x → Has (places_of id rest) x.pos
  use_placed id (Breaks rule) [] x has = absurd has
  use_placed id (Breaks rule) (next ∷ rest) x has = absurd has
  use_placed id (Denotes d) [] x (inl same) = inl (ap (λ (y : Identified). y.pos) same)
  use_placed id (Denotes d) [] x (inr never) = absurd never
  use_placed id (Denotes d) (next ∷ rest) x (inl same) = inl (ap (λ (y : Identified). y.pos) same)
  use_placed id (Denotes d) (next ∷ rest) x (inr has) =
      inr (by (is_package d) has (λ has. use_placed next (selected_meaning whole now d next.name) rest x has))
    where
      by : (b : Bool) → Has (flat_map identified_use (if b then occurrences_from whole now next (selected_meaning whole now d next.name) rest else [])) x
          → (Has (flat_map identified_use (occurrences_from whole now next (selected_meaning whole now d next.name) rest)) x → Has (places_of next rest) x.pos)
          → Has (places_of next rest) x.pos
      by true has on = on has
      by false has on = absurd has

  body_placed : (id : FoldedIdentifier) (o : Option Declaration) (x : Identified) → Has (identified_body id o) x → Has (id.pos ∷ []) x.pos
  body_placed id None x has = absurd has
  body_placed id (Some d) x (inl same) = inl (ap (λ (y : Identified). y.pos) same)
  body_placed id (Some d) x (inr never) = absurd never

  at_placed : (event : Event) (x : Identified) → Has (identified_at whole now event) x → Has (event_position event) x.pos
  unfolding identified_at
  at_placed (e.Mentions c name) x has = use_placed name.first (meaning whole now name.first.name) name.rest x has
  at_placed (e.Declares new id) x (inl same) = inl (ap (λ (y : Identified). y.pos) same)
  at_placed (e.Declares new id) x (inr never) = absurd never
  at_placed (e.PackageBodyOpens id) x has = body_placed id (source_package now.ended id.name) x has
  at_placed _ x has = absurd has

from_placed : (whole : Known) (events : List Event) (now : Known) (x : Identified) → Has (identified_from whole now events) x
    → Has (event_positions events) x.pos
unfolding identified_from
from_placed whole [] now x has = absurd has
from_placed whole (event ∷ rest) now x has =
    elim (Has-append_cases (identified_at whole now event) (identified_from whole (known_behind now event) rest) x has) [
      | inl here ↦ Has-append_left (event_position event) (event_positions rest) x.pos (at_placed whole now event x here)
      | inr later ↦ Has-append_right (event_position event) (event_positions rest) x.pos (from_placed whole rest (known_behind now event) x later)
    ]

-- ---- lists of positions

left_up : (ps qs : List Pos) → Ascends (ps ++ qs) → Ascends ps
left_up [] qs up = tt
left_up (p ∷ ps) qs up = ((λ q has. up.0 q (Has-append_left ps qs q has)), left_up ps qs up.1)

right_up : (ps qs : List Pos) → Ascends (ps ++ qs) → Ascends qs
right_up [] qs up = up
right_up (p ∷ ps) qs up = right_up ps qs up.1

across : (ps qs : List Pos) → Ascends (ps ++ qs) → (p q : Pos) → Has ps p → Has qs q → Precedes p q
across [] qs up p q here later = absurd here
across (x ∷ ps) qs up p q (inl same) later = subst (λ from. Precedes from q) same (up.0 q (Has-append_right ps qs q later))
across (x ∷ ps) qs up p q (inr here) later = across ps qs up.1 p q here later

-- ---- all events

module _ (whole : Known) (numbers : Numbers) where
  declared_object : (now : Known) (new : DeclarationForm) (id : FoldedIdentifier) → is_object_form new ≡ true
      → slice_get (behind_declaration now new id None).declared (length now.declared) ≡ Some (new_entry now new id)
  declared_object now form.Object id is = get_last now.declared (new_entry now form.Object id)
  declared_object now form.Formal id is = get_last now.declared (new_entry now form.Formal id)
  declared_object now form.LoopParameter id is = get_last now.declared (new_entry now form.LoopParameter id)
  declared_object now new id is = absurd (true≢false (sym is))

  object_told : (now : Known) (new : DeclarationForm) (id : FoldedIdentifier) (rest : List Event) → Grows (known_behind now (e.Declares new id)) whole
      → is_object_form new ≡ true → IsObjectIn whole (number_declared now new id.name)
  unfolding known_behind
  object_told now new id rest grows is =
      let nothing : completed_by now new id.name ≡ None = completes_nothing now new id.name is in
      let at : slice_get whole.declared (length now.declared) ≡ Some (new_entry now new id)
      = grows.declared (length now.declared) (new_entry now new id)
      (subst (λ o. slice_get (behind_declaration now new id o).declared (length now.declared) ≡ Some (new_entry now new id)) (sym nothing)
      (declared_object now new id is)) in (
        new_entry now new id,
        subst (λ o. slice_get whole.declared (completed_or_next now o) ≡ Some (new_entry now new id)) (sym nothing) at,
        is,
      )

  module _ (now : Known) (done later : List Identified) (held : IsHeld now) where
    told : (event : Event) (rest : List Event) → Grows (known_behind now event) whole → Grows now whole → numbers ≡ done ++ (identified_at whole now event ++ later)
        → Before done (event_position event) → Ascends (event_position event) → After later (event_position event) → fault whole now event ≡ None
        → IsTold numbers whole now event
    unfolding identified_at fault
    told (e.Mentions c name) rest grows all is before up after none =
        let occurring : List (FoldedIdentifier × Meaning) = occurrences whole now name in
        let ns : List Identified = done ++ (flat_map identified_use occurring ++ later) in
        let r : Read now ns name.first name.rest
        = read_from whole now name.first (meaning whole now name.first.name) name.rest done later before up after
        (λ d e. seen_stands now name.first.name d held (meant (seen now name.first.name) (why_unseen whole now name.first.name) d e))
        (allowed (may_stand c (whole_meaning whole now name)) none) in
        let x : Entry = (r.stands.0, r.denoted) in
        let last : name_number ns name ≡ r.denoted.number = ap (λ o. last_of (unwrap_or o 0) (numbers_along ns name.rest)) r.first ∙ r.last in
        (x, r.stands.1, r.stands.2, subst (λ ms. name_number ms name ≡ r.denoted.number) (sym is) last, all.declared r.denoted.number x (held.ended x r.stands.1))
      where
        allowed : (b : Bool) → (if b then first_some (occurrence_fault now) (occurrences whole now name) else Some (Unknown, name.first.pos)) ≡ None
            → first_some (occurrence_fault now) (occurrences whole now name) ≡ None
        allowed true e = e
        allowed false e = absurd (true≢false (ap is_some e))
    told (e.Declares new id) rest grows all is before up after none =
        let n : ℕ = number_declared now new id.name in
        let number : unwrap_or (number_at numbers id.pos) 0 ≡ n
        = ap (λ ms. unwrap_or (number_at ms id.pos) 0) is
        ∙ ap (λ o. unwrap_or o 0) (found id n done later (λ x has. before_differs x.pos id.pos (before x has id.pos (inl refl)))) in
        (number, λ object. subst (IsObjectIn whole) (sym number) (object_told now new id rest grows object))
    told event rest grows all is before up after none = tt

  pub told_from : (events : List Event) (now : Known) (done : List Identified) → IsHeld now → whole ≡ known_behind_all now events
      → numbers ≡ done ++ identified_from whole now events → Before done (event_positions events) → Ascends (event_positions events)
      → first_fault whole now events ≡ None → AreTold numbers whole now events
  unfolding identified_from first_fault
  told_from [] now done held end is before up none = tt
  told_from (event ∷ rest) now done held end is before up none =
      let after : Known = known_behind now event in
      let xs : List Identified = identified_at whole now event in
      let ys : List Identified = identified_from whole after rest in
      let ps : List Pos = event_position event in
      let qs : List Pos = event_positions rest in
      let later : Grows after whole = subst (Grows after) (sym end) (grows_all rest after) in
      let all : Grows now whole = subst (Grows now) (sym end) (grows_all (event ∷ rest) now) in (
        told now done ys held event rest later all is (λ x has p at. before x has p (Has-append_left ps qs p at)) (left_up ps qs up)
            (λ x has p at. across ps qs up p x.pos at (from_placed whole rest after x has))
            (or_one (fault whole now event) (first_fault whole after rest) none),
        told_from rest after (done ++ xs) (held_behind now event held) end (is ∙ sym (append_assoc done xs ys)) (λ x has p at. joined after x has p at)
            (right_up ps qs up) (or_rest (fault whole now event) (first_fault whole after rest) none),
      )
    where
      joined : (after : Known) → Before (done ++ identified_at whole now event) (event_positions rest)
      joined after x has p at = elim (Has-append_cases done (identified_at whole now event) x has) [
        | inl old ↦ before x old p (Has-append_right (event_position event) (event_positions rest) p at)
        | inr new ↦ across (event_position event) (event_positions rest) up x.pos p (at_placed whole now event x new) at
      ]
