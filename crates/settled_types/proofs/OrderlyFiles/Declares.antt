-- What declarations of types do, and that numbers are new.
use Rattle.std.proofs.Common.{◌≡◌, ◌⊎◌, inl, inr, ℕ, ◌<◌, ◌≤◌, Bool, true, false, not, ◌&&◌, List, [], ◌∷◌, ◌++◌, refl, sym, ap, ◌∙◌, arith, length, nat_eq, Option, Some, None, true≢false, subst, if◌then◌else◌}
use Rattle.std.specs.Prelude.{slice_get}
use Rattle.std.proofs.lemmas.Option.{slice_get_within}
use Rattle.machine.specs.spark_base.declared.position.Pos.{Pos}
use Rattle.machine.specs.spark_base.Lists.{Has}
use Rattle.name_events.specs.declared.event.Event.{Event}
use Rattle.name_events.specs.declared.event.Event.TheVariants as e
use Rattle.name_events.specs.declared.event.FoldedIdentifier.{FoldedIdentifier}
use Rattle.name_events.specs.declared.declaration.DeclarationForm.{DeclarationForm}
use Rattle.name_events.specs.declared.declaration.DeclarationForm.TheVariants as form
use Rattle.name_events.specs.declared.declaration.RegionPart.{RegionPart}
use Rattle.name_events.specs.declared.declaration.RegionPart.TheVariants as part
use Rattle.name_events.specs.declared.declaration.Declaration.{Declaration}
use Rattle.name_events.specs.declared.declaration.Identified.{Identified}
use Rattle.name_events.specs.Declarations.{Name, Entry, has_number, is_type_form}
use Rattle.name_events.specs.Known.{Known, here, part_here}
use Rattle.name_events.specs.Completions.{completed_by, completes_form, awaits}
use Rattle.name_events.specs.KnownBehind.{known_behind, known_behind_all, behind_declaration, declare, new_entry}
use Rattle.name_events.specs.Identified.{number_declared, completed_or_next}
use Rattle.machine.specs.type_definitions.Faults.{is_before}
use Rattle.settled_types.specs.Orderly.{Past, without, with_defined, IsNew, Completes}
use Rattle.settled_types.specs.OrderlyFiles.Regions.{AreRegions, IsTypeAt, AreTypes, HasPrivates, IsQuiet}
use Rattle.settled_types.specs.OrderlyFiles.Numbered.{IsNumbered, AreNumbered, is_quiet, all_quiet, is_flat, all_flat, IsNewAt, AreNewAt}
use Rattle.settled_types.proofs.OrderlyFiles.Steps.{unsome, get_kept, get_last, get_more, not_added, both, IsCompletion, completion, regions_behind, is_package_event, quiet_behind, declares_type, quiet_self, quiet_then, types_later}

-- ---- lists without a number

pub keep_without : (d t : ℕ) (xs : List ℕ) → Has xs t → (t ≡ d → ⊥) → Has (without d xs) t
keep_without d t [] is other = is
keep_without d t (x ∷ rest) is other = by (λ is. keep_without d t rest is other) (nat_eq x d) refl is
  where
    same : (x d : ℕ) → nat_eq x d ≡ true → x ≡ d
    same x d e = grind (arith, e)

    by : (Has rest t → Has (without d rest) t) → (b : Bool) → nat_eq x d ≡ b → Has (x ∷ rest) t
        → Has (if b then without d rest else x ∷ without d rest) t
    by later true e (inl at) = absurd (other (sym at ∙ same x d e))
    by later true e (inr is) = later is
    by later false e (inl at) = inl at
    by later false e (inr is) = inr (later is)

-- ---- numbers

abbrev pub next_number : Known → ℕ
next_number now = length now.declared

not_within : (now : Known) (e : Entry) (d : ℕ) → d ≡ next_number now → slice_get now.declared d ≡ Some e → ⊥
not_within now e d at is = let a = slice_get_within now.declared d e is in omega (arith, a, at)

pub next_new : (count : ℕ) (now : Known) (past : Past) → AreRegions now → AreTypes now past → next_number now < count → IsNew count (next_number now) past
next_new count now past regions are less = (
  regions.many,
  less,
  λ is. let a = are.awaited (next_number now) is in not_within now a.1.0 (next_number now) refl a.1.1,
  λ is. elim (are.defined (next_number now) is) [
    | inl four ↦ let a = regions.many in absurd (omega (arith, a, four))
    | inr at ↦ not_within now at.1.0 (next_number now) refl at.1.1
  ],
)

-- a declaration of something else than a type has a number that no type has
other_new : (count : ℕ) (now : Known) (past : Past) (d : ℕ) (e : Entry) → AreTypes now past → slice_get now.declared d ≡ Some e → 15 ≤ d → d < count
    → is_type_form e.1.form ≡ false → IsNew count d past
other_new count now past d e are stands late less other = (
  late,
  less,
  λ is. let a = are.awaited d is in clash a.1.0 a.1.1 a.1.2,
  λ is. elim (are.defined d is) [
    | inl four ↦ absurd (omega (arith, late, four))
    | inr at ↦ clash at.1.0 at.1.1 at.1.2
  ],
)
  where
    clash : (x : Entry) → slice_get now.declared d ≡ Some x → is_type_form x.1.form ≡ true → ⊥
    clash x is type = true≢false (sym type ∙ ap (λ (e : Entry). is_type_form e.1.form) (unsome (sym is ∙ stands)) ∙ other)

sub_completes : (old : DeclarationForm) (p : RegionPart) (new : DeclarationForm) (q : RegionPart) → is_type_form new ≡ false
    → completes_form old p new q ≡ true → old ≡ form.SubprogramDeclaration
sub_completes form.IncompleteType p form.FullType q other e = absurd (true≢false other)
sub_completes form.PrivateType p form.FullType q other e = absurd (true≢false other)
sub_completes form.SubprogramDeclaration p form.ProcedureBody q other e = refl
sub_completes form.SubprogramDeclaration p form.FunctionBody q other e = refl
sub_completes _ p _ q other e = absurd (true≢false (sym e))

-- What declares no type has a new number.
pub other_number : (count : ℕ) (now : Known) (past : Past) (new : DeclarationForm) (w : Name) → is_type_form new ≡ false → AreRegions now → AreTypes now past
    → number_declared now new w < count → IsNew count (number_declared now new w) past
other_number count now past new w other regions are less = by (completed_by now new w) refl less
  where
    by : (o : Option Declaration) → completed_by now new w ≡ o → completed_or_next now o < count → IsNew count (completed_or_next now o) past
    by None at less = next_new count now past regions are less
    by (Some d) at less =
        let c = completion now new w d regions.numbers at in
        let sub : d.form ≡ form.SubprogramDeclaration = sub_completes d.form d.part new (part_here now) other c.completes in
        let entry : c.entry.1.form ≡ form.SubprogramDeclaration = ap (λ (d : Declaration). d.form) c.is ∙ sub in
        other_new count now past d.number c.entry are c.stands (regions.late d.number c.entry c.stands (ap awaits entry)) less (ap is_type_form entry)

-- ---- types that are declared

module _ (now : Known) (past : Past) (new : DeclarationForm) (id : FoldedIdentifier) (regions : AreRegions now) (are : AreTypes now past)
    (type : is_type_form new ≡ true) where
  abbrev at : ℕ
  at = next_number now

  abbrev entry : Entry
  entry = new_entry now new id

  abbrev after : Known
  after = declare now entry

  older : (d : ℕ) → IsTypeAt now d → IsTypeAt after d
  older d is = (is.0, (is.1.0, get_kept now.declared (entry ∷ []) d is.1.0 is.1.1, is.1.2))

  newest : IsTypeAt after at
  newest = (regions.many, (entry, get_last now.declared entry, type))

  newest_is : (d : ℕ) → at ≡ d → IsTypeAt after d
  newest_is d same = subst (IsTypeAt after) same newest

  older_defined : (d : ℕ) → (d ≡ 4) ⊎ IsTypeAt now d → (d ≡ 4) ⊎ IsTypeAt after d
  older_defined d (inl four) = inl four
  older_defined d (inr is) = inr (older d is)

  within_at : (d : ℕ) (e : Entry) → slice_get now.declared d ≡ Some e → d ≡ at → ⊥
  within_at d e is same = not_within now e d same is

  -- one that is completed later
  pub awaited_types : (privates incompletes : List ℕ) → ((d : ℕ) → Has past.incomplete d → Has incompletes d)
      → (new ≡ form.IncompleteType → Has incompletes at)
      → AreTypes after (record past { awaited = at ∷ past.awaited; private = privates; incomplete = incompletes })
  awaited_types privates incompletes more this = record {
    awaited = λ d is. elim is [ inl same ↦ newest_is d same | inr was ↦ older d (are.awaited d was) ];
    defined = λ d is. older_defined d (are.defined d is);
    incomplete = λ d e is what waits. elim (get_more now.declared e entry d is) [
      | inl was ↦ more d (are.incomplete d e was what waits)
      | inr last ↦ subst (Has incompletes) (sym last.0) (this (ap (λ (e : Entry). e.1.form) last.1 ∙ what))
    ];
  }

  -- one that is defined
  pub defined_types : (marks : List Pos) → (new ≡ form.IncompleteType → ⊥) → AreTypes after (with_defined at marks past)
  defined_types marks whole = record {
    awaited = λ d is. older d (are.awaited d is);
    defined = λ d is. elim is [ inl same ↦ inr (newest_is d same) | inr was ↦ older_defined d (are.defined d was) ];
    incomplete = λ d e is what waits. elim (get_more now.declared e entry d is) [
      | inl was ↦ keep_without at d past.incomplete (are.incomplete d e was what waits) (within_at d e was)
      | inr last ↦ absurd (whole (ap (λ (e : Entry). e.1.form) last.1 ∙ what))
    ];
  }

  pub defined_privates : (marks : List Pos) (region : ℕ) → (new ≡ form.PrivateType → ⊥) → HasPrivates now past region
      → HasPrivates after (with_defined at marks past) region
  defined_privates marks region whole has d e is what where_is visible waits = elim (get_more now.declared e entry d is) [
    | inl was ↦ keep_without at d past.private (has d e was what where_is visible waits) (within_at d e was)
    | inr last ↦ absurd (whole (ap (λ (e : Entry). e.1.form) last.1 ∙ what))
  ]

  pub awaited_privates : (privates incompletes : List ℕ) (region : ℕ) → ((d : ℕ) → Has past.private d → Has privates d)
      → (new ≡ form.PrivateType → Has privates at ⊎ ((here now ≡ region → ⊥) ⊎ (part_here now ≡ part.Visible → ⊥))) → HasPrivates now past region
      → HasPrivates after (record past { awaited = at ∷ past.awaited; private = privates; incomplete = incompletes }) region
  awaited_privates privates incompletes region more this has d e is what where_is visible waits =
      elim (get_more now.declared e entry d is) [
        | inl was ↦ more d (has d e was what where_is visible waits)
        | inr last ↦
            by (this (ap (λ (e : Entry). e.1.form) last.1 ∙ what)) last.0 (ap (λ (e : Entry). e.1.region) last.1 ∙ where_is)
            (ap (λ (e : Entry). e.1.part) last.1 ∙ visible)
      ]
    where
      by : Has privates at ⊎ ((here now ≡ region → ⊥) ⊎ (part_here now ≡ part.Visible → ⊥)) → d ≡ at → here now ≡ region → part_here now ≡ part.Visible
          → Has privates d
      by (inl has) same at_region shown = subst (Has privates) (sym same) has
      by (inr (inl other)) same at_region shown = absurd (other at_region)
      by (inr (inr hidden)) same at_region shown = absurd (hidden shown)

-- ---- a full type

full_cases : (old : DeclarationForm) (p q : RegionPart) → completes_form old p form.FullType q ≡ true
    → (old ≡ form.IncompleteType) ⊎ ((old ≡ form.PrivateType) × (p ≡ part.Visible) × (q ≡ part.Private))
full_cases form.IncompleteType p q e = inl refl
full_cases form.PrivateType part.Visible part.Private e = inr (refl, refl, refl)
full_cases form.PrivateType p q e = absurd (true≢false (sym e))
full_cases _ p q e = absurd (true≢false (sym e))

-- Where the private part of a package is open, the private types of its visible part are known.
abbrev pub IsAware : Known → Past → Type 0
IsAware now past = part_here now ≡ part.Private → HasPrivates now past (here now)

module _ (now : Known) (past : Past) (id : FoldedIdentifier) (d : Declaration) (regions : AreRegions now) (are : AreTypes now past)
    (at : completed_by now form.FullType id.name ≡ Some d) where
  abbrev c : IsCompletion now form.FullType d
  c = completion now form.FullType id.name d regions.numbers at

  abbrev ended : Known
  ended = behind_declaration now form.FullType id (Some d)

  form_is : (f : DeclarationForm) → d.form ≡ f → c.entry.1.form ≡ f
  form_is f e = ap (λ (d : Declaration). d.form) c.is ∙ e

  other_one : (t : ℕ) → (has_number d.number now.completed ≡ true) ⊎ (nat_eq t d.number ≡ false) → t ≡ d.number → ⊥
  other_one t (inl was) same = true≢false (sym was ∙ c.waits)
  other_one t (inr other) same = true≢false (sym (equal t d.number same) ∙ other)
    where
      equal : (a b : ℕ) → a ≡ b → nat_eq a b ≡ true
      equal a b e = grind (arith, e)

  late_form : (f : DeclarationForm) → d.form ≡ f → awaits f ≡ true → 15 ≤ d.number
  late_form f e waits = regions.late d.number c.entry c.stands (ap awaits (form_is f e) ∙ waits)

  type_form : (f : DeclarationForm) → d.form ≡ f → is_type_form f ≡ true → awaits f ≡ true → IsTypeAt now d.number
  type_form f e type waits = (late_form f e waits, (c.entry, c.stands, ap is_type_form (form_is f e) ∙ type))

  completed_type : IsTypeAt now d.number
  completed_type = elim (full_cases d.form d.part (part_here now) c.completes) [
    | inl incomplete ↦ type_form form.IncompleteType incomplete refl refl
    | inr hidden ↦ type_form form.PrivateType hidden.0 refl refl
  ]

  pub completed_types : (marks : List Pos) → AreTypes ended (with_defined d.number marks past)
  completed_types marks = record {
    awaited = are.awaited;
    defined = λ t is. elim is [ inl same ↦ inr (subst (IsTypeAt now) same completed_type) | inr was ↦ are.defined t was ];
    incomplete = λ t e is what waits.
        let n = not_added now.completed t d.number waits in
        keep_without d.number t past.incomplete (are.incomplete t e is what n.0) (other_one t n.1);
  }

  pub completed_privates : (marks : List Pos) (region : ℕ) → HasPrivates now past region → HasPrivates ended (with_defined d.number marks past) region
  completed_privates marks region has t e is what where_is visible waits =
      let n = not_added now.completed t d.number waits in
      keep_without d.number t past.private (has t e is what where_is visible n.0) (other_one t n.1)

  pub completes_now : (count : ℕ) (end : Pos) (marks : List Pos) → d.number < count → IsAware now past
      → ((x : Pos) → Has marks x → is_before end x ≡ false) → Completes count end marks d.number past
  completes_now count end marks less aware before = (
    completed_type.0,
    less,
    elim (full_cases d.form d.part (part_here now) c.completes) [
      | inl incomplete ↦ inr (inr (are.incomplete d.number c.entry c.stands (form_is form.IncompleteType incomplete) c.waits, before))
      | inr hidden ↦
          inr (inl (aware hidden.2 d.number c.entry c.stands (form_is form.PrivateType hidden.0) (ap (λ (d : Declaration). d.region) c.is ∙ c.region)
          (ap (λ (d : Declaration). d.part) c.is ∙ hidden.1) c.waits))
    ],
  )

-- ---- lists of events

and_both : (a b : Bool) → a && b ≡ true → (a ≡ true) × (b ≡ true)
and_both a b e = both a b e

not_type_event : (event : Event) → is_quiet event ≡ true → (declares_type event ≡ false) × (is_package_event event ≡ false)
not_type_event (e.Declares form.Package id) quiet = absurd (true≢false (sym quiet))
not_type_event (e.Declares new id) quiet = (flip (is_type_form new) quiet, refl)
  where
    flip : (b : Bool) → not b ≡ true → b ≡ false
    flip true e = absurd (true≢false (sym e))
    flip false e = refl
not_type_event _ quiet = (refl, refl)

pub quiet_all : (events : List Event) (now : Known) → all_quiet events ≡ true → AreRegions now
    → AreRegions (known_behind_all now events) × IsQuiet now (known_behind_all now events)
quiet_all [] now quiet regions = (regions, quiet_self now)
quiet_all (event ∷ rest) now quiet regions =
    let q = and_both (is_quiet event) (all_quiet rest) quiet in
    let n = not_type_event event q.0 in
    let r = quiet_all rest (known_behind now event) q.1 (regions_behind now event n.1 regions) in
    (r.0, quiet_then now (known_behind now event) (known_behind_all (known_behind now event) rest) (quiet_behind now event n.0) r.1)

pub new_all : (count : ℕ) (numbers : List Identified) (events : List Event) (now : Known) (past : Past) → all_quiet events ≡ true → AreRegions now
    → AreTypes now past → AreNumbered count numbers now events → AreNewAt count numbers past events
new_all count numbers [] now past quiet regions are numbered = tt
new_all count numbers (event ∷ rest) now past quiet regions are numbered =
    let q = and_both (is_quiet event) (all_quiet rest) quiet in
    let n = not_type_event event q.0 in (
      one event q.0 numbered.0,
      new_all count numbers rest (known_behind now event) past q.1 (regions_behind now event n.1 regions)
          (types_later now (known_behind now event) past (quiet_behind now event n.0) are) numbered.1,
    )
  where
    one : (event : Event) → is_quiet event ≡ true → IsNumbered count numbers now event → IsNewAt count numbers past event
    one (e.Declares new id) quiet at =
        subst (λ d. IsNew count d past) (sym at.0)
        (other_number count now past new id.name (not_type_event (e.Declares new id) quiet).0 regions are at.1)
    one _ quiet at = tt

pub numbered_both : (count : ℕ) (numbers : List Identified) (xs ys : List Event) (now : Known) → AreNumbered count numbers now (xs ++ ys)
    → AreNumbered count numbers now xs × AreNumbered count numbers (known_behind_all now xs) ys
numbered_both count numbers [] ys now are = (tt, are)
numbered_both count numbers (x ∷ rest) ys now are =
    let r = numbered_both count numbers rest ys (known_behind now x) are.1 in ((are.0, r.0), r.1)

pub behind_both : (xs ys : List Event) (now : Known) → known_behind_all now (xs ++ ys) ≡ known_behind_all (known_behind_all now xs) ys
behind_both [] ys now = refl
behind_both (x ∷ rest) ys now = behind_both rest ys (known_behind now x)

pub new_both : (count : ℕ) (numbers : List Identified) (past : Past) (xs ys : List Event) → AreNewAt count numbers past (xs ++ ys)
    → AreNewAt count numbers past xs × AreNewAt count numbers past ys
new_both count numbers past [] ys are = (tt, are)
new_both count numbers past (x ∷ rest) ys are = let r = new_both count numbers past rest ys are.1 in ((are.0, r.0), r.1)

-- ---- regions that are open

declaration_flat : (now : Known) (new : DeclarationForm) (id : FoldedIdentifier) (o : Option Declaration)
    → (behind_declaration now new id o).open_regions ≡ now.open_regions
declaration_flat now new id (Some d) = refl
declaration_flat now form.Package id None = refl
declaration_flat now new id None = refl

flat_behind : (now : Known) (event : Event) → is_flat event ≡ true → (known_behind now event).open_regions ≡ now.open_regions
unfolding known_behind
flat_behind now (e.UnitBegins body_of) flat = absurd (true≢false (sym flat))
flat_behind now e.RegionOpens flat = absurd (true≢false (sym flat))
flat_behind now (e.PackageBodyOpens id) flat = absurd (true≢false (sym flat))
flat_behind now e.PrivatePartBegins flat = absurd (true≢false (sym flat))
flat_behind now e.RegionCloses flat = absurd (true≢false (sym flat))
flat_behind now (e.Declares new id) flat = declaration_flat now new id (completed_by now new id.name)
flat_behind now _ flat = refl

pub flat_all : (events : List Event) (now : Known) → all_flat events ≡ true → (known_behind_all now events).open_regions ≡ now.open_regions
flat_all [] now flat = refl
flat_all (event ∷ rest) now flat =
    let f = and_both (is_flat event) (all_flat rest) flat in
    flat_all rest (known_behind now event) f.1 ∙ flat_behind now event f.0
