-- What single events do to what names may denote.
use Rattle.std.proofs.Common.{◌≡◌, ◌⊎◌, inl, inr, ℕ, ◌<◌, ◌≤◌, Bool, true, false, not, ◌&&◌, List, [], ◌∷◌, ◌++◌, filter, drop, length, nat_eq, refl, sym, ap, ◌∙◌, subst, arith, Option, Some, None, true≢false, if◌then◌else◌}
use Rattle.machine.specs.spark_base.Lists.{Has}
use Rattle.soundness.proofs.Lists.{Has-append_cases, Has-append_left, Has-append_right, Has-filter}
use Rattle.name_events.specs.declared.event.Event.TheVariants as e
use Rattle.name_events.specs.declared.event.FoldedIdentifier.{FoldedIdentifier}
use Rattle.name_events.specs.declared.declaration.DeclarationForm.{DeclarationForm}
use Rattle.name_events.specs.declared.declaration.DeclarationForm.TheVariants as form
use Rattle.name_events.specs.declared.declaration.RegionPart.{RegionPart}
use Rattle.name_events.specs.declared.declaration.Declaration.{Declaration}
use Rattle.name_events.specs.declared.declaration.OpenRegion.{OpenRegion}
use Rattle.name_events.specs.Declarations.{Name, Entry, has_number, is_package, is_package_form}
use Rattle.name_events.specs.Known.{Known, here, part_here, region_of}
use Rattle.name_events.specs.Completions.{completed_by, completes_form, may_complete, if_completes, awaiting}
use Rattle.name_events.specs.KnownBehind.{known_behind, behind_declaration, new_entry, end_in, open_region}
use Rattle.sound_files.specs.SeenFiles.Reached.{is_object_form, is_object, IsReached, IsAt, IsSince}

-- ---- regions

low_first : (count : ℕ) (os : List OpenRegion) → 0 < count → ((o : OpenRegion) → Has os o → o.region < count) → region_of os < count
low_first count [] some around = some
low_first count (o ∷ rest) some around = around o (inl refl)

pub here_low : (now : Known) (scope waiting : List ℕ) → IsAt now scope waiting → here now < now.region_count
here_low now scope waiting at = low_first now.region_count now.open_regions at.some at.around

-- what is reached is a region that has begun
pub reached_low : (now : Known) (scope waiting : List ℕ) (r : ℕ) → IsAt now scope waiting → IsReached now r → r < now.region_count
reached_low now scope waiting r at (inl is) = let a = at.some in omega (arith, a, is)
reached_low now scope waiting r at (inr (inl open_is)) = let a = at.around open_is.0 open_is.1 in let b = open_is.2 in omega (arith, a, b)
reached_low now scope waiting r at (inr (inr of)) = let a = at.packages of.0 of.1 of.2 in let b = of.3 in omega (arith, a, b)

pub reached_same : (now after : Known) (r : ℕ) → after.open_regions ≡ now.open_regions → ((h : Entry) → Has after.ended h → is_package h.1 ≡ true → Has now.ended h)
    → IsReached after r → IsReached now r
reached_same now after r around packages (inl is) = inl is
reached_same now after r around packages (inr (inl is)) = inr (inl (is.0, subst (λ os. Has os is.0) around is.1, is.2))
reached_same now after r around packages (inr (inr is)) = inr (inr (is.0, packages is.0 is.1 is.2, is.2, is.3))

-- ---- more in scope

pub at_more : (now : Known) (scope scope_then waiting waiting_then : List ℕ) → ((n : ℕ) → Has scope n → Has scope_then n)
    → ((n : ℕ) → Has waiting n → Has waiting_then n) → IsAt now scope waiting → IsAt now scope_then waiting_then
at_more now scope scope_then waiting waiting_then more waits at = record {
  some = at.some;
  around = at.around;
  packages = at.packages;
  low = at.low;
  seen = λ x has is reached. more x.1.number (at.seen x has is reached);
  waits = λ x has is. let w = at.waits x has is in (waits x.1.number w.0, w.1);
  still = at.still;
}

-- ---- one place after another

pub since_self : (now : Known) → IsSince now now
since_self now = record {
  ended = λ x has is. inl has;
  packages = λ h has is. has;
  count = self now.region_count;
  around = refl;
}
  where
    self : (n : ℕ) → n ≤ n
    self n = omega arith

pub since_then : (now middle after : Known) → IsSince now middle → IsSince middle after → IsSince now after
since_then now middle after one two = record {
  ended = λ x has is. elim (two.ended x has is) [
    | inl was ↦ one.ended x was is
    | inr (inl high) ↦ (let a = one.count in inr (inl (omega (arith, a, high))))
    | inr (inr at) ↦ inr (inr (at ∙ ap region_of one.around))
  ];
  packages = λ h has is. one.packages h (two.packages h has is) is;
  count = let a = one.count in let b = two.count in omega (arith, a, b);
  around = two.around ∙ one.around;
}

-- ---- events that change no list of declarations

abbrev pub Both : Known → Known → List ℕ → List ℕ → Type 0
Both now after scope waiting = IsAt after scope waiting × IsSince now after

pub same_at : (now after : Known) (scope waiting : List ℕ) → after.region_count ≡ now.region_count → after.open_regions ≡ now.open_regions
    → after.ended ≡ now.ended → after.pending ≡ now.pending → IsAt now scope waiting → Both now after scope waiting
same_at now after scope waiting count around ended pending at = (
  record {
    some = subst (λ n. 0 < n) (sym count) at.some;
    around = λ o has. subst (λ n. o.region < n) (sym count) (at.around o (subst (λ os. Has os o) around has));
    packages = λ h has is. subst (λ n. h.1.own_region < n) (sym count) (at.packages h (was h has) is);
    low = λ x has is. subst (λ n. x.1.region < n) (sym count) (at.low x (was x has) is);
    seen = λ x has is reached. at.seen x (was x has) is (reached_same now after x.1.region around (λ h has is. was h has) reached);
    waits = λ x has is. let w = at.waits x (subst (λ xs. Has xs x) pending has) is in (w.0, w.1 ∙ ap region_of (sym around));
    still = λ x has. at.still x (subst (λ xs. Has xs x) pending has);
  },
  record {
    ended = λ x has is. inl (was x has);
    packages = λ h has is. was h has;
    count = omega (arith, count);
    around = around;
  },
)
  where
    was : (x : Entry) → Has after.ended x → Has now.ended x
    was x has = subst (λ xs. Has xs x) ended has

-- ---- declarations

-- What declares an object completes nothing.
pub completes_nothing : (now : Known) (new : DeclarationForm) (w : Name) → is_object_form new ≡ true → completed_by now new w ≡ None
completes_nothing now new w is = by (awaiting now.declared (here now) w)
  where
    not_so : (a b c : Bool) → b ≡ false → a && (b && c) ≡ false
    not_so a b c e = grind (arith, e)

    never : (old new : DeclarationForm) (a b : RegionPart) → is_object_form new ≡ true → completes_form old a new b ≡ false
    never form.IncompleteType form.FullType a b is = absurd (true≢false (sym is))
    never form.PrivateType form.FullType a b is = absurd (true≢false (sym is))
    never form.SubprogramDeclaration form.ProcedureBody a b is = absurd (true≢false (sym is))
    never form.SubprogramDeclaration form.FunctionBody a b is = absurd (true≢false (sym is))
    never old new a b is = refl

    by : (found : Option Declaration) → if_completes now new found ≡ None
    by None = refl
    by (Some d) =
        ap (λ b. if b then Some d else None)
        (not_so (may_complete now) (completes_form d.form d.part new (part_here now)) (not (has_number d.number now.completed))
        (never d.form new d.part (part_here now) is))

-- One more declaration waits.
declared_at : (now after : Known) (scope waiting waiting_then : List ℕ) (new : Entry) → after.region_count ≡ now.region_count
    → after.open_regions ≡ now.open_regions → after.ended ≡ now.ended → after.pending ≡ now.pending ++ new ∷ [] → is_package new.1 ≡ false
    → new.1.region ≡ here now → ((n : ℕ) → Has waiting n → Has waiting_then n) → (is_object new ≡ true → Has waiting_then new.1.number)
    → IsAt now scope waiting → Both now after scope waiting_then
declared_at now after scope waiting waiting_then new count around ended pending no_package where_is more waits at = (
  record {
    some = subst (λ n. 0 < n) (sym count) at.some;
    around = λ o has. subst (λ n. o.region < n) (sym count) (at.around o (subst (λ os. Has os o) around has));
    packages = λ h has is. subst (λ n. h.1.own_region < n) (sym count) (at.packages h (was h has) is);
    low = λ x has is. subst (λ n. x.1.region < n) (sym count) (at.low x (was x has) is);
    seen = λ x has is reached. at.seen x (was x has) is (reached_same now after x.1.region around (λ h has is. was h has) reached);
    waits = λ x has is. elim (Has-append_cases now.pending (new ∷ []) x (subst (λ xs. Has xs x) pending has)) [
      | inl old ↦ (let w = at.waits x old is in (more x.1.number w.0, w.1 ∙ ap region_of (sym around)))
      | inr (inl same) ↦ (
        subst (λ (y : Entry). Has waiting_then y.1.number) same (waits (ap is_object same ∙ is)),
        ap (λ (y : Entry). y.1.region) (sym same) ∙ where_is ∙ ap region_of (sym around),
      )
      | inr (inr never) ↦ absurd never
    ];
    still = λ x has is. elim (Has-append_cases now.pending (new ∷ []) x (subst (λ xs. Has xs x) pending has)) [
      | inl old ↦ at.still x old is
      | inr (inl same) ↦ true≢false (sym is ∙ ap (λ (y : Entry). is_package y.1) (sym same) ∙ no_package)
      | inr (inr never) ↦ never
    ];
  },
  record {
    ended = λ x has is. inl (was x has);
    packages = λ h has is. was h has;
    count = omega (arith, count);
    around = around;
  },
)
  where
    was : (x : Entry) → Has after.ended x → Has now.ended x
    was x has = subst (λ xs. Has xs x) ended has

-- What declares no object and no package leaves what waits.
other_at : (now : Known) (new : DeclarationForm) (id : FoldedIdentifier) (o : Option Declaration) (scope waiting : List ℕ) → is_package_form new ≡ false
    → is_object_form new ≡ false → IsAt now scope waiting → Both now (behind_declaration now new id o) scope waiting
other_at now new id (Some d) scope waiting no_package no_object at = same_at now (behind_declaration now new id (Some d)) scope waiting refl refl refl refl at
other_at now form.Package id None scope waiting no_package no_object at = absurd (true≢false no_package)
other_at now new id None scope waiting no_package no_object at =
    declared_at now (behind_declaration now new id None) scope waiting waiting (new_entry now new id) refl refl refl refl no_package refl (λ n has. has)
    (λ is. absurd (true≢false (sym is ∙ no_object))) at

pub other_declared : (now : Known) (new : DeclarationForm) (id : FoldedIdentifier) (scope waiting : List ℕ) → is_package_form new ≡ false
    → is_object_form new ≡ false → IsAt now scope waiting → Both now (known_behind now (e.Declares new id)) scope waiting
unfolding known_behind
other_declared now new id scope waiting no_package no_object at =
    other_at now new id (completed_by now new id.name) scope waiting no_package no_object at

pub object_at : (now : Known) (new : DeclarationForm) (id : FoldedIdentifier) (scope waiting : List ℕ) → is_object_form new ≡ true
    → IsAt now scope waiting → Both now (behind_declaration now new id None) scope (length now.declared ∷ waiting)
object_at now form.Object id scope waiting is at =
    declared_at now (behind_declaration now form.Object id None) scope waiting (length now.declared ∷ waiting) (new_entry now form.Object id) refl refl refl refl
    refl refl (λ n has. inr has) (λ is. inl refl) at
object_at now form.Formal id scope waiting is at =
    declared_at now (behind_declaration now form.Formal id None) scope waiting (length now.declared ∷ waiting) (new_entry now form.Formal id) refl refl refl refl
    refl refl (λ n has. inr has) (λ is. inl refl) at
object_at now form.LoopParameter id scope waiting is at =
    declared_at now (behind_declaration now form.LoopParameter id None) scope waiting (length now.declared ∷ waiting) (new_entry now form.LoopParameter id) refl
    refl refl refl refl refl (λ n has. inr has) (λ is. inl refl) at
object_at now new id scope waiting is at = absurd (true≢false (sym is))

-- ---- ends

-- What waits in a region ends: what is declared is in scope then.
end_at : (region : ℕ) (now : Known) (scope waiting : List ℕ) → (region ≡ here now) ⊎ (waiting ≡ []) → IsAt now scope waiting
    → Both now (end_in region now) (waiting ++ scope) []
end_at region now scope waiting which at = (
  record {
    some = at.some;
    around = at.around;
    packages = λ h has is. at.packages h (packages_was h has is) is;
    low = λ x has is. elim (Has-append_cases now.ended (filter (λ (entry : Entry). nat_eq region entry.1.region) now.pending) x has) [
      | inl old ↦ at.low x old is
      | inr new ↦
          (let w = at.waits x (Has-filter (λ (entry : Entry). nat_eq region entry.1.region) now.pending x new).0 is in
          let a = here_low now scope waiting at in let b = w.1 in omega (arith, a, b))
    ];
    seen = λ x has is reached. elim (Has-append_cases now.ended (filter (λ (entry : Entry). nat_eq region entry.1.region) now.pending) x has) [
      | inl old ↦ Has-append_right waiting scope x.1.number
          (at.seen x old is (reached_same now (end_in region now) x.1.region refl (λ h has is. packages_was h has is) reached))
      | inr new ↦ Has-append_left waiting scope x.1.number
          (at.waits x (Has-filter (λ (entry : Entry). nat_eq region entry.1.region) now.pending x new).0 is).0
    ];
    waits = λ x has is.
        let f = Has-filter (λ (entry : Entry). not (nat_eq region entry.1.region)) now.pending x has in
        let w = at.waits x f.0 is in
        elim which [
          | inl same ↦ absurd (apart region x.1.region (same ∙ sym w.1) f.1)
          | inr none ↦ absurd (subst (λ ns. Has ns x.1.number) none w.0)
        ];
    still = λ x has. at.still x (Has-filter (λ (entry : Entry). not (nat_eq region entry.1.region)) now.pending x has).0;
  },
  record {
    ended = λ x has is. elim (Has-append_cases now.ended (filter (λ (entry : Entry). nat_eq region entry.1.region) now.pending) x has) [
      | inl old ↦ inl old
      | inr new ↦ inr (inr (at.waits x (Has-filter (λ (entry : Entry). nat_eq region entry.1.region) now.pending x new).0 is).1)
    ];
    packages = λ h has is. packages_was h has is;
    count = self now.region_count;
    around = refl;
  },
)
  where
    self : (n : ℕ) → n ≤ n
    self n = omega arith

    apart : (a b : ℕ) → a ≡ b → not (nat_eq a b) ≡ true → ⊥
    apart a b same e = grind (arith, same, e)

    packages_was : (h : Entry) → Has (now.ended ++ filter (λ (entry : Entry). nat_eq region entry.1.region) now.pending) h → is_package h.1 ≡ true
        → Has now.ended h
    packages_was h has is = elim (Has-append_cases now.ended (filter (λ (entry : Entry). nat_eq region entry.1.region) now.pending) h has) [
      | inl old ↦ old
      | inr new ↦ absurd (at.still h (Has-filter (λ (entry : Entry). nat_eq region entry.1.region) now.pending h new).0 is)
    ]

pub ends_at : (now : Known) (scope waiting : List ℕ) → IsAt now scope waiting → Both now (known_behind now e.DeclarationsEnd) (waiting ++ scope) []
unfolding known_behind
ends_at now scope waiting at = end_at (here now) now scope waiting (inl refl) at

pub outer_ends_at : (now : Known) (scope : List ℕ) → IsAt now scope [] → Both now (known_behind now e.OuterDeclarationsEnd) scope []
unfolding known_behind
outer_ends_at now scope at = end_at (region_of (drop 1 now.open_regions)) now scope [] (inr refl) at

-- ---- regions that open and close

pub opens_at : (now : Known) (scope : List ℕ) → IsAt now scope [] → IsAt (known_behind now e.RegionOpens) scope []
unfolding known_behind
opens_at now scope at = record {
  some = omega arith;
  around = λ o has. elim has [
    | inl same ↦ (let a = ap (λ (o : OpenRegion). o.region) (sym same) in omega (arith, a))
    | inr old ↦ (let a = at.around o old in omega (arith, a))
  ];
  packages = λ h has is. let a = at.packages h has is in omega (arith, a);
  low = λ x has is. let a = at.low x has is in omega (arith, a);
  seen = λ x has is reached. at.seen x has is (was x has is reached);
  waits = λ x has is. absurd (at.waits x has is).0;
  still = at.still;
}
  where
    was : (x : Entry) → Has now.ended x → is_object x ≡ true → IsReached (open_region now) x.1.region → IsReached now x.1.region
    was x has is (inl zero_is) = inl zero_is
    was x has is (inr (inl (o, (inl same), at_region))) =
        let a = at.low x has is in let b = ap (λ (o : OpenRegion). o.region) (sym same) in absurd (omega (arith, a, b, at_region))
    was x has is (inr (inl (o, (inr old), at_region))) = inr (inl (o, old, at_region))
    was x has is (inr (inr of)) = inr (inr of)

-- A region that opened here closes: what was declared in it is out of reach.
pub closes_at : (now middle : Known) (scope inner_scope : List ℕ) → IsAt now scope [] → IsAt middle inner_scope []
    → IsSince (known_behind now e.RegionOpens) middle → Both now (known_behind middle e.RegionCloses) scope []
unfolding known_behind
closes_at now middle scope inner_scope at inner since = (
  record {
    some = inner.some;
    around = λ o has. inner.around o (dropped middle.open_regions o has);
    packages = inner.packages;
    low = inner.low;
    seen = λ x has is reached. at.seen x (ended_before x has is reached) is (was x.1.region reached);
    waits = λ x has is. absurd (inner.waits x has is).0;
    still = inner.still;
  },
  record {
    ended = λ x has is. elim (since.ended x has is) [
      | inl old ↦ inl old
      | inr (inl high) ↦ inr (inl (omega (arith, high)))
      | inr (inr here_is) ↦ inr (inl (omega (arith, here_is)))
    ];
    packages = since.packages;
    count = let a = since.count in omega (arith, a);
    around = around;
  },
)
  where
    around : drop 1 middle.open_regions ≡ now.open_regions
    around = ap (drop 1) since.around

    dropped : (os : List OpenRegion) (o : OpenRegion) → Has (drop 1 os) o → Has os o
    dropped [] o has = has
    dropped (x ∷ rest) o has = inr has

    was : (r : ℕ) → IsReached (record middle { open_regions = drop 1 middle.open_regions }) r → IsReached now r
    was r reached = reached_same now (record middle { open_regions = drop 1 middle.open_regions }) r around (λ h has is. since.packages h has is) reached

    ended_before : (x : Entry) → Has middle.ended x → is_object x ≡ true → IsReached (record middle { open_regions = drop 1 middle.open_regions }) x.1.region
        → Has now.ended x
    ended_before x has is reached =
        let low = reached_low now scope [] x.1.region at (was x.1.region reached) in
        elim (since.ended x has is) [
          | inl old ↦ old
          | inr (inl high) ↦ absurd (omega (arith, high, low))
          | inr (inr here_is) ↦ absurd (omega (arith, here_is, low))
        ]
