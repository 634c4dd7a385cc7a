-- Declarations stand at their numbers, and a `use` clause names packages.
use Rattle.std.proofs.Common.{◌≡◌, inl, inr, ℕ, Bool, true, false, not, zero, suc, List, [], ◌∷◌, ◌++◌, map, filter, drop, length, nat_eq, refl, sym, ap, subst, Option, Some, None, if◌then◌else◌}
use Rattle.std.specs.Prelude.{slice_get, is_some}
use Rattle.std.proofs.lemmas.Bool.{eqb-true, false≢true}
use Rattle.machine.specs.spark_base.Lists.{Has}
use Rattle.soundness.proofs.Lists.{Has-append_cases, Has-append_left, Has-filter, Has-map_from}
use Rattle.name_events.specs.declared.event.Event.{Event}
use Rattle.name_events.specs.declared.event.Event.TheVariants as e
use Rattle.name_events.specs.declared.event.Clause.{Clause}
use Rattle.name_events.specs.declared.event.Clause.TheVariants as clause
use Rattle.name_events.specs.declared.event.FoldedIdentifier.{FoldedIdentifier}
use Rattle.name_events.specs.declared.declaration.DeclarationForm.{DeclarationForm}
use Rattle.name_events.specs.declared.declaration.DeclarationForm.TheVariants as form
use Rattle.name_events.specs.declared.declaration.Declaration.{Declaration}
use Rattle.name_events.specs.Declarations.{Name, Entry, is_package, last_of}
use Rattle.name_events.specs.Known.{Context, Known, here, region_of, source_package, used_in, seen, selected, selected_along}
use Rattle.name_events.specs.Completions.{completed_by}
use Rattle.name_events.specs.KnownBehind.{known_behind, known_behind_all, begin_unit, package_named, context_of, context_found, selectors_of, named_in_use, behind_declaration, new_entry, end_in, open_body}
use Rattle.name_events.specs.Laws.{IsLastIn}
use Rattle.name_events.proofs.Searches.{last_found}
use Rattle.name_events.proofs.VisibilityLaws.{seen_says, selected_says}

-- ---- lists

module _ {A : Type 0} where
  pub get_front : (xs ys : List A) (i : ℕ) (x : A) → slice_get xs i ≡ Some x → slice_get (xs ++ ys) i ≡ Some x
  get_front [] ys i x is = absurd (false≢true (ap is_some is))
  get_front (y ∷ rest) ys zero x is = is
  get_front (y ∷ rest) ys (suc i) x is = get_front rest ys i x is

  pub get_last : (xs : List A) (x : A) → slice_get (xs ++ x ∷ []) (length xs) ≡ Some x
  get_last [] x = refl
  get_last (y ∷ rest) x = get_last rest x

  pub has_middle : (earlier : List A) (x : A) (later : List A) → Has (earlier ++ x ∷ later) x
  has_middle [] x later = inl refl
  has_middle (y ∷ earlier) x later = inr (has_middle earlier x later)

-- ---- what stays

pub record Grows (now after : Known) : Type 0 where
  pub declared : (i : ℕ) (x : Entry) → slice_get now.declared i ≡ Some x → slice_get after.declared i ≡ Some x
  pub ended : (x : Entry) → Has now.ended x → Has after.ended x

pub grows_then : (now middle after : Known) → Grows now middle → Grows middle after → Grows now after
grows_then now middle after one two = record {
  declared = λ i x is. two.declared i x (one.declared i x is);
  ended = λ x has. two.ended x (one.ended x has);
}

stays : (now after : Known) → after.declared ≡ now.declared → after.ended ≡ now.ended → Grows now after
stays now after declared ended = record {
  declared = λ i x is. subst (λ xs. slice_get xs i ≡ Some x) (sym declared) is;
  ended = λ x has. subst (λ xs. Has xs x) (sym ended) has;
}

pub grows_self : (now : Known) → Grows now now
grows_self now = stays now now refl refl

ends_grow : (region : ℕ) (now : Known) → Grows now (end_in region now)
ends_grow region now = record {
  declared = λ i x is. is;
  ended = λ x has. Has-append_left now.ended (filter (λ (entry : Entry). nat_eq region entry.1.region) now.pending) x has;
}

declared_grow : (now : Known) (new : DeclarationForm) (id : FoldedIdentifier) (o : Option Declaration) → Grows now (behind_declaration now new id o)
declared_grow now new id (Some d) = stays now (behind_declaration now new id (Some d)) refl refl
declared_grow now form.Package id None = record {
  declared = λ i x is. get_front now.declared (new_entry now form.Package id ∷ []) i x is;
  ended = λ x has. has;
}
declared_grow now new id None = record {
  declared = λ i x is. get_front now.declared (new_entry now new id ∷ []) i x is;
  ended = λ x has. has;
}

pub grows_behind : (now : Known) (event : Event) → Grows now (known_behind now event)
unfolding known_behind
grows_behind now (e.Declares new id) = declared_grow now new id (completed_by now new id.name)
grows_behind now e.DeclarationsEnd = ends_grow (here now) now
grows_behind now e.OuterDeclarationsEnd = ends_grow (region_of (drop 1 now.open_regions)) now
grows_behind now (e.PackageBodyOpens id) = by (source_package now.ended id.name)
  where
    by : (o : Option Declaration) → Grows now (open_body now id o)
    by None = stays now (open_body now id None) refl refl
    by (Some d) = stays now (open_body now id (Some d)) refl refl
grows_behind now event = stays now (known_behind now event) refl refl

pub grows_all : (events : List Event) (now : Known) → Grows now (known_behind_all now events)
grows_all [] now = grows_self now
grows_all (event ∷ rest) now =
    grows_then now (known_behind now event) (known_behind_all now (event ∷ rest)) (grows_behind now event) (grows_all rest (known_behind now event))

-- ---- packages by number

abbrev pub IsPackageAt : Known → ℕ → Type 0
IsPackageAt now n = (h : Entry) × (slice_get now.declared n ≡ Some h) × Has now.ended h × (is_package h.1 ≡ true)

package_later : (now after : Known) (n : ℕ) → Grows now after → IsPackageAt now n → IsPackageAt after n
package_later now after n grows is = (is.0, grows.declared n is.0 is.1, grows.ended is.0 is.2, is.3)

pub record IsHeld (now : Known) : Type 0 where
  pub ended : (x : Entry) → Has now.ended x → slice_get now.declared x.1.number ≡ Some x
  pub pending : (x : Entry) → Has now.pending x → slice_get now.declared x.1.number ≡ Some x
  pub uses : (r n : ℕ) → Has now.uses (r, n) → IsPackageAt now n
  pub using : (n : ℕ) → Has now.using n → IsPackageAt now n
  pub contexts : (c : Context) → Has now.contexts c → (n : ℕ) → Has c.uses n → IsPackageAt now n

-- ---- what has ended

abbrev pub HasEnded : Known → Declaration → Type 0
HasEnded now d = (w : Name) × Has now.ended (w, d)

pub last_ended : (now : Known) (region : ℕ) (w : Name) (d : Declaration) → IsLastIn now.ended region w d → HasEnded now d
last_ended now region w d last = (last.name, subst (λ xs. Has xs (last.name, d)) (sym last.stands) (has_middle last.earlier (last.name, d) last.later))

pub seen_ended : (now : Known) (w : Name) (d : Declaration) → seen now w ≡ Some d → HasEnded now d
seen_ended now w d is = elim (seen_says now w d is) [
  | inl inner ↦ last_ended now inner.encloses.region w d inner.last
  | inr used ↦ last_ended now used.member.holder.1.own_region w d used.member.last
]

along_ended : (now : Known) (o : Option Declaration) (ws : List Name) (d : Declaration) → ((x : Declaration) → o ≡ Some x → HasEnded now x)
    → selected_along now o ws ≡ Some d → HasEnded now d
along_ended now None ws d ended is = absurd (false≢true (ap is_some is))
along_ended now (Some x) [] d ended is = ended d is
along_ended now (Some x) (w ∷ rest) d ended is = by (is_package x) is (λ is. along_ended now (selected now x w) rest d (λ y e. member y e) is)
  where
    member : (y : Declaration) → selected now x w ≡ Some y → HasEnded now y
    member y e = let s = selected_says now x w y e in last_ended now x.own_region w y s.last

    by : (b : Bool) → (if b then selected_along now (selected now x w) rest else None) ≡ Some d
        → (selected_along now (selected now x w) rest ≡ Some d → HasEnded now d) → HasEnded now d
    by true e on = on e
    by false e on = absurd (false≢true (ap is_some e))

-- ---- one event

used_has : (uses : List (ℕ × ℕ)) (region n : ℕ) → Has (used_in uses region) n → Has uses (region, n)
used_has [] region n has = absurd has
used_has (clause ∷ rest) region n has = by (nat_eq region clause.0) refl has (used_has rest region n)
  where
    by : (b : Bool) → nat_eq region clause.0 ≡ b → Has (if b then clause.1 ∷ used_in rest region else used_in rest region) n
        → (Has (used_in rest region) n → Has rest (region, n)) → Has (clause ∷ rest) (region, n)
    by true is has others = elim has [
      | inl same ↦ inl (λ i. (sym (eqb-true region clause.0 is) i, same i))
      | inr more ↦ inr (others more)
    ]
    by false is has others = inr (others has)

context_has : (contexts : List Context) (o : Option Declaration) (n : ℕ) → Has (context_of contexts o).uses n
    → (c : Context) × Has contexts c × Has c.uses n
context_has contexts None n has = absurd has
context_has contexts (Some d) n has = by (last_of (λ (c : Context). nat_eq d.number c.of_package) contexts) refl has
  where
    by : (o : Option Context) → last_of (λ (c : Context). nat_eq d.number c.of_package) contexts ≡ o → Has (context_found o).uses n
        → (c : Context) × Has contexts c × Has c.uses n
    by None is has = absurd has
    by (Some c) is has =
        let found = last_found (λ (c : Context). nat_eq d.number c.of_package) contexts c is in
        (c, subst (λ xs. Has xs c) (sym found.stands) (has_middle found.earlier c found.later), has)

-- where no list but that of uses changes
same_held : (now after : Known) → after.declared ≡ now.declared → after.ended ≡ now.ended → after.pending ≡ now.pending → after.contexts ≡ now.contexts
    → ((r n : ℕ) → Has after.uses (r, n) → IsPackageAt now n) → ((n : ℕ) → Has after.using n → IsPackageAt now n) → IsHeld now → IsHeld after
same_held now after declared ended pending contexts uses using held =
    let grows : Grows now after = stays now after declared ended in
    record {
      ended = λ x has. grows.declared x.1.number x (held.ended x (subst (λ xs. Has xs x) ended has));
      pending = λ x has. grows.declared x.1.number x (held.pending x (subst (λ xs. Has xs x) pending has));
      uses = λ r n has. package_later now after n grows (uses r n has);
      using = λ n has. package_later now after n grows (using n has);
      contexts = λ c has n used. package_later now after n grows (held.contexts c (subst (λ cs. Has cs c) contexts has) n used);
    }

ends_held : (region : ℕ) (now : Known) → IsHeld now → IsHeld (end_in region now)
ends_held region now held =
    let grows : Grows now (end_in region now) = ends_grow region now in
    record {
      ended = λ x has. elim (Has-append_cases now.ended (filter (λ (entry : Entry). nat_eq region entry.1.region) now.pending) x has) [
        | inl old ↦ held.ended x old
        | inr new ↦ held.pending x (Has-filter (λ (entry : Entry). nat_eq region entry.1.region) now.pending x new).0
      ];
      pending = λ x has. held.pending x (Has-filter (λ (entry : Entry). not (nat_eq region entry.1.region)) now.pending x has).0;
      uses = λ r n has. package_later now (end_in region now) n grows (held.uses r n has);
      using = λ n has. package_later now (end_in region now) n grows (held.using n has);
      contexts = λ c has n used. package_later now (end_in region now) n grows (held.contexts c has n used);
    }

new_held : (now after : Known) (new : Entry) → after.declared ≡ now.declared ++ new ∷ [] → after.ended ≡ now.ended → after.pending ≡ now.pending ++ new ∷ []
    → new.1.number ≡ length now.declared → after.uses ≡ now.uses → after.using ≡ now.using
    → ((c : Context) → Has after.contexts c → (n : ℕ) → Has c.uses n → IsPackageAt now n) → IsHeld now → IsHeld after
new_held now after new declared ended pending number uses using contexts held =
    let grows : Grows now after = record {
      declared = λ i x is. subst (λ xs. slice_get xs i ≡ Some x) (sym declared) (get_front now.declared (new ∷ []) i x is);
      ended = λ x has. subst (λ xs. Has xs x) (sym ended) has;
    } in
    record {
      ended = λ x has. grows.declared x.1.number x (held.ended x (subst (λ xs. Has xs x) ended has));
      pending = λ x has. elim (Has-append_cases now.pending (new ∷ []) x (subst (λ xs. Has xs x) pending has)) [
        | inl old ↦ grows.declared x.1.number x (held.pending x old)
        | inr (inl same) ↦ subst (λ (y : Entry). slice_get after.declared y.1.number ≡ Some y) same
            (subst (λ n. slice_get after.declared n ≡ Some new) (sym number)
            (subst (λ xs. slice_get xs (length now.declared) ≡ Some new) (sym declared) (get_last now.declared new)))
        | inr (inr never) ↦ absurd never
      ];
      uses = λ r n has. package_later now after n grows (held.uses r n (subst (λ us. Has us (r, n)) uses has));
      using = λ n has. package_later now after n grows (held.using n (subst (λ us. Has us n) using has));
      contexts = λ c has n used. package_later now after n grows (contexts c has n used);
    }

declared_held : (now : Known) (new : DeclarationForm) (id : FoldedIdentifier) (o : Option Declaration) → IsHeld now → IsHeld (behind_declaration now new id o)
declared_held now new id (Some d) held = same_held now (behind_declaration now new id (Some d)) refl refl refl refl held.uses held.using held
declared_held now form.Package id None held =
    new_held now (behind_declaration now form.Package id None) (new_entry now form.Package id) refl refl refl refl refl refl (λ c has n used. begun c has n used) held
  where
    begun : (c : Context) → Has (now.contexts ++ (record { of_package = length now.declared; withs = now.withs; uses = used_in now.uses 0 }) ∷ []) c → (n : ℕ)
        → Has c.uses n → IsPackageAt now n
    begun c has n used =
        elim (Has-append_cases now.contexts ((record { of_package = length now.declared; withs = now.withs; uses = used_in now.uses 0 }) ∷ []) c has) [
          | inl old ↦ held.contexts c old n used
          | inr (inl same) ↦ held.uses 0 n (used_has now.uses 0 n (subst (λ (k : Context). Has k.uses n) (sym same) used))
          | inr (inr never) ↦ absurd never
        ]
declared_held now new id None held =
    new_held now (behind_declaration now new id None) (new_entry now new id) refl refl refl refl refl refl held.contexts held

named_used : (now : Known) (c : Clause) (o : Option Declaration) (n : ℕ) → IsHeld now → ((d : Declaration) → o ≡ Some d → HasEnded now d)
    → Has (named_in_use c o) n → IsPackageAt now n
named_used now clause.Use (Some d) n held ended has = by (is_package d) refl has
  where
    by : (b : Bool) → is_package d ≡ b → Has (if b then d.number ∷ [] else []) n → IsPackageAt now n
    by true is (inl same) =
        let x = ended d refl in
        subst (IsPackageAt now) same ((x.0, d), held.ended (x.0, d) x.1, x.1, is)
    by true is (inr never) = absurd never
    by false is has = absurd has
named_used now _ o n held ended has = absurd has

pub held_behind : (now : Known) (event : Event) → IsHeld now → IsHeld (known_behind now event)
unfolding known_behind
held_behind now (e.UnitBegins body_of) held =
    let spec : Option Declaration = package_named now body_of in
    same_held now (begin_unit now spec) refl refl refl refl (λ r n has. used spec r n has) held.using held
  where
    used : (spec : Option Declaration) (r n : ℕ)
        → Has (filter (λ (u : ℕ × ℕ). not (nat_eq 0 u.0)) now.uses ++ map (λ p. (0, p)) (context_of now.contexts spec).uses) (r, n) → IsPackageAt now n
    used spec r n has =
        elim (Has-append_cases (filter (λ (u : ℕ × ℕ). not (nat_eq 0 u.0)) now.uses) (map (λ p. (0, p)) (context_of now.contexts spec).uses) (r, n) has) [
          | inl old ↦ held.uses r n (Has-filter (λ (u : ℕ × ℕ). not (nat_eq 0 u.0)) now.uses (r, n) old).0
          | inr new ↦
              let from = Has-map_from (λ p. (0, p)) (context_of now.contexts spec).uses (r, n) new in
              let c = context_has now.contexts spec from.0 from.1 in
              subst (IsPackageAt now) (ap (λ (u : ℕ × ℕ). u.1) from.2) (held.contexts c.0 c.1 from.0 c.2)
        ]
held_behind now (e.UnitHasWith name) held = same_held now (known_behind now (e.UnitHasWith name)) refl refl refl refl held.uses held.using held
held_behind now (e.Mentions c name) held =
    same_held now (known_behind now (e.Mentions c name)) refl refl refl refl held.uses (λ n has. used n has) held
  where
    used : (n : ℕ) → Has (now.using ++ named_in_use c (selected_along now (seen now name.first.name) (selectors_of name))) n → IsPackageAt now n
    used n has = elim (Has-append_cases now.using (named_in_use c (selected_along now (seen now name.first.name) (selectors_of name))) n has) [
      | inl old ↦ held.using n old
      | inr new ↦ named_used now c (selected_along now (seen now name.first.name) (selectors_of name)) n held
          (λ d is. along_ended now (seen now name.first.name) (selectors_of name) d (λ x e. seen_ended now name.first.name x e) is) new
    ]
held_behind now e.UseClauseEnds held =
    same_held now (known_behind now e.UseClauseEnds) refl refl refl refl (λ r n has. used r n has) (λ n has. absurd has) held
  where
    used : (r n : ℕ) → Has (now.uses ++ map (λ p. (here now, p)) now.using) (r, n) → IsPackageAt now n
    used r n has = elim (Has-append_cases now.uses (map (λ p. (here now, p)) now.using) (r, n) has) [
      | inl old ↦ held.uses r n old
      | inr new ↦
          let from = Has-map_from (λ p. (here now, p)) now.using (r, n) new in
          subst (IsPackageAt now) (ap (λ (u : ℕ × ℕ). u.1) from.2) (held.using from.0 from.1)
    ]
held_behind now (e.Declares new id) held = declared_held now new id (completed_by now new id.name) held
held_behind now e.DeclarationsEnd held = ends_held (here now) now held
held_behind now e.OuterDeclarationsEnd held = ends_held (region_of (drop 1 now.open_regions)) now held
held_behind now (e.PackageBodyOpens id) held = by (source_package now.ended id.name)
  where
    by : (o : Option Declaration) → IsHeld (open_body now id o)
    by None = same_held now (open_body now id None) refl refl refl refl held.uses held.using held
    by (Some d) = same_held now (open_body now id (Some d)) refl refl refl refl held.uses held.using held
held_behind now event held = same_held now (known_behind now event) refl refl refl refl held.uses held.using held
