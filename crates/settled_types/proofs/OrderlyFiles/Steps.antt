-- What each event keeps of declarations and regions.
use Rattle.std.proofs.Common.{◌≡◌, ◌⊎◌, inl, inr, ℕ, zero, suc, ◌+◌, ◌<◌, ◌≤◌, Bool, true, false, not, ◌&&◌, ◌||◌, List, [], ◌∷◌, ◌++◌, refl, sym, ap, ◌∙◌, arith, length, filter, drop, nat_eq, Option, Some, None, true≢false, subst, if◌then◌else◌, length-append}
use Rattle.std.specs.Prelude.{slice_get, nat_le, unwrap_or, is_some}
use Rattle.std.specs.Option.{option_map}
use Rattle.std.proofs.lemmas.List.Folds.{list_any-append}
use Rattle.std.proofs.lemmas.Bool.{false≢true}
use Rattle.machine.specs.spark_base.Lists.{Has}
use Rattle.spark_base.proofs.Lists.{Has-filter, Has-append_cases}
use Rattle.name_events.specs.declared.event.Event.{Event}
use Rattle.name_events.specs.declared.event.Event.TheVariants as e
use Rattle.name_events.specs.declared.event.FoldedIdentifier.{FoldedIdentifier}
use Rattle.name_events.specs.declared.declaration.DeclarationForm.{DeclarationForm}
use Rattle.name_events.specs.declared.declaration.DeclarationForm.TheVariants as form
use Rattle.name_events.specs.declared.declaration.RegionPart.{RegionPart}
use Rattle.name_events.specs.declared.declaration.RegionPart.TheVariants as part
use Rattle.name_events.specs.declared.declaration.Declaration.{Declaration}
use Rattle.name_events.specs.declared.declaration.OpenRegion.{OpenRegion}
use Rattle.name_events.specs.Declarations.{Name, Entry, has_number, added_number, is_package, is_package_form, is_type_form, is_named, first_where, same}
use Rattle.name_events.specs.Predefined.{predefined_count}
use Rattle.name_events.specs.Known.{Known, here, part_here, region_of, source_package}
use Rattle.name_events.specs.Completions.{completed_by, completes_form, awaiting, awaits, if_completes, may_complete}
use Rattle.name_events.specs.KnownBehind.{known_behind, behind_declaration, declare, begin_package, new_entry, end_in, open_region, open_body, turned_private, begin_unit, package_named}
use Rattle.settled_types.specs.Orderly.{Past}
use Rattle.settled_types.specs.OrderlyFiles.Regions.{AreRegions, IsTypeAt, AreTypes, HasPrivates, IsQuiet}

-- ---- lists

pub unsome : {A : Type 0} {x y : A} → Some x ≡ Some y → x ≡ y
unsome {x = x} e = ap (λ o. unwrap_or o x) e

module _ {A : Type 0} where
  pub get_kept : (xs ys : List A) (i : ℕ) (x : A) → slice_get xs i ≡ Some x → slice_get (xs ++ ys) i ≡ Some x
  get_kept [] ys i x is = absurd (none x is)
    where
      none : (x : A) → None ≡ Some x → ⊥
      none x is = false≢true (ap is_some is)
  get_kept (y ∷ rest) ys zero x is = is
  get_kept (y ∷ rest) ys (suc i) x is = get_kept rest ys i x is

  pub get_last : (xs : List A) (x : A) → slice_get (xs ++ x ∷ []) (length xs) ≡ Some x
  get_last [] x = refl
  get_last (y ∷ rest) x = get_last rest x

  -- An element of a list with one more is one of the list, or the last one.
  pub get_more : (xs : List A) (x y : A) (i : ℕ) → slice_get (xs ++ y ∷ []) i ≡ Some x
      → (slice_get xs i ≡ Some x) ⊎ ((i ≡ length xs) × (y ≡ x))
  get_more [] x y zero is = inr (refl, unsome is)
  get_more [] x y (suc i) is = absurd (none x is)
    where
      none : (x : A) → None ≡ Some x → ⊥
      none x is = false≢true (ap is_some is)
  get_more (z ∷ rest) x y zero is = inl is
  get_more (z ∷ rest) x y (suc i) is = elim (get_more rest x y i is) [
    | inl was ↦ inl was
    | inr last ↦ inr (ap suc last.0, last.1)
  ]

  pub has_dropped : (xs : List A) (x : A) → Has (drop 1 xs) x → Has xs x
  has_dropped [] x is = is
  has_dropped (y ∷ rest) x is = inr is

  -- what is found is in the list
  pub found_in : (test : A → Bool) (xs : List A) (x : A) → first_where test xs ≡ Some x → Has xs x × (test x ≡ true)
  found_in test [] x is = absurd (none x is)
    where
      none : (x : A) → None ≡ Some x → ⊥
      none x is = false≢true (ap is_some is)
  found_in test (y ∷ rest) x is = by (λ is. found_in test rest x is) (test y) refl is
    where
      by : (first_where test rest ≡ Some x → Has rest x × (test x ≡ true)) → (b : Bool) → test y ≡ b
          → (if b then Some y else first_where test rest) ≡ Some x → Has (y ∷ rest) x × (test x ≡ true)
      by later true at is = (inl (unsome is), sym (ap test (unsome is)) ∙ at)
      by later false at is = let f = later is in (inr f.0, f.1)

  pub get_from : (xs : List A) (x : A) → Has xs x → (i : ℕ) × (slice_get xs i ≡ Some x)
  get_from [] x is = absurd is
  get_from (y ∷ rest) x (inl same) = (0, ap Some same)
  get_from (y ∷ rest) x (inr is) = let g = get_from rest x is in (suc g.0, g.1)

-- ---- numbers that are completed

pub not_added : (xs : List ℕ) (d n : ℕ) → has_number d (added_number xs n) ≡ false → (has_number d xs ≡ false) × ((has_number n xs ≡ true) ⊎ (nat_eq d n ≡ false))
not_added xs d n none = by (has_number n xs) refl none
  where
    split : (a b : Bool) → a || b ≡ false → (a ≡ false) × (b ≡ false)
    split true b e = absurd (true≢false e)
    split false b e = (refl, e)

    last : (b : Bool) → b || false ≡ b
    last true = refl
    last false = refl

    by : (b : Bool) → has_number n xs ≡ b → has_number d (if b then xs else xs ++ n ∷ []) ≡ false
        → (has_number d xs ≡ false) × ((has_number n xs ≡ true) ⊎ (nat_eq d n ≡ false))
    by true at none = (none, inl at)
    by false at none =
        let s = split (has_number d xs) (nat_eq d n || false) (sym (list_any-append (nat_eq d) xs (n ∷ [])) ∙ none) in
        (s.0, inr (sym (last (nat_eq d n)) ∙ s.1))

-- ---- regions

-- What holds where declarations, regions and those that end are no more than before.
regions_with : (now after : Known) → AreRegions now → after.declared ≡ now.declared → now.region_count ≤ after.region_count
    → ((r : OpenRegion) → Has after.open_regions r → r.region < after.region_count) → ((e : Entry) → Has after.pending e → Has now.pending e)
    → ((e : Entry) → Has after.ended e → Has now.ended e ⊎ Has now.pending e) → AreRegions after
regions_with now after are same more around pending ended = record {
  numbers = λ i e is. are.numbers i e (ap (λ xs. slice_get xs i) (sym same) ∙ is);
  many = let a = are.many in let b = ap (λ (xs : List Entry). length xs) same in omega (arith, a, b);
  late = λ i e is. are.late i e (ap (λ xs. slice_get xs i) (sym same) ∙ is);
  some = let a = are.some in omega (arith, a, more);
  regions = λ i e is. let a = are.regions i e (ap (λ xs. slice_get xs i) (sym same) ∙ is) in omega (arith, a, more);
  around = around;
  pending = λ e is pack. let a = are.pending e (pending e is) pack in omega (arith, a, more);
  ended = λ e is pack. elim (ended e is) [
    | inl was ↦ let a = are.ended e was pack in omega (arith, a, more)
    | inr waits ↦ let a = are.pending e waits pack in omega (arith, a, more)
  ];
}

same_regions : (now after : Known) → AreRegions now → after.declared ≡ now.declared → after.region_count ≡ now.region_count
    → after.open_regions ≡ now.open_regions → after.pending ≡ now.pending → after.ended ≡ now.ended → AreRegions after
same_regions now after are declared count opened pending ended =
    regions_with now after are declared (omega (arith, count))
    (λ r is. let a = are.around r (subst (λ xs. Has xs r) opened is) in omega (arith, a, count))
    (λ e is. subst (λ xs. Has xs e) pending is) (λ e is. inl (subst (λ xs. Has xs e) ended is))

here_low : (now : Known) → AreRegions now → here now < now.region_count
here_low now are = by now.open_regions are.around
  where
    by : (rs : List OpenRegion) → ((r : OpenRegion) → Has rs r → r.region < now.region_count) → region_of rs < now.region_count
    by [] around = are.some
    by (r ∷ rest) around = around r (inl refl)

-- One more declaration, whose own region has begun if it is a package.
declared_regions : (now after : Known) (x : Entry) → AreRegions now → after.declared ≡ now.declared ++ x ∷ [] → after.pending ≡ now.pending ++ x ∷ []
    → x.1.number ≡ length now.declared → x.1.region ≡ here now → (is_package x.1 ≡ true → x.1.own_region < after.region_count)
    → now.region_count ≤ after.region_count → after.open_regions ≡ now.open_regions → after.ended ≡ now.ended → AreRegions after
declared_regions now after x are declared pending number region own more opened ended = record {
  numbers = λ i e is. elim (get_more now.declared e x i (ap (λ xs. slice_get xs i) (sym declared) ∙ is)) [
    | inl was ↦ are.numbers i e was
    | inr last ↦ ap (λ (e : Entry). e.1.number) (sym last.1) ∙ number ∙ sym last.0
  ];
  many =
      let a = are.many in
      let b = ap (λ (xs : List Entry). length xs) declared ∙ length-append now.declared (x ∷ []) in
      omega (arith, a, b);
  late = λ i e is waits. elim (get_more now.declared e x i (ap (λ xs. slice_get xs i) (sym declared) ∙ is)) [
    | inl was ↦ are.late i e was waits
    | inr last ↦ let a = are.many in let b = last.0 in omega (arith, a, b)
  ];
  some = let a = are.some in omega (arith, a, more);
  regions = λ i e is. elim (get_more now.declared e x i (ap (λ xs. slice_get xs i) (sym declared) ∙ is)) [
    | inl was ↦ let a = are.regions i e was in omega (arith, a, more)
    | inr last ↦
        let a = ap (λ (e : Entry). e.1.region) (sym last.1) ∙ region in
        let b = here_low now are in
        omega (arith, a, b, more)
  ];
  around = λ r is. let a = are.around r (subst (λ xs. Has xs r) opened is) in omega (arith, a, more);
  pending = λ e is pack. elim (Has-append_cases now.pending (x ∷ []) e (subst (λ xs. Has xs e) pending is)) [
    | inl was ↦ let a = are.pending e was pack in omega (arith, a, more)
    | inr one ↦
        elim one [
          | inl same ↦
              subst (λ (e : Entry). e.1.own_region < after.region_count) same
              (own (ap (λ (e : Entry). is_package e.1) same ∙ pack))
          | inr never ↦ absurd never
        ]
  ];
  ended = λ e is pack. let a = are.ended e (subst (λ xs. Has xs e) ended is) pack in omega (arith, a, more);
}

-- ---- completions

abbrev pub may_end : DeclarationForm → Bool
may_end form.FullType = true
may_end form.ProcedureBody = true
may_end form.FunctionBody = true
may_end _ = false

completes_none : (old : DeclarationForm) (p : RegionPart) (new : DeclarationForm) (q : RegionPart) → may_end new ≡ false → completes_form old p new q ≡ false
completes_none form.IncompleteType p form.FullType q e = absurd (true≢false e)
completes_none form.PrivateType p form.FullType q e = absurd (true≢false e)
completes_none form.SubprogramDeclaration p form.ProcedureBody q e = absurd (true≢false e)
completes_none form.SubprogramDeclaration p form.FunctionBody q e = absurd (true≢false e)
completes_none _ p _ q e = refl

-- A declaration of another form completes none.
pub completes_nothing : (now : Known) (new : DeclarationForm) (w : Name) → may_end new ≡ false → completed_by now new w ≡ None
completes_nothing now new w e = by (awaiting now.declared (here now) w)
  where
    never : (a b c : Bool) (d : Declaration) → b ≡ false → (if a && (b && c) then Some d else None) ≡ None
    never true true c d e = absurd (true≢false e)
    never true false c d e = refl
    never false b c d e = refl

    by : (o : Option Declaration) → if_completes now new o ≡ None
    by None = refl
    by (Some d) =
        never (may_complete now) (completes_form d.form d.part new (part_here now)) (not (has_number d.number now.completed)) d
        (completes_none d.form d.part new (part_here now) e)

pub record IsCompletion (now : Known) (new : DeclarationForm) (d : Declaration) : Type 0 where
  pub entry : Entry
  pub is : entry.1 ≡ d
  pub stands : slice_get now.declared d.number ≡ Some entry
  pub region : d.region ≡ here now
  pub completes : completes_form d.form d.part new (part_here now) ≡ true
  pub waits : has_number d.number now.completed ≡ false

pub both : (a b : Bool) → a && b ≡ true → (a ≡ true) × (b ≡ true)
both true b e = (refl, e)
both false b e = absurd (true≢false (sym e))

-- The number of a declaration is its index.
abbrev pub IsIndexed : Known → Type 0
IsIndexed now = (i : ℕ) (e : Entry) → slice_get now.declared i ≡ Some e → e.1.number ≡ i

pub completion : (now : Known) (new : DeclarationForm) (w : Name) (d : Declaration) → IsIndexed now → completed_by now new w ≡ Some d
    → IsCompletion now new d
completion now new w d indexed is = by (awaiting now.declared (here now) w) refl is
  where
    some : (o : Option Entry) (c : Declaration) → option_map (λ entry. entry.1) o ≡ Some c → (x : Entry) × (o ≡ Some x) × (x.1 ≡ c)
    some None c e = absurd (none c e)
      where
        none : (c : Declaration) → None ≡ Some c → ⊥
        none c e = false≢true (ap is_some e)
    some (Some x) c e = (x, refl, unsome e)

    same_region : (a b : ℕ) → nat_eq a b ≡ true → b ≡ a
    same_region a b e = grind (arith, e)

    not_true : (b : Bool) → not b ≡ true → b ≡ false
    not_true true e = absurd (true≢false (sym e))
    not_true false e = refl

    asked : (b : Bool) (c : Declaration) → (if b then Some c else None) ≡ Some d → (b ≡ true) × (c ≡ d)
    asked true c e = (refl, unsome e)
    asked false c e = absurd (none d e)
      where
        none : (c : Declaration) → None ≡ Some c → ⊥
        none c e = false≢true (ap is_some e)

    by : (o : Option Declaration) → awaiting now.declared (here now) w ≡ o → if_completes now new o ≡ Some d → IsCompletion now new d
    by None at e = absurd (none d e)
      where
        none : (c : Declaration) → None ≡ Some c → ⊥
        none c e = false≢true (ap is_some e)
    by (Some c) at e =
        let a = asked (may_complete now && (completes_form c.form c.part new (part_here now) && not (has_number c.number now.completed))) c e in
        let b = both (may_complete now) (completes_form c.form c.part new (part_here now) && not (has_number c.number now.completed)) a.0 in
        let t = both (completes_form c.form c.part new (part_here now)) (not (has_number c.number now.completed)) b.1 in
        let x = some (first_where (λ entry. is_named (here now) w entry && awaits entry.1.form) now.declared) c at in
        let f = found_in (λ entry. is_named (here now) w entry && awaits entry.1.form) now.declared x.0 x.1 in
        let g = get_from now.declared x.0 f.0 in
        let number : x.0.1.number ≡ g.0 = indexed g.0 x.0 g.1 in
        let named = both (nat_eq (here now) x.0.1.region) (same w x.0.0) (both (is_named (here now) w x.0) (awaits x.0.1.form) f.1).0 in
        let whole : x.0.1 ≡ d = x.2 ∙ a.1 in record {
          entry = x.0;
          is = whole;
          stands = ap (slice_get now.declared) (ap (λ (d : Declaration). d.number) (sym whole) ∙ number) ∙ g.1;
          region = ap (λ (d : Declaration). d.region) (sym whole) ∙ same_region (here now) x.0.1.region named.0;
          completes = ap (λ (d : Declaration). completes_form d.form d.part new (part_here now)) (sym a.1) ∙ t.0;
          waits = ap (λ (d : Declaration). has_number d.number now.completed) (sym a.1) ∙ not_true (has_number c.number now.completed) t.1;
        }

-- ---- what an event keeps

abbrev pub is_package_event : Event → Bool
is_package_event (e.Declares form.Package id) = true
is_package_event _ = false

declaration_regions : (now : Known) (new : DeclarationForm) (id : FoldedIdentifier) (o : Option Declaration) → is_package_form new ≡ false → AreRegions now
    → AreRegions (behind_declaration now new id o)
declaration_regions now new id (Some d) other are = same_regions now (behind_declaration now new id (Some d)) are refl refl refl refl refl
declaration_regions now form.Package id None other are = absurd (true≢false other)
declaration_regions now new id None other are =
    declared_regions now (declare now (new_entry now new id)) (new_entry now new id) are refl refl refl refl
    (λ is. absurd (true≢false (sym is ∙ other))) (le_self now.region_count) refl refl
  where
    le_self : (n : ℕ) → n ≤ n
    le_self n = omega arith

end_regions : (region : ℕ) (now : Known) → AreRegions now → AreRegions (end_in region now)
end_regions region now are =
    regions_with now (end_in region now) are refl (le_self now.region_count) are.around
    (λ e is. (Has-filter (λ (entry : Entry). not (nat_eq region entry.1.region)) now.pending e is).0)
    (λ e is. elim (Has-append_cases now.ended (filter (λ (entry : Entry). nat_eq region entry.1.region) now.pending) e is) [
      | inl was ↦ inl was
      | inr more ↦ inr (Has-filter (λ (entry : Entry). nat_eq region entry.1.region) now.pending e more).0
    ])
  where
    le_self : (n : ℕ) → n ≤ n
    le_self n = omega arith

open_regions_more : (now : Known) → AreRegions now → AreRegions (open_region now)
open_regions_more now are =
    regions_with now (open_region now) are refl (le_more now.region_count) (λ r is. around r is) (λ e is. is) (λ e is. inl is)
  where
    le_more : (n : ℕ) → n ≤ n + 1
    le_more n = omega arith

    around : (r : OpenRegion) → Has ((record { region = now.region_count; part = part.Visible }) ∷ now.open_regions) r → r.region < now.region_count + 1
    around r (inl same) = let a = ap (λ (r : OpenRegion). r.region) (sym same) in omega (arith, a)
    around r (inr is) = let a = are.around r is in omega (arith, a)

-- the package of a body has a region that has begun
abbrev is_source : Name → Entry → Bool
is_source w entry = is_named 0 w entry && (is_package entry.1 && nat_le predefined_count entry.1.number)

source_low : (now : Known) (w : Name) (d : Declaration) → AreRegions now → source_package now.ended w ≡ Some d → d.own_region < now.region_count
source_low now w d are is = by (first_where (is_source w) now.ended) refl is
  where
    none : (c : Declaration) → None ≡ Some c → ⊥
    none c e = false≢true (ap is_some e)

    by : (o : Option Entry) → first_where (is_source w) now.ended ≡ o → option_map (λ (entry : Entry). entry.1) o ≡ Some d → d.own_region < now.region_count
    by None at e = absurd (none d e)
    by (Some x) at e =
        let f = found_in (is_source w) now.ended x at in
        let p = both (is_package x.1) (nat_le predefined_count x.1.number) (both (is_named 0 w x) (is_package x.1 && nat_le predefined_count x.1.number) f.1).1 in
        subst (λ (d : Declaration). d.own_region < now.region_count) (unsome e) (are.ended x f.0 p.0)

body_regions : (now : Known) (id : FoldedIdentifier) (o : Option Declaration) → ((d : Declaration) → o ≡ Some d → d.own_region < now.region_count)
    → AreRegions now → AreRegions (open_body now id o)
body_regions now id (Some d) low are =
    regions_with now (open_body now id (Some d)) are refl (le_self now.region_count) (λ r is. around r is) (λ e is. is) (λ e is. inl is)
  where
    le_self : (n : ℕ) → n ≤ n
    le_self n = omega arith

    around : (r : OpenRegion) → Has ((record { region = d.own_region; part = part.Body }) ∷ now.open_regions) r → r.region < now.region_count
    around r (inl same) = let a = ap (λ (r : OpenRegion). r.region) (sym same) in let b = low d refl in omega (arith, a, b)
    around r (inr is) = are.around r is
body_regions now id None low are =
    regions_with now (open_body now id None) are refl (le_more now.region_count) (λ r is. around r is) (λ e is. is) (λ e is. inl is)
  where
    le_more : (n : ℕ) → n ≤ n + 1
    le_more n = omega arith

    around : (r : OpenRegion) → Has ((record { region = now.region_count; part = part.Body }) ∷ now.open_regions) r → r.region < now.region_count + 1
    around r (inl same) = let a = ap (λ (r : OpenRegion). r.region) (sym same) in omega (arith, a)
    around r (inr is) = let a = are.around r is in omega (arith, a)

private_around : (n : ℕ) (rs : List OpenRegion) → ((r : OpenRegion) → Has rs r → r.region < n) → (r : OpenRegion) → Has (turned_private rs) r → r.region < n
private_around n [] around r is = absurd is
private_around n (x ∷ rest) around r (inl same) =
    let a = ap (λ (r : OpenRegion). r.region) (sym same) in let b = around x (inl refl) in omega (arith, a, b)
private_around n (x ∷ rest) around r (inr is) = around r (inr is)

pub regions_behind : (now : Known) (event : Event) → is_package_event event ≡ false → AreRegions now → AreRegions (known_behind now event)
unfolding known_behind
regions_behind now (e.UnitBegins body_of) other are =
    regions_with now (begin_unit now (package_named now body_of)) are refl (le_self now.region_count) (λ r is. around r is) (λ e is. is) (λ e is. inl is)
  where
    le_self : (n : ℕ) → n ≤ n
    le_self n = omega arith

    around : (r : OpenRegion) → Has ((record { region = 0; part = part.Visible }) ∷ []) r → r.region < now.region_count
    around r (inl same) = let a = ap (λ (r : OpenRegion). r.region) (sym same) in let b = are.some in omega (arith, a, b)
    around r (inr never) = absurd never
regions_behind now (e.UnitHasWith name) other are = same_regions now (known_behind now (e.UnitHasWith name)) are refl refl refl refl refl
regions_behind now (e.Mentions c name) other are = same_regions now (known_behind now (e.Mentions c name)) are refl refl refl refl refl
regions_behind now e.UseClauseEnds other are = same_regions now (known_behind now e.UseClauseEnds) are refl refl refl refl refl
regions_behind now (e.Declares form.Package id) other are = absurd (true≢false other)
regions_behind now (e.Declares new id) other are = declaration_regions now new id (completed_by now new id.name) refl are
regions_behind now e.DeclarationsEnd other are = end_regions (here now) now are
regions_behind now e.OuterDeclarationsEnd other are = end_regions (region_of (drop 1 now.open_regions)) now are
regions_behind now e.RegionOpens other are = open_regions_more now are
regions_behind now (e.PackageBodyOpens id) other are =
    body_regions now id (source_package now.ended id.name) (λ d is. source_low now id.name d are is) are
regions_behind now e.PrivatePartBegins other are =
    regions_with now (record now { open_regions = turned_private now.open_regions }) are refl (le_self now.region_count)
    (private_around now.region_count now.open_regions are.around) (λ e is. is) (λ e is. inl is)
  where
    le_self : (n : ℕ) → n ≤ n
    le_self n = omega arith
regions_behind now e.RegionCloses other are =
    regions_with now (record now { open_regions = drop 1 now.open_regions }) are refl (le_self now.region_count)
    (λ r is. are.around r (has_dropped now.open_regions r is)) (λ e is. is) (λ e is. inl is)
  where
    le_self : (n : ℕ) → n ≤ n
    le_self n = omega arith
regions_behind now e.RecordBegins other are = same_regions now (known_behind now e.RecordBegins) are refl refl refl refl refl
regions_behind now (e.DeclaresComponent id) other are = same_regions now (known_behind now (e.DeclaresComponent id)) are refl refl refl refl refl
regions_behind now (e.EndsWithName id expected) other are = are

-- ---- the beginning of a package

-- After the identifier of a package its region begins.
abbrev pub package_begun : Known → FoldedIdentifier → Known
package_begun now id = known_behind (known_behind (known_behind now (e.Declares form.Package id)) e.DeclarationsEnd) e.RegionOpens

package_known : (now : Known) (id : FoldedIdentifier) (o : Option Declaration) → Known
package_known now id o = let k = behind_declaration now form.Package id o in open_region (end_in (here k) k)

begun : (now : Known) (id : FoldedIdentifier) → package_begun now id ≡ package_known now id None
unfolding known_behind package_known
begun now id = ap (package_known now id) (completes_nothing now form.Package id.name refl)

abbrev package_declared : Known → FoldedIdentifier → Known
package_declared now id = declare (begin_package now (length now.declared)) (new_entry now form.Package id)

-- With one more region.
abbrev one_region_more : Known → FoldedIdentifier → Known
one_region_more now id = record (package_declared now id) { region_count = now.region_count + 1 }

less_more : (n : ℕ) → n < n + 1
less_more n = omega arith

le_more : (n : ℕ) → n ≤ n + 1
le_more n = omega arith

le_self : (n : ℕ) → n ≤ n
le_self n = omega arith

begun_first : (now : Known) (id : FoldedIdentifier) → AreRegions now → AreRegions (one_region_more now id)
begun_first now id are =
    declared_regions now (one_region_more now id) (new_entry now form.Package id) are refl refl refl refl (λ is. less_more now.region_count)
    (le_more now.region_count) refl refl

begun_around : (now : Known) → AreRegions now → (r : OpenRegion)
    → Has ((record { region = now.region_count; part = part.Visible }) ∷ now.open_regions) r → r.region < now.region_count + 1
begun_around now are r (inl same) = let a = ap (λ (r : OpenRegion). r.region) (sym same) in omega (arith, a)
begun_around now are r (inr is) = let a = are.around r is in omega (arith, a)

pub package_regions : (now : Known) (id : FoldedIdentifier) → AreRegions now → AreRegions (package_begun now id)
unfolding package_known
package_regions now id are =
    let k : Known = package_declared now id in
    subst AreRegions (sym (begun now id))
    (regions_with (one_region_more now id) (package_known now id None) (begun_first now id are) refl (le_self (now.region_count + 1))
    (λ r is. begun_around now are r is)
    (λ e is. (Has-filter (λ (entry : Entry). not (nat_eq (here k) entry.1.region)) k.pending e is).0)
    (λ e is. elim (Has-append_cases now.ended (filter (λ (entry : Entry). nat_eq (here k) entry.1.region) k.pending) e is) [
      | inl was ↦ inl was
      | inr ends ↦ inr (Has-filter (λ (entry : Entry). nat_eq (here k) entry.1.region) k.pending e ends).0
    ]))

-- ---- types

still : (now after : Known) → after.declared ≡ now.declared → after.completed ≡ now.completed → IsQuiet now after
still now after declared completed = record {
  kept = λ i e is. ap (λ xs. slice_get xs i) declared ∙ is;
  new = λ i e is. inl (ap (λ xs. slice_get xs i) (sym declared) ∙ is);
  completed = λ d is. ap (has_number d) (sym completed) ∙ is;
}

abbrev pub declares_type : Event → Bool
declares_type (e.Declares new id) = is_type_form new
declares_type _ = false

declared_quiet : (now k : Known) (new : DeclarationForm) (id : FoldedIdentifier) → is_type_form new ≡ false
    → IsQuiet now (declare (record now { own_package = k.own_package; contexts = k.contexts }) (new_entry now new id))
declared_quiet now k new id other = record {
  kept = λ i e is. get_kept now.declared (new_entry now new id ∷ []) i e is;
  new = λ i e is. elim (get_more now.declared e (new_entry now new id) i is) [
    | inl was ↦ inl was
    | inr last ↦ inr (ap (λ (e : Entry). is_type_form e.1.form) (sym last.1) ∙ other)
  ];
  completed = λ d is. is;
}

declaration_quiet : (now : Known) (new : DeclarationForm) (id : FoldedIdentifier) (o : Option Declaration) → is_type_form new ≡ false
    → IsQuiet now (behind_declaration now new id o)
declaration_quiet now new id (Some d) other = record {
  kept = λ i e is. is;
  new = λ i e is. inl is;
  completed = λ n is. (not_added now.completed n d.number is).0;
}
declaration_quiet now form.Package id None other = declared_quiet now (begin_package now (length now.declared)) form.Package id refl
declaration_quiet now new id None other = declared_quiet now now new id other

pub quiet_behind : (now : Known) (event : Event) → declares_type event ≡ false → IsQuiet now (known_behind now event)
unfolding known_behind
quiet_behind now (e.UnitBegins body_of) other = still now (begin_unit now (package_named now body_of)) refl refl
quiet_behind now (e.Declares new id) other = declaration_quiet now new id (completed_by now new id.name) other
quiet_behind now e.DeclarationsEnd other = still now (end_in (here now) now) refl refl
quiet_behind now e.OuterDeclarationsEnd other = still now (end_in (region_of (drop 1 now.open_regions)) now) refl refl
quiet_behind now (e.PackageBodyOpens id) other = by (source_package now.ended id.name)
  where
    by : (o : Option Declaration) → IsQuiet now (open_body now id o)
    by None = still now (open_body now id None) refl refl
    by (Some d) = still now (open_body now id (Some d)) refl refl
quiet_behind now event other = still now (known_behind now event) refl refl

pub quiet_self : (now : Known) → IsQuiet now now
quiet_self now = still now now refl refl

pub quiet_then : (now middle after : Known) → IsQuiet now middle → IsQuiet middle after → IsQuiet now after
quiet_then now middle after one two = record {
  kept = λ i e is. two.kept i e (one.kept i e is);
  new = λ i e is. elim (two.new i e is) [ inl was ↦ one.new i e was | inr other ↦ inr other ];
  completed = λ d is. one.completed d (two.completed d is);
}

at_later : (now after : Known) (d : ℕ) → IsQuiet now after → IsTypeAt now d → IsTypeAt after d
at_later now after d quiet at = (at.0, (at.1.0, quiet.kept d at.1.0 at.1.1, at.1.2))

pub types_later : (now after : Known) (past : Past) → IsQuiet now after → AreTypes now past → AreTypes after past
types_later now after past quiet are = record {
  awaited = λ d is. at_later now after d quiet (are.awaited d is);
  defined = λ d is. elim (are.defined d is) [ inl four ↦ inl four | inr at ↦ inr (at_later now after d quiet at) ];
  incomplete = λ d e is what waits. elim (quiet.new d e is) [
    | inl was ↦ are.incomplete d e was what (quiet.completed d waits)
    | inr other ↦ absurd (true≢false (sym (ap is_type_form what) ∙ other))
  ];
}

pub privates_later : (now after : Known) (past : Past) (region : ℕ) → IsQuiet now after → HasPrivates now past region → HasPrivates after past region
privates_later now after past region quiet has d e is what where_is visible waits = elim (quiet.new d e is) [
  | inl was ↦ has d e was what where_is visible (quiet.completed d waits)
  | inr other ↦ absurd (true≢false (sym (ap is_type_form what) ∙ other))
]

-- ---- what is known in a package that has just begun

pub package_open : (now : Known) (id : FoldedIdentifier)
    → (package_begun now id).open_regions ≡ (record { region = now.region_count; part = part.Visible }) ∷ now.open_regions
unfolding package_known
package_open now id = ap (λ (k : Known). k.open_regions) (begun now id)

pub package_quiet : (now : Known) (id : FoldedIdentifier) → IsQuiet now (package_begun now id)
package_quiet now id =
    let first : Known = known_behind now (e.Declares form.Package id) in
    let second : Known = known_behind first e.DeclarationsEnd in
    quiet_then now first (known_behind second e.RegionOpens) (quiet_behind now (e.Declares form.Package id) refl)
    (quiet_then first second (known_behind second e.RegionOpens) (quiet_behind first e.DeclarationsEnd refl) (quiet_behind second e.RegionOpens refl))

-- No declaration stands in its region so far.
pub package_new : (now : Known) (id : FoldedIdentifier) → AreRegions now → (d : ℕ) (x : Entry) → slice_get (package_begun now id).declared d ≡ Some x
    → x.1.region < now.region_count
unfolding package_known
package_new now id are d x is =
    elim (get_more now.declared x (new_entry now form.Package id) d (ap (λ (k : Known). slice_get k.declared d) (sym (begun now id)) ∙ is)) [
      | inl was ↦ are.regions d x was
      | inr last ↦
          let a = ap (λ (e : Entry). e.1.region) (sym last.1) in
          let b = here_low now are in
          omega (arith, a, b)
    ]
