-- The code of files is in order, whose identifiers stand apart and whose full types end after the marks in them
-- and before them.
use Rattle.std.proofs.Common.{◌≡◌, inl, inr, ℕ, zero, suc, ◌+◌, ◌<◌, ◌≤◌, Bool, true, false, not, ◌&&◌, ◌||◌, List, [], ◌∷◌, ◌++◌, refl, sym, ap, ◌∙◌, arith, length, nat_eq, nat_lt, Option, Some, None, true≢false, subst, if◌then◌else◌, length-append}
use Rattle.std.specs.Prelude.{slice_get, unwrap_or, is_some}
use Rattle.std.proofs.lemmas.List.{length-map}
use Rattle.std.proofs.lemmas.Option.{slice_get_within}
use Rattle.std.proofs.lemmas.Bool.{false≢true}
use Rattle.machine.specs.spark_base.declared.position.Pos.{Pos}
use Rattle.machine.specs.spark_base.Lists.{Has}
use Rattle.spark_base.proofs.Lists.{Has-append_left, Has-append_right}
use Rattle.name_events.specs.declared.event.Event.{Event}
use Rattle.name_events.specs.declared.event.Event.TheVariants as e
use Rattle.name_events.specs.declared.event.FoldedIdentifier.{FoldedIdentifier}
use Rattle.name_events.specs.declared.declaration.DeclarationForm.{DeclarationForm}
use Rattle.name_events.specs.declared.declaration.DeclarationForm.TheVariants as form
use Rattle.name_events.specs.declared.declaration.Declaration.{Declaration}
use Rattle.name_events.specs.declared.declaration.Identified.{Identified}
use Rattle.name_events.specs.Declarations.{Entry, is_package}
use Rattle.name_events.specs.Outline.{source_events}
use Rattle.name_events.specs.Predefined.{predefined_entries}
use Rattle.name_events.specs.Known.{Known, source_package}
use Rattle.name_events.specs.Completions.{completed_by, awaits}
use Rattle.name_events.specs.KnownBehind.{known_behind, known_behind_all, known_at_first, behind_declaration, new_entry, open_body}
use Rattle.name_events.specs.Denotes.{Files, known_of, decl_infos, info_of}
use Rattle.name_events.specs.Identified.{number_at, number_declared, completed_or_next, identified_at, identified_from, identified, same_position}
use Rattle.tree_lowering.specs.Lowered.{lowered_files, program_of}
use Rattle.settled_types.specs.Orderly.{at_start, IsOrderly}
use Rattle.settled_types.specs.OrderlyFiles.Regions.{AreRegions, AreTypes}
use Rattle.settled_types.specs.OrderlyFiles.Numbered.{IsNumbered, AreNumbered}
use Rattle.settled_types.specs.OrderlyFiles.Ended.{AllEnded}
use Rattle.settled_types.specs.OrderlyFiles.Apart.{AreApart}
use Rattle.settled_types.proofs.OrderlyFiles.Steps.{unsome, get_more, get_from, IsIndexed, completion}
use Rattle.settled_types.proofs.OrderlyFiles.Units.{files_orderly}

-- ---- numbers by position

same_self : (p : Pos) → same_position p p ≡ true
same_self p = all (nat_eq p.file p.file) (nat_eq p.line p.line) (nat_eq p.column p.column) (self p.file) (self p.line) (self p.column)
  where
    self : (n : ℕ) → nat_eq n n ≡ true
    self n = grind arith

    all : (a b c : Bool) → a ≡ true → b ≡ true → c ≡ true → a && (b && c) ≡ true
    all a b c x y z = grind (arith, x, y, z)

pub found_at : (numbers : List Identified) (item : Identified) → AreApart numbers → Has numbers item → number_at numbers item.pos ≡ Some item.number
found_at [] item apart is = absurd is
found_at (x ∷ rest) item apart (inl same) =
    ap (λ b. if b then Some x.number else number_at rest item.pos) (ap (λ (x : Identified). same_position x.pos item.pos) same ∙ same_self item.pos)
    ∙ ap (λ (x : Identified). Some x.number) same
found_at (x ∷ rest) item apart (inr is) =
    ap (λ b. if b then Some x.number else number_at rest item.pos) (apart.0 item is) ∙ found_at rest item apart.1 is

-- ---- indexes

one_more : (now : Known) (new : DeclarationForm) (id : FoldedIdentifier) → IsIndexed now → (i : ℕ) (x : Entry)
    → slice_get (now.declared ++ new_entry now new id ∷ []) i ≡ Some x → x.1.number ≡ i
one_more now new id are i x is = elim (get_more now.declared x (new_entry now new id) i is) [
  | inl was ↦ are i x was
  | inr last ↦ ap (λ (e : Entry). e.1.number) (sym last.1) ∙ sym last.0
]

declaration_indexed : (now : Known) (new : DeclarationForm) (id : FoldedIdentifier) (o : Option Declaration) → IsIndexed now
    → IsIndexed (behind_declaration now new id o)
declaration_indexed now new id (Some d) are = are
declaration_indexed now form.Package id None are = λ i x is. one_more now form.Package id are i x is
declaration_indexed now new id None are = λ i x is. one_more now new id are i x is

indexed_behind : (now : Known) (event : Event) → IsIndexed now → IsIndexed (known_behind now event)
unfolding known_behind
indexed_behind now (e.Declares new id) are = declaration_indexed now new id (completed_by now new id.name) are
indexed_behind now (e.PackageBodyOpens id) are = by (source_package now.ended id.name)
  where
    by : (o : Option Declaration) → IsIndexed (open_body now id o)
    by None = are
    by (Some d) = are
indexed_behind now _ are = are

declaration_longer : (now : Known) (new : DeclarationForm) (id : FoldedIdentifier) (o : Option Declaration)
    → length now.declared ≤ length (behind_declaration now new id o).declared
declaration_longer now new id (Some d) = omega arith
declaration_longer now form.Package id None = omega (arith, length-append now.declared (new_entry now form.Package id ∷ []))
declaration_longer now new id None = omega (arith, length-append now.declared (new_entry now new id ∷ []))

longer_behind : (now : Known) (event : Event) → length now.declared ≤ length (known_behind now event).declared
unfolding known_behind
longer_behind now (e.Declares new id) = declaration_longer now new id (completed_by now new id.name)
longer_behind now (e.PackageBodyOpens id) = by (source_package now.ended id.name)
  where
    by : (o : Option Declaration) → length now.declared ≤ length (open_body now id o).declared
    by None = omega arith
    by (Some d) = omega arith
longer_behind now _ = omega arith

pub longer_all : (events : List Event) (now : Known) → length now.declared ≤ length (known_behind_all now events).declared
longer_all [] now = omega arith
longer_all (event ∷ rest) now =
    let a = longer_behind now event in let b = longer_all rest (known_behind now event) in omega (arith, a, b)

-- the number of what is declared is that of a declaration after it
number_low : (now : Known) (new : DeclarationForm) (id : FoldedIdentifier) → IsIndexed now
    → number_declared now new id.name < length (known_behind now (e.Declares new id)).declared
unfolding known_behind
number_low now new id are = by (completed_by now new id.name) refl
  where
    package_more : length now.declared < length (behind_declaration now form.Package id None).declared
    package_more = omega (arith, length-append now.declared (new_entry now form.Package id ∷ []))

    next_more : (new : DeclarationForm) → length now.declared < length (behind_declaration now new id None).declared
    next_more form.Package = package_more
    next_more new = omega (arith, length-append now.declared (new_entry now new id ∷ []))

    by : (o : Option Declaration) → completed_by now new id.name ≡ o → completed_or_next now o < length (behind_declaration now new id o).declared
    by None at = next_more new
    by (Some d) at = let c = completion now new id.name d are at in slice_get_within now.declared d.number c.entry c.stands

module _ (numbers : List Identified) (apart : AreApart numbers) (whole : Known) (count : ℕ) where
  one_numbered : (now : Known) (event : Event) → IsIndexed now → ((x : Identified) → Has (identified_at whole now event) x → Has numbers x)
      → length (known_behind now event).declared ≤ count → IsNumbered count numbers now event
  unfolding identified_at
  one_numbered now (e.Declares new id) are has less = (
    ap (λ o. unwrap_or o 0) (found_at numbers (record { pos = id.pos; number = number_declared now new id.name }) apart
        (has (record { pos = id.pos; number = number_declared now new id.name }) (inl refl))),
    let a = number_low now new id are in omega (arith, a, less),
  )
  one_numbered now _ are has less = tt

  all_numbered : (events : List Event) (now : Known) → IsIndexed now → ((x : Identified) → Has (identified_from whole now events) x → Has numbers x)
      → length (known_behind_all now events).declared ≤ count → AreNumbered count numbers now events
  unfolding identified_from
  all_numbered [] now are has less = tt
  all_numbered (event ∷ rest) now are has less =
      let after : Known = known_behind now event in
      let xs : List Identified = identified_at whole now event in
      let ys : List Identified = identified_from whole after rest in
      let a = longer_all rest after in (
        one_numbered now event are (λ x is. has x (Has-append_left xs ys x is)) (omega (arith, a, less)),
        all_numbered rest after (indexed_behind now event are) (λ x is. has x (Has-append_right xs ys x is)) less,
      )

-- ---- at first

-- Predefined declarations: their numbers, their regions, and that none is completed.
abbrev are_first : ℕ → List Entry → Bool
are_first n [] = true
are_first n (x ∷ rest) =
    (nat_eq x.1.number n && (nat_lt x.1.region 4 && (not (awaits x.1.form) && (not (is_package x.1) || nat_lt x.1.own_region 4)))) && are_first (suc n) rest

first_facts : (n : ℕ) (xs : List Entry) → are_first n xs ≡ true → (i : ℕ) (x : Entry) → slice_get xs i ≡ Some x
    → (x.1.number ≡ n + i) × (x.1.region < 4) × (awaits x.1.form ≡ false) × (is_package x.1 ≡ true → x.1.own_region < 4)
first_facts n [] all i x is = absurd (none x is)
  where
    none : (x : Entry) → None ≡ Some x → ⊥
    none x is = false≢true (ap is_some is)
first_facts n (y ∷ rest) all i x is = by (λ all i is. first_facts (suc n) rest all i x is) i is
  where
    both : (a b : Bool) → a && b ≡ true → (a ≡ true) × (b ≡ true)
    both true b e = (refl, e)
    both false b e = absurd (true≢false (sym e))

    equal : (a b : ℕ) → nat_eq a b ≡ true → a ≡ b
    equal a b e = grind (arith, e)

    less : (a b : ℕ) → nat_lt a b ≡ true → a < b
    less a b e = grind (arith, e)

    not_so : (b : Bool) → not b ≡ true → b ≡ false
    not_so true e = absurd (true≢false (sym e))
    not_so false e = refl

    or_less : (a b : Bool) → not a || b ≡ true → a ≡ true → b ≡ true
    or_less true b e is = e
    or_less false b e is = absurd (true≢false (sym is))

    next : (n i : ℕ) → suc n + i ≡ n + suc i
    next n i = omega arith

    by : (are_first (suc n) rest ≡ true → (i : ℕ) → slice_get rest i ≡ Some x
        → (x.1.number ≡ suc n + i) × (x.1.region < 4) × (awaits x.1.form ≡ false) × (is_package x.1 ≡ true → x.1.own_region < 4))
        → (i : ℕ) → slice_get (y ∷ rest) i ≡ Some x
        → (x.1.number ≡ n + i) × (x.1.region < 4) × (awaits x.1.form ≡ false) × (is_package x.1 ≡ true → x.1.own_region < 4)
    by later zero is =
        let here = both (nat_eq y.1.number n && (nat_lt y.1.region 4 && (not (awaits y.1.form) && (not (is_package y.1) || nat_lt y.1.own_region 4)))) (are_first (suc n) rest) all in
        let a = both (nat_eq y.1.number n) (nat_lt y.1.region 4 && (not (awaits y.1.form) && (not (is_package y.1) || nat_lt y.1.own_region 4))) here.0 in
        let b = both (nat_lt y.1.region 4) (not (awaits y.1.form) && (not (is_package y.1) || nat_lt y.1.own_region 4)) a.1 in
        let c = both (not (awaits y.1.form)) (not (is_package y.1) || nat_lt y.1.own_region 4) b.1 in
        let n0 : y.1.number ≡ n + 0 = let d = equal y.1.number n a.0 in omega (arith, d) in
        subst (λ (x : Entry). (x.1.number ≡ n + 0) × (x.1.region < 4) × (awaits x.1.form ≡ false) × (is_package x.1 ≡ true → x.1.own_region < 4)) (unsome is)
        (n0, less y.1.region 4 b.0, not_so (awaits y.1.form) c.0, λ is. less y.1.own_region 4 (or_less (is_package y.1) (nat_lt y.1.own_region 4) c.1 is))
    by later (suc i) is =
        let here = both (nat_eq y.1.number n && (nat_lt y.1.region 4 && (not (awaits y.1.form) && (not (is_package y.1) || nat_lt y.1.own_region 4)))) (are_first (suc n) rest) all in
        let r = later here.1 i is in
        (r.0 ∙ next n i, r.1, r.2, r.3)

at_first : (i : ℕ) (x : Entry) → slice_get predefined_entries i ≡ Some x
    → (x.1.number ≡ 0 + i) × (x.1.region < 4) × (awaits x.1.form ≡ false) × (is_package x.1 ≡ true → x.1.own_region < 4)
at_first = first_facts 0 predefined_entries refl

first_indexed : IsIndexed known_at_first
first_indexed i x is = let a = (at_first i x is).0 in omega (arith, a)

first_regions : AreRegions known_at_first
first_regions = record {
  numbers = first_indexed;
  many = let a : length predefined_entries ≡ 15 = refl in omega (arith, a);
  late = λ i x is waits. absurd (true≢false (sym waits ∙ (at_first i x is).2));
  some = omega arith;
  regions = λ i x is. (at_first i x is).1;
  around = λ r is. absurd is;
  pending = λ x is pack. absurd is;
  ended = λ x is pack. let g = get_from predefined_entries x is in (at_first g.0 x g.1).3 pack;
}

first_types : AreTypes known_at_first at_start
first_types = record {
  awaited = λ d is. absurd is;
  defined = λ d is. elim is [ inl same ↦ inl (sym same) | inr never ↦ absurd never ];
  incomplete = λ d x is what waits. absurd (true≢false (sym (ap awaits what) ∙ (at_first d x is).2));
}

-- ---- files

-- Each identifier that is declared has the number of its declaration by its position.
pub files_numbered : (files : Files) → AreApart (identified files) → AreNumbered (length (decl_infos files)) (identified files) known_at_first (source_events files)
unfolding identified known_of decl_infos
files_numbered files apart =
    let numbers : List Identified = identified files in
    let whole : Known = known_of files in
    let long : length whole.declared ≤ length (decl_infos files) = let a = length-map whole.declared info_of in omega (arith, a) in
    all_numbered numbers apart whole (length (decl_infos files)) (source_events files) known_at_first first_indexed (λ x is. is) long

-- The code of these files is in order.
pub files_in_order : (files : Files) → AreApart (identified files) → AllEnded at_start (lowered_files (identified files) files)
    → IsOrderly (program_of (identified files) (length (decl_infos files)) files)
files_in_order files apart ended =
    files_orderly (length (decl_infos files)) (identified files) files at_start known_at_first first_regions first_types (files_numbered files apart) ended
