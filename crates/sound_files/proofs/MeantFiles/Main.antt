-- Files without a fault of names are meant, where the tables at loops are like the last one.
use Rattle.std.proofs.Common.{◌≡◌, ℕ, zero, suc, ◌-◌, ◌<◌, ◌≤◌, false, List, [], ◌∷◌, ◌++◌, flat_map, length, get_or, replicate, Some, refl, sym, ap, arith, subst, None, length-append}
use Rattle.std.specs.Prelude.{slice_get}
use Rattle.std.proofs.lemmas.List.{length-map, length-replicate}
use Rattle.machine.specs.spark_base.Lists.{Has}
use Rattle.ada_tree.specs.declared.unit.SourceUnit.{SourceUnit}
use Rattle.machine.specs.resolved_tree.Trees.{Code, Program}
use Rattle.name_events.specs.declared.declaration.DeclKind.{DeclKind}
use Rattle.name_events.specs.Outline.{source_events}
use Rattle.name_events.specs.KnownBehind.{known_at_first}
use Rattle.name_events.specs.Denotes.{decl_infos, info_of}
use Rattle.name_events.specs.Denotes as names
use Rattle.name_events.specs.Identified.{identified}
use Rattle.name_events.specs.Faults.{name_fault}
use Rattle.expression_lowering.specs.LoweredExpressions.{Numbers}
use Rattle.typing_steps.specs.Programs.{program_of}
use Rattle.machine.specs.type_definitions.declared.table.Entry.{Entry}
use Rattle.machine.specs.type_definitions.declared.table.Entry.TheVariants as entry
use Rattle.machine.specs.type_definitions.Types.{Table, no_type}
use Rattle.machine.specs.type_definitions.Entries.{entry_of}
use Rattle.machine.specs.type_definitions.Expressions.{profile_of}
use Rattle.machine.specs.type_definitions.Names.{Context}
use Rattle.machine.specs.type_definitions.Whole.{predefined_types, predefined_entries, at_first, outside, known_from, known_of}
use Rattle.machine.specs.typed_tree.Programs.{site_of}
use Rattle.settled_types.specs.FilePositions.Order.{Ascends, event_positions}
use Rattle.soundness.specs.TypedLaws.Fine.{Denotes}
use Rattle.soundness.specs.TypedLaws.TypedPoints.Meant.{typing_meant, AreMeantUnits}
use Rattle.soundness.proofs.TypedLaws.TypedPoints.Numbers.{denotes}
use Rattle.settled_types.specs.GatheredLaws.Made.{type_numbers}
use Rattle.settled_types.specs.GatheredLaws.Views.{AreViewsApart}
use Rattle.sound_files.proofs.MeantFiles.Apart.{views_apart}
use Rattle.settled_types.specs.SteadyTypes.Kept.{AreKept}
use Rattle.sound_files.proofs.MeantFiles.Kept.{units_kept}
use Rattle.sound_files.specs.SeenFiles.Reached.{IsObjectIn}
use Rattle.sound_files.proofs.SeenFiles.Files.{files_fit}
use Rattle.sound_files.proofs.SeenFiles.Entries.{is_object_entry, known_keeps}
use Rattle.sound_files.specs.MeantFiles.Denoted.{AreDenoted}
use Rattle.sound_files.specs.MeantFiles.Declarations.{declarations}
use Rattle.sound_files.specs.MeantFiles.Followed.{AreFollowed}
use Rattle.sound_files.specs.MeantFiles.Typed.{AreTyped}
use Rattle.settled_types.specs.SteadyTypes.Alike.{AreAlike}
use Rattle.settled_types.specs.SteadyTypes.Steady.{AreSteady}
use Rattle.sound_files.proofs.MeantFiles.Objects.{object_numbers, units_same}
use Rattle.sound_files.proofs.MeantFiles.Puts.{function_declared}
use Rattle.sound_files.proofs.MeantFiles.Denoted.{units_denoted}
use Rattle.sound_files.proofs.MeantFiles.Codes as codes
use Rattle.sound_files.proofs.MeantFiles.Walk.{files_low}
use Rattle.sound_files.proofs.MeantFiles.Told.{files_followed}
use Rattle.sound_files.proofs.MeantFiles.Bodies.{kind_in, files_counted, files_kinds, files_have_bodies}
use Rattle.sound_files.proofs.MeantFiles.Given.{IsRight, Given, Goes}
use Rattle.sound_files.proofs.MeantFiles.Types.{units_given, units_first, units_typed}

-- ---- what is known at first

append_low : {A : Type 0} (xs ys : List A) (n : ℕ) (fallback : A) → n < length xs → get_or (xs ++ ys) n fallback ≡ get_or xs n fallback
append_low [] ys n fallback less = absurd (omega (arith, less))
append_low (x ∷ xs) ys zero fallback less = refl
append_low (x ∷ xs) ys (suc n) fallback less = append_low xs ys n fallback (omega (arith, less))

none_at : (k n : ℕ) → get_or (replicate k entry.Nothing) n entry.Nothing ≡ entry.Nothing
none_at zero n = refl
none_at (suc k) zero = refl
none_at (suc k) (suc n) = none_at k n

append_high : (xs : List Entry) (k n : ℕ) → length xs ≤ n → get_or (xs ++ replicate k entry.Nothing) n entry.Nothing ≡ entry.Nothing
append_high [] k n more = none_at k n
append_high (x ∷ xs) k zero more = absurd (omega (arith, more))
append_high (x ∷ xs) k (suc n) more = append_high xs k n (omega (arith, more))

first_given : (kind_at : ℕ → DeclKind) (count : ℕ) → Given kind_at count (predefined_entries ++ replicate (count - 15) entry.Nothing) 15
first_given kind_at count = record {
  low = λ n less. append_low predefined_entries (replicate (count - 15) entry.Nothing) n entry.Nothing less;
  right = λ n more. subst (IsRight kind_at n) (sym (append_high predefined_entries (count - 15) n more)) tt;
  covered = λ n more less. absurd (omega (arith, more, less));
  fresh = λ n more over. append_high predefined_entries (count - 15) n more;
  long =
      let a = length-append predefined_entries (replicate (count - 15) entry.Nothing) in
      let b = length-replicate (count - 15) entry.Nothing in
      let c : length predefined_entries ≡ 15 = refl in
      omega (arith, a, b, c);
}

-- The rows of predefined types are there.
abbrev AreFirst : Table → Type 0
AreFirst table = (t : ℕ) → t < 5 → slice_get table t ≡ slice_get (predefined_types false) t

row_low : (xs ys : Table) (t : ℕ) → t < length xs → slice_get (xs ++ ys) t ≡ slice_get xs t
row_low [] ys t less = absurd (omega (arith, less))
row_low (x ∷ xs) ys zero less = refl
row_low (x ∷ xs) ys (suc t) less = row_low xs ys t (omega (arith, less))

rows_first : (count : ℕ) → AreFirst (at_first false count).table
rows_first count t less = row_low (predefined_types false) (replicate (count - 5) no_type) t less

module _ (files : List (List SourceUnit)) where
  abbrev p : Program
  p = program_of files

  abbrev numbers : Numbers
  numbers = identified files

  abbrev kinds : ℕ → DeclKind
  kinds = kind_in files numbers

  -- the table after the first turn, and where the second one begins
  abbrev pub first_table : Table
  first_table = (known_from p (at_first false p.count).table).table

  abbrev pub start : Context
  start = outside (record (at_first false p.count) { table = first_table })

  all_counted : length (names.known_of files).declared ≡ p.count
  unfolding decl_infos
  all_counted = sym (length-map (names.known_of files).declared info_of)

  module _ (up : Ascends (event_positions (source_events files))) (named : name_fault files ≡ None) where
    pub followed : AreFollowed numbers known_at_first (source_events files)
    followed = files_followed files up named

    pub goes : Goes kinds p.count 15 (flat_map declarations p.units) (length (names.known_of files).declared)
    goes = (
      files_counted files numbers followed,
      files_kinds files numbers followed,
      omega arith,
      let a = all_counted in omega (arith, a),
    )

    pub ends : Given kinds p.count (known_of p).entries p.count
    unfolding known_of
    ends =
        subst (λ n. Given kinds p.count (known_of p).entries n) all_counted
        (units_given kinds p.count p.units start 15 (length (names.known_of files).declared) goes (first_given kinds p.count))

    firsts : AreFirst first_table
    firsts =
        units_first kinds p.count p.units (outside (record (at_first false p.count) { table = (at_first false p.count).table })) 15
        (length (names.known_of files).declared) goes (rows_first p.count)

    lasts : AreFirst (known_of p).table
    unfolding known_of
    lasts = units_first kinds p.count p.units start 15 (length (names.known_of files).declared) goes firsts

    -- Objects and formals have the types that are indicated for them.
    pub files_typed : (made : ℕ → Type 0) → ((m : ℕ) → Has (flat_map type_numbers p.units) m → made m) → p.count ≤ length (known_of p).table
        → AreSteady first_table p.units start → AreAlike first_table (known_of p).table → (u : Code) → Has p.units u → AreTyped made (outside (known_of p)) u
    unfolding known_of
    files_typed made are long steady alike =
        units_typed kinds p.count made first_table p.units (outside (known_of p)) start 15 (length (names.known_of files).declared) refl are long
        (files_low numbers files known_at_first followed) steady alike goes (first_given kinds p.count) ends lasts (λ n high less. ((λ never. refl), (λ object. refl)))

    -- The first turn leaves what it puts of the anonymous access types of objects.
    pub files_kept : p.count ≤ length first_table → AreKept first_table p.units (outside (record (at_first false p.count) { table = (at_first false p.count).table }))
    files_kept long =
        units_kept kinds p.count first_table long p.units (outside (record (at_first false p.count) { table = (at_first false p.count).table })) 15
        (length (names.known_of files).declared) goes (first_given kinds p.count) (λ n high less object. refl)

    -- Anonymous access types have numbers of their own.
    pub files_apart : AreViewsApart p.units
    files_apart = views_apart kinds p.units (files_kinds files numbers followed)

    -- Each subprogram that is known has a body.
    pub files_bodied : (d t : ℕ) → (profile_of (entry_of (known_of p) d)).result ≡ Some t → Has (site_of (known_of p) p.units).bodies d
    unfolding name_fault
    files_bodied d t is = files_have_bodies files numbers followed named d (function_declared p d t is)

    -- What is known as an object and declared as one is denoted, and so are functions.
    declared_denotes : (d : ℕ) → (IsObjectIn (names.known_of files) d → Has (flat_map object_numbers p.units) d)
        → Denotes (site_of (known_of p) p.units) (typing_meant (known_of p) p.units) d
    declared_denotes d declared =
        denotes (known_of p) p.units d
        (λ o is. subst (λ ns. Has ns d) (sym (units_same p.units (record { known = known_of p; identifier = None }) 1 p.units))
        (declared (known_keeps (IsObjectIn (names.known_of files)) p (files_fit files up named) d (ap is_object_entry is))))
        (files_bodied d)

    -- Names denote what is declared.
    pub files_denote : (u : Code) → Has p.units u → AreDenoted (Denotes (site_of (known_of p) p.units) (typing_meant (known_of p) p.units)) u
    files_denote =
        units_denoted (IsObjectIn (names.known_of files)) (Denotes (site_of (known_of p) p.units) (typing_meant (known_of p) p.units)) (flat_map object_numbers p.units)
        declared_denotes p.units [] (λ n has. absurd has) (λ n has. has) (files_fit files up named)

    -- The files are meant.
    pub files_meant : (made : ℕ → Type 0) → ((m : ℕ) → Has (flat_map type_numbers p.units) m → made m) → p.count ≤ length (known_of p).table
        → AreSteady first_table p.units start → AreAlike first_table (known_of p).table → AreMeantUnits (known_of p) made p.units
    files_meant made are long steady alike =
        codes.files_meant numbers (typing_meant (known_of p) p.units) made (site_of (known_of p) p.units) files files_denote (files_typed made are long steady alike)
