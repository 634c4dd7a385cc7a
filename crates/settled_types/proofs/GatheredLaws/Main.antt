-- What is known of a program speaks of types alone, after both turns of gathering; and what follows of
-- what typed expressions ask of tables.
use Rattle.std.proofs.Common.{◌≡◌, ◌⊎◌, inl, inr, refl, sym, ap, ◌∙◌, subst, ℕ, zero, suc, ◌-◌, ◌<◌, ◌≤◌, Bool, true, false, List, [], ◌∷◌, ◌++◌, flat_map, get_or, nat_eq, replicate, arith, ℤ, Option, Some, None}
use Rattle.std.specs.Prelude.{slice_get, is_some}
use Rattle.std.proofs.lemmas.Bool.{eqb-true, false≢true}
use Rattle.std.specs.List.{AllByRecursion}
use Rattle.machine.specs.spark_base.Lists.{Has}
use Rattle.spark_base.proofs.Lists.{Has-append_left, Has-append_right}
use Rattle.machine.specs.resolved_tree.Trees.{Code, Program}
use Rattle.machine.specs.type_definitions.declared.table.Component.{Component}
use Rattle.machine.specs.type_definitions.declared.table.Info.{Info}
use Rattle.machine.specs.type_definitions.declared.table.ObjectInfo.{ObjectInfo}
use Rattle.machine.specs.type_definitions.declared.table.Shape.{Shape}
use Rattle.machine.specs.type_definitions.declared.table.Shape.TheVariants as shape
use Rattle.machine.specs.type_definitions.declared.table.FormalInfo.{FormalInfo}
use Rattle.machine.specs.type_definitions.declared.table.Entry.{Entry}
use Rattle.machine.specs.type_definitions.declared.table.Entry.TheVariants as entry
use Rattle.machine.specs.type_definitions.declared.table.Known.{Known}
use Rattle.machine.specs.type_definitions.Types.{Table, info, info_found, base, shape_of, shape_found, meant_type, meant_type_found, components_of, is_untyped, is_bounded, no_type}
use Rattle.machine.specs.type_definitions.Entries.{entry_of, integer, boolean}
use Rattle.machine.specs.type_definitions.Names.{Context}
use Rattle.machine.specs.type_definitions.Expressions.{no_formal, profile_of}
use Rattle.machine.specs.type_definitions.Gathered.{gather}
use Rattle.machine.specs.type_definitions.Whole.{predefined_types, predefined_entries, at_first, outside, gather_units, known_from, known_of}
use Rattle.settled_types.specs.Orderly.{IsOrderly}
use Rattle.machine.specs.Words.{component_type, no_component}
use Rattle.soundness.specs.TypedLaws.Fine.{counts, lists}
use Rattle.settled_types.specs.GatheredLaws.Made.{type_numbers, IsMade, IsMadeOf, SpeaksOf, AreTypes}
use Rattle.settled_types.proofs.GatheredLaws.Numbered.{program_high}
use Rattle.settled_types.proofs.GatheredLaws.Gathered.{Good, gathered}

module _ (is : ℕ → Type 0) (low : (t : ℕ) → t < 5 → is t) where
  -- ---- at first

  none_row : (n t : ℕ) (Q : Info → Type 0) → Q no_type → Q (info (replicate n no_type) t)
  none_row zero t Q h = h
  none_row (suc n) zero Q h = h
  none_row (suc n) (suc t) Q h = none_row n t Q h

  none_base : (n t : ℕ) → base (replicate n no_type) t ≡ 0
  none_base zero t = refl
  none_base (suc n) zero = refl
  none_base (suc n) (suc t) = none_base n t

  abbrev first_table : ℕ → Table
  first_table n = predefined_types false ++ replicate n no_type

  first_parts : (n t : ℕ) → IsMadeOf is (info (first_table n) t).shape
  first_parts n zero = tt
  first_parts n (suc zero) = tt
  first_parts n (suc (suc zero)) = tt
  first_parts n (suc (suc (suc zero))) = tt
  first_parts n (suc (suc (suc (suc zero)))) = low 0 (omega arith)
  first_parts n (suc (suc (suc (suc (suc t))))) = none_row n t (λ i. IsMadeOf is i.shape) tt

  first_bases : (n t : ℕ) → (base (first_table n) t ≡ 0) ⊎ (base (first_table n) t ≡ 3)
  first_bases n zero = inl refl
  first_bases n (suc zero) = inl refl
  first_bases n (suc (suc zero)) = inl refl
  first_bases n (suc (suc (suc zero))) = inr refl
  first_bases n (suc (suc (suc (suc zero)))) = inl refl
  first_bases n (suc (suc (suc (suc (suc t))))) = inl (none_base n t)

  first_bounded : (n t : ℕ) → (info (first_table n) t).bounded ≡ true
  first_bounded n zero = refl
  first_bounded n (suc zero) = refl
  first_bounded n (suc (suc zero)) = refl
  first_bounded n (suc (suc (suc zero))) = refl
  first_bounded n (suc (suc (suc (suc zero)))) = refl
  first_bounded n (suc (suc (suc (suc (suc t))))) = none_row n t (λ i. i.bounded ≡ true) refl

  first_predefined : (n t : ℕ) → t < 5 → slice_get (first_table n) t ≡ slice_get (predefined_types false) t
  first_predefined n zero less = refl
  first_predefined n (suc zero) less = refl
  first_predefined n (suc (suc zero)) less = refl
  first_predefined n (suc (suc (suc zero))) less = refl
  first_predefined n (suc (suc (suc (suc zero)))) less = refl
  first_predefined n (suc (suc (suc (suc (suc t))))) less = absurd (omega (arith, less))

  none_entry : (n d v : ℕ) → SpeaksOf is d (get_or (replicate n entry.Nothing) v entry.Nothing)
  none_entry zero d v = tt
  none_entry (suc n) d zero = tt
  none_entry (suc n) d (suc v) = none_entry n d v

  first_entries : (n d : ℕ) → SpeaksOf is d (get_or (predefined_entries ++ replicate n entry.Nothing) d entry.Nothing)
  first_entries n zero = low 0 (omega arith)
  first_entries n (suc zero) = low 1 (omega arith)
  first_entries n (suc (suc zero)) = low 2 (omega arith)
  first_entries n (suc (suc (suc zero))) = low 3 (omega arith)
  first_entries n (suc (suc (suc (suc zero)))) = low 3 (omega arith)
  first_entries n (suc (suc (suc (suc (suc zero))))) = low 3 (omega arith)
  first_entries n (suc (suc (suc (suc (suc (suc zero)))))) = tt
  first_entries n (suc (suc (suc (suc (suc (suc (suc zero))))))) = tt
  first_entries n (suc (suc (suc (suc (suc (suc (suc (suc zero)))))))) = tt
  first_entries n (suc (suc (suc (suc (suc (suc (suc (suc (suc zero))))))))) = tt
  first_entries n (suc (suc (suc (suc (suc (suc (suc (suc (suc (suc zero)))))))))) = tt
  first_entries n (suc (suc (suc (suc (suc (suc (suc (suc (suc (suc (suc zero))))))))))) = tt
  first_entries n (suc (suc (suc (suc (suc (suc (suc (suc (suc (suc (suc (suc zero)))))))))))) = tt
  first_entries n (suc (suc (suc (suc (suc (suc (suc (suc (suc (suc (suc (suc (suc zero))))))))))))) = tt
  first_entries n (suc (suc (suc (suc (suc (suc (suc (suc (suc (suc (suc (suc (suc (suc zero)))))))))))))) = tt
  first_entries n (suc (suc (suc (suc (suc (suc (suc (suc (suc (suc (suc (suc (suc (suc (suc d))))))))))))))) =
      none_entry n (suc (suc (suc (suc (suc (suc (suc (suc (suc (suc (suc (suc (suc (suc (suc d))))))))))))))) d

  base_made : (b : ℕ) → (b ≡ 0) ⊎ (b ≡ 3) → is b
  base_made b (inl e) = subst is (sym e) (low 0 (omega arith))
  base_made b (inr e) = subst is (sym e) (low 3 (omega arith))

  base_known : (b : ℕ) → (b ≡ 0) ⊎ (b ≡ 3) → b ≡ 4 → ⊥
  base_known b (inl e) f = omega (arith, e, f)
  base_known b (inr e) f = omega (arith, e, f)

  first_types : (count : ℕ) → AreTypes is (at_first false count)
  first_types count = record {
    parts = first_parts (count - 5);
    bases = λ t. base_made (base (first_table (count - 5)) t) (first_bases (count - 5) t);
    certain = λ t. base_known (base (first_table (count - 5)) t) (first_bases (count - 5) t);
    bounded = first_bounded (count - 5);
    predefined = first_predefined (count - 5);
    entries = first_entries (count - 15);
  }

  -- ---- both turns

  units_gathered : (units : List Code) → ((d : ℕ) → Has (flat_map type_numbers units) d → is d × (5 ≤ d)) → (c : Context) → Good is low c → Good is low (gather_units units c)
  units_gathered [] new c are = are
  units_gathered (u ∷ rest) new c are =
      units_gathered rest (λ d has. new d (Has-append_right (type_numbers u) (flat_map type_numbers rest) d has)) (gather u c)
      (gathered is low u (λ d has. new d (Has-append_left (type_numbers u) (flat_map type_numbers rest) d has)) c are)

  -- a turn that begins with this table
  turn : (p : Program) (table : Table) → ((d : ℕ) → Has (flat_map type_numbers p.units) d → is d × (5 ≤ d)) → AreTypes is (record (at_first false p.count) { table = table })
      → AreTypes is (known_from p table)
  turn p table new are = units_gathered p.units new (outside (record (at_first false p.count) { table = table })) are

  both_turns : (p : Program) → ((d : ℕ) → Has (flat_map type_numbers p.units) d → is d × (5 ≤ d)) → AreTypes is (known_of p)
  unfolding known_of
  both_turns p new =
      let once = turn p (at_first false p.count).table new (first_types p.count) in
      let start = first_types p.count in
      turn p (known_from p (at_first false p.count).table).table new (record {
        parts = once.parts;
        bases = once.bases;
        certain = once.certain;
        bounded = once.bounded;
        predefined = once.predefined;
        entries = start.entries;
      })

pub are_types : (p : Program) → IsOrderly p → AreTypes (IsMade p.units) (known_of p)
are_types p orderly = both_turns (IsMade p.units) (λ t less. inl less) p (λ d has. (inr has, (program_high p orderly d has).0))

-- ---- what typed expressions ask of tables

module _ (is : ℕ → Type 0) (low : (t : ℕ) → t < 5 → is t) (known : Known) (are : AreTypes is known) where
  pub certain : (t : ℕ) → is_untyped known.table t ≡ false
  certain t = by (nat_eq (base known.table t) 4) refl
    where
      by : (b : Bool) → nat_eq (base known.table t) 4 ≡ b → b ≡ false
      by true e = absurd (are.certain t (eqb-true (base known.table t) 4 e))
      by false e = refl

  pub bounded : (t : ℕ) → is_bounded known.table t ≡ true
  bounded t = are.bounded (meant_type known.table t)

  found_part : (o : Option Info) → IsMadeOf is (info_found o).shape → IsMadeOf is (shape_found o)
  found_part None h = h
  found_part (Some i) h = h

  parts : (t : ℕ) → IsMadeOf is (shape_of known.table t)
  parts t = found_part (slice_get known.table (meant_type known.table t)) (are.parts (meant_type known.table t))

  listed_component : (cs : List Component) (i : ℕ) (fallback : Component) → is fallback.of → AllByRecursion (λ (c : Component). is c.of) cs → is (get_or cs i fallback).of
  listed_component [] i fallback h all = h
  listed_component (c ∷ cs) zero fallback h all = all.0
  listed_component (c ∷ cs) (suc i) fallback h all = listed_component cs i fallback h all.1

  pub element : (t of : ℕ) (a b : ℤ) → shape_of known.table t ≡ shape.Elements a b of → is of
  element t of a b e = subst (IsMadeOf is) e (parts t)

  pub target : (t d : ℕ) (constant named : Bool) → shape_of known.table t ≡ shape.Access d constant named → is d
  target t d constant named e = subst (IsMadeOf is) e (parts t)

  pub object : (d : ℕ) (o : ObjectInfo) → entry_of known d ≡ entry.Object o → is o.of
  object d o e = subst (SpeaksOf is d) e (are.entries d)

  pub literal : (d t n : ℕ) → entry_of known d ≡ entry.Literal t n → is t
  literal d t n e = subst (SpeaksOf is d) e (are.entries d)

  pub typed : (d : ℕ) → entry_of known d ≡ entry.Type → is d
  typed d e = subst (SpeaksOf is d) e (are.entries d)

  pub result : (d t : ℕ) → (profile_of (entry_of known d)).result ≡ Some t → is t
  result d t e = by (entry_of known d) (are.entries d) e
    where
      by : (x : Entry) → SpeaksOf is d x → (profile_of x).result ≡ Some t → is t
      by (entry.Subprogram p) speaks f = speaks.0 t f
      by x speaks f = absurd (false≢true (ap is_some f))

  listed_formal : (fs : List FormalInfo) (i : ℕ) → AllByRecursion (λ (f : FormalInfo). is f.of) fs → is (get_or fs i no_formal).of
  listed_formal [] i all = low 0 (omega arith)
  listed_formal (f ∷ fs) zero all = all.0
  listed_formal (f ∷ fs) (suc i) all = listed_formal fs i all.1

  -- The formals of a profile are of types.
  pub formal : (d i : ℕ) → is (get_or (profile_of (entry_of known d)).formals i no_formal).of
  formal d i = by (entry_of known d) (are.entries d)
    where
      by : (x : Entry) → SpeaksOf is d x → is (get_or (profile_of x).formals i no_formal).of
      by (entry.Subprogram p) speaks = listed_formal p.formals i speaks.1
      by x speaks = low 0 (omega arith)

  pub component : (t i : ℕ) → is (component_type known.table t i)
  component t i = by (shape_of known.table t) (parts t)
    where
      by : (z : Shape) → IsMadeOf is z → is (get_or (components_of z) i no_component).of
      by (shape.Fields cs) all = listed_component cs i no_component (low 0 (omega arith)) all
      by z all = low 0 (omega arith)

  predefined_shape : (t : ℕ) → t < 5 → meant_type_found t (slice_get (predefined_types false) t) ≡ t → shape_of known.table t ≡ shape_found (slice_get (predefined_types false) t)
  predefined_shape t less own =
      let row = are.predefined t less in
      let meant : meant_type known.table t ≡ t = ap (meant_type_found t) row ∙ own in
      ap (λ z. shape_found (slice_get known.table z)) meant ∙ ap shape_found row

  pub whole : counts (shape_of known.table integer) ≡ true
  whole = ap counts (predefined_shape 0 (omega arith) refl)

  pub listed : lists (shape_of known.table boolean) ≡ true
  listed = ap lists (predefined_shape 3 (omega arith) refl)
