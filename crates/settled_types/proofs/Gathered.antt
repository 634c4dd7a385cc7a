-- What a turn over the text of a program in order does to what is known: definitions, and all of the code.
use Rattle.std.proofs.Common.{◌≡◌, ◌⊎◌, inl, inr, ℕ, zero, suc, ◌<◌, ◌≤◌, Bool, true, false, not, ◌||◌, List, [], ◌∷◌, ◌++◌, refl, sym, ap, ◌∙◌, arith, nat_eq, set, Option, Some, None, is_some, true≢false, subst, if◌then◌else◌}
use Rattle.std.specs.Prelude.{slice_get, ℤ}
use Rattle.machine.specs.spark_base.declared.position.Pos.{Pos}
use Rattle.machine.specs.spark_base.Lists.{Has}
use Rattle.machine.specs.resolved_tree.declared.node.Mark.{Mark}
use Rattle.machine.specs.resolved_tree.Trees.{More, Code, Enumeration, Record, Components, Array, Access, Incomplete, Private, TypeDecl, Subtype, ConstrainedSubtype, Objects, Numbers, Instance, SubDecl, SubBody, Package, PackageBody, If, Branch, Case, When, Loop, While, For, Block}
use Rattle.machine.specs.type_definitions.declared.table.Component.{Component}
use Rattle.machine.specs.type_definitions.declared.table.Info.{Info}
use Rattle.machine.specs.type_definitions.declared.table.Known.{Known}
use Rattle.machine.specs.type_definitions.declared.table.Entry.{Entry}
use Rattle.machine.specs.type_definitions.declared.table.Entry.TheVariants as entry
use Rattle.machine.specs.type_definitions.declared.table.Kind.TheVariants as kind
use Rattle.machine.specs.type_definitions.declared.table.Shape.{Shape}
use Rattle.machine.specs.type_definitions.declared.table.Shape.TheVariants as shape
use Rattle.machine.specs.type_definitions.declared.judgement.View.{View}
use Rattle.machine.specs.type_definitions.declared.judgement.View.TheVariants as view
use Rattle.machine.specs.type_definitions.Types.{Table, info, info_found, full, base, same_as, shape_found, untyped}
use Rattle.machine.specs.type_definitions.Entries.{entry_of, is_type, is_complete, complete_at, marked, type_of_mark, type_of_entry}
use Rattle.machine.specs.type_definitions.Faults.{is_before}
use Rattle.machine.specs.type_definitions.Names.{Context}
use Rattle.machine.specs.type_definitions.Declarations.{any_of, holds_shape}
use Rattle.machine.specs.type_definitions.Gathered.{completion, with_type, with_entry, full_info, subtype_info, meant_by, constrained_shape, bound_pair, component_group, component_groups, component_list, defined, with_object, with_number, with_body_front, with_definition, constant_value, initial_value, plain_object, parameter_type, instance_type, is_subprogram, front_number, is_asked, are_static_bounds, declared_number, declared_pos, in_subprogram, in_visible, in_hidden, gather}
use Rattle.machine.specs.type_definitions.Whole.{predefined_types}
use Rattle.type_settled.specs.Rings.{IsPart}
use Rattle.settled_types.specs.Wholes.{written}
use Rattle.settled_types.specs.Orderly.{Past, without, with_defined, within, group_marks, list_marks, definition_marks, past_after, IsNew, Completes, Orderly}
use Rattle.settled_types.specs.Stamped.{IsOpen, IsAfterEnd, AreGroupsAfter, ArePartsAfter, Opens, IsType, IsFixed, IsClosed, Keeps, LeadsTo, AreRows, AreStamped}
use Rattle.settled_types.proofs.Ringless.{or_cases, is_same, shape_info}
use Rattle.settled_types.proofs.Rows.{IsMadeOf, entered, told, same_part, not_type, closed_more, Fits, Defines, row_new}
use Rattle.settled_types.proofs.Homes.{AtHome, homes, body_home}
use Rattle.settled_types.proofs.Turns.{Turn, stay, and_then, within_turn, entry_turn, type_turn, row_turn, incomplete_turn, private_turn, object_turn, number_turn, names_turn, front_turn, body_turn, definition_turn}

-- ---- what marks denote

four : untyped < 5
four = omega arith

type_here : (p : Past) (known : Known) → ((v : ℕ) → is_type (entry_of known v) ≡ true → IsType p v) → (d : ℕ) (e : Entry) → entry_of known d ≡ e
    → IsType p (type_of_entry d e)
type_here p known types d entry.Type is = types d (ap is_type is)
type_here p known types d _ is = inl four

mark_type : (p : Past) (known : Known) → ((v : ℕ) → is_type (entry_of known v) ≡ true → IsType p v) → (o : Option ℕ) → IsType p (type_of_mark known o)
mark_type p known types None = inl four
mark_type p known types (Some d) = type_here p known types d (entry_of known d) refl

abbrev has : ℕ → List Component → Bool
has v cs = any_of (λ u. nat_eq u v) cs

has_either : (v : ℕ) (xs ys : List Component) → has v (xs ++ ys) ≡ true → (has v xs ≡ true) ⊎ (has v ys ≡ true)
has_either v [] ys e = inr e
has_either v (x ∷ rest) ys e = cases (nat_eq x.of v) (has_either v rest ys) e
  where
    cases : (b : Bool) → (has v (rest ++ ys) ≡ true → (has v rest ≡ true) ⊎ (has v ys ≡ true))
        → b || has v (rest ++ ys) ≡ true → (b || has v rest ≡ true) ⊎ (has v ys ≡ true)
    cases true on e = inl refl
    cases false on e = on e

module _ (p : Past) (known : Known) (types : (v : ℕ) → is_type (entry_of known v) ≡ true → IsType p v) where
  pub marked_type : (m : Mark) → IsType p (marked known m)
  marked_type m = mark_type p known types m.decl

  marked_is : (m : Mark) (v : ℕ) → nat_eq (marked known m) v ≡ true → IsType p v
  marked_is m v e = subst (IsType p) (is_same (marked known m) v e) (marked_type m)

  -- ---- what definitions are made of

  group_types : (m : Mark) (names : Code) (v : ℕ) → has v (component_group (marked known m) names) ≡ true → IsType p v
  group_types m (More d rest) v e = elim (or_cases (nat_eq (marked known m) v) (has v (component_group (marked known m) rest)) e) [
    | inl now ↦ marked_is m v now
    | inr later ↦ group_types m rest v later
  ]
  group_types m _ v e = absurd (true≢false (sym e))

  groups_types : (group : Code) (v : ℕ) → has v (component_groups known group) ≡ true → IsType p v
  groups_types (Components names m) v e = group_types m names v e
  groups_types _ v e = absurd (true≢false (sym e))

  list_types : (code : Code) (v : ℕ) → has v (component_list known code) ≡ true → IsType p v
  list_types (More group rest) v e = elim (has_either v (component_groups known group) (component_list known rest) e) [
    | inl now ↦ groups_types group v now
    | inr later ↦ list_types rest v later
  ]
  list_types _ v e = absurd (true≢false (sym e))

defined_types : (p : Past) (c : Context) → ((v : ℕ) → is_type (entry_of c.known v) ≡ true → IsType p v) → (def : Code) (v : ℕ)
    → holds_shape (λ u. nat_eq u v) (defined c def) ≡ true → IsType p v
defined_types p c types (Enumeration literals) v e = absurd (true≢false (sym e))
defined_types p c types (Record components) v e = list_types p c.known types components v e
defined_types p c types (Array range m) v e = marked_is p c.known types m v e
defined_types p c types (Access m) v e = absurd (true≢false (sym e))
defined_types p c types _ v e = absurd (true≢false (sym e))

no_chain : (c : Context) (def : Code) (of : ℕ) → defined c def ≡ shape.Same of → ⊥
no_chain c (Enumeration literals) of is = cc
no_chain c (Record components) of is = cc
no_chain c (Array range m) of is = cc
no_chain c (Access m) of is = cc
no_chain c _ of is = cc

-- ---- what is complete

-- A mark denotes what it does in the end, or stands for no type.
module _ (final known : Known) (kept : Keeps known final) where
  type_is : (d : ℕ) (e : Entry) → is_type e ≡ true → type_of_entry d e ≡ d
  type_is d entry.Type is = refl
  type_is d _ is = absurd (true≢false (sym is))

  abbrev ClosedAt : Pos → ℕ → Type 0
  ClosedAt x v = (v < 5) ⊎ (is_complete final v x ≡ true)

  entry_closed : (x : Pos) (d : ℕ) (e : Entry) → entry_of known d ≡ e → is_complete final (type_of_entry d (entry_of final d)) x ≡ true
      → ClosedAt x (type_of_entry d e)
  entry_closed x d entry.Type is after =
      inr (ap (λ t. is_complete final t x) (sym (type_is d (entry_of final d) (kept d (ap is_type is)))) ∙ after)
  entry_closed x d _ is after = inl four

  decl_closed : (x : Pos) (o : Option ℕ) → is_complete final (type_of_mark final o) x ≡ true → ClosedAt x (type_of_mark known o)
  decl_closed x None after = inl four
  decl_closed x (Some d) after = entry_closed x d (entry_of known d) refl after

  pub mark_closed : (ps : List Pos) (m : Mark) → IsAfterEnd final m → IsClosed final (m.pos ∷ ps) (marked known m)
  mark_closed ps m after = elim (decl_closed m.pos m.decl after) [
    | inl none ↦ inl none
    | inr is ↦ inr (m.pos, inl refl, is)
  ]

  mark_closed_is : (ps : List Pos) (m : Mark) (v : ℕ) → IsAfterEnd final m → nat_eq (marked known m) v ≡ true → IsClosed final (m.pos ∷ ps) v
  mark_closed_is ps m v after e = subst (IsClosed final (m.pos ∷ ps)) (is_same (marked known m) v e) (mark_closed ps m after)

  group_more : (group : Code) (ps : List Pos) (x : Pos) → Has ps x → Has (group_marks group ps) x
  group_more (Components names m) ps x is = inr is
  group_more _ ps x is = is

  list_more : (code : Code) (ps : List Pos) (x : Pos) → Has ps x → Has (list_marks code ps) x
  list_more (More group rest) ps x is = list_more rest (group_marks group ps) x (group_more group ps x is)
  list_more _ ps x is = is

  pub definition_more : (def : Code) (ps : List Pos) (x : Pos) → Has ps x → Has (definition_marks def ps) x
  definition_more (Record components) ps x is = list_more components ps x is
  definition_more (Array range m) ps x is = inr is
  definition_more _ ps x is = is

  names_closed : (m : Mark) (names : Code) (ps : List Pos) (v : ℕ) → IsAfterEnd final m
      → any_of (λ u. nat_eq u v) (component_group (marked known m) names) ≡ true → IsClosed final (m.pos ∷ ps) v
  names_closed m (More d rest) ps v after e =
      elim (or_cases (nat_eq (marked known m) v) (any_of (λ u. nat_eq u v) (component_group (marked known m) rest)) e) [
        | inl now ↦ mark_closed_is ps m v after now
        | inr later ↦ names_closed m rest ps v after later
      ]
  names_closed m _ ps v after e = absurd (true≢false (sym e))

  list_closed : (code : Code) (ps : List Pos) (v : ℕ) → AreGroupsAfter final code
      → any_of (λ u. nat_eq u v) (component_list known code) ≡ true → IsClosed final (list_marks code ps) v
  list_closed (More (Components names m) rest) ps v after e =
      elim (has_either v (component_group (marked known m) names) (component_list known rest) e) [
        | inl now ↦ closed_more final (m.pos ∷ ps) (list_marks rest (m.pos ∷ ps)) (list_more rest (m.pos ∷ ps)) v (names_closed m names ps v after.0 now)
        | inr later ↦ list_closed rest (m.pos ∷ ps) v after.1 later
      ]
  list_closed (More _ rest) ps v after e = list_closed rest ps v after.1 e
  list_closed _ ps v after e = absurd (true≢false (sym e))

definition_closed : (final : Known) (c : Context) → Keeps c.known final → (def : Code) (ps : List Pos) (v : ℕ) → ArePartsAfter final def
    → holds_shape (λ u. nat_eq u v) (defined c def) ≡ true → IsClosed final (definition_marks def ps) v
definition_closed final c kept (Enumeration literals) ps v after e = absurd (true≢false (sym e))
definition_closed final c kept (Record components) ps v after e = list_closed final c.known kept components ps v after e
definition_closed final c kept (Array range m) ps v after e = mark_closed_is final c.known kept ps m v after e
definition_closed final c kept (Access m) ps v after e = absurd (true≢false (sym e))
definition_closed final c kept _ ps v after e = absurd (true≢false (sym e))

-- ---- predefined types

same_of : (t of : ℕ) (s : Shape) → shape.Same t ≡ s → s ≡ shape.Same of → of ≡ t
same_of t of s one two = ap (same_as 0) (sym two) ∙ ap (same_as 0) (sym one)

first_same : (t of : ℕ) → t < 5 → shape_found (slice_get (predefined_types false) t) ≡ shape.Same of → of ≡ 0
first_same zero of less e = cc
first_same (suc zero) of less e = cc
first_same (suc (suc zero)) of less e = cc
first_same (suc (suc (suc zero))) of less e = cc
first_same (suc (suc (suc (suc zero)))) of less e = sym (ap (same_as 7) e)
first_same (suc (suc (suc (suc (suc t))))) of less e = absurd (omega (arith, less))

first_plain : (on : ℕ) → shape_found (slice_get (predefined_types false) 0) ≡ shape.Same on → ⊥
first_plain on e = cc

module _ (count : ℕ) (start : Table) (p : Past) (known : Known) (rows : AreRows count start p known) where
  pub row_same : (t of : ℕ) → t < 5 → written known.table t ≡ shape.Same of → of ≡ 0
  row_same t of less e = first_same t of less (ap shape_found (sym (rows.predefined t less)) ∙ e)

  pub row_plain : (on : ℕ) → written known.table 0 ≡ shape.Same on → ⊥
  row_plain on e = let less : 0 < 5 = omega arith in first_plain on (ap shape_found (sym (rows.predefined 0 less)) ∙ e)

-- ---- what a subtype is the same as

module _ (final : Known) (count : ℕ) (start : Table) (p : Past) (c : Context) (rows : AreRows count start p c.known) (are : AreStamped final p c.known)
    (kept : Keeps c.known final) (m : Mark) (after : IsAfterEnd final m) where
  abbrev t : ℕ
  t = marked c.known m

  abbrev ms : List Pos
  ms = m.pos ∷ p.marks

  pub is_mark : IsType p t
  is_mark = marked_type p c.known rows.types m

  pub is_closed : IsClosed final ms t
  is_closed = mark_closed final c.known kept p.marks m after

  -- What it is the same as, where the type in the mark is the same as another one.
  abbrev Meant : ℕ → Type 0
  Meant of = IsType p of × IsClosed final ms of × ((on : ℕ) → written c.known.table of ≡ shape.Same on → ⊥)

  through : (of : ℕ) → written c.known.table t ≡ shape.Same of → IsType p t → Meant of
  through of e (inl less) =
      let zero_of : of ≡ 0 = row_same count start p c.known rows t of less e in
      let low : of < 5 = omega (arith, zero_of) in
      (inl low, inl low, λ on goes. row_plain count start p c.known rows on (ap (written c.known.table) (sym zero_of) ∙ goes))
  through of e (inr (inl is)) = absurd (rows.awaited t of is e)
  through of e (inr (inr is)) =
      let part : IsPart c.known.table of t = same_part c.known.table t of e in
      (are.parts t of is part, closed_more final p.marks ms (λ x is. inr is) of (are.closed t of is part), λ on goes. are.short t of on is e goes)

  pub meant : (s : Shape) → written c.known.table t ≡ s → Meant (meant_by s t)
  meant (shape.Same of) is = through of is is_mark
  meant (shape.Whole low high) is = (is_mark, is_closed, λ on goes. let e = sym is ∙ goes in cc)
  meant (shape.Listed literals low high) is = (is_mark, is_closed, λ on goes. let e = sym is ∙ goes in cc)
  meant (shape.Access d constant named) is = (is_mark, is_closed, λ on goes. let e = sym is ∙ goes in cc)
  meant (shape.Fields cs) is = (is_mark, is_closed, λ on goes. let e = sym is ∙ goes in cc)
  meant (shape.Elements low high u) is = (is_mark, is_closed, λ on goes. let e = sym is ∙ goes in cc)

-- ---- definitions

module _ (final : Known) (count : ℕ) (all : List ℕ) (start : Table)
    (unlike : (d of : ℕ) → 15 ≤ d → Has all d → written start d ≡ shape.Same of → ⊥) where
  -- What is left of a list without a number.
  left : (d t x : ℕ) (rest : List ℕ) (b : Bool) → nat_eq x d ≡ b
      → (Has (without d rest) t → Has rest t × (t ≡ d → ⊥)) → Has (if b then without d rest else x ∷ without d rest) t
      → Has (x ∷ rest) t × (t ≡ d → ⊥)
  left d t x rest true e more is = let m = more is in (inr m.0, m.1)
  left d t x rest false e more (inl same) = (inl same, λ at. true≢false (sym (equal x d (same ∙ at)) ∙ e))
    where
      equal : (x d : ℕ) → x ≡ d → nat_eq x d ≡ true
      equal x d e = grind (arith, e)
  left d t x rest false e more (inr is) = let m = more is in (inr m.0, m.1)

  pub without_it : (d t : ℕ) (xs : List ℕ) → Has (without d xs) t → Has xs t × (t ≡ d → ⊥)
  without_it d t [] is = absurd is
  without_it d t (x ∷ rest) is = left d t x rest (nat_eq x d) refl (without_it d t rest) is

  -- A row that is defined, and its entry.
  defined_turn : (d : ℕ) (i : Info) (marks : List Pos) (p : Past) (known : Known) → 15 ≤ d → d < count → (IsFixed p d → ⊥)
      → ((of : ℕ) → Has p.awaited d → i.shape ≡ shape.Same of → ⊥) → (is_some i.seen_in ≡ true → i.base ≡ d)
      → (AreRows count start p known → slice_get (set known.table d i) d ≡ Some i → LeadsTo final (with_defined d marks p) (told known d i)
      → AreStamped final p known → Defines final p (with_defined d marks p) known d i)
      → Turn final count all start p known (with_defined d marks p) (entered (told known d i) d entry.Type)
  defined_turn d i marks p known own inside unfixed plain based defines =
      let q : Past = with_defined d marks p in
      let after : Known = told known d i in
      and_then final count all start unlike p q q known after (entered after d entry.Type)
      (row_turn final count all start unlike d i p q known (λ t is. is) (λ t is. inr is)
      (λ t is. (inr is.0, λ waits. is.1 (without_it d t p.private waits).0, λ waits. is.2 (without_it d t p.incomplete waits).0)) (λ within rows.
      let fits : Fits count start p q d i = record {
        own = own;
        inside = inside;
        awaits = λ t is. is;
        awaited = λ t is. inl is;
        defines = λ t is. inr is;
        rest = λ none. absurd (none (inl refl));
        plain = λ none. absurd (none (inl refl));
        unlike = λ is of. plain of is;
        based = based;
        private = λ t is. inl (without_it d t p.private is);
        incomplete = λ t is. inl (without_it d t p.incomplete is);
        unfixed = unfixed;
      } in (fits, λ later are. defines rows (row_new count start p q known d i fits rows) later are)))
      (type_turn final count all start unlike d q after (inr (inr (inl refl))))

  one_more : (d : ℕ) (marks : List Pos) (p : Past) (t : ℕ) → Has (with_defined d marks p).defined t → Has p.defined t ⊎ (t ≡ d)
  one_more d marks p t (inl same) = inr (sym same)
  one_more d marks p t (inr is) = inl is

  -- ---- full types

  module _ (d : ℕ) (def : Code) (end : Pos) (p : Past) (c : Context) (opens : is_some (info final.table d).seen_in ≡ true → IsOpen final.table d)
      (after : ArePartsAfter final def) where
    abbrev new_info : Info
    new_info = full_info c d def end

    abbrev qs : List Pos
    qs = definition_marks def p.marks

    abbrev q : Past
    q = with_defined d qs p

    unfixed : IsNew count d p ⊎ (Has p.private d ⊎ (Has p.incomplete d × ((at : Pos) → Has qs at → is_before end at ≡ false))) → IsFixed p d → ⊥
    unfixed (inl new) is = new.3 is.0
    unfixed (inr (inl hidden)) is = is.1 hidden
    unfixed (inr (inr late)) is = is.2 late.0

    -- the definition is this one up to the end
    fixed_now : IsFixed q d
    fixed_now = (inl refl, λ is. (without_it d d p.private is).1 refl, λ is. (without_it d d p.incomplete is).1 refl)

    abbrev Stored : Type 0
    Stored = slice_get (set c.known.table d new_info) d ≡ Some new_info

    in_the_end : Stored → LeadsTo final q (told c.known d new_info) → slice_get final.table d ≡ Some new_info
    in_the_end stored later = later.fixed d fixed_now ∙ stored

    ended : (o : Option Pos) → is_some o ≡ true → completion o end ≡ Some end
    ended None is = absurd (true≢false (sym is))
    ended (Some at) is = refl

    never_closed : AreRows count start p c.known → Stored → LeadsTo final q (told c.known d new_info) → 15 ≤ d → Has p.incomplete d
        → ((at : Pos) → Has qs at → is_before end at ≡ false) → IsClosed final qs d → ⊥
    unfolding is_complete
    never_closed rows stored later own waits late (inl less) = omega (arith, own, less)
    never_closed rows stored later own waits late (inr at) =
        let e : (info final.table d).completed ≡ Some end =
        ap (λ o. (info_found o).completed) (in_the_end stored later) ∙ ended (info c.known.table d).completed (rows.incomplete d waits).1 in
        true≢false (sym at.2 ∙ ap (λ o. complete_at o at.0) e ∙ late at.0 at.1)

    seen_now : AreRows count start p c.known → Stored → LeadsTo final q (told c.known d new_info) → Has p.private d
        → is_some (info final.table d).seen_in ≡ true
    seen_now rows stored later hidden = ap (λ o. is_some (info_found o).seen_in) (in_the_end stored later) ∙ (rows.private d hidden).1

    next : AreRows count start p c.known → Stored → LeadsTo final q (told c.known d new_info) → 15 ≤ d
        → IsNew count d p ⊎ (Has p.private d ⊎ (Has p.incomplete d × ((at : Pos) → Has qs at → is_before end at ≡ false)))
        → (IsOpen final.table d × ((on : ℕ) → defined c def ≡ shape.Same on → ⊥)) ⊎ ((IsType p d → ⊥) ⊎ (IsClosed final qs d → ⊥))
    next rows stored later own (inl new) = inr (inl (not_type count d p new))
    next rows stored later own (inr (inl hidden)) = inl (opens (seen_now rows stored later hidden), no_chain c def)
    next rows stored later own (inr (inr late)) = inr (inr (never_closed rows stored later own late.0 late.1))

    full_parts : AreRows count start p c.known → (v : ℕ) → IsMadeOf new_info v → IsType p v
    full_parts rows v e = elim (or_cases (holds_shape (λ u. nat_eq u v) (defined c def)) false e) [
      | inl of ↦ defined_types p c rows.types def v of
      | inr up ↦ absurd (true≢false (sym up))
    ]

    full_closed : Keeps c.known final → (v : ℕ) → IsMadeOf new_info v → IsClosed final qs v
    full_closed kept v e = elim (or_cases (holds_shape (λ u. nat_eq u v) (defined c def)) false e) [
      | inl of ↦ definition_closed final c kept def p.marks v after of
      | inr up ↦ absurd (true≢false (sym up))
    ]

    full_turn : Completes count end qs d p → Turn final count all start p c.known q (with_type d new_info c).known
    full_turn are =
        defined_turn d new_info qs p c.known are.0 are.1 (unfixed are.2) (λ of is e. no_chain c def of e) (λ seen. refl)
        (λ rows stored later stamped. record {
          only = one_more d qs p;
          marks = definition_more final c.known later.keeps def p.marks;
          parts = λ is. full_parts rows;
          closed = λ is. full_closed later.keeps;
          chain = λ is of on e goes. no_chain c def of e;
          next = next rows stored later are.0 are.2;
        })

  -- ---- subtypes

  module _ (d : ℕ) (m : Mark) (p : Past) (c : Context) (new : IsNew count d p) (after : IsAfterEnd final m) where
    abbrev of : ℕ
    of = marked c.known m

    abbrev ns : List Pos
    ns = m.pos ∷ p.marks

    subtype_turn : Turn final count all start p c.known (with_defined d ns p)
        (with_type d (subtype_info c.known of (shape.Same (meant_by (info c.known.table of).shape of)) true) c).known
    subtype_turn =
        let s : Shape = (info c.known.table of).shape in
        let is : written c.known.table of ≡ s = shape_info (slice_get c.known.table of) in
        let i : Info = subtype_info c.known of (shape.Same (meant_by s of)) true in
        defined_turn d i ns p c.known new.0 new.1 (λ is. new.3 is.0) (λ of is. absurd (new.2 is)) (λ seen. absurd (true≢false (sym seen)))
        (λ rows stored later stamped.
        let w = meant final count start p c rows stamped later.keeps m after s is in record {
          only = one_more d ns p;
          marks = λ x is. inr is;
          parts = λ is v e. elim (or_cases (nat_eq (meant_by s of) v) (nat_eq of v) e) [
            | inl now ↦ subst (IsType p) (is_same (meant_by s of) v now) w.0
            | inr up ↦ subst (IsType p) (is_same of v up) (is_mark final count start p c rows stamped later.keeps m after)
          ];
          closed = λ is v e. elim (or_cases (nat_eq (meant_by s of) v) (nat_eq of v) e) [
            | inl now ↦ subst (IsClosed final ns) (is_same (meant_by s of) v now) w.1
            | inr up ↦ subst (IsClosed final ns) (is_same of v up) (is_closed final count start p c rows stamped later.keeps m after)
          ];
          chain = λ is to on e goes. w.2 on (ap (written c.known.table) (ap (same_as 0) e) ∙ goes);
          next = inr (inl (not_type count d p new));
        })

    -- one with bounds
    bound_parts : (v : ℕ) (w : View) (b : ℤ × ℤ) → holds_shape (λ u. nat_eq u v) (constrained_shape w b) ≡ true → ⊥
    bound_parts v (view.Whole low high) b e = true≢false (sym e)
    bound_parts v (view.Listed low high) b e = true≢false (sym e)
    bound_parts v _ b e = true≢false (sym e)

    bound_chain : (w : View) (b : ℤ × ℤ) (to : ℕ) → constrained_shape w b ≡ shape.Same to → ⊥
    bound_chain (view.Whole low high) b to e = cc
    bound_chain (view.Listed low high) b to e = cc
    bound_chain _ b to e = cc

    constrained_turn : (w : View) (b : ℤ × ℤ) (bounded : Bool)
        → Turn final count all start p c.known (with_defined d ns p) (with_type d (subtype_info c.known of (constrained_shape w b) bounded) c).known
    constrained_turn w b bounded =
        let i : Info = subtype_info c.known of (constrained_shape w b) bounded in
        defined_turn d i ns p c.known new.0 new.1 (λ is. new.3 is.0) (λ of is. absurd (new.2 is)) (λ seen. absurd (true≢false (sym seen)))
        (λ rows stored later stamped. record {
          only = one_more d ns p;
          marks = λ x is. inr is;
          parts = λ is v e. elim (or_cases (holds_shape (λ u. nat_eq u v) (constrained_shape w b)) (nat_eq of v) e) [
            | inl now ↦ absurd (bound_parts v w b now)
            | inr up ↦ subst (IsType p) (is_same of v up) (is_mark final count start p c rows stamped later.keeps m after)
          ];
          closed = λ is v e. elim (or_cases (holds_shape (λ u. nat_eq u v) (constrained_shape w b)) (nat_eq of v) e) [
            | inl now ↦ absurd (bound_parts v w b now)
            | inr up ↦ subst (IsClosed final ns) (is_same of v up) (is_closed final count start p c rows stamped later.keeps m after)
          ];
          chain = λ is to on e goes. bound_chain w b to e;
          next = inr (inl (not_type count d p new));
        })

  -- ---- all of the code

  pub gathered : (code : Code) (p : Past) (c : Context) → Orderly count p code → Opens final code → AtHome p c
      → Turn final count all start p c.known (past_after code p) (gather code c).known
  unfolding gather Orderly Opens past_after
  gathered (Incomplete d) p c are opens at = incomplete_turn final count all start unlike (declared_number d) (declared_pos d) p c.known are
  gathered (Private d) p c are opens at = private_turn final count all start unlike (declared_number d) c.home p c.known are at
  gathered (TypeDecl d def end) p c are opens at =
      let n : ℕ = declared_number d in
      let q : Past = with_defined n (definition_marks def p.marks) p in
      let middle : Context = with_type n (full_info c n def end) c in
      and_then final count all start unlike p q q c.known middle.known (with_definition n def middle).known
      (full_turn n def end p c (λ seen. (seen, opens.0 seen)) opens.1 are.0)
      (definition_turn final count all start unlike n q def middle are.1)
  gathered (Subtype d m) p c are opens at = subtype_turn (declared_number d) m p c are opens
  gathered (ConstrainedSubtype d m low high) p c are opens at =
      let t : ℕ = marked c.known m in
      constrained_turn (declared_number d) m p c are opens (full c.known.table t) (bound_pair c (base c.known.table t) low high)
      (not (is_asked c) || are_static_bounds c (base c.known.table t) low high)
  gathered (Objects ids constant i v) p c are opens at =
      names_turn final count all start unlike (with_object constant i (constant_value c constant v)) p
      (object_turn final count all start unlike constant i (constant_value c constant v) p) ids c are
  gathered (Numbers ids e) p c are opens at =
      names_turn final count all start unlike (with_number (initial_value c e)) p (number_turn final count all start unlike (initial_value c e) p) ids c are
  gathered (Instance d m args) p c are opens at =
      entry_turn final count all start unlike (declared_number d) (entry.Instance (instance_type args)) p c.known are refl
  gathered (SubDecl front) p c are opens at = front_turn final count all start unlike front p c are
  gathered (SubBody front items stmts end) p c are opens at =
      let inner : Context = in_subprogram front (with_body_front front c) in
      let middle : Context = gather items inner in
      let q : Past = past_after items p in
      and_then final count all start unlike p p (past_after stmts q) c.known inner.known (gather stmts middle).known
      (body_turn final count all start unlike (is_subprogram (entry_of c.known (front_number front))) front p c are.0)
      (and_then final count all start unlike p q (past_after stmts q) inner.known middle.known (gather stmts middle).known
      (gathered items p inner are.1.0 opens.0 (body_home front p c at))
      (gathered stmts q middle are.1.1 opens.1 (homes items p inner (body_home front p c at))))
  gathered (Package d visible hidden) p c are opens at =
      let n : ℕ = declared_number d in
      let inner : Context = in_visible n (with_entry n entry.Package c) in
      let middle : Context = in_hidden n (gather visible inner) in
      let after : Known = (gather hidden middle).known in
      let p1 : Past = within true p in
      let q : Past = past_after visible p1 in
      let q1 : Past = within true q in
      let r : Past = past_after hidden q1 in
      and_then final count all start unlike p p (within false r) c.known inner.known after
      (entry_turn final count all start unlike n entry.Package p c.known are.0 refl)
      (and_then final count all start unlike p p1 (within false r) inner.known inner.known after
      (within_turn final count all start unlike true p inner.known)
      (and_then final count all start unlike p1 q (within false r) inner.known middle.known after
      (gathered visible p1 inner are.1.0 opens.0 (λ is. refl))
      (and_then final count all start unlike q q1 (within false r) middle.known middle.known after
      (within_turn final count all start unlike true q middle.known)
      (and_then final count all start unlike q1 r (within false r) middle.known after after
      (gathered hidden q1 middle are.1.1 opens.1 (λ is. refl))
      (within_turn final count all start unlike false r after)))))
  gathered (PackageBody d parts) p c are opens at =
      let inner : Context = in_hidden (declared_number d) c in
      let after : Known = (gather parts inner).known in
      let p1 : Past = within true p in
      let r : Past = past_after parts p1 in
      and_then final count all start unlike p p1 (within false r) c.known c.known after
      (within_turn final count all start unlike true p c.known)
      (and_then final count all start unlike p1 r (within false r) c.known after after
      (gathered parts p1 inner are opens (λ is. refl)) (within_turn final count all start unlike false r after))
  gathered (If x branches otherwise) p c are opens at =
      let middle : Context = gather branches c in
      let q : Past = past_after branches p in
      and_then final count all start unlike p q (past_after otherwise q) c.known middle.known (gather otherwise middle).known
      (gathered branches p c are.0 opens.0 at) (gathered otherwise q middle are.1 opens.1 (homes branches p c at))
  gathered (Branch x e stmts) p c are opens at = gathered stmts p c are opens at
  gathered (Case x e whens) p c are opens at = gathered whens p c are opens at
  gathered (When choices stmts) p c are opens at = gathered stmts p c are opens at
  gathered (Loop x stmts) p c are opens at = gathered stmts p c are opens at
  gathered (While x e stmts) p c are opens at = gathered stmts p c are opens at
  gathered (For x d reversed range stmts) p c are opens at =
      let o : Entry = entry.Object (plain_object (parameter_type c range) kind.Parameter) in
      let inner : Context = with_entry (declared_number d) o c in
      and_then final count all start unlike p p (past_after stmts p) c.known inner.known (gather stmts inner).known
      (entry_turn final count all start unlike (declared_number d) o p c.known are.0 refl) (gathered stmts p inner are.1 opens at)
  gathered (Block x items stmts end) p c are opens at =
      let middle : Context = gather items c in
      let q : Past = past_after items p in
      and_then final count all start unlike p q (past_after stmts q) c.known middle.known (gather stmts middle).known
      (gathered items p c are.0 opens.0 at) (gathered stmts q middle are.1 opens.1 (homes items p c at))
  gathered (More a rest) p c are opens at =
      let middle : Context = gather a c in
      let q : Past = past_after a p in
      and_then final count all start unlike p q (past_after rest q) c.known middle.known (gather rest middle).known
      (gathered a p c are.0 opens.0 at) (gathered rest q middle are.1 opens.1 (homes a p c at))
  gathered _ p c are opens at = stay final count all start unlike p c.known
