-- How types are based on others, over the text of a program in order.
use Rattle.std.proofs.Common.{◌≡◌, ◌⊎◌, inl, inr, ℕ, ◌<◌, ◌≤◌, Bool, true, false, not, ◌||◌, List, [], ◌∷◌, ◌++◌, flat_map, if◌then◌else◌, set, length, refl, sym, ap, ◌∙◌, arith, subst, Option, Some, None, ℤ}
use Rattle.std.specs.Prelude.{slice_get}
use Rattle.machine.specs.spark_base.declared.position.Pos.{Pos}
use Rattle.machine.specs.spark_base.Lists.{Has}
use Rattle.spark_base.proofs.Lists.{Has-append_left, Has-append_right}
use Rattle.machine.specs.type_definitions.declared.table.InitialValue.{InitialValue}
use Rattle.machine.specs.resolved_tree.declared.node.Mark.{Mark}
use Rattle.machine.specs.resolved_tree.Trees.{More, Code, Anonymous, code_items, Incomplete, Private, TypeDecl, Subtype, ConstrainedSubtype, Objects, Numbers, SubDecl, SubBody, Package, PackageBody, If, Branch, Case, When, Loop, While, For, Block}
use Rattle.machine.specs.type_definitions.declared.table.Info.{Info}
use Rattle.machine.specs.type_definitions.declared.table.Known.{Known}
use Rattle.machine.specs.type_definitions.declared.table.Entry.{Entry}
use Rattle.machine.specs.type_definitions.declared.table.Entry.TheVariants as entry
use Rattle.machine.specs.type_definitions.declared.table.Shape.{Shape}
use Rattle.machine.specs.type_definitions.declared.table.Shape.TheVariants as shape
use Rattle.machine.specs.type_definitions.Types.{Table, info, info_found, base, meant_type, meant_type_found, same_as, shape_of, shape_found, full, view_of, is_scalar}
use Rattle.machine.specs.type_definitions.Entries.{entry_of, is_type, marked, type_of_mark, type_of_entry}
use Rattle.machine.specs.type_definitions.Names.{Context}
use Rattle.machine.specs.type_definitions.Gathered.{gather, defined, awaited_info, full_info, subtype_info, meant_by, constrained_shape, bound_pair, is_asked, are_static_bounds, constant_value, initial_value, with_type, own_info, with_indication, each, with_object, with_formal, with_formal_group, with_formals, with_result, with_front, with_body_front, is_subprogram, front_number, declared_number, declared_pos, in_hidden}
use Rattle.settled_types.proofs.Cases.{each_end, formals_end, front_end, group_end, indication_end, on_access, on_front, on_group, on_more, result_end}
use Rattle.settled_types.specs.Wholes.{written}
use Rattle.settled_types.specs.Orderly.{Past, with_defined, definition_marks, within, past_after, IsNew, AllNew, NewGroup, NewFormals, NewFront, Completes, Orderly}
use Rattle.settled_types.specs.Stamped.{IsType, AreRows, LeadsTo}
use Rattle.settled_types.proofs.Ringless.{shape_info}
use Rattle.settled_types.proofs.Rows.{not_type}
use Rattle.settled_types.specs.GatheredLaws.DefinitionKinds.{kind}
use Rattle.settled_types.specs.GatheredLaws.Made.{indicated_numbers, all_numbers, group_numbers, result_numbers, front_numbers}
use Rattle.settled_types.specs.GatheredLaws.Views.{view_numbers, named_numbers}
use Rattle.settled_types.specs.GatheredLaws.Based.{IsOne, Agrees, AreBased}
use Rattle.settled_types.proofs.GatheredLaws.DefinedKinds.{definition_table}
use Rattle.settled_types.proofs.GatheredLaws.Plain.{numbers_table}
use Rattle.settled_types.proofs.GatheredLaws.Put.{base_at, meant_at, written_at, written_off, Puts, put, view_put}
use Rattle.settled_types.proofs.GatheredLaws.Nodes.{Node, leads_before, list_node, if_node, block_node, inside, body_node, branch_node, case_node, when_node, loop_node, while_node, with_parameter, for_node, in_front, package_node, package_body_node}

-- ---- shapes

pub same_own : (d : ℕ) (s : Shape) → (kind s ≡ 3 → ⊥) → same_as d s ≡ d
same_own d (shape.Same of) own = absurd (own refl)
same_own d (shape.Whole low high) own = refl
same_own d (shape.Listed literals low high) own = refl
same_own d (shape.Access of constant named) own = refl
same_own d (shape.Fields cs) own = refl
same_own d (shape.Elements low high of) own = refl

bounds_kind : (s : Shape) (b : ℤ × ℤ) → kind s < 2 → kind (constrained_shape (view_of s) b) ≡ kind s
bounds_kind (shape.Whole low high) b less = refl
bounds_kind (shape.Listed literals low high) b less = refl
bounds_kind (shape.Same of) b less = absurd (omega (arith, less))
bounds_kind (shape.Access of constant named) b less = absurd (omega (arith, less))
bounds_kind (shape.Fields cs) b less = absurd (omega (arith, less))
bounds_kind (shape.Elements low high of) b less = absurd (omega (arith, less))

bounds_own : (s : Shape) (b : ℤ × ℤ) → kind (constrained_shape (view_of s) b) ≡ 3 → ⊥
bounds_own (shape.Whole low high) b e = omega (arith, e)
bounds_own (shape.Listed literals low high) b e = omega (arith, e)
bounds_own (shape.Same of) b e = omega (arith, e)
bounds_own (shape.Access of constant named) b e = omega (arith, e)
bounds_own (shape.Fields cs) b e = omega (arith, e)
bounds_own (shape.Elements low high of) b e = omega (arith, e)

meant_found : (t : ℕ) (o : Option Info) → meant_by (info_found o).shape t ≡ meant_type_found t o
meant_found t None = refl
meant_found t (Some i) = by i.shape
  where
    by : (s : Shape) → meant_by s t ≡ same_as t s
    by (shape.Same of) = refl
    by (shape.Whole low high) = refl
    by (shape.Listed literals low high) = refl
    by (shape.Access of constant named) = refl
    by (shape.Fields cs) = refl
    by (shape.Elements low high of) = refl

-- ---- what is asked of the code beside that it is in order

-- Full types are as `rule` has it, and subtypes with bounds are of types that are scalar in the end.
unfoldable pub Allows : (ℕ → Shape → Type 0) → Known → Code → Type 0
Allows rule final (TypeDecl d def end) = (c : Context) → rule (declared_number d) (defined c def)
Allows rule final (ConstrainedSubtype d m low high) = is_scalar (full final.table (marked final m)) ≡ true
Allows rule final (SubBody front items stmts end) = Allows rule final items × Allows rule final stmts
Allows rule final (Package d visible hidden) = Allows rule final visible × Allows rule final hidden
Allows rule final (PackageBody d parts) = Allows rule final parts
Allows rule final (If p branches otherwise) = Allows rule final branches × Allows rule final otherwise
Allows rule final (Branch p e stmts) = Allows rule final stmts
Allows rule final (Case p e whens) = Allows rule final whens
Allows rule final (When choices stmts) = Allows rule final stmts
Allows rule final (Loop p stmts) = Allows rule final stmts
Allows rule final (While p e stmts) = Allows rule final stmts
Allows rule final (For p d reversed range stmts) = Allows rule final stmts
Allows rule final (Block p items stmts end) = Allows rule final items × Allows rule final stmts
Allows rule final (More a rest) = Allows rule final a × Allows rule final rest
Allows rule final code = Unit {0}

-- Anonymous access types are of `views`, and types with names are not.
abbrev pub IsParted : (ℕ → Type 0) → Code → Type 0
IsParted views code = ((d : ℕ) → Has (view_numbers code) d → views d) × ((d : ℕ) → Has (named_numbers code) d → views d → ⊥)

module _ (views : ℕ → Type 0) where
  abbrev pub AllViews : List ℕ → Type 0
  AllViews ns = (d : ℕ) → Has ns d → views d

  abbrev IsPair : Code → Code → Type 0
  IsPair x y = AllViews (view_numbers x ++ view_numbers y) × ((d : ℕ) → Has (named_numbers x ++ named_numbers y) d → views d → ⊥)

  first_parted : (x y : Code) → IsPair x y → IsParted views x
  first_parted x y parted =
      ((λ d has. parted.0 d (Has-append_left (view_numbers x) (view_numbers y) d has)), (λ d has. parted.1 d (Has-append_left (named_numbers x) (named_numbers y) d has)))

  second_parted : (x y : Code) → IsPair x y → IsParted views y
  second_parted x y parted =
      ((λ d has. parted.0 d (Has-append_right (view_numbers x) (view_numbers y) d has)), (λ d has. parted.1 d (Has-append_right (named_numbers x) (named_numbers y) d has)))

  parted_front : (front items stmts : Code) (end : Pos) → IsParted views (SubBody front items stmts end) → AllViews (front_numbers front)
  unfolding view_numbers named_numbers
  parted_front front items stmts end parted d has = parted.0 d (Has-append_left (front_numbers front) (view_numbers items ++ view_numbers stmts) d has)

  parted_body : (front items stmts : Code) (end : Pos) → IsParted views (SubBody front items stmts end) → IsPair items stmts
  unfolding view_numbers named_numbers
  parted_body front items stmts end parted =
      ((λ d has. parted.0 d (Has-append_right (front_numbers front) (view_numbers items ++ view_numbers stmts) d has)), parted.1)

module _ (final : Known) (count : ℕ) (all : List ℕ) (start : Table)
    (unlike : (d of : ℕ) → 15 ≤ d → Has all d → written start d ≡ shape.Same of → ⊥)
    (rule : ℕ → Shape → Type 0) (Final : Type 0) (steady : Final → (d : ℕ) (s u : Shape) → rule d s → rule d u → kind s ≡ kind u)
    (plain : (d : ℕ) (s : Shape) → rule d s → kind s ≡ 3 → ⊥) (starts : (d : ℕ) → 15 ≤ d → Has all d → rule d (written start d))
    (views : ℕ → Type 0) where
  abbrev pub At : Code → Past → Context → Type 0
  At = Node final count all start unlike

  abbrev pub Based : Past → Table → Type 0
  Based p table = AreBased rule Final views start p.awaited p.defined table

  -- In the end a type with this mark is scalar; then it is so here, if it has the definition of the one
  -- that it is based on.
  abbrev pub Bounded : Type 0
  Bounded =
      Final → (p : Past) (known : Known) (m : Mark) → AreRows count start p known → ((d : ℕ) → Has p.awaited d → Has all d) → LeadsTo final p known
      → Based p known.table → is_scalar (full final.table (marked final m)) ≡ true
      → meant_type known.table (marked known m) ≡ base known.table (marked known m) → kind (shape_of known.table (marked known m)) < 2

  -- ---- one row

  -- of a type that is completed later
  awaited_put : (p : Past) (known : Known) (d : ℕ) (i : Info) → IsNew count d p → (views d → ⊥) → count ≤ length known.table → Has all d → Based p known.table
      → i.base ≡ d → i.shape ≡ (info known.table d).shape → Puts rule Final p.awaited p.defined (d ∷ p.awaited) p.defined known.table d i
  awaited_put p known d i new other long waits b own same =
      let high = new.0 in
      let inside = new.1 in
      let none = not_type count d p new in
      let row : written known.table d ≡ written start d = ap shape_found (b.fresh d (omega (arith, high)) none other) in
      let shape_is : written start d ≡ i.shape = sym row ∙ shape_info (slice_get known.table d) ∙ sym same in
      let ruled : rule d i.shape = subst (rule d) shape_is (starts d high waits) in
      let meant : same_as d i.shape ≡ d = same_own d i.shape (plain d i.shape ruled) in
      let less : d < length known.table = omega (arith, inside, long) in record {
        high = omega (arith, high);
        less = less;
        more = λ v is. elim is [ inl low ↦ inl low | inr is ↦ elim is [ inl w ↦ inr (inl (inr w)) | inr e ↦ inr (inr e) ] ];
        only = λ v is. elim is [
          | inl low ↦ inl (inl low)
          | inr is ↦ elim is [
            | inl w ↦ elim w [ inl same ↦ inr (sym same) | inr was ↦ inl (inr (inl was)) ]
            | inr e ↦ inl (inr (inr e))
          ]
        ];
        here = inr (inl (inl refl));
        base_is = subst (IsOne (d ∷ p.awaited) p.defined) (sym own) (inr (inl (inl refl)));
        base_own = inl own;
        meant_is = subst (IsOne (d ∷ p.awaited) p.defined) (sym meant) (inr (inl (inl refl)));
        as_ruled = λ e. ruled;
        old = λ is. absurd (none is);
        awaits = λ t has. elim has [ inl same ↦ inr (sym same, own) | inr was ↦ inl was ];
        agree = λ f. inl (meant_at known.table d i less ∙ meant ∙ sym own ∙ sym (base_at known.table d i less));
      }

  defined_more : (a e : List ℕ) (d v : ℕ) → IsOne a e v → IsOne a (d ∷ e) v
  defined_more a e d v (inl low) = inl low
  defined_more a e d v (inr (inl w)) = inr (inl w)
  defined_more a e d v (inr (inr is)) = inr (inr (inr is))

  defined_only : (a e : List ℕ) (d v : ℕ) → IsOne a (d ∷ e) v → IsOne a e v ⊎ (v ≡ d)
  defined_only a e d v (inl low) = inl (inl low)
  defined_only a e d v (inr (inl w)) = inl (inr (inl w))
  defined_only a e d v (inr (inr (inl same))) = inr (sym same)
  defined_only a e d v (inr (inr (inr is))) = inl (inr (inr is))

  -- of a full type
  full_put : (p : Past) (c : Context) (d : ℕ) (def : Code) (end : Pos) (marks : List Pos) → Completes count end marks d p → AreRows count start p c.known
      → rule d (defined c def) → Based p c.known.table → Puts rule Final p.awaited p.defined p.awaited (d ∷ p.defined) c.known.table d (full_info c d def end)
  full_put p c d def end marks new rows ruled b =
      let high = new.0 in
      let inside = new.1 in
      let long = rows.long in
      let meant : same_as d (defined c def) ≡ d = same_own d (defined c def) (plain d (defined c def) ruled) in
      let less : d < length c.known.table = omega (arith, inside, long) in record {
        high = omega (arith, high);
        less = less;
        more = defined_more p.awaited p.defined d;
        only = defined_only p.awaited p.defined d;
        here = inr (inr (inl refl));
        base_is = inr (inr (inl refl));
        base_own = inl refl;
        meant_is = subst (IsOne p.awaited (d ∷ p.defined)) (sym meant) (inr (inr (inl refl)));
        as_ruled = λ e. ruled;
        old = λ is. elim new.2 [
          | inl first ↦ absurd (not_type count d p first is)
          | inr later ↦ elim later [
            | inl hidden ↦ ((b.waits d (rows.private d hidden).0).0, refl)
            | inr late ↦ ((b.waits d (rows.incomplete d late.0).0).0, refl)
          ]
        ];
        awaits = λ t has. inl has;
        agree = λ f. inl (meant_at c.known.table d (full_info c d def end) less ∙ meant ∙ sym (base_at c.known.table d (full_info c d def end) less));
      }

  marked_one : (p : Past) (known : Known) (m : Mark) → AreRows count start p known → IsType p (marked known m)
  marked_one p known m rows = of_mark m.decl
    where
      of_entry : (d : ℕ) (x : Entry) → entry_of known d ≡ x → IsType p (type_of_entry d x)
      of_entry d entry.Type is = rows.types d (ap is_type is)
      of_entry d x is = inl (omega arith)

      of_mark : (o : Option ℕ) → IsType p (type_of_mark known o)
      of_mark None = inl (omega arith)
      of_mark (Some d) = of_entry d (entry_of known d) refl

  -- of a subtype
  subtype_put : (p : Past) (known : Known) (d t : ℕ) (s : Shape) (bounded : Bool) → IsNew count d p → AreRows count start p known → IsType p t → Based p known.table
      → IsOne p.awaited (d ∷ p.defined) (same_as d s) → (Final → Agrees (set known.table d (subtype_info known t s bounded)) d)
      → Puts rule Final p.awaited p.defined p.awaited (d ∷ p.defined) known.table d (subtype_info known t s bounded)
  subtype_put p known d t s bounded new rows is b meant agree =
      let high = new.0 in
      let inside = new.1 in
      let long = rows.long in
      let none = not_type count d p new in
      let other : base known.table t ≡ d → ⊥ = λ same. none (subst (IsType p) same (b.based t is)) in record {
        high = omega (arith, high);
        less = omega (arith, inside, long);
        more = defined_more p.awaited p.defined d;
        only = defined_only p.awaited p.defined d;
        here = inr (inr (inl refl));
        base_is = defined_more p.awaited p.defined d (base known.table t) (b.based t is);
        base_own = inr (other, b.bases t is);
        meant_is = meant;
        as_ruled = λ e. absurd (other e);
        old = λ was. absurd (none was);
        awaits = λ t has. inl has;
        agree = agree;
      }

  -- one without bounds
  renamed_agrees : (p : Past) (known : Known) (d t : ℕ) → IsNew count d p → AreRows count start p known → IsType p t → Based p known.table → Final
      → Agrees (set known.table d (subtype_info known t (shape.Same (meant_type known.table t)) true)) d
  renamed_agrees p known d t new rows is b f =
      let i : Info = subtype_info known t (shape.Same (meant_type known.table t)) true in
      let inside = new.1 in
      let long = rows.long in
      let less : d < length known.table = omega (arith, inside, long) in
      let none = not_type count d p new in
      let base_ne : base known.table t ≡ d → ⊥ = λ same. none (subst (IsType p) same (b.based t is)) in
      let meant_ne : meant_type known.table t ≡ d → ⊥ = λ same. none (subst (IsType p) same (b.meant t is)) in
      let new_base : base (set known.table d i) d ≡ base known.table t = base_at known.table d i less in
      let new_meant : meant_type (set known.table d i) d ≡ meant_type known.table t = meant_at known.table d i less in
      elim (b.agrees f t is) [
        | inl same ↦ inl (new_meant ∙ same ∙ sym new_base)
        | inr like ↦
            let here : kind (shape_of (set known.table d i) d) ≡ kind (shape_of known.table t)
            = ap (λ u. kind (written (set known.table d i) u)) new_meant ∙ ap kind (written_off known.table d i (meant_type known.table t) meant_ne) in
            let there : kind (written (set known.table d i) (base (set known.table d i) d)) ≡ kind (written known.table (base known.table t))
            = ap (λ u. kind (written (set known.table d i) u)) new_base ∙ ap kind (written_off known.table d i (base known.table t) base_ne) in
            inr (here ∙ like.0 ∙ sym there, subst (λ k. k < 2) (sym here) like.1)
      ]

  -- one with bounds, of a scalar type
  bounded_agrees : (p : Past) (known : Known) (d t : ℕ) (bs : ℤ × ℤ) (bounded : Bool) → IsNew count d p → AreRows count start p known → IsType p t
      → Based p known.table → (kind (shape_of known.table t) ≡ kind (written known.table (base known.table t))) × (kind (shape_of known.table t) < 2)
      → Agrees (set known.table d (subtype_info known t (constrained_shape (full known.table t) bs) bounded)) d
  bounded_agrees p known d t bs bounded new rows is b scalar =
      let s : Shape = constrained_shape (full known.table t) bs in
      let i : Info = subtype_info known t s bounded in
      let inside = new.1 in
      let long = rows.long in
      let less : d < length known.table = omega (arith, inside, long) in
      let base_ne : base known.table t ≡ d → ⊥ = λ same. not_type count d p new (subst (IsType p) same (b.based t is)) in
      let own : same_as d s ≡ d = same_own d s (bounds_own (shape_of known.table t) bs) in
      let here : kind (shape_of (set known.table d i) d) ≡ kind (shape_of known.table t)
      = ap (λ u. kind (written (set known.table d i) u)) (meant_at known.table d i less ∙ own) ∙ ap kind (written_at known.table d i less)
      ∙ bounds_kind (shape_of known.table t) bs scalar.1 in
      let there : kind (written (set known.table d i) (base (set known.table d i) d)) ≡ kind (written known.table (base known.table t))
      = ap (λ u. kind (written (set known.table d i) u)) (base_at known.table d i less) ∙ ap kind (written_off known.table d i (base known.table t) base_ne) in
      inr (here ∙ scalar.0 ∙ sym there, subst (λ k. k < 2) (sym here) scalar.1)

  -- ---- all of the code

  module _ (bounded : Bounded) where
    abbrev Later : Past → Known → Type 0
    Later q known = Final → LeadsTo final q known

    same_table : (p : Past) (old new : Table) → new ≡ old → Based p old → Based p new
    same_table p old new same b = subst (Based p) (sym same) b

    scalar_parent : (p : Past) (known : Known) (m : Mark) → AreRows count start p known → ((d : ℕ) → Has p.awaited d → Has all d) → LeadsTo final p known
        → Based p known.table → is_scalar (full final.table (marked final m)) ≡ true → Final
        → (kind (shape_of known.table (marked known m)) ≡ kind (written known.table (base known.table (marked known m)))) × (kind (shape_of known.table (marked known m)) < 2)
    scalar_parent p known m rows within_all leads b allows f =
        let t : ℕ = marked known m in
        elim (b.agrees f t (marked_one p known m rows)) [
          | inl same ↦ (ap (λ u. kind (written known.table u)) same, bounded f p known m rows within_all leads b allows same)
          | inr like ↦ like
        ]

    -- ---- anonymous access types

    indication_based : (d : ℕ) (i : Code) (p : Past) (c : Context) → IsNew count d p → AllViews views (indicated_numbers i (d ∷ [])) → Based p c.known.table
        → Based p (with_indication d i c).known.table
    indication_based d = on_access (λ i. (p : Past) → (c : Context) → IsNew count d p → AllViews views (indicated_numbers i (d ∷ [])) → Based p c.known.table → Based p (with_indication d i c).known.table)
        (λ at constant m p c new are b.
        view_put rule Final views start p.awaited p.defined c.known.table d (own_info (shape.Access (marked c.known m) constant false) d) b
        (not_type count d p new) (are d (inl refl)))
        (λ i other p c new are b. rw (indication_end d i c other) (b))

    one_view : (i : Code) (n : ℕ) (ns : List ℕ) → AllViews views (indicated_numbers i (n ∷ ns)) → AllViews views (indicated_numbers i (n ∷ []))
    one_view (Anonymous at constant m) n ns are d has = elim has [ inl same ↦ are d (inl same) | inr never ↦ absurd never ]
    one_view i n ns are d has = absurd has

    more_views : (i : Code) (n : ℕ) (ns : List ℕ) → AllViews views (indicated_numbers i (n ∷ ns)) → AllViews views (indicated_numbers i ns)
    more_views (Anonymous at constant m) n ns are d has = are d (inr has)
    more_views i n ns are d has = absurd has

    objects_based : (constant : Bool) (i : Code) (v : InitialValue) (ids : Code) (p : Past) (c : Context) → AllNew count ids p → AllViews views (indicated_numbers i (all_numbers ids))
        → Based p c.known.table → Based p (each (with_object constant i v) ids c).known.table
    objects_based constant i v = on_more (λ ids. (p : Past) → (c : Context) → AllNew count ids p → AllViews views (indicated_numbers i (all_numbers ids)) → Based p c.known.table → Based p (each (with_object constant i v) ids c).known.table)
        (λ d rest next p c new are b.
        let n : ℕ = declared_number d in
        next p (with_object constant i v d c) new.1 (more_views i n (all_numbers rest) are)
        (indication_based n i p c new.0 (one_view i n (all_numbers rest) are) b))
        (λ ids other p c new are b. rw (each_end (with_object constant i v) ids c other) (b))

    names_based : (of ids : Code) (p : Past) (c : Context) → AllNew count ids p → AllViews views (indicated_numbers of (all_numbers ids))
        → Based p c.known.table → Based p (each (with_formal of) ids c).known.table
    names_based of = on_more (λ ids. (p : Past) → (c : Context) → AllNew count ids p → AllViews views (indicated_numbers of (all_numbers ids)) → Based p c.known.table → Based p (each (with_formal of) ids c).known.table)
        (λ d rest next p c new are b.
        let n : ℕ = declared_number d in
        next p (with_formal of d c) new.1 (more_views of n (all_numbers rest) are)
        (indication_based n of p c new.0 (one_view of n (all_numbers rest) are) b))
        (λ ids other p c new are b. rw (each_end (with_formal of) ids c other) (b))

    group_based : (group : Code) (p : Past) (c : Context) → NewGroup count group p → AllViews views (group_numbers group) → Based p c.known.table
        → Based p (with_formal_group group c).known.table
    group_based = on_group (λ group. (p : Past) → (c : Context) → NewGroup count group p → AllViews views (group_numbers group) → Based p c.known.table → Based p (with_formal_group group c).known.table)
        (λ names m of p c new are b.
        names_based of names p c new are b)
        (λ group other p c new are b. rw (group_end group c other) (b))

    groups_based : (formals : Code) (p : Past) (c : Context) → NewFormals count formals p → AllViews views (flat_map group_numbers (code_items formals)) → Based p c.known.table
        → Based p (each with_formal_group formals c).known.table
    groups_based = on_more (λ formals. (p : Past) → (c : Context) → NewFormals count formals p → AllViews views (flat_map group_numbers (code_items formals)) → Based p c.known.table → Based p (each with_formal_group formals c).known.table)
        (λ group rest next p c new are b.
        next p (with_formal_group group c) new.1 (λ d has. are d (Has-append_right (group_numbers group) (flat_map group_numbers (code_items rest)) d has))
        (group_based group p c new.0 (λ d has. are d (Has-append_left (group_numbers group) (flat_map group_numbers (code_items rest)) d has)) b))
        (λ formals other p c new are b. rw (each_end with_formal_group formals c other) (b))

    result_based : (d : ℕ) (result : Code) (p : Past) (c : Context) → IsNew count d p → AllViews views (result_numbers d result) → Based p c.known.table
        → Based p (with_result d result c).known.table
    result_based d = on_more (λ result. (p : Past) → (c : Context) → IsNew count d p → AllViews views (result_numbers d result) → Based p c.known.table → Based p (with_result d result c).known.table)
        (λ i rest _ p c new are b.
        indication_based d i p c new are b)
        (λ result other p c new are b. rw (result_end d result c other) (b))

    front_based : (front : Code) (p : Past) (c : Context) → NewFront count front p → AllViews views (front_numbers front) → Based p c.known.table
        → Based p (with_front front c).known.table
    front_based = on_front (λ front. (p : Past) → (c : Context) → NewFront count front p → AllViews views (front_numbers front) → Based p c.known.table → Based p (with_front front c).known.table)
        (λ d formals result p c new are b.
        let n : ℕ = declared_number d in
        let fs : List ℕ = flat_map group_numbers (code_items formals) in
        groups_based formals p (with_result n result c) new.1 (λ m has. are m (Has-append_right (result_numbers n result) fs m has))
        (result_based n result p c new.0 (λ m has. are m (Has-append_left (result_numbers n result) fs m has)) b))
        (λ front other p c new are b. rw (front_end front c other) (b))

    formals_based : (front : Code) (p : Past) (c : Context) → NewFront count front p → AllViews views (front_numbers front) → Based p c.known.table
        → Based p (with_formals front c).known.table
    formals_based = on_front (λ front. (p : Past) → (c : Context) → NewFront count front p → AllViews views (front_numbers front) → Based p c.known.table → Based p (with_formals front c).known.table)
        (λ d formals result p c new are b.
        groups_based formals p c new.1
        (λ m has. are m (Has-append_right (result_numbers (declared_number d) result) (flat_map group_numbers (code_items formals)) m has)) b)
        (λ front other p c new are b. rw (formals_end front c other) (b))

    body_based : (front : Code) (p : Past) (c : Context) → NewFront count front p → AllViews views (front_numbers front) → Based p c.known.table
        → Based p (with_body_front front c).known.table
    body_based front p c new are b = by (is_subprogram (entry_of c.known (front_number front)))
      where
        by : (q : Bool) → Based p (if q then with_formals front c else with_front front c).known.table
        by true = formals_based front p c new are b
        by false = front_based front p c new are b

    pub walks : (code : Code) (p : Past) (c : Context) → At code p c → IsParted views code → Allows rule final code → Later (past_after code p) (gather code c).known
        → Based p c.known.table → Based (past_after code p) (gather code c).known.table
    unfolding gather Orderly past_after Allows view_numbers named_numbers
    walks (Incomplete d) p c node parted allows later b =
        let n : ℕ = declared_number d in
        let i : Info = record (awaited_info c n) { completed = Some (declared_pos d) } in
        put rule Final steady views start p.awaited p.defined (n ∷ p.awaited) p.defined c.known.table n i b
        (awaited_put p c.known n i node.orderly (parted.1 n (inl refl)) node.rows.long (node.within_all n (inl refl)) b refl refl)
    walks (Private d) p c node parted allows later b =
        let n : ℕ = declared_number d in
        let i : Info = record (awaited_info c n) { seen_in = c.home } in
        put rule Final steady views start p.awaited p.defined (n ∷ p.awaited) p.defined c.known.table n i b
        (awaited_put p c.known n i node.orderly (parted.1 n (inl refl)) node.rows.long (node.within_all n (inl refl)) b refl refl)
    walks (TypeDecl d def end) p c node parted allows later b =
        let n : ℕ = declared_number d in
        let i : Info = full_info c n def end in
        let q : Past = with_defined n (definition_marks def p.marks) p in
        same_table q (set c.known.table n i) (gather (TypeDecl d def end) c).known.table (definition_table n def (with_type n i c))
        (put rule Final steady views start p.awaited p.defined p.awaited (n ∷ p.defined) c.known.table n i b
        (full_put p c n def end (definition_marks def p.marks) node.orderly.0 node.rows (allows c) b))
    walks (Subtype d m) p c node parted allows later b =
        let n : ℕ = declared_number d in
        let t : ℕ = marked c.known m in
        let is : IsType p t = marked_one p c.known m node.rows in
        let same : shape.Same (meant_by (info c.known.table t).shape t) ≡ shape.Same (meant_type c.known.table t)
        = ap shape.Same (meant_found t (slice_get c.known.table t)) in
        let i : Info = subtype_info c.known t (shape.Same (meant_type c.known.table t)) true in
        let done : Based (past_after (Subtype d m) p) (set c.known.table n i)
        = put rule Final steady views start p.awaited p.defined p.awaited (n ∷ p.defined) c.known.table n i b
        (subtype_put p c.known n t (shape.Same (meant_type c.known.table t)) true node.orderly node.rows is b
        (defined_more p.awaited p.defined n (meant_type c.known.table t) (b.meant t is)) (renamed_agrees p c.known n t node.orderly node.rows is b)) in
        subst (λ s. Based (past_after (Subtype d m) p) (set c.known.table n (subtype_info c.known t s true))) (sym same) done
    walks (ConstrainedSubtype d m low high) p c node parted allows later b =
        let n : ℕ = declared_number d in
        let t : ℕ = marked c.known m in
        let is : IsType p t = marked_one p c.known m node.rows in
        let bs : ℤ × ℤ = bound_pair c (base c.known.table t) low high in
        let s : Shape = constrained_shape (full c.known.table t) bs in
        let known_bounds : Bool = not (is_asked c) || are_static_bounds c (base c.known.table t) low high in
        let own : same_as n s ≡ n = same_own n s (bounds_own (shape_of c.known.table t) bs) in
        put rule Final steady views start p.awaited p.defined p.awaited (n ∷ p.defined) c.known.table n (subtype_info c.known t s known_bounds) b
        (subtype_put p c.known n t s known_bounds node.orderly node.rows is b (subst (IsOne p.awaited (n ∷ p.defined)) (sym own) (inr (inr (inl refl))))
        (λ f. bounded_agrees p c.known n t bs known_bounds node.orderly node.rows is b
        (scalar_parent p c.known m node.rows node.within_all
        (leads_before final count all start unlike (ConstrainedSubtype d m low high) p c node (later f)) b allows f)))
    walks (Objects ids constant i v) p c node parted allows later b =
        objects_based constant i (constant_value c constant v) ids p c node.orderly parted.0 b
    walks (Numbers ids e) p c node parted allows later b =
        same_table p c.known.table (gather (Numbers ids e) c).known.table (numbers_table (initial_value c e) ids c) b
    walks (SubDecl front) p c node parted allows later b =
        front_based front p c node.orderly parted.0 b
    walks (SubBody front items stmts end) p c node parted allows later b =
        let two = body_node final count all start unlike front items stmts end p c node in
        let inner : Context = inside final count all start unlike front c in
        let q : Past = past_after items p in
        let middle : Context = gather items inner in
        walks stmts q middle two.second (second_parted views items stmts (parted_body views front items stmts end parted)) allows.1 later
        (walks items p inner two.first (first_parted views items stmts (parted_body views front items stmts end parted)) allows.0 (λ f. leads_before final count all start unlike stmts q middle two.second (later f))
        (body_based front p c node.orderly.0 (parted_front views front items stmts end parted) b))
    walks (Package d visible hidden) p c node parted allows later b =
        let two = package_node final count all start unlike d visible hidden p c node in
        let inner : Context = in_front final count all start unlike d c in
        let p1 : Past = within true p in
        let q : Past = past_after visible p1 in
        let q1 : Past = within true q in
        let middle : Context = in_hidden (declared_number d) (gather visible inner) in
        let last : Later (past_after hidden q1) (gather hidden middle).known
        = λ f. let l = later f in record { keeps = l.keeps; fixed = λ t is. l.fixed t is } in
        let first : Later q (gather visible inner).known
        = λ f. let l = leads_before final count all start unlike hidden q1 middle two.second (last f) in record { keeps = l.keeps; fixed = λ t is. l.fixed t is } in
        walks hidden q1 middle two.second (second_parted views visible hidden parted) allows.1 last (walks visible p1 inner two.first (first_parted views visible hidden parted) allows.0 first b)
    walks (PackageBody d parts) p c node parted allows later b =
        walks parts (within true p) (in_hidden (declared_number d) c) (package_body_node final count all start unlike d parts p c node) parted allows
        (λ f. let l = later f in record { keeps = l.keeps; fixed = λ t is. l.fixed t is }) b
    walks (If at x y) p c node parted allows later b =
        let two = if_node final count all start unlike at x y p c node in
        walks y (past_after x p) (gather x c) two.second (second_parted views x y parted) allows.1 later
        (walks x p c two.first (first_parted views x y parted) allows.0 (λ f. leads_before final count all start unlike y (past_after x p) (gather x c) two.second (later f)) b)
    walks (Branch at e x) p c node parted allows later b = walks x p c (branch_node final count all start unlike at e x p c node) parted allows later b
    walks (Case at e x) p c node parted allows later b = walks x p c (case_node final count all start unlike at e x p c node) parted allows later b
    walks (When choices x) p c node parted allows later b = walks x p c (when_node final count all start unlike choices x p c node) parted allows later b
    walks (Loop at x) p c node parted allows later b = walks x p c (loop_node final count all start unlike at x p c node) parted allows later b
    walks (While at e x) p c node parted allows later b = walks x p c (while_node final count all start unlike at e x p c node) parted allows later b
    walks (For at d reversed range x) p c node parted allows later b =
        walks x p (with_parameter final count all start unlike d range c) (for_node final count all start unlike at d reversed range x p c node) parted allows later b
    walks (Block at x y end) p c node parted allows later b =
        let two = block_node final count all start unlike at end x y p c node in
        walks y (past_after x p) (gather x c) two.second (second_parted views x y parted) allows.1 later
        (walks x p c two.first (first_parted views x y parted) allows.0 (λ f. leads_before final count all start unlike y (past_after x p) (gather x c) two.second (later f)) b)
    walks (More x y) p c node parted allows later b =
        let two = list_node final count all start unlike x y p c node in
        walks y (past_after x p) (gather x c) two.second (second_parted views x y parted) allows.1 later
        (walks x p c two.first (first_parted views x y parted) allows.0 (λ f. leads_before final count all start unlike y (past_after x p) (gather x c) two.second (later f)) b)
    walks code p c node parted allows later b = b
