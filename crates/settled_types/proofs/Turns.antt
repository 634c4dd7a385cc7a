-- What a part of the text does to what is known, in one turn, and parts one after the other.
use Rattle.std.proofs.Common.{◌≡◌, inl, inr, ℕ, ◌+◌, ◌≤◌, Bool, true, false, List, ◌∷◌, ◌⊎◌, refl, sym, ap, ◌∙◌, Option, None, Some, is_some, nat_eq, true≢false, subst, if◌then◌else◌}
use Rattle.std.specs.Prelude.{slice_get}
use Rattle.machine.specs.spark_base.declared.position.Pos.{Pos}
use Rattle.machine.specs.spark_base.Lists.{Has}
use Rattle.machine.specs.resolved_tree.Trees.{More, Code, Front}
use Rattle.machine.specs.type_definitions.declared.table.Info.{Info}
use Rattle.machine.specs.type_definitions.declared.table.InitialValue.{InitialValue}
use Rattle.machine.specs.type_definitions.declared.table.Known.{Known}
use Rattle.machine.specs.type_definitions.declared.table.Kind.TheVariants as kind
use Rattle.machine.specs.type_definitions.declared.table.Entry.{Entry}
use Rattle.machine.specs.type_definitions.declared.table.Entry.TheVariants as entry
use Rattle.machine.specs.type_definitions.declared.table.Shape.TheVariants as shape
use Rattle.machine.specs.type_definitions.Types.{Table, info}
use Rattle.machine.specs.type_definitions.Entries.{entry_of, is_type, marked}
use Rattle.machine.specs.type_definitions.Names.{Context}
use Rattle.machine.specs.type_definitions.Declarations.{holds_shape, holds_parent}
use Rattle.machine.specs.type_definitions.Gathered.{declared_number, each, own_info, indicated, with_entry, with_indication, with_object, object_info, with_number, number_info, plain_object, with_formal, with_formal_group, with_formals, with_result, with_front, profile, with_literals, with_definition}
use Rattle.type_settled.specs.Rings.{IsPart}
use Rattle.settled_types.proofs.Cases.{definition_end, each_end, formals_end, front_end, group_end, indication_end, on_access, on_enumeration, on_front, on_group, on_more, result_end}
use Rattle.settled_types.specs.Wholes.{written}
use Rattle.settled_types.specs.Orderly.{Past, with_incomplete, with_private, within, IsNew, NewOne, AllNew, NewLiterals, NewGroup, NewFormals, NewFront}
use Rattle.settled_types.specs.Stamped.{IsType, IsFixed, Keeps, LeadsTo, AreRows, AreStamped}
use Rattle.settled_types.proofs.Ringless.{or_cases, or_left, shape_info}
use Rattle.settled_types.proofs.Rows.{IsMadeOf, entered, told, entry_after, not_type, Fits, Defines, row_rows, row_stays, row_stamped}

pub record Goes (final : Known) (count : ℕ) (start : Table) (p : Past) (known : Known) (q : Past) (after : Known) : Type 0 where
  pub rows : AreRows count start q after
  pub keeps : Keeps known after
  pub stays : (t : ℕ) → IsFixed p t → slice_get after.table t ≡ slice_get known.table t
  pub stamped : LeadsTo final q after → AreStamped final p known → AreStamped final q after

-- `all` has the numbers of all types of the program that are completed later.
pub record Turn (final : Known) (count : ℕ) (all : List ℕ) (start : Table) (p : Past) (known : Known) (q : Past) (after : Known) : Type 0 where
  pub awaits : (d : ℕ) → Has p.awaited d → Has q.awaited d
  pub defines : (d : ℕ) → Has p.defined d → Has q.defined d
  pub fixes : (d : ℕ) → IsFixed p d → IsFixed q d
  pub goes : ((d : ℕ) → Has q.awaited d → Has all d) → AreRows count start p known → Goes final count start p known q after

-- `start` is the table before the turn: there no type that is completed later is the same as another one.
module _ (final : Known) (count : ℕ) (all : List ℕ) (start : Table)
    (unlike : (d of : ℕ) → 15 ≤ d → Has all d → written start d ≡ shape.Same of → ⊥) where
  pub stay : (p : Past) (known : Known) → Turn final count all start p known p known
  stay p known = record {
    awaits = λ d is. is;
    defines = λ d is. is;
    fixes = λ d is. is;
    goes = λ within rows. record { rows = rows; keeps = λ v is. is; stays = λ t is. refl; stamped = λ later are. are };
  }

  pub and_then : (p q r : Past) (known middle after : Known) → Turn final count all start p known q middle
      → Turn final count all start q middle r after → Turn final count all start p known r after
  and_then p q r known middle after one two = record {
    awaits = λ d is. two.awaits d (one.awaits d is);
    defines = λ d is. two.defines d (one.defines d is);
    fixes = λ d is. two.fixes d (one.fixes d is);
    goes = λ within rows.
        let a : Goes final count start p known q middle = one.goes (λ d is. within d (two.awaits d is)) rows in
        let b : Goes final count start q middle r after = two.goes within a.rows in record {
          rows = b.rows;
          keeps = λ v is. b.keeps v (a.keeps v is);
          stays = λ t is. b.stays t (one.fixes t is) ∙ a.stays t is;
          stamped = λ later are. b.stamped later (a.stamped (record {
            keeps = λ v is. later.keeps v (b.keeps v is);
            fixed = λ t is. later.fixed t (two.fixes t is) ∙ b.stays t is;
          }) are);
        };
  }

  -- a package begins or ends
  pub within_turn : (in_package : Bool) (p : Past) (known : Known) → Turn final count all start p known (within in_package p) known
  within_turn in_package p known = record {
    awaits = λ d is. is;
    defines = λ d is. is;
    fixes = λ d is. is;
    goes = λ within rows. record {
      rows = record {
        long = rows.long;
        predefined = rows.predefined;
        types = rows.types;
        based = rows.based;
        rest = rows.rest;
        plain = rows.plain;
        awaited = rows.awaited;
        private = rows.private;
        incomplete = rows.incomplete;
      };
      keeps = λ v is. is;
      stays = λ t is. refl;
      stamped = λ later are. record {
        stamp = are.stamp;
        now = are.now;
        old = are.old;
        parts = are.parts;
        early = are.early;
        closed = are.closed;
        short = are.short;
      };
    };
  }

  -- ---- an entry

  entry_keeps : (known : Known) (d : ℕ) (e : Entry) → (is_type (entry_of known d) ≡ true → is_type e ≡ true) → (v : ℕ)
      → is_type (entry_of known v) ≡ true → is_type (entry_of (entered known d e) v) ≡ true
  entry_keeps known d e ok v is = elim (entry_after known d e v) [
    | inl at ↦
        elim at.1 [
          | inl new ↦ ap is_type new ∙ ok (ap (λ v. is_type (entry_of known v)) (sym at.0) ∙ is)
          | inr old ↦ ap is_type old ∙ is
        ]
    | inr old ↦ ap is_type old ∙ is
  ]

  entry_types : (known : Known) (d : ℕ) (e : Entry) (p : Past) → (is_type e ≡ true → IsType p d) → AreRows count start p known → (v : ℕ)
      → is_type (entry_of (entered known d e) v) ≡ true → IsType p v
  entry_types known d e p ok rows v is = elim (entry_after known d e v) [
    | inl at ↦
        elim at.1 [
          | inl new ↦ subst (IsType p) (sym at.0) (ok (ap is_type (sym new) ∙ is))
          | inr old ↦ rows.types v (ap is_type (sym old) ∙ is)
        ]
    | inr old ↦ rows.types v (ap is_type (sym old) ∙ is)
  ]

  entry_goes : (known : Known) (d : ℕ) (e : Entry) (p : Past) → (is_type e ≡ true → IsType p d)
      → (AreRows count start p known → is_type (entry_of known d) ≡ true → is_type e ≡ true) → Turn final count all start p known p (entered known d e)
  entry_goes known d e p types keeps = record {
    awaits = λ d is. is;
    defines = λ d is. is;
    fixes = λ d is. is;
    goes = λ within rows. record {
      rows = record {
        long = rows.long;
        predefined = rows.predefined;
        types = entry_types known d e p types rows;
        based = rows.based;
        rest = rows.rest;
        plain = rows.plain;
        awaited = rows.awaited;
        private = rows.private;
        incomplete = rows.incomplete;
      };
      keeps = entry_keeps known d e (keeps rows);
      stays = λ t is. refl;
      stamped = λ later are. record {
        stamp = are.stamp;
        now = are.now;
        old = are.old;
        parts = are.parts;
        early = are.early;
        closed = are.closed;
        short = are.short;
      };
    };
  }

  -- that of a declaration of something else than a type, and that of a type
  pub entry_turn : (d : ℕ) (e : Entry) (p : Past) (known : Known) → IsNew count d p → is_type e ≡ false → Turn final count all start p known p (entered known d e)
  entry_turn d e p known new other =
      entry_goes known d e p (λ is. absurd (true≢false (sym is ∙ other)))
      (λ rows is. absurd (not_type count d p new (rows.types d is)))

  pub type_turn : (d : ℕ) (p : Past) (known : Known) → IsType p d → Turn final count all start p known p (entered known d entry.Type)
  type_turn d p known is = entry_goes known d entry.Type p (λ e. is) (λ rows e. refl)

  -- ---- a row

  pub row_turn : (d : ℕ) (i : Info) (p q : Past) (known : Known) → ((t : ℕ) → Has p.awaited t → Has q.awaited t)
      → ((t : ℕ) → Has p.defined t → Has q.defined t) → ((t : ℕ) → IsFixed p t → IsFixed q t)
      → (((t : ℕ) → Has q.awaited t → Has all t) → AreRows count start p known
      → Fits count start p q d i × (LeadsTo final q (told known d i) → AreStamped final p known → Defines final p q known d i))
      → Turn final count all start p known q (told known d i)
  row_turn d i p q known awaits defines fixes fits = record {
    awaits = awaits;
    defines = defines;
    fixes = fixes;
    goes = λ within rows.
        let f = fits within rows in record {
          rows = row_rows count start p q known d i f.0 rows;
          keeps = λ v is. is;
          stays = row_stays count start p q known d i f.0 rows;
          stamped = λ later are. row_stamped final count start p q known d i f.0 (f.1 later are) are;
        };
  }

  -- a type that is declared before is another one than a new one
  pub other_private : (d : ℕ) (p : Past) (known : Known) → IsNew count d p → AreRows count start p known → (t : ℕ) → Has p.private t → t ≡ d → ⊥
  other_private d p known new rows t is same = new.2 (subst (λ t. Has p.awaited t) same (rows.private t is).0)

  pub other_incomplete : (d : ℕ) (p : Past) (known : Known) → IsNew count d p → AreRows count start p known → (t : ℕ) → Has p.incomplete t → t ≡ d → ⊥
  other_incomplete d p known new rows t is same = new.2 (subst (λ t. Has p.awaited t) same (rows.incomplete t is).0)

  -- one that is no definition, of a new declaration
  undefined_row : (d : ℕ) (i : Info) (p q : Past) (known : Known) → IsNew count d p → ((t : ℕ) → Has q.defined t → Has p.defined t)
      → ((x : Pos) → Has p.marks x → Has q.marks x) → Defines final p q known d i
  undefined_row d i p q known new same marks = record {
    only = λ t is. inl (same t is);
    marks = marks;
    parts = λ is. absurd (new.3 (same d is));
    closed = λ is. absurd (new.3 (same d is));
    chain = λ is. absurd (new.3 (same d is));
    next = inr (inl (not_type count d p new));
  }

  -- an anonymous access type
  access_turn : (d t : ℕ) (constant : Bool) (p : Past) (known : Known) → IsNew count d p
      → Turn final count all start p known p (told known d (own_info (shape.Access t constant false) d))
  access_turn d t constant p known new =
      let i : Info = own_info (shape.Access t constant false) d in
      row_turn d i p p known (λ t is. is) (λ t is. is) (λ t is. is) (λ within rows. (
        record {
          own = new.0;
          inside = new.1;
          awaits = λ t is. is;
          awaited = λ t is. inl is;
          defines = λ t is. is;
          rest = λ none v part. absurd (true≢false (sym part));
          plain = λ none of e. no_access t constant of e;
          unlike = λ is of e. absurd (new.2 is);
          based = λ seen. refl;
          private = λ t is. inl (is, other_private d p known new rows t is);
          incomplete = λ t is. inl (is, other_incomplete d p known new rows t is);
          unfixed = λ is. new.3 is.0;
        },
        λ later are. undefined_row d i p p known new (λ t is. is) (λ x is. is),
      ))
    where
      no_access : {A : Type 0} (t : ℕ) (constant : Bool) (of : ℕ) → shape.Access t constant false ≡ shape.Same of → A
      no_access t constant of e = cc

  pub indication_turn : (d : ℕ) (i : Code) (p : Past) (c : Context) → IsNew count d p → Turn final count all start p c.known p (with_indication d i c).known
  indication_turn d = on_access (λ i. (p : Past) → (c : Context) → IsNew count d p → Turn final count all start p c.known p (with_indication d i c).known)
      (λ x constant m p c new.
      access_turn d (marked c.known m) constant p c.known new)
      (λ i other p c new. rw (indication_end d i c other) (stay p c.known))

  -- a type that is completed later
  abbrev awaited_row : Known → ℕ → Option ℕ → Option Pos → Info
  awaited_row known d seen_in completed = record {
    shape = (info known.table d).shape;
    base = d;
    parent = None;
    seen_in = seen_in;
    completed = completed;
    bounded = true;
  }

  awaited_part : (known : Known) (d v : ℕ) (seen_in : Option ℕ) (completed : Option Pos) → IsMadeOf (awaited_row known d seen_in completed) v
      → IsPart known.table v d
  awaited_part known d v seen_in completed part =
      let i : Info = info known.table d in
      elim (or_cases (holds_shape (λ u. nat_eq u v) i.shape) false part) [
        | inl is ↦ or_left (holds_shape (λ u. nat_eq u v) i.shape) (holds_parent (λ u. nat_eq u v) i.parent) is
        | inr never ↦ absurd (true≢false (sym never))
      ]

  module _ (d : ℕ) (seen_in : Option ℕ) (completed : Option Pos) (p : Past) (privates incompletes : List ℕ) (known : Known) (new : IsNew count d p)
      (of_private : (t : ℕ) → Has privates t → Has p.private t ⊎ ((t ≡ d) × (is_some seen_in ≡ true)))
      (of_incomplete : (t : ℕ) → Has incompletes t → Has p.incomplete t ⊎ ((t ≡ d) × (is_some completed ≡ true))) where
    abbrev i : Info
    i = awaited_row known d seen_in completed

    abbrev pub with_awaited : Past
    with_awaited = record p { awaited = d ∷ p.awaited; private = privates; incomplete = incompletes }

    private_here : AreRows count start p known → (t : ℕ) → Has p.private t ⊎ ((t ≡ d) × (is_some seen_in ≡ true))
        → (Has p.private t × (t ≡ d → ⊥)) ⊎ ((t ≡ d) × Has (d ∷ p.awaited) d × (is_some seen_in ≡ true))
    private_here rows t (inl is) = inl (is, other_private d p known new rows t is)
    private_here rows t (inr at) = inr (at.0, inl refl, at.1)

    incomplete_here : AreRows count start p known → (t : ℕ) → Has p.incomplete t ⊎ ((t ≡ d) × (is_some completed ≡ true))
        → (Has p.incomplete t × (t ≡ d → ⊥)) ⊎ ((t ≡ d) × Has (d ∷ p.awaited) d × (is_some completed ≡ true))
    incomplete_here rows t (inl is) = inl (is, other_incomplete d p known new rows t is)
    incomplete_here rows t (inr at) = inr (at.0, inl refl, at.1)

    -- what is fixed is defined, and this isn't
    still_private : (t : ℕ) → IsFixed p t → Has p.private t ⊎ ((t ≡ d) × (is_some seen_in ≡ true)) → ⊥
    still_private t is (inl was) = is.1 was
    still_private t is (inr at) = new.3 (subst (λ t. Has p.defined t) at.0 is.0)

    still_incomplete : (t : ℕ) → IsFixed p t → Has p.incomplete t ⊎ ((t ≡ d) × (is_some completed ≡ true)) → ⊥
    still_incomplete t is (inl was) = is.2 was
    still_incomplete t is (inr at) = new.3 (subst (λ t. Has p.defined t) at.0 is.0)

    pub awaited_turn : Turn final count all start p known with_awaited (entered (told known d i) d entry.Type)
    awaited_turn =
        let after : Known = told known d i in
        and_then p with_awaited with_awaited known after (entered after d entry.Type)
        (row_turn d i p with_awaited known (λ t is. inr is) (λ t is. is)
        (λ t is. (is.0, λ waits. still_private t is (of_private t waits), λ waits. still_incomplete t is (of_incomplete t waits))) (λ within rows.
        let meant : (of : ℕ) → i.shape ≡ shape.Same of → written start d ≡ shape.Same of =
        λ of e. rows.plain d of new.3 (shape_info (slice_get known.table d) ∙ e) in (
          record {
            own = new.0;
            inside = new.1;
            awaits = λ t is. inr is;
            awaited = λ t is. elim is [ inl same ↦ inr (sym same) | inr was ↦ inl was ];
            defines = λ t is. is;
            rest = λ none v part. rows.rest d v new.3 (awaited_part known d v seen_in completed part);
            plain = λ none. meant;
            unlike = λ is of e. unlike d of new.0 (within d is) (meant of e);
            based = λ seen. refl;
            private = λ t is. private_here rows t (of_private t is);
            incomplete = λ t is. incomplete_here rows t (of_incomplete t is);
            unfixed = λ is. new.3 is.0;
          },
          λ later are. undefined_row d i p with_awaited known new (λ t is. is) (λ x is. is),
        )))
        (type_turn d with_awaited after (inr (inl (inl refl))))

  pub incomplete_turn : (d : ℕ) (at : Pos) (p : Past) (known : Known) → IsNew count d p
      → Turn final count all start p known (with_incomplete d p) (entered (told known d (awaited_row known d None (Some at))) d entry.Type)
  incomplete_turn d at p known new =
      awaited_turn d None (Some at) p p.private (d ∷ p.incomplete) known new (λ t is. inl is)
      (λ t is. elim is [ inl same ↦ inr (sym same, refl) | inr was ↦ inl was ])

  in_private : (d t : ℕ) (home : Option ℕ) (in_package : Bool) (private : List ℕ) → (in_package ≡ true → is_some home ≡ true)
      → Has (if in_package then d ∷ private else private) t → Has private t ⊎ ((t ≡ d) × (is_some home ≡ true))
  in_private d t home true private at (inl same) = inr (sym same, at refl)
  in_private d t home true private at (inr is) = inl is
  in_private d t home false private at is = inl is

  pub private_turn : (d : ℕ) (home : Option ℕ) (p : Past) (known : Known) → IsNew count d p → (p.in_package ≡ true → is_some home ≡ true)
      → Turn final count all start p known (with_private d p) (entered (told known d (awaited_row known d home None)) d entry.Type)
  private_turn d home p known new at =
      awaited_turn d home None p (if p.in_package then d ∷ p.private else p.private) p.incomplete known new
      (λ t is. in_private d t home p.in_package p.private at is) (λ t is. inl is)

  -- ---- objects and subprograms

  indicated_turn : (d : ℕ) (e : Entry) (i : Code) (p : Past) (c : Context) → IsNew count d p → is_type e ≡ false
      → Turn final count all start p c.known p (with_entry d e (with_indication d i c)).known
  indicated_turn d e i p c new other =
      let known : Known = (with_indication d i c).known in
      and_then p p p c.known known (entered known d e) (indication_turn d i p c new) (entry_turn d e p known new other)

  pub object_turn : (constant : Bool) (i : Code) (v : InitialValue) (p : Past) (d : Code) (c : Context) → NewOne count d p
      → Turn final count all start p c.known p (with_object constant i v d c).known
  object_turn constant i v p d c new =
      indicated_turn (declared_number d) (entry.Object (object_info c constant (indicated c.known (declared_number d) i) v)) i p c new refl

  pub number_turn : (v : InitialValue) (p : Past) (d : Code) (c : Context) → NewOne count d p → Turn final count all start p c.known p (with_number v d c).known
  number_turn v p d c new = entry_turn (declared_number d) (entry.Object (number_info c v)) p c.known new refl

  formal_turn : (of : Code) (p : Past) (d : Code) (c : Context) → NewOne count d p → Turn final count all start p c.known p (with_formal of d c).known
  formal_turn of p d c new =
      indicated_turn (declared_number d) (entry.Object (plain_object (indicated c.known (declared_number d) of) kind.Formal)) of p c new refl

  pub names_turn : (f : Code → Context → Context) (p : Past)
      → ((d : Code) (c : Context) → NewOne count d p → Turn final count all start p c.known p (f d c).known) → (names : Code) (c : Context) → AllNew count names p
      → Turn final count all start p c.known p (each f names c).known
  names_turn f p one = on_more (λ names. (c : Context) → AllNew count names p → Turn final count all start p c.known p (each f names c).known)
      (λ d rest next c are.
      and_then p p p c.known (f d c).known (each f rest (f d c)).known (one d c are.0) (next (f d c) are.1))
      (λ names other c are. rw (each_end f names c other) (stay p c.known))

  group_turn : (p : Past) (group : Code) (c : Context) → NewGroup count group p → Turn final count all start p c.known p (with_formal_group group c).known
  group_turn p = on_group (λ group. (c : Context) → NewGroup count group p → Turn final count all start p c.known p (with_formal_group group c).known)
      (λ names m of c are.
      names_turn (with_formal of) p (formal_turn of p) names c are)
      (λ group other c are. rw (group_end group c other) (stay p c.known))

  groups_turn : (p : Past) (groups : Code) (c : Context) → NewFormals count groups p
      → Turn final count all start p c.known p (each with_formal_group groups c).known
  groups_turn p = on_more (λ groups. (c : Context) → NewFormals count groups p → Turn final count all start p c.known p (each with_formal_group groups c).known)
      (λ group rest next c are.
      let middle : Context = with_formal_group group c in
      and_then p p p c.known middle.known (each with_formal_group rest middle).known (group_turn p group c are.0) (next middle are.1))
      (λ groups other c are. rw (each_end with_formal_group groups c other) (stay p c.known))

  result_turn : (d : ℕ) (result : Code) (p : Past) (c : Context) → IsNew count d p → Turn final count all start p c.known p (with_result d result c).known
  result_turn d = on_more (λ result. (p : Past) → (c : Context) → IsNew count d p → Turn final count all start p c.known p (with_result d result c).known)
      (λ i rest _ p c new.
      indication_turn d i p c new)
      (λ result other p c new. rw (result_end d result c other) (stay p c.known))

  pub front_turn : (front : Code) (p : Past) (c : Context) → NewFront count front p → Turn final count all start p c.known p (with_front front c).known
  front_turn = on_front (λ front. (p : Past) → (c : Context) → NewFront count front p → Turn final count all start p c.known p (with_front front c).known)
      (λ d formals result p c are.
      let n : ℕ = declared_number d in
      let first : Context = with_result n result c in
      let inner : Context = each with_formal_group formals first in
      let e : Entry = entry.Subprogram (profile inner.known (Front d formals result)) in
      and_then p p p c.known first.known (entered inner.known n e) (result_turn n result p c are.0)
      (and_then p p p first.known inner.known (entered inner.known n e) (groups_turn p formals first are.1)
      (entry_turn n e p inner.known are.0 refl)))
      (λ front other p c are. rw (front_end front c other) (stay p c.known))

  formals_turn : (front : Code) (p : Past) (c : Context) → NewFront count front p → Turn final count all start p c.known p (with_formals front c).known
  formals_turn = on_front (λ front. (p : Past) → (c : Context) → NewFront count front p → Turn final count all start p c.known p (with_formals front c).known)
      (λ d formals result p c are.
      groups_turn p formals c are.1)
      (λ front other p c are. rw (formals_end front c other) (stay p c.known))

  pub body_turn : (declared : Bool) (front : Code) (p : Past) (c : Context) → NewFront count front p
      → Turn final count all start p c.known p (if declared then with_formals front c else with_front front c).known
  body_turn true front p c are = formals_turn front p c are
  body_turn false front p c are = front_turn front p c are

  literals_turn : (t n : ℕ) (p : Past) (literals : Code) (c : Context) → AllNew count literals p
      → Turn final count all start p c.known p (with_literals t n literals c).known
  literals_turn t n p (More d rest) c are =
      let e : Entry = entry.Literal t n in
      let middle : Context = with_entry (declared_number d) e c in
      and_then p p p c.known middle.known (with_literals t (n + 1) rest middle).known (entry_turn (declared_number d) e p c.known are.0 refl)
      (literals_turn t (n + 1) p rest middle are.1)
  literals_turn t n p _ c are = stay p c.known

  pub definition_turn : (t : ℕ) (p : Past) (def : Code) (c : Context) → NewLiterals count def p → Turn final count all start p c.known p (with_definition t def c).known
  definition_turn t p = on_enumeration (λ def. (c : Context) → NewLiterals count def p → Turn final count all start p c.known p (with_definition t def c).known)
      (λ literals c are.
      literals_turn t 0 p literals c are)
      (λ def other c are. rw (definition_end t def c other) (stay p c.known))
