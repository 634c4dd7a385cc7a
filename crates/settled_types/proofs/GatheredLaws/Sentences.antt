-- Five of the sentences on the table of types that typed expressions ask for: on types with one base, ranges
-- of Integer, literals and instances.
use Rattle.std.proofs.Common.{◌≡◌, ◌⊎◌, inl, inr, ℕ, zero, suc, ◌+◌, ◌-◌, ◌<◌, ◌≤◌, Bool, true, false, ◌&&◌, List, [], ◌∷◌, ◌++◌, flat_map, length, get_or, replicate, refl, sym, ap, ◌∙◌, arith, subst, Option, Some, None, true≢false, if◌then◌else◌}
use Rattle.std.specs.Prelude.{slice_get}
use Rattle.std.proofs.lemmas.Bool.{cases_lt}
use Rattle.machine.specs.spark_base.Lists.{Has}
use Rattle.machine.specs.resolved_tree.Trees.{Tree, Named, Argument, NoMore, More, Code, Enumeration, TypeDecl, Instance, SubBody, Package, PackageBody, If, Branch, Case, When, Loop, While, For, Block, Program}
use Rattle.machine.specs.type_definitions.declared.table.Entry.{Entry}
use Rattle.machine.specs.type_definitions.declared.table.Entry.TheVariants as entry
use Rattle.machine.specs.type_definitions.declared.table.Known.{Known}
use Rattle.machine.specs.type_definitions.declared.table.Info.{Info}
use Rattle.machine.specs.type_definitions.declared.table.Shape.{Shape}
use Rattle.machine.specs.type_definitions.declared.table.Shape.TheVariants as shape
use Rattle.machine.specs.type_definitions.Types.{Table, base, meant_type, meant_type_found, shape_of, shape_found, full, view_of}
use Rattle.machine.specs.type_definitions.Entries.{entry_of, integer, is_type}
use Rattle.machine.specs.type_definitions.Names.{Context}
use Rattle.machine.specs.type_definitions.Gathered.{declared_number, actual_type, is_for_name, instance_actual, instance_type}
use Rattle.machine.specs.type_definitions.Declarations.{is_named_access, names_type, all_types}
use Rattle.machine.specs.type_definitions.Whole.{predefined_types, predefined_entries, outside, gather_units, known_of}
use Rattle.machine.specs.Typed.{same_kind}
use Rattle.soundness.specs.TypedLaws.Fine.{Agree, counts, lists}
use Rattle.settled_types.specs.Wholes.{written}
use Rattle.settled_types.specs.Orderly.{Past, at_start, IsOrderly}
use Rattle.settled_types.specs.Stamped.{AllOpen}
use Rattle.settled_types.proofs.Main.{begin, end, second, begins_second}
use Rattle.settled_types.specs.GatheredLaws.DefinitionKinds.{kind, kind_defined, Kinds}
use Rattle.settled_types.specs.GatheredLaws.Views.{own_numbers, IsViewRow, AreViews}
use Rattle.settled_types.specs.GatheredLaws.Based.{IsOne, Agrees}
use Rattle.settled_types.specs.GatheredLaws.Faultless.{IsFaultless}
use Rattle.settled_types.specs.GatheredLaws.Made.{type_numbers, IsMade}
use Rattle.settled_types.specs.GatheredLaws.Says.{Says, SaysDefined, SaysAll}
use Rattle.settled_types.proofs.GatheredLaws.Walk.{same_own}
use Rattle.settled_types.proofs.GatheredLaws.Bounded.{ArePredefined, low, base_low, written_low, own_low}
use Rattle.settled_types.proofs.GatheredLaws.Declared.{units_declare, units_told, units_own_viewed}
use Rattle.settled_types.proofs.GatheredLaws.Numbered.{program_high}
use Rattle.settled_types.proofs.GatheredLaws.Views.{view_row}
use Rattle.settled_types.proofs.GatheredLaws.Entries.{AreSaid, all_said}
use Rattle.settled_types.proofs.GatheredLaws.Agreed.{IsOwn, based, agrees, kinds_last}
use Rattle.settled_types.proofs.GatheredLaws.Main.{are_types, typed}

-- ---- shapes of one kind

alike : (s u : Shape) → kind s ≡ kind u → kind u < 2 → same_kind s u ≡ true
alike (shape.Whole a b) (shape.Whole c d) e less = refl
alike (shape.Listed k a b) (shape.Listed l c d) e less = refl
alike (shape.Whole a b) (shape.Listed l c d) e less = absurd (omega (arith, e))
alike (shape.Listed k a b) (shape.Whole c d) e less = absurd (omega (arith, e))
alike s (shape.Same of) e less = absurd (omega (arith, less))
alike s (shape.Access d constant named) e less = absurd (omega (arith, less))
alike s (shape.Fields cs) e less = absurd (omega (arith, less))
alike s (shape.Elements a b of) e less = absurd (omega (arith, less))
alike (shape.Same of) u e less = absurd (omega (arith, e, less))
alike (shape.Access d constant named) u e less = absurd (omega (arith, e, less))
alike (shape.Fields cs) u e less = absurd (omega (arith, e, less))
alike (shape.Elements a b of) u e less = absurd (omega (arith, e, less))

count_kind : (s : Shape) → counts s ≡ true → kind s ≡ 0
count_kind (shape.Whole a b) e = refl
count_kind (shape.Listed l a b) e = absurd (true≢false (sym e))
count_kind (shape.Same of) e = absurd (true≢false (sym e))
count_kind (shape.Access d constant named) e = absurd (true≢false (sym e))
count_kind (shape.Fields cs) e = absurd (true≢false (sym e))
count_kind (shape.Elements a b of) e = absurd (true≢false (sym e))

list_kind : (s : Shape) → kind s ≡ 1 → lists s ≡ true
list_kind (shape.Listed l a b) e = refl
list_kind (shape.Whole a b) e = absurd (omega (arith, e))
list_kind (shape.Same of) e = absurd (omega (arith, e))
list_kind (shape.Access d constant named) e = absurd (omega (arith, e))
list_kind (shape.Fields cs) e = absurd (omega (arith, e))
list_kind (shape.Elements a b of) e = absurd (omega (arith, e))

own_kind : (s : Shape) → IsOwn s → kind s ≡ 0 → ⊥
own_kind (shape.Whole a b) own e = own
own_kind (shape.Listed l a b) own e = omega (arith, e)
own_kind (shape.Same of) own e = own
own_kind (shape.Access d constant named) own e = omega (arith, e)
own_kind (shape.Fields cs) own e = omega (arith, e)
own_kind (shape.Elements a b of) own e = omega (arith, e)

-- a named access type
own_access : (s : Shape) → IsOwn s ⊎ (kind s < 2) → is_named_access (view_of s) ≡ true → (to : ℕ) × (s ≡ shape.Access to false true)
own_access (shape.Access d constant named) (inl own) is = (d, ap (λ c. shape.Access d c named) own.0 ∙ ap (λ n. shape.Access d false n) own.1)
own_access (shape.Access d constant named) (inr less) is = absurd (omega (arith, less))
own_access (shape.Whole a b) own is = absurd (true≢false (sym is))
own_access (shape.Listed l a b) own is = absurd (true≢false (sym is))
own_access (shape.Same of) own is = absurd (true≢false (sym is))
own_access (shape.Fields cs) own is = absurd (true≢false (sym is))
own_access (shape.Elements a b of) own is = absurd (true≢false (sym is))

both_left : (a b : Bool) → a && b ≡ true → a ≡ true
both_left true b e = refl
both_left false b e = absurd (true≢false (sym e))

both_right : (a b : Bool) → a && b ≡ true → b ≡ true
both_right true b e = e
both_right false b e = absurd (true≢false (sym e))

-- ---- what is said of literals and instances

says : (literal instance : ℕ → Type 0) (T : Table) (known : Known) → ((n : ℕ) → kind (written T n) ≡ 1 → literal n)
    → ((args : Tree) → all_types known args ≡ true → is_named_access (full known.table (instance_type args)) ≡ true → instance (instance_type args))
    → (code : Code) → Kinds T code → IsFaultless known code → SaysAll literal instance code
unfolding Kinds IsFaultless SaysAll
says literal instance T known one other (TypeDecl d def end) k f = defined def k
  where
    defined : (def : Code) → kind (written T (declared_number d)) ≡ kind_defined def → SaysDefined literal (declared_number d) def
    defined (Enumeration literals) k = one (declared_number d) k
    defined def k = tt
says literal instance T known one other (Instance d m args) k f = other args f.0 f.1
says literal instance T known one other (SubBody front x y end) k f = (says literal instance T known one other x k.0 f.0, says literal instance T known one other y k.1 f.1)
says literal instance T known one other (Package d x y) k f = (says literal instance T known one other x k.0 f.0, says literal instance T known one other y k.1 f.1)
says literal instance T known one other (PackageBody d x) k f = says literal instance T known one other x k f
says literal instance T known one other (If at x y) k f = (says literal instance T known one other x k.0 f.0, says literal instance T known one other y k.1 f.1)
says literal instance T known one other (Branch at e x) k f = says literal instance T known one other x k f
says literal instance T known one other (Case at e x) k f = says literal instance T known one other x k f
says literal instance T known one other (When choices x) k f = says literal instance T known one other x k f
says literal instance T known one other (Loop at x) k f = says literal instance T known one other x k f
says literal instance T known one other (While at e x) k f = says literal instance T known one other x k f
says literal instance T known one other (For at d reversed range x) k f = says literal instance T known one other x k f
says literal instance T known one other (Block at x y end) k f = (says literal instance T known one other x k.0 f.0, says literal instance T known one other y k.1 f.1)
says literal instance T known one other (More x y) k f = (says literal instance T known one other x k.0 f.0, says literal instance T known one other y k.1 f.1)
says literal instance T known one other code k f = tt

units_said : (literal instance : ℕ → Type 0) (units : List Code) (c : Context) → ((u : Code) → Has units u → SaysAll literal instance u) → AreSaid literal instance c
    → AreSaid literal instance (gather_units units c)
units_said literal instance [] c says are = are
units_said literal instance (u ∷ rest) c says are =
    units_said literal instance rest _ (λ v has. says v (inr has)) (all_said literal instance u c (says u (inl refl)) are)

none_said : (literal instance : ℕ → Type 0) (n d : ℕ) → Says literal instance (get_or (replicate n entry.Nothing) d entry.Nothing)
none_said literal instance zero d = tt
none_said literal instance (suc n) zero = tt
none_said literal instance (suc n) (suc d) = none_said literal instance n d

first_said : (literal instance : ℕ → Type 0) (n d : ℕ) → literal 3 → Says literal instance (get_or (predefined_entries ++ replicate n entry.Nothing) d entry.Nothing)
first_said literal instance n zero is = tt
first_said literal instance n (suc zero) is = tt
first_said literal instance n (suc (suc zero)) is = tt
first_said literal instance n (suc (suc (suc zero))) is = tt
first_said literal instance n (suc (suc (suc (suc zero)))) is = is
first_said literal instance n (suc (suc (suc (suc (suc zero))))) is = is
first_said literal instance n (suc (suc (suc (suc (suc (suc zero)))))) is = tt
first_said literal instance n (suc (suc (suc (suc (suc (suc (suc zero))))))) is = tt
first_said literal instance n (suc (suc (suc (suc (suc (suc (suc (suc zero)))))))) is = tt
first_said literal instance n (suc (suc (suc (suc (suc (suc (suc (suc (suc zero))))))))) is = tt
first_said literal instance n (suc (suc (suc (suc (suc (suc (suc (suc (suc (suc zero)))))))))) is = tt
first_said literal instance n (suc (suc (suc (suc (suc (suc (suc (suc (suc (suc (suc zero))))))))))) is = tt
first_said literal instance n (suc (suc (suc (suc (suc (suc (suc (suc (suc (suc (suc (suc zero)))))))))))) is = tt
first_said literal instance n (suc (suc (suc (suc (suc (suc (suc (suc (suc (suc (suc (suc (suc zero))))))))))))) is = tt
first_said literal instance n (suc (suc (suc (suc (suc (suc (suc (suc (suc (suc (suc (suc (suc (suc zero)))))))))))))) is = tt
first_said literal instance n (suc (suc (suc (suc (suc (suc (suc (suc (suc (suc (suc (suc (suc (suc (suc d))))))))))))))) is = none_said literal instance n d

-- ---- the program

module _ (p : Program) (are : IsOrderly p) (opens : AllOpen (known_of p) p.units) (views : AreViews p.units (known_of p).table)
    (faultless : (u : Code) → Has p.units u → IsFaultless (known_of p) u) where
  abbrev table : Table
  table = (known_of p).table

  abbrev last : Past
  last = end p are opens

  found_own : (t : ℕ) (o : Option Info) → (kind (shape_found o) ≡ 3 → ⊥) → meant_type_found t o ≡ t
  found_own t None none = refl
  found_own t (Some i) none = same_own t i.shape none

  abbrev second_table : Table
  second_table = second p are opens

  predefined : ArePredefined table
  predefined = (are_types p are).predefined

  long : p.count ≤ length second_table
  long = (begins_second p are opens).long

  own_row : (t : ℕ) → Has (flat_map own_numbers p.units) t → Has (flat_map type_numbers p.units) t → IsViewRow table t
  unfolding known_of
  own_row t has made =
      let less = (program_high p are t made).1 in
      let enough = long in
      view_row t p.units (outside (begin p.count second_table)) (omega (arith, less, enough)) (views.apart t (units_own_viewed p.units t has)) has

  -- A type with a name, or an anonymous access type.
  one : (t : ℕ) → IsMade p.units t → IsOne last.awaited last.defined t ⊎ IsViewRow table t
  one t (inl low) = inl (inl low)
  one t (inr has) = elim (units_told p.units t has) [
    | inl name ↦ inl (units_declare p.units at_start t name)
    | inr view ↦ elim view [
      | inl own ↦ inr (own_row t own has)
      | inr result ↦ inr (views.results t result)
    ]
  ]

  view_meant : (t : ℕ) → IsViewRow table t → meant_type table t ≡ t
  view_meant t view = found_own t (slice_get table t) (λ e. let a = ap kind (sym view.3) ∙ e in omega (arith, a))

  agreed : (t : ℕ) → IsMade p.units t → Agrees table t
  agreed t made = elim (one t made) [
    | inl is ↦ agrees p are opens views.apart faultless t is
    | inr view ↦ inl (view_meant t view ∙ sym view.0)
  ]

  like_base : (t : ℕ) → Agrees table t → kind (shape_of table t) ≡ kind (written table (base table t))
  like_base t (inl same) = ap (λ u. kind (written table u)) same
  like_base t (inr like) = like.0

  pub same : (t u : ℕ) → IsMade p.units t → IsMade p.units u → base table t ≡ base table u → Agree table t u
  same t u made other e = by (agreed t made) (agreed u other)
    where
      kinds : kind (shape_of table t) ≡ kind (shape_of table u)
      kinds = like_base t (agreed t made) ∙ ap (λ v. kind (written table v)) e ∙ sym (like_base u (agreed u other))

      by : Agrees table t → Agrees table u → Agree table t u
      by (inl a) (inl b) = inl (a ∙ e ∙ sym b)
      by a (inr b) = inr (alike (shape_of table t) (shape_of table u) kinds b.1)
      by (inr a) b = inr (alike (shape_of table t) (shape_of table u) kinds (subst (λ k. k < 2) kinds a.1))

  pub base_of : (t : ℕ) → IsMade p.units t → base table (base table t) ≡ base table t
  base_of t made = elim (one t made) [
    | inl is ↦ (based p are opens views.apart faultless).bases t is
    | inr view ↦ ap (base table) view.0
  ]

  -- a type that is based on itself
  own_shape : (t : ℕ) → IsOne last.awaited last.defined t → base table t ≡ t → IsOwn (written table t) ⊎ (t < 5)
  own_shape t is own = elim (cases_lt t 5) [
    | inl less ↦ inr less
    | inr more ↦ inl ((based p are opens views.apart faultless).own t is more own).0
  ]

  -- what a type is based on
  base_shape : (t : ℕ) → IsMade p.units t → (IsOwn (written table (base table t)) ⊎ (base table t < 5)) ⊎ IsViewRow table t
  base_shape t made = elim (one t made) [
    | inl is ↦ inl (own_shape (base table t) ((based p are opens views.apart faultless).based t is) (base_of t made))
    | inr view ↦ inr view
  ]

  view_kind : (t : ℕ) → IsViewRow table t → kind (written table (base table t)) ≡ 2
  view_kind t view = ap (λ u. kind (written table u)) view.0 ∙ ap kind view.3

  pub numeric : (t : ℕ) → IsMade p.units t → counts (shape_of table t) ≡ true → base table t ≡ integer
  numeric t made whole =
      let b : ℕ = base table t in
      let own : base table b ≡ b = base_of t made in
      let zero_kind : kind (written table b) ≡ 0 = sym (like_base t (agreed t made)) ∙ count_kind (shape_of table t) whole in
      elim (base_shape t made) [
        | inr view ↦ absurd (let a = sym (view_kind t view) ∙ zero_kind in omega (arith, a))
        | inl found ↦ elim found [
          | inl ruled ↦ absurd (own_kind (written table b) ruled zero_kind)
          | inr less ↦ low (λ b. base (predefined_types false) b ≡ b → kind (written (predefined_types false) b) ≡ 0 → b ≡ integer)
              (λ e k. refl) (λ e k. absurd (omega (arith, e))) (λ e k. absurd (omega (arith, e))) (λ e k. absurd (omega (arith, k))) (λ e k. absurd (omega (arith, e)))
              b less (sym (base_low table predefined b less) ∙ own) (ap kind (sym (written_low table predefined b less)) ∙ zero_kind)
        ]
      ]

  -- A type with a name is no anonymous access type.
  pub named_type : (t d : ℕ) (c n : Bool) → IsOne last.awaited last.defined t → shape_of table t ≡ shape.Access d c n → n ≡ true
  named_type t d c n is means = by (agrees p are opens views.apart faultless t is)
    where
      b : ℕ
      b = base table t

      owned : written table b ≡ shape.Access d c n → IsOwn (written table b) ⊎ (b < 5) → n ≡ true
      owned at (inl own) = let o : IsOwn (shape.Access d c n) = subst IsOwn at own in o.1
      owned at (inr less) =
          let k = own_low table predefined b less ((based p are opens views.apart faultless).bases t is) in
          let two = ap kind at in absurd (omega (arith, k, two))

      by : Agrees table t → n ≡ true
      by (inr like) = let k = like.1 in let two = ap kind means in absurd (omega (arith, k, two))
      by (inl same) =
          owned (ap (written table) (sym same) ∙ means)
          (own_shape b ((based p are opens views.apart faultless).based t is) ((based p are opens views.apart faultless).bases t is))

  -- ---- literals and instances

  abbrev IsLiteral : ℕ → Type 0
  IsLiteral t = lists (shape_of table t) ≡ true

  abbrev IsInstance : ℕ → Type 0
  IsInstance t = IsMade p.units t × (to : ℕ) × (shape_of table t ≡ shape.Access to false true)

  listed_literal : (n : ℕ) → kind (written table n) ≡ 1 → IsLiteral n
  listed_literal n is =
      let own : meant_type table n ≡ n = found_own n (slice_get table n) (λ e. omega (arith, is, e)) in
      list_kind (shape_of table n) (ap (λ u. kind (written table u)) own ∙ is)

  boolean_literal : IsLiteral 3
  boolean_literal = listed_literal 3 (ap kind (written_low table predefined 3 (omega arith)))

  named_made : (e : Tree) → names_type (known_of p) e ≡ true → IsMade p.units (actual_type e)
  named_made (Named at d NoMore) is = typed (IsMade p.units) (λ t less. inl less) (known_of p) (are_types p are) d (type_entry (entry_of (known_of p) d) is)
    where
      type_entry : (x : Entry) → is_type x ≡ true → x ≡ entry.Type
      type_entry entry.Type e = refl
      type_entry x e = absurd (true≢false (sym e))
  named_made e is = inl (omega arith)

  actual_made : (args : Tree) (i : ℕ) → all_types (known_of p) args ≡ true → IsMade p.units (instance_actual i args)
  actual_made (Argument w e rest) i all =
      by (actual_made rest (i + 1) (both_right (names_type (known_of p) e) (all_types (known_of p) rest) all)) (is_for_name i w)
    where
      by : IsMade p.units (instance_actual (i + 1) rest) → (b : Bool) → IsMade p.units (if b then actual_type e else instance_actual (i + 1) rest)
      by on true = named_made e (both_left (names_type (known_of p) e) (all_types (known_of p) rest) all)
      by on false = on
  actual_made args i all = inl (omega arith)

  never_named : (t : ℕ) → IsViewRow table t → is_named_access (full table t) ≡ true → ⊥
  never_named t view is =
      let shape : shape_of table t ≡ shape.Access view.1 view.2 false = ap (written table) (view_meant t view) ∙ view.3 in
      true≢false (sym is ∙ ap (λ z. is_named_access (view_of z)) shape)

  access_shape : (t : ℕ) → IsMade p.units t → is_named_access (full table t) ≡ true → (to : ℕ) × (shape_of table t ≡ shape.Access to false true)
  access_shape t made is = own_access (shape_of table t) (by (agreed t made)) is
    where
      by : Agrees table t → IsOwn (shape_of table t) ⊎ (kind (shape_of table t) < 2)
      by (inr like) = inr like.1
      by (inl same) =
          let b : ℕ = base table t in
          elim (base_shape t made) [
            | inr view ↦ absurd (never_named t view is)
            | inl found ↦ elim found [
              | inl ruled ↦ inl (subst (λ u. IsOwn (written table u)) (sym same) ruled)
              | inr less ↦ inr (subst (λ u. kind (written table u) < 2) (sym same) (own_low table predefined b less (base_of t made)))
            ]
          ]

  freed_instance : (args : Tree) → all_types (known_of p) args ≡ true → is_named_access (full table (instance_type args)) ≡ true → IsInstance (instance_type args)
  freed_instance args all is =
      let made = actual_made args 0 all in
      let access = access_shape (instance_type args) made is in
      (made, access.0, access.1)

  said : AreSaid IsLiteral IsInstance (outside (known_of p))
  unfolding known_of
  said =
      units_said IsLiteral IsInstance p.units (outside (begin p.count (second p are opens)))
      (λ u has. says IsLiteral IsInstance table (known_of p) listed_literal freed_instance u (kinds_last p are opens views.apart faultless u has) (faultless u has))
      (λ d. first_said IsLiteral IsInstance (p.count - 15) d boolean_literal)

  pub literal : (d t n : ℕ) → entry_of (known_of p) d ≡ entry.Literal t n → lists (shape_of table t) ≡ true
  literal d t n e = subst (Says IsLiteral IsInstance) e (said d)

  pub freed : (d t : ℕ) → entry_of (known_of p) d ≡ entry.Instance t → IsMade p.units t × (to : ℕ) × (shape_of table t ≡ shape.Access to false true)
  freed d t e = subst (Says IsLiteral IsInstance) e (said d)
