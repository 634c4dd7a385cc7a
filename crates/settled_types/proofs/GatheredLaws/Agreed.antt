-- Types that are based on one type have one definition, or are scalar of one kind, after both turns.
use Rattle.std.proofs.Common.{◌≡◌, inl, inr, ℕ, zero, suc, ◌-◌, ◌<◌, ◌≤◌, true, false, List, [], ◌∷◌, flat_map, replicate, refl, sym, ap, ◌∙◌, arith, subst, true≢false}
use Rattle.std.specs.Prelude.{slice_get}
use Rattle.machine.specs.spark_base.Lists.{Has}
use Rattle.spark_base.proofs.Lists.{Has-append_left, Has-append_right}
use Rattle.machine.specs.resolved_tree.Trees.{Code, More, Enumeration, Record, Array, Access, TypeDecl, ConstrainedSubtype, SubBody, Package, PackageBody, If, Branch, Case, When, Loop, While, For, Block, Program}
use Rattle.machine.specs.type_definitions.declared.table.Known.{Known}
use Rattle.machine.specs.type_definitions.declared.table.Shape.{Shape}
use Rattle.machine.specs.type_definitions.declared.table.Shape.TheVariants as shape
use Rattle.machine.specs.type_definitions.Types.{Table, base, meant_type, no_type}
use Rattle.machine.specs.type_definitions.Names.{Context}
use Rattle.machine.specs.type_definitions.Gathered.{gather, defined, declared_number}
use Rattle.machine.specs.type_definitions.Whole.{predefined_types, outside, gather_units, known_from, known_of}
use Rattle.settled_types.specs.Wholes.{written}
use Rattle.settled_types.specs.Orderly.{Past, at_start, past_after, past_units, AllOrderly, IsOrderly}
use Rattle.settled_types.specs.Stamped.{AllOpen, IsFixed, AreRows, LeadsTo}
use Rattle.settled_types.proofs.Homes.{AtHome, homes}
use Rattle.settled_types.proofs.Turns.{Turn}
use Rattle.settled_types.proofs.Main.{first_table, begin, begin_rows, units_turn, end, first, begins_first, unlike_first, rows_first, second, begins_second, first_rows}
use Rattle.settled_types.specs.GatheredLaws.DefinitionKinds.{kind, kind_defined, Kinds}
use Rattle.settled_types.specs.GatheredLaws.Views.{view_numbers, named_numbers, AreViewsApart}
use Rattle.settled_types.specs.GatheredLaws.Based.{IsOne, Agrees, AreBased}
use Rattle.settled_types.specs.GatheredLaws.Faultless.{IsFaultless}
use Rattle.settled_types.proofs.GatheredLaws.Nodes.{Node, rows_after}
use Rattle.settled_types.proofs.GatheredLaws.DefinedKinds.{kinds, defined_kind}
use Rattle.settled_types.proofs.GatheredLaws.Walk.{Allows, IsParted, Bounded, walks}
use Rattle.settled_types.proofs.GatheredLaws.Bounded.{ArePredefined, low, base_low, meant_low, written_low, bounded}

-- ---- what both turns ask of the code

allows : (rule : ℕ → Shape → Type 0) (final : Known) (T : Table)
    → ((n : ℕ) (def : Code) → kind (written T n) ≡ kind_defined def → (c : Context) → rule n (defined c def))
    → (code : Code) → Kinds T code → IsFaultless final code → Allows rule final code
unfolding Kinds IsFaultless Allows
allows rule final T full (TypeDecl d def end) k f = full (declared_number d) def k
allows rule final T full (ConstrainedSubtype d m a b) k f = f
allows rule final T full (SubBody front items stmts end) k f = (allows rule final T full items k.0 f.0, allows rule final T full stmts k.1 f.1)
allows rule final T full (Package d visible hidden) k f = (allows rule final T full visible k.0 f.0, allows rule final T full hidden k.1 f.1)
allows rule final T full (PackageBody d parts) k f = allows rule final T full parts k f
allows rule final T full (If p x y) k f = (allows rule final T full x k.0 f.0, allows rule final T full y k.1 f.1)
allows rule final T full (Branch p e x) k f = allows rule final T full x k f
allows rule final T full (Case p e x) k f = allows rule final T full x k f
allows rule final T full (When choices x) k f = allows rule final T full x k f
allows rule final T full (Loop p x) k f = allows rule final T full x k f
allows rule final T full (While p e x) k f = allows rule final T full x k f
allows rule final T full (For p d reversed range x) k f = allows rule final T full x k f
allows rule final T full (Block p x y end) k f = (allows rule final T full x k.0 f.0, allows rule final T full y k.1 f.1)
allows rule final T full (More x y) k f = (allows rule final T full x k.0 f.0, allows rule final T full y k.1 f.1)
allows rule final T full code k f = tt

-- ---- units one after the other

module _ (final : Known) (count : ℕ) (all : List ℕ) (start : Table)
    (unlike : (d of : ℕ) → 15 ≤ d → Has all d → written start d ≡ shape.Same of → ⊥) where
  record Units (u : Code) (rest : List Code) (p : Past) (c : Context) : Type 0 where
    pub first_node : Node final count all start unlike u p c
    pub rows : AreRows count start (past_after u p) (gather u c).known
    pub on : Turn final count all start (past_after u p) (gather u c).known (past_units rest (past_after u p)) (gather_units rest (gather u c)).known

  units : (u : Code) (rest : List Code) (p : Past) (c : Context) → AllOrderly count p (u ∷ rest) → AllOpen final (u ∷ rest) → AtHome p c
      → ((d : ℕ) → Has (past_units rest (past_after u p)).awaited d → Has all d) → AreRows count start p c.known → Units u rest p c
  units u rest p c orderly opens home within_all rows =
      let on : Turn final count all start (past_after u p) (gather u c).known (past_units rest (past_after u p)) (gather_units rest (gather u c)).known
      = units_turn final count all start unlike rest (past_after u p) (gather u c) orderly.1 opens.1 (homes u p c home) in
      let one : Node final count all start unlike u p c
      = record { orderly = orderly.0; opens = opens.0; home = home; within_all = λ d is. within_all d (on.awaits d is); rows = rows } in
      record { first_node = one; rows = rows_after final count all start unlike u p c one; on = on }

  -- the kinds of full types, in a table that has what is fixed in the end
  units_kinds : (T : Table) (us : List Code) (p : Past) (c : Context) → AllOrderly count p us → AllOpen final us → AtHome p c
      → ((d : ℕ) → Has (past_units us p).awaited d → Has all d) → AreRows count start p c.known
      → ((t : ℕ) → IsFixed (past_units us p) t → slice_get T t ≡ slice_get (gather_units us c).known.table t) → (u : Code) → Has us u → Kinds T u
  units_kinds T [] p c orderly opens home within_all rows until u has = absurd has
  units_kinds T (v ∷ rest) p c orderly opens home within_all rows until u has =
      let n = units v rest p c orderly opens home within_all rows in
      elim has [
        | inl same ↦ subst (Kinds T) same
            (kinds final count all start unlike T v p c n.first_node
            (λ t is. until t (n.on.fixes t is) ∙ (n.on.goes within_all n.rows).stays t is))
        | inr more ↦ units_kinds T rest (past_after v p) (gather v c) orderly.1 opens.1 (homes v p c home) within_all n.rows until u more
      ]

  module _ (rule : ℕ → Shape → Type 0) (Final : Type 0) (steady : Final → (d : ℕ) (s u : Shape) → rule d s → rule d u → kind s ≡ kind u)
      (plain : (d : ℕ) (s : Shape) → rule d s → kind s ≡ 3 → ⊥) (starts : (d : ℕ) → 15 ≤ d → Has all d → rule d (written start d))
      (views : ℕ → Type 0) (bound : Bounded final count all start unlike rule Final steady plain starts views) where
    units_based : (us : List Code) (p : Past) (c : Context) → AllOrderly count p us → AllOpen final us → AtHome p c
        → ((d : ℕ) → Has (past_units us p).awaited d → Has all d) → AreRows count start p c.known → ((u : Code) → Has us u → IsParted views u)
        → ((u : Code) → Has us u → Allows rule final u) → (Final → LeadsTo final (past_units us p) (gather_units us c).known)
        → AreBased rule Final views start p.awaited p.defined c.known.table
        → AreBased rule Final views start (past_units us p).awaited (past_units us p).defined (gather_units us c).known.table
    units_based [] p c orderly opens home within_all rows parted allowed later b = b
    units_based (v ∷ rest) p c orderly opens home within_all rows parted allowed later b =
        let n = units v rest p c orderly opens home within_all rows in
        let q : Past = past_after v p in
        let middle : Context = gather v c in
        let leads : Final → LeadsTo final q middle.known
        = λ f. let l = later f in record {
          keeps = λ x is. l.keeps x ((n.on.goes within_all n.rows).keeps x is);
          fixed = λ t is. l.fixed t (n.on.fixes t is) ∙ (n.on.goes within_all n.rows).stays t is;
        } in
        units_based rest q middle orderly.1 opens.1 (homes v p c home) within_all n.rows (λ u has. parted u (inr has)) (λ u has. allowed u (inr has)) later
        (walks final count all start unlike rule Final steady plain starts views bound v p c n.first_node (parted v (inl refl)) (allowed v (inl refl)) leads b)

-- ---- where a turn begins

low_one : (t : ℕ) → IsOne [] (4 ∷ []) t → t < 5
low_one t (inl less) = less
low_one t (inr (inl is)) = absurd is
low_one t (inr (inr (inl same))) = omega (arith, same)
low_one t (inr (inr (inr is))) = absurd is

begin_based : (rule : ℕ → Shape → Type 0) (Final : Type 0) (views : ℕ → Type 0) (table : Table) → ArePredefined table → AreBased rule Final views table [] (4 ∷ []) table
begin_based rule Final views table rows = record {
  based = λ t is. let less = low_one t is in inl (subst (λ n. n < 5) (sym (base_low table rows t less))
      (low (λ t. base (predefined_types false) t < 5) (omega arith) (omega arith) (omega arith) (omega arith) (omega arith) t less));
  bases = λ t is. let less = low_one t is in
      let up : base table t ≡ base (predefined_types false) t = base_low table rows t less in
      let small : base (predefined_types false) t < 5 = low (λ t. base (predefined_types false) t < 5) (omega arith) (omega arith) (omega arith) (omega arith) (omega arith) t less in
      ap (base table) up ∙ base_low table rows (base (predefined_types false) t) small
      ∙ low (λ t. base (predefined_types false) (base (predefined_types false) t) ≡ base (predefined_types false) t) refl refl refl refl refl t less ∙ sym up;
  meant = λ t is. let less = low_one t is in inl (subst (λ n. n < 5) (sym (meant_low table rows t less))
      (low (λ t. meant_type (predefined_types false) t < 5) (omega arith) (omega arith) (omega arith) (omega arith) (omega arith) t less));
  own = λ t is high own. absurd (let less = low_one t is in omega (arith, less, high));
  waits = λ t is. absurd is;
  fresh = λ t high none other. refl;
  agrees = λ f t is. let less = low_one t is in low (Agrees table)
      (inl (meant_low table rows 0 (omega arith) ∙ sym (base_low table rows 0 (omega arith)))) (range 1 (omega arith) refl refl refl) (range 2 (omega arith) refl refl refl)
      (inl (meant_low table rows 3 (omega arith) ∙ sym (base_low table rows 3 (omega arith)))) (inl (meant_low table rows 4 (omega arith) ∙ sym (base_low table rows 4 (omega arith)))) t less;
}
  where
    range : (t : ℕ) (less : t < 5) → meant_type (predefined_types false) t ≡ t → base (predefined_types false) t ≡ 0 → kind (written (predefined_types false) t) ≡ 0 → Agrees table t
    range t less own zero_base whole =
        let shape_is : kind (written table (meant_type table t)) ≡ 0
        = ap (λ u. kind (written table u)) (meant_low table rows t less ∙ own) ∙ ap kind (written_low table rows t less) ∙ whole in
        let base_is : kind (written table (base table t)) ≡ 0
        = ap (λ u. kind (written table u)) (base_low table rows t less ∙ zero_base) ∙ ap kind (written_low table rows 0 (omega arith)) in
        inr (shape_is ∙ sym base_is, subst (λ k. k < 2) (sym shape_is) (omega arith))

-- ---- what own types are in both turns

-- The definition of an access type with a name is of variables, and named.
abbrev pub IsOwn : Shape → Type 0
IsOwn (shape.Whole a b) = ⊥
IsOwn (shape.Same of) = ⊥
IsOwn (shape.Access d constant named) = (constant ≡ false) × (named ≡ true)
IsOwn _ = Unit {0}

abbrev pub FirstRule : ℕ → Shape → Type 0
FirstRule d s = IsOwn s

abbrev pub SecondRule : Table → ℕ → Shape → Type 0
SecondRule table d s = IsOwn s × (kind s ≡ kind (written table d))

own_plain : (s : Shape) → IsOwn s → kind s ≡ 3 → ⊥
own_plain (shape.Same of) own e = own
own_plain (shape.Whole a b) own e = own
own_plain (shape.Listed l a b) own e = omega (arith, e)
own_plain (shape.Access d constant named) own e = omega (arith, e)
own_plain (shape.Fields cs) own e = omega (arith, e)
own_plain (shape.Elements a b of) own e = omega (arith, e)

defined_own : (c : Context) (def : Code) → IsOwn (defined c def)
defined_own c (Enumeration literals) = tt
defined_own c (Record components) = tt
defined_own c (Array range m) = tt
defined_own c (Access m) = (refl, refl)
defined_own c def = tt

none_own : (n t : ℕ) → IsOwn (written (replicate n no_type) t)
none_own zero t = tt
none_own (suc n) zero = tt
none_own (suc n) (suc t) = none_own n t

first_own : (count d : ℕ) → 5 ≤ d → IsOwn (written (first_table count) d)
first_own count zero high = absurd (omega (arith, high))
first_own count (suc zero) high = absurd (omega (arith, high))
first_own count (suc (suc zero)) high = absurd (omega (arith, high))
first_own count (suc (suc (suc zero))) high = absurd (omega (arith, high))
first_own count (suc (suc (suc (suc zero)))) high = absurd (omega (arith, high))
first_own count (suc (suc (suc (suc (suc d))))) high = none_own (count - 5) d

in_units : (f : Code → List ℕ) (units : List Code) (u : Code) (d : ℕ) → Has units u → Has (f u) d → Has (flat_map f units) d
in_units f [] u d has there = absurd has
in_units f (v ∷ rest) u d (inl same) there = Has-append_left (f v) (flat_map f rest) d (subst (λ w. Has (f w) d) (sym same) there)
in_units f (v ∷ rest) u d (inr has) there = Has-append_right (f v) (flat_map f rest) d (in_units f rest u d has there)

-- ---- both turns

module _ (p : Program) (are : IsOrderly p) (opens : AllOpen (known_of p) p.units) (apart : AreViewsApart p.units)
    (faultless : (u : Code) → Has p.units u → IsFaultless (known_of p) u) where
  abbrev last : Past
  last = end p are opens

  -- the numbers of anonymous access types
  abbrev pub IsView : ℕ → Type 0
  IsView = Has (flat_map view_numbers p.units)

  parted : (u : Code) → Has p.units u → IsParted IsView u
  parted u has = (
    λ d there. in_units view_numbers p.units u d has there,
    λ d there view. apart d view (in_units named_numbers p.units u d has there),
  )

  abbrev after_first : Table
  after_first = second p are opens

  abbrev begin_home : AtHome at_start (outside (begin p.count after_first))
  begin_home = λ is. absurd (true≢false (sym is))

  kinds_first : (u : Code) → Has p.units u → Kinds after_first u
  kinds_first =
      units_kinds (known_of p) p.count last.awaited (first p are opens) (unlike_first p are opens) after_first p.units at_start (outside (begin p.count (first p are opens)))
      are opens (λ is. absurd (true≢false (sym is))) (λ d is. is) (begin_rows p.count (first p are opens) (begins_first p are opens)) (λ t is. refl)

  based_first : AreBased FirstRule ⊥ IsView (first p are opens) last.awaited last.defined after_first
  based_first =
      units_based (known_of p) p.count last.awaited (first p are opens) (unlike_first p are opens) FirstRule ⊥ (λ f. absurd f) (λ d s. own_plain s)
      (λ d high is. first_own p.count d (omega (arith, high))) IsView (λ f. absurd f) p.units at_start (outside (begin p.count (first p are opens)))
      are opens (λ is. absurd (true≢false (sym is))) (λ d is. is) (begin_rows p.count (first p are opens) (begins_first p are opens)) parted
      (λ u has. allows FirstRule (known_of p) after_first (λ n def k c. defined_own c def) u (kinds_first u has) (faultless u has))
      (λ f. absurd f) (begin_based FirstRule ⊥ IsView (first p are opens) (first_rows p.count))

  abbrev pub Rule : ℕ → Shape → Type 0
  Rule = SecondRule after_first

  abbrev AtEnd : Type 0
  AtEnd = (t : ℕ) → Has last.awaited t → Rule t (written (known_of p).table t)

  unlike_second : (d of : ℕ) → 15 ≤ d → Has last.awaited d → written after_first d ≡ shape.Same of → ⊥
  unlike_second d of high is = (rows_first p are opens).awaited d of is

  starts_second : (d : ℕ) → 15 ≤ d → Has last.awaited d → Rule d (written after_first d)
  starts_second d high is = (based_first.own d (inr (inl is)) (omega (arith, high)) (based_first.waits d is).0, refl)

  steady_second : (d : ℕ) (s u : Shape) → Rule d s → Rule d u → kind s ≡ kind u
  steady_second d s u a b = a.1 ∙ sym b.1

  based_second : AreBased Rule AtEnd IsView after_first last.awaited last.defined (known_from p after_first).table
  unfolding known_of
  based_second =
      units_based (known_of p) p.count last.awaited after_first unlike_second Rule AtEnd (λ f. steady_second) (λ d s r. own_plain s r.0) starts_second IsView
      (λ ends q known m rows within_all leads b scalar same.
      bounded (known_of p) p.count last.awaited after_first Rule AtEnd steady_second (λ d s r. own_plain s r.0) ends q known rows within_all leads IsView b m scalar same)
      p.units at_start (outside (begin p.count after_first)) are opens begin_home (λ d is. is) (begin_rows p.count after_first (begins_second p are opens)) parted
      (λ u has. allows Rule (known_of p) after_first (λ n def k c. (defined_own c def, defined_kind c def ∙ sym k)) u (kinds_first u has) (faultless u has))
      (λ f. record { keeps = λ v is. is; fixed = λ t is. refl }) (begin_based Rule AtEnd IsView after_first (begins_second p are opens).predefined)

  at_end : AtEnd
  unfolding known_of
  at_end t is = based_second.own t (inr (inl is)) (based_second.waits t is).1 (based_second.waits t is).0

  -- how types are based on others after both turns
  pub based : AreBased Rule AtEnd IsView after_first last.awaited last.defined (known_of p).table
  unfolding known_of
  based = based_second

  pub agrees : (t : ℕ) → IsOne last.awaited last.defined t → Agrees (known_of p).table t
  agrees = based.agrees at_end

  -- the kinds of full types are those of their definitions
  pub kinds_last : (u : Code) → Has p.units u → Kinds (known_of p).table u
  unfolding known_of
  kinds_last =
      units_kinds (known_of p) p.count last.awaited after_first unlike_second (known_of p).table p.units at_start (outside (begin p.count after_first))
      are opens begin_home (λ d is. is) (begin_rows p.count after_first (begins_second p are opens)) (λ t is. refl)
