-- The law: what is lowered from typed expressions reads words of the kinds of its types.
use Rattle.std.proofs.Common.{◌≡◌, refl, sym, ap, ◌∙◌, subst, ℕ, ◌+◌, arith, Bool, true, false, ◌==◌, List, [], ◌∷◌, map, drop, slice_get, Option, Some, None, ℤ, pos, if◌then◌else◌}
use Rattle.std.specs.Prelude.{option_and_then, unsigned_abs, nat_le}
use Rattle.std.proofs.lemmas.Bool.Decides.{nat_tests}
use Rattle.resolved_tree.specs.declared.operator.Operator.{Operator}
use Rattle.resolved_tree.specs.declared.operator.UnaryOperator.{UnaryOperator}
use Rattle.typed_tree.specs.declared.node.ShortCircuit.{ShortCircuit}
use Rattle.typed_tree.specs.Trees.{TypedTree, Name, Component as IntoComponent, Designated, Element, Call, EndOfFile, Parens, NoMore}
use Rattle.typed_tree.specs.Trees as typed
use Rattle.flow_paths.specs.Objects.{object_at, sub_at, is_package_object}
use Rattle.flow_paths.specs.Names.{has_call, waiting}
use Rattle.type_definitions.specs.declared.table.Shape.{Shape}
use Rattle.type_definitions.specs.declared.table.Shape.TheVariants as shape
use Rattle.type_definitions.specs.Types.{Table, shape_of}
use Rattle.type_definitions.specs.Entries.{boolean}
use Rattle.run_values.specs.declared.value.Kind.{Kind}
use Rattle.run_values.specs.declared.value.Kind.TheVariants as sort
use Rattle.run_values.specs.Arithmetic.{is_integer}
use Rattle.machine.specs.Evaluate.{Use, AsValue, AsView}
use Rattle.machine.specs.Typed.{Sort, Whole, Position, Pointer, takes_whole, takes_truth, compares_words, is_not}
use Rattle.run_codes.specs.Codes.{Code, Number, Unary, Binary, Short, IsNull, Waiting, Place}
use Rattle.run_codes.specs.Codes as codes
use Rattle.run_codes.specs.Flat.{Flat, Given, kind_of, kinds, word}
use Rattle.run_codes.specs.Lowered.{Site, offset_of, package_offset, words_before_value, Placed, Lowered, option_map, in_frame, in_packages, object_place, component_of, element_of, designated_of, load, whole_code, sort_of, of_sort, is_taken, loaded, named, waited, unary, binary, short_circuit, null_test, lowered, led, max_position}
use Rattle.run_codes.specs.Related.{IsTable}
use Rattle.run_codes.proofs.Expressions.{and_then_some, map_some}
use Rattle.run_codes.proofs.Places.{impossible, if_some, if_none, some_same, given_same}
use Rattle.handled_runs.specs.Looks.{IsData, IsFront, Looks}
use Rattle.handled_kinds.specs.Kinds.{HasKinds}
use Rattle.handled_kinds.proofs.Parts.{front_first}
use Rattle.handled_kinds.proofs.Steps.{At, no_reads, load_reads, component_at, element_at, designated_at}

module _ (c : Site) (laws : IsTable c.typing.table) (m : Flat) (here taken : List Kind) (has : HasKinds c m.base here taken) where
  abbrev table : Table
  table = c.typing.table

  abbrev IsAt : Placed → Type 0
  IsAt p = At table laws m here taken p.place p.of

  -- What is lowered reads words of its kind.
  abbrev pub IsRead : Lowered → Type 0
  IsRead l = Looks m here taken l.code (kind_of l.sort)

  -- ---- objects

  zero_word : (o : ℤ) → Given (pos 0) ≡ Given o → unsigned_abs o ≡ 0
  zero_word o e = ap unsigned_abs (sym (given_same (pos 0) o e))

  pub object_at_place : (x : ℕ) (p : Placed) → object_place c x ≡ Some p → IsAt p
  unfolding word
  object_at_place x p is = by (is_package_object c.typing x) refl is
    where
      by : (b : Bool) → is_package_object c.typing x ≡ b
          → (if b then option_map (in_packages (object_at c.typing x).of) (package_offset c x) else option_map (in_frame (object_at c.typing x).of) (offset_of c x)) ≡ Some p → IsAt p
      by true declared e =
          let on = map_some (in_packages (object_at c.typing x).of) (package_offset c x) p e in
          subst IsAt on.2 (
            no_reads table laws m here taken,
            λ o f. (let none = zero_word o f in
                let same : on.0 + unsigned_abs o ≡ on.0 = omega (arith, none) in
                subst (λ i. IsFront (kinds table (object_at c.typing x).of) (drop i here)) (sym same) (has.packages x on.0 on.1 declared)),
          )
      by false own e =
          let on = map_some (in_frame (object_at c.typing x).of) (offset_of c x) p e in
          subst IsAt on.2 (
            no_reads table laws m here taken,
            λ o f. (let none = zero_word o f in
                let same : m.base + on.0 + unsigned_abs o ≡ m.base + on.0 = omega (arith, none) in
                subst (λ i. IsFront (kinds table (object_at c.typing x).of) (drop i here)) (sym same) (has.own x on.0 on.1)),
          )

  -- ---- one word

  sort_kinds : (t : ℕ) (s : Sort) → sort_of (shape_of table t) ≡ Some s → kinds table t ≡ kind_of s ∷ []
  sort_kinds t s is = by (shape_of table t) refl is
    where
      by : (sh : Shape) → shape_of table t ≡ sh → sort_of sh ≡ Some s → kinds table t ≡ kind_of s ∷ []
      by (shape.Whole low high) shape_is e = ap (map kind_of) (laws.whole t low high shape_is) ∙ ap (λ x. kind_of x ∷ []) (some_same Whole s e)
      by (shape.Listed literals low high) shape_is e = ap (map kind_of) (laws.listed t low high literals shape_is) ∙ ap (λ x. kind_of x ∷ []) (some_same Position s e)
      by (shape.Access d constant named) shape_is e = ap (map kind_of) (laws.access t d constant named shape_is) ∙ ap (λ x. kind_of x ∷ []) (some_same (Pointer d) s e)
      by (shape.Fields components) shape_is e = impossible s e
      by (shape.Elements low high element) shape_is e = impossible s e
      by (shape.Same of) shape_is e = impossible s e

  loaded_reads : (p : Placed) (st : Option Sort) (l : Lowered) → sort_of (shape_of table p.of) ≡ st → IsAt p → loaded p.place st ≡ Some l → IsRead l
  loaded_reads p None l is at e = impossible l e
  loaded_reads p (Some s) l is at e =
      subst IsRead (some_same (record { code = load (kind_of s) p.place; sort = s }) l e) (load_reads table laws m here taken p.place p.of (kind_of s) (sort_kinds p.of s is) at)

  named_reads : (u : Use) (p : Placed) (l : Lowered) → IsAt p → named table u p ≡ Some l → IsRead l
  named_reads u p l at e =
      let on = if_none (is_taken table u p.of) (loaded p.place (sort_of (shape_of table p.of))) l e in loaded_reads p (sort_of (shape_of table p.of)) l refl at on.1

  same_number : (a b : ℕ) → (a == b) ≡ true → a ≡ b
  same_number a b e = grind (arith, nat_tests)

  -- the value that waits
  abbrev is_that : ℕ → Option ℕ → Bool
  is_that t None = false
  is_that t (Some u) = u == t

  waited_reads : (k t : ℕ) (l : Lowered) → waited c k t ≡ Some l → IsRead l
  unfolding Looks
  waited_reads k t l is = by (slice_get c.takes k) refl is
    where
      one : (u : ℕ) → slice_get c.takes k ≡ Some u → (if u == t then option_map (λ s. record { code = Waiting (words_before_value c k); sort = s }) (sort_of (shape_of table t)) else None) ≡ Some l → IsRead l
      one u found e =
          let sure = if_some (u == t) (option_map (λ s. record { code = Waiting (words_before_value c k); sort = s }) (sort_of (shape_of table t))) l e in
          let on = map_some (λ s. record { code = Waiting (words_before_value c k); sort = s }) (sort_of (shape_of table t)) l sure.1 in
          let same = same_number u t sure.0 in
          let front : IsFront (kind_of on.0 ∷ []) (drop (words_before_value c k) taken)
          = subst (λ ks. IsFront ks (drop (words_before_value c k) taken)) (sort_kinds t on.0 on.1) (subst (λ v. IsFront (kinds table v) (drop (words_before_value c k) taken)) same (has.waits k u found)) in
          subst IsRead on.2 (front_first taken (words_before_value c k) (kind_of on.0) front)

      by : (x : Option ℕ) → slice_get c.takes k ≡ x
          → (if is_that t x then option_map (λ s. record { code = Waiting (words_before_value c k); sort = s }) (sort_of (shape_of table t)) else None) ≡ Some l → IsRead l
      by None found e = impossible l e
      by (Some u) found e = one u found e

  -- ---- operators

  unary_reads : (op : UnaryOperator) (a : Lowered) (l : Lowered) → unary op a ≡ Some l → IsRead a → IsRead l
  unfolding Looks
  unary_reads op a l is reads = by a.sort reads is
    where
      by : (s : Sort) → Looks m here taken a.code (kind_of s) → unary op (record { code = a.code; sort = s }) ≡ Some l → IsRead l
      by Whole reads e =
          let on = if_none (is_not op) (of_sort (Unary op a.code) Whole) l e in
          subst IsRead (some_same (record { code = Unary op a.code; sort = Whole }) l on.1) (tt, sort.Int, tt, reads)
      by Position reads e =
          let on = if_some (is_not op) (of_sort (Unary op a.code) Position) l e in
          subst IsRead (some_same (record { code = Unary op a.code; sort = Position }) l on.1) (tt, sort.Enum, tt, reads)
      by (Pointer d) reads e = impossible l e

  two : (op : Operator) (first second other : Bool) (a b : Code) (s w : Sort) (l : Lowered)
      → (if first then of_sort (Binary op a b) s else (if other then of_sort (Binary op a b) w else None)) ≡ Some l → IsData (kind_of s) → IsData (kind_of w)
      → ((j : Kind) × IsData j × Looks m here taken a j) → ((j : Kind) × IsData j × Looks m here taken b j) → IsRead l
  unfolding Looks
  two op true second other a b s w l e data_s data_w reads_a reads_b = subst IsRead (some_same (record { code = Binary op a b; sort = s }) l e) (data_s, reads_a, reads_b)
  two op false second true a b s w l e data_s data_w reads_a reads_b = subst IsRead (some_same (record { code = Binary op a b; sort = w }) l e) (data_w, reads_a, reads_b)
  two op false second false a b s w l e data_s data_w reads_a reads_b = impossible l e

  binary_reads : (op : Operator) (a b l : Lowered) → binary op a b ≡ Some l → IsRead a → IsRead b → IsRead l
  binary_reads op a b l is reads_a reads_b = by a.sort b.sort reads_a reads_b is
    where
      by : (s w : Sort) → Looks m here taken a.code (kind_of s) → Looks m here taken b.code (kind_of w) → binary op (record { code = a.code; sort = s }) (record { code = b.code; sort = w }) ≡ Some l → IsRead l
      by Whole Whole reads_a reads_b e = two op (takes_whole op) true (compares_words op) a.code b.code Whole Position l e tt tt (sort.Int, tt, reads_a) (sort.Int, tt, reads_b)
      by Position Position reads_a reads_b e = two op (takes_truth op) true (compares_words op) a.code b.code Position Position l e tt tt (sort.Enum, tt, reads_a) (sort.Enum, tt, reads_b)
      by Whole Position reads_a reads_b e = impossible l e
      by Whole (Pointer d) reads_a reads_b e = impossible l e
      by Position Whole reads_a reads_b e = impossible l e
      by Position (Pointer d) reads_a reads_b e = impossible l e
      by (Pointer d) Whole reads_a reads_b e = impossible l e
      by (Pointer d) Position reads_a reads_b e = impossible l e
      by (Pointer d) (Pointer f) reads_a reads_b e = impossible l e

  short_reads : (op : ShortCircuit) (a b l : Lowered) → short_circuit op a b ≡ Some l → IsRead a → IsRead b → IsRead l
  unfolding Looks
  short_reads op a b l is reads_a reads_b = by a.sort b.sort reads_a reads_b is
    where
      by : (s w : Sort) → Looks m here taken a.code (kind_of s) → Looks m here taken b.code (kind_of w) → short_circuit op (record { code = a.code; sort = s }) (record { code = b.code; sort = w }) ≡ Some l → IsRead l
      by Position Position reads_a reads_b e = subst IsRead (some_same (record { code = Short op a.code b.code; sort = Position }) l e) (tt, (sort.Enum, tt, reads_a), (sort.Enum, tt, reads_b))
      by Whole Whole reads_a reads_b e = impossible l e
      by Whole Position reads_a reads_b e = impossible l e
      by Whole (Pointer d) reads_a reads_b e = impossible l e
      by Position Whole reads_a reads_b e = impossible l e
      by Position (Pointer d) reads_a reads_b e = impossible l e
      by (Pointer d) Whole reads_a reads_b e = impossible l e
      by (Pointer d) Position reads_a reads_b e = impossible l e
      by (Pointer d) (Pointer f) reads_a reads_b e = impossible l e

  null_reads : (equal : Bool) (a l : Lowered) → null_test equal a ≡ Some l → IsRead a → IsRead l
  unfolding Looks
  null_reads equal a l is reads = by a.sort reads is
    where
      by : (s : Sort) → Looks m here taken a.code (kind_of s) → null_test equal (record { code = a.code; sort = s }) ≡ Some l → IsRead l
      by (Pointer d) reads e = subst IsRead (some_same (record { code = IsNull equal a.code; sort = Position }) l e) (tt, reads)
      by Whole reads e = impossible l e
      by Position reads e = impossible l e

  whole_reads : (l : Lowered) (i : Code) → whole_code l ≡ Some i → IsRead l → Looks m here taken i sort.Int
  whole_reads l i is reads = by l.sort reads is
    where
      by : (s : Sort) → Looks m here taken l.code (kind_of s) → whole_code (record { code = l.code; sort = s }) ≡ Some i → Looks m here taken i sort.Int
      by Whole reads e = subst (λ x. Looks m here taken x sort.Int) (some_same l.code i e) reads
      by Position reads e = impossible i e
      by (Pointer d) reads e = impossible i e

  number_reads : (z : ℤ) (s : Sort) (l : Lowered) → IsData (kind_of s) → of_sort (Number z) s ≡ Some l → IsRead l
  unfolding Looks
  number_reads z Whole l is e = subst IsRead (some_same (record { code = Number z; sort = Whole }) l e) tt
  number_reads z Position l is e = subst IsRead (some_same (record { code = Number z; sort = Position }) l e) tt
  number_reads z (Pointer d) l is e = absurd is

  end_reads : (l : Lowered) → of_sort codes.EndOfFile Position ≡ Some l → IsRead l
  unfolding Looks
  end_reads l e = subst IsRead (some_same (record { code = codes.EndOfFile; sort = Position }) l e) tt

  -- ---- the law

  short_by : (op : ShortCircuit) (k : ℕ) (a b : TypedTree) (l : Lowered) (called : Bool)
      → (if called then waited c k boolean else option_and_then (λ l. option_and_then (short_circuit op l) (lowered c (k + waiting a) AsValue b)) (lowered c k AsValue a)) ≡ Some l
      → ((la : Lowered) → lowered c k AsValue a ≡ Some la → IsRead la) → ((lb : Lowered) → lowered c (k + waiting a) AsValue b ≡ Some lb → IsRead lb) → IsRead l
  short_by op k a b l true is on_a on_b = waited_reads k boolean l is
  short_by op k a b l false is on_a on_b =
      let la = and_then_some (λ l. option_and_then (short_circuit op l) (lowered c (k + waiting a) AsValue b)) (lowered c k AsValue a) l is in
      let lb = and_then_some (short_circuit op la.0) (lowered c (k + waiting a) AsValue b) l la.2 in
      short_reads op la.0 lb.0 l lb.2 (on_a la.0 la.1) (on_b lb.0 lb.1)

  mutual
    unfolding lowered led

    pub lowered_reads : (e : TypedTree) (k : ℕ) (u : Use) (l : Lowered) → lowered c k u e ≡ Some l → IsRead l
    lowered_reads (typed.Number v) k u l is = let on = if_some (is_integer v) (of_sort (Number v) Whole) l is in number_reads v Whole l tt on.1
    lowered_reads (typed.Literal n) k u l is = let on = if_some (nat_le n max_position) (of_sort (Number (pos n)) Position) l is in number_reads (pos n) Position l tt on.1
    lowered_reads (Name p x steps t) k u l is =
        let by : Placed → Option Lowered = λ q. if q.of == t then named table u q else None in
        let q = and_then_some by (option_and_then (λ q. led c k q steps) (object_place c x)) l is in
        let from = and_then_some (λ q. led c k q steps) (object_place c x) q.0 q.1 in
        let sure = if_some (q.0.of == t) (named table u q.0) l q.2 in
        named_reads u q.0 l (led_at steps k from.0 q.0 from.2 (object_at_place x from.0 from.1)) sure.1
    lowered_reads (Call p sub actuals) k u l is = let t = and_then_some (waited c k) (sub_at c.typing sub).result l is in waited_reads k t.0 l t.2
    lowered_reads EndOfFile k u l is = end_reads l is
    lowered_reads (Parens e) k u l is = lowered_reads e k AsValue l is
    lowered_reads (typed.Unary op e) k u l is = let a = and_then_some (unary op) (lowered c k AsValue e) l is in unary_reads op a.0 l a.2 (lowered_reads e k AsValue a.0 a.1)
    lowered_reads (typed.Binary op a b) k u l is =
        let la = and_then_some (λ l. option_and_then (binary op l) (lowered c (k + waiting a) AsValue b)) (lowered c k AsValue a) l is in
        let lb = and_then_some (binary op la.0) (lowered c (k + waiting a) AsValue b) l la.2 in
        binary_reads op la.0 lb.0 l lb.2 (lowered_reads a k AsValue la.0 la.1) (lowered_reads b (k + waiting a) AsValue lb.0 lb.1)
    lowered_reads (typed.Short op p a q b) k u l is =
        short_by op k a b l (has_call b) is (λ la e. lowered_reads a k AsValue la e) (λ lb e. lowered_reads b (k + waiting a) AsValue lb e)
    lowered_reads (typed.IsNull equal e) k u l is =
        let a = and_then_some (null_test equal) (lowered c k AsView e) l is in null_reads equal a.0 l a.2 (lowered_reads e k AsView a.0 a.1)
    lowered_reads _ k u l is = impossible l is

    pub led_at : (steps : TypedTree) (k : ℕ) (p q : Placed) → led c k p steps ≡ Some q → IsAt p → IsAt q
    led_at (IntoComponent i rest) k p q is at =
        let on = and_then_some (λ r. led c k r rest) (component_of table i p) q is in led_at rest k on.0 q on.2 (component_at table laws m here taken i p on.0 on.1 at)
    led_at (Element index low high rest) k p q is at =
        let by : Code → Option Placed = λ i. option_and_then (λ r. led c (k + waiting index) r rest) (element_of table i low high p) in
        let i = and_then_some by (option_and_then whole_code (lowered c k AsValue index)) q is in
        let l = and_then_some whole_code (lowered c k AsValue index) i.0 i.1 in
        let on = and_then_some (λ r. led c (k + waiting index) r rest) (element_of table i.0 low high p) q i.2 in
        led_at rest (k + waiting index) on.0 q on.2 (element_at table laws m here taken i.0 low high p on.0 on.1 (whole_reads l.0 i.0 l.2 (lowered_reads index k AsValue l.0 l.1)) at)
    led_at (Designated rest) k p q is at =
        let on = and_then_some (λ r. led c k r rest) (designated_of table p) q is in led_at rest k on.0 q on.2 (designated_at table laws m here taken p on.0 on.1 at)
    led_at NoMore k p q is at = subst IsAt (some_same p q is) at
    led_at _ k p q is at = impossible q is
