-- The initial values of package objects name no object of an owning type: a sentence of typing forbids it.
use Rattle.std.proofs.Common.{◌≡◌, refl, ap, ◌∙◌, subst, ℕ, ◌+◌, Bool, true, false, not, ◌&&◌, nat_eq, List, [], ◌∷◌, ◌++◌, map, ℤ, if◌then◌else◌}
use Rattle.std.specs.List.{AllByRecursion}
use Rattle.std.proofs.lemmas.Bool.{false≢true}
use Rattle.machine.specs.spark_base.declared.position.Pos.{Pos}
use Rattle.machine.specs.resolved_tree.declared.operator.Operator.{Operator}
use Rattle.machine.specs.resolved_tree.declared.operator.Operator.TheVariants as operator
use Rattle.machine.specs.resolved_tree.Trees.{Tree, Number, Text, Named, Parens, Unary, Binary, Aggregate, Others, New, Selected, All, Applied, Attr, Argument, position}
use Rattle.machine.specs.resolved_tree.Trees as resolved
use Rattle.machine.specs.type_definitions.declared.judgement.Fault.{Fault}
use Rattle.machine.specs.type_definitions.declared.judgement.View.{View}
use Rattle.machine.specs.type_definitions.declared.judgement.View.TheVariants as view
use Rattle.machine.specs.type_definitions.declared.judgement.Next.{Next}
use Rattle.machine.specs.type_definitions.declared.judgement.Next.TheVariants.{Goes, Gives, Stops}
use Rattle.machine.specs.type_definitions.declared.judgement.Reading.{Reading}
use Rattle.machine.specs.type_definitions.declared.judgement.Reading.TheVariants as reading
use Rattle.machine.specs.type_definitions.declared.judgement.Role.{Role}
use Rattle.machine.specs.type_definitions.declared.judgement.Way.{Way}
use Rattle.machine.specs.type_definitions.declared.table.Entry.{Entry}
use Rattle.machine.specs.type_definitions.declared.table.Entry.TheVariants as entry
use Rattle.machine.specs.type_definitions.Types.{is_owning}
use Rattle.machine.specs.type_definitions.Faults.{demand}
use Rattle.machine.specs.type_definitions.Entries.{entry_of, integer}
use Rattle.machine.specs.type_definitions.Names.{Context, seen, step, through, led_on, along, of_type, of_entry, reading_of}
use Rattle.machine.specs.type_definitions.Statics.{is_alone}
use Rattle.machine.specs.type_definitions.Expressions.{Given, all_by_position, root_owning, reading_faults, given_names, call_arguments, way_of, onward, around, around_parens, around_operands, around_role, is_loose, role_type, aggregates, parts_role, repeats, repeated_type, mark_faults, inside, arguments, within_suffix, behind, unary_type, operand_type, is_null}
use Rattle.machine.specs.type_definitions.declared.judgement.Where.TheVariants as stands
use Rattle.machine.specs.type_definitions.Gathered.{natural_of}
use Rattle.machine.specs.typed_tree.Trees.{TypedTree, typed_list}
use Rattle.machine.specs.typed_tree.Trees as typed
use Rattle.machine.specs.typed_tree.Expressions.{Site, object_number, number, value_of_type, designating, element, typed_name, operands, has_name, named_value, arranged, typed_expression, typed_steps, typed_step, typed_actuals, typed_imaged, typed_first, typed_values}
use Rattle.machine.specs.flow_paths.Objects.{Typing, object_at}
use Rattle.settled_types.specs.OrderLaws.ScopeLaws.Code.{roots}
use Rattle.settled_types.proofs.OrderLaws.ScopeLaws.Lists.{and_first, and_second, both_true}
use Rattle.settled_types.specs.OrderLaws.ReadyLaws.InOrder.{own_nothing}
use Rattle.settled_types.proofs.OrderLaws.Mains.{nothing_left, nothing_right, demanded}

-- ---- readings don't depend on where a name stands

abbrev pub with_starts : Bool → Context → Context
with_starts b c = record c { starts = b }

step_same : (b : Bool) (c : Context) (a : Tree) (t : ℕ) → step (with_starts b c) a t ≡ step c a t
unfolding step seen
step_same b c (Selected w) t = refl
step_same b c (Applied args) t = refl
step_same b c All t = refl
step_same b c (Attr a) t = refl
step_same b c _ t = refl

led_same : (f g : ℕ → Reading) → ((u : ℕ) → f u ≡ g u) → (rest : Tree) (n : Next) → led_on f rest n ≡ led_on g rest n
led_same f g same rest (Goes t) = same t
led_same f g same rest (Gives v) = refl
led_same f g same rest Stops = refl

along_same : (b : Bool) (c : Context) (rest : Tree) (t : ℕ) → along (with_starts b c) t rest ≡ along c t rest
unfolding along
along_same b c (resolved.More s rest) t =
    ap (led_on (λ u. along (with_starts b c) u rest) rest) (step_same b c s t)
    ∙ led_same (λ u. along (with_starts b c) u rest) (λ u. along c u rest) (along_same b c rest) rest (step c s t)
along_same b c _ t = refl

type_same : (b : Bool) (c : Context) (d : ℕ) (rest : Tree) → of_type (with_starts b c) d rest ≡ of_type c d rest
unfolding seen
type_same b c d (resolved.More (Attr a) rest) = refl
type_same b c d _ = refl

reading_same : (b : Bool) (c : Context) (d : ℕ) (rest : Tree) → reading_of (with_starts b c) d rest ≡ reading_of c d rest
unfolding reading_of
reading_same b c d rest = by_entry (entry_of c.known d)
  where
    by_entry : (e : Entry) → of_entry (with_starts b c) d e rest ≡ of_entry c d e rest
    by_entry (entry.Object o) = along_same b c rest o.of
    by_entry (entry.Subprogram p) = refl
    by_entry (entry.Literal t n) = refl
    by_entry entry.Type = type_same b c d rest
    by_entry (entry.Predefined p) = refl
    by_entry entry.Nothing = refl
    by_entry entry.Package = refl
    by_entry (entry.Instance t) = refl

-- ---- expressions

not_owning : (x y : Bool) → x ≡ true → not (x && y) ≡ true → y ≡ false
not_owning true true e f = absurd (false≢true f)
not_owning true false e f = refl
not_owning false y e f = absurd (false≢true e)

never : (x : Bool) → x ≡ true → not x ≡ true → ⊥
never true e f = false≢true f
never false e f = false≢true e

module _ (own : Typing) (s : Site) (b : Bool) (started : b ≡ true)
    (plain : (d : ℕ) → root_owning s.context.known (entry_of s.context.known d) ≡ false → is_owning own.table (object_at own (object_number s d)).of ≡ false) where
  abbrev c : Context
  c = with_starts b s.context

  abbrev pub OwnsNone : TypedTree → Type 0
  OwnsNone e = own_nothing own (roots e) ≡ true

  none_both : (xs ys : List ℕ) → own_nothing own xs ≡ true → own_nothing own ys ≡ true → own_nothing own (xs ++ ys) ≡ true
  none_both [] ys h g = g
  none_both (x ∷ xs) ys h g =
      both_true (not (is_owning own.table (object_at own x).of)) (own_nothing own (xs ++ ys)) (and_first (not (is_owning own.table (object_at own x).of)) (own_nothing own xs) h)
      (none_both xs ys (and_second (not (is_owning own.table (object_at own x).of)) (own_nothing own xs) h) g)

  list_none : (vs : List TypedTree) → AllByRecursion OwnsNone vs → OwnsNone (typed_list vs)
  unfolding roots
  list_none [] h = refl
  list_none (v ∷ vs) h = none_both (roots v) (roots (typed_list vs)) h.0 (list_none vs h.1)

  value_none : (w : List ℕ) (given : List Given) (vs : List TypedTree) → AllByRecursion OwnsNone vs → OwnsNone (named_value w given vs)
  unfolding roots
  value_none w [] vs h = refl
  value_none w (g ∷ given) [] h = refl
  value_none w (g ∷ given) (v ∷ vs) h = by_name (has_name w g) (value_none w given vs h.1)
    where
      by_name : (x : Bool) → OwnsNone (named_value w given vs) → OwnsNone (if x then v else named_value w given vs)
      by_name true later = h.0
      by_name false later = later

  values_named : (names : List (List ℕ)) (given : List Given) (vs : List TypedTree) → AllByRecursion OwnsNone vs
      → AllByRecursion OwnsNone (map (λ w. named_value w given vs) names)
  values_named [] given vs h = tt
  values_named (w ∷ names) given vs h = (value_none w given vs h, values_named names given vs h)

  arranged_none : (names : List (List ℕ)) (given : List Given) (vs : List TypedTree) → AllByRecursion OwnsNone vs → OwnsNone (arranged names given vs)
  arranged_none names given vs h = by_position (all_by_position given)
    where
      by_position : (x : Bool) → OwnsNone (typed_list (if x then vs else map (λ w. named_value w given vs) names))
      by_position true = list_none vs h
      by_position false = list_none (map (λ w. named_value w given vs) names) (values_named names given vs h)

  operands_none : (op : Operator) (p q : Pos) (l r : Bool) (x y : TypedTree) → OwnsNone x → OwnsNone y → OwnsNone (operands op p q l r x y)
  unfolding roots
  operands_none operator.AndThen p q l r x y h g = none_both (roots x) (roots y) h g
  operands_none operator.OrElse p q l r x y h g = none_both (roots x) (roots y) h g
  operands_none operator.Equal p q true r x y h g = g
  operands_none operator.Equal p q false true x y h g = h
  operands_none operator.Equal p q false false x y h g = none_both (roots x) (roots y) h g
  operands_none operator.NotEqual p q true r x y h g = g
  operands_none operator.NotEqual p q false true x y h g = h
  operands_none operator.NotEqual p q false false x y h g = none_both (roots x) (roots y) h g
  operands_none _ p q l r x y h g = none_both (roots x) (roots y) h g

  designating_none : (v : View) (e : TypedTree) → OwnsNone e → OwnsNone (designating v e)
  unfolding roots
  designating_none (view.Access d constant named) e h = h
  designating_none _ e h = h

  element_none : (v : View) (index e : TypedTree) → OwnsNone index → OwnsNone e → OwnsNone (element v index e)
  unfolding roots
  element_none (view.Elements low high of) index e h g = none_both (roots index) (roots e) h g
  element_none _ index e h g = g

  number_none : (t : ℕ) (v : ℤ) → OwnsNone (value_of_type t v)
  unfolding roots
  number_none t v = by_type (nat_eq t integer)
    where
      by_type : (x : Bool) → OwnsNone (if x then number v else typed.Literal (natural_of v))
      by_type true = refl
      by_type false = refl

  -- what a name is
  name_none : (p : Pos) (d : ℕ) (loose : Bool) (given : List Given) (r : Reading) (steps actuals imaged : TypedTree) → reading_faults c p d loose given r ≡ []
      → OwnsNone steps → OwnsNone imaged → OwnsNone (typed_name s p d r steps actuals imaged)
  unfolding roots
  name_none p d loose given reading.Off steps actuals imaged faults h g = refl
  name_none p d loose given (reading.Place t) steps actuals imaged faults h g =
      both_true (not (is_owning own.table (object_at own (object_number s d)).of)) (own_nothing own (roots steps))
      (ap not (plain d (not_owning b (root_owning s.context.known (entry_of s.context.known d)) started
      (demanded 8 p (not (b && root_owning s.context.known (entry_of s.context.known d))) faults)))) h
  name_none p d loose given (reading.Value t v) steps actuals imaged faults h g = number_none t v
  name_none p d loose given (reading.Call f) steps actuals imaged faults h g =
      absurd (never b started (demanded 8 p (not b) (nothing_left (demand 8 p (not b)) _ faults)))
  name_none p d loose given (reading.Image t) steps actuals imaged faults h g = g
  name_none p d loose given reading.EndOfFile steps actuals imaged faults h g = refl

  if_none : (x : Bool) (fs : List Fault) (y z : TypedTree) → (if x then [] else fs) ≡ [] → OwnsNone y → (fs ≡ [] → OwnsNone z) → OwnsNone (if x then y else z)
  if_none true fs y z e h g = h
  if_none false fs y z e h g = g e

  mutual
    unfolding inside arguments within_suffix behind typed_expression typed_steps typed_step typed_actuals typed_imaged typed_first typed_values roots

    pub expression_none : (e : Tree) (want wanted : ℕ) (loose : Bool) → inside c loose wanted e ≡ [] → OwnsNone (typed_expression s want e)
    expression_none (Number p n) want wanted loose faults = refl
    expression_none (Text p t) want wanted loose faults = refl
    expression_none (Named p d rest) want wanted loose faults =
        let given : List Given = given_names (call_arguments rest) in
        let way : Way = way_of s.context.known d (entry_of s.context.known d) in
        let later : behind c way rest ≡ [] = nothing_right (reading_faults c p d loose given (reading_of c d rest)) (behind c way rest) faults in
        name_none p d loose given (reading_of s.context d rest) _ _ (typed_imaged s rest)
        (subst (λ r. reading_faults c p d loose given r ≡ []) (reading_same b s.context d rest)
        (nothing_left (reading_faults c p d loose given (reading_of c d rest)) (behind c way rest) faults))
        (steps_none rest _ way later) (imaged_none rest way later)
    expression_none (Parens p e) want wanted loose faults =
        expression_none e want wanted false (nothing_right (around_parens c p wanted e) (inside c false wanted e) faults)
    expression_none (Unary p op e) want wanted loose faults =
        let fs : List Fault = around c stands.Elsewhere (unary_type op) e ++ inside c false (unary_type op) e in
        if_none (is_alone op e) fs _ (typed.Unary op (typed_expression s (unary_type op) e)) faults refl
        (λ none. expression_none e (unary_type op) (unary_type op) false (nothing_right (around c stands.Elsewhere (unary_type op) e) (inside c false (unary_type op) e) none))
    expression_none (Binary p op x y) want wanted loose faults =
        let both : inside c false (operand_type op) x ++ inside c false (operand_type op) y ≡ [] =
        nothing_right (around_operands c p op x y) (inside c false (operand_type op) x ++ inside c false (operand_type op) y) faults in
        operands_none op (position x) (position y) (is_null x) (is_null y) (typed_expression s (operand_type op) x) (typed_expression s (operand_type op) y)
        (expression_none x (operand_type op) (operand_type op) false (nothing_left (inside c false (operand_type op) x) (inside c false (operand_type op) y) both))
        (expression_none y (operand_type op) (operand_type op) false (nothing_right (inside c false (operand_type op) x) (inside c false (operand_type op) y) both))
    expression_none (Aggregate p args) want wanted loose faults =
        arranged_none _ (given_names args) _
        (values_none args (parts_role c wanted) _ 0 0 (nothing_right (demand 4 p (aggregates c wanted (given_names args))) (arguments c (parts_role c wanted) 0 args) faults))
    expression_none (Others p e) want wanted loose faults =
        let inner : around c stands.AfterOthers (repeated_type c wanted) e ++ inside c false (repeated_type c wanted) e ≡ [] =
        nothing_right (demand 4 p (repeats c wanted)) (around c stands.AfterOthers (repeated_type c wanted) e ++ inside c false (repeated_type c wanted) e) faults in
        expression_none e _ (repeated_type c wanted) false (nothing_right (around c stands.AfterOthers (repeated_type c wanted) e) (inside c false (repeated_type c wanted) e) inner)
    expression_none (New p m v) want wanted loose faults =
        list_none _ (values_none v _ _ 0 0 (nothing_right (mark_faults s.context.known m) _ faults))
    expression_none _ want wanted loose faults = refl

    values_none : (args : Tree) (role for : Role) (i j : ℕ) → arguments c role i args ≡ [] → AllByRecursion OwnsNone (typed_values s for j args)
    values_none (Argument w e rest) role for i j faults =
        let more : inside c (is_loose c role i w) (role_type c role i w) e ++ arguments c role (i + 1) rest ≡ [] =
        nothing_right (around_role c role i w e) (inside c (is_loose c role i w) (role_type c role i w) e ++ arguments c role (i + 1) rest) faults in (
          expression_none e _ (role_type c role i w) (is_loose c role i w)
              (nothing_left (inside c (is_loose c role i w) (role_type c role i w) e) (arguments c role (i + 1) rest) more),
          values_none rest role for (i + 1) (j + 1) (nothing_right (inside c (is_loose c role i w) (role_type c role i w) e) (arguments c role (i + 1) rest) more),
        )
    values_none _ role for i j faults = tt

    first_none : (args : Tree) (want : ℕ) (role : Role) (i : ℕ) → arguments c role i args ≡ [] → OwnsNone (typed_first s want args)
    first_none (Argument w e rest) want role i faults =
        expression_none e want (role_type c role i w) (is_loose c role i w)
        (nothing_left (inside c (is_loose c role i w) (role_type c role i w) e) (arguments c role (i + 1) rest)
        (nothing_right (around_role c role i w e) (inside c (is_loose c role i w) (role_type c role i w) e ++ arguments c role (i + 1) rest) faults))
    first_none _ want role i faults = refl

    steps_none : (rest : Tree) (t : ℕ) (way : Way) → behind c way rest ≡ [] → OwnsNone (typed_steps s t rest)
    steps_none (resolved.More a more) t way faults =
        step_none a t way _ (nothing_left (within_suffix c way a) (behind c (onward c a way) more) faults)
        (steps_none more _ (onward c a way) (nothing_right (within_suffix c way a) (behind c (onward c a way) more) faults))
    steps_none _ t way faults = refl

    step_none : (a : Tree) (t : ℕ) (way : Way) (e : TypedTree) → within_suffix c way a ≡ [] → OwnsNone e → OwnsNone (typed_step s t a e)
    step_none (Selected w) t way e faults h = designating_none (seen s.context t) (typed.Component _ e) h
    step_none All t way e faults h = h
    step_none (Applied args) t way e faults h =
        designating_none (seen s.context t) _ (element_none (seen s.context (through (seen s.context t) t)) (typed_first s integer args) e (first_none args integer _ 0 faults) h)
    step_none _ t way e faults h = h

    imaged_none : (rest : Tree) (way : Way) → behind c way rest ≡ [] → OwnsNone (typed_imaged s rest)
    imaged_none (resolved.More a (resolved.More (Applied args) rest)) way faults =
        first_none args integer _ 0
        (nothing_left (within_suffix c (onward c a way) (Applied args)) (behind c (onward c (Applied args) (onward c a way)) rest)
        (nothing_right (within_suffix c way a) (behind c (onward c a way) (resolved.More (Applied args) rest)) faults))
    imaged_none _ way faults = refl
