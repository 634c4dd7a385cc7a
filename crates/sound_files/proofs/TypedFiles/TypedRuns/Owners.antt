-- An actual that owns is null, or a name.
use Rattle.std.proofs.Common.{◌≡◌, refl, sym, ◌∙◌, ℕ, Bool, true, false, List, negsuc, if◌then◌else◌}
use Rattle.std.proofs.lemmas.Bool.{false≢true, true≢false}
use Rattle.machine.specs.spark_base.declared.position.Pos.{Pos}
use Rattle.machine.specs.resolved_tree.declared.operator.Operator.{Operator}
use Rattle.machine.specs.resolved_tree.declared.operator.Operator.TheVariants as operator
use Rattle.machine.specs.resolved_tree.declared.operator.UnaryOperator.{UnaryOperator}
use Rattle.machine.specs.resolved_tree.declared.operator.UnaryOperator.TheVariants as unary
use Rattle.machine.specs.resolved_tree.Trees.{Tree, Number, Text, Null, Named, Parens, Unary, Binary, Aggregate, Others, New, position}
use Rattle.machine.specs.type_definitions.declared.judgement.Reading.{Reading}
use Rattle.machine.specs.type_definitions.declared.judgement.Reading.TheVariants as reading
use Rattle.machine.specs.type_definitions.declared.judgement.Where.TheVariants as stands
use Rattle.machine.specs.type_definitions.declared.table.Shape.{Shape}
use Rattle.machine.specs.type_definitions.declared.table.Shape.TheVariants as shape
use Rattle.machine.specs.type_definitions.Types.{Table, full, shape_of, view_of, is_owning, owns_of}
use Rattle.machine.specs.type_definitions.Entries.{entry_of, integer, boolean}
use Rattle.machine.specs.type_definitions.Names.{Context, reading_of}
use Rattle.machine.specs.type_definitions.Statics.{is_alone}
use Rattle.machine.specs.type_definitions.Expressions.{allowed, unary_type, operand_type, is_arithmetic, is_null, is_anonymous, is_object, is_object_name}
use Rattle.machine.specs.typed_tree.Trees.{TypedTree}
use Rattle.machine.specs.typed_tree.Trees as typed
use Rattle.machine.specs.typed_tree.declared.object.Object.{Object}
use Rattle.machine.specs.typed_tree.Expressions.{Site, typed_expression, typed_name, typed_steps, typed_actuals, typed_imaged, called_function, object_type, operands}
use Rattle.machine.specs.flow_paths.Objects.{Typing, Signature}
use Rattle.soundness.specs.TypedLaws.Fine.{Agree, Has, Laws, counts, lists}
use Rattle.soundness.proofs.TypedLaws.Agreeing.{either_left, either_right, agree_counts, agree_lists, scalar_owns}
use Rattle.sound_files.specs.TypedFiles.TypedRuns.Code.{IsName, IsNamedOwner}

module _ (s : Site) (objects : List Object) (subs : List Signature) (made : ℕ → Type 0) (laws : Laws s.context.known made) where
  abbrev y : Typing
  y = record { table = s.context.known.table; objects = objects; subs = subs }

  abbrev table : Table
  table = s.context.known.table

  abbrev c : Context
  c = s.context

  -- ---- values that own nothing

  counted : (t : ℕ) → counts (shape_of table t) ≡ true → is_owning table t ≡ true → ⊥
  counted t is owns = true≢false (sym owns ∙ scalar_owns table t laws.owns (either_left _ _ is))

  listed : (t : ℕ) → lists (shape_of table t) ≡ true → is_owning table t ≡ true → ⊥
  listed t is owns = true≢false (sym owns ∙ scalar_owns table t laws.owns (either_right _ _ is))

  whole_apart : (t : ℕ) → Agree table integer t → is_owning table t ≡ true → ⊥
  whole_apart t agree owns = counted t (agree_counts table integer t agree laws.whole) owns

  truth_apart : (t : ℕ) → Agree table boolean t → is_owning table t ≡ true → ⊥
  truth_apart t agree owns = listed t (agree_lists table boolean t agree laws.listed) owns

  unary_apart : (op : UnaryOperator) (t : ℕ) → Agree table (unary_type op) t → is_owning table t ≡ true → ⊥
  unary_apart unary.Not t agree owns = truth_apart t agree owns
  unary_apart op t agree owns = whole_apart t agree owns

  operator_apart : (b : Bool) (t : ℕ) → Agree table (if b then integer else boolean) t → is_owning table t ≡ true → ⊥
  operator_apart true t agree owns = whole_apart t agree owns
  operator_apart false t agree owns = truth_apart t agree owns

  binary_apart : (op : Operator) (a b : TypedTree) (t : ℕ) → Has y t (typed.Binary op a b) → is_owning table t ≡ true → ⊥
  unfolding Has
  binary_apart op a b t has owns = operator_apart (is_arithmetic op) t has.1 owns

  compared_apart : (equal : Bool) (e : TypedTree) (t : ℕ) → Has y t (typed.IsNull equal e) → is_owning table t ≡ true → ⊥
  unfolding Has
  compared_apart equal e t has owns = truth_apart t has.0 owns

  operands_apart : (op : Operator) (p q : Pos) (m n : Bool) (a b : TypedTree) (t : ℕ) → Has y t (operands op p q m n a b) → is_owning table t ≡ true → ⊥
  unfolding Has
  operands_apart operator.AndThen p q m n a b t has owns = truth_apart t has.0 owns
  operands_apart operator.OrElse p q m n a b t has owns = truth_apart t has.0 owns
  operands_apart operator.Equal p q true n a b t has owns = compared_apart true b t has owns
  operands_apart operator.Equal p q false true a b t has owns = compared_apart true a t has owns
  operands_apart operator.Equal p q false false a b t has owns = binary_apart operator.Equal a b t has owns
  operands_apart operator.NotEqual p q true n a b t has owns = compared_apart false b t has owns
  operands_apart operator.NotEqual p q false true a b t has owns = compared_apart false a t has owns
  operands_apart operator.NotEqual p q false false a b t has owns = binary_apart operator.NotEqual a b t has owns
  operands_apart op p q m n a b t has owns = binary_apart op a b t has owns

  anonymous_owns : (f : ℕ → Bool) (z : Shape) → is_anonymous (view_of z) ≡ true → owns_of f z ≡ false
  anonymous_owns f (shape.Access d k false) e = refl
  anonymous_owns f (shape.Access d k true) e = absurd (false≢true e)
  anonymous_owns f z e = absurd (false≢true e)

  pub anonymous_apart : (t : ℕ) → is_anonymous (full table t) ≡ true → is_owning table t ≡ true → ⊥
  anonymous_apart t is owns = true≢false (sym owns ∙ laws.owns t ∙ anonymous_owns (is_owning table) (shape_of table t) is)

  -- ---- an owning expression where an actual stands

  pub owner_named : (e : Tree) (t : ℕ) → Has y t (typed_expression s t e) → is_owning table t ≡ true → allowed c stands.Actual e ≡ true → IsNamedOwner (typed_expression s t e)
  unfolding typed_expression Has
  owner_named (Null p) t has owns at = tt
  owner_named (Named p d rest) t has owns at =
      by (reading_of c d rest) (typed_steps s (object_type (entry_of c.known d)) rest) (typed_actuals s (called_function (reading_of c d rest)) rest) (typed_imaged s rest) at
    where
      by : (r : Reading) (steps actuals imaged : TypedTree) → (if is_object r then true else false) ≡ true → IsNamedOwner (typed_name s p d r steps actuals imaged)
      by (reading.Place u) steps actuals imaged h = tt
      by reading.Off steps actuals imaged h = tt
      by r steps actuals imaged h = absurd (false≢true h)
  owner_named (Number p n) t has owns at = absurd (counted t has.0 owns)
  owner_named (Text p v) t has owns at = absurd has
  owner_named (Parens p e) t has owns at = absurd (false≢true at)
  owner_named (Unary p op e) t has owns at = absurd (by (is_alone op e) has)
    where
      by : (b : Bool) → Has y t (if b then typed.Number (negsuc 2147483647) else typed.Unary op (typed_expression s (unary_type op) e)) → ⊥
      by true h = counted t h.0 owns
      by false h = unary_apart op t h.0 owns
  owner_named (Binary p op a b) t has owns at =
      absurd (operands_apart op (position a) (position b) (is_null a) (is_null b) (typed_expression s (operand_type op) a) (typed_expression s (operand_type op) b) t has owns)
  owner_named (Aggregate p args) t has owns at = absurd (false≢true at)
  owner_named (Others p e) t has owns at = absurd (false≢true at)
  owner_named (New p m v) t has owns at = absurd (false≢true at)
  owner_named e t has owns at = tt

  -- a name of an object
  pub object_named : (e : Tree) (t : ℕ) → is_object_name c e ≡ true → IsName (typed_expression s t e)
  unfolding typed_expression
  object_named (Named p d rest) t is =
      by (reading_of c d rest) (typed_steps s (object_type (entry_of c.known d)) rest) (typed_actuals s (called_function (reading_of c d rest)) rest) (typed_imaged s rest) is
    where
      by : (r : Reading) (steps actuals imaged : TypedTree) → is_object r ≡ true → IsName (typed_name s p d r steps actuals imaged)
      by (reading.Place u) steps actuals imaged h = tt
      by r steps actuals imaged h = absurd (false≢true h)
  object_named e t is = absurd (false≢true is)
