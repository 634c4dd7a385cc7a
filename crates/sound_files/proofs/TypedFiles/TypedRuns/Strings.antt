-- String expressions.
use Rattle.std.proofs.Common.{◌≡◌, refl, sym, ap, ◌∙◌, subst, ℕ, true, false, List, [], ◌++◌, None}
use Rattle.std.proofs.lemmas.Bool.{false≢true}
use Rattle.machine.specs.resolved_tree.declared.operator.Operator.{Operator}
use Rattle.machine.specs.resolved_tree.declared.operator.Operator.TheVariants as operator
use Rattle.machine.specs.resolved_tree.Trees.{Tree, Number, Text, Named, Parens, Unary, Binary, Applied, Attr, Argument, NoMore, More, position}
use Rattle.machine.specs.type_definitions.declared.table.Entry.TheVariants as entry
use Rattle.machine.specs.type_definitions.declared.judgement.Own.TheVariants as own
use Rattle.machine.specs.type_definitions.declared.judgement.Reading.{Reading}
use Rattle.machine.specs.type_definitions.declared.judgement.Reading.TheVariants as reading
use Rattle.machine.specs.type_definitions.declared.judgement.Role.TheVariants as role
use Rattle.machine.specs.type_definitions.declared.judgement.Where.TheVariants as stands
use Rattle.machine.specs.type_definitions.Types.{base, full, is_scalar}
use Rattle.machine.specs.type_definitions.Entries.{entry_of}
use Rattle.machine.specs.type_definitions.Names.{Context, is_index, reading_of}
use Rattle.machine.specs.type_definitions.Expressions.{own_of, own_type, inside, around, around_string, around_operands, around_parens, arguments, behind, within_suffix, way_of, reading_faults, given_names, call_arguments, operand_type, is_null, is_string, is_join}
use Rattle.machine.specs.typed_tree.declared.object.Object.{Object}
use Rattle.machine.specs.typed_tree.Expressions.{Site, typed_expression, typed_name, typed_imaged, typed_first, typed_steps, typed_actuals, object_type, called_function, operands}
use Rattle.machine.specs.flow_paths.Objects.{Typing, Signature}
use Rattle.soundness.specs.TypedLaws.Fine.{Has, Laws, IsMeant, AreSuffixes, IsSuffix, AreArguments}
use Rattle.soundness.proofs.TypedLaws.Agreeing.{nil_left, nil_right}
use Rattle.soundness.proofs.TypedLaws.Main.{has_type}
use Rattle.soundness.proofs.TypedLaws.TypedPoints.Statements.{based_scalar}
use Rattle.soundness.proofs.TypedLaws.TypedPoints.Strings.{string_own}
use Rattle.soundness.specs.TypedLaws.TypedSteps.Steps.{IsText}
use Rattle.soundness.proofs.TypedLaws.TypedPoints.Images.{IsImage, image_read, join_only}
use Rattle.sound_files.proofs.TypedFiles.TypedRuns.Within.{imaged_same}

module _ (s : Site) (objects : List Object) (subs : List Signature) (made : ℕ → Type 0) (laws : Laws s.context.known made) where
  abbrev y : Typing
  y = record { table = s.context.known.table; objects = objects; subs = subs }

  abbrev c : Context
  c = s.context

  -- The value whose image is meant.
  image_given : (d t : ℕ) (rest : Tree) → IsImage c d t (entry_of c.known d) rest → AreSuffixes s y rest → behind c (way_of c.known d (entry_of c.known d)) rest ≡ []
      → (is_scalar (full c.known.table t) ≡ true) × Has y t (typed_imaged s rest)
  unfolding behind within_suffix arguments typed_imaged typed_first AreSuffixes IsSuffix AreArguments
  image_given d t rest is meant none =
      let b = base c.known.table d in
      let m = laws.typed d is.4 in
      let more = is.3 in
      let whole_rest : rest ≡ More (Attr is.0) (More (Applied more.0) NoMore) = is.2 ∙ ap (More (Attr is.0)) more.1 in
      let found = argument more.0 more.2 m (subst (λ x. AreSuffixes s y x) whole_rest meant)
      (subst (λ x. behind c (way_of c.known d x) (More (Attr is.0) (More (Applied more.0) NoMore)) ≡ []) is.4
      (subst (λ x. behind c (way_of c.known d (entry_of c.known d)) x ≡ []) whole_rest none)) in (
        subst (λ z. is_scalar (full c.known.table z) ≡ true) (sym is.5) (based_scalar s objects subs made laws c.in_loop c.starts d m is.6),
        subst (λ z. Has y z (typed_imaged s rest)) (sym is.5) (subst (λ x. Has y b (typed_imaged s x)) (sym whole_rest) found),
      )
    where
      argument : (args : Tree) → is_index args ≡ true → made d → AreSuffixes s y (More (Attr is.0) (More (Applied args) NoMore))
          → behind c (way_of c.known d entry.Type) (More (Attr is.0) (More (Applied args) NoMore)) ≡ []
          → Has y (base c.known.table d) (typed_imaged s (More (Attr is.0) (More (Applied args) NoMore)))
      argument (Argument None e NoMore) one m h none =
          let b = base c.known.table d in
          let own = nil_left (arguments c (role.Every b) 0 (Argument None e NoMore)) _ none in
          let around_none = nil_left (around c stands.Elsewhere b e) _ own in
          let inner = nil_left (inside c false b e) _ (nil_right (around c stands.Elsewhere b e) _ own) in
          subst (Has y b) (imaged_same s objects subs made laws d e h.1.0.0 m is.6 around_none inner)
          (has_type s objects subs made laws e stands.Elsewhere b h.1.0.0 (laws.based d m) around_none inner)
      argument args one m h none = absurd (false≢true one)

  -- An operand of `&` that is a string.
  abbrev IsWritten : Tree → Type 0
  IsWritten e = own_type c e ≡ own.Text → inside c false (operand_type operator.Concatenate) e ≡ [] → IsText y (typed_expression s (operand_type operator.Concatenate) e)

  -- A string expression.
  pub written : (e : Tree) (want : ℕ) → IsMeant s y e → own_type c e ≡ own.Text → inside c false want e ≡ [] → IsText y (typed_expression s want e)
  unfolding own_type inside typed_expression IsMeant IsText
  written (Text p v) want meant is none = tt
  written (Number p n) want meant is none = absurd (false≢true (ap is_string is))
  written (Named p d rest) want meant is none = by (reading_of c d rest) refl is
    where
      by : (r : Reading) → reading_of c d rest ≡ r → own_of c.known r ≡ own.Text
          → IsText y (typed_name s p d (reading_of c d rest) (typed_steps s (object_type (entry_of c.known d)) rest) (typed_actuals s (called_function (reading_of c d rest)) rest) (typed_imaged s rest))
      by (reading.Image t) read own =
          rw read (image_given d t rest (image_read c d t rest read) meant.1
          (nil_right (reading_faults c p d false (given_names (call_arguments rest)) (reading_of c d rest)) _ none))
      by (reading.Place t) read own = absurd (false≢true (ap is_string own))
      by (reading.Value t v) read own = absurd (false≢true (ap is_string own))
      by (reading.Call f) read own = absurd (false≢true (ap is_string own))
      by reading.EndOfFile read own = absurd (false≢true (ap is_string own))
      by reading.Off read own = absurd (false≢true (ap is_string own))
  written (Parens p e) want meant is none = written e want meant is (nil_right (around_parens c p want e) _ none)
  written (Unary p op e) want meant is none = absurd (false≢true (ap is_string is))
  written (Binary p op a b) want meant is none =
      let t = operand_type operator.Concatenate in
      by op (join_only op is) none (λ own within. written a t meant.0 own within) (λ own within. written b t meant.1 own within)
    where
      by : (o : Operator) → o ≡ operator.Concatenate
          → around_operands c p o a b ++ (inside c false (operand_type o) a ++ inside c false (operand_type o) b) ≡ [] → IsWritten a → IsWritten b
          → IsText y (operands o (position a) (position b) (is_null a) (is_null b) (typed_expression s (operand_type o) a) (typed_expression s (operand_type o) b))
      by operator.Concatenate e h first second =
          let t = operand_type operator.Concatenate in
          let around = nil_left (around_string c a ++ around_string c b) _ h in
          let within = nil_right (around_string c a ++ around_string c b) _ h in
          let left = nil_left (inside c false t a) _ within in
          let right = nil_right (inside c false t a) _ within in (
            first (string_own s objects subs made laws a t meant.0 (nil_left (around_string c a) _ around) left) left,
            second (string_own s objects subs made laws b t meant.1 (nil_right (around_string c a) _ around) right) right,
          )
      by o e h first second = absurd (false≢true (ap is_join e))
  written e want meant is none = absurd (false≢true (ap is_string is))
