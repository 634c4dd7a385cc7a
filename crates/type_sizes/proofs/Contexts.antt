-- What is broken of a declaration of a type doesn't depend on the body and the loop around it.
use Rattle.std.proofs.Common.{◌≡◌, refl, ℕ, ◌+◌, Bool, false, not, ◌&&◌, ◌||◌, [], ◌++◌, Option, if◌then◌else◌}
use Rattle.std.specs.Prelude.{int_lt, is_none}
use Rattle.resolved_tree.specs.declared.node.Mark.{Mark}
use Rattle.resolved_tree.specs.Trees.{Tree, Named, Argument, Parens, Unary, Binary, Aggregate, Others, New, Applied, More, Code, Array, Bounds, Marked, Constrained, RangeOf, position}
use Rattle.type_definitions.specs.declared.table.Known.{Known}
use Rattle.type_definitions.specs.declared.judgement.Role.{Role}
use Rattle.type_definitions.specs.declared.judgement.Role.TheVariants as role
use Rattle.type_definitions.specs.declared.judgement.Way.{Way}
use Rattle.type_definitions.specs.declared.judgement.Where.TheVariants as stands
use Rattle.type_definitions.specs.Types.{info, is_nil}
use Rattle.type_definitions.specs.Faults.{demand, K7}
use Rattle.type_definitions.specs.Entries.{entry_of, integer, marked, denotes_type, is_type, is_complete}
use Rattle.type_definitions.specs.Names.{Context, seen, step, along, reading_of}
use Rattle.type_definitions.specs.Statics.{is_static, value, is_alone}
use Rattle.type_definitions.specs.Expressions.{inside, arguments, within_suffix, behind, own_type, compares, around, around_role, around_parens, around_operands, is_loose, role_type, role_of, way_of, onward, reading_faults, given_names, call_arguments, aggregates, repeats, repeated_type, parts_role, mark_faults, unary_type, operand_type}
use Rattle.type_definitions.specs.Statements.{scalar_mark, static_faults, known_value, range_of_faults, ranged, no_suffix}
use Rattle.type_definitions.specs.Declarations.{bound_faults, index_range, definition_faults, type_faults, subtype_faults, integer_mark, lies_within, holds_itself}
use Rattle.type_definitions.specs.Gathered.{declared_pos, declared_number}

-- A context in this body, which may be in a loop.
abbrev pub context : Known → Option ℕ → Option ℕ → Bool → Option ℕ → Bool → Context
context k h w st s l = record { known = k; home = h; within = w; sub = s; in_loop = l; starts = st }

module _ (k : Known) (h w : Option ℕ) (st : Bool) (s r : Option ℕ) (l m : Bool) where
  abbrev c : Context
  c = context k h w st s l

  abbrev d : Context
  d = context k h w st r m

  mutual
    unfolding seen step along reading_of own_type compares inside arguments within_suffix behind

    inside_same : (loose : Bool) (t : ℕ) (e : Tree) → inside c loose t e ≡ inside d loose t e
    inside_same loose t (Named p n rest) =
        λ j. reading_faults c p n loose (given_names (call_arguments rest)) (reading_of c n rest) ++ behind_same (way_of k n (entry_of k n)) rest j
    inside_same loose t (Parens p e) = λ j. around_parens c p t e ++ inside_same false t e j
    inside_same loose t (Unary p op e) =
        λ j. if is_alone op e then [] else around c stands.Elsewhere (unary_type op) e ++ inside_same false (unary_type op) e j
    inside_same loose t (Binary p op a b) =
        λ j. around_operands c p op a b ++ (inside_same false (operand_type op) a j ++ inside_same false (operand_type op) b j)
    inside_same loose t (Aggregate p args) =
        λ j. demand 4 p (aggregates c t (given_names args)) ++ arguments_same (parts_role c t) 0 args j
    inside_same loose t (Others p e) =
        λ j. demand 4 p (repeats c t)
        ++ (around c stands.AfterOthers (repeated_type c t) e ++ inside_same false (repeated_type c t) e j)
    inside_same loose t (New p mark v) = λ j. mark_faults k mark ++ arguments_same (role.Allocated (marked k mark)) 0 v j
    inside_same loose t _ = refl

    arguments_same : (what : Role) (i : ℕ) (e : Tree) → arguments c what i e ≡ arguments d what i e
    arguments_same what i (Argument given e rest) =
        λ j. around_role c what i given e
        ++ (inside_same (is_loose c what i given) (role_type c what i given) e j ++ arguments_same what (i + 1) rest j)
    arguments_same what i _ = refl

    suffix_same : (way : Way) (e : Tree) → within_suffix c way e ≡ within_suffix d way e
    suffix_same way (Applied args) = arguments_same (role_of way) 0 args
    suffix_same way _ = refl

    behind_same : (way : Way) (e : Tree) → behind c way e ≡ behind d way e
    behind_same way (More first rest) = λ j. suffix_same way first j ++ behind_same (onward c first way) rest j
    behind_same way _ = refl

  bound_same : (t : ℕ) (e : Tree) → bound_faults c t e ≡ bound_faults d t e
  unfolding seen step along reading_of own_type compares is_static value
  bound_same t e = λ j. (around c stands.Elsewhere t e ++ inside_same false t e j) ++ static_faults c e

  range_of_same : (e : Tree) → range_of_faults c e ≡ range_of_faults d e
  unfolding seen step along reading_of
  range_of_same (Named p n rest) =
      λ j. demand 1 p (ranged c (entry_of k n) n (reading_of c n rest) && is_complete k n p && (not (is_type (entry_of k n)) || no_suffix rest))
      ++ behind_same (way_of k n (entry_of k n)) rest j
  range_of_same _ = refl

  range_same : (range : Code) → index_range c range ≡ index_range d range
  unfolding seen step along reading_of
  range_same (Bounds low high) = λ j. bound_same integer low j ++ bound_same integer high j
  range_same (Marked mark) = refl
  range_same (Constrained mark low high) =
      λ j. demand 1 mark.pos (denotes_type k mark.decl && is_complete k (marked k mark) mark.pos)
      ++ (integer_mark c mark ++ (bound_same integer low j ++ bound_same integer high j))
  range_same (RangeOf e) = λ j. range_of_same e j ++ K7 (position e)
  range_same _ = refl

  definition_same : (def : Code) → definition_faults c def ≡ definition_faults d def
  definition_same (Array range mark) = λ j. range_same range j ++ mark_faults k mark
  definition_same _ = refl

  pub type_same : (n def : Code) → type_faults c n def ≡ type_faults d n def
  type_same n def =
      λ j. definition_same def j
      ++ demand 1 (declared_pos n) (is_none (info k.table (declared_number n)).seen_in || not (holds_itself k.table (declared_number n)))

  pub subtype_same : (mark : Mark) (low high : Tree) → subtype_faults c mark low high ≡ subtype_faults d mark low high
  unfolding seen step along reading_of own_type compares is_static value
  subtype_same mark low high =
      let t : ℕ = marked k mark in
      λ j. scalar_mark c mark
      ++ (bound_same t low j
      ++ (bound_same t high j
      ++ (if not (is_nil (bound_same t low j) && is_nil (bound_same t high j)) || int_lt (known_value (value c high)) (known_value (value c low))
      then [] else demand 7 (position low) (lies_within c t low) ++ demand 7 (position high) (lies_within c t high))))
