-- Each form takes a token, whatever stands in its parentheses, so a loop over a form ends.
use Rattle.std.proofs.Common.{sym, ℕ, zero, suc, ◌-◌, [], ◌∷◌, Option, Some, None}
use Rattle.spark_base.specs.declared.limits.TheConstants.{NESTING}
use Rattle.ada_lexer.specs.declared.token.Reserved.{Reserved}
use Rattle.ada_lexer.specs.declared.token.Reserved.TheVariants as w
use Rattle.ada_lexer.specs.declared.token.Symbol.TheVariants as s
use Rattle.ada_tree.specs.declared.identifier.Identifier.{Identifier}
use Rattle.ada_tree.specs.declared.expression.Expr.{Expr}
use Rattle.token_reading.specs.declared.side.Side.{Side}
use Rattle.token_reading.specs.declared.side.Side.TheVariants.{Apart, Within}
use Rattle.token_reading.specs.Reading.{OverLimit, Refused, Reader, of_word, of_symbol, of_number, of_string, seq, optional, many}
use Rattle.token_reading.proofs.Law.{got_fails}
use Rattle.token_reading.proofs.Loop.{Shortens}
use Rattle.ada_grammar.specs.Expressions.{make_adding, make_allocator, make_arg, make_dotted, make_expr, make_factor, make_identifier, make_multiplying, make_name, make_next_arg, make_next_dotted, make_next_factor, make_next_part, make_next_term, make_next_operand, make_parenthesized, make_primary, make_rel, make_relational, make_next_short_operand, make_sign, make_suffix, make_sum, make_term, identifier, next_part, dotted, next_dotted, given_in, lone_identifier, arg_in, next_arg_in, suffix_first, suffix_in, name_in, parenthesized_in, allocator_in, primary_in, multiplying_operator, multiplying_first, adding_operator, adding_first, sign_operator, sign_first, relational_operator, relational_first, factor_in, next_factor_in, term_in, next_term_in, sum_in, rel_in, next_operand_in, next_short_operand_in, chain_in, expr_in, expr_of, expr}
use Rattle.ada_grammar.proofs.ExpressionLengths.{Takes, Passes, passes, takes_made, takes_first, takes_on, passes_both, takes_placed, takes_either, passes_either, passes_some, passes_all, passes_nothing, takes_word, takes_operator_word, takes_symbol, takes_operator, takes_opener, takes_ident, takes_string, takes_number}

-- ---- names

pub takes_identifier : (side : Side) → Takes (identifier side)
unfolding identifier
takes_identifier side = takes_made make_identifier (takes_ident side)

pub takes_next_part : (side : Side) → Takes (next_part side)
unfolding next_part
takes_next_part side = takes_made make_next_part (takes_first (takes_symbol side s.Dot) (passes (takes_identifier side)))

takes_dotted : (side : Side) → Takes (dotted side)
unfolding dotted
takes_dotted side = takes_made make_dotted (takes_first (takes_identifier side) (passes_all (of_symbol s.Dot ∷ []) (takes_next_part side)))

pub takes_next_dotted : Takes next_dotted
unfolding next_dotted
takes_next_dotted = takes_made make_next_dotted (takes_first (takes_symbol Apart s.Comma) (passes (takes_dotted Apart)))

-- ---- operators

takes_multiplying : Takes multiplying_operator
unfolding multiplying_operator
takes_multiplying =
    takes_made make_multiplying (takes_either (of_symbol s.Star ∷ []) (takes_operator s.Star)
    (takes_either (of_symbol s.Slash ∷ []) (takes_operator s.Slash)
    (takes_either (of_word w.KwMod ∷ []) (takes_operator_word w.KwMod) (takes_operator_word w.KwRem))))

takes_adding : Takes adding_operator
unfolding adding_operator
takes_adding =
    takes_made make_adding (takes_either (of_symbol s.Plus ∷ []) (takes_operator s.Plus)
    (takes_either (of_symbol s.Minus ∷ []) (takes_operator s.Minus) (takes_operator s.Ampersand)))

takes_sign : Takes sign_operator
unfolding sign_operator
takes_sign = takes_made make_sign (takes_either (of_symbol s.Plus ∷ []) (takes_operator s.Plus) (takes_operator s.Minus))

takes_relational : Takes relational_operator
unfolding relational_operator
takes_relational =
    takes_made make_relational (takes_either (of_symbol s.Equal ∷ []) (takes_operator s.Equal)
    (takes_either (of_symbol s.NotEqual ∷ []) (takes_operator s.NotEqual) (takes_either (of_symbol s.Less ∷ []) (takes_operator s.Less)
    (takes_either (of_symbol s.LessEqual ∷ []) (takes_operator s.LessEqual)
    (takes_either (of_symbol s.Greater ∷ []) (takes_operator s.Greater) (takes_operator s.GreaterEqual))))))

-- ---- what holds expressions in parentheses

module _ (d : ℕ) (inner : Reader Expr) (I : Takes inner) where
  passes_given : (side : Side) (found : Option Identifier) → Passes (optional (of_symbol s.Arrow ∷ []) (given_in side inner found))
  passes_given side None = passes_some (of_symbol s.Arrow ∷ []) (record { keeps = λ k ts a j rest e. absurd (got_fails a j Refused rest ts (sym e)) })
  passes_given side (Some id) =
      passes_some (of_symbol s.Arrow ∷ []) (passes (takes_made (λ x. (id, x)) (takes_first (takes_symbol side s.Arrow) (passes I))))

  takes_arg : (side : Side) → Takes (arg_in side inner)
  unfolding arg_in
  takes_arg side = takes_made make_arg (takes_on (takes_placed I) (λ x. passes_given side (lone_identifier x.1)))

  pub takes_next_arg : (side : Side) → Takes (next_arg_in side inner)
  unfolding next_arg_in
  takes_next_arg side = takes_made make_next_arg (takes_first (takes_symbol side s.Comma) (passes (takes_arg side)))

  passes_next_args : (side : Side) → Passes (many (of_symbol s.Comma ∷ []) (next_arg_in side inner))
  passes_next_args side = passes_all (of_symbol s.Comma ∷ []) (takes_next_arg side)

  pub takes_suffix : (side : Side) → Takes (suffix_in side d inner)
  unfolding suffix_in
  takes_suffix side =
      takes_made make_suffix (takes_either (of_symbol s.Dot ∷ [])
      (takes_first (takes_symbol side s.Dot) (passes (takes_either (of_word w.KwAll ∷ []) (takes_word side w.KwAll) (takes_identifier side))))
      (takes_either (of_symbol s.Apostrophe ∷ [])
      (takes_first (takes_symbol side s.Apostrophe) (passes (takes_either (of_word w.KwRange ∷ []) (takes_word side w.KwRange) (takes_identifier side))))
      (takes_first (takes_opener side s.LeftParenthesis d)
      (passes_both (passes (takes_arg side)) (passes_both (passes_next_args side) (passes (takes_symbol side s.RightParenthesis)))))))

  takes_name : (side : Side) → Takes (name_in side d inner)
  unfolding name_in
  takes_name side = takes_made make_name (takes_first (takes_identifier side) (passes_all suffix_first (takes_suffix side)))

  takes_parenthesized : Takes (parenthesized_in d inner)
  unfolding parenthesized_in
  takes_parenthesized =
      takes_made make_parenthesized (takes_first (takes_opener Within s.LeftParenthesis d)
      (passes_either (of_word w.KwOthers ∷ [])
      (passes_both (passes (takes_word Within w.KwOthers)) (passes_both (passes (takes_symbol Within s.Arrow))
      (passes_both (passes I) (passes (takes_symbol Within s.RightParenthesis)))))
      (passes_both (passes (takes_arg Within)) (passes_either (of_symbol s.Comma ∷ [])
      (passes_both (passes (takes_symbol Within s.Comma)) (passes_both (passes (takes_arg Within))
      (passes_both (passes_next_args Within) (passes (takes_symbol Within s.RightParenthesis)))))
      (passes (takes_symbol Within s.RightParenthesis))))))

  takes_allocator : Takes (allocator_in d inner)
  unfolding allocator_in
  takes_allocator =
      takes_made make_allocator (takes_first (takes_word Within w.KwNew) (passes_both (passes (takes_dotted Within))
      (passes_some (of_symbol s.Apostrophe ∷ []) (passes_both (passes (takes_symbol Within s.Apostrophe)) (passes takes_parenthesized)))))

  takes_primary : Takes (primary_in d inner)
  unfolding primary_in
  takes_primary =
      takes_made make_primary (takes_either (of_number ∷ []) takes_number (takes_either (of_string ∷ []) takes_string
      (takes_either (of_word w.KwNull ∷ []) (takes_word Within w.KwNull) (takes_either (of_word w.KwNew ∷ []) takes_allocator
      (takes_either (of_symbol s.LeftParenthesis ∷ []) takes_parenthesized (takes_placed (takes_name Within)))))))

  takes_factor : Takes (factor_in d inner)
  unfolding factor_in
  takes_factor =
      takes_made make_factor (takes_either (of_word w.KwAbs ∷ []) (takes_first (takes_operator_word w.KwAbs) (passes takes_primary))
      (takes_either (of_word w.KwNot ∷ []) (takes_first (takes_operator_word w.KwNot) (passes takes_primary)) (takes_placed takes_primary)))

  pub takes_next_factor : Takes (next_factor_in d inner)
  unfolding next_factor_in
  takes_next_factor = takes_made make_next_factor (takes_first takes_multiplying (passes takes_factor))

  takes_term : Takes (term_in d inner)
  unfolding term_in
  takes_term = takes_made make_term (takes_first (takes_placed takes_factor) (passes_all multiplying_first takes_next_factor))

  pub takes_next_term : Takes (next_term_in d inner)
  unfolding next_term_in
  takes_next_term = takes_made make_next_term (takes_first takes_adding (passes takes_term))

  takes_sum : Takes (sum_in d inner)
  unfolding sum_in
  takes_sum =
      takes_made make_sum (takes_either sign_first (takes_first takes_sign (passes_both (passes takes_term) (passes_all adding_first takes_next_term)))
      (takes_first (takes_placed takes_term) (passes_all adding_first takes_next_term)))

  takes_rel : Takes (rel_in d inner)
  unfolding rel_in
  takes_rel =
      takes_made make_rel (takes_first (takes_placed takes_sum)
      (passes_some relational_first (passes_both (passes takes_relational) (passes takes_sum))))

  pub takes_next_operand : (v : Reserved) → Takes (next_operand_in d inner v)
  unfolding next_operand_in
  takes_next_operand v = takes_made make_next_operand (takes_first (takes_operator_word v) (passes takes_rel))

  pub takes_next_short_operand : (v u : Reserved) → Takes (next_short_operand_in d inner v u)
  unfolding next_short_operand_in
  takes_next_short_operand v u =
      takes_made make_next_short_operand (takes_first (takes_operator_word v) (passes_both (passes (takes_word Within u)) (passes takes_rel)))

  passes_long : (v : Reserved) → Passes (seq (rel_in d inner) (many (of_word v ∷ []) (next_operand_in d inner v)))
  passes_long v = passes_both (passes takes_rel) (passes_all (of_word v ∷ []) (takes_next_operand v))

  passes_chain : (v u : Reserved) → Passes (chain_in d inner v u)
  unfolding chain_in
  passes_chain v u =
      passes_either (of_word u ∷ [])
      (passes_both (passes (takes_word Within u)) (passes_both (passes takes_rel) (passes_all (of_word v ∷ []) (takes_next_short_operand v u))))
      (passes_long v)

  takes_expr_in : Takes (expr_in d inner)
  unfolding expr_in
  takes_expr_in =
      takes_made make_expr (takes_first (takes_placed takes_rel)
      (passes_either (of_word w.KwAnd ∷ []) (passes_both (passes (takes_operator_word w.KwAnd)) (passes_chain w.KwAnd w.KwThen))
      (passes_either (of_word w.KwOr ∷ []) (passes_both (passes (takes_operator_word w.KwOr)) (passes_chain w.KwOr w.KwElse))
      (passes_either (of_word w.KwXor ∷ []) (passes_both (passes (takes_operator_word w.KwXor)) (passes_long w.KwXor)) passes_nothing))))

-- ---- expressions at any level

takes_expr_of : (left d : ℕ) → Takes (expr_of left d)
unfolding expr_of
takes_expr_of zero d = record { shortens = λ k ts a j rest e. absurd (got_fails a j OverLimit rest ts (sym e)) }
takes_expr_of (suc left) d = takes_expr_in d (expr_of left (suc d)) (takes_expr_of left (suc d))

pub takes_expr : (d : ℕ) → Takes (expr d)
unfolding expr
takes_expr d = takes_expr_of (suc NESTING - d) d

-- ---- what is read in loops

pub next_part_shortens : (side : Side) → Shortens (next_part side)
next_part_shortens side = (takes_next_part side).shortens

pub next_dotted_shortens : Shortens next_dotted
next_dotted_shortens = takes_next_dotted.shortens

pub next_arg_shortens : (side : Side) (e : ℕ) → Shortens (next_arg_in side (expr e))
next_arg_shortens side e = (takes_next_arg 0 (expr e) (takes_expr e) side).shortens

pub suffix_shortens : (side : Side) (d e : ℕ) → Shortens (suffix_in side d (expr e))
suffix_shortens side d e = (takes_suffix d (expr e) (takes_expr e) side).shortens

pub next_factor_shortens : (d e : ℕ) → Shortens (next_factor_in d (expr e))
next_factor_shortens d e = (takes_next_factor d (expr e) (takes_expr e)).shortens

pub next_term_shortens : (d e : ℕ) → Shortens (next_term_in d (expr e))
next_term_shortens d e = (takes_next_term d (expr e) (takes_expr e)).shortens

pub next_operand_shortens : (d e : ℕ) (v : Reserved) → Shortens (next_operand_in d (expr e) v)
next_operand_shortens d e v = (takes_next_operand d (expr e) (takes_expr e) v).shortens

pub next_short_operand_shortens : (d e : ℕ) (v u : Reserved) → Shortens (next_short_operand_in d (expr e) v u)
next_short_operand_shortens d e v u = (takes_next_short_operand d (expr e) (takes_expr e) v u).shortens
