-- What expressions mention in the text is what their trees name.
use Rattle.std.proofs.Common.{◌≡◌, ℕ, suc, Bool, true, false, ◌&&◌, List, [], ◌∷◌, ◌++◌, drop, length, refl, sym, ap, subst, true≢false, zero}
use Rattle.std.specs.List.{flat_map}
use Rattle.machine.specs.spark_base.declared.position.Pos.{Pos}
use Rattle.ada_tree.specs.declared.expression.Arg.{Arg}
use Rattle.ada_tree.specs.declared.expression.NextArg.{NextArg}
use Rattle.ada_tree.specs.declared.expression.Expr.{Expr}
use Rattle.ada_tree.specs.declared.expression.Name.{Name, Row_of-Suffix, end_of-Suffix, more_of-Suffix}
use Rattle.ada_tree.specs.declared.expression.Suffix.{Suffix}
use Rattle.ada_tree.specs.declared.expression.Suffix.TheVariants as suffix
use Rattle.ada_tree.specs.declared.range.Range.{Range}
use Rattle.ada_tree.specs.declared.range.Range.TheVariants as range
use Rattle.ada_tree.specs.declared.range.Choice.{Choice}
use Rattle.ada_tree.specs.declared.range.Choice.TheVariants as choice
use Rattle.ada_tree.specs.declared.range.NextChoice.{NextChoice}
use Rattle.ada_tree.specs.declared.range.NextChoice.TheVariants as next_choice
use Rattle.name_events.specs.declared.event.Event.{Event}
use Rattle.name_events.specs.declared.event.Event.TheVariants as e
use Rattle.name_events.specs.Laws.{is_mention}
use Rattle.name_events.specs.Identified.{number_at}
use Rattle.name_events.specs.ExpressionOutline.{selector, selectors, name_events, suffixes_events, suffix_events, arg_box_events, next_args_events, next_arg_events, arg_events, expr_box_events, expr_events, operands_events, operand_events, short_operands_events, short_operand_events, rel_box_events, rel_events, sum_box_events, sum_events, next_terms_events, next_term_events, term_events, next_factors_events, next_factor_events, factor_events, primary_events, name_box_events, aggregate_box_events, aggregate_events, range_events, choice_events, next_choice_events}
use Rattle.name_events.specs.ExpressionOutline as outline
use Rattle.machine.specs.resolved_tree.declared.operator.Operator.{Operator}
use Rattle.machine.specs.resolved_tree.declared.operator.Operator.TheVariants as op
use Rattle.machine.specs.resolved_tree.Trees.{Tree, list_of}
use Rattle.machine.specs.resolved_tree.Trees as t
use Rattle.expression_lowering.specs.LoweredExpressions.{Numbers, number_of, before_others, last_of, sign_operator, chained, selected_number, selected_numbers, lowered_name, lowered_suffixes, lowered_suffix, box_before, args_row, next_arg_before, arg_before, lowered_expr_box, lowered_expr, operands_row, lowered_operand, short_operands_row, lowered_short_operand, lowered_rel_box, lowered_rel, lowered_sum_box, lowered_sum, terms_row, lowered_next_term, lowered_term, factors_row, lowered_next_factor, lowered_factor, lowered_primary, lowered_name_box, lowered_aggregate_box, lowered_aggregate, lowered_range}
use Rattle.settled_types.proofs.ExpressionCases.{ExpressionLaws, on_arg, on_expr, on_name, on_next_arg}
use Rattle.sound_files.specs.SeenFiles.Uses.{Uses, numbers_along, AreAllowed}
use Rattle.sound_files.specs.SeenFiles.Fits.{RangeFits, IsKept}

pub both_so : (a b : Bool) → a && b ≡ true → (a ≡ true) × (b ≡ true)
both_so true b e = (refl, e)
both_so false b e = absurd (true≢false (sym e))

pub and_so : (a b : Bool) → a ≡ true → b ≡ true → a && b ≡ true
and_so true b e f = f
and_so false b e f = absurd (true≢false (sym e))

-- These events mention names, and do nothing else.
abbrev pub all_mention : List Event → Bool
all_mention [] = true
all_mention (event ∷ rest) = is_mention event && all_mention rest

mention_both : (xs ys : List Event) → all_mention xs ≡ true → all_mention ys ≡ true → all_mention (xs ++ ys) ≡ true
mention_both [] ys a b = b
mention_both (x ∷ rest) ys a b =
    let s = both_so (is_mention x) (all_mention rest) a in
    and_so (is_mention x) (all_mention (rest ++ ys)) s.0 (mention_both rest ys s.1 b)

module _ (numbers : Numbers) (asked : ℕ → Type 0) where
  allowed_split : (xs ys : List Event) → AreAllowed numbers asked (xs ++ ys) → AreAllowed numbers asked xs × AreAllowed numbers asked ys
  unfolding AreAllowed
  allowed_split [] ys a = (tt, a)
  allowed_split (e.Mentions c name ∷ rest) ys a = let r = allowed_split rest ys a.1 in ((a.0, r.0), r.1)
  allowed_split (event ∷ rest) ys a = allowed_split rest ys a

  -- These events mention names alone, and if these are as asked, this holds.
  abbrev pub Speaks : List Event → Type 0 → Type 0
  Speaks xs known = (all_mention xs ≡ true) × (AreAllowed numbers asked xs → known)

  pub says_so : (xs : List Event) (one two : Type 0) → (one → two) → Speaks xs one → Speaks xs two
  says_so xs one two f s = (s.0, λ a. f (s.1 a))

  pub nothing : (one : Type 0) → one → Speaks [] one
  nothing one is = (refl, λ a. is)

  pub speaks_both : (xs ys : List Event) (one two : Type 0) → Speaks xs one → Speaks ys two → Speaks (xs ++ ys) (one × two)
  speaks_both xs ys one two s u =
      (mention_both xs ys s.0 u.0, λ a. let r = allowed_split xs ys a in (s.1 r.0, u.1 r.1))

  abbrev Use : Tree → Type 0
  Use tree = Uses asked tree

  -- ---- lists of trees

  abbrev AllUse : List Tree → Type 0
  AllUse [] = Unit {0}
  AllUse (a ∷ rest) = Use a × AllUse rest

  dropped : (n : ℕ) (trees : List Tree) → AllUse trees → AllUse (drop n trees)
  dropped zero trees all = all
  dropped (suc n) [] all = tt
  dropped (suc n) (a ∷ rest) all = dropped n rest all.1

  listed : (trees : List Tree) → AllUse trees → Use (list_of trees)
  unfolding Uses
  listed [] all = tt
  listed (a ∷ rest) all = (all.0, listed rest all.1)

  abbrev AllNext : List (Operator × Tree) → Type 0
  AllNext [] = Unit {0}
  AllNext (next ∷ rest) = Use next.1 × AllNext rest

  chain : (pos : Pos) (left : Tree) (rest : List (Operator × Tree)) → Use left → AllNext rest → Use (chained pos left rest)
  unfolding Uses
  chain pos left [] is all = is
  chain pos left (next ∷ rest) is all = chain pos (t.Binary pos next.0 left next.1) rest (is, all.0) all.1

  along : {n : _} (row : Row_of-Suffix n) → numbers_along numbers (selectors row) ≡ selected_numbers numbers row
  unfolding selectors selected_numbers selector selected_number
  along end_of-Suffix = refl
  along (more_of-Suffix part rest) = by part (along rest)
    where
      by : (part : Suffix) → numbers_along numbers (selectors rest) ≡ selected_numbers numbers rest
          → numbers_along numbers (outline.before_others (selector part) (selectors rest)) ≡ before_others (selected_number numbers part) (selected_numbers numbers rest)
      by (suffix.Selected pos id) same = ap (λ ns. before_others (number_at numbers id.pos) ns) same
      by (suffix.Dereferenced pos all) same = refl
      by (suffix.Applied' pos _ first _ rest right_paren) same = refl
      by (suffix.Attribute pos id) same = refl
      by (suffix.RangeAttribute pos range) same = refl

  two_args : (xs ys : List Event) (one two : Type 0) → Speaks xs (one → two) → Speaks ys one → Speaks (xs ++ ys) two
  two_args xs ys one two s u = says_so (xs ++ ys) ((one → two) × one) two (λ p. p.0 p.1) (speaks_both xs ys (one → two) one s u)

  chained_three : (pos : Pos) (by : Operator) (xs ys zs : List Event) (a b : Tree) (rest : List (Operator × Tree)) → Speaks xs (Use a) → Speaks ys (Use b)
      → Speaks zs (AllNext rest) → Speaks (xs ++ (ys ++ zs)) (Use (chained pos (t.Binary pos by a b) rest))
  unfolding Uses
  chained_three pos by xs ys zs a b rest s u v =
      says_so (xs ++ (ys ++ zs)) (Use a × (Use b × AllNext rest)) (Use (chained pos (t.Binary pos by a b) rest))
      (λ p. chain pos (t.Binary pos by a b) rest (p.0, p.1.0) p.1.1)
      (speaks_both xs (ys ++ zs) (Use a) (Use b × AllNext rest) s (speaks_both ys zs (Use b) (AllNext rest) u v))

  chained_one : (pos : Pos) (xs zs : List Event) (a : Tree) (rest : List (Operator × Tree)) → Speaks xs (Use a)
      → Speaks zs (AllNext rest) → Speaks (xs ++ zs) (Use (chained pos a rest))
  chained_one pos xs zs a rest s v =
      says_so (xs ++ zs) (Use a × AllNext rest) (Use (chained pos a rest)) (λ p. chain pos a rest p.0 p.1)
      (speaks_both xs zs (Use a) (AllNext rest) s v)

  name_speaks_laws : ExpressionLaws (record {
    of_name = λ n. Speaks (name_events n) (Use (lowered_name numbers n));
    of_suffixes = λ n row. Speaks (suffixes_events row) (AllUse (lowered_suffixes numbers row));
    of_suffix = λ s. Speaks (suffix_events s) (Use (lowered_suffix numbers s));
    of_arg_box = λ n row. (others : Tree) → Speaks (arg_box_events row) (Use others → Use (box_before numbers others row));
    of_next_args = λ n row. Speaks (next_args_events row) (Use (args_row numbers row));
    of_next_arg = λ a. (others : Tree) → Speaks (next_arg_events a) (Use others → Use (next_arg_before numbers others a));
    of_arg = λ a. (others : Tree) → Speaks (arg_events a) (Use others → Use (arg_before numbers others a));
    of_expr_box = λ n row. Speaks (expr_box_events row) (Use (lowered_expr_box numbers row));
    of_expr = λ x. Speaks (expr_events x) (Use (lowered_expr numbers x));
    of_operands = λ n row. (by : Operator) → Speaks (operands_events row) (AllNext (operands_row numbers by row));
    of_operand = λ o. (by : Operator) → Speaks (operand_events o) (Use (lowered_operand numbers by o).1);
    of_short_operands = λ n row. (by : Operator) → Speaks (short_operands_events row) (AllNext (short_operands_row numbers by row));
    of_short_operand = λ o. (by : Operator) → Speaks (short_operand_events o) (Use (lowered_short_operand numbers by o).1);
    of_rel_box = λ n row. Speaks (rel_box_events row) (Use (lowered_rel_box numbers row));
    of_rel = λ r. Speaks (rel_events r) (Use (lowered_rel numbers r));
    of_sum_box = λ n row. Speaks (sum_box_events row) (Use (lowered_sum_box numbers row));
    of_sum = λ s. Speaks (sum_events s) (Use (lowered_sum numbers s));
    of_next_terms = λ n row. Speaks (next_terms_events row) (AllNext (terms_row numbers row));
    of_next_term = λ n. Speaks (next_term_events n) (Use (lowered_next_term numbers n).1);
    of_term = λ x. Speaks (term_events x) (Use (lowered_term numbers x));
    of_next_factors = λ n row. Speaks (next_factors_events row) (AllNext (factors_row numbers row));
    of_next_factor = λ n. Speaks (next_factor_events n) (Use (lowered_next_factor numbers n).1);
    of_factor = λ f. Speaks (factor_events f) (Use (lowered_factor numbers f));
    of_primary = λ p. Speaks (primary_events p) (Use (lowered_primary numbers p));
    of_name_box = λ n row. Speaks (name_box_events row) (Use (lowered_name_box numbers row));
    of_aggregate_box = λ n row. Speaks (aggregate_box_events row) (Use (lowered_aggregate_box numbers row));
    of_aggregate = λ a. Speaks (aggregate_events a) (Use (lowered_aggregate numbers a));
  })
  unfolding name_events suffixes_events suffix_events arg_box_events next_args_events next_arg_events arg_events expr_box_events expr_events operands_events operand_events short_operands_events short_operand_events rel_box_events rel_events sum_box_events sum_events next_terms_events next_term_events term_events next_factors_events next_factor_events factor_events primary_events name_box_events aggregate_box_events aggregate_events lowered_name lowered_suffixes lowered_suffix box_before args_row next_arg_before arg_before lowered_expr_box lowered_expr operands_row lowered_operand short_operands_row lowered_short_operand lowered_rel_box lowered_rel lowered_sum_box lowered_sum terms_row lowered_next_term lowered_term factors_row lowered_next_factor lowered_factor lowered_primary lowered_name_box lowered_aggregate_box lowered_aggregate Uses AreAllowed
  name_speaks_laws = record {
    name_prefixed = λ pos first _ rest by_rest. let s = by_rest in (
      s.0,
      λ a. (
        subst (λ ns. asked (last_of (number_of numbers first) ns)) (along rest) a.0,
        listed (drop (length (selected_numbers numbers rest)) (lowered_suffixes numbers rest))
            (dropped (length (selected_numbers numbers rest)) (lowered_suffixes numbers rest) (s.1 a.1)),
      ),
    );
    suffixes_end = nothing (Unit {0}) tt;
    suffixes_more = λ _ part rest by_part by_rest. speaks_both (suffix_events part) (suffixes_events rest) (Use (lowered_suffix numbers part)) (AllUse (lowered_suffixes numbers rest))
        (by_part) (by_rest);
    suffix_applied = λ pos _ first _ rest right_paren by_first by_rest. let others : Tree = args_row numbers rest in
        two_args (arg_box_events first) (next_args_events rest) (Use others) (Use (box_before numbers others first)) (by_first others)
        (by_rest);
    suffix_selected = λ pos id. nothing (Unit {0}) tt;
    suffix_dereferenced = λ pos all. nothing (Unit {0}) tt;
    suffix_attribute = λ pos id. nothing (Unit {0}) tt;
    suffix_range_attribute = λ pos range. nothing (Unit {0}) tt;
    arg_box_end = λ others. nothing (Use others → Use others) (λ u. u);
    arg_box_more = λ _ part rest by_part others. by_part others;
    next_args_end = nothing (Unit {0}) tt;
    next_args_more = λ _ part rest by_part by_rest. let others : Tree = args_row numbers rest in
        two_args (next_arg_events part) (next_args_events rest) (Use others) (Use (next_arg_before numbers others part)) (by_part others)
        (by_rest);
    next_arg_further_arg = λ pos _ part by_part others. by_part others;
    arg_positional = λ pos _ value by_value others. let s = by_value in (s.0, λ a u. (s.1 a, u));
    arg_association = λ pos id arrow _ value by_value others. let s = by_value in (s.0, λ a u. (s.1 a, u));
    expr_box_end = nothing (Unit {0}) tt;
    expr_box_more = λ _ part rest by_part. by_part;
    expr_lone_relation = λ pos _ relation by_relation. by_relation;
    expr_and = λ pos _ first and _ second _ rest by_first by_second by_rest. chained_three pos op.And (rel_box_events first) (rel_box_events second) (operands_events rest) (lowered_rel_box numbers first)
        (lowered_rel_box numbers second) (operands_row numbers op.And rest) (by_first) (by_second) (by_rest op.And);
    expr_or = λ pos _ first or _ second _ rest by_first by_second by_rest. chained_three pos op.Or (rel_box_events first) (rel_box_events second) (operands_events rest) (lowered_rel_box numbers first)
        (lowered_rel_box numbers second) (operands_row numbers op.Or rest) (by_first) (by_second) (by_rest op.Or);
    expr_xor = λ pos _ first xor _ second _ rest by_first by_second by_rest. chained_three pos op.Xor (rel_box_events first) (rel_box_events second) (operands_events rest) (lowered_rel_box numbers first)
        (lowered_rel_box numbers second) (operands_row numbers op.Xor rest) (by_first) (by_second) (by_rest op.Xor);
    expr_and_then = λ pos _ first and then_word _ second _ rest by_first by_second by_rest. chained_three pos op.AndThen (rel_box_events first) (rel_box_events second) (short_operands_events rest) (lowered_rel_box numbers first)
        (lowered_rel_box numbers second) (short_operands_row numbers op.AndThen rest) (by_first) (by_second)
        (by_rest op.AndThen);
    expr_or_else = λ pos _ first or otherwise _ second _ rest by_first by_second by_rest. chained_three pos op.OrElse (rel_box_events first) (rel_box_events second) (short_operands_events rest) (lowered_rel_box numbers first)
        (lowered_rel_box numbers second) (short_operands_row numbers op.OrElse rest) (by_first) (by_second)
        (by_rest op.OrElse);
    operands_end = λ by. nothing (Unit {0}) tt;
    operands_more = λ _ part rest by_part by_rest by. speaks_both (operand_events part) (operands_events rest) (Use (lowered_operand numbers by part).1) (AllNext (operands_row numbers by rest))
        (by_part by) (by_rest by);
    operand_further_operand = λ pos _ relation by_relation by. by_relation;
    short_operands_end = λ by. nothing (Unit {0}) tt;
    short_operands_more = λ _ part rest by_part by_rest by. speaks_both (short_operand_events part) (short_operands_events rest) (Use (lowered_short_operand numbers by part).1)
        (AllNext (short_operands_row numbers by rest)) (by_part by) (by_rest by);
    short_operand_further_short_operand = λ pos second_word _ relation by_relation by. by_relation;
    rel_box_end = nothing (Unit {0}) tt;
    rel_box_more = λ _ part rest by_part. by_part;
    rel_lone_sum = λ pos operand by_operand. by_operand;
    rel_compared = λ pos _ left operator operator_pos _ right by_left by_right. speaks_both (sum_box_events left) (sum_box_events right) (Use (lowered_sum_box numbers left)) (Use (lowered_sum_box numbers right))
        (by_left) (by_right);
    sum_box_end = nothing (Unit {0}) tt;
    sum_box_more = λ _ part rest by_part. by_part;
    sum_unsigned = λ pos first _ rest by_first by_rest. chained_one pos (term_events first) (next_terms_events rest) (lowered_term numbers first) (terms_row numbers rest) (by_first)
        (by_rest);
    sum_signed = λ pos sign first _ rest by_first by_rest. chained_one pos (term_events first) (next_terms_events rest) (t.Unary pos (sign_operator sign) (lowered_term numbers first)) (terms_row numbers rest) (by_first)
        (by_rest);
    next_terms_end = nothing (Unit {0}) tt;
    next_terms_more = λ _ part rest by_part by_rest. speaks_both (next_term_events part) (next_terms_events rest) (Use (lowered_next_term numbers part).1) (AllNext (terms_row numbers rest))
        (by_part) (by_rest);
    next_term_further_term = λ pos operator part by_part. by_part;
    term_product = λ pos first _ rest by_first by_rest. chained_one pos (factor_events first) (next_factors_events rest) (lowered_factor numbers first) (factors_row numbers rest) (by_first)
        (by_rest);
    next_factors_end = nothing (Unit {0}) tt;
    next_factors_more = λ _ part rest by_part by_rest. speaks_both (next_factor_events part) (next_factors_events rest) (Use (lowered_next_factor numbers part).1) (AllNext (factors_row numbers rest))
        (by_part) (by_rest);
    next_factor_further_factor = λ pos operator part by_part. by_part;
    factor_lone_primary = λ pos operand by_operand. by_operand;
    factor_abs = λ pos operand by_operand. by_operand;
    factor_not = λ pos operand by_operand. by_operand;
    primary_named = λ pos _ part by_part. by_part;
    primary_parenthesized = λ pos _ part right_paren by_part. by_part;
    primary_aggregated = λ pos _ part by_part. by_part;
    primary_allocated = λ pos mark. (refl, λ a. tt);
    primary_allocated_aggregate = λ pos mark apostrophe _ part by_part. let s = by_part in (s.0, λ a. (s.1 a.1, tt));
    primary_allocated_value = λ pos mark apostrophe left_paren _ value right_paren by_value. let s = by_value in (s.0, λ a. (s.1 a.1, tt));
    primary_number = λ _ _. nothing (Unit {0}) tt;
    primary_text = λ _ _. nothing (Unit {0}) tt;
    primary_null = λ _. nothing (Unit {0}) tt;
    name_box_end = nothing (Unit {0}) tt;
    name_box_more = λ _ part rest by_part. by_part;
    aggregate_box_end = nothing (Unit {0}) tt;
    aggregate_box_more = λ _ part rest by_part. by_part;
    aggregate_several = λ pos _ first comma _ second _ rest right_paren by_first by_second by_rest. let last : Tree = args_row numbers rest in
        let others : Tree = box_before numbers last second in
        two_args (arg_box_events first) (arg_box_events second ++ next_args_events rest) (Use others) (Use (box_before numbers others first))
        (by_first others)
        (two_args (arg_box_events second) (next_args_events rest) (Use last) (Use others) (by_second last) (by_rest));
    aggregate_single = λ pos id arrow _ value right_paren by_value. let s = by_value in (s.0, λ a. (s.1 a, tt));
    aggregate_others = λ pos others arrow _ value right_paren by_value. by_value;
  }

  pub name_speaks : (n : Name) → Speaks (name_events n) (Use (lowered_name numbers n))
  name_speaks = on_name name_speaks_laws

  pub next_arg_speaks : (others : Tree) (a : NextArg) → Speaks (next_arg_events a) (Use others → Use (next_arg_before numbers others a))
  next_arg_speaks x y = on_next_arg name_speaks_laws y x

  pub arg_speaks : (others : Tree) (a : Arg) → Speaks (arg_events a) (Use others → Use (arg_before numbers others a))
  arg_speaks x y = on_arg name_speaks_laws y x

  pub expr_speaks : (x : Expr) → Speaks (expr_events x) (Use (lowered_expr numbers x))
  expr_speaks = on_expr name_speaks_laws

  -- ---- choices, of which nothing is asked

  pub choice_speaks : (c : Choice) → Speaks (choice_events c) (Unit {0})
  unfolding choice_events
  choice_speaks (choice.Value pos value) = ((expr_speaks value).0, λ a. tt)
  choice_speaks (choice.Interval pos low dots high) =
      (mention_both (expr_events low) (expr_events high) (expr_speaks low).0 (expr_speaks high).0, λ a. tt)
  choice_speaks (choice.Others pos) = (refl, λ a. tt)

  pub next_choices_speak : (rest : List NextChoice) → Speaks (flat_map next_choice_events rest) (Unit {0})
  unfolding next_choice_events
  next_choices_speak [] = (refl, λ a. tt)
  next_choices_speak (next_choice.Bar pos part ∷ rest) =
      (mention_both (choice_events part) (flat_map next_choice_events rest) (choice_speaks part).0 (next_choices_speak rest).0, λ a. tt)

pub range_speaks : (numbers : Numbers) (object : ℕ → Type 0) (scope : List ℕ) (r : Range)
    → Speaks numbers (IsKept object scope) (range_events r) (RangeFits object scope (lowered_range numbers r))
unfolding range_events lowered_range AreAllowed
range_speaks numbers object scope (range.Bounds pos low dots high) =
    let asked : ℕ → Type 0 = IsKept object scope in
    speaks_both numbers asked (expr_events low) (expr_events high) (Uses asked (lowered_expr numbers low)) (Uses asked (lowered_expr numbers high))
    (expr_speaks numbers asked low) (expr_speaks numbers asked high)
range_speaks numbers object scope (range.Marked pos mark) = (refl, λ a. tt)
range_speaks numbers object scope (range.Constrained pos mark of_range low dots high) =
    let asked : ℕ → Type 0 = IsKept object scope in
    let s = speaks_both numbers asked (expr_events low) (expr_events high) (Uses asked (lowered_expr numbers low)) (Uses asked (lowered_expr numbers high))
    (expr_speaks numbers asked low) (expr_speaks numbers asked high) in
    (s.0, λ a. s.1 a.1)
range_speaks numbers object scope (range.RangeOf pos prefix apostrophe of_range) = name_speaks numbers (IsKept object scope) prefix
