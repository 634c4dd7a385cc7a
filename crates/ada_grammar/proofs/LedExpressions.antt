-- Outermost expressions after the tokens that lead to them, and names, ranges and choices with
-- such expressions.
use Rattle.std.proofs.Common.{◌≡◌, refl, sym, subst, ℕ, suc, List, [], ◌∷◌, ◌++◌, append_assoc}
use Rattle.std.proofs.lemmas.List.{append-nil}
use Rattle.std.specs.Prelude.{Option, Some, None, true, false}
use Rattle.std.specs.List.{flat_map}
use Rattle.spark_base.specs.declared.position.Pos.{Pos}
use Rattle.ada_lexer.specs.declared.token.Reserved.{Reserved}
use Rattle.ada_tree.specs.declared.identifier.Identifier.{Identifier}
use Rattle.ada_tree.specs.declared.identifier.NextIdentifier.{NextIdentifier}
use Rattle.ada_tree.specs.declared.identifier.NextIdentifier.TheVariants as next_id
use Rattle.ada_tree.specs.declared.identifier.Dotted.{Dotted}
use Rattle.ada_tree.specs.declared.identifier.NextPart.{NextPart}
use Rattle.ada_tree.specs.declared.identifier.NextPart.TheVariants as next_part
use Rattle.ada_tree.specs.declared.identifier.NextDotted.{NextDotted}
use Rattle.ada_tree.specs.declared.identifier.NextDotted.TheVariants as next_dotted
use Rattle.ada_tree.specs.declared.expression.Aggregate.{Row_of-Arg, end_of-Arg, more_of-Arg, Row_of-NextArg, end_of-NextArg, more_of-NextArg, Row_of-Expr, end_of-Expr, more_of-Expr}
use Rattle.ada_tree.specs.declared.expression.Arg.{Arg}
use Rattle.ada_tree.specs.declared.expression.Arg.TheVariants as arg
use Rattle.ada_tree.specs.declared.expression.NextArg.{NextArg}
use Rattle.ada_tree.specs.declared.expression.NextArg.TheVariants as next_arg
use Rattle.ada_tree.specs.declared.expression.Expr.{Expr}
use Rattle.ada_tree.specs.declared.expression.Name.{Name, Row_of-Suffix, end_of-Suffix, more_of-Suffix}
use Rattle.ada_tree.specs.declared.expression.Name.TheVariants as name
use Rattle.ada_tree.specs.declared.expression.Suffix.{Suffix}
use Rattle.ada_tree.specs.declared.expression.Suffix.TheVariants as suffix
use Rattle.ada_tree.specs.declared.range.Range.{Range}
use Rattle.ada_tree.specs.declared.range.Range.TheVariants as range
use Rattle.ada_tree.specs.declared.range.Choice.{Choice}
use Rattle.ada_tree.specs.declared.range.Choice.TheVariants as choice
use Rattle.ada_tree.specs.declared.range.NextChoice.{NextChoice}
use Rattle.ada_tree.specs.declared.range.NextChoice.TheVariants as next_choice
use Rattle.ada_lexer.specs.declared.token.Reserved.TheVariants as w
use Rattle.ada_lexer.specs.declared.token.Symbol.TheVariants as s
use Rattle.token_reading.specs.Spelled.{Spelled, Word}
use Rattle.token_reading.specs.declared.side.Side.TheVariants.{Apart, Within}
use Rattle.token_reading.specs.Weights.{WeighedToken, plain, opens}
use Rattle.ada_tree.specs.Lone.{expr_of_name, name_of_dotted, name_of_identifier, name_with_range}
use Rattle.ada_tree.specs.Spelling.{id_mark, symbol, optional, optional_word, optional_id, arg_box, arg_spelling, choice_spelling, constraint_spelling, dotted_spelling, expr_box, expr_spelling, name_spelling, next_arg_spelling, next_args_spelling, next_choice_spelling, next_dotted_spelling, next_identifier_spelling, next_part_spelling, range_spelling, suffix_spelling, suffixes_spelling}
use Rattle.ada_grammar.specs.Outermost.{IsOutside, leads, always_leads, Outermost, nothing, outside, behind_end, leads_to}
use Rattle.ada_grammar.proofs.LoneExpressions.{expr_of_name-spelling}
use Rattle.ada_grammar.proofs.LoneNames.{name_of_dotted-spelling, name_of_identifier-spelling, name_with_range-spelling}
use Rattle.ada_grammar.proofs.ExpressionTokens.{expr_whole}

-- ---- tokens in a row

-- In these tokens each outermost expression follows one that leads to it.
pub record Row (ms : List WeighedToken) : Type 0 where
  pub it : Outermost ms

rows_joined : {a : List WeighedToken} → Outermost a → (b : List WeighedToken) → Outermost b → Outermost (a ++ b)
rows_joined nothing b back = back
rows_joined (outside m behind out other more) b back = outside m (behind ++ b) out other (rows_joined more b back)
rows_joined (behind_end end m pos behind out is apart more) b back = behind_end end m pos (behind ++ b) out is apart (rows_joined more b back)
rows_joined (leads_to m d tree behind out lead whole more) b back =
    subst (λ ms. Outermost (m ∷ ms)) (sym (append_assoc (expr_spelling d tree) behind b))
    (leads_to m d tree (behind ++ b) out lead whole (rows_joined more b back))

pub ended : Row []
ended = record { it = nothing }

pub joined : {a b : List WeighedToken} → Row a → Row b → Row (a ++ b)
joined {a} {b} front back = record { it = rows_joined front.it b back.it }

-- A token apart from all expressions, in front of others.
pub apart : {t : Spelled} {ms : List WeighedToken} → always_leads t ≡ false → Row ms → Row (plain Apart t ∷ ms)
apart {t} {ms} other more = record { it = outside (plain Apart t) ms (λ k. refl) other more.it }

pub opener : (d : ℕ) {t : Spelled} {ms : List WeighedToken} → always_leads t ≡ false → Row ms → Row (opens Apart d t ∷ ms)
opener d {t} {ms} other more = record { it = outside (opens Apart d t) ms (λ k. refl) other more.it }

-- "end" and the token after it, which leads to no expression there.
pub closing : {end : Pos} {t : Spelled} {ms : List WeighedToken} → Row ms → Row (plain Apart (Word w.KwEnd end) ∷ plain Apart t ∷ ms)
closing {end} {t} {ms} more =
    record { it = behind_end (plain Apart (Word w.KwEnd end)) (plain Apart t) end ms (λ k. refl) refl (λ k. refl) more.it }

-- Parts in a row.
pub each_row : {A : Type 0} {spelling : A → List WeighedToken} → ((part : A) → Row (spelling part)) → (parts : List A)
    → Row (flat_map spelling parts)
each_row law [] = ended
each_row law (part ∷ rest) = joined (law part) (each_row law rest)

-- A part that may be left out.
pub optional_row : {A : Type 0} {spelling : A → List WeighedToken} → ((part : A) → Row (spelling part)) → (part : Option A)
    → Row (optional spelling part)
optional_row law None = ended
optional_row law (Some part) = law part

pub optional_word_row : (v : Reserved) → ((pos : Pos) → always_leads (Word v pos) ≡ false) → (pos : Option Pos) → Row (optional_word v pos)
optional_word_row v other = optional_row (λ pos. apart (other pos) ended)

pub optional_id_row : (id : Option Identifier) → Row (optional_id id)
optional_id_row = optional_row (λ id. apart refl ended)

-- ---- parts that begin with an outermost expression

-- These tokens may follow any token that leads to an expression.
pub record Led (ms : List WeighedToken) : Type 0 where
  pub it : (m : WeighedToken) (behind : List WeighedToken) → IsOutside m → leads m.token ≡ true → Outermost behind
      → Outermost (m ∷ (ms ++ behind))

-- These may follow one that leads to an expression in some sources only.
pub record Follows (ms : List WeighedToken) : Type 0 where
  pub it : (m : WeighedToken) (behind : List WeighedToken) → IsOutside m → leads m.token ≡ true → always_leads m.token ≡ false
      → Outermost behind → Outermost (m ∷ (ms ++ behind))

led_follows : {ms : List WeighedToken} → Led ms → Follows ms
led_follows law = record { it = λ m behind out lead other more. law.it m behind out lead more }

row_follows : {ms : List WeighedToken} → Row ms → Follows ms
row_follows {ms} law = record { it = λ m behind out lead other more. outside m (ms ++ behind) out other (rows_joined law.it behind more) }

pub led_expr : (d : ℕ) (tree : Expr) → Led (expr_spelling d tree)
led_expr d tree = record { it = λ m behind out lead more. leads_to m d tree behind out lead (expr_whole d tree).it more }

led_as : {a b : List WeighedToken} → a ≡ b → Led a → Led b
led_as same law = subst Led same law

led_before : {a b : List WeighedToken} → Led a → Row b → Led (a ++ b)
led_before {a} {b} front back = record {
  it = λ m behind out lead more. subst (λ ms. Outermost (m ∷ ms)) (sym (append_assoc a b behind))
      (front.it m (b ++ behind) out lead (rows_joined back.it behind more));
}

-- A token that leads to an expression, the part that begins with it, and others.
pub leads_on : {t : Spelled} {ms tail : List WeighedToken} → leads t ≡ true → Led ms → Row tail → Row (plain Apart t ∷ (ms ++ tail))
leads_on {t} {ms} {tail} lead law more = record { it = law.it (plain Apart t) tail (λ k. refl) lead more.it }

leads_last : {t : Spelled} {ms : List WeighedToken} → leads t ≡ true → Led ms → Row (plain Apart t ∷ ms)
leads_last {t} {ms} lead law = subst (λ ms. Row (plain Apart t ∷ ms)) (append-nil ms) (leads_on lead law ended)

pub opener_leads : (d : ℕ) {t : Spelled} {ms tail : List WeighedToken} → leads t ≡ true → Led ms → Row tail
    → Row (opens Apart d t ∷ (ms ++ tail))
opener_leads d {t} {ms} {tail} lead law more = record { it = law.it (opens Apart d t) tail (λ k. refl) lead more.it }

pub follows_on : {t : Spelled} {ms tail : List WeighedToken} → leads t ≡ true → always_leads t ≡ false → Follows ms → Row tail
    → Row (plain Apart t ∷ (ms ++ tail))
follows_on {t} {ms} {tail} lead other law more = record { it = law.it (plain Apart t) tail (λ k. refl) lead other more.it }

follows_last : {t : Spelled} {ms : List WeighedToken} → leads t ≡ true → always_leads t ≡ false → Follows ms → Row (plain Apart t ∷ ms)
follows_last {t} {ms} lead other law = subst (λ ms. Row (plain Apart t ∷ ms)) (append-nil ms) (follows_on lead other law ended)

pub opener_follows : (d : ℕ) {t : Spelled} {ms tail : List WeighedToken} → leads t ≡ true → always_leads t ≡ false → Follows ms
    → Row tail → Row (opens Apart d t ∷ (ms ++ tail))
opener_follows d {t} {ms} {tail} lead other law more =
    record { it = law.it (opens Apart d t) tail (λ k. refl) lead other more.it }

-- ---- identifiers

pub next_identifier_row : (tree : NextIdentifier) → Row (next_identifier_spelling tree)
unfolding next_identifier_spelling
next_identifier_row (next_id.FurtherIdentifier pos id) = apart refl (apart refl ended)

next_part_row : (tree : NextPart) → Row (next_part_spelling Apart tree)
unfolding next_part_spelling
next_part_row (next_part.FurtherPart pos id) = apart refl (apart refl ended)

pub dotted_row : (tree : Dotted) → Row (dotted_spelling Apart tree)
unfolding dotted_spelling
dotted_row dotted = apart refl (each_row next_part_row dotted.rest)

pub next_dotted_row : (tree : NextDotted) → Row (next_dotted_spelling tree)
unfolding next_dotted_spelling
next_dotted_row (next_dotted.FurtherDotted pos dotted) = apart refl (dotted_row dotted)

-- ---- names that are expressions

led_name : (d : ℕ) (n : Name) → Led (name_spelling Within d n)
led_name d n = led_as (expr_of_name-spelling d n) (led_expr d (expr_of_name n))

led_mark : (d : ℕ) (mark : Dotted) → Led (dotted_spelling Within mark)
led_mark d mark = led_as (name_of_dotted-spelling Within d mark) (led_name d (name_of_dotted mark))

led_id : (d : ℕ) (id : Identifier) → Led (id_mark Within id ∷ [])
led_id d id = led_as (name_of_identifier-spelling Within d id) (led_name d (name_of_identifier id))

-- ---- names that are none

mutual
  unfolding name_spelling

  pub name_row : (d : ℕ) (tree : Name) → Row (name_spelling Apart d tree)
  name_row d (name.Prefixed' pos first _ rest) = apart refl (suffixes_row d rest)

  suffixes_row : {n : _} (d : ℕ) (row : Row_of-Suffix n) → Row (suffixes_spelling Apart d row)
  suffixes_row d end_of-Suffix = ended
  suffixes_row d (more_of-Suffix part rest) = joined (suffix_row d part) (suffixes_row d rest)

  suffix_row : (d : ℕ) (tree : Suffix) → Row (suffix_spelling Apart d tree)
  suffix_row d (suffix.Selected pos selector) = apart refl (apart refl ended)
  suffix_row d (suffix.Dereferenced pos all) = apart refl (apart refl ended)
  suffix_row d (suffix.Applied' pos _ first _ rest right_paren) =
      opener_follows d refl refl (arg_box_follows (suc d) first) (joined (next_args_row (suc d) rest) (apart refl ended))
  suffix_row d (suffix.Attribute pos attribute) = apart refl (apart refl ended)
  suffix_row d (suffix.RangeAttribute pos range) = apart refl (apart refl ended)

  arg_box_follows : {n : _} (d : ℕ) (row : Row_of-Arg n) → Follows (arg_box Apart d row)
  arg_box_follows d end_of-Arg = row_follows ended
  arg_box_follows d (more_of-Arg part rest) = arg_follows d part

  next_args_row : {n : _} (d : ℕ) (row : Row_of-NextArg n) → Row (next_args_spelling Apart d row)
  next_args_row d end_of-NextArg = ended
  next_args_row d (more_of-NextArg part rest) = joined (next_arg_row d part) (next_args_row d rest)

  pub next_arg_row : (d : ℕ) (tree : NextArg) → Row (next_arg_spelling Apart d tree)
  next_arg_row d (next_arg.FurtherArg' pos _ part) = follows_last refl refl (arg_box_follows d part)

  pub arg_follows : (d : ℕ) (tree : Arg) → Follows (arg_spelling Apart d tree)
  arg_follows d (arg.Positional' pos _ value) = expr_box_follows d value
  arg_follows d (arg.Association' pos id arrow _ value) =
      led_follows (led_before {a = id_mark Within id ∷ []} (led_id d id) (follows_last refl refl (expr_box_follows d value)))

  expr_box_follows : {n : _} (d : ℕ) (row : Row_of-Expr n) → Follows (expr_box d row)
  expr_box_follows d end_of-Expr = row_follows ended
  expr_box_follows d (more_of-Expr part rest) = led_follows (led_expr d part)

-- ---- ranges and choices

bounds_led : (d : ℕ) (low : Expr) (dots : Pos) (high : Expr)
    → Led (expr_spelling d low ++ (symbol Apart s.DoubleDot dots ∷ expr_spelling d high))
bounds_led d low dots high = led_before (led_expr d low) (leads_last refl (led_expr d high))

pub constraint_row : (d : ℕ) (range : Pos) (low : Expr) (dots : Pos) (high : Expr)
    → Row (constraint_spelling d range low dots high)
constraint_row d range low dots high = leads_on refl (led_expr d low) (leads_last refl (led_expr d high))

pub led_range : (d : ℕ) (tree : Range) → Led (range_spelling d tree)
unfolding range_spelling
led_range d (range.Bounds pos low dots high) = bounds_led d low dots high
led_range d (range.Marked pos mark) = led_mark d mark
led_range d (range.Constrained pos mark of_range low dots high) = led_before (led_mark d mark) (constraint_row d of_range low dots high)
led_range d (range.RangeOf pos prefix apostrophe of_range) =
    led_as (name_with_range-spelling Within d prefix apostrophe of_range) (led_name d (name_with_range prefix apostrophe of_range))

pub choice_follows : (d : ℕ) (tree : Choice) → Follows (choice_spelling d tree)
unfolding choice_spelling
choice_follows d (choice.Value pos value) = led_follows (led_expr d value)
choice_follows d (choice.Interval pos low dots high) = led_follows (bounds_led d low dots high)
choice_follows d (choice.Others pos) = row_follows (apart refl ended)

pub next_choice_row : (d : ℕ) (tree : NextChoice) → Row (next_choice_spelling d tree)
unfolding next_choice_spelling
next_choice_row d (next_choice.Bar pos part) = follows_last refl refl (choice_follows d part)
