-- The laws of the readers of args, over a reader of the expressions in them.
use Rattle.std.proofs.Common.{◌≡◌, refl, sym, ap, ◌∙◌, subst, ℕ, true, false, List, [], ◌∷◌, ◌++◌, Option, Some, None}
use Rattle.std.specs.Prelude.{option_and_then}
use Rattle.std.specs.List.{flat_map}
use Rattle.std.proofs.lemmas.List.{append-nil}
use Rattle.spark_base.specs.declared.position.Pos.{Pos}
use Rattle.ada_lexer.specs.declared.token.Symbol.TheVariants as s
use Rattle.ada_tree.specs.declared.identifier.Identifier.{Identifier}
use Rattle.ada_tree.specs.declared.expression.Arg.{Arg}
use Rattle.ada_tree.specs.declared.expression.Arg.TheVariants as of_arg
use Rattle.ada_tree.specs.declared.expression.NextArg.{NextArg}
use Rattle.ada_tree.specs.declared.expression.Expr.{Expr}
use Rattle.ada_tree.specs.declared.expression.Name.{Name}
use Rattle.ada_tree.specs.Lone.{lone_name, sole_identifier, expr_of_name, name_of_identifier}
use Rattle.ada_tree.specs.Spelling.{symbol, id_mark, expr_spelling, arg_spelling, next_arg_spelling}
use Rattle.ada_tree.specs.WellPlaced.{StartsAt, ExprPlaced, ArgPlaced, NextArgPlaced}
use Rattle.ada_grammar.proofs.Levels.{arg-Positional, arg-Association, next_arg-FurtherArg}
use Rattle.ada_grammar.proofs.PlacedLevels.{arg-Positional-placed, arg-Association-placed, next_arg-FurtherArg-placed}
use Rattle.ada_tree.proofs.Forms.{arg_form, next_arg_form}
use Rattle.ada_grammar.proofs.LoneExpressions.{expr_of_name-spelling, lone_name-expr_of_name, expr_of_name-placed, lone_name_is}
use Rattle.ada_grammar.proofs.LoneNames.{sole_identifier-name_of_identifier, name_of_identifier-spelling, name_of_identifier-placed, sole_identifier_is}
use Rattle.token_reading.specs.declared.side.Side.{Side}
use Rattle.token_reading.specs.declared.side.Side.TheVariants.{Within}
use Rattle.token_reading.specs.Weights.{WeighedToken}
use Rattle.token_reading.specs.Reading.{Reader, of_symbol, optional, Each}
use Rattle.token_reading.proofs.Law.{Law}
use Rattle.token_reading.proofs.Tokens.{Any, some_position, some_same, law_symbol}
use Rattle.token_reading.proofs.Seq.{Both, BothOn, joined_on, law_seq, law_seq_on}
use Rattle.token_reading.proofs.Made.{law_to, law_reworded, law_wider}
use Rattle.token_reading.proofs.Choice.{Maybe, maybe_spelled, law_optional}
use Rattle.token_reading.proofs.Many.{law_each}
use Rattle.token_reading.proofs.Positions.{law_placed}
use Rattle.ada_grammar.specs.Expressions.{Given, lone_identifier, given_in, make_arg, arg_in, make_next_arg, next_arg_in, next_args_in, expr_first, expr_last, arg_last}
use Rattle.ada_grammar.proofs.ExpressionNames.{Never, law_barred}

-- What an equation of facts makes of them.
pub holds : {A B : Type 0} → A ≡ B → B → A
holds e b = subst (λ P. P) (sym e) b

pub gives : {A B : Type 0} → A ≡ B → A → B
gives e a = subst (λ P. P) e a

-- What the law of expressions is, where so many constructs are open around them.
abbrev pub ExprLaw : ℕ → Reader Expr → Type 0
ExprLaw d inner = Law inner (ExprPlaced d) (expr_spelling d) expr_first expr_last false

-- ---- an identifier that is first read as an expression

abbrev sole_expr : Identifier → Expr
sole_expr id = expr_of_name (name_of_identifier id)

sole_spelling : (d : ℕ) (id : Identifier) → expr_spelling d (sole_expr id) ≡ id_mark Within id ∷ []
sole_spelling d id = expr_of_name-spelling d (name_of_identifier id) ∙ name_of_identifier-spelling Within d id

sole_placed : (d : ℕ) (id : Identifier) → ExprPlaced d (sole_expr id)
sole_placed d id = expr_of_name-placed d (name_of_identifier id) (name_of_identifier-placed d id)

sole_starts : (d : ℕ) (id : Identifier) (pos : Pos) → id.pos ≡ pos → StartsAt pos (expr_spelling d (sole_expr id))
sole_starts d id pos e = subst (λ ms. StartsAt pos ms) (sym (sole_spelling d id)) (ap (λ p. Some p) e)

sole_found : (id : Identifier) → lone_identifier (sole_expr id) ≡ Some id
sole_found id =
    ap (λ found. option_and_then sole_identifier found) (lone_name-expr_of_name (name_of_identifier id))
    ∙ sole_identifier-name_of_identifier id

lone_is : (d : ℕ) (x : Expr) (id : Identifier) (found : Option Name) → ExprPlaced d x → lone_name x ≡ found
    → option_and_then sole_identifier found ≡ Some id → x ≡ sole_expr id
lone_is d x id None placed e is = absurd (cc)
lone_is d x id (Some n) placed e is =
    let lone = lone_name_is d x n placed e in
    lone.1 ∙ ap expr_of_name (sole_identifier_is d n id lone.0 is)

lone_spelling : (d : ℕ) (x : Expr) (id : Identifier) → ExprPlaced d x → lone_identifier x ≡ Some id → expr_spelling d x ≡ id_mark Within id ∷ []
lone_spelling d x id placed is = ap (expr_spelling d) (lone_is d x id (lone_name x) placed refl is) ∙ sole_spelling d id

-- ---- "=>" expr

abbrev GoodGiven : ℕ → Option Identifier → Given → Type 0
GoodGiven d found x = (found ≡ Some x.0) × ExprPlaced d x.1.1

abbrev given_spelling : Side → ℕ → Given → List WeighedToken
given_spelling side d x = symbol side s.Arrow x.1.0 ∷ expr_spelling d x.1.1

law_given : (side : Side) (d : ℕ) (inner : Reader Expr) → ExprLaw d inner → (found : Option Identifier)
    → Law (optional (of_symbol s.Arrow ∷ []) (given_in side inner found)) (Maybe (GoodGiven d found)) (maybe_spelled (given_spelling side d))
    (of_symbol s.Arrow ∷ []) arg_last true
law_given side d inner L (Some id) =
    law_wider (of_symbol s.Arrow ∷ []) arg_last
    (law_optional (of_symbol s.Arrow ∷ [])
    (law_to (λ x. (id, x)) (GoodGiven d (Some id)) (given_spelling side d) (law_seq (law_symbol side s.Arrow) L refl)
    (λ x good. (refl, good.1)) (λ x good. refl) onto) refl) refl refl
  where
    onto : (y : Given) → GoodGiven d (Some id) y → (x : Pos × Expr) × (Both Any (ExprPlaced d) x × ((id, x) ≡ y))
    onto (found, x) good = (x, ((tt, good.1), ap (λ i. (i, x)) (some_same id found good.0)))
law_given side d inner L None =
    law_wider (of_symbol s.Arrow ∷ []) arg_last
    (law_reworded (Maybe (GoodGiven d None)) (maybe_spelled (given_spelling side d)) (law_barred (of_symbol s.Arrow ∷ []) (given_spelling side d))
    there back (λ x good. refl)) refl refl
  where
    there : (y : Option Given) → Maybe Never y → Maybe (GoodGiven d None) y
    there None good = tt
    there (Some y) good = absurd good

    back : (y : Option Given) → Maybe (GoodGiven d None) y → Maybe Never y
    back None good = tt
    back (Some y) good = absurd (let never : None ≡ Some y.0 = good.0 in cc)

-- ---- args

abbrev ArgParts : Type 0
ArgParts = (Pos × Expr) × Option Given

abbrev GoodFirst : ℕ → Pos × Expr → Type 0
GoodFirst d x = ExprPlaced d x.1 × StartsAt x.0 (expr_spelling d x.1)

abbrev GoodArg : ℕ → ArgParts → Type 0
GoodArg d = BothOn (GoodFirst d) (λ x. Maybe (GoodGiven d (lone_identifier x.1)))

abbrev arg_parts_spelling : Side → ℕ → ArgParts → List WeighedToken
arg_parts_spelling side d = joined_on (λ x. expr_spelling d x.1) (λ x. maybe_spelled (given_spelling side d))

good_arg : (d : ℕ) (x : ArgParts) → GoodArg d x → ArgPlaced d (make_arg x)
good_arg d ((pos, x), None) good = holds (arg-Positional-placed d pos x) (good.0.1, good.0.0)
good_arg d ((pos, x), Some (id, (arrow, value))) good =
    let starts : StartsAt pos (id_mark Within id ∷ []) = subst (λ ms. StartsAt pos ms) (lone_spelling d x id good.0.0 good.1.0) good.0.1 in
    holds (arg-Association-placed d pos id arrow value) (some_same id.pos pos starts, good.1.1)

spelled_arg : (side : Side) (d : ℕ) (x : ArgParts) → GoodArg d x → arg_spelling side d (make_arg x) ≡ arg_parts_spelling side d x
spelled_arg side d ((pos, x), None) good = arg-Positional side d pos x ∙ sym (append-nil (expr_spelling d x))
spelled_arg side d ((pos, x), Some (id, (arrow, value))) good =
    arg-Association side d pos id arrow value
    ∙ ap (λ ms. ms ++ (symbol side s.Arrow arrow ∷ expr_spelling d value)) (sym (lone_spelling d x id good.0.0 good.1.0))

onto_arg : (d : ℕ) (a : Arg) → ArgPlaced d a → (x : ArgParts) × (GoodArg d x × (make_arg x ≡ a))
onto_arg d = arg_form (λ a. ArgPlaced d a → (x : ArgParts) × (GoodArg d x × (make_arg x ≡ a))) positional association
  where
    positional : (pos : Pos) (value : Expr) → ArgPlaced d (of_arg.Positional pos value)
        → (x : ArgParts) × (GoodArg d x × (make_arg x ≡ of_arg.Positional pos value))
    positional pos value placed =
        let parts = gives (arg-Positional-placed d pos value) placed in
        (((pos, value), None), (((parts.1, parts.0), tt), refl))

    association : (pos : Pos) (id : Identifier) (arrow : Pos) (value : Expr) → ArgPlaced d (of_arg.Association pos id arrow value)
        → (x : ArgParts) × (GoodArg d x × (make_arg x ≡ of_arg.Association pos id arrow value))
    association pos id arrow value placed =
        let parts = gives (arg-Association-placed d pos id arrow value) placed in (
          ((pos, sole_expr id), Some (id, (arrow, value))),
          (((sole_placed d id, sole_starts d id pos parts.0), (sole_found id, parts.1)), refl),
        )

pub law_arg_in : (side : Side) (d : ℕ) (inner : Reader Expr) → ExprLaw d inner
    → Law (arg_in side inner) (ArgPlaced d) (arg_spelling side d) expr_first arg_last false
unfolding arg_in
law_arg_in side d inner L =
    law_wider expr_first arg_last
    (law_to make_arg (ArgPlaced d) (arg_spelling side d)
    (law_seq_on (law_placed L refl) (λ x good. law_given side d inner L (lone_identifier x.1)) refl)
    (good_arg d) (spelled_arg side d) (onto_arg d)) refl refl

onto_next_arg : (d : ℕ) (a : NextArg) → NextArgPlaced d a → (x : Pos × Arg) × (Both Any (ArgPlaced d) x × (make_next_arg x ≡ a))
onto_next_arg d =
    next_arg_form (λ a. NextArgPlaced d a → (x : Pos × Arg) × (Both Any (ArgPlaced d) x × (make_next_arg x ≡ a)))
    (λ pos part placed. ((pos, part), ((tt, gives (next_arg-FurtherArg-placed d pos part) placed), refl)))

pub law_next_arg_in : (side : Side) (d : ℕ) (inner : Reader Expr) → ExprLaw d inner
    → Law (next_arg_in side inner) (NextArgPlaced d) (next_arg_spelling side d) (of_symbol s.Comma ∷ []) arg_last false
unfolding next_arg_in
law_next_arg_in side d inner L =
    law_to make_next_arg (NextArgPlaced d) (next_arg_spelling side d) (law_seq (law_symbol side s.Comma) (law_arg_in side d inner L) refl)
    (λ x good. holds (next_arg-FurtherArg-placed d x.0 x.1) good.1) (λ x good. next_arg-FurtherArg side d x.0 x.1) (onto_next_arg d)

pub law_next_args_in : (side : Side) (d : ℕ) (inner : Reader Expr) → ExprLaw d inner
    → Law (next_args_in side inner) (Each (NextArgPlaced d)) (flat_map (next_arg_spelling side d)) (of_symbol s.Comma ∷ []) (of_symbol s.Comma ∷ arg_last) true
law_next_args_in side d inner L = law_each (of_symbol s.Comma ∷ []) (law_next_arg_in side d inner L) refl refl

-- ---- an arg that is well placed

abbrev some_id : Identifier
some_id = record { pos = some_position; text = [] }

pub some_arg : Arg
some_arg = of_arg.Positional some_position (sole_expr some_id)

pub some_arg_placed : (d : ℕ) → ArgPlaced d some_arg
unfolding some_arg
some_arg_placed d =
    holds (arg-Positional-placed d some_position (sole_expr some_id)) (sole_starts d some_id some_position refl, sole_placed d some_id)
