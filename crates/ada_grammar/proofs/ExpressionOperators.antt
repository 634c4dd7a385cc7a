-- The laws of the readers of operators.
use Rattle.std.proofs.Common.{◌≡◌, refl, false, List, [], ◌∷◌, ◌⊎◌, inl, inr}
use Rattle.spark_base.specs.declared.position.Pos.{Pos}
use Rattle.ada_lexer.specs.declared.token.Reserved.TheVariants as w
use Rattle.ada_lexer.specs.declared.token.Symbol.TheVariants as s
use Rattle.ada_tree.specs.declared.operator.Sign.{Sign}
use Rattle.ada_tree.specs.declared.operator.Sign.TheVariants as sign
use Rattle.ada_tree.specs.declared.operator.RelationalOperator.{RelationalOperator}
use Rattle.ada_tree.specs.declared.operator.RelationalOperator.TheVariants as relational
use Rattle.ada_tree.specs.declared.operator.AddingOperator.{AddingOperator}
use Rattle.ada_tree.specs.declared.operator.AddingOperator.TheVariants as adding
use Rattle.ada_tree.specs.declared.operator.MultiplyingOperator.{MultiplyingOperator}
use Rattle.ada_tree.specs.declared.operator.MultiplyingOperator.TheVariants as multiplying
use Rattle.ada_tree.specs.Spelling.{relational_symbol, sign_symbol, adding_symbol, multiplying_token}
use Rattle.token_reading.specs.Spelled.{Word, Delimiter}
use Rattle.token_reading.specs.Weights.{WeighedToken, operates}
use Rattle.token_reading.specs.Reading.{of_word, of_symbol}
use Rattle.token_reading.proofs.Law.{Law}
use Rattle.token_reading.proofs.Tokens.{Any, law_operator_word, law_operator_symbol}
use Rattle.token_reading.proofs.Made.{law_to, law_wider}
use Rattle.token_reading.proofs.Choice.{Either, of_either, law_choose}
use Rattle.ada_grammar.specs.Expressions.{make_multiplying, multiplying_operator, multiplying_first, make_adding, adding_operator, adding_first, make_sign, sign_operator, sign_first, make_relational, relational_operator, relational_first}

-- ---- "*" | "/" | "mod" | "rem"

abbrev pub multiplying_spelling : MultiplyingOperator × Pos → List WeighedToken
multiplying_spelling x = operates (multiplying_token x.0 x.1) ∷ []

multiplying_spelled : (x : Pos ⊎ (Pos ⊎ (Pos ⊎ Pos))) → multiplying_spelling (make_multiplying x)
    ≡ of_either (λ p. operates (Delimiter s.Star p) ∷ []) (of_either (λ p. operates (Delimiter s.Slash p) ∷ [])
    (of_either (λ p. operates (Word w.KwMod p) ∷ []) (λ p. operates (Word w.KwRem p) ∷ []))) x
unfolding multiplying_token
multiplying_spelled (inl pos) = refl
multiplying_spelled (inr (inl pos)) = refl
multiplying_spelled (inr (inr (inl pos))) = refl
multiplying_spelled (inr (inr (inr pos))) = refl

multiplying_onto : (x : MultiplyingOperator × Pos) → Any x
    → (y : Pos ⊎ (Pos ⊎ (Pos ⊎ Pos))) × (Either Any (Either Any (Either Any Any)) y × (make_multiplying y ≡ x))
multiplying_onto (multiplying.Multiply, pos) good = (inl pos, (tt, refl))
multiplying_onto (multiplying.Divide, pos) good = (inr (inl pos), (tt, refl))
multiplying_onto (multiplying.Modulo, pos) good = (inr (inr (inl pos)), (tt, refl))
multiplying_onto (multiplying.Remainder, pos) good = (inr (inr (inr pos)), (tt, refl))

pub law_multiplying : Law multiplying_operator Any multiplying_spelling multiplying_first [] false
unfolding multiplying_operator
law_multiplying =
    law_wider multiplying_first []
    (law_to make_multiplying Any multiplying_spelling
    (law_choose (of_symbol s.Star ∷ []) (law_operator_symbol s.Star) (law_choose (of_symbol s.Slash ∷ []) (law_operator_symbol s.Slash)
    (law_choose (of_word w.KwMod ∷ []) (law_operator_word w.KwMod) (law_operator_word w.KwRem) refl refl) refl refl) refl refl)
    (λ x good. tt) (λ x good. multiplying_spelled x) multiplying_onto) refl refl

-- ---- "+" | "-" | "&"

abbrev pub adding_spelling : AddingOperator × Pos → List WeighedToken
adding_spelling x = operates (Delimiter (adding_symbol x.0) x.1) ∷ []

adding_spelled : (x : Pos ⊎ (Pos ⊎ Pos)) → adding_spelling (make_adding x)
    ≡ of_either (λ p. operates (Delimiter s.Plus p) ∷ []) (of_either (λ p. operates (Delimiter s.Minus p) ∷ [])
    (λ p. operates (Delimiter s.Ampersand p) ∷ [])) x
unfolding adding_symbol
adding_spelled (inl pos) = refl
adding_spelled (inr (inl pos)) = refl
adding_spelled (inr (inr pos)) = refl

adding_onto : (x : AddingOperator × Pos) → Any x → (y : Pos ⊎ (Pos ⊎ Pos)) × (Either Any (Either Any Any) y × (make_adding y ≡ x))
adding_onto (adding.Add, pos) good = (inl pos, (tt, refl))
adding_onto (adding.Subtract, pos) good = (inr (inl pos), (tt, refl))
adding_onto (adding.Concatenate, pos) good = (inr (inr pos), (tt, refl))

pub law_adding : Law adding_operator Any adding_spelling adding_first [] false
unfolding adding_operator
law_adding =
    law_wider adding_first []
    (law_to make_adding Any adding_spelling
    (law_choose (of_symbol s.Plus ∷ []) (law_operator_symbol s.Plus)
    (law_choose (of_symbol s.Minus ∷ []) (law_operator_symbol s.Minus) (law_operator_symbol s.Ampersand) refl refl) refl refl)
    (λ x good. tt) (λ x good. adding_spelled x) adding_onto) refl refl

-- ---- "+" | "-" before a term

abbrev pub signed_spelling : Sign × Pos → List WeighedToken
signed_spelling x = operates (Delimiter (sign_symbol x.0) x.1) ∷ []

sign_spelled : (x : Pos ⊎ Pos) → signed_spelling (make_sign x)
    ≡ of_either (λ p. operates (Delimiter s.Plus p) ∷ []) (λ p. operates (Delimiter s.Minus p) ∷ []) x
unfolding sign_symbol
sign_spelled (inl pos) = refl
sign_spelled (inr pos) = refl

sign_onto : (x : Sign × Pos) → Any x → (y : Pos ⊎ Pos) × (Either Any Any y × (make_sign y ≡ x))
sign_onto (sign.Plus, pos) good = (inl pos, (tt, refl))
sign_onto (sign.Minus, pos) good = (inr pos, (tt, refl))

pub law_sign : Law sign_operator Any signed_spelling sign_first [] false
unfolding sign_operator
law_sign =
    law_wider sign_first []
    (law_to make_sign Any signed_spelling
    (law_choose (of_symbol s.Plus ∷ []) (law_operator_symbol s.Plus) (law_operator_symbol s.Minus) refl refl)
    (λ x good. tt) (λ x good. sign_spelled x) sign_onto) refl refl

-- ---- "=" | "/=" | "<" | "<=" | ">" | ">="

abbrev RelationalParts : Type 0
RelationalParts = Pos ⊎ (Pos ⊎ (Pos ⊎ (Pos ⊎ (Pos ⊎ Pos))))

abbrev pub relational_spelling : RelationalOperator × Pos → List WeighedToken
relational_spelling x = operates (Delimiter (relational_symbol x.0) x.1) ∷ []

relational_spelled : (x : RelationalParts) → relational_spelling (make_relational x)
    ≡ of_either (λ p. operates (Delimiter s.Equal p) ∷ []) (of_either (λ p. operates (Delimiter s.NotEqual p) ∷ [])
    (of_either (λ p. operates (Delimiter s.Less p) ∷ []) (of_either (λ p. operates (Delimiter s.LessEqual p) ∷ [])
    (of_either (λ p. operates (Delimiter s.Greater p) ∷ []) (λ p. operates (Delimiter s.GreaterEqual p) ∷ []))))) x
unfolding relational_symbol
relational_spelled (inl pos) = refl
relational_spelled (inr (inl pos)) = refl
relational_spelled (inr (inr (inl pos))) = refl
relational_spelled (inr (inr (inr (inl pos)))) = refl
relational_spelled (inr (inr (inr (inr (inl pos))))) = refl
relational_spelled (inr (inr (inr (inr (inr pos))))) = refl

relational_onto : (x : RelationalOperator × Pos) → Any x
    → (y : RelationalParts) × (Either Any (Either Any (Either Any (Either Any (Either Any Any)))) y × (make_relational y ≡ x))
relational_onto (relational.Equal, pos) good = (inl pos, (tt, refl))
relational_onto (relational.NotEqual, pos) good = (inr (inl pos), (tt, refl))
relational_onto (relational.Less, pos) good = (inr (inr (inl pos)), (tt, refl))
relational_onto (relational.LessEqual, pos) good = (inr (inr (inr (inl pos))), (tt, refl))
relational_onto (relational.Greater, pos) good = (inr (inr (inr (inr (inl pos)))), (tt, refl))
relational_onto (relational.GreaterEqual, pos) good = (inr (inr (inr (inr (inr pos)))), (tt, refl))

pub law_relational : Law relational_operator Any relational_spelling relational_first [] false
unfolding relational_operator
law_relational =
    law_wider relational_first []
    (law_to make_relational Any relational_spelling
    (law_choose (of_symbol s.Equal ∷ []) (law_operator_symbol s.Equal)
    (law_choose (of_symbol s.NotEqual ∷ []) (law_operator_symbol s.NotEqual)
    (law_choose (of_symbol s.Less ∷ []) (law_operator_symbol s.Less)
    (law_choose (of_symbol s.LessEqual ∷ []) (law_operator_symbol s.LessEqual)
    (law_choose (of_symbol s.Greater ∷ []) (law_operator_symbol s.Greater) (law_operator_symbol s.GreaterEqual) refl refl)
    refl refl) refl refl) refl refl) refl refl)
    (λ x good. tt) (λ x good. relational_spelled x) relational_onto) refl refl
