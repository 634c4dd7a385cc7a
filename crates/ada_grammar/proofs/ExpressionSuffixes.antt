-- The laws of the readers of names, over a reader of the expressions in their parentheses.
use Rattle.std.proofs.Common.{◌≡◌, refl, ap, ℕ, suc, false, List, [], ◌∷◌, ◌⊎◌, inl, inr, leb}
use Rattle.std.specs.List.{flat_map}
use Rattle.spark_base.specs.declared.position.Pos.{Pos}
use Rattle.spark_base.specs.declared.limits.TheConstants.{NESTING}
use Rattle.ada_lexer.specs.declared.token.Reserved.TheVariants as w
use Rattle.ada_lexer.specs.declared.token.Symbol.TheVariants as s
use Rattle.ada_tree.specs.declared.identifier.Identifier.{Identifier}
use Rattle.ada_tree.specs.declared.expression.Arg.{Arg}
use Rattle.ada_tree.specs.declared.expression.NextArg.{NextArg}
use Rattle.ada_tree.specs.declared.expression.Expr.{Expr}
use Rattle.ada_tree.specs.declared.expression.Name.{Name}
use Rattle.ada_tree.specs.declared.expression.Name.TheVariants as of_name
use Rattle.ada_tree.specs.declared.expression.Suffix.{Suffix}
use Rattle.ada_tree.specs.Spelling.{id_mark, name_spelling, suffix_spelling, arg_spelling, next_arg_spelling}
use Rattle.ada_tree.specs.WellPlaced.{NamePlaced, SuffixPlaced, ArgPlaced, NextArgPlaced}
use Rattle.ada_grammar.proofs.Levels.{name-Prefixed, suffix-Selected, suffix-Dereferenced, suffix-Applied, suffix-Attribute, suffix-RangeAttribute}
use Rattle.ada_grammar.proofs.PlacedLevels.{name-Prefixed-placed, suffix-Selected-placed, suffix-Dereferenced-placed, suffix-Applied-placed, suffix-Attribute-placed, suffix-RangeAttribute-placed}
use Rattle.ada_tree.proofs.Forms.{name_form, suffix_form}
use Rattle.token_reading.specs.declared.side.Side.{Side}
use Rattle.token_reading.specs.Spelled.{Word, Delimiter}
use Rattle.token_reading.specs.Weights.{WeighedToken, plain, opens}
use Rattle.token_reading.specs.Reading.{Reader, of_word, of_symbol, Each}
use Rattle.token_reading.proofs.Law.{Law}
use Rattle.token_reading.proofs.Tokens.{Any, some_position, law_word, law_symbol}
use Rattle.token_reading.proofs.Seq.{Both, joined, law_seq}
use Rattle.token_reading.proofs.Made.{law_to, law_wider}
use Rattle.token_reading.proofs.Choice.{Either, of_either, law_choose}
use Rattle.token_reading.proofs.Many.{law_each}
use Rattle.token_reading.proofs.Nesting.{law_opened_symbol}
use Rattle.ada_grammar.specs.Expressions.{SuffixParts, make_suffix, suffix_in, suffix_first, make_name, name_in, name_first, name_last}
use Rattle.ada_grammar.proofs.ExpressionNames.{law_identifier}
use Rattle.ada_grammar.proofs.ExpressionArgs.{holds, gives, ExprLaw, law_arg_in, law_next_args_in, some_arg, some_arg_placed}

-- The law of the expressions one construct further in, where there may be one.
abbrev pub InnerLaw : ℕ → Reader Expr → Type 0
InnerLaw d inner = leb NESTING d ≡ false → ExprLaw (suc d) inner

-- ---- names

abbrev dot_spelling : Side → Pos × (Pos ⊎ Identifier) → List WeighedToken
dot_spelling side = joined (λ p. plain side (Delimiter s.Dot p) ∷ []) (of_either (λ p. plain side (Word w.KwAll p) ∷ []) (λ id. id_mark side id ∷ []))

abbrev tick_spelling : Side → Pos × (Pos ⊎ Identifier) → List WeighedToken
tick_spelling side =
    joined (λ p. plain side (Delimiter s.Apostrophe p) ∷ []) (of_either (λ p. plain side (Word w.KwRange p) ∷ []) (λ id. id_mark side id ∷ []))

-- args and ")", after "("
abbrev pub GoodArgs : ℕ → Arg × (List NextArg × Pos) → Type 0
GoodArgs d = Both (ArgPlaced d) (Both (Each (NextArgPlaced d)) Any)

abbrev pub args_spelling : Side → ℕ → Arg × (List NextArg × Pos) → List WeighedToken
args_spelling side d =
    joined (arg_spelling side d) (joined (flat_map (next_arg_spelling side d)) (λ p. plain side (Delimiter s.RightParenthesis p) ∷ []))

abbrev GoodSuffix : ℕ → SuffixParts → Type 0
GoodSuffix d = Either (Both Any (Either Any Any)) (Either (Both Any (Either Any Any)) (Both Any (GoodArgs (suc d))))

abbrev suffix_parts_spelling : Side → ℕ → SuffixParts → List WeighedToken
suffix_parts_spelling side d =
    of_either (dot_spelling side) (of_either (tick_spelling side)
    (joined (λ p. opens side d (Delimiter s.LeftParenthesis p) ∷ []) (args_spelling side (suc d))))

good_suffix : (d : ℕ) (x : SuffixParts) → GoodSuffix d x → SuffixPlaced d (make_suffix x)
good_suffix d (inl (dot, inl all)) good = holds (suffix-Dereferenced-placed d dot all) tt
good_suffix d (inl (dot, inr id)) good = holds (suffix-Selected-placed d dot id) tt
good_suffix d (inr (inl (tick, inl range))) good = holds (suffix-RangeAttribute-placed d tick range) tt
good_suffix d (inr (inl (tick, inr id))) good = holds (suffix-Attribute-placed d tick id) tt
good_suffix d (inr (inr (left, (first, (rest, right))))) good =
    holds (suffix-Applied-placed d left first rest right) (good.1.0, good.1.1.0)

spelled_suffix : (side : Side) (d : ℕ) (x : SuffixParts) → suffix_spelling side d (make_suffix x) ≡ suffix_parts_spelling side d x
spelled_suffix side d (inl (dot, inl all)) = suffix-Dereferenced side d dot all
spelled_suffix side d (inl (dot, inr id)) = suffix-Selected side d dot id
spelled_suffix side d (inr (inl (tick, inl range))) = suffix-RangeAttribute side d tick range
spelled_suffix side d (inr (inl (tick, inr id))) = suffix-Attribute side d tick id
spelled_suffix side d (inr (inr (left, (first, (rest, right))))) = suffix-Applied side d left first rest right

onto_suffix : (d : ℕ) (a : Suffix) → SuffixPlaced d a → (x : SuffixParts) × (GoodSuffix d x × (make_suffix x ≡ a))
onto_suffix d =
    suffix_form (λ a. SuffixPlaced d a → (x : SuffixParts) × (GoodSuffix d x × (make_suffix x ≡ a)))
    (λ pos id placed. (inl (pos, inr id), ((tt, tt), refl))) (λ pos all placed. (inl (pos, inl all), ((tt, tt), refl)))
    (λ pos first rest right placed.
    let parts = gives (suffix-Applied-placed d pos first rest right) placed in
    (inr (inr (pos, (first, (rest, right)))), ((tt, (parts.0, (parts.1, tt))), refl)))
    (λ pos id placed. (inr (inl (pos, inr id)), ((tt, tt), refl))) (λ pos range placed. (inr (inl (pos, inl range)), ((tt, tt), refl)))

pub law_suffix_in : (side : Side) (d : ℕ) (inner : Reader Expr) → InnerLaw d inner
    → Law (suffix_in side d inner) (SuffixPlaced d) (suffix_spelling side d) suffix_first [] false
unfolding suffix_in
law_suffix_in side d inner L =
    law_wider suffix_first []
    (law_to make_suffix (SuffixPlaced d) (suffix_spelling side d)
    (law_choose (of_symbol s.Dot ∷ [])
    (law_seq (law_symbol side s.Dot) (law_choose (of_word w.KwAll ∷ []) (law_word side w.KwAll) (law_identifier side) refl refl) refl)
    (law_choose (of_symbol s.Apostrophe ∷ [])
    (law_seq (law_symbol side s.Apostrophe) (law_choose (of_word w.KwRange ∷ []) (law_word side w.KwRange) (law_identifier side) refl refl) refl)
    (law_opened_symbol (some_arg, ([], some_position)) (some_arg_placed (suc d), (tt, tt)) side s.LeftParenthesis d
    (λ e. law_seq (law_arg_in side (suc d) inner (L e))
    (law_seq (law_next_args_in side (suc d) inner (L e)) (law_symbol side s.RightParenthesis) refl) refl)) refl refl) refl refl)
    (good_suffix d) (λ x good. spelled_suffix side d x) (onto_suffix d)) refl refl

onto_name : (d : ℕ) (a : Name) → NamePlaced d a → (x : Identifier × List Suffix) × (Both Any (Each (SuffixPlaced d)) x × (make_name x ≡ a))
onto_name d =
    name_form (λ a. NamePlaced d a → (x : Identifier × List Suffix) × (Both Any (Each (SuffixPlaced d)) x × (make_name x ≡ a)))
    (λ pos first rest placed.
    let parts = gives (name-Prefixed-placed d pos first rest) placed in
    ((first, rest), ((tt, parts.1), ap (λ p. of_name.Prefixed p first rest) parts.0)))

pub law_name_in : (side : Side) (d : ℕ) (inner : Reader Expr) → InnerLaw d inner
    → Law (name_in side d inner) (NamePlaced d) (name_spelling side d) name_first name_last false
unfolding name_in
law_name_in side d inner L =
    law_wider name_first name_last
    (law_to make_name (NamePlaced d) (name_spelling side d)
    (law_seq (law_identifier side) (law_each suffix_first (law_suffix_in side d inner L) refl refl) refl)
    (λ x good. holds (name-Prefixed-placed d x.0.pos x.0 x.1) (refl, good.1)) (λ x good. name-Prefixed side d x.0.pos x.0 x.1) (onto_name d)) refl refl
