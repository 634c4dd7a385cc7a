-- The law of the parts of a package body, which is the one open construct around them.
use Rattle.std.proofs.Common.{◌≡◌, refl, ap, ◌∙◌, ℕ, true, false, List, [], ◌∷◌, ◌++◌, Option, Some, None, ◌⊎◌, inl, inr, arith}
use Rattle.std.specs.List.{flat_map}
use Rattle.spark_base.specs.declared.position.Pos.{Pos}
use Rattle.ada_lexer.specs.declared.token.Reserved.TheVariants as w
use Rattle.ada_lexer.specs.declared.token.Symbol.TheVariants as s
use Rattle.token_reading.specs.declared.side.Side.TheVariants.{Apart}
use Rattle.token_reading.specs.Weights.{WeighedToken}
use Rattle.token_reading.specs.Reading.{Reader, of_word, of_symbol, word, chain, to, seq, either, choose, here, Each}
use Rattle.token_reading.proofs.Law.{Law}
use Rattle.token_reading.proofs.Tokens.{Any, law_word, law_symbol, some_same}
use Rattle.token_reading.proofs.Seq.{Both, joined, law_seq}
use Rattle.token_reading.proofs.Made.{law_to, law_wider, law_same}
use Rattle.token_reading.proofs.Choice.{Either, of_either, cases, law_choose}
use Rattle.token_reading.proofs.Many.{law_each}
use Rattle.token_reading.proofs.Positions.{law_placed}
use Rattle.token_reading.proofs.Fronts.{Same, of_pair, chain_seq, either_choice}
use Rattle.ada_tree.specs.declared.identifier.Identifier.{Identifier}
use Rattle.ada_tree.specs.declared.declaration.Item.{Item}
use Rattle.ada_tree.specs.declared.declaration.Item.TheVariants as item_tree
use Rattle.ada_tree.specs.declared.subprogram.SparkMode.{SparkMode}
use Rattle.ada_tree.specs.declared.subprogram.Formals.{Formals}
use Rattle.ada_tree.specs.declared.subprogram.Subspec.{Subspec}
use Rattle.ada_tree.specs.declared.subprogram.Subspec.TheVariants as subspec_tree
use Rattle.ada_tree.specs.declared.subprogram.Decl.TheVariants as decl_tree
use Rattle.ada_tree.specs.declared.unit.BodyPart.{BodyPart}
use Rattle.ada_tree.specs.declared.unit.BodyPart.TheVariants as part_tree
use Rattle.ada_tree.specs.Spelling as spelling
use Rattle.ada_tree.specs.Spelling.{item_spelling, mode_spelling, formals_spelling, subspec_spelling, decl_spelling, subprogram_spelling, body_part_spelling}
use Rattle.ada_tree.specs.WellPlaced.{EachSome, StartsAt, ItemPlaced, FormalsPlaced, SubspecPlaced, DeclPlaced, BodyPartPlaced}
use Rattle.ada_tree.specs.FixedNames.{ModeNamed, ItemNamed, DeclNamed, BodyPartNamed}
use Rattle.ada_grammar.specs.Expressions.{identifier}
use Rattle.ada_grammar.specs.Items.{InstanceParts, instance_parts, make_instance, plain_item}
use Rattle.ada_grammar.specs.Statements as statements
use Rattle.ada_grammar.specs.Units as units
use Rattle.ada_grammar.specs.Units.{spark_mode, FunctionParts, function_parts, make_function, function_spec, SubprogramParts, subprogram_parts, make_body, body_behind, decl_first, instance_decl, plain_part, completed_part, part_ending, part_behind, instance_or_body, procedure_part, named_part, body_part, body_parts}
use Rattle.ada_grammar.proofs.ExpressionNames.{law_identifier}
use Rattle.ada_grammar.proofs.StatementParts.{position_of_whole}
use Rattle.ada_grammar.proofs.ItemTypes.{GoodPlain}
use Rattle.ada_grammar.proofs.Item.{GoodInstance, instance_spelling, law_instance_parts, law_plain_item}
use Rattle.ada_grammar.proofs.UnitFronts.{made_twice, made_of, chain_made}
use Rattle.ada_grammar.proofs.UnitParts.{law_spark_mode, law_mode, law_formals, GoodFunction, function_parts_spelling, law_function_parts, GoodSubprogram, subprogram_parts_spelling, law_subprogram_parts, parts_of_body, good_body, body_parts_good, body_front_good, one_position}
use Rattle.ada_grammar.proofs.UnitDecls.{procedure_spelling, function_spelling, is_spelling, semicolon_spelling, id_spelling, same_instance}

abbrev declared : Pos → Subspec → Option SparkMode → Pos → BodyPart
declared pos spec mode semicolon = part_tree.Declared pos (decl_tree.Subprogram pos spec mode semicolon)

abbrev completed : Pos → Subspec → Option SparkMode → Pos → SubprogramParts → BodyPart
completed pos spec mode is x = part_tree.Completed pos (make_body pos spec mode is x)

-- ---- "is" .. | ";"

abbrev Ending : Type 0
Ending = (Pos × SubprogramParts) ⊎ Pos

abbrev make_ending : Pos → Subspec → Option SparkMode → Ending → BodyPart
make_ending pos spec mode = cases (of_pair (completed pos spec mode)) (declared pos spec mode)

abbrev ending : Reader Ending
ending = choose (of_word w.KwIs ∷ []) (seq (word Apart w.KwIs) (subprogram_parts 2)) statements.semicolon

abbrev GoodEnding : Ending → Type 0
GoodEnding = Either (Both Any (GoodSubprogram 2)) Any

abbrev ending_spelling : Ending → List WeighedToken
ending_spelling = of_either (joined is_spelling (subprogram_parts_spelling 2)) semicolon_spelling

abbrev ending_first : List ℕ
ending_first = of_word w.KwIs ∷ of_symbol s.Semicolon ∷ []

law_ending : Law ending GoodEnding ending_spelling ending_first [] false
law_ending =
    law_wider ending_first []
    (law_choose (of_word w.KwIs ∷ []) (law_seq (law_word Apart w.KwIs) (law_subprogram_parts 2 (omega arith)) refl)
    (law_symbol Apart s.Semicolon) refl refl) refl refl

same_completed : (pos : Pos) (spec : Subspec) (mode : Option SparkMode) (is : Pos)
    → Same (completed_part pos spec mode is) (to (completed pos spec mode is) (subprogram_parts 2))
unfolding completed_part body_behind
same_completed pos spec mode is = made_twice (make_body pos spec mode is) (part_tree.Completed pos) (subprogram_parts 2)

same_ending : (pos : Pos) (spec : Subspec) (mode : Option SparkMode) → Same (part_ending pos spec mode) (to (make_ending pos spec mode) ending)
unfolding part_ending
same_ending pos spec mode =
    either_choice (of_word w.KwIs ∷ []) (of_pair (completed pos spec mode)) (declared pos spec mode)
    (seq (word Apart w.KwIs) (subprogram_parts 2)) statements.semicolon
    (chain (word Apart w.KwIs) (λ is. completed_part pos spec mode is)) (to (declared pos spec mode) statements.semicolon)
    (chain_seq (completed pos spec mode) (word Apart w.KwIs) (subprogram_parts 2) (λ is. completed_part pos spec mode is)
    (λ is. same_completed pos spec mode is))
    (λ k ts. refl)

-- ---- mode ("is" .. | ";")

abbrev Behind : Type 0
Behind = Option SparkMode × Ending

abbrev make_behind : Pos → Subspec → Behind → BodyPart
make_behind pos spec = of_pair (make_ending pos spec)

abbrev behind : Reader Behind
behind = seq units.mode ending

abbrev GoodBehind : Behind → Type 0
GoodBehind = Both (EachSome ModeNamed) GoodEnding

abbrev behind_spelling : Behind → List WeighedToken
behind_spelling = joined (spelling.optional mode_spelling) ending_spelling

abbrev behind_first : List ℕ
behind_first = of_word w.KwWith ∷ ending_first

law_behind : Law behind GoodBehind behind_spelling behind_first [] false
law_behind = law_wider behind_first [] (law_seq law_mode law_ending refl) refl refl

same_behind : (pos : Pos) (spec : Subspec) → Same (part_behind pos spec) (to (make_behind pos spec) behind)
unfolding part_behind
same_behind pos spec =
    chain_seq (make_ending pos spec) units.mode ending (λ mode. part_ending pos spec mode) (λ mode. same_ending pos spec mode)

-- ---- what follows "procedure" id, where it isn't "is"

abbrev Fronted : Type 0
Fronted = (Formals × Behind) ⊎ ((SparkMode × Ending) ⊎ Pos)

abbrev with_formals : Pos → Identifier → Formals → Behind → BodyPart
with_formals pos id formals = make_behind pos (subspec_tree.Procedure pos id (Some formals))

abbrev with_mode : Pos → Identifier → SparkMode → Ending → BodyPart
with_mode pos id mode = make_ending pos (subspec_tree.Procedure pos id None) (Some mode)

abbrev without : Pos → Identifier → Pos → BodyPart
without pos id = declared pos (subspec_tree.Procedure pos id None) None

abbrev make_fronted : Pos → Identifier → Fronted → BodyPart
make_fronted pos id = cases (of_pair (with_formals pos id)) (cases (of_pair (with_mode pos id)) (without pos id))

abbrev fronted : Reader Fronted
fronted =
    choose (of_symbol s.LeftParenthesis ∷ []) (seq (units.formals 2) behind) (choose (of_word w.KwWith ∷ []) (seq spark_mode ending) statements.semicolon)

abbrev GoodFronted : Fronted → Type 0
GoodFronted = Either (Both FormalsPlaced GoodBehind) (Either (Both ModeNamed GoodEnding) Any)

abbrev fronted_spelling : Fronted → List WeighedToken
fronted_spelling = of_either (joined (formals_spelling 2) behind_spelling) (of_either (joined mode_spelling ending_spelling) semicolon_spelling)

abbrev fronted_first : List ℕ
fronted_first = of_symbol s.LeftParenthesis ∷ of_word w.KwWith ∷ of_symbol s.Semicolon ∷ []

law_fronted : Law fronted GoodFronted fronted_spelling fronted_first [] false
law_fronted =
    law_wider fronted_first []
    (law_choose (of_symbol s.LeftParenthesis ∷ []) (law_seq (law_formals 2) law_behind refl)
    (law_choose (of_word w.KwWith ∷ []) (law_seq law_spark_mode law_ending refl) (law_symbol Apart s.Semicolon) refl refl) refl refl) refl refl

same_fronted : (pos : Pos) (id : Identifier) → Same (procedure_part pos id) (to (make_fronted pos id) fronted)
unfolding procedure_part
same_fronted pos id =
    either_choice (of_symbol s.LeftParenthesis ∷ []) (of_pair (with_formals pos id)) (cases (of_pair (with_mode pos id)) (without pos id))
    (seq (units.formals 2) behind) (choose (of_word w.KwWith ∷ []) (seq spark_mode ending) statements.semicolon)
    (chain (units.formals 2) (λ formals. part_behind pos (subspec_tree.Procedure pos id (Some formals))))
    (either (of_word w.KwWith ∷ []) read_mode (to (without pos id) statements.semicolon))
    (chain_seq (with_formals pos id) (units.formals 2) behind (λ formals. part_behind pos (subspec_tree.Procedure pos id (Some formals)))
    (λ formals. same_behind pos (subspec_tree.Procedure pos id (Some formals))))
    (either_choice (of_word w.KwWith ∷ []) (of_pair (with_mode pos id)) (without pos id) (seq spark_mode ending) statements.semicolon
    read_mode (to (without pos id) statements.semicolon)
    (chain_seq (with_mode pos id) spark_mode ending (λ mode. part_ending pos (subspec_tree.Procedure pos id None) (Some mode))
    (λ mode. same_ending pos (subspec_tree.Procedure pos id None) (Some mode)))
    (λ k ts. refl))
  where
    read_mode : Reader BodyPart
    read_mode = chain spark_mode (λ mode. part_ending pos (subspec_tree.Procedure pos id None) (Some mode))

-- ---- what follows "procedure" id

abbrev Begun : Type 0
Begun = InstanceParts ⊎ SubprogramParts

abbrev Named : Type 0
Named = (Pos × Begun) ⊎ Fronted

abbrev declared_instance : Pos → Identifier → Pos → InstanceParts → BodyPart
declared_instance pos id is x = part_tree.Declared pos (decl_tree.OfItem pos (make_instance pos id is x))

abbrev make_begun : Pos → Identifier → Pos → Begun → BodyPart
make_begun pos id is = cases (declared_instance pos id is) (completed pos (subspec_tree.Procedure pos id None) None is)

abbrev make_named : Pos → Identifier → Named → BodyPart
make_named pos id = cases (of_pair (make_begun pos id)) (make_fronted pos id)

abbrev begun : Reader Begun
begun = choose (of_word w.KwNew ∷ []) (instance_parts 1) (subprogram_parts 2)

abbrev named : Reader Named
named = choose (of_word w.KwIs ∷ []) (seq (word Apart w.KwIs) begun) fronted

abbrev GoodNamed : Named → Type 0
GoodNamed = Either (Both Any (Either (GoodInstance 1) (GoodSubprogram 2))) GoodFronted

abbrev named_spelling : Named → List WeighedToken
named_spelling = of_either (joined is_spelling (of_either (instance_spelling 1) (subprogram_parts_spelling 2))) fronted_spelling

abbrev named_first : List ℕ
named_first = of_word w.KwIs ∷ fronted_first

law_named : Law named GoodNamed named_spelling named_first [] false
law_named =
    law_wider named_first []
    (law_choose (of_word w.KwIs ∷ [])
    (law_seq (law_word Apart w.KwIs)
    (law_choose (of_word w.KwNew ∷ []) (law_instance_parts 1) (law_subprogram_parts 2 (omega arith)) refl refl) refl)
    law_fronted refl refl) refl refl

same_begun : (pos : Pos) (id : Identifier) (is : Pos) → Same (instance_or_body pos id is) (to (make_begun pos id is) begun)
unfolding instance_or_body
same_begun pos id is =
    either_choice (of_word w.KwNew ∷ []) (declared_instance pos id is) (completed pos (subspec_tree.Procedure pos id None) None is)
    (instance_parts 1) (subprogram_parts 2)
    (to (part_tree.Declared pos) (instance_decl pos id is)) (completed_part pos (subspec_tree.Procedure pos id None) None is)
    same_declared (same_completed pos (subspec_tree.Procedure pos id None) None is)
  where
    same_declared : Same (to (part_tree.Declared pos) (instance_decl pos id is)) (to (declared_instance pos id is) (instance_parts 1))
    same_declared =
        made_of (λ x. decl_tree.OfItem pos (make_instance pos id is x)) (part_tree.Declared pos) (instance_parts 1) (instance_decl pos id is)
        (same_instance pos id is)

same_named : (pos : Pos) (id : Identifier) → Same (named_part pos id) (to (make_named pos id) named)
unfolding named_part
same_named pos id =
    either_choice (of_word w.KwIs ∷ []) (of_pair (make_begun pos id)) (make_fronted pos id) (seq (word Apart w.KwIs) begun) fronted
    (chain (word Apart w.KwIs) (λ is. instance_or_body pos id is)) (procedure_part pos id)
    (chain_seq (make_begun pos id) (word Apart w.KwIs) begun (λ is. instance_or_body pos id is) (λ is. same_begun pos id is))
    (same_fronted pos id)

-- ---- all parts

abbrev OfProcedure : Type 0
OfProcedure = Pos × (Identifier × Named)

abbrev OfFunction : Type 0
OfFunction = Pos × (FunctionParts × Behind)

abbrev Parts : Type 0
Parts = OfProcedure ⊎ (OfFunction ⊎ (Pos × Item))

abbrev function_part : Pos → FunctionParts → Behind → BodyPart
function_part pos f = make_behind pos (make_function pos f)

abbrev of_procedure : OfProcedure → BodyPart
of_procedure = of_pair (λ pos. of_pair (make_named pos))

abbrev of_function : OfFunction → BodyPart
of_function = of_pair (λ pos. of_pair (function_part pos))

abbrev declared_item : Pos → Item → BodyPart
declared_item pos x = part_tree.Declared pos (decl_tree.OfItem pos x)

abbrev of_item : Pos × Item → BodyPart
of_item = of_pair declared_item

abbrev make_part : Parts → BodyPart
make_part = cases of_procedure (cases of_function of_item)

abbrev of_procedure_parts : Reader OfProcedure
of_procedure_parts = seq (word Apart w.KwProcedure) (seq (identifier Apart) named)

abbrev of_function_parts : Reader OfFunction
of_function_parts = seq (word Apart w.KwFunction) (seq (function_parts 2) behind)

abbrev parts : Reader Parts
parts =
    choose (of_word w.KwProcedure ∷ []) of_procedure_parts
    (choose (of_word w.KwFunction ∷ []) of_function_parts (seq here (plain_item 1)))

abbrev GoodParts : Parts → Type 0
GoodParts =
    Either (Both Any (Both Any GoodNamed)) (Either (Both Any (Both GoodFunction GoodBehind))
    (λ x. GoodPlain 1 x.1 × StartsAt x.0 (item_spelling 1 x.1)))

abbrev parts_spelling : Parts → List WeighedToken
parts_spelling =
    of_either (joined procedure_spelling (joined id_spelling named_spelling))
    (of_either (joined function_spelling (joined (function_parts_spelling 2) behind_spelling)) (λ x. item_spelling 1 x.1))

law_parts : Law parts GoodParts parts_spelling decl_first [] false
law_parts =
    law_wider decl_first []
    (law_choose (of_word w.KwProcedure ∷ [])
    (law_seq (law_word Apart w.KwProcedure) (law_seq (law_identifier Apart) law_named refl) refl)
    (law_choose (of_word w.KwFunction ∷ [])
    (law_seq (law_word Apart w.KwFunction) (law_seq (law_function_parts 2) law_behind refl) refl)
    (law_placed (law_plain_item 1 (omega arith)) refl) refl refl) refl refl) refl refl

abbrev pub GoodPart : BodyPart → Type 0
GoodPart x = BodyPartPlaced 1 x × BodyPartNamed x

good_ending : (pos : Pos) (spec : Subspec) (mode : Option SparkMode) (x : Ending) → StartsAt pos (subspec_spelling 1 spec) → SubspecPlaced spec
    → EachSome ModeNamed mode → GoodEnding x → GoodPart (make_ending pos spec mode x)
unfolding BodyPartPlaced BodyPartNamed DeclPlaced DeclNamed subprogram_spelling decl_spelling
good_ending pos spec mode (inl (is, x)) starts placed mode_named good =
    let body = good_body 1 pos spec mode is x starts placed mode_named good.1 in
    ((position_of_whole (subspec_spelling 1 spec) _ pos starts, body.0), body.1)
good_ending pos spec mode (inr semicolon) starts placed mode_named good =
    ((position_of_whole (subspec_spelling 1 spec) _ pos starts, (starts, placed)), mode_named)

good_part : (x : Parts) → GoodParts x → GoodPart (make_part x)
unfolding BodyPartPlaced BodyPartNamed DeclPlaced DeclNamed SubspecPlaced decl_spelling item_spelling subspec_spelling ItemPlaced ItemNamed
good_part (inl (pos, (id, inl (is, inl x)))) good =
    let actuals = good.1.1.1 in ((refl, (refl, (actuals.1.0, actuals.1.1.1.0, actuals.1.1.1.1.0))), tt)
good_part (inl (pos, (id, inl (is, inr x)))) good =
    good_ending pos (subspec_tree.Procedure pos id None) None (inl (is, x)) refl tt tt (tt, good.1.1.1)
good_part (inl (pos, (id, inr (inl (formals, (mode, x)))))) good =
    let parts = good.1.1 in good_ending pos (subspec_tree.Procedure pos id (Some formals)) mode x refl parts.0 parts.1.0 parts.1.1
good_part (inl (pos, (id, inr (inr (inl (mode, x)))))) good =
    good_ending pos (subspec_tree.Procedure pos id None) (Some mode) x refl tt good.1.1.0 good.1.1.1
good_part (inl (pos, (id, inr (inr (inr semicolon))))) good =
    good_ending pos (subspec_tree.Procedure pos id None) None (inr semicolon) refl tt tt tt
good_part (inr (inl (pos, (f, (mode, x))))) good =
    let front = good.1.0.1 in good_ending pos (make_function pos f) mode x refl (front.0, front.1.1) good.1.1.0 good.1.1.1
good_part (inr (inr x)) good = ((good.1, (good.1, good.0.1.0)), good.0.1.1)

spelled_ending : (pos : Pos) (spec : Subspec) (mode : Option SparkMode) (x : Ending) → body_part_spelling 1 (make_ending pos spec mode x)
    ≡ subspec_spelling 1 spec ++ (spelling.optional mode_spelling mode ++ ending_spelling x)
unfolding body_part_spelling decl_spelling subprogram_spelling
spelled_ending pos spec mode (inl x) = refl
spelled_ending pos spec mode (inr semicolon) = refl

spelled_part : (x : Parts) → body_part_spelling 1 (make_part x) ≡ parts_spelling x
unfolding body_part_spelling decl_spelling item_spelling subspec_spelling
spelled_part (inl (pos, (id, inl (is, inl x)))) = refl
spelled_part (inl (pos, (id, inl (is, inr x)))) = spelled_ending pos (subspec_tree.Procedure pos id None) None (inl (is, x))
spelled_part (inl (pos, (id, inr (inl (formals, (mode, x)))))) = spelled_ending pos (subspec_tree.Procedure pos id (Some formals)) mode x
spelled_part (inl (pos, (id, inr (inr (inl (mode, x)))))) = spelled_ending pos (subspec_tree.Procedure pos id None) (Some mode) x
spelled_part (inl (pos, (id, inr (inr (inr semicolon))))) = spelled_ending pos (subspec_tree.Procedure pos id None) None (inr semicolon)
spelled_part (inr (inl (pos, (f, (mode, x))))) = spelled_ending pos (make_function pos f) mode x
spelled_part (inr (inr x)) = refl

abbrev Found : BodyPart → Type 0
Found a = (x : Parts) × (GoodParts x × (make_part x ≡ a))

same_declared : (at whole pos : Pos) (spec : Subspec) (mode : Option SparkMode) (semicolon : Pos) → at ≡ whole → at ≡ pos
    → declared at spec mode semicolon ≡ part_tree.Declared pos (decl_tree.Subprogram whole spec mode semicolon)
same_declared at whole pos spec mode semicolon e there =
    ap (λ p. part_tree.Declared at (decl_tree.Subprogram p spec mode semicolon)) e
    ∙ ap (λ p. part_tree.Declared p (decl_tree.Subprogram whole spec mode semicolon)) there

onto_declared : (pos whole : Pos) (spec : Subspec) (mode : Option SparkMode) (semicolon : Pos)
    → GoodPart (part_tree.Declared pos (decl_tree.Subprogram whole spec mode semicolon))
    → Found (part_tree.Declared pos (decl_tree.Subprogram whole spec mode semicolon))
unfolding BodyPartPlaced BodyPartNamed DeclPlaced DeclNamed SubspecPlaced decl_spelling subspec_spelling
onto_declared pos whole (subspec_tree.Procedure at id None) None semicolon good = (
  inl (at, (id, inr (inr (inr semicolon)))),
  (
    (tt, (tt, tt)),
    same_declared at whole pos (subspec_tree.Procedure at id None) None semicolon (some_same at whole good.0.1.0) (some_same at pos good.0.0),
  ),
)
onto_declared pos whole (subspec_tree.Procedure at id None) (Some mode) semicolon good = (
  inl (at, (id, inr (inr (inl (mode, inr semicolon))))),
  (
    (tt, (tt, (good.1, tt))),
    same_declared at whole pos (subspec_tree.Procedure at id None) (Some mode) semicolon (some_same at whole good.0.1.0) (some_same at pos good.0.0),
  ),
)
onto_declared pos whole (subspec_tree.Procedure at id (Some formals)) mode semicolon good = (
  inl (at, (id, inr (inl (formals, (mode, inr semicolon))))),
  (
    (tt, (tt, (good.0.1.1, (good.1, tt)))),
    same_declared at whole pos (subspec_tree.Procedure at id (Some formals)) mode semicolon (some_same at whole good.0.1.0) (some_same at pos good.0.0),
  ),
)
onto_declared pos whole (subspec_tree.Function at id formals return_word result) mode semicolon good = (
  inr (inl (at, ((id, (formals, (return_word, result))), (mode, inr semicolon)))),
  (
    (tt, ((tt, (good.0.1.1.0, (tt, good.0.1.1.1))), (good.1, tt))),
    same_declared at whole pos (subspec_tree.Function at id formals return_word result) mode semicolon (some_same at whole good.0.1.0)
        (some_same at pos good.0.0),
  ),
)

same_body : (at whole pos : Pos) (spec : Subspec) (mode : Option SparkMode) (is : Pos) (x : SubprogramParts) → at ≡ whole → at ≡ pos
    → completed at spec mode is x ≡ part_tree.Completed pos (make_body whole spec mode is x)
same_body at whole pos spec mode is x e there =
    ap (λ p. part_tree.Completed at (make_body p spec mode is x)) e ∙ ap (λ p. part_tree.Completed p (make_body whole spec mode is x)) there

onto_completed : (pos whole : Pos) (spec : Subspec) (mode : Option SparkMode) (is : Pos) (x : SubprogramParts)
    → StartsAt pos (subprogram_spelling 1 (make_body whole spec mode is x)) → StartsAt whole (subspec_spelling 1 spec)
    → SubspecPlaced spec → EachSome ModeNamed mode → GoodSubprogram 2 x → Found (part_tree.Completed pos (make_body whole spec mode is x))
unfolding subprogram_spelling subspec_spelling SubspecPlaced
onto_completed pos whole (subspec_tree.Procedure at id None) None is x starts front placed mode_named good = (
  inl (at, (id, inl (is, inr x))),
  (
    (tt, (tt, (tt, good))),
    same_body at whole pos (subspec_tree.Procedure at id None) None is x (some_same at whole front) (some_same at pos starts),
  ),
)
onto_completed pos whole (subspec_tree.Procedure at id None) (Some mode) is x starts front placed mode_named good = (
  inl (at, (id, inr (inr (inl (mode, inl (is, x)))))),
  (
    (tt, (tt, (mode_named, (tt, good)))),
    same_body at whole pos (subspec_tree.Procedure at id None) (Some mode) is x (some_same at whole front) (some_same at pos starts),
  ),
)
onto_completed pos whole (subspec_tree.Procedure at id (Some formals)) mode is x starts front placed mode_named good = (
  inl (at, (id, inr (inl (formals, (mode, inl (is, x)))))),
  (
    (tt, (tt, (placed, (mode_named, (tt, good))))),
    same_body at whole pos (subspec_tree.Procedure at id (Some formals)) mode is x (some_same at whole front) (some_same at pos starts),
  ),
)
onto_completed pos whole (subspec_tree.Function at id formals return_word result) mode is x starts front placed mode_named good = (
  inr (inl (at, ((id, (formals, (return_word, result))), (mode, inl (is, x))))),
  (
    (tt, ((tt, (placed.0, (tt, placed.1))), (mode_named, (tt, good)))),
    same_body at whole pos (subspec_tree.Function at id formals return_word result) mode is x (some_same at whole front) (some_same at pos starts),
  ),
)

onto_part : (a : BodyPart) → GoodPart a → Found a
unfolding BodyPartPlaced BodyPartNamed DeclPlaced DeclNamed decl_spelling item_spelling ItemPlaced ItemNamed
onto_part (part_tree.Declared pos (decl_tree.OfItem whole (item_tree.Instance at id is new generic left_paren first rest right_paren semicolon))) good =
    let x : InstanceParts = (new, (generic, (left_paren, (first, (rest, (right_paren, semicolon)))))) in
    let actuals = good.0.1.1 in (
      inl (at, (id, inl (is, inl x))),
      (
        (tt, (tt, (tt, (tt, (actuals.0, (tt, (actuals.1, (actuals.2, (tt, tt))))))))),
        ap (λ p. part_tree.Declared at (decl_tree.OfItem p (make_instance at id is x))) (some_same at whole good.0.1.0)
            ∙ ap (λ p. part_tree.Declared p (decl_tree.OfItem whole (make_instance at id is x))) (some_same at pos good.0.0),
      ),
    )
onto_part (part_tree.Declared pos (decl_tree.OfItem whole a)) good = (
  inr (inr (pos, a)),
  (
    ((tt, (good.0.1.1, good.1)), good.0.0),
    ap (λ p. part_tree.Declared pos (decl_tree.OfItem p a)) (one_position pos whole (item_spelling 1 a) good.0.0 good.0.1.0),
  ),
)
onto_part (part_tree.Declared pos (decl_tree.Subprogram whole spec mode semicolon)) good = onto_declared pos whole spec mode semicolon good
onto_part (part_tree.Completed pos body) good =
    let front = body_front_good 1 body (good.0.1, good.1) in
    onto_completed pos body.pos body.spec body.mode body.is (parts_of_body body) good.0.0 front.0 front.1.0 front.1.1
    (body_parts_good 1 body (good.0.1, good.1))

same_function : (pos : Pos) → Same (chain (function_spec 2 pos) (λ spec. part_behind pos spec))
    (to (of_pair (function_part pos)) (seq (function_parts 2) behind))
unfolding function_spec
same_function pos = chain_made (make_function pos) (make_behind pos) (function_parts 2) behind (λ spec. part_behind pos spec) (λ spec. same_behind pos spec)

same_part : Same body_part (to make_part parts)
unfolding body_part plain_part
same_part =
    either_choice (of_word w.KwProcedure ∷ []) of_procedure (cases of_function of_item) of_procedure_parts
    (choose (of_word w.KwFunction ∷ []) of_function_parts (seq here (plain_item 1)))
    (chain (word Apart w.KwProcedure) (λ pos. chain (identifier Apart) (λ id. named_part pos id)))
    (either (of_word w.KwFunction ∷ []) read_function plain_part)
    (chain_seq (λ pos. of_pair (make_named pos)) (word Apart w.KwProcedure) (seq (identifier Apart) named)
    (λ pos. chain (identifier Apart) (λ id. named_part pos id))
    (λ pos. chain_seq (make_named pos) (identifier Apart) named (λ id. named_part pos id) (λ id. same_named pos id)))
    (either_choice (of_word w.KwFunction ∷ []) of_function of_item of_function_parts (seq here (plain_item 1)) read_function plain_part
    (chain_seq (λ pos. of_pair (function_part pos)) (word Apart w.KwFunction) (seq (function_parts 2) behind)
    (λ pos. chain (function_spec 2 pos) (λ spec. part_behind pos spec)) (λ pos. same_function pos))
    (λ k ts. refl))
  where
    read_function : Reader BodyPart
    read_function = chain (word Apart w.KwFunction) (λ pos. chain (function_spec 2 pos) (λ spec. part_behind pos spec))

-- decl | subbody
pub law_body_part : Law body_part GoodPart (body_part_spelling 1) decl_first [] false
law_body_part =
    law_same body_part (law_to make_part GoodPart (body_part_spelling 1) law_parts good_part (λ x good. spelled_part x) onto_part) same_part

-- {decl | subbody}
pub law_body_parts : Law body_parts (Each GoodPart) (flat_map (body_part_spelling 1)) decl_first decl_first true
law_body_parts = law_each decl_first law_body_part refl refl
