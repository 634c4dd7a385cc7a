-- Names, primaries and aggregates: small sources, and the trees that are spelled by their tokens.
use Rattle.std.proofs.Common.{refl, [], ◌∷◌}
use Rattle.std.specs.Prelude.{codes}
use Rattle.ada_tree.specs.declared.expression.Primary.TheVariants as primary
use Rattle.ada_tree.specs.declared.expression.Aggregate.TheVariants as aggregate
use Rattle.ada_tree.specs.declared.expression.Arg.TheVariants as arg
use Rattle.ada_tree.specs.declared.expression.NextArg.TheVariants as next_arg
use Rattle.ada_tree.specs.declared.expression.Name.TheVariants as name
use Rattle.ada_tree.specs.declared.expression.Suffix.TheVariants as suffix
use Rattle.ada_grammar.proofs.SmallSources.{computes, IsTextOf, source_of, at, id, mark, selected, expr_of, object, with_value}

-- primary = number
number_value : IsTextOf "procedure P is begin X := 1; end;" (with_value (expr_of 27 (primary.Number (at 27) 1)) 28)
unfolding computes
number_value = source_of (search) (search) refl

-- primary = string
string_value : IsTextOf "procedure P is begin X := \"a \"\"b\"\" --\"; end;"
    (with_value (expr_of 27 (primary.Text (at 27) (codes "\"a \"\"b\"\" --\""))) 39)
unfolding computes
string_value = source_of (search) (search) refl

-- primary = "null"
null_value : IsTextOf "procedure P is begin X := null; end;" (with_value (expr_of 27 (primary.Null (at 27))) 31)
unfolding computes
null_value = source_of (search) (search) refl

-- primary = name
name_value : IsTextOf "procedure P is begin X := y; end;" (with_value (expr_of 27 (object 27 "y")) 28)
unfolding computes
name_value = source_of (search) (search) refl

-- name = id "." id
selected_component : IsTextOf "procedure P is begin X := Y.Z; end;"
    (with_value (expr_of 27 (primary.Named (at 27) (name.Prefixed (at 27) (id 27 "Y") (suffix.Selected (at 28) (id 29 "Z") ∷
    [])))) 30)
unfolding computes
selected_component = source_of (search) (search) refl

-- name = id "." "all"
dereference : IsTextOf "procedure P is begin X := Y.all; end;"
    (with_value (expr_of 27 (primary.Named (at 27) (name.Prefixed (at 27) (id 27 "Y") (suffix.Dereferenced (at 28) (at 29) ∷
    [])))) 32)
unfolding computes
dereference = source_of (search) (search) refl

-- name = id "(" arg ")"
indexed_component : IsTextOf "procedure P is begin X := Y (1); end;"
    (with_value (expr_of 27 (primary.Named (at 27) (name.Prefixed (at 27) (id 27 "Y") (suffix.Applied (at 29) (arg.Positional
    (at 30) (expr_of 30 (primary.Number (at 30) 1))) [] (at 31) ∷ [])))) 32)
unfolding computes
indexed_component = source_of (search) (search) refl

-- name = id "(" arg {"," arg} ")"
call_of_several : IsTextOf "procedure P is begin X := Y (1, Z, 2); end;"
    (with_value (expr_of 27 (primary.Named (at 27) (name.Prefixed (at 27) (id 27 "Y") (suffix.Applied (at 29) (arg.Positional
    (at 30) (expr_of 30 (primary.Number (at 30) 1))) (next_arg.FurtherArg (at 31) (arg.Positional (at 33)
    (expr_of 33 (object 33 "Z"))) ∷ next_arg.FurtherArg (at 34) (arg.Positional (at 36) (expr_of 36 (primary.Number (at 36)
    2))) ∷ []) (at 37) ∷ [])))) 38)
unfolding computes
call_of_several = source_of (search) (search) refl

-- arg = id "=>" expr
call_by_names : IsTextOf "procedure P is begin X := Y (A => 1, B => Z); end;"
    (with_value (expr_of 27 (primary.Named (at 27) (name.Prefixed (at 27) (id 27 "Y") (suffix.Applied (at 29) (arg.Association
    (at 30) (id 30 "A") (at 32) (expr_of 35 (primary.Number (at 35) 1))) (next_arg.FurtherArg (at 36) (arg.Association (at 38)
    (id 38 "B") (at 40) (expr_of 43 (object 43 "Z"))) ∷ []) (at 44) ∷ [])))) 45)
unfolding computes
call_by_names = source_of (search) (search) refl

-- name = id "'" id
attribute : IsTextOf "procedure P is begin X := Y'Last; end;"
    (with_value (expr_of 27 (primary.Named (at 27) (name.Prefixed (at 27) (id 27 "Y") (suffix.Attribute (at 28) (id 29 "Last") ∷
    [])))) 33)
unfolding computes
attribute = source_of (search) (search) refl

-- name = id "'" "range"
range_attribute : IsTextOf "procedure P is begin X := Y'Range; end;"
    (with_value (expr_of 27 (primary.Named (at 27) (name.Prefixed (at 27) (id 27 "Y") (suffix.RangeAttribute (at 28) (at 29) ∷
    [])))) 34)
unfolding computes
range_attribute = source_of (search) (search) refl

-- name = id {"." id | "." "all" | "(" args ")" | "'" (id | "range")}
suffixes : IsTextOf "procedure P is begin X := Y.Z (1) (2).all'First; end;"
    (with_value (expr_of 27 (primary.Named (at 27) (name.Prefixed (at 27) (id 27 "Y") (suffix.Selected (at 28) (id 29 "Z") ∷
    suffix.Applied (at 31) (arg.Positional (at 32) (expr_of 32 (primary.Number (at 32) 1))) [] (at 33) ∷ suffix.Applied (at 35)
    (arg.Positional (at 36) (expr_of 36 (primary.Number (at 36) 2))) [] (at 37) ∷ suffix.Dereferenced (at 38) (at 39) ∷
    suffix.Attribute (at 42) (id 43 "First") ∷ [])))) 48)
unfolding computes
suffixes = source_of (search) (search) refl

-- primary = "(" expr ")"
parenthesized : IsTextOf "procedure P is begin X := (1); end;"
    (with_value (expr_of 27 (primary.Parenthesized (at 27) (expr_of 28 (primary.Number (at 28) 1)) (at 29))) 30)
unfolding computes
parenthesized = source_of (search) (search) refl

-- primary = "(" expr ")", in another
parenthesized_twice : IsTextOf "procedure P is begin X := ((Y)); end;"
    (with_value (expr_of 27 (primary.Parenthesized (at 27) (expr_of 28 (primary.Parenthesized (at 28)
    (expr_of 29 (object 29 "Y")) (at 30))) (at 31))) 32)
unfolding computes
parenthesized_twice = source_of (search) (search) refl

-- aggregate = "(" arg "," arg ")"
aggregate_by_position : IsTextOf "procedure P is begin X := (1, 2); end;"
    (with_value (expr_of 27 (primary.Aggregated (at 27) (aggregate.Several (at 27) (arg.Positional (at 28) (expr_of 28
    (primary.Number (at 28) 1))) (at 29) (arg.Positional (at 31) (expr_of 31 (primary.Number (at 31) 2))) [] (at 32)))) 33)
unfolding computes
aggregate_by_position = source_of (search) (search) refl

-- aggregate = "(" arg "," arg {"," arg} ")"
aggregate_by_names : IsTextOf "procedure P is begin X := (A => 1, B => 2, C => 3); end;"
    (with_value (expr_of 27 (primary.Aggregated (at 27) (aggregate.Several (at 27) (arg.Association (at 28) (id 28 "A") (at 30)
    (expr_of 33 (primary.Number (at 33) 1))) (at 34) (arg.Association (at 36) (id 36 "B") (at 38) (expr_of 41 (primary.Number
    (at 41) 2))) (next_arg.FurtherArg (at 42) (arg.Association (at 44) (id 44 "C") (at 46) (expr_of 49 (primary.Number (at 49)
    3))) ∷ []) (at 50)))) 51)
unfolding computes
aggregate_by_names = source_of (search) (search) refl

-- aggregate = "(" id "=>" expr ")"
aggregate_of_one : IsTextOf "procedure P is begin X := (A => 1); end;"
    (with_value (expr_of 27 (primary.Aggregated (at 27) (aggregate.Single (at 27) (id 28 "A") (at 30) (expr_of 33
    (primary.Number (at 33) 1)) (at 34)))) 35)
unfolding computes
aggregate_of_one = source_of (search) (search) refl

-- aggregate = "(" "others" "=>" expr ")"
aggregate_of_others : IsTextOf "procedure P is begin X := (others => 0); end;"
    (with_value (expr_of 27 (primary.Aggregated (at 27) (aggregate.Others (at 27) (at 28) (at 35) (expr_of 38 (primary.Number
    (at 38) 0)) (at 39)))) 40)
unfolding computes
aggregate_of_others = source_of (search) (search) refl

-- aggregate = "(" arg "," arg ")", with an aggregate in it
aggregate_in_aggregate : IsTextOf "procedure P is begin X := (1, (2, 3)); end;"
    (with_value (expr_of 27 (primary.Aggregated (at 27) (aggregate.Several (at 27) (arg.Positional (at 28) (expr_of 28
    (primary.Number (at 28) 1))) (at 29) (arg.Positional (at 31) (expr_of 31 (primary.Aggregated (at 31) (aggregate.Several
    (at 31) (arg.Positional (at 32) (expr_of 32 (primary.Number (at 32) 2))) (at 33) (arg.Positional (at 35) (expr_of 35
    (primary.Number (at 35) 3))) [] (at 36))))) [] (at 37)))) 38)
unfolding computes
aggregate_in_aggregate = source_of (search) (search) refl

-- primary = "new" mark
allocator : IsTextOf "procedure P is begin X := new A.T; end;"
    (with_value (expr_of 27 (primary.Allocated (at 27) (selected 31 "A" 32 33 "T"))) 34)
unfolding computes
allocator = source_of (search) (search) refl

-- primary = "new" mark "'" aggregate
allocator_with_aggregate : IsTextOf "procedure P is begin X := new T'(A => 1); end;"
    (with_value (expr_of 27 (primary.AllocatedAggregate (at 27) (mark 31 "T") (at 32) (aggregate.Single (at 33) (id 34 "A")
    (at 36) (expr_of 39 (primary.Number (at 39) 1)) (at 40)))) 41)
unfolding computes
allocator_with_aggregate = source_of (search) (search) refl

-- primary = "new" mark "'" "(" expr ")"
allocator_with_value : IsTextOf "procedure P is begin X := new T'(1); end;"
    (with_value (expr_of 27 (primary.AllocatedValue (at 27) (mark 31 "T") (at 32) (at 33) (expr_of 34 (primary.Number (at 34)
    1)) (at 35))) 36)
unfolding computes
allocator_with_value = source_of (search) (search) refl
