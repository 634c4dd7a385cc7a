-- Sources, and code, one part after another.
use Rattle.std.proofs.Common.{◌≡◌, refl, sym, ap, ◌∙◌, Option, None}
use Rattle.spark_base.specs.declared.position.Pos.{Pos}
use Rattle.typed_tree.specs.Trees.{TypedTree, NoMore}
use Rattle.flow_paths.specs.Objects.{Typing}
use Rattle.flow_paths.specs.Names.{first}
use Rattle.deep_names.specs.Found.{earlier_of}
use Rattle.deep_names.specs.Trees.{depths_in}
use Rattle.deep_names.specs.Statements.{source_deep, first_source_deep}
use Rattle.deep_names.proofs.Earlier.{earlier_none, earlier_group}

none_deep : (s : Typing) → source_deep s NoMore ≡ None
unfolding depths_in
none_deep s = refl

-- No list, no source.
pub no_source : (s : Typing) (v : TypedTree) → first v ≡ NoMore → (depths_in s v).before ≡ first_source_deep s v
no_source s v is =
    sym (earlier_none (depths_in s v).before) ∙ ap (earlier_of (depths_in s v).before) (sym (ap (source_deep s) is ∙ none_deep s))

-- What was found, and a part of the rest.
pub part_step : (found own made here rest whole : Option Pos) → made ≡ earlier_of found own → here ≡ earlier_of own rest
    → earlier_of found here ≡ whole → earlier_of made rest ≡ whole
part_step found own made here rest whole is turn all =
    ap (λ x. earlier_of x rest) is ∙ earlier_group found own rest ∙ ap (earlier_of found) (sym turn) ∙ all
