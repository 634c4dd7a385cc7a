-- What points are lowered by in the code, as the definitions have it.
use Rattle.std.specs.Prelude.{ℕ, List, map}
use Rattle.typed_tree.specs.Trees.{TypedTree}
use Rattle.typed_tree.specs.Nodes.{typed_at}
use Rattle.flow_paths.specs.declared.point.Point.{Point}
use Rattle.flow_paths.specs.Points.{FlowPoint}
use Rattle.flow_paths.specs.Stands.{flow_point_of}
use Rattle.flow_paths.specs.Objects.{Typing}
use Rattle.program_typing.specs.Typings.{typing}
use Rattle.run_codes.specs.Codes as codes
use Rattle.run_codes.specs.Programs as programs
use Rattle.run_lowering.specs.Sites.{site}
use Rattle.code_rows.specs.declared.rows.Rows.{Rows}
use Rattle.code_rows.specs.Points.{actual_of, text_of, choice_of}
use Rattle.program_lowering.specs.declared.around.Around.{Around}

abbrev pub around : Around → programs.Around
around a = record {
  site = site a.site;
  result = a.result;
  first = a.first;
  count = a.count;
  is_first = a.is_first;
}

-- What is known of the parts of the program, the tree with a number, and a point.
abbrev pub known : Around → Typing
known a = typing a.site.typing

abbrev pub tree : Around → ℕ → TypedTree
tree a n = typed_at a.site.rows.now n

abbrev pub point_in : Around → Point → FlowPoint
point_in a p = flow_point_of a.site.rows.now p

-- All actuals, pieces of strings and choices that are there.
abbrev pub actuals_in : Rows → List codes.Actual
actuals_in rows = map (actual_of rows) rows.actuals.items

abbrev pub texts_in : Rows → List codes.Piece
texts_in rows = map (text_of rows) rows.texts.items

abbrev pub choices_in : Rows → List codes.Choice
choices_in rows = map choice_of rows.choices.items
