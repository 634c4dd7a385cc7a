-- What expressions are lowered by in the code, as the definitions have it.
use Rattle.std.specs.Prelude.{ℕ, Bool, true, false, map}
use Rattle.typed_tree.specs.Trees.{TypedTree}
use Rattle.typed_tree.specs.Nodes.{typed_at}
use Rattle.program_typing.specs.Typings.{typing}
use Rattle.machine.specs.Evaluate.{Use, AsValue, AsView}
use Rattle.run_codes.specs.Lowered as lowered
use Rattle.run_lowering.specs.Offsets.{kept_in}
use Rattle.run_lowering.specs.declared.site.Site.{Site}

abbrev pub site : Site → lowered.Site
site c = record {
  typing = typing c.typing;
  own = map kept_in c.own.now;
  package_objects = map kept_in c.package_objects.now;
  takes = c.takes.now;
}

abbrev pub tree : Site → ℕ → TypedTree
tree c n = typed_at c.rows.now n

abbrev pub use_of : Bool → Use
use_of true = AsView
use_of false = AsValue
