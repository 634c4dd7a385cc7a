-- Where a writer stands.
use Rattle.expression_types.specs.Here.{here}
use Rattle.typed_tree.specs.Expressions.{Site}
use Rattle.typed_expressions.specs.declared.writer.Writer.{Writer}

abbrev pub site : Writer → Site
site w = record { context = here w.reader; objects = w.objects.now; bodies = w.bodies.now }
