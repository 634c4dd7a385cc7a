-- Named access types.
use Rattle.std.specs.Prelude.{Bool, false}
use Rattle.type_definitions.specs.declared.judgement.View.{View}
use Rattle.type_definitions.specs.declared.judgement.View.TheVariants as view

abbrev pub is_named : View → Bool
is_named (view.Access designated constant named) = named
is_named _ = false
