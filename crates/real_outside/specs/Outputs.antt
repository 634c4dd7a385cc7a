-- What an output holds, where its writer tells it.
use Rattle.std.specs.Prelude.{ℕ, List, Option}
use Rattle.real_outside.specs.declared.outputs.Output.{Output}
use Rattle.real_outside.specs.declared.outputs.Output.TheVariants as output

abbrev pub output_contents : {O E : Type 0} → (O → Option (List ℕ)) → (E → Option (List ℕ)) → Output O E → Option (List ℕ)
output_contents out err (output.Out stream) = out stream
output_contents out err (output.Err stream) = err stream
