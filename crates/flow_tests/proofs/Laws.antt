-- The laws of points, and limits.
use Rattle.std.proofs.Common.{◌≡◌, refl}
use Rattle.std.specs.Prelude.{Some, None}
use Rattle.flow_paths.specs.declared.refusal.LayFault.TheVariants.{NameTooDeep}
use Rattle.flow_paths.specs.Limits.{lay_fault}
use Rattle.flow_tests.proofs.ResolvedTrees.{at}
use Rattle.flow_tests.proofs.Sources.{nine_lines, five_steps, exit_of_block, two_exits, for_case, two_blocks, short_call, calls, traversal, made_three, arrays, deep_name, not_too_deep}
use Rattle.flow_tests.proofs.Flow.{flow, IsLawful, laying}

nine_lawful : IsLawful nine_lines
unfolding laying
nine_lawful = refl

five_lawful : IsLawful five_steps
unfolding laying
five_lawful = refl

exit_lawful : IsLawful exit_of_block
unfolding laying
exit_lawful = refl

two_exits_lawful : IsLawful two_exits
unfolding laying
two_exits_lawful = refl

for_lawful : IsLawful for_case
unfolding laying
for_lawful = refl

two_blocks_lawful : IsLawful two_blocks
unfolding laying
two_blocks_lawful = refl

short_lawful : IsLawful short_call
unfolding laying
short_lawful = refl

calls_lawful : IsLawful calls
unfolding laying
calls_lawful = refl

traversal_lawful : IsLawful traversal
unfolding laying
traversal_lawful = refl

made_lawful : IsLawful made_three
unfolding laying
made_lawful = refl

arrays_lawful : IsLawful arrays
unfolding laying
arrays_lawful = refl

-- A name with 16 selectors, and one with 17.
not_deep : lay_fault (flow not_too_deep) ≡ None
unfolding laying
not_deep = refl

deep : lay_fault (flow deep_name) ≡ Some (NameTooDeep (at 16 6))
unfolding laying
deep = refl
