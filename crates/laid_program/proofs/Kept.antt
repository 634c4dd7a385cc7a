-- What holds of each subprogram of a program that is laid out.
use Rattle.std.proofs.Common.{subst}
use Rattle.std.proofs.Math.Logic.{∥∥₁_elim}
use Rattle.std.proofs.Math.Bool.{Bool-set}
use Rattle.std.proofs.Math.Bridge.{le_prop}
use Rattle.spark_base.specs.Lists.{Has}
use Rattle.spark_base.proofs.Lists.{list_any-decides}
use Rattle.place_names.specs.Facts.{is_same_fact}
use Rattle.place_names.proofs.Facts.{is_same_fact-decides}
use Rattle.flow_paths.specs.Laid.{FlowSub, FlowProgram, flow_program, flow_named, typing_of}
use Rattle.laid_program.specs.Layouts.{IsLayout}
use Rattle.laid_program.proofs.Successors.{AreNumbers, all_numbers}
use Rattle.laid_program.proofs.FactLists.{AreAdded, all_added}

numbers_of : (program : FlowProgram) (sub : FlowSub) → Has program.subs sub → IsLayout program → AreNumbers sub
unfolding flow_program
numbers_of program sub h l =
    all_numbers (typing_of program.table l.source) l.source.subs sub (subst (λ (x : FlowProgram). Has x.subs sub) l.laid h)

-- Each successor of a point is the number of a point.
pub layout_numbers : (program : FlowProgram) (sub : FlowSub) → Has program.subs sub → ∥ IsLayout program ∥₁ → AreNumbers sub
layout_numbers program sub h laid p q point next = ∥∥₁_elim laid le_prop (λ l. numbers_of program sub h l p q point next)

added_of : (program : FlowProgram) (sub : FlowSub) → Has program.subs sub → IsLayout program → AreAdded sub
unfolding flow_program
added_of program sub h l =
    all_added (typing_of program.table l.source) (flow_named program.table l.source) sub (subst (λ (x : FlowProgram). Has x.subs sub) l.laid h)

-- The facts have each that an act adds.
pub layout_added : (program : FlowProgram) (sub : FlowSub) → Has program.subs sub → ∥ IsLayout program ∥₁ → AreAdded sub
layout_added program sub h laid p a f point act new =
    let decides = list_any-decides (λ g. is_same_fact g f) f (λ g. is_same_fact-decides g f) sub.facts in
    decides.0 (∥∥₁_elim laid (Bool-set _ _) (λ l. decides.1 (added_of program sub h l p a f point act new)))
