-- The sources are typed: each place takes words of its own sorts.
use Rattle.std.proofs.Common.{◌≡◌, refl}
use Rattle.std.specs.Prelude.{true}
use Rattle.flow_tests.proofs.Flow.{flow}
use Rattle.flow_tests.proofs.Sources as flows
use Rattle.machine.specs.Typed.{is_typed}
use Rattle.machine_tests.proofs.Running.{running}
use Rattle.machine_tests.proofs.Sources as runs

aliases_typed : is_typed (flow flows.aliases) ≡ true
unfolding running
aliases_typed = refl

arrays_typed : is_typed (flow flows.arrays) ≡ true
unfolding running
arrays_typed = refl

borrower_typed : is_typed (flow flows.borrower) ≡ true
unfolding running
borrower_typed = refl

calls_typed : is_typed (flow flows.calls) ≡ true
unfolding running
calls_typed = refl

deep_name_typed : is_typed (flow flows.deep_name) ≡ true
unfolding running
deep_name_typed = refl

excused_typed : is_typed (flow flows.excused) ≡ true
unfolding running
excused_typed = refl

exit_of_block_typed : is_typed (flow flows.exit_of_block) ≡ true
unfolding running
exit_of_block_typed = refl

five_steps_typed : is_typed (flow flows.five_steps) ≡ true
unfolding running
five_steps_typed = refl

for_case_typed : is_typed (flow flows.for_case) ≡ true
unfolding running
for_case_typed = refl

leak_checks_typed : is_typed (flow flows.leak_checks) ≡ true
unfolding running
leak_checks_typed = refl

made_three_typed : is_typed (flow flows.made_three) ≡ true
unfolding running
made_three_typed = refl

move_in_loop_typed : is_typed (flow flows.move_in_loop) ≡ true
unfolding running
move_in_loop_typed = refl

nine_lines_typed : is_typed (flow flows.nine_lines) ≡ true
unfolding running
nine_lines_typed = refl

not_too_deep_typed : is_typed (flow flows.not_too_deep) ≡ true
unfolding running
not_too_deep_typed = refl

one_branch_typed : is_typed (flow flows.one_branch) ≡ true
unfolding running
one_branch_typed = refl

other_root_typed : is_typed (flow flows.other_root) ≡ true
unfolding running
other_root_typed = refl

reborrow_past_hole_typed : is_typed (flow flows.reborrow_past_hole) ≡ true
unfolding running
reborrow_past_hole_typed = refl

recursion_typed : is_typed (flow flows.recursion) ≡ true
unfolding running
recursion_typed = refl

short_call_typed : is_typed (flow flows.short_call) ≡ true
unfolding running
short_call_typed = refl

traversal_typed : is_typed (flow flows.traversal) ≡ true
unfolding running
traversal_typed = refl

two_blocks_typed : is_typed (flow flows.two_blocks) ≡ true
unfolding running
two_blocks_typed = refl

two_exits_typed : is_typed (flow flows.two_exits) ≡ true
unfolding running
two_exits_typed = refl

views_typed : is_typed (flow flows.views) ≡ true
unfolding running
views_typed = refl

given_up_typed : is_typed (flow runs.given_up) ≡ true
unfolding running
given_up_typed = refl

images_typed : is_typed (flow runs.images) ≡ true
unfolding running
images_typed = refl

inner_leak_typed : is_typed (flow runs.inner_leak) ≡ true
unfolding running
inner_leak_typed = refl

next_lost_typed : is_typed (flow runs.next_lost) ≡ true
unfolding running
next_lost_typed = refl

no_return_typed : is_typed (flow runs.no_return) ≡ true
unfolding running
no_return_typed = refl

null_read_typed : is_typed (flow runs.null_read) ≡ true
unfolding running
null_read_typed = refl

one_null_typed : is_typed (flow runs.one_null) ≡ true
unfolding running
one_null_typed = refl

one_slot_typed : is_typed (flow runs.one_slot) ≡ true
unfolding running
one_slot_typed = refl

overflow_typed : is_typed (flow runs.overflow) ≡ true
unfolding running
overflow_typed = refl

passing_typed : is_typed (flow runs.passing) ≡ true
unfolding running
passing_typed = refl

self_move_typed : is_typed (flow runs.self_move) ≡ true
unfolding running
self_move_typed = refl

short_circuits_typed : is_typed (flow runs.short_circuits) ≡ true
unfolding running
short_circuits_typed = refl

two_items_typed : is_typed (flow runs.two_items) ≡ true
unfolding running
two_items_typed = refl

two_slots_typed : is_typed (flow runs.two_slots) ≡ true
unfolding running
two_slots_typed = refl
