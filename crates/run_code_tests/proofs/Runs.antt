-- What small sources do as they are lowered is what they do on the machine.
use Rattle.std.proofs.Common.{◌≡◌, refl, []}
use Rattle.std.specs.Prelude.{codes, Some}
use Rattle.flow_tests.proofs.Flow.{flow}
use Rattle.flow_tests.proofs.Sources as flows
use Rattle.machine.specs.Run.{run}
use Rattle.machine_tests.proofs.Running.{running}
use Rattle.machine_tests.proofs.Sources as runs
use Rattle.run_code_tests.proofs.Sources as sources
use Rattle.run_codes.specs.Flat.{word, indexes, filled}
use Rattle.run_codes.specs.Lowered.{lowered, led, value, parts, first_value}
use Rattle.run_codes.specs.Programs.{taken_types, pieces, choices_of, lowered_program}
use Rattle.run_codes.specs.Points.{ran_of, within, lowered_run}

-- The definitions that are computed where a lemma names this one.
unfoldable pub lowering : Type 0
unfolding running word indexes filled lowered led value parts first_value taken_types pieces choices_of lowered_program within lowered_run
lowering = Unit {0}

-- ---- without input

aliases_runs : lowered_run (flow flows.aliases) [] 100 ≡ Some (ran_of (run (flow flows.aliases) [] 100))
unfolding lowering
aliases_runs = refl

arrays_runs : lowered_run (flow flows.arrays) [] 100 ≡ Some (ran_of (run (flow flows.arrays) [] 100))
unfolding lowering
arrays_runs = refl

borrower_runs : lowered_run (flow flows.borrower) [] 100 ≡ Some (ran_of (run (flow flows.borrower) [] 100))
unfolding lowering
borrower_runs = refl

calls_runs : lowered_run (flow flows.calls) [] 100 ≡ Some (ran_of (run (flow flows.calls) [] 100))
unfolding lowering
calls_runs = refl

deep_name_runs : lowered_run (flow flows.deep_name) [] 100 ≡ Some (ran_of (run (flow flows.deep_name) [] 100))
unfolding lowering
deep_name_runs = refl

excused_runs : lowered_run (flow flows.excused) [] 100 ≡ Some (ran_of (run (flow flows.excused) [] 100))
unfolding lowering
excused_runs = refl

exit_of_block_runs : lowered_run (flow flows.exit_of_block) [] 100 ≡ Some (ran_of (run (flow flows.exit_of_block) [] 100))
unfolding lowering
exit_of_block_runs = refl

five_steps_runs : lowered_run (flow flows.five_steps) [] 100 ≡ Some (ran_of (run (flow flows.five_steps) [] 100))
unfolding lowering
five_steps_runs = refl

for_case_runs : lowered_run (flow flows.for_case) [] 100 ≡ Some (ran_of (run (flow flows.for_case) [] 100))
unfolding lowering
for_case_runs = refl

leak_checks_runs : lowered_run (flow flows.leak_checks) [] 100 ≡ Some (ran_of (run (flow flows.leak_checks) [] 100))
unfolding lowering
leak_checks_runs = refl

made_three_runs : lowered_run (flow flows.made_three) [] 100 ≡ Some (ran_of (run (flow flows.made_three) [] 100))
unfolding lowering
made_three_runs = refl

move_in_loop_runs : lowered_run (flow flows.move_in_loop) [] 100 ≡ Some (ran_of (run (flow flows.move_in_loop) [] 100))
unfolding lowering
move_in_loop_runs = refl

nine_lines_runs : lowered_run (flow flows.nine_lines) [] 100 ≡ Some (ran_of (run (flow flows.nine_lines) [] 100))
unfolding lowering
nine_lines_runs = refl

not_too_deep_runs : lowered_run (flow flows.not_too_deep) [] 100 ≡ Some (ran_of (run (flow flows.not_too_deep) [] 100))
unfolding lowering
not_too_deep_runs = refl

one_branch_runs : lowered_run (flow flows.one_branch) [] 100 ≡ Some (ran_of (run (flow flows.one_branch) [] 100))
unfolding lowering
one_branch_runs = refl

other_root_runs : lowered_run (flow flows.other_root) [] 100 ≡ Some (ran_of (run (flow flows.other_root) [] 100))
unfolding lowering
other_root_runs = refl

reborrow_past_hole_runs : lowered_run (flow flows.reborrow_past_hole) [] 100 ≡ Some (ran_of (run (flow flows.reborrow_past_hole) [] 100))
unfolding lowering
reborrow_past_hole_runs = refl

recursion_runs : lowered_run (flow flows.recursion) [] 100 ≡ Some (ran_of (run (flow flows.recursion) [] 100))
unfolding lowering
recursion_runs = refl

short_call_runs : lowered_run (flow flows.short_call) [] 100 ≡ Some (ran_of (run (flow flows.short_call) [] 100))
unfolding lowering
short_call_runs = refl

traversal_runs : lowered_run (flow flows.traversal) [] 100 ≡ Some (ran_of (run (flow flows.traversal) [] 100))
unfolding lowering
traversal_runs = refl

two_blocks_runs : lowered_run (flow flows.two_blocks) [] 100 ≡ Some (ran_of (run (flow flows.two_blocks) [] 100))
unfolding lowering
two_blocks_runs = refl

two_exits_runs : lowered_run (flow flows.two_exits) [] 100 ≡ Some (ran_of (run (flow flows.two_exits) [] 100))
unfolding lowering
two_exits_runs = refl

views_runs : lowered_run (flow flows.views) [] 100 ≡ Some (ran_of (run (flow flows.views) [] 100))
unfolding lowering
views_runs = refl

given_up_runs : lowered_run (flow runs.given_up) [] 100 ≡ Some (ran_of (run (flow runs.given_up) [] 100))
unfolding lowering
given_up_runs = refl

images_runs : lowered_run (flow runs.images) [] 100 ≡ Some (ran_of (run (flow runs.images) [] 100))
unfolding lowering
images_runs = refl

inner_leak_runs : lowered_run (flow runs.inner_leak) [] 100 ≡ Some (ran_of (run (flow runs.inner_leak) [] 100))
unfolding lowering
inner_leak_runs = refl

next_lost_runs : lowered_run (flow runs.next_lost) [] 100 ≡ Some (ran_of (run (flow runs.next_lost) [] 100))
unfolding lowering
next_lost_runs = refl

no_return_runs : lowered_run (flow runs.no_return) [] 100 ≡ Some (ran_of (run (flow runs.no_return) [] 100))
unfolding lowering
no_return_runs = refl

null_read_runs : lowered_run (flow runs.null_read) [] 100 ≡ Some (ran_of (run (flow runs.null_read) [] 100))
unfolding lowering
null_read_runs = refl

one_null_runs : lowered_run (flow runs.one_null) [] 100 ≡ Some (ran_of (run (flow runs.one_null) [] 100))
unfolding lowering
one_null_runs = refl

one_slot_runs : lowered_run (flow runs.one_slot) [] 100 ≡ Some (ran_of (run (flow runs.one_slot) [] 100))
unfolding lowering
one_slot_runs = refl

overflow_runs : lowered_run (flow runs.overflow) [] 100 ≡ Some (ran_of (run (flow runs.overflow) [] 100))
unfolding lowering
overflow_runs = refl

passing_runs : lowered_run (flow runs.passing) [] 100 ≡ Some (ran_of (run (flow runs.passing) [] 100))
unfolding lowering
passing_runs = refl

self_move_runs : lowered_run (flow runs.self_move) [] 100 ≡ Some (ran_of (run (flow runs.self_move) [] 100))
unfolding lowering
self_move_runs = refl

short_circuits_runs : lowered_run (flow runs.short_circuits) [] 100 ≡ Some (ran_of (run (flow runs.short_circuits) [] 100))
unfolding lowering
short_circuits_runs = refl

two_slots_runs : lowered_run (flow runs.two_slots) [] 100 ≡ Some (ran_of (run (flow runs.two_slots) [] 100))
unfolding lowering
two_slots_runs = refl

copying_back_runs : lowered_run (flow sources.copying_back) [] 300 ≡ Some (ran_of (run (flow sources.copying_back) [] 300))
unfolding lowering
copying_back_runs = refl

deep_indexes_runs : lowered_run (flow sources.deep_indexes) [] 300 ≡ Some (ran_of (run (flow sources.deep_indexes) [] 300))
unfolding lowering
deep_indexes_runs = refl

loops_and_choices_runs : lowered_run (flow sources.loops_and_choices) [] 300 ≡ Some (ran_of (run (flow sources.loops_and_choices) [] 300))
unfolding lowering
loops_and_choices_runs = refl

package_state_runs : lowered_run (flow sources.package_state) [] 300 ≡ Some (ran_of (run (flow sources.package_state) [] 300))
unfolding lowering
package_state_runs = refl

touched_runs : lowered_run (flow sources.touched) [] 300 ≡ Some (ran_of (run (flow sources.touched) [] 300))
unfolding lowering
touched_runs = refl

twice_runs : lowered_run (flow sources.twice) [] 300 ≡ Some (ran_of (run (flow sources.twice) [] 300))
unfolding lowering
twice_runs = refl

waiting_values_runs : lowered_run (flow sources.waiting_values) [] 300 ≡ Some (ran_of (run (flow sources.waiting_values) [] 300))
unfolding lowering
waiting_values_runs = refl

-- ---- with input and budgets

no_number : lowered_run (flow runs.two_items) (codes "12 x") 100 ≡ Some (ran_of (run (flow runs.two_items) (codes "12 x") 100))
unfolding lowering
no_number = refl

no_item : lowered_run (flow runs.two_items) (codes "12") 100 ≡ Some (ran_of (run (flow runs.two_items) (codes "12") 100))
unfolding lowering
no_item = refl

two_numbers : lowered_run (flow runs.two_items) (codes "12 34") 100 ≡ Some (ran_of (run (flow runs.two_items) (codes "12 34") 100))
unfolding lowering
two_numbers = refl

one_step : lowered_run (flow runs.one_null) [] 1 ≡ Some (ran_of (run (flow runs.one_null) [] 1))
unfolding lowering
one_step = refl
