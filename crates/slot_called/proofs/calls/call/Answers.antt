use Rattle.std.proofs.Common.{◌≡◌, List, length, map, sym, subst, rules, Ok}
use Rattle.run_codes.specs.Codes.{Sub, Actual}
use Rattle.run_codes.specs.Points.{sub_at}
use Rattle.code_rows.specs.Points.{actuals_of, program_of, sub_of}
use Rattle.run_results.specs.Results.{leaks_of}
use Rattle.slot_formals.specs.slot_calls.declared.actuals.Pass.{Pass}
use Rattle.slot_formals.specs.slot_calls.Calls.{passed_of, AreWithin}
use Rattle.slot_formals.specs.Formals.{framed}
use Rattle.slot_formals.specs.Leads.{Gives}
use Rattle.slot_called.specs.Calls.{PassedTested}
use Rattle.slot_called.proofs.Tested.{sound_rows}
use Rattle.slot_called.proofs.Called.{taken_below, can_row, call_begins, call_done, call_lent}
use Rattle.slot_called.proofs.calls.call.Goals as goal

pub pass_tested-requires-clause-sound : goal.pass_tested-requires-clause-sound
pass_tested-requires-clause-sound g c = sound_rows c.args.codes.now c.requires.whole

pub pass_tested-requires-clause-can : goal.pass_tested-requires-clause-can
pass_tested-requires-clause-can g c =
    can_row g.R.Store.Means c.args.memory.now c.args.table.now (sub_at (program_of c.args.codes.now) c.args.sub) (sub_of c.args.codes.now c.sub_at-row.result) c.sub_at-row.ensures.sub
    c.args.words.now (actuals_of c.args.codes.now.rows c.args.actuals) c.requires.can

pub begin_frame-requires-clause-within : goal.begin_frame-requires-clause-within
begin_frame-requires-clause-within g c =
    let passes : c.deref.result.now ≡ c.pass_tested.new.passes.items = search rules in
    subst (λ (ps : List Pass). AreWithin (length c.pass_tested.new.hand) ps) (sym passes) c.in_ok-pass_tested.ensures.within

pub begin_frame-requires-clause-whole : goal.begin_frame-requires-clause-whole
begin_frame-requires-clause-whole g c =
    let passes : c.deref.result.now ≡ c.pass_tested.new.passes.items = search rules in
    let row : Sub = sub_of c.args.codes.now c.sub_at-row.result in
    subst (λ (ps : List Pass). Gives g.R.Store.Means c.pass_tested.new.memory (framed c.args.table.now row (map (passed_of c.pass_tested.new.hand) ps))) (sym passes)
    (call_begins g.R.Store.Means c.args.memory.now c.args.table.now (sub_at (program_of c.args.codes.now) c.args.sub) row c.sub_at-row.ensures.sub
    c.args.words.now (actuals_of c.args.codes.now.rows c.args.actuals) (tt {0}) c.pass_tested.new.hand c.pass_tested.new.passes.items c.pass_tested.new.memory
    c.in_ok-pass_tested.ensures.passed c.requires.can)

pub enter-requires-clause-below : goal.enter-requires-clause-below
enter-requires-clause-below g c =
    taken_below c.args.frames.now c.begin_frame.new.frames c.args.k _ c.args.memory.now c.pass_tested.new.memory c.begin_frame.new.memory c.in_ok-base.ensures.returns
    c.pass_tested.ensures.elsewhere c.in_ok-base.ensures.elsewhere c.requires.below

pub returns-clause-called : goal.returns-clause-called
returns-clause-called g c =
    let passes : c.deref.result.now ≡ c.pass_tested.new.passes.items = search rules in
    let row : Sub = sub_of c.args.codes.now c.sub_at-row.result in
    let actuals : List Actual = actuals_of c.args.codes.now.rows c.args.actuals in
    let P : List Pass → Type 0 =
    λ ps. PassedTested {U = Unit {0}} g.R.Store.Means c.args.memory.now c.args.table.now row c.args.words.now actuals (Ok (tt {0})) (map (passed_of c.pass_tested.new.hand) ps) c.pass_tested.new.memory in
    call_done g.R.Store.Means c.args.memory.now c.args.table.now (sub_at (program_of c.args.codes.now) c.args.sub) row c.sub_at-row.ensures.sub c.args.words.now actuals
    (tt {0}) c.pass_tested.new.hand c.deref.result.now c.pass_tested.new.memory (subst P (sym passes) c.in_ok-pass_tested.ensures.passed)
    c.begin_frame.new.memory (leaks_of c.args.found.now.items) (leaks_of c.begin_frame.new.found.items) c.in_ok-base.ensures.begun c.pass_tested.ensures.elsewhere c.in_ok-base.ensures.elsewhere
    c.args.frames.now c.begin_frame.new.frames c.in_ok-base.ensures.returns c.in_ok-base.base c.returning-returned.result c.in_ok-base.ensures.base c.returning-returned.ensures
    c.enter.result c.enter.new.memory c.enter.new.frames c.args.k c.args.next c.enter.ensures.memory c.enter.ensures.frames c.enter.ensures.stop

pub returns-clause-lent : goal.returns-clause-lent
returns-clause-lent g c =
    call_lent c.args.memory.now c.pass_tested.new.memory c.begin_frame.new.memory c.enter.new.memory c.begin_frame.new.frames c.args.k c.in_ok-base.base c.enter.result
    c.pass_tested.ensures.elsewhere c.in_ok-base.ensures.elsewhere c.enter.ensures.memory c.enter.ensures.stop
