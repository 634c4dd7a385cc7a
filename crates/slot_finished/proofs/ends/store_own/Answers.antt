use Rattle.std.proofs.Common.{◌≡◌, ◌+◌, ◌≤◌, Err, List, length, refl, sym, ap, subst, ◌∙◌, rules, Result}
use Rattle.std.specs.Prelude.{OnErr, IsErrOf}
use Rattle.run_codes.specs.Points.{Return}
use Rattle.code_rows.specs.declared.stop.Stop.{Stop}
use Rattle.code_rows.specs.declared.stop.Stop.TheVariants as stop
use Rattle.slot_frames.specs.Frames.{return_of}
use Rattle.slot_frames.specs.Parts.{own_returns}
use Rattle.slot_returns.proofs.Rounds.{Round, round_first, round_can, round_next, round_stops, round_end}
use Rattle.slot_finished.proofs.Backs.{returns_from, own_from, returns_next, returns_end}
use Rattle.slot_finished.proofs.ends.store_own.Goals as goal

pub returns-init : goal.returns-init
returns-init g c =
    let all : List Return = own_returns c.args.frames.now in
    let P : List Return → Type 0 = λ l. Round g.R.Store.Means c.args.memory.now c.args.table.now all l c.args.memory.now in
    record {
      turn = subst P (own_from c.args.frames.now c.frame-i.result c.frame-i.ensures) (round_first g.R.Store.Means c.args.memory.now c.args.table.now all);
      elsewhere = refl;
    }

pub copy_one-requires : goal.copy_one-requires
copy_one-requires g c =
    let left = returns_next c.args.frames.now c.returns.i c.back.result c.back.ensures in
    let all : List Return = own_returns c.args.frames.now in
    let P : List Return → Type 0 = λ l. Round g.R.Store.Means c.args.memory.now c.args.table.now all l c.returns.memory in
    round_can g.R.Store.Means c.args.memory.now c.args.table.now all (return_of c.back.result) (returns_from c.args.frames.now (c.returns.i + 1))
    c.returns.memory c.requires (subst P left c.returns.invariant.turn)

pub returns-in_err-copy_one-clause-memory : goal.returns-in_err-copy_one-clause-memory
returns-in_err-copy_one-clause-memory g c =
    let left = returns_next c.args.frames.now c.returns.i c.back.result c.back.ensures in
    let all : List Return = own_returns c.args.frames.now in
    let P : List Return → Type 0 = λ l. Round g.R.Store.Means c.args.memory.now c.args.table.now all l c.returns.memory in
    let err : c.from_residual.result ≡ Err c.in_err-copy_one.field-0.0 = search rules in
    let memory =
    round_stops g.R.Store.Means c.args.memory.now c.args.table.now all (return_of c.back.result) (returns_from c.args.frames.now (c.returns.i + 1))
    c.returns.memory c.copy_one.new.memory c.in_err-copy_one.field-0.0 c.requires (subst P left c.returns.invariant.turn) c.in_err-copy_one.ensures.copied in
    let Q : Result (Unit {0}) Stop → Type 0 = λ r. OnErr r (IsErrOf r stop.Memory) in
    subst Q (sym err) (ap Err memory)

pub returns-preserved : goal.returns-preserved
returns-preserved g c =
    let left = returns_next c.args.frames.now c.returns.i c.back.result c.back.ensures in
    let all : List Return = own_returns c.args.frames.now in
    let P : List Return → Type 0 = λ l. Round g.R.Store.Means c.args.memory.now c.args.table.now all l c.returns.memory in
    record {
      turn =
          round_next g.R.Store.Means c.args.memory.now c.args.table.now all (return_of c.back.result) (returns_from c.args.frames.now (c.returns.i + 1))
          c.returns.memory c.copy_one.new.memory (subst P left c.returns.invariant.turn) c.in_ok-copy_one.ensures.copied;
      elsewhere = c.in_ok-copy_one.ensures.elsewhere ∙ c.returns.invariant.elsewhere;
    }

pub returns-clause-stored : goal.returns-clause-stored
returns-clause-stored g c =
    let all : List Return = own_returns c.args.frames.now in
    let P : List Return → Type 0 = λ l. Round g.R.Store.Means c.args.memory.now c.args.table.now all l c.returns.memory in
    let past : length c.args.frames.now.returns ≤ c.returns.i = search rules in
    round_end g.R.Store.Means c.args.memory.now c.args.table.now all c.returns.memory (subst P (returns_end c.args.frames.now c.returns.i past) c.returns.invariant.turn)
