use Rattle.std.proofs.Common.{◌≡◌, refl, subst, IfOk, IsTrue}
use Rattle.typed_tree.specs.Nodes.{typed_at, typed_code_at}
use Rattle.flow_paths.specs.Acts.{acts_of}
use Rattle.flow_acts.specs.Depths.{has_deep}
use Rattle.flow_acts.specs.Frames.{frame, instruction}
use Rattle.flow_acts.specs.NamedActs.{named_acts}
use Rattle.flow_acts.proofs.ByInstruction.{named_other, deep_ok, deep_true}
use Rattle.flow_acts.proofs.writer.ActWriter.acts_of.Goals as goal

pub returns-in_ok-ended-in-EndScope-clause-acts : goal.returns-in_ok-ended-in-EndScope-clause-acts
returns-in_ok-ended-in-EndScope-clause-acts c = rw c.in-EndScope.is c.in_ok-ended-in-EndScope.ensures

pub returns-in_ok-ended-in-EndScope-clause-within :
    goal.returns-in_ok-ended-in-EndScope-clause-within
returns-in_ok-ended-in-EndScope-clause-within c =
    rw c.in-EndScope.is (rw c.in_ok-ended-in-EndScope.ensures refl)

pub returns-in_ok-finished-in-Finish-clause-acts :
    goal.returns-in_ok-finished-in-Finish-clause-acts
returns-in_ok-finished-in-Finish-clause-acts c = rw c.in-Finish.is c.in_ok-finished-in-Finish.ensures

pub returns-in_ok-finished-in-Finish-clause-within :
    goal.returns-in_ok-finished-in-Finish-clause-within
returns-in_ok-finished-in-Finish-clause-within c = rw c.in-Finish.is (rw c.in_ok-finished-in-Finish.ensures refl)

pub returns-in_default : goal.returns-in_default
returns-in_default c =
    let roots = c.args.roots.now in
    let same : named_acts (frame c.args.self.now c.args.given roots) c.args.pos (instruction c.args.self.now c.args.instr.now)
    ≡ acts_of (frame c.args.self.now c.args.given roots) c.args.pos (instruction c.args.self.now c.args.instr.now) =
    named_other (frame c.args.self.now c.args.given roots) c.args.pos (typed_at c.args.self.now.rows.now)
    (typed_code_at c.args.self.now.rows.now) c.args.instr.now c.in_default.not-EndScope c.in_default.not-Finish in
    record {
      acts = subst (λ xs. IfOk c.named.result (λ acts. acts ≡ xs)) same (c.named.ensures.acts roots);
      within = deep_ok (instruction c.args.self.now c.args.instr.now) c.named.result c.named.ensures.within;
      deep = λ e. deep_true (instruction c.args.self.now c.args.instr.now)
          (acts_of (frame c.args.self.now c.args.given roots) c.args.pos (instruction c.args.self.now c.args.instr.now)) (subst (λ xs. IsTrue (has_deep xs)) same (c.named.ensures.deep roots e));
    }
