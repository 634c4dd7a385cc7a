use Rattle.std.proofs.Common.{ap, ◌∙◌, Bool, ◌&&◌, ◌||◌, ◌==◌}
use Rattle.typed_tree.specs.Nodes.{typed_at, typed_code_at}
use Rattle.flow_paths.specs.Instructions.{instruction_of}
use Rattle.call_effects.specs.Uses.{text_uses, acts_use, laid_uses}
use Rattle.call_effects.proofs.Filed.{filed_on, filed_same}
use Rattle.call_effects.proofs.uses.file_point.Goals as goal

pub returns : goal.returns
returns c =
    let w : Bool = c.args.writes in
    filed_same c.args.p (λ g. (g == 0 && c.text_uses.result) || acts_use w g c.as_slice.result.now) (λ g. laid_uses w c.args.rows.now g c.args.point.now)
    c.args.users.now.items c.file_acts.new.rows.items
    (λ g. ap (λ b. (g == 0 && b) || acts_use w g c.as_slice.result.now) c.text_uses.ensures
    ∙ ap (λ acts. (g == 0 && text_uses w (instruction_of (typed_at c.args.rows.now) (typed_code_at c.args.rows.now) c.args.point.now.instr)) || acts_use w g acts) c.as_slice.ensures)
    (filed_on c.args.p (λ g. g == 0 && c.text_uses.result) (λ g. acts_use w g c.as_slice.result.now) c.args.users.now.items c.file_text.new.users.items
    c.file_acts.new.rows.items c.in_ok-file_text.ensures c.in_ok-file_acts.ensures)
