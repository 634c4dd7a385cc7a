use Rattle.std.proofs.Common.{◌∙◌, ◌≡◌, ℕ, ap, sym, arith, List, length, take, []}
use Rattle.std.proofs.Math.Seq.{take-length}
use Rattle.place_names.specs.declared.fact.Fact.{Fact}
use Rattle.flow_paths.specs.Objects.{Typing}
use Rattle.program_typing.specs.Typings.{typing}
use Rattle.sub_summary.specs.FactLists.{with_root, with_roots}
use Rattle.sub_summary.proofs.KeptRoots.{roots_step, roots_once}
use Rattle.sub_summary.proofs.roots.kept_roots.Goals as goal

pub facts-preserved : goal.facts-preserved
facts-preserved c =
    c.in_ok-add_root.ensures ∙ ap (λ (keys : List ℕ). with_root (typing c.args.program.now) keys c.fact-item.result) c.facts.invariant
    ∙ roots_step (typing c.args.program.now) c.args.facts.now c.facts.fact-index c.fact-item.result c.facts-test.true c.fact-item.is

pub returns : goal.returns
returns c =
    let s : Typing = typing c.args.program.now in
    let past = c.facts-test.false in
    let within = c.facts.auto.fact-index-end in
    let end : c.facts.fact-index ≡ length c.args.facts.now = omega (arith, past, within) in
    c.from_vec.ensures ∙ c.in_ok-in_order.ensures ∙ c.facts.invariant
    ∙ ap (λ (i : ℕ). with_roots s [] (take i c.args.facts.now)) end
    ∙ ap (with_roots s []) (take-length c.args.facts.now) ∙ roots_once s c.args.facts.now
