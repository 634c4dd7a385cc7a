use Rattle.std.proofs.Common.{◌+◌, List, [], map, refl, ap, ◌∙◌}
use Rattle.flow_paths.specs.Laid.{kept_roots}
use Rattle.numbered_points.specs.Programs.{facts_in}
use Rattle.flow_acts.specs.Frames.{site}
use Rattle.sub_summary.specs.Gathered.{rooted_point, words_of}
use Rattle.flow_paths.specs.declared.point.Point.{Point}
use Rattle.sub_layout.specs.Dressed.{points_in}
use Rattle.sub_layout.specs.Subs.{sub_in}
use Rattle.sub_layout.proofs.SubsOnce.{frame_is, gathered_is}
use Rattle.sub_layout.proofs.subs.gathered.Goals as goal

pub returns-clause-sub : goal.returns-clause-sub
returns-clause-sub c =
    let w = c.args.writer.now in
    let b = c.args.sub.now in
    gathered_is w b c.args.types.now c.args.points.items _ refl
    (c.in_ok-words.ensures ∙ (λ i. words_of (site w) (c.as_slice.ensures i) [] c.args.types.now + c.requires.words i)
    ∙ frame_is (site w) (sub_in w b) c.args.types.now)
    (c.in_ok-formals.ensures ∙ c.as_slice-2.ensures) refl
    (c.in_ok-facts.ensures.facts ∙ ap (λ (ps : List Point). facts_in (points_in w.rows.now ps)) c.deref.ensures.value)
    (c.in_ok-points.ensures
    ∙ (λ i. map (rooted_point (c.as_slice-4.ensures i)) c.args.points.items)
    ∙ (λ i. map (rooted_point (c.in_ok-roots.ensures i)) c.args.points.items)
    ∙ (λ i. map (rooted_point (kept_roots (site w) 0 (site w).objects (c.as_slice-3.ensures i))) c.args.points.items))
