use Rattle.std.proofs.Common.{◌<◌, ◌∙◌, ap, subst, List, [], ◌∷◌, ◌++◌, ℕ, length, set, arith}
use Rattle.spark_base.specs.Lists.{Has}
use Rattle.call_effects.proofs.Filed.{filed_at, filed_there, row_is}
use Rattle.call_effects.proofs.rows.file.Goals as goal
use Rattle.call_effects.proofs.rows.file.Goals.{then-at-len-via-then-at-len, then-at-len-via-else-at-len+then-ends_in}

pub returns : goal.returns
returns c =
    let rows : List (List ℕ) = c.args.rows.now.items in
    let within : c.args.at < length rows = (let t = c.if-at-len.false in let l = c.len.ensures in omega (arith, c.args.rows.now.ok.0, t, l)) in
    let is = row_is rows c.args.at c.index_mut.result.now c.index_mut.result.now within c.index_mut.ensures.value in
    filed_at c.args.p c.args.at rows _ within
    (ap (set rows c.args.at) (c.in_ok-push.ensures.ok ∙ ap (λ (r : List ℕ). r ++ c.args.p ∷ []) is))

pub returns-then-at-len : goal.returns-then-at-len
returns-then-at-len c =
    let rows : List (List ℕ) = c.args.rows.now.items in
    filed_there c.args.p c.args.at rows (λ lt. elim c.then-at-len.branch [
      | then-at-len-via-then-at-len w ↦ absurd (let t = w.if-at-len.true in let l = c.len.ensures in omega (arith, c.args.rows.now.ok.0, t, l, lt))
      | then-at-len-via-else-at-len+then-ends_in w ↦ (
          let is = w.as_slice.ensures ∙ row_is rows c.args.at w.index.result.now w.index.result.now lt w.index.ensures in
          subst (λ r. Has r c.args.p) is (w.ends_in.ensures w.if-ends_in.true))
    ])
