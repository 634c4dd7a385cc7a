use Rattle.std.proofs.Common.{◌≡◌, ℕ, false, below_more, sym, ◌∙◌, true≢false}
use Rattle.type_definitions.specs.Types.{info}
use Rattle.type_settled.specs.Measures.{marked}
use Rattle.type_settled.specs.Reach.{holds, is_in}
use Rattle.type_settled.proofs.reach.is_closed.Goals as goal
use Rattle.type_settled.proofs.reach.is_closed.Goals.{else-not-is_marked-via-then-not-is_marked+else-holds, else-not-is_marked-via-else-not-is_marked}
use Rattle.type_settled.proofs.Reached.{closed_at}

pub types-preserved : goal.types-preserved
types-preserved c =
    let made = c.args.made.now in
    let t : ℕ = c.types.t in
    let here : marked made t ≡ false → holds c.args.parents (is_in c.args.marks.now made) (info c.args.table.now t) ≡ false =
    elim c.else-not-is_marked.branch [
      | else-not-is_marked-via-then-not-is_marked+else-holds w ↦
          λ left.
          closed_at c.args.parents c.args.marks.now made c.args.table.now t c.index-table-t.result c.types-test.true c.index-table-t.is
          (sym w.holds.ensures ∙ w.if-holds.false)
      | else-not-is_marked-via-else-not-is_marked w ↦
          λ left. absurd (true≢false (sym w.if-not-is_marked.false ∙ c.is_marked.ensures ∙ left))
    ] in
    below_more (λ k. marked made k ≡ false → holds c.args.parents (is_in c.args.marks.now made) (info c.args.table.now k) ≡ false) t
    c.types.invariant here
