use Rattle.std.proofs.Common.{◌≡◌, ◌<◌, ◌∙◌, ℕ, true, false, sym, subst, slice_get}
use Rattle.type_definitions.specs.Types.{Table}
use Rattle.type_ranks.specs.Ranks.{AreRanks}
use Rattle.settled_types.specs.TableLaws.Ranks.{rank, fits}
use Rattle.run_ready.proofs.Fitting.{fit_ranks, fit_by}
use Rattle.run_ready.proofs.types.is_fit.Goals.{then-all_fit, else-all_fit}
use Rattle.run_ready.proofs.types.is_fit.Goals as goal

never : true ≡ false → ⊥
never is = cc

-- src/types.rt:140:1
pub returns-clause-complete : goal.returns-clause-complete
returns-clause-complete c fit =
    let table : Table = c.args.table.now in
    let are : AreRanks table (rank c.in_ok-ranks.ranks.items) =
    subst (λ t. AreRanks t (rank c.in_ok-ranks.ranks.items)) c.infos.ensures
    (c.in_ok-ranks.ensures (rank fit.ranks) (subst (λ t. AreRanks t (rank fit.ranks)) (sym c.infos.ensures) (fit_ranks table fit))) in
    let each : (t : ℕ) → t < c.in_ok-types.types → fits table c.deref.result.now t (slice_get table t) ≡ true =
    λ t low. subst (λ ranks. fits table ranks t (slice_get table t) ≡ true) (sym c.deref.ensures.value)
    (fit_by table fit c.in_ok-ranks.ranks.items are t (subst (λ n. t < n) c.in_ok-types.ensures low)) in
    elim c.if-all_fit.branch [
      | then-all_fit w ↦ w.result-is ∙ w.has_truth.ensures ∙ fit.truth
      | else-all_fit w ↦ absurd (never (sym (c.all_fit.ensures.complete each) ∙ w.if-all_fit.false))
    ]
