use Rattle.std.proofs.Common.{◌≡◌, ap, subst, length, arith}
use Rattle.std.specs.List.{list_any}
use Rattle.call_effects.specs.Uses.{points_at, laid_uses}
use Rattle.call_effects.specs.Rows.{AreMarked}
use Rattle.call_effects.proofs.Filed.{marked_none, marked_more, points_is}
use Rattle.call_effects.proofs.uses.users.Goals as goal

pub subs-init : goal.subs-init
subs-init c = marked_none c.args.size (λ p a. list_any (laid_uses c.args.writes c.args.rows.now a) (points_at c.args.subs.now p)) c.in_ok-users.users.items c.in_ok-users.ensures

pub subs-preserved : goal.subs-preserved
subs-preserved c =
    let points = points_is c.args.subs.now c.subs.p c.index-subs-p.result c.as_slice.result.now c.subs-test.true c.as_slice.ensures in
    marked_more c.args.size c.subs.p (λ p a. list_any (laid_uses c.args.writes c.args.rows.now a) (points_at c.args.subs.now p))
    (λ a. list_any (laid_uses c.args.writes c.args.rows.now a) c.as_slice.result.now) c.subs.users.items c.file_points.new.users.items
    (λ a. ap (list_any (laid_uses c.args.writes c.args.rows.now a)) points) c.subs.invariant c.in_ok-file_points.ensures

pub returns : goal.returns
returns c =
    let all : c.subs.p ≡ length c.args.subs.now = (let m = c.subs-test.false in let a = c.subs.auto.p-end in omega arith) in
    subst (λ n. AreMarked c.args.size n (λ p a. list_any (laid_uses c.args.writes c.args.rows.now a) (points_at c.args.subs.now p)) c.subs.users.items) all c.subs.invariant
