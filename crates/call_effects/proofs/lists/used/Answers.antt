use Rattle.std.proofs.Common.{◌≡◌, ◌<◌, ◌≤◌, ◌∙◌, sym, subst, ℕ, List, length, arith}
use Rattle.spark_base.specs.Lists.{Has}
use Rattle.flow_paths.specs.declared.point.LaidSub.{LaidSub}
use Rattle.call_effects.specs.Spreads.{AreUsers, AreUsersOf}
use Rattle.call_effects.proofs.Filed.{row_is}
use Rattle.call_effects.proofs.Chains.{users_within, users_of}
use Rattle.call_effects.proofs.lists.used.Goals as goal

pub list_object-requires-clause-within : goal.list_object-requires-clause-within
list_object-requires-clause-within c =
    let size : ℕ = c.number_behind-size.result in
    let users : List (List ℕ) = c.in_ok-users.users.items in
    let marked : AreUsersOf c.args.writes c.args.laid.now.rows size c.args.laid.now.subs users =
    subst (λ (subs : List LaidSub). AreUsersOf c.args.writes c.args.laid.now.rows size subs users)
    c.as_slice-subs.ensures c.in_ok-users.ensures in
    let within : c.objects.g < length users = (let s = marked.sized in let t = c.objects-test.true in omega arith) in
    let is = c.as_slice.ensures ∙ row_is users c.objects.g c.index.result.now c.index.result.now within c.index.ensures in
    subst (λ r. (p : ℕ) → Has r p → p < length c.args.laid.now.subs) (sym is)
    (users_within c.args.laid.now size c.objects.g c.args.writes users marked)

pub objects-preserved : goal.objects-preserved
objects-preserved c =
    let size : ℕ = c.number_behind-size.result in
    let users : List (List ℕ) = c.in_ok-users.users.items in
    let marked : AreUsersOf c.args.writes c.args.laid.now.rows size c.args.laid.now.subs users =
    subst (λ (subs : List LaidSub). AreUsersOf c.args.writes c.args.laid.now.rows size subs users)
    c.as_slice-subs.ensures c.in_ok-users.ensures in
    let below : c.objects.g < size = c.objects-test.true in
    let within : c.objects.g < length users = (let s = marked.sized in omega arith) in
    let is = c.as_slice.ensures ∙ row_is users c.objects.g c.index.result.now c.index.result.now within c.index.ensures in
    let these : AreUsers c.args.writes c.args.laid.now.rows c.args.laid.now.subs c.objects.g c.as_slice.result.now =
    subst (AreUsers c.args.writes c.args.laid.now.rows c.args.laid.now.subs c.objects.g) (sym is)
    (users_of c.args.writes c.args.laid.now size c.objects.g users below marked) in
    (c.in_ok-list_object.ensures.ordered, c.in_ok-list_object.ensures.listed c.args.writes these c.objects.invariant.1)

pub returns : goal.returns
returns c =
    let g : c.objects.g ≡ c.number_behind-size.result = (let t = c.objects-test.false in let a = c.objects.auto.g-end in omega arith) in record {
      behind = c.objects.g;
      some = subst (λ n. 0 < n) (sym g) c.number_behind-size.ensures.some;
      objects = subst (λ n. length c.args.laid.now.objects ≤ n) (sym g) c.number_behind-size.ensures.all;
      ordered = c.objects.invariant.0;
      listed = c.objects.invariant.1;
    }
