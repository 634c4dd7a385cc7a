use Rattle.std.proofs.Common.{◌≡◌, ◌≢◌, ◌++◌, List, subst}
use Rattle.std.specs.Option.{MatchOption}
use Rattle.std.proofs.lemmas.Slice.Eq.{strip_prefix_is}
use Rattle.place_names.specs.declared.selector.Sel.{Sel}
use Rattle.sub_summary.proofs.PartFacts.{selector-decides, joined_some, joined_none}
use Rattle.sub_summary.proofs.facts.is_joined.Goals as goal

pub returns-in-Some : goal.returns-in-Some
returns-in-Some c =
    let front = c.args.front.now in
    let whole = c.args.whole.now in
    let found = strip_prefix_is selector-decides whole front c.strip_prefix.result c.strip_prefix.ensures.cases in
    let is = subst (λ r. MatchOption r ((rest : List Sel) → whole ≢ front ++ rest) (λ x. whole ≡ front ++ x.now)) c.in-Some.is found in
    joined_some front c.args.back.now whole c.in-Some.rest.now c.eq.result is c.eq.ensures

pub returns-in-None : goal.returns-in-None
returns-in-None c =
    let front = c.args.front.now in
    let whole = c.args.whole.now in
    let found = strip_prefix_is selector-decides whole front c.strip_prefix.result c.strip_prefix.ensures.cases in
    let none = subst (λ r. MatchOption r ((rest : List Sel) → whole ≢ front ++ rest) (λ x. whole ≡ front ++ x.now)) c.in-None.is found in
    joined_none front c.args.back.now whole none
