use Rattle.std.proofs.Common.{◌≡◌, ℕ, List, [], ◌∷◌, ◌++◌, map, sym, ap, ◌∙◌, append_assoc}
use Rattle.std.proofs.lemmas.Option.{slice_get-get_or, slice_get_past}
use Rattle.std.proofs.lemmas.Result.{on_ok_weaker}
use Rattle.type_definitions.specs.declared.table.Info.{Info}
use Rattle.type_definitions.specs.Types.{Table, info, info_found}
use Rattle.type_ranks.specs.declared.visits.Visit.{Visit}
use Rattle.type_ranks.specs.Ranks.{parts}
use Rattle.type_ranks.specs.Stages.{entered, fresh}
use Rattle.type_ranks.proofs.ranking.Ranking.enter.Goals as goal

stacked : (old new all : List Visit) (t : ℕ) (i : Info) → new ≡ old ++ entered t ∷ [] → all ≡ new ++ map fresh (parts i)
    → all ≡ old ++ entered t ∷ map fresh (parts i)
stacked old new all t i pushed put = put ∙ ap (λ vs. vs ++ map fresh (parts i)) pushed ∙ append_assoc old (entered t ∷ []) (map fresh (parts i))

pub returns-in-Some-clause-stack : goal.returns-in-Some-clause-stack
returns-in-Some-clause-stack c =
    let t : ℕ = c.args.t in
    let table : Table = c.args.table.now in
    let i : Info = c.in-Some.info.now in
    let found : i ≡ info table t = c.in-Some.ensures.lookup.1 ∙ sym (ap info_found (slice_get-get_or table t i c.in-Some.ensures.lookup.3.0)) in
    on_ok_weaker c.put_parts.result
    (λ put. stacked c.args.self.now.stack.items c.push.new.self.items c.put_parts.new.stack.items t i c.in_ok-push.ensures.items put
    ∙ ap (λ j. c.args.self.now.stack.items ++ entered t ∷ map fresh (parts j)) found)
    c.put_parts.ensures

pub returns-in-None-clause-stack : goal.returns-in-None-clause-stack
returns-in-None-clause-stack c =
    c.in_ok-push.ensures.items
    ∙ ap (λ o. c.args.self.now.stack.items ++ entered c.args.t ∷ map fresh (parts (info_found o))) (sym (slice_get_past c.args.table.now c.args.t c.in-None.ensures.lookup.3))
