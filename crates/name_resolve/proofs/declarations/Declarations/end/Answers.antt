use Rattle.std.proofs.Common.{Bool, sym, subst, filter, not, nat_eq}
use Rattle.name_events.specs.declared.declaration.Declaration.{Declaration}
use Rattle.name_resolve.specs.Stands.{StandFor}
use Rattle.name_resolve.proofs.Symbols.{stand_for_filtered}
use Rattle.name_resolve.proofs.declarations.Declarations.end.Goals as goal

pub returns : goal.returns
returns c declared pending ended completed s =
    let words = c.args.self.now.words in
    let stay : Declaration → Bool = λ d. not (nat_eq c.args.region d.region) in
    record {
      declared = s.declared;
      awaiting = s.awaiting;
      awaiting_only = s.awaiting_only;
      all = s.all;
      procedure = s.procedure;
      pending = subst (λ ds. StandFor words ds (filter (λ entry. stay entry.1) pending)) (sym c.keep_others.ensures)
          (stand_for_filtered words stay c.args.self.now.pending.items pending s.pending);
      ended = c.in_ok-end_all.ensures.stands words pending ended
          (subst (λ ds. StandFor words ds pending) (sym c.deref.ensures.value) s.pending) s.ended;
      holders = c.in_ok-end_all.ensures.holders s.holders;
      completed = s.completed;
    }
