use Rattle.std.proofs.Common.{◌≡◌, sym, subst, Some, ◌∷◌, ◌++◌, []}
use Rattle.name_resolve.specs.Tables.{symbol_of}
use Rattle.name_resolve.specs.Stands.{StandFor}
use Rattle.name_resolve.proofs.Symbols.{stand_for_pushed}
use Rattle.name_resolve.proofs.declarations.Declarations.declare.Goals as goal

pub returns : goal.returns
returns c declared pending ended completed s =
    let w = c.args.word.now in
    let before = c.in_ok-symbol.ensures.stands declared pending ended completed s in
    let e = c.in_ok-enter.ensures.stands w declared pending ended completed c.in_ok-symbol.ensures.symbol before in
    let has = subst (λ words. symbol_of words w ≡ Some c.in_ok-symbol.symbol) (sym c.in_ok-enter.ensures.words) c.in_ok-symbol.ensures.symbol in
    record {
      declared = e.declared;
      awaiting = e.awaiting;
      awaiting_only = e.awaiting_only;
      all = e.all;
      procedure = e.procedure;
      pending = subst (λ ds. StandFor c.enter.new.self.words ds (pending ++ (w, c.args.declaration) ∷ [])) (sym c.in_ok-push.ensures.items)
          (stand_for_pushed _ _ pending w _ c.args.declaration has e.pending);
      ended = e.ended;
      holders = e.holders;
      completed = e.completed;
    }
