use Rattle.std.proofs.Common.{◌≡◌, subst, sym, Some}
use Rattle.name_resolve.specs.Tables.{symbol_of}
use Rattle.name_resolve.proofs.declarations.Declarations.predefine.Goals as goal

pub returns : goal.returns
returns c declared pending ended completed s =
    let w = c.args.word.now in
    let before = c.in_ok-symbol.ensures.stands declared pending ended completed s in
    let e = c.in_ok-enter.ensures.stands w declared pending ended completed c.in_ok-symbol.ensures.symbol before in
    let has = subst (λ words. symbol_of words w ≡ Some c.in_ok-symbol.symbol) (sym c.in_ok-enter.ensures.words) c.in_ok-symbol.ensures.symbol in
    record {
      declared = e.declared;
      awaiting = e.awaiting;
      awaiting_only = e.awaiting_only;
      all = e.all;
      procedure = e.procedure;
      pending = e.pending;
      ended = c.in_ok-note.ensures.stands c.enter.new.self.words w ended has e.ended;
      holders = c.in_ok-note_holder.ensures _ _ c.in_ok-note.ensures.last e.holders;
      completed = e.completed;
    }
