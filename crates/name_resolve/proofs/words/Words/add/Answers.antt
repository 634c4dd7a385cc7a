use Rattle.std.proofs.Common.{◌≡◌, sym, ◌∙◌, ap, Some, length}
use Rattle.name_resolve.specs.Tables.{symbol_of}
use Rattle.name_resolve.proofs.Symbols.{symbol_there, symbol_added}
use Rattle.name_resolve.proofs.words.Words.add.Goals as goal

pub returns-in-Some-clause-words : goal.returns-in-Some-clause-words
returns-in-Some-clause-words c = symbol_there c.args.self.now c.args.word.now c.in-Some.there c.in-Some.ensures

pub returns-in_ok-push-in-None-clause-symbol : goal.returns-in_ok-push-in-None-clause-symbol
returns-in_ok-push-in-None-clause-symbol c =
    let before : c.self.inside.set.keys ≡ c.args.self.now = cc c.self.view_is in
    ap (λ words. symbol_of words c.args.word.now) c.in_ok-push-in-None.ensures
    ∙ symbol_added c.args.self.now c.args.word.now c.in-None.ensures
    ∙ ap (λ words. Some (length words)) (sym before) ∙ ap Some (sym c.len-next.ensures.len)
