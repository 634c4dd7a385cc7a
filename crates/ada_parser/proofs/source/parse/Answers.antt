use Rattle.std.proofs.Common.{rules, ◌≡◌, ap, sym, subst, ℕ, List}
use Rattle.std.specs.Prelude.{map, Ok, Err}
use Rattle.token_reading.specs.Spelled.{Spelled, told}
use Rattle.token_reading.specs.Reading.{Gives, whole_file}
use Rattle.ada_tree.specs.Refusals.{IsTreeOf}
use Rattle.ada_grammar.specs.Units.{source}
use Rattle.ada_parser.specs.declared.refusal.ParseRefusal.{ParseRefusal}
use Rattle.ada_parser.specs.Refused.{IsRefusal}
use Rattle.ada_parser.specs.Refusing.{StandsAtToken, TellsOf}
use Rattle.ada_parser.proofs.Refusing.{found, stands, refused, none_refused, only_refusal}
use Rattle.ada_parser.proofs.source.parse.Goals as goal

pub returns-in-Ok-clause-found : goal.returns-in-Ok-clause-found
returns-in-Ok-clause-found c =
    let read : Gives (whole_file source 0 (map told c.args.tokens.now)) (Ok c.in-Ok.trees.units) c.source.new.tokens =
    rw (sym c.new-cursor.ensures.operators) rw (sym c.new-cursor.ensures.tokens) c.in-Ok.ensures in
    found c.args.tokens.now c.requires c.in-Ok.trees.units c.source.new.tokens read

pub refusal_of-requires : goal.refusal_of-requires
refusal_of-requires c =
    let there = subst (λ ts. Gives (whole_file source c.new-cursor.result.operators ts) (Err c.in-Err.fault) c.source.new.tokens)
    c.new-cursor.ensures.tokens c.in-Err.ensures in
    let read = subst (λ k. Gives (whole_file source k (map told c.args.tokens.now)) (Err c.in-Err.fault) c.source.new.tokens)
    c.new-cursor.ensures.operators there in
    subst (λ n. StandsAtToken c.args.tokens.now n c.in-Err.fault) (sym c.left.ensures)
    (stands c.args.tokens.now c.requires c.in-Err.fault c.source.new.tokens read)

pub returns-in-Err-clause-refused : goal.returns-in-Err-clause-refused
returns-in-Err-clause-refused c =
    let there = subst (λ ts. Gives (whole_file source c.new-cursor.result.operators ts) (Err c.in-Err.fault) c.source.new.tokens)
    c.new-cursor.ensures.tokens c.in-Err.ensures in
    let read = subst (λ k. Gives (whole_file source k (map told c.args.tokens.now)) (Err c.in-Err.fault) c.source.new.tokens)
    c.new-cursor.ensures.operators there in
    refused c.args.tokens.now c.requires c.in-Err.fault c.source.new.tokens read c.refusal_of.result
    (subst (λ n. TellsOf c.args.tokens.now n c.in-Err.fault c.refusal_of.result) c.left.ensures c.refusal_of.ensures)

pub returns-in-Ok-clause-only : goal.returns-in-Ok-clause-only
returns-in-Ok-clause-only c memory code at is =
    absurd (none_refused c.args.tokens.now _ (returns-in-Ok-clause-found c) code at is)

pub returns-in-Err-clause-only : goal.returns-in-Err-clause-only
returns-in-Err-clause-only c memory code at is =
    ap (λ (r : ParseRefusal). Err r) (only_refusal c.args.tokens.now c.refusal_of.result (returns-in-Err-clause-refused c)
    (λ e. memory (ap (λ (r : ParseRefusal). Err r) e)) code at is)
