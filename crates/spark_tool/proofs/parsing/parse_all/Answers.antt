use Rattle.std.proofs.Common.{List, Vec, take, take_all, subst, rules}
use Rattle.std.specs.declared.alloc.Global.{Global}
use Rattle.ada_lexer.specs.declared.token.Token.{Token}
use Rattle.ada_tree.specs.Refusals.{IsTreeOf}
use Rattle.token_reading.specs.Spelled.{told}
use Rattle.std.proofs.Common.{map}
use Rattle.ada_parser.specs.Refused.{IsRefusal}
use Rattle.name_resolve.specs.Inputs.{trees_of}
use Rattle.spark_tool.specs.Lexing.{cuts_of}
use Rattle.source_trees.specs.Trees.{AreTreesOf}
use Rattle.spark_tool.specs.Refusals.{IsFirstRefusal}
use Rattle.spark_tool.proofs.Parsed.{parsed_more, parsed_of, first_refusal}
use Rattle.spark_tool.proofs.parsing.parse_all.Goals as goal

pub returns-in_err-found-clause-refused : goal.returns-in_err-found-clause-refused
returns-in_err-found-clause-refused c =
    let first : IsFirstRefusal (cuts_of c.args.files.now) c.in_err-found.field-0.0 =
    first_refusal c.in_err-found.field-0.0 c.args.files.now c.files.file-index c.file-item.result c.files-test.true c.file-item.is
    (parsed_of (cuts_of (take c.files.file-index c.args.files.now)) (trees_of c.files.trees.items) c.files.invariant)
    (subst (λ (tokens : List Token). IsRefusal tokens c.in_err-found.field-0.0) c.as_slice.ensures.value c.in_err-found.ensures.refused) in
    search rules

pub files-preserved : goal.files-preserved
files-preserved c =
    parsed_more c.args.files.now c.files.file-index c.file-item.result c.files.trees.items c.in_ok-found.found c.push.new.self.items c.files-test.true
    c.file-item.is c.in_ok-push.ensures.items c.files.invariant
    (subst (λ (tokens : List Token). IsTreeOf (map told tokens) c.in_ok-found.found.units) c.as_slice.ensures.value c.in_ok-found.ensures.found)

pub returns-clause-parsed : goal.returns-clause-parsed
returns-clause-parsed c =
    subst (λ (files : List (Vec Token Global)). AreTreesOf (cuts_of files) (trees_of c.files.trees.items))
    (take_all c.files.file-index c.args.files.now c.files-test.false) c.files.invariant
