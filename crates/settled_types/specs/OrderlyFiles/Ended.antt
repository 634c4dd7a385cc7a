-- Full types that end after all marks of definitions up to there, their own included.
use Rattle.std.specs.Prelude.{◌≡◌, true, false, List, [], ◌∷◌}
use Rattle.machine.specs.spark_base.declared.position.Pos.{Pos}
use Rattle.machine.specs.spark_base.Lists.{Has}
use Rattle.machine.specs.resolved_tree.Trees.{More, Code, TypeDecl, SubBody, Package, PackageBody, If, Branch, Case, When, Loop, While, For, Block}
use Rattle.machine.specs.type_definitions.Faults.{is_before}
use Rattle.settled_types.specs.Orderly.{Past, within, definition_marks, past_after}

-- None of these marks stands after this end.
abbrev pub IsLast : Pos → List Pos → Type 0
IsLast end marks = (at : Pos) → Has marks at → is_before end at ≡ false

unfoldable pub AreEnded : Past → Code → Type 0
AreEnded past (TypeDecl d def end) = IsLast end (definition_marks def past.marks)
AreEnded past (SubBody front items stmts end) = AreEnded past items × AreEnded (past_after items past) stmts
AreEnded past (Package d visible hidden) =
    AreEnded (within true past) visible × AreEnded (within true (past_after visible (within true past))) hidden
AreEnded past (PackageBody d parts) = AreEnded (within true past) parts
AreEnded past (If p branches otherwise) = AreEnded past branches × AreEnded (past_after branches past) otherwise
AreEnded past (Branch p e stmts) = AreEnded past stmts
AreEnded past (Case p e whens) = AreEnded past whens
AreEnded past (When choices stmts) = AreEnded past stmts
AreEnded past (Loop p stmts) = AreEnded past stmts
AreEnded past (While p e stmts) = AreEnded past stmts
AreEnded past (For p d reversed range stmts) = AreEnded past stmts
AreEnded past (Block p items stmts end) = AreEnded past items × AreEnded (past_after items past) stmts
AreEnded past (More a rest) = AreEnded past a × AreEnded (past_after a past) rest
AreEnded past _ = Unit {0}

abbrev pub AllEnded : Past → List Code → Type 0
AllEnded past [] = Unit {0}
AllEnded past (u ∷ rest) = AreEnded past u × AllEnded (past_after u past) rest
