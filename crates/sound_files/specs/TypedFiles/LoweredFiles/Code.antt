-- The literals in typed code, and the objects that its declarations declare, without the parameters
-- of its loops.
use Rattle.std.specs.Prelude.{ℕ, List, [], ◌∷◌, ◌++◌}
use Rattle.machine.specs.typed_tree.Trees.{TypedCode, Declare, Assign, Output, Input, Release, If, Branch, Case, When, Loop, While, For, Exit, Return, Block, More}
use Rattle.machine.specs.typed_tree.Trees as typed
use Rattle.sound_files.specs.TypedFiles.LoweredLaws.Lowers.{literals}

unfoldable pub code_literals : TypedCode → List ℕ
code_literals (Declare p x v) = literals v
code_literals (Assign p target e) = literals e ++ literals target
code_literals (typed.Call p sub actuals) = literals actuals
code_literals (Output p text line) = literals text
code_literals (Input p target) = literals target
code_literals (Release p m) = literals m
code_literals (If branches otherwise) = code_literals branches ++ code_literals otherwise
code_literals (Branch p e stmts) = literals e ++ code_literals stmts
code_literals (Case p e whens) = literals e ++ code_literals whens
code_literals (When choices stmts) = code_literals stmts
code_literals (Loop stmts) = code_literals stmts
code_literals (While p e stmts) = literals e ++ code_literals stmts
code_literals (For p x reversed low high stmts) = (literals low ++ literals high) ++ code_literals stmts
code_literals (Exit p e) = literals e
code_literals (Return p v) = literals v
code_literals (Block n stmts end) = code_literals stmts
code_literals (More a rest) = code_literals a ++ code_literals rest
code_literals _ = []

unfoldable pub plain_objects : TypedCode → List ℕ
plain_objects (Declare p x v) = x ∷ []
plain_objects (If branches otherwise) = plain_objects branches ++ plain_objects otherwise
plain_objects (Branch p e stmts) = plain_objects stmts
plain_objects (Case p e whens) = plain_objects whens
plain_objects (When choices stmts) = plain_objects stmts
plain_objects (Loop stmts) = plain_objects stmts
plain_objects (While p e stmts) = plain_objects stmts
plain_objects (For p x reversed low high stmts) = plain_objects stmts
plain_objects (Block n stmts end) = plain_objects stmts
plain_objects (More a rest) = plain_objects a ++ plain_objects rest
plain_objects _ = []
