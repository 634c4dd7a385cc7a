-- What the resolved trees of programs are written with: the parts that recur, by the line and
-- column of each. tools/tree_terms.py writes such trees.
use Rattle.std.proofs.Common.{ℕ, List}
use Rattle.std.specs.Prelude.{codes, Some, None}
use Prim.Native.String.{String}
use Rattle.spark_base.specs.declared.position.Pos.{Pos}
use Rattle.resolved_tree.specs.declared.node.Mark.{Mark}
use Rattle.resolved_tree.specs.Trees.{Tree, Text, Selected, Argument, Code, Declared, Program}

-- How many declarations there are, the predefined ones included, and the units.
abbrev pub program : ℕ → List Code → Program
program count units = record { count = count; units = units }

-- ---- positions

-- A line and a column of the first file.
abbrev pub at : ℕ → ℕ → Pos
at line column = record { file = 0; line = line; column = column }

-- The same of the files after it.
abbrev pub at1 : ℕ → ℕ → Pos
at1 line column = record { file = 1; line = line; column = column }

abbrev pub at2 : ℕ → ℕ → Pos
at2 line column = record { file = 2; line = line; column = column }

abbrev pub at3 : ℕ → ℕ → Pos
at3 line column = record { file = 3; line = line; column = column }

abbrev pub at4 : ℕ → ℕ → Pos
at4 line column = record { file = 4; line = line; column = column }

abbrev pub at5 : ℕ → ℕ → Pos
at5 line column = record { file = 5; line = line; column = column }

-- ---- names

-- An identifier that is declared, by the number of the declaration that it makes or completes.
abbrev pub declared : Pos → ℕ → String → Code
declared pos number text = Declared pos number (codes text)

abbrev pub mark : Pos → ℕ → Mark
mark pos decl = record { pos = pos; decl = Some decl }

-- One with an identifier after what is no package.
abbrev pub unresolved : Pos → Mark
unresolved pos = record { pos = pos; decl = None }

abbrev pub selected : String → Tree
selected text = Selected (codes text)

-- ---- arguments and strings

abbrev pub actual : Tree → Tree → Tree
actual value rest = Argument None value rest

abbrev pub given : String → Tree → Tree → Tree
given text value rest = Argument (Some (codes text)) value rest

abbrev pub string : Pos → String → Tree
string pos text = Text pos (codes text)
