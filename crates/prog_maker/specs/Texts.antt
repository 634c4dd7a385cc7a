-- The program that is made for a number, as bytes (docs/TOOL.md, "The made program").
use Rattle.std.specs.Prelude.{ℕ, zero, suc, ◌==◌, ◌%◌, List, [], ◌++◌, codes, if◌then◌else◌}
use Rattle.std.specs.Fmt.{decimal}

-- Lines for each number from 1 to n.
unfoldable pub for_each : (ℕ → List ℕ) → ℕ → List ℕ
for_each f zero = []
for_each f (suc n) = for_each f n ++ f (suc n)

abbrev pub declaration : ℕ → List ℕ
declaration i = codes "procedure P" ++ (decimal i ++ (codes " (L : in out List);\n"))

-- A procedure that allocates, one that borrows, or one that observes.
abbrev pub allocates : ℕ → List ℕ
allocates i = codes "procedure P" ++ (decimal i ++ (codes " (L : in out List) is begin L := new Cell'(" ++ (decimal i ++ (codes ", L); end P" ++ (decimal i ++ (codes ";\n"))))))

abbrev pub borrows : ℕ → List ℕ
borrows i = codes "procedure P" ++ (decimal i ++ (codes " (L : in out List) is B : access Cell := L; begin B.Value := B.Value + " ++ (decimal i ++ (codes "; end P" ++ (decimal i ++ (codes ";\n"))))))

abbrev pub observes : ℕ → List ℕ
observes i = codes "procedure P" ++ (decimal i ++ (codes " (L : in out List) is S : Integer; begin declare C : access constant Cell := L; begin while C /= null loop S := (S + C.Value) mod 1000; C := C.Next; end loop; end; L.Value := S; end P" ++ (decimal i ++ (codes ";\n"))))

abbrev pub body : ℕ → List ℕ
body i = if i % 3 == 1 then allocates i else if i % 3 == 2 then borrows i else observes i

abbrev pub call : ℕ → List ℕ
call i = codes "P" ++ (decimal i ++ (codes " (L);\n"))

abbrev pub opening : List ℕ
opening = codes "with Ada.Unchecked_Deallocation;\npackage Work is\ntype Cell; type List is access Cell;\ntype Cell is record Value : Integer; Next : List; end record;\nprocedure Free is new Ada.Unchecked_Deallocation (Cell, List);\n"

abbrev pub bodies_begin : List ℕ
bodies_begin = codes "end Work;\npackage body Work is\n"

abbrev pub main_begins : List ℕ
main_begins = codes "end Work;\nwith Work; use Work; with Ada.Text_IO; use Ada.Text_IO;\nprocedure Main is L : List;\nbegin\n"

abbrev pub ending : List ℕ
ending = codes "Put_Line (Integer'Image (L.Value));\ndeclare Old : List; begin while L /= null loop Old := L; L := Old.Next; Free (Old); end loop; end;\nend Main;\n"

abbrev pub program_text : ℕ → List ℕ
program_text n = opening ++ for_each declaration n ++ bodies_begin ++ for_each body n ++ main_begins ++ for_each call n ++ ending
