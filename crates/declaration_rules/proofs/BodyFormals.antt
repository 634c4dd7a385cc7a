-- Formals are compared in all but whether they are traversed.
use Rattle.std.proofs.Common.{◌≡◌, refl, ℕ, suc, Bool, false, List, [], ◌∷◌, ◌++◌, length, nat_eq, arith}
use Rattle.place_names.specs.declared.act.Mode.{Mode}
use Rattle.resolved_tree.specs.declared.code_node.CodeNode.{CodeNode}
use Rattle.resolved_tree.specs.declared.code_node.CodeNode.TheVariants as code_node
use Rattle.resolved_tree.specs.Nodes.{code_of}
use Rattle.resolved_tree.specs.Trees.{Tree, Code, Formals, More}
use Rattle.type_definitions.specs.declared.table.FormalInfo.{FormalInfo}
use Rattle.type_definitions.specs.declared.table.Known.{Known}
use Rattle.type_definitions.specs.Types.{Table}
use Rattle.type_definitions.specs.Declarations.{same_formals}
use Rattle.type_definitions.specs.Gathered.{formal_group, formal_groups, formal_infos}

group_any : (known : Known) (table : Table) (b : Bool) (m : Mode) (of names : Code) (formals behind : List FormalInfo)
    → same_formals table formals (formal_group known b m of names ++ behind) ≡ same_formals table formals (formal_group known false m of names ++ behind)
group_any known table b m of (More d rest) [] behind = refl
group_any known table b m of (More d rest) (f ∷ formals) behind = refl
group_any known table b m of _ formals behind = refl

groups_any : (known : Known) (table : Table) (b : Bool) (item : Code) (formals behind : List FormalInfo)
    → same_formals table formals (formal_groups known b item ++ behind) ≡ same_formals table formals (formal_groups known false item ++ behind)
groups_any known table b (Formals names m of) formals behind = group_any known table b m of names formals behind
groups_any known table b _ formals behind = refl

pub infos_any : (known : Known) (table : Table) (b : Bool) (list : Code) (formals : List FormalInfo)
    → same_formals table formals (formal_infos known b list) ≡ same_formals table formals (formal_infos known false list)
infos_any known table b (More item rest) formals = groups_any known table b item formals (formal_infos known false rest)
infos_any known table b _ formals = refl

-- A list ends where its node is no more of it.
pub no_infos : (known : Known) (tree : ℕ → Tree) (code : ℕ → Code) (n : CodeNode) → ((a b : ℕ) → n ≡ code_node.More a b → ⊥)
    → formal_infos known false (code_of tree code n) ≡ []
no_infos known tree code (code_node.More a b) none = absurd (none a b refl)
no_infos known tree code _ none = refl

no_length : (n : ℕ) → nat_eq (suc n) 0 ≡ false
no_length n = grind arith

pub none_left : (table : Table) (left : List FormalInfo) → nat_eq (length left) 0 ≡ same_formals table left []
none_left table [] = refl
none_left table (f ∷ rest) = no_length (length rest)
