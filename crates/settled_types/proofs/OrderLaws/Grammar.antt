-- Induction over code as the grammar has it. A proof by the forms of code is checked once for each form that code has;
-- here that is once for all laws that use these.
use Rattle.std.proofs.Common.{◌≡◌, Bool, true, false, ◌||◌}
use Rattle.std.proofs.lemmas.Bool.{false≢true}
use Rattle.machine.specs.spark_base.declared.position.Pos.{Pos}
use Rattle.machine.specs.resolved_tree.Trees.{Tree, Code, Skip, Assign, Call, Exit, Return, If, Branch, Case, When, Loop, While, For, Block, NoMore, More}
use Rattle.settled_types.specs.OrderLaws.Written.{is_declaration, are_declarations, is_body, are_parts, are_statements, is_statement, are_branches, is_branch, are_alternatives, is_alternative}
use Rattle.settled_types.proofs.OrderLaws.ScopeLaws.Lists.{and_first, and_second}

-- ---- lists of declarations, and parts of the body of a package

pub on_declarations : (P : Code → Type 0) → ((c rest : Code) → is_declaration c ≡ true → P rest → P (More c rest)) → P NoMore → (c : Code) → are_declarations c ≡ true → P c
unfolding are_declarations
on_declarations P more none (More c rest) e =
    more c rest (and_first (is_declaration c) (are_declarations rest) e) (on_declarations P more none rest (and_second (is_declaration c) (are_declarations rest) e))
on_declarations P more none NoMore e = none
on_declarations P more none _ e = absurd (false≢true e)

pub on_parts : (P : Code → Type 0) → ((c rest : Code) → is_declaration c || is_body c ≡ true → P rest → P (More c rest)) → P NoMore → (c : Code) → are_parts c ≡ true → P c
unfolding are_parts
on_parts P more none (More c rest) e =
    more c rest (and_first (is_declaration c || is_body c) (are_parts rest) e) (on_parts P more none rest (and_second (is_declaration c || is_body c) (are_parts rest) e))
on_parts P more none NoMore e = none
on_parts P more none _ e = absurd (false≢true e)

-- ---- statements

-- What holds of statements, and of lists of them; of branches; of alternatives; and of one. The truth value says whether a
-- loop stands around them.
pub record StatementLaws (Statements Branches Alternatives OneAlternative : Bool → Code → Type 0) : Type 0 where
  pub list : (looped : Bool) (c rest : Code) → Statements looped c → Statements looped rest → Statements looped (More c rest)
  pub none : (looped : Bool) → Statements looped NoMore
  pub skip : (looped : Bool) (p : Pos) → Statements looped (Skip p)
  pub assign : (looped : Bool) (target v : Tree) → Statements looped (Assign target v)
  pub call : (looped : Bool) (name : Tree) → Statements looped (Call name)
  pub exit : (looped : Bool) (p : Pos) (when : Tree) → looped ≡ true → Statements looped (Exit p when)
  pub return : (looped : Bool) (p : Pos) (v : Tree) → Statements looped (Return p v)
  pub choice : (looped : Bool) (p : Pos) (branches otherwise : Code) → Branches looped branches → Statements looped otherwise → Statements looped (If p branches otherwise)
  pub cases : (looped : Bool) (p : Pos) (v : Tree) (whens : Code) → Alternatives looped whens → Statements looped (Case p v whens)
  pub loop : (looped : Bool) (p : Pos) (stmts : Code) → Statements true stmts → Statements looped (Loop p stmts)
  pub while : (looped : Bool) (p : Pos) (v : Tree) (stmts : Code) → Statements true stmts → Statements looped (While p v stmts)
  pub for : (looped : Bool) (p : Pos) (d : Code) (reversed : Bool) (range stmts : Code) → Statements true stmts → Statements looped (For p d reversed range stmts)
  pub block : (looped : Bool) (p : Pos) (items stmts : Code) (end : Pos) → are_declarations items ≡ true → Statements looped stmts → Statements looped (Block p items stmts end)
  pub branches : (looped : Bool) (c rest : Code) → Branches looped c → Branches looped rest → Branches looped (More c rest)
  pub no_branches : (looped : Bool) → Branches looped NoMore
  pub branch : (looped : Bool) (p : Pos) (v : Tree) (stmts : Code) → Statements looped stmts → Branches looped (Branch p v stmts)
  pub alternatives : (looped : Bool) (c rest : Code) → OneAlternative looped c → Alternatives looped rest → Alternatives looped (More c rest)
  pub no_alternatives : (looped : Bool) → Alternatives looped NoMore
  pub alternative : (looped : Bool) (choices stmts : Code) → Statements looped stmts → OneAlternative looped (When choices stmts)
  pub no_alternative : (looped : Bool) → OneAlternative looped NoMore

module _ {Statements Branches Alternatives OneAlternative : Bool → Code → Type 0} (of : StatementLaws Statements Branches Alternatives OneAlternative) where
  mutual
    unfolding are_statements is_statement are_branches is_branch are_alternatives is_alternative

    pub on_statements : (looped : Bool) (c : Code) → are_statements looped c ≡ true → Statements looped c
    on_statements looped (More c rest) e =
        of.list looped c rest (on_statement looped c (and_first (is_statement looped c) (are_statements looped rest) e))
        (on_statements looped rest (and_second (is_statement looped c) (are_statements looped rest) e))
    on_statements looped NoMore e = of.none looped
    on_statements looped _ e = absurd (false≢true e)

    on_statement : (looped : Bool) (c : Code) → is_statement looped c ≡ true → Statements looped c
    on_statement looped (Skip p) e = of.skip looped p
    on_statement looped (Assign target v) e = of.assign looped target v
    on_statement looped (Call name) e = of.call looped name
    on_statement looped (Exit p when) e = of.exit looped p when e
    on_statement looped (Return p v) e = of.return looped p v
    on_statement looped (If p branches otherwise) e =
        of.choice looped p branches otherwise (on_branches looped branches (and_first (are_branches looped branches) (are_statements looped otherwise) e))
        (on_statements looped otherwise (and_second (are_branches looped branches) (are_statements looped otherwise) e))
    on_statement looped (Case p v whens) e = of.cases looped p v whens (on_alternatives looped whens e)
    on_statement looped (Loop p stmts) e = of.loop looped p stmts (on_statements true stmts e)
    on_statement looped (While p v stmts) e = of.while looped p v stmts (on_statements true stmts e)
    on_statement looped (For p d reversed range stmts) e = of.for looped p d reversed range stmts (on_statements true stmts e)
    on_statement looped (Block p items stmts end) e =
        of.block looped p items stmts end (and_first (are_declarations items) (are_statements looped stmts) e)
        (on_statements looped stmts (and_second (are_declarations items) (are_statements looped stmts) e))
    on_statement looped NoMore e = of.none looped
    on_statement looped _ e = absurd (false≢true e)

    on_branches : (looped : Bool) (c : Code) → are_branches looped c ≡ true → Branches looped c
    on_branches looped (More c rest) e =
        of.branches looped c rest (on_branch looped c (and_first (is_branch looped c) (are_branches looped rest) e))
        (on_branches looped rest (and_second (is_branch looped c) (are_branches looped rest) e))
    on_branches looped NoMore e = of.no_branches looped
    on_branches looped _ e = absurd (false≢true e)

    on_branch : (looped : Bool) (c : Code) → is_branch looped c ≡ true → Branches looped c
    on_branch looped (Branch p v stmts) e = of.branch looped p v stmts (on_statements looped stmts e)
    on_branch looped NoMore e = of.no_branches looped
    on_branch looped _ e = absurd (false≢true e)

    on_alternatives : (looped : Bool) (c : Code) → are_alternatives looped c ≡ true → Alternatives looped c
    on_alternatives looped (More c rest) e =
        of.alternatives looped c rest (on_alternative looped c (and_first (is_alternative looped c) (are_alternatives looped rest) e))
        (on_alternatives looped rest (and_second (is_alternative looped c) (are_alternatives looped rest) e))
    on_alternatives looped NoMore e = of.no_alternatives looped
    on_alternatives looped _ e = absurd (false≢true e)

    on_alternative : (looped : Bool) (c : Code) → is_alternative looped c ≡ true → OneAlternative looped c
    on_alternative looped (When choices stmts) e = of.alternative looped choices stmts (on_statements looped stmts e)
    on_alternative looped NoMore e = of.no_alternative looped
    on_alternative looped _ e = absurd (false≢true e)
