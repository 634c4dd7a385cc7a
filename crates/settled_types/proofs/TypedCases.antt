-- A law on typed code and its lists, by its forms: what has no form of its own is checked once, and not once for each form.
use Rattle.std.proofs.Common.{◌≡◌, ℕ, ℤ, Bool, true, false, List, [], refl, sym, true≢false}
use Rattle.machine.specs.spark_base.declared.position.Pos.{Pos}
use Rattle.machine.specs.typed_tree.Trees.{TypedTree, Name, Component, Designated, Element, Image, Parens, Unary, Binary, Short, IsNull, Aggregate, Alike, New, TypedCode, Declare, Assign, Skip, Output, Input, Release, If, Branch, Case, When, Loop, While, For, Exit, Return, Block}
use Rattle.machine.specs.typed_tree.Trees as typed
use Rattle.machine.specs.typed_tree.declared.node.ShortCircuit.{ShortCircuit}
use Rattle.machine.specs.resolved_tree.declared.operator.Operator.{Operator}
use Rattle.machine.specs.resolved_tree.declared.operator.UnaryOperator.{UnaryOperator}
use Rattle.machine.specs.flow_paths.Points.{Place, PointName}
use Rattle.machine.specs.flow_paths.Prep.{Setting, held, prep}
use Rattle.machine.specs.flow_paths.Layout.{Around, laid, laid_branches, laid_branch, laid_whens, laid_when}

abbrev pub is_statement : TypedCode → Bool
is_statement (Branch p e stmts) = false
is_statement (typed.Interval low high) = false
is_statement typed.Others = false
is_statement (When choices stmts) = false
is_statement typed.NoMore = false
is_statement _ = true

abbrev pub is_more : TypedCode → Bool
is_more (typed.More a rest) = true
is_more _ = false

abbrev pub is_branch : TypedCode → Bool
is_branch (Branch p e stmts) = true
is_branch _ = false

abbrev pub is_alternative : TypedCode → Bool
is_alternative (When choices stmts) = true
is_alternative _ = false

-- Of statements, branches, a branch, alternatives and an alternative.
pub record Laws (Code Branches OneBranch Alternatives Alternative : TypedCode → Type 0) : Type 0 where
  pub list : (a rest : TypedCode) → Code a → Code rest → Code (typed.More a rest)
  pub declare : (p : Pos) (x : ℕ) (v : TypedTree) → Code (Declare p x v)
  pub assign : (p : Pos) (target e : TypedTree) → Code (Assign p target e)
  pub skip : (p : Pos) → Code (Skip p)
  pub call : (p : Pos) (sub : ℕ) (actuals : TypedTree) → Code (typed.Call p sub actuals)
  pub output : (p : Pos) (text : TypedTree) (line : Bool) → Code (Output p text line)
  pub input : (p : Pos) (target : TypedTree) → Code (Input p target)
  pub release : (p : Pos) (m : TypedTree) → Code (Release p m)
  pub choice : (branches otherwise : TypedCode) → Branches branches → Code otherwise → Code (If branches otherwise)
  pub cases : (p : Pos) (e : TypedTree) (whens : TypedCode) → Alternatives whens → Code (Case p e whens)
  pub loop : (stmts : TypedCode) → Code stmts → Code (Loop stmts)
  pub while : (p : Pos) (e : TypedTree) (stmts : TypedCode) → Code stmts → Code (While p e stmts)
  pub for : (p : Pos) (x : ℕ) (reversed : Bool) (low high : TypedTree) (stmts : TypedCode) → Code stmts → Code (For p x reversed low high stmts)
  pub exit : (p : Pos) (e : TypedTree) → Code (Exit p e)
  pub return : (p : Pos) (v : TypedTree) → Code (Return p v)
  pub block : (n : ℕ) (stmts : TypedCode) (end : Pos) → Code stmts → Code (Block n stmts end)
  pub others : (c : TypedCode) → is_statement c ≡ false → Code c
  pub branches : (a rest : TypedCode) → OneBranch a → Branches rest → Branches (typed.More a rest)
  pub no_branches : (c : TypedCode) → is_more c ≡ false → Branches c
  pub branch : (p : Pos) (e : TypedTree) (stmts : TypedCode) → Code stmts → OneBranch (Branch p e stmts)
  pub no_branch : (c : TypedCode) → is_branch c ≡ false → OneBranch c
  pub alternatives : (a rest : TypedCode) → Alternative a → Alternatives rest → Alternatives (typed.More a rest)
  pub no_alternatives : (c : TypedCode) → is_more c ≡ false → Alternatives c
  pub alternative : (choices stmts : TypedCode) → Code stmts → Alternative (When choices stmts)
  pub no_alternative : (c : TypedCode) → is_alternative c ≡ false → Alternative c

module _ {Code Branches OneBranch Alternatives Alternative : TypedCode → Type 0} (of : Laws Code Branches OneBranch Alternatives Alternative) where
  mutual
    pub on_code : (c : TypedCode) → Code c
    on_code (typed.More a rest) = of.list a rest (on_code a) (on_code rest)
    on_code (Declare p x v) = of.declare p x v
    on_code (Assign p target e) = of.assign p target e
    on_code (Skip p) = of.skip p
    on_code (typed.Call p sub actuals) = of.call p sub actuals
    on_code (Output p text line) = of.output p text line
    on_code (Input p target) = of.input p target
    on_code (Release p m) = of.release p m
    on_code (If branches otherwise) = of.choice branches otherwise (on_branches branches) (on_code otherwise)
    on_code (Case p e whens) = of.cases p e whens (on_alternatives whens)
    on_code (Loop stmts) = of.loop stmts (on_code stmts)
    on_code (While p e stmts) = of.while p e stmts (on_code stmts)
    on_code (For p x reversed low high stmts) = of.for p x reversed low high stmts (on_code stmts)
    on_code (Exit p e) = of.exit p e
    on_code (Return p v) = of.return p v
    on_code (Block n stmts end) = of.block n stmts end (on_code stmts)
    on_code c = of.others c refl

    pub on_branches : (c : TypedCode) → Branches c
    on_branches (typed.More a rest) = of.branches a rest (on_branch a) (on_branches rest)
    on_branches c = of.no_branches c refl

    pub on_branch : (c : TypedCode) → OneBranch c
    on_branch (Branch p e stmts) = of.branch p e stmts (on_code stmts)
    on_branch c = of.no_branch c refl

    pub on_alternatives : (c : TypedCode) → Alternatives c
    on_alternatives (typed.More a rest) = of.alternatives a rest (on_alternative a) (on_alternatives rest)
    on_alternatives c = of.no_alternatives c refl

    pub on_alternative : (c : TypedCode) → Alternative c
    on_alternative (When choices stmts) = of.alternative choices stmts (on_code stmts)
    on_alternative c = of.no_alternative c refl

-- ---- what others lay

pub laid_none : (s : Setting) (c : TypedCode) (at : Place) (w : Around) (k : List PointName) → is_statement c ≡ false → laid s c at w k ≡ []
unfolding laid
laid_none s (Branch p e stmts) at w k other = refl
laid_none s (typed.Interval low high) at w k other = refl
laid_none s typed.Others at w k other = refl
laid_none s (When choices stmts) at w k other = refl
laid_none s typed.NoMore at w k other = refl
laid_none s _ at w k other = absurd (true≢false other)

pub branches_none : (s : Setting) (c : TypedCode) (at : Place) (w : Around) (k m : List PointName) → is_more c ≡ false → laid_branches s c at w k m ≡ []
unfolding laid_branches
branches_none s (typed.More a rest) at w k m other = absurd (true≢false other)
branches_none s _ at w k m other = refl

pub branch_none : (s : Setting) (c : TypedCode) (at : Place) (w : Around) (k m : List PointName) → is_branch c ≡ false → laid_branch s c at w k m ≡ []
unfolding laid_branch
branch_none s (Branch p e stmts) at w k m other = absurd (true≢false other)
branch_none s _ at w k m other = refl

pub whens_none : (s : Setting) (c : TypedCode) (at : Place) (w : Around) (k : List PointName) → is_more c ≡ false → laid_whens s c at w k ≡ []
unfolding laid_whens
whens_none s (typed.More a rest) at w k other = absurd (true≢false other)
whens_none s _ at w k other = refl

pub when_none : (s : Setting) (c : TypedCode) (at : Place) (w : Around) (k : List PointName) → is_alternative c ≡ false → laid_when s c at w k ≡ []
unfolding laid_when
when_none s (When choices stmts) at w k other = absurd (true≢false other)
when_none s _ at w k other = refl

-- ---- expressions, and steps and lists of them

abbrev pub is_plain : TypedTree → Bool
is_plain (typed.Number n) = true
is_plain (typed.Literal n) = true
is_plain typed.Null = true
is_plain (typed.Text text) = true
is_plain typed.EndOfFile = true
is_plain typed.NoMore = true
is_plain _ = false

pub record TreeLaws (Of : TypedTree → Type 0) : Type 0 where
  pub call : (p : Pos) (sub : ℕ) (actuals : TypedTree) → Of actuals → Of (typed.Call p sub actuals)
  pub short : (op : ShortCircuit) (p : Pos) (a : TypedTree) (q : Pos) (b : TypedTree) → Of a → Of b → Of (Short op p a q b)
  pub binary : (op : Operator) (a b : TypedTree) → Of a → Of b → Of (Binary op a b)
  pub list : (a rest : TypedTree) → Of a → Of rest → Of (typed.More a rest)
  pub element : (index : TypedTree) (low high : ℤ) (rest : TypedTree) → Of index → Of rest → Of (Element index low high rest)
  pub name : (p : Pos) (x : ℕ) (steps : TypedTree) (t : ℕ) → Of steps → Of (Name p x steps t)
  pub component : (i : ℕ) (rest : TypedTree) → Of rest → Of (Component i rest)
  pub designated : (rest : TypedTree) → Of rest → Of (Designated rest)
  pub image : (t : ℕ) (e : TypedTree) → Of e → Of (Image t e)
  pub parens : (e : TypedTree) → Of e → Of (Parens e)
  pub unary : (op : UnaryOperator) (e : TypedTree) → Of e → Of (Unary op e)
  pub is_null : (equal : Bool) (e : TypedTree) → Of e → Of (IsNull equal e)
  pub aggregate : (t : ℕ) (parts : TypedTree) → Of parts → Of (Aggregate t parts)
  pub alike : (t : ℕ) (e : TypedTree) → Of e → Of (Alike t e)
  pub allocator : (t : ℕ) (v : TypedTree) → Of v → Of (New t v)
  pub others : (e : TypedTree) → is_plain e ≡ true → Of e

pub on_tree : {Of : TypedTree → Type 0} → TreeLaws Of → (e : TypedTree) → Of e
on_tree of (typed.Call p sub actuals) = of.call p sub actuals (on_tree of actuals)
on_tree of (Short op p a q b) = of.short op p a q b (on_tree of a) (on_tree of b)
on_tree of (Binary op a b) = of.binary op a b (on_tree of a) (on_tree of b)
on_tree of (typed.More a rest) = of.list a rest (on_tree of a) (on_tree of rest)
on_tree of (Element index low high rest) = of.element index low high rest (on_tree of index) (on_tree of rest)
on_tree of (Name p x steps t) = of.name p x steps t (on_tree of steps)
on_tree of (Component i rest) = of.component i rest (on_tree of rest)
on_tree of (Designated rest) = of.designated rest (on_tree of rest)
on_tree of (Image t e) = of.image t e (on_tree of e)
on_tree of (Parens e) = of.parens e (on_tree of e)
on_tree of (Unary op e) = of.unary op e (on_tree of e)
on_tree of (IsNull equal e) = of.is_null equal e (on_tree of e)
on_tree of (Aggregate t parts) = of.aggregate t parts (on_tree of parts)
on_tree of (Alike t e) = of.alike t e (on_tree of e)
on_tree of (New t v) = of.allocator t v (on_tree of v)
on_tree of e = of.others e refl

pub plain_prep : (s : Setting) (e : TypedTree) (at : Place) (scope : List ℕ) (k : List PointName) → is_plain e ≡ true → prep s e at scope k ≡ []
unfolding prep
plain_prep s (typed.Number n) at scope k plain = refl
plain_prep s (typed.Literal n) at scope k plain = refl
plain_prep s typed.Null at scope k plain = refl
plain_prep s (typed.Text text) at scope k plain = refl
plain_prep s typed.EndOfFile at scope k plain = refl
plain_prep s typed.NoMore at scope k plain = refl
plain_prep s _ at scope k plain = absurd (true≢false (sym plain))

pub plain_held : (s : Setting) (e : TypedTree) (at : Place) → is_plain e ≡ true → held s e at ≡ []
unfolding held
plain_held s (typed.Number n) at plain = refl
plain_held s (typed.Literal n) at plain = refl
plain_held s typed.Null at plain = refl
plain_held s (typed.Text text) at plain = refl
plain_held s typed.EndOfFile at plain = refl
plain_held s typed.NoMore at plain = refl
plain_held s _ at plain = absurd (true≢false (sym plain))
