-- Code in which all functions are as asked, and expressions without calls.
use Rattle.std.proofs.Common.{◌≡◌, refl, inl, ℕ, Bool, true, false, ◌||◌}
use Rattle.std.proofs.lemmas.Bool.{true≢false}
use Rattle.machine.specs.typed_tree.Trees.{TypedTree, Name, Component, Designated, Element, Image, Parens, Unary, Binary, Short, IsNull, Aggregate, Alike, New, TypedCode, Declare, Assign, Output, Input, Release, If, Branch, Case, When, Loop, While, For, Exit, Return, Block}
use Rattle.machine.specs.typed_tree.Trees as typed
use Rattle.machine.specs.flow_paths.Names.{has_call}
use Rattle.settled_types.specs.OrderLaws.ScopeLaws.Alone.{CallsFit, CallsOnly, SourceFits, CodeFits, BranchesFit, BranchFits, AlternativesFit, AlternativeFits}

neither : (a b : Bool) → a || b ≡ false → (a ≡ false) × (b ≡ false)
neither true b e = absurd (true≢false e)
neither false b e = (refl, e)

-- ---- where all functions are as asked

module _ (ask passed alone single : ℕ → Type 0) (handed : (n : ℕ) → ask n → passed n) (weaker : (n : ℕ) → ask n → alone n) (all : (n : ℕ) → ask n) where
  kinds_all : (kind : ℕ → Type 0) → ((n : ℕ) → ask n → kind n) → (e : TypedTree) → CallsFit ask passed kind e
  unfolding CallsFit
  kinds_all kind into (typed.Call p sub actuals) = (into sub (all sub), kinds_all passed handed actuals)
  kinds_all kind into (Element index low high rest) = (kinds_all ask (λ n one. one) index, kinds_all ask (λ n one. one) rest)
  kinds_all kind into (Binary op a b) = (kinds_all ask (λ n one. one) a, kinds_all ask (λ n one. one) b)
  kinds_all kind into (Short op p a q b) = (kinds_all ask (λ n one. one) a, kinds_all ask (λ n one. one) b)
  kinds_all kind into (typed.More e rest) = (kinds_all kind into e, kinds_all kind into rest)
  kinds_all kind into (Name p x e t) = kinds_all ask (λ n one. one) e
  kinds_all kind into (Component i e) = kinds_all ask (λ n one. one) e
  kinds_all kind into (Designated e) = kinds_all ask (λ n one. one) e
  kinds_all kind into (Image t e) = kinds_all ask (λ n one. one) e
  kinds_all kind into (Unary op e) = kinds_all ask (λ n one. one) e
  kinds_all kind into (IsNull equal e) = kinds_all ask (λ n one. one) e
  kinds_all kind into (Parens e) = kinds_all kind into e
  kinds_all kind into (Aggregate t e) = kinds_all kind into e
  kinds_all kind into (Alike t e) = kinds_all kind into e
  kinds_all kind into (New t e) = kinds_all kind into e
  kinds_all kind into _ = tt

  calls_all : (e : TypedTree) → CallsOnly ask passed e
  calls_all e = kinds_all ask (λ n one. one) e

  source_all : (e : TypedTree) → SourceFits ask passed alone e
  source_all e = kinds_all alone weaker e

  mutual
    unfolding CodeFits BranchesFit BranchFits AlternativesFit AlternativeFits

    pub code_all : (c : TypedCode) → CodeFits ask passed alone single c
    code_all (typed.More a rest) = (code_all a, code_all rest)
    code_all (Declare p x v) = inl (source_all v)
    code_all (Assign p target e) = (calls_all target, inl (source_all e))
    code_all (typed.Call p sub actuals) = kinds_all passed handed actuals
    code_all (Output p text line) = calls_all text
    code_all (Input p target) = calls_all target
    code_all (Release p m) = calls_all m
    code_all (If branches otherwise) = (branches_all branches, code_all otherwise)
    code_all (Case p e whens) = (calls_all e, alternatives_all whens)
    code_all (Loop stmts) = code_all stmts
    code_all (While p e stmts) = (calls_all e, code_all stmts)
    code_all (For p x reversed low high stmts) = (calls_all low, calls_all high, code_all stmts)
    code_all (Exit p e) = calls_all e
    code_all (Return p v) = inl (source_all v)
    code_all (Block n stmts end) = code_all stmts
    code_all _ = tt

    branches_all : (c : TypedCode) → BranchesFit ask passed alone single c
    branches_all (typed.More a rest) = (branch_all a, branches_all rest)
    branches_all _ = tt

    branch_all : (c : TypedCode) → BranchFits ask passed alone single c
    branch_all (Branch p e stmts) = (calls_all e, code_all stmts)
    branch_all _ = tt

    alternatives_all : (c : TypedCode) → AlternativesFit ask passed alone single c
    alternatives_all (typed.More a rest) = (alternative_all a, alternatives_all rest)
    alternatives_all _ = tt

    alternative_all : (c : TypedCode) → AlternativeFits ask passed alone single c
    alternative_all (When choices stmts) = code_all stmts
    alternative_all _ = tt

-- ---- where none is called

module _ (ask passed : ℕ → Type 0) where
  pub source_none : (kind : ℕ → Type 0) (e : TypedTree) → has_call e ≡ false → CallsFit ask passed kind e
  unfolding CallsFit has_call
  source_none kind (typed.Call p sub actuals) none = absurd (true≢false none)
  source_none kind (Element index low high rest) none = (let two = neither (has_call index) (has_call rest) none in (source_none ask index two.0, source_none ask rest two.1))
  source_none kind (Binary op a b) none = (let two = neither (has_call a) (has_call b) none in (source_none ask a two.0, source_none ask b two.1))
  source_none kind (Short op p a q b) none = (let two = neither (has_call a) (has_call b) none in (source_none ask a two.0, source_none ask b two.1))
  source_none kind (typed.More e rest) none = (let two = neither (has_call e) (has_call rest) none in (source_none kind e two.0, source_none kind rest two.1))
  source_none kind (Name p x e t) none = source_none ask e none
  source_none kind (Component i e) none = source_none ask e none
  source_none kind (Designated e) none = source_none ask e none
  source_none kind (Image t e) none = source_none ask e none
  source_none kind (Unary op e) none = source_none ask e none
  source_none kind (IsNull equal e) none = source_none ask e none
  source_none kind (Parens e) none = source_none kind e none
  source_none kind (Aggregate t e) none = source_none kind e none
  source_none kind (Alike t e) none = source_none kind e none
  source_none kind (New t e) none = source_none kind e none
  source_none kind _ none = tt

  pub calls_none : (e : TypedTree) → has_call e ≡ false → CallsOnly ask passed e
  calls_none e none = source_none ask e none

-- ---- of other kinds

-- What is of a kind is of a weaker one.
module _ (ask passed into_ask into_passed : ℕ → Type 0) (asks : (n : ℕ) → ask n → into_ask n) (passes : (n : ℕ) → passed n → into_passed n) where
  pub calls_from : (kind into_kind : ℕ → Type 0) → ((n : ℕ) → kind n → into_kind n) → (e : TypedTree) → CallsFit ask passed kind e → CallsFit into_ask into_passed into_kind e
  unfolding CallsFit
  calls_from kind into_kind into (typed.Call p sub actuals) (one, inner) = (into sub one, calls_from passed into_passed passes actuals inner)
  calls_from kind into_kind into (Element index low high rest) (first, second) = (calls_from ask into_ask asks index first, calls_from ask into_ask asks rest second)
  calls_from kind into_kind into (Binary op a b) (first, second) = (calls_from ask into_ask asks a first, calls_from ask into_ask asks b second)
  calls_from kind into_kind into (Short op p a q b) (first, second) = (calls_from ask into_ask asks a first, calls_from ask into_ask asks b second)
  calls_from kind into_kind into (typed.More e rest) (first, second) = (calls_from kind into_kind into e first, calls_from kind into_kind into rest second)
  calls_from kind into_kind into (Name p x e t) only = calls_from ask into_ask asks e only
  calls_from kind into_kind into (Component i e) only = calls_from ask into_ask asks e only
  calls_from kind into_kind into (Designated e) only = calls_from ask into_ask asks e only
  calls_from kind into_kind into (Image t e) only = calls_from ask into_ask asks e only
  calls_from kind into_kind into (Unary op e) only = calls_from ask into_ask asks e only
  calls_from kind into_kind into (IsNull equal e) only = calls_from ask into_ask asks e only
  calls_from kind into_kind into (Parens e) only = calls_from kind into_kind into e only
  calls_from kind into_kind into (Aggregate t e) only = calls_from kind into_kind into e only
  calls_from kind into_kind into (Alike t e) only = calls_from kind into_kind into e only
  calls_from kind into_kind into (New t e) only = calls_from kind into_kind into e only
  calls_from kind into_kind into _ only = tt

pub calls_as : (ask passed kind into_kind : ℕ → Type 0) → ((n : ℕ) → kind n → into_kind n) → (e : TypedTree) → CallsFit ask passed kind e → CallsFit ask passed into_kind e
calls_as ask passed kind into_kind into e fits = calls_from ask passed ask passed (λ n one. one) (λ n one. one) kind into_kind into e fits
