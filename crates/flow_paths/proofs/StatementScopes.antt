-- What is in scope goes on through statements.
use Rattle.std.proofs.Common.{◌≡◌, ◌⊎◌, ℕ, zero, suc, ◌+◌, List, [], ◌∷◌, ◌++◌, length, map, refl, sym, ap, ◌∙◌, subst, arith, inl, inr}
use Rattle.std.specs.Prelude.{Bool, true, false, not, ◌&&◌, ◌||◌, Option, Some, None, flat_map, filter, drop, reverse, if◌then◌else◌}
use Rattle.std.specs.List.{AllByRecursion}
use Rattle.std.proofs.lemmas.Grind.{common_steps}
use Rattle.std.proofs.lemmas.List.{append_assoc, reverse-append}
use Rattle.typed_tree.specs.spark_base.Lists.{Has}
use Rattle.typed_tree.proofs.spark_base.Lists.{Has-append_left, Has-append_right, Has-append_cases}
use Rattle.typed_tree.specs.spark_base.declared.position.Pos.{Pos}
use Rattle.typed_tree.specs.Trees.{TypedTree, TypedCode, Declare, Assign, Skip, Output, Input, Release, If, Branch, Case, When, Loop, While, For, Exit, Return, Block, More}
use Rattle.typed_tree.specs.Trees as typed
use Rattle.flow_paths.specs.Instructions.{Instruction, Finish}
use Rattle.flow_paths.specs.Instructions as instruction
use Rattle.flow_paths.specs.Objects.{Typing, has_scope_end}
use Rattle.flow_paths.specs.Names.{is_empty, waiting}
use Rattle.flow_paths.specs.Points.{Place, PointName, row_at, NamedPoint, point, entry}
use Rattle.flow_paths.specs.Prep.{Setting, held, with_held, prep}
use Rattle.flow_paths.specs.Layout.{Around, within_loop, within_block, with_scope, declared, ending, ends, closing, uses, uses_both, uses_second_first, unless_empty, choices_of, laid, laid_branches, laid_branch, laid_whens, laid_when}
use Rattle.flow_paths.specs.Scopes.{Leads, taken, brought, scope_behind, is_declaration, is_undeclaring, is_settled}
use Rattle.flow_paths.proofs.Held.{held_count}
use Rattle.flow_paths.proofs.ScopesFlow.{leads_same, leads_on, leads_is, Starts, starts_both, starts_to, prep_starts, Into, Own, Goes, Slack, into_slack, into_both, into_one, into_entry, into_is, own_left, own_right, goes_both, goes_more, goes_one, goes_none, use_goes, prep_goes}
use Rattle.flow_paths.proofs.Unwinding.{Unwinds, Loose, Lasting, block_unwinds, unwinds_silent, ends_enter, ends_go}

pub and_first : (a b : Bool) → (a && b) ≡ true → a ≡ true
and_first a b p = grind (arith, p)

pub and_second : (a b : Bool) → (a && b) ≡ true → b ≡ true
and_second a b p = grind (arith, p)

-- ---- what is declared

undeclared : (c : TypedCode) → is_undeclaring c ≡ true → declared c ≡ []
unfolding is_undeclaring declared
undeclared (Declare p x v) h = grind (arith, h)
undeclared (More a rest) h =
    let first : declared a ≡ [] = undeclared a (and_first (is_undeclaring a) (is_undeclaring rest) h) in
    let second : declared rest ≡ [] = undeclared rest (and_second (is_undeclaring a) (is_undeclaring rest) h) in
    ap (λ xs. xs ++ declared rest) first ∙ second
undeclared _ h = refl

-- What is in scope after code.
abbrev pub after : TypedCode → List ℕ → List ℕ
after c scope = reverse (declared c) ++ scope

pub after_undeclaring : (c : TypedCode) (scope : List ℕ) → is_undeclaring c ≡ true → after c scope ≡ scope
after_undeclaring c scope h = ap (λ xs. reverse xs ++ scope) (undeclared c h) ∙ grind (arith, common_steps)

pub after_more : (a rest : TypedCode) (scope : List ℕ) → after (More a rest) scope ≡ after rest (after a scope)
unfolding declared
after_more a rest scope =
    ap (λ xs. xs ++ scope) (reverse-append (declared a) (declared rest))
    ∙ append_assoc (reverse (declared rest)) (reverse (declared a)) scope

-- ---- points that use an expression

pub uses_start : (s : Setting) (at : Place) (p : Pos) (e : TypedTree) (i : Instruction) (w : Around) (next : List PointName) (c : List ℕ)
    → Starts s.typing (uses s at p e i w next) w.scope c
uses_start s at p e i w next c =
    let pt : NamedPoint = point (row_at at 0) p i (with_held s e (0 ∷ at) w.scope) next in
    starts_both s.typing (prep s e (0 ∷ at) w.scope (row_at at 0 ∷ [])) (pt ∷ []) w.scope (with_held s e (0 ∷ at) w.scope) c
    (prep_starts s e (0 ∷ at) w.scope (row_at at 0 ∷ [])) (leads_same s.typing (with_held s e (0 ∷ at) w.scope))

any_more : (s : Typing) (ps qs : List NamedPoint) (p : NamedPoint) (a c : List ℕ) → Starts s (ps ++ p ∷ []) a a → Starts s ((ps ++ p ∷ []) ++ qs) a c
any_more s [] qs p a c h = h
any_more s (x ∷ ps) qs p a c h = h

pub uses_go : (s : Setting) (T : PointName → List ℕ → Type 0) (slack : Slack s.typing T) (at : Place) (p : Pos) (e : TypedTree) (i : Instruction) (w : Around)
    (next : List PointName) → taken i ≡ waiting e → Own T (uses s at p e i w next) → Into T next (brought i w.scope) → Goes T (uses s at p e i w next)
uses_go s T slack at p e i w next takes own go =
    use_goes s T slack e (0 ∷ at) (row_at at 0) w.scope p i next (prep s e (0 ∷ at) w.scope (row_at at 0 ∷ []))
    (prep_goes s T slack e (0 ∷ at) w.scope (row_at at 0 ∷ [])) takes own go

-- Two expressions at a and b, the first one first.
drop_both : (s : Setting) (a b : TypedTree) (x y : Place) (scope : List ℕ) (n : ℕ) → n ≡ waiting a + waiting b
    → drop n (with_held s b y (with_held s a x scope)) ≡ scope
drop_both s a b x y scope n is =
    let many : length (held s b y ++ held s a x) ≡ n = grind (arith, common_steps, held_count s a x, held_count s b y, is) in
    ap (λ xs. drop n xs) (sym (append_assoc (held s b y) (held s a x) scope))
    ∙ ap (λ m. drop m ((held s b y ++ held s a x) ++ scope)) (sym many) ∙ drop_front (held s b y ++ held s a x) scope
  where
    drop_front : (xs scope : List ℕ) → drop (length xs) (xs ++ scope) ≡ scope
    drop_front [] scope = grind (arith, common_steps)
    drop_front (z ∷ xs) scope = grind (arith, common_steps, drop_front xs scope)

pub both_go : (s : Setting) (T : PointName → List ℕ → Type 0) (slack : Slack s.typing T) (a b : TypedTree) (x y : Place) (row : PointName) (scope : List ℕ)
    (p : Pos) (i : Instruction) (next : List PointName) → taken i ≡ waiting a + waiting b
    → Own T (prep s a x scope (entry (prep s b y (with_held s a x scope) (row ∷ [])) (row ∷ [])) ++ prep s b y (with_held s a x scope) (row ∷ [])
    ++ point row p i (with_held s b y (with_held s a x scope)) next ∷ [])
    → Into T next (brought i scope)
    → Goes T (prep s a x scope (entry (prep s b y (with_held s a x scope) (row ∷ [])) (row ∷ [])) ++ prep s b y (with_held s a x scope) (row ∷ [])
    ++ point row p i (with_held s b y (with_held s a x scope)) next ∷ [])
both_go s T slack a b x y row scope p i next takes own go =
    let inner : List ℕ = with_held s a x scope in
    let qs : List NamedPoint = prep s b y inner (row ∷ []) in
    let ps : List NamedPoint = prep s a x scope (entry qs (row ∷ [])) in
    let pt : NamedPoint = point row p i (with_held s b y inner) next in
    let own_front : Own T (ps ++ qs) = own_left s.typing T slack (ps ++ qs) (pt ∷ []) own in
    let own_qs : Own T qs = own_right s.typing T slack ps qs own_front in
    let to_row : Into T (row ∷ []) (with_held s b y inner) =
    into_one s.typing T slack row (with_held s b y inner) (own pt (Has-append_right (ps ++ qs) (pt ∷ []) pt (inl refl))) in
    goes_both s.typing T slack (ps ++ qs) (pt ∷ [])
    (goes_both s.typing T slack ps qs
    (prep_goes s T slack a x scope (entry qs (row ∷ [])) (own_left s.typing T slack ps qs own_front)
    (into_entry s.typing T slack qs (row ∷ []) inner (with_held s b y inner) own_qs (prep_starts s b y inner (row ∷ [])) to_row))
    (prep_goes s T slack b y inner (row ∷ []) own_qs to_row))
    (goes_one s.typing T slack pt (into_is s.typing T slack next (scope_behind pt) (brought i scope) (ap (brought i) (drop_both s a b x y scope (taken i) takes)) go))

both_start : (s : Setting) (a b : TypedTree) (x y : Place) (row : PointName) (scope c : List ℕ) (p : Pos) (i : Instruction) (next : List PointName)
    → Starts s.typing (prep s a x scope (entry (prep s b y (with_held s a x scope) (row ∷ [])) (row ∷ [])) ++ prep s b y (with_held s a x scope) (row ∷ [])
    ++ point row p i (with_held s b y (with_held s a x scope)) next ∷ []) scope c
both_start s a b x y row scope c p i next =
    let inner : List ℕ = with_held s a x scope in
    let qs : List NamedPoint = prep s b y inner (row ∷ []) in
    let ps : List NamedPoint = prep s a x scope (entry qs (row ∷ [])) in
    starts_both s.typing (ps ++ qs) (point row p i (with_held s b y inner) next ∷ []) scope (with_held s b y inner) c
    (starts_both s.typing ps qs scope inner (with_held s b y inner) (prep_starts s a x scope (entry qs (row ∷ []))) (prep_starts s b y inner (row ∷ [])))
    (leads_same s.typing (with_held s b y inner))

-- ---- where statements begin

all_end : (s : Typing) (xs : List ℕ) (x : ℕ) → AllByRecursion (Lasting s) xs → Lasting s x → AllByRecursion (Lasting s) (xs ++ x ∷ [])
all_end s [] x h g = (g, tt)
all_end s (y ∷ xs) x h g = (h.0, all_end s xs x h.1 g)

all_append : (s : Typing) (xs ys : List ℕ) → AllByRecursion (Lasting s) xs → AllByRecursion (Lasting s) ys → AllByRecursion (Lasting s) (xs ++ ys)
all_append s [] ys h g = g
all_append s (x ∷ xs) ys h g = (h.0, all_append s xs ys h.1 g)

all_reverse : (s : Typing) (xs : List ℕ) → AllByRecursion (Lasting s) xs → AllByRecursion (Lasting s) (reverse xs)
all_reverse s [] h = tt
all_reverse s (x ∷ xs) h =
    subst (AllByRecursion (Lasting s)) (sym (reverse-append (x ∷ []) xs)) (all_end s (reverse xs) x (all_reverse s xs h.1) h.0)

lasting : (s : Typing) (c : TypedCode) → is_settled s c ≡ true → AllByRecursion (Lasting s) (declared c)
unfolding is_settled declared
lasting s (Declare p x v) h = (h, tt)
lasting s (More a rest) h =
    let more : (is_settled s rest && (is_declaration a || is_undeclaring rest)) ≡ true = and_second (is_settled s a) _ h in
    all_append s (declared a) (declared rest) (lasting s a (and_first (is_settled s a) _ h)) (lasting s rest (and_first (is_settled s rest) _ more))
lasting s _ h = tt

-- What a block declares ends before what is around it.
pub ended : (s : Setting) (F : List ℕ → Type 0) → Loose s.typing F → (stmts : TypedCode) (xs scope : List ℕ) → is_settled s.typing stmts ≡ true
    → Unwinds s.typing F xs scope → Unwinds s.typing F (ending s stmts ++ xs) (after stmts scope)
ended s F loose stmts xs scope h u =
    block_unwinds s.typing F loose (reverse (declared stmts)) xs scope (all_reverse s.typing (declared stmts) (lasting s.typing stmts h)) u

no_more : (xs : List ℕ) → xs ++ [] ≡ xs
no_more xs = grind (arith, common_steps)

pub ended_alone : (s : Setting) (F : List ℕ → Type 0) → Loose s.typing F → (stmts : TypedCode) (scope : List ℕ) → is_settled s.typing stmts ≡ true
    → F scope → Unwinds s.typing F (ending s stmts) (after stmts scope)
ended_alone s F loose stmts scope h u =
    subst (λ xs. Unwinds s.typing F xs (after stmts scope)) (no_more (ending s stmts)) (ended s F loose stmts [] scope h u)

ends_start : (s : Typing) (at : Place) (r : ℕ) (p : Pos) (xs scope : List ℕ) (k : List PointName) (to : List ℕ)
    → Unwinds s (λ e. Leads s e to) xs scope → Starts s (ends at r p xs scope k) scope to
ends_start s at r p [] scope k to h = h
ends_start s at r p (x ∷ xs) scope k to h = subst (λ sc. Leads s scope sc) (sym h.3) h.2

pub leads_loose : (s : Typing) (to : List ℕ) → Loose s (λ e. Leads s e to)
leads_loose s to a b h g = leads_on s a b to h g

mutual
  unfolding laid is_settled is_undeclaring declared

  pub laid_starts : (s : Setting) (c : TypedCode) (at : Place) (w : Around) (k : List PointName) → is_settled s.typing c ≡ true
      → Starts s.typing (laid s c at w k) w.scope (after c w.scope)
  laid_starts s (More a rest) at w k h =
      let first : is_settled s.typing a ≡ true = and_first (is_settled s.typing a) _ h in
      let second : is_settled s.typing rest ≡ true = and_first (is_settled s.typing rest) _ (and_second (is_settled s.typing a) _ h) in
      let v : Around = with_scope (declared a) w in
      let behind : List NamedPoint = laid s rest (1 ∷ at) v k in
      starts_to s.typing (laid s a (0 ∷ at) w (entry behind k) ++ behind) w.scope (after rest (after a w.scope)) (after (More a rest) w.scope)
      (leads_is s.typing _ _ (sym (after_more a rest w.scope)))
      (starts_both s.typing (laid s a (0 ∷ at) w (entry behind k)) behind w.scope (after a w.scope) (after rest (after a w.scope))
      (laid_starts s a (0 ∷ at) w (entry behind k) first) (laid_starts s rest (1 ∷ at) v k second))
  laid_starts s (Declare p x v) at w k h = uses_start s at p v (instruction.Declare x v) w k (x ∷ w.scope)
  laid_starts s (Assign p target e) at w k h =
      both_start s e target (1 ∷ at) (0 ∷ at) (row_at at 0) w.scope w.scope p (instruction.Assign target e) k
  laid_starts s (Skip p) at w k h = leads_same s.typing w.scope
  laid_starts s (typed.Call p sub actuals) at w k h = uses_start s at p actuals (instruction.Call sub actuals None) w k w.scope
  laid_starts s (Output p text line) at w k h = uses_start s at p text (instruction.Output text line) w k w.scope
  laid_starts s (Input p target) at w k h = uses_start s at p target (instruction.Input target) w k w.scope
  laid_starts s (Release p m) at w k h = uses_start s at p m (instruction.Release m) w k w.scope
  laid_starts s (If branches otherwise) at w k h =
      let first : is_settled s.typing branches ≡ true = and_first (is_settled s.typing branches) _ h in
      let more : (is_settled s.typing otherwise && is_undeclaring otherwise) ≡ true = and_second (is_settled s.typing branches) _ h in
      let behind : List NamedPoint = laid s otherwise (1 ∷ at) w k in
      starts_both s.typing (laid_branches s branches (0 ∷ at) w k (entry behind k)) behind w.scope w.scope w.scope
      (branches_start s branches (0 ∷ at) w k (entry behind k))
      (starts_to s.typing behind w.scope (after otherwise w.scope) w.scope
      (leads_is s.typing _ _ (after_undeclaring otherwise w.scope (and_second (is_settled s.typing otherwise) _ more)))
      (laid_starts s otherwise (1 ∷ at) w k (and_first (is_settled s.typing otherwise) _ more)))
  laid_starts s (Case p e whens) at w k h =
      any_more s.typing (prep s e (0 ∷ at) w.scope (row_at at 0 ∷ [])) (flat_map (λ ps. ps) (laid_whens s whens (1 ∷ at) w k)) _ w.scope w.scope
      (uses_start s at p e (instruction.Choose e (choices_of whens)) w (flat_map (λ ps. entry ps k) (laid_whens s whens (1 ∷ at) w k)) w.scope)
  laid_starts s (Loop stmts) at w k h =
      starts_to s.typing (laid s (Loop stmts) at w k) w.scope (after stmts w.scope) w.scope
      (leads_is s.typing _ _ (after_undeclaring stmts w.scope (and_second (is_settled s.typing stmts) _ h)))
      (laid_starts s stmts (0 ∷ at) (within_loop k w) (entry (laid s stmts (0 ∷ at) (within_loop k w) k) k) (and_first (is_settled s.typing stmts) _ h))
  laid_starts s (While p e stmts) at w k h =
      let turn : List PointName = entry (prep s e (0 ∷ at) w.scope (row_at at 0 ∷ [])) (row_at at 0 ∷ []) in
      let inner : List NamedPoint = laid s stmts (1 ∷ at) (within_loop k w) turn in
      any_more s.typing (prep s e (0 ∷ at) w.scope (row_at at 0 ∷ [])) inner _ w.scope w.scope
      (uses_start s at p e (instruction.Test e) w (entry inner turn ++ k) w.scope)
  laid_starts s (For p x reversed low high stmts) at w k h =
      any_more s.typing (prep s low (0 ∷ at) w.scope (entry (prep s high (1 ∷ at) (with_held s low (0 ∷ at) w.scope) (row_at at 0 ∷ [])) (row_at at 0 ∷ []))
      ++ prep s high (1 ∷ at) (with_held s low (0 ∷ at) w.scope) (row_at at 0 ∷ [])) _ _ w.scope w.scope
      (both_start s low high (0 ∷ at) (1 ∷ at) (row_at at 0) w.scope w.scope p (instruction.Start x reversed low high) (row_at at 1 ∷ []))
  laid_starts s (Exit p e) at w k h =
      let out : List NamedPoint = ends at 1 p w.in_loop w.scope w.leave in
      any_more s.typing (prep s e (0 ∷ at) w.scope (row_at at 0 ∷ [])) out _ w.scope w.scope
      (uses_start s at p e (instruction.LeaveLoop e) w (entry out w.leave ++ unless_empty e k) w.scope)
  laid_starts s (Return p v) at w k h =
      any_more s.typing (prep s v (0 ∷ at) w.scope (row_at at 0 ∷ [])) (closing at 1 p w) _ w.scope w.scope
      (uses_start s at p v (instruction.Hold v) w (entry (closing at 1 p w) []) w.scope)
  laid_starts s (Block n stmts end) at w k h =
      let out : List NamedPoint = ends at 0 end (ending s stmts) (after stmts w.scope) k in
      starts_both s.typing (laid s stmts (0 ∷ at) (within_block (ending s stmts) w) (entry out k)) out w.scope (after stmts w.scope) w.scope
      (laid_starts s stmts (0 ∷ at) (within_block (ending s stmts) w) (entry out k) h)
      (ends_start s.typing at 0 end (ending s stmts) (after stmts w.scope) k w.scope
      (ended_alone s (λ e. Leads s.typing e w.scope) (leads_loose s.typing w.scope) stmts w.scope h (leads_same s.typing w.scope)))
  laid_starts s _ at w k h = leads_same s.typing w.scope

  pub branches_start : (s : Setting) (c : TypedCode) (at : Place) (w : Around) (k otherwise : List PointName)
      → Starts s.typing (laid_branches s c at w k otherwise) w.scope w.scope
  branches_start s (More a rest) at w k otherwise =
      let behind : List NamedPoint = laid_branches s rest (1 ∷ at) w k otherwise in
      starts_both s.typing (laid_branch s a (0 ∷ at) w k (entry behind otherwise)) behind w.scope w.scope w.scope
      (branch_starts s a (0 ∷ at) w k (entry behind otherwise)) (branches_start s rest (1 ∷ at) w k otherwise)
  branches_start s _ at w k otherwise = leads_same s.typing w.scope

  pub branch_starts : (s : Setting) (c : TypedCode) (at : Place) (w : Around) (k otherwise : List PointName)
      → Starts s.typing (laid_branch s c at w k otherwise) w.scope w.scope
  branch_starts s (Branch p e stmts) at w k otherwise =
      let inner : List NamedPoint = laid s stmts (1 ∷ at) w k in
      any_more s.typing (prep s e (0 ∷ at) w.scope (row_at at 0 ∷ [])) inner _ w.scope w.scope
      (uses_start s at p e (instruction.Test e) w (entry inner k ++ otherwise) w.scope)
  branch_starts s _ at w k otherwise = leads_same s.typing w.scope
