-- What is in scope goes on from point to point.
--
-- T n sc says that the point called n may be reached with sc in scope. What a construct needs is
-- that its own points may be reached so, and what follows it; then each of its points leads on so.
use Rattle.std.proofs.Common.{◌≡◌, ◌⊎◌, ℕ, zero, suc, ◌+◌, List, [], ◌∷◌, ◌++◌, length, map, refl, sym, ap, ◌∙◌, subst, arith, inl, inr}
use Rattle.std.specs.Prelude.{Bool, true, false, Option, Some, None, drop, reverse, if◌then◌else◌}
use Rattle.std.specs.List.{AllByRecursion}
use Rattle.std.proofs.lemmas.Grind.{common_steps}
use Rattle.std.proofs.lemmas.List.{append_assoc}
use Rattle.typed_tree.specs.spark_base.Lists.{Has}
use Rattle.typed_tree.proofs.spark_base.Lists.{Has-append_left, Has-append_right, Has-append_cases}
use Rattle.typed_tree.specs.spark_base.declared.position.Pos.{Pos}
use Rattle.typed_tree.specs.Trees.{TypedTree, Name, Component, Designated, Element, Call, Image, Parens, Unary, Binary, Short, IsNull, Aggregate, Alike, New, More}
use Rattle.flow_paths.specs.Instructions.{Instruction, Evaluate}
use Rattle.flow_paths.specs.Instructions as instruction
use Rattle.flow_paths.specs.Objects.{Typing}
use Rattle.flow_paths.specs.Names.{has_call, waiting}
use Rattle.flow_paths.specs.Points.{Place, PointName, row_at, NamedPoint, point, entry}
use Rattle.flow_paths.specs.Prep.{Setting, held, with_held, prep}
use Rattle.typed_tree.specs.declared.node.ShortCircuit.{ShortCircuit}
use Rattle.flow_paths.specs.Scopes.{taken, brought, scope_behind, Silent, Leads}
use Rattle.flow_paths.proofs.Held.{held_count}

-- ---- from scope to scope

pub leads_same : (s : Typing) (a : List ℕ) → Leads s a a
leads_same s a = ([], tt, refl)

all_both : (s : Typing) (xs ys : List ℕ) → AllByRecursion (Silent s) xs → AllByRecursion (Silent s) ys → AllByRecursion (Silent s) (xs ++ ys)
all_both s [] ys h g = g
all_both s (x ∷ xs) ys h g = (h.0, all_both s xs ys h.1 g)

pub leads_on : (s : Typing) (a b c : List ℕ) → Leads s a b → Leads s b c → Leads s a c
leads_on s a b c h g =
    (h.0 ++ g.0, all_both s h.0 g.0 h.1 g.1, h.2 ∙ ap (λ xs. h.0 ++ xs) g.2 ∙ sym (append_assoc h.0 g.0 c))

pub leads_is : (s : Typing) (a b : List ℕ) → a ≡ b → Leads s a b
leads_is s a b is = ([], tt, is)

drop_all : (xs scope : List ℕ) → drop (length xs) (xs ++ scope) ≡ scope
drop_all [] scope = grind (arith, common_steps)
drop_all (x ∷ xs) scope = grind (arith, common_steps, drop_all xs scope)

pub drop_held : (s : Setting) (e : TypedTree) (at : Place) (scope : List ℕ) → drop (waiting e) (with_held s e at scope) ≡ scope
drop_held s e at scope = ap (λ n. drop n (held s e at ++ scope)) (sym (held_count s e at)) ∙ drop_all (held s e at) scope

-- Points begin with a in scope; where there are none, a leads to b.
abbrev pub Starts : Typing → List NamedPoint → List ℕ → List ℕ → Type 0
Starts s [] a b = Leads s a b
Starts s (p ∷ ps) a b = Leads s a p.scope

pub starts_both : (s : Typing) (ps qs : List NamedPoint) (a b c : List ℕ) → Starts s ps a b → Starts s qs b c → Starts s (ps ++ qs) a c
starts_both s [] [] a b c h g = leads_on s a b c h g
starts_both s [] (q ∷ qs) a b c h g = leads_on s a b q.scope h g
starts_both s (p ∷ ps) qs a b c h g = h

pub starts_to : (s : Typing) (ps : List NamedPoint) (a b c : List ℕ) → Leads s b c → Starts s ps a b → Starts s ps a c
starts_to s [] a b c g h = leads_on s a b c h g
starts_to s (p ∷ ps) a b c g h = h

-- ---- before a use

assoc_starts : (s : Typing) (ps : List NamedPoint) (a xs ys scope : List ℕ) → Starts s ps a (xs ++ (ys ++ scope)) → Starts s ps a ((xs ++ ys) ++ scope)
assoc_starts s ps a xs ys scope h = starts_to s ps a (xs ++ (ys ++ scope)) ((xs ++ ys) ++ scope) (leads_is s _ _ (sym (append_assoc xs ys scope))) h

either_starts : (s : Typing) (b : Bool) (ps qs : List NamedPoint) (a xs ys scope : List ℕ) → Starts s ps a (xs ++ scope) → Starts s qs a (ys ++ scope)
    → Starts s (if b then ps else qs) a ((if b then xs else ys) ++ scope)
either_starts s true ps qs a xs ys scope h g = h
either_starts s false ps qs a xs ys scope h g = g

two_start : (s : Setting) (a b : TypedTree) (at : Place) (scope : List ℕ) (ps qs : List NamedPoint)
    → Starts s.typing ps scope (with_held s a (0 ∷ at) scope)
    → Starts s.typing qs (with_held s a (0 ∷ at) scope) (with_held s b (1 ∷ at) (with_held s a (0 ∷ at) scope))
    → Starts s.typing (ps ++ qs) scope ((held s b (1 ∷ at) ++ held s a (0 ∷ at)) ++ scope)
two_start s a b at scope ps qs h g =
    assoc_starts s.typing (ps ++ qs) scope (held s b (1 ∷ at)) (held s a (0 ∷ at)) scope
    (starts_both s.typing ps qs scope (with_held s a (0 ∷ at) scope) (with_held s b (1 ∷ at) (with_held s a (0 ∷ at) scope)) h g)

pub prep_starts : (s : Setting) (e : TypedTree) (at : Place) (scope : List ℕ) (k : List PointName)
    → Starts s.typing (prep s e at scope k) scope (with_held s e at scope)
unfolding prep held
prep_starts s (Call p sub actuals) at scope k =
    starts_both s.typing (prep s actuals (0 ∷ at) scope (row_at at 0 ∷ [])) _ scope (with_held s actuals (0 ∷ at) scope) _
    (prep_starts s actuals (0 ∷ at) scope (row_at at 0 ∷ [])) (leads_same s.typing (with_held s actuals (0 ∷ at) scope))
prep_starts s (Short op p a q b) at scope k =
    let behind : List NamedPoint = prep s b (1 ∷ at) (with_held s a (0 ∷ at) scope) k in
    either_starts s.typing (has_call b) _ _ scope (s.temporary at ∷ []) (held s b (1 ∷ at) ++ held s a (0 ∷ at)) scope
    (starts_both s.typing (prep s a (0 ∷ at) scope (row_at at 0 ∷ [])) _ scope (with_held s a (0 ∷ at) scope) _
    (prep_starts s a (0 ∷ at) scope (row_at at 0 ∷ [])) (leads_same s.typing (with_held s a (0 ∷ at) scope)))
    (two_start s a b at scope (prep s a (0 ∷ at) scope (entry behind k)) behind (prep_starts s a (0 ∷ at) scope (entry behind k))
    (prep_starts s b (1 ∷ at) (with_held s a (0 ∷ at) scope) k))
prep_starts s (Binary op a b) at scope k =
    let behind : List NamedPoint = prep s b (1 ∷ at) (with_held s a (0 ∷ at) scope) k in
    two_start s a b at scope (prep s a (0 ∷ at) scope (entry behind k)) behind (prep_starts s a (0 ∷ at) scope (entry behind k))
    (prep_starts s b (1 ∷ at) (with_held s a (0 ∷ at) scope) k)
prep_starts s (More a b) at scope k =
    let behind : List NamedPoint = prep s b (1 ∷ at) (with_held s a (0 ∷ at) scope) k in
    two_start s a b at scope (prep s a (0 ∷ at) scope (entry behind k)) behind (prep_starts s a (0 ∷ at) scope (entry behind k))
    (prep_starts s b (1 ∷ at) (with_held s a (0 ∷ at) scope) k)
prep_starts s (Element a low high b) at scope k =
    let behind : List NamedPoint = prep s b (1 ∷ at) (with_held s a (0 ∷ at) scope) k in
    two_start s a b at scope (prep s a (0 ∷ at) scope (entry behind k)) behind (prep_starts s a (0 ∷ at) scope (entry behind k))
    (prep_starts s b (1 ∷ at) (with_held s a (0 ∷ at) scope) k)
prep_starts s (Name p x e t) at scope k = prep_starts s e (0 ∷ at) scope k
prep_starts s (Component i e) at scope k = prep_starts s e (0 ∷ at) scope k
prep_starts s (Designated e) at scope k = prep_starts s e (0 ∷ at) scope k
prep_starts s (Image t e) at scope k = prep_starts s e (0 ∷ at) scope k
prep_starts s (Parens e) at scope k = prep_starts s e (0 ∷ at) scope k
prep_starts s (Unary op e) at scope k = prep_starts s e (0 ∷ at) scope k
prep_starts s (IsNull equal e) at scope k = prep_starts s e (0 ∷ at) scope k
prep_starts s (Aggregate t e) at scope k = prep_starts s e (0 ∷ at) scope k
prep_starts s (Alike t e) at scope k = prep_starts s e (0 ∷ at) scope k
prep_starts s (New t e) at scope k = prep_starts s e (0 ∷ at) scope k
prep_starts s _ at scope k = leads_same s.typing scope

-- ---- what may be reached

abbrev pub Into : (PointName → List ℕ → Type 0) → List PointName → List ℕ → Type 0
Into T ks scope = (n : PointName) → Has ks n → T n scope

-- Some points may be reached as they are.
abbrev pub Own : (PointName → List ℕ → Type 0) → List NamedPoint → Type 0
Own T ps = (q : NamedPoint) → Has ps q → T q.name q.scope

-- Each of some points leads to what may be reached with what is in scope after it.
abbrev pub Goes : (PointName → List ℕ → Type 0) → List NamedPoint → Type 0
Goes T ps = (p : NamedPoint) → Has ps p → Into T p.next (scope_behind p)

-- What leads to a scope with which a point may be reached may reach it too.
abbrev pub Slack : Typing → (PointName → List ℕ → Type 0) → Type 0
Slack s T = (n : PointName) (a b : List ℕ) → Leads s a b → T n b → T n a

module _ (s : Typing) (T : PointName → List ℕ → Type 0) (slack : Slack s T) where
  pub into_slack : (ks : List PointName) (a b : List ℕ) → Leads s a b → Into T ks b → Into T ks a
  into_slack ks a b h go n has = slack n a b h (go n has)

  pub into_both : (ks ls : List PointName) (a : List ℕ) → Into T ks a → Into T ls a → Into T (ks ++ ls) a
  into_both ks ls a h g n has = elim (Has-append_cases ks ls n has) [ inl x ↦ h n x | inr y ↦ g n y ]

  pub into_one : (n : PointName) (a : List ℕ) → T n a → Into T (n ∷ []) a
  into_one n a here m has = elim has [ inl is ↦ subst (λ k. T k a) is here | inr none ↦ elim none [ ] ]

  pub into_entry : (ps : List NamedPoint) (k : List PointName) (a b : List ℕ) → Own T ps → Starts s ps a b → Into T k b → Into T (entry ps k) a
  into_entry [] k a b own starts go = into_slack k a b starts go
  into_entry (p ∷ ps) k a b own starts go = into_one p.name a (slack p.name a p.scope starts (own p (inl refl)))

  pub own_left : (ps qs : List NamedPoint) → Own T (ps ++ qs) → Own T ps
  own_left ps qs own q has = own q (Has-append_left ps qs q has)

  pub own_right : (ps qs : List NamedPoint) → Own T (ps ++ qs) → Own T qs
  own_right ps qs own q has = own q (Has-append_right ps qs q has)

  pub goes_both : (ps qs : List NamedPoint) → Goes T ps → Goes T qs → Goes T (ps ++ qs)
  goes_both ps qs h g p has = elim (Has-append_cases ps qs p has) [ inl x ↦ h p x | inr y ↦ g p y ]

  pub goes_none : Goes T []
  goes_none p has = elim has [ ]

  pub goes_more : (p : NamedPoint) (ps : List NamedPoint) → Into T p.next (scope_behind p) → Goes T ps → Goes T (p ∷ ps)
  goes_more p ps h g q has = elim has [ inl is ↦ subst (λ r. Into T r.next (scope_behind r)) is h | inr y ↦ g q y ]

  pub goes_one : (p : NamedPoint) → Into T p.next (scope_behind p) → Goes T (p ∷ [])
  goes_one p h = goes_more p [] h goes_none

  pub into_is : (ks : List PointName) (a b : List ℕ) → a ≡ b → Into T ks b → Into T ks a
  into_is ks a b is go = into_slack ks a b (leads_is s a b is) go

-- ---- what comes before a use leads to it

-- Two parts, one after the other.
two_go : (s : Setting) (T : PointName → List ℕ → Type 0) (slack : Slack s.typing T) (a b : TypedTree) (at : Place) (scope : List ℕ) (k : List PointName)
    → ((l : List PointName) → Own T (prep s a (0 ∷ at) scope l) → Into T l (with_held s a (0 ∷ at) scope) → Goes T (prep s a (0 ∷ at) scope l))
    → (Own T (prep s b (1 ∷ at) (with_held s a (0 ∷ at) scope) k) → Into T k (with_held s b (1 ∷ at) (with_held s a (0 ∷ at) scope))
    → Goes T (prep s b (1 ∷ at) (with_held s a (0 ∷ at) scope) k))
    → Own T (prep s a (0 ∷ at) scope (entry (prep s b (1 ∷ at) (with_held s a (0 ∷ at) scope) k) k) ++ prep s b (1 ∷ at) (with_held s a (0 ∷ at) scope) k)
    → Into T k ((held s b (1 ∷ at) ++ held s a (0 ∷ at)) ++ scope)
    → Goes T (prep s a (0 ∷ at) scope (entry (prep s b (1 ∷ at) (with_held s a (0 ∷ at) scope) k) k) ++ prep s b (1 ∷ at) (with_held s a (0 ∷ at) scope) k)
two_go s T slack a b at scope k first second own go =
    let inner : List ℕ = with_held s a (0 ∷ at) scope in
    let qs : List NamedPoint = prep s b (1 ∷ at) inner k in
    let ps : List NamedPoint = prep s a (0 ∷ at) scope (entry qs k) in
    let on : Into T k (with_held s b (1 ∷ at) inner) =
    into_is s.typing T slack k _ _ (sym (append_assoc (held s b (1 ∷ at)) (held s a (0 ∷ at)) scope)) go in
    let own_qs : Own T qs = own_right s.typing T slack ps qs own in
    goes_both s.typing T slack ps qs
    (first (entry qs k) (own_left s.typing T slack ps qs own)
    (into_entry s.typing T slack qs k inner (with_held s b (1 ∷ at) inner) own_qs (prep_starts s b (1 ∷ at) inner k) on))
    (second own_qs on)

-- A point after the Prep of what it uses.
pub use_goes : (s : Setting) (T : PointName → List ℕ → Type 0) (slack : Slack s.typing T) (e : TypedTree) (at : Place) (row : PointName) (scope : List ℕ)
    (p : Pos) (i : Instruction) (next : List PointName) (ps : List NamedPoint)
    → (Own T ps → Into T (row ∷ []) (with_held s e at scope) → Goes T ps) → taken i ≡ waiting e
    → Own T (ps ++ point row p i (with_held s e at scope) next ∷ []) → Into T next (brought i scope)
    → Goes T (ps ++ point row p i (with_held s e at scope) next ∷ [])
use_goes s T slack e at row scope p i next ps before takes own go =
    let pt : NamedPoint = point row p i (with_held s e at scope) next in
    let behind : scope_behind pt ≡ brought i scope =
    ap (λ n. brought i (drop n (with_held s e at scope))) takes ∙ ap (brought i) (drop_held s e at scope) in
    goes_both s.typing T slack ps (pt ∷ [])
    (before (own_left s.typing T slack ps (pt ∷ []) own)
    (into_one s.typing T slack row (with_held s e at scope) (own pt (Has-append_right ps (pt ∷ []) pt (inl refl)))))
    (goes_one s.typing T slack pt (into_is s.typing T slack next (scope_behind pt) (brought i scope) behind go))

short_goes : (s : Setting) (T : PointName → List ℕ → Type 0) (slack : Slack s.typing T) (a b : TypedTree) (op : ShortCircuit) (p q : Pos) (at : Place) (scope : List ℕ)
    (k : List PointName) (ps right : List NamedPoint)
    → (Own T ps → Into T (row_at at 0 ∷ []) (with_held s a (0 ∷ at) scope) → Goes T ps)
    → (Own T right → Into T (row_at at 1 ∷ []) (with_held s b (1 ∷ at) (s.temporary at ∷ scope)) → Goes T right)
    → Starts s.typing right (s.temporary at ∷ scope) (with_held s b (1 ∷ at) (s.temporary at ∷ scope))
    → Own T (ps ++ (point (row_at at 0) p (Evaluate (s.temporary at) a (Some op)) (with_held s a (0 ∷ at) scope) (entry right (row_at at 1 ∷ []) ++ k)
    ∷ (right ++ point (row_at at 1) q (Evaluate (s.temporary at) b None) (with_held s b (1 ∷ at) (s.temporary at ∷ scope)) k ∷ [])))
    → Into T k (s.temporary at ∷ scope)
    → Goes T (ps ++ (point (row_at at 0) p (Evaluate (s.temporary at) a (Some op)) (with_held s a (0 ∷ at) scope) (entry right (row_at at 1 ∷ []) ++ k)
    ∷ (right ++ point (row_at at 1) q (Evaluate (s.temporary at) b None) (with_held s b (1 ∷ at) (s.temporary at ∷ scope)) k ∷ [])))
short_goes s T slack a b op p q at scope k ps right first second starts own go =
    let t : ℕ = s.temporary at in
    let p0 : NamedPoint = point (row_at at 0) p (Evaluate t a (Some op)) (with_held s a (0 ∷ at) scope) (entry right (row_at at 1 ∷ []) ++ k) in
    let p1 : NamedPoint = point (row_at at 1) q (Evaluate t b None) (with_held s b (1 ∷ at) (t ∷ scope)) k in
    let own_rest : Own T (p0 ∷ (right ++ p1 ∷ [])) = own_right s.typing T slack ps (p0 ∷ (right ++ p1 ∷ [])) own in
    let own_more : Own T (right ++ p1 ∷ []) = (λ r has. own_rest r (inr has)) in
    let own_inner : Own T right = own_left s.typing T slack right (p1 ∷ []) own_more in
    let to_last : Into T (row_at at 1 ∷ []) (with_held s b (1 ∷ at) (t ∷ scope)) =
    into_one s.typing T slack (row_at at 1) (with_held s b (1 ∷ at) (t ∷ scope)) (own_more p1 (Has-append_right right (p1 ∷ []) p1 (inl refl))) in
    goes_both s.typing T slack ps (p0 ∷ (right ++ p1 ∷ []))
    (first (own_left s.typing T slack ps (p0 ∷ (right ++ p1 ∷ [])) own)
    (into_one s.typing T slack (row_at at 0) (with_held s a (0 ∷ at) scope) (own_rest p0 (inl refl))))
    (goes_more s.typing T slack p0 (right ++ p1 ∷ [])
    (into_is s.typing T slack (entry right (row_at at 1 ∷ []) ++ k) (scope_behind p0) (t ∷ scope) (ap (λ xs. t ∷ xs) (drop_held s a (0 ∷ at) scope))
    (into_both s.typing T slack (entry right (row_at at 1 ∷ [])) k (t ∷ scope)
    (into_entry s.typing T slack right (row_at at 1 ∷ []) (t ∷ scope) (with_held s b (1 ∷ at) (t ∷ scope)) own_inner starts to_last) go))
    (goes_both s.typing T slack right (p1 ∷ []) (second own_inner to_last)
    (goes_one s.typing T slack p1 (into_is s.typing T slack k (scope_behind p1) (t ∷ scope) (drop_held s b (1 ∷ at) (t ∷ scope)) go))))

either_goes : (T : PointName → List ℕ → Type 0) (b : Bool) (k : List PointName) (ps qs : List NamedPoint) (xs ys scope : List ℕ)
    → (Own T ps → Into T k (xs ++ scope) → Goes T ps) → (Own T qs → Into T k (ys ++ scope) → Goes T qs)
    → Own T (if b then ps else qs) → Into T k ((if b then xs else ys) ++ scope) → Goes T (if b then ps else qs)
either_goes T true k ps qs xs ys scope h g own go = h own go
either_goes T false k ps qs xs ys scope h g own go = g own go

pub prep_goes : (s : Setting) (T : PointName → List ℕ → Type 0) (slack : Slack s.typing T) (e : TypedTree) (at : Place) (scope : List ℕ) (k : List PointName)
    → Own T (prep s e at scope k) → Into T k (with_held s e at scope) → Goes T (prep s e at scope k)
unfolding prep held
prep_goes s T slack (Call p sub actuals) at scope k own go =
    use_goes s T slack actuals (0 ∷ at) (row_at at 0) scope p (instruction.Call sub actuals (Some (s.temporary at))) k
    (prep s actuals (0 ∷ at) scope (row_at at 0 ∷ [])) (prep_goes s T slack actuals (0 ∷ at) scope (row_at at 0 ∷ [])) refl own go
prep_goes s T slack (Short op p a q b) at scope k own go =
    either_goes T (has_call b) k _ _ (s.temporary at ∷ []) (held s b (1 ∷ at) ++ held s a (0 ∷ at)) scope
    (short_goes s T slack a b op p q at scope k (prep s a (0 ∷ at) scope (row_at at 0 ∷ [])) (prep s b (1 ∷ at) (s.temporary at ∷ scope) (row_at at 1 ∷ []))
    (prep_goes s T slack a (0 ∷ at) scope (row_at at 0 ∷ [])) (prep_goes s T slack b (1 ∷ at) (s.temporary at ∷ scope) (row_at at 1 ∷ []))
    (prep_starts s b (1 ∷ at) (s.temporary at ∷ scope) (row_at at 1 ∷ [])))
    (two_go s T slack a b at scope k (prep_goes s T slack a (0 ∷ at) scope) (prep_goes s T slack b (1 ∷ at) (with_held s a (0 ∷ at) scope) k))
    own go
prep_goes s T slack (Binary op a b) at scope k own go =
    two_go s T slack a b at scope k (prep_goes s T slack a (0 ∷ at) scope) (prep_goes s T slack b (1 ∷ at) (with_held s a (0 ∷ at) scope) k) own go
prep_goes s T slack (More a b) at scope k own go =
    two_go s T slack a b at scope k (prep_goes s T slack a (0 ∷ at) scope) (prep_goes s T slack b (1 ∷ at) (with_held s a (0 ∷ at) scope) k) own go
prep_goes s T slack (Element a low high b) at scope k own go =
    two_go s T slack a b at scope k (prep_goes s T slack a (0 ∷ at) scope) (prep_goes s T slack b (1 ∷ at) (with_held s a (0 ∷ at) scope) k) own go
prep_goes s T slack (Name p x e t) at scope k own go = prep_goes s T slack e (0 ∷ at) scope k own go
prep_goes s T slack (Component i e) at scope k own go = prep_goes s T slack e (0 ∷ at) scope k own go
prep_goes s T slack (Designated e) at scope k own go = prep_goes s T slack e (0 ∷ at) scope k own go
prep_goes s T slack (Image t e) at scope k own go = prep_goes s T slack e (0 ∷ at) scope k own go
prep_goes s T slack (Parens e) at scope k own go = prep_goes s T slack e (0 ∷ at) scope k own go
prep_goes s T slack (Unary op e) at scope k own go = prep_goes s T slack e (0 ∷ at) scope k own go
prep_goes s T slack (IsNull equal e) at scope k own go = prep_goes s T slack e (0 ∷ at) scope k own go
prep_goes s T slack (Aggregate t e) at scope k own go = prep_goes s T slack e (0 ∷ at) scope k own go
prep_goes s T slack (Alike t e) at scope k own go = prep_goes s T slack e (0 ∷ at) scope k own go
prep_goes s T slack (New t e) at scope k own go = prep_goes s T slack e (0 ∷ at) scope k own go
prep_goes s T slack _ at scope k own go = goes_none s.typing T slack
