-- The code of a body is layered: objects have numbers in the order of the text, and scopes stand within one another.
use Rattle.std.proofs.Common.{◌≡◌, refl, sym, ap, ◌∙◌, subst, inl, inr, ℕ, suc, ◌+◌, ◌≤◌, ◌<◌, Bool, true, false, not, ◌&&◌, ◌==◌, List, [], ◌∷◌, ◌++◌, map, length, get_or, arith, nat_lt, lt-ltb, eqb-true, eq-eqb, true≢false}
use Rattle.std.specs.Prelude.{reverse}
use Rattle.std.specs.List.{list_all}
use Rattle.std.proofs.lemmas.List.{length-append}
use Rattle.machine.specs.spark_base.Lists.{Has}
use Rattle.machine.specs.spark_base.declared.position.Pos.{Pos}
use Rattle.machine.specs.place_names.declared.act.Mode.TheVariants as mode
use Rattle.machine.specs.resolved_tree.Trees.{Tree, Code, Incomplete, Private, TypeDecl, Subtype, ConstrainedSubtype, Objects, Numbers, Instance, SubDecl, Package, Skip, Assign, Call, Exit, Return, If, Branch, Case, When, Loop, While, For, Block, NoMore, More, code_items}
use Rattle.machine.specs.resolved_tree.Trees as resolved
use Rattle.machine.specs.type_definitions.declared.table.Entry.{Entry}
use Rattle.machine.specs.type_definitions.declared.table.Entry.TheVariants as entry
use Rattle.machine.specs.type_definitions.declared.table.Predefined.{Predefined}
use Rattle.machine.specs.type_definitions.declared.table.Predefined.TheVariants as predefined
use Rattle.machine.specs.type_definitions.Entries.{entry_of, integer, boolean}
use Rattle.machine.specs.type_definitions.Expressions.{call_arguments}
use Rattle.machine.specs.type_definitions.Gathered.{declared_number}
use Rattle.machine.specs.typed_tree.declared.object.Object.{Object}
use Rattle.machine.specs.typed_tree.Trees.{TypedTree, TypedCode, typed_code_list}
use Rattle.machine.specs.typed_tree.Trees as typed
use Rattle.machine.specs.typed_tree.Expressions.{Site, object_number, typed_expression}
use Rattle.machine.specs.typed_tree.Statements.{scope_count, statements, typed_object, typed_call, call_of, predefined_call, typed_range, typed_choices, typed_body}
use Rattle.machine.specs.typed_tree.Programs.{DeclaredObject, Home, object_of, objects_in, scopes_in}
use Rattle.machine.specs.flow_paths.Objects.{Typing, object_at, is_observer}
use Rattle.machine.specs.flow_paths.Layout.{declared}
use Rattle.machine.specs.flow_paths.Views.{encloses, scope_of}
use Rattle.settled_types.proofs.OrderLaws.ScopeLaws.Lists.{and_first, and_second, both_true}
use Rattle.settled_types.specs.OrderLaws.ScopeLaws.LayeredScopes.Layered.{is_older, are_of_scope, are_apart, is_layered, is_each_layered}
use Rattle.settled_types.specs.OrderLaws.Written.{is_declaration, are_declarations, are_statements}
use Rattle.accepted_runs.proofs.ViewedFiles.ViewLaws.Enclosing.{itself, transitive, outward, enclosing_less}
use Rattle.accepted_runs.proofs.ViewedFiles.ViewLaws.Inner.{code_inner}
use Rattle.accepted_runs.specs.ViewedFiles.Places.{AreAt, AreAround}
use Rattle.accepted_runs.proofs.ViewedFiles.Joined.{nothing_asked}
use Rattle.settled_types.proofs.OrderLaws.Grammar.{on_declarations, StatementLaws, on_statements}

at_same : (s : Site) (own : Typing) (k j : ℕ) (os : List DeclaredObject) → k ≡ j → AreAt s own k os → AreAt s own j os
at_same s own k j os e h = subst (λ n. AreAt s own n os) e h

pub at_left : (s : Site) (own : Typing) (k : ℕ) (os us : List DeclaredObject) → AreAt s own k (os ++ us) → AreAt s own k os
at_left s own k [] us h = tt
at_left s own k (o ∷ os) us h = (h.0, h.1, at_left s own (suc k) os us h.2)

pub at_right : (s : Site) (own : Typing) (k : ℕ) (os us : List DeclaredObject) → AreAt s own k (os ++ us) → AreAt s own (k + length os) us
at_right s own k [] us h = at_same s own k (k + 0) us (omega arith) h
at_right s own k (o ∷ os) us h = at_same s own (suc k + length os) (k + length (o ∷ os)) us (omega arith) (at_right s own (suc k) os us h.2)

around_same : (scopes : List ℕ) (m n : ℕ) (bs : List ℕ) → m ≡ n → AreAround scopes m bs → AreAround scopes n bs
around_same scopes m n bs e h = subst (λ k. AreAround scopes k bs) e h

pub around_left : (scopes : List ℕ) (m : ℕ) (bs cs : List ℕ) → AreAround scopes m (bs ++ cs) → AreAround scopes m bs
around_left scopes m [] cs h = tt
around_left scopes m (b ∷ bs) cs h = (h.0, around_left scopes (suc m) bs cs h.1)

pub around_right : (scopes : List ℕ) (m : ℕ) (bs cs : List ℕ) → AreAround scopes m (bs ++ cs) → AreAround scopes (m + length bs) cs
around_right scopes m [] cs h = around_same scopes m (m + 0) cs (omega arith) h
around_right scopes m (b ∷ bs) cs h = around_same scopes (suc m + length bs) (m + length (b ∷ bs)) cs (omega arith) (around_right scopes (suc m) bs cs h.1)

-- the scopes of two codes, one after the other
pub around_both : (scopes : List ℕ) (m a b : ℕ) (c : Code) (cs : List ℕ) → a ≤ b → AreAround scopes b (scopes_in a b c ++ cs)
    → AreAround scopes b (scopes_in a b c) × AreAround scopes (b + scope_count c) cs
around_both scopes m a b c cs less h =
    (around_left scopes b (scopes_in a b c) cs h, around_same scopes (b + length (scopes_in a b c)) (b + scope_count c) cs (ap (λ n. b + n) (code_inner a b c less).1) (around_right scopes b (scopes_in a b c) cs h))

call_declares : (s : Site) (name : Tree) → declared (typed_call s name) ≡ []
unfolding declared
call_declares s (resolved.Named p d rest) = by (entry_of s.context.known d)
  where
    by_predefined : (which : Predefined) → declared (predefined_call s p which (call_arguments rest)) ≡ []
    by_predefined predefined.Put = refl
    by_predefined predefined.PutLine = refl
    by_predefined predefined.NewLine = refl
    by_predefined predefined.Get = refl
    by_predefined predefined.EndOfFile = refl
    by_predefined predefined.Deallocation = refl

    by : (e : Entry) → declared (call_of s p d e rest) ≡ []
    by (entry.Subprogram profile) = refl
    by (entry.Instance t) = refl
    by (entry.Predefined which) = by_predefined which
    by (entry.Object o) = refl
    by (entry.Literal t n) = refl
    by entry.Type = refl
    by entry.Nothing = refl
    by entry.Package = refl
call_declares s _ = refl

never : {A : Type 0} → false ≡ true → A
never is = absurd (true≢false (sym is))

-- A statement without others in it.
abbrev is_plain : Code → Bool
is_plain (Skip p) = true
is_plain (Assign target v) = true
is_plain (Call name) = true
is_plain (Exit p when) = true
is_plain (Return p v) = true
is_plain NoMore = true
is_plain c = false

module _ (own : Typing) (scopes : List ℕ) (inner : (b : ℕ) → get_or scopes b b ≤ b) where
  abbrev older : ℕ → ℕ → Bool
  older = is_older own scopes

  abbrev Loose : List ℕ → TypedCode → Type 0
  Loose sc c = is_layered own older nothing_asked sc c ≡ true

  abbrev Layered : List ℕ → List TypedCode → Type 0
  Layered sc cs = Loose sc (typed_code_list cs)

  abbrev EachLayered : List ℕ → List TypedCode → Type 0
  EachLayered sc cs = is_each_layered own older nothing_asked sc (typed_code_list cs) ≡ true

  -- Objects in scope have lesser numbers than the next one, and scopes that enclose the one here.
  abbrev pub Below : ℕ → ℕ → List ℕ → Type 0
  Below k a sc = (y : ℕ) → Has sc y → (y < k) × (encloses scopes (scope_of own y) a ≡ true)

  below_more : (k j a : ℕ) (sc : List ℕ) → k ≤ j → Below k a sc → Below j a sc
  below_more k j a sc more h y has = (let less = (h y has).0 in omega (arith, less, more), (h y has).1)

  below_in : (k a m : ℕ) (sc : List ℕ) → get_or scopes m m ≡ a → Below k a sc → Below k m sc
  below_in k a m sc is h y has =
      ((h y has).0, transitive scopes inner (scope_of own y) a m (h y has).1 (subst (λ b. encloses scopes b m ≡ true) is (outward scopes inner m)))

  -- one more object, which has the next number
  below_one : (k a x : ℕ) (sc : List ℕ) → x ≡ k → scope_of own x ≡ a → Below k a sc → Below (suc k) a (x ∷ sc)
  below_one k a x sc is of h y (inl same) =
      (omega (arith, is, same), subst (λ b. encloses scopes b a ≡ true) (sym of ∙ ap (scope_of own) same) (itself scopes a))
  below_one k a x sc is of h y (inr has) = (let less = (h y has).0 in omega (arith, less), (h y has).1)

  all_older : (k a x : ℕ) (sc : List ℕ) → x ≡ k → scope_of own x ≡ a → Below k a sc → list_all (older x) sc ≡ true
  all_older k a x [] is of h = refl
  all_older k a x (y ∷ sc) is of h =
      both_true (older x y) (list_all (older x) sc)
      (both_true (nat_lt y x) (encloses scopes (scope_of own y) (scope_of own x)) (lt-ltb y x (let less = (h y (inl refl)).0 in omega (arith, less, is)))
      (subst (λ b. encloses scopes (scope_of own y) b ≡ true) (sym of) (h y (inl refl)).1))
      (all_older k a x sc is of (λ z has. h z (inr has)))

  -- no observer in scope has the scope of an inner block
  apart : (k a m : ℕ) (sc : List ℕ) → a < m → Below k a sc → are_apart own m sc ≡ true
  apart k a m [] less h = refl
  apart k a m (y ∷ sc) less h =
      both_true (not (is_observer own y && (scope_of own y == m))) (are_apart own m sc) (other (is_observer own y) (scope_of own y == m) refl)
      (apart k a m sc less (λ z has. h z (inr has)))
    where
      other : (o b : Bool) → (scope_of own y == m) ≡ b → not (o && b) ≡ true
      other true true is =
          (let out = enclosing_less scopes inner (scope_of own y) a (h y (inl refl)).1 in let same = eqb-true (scope_of own y) m is in absurd (omega (arith, out, same, less)))
      other true false is = refl
      other false b is = refl

  -- What is in scope after code.
  after : List TypedCode → List ℕ → List ℕ
  after [] sc = sc
  after (c ∷ cs) sc = after cs (reverse (declared c) ++ sc)

  after_both : (cs ds : List TypedCode) (sc : List ℕ) → after (cs ++ ds) sc ≡ after ds (after cs sc)
  unfolding after
  after_both [] ds sc = refl
  after_both (c ∷ cs) ds sc = after_both cs ds (reverse (declared c) ++ sc)

  layered_both : (cs ds : List TypedCode) (sc : List ℕ) → Layered sc cs → Layered (after cs sc) ds → Layered sc (cs ++ ds)
  unfolding is_layered after
  layered_both [] ds sc h g = g
  layered_both (c ∷ cs) ds sc h g =
      let more : List ℕ = reverse (declared c) ++ sc in
      both_true (is_layered own older nothing_asked sc c) (is_layered own older nothing_asked more (typed_code_list (cs ++ ds)))
      (and_first (is_layered own older nothing_asked sc c) (is_layered own older nothing_asked more (typed_code_list cs)) h)
      (layered_both cs ds more (and_second (is_layered own older nothing_asked sc c) (is_layered own older nothing_asked more (typed_code_list cs)) h) g)

  each_both : (cs ds : List TypedCode) (sc : List ℕ) → EachLayered sc cs → EachLayered sc ds → EachLayered sc (cs ++ ds)
  unfolding is_each_layered
  each_both [] ds sc h g = g
  each_both (c ∷ cs) ds sc h g =
      both_true (is_layered own older nothing_asked sc c) (is_each_layered own older nothing_asked sc (typed_code_list (cs ++ ds)))
      (and_first (is_layered own older nothing_asked sc c) (is_each_layered own older nothing_asked sc (typed_code_list cs)) h)
      (each_both cs ds sc (and_second (is_layered own older nothing_asked sc c) (is_each_layered own older nothing_asked sc (typed_code_list cs)) h) g)

  each_one : (c : TypedCode) (sc : List ℕ) → Loose sc c → EachLayered sc (c ∷ [])
  unfolding is_each_layered
  each_one c sc h = both_true (is_layered own older nothing_asked sc c) true h refl

  -- All that code declares itself has this scope.
  abbrev OfScope : ℕ → List TypedCode → Type 0
  OfScope a cs = are_of_scope own a (declared (typed_code_list cs)) ≡ true

  all_scopes : (a : ℕ) (xs ys : List ℕ) → are_of_scope own a xs ≡ true → are_of_scope own a ys ≡ true → are_of_scope own a (xs ++ ys) ≡ true
  all_scopes a [] ys h g = g
  all_scopes a (x ∷ xs) ys h g =
      both_true (scope_of own x == a) (are_of_scope own a (xs ++ ys)) (and_first (scope_of own x == a) (are_of_scope own a xs) h)
      (all_scopes a xs ys (and_second (scope_of own x == a) (are_of_scope own a xs) h) g)

  scopes_both : (a : ℕ) (cs ds : List TypedCode) → OfScope a cs → OfScope a ds → OfScope a (cs ++ ds)
  unfolding declared
  scopes_both a [] ds h g = g
  scopes_both a (c ∷ cs) ds h g =
      all_scopes a (declared c) (declared (typed_code_list (cs ++ ds))) (left (declared c) (declared (typed_code_list cs)) h)
      (scopes_both a cs ds (right (declared c) (declared (typed_code_list cs)) h) g)
    where
      left : (xs ys : List ℕ) → are_of_scope own a (xs ++ ys) ≡ true → are_of_scope own a xs ≡ true
      left [] ys e = refl
      left (x ∷ xs) ys e =
          both_true (scope_of own x == a) (are_of_scope own a xs) (and_first (scope_of own x == a) (are_of_scope own a (xs ++ ys)) e)
          (left xs ys (and_second (scope_of own x == a) (are_of_scope own a (xs ++ ys)) e))

      right : (xs ys : List ℕ) → are_of_scope own a (xs ++ ys) ≡ true → are_of_scope own a ys ≡ true
      right [] ys e = e
      right (x ∷ xs) ys e = right xs ys (and_second (scope_of own x == a) (are_of_scope own a (xs ++ ys)) e)

  -- Code is layered, what is in scope after it is below the next number, and what it declares has the scope here.
  abbrev Goes : ℕ → ℕ → List ℕ → List DeclaredObject → List TypedCode → Type 0
  Goes k a sc os cs = Layered sc cs × Below (k + length os) a (after cs sc) × OfScope a cs

  goes_both : (k a : ℕ) (sc : List ℕ) (os us : List DeclaredObject) (cs ds : List TypedCode) → Goes k a sc os cs
      → Goes (k + length os) a (after cs sc) us ds → Goes k a sc (os ++ us) (cs ++ ds)
  goes_both k a sc os us cs ds h g = (
    layered_both cs ds sc h.0 g.0,
    subst (λ z. Below (k + length (os ++ us)) a z) (sym (after_both cs ds sc))
        (below_more (k + length os + length us) (k + length (os ++ us)) a (after ds (after cs sc)) (let long = length-append os us in omega (arith, long)) g.1),
    scopes_both a cs ds h.2 g.2,
  )

  nothing : (k a : ℕ) (sc : List ℕ) (os : List DeclaredObject) → Below k a sc → Goes k a sc os []
  unfolding is_layered after declared
  nothing k a sc os below = (refl, below_more k (k + length os) a sc (omega arith) below, refl)

  -- a statement, which declares nothing itself
  still : (k a : ℕ) (sc : List ℕ) (os : List DeclaredObject) (c : TypedCode) → Below k a sc → declared c ≡ [] → Loose sc c → Goes k a sc os (c ∷ [])
  unfolding is_layered after declared
  still k a sc os c below none loose = (
    both_true (is_layered own older nothing_asked sc c) true loose refl,
    subst (λ xs. Below (k + length os) a (reverse xs ++ sc)) (sym none) (below_more k (k + length os) a sc (omega arith) below),
    subst (λ xs. are_of_scope own a (xs ++ []) ≡ true) (sym none) refl,
  )

  module _ (s : Site) where
    abbrev At : ℕ → List DeclaredObject → Type 0
    At k os = AreAt s own k os

    scope_here : (k x a : ℕ) (o : Object) → x ≡ k → object_at own k ≡ o → o.scope ≡ a → scope_of own x ≡ a
    scope_here k x a o is there of = ap (λ n. (object_at own n).scope) is ∙ ap (λ (z : Object). z.scope) there ∙ of

    objects_go : (h : Home) (a k : ℕ) (sc : List ℕ) (v : TypedTree) (ids : List Code) → At k (map (object_of h a mode.In) ids) → Below k a sc
        → Goes k a sc (map (object_of h a mode.In) ids) (map (typed_object s v) ids)
    unfolding is_layered after declared
    objects_go h a k sc v [] at below = nothing k a sc [] below
    objects_go h a k sc v (d ∷ ids) at below =
        let x : ℕ = object_number s (declared_number d) in
        let of : scope_of own x ≡ a = scope_here k x a (object_of h a mode.In d).object at.0 at.1 refl in
        let rest = objects_go h a (suc k) (x ∷ sc) v ids at.2 (below_one k a x sc at.0 of below) in (
          both_true (list_all (older x) sc && true) (is_layered own older nothing_asked (x ∷ sc) (typed_code_list (map (typed_object s v) ids)))
              (both_true (list_all (older x) sc) true (all_older k a x sc at.0 of below) refl) rest.0,
          below_more (suc k + length (map (object_of h a mode.In) ids)) (k + length (map (object_of h a mode.In) (d ∷ ids))) a (after (map (typed_object s v) ids) (x ∷ sc)) (omega arith) rest.1,
          both_true (scope_of own x == a) (are_of_scope own a (declared (typed_code_list (map (typed_object s v) ids)))) (eq-eqb (scope_of own x) a of) rest.2,
        )

    call_loose : (sc : List ℕ) (name : Tree) → Loose sc (typed_call s name)
    unfolding is_layered
    call_loose sc (resolved.Named p d rest) = by (entry_of s.context.known d)
      where
        by_predefined : (which : Predefined) → Loose sc (predefined_call s p which (call_arguments rest))
        by_predefined predefined.Put = refl
        by_predefined predefined.PutLine = refl
        by_predefined predefined.NewLine = refl
        by_predefined predefined.Get = refl
        by_predefined predefined.EndOfFile = refl
        by_predefined predefined.Deallocation = refl

        by : (e : Entry) → Loose sc (call_of s p d e rest)
        by (entry.Subprogram profile) = refl
        by (entry.Instance t) = refl
        by (entry.Predefined which) = by_predefined which
        by (entry.Object o) = refl
        by (entry.Literal t n) = refl
        by entry.Type = refl
        by entry.Nothing = refl
        by entry.Package = refl
    call_loose sc _ = refl

    module _ (units : List Code) (h : Home) where
      abbrev Objects_of : ℕ → ℕ → Code → List DeclaredObject
      Objects_of a m c = objects_in units h a m c

      -- From this number on, and from the scope m on, within the scope a.
      IsLaid : ℕ → ℕ → ℕ → Code → Type 0
      IsLaid k a m c = (a < m) × At k (objects_in units h a m c) × AreAround scopes m (scopes_in a m c)

      Went : ℕ → ℕ → ℕ → List ℕ → Code → Type 0
      Went k a m sc c = Goes k a sc (objects_in units h a m c) (statements s m c)

      EachWent : ℕ → List ℕ → Code → Type 0
      EachWent m sc c = EachLayered sc (statements s m c)

      -- two codes of one scope, one after the other
      laid_two : (k a m n : ℕ) (c d : Code) → (a < m) → (a < n) → n ≡ m + scope_count c → At k (objects_in units h a m c ++ objects_in units h a n d)
          → AreAround scopes m (scopes_in a m c ++ scopes_in a n d) → IsLaid k a m c × IsLaid (k + length (objects_in units h a m c)) a n d
      unfolding IsLaid
      laid_two k a m n c d less more is at around =
          let both = around_both scopes m a m c (scopes_in a n d) (omega (arith, less)) around in (
            (less, at_left s own k (objects_in units h a m c) (objects_in units h a n d) at, both.0),
            (more, at_right s own k (objects_in units h a m c) (objects_in units h a n d) at, subst (λ b. AreAround scopes b (scopes_in a n d)) (sym is) both.1),
          )

      one_declaration : (k a m : ℕ) (sc : List ℕ) (c : Code) → is_declaration c ≡ true → IsLaid k a m c → Below k a sc → Went k a m sc c
      unfolding IsLaid Went EachWent statements objects_in
      one_declaration k a m sc (Objects ids constant i v) e laid below = objects_go h a k sc _ (code_items ids) laid.1 below
      one_declaration k a m sc (Numbers ids v) e laid below = objects_go h a k sc _ (code_items ids) laid.1 below
      one_declaration k a m sc (Incomplete d) e laid below = nothing k a sc [] below
      one_declaration k a m sc (Private d) e laid below = nothing k a sc [] below
      one_declaration k a m sc (TypeDecl d def end) e laid below = nothing k a sc [] below
      one_declaration k a m sc (Subtype d mark) e laid below = nothing k a sc [] below
      one_declaration k a m sc (ConstrainedSubtype d mark low high) e laid below = nothing k a sc [] below
      one_declaration k a m sc (Instance d mark args) e laid below = nothing k a sc [] below
      one_declaration k a m sc (SubDecl front) e laid below = nothing k a sc [] below
      one_declaration k a m sc NoMore e laid below = nothing k a sc [] below
      one_declaration k a m sc _ e laid below = never e

      later : (a m : ℕ) (c : Code) → a < m → a < m + scope_count c
      later a m c less = omega (arith, less)

      -- Further code of the scope, after what has these numbers and scopes.
      abbrev Further : ℕ → ℕ → Code → Type 0
      Further a n c = (j : ℕ) (sc : List ℕ) → IsLaid j a n c → Below j a sc → Went j a n sc c

      -- Branches and alternatives.
      abbrev Apart : ℕ → ℕ → Code → Type 0
      Apart a n c = (j : ℕ) (sc : List ℕ) → IsLaid j a n c → Below j a sc → EachWent n sc c

      list_goes : (k a m : ℕ) (sc : List ℕ) (c rest : Code) → Further a m c → Further a (m + scope_count c) rest → IsLaid k a m (More c rest) → Below k a sc → Went k a m sc (More c rest)
      unfolding IsLaid Went EachWent statements objects_in scopes_in
      list_goes k a m sc c rest one others laid below =
          let n : ℕ = m + scope_count c in
          let two = laid_two k a m n c rest laid.0 (later a m c laid.0) refl laid.1 laid.2 in
          let first = one k sc two.0 below in
          goes_both k a sc (objects_in units h a m c) (objects_in units h a n rest) (statements s m c) (statements s n rest) first
          (others (k + length (objects_in units h a m c)) (after (statements s m c) sc) two.1 first.1)

      each_goes : (k a m : ℕ) (sc : List ℕ) (c rest : Code) → Apart a m c → Apart a (m + scope_count c) rest → IsLaid k a m (More c rest) → Below k a sc → EachWent m sc (More c rest)
      unfolding IsLaid Went EachWent statements objects_in scopes_in
      each_goes k a m sc c rest one others laid below =
          let n : ℕ = m + scope_count c in
          let two = laid_two k a m n c rest laid.0 (later a m c laid.0) refl laid.1 laid.2 in
          each_both (statements s m c) (statements s n rest) sc (one k sc two.0 below)
          (others (k + length (objects_in units h a m c)) sc two.1 (below_more k (k + length (objects_in units h a m c)) a sc (omega arith) below))

      -- a block or a body with the scope m
      region : (k m n l : ℕ) (sc : List ℕ) (items stmts : Code) → Goes k m sc (objects_in units h m n items) (statements s n items)
          → Goes (k + length (objects_in units h m n items)) m (after (statements s n items) sc) (objects_in units h m l stmts) (statements s l stmts)
          → (are_of_scope own m (declared (typed_code_list (statements s n items ++ statements s l stmts))) ≡ true)
          × Layered sc (statements s n items ++ statements s l stmts)
      region k m n l sc items stmts first second =
          let whole = goes_both k m sc (objects_in units h m n items) (objects_in units h m l stmts) (statements s n items) (statements s l stmts) first second in
          (whole.2, whole.0)

      -- ---- statements with others in them

      if_goes : (k a m : ℕ) (sc : List ℕ) (p : Pos) (branches otherwise : Code) → Apart a m branches → Further a (m + scope_count branches) otherwise
          → IsLaid k a m (If p branches otherwise) → Below k a sc → Went k a m sc (If p branches otherwise)
      unfolding IsLaid Went EachWent statements objects_in scopes_in is_layered declared
      if_goes k a m sc p branches otherwise one other laid below =
          let n : ℕ = m + scope_count branches in
          let two = laid_two k a m n branches otherwise laid.0 (later a m branches laid.0) refl laid.1 laid.2 in
          let more = below_more k (k + length (objects_in units h a m branches)) a sc (omega arith) below in
          still k a sc (objects_in units h a m branches ++ objects_in units h a n otherwise)
          (typed.If (typed_code_list (statements s m branches)) (typed_code_list (statements s n otherwise))) below refl
          (both_true (is_each_layered own older nothing_asked sc (typed_code_list (statements s m branches)))
          (is_layered own older nothing_asked sc (typed_code_list (statements s n otherwise))) (one k sc two.0 below) (other (k + length (objects_in units h a m branches)) sc two.1 more).0)

      for_goes : (k a m : ℕ) (sc : List ℕ) (p : Pos) (d : Code) (reversed : Bool) (range stmts : Code) → Further m (m + 1) stmts
          → IsLaid k a m (For p d reversed range stmts) → Below k a sc → Went k a m sc (For p d reversed range stmts)
      unfolding IsLaid Went EachWent statements objects_in scopes_in is_layered declared
      for_goes k a m sc p d reversed range stmts one laid below =
          let x : ℕ = object_number s (declared_number d) in
          let of : scope_of own x ≡ m = scope_here k x m (object_of h m mode.In d).object laid.1.0 laid.1.1 refl in
          let outer : Below k m sc = below_in k a m sc laid.2.0 below in
          let body = one (suc k) (x ∷ sc) (omega arith, laid.1.2, around_same scopes (suc m) (m + 1) (scopes_in m (m + 1) stmts) (omega arith) laid.2.1) (below_one k m x sc laid.1.0 of outer) in
          still k a sc (object_of h m mode.In d ∷ objects_in units h m (m + 1) stmts)
          (typed.For p x reversed (typed_range s range).0 (typed_range s range).1 (typed_code_list (statements s (m + 1) stmts))) below refl
          (both_true (list_all (older x) sc) (is_layered own older nothing_asked (x ∷ sc) (typed_code_list (statements s (m + 1) stmts))) (all_older k m x sc laid.1.0 of outer) body.0)

      block_goes : (k a m : ℕ) (sc : List ℕ) (p : Pos) (items stmts : Code) (end : Pos) → Further m (m + 1) items → Further m (m + 1 + scope_count items) stmts
          → IsLaid k a m (Block p items stmts end) → Below k a sc → Went k a m sc (Block p items stmts end)
      unfolding IsLaid Went EachWent statements objects_in scopes_in is_layered declared
      block_goes k a m sc p items stmts end one other laid below =
          let n : ℕ = m + 1 + scope_count items in
          let cs : List TypedCode = statements s (m + 1) items ++ statements s n stmts in
          let outer : Below k m sc = below_in k a m sc laid.2.0 below in
          let around : List ℕ = scopes_in m (m + 1) items ++ scopes_in m n stmts in
          let two = laid_two k m (m + 1) n items stmts (omega arith) (omega arith) refl laid.1 (around_same scopes (suc m) (m + 1) around (omega arith) laid.2.1) in
          let first = one k sc two.0 outer in
          let second = other (k + length (objects_in units h m (m + 1) items)) (after (statements s (m + 1) items) sc) two.1 first.1 in
          let whole = region k m (m + 1) n sc items stmts first second in
          still k a sc (objects_in units h m (m + 1) items ++ objects_in units h m n stmts) (typed.Block m (typed_code_list cs) end) below refl
          (both_true (are_of_scope own m (declared (typed_code_list cs))) (are_apart own m sc && is_layered own older nothing_asked sc (typed_code_list cs)) whole.0
          (both_true (are_apart own m sc) (is_layered own older nothing_asked sc (typed_code_list cs)) (apart k a m sc laid.0 below) whole.1))

      loop_goes : (k a m : ℕ) (sc : List ℕ) (p : Pos) (stmts : Code) → Further a m stmts → IsLaid k a m (Loop p stmts) → Below k a sc → Went k a m sc (Loop p stmts)
      unfolding IsLaid Went EachWent statements objects_in scopes_in is_layered declared
      loop_goes k a m sc p stmts one laid below =
          still k a sc (objects_in units h a m stmts) (typed.Loop (typed_code_list (statements s m stmts))) below refl (one k sc laid below).0

      while_goes : (k a m : ℕ) (sc : List ℕ) (p : Pos) (v : Tree) (stmts : Code) → Further a m stmts → IsLaid k a m (While p v stmts) → Below k a sc → Went k a m sc (While p v stmts)
      unfolding IsLaid Went EachWent statements objects_in scopes_in is_layered declared
      while_goes k a m sc p v stmts one laid below =
          still k a sc (objects_in units h a m stmts) (typed.While p (typed_expression s boolean v) (typed_code_list (statements s m stmts))) below refl (one k sc laid below).0

      case_goes : (k a m : ℕ) (sc : List ℕ) (p : Pos) (v : Tree) (whens : Code) → Apart a m whens → IsLaid k a m (Case p v whens) → Below k a sc → Went k a m sc (Case p v whens)
      unfolding IsLaid Went EachWent statements objects_in scopes_in is_layered declared
      case_goes k a m sc p v whens one laid below =
          still k a sc (objects_in units h a m whens) (typed.Case p (typed_expression s integer v) (typed_code_list (statements s m whens))) below refl (one k sc laid below)

      branch_goes : (k a m : ℕ) (sc : List ℕ) (p : Pos) (v : Tree) (stmts : Code) → Further a m stmts → IsLaid k a m (Branch p v stmts) → Below k a sc → EachWent m sc (Branch p v stmts)
      unfolding IsLaid Went EachWent statements objects_in scopes_in is_layered
      branch_goes k a m sc p v stmts one laid below = each_one (typed.Branch p (typed_expression s boolean v) (typed_code_list (statements s m stmts))) sc (one k sc laid below).0

      when_goes : (k a m : ℕ) (sc : List ℕ) (choices stmts : Code) → Further a m stmts → IsLaid k a m (When choices stmts) → Below k a sc → EachWent m sc (When choices stmts)
      unfolding IsLaid Went EachWent statements objects_in scopes_in is_layered
      when_goes k a m sc choices stmts one laid below = each_one (typed.When (typed_choices s.context choices) (typed_code_list (statements s m stmts))) sc (one k sc laid below).0

      plain_goes : (k a m : ℕ) (sc : List ℕ) (c : Code) → is_plain c ≡ true → Below k a sc → Went k a m sc c
      unfolding IsLaid Went EachWent statements objects_in is_layered declared
      plain_goes k a m sc (Skip p) e below = still k a sc [] _ below refl refl
      plain_goes k a m sc (Assign target v) e below = still k a sc [] _ below refl refl
      plain_goes k a m sc (Call name) e below = still k a sc [] (typed_call s name) below (call_declares s name) (call_loose sc name)
      plain_goes k a m sc (Exit p when) e below = still k a sc [] _ below refl refl
      plain_goes k a m sc (Return p v) e below = still k a sc [] _ below refl refl
      plain_goes k a m sc NoMore e below = nothing k a sc [] below
      plain_goes k a m sc _ e below = never e

      none_apart : (m : ℕ) (sc : List ℕ) → EachWent m sc NoMore
      unfolding IsLaid Went EachWent statements is_each_layered
      none_apart m sc = refl

      -- ---- all of the code

      Carried : Code → Type 0
      Carried c = (a m : ℕ) → Further a m c

      EachCarried : Code → Type 0
      EachCarried c = (a m : ℕ) → Apart a m c

      list_carried : (c rest : Code) → Carried c → Carried rest → Carried (More c rest)
      unfolding Carried
      list_carried c rest one others a m k sc laid below = list_goes k a m sc c rest (one a m) (others a (m + scope_count c)) laid below

      each_carried : (c rest : Code) → EachCarried c → EachCarried rest → EachCarried (More c rest)
      unfolding EachCarried
      each_carried c rest one others a m k sc laid below = each_goes k a m sc c rest (one a m) (others a (m + scope_count c)) laid below

      if_carried : (p : Pos) (branches otherwise : Code) → EachCarried branches → Carried otherwise → Carried (If p branches otherwise)
      unfolding Carried EachCarried
      if_carried p branches otherwise one other a m k sc laid below = if_goes k a m sc p branches otherwise (one a m) (other a (m + scope_count branches)) laid below

      case_carried : (p : Pos) (v : Tree) (whens : Code) → EachCarried whens → Carried (Case p v whens)
      unfolding Carried EachCarried
      case_carried p v whens one a m k sc laid below = case_goes k a m sc p v whens (one a m) laid below

      loop_carried : (p : Pos) (stmts : Code) → Carried stmts → Carried (Loop p stmts)
      unfolding Carried
      loop_carried p stmts one a m k sc laid below = loop_goes k a m sc p stmts (one a m) laid below

      while_carried : (p : Pos) (v : Tree) (stmts : Code) → Carried stmts → Carried (While p v stmts)
      unfolding Carried
      while_carried p v stmts one a m k sc laid below = while_goes k a m sc p v stmts (one a m) laid below

      for_carried : (p : Pos) (d : Code) (reversed : Bool) (range stmts : Code) → Carried stmts → Carried (For p d reversed range stmts)
      unfolding Carried
      for_carried p d reversed range stmts one a m k sc laid below = for_goes k a m sc p d reversed range stmts (one m (m + 1)) laid below

      block_carried : (p : Pos) (items stmts : Code) (end : Pos) → Carried items → Carried stmts → Carried (Block p items stmts end)
      unfolding Carried
      block_carried p items stmts end one other a m k sc laid below =
          block_goes k a m sc p items stmts end (one m (m + 1)) (other m (m + 1 + scope_count items)) laid below

      branch_carried : (p : Pos) (v : Tree) (stmts : Code) → Carried stmts → EachCarried (Branch p v stmts)
      unfolding Carried EachCarried
      branch_carried p v stmts one a m k sc laid below = branch_goes k a m sc p v stmts (one a m) laid below

      when_carried : (choices stmts : Code) → Carried stmts → EachCarried (When choices stmts)
      unfolding Carried EachCarried
      when_carried choices stmts one a m k sc laid below = when_goes k a m sc choices stmts (one a m) laid below

      plain_carried : (c : Code) → is_plain c ≡ true → Carried c
      unfolding Carried
      plain_carried c e a m k sc laid below = plain_goes k a m sc c e below

      none_carried : EachCarried NoMore
      unfolding EachCarried
      none_carried a m k sc laid below = none_apart m sc

      declaration_carried : (c : Code) → is_declaration c ≡ true → Carried c
      unfolding Carried
      declaration_carried c e a m k sc laid below = one_declaration k a m sc c e laid below

      declarations_go : (c : Code) → are_declarations c ≡ true → Carried c
      declarations_go = on_declarations Carried (λ c rest one more. list_carried c rest (declaration_carried c one) more) (plain_carried NoMore refl)

      carried_laws : StatementLaws (λ looped c. Carried c) (λ looped c. EachCarried c) (λ looped c. EachCarried c) (λ looped c. EachCarried c)
      carried_laws = record {
        list = λ looped c rest one more. list_carried c rest one more;
        none = λ looped. plain_carried NoMore refl;
        skip = λ looped p. plain_carried (Skip p) refl;
        assign = λ looped target v. plain_carried (Assign target v) refl;
        call = λ looped name. plain_carried (Call name) refl;
        exit = λ looped p when e. plain_carried (Exit p when) refl;
        return = λ looped p v. plain_carried (Return p v) refl;
        choice = λ looped p branches otherwise one more. if_carried p branches otherwise one more;
        cases = λ looped p v whens one. case_carried p v whens one;
        loop = λ looped p stmts one. loop_carried p stmts one;
        while = λ looped p v stmts one. while_carried p v stmts one;
        for = λ looped p d reversed range stmts one. for_carried p d reversed range stmts one;
        block = λ looped p items stmts end declares one. block_carried p items stmts end (declarations_go items declares) one;
        branches = λ looped c rest one more. each_carried c rest one more;
        no_branches = λ looped. none_carried;
        branch = λ looped p v stmts one. branch_carried p v stmts one;
        alternatives = λ looped c rest one more. each_carried c rest one more;
        no_alternatives = λ looped. none_carried;
        alternative = λ looped choices stmts one. when_carried choices stmts one;
        no_alternative = λ looped. none_carried;
      }

      statements_go : (looped : Bool) (c : Code) → are_statements looped c ≡ true → Carried c
      statements_go = on_statements carried_laws

      -- ---- bodies

      -- The declarations and statements of a body with the scope n, around which this is in scope.
      pub body_goes : (k n : ℕ) (sc : List ℕ) (items stmts : Code) → are_declarations items ≡ true → are_statements false stmts ≡ true
          → At k (objects_in units h n (n + 1) items ++ objects_in units h n (n + 1 + scope_count items) stmts)
          → AreAround scopes (n + 1) (scopes_in n (n + 1) items ++ scopes_in n (n + 1 + scope_count items) stmts) → Below k n sc
          → (are_of_scope own n (declared (typed_body s (n + 1) items stmts)) ≡ true) × Loose sc (typed_body s (n + 1) items stmts)
      unfolding IsLaid Went Carried
      body_goes k n sc items stmts e f at around below =
          let m : ℕ = n + 1 + scope_count items in
          let two = laid_two k n (n + 1) m items stmts (omega arith) (omega arith) refl at around in
          let first = declarations_go items e n (n + 1) k sc two.0 below in
          let second = statements_go false stmts f n m (k + length (objects_in units h n (n + 1) items)) (after (statements s (n + 1) items) sc) two.1 first.1 in
          region k n (n + 1) m sc items stmts first second
