-- Typed code of which the resolved code fits: what it names is in scope where it stands, or as asked.
use Rattle.std.proofs.Common.{◌≡◌, inl, inr, ℕ, ◌+◌, Bool, true, false, ◌&&◌, ◌||◌, ◌==◌, eq-eqb, List, [], ◌∷◌, ◌++◌, map, refl, sym, ap, subst, true≢false}
use Rattle.std.specs.Prelude.{reverse, flat_map}
use Rattle.std.proofs.lemmas.List.{reverse-append}
use Rattle.machine.specs.spark_base.declared.position.Pos.{Pos}
use Rattle.machine.specs.spark_base.Lists.{Has}
use Rattle.soundness.proofs.Lists.{Has-append_cases, Has-append_left, Has-append_right}
use Rattle.machine.specs.resolved_tree.Trees.{Tree, Named, Applied, Code, Bounds, Marked, Constrained, RangeOf, Objects, Numbers, Formals, Front, SubBody, Package, PackageBody, Skip, Assign, Call, Exit, Return, If, Branch, Case, When, Loop, While, For, Block, NoMore, More, position, code_items}
use Rattle.machine.specs.type_definitions.declared.table.Predefined.{Predefined}
use Rattle.machine.specs.type_definitions.declared.table.Predefined.TheVariants as predefined
use Rattle.machine.specs.type_definitions.declared.table.Entry.{Entry}
use Rattle.machine.specs.type_definitions.declared.table.Entry.TheVariants as entry
use Rattle.machine.specs.type_definitions.declared.judgement.View.{View}
use Rattle.machine.specs.type_definitions.declared.judgement.View.TheVariants as view
use Rattle.machine.specs.type_definitions.Types.{full}
use Rattle.machine.specs.type_definitions.Entries.{entry_of, integer, boolean, marked}
use Rattle.machine.specs.type_definitions.Names.{reading_of}
use Rattle.machine.specs.type_definitions.Expressions.{call_arguments}
use Rattle.machine.specs.type_definitions.Statements.{target_reading}
use Rattle.machine.specs.type_definitions.Gathered.{indicated, declared_number, in_visible, in_hidden, in_subprogram}
use Rattle.machine.specs.type_definitions.Declarations.{first_number}
use Rattle.machine.specs.typed_tree.Trees.{TypedTree, TypedCode, typed_code_list}
use Rattle.machine.specs.typed_tree.Trees as typed
use Rattle.machine.specs.typed_tree.Expressions.{Site, object_number, typed_expression, typed_first, typed_optional}
use Rattle.machine.specs.typed_tree.Statements.{scope_count, statements, typed_object, typed_text, predefined_call, call_of, typed_call, type_read, returned_type, bounds_seen, array_seen, typed_range, typed_choices, typed_body}
use Rattle.machine.specs.typed_tree.Programs.{TypedSub, placed, formal_numbers, front_formals, subs_in, elaborated, elaboration, over_units}
use Rattle.machine.specs.flow_paths.Scopes.{is_within}
use Rattle.machine.specs.flow_paths.Layout.{declared}
use Rattle.settled_types.specs.OrderLaws.ScopeLaws.Code.{roots, are_seen, is_seen, is_each_seen, body_seen}
use Rattle.settled_types.proofs.OrderLaws.ScopeLaws.Lists.{and_first, and_second, both_true}
use Rattle.settled_types.proofs.OrderLaws.ScopeLaws.Seen.{seen_both, seen_more}
use Rattle.sound_files.specs.SeenFiles.Uses.{Uses}
use Rattle.sound_files.specs.SeenFiles.Fits.{all_numbers, group_numbers, front_numbers, scope_after, unit_scope, units_scope, IsKept, RangeFits, Fits, AreFitting, IsFitting, UnitFits, AllFit}
use Rattle.sound_files.proofs.SeenFiles.Entries.{is_object_entry}
use Rattle.sound_files.proofs.SeenFiles.Names.{expression_seen, first_seen, actuals_in, optional_seen}

self_true : (x : ℕ) (rest : Bool) (b : Bool) → ((x == x) || rest) || b ≡ true
self_true x rest b = by (x == x) (eq-eqb x x refl)
  where
    by : (a : Bool) → a ≡ true → (a || rest) || b ≡ true
    by true e = refl
    by false e = absurd (true≢false (sym e))

or_step : (a b c : Bool) → b || c ≡ true → (a || b) || c ≡ true
or_step true b c h = refl
or_step false b c h = h

or_second : (a b : Bool) → b ≡ true → a || b ≡ true
or_second true b h = refl
or_second false b h = h

within_so : (x : ℕ) (sc : List ℕ) (b : Bool) → Has sc x → is_within x sc || b ≡ true
within_so x [] b has = absurd has
within_so x (y ∷ rest) b (inl same) = subst (λ z. is_within x (z ∷ rest) || b ≡ true) (sym same) (self_true x (is_within x rest) b)
within_so x (y ∷ rest) b (inr has) = or_step (x == y) (is_within x rest) b (within_so x rest b has)

reverse_has : (xs : List ℕ) (x : ℕ) → Has xs x → Has (reverse xs) x
reverse_has [] x has = has
reverse_has (y ∷ xs) x (inl same) =
    subst (λ zs. Has zs x) (sym (reverse-append (y ∷ []) xs)) (Has-append_right (reverse xs) (y ∷ []) x (inl same))
reverse_has (y ∷ xs) x (inr more) =
    subst (λ zs. Has zs x) (sym (reverse-append (y ∷ []) xs)) (Has-append_left (reverse xs) (y ∷ []) x (reverse_has xs x more))

moved_front : (x : ℕ) (ns ms : List ℕ) (n : ℕ) → Has (x ∷ (ns ++ ms)) n → Has (ns ++ (x ∷ ms)) n
moved_front x ns ms n (inl same) = Has-append_right ns (x ∷ ms) n (inl same)
moved_front x ns ms n (inr has) = elim (Has-append_cases ns ms n has) [
  | inl here ↦ Has-append_left ns (x ∷ ms) n here
  | inr later ↦ Has-append_right ns (x ∷ ms) n (inr later)
]

-- what is in scope stays there
after_has : (code : Code) (scope : List ℕ) (d : ℕ) → Has scope d → Has (scope_after code scope) d
unfolding scope_after
after_has (Objects ids constant i v) scope d has = Has-append_right (all_numbers ids) scope d has
after_has (Numbers ids e) scope d has = Has-append_right (all_numbers ids) scope d has
after_has (More a rest) scope d has = after_has rest (scope_after a scope) d (after_has a scope d has)
after_has code scope d has = has

unit_after_has : (u : Code) (scope : List ℕ) (d : ℕ) → Has scope d → Has (unit_scope u scope) d
unfolding unit_scope
unit_after_has (Package p visible hidden) scope d has = after_has hidden (scope_after visible scope) d (after_has visible scope d has)
unit_after_has (PackageBody p parts) scope d has = after_has parts scope d has
unit_after_has u scope d has = has

units_after_has : (us : List Code) (scope : List ℕ) (d : ℕ) → Has scope d → Has (units_scope us scope) d
units_after_has [] scope d has = has
units_after_has (u ∷ rest) scope d has = units_after_has rest (unit_scope u scope) d (unit_after_has u scope d has)

module _ (outer : ℕ → Bool) where
  -- What is in scope once these are declared.
  after_list : List TypedCode → List ℕ → List ℕ
  after_list [] sc = sc
  after_list (c ∷ cs) sc = after_list cs (reverse (declared c) ++ sc)

  abbrev ListSeen : List ℕ → List TypedCode → Type 0
  ListSeen sc cs = is_seen outer sc (typed_code_list cs) ≡ true

  list_both : (cs ds : List TypedCode) (sc : List ℕ) → ListSeen sc cs → ListSeen (after_list cs sc) ds → ListSeen sc (cs ++ ds)
  unfolding is_seen after_list
  list_both [] ds sc h g = g
  list_both (c ∷ cs) ds sc h g =
      let more : List ℕ = reverse (declared c) ++ sc in
      both_true (is_seen outer sc c) (is_seen outer more (typed_code_list (cs ++ ds))) (and_first (is_seen outer sc c) (is_seen outer more (typed_code_list cs)) h)
      (list_both cs ds more (and_second (is_seen outer sc c) (is_seen outer more (typed_code_list cs)) h) g)

  after_both : (cs ds : List TypedCode) (sc : List ℕ) → after_list (cs ++ ds) sc ≡ after_list ds (after_list cs sc)
  unfolding after_list
  after_both [] ds sc = refl
  after_both (c ∷ cs) ds sc = after_both cs ds (reverse (declared c) ++ sc)

  alone : (c : TypedCode) (sc : List ℕ) → is_seen outer sc c ≡ true → ListSeen sc (c ∷ [])
  unfolding is_seen
  alone c sc h = both_true (is_seen outer sc c) true h refl

  module _ (s : Site) (object : ℕ → Type 0) (known : (d : ℕ) → is_object_entry (entry_of s.context.known d) ≡ true → object d) where
    abbrev Covers : List ℕ → List ℕ → Type 0
    Covers scope sc = (d : ℕ) → Has scope d → (is_within (object_number s d) sc || outer (object_number s d)) ≡ true

    abbrev Kept : List ℕ → ℕ → Type 0
    Kept scope = IsKept object scope

    kept : (scope sc : List ℕ) → Covers scope sc → (d : ℕ) → is_object_entry (entry_of s.context.known d) ≡ true → Kept scope d
        → (is_within (object_number s d) sc || outer (object_number s d)) ≡ true
    kept scope sc covers d is in_scope = covers d (in_scope (known d is))

    value_in : (scope sc : List ℕ) → Covers scope sc → (e : Tree) (want : ℕ) → Uses (Kept scope) e → are_seen outer sc (roots (typed_expression s want e)) ≡ true
    value_in scope sc covers e want uses = expression_seen s outer sc (Kept scope) (kept scope sc covers) e want uses

    first_in : (scope sc : List ℕ) → Covers scope sc → (e : Tree) (want : ℕ) → Uses (Kept scope) e → are_seen outer sc (roots (typed_first s want e)) ≡ true
    first_in scope sc covers e want uses = first_seen s outer sc (Kept scope) (kept scope sc covers) e want uses

    optional_in : (scope sc : List ℕ) → Covers scope sc → (want : ℕ) (e : Tree) → Uses (Kept scope) e → are_seen outer sc (roots (typed_optional s want e)) ≡ true
    optional_in scope sc covers want e uses = optional_seen s outer sc (Kept scope) (kept scope sc covers) want e uses

    -- ---- declarations

    pushed : (n : ℕ) (scope sc : List ℕ) → Covers scope sc → Covers (n ∷ scope) (object_number s n ∷ sc)
    pushed n scope sc covers d (inl same) =
        subst (λ m. (is_within (object_number s m) (object_number s n ∷ sc) || outer (object_number s m)) ≡ true) same
        (self_true (object_number s n) (is_within (object_number s n) sc) (outer (object_number s n)))
    pushed n scope sc covers d (inr has) =
        or_step (object_number s d == object_number s n) (is_within (object_number s d) sc) (outer (object_number s d)) (covers d has)

    objects_seen : (ds : List Code) (v : TypedTree) (scope sc : List ℕ) → Covers scope sc → are_seen outer sc (roots v) ≡ true
        → ListSeen sc (map (typed_object s v) ds) × Covers (map declared_number ds ++ scope) (after_list (map (typed_object s v) ds) sc)
    unfolding is_seen after_list declared
    objects_seen [] v scope sc covers h = (refl, covers)
    objects_seen (d ∷ ds) v scope sc covers h =
        let n : ℕ = declared_number d in
        let x : ℕ = object_number s n in
        let r = objects_seen ds v (n ∷ scope) (x ∷ sc) (pushed n scope sc covers) (seen_more outer (x ∷ []) sc (roots v) h) in (
          both_true (are_seen outer sc (roots v)) (is_seen outer (x ∷ sc) (typed_code_list (map (typed_object s v) ds))) h r.0,
          λ m has. r.1 m (moved_front n (map declared_number ds) scope m has),
        )

    -- ---- calls

    arguments_use : (scope : List ℕ) (rest : Tree) → Uses (Kept scope) rest → Uses (Kept scope) (call_arguments rest)
    unfolding Uses
    arguments_use scope (More (Applied args) rest) uses = uses.0
    arguments_use scope _ uses = tt

    call_seen : (scope sc : List ℕ) → Covers scope sc → (name : Tree) → Uses (Kept scope) name → is_seen outer sc (typed_call s name) ≡ true
    unfolding is_seen Uses roots
    call_seen scope sc covers (Named p d rest) uses = by (entry_of s.context.known d)
      where
        args : Uses (Kept scope) (call_arguments rest)
        args = arguments_use scope rest uses.1

        first : (want : ℕ) → are_seen outer sc (roots (typed_first s want (call_arguments rest))) ≡ true
        first want = first_in scope sc covers (call_arguments rest) want args

        text : are_seen outer sc (roots (typed_text s (call_arguments rest))) ≡ true
        text = seen_both outer sc (roots (typed_first s integer (call_arguments rest))) [] (first integer) refl

        by_predefined : (which : Predefined) → is_seen outer sc (predefined_call s p which (call_arguments rest)) ≡ true
        by_predefined predefined.Put = text
        by_predefined predefined.PutLine = text
        by_predefined predefined.NewLine = refl
        by_predefined predefined.Get = first integer
        by_predefined predefined.EndOfFile = refl
        by_predefined predefined.Deallocation = refl

        by : (e : Entry) → is_seen outer sc (call_of s p d e rest) ≡ true
        by (entry.Subprogram profile) = actuals_in s outer sc (Kept scope) (kept scope sc covers) d rest uses.1
        by (entry.Instance t) = first t
        by (entry.Predefined which) = by_predefined which
        by (entry.Object o) = refl
        by (entry.Literal t n) = refl
        by entry.Type = refl
        by entry.Nothing = refl
        by entry.Package = refl
    call_seen scope sc covers _ uses = refl

    call_declares : (name : Tree) → declared (typed_call s name) ≡ []
    unfolding declared
    call_declares (Named p d rest) = by (entry_of s.context.known d)
      where
        by_predefined : (which : Predefined) → declared (predefined_call s p which (call_arguments rest)) ≡ []
        by_predefined predefined.Put = refl
        by_predefined predefined.PutLine = refl
        by_predefined predefined.NewLine = refl
        by_predefined predefined.Get = refl
        by_predefined predefined.EndOfFile = refl
        by_predefined predefined.Deallocation = refl

        by : (e : Entry) → declared (call_of s p d e rest) ≡ []
        by (entry.Subprogram profile) = refl
        by (entry.Instance t) = refl
        by (entry.Predefined which) = by_predefined which
        by (entry.Object o) = refl
        by (entry.Literal t n) = refl
        by entry.Type = refl
        by entry.Nothing = refl
        by entry.Package = refl
    call_declares _ = refl

    -- ---- ranges

    bounds_none : (sc : List ℕ) (v : View) → (are_seen outer sc (roots (bounds_seen v).0) && are_seen outer sc (roots (bounds_seen v).1)) ≡ true
    unfolding roots
    bounds_none sc (view.Whole low high) = refl
    bounds_none sc (view.Listed low high) = refl
    bounds_none sc (view.Elements low high of) = refl
    bounds_none sc _ = refl

    range_seen : (scope sc : List ℕ) → Covers scope sc → (range : Code) → RangeFits object scope range
        → (are_seen outer sc (roots (typed_range s range).0) && are_seen outer sc (roots (typed_range s range).1)) ≡ true
    range_seen scope sc covers (Bounds low high) fits =
        both_true (are_seen outer sc (roots (typed_expression s integer low))) (are_seen outer sc (roots (typed_expression s integer high)))
        (value_in scope sc covers low integer fits.0) (value_in scope sc covers high integer fits.1)
    range_seen scope sc covers (Constrained m low high) fits =
        both_true (are_seen outer sc (roots (typed_expression s integer low))) (are_seen outer sc (roots (typed_expression s integer high)))
        (value_in scope sc covers low integer fits.0) (value_in scope sc covers high integer fits.1)
    range_seen scope sc covers (Marked m) fits = bounds_none sc (full s.context.known.table (marked s.context.known m))
    range_seen scope sc covers (RangeOf (Named p d rest)) fits = bounds_none sc (array_seen s.context d (reading_of s.context d rest))
    range_seen scope sc covers (RangeOf e) fits = bounds_none sc view.Hidden
    range_seen scope sc covers _ fits = bounds_none sc view.Hidden

    -- ---- all of the code

    -- What code means is in scope where it stands, and after it what it declares is in scope.
    abbrev CodeSeen : ℕ → Code → List ℕ → List ℕ → Type 0
    CodeSeen n code scope sc = ListSeen sc (statements s n code) × Covers (scope_after code scope) (after_list (statements s n code) sc)

    branch_so : (p : Pos) (e : Tree) (stmts : TypedCode) (scope sc : List ℕ) → Covers scope sc → Uses (Kept scope) e → is_seen outer sc stmts ≡ true
        → is_seen outer sc (typed.Branch p (typed_expression s boolean e) stmts) ≡ true
    unfolding is_seen
    branch_so p e stmts scope sc covers uses h =
        both_true (are_seen outer sc (roots (typed_expression s boolean e))) (is_seen outer sc stmts) (value_in scope sc covers e boolean uses) h

    mutual
      unfolding statements is_seen is_each_seen Fits AreFitting IsFitting scope_after after_list declared roots

      code_seen : (code : Code) (n : ℕ) (scope sc : List ℕ) → Covers scope sc → Fits object scope code → CodeSeen n code scope sc
      code_seen (Objects ids constant i v) n scope sc covers fits =
          let want : ℕ = indicated s.context.known (first_number ids) i in
          objects_seen (code_items ids) (typed_optional s want v) scope sc covers (optional_in scope sc covers want v fits.1)
      code_seen (Numbers ids e) n scope sc covers fits =
          objects_seen (code_items ids) (typed.More (typed_expression s integer e) typed.NoMore) scope sc covers
          (seen_both outer sc (roots (typed_expression s integer e)) [] (value_in scope sc covers e integer fits.1) refl)
      code_seen (Skip p) n scope sc covers fits = (refl, covers)
      code_seen (Assign target e) n scope sc covers fits =
          let want : ℕ = type_read (target_reading s.context target) in
          let c : TypedCode = typed.Assign (position target) (typed_expression s integer target) (typed_expression s want e) in (
            alone c sc (both_true (are_seen outer sc (roots (typed_expression s want e))) (are_seen outer sc (roots (typed_expression s integer target)))
                (value_in scope sc covers e want fits.1) (value_in scope sc covers target integer fits.0)),
            covers,
          )
      code_seen (Call name) n scope sc covers fits =
          (alone (typed_call s name) sc (call_seen scope sc covers name fits), λ d has. subst (λ more. (is_within (object_number s d) (reverse more ++ sc) || outer (object_number s d)) ≡ true) (sym (call_declares name)) (covers d has))
      code_seen (Exit p when) n scope sc covers fits =
          (alone (typed.Exit p (typed_optional s boolean when)) sc (optional_in scope sc covers boolean when fits), covers)
      code_seen (Return p v) n scope sc covers fits =
          let want : ℕ = returned_type s.context s.context.sub in
          (alone (typed.Return p (typed_optional s want v)) sc (optional_in scope sc covers want v fits), covers)
      code_seen (If p branches otherwise) n scope sc covers fits =
          let a : TypedCode = typed_code_list (statements s n branches) in
          let b : TypedCode = typed_code_list (statements s (n + scope_count branches) otherwise) in (
            alone (typed.If a b) sc (both_true (is_each_seen outer sc a) (is_seen outer sc b) (branches_seen branches n scope sc covers fits.0)
                (code_seen otherwise (n + scope_count branches) scope sc covers fits.1).0),
            covers,
          )
      code_seen (Branch p e stmts) n scope sc covers fits =
          (alone (typed.Branch p (typed_expression s boolean e) (typed_code_list (statements s n stmts))) sc (branch_so p e (typed_code_list (statements s n stmts)) scope sc covers fits.0 (code_seen stmts n scope sc covers fits.1).0), covers)
      code_seen (Case p e whens) n scope sc covers fits =
          let a : TypedCode = typed_code_list (statements s n whens) in (
            alone (typed.Case p (typed_expression s integer e) a) sc (both_true (are_seen outer sc (roots (typed_expression s integer e))) (is_each_seen outer sc a)
                (value_in scope sc covers e integer fits.0) (branches_seen whens n scope sc covers fits.1)),
            covers,
          )
      code_seen (When choices stmts) n scope sc covers fits =
          (alone (typed.When (typed_choices s.context choices) (typed_code_list (statements s n stmts))) sc (code_seen stmts n scope sc covers fits).0, covers)
      code_seen (Loop p stmts) n scope sc covers fits =
          (alone (typed.Loop (typed_code_list (statements s n stmts))) sc (code_seen stmts n scope sc covers fits).0, covers)
      code_seen (While p e stmts) n scope sc covers fits =
          let a : TypedCode = typed_code_list (statements s n stmts) in (
            alone (typed.While p (typed_expression s boolean e) a) sc (both_true (are_seen outer sc (roots (typed_expression s boolean e))) (is_seen outer sc a)
                (value_in scope sc covers e boolean fits.0) (code_seen stmts n scope sc covers fits.1).0),
            covers,
          )
      code_seen (For p d reversed range stmts) n scope sc covers fits =
          let x : ℕ = object_number s (declared_number d) in
          let low : TypedTree = (typed_range s range).0 in
          let high : TypedTree = (typed_range s range).1 in
          let a : TypedCode = typed_code_list (statements s (n + 1) stmts) in (
            alone (typed.For p x reversed low high a) sc (both_true (are_seen outer sc (roots low) && are_seen outer sc (roots high)) (is_seen outer (x ∷ sc) a)
                (range_seen scope sc covers range fits.1.0)
                (code_seen stmts (n + 1) (declared_number d ∷ scope) (x ∷ sc) (pushed (declared_number d) scope sc covers) fits.1.1).0),
            covers,
          )
      code_seen (Block p items stmts end) n scope sc covers fits =
          let a : List TypedCode = statements s (n + 1) items in
          let b : List TypedCode = statements s (n + 1 + scope_count items) stmts in
          let first = code_seen items (n + 1) scope sc covers fits.0 in
          let second = code_seen stmts (n + 1 + scope_count items) (scope_after items scope) (after_list a sc) first.1 fits.1 in
          (alone (typed.Block n (typed_code_list (a ++ b)) end) sc (list_both a b sc first.0 second.0), covers)
      code_seen (More a rest) n scope sc covers fits =
          let xs : List TypedCode = statements s n a in
          let ys : List TypedCode = statements s (n + scope_count a) rest in
          let first = code_seen a n scope sc covers fits.0 in
          let second = code_seen rest (n + scope_count a) (scope_after a scope) (after_list xs sc) first.1 fits.1 in (
            list_both xs ys sc first.0 second.0,
            subst (λ more. Covers (scope_after rest (scope_after a scope)) more) (sym (after_both xs ys sc)) second.1,
          )
      code_seen (Package d visible hidden) n scope sc covers fits = absurd fits
      code_seen (PackageBody d parts) n scope sc covers fits = absurd fits
      code_seen code n scope sc covers fits = (refl, covers)

      branches_seen : (code : Code) (n : ℕ) (scope sc : List ℕ) → Covers scope sc → AreFitting object scope code
          → is_each_seen outer sc (typed_code_list (statements s n code)) ≡ true
      branches_seen (More (Branch p e stmts) rest) n scope sc covers fits =
          let a : TypedCode = typed.Branch p (typed_expression s boolean e) (typed_code_list (statements s n stmts)) in
          both_true (is_seen outer sc a) (is_each_seen outer sc (typed_code_list (statements s (n + scope_count (Branch p e stmts)) rest)))
          (branch_so p e (typed_code_list (statements s n stmts)) scope sc covers fits.0.0 (code_seen stmts n scope sc covers fits.0.1).0) (branches_seen rest (n + scope_count (Branch p e stmts)) scope sc covers fits.1)
      branches_seen (More (When choices stmts) rest) n scope sc covers fits =
          let a : TypedCode = typed.When (typed_choices s.context choices) (typed_code_list (statements s n stmts)) in
          both_true (is_seen outer sc a) (is_each_seen outer sc (typed_code_list (statements s (n + scope_count (When choices stmts)) rest)))
          (code_seen stmts n scope sc covers fits.0).0 (branches_seen rest (n + scope_count (When choices stmts)) scope sc covers fits.1)
      branches_seen (More NoMore rest) n scope sc covers fits = branches_seen rest (n + scope_count NoMore) scope sc covers fits.1
      branches_seen NoMore n scope sc covers fits = refl
      branches_seen (More a rest) n scope sc covers fits = absurd fits.0
      branches_seen code n scope sc covers fits = absurd fits

    -- ---- bodies

    formal_covers : (groups : List Code) (sc : List ℕ) (d : ℕ) → Has (flat_map group_numbers groups) d → Has (flat_map (formal_numbers s) groups) (object_number s d)
    formal_covers [] sc d has = absurd has
    formal_covers (g ∷ rest) sc d has = elim (Has-append_cases (group_numbers g) (flat_map group_numbers rest) d has) [
      | inl here ↦ Has-append_left (formal_numbers s g) (flat_map (formal_numbers s) rest) (object_number s d) (group g here)
      | inr later ↦ Has-append_right (formal_numbers s g) (flat_map (formal_numbers s) rest) (object_number s d) (formal_covers rest sc d later)
    ]
      where
        each : (ids : List Code) → Has (map declared_number ids) d → Has (map (λ x. object_number s (declared_number x)) ids) (object_number s d)
        each [] has = absurd has
        each (x ∷ ids) (inl same) = inl (ap (object_number s) same)
        each (x ∷ ids) (inr has) = inr (each ids has)

        group : (g : Code) → Has (group_numbers g) d → Has (formal_numbers s g) (object_number s d)
        group (Formals ids m of) has = each (code_items ids) has
        group g has = absurd has

    abbrev front_formal_numbers : Code → List ℕ
    front_formal_numbers front = flat_map (formal_numbers s) (front_formals front)

    front_covers : (front : Code) (scope : List ℕ) → ((d : ℕ) → Has scope d → outer (object_number s d) ≡ true)
        → Covers (front_numbers front ++ scope) (reverse (front_formal_numbers front))
    front_covers front scope outside d has = elim (Has-append_cases (front_numbers front) scope d has) [
      | inl formal ↦ within_so (object_number s d) (reverse (front_formal_numbers front)) (outer (object_number s d))
          (reverse_has (front_formal_numbers front) (object_number s d) (formal_has front formal))
      | inr old ↦ or_second (is_within (object_number s d) (reverse (front_formal_numbers front))) (outer (object_number s d)) (outside d old)
    ]
      where
        formal_has : (front : Code) → Has (front_numbers front) d → Has (front_formal_numbers front) (object_number s d)
        formal_has (Front x formals result) has = formal_covers (code_items formals) [] d has
        formal_has front has = absurd has

    sub_seen : (n : ℕ) (front items stmts : Code) (end : Pos) (scope : List ℕ) → ((d : ℕ) → Has scope d → outer (object_number s d) ≡ true)
        → Fits object scope (SubBody front items stmts end)
        → is_seen outer (reverse (front_formal_numbers front)) (typed_body s n items stmts) ≡ true
    unfolding Fits
    sub_seen n front items stmts end scope outside fits =
        let sc : List ℕ = reverse (front_formal_numbers front) in
        let inner : List ℕ = front_numbers front ++ scope in
        let a : List TypedCode = statements s n items in
        let b : List TypedCode = statements s (n + scope_count items) stmts in
        let first = code_seen items n inner sc (front_covers front scope outside) fits.1.0 in
        let second = code_seen stmts (n + scope_count items) (scope_after items inner) (after_list a sc) first.1 fits.1.1 in
        list_both a b sc first.0 second.0

  -- ---- subprograms with a body in the text

  abbrev IsKnown : Site → (ℕ → Type 0) → Type 0
  IsKnown s object = (d : ℕ) → is_object_entry (entry_of s.context.known d) ≡ true → object d

  abbrev IsOutside : Site → List ℕ → Type 0
  IsOutside s scope = (d : ℕ) → Has scope d → outer (object_number s d) ≡ true

  part_seen : (s : Site) (object : ℕ → Type 0) → IsKnown s object → (n : ℕ) (u : Code) (scope : List ℕ) → IsOutside s (scope_after u scope)
      → Fits object scope u → (sub : TypedSub) → Has (subs_in s n u) sub → body_seen outer sub ≡ true
  unfolding subs_in Fits scope_after
  part_seen s object known n (SubBody front items stmts end) scope outside fits sub (inl same) =
      subst (λ (t : TypedSub). body_seen outer t ≡ true) same
      (sub_seen (placed (in_subprogram front) s) object known (n + 1) front items stmts end scope outside fits)
  part_seen s object known n (SubBody front items stmts end) scope outside fits sub (inr never) = absurd never
  part_seen s object known n (PackageBody d parts) scope outside fits sub has = absurd fits
  part_seen s object known n (More a rest) scope outside fits sub has =
      elim (Has-append_cases (subs_in s n a) (subs_in s (n + scope_count a) rest) sub has) [
        | inl here ↦ part_seen s object known n a scope (λ d old. outside d (after_has rest (scope_after a scope) d old)) fits.0 sub here
        | inr later ↦ part_seen s object known (n + scope_count a) rest (scope_after a scope) outside fits.1 sub later
      ]
  part_seen s object known n u scope outside fits sub has = absurd has

  unit_seen : (s : Site) (object : ℕ → Type 0) → IsKnown s object → (n : ℕ) (u : Code) (scope : List ℕ) → IsOutside s (unit_scope u scope)
      → UnitFits object scope u → (sub : TypedSub) → Has (subs_in s n u) sub → body_seen outer sub ≡ true
  unfolding subs_in UnitFits unit_scope Fits scope_after
  unit_seen s object known n (PackageBody d parts) scope outside fits sub has =
      part_seen (placed (in_hidden (declared_number d)) s) object known n parts scope outside fits sub has
  unit_seen s object known n (SubBody front items stmts end) scope outside fits sub has =
      part_seen s object known n (SubBody front items stmts end) scope outside fits sub has
  unit_seen s object known n (More a rest) scope outside fits sub has = absurd fits
  unit_seen s object known n u scope outside fits sub has = absurd has

  pub units_seen : (s : Site) (object : ℕ → Type 0) → IsKnown s object → (n : ℕ) (us : List Code) (scope : List ℕ) → IsOutside s (units_scope us scope)
      → AllFit object scope us → (sub : TypedSub) → Has (over_units (subs_in s) n us) sub → body_seen outer sub ≡ true
  units_seen s object known n [] scope outside fits sub has = absurd has
  units_seen s object known n (u ∷ rest) scope outside fits sub has =
      elim (Has-append_cases (subs_in s n u) (over_units (subs_in s) (n + scope_count u) rest) sub has) [
        | inl here ↦ unit_seen s object known n u scope (λ d old. outside d (units_after_has rest (unit_scope u scope) d old)) fits.0 sub here
        | inr later ↦ units_seen s object known (n + scope_count u) rest (unit_scope u scope) outside fits.1 sub later
      ]

  -- ---- the objects of packages

  covered : (s : Site) (scope sc : List ℕ) → IsOutside s scope → (d : ℕ) → Has scope d → (is_within (object_number s d) sc || outer (object_number s d)) ≡ true
  covered s scope sc outside d has = or_second (is_within (object_number s d) sc) (outer (object_number s d)) (outside d has)

  unit_values : (s : Site) (object : ℕ → Type 0) → IsKnown s object → (n : ℕ) (u : Code) (scope sc : List ℕ) → IsOutside s scope
      → UnitFits object scope u → ListSeen sc (elaborated s n u)
  unfolding UnitFits is_seen
  unit_values s object known n (Package d visible hidden) scope sc outside fits =
      let first : Site = placed (in_visible (declared_number d)) s in
      let second : Site = placed (in_hidden (declared_number d)) s in
      let xs : List TypedCode = statements first n visible in
      let ys : List TypedCode = statements second (n + scope_count visible) hidden in
      let one = code_seen first object known visible n scope sc (covered s scope sc outside) fits.0 in
      let two = code_seen second object known hidden (n + scope_count visible) (scope_after visible scope) (after_list xs sc) one.1 fits.1 in
      list_both xs ys sc one.0 two.0
  unit_values s object known n (PackageBody d parts) scope sc outside fits =
      (code_seen (placed (in_hidden (declared_number d)) s) object known parts n scope sc (covered s scope sc outside) fits).0
  unit_values s object known n (SubBody front items stmts end) scope sc outside fits = refl
  unit_values s object known n u scope sc outside fits = absurd fits

  units_values : (s : Site) (object : ℕ → Type 0) → IsKnown s object → (n : ℕ) (us : List Code) (scope sc : List ℕ) → IsOutside s (units_scope us scope)
      → AllFit object scope us → ListSeen sc (over_units (elaborated s) n us)
  unfolding is_seen
  units_values s object known n [] scope sc outside fits = refl
  units_values s object known n (u ∷ rest) scope sc outside fits =
      list_both (elaborated s n u) (over_units (elaborated s) (n + scope_count u) rest) sc
      (unit_values s object known n u scope sc (λ d old. outside d (units_after_has rest (unit_scope u scope) d (unit_after_has u scope d old))) fits.0)
      (units_values s object known (n + scope_count u) rest (unit_scope u scope) (after_list (elaborated s n u) sc) outside fits.1)

  pub values_seen : (s : Site) (object : ℕ → Type 0) → IsKnown s object → (us : List Code) → IsOutside s (units_scope us [])
      → AllFit object [] us → body_seen outer (elaboration s us) ≡ true
  values_seen s object known us outside fits = units_values s object known 1 us [] [] outside fits
