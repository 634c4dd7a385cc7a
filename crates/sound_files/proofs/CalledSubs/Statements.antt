-- Calls in typed code go to what is known as a subprogram.
use Rattle.std.proofs.Common.{◌≡◌, ℕ, ◌+◌, true, List, [], ◌∷◌, ◌++◌, map, refl}
use Rattle.std.specs.List.{AllByRecursion}
use Rattle.machine.specs.spark_base.declared.position.Pos.{Pos}
use Rattle.machine.specs.resolved_tree.Trees.{Tree, Named, Code, Bounds, Marked, Constrained, RangeOf, Objects, Numbers, SubBody, Package, PackageBody, Skip, Assign, Call, Exit, Return, If, Branch, Case, When, Loop, While, For, Block, More, code_items}
use Rattle.machine.specs.type_definitions.declared.table.Predefined.{Predefined}
use Rattle.machine.specs.type_definitions.declared.table.Predefined.TheVariants as predefined
use Rattle.machine.specs.type_definitions.declared.table.Entry.{Entry}
use Rattle.machine.specs.type_definitions.declared.table.Entry.TheVariants as entry
use Rattle.machine.specs.type_definitions.declared.judgement.View.{View}
use Rattle.machine.specs.type_definitions.declared.judgement.View.TheVariants as view
use Rattle.machine.specs.type_definitions.Types.{full}
use Rattle.machine.specs.type_definitions.Entries.{entry_of, integer, boolean, marked}
use Rattle.machine.specs.type_definitions.Names.{reading_of}
use Rattle.machine.specs.type_definitions.Expressions.{call_arguments}
use Rattle.machine.specs.type_definitions.Statements.{target_reading}
use Rattle.machine.specs.type_definitions.Gathered.{indicated, declared_number, in_subprogram, in_visible, in_hidden}
use Rattle.machine.specs.type_definitions.Declarations.{first_number}
use Rattle.machine.specs.typed_tree.Trees.{TypedTree, TypedCode, typed_code_list}
use Rattle.machine.specs.typed_tree.Trees as typed
use Rattle.machine.specs.typed_tree.Expressions.{Site, sub_number, typed_expression, typed_actuals, typed_first, typed_optional}
use Rattle.machine.specs.typed_tree.Statements.{scope_count, typed_object, type_read, predefined_call, call_of, typed_call, returned_type, bounds_seen, array_seen, range_of, typed_range, plain_statements, statements, typed_body}
use Rattle.machine.specs.typed_tree.Programs.{TypedSub, placed, subs_in, over_units}
use Rattle.machine.specs.typed_tree.Programs as programs
use Rattle.settled_types.proofs.OrderLaws.ScopeLaws.Lists.{all_both}
use Rattle.sound_files.specs.CalledSubs.Called.{Calls, CodeCalls, is_subprogram_entry}
use Rattle.sound_files.proofs.CalledSubs.Trees.{expression_fine, actuals_fine, first_fine, optional_fine}

abbrev pub IsKnown : (ℕ → TypedTree → Type 0) → Site → Type 0
IsKnown asked s = (d : ℕ) → is_subprogram_entry (entry_of s.context.known d) ≡ true → (actuals : TypedTree) → asked (sub_number s d) actuals

module _ (asked : ℕ → TypedTree → Type 0) where
  abbrev Fine : TypedCode → Type 0
  Fine c = CodeCalls asked c

  abbrev AllFine : List TypedCode → Type 0
  AllFine cs = AllByRecursion Fine cs

  both : (cs ds : List TypedCode) → AllFine cs → AllFine ds → AllFine (cs ++ ds)
  both cs ds h g = all_both Fine cs ds h g

  pub list_fine : (cs : List TypedCode) → AllFine cs → Fine (typed_code_list cs)
  unfolding CodeCalls
  list_fine [] all = tt
  list_fine (c ∷ cs) all = (all.0, list_fine cs all.1)

  module _ (s : Site) (known : IsKnown asked s) where
    expression : (want : ℕ) (e : Tree) → Calls asked (typed_expression s want e)
    expression want e = expression_fine s asked known e want

    first : (want : ℕ) (e : Tree) → Calls asked (typed_first s want e)
    first want e = first_fine s asked known e want

    optional : (want : ℕ) (e : Tree) → Calls asked (typed_optional s want e)
    optional want e = optional_fine s asked known want e

    objects_fine : (v : TypedTree) (ids : List Code) → Calls asked v → AllFine (map (typed_object s v) ids)
    unfolding CodeCalls
    objects_fine v [] calls = tt
    objects_fine v (d ∷ ids) calls = (calls, objects_fine v ids calls)

    predefined_fine : (p : Pos) (which : Predefined) (args : Tree) → Fine (predefined_call s p which args)
    unfolding CodeCalls Calls
    predefined_fine p predefined.Put args = (first integer args, tt)
    predefined_fine p predefined.PutLine args = (first integer args, tt)
    predefined_fine p predefined.NewLine args = tt
    predefined_fine p predefined.Get args = first integer args
    predefined_fine p predefined.EndOfFile args = tt
    predefined_fine p predefined.Deallocation args = tt

    call_fine : (p : Pos) (d : ℕ) (e : Entry) (rest : Tree) → (is_subprogram_entry e ≡ true → (actuals : TypedTree) → asked (sub_number s d) actuals) → Fine (call_of s p d e rest)
    unfolding CodeCalls
    call_fine p d (entry.Subprogram profile) rest is = (is refl (typed_actuals s d rest), actuals_fine s asked known d rest)
    call_fine p d (entry.Instance t) rest is = first t (call_arguments rest)
    call_fine p d (entry.Predefined which) rest is = predefined_fine p which (call_arguments rest)
    call_fine p d _ rest is = tt

    named_fine : (x : Tree) → Fine (typed_call s x)
    unfolding CodeCalls
    named_fine (Named p d rest) = call_fine p d (entry_of s.context.known d) rest (known d)
    named_fine _ = tt

    bounds_fine : (v : View) → Calls asked (bounds_seen v).0 × Calls asked (bounds_seen v).1
    unfolding Calls
    bounds_fine (view.Whole low high) = (tt, tt)
    bounds_fine (view.Listed low high) = (tt, tt)
    bounds_fine (view.Elements low high of) = (tt, tt)
    bounds_fine _ = (tt, tt)

    array_fine : (e : Tree) → Calls asked (range_of s.context e).0 × Calls asked (range_of s.context e).1
    array_fine (Named p d rest) = bounds_fine (array_seen s.context d (reading_of s.context d rest))
    array_fine _ = bounds_fine view.Hidden

    range_fine : (range : Code) → Calls asked (typed_range s range).0 × Calls asked (typed_range s range).1
    range_fine (Bounds low high) = (expression integer low, expression integer high)
    range_fine (Constrained m low high) = (expression integer low, expression integer high)
    range_fine (Marked m) = bounds_fine (full s.context.known.table (marked s.context.known m))
    range_fine (RangeOf e) = array_fine e
    range_fine _ = bounds_fine view.Hidden

    plain_fine : (c : Code) → AllFine (plain_statements s c)
    unfolding CodeCalls Calls
    plain_fine (Objects ids constant i v) =
        objects_fine (typed_optional s (indicated s.context.known (first_number ids) i) v) (code_items ids) (optional (indicated s.context.known (first_number ids) i) v)
    plain_fine (Numbers ids e) = objects_fine (typed.More (typed_expression s integer e) typed.NoMore) (code_items ids) (expression integer e, tt)
    plain_fine (Skip p) = (tt, tt)
    plain_fine (Assign target e) = ((expression integer target, expression (type_read (target_reading s.context target)) e), tt)
    plain_fine (Call name) = (named_fine name, tt)
    plain_fine (Exit p when) = (optional boolean when, tt)
    plain_fine (Return p v) = (optional (returned_type s.context s.context.sub) v, tt)
    plain_fine _ = tt

    pub statements_fine : (n : ℕ) (c : Code) → AllFine (statements s n c)
    unfolding statements CodeCalls
    statements_fine n (If p branches otherwise) = (
      (
        list_fine (statements s n branches) (statements_fine n branches),
        list_fine (statements s (n + scope_count branches) otherwise) (statements_fine (n + scope_count branches) otherwise),
      ),
      tt,
    )
    statements_fine n (Branch p e stmts) = ((expression boolean e, list_fine (statements s n stmts) (statements_fine n stmts)), tt)
    statements_fine n (Case p e whens) = ((expression integer e, list_fine (statements s n whens) (statements_fine n whens)), tt)
    statements_fine n (When choices stmts) = (list_fine (statements s n stmts) (statements_fine n stmts), tt)
    statements_fine n (Loop p stmts) = (list_fine (statements s n stmts) (statements_fine n stmts), tt)
    statements_fine n (While p e stmts) = ((expression boolean e, list_fine (statements s n stmts) (statements_fine n stmts)), tt)
    statements_fine n (For p d reversed range stmts) =
        (((range_fine range).0, ((range_fine range).1, list_fine (statements s (n + 1) stmts) (statements_fine (n + 1) stmts))), tt)
    statements_fine n (Block p items stmts end) = (
      list_fine (statements s (n + 1) items ++ statements s (n + 1 + scope_count items) stmts)
          (both (statements s (n + 1) items) (statements s (n + 1 + scope_count items) stmts) (statements_fine (n + 1) items) (statements_fine (n + 1 + scope_count items) stmts)),
      tt,
    )
    statements_fine n (More a rest) =
        both (statements s n a) (statements s (n + scope_count a) rest) (statements_fine n a) (statements_fine (n + scope_count a) rest)
    statements_fine n c = plain_fine c

    body_fine : (n : ℕ) (items stmts : Code) → Fine (typed_body s n items stmts)
    body_fine n items stmts =
        list_fine (statements s n items ++ statements s (n + scope_count items) stmts)
        (both (statements s n items) (statements s (n + scope_count items) stmts) (statements_fine n items) (statements_fine (n + scope_count items) stmts))

  -- ---- subprograms

  abbrev pub IsFineSub : TypedSub → Type 0
  IsFineSub sub = Fine sub.body

  subs_fine : (s : Site) → IsKnown asked s → (n : ℕ) (u : Code) → AllByRecursion IsFineSub (subs_in s n u)
  unfolding subs_in
  subs_fine s known n (SubBody front items stmts end) = (body_fine (placed (in_subprogram front) s) known (n + 1) items stmts, tt)
  subs_fine s known n (PackageBody d parts) = subs_fine (placed (in_hidden (declared_number d)) s) known n parts
  subs_fine s known n (More a rest) =
      all_both IsFineSub (subs_in s n a) (subs_in s (n + scope_count a) rest) (subs_fine s known n a) (subs_fine s known (n + scope_count a) rest)
  subs_fine s known n u = tt

  elaborated_fine : (s : Site) → IsKnown asked s → (n : ℕ) (u : Code) → AllFine (programs.elaborated s n u)
  elaborated_fine s known n (Package d visible hidden) =
      let outer : Site = placed (in_visible (declared_number d)) s in
      let inner : Site = placed (in_hidden (declared_number d)) s in
      both (statements outer n visible) (statements inner (n + scope_count visible) hidden) (statements_fine outer known n visible)
      (statements_fine inner known (n + scope_count visible) hidden)
  elaborated_fine s known n (PackageBody d parts) = statements_fine (placed (in_hidden (declared_number d)) s) known n parts
  elaborated_fine s known n u = tt

  over : {A : Type 0} (P : A → Type 0) (f : ℕ → Code → List A) → ((n : ℕ) (u : Code) → AllByRecursion P (f n u)) → (n : ℕ) (us : List Code)
      → AllByRecursion P (over_units f n us)
  over P f each n [] = tt
  over P f each n (u ∷ us) = all_both P (f n u) (over_units f (n + scope_count u) us) (each n u) (over P f each (n + scope_count u) us)

  pub all_subs_fine : (s : Site) → IsKnown asked s → (us : List Code) → AllByRecursion IsFineSub (programs.elaboration s us ∷ over_units (subs_in s) 1 us)
  all_subs_fine s known us = (
    list_fine (over_units (programs.elaborated s) 1 us) (over Fine (programs.elaborated s) (λ n u. elaborated_fine s known n u) 1 us),
    over IsFineSub (subs_in s) (λ n u. subs_fine s known n u) 1 us,
  )
