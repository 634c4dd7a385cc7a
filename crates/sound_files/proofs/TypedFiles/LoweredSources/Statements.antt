-- The literals in the typed code of a program are words.
use Rattle.std.proofs.Common.{inl, inr, subst, ℕ, ◌+◌, List, [], ◌∷◌, ◌++◌, map}
use Rattle.std.specs.List.{AllByRecursion}
use Rattle.machine.specs.spark_base.declared.position.Pos.{Pos}
use Rattle.machine.specs.resolved_tree.Trees.{Tree, Named, Code, Bounds, Marked, Constrained, RangeOf, Objects, Numbers, SubBody, Package, PackageBody, Skip, Assign, Call, Exit, Return, If, Branch, Case, When, Loop, While, For, Block, More, code_items}
use Rattle.machine.specs.type_definitions.declared.table.Predefined.{Predefined}
use Rattle.machine.specs.type_definitions.declared.table.Predefined.TheVariants as predefined
use Rattle.machine.specs.type_definitions.declared.table.Entry.{Entry}
use Rattle.machine.specs.type_definitions.declared.table.Entry.TheVariants as entry
use Rattle.machine.specs.type_definitions.declared.judgement.View.{View}
use Rattle.machine.specs.type_definitions.declared.judgement.View.TheVariants as view
use Rattle.machine.specs.type_definitions.declared.judgement.Reading.{Reading}
use Rattle.machine.specs.type_definitions.declared.judgement.Reading.TheVariants as reading
use Rattle.machine.specs.type_definitions.Types.{full}
use Rattle.machine.specs.type_definitions.Entries.{entry_of, integer, boolean, marked}
use Rattle.machine.specs.type_definitions.Names.{reading_of}
use Rattle.machine.specs.type_definitions.Expressions.{call_arguments}
use Rattle.machine.specs.type_definitions.Statements.{target_reading}
use Rattle.machine.specs.type_definitions.Gathered.{indicated, declared_number, in_subprogram, in_visible, in_hidden}
use Rattle.machine.specs.type_definitions.Declarations.{first_number}
use Rattle.machine.specs.typed_tree.Trees.{TypedTree, TypedCode, typed_code_list}
use Rattle.machine.specs.typed_tree.Trees as typed
use Rattle.machine.specs.typed_tree.Expressions.{Site, typed_expression, typed_first, typed_optional}
use Rattle.machine.specs.typed_tree.Statements.{scope_count, typed_object, type_read, predefined_call, call_of, typed_call, returned_type, bounds_seen, array_seen, range_of, typed_range, plain_statements, statements, typed_body}
use Rattle.machine.specs.typed_tree.Programs.{TypedSub, placed, subs_in, over_units}
use Rattle.machine.specs.typed_tree.Programs as programs
use Rattle.settled_types.proofs.OrderLaws.ScopeLaws.Lists.{all_both}
use Rattle.sound_files.specs.TypedFiles.LoweredLaws.Lowers.{literals}
use Rattle.sound_files.specs.TypedFiles.LoweredFiles.Code.{code_literals}
use Rattle.sound_files.specs.TypedFiles.LoweredSources.Words.{IsWord, AreWords}
use Rattle.sound_files.proofs.TypedFiles.LoweredSources.Readings.{HasWords, HasWordsAll, seen_words}
use Rattle.sound_files.proofs.TypedFiles.LoweredSources.Trees.{no_words, both_words, expression_words, actuals_words, first_words, optional_words}

abbrev Worded : TypedCode → Type 0
Worded c = AreWords (code_literals c)

abbrev AllWorded : List TypedCode → Type 0
AllWorded cs = AllByRecursion Worded cs

both : (cs ds : List TypedCode) → AllWorded cs → AllWorded ds → AllWorded (cs ++ ds)
both cs ds h g = all_both Worded cs ds h g

list_worded : (cs : List TypedCode) → AllWorded cs → Worded (typed_code_list cs)
unfolding code_literals
list_worded [] all = no_words
list_worded (c ∷ cs) all = both_words (code_literals c) (code_literals (typed_code_list cs)) all.0 (list_worded cs all.1)

abbrev BothWords : TypedTree × TypedTree → Type 0
BothWords b = AreWords (literals b.0) × AreWords (literals b.1)

module _ (s : Site) (words : HasWordsAll s.context.known) where
  expression : (want : ℕ) (e : Tree) → AreWords (literals (typed_expression s want e))
  expression want e = expression_words s words e want

  first : (want : ℕ) (e : Tree) → AreWords (literals (typed_first s want e))
  first want e = first_words s words e want

  optional : (want : ℕ) (e : Tree) → AreWords (literals (typed_optional s want e))
  optional want e = optional_words s words want e

  single : (e : TypedTree) → AreWords (literals e) → AreWords (literals (typed.More e typed.NoMore))
  unfolding literals
  single e h = both_words (literals e) [] h no_words

  objects_worded : (v : TypedTree) (ids : List Code) → AreWords (literals v) → AllWorded (map (typed_object s v) ids)
  unfolding code_literals
  objects_worded v [] h = tt
  objects_worded v (d ∷ ids) h = (h, objects_worded v ids h)

  predefined_worded : (p : Pos) (which : Predefined) (args : Tree) → Worded (predefined_call s p which args)
  unfolding code_literals literals
  predefined_worded p predefined.Put args = single (typed_first s integer args) (first integer args)
  predefined_worded p predefined.PutLine args = single (typed_first s integer args) (first integer args)
  predefined_worded p predefined.NewLine args = no_words
  predefined_worded p predefined.Get args = first integer args
  predefined_worded p predefined.EndOfFile args = no_words
  predefined_worded p predefined.Deallocation args = no_words

  call_worded : (p : Pos) (d : ℕ) (e : Entry) (rest : Tree) → Worded (call_of s p d e rest)
  unfolding code_literals
  call_worded p d (entry.Subprogram profile) rest = actuals_words s words d rest
  call_worded p d (entry.Instance t) rest = first t (call_arguments rest)
  call_worded p d (entry.Predefined which) rest = predefined_worded p which (call_arguments rest)
  call_worded p d _ rest = no_words

  named_worded : (x : Tree) → Worded (typed_call s x)
  unfolding code_literals
  named_worded (Named p d rest) = call_worded p d (entry_of s.context.known d) rest
  named_worded _ = no_words

  one_word : (n : ℕ) → IsWord n → AreWords (n ∷ [])
  one_word n is m (inl same) = subst IsWord same is
  one_word n is m (inr never) = absurd never

  bounds_words : (v : View) → HasWords v → BothWords (bounds_seen v)
  unfolding literals
  bounds_words (view.Whole low high) is = (no_words, no_words)
  bounds_words (view.Listed low high) is = (one_word low is.0, one_word high is.1)
  bounds_words (view.Elements low high of) is = (no_words, no_words)
  bounds_words _ is = (no_words, no_words)

  array_has : (d : ℕ) (r : Reading) → HasWords (array_seen s.context d r)
  array_has d (reading.Place t) = seen_words s.context words t
  array_has d _ = seen_words s.context words d

  array_words : (e : Tree) → BothWords (range_of s.context e)
  array_words (Named p d rest) = bounds_words (array_seen s.context d (reading_of s.context d rest)) (array_has d (reading_of s.context d rest))
  array_words _ = bounds_words view.Hidden tt

  range_words : (range : Code) → BothWords (typed_range s range)
  range_words (Bounds low high) = (expression integer low, expression integer high)
  range_words (Constrained m low high) = (expression integer low, expression integer high)
  range_words (Marked m) = bounds_words (full s.context.known.table (marked s.context.known m)) (words.types (marked s.context.known m))
  range_words (RangeOf e) = array_words e
  range_words _ = bounds_words view.Hidden tt

  plain_worded : (c : Code) → AllWorded (plain_statements s c)
  unfolding code_literals literals
  plain_worded (Objects ids constant i v) =
      objects_worded (typed_optional s (indicated s.context.known (first_number ids) i) v) (code_items ids) (optional (indicated s.context.known (first_number ids) i) v)
  plain_worded (Numbers ids e) =
      objects_worded (typed.More (typed_expression s integer e) typed.NoMore) (code_items ids) (single (typed_expression s integer e) (expression integer e))
  plain_worded (Skip p) = (no_words, tt)
  plain_worded (Assign target e) =
      let want : ℕ = type_read (target_reading s.context target) in
      (both_words (literals (typed_expression s want e)) (literals (typed_expression s integer target)) (expression want e) (expression integer target), tt)
  plain_worded (Call name) = (named_worded name, tt)
  plain_worded (Exit p when) = (optional boolean when, tt)
  plain_worded (Return p v) = (optional (returned_type s.context s.context.sub) v, tt)
  plain_worded _ = tt

  headed : (e : TypedTree) (c : TypedCode) → AreWords (literals e) → Worded c → AreWords (literals e ++ code_literals c)
  headed e c h g = both_words (literals e) (code_literals c) h g

  statements_worded : (n : ℕ) (c : Code) → AllWorded (statements s n c)
  unfolding statements code_literals
  statements_worded n (If p branches otherwise) =
      let a : TypedCode = typed_code_list (statements s n branches) in
      let b : TypedCode = typed_code_list (statements s (n + scope_count branches) otherwise) in (
        both_words (code_literals a) (code_literals b) (list_worded (statements s n branches) (statements_worded n branches))
            (list_worded (statements s (n + scope_count branches) otherwise) (statements_worded (n + scope_count branches) otherwise)),
        tt,
      )
  statements_worded n (Branch p e stmts) =
      (headed (typed_expression s boolean e) (typed_code_list (statements s n stmts)) (expression boolean e) (list_worded (statements s n stmts) (statements_worded n stmts)), tt)
  statements_worded n (Case p e whens) =
      (headed (typed_expression s integer e) (typed_code_list (statements s n whens)) (expression integer e) (list_worded (statements s n whens) (statements_worded n whens)), tt)
  statements_worded n (When choices stmts) = (list_worded (statements s n stmts) (statements_worded n stmts), tt)
  statements_worded n (Loop p stmts) = (list_worded (statements s n stmts) (statements_worded n stmts), tt)
  statements_worded n (While p e stmts) =
      (headed (typed_expression s boolean e) (typed_code_list (statements s n stmts)) (expression boolean e) (list_worded (statements s n stmts) (statements_worded n stmts)), tt)
  statements_worded n (For p d reversed range stmts) =
      let low : TypedTree = (typed_range s range).0 in
      let high : TypedTree = (typed_range s range).1 in
      let body : List TypedCode = statements s (n + 1) stmts in (
        both_words (literals low ++ literals high) (code_literals (typed_code_list body))
            (both_words (literals low) (literals high) (range_words range).0 (range_words range).1) (list_worded body (statements_worded (n + 1) stmts)),
        tt,
      )
  statements_worded n (Block p items stmts end) =
      let xs : List TypedCode = statements s (n + 1) items in
      let ys : List TypedCode = statements s (n + 1 + scope_count items) stmts in
      (list_worded (xs ++ ys) (both xs ys (statements_worded (n + 1) items) (statements_worded (n + 1 + scope_count items) stmts)), tt)
  statements_worded n (More a rest) =
      both (statements s n a) (statements s (n + scope_count a) rest) (statements_worded n a) (statements_worded (n + scope_count a) rest)
  statements_worded n c = plain_worded c

  body_worded : (n : ℕ) (items stmts : Code) → Worded (typed_body s n items stmts)
  body_worded n items stmts =
      let xs : List TypedCode = statements s n items in
      let ys : List TypedCode = statements s (n + scope_count items) stmts in
      list_worded (xs ++ ys) (both xs ys (statements_worded n items) (statements_worded (n + scope_count items) stmts))

-- ---- subprograms

abbrev pub IsWordedSub : TypedSub → Type 0
IsWordedSub sub = Worded sub.body

subs_worded : (s : Site) → HasWordsAll s.context.known → (n : ℕ) (u : Code) → AllByRecursion IsWordedSub (subs_in s n u)
unfolding subs_in
subs_worded s words n (SubBody front items stmts end) = (body_worded (placed (in_subprogram front) s) words (n + 1) items stmts, tt)
subs_worded s words n (PackageBody d parts) = subs_worded (placed (in_hidden (declared_number d)) s) words n parts
subs_worded s words n (More a rest) =
    all_both IsWordedSub (subs_in s n a) (subs_in s (n + scope_count a) rest) (subs_worded s words n a) (subs_worded s words (n + scope_count a) rest)
subs_worded s words n u = tt

elaborated_worded : (s : Site) → HasWordsAll s.context.known → (n : ℕ) (u : Code) → AllWorded (programs.elaborated s n u)
elaborated_worded s words n (Package d visible hidden) =
    let outer : Site = placed (in_visible (declared_number d)) s in
    let inner : Site = placed (in_hidden (declared_number d)) s in
    both (statements outer n visible) (statements inner (n + scope_count visible) hidden) (statements_worded outer words n visible)
    (statements_worded inner words (n + scope_count visible) hidden)
elaborated_worded s words n (PackageBody d parts) = statements_worded (placed (in_hidden (declared_number d)) s) words n parts
elaborated_worded s words n u = tt

over : {A : Type 0} (P : A → Type 0) (f : ℕ → Code → List A) → ((n : ℕ) (u : Code) → AllByRecursion P (f n u)) → (n : ℕ) (us : List Code)
    → AllByRecursion P (over_units f n us)
over P f each n [] = tt
over P f each n (u ∷ us) = all_both P (f n u) (over_units f (n + scope_count u) us) (each n u) (over P f each (n + scope_count u) us)

-- Those of all subprograms of a program.
pub all_worded : (s : Site) → HasWordsAll s.context.known → (us : List Code) → AllByRecursion IsWordedSub (programs.elaboration s us ∷ over_units (subs_in s) 1 us)
all_worded s words us = (
  list_worded (over_units (programs.elaborated s) 1 us) (over Worded (programs.elaborated s) (λ n u. elaborated_worded s words n u) 1 us),
  over IsWordedSub (subs_in s) (λ n u. subs_worded s words n u) 1 us,
)
