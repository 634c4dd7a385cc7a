-- The objects of a body have numbers of their own, where each declaration of an object has one.
use Rattle.std.proofs.Common.{◌≡◌, refl, sym, ap, ◌∙◌, ℕ, ◌+◌, Bool, true, false, List, [], ◌∷◌, ◌++◌, map, append-nil}
use Rattle.std.specs.Prelude.{flat_map}
use Rattle.std.proofs.lemmas.List.{append_assoc}
use Rattle.std.proofs.lemmas.Bool.{false≢true}
use Rattle.machine.specs.place_names.declared.act.Mode.{Mode}
use Rattle.machine.specs.place_names.declared.act.Mode.TheVariants as mode
use Rattle.machine.specs.resolved_tree.Trees.{Tree, Code, Incomplete, Private, TypeDecl, Subtype, ConstrainedSubtype, Objects, Numbers, Instance, Formals, SubDecl, Package, If, Branch, Case, When, Loop, While, For, Block, NoMore, More, code_items}
use Rattle.machine.specs.resolved_tree.Trees as resolved
use Rattle.machine.specs.type_definitions.declared.table.Entry.{Entry}
use Rattle.machine.specs.type_definitions.declared.table.Entry.TheVariants as entry
use Rattle.machine.specs.type_definitions.declared.table.Predefined.{Predefined}
use Rattle.machine.specs.type_definitions.declared.table.Predefined.TheVariants as predefined
use Rattle.machine.specs.type_definitions.Entries.{entry_of, integer, boolean}
use Rattle.machine.specs.type_definitions.Expressions.{call_arguments}
use Rattle.machine.specs.type_definitions.Gathered.{declared_number}
use Rattle.machine.specs.typed_tree.Trees.{TypedTree, TypedCode, typed_code_list}
use Rattle.machine.specs.typed_tree.Trees as typed
use Rattle.machine.specs.typed_tree.Expressions.{Site, object_number, typed_expression}
use Rattle.machine.specs.typed_tree.Statements.{scope_count, statements, typed_object, typed_call, call_of, predefined_call, typed_range, typed_choices, typed_body}
use Rattle.machine.specs.typed_tree.Programs.{DeclaredObject, Home, objects_in, object_of, formals_of, formal_numbers}
use Rattle.machine.specs.flow_paths.Laid.{declared_within}
use Rattle.settled_types.specs.OrderLaws.Written.{is_declaration, are_declarations, are_statements}
use Rattle.settled_types.proofs.OrderLaws.Grammar.{on_declarations, StatementLaws, on_statements}

-- ---- the numbers of declarations

module _ (s : Site) where
  -- the numbers of some objects
  abbrev pub numbers : List DeclaredObject → List ℕ
  numbers os = map (λ (o : DeclaredObject). object_number s o.number) os

  pub numbers_both : (os us : List DeclaredObject) → numbers (os ++ us) ≡ numbers os ++ numbers us
  numbers_both [] us = refl
  numbers_both (o ∷ os) us = ap (λ xs. object_number s o.number ∷ xs) (numbers_both os us)

  -- What statements declare.
  abbrev pub declared_in : List TypedCode → List ℕ
  declared_in cs = declared_within (typed_code_list cs)

  declared_both : (cs ds : List TypedCode) → declared_in (cs ++ ds) ≡ declared_in cs ++ declared_in ds
  unfolding declared_within
  declared_both [] ds = refl
  declared_both (c ∷ cs) ds =
      ap (λ xs. declared_within c ++ xs) (declared_both cs ds) ∙ sym (append_assoc (declared_within c) (declared_in cs) (declared_in ds))

  declared_one : (c : TypedCode) → declared_in (c ∷ []) ≡ declared_within c
  unfolding declared_within
  declared_one c = append-nil (declared_within c)

  pub two : (cs ds : List TypedCode) (os us : List DeclaredObject) → declared_in cs ≡ numbers os → declared_in ds ≡ numbers us
      → declared_in (cs ++ ds) ≡ numbers (os ++ us)
  two cs ds os us h g = declared_both cs ds ∙ ap (λ xs. xs ++ declared_in ds) h ∙ ap (λ xs. numbers os ++ xs) g ∙ sym (numbers_both os us)

  objects_declared : (h : Home) (a : ℕ) (m : Mode) (v : TypedTree) (ids : List Code) → declared_in (map (typed_object s v) ids) ≡ numbers (map (object_of h a m) ids)
  unfolding declared_within
  objects_declared h a m v [] = refl
  objects_declared h a m v (d ∷ ids) = ap (λ xs. object_number s (declared_number d) ∷ xs) (objects_declared h a m v ids)

  call_declared : (name : Tree) → declared_within (typed_call s name) ≡ []
  unfolding declared_within
  call_declared (resolved.Named p d rest) = by_entry (entry_of s.context.known d)
    where
      by_predefined : (which : Predefined) → declared_within (predefined_call s p which (call_arguments rest)) ≡ []
      by_predefined predefined.Put = refl
      by_predefined predefined.PutLine = refl
      by_predefined predefined.NewLine = refl
      by_predefined predefined.Get = refl
      by_predefined predefined.EndOfFile = refl
      by_predefined predefined.Deallocation = refl

      by_entry : (e : Entry) → declared_within (call_of s p d e rest) ≡ []
      by_entry (entry.Subprogram profile) = refl
      by_entry (entry.Instance t) = refl
      by_entry (entry.Predefined which) = by_predefined which
      by_entry (entry.Object o) = refl
      by_entry (entry.Literal t n) = refl
      by_entry entry.Type = refl
      by_entry entry.Nothing = refl
      by_entry entry.Package = refl
  call_declared _ = refl

  -- ---- code

  module _ (units : List Code) (h : Home) where
    -- What typed code declares is what the resolved code declares.
    abbrev IsSame : ℕ → ℕ → ℕ → Code → Type 0
    IsSame a n m c = declared_in (statements s n c) ≡ numbers (objects_in units h a m c)

    pub one_declaration : (a n m : ℕ) (c : Code) → is_declaration c ≡ true → IsSame a n m c
    unfolding statements objects_in declared_within
    one_declaration a n m (Objects ids constant i v) e = objects_declared h a mode.In _ (code_items ids)
    one_declaration a n m (Numbers ids v) e = objects_declared h a mode.In _ (code_items ids)
    one_declaration a n m (Incomplete d) e = refl
    one_declaration a n m (Private d) e = refl
    one_declaration a n m (TypeDecl d def end) e = refl
    one_declaration a n m (Subtype d mark) e = refl
    one_declaration a n m (ConstrainedSubtype d mark low high) e = refl
    one_declaration a n m (Instance d mark args) e = refl
    one_declaration a n m (SubDecl front) e = refl
    one_declaration a n m NoMore e = refl
    one_declaration a n m _ e = absurd (false≢true e)

    pub declarations_same : (a n m : ℕ) (c : Code) → are_declarations c ≡ true → IsSame a n m c
    unfolding statements objects_in declared_within
    declarations_same a n m c e =
        on_declarations (λ c. (n m : ℕ) → IsSame a n m c)
        (λ c rest one more n m. two (statements s n c) (statements s (n + scope_count c) rest) (objects_in units h a m c) (objects_in units h a (m + scope_count c) rest)
        (one_declaration a n m c one) (more (n + scope_count c) (m + scope_count c)))
        (λ n m. refl) c e n m

    alone : (c : TypedCode) (xs : List ℕ) → declared_within c ≡ xs → declared_in (c ∷ []) ≡ xs
    alone c xs e = declared_one c ∙ e

    abbrev IsSameCode : Bool → Code → Type 0
    IsSameCode looped c = (a n m : ℕ) → IsSame a n m c

    list_same : (looped : Bool) (c rest : Code) → IsSameCode looped c → IsSameCode looped rest → IsSameCode looped (More c rest)
    unfolding statements objects_in declared_within
    list_same looped c rest one more a n m =
        two (statements s n c) (statements s (n + scope_count c) rest) (objects_in units h a m c) (objects_in units h a (m + scope_count c) rest)
        (one a n m) (more a (n + scope_count c) (m + scope_count c))

    same_laws : StatementLaws IsSameCode IsSameCode IsSameCode IsSameCode
    unfolding statements objects_in declared_within
    same_laws = record {
      list = list_same;
      none = λ looped a n m. refl;
      skip = λ looped p a n m. refl;
      assign = λ looped target v a n m. refl;
      call = λ looped name a n m. alone (typed_call s name) [] (call_declared name);
      exit = λ looped p when e a n m. refl;
      return = λ looped p v a n m. refl;
      choice = λ looped p branches otherwise one more a n m.
          alone (typed.If (typed_code_list (statements s n branches)) (typed_code_list (statements s (n + scope_count branches) otherwise)))
          (numbers (objects_in units h a m branches ++ objects_in units h a (m + scope_count branches) otherwise))
          (ap (λ xs. xs ++ declared_in (statements s (n + scope_count branches) otherwise)) (one a n m)
          ∙ ap (λ xs. numbers (objects_in units h a m branches) ++ xs) (more a (n + scope_count branches) (m + scope_count branches))
          ∙ sym (numbers_both (objects_in units h a m branches) (objects_in units h a (m + scope_count branches) otherwise)));
      cases = λ looped p v whens one a n m.
          alone (typed.Case p (typed_expression s integer v) (typed_code_list (statements s n whens))) (numbers (objects_in units h a m whens)) (one a n m);
      loop = λ looped p stmts one a n m. alone (typed.Loop (typed_code_list (statements s n stmts))) (numbers (objects_in units h a m stmts)) (one a n m);
      while = λ looped p v stmts one a n m.
          alone (typed.While p (typed_expression s boolean v) (typed_code_list (statements s n stmts))) (numbers (objects_in units h a m stmts)) (one a n m);
      for = λ looped p d reversed range stmts one a n m.
          alone (typed.For p (object_number s (declared_number d)) reversed (typed_range s range).0 (typed_range s range).1 (typed_code_list (statements s (n + 1) stmts)))
          (object_number s (declared_number d) ∷ numbers (objects_in units h m (m + 1) stmts))
          (ap (λ xs. object_number s (declared_number d) ∷ xs) (one m (n + 1) (m + 1)));
      block = λ looped p items stmts end declares one a n m.
          alone (typed.Block n (typed_code_list (statements s (n + 1) items ++ statements s (n + 1 + scope_count items) stmts)) end)
          (numbers (objects_in units h m (m + 1) items ++ objects_in units h m (m + 1 + scope_count items) stmts))
          (two (statements s (n + 1) items) (statements s (n + 1 + scope_count items) stmts) (objects_in units h m (m + 1) items)
          (objects_in units h m (m + 1 + scope_count items) stmts) (declarations_same m (n + 1) (m + 1) items declares) (one m (n + 1 + scope_count items) (m + 1 + scope_count items)));
      branches = list_same;
      no_branches = λ looped a n m. refl;
      branch = λ looped p v stmts one a n m.
          alone (typed.Branch p (typed_expression s boolean v) (typed_code_list (statements s n stmts))) (numbers (objects_in units h a m stmts)) (one a n m);
      alternatives = list_same;
      no_alternatives = λ looped a n m. refl;
      alternative = λ looped choices stmts one a n m.
          alone (typed.When (typed_choices s.context choices) (typed_code_list (statements s n stmts))) (numbers (objects_in units h a m stmts)) (one a n m);
      no_alternative = λ looped a n m. refl;
    }

    pub statements_same : (a n m : ℕ) (looped : Bool) (c : Code) → are_statements looped c ≡ true → IsSame a n m c
    statements_same a n m looped c e = on_statements same_laws looped c e a n m

    pub body_same : (a n m : ℕ) (items stmts : Code) → are_declarations items ≡ true → are_statements false stmts ≡ true
        → declared_within (typed_body s n items stmts) ≡ numbers (objects_in units h a m items ++ objects_in units h a (m + scope_count items) stmts)
    body_same a n m items stmts e f =
        two (statements s n items) (statements s (n + scope_count items) stmts) (objects_in units h a m items) (objects_in units h a (m + scope_count items) stmts)
        (declarations_same a n m items e) (statements_same a (n + scope_count items) (m + scope_count items) false stmts f)

    -- ---- formals

    group_same : (a : ℕ) (g : Code) → formal_numbers s g ≡ numbers (formals_of h a g)
    group_same a (Formals ids m of) = each (code_items ids)
      where
        each : (ids : List Code) → map (λ d. object_number s (declared_number d)) ids ≡ numbers (map (object_of h a m) ids)
        each [] = refl
        each (d ∷ ids) = ap (λ xs. object_number s (declared_number d) ∷ xs) (each ids)
    group_same a _ = refl

    pub formals_same : (a : ℕ) (groups : List Code) → flat_map (formal_numbers s) groups ≡ numbers (flat_map (formals_of h a) groups)
    formals_same a [] = refl
    formals_same a (g ∷ groups) =
        ap (λ xs. xs ++ flat_map (formal_numbers s) groups) (group_same a g)
        ∙ ap (λ xs. numbers (formals_of h a g) ++ xs) (formals_same a groups)
        ∙ sym (numbers_both (formals_of h a g) (flat_map (formals_of h a) groups))
