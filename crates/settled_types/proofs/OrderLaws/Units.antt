-- The subprograms of typed programs: their objects are those of a part of the program.
use Rattle.std.proofs.Common.{◌≡◌, refl, sym, ap, ◌∙◌, inl, inr, ℕ, ◌+◌, Bool, true, false, ◌&&◌, ◌||◌, nat_eq, List, [], ◌∷◌, ◌++◌, map, None}
use Rattle.std.specs.Prelude.{flat_map}
use Rattle.std.specs.List.{AllByRecursion, position_or_len}
use Rattle.std.proofs.lemmas.List.{append_assoc}
use Rattle.std.proofs.lemmas.Bool.{false≢true}
use Rattle.machine.specs.spark_base.Lists.{Has}
use Rattle.spark_base.proofs.Lists.{Has-append_cases}
use Rattle.machine.specs.spark_base.declared.position.Pos.{Pos}
use Rattle.machine.specs.resolved_tree.Trees.{Code, Incomplete, Private, TypeDecl, Subtype, ConstrainedSubtype, Objects, Numbers, Instance, Formals, SubDecl, SubBody, Package, PackageBody, NoMore, More, code_items}
use Rattle.machine.specs.place_names.declared.act.Mode.{Mode}
use Rattle.machine.specs.place_names.declared.act.Mode.TheVariants as mode
use Rattle.machine.specs.type_definitions.Gathered.{in_hidden, in_subprogram, declared_number}
use Rattle.machine.specs.typed_tree.Expressions.{Site, object_number}
use Rattle.machine.specs.flow_paths.Laid.{declared_within}
use Rattle.machine.specs.typed_tree.Statements.{scope_count, typed_body}
use Rattle.machine.specs.typed_tree.Programs.{TypedSub, DeclaredObject, Home, objects_in, object_of, formals_of, front_formals, local, in_package, package_text, typed_sub, subs_in, placed, over_units}
use Rattle.settled_types.specs.OrderLaws.ScopeLaws.Code as code
use Rattle.settled_types.proofs.OrderLaws.ScopeLaws.Lists.{and_first, and_second, all_both}
use Rattle.settled_types.specs.OrderLaws.Written.{is_declaration, are_declarations, are_statements, is_body, are_parts, is_procedure, is_unit}
use Rattle.settled_types.proofs.OrderLaws.Grammar.{on_declarations, StatementLaws, on_statements}
use Rattle.settled_types.proofs.OrderLaws.Numbers.{numbers, body_same, formals_same}
use Rattle.settled_types.proofs.OrderLaws.Parts.{IsPart, part_whole, part_left, part_right}

-- ---- objects of no package

abbrev pub IsLocal : DeclaredObject → Type 0
IsLocal o = o.object.«package» ≡ None

module _ (units : List Code) (h : Home) (outside : h.identifier ≡ None) where
  abbrev AreLocal : List DeclaredObject → Type 0
  AreLocal os = AllByRecursion IsLocal os

  each_local : (a : ℕ) (m : Mode) (ids : List Code) → AreLocal (map (object_of h a m) ids)
  each_local a m [] = tt
  each_local a m (d ∷ ids) = (outside, each_local a m ids)

  both : (os us : List DeclaredObject) → AreLocal os → AreLocal us → AreLocal (os ++ us)
  both os us x y = all_both IsLocal os us x y

  declaration_local : (a n : ℕ) (c : Code) → is_declaration c ≡ true → AreLocal (objects_in units h a n c)
  unfolding objects_in
  declaration_local a n (Objects ids constant i v) e = each_local a mode.In (code_items ids)
  declaration_local a n (Numbers ids v) e = each_local a mode.In (code_items ids)
  declaration_local a n (Incomplete d) e = tt
  declaration_local a n (Private d) e = tt
  declaration_local a n (TypeDecl d def end) e = tt
  declaration_local a n (Subtype d m) e = tt
  declaration_local a n (ConstrainedSubtype d m low high) e = tt
  declaration_local a n (Instance d m args) e = tt
  declaration_local a n (SubDecl front) e = tt
  declaration_local a n NoMore e = tt
  declaration_local a n _ e = absurd (false≢true e)

  pub declarations_local : (a n : ℕ) (c : Code) → are_declarations c ≡ true → AreLocal (objects_in units h a n c)
  unfolding objects_in
  declarations_local a n c e =
      on_declarations (λ c. (n : ℕ) → AreLocal (objects_in units h a n c))
      (λ c rest one more n. both (objects_in units h a n c) (objects_in units h a (n + scope_count c) rest) (declaration_local a n c one) (more (n + scope_count c)))
      (λ n. tt) c e n

  abbrev IsLocalCode : Bool → Code → Type 0
  IsLocalCode looped c = (a n : ℕ) → AreLocal (objects_in units h a n c)

  list_local : (looped : Bool) (c rest : Code) → IsLocalCode looped c → IsLocalCode looped rest → IsLocalCode looped (More c rest)
  unfolding objects_in
  list_local looped c rest one more a n = both (objects_in units h a n c) (objects_in units h a (n + scope_count c) rest) (one a n) (more a (n + scope_count c))

  local_laws : StatementLaws IsLocalCode IsLocalCode IsLocalCode IsLocalCode
  unfolding objects_in
  local_laws = record {
    list = list_local;
    none = λ looped a n. tt;
    skip = λ looped p a n. tt;
    assign = λ looped target v a n. tt;
    call = λ looped name a n. tt;
    exit = λ looped p when e a n. tt;
    return = λ looped p v a n. tt;
    choice = λ looped p branches otherwise one more a n.
        both (objects_in units h a n branches) (objects_in units h a (n + scope_count branches) otherwise) (one a n) (more a (n + scope_count branches));
    cases = λ looped p v whens one. one;
    loop = λ looped p stmts one. one;
    while = λ looped p v stmts one. one;
    for = λ looped p d reversed range stmts one a n. (outside, one n (n + 1));
    block = λ looped p items stmts end declares one a n.
        both (objects_in units h n (n + 1) items) (objects_in units h n (n + 1 + scope_count items) stmts) (declarations_local n (n + 1) items declares) (one n (n + 1 + scope_count items));
    branches = list_local;
    no_branches = λ looped a n. tt;
    branch = λ looped p v stmts one. one;
    alternatives = list_local;
    no_alternatives = λ looped a n. tt;
    alternative = λ looped choices stmts one. one;
    no_alternative = λ looped a n. tt;
  }

  pub statements_local : (a n : ℕ) (looped : Bool) (c : Code) → are_statements looped c ≡ true → AreLocal (objects_in units h a n c)
  statements_local a n looped c e = on_statements local_laws looped c e a n

  group_local : (a : ℕ) (g : Code) → AreLocal (formals_of h a g)
  group_local a (Formals ids m of) = each_local a m (code_items ids)
  group_local a _ = tt

  pub formals_local : (a : ℕ) (groups : List Code) → AreLocal (flat_map (formals_of h a) groups)
  formals_local a [] = tt
  formals_local a (g ∷ groups) = both (formals_of h a g) (flat_map (formals_of h a) groups) (group_local a g) (formals_local a groups)

-- ---- bodies

-- A subprogram is the typed one of a body as the grammar has it, and its objects are among some.
pub record IsBodyOf (units : List Code) (s : Site) (all : List DeclaredObject) (sub : TypedSub) : Type 0 where
  pub site : Site
  pub same : site.objects ≡ s.objects
  pub scope : ℕ
  pub front : Code
  pub items : Code
  pub stmts : Code
  pub end : Pos
  pub is : typed_sub site scope front items stmts end ≡ sub
  pub declarations : are_declarations items ≡ true
  pub statements : are_statements false stmts ≡ true
  pub home : Home
  pub around : ℕ
  pub next : ℕ
  pub part : IsPart (objects_in units home around next (SubBody front items stmts end)) all

module _ (units : List Code) where
  -- with more objects
  more_left : (s : Site) (all more : List DeclaredObject) (sub : TypedSub) → IsBodyOf units s all sub → IsBodyOf units s (all ++ more) sub
  more_left s all more sub b = record {
    site = b.site;
    same = b.same;
    scope = b.scope;
    front = b.front;
    items = b.items;
    stmts = b.stmts;
    end = b.end;
    is = b.is;
    declarations = b.declarations;
    statements = b.statements;
    home = b.home;
    around = b.around;
    next = b.next;
    part = part_left (objects_in units b.home b.around b.next (SubBody b.front b.items b.stmts b.end)) all more b.part;
  }

  more_right : (s : Site) (all before : List DeclaredObject) (sub : TypedSub) → IsBodyOf units s all sub → IsBodyOf units s (before ++ all) sub
  more_right s all before sub b = record {
    site = b.site;
    same = b.same;
    scope = b.scope;
    front = b.front;
    items = b.items;
    stmts = b.stmts;
    end = b.end;
    is = b.is;
    declarations = b.declarations;
    statements = b.statements;
    home = b.home;
    around = b.around;
    next = b.next;
    part = part_right (objects_in units b.home b.around b.next (SubBody b.front b.items b.stmts b.end)) all before b.part;
  }

  pub body_of : (s site : Site) (h : Home) (a n m : ℕ) (front items stmts : Code) (end : Pos) → site.objects ≡ s.objects → are_declarations items && are_statements false stmts ≡ true
      → (sub : TypedSub) → Has (typed_sub site n front items stmts end ∷ []) sub → IsBodyOf units s (objects_in units h a m (SubBody front items stmts end)) sub
  body_of s site h a n m front items stmts end same e sub (inr never) = absurd never
  body_of s site h a n m front items stmts end same e sub (inl is) = record {
    site = site;
    same = same;
    scope = n;
    front = front;
    items = items;
    stmts = stmts;
    end = end;
    is = is;
    declarations = and_first (are_declarations items) (are_statements false stmts) e;
    statements = and_second (are_declarations items) (are_statements false stmts) e;
    home = h;
    around = a;
    next = m;
    part = part_whole (objects_in units h a m (SubBody front items stmts end));
  }

  -- the parts of the body of a package
  one_part : (s site : Site) (h : Home) (a n m : ℕ) (c : Code) → site.objects ≡ s.objects → is_declaration c || is_body c ≡ true
      → (sub : TypedSub) → Has (subs_in site n c) sub → IsBodyOf units s (objects_in units h a m c) sub
  unfolding subs_in
  one_part s site h a n m (SubBody front items stmts end) same e sub has = body_of s site h a n m front items stmts end same e sub has
  one_part s site h a n m (Objects ids constant i v) same e sub has = absurd has
  one_part s site h a n m (Numbers ids v) same e sub has = absurd has
  one_part s site h a n m (Incomplete d) same e sub has = absurd has
  one_part s site h a n m (Private d) same e sub has = absurd has
  one_part s site h a n m (TypeDecl d def end) same e sub has = absurd has
  one_part s site h a n m (Subtype d mark) same e sub has = absurd has
  one_part s site h a n m (ConstrainedSubtype d mark low high) same e sub has = absurd has
  one_part s site h a n m (Instance d mark args) same e sub has = absurd has
  one_part s site h a n m (SubDecl front) same e sub has = absurd has
  one_part s site h a n m NoMore same e sub has = absurd has
  one_part s site h a n m _ same e sub has = absurd (false≢true e)

  parts_of : (s site : Site) (h : Home) (a n m : ℕ) (c : Code) → site.objects ≡ s.objects → are_parts c ≡ true
      → (sub : TypedSub) → Has (subs_in site n c) sub → IsBodyOf units s (objects_in units h a m c) sub
  unfolding subs_in objects_in are_parts
  parts_of s site h a n m (More c rest) same e sub has = elim (Has-append_cases (subs_in site n c) (subs_in site (n + scope_count c) rest) sub has) [
    | inl here ↦ more_left s (objects_in units h a m c) (objects_in units h a (m + scope_count c) rest) sub
        (one_part s site h a n m c same (and_first (is_declaration c || is_body c) (are_parts rest) e) sub here)
    | inr later ↦ more_right s (objects_in units h a (m + scope_count c) rest) (objects_in units h a m c) sub
        (parts_of s site h a (n + scope_count c) (m + scope_count c) rest same (and_second (is_declaration c || is_body c) (are_parts rest) e) sub later)
  ]
  parts_of s site h a n m NoMore same e sub has = absurd has
  parts_of s site h a n m _ same e sub has = absurd (false≢true e)

  unit_of : (s : Site) (h : Home) (a n m : ℕ) (c : Code) → is_unit c ≡ true → (sub : TypedSub) → Has (subs_in s n c) sub → IsBodyOf units s (objects_in units h a m c) sub
  unfolding subs_in objects_in
  unit_of s h a n m (SubBody front items stmts end) e sub has =
      body_of s s h a n m front items stmts end refl (and_second (is_procedure front) (are_declarations items && are_statements false stmts) e) sub has
  unit_of s h a n m (Package d visible hidden) e sub has = absurd has
  unit_of s h a n m (PackageBody d parts) e sub has = parts_of s (placed (in_hidden (declared_number d)) s) (in_package (package_text units (declared_number d)) h) a n m parts refl e sub has
  unit_of s h a n m _ e sub has = absurd (false≢true e)

  pub units_of : (s : Site) (h : Home) (n m : ℕ) (us : List Code) → ((u : Code) → Has us u → is_unit u ≡ true)
      → (sub : TypedSub) → Has (over_units (subs_in s) n us) sub → IsBodyOf units s (over_units (objects_in units h 0) m us) sub
  units_of s h n m [] written sub has = absurd has
  units_of s h n m (u ∷ us) written sub has = elim (Has-append_cases (subs_in s n u) (over_units (subs_in s) (n + scope_count u) us) sub has) [
    | inl here ↦ more_left s (objects_in units h 0 m u) (over_units (objects_in units h 0) (m + scope_count u) us) sub
        (unit_of s h 0 n m u (written u (inl refl)) sub here)
    | inr later ↦ more_right s (over_units (objects_in units h 0) (m + scope_count u) us) (objects_in units h 0 m u) sub
        (units_of s h (n + scope_count u) (m + scope_count u) us (λ v there. written v (inr there)) sub later)
  ]

  -- Its objects, and those of the body.
  pub body_objects : (s : Site) (all : List DeclaredObject) (sub : TypedSub) (b : IsBodyOf units s all sub)
      → (os : List DeclaredObject) × (code.objects_of sub ≡ numbers s os) × IsPart os all × AllByRecursion IsLocal os
  unfolding objects_in
  body_objects s all sub b =
      let h : Home = local b.home in
      let formals : List DeclaredObject = flat_map (formals_of h b.next) (front_formals b.front) in
      let first : List DeclaredObject = objects_in units h b.next (b.next + 1) b.items in
      let second : List DeclaredObject = objects_in units h b.next (b.next + 1 + scope_count b.items) b.stmts in
      let inner_same = body_same (placed (in_subprogram b.front) b.site) units h b.next (b.scope + 1) (b.next + 1) b.items b.stmts b.declarations b.statements in
      let formals_are = formals_same b.site units h b.next (front_formals b.front) in (
        (formals ++ first) ++ second,
        ap code.objects_of (sym b.is) ∙ ap (λ xs. xs ++ declared_within (typed_body (placed (in_subprogram b.front) b.site) (b.scope + 1) b.items b.stmts)) formals_are
            ∙ ap (λ xs. numbers b.site formals ++ xs) inner_same ∙ sym (numbers_append b.site formals (first ++ second))
            ∙ ap (numbers b.site) (sym (append_assoc formals first second)) ∙ same_site b.site ((formals ++ first) ++ second) b.same,
        b.part,
        all_both IsLocal (formals ++ first) second
            (all_both IsLocal formals first (formals_local units h refl b.next (front_formals b.front)) (declarations_local units h refl b.next (b.next + 1) b.items b.declarations))
            (statements_local units h refl b.next (b.next + 1 + scope_count b.items) false b.stmts b.statements),
      )
    where
      numbers_append : (z : Site) (os us : List DeclaredObject) → numbers z (os ++ us) ≡ numbers z os ++ numbers z us
      numbers_append z [] us = refl
      numbers_append z (o ∷ os) us = ap (λ xs. object_number z o.number ∷ xs) (numbers_append z os us)

      same_site : (z : Site) (os : List DeclaredObject) → z.objects ≡ s.objects → numbers z os ≡ numbers s os
      same_site z os e = ap (λ xs. map (λ (o : DeclaredObject). position_or_len (nat_eq o.number) xs + 1) os) e
