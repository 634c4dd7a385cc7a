-- The objects of all subprograms with a body are those of one part of the program: no object is one of two
-- subprograms.
use Rattle.std.proofs.Common.{◌≡◌, refl, sym, ap, ◌∙◌, inl, inr, ℕ, ◌+◌, true, false, ◌&&◌, ◌||◌, List, [], ◌∷◌, ◌++◌, append-nil}
use Rattle.std.specs.Prelude.{flat_map}
use Rattle.std.proofs.lemmas.List.{append_assoc}
use Rattle.std.proofs.lemmas.Bool.{false≢true}
use Rattle.machine.specs.spark_base.Lists.{Has}
use Rattle.machine.specs.spark_base.declared.position.Pos.{Pos}
use Rattle.machine.specs.resolved_tree.Trees.{Code, Incomplete, Private, TypeDecl, Subtype, ConstrainedSubtype, Objects, Numbers, Instance, SubDecl, SubBody, Package, PackageBody, NoMore, More}
use Rattle.machine.specs.type_definitions.Gathered.{in_hidden, declared_number}
use Rattle.machine.specs.typed_tree.Expressions.{Site}
use Rattle.machine.specs.typed_tree.Statements.{scope_count}
use Rattle.machine.specs.typed_tree.Programs.{TypedSub, DeclaredObject, Home, objects_in, in_package, package_text, typed_sub, subs_in, placed, over_units}
use Rattle.settled_types.specs.OrderLaws.ScopeLaws.Code as code
use Rattle.settled_types.proofs.OrderLaws.ScopeLaws.Lists.{and_first, and_second}
use Rattle.settled_types.specs.OrderLaws.Written.{is_declaration, are_declarations, are_statements, is_body, are_parts, is_procedure, is_unit}
use Rattle.settled_types.proofs.OrderLaws.Numbers.{numbers, numbers_both}
use Rattle.settled_types.proofs.OrderLaws.Parts.{IsPart, part_none, part_both}
use Rattle.settled_types.proofs.OrderLaws.Units.{body_of, body_objects}

-- The objects of some subprograms, one after the other, are a part of some.
abbrev pub AreOf : Site → List DeclaredObject → List TypedSub → Type 0
AreOf s all subs = (os : List DeclaredObject) × (flat_map code.objects_of subs ≡ numbers s os) × IsPart os all

none : (s : Site) (all : List DeclaredObject) → AreOf s all []
none s all = ([], refl, part_none all)

objects_both : (xs ys : List TypedSub) → flat_map code.objects_of (xs ++ ys) ≡ flat_map code.objects_of xs ++ flat_map code.objects_of ys
objects_both [] ys = refl
objects_both (x ∷ xs) ys =
    ap (λ zs. code.objects_of x ++ zs) (objects_both xs ys) ∙ sym (append_assoc (code.objects_of x) (flat_map code.objects_of xs) (flat_map code.objects_of ys))

both : (s : Site) (all more : List DeclaredObject) (xs ys : List TypedSub) → AreOf s all xs → AreOf s more ys → AreOf s (all ++ more) (xs ++ ys)
both s all more xs ys (os, is, part) (us, are, rest) =
    (os ++ us, objects_both xs ys ∙ ap (λ z. z ++ flat_map code.objects_of ys) is ∙ ap (λ z. numbers s os ++ z) are ∙ sym (numbers_both s os us), part_both os all us more part rest)

nothing_more : (xs : List ℕ) → xs ++ [] ≡ xs
nothing_more xs = append-nil xs

module _ (units : List Code) where
  one_body : (s site : Site) (h : Home) (a n m : ℕ) (front items stmts : Code) (end : Pos) → site.objects ≡ s.objects → are_declarations items && are_statements false stmts ≡ true
      → AreOf s (objects_in units h a m (SubBody front items stmts end)) (typed_sub site n front items stmts end ∷ [])
  one_body s site h a n m front items stmts end same e =
      let sub : TypedSub = typed_sub site n front items stmts end in
      let found = body_objects units s (objects_in units h a m (SubBody front items stmts end)) sub (body_of units s site h a n m front items stmts end same e sub (inl refl)) in
      (found.0, nothing_more (code.objects_of sub) ∙ found.1, found.2)

  -- the parts of the body of a package
  one_part : (s site : Site) (h : Home) (a n m : ℕ) (c : Code) → site.objects ≡ s.objects → is_declaration c || is_body c ≡ true
      → AreOf s (objects_in units h a m c) (subs_in site n c)
  unfolding subs_in
  one_part s site h a n m (SubBody front items stmts end) same e = one_body s site h a n m front items stmts end same e
  one_part s site h a n m (Objects ids constant i v) same e = none s (objects_in units h a m (Objects ids constant i v))
  one_part s site h a n m (Numbers ids v) same e = none s (objects_in units h a m (Numbers ids v))
  one_part s site h a n m (Incomplete d) same e = none s (objects_in units h a m (Incomplete d))
  one_part s site h a n m (Private d) same e = none s (objects_in units h a m (Private d))
  one_part s site h a n m (TypeDecl d def end) same e = none s (objects_in units h a m (TypeDecl d def end))
  one_part s site h a n m (Subtype d mark) same e = none s (objects_in units h a m (Subtype d mark))
  one_part s site h a n m (ConstrainedSubtype d mark low high) same e = none s (objects_in units h a m (ConstrainedSubtype d mark low high))
  one_part s site h a n m (Instance d mark args) same e = none s (objects_in units h a m (Instance d mark args))
  one_part s site h a n m (SubDecl front) same e = none s (objects_in units h a m (SubDecl front))
  one_part s site h a n m NoMore same e = none s (objects_in units h a m NoMore)
  one_part s site h a n m _ same e = absurd (false≢true e)

  parts_of : (s site : Site) (h : Home) (a n m : ℕ) (c : Code) → site.objects ≡ s.objects → are_parts c ≡ true → AreOf s (objects_in units h a m c) (subs_in site n c)
  unfolding subs_in objects_in are_parts
  parts_of s site h a n m (More c rest) same e =
      both s (objects_in units h a m c) (objects_in units h a (m + scope_count c) rest) (subs_in site n c) (subs_in site (n + scope_count c) rest)
      (one_part s site h a n m c same (and_first (is_declaration c || is_body c) (are_parts rest) e))
      (parts_of s site h a (n + scope_count c) (m + scope_count c) rest same (and_second (is_declaration c || is_body c) (are_parts rest) e))
  parts_of s site h a n m NoMore same e = none s []
  parts_of s site h a n m _ same e = absurd (false≢true e)

  unit_of : (s : Site) (h : Home) (a n m : ℕ) (c : Code) → is_unit c ≡ true → AreOf s (objects_in units h a m c) (subs_in s n c)
  unfolding subs_in objects_in
  unit_of s h a n m (SubBody front items stmts end) e =
      one_body s s h a n m front items stmts end refl (and_second (is_procedure front) (are_declarations items && are_statements false stmts) e)
  unit_of s h a n m (Package d visible hidden) e = none s (objects_in units h a m (Package d visible hidden))
  unit_of s h a n m (PackageBody d parts) e = parts_of s (placed (in_hidden (declared_number d)) s) (in_package (package_text units (declared_number d)) h) a n m parts refl e
  unit_of s h a n m _ e = absurd (false≢true e)

  pub units_apart : (s : Site) (h : Home) (n m : ℕ) (us : List Code) → ((u : Code) → Has us u → is_unit u ≡ true)
      → AreOf s (over_units (objects_in units h 0) m us) (over_units (subs_in s) n us)
  units_apart s h n m [] written = none s []
  units_apart s h n m (u ∷ us) written =
      both s (objects_in units h 0 m u) (over_units (objects_in units h 0) (m + scope_count u) us) (subs_in s n u) (over_units (subs_in s) (n + scope_count u) us)
      (unit_of s h 0 n m u (written u (inl refl))) (units_apart s h (n + scope_count u) (m + scope_count u) us (λ v there. written v (inr there)))
