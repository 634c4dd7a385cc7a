-- So it is in all units.
use Rattle.std.proofs.Common.{◌≡◌, refl, subst, inl, inr, ℕ, ◌+◌, Bool, true, false, ◌&&◌, ◌||◌, List, [], ◌∷◌, ◌++◌, None, true≢false}
use Rattle.std.specs.Prelude.{flat_map}
use Rattle.std.specs.List.{AllByRecursion}
use Rattle.std.proofs.lemmas.Bool.{false≢true}
use Rattle.machine.specs.spark_base.Lists.{Has}
use Rattle.machine.specs.spark_base.declared.position.Pos.{Pos}
use Rattle.machine.specs.resolved_tree.Trees.{Code, Incomplete, Private, TypeDecl, Subtype, ConstrainedSubtype, Objects, Numbers, Instance, SubDecl, SubBody, Package, PackageBody, NoMore}
use Rattle.machine.specs.type_definitions.declared.table.Known.{Known}
use Rattle.machine.specs.type_definitions.Names.{Context}
use Rattle.machine.specs.type_definitions.Gathered.{declared_number, declared_text, in_subprogram, in_visible, in_hidden}
use Rattle.machine.specs.type_definitions.Declarations.{in_package, in_body, body_faults, code_faults, front_faults}
use Rattle.machine.specs.type_definitions.Whole.{outside}
use Rattle.machine.specs.typed_tree.declared.object.Object.{Object}
use Rattle.machine.specs.typed_tree.Expressions.{Site}
use Rattle.machine.specs.typed_tree.Statements.{scope_count, statements}
use Rattle.machine.specs.typed_tree.Programs.{TypedSub, DeclaredObject, Home, objects_in, formals_of, front_formals, local, in_package as packaged, package_text, subs_in, elaborated, placed, over_units, site_of}
use Rattle.machine.specs.flow_paths.Objects.{Typing, Signature}
use Rattle.soundness.specs.TypedLaws.Fine.{Laws}
use Rattle.soundness.proofs.TypedLaws.Agreeing.{nil_left, nil_right}
use Rattle.soundness.specs.TypedLaws.TypedPoints.Meant.{IsMeantCode, AreMeantBodies, AreMeantObjects}
use Rattle.settled_types.proofs.OrderLaws.ScopeLaws.Lists.{and_first, and_second, all_both}
use Rattle.settled_types.specs.OrderLaws.Written.{is_declaration, are_declarations, are_statements, is_body, are_parts, is_procedure, is_unit}
use Rattle.sound_files.specs.MeantFiles.Denoted.{AreDenoted}
use Rattle.sound_files.specs.MeantFiles.Typed.{AreTyped}
use Rattle.accepted_runs.specs.ViewedFiles.Sources.{has_source, all_fit}
use Rattle.accepted_runs.proofs.ViewedFiles.Sources as source
use Rattle.accepted_runs.proofs.ViewedFiles.Sources.{IsLocalView, DeclaresPlain}
use Rattle.accepted_runs.proofs.ViewedFiles.Walked as walked
use Rattle.settled_types.proofs.OrderLaws.Grammar.{on_parts}

abbrev about : Site → List Object → List Signature → Typing
about s objects subs = record { table = s.context.known.table; objects = objects; subs = subs }

abbrev IsSourced : Typing → TypedSub → Type 0
IsSourced y sub = all_fit (has_source y) sub.body ≡ true

sym_both : {b : Bool} → b ≡ true → b ≡ false → true ≡ false
sym_both e f = cc

module _ (s : Site) (objects : List Object) (subs : List Signature) (made : ℕ → Type 0) (laws : Laws s.context.known made)
    (marks : source.AreMarksPlain s objects subs made laws) (units : List Code) where
  abbrev y : Typing
  y = about s objects subs

  abbrev AreLocal : List DeclaredObject → Type 0
  AreLocal os = AllByRecursion (IsLocalView s.context.known.table) os

  abbrev Rooted : Code → Type 0
  Rooted c = AreDenoted (source.IsRootFormal s objects subs made laws) c

  abbrev Bodies : ℕ → Code → Type 0
  Bodies n c = AllByRecursion (IsSourced y) (subs_in s n c)

  body_here : (h : Home) → h.known ≡ s.context.known → (a n m : ℕ) (front items stmts : Code) (end : Pos) → are_declarations items && are_statements false stmts ≡ true
      → Rooted (SubBody front items stmts end) → AreMeantBodies s y made (SubBody front items stmts end) → AreTyped made s.context (SubBody front items stmts end) → code_faults s.context (SubBody front items stmts end) ≡ []
      → Bodies n (SubBody front items stmts end) × AreLocal (objects_in units h a m (SubBody front items stmts end))
  unfolding subs_in objects_in AreDenoted AreMeantBodies AreTyped code_faults
  body_here h same a n m front items stmts end e roots meant are none =
      let inner : Site = placed (in_subprogram front) s in
      let c : Context = in_body front s.context in
      let both = nil_right (body_faults s.context front) (code_faults c items ++ code_faults c stmts) none in
      let went = walked.body_went inner objects subs made laws marks units (local h) same (λ e. refl) m (n + 1) (m + 1) items stmts
      (and_first (are_declarations items) (are_statements false stmts) e) (and_second (are_declarations items) (are_statements false stmts) e) roots.1 meant.0 meant.1 are.1 are.2
      (nil_left (code_faults c items) (code_faults c stmts) both) (nil_right (code_faults c items) (code_faults c stmts) both) in
      let fs : List DeclaredObject = flat_map (formals_of (local h) m) (front_formals front) in
      let first : List DeclaredObject = objects_in units (local h) m (m + 1) items in
      let second : List DeclaredObject = objects_in units (local h) m (m + 1 + scope_count items) stmts in
      let front_is = source.front_local s objects subs made laws marks (local h) same m front are.0
      (nil_left (front_faults s.context front) _ (nil_left (body_faults s.context front) _ none)) in (
        (went.0, tt),
        all_both (IsLocalView s.context.known.table) (fs ++ first) second (all_both (IsLocalView s.context.known.table) fs first front_is (left first second went.1)) (right first second went.1),
      )
    where
      left : (xs ys : List DeclaredObject) → AreLocal (xs ++ ys) → AreLocal xs
      left [] ys all = tt
      left (x ∷ xs) ys all = (all.0, left xs ys all.1)

      right : (xs ys : List DeclaredObject) → AreLocal (xs ++ ys) → AreLocal ys
      right [] ys all = all
      right (x ∷ xs) ys all = right xs ys all.1

  -- ---- parts of package bodies

  abbrev Went : Home → ℕ → ℕ → ℕ → Code → Type 0
  Went h a n m c = Bodies n c × AreLocal (objects_in units h a m c) × AllByRecursion (DeclaresPlain y) (statements s n c)

  -- So it is of code that is rooted, meant and typed, and breaks no rule.
  abbrev Comes : Home → ℕ → ℕ → ℕ → Code → Type 0
  Comes h a n m c = Rooted c → IsMeantCode s y made c → AreMeantBodies s y made c → AreTyped made s.context c → code_faults s.context c ≡ [] → Went h a n m c

  module _ (h : Home) (same : h.known ≡ s.context.known) (shared : in_package s.context ≡ true) (flat : s.context.in_loop ≡ false) where
    never : in_package s.context ≡ false → h.identifier ≡ None
    never none = absurd (true≢false (sym_both shared none))

    declaration_went : (a n m : ℕ) (c : Code) → is_declaration c ≡ true → IsMeantCode s y made c → AreTyped made s.context c → code_faults s.context c ≡ [] → Went h a n m c
    unfolding subs_in
    declaration_went a n m c e meant are none =
        let here : code_faults (record s.context { in_loop = false; starts = s.context.starts }) c ≡ [] = subst (λ b. code_faults (record s.context { in_loop = b; starts = s.context.starts }) c ≡ []) flat none in (
          no_bodies c e,
          (walked.one_declaration s objects subs made laws marks units h same never false a n m c e meant are here).1,
          walked.declaration_plain s objects subs made laws marks units h same never n c shared e meant here,
        )
      where
        no_bodies : (c : Code) → is_declaration c ≡ true → Bodies n c
        no_bodies (Objects ids constant i v) e = tt
        no_bodies (Numbers ids v) e = tt
        no_bodies (Incomplete d) e = tt
        no_bodies (Private d) e = tt
        no_bodies (TypeDecl d def end) e = tt
        no_bodies (Subtype d mark) e = tt
        no_bodies (ConstrainedSubtype d mark low high) e = tt
        no_bodies (Instance d mark args) e = tt
        no_bodies (SubDecl front) e = tt
        no_bodies NoMore e = tt
        no_bodies _ e = absurd (false≢true e)

    either_went : (a n m : ℕ) (b : Bool) (c : Code) → is_declaration c ≡ b → b || is_body c ≡ true → Comes h a n m c
    unfolding statements
    either_went a n m true c declares e = λ roots meant bodies are none. declaration_went a n m c declares meant are none
    either_went a n m false (SubBody front items stmts end) declares e =
        λ roots meant bodies are none. (let one = body_here h same a n m front items stmts end e roots bodies are none in (one.0, one.1, tt))
    either_went a n m false c declares e = absurd (false≢true e)

    pub parts_went : (a n m : ℕ) (c : Code) → are_parts c ≡ true → Comes h a n m c
    unfolding subs_in objects_in statements AreDenoted IsMeantCode AreMeantBodies AreTyped code_faults
    parts_went a n m c e =
        on_parts (λ c. (n m : ℕ) → Comes h a n m c)
        (λ c rest one more n m roots meant bodies are none.
        let k : ℕ = n + scope_count c in
        let l : ℕ = m + scope_count c in
        let first = either_went a n m (is_declaration c) c refl one roots.0 meant.0 bodies.0 are.0 (nil_left (code_faults s.context c) (code_faults s.context rest) none) in
        let second = more k l roots.1 meant.1 bodies.1 are.1 (nil_right (code_faults s.context c) (code_faults s.context rest) none) in (
          all_both (IsSourced y) (subs_in s n c) (subs_in s k rest) first.0 second.0,
          all_both (IsLocalView s.context.known.table) (objects_in units h a m c) (objects_in units h a l rest) first.1 second.1,
          all_both (DeclaresPlain y) (statements s n c) (statements s k rest) first.2 second.2,
        ))
        (λ n m roots meant bodies are none. (tt, tt, tt)) c e n m

    -- the declarations of a package
    pub declarations_went : (a n m : ℕ) (c : Code) → are_declarations c ≡ true → IsMeantCode s y made c → AreTyped made s.context c → code_faults s.context c ≡ []
        → AreLocal (objects_in units h a m c) × AllByRecursion (DeclaresPlain y) (statements s n c)
    declarations_went a n m c e meant are none =
        let here : code_faults (record s.context { in_loop = false; starts = s.context.starts }) c ≡ [] = subst (λ b. code_faults (record s.context { in_loop = b; starts = s.context.starts }) c ≡ []) flat none in (
          (walked.declarations_went s objects subs made laws marks units h same never false a n m c e meant are here).1,
          walked.declarations_plain s objects subs made laws marks units h same never n c shared e meant here,
        )

-- ---- units

module _ (known : Known) (units : List Code) (objects : List Object) (subs : List Signature) (made : ℕ → Type 0) (laws : Laws known made)
    (marks : source.AreMarksPlain (site_of known units) objects subs made laws) where
  abbrev s : Site
  s = site_of known units

  abbrev typing : Typing
  typing = about s objects subs

  abbrev Rooted_unit : Code → Type 0
  Rooted_unit u = AreDenoted (source.IsRootFormal s objects subs made laws) u

  abbrev Unit_went : Home → ℕ → ℕ → Code → Type 0
  Unit_went h n m u =
      AllByRecursion (IsSourced typing) (subs_in s n u) × AllByRecursion (IsLocalView known.table) (objects_in units h 0 m u) × AllByRecursion (DeclaresPlain typing) (elaborated s n u)

  abbrev Unit_comes : Home → ℕ → ℕ → Code → Type 0
  Unit_comes h n m u =
      Rooted_unit u → AreMeantBodies s typing made u → AreMeantObjects s typing made u → AreTyped made (outside known) u → code_faults (outside known) u ≡ [] → Unit_went h n m u

  unit_went : (h : Home) → h.known ≡ known → (n m : ℕ) (u : Code) → is_unit u ≡ true → Unit_comes h n m u
  unfolding subs_in objects_in AreDenoted AreMeantBodies AreTyped code_faults
  unit_went h same n m (Package d visible hidden) e =
      λ roots bodies meant are none.
      let first : Site = placed (in_visible (declared_number d)) s in
      let second : Site = placed (in_hidden (declared_number d)) s in
      let inner : Home = packaged (declared_text d) h in
      let one = declarations_went first objects subs made laws marks units inner same refl refl 0 n m visible (and_first (are_declarations visible) (are_declarations hidden) e) meant.0 are.0
      (nil_left (code_faults first.context visible) (code_faults second.context hidden) none) in
      let two = declarations_went second objects subs made laws marks units inner same refl refl 0 (n + scope_count visible) (m + scope_count visible) hidden
      (and_second (are_declarations visible) (are_declarations hidden) e) meant.1 are.1 (nil_right (code_faults first.context visible) (code_faults second.context hidden) none) in (
        tt,
        all_both (IsLocalView known.table) (objects_in units inner 0 m visible) (objects_in units inner 0 (m + scope_count visible) hidden) one.0 two.0,
        all_both (DeclaresPlain typing) (statements first n visible) (statements second (n + scope_count visible) hidden) one.1 two.1,
      )
  unit_went h same n m (PackageBody d parts) e =
      λ roots bodies meant are none.
      parts_went (placed (in_hidden (declared_number d)) s) objects subs made laws marks units (packaged (package_text units (declared_number d)) h) same refl refl 0 n m parts e roots meant bodies are none
  unit_went h same n m (SubBody front items stmts end) e =
      λ roots bodies meant are none.
      let one = body_here s objects subs made laws marks units h same 0 n m front items stmts end
      (and_second (is_procedure front) (are_declarations items && are_statements false stmts) e) roots bodies are none in (one.0, one.1, tt)
  unit_went h same n m _ e = absurd (false≢true e)

  pub units_went : (h : Home) → h.known ≡ known → (n m : ℕ) (us : List Code) → ((u : Code) → Has us u → is_unit u ≡ true)
      → ((u : Code) → Has us u → Rooted_unit u) → ((u : Code) → Has us u → AreMeantBodies s typing made u × AreMeantObjects s typing made u) → ((u : Code) → Has us u → AreTyped made (outside known) u)
      → ((u : Code) → Has us u → code_faults (outside known) u ≡ [])
      → AllByRecursion (IsSourced typing) (over_units (subs_in s) n us) × AllByRecursion (IsLocalView known.table) (over_units (objects_in units h 0) m us)
      × AllByRecursion (DeclaresPlain typing) (over_units (elaborated s) n us)
  units_went h same n m [] written roots meant are none = (tt, tt, tt)
  units_went h same n m (u ∷ us) written roots meant are none =
      let k : ℕ = n + scope_count u in
      let l : ℕ = m + scope_count u in
      let first = unit_went h same n m u (written u (inl refl)) (roots u (inl refl)) (meant u (inl refl)).0 (meant u (inl refl)).1 (are u (inl refl)) (none u (inl refl)) in
      let second = units_went h same k l us (λ v has. written v (inr has)) (λ v has. roots v (inr has)) (λ v has. meant v (inr has)) (λ v has. are v (inr has)) (λ v has. none v (inr has)) in (
        all_both (IsSourced typing) (subs_in s n u) (over_units (subs_in s) k us) first.0 second.0,
        all_both (IsLocalView known.table) (objects_in units h 0 m u) (over_units (objects_in units h 0) l us) first.1 second.1,
        all_both (DeclaresPlain typing) (elaborated s n u) (over_units (elaborated s) k us) first.2 second.2,
      )
