-- What code declares is known as no formal, and formals belong to no package.
use Rattle.std.proofs.Common.{◌≡◌, refl, sym, ap, ◌∙◌, subst, ◌⊎◌, inl, inr, ℕ, zero, suc, ◌+◌, Bool, true, false, not, ◌&&◌, List, [], ◌∷◌, ◌++◌, map, flat_map, get_or, nat_eq, arith, None, is_some}
use Rattle.std.specs.List.{position_or_len, AllByRecursion}
use Rattle.std.proofs.lemmas.Bool.{false≢true}
use Rattle.machine.specs.spark_base.Lists.{Has}
use Rattle.machine.specs.spark_base.declared.position.Pos.{Pos}
use Rattle.machine.specs.place_names.declared.act.Mode.{Mode}
use Rattle.machine.specs.place_names.declared.act.Mode.TheVariants as mode
use Rattle.soundness.proofs.Lists.{Has-append_cases, Has-append_left, Has-append_right}
use Rattle.machine.specs.resolved_tree.Trees.{Tree, Named, Code, Objects, Numbers, Formals, SubBody, Package, PackageBody, If, Branch, Case, When, Loop, While, For, Block, Call, More, Program, code_items}
use Rattle.machine.specs.type_definitions.declared.table.Entry.{Entry}
use Rattle.machine.specs.type_definitions.declared.table.Entry.TheVariants as entry
use Rattle.machine.specs.type_definitions.declared.table.Kind.{Kind}
use Rattle.machine.specs.type_definitions.declared.table.Predefined.TheVariants as predefined
use Rattle.machine.specs.type_definitions.declared.table.Known.{Known}
use Rattle.machine.specs.type_definitions.Entries.{entry_of}
use Rattle.machine.specs.type_definitions.Names.{Context}
use Rattle.machine.specs.type_definitions.Gathered.{declared_number, declared_text, object_kind, in_subprogram, in_visible, in_hidden}
use Rattle.machine.specs.type_definitions.Whole.{outside, known_of}
use Rattle.machine.specs.typed_tree.declared.object.ObjectKind.{ObjectKind}
use Rattle.machine.specs.typed_tree.Trees.{TypedTree, TypedCode, typed_code_list}
use Rattle.machine.specs.typed_tree.Expressions.{Site, object_number}
use Rattle.machine.specs.typed_tree.Statements.{scope_count, statements, typed_object, typed_call, call_of}
use Rattle.machine.specs.typed_tree.Programs.{kind_of, entry_kind, TypedSub, DeclaredObject, Home, object_of, formals_of, front_formals, objects_in, local, in_package, package_text, program_objects, text_io, placed, subs_in, over_units, elaborated, site_of, typed_program}
use Rattle.machine.specs.flow_paths.Laid.{declared_within}
use Rattle.machine.specs.flow_paths.Objects.{object_at, is_formal, is_formal_kind, is_state, is_package_object}
use Rattle.settled_types.proofs.Cases.{items_end, on_more}
use Rattle.sound_files.specs.MeantFiles.Typed.{IsOf, AreIndicated, AreIntegers, AreTyped}
use Rattle.sound_files.proofs.MeantFiles.Objects.{object_numbers, units_same}
use Rattle.settled_types.proofs.OrderLaws.ScopeLaws.Lists.{all_both}
use Rattle.settled_types.specs.OrderLaws.Orderly.{typed_of, typing_in}
use Rattle.sound_files.proofs.Kinded.{program_kinded}
use Rattle.sound_files.proofs.Known.{kind_at}

-- It is the object of a declaration among these, which is known as none of a formal.
abbrev Found : Site → Known → List ℕ → ℕ → Type 0
Found s known ns x = (d : ℕ) × (x ≡ object_number s d) × Has ns d × (is_formal_kind (entry_kind (entry_of known d)) ≡ false)

left : (s : Site) (known : Known) (ns ms : List ℕ) (x : ℕ) → Found s known ns x → Found s known (ns ++ ms) x
left s known ns ms x f = (f.0, f.1, Has-append_left ns ms f.0 f.2, f.3)

right : (s : Site) (known : Known) (ns ms : List ℕ) (x : ℕ) → Found s known ms x → Found s known (ns ++ ms) x
right s known ns ms x f = (f.0, f.1, Has-append_right ns ms f.0 f.2, f.3)

-- ---- code

abbrev declares : List TypedCode → List ℕ
declares cs = declared_within (typed_code_list cs)

declared_both : (cs ds : List TypedCode) (x : ℕ) → Has (declares (cs ++ ds)) x → Has (declares cs) x ⊎ Has (declares ds) x
unfolding declared_within
declared_both [] ds x has = inr has
declared_both (c ∷ cs) ds x has = elim (Has-append_cases (declared_within c) (declares (cs ++ ds)) x has) [
  | inl here ↦ inl (Has-append_left (declared_within c) (declares cs) x here)
  | inr more ↦ elim (declared_both cs ds x more) [
    | inl first ↦ inl (Has-append_right (declared_within c) (declares cs) x first)
    | inr second ↦ inr second
  ]
]

alone : (xs : List ℕ) (x : ℕ) → Has (xs ++ []) x → Has xs x
alone xs x has = elim (Has-append_cases xs [] x has) [ inl here ↦ here | inr none ↦ absurd none ]

-- a call declares nothing
calls_none : (s : Site) (p : Pos) (d : ℕ) (e : Entry) (rest : Tree) (x : ℕ) → Has (declared_within (call_of s p d e rest)) x → ⊥
unfolding declared_within
calls_none s p d (entry.Subprogram profile) rest x has = has
calls_none s p d (entry.Instance t) rest x has = has
calls_none s p d (entry.Predefined predefined.Put) rest x has = has
calls_none s p d (entry.Predefined predefined.PutLine) rest x has = has
calls_none s p d (entry.Predefined predefined.NewLine) rest x has = has
calls_none s p d (entry.Predefined predefined.Get) rest x has = has
calls_none s p d (entry.Predefined predefined.EndOfFile) rest x has = has
calls_none s p d (entry.Predefined predefined.Deallocation) rest x has = has
calls_none s p d _ rest x has = has

call_none : (s : Site) (name : Tree) (x : ℕ) → Has (declared_within (typed_call s name)) x → ⊥
unfolding declared_within
call_none s (Named p d rest) x has = calls_none s p d (entry_of s.context.known d) rest x has
call_none s _ x has = has

not_formal : (known : Known) (d t : ℕ) (k : Kind) → IsOf known d t k → is_formal_kind (kind_of k) ≡ false → is_formal_kind (entry_kind (entry_of known d)) ≡ false
not_formal known d t k is none = ap is_formal_kind (ap entry_kind is.1 ∙ ap kind_of is.3) ∙ none

either_kind : (constant : Bool) → is_formal_kind (kind_of (object_kind constant)) ≡ false
either_kind true = refl
either_kind false = refl

module _ (made : ℕ → Type 0) where
  ids_found : (s : Site) (known : Known) (constant : Bool) (i ids : Code) (v : TypedTree) → AreIndicated known made constant i ids → (x : ℕ)
      → Has (declares (map (typed_object s v) (code_items ids))) x → Found s known (map declared_number (code_items ids)) x
  unfolding declared_within
  ids_found s known constant i (More d rest) v typed x (inl same) =
      (declared_number d, sym same, inl refl, not_formal known (declared_number d) _ _ typed.0 (either_kind constant))
  ids_found s known constant i (More d rest) v typed x (inr has) =
      (let f = ids_found s known constant i rest v typed.2 x has in (f.0, f.1, inr f.2, f.3))
  ids_found s known constant i ids v typed x has = absurd has

  numbers_found : (s : Site) (known : Known) (ids : Code) (v : TypedTree) → AreIntegers known ids → (x : ℕ)
      → Has (declares (map (typed_object s v) (code_items ids))) x → Found s known (map declared_number (code_items ids)) x
  unfolding declared_within
  numbers_found s known (More d rest) v typed x (inl same) = (declared_number d, sym same, inl refl, not_formal known (declared_number d) _ _ typed.0 refl)
  numbers_found s known (More d rest) v typed x (inr has) = (let f = numbers_found s known rest v typed.1 x has in (f.0, f.1, inr f.2, f.3))
  numbers_found s known ids v typed x has = absurd has

  both_found : (s : Site) (known : Known) (ns ms : List ℕ) (cs ds : List TypedCode) → ((x : ℕ) → Has (declares cs) x → Found s known ns x)
      → ((x : ℕ) → Has (declares ds) x → Found s known ms x) → (x : ℕ) → Has (declares (cs ++ ds)) x → Found s known (ns ++ ms) x
  both_found s known ns ms cs ds f g x has = elim (declared_both cs ds x has) [
    | inl here ↦ left s known ns ms x (f x here)
    | inr more ↦ right s known ns ms x (g x more)
  ]

  code_found : (s : Site) (n : ℕ) (c : Context) (code : Code) → AreTyped made c code → (x : ℕ) → Has (declares (statements s n code)) x → Found s c.known (object_numbers code) x
  unfolding statements AreTyped declared_within
  code_found s n c (Objects ids constant i v) typed x has = ids_found s c.known constant i ids _ typed x has
  code_found s n c (Numbers ids e) typed x has = numbers_found s c.known ids _ typed x has
  code_found s n c (If p branches otherwise) typed x has =
      let inside : Has (declares (statements s n branches) ++ declares (statements s (n + scope_count branches) otherwise)) x =
      alone (declares (statements s n branches) ++ declares (statements s (n + scope_count branches) otherwise)) x has in
      elim (Has-append_cases (declares (statements s n branches)) (declares (statements s (n + scope_count branches) otherwise)) x inside) [
        | inl here ↦ left s c.known (object_numbers branches) (object_numbers otherwise) x (code_found s n c branches typed.0 x here)
        | inr more ↦ right s c.known (object_numbers branches) (object_numbers otherwise) x (code_found s (n + scope_count branches) c otherwise typed.1 x more)
      ]
  code_found s n c (Branch p e stmts) typed x has = code_found s n c stmts typed x (alone (declares (statements s n stmts)) x has)
  code_found s n c (Case p e whens) typed x has = code_found s n c whens typed x (alone (declares (statements s n whens)) x has)
  code_found s n c (When choices stmts) typed x has = code_found s n c stmts typed x (alone (declares (statements s n stmts)) x has)
  code_found s n c (Loop p stmts) typed x has = code_found s n c stmts typed x (alone (declares (statements s n stmts)) x has)
  code_found s n c (While p e stmts) typed x has = code_found s n c stmts typed x (alone (declares (statements s n stmts)) x has)
  code_found s n c (For p d reversed range stmts) typed x has =
      let inside : Has (object_number s (declared_number d) ∷ declares (statements s (n + 1) stmts)) x = alone (object_number s (declared_number d) ∷ declares (statements s (n + 1) stmts)) x has in
      elim inside [
        | inl same ↦ (declared_number d, sym same, inl refl, not_formal c.known (declared_number d) _ _ typed.0 refl)
        | inr more ↦ (let f = code_found s (n + 1) c stmts typed.1 x more in (f.0, f.1, inr f.2, f.3))
      ]
  code_found s n c (Block p items stmts end) typed x has =
      both_found s c.known (object_numbers items) (object_numbers stmts) (statements s (n + 1) items) (statements s (n + 1 + scope_count items) stmts)
      (code_found s (n + 1) c items typed.0) (code_found s (n + 1 + scope_count items) c stmts typed.1) x
      (alone (declares (statements s (n + 1) items ++ statements s (n + 1 + scope_count items) stmts)) x has)
  code_found s n c (More a rest) typed x has =
      both_found s c.known (object_numbers a) (object_numbers rest) (statements s n a) (statements s (n + scope_count a) rest)
      (code_found s n c a typed.0) (code_found s (n + scope_count a) c rest typed.1) x has
  code_found s n c (Call name) typed x has = absurd (call_none s name x (alone (declared_within (typed_call s name)) x has))
  code_found s n c _ typed x has = absurd has

  -- ---- subprograms

  body_found : (s : Site) (n : ℕ) (c : Context) (items stmts : Code) → AreTyped made c items → AreTyped made c stmts → (x : ℕ)
      → Has (declares (statements s n items ++ statements s (n + scope_count items) stmts)) x → Found s c.known (object_numbers items ++ object_numbers stmts) x
  body_found s n c items stmts first second x has =
      both_found s c.known (object_numbers items) (object_numbers stmts) (statements s n items) (statements s (n + scope_count items) stmts)
      (code_found s n c items first) (code_found s (n + scope_count items) c stmts second) x has

  sub_found : (s : Site) (n : ℕ) (c : Context) (u : Code) (sub : TypedSub) → AreTyped made c u → Has (subs_in s n u) sub → (x : ℕ) → Has (declared_within sub.body) x
      → Found s c.known (object_numbers u) x
  unfolding subs_in AreTyped
  sub_found s n c (SubBody front items stmts end) sub typed (inl same) x has =
      right s c.known _ (object_numbers items ++ object_numbers stmts) x
      (body_found (placed (in_subprogram front) s) (n + 1) (in_subprogram front c) items stmts typed.1 typed.2 x
      (subst (λ (z : TypedSub). Has (declared_within z.body) x) (sym same) has))
  sub_found s n c (SubBody front items stmts end) sub typed (inr never) x has = absurd never
  sub_found s n c (PackageBody d parts) sub typed among x has =
      sub_found (placed (in_hidden (declared_number d)) s) n (in_hidden (declared_number d) c) parts sub typed among x has
  sub_found s n c (More a rest) sub typed among x has = elim (Has-append_cases (subs_in s n a) (subs_in s (n + scope_count a) rest) sub among) [
    | inl here ↦ left s c.known (object_numbers a) (object_numbers rest) x (sub_found s n c a sub typed.0 here x has)
    | inr more ↦ right s c.known (object_numbers a) (object_numbers rest) x (sub_found s (n + scope_count a) c rest sub typed.1 more x has)
  ]
  sub_found s n c u sub typed among x has = absurd among

  units_found : (s : Site) (n : ℕ) (c : Context) (units : List Code) (sub : TypedSub) → ((u : Code) → Has units u → AreTyped made c u) → Has (over_units (subs_in s) n units) sub
      → (x : ℕ) → Has (declared_within sub.body) x → Found s c.known (flat_map object_numbers units) x
  units_found s n c [] sub typed among x has = absurd among
  units_found s n c (u ∷ rest) sub typed among x has = elim (Has-append_cases (subs_in s n u) (over_units (subs_in s) (n + scope_count u) rest) sub among) [
    | inl here ↦ left s c.known (object_numbers u) (flat_map object_numbers rest) x (sub_found s n c u sub (typed u (inl refl)) here x has)
    | inr more ↦ right s c.known (object_numbers u) (flat_map object_numbers rest) x (units_found s (n + scope_count u) c rest sub (λ v there. typed v (inr there)) more x has)
  ]

  -- ---- package objects

  unit_found : (s : Site) (n : ℕ) (c : Context) (u : Code) → AreTyped made c u → (x : ℕ) → Has (declares (elaborated s n u)) x → Found s c.known (object_numbers u) x
  unfolding AreTyped declared_within
  unit_found s n c (Package d visible hidden) typed x has =
      both_found s c.known (object_numbers visible) (object_numbers hidden) (statements (placed (in_visible (declared_number d)) s) n visible)
      (statements (placed (in_hidden (declared_number d)) s) (n + scope_count visible) hidden)
      (code_found (placed (in_visible (declared_number d)) s) n (in_visible (declared_number d) c) visible typed.0)
      (code_found (placed (in_hidden (declared_number d)) s) (n + scope_count visible) (in_hidden (declared_number d) c) hidden typed.1) x has
  unit_found s n c (PackageBody d parts) typed x has = code_found (placed (in_hidden (declared_number d)) s) n (in_hidden (declared_number d) c) parts typed x has
  unit_found s n c _ typed x has = absurd has

  all_found : (s : Site) (n : ℕ) (c : Context) (units : List Code) → ((u : Code) → Has units u → AreTyped made c u) → (x : ℕ) → Has (declares (over_units (elaborated s) n units)) x
      → Found s c.known (flat_map object_numbers units) x
  unfolding declared_within
  all_found s n c [] typed x has = absurd has
  all_found s n c (u ∷ rest) typed x has =
      both_found s c.known (object_numbers u) (flat_map object_numbers rest) (elaborated s n u) (over_units (elaborated s) (n + scope_count u) rest)
      (unit_found s n c u (typed u (inl refl))) (all_found s (n + scope_count u) c rest (λ v there. typed v (inr there))) x has

-- ---- packages

-- A formal belongs to no package.
abbrev IsSorted : DeclaredObject → Type 0
IsSorted o = is_formal_kind o.object.kind ≡ true → o.object.«package» ≡ None

no_formal : (k : ObjectKind) → is_formal_kind k ≡ false → is_formal_kind k ≡ true → ⊥
no_formal k none is = (let no : false ≡ true = sym none ∙ is in absurd (false≢true no))

module _ (units : List Code) (made : ℕ → Type 0) where
  abbrev AreSorted : List DeclaredObject → Type 0
  AreSorted os = AllByRecursion IsSorted os

  both : (xs ys : List DeclaredObject) → AreSorted xs → AreSorted ys → AreSorted (xs ++ ys)
  both xs ys h g = all_both IsSorted xs ys h g

  other_sorted : (h : Home) (known : Known) → h.known ≡ known → (a : ℕ) (m : Mode) (d : Code) → is_formal_kind (entry_kind (entry_of known (declared_number d))) ≡ false
      → IsSorted (object_of h a m d)
  other_sorted h known same a m d none is =
      absurd (no_formal (entry_kind (entry_of h.known (declared_number d))) (ap (λ (k : Known). is_formal_kind (entry_kind (entry_of k (declared_number d)))) same ∙ none) is)

  ids_sorted : (h : Home) (known : Known) → h.known ≡ known → (a : ℕ) (constant : Bool) (i ids : Code) → AreIndicated known made constant i ids
      → AreSorted (map (object_of h a mode.In) (code_items ids))
  ids_sorted h known same a constant i = on_more (λ ids. AreIndicated known made constant i ids → AreSorted (map (object_of h a mode.In) (code_items ids)))
      (λ d rest next typed.
      (other_sorted h known same a mode.In d (not_formal known (declared_number d) _ _ typed.0 (either_kind constant)), next typed.2))
      (λ ids other typed. rw (items_end ids other) (tt))

  numbers_sorted : (h : Home) (known : Known) → h.known ≡ known → (a : ℕ) (ids : Code) → AreIntegers known ids → AreSorted (map (object_of h a mode.In) (code_items ids))
  numbers_sorted h known same a = on_more (λ ids. AreIntegers known ids → AreSorted (map (object_of h a mode.In) (code_items ids)))
      (λ d rest next typed.
      (other_sorted h known same a mode.In d (not_formal known (declared_number d) _ _ typed.0 refl), next typed.1))
      (λ ids other typed. rw (items_end ids other) (tt))

  -- formals stand within a subprogram
  items_sorted : (h : Home) → h.identifier ≡ None → (a : ℕ) (m : Mode) (ds : List Code) → AreSorted (map (object_of h a m) ds)
  items_sorted h outside a m [] = tt
  items_sorted h outside a m (d ∷ ds) = ((λ is. outside), items_sorted h outside a m ds)

  formals_sorted : (h : Home) → h.identifier ≡ None → (a : ℕ) (groups : List Code) → AreSorted (flat_map (formals_of h a) groups)
  formals_sorted h outside a [] = tt
  formals_sorted h outside a (g ∷ groups) =
      both (formals_of h a g) (flat_map (formals_of h a) groups) (group g) (formals_sorted h outside a groups)
    where
      group : (g : Code) → AreSorted (formals_of h a g)
      group (Formals ids m of) = items_sorted h outside a m (code_items ids)
      group g = tt

  objects_sorted : (h : Home) (c : Context) → h.known ≡ c.known → (a n : ℕ) (code : Code) → AreTyped made c code → AreSorted (objects_in units h a n code)
  unfolding objects_in AreTyped
  objects_sorted h c same a n (Objects ids constant i v) typed = ids_sorted h c.known same a constant i ids typed
  objects_sorted h c same a n (Numbers ids e) typed = numbers_sorted h c.known same a ids typed
  objects_sorted h c same a n (SubBody front items stmts end) typed =
      let fs : List DeclaredObject = flat_map (formals_of (local h) n) (front_formals front) in
      let first : List DeclaredObject = objects_in units (local h) n (n + 1) items in
      let second : List DeclaredObject = objects_in units (local h) n (n + 1 + scope_count items) stmts in
      both (fs ++ first) second
      (both fs first (formals_sorted (local h) refl n (front_formals front)) (objects_sorted (local h) (in_subprogram front c) same n (n + 1) items typed.1))
      (objects_sorted (local h) (in_subprogram front c) same n (n + 1 + scope_count items) stmts typed.2)
  objects_sorted h c same a n (Package d visible hidden) typed =
      both (objects_in units (in_package (declared_text d) h) a n visible) (objects_in units (in_package (declared_text d) h) a (n + scope_count visible) hidden)
      (objects_sorted (in_package (declared_text d) h) (in_visible (declared_number d) c) same a n visible typed.0)
      (objects_sorted (in_package (declared_text d) h) (in_hidden (declared_number d) c) same a (n + scope_count visible) hidden typed.1)
  objects_sorted h c same a n (PackageBody d parts) typed =
      objects_sorted (in_package (package_text units (declared_number d)) h) (in_hidden (declared_number d) c) same a n parts typed
  objects_sorted h c same a n (If p x y) typed =
      both (objects_in units h a n x) (objects_in units h a (n + scope_count x) y) (objects_sorted h c same a n x typed.0) (objects_sorted h c same a (n + scope_count x) y typed.1)
  objects_sorted h c same a n (Branch p e x) typed = objects_sorted h c same a n x typed
  objects_sorted h c same a n (Case p e x) typed = objects_sorted h c same a n x typed
  objects_sorted h c same a n (When choices x) typed = objects_sorted h c same a n x typed
  objects_sorted h c same a n (Loop p x) typed = objects_sorted h c same a n x typed
  objects_sorted h c same a n (While p e x) typed = objects_sorted h c same a n x typed
  objects_sorted h c same a n (For p d reversed range x) typed =
      (other_sorted h c.known same n mode.In d (not_formal c.known (declared_number d) _ _ typed.0 refl), objects_sorted h c same n (n + 1) x typed.1)
  objects_sorted h c same a n (Block p x y end) typed =
      both (objects_in units h n (n + 1) x) (objects_in units h n (n + 1 + scope_count x) y) (objects_sorted h c same n (n + 1) x typed.0)
      (objects_sorted h c same n (n + 1 + scope_count x) y typed.1)
  objects_sorted h c same a n (More x y) typed =
      both (objects_in units h a n x) (objects_in units h a (n + scope_count x) y) (objects_sorted h c same a n x typed.0) (objects_sorted h c same a (n + scope_count x) y typed.1)
  objects_sorted h c same a n _ typed = tt

  units_sorted : (h : Home) (c : Context) → h.known ≡ c.known → (n : ℕ) (us : List Code) → ((u : Code) → Has us u → AreTyped made c u) → AreSorted (over_units (objects_in units h 0) n us)
  units_sorted h c same n [] typed = tt
  units_sorted h c same n (u ∷ us) typed =
      both (objects_in units h 0 n u) (over_units (objects_in units h 0) (n + scope_count u) us) (objects_sorted h c same 0 n u (typed u (inl refl)))
      (units_sorted h c same (n + scope_count u) us (λ v there. typed v (inr there)))

sorted_at : (os : List DeclaredObject) → AllByRecursion IsSorted os → (x : ℕ) → is_formal_kind (get_or (map (λ (o : DeclaredObject). o.object) os) x text_io).kind ≡ true
    → (get_or (map (λ (o : DeclaredObject). o.object) os) x text_io).«package» ≡ None
sorted_at [] all x is = (let no : false ≡ true = is in absurd (false≢true no))
sorted_at (o ∷ os) all zero is = all.0 is
sorted_at (o ∷ os) all (suc x) is = sorted_at os all.1 x is

-- ---- the program

module _ (p : Program) where
  known_other : (d : ℕ) → Has (flat_map object_numbers p.units) d → is_formal_kind (entry_kind (entry_of (known_of p) d)) ≡ false
      → is_formal (typing_in p) (object_number (site_of (known_of p) p.units) d) ≡ false
  unfolding typed_program
  known_other d has is =
      let os : List DeclaredObject = program_objects (known_of p) p.units in
      let at : ℕ = position_or_len (nat_eq d) (map (λ (o : DeclaredObject). o.number) os) in
      let next : suc at ≡ at + 1 = omega arith in
      let there = subst (λ ns. Has ns d) (sym (units_same p.units (record { known = known_of p; identifier = None }) 1 p.units)) has in
      subst (λ i. is_formal_kind (get_or (text_io ∷ map (λ (o : DeclaredObject). o.object) os) i text_io).kind ≡ false) next
      (ap is_formal_kind (kind_at (known_of p) d os (program_kinded (known_of p) p.units) there) ∙ is)

  -- What is declared is no formal.
  pub declared_known : (made : ℕ → Type 0) → ((u : Code) → Has p.units u → AreTyped made (outside (known_of p)) u) → (sub : TypedSub) → Has (typed_of p).subs sub
      → (x : ℕ) → Has (declared_within sub.body) x → is_formal (typing_in p) x ≡ false
  unfolding typed_program
  declared_known made typed sub (inl same) x has =
      let f = all_found made (site_of (known_of p) p.units) 1 (outside (known_of p)) p.units typed x (subst (λ (z : TypedSub). Has (declared_within z.body) x) (sym same) has) in
      subst (λ y. is_formal (typing_in p) y ≡ false) (sym f.1) (known_other f.0 f.2 f.3)
  declared_known made typed sub (inr among) x has =
      let f = units_found made (site_of (known_of p) p.units) 1 (outside (known_of p)) p.units sub typed among x has in
      subst (λ y. is_formal (typing_in p) y ≡ false) (sym f.1) (known_other f.0 f.2 f.3)

  -- A formal belongs to no package.
  pub formals_apart : (made : ℕ → Type 0) → ((u : Code) → Has p.units u → AreTyped made (outside (known_of p)) u) → (x : ℕ) → is_formal (typing_in p) x ≡ true
      → is_package_object (typing_in p) x ≡ false
  unfolding typed_program
  formals_apart made typed zero is = (let no : false ≡ true = is in absurd (false≢true no))
  formals_apart made typed (suc x) is =
      let os : List DeclaredObject = program_objects (known_of p) p.units in
      let none = sorted_at os (units_sorted p.units made (record { known = known_of p; identifier = None }) (outside (known_of p)) refl 1 p.units typed) x is in
      ap (λ z. is_some z && not (is_state (object_at (typing_in p) (suc x)).kind)) none
