-- No name in code denotes a formal of an anonymous access type, if no formal of the program is of one.
use Rattle.std.proofs.Common.{◌≡◌, refl, sym, ap, ◌∙◌, subst, inl, inr, ℕ, suc, ◌+◌, true, List, [], ◌∷◌, ◌++◌, map, flat_map}
use Rattle.std.specs.List.{AllByRecursion}
use Rattle.std.proofs.lemmas.Bool.{false≢true}
use Rattle.machine.specs.spark_base.Lists.{Has}
use Rattle.machine.specs.place_names.declared.act.Mode.{Mode}
use Rattle.machine.specs.place_names.declared.act.Mode.TheVariants as mode
use Rattle.machine.specs.resolved_tree.Trees.{Code, Objects, Numbers, Formals, SubBody, Package, PackageBody, If, Branch, Case, When, Loop, While, For, Block, More, code_items}
use Rattle.machine.specs.type_definitions.declared.table.Entry.TheVariants as entry
use Rattle.machine.specs.type_definitions.declared.table.Kind.{Kind}
use Rattle.machine.specs.type_definitions.declared.table.Kind.TheVariants as kind
use Rattle.machine.specs.type_definitions.declared.table.ObjectInfo.{ObjectInfo}
use Rattle.machine.specs.type_definitions.declared.table.Known.{Known}
use Rattle.machine.specs.type_definitions.Entries.{entry_of}
use Rattle.machine.specs.type_definitions.Statements.{is_formal_kind}
use Rattle.machine.specs.type_definitions.Gathered.{declared_number, declared_text}
use Rattle.machine.specs.typed_tree.Expressions.{Site, object_number, object_type}
use Rattle.machine.specs.typed_tree.Statements.{scope_count}
use Rattle.machine.specs.typed_tree.Programs.{DeclaredObject, Home, object_of, objects_in, formals_of, front_formals, local, in_package, package_text, kind_of, entry_kind, over_units}
use Rattle.machine.specs.flow_paths.Objects.{Typing, object_at}
use Rattle.machine.specs.flow_paths.Objects as flow
use Rattle.settled_types.proofs.OrderLaws.ScopeLaws.Lists.{all_both}
use Rattle.sound_files.specs.SeenFiles.Fits.{AllFit}
use Rattle.sound_files.specs.MeantFiles.Denoted.{AreDenoted}
use Rattle.sound_files.proofs.MeantFiles.Objects.{object_numbers, units_same}
use Rattle.sound_files.proofs.MeantFiles.Denoted.{units_denoted}
use Rattle.sound_files.proofs.SeenFiles.Entries.{is_object_entry}
use Rattle.accepted_runs.specs.ViewedFiles.Places.{AreAt}

-- ---- what is known of the objects of a program

abbrev IsKnownObject : Known → DeclaredObject → Type 0
IsKnownObject known o = (o.object.of ≡ object_type (entry_of known o.number)) × (o.object.kind ≡ entry_kind (entry_of known o.number))

each_known : (h : Home) (a : ℕ) (m : Mode) (ids : List Code) → AllByRecursion (IsKnownObject h.known) (map (object_of h a m) ids)
each_known h a m [] = tt
each_known h a m (d ∷ ids) = ((refl, refl), each_known h a m ids)

group_known : (h : Home) (a : ℕ) (g : Code) → AllByRecursion (IsKnownObject h.known) (formals_of h a g)
group_known h a (Formals ids m of) = each_known h a m (code_items ids)
group_known h a _ = tt

groups_known : (h : Home) (a : ℕ) (groups : List Code) → AllByRecursion (IsKnownObject h.known) (flat_map (formals_of h a) groups)
groups_known h a [] = tt
groups_known h a (g ∷ groups) = all_both (IsKnownObject h.known) (formals_of h a g) (flat_map (formals_of h a) groups) (group_known h a g) (groups_known h a groups)

module _ (units : List Code) where
  code_known : (h : Home) (a n : ℕ) (c : Code) → AllByRecursion (IsKnownObject h.known) (objects_in units h a n c)
  unfolding objects_in
  code_known h a n (Objects ids constant i v) = each_known h a mode.In (code_items ids)
  code_known h a n (Numbers ids e) = each_known h a mode.In (code_items ids)
  code_known h a n (SubBody front items stmts end) =
      let fs : List DeclaredObject = flat_map (formals_of (local h) n) (front_formals front) in
      let first : List DeclaredObject = objects_in units (local h) n (n + 1) items in
      all_both (IsKnownObject h.known) (fs ++ first) (objects_in units (local h) n (n + 1 + scope_count items) stmts)
      (all_both (IsKnownObject h.known) fs first (groups_known (local h) n (front_formals front)) (code_known (local h) n (n + 1) items))
      (code_known (local h) n (n + 1 + scope_count items) stmts)
  code_known h a n (Package d visible hidden) =
      let inner : Home = in_package (declared_text d) h in
      all_both (IsKnownObject h.known) (objects_in units inner a n visible) (objects_in units inner a (n + scope_count visible) hidden)
      (code_known inner a n visible) (code_known inner a (n + scope_count visible) hidden)
  code_known h a n (PackageBody d parts) = code_known (in_package (package_text units (declared_number d)) h) a n parts
  code_known h a n (If p branches otherwise) =
      all_both (IsKnownObject h.known) (objects_in units h a n branches) (objects_in units h a (n + scope_count branches) otherwise)
      (code_known h a n branches) (code_known h a (n + scope_count branches) otherwise)
  code_known h a n (Branch p e stmts) = code_known h a n stmts
  code_known h a n (Case p e whens) = code_known h a n whens
  code_known h a n (When choices stmts) = code_known h a n stmts
  code_known h a n (Loop p stmts) = code_known h a n stmts
  code_known h a n (While p e stmts) = code_known h a n stmts
  code_known h a n (For p d reversed range stmts) = ((refl, refl), code_known h n (n + 1) stmts)
  code_known h a n (Block p items stmts end) =
      all_both (IsKnownObject h.known) (objects_in units h n (n + 1) items) (objects_in units h n (n + 1 + scope_count items) stmts)
      (code_known h n (n + 1) items) (code_known h n (n + 1 + scope_count items) stmts)
  code_known h a n (More first rest) =
      all_both (IsKnownObject h.known) (objects_in units h a n first) (objects_in units h a (n + scope_count first) rest)
      (code_known h a n first) (code_known h a (n + scope_count first) rest)
  code_known h a n _ = tt

  pub units_known : (h : Home) (n : ℕ) (us : List Code) → AllByRecursion (IsKnownObject h.known) (over_units (objects_in units h 0) n us)
  units_known h n [] = tt
  units_known h n (u ∷ us) =
      all_both (IsKnownObject h.known) (objects_in units h 0 n u) (over_units (objects_in units h 0) (n + scope_count u) us) (code_known h 0 n u) (units_known h (n + scope_count u) us)

-- An object by the number of its declaration.
numbered : (s : Site) (own : Typing) (known : Known) (k : ℕ) (os : List DeclaredObject) → AreAt s own k os → AllByRecursion (IsKnownObject known) os
    → (d : ℕ) → Has (map (λ (o : DeclaredObject). o.number) os) d
    → ((object_at own (object_number s d)).of ≡ object_type (entry_of known d)) × ((object_at own (object_number s d)).kind ≡ entry_kind (entry_of known d))
numbered s own known k [] at all d has = absurd has
numbered s own known k (o ∷ os) at all d (inl same) =
    subst (λ n. ((object_at own (object_number s n)).of ≡ object_type (entry_of known n)) × ((object_at own (object_number s n)).kind ≡ entry_kind (entry_of known n))) same (
      ap (λ n. (object_at own n).of) at.0 ∙ ap (λ z. z.of) at.1 ∙ all.0.0,
      ap (λ n. (object_at own n).kind) at.0 ∙ ap (λ z. z.kind) at.1 ∙ all.0.1,
    )
numbered s own known k (o ∷ os) at all d (inr has) = numbered s own known (suc k) os at.2 all.1 d has

-- ---- names

formal_known : (k : Kind) → is_formal_kind k ≡ true → flow.is_formal_kind (kind_of k) ≡ true
formal_known kind.Formal e = refl
formal_known k e = absurd (false≢true e)

module _ (s : Site) (own : Typing) (units : List Code) (h : Home) (object : ℕ → Type 0) (names : (d : ℕ) → is_object_entry (entry_of h.known d) ≡ true → object d)
    (at : AreAt s own 1 (over_units (objects_in units h 0) 1 units)) where
  abbrev IsFormalRoot : ℕ → Type 0
  IsFormalRoot d = (o : ObjectInfo) → entry_of h.known d ≡ entry.Object o → is_formal_kind o.kind ≡ true → flow.is_formal own (object_number s d) ≡ true

  root_formal : (d : ℕ) → (object d → Has (flat_map object_numbers units) d) → IsFormalRoot d
  root_formal d declared o is formal =
      let has : Has (map (λ (u : DeclaredObject). u.number) (over_units (objects_in units h 0) 1 units)) d
      = subst (λ ns. Has ns d) (sym (units_same units h 1 units)) (declared (names d (ap is_object_entry is))) in
      let here = numbered s own h.known 1 (over_units (objects_in units h 0) 1 units) at (units_known units h 1 units) d has in
      ap flow.is_formal_kind (here.1 ∙ ap entry_kind is) ∙ formal_known o.kind formal

  pub roots_formal : AllFit object [] units → (u : Code) → Has units u → AreDenoted IsFormalRoot u
  roots_formal fits = units_denoted object IsFormalRoot (flat_map object_numbers units) root_formal units [] (λ n has. absurd has) (λ n has. has) fits
