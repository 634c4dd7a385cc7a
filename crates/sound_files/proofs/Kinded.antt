-- Each object of a typed program is of the kind that is known of its declaration.
use Rattle.std.proofs.Common.{◌≡◌, refl, ℕ, ◌+◌, List, [], ◌∷◌, ◌++◌, map, flat_map, Option, Some, None}
use Rattle.std.specs.List.{AllByRecursion}
use Rattle.machine.specs.place_names.declared.act.Mode.{Mode}
use Rattle.machine.specs.place_names.declared.act.Mode.TheVariants as mode
use Rattle.machine.specs.resolved_tree.Trees.{Code, Objects, Numbers, Formals, SubBody, Package, PackageBody, If, Branch, Case, When, Loop, While, For, Block, More, code_items}
use Rattle.machine.specs.type_definitions.declared.table.Known.{Known}
use Rattle.machine.specs.type_definitions.Entries.{entry_of}
use Rattle.machine.specs.type_definitions.Gathered.{declared_number, declared_text}
use Rattle.machine.specs.typed_tree.Statements.{scope_count}
use Rattle.machine.specs.typed_tree.Programs.{entry_kind, DeclaredObject, Home, object_of, formals_of, front_formals, package_text, objects_in, program_objects, over_units}

module _ (known : Known) where
  abbrev pub IsKinded : DeclaredObject → Type 0
  IsKinded o = o.object.kind ≡ entry_kind (entry_of known o.number)

  abbrev pub AreKinded : List DeclaredObject → Type 0
  AreKinded os = AllByRecursion IsKinded os

  both : (xs ys : List DeclaredObject) → AreKinded xs → AreKinded ys → AreKinded (xs ++ ys)
  both [] ys h g = g
  both (x ∷ xs) ys h g = (h.0, both xs ys h.1 g)

  abbrev home : Option (List ℕ) → Home
  home identifier = record { known = known; identifier = identifier }

  items_kinded : (identifier : Option (List ℕ)) (a : ℕ) (m : Mode) (ds : List Code) → AreKinded (map (object_of (home identifier) a m) ds)
  items_kinded identifier a m [] = tt
  items_kinded identifier a m (d ∷ ds) = (refl, items_kinded identifier a m ds)

  formals_kinded : (identifier : Option (List ℕ)) (a : ℕ) (groups : List Code) → AreKinded (flat_map (formals_of (home identifier) a) groups)
  formals_kinded identifier a [] = tt
  formals_kinded identifier a (g ∷ groups) =
      both (formals_of (home identifier) a g) (flat_map (formals_of (home identifier) a) groups) (group g) (formals_kinded identifier a groups)
    where
      group : (g : Code) → AreKinded (formals_of (home identifier) a g)
      group (Formals ids m of) = items_kinded identifier a m (code_items ids)
      group g = tt

  objects_kinded : (units : List Code) (i : Option (List ℕ)) (a n : ℕ) (code : Code) → AreKinded (objects_in units (home i) a n code)
  unfolding objects_in
  objects_kinded units i a n (Objects ids constant of v) = items_kinded i a mode.In (code_items ids)
  objects_kinded units i a n (Numbers ids e) = items_kinded i a mode.In (code_items ids)
  objects_kinded units i a n (SubBody front items stmts end) =
      both (flat_map (formals_of (home None) n) (front_formals front) ++ objects_in units (home None) n (n + 1) items) (objects_in units (home None) n (n + 1 + scope_count items) stmts)
      (both (flat_map (formals_of (home None) n) (front_formals front)) (objects_in units (home None) n (n + 1) items)
      (formals_kinded None n (front_formals front)) (objects_kinded units None n (n + 1) items))
      (objects_kinded units None n (n + 1 + scope_count items) stmts)
  objects_kinded units i a n (Package d visible hidden) =
      both (objects_in units (home (Some (declared_text d))) a n visible) (objects_in units (home (Some (declared_text d))) a (n + scope_count visible) hidden)
      (objects_kinded units (Some (declared_text d)) a n visible) (objects_kinded units (Some (declared_text d)) a (n + scope_count visible) hidden)
  objects_kinded units i a n (PackageBody d parts) = objects_kinded units (Some (package_text units (declared_number d))) a n parts
  objects_kinded units i a n (If p x y) =
      both (objects_in units (home i) a n x) (objects_in units (home i) a (n + scope_count x) y) (objects_kinded units i a n x) (objects_kinded units i a (n + scope_count x) y)
  objects_kinded units i a n (Branch p e x) = objects_kinded units i a n x
  objects_kinded units i a n (Case p e x) = objects_kinded units i a n x
  objects_kinded units i a n (When choices x) = objects_kinded units i a n x
  objects_kinded units i a n (Loop p x) = objects_kinded units i a n x
  objects_kinded units i a n (While p e x) = objects_kinded units i a n x
  objects_kinded units i a n (For p d reversed range x) = (refl, objects_kinded units i n (n + 1) x)
  objects_kinded units i a n (Block p x y end) =
      both (objects_in units (home i) n (n + 1) x) (objects_in units (home i) n (n + 1 + scope_count x) y)
      (objects_kinded units i n (n + 1) x) (objects_kinded units i n (n + 1 + scope_count x) y)
  objects_kinded units i a n (More x y) =
      both (objects_in units (home i) a n x) (objects_in units (home i) a (n + scope_count x) y) (objects_kinded units i a n x) (objects_kinded units i a (n + scope_count x) y)
  objects_kinded units i a n code = tt

  units_kinded : (units : List Code) (n : ℕ) (us : List Code) → AreKinded (over_units (objects_in units (home None) 0) n us)
  units_kinded units n [] = tt
  units_kinded units n (u ∷ us) =
      both (objects_in units (home None) 0 n u) (over_units (objects_in units (home None) 0) (n + scope_count u) us) (objects_kinded units None 0 n u) (units_kinded units (n + scope_count u) us)

  pub program_kinded : (units : List Code) → AreKinded (program_objects known units)
  program_kinded units = units_kinded units 1 units
