-- The numbers of the objects that code declares, and those of the objects of its program.
use Rattle.std.proofs.Common.{◌≡◌, ℕ, ◌+◌, List, [], ◌∷◌, ◌++◌, map, flat_map, refl, ap, ◌∙◌, append_assoc}
use Rattle.machine.specs.resolved_tree.Trees.{Code, code_items, Objects, Numbers, Formals as Group, Front, SubBody, Package as PackageCode, PackageBody as BodyCode, If, Branch, Case, When as Alternative, Loop, While, For, Block, More}
use Rattle.machine.specs.place_names.declared.act.Mode.{Mode}
use Rattle.machine.specs.place_names.declared.act.Mode.TheVariants as mode
use Rattle.machine.specs.type_definitions.Gathered.{declared_number, declared_text}
use Rattle.machine.specs.typed_tree.Statements.{scope_count}
use Rattle.sound_files.specs.SeenFiles.Fits.{all_numbers, group_numbers, front_numbers}
use Rattle.machine.specs.typed_tree.Programs.{DeclaredObject, Home, object_of, formals_of, front_formals, local, in_package, package_text, objects_in, over_units}

-- ---- the objects of code

-- The numbers of the objects that code declares, in the order of the text.
abbrev pub object_numbers : Code → List ℕ
object_numbers (Objects ids constant i v) = all_numbers ids
object_numbers (Numbers ids e) = all_numbers ids
object_numbers (SubBody front items stmts end) = front_numbers front ++ (object_numbers items ++ object_numbers stmts)
object_numbers (PackageCode d visible hidden) = object_numbers visible ++ object_numbers hidden
object_numbers (BodyCode d parts) = object_numbers parts
object_numbers (If p branches otherwise) = object_numbers branches ++ object_numbers otherwise
object_numbers (Branch p e stmts) = object_numbers stmts
object_numbers (Case p e whens) = object_numbers whens
object_numbers (Alternative choices stmts) = object_numbers stmts
object_numbers (Loop p stmts) = object_numbers stmts
object_numbers (While p e stmts) = object_numbers stmts
object_numbers (For p d reversed range stmts) = declared_number d ∷ object_numbers stmts
object_numbers (Block p items stmts end) = object_numbers items ++ object_numbers stmts
object_numbers (More a rest) = object_numbers a ++ object_numbers rest
object_numbers _ = []

-- ---- the objects of a program

map_both : {A B : Type 0} (f : A → B) (xs ys : List A) → map f (xs ++ ys) ≡ map f xs ++ map f ys
map_both f [] ys = refl
map_both f (x ∷ xs) ys = ap (λ zs. f x ∷ zs) (map_both f xs ys)

two : {A B : Type 0} (f : A → B) (xs ys : List A) (ns ms : List B) → map f xs ≡ ns → map f ys ≡ ms → map f (xs ++ ys) ≡ ns ++ ms
two f xs ys ns ms a b = map_both f xs ys ∙ (ap (λ zs. zs ++ map f ys) a ∙ ap (λ zs. ns ++ zs) b)

abbrev numbers_of : List DeclaredObject → List ℕ
numbers_of os = map (λ (o : DeclaredObject). o.number) os

ids_numbers : (h : Home) (a : ℕ) (m : Mode) (ids : List Code) → numbers_of (map (object_of h a m) ids) ≡ map declared_number ids
ids_numbers h a m [] = refl
ids_numbers h a m (d ∷ rest) = ap (λ zs. declared_number d ∷ zs) (ids_numbers h a m rest)

formals_numbers : (h : Home) (a : ℕ) (groups : List Code) → numbers_of (flat_map (formals_of h a) groups) ≡ flat_map group_numbers groups
formals_numbers h a [] = refl
formals_numbers h a (g ∷ rest) =
    two (λ (o : DeclaredObject). o.number) (formals_of h a g) (flat_map (formals_of h a) rest) (group_numbers g) (flat_map group_numbers rest) (group g)
    (formals_numbers h a rest)
  where
    group : (g : Code) → numbers_of (formals_of h a g) ≡ group_numbers g
    group (Group ids m of) = ids_numbers h a m (code_items ids)
    group _ = refl

front_same : (h : Home) (a : ℕ) (front : Code) → numbers_of (flat_map (formals_of h a) (front_formals front)) ≡ front_numbers front
front_same h a (Front d formals result) = formals_numbers h a (code_items formals)
front_same h a _ = refl

module _ (units : List Code) where
  pair : (h k : Home) (a b n m : ℕ) (c d : Code) → numbers_of (objects_in units h a n c) ≡ object_numbers c → numbers_of (objects_in units k b m d) ≡ object_numbers d
      → numbers_of (objects_in units h a n c ++ objects_in units k b m d) ≡ object_numbers c ++ object_numbers d
  pair h k a b n m c d e f = two (λ (o : DeclaredObject). o.number) (objects_in units h a n c) (objects_in units k b m d) (object_numbers c) (object_numbers d) e f

  same : (h : Home) (a n : ℕ) (code : Code) → numbers_of (objects_in units h a n code) ≡ object_numbers code
  unfolding objects_in
  same h a n (Objects ids constant i v) = ids_numbers h a mode.In (code_items ids)
  same h a n (Numbers ids e) = ids_numbers h a mode.In (code_items ids)
  same h a n (SubBody front items stmts end) =
      let k : Home = local h in
      let os : List DeclaredObject = flat_map (formals_of k n) (front_formals front) in
      let first : List DeclaredObject = objects_in units k n (n + 1) items in
      let last : List DeclaredObject = objects_in units k n (n + 1 + scope_count items) stmts in
      ap (λ (xs : List DeclaredObject). numbers_of xs) (append_assoc os first last)
      ∙ two (λ (o : DeclaredObject). o.number) os (first ++ last) (front_numbers front) (object_numbers items ++ object_numbers stmts) (front_same k n front)
      (pair k k n n (n + 1) (n + 1 + scope_count items) items stmts (same k n (n + 1) items) (same k n (n + 1 + scope_count items) stmts))
  same h a n (PackageCode d visible hidden) =
      let k : Home = in_package (declared_text d) h in
      pair k k a a n (n + scope_count visible) visible hidden (same k a n visible) (same k a (n + scope_count visible) hidden)
  same h a n (BodyCode d parts) = same (in_package (package_text units (declared_number d)) h) a n parts
  same h a n (If p branches otherwise) =
      pair h h a a n (n + scope_count branches) branches otherwise (same h a n branches) (same h a (n + scope_count branches) otherwise)
  same h a n (Branch p e stmts) = same h a n stmts
  same h a n (Case p e whens) = same h a n whens
  same h a n (Alternative choices stmts) = same h a n stmts
  same h a n (Loop p stmts) = same h a n stmts
  same h a n (While p e stmts) = same h a n stmts
  same h a n (For p d reversed range stmts) = ap (λ zs. declared_number d ∷ zs) (same h n (n + 1) stmts)
  same h a n (Block p items stmts end) =
      pair h h n n (n + 1) (n + 1 + scope_count items) items stmts (same h n (n + 1) items) (same h n (n + 1 + scope_count items) stmts)
  same h a n (More first rest) = pair h h a a n (n + scope_count first) first rest (same h a n first) (same h a (n + scope_count first) rest)
  same h a n _ = refl

  pub units_same : (h : Home) (n : ℕ) (us : List Code) → numbers_of (over_units (objects_in units h 0) n us) ≡ flat_map object_numbers us
  units_same h n [] = refl
  units_same h n (u ∷ us) =
      two (λ (o : DeclaredObject). o.number) (objects_in units h 0 n u) (over_units (objects_in units h 0) (n + scope_count u) us) (object_numbers u)
      (flat_map object_numbers us) (same h 0 n u) (units_same h (n + scope_count u) us)
