-- Objects and subprograms by number: an object that is declared has the type that is known of its
-- declaration, and a subprogram with a body has the result of its profile.
use Rattle.std.proofs.Common.{◌≡◌, refl, sym, ap, ◌∙◌, subst, inl, inr, ℕ, suc, ◌+◌, Bool, true, false, not, cond, List, [], ◌∷◌, ◌++◌, map, get_or, nat_eq, arith, Some, None}
use Rattle.std.specs.Prelude.{flat_map}
use Rattle.std.specs.List.{AllByRecursion, position_or_len}
use Rattle.std.proofs.lemmas.Bool.{eqb-true, eq-eqb, false≢true}
use Rattle.machine.specs.spark_base.Lists.{Has}
use Rattle.machine.specs.place_names.declared.act.Mode.{Mode}
use Rattle.machine.specs.place_names.declared.act.Mode.TheVariants as mode
use Rattle.machine.specs.resolved_tree.Trees.{More, Code, Objects, Numbers, Formals, SubBody, Package, PackageBody, If, Branch, Case, When, Loop, While, For, Block, code_items}
use Rattle.machine.specs.type_definitions.declared.table.Known.{Known}
use Rattle.machine.specs.type_definitions.declared.table.ObjectInfo.{ObjectInfo}
use Rattle.machine.specs.type_definitions.declared.table.Entry.TheVariants as entry
use Rattle.machine.specs.type_definitions.Entries.{entry_of}
use Rattle.machine.specs.type_definitions.Expressions.{profile_of}
use Rattle.machine.specs.type_definitions.Gathered.{declared_number, declared_text, in_hidden}
use Rattle.machine.specs.typed_tree.declared.object.Object.{Object}
use Rattle.machine.specs.typed_tree.Expressions.{Site, object_number, sub_number, object_type}
use Rattle.machine.specs.typed_tree.Statements.{scope_count}
use Rattle.machine.specs.typed_tree.Programs.{TypedSub, DeclaredObject, Home, over_units, object_of, formals_of, front_formals, local, in_package, package_text, objects_in, program_objects, text_io, bodies_in, site_of, placed, subs_in, elaboration, typed_program}
use Rattle.machine.specs.flow_paths.Objects.{Signature, object_at, sub_at}
use Rattle.machine.specs.flow_paths.Laid.{signature}
use Rattle.soundness.specs.TypedLaws.Fine.{Denotes}
use Rattle.soundness.specs.TypedLaws.TypedPoints.Meant.{typing_meant}

-- ---- lists with one number for each element

abbrev Pairs : {B : Type 0} → (ℕ → B → Type 0) → List ℕ → List B → Type 0
Pairs R [] [] = Unit {0}
Pairs R (n ∷ ns) (v ∷ vs) = R n v × Pairs R ns vs
Pairs R ns vs = ⊥

pairs_append : {B : Type 0} (R : ℕ → B → Type 0) (ns ms : List ℕ) (vs ws : List B) → Pairs R ns vs → Pairs R ms ws → Pairs R (ns ++ ms) (vs ++ ws)
pairs_append R [] ms [] ws h g = g
pairs_append R [] ms (v ∷ vs) ws h g = absurd h
pairs_append R (n ∷ ns) ms [] ws h g = absurd h
pairs_append R (n ∷ ns) ms (v ∷ vs) ws h g = (h.0, pairs_append R ns ms vs ws h.1 g)

-- What stands at the first place of a number.
at_number : {B : Type 0} (R : ℕ → B → Type 0) (d : ℕ) (ns : List ℕ) (vs : List B) (fallback : B) → Pairs R ns vs → Has ns d
    → R d (get_or vs (position_or_len (nat_eq d) ns) fallback)
at_number R d [] vs fallback h has = absurd has
at_number R d (n ∷ ns) [] fallback h has = absurd h
at_number {B} R d (n ∷ ns) (v ∷ vs) fallback h has = by (nat_eq d n) refl (λ more. at_number R d ns vs fallback h.1 more)
  where
    by : (b : Bool) → nat_eq d n ≡ b → (Has ns d → R d (get_or vs (position_or_len (nat_eq d) ns) fallback))
        → R d (get_or (v ∷ vs) (cond (not b) (1 + position_or_len (nat_eq d) ns) 0) fallback)
    by true is on = subst (λ x. R x v) (sym (eqb-true d n is)) h.0
    by false is on =
        let next : suc (position_or_len (nat_eq d) ns) ≡ 1 + position_or_len (nat_eq d) ns = omega arith in
        subst (λ i. R d (get_or (v ∷ vs) i fallback)) next (on (elim has [
          | inl same ↦ absurd (let f : nat_eq d d ≡ false = subst (λ x. nat_eq d x ≡ false) same is in false≢true (sym f ∙ eq-eqb d d refl))
          | inr more ↦ more
        ]))

-- ---- objects

abbrev IsRight : Known → DeclaredObject → Type 0
IsRight known o = o.object.of ≡ object_type (entry_of known o.number)

abbrev AreRight : Known → List DeclaredObject → Type 0
AreRight known os = AllByRecursion (IsRight known) os

both : (known : Known) (xs ys : List DeclaredObject) → AreRight known xs → AreRight known ys → AreRight known (xs ++ ys)
both known [] ys h g = g
both known (x ∷ xs) ys h g = (h.0, both known xs ys h.1 g)

items_right : (h : Home) (a : ℕ) (m : Mode) (ds : List Code) → AreRight h.known (map (object_of h a m) ds)
items_right h a m [] = tt
items_right h a m (d ∷ ds) = (refl, items_right h a m ds)

formals_right : (h : Home) (a : ℕ) (groups : List Code) → AreRight h.known (flat_map (formals_of h a) groups)
formals_right h a [] = tt
formals_right h a (g ∷ groups) = both h.known (formals_of h a g) (flat_map (formals_of h a) groups) (group g) (formals_right h a groups)
  where
    group : (g : Code) → AreRight h.known (formals_of h a g)
    group (Formals ids m of) = items_right h a m (code_items ids)
    group g = tt

objects_right : (units : List Code) (h : Home) (a n : ℕ) (code : Code) → AreRight h.known (objects_in units h a n code)
unfolding objects_in
objects_right units h a n (Objects ids constant i v) = items_right h a mode.In (code_items ids)
objects_right units h a n (Numbers ids e) = items_right h a mode.In (code_items ids)
objects_right units h a n (SubBody front items stmts end) =
    let inner : Home = local h in
    both h.known (flat_map (formals_of inner n) (front_formals front) ++ objects_in units inner n (n + 1) items) (objects_in units inner n (n + 1 + scope_count items) stmts)
    (both h.known (flat_map (formals_of inner n) (front_formals front)) (objects_in units inner n (n + 1) items)
    (formals_right inner n (front_formals front)) (objects_right units inner n (n + 1) items))
    (objects_right units inner n (n + 1 + scope_count items) stmts)
objects_right units h a n (Package d visible hidden) =
    let inner : Home = in_package (declared_text d) h in
    both h.known (objects_in units inner a n visible) (objects_in units inner a (n + scope_count visible) hidden)
    (objects_right units inner a n visible) (objects_right units inner a (n + scope_count visible) hidden)
objects_right units h a n (PackageBody d parts) = objects_right units (in_package (package_text units (declared_number d)) h) a n parts
objects_right units h a n (If p branches otherwise) =
    both h.known (objects_in units h a n branches) (objects_in units h a (n + scope_count branches) otherwise)
    (objects_right units h a n branches) (objects_right units h a (n + scope_count branches) otherwise)
objects_right units h a n (Branch p e stmts) = objects_right units h a n stmts
objects_right units h a n (Case p e whens) = objects_right units h a n whens
objects_right units h a n (When choices stmts) = objects_right units h a n stmts
objects_right units h a n (Loop p stmts) = objects_right units h a n stmts
objects_right units h a n (While p e stmts) = objects_right units h a n stmts
objects_right units h a n (For p d reversed range stmts) = (refl, objects_right units h n (n + 1) stmts)
objects_right units h a n (Block p items stmts end) =
    both h.known (objects_in units h n (n + 1) items) (objects_in units h n (n + 1 + scope_count items) stmts)
    (objects_right units h n (n + 1) items) (objects_right units h n (n + 1 + scope_count items) stmts)
objects_right units h a n (More first rest) =
    both h.known (objects_in units h a n first) (objects_in units h a (n + scope_count first) rest)
    (objects_right units h a n first) (objects_right units h a (n + scope_count first) rest)
objects_right units h a n code = tt

units_right : (units : List Code) (h : Home) (n : ℕ) (us : List Code) → AreRight h.known (over_units (objects_in units h 0) n us)
units_right units h n [] = tt
units_right units h n (u ∷ us) =
    both h.known (objects_in units h 0 n u) (over_units (objects_in units h 0) (n + scope_count u) us) (objects_right units h 0 n u) (units_right units h (n + scope_count u) us)

abbrev HasType : Known → ℕ → Object → Type 0
HasType known d o = o.of ≡ object_type (entry_of known d)

object_pairs : (known : Known) (os : List DeclaredObject) → AreRight known os → Pairs (HasType known) (map (λ (o : DeclaredObject). o.number) os) (map (λ (o : DeclaredObject). o.object) os)
object_pairs known [] h = tt
object_pairs known (o ∷ os) h = (h.0, object_pairs known os h.1)

-- An object that the program declares.
pub object_numbered : (known : Known) (units : List Code) (d : ℕ) → Has (site_of known units).objects d
    → (object_at (typing_meant known units) (object_number (site_of known units) d)).of ≡ object_type (entry_of known d)
unfolding typed_program
object_numbered known units d has =
    let h : Home = record { known = known; identifier = None } in
    let os = program_objects known units in
    let numbers = map (λ (o : DeclaredObject). o.number) os in
    let i = position_or_len (nat_eq d) numbers in
    let next : suc i ≡ i + 1 = omega arith in
    subst (λ k. (get_or (text_io ∷ map (λ (o : DeclaredObject). o.object) os) k text_io).of ≡ object_type (entry_of known d)) next
    (at_number (HasType known) d numbers (map (λ (o : DeclaredObject). o.object) os) text_io (object_pairs known os (units_right units h 1 units)) has)

-- ---- subprograms

abbrev HasResult : Known → ℕ → Signature → Type 0
HasResult known f sub = sub.result ≡ (profile_of (entry_of known f)).result

map_append : {A B : Type 0} (f : A → B) (xs ys : List A) → map f xs ++ map f ys ≡ map f (xs ++ ys)
map_append f [] ys = refl
map_append f (x ∷ xs) ys = ap (λ zs. f x ∷ zs) (map_append f xs ys)

more_pairs : (known : Known) (ns ms : List ℕ) (xs ys : List TypedSub) → Pairs (HasResult known) ns (map signature xs) → Pairs (HasResult known) ms (map signature ys)
    → Pairs (HasResult known) (ns ++ ms) (map signature (xs ++ ys))
more_pairs known ns ms xs ys h g =
    subst (Pairs (HasResult known) (ns ++ ms)) (map_append signature xs ys) (pairs_append (HasResult known) ns ms (map signature xs) (map signature ys) h g)

sub_pairs : (s : Site) (n : ℕ) (u : Code) → Pairs (HasResult s.context.known) (bodies_in u) (map signature (subs_in s n u))
unfolding bodies_in subs_in
sub_pairs s n (SubBody front items stmts end) = (refl, tt)
sub_pairs s n (PackageBody d parts) = sub_pairs (placed (in_hidden (declared_number d)) s) n parts
sub_pairs s n (More a rest) =
    more_pairs s.context.known (bodies_in a) (bodies_in rest) (subs_in s n a) (subs_in s (n + scope_count a) rest) (sub_pairs s n a) (sub_pairs s (n + scope_count a) rest)
sub_pairs s n u = tt

units_pairs : (s : Site) (n : ℕ) (units : List Code) → Pairs (HasResult s.context.known) (flat_map bodies_in units) (map signature (over_units (subs_in s) n units))
units_pairs s n [] = tt
units_pairs s n (u ∷ units) =
    more_pairs s.context.known (bodies_in u) (flat_map bodies_in units) (subs_in s n u) (over_units (subs_in s) (n + scope_count u) units)
    (sub_pairs s n u) (units_pairs s (n + scope_count u) units)

abbrev no_signature : Signature
no_signature = record { formals = []; result = None }

-- A subprogram with a body.
pub sub_numbered : (known : Known) (units : List Code) (f : ℕ) → Has (site_of known units).bodies f
    → (sub_at (typing_meant known units) (sub_number (site_of known units) f)).result ≡ (profile_of (entry_of known f)).result
unfolding typed_program
sub_numbered known units f has =
    let s : Site = site_of known units in
    let subs = over_units (subs_in s) 1 units in
    let i = position_or_len (nat_eq f) s.bodies in
    let next : suc i ≡ i + 1 = omega arith in
    subst (λ k. (get_or (signature (elaboration s units) ∷ map signature subs) k no_signature).result ≡ (profile_of (entry_of known f)).result) next
    (at_number (HasResult known) f s.bodies (map signature subs) no_signature (units_pairs s 1 units) has)

-- ---- identifiers

-- Of an identifier it has to be shown that what it denotes is declared, or has a body.
pub denotes : (known : Known) (units : List Code) (d : ℕ) → ((o : ObjectInfo) → entry_of known d ≡ entry.Object o → Has (site_of known units).objects d)
    → ((t : ℕ) → (profile_of (entry_of known d)).result ≡ Some t → Has (site_of known units).bodies d) → Denotes (site_of known units) (typing_meant known units) d
denotes known units d declared bodied =
    (λ o is. object_numbered known units d (declared o is) ∙ ap object_type is, λ t is. sub_numbered known units d (bodied t is) ∙ is)
