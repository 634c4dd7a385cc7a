-- The formals of bodies are those of the profiles of their declarations.
use Rattle.std.proofs.Common.{◌≡◌, ◌⊎◌, inl, inr, refl, sym, ap, ◌∙◌, subst, ℕ, zero, suc, ◌+◌, ◌<◌, Bool, true, false, not, ◌&&◌, ◌||◌, cond, Option, List, [], ◌∷◌, ◌++◌, map, length, get_or, nat_eq, arith, Some, None, true≢false, IsTrue, if◌then◌else◌}
use Rattle.std.specs.Prelude.{flat_map, is_some}
use Rattle.std.specs.List.{AllByRecursion, position_or_len}
use Rattle.std.specs.Cmp.Lexicographic.{pointwise}
use Rattle.std.specs.Char.{to_ascii_lowercase}
use Rattle.std.proofs.lemmas.Bool.{eqb-true, eq-eqb, false≢true, true≢false}
use Rattle.machine.specs.spark_base.Lists.{Has}
use Rattle.soundness.proofs.Lists.{Has-append_left, Has-append_right, Has-map}
use Rattle.machine.specs.place_names.declared.act.Mode.{Mode}
use Rattle.machine.specs.place_names.declared.act.Mode.TheVariants as mode
use Rattle.machine.specs.resolved_tree.Trees.{Code, More, Plain, Anonymous, Formals, Front, SubBody, PackageBody, Program, code_items}
use Rattle.machine.specs.type_definitions.declared.judgement.Fault.{Fault}
use Rattle.machine.specs.type_definitions.declared.judgement.View.{View}
use Rattle.machine.specs.type_definitions.declared.judgement.View.TheVariants as view
use Rattle.machine.specs.type_definitions.declared.table.Entry.TheVariants as entry
use Rattle.machine.specs.type_definitions.declared.table.FormalInfo.{FormalInfo}
use Rattle.machine.specs.type_definitions.declared.table.Kind.TheVariants as kind
use Rattle.machine.specs.type_definitions.declared.table.Known.{Known}
use Rattle.machine.specs.type_definitions.declared.table.Shape.TheVariants as shape
use Rattle.machine.specs.type_definitions.declared.table.ObjectInfo.{ObjectInfo}
use Rattle.machine.specs.type_definitions.declared.table.Profile.{Profile}
use Rattle.machine.specs.type_definitions.Types.{is_nil, Table, base, full, is_scalar, is_untyped, is_same, same_bounds, shape_of, view_of}
use Rattle.machine.specs.type_definitions.Faults.{demand}
use Rattle.machine.specs.type_definitions.Entries.{entry_of, same_word, denotes_type, marked, is_complete}
use Rattle.machine.specs.type_definitions.Names.{Context, seen}
use Rattle.machine.specs.type_definitions.Expressions.{by_name, no_formal, profile_of, is_access, is_anonymous, is_in, is_traversal, to_constant, designated}
use Rattle.machine.specs.type_definitions.Gathered.{is_anonymous_indication, declared_pos, declared_number, declared_text, front_number, texts, indicated, indicates_type, formal_group, formal_infos, profile_from, anonymous_result, in_hidden}
use Rattle.machine.specs.type_definitions.Declarations.{code_faults, body_faults, front_faults, agrees, same_mode, same_indicated, same_formal, same_formals, same_result, indication_faults, result_faults, formals_group, formals_faults, formal_faults, is_traversable, has_none}
use Rattle.machine.specs.type_definitions.Whole.{outside, known_of, type_fault}
use Rattle.machine.specs.typed_tree.declared.object.Object.{Object}
use Rattle.machine.specs.typed_tree.Expressions.{Site, object_number}
use Rattle.machine.specs.typed_tree.Statements.{scope_count}
use Rattle.machine.specs.typed_tree.Programs.{TypedSub, DeclaredObject, Home, object_of, formals_of as home_formals, front_formals, formal_numbers, local, in_package, package_text, objects_in, over_units, bodies_in, placed, subs_in, elaboration, program_objects, text_io, typed_program}
use Rattle.machine.specs.flow_paths.Objects.{Typing, Signature, object_at, sub_at, traverses, is_anonymous as anonymous_view}
use Rattle.machine.specs.flow_paths.Laid.{signature}
use Rattle.soundness.specs.TypedLaws.Fine.{Agree, Laws}
use Rattle.soundness.proofs.TypedLaws.Agreeing.{of_known, holds, nil_left, nil_right, and_left, and_right}
use Rattle.settled_types.specs.OrderLaws.ScopeLaws.Code.{Once}
use Rattle.name_events.proofs.Searches.{same_is}
use Rattle.soundness.proofs.TypedLaws.Steps.{seen_access}
use Rattle.sound_files.proofs.TypedFiles.FirstFormals.{on_first}
use Rattle.soundness.proofs.TypedLaws.Cases.{is_access_view}
use Rattle.soundness.proofs.TypedLaws.TypedPoints.Sources.{anonymous_shape}
use Rattle.settled_types.specs.GatheredLaws.Components.{AreWordsApart}
use Rattle.settled_types.specs.GatheredLaws.Views.{AreViewsApart}
use Rattle.settled_types.specs.AnonymousTypes.Fronts.{AllFronts}
use Rattle.settled_types.proofs.AnonymousTypes.Main as views
use Rattle.type_sizes.specs.Formed.{all_formed}
use Rattle.settled_types.specs.Orderly.{IsOrderly}
use Rattle.settled_types.specs.NamedFiles.Formals.{formal_texts, HasFirst, IsResult, IsFrontApart, AreFormalsApart}
use Rattle.sound_files.specs.MeantFiles.Typed.{IsOf, AreOf, AreGroupsTyped, IsFrontTyped, AreTyped}
use Rattle.sound_files.specs.TypedFiles.TypedRuns.Formals.{AreSameViews, IsFormal, AreFormals, formals_of, AreProfiled}
use Rattle.sound_files.specs.TypedFiles.TypedRuns.Meant.{site_in, typing_laid}

-- ---- lists with one number for each element

abbrev pub Pairs : {B : Type 0} → (ℕ → B → Type 0) → List ℕ → List B → Type 0
Pairs R [] [] = Unit {0}
Pairs R (n ∷ ns) (v ∷ vs) = R n v × Pairs R ns vs
Pairs R ns vs = ⊥

pairs_append : {B : Type 0} (R : ℕ → B → Type 0) (ns ms : List ℕ) (vs ws : List B) → Pairs R ns vs → Pairs R ms ws → Pairs R (ns ++ ms) (vs ++ ws)
pairs_append R [] ms [] ws h g = g
pairs_append R [] ms (v ∷ vs) ws h g = absurd h
pairs_append R (n ∷ ns) ms [] ws h g = absurd h
pairs_append R (n ∷ ns) ms (v ∷ vs) ws h g = (h.0, pairs_append R ns ms vs ws h.1 g)

-- What stands at the first place of a number.
at_place : {B : Type 0} (R : ℕ → B → Type 0) (d : ℕ) (ns : List ℕ) (vs : List B) (fallback : B) → Pairs R ns vs → Has ns d
    → R d (get_or vs (position_or_len (nat_eq d) ns) fallback)
at_place R d [] vs fallback h has = absurd has
at_place R d (n ∷ ns) [] fallback h has = absurd h
at_place {B} R d (n ∷ ns) (v ∷ vs) fallback h has = by (nat_eq d n) refl (λ more. at_place R d ns vs fallback h.1 more)
  where
    by : (b : Bool) → nat_eq d n ≡ b → (Has ns d → R d (get_or vs (position_or_len (nat_eq d) ns) fallback))
        → R d (get_or (v ∷ vs) (cond (not b) (1 + position_or_len (nat_eq d) ns) 0) fallback)
    by true is on = subst (λ x. R x v) (sym (eqb-true d n is)) h.0
    by false is on =
        let next : suc (position_or_len (nat_eq d) ns) ≡ 1 + position_or_len (nat_eq d) ns = omega arith in
        subst (λ i. R d (get_or (v ∷ vs) i fallback)) next (on (elim has [
          | inl same ↦ absurd (let f : nat_eq d d ≡ false = subst (λ x. nat_eq d x ≡ false) same is in let g = eq-eqb d d refl in cc)
          | inr more ↦ more
        ]))

map_append : {A B : Type 0} (f : A → B) (xs ys : List A) → map f xs ++ map f ys ≡ map f (xs ++ ys)
map_append f [] ys = refl
map_append f (x ∷ xs) ys = ap (λ zs. f x ∷ zs) (map_append f xs ys)

-- ---- words

alike_words : (a b : List ℕ) → same_word a b ≡ true → map to_ascii_lowercase a ≡ map to_ascii_lowercase b
alike_words a b e = same_is (map to_ascii_lowercase a) (map to_ascii_lowercase b) e

self_same : (a : List ℕ) → pointwise nat_eq a a ≡ true
self_same [] = refl
self_same (x ∷ xs) = rw (self x) (self_same xs)
  where
    self : (n : ℕ) → nat_eq n n ≡ true
    self n = grind arith

words_alike : (a b : List ℕ) → map to_ascii_lowercase a ≡ map to_ascii_lowercase b → same_word a b ≡ true
words_alike a b e = subst (λ w. pointwise nat_eq (map to_ascii_lowercase a) w ≡ true) e (self_same (map to_ascii_lowercase a))

abbrev names_in : List FormalInfo → List (List ℕ)
names_in fs = map (λ (f : FormalInfo). f.name) fs

by_its_name : (fs : List FormalInfo) (k : ℕ) (v : List ℕ) → AreWordsApart (names_in fs) → k < length fs → same_word (get_or fs k no_formal).name v ≡ true
    → by_name (λ (f : FormalInfo). f.name) no_formal v fs ≡ get_or fs k no_formal
by_its_name [] k v apart less same = absurd (omega (arith, less))
by_its_name (f ∷ fs) k v apart less same = by (same_word v f.name) refl (λ n less same. by_its_name fs n v apart.1 less same) k less same
  where
    back : (a : List ℕ) → same_word a v ≡ true → same_word v a ≡ true
    back a e = words_alike v a (sym (alike_words a v e))

    named : (fs : List FormalInfo) (k : ℕ) → k < length fs → Has (names_in fs) (get_or fs k no_formal).name
    named [] k less = absurd (omega (arith, less))
    named (g ∷ gs) zero less = inl refl
    named (g ∷ gs) (suc k) less = inr (named gs k (omega (arith, less)))

    by : (b : Bool) → same_word v f.name ≡ b
        → ((n : ℕ) → n < length fs → same_word (get_or fs n no_formal).name v ≡ true → by_name (λ (f : FormalInfo). f.name) no_formal v fs ≡ get_or fs n no_formal)
        → (k : ℕ) → k < suc (length fs) → same_word (get_or (f ∷ fs) k no_formal).name v ≡ true
        → (if b then f else by_name (λ (f : FormalInfo). f.name) no_formal v fs) ≡ get_or (f ∷ fs) k no_formal
    by true is on zero less same = refl
    by true is on (suc k) less same =
        let one : map to_ascii_lowercase f.name ≡ map to_ascii_lowercase (get_or fs k no_formal).name
        = sym (alike_words v f.name is) ∙ sym (alike_words (get_or fs k no_formal).name v same) in
        absurd (true≢false (sym (words_alike f.name (get_or fs k no_formal).name one) ∙ apart.0 (get_or fs k no_formal).name (named fs k (omega (arith, less)))))
    by false is on zero less same = absurd (true≢false (sym (back f.name same) ∙ is))
    by false is on (suc k) less same = on k (omega (arith, less)) same

split : (a b c d : Bool) → a && (b && (c || d)) ≡ true → c ≡ false → (a ≡ true) × (b ≡ true) × (d ≡ true)
split true true false d e f = (refl, refl, e)
split true true true d e f = absurd (true≢false f)
split true false c d e f = absurd (false≢true e)
split false b c d e f = absurd (false≢true e)

mode_is : (m n : Mode) → same_mode m n ≡ true → n ≡ m
mode_is mode.In mode.In e = refl
mode_is mode.Out mode.Out e = refl
mode_is mode.InOut mode.InOut e = refl
mode_is m n e = absurd (false≢true e)

-- Names of two lists of formals that are the same are apart in one of them if so they are in the other.
module _ (table : Table) where
  named_so : (fs gs : List FormalInfo) → same_formals table fs gs ≡ true → (v : List ℕ) → Has (names_in fs) v → (w : List ℕ) × Has (names_in gs) w × (same_word v w ≡ true)
  named_so [] gs same v has = absurd has
  named_so (f ∷ fs) [] same v has = absurd (false≢true same)
  named_so (f ∷ fs) (g ∷ gs) same v (inl is) = (g.name, inl refl, subst (λ z. same_word z g.name ≡ true) is (and_left _ _ (and_left _ _ same)))
  named_so (f ∷ fs) (g ∷ gs) same v (inr has) = let more = named_so fs gs (and_right _ _ same) v has in (more.0, inr more.1, more.2)

  names_apart : (fs gs : List FormalInfo) → same_formals table fs gs ≡ true → AreWordsApart (names_in gs) → AreWordsApart (names_in fs)
  names_apart [] gs same apart = tt
  names_apart (f ∷ fs) [] same apart = absurd (false≢true same)
  names_apart (f ∷ fs) (g ∷ gs) same apart = ((λ v has. by v (named_so fs gs (and_right _ _ same) v has)), names_apart fs gs (and_right _ _ same) apart.1)
    where
      by : (v : List ℕ) → (w : List ℕ) × Has (names_in gs) w × (same_word v w ≡ true) → same_word f.name v ≡ false
      by v found = on (same_word f.name v) refl
        where
          on : (b : Bool) → same_word f.name v ≡ b → b ≡ false
          on false is = refl
          on true is =
              let first = alike_words f.name g.name (and_left _ _ (and_left _ _ same)) in
              let one : map to_ascii_lowercase g.name ≡ map to_ascii_lowercase found.0 = sym first ∙ alike_words f.name v is ∙ alike_words v found.0 found.2 in
              absurd (true≢false (sym (words_alike g.name found.0 one) ∙ apart.0 found.0 found.1))

-- ---- the front of each body

-- A body's front breaks no sentence, its formals are objects of the program of their types, with names of their own.
pub record IsGoodFront (known : Known) (all : List DeclaredObject) (front : Code) : Type 0 where
  pub context : Context
  pub same : context.known ≡ known
  pub faultless : body_faults context front ≡ []
  pub typed : IsFrontTyped known front
  pub apart : IsFrontApart front
  pub home : Home
  pub scope : ℕ
  pub declared : (o : DeclaredObject) → Has (flat_map (home_formals home scope) (front_formals front)) o → Has all o

pub record HasFront (s : Site) (all : List DeclaredObject) (d : ℕ) (sub : Signature) : Type 0 where
  pub front : Code
  pub number : front_number front ≡ d
  pub formals : sub.formals ≡ flat_map (formal_numbers s) (front_formals front)
  pub result : sub.result ≡ (profile_of (entry_of s.context.known d)).result
  pub good : IsGoodFront s.context.known all front

pairs_map : {B : Type 0} (R S : ℕ → B → Type 0) → ((n : ℕ) (v : B) → R n v → S n v) → (ns : List ℕ) (vs : List B) → Pairs R ns vs → Pairs S ns vs
pairs_map R S on [] [] h = tt
pairs_map R S on (n ∷ ns) (v ∷ vs) h = (on n v h.0, pairs_map R S on ns vs h.1)
pairs_map R S on [] (v ∷ vs) h = absurd h
pairs_map R S on (n ∷ ns) [] h = absurd h

-- Numbers of objects don't depend on where code stands.
numbers_same : (d : ℕ) (s : Site) (groups : List Code) → flat_map (formal_numbers (placed (in_hidden d) s)) groups ≡ flat_map (formal_numbers s) groups
numbers_same d s [] = refl
numbers_same d s (Formals ids m of ∷ groups) = ap (λ ns. map (λ x. object_number s (declared_number x)) (code_items ids) ++ ns) (numbers_same d s groups)
numbers_same d s (g ∷ groups) = numbers_same d s groups

moved : (all : List DeclaredObject) (d : ℕ) (s : Site) (n : ℕ) (v : Signature) → HasFront (placed (in_hidden d) s) all n v → HasFront s all n v
moved all d s n v h = record {
  front = h.front;
  number = h.number;
  formals = h.formals ∙ numbers_same d s (front_formals h.front);
  result = h.result;
  good = h.good;
}

module _ (units : List Code) (all : List DeclaredObject) (made : ℕ → Type 0) where
  abbrev Fronts : Site → List ℕ → List TypedSub → Type 0
  Fronts s ns subs = Pairs (HasFront s all) ns (map signature subs)

  fronts_both : (s : Site) (ns ms : List ℕ) (xs ys : List TypedSub) → Fronts s ns xs → Fronts s ms ys → Fronts s (ns ++ ms) (xs ++ ys)
  fronts_both s ns ms xs ys h g =
      subst (Pairs (HasFront s all) (ns ++ ms)) (map_append signature xs ys) (pairs_append (HasFront s all) ns ms (map signature xs) (map signature ys) h g)

  unit_fronts : (s : Site) (h : Home) (a n k : ℕ) (u : Code) → code_faults s.context u ≡ [] → AreTyped made s.context u → AreFormalsApart u
      → ((o : DeclaredObject) → Has (objects_in units h a k u) o → Has all o) → Fronts s (bodies_in u) (subs_in s n u)
  unfolding bodies_in subs_in code_faults AreTyped AreFormalsApart objects_in
  unit_fronts s h a n k (SubBody front items stmts end) faultless typed apart into = (
    record {
      front = front;
      number = refl;
      formals = refl;
      result = refl;
      good = record {
        context = s.context;
        same = refl;
        faultless = nil_left (body_faults s.context front) _ faultless;
        typed = typed.0;
        apart = apart;
        home = local h;
        scope = k;
        declared = λ o has. into o (Has-append_left (flat_map (home_formals (local h) k) (front_formals front) ++ objects_in units (local h) k (k + 1) items) _ o
            (Has-append_left (flat_map (home_formals (local h) k) (front_formals front)) _ o has));
      };
    },
    tt,
  )
  unit_fronts s h a n k (PackageBody d parts) faultless typed apart into =
      let inner : Site = placed (in_hidden (declared_number d)) s in
      pairs_map (HasFront inner all) (HasFront s all) (moved all (declared_number d) s) (bodies_in parts) (map signature (subs_in inner n parts))
      (unit_fronts inner (in_package (package_text units (declared_number d)) h) a n k parts faultless typed apart into)
  unit_fronts s h a n k (More x rest) faultless typed apart into =
      fronts_both s (bodies_in x) (bodies_in rest) (subs_in s n x) (subs_in s (n + scope_count x) rest)
      (unit_fronts s h a n k x (nil_left (code_faults s.context x) _ faultless) typed.0 apart.0 (λ o has. into o (Has-append_left (objects_in units h a k x) _ o has)))
      (unit_fronts s h a (n + scope_count x) (k + scope_count x) rest (nil_right (code_faults s.context x) _ faultless) typed.1 apart.1
      (λ o has. into o (Has-append_right (objects_in units h a k x) (objects_in units h a (k + scope_count x) rest) o has)))
  unit_fronts s h a n k u faultless typed apart into = tt

  pub units_fronts : (s : Site) (h : Home) (n : ℕ) (us : List Code) → ((u : Code) → Has us u → code_faults s.context u ≡ []) → ((u : Code) → Has us u → AreTyped made s.context u)
      → ((u : Code) → Has us u → AreFormalsApart u) → ((o : DeclaredObject) → Has (over_units (objects_in units h 0) n us) o → Has all o)
      → Fronts s (flat_map bodies_in us) (over_units (subs_in s) n us)
  units_fronts s h n [] faultless typed apart into = tt
  units_fronts s h n (u ∷ us) faultless typed apart into =
      fronts_both s (bodies_in u) (flat_map bodies_in us) (subs_in s n u) (over_units (subs_in s) (n + scope_count u) us)
      (unit_fronts s h 0 n n u (faultless u (inl refl)) (typed u (inl refl)) (apart u (inl refl)) (λ o has. into o (Has-append_left (objects_in units h 0 n u) _ o has)))
      (units_fronts s h (n + scope_count u) us (λ v has. faultless v (inr has)) (λ v has. typed v (inr has)) (λ v has. apart v (inr has))
      (λ o has. into o (Has-append_right (objects_in units h 0 n u) (over_units (objects_in units h 0) (n + scope_count u) us) o has)))

-- ---- objects by number

object_there : (os : List DeclaredObject) (o : DeclaredObject) → Once (map (λ (x : DeclaredObject). x.number) os) → Has os o
    → get_or (map (λ (x : DeclaredObject). x.object) os) (position_or_len (nat_eq o.number) (map (λ (x : DeclaredObject). x.number) os)) text_io ≡ o.object
object_there [] o once has = absurd has
object_there (x ∷ os) o once has = by (nat_eq o.number x.number) refl (λ more. object_there os o once.1 more)
  where
    numbers : List ℕ
    numbers = map (λ (y : DeclaredObject). y.number) os

    objects : List Object
    objects = map (λ (y : DeclaredObject). y.object) os

    by : (b : Bool) → nat_eq o.number x.number ≡ b → (Has os o → get_or objects (position_or_len (nat_eq o.number) numbers) text_io ≡ o.object)
        → get_or (x.object ∷ objects) (cond (not b) (1 + position_or_len (nat_eq o.number) numbers) 0) text_io ≡ o.object
    by true is on = elim has [
      | inl same ↦ ap (λ (o : DeclaredObject). o.object) same
      | inr more ↦ absurd (once.0 (subst (Has numbers) (eqb-true o.number x.number is) (Has-map (λ (y : DeclaredObject). y.number) os o more)))
    ]
    by false is on =
        let next : suc (position_or_len (nat_eq o.number) numbers) ≡ 1 + position_or_len (nat_eq o.number) numbers = omega arith in
        subst (λ i. get_or (x.object ∷ objects) i text_io ≡ o.object) next (on (elim has [
          | inl same ↦ absurd (true≢false (sym (eq-eqb o.number x.number (ap (λ (z : DeclaredObject). z.number) (sym same))) ∙ is))
          | inr more ↦ more
        ]))

-- ---- profiles

module _ (p : Program) (formed : IsTrue (all_formed p.units)) (orderly : IsOrderly p) (none_broken : type_fault p ≡ None) (own_numbers : AreViewsApart p.units)
    (made : ℕ → Type 0) (laws : Laws (known_of p) made) (once : Once (map (λ (o : DeclaredObject). o.number) (program_objects (known_of p) p.units)))
    (laid : (d : ℕ) → Has (site_in p).objects d → object_at (typing_laid p) (object_number (site_in p) d) ≡ get_or (map (λ (o : DeclaredObject). o.object) (program_objects (known_of p) p.units)) (position_or_len (nat_eq d) (site_in p).objects) text_io)
    (named : (d : ℕ) (o : ObjectInfo) → entry_of (known_of p) d ≡ entry.Object o → Has (site_in p).objects d → (object_at (typing_laid p) (object_number (site_in p) d)).of ≡ o.of) where
  abbrev known : Known
  known = known_of p

  abbrev table : Table
  table = (known_of p).table

  abbrev s : Site
  s = site_in p

  abbrev y : Typing
  y = typing_laid p

  abbrev all : List DeclaredObject
  all = program_objects (known_of p) p.units

  -- One type with the same bounds, or two of one type: they agree.
  agree_same : (t u : ℕ) → made t → made u → is_same table t u ≡ true → Agree table t u
  agree_same t u m k same =
      let first = of_known (is_untyped table t) (is_untyped table u || (nat_eq (base table t) (base table u) && same_bounds (full table t) (full table u))) (laws.certain t m) same in
      let second = of_known (is_untyped table u) (nat_eq (base table t) (base table u) && same_bounds (full table t) (full table u)) (laws.certain u k) first in
      laws.same t u m k (eqb-true (base table t) (base table u) (and_left _ _ second))

  -- A formal of an anonymous access type is traversed, and of mode `in`.
  abbrev IsThrough : FormalInfo → Type 0
  IsThrough = views.IsThrough p formed orderly none_broken own_numbers

  -- The type of a profile's formal, and that of an object.
  abbrev Formed : FormalInfo → ℕ → Type 0
  Formed f u =
      Agree table f.of u
      ⊎ ((f.traversed ≡ true) × (f.mode ≡ mode.In) × (is_anonymous (full table f.of) ≡ true) × (is_anonymous (full table u) ≡ true) × AreSameViews table f.of u)

  same_views : (t u : ℕ) → made t → made u → is_anonymous (full table t) ≡ true → is_anonymous (full table u) ≡ true
      → is_same table (designated (full table t)) (designated (full table u)) ≡ true → AreSameViews table t u
  same_views t u m k first second same =
      let v = anonymous_shape (shape_of table t) first in
      let w = anonymous_shape (shape_of table u) second in
      let left : designated (full table t) ≡ v.0 = ap (λ z. designated (view_of z)) v.3 in
      let right : designated (full table u) ≡ w.0 = ap (λ z. designated (view_of z)) w.3 in
      let one : is_same table v.0 w.0 ≡ true
      = subst (λ x. is_same table x w.0 ≡ true) left (subst (λ x. is_same table (designated (full table t)) x ≡ true) right same) in
      (v.0, w.0, v.1, v.2, w.1, w.2, v.3, w.3, agree_same v.0 w.0 (laws.target t v.0 v.1 v.2 m v.3) (laws.target u w.0 w.1 w.2 k w.3) one)

  formed_as : (f : FormalInfo) (u : ℕ) → made f.of → made u → IsThrough f → same_indicated table f.of u ≡ true → Formed f u
  formed_as f u m k passes same = by (is_anonymous (full table f.of)) (is_anonymous (full table u)) refl refl same
    where
      designated_same : Bool
      designated_same = is_same table (designated (full table f.of)) (designated (full table u))

      by : (a b : Bool) → is_anonymous (full table f.of) ≡ a → is_anonymous (full table u) ≡ b
          → (if a && b then (if to_constant (full table f.of) then to_constant (full table u) else not (to_constant (full table u))) && designated_same else is_same table f.of u) ≡ true
          → Formed f u
      by true true first second h =
          inr ((passes first).0, (passes first).1, first, second, same_views f.of u m k first second (and_right _ designated_same h))
      by true false first second h = inl (agree_same f.of u m k h)
      by false b first second h = inl (agree_same f.of u m k h)

  -- ---- one formal

  -- What is declared with a number of a front's formals.
  abbrev pub Declared : Mode → ℕ → Type 0
  Declared m d = (o : DeclaredObject) × Has all o × (o.number ≡ d) × (o.object.mode ≡ m)

  pub there : (m : Mode) (d : ℕ) → Declared m d → Has s.objects d
  there m d found = subst (Has s.objects) found.2 (Has-map (λ (o : DeclaredObject). o.number) all found.0 found.1)

  pub mode_at : (m : Mode) (d : ℕ) → Declared m d → (object_at y (object_number s d)).mode ≡ m
  mode_at m d found =
      ap (λ (x : Object). x.mode) (laid d (there m d found))
      ∙ subst (λ n. (get_or (map (λ (o : DeclaredObject). o.object) all) (position_or_len (nat_eq n) (map (λ (o : DeclaredObject). o.number) all)) text_io).mode ≡ m) found.2
      (ap (λ (x : Object). x.mode) (object_there all found.0 once found.1) ∙ found.3)

  -- A mark denotes a type, where no sentence is broken.
  pub typed_mark : (of : Code) → indication_faults known of ≡ [] → indicates_type known of ≡ true
  typed_mark (Plain m) none = and_left (denotes_type known m.decl) _ (holds 1 m.pos (denotes_type known m.decl && is_complete known (marked known m) m.pos) (nil_left _ _ none))
  typed_mark (Anonymous q constant m) none = holds 1 m.pos (denotes_type known m.decl) (nil_left _ _ none)
  typed_mark of none = refl

  is_formal : (f : FormalInfo) (m : Mode) (of : Code) (d : ℕ) (first : Bool) (w : List ℕ) → made f.of → IsThrough f → Declared m d → IsOf known d (indicated known d of) kind.Formal
      → indication_faults known of ≡ [] → same_formal table f (record { name = w; mode = m; of = indicated known d of; typed = indicates_type known of; traversed = first }) ≡ true
      → IsFormal y (object_number s d) f
  is_formal f m of d first w make passes found is none same =
      let o : ObjectInfo = is.0 in
      let at : (object_at y (object_number s d)).of ≡ o.of = named d o is.1 (there m d found) in
      let parts = split (same_word f.name w) (same_mode f.mode m) (not (indicates_type known of)) (same_indicated table f.of (indicated known d of)) same (ap not (typed_mark of none)) in
      let one : same_indicated table f.of o.of ≡ true = subst (λ t. same_indicated table f.of t ≡ true) (sym is.2) parts.2 in
      (mode_at m d found ∙ mode_is f.mode m parts.1, subst (Formed f) (sym at) (formed_as f o.of make (laws.object d o is.1) passes one))

  -- ---- all formals

  abbrev AllMade : List FormalInfo → Type 0
  AllMade fs = AllByRecursion (λ (f : FormalInfo). made f.of × IsThrough f) fs

  -- Each identifier is declared with this mode.
  abbrev pub AllDeclared : Mode → Code → Type 0
  AllDeclared m (More d rest) = Declared m (declared_number d) × AllDeclared m rest
  AllDeclared m ids = Unit {0}

  fit_ids : (first : Bool) (m : Mode) (of ids : Code) (more : List FormalInfo) (xs : List ℕ) → AllDeclared m ids → AreOf known of ids → indication_faults known of ≡ []
      → ((fs : List FormalInfo) → AllMade fs → same_formals table fs more ≡ true → AreFormals y xs fs)
      → (fs : List FormalInfo) → AllMade fs → same_formals table fs (formal_group known first m of ids ++ more) ≡ true
      → AreFormals y (map (λ d. object_number s (declared_number d)) (code_items ids) ++ xs) fs
  fit_ids first m of (More d rest) more xs declared typed none on [] make same = absurd (false≢true same)
  fit_ids first m of (More d rest) more xs declared typed none on (f ∷ fs) make same = (
    is_formal f m of (declared_number d) first (declared_text d) make.0.0 make.0.1 declared.0 typed.0 none (and_left _ _ same),
    fit_ids false m of rest more xs declared.1 typed.1 none on fs make.1 (and_right _ _ same),
  )
  fit_ids first m of ids more xs declared typed none on fs make same = on fs make same

  abbrev pub GroupsDeclared : Code → Type 0
  GroupsDeclared (More (Formals ids m of) rest) = AllDeclared m ids × (indication_faults known of ≡ []) × GroupsDeclared rest
  GroupsDeclared (More group rest) = GroupsDeclared rest
  GroupsDeclared formals = Unit {0}

  fit_groups : (first : Bool) (formals : Code) → GroupsDeclared formals → AreGroupsTyped known formals → (fs : List FormalInfo) → AllMade fs
      → same_formals table fs (formal_infos known first formals) ≡ true → AreFormals y (flat_map (formal_numbers s) (code_items formals)) fs
  fit_groups first (More (Formals ids m of) rest) declared typed fs make same =
      fit_ids first m of ids (formal_infos known false rest) (flat_map (formal_numbers s) (code_items rest)) declared.0 typed.0 declared.1
      (λ gs make same. fit_groups false rest declared.2 typed.1 gs make same) fs make same
  fit_groups first (More group rest) declared typed fs make same = fit_groups false rest declared typed.1 fs make same
  fit_groups first formals declared typed [] make same = tt
  fit_groups first formals declared typed (f ∷ fs) make same = absurd (false≢true same)

  ids_declared : (m : Mode) (ids : Code) (h : Home) (a : ℕ) → ((o : DeclaredObject) → Has (map (object_of h a m) (code_items ids)) o → Has all o) → AllDeclared m ids
  ids_declared m (More d rest) h a into =
      ((object_of h a m d, into (object_of h a m d) (inl refl), refl, refl), ids_declared m rest h a (λ o has. into o (inr has)))
  ids_declared m ids h a into = tt

  groups_declared : (c : Context) → c.known ≡ known → (f : Bool) (r : Option ℕ) (t : Bool) (formals : Code) (h : Home) (a : ℕ) → formals_faults c f r t formals ≡ []
      → ((o : DeclaredObject) → Has (flat_map (home_formals h a) (code_items formals)) o → Has all o) → GroupsDeclared formals
  groups_declared c same f r t (More (Formals ids m of) rest) h a none into = (
    ids_declared m ids h a (λ o has. into o (Has-append_left (map (object_of h a m) (code_items ids)) _ o has)),
    subst (λ k. indication_faults k of ≡ []) same (nil_left (indication_faults c.known of) _ (nil_left (formals_group c f r t (Formals ids m of)) _ none)),
    groups_declared c same f r false rest h a (nil_right (formals_group c f r t (Formals ids m of)) _ none)
        (λ o has. into o (Has-append_right (map (object_of h a m) (code_items ids)) (flat_map (home_formals h a) (code_items rest)) o has)),
  )
  groups_declared c same f r t (More group rest) h a none into = groups_declared c same f r false rest h a none into
  groups_declared c same f r t formals h a none into = tt

  group_names : (first : Bool) (m : Mode) (of ids : Code) → names_in (formal_group known first m of ids) ≡ texts ids
  group_names first m of (More d rest) = ap (λ ws. declared_text d ∷ ws) (group_names false m of rest)
  group_names first m of ids = refl

  all_names : (first : Bool) (formals : Code) → names_in (formal_infos known first formals) ≡ formal_texts formals
  all_names first (More (Formals ids m of) rest) =
      sym (map_append (λ (f : FormalInfo). f.name) (formal_group known first m of ids) (formal_infos known false rest))
      ∙ ap (λ ws. ws ++ names_in (formal_infos known false rest)) (group_names first m of ids) ∙ ap (λ ws. texts ids ++ ws) (all_names false rest)
  all_names first (More group rest) = all_names false rest
  all_names first formals = refl

  -- what a front that breaks no sentence says of its formals
  module _ (x formals result : Code) (good : IsGoodFront known all (Front x formals result)) where
    abbrev n : ℕ
    n = declared_number x

    abbrev c : Context
    c = good.context

    abbrev q : Profile
    q = profile_from c.known n formals result

    abbrev of_formals : List Fault
    of_formals = formals_faults c (is_some q.result) q.result (is_traversal c.known q) formals

    pub faultless : front_faults c (Front x formals result) ≡ []
    faultless = nil_left (front_faults c (Front x formals result)) _ good.faultless

    pub none_result : result_faults known result ≡ []
    none_result = subst (λ k. result_faults k result ≡ []) good.same (nil_left (result_faults c.known result) _ faultless)

    pub none_formals : of_formals ≡ []
    none_formals =
        let last : List Fault = demand 6 (declared_pos x) (not (is_traversal c.known q && has_none formals)) in
        nil_left of_formals last (nil_right (result_faults c.known result) (of_formals ++ last) faultless)

    agreed : agrees known (Front x formals result) ≡ true
    agreed =
        subst (λ k. agrees k (Front x formals result) ≡ true) good.same
        (holds 3 (declared_pos x) (agrees c.known (Front x formals result)) (nil_right (front_faults c (Front x formals result)) _ good.faultless))

    pub declared : GroupsDeclared formals
    declared = groups_declared c good.same (is_some q.result) q.result (is_traversal c.known q) formals good.home good.scope none_formals good.declared

    pub same_results : same_result known (profile_of (entry_of known n)).result result ≡ true
    same_results = and_right (same_formals table (formals_of known n) (formal_infos known (anonymous_result result) formals)) _ agreed

    fits : AllMade (formals_of known n) → AreFormals y (flat_map (formal_numbers s) (code_items formals)) (formals_of known n) × AreWordsApart (names_in (formals_of known n))
    fits make =
        let fs : List FormalInfo = formals_of known n in
        let one : same_formals table fs (formal_infos known (anonymous_result result) formals) ≡ true = and_left _ _ agreed in (
          fit_groups (anonymous_result result) formals declared good.typed fs make one,
          names_apart table fs (formal_infos known (anonymous_result result) formals) one (subst AreWordsApart (sym (all_names (anonymous_result result) formals)) good.apart.0),
        )

  front_fits : (front : Code) → IsGoodFront known all front → AllMade (formals_of known (front_number front))
      → AreFormals y (flat_map (formal_numbers s) (front_formals front)) (formals_of known (front_number front)) × AreWordsApart (names_in (formals_of known (front_number front)))
  front_fits (Front x formals result) good make = fits x formals result good make
  front_fits front good make = absurd good.apart

  -- ---- what a traversal goes through

  head_same : (x o : ℕ) (xs rest : List ℕ) → x ∷ xs ≡ o ∷ rest → x ≡ o
  head_same x o xs rest e = cc

  first_access : (k : Context) → k.known ≡ known → (f : Bool) (r : Option ℕ) (formals : Code) → HasFirst formals → formals_faults k f r true formals ≡ [] → GroupsDeclared formals
      → AreGroupsTyped known formals → (o : ℕ) (rest : List ℕ) → flat_map (formal_numbers s) (code_items formals) ≡ o ∷ rest → is_scalar (full table (object_at y o).of) ≡ false
  first_access k same f r formals first = on_first (λ formals. formals_faults k f r true formals ≡ [] → GroupsDeclared formals
      → AreGroupsTyped known formals → (o : ℕ) (rest : List ℕ) → flat_map (formal_numbers s) (code_items formals) ≡ o ∷ rest → is_scalar (full table (object_at y o).of) ≡ false)
      (λ d ids m of more none declared typed o rest e.
      let u : ℕ = indicated known (declared_number d) of in
      let groups : formals_group k f r true (Formals (More d ids) m of) ≡ [] = nil_left (formals_group k f r true (Formals (More d ids) m of)) _ none in
      let here : formal_faults k f r true m of d ≡ []
      = nil_left (formal_faults k f r true m of d) _ (nil_right (indication_faults k.known of) _ groups) in
      let last : not (true && indicates_type k.known of) || is_traversable k r m (indicated k.known (declared_number d) of) ≡ true
      = holds 6 (declared_pos d) (not (true && indicates_type k.known of) || is_traversable k r m (indicated k.known (declared_number d) of))
      (nil_right (demand 6 (declared_pos d) (not (is_anonymous_indication of) || true)) _ (nil_right (demand 3 (declared_pos d) (not f || is_in m)) _ here)) in
      let typed_here : indicates_type k.known of ≡ true = subst (λ z. indicates_type z of ≡ true) (sym same) (typed_mark of declared.1) in
      let passed : is_traversable k r m (indicated k.known (declared_number d) of) ≡ true
      = of_known (not (true && indicates_type k.known of)) _ (ap not typed_here) last in
      let access : is_access (seen k (indicated k.known (declared_number d) of)) ≡ true = and_left (is_access (seen k (indicated k.known (declared_number d) of))) _ (and_right (is_in m) _ passed) in
      let found = is_access_view (seen k (indicated k.known (declared_number d) of)) access in
      let defined : shape_of k.known.table (indicated k.known (declared_number d) of) ≡ shape.Access found.0 found.1 found.2
      = seen_access k (indicated k.known (declared_number d) of) found.0 found.1 found.2 found.3 in
      let shaped : shape_of table u ≡ shape.Access found.0 found.1 found.2
      = subst (λ z. shape_of z.table (indicated z (declared_number d) of) ≡ shape.Access found.0 found.1 found.2) same defined in
      let info : ObjectInfo = typed.0.0.0 in
      let at : (object_at y (object_number s (declared_number d))).of ≡ info.of = named (declared_number d) info typed.0.0.1 (there m (declared_number d) declared.0.0) in
      let name : object_number s (declared_number d) ≡ o = head_same (object_number s (declared_number d)) o _ rest e in
      subst (λ z. is_scalar (full table (object_at y z).of) ≡ false) name
      (ap (λ t. is_scalar (full table t)) (at ∙ typed.0.0.2) ∙ ap (λ z. is_scalar (view_of z)) shaped))
      (λ none declared typed o rest e. absurd (true≢false (ap is_nil e)))
      formals first

  pub seen_anonymous : (v : View) → anonymous_view v ≡ true → is_anonymous v ≡ true
  seen_anonymous (view.Access d constant true) e = absurd (false≢true e)
  seen_anonymous (view.Access d constant false) e = refl
  seen_anonymous (view.Whole low high) e = absurd (true≢false (sym e))
  seen_anonymous (view.Listed low high) e = absurd (true≢false (sym e))
  seen_anonymous (view.Elements low high of) e = absurd (true≢false (sym e))
  seen_anonymous v e = absurd (true≢false (sym e))

  -- The result of the body of a traversal function is of an anonymous access type.
  pub traverses_as : (n t : ℕ) (k : Known) → k ≡ known → (formals result : Code) → IsResult result → result_faults known result ≡ [] → same_result known (Some t) result ≡ true
      → is_anonymous (full table t) ≡ true → t ≡ n → is_traversal k (profile_from k n formals result) ≡ true
  traverses_as n t k same formals (More (Plain m) rest) is none agree anonymous own =
      let denotes : denotes_type known m.decl ≡ true = typed_mark (Plain m) none in
      let other : not (is_anonymous (full table t)) ≡ true = and_left (not (is_anonymous (full table t))) _ (of_known (not (denotes_type known m.decl)) _ (ap not denotes) agree) in
      absurd (true≢false (sym other ∙ ap not anonymous))
  traverses_as n t k same formals (More (Anonymous at constant m) rest) is none agree anonymous own =
      subst (λ (z : Known). is_anonymous (full z.table n) ≡ true) (sym same) (subst (λ u. is_anonymous (full table u) ≡ true) own anonymous)
  traverses_as n t k same formals (More i rest) is none agree anonymous own = absurd is
  traverses_as n t k same formals result is none agree anonymous own = absurd (false≢true agree)

  goes_through : (front : Code) → IsGoodFront known all front → (profile : Profile) → entry_of known (front_number front) ≡ entry.Subprogram profile → (r : Option ℕ) → r ≡ profile.result
      → traverses table r ≡ true → (o : ℕ) (rest : List ℕ) → flat_map (formal_numbers s) (front_formals front) ≡ o ∷ rest → is_scalar (full table (object_at y o).of) ≡ false
  goes_through (Front x formals result) good profile is None same e o rest first = absurd (true≢false (sym e))
  goes_through (Front x formals result) good profile is (Some t) same e o rest first =
      let n : ℕ = declared_number x in
      let c : Context = good.context in
      let q : Profile = profile_from c.known n formals result in
      let anonymous : is_anonymous (full table t) ≡ true = seen_anonymous (full table t) e in
      let own : t ≡ n = views.result_own p formed orderly none_broken own_numbers n t profile is (sym same) anonymous in
      let agree : same_result known (Some t) result ≡ true
      = subst (λ z. same_result known z result ≡ true) (ap (λ z. (profile_of z).result) is ∙ sym same) (same_results x formals result good) in
      let traversal : is_traversal c.known q ≡ true
      = traverses_as n t c.known good.same formals result good.apart.2 (none_result x formals result good) agree anonymous own in
      let none : formals_faults c (is_some q.result) q.result true formals ≡ []
      = subst (λ b. formals_faults c (is_some q.result) q.result b formals ≡ []) traversal (none_formals x formals result good) in
      first_access c good.same (is_some q.result) q.result formals good.apart.1 none (declared x formals result good) good.typed o rest first
  goes_through front good profile is r same e o rest first = absurd good.apart

  abbrev no_signature : Signature
  no_signature = record { formals = []; result = None }

  all_made : (fs : List FormalInfo) → ((i : ℕ) → made (get_or fs i no_formal).of) → AllByRecursion IsThrough fs → AllMade fs
  all_made [] make passes = tt
  all_made (f ∷ fs) make passes = ((make zero, passes.0), all_made fs (λ i. make (suc i)) passes.1)

  first_through : ((u : Code) → Has p.units u → AllFronts IsFrontApart IsFrontApart u) → (d : ℕ) (profile : Profile) → entry_of known d ≡ entry.Subprogram profile
      → (r : Option ℕ) → r ≡ profile.result → traverses table r ≡ true → (f : FormalInfo) (rest : List FormalInfo) → formals_of known d ≡ f ∷ rest → f.traversed ≡ true
  first_through fronts d profile is None same e f rest list = absurd (true≢false (sym e))
  first_through fronts d profile is (Some t) same e f rest list =
      views.first_traversed p formed orderly none_broken own_numbers fronts d t profile is (sym same) (seen_anonymous (full table t) e) f rest
      (ap (λ z. (profile_of z).formals) (sym is) ∙ list)

  -- The law: what is asked of subprograms that are called, where formals of profiles have types that are made.
  pub are_profiled : ((u : Code) → Has p.units u → code_faults (outside known) u ≡ []) → ((u : Code) → Has p.units u → AreTyped made (outside known) u)
      → ((u : Code) → Has p.units u → AreFormalsApart u) → ((u : Code) → Has p.units u → AllFronts IsFrontApart IsFrontApart u)
      → ((d : ℕ) (profile : Profile) → entry_of known d ≡ entry.Subprogram profile → Has s.bodies d)
      → ((d i : ℕ) → made (get_or (formals_of known d) i no_formal).of) → AreProfiled known s.bodies y made
  unfolding typed_program
  are_profiled faultless typed apart grammar bodied making d profile is =
      let h : Home = record { known = known; identifier = None } in
      let i : ℕ = position_or_len (nat_eq d) s.bodies in
      let fronts = units_fronts p.units all made s h 1 p.units faultless typed apart (λ o has. has) in
      let found = at_place (HasFront s all) d s.bodies (map signature (over_units (subs_in s) 1 p.units)) no_signature fronts (bodied d profile is) in
      let next : suc i ≡ i + 1 = omega arith in
      let here : HasFront s all d (sub_at y (i + 1)) = subst (λ k. HasFront s all d (get_or (signature (elaboration s p.units) ∷ map signature (over_units (subs_in s) 1 p.units)) k no_signature)) next found in
      let number : d ≡ front_number here.front = sym here.number in
      let known_here : entry_of known (front_number here.front) ≡ entry.Subprogram profile = subst (λ n. entry_of known n ≡ entry.Subprogram profile) number is in
      let passes : AllByRecursion IsThrough (formals_of known (front_number here.front))
      = subst (λ z. AllByRecursion IsThrough (profile_of z).formals) (sym known_here)
      (views.formals_through p formed orderly none_broken own_numbers (front_number here.front) profile known_here) in
      let fits = front_fits here.front here.good (all_made (formals_of known (front_number here.front)) (making (front_number here.front)) passes) in
      record {
        formals = subst (λ n. AreFormals y (sub_at y (i + 1)).formals (formals_of known n)) here.number
            (subst (λ xs. AreFormals y xs (formals_of known (front_number here.front))) (sym here.formals) fits.0);
        result = here.result;
        types = making d;
        names = λ k v less same. by_its_name (formals_of known d) k v (subst (λ n. AreWordsApart (names_in (formals_of known n))) here.number fits.1) less same;
        through = λ e o rest first.
            goes_through here.front here.good profile known_here (sub_at y (i + 1)).result (here.result ∙ ap (λ z. (profile_of z).result) is) e o rest (sym here.formals ∙ first);
        first = λ e f rest list. first_through grammar d profile is (sub_at y (i + 1)).result (here.result ∙ ap (λ z. (profile_of z).result) is) e f rest list;
      }
