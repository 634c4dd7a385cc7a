-- The main procedure of a program without a fault of typing has no formals.
use Rattle.std.proofs.Common.{◌≡◌, refl, sym, ap, ◌∙◌, subst, inl, inr, ℕ, zero, suc, ◌+◌, Bool, true, false, ◌&&◌, nat_eq, List, [], ◌∷◌, ◌++◌, map, length, get_or, arith, Some, None}
use Rattle.std.proofs.lemmas.Bool.{false≢true, true≢false}
use Rattle.std.specs.Prelude.{flat_map}
use Rattle.std.specs.List.{position_or_len}
use Rattle.machine.specs.spark_base.Lists.{Has}
use Rattle.machine.specs.spark_base.declared.position.Pos.{Pos}
use Rattle.machine.specs.resolved_tree.Trees.{Code, Front, Formals, SubBody, PackageBody, More, code_items, Program}
use Rattle.machine.specs.type_definitions.declared.table.FormalInfo.{FormalInfo}
use Rattle.machine.specs.type_definitions.declared.table.Known.{Known}
use Rattle.machine.specs.type_definitions.Types.{Table, is_nil}
use Rattle.machine.specs.type_definitions.Names.{Context}
use Rattle.machine.specs.type_definitions.Faults.{demand}
use Rattle.machine.specs.type_definitions.Entries.{entry_of}
use Rattle.machine.specs.type_definitions.Expressions.{profile_of}
use Rattle.machine.specs.type_definitions.Gathered.{front_number, in_hidden, declared_number, formal_infos, formal_groups, anonymous_result}
use Rattle.machine.specs.type_definitions.Declarations.{code_faults, body_faults, front_faults, front_pos, agrees, in_body, same_formals, same_result, has_none}
use Rattle.machine.specs.type_definitions.Whole.{outside, known_of, is_formless, type_fault}
use Rattle.machine.specs.typed_tree.Expressions.{Site, object_number}
use Rattle.machine.specs.typed_tree.Statements.{scope_count}
use Rattle.machine.specs.typed_tree.Programs.{TypedSub, subs_in, placed, bodies_in, over_units, site_of, formal_numbers, front_formals, typed_program}
use Rattle.settled_types.proofs.Cases.{is_front, items_end, on_front, on_more}
use Rattle.settled_types.proofs.OrderLaws.ScopeLaws.Lists.{and_first}
use Rattle.settled_types.specs.OrderLaws.ReadyLaws.InOrder.{IsSub}
use Rattle.settled_types.specs.OrderLaws.Written.{is_procedure, is_unit, are_declarations, are_statements}
use Rattle.settled_types.specs.OrderLaws.Orderly.{typed_of, bodies_of}
use Rattle.settled_types.proofs.OrderLaws.Faults.{units_faultless, mains_faultless}
use Rattle.settled_types.proofs.OrderLaws.Mains.{main_unit, nothing_left, nothing_right, demanded}
use Rattle.settled_types.proofs.OrderLaws.Parts.{either, same_number, number_here, number_later}

-- ---- fronts

none_same : (table : Table) (gs : List FormalInfo) → same_formals table [] gs ≡ true → gs ≡ []
none_same table [] e = refl
none_same table (g ∷ gs) e = absurd (false≢true e)

same_none : (table : Table) (fs : List FormalInfo) → same_formals table fs [] ≡ true → fs ≡ []
same_none table [] e = refl
same_none table (f ∷ fs) e = absurd (false≢true e)

abbrev formals_in : Known → ℕ → List FormalInfo
formals_in known d = (profile_of (entry_of known d)).formals

nothing_front : (a b : List FormalInfo) → a ++ b ≡ [] → a ≡ []
nothing_front [] b e = refl
nothing_front (x ∷ a) b e = absurd (false≢true (ap is_nil e))

nothing_behind : (a b : List FormalInfo) → a ++ b ≡ [] → b ≡ []
nothing_behind [] b e = e
nothing_behind (x ∷ a) b e = absurd (false≢true (ap is_nil e))

both : (a b : List ℕ) → a ≡ [] → b ≡ [] → a ++ b ≡ []
both [] b e f = f
both (x ∷ a) b e f = absurd (false≢true (ap is_nil e))

-- Where nothing is gathered of formals, none has a number.
each_none : (s : Site) (known : Known) (first : Bool) (formals : Code) → formal_infos known first formals ≡ [] → flat_map (formal_numbers s) (code_items formals) ≡ []
each_none s known first (More group rest) none =
    both (formal_numbers s group) (flat_map (formal_numbers s) (code_items rest)) (group_none group (nothing_front (formal_groups known first group) (formal_infos known false rest) none))
    (each_none s known false rest (nothing_behind (formal_groups known first group) (formal_infos known false rest) none))
  where
    group_none : (group : Code) → formal_groups known first group ≡ [] → formal_numbers s group ≡ []
    group_none (Formals ids m of) e = ids_none ids e
      where
        ids_none : (ids : Code) → formal_groups known first (Formals ids m of) ≡ [] → map (λ d. object_number s (declared_number d)) (code_items ids) ≡ []
        ids_none = on_more (λ ids. formal_groups known first (Formals ids m of) ≡ [] → map (λ d. object_number s (declared_number d)) (code_items ids) ≡ [])
            (λ d ids _ e.
            absurd (false≢true (ap is_nil e)))
            (λ ids other e. rw (items_end ids other) (refl))
    group_none group e = refl
each_none s known first formals none = refl

-- A body without faults has formals as its declaration.
pub front_agrees : (c : Context) (front items stmts : Code) (end : Pos) → code_faults c (SubBody front items stmts end) ≡ [] → agrees c.known front ≡ true
unfolding code_faults
front_agrees c front items stmts end none =
    demanded 3 (front_pos front) (agrees c.known front)
    (nothing_right (front_faults c front) (demand 3 (front_pos front) (agrees c.known front))
    (nothing_left (body_faults c front) (code_faults (in_body front c) items ++ code_faults (in_body front c) stmts) none))

front_plain : (s : Site) (known : Known) (front : Code) → agrees known front ≡ true → formals_in known (front_number front) ≡ [] → flat_map (formal_numbers s) (front_formals front) ≡ []
front_plain s known (Front d formals result) agree none =
    each_none s known (anonymous_result result) formals
    (none_same known.table (formal_infos known (anonymous_result result) formals)
    (subst (λ fs. same_formals known.table fs (formal_infos known (anonymous_result result) formals) ≡ true) none
    (and_first (same_formals known.table (formals_in known (declared_number d)) (formal_infos known (anonymous_result result) formals))
    (same_result known (profile_of (entry_of known (declared_number d))).result result) agree)))
front_plain s known front agree none = refl

no_infos : (known : Known) (first : Bool) (formals : Code) → has_none formals ≡ true → formal_infos known first formals ≡ []
no_infos known first (More a rest) none = absurd (false≢true none)
no_infos known first formals none = refl

no_procedure : (front : Code) → is_front front ≡ false → is_procedure front ≡ true → ⊥
no_procedure (Front d formals result) other procedure = true≢false other
no_procedure _ other procedure = false≢true procedure

main_plain : (known : Known) (front : Code) → is_procedure front ≡ true → agrees known front ≡ true → is_formless front ≡ true → formals_in known (front_number front) ≡ []
main_plain known = on_front (λ front. is_procedure front ≡ true → agrees known front ≡ true → is_formless front ≡ true → formals_in known (front_number front) ≡ [])
    (λ d formals result procedure agree none.
    let there : List FormalInfo = formals_in known (declared_number d) in
    let here : List FormalInfo = formal_infos known (anonymous_result result) formals in
    same_none known.table there
    (subst (λ fs. same_formals known.table there fs ≡ true) (no_infos known (anonymous_result result) formals none)
    (and_first (same_formals known.table there here) (same_result known (profile_of (entry_of known (declared_number d))).result result) agree)))
    (λ front other procedure agree none. absurd (no_procedure front other procedure))

-- ---- subprograms and the numbers of their declarations

-- Where the declaration has no formals, the subprogram has none.
abbrev Aligned : Known → List ℕ → List TypedSub → Type 0
Aligned known [] [] = Unit {0}
Aligned known (d ∷ ds) (sub ∷ subs) = (formals_in known d ≡ [] → sub.formals ≡ []) × Aligned known ds subs
Aligned known _ _ = ⊥

aligned_both : (known : Known) (ds es : List ℕ) (subs more : List TypedSub) → Aligned known ds subs → Aligned known es more → Aligned known (ds ++ es) (subs ++ more)
aligned_both known [] es [] more h g = g
aligned_both known [] es (sub ∷ subs) more h g = absurd h
aligned_both known (d ∷ ds) es [] more h g = absurd h
aligned_both known (d ∷ ds) es (sub ∷ subs) more h g = (h.0, aligned_both known ds es subs more h.1 g)

code_aligned : (s : Site) (n : ℕ) (c : Context) (code : Code) → code_faults c code ≡ [] → Aligned c.known (bodies_in code) (subs_in s n code)
unfolding bodies_in subs_in code_faults
code_aligned s n c (SubBody front items stmts end) none = ((λ plain. front_plain s c.known front (front_agrees c front items stmts end none) plain), tt)
code_aligned s n c (PackageBody d parts) none = code_aligned (placed (in_hidden (declared_number d)) s) n (in_hidden (declared_number d) c) parts none
code_aligned s n c (More a rest) none =
    aligned_both c.known (bodies_in a) (bodies_in rest) (subs_in s n a) (subs_in s (n + scope_count a) rest)
    (code_aligned s n c a (nothing_left (code_faults c a) (code_faults c rest) none)) (code_aligned s (n + scope_count a) c rest (nothing_right (code_faults c a) (code_faults c rest) none))
code_aligned s n c _ none = tt

units_aligned : (s : Site) (n : ℕ) (c : Context) (us : List Code) → ((u : Code) → Has us u → code_faults c u ≡ []) → Aligned c.known (flat_map bodies_in us) (over_units (subs_in s) n us)
units_aligned s n c [] none = tt
units_aligned s n c (u ∷ us) none =
    aligned_both c.known (bodies_in u) (flat_map bodies_in us) (subs_in s n u) (over_units (subs_in s) (n + scope_count u) us) (code_aligned s n c u (none u (inl refl)))
    (units_aligned s (n + scope_count u) c us (λ v has. none v (inr has)))

abbrev is_zero : ℕ → Bool
is_zero zero = true
is_zero (suc n) = false

abbrev below : ℕ → ℕ
below zero = zero
below (suc n) = n

abbrev subs_behind : List TypedSub → List TypedSub
subs_behind [] = []
subs_behind (x ∷ xs) = xs

first_sub : (s sub : TypedSub) (subs : List TypedSub) → IsSub (s ∷ subs) 0 sub → s ≡ sub
first_sub s sub subs ([], rest, is, long) = ap (λ subs. get_or subs 0 s) is
first_sub s sub subs (x ∷ front, rest, is, long) = absurd (false≢true (ap is_zero long))

tails : (s x : TypedSub) (xs ys : List TypedSub) → s ∷ xs ≡ x ∷ ys → xs ≡ ys
tails s x xs ys e = ap subs_behind e

less : (a b : ℕ) → suc a ≡ suc b → a ≡ b
less a b e = ap below e

later_sub : (s sub : TypedSub) (subs : List TypedSub) (k : ℕ) → IsSub (s ∷ subs) (suc k) sub → IsSub subs k sub
later_sub s sub subs k ([], rest, is, long) = absurd (true≢false (ap is_zero long))
later_sub s sub subs k (x ∷ front, rest, is, long) = (front, rest, tails s x subs (front ++ sub ∷ rest) is, less (length front) k long)

suc_is : (n : ℕ) → 1 + n ≡ suc n
suc_is n = omega arith

-- The first body of a declaration without formals has none.
aligned_at : (known : Known) (ds : List ℕ) (subs : List TypedSub) → Aligned known ds subs → (d : ℕ) (sub : TypedSub) → IsSub subs (position_or_len (nat_eq d) ds) sub
    → formals_in known d ≡ [] → sub.formals ≡ []
aligned_at known [] [] h d sub ([], rest, is, long) none = absurd (true≢false (ap is_nil is))
aligned_at known [] [] h d sub (x ∷ front, rest, is, long) none = absurd (true≢false (ap is_nil is))
aligned_at known [] (s ∷ subs) h d sub stands none = absurd h
aligned_at known (e ∷ ds) [] h d sub stands none = absurd h
aligned_at known (e ∷ ds) (s ∷ subs) h d sub stands none = elim (either (nat_eq d e)) [
  | inl here ↦ (
      let first : s ≡ sub = first_sub s sub subs (subst (λ k. IsSub (s ∷ subs) k sub) (number_here d e ds here) stands) in
      ap (λ (z : TypedSub). z.formals) (sym first) ∙ h.0 (ap (formals_in known) (sym (same_number d e here)) ∙ none))
  | inr other ↦ aligned_at known ds subs h.1 d sub
      (later_sub s sub subs (position_or_len (nat_eq d) ds) (subst (λ k. IsSub (s ∷ subs) k sub) (number_later d e ds other ∙ suc_is (position_or_len (nat_eq d) ds)) stands)) none
]

-- ---- the main procedure

one_less : (a b : ℕ) → suc a ≡ b + 1 → a ≡ b
one_less a b e = omega arith

module _ (p : Program) (no_fault : type_fault p ≡ None) (written : (u : Code) → Has p.units u → is_unit u ≡ true) where
  abbrev site : Site
  site = site_of (known_of p) p.units

  pub main_formless : (n : ℕ) (sub : TypedSub) → (typed_of p).main ≡ Some (suc n) → IsSub (bodies_of p) n sub → sub.formals ≡ []
  unfolding typed_program
  main_formless n sub main stands =
      let unit = main_unit site p.units (suc n) main in
      let front : Code = unit.0 in
      let faults = units_faultless p no_fault (SubBody front unit.1 unit.2 unit.3) unit.4 in
      let agree = front_agrees (outside (known_of p)) front unit.1 unit.2 unit.3 faults in
      let procedure = and_first (is_procedure front) (are_declarations unit.1 && are_statements false unit.2) (written (SubBody front unit.1 unit.2 unit.3) unit.4) in
      let formless = demanded 3 (front_pos front) (is_formless front) (mains_faultless p no_fault (SubBody front unit.1 unit.2 unit.3) unit.4) in
      aligned_at (known_of p) (flat_map bodies_in p.units) (over_units (subs_in site) 1 p.units)
      (units_aligned site 1 (outside (known_of p)) p.units (units_faultless p no_fault)) (front_number front) sub
      (subst (λ k. IsSub (bodies_of p) k sub) (one_less n (position_or_len (nat_eq (front_number front)) (flat_map bodies_in p.units)) unit.5) stands)
      (main_plain (known_of p) front procedure agree formless)
