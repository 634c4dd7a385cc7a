-- What the fronts of bodies say of traversal functions: each has a first formal, of mode `in` and of an access type; and
-- formals of anonymous access types are such.
use Rattle.std.proofs.Common.{◌≡◌, ◌⊎◌, inl, inr, refl, sym, ap, ◌∙◌, subst, ℕ, zero, suc, Bool, true, false, not, ◌&&◌, ◌||◌, Option, List, [], ◌∷◌, ◌++◌, map, get_or, Some, None, true≢false, IsTrue}
use Rattle.std.specs.Prelude.{flat_map, is_some}
use Rattle.machine.specs.spark_base.Lists.{Has}
use Rattle.soundness.proofs.Lists.{Has-append_cases}
use Rattle.machine.specs.place_names.declared.act.Mode.{Mode}
use Rattle.machine.specs.place_names.declared.act.Mode.TheVariants as mode
use Rattle.machine.specs.resolved_tree.Trees.{Code, More, Plain, Anonymous, Formals, Front, Program, code_items}
use Rattle.machine.specs.type_definitions.declared.judgement.Fault.{Fault}
use Rattle.machine.specs.type_definitions.declared.judgement.View.{View}
use Rattle.machine.specs.type_definitions.declared.judgement.View.TheVariants as view
use Rattle.machine.specs.type_definitions.declared.table.Entry.{Entry}
use Rattle.machine.specs.type_definitions.declared.table.Entry.TheVariants as entry
use Rattle.machine.specs.type_definitions.declared.table.Known.{Known}
use Rattle.machine.specs.type_definitions.declared.table.ObjectInfo.{ObjectInfo}
use Rattle.machine.specs.type_definitions.declared.table.Profile.{Profile}
use Rattle.machine.specs.type_definitions.declared.table.Shape.TheVariants as shape
use Rattle.machine.specs.type_definitions.Types.{Table, full, shape_of}
use Rattle.machine.specs.type_definitions.Faults.{demand}
use Rattle.machine.specs.type_definitions.Entries.{entry_of, integer, marked, denotes_type}
use Rattle.machine.specs.type_definitions.Names.{Context, seen}
use Rattle.machine.specs.type_definitions.Expressions.{profile_of, is_access, is_anonymous, is_in, is_traversal}
use Rattle.machine.specs.type_definitions.Gathered.{is_anonymous_indication, declared_pos, declared_number, front_number, indicated, indicates_type, profile_from}
use Rattle.machine.specs.type_definitions.Declarations.{code_faults, same_access, same_result, indication_faults, result_faults, group_faults, formals_group, formals_faults, formal_faults, is_traversable, has_none}
use Rattle.machine.specs.type_definitions.Whole.{outside, known_of, type_fault}
use Rattle.machine.specs.typed_tree.Expressions.{Site, object_number}
use Rattle.machine.specs.typed_tree.Programs.{DeclaredObject, front_formals, formal_numbers, bodies_in, over_units, subs_in, program_objects, text_io, typed_program}
use Rattle.machine.specs.flow_paths.Objects.{Typing, Signature, object_at, sub_at, traverses, is_anonymous as anonymous_view}
use Rattle.machine.specs.flow_paths.Laid.{signature}
use Rattle.machine.specs.flow_paths.Views.{traversed_of}
use Rattle.std.specs.List.{position_or_len}
use Rattle.std.specs.Prelude.{nat_eq}
use Rattle.std.proofs.lemmas.Bool.{false≢true, true≢false}
use Rattle.soundness.specs.TypedLaws.Fine.{Laws}
use Rattle.soundness.proofs.TypedLaws.Agreeing.{of_known, holds, nil_left, nil_right, and_left, and_right}
use Rattle.soundness.proofs.TypedLaws.Steps.{seen_access}
use Rattle.sound_files.proofs.TypedFiles.FirstFormals.{on_first}
use Rattle.soundness.proofs.TypedLaws.Cases.{is_access_view}
use Rattle.settled_types.specs.OrderLaws.ScopeLaws.Code.{Once}
use Rattle.settled_types.specs.GatheredLaws.Views.{AreViewsApart}
use Rattle.settled_types.proofs.AnonymousTypes.Main as views
use Rattle.type_sizes.specs.Formed.{all_formed}
use Rattle.settled_types.specs.Orderly.{IsOrderly}
use Rattle.settled_types.specs.NamedFiles.Formals.{HasFirst, AreFormalsApart}
use Rattle.sound_files.specs.MeantFiles.Typed.{AreOf, AreGroupsTyped, AreTyped}
use Rattle.sound_files.specs.TypedFiles.TypedRuns.Meant.{site_in, typing_laid}
use Rattle.sound_files.proofs.TypedFiles.Profiled.{Pairs, HasFront, IsGoodFront, units_fronts}
use Rattle.sound_files.proofs.TypedFiles.Profiled as profiled

-- What stands at a place, with its number.
at_index : {B : Type 0} (R : ℕ → B → Type 0) (ns : List ℕ) (vs : List B) (i : ℕ) (fallback : B) → Pairs R ns vs
    → (get_or vs i fallback ≡ fallback) ⊎ ((d : ℕ) × R d (get_or vs i fallback))
at_index R [] [] i fallback h = inl refl
at_index R (n ∷ ns) (v ∷ vs) zero fallback h = inr (n, h.0)
at_index R (n ∷ ns) (v ∷ vs) (suc i) fallback h = at_index R ns vs i fallback h.1
at_index R [] (v ∷ vs) i fallback h = absurd h
at_index R (n ∷ ns) [] i fallback h = absurd h

function_entry : (e : Entry) (t : ℕ) → (profile_of e).result ≡ Some t → (q : Profile) × (e ≡ entry.Subprogram q)
function_entry (entry.Subprogram q) t is = (q, refl)
function_entry e t is = absurd (false≢true (ap is_some is))

view_shown : (v : View) → is_anonymous v ≡ true → anonymous_view v ≡ true
view_shown (view.Access d true false) e = refl
view_shown (view.Access d false false) e = refl
view_shown (view.Access d k true) e = absurd (false≢true e)
view_shown v e = absurd (false≢true e)

mode_in : (m : Mode) → is_in m ≡ true → m ≡ mode.In
mode_in mode.In e = refl
mode_in mode.Out e = absurd (false≢true e)
mode_in mode.InOut e = absurd (false≢true e)

abbrev no_signature : Signature
no_signature = record { formals = []; result = None }

plain_view : (v : View) → is_anonymous v ≡ false → anonymous_view v ≡ false
plain_view (view.Access d k true) e = refl
plain_view (view.Access d k false) e = absurd (true≢false e)
plain_view (view.Whole low high) e = refl
plain_view (view.Listed low high) e = refl
plain_view (view.Elements low high of) e = refl
plain_view v e = refl

some_there : (a b : Bool) → a ≡ true → not (a && b) ≡ true → b ≡ false
some_there true true is h = sym h
some_there true false is h = refl
some_there false b is h = absurd (false≢true is)

module _ (p : Program) (formed : IsTrue (all_formed p.units)) (orderly : IsOrderly p) (none_broken : type_fault p ≡ None) (own_numbers : AreViewsApart p.units)
    (made : ℕ → Type 0) (laws : Laws (known_of p) made) (once : Once (map (λ (o : DeclaredObject). o.number) (program_objects (known_of p) p.units)))
    (laid : (d : ℕ) → Has (site_in p).objects d → object_at (typing_laid p) (object_number (site_in p) d) ≡ get_or (map (λ (o : DeclaredObject). o.object) (program_objects (known_of p) p.units)) (position_or_len (nat_eq d) (site_in p).objects) text_io)
    (named : (d : ℕ) (o : ObjectInfo) → entry_of (known_of p) d ≡ entry.Object o → Has (site_in p).objects d → (object_at (typing_laid p) (object_number (site_in p) d)).of ≡ o.of) where
  abbrev known : Known
  known = known_of p

  abbrev table : Table
  table = (known_of p).table

  abbrev s : Site
  s = site_in p

  abbrev y : Typing
  y = typing_laid p

  abbrev all : List DeclaredObject
  all = program_objects (known_of p) p.units

  abbrev Declares : Code → Type 0
  Declares = profiled.GroupsDeclared p formed orderly none_broken own_numbers made laws once laid named

  abbrev AllDeclared : Mode → Code → Type 0
  AllDeclared = profiled.AllDeclared p formed orderly none_broken own_numbers made laws once laid named

  -- ---- anonymous formals

  type_at : (m : Mode) (of d more : Code) → AllDeclared m (More d more) → AreOf known of (More d more) → (object_at y (object_number s (declared_number d))).of ≡ indicated known (declared_number d) of
  type_at m of d more declared typed =
      named (declared_number d) typed.0.0 typed.0.1 (profiled.there p formed orderly none_broken own_numbers made laws once laid named m (declared_number d) declared.0) ∙ typed.0.2

  -- what isn't indicated as such is none
  indicated_plain : (d : ℕ) (of : Code) → anonymous_view (full table (indicated known d of)) ≡ true → is_anonymous_indication of ≡ true
  indicated_plain d (Anonymous q constant m) is = refl
  indicated_plain d (Plain m) is = absurd (true≢false (sym is ∙ plain_view (full table (marked known m)) (views.mark_plain p formed orderly none_broken own_numbers m)))
  indicated_plain d of is = absurd (true≢false (sym is ∙ integer_plain))
    where
      integer_plain : anonymous_view (full table integer) ≡ false
      integer_plain = plain_view (full table integer) (views.integer_plain p formed orderly none_broken own_numbers)

  abbrev IsFirst : Bool → List ℕ → ℕ → Type 0
  IsFirst traversed xs x = (traversed ≡ true) × (rest : List ℕ) × (xs ≡ x ∷ rest)

  -- one that isn't traversed is no first one
  ids_first : (k : Context) (f : Bool) (r : Option ℕ) (traversed : Bool) (m : Mode) (of ids : Code) (x : ℕ) → k.known ≡ known → group_faults k f r traversed m of ids ≡ []
      → AllDeclared m ids → AreOf known of ids → Has (map (λ d. object_number s (declared_number d)) (code_items ids)) x → anonymous_view (full table (object_at y x).of) ≡ true
      → IsFirst traversed (map (λ d. object_number s (declared_number d)) (code_items ids)) x
  ids_first k f r traversed m of (More d rest) x same none declared typed (inl here) view =
      let own : (object_at y x).of ≡ indicated known (declared_number d) of = subst (λ z. (object_at y z).of ≡ indicated known (declared_number d) of) here (type_at m of d rest declared typed) in
      let unnamed = indicated_plain (declared_number d) of (subst (λ t. anonymous_view (full table t) ≡ true) own view) in
      let faults = nil_left (formal_faults k f r traversed m of d) _ none in
      let free = holds 6 (declared_pos d) (not (is_anonymous_indication of) || traversed) (nil_left _ _ (nil_right (demand 3 (declared_pos d) (not f || is_in m)) _ faults)) in
      (of_known (not (is_anonymous_indication of)) traversed (ap not unnamed) free, map (λ z. object_number s (declared_number z)) (code_items rest), ap (λ z. z ∷ map (λ z. object_number s (declared_number z)) (code_items rest)) here)
  ids_first k f r traversed m of (More d rest) x same none declared typed (inr more) view =
      let later = ids_first k f r false m of rest x same (nil_right (formal_faults k f r traversed m of d) _ none) declared.1 typed.1 more view in
      absurd (true≢false (sym later.0))
  ids_first k f r traversed m of ids x same none declared typed has view = absurd has

  later_none : (k : Context) (f : Bool) (r : Option ℕ) (formals : Code) (x : ℕ) → k.known ≡ known → formals_faults k f r false formals ≡ []
      → Declares formals → AreGroupsTyped known formals → Has (flat_map (formal_numbers s) (code_items formals)) x → anonymous_view (full table (object_at y x).of) ≡ true → ⊥
  later_none k f r (More (Formals ids m of) more) x same none declared typed has view =
      let here : List ℕ = map (λ z. object_number s (declared_number z)) (code_items ids) in
      let later : List ℕ = flat_map (formal_numbers s) (code_items more) in
      let group = nil_left (formals_group k f r false (Formals ids m of)) (formals_faults k f r false more) none in
      elim (Has-append_cases here later x has) [
        | inl mine ↦ (
            let one = ids_first k f r false m of ids x same (nil_right (indication_faults k.known of) _ group) declared.0 typed.0 mine view in
            true≢false (sym one.0))
        | inr other ↦ later_none k f r more x same (nil_right (formals_group k f r false (Formals ids m of)) (formals_faults k f r false more) none) declared.2 typed.1 other view
      ]
  later_none k f r (More group more) x same none declared typed has view = later_none k f r more x same none declared typed.1 has view
  later_none k f r formals x same none declared typed has view = absurd has

  groups_first : (k : Context) (f : Bool) (r : Option ℕ) (traversed : Bool) (formals : Code) (x : ℕ) → k.known ≡ known → HasFirst formals → formals_faults k f r traversed formals ≡ []
      → Declares formals → AreGroupsTyped known formals → Has (flat_map (formal_numbers s) (code_items formals)) x → anonymous_view (full table (object_at y x).of) ≡ true
      → IsFirst traversed (flat_map (formal_numbers s) (code_items formals)) x
  groups_first k f r traversed formals x same first = on_first (λ formals. formals_faults k f r traversed formals ≡ [] → Declares formals → AreGroupsTyped known formals
      → Has (flat_map (formal_numbers s) (code_items formals)) x → anonymous_view (full table (object_at y x).of) ≡ true
      → IsFirst traversed (flat_map (formal_numbers s) (code_items formals)) x)
      (λ d ids m of more none declared typed has view.
      let here : List ℕ = map (λ z. object_number s (declared_number z)) (code_items (More d ids)) in
      let later : List ℕ = flat_map (formal_numbers s) (code_items more) in
      let group = nil_left (formals_group k f r traversed (Formals (More d ids) m of)) (formals_faults k f r false more) none in
      elim (Has-append_cases here later x has) [
        | inl mine ↦ (
            let one = ids_first k f r traversed m of (More d ids) x same (nil_right (indication_faults k.known of) _ group) declared.0 typed.0 mine view in
            (one.0, one.1 ++ later, ap (λ zs. zs ++ later) one.2))
        | inr other ↦ absurd (later_none k f r more x same (nil_right (formals_group k f r traversed (Formals (More d ids) m of)) (formals_faults k f r false more) none) declared.2 typed.1 other view)
      ])
      (λ none declared typed has view. absurd has)
      formals first

  -- where a front is that of a traversal function, so is the profile of its declaration
  result_shown : (k : Known) → k ≡ known → (n : ℕ) (formals result : Code) (r : Option ℕ) → result_faults known result ≡ [] → same_result known r result ≡ true
      → is_traversal k (profile_from k n formals result) ≡ true → traverses table r ≡ true
  result_shown k same n formals (More (Anonymous at constant m) rest) None none agree is = absurd (true≢false (sym agree))
  result_shown k same n formals (More (Anonymous at constant m) rest) (Some t) none agree is =
      let denotes : denotes_type known m.decl ≡ true = holds 1 m.pos (denotes_type known m.decl) (nil_left _ _ none) in
      let access : same_access table t constant (marked known m) ≡ true = of_known (not (denotes_type known m.decl)) _ (ap not denotes) agree in
      view_shown (full table t) (and_left (is_anonymous (full table t)) _ access)
  result_shown k same n formals (More (Plain m) rest) r none agree is =
      absurd (true≢false (sym is ∙ subst (λ (z : Known). is_anonymous (full z.table (marked z m)) ≡ false) (sym same) (views.mark_plain p formed orderly none_broken own_numbers m)))
  result_shown k same n formals (More i rest) r none agree is =
      absurd (true≢false (sym is ∙ subst (λ (z : Known). is_anonymous (full z.table integer) ≡ false) (sym same) (views.integer_plain p formed orderly none_broken own_numbers)))
  result_shown k same n formals result r none agree is = absurd (true≢false (sym is))

  -- ---- the front of a body

  anonymous_first : (x formals result : Code) (good : IsGoodFront known all (Front x formals result)) (r : Option ℕ) → r ≡ (profile_of (entry_of known (declared_number x))).result
      → (z : ℕ) → Has (flat_map (formal_numbers s) (code_items formals)) z → anonymous_view (full table (object_at y z).of) ≡ true
      → traversed_of (traverses table r) (flat_map (formal_numbers s) (code_items formals)) ≡ Some z
  anonymous_first x formals result good r same z has view =
      let c : Context = good.context in
      let q : Profile = profile_from c.known (declared_number x) formals result in
      let one = groups_first c (is_some q.result) q.result (is_traversal c.known q) formals z good.same good.apart.1
      (profiled.none_formals p formed orderly none_broken own_numbers made laws once laid named x formals result good)
      (profiled.declared p formed orderly none_broken own_numbers made laws once laid named x formals result good) good.typed has view in
      let gives : traverses table r ≡ true
      = result_shown c.known good.same (declared_number x) formals result r (profiled.none_result p formed orderly none_broken own_numbers made laws once laid named x formals result good)
      (subst (λ o. same_result known o result ≡ true) (sym same) (profiled.same_results p formed orderly none_broken own_numbers made laws once laid named x formals result good)) one.0 in
      ap (λ b. traversed_of b (flat_map (formal_numbers s) (code_items formals))) gives ∙ ap (traversed_of true) one.2

  abbrev IsTraversable : List ℕ → Type 0
  IsTraversable xs =
      (f : ℕ) × (rest : List ℕ) × (xs ≡ f ∷ rest) × ((object_at y f).mode ≡ mode.In)
      × (d : ℕ) × (k : Bool) × (n : Bool) × (shape_of table (object_at y f).of ≡ shape.Access d k n)

  first_there : (k : Context) → k.known ≡ known → (f : Bool) (r : Option ℕ) (formals : Code) → HasFirst formals → has_none formals ≡ false → formals_faults k f r true formals ≡ []
      → Declares formals → AreGroupsTyped known formals → IsTraversable (flat_map (formal_numbers s) (code_items formals))
  first_there k same f r formals first = on_first (λ formals. has_none formals ≡ false → formals_faults k f r true formals ≡ [] → Declares formals
      → AreGroupsTyped known formals → IsTraversable (flat_map (formal_numbers s) (code_items formals)))
      (λ d ids m of more some none declared typed.
      let groups = nil_left (formals_group k f r true (Formals (More d ids) m of)) _ none in
      let here = nil_left (formal_faults k f r true m of d) _ (nil_right (indication_faults k.known of) _ groups) in
      let last = holds 6 (declared_pos d) (not (true && indicates_type k.known of) || is_traversable k r m (indicated k.known (declared_number d) of))
      (nil_right (demand 6 (declared_pos d) (not (is_anonymous_indication of) || true)) _ (nil_right (demand 3 (declared_pos d) (not f || is_in m)) _ here)) in
      let typed_here : indicates_type k.known of ≡ true
      = subst (λ z. indicates_type z of ≡ true) (sym same) (profiled.typed_mark p formed orderly none_broken own_numbers made laws once laid named of declared.1) in
      let passed = of_known (not (true && indicates_type k.known of)) _ (ap not typed_here) last in
      let access = and_left (is_access (seen k (indicated k.known (declared_number d) of))) _ (and_right (is_in m) _ passed) in
      let found = is_access_view (seen k (indicated k.known (declared_number d) of)) access in
      let defined = seen_access k (indicated k.known (declared_number d) of) found.0 found.1 found.2 found.3 in
      let shaped : shape_of table (indicated known (declared_number d) of) ≡ shape.Access found.0 found.1 found.2
      = subst (λ z. shape_of z.table (indicated z (declared_number d) of) ≡ shape.Access found.0 found.1 found.2) same defined in
      let own = type_at m of d ids declared.0 typed.0 in (
        object_number s (declared_number d),
        map (λ z. object_number s (declared_number z)) (code_items ids) ++ flat_map (formal_numbers s) (code_items more),
        refl,
        profiled.mode_at p formed orderly none_broken own_numbers made laws once laid named m (declared_number d) declared.0.0 ∙ mode_in m (and_left (is_in m) _ passed),
        found.0,
        found.1,
        found.2,
        ap (shape_of table) own ∙ shaped,
      ))
      (λ some none declared typed. absurd (true≢false some))
      formals first

  traversed_first : (x formals result : Code) (good : IsGoodFront known all (Front x formals result)) (r : Option ℕ) → r ≡ (profile_of (entry_of known (declared_number x))).result
      → traverses table r ≡ true → IsTraversable (flat_map (formal_numbers s) (code_items formals))
  traversed_first x formals result good None same gives = absurd (true≢false (sym gives))
  traversed_first x formals result good (Some t) same gives =
      let n : ℕ = declared_number x in
      let c : Context = good.context in
      let q : Profile = profile_from c.known n formals result in
      let known_here = function_entry (entry_of known n) t (sym same) in
      let anonymous = profiled.seen_anonymous p formed orderly none_broken own_numbers made laws once laid named (full table t) gives in
      let own : t ≡ n = views.result_own p formed orderly none_broken own_numbers n t known_here.0 known_here.1 (sym (ap (λ e. (profile_of e).result) known_here.1) ∙ sym same) anonymous in
      let agree : same_result known (Some t) result ≡ true
      = subst (λ o. same_result known o result ≡ true) (sym same) (profiled.same_results p formed orderly none_broken own_numbers made laws once laid named x formals result good) in
      let traversal : is_traversal c.known q ≡ true
      = profiled.traverses_as p formed orderly none_broken own_numbers made laws once laid named n t c.known good.same formals result good.apart.2
      (profiled.none_result p formed orderly none_broken own_numbers made laws once laid named x formals result good) agree anonymous own in
      let formals_free : List Fault = formals_faults c (is_some q.result) q.result (is_traversal c.known q) formals in
      let none : formals_faults c (is_some q.result) q.result true formals ≡ []
      = subst (λ b. formals_faults c (is_some q.result) q.result b formals ≡ []) traversal (profiled.none_formals p formed orderly none_broken own_numbers made laws once laid named x formals result good) in
      let last = holds 6 (declared_pos x) (not (is_traversal c.known q && has_none formals))
      (nil_right formals_free _ (nil_right (result_faults c.known result) _ (profiled.faultless p formed orderly none_broken own_numbers made laws once laid named x formals result good))) in
      first_there c good.same (is_some q.result) q.result formals good.apart.1 (some_there (is_traversal c.known q) (has_none formals) traversal last) none
      (profiled.declared p formed orderly none_broken own_numbers made laws once laid named x formals result good) good.typed

  -- ---- all subprograms

  module _ (faultless : (u : Code) → Has p.units u → code_faults (outside known) u ≡ []) (typed : (u : Code) → Has p.units u → AreTyped made (outside known) u)
      (apart : (u : Code) → Has p.units u → AreFormalsApart u) where
    fronts : Pairs (HasFront s all) (flat_map bodies_in p.units) (map signature (over_units (subs_in s) 1 p.units))
    fronts = units_fronts p.units all made s (record { known = known; identifier = None }) 1 p.units faultless typed apart (λ o has. has)

    front_at : (n : ℕ) → (sub_at y n ≡ no_signature) ⊎ ((d : ℕ) × HasFront s all d (sub_at y n))
    unfolding typed_program
    front_at zero = inl refl
    front_at (suc i) = at_index (HasFront s all) (flat_map bodies_in p.units) (map signature (over_units (subs_in s) 1 p.units)) i no_signature fronts

    -- Formals of anonymous access types are the first ones of traversal functions.
    pub firsts_there : (n x : ℕ) → Has (sub_at y n).formals x → anonymous_view (full table (object_at y x).of) ≡ true
        → traversed_of (traverses table (sub_at y n).result) (sub_at y n).formals ≡ Some x
    firsts_there n x has view = elim (front_at n) [
      | inl none ↦ absurd (subst (λ (g : Signature). Has g.formals x) none has)
      | inr (d, h) ↦
          subst (λ xs. traversed_of (traverses table (sub_at y n).result) xs ≡ Some x) (sym h.formals)
          (by_front h.front h.good (sub_at y n).result (h.result ∙ ap (λ k. (profile_of (entry_of known k)).result) (sym h.number)) (subst (λ xs. Has xs x) h.formals has))
    ]
      where
        by_front : (front : Code) → IsGoodFront known all front → (r : Option ℕ) → r ≡ (profile_of (entry_of known (front_number front))).result
            → Has (flat_map (formal_numbers s) (front_formals front)) x → traversed_of (traverses table r) (flat_map (formal_numbers s) (front_formals front)) ≡ Some x
        by_front (Front z formals result) good r same there = anonymous_first z formals result good r same x there view
        by_front front good r same there = absurd good.apart

    -- A traversal function has a first formal, of mode `in` and of an access type.
    pub first_in : (n : ℕ) → traverses table (sub_at y n).result ≡ true → IsTraversable (sub_at y n).formals
    first_in n gives = elim (front_at n) [
      | inl none ↦ absurd (true≢false (sym gives ∙ ap (λ (g : Signature). traverses table g.result) none))
      | inr (d, h) ↦
          subst IsTraversable (sym h.formals)
          (by_front h.front h.good (sub_at y n).result (h.result ∙ ap (λ k. (profile_of (entry_of known k)).result) (sym h.number)) gives)
    ]
      where
        by_front : (front : Code) → IsGoodFront known all front → (r : Option ℕ) → r ≡ (profile_of (entry_of known (front_number front))).result → traverses table r ≡ true
            → IsTraversable (flat_map (formal_numbers s) (front_formals front))
        by_front (Front z formals result) good r same there = traversed_first z formals result good r same there
        by_front front good r same there = absurd good.apart
