-- Of a laid out program: at each point of a subprogram the temporaries that its instruction takes are the last ones in
-- scope, at its first point there is none, and what is in scope goes on from point to point.
use Rattle.std.proofs.Common.{◌≡◌, refl, sym, ap, ◌∙◌, subst, inl, inr, ℕ, ◌+◌, ◌<◌, ◌≤◌, Bool, true, false, not, ◌&&◌, ◌||◌, List, [], ◌∷◌, ◌++◌, map, length}
use Rattle.std.specs.List.{AllByRecursion}
use Rattle.std.proofs.lemmas.Bool.{false≢true}
use Rattle.machine.specs.spark_base.Lists.{Has}
use Rattle.spark_base.proofs.Lists.{Has-append_right, Has-append_cases}
use Rattle.machine.specs.type_definitions.Types.{Table}
use Rattle.machine.specs.typed_tree.declared.object.Object.{Object}
use Rattle.machine.specs.typed_tree.Trees.{TypedCode, Declare, If, Branch, Case, When, Loop, While, For, Block, More}
use Rattle.machine.specs.typed_tree.Programs.{TypedSub, TypedProgram, text_io}
use Rattle.machine.specs.type_definitions.Types.{full, is_owning}
use Rattle.machine.specs.flow_paths.Objects.{Typing, object_at, is_anonymous, has_scope_end}
use Rattle.machine.specs.flow_paths.Points.{Place}
use Rattle.machine.specs.flow_paths.Prep.{Setting}
use Rattle.machine.specs.flow_paths.Laid.{all_named, temporary_object, declared_within, numbers_from, unnumbered, elaboration_points, sub_temporaries, NamedSub, named_subs, typing_of, flow_typing, flow_program, flow_named}
use Rattle.machine.specs.flow_paths.Scopes.{Differ, ScopesHold, is_temporary, is_declaration, is_undeclaring, is_settled}
use Rattle.flow_paths.proofs.PointsDiffer.{points_differ, package_points_differ}
use Rattle.flow_paths.proofs.ScopesHold.{scopes_hold, package_scopes_hold}
use Rattle.settled_types.specs.OrderLaws.ScopeLaws.Code.{objects_of}
use Rattle.settled_types.specs.OrderLaws.ScopeLaws.Supplied.{IsSupplied, IsFilling, AreNone, StartsWithNone}
use Rattle.settled_types.proofs.OrderLaws.ScopeLaws.Lists.{and_first, and_second}
use Rattle.settled_types.proofs.OrderLaws.ScopeLaws.Filled.{temporaries_of, named_filled, temporary_there, object_before}
use Rattle.settled_types.proofs.OrderLaws.ScopeLaws.Relaid.{after, before, AreAlike, sub_same, elaboration_same, settled_same}
use Rattle.settled_types.proofs.OrderLaws.ScopeLaws.Supplied.{sub_supplied, elaboration_supplied, sub_starts, elaboration_starts}

-- ---- declared objects

isnt : (b : Bool) → not b ≡ true → b ≡ false
isnt true e = absurd (false≢true e)
isnt false e = refl

either_of : (xs ys : List ℕ) (x : ℕ) (P : Bool) → Has (xs ++ ys) x → (Has xs x → P ≡ false) → (Has ys x → P ≡ false) → P ≡ false
either_of xs ys x P has first second = elim (Has-append_cases xs ys x has) [ inl here ↦ first here | inr more ↦ second more ]

-- Settled code declares no temporary.
pub settled_none : (s : Typing) (c : TypedCode) → is_settled s c ≡ true → (x : ℕ) → Has (declared_within c) x → is_temporary (object_at s x).kind ≡ false
unfolding is_settled declared_within
settled_none s (Declare p y v) is x (inl same) = subst (λ z. is_temporary (object_at s z).kind ≡ false) same (isnt (is_temporary (object_at s y).kind) is)
settled_none s (Declare p y v) is x (inr never) = absurd never
settled_none s (If branches otherwise) is x has =
    let rest = and_second (is_settled s branches) (is_settled s otherwise && is_undeclaring otherwise) is in
    either_of (declared_within branches) (declared_within otherwise) x _ has
    (settled_none s branches (and_first (is_settled s branches) (is_settled s otherwise && is_undeclaring otherwise) is) x)
    (settled_none s otherwise (and_first (is_settled s otherwise) (is_undeclaring otherwise) rest) x)
settled_none s (Branch p e stmts) is x has = settled_none s stmts (and_first (is_settled s stmts) (is_undeclaring stmts) is) x has
settled_none s (Case p e whens) is x has = settled_none s whens is x has
settled_none s (When choices stmts) is x has = settled_none s stmts (and_first (is_settled s stmts) (is_undeclaring stmts) is) x has
settled_none s (Loop stmts) is x has = settled_none s stmts (and_first (is_settled s stmts) (is_undeclaring stmts) is) x has
settled_none s (While p e stmts) is x has = settled_none s stmts (and_first (is_settled s stmts) (is_undeclaring stmts) is) x has
settled_none s (For p y reversed low high stmts) is x (inl same) =
    let silent = and_first (not (has_scope_end s y) && not (is_temporary (object_at s y).kind)) (is_settled s stmts && is_undeclaring stmts) is in
    subst (λ z. is_temporary (object_at s z).kind ≡ false) same
    (isnt (is_temporary (object_at s y).kind) (and_second (not (has_scope_end s y)) (not (is_temporary (object_at s y).kind)) silent))
settled_none s (For p y reversed low high stmts) is x (inr has) =
    settled_none s stmts
    (and_first (is_settled s stmts) (is_undeclaring stmts)
    (and_second (not (has_scope_end s y) && not (is_temporary (object_at s y).kind)) (is_settled s stmts && is_undeclaring stmts) is)) x has
settled_none s (Block n stmts end) is x has = settled_none s stmts is x has
settled_none s (More a rest) is x has =
    let more = and_second (is_settled s a) (is_settled s rest && (is_declaration a || is_undeclaring rest)) is in
    either_of (declared_within a) (declared_within rest) x _ has
    (settled_none s a (and_first (is_settled s a) (is_settled s rest && (is_declaration a || is_undeclaring rest)) is) x)
    (settled_none s rest (and_first (is_settled s rest) (is_declaration a || is_undeclaring rest) more) x)
settled_none s c is x has = absurd has

-- ---- programs

module _ (table : Table) (typed : TypedProgram) where
  abbrev s : Typing
  s = typing_of table typed

  -- The objects that the layout adds.
  abbrev pub is_held : ℕ → Bool
  is_held x = is_temporary (object_at (flow_typing (flow_program table typed)) x).kind

  held_before : (x : ℕ) → x < length typed.objects → is_held x ≡ is_temporary (object_at s x).kind
  unfolding flow_program
  held_before x less =
      ap (λ (o : Object). is_temporary o.kind) (object_before typed.objects (map temporary_object (temporaries_of (flow_named table typed))) x text_io less)

  held_there : (x : ℕ) → length typed.objects ≤ x → x < length typed.objects + length (temporaries_of (flow_named table typed)) → is_held x ≡ true
  unfolding flow_program
  held_there x low high = temporary_there typed.objects (temporaries_of (flow_named table typed)) x low high

  module _ (settled : (sub : TypedSub) → Has typed.subs sub → is_settled s sub.body ≡ true)
      (formals : (sub : TypedSub) → Has typed.subs sub → (x : ℕ) → Has sub.formals x → is_temporary (object_at s x).kind ≡ false)
      (numbered : (sub : TypedSub) → Has typed.subs sub → (x : ℕ) → Has (objects_of sub) x → x < length typed.objects) where
    none_declared : (sub : TypedSub) → Has typed.subs sub → AreNone is_held (objects_of sub)
    none_declared sub has x there =
        held_before x (numbered sub has x there) ∙ elim (Has-append_cases sub.formals (declared_within sub.body) x there) [
          | inl formal ↦ formals sub has x formal
          | inr declared ↦ settled_none s sub.body (settled sub has) x declared
        ]

    each_supplied : (n : ℕ) (subs : List TypedSub) → ((sub : TypedSub) → Has subs sub → Has typed.subs sub)
        → ((x : ℕ) → n ≤ x → x < n + length (temporaries_of (named_subs s n subs)) → is_held x ≡ true) → (named : NamedSub) → Has (named_subs s n subs) named
        → AllByRecursion (IsSupplied is_held) named.points × StartsWithNone is_held named.points
    each_supplied n subs among held named has = by n subs among named has (named_filled s is_held n subs held named has)
      where
        by : (n : ℕ) (subs : List TypedSub) → ((sub : TypedSub) → Has subs sub → Has typed.subs sub) → (named : NamedSub) → Has (named_subs s n subs) named
            → AllByRecursion (IsFilling is_held) named.points → AllByRecursion (IsSupplied is_held) named.points × StartsWithNone is_held named.points
        by n [] among named has fill = absurd has
        by n (sub ∷ rest) among named (inr more) fill = by (n + length (sub_temporaries s sub)) rest (λ x there. among x (inr there)) named more fill
        by n (sub ∷ rest) among named (inl is) fill =
            let z : Setting = record { typing = s; temporary = numbers_from n (sub_temporaries s sub) } in
            let none = none_declared sub (among sub (inl refl)) in
            subst (λ (m : NamedSub). AllByRecursion (IsSupplied is_held) m.points × StartsWithNone is_held m.points) is
            (sub_supplied is_held z sub none (subst (λ (m : NamedSub). AllByRecursion (IsFilling is_held) m.points) (sym is) fill), sub_starts is_held z sub none)

    -- The package objects are declared from values without calls, so what they fill is no matter.
    pub named_supplied : ((sub : TypedSub) (rest : List TypedSub) → typed.subs ≡ sub ∷ rest → AllByRecursion (IsFilling is_held) (elaboration_points (unnumbered s) sub))
        → (named : NamedSub) → Has (flow_named table typed) named → AllByRecursion (IsSupplied is_held) named.points × StartsWithNone is_held named.points
    named_supplied first named has = by typed.subs refl first held_there has
      where
        by : (subs : List TypedSub) → typed.subs ≡ subs → ((sub : TypedSub) (rest : List TypedSub) → subs ≡ sub ∷ rest → AllByRecursion (IsFilling is_held) (elaboration_points (unnumbered s) sub))
            → ((x : ℕ) → length typed.objects ≤ x → x < length typed.objects + length (temporaries_of (all_named s subs)) → is_held x ≡ true)
            → Has (all_named s subs) named → AllByRecursion (IsSupplied is_held) named.points × StartsWithNone is_held named.points
        by [] same first held has = absurd has
        by (sub ∷ rest) same first held (inl is) =
            let none = none_declared sub (subst (λ xs. Has xs sub) (sym same) (inl refl)) in
            subst (λ (m : NamedSub). AllByRecursion (IsSupplied is_held) m.points × StartsWithNone is_held m.points) is
            (elaboration_supplied is_held (unnumbered s) sub none (first sub rest refl), elaboration_starts is_held (unnumbered s) sub none)
        by (sub ∷ rest) same first held (inr more) =
            each_supplied (length typed.objects) rest (λ x there. subst (λ xs. Has xs x) (sym same) (inr there)) held named more

    -- ---- from point to point

    abbrev y : Typing
    y = flow_typing (flow_program table typed)

    same_object : (x : ℕ) → x < length typed.objects → object_at y x ≡ object_at s x
    unfolding flow_program
    same_object x less = object_before typed.objects (map temporary_object (temporaries_of (flow_named table typed))) x text_io less

    alike_at : (x : ℕ) → object_at y x ≡ object_at s x → (has_scope_end y x ≡ has_scope_end s x) × ((object_at y x).kind ≡ (object_at s x).kind)
    unfolding flow_program
    alike_at x same = (ap (λ (o : Object). is_owning table o.of || is_anonymous (full table o.of)) same, ap (λ (o : Object). o.kind) same)

    alike : (f : Place → ℕ) (sub : TypedSub) → Has typed.subs sub → AreAlike y s f (declared_within sub.body)
    alike f sub has x there = alike_at x (same_object x (numbered sub has x (Has-append_right sub.formals (declared_within sub.body) x there)))

    settled_so : (f : Place → ℕ) (sub : TypedSub) → Has typed.subs sub → is_settled y sub.body ≡ true
    settled_so f sub has = settled_same y s f sub.body (alike f sub has) ∙ settled sub has

    abbrev Goes : NamedSub → Type 0
    Goes named = Differ named.points × ScopesHold y named.points

    sub_goes : (n : ℕ) (subs : List TypedSub) → ((sub : TypedSub) → Has subs sub → Has typed.subs sub) → (named : NamedSub) → Has (named_subs s n subs) named → Goes named
    sub_goes n [] among named has = absurd has
    sub_goes n (sub ∷ rest) among named (inr more) = sub_goes (n + length (sub_temporaries s sub)) rest (λ x there. among x (inr there)) named more
    sub_goes n (sub ∷ rest) among named (inl is) =
        let f : Place → ℕ = numbers_from n (sub_temporaries s sub) in
        let known = among sub (inl refl) in
        subst Goes is (
          points_differ (before y s f) sub,
          subst (ScopesHold y) (sub_same y s f sub (alike f sub known)) (scopes_hold (after y s f) sub (settled_so f sub known)),
        )

    -- What is in scope goes on, by what is known of the program with its temporaries.
    pub named_goes : (named : NamedSub) → Has (flow_named table typed) named → Differ named.points × ScopesHold y named.points
    named_goes named has = by typed.subs refl has
      where
        by : (subs : List TypedSub) → typed.subs ≡ subs → Has (all_named s subs) named → Goes named
        by [] same has = absurd has
        by (sub ∷ rest) same (inl is) =
            let f : Place → ℕ = λ at. 0 in
            let known : Has typed.subs sub = subst (λ xs. Has xs sub) (sym same) (inl refl) in
            subst Goes is (
              package_points_differ (before y s f) sub,
              subst (ScopesHold y) (elaboration_same y s f sub (alike f sub known)) (package_scopes_hold (after y s f) sub (settled_so f sub known)),
            )
        by (sub ∷ rest) same (inr more) = sub_goes (length typed.objects) rest (λ x there. subst (λ xs. Has xs x) (sym same) (inr there)) named more
