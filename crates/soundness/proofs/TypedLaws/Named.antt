-- Names: what they are read as is what they have the type of.
use Rattle.std.proofs.Common.{◌≡◌, refl, sym, ap, ◌∙◌, subst, ◌⊎◌, inl, inr, ℕ, Bool, true, false, List, [], nat_eq, ℤ, Some, None}
use Rattle.machine.specs.spark_base.declared.position.Pos.{Pos}
use Rattle.machine.specs.resolved_tree.Trees.{Tree, Applied, Argument, NoMore, More, position}
use Rattle.machine.specs.type_definitions.Types.{meant_type}
use Rattle.machine.specs.type_definitions.declared.judgement.View.{View}
use Rattle.machine.specs.type_definitions.declared.judgement.Next.{Next}
use Rattle.machine.specs.type_definitions.declared.judgement.Next.TheVariants.{Goes, Gives, Stops}
use Rattle.machine.specs.type_definitions.declared.judgement.Reading.{Reading}
use Rattle.machine.specs.type_definitions.declared.judgement.Reading.TheVariants as reading
use Rattle.machine.specs.type_definitions.declared.judgement.Own.TheVariants as own
use Rattle.machine.specs.type_definitions.declared.judgement.Where.TheVariants as stands
use Rattle.machine.specs.type_definitions.declared.judgement.Role.TheVariants as role
use Rattle.machine.specs.type_definitions.declared.judgement.Way.TheVariants as way
use Rattle.machine.specs.type_definitions.Types.{is_owning, is_untyped, base, shape_of}
use Rattle.machine.specs.type_definitions.Entries.{entry_of, integer, boolean}
use Rattle.machine.specs.type_definitions.Faults.{demand}
use Rattle.machine.specs.type_definitions.Names.{seen, step, led_on, along, is_end, indexed, is_index, through, of_entry, reading_of}
use Rattle.machine.specs.type_definitions.Expressions.{own_of, own_type, fits, suits, inside, around, arguments, behind, within_suffix, next_type, is_parens, profile_of, result_type, way_of, is_string}
use Rattle.machine.specs.typed_tree.Trees.{TypedTree}
use Rattle.machine.specs.typed_tree.declared.object.Object.{Object}
use Rattle.machine.specs.typed_tree.Expressions.{Site, object_number, sub_number, typed_expression, typed_first, typed_steps, typed_step, typed_name, object_type, value_of_type}
use Rattle.machine.specs.flow_paths.Objects.{Signature, object_at, sub_at}
use Rattle.soundness.specs.TypedLaws.Fine.{counts, lists, Has, Leads, Laws, Denotes}
use Rattle.soundness.proofs.TypedLaws.Agreeing.{of_known, whole_number, nil_left, nil_right, holds, agree_lists, scalar_owns, either_left}
use Rattle.soundness.proofs.TypedLaws.Readings.{no_place, place_along, call_of, value_of, seen_scalar, is_off, is_place, place_type}
use Rattle.std.proofs.lemmas.Bool.{eqb-true, false≢true, true≢false}
use Rattle.soundness.proofs.TypedLaws.Steps.{typing, HasIndex, known_next, step_leads, through_made, goes}
use Rattle.machine.specs.type_definitions.Statements.{type_or_integer}

module _ (s : Site) (objects : List Object) (subs : List Signature) (made : ℕ → Type 0) (laws : Laws s.context.known made) where
  -- What is proved of an expression.
  pub record Fine (e : Tree) : Type 0 where
    -- where a type is demanded
    pub by_place : (want : ℕ) → made want → fits s.context want e ≡ true → inside s.context false want e ≡ []
        → (is_owning s.context.known.table want ≡ true → is_parens e ≡ false) → Has (typing s objects subs made laws) want (typed_expression s want e)
    -- where it has one of its own
    pub by_own : (want t : ℕ) → own_type s.context e ≡ own.Of t → inside s.context false want e ≡ []
        → made t × Has (typing s objects subs made laws) t (typed_expression s want e)
    -- it has one of its own, or its place's
    pub by_known : (want : ℕ) → own_type s.context e ≡ own.Unknown → inside s.context false want e ≡ [] → ⊥

  abbrev pub AreFine : Tree → Type 0
  AreFine (Argument w e rest) = Fine e × AreFine rest
  AreFine _ = Unit {0}

  abbrev pub IsFineSuffix : Tree → Type 0
  IsFineSuffix (Applied args) = AreFine args
  IsFineSuffix _ = Unit {0}

  abbrev pub AreFineSuffixes : Tree → Type 0
  AreFineSuffixes (More a rest) = IsFineSuffix a × AreFineSuffixes rest
  AreFineSuffixes _ = Unit {0}

  -- An index of an array has the type Integer.
  index_given : (args : Tree) → AreFine args → is_index args ≡ true → arguments s.context (role.Every integer) 0 args ≡ []
      → Has (typing s objects subs made laws) integer (typed_first s integer args)
  unfolding typed_first arguments
  index_given (Argument None e NoMore) fine one none =
      let here = nil_left (around s.context stands.Elsewhere integer e) _ none in
      let more = nil_right (around s.context stands.Elsewhere integer e) _ none in
      let suit = holds 1 (position e) (suits s.context integer e) (nil_left (demand 1 (position e) (suits s.context integer e)) _ here) in
      let fit = of_known (is_untyped s.context.known.table integer) (fits s.context integer e) (laws.certain integer laws.integers) suit in
      fine.0.by_place integer laws.integers fit (nil_left (inside s.context false integer e) _ more) (λ owns. absurd (true≢false (sym owns ∙ scalar_owns s.context.known.table integer laws.owns (either_left _ _ laws.whole))))
  index_given args fine one none = absurd (false≢true one)

  led : (w : View) (b : Bool) (v : ℕ) → indexed b w ≡ Goes v → b ≡ true
  led w true v e = refl
  led w false v e = absurd (false≢true (ap goes e))

  suffix_given : (t v : ℕ) (a : Tree) → made t → IsFineSuffix a → step s.context a t ≡ Goes v → within_suffix s.context (way.Along t) a ≡ []
      → HasIndex s objects subs made laws a
  unfolding step within_suffix
  suffix_given t v (Applied args) m fine goes none =
      let q = through (seen s.context t) t in
      let mq = through_made s objects subs made laws t (seen s.context t) refl m in
      let next = known_next (is_untyped s.context.known.table q) (indexed (is_index args) (seen s.context q)) v (laws.certain q mq) goes in
      index_given args fine (led (seen s.context q) (is_index args) v next) none
  suffix_given t v a m fine goes none = tt

  led_place : (rest : Tree) (n : Next) (u : ℕ) → led_on (λ v. along s.context v rest) rest n ≡ reading.Place u
      → (v : ℕ) × (n ≡ Goes v) × (along s.context v rest ≡ reading.Place u)
  led_place rest (Goes v) u e = (v, refl, e)
  led_place rest (Gives x) u e = absurd (no_place (is_end rest) x u e)
  led_place rest Stops u e = absurd (false≢true (ap is_place e))

  -- The type kept in a name is the one that its steps lead to.
  pub steps_lead : (rest : Tree) (t u : ℕ) → AreFineSuffixes rest → made t → along s.context t rest ≡ reading.Place u
      → behind s.context (way.Along t) rest ≡ [] → made u × Leads (typing s objects subs made laws) t (typed_steps s t rest) u
  unfolding along behind typed_steps Leads
  steps_lead (More a rest) t u fine m is none =
      let on = led_place rest (step s.context a t) u is in
      let v = on.0 in
      let goes = on.1 in
      let index = suffix_given t v a m fine.0 goes (nil_left (within_suffix s.context (way.Along t) a) _ none) in
      let one = step_leads s objects subs made laws t v a m goes in
      let next : next_type (step s.context a t) ≡ v = ap next_type goes in
      let later : behind s.context (way.Along v) rest ≡ [] =
      subst (λ z. behind s.context (way.Along z) rest ≡ []) next (nil_right (within_suffix s.context (way.Along t) a) _ none) in
      let more = steps_lead rest v u fine.1 one.0 on.2 later in (
        more.0,
        subst (λ z. Leads (typing s objects subs made laws) t (typed_step s t a (typed_steps s z rest)) u) (sym next)
            (one.1 u (typed_steps s v rest) index more.1),
      )
  steps_lead rest t u fine m is none =
      let same : t ≡ u = ap place_type is in
      (subst made same m, same)

  -- ---- names

  value_given : (d u : ℕ) (x : ℤ) (rest : Tree) → of_entry s.context d (entry_of s.context.known d) rest ≡ reading.Value u x
      → made u × ((u ≡ integer) ⊎ (lists (shape_of s.context.known.table u) ≡ true))
  value_given d u x rest is = elim (value_of s.context d u x (entry_of s.context.known d) rest is) [
    | inl whole ↦ (subst made (sym whole) laws.integers, inl whole)
    | inr (inl literal) ↦ (let law = laws.literal d u literal.0 literal.1 in (law.0, inr law.1))
    | inr (inr bound) ↦ (
        let m = laws.typed d bound.0 in
        let mb = laws.based d m in (
          subst made (sym bound.1) mb,
          elim (seen_scalar s.context d bound.2) [
            | inl whole ↦ inl (bound.1 ∙ laws.numeric d m whole)
            | inr listed ↦ inr (subst (λ z. lists (shape_of s.context.known.table z) ≡ true) (sym bound.1)
                (agree_lists s.context.known.table d (base s.context.known.table d) (laws.same d (base s.context.known.table d) m mb (sym (laws.base_of d m))) listed))
          ],
        ))
  ]

  value_has : (u : ℕ) (x : ℤ) → (u ≡ integer) ⊎ (lists (shape_of s.context.known.table u) ≡ true)
      → Has (typing s objects subs made laws) u (value_of_type u x)
  unfolding Has
  value_has u x is = by (nat_eq u integer) refl
    where
      by : (b : Bool) → nat_eq u integer ≡ b → Has (typing s objects subs made laws) u (value_of_type u x)
      by true e = rw e (subst (λ z. counts (shape_of s.context.known.table z) ≡ true) (sym (eqb-true u integer e)) laws.whole, whole_number x)
      by false e = rw e (elim is [
        | inl whole ↦ absurd (true≢false (subst (λ z. nat_eq z integer ≡ false) whole e))
        | inr listed ↦ listed
      ])

  -- What a name by itself is read as, it has the type of.
  pub named_has : (p : Pos) (d t : ℕ) (rest : Tree) (r : Reading) (actuals imaged : TypedTree) → Denotes s (typing s objects subs made laws) d → AreFineSuffixes rest
      → reading_of s.context d rest ≡ r → own_of s.context.known r ≡ own.Of t
      → behind s.context (way_of s.context.known d (entry_of s.context.known d)) rest ≡ []
      → made t × Has (typing s objects subs made laws) t
      (typed_name s p d r (typed_steps s (object_type (entry_of s.context.known d)) rest) actuals imaged)
  unfolding reading_of Has
  named_has p d t rest (reading.Place u) actuals imaged denotes fine is has none =
      let same : u ≡ t = ap type_or_integer has in
      let found = place_along s.context d u (entry_of s.context.known d) rest is in
      let o = found.0 in
      let way : behind s.context (way.Along o.of) rest ≡ [] =
      subst (λ z. behind s.context (way_of s.context.known d z) rest ≡ []) found.1 none in
      let leads = steps_lead rest o.of u fine (laws.object d o found.1) found.2 way in
      let from : object_type (entry_of s.context.known d) ≡ o.of = ap object_type found.1 in (
        subst made same leads.0,
        (
          subst (λ z. Leads (typing s objects subs made laws) (object_at (typing s objects subs made laws) (object_number s d)).of (typed_steps s z rest) u) (sym from)
              (subst (λ z. Leads (typing s objects subs made laws) z (typed_steps s o.of rest) u) (sym (denotes.0 o found.1)) leads.1),
          inl (ap (meant_type s.context.known.table) same),
        ),
      )
  named_has p d t rest (reading.Value u x) actuals imaged denotes fine is has none =
      let same : u ≡ t = ap type_or_integer has in
      let given = value_given d u x rest is in (
        subst made same given.0,
        subst (λ z. Has (typing s objects subs made laws) z (value_of_type u x)) same (value_has u x given.1),
      )
  named_has p d t rest (reading.Call f) actuals imaged denotes fine is has none =
      let found = call_of s.context d f (entry_of s.context.known d) rest is in
      let result : (profile_of (entry_of s.context.known f)).result ≡ Some found.1 =
      subst (λ z. (profile_of (entry_of s.context.known z)).result ≡ Some found.1) (sym found.0) found.2 in
      let gives : result_type (profile_of (entry_of s.context.known f)).result ≡ found.1 = ap result_type result in
      let of : result_type (profile_of (entry_of s.context.known f)).result ≡ t = ap type_or_integer has in
      let same : found.1 ≡ t = sym gives ∙ of in (
        subst made same (laws.result d found.1 found.2),
        (
          found.1,
          subst (λ z. (sub_at (typing s objects subs made laws) (sub_number s z)).result ≡ Some found.1) (sym found.0) (denotes.1 found.1 found.2),
          inl (ap (meant_type s.context.known.table) same),
        ),
      )
  named_has p d t rest reading.EndOfFile actuals imaged denotes fine is has none =
      let same : boolean ≡ t = ap type_or_integer has in
      (subst made same laws.booleans, subst (λ z. lists (shape_of s.context.known.table z) ≡ true) same laws.listed)
  named_has p d t rest (reading.Image u) actuals imaged denotes fine is has none = absurd (true≢false (ap is_string has))
  named_has p d t rest reading.Off actuals imaged denotes fine is has none = absurd (true≢false (ap is_off has))
