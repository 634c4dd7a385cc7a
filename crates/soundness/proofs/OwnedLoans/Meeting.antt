-- Where the names of owners that two names stand for begin one another, one of the two names begins
-- the other one, or it meets a loan of the other, or two loans meet.
use Rattle.std.proofs.Common.{◌≡◌, refl, sym, ap, ◌∙◌, subst, ◌⊎◌, inl, inr, ℕ, Bool, true, false, List, zero, suc, ◌<◌, ◌≤◌, ◌+◌, nat_lt, ltb-true, ltb-false, arith, Option, Some, None, is_some}
use Rattle.std.proofs.Math.Nat.{eq-or-lt_of_le}
use Rattle.std.proofs.lemmas.Bool.{true≢false}
use Rattle.machine.specs.place_names.declared.fact.Fact.{Fact}
use Rattle.machine.specs.place_names.declared.rule.Loan.{Loan}
use Rattle.machine.specs.place_names.declared.rule.Loan.TheVariants.{Borrowed}
use Rattle.machine.specs.place_names.Names.{Name}
use Rattle.soundness.specs.OwnedWays.Ways.{Step, OfVariable, OfRoot, Way, Object, All, View, Under, Named, base_of, name_of, number_of}
use Rattle.soundness.proofs.OwnedWays.Named.{longer}
use Rattle.soundness.proofs.OwnedWays.Dropped.{named_base}
use Rattle.soundness.specs.OwnedLoans.Views.{on, Views, expand, IsView, IsForeign, IsPassed, AreViews, AreShared, Lifted}
use Rattle.soundness.proofs.OwnedLoans.Ways.{Meet, beginnings, under_on, base_on, meets_on, meets_front, meet_base, home_or_foreign, root_on, on_under, named_on, on_named, expand_on, other_front, lifts, part_root, lifted_root, lifted_way, next_of}
use Rattle.soundness.proofs.Parted.{by_either}

order : (a b : ℕ) → (a ≡ b) ⊎ ((a < b) ⊎ (b < a))
order a b = by_less (nat_lt a b) refl
  where
    by_less : (r : Bool) → nat_lt a b ≡ r → (a ≡ b) ⊎ ((a < b) ⊎ (b < a))
    by_less true e = inr (inl (ltb-true a b e))
    by_less false e = let most : b ≤ a = ltb-false a b e in elim (eq-or-lt_of_le most) [ inl same ↦ inl (sym same) | inr less ↦ inr (inr less) ]

true_false : (b : Bool) → b ≡ true → b ≡ false → ⊥
true_false b e f = cc

variables : (f x g y : ℕ) → OfRoot (OfVariable f x) ≡ OfRoot (OfVariable g y) → (f ≡ g) × (x ≡ y)
variables f x g y e = (cc, cc)

module _ (home : ℕ → ℕ) (observer : ℕ → Bool) (v : Views) (s : View) (facts : List Fact) (views : AreViews home observer v s facts) where
  -- A name of the frame that isn't rooted in an observer.
  abbrev pub IsPlain : Way → Type 0
  IsPlain x = Named home x × (observer (number_of x) ≡ false)

  pub record Next (x y : Way) (b : ℕ) : Type 0 where
    pub plain : IsPlain y
    pub same : expand v y ≡ expand v x
    pub less : observer b ≡ false → number_of y < b
    pub loan : Under (v.loan b) y

  -- a way of the frame doesn't begin where a foreign one does
  pub not_foreign : (w z : Way) → Named home w → IsForeign home z → base_of w ≡ base_of z → ⊥
  not_foreign w z named foreign base =
      let same = variables (home (number_of w)) (number_of w) foreign.0 foreign.1 (sym (named_base home w named) ∙ base ∙ foreign.2) in
      foreign.3 (sym same.0 ∙ ap home same.1)

  -- a view that was taken from a name is one of the frame
  pub own_view : (x : ℕ) (w : Way) → v.way x ≡ Some w → Named home (v.up x) → IsView home observer v s facts x w
  own_view x w has named = elim (views.0 x w has) [ inl view ↦ view | inr passed ↦ absurd (passed.given named) ]

  -- no part goes on at a name that isn't rooted in an observer
  pub no_part : (x : Way) → observer (number_of x) ≡ false → (p : List Step) → v.part_way (number_of x) p ≡ None
  no_part x plain p = by_way (v.part_way (number_of x) p) refl
    where
      by_way : (o : Option Way) → v.part_way (number_of x) p ≡ o → v.part_way (number_of x) p ≡ None
      by_way None e = e
      by_way (Some w) e = absurd (true_false (observer (number_of x)) (views.1 (number_of x) p w e).sees plain)

  pub plain_lifts : (x : Way) → IsPlain x → (expand v x ≡ x) ⊎ Lifted v x
  plain_lifts x plain = elim (lifts v x) [
    | inl e ↦ inl e
    | inr (inl l) ↦ inr l
    | inr (inr l) ↦ absurd (true_false (observer l.object) (views.1 l.object l.steps l.way l.has).sees (ap observer (sym (part_root v x l)) ∙ plain.1))
  ]

  -- one step from a view to what it was taken from
  pub next : (x : Way) (l : Lifted v x) → IsView home observer v s facts l.object l.way → Named home x → Next x (next_of v x l) l.object
  next x l view named = record {
    plain = (
      named_on home (v.up l.object) l.rest view.named,
      ap observer (root_on (v.up l.object) l.rest) ∙ view.plain,
    );
    same = expand_on v (v.up l.object) l.rest view.deep (inr (no_part (v.up l.object) view.plain)) ∙ ap (λ z. on z l.rest) view.leads ∙ sym (lifted_way v x l);
    less = λ e. subst (λ z. z < l.object) (sym (root_on (v.up l.object) l.rest)) (view.older e);
    loan = under_on (v.loan l.object) (v.up l.object) (on (v.up l.object) l.rest) view.begins (on_under (v.up l.object) l.rest);
  }

  borrowed : (x : Way) (l : Lifted v x) → IsPlain x → observer l.object ≡ false
  borrowed x l plain = ap observer (sym (lifted_root v x l)) ∙ plain.1

  -- ---- where chains of views end

  -- A borrower of the frame with a value.
  abbrev pub Lends : ℕ → Type 0
  Lends b = (w : Way) × (v.way b ≡ Some w) × (observer b ≡ false) × IsView home observer v s facts b w

  -- The place of a borrower's loan meets a way.
  abbrev pub MeetsLoan : Way → Type 0
  MeetsLoan k = (b : ℕ) × Lends b × Meet (v.loan b) k

  -- What a name stands for is rooted in an owner, which isn't younger. What that meets, the name meets, or the
  -- place of a loan of a borrower.
  pub record IsOwn (x : Way) : Type 0 where
    pub named : Named home (expand v x)
    pub most : number_of (expand v x) ≤ number_of x
    pub touches : (k : Way) → Meet (expand v x) k → Meet x k ⊎ MeetsLoan k

  -- What a name stands for is what a view was given that changes it.
  pub record Held (x : Way) : Type 0 where
    pub object : ℕ
    pub way : Way
    pub has : v.way object ≡ Some way
    pub passed : IsPassed home observer v s object way
    pub plain : observer object ≡ false
    pub under : Under way (expand v x)
    pub most : object ≤ number_of x

  stands_from : (n : ℕ) (x : Way) → number_of x < n → IsPlain x → IsOwn x ⊎ Held x
  stands_from zero x less plain = absurd (omega arith)
  stands_from (suc n) x less plain = by_either (plain_lifts x plain)
      (λ e. (inl (record {
        named = subst (Named home) (sym e) plain.0;
        most = (let same = ap number_of e in (omega arith));
        touches = λ k m. inl (subst (λ z. Meet z k) e m);
      })))
      (λ l. (let root = lifted_root v x l in by_either (views.0 l.object l.way l.has)
      (λ view. (let on = next x l view plain.0 in
      let down = on.less (borrowed x l plain) in
      by_either (stands_from n (next_of v x l) (omega arith) on.plain)
      (λ own. (inl (record {
        named = subst (Named home) on.same own.named;
        most = (let same = ap number_of on.same in let most = own.most in (omega arith));
        touches = λ k m. by_either (own.touches k (subst (λ z. Meet z k) (sym on.same) m))
            (λ above. (inr (l.object, (l.way, l.has, borrowed x l plain, view), meets_on (v.loan l.object) (next_of v x l) k on.loan above)))
            (λ loan. (inr loan));
      })))
      (λ held. (inr (record {
        object = held.object;
        way = held.way;
        has = held.has;
        passed = held.passed;
        plain = held.plain;
        under = subst (Under held.way) on.same held.under;
        most = (let most = held.most in (omega arith));
      })))))
      (λ passed. (inr (record {
        object = l.object;
        way = l.way;
        has = l.has;
        passed = passed;
        plain = borrowed x l plain;
        under = subst (Under l.way) (sym (lifted_way v x l)) (on_under l.way l.rest);
        most = (omega arith);
      })))))

  pub stands : (x : Way) → IsPlain x → IsOwn x ⊎ Held x
  stands x plain = stands_from (suc (number_of x)) x (omega arith) plain

  -- it begins at a variable
  pub stands_base : (x : Way) → IsPlain x → (f : ℕ) × (y : ℕ) × (base_of (expand v x) ≡ OfRoot (OfVariable f y))
  stands_base x plain = elim (stands x plain) [
    | inl own ↦ (home (number_of (expand v x)), number_of (expand v x), named_base home (expand v x) own.named)
    | inr held ↦ (held.passed.begins.0, held.passed.begins.1, (longer held.way (expand v x) held.under).base ∙ held.passed.begins.2)
  ]

  -- a name that belongs to the frame isn't what a view was given of another one
  pub own_off : (x : Way) (w : Way) → IsOwn x → IsForeign home w → base_of (expand v x) ≡ base_of w → ⊥
  own_off x w own foreign base = not_foreign (expand v x) w own.named foreign base

  -- The place of a borrower's loan begins the lower name, and the upper name stands for something
  -- in between.
  pub record Above (x y : Way) : Type 0 where
    pub object : ℕ
    pub lends : Lends object
    pub within : object ≤ number_of x
    pub name : Way
    pub loan : Under (v.loan object) name
    pub begins : Under name y
    pub same : expand v name ≡ expand v x

  -- The upper name meets the place of a loan that the lower one goes through.
  pub record Beside (x y : Way) : Type 0 where
    pub object : ℕ
    pub lends : Lends object
    pub within : object ≤ number_of y
    pub meets : Meet x (v.loan object)

  -- The places of loans of two borrowers meet.
  pub record Both : Type 0 where
    pub one : ℕ
    pub two : ℕ
    pub lends : Lends one
    pub lent : Lends two
    pub differ : one ≡ two → ⊥
    pub meets : Meet (v.loan one) (v.loan two)

  one_object : (f g a b : ℕ) → f ≡ home a → g ≡ home b → a ≡ b → OfVariable f a ≡ OfVariable g b
  one_object f g a b e h same = (let z = ap home same in cc)

  same_way : (o : ℕ) (w u : Way) → v.way o ≡ Some w → v.way o ≡ Some u → w ≡ u
  same_way o w u e f = (let is : Some w ≡ Some u = sym e ∙ f in cc)

  -- ---- beside what others have lent

  -- What views were given that is named at home goes on from a place that others have lent, which no view has.
  module _ (lent : Loan → Name → Type 0) (none : (l : Loan) (n : Name) → lent l n → v.way n.root ≡ None) (shown : AreShared home observer lent v) where
    -- A name meets a place that others have lent and that a way goes on from, or the place of a loan does.
    pub record Crosses (x : Way) (l : Loan) (w : Way) : Type 0 where
      pub place : Way
      pub named : Named home place
      pub under : Under place w
      pub lent_it : lent l (name_of place)
      pub meets : Meet x place ⊎ MeetsLoan place

    abbrev pub CrossesBy : Way → ℕ → Way → Type 0
    CrossesBy x b w = (l : Loan) × (observer b ≡ false → l ≡ Borrowed) × Crosses x l w

    -- nothing plain goes by what a view sees that was given, but for names that are rooted in it, or that meet what is lent
    pub off_passed : (x : Way) → IsPlain x → (b : ℕ) (w : Way) → v.way b ≡ Some w → IsPassed home observer v s b w
        → ((o : ℕ) → o ≤ number_of x → observer o ≡ false → o ≡ b → ⊥) → Meet (expand v x) w → CrossesBy x b w
    off_passed x plain b w has passed other meets = elim (stands x plain) [
      | inl own ↦ elim (home_or_foreign home w passed.begins) [
        | inr foreign ↦ absurd (own_off x w own foreign (meet_base (expand v x) w meets))
        | inl named ↦ (let (l, (k, at_home, under, is), changed) = shown.0 b w has passed.given named in (
          l,
          changed,
          record { place = k; named = at_home; under = under; lent_it = is; meets = own.touches k (meets_front k w (expand v x) under meets) },
        ))
      ]
      | inr held ↦ absurd (held.passed.alone held.plain b w has (λ e. other held.object held.most held.plain (sym e)) passed.given
          (meets_on held.way (expand v x) w held.under meets))
    ]

    pub off_seen : (x : Way) → IsPlain x → (b : ℕ) (w : Way) → v.way b ≡ Some w → IsPassed home observer v s b w → observer b ≡ true
        → Meet (expand v x) w → CrossesBy x b w
    off_seen x plain b w has passed sees meets = off_passed x plain b w has passed (λ o most no e. true_false (observer b) sees (ap observer (sym e) ∙ no)) meets

    -- nor is it on the way of a part of a formal, but where it meets what is lent
    pub off_part : (x : Way) → IsPlain x → (b : ℕ) (p : List Step) (w : Way) → v.part_way b p ≡ Some w → Meet (expand v x) w → (l : Loan) × Crosses x l w
    off_part x plain b p w has meets =
        let part = views.1 b p w has in
        elim (stands x plain) [
          | inl own ↦ elim (home_or_foreign home w part.begins) [
            | inr foreign ↦ absurd (own_off x w own foreign (meet_base (expand v x) w meets))
            | inl named ↦ (let (l, (k, at_home, under, is), changed) = shown.1 b p w has named in (
              l,
              record { place = k; named = at_home; under = under; lent_it = is; meets = own.touches k (meets_front k w (expand v x) under meets) },
            ))
          ]
          | inr held ↦ absurd (part.apart held.object held.way held.has held.passed.given held.plain (meets_on held.way (expand v x) w held.under meets))
        ]

    off_younger : (x : Way) → IsPlain x → (b : ℕ) (w : Way) → v.way b ≡ Some w → IsPassed home observer v s b w → number_of x < b
        → Meet (expand v x) w → CrossesBy x b w
    off_younger x plain b w has passed less meets = off_passed x plain b w has passed (λ o most no e. absurd (omega arith)) meets

    -- What a name stands for goes on from a place that others have borrowed.
    abbrev Goes : Way → Type 0
    Goes x = (k : Way) × Named home k × lent Borrowed (name_of k) × Under k (expand v x)

    held_goes : (x : Way) (held : Held x) → Named home held.way → Goes x
    held_goes x held named =
        let (l, (k, at_home, under, is), changed) = shown.0 held.object held.way held.has held.passed.given named in
        (k, at_home, subst (λ z. lent z (name_of k)) (changed held.plain) is, under_on k held.way (expand v x) under held.under)

    -- a younger object that isn't lifted stands for nothing older, but what others have borrowed
    off_itself : (x y : Way) → IsPlain x → Named home y → number_of x < number_of y → base_of (expand v x) ≡ base_of y
        → number_of (expand v x) ≡ number_of y → Goes x
    off_itself x y plain named less base number = elim (stands x plain) [
      | inl own ↦ (let most = own.most in absurd (omega arith))
      | inr held ↦ elim (home_or_foreign home held.way held.passed.begins) [
        | inl at_home ↦ held_goes x held at_home
        | inr foreign ↦ absurd (not_foreign y held.way named foreign (sym base ∙ (longer held.way (expand v x) held.under).base))
      ]
    ]

    -- a place that others have lent isn't rooted in a view
    no_place : (o : ℕ) (w : Way) → v.way o ≡ Some w → (l : Loan) (k : Way) → lent l (name_of k) → number_of k ≡ o → ⊥
    no_place o w has l k is e = (let no : Some w ≡ None = sym has ∙ ap v.way (sym e) ∙ none l (name_of k) is in absurd (true≢false (ap is_some no)))

    -- nor does a name through a view stand for the view
    off_lifted : (x y : Way) (l : Lifted v x) → IsPlain x → Named home y → number_of x ≡ number_of y → base_of (expand v x) ≡ base_of y
        → number_of (expand v x) ≡ number_of y → ⊥
    off_lifted x y l plain named same base number = elim (views.0 l.object l.way l.has) [
      | inr passed ↦ elim (home_or_foreign home l.way passed.begins) [
        | inr foreign ↦ not_foreign y l.way named foreign (sym base ∙ ap base_of (lifted_way v x l) ∙ base_on l.way l.rest)
        | inl at_home ↦ (let (loan, (k, there, under, is), changed) = shown.0 l.object l.way l.has passed.given at_home in
            no_place l.object l.way l.has loan k is
            (sym (longer k l.way under).root ∙ sym (root_on l.way l.rest) ∙ ap number_of (sym (lifted_way v x l)) ∙ number ∙ sym same ∙ lifted_root v x l))
      ]
      | inl view ↦ (let on = next x l view plain.0 in
          let root = lifted_root v x l in
          let down = on.less (borrowed x l plain) in
          let (k, there, is, under) = off_itself (next_of v x l) y on.plain named (omega arith) (ap base_of on.same ∙ base) (ap number_of on.same ∙ number) in
          no_place l.object l.way l.has Borrowed k is
          (sym (longer k (expand v (next_of v x l)) under).root ∙ ap number_of on.same ∙ number ∙ sym same ∙ root))
    ]

    -- A name meets a place that others have borrowed, or the place of a loan does, and the other name goes on from there.
    pub record Lone (x y : Way) : Type 0 where
      pub place : Way
      pub named : Named home place
      pub lent_it : lent Borrowed (name_of place)
      pub meets : Meet x place ⊎ MeetsLoan place
      pub through : Under place (expand v y)

    -- Two loans of borrowers meet, or one that others have taken, and one of the names or a loan does.
    abbrev pub Loans : Way → Way → Type 0
    Loans x y = Both ⊎ (Lone x y ⊎ Lone y x)

    abbrev pub Meeting : Way → Way → Type 0
    Meeting x y = Under x y ⊎ (Above x y ⊎ (Beside x y ⊎ Loans x y))

    -- names with one root
    both_lifted : (x y : Way) (a : Lifted v x) (b : Lifted v y) → Named home x → Named home y → a.object ≡ b.object
        → Under (expand v x) (expand v y) → Under x y
    both_lifted x y a b nx ny same u =
        let here = on_named home (All (Object (OfVariable a.frame a.object))) a.rest (subst (Named home) a.is nx) in
        let there = on_named home (All (Object (OfVariable b.frame b.object))) b.rest (subst (Named home) b.is ny) in
        let root = one_object a.frame b.frame a.object b.object here there same in
        let way = same_way b.object a.way b.way (ap v.way (sym same) ∙ a.has) b.has in
        let ways : Under (on b.way a.rest) (on b.way b.rest) = subst (λ z. Under (on z a.rest) (on b.way b.rest)) way
        (subst (λ z. Under z (on b.way b.rest)) (lifted_way v x a) (subst (Under (expand v x)) (lifted_way v y b) u)) in
        let front = other_front b.way (All (Object (OfVariable b.frame b.object))) a.rest b.rest ways in
        subst (λ z. Under z y) (ap (λ z. on (All (Object z)) a.rest) (sym root) ∙ sym a.is)
        (subst (Under (on (All (Object (OfVariable b.frame b.object))) a.rest)) (sym b.is) front)

    pub one_root : (x y : Way) → IsPlain x → IsPlain y → number_of x ≡ number_of y → Under (expand v x) (expand v y) → Under x y
    one_root x y px py same u =
        let root = (longer (expand v x) (expand v y) u).root in
        let base = (longer (expand v x) (expand v y) u).base in
        elim (plain_lifts x px) [
          | inl e ↦ elim (plain_lifts y py) [
            | inl f ↦ subst (λ z. Under z y) e (subst (Under (expand v x)) f u)
            | inr b ↦ absurd (off_lifted y x b py px.0 (sym same) (base ∙ ap base_of e) (root ∙ ap number_of e))
          ]
          | inr a ↦ elim (plain_lifts y py) [
            | inl f ↦ absurd (off_lifted x y a px py.0 same (sym base ∙ ap base_of f) (sym root ∙ ap number_of f))
            | inr b ↦ both_lifted x y a b px.0 py.0 (sym (lifted_root v x a) ∙ same ∙ lifted_root v y b) u
          ]
        ]

    lift_upper : (x y : Way) (l : Lifted v x) → IsView home observer v s facts l.object l.way → IsPlain x → number_of y < number_of x
        → Meeting (next_of v x l) y → Meeting x y
    lift_upper x y l view px less m =
        let on = next x l view px.0 in
        let root = lifted_root v x l in
        let is = borrowed x l px in
        let down = on.less is in
        elim m [
          | inl u ↦ inr (inl (record {
            object = l.object;
            lends = (l.way, l.has, is, view);
            within = (omega arith);
            name = next_of v x l;
            loan = on.loan;
            begins = u;
            same = on.same;
          }))
          | inr m ↦ elim m [
            | inl a ↦ (let within = a.within in inr (inl (record {
              object = a.object;
              lends = a.lends;
              within = (omega arith);
              name = a.name;
              loan = a.loan;
              begins = a.begins;
              same = a.same ∙ on.same;
            })))
            | inr m ↦ elim m [
              | inl b ↦ (let within = b.within in inr (inr (inr (inl (record {
                one = l.object;
                two = b.object;
                lends = (l.way, l.has, is, view);
                lent = b.lends;
                differ = λ e. absurd (omega arith);
                meets = meets_on (v.loan l.object) (next_of v x l) (v.loan b.object) on.loan b.meets;
              })))))
              | inr c ↦ inr (inr (inr (elim c [
                | inl both ↦ inl both
                | inr lone ↦ inr (elim lone [
                  | inl upper ↦ inl (record {
                    place = upper.place;
                    named = upper.named;
                    lent_it = upper.lent_it;
                    meets = elim upper.meets [
                      | inl above ↦ inr (l.object, (l.way, l.has, is, view), meets_on (v.loan l.object) (next_of v x l) upper.place on.loan above)
                      | inr loan ↦ inr loan
                    ];
                    through = upper.through;
                  })
                  | inr lower ↦ inr (record {
                    place = lower.place;
                    named = lower.named;
                    lent_it = lower.lent_it;
                    meets = lower.meets;
                    through = subst (Under lower.place) on.same lower.through;
                  })
                ])
              ])))
            ]
          ]
        ]

    lift_lower : (x y : Way) (l : Lifted v y) → IsView home observer v s facts l.object l.way → IsPlain y → number_of x < number_of y
        → Meeting x (next_of v y l) → Meeting x y
    lift_lower x y l view py less m =
        let on = next y l view py.0 in
        let root = lifted_root v y l in
        let is = borrowed y l py in
        let down = on.less is in
        elim m [
          | inl u ↦ inr (inr (inl (record {
            object = l.object;
            lends = (l.way, l.has, is, view);
            within = (omega arith);
            meets = beginnings x (v.loan l.object) (next_of v y l) u on.loan;
          })))
          | inr m ↦ elim m [
            | inl a ↦ (let within = a.within in inr (inr (inr (inl (record {
              one = a.object;
              two = l.object;
              lends = a.lends;
              lent = (l.way, l.has, is, view);
              differ = λ e. absurd (omega arith);
              meets = beginnings (v.loan a.object) (v.loan l.object) (next_of v y l) (under_on (v.loan a.object) a.name (next_of v y l) a.loan a.begins) on.loan;
            })))))
            | inr m ↦ elim m [
              | inl b ↦ (let within = b.within in inr (inr (inl (record {
                object = b.object;
                lends = b.lends;
                within = (omega arith);
                meets = b.meets;
              }))))
              | inr c ↦ inr (inr (inr (elim c [
                | inl both ↦ inl both
                | inr lone ↦ inr (elim lone [
                  | inl upper ↦ inl (record {
                    place = upper.place;
                    named = upper.named;
                    lent_it = upper.lent_it;
                    meets = upper.meets;
                    through = subst (Under upper.place) on.same upper.through;
                  })
                  | inr lower ↦ inr (record {
                    place = lower.place;
                    named = lower.named;
                    lent_it = lower.lent_it;
                    meets = elim lower.meets [
                      | inl above ↦ inr (l.object, (l.way, l.has, is, view), meets_on (v.loan l.object) (next_of v y l) lower.place on.loan above)
                      | inr loan ↦ inr loan
                    ];
                    through = lower.through;
                  })
                ])
              ])))
            ]
          ]
        ]

    meeting_from : (n : ℕ) (x y : Way) → number_of x + number_of y < n → IsPlain x → IsPlain y → Under (expand v x) (expand v y) → Meeting x y
    meeting_from zero x y less px py u = absurd (omega arith)
    meeting_from (suc n) x y less px py u =
        let root = (longer (expand v x) (expand v y) u).root in
        let base = (longer (expand v x) (expand v y) u).base in
        by_either (order (number_of x) (number_of y))
        (λ same. (inl (one_root x y px py same u)))
        (λ z. (by_either z
        (λ more. (by_either (plain_lifts y py)
        (λ e. (let (k, there, is, under) = off_itself x y px py.0 more (sym base ∙ ap base_of e) (sym root ∙ ap number_of e) in
        inr (inr (inr (inr (inr (record {
          place = k;
          named = there;
          lent_it = is;
          meets = inl (inr (subst (Under k) e (under_on k (expand v x) (expand v y) under u)));
          through = under;
        })))))))
        (λ l. (let at = lifted_root v y l in by_either (views.0 l.object l.way l.has)
        (λ view. (let on = next y l view py.0 in
        let down = on.less (borrowed y l py) in
        lift_lower x y l view py more (meeting_from n x (next_of v y l) (omega arith) px on.plain (subst (Under (expand v x)) (sym on.same) u))))
        (λ passed. (let (loan, changed, c) = off_younger x px l.object l.way l.has passed (omega arith)
        (beginnings (expand v x) l.way (expand v y) u (lifted_under y l)) in
        inr (inr (inr (inr (inl (record {
          place = c.place;
          named = c.named;
          lent_it = subst (λ z. lent z (name_of c.place)) (changed (borrowed y l py)) c.lent_it;
          meets = c.meets;
          through = under_on c.place l.way (expand v y) c.under (lifted_under y l);
        })))))))))))
        (λ more. (by_either (plain_lifts x px)
        (λ e. (let (k, there, is, under) = off_itself y x py px.0 more (base ∙ ap base_of e) (root ∙ ap number_of e) in
        inr (inr (inr (inr (inl (record {
          place = k;
          named = there;
          lent_it = is;
          meets = inl (beginnings x k (expand v y) (subst (λ z. Under z (expand v y)) e u) under);
          through = under;
        })))))))
        (λ l. (let at = lifted_root v x l in by_either (views.0 l.object l.way l.has)
        (λ view. (let on = next x l view px.0 in
        let down = on.less (borrowed x l px) in
        lift_upper x y l view px more (meeting_from n (next_of v x l) y (omega arith) on.plain py (subst (λ z. Under z (expand v y)) (sym on.same) u))))
        (λ passed. (let (loan, changed, c) = off_younger y py l.object l.way l.has passed (omega arith)
        (inr (under_on l.way (expand v x) (expand v y) (lifted_under x l) u)) in
        inr (inr (inr (inr (inr (record {
          place = c.place;
          named = c.named;
          lent_it = subst (λ z. lent z (name_of c.place)) (changed (borrowed x l px)) c.lent_it;
          meets = c.meets;
          through = under_on c.place l.way (expand v x) c.under (lifted_under x l);
        })))))))))))))
      where
        lifted_under : (x : Way) (l : Lifted v x) → Under l.way (expand v x)
        lifted_under x l = subst (Under l.way) (sym (lifted_way v x l)) (on_under l.way l.rest)

    pub meeting : (x y : Way) → IsPlain x → IsPlain y → Under (expand v x) (expand v y) → Meeting x y
    meeting x y px py u = meeting_from (suc (number_of x + number_of y)) x y (omega arith) px py u
