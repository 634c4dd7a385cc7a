-- What is found at an act is what some fact that may hold forbids there.
use Rattle.std.proofs.Common.{◌≡◌, ◌⊎◌, inl, inr, refl, sym, ap, ◌∙◌, subst, ◌==◌, ◌&&◌, Bool, true, false, List, [], ◌∷◌, ◌++◌, map, Option, Some, None, if◌then◌else◌, eqb-true, eq-eqb}
use Rattle.std.specs.Bool.{Decides}
use Rattle.std.specs.List.{list_any}
use Rattle.spark_base.specs.Lists.{Has}
use Rattle.spark_base.proofs.Lists.{Has-append_left, Has-append_right, Has-append_cases, Has-map, Has-map_from, list_any-decides}
use Rattle.place_names.specs.declared.rule.State.{State}
use Rattle.place_names.specs.declared.rule.State.TheVariants.{Moved, Borrowed, Observed}
use Rattle.place_names.specs.declared.act.Mode.TheVariants.{In, Out, InOut}
use Rattle.place_names.specs.declared.act.Act.{Act}
use Rattle.place_names.specs.declared.act.Act.TheVariants.{Read, Look, Write, Move, Borrow, Observe, Reborrow, EndScope, Return, Actual, Global, Free, Give}
use Rattle.place_names.specs.declared.fact.Fact.{Fact}
use Rattle.place_names.specs.Names.{is_same}
use Rattle.place_names.specs.Rules.{Forbidden, forbids}
use Rattle.place_names.specs.Reports.{rule_rank}
use Rattle.place_names.proofs.Names.{both_parts, both_true, is_same-decides}
use Rattle.place_names.proofs.Reports.{rule_rank-equal}
use Rattle.fact_questions.specs.Questions.{is_same_word}
use Rattle.fact_questions.specs.Findings.{is_same_forbidden, with_one, with_all, found_among}
use Rattle.state_trees.specs.FactStates.{FactState, may_hold}
use Rattle.move_rules.specs.MoveRules.{is_for_moves, moves_forbid}
use Rattle.borrow_observe.specs.LoanRules.{is_for_loans, loans_forbid}
use Rattle.path_reports.specs.Told.{found_at}

-- ---- two are the same, or not

same_word-decides : (a b : State) → Decides (is_same_word a b) (a ≡ b)
same_word-decides Moved Moved = (λ e. refl, λ e. refl)
same_word-decides Moved Borrowed = (λ e. cc, λ e. cc)
same_word-decides Moved Observed = (λ e. cc, λ e. cc)
same_word-decides Borrowed Moved = (λ e. cc, λ e. cc)
same_word-decides Borrowed Borrowed = (λ e. refl, λ e. refl)
same_word-decides Borrowed Observed = (λ e. cc, λ e. cc)
same_word-decides Observed Moved = (λ e. cc, λ e. cc)
same_word-decides Observed Borrowed = (λ e. cc, λ e. cc)
same_word-decides Observed Observed = (λ e. refl, λ e. refl)

same_forbidden-decides : (x y : Forbidden) → Decides (is_same_forbidden x y) (x ≡ y)
same_forbidden-decides x y = (
  λ e.
      let parts = both_parts (rule_rank x.rule == rule_rank y.rule) (is_same x.name y.name && is_same_word x.word y.word) e in
      let rest = both_parts (is_same x.name y.name) (is_same_word x.word y.word) parts.1 in
      let rule = rule_rank-equal x.rule y.rule (eqb-true (rule_rank x.rule) (rule_rank y.rule) parts.0) in
      let name = (is_same-decides x.name y.name).0 rest.0 in
      let word = (same_word-decides x.word y.word).0 rest.1 in
      λ i. record { rule = rule i; name = name i; word = word i },
  λ e.
      both_true (rule_rank x.rule == rule_rank y.rule) (is_same x.name y.name && is_same_word x.word y.word)
      (eq-eqb (rule_rank x.rule) (rule_rank y.rule) (ap (λ (z : Forbidden). rule_rank z.rule) e))
      (both_true (is_same x.name y.name) (is_same_word x.word y.word)
      ((is_same-decides x.name y.name).1 (ap (λ (z : Forbidden). z.name) e))
      ((same_word-decides x.word y.word).1 (ap (λ (z : Forbidden). z.word) e))),
)

-- ---- a list without repeats

one_from : (so : List Forbidden) (x : Option Forbidden) (y : Forbidden) → Has (with_one so x) y → Has so y ⊎ (x ≡ Some y)
one_from so None y h = inl h
one_from so (Some x) y h = from (list_any (λ z. is_same_forbidden z x) so) h
  where
    from : (b : Bool) → Has (if b then so else so ++ x ∷ []) y → Has so y ⊎ (Some x ≡ Some y)
    from true h = inl h
    from false h = elim (Has-append_cases so (x ∷ []) y h) [
      | inl old ↦ inl old
      | inr new ↦ elim new [ inl e ↦ inr (ap Some e) | inr none ↦ absurd none ]
    ]

one_keeps : (so : List Forbidden) (x : Option Forbidden) (y : Forbidden) → Has so y → Has (with_one so x) y
one_keeps so None y h = h
one_keeps so (Some x) y h = from (list_any (λ z. is_same_forbidden z x) so)
  where
    from : (b : Bool) → Has (if b then so else so ++ x ∷ []) y
    from true = h
    from false = Has-append_left so (x ∷ []) y h

one_comes : (so : List Forbidden) (x : Forbidden) → Has (with_one so (Some x)) x
one_comes so x = from (list_any (λ z. is_same_forbidden z x) so) refl
  where
    from : (b : Bool) → list_any (λ z. is_same_forbidden z x) so ≡ b → Has (if b then so else so ++ x ∷ []) x
    from true e = (list_any-decides (λ z. is_same_forbidden z x) x (λ z. same_forbidden-decides z x) so).0 e
    from false e = Has-append_right so (x ∷ []) x (inl refl)

all_from : (so : List Forbidden) (more : List (Option Forbidden)) (y : Forbidden) → Has (with_all so more) y → Has so y ⊎ Has more (Some y)
all_from so [] y h = inl h
all_from so (x ∷ more) y h = elim (all_from (with_one so x) more y h) [
  | inl one ↦ elim (one_from so x y one) [ inl old ↦ inl old | inr e ↦ inr (inl e) ]
  | inr later ↦ inr (inr later)
]

all_keeps : (so : List Forbidden) (more : List (Option Forbidden)) (y : Forbidden) → Has so y → Has (with_all so more) y
all_keeps so [] y h = h
all_keeps so (x ∷ more) y h = all_keeps (with_one so x) more y (one_keeps so x y h)

all_comes : (so : List Forbidden) (more : List (Option Forbidden)) (y : Forbidden) → Has more (Some y) → Has (with_all so more) y
all_comes so [] y h = absurd h
all_comes so (x ∷ more) y h = elim h [
  | inl e ↦ all_keeps (with_one so x) more y (subst (λ o. Has (with_one so o) y) (sym e) (one_comes so y))
  | inr later ↦ all_comes (with_one so x) more y later
]

-- ---- what facts forbid

pub record IsForbidden (test : Fact → Option Forbidden) (facts : List Fact) (y : Forbidden) : Type 0 where
  pub fact : Fact
  pub has : Has facts fact
  pub is : test fact ≡ Some y

pub among_from : (test : Fact → Option Forbidden) (facts : List Fact) (y : Forbidden) → Has (found_among test facts) y → IsForbidden test facts y
among_from test facts y h = elim (all_from [] (map test facts) y h) [
  | inl none ↦ absurd none
  | inr given ↦ (let f = Has-map_from test facts (Some y) given in record { fact = f.0; has = f.1; is = f.2 })
]

pub among_to : (test : Fact → Option Forbidden) (facts : List Fact) (y : Forbidden) → IsForbidden test facts y → Has (found_among test facts) y
among_to test facts y f = all_comes [] (map test facts) y (subst (Has (map test facts)) f.is (Has-map test facts f.fact f.has))

-- ---- by the rules of moves, or by those of loans

one_crate : (a : Act) → (is_for_moves a ≡ true) ⊎ (is_for_loans a ≡ true)
one_crate (Read m) = inl refl
one_crate (Look m) = inl refl
one_crate (Write k) = inl refl
one_crate (Move m parts) = inl refl
one_crate (Borrow h m) = inr refl
one_crate (Observe h m from_observer) = inr refl
one_crate (Reborrow b m) = inr refl
one_crate (EndScope x borrower) = inr refl
one_crate (Return roots) = inl refl
one_crate (Actual m In owning access) = inr refl
one_crate (Actual m Out owning access) = inl refl
one_crate (Actual m InOut owning access) = inl refl
one_crate (Global g written) = inr refl
one_crate (Free k) = inl refl
one_crate (Give m borrows) = inr refl

only_where : (b : Bool) (o : Option Forbidden) (y : Forbidden) → (if b then o else None) ≡ Some y → o ≡ Some y
only_where true o y e = e
only_where false o y e = cc

pub found_from : (a : Act) (s : FactState) (y : Forbidden) → Has (found_at a s) y → IsForbidden (forbids a) (may_hold s) y
found_from a s y h = elim (Has-append_cases (found_among (moves_forbid a) (may_hold s)) (found_among (loans_forbid a) (may_hold s)) y h) [
  | inl moves ↦
      let f = among_from (moves_forbid a) (may_hold s) y moves in
      record { fact = f.fact; has = f.has; is = only_where (is_for_moves a) (forbids a f.fact) y f.is }
  | inr loans ↦
      let f = among_from (loans_forbid a) (may_hold s) y loans in
      record { fact = f.fact; has = f.has; is = only_where (is_for_loans a) (forbids a f.fact) y f.is }
]

pub found_to : (a : Act) (s : FactState) (y : Forbidden) → IsForbidden (forbids a) (may_hold s) y → Has (found_at a s) y
found_to a s y f =
    let moves = found_among (moves_forbid a) (may_hold s) in
    let loans = found_among (loans_forbid a) (may_hold s) in
    elim (one_crate a) [
      | inl e ↦ Has-append_left moves loans y (among_to (moves_forbid a) (may_hold s) y
          (record { fact = f.fact; has = f.has; is = ap (λ b. if b then forbids a f.fact else None) e ∙ f.is }))
      | inr e ↦ Has-append_right moves loans y (among_to (loans_forbid a) (may_hold s) y
          (record { fact = f.fact; has = f.has; is = ap (λ b. if b then forbids a f.fact else None) e ∙ f.is }))
    ]
