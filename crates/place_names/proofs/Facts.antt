-- What acts do to facts, one fact at a time.
use Rattle.std.proofs.Common.{◌≡◌, ◌⊎◌, inl, inr, refl, ap, ◌==◌, ◌&&◌, ◌||◌, not, Bool, true, false, List, [], ◌∷◌, ◌++◌, eqb-true, eq-eqb}
use Rattle.std.specs.Bool.{Decides}
use Rattle.std.specs.List.{filter}
use Rattle.std.proofs.lemmas.List.Sums.{fold-append}
use Rattle.spark_base.specs.Lists.{Has}
use Rattle.spark_base.proofs.Lists.{Has-append_left, Has-append_right, Has-append_cases, Has-filter, Has-filter_passes, list_any-decides}
use Rattle.place_names.specs.declared.rule.Loan.{Loan}
use Rattle.place_names.specs.declared.rule.Loan.TheVariants.{Borrowed, Observed}
use Rattle.place_names.specs.declared.act.Act.{Act}
use Rattle.place_names.specs.declared.act.Act.TheVariants.{Read, Look, Write, Move, Borrow, Observe, Reborrow, EndScope, Return, Actual, Global, Free, Give}
use Rattle.place_names.specs.declared.fact.Fact.{Fact}
use Rattle.place_names.specs.declared.fact.Fact.TheVariants.{Moved, Lent}
use Rattle.place_names.specs.Names.{is_same}
use Rattle.place_names.specs.Facts.{adds, removes, effect, facts_behind, is_same_loan, is_same_fact, is_added, holds_behind, holds_along}
use Rattle.place_names.proofs.Names.{both_parts, both_true, is_same-decides}

-- an act adds nothing, or it removes nothing
pub adds_or_removes : (a : Act) → (adds a ≡ []) ⊎ ((f : Fact) → removes a f ≡ false)
adds_or_removes (Read m) = inl refl
adds_or_removes (Look m) = inl refl
adds_or_removes (Write k) = inl refl
adds_or_removes (Move m parts) = inr (λ f. refl)
adds_or_removes (Borrow h m) = inr (λ f. refl)
adds_or_removes (Observe h m from_observer) = inr (λ f. refl)
adds_or_removes (Reborrow b m) = inl refl
adds_or_removes (EndScope x borrower) = inl refl
adds_or_removes (Return roots) = inl refl
adds_or_removes (Actual m mode owning access) = inl refl
adds_or_removes (Global g written) = inl refl
adds_or_removes (Free k) = inl refl
adds_or_removes (Give m borrows) = inl refl

-- ---- two facts are the same, or not

is_same_loan-decides : (l k : Loan) → Decides (is_same_loan l k) (l ≡ k)
is_same_loan-decides Borrowed Borrowed = (λ e. refl, λ e. refl)
is_same_loan-decides Borrowed Observed = (λ e. cc, λ e. cc)
is_same_loan-decides Observed Borrowed = (λ e. cc, λ e. cc)
is_same_loan-decides Observed Observed = (λ e. refl, λ e. refl)

pub is_same_fact-decides : (f g : Fact) → Decides (is_same_fact f g) (f ≡ g)
is_same_fact-decides (Moved n) (Moved m) =
    let names = is_same-decides n m in
    (λ e. ap Moved (names.0 e), λ e. names.1 cc)
is_same_fact-decides (Moved n) (Lent l h m) = (λ e. cc, λ e. cc)
is_same_fact-decides (Lent l h n) (Moved m) = (λ e. cc, λ e. cc)
is_same_fact-decides (Lent l h n) (Lent k g m) =
    let loans = is_same_loan-decides l k in
    let names = is_same-decides n m in (
      λ e.
          let parts = both_parts (is_same_loan l k) ((h == g) && is_same n m) e in
          let rest = both_parts (h == g) (is_same n m) parts.1 in
          let loan = loans.0 parts.0 in
          let holder = eqb-true h g rest.0 in
          let name = names.0 rest.1 in
          λ i. Lent (loan i) (holder i) (name i),
      λ e.
          both_true (is_same_loan l k) ((h == g) && is_same n m) (loans.1 cc)
          (both_true (h == g) (is_same n m) (eq-eqb h g cc) (names.1 cc)),
    )

-- ---- whether a fact holds

pub is_added-decides : (a : Act) (f : Fact) → Decides (is_added a f) (Has (adds a) f)
is_added-decides a f = list_any-decides (λ g. is_same_fact g f) f (λ g. is_same_fact-decides g f) (adds a)

stays : (b : Bool) → not b ≡ true → b ≡ false
stays true e = cc
stays false e = refl

-- a fact holds after an act as `holds_behind` says, where it holds before it as `held` says
pub holds_behind-decides : (a : Act) (f : Fact) (facts : List Fact) (held : Bool) → Decides held (Has facts f)
    → Decides (holds_behind a f held) (Has (effect a facts) f)
holds_behind-decides a f facts held before = (from (is_added a f) (held && not (removes a f)) refl refl, to)
  where
    added : Decides (is_added a f) (Has (adds a) f)
    added = is_added-decides a f

    kept : List Fact
    kept = filter (λ g. not (removes a g)) facts

    from : (new old : Bool) → is_added a f ≡ new → (held && not (removes a f)) ≡ old → (new || old) ≡ true → Has (effect a facts) f
    from true old is was e = Has-append_right kept (adds a) f (added.0 is)
    from false true is was e =
        let parts = both_parts held (not (removes a f)) was in
        Has-append_left kept (adds a) f (Has-filter_passes (λ g. not (removes a g)) facts f (before.0 parts.0) parts.1)
    from false false is was e = cc

    either : (new old : Bool) → (new ≡ true) ⊎ (old ≡ true) → (new || old) ≡ true
    either true old e = refl
    either false old e = elim e [ inl e ↦ cc | inr e ↦ e ]

    to : Has (effect a facts) f → holds_behind a f held ≡ true
    to h = either (is_added a f) (held && not (removes a f)) (elim (Has-append_cases kept (adds a) f h) [
      | inl old ↦ (
          let was = Has-filter (λ g. not (removes a g)) facts f old in
          inr (both_true held (not (removes a f)) (before.1 was.0) was.1))
      | inr new ↦ inl (added.1 new)
    ])

-- and so along some acts
pub holds_along-decides : (acts : List Act) (f : Fact) (facts : List Fact) (held : Bool) → Decides held (Has facts f)
    → Decides (holds_along acts f held) (Has (facts_behind facts acts) f)
holds_along-decides [] f facts held before = before
holds_along-decides (a ∷ acts) f facts held before =
    holds_along-decides acts f (effect a facts) (holds_behind a f held) (holds_behind-decides a f facts held before)

pub facts_behind-append : (facts : List Fact) (acts more : List Act)
    → facts_behind facts (acts ++ more) ≡ facts_behind (facts_behind facts acts) more
facts_behind-append facts acts more = fold-append (λ facts a. effect a facts) facts acts more
