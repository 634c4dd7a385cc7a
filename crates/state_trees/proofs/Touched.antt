-- A loop over the numbers of the facts that an act touches.
use Rattle.std.proofs.Common.{◌≡◌, refl, sym, ap, ◌∙◌, subst, ℕ, ◌+◌, ◌<◌, Bool, false, not, List, length, get_or}
use Rattle.place_names.specs.declared.act.Act.{Act}
use Rattle.place_names.specs.declared.fact.Fact.{Fact}
use Rattle.place_names.specs.declared.fact.Fact.TheVariants.{Moved}
use Rattle.place_names.specs.Names.{object}
use Rattle.place_names.specs.Facts.{holds_behind}
use Rattle.state_trees.specs.Concerns.{touches, HasTouched}
use Rattle.state_trees.proofs.Left.{twice}
use Rattle.state_trees.proofs.Numbered.{next, next_first, next_later, number_within}
use Rattle.state_trees.proofs.Passes.{passed, passed_stays, default_same}
use Rattle.state_trees.proofs.Untouched.{untouched_left, not_asked}

-- some fact, to be told where a list ends
abbrev pub some_fact : Fact
some_fact = Moved (object 0)

-- what goes on over the facts that an act doesn't touch
abbrev pub PassesUntouched : Act → List Fact → (ℕ → Type 0) → Type 0
PassesUntouched a facts P = (j : ℕ) → j < length facts → touches a (get_or facts j some_fact) ≡ false → P j → P (j + 1)

-- it holds at the first number
pub touched_first : (a : Act) (facts : List Fact) (numbers : List ℕ) (P : ℕ → Type 0) → HasTouched a facts numbers
    → PassesUntouched a facts P → P 0 → P (next facts numbers 0)
touched_first a facts numbers P h over p =
    next_first h.0 facts numbers P h.1
    (λ j there apart. over j there (not_asked a h.0 h.2 (get_or facts j some_fact) (apart some_fact)))
    p

-- what holds at the next number holds at this one
pub touched_here : (facts : List Fact) (numbers : List ℕ) (P : ℕ → Type 0) (k i : ℕ) → i ≡ get_or numbers k 0 → k < length numbers
    → P (next facts numbers k) → P i
touched_here facts numbers P k i is h p = subst P (default_same numbers k (length facts) 0 h ∙ sym is) p

-- and what holds right after this one holds at the next one
pub touched_later : (a : Act) (facts : List Fact) (numbers : List ℕ) (P : ℕ → Type 0) (k i : ℕ) → HasTouched a facts numbers
    → PassesUntouched a facts P → i ≡ get_or numbers k 0 → k < length numbers → P (i + 1) → P (next facts numbers (k + 1))
touched_later a facts numbers P k i h over is there p =
    next_later h.0 facts numbers P k 0 h.1
    (λ j there apart. over j there (not_asked a h.0 h.2 (get_or facts j some_fact) (apart some_fact)))
    there
    (subst (λ (n : ℕ). P (n + 1)) is p)

pub touched_within : (a : Act) (facts : List Fact) (numbers : List ℕ) (k i : ℕ) → HasTouched a facts numbers → i ≡ get_or numbers k 0
    → k < length numbers → i < length facts
touched_within a facts numbers k i h is there = subst (λ (n : ℕ). n < length facts) (sym is) (number_within h.0 facts numbers k 0 h.1 there)

-- the marks of such facts stay
pub may_over : (a : Act) (facts : List Fact) (may items : List Bool)
    → PassesUntouched a facts (λ n. items ≡ passed (λ f m. holds_behind a f m) n facts may)
may_over a facts may items j there apart is =
    let f = get_or facts j some_fact in
    passed_stays (λ f m. holds_behind a f m) j facts may items is there f some_fact refl (λ m. untouched_left a f m apart)

pub lacks_over : (a : Act) (facts : List Fact) (lacks items : List Bool)
    → PassesUntouched a facts (λ n. items ≡ passed (λ f l. not (holds_behind a f (not l))) n facts lacks)
lacks_over a facts lacks items j there apart is =
    let f = get_or facts j some_fact in
    passed_stays (λ f l. not (holds_behind a f (not l))) j facts lacks items is there f some_fact refl
    (λ l. ap not (untouched_left a f (not l) apart) ∙ twice l)
