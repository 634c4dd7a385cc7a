-- Facts beside those of a subprogram, as those of the frames around it: acts that none of them
-- forbids are allowed with them, and none is added to them.
use Rattle.std.proofs.Common.{◌≡◌, refl, sym, ap, ◌∙◌, subst, ◌⊎◌, inl, inr, ℕ, Bool, true, false, not, ◌&&◌, ◌||◌, ◌==◌, eq-eqb, eqb-true, List, [], ◌∷◌, map, append-nil, None}
use Rattle.std.specs.Prelude.{filter, is_some}
use Rattle.std.specs.List.{list_any}
use Rattle.std.proofs.lemmas.Bool.{false≢true, true≢false}
use Rattle.machine.specs.spark_base.Lists.{Has}
use Rattle.spark_base.proofs.Lists.{Has-append_left, Has-append_right, Has-append_cases, Has-filter, Has-filter_passes}
use Rattle.machine.specs.place_names.declared.selector.Sel.{Sel}
use Rattle.machine.specs.place_names.declared.act.Mode.TheVariants as mode
use Rattle.machine.specs.place_names.declared.act.Act.{Act}
use Rattle.machine.specs.place_names.declared.act.Act.TheVariants as act
use Rattle.machine.specs.place_names.declared.fact.Fact.{Fact}
use Rattle.machine.specs.place_names.declared.fact.Fact.TheVariants.{Moved}
use Rattle.machine.specs.place_names.declared.rule.Rule.{Rule}
use Rattle.machine.specs.place_names.Names.{Name, agree_along, agrees_whole}
use Rattle.machine.specs.place_names.Facts.{adds, removes, effect}
use Rattle.machine.specs.place_names.Rules.{forbidden_if, forbids, breaks_O1, breaks_O2, breaks_O3, breaks_O4, breaks_O8, breaks_O11, breaks_O14}
use Rattle.machine.specs.flow_paths.Effects.{act_reads, act_writes}
use Rattle.soundness.specs.OwnedWays.Ways.{after, AllowsAll}
use Rattle.soundness.proofs.Contents.{bool_cases}

-- ---- acts along facts

-- Each of some facts is one of others, or of these beside.
abbrev pub Splits : List Fact → List Fact → List Fact → Type 0
Splits all facts beside = (f : Fact) → Has all f → Has facts f ⊎ Has beside f

effect_splits : (a : Act) (all facts beside : List Fact) → Splits all facts beside → Splits (effect a all) (effect a facts) beside
effect_splits a all facts beside from f has = elim (Has-append_cases (filter (λ g. not (removes a g)) all) (adds a) f has) [
  | inr new ↦ inl (Has-append_right (filter (λ g. not (removes a g)) facts) (adds a) f new)
  | inl old ↦ (
      let was = Has-filter (λ g. not (removes a g)) all f old in
      elim (from f was.0) [
        | inl mine ↦ inl (Has-append_left (filter (λ g. not (removes a g)) facts) (adds a) f (Has-filter_passes (λ g. not (removes a g)) facts f mine was.1))
        | inr other ↦ inr other
      ])
]

pub after_splits : (more : List Act) (all facts beside : List Fact) → Splits all facts beside → Splits (after more all) (after more facts) beside
after_splits [] all facts beside from = from
after_splits (a ∷ more) all facts beside from = after_splits more (effect a all) (effect a facts) beside (effect_splits a all facts beside from)

pub allowed_beside : (more : List Act) (all facts beside : List Fact) → Splits all facts beside → AllowsAll facts more
    → ((a : Act) → Has more a → (f : Fact) → Has beside f → forbids a f ≡ None) → AllowsAll all more
allowed_beside [] all facts beside from allowed each = tt
allowed_beside (a ∷ more) all facts beside from allowed each = (
  λ f has. elim (from f has) [ inl mine ↦ allowed.0 f mine | inr other ↦ each a (inl refl) f other ],
  allowed_beside more (effect a all) (effect a facts) beside (effect_splits a all facts beside from) allowed.1 (λ b has. each b (inr has)),
)

-- ---- acts on package objects

filter_all : {A : Type 0} (xs : List A) → filter (λ x. true) xs ≡ xs
filter_all [] = refl
filter_all (x ∷ xs) = ap (λ z. x ∷ z) (filter_all xs)

abbrev pub AreGlobal : List Act → Type 0
AreGlobal more = (a : Act) → Has more a → (g : ℕ) × (written : Bool) × (a ≡ act.Global g written)

-- they change no fact
pub global_after : (more : List Act) (facts : List Fact) → AreGlobal more → after more facts ≡ facts
global_after [] facts are = refl
global_after (a ∷ more) facts are =
    let is = are a (inl refl) in
    ap (λ z. after more (effect z facts)) is.2
    ∙ ap (after more) (append-nil (filter (λ f. true) facts) ∙ filter_all facts)
    ∙ global_after more facts (λ b has. are b (inr has))

-- and each is allowed by each fact
pub global_allowed : (more : List Act) (facts : List Fact) → AreGlobal more → AllowsAll facts more → (a : Act) → Has more a → (f : Fact) → Has facts f
    → forbids a f ≡ None
global_allowed [] facts are allowed a has f there = absurd has
global_allowed (b ∷ more) facts are allowed a (inl e) f there = ap (λ z. forbids z f) (sym e) ∙ allowed.0 f there
global_allowed (b ∷ more) facts are allowed a (inr has) f there =
    let is = are b (inl refl) in
    let same : effect b facts ≡ facts = ap (λ z. effect z facts) is.2 ∙ append-nil (filter (λ g. true) facts) ∙ filter_all facts in
    global_allowed more facts (λ c h. are c (inr h)) (subst (λ z. AllowsAll z more) same allowed.1) a has f there

-- ---- facts and acts of different roots

forbidden_none : (test : Bool) (r : Rule) (m : Name) (f : Fact) → test ≡ false → forbidden_if test r m f ≡ None
forbidden_none true r m f e = absurd (true≢false e)
forbidden_none false r m f e = refl

none_forbidden : (test : Bool) (r : Rule) (m : Name) (f : Fact) → forbidden_if test r m f ≡ None → test ≡ false
none_forbidden true r m f e = absurd (true≢false (ap is_some e))
none_forbidden false r m f e = refl

-- An act that reads or writes what it names; of actuals, those of mode `out`.
abbrev pub is_open : Act → Bool
is_open (act.Read m) = true
is_open (act.Look m) = true
is_open (act.Write m) = true
is_open (act.Move m parts) = true
is_open (act.Free m) = true
is_open (act.Actual m mode.Out owning access) = true
is_open (act.EndScope x borrower) = not borrower
is_open _ = false

module _ (n : Name) (x : ℕ) (is : n.root ≡ x) where
  other_root : (r : ℕ) → (r == x) ≡ false → (n.root == r) ≡ false
  other_root r other = elim (bool_cases (n.root == r)) [
    | inr e ↦ e
    | inl e ↦ (let same : (r == x) ≡ true = eq-eqb r x (sym (eqb-true n.root r e) ∙ is) in let no : true ≡ false = sym same ∙ other in absurd (true≢false no))
  ]

  -- the root decides
  apart_overlap : (m : Name) → (m.root == x) ≡ false → breaks_O4 m (Moved n) ≡ false
  apart_overlap m other = ap (λ b. b && agree_along n.sels m.sels) (other_root m.root other)

  apart_lead : (m : Name) → (m.root == x) ≡ false → breaks_O2 m (Moved n) ≡ false
  apart_lead m other = ap (λ b. (b && agrees_whole n.sels m.sels) || false) (other_root m.root other)

  apart_fronts : (r : ℕ) → (r == x) ≡ false → (fronts : List (List Sel)) → list_any (λ p. breaks_O2 p (Moved n)) (map (λ front. record { root = r; sels = front }) fronts) ≡ false
  apart_fronts r other [] = refl
  apart_fronts r other (front ∷ fronts) =
      ap (λ b. b || list_any (λ p. breaks_O2 p (Moved n)) (map (λ front. record { root = r; sels = front }) fronts))
      (apart_lead (record { root = r; sels = front }) other)
      ∙ apart_fronts r other fronts

  apart_write : (m : Name) → (m.root == x) ≡ false → breaks_O3 m (Moved n) ≡ false
  apart_write m other = ap (λ b. b || false) (apart_fronts m.root other _)

  pub apart_allows : (a : Act) → is_open a ≡ true → act_writes x a ≡ false → act_reads x a ≡ false → forbids a (Moved n) ≡ None
  apart_allows (act.Read m) opens writes reads = forbidden_none (breaks_O1 m (Moved n)) _ m (Moved n) (apart_overlap m reads)
  apart_allows (act.Look m) opens writes reads = forbidden_none (breaks_O2 m (Moved n)) _ m (Moved n) (apart_lead m reads)
  apart_allows (act.Write m) opens writes reads = forbidden_none (breaks_O3 m (Moved n)) _ m (Moved n) (apart_write m writes)
  apart_allows (act.Move m parts) opens writes reads = forbidden_none (breaks_O4 m (Moved n)) _ m (Moved n) (apart_overlap m writes)
  apart_allows (act.Free m) opens writes reads = forbidden_none (breaks_O14 m (Moved n)) _ m (Moved n) (apart_lead m writes)
  apart_allows (act.Actual m mode.Out owning access) opens writes reads =
      forbidden_none (breaks_O3 m (Moved n)) _ m (Moved n) (apart_write m (one (m.root == x) writes))
    where
      one : (b : Bool) → b && true ≡ false → b ≡ false
      one true e = absurd (true≢false e)
      one false e = refl
  apart_allows (act.EndScope y borrower) opens writes reads = forbidden_none (breaks_O8 y borrower (Moved n)) _ n (Moved n) (by_kind borrower opens)
    where
      by_kind : (b : Bool) → not b ≡ true → breaks_O8 y b (Moved n) ≡ false
      by_kind true e = absurd (false≢true e)
      by_kind false e = refl
  apart_allows a opens writes reads = cc

  -- A package object that was moved isn't used by a call that is allowed.
  pub global_apart : (written : Bool) → forbids (act.Global x written) (Moved n) ≡ None → ⊥
  global_apart written allowed =
      let same : (n.root == x) ≡ true = eq-eqb n.root x is in
      let broken : breaks_O11 x written (Moved n) ≡ true = by_use written same in
      let spared : breaks_O11 x written (Moved n) ≡ false = none_forbidden (breaks_O11 x written (Moved n)) _ _ (Moved n) allowed in
      let no : true ≡ false = sym broken ∙ spared in absurd (true≢false no)
    where
      ends_there : (sels : List Sel) → agree_along sels [] ≡ true
      ends_there [] = refl
      ends_there (s ∷ sels) = refl

      by_use : (w : Bool) → (n.root == x) ≡ true → breaks_O11 x w (Moved n) ≡ true
      by_use true e = ap (λ b. b && agree_along n.sels []) e ∙ ends_there n.sels
      by_use false e = ap (λ b. b && agree_along n.sels []) e ∙ ends_there n.sels
