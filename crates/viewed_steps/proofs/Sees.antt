-- What only sees: observers, formals that nothing is changed through, and the borrowers of what only sees.
use Rattle.std.proofs.Common.{◌≡◌, refl, sym, ap, ◌∙◌, ◌⊎◌, inl, inr, ℕ, zero, suc, ◌<◌, ◌≤◌, Bool, true, false, ◌&&◌, ◌||◌, ◌==◌, eqb-true, eq-eqb, List, [], ◌∷◌, arith}
use Rattle.std.specs.List.{list_any}
use Rattle.std.proofs.lemmas.Bool.{false≢true}
use Rattle.machine.specs.spark_base.Lists.{Has}
use Rattle.machine.specs.place_names.declared.act.Act.{Act}
use Rattle.machine.specs.place_names.declared.act.Act.TheVariants.{Borrow}
use Rattle.machine.specs.place_names.Names.{Name}
use Rattle.machine.specs.typed_tree.declared.object.ObjectKind.{ObjectKind}
use Rattle.machine.specs.typed_tree.declared.object.ObjectKind.TheVariants as object_kind
use Rattle.machine.specs.flow_paths.Objects.{Typing, object_at, is_borrower, is_borrowing, is_observing, is_anonymous, is_variable, is_formal, is_formal_kind, view_of}
use Rattle.machine.specs.flow_paths.Laid.{FlowProgram, flow_typing}
use Rattle.machine.specs.Owners.{is_in}
use Rattle.soundness.specs.Seen.{is_view_formal}
use Rattle.soundness.specs.ViewedSoundness.Holds.{is_given, sees_only, Seeing}
use Rattle.soundness.proofs.ViewedSoundness.ViewKinds.{only_seeing}
use Rattle.viewed_steps.proofs.Views.{given_formal}
use Rattle.viewed_steps.specs.Seeing.{borrows_from, sees_within, program_acts, sees_in}
use Rattle.soundness.proofs.Parted.{by_either}

or_left : (a b : Bool) → a ≡ true → a || b ≡ true
or_left a b e = ap (λ z. z || b) e

or_right : (a b : Bool) → b ≡ true → a || b ≡ true
or_right true b e = refl
or_right false b e = e

either : (a b : Bool) → a || b ≡ true → (a ≡ true) ⊎ (b ≡ true)
either true b e = inl refl
either false b e = inr e

both : (a b : Bool) → a ≡ true → b ≡ true → a && b ≡ true
both a b e f = ap (λ z. z && b) e ∙ f

first : (a b : Bool) → a && b ≡ true → a ≡ true
first true b e = refl
first false b e = absurd (false≢true e)

second : (a b : Bool) → a && b ≡ true → b ≡ true
second true b e = e
second false b e = absurd (false≢true e)

-- some act declares a borrower of what is as asked
any_act : (test : ℕ → Bool) (x : ℕ) (acts : List Act) (m : Name) → Has acts (Borrow x m) → test m.root ≡ true → list_any (borrows_from test x) acts ≡ true
any_act test x [] m has is = absurd has
any_act test x (a ∷ acts) m (inl same) is =
    or_left (borrows_from test x a) (list_any (borrows_from test x) acts)
    (ap (borrows_from test x) same ∙ both (x == x) (test m.root) (eq-eqb x x refl) is)
any_act test x (a ∷ acts) m (inr has) is =
    or_right (borrows_from test x a) (list_any (borrows_from test x) acts) (any_act test x acts m has is)

act_from : (test : ℕ → Bool) (x : ℕ) (a : Act) → borrows_from test x a ≡ true → (m : Name) × (a ≡ Borrow x m) × (test m.root ≡ true)
act_from test x (Borrow h m) is = (m, ap (λ z. Borrow z m) (eqb-true h x (first (h == x) (test m.root) is)), second (h == x) (test m.root) is)
act_from test x _ is = absurd (false≢true is)

any_from : (test : ℕ → Bool) (x : ℕ) (acts : List Act) → list_any (borrows_from test x) acts ≡ true
    → (m : Name) × Has acts (Borrow x m) × (test m.root ≡ true)
any_from test x [] is = absurd (false≢true is)
any_from test x (a ∷ acts) is = elim (either (borrows_from test x a) (list_any (borrows_from test x) acts) is) [
  | inl here ↦ (let found = act_from test x a here in (found.0, inl found.1, found.2))
  | inr later ↦ (let found = any_from test x acts later in (found.0, inr found.1, found.2))
]

module _ (s : Typing) (acts : List Act) where
  only_within : (steps x : ℕ) → sees_only s x ≡ true → sees_within steps s acts x ≡ true
  unfolding sees_within
  only_within zero x only = only
  only_within (suc steps) x only = or_left (sees_only s x) (is_borrower s x && list_any (borrows_from (sees_within steps s acts) x) acts) only

  borrows_within : (steps x : ℕ) (m : Name) → is_borrower s x ≡ true → Has acts (Borrow x m) → sees_within steps s acts m.root ≡ true
      → sees_within (suc steps) s acts x ≡ true
  unfolding sees_within
  borrows_within steps x m borrows has sees =
      or_right (sees_only s x) (is_borrower s x && list_any (borrows_from (sees_within steps s acts) x) acts)
      (both (is_borrower s x) (list_any (borrows_from (sees_within steps s acts) x) acts) borrows (any_act (sees_within steps s acts) x acts m has sees))

  pub from_within : (steps x : ℕ) → sees_within (suc steps) s acts x ≡ true
      → (sees_only s x ≡ true) ⊎ ((is_borrower s x ≡ true) × (m : Name) × Has acts (Borrow x m) × (sees_within steps s acts m.root ≡ true))
  unfolding sees_within
  from_within steps x is = elim (either (sees_only s x) (is_borrower s x && list_any (borrows_from (sees_within steps s acts) x) acts) is) [
    | inl only ↦ inl only
    | inr borrowed ↦ (
        let found = any_from (sees_within steps s acts) x acts (second (is_borrower s x) (list_any (borrows_from (sees_within steps s acts) x) acts) borrowed) in
        inr (first (is_borrower s x) (list_any (borrows_from (sees_within steps s acts) x) acts) borrowed, found.0, found.1, found.2))
  ]

  pub zero_within : (x : ℕ) → sees_within zero s acts x ≡ true → sees_only s x ≡ true
  unfolding sees_within
  zero_within x is = is

  -- what sees does so by itself, or is a borrower
  pub kind_within : (steps x : ℕ) → sees_within steps s acts x ≡ true → (sees_only s x ≡ true) ⊎ (is_borrower s x ≡ true)
  kind_within zero x is = inl (zero_within x is)
  kind_within (suc steps) x is = by_either (from_within steps x is) (λ only. (inl only)) (λ (borrows, m, has, from). (inr borrows))

  source_within : (steps x : ℕ) → sees_within steps s acts x ≡ true → sees_only s x ≡ false
      → (less : ℕ) × (m : Name) × Has acts (Borrow x m) × (sees_within less s acts m.root ≡ true)
  source_within zero x is plain = absurd (let no : false ≡ true = sym plain ∙ zero_within x is in false≢true no)
  source_within (suc steps) x is plain = by_either (from_within steps x is)
      (λ only. (absurd (let no : false ≡ true = sym plain ∙ only in false≢true no)))
      (λ (borrows, m, has, from). (steps, m, has, from))

  -- where borrowers have greater numbers than what they are declared from, so many steps are enough
  module _ (less : (x : ℕ) (m : Name) → Has acts (Borrow x m) → m.root < x) where
    one_more : (more x : ℕ) (m : Name) → ((k : ℕ) → m.root ≤ k → sees_within k s acts m.root ≡ true) → is_borrower s x ≡ true → Has acts (Borrow x m) → x ≤ more
        → sees_within more s acts x ≡ true
    one_more zero x m sees borrows has long = (let below = less x m has in absurd (omega (arith, below, long)))
    one_more (suc more) x m sees borrows has long =
        (let below = less x m has in borrows_within more x m borrows has (sees more (omega (arith, below, long))))

    pub within_enough : (steps more x : ℕ) → x ≤ more → sees_within steps s acts x ≡ true → sees_within more s acts x ≡ true
    within_enough zero more x long is = only_within more x (zero_within x is)
    within_enough (suc steps) more x long is = by_either (from_within steps x is)
        (λ only. (only_within more x only))
        (λ (borrows, m, has, from). (one_more more x m (λ k enough. within_enough steps k m.root enough from) borrows has long))

-- a borrower is no formal
no_variable : (k : ObjectKind) → is_formal_kind k ≡ true → is_variable k ≡ false
no_variable object_kind.Formal is = refl
no_variable k is = absurd (false≢true is)

module _ (program : FlowProgram) where
  abbrev s : Typing
  s = flow_typing program

  abbrev acts : List Act
  acts = program_acts program

  pub only_sees : (x : ℕ) → sees_only s x ≡ true → sees_in program x ≡ true
  unfolding sees_in
  only_sees x only = only_within s acts x x only

  pub within_seen : (x : ℕ) → sees_in program x ≡ true → sees_within x s acts x ≡ true
  unfolding sees_in
  within_seen x is = is

  -- what sees does so by itself, or is a borrower
  pub kind_seen : (x : ℕ) → sees_in program x ≡ true → (sees_only s x ≡ true) ⊎ (is_borrower s x ≡ true)
  kind_seen x is = kind_within s acts x x (within_seen x is)

  -- what tells which objects only see
  pub sees_seeing : Seeing s (sees_in program)
  sees_seeing = record {
    observers = λ x is. only_sees x (only.observers x is);
    views = λ x is. elim (kind_seen x is) [
      | inl seen ↦ only.views x seen
      | inr borrows ↦ or_left (is_anonymous (view_of s x)) (is_view_formal s x)
          (or_left (is_borrowing (view_of s x)) (is_observing (view_of s x)) (second (is_variable (object_at s x).kind) (is_borrowing (view_of s x)) borrows))
    ];
    lends = λ x given none. only.lends x given (unseen x none);
    changes = λ x given exclusive. changed x given (only.changes x given exclusive) (sees_in program x) refl;
  }
    where
      only : Seeing s (sees_only s)
      only = only_seeing s

      unseen : (x : ℕ) → sees_in program x ≡ false → sees_only s x ≡ false
      unseen x none = by (sees_only s x) refl
        where
          by : (b : Bool) → sees_only s x ≡ b → b ≡ false
          by true seen = (let no : false ≡ true = sym none ∙ only_sees x seen in absurd (false≢true no))
          by false seen = refl

      changed : (x : ℕ) → is_given s x ≡ true → sees_only s x ≡ false → (b : Bool) → sees_in program x ≡ b → b ≡ false
      changed x given plain false is = refl
      changed x given plain true is = absurd (elim (kind_seen x is) [
        | inl seen ↦ (let no : false ≡ true = sym plain ∙ seen in absurd (false≢true no))
        | inr borrows ↦ (
            let no : false ≡ true =
            sym (no_variable (object_at s x).kind (first (is_formal s x) (is_in (object_at s x).mode) (given_formal s x given))) ∙ first (is_variable (object_at s x).kind) (is_borrowing (view_of s x)) borrows in
            absurd (false≢true no))
      ])

  module _ (less : (x : ℕ) (m : Name) → Has acts (Borrow x m) → m.root < x) where
    -- a borrower of what sees does
    pub borrower_sees : (x : ℕ) (m : Name) → is_borrower s x ≡ true → Has acts (Borrow x m) → sees_in program m.root ≡ true → sees_in program x ≡ true
    unfolding sees_in
    borrower_sees x m borrows has sees = within_enough s acts less (suc m.root) x x (omega arith) (borrows_within s acts m.root x m borrows has sees)

    -- and one that sees was declared from what does
    pub source_sees : (x : ℕ) → sees_in program x ≡ true → sees_only s x ≡ false → (m : Name) × Has acts (Borrow x m) × (sees_in program m.root ≡ true)
    unfolding sees_in
    source_sees x sees plain =
        let from = source_within s acts x x sees plain in
        (from.1, from.2, within_enough s acts less from.0 (from.1).root (from.1).root (omega arith) from.3)
