-- The acts of a call on package objects, each by the number of its object.
use Rattle.std.proofs.Common.{◌≡◌, inl, inr, refl, sym, subst, ℕ, suc, ◌+◌, ◌<◌, ◌≤◌, Bool, true, false, ◌&&◌, ◌||◌, ◌==◌, List, [], ◌∷◌, drop, length, nat_le, Option, Some, None, if◌then◌else◌, arith}
use Rattle.std.proofs.lemmas.Bool.{cases_lt}
use Rattle.spark_base.specs.Lists.{Has}
use Rattle.spark_base.proofs.Lists.{Has-append_left, Has-append_right, Has-append_cases}
use Rattle.place_names.specs.declared.act.Act.{Act}
use Rattle.place_names.specs.declared.act.Act.TheVariants.{Global}
use Rattle.place_names.specs.declared.fact.Fact.{Fact}
use Rattle.place_names.specs.declared.rule.Rule.TheVariants.{O11}
use Rattle.place_names.specs.Names.{object}
use Rattle.place_names.specs.Rules.{Forbidden, forbids, word, breaks_O11}
use Rattle.place_names.proofs.Names.{both_parts, both_true}
use Rattle.typed_tree.specs.declared.object.Object.{Object}
use Rattle.flow_paths.specs.Effects.{is_in, global_act, globals_from}
use Rattle.path_reports.specs.Uses.{breaks_at}

-- ---- the acts of a call

-- an act on an object with a number from n on, and before another one
pub record IsFrom (n past : ℕ) (read written : List ℕ) (a : Act) (g : ℕ) : Type 0 where
  pub above : n ≤ g
  pub below : g < past
  pub has : Has (global_act g (is_in g read) (is_in g written)) a

of_globals : (n : ℕ) (objects : List Object) (r w : List ℕ) (a : Act) → Has (globals_from n objects r w) a
    → (g : ℕ) × IsFrom n (n + length objects) r w a g
of_globals n [] r w a h = absurd h
of_globals n (o ∷ objects) r w a h =
    elim (Has-append_cases (global_act n (is_in n r) (is_in n w)) (globals_from (suc n) objects r w) a h) [
      | inl here ↦ (n, record { above = omega arith; below = omega arith; has = here })
      | inr later ↦
          let more = of_globals (suc n) objects r w a later in
          let above = more.1.above in
          let below = more.1.below in
          (more.0, record { above = omega arith; below = omega arith; has = more.1.has })
    ]

to_globals : (n : ℕ) (objects : List Object) (r w : List ℕ) (a : Act) (g : ℕ) → IsFrom n (n + length objects) r w a g
    → Has (globals_from n objects r w) a
to_globals n [] r w a g from = absurd (omega arith)
to_globals n (o ∷ objects) r w a g from = elim (cases_lt n g) [
  | inl less ↦
      Has-append_right (global_act n (is_in n r) (is_in n w)) (globals_from (suc n) objects r w) a
      (to_globals (suc n) objects r w a g (record { above = omega arith; below = omega arith; has = from.has }))
  | inr more ↦
      let same : g ≡ n = omega arith in
      Has-append_left (global_act n (is_in n r) (is_in n w)) (globals_from (suc n) objects r w) a
      (subst (λ k. Has (global_act k (is_in k r) (is_in k w)) a) same from.has)
]

pub of_call : (objects : List Object) (r w : List ℕ) (a : Act) → Has (globals_from 1 (drop 1 objects) r w) a
    → (g : ℕ) × IsFrom 1 (length objects) r w a g
of_call [] r w a h = absurd h
of_call (o ∷ objects) r w a h =
    let from = of_globals 1 objects r w a h in
    let below = from.1.below in
    (from.0, record { above = from.1.above; below = omega arith; has = from.1.has })

pub to_call : (objects : List Object) (r w : List ℕ) (a : Act) (g : ℕ) → IsFrom 1 (length objects) r w a g
    → Has (globals_from 1 (drop 1 objects) r w) a
to_call [] r w a g from = absurd (omega arith)
to_call (o ∷ objects) r w a g from =
    to_globals 1 objects r w a g (record { above = from.above; below = omega arith; has = from.has })

-- ---- each is on a package object

pub record IsOn (g : ℕ) (a : Act) : Type 0 where
  pub written : Bool
  pub is : a ≡ Global g written

pub act_is : (g : ℕ) (r w : Bool) (a : Act) → Has (global_act g r w) a → IsOn g a
act_is g r true a h = elim h [ inl e ↦ record { written = true; is = sym e } | inr none ↦ absurd none ]
act_is g true false a h = elim h [ inl e ↦ record { written = false; is = sym e } | inr none ↦ absurd none ]
act_is g false false a h = absurd h

-- ---- what a fact forbids at one of them

abbrev pub use_forbidden : ℕ → Fact → Forbidden
use_forbidden g f = record { rule = O11; name = object g; word = word f }

abbrev pub breaks_used : ℕ → Bool → Bool → Fact → Bool
breaks_used g r w f = if w then breaks_O11 g true f else (breaks_O11 g false f && r)

abbrev pub only_if : Bool → Forbidden → Option Forbidden
only_if b x = if b then Some x else None

-- a fact forbids something at an act of a call: it breaks the rule
pub record IsBroken (g : ℕ) (f : Fact) (r w : Bool) (y : Forbidden) : Type 0 where
  pub breaks : breaks_used g r w f ≡ true
  pub is : use_forbidden g f ≡ y

pub only_true : (b : Bool) (x y : Forbidden) → only_if b x ≡ Some y → (b ≡ true) × (x ≡ y)
only_true true x y e = (refl, cc)
only_true false x y e = cc

pub broken_by : (g : ℕ) (f : Fact) (r w : Bool) (a : Act) (y : Forbidden) → Has (global_act g r w) a → forbids a f ≡ Some y → IsBroken g f r w y
broken_by g f r true a y h e = elim h [
  | inl is ↦
      let parts = only_true (breaks_O11 g true f) (use_forbidden g f) y (subst (λ b. forbids b f ≡ Some y) (sym is) e) in
      record { breaks = parts.0; is = parts.1 }
  | inr none ↦ absurd none
]
broken_by g f true false a y h e = elim h [
  | inl is ↦
      let parts = only_true (breaks_O11 g false f) (use_forbidden g f) y (subst (λ b. forbids b f ≡ Some y) (sym is) e) in
      record { breaks = both_true (breaks_O11 g false f) true parts.0 refl; is = parts.1 }
  | inr none ↦ absurd none
]
broken_by g f false false a y h e = absurd h

-- and where it breaks the rule, some act of the call forbids that
pub record IsActed (g : ℕ) (f : Fact) (r w : Bool) : Type 0 where
  pub written : Bool
  pub has : Has (global_act g r w) (Global g written)
  pub forbids : forbids (Global g written) f ≡ Some (use_forbidden g f)

pub same_only : (b : Bool) (x : Forbidden) → b ≡ true → only_if b x ≡ Some x
same_only true x e = refl
same_only false x e = cc

pub breaks_acted : (g : ℕ) (f : Fact) (r w : Bool) → breaks_used g r w f ≡ true → IsActed g f r w
breaks_acted g f r true e = record { written = true; has = inl refl; forbids = same_only (breaks_O11 g true f) (use_forbidden g f) e }
breaks_acted g f true false e =
    let parts = both_parts (breaks_O11 g false f) true e in
    record { written = false; has = inl refl; forbids = same_only (breaks_O11 g false f) (use_forbidden g f) parts.0 }
breaks_acted g f false false e = (let parts = both_parts (breaks_O11 g false f) false e in absurd (no parts.1))
  where
    no : false ≡ true → ⊥
    no e = cc

-- ---- objects that are looked at

either_false : (a b : Bool) → (a || b) ≡ false → (a ≡ false) × (b ≡ false)
either_false true b e = cc
either_false false b e = (refl, e)

neither : (a b : Bool) → a ≡ false → b ≡ false → (a || b) ≡ false
neither a b e f = cc

-- such an object has a number from 1 on, below the count
pub record IsLookedAt (count : ℕ) (r w : List ℕ) (g : ℕ) (f : Fact) : Type 0 where
  pub above : 1 ≤ g
  pub below : g < count
  pub breaks : breaks_used g (is_in g r) (is_in g w) f ≡ true

pub breaks_from : (count : ℕ) (r w : List ℕ) (g : ℕ) (f : Fact) → breaks_at count r w g f ≡ true → IsLookedAt count r w g f
breaks_from count r w g f e = from (g == 0 || nat_le count g) refl e
  where
    from : (b : Bool) → (g == 0 || nat_le count g) ≡ b → (if b then false else breaks_used g (is_in g r) (is_in g w) f) ≡ true
        → IsLookedAt count r w g f
    from true is e = absurd (no e)
      where
        no : false ≡ true → ⊥
        no e = cc
    from false is e =
        let parts = either_false (g == 0) (nat_le count g) is in
        let some = parts.0 in
        let few = parts.1 in
        record { above = grind arith; below = grind arith; breaks = e }

pub breaks_to : (count : ℕ) (r w : List ℕ) (g : ℕ) (f : Fact) → IsLookedAt count r w g f → breaks_at count r w g f ≡ true
breaks_to count r w g f at =
    let some : (g == 0) ≡ false = grind arith in
    let few : nat_le count g ≡ false = grind arith in
    subst (λ b. (if b then false else breaks_used g (is_in g r) (is_in g w) f) ≡ true) (sym (neither (g == 0) (nat_le count g) some few)) at.breaks
