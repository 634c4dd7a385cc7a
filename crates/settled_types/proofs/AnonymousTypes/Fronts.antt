-- Code without a fault of typing has fronts without one.
use Rattle.std.proofs.Common.{◌≡◌, inl, inr, ℕ, Bool, ◌&&◌, IsTrue, arith, List, [], ◌∷◌, ◌++◌, refl, sym, subst, None, true≢false}
use Rattle.std.specs.Prelude.{flat_map}
use Rattle.machine.specs.spark_base.Lists.{Has}
use Rattle.spark_base.proofs.Lists.{Has-append_cases}
use Rattle.machine.specs.resolved_tree.Trees.{Code, NoMore, More, SubDecl, SubBody, Package, PackageBody, If, Branch, Case, When, Loop, While, For, Block, code_items, Program}
use Rattle.machine.specs.type_definitions.declared.judgement.Fault.{Fault}
use Rattle.machine.specs.type_definitions.declared.judgement.Where.TheVariants as stands
use Rattle.machine.specs.type_definitions.declared.table.Known.{Known}
use Rattle.machine.specs.type_definitions.Entries.{boolean}
use Rattle.machine.specs.type_definitions.Names.{Context}
use Rattle.machine.specs.type_definitions.Expressions.{faults, own_type}
use Rattle.machine.specs.type_definitions.Statements.{is_one_choice, coverage, type_or_integer, range_faults}
use Rattle.machine.specs.type_definitions.Gathered.{declared_number, in_visible, in_hidden}
use Rattle.machine.specs.type_definitions.Declarations.{body_faults, in_body, in_loop, selector_faults, choices_of, choices_faults, is_last, code_faults, alternatives_faults, alternative_faults}
use Rattle.machine.specs.type_definitions.Whole.{unit_faults, main_faults, outside, known_of, type_fault}
use Rattle.type_sizes.specs.Formed.{is_formed, are_alternatives, is_alternative, all_formed}
use Rattle.settled_types.proofs.Faultless.{no_faults}
use Rattle.soundness.proofs.TypedLaws.Agreeing.{nil_left, nil_right}
use Rattle.settled_types.specs.GatheredLaws.Views.{front_result, body_results}
use Rattle.settled_types.specs.AnonymousTypes.Fronts.{AllFronts, IsFrontFaultless, IsBodyFaultless}

and_first : (a b : Bool) → IsTrue (a && b) → IsTrue a
and_first a b p = grind arith

and_second : (a b : Bool) → IsTrue (a && b) → IsTrue b
and_second a b p = grind arith

module _ (known : Known) where
  abbrev Fronts : Code → Type 0
  Fronts = AllFronts (IsFrontFaultless known) (IsBodyFaultless known)

  mutual
    unfolding code_faults alternatives_faults alternative_faults is_formed are_alternatives is_alternative AllFronts

    code_fronts : (code : Code) (c : Context) → c.known ≡ known → IsTrue (is_formed code) → code_faults c code ≡ [] → Fronts code
    code_fronts (SubDecl front) c same formed e = (c, same, e)
    code_fronts (SubBody front items stmts end) c same formed e =
        let i : List Fault = code_faults (in_body front c) items in
        let s : List Fault = code_faults (in_body front c) stmts in
        let both : i ++ s ≡ [] = nil_right (body_faults c front) (i ++ s) e in (
          (c, same, nil_left (body_faults c front) (i ++ s) e),
          code_fronts items (in_body front c) same (and_first (is_formed items) (is_formed stmts) formed) (nil_left i s both),
          code_fronts stmts (in_body front c) same (and_second (is_formed items) (is_formed stmts) formed) (nil_right i s both),
        )
    code_fronts (Package d visible hidden) c same formed e =
        let v : Context = in_visible (declared_number d) c in
        let h : Context = in_hidden (declared_number d) c in (
          code_fronts visible v same (and_first (is_formed visible) (is_formed hidden) formed) (nil_left (code_faults v visible) (code_faults h hidden) e),
          code_fronts hidden h same (and_second (is_formed visible) (is_formed hidden) formed) (nil_right (code_faults v visible) (code_faults h hidden) e),
        )
    code_fronts (PackageBody d parts) c same formed e = code_fronts parts (in_hidden (declared_number d) c) same formed e
    code_fronts (If p branches otherwise) c same formed e = (
      code_fronts branches c same (and_first (is_formed branches) (is_formed otherwise) formed) (nil_left (code_faults c branches) (code_faults c otherwise) e),
      code_fronts otherwise c same (and_second (is_formed branches) (is_formed otherwise) formed) (nil_right (code_faults c branches) (code_faults c otherwise) e),
    )
    code_fronts (Branch p x stmts) c same formed e =
        code_fronts stmts c same formed (nil_right (faults c stands.Elsewhere boolean x) (code_faults c stmts) e)
    code_fronts (Case p x whens) c same formed e =
        let t : ℕ = type_or_integer (own_type c x) in
        let a : List Fault = alternatives_faults c t whens in
        alternatives whens c t same formed
        (nil_right (coverage c p x (choices_of whens)) a (nil_right (selector_faults c x) (coverage c p x (choices_of whens) ++ a) e))
    code_fronts (When choices stmts) c same formed e = absurd (true≢false (sym formed))
    code_fronts (Loop p stmts) c same formed e = code_fronts stmts (in_loop c) same formed e
    code_fronts (While p x stmts) c same formed e =
        code_fronts stmts (in_loop c) same formed (nil_right (faults c stands.Elsewhere boolean x) (code_faults (in_loop c) stmts) e)
    code_fronts (For p d reversed range stmts) c same formed e =
        code_fronts stmts (in_loop c) same formed (nil_right (range_faults c range) (code_faults (in_loop c) stmts) e)
    code_fronts (Block p items stmts end) c same formed e = (
      code_fronts items c same (and_first (is_formed items) (is_formed stmts) formed) (nil_left (code_faults c items) (code_faults c stmts) e),
      code_fronts stmts c same (and_second (is_formed items) (is_formed stmts) formed) (nil_right (code_faults c items) (code_faults c stmts) e),
    )
    code_fronts (More a rest) c same formed e = (
      code_fronts a c same (and_first (is_formed a) (is_formed rest) formed) (nil_left (code_faults c a) (code_faults c rest) e),
      code_fronts rest c same (and_second (is_formed a) (is_formed rest) formed) (nil_right (code_faults c a) (code_faults c rest) e),
    )
    code_fronts code c same formed e = tt

    alternatives : (code : Code) (c : Context) (t : ℕ) → c.known ≡ known → IsTrue (are_alternatives code) → alternatives_faults c t code ≡ [] → Fronts code
    alternatives (More a rest) c t same formed e =
        let one : List Fault = alternative_faults c t (is_last rest) a in (
          alternative a c t (is_last rest) same (and_first (is_alternative a) (are_alternatives rest) formed) (nil_left one (alternatives_faults c t rest) e),
          alternatives rest c t same (and_second (is_alternative a) (are_alternatives rest) formed) (nil_right one (alternatives_faults c t rest) e),
        )
    alternatives NoMore c t same formed e = tt
    alternatives code c t same formed e = absurd (true≢false (sym formed))

    alternative : (code : Code) (c : Context) (t : ℕ) (last : Bool) → c.known ≡ known → IsTrue (is_alternative code) → alternative_faults c t last code ≡ []
        → Fronts code
    alternative (When choices stmts) c t last same formed e =
        code_fronts stmts c same formed (nil_right (choices_faults c t (is_one_choice (code_items choices) && last) choices) (code_faults c stmts) e)
    alternative NoMore c t last same formed e = tt
    alternative code c t last same formed e = absurd (true≢false (sym formed))

  units_fronts : (units : List Code) → IsTrue (all_formed units) → flat_map (unit_faults (outside known)) units ≡ [] → (u : Code) → Has units u → Fronts u
  units_fronts [] formed none u has = absurd has
  units_fronts (v ∷ rest) formed none u has =
      let later : List Fault = flat_map (unit_faults (outside known)) rest in
      elim has [
        | inl same ↦ subst Fronts same
            (code_fronts v (outside known) refl (and_first (is_formed v) (all_formed rest) formed)
            (nil_left (code_faults (outside known) v) (main_faults v) (nil_left (unit_faults (outside known) v) later none)))
        | inr more ↦ units_fronts rest (and_second (is_formed v) (all_formed rest) formed) (nil_right (unit_faults (outside known) v) later none) u more
      ]

pub program_fronts : (p : Program) → IsTrue (all_formed p.units) → type_fault p ≡ None → (u : Code) → Has p.units u
    → AllFronts (IsFrontFaultless (known_of p)) (IsBodyFaultless (known_of p)) u
program_fronts p formed none = units_fronts (known_of p) p.units formed (no_faults p none)

-- ---- the anonymous types of results

module _ (declared body : Code → Type 0) where
  abbrev All : Code → Type 0
  All = AllFronts declared body

  -- A body with this number as that of its result's type.
  abbrev pub HasBody : ℕ → Type 0
  HasBody t = (front : Code) × body front × Has (front_result front) t

  two : (x y : Code) (t : ℕ) → Has (body_results x ++ body_results y) t → (Has (body_results x) t → HasBody t) → (Has (body_results y) t → HasBody t) → HasBody t
  two x y t has first second = elim (Has-append_cases (body_results x) (body_results y) t has) [ inl here ↦ first here | inr more ↦ second more ]

  bodied : (code : Code) (t : ℕ) → All code → Has (body_results code) t → HasBody t
  unfolding body_results AllFronts
  bodied (SubBody front items stmts end) t all has = elim (Has-append_cases (front_result front) (body_results items ++ body_results stmts) t has) [
    | inl here ↦ (front, all.0, here)
    | inr more ↦ two items stmts t more (bodied items t all.1) (bodied stmts t all.2)
  ]
  bodied (Package d visible hidden) t all has = two visible hidden t has (bodied visible t all.0) (bodied hidden t all.1)
  bodied (PackageBody d parts) t all has = bodied parts t all has
  bodied (If p x y) t all has = two x y t has (bodied x t all.0) (bodied y t all.1)
  bodied (Branch p e x) t all has = bodied x t all has
  bodied (Case p e x) t all has = bodied x t all has
  bodied (When choices x) t all has = bodied x t all has
  bodied (Loop p x) t all has = bodied x t all has
  bodied (While p e x) t all has = bodied x t all has
  bodied (For p d reversed range x) t all has = bodied x t all has
  bodied (Block p x y end) t all has = two x y t has (bodied x t all.0) (bodied y t all.1)
  bodied (More x y) t all has = two x y t has (bodied x t all.0) (bodied y t all.1)
  bodied code t all has = absurd has

  pub units_bodied : (units : List Code) (t : ℕ) → ((u : Code) → Has units u → All u) → Has (flat_map body_results units) t → HasBody t
  units_bodied [] t all has = absurd has
  units_bodied (u ∷ rest) t all has = elim (Has-append_cases (body_results u) (flat_map body_results rest) t has) [
    | inl here ↦ bodied u t (all u (inl refl)) here
    | inr more ↦ units_bodied rest t (λ v is. all v (inr is)) more
  ]
