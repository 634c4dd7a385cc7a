-- Code without a fault of typing is faultless in its subtypes with bounds and in its instances.
use Rattle.std.proofs.Common.{◌≡◌, inl, inr, ℕ, Bool, true, false, ◌&&◌, IsTrue, arith, List, [], ◌∷◌, ◌++◌, refl, sym, ◌∙◌, subst, Option, Some, None, true≢false, if◌then◌else◌}
use Rattle.std.specs.Prelude.{flat_map, slice_get}
use Rattle.machine.specs.spark_base.Lists.{Has}
use Rattle.machine.specs.resolved_tree.declared.node.Mark.{Mark}
use Rattle.machine.specs.resolved_tree.Trees.{Code, NoMore, More, ConstrainedSubtype, Instance, SubBody, Package, PackageBody, If, Branch, Case, When, Loop, While, For, Block, code_items, Program}
use Rattle.machine.specs.type_definitions.declared.judgement.Fault.{Fault}
use Rattle.machine.specs.type_definitions.declared.judgement.View.{View}
use Rattle.machine.specs.type_definitions.declared.judgement.View.TheVariants as view
use Rattle.machine.specs.type_definitions.declared.judgement.Where.TheVariants as stands
use Rattle.machine.specs.type_definitions.declared.table.Info.{Info}
use Rattle.machine.specs.type_definitions.declared.table.Known.{Known}
use Rattle.machine.specs.type_definitions.Types.{full, is_scalar, is_same, meant_type, view_of, shape_found}
use Rattle.machine.specs.type_definitions.Faults.{demand}
use Rattle.machine.specs.type_definitions.Entries.{boolean, denotes_type, marked, is_complete}
use Rattle.machine.specs.type_definitions.Names.{Context, seen, seen_info, is_within}
use Rattle.machine.specs.type_definitions.Expressions.{faults, own_type, associates, given_names, designated}
use Rattle.machine.specs.type_definitions.Statements.{is_one_choice, coverage, type_or_integer, range_faults, scalar_mark, name_object, name_name}
use Rattle.machine.specs.type_definitions.Gathered.{declared_number, declared_pos, in_visible, in_hidden, instance_type}
use Rattle.machine.specs.type_definitions.Declarations.{bound_faults, constraint_faults, body_faults, in_body, in_loop, selector_faults, choices_of, choices_faults, is_last, is_named_access, all_types, object_actual, denotes_deallocation, actual_marks, code_faults, alternatives_faults, alternative_faults}
use Rattle.machine.specs.type_definitions.Whole.{unit_faults, main_faults, outside, known_of, type_fault}
use Rattle.type_sizes.specs.Formed.{is_formed, are_alternatives, is_alternative, all_formed}
use Rattle.settled_types.proofs.Faultless.{no_faults}
use Rattle.soundness.proofs.TypedLaws.Agreeing.{nil_left, nil_right, holds}
use Rattle.settled_types.specs.GatheredLaws.Faultless.{IsFaultless}

and_first : (a b : Bool) → IsTrue (a && b) → IsTrue a
and_first a b p = grind arith

and_second : (a b : Bool) → IsTrue (a && b) → IsTrue b
and_second a b p = grind arith

-- What is said of a type as it is seen, and not of a hidden one, holds of its full view.
seen_full : (P : View → Bool) → P view.Hidden ≡ false → (c : Context) (t : ℕ) → P (seen c t) ≡ true → P (full c.known.table t) ≡ true
unfolding seen
seen_full P hidden c t is = by (slice_get c.known.table (meant_type c.known.table t)) is
  where
    some : (i : Info) (b : Bool) → P (if b then view_of i.shape else view.Hidden) ≡ true → P (view_of i.shape) ≡ true
    some i true is = is
    some i false is = absurd (true≢false (sym is ∙ hidden))

    by : (o : Option Info) → P (seen_info c.within o) ≡ true → P (view_of (shape_found o)) ≡ true
    by None is = absurd (true≢false (sym is ∙ hidden))
    by (Some i) is = some i (is_within i.seen_in c.within) is

third : (a b c : Bool) → a && b && c ≡ true → c ≡ true
third a b c e = grind arith

scalar_in_full : (c : Context) (m : Mark) → scalar_mark c m ≡ [] → is_scalar (full c.known.table (marked c.known m)) ≡ true
scalar_in_full c m e =
    let a : Bool = denotes_type c.known m.decl in
    let b : Bool = is_complete c.known (marked c.known m) m.pos in
    let s : Bool = is_scalar (seen c (marked c.known m)) in
    seen_full is_scalar refl c (marked c.known m) (third a b s (holds 1 m.pos (a && b && s) e))

mutual
  unfolding code_faults alternatives_faults alternative_faults is_formed are_alternatives is_alternative IsFaultless

  pub faultless : (code : Code) (c : Context) → IsTrue (is_formed code) → code_faults c code ≡ [] → IsFaultless c.known code
  faultless (ConstrainedSubtype d m low high) c formed e =
      scalar_in_full c m (nil_left (scalar_mark c m)
      (bound_faults c (marked c.known m) low ++ (bound_faults c (marked c.known m) high ++ constraint_faults c (marked c.known m) low high)) e)
  faultless (Instance d m args) c formed e =
      let names : Bool = associates (name_object ∷ name_name ∷ []) (given_names args) in
      let types : Bool = all_types c.known args in
      let access : Bool = is_named_access (seen c (instance_type args)) in
      let same : Bool = is_same c.known.table (object_actual 0 args) (designated (full c.known.table (instance_type args))) in
      let told : List Fault = demand 3 m.pos (denotes_deallocation c.known m.decl) in
      let rest : List Fault = demand 3 (declared_pos d) (names && (types && (access && same))) ++ actual_marks c.known args in
      let all : names && (types && (access && same)) ≡ true
      = holds 3 (declared_pos d) (names && (types && (access && same))) (nil_left (demand 3 (declared_pos d) (names && (types && (access && same)))) (actual_marks c.known args) (nil_right told rest e)) in
      let more : types && (access && same) ≡ true = and_second names (types && (access && same)) all in
      (and_first types (access && same) more, seen_full is_named_access refl c (instance_type args) (and_first access same (and_second types (access && same) more)))
  faultless (SubBody front items stmts end) c formed e =
      let i : List Fault = code_faults (in_body front c) items in
      let s : List Fault = code_faults (in_body front c) stmts in
      let both : i ++ s ≡ [] = nil_right (body_faults c front) (i ++ s) e in (
        faultless items (in_body front c) (and_first (is_formed items) (is_formed stmts) formed) (nil_left i s both),
        faultless stmts (in_body front c) (and_second (is_formed items) (is_formed stmts) formed) (nil_right i s both),
      )
  faultless (Package d visible hidden) c formed e =
      let v : Context = in_visible (declared_number d) c in
      let h : Context = in_hidden (declared_number d) c in (
        faultless visible v (and_first (is_formed visible) (is_formed hidden) formed) (nil_left (code_faults v visible) (code_faults h hidden) e),
        faultless hidden h (and_second (is_formed visible) (is_formed hidden) formed) (nil_right (code_faults v visible) (code_faults h hidden) e),
      )
  faultless (PackageBody d parts) c formed e = faultless parts (in_hidden (declared_number d) c) formed e
  faultless (If p branches otherwise) c formed e = (
    faultless branches c (and_first (is_formed branches) (is_formed otherwise) formed) (nil_left (code_faults c branches) (code_faults c otherwise) e),
    faultless otherwise c (and_second (is_formed branches) (is_formed otherwise) formed) (nil_right (code_faults c branches) (code_faults c otherwise) e),
  )
  faultless (Branch p x stmts) c formed e =
      faultless stmts c formed (nil_right (faults c stands.Elsewhere boolean x) (code_faults c stmts) e)
  faultless (Case p x whens) c formed e =
      let t : ℕ = type_or_integer (own_type c x) in
      let a : List Fault = alternatives_faults c t whens in
      alternatives whens c t formed
      (nil_right (coverage c p x (choices_of whens)) a (nil_right (selector_faults c x) (coverage c p x (choices_of whens) ++ a) e))
  faultless (When choices stmts) c formed e = absurd (true≢false (sym formed))
  faultless (Loop p stmts) c formed e = faultless stmts (in_loop c) formed e
  faultless (While p x stmts) c formed e =
      faultless stmts (in_loop c) formed (nil_right (faults c stands.Elsewhere boolean x) (code_faults (in_loop c) stmts) e)
  faultless (For p d reversed range stmts) c formed e =
      faultless stmts (in_loop c) formed (nil_right (range_faults c range) (code_faults (in_loop c) stmts) e)
  faultless (Block p items stmts end) c formed e = (
    faultless items c (and_first (is_formed items) (is_formed stmts) formed) (nil_left (code_faults c items) (code_faults c stmts) e),
    faultless stmts c (and_second (is_formed items) (is_formed stmts) formed) (nil_right (code_faults c items) (code_faults c stmts) e),
  )
  faultless (More a rest) c formed e = (
    faultless a c (and_first (is_formed a) (is_formed rest) formed) (nil_left (code_faults c a) (code_faults c rest) e),
    faultless rest c (and_second (is_formed a) (is_formed rest) formed) (nil_right (code_faults c a) (code_faults c rest) e),
  )
  faultless code c formed e = tt

  alternatives : (code : Code) (c : Context) (t : ℕ) → IsTrue (are_alternatives code) → alternatives_faults c t code ≡ [] → IsFaultless c.known code
  alternatives (More a rest) c t formed e =
      let one : List Fault = alternative_faults c t (is_last rest) a in (
        alternative a c t (is_last rest) (and_first (is_alternative a) (are_alternatives rest) formed) (nil_left one (alternatives_faults c t rest) e),
        alternatives rest c t (and_second (is_alternative a) (are_alternatives rest) formed) (nil_right one (alternatives_faults c t rest) e),
      )
  alternatives NoMore c t formed e = tt
  alternatives code c t formed e = absurd (true≢false (sym formed))

  alternative : (code : Code) (c : Context) (t : ℕ) (last : Bool) → IsTrue (is_alternative code) → alternative_faults c t last code ≡ []
      → IsFaultless c.known code
  alternative (When choices stmts) c t last formed e =
      faultless stmts c formed (nil_right (choices_faults c t (is_one_choice (code_items choices) && last) choices) (code_faults c stmts) e)
  alternative NoMore c t last formed e = tt
  alternative code c t last formed e = absurd (true≢false (sym formed))

-- ---- the program

units_faultless : (known : Known) (units : List Code) → IsTrue (all_formed units) → flat_map (unit_faults (outside known)) units ≡ [] → (u : Code) → Has units u
    → IsFaultless known u
units_faultless known [] formed none u has = absurd has
units_faultless known (v ∷ rest) formed none u has =
    let later : List Fault = flat_map (unit_faults (outside known)) rest in
    elim has [
      | inl same ↦ subst (IsFaultless known) same
          (faultless v (outside known) (and_first (is_formed v) (all_formed rest) formed)
          (nil_left (code_faults (outside known) v) (main_faults v) (nil_left (unit_faults (outside known) v) later none)))
      | inr more ↦ units_faultless known rest (and_second (is_formed v) (all_formed rest) formed) (nil_right (unit_faults (outside known) v) later none) u more
    ]

pub program_faultless : (p : Program) → IsTrue (all_formed p.units) → type_fault p ≡ None → (u : Code) → Has p.units u → IsFaultless (known_of p) u
program_faultless p formed none = units_faultless (known_of p) p.units formed (no_faults p none)
