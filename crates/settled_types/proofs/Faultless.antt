-- In a program without a fault of typing, the full types of private types don't have themselves in them.
use Rattle.std.proofs.Common.{◌≡◌, ℕ, Bool, true, false, not, ◌||◌, ◌&&◌, IsTrue, arith, List, [], ◌∷◌, ◌++◌, refl, sym, Option, Some, None, is_some, is_none, true≢false, if◌then◌else◌, ap}
use Rattle.std.specs.Prelude.{flat_map}
use Rattle.machine.specs.spark_base.declared.position.Pos.{Pos}
use Rattle.machine.specs.resolved_tree.declared.node.Mark.{Mark}
use Rattle.machine.specs.resolved_tree.Trees.{Code, NoMore, More, Record, Components, Array, TypeDecl, Subtype, ConstrainedSubtype, SubBody, Package, PackageBody, If, Branch, Case, When, Loop, While, For, Block, Program, code_items}
use Rattle.machine.specs.type_definitions.declared.judgement.Fault.{Fault}
use Rattle.machine.specs.type_definitions.declared.judgement.Where.TheVariants as stands
use Rattle.machine.specs.type_definitions.declared.table.Known.{Known}
use Rattle.machine.specs.type_definitions.Types.{info, full, is_scalar, has_value}
use Rattle.machine.specs.type_definitions.Faults.{demand, noted, first, precedes}
use Rattle.machine.specs.type_definitions.Entries.{boolean, denotes_type, marked, is_complete}
use Rattle.machine.specs.type_definitions.Names.{Context, seen}
use Rattle.machine.specs.type_definitions.Expressions.{faults, own_type, mark_faults}
use Rattle.machine.specs.type_definitions.Statements.{is_one_choice, coverage, type_or_integer, range_faults, scalar_mark}
use Rattle.machine.specs.type_definitions.Gathered.{declared_number, declared_pos, in_visible, in_hidden}
use Rattle.machine.specs.type_definitions.Declarations.{holds_itself, definition_faults, components_faults, record_faults, index_range, bound_faults, constraint_faults, body_faults, in_body, in_loop, selector_faults, choices_of, choices_faults, is_last, code_faults, alternatives_faults, alternative_faults}
use Rattle.machine.specs.type_definitions.Whole.{TypeFault, told, decided, fault_known, type_fault, type_sizes, sentence_faults, unit_faults, main_faults, known_of, known_with, outside}
use Rattle.type_sizes.specs.Formed.{is_formed, are_alternatives, is_alternative, all_formed}
use Rattle.settled_types.specs.Stamped.{IsAfterEnd, IsGroupAfter, AreGroupsAfter, ArePartsAfter, Opens, AllOpen}

-- ---- no fault

no_more : {A : Type 0} (x : A) (xs : List A) → x ∷ xs ≡ [] → ⊥
no_more x xs e = cc

none_left : {A : Type 0} (xs ys : List A) → xs ++ ys ≡ [] → xs ≡ []
none_left [] ys e = refl
none_left (x ∷ rest) ys e = absurd (no_more x (rest ++ ys) e)

none_right : {A : Type 0} (xs ys : List A) → xs ++ ys ≡ [] → ys ≡ []
none_right [] ys e = e
none_right (x ∷ rest) ys e = absurd (no_more x (rest ++ ys) e)

demanded : (n : ℕ) (p : Pos) (b : Bool) → demand n p b ≡ [] → b ≡ true
demanded n p true e = refl
demanded n p false e = cc

some_first : (found : List Fault) (f : Fault) → noted (Some f) found ≡ None → ⊥
some_first [] f e = true≢false (ap is_some e)
some_first (g ∷ rest) f e = some_first rest (if precedes g f then g else f) e

no_first : (found : List Fault) → first found ≡ None → found ≡ []
no_first [] e = refl
no_first (f ∷ rest) e = absurd (some_first rest f e)

no_sentence : (found later : Option Fault) → decided found later ≡ None → later ≡ None
no_sentence (Some f) later e = absurd (true≢false (ap is_some e))
no_sentence None (Some f) e = absurd (true≢false (ap is_some e))
no_sentence None None e = refl

lone_where : (seen_in : Option ℕ) (b : Bool) → is_none seen_in || not b ≡ true → is_some seen_in ≡ true → b ≡ false
lone_where None b e is = absurd (true≢false (sym is))
lone_where (Some p) true e is = absurd (true≢false (sym e))
lone_where (Some p) false e is = refl

and_first : (a b : Bool) → IsTrue (a && b) → IsTrue a
and_first a b p = grind arith

and_second : (a b : Bool) → IsTrue (a && b) → IsTrue b
and_second a b p = grind arith

-- ---- marks

middle : (a b c : Bool) → a && b && c ≡ true → b ≡ true
middle a b c e = grind arith

mark_after : (known : Known) (m : Mark) → mark_faults known m ≡ [] → IsAfterEnd known m
mark_after known m e =
    let is : Bool = denotes_type known m.decl && is_complete known (marked known m) m.pos in
    and_second (denotes_type known m.decl) (is_complete known (marked known m) m.pos)
    (demanded 1 m.pos is (none_left (demand 1 m.pos is)
    (demand 7 m.pos (not (denotes_type known m.decl) || has_value (full known.table (marked known m)))) e))

scalar_after : (c : Context) (m : Mark) → scalar_mark c m ≡ [] → IsAfterEnd c.known m
scalar_after c m e =
    let a : Bool = denotes_type c.known m.decl in
    let b : Bool = is_complete c.known (marked c.known m) m.pos in
    let s : Bool = is_scalar (seen c (marked c.known m)) in
    middle a b s (demanded 1 m.pos (a && b && s) e)

group_after : (known : Known) (group : Code) → components_faults known group ≡ [] → IsGroupAfter known group
group_after known (Components names m) e = mark_after known m e
group_after known _ e = tt

groups_after : (known : Known) (code : Code) → record_faults known code ≡ [] → AreGroupsAfter known code
groups_after known (More group rest) e = (
  group_after known group (none_left (components_faults known group) (record_faults known rest) e),
  groups_after known rest (none_right (components_faults known group) (record_faults known rest) e),
)
groups_after known _ e = tt

parts_after : (c : Context) (def : Code) → definition_faults c def ≡ [] → ArePartsAfter c.known def
parts_after c (Record components) e = groups_after c.known components e
parts_after c (Array range m) e = mark_after c.known m (none_right (index_range c range) (mark_faults c.known m) e)
parts_after c _ e = tt

-- ---- all of the code

mutual
  unfolding code_faults alternatives_faults alternative_faults is_formed are_alternatives is_alternative Opens

  pub faultless : (code : Code) (c : Context) → IsTrue (is_formed code) → code_faults c code ≡ [] → Opens c.known code
  faultless (TypeDecl d def end) c formed e =
      let b : Bool = holds_itself c.known.table (declared_number d) in
      let s : Option ℕ = (info c.known.table (declared_number d)).seen_in in
      let lone : List Fault = demand 1 (declared_pos d) (is_none s || not b) in (
        lone_where s b (demanded 1 (declared_pos d) (is_none s || not b) (none_right (definition_faults c def) lone e)),
        parts_after c def (none_left (definition_faults c def) lone e),
      )
  faultless (Subtype d m) c formed e =
      and_second (denotes_type c.known m.decl) (is_complete c.known (marked c.known m) m.pos)
      (demanded 1 m.pos (denotes_type c.known m.decl && is_complete c.known (marked c.known m) m.pos) e)
  faultless (ConstrainedSubtype d m low high) c formed e = scalar_after c m (none_left (scalar_mark c m)
      (bound_faults c (marked c.known m) low ++ (bound_faults c (marked c.known m) high ++ constraint_faults c (marked c.known m) low high)) e)
  faultless (SubBody front items stmts end) c formed e =
      let i : List Fault = code_faults (in_body front c) items in
      let s : List Fault = code_faults (in_body front c) stmts in
      let both : i ++ s ≡ [] = none_right (body_faults c front) (i ++ s) e in
      (faultless items (in_body front c) (and_first (is_formed items) (is_formed stmts) formed) (none_left i s both), faultless stmts (in_body front c) (and_second (is_formed items) (is_formed stmts) formed) (none_right i s both))
  faultless (Package d visible hidden) c formed e =
      let v : Context = in_visible (declared_number d) c in
      let h : Context = in_hidden (declared_number d) c in (
        faultless visible v (and_first (is_formed visible) (is_formed hidden) formed) (none_left (code_faults v visible) (code_faults h hidden) e),
        faultless hidden h (and_second (is_formed visible) (is_formed hidden) formed) (none_right (code_faults v visible) (code_faults h hidden) e),
      )
  faultless (PackageBody d parts) c formed e = faultless parts (in_hidden (declared_number d) c) formed e
  faultless (If p branches otherwise) c formed e = (
    faultless branches c (and_first (is_formed branches) (is_formed otherwise) formed) (none_left (code_faults c branches) (code_faults c otherwise) e),
    faultless otherwise c (and_second (is_formed branches) (is_formed otherwise) formed) (none_right (code_faults c branches) (code_faults c otherwise) e),
  )
  faultless (Branch p x stmts) c formed e =
      faultless stmts c formed (none_right (faults c stands.Elsewhere boolean x) (code_faults c stmts) e)
  faultless (Case p x whens) c formed e =
      let t : ℕ = type_or_integer (own_type c x) in
      let a : List Fault = alternatives_faults c t whens in
      alternatives whens c t formed
      (none_right (coverage c p x (choices_of whens)) a
      (none_right (selector_faults c x) (coverage c p x (choices_of whens) ++ a) e))
  faultless (When choices stmts) c formed e = absurd (true≢false (sym formed))
  faultless (Loop p stmts) c formed e = faultless stmts (in_loop c) formed e
  faultless (While p x stmts) c formed e =
      faultless stmts (in_loop c) formed (none_right (faults c stands.Elsewhere boolean x) (code_faults (in_loop c) stmts) e)
  faultless (For p d reversed range stmts) c formed e =
      faultless stmts (in_loop c) formed (none_right (range_faults c range) (code_faults (in_loop c) stmts) e)
  faultless (Block p items stmts end) c formed e = (
    faultless items c (and_first (is_formed items) (is_formed stmts) formed) (none_left (code_faults c items) (code_faults c stmts) e),
    faultless stmts c (and_second (is_formed items) (is_formed stmts) formed) (none_right (code_faults c items) (code_faults c stmts) e),
  )
  faultless (More a rest) c formed e = (
    faultless a c (and_first (is_formed a) (is_formed rest) formed) (none_left (code_faults c a) (code_faults c rest) e),
    faultless rest c (and_second (is_formed a) (is_formed rest) formed) (none_right (code_faults c a) (code_faults c rest) e),
  )
  faultless _ c formed e = tt

  alternatives : (code : Code) (c : Context) (t : ℕ) → IsTrue (are_alternatives code) → alternatives_faults c t code ≡ [] → Opens c.known code
  alternatives (More a rest) c t formed e =
      let one : List Fault = alternative_faults c t (is_last rest) a in (
        alternative a c t (is_last rest) (and_first (is_alternative a) (are_alternatives rest) formed) (none_left one (alternatives_faults c t rest) e),
        alternatives rest c t (and_second (is_alternative a) (are_alternatives rest) formed) (none_right one (alternatives_faults c t rest) e),
      )
  alternatives NoMore c t formed e = tt
  alternatives _ c t formed e = absurd (true≢false (sym formed))

  alternative : (code : Code) (c : Context) (t : ℕ) (last : Bool) → IsTrue (is_alternative code) → alternative_faults c t last code ≡ []
      → Opens c.known code
  alternative (When choices stmts) c t last formed e =
      faultless stmts c formed (none_right (choices_faults c t (is_one_choice (code_items choices) && last) choices) (code_faults c stmts) e)
  alternative NoMore c t last formed e = tt
  alternative _ c t last formed e = absurd (true≢false (sym formed))

-- ---- the program

all_open : (known : Known) (units : List Code) → IsTrue (all_formed units) → flat_map (unit_faults (outside known)) units ≡ [] → AllOpen known units
all_open known [] formed e = tt
all_open known (u ∷ rest) formed e =
    let later : List Fault = flat_map (unit_faults (outside known)) rest in (
      faultless u (outside known) (and_first (is_formed u) (all_formed rest) formed)
          (none_left (code_faults (outside known) u) (main_faults u) (none_left (unit_faults (outside known) u) later e)),
      all_open known rest (and_second (is_formed u) (all_formed rest) formed) (none_right (unit_faults (outside known) u) later e),
    )

no_fault : (found later : Option TypeFault) → told found later ≡ None → found ≡ None
no_fault None later e = refl
no_fault (Some f) None e = absurd (true≢false (ap is_some e))
no_fault (Some f) (Some g) e = absurd (true≢false (ap is_some e))

-- no unit breaks a sentence
pub no_faults : (p : Program) → type_fault p ≡ None → flat_map (unit_faults (outside (known_of p))) p.units ≡ []
unfolding type_fault sentence_faults
no_faults p none =
    let known : Known = known_of p in
    no_first (sentence_faults known p.units)
    (no_sentence (first (type_sizes known p.units)) (first (sentence_faults known p.units))
    (no_fault (fault_known known p.units) (fault_known (known_with true p) p.units) none))

pub program_open : (p : Program) → IsTrue (all_formed p.units) → type_fault p ≡ None → AllOpen (known_of p) p.units
program_open p formed none = all_open (known_of p) p.units formed (no_faults p none)
