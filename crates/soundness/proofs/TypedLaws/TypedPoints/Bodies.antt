-- Code that breaks no sentence: its instructions are as soundness needs them.
use Rattle.std.proofs.Common.{◌≡◌, sym, subst, ℕ, ◌+◌, Bool, true, ◌&&◌, List, [], ◌∷◌, ◌++◌, Option}
use Rattle.std.specs.List.{AllByRecursion}
use Rattle.machine.specs.resolved_tree.Trees.{NoMore, More, Code, Objects, Numbers, Skip, Assign, Call, Exit, Return, If, Branch, Case, When, Loop, While, For, Block, code_items}
use Rattle.machine.specs.type_definitions.Types.{full, is_scalar}
use Rattle.machine.specs.type_definitions.Entries.{boolean}
use Rattle.machine.specs.type_definitions.Faults.{demand}
use Rattle.machine.specs.type_definitions.Expressions.{faults, own_type}
use Rattle.machine.specs.type_definitions.declared.judgement.Where.TheVariants as stands
use Rattle.machine.specs.type_definitions.Gathered.{declared_number}
use Rattle.machine.specs.type_definitions.Statements.{target_faults, range_faults, type_or_integer, is_one_choice, coverage}
use Rattle.machine.specs.type_definitions.Declarations.{code_faults, alternatives_faults, alternative_faults, choices_faults, selector_faults, choices_of, is_last}
use Rattle.machine.specs.typed_tree.Trees.{TypedCode, typed_code_list}
use Rattle.machine.specs.typed_tree.declared.object.Object.{Object}
use Rattle.machine.specs.typed_tree.Expressions.{Site, object_number}
use Rattle.machine.specs.typed_tree.Statements.{scope_count, statements, typed_body}
use Rattle.machine.specs.flow_paths.Objects.{Typing, Signature, object_at}
use Rattle.soundness.specs.TypedLaws.Fine.{Laws}
use Rattle.soundness.proofs.TypedLaws.Agreeing.{nil_left, nil_right}
use Rattle.soundness.specs.TypedLaws.TypedPoints.Code.{IsFineCode}
use Rattle.soundness.specs.TypedLaws.TypedPoints.Meant.{IsMeantRange, IsParameter, IsMeantCode, AreAlternatives}
use Rattle.soundness.proofs.TypedLaws.TypedPoints.Flags.{flagged}
use Rattle.soundness.proofs.TypedLaws.TypedPoints.Values.{first_stays, condition_stays}
use Rattle.soundness.proofs.TypedLaws.TypedPoints.Sources.{assigned_fine}
use Rattle.soundness.proofs.TypedLaws.TypedPoints.Statements.{result_in, objects_fine, named_numbers_fine, return_fine, parameter_scalar, range_stays, selector_stays}
use Rattle.soundness.proofs.TypedLaws.TypedPoints.Calls.{call_fine}

module _ (s : Site) (objects : List Object) (subs : List Signature) (made : ℕ → Type 0) (laws : Laws s.context.known made) where
  abbrev pub y : Typing
  y = record { table = s.context.known.table; objects = objects; subs = subs }

  abbrev pub result : Option ℕ
  result = result_in s.context

  abbrev pub Fine : List TypedCode → Type 0
  Fine cs = AllByRecursion (IsFineCode y result) cs

  both : (xs ys : List TypedCode) → Fine xs → Fine ys → Fine (xs ++ ys)
  both [] ys h g = g
  both (x ∷ xs) ys h g = (h.0, both xs ys h.1 g)

  pub listed : (xs : List TypedCode) → Fine xs → IsFineCode y result (typed_code_list xs)
  unfolding IsFineCode
  listed [] h = tt
  listed (x ∷ xs) h = (h.0, listed xs h.1)

  -- the parameter of a loop is scalar
  parameter_is : (looped : Bool) (d range : Code) → IsMeantRange s y range → IsParameter s y d range → range_faults (flagged looped s.context.starts s.context) range ≡ []
      → is_scalar (full s.context.known.table (object_at y (object_number s (declared_number d))).of) ≡ true
  parameter_is looped d range meant is none =
      subst (λ x. is_scalar (full s.context.known.table x) ≡ true) (sym is) (parameter_scalar s objects subs made laws looped s.context.starts range meant none)

  mutual
    unfolding code_faults alternatives_faults alternative_faults statements IsMeantCode AreAlternatives IsFineCode

    -- in a loop or not
    pub code_fine : (looped : Bool) (n : ℕ) (code : Code) → IsMeantCode s y made code → code_faults (flagged looped s.context.starts s.context) code ≡ [] → Fine (statements s n code)
    code_fine looped n (If p branches otherwise) meant none =
        let c = flagged looped s.context.starts s.context in (
          (
            listed (statements s n branches) (code_fine looped n branches meant.0 (nil_left (code_faults c branches) _ none)),
            listed (statements s (n + scope_count branches) otherwise) (code_fine looped (n + scope_count branches) otherwise meant.1 (nil_right (code_faults c branches) _ none)),
          ),
          tt,
        )
    code_fine looped n (Branch p e stmts) meant none =
        let c = flagged looped s.context.starts s.context in
        let before = faults c stands.Elsewhere boolean e in (
          (
            condition_stays s objects subs made laws looped s.context.starts e meant.0 (nil_left before _ none),
            listed (statements s n stmts) (code_fine looped n stmts meant.1 (nil_right before _ none)),
          ),
          tt,
        )
    code_fine looped n (Case p e whens) meant none =
        let c = flagged looped s.context.starts s.context in
        let more = nil_right (selector_faults c e) _ none in (
          (
            selector_stays s objects subs made laws looped s.context.starts e meant.0 (nil_left (selector_faults c e) _ none),
            listed (statements s n whens) (alternatives_fine looped n (type_or_integer (own_type c e)) whens meant.1 (nil_right (coverage c p e (choices_of whens)) _ more)),
          ),
          tt,
        )
    code_fine looped n (When choices stmts) meant none = absurd meant
    code_fine looped n (Loop p stmts) meant none = (listed (statements s n stmts) (code_fine true n stmts meant none), tt)
    code_fine looped n (While p e stmts) meant none =
        let c = flagged looped s.context.starts s.context in
        let before = faults c stands.Elsewhere boolean e in (
          (
            condition_stays s objects subs made laws looped s.context.starts e meant.0 (nil_left before _ none),
            listed (statements s n stmts) (code_fine true n stmts meant.1 (nil_right before _ none)),
          ),
          tt,
        )
    code_fine looped n (For p d reversed range stmts) meant none =
        let c = flagged looped s.context.starts s.context in
        let own = nil_left (range_faults c range) _ none in
        let bounds = range_stays s objects subs made laws looped s.context.starts range meant.0 own in
        let scalar = parameter_is looped d range meant.0 meant.1 own in (
          (
            (scalar, bounds.0, bounds.1),
            scalar,
            listed (statements s (n + 1) stmts) (code_fine true (n + 1) stmts meant.2 (nil_right (range_faults c range) _ none)),
          ),
          tt,
        )
    code_fine looped n (Block p items stmts end) meant none =
        let c = flagged looped s.context.starts s.context in
        let xs = statements s (n + 1) items in
        let ys = statements s (n + 1 + scope_count items) stmts in (
          listed (xs ++ ys) (both xs ys (code_fine looped (n + 1) items meant.0 (nil_left (code_faults c items) _ none))
              (code_fine looped (n + 1 + scope_count items) stmts meant.1 (nil_right (code_faults c items) _ none))),
          tt,
        )
    code_fine looped n (More a rest) meant none =
        let c = flagged looped s.context.starts s.context in
        both (statements s n a) (statements s (n + scope_count a) rest) (code_fine looped n a meant.0 (nil_left (code_faults c a) _ none))
        (code_fine looped (n + scope_count a) rest meant.1 (nil_right (code_faults c a) _ none))
    code_fine looped n (Objects ids constant i v) meant none =
        objects_fine s objects subs made laws looped s.context.starts result ids i constant v meant.0 meant.1 none
    code_fine looped n (Numbers ids e) meant none = named_numbers_fine s objects subs made laws looped s.context.starts result ids e meant.0 meant.1 none
    code_fine looped n (Skip p) meant none = (tt, tt)
    code_fine looped n (Assign target e) meant none =
        let c = flagged looped s.context.starts s.context in (
          assigned_fine s objects subs made laws looped s.context.starts target e meant.0 meant.1 (nil_left (target_faults c target) _ none) (nil_right (target_faults c target) _ none),
          tt,
        )
    code_fine looped n (Call name) meant none = (call_fine s objects subs made laws looped s.context.starts result name meant none, tt)
    code_fine looped n (Exit p when) meant none = (first_stays s objects subs made laws looped s.context.starts when meant (nil_right (demand 3 p looped) _ none), tt)
    code_fine looped n (Return p v) meant none = (return_fine s objects subs made laws looped s.context.starts p v s.context.sub meant none, tt)
    code_fine looped n code meant none = tt

    alternatives_fine : (looped : Bool) (n t : ℕ) (whens : Code) → AreAlternatives s y made whens → alternatives_faults (flagged looped s.context.starts s.context) t whens ≡ []
        → Fine (statements s n whens)
    alternatives_fine looped n t (More (When choices stmts) rest) meant none =
        let c = flagged looped s.context.starts s.context in
        let here = alternative_faults c t (is_last rest) (When choices stmts) in
        let first = choices_faults c t (is_one_choice (code_items choices) && is_last rest) choices in
        both (statements s n (When choices stmts)) (statements s (n + scope_count (When choices stmts)) rest)
        (listed (statements s n stmts) (code_fine looped n stmts meant.0 (nil_right first _ (nil_left here _ none))), tt)
        (alternatives_fine looped (n + scope_count (When choices stmts)) t rest meant.1 (nil_right here _ none))
    alternatives_fine looped n t NoMore meant none = tt
    alternatives_fine looped n t whens meant none = absurd meant

  -- The statements of a body.
  pub body_fine : (looped : Bool) (n : ℕ) (items stmts : Code) → IsMeantCode s y made items → IsMeantCode s y made stmts
      → code_faults (flagged looped s.context.starts s.context) items ≡ [] → code_faults (flagged looped s.context.starts s.context) stmts ≡ []
      → IsFineCode y result (typed_body s n items stmts)
  body_fine looped n items stmts m k e f =
      let xs = statements s n items in
      let ys = statements s (n + scope_count items) stmts in
      listed (xs ++ ys) (both xs ys (code_fine looped n items m e) (code_fine looped (n + scope_count items) stmts k f))
