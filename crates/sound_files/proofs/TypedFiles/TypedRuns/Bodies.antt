-- Code that breaks no sentence: its expressions have the types of their places.
use Rattle.std.proofs.Common.{◌≡◌, ℕ, ◌+◌, Bool, true, ◌&&◌, List, [], ◌∷◌, ◌++◌, Option}
use Rattle.std.specs.List.{AllByRecursion}
use Rattle.machine.specs.resolved_tree.Trees.{NoMore, More, Code, Objects, Numbers, Skip, Assign, Call, Exit, Return, If, Branch, Case, When, Loop, While, For, Block, code_items}
use Rattle.machine.specs.type_definitions.Entries.{boolean}
use Rattle.machine.specs.type_definitions.Faults.{demand}
use Rattle.machine.specs.type_definitions.Expressions.{faults, own_type}
use Rattle.machine.specs.type_definitions.declared.judgement.Where.TheVariants as stands
use Rattle.machine.specs.type_definitions.Statements.{target_faults, range_faults, type_or_integer, is_one_choice, coverage}
use Rattle.machine.specs.type_definitions.Declarations.{code_faults, alternatives_faults, alternative_faults, choices_faults, selector_faults, choices_of, is_last}
use Rattle.machine.specs.typed_tree.Trees.{TypedCode, typed_code_list}
use Rattle.machine.specs.typed_tree.declared.object.Object.{Object}
use Rattle.machine.specs.typed_tree.Expressions.{Site}
use Rattle.machine.specs.typed_tree.Statements.{scope_count, statements, typed_body}
use Rattle.machine.specs.flow_paths.Objects.{Typing, Signature}
use Rattle.soundness.specs.TypedLaws.Fine.{Laws}
use Rattle.soundness.proofs.TypedLaws.Agreeing.{nil_left, nil_right}
use Rattle.soundness.specs.TypedLaws.TypedPoints.Meant.{IsMeantCode, AreAlternatives}
use Rattle.soundness.proofs.TypedLaws.TypedPoints.Flags.{flagged}
use Rattle.soundness.proofs.TypedLaws.TypedPoints.Statements.{result_in}
use Rattle.sound_files.specs.TypedFiles.TypedRuns.Code.{IsTypedCode}
use Rattle.sound_files.specs.TypedFiles.TypedRuns.Formals.{AreProfiled}
use Rattle.sound_files.specs.TypedFiles.TypedRuns.Bounds.{HaveBounds}
use Rattle.sound_files.proofs.TypedFiles.TypedRuns.Sources.{had}
use Rattle.sound_files.proofs.TypedFiles.TypedRuns.Statements.{objects_typed, named_numbers_typed, first_condition, selector_typed, return_typed, assigned_typed}
use Rattle.sound_files.proofs.TypedFiles.TypedRuns.Ranges.{range_typed}
use Rattle.sound_files.proofs.TypedFiles.TypedRuns.Calls.{call_typed}

module _ (s : Site) (objects : List Object) (subs : List Signature) (made : ℕ → Type 0) (laws : Laws s.context.known made)
    (profiled : AreProfiled s.context.known s.bodies (record { table = s.context.known.table; objects = objects; subs = subs }) made) (bounds : HaveBounds s.context.known.table) where
  abbrev pub y : Typing
  y = record { table = s.context.known.table; objects = objects; subs = subs }

  abbrev pub result : Option ℕ
  result = result_in s.context

  abbrev pub Typed : List TypedCode → Type 0
  Typed cs = AllByRecursion (IsTypedCode y result) cs

  both : (xs ys : List TypedCode) → Typed xs → Typed ys → Typed (xs ++ ys)
  both [] ys h g = g
  both (x ∷ xs) ys h g = (h.0, both xs ys h.1 g)

  pub listed : (xs : List TypedCode) → Typed xs → IsTypedCode y result (typed_code_list xs)
  unfolding IsTypedCode
  listed [] h = tt
  listed (x ∷ xs) h = (h.0, listed xs h.1)

  mutual
    unfolding code_faults alternatives_faults alternative_faults statements IsMeantCode AreAlternatives IsTypedCode

    -- in a loop or not
    pub code_typed : (looped : Bool) (n : ℕ) (code : Code) → IsMeantCode s y made code → code_faults (flagged looped s.context.starts s.context) code ≡ []
        → Typed (statements s n code)
    code_typed looped n (If p branches otherwise) meant none =
        let c = flagged looped s.context.starts s.context in (
          (
            listed (statements s n branches) (code_typed looped n branches meant.0 (nil_left (code_faults c branches) _ none)),
            listed (statements s (n + scope_count branches) otherwise)
                (code_typed looped (n + scope_count branches) otherwise meant.1 (nil_right (code_faults c branches) _ none)),
          ),
          tt,
        )
    code_typed looped n (Branch p e stmts) meant none =
        let c = flagged looped s.context.starts s.context in
        let before = faults c stands.Elsewhere boolean e in (
          (
            had s objects subs made laws profiled looped s.context.starts e stands.Elsewhere boolean meant.0 laws.booleans (nil_left before _ none),
            listed (statements s n stmts) (code_typed looped n stmts meant.1 (nil_right before _ none)),
          ),
          tt,
        )
    code_typed looped n (Case p e whens) meant none =
        let c = flagged looped s.context.starts s.context in
        let more = nil_right (selector_faults c e) _ none in (
          (
            selector_typed s objects subs made laws profiled looped s.context.starts e meant.0 (nil_left (selector_faults c e) _ none),
            listed (statements s n whens)
                (alternatives_typed looped n (type_or_integer (own_type c e)) whens meant.1 (nil_right (coverage c p e (choices_of whens)) _ more)),
          ),
          tt,
        )
    code_typed looped n (When choices stmts) meant none = absurd meant
    code_typed looped n (Loop p stmts) meant none = (listed (statements s n stmts) (code_typed true n stmts meant none), tt)
    code_typed looped n (While p e stmts) meant none =
        let c = flagged looped s.context.starts s.context in
        let before = faults c stands.Elsewhere boolean e in (
          (
            had s objects subs made laws profiled looped s.context.starts e stands.Elsewhere boolean meant.0 laws.booleans (nil_left before _ none),
            listed (statements s n stmts) (code_typed true n stmts meant.1 (nil_right before _ none)),
          ),
          tt,
        )
    code_typed looped n (For p d reversed range stmts) meant none =
        let c = flagged looped s.context.starts s.context in
        let own = nil_left (range_faults c range) _ none in
        let found = range_typed s objects subs made laws profiled bounds looped s.context.starts d range meant.0 meant.1 own in (
          (
            ((found.0, found.1, found.2), (found.3, found.4)),
            found.0,
            listed (statements s (n + 1) stmts) (code_typed true (n + 1) stmts meant.2 (nil_right (range_faults c range) _ none)),
          ),
          tt,
        )
    code_typed looped n (Block p items stmts end) meant none =
        let c = flagged looped s.context.starts s.context in
        let xs = statements s (n + 1) items in
        let ys = statements s (n + 1 + scope_count items) stmts in (
          listed (xs ++ ys) (both xs ys (code_typed looped (n + 1) items meant.0 (nil_left (code_faults c items) _ none))
              (code_typed looped (n + 1 + scope_count items) stmts meant.1 (nil_right (code_faults c items) _ none))),
          tt,
        )
    code_typed looped n (More a rest) meant none =
        let c = flagged looped s.context.starts s.context in
        both (statements s n a) (statements s (n + scope_count a) rest) (code_typed looped n a meant.0 (nil_left (code_faults c a) _ none))
        (code_typed looped (n + scope_count a) rest meant.1 (nil_right (code_faults c a) _ none))
    code_typed looped n (Objects ids constant i v) meant none =
        objects_typed s objects subs made laws profiled looped s.context.starts result ids i constant v meant.0 meant.1 none
    code_typed looped n (Numbers ids e) meant none = named_numbers_typed s objects subs made laws profiled looped s.context.starts result ids e meant.0 meant.1 none
    code_typed looped n (Skip p) meant none = (tt, tt)
    code_typed looped n (Assign target e) meant none =
        let c = flagged looped s.context.starts s.context in
        let found = assigned_typed s objects subs made laws profiled looped s.context.starts target e meant.0 meant.1 (nil_left (target_faults c target) _ none) (nil_right (target_faults c target) _ none) in
        ((found.0, (found.1, found.2)), tt)
    code_typed looped n (Call name) meant none = (call_typed s objects subs made laws profiled looped s.context.starts result name meant none, tt)
    code_typed looped n (Exit p when) meant none =
        (first_condition s objects subs made laws profiled looped s.context.starts when meant (nil_right (demand 3 p looped) _ none), tt)
    code_typed looped n (Return p v) meant none = (return_typed s objects subs made laws profiled looped s.context.starts p v s.context.sub meant none, tt)
    code_typed looped n code meant none = tt

    alternatives_typed : (looped : Bool) (n t : ℕ) (whens : Code) → AreAlternatives s y made whens
        → alternatives_faults (flagged looped s.context.starts s.context) t whens ≡ [] → Typed (statements s n whens)
    alternatives_typed looped n t (More (When choices stmts) rest) meant none =
        let c = flagged looped s.context.starts s.context in
        let here = alternative_faults c t (is_last rest) (When choices stmts) in
        let first = choices_faults c t (is_one_choice (code_items choices) && is_last rest) choices in
        both (statements s n (When choices stmts)) (statements s (n + scope_count (When choices stmts)) rest)
        (listed (statements s n stmts) (code_typed looped n stmts meant.0 (nil_right first _ (nil_left here _ none))), tt)
        (alternatives_typed looped (n + scope_count (When choices stmts)) t rest meant.1 (nil_right here _ none))
    alternatives_typed looped n t NoMore meant none = tt
    alternatives_typed looped n t whens meant none = absurd meant

  -- The statements of a body.
  pub body_typed : (looped : Bool) (n : ℕ) (items stmts : Code) → IsMeantCode s y made items → IsMeantCode s y made stmts
      → code_faults (flagged looped s.context.starts s.context) items ≡ [] → code_faults (flagged looped s.context.starts s.context) stmts ≡ []
      → IsTypedCode y result (typed_body s n items stmts)
  body_typed looped n items stmts m k e f =
      let xs = statements s n items in
      let ys = statements s (n + scope_count items) stmts in
      listed (xs ++ ys) (both xs ys (code_typed looped n items m e) (code_typed looped (n + scope_count items) stmts k f))
