-- What waits at the points of a program in order: what functions give, of scalar types, or of which a value is made, or alone.
-- What is named is no temporary.
use Rattle.std.proofs.Common.{◌≡◌, refl, sym, ap, ◌∙◌, subst, ◌⊎◌, inl, inr, ℕ, ◌<◌, Bool, true, false, ◌&&◌, ◌||◌, List, [], ◌∷◌, ◌++◌, map, take, drop, length, get_or, arith, Option, Some, None, is_some, if◌then◌else◌}
use Rattle.std.specs.Prelude.{filter, not, nat_lt}
use Rattle.std.specs.List.{AllByRecursion}
use Rattle.std.proofs.lemmas.Bool.{false≢true, true≢false}
use Rattle.machine.specs.spark_base.declared.position.Pos.{Pos}
use Rattle.machine.specs.spark_base.Lists.{Has}
use Rattle.soundness.proofs.Lists.{Has-append_right, Has-filter, Has-map}
use Rattle.machine.specs.type_definitions.Entries.{boolean, integer}
use Rattle.machine.specs.type_definitions.Types.{Table, full, is_scalar, is_owning}
use Rattle.machine.specs.typed_tree.Trees.{TypedTree, Name, Component, Designated, Element, Image, Parens, Unary, Binary, Short, IsNull, NoMore, Aggregate, Alike, New}
use Rattle.machine.specs.typed_tree.Trees as typed_tree
use Rattle.machine.specs.typed_tree.declared.object.Object.{Object}
use Rattle.machine.specs.typed_tree.declared.object.ObjectKind.{ObjectKind}
use Rattle.machine.specs.typed_tree.declared.object.ObjectKind.TheVariants as object_kind
use Rattle.machine.specs.typed_tree.declared.node.ShortCircuit.{ShortCircuit}
use Rattle.machine.specs.typed_tree.Programs.{TypedProgram, text_io}
use Rattle.machine.specs.flow_paths.declared.report.Effects.{Effects}
use Rattle.machine.specs.flow_paths.Instructions.{Instruction, Declare, Assign, Call, Output, Input, Release, Test, Choose, Start, Evaluate, LeaveLoop, Hold}
use Rattle.machine.specs.flow_paths.Objects.{Typing, Signature, object_at, sub_at, traverses, is_variable, is_formal, is_formal_kind, is_anonymous, is_observer, is_package_object, has_scope_end, view_of}
use Rattle.machine.specs.flow_paths.Names.{has_call, first, whole_object}
use Rattle.machine.specs.flow_paths.Points.{NamedPoint}
use Rattle.machine.specs.flow_paths.Laid.{FlowProgram, NamedSub, temporary_object, result_of, named_subs, all_named, sub_points, flow_sub, typing_of, flow_typing, flow_program, flow_named}
use Rattle.machine.specs.flow_paths.Scopes.{taken, is_temporary}
use Rattle.machine.specs.States.{sub_of}
use Rattle.soundness.specs.TypedLaws.Needed.{IsFine, FirstSource, IsPlace, Returns}
use Rattle.soundness.specs.Sound.{calls_procedures, is_temporary_object, IsEntered, IsNamedSub, IsNoCall}
use Rattle.soundness.specs.Ready.{stored_at, Fills}
use Rattle.soundness.proofs.Points.{flow_at, named_has}
use Rattle.soundness.proofs.Passing.{plain_type, signature_is}
use Rattle.soundness.proofs.Successors.{not_true}
use Rattle.soundness.proofs.Typings.{Agree, flow_agrees, formal_same}
use Rattle.soundness.proofs.Waits.{no_waits}
use Rattle.soundness.specs.ViewedSoundness.Taken.{GivesPlainly, type_given, types_taken, AreScalarTypes, TakesFit}
use Rattle.soundness.proofs.ViewedSoundness.Evaluated.{gives_plainly}
use Rattle.soundness.proofs.ViewedSoundness.Outcomes.{named_plain}
use Rattle.settled_types.specs.OrderLaws.ScopeLaws.Code.{roots}
use Rattle.settled_types.specs.OrderLaws.ScopeLaws.Alone.{CallsFit, CallsOnly, PassedFit, SourceFits, InstructionFits, GivesScalar, GivesOwnless, GivesNamed, GivesSeen}
use Rattle.settled_types.specs.OrderLaws.ScopeLaws.Fitted.{types, types_at, Pairs, FillsFit, RightFits, IsFitted}
use Rattle.settled_types.specs.OrderLaws.ScopeLaws.Supplied.{IsKept}
use Rattle.settled_types.specs.OrderLaws.ScopeLaws.Order.{named_in}
use Rattle.settled_types.proofs.OrderLaws.ScopeLaws.Lists.{within_has, all_has}
use Rattle.settled_types.proofs.OrderLaws.ScopeLaws.Given.{Takes as TakesIt, sub_given}
use Rattle.settled_types.proofs.OrderLaws.ScopeLaws.Kept.{sub_kept}
use Rattle.settled_types.proofs.OrderLaws.ScopeLaws.Fitted.{sub_fit}
use Rattle.settled_types.proofs.OrderLaws.ScopeLaws.Filled.{temporaries_of, object_before}
use Rattle.settled_types.proofs.OrderLaws.ScopeLaws.Results.{Gives, filled_typed}
use Rattle.settled_types.specs.OrderLaws.ScopeLaws.LayeredScopes.Layered.{is_older}
use Rattle.settled_types.specs.OrderLaws.ScopeLaws.LayeredScopes.Points.{IsAbove}
use Rattle.settled_types.proofs.OrderLaws.ScopeLaws.LayeredScopes.Layered.{sub_good}
use Rattle.settled_types.specs.OrderLaws.ReadyLaws.InOrder.{IsBody}
use Rattle.settled_types.proofs.OrderLaws.ReadyLaws.Subs.{setting_from, IsOfBody, subs_of}
use Rattle.settled_types.proofs.OrderLaws.ReadyLaws.Ready as ordered
use Rattle.settled_types.proofs.OrderLaws.ReadyLaws.Ready.{seen_has, stored_named}
use Rattle.viewed_steps.specs.Awaited.{is_held, Fits, AreScalar, TakesScalars, IsMadeFor, types_for, AreFilled, StoresNone, IsTaken, AreOwnless, TakesPassed, IsTakenAt, TakesAlone, FillsTyped}
use Rattle.viewed_steps.proofs.Sources.{leads_or}
use Rattle.viewed_steps.specs.Sound.{IsScalarObject}
use Rattle.viewed_steps.specs.Traversals.{GivesView}
use Rattle.viewed_steps.specs.Ready.{roots_passed}
use Rattle.accepted_runs.specs.ViewedFiles.ViewLaws.InOrder.{is_name_of, is_list_end, is_any, stores_name, gives_view, is_rooted_in, gives_from, fits}
use Rattle.accepted_runs.specs.ViewedFiles.ViewLaws.Program.{IsViewProgram}
use Rattle.accepted_runs.proofs.ViewedFiles.ViewLaws.Acts.{no_anonymous}
use Rattle.accepted_runs.proofs.ViewedFiles.ViewLaws.Formals.{passed_named}
use Rattle.accepted_runs.proofs.ViewedFiles.ViewLaws.Constructors.{is_declare}
use Rattle.soundness.proofs.Parted.{by_either}

-- ---- lists

take_none : (k : ℕ) (xs : List ℕ) → k ≡ 0 → take k xs ≡ []
take_none k [] none = ap (λ n. take n []) none
take_none k (x ∷ xs) none = ap (λ n. take n (x ∷ xs)) none

pub all_there : {A : Type 0} (P : A → Type 0) (xs : List A) → ((x : A) → Has xs x → P x) → AllByRecursion P xs
all_there P [] each = tt
all_there P (x ∷ xs) each = (each x (inl refl), all_there P xs (λ y has. each y (inr has)))

-- ---- types

-- The types of what an expression takes are those of its calls and truth values.
types_same : (s : Typing) (e : TypedTree) → types (λ n. type_given (sub_at s n).result) boolean e ≡ types_taken s e
unfolding types types_taken
types_same s (typed_tree.Call p sub actuals) = refl
types_same s (Name p x steps t) = types_same s steps
types_same s (Component i rest) = types_same s rest
types_same s (Designated rest) = types_same s rest
types_same s (Element index low high rest) = (λ j. types_same s rest j ++ types_same s index j)
types_same s (Image t e) = types_same s e
types_same s (Parens e) = types_same s e
types_same s (Unary op e) = types_same s e
types_same s (Binary op a b) = (λ j. types_same s b j ++ types_same s a j)
types_same s (Short op p a q b) = (λ j. if has_call b then boolean ∷ [] else types_same s b j ++ types_same s a j)
types_same s (IsNull equal e) = types_same s e
types_same s (Aggregate t parts) = types_same s parts
types_same s (Alike t e) = types_same s e
types_same s (New t v) = types_same s v
types_same s (typed_tree.More e rest) = (λ j. types_same s rest j ++ types_same s e j)
types_same s _ = refl

scalar_both : (s : Typing) (ts us : List ℕ) → AreScalarTypes s ts → AreScalarTypes s us → AreScalarTypes s (ts ++ us)
scalar_both s [] us h g = g
scalar_both s (t ∷ ts) us h g = (h.0, scalar_both s ts us h.1 g)

scalar_if : (s : Typing) (c : Bool) (ts us : List ℕ) → AreScalarTypes s ts → AreScalarTypes s us → AreScalarTypes s (if c then ts else us)
scalar_if s true ts us h g = h
scalar_if s false ts us h g = g

declared_fit : (a n l g : Bool) → a ≡ true → not a || ((n && l) || g) ≡ true → n || g ≡ true
declared_fit true true l g view e = refl
declared_fit true false l true view e = refl
declared_fit true false l false view e = e
declared_fit false n l g view e = absurd (false≢true view)

first_of : (a b : Bool) → a && b ≡ true → a ≡ true
first_of true b e = refl
first_of false b e = e

-- what a traversal function gives that is called with such a name
pub from_gives : (s : Typing) (test : ℕ → Bool) (e : TypedTree) → gives_from test s e ≡ true → gives_view s e ≡ true
from_gives s test (typed_tree.Call p sub actuals) is = first_of (traverses s.table (sub_at s sub).result) (is_rooted_in test (first actuals)) is
from_gives s test e is = absurd (false≢true is)

gives_so : (n g h : Bool) → (g ≡ true → h ≡ true) → n || g ≡ true → n || h ≡ true
gives_so true g h so e = refl
gives_so false g h so e = so e

stored_fit : (a f n g : Bool) → a ≡ true → f ≡ false → ((not a || f) || n) || g ≡ true → n || g ≡ true
stored_fit true false n g view none e = e
stored_fit true true n g view none e = absurd (true≢false none)
stored_fit false f n g view none e = absurd (false≢true view)

-- a variable is no formal
no_formal : (k : ObjectKind) → is_variable k ≡ true → is_formal_kind k ≡ false
no_formal object_kind.Variable is = refl
no_formal k is = absurd (false≢true is)

module _ (table : Table) (typed : TypedProgram) (effects : Effects) (given : IsViewProgram table typed effects) where
  abbrev program : FlowProgram
  program = flow_program table typed

  abbrev s : Typing
  s = flow_typing program

  abbrev own : Typing
  own = typing_of table typed

  alike : Agree s own
  alike = flow_agrees table typed

  -- functions with results of scalar types, and those that may stand alone
  abbrev pub Asked : ℕ → Type 0
  Asked n = GivesScalar own n

  -- those with results that own nothing, within actuals
  abbrev pub Passed : ℕ → Type 0
  Passed n = GivesOwnless own n

  abbrev pub May : ℕ → Type 0
  May n = GivesNamed own n

  pub weaker : (n : ℕ) → Asked n → May n
  weaker n scalar t is = no_anonymous (full own.table t) (scalar t is)

  pub wider : (n : ℕ) → Passed n → May n
  wider n passed t is = (passed t is).1

  -- what is taken alone
  abbrev pub Single : ℕ → Type 0
  Single n = GivesSeen own n

  -- ---- objects and results

  -- What is there by the text is no temporary.
  pub text_object : (x : ℕ) → x < length typed.objects → is_temporary_object s x ≡ false
  unfolding flow_program
  text_object x less =
      ap (λ (o : Object). is_temporary o.kind) (object_before typed.objects (map temporary_object (temporaries_of (flow_named table typed))) x text_io less) ∙ given.order.lasting x

  pub shared_object : (x : ℕ) → is_package_object own x ≡ true → is_temporary_object s x ≡ false
  shared_object x shared = elim (alike.object x) [
    | inl same ↦ ap (λ (o : Object). is_temporary o.kind) same ∙ given.order.lasting x
    | inr others ↦ absurd (let no : false ≡ true = sym others.1.2 ∙ shared in false≢true no)
  ]

  pub variable_plain : (x : ℕ) → is_variable (object_at s x).kind ≡ true → is_formal own x ≡ false
  variable_plain x variable = sym (formal_same s own alike x) ∙ no_formal (object_at s x).kind variable

  pub sub_same : (n : ℕ) → sub_at s n ≡ sub_at own n
  sub_same n = ap (λ (subs : List Signature). get_or subs n (record { formals = []; result = None })) alike.subs

  pub result_same : (n : ℕ) → (sub_of program n).result ≡ (sub_at own n).result
  result_same n = sym (ap (λ (z : Signature). z.result) (signature_is program n)) ∙ ap (λ (z : Signature). z.result) (sub_same n)

  abbrev given_type : ℕ → ℕ
  given_type n = type_given (sub_at s n).result

  scalar_there : (n : ℕ) → Asked n → GivesScalar s n
  scalar_there n asked t is = ap (λ (rows : Table). is_scalar (full rows t)) alike.table ∙ asked t (sym (ap (λ (z : Signature). z.result) (sub_same n)) ∙ is)

  scalar_given : (n : ℕ) → Asked n → is_scalar (full s.table (given_type n)) ≡ true
  scalar_given n asked = by (sub_at s n).result (scalar_there n asked)
    where
      by : (r : Option ℕ) → ((t : ℕ) → r ≡ Some t → is_scalar (full s.table t) ≡ true) → is_scalar (full s.table (type_given r)) ≡ true
      by None scalar = given.integers
      by (Some t) scalar = scalar t refl

  abbrev AreOwnlessTypes : List ℕ → Type 0
  AreOwnlessTypes ts = AllByRecursion (λ t. is_owning s.table t ≡ false) ts

  -- ---- what is taken

  -- where functions with scalar results alone are called, the types are scalar
  calls_scalar : (e : TypedTree) → CallsOnly Asked Passed e → AreScalarTypes s (types given_type boolean e)
  unfolding CallsFit types
  calls_scalar (typed_tree.Call p n actuals) asked = (scalar_given n asked.0, tt)
  calls_scalar (Name p x steps t) asked = calls_scalar steps asked
  calls_scalar (Component i rest) asked = calls_scalar rest asked
  calls_scalar (Designated rest) asked = calls_scalar rest asked
  calls_scalar (Element index low high rest) (first, second) = scalar_both s (types given_type boolean rest) (types given_type boolean index) (calls_scalar rest second) (calls_scalar index first)
  calls_scalar (Image t e) asked = calls_scalar e asked
  calls_scalar (Parens e) asked = calls_scalar e asked
  calls_scalar (Unary op e) asked = calls_scalar e asked
  calls_scalar (Binary op a b) (first, second) = scalar_both s (types given_type boolean b) (types given_type boolean a) (calls_scalar b second) (calls_scalar a first)
  calls_scalar (Short op p a q b) (first, second) =
      scalar_if s (has_call b) (boolean ∷ []) (types given_type boolean b ++ types given_type boolean a) (given.truths, tt)
      (scalar_both s (types given_type boolean b) (types given_type boolean a) (calls_scalar b second) (calls_scalar a first))
  calls_scalar (IsNull equal e) asked = calls_scalar e asked
  calls_scalar (Aggregate t parts) asked = calls_scalar parts asked
  calls_scalar (Alike t e) asked = calls_scalar e asked
  calls_scalar (New t v) asked = calls_scalar v asked
  calls_scalar (typed_tree.More e rest) (first, second) = scalar_both s (types given_type boolean rest) (types given_type boolean e) (calls_scalar rest second) (calls_scalar e first)
  calls_scalar _ asked = tt

  taken_scalar : (e : TypedTree) → CallsOnly Asked Passed e → AreScalarTypes s (types_taken s e)
  taken_scalar e asked = subst (AreScalarTypes s) (types_same s e) (calls_scalar e asked)

  takes_fit : (kind : ℕ → Type 0) (e : TypedTree) → CallsFit Asked Passed kind e → TakesFit s e
  unfolding CallsFit TakesFit
  takes_fit kind (typed_tree.Call p n actuals) asked = tt
  takes_fit kind (Parens e) asked = takes_fit kind e asked
  takes_fit kind (Aggregate t es) asked = takes_fit kind es asked
  takes_fit kind (Alike t e) asked = takes_fit kind e asked
  takes_fit kind (New t v) asked = takes_fit kind v asked
  takes_fit kind (typed_tree.More e rest) (first, second) = (takes_fit kind e first, takes_fit kind rest second)
  takes_fit kind e asked = taken_scalar e asked

  -- what is passed owns nothing
  ownless_given : (n : ℕ) → Passed n → is_owning s.table (given_type n) ≡ false
  ownless_given n passed = by (sub_at s n).result (ap (λ (z : Signature). z.result) (sub_same n))
    where
      by : (r : Option ℕ) → r ≡ (sub_at own n).result → is_owning s.table (type_given r) ≡ false
      by None is = plain_type s given.owns integer given.integers
      by (Some t) is = ap (λ (rows : Table). is_owning rows t) alike.table ∙ (passed t (sym is)).0

  ownless_both : (ts us : List ℕ) → AreOwnlessTypes ts → AreOwnlessTypes us → AreOwnlessTypes (ts ++ us)
  ownless_both [] us h g = g
  ownless_both (t ∷ ts) us h g = (h.0, ownless_both ts us h.1 g)

  scalar_ownless_types : (ts : List ℕ) → AreScalarTypes s ts → AreOwnlessTypes ts
  scalar_ownless_types [] scalar = tt
  scalar_ownless_types (t ∷ ts) scalar = (plain_type s given.owns t scalar.0, scalar_ownless_types ts scalar.1)

  calls_ownless : (e : TypedTree) → PassedFit Asked Passed e → AreOwnlessTypes (types given_type boolean e)
  unfolding CallsFit types
  calls_ownless (typed_tree.Call p n actuals) asked = (ownless_given n asked.0, tt)
  calls_ownless (Parens e) asked = calls_ownless e asked
  calls_ownless (Aggregate t parts) asked = calls_ownless parts asked
  calls_ownless (Alike t e) asked = calls_ownless e asked
  calls_ownless (New t v) asked = calls_ownless v asked
  calls_ownless (typed_tree.More e rest) (first, second) = ownless_both (types given_type boolean rest) (types given_type boolean e) (calls_ownless rest second) (calls_ownless e first)
  calls_ownless (Name p x steps t) asked = scalar_ownless_types (types given_type boolean steps) (calls_scalar steps asked)
  calls_ownless (Component i rest) asked = scalar_ownless_types (types given_type boolean rest) (calls_scalar rest asked)
  calls_ownless (Designated rest) asked = scalar_ownless_types (types given_type boolean rest) (calls_scalar rest asked)
  calls_ownless (Element index low high rest) asked =
      scalar_ownless_types (types given_type boolean rest ++ types given_type boolean index) (calls_scalar (Element index low high rest) asked)
  calls_ownless (Image t e) asked = scalar_ownless_types (types given_type boolean e) (calls_scalar e asked)
  calls_ownless (Unary op e) asked = scalar_ownless_types (types given_type boolean e) (calls_scalar e asked)
  calls_ownless (Binary op a b) asked = scalar_ownless_types (types given_type boolean b ++ types given_type boolean a) (calls_scalar (Binary op a b) asked)
  calls_ownless (Short op p a q b) asked =
      scalar_ownless_types (if has_call b then boolean ∷ [] else types given_type boolean b ++ types given_type boolean a) (calls_scalar (Short op p a q b) asked)
  calls_ownless (IsNull equal e) asked = scalar_ownless_types (types given_type boolean e) (calls_scalar e asked)
  calls_ownless _ asked = tt

  gives_only : (e : TypedTree) → CallsOnly Asked Passed e → GivesPlainly s e
  unfolding CallsFit GivesPlainly
  gives_only (typed_tree.Call p n actuals) asked = scalar_there n asked.0
  gives_only (Parens e) asked = gives_only e asked
  gives_only (Aggregate t es) asked = gives_only es asked
  gives_only (Alike t e) asked = gives_only e asked
  gives_only (New t v) asked = gives_only v asked
  gives_only (typed_tree.More e rest) asked = (gives_only e asked.0, gives_only rest asked.1)
  gives_only _ asked = tt

  -- a temporary that fits a type
  abbrev FitsHeld : ℕ → ℕ → Type 0
  FitsHeld t x = Fits s t x × (is_temporary_object s x ≡ true)

  held_first : (x : ℕ) (xs : List ℕ) → is_temporary_object s x ≡ true → filter (is_temporary_object s) (x ∷ xs) ≡ x ∷ filter (is_temporary_object s) xs
  held_first x xs is = by (is_temporary_object s x) is
    where
      by : (b : Bool) → b ≡ true → (if b then x ∷ filter (is_temporary_object s) xs else filter (is_temporary_object s) xs) ≡ x ∷ filter (is_temporary_object s) xs
      by true same = refl
      by false same = absurd (false≢true same)

  pairs_scalar : (ts xs : List ℕ) → Pairs FitsHeld ts xs → AreScalarTypes s ts → AreScalar s (filter (is_temporary_object s) xs)
  pairs_scalar [] [] pairs scalar = tt
  pairs_scalar [] (x ∷ xs) pairs scalar = absurd pairs
  pairs_scalar (t ∷ ts) [] pairs scalar = absurd pairs
  pairs_scalar (t ∷ ts) (x ∷ xs) pairs scalar =
      subst (AreScalar s) (sym (held_first x xs pairs.0.1))
      (elim pairs.0.0 [ inl both ↦ both.1 | inr same ↦ ap (λ k. is_scalar (full s.table k)) (sym same) ∙ scalar.0 ], pairs_scalar ts xs pairs.1 scalar.1)

  pairs_ownless : (ts xs : List ℕ) → Pairs FitsHeld ts xs → AreOwnlessTypes ts → AreOwnless s (filter (is_temporary_object s) xs)
  pairs_ownless [] [] pairs none = tt
  pairs_ownless [] (x ∷ xs) pairs none = absurd pairs
  pairs_ownless (t ∷ ts) [] pairs none = absurd pairs
  pairs_ownless (t ∷ ts) (x ∷ xs) pairs none =
      subst (AreOwnless s) (sym (held_first x xs pairs.0.1)) (
        elim pairs.0.0 [ inl both ↦ plain_type s given.owns (object_at s x).of both.1 | inr same ↦ ap (is_owning s.table) (sym same) ∙ none.0 ],
        pairs_ownless ts xs pairs.1 none.1,
      )

  pairs_filled : (ts xs : List ℕ) → Pairs FitsHeld ts xs → AreFilled s ts (filter (is_temporary_object s) xs)
  pairs_filled [] [] pairs = tt
  pairs_filled [] (x ∷ xs) pairs = absurd pairs
  pairs_filled (t ∷ ts) [] pairs = absurd pairs
  pairs_filled (t ∷ ts) (x ∷ xs) pairs = subst (AreFilled s (t ∷ ts)) (sym (held_first x xs pairs.0.1)) (pairs.0.0, pairs_filled ts xs pairs.1)

  -- an instruction that stores no value and is no call takes scalar ones
  plain_types : (i : Instruction) → IsNoCall i → StoresNone i → InstructionFits Asked Passed May Single i → AreScalarTypes s (types_at given_type boolean i)
  plain_types (Call n actuals r) no_call none asked = absurd (no_call n actuals r refl)
  plain_types (Output text line) no_call none asked = calls_scalar text asked
  plain_types (Input target) no_call none asked = calls_scalar target asked
  plain_types (Release m) no_call none asked = calls_scalar m asked
  plain_types (Test e) no_call none asked = calls_scalar e asked
  plain_types (Choose e choices) no_call none asked = calls_scalar e asked
  plain_types (Start x reversed low high) no_call none (first, second) =
      scalar_both s (types given_type boolean high) (types given_type boolean low) (calls_scalar high second) (calls_scalar low first)
  plain_types (Evaluate t e left) no_call none asked = calls_scalar e asked
  plain_types (LeaveLoop e) no_call none asked = calls_scalar e asked
  plain_types (Declare x v) no_call none asked = absurd none
  plain_types (Assign target e) no_call none asked = absurd none
  plain_types (Hold v) no_call none asked = absurd none
  plain_types i no_call none asked = tt

  plain_stores : (i : Instruction) → StoresNone i → TakesScalars s i
  plain_stores (Declare x v) none = absurd none
  plain_stores (Assign target e) none = absurd none
  plain_stores (Hold v) none = absurd none
  plain_stores i none = tt

  -- ---- subprograms

  abbrev pub bodies : List NamedSub
  bodies = named_subs own (length own.objects) given.order.rest

  pub where_is : (named : NamedSub) → Has (flow_named table typed) named → ordered.Elaborates table typed effects given.accepted given.owns given.order given.answered given.passed given.still named ⊎ Has bodies named
  where_is named has = subst (λ subs. Has (all_named own subs) named) given.order.subs has

  -- What a point of a body fills has the type of what it gives.
  filled_there : (named : NamedSub) → Has bodies named → (p : NamedPoint) → Has named.points p → (x of : ℕ) → Gives own p.instr x of → (object_at s x).of ≡ of
  unfolding flow_program
  filled_there named inside p there x of gives =
      subst (λ subs. (get_or (typed.objects ++ map temporary_object (temporaries_of (all_named own subs))) x text_io).of ≡ of) (sym given.order.subs)
      (filled_typed own typed.objects given.order.rest named inside p there x of gives)

  -- What is called where a value is asked for gives one.
  answers_one : (named : NamedSub) → Has (flow_named table typed) named → (p : NamedPoint) → Has named.points p → (n : ℕ) (a : TypedTree) (t : ℕ) → p.instr ≡ Call n a (Some t)
      → (u : ℕ) × ((sub_at own n).result ≡ Some u)
  answers_one named has p there n a t is =
      by (sub_at own n).result refl
      (sym (ap is_some (result_same n))
      ∙ (ordered.runs_there table typed effects given.accepted given.owns given.order given.answered given.passed given.still (flow_sub own named)
      (ordered.in_program table typed effects given.accepted given.owns given.order given.answered given.passed given.still named has) (flow_at own named p)
      (Has-map (λ (q : NamedPoint). flow_at own named q) named.points p there) n a (Some t) is).1)
    where
      by : (r : Option ℕ) → (sub_at own n).result ≡ r → is_some (sub_at own n).result ≡ true → (u : ℕ) × ((sub_at own n).result ≡ Some u)
      by None is some = absurd (let no : false ≡ true = sym (ap is_some is) ∙ some in false≢true no)
      by (Some u) is some = (u, is)

  -- ---- a body

  module _ (named : NamedSub) (has : Has (flow_named table typed) named) (inside : Has bodies named) where
    pub body : IsOfBody own given.order.rest named
    body = subs_of own (length own.objects) given.order.rest named (omega arith) inside

    pub in_points : (r : NamedPoint) → Has (sub_points (setting_from own (body.2) (body.0)) (body.0)) r → Has named.points r
    in_points r there = subst (λ (z : NamedSub). Has z.points r) (body.4) there

    -- the temporary that a call fills
    pub call_type : (r : NamedPoint) → Has named.points r → (n : ℕ) (a : TypedTree) (t : ℕ) → r.instr ≡ Call n a (Some t) → (u : ℕ) × ((sub_at own n).result ≡ Some u) × ((object_at s t).of ≡ u)
    call_type r there n a t is =
        let one = answers_one named has r there n a t is in (
          one.0,
          one.1,
          filled_there named inside r there t (result_of (sub_at own n).result) (subst (λ i. Gives own i t (result_of (sub_at own n).result)) (sym is) (refl, refl)) ∙ ap result_of one.1,
        )

    pub truth_type : (r : NamedPoint) → Has named.points r → (t : ℕ) (e : TypedTree) (op : ShortCircuit) → r.instr ≡ Evaluate t e (Some op) → IsScalarObject s t
    truth_type r there t e op is =
        ap (λ k. is_scalar (full s.table k)) (filled_there named inside r there t boolean (subst (λ i. Gives own i t boolean) (sym is) (refl, refl))) ∙ given.truths

    abbrev pub laid_points : List NamedPoint
    laid_points = sub_points (setting_from own (body.2) (body.0)) (body.0)

    pub in_laid : (p : NamedPoint) → Has named.points p → Has laid_points p
    in_laid p there = subst (λ (z : NamedSub). Has z.points p) (sym (body.4)) there

    in_text : IsBody own (body.0)
    in_text = given.order.bodies (body.0) (ordered.in_subs table typed effects given.accepted given.owns given.order given.answered given.passed given.still (body.0) (body.1))

    fills_held : (r : NamedPoint) → Has named.points r → Fills s r.instr (drop (taken r.instr) r.scope)
    fills_held r there = (ordered.supplied_there table typed effects given.accepted given.owns given.order given.answered given.passed given.still named has r there).1

    filling : (r : NamedPoint) → Has named.points r → FillsFit FitsHeld given_type boolean r.instr
    filling r there = by r.instr refl (fills_held r there)
      where
        by : (i : Instruction) → r.instr ≡ i → Fills s i (drop (taken r.instr) r.scope) → FillsFit FitsHeld given_type boolean i
        by (Call n a (Some t)) is temporary = (
          (let found = call_type r there n a t is in inr (ap type_given (ap (λ (z : Signature). z.result) (sub_same n) ∙ found.1) ∙ sym found.2)),
          temporary,
        )
        by (Evaluate t e (Some op)) is temporary = (inl (given.truths, truth_type r there t e op is), temporary)
        by (Call n a None) is temporary = tt
        by (Evaluate t e None) is temporary = tt
        by i is temporary = tt

    pub fitted_there : (p : NamedPoint) → Has named.points p → IsFitted FitsHeld given_type boolean Asked Passed May Single p
    fitted_there p there =
        all_has (IsFitted FitsHeld given_type boolean Asked Passed May Single) laid_points p
        (sub_fit FitsHeld given_type boolean Asked Passed May Single weaker wider (setting_from own (body.2) (body.0)) (body.0) (given.results (body.0) (body.1))
        (all_there (λ (r : NamedPoint). FillsFit FitsHeld given_type boolean r.instr) laid_points (λ r at. filling r (in_points r at))))
        (in_laid p there)

    -- What is named is no temporary.
    abbrev lasts : ℕ → Bool
    lasts x = not (is_temporary_object s x)

    kept_there : (p : NamedPoint) → Has named.points p → IsKept (is_package_object own) lasts p
    kept_there p there =
        all_has (IsKept (is_package_object own) lasts) laid_points p
        (sub_kept (is_package_object own) lasts (setting_from own (body.2) (body.0)) (body.0) (λ x object. ap not (text_object x (in_text.numbered x object).1)) (given.order.local (body.0) (body.1)).seen)
        (in_laid p there)

    named_lasts : (p : NamedPoint) → Has named.points p → (x : ℕ) → Has (named_in p.instr) x → is_temporary_object s x ≡ false
    named_lasts p there x names = elim (seen_has (is_package_object own) (filter lasts p.scope) (named_in p.instr) x (kept_there p there) names) [
      | inl outer ↦ shared_object x outer
      | inr within ↦ not_true (is_temporary_object s x) (Has-filter lasts p.scope x (within_has x (filter lasts p.scope) within)).1
    ]

    pub body_unheld : (p : NamedPoint) → Has named.points p → (x : ℕ) → Has (named_in p.instr) x → is_held s x ≡ false
    body_unheld p there x names = ap (λ b. b && has_scope_end s x) (named_lasts p there x names)

    -- ---- what is taken

    fine_there : (p : NamedPoint) → Has named.points p → IsFine s named.sub.result p.instr
    fine_there p there =
        given.accepted.fine (flow_sub own named) (ordered.in_program table typed effects given.accepted given.owns given.order given.answered given.passed given.still named has) (flow_at own named p)
        (Has-map (λ (q : NamedPoint). flow_at own named q) named.points p there)

    above_there : (p : NamedPoint) → Has named.points p → IsAbove (is_older own typed.scopes) (fits own) p
    above_there p there =
        let layered = given.views.layered (body.0) (body.1) in
        all_has (IsAbove (is_older own typed.scopes) (fits own)) named.points p
        (subst (λ (z : NamedSub). AllByRecursion (IsAbove (is_older own typed.scopes) (fits own)) z.points) (body.4)
        (sub_good (setting_from own (body.2) (body.0)) (is_older own typed.scopes) (fits own) layered.0 (body.0) in_text.settled layered.1).0) there

    -- what a lone call gives, which sees, is the last temporary
    pub lone_taken : (p : NamedPoint) → Has named.points p → (q : Pos) (n : ℕ) (a : TypedTree) → TakesIt p.instr (typed_tree.Call q n a) → Single n
        → (alone : TakesAlone s p) × (p.scope ≡ alone.0 ∷ alone.1)
    lone_taken p there q n a takes (t, answer, view) =
        let given_by = sub_given (setting_from own (body.2) (body.0)) (body.0) p (in_laid p there) q n a takes in
        let found = call_type given_by.3 (in_points given_by.3 given_by.4) n a given_by.0 given_by.5 in
        let same : found.0 ≡ t = (let both : Some found.0 ≡ Some t = sym found.1 ∙ answer in cc) in
        let of : (object_at s given_by.0).of ≡ t = found.2 ∙ same in
        let seen : is_anonymous (full s.table (object_at s given_by.0).of) ≡ true = (λ j. is_anonymous (full (alike.table j) (of j))) ∙ view in (
          (
            given_by.0,
            given_by.1,
            given_by.2,
            q,
            n,
            a,
            ap (λ (z : Signature). z.result) (sub_same n) ∙ answer ∙ ap (λ k. Some k) (sym of),
            not_scalar (is_scalar (full s.table (object_at s given_by.0).of)) (λ scalar. (let never : true ≡ false = sym seen ∙ no_anonymous (full s.table (object_at s given_by.0).of) scalar in absurd (true≢false never))),
            takes,
          ),
          given_by.2,
        )
      where
        not_scalar : (b : Bool) → (b ≡ true → ⊥) → b ≡ false
        not_scalar true none = absurd (none refl)
        not_scalar false none = refl

    -- ---- what is filled

    body_fills : (p : NamedPoint) → Has named.points p → FillsTyped program p.instr (drop (taken p.instr) p.scope)
    body_fills p there = by p.instr refl (drop (taken p.instr) p.scope) (fitted_there p there).2
      where
        by : (i : Instruction) → p.instr ≡ i → (left : List ℕ) → RightFits FitsHeld boolean p.instr left → FillsTyped program i left
        by (Call n actuals (Some x)) is left right_one = λ r result. (
            let found = call_type p there n actuals x is in
            let both : Some r ≡ Some found.0 = sym result ∙ result_same n ∙ found.1 in
            let same : r ≡ found.0 = cc in
            inr (same ∙ sym found.2))
        by (Evaluate x e (Some op)) is left right_one = (given.truths, truth_type p there x e op is)
        by (Evaluate t e None) is left right_one =
            let found : (y : ℕ) × (others : List ℕ) × (left ≡ y ∷ others) × FitsHeld boolean y = subst (λ i. RightFits FitsHeld boolean i left) is right_one in (
              given.truths,
              λ x rest first. scalar_first x (let both : x ∷ rest ≡ found.0 ∷ found.1 = sym first ∙ found.2 in let same : x ≡ found.0 = cc in same) found.3.0,
            )
          where
            scalar_first : (x : ℕ) {y : ℕ} → x ≡ y → Fits s boolean y → is_scalar (full s.table (object_at s x).of) ≡ true
            scalar_first x same (inl both) = ap (λ z. is_scalar (full s.table (object_at s z).of)) same ∙ both.1
            scalar_first x same (inr is) = ap (λ z. is_scalar (full s.table (object_at s z).of)) same ∙ ap (λ k. is_scalar (full s.table k)) (sym is) ∙ given.truths
        by (Call n actuals None) is left right_one = tt
        by i is left right_one = tt

  -- ---- the package objects

  module _ (named : NamedSub) (e : ordered.Elaborates table typed effects given.accepted given.owns given.order given.answered given.passed given.still named) (p : NamedPoint) (there : Has named.points p) where
    pub declared : (x : ℕ) × (v : TypedTree) × (p.instr ≡ Declare x v) × (has_call v ≡ false)
    declared =
        let still = ordered.still_there table typed effects given.accepted given.owns given.order given.answered given.passed given.still named e p there in
        let one = ordered.declares table typed effects given.accepted given.owns given.order given.answered given.passed given.still named e p there still in
        (one.0, one.1, one.2, not_true (has_call one.1) (sym (ap calls_procedures one.2) ∙ still))

    pub no_call : (n : ℕ) (actuals : TypedTree) (r : Option ℕ) → p.instr ≡ Call n actuals r → ⊥
    no_call n actuals r is = (let both : Declare (declared.0) (declared.1) ≡ Call n actuals r = sym (declared.2) ∙ is in true≢false (ap is_declare both))

    package_takes : IsTakenAt s named.sub.result p
    package_takes = (
      λ none. inl (
        subst (λ xs. AreScalar s (filter (is_temporary_object s) xs))
            (sym (take_none (taken p.instr) p.scope (ap taken (declared.2) ∙ no_waits (declared.1) (declared.3)))) tt,
        subst (TakesScalars s) (sym (declared.2)) (gives_plainly s (declared.1) (inl (declared.3))),
      ),
      λ n actuals r is. absurd (no_call n actuals r is),
    )

    package_fills : FillsTyped program p.instr (drop (taken p.instr) p.scope)
    package_fills = subst (λ i. FillsTyped program i (drop (taken p.instr) p.scope)) (sym (declared.2)) tt

  -- ---- all of it

  module _ (named : NamedSub) (has : Has (flow_named table typed) named) (p : NamedPoint) (there : Has named.points p) where
    pub stored_unheld : (x : ℕ) → Has (stored_at p.instr) x → is_held s x ≡ false
    stored_unheld x stored = elim (where_is named has) [
      | inl e ↦ absurd (subst (λ i. Has (stored_at i) x) (declared named e p there).2 stored)
      | inr inside ↦ body_unheld named has inside p there x (stored_named p.instr x stored)
    ]

    pub passed_unheld : (n : ℕ) (actuals : TypedTree) (result : Option ℕ) → p.instr ≡ Call n actuals result → (x : ℕ) → Has (roots_passed actuals) x → is_held s x ≡ false
    passed_unheld n actuals result is x names = elim (where_is named has) [
      | inl e ↦ absurd (no_call named e p there n actuals result is)
      | inr inside ↦ body_unheld named has inside p there x (subst (λ i. Has (named_in i) x) (sym is) (passed_named actuals x names))
    ]

    pub fills_there : FillsTyped program p.instr (drop (taken p.instr) p.scope)
    fills_there = elim (where_is named has) [ inl e ↦ package_fills named e p there | inr inside ↦ body_fills named has inside p there ]

  -- ---- what points take

  not_named : (n : ℕ) {of : ℕ} → GivesView s n of → May n → ⊥
  not_named n gives may =
      let there : (sub_at own n).result ≡ Some gives.result = sym (ap (λ (z : Signature). z.result) (sub_same n)) ∙ gives.result_is in
      let never : true ≡ false = sym gives.anonymous ∙ ap (λ (rows : Table). is_anonymous (full rows gives.result)) alike.table ∙ may gives.result there in absurd (true≢false never)

  no_traversal : (n : ℕ) → May n → traverses own.table (sub_at own n).result ≡ false
  no_traversal n may = by (sub_at own n).result refl
    where
      by : (r : Option ℕ) → (sub_at own n).result ≡ r → traverses own.table r ≡ false
      by None is = refl
      by (Some t) is = may t is

  -- a name, or what a traversal function gives, which none does
  name_only : (test : ℕ → Bool) (e : TypedTree) → is_name_of test e || gives_view own e ≡ true → SourceFits Asked Passed May e → CallsOnly Asked Passed e
  unfolding CallsFit
  name_only test (Name q y steps t) fit asked = asked
  name_only test (typed_tree.Call q n a) fit asked = (let never : true ≡ false = sym fit ∙ no_traversal n asked.0 in absurd (true≢false never))
  name_only test e fit asked = absurd (false≢true fit)

  -- an object that is no temporary is as the text has it
  view_same : (x : ℕ) → is_temporary_object s x ≡ false → is_anonymous (view_of s x) ≡ is_anonymous (view_of own x)
  view_same x lasts = elim (ordered.object_or table typed effects given.accepted given.owns given.order given.answered given.passed given.still x) [
    | inl same ↦ (λ j. is_anonymous (full (alike.table j) (same j).of))
    | inr temporary ↦ (let never : true ≡ false = sym temporary ∙ lasts in absurd (true≢false never))
  ]

  module _ (named : NamedSub) (has : Has (flow_named table typed) named) (inside : Has bodies named) (n : ℕ) (entered : IsEntered program n)
      (stands : IsNamedSub (flow_named table typed) n named) (p : NamedPoint) (there : Has named.points p) where
    abbrev Goal : Type 0
    Goal = IsTaken s named.sub.result p

    abbrev Takes : List ℕ → Type 0
    Takes ts = Pairs FitsHeld ts (take (taken p.instr) p.scope)

    plainly : (ts : List ℕ) → Takes ts → AreScalarTypes s ts → TakesScalars s p.instr → Goal
    plainly ts pairs scalar takes = inl (pairs_scalar ts (take (taken p.instr) p.scope) pairs scalar, takes)

    together : (i : Instruction) → p.instr ≡ i → (e : TypedTree) → IsMadeFor s named.sub.result p.instr e → SourceFits Asked Passed May e → (ts : List ℕ) → ts ≡ types_for s i → Takes ts → Goal
    together i is e made source ts same pairs =
        inr (inr (
          e,
          made,
          takes_fit May e source,
          subst (λ z. AreFilled s z (filter (is_temporary_object s) (take (taken p.instr) p.scope))) (same ∙ sym (ap (types_for s) is))
              (pairs_filled ts (take (taken p.instr) p.scope) pairs),
        ))

    abbrev above : IsAbove (is_older own typed.scopes) (fits own) p
    above = above_there named has inside p there

    declared_takes : (x : ℕ) (v : TypedTree) → p.instr ≡ Declare x v → FirstSource s (object_at s x).of v → SourceFits Asked Passed May v → Takes (types given_type boolean v) → Goal
    unfolding CallsFit
    declared_takes x NoMore is source asked pairs =
        plainly (types given_type boolean NoMore) pairs (calls_scalar NoMore tt) (subst (TakesScalars s) (sym is) (gives_only NoMore tt))
    declared_takes x (typed_tree.More e rest) is (last, source) asked pairs = by_kind (is_anonymous (view_of s x)) refl
      where
        lasts_here : is_temporary_object s x ≡ false
        lasts_here = subst (λ i. Fills s i (drop (taken p.instr) p.scope)) is (fills_held named has inside p there)

        fit_here : is_anonymous (view_of s x) ≡ true → is_name_of (λ y. is_observer own x || nat_lt y x) e || gives_view own e ≡ true
        fit_here view =
            gives_so (is_name_of (λ y. is_observer own x || nat_lt y x) e) (gives_from (λ y. is_observer own x || nat_lt y x) own e) (gives_view own e)
            (from_gives own (λ y. is_observer own x || nat_lt y x) e)
            (declared_fit (is_anonymous (view_of own x)) (is_name_of (λ y. is_observer own x || nat_lt y x) e) (is_list_end rest) (gives_from (λ y. is_observer own x || nat_lt y x) own e)
            (sym (view_same x lasts_here) ∙ view)
            (sym (ap (fits own) is) ∙ above.declared x (typed_tree.More e rest) is))

        calls_here : is_anonymous (view_of s x) ≡ true → CallsOnly Asked Passed (typed_tree.More e rest)
        calls_here view = (name_only (λ y. is_observer own x || nat_lt y x) e (fit_here view) asked.0, subst (CallsOnly Asked Passed) (sym last) tt)

        by_kind : (b : Bool) → is_anonymous (view_of s x) ≡ b → Goal
        by_kind false named_object =
            together (Declare x (typed_tree.More e rest)) is e (inl (x, is ∙ ap (λ z. Declare x (typed_tree.More e z)) last, named_object)) asked.0 (types given_type boolean (typed_tree.More e rest))
            (types_same s (typed_tree.More e rest)) pairs
        by_kind true view =
            plainly (types given_type boolean (typed_tree.More e rest)) pairs (calls_scalar (typed_tree.More e rest) (calls_here view))
            (subst (TakesScalars s) (sym is) (gives_only (typed_tree.More e rest) (calls_here view)))
    declared_takes x v is source asked pairs = absurd source

    assigned_takes : (target e : TypedTree) → p.instr ≡ Assign target e → (t : ℕ) → IsPlace s target t → CallsOnly Asked Passed target → SourceFits Asked Passed May e
        → Takes (types given_type boolean target ++ types given_type boolean e) → Goal
    unfolding CallsFit types types_taken roots
    assigned_takes (Name q x path u) e is t (leads, of) path_asked asked pairs = by_kind (is_anonymous (full s.table u)) refl
      where
        lasts_here : is_temporary_object s x ≡ false
        lasts_here = named_lasts named has inside p there x (subst (λ i. Has (named_in i) x) (sym is) (Has-append_right (roots e) (x ∷ roots path) x (inl refl)))

        fit_here : path ≡ NoMore → is_anonymous (view_of s x) ≡ true → is_name_of is_any e || gives_view own e ≡ true
        fit_here whole_path view =
            stored_fit (is_anonymous (view_of own x)) (is_formal own x) (is_name_of is_any e) (gives_view own e) (sym (view_same x lasts_here) ∙ view)
            (variable_plain x (given.stored (flow_sub own named) (ordered.in_program table typed effects given.accepted given.owns given.order given.answered given.passed given.still named has)
            (flow_at own named p) (Has-map (λ (z : NamedPoint). flow_at own named z) named.points p there) x (inr (q, u, e, is ∙ ap (λ z. Assign (Name q x z u) e) whole_path)) view))
            (subst (λ z. stores_name own (whole_object x z) e || gives_view own e ≡ true) whole_path (sym (ap (fits own) is) ∙ above.assigned (Name q x path u) e is))

        view_takes : is_anonymous (full s.table u) ≡ true → CallsOnly Asked Passed e
        view_takes view = elim (leads_or s given.parts_named path (object_at s x).of u leads) [
          | inr own_type ↦ (let never : true ≡ false = sym view ∙ named_plain s.table u own_type in absurd (true≢false never))
          | inl whole_place ↦ name_only is_any e (fit_here whole_place.0 (ap (λ z. is_anonymous (full s.table z)) whole_place.1 ∙ view)) asked
        ]

        by_kind : (b : Bool) → is_anonymous (full s.table u) ≡ b → Goal
        by_kind false place =
            together (Assign (Name q x path u) e) is e (inr (inl (q, x, path, u, is, place, taken_scalar path path_asked))) asked (types given_type boolean path ++ types given_type boolean e)
            (λ j. types_same s path j ++ types_same s e j) pairs
        by_kind true view =
            plainly (types given_type boolean path ++ types given_type boolean e) pairs
            (scalar_both s (types given_type boolean path) (types given_type boolean e) (calls_scalar path path_asked) (calls_scalar e (view_takes view)))
            (subst (TakesScalars s) (sym is) (gives_only e (view_takes view)))
    assigned_takes target e is t place path_asked asked pairs = absurd place

    returned_takes : (v : TypedTree) → p.instr ≡ Hold v → (r : Option ℕ) → named.sub.result ≡ r → Returns s r v → SourceFits Asked Passed May v → Takes (types given_type boolean v) → Goal
    unfolding CallsFit
    returned_takes v is None result none asked pairs =
        plainly (types given_type boolean v) pairs (calls_scalar v (subst (CallsOnly Asked Passed) (sym none) tt)) (subst (TakesScalars s) (sym is) (gives_only v (subst (CallsOnly Asked Passed) (sym none) tt)))
    returned_takes v is (Some t) result (e, value_is, source) asked pairs =
        by_kind (is_anonymous (full s.table t)) refl
      where
        value_asked : SourceFits Asked Passed May e
        value_asked = (subst (SourceFits Asked Passed May) value_is asked).0

        only_result : (k : ℕ) → named.sub.result ≡ Some k → k ≡ t
        only_result k same = (let both : Some k ≡ Some t = sym same ∙ result in cc)

        -- null, or a name: what gives a view stands alone
        seen_calls : is_anonymous (full s.table t) ≡ true → CallsOnly Asked Passed e
        seen_calls view =
            elim (given.returned (flow_sub own named) (ordered.in_program table typed effects given.accepted given.owns given.order given.answered given.passed given.still named has) (flow_at own named p)
            (Has-map (λ (q : NamedPoint). flow_at own named q) named.points p there) e NoMore (is ∙ ap Hold value_is) t result view) [
              | inl none ↦ subst (CallsOnly Asked Passed) (sym none) tt
              | inr (q, y, path, u, inl name) ↦ subst (CallsOnly Asked Passed) (sym name) (subst (SourceFits Asked Passed May) name value_asked)
              | inr (q, y, path, u, inr (r, m, more, call, gives)) ↦ absurd (not_named m gives (subst (SourceFits Asked Passed May) call value_asked).0)
            ]

        list_calls : is_anonymous (full s.table t) ≡ true → CallsOnly Asked Passed v
        list_calls view = subst (CallsOnly Asked Passed) (sym value_is) (seen_calls view, tt)

        by_kind : (b : Bool) → is_anonymous (full s.table t) ≡ b → Goal
        by_kind false named_type =
            together (Hold v) is e (inr (inr (is ∙ ap Hold value_is, (λ k same. ap (λ z. is_anonymous (full s.table z)) (only_result k same) ∙ named_type)))) value_asked
            (types given_type boolean v) (types_same s v) pairs
        by_kind true view =
            plainly (types given_type boolean v) pairs (calls_scalar v (list_calls view)) (subst (TakesScalars s) (sym is) (gives_only v (list_calls view)))

    abbrev Found : Instruction → Type 0
    Found i = InstructionFits Asked Passed May Single i × Takes (types_at given_type boolean i)

    -- a lone call
    lone_takes : (q : Pos) (m : ℕ) (a : TypedTree) → TakesIt p.instr (typed_tree.Call q m a) → Single m → Goal
    lone_takes q m a takes single = inr (inl (lone_taken named has inside p there q m a takes single).0)

    found_here : Found p.instr
    found_here = (let all = fitted_there named has inside p there in (all.0, all.1))

    others : (i : Instruction) → p.instr ≡ i → IsNoCall i → StoresNone i → Found i → Goal
    others i is no_call none found = plainly (types_at given_type boolean i) found.1 (plain_types i no_call none found.0) (subst (TakesScalars s) (sym is) (plain_stores i none))

    takes_by : (i : Instruction) → p.instr ≡ i → IsNoCall i → IsFine s named.sub.result i → Found i → Goal
    takes_by (Declare x v) is no_call fine found = by_either found.0
        (λ source. (declared_takes x v is fine source found.1))
        (λ (q, m, a, same, single, calls). (lone_takes q m a (inl (x, is ∙ ap (Declare x) same)) single))
    takes_by (Assign target e) is no_call (t, place, source) found = by_either found.0.1
        (λ asked. (assigned_takes target e is t place found.0.0 asked found.1))
        (λ (q, m, a, same, single, calls, r, x, path, u, target_is, none). (lone_takes q m a (inr (inl (r, x, path, u, is ∙ (λ j. Assign (target_is j) (same j)), none))) single))
    takes_by (Hold v) is no_call fine found = by_either found.0
        (λ source. (returned_takes v is named.sub.result refl fine source found.1))
        (λ (q, m, a, same, single, calls). (lone_takes q m a (inr (inr (is ∙ ap Hold same))) single))
    takes_by i is no_call fine found = others i is no_call tt found

    -- actuals
    passed_takes : (actuals : TypedTree) → PassedFit Asked Passed actuals → Takes (types given_type boolean actuals)
        → TakesPassed s actuals (filter (is_temporary_object s) (take (taken p.instr) p.scope))
    passed_takes actuals fit pairs = (
      pairs_ownless (types given_type boolean actuals) (take (taken p.instr) p.scope) pairs (calls_ownless actuals fit),
      takes_fit Passed actuals fit,
      subst (λ z. AreFilled s z (filter (is_temporary_object s) (take (taken p.instr) p.scope))) (types_same s actuals)
          (pairs_filled (types given_type boolean actuals) (take (taken p.instr) p.scope) pairs),
    )

    call_takes : (n : ℕ) (actuals : TypedTree) (r : Option ℕ) → Found (Call n actuals r)
        → TakesPassed s actuals (filter (is_temporary_object s) (take (taken p.instr) p.scope))
    call_takes n actuals (Some t) (fit, pairs) = passed_takes actuals fit.1 pairs
    call_takes n actuals None (fit, pairs) = passed_takes actuals fit pairs

    pub body_takes : IsTakenAt s named.sub.result p
    body_takes = (
      λ no_call. takes_by p.instr refl no_call (fine_there named has inside p there) found_here,
      λ n actuals r is. call_takes n actuals r (subst Found is found_here),
    )

  pub takes_there : (n : ℕ) → IsEntered program n → (named : NamedSub) → IsNamedSub (flow_named table typed) n named → (p : NamedPoint) → Has named.points p
      → IsTakenAt s named.sub.result p
  takes_there n entered named stands p there =
      let has : Has (flow_named table typed) named = named_has (flow_named table typed) n named stands in
      elim (where_is named has) [ inl e ↦ package_takes named e p there | inr inside ↦ body_takes named has inside n entered stands p there ]
