-- The objects of the flow are those of the typed program, and temporaries after them. What a point
-- does to places goes by the former alone.
use Rattle.std.proofs.Common.{◌≡◌, refl, sym, ap, ◌∙◌, subst, ◌⊎◌, inl, inr, ℕ, zero, suc, Bool, true, false, not, ◌&&◌, List, [], ◌∷◌, ◌++◌, map, flat_map, get_or, Option, Some, None, is_some, if◌then◌else◌}
use Rattle.std.proofs.lemmas.Bool.{true≢false}
use Rattle.machine.specs.spark_base.Lists.{Has}
use Rattle.machine.specs.spark_base.declared.position.Pos.{Pos}
use Rattle.machine.specs.place_names.declared.act.Act.{Act}
use Rattle.machine.specs.place_names.declared.act.Act.TheVariants as act
use Rattle.machine.specs.place_names.Names.{Name as PlaceName}
use Rattle.machine.specs.type_definitions.Types.{Table, full, is_owning, parts}
use Rattle.machine.specs.typed_tree.declared.object.Object.{Object}
use Rattle.machine.specs.typed_tree.Trees.{TypedTree, Name, Component, Designated, Element, Call, Parens, Image, Unary, Binary, Short, IsNull, Aggregate, Alike, New, More}
use Rattle.machine.specs.typed_tree.Programs.{TypedProgram, text_io}
use Rattle.machine.specs.flow_paths.Instructions.{Instruction, Skip, Declare, Assign, Output, Input, Release, Test, Choose, Start, Next, Evaluate, LeaveLoop, Hold, EndScope, Finish, Fall}
use Rattle.machine.specs.flow_paths.Instructions as instruction
use Rattle.machine.specs.flow_paths.Objects.{Signature, Typing, object_at, sub_at, is_variable, is_formal_kind, is_state, is_borrowing, is_observing, is_borrower, is_observer, is_formal, is_package_object, is_named_access, view_of, traverses, Passing, passing_by, passing, first_traversed, passings}
use Rattle.machine.specs.flow_paths.Objects as objects
use Rattle.machine.specs.flow_paths.Names.{Written, has_call, name_of, written, first, source, whole}
use Rattle.machine.specs.flow_paths.Acts.{placed, naming, used, acts_in, index_acts, source_acts, observe, actual_values, actual_acts, declared_acts, target_pos, reborrow, stored_acts, assigned_to, gives_variable, returned_acts, acts_of}
use Rattle.machine.specs.flow_paths.Laid.{Temporary, temporary_object, NamedSub, signature, typing_of, flow_typing, flow_program, flow_named}
use Rattle.soundness.proofs.Points.{all_signatures}

abbrev temporaries_of : NamedSub → List Temporary
temporaries_of named = named.temporaries

-- The typing of a program that is laid out.
abbrev pub wide : Table → TypedProgram → Typing
wide table program = record {
  table = table;
  objects = program.objects ++ map temporary_object (flat_map temporaries_of (flow_named table program));
  subs = map signature program.subs;
}

pub wide_is : (table : Table) (program : TypedProgram) → flow_typing (flow_program table program) ≡ wide table program
unfolding flow_program
wide_is table program =
    let subs = all_signatures (typing_of table program) program.subs in
    (λ j. record { table = table; objects = (wide table program).objects; subs = subs j })

-- ---- objects

-- Neither a variable, nor a formal, nor an object of a package.
abbrev IsOther : Object → Type 0
IsOther o = (is_variable o.kind ≡ false) × (is_formal_kind o.kind ≡ false) × (is_some o.«package» && not (is_state o.kind) ≡ false)

other_after : (xs : List Object) (ts : List Temporary) (x : ℕ)
    → (get_or (xs ++ map temporary_object ts) x text_io ≡ get_or xs x text_io)
    ⊎ (IsOther (get_or (xs ++ map temporary_object ts) x text_io) × IsOther (get_or xs x text_io))
other_after [] [] x = inl refl
other_after [] (t ∷ ts) zero = inr ((refl, refl, refl), (refl, refl, refl))
other_after [] (t ∷ ts) (suc x) = other_after [] ts x
other_after (o ∷ xs) ts zero = inl refl
other_after (o ∷ xs) ts (suc x) = other_after xs ts x

-- Two typings have the same types and subprograms, and of each object they say the same but for the
-- mode and the type of a temporary.
pub record Agree (a b : Typing) : Type 0 where
  pub table : a.table ≡ b.table
  pub subs : a.subs ≡ b.subs
  pub object : (x : ℕ) → (object_at a x ≡ object_at b x) ⊎ (IsOther (object_at a x) × IsOther (object_at b x))

pub wide_agrees : (table : Table) (program : TypedProgram) → Agree (wide table program) (typing_of table program)
wide_agrees table program = record {
  table = refl;
  subs = refl;
  object = other_after program.objects (flat_map temporaries_of (flow_named table program));
}

pub flow_agrees : (table : Table) (program : TypedProgram) → Agree (flow_typing (flow_program table program)) (typing_of table program)
flow_agrees table program = subst (λ z. Agree z (typing_of table program)) (sym (wide_is table program)) (wide_agrees table program)

no_and : (a b c d : Bool) → a ≡ false → c ≡ false → a && b ≡ c && d
no_and a b c d none nor = ap (λ z. z && b) none ∙ sym (ap (λ z. z && d) nor)

module _ (a b : Typing) (agree : Agree a b) where
  pub package_same : (x : ℕ) → is_package_object a x ≡ is_package_object b x
  package_same x = elim (agree.object x) [
    | inl same ↦ ap (λ (o : Object). is_some o.«package» && not (is_state o.kind)) same
    | inr others ↦ others.0.2 ∙ sym others.1.2
  ]

  pub formal_same : (x : ℕ) → is_formal a x ≡ is_formal b x
  formal_same x = elim (agree.object x) [
    | inl same ↦ ap (λ (o : Object). is_formal_kind o.kind) same
    | inr others ↦ others.0.1 ∙ sym others.1.1
  ]

  pub formal_object : (x : ℕ) → is_formal a x ≡ true → object_at a x ≡ object_at b x
  formal_object x formal = elim (agree.object x) [
    | inl same ↦ same
    | inr others ↦ (let no : true ≡ false = sym formal ∙ others.0.1 in absurd (true≢false no))
  ]

  pub borrower_same : (x : ℕ) → is_borrower a x ≡ is_borrower b x
  borrower_same x = elim (agree.object x) [
    | inl same ↦ (λ j. is_variable (same j).kind && is_borrowing (full (agree.table j) (same j).of))
    | inr others ↦ no_and (is_variable (object_at a x).kind) (is_borrowing (view_of a x)) (is_variable (object_at b x).kind) (is_borrowing (view_of b x)) others.0.0 others.1.0
  ]

  pub observer_same : (x : ℕ) → is_observer a x ≡ is_observer b x
  observer_same x = elim (agree.object x) [
    | inl same ↦ (λ j. is_variable (same j).kind && is_observing (full (agree.table j) (same j).of))
    | inr others ↦ no_and (is_variable (object_at a x).kind) (is_observing (view_of a x)) (is_variable (object_at b x).kind) (is_observing (view_of b x)) others.0.0 others.1.0
  ]

  -- ---- expressions

  used_same : (m : PlaceName) (t : ℕ) → used a m t ≡ used b m t
  used_same m t = ap (λ z. if is_owning z t then act.Move m (parts z t) else act.Read m) agree.table

  acts_same : (e : TypedTree) → acts_in a e ≡ acts_in b e
  unfolding acts_in
  acts_same (Name p x steps t) = (λ j. acts_same steps j ++ placed p (used_same (name_of x steps) t j) ∷ [])
  acts_same (Component i rest) = acts_same rest
  acts_same (Designated rest) = acts_same rest
  acts_same (Element index low high rest) = (λ j. acts_same index j ++ acts_same rest j)
  acts_same (IsNull equal (Name p x steps t)) = (λ j. acts_same steps j ++ placed p (act.Look (name_of x steps)) ∷ [])
  acts_same (IsNull equal e) = refl
  acts_same (Short op p e q f) = (λ j. if has_call f then [] else acts_same e j ++ acts_same f j)
  acts_same (Call p sub actuals) = refl
  acts_same (Image t e) = acts_same e
  acts_same (Parens e) = acts_same e
  acts_same (Unary op e) = acts_same e
  acts_same (Binary op e f) = (λ j. acts_same e j ++ acts_same f j)
  acts_same (Aggregate t es) = acts_same es
  acts_same (Alike t e) = acts_same e
  acts_same (New t v) = acts_same v
  acts_same (More e rest) = (λ j. acts_same e j ++ acts_same rest j)
  acts_same _ = refl

  index_same : (e : TypedTree) → index_acts a e ≡ index_acts b e
  index_same (Name p x steps t) = acts_same steps
  index_same _ = refl

  source_same : (e : TypedTree) (f : PlaceName → Act) → source_acts a e f ≡ source_acts b e f
  source_same e f = ap (λ z. z ++ naming (source e) f) (index_same e)

  observed_same : (e : TypedTree) (x : ℕ) → source_acts a e (observe a x) ≡ source_acts b e (observe b x)
  observed_same e x = (λ j. index_same e j ++ naming_same (source e) j)
    where
      naming_same : (w : Option Written) → naming w (observe a x) ≡ naming w (observe b x)
      naming_same None = refl
      naming_same (Some m) = ap (λ z. placed m.pos (act.Observe x m.name z) ∷ []) (observer_same m.name.root)

  -- ---- calls

  passing_same : (procedure : Bool) (x : ℕ) → is_formal a x ≡ true → passing a procedure x ≡ passing b procedure x
  passing_same procedure x formal =
      let same = formal_object x formal in
      (λ j. passing_by (same j).mode (is_owning (agree.table j) (same j).of) (procedure && is_named_access (full (agree.table j) (same j).of)))

  each_same : (procedure : Bool) (formals : List ℕ) → ((x : ℕ) → Has formals x → is_formal a x ≡ true) → map (passing a procedure) formals ≡ map (passing b procedure) formals
  each_same procedure [] formal = refl
  each_same procedure (x ∷ formals) formal =
      (λ j. passing_same procedure x (formal x (inl refl)) j ∷ each_same procedure formals (λ y has. formal y (inr has)) j)

  pub passings_same : (sub : Signature) → ((x : ℕ) → Has sub.formals x → is_formal a x ≡ true) → passings a sub ≡ passings b sub
  passings_same sub formal =
      let each = each_same (not (is_some sub.result)) sub.formals formal in
      (λ j. if traverses (agree.table j) sub.result then first_traversed (each j) else each j)

  values_same : (ways : List Passing) (actuals : TypedTree) → actual_values a ways actuals ≡ actual_values b ways actuals
  values_same (objects.ByValue ∷ ways) (More e rest) = (λ j. acts_same e j ++ values_same ways rest j)
  values_same (objects.Traversed ∷ ways) (More e rest) = (λ j. index_same e j ++ values_same ways rest j)
  values_same (objects.Place m owning access ∷ ways) (More e rest) = (λ j. index_same e j ++ values_same ways rest j)
  values_same _ _ = refl

  -- ---- instructions

  stored_same : (target e : TypedTree) → stored_acts a target e ≡ stored_acts b target e
  stored_same target e = (λ j. (acts_same e j ++ index_same target j) ++ naming (written target) act.Write)

  declared_same : (x : ℕ) (v : TypedTree) → declared_acts a x v ≡ declared_acts b x v
  declared_same x v =
      (λ j. if borrower_same x j then source_same (first v) (act.Borrow x) j else (if observer_same x j then observed_same (first v) x j else acts_same v j))

  assigned_same : (p : Pos) (w : Option ℕ) (target e : TypedTree) → assigned_to a p w target e ≡ assigned_to b p w target e
  assigned_same p None target e = stored_same target e
  assigned_same p (Some x) target e =
      (λ j. if borrower_same x j then index_same e j ++ reborrow (target_pos p (written target)) x (source e)
      else (if observer_same x j then observed_same e x j else stored_same target e j))

  returned_same : (result : Option ℕ) (v : TypedTree) → returned_acts a result v ≡ returned_acts b result v
  returned_same result v =
      (λ j. if traverses (agree.table j) result then (index_same (first v) j ++ naming (source (first v)) (λ m. act.Give m (gives_same result j))) else acts_same v j)
    where
      gives_same : (result : Option ℕ) → gives_variable a result ≡ gives_variable b result
      gives_same None = refl
      gives_same (Some t) = ap (λ z. is_borrowing (full z t)) agree.table

  -- The acts of an instruction, if formals of subprograms that it calls are such objects.
  pub instruction_same : (result : Option ℕ) (roots : List ℕ) (p : Pos) (i : Instruction)
      → ((n : ℕ) (actuals : TypedTree) (t : Option ℕ) → i ≡ instruction.Call n actuals t → (x : ℕ) → Has (sub_at a n).formals x → is_formal a x ≡ true)
      → acts_of (record { typing = a; result = result; roots = roots }) p i ≡ acts_of (record { typing = b; result = result; roots = roots }) p i
  instruction_same result roots p Skip formal = refl
  instruction_same result roots p (Declare x v) formal = declared_same x v
  instruction_same result roots p (Assign target e) formal = assigned_same p (whole target) target e
  instruction_same result roots p (instruction.Call n actuals t) formal =
      let ways : passings a (sub_at a n) ≡ passings b (sub_at b n) =
      passings_same (sub_at a n) (formal n actuals t refl) ∙ ap (λ z. passings b (get_or z n (record { formals = []; result = None }))) agree.subs in
      ap (λ z. actual_values a z actuals ++ actual_acts z actuals) ways
      ∙ ap (λ z. z ++ actual_acts (passings b (sub_at b n)) actuals) (values_same (passings b (sub_at b n)) actuals)
  instruction_same result roots p (Output text line) formal = acts_same text
  instruction_same result roots p (Input target) formal = source_same target _
  instruction_same result roots p (Release m) formal = source_same m act.Free
  instruction_same result roots p (Test e) formal = acts_same e
  instruction_same result roots p (Choose e choices) formal = acts_same e
  instruction_same result roots p (Start x reversed low high) formal = (λ j. acts_same low j ++ acts_same high j)
  instruction_same result roots p (Next x reversed low high) formal = refl
  instruction_same result roots p (Evaluate t e left) formal = acts_same e
  instruction_same result roots p (LeaveLoop e) formal = acts_same e
  instruction_same result roots p (Hold v) formal = returned_same result v
  instruction_same result roots p (EndScope x) formal = ap (λ z. placed p (act.EndScope x z) ∷ []) (borrower_same x)
  instruction_same result roots p Finish formal = refl
  instruction_same result roots p Fall formal = refl
