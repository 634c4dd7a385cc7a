-- The objects of the flow are those of the typed program, and temporaries after them. The leak checks
-- of a point go by the former alone; and what an excused one says of the facts at its point.
use Rattle.std.proofs.Common.{◌≡◌, refl, sym, ap, ◌∙◌, subst, ◌⊎◌, inl, inr, ℕ, zero, suc, ◌+◌, true, false, List, [], ◌∷◌, ◌++◌, map, flat_map, length, get_or, Option, Some, None, Bool, not, IsTrue, take}
use Rattle.std.proofs.lemmas.Bool.{false≢true, true≢false}
use Rattle.machine.specs.spark_base.Lists.{Has}
use Rattle.machine.specs.spark_base.declared.position.Pos.{Pos}
use Rattle.machine.specs.place_names.declared.act.Act.{Act}
use Rattle.machine.specs.place_names.declared.act.Mode.TheVariants as mode
use Rattle.machine.specs.place_names.declared.act.Placed.{Placed}
use Rattle.machine.specs.place_names.declared.fact.Fact.{Fact}
use Rattle.machine.specs.place_names.declared.fact.Fact.TheVariants.{Moved}
use Rattle.machine.specs.place_names.declared.selector.Sel.TheVariants as sel
use Rattle.machine.specs.place_names.Names.{object, extend, has_elem}
use Rattle.machine.specs.place_names.Facts.{effect, facts_behind}
use Rattle.place_names.proofs.Facts.{facts_behind-append}
use Rattle.machine.specs.type_definitions.Types.{Table, parts}
use Rattle.machine.specs.typed_tree.declared.object.Object.{Object}
use Rattle.machine.specs.typed_tree.Trees.{TypedTree, Name, More}
use Rattle.machine.specs.typed_tree.Programs.{TypedProgram, text_io}
use Rattle.machine.specs.flow_paths.declared.point.LeakSpot.{LeakSpot}
use Rattle.machine.specs.flow_paths.Instructions.{Instruction, Assign, Call, Release, Test, EndScope}
use Rattle.machine.specs.flow_paths.Objects.{Typing, object_at, sub_at, designated, is_formal, Passing, ByValue, Traversed, Place, passings}
use Rattle.machine.specs.flow_paths.Names.{Written, written, name_of}
use Rattle.machine.specs.flow_paths.Acts.{spot, acts_in, index_acts, actual_values, actual_act, spots_at, actual_spots, call_spots, leaks_of}
use Rattle.machine.specs.flow_paths.Laid.{Temporary, temporary_object, NamedSub, typing_of, flow_typing, flow_program, flow_named}
use Rattle.machine.specs.flow_paths.Paths.{PathPoint, path_point, ControlPath, acts_along, facts_before, facts_within}
use Rattle.machine.specs.flow_paths.LeakPlan.{IsExcused}
use Rattle.machine.specs.flow_paths.Scopes.{is_temporary}
use Rattle.soundness.specs.OwnedWays.Ways.{after}
use Rattle.soundness.specs.Sound.{IsNoCall, is_temporary_object}
use Rattle.soundness.proofs.Scalars.{acts}
use Rattle.soundness.proofs.Typings.{Agree, wide, wide_is, instruction_same, passings_same}
use Rattle.soundness.specs.TypedLaws.Needed.{IsFine}
use Rattle.soundness.proofs.Constructors.{is_call_instruction}

abbrev temporaries_of : NamedSub → List Temporary
temporaries_of named = named.temporaries

-- ---- two typings that agree

module _ (a b : Typing) (agree : Agree a b) where
  acts_same : (pos : Pos) (e : TypedTree) → acts_in a e ≡ acts_in b e
  acts_same pos e =
      instruction_same a b agree None [] pos (Test e) (λ n actuals t never x has. (let no : Test e ≡ Call n actuals t = never in absurd (false≢true (ap is_call_instruction no))))

  index_same : (pos : Pos) (e : TypedTree) → index_acts a e ≡ index_acts b e
  index_same pos (Name p x path t) = acts_same pos path
  index_same pos e = refl

  -- what is read of the actuals of a call
  pub values_same : (pos : Pos) (ways : List Passing) (actuals : TypedTree) → actual_values a ways actuals ≡ actual_values b ways actuals
  values_same pos (ByValue ∷ ways) (More e rest) = (λ j. acts_same pos e j ++ values_same pos ways rest j)
  values_same pos (Traversed ∷ ways) (More e rest) = (λ j. index_same pos e j ++ values_same pos ways rest j)
  values_same pos (Place m owning access ∷ ways) (More e rest) = (λ j. index_same pos e j ++ values_same pos ways rest j)
  values_same pos _ _ = refl

  written_same : (w : Option Written) (before : ℕ) → spots_at a w before ≡ spots_at b w before
  written_same None before = refl
  written_same (Some m) before = ap (λ z. map (spot m.pos m.name before) (parts z m.of)) agree.table

  actual_same : (way : Passing) (e : TypedTree) (before : ℕ) → actual_spots a way e before ≡ actual_spots b way e before
  actual_same (Place mode.Out owning access) e before = written_same (written e) before
  actual_same _ e before = refl

  -- of a call
  pub call_same : (ways : List Passing) (actuals : TypedTree) (before : ℕ) → call_spots a ways actuals before ≡ call_spots b ways actuals before
  call_same (way ∷ ways) (More e rest) before =
      (λ j. actual_same way e before j ++ call_same ways rest (before + length (actual_act way e)) j)
  call_same _ _ before = refl

  pub ways_same : (n : ℕ) → ((x : ℕ) → Has (sub_at a n).formals x → is_formal a x ≡ true) → passings a (sub_at a n) ≡ passings b (sub_at b n)
  ways_same n formal =
      passings_same a b agree (sub_at a n) formal ∙ ap (λ z. passings b (get_or z n (record { formals = []; result = None }))) agree.subs

  assigned_same : (result : Option ℕ) (roots : List ℕ) (pos : Pos) (target e : TypedTree) → IsFine a result (Assign target e)
      → leaks_of (record { typing = a; result = result; roots = roots }) pos (Assign target e)
      ≡ leaks_of (record { typing = b; result = result; roots = roots }) pos (Assign target e)
  assigned_same result roots pos (Name q x path_of u) e fine =
      (λ j. map (spot q (name_of x path_of) (length (acts_same pos e j ++ acts_same pos path_of j))) (parts (agree.table j) u))
  assigned_same result roots pos target e (v, never, source) = absurd never

  released_same : (result : Option ℕ) (roots : List ℕ) (pos : Pos) (target : TypedTree) → IsFine a result (Release target)
      → leaks_of (record { typing = a; result = result; roots = roots }) pos (Release target)
      ≡ leaks_of (record { typing = b; result = result; roots = roots }) pos (Release target)
  released_same result roots pos (Name q x path_of u) fine =
      (λ j. map (spot q (extend (name_of x path_of) (sel.Deref ∷ [])) (length (acts_same pos path_of j))) (parts (agree.table j) (designated (agree.table j) u)))
  released_same result roots pos target (v, d, never, access) = absurd never

  -- Of an instruction that is no call, if an object whose scope ends is the same in both.
  pub leaks_same : (result : Option ℕ) (roots : List ℕ) (pos : Pos) (i : Instruction) → IsNoCall i → IsFine a result i
      → ((x : ℕ) → i ≡ EndScope x → object_at a x ≡ object_at b x)
      → leaks_of (record { typing = a; result = result; roots = roots }) pos i ≡ leaks_of (record { typing = b; result = result; roots = roots }) pos i
  leaks_same result roots pos (Assign target e) calls fine same = assigned_same result roots pos target e fine
  leaks_same result roots pos (Call n actuals t) calls fine same = absurd (calls n actuals t refl)
  leaks_same result roots pos (Release target) calls fine same = released_same result roots pos target fine
  leaks_same result roots pos (EndScope x) calls fine same = (λ j. map (spot pos (object x) 0) (parts (agree.table j) (same x refl j).of))
  leaks_same result roots pos i calls fine same = refl

-- ---- the objects of the flow

object_or : (xs : List Object) (ts : List Temporary) (x : ℕ)
    → (get_or (xs ++ map temporary_object ts) x text_io ≡ get_or xs x text_io) ⊎ (is_temporary (get_or (xs ++ map temporary_object ts) x text_io).kind ≡ true)
object_or [] [] x = inl refl
object_or [] (t ∷ ts) zero = inr refl
object_or [] (t ∷ ts) (suc x) = object_or [] ts x
object_or (o ∷ xs) ts zero = inl refl
object_or (o ∷ xs) ts (suc x) = object_or xs ts x

-- An object is one of the typed program, or a temporary.
pub object_same : (table : Table) (typed : TypedProgram) (x : ℕ) → is_temporary_object (flow_typing (flow_program table typed)) x ≡ false
    → object_at (flow_typing (flow_program table typed)) x ≡ object_at (typing_of table typed) x
object_same table typed x other =
    subst (λ z. is_temporary_object z x ≡ false → object_at z x ≡ object_at (typing_of table typed) x) (sym (wide_is table typed))
    (by (object_or typed.objects (flat_map temporaries_of (flow_named table typed)) x)) other
  where
    by : (get_or (typed.objects ++ map temporary_object (flat_map temporaries_of (flow_named table typed))) x text_io ≡ get_or typed.objects x text_io)
        ⊎ (is_temporary (get_or (typed.objects ++ map temporary_object (flat_map temporaries_of (flow_named table typed))) x text_io).kind ≡ true)
        → is_temporary_object (wide table typed) x ≡ false → object_at (wide table typed) x ≡ object_at (typing_of table typed) x
    by (inl same) other = same
    by (inr temporary) other = (let no : true ≡ false = sym temporary ∙ other in absurd (true≢false no))

-- ---- an excused check

take_front : {A : Type 0} (front rest : List A) → take (length front) (front ++ rest) ≡ front
take_front [] [] = refl
take_front [] (x ∷ rest) = refl
take_front (x ∷ front) rest = ap (λ z. x ∷ z) (take_front front rest)

after_behind : (more : List Act) (facts : List Fact) → after more facts ≡ facts_behind facts more
after_behind [] facts = refl
after_behind (a ∷ more) facts = after_behind more (effect a facts)

is_plain : (b : Bool) → IsTrue (not b) → b ≡ false
is_plain true t = cc
is_plain false t = refl

-- what an excused leak check says of the facts just before its act
pub excused_knows : (points : List PathPoint) (n : ℕ) (before : List ℕ) → ControlPath points before n → (front rest : List Placed)
    → (path_point points n).acts ≡ front ++ rest → (check : LeakSpot) → check.before ≡ length front → IsExcused points n check
    → (has_elem check.name.sels ≡ false) × Has (after (acts front) (facts_before points before)) (Moved check.name)
excused_knows points n before path front rest split check count excused =
    let cut : take check.before (path_point points n).acts ≡ front = (λ j. take (count j) (split j)) ∙ take_front front rest in
    let facts : facts_within points before (take check.before (path_point points n).acts) ≡ after (acts front) (facts_before points before) =
    ap (facts_within points before) cut ∙ facts_behind-append [] (acts_along points before) (acts front)
    ∙ sym (after_behind (acts front) (facts_before points before)) in
    (is_plain (has_elem check.name.sels) excused.definite, subst (λ z. Has z (Moved check.name)) facts (excused.moved before path))
