-- The step of a point is lowered.
use Rattle.std.proofs.Common.{◌≡◌, refl, sym, ap, ◌∙◌, subst, inl, inr, ℕ, zero, suc, ◌+◌, ◌<◌, Bool, true, false, not, List, [], ◌∷◌, ◌++◌, length, lt-ltb, arith, Option, Some, None, if◌then◌else◌}
use Rattle.std.specs.Prelude.{option_and_then, slice_get, nat_lt, is_some, ℤ}
use Rattle.std.proofs.lemmas.Bool.{false≢true, true≢false}
use Rattle.machine.specs.spark_base.Lists.{Has}
use Rattle.soundness.proofs.Lists.{Has-append_left, Has-append_right}
use Rattle.machine.specs.typed_tree.declared.node.ShortCircuit.{ShortCircuit}
use Rattle.machine.specs.type_definitions.declared.table.Shape.{Shape}
use Rattle.machine.specs.type_definitions.declared.table.Shape.TheVariants as shape
use Rattle.machine.specs.type_definitions.Types.{Table, shape_of, full, is_scalar}
use Rattle.machine.specs.type_definitions.Entries.{integer, boolean}
use Rattle.machine.specs.typed_tree.Trees.{TypedTree, TypedCode, NoMore, More}
use Rattle.machine.specs.flow_paths.Instructions.{Instruction, Skip, Declare, Assign, Output, Input, Release, Test, Choose, Start, Next, Evaluate, LeaveLoop, Hold, EndScope, Finish, Fall}
use Rattle.machine.specs.flow_paths.Instructions as instruction
use Rattle.machine.specs.flow_paths.Objects.{Typing, object_at, sub_at, is_package_object, passings}
use Rattle.machine.specs.flow_paths.Names.{waiting}
use Rattle.machine.specs.flow_paths.Points.{FlowPoint}
use Rattle.machine.specs.Evaluate.{AsValue}
use Rattle.machine.specs.Typed.{Sort, Whole, Position, successors}
use Rattle.settled_types.specs.OrderLaws.ScopeLaws.Code.{roots}
use Rattle.settled_types.specs.OrderLaws.ScopeLaws.Order.{named_in}
use Rattle.soundness.specs.TypedLaws.Fine.{counts, lists, Has as HasType}
use Rattle.soundness.proofs.TypedLaws.Agreeing.{Owns}
use Rattle.soundness.specs.TypedLaws.TypedSteps.Steps.{Taken, FirstTaken, FirstHas, IsPlaceOf, FirstText, IsCall, Returned, IsTypedStep}
use Rattle.run_codes.specs.Codes.{Does}
use Rattle.run_codes.specs.Codes as codes
use Rattle.run_codes.specs.Lowered.{Site, Lowered, Scalar, scalar_of, offset_of, lowered, value, option_map}
use Rattle.run_codes.specs.Programs.{Around, taken_types, point_takes, is_loop, going, own_offset, own_loop, on_going, on_next, use_for, actuals, text_pieces, alternatives, truth_code, scalar_code, condition, chosen_code, tested, declared, assigned, called, chosen, started, next_turn, operand, gone_on, held_result, scope_end, does}
use Rattle.sound_files.specs.TypedFiles.LoweredLaws.Lowers.{IsOwn, Declares, literals, literals_in}
use Rattle.sound_files.proofs.TypedFiles.LoweredLaws.Found.{Found, Any, then_found, map_found, if_found, there}
use Rattle.sound_files.proofs.TypedFiles.LoweredLaws.Shapes.{IsScalarOf, SortsLaw, scalar_is, listed_is}
use Rattle.sound_files.proofs.TypedFiles.LoweredLaws.Takes.{IsAt, at_first, at_start}
use Rattle.sound_files.proofs.TypedFiles.LoweredLaws.Fits.{Fits, AllRoom, AllWords, fits}
use Rattle.sound_files.proofs.TypedFiles.LoweredLaws.Words as lowering
use Rattle.sound_files.proofs.TypedFiles.LoweredLaws.Values as filling
use Rattle.sound_files.proofs.TypedFiles.LoweredLaws.Actuals.{placed, actuals_found, pieces_found}

-- ---- lists

at_index : {A : Type 0} (xs : List A) (k : ℕ) → k < length xs → (x : A) × (slice_get xs k ≡ Some x) × Has xs x
at_index [] k lt = absurd (omega (arith, lt))
at_index (x ∷ xs) zero lt = (x, refl, inl refl)
at_index (x ∷ xs) (suc k) lt = let more = at_index xs k (omega (arith, lt)) in (more.0, more.1, inr more.2)

found_has : {A : Type 0} (xs : List A) (k : ℕ) (x : A) → slice_get xs k ≡ Some x → Has xs x
found_has [] k x e = absurd (false≢true (ap is_some e))
found_has (y ∷ xs) zero x e = inl (grind (arith, e))
found_has (y ∷ xs) (suc k) x e = inr (found_has xs k x e)

own_is : (b f : Bool) → b ≡ f → (if b then f else not f) ≡ true
own_is true true e = refl
own_is false false e = refl
own_is true false e = absurd (true≢false e)
own_is false true e = absurd (false≢true e)

counted_shape : (z : Shape) → counts z ≡ true → (low : ℤ) × (high : ℤ) × (z ≡ shape.Whole low high)
counted_shape (shape.Whole low high) e = (low, high, refl)
counted_shape z e = absurd (false≢true e)

-- ---- codes of a sort

truth_found : (l : Lowered) → l.sort ≡ Position → Found Any (truth_code l)
truth_found l e = rw e tt

chosen_by : (z : Shape) (so : Sort) (l : Lowered) → IsScalarOf z so → l.sort ≡ so → Found Any (chosen_code l)
chosen_by (shape.Whole low high) so l is e = rw (e ∙ is) tt
chosen_by (shape.Listed k low high) so l is e = rw (e ∙ is) tt
chosen_by z so l is e = absurd is

same_by : (z : Shape) (so : Sort) → IsScalarOf z so → (p : Scalar) × (scalar_of z ≡ Some p) × (p.sort ≡ so)
same_by (shape.Whole low high) so is = (record { sort = Whole; low = low; high = high }, refl, sym is)
same_by (shape.Listed k low high) so is = (record { sort = Position; low = _; high = _ }, refl, sym is)
same_by z so is = absurd is

same_found : (z : Shape) (so so' : Sort) (l : Lowered) → IsScalarOf z so → so' ≡ so → l.sort ≡ so → Found Any (scalar_code so' l)
same_found (shape.Whole low high) so so' l is same e = rw (same ∙ is) (rw (e ∙ is) tt)
same_found (shape.Listed k low high) so so' l is same e = rw (same ∙ is) (rw (e ∙ is) tt)
same_found z so so' l is same e = absurd is

-- ---- where points go

abbrev pub IsGoing : Option ℕ → Type 0
IsGoing o = Found Any o

-- there is a k-th successor
pub going_found : (a : Around) (p : FlowPoint) (k : ℕ) → k < length p.next → ((n : ℕ) → Has p.next n → n < a.count) → Found IsGoing (going a p k)
going_found a p k lt within =
    let at = at_index p.next k lt in
    rw at.1 (if_found IsGoing (nat_lt at.0 a.count) (Some (Some (a.first + at.0))) (lt-ltb at.0 a.count (within at.0 at.2)) tt)

-- the first subprogram goes on, or ends
pub first_going : (a : Around) (p : FlowPoint) → a.is_first ≡ true → ((n : ℕ) → Has p.next n → n < a.count) → Found Any (going a p 0)
first_going a p is within = by (slice_get p.next 0) refl
  where
    by : (o : Option ℕ) → slice_get p.next 0 ≡ o → Found Any (going a p 0)
    by None e = rw e (rw is tt)
    by (Some n) e = rw e (if_found Any (nat_lt n a.count) (Some (Some (a.first + n))) (lt-ltb n a.count (within n (found_has p.next 0 n e))) tt)

going_any : (a : Around) (p : FlowPoint) (k : ℕ) → Found IsGoing (going a p k) → Found Any (going a p k)
going_any a p k h = by (going a p k) h
  where
    by : (o : Option (Option ℕ)) → Found IsGoing o → Found Any o
    by (Some n) h = tt
    by None h = absurd h

on_found : (a : Around) (p : FlowPoint) (f : Option ℕ → Option Does) → Found Any (going a p 0) → ((o : Option ℕ) → Found Any (f o)) → Found Any (on_going a p f)
on_found a p f goes next = then_found Any Any f (going a p 0) goes (λ o h. next o)

next_found : (a : Around) (p : FlowPoint) (f : Option ℕ → Option Does) → Found IsGoing (going a p 0) → ((o : Option ℕ) → Found Any (f o)) → Found Any (on_next a p f)
next_found a p f goes next = by (going a p 0) refl goes
  where
    by : (o : Option (Option ℕ)) → going a p 0 ≡ o → Found IsGoing o → Found Any (on_next a p f)
    by (Some (Some n)) e h = rw e (next (Some n))
    by (Some None) e h = absurd h
    by None e h = absurd h

some_next : (a : Around) (p : FlowPoint) (k : ℕ) → Found IsGoing (going a p k) → (n : ℕ) × (going a p k ≡ Some (Some n))
some_next a p k h = by (going a p k) refl h
  where
    by : (o : Option (Option ℕ)) → going a p k ≡ o → Found IsGoing o → (n : ℕ) × (going a p k ≡ Some (Some n))
    by (Some (Some n)) e h = (n, e)
    by (Some None) e h = absurd h
    by None e h = absurd h

-- ---- steps

module _ (a : Around) (owns : Owns a.site.typing.table) (whole : counts (shape_of a.site.typing.table integer) ≡ true) (listed : lists (shape_of a.site.typing.table boolean) ≡ true)
    (law : SortsLaw a.site.typing.table) where
  abbrev c : Site
  c = a.site

  abbrev s : Typing
  s = a.site.typing

  abbrev table : Table
  table = a.site.typing.table

  -- offsets
  own_found : (x : ℕ) → IsOwn c a.is_first x → Found Any (own_offset a x)
  own_found x own =
      if_found Any (if is_package_object s x then a.is_first else not a.is_first) (offset_of c x) (own_is (is_package_object s x) a.is_first own.0)
      (lowering.room_offset s 0 c.own x own.1)

  loop_found : (x : ℕ) → IsOwn c a.is_first x × (is_loop x c.own ≡ true) → Found Any (own_loop a x)
  loop_found x own = if_found Any (is_loop x c.own) (own_offset a x) own.1 (own_found x own.0)

  -- a condition
  condition_found : (e : TypedTree) → HasType s boolean e → Fits c e → IsAt c.takes 0 (taken_types s e) → Found Any (condition a e)
  condition_found e has fits at =
      then_found (λ (l : Lowered). l.sort ≡ Position) Any truth_code (lowered c 0 AsValue e)
      (lowering.words c owns whole listed e 0 AsValue boolean Position has (listed_is (shape_of table boolean) listed) fits at) truth_found

  tested_found : (p : FlowPoint) (e : TypedTree) → HasType s boolean e → Fits c e → IsAt c.takes 0 (taken_types s e) → Found Any (going a p 0) → Found Any (going a p 1)
      → Found Any (tested a p e)
  tested_found p e has inside at ahead aside =
      let x = there Any (condition a e) (condition_found e has inside at) in
      let n = there Any (going a p 0) ahead in
      let m = there Any (going a p 1) aside in
      rw x.1 (rw n.1 (rw m.1 tt))

  taken_found : (e : TypedTree) (k t : ℕ) → Taken s t e → Fits c e → IsAt c.takes k (taken_types s e) → (v : codes.Fill) × (value c k (use_for table t) t e ≡ Some v)
  taken_found e k t taken fits at =
      let v = there Any (value c k (use_for table t) t e) (filling.takens c owns whole listed law e k (use_for table t) t taken fits at) in (v.0, v.1)

  -- Declare
  pub declare_found : (p : FlowPoint) (x : ℕ) (v : TypedTree) → FirstTaken s (object_at s x).of v → IsOwn c a.is_first x → Fits c v → IsAt c.takes 0 (taken_types s v)
      → Found Any (going a p 0) → Found Any (declared a p x v)
  unfolding Fits taken_types
  declare_found p x (More e rest) taken own fits at goes =
      let o = there Any (own_offset a x) (own_found x own) in
      let v = taken_found e 0 (object_at s x).of taken.1 fits.0 (at_first c.takes 0 (taken_types s e) (taken_types s rest) at) in
      let n = there Any (going a p 0) goes in
      rw o.1 (rw v.1 (rw n.1 tt))
  declare_found p x NoMore taken own fits at goes =
      let o = there Any (own_offset a x) (own_found x own) in
      let n = there Any (going a p 0) goes in
      rw o.1 (rw n.1 tt)
  declare_found p x v taken own fits at goes = absurd taken

  -- Assign: the value is taken first
  assign_found : (p : FlowPoint) (target e : TypedTree) (t : ℕ) → IsPlaceOf s t target → Taken s t e → Fits c e → Fits c target
      → IsAt c.takes 0 (taken_types s e ++ taken_types s target) → Found Any (going a p 0) → Found Any (assigned a p target e)
  assign_found p target e t is taken one two at goes =
      let q = placed c owns whole listed law target (waiting e) t is two (at_start s c.takes e (taken_types s target) at) in
      let v = taken_found e 0 q.0.of (subst (λ t. Taken s t e) (sym q.2) taken) one (at_first c.takes 0 (taken_types s e) (taken_types s target) at) in
      let n = there Any (going a p 0) goes in
      rw q.1 (rw v.1 (rw n.1 tt))

  call_found : (p : FlowPoint) (given : Bool) (sub : ℕ) (e : TypedTree) → IsCall s given sub e → Fits c e → IsAt c.takes 0 (taken_types s e) → Found IsGoing (going a p 0) → Found Any (called a p sub e)
  call_found p given sub e is fits at goes =
      then_found Any Any (λ all. on_next a p (λ n. Some (codes.Call sub all n))) (actuals c p.pos 0 (passings s (sub_at s sub)) (sub_at s sub).formals e)
      (actuals_found c owns whole listed law p.pos given sub e is fits at) (λ all h. next_found a p (λ n. Some (codes.Call sub all n)) goes (λ n. tt))

  text_found : (t : TypedTree) → FirstText s t → Fits c t → IsAt c.takes 0 (taken_types s t) → Found Any (text_pieces c t)
  unfolding Fits taken_types
  text_found (More e rest) is fits at = pieces_found c owns whole listed law e 0 is.1 fits.0 (at_first c.takes 0 (taken_types s e) (taken_types s rest) at)
  text_found NoMore is fits at = tt
  text_found t is fits at = absurd is

  output_found : (p : FlowPoint) (t : TypedTree) (line : Bool) → FirstText s t → Fits c t → IsAt c.takes 0 (taken_types s t) → Found Any (going a p 0)
      → Found Any (does a p (Output t line))
  output_found p t line is fits at goes =
      let x = there Any (text_pieces c t) (text_found t is fits at) in
      let n = there Any (going a p 0) goes in
      rw x.1 (rw n.1 tt)

  input_found : (p : FlowPoint) (e : TypedTree) (t : ℕ) → IsPlaceOf s t e → counts (shape_of table t) ≡ true → Fits c e → IsAt c.takes 0 (taken_types s e) → Found Any (going a p 0)
      → Found Any (does a p (Input e))
  input_found p e t is whole' fits at goes =
      let q = placed c owns whole listed law e 0 t is fits at in
      let z = counted_shape (shape_of table t) whole' in
      let same : shape_of table q.0.of ≡ shape.Whole z.0 z.1 = ap (shape_of table) q.2 ∙ z.2 in
      let n = there Any (going a p 0) goes in
      rw q.1 (rw same (rw n.1 tt))

  release_found : (p : FlowPoint) (e : TypedTree) (t d : ℕ) → IsPlaceOf s t e → shape_of table t ≡ shape.Access d false true → Fits c e → IsAt c.takes 0 (taken_types s e)
      → Found Any (going a p 0) → Found Any (does a p (Release e))
  release_found p e t d is access fits at goes =
      let q = placed c owns whole listed law e 0 t is fits at in
      let same : shape_of table q.0.of ≡ shape.Access d false true = ap (shape_of table) q.2 ∙ access in
      let n = there Any (going a p 0) goes in
      rw q.1 (rw same (rw n.1 tt))

  -- Choose: an alternative for each successor
  alternatives_found : (p : FlowPoint) (k : ℕ) (all : List TypedCode) → ((n : ℕ) → Has p.next n → n < a.count) → k + length all ≡ length p.next → Found Any (alternatives a p k all)
  alternatives_found p k [] within same = tt
  alternatives_found p k (x ∷ rest) within same =
      let n = some_next a p k (going_found a p k (omega (arith, same)) within) in
      let more = there Any (alternatives a p (suc k) rest) (alternatives_found p (suc k) rest within (omega (arith, same))) in
      rw n.1 (rw more.1 tt)

  choose_found : (p : FlowPoint) (e : TypedTree) (all : List TypedCode) (t : ℕ) → is_scalar (full table t) ≡ true → HasType s t e → Fits c e → IsAt c.takes 0 (taken_types s e)
      → ((n : ℕ) → Has p.next n → n < a.count) → length p.next ≡ length all → Found Any (chosen a p e all)
  choose_found p e all t is has fits at within same =
      let scalar = scalar_is (shape_of table t) is in
      then_found Any Any (λ x. option_map (codes.Choose x) (alternatives a p 0 all)) (option_and_then chosen_code (lowered c 0 AsValue e))
      (then_found (λ (l : Lowered). l.sort ≡ scalar.0) Any chosen_code (lowered c 0 AsValue e) (lowering.words c owns whole listed e 0 AsValue t scalar.0 has scalar.1 fits at)
      (λ l sorted. chosen_by (shape_of table t) scalar.0 l scalar.1 sorted))
      (λ x h. map_found Any Any (codes.Choose x) (alternatives a p 0 all) (alternatives_found p 0 all within (omega (arith, same))) (λ y h. tt))

  bound_found : (e : TypedTree) (k t : ℕ) (so so' : Sort) → IsScalarOf (shape_of table t) so → so' ≡ so → HasType s t e → Fits c e → IsAt c.takes k (taken_types s e)
      → Found Any (option_and_then (scalar_code so') (lowered c k AsValue e))
  bound_found e k t so so' scalar same has fits at =
      then_found (λ (l : Lowered). l.sort ≡ so) Any (scalar_code so') (lowered c k AsValue e) (lowering.words c owns whole listed e k AsValue t so has scalar fits at)
      (λ l sorted. same_found (shape_of table t) so so' l scalar same sorted)

  start_found : (p : FlowPoint) (x : ℕ) (low high : TypedTree) → is_scalar (full table (object_at s x).of) ≡ true → HasType s (object_at s x).of low → HasType s (object_at s x).of high
      → IsOwn c a.is_first x × (is_loop x c.own ≡ true) → Fits c low → Fits c high → IsAt c.takes 0 (taken_types s low ++ taken_types s high) → Found IsGoing (going a p 0)
      → Found Any (started a p x low high)
  start_found p x low high is one two own first second at goes =
      let t : ℕ = (object_at s x).of in
      let scalar = scalar_is (shape_of table t) is in
      let z = same_by (shape_of table t) scalar.0 scalar.1 in
      let o = there Any (own_loop a x) (loop_found x own) in
      let l = there Any (option_and_then (scalar_code z.0.sort) (lowered c 0 AsValue low)) (bound_found low 0 t scalar.0 z.0.sort scalar.1 z.2 one first (at_first c.takes 0 (taken_types s low) (taken_types s high) at)) in
      let h = there Any (option_and_then (scalar_code z.0.sort) (lowered c (waiting low) AsValue high))
      (bound_found high (waiting low) t scalar.0 z.0.sort scalar.1 z.2 two second (at_start s c.takes low (taken_types s high) at)) in
      let n = some_next a p 0 goes in
      rw o.1 (rw z.1 (rw l.1 (rw h.1 (rw n.1 tt))))

  turn_found : (p : FlowPoint) (x : ℕ) (reversed : Bool) → is_scalar (full table (object_at s x).of) ≡ true → IsOwn c a.is_first x × (is_loop x c.own ≡ true) → Found Any (going a p 0)
      → Found Any (going a p 1) → Found Any (next_turn a p x reversed)
  turn_found p x reversed is own ahead aside =
      let scalar = scalar_is (shape_of table (object_at s x).of) is in
      let z = same_by (shape_of table (object_at s x).of) scalar.0 scalar.1 in
      let o = there Any (own_loop a x) (loop_found x own) in
      let n = there Any (going a p 0) ahead in
      let m = there Any (going a p 1) aside in
      rw o.1 (rw z.1 (rw n.1 (rw m.1 tt)))

  right_found : (p : FlowPoint) (e : TypedTree) → HasType s boolean e → Fits c e → IsAt c.takes 0 (taken_types s e) → Found Any (going a p 0) → Found Any (operand a p e None)
  right_found p e has inside at ahead =
      let x = there Any (condition a e) (condition_found e has inside at) in
      let n = there Any (going a p 0) ahead in
      rw x.1 (rw n.1 tt)

  left_found : (p : FlowPoint) (e : TypedTree) (op : ShortCircuit) → HasType s boolean e → Fits c e → IsAt c.takes 0 (taken_types s e) → Found Any (going a p 0) → Found Any (going a p 1)
      → Found Any (operand a p e (Some op))
  left_found p e op has inside at ahead aside =
      let x = there Any (condition a e) (condition_found e has inside at) in
      let n = there Any (going a p 0) ahead in
      let m = there Any (going a p 1) aside in
      rw x.1 (rw n.1 (rw m.1 tt))

  gone_found : (p : FlowPoint) → Found Any (going a p 0) → Found Any (gone_on a p)
  gone_found p goes = on_found a p (λ n. Some (codes.Go n)) goes (λ n. tt)

  held_found : (p : FlowPoint) (e : TypedTree) (t : ℕ) → Taken s t e → Fits c e → IsAt c.takes 0 (taken_types s e) → Found IsGoing (going a p 0)
      → Found Any (held_result a p (More e NoMore) (Some t))
  held_found p e t taken fits at goes =
      let v = taken_found e 0 t taken fits at in
      let n = some_next a p 0 goes in
      rw v.1 (rw n.1 tt)

  hold_found : (p : FlowPoint) (v : TypedTree) (result : Option ℕ) → Returned s result v → Fits c v → IsAt c.takes 0 (taken_types s v) → Found IsGoing (going a p 0)
      → Found Any (held_result a p v result)
  unfolding Fits taken_types
  hold_found p v None is fits at goes = subst (λ v. Found Any (held_result a p v None)) (sym is) (gone_found p (going_any a p 0 goes))
  hold_found p v (Some t) (e, is, taken) fits at goes =
      subst (λ v. Found Any (held_result a p v (Some t))) (sym is)
      (held_found p e t taken (subst (λ v. Fits c v) is fits).0 (at_first c.takes 0 (taken_types s e) [] (subst (λ v. IsAt c.takes 0 (taken_types s v)) is at)) goes)

  scope_found : (p : FlowPoint) (x : ℕ) → IsOwn c a.is_first x → Found Any (going a p 0) → Found Any (scope_end a p x)
  scope_found p x own goes =
      let o = there Any (own_offset a x) (own_found x own) in
      let n = there Any (going a p 0) goes in
      rw o.1 (rw n.1 tt)

  leave_found : (p : FlowPoint) (e : TypedTree) → FirstHas s boolean e → Fits c e → IsAt c.takes 0 (taken_types s e) → length p.next ≡ successors (LeaveLoop e)
      → ((n : ℕ) → Has p.next n → n < a.count) → Found Any (does a p (LeaveLoop e))
  unfolding Fits taken_types
  leave_found p (More e rest) is fits at same within =
      tested_found p e is.1 fits.0 (at_first c.takes 0 (taken_types s e) (taken_types s rest) at) (going_any a p 0 (going_found a p 0 (omega (arith, same)) within))
      (going_any a p 1 (going_found a p 1 (omega (arith, same)) within))
  leave_found p NoMore is fits at same within = gone_found p (going_any a p 0 (going_found a p 0 (omega (arith, same)) within))
  leave_found p e is fits at same within = absurd is

  goes : (p : FlowPoint) (k n : ℕ) → length p.next ≡ n → k < n → ((n : ℕ) → Has p.next n → n < a.count) → Found IsGoing (going a p k)
  goes p k n same lt within = going_found a p k (omega (arith, same, lt)) within

  goes_any : (p : FlowPoint) (k n : ℕ) → length p.next ≡ n → k < n → ((n : ℕ) → Has p.next n → n < a.count) → Found Any (going a p k)
  goes_any p k n same lt within = going_any a p k (goes p k n same lt within)

  -- a step that has as many successors as it leads to
  pub step_found : (p : FlowPoint) (i : Instruction) → IsTypedStep s a.result i → AllRoom c (named_in i) → AllWords (literals_in i) → Declares c a.is_first i
      → IsAt c.takes 0 (point_takes s i) → length p.next ≡ successors i → ((n : ℕ) → Has p.next n → n < a.count) → Found Any (does a p i)
  step_found p Skip is room words own at same within = gone_found p (goes_any p 0 1 same (omega arith) within)
  step_found p (Declare x v) is room words own at same within = declare_found p x v is own (fits c v room words) at (goes_any p 0 1 same (omega arith) within)
  step_found p (Assign target e) is room words own at same within =
      assign_found p target e is.0 is.1 is.2
      (fits c e (λ x has. room x (Has-append_left (roots e) (roots target) x has)) (λ n has. words n (Has-append_left (literals e) (literals target) n has)))
      (fits c target (λ x has. room x (Has-append_right (roots e) (roots target) x has)) (λ n has. words n (Has-append_right (literals e) (literals target) n has))) at
      (goes_any p 0 1 same (omega arith) within)
  step_found p (instruction.Call sub e result) is room words own at same within = call_found p (is_some result) sub e is (fits c e room words) at (goes p 0 1 same (omega arith) within)
  step_found p (Output t line) is room words own at same within = output_found p t line is (fits c t room words) at (goes_any p 0 1 same (omega arith) within)
  step_found p (Input e) is room words own at same within = input_found p e is.0 is.1 is.2 (fits c e room words) at (goes_any p 0 1 same (omega arith) within)
  step_found p (Release e) is room words own at same within = release_found p e is.0 is.1 is.2 is.3 (fits c e room words) at (goes_any p 0 1 same (omega arith) within)
  step_found p (Test e) is room words own at same within =
      tested_found p e is (fits c e room words) at (goes_any p 0 2 same (omega arith) within) (goes_any p 1 2 same (omega arith) within)
  step_found p (Choose e all) is room words own at same within = choose_found p e all is.0 is.1 is.2 (fits c e room words) at within same
  step_found p (Start x reversed low high) is room words own at same within =
      start_found p x low high is.0 is.1 is.2 own
      (fits c low (λ x has. room x (Has-append_left (roots low) (roots high) x has)) (λ n has. words n (Has-append_left (literals low) (literals high) n has)))
      (fits c high (λ x has. room x (Has-append_right (roots low) (roots high) x has)) (λ n has. words n (Has-append_right (literals low) (literals high) n has))) at
      (goes p 0 1 same (omega arith) within)
  step_found p (Next x reversed low high) is room words own at same within =
      turn_found p x reversed is own (goes_any p 0 2 same (omega arith) within) (goes_any p 1 2 same (omega arith) within)
  step_found p (Evaluate t e (Some op)) is room words own at same within =
      left_found p e op is (fits c e room words) at (goes_any p 0 2 same (omega arith) within) (goes_any p 1 2 same (omega arith) within)
  step_found p (Evaluate t e None) is room words own at same within = right_found p e is (fits c e room words) at (goes_any p 0 1 same (omega arith) within)
  step_found p (LeaveLoop e) is room words own at same within = leave_found p e is (fits c e room words) at same within
  step_found p (Hold v) is room words own at same within = hold_found p v a.result is (fits c v room words) at (goes p 0 1 same (omega arith) within)
  step_found p (EndScope x) is room words own at same within = scope_found p x own (goes_any p 0 1 same (omega arith) within)
  step_found p Finish is room words own at same within = tt
  step_found p Fall is room words own at same within = tt
