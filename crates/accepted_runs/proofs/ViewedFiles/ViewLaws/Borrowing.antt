-- The acts that borrow are those of declarations: of a borrower, from the name that it is declared with.
use Rattle.std.proofs.Common.{◌≡◌, refl, sym, ap, ◌∙◌, inl, inr, ℕ, Bool, true, false, List, [], ◌∷◌, ◌++◌, Option, None, Some, if◌then◌else◌}
use Rattle.std.proofs.lemmas.Bool.{false≢true}
use Rattle.machine.specs.spark_base.Lists.{Has}
use Rattle.machine.specs.spark_base.declared.position.Pos.{Pos}
use Rattle.soundness.proofs.Lists.{Has-append_cases}
use Rattle.machine.specs.place_names.Names.{Name as PlaceName}
use Rattle.machine.specs.place_names.declared.act.Act.{Act}
use Rattle.machine.specs.place_names.declared.act.Act.TheVariants as act
use Rattle.machine.specs.place_names.declared.act.Mode.TheVariants as mode
use Rattle.machine.specs.place_names.declared.act.Placed.{Placed}
use Rattle.machine.specs.type_definitions.Types.{parts, is_owning}
use Rattle.machine.specs.typed_tree.Trees.{TypedTree, Name, Component, Designated, Element, Image, Parens, Unary, Binary, Short, IsNull, Aggregate, Alike, New, More}
use Rattle.machine.specs.typed_tree.Trees as typed
use Rattle.machine.specs.flow_paths.Instructions.{Instruction, Skip, Declare, Assign, Call, Output, Input, Release, Test, Choose, Start, Next, Evaluate, LeaveLoop, Hold, EndScope, Finish, Fall}
use Rattle.machine.specs.flow_paths.Objects.{Typing, sub_at, is_borrower, is_observer, traverses, Passing, ByValue, Traversed, Place, passings}
use Rattle.machine.specs.flow_paths.Names.{Written, name_of, written, first, source, whole, has_call}
use Rattle.machine.specs.flow_paths.Acts.{acts_in, acts_of, used, placed, naming, observe, reborrow, target_pos, index_acts, source_acts, stored_acts, assigned_to, declared_acts, returned_acts, gives_variable, actual_values, actual_act, actual_acts}

-- ---- acts that don't borrow

abbrev is_borrow : Act → Bool
is_borrow (act.Borrow h m) = true
is_borrow a = false

abbrev IsPlain : Act → Type 0
IsPlain a = (h : ℕ) (m : PlaceName) → a ≡ act.Borrow h m → ⊥

abbrev ArePlain : List Placed → Type 0
ArePlain ps = (a : Placed) → Has ps a → IsPlain a.act

none : ArePlain []
none a has = absurd has

one : (p : Placed) → IsPlain p.act → ArePlain (p ∷ [])
one p plain a (inl same) h m is = plain h m (ap (λ (z : Placed). z.act) same ∙ is)
one p plain a (inr never) h m is = absurd never

both : (ps qs : List Placed) → ArePlain ps → ArePlain qs → ArePlain (ps ++ qs)
both ps qs left right a has = elim (Has-append_cases ps qs a has) [ inl l ↦ left a l | inr r ↦ right a r ]

of_name : (w : Option Written) (a : PlaceName → Act) → ((k : PlaceName) → IsPlain (a k)) → ArePlain (naming w a)
of_name None a plain = none
of_name (Some m) a plain = one (placed m.pos (a m.name)) (plain m.name)

actual_plain : (way : Passing) (e : TypedTree) → ArePlain (actual_act way e)
actual_plain (Place m owning access) e = of_name (written e) (λ k. act.Actual k m owning access) (λ k h n is. false≢true (ap is_borrow is))
actual_plain ByValue e = none
actual_plain Traversed e = none

reborrow_plain : (p : Pos) (x : ℕ) (w : Option Written) → ArePlain (reborrow p x w)
reborrow_plain p x None = none
reborrow_plain p x (Some m) = one (placed p (act.Reborrow x m.name)) (λ h k is. false≢true (ap is_borrow is))

module _ (s : Typing) where
  used_plain : (m : PlaceName) (t : ℕ) → IsPlain (used s m t)
  used_plain m t = by (is_owning s.table t)
    where
      by : (b : Bool) → IsPlain (if b then act.Move m (parts s.table t) else act.Read m)
      by true h k is = false≢true (ap is_borrow is)
      by false h k is = false≢true (ap is_borrow is)

  if_plain : (b : Bool) (ps : List Placed) → ArePlain ps → ArePlain (if b then [] else ps)
  if_plain true ps plain = none
  if_plain false ps plain = plain

  -- those of expressions
  value_plain : (e : TypedTree) → ArePlain (acts_in s e)
  unfolding acts_in
  value_plain (Name p x steps t) = both (acts_in s steps) (placed p (used s (name_of x steps) t) ∷ []) (value_plain steps) (one (placed p (used s (name_of x steps) t)) (used_plain (name_of x steps) t))
  value_plain (Component i rest) = value_plain rest
  value_plain (Designated rest) = value_plain rest
  value_plain (Element index low high rest) = both (acts_in s index) (acts_in s rest) (value_plain index) (value_plain rest)
  value_plain (IsNull equal (Name p x steps t)) = both (acts_in s steps) (placed p (act.Look (name_of x steps)) ∷ []) (value_plain steps) (one (placed p (act.Look (name_of x steps))) (λ h m is. false≢true (ap is_borrow is)))
  value_plain (Short op p a q b) = if_plain (has_call b) (acts_in s a ++ acts_in s b) (both (acts_in s a) (acts_in s b) (value_plain a) (value_plain b))
  value_plain (typed.Call p sub actuals) = none
  value_plain (Image t e) = value_plain e
  value_plain (Parens e) = value_plain e
  value_plain (Unary op e) = value_plain e
  value_plain (Binary op a b) = both (acts_in s a) (acts_in s b) (value_plain a) (value_plain b)
  value_plain (Aggregate t es) = value_plain es
  value_plain (Alike t e) = value_plain e
  value_plain (New t v) = value_plain v
  value_plain (More e rest) = both (acts_in s e) (acts_in s rest) (value_plain e) (value_plain rest)
  value_plain _ = none

  index_plain : (e : TypedTree) → ArePlain (index_acts s e)
  index_plain (Name p x steps t) = value_plain steps
  index_plain _ = none

  source_plain : (e : TypedTree) (a : PlaceName → Act) → ((m : PlaceName) → IsPlain (a m)) → ArePlain (source_acts s e a)
  source_plain e a plain = both (index_acts s e) (naming (source e) a) (index_plain e) (of_name (source e) a plain)

  observe_plain : (x : ℕ) (m : PlaceName) → IsPlain (observe s x m)
  observe_plain x m h k is = false≢true (ap is_borrow is)

  -- those of calls
  values_plain : (ways : List Passing) (actuals : TypedTree) → ArePlain (actual_values s ways actuals)
  values_plain (ByValue ∷ ways) (More e rest) = both (acts_in s e) (actual_values s ways rest) (value_plain e) (values_plain ways rest)
  values_plain (Traversed ∷ ways) (More e rest) = both (index_acts s e) (actual_values s ways rest) (index_plain e) (values_plain ways rest)
  values_plain (Place m owning access ∷ ways) (More e rest) = both (index_acts s e) (actual_values s ways rest) (index_plain e) (values_plain ways rest)
  values_plain _ actuals = none

  actuals_plain : (ways : List Passing) (actuals : TypedTree) → ArePlain (actual_acts ways actuals)
  actuals_plain (way ∷ ways) (More e rest) = both (actual_act way e) (actual_acts ways rest) (actual_plain way e) (actuals_plain ways rest)
  actuals_plain _ actuals = none

  -- ---- instructions

  stored_plain : (target e : TypedTree) → ArePlain (stored_acts s target e)
  stored_plain target e =
      both (acts_in s e ++ index_acts s target) (naming (written target) act.Write) (both (acts_in s e) (index_acts s target) (value_plain e) (index_plain target))
      (of_name (written target) act.Write (λ k h m is. false≢true (ap is_borrow is)))

  assigned_plain : (p : Pos) (w : Option ℕ) (target e : TypedTree) → ArePlain (assigned_to s p w target e)
  assigned_plain p None target e = stored_plain target e
  assigned_plain p (Some x) target e = by (is_borrower s x) (is_observer s x)
    where
      by : (b c : Bool) → ArePlain (if b then index_acts s e ++ reborrow (target_pos p (written target)) x (source e) else (if c then source_acts s e (observe s x) else stored_acts s target e))
      by true c =
          both (index_acts s e) (reborrow (target_pos p (written target)) x (source e)) (index_plain e) (reborrow_plain (target_pos p (written target)) x (source e))
      by false true = source_plain e (observe s x) (observe_plain x)
      by false false = stored_plain target e

  returned_plain : (result : Option ℕ) (v : TypedTree) → ArePlain (returned_acts s result v)
  returned_plain result v = by (traverses s.table result)
    where
      by : (b : Bool) → ArePlain (if b then source_acts s (first v) (λ m. act.Give m (gives_variable s result)) else acts_in s v)
      by true = source_plain (first v) (λ m. act.Give m (gives_variable s result)) (λ m h k is. false≢true (ap is_borrow is))
      by false = value_plain v

  -- An object is declared as a borrower of a name.
  pub record IsBorrow (i : Instruction) (h : ℕ) (m : PlaceName) : Type 0 where
    pub value : TypedTree
    pub declares : i ≡ Declare h value
    pub borrows : is_borrower s h ≡ true
    pub from : Written
    pub source_is : source (first value) ≡ Some from
    pub name_is : from.name ≡ m

  borrow_named : (x : ℕ) (v : TypedTree) (h : ℕ) (m : PlaceName) → is_borrower s x ≡ true → (w : Option Written) → source (first v) ≡ w → (a : Placed) → Has (naming w (act.Borrow x)) a → a.act ≡ act.Borrow h m
      → IsBorrow (Declare x v) h m
  borrow_named x v h m borrows None source_is a has is = absurd has
  borrow_named x v h m borrows (Some w) source_is a (inr never) is = absurd never
  borrow_named x v h m borrows (Some w) source_is a (inl same) is =
      let both : act.Borrow x w.name ≡ act.Borrow h m = ap (λ (z : Placed). z.act) same ∙ is in
      let object : x ≡ h = cc in
      let name : w.name ≡ m = cc in
      record {
        value = v;
        declares = ap (λ z. Declare z v) object;
        borrows = ap (is_borrower s) (sym object) ∙ borrows;
        from = w;
        source_is = source_is;
        name_is = name;
      }

  borrow_declared : (x : ℕ) (v : TypedTree) (h : ℕ) (m : PlaceName) (a : Placed) → Has (declared_acts s x v) a → a.act ≡ act.Borrow h m → IsBorrow (Declare x v) h m
  borrow_declared x v h m a has is = by (is_borrower s x) refl (is_observer s x) has
    where
      by : (b : Bool) → is_borrower s x ≡ b → (c : Bool)
          → Has (if b then source_acts s (first v) (act.Borrow x) else (if c then source_acts s (first v) (observe s x) else acts_in s v)) a → IsBorrow (Declare x v) h m
      by true borrows c has = elim (Has-append_cases (index_acts s (first v)) (naming (source (first v)) (act.Borrow x)) a has) [
        | inl index ↦ absurd (index_plain (first v) a index h m is)
        | inr named ↦ borrow_named x v h m borrows (source (first v)) refl a named is
      ]
      by false plain true has = absurd (source_plain (first v) (observe s x) (observe_plain x) a has h m is)
      by false plain false has = absurd (value_plain v a has h m is)

  -- So an act that borrows is that of a declaration.
  pub borrow_is : (result : Option ℕ) (kept : List ℕ) (pos : Pos) (i : Instruction) (a : Placed) → Has (acts_of (record { typing = s; result = result; roots = kept }) pos i) a
      → (h : ℕ) (m : PlaceName) → a.act ≡ act.Borrow h m → IsBorrow i h m
  borrow_is result kept pos (Declare x v) a has h m is = borrow_declared x v h m a has is
  borrow_is result kept pos Skip a has h m is = absurd has
  borrow_is result kept pos (Assign target e) a has h m is = absurd (assigned_plain pos (whole target) target e a has h m is)
  borrow_is result kept pos (Call sub actuals temporary) a has h m is =
      absurd (both (actual_values s (passings s (sub_at s sub)) actuals) (actual_acts (passings s (sub_at s sub)) actuals) (values_plain (passings s (sub_at s sub)) actuals)
      (actuals_plain (passings s (sub_at s sub)) actuals) a has h m is)
  borrow_is result kept pos (Output text line) a has h m is = absurd (value_plain text a has h m is)
  borrow_is result kept pos (Input target) a has h m is = absurd (source_plain target (λ k. act.Actual k mode.Out false false) (λ k h n is. false≢true (ap is_borrow is)) a has h m is)
  borrow_is result kept pos (Release e) a has h m is = absurd (source_plain e act.Free (λ k h n is. false≢true (ap is_borrow is)) a has h m is)
  borrow_is result kept pos (Test e) a has h m is = absurd (value_plain e a has h m is)
  borrow_is result kept pos (Choose e choices) a has h m is = absurd (value_plain e a has h m is)
  borrow_is result kept pos (Start x reversed low high) a has h m is = absurd (both (acts_in s low) (acts_in s high) (value_plain low) (value_plain high) a has h m is)
  borrow_is result kept pos (Next x reversed low high) a has h m is = absurd has
  borrow_is result kept pos (Evaluate t e left) a has h m is = absurd (value_plain e a has h m is)
  borrow_is result kept pos (LeaveLoop e) a has h m is = absurd (value_plain e a has h m is)
  borrow_is result kept pos (Hold v) a has h m is = absurd (returned_plain result v a has h m is)
  borrow_is result kept pos (EndScope x) a has h m is = absurd (one (placed pos (act.EndScope x (is_borrower s x))) (λ k n same. false≢true (ap is_borrow same)) a has h m is)
  borrow_is result kept pos Finish a has h m is = absurd (one (placed pos (act.Return kept)) (λ k n same. false≢true (ap is_borrow same)) a has h m is)
  borrow_is result kept pos Fall a has h m is = absurd has
