-- Loans end where scopes end, and nowhere else. Other acts of an instruction that calls nothing read or
-- write what they name, or give a borrower another place.
use Rattle.soundness.proofs.Lists.{Has-append_right}
use Rattle.std.proofs.Common.{◌≡◌, refl, sym, ap, ◌∙◌, subst, inl, inr, ℕ, Bool, true, false, not, List, [], ◌∷◌, ◌++◌, Option, Some, None, if◌then◌else◌}
use Rattle.std.proofs.lemmas.Bool.{true≢false}
use Rattle.machine.specs.spark_base.Lists.{Has}
use Rattle.machine.specs.spark_base.declared.position.Pos.{Pos}
use Rattle.machine.specs.place_names.declared.act.Act.{Act}
use Rattle.machine.specs.place_names.declared.act.Act.TheVariants as act
use Rattle.machine.specs.place_names.declared.act.Mode.TheVariants as mode
use Rattle.machine.specs.place_names.declared.act.Placed.{Placed}
use Rattle.machine.specs.place_names.declared.fact.Fact.{Fact}
use Rattle.machine.specs.place_names.declared.fact.Fact.TheVariants.{Lent}
use Rattle.machine.specs.place_names.declared.rule.Loan.{Loan}
use Rattle.machine.specs.place_names.Names.{Name as PlaceName}
use Rattle.machine.specs.place_names.Facts.{removes, effect}
use Rattle.machine.specs.type_definitions.Types.{is_owning, parts}
use Rattle.machine.specs.typed_tree.Trees.{TypedTree, Number, Literal, Text, Name, Component, Designated, Element, Call, EndOfFile, Parens, Image, Unary, Binary, Short, IsNull, Aggregate, Alike, New, NoMore, More}
use Rattle.machine.specs.typed_tree.Trees as typed
use Rattle.machine.specs.flow_paths.Instructions.{Instruction, Skip, Declare, Assign, Output, Input, Release, Test, Choose, Start, Next, Evaluate, LeaveLoop, Hold, EndScope, Finish, Fall}
use Rattle.machine.specs.flow_paths.Instructions as instruction
use Rattle.machine.specs.flow_paths.Objects.{Typing, is_borrower, is_observer, traverses, is_package_object}
use Rattle.machine.specs.flow_paths.Names.{Written, has_call, name_of, written, first, source, whole}
use Rattle.machine.specs.flow_paths.Acts.{Frame, placed, naming, used, acts_in, index_acts, source_acts, observe, declared_acts, reborrow, target_pos, stored_acts, assigned_to, returned_acts, gives_variable, acts_of}
use Rattle.soundness.specs.OwnedWays.Ways.{after}
use Rattle.soundness.proofs.OwnedWays.Assigned.{kept_fact}
use Rattle.soundness.specs.Sound.{IsNoCall}
use Rattle.soundness.proofs.Scalars.{acts, acts_append}

-- An act ends a scope or a call, is that of a call, gives a place to what is no borrower, or a package object
-- to a caller that may write it.
abbrev pub ends : Typing → Act → Bool
ends s (act.EndScope x borrower) = true
ends s (act.Return roots) = true
ends s (act.Global g written) = true
ends s (act.Reborrow b m) = not (is_borrower s b)
ends s (act.Give m true) = is_package_object s m.root
ends s _ = false

-- other acts end no loan
spares_loan : (s : Typing) (a : Act) → ends s a ≡ false → (l : Loan) (h : ℕ) (n : PlaceName) → removes a (Lent l h n) ≡ false
spares_loan s (act.Read m) e l h n = refl
spares_loan s (act.Look m) e l h n = refl
spares_loan s (act.Write k) e l h n = refl
spares_loan s (act.Move m parts) e l h n = refl
spares_loan s (act.Borrow b m) e l h n = refl
spares_loan s (act.Observe b m from) e l h n = refl
spares_loan s (act.Reborrow b m) e l h n = refl
spares_loan s (act.EndScope x borrower) e l h n = absurd (true≢false e)
spares_loan s (act.Return roots) e l h n = refl
spares_loan s (act.Actual m mode.In owning access) e l h n = refl
spares_loan s (act.Actual m mode.Out owning access) e l h n = refl
spares_loan s (act.Actual m mode.InOut owning access) e l h n = refl
spares_loan s (act.Global g written) e l h n = refl
spares_loan s (act.Free k) e l h n = refl
spares_loan s (act.Give m borrows) e l h n = refl

-- No act in a list does.
abbrev pub Spare : Typing → List Placed → Type 0
Spare s [] = Unit {0}
Spare s (a ∷ rest) = (ends s a.act ≡ false) × Spare s rest

pub spare_has : (s : Typing) (ps : List Placed) → Spare s ps → (a : Placed) → Has ps a → ends s a.act ≡ false
spare_has s [] spare a has = absurd has
spare_has s (p ∷ ps) spare a (inl e) = ap (λ (z : Placed). ends s z.act) (sym e) ∙ spare.0
spare_has s (p ∷ ps) spare a (inr has) = spare_has s ps spare.1 a has

pub spare_both : (s : Typing) (a b : List Placed) → Spare s a → Spare s b → Spare s (a ++ b)
spare_both s [] b x y = y
spare_both s (p ∷ a) b (e, x) y = (e, spare_both s a b x y)

pub loans_stay : (s : Typing) (done : List Placed) → Spare s done → (facts : List Fact) (l : Loan) (h : ℕ) (n : PlaceName) → Has facts (Lent l h n) → Has (after (acts done) facts) (Lent l h n)
loans_stay s [] x facts l h n has = has
loans_stay s (a ∷ done) (e, x) facts l h n has =
    loans_stay s done x (effect a.act facts) l h n (kept_fact a.act facts (Lent l h n) has (spares_loan s a.act e l h n))

-- ---- expressions

pub spare_naming : (s : Typing) (w : Option Written) (a : PlaceName → Act) → ((n : PlaceName) → ends s (a n) ≡ false) → Spare s (naming w a)
spare_naming s None a e = tt
spare_naming s (Some w) a e = (e w.name, tt)

module _ (s : Typing) where
  spare_used : (n : PlaceName) (t : ℕ) → ends s (used s n t) ≡ false
  spare_used n t = by_kind (is_owning s.table t)
    where
      by_kind : (b : Bool) → ends s (if b then act.Move n (parts s.table t) else act.Read n) ≡ false
      by_kind true = refl
      by_kind false = refl

  pub spare_in : (e : TypedTree) → Spare s (acts_in s e)
  unfolding acts_in
  spare_in (Name p x steps t) = spare_both s (acts_in s steps) (placed p (used s (name_of x steps) t) ∷ []) (spare_in steps) (spare_used (name_of x steps) t, tt)
  spare_in (Component i rest) = spare_in rest
  spare_in (Designated rest) = spare_in rest
  spare_in (Element index low high rest) = spare_both s (acts_in s index) (acts_in s rest) (spare_in index) (spare_in rest)
  spare_in (IsNull equal (Name p x steps t)) = spare_both s (acts_in s steps) (placed p (act.Look (name_of x steps)) ∷ []) (spare_in steps) (refl, tt)
  spare_in (IsNull equal (Number v)) = tt
  spare_in (IsNull equal (Literal n)) = tt
  spare_in (IsNull equal (Text b)) = tt
  spare_in (IsNull equal typed.Null) = tt
  spare_in (IsNull equal (Component i rest)) = tt
  spare_in (IsNull equal (Designated rest)) = tt
  spare_in (IsNull equal (Element index low high rest)) = tt
  spare_in (IsNull equal (Call p sub actuals)) = tt
  spare_in (IsNull equal EndOfFile) = tt
  spare_in (IsNull equal (Image t e)) = tt
  spare_in (IsNull equal (Parens e)) = tt
  spare_in (IsNull equal (Unary op e)) = tt
  spare_in (IsNull equal (Binary op a b)) = tt
  spare_in (IsNull equal (Short op p a q b)) = tt
  spare_in (IsNull equal (IsNull again e)) = tt
  spare_in (IsNull equal (Aggregate t es)) = tt
  spare_in (IsNull equal (Alike t e)) = tt
  spare_in (IsNull equal (New t v)) = tt
  spare_in (IsNull equal NoMore) = tt
  spare_in (IsNull equal (More e rest)) = tt
  spare_in (Short op p a q b) = by_call (has_call b) (spare_in a) (spare_in b)
    where
      by_call : (c : Bool) → Spare s (acts_in s a) → Spare s (acts_in s b) → Spare s (if c then [] else acts_in s a ++ acts_in s b)
      by_call true x y = tt
      by_call false x y = spare_both s (acts_in s a) (acts_in s b) x y
  spare_in (Call p sub actuals) = tt
  spare_in (Image t e) = spare_in e
  spare_in (Parens e) = spare_in e
  spare_in (Unary op e) = spare_in e
  spare_in (Binary op a b) = spare_both s (acts_in s a) (acts_in s b) (spare_in a) (spare_in b)
  spare_in (Aggregate t es) = spare_in es
  spare_in (Alike t e) = spare_in e
  spare_in (New t v) = spare_in v
  spare_in (More e rest) = spare_both s (acts_in s e) (acts_in s rest) (spare_in e) (spare_in rest)
  spare_in (Number v) = tt
  spare_in (Literal n) = tt
  spare_in (Text b) = tt
  spare_in typed.Null = tt
  spare_in EndOfFile = tt
  spare_in NoMore = tt

  spare_index : (e : TypedTree) → Spare s (index_acts s e)
  spare_index (Name p x steps t) = spare_in steps
  spare_index (Number v) = tt
  spare_index (Literal n) = tt
  spare_index (Text b) = tt
  spare_index typed.Null = tt
  spare_index (Component i rest) = tt
  spare_index (Designated rest) = tt
  spare_index (Element index low high rest) = tt
  spare_index (Call p sub actuals) = tt
  spare_index EndOfFile = tt
  spare_index (Image t e) = tt
  spare_index (Parens e) = tt
  spare_index (Unary op e) = tt
  spare_index (Binary op a b) = tt
  spare_index (Short op p a q b) = tt
  spare_index (IsNull equal e) = tt
  spare_index (Aggregate t es) = tt
  spare_index (Alike t e) = tt
  spare_index (New t v) = tt
  spare_index NoMore = tt
  spare_index (More e rest) = tt

  spare_source : (e : TypedTree) (a : PlaceName → Act) → ((n : PlaceName) → ends s (a n) ≡ false) → Spare s (source_acts s e a)
  spare_source e a none = spare_both s (index_acts s e) (naming (source e) a) (spare_index e) (spare_naming s (source e) a none)

  spare_stored : (target e : TypedTree) → Spare s (stored_acts s target e)
  spare_stored target e =
      spare_both s (acts_in s e ++ index_acts s target) (naming (written target) act.Write)
      (spare_both s (acts_in s e) (index_acts s target) (spare_in e) (spare_index target)) (spare_naming s (written target) act.Write (λ n. refl))

  spare_declared : (x : ℕ) (v : TypedTree) → Spare s (declared_acts s x v)
  spare_declared x v = by_kind (is_borrower s x) (is_observer s x)
    where
      by_kind : (b c : Bool) → Spare s (if b then source_acts s (first v) (act.Borrow x) else (if c then source_acts s (first v) (observe s x) else acts_in s v))
      by_kind true c = spare_source (first v) (act.Borrow x) (λ n. refl)
      by_kind false true = spare_source (first v) (observe s x) (λ n. refl)
      by_kind false false = spare_in v

  spare_reborrow : (p : Pos) (b : ℕ) (w : Option Written) → is_borrower s b ≡ true → Spare s (reborrow p b w)
  spare_reborrow p b None is = tt
  spare_reborrow p b (Some m) is = (ap not is, tt)

  spare_assigned : (p : Pos) (o : Option ℕ) (target e : TypedTree) → Spare s (assigned_to s p o target e)
  spare_assigned p None target e = spare_stored target e
  spare_assigned p (Some x) target e = by_kind (is_borrower s x) (is_observer s x) refl
    where
      by_kind : (b c : Bool) → is_borrower s x ≡ b → Spare s (if b then index_acts s e ++ reborrow (target_pos p (written target)) x (source e)
          else (if c then source_acts s e (observe s x) else stored_acts s target e))
      by_kind true c is =
          spare_both s (index_acts s e) (reborrow (target_pos p (written target)) x (source e)) (spare_index e)
          (spare_reborrow (target_pos p (written target)) x (source e) is)
      by_kind false true is = spare_source e (observe s x) (λ n. refl)
      by_kind false false is = spare_stored target e

  -- what is given belongs to no package
  abbrev pub GivesOwn : List Placed → Type 0
  GivesOwn ps = (m : PlaceName) (b : Bool) → Has (acts ps) (act.Give m b) → is_package_object s m.root ≡ false

  spare_given : (b : Bool) (w : Option Written) → GivesOwn (naming w (λ m. act.Give m b)) → Spare s (naming w (λ m. act.Give m b))
  spare_given b None own = tt
  spare_given true (Some w) own = (own w.name true (inl refl), tt)
  spare_given false (Some w) own = (refl, tt)

  spare_returned : (result : Option ℕ) (v : TypedTree) → GivesOwn (returned_acts s result v) → Spare s (returned_acts s result v)
  spare_returned result v = by_kind (traverses s.table result)
    where
      by_kind : (c : Bool) → GivesOwn (if c then source_acts s (first v) (λ m. act.Give m (gives_variable s result)) else acts_in s v)
          → Spare s (if c then source_acts s (first v) (λ m. act.Give m (gives_variable s result)) else acts_in s v)
      by_kind false own = spare_in v
      by_kind true own =
          spare_both s (index_acts s (first v)) (naming (source (first v)) (λ m. act.Give m (gives_variable s result))) (spare_index (first v))
          (spare_given (gives_variable s result) (source (first v)) (λ m b has. own m b
          (subst (λ z. Has z (act.Give m b)) (sym (acts_append (index_acts s (first v)) (naming (source (first v)) (λ m. act.Give m (gives_variable s result)))))
          (Has-append_right (acts (index_acts s (first v))) (acts (naming (source (first v)) (λ m. act.Give m (gives_variable s result)))) (act.Give m b) has))))

-- an instruction that is no call and isn't the end of a scope or of a call has none such, if what it gives
-- belongs to no package
pub spare_acts : (f : Frame) (p : Pos) (i : Instruction) → GivesOwn f.typing (acts_of f p i) → IsNoCall i → ((x : ℕ) → i ≡ EndScope x → ⊥) → (i ≡ Finish → ⊥)
    → Spare f.typing (acts_of f p i)
spare_acts f p Skip plain calls going end = tt
spare_acts f p (Declare x v) plain calls going end = spare_declared f.typing x v
spare_acts f p (Assign target e) plain calls going end = spare_assigned f.typing p (whole target) target e
spare_acts f p (instruction.Call sub actuals result) plain calls going end = absurd (calls sub actuals result refl)
spare_acts f p (Output text line) plain calls going end = spare_in f.typing text
spare_acts f p (Input target) plain calls going end = spare_source f.typing target (λ m. act.Actual m mode.Out false false) (λ n. refl)
spare_acts f p (Release m) plain calls going end = spare_source f.typing m act.Free (λ n. refl)
spare_acts f p (Test e) plain calls going end = spare_in f.typing e
spare_acts f p (Choose e choices) plain calls going end = spare_in f.typing e
spare_acts f p (Start x reversed low high) plain calls going end = spare_both f.typing (acts_in f.typing low) (acts_in f.typing high) (spare_in f.typing low) (spare_in f.typing high)
spare_acts f p (Next x reversed low high) plain calls going end = tt
spare_acts f p (Evaluate t e left) plain calls going end = spare_in f.typing e
spare_acts f p (LeaveLoop e) plain calls going end = spare_in f.typing e
spare_acts f p (Hold v) plain calls going end = spare_returned f.typing f.result v plain
spare_acts f p (EndScope x) plain calls going end = absurd (going x refl)
spare_acts f p Finish plain calls going end = absurd (end refl)
spare_acts f p Fall plain calls going end = tt
