-- What spreads to callers is what chains of calls end at.
use Rattle.std.proofs.Common.{◌≡◌, ◌≢◌, refl, sym, ap, ◌∙◌, subst, inl, inr, ℕ, zero, suc, ◌+◌, ◌<◌, Bool, true, false, ◌||◌, List, [], ◌∷◌, map, length, get_or, None, arith}
use Rattle.std.specs.List.{list_any}
use Rattle.place_names.proofs.Names.{both_parts, both_true}
use Rattle.spark_base.specs.Lists.{Has}
use Rattle.label_flow.specs.Flows.{Reaches, starts, moves}
use Rattle.label_flow.proofs.Worklist.{all_found}
use Rattle.typed_tree.specs.Trees.{TypedTree, TypedCode}
use Rattle.typed_tree.specs.Nodes.{TypedNodes}
use Rattle.flow_paths.specs.declared.instr.Instr.{Instr}
use Rattle.flow_paths.specs.declared.instr.Instr.TheVariants as instr
use Rattle.flow_paths.specs.declared.point.Point.{Point}
use Rattle.flow_paths.specs.declared.point.LaidSub.{LaidSub}
use Rattle.flow_paths.specs.Instructions.{instruction_of}
use Rattle.flow_paths.specs.Stands.{flow_point_of, flow_sub_of}
use Rattle.flow_paths.specs.Laid.{FlowSub, flow_typing}
use Rattle.flow_paths.specs.Effects.{calls, sub_calls, flow_sub_at, CallChain, ends, calls_on, is_in, is_global, Ascends}
use Rattle.laid_program.specs.declared.laid.Laid.{Laid}
use Rattle.laid_program.specs.Programs.{program_of}
use Rattle.call_effects.specs.Uses.{points_use, own_uses, Uses, points_at, laid_uses, laid_calls, instr_calls}
use Rattle.call_effects.specs.Rows.{row, AreEmpty}
use Rattle.call_effects.specs.Spreads.{flow_of, found, SearchedFor, AreUpTo, Spreading, AreUsers, AreUsersOf, AreCallers, AreOrdered, AreListed, ListsMore}
use Rattle.call_effects.proofs.Filed.{same_or_not}
use Rattle.call_effects.proofs.Spreading.{in_has, has_in}

-- ---- points as code has them

any_map : {A B : Type 0} (f : B → Bool) (h : A → B) (xs : List A) → list_any f (map h xs) ≡ list_any (λ x. f (h x)) xs
any_map f h [] = refl
any_map f h (x ∷ xs) = ap (λ b. f (h x) || b) (any_map f h xs)

any_same : {A : Type 0} (f h : A → Bool) → ((x : A) → f x ≡ h x) → (xs : List A) → list_any f xs ≡ list_any h xs
any_same f h same [] = refl
any_same f h same (x ∷ xs) = ap (λ b. b || list_any f xs) (same x) ∙ ap (λ b. h x || b) (any_same f h same xs)

text_in : (rows : TypedNodes) (subs : List LaidSub) (p : ℕ) (none : FlowSub) → none.points ≡ []
    → (get_or (map (flow_sub_of rows) subs) p none).points ≡ map (flow_point_of rows) (points_at subs p)
text_in rows [] p none e = e
text_in rows (x ∷ subs) zero none e = refl
text_in rows (x ∷ subs) (suc p) none e = text_in rows subs p none e

text_is : (laid : Laid) (p : ℕ) → (flow_sub_at (program_of laid) p).points ≡ map (flow_point_of laid.rows) (points_at laid.subs p)
text_is laid p = text_in laid.rows laid.subs p
    (record { pos = record { file = 0; line = 1; column = 1 }; words = 1; formals = []; result = None; points = []; facts = [] }) refl

uses_is : (w : Bool) (laid : Laid) (g p : ℕ)
    → points_use w g (flow_sub_at (program_of laid) p).points ≡ list_any (laid_uses w laid.rows g) (points_at laid.subs p)
uses_is w laid g p = ap (points_use w g) (text_is laid p) ∙ any_map _ (flow_point_of laid.rows) (points_at laid.subs p)

call_is : (tree : ℕ → TypedTree) (code : ℕ → TypedCode) (q : ℕ) (i : Instr) → calls q (instruction_of tree code i) ≡ instr_calls q i
call_is tree code q instr.Skip = refl
call_is tree code q (instr.Declare x v) = refl
call_is tree code q (instr.Assign target source) = refl
call_is tree code q (instr.Call sub actuals result) = refl
call_is tree code q (instr.Output text line) = refl
call_is tree code q (instr.Input target) = refl
call_is tree code q (instr.Release m) = refl
call_is tree code q (instr.Test e) = refl
call_is tree code q (instr.Choose e choices) = refl
call_is tree code q (instr.Start x reversed low high) = refl
call_is tree code q (instr.Next x reversed low high) = refl
call_is tree code q (instr.Evaluate t e left) = refl
call_is tree code q (instr.LeaveLoop e) = refl
call_is tree code q (instr.Hold v) = refl
call_is tree code q (instr.EndScope x) = refl
call_is tree code q instr.Finish = refl
call_is tree code q instr.Fall = refl

calls_is : (laid : Laid) (p q : ℕ) → sub_calls (flow_sub_at (program_of laid) p) q ≡ list_any (laid_calls q) (points_at laid.subs p)
calls_is laid p q =
    ap (list_any (λ pt. calls q pt.instr)) (text_is laid p)
    ∙ any_map (λ pt. calls q pt.instr) (flow_point_of laid.rows) (points_at laid.subs p)
    ∙ any_same (λ pt. calls q (flow_point_of laid.rows pt).instr) (laid_calls q) (λ pt. call_is _ _ q pt.instr) (points_at laid.subs p)

-- a subprogram with a point of some kind is there
point_there : (f : Point → Bool) (subs : List LaidSub) (p : ℕ) → list_any f (points_at subs p) ≡ true → p < length subs
point_there f [] p e = cc
point_there f (x ∷ subs) zero e = omega arith
point_there f (x ∷ subs) (suc p) e = (let rest = point_there f subs p e in omega arith)

-- ---- the search and the chains

reaches_uses : (w : Bool) (laid : Laid) (g : ℕ) (callers : List (List ℕ)) (users : List ℕ) → AreCallers laid.subs callers
    → AreUsers w laid.rows laid.subs g users → is_global (flow_typing (program_of laid)) g ≡ true
    → (a : ℕ) (k : Unit {0}) → Reaches (flow_of callers (λ a. is_in a users)) a k → Uses w (program_of laid) a g
reaches_uses w laid g callers users cs us global a' k' (starts a k first) = record {
  last = a;
  chain = ends a;
  own = both_true (is_global (flow_typing (program_of laid)) g) (points_use w g (flow_sub_at (program_of laid) a).points) global
      (uses_is w laid g a ∙ us.only a (in_has a users first));
}
reaches_uses w laid g callers users cs us global a' k' (moves a b k r edge) =
    let u = reaches_uses w laid g callers users cs us global a k r in
    record {
      last = u.last;
      chain = calls_on b a u.last (calls_is laid b a ∙ (cs.only b a edge).1) u.chain;
      own = u.own;
    }

-- a subprogram on a chain to a use is there
chain_there : (w : Bool) (laid : Laid) (g q last : ℕ) → CallChain (program_of laid) q last → own_uses w (program_of laid) last g ≡ true
    → q < length laid.subs
chain_there w laid g q' last' (ends q) own =
    point_there (laid_uses w laid.rows g) laid.subs q (sym (uses_is w laid g q) ∙ (both_parts _ _ own).1)
chain_there w laid g q' last' (calls_on q r last edge chain) own =
    point_there (laid_calls r) laid.subs q (sym (calls_is laid q r) ∙ edge)

chain_reaches : (w : Bool) (laid : Laid) (g : ℕ) (callers : List (List ℕ)) (users : List ℕ) → AreCallers laid.subs callers
    → AreUsers w laid.rows laid.subs g users → (p last : ℕ) → CallChain (program_of laid) p last → own_uses w (program_of laid) last g ≡ true
    → Reaches (flow_of callers (λ a. is_in a users)) p tt
chain_reaches w laid g callers users cs us p' last' (ends p) own =
    let text = sym (uses_is w laid g p) ∙ (both_parts _ _ own).1 in
    starts p tt (has_in p users (us.all p (point_there (laid_uses w laid.rows g) laid.subs p text) text))
chain_reaches w laid g callers users cs us p' last' (calls_on p q last edge chain) own =
    let text = sym (calls_is laid p q) ∙ edge in
    moves q p tt (chain_reaches w laid g callers users cs us q last chain own)
    (cs.comes p q (point_there (laid_calls q) laid.subs p text) (chain_there w laid g q last chain own) text)

-- ---- the lists, one object more

below_more : (g x : ℕ) → x < g + 1 → x ≢ g → x < g
below_more g x h ne = omega arith

pub ordered_kept : (count g : ℕ) (lists : List (List ℕ)) → AreOrdered count g lists → AreOrdered count (g + 1) lists
ordered_kept count g lists o = record {
  sized = o.sized;
  order = o.order;
  below = λ a x h. (let b = o.below a x h in omega arith);
}

pub ordered_upto : (count g : ℕ) (lists : List (List ℕ)) → AreOrdered count g lists → AreUpTo g lists
ordered_upto count g lists o = record {
  order = o.order;
  upto = λ a x h. (let b = o.below a x h in omega arith);
}

pub ordered_fresh : (count g : ℕ) (lists : List (List ℕ)) → AreOrdered count g lists → (a : ℕ) → Has (row lists a) g → ⊥
ordered_fresh count g lists o a h = (let b = o.below a g h in absurd (omega arith))

pub ordered_more : (count g : ℕ) (old new : List (List ℕ)) → AreOrdered count g old → Spreading g old new [] → AreOrdered count (g + 1) new
ordered_more count g old new o s = record {
  sized = s.adds.count ∙ o.sized;
  order = s.upto.order;
  below = λ a x h. (let b = s.upto.upto a x h in omega arith);
}

-- an object that is global
pub listed_more : (w : Bool) (laid : Laid) (g : ℕ) (callers : List (List ℕ)) (users : List ℕ) (old new : List (List ℕ)) → AreCallers laid.subs callers
    → is_global (flow_typing (program_of laid)) g ≡ true → Spreading g old new [] → SearchedFor callers (λ a. is_in a users) g new []
    → AreUsers w laid.rows laid.subs g users → AreListed w (program_of laid) g old → AreListed w (program_of laid) (g + 1) new
listed_more w laid g callers users old new cs global s found_ us l = record {
  only = λ a x h. elim (s.adds.only a x h) [
    | inl was ↦ l.only a x was
    | inr is ↦ subst (Uses w (program_of laid) a) (sym is)
        (reaches_uses w laid g callers users cs us global a tt (found_.sound a tt (subst (Has (row new a)) is h)))
  ];
  all = λ a x lt u. elim (same_or_not x g) [
    | inl is ↦ subst (Has (row new a)) (sym is) (all_found (flow_of callers (λ a. is_in a users)) (found g new) found_ a tt
        (let v = subst (Uses w (program_of laid) a) is u in chain_reaches w laid g callers users cs us a v.last v.chain v.own))
    | inr ne ↦ s.adds.keeps a x (l.all a x (below_more g x lt ne) u)
  ];
}

pub listed_object : (laid : Laid) (g object : ℕ) (callers : List (List ℕ)) (users : List ℕ) (old new : List (List ℕ)) → object ≡ g → AreCallers laid.subs callers
    → is_global (flow_typing (program_of laid)) object ≡ true → Spreading object old new [] → SearchedFor callers (λ a. is_in a users) object new []
    → ListsMore laid g users old new
listed_object laid g object callers users old new e cs global s found_ w us l = listed_more w laid g callers users old new cs
    (subst (λ x. is_global (flow_typing (program_of laid)) x ≡ true) e global) (subst (λ x. Spreading x old new []) e s)
    (subst (λ x. SearchedFor callers (λ a. is_in a users) x new []) e found_) us l

-- one that isn't
pub listed_kept : (w : Bool) (laid : Laid) (g : ℕ) (lists : List (List ℕ)) → is_global (flow_typing (program_of laid)) g ≡ false
    → AreListed w (program_of laid) g lists → AreListed w (program_of laid) (g + 1) lists
listed_kept w laid g lists local l = record {
  only = l.only;
  all = λ a x lt u. elim (same_or_not x g) [
    | inl is ↦ absurd (
        let v = subst (Uses w (program_of laid) a) is u in
        true_false (sym (both_parts _ _ v.own).0 ∙ local))
    | inr ne ↦ l.all a x (below_more g x lt ne) u
  ];
}
  where
    true_false : true ≡ false → ⊥
    true_false e = cc

pub ordered_none : (count : ℕ) (lists : List (List ℕ)) → AreEmpty count lists → AreOrdered count 0 lists
ordered_none count lists e = record {
  sized = e.count;
  order = λ a. subst Ascends (sym (e.none a)) tt;
  below = λ a x h. absurd (subst (λ r. Has r x) (e.none a) h);
}

pub listed_none : (w : Bool) (laid : Laid) (count : ℕ) (lists : List (List ℕ)) → AreEmpty count lists → AreListed w (program_of laid) 0 lists
listed_none w laid count lists e = record {
  only = λ a x h. absurd (subst (λ r. Has r x) (e.none a) h);
  all = λ a x lt. absurd (omega arith);
}

-- a row of marks
pub users_within : (laid : Laid) (size g : ℕ) (w : Bool) (users : List (List ℕ))
    → AreUsersOf w laid.rows size laid.subs users
    → (p : ℕ) → Has (row users g) p → p < length laid.subs
users_within laid size g w users m p h = (m.only p g h).0

pub users_of : (w : Bool) (laid : Laid) (size g : ℕ) (users : List (List ℕ)) → g < size
    → AreUsersOf w laid.rows size laid.subs users
    → AreUsers w laid.rows laid.subs g (row users g)
users_of w laid size g users h m = record {
  all = λ p lt e. m.comes p g lt h e;
  only = λ p has. (m.only p g has).1;
}
