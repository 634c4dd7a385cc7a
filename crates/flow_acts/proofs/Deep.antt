-- Names that are too deep.
use Rattle.std.proofs.Common.{◌≡◌, ℕ, Bool, true, false, ◌||◌, List, [], ◌∷◌, ◌++◌, map, flat_map, length, IsTrue, lt-ltb, refl, sym, ap, ◌∙◌, subst, arith, if◌then◌else◌}
use Rattle.std.specs.List.{list_any}
use Rattle.place_names.specs.declared.act.Act.TheVariants as act
use Rattle.place_names.specs.declared.act.Placed.{Placed}
use Rattle.place_names.specs.declared.fact.Fact.{Fact}
use Rattle.place_names.specs.declared.fact.Fact.TheVariants.{Moved}
use Rattle.place_names.specs.Facts.{place, adds}
use Rattle.std.proofs.lemmas.Grind.{common_steps}
use Rattle.spark_base.specs.declared.position.Pos.{Pos}
use Rattle.spark_base.specs.declared.limits.TheConstants.{SELECTORS}
use Rattle.place_names.specs.declared.selector.Sel.{Sel}
use Rattle.place_names.specs.Names.{Name, extend}
use Rattle.type_definitions.specs.Types.{is_owning, parts}
use Rattle.flow_paths.specs.Limits.{is_deep, act_name, act_names, name_at, name_pos, NameAt}
use Rattle.flow_paths.specs.Objects.{Typing}
use Rattle.flow_paths.specs.Acts.{used}
use Rattle.flow_paths.specs.Instructions.{Instruction}
use Rattle.flow_acts.specs.declared.plan.Doing.{Doing}
use Rattle.flow_acts.specs.declared.plan.Doing.TheVariants as doing
use Rattle.flow_acts.specs.Plans.{act_by}
use Rattle.flow_acts.specs.Depths.{is_deep_act, has_deep, deep_names}

-- A name that goes on after 16 selectors is too deep.
pub deep_step : (m n : Name) (s : Sel) (rest : List Sel) → length m.sels ≡ 16 → extend m (s ∷ rest) ≡ n → IsTrue (is_deep n)
deep_step m n s rest full is =
    subst (λ k. IsTrue (is_deep k)) is (lt-ltb SELECTORS (length (m.sels ++ s ∷ rest)) (grind (arith, common_steps, full)))

-- ---- acts

pub right_true : (a b : Bool) → IsTrue b → IsTrue (a || b)
right_true true b e = refl
right_true false b e = e

pub left_true : (a b : Bool) → IsTrue a → IsTrue (a || b)
left_true true b e = refl
left_true false b e = cc

same_twice : (b : Bool) → (b || b || false) ≡ b
same_twice true = refl
same_twice false = refl

both_false : (a b c : Bool) → (a || b) ≡ false → (b ≡ false → c ≡ false) → (a || c) ≡ false
both_false true b c e f = e
both_false false b c e f = f e

no_more : (b : Bool) → (b || false) ≡ b
no_more true = refl
no_more false = refl

used_name : (s : Typing) (m : Name) (t : ℕ) → act_name (used s m t) ≡ m
used_name s m t = by (is_owning s.table t)
  where
    by : (b : Bool) → act_name (if b then act.Move m (parts s.table t) else act.Read m) ≡ m
    by true = refl
    by false = refl

-- What is done to a name has that name.
by_name : (s : Typing) (d : Doing) (m : Name) → act_name (act_by s d m) ≡ m
by_name s (doing.Use of) m = used_name s m of
by_name s doing.Look m = refl
by_name s doing.Write m = refl
by_name s (doing.Borrow h) m = refl
by_name s (doing.Observe h) m = refl
by_name s (doing.Reborrow b) m = refl
by_name s (doing.Actual k owning access) m = refl
by_name s doing.Free m = refl
by_name s (doing.Give borrows) m = refl

-- An act on a name that is too deep is too deep.
pub deep_act : (s : Typing) (d : Doing) (m : Name) → IsTrue (is_deep m) → IsTrue (is_deep_act (act_by s d m))
deep_act s d m e =
    left_true (is_deep (act_name (act_by s d m))) (list_any (λ f. is_deep (place f)) (adds (act_by s d m)))
    (subst (λ k. IsTrue (is_deep k)) (sym (by_name s d m)) e)

-- The facts that a move adds are of the parts.
pub deep_parts : (m : Name) (parts : List (List Sel))
    → list_any (λ f. is_deep (place f)) (map (λ q. Moved (extend m q)) parts) ≡ list_any (λ q. is_deep (extend m q)) parts
deep_parts m [] = refl
deep_parts m (q ∷ parts) = ap (λ b. is_deep (extend m q) || b) (deep_parts m parts)

-- ---- lists of acts

-- One act more that isn't too deep.
pub deep_none : (acts : List Placed) (p : Placed) → has_deep acts ≡ false → is_deep_act p.act ≡ false → has_deep (acts ++ p ∷ []) ≡ false
deep_none [] p none one = no_more (is_deep_act p.act) ∙ one
deep_none (q ∷ acts) p none one =
    both_false (is_deep_act q.act) (has_deep acts) (has_deep (acts ++ p ∷ [])) none (λ is. deep_none acts p is one)

-- One act that is too deep.
pub deep_some : (acts rest all : List Placed) (p : Placed) → IsTrue (is_deep_act p.act) → acts ++ p ∷ rest ≡ all → IsTrue (has_deep all)
deep_some acts rest all p one is = subst (λ xs. IsTrue (has_deep xs)) is (within acts)
  where
    within : (acts : List Placed) → IsTrue (has_deep (acts ++ p ∷ rest))
    within [] = left_true (is_deep_act p.act) (has_deep rest) one
    within (q ∷ acts) = right_true (is_deep_act q.act) (has_deep (acts ++ p ∷ rest)) (within acts)

any_append : {A : Type 0} (f : A → Bool) (xs ys : List A) → list_any f (xs ++ ys) ≡ (list_any f xs || list_any f ys)
any_append f [] ys = refl
any_append f (x ∷ xs) ys = ap (λ b. f x || b) (any_append f xs ys) ∙ or_assoc (f x) (list_any f xs) (list_any f ys)
  where
    or_assoc : (a b c : Bool) → (a || (b || c)) ≡ ((a || b) || c)
    or_assoc true b c = refl
    or_assoc false b c = refl

any_names : (p : Pos) (ms : List Name) → list_any (λ (n : NameAt). is_deep n.name) (map (name_at p) ms) ≡ list_any is_deep ms
any_names p [] = refl
any_names p (m ∷ ms) = ap (λ b. is_deep m || b) (any_names p ms)

any_places : (fs : List Fact) → list_any is_deep (map place fs) ≡ list_any (λ f. is_deep (place f)) fs
any_places [] = refl
any_places (f ∷ fs) = ap (λ b. is_deep (place f) || b) (any_places fs)

one_act : (i : Instruction) (p : Placed) → list_any (λ (n : NameAt). is_deep n.name) (act_names i p) ≡ is_deep_act p.act
one_act i p =
    any_names (name_pos i p p.act) (act_name p.act ∷ map place (adds p.act))
    ∙ ap (λ b. is_deep (act_name p.act) || b) (any_places (adds p.act))

-- The names of acts, one by one.
pub deep_names_is : (i : Instruction) (acts : List Placed) → deep_names i acts ≡ has_deep acts
deep_names_is i [] = refl
deep_names_is i (p ∷ acts) =
    any_append (λ (n : NameAt). is_deep n.name) (act_names i p) (flat_map (act_names i) acts)
    ∙ ap (λ b. b || deep_names i acts) (one_act i p)
    ∙ ap (λ b. is_deep_act p.act || b) (deep_names_is i acts)
