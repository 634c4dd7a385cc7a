-- What the points have that use an expression.
use Rattle.std.proofs.Common.{◌≡◌, ℕ, Bool, true, false, ◌||◌, [], ◌∷◌, ◌++◌, length, refl, sym, ap, ◌∙◌, length-append, Option, Some, None}
use Rattle.std.specs.Prelude.{if◌then◌else◌}
use Rattle.spark_base.specs.declared.position.Pos.{Pos}
use Rattle.place_names.specs.declared.selector.Sel.TheVariants as sel
use Rattle.place_names.specs.declared.act.Act.{Act}
use Rattle.place_names.specs.declared.act.Act.TheVariants as act
use Rattle.place_names.specs.declared.act.Mode.TheVariants as mode
use Rattle.place_names.specs.Names.{Name as PlaceName, extend}
use Rattle.type_definitions.specs.Types.{parts}
use Rattle.typed_tree.specs.Trees.{TypedTree, Number, Literal, Null, Text, Name, Component, Designated, Element, Call, EndOfFile, Image, Parens, Unary, Binary, Short, IsNull, Aggregate, Alike, New, NoMore, More}
use Rattle.flow_paths.specs.Instructions.{Instruction, Assign, Input, Release}
use Rattle.flow_paths.specs.Objects.{Typing, is_borrower, is_observer, traverses, designated}
use Rattle.flow_paths.specs.Names.{Written, written, first, source, whole}
use Rattle.flow_paths.specs.Acts.{Frame, naming, index_acts, acts_in, source_acts, observe, declared_acts, before_write, stored_acts, reborrow, target_pos, whole_acts, assigned_to, returned_acts, gives_variable, spots_at, designated_spots}
use Rattle.flow_paths.specs.Limits.{written_pos}
use Rattle.deep_names.specs.Found.{earlier_of, written_deep, parts_deep, freed_deep}
use Rattle.deep_names.specs.Trees.{depths_in}
use Rattle.deep_names.specs.Statements.{source_deep, first_source_deep, declared_deep, returned_deep, stored_deep, lent_deep, written_over_deep, assigned_deep, released_deep}
use Rattle.deep_names.proofs.Earlier.{earlier_none, earlier_swap, earlier_group, earlier_four, earlier_again}
use Rattle.deep_names.proofs.DeepNames.{deep_one, deep_twice}
use Rattle.deep_names.proofs.Acts.{acts_deep, acts_append, Plain, naming_deep, leaks_deep, spots_found, spots_names, instruction_deep}
use Rattle.deep_names.proofs.TreeNames.{tree_facts}

-- ---- acts on one name

borrows : (i : Instruction) (h : ℕ) → Plain i (act.Borrow h)
borrows i h p m = deep_twice p m

observed : (i : Instruction) (h : ℕ) (b : Bool) → Plain i (λ m. act.Observe h m b)
observed i h true p m = deep_one p m
observed i h false p m = deep_twice p m

observes : (i : Instruction) (s : Typing) (h : ℕ) → Plain i (observe s h)
observes i s h p m = observed i h (is_observer s m.root) p m

-- ---- sources

pub source_whole : (s : Typing) (i : Instruction) (a : PlaceName → Act) (e : TypedTree) → Plain i a
    → earlier_of (depths_in s e).before (acts_deep i (source_acts s e a)) ≡ source_deep s e
source_whole s i a e plain =
    let b : Option Pos = (depths_in s e).before in
    let x : Option Pos = acts_deep i (index_acts s e) in
    ap (earlier_of b) (acts_append i (index_acts s e) (naming (source e) a) ∙ ap (earlier_of x) (naming_deep i a (source e) plain))
    ∙ sym (earlier_group b x (written_deep (source e)))
    ∙ ap (λ y. earlier_of y (written_deep (source e))) ((tree_facts s e).indexes i)

-- What comes before a list has what comes before its first one.
pair_first : (a b : Option Pos) → earlier_of (earlier_of a b) a ≡ earlier_of a b
pair_first a b = earlier_swap (earlier_of a b) a ∙ earlier_again a b

first_before : (s : Typing) (v : TypedTree) → earlier_of (depths_in s v).before (depths_in s (first v)).before ≡ (depths_in s v).before
unfolding depths_in
first_before s (More a b) = pair_first (depths_in s a).before (depths_in s b).before
first_before s (Number v) = earlier_none (depths_in s (Number v)).before
first_before s (Literal v) = earlier_none (depths_in s (Literal v)).before
first_before s Null = earlier_none (depths_in s Null).before
first_before s (Text v) = earlier_none (depths_in s (Text v)).before
first_before s (Name p x e t) = earlier_none (depths_in s (Name p x e t)).before
first_before s (Component i e) = earlier_none (depths_in s (Component i e)).before
first_before s (Designated e) = earlier_none (depths_in s (Designated e)).before
first_before s (Element a low high b) = earlier_none (depths_in s (Element a low high b)).before
first_before s (Call p f a) = earlier_none (depths_in s (Call p f a)).before
first_before s EndOfFile = earlier_none (depths_in s EndOfFile).before
first_before s (Parens e) = earlier_none (depths_in s (Parens e)).before
first_before s (Image t e) = earlier_none (depths_in s (Image t e)).before
first_before s (Unary op e) = earlier_none (depths_in s (Unary op e)).before
first_before s (Binary op a b) = earlier_none (depths_in s (Binary op a b)).before
first_before s (Short op p a q b) = earlier_none (depths_in s (Short op p a q b)).before
first_before s (IsNull by e) = earlier_none (depths_in s (IsNull by e)).before
first_before s (Aggregate t e) = earlier_none (depths_in s (Aggregate t e)).before
first_before s (Alike t e) = earlier_none (depths_in s (Alike t e)).before
first_before s (New t e) = earlier_none (depths_in s (New t e)).before
first_before s NoMore = earlier_none (depths_in s NoMore).before

first_source_whole : (s : Typing) (i : Instruction) (a : PlaceName → Act) (v : TypedTree) → Plain i a
    → earlier_of (depths_in s v).before (acts_deep i (source_acts s (first v) a)) ≡ first_source_deep s v
first_source_whole s i a v plain =
    let b : Option Pos = (depths_in s v).before in
    let c : Option Pos = (depths_in s (first v)).before in
    let x : Option Pos = acts_deep i (source_acts s (first v) a) in
    ap (λ y. earlier_of y x) (sym (first_before s v)) ∙ earlier_group b c x
    ∙ ap (earlier_of b) (source_whole s i a (first v) plain)

-- ---- declarations and returns

pub declared_found : (s : Typing) (i : Instruction) (x : ℕ) (v : TypedTree)
    → earlier_of (depths_in s v).before (acts_deep i (declared_acts s x v)) ≡ declared_deep s x v
declared_found s i x v = by (is_borrower s x) (is_observer s x)
  where
    by : (b o : Bool)
        → earlier_of (depths_in s v).before (acts_deep i
        (if b then source_acts s (first v) (act.Borrow x) else (if o then source_acts s (first v) (observe s x) else acts_in s v)))
        ≡ (if b || o then first_source_deep s v else (depths_in s v).all)
    by true o = first_source_whole s i (act.Borrow x) v (borrows i x)
    by false true = first_source_whole s i (observe s x) v (observes i s x)
    by false false = (tree_facts s v).all i

pub returned_found : (s : Typing) (i : Instruction) (r : Option ℕ) (v : TypedTree)
    → earlier_of (depths_in s v).before (acts_deep i (returned_acts s r v)) ≡ returned_deep s r v
returned_found s i r v = by (traverses s.table r)
  where
    by : (b : Bool)
        → earlier_of (depths_in s v).before (acts_deep i
        (if b then source_acts s (first v) (λ m. act.Give m (gives_variable s r)) else acts_in s v))
        ≡ (if b then first_source_deep s v else (depths_in s v).all)
    by true = first_source_whole s i (λ m. act.Give m (gives_variable s r)) v (λ p m. deep_one p m)
    by false = (tree_facts s v).all i

-- ---- assignments

-- Where the value is stored.
stored_found : (s : Typing) (i : Instruction) (target e : TypedTree)
    → earlier_of (depths_in s e).before (earlier_of (depths_in s target).before (acts_deep i (stored_acts s target e))) ≡ stored_deep s target e
stored_found s i target e =
    let b : Option Pos = (depths_in s e).before in
    let c : Option Pos = (depths_in s target).before in
    let x : Option Pos = acts_deep i (acts_in s e) in
    let y : Option Pos = acts_deep i (index_acts s target) in
    let w : Option Pos = written_deep (written target) in
    let acts : acts_deep i (stored_acts s target e) ≡ earlier_of x (earlier_of y w) =
    acts_append i (before_write s target e) (naming (written target) act.Write)
    ∙ (λ j. earlier_of (acts_append i (acts_in s e) (index_acts s target) j) (naming_deep i act.Write (written target) (λ p m. deep_one p m) j))
    ∙ earlier_group x y w in
    sym (earlier_group b c (acts_deep i (stored_acts s target e)))
    ∙ ap (earlier_of (earlier_of b c)) acts
    ∙ earlier_four b c x (earlier_of y w)
    ∙ ap (λ z. earlier_of (earlier_of b x) z) (sym (earlier_group c y w))
    ∙ (λ j. earlier_of ((tree_facts s e).all i j) (earlier_of ((tree_facts s target).indexes i j) w))

-- Where a source is taken, its target has no act of its own.
lent_found : (s : Typing) (target e : TypedTree) (acts : Option Pos) → earlier_of (depths_in s e).before acts ≡ source_deep s e
    → earlier_of (depths_in s e).before (earlier_of (depths_in s target).before acts) ≡ lent_deep s target e
lent_found s target e acts is =
    let b : Option Pos = (depths_in s e).before in
    let c : Option Pos = (depths_in s target).before in
    ap (earlier_of b) (earlier_swap c acts) ∙ sym (earlier_group b acts c) ∙ ap (λ x. earlier_of x c) is

-- The name of a reborrow is that of its source, where it stands.
reborrow_names : (target e : TypedTree) (q : Pos) (x : ℕ) (o : Option Written) → source e ≡ o
    → acts_deep (Assign target e) (reborrow q x o) ≡ written_deep o
reborrow_names target e q x None is = refl
reborrow_names target e q x (Some m) is = deep_one (written_pos q (source e)) m.name ∙ ap (λ o. written_deep_at o) is
  where
    written_deep_at : Option Written → Option Pos
    written_deep_at o = written_deep (Some (record { pos = written_pos q o; name = m.name; of = m.of }))

reborrow_found : (s : Typing) (target e : TypedTree) (q : Pos) (x : ℕ)
    → earlier_of (depths_in s e).before (acts_deep (Assign target e) (index_acts s e ++ reborrow q x (source e))) ≡ source_deep s e
reborrow_found s target e q x =
    let i : Instruction = Assign target e in
    let b : Option Pos = (depths_in s e).before in
    let y : Option Pos = acts_deep i (index_acts s e) in
    ap (earlier_of b) (acts_append i (index_acts s e) (reborrow q x (source e)) ∙ ap (earlier_of y) (reborrow_names target e q x (source e) refl))
    ∙ sym (earlier_group b y (written_deep (source e)))
    ∙ ap (λ z. earlier_of z (written_deep (source e))) ((tree_facts s e).indexes i)

whole_found : (s : Typing) (p : Pos) (x : ℕ) (target e : TypedTree)
    → earlier_of (depths_in s e).before (earlier_of (depths_in s target).before (acts_deep (Assign target e) (whole_acts s p x target e)))
    ≡ (if is_borrower s x || is_observer s x then lent_deep s target e else stored_deep s target e)
whole_found s p x target e = by (is_borrower s x) (is_observer s x)
  where
    by : (b o : Bool)
        → earlier_of (depths_in s e).before (earlier_of (depths_in s target).before (acts_deep (Assign target e)
        (if b then index_acts s e ++ reborrow (target_pos p (written target)) x (source e)
        else (if o then source_acts s e (observe s x) else stored_acts s target e))))
        ≡ (if b || o then lent_deep s target e else stored_deep s target e)
    by true o = lent_found s target e _ (reborrow_found s target e (target_pos p (written target)) x)
    by false true = lent_found s target e _ (source_whole s (Assign target e) (observe s x) e (observes (Assign target e) s x))
    by false false = stored_found s (Assign target e) target e

over_found : (s : Typing) (p : Pos) (over : Option ℕ) (target e : TypedTree)
    → earlier_of (depths_in s e).before (earlier_of (depths_in s target).before (acts_deep (Assign target e) (assigned_to s p over target e)))
    ≡ written_over_deep s over target e
over_found s p None target e = stored_found s (Assign target e) target e
over_found s p (Some x) target e = whole_found s p x target e

pub assigned_found : (f : Frame) (p : Pos) (target e : TypedTree)
    → earlier_of (depths_in f.typing e).before (earlier_of (depths_in f.typing target).before (instruction_deep f p (Assign target e)))
    ≡ assigned_deep f.typing target e
assigned_found f p target e =
    let s : Typing = f.typing in
    let b : Option Pos = (depths_in s e).before in
    let c : Option Pos = (depths_in s target).before in
    let x : Option Pos = acts_deep (Assign target e) (assigned_to s p (whole target) target e) in
    let l : Option Pos = leaks_deep (spots_at s (written target) (length (before_write s target e))) in
    ap (earlier_of b) (sym (earlier_group c x l)) ∙ sym (earlier_group b (earlier_of c x) l)
    ∙ (λ j. earlier_of (over_found s p (whole target) target e j) (spots_names s (written target) (length (before_write s target e)) j))

-- ---- what is freed

freed_names : (s : Typing) (w : Option Written) (n : ℕ) → leaks_deep (designated_spots s w n) ≡ freed_deep s.table w
freed_names s None n = refl
freed_names s (Some m) n =
    spots_found m.pos (extend m.name (sel.Deref ∷ [])) n (parts s.table (designated s.table m.of))
    ∙ ap (λ k. parts_deep m.pos k (parts s.table (designated s.table m.of))) (length-append m.name.sels (sel.Deref ∷ []))

pub released_found : (f : Frame) (p : Pos) (m : TypedTree)
    → earlier_of (depths_in f.typing m).before (instruction_deep f p (Release m)) ≡ released_deep f.typing m
released_found f p m =
    let s : Typing = f.typing in
    sym (earlier_group (depths_in s m).before (acts_deep (Release m) (source_acts s m act.Free)) (leaks_deep (designated_spots s (written m) (length (index_acts s m)))))
    ∙ (λ j. earlier_of (source_whole s (Release m) act.Free m (λ q k. deep_one q k) j) (freed_names s (written m) (length (index_acts s m)) j))

pub input_found : (f : Frame) (p : Pos) (m : TypedTree)
    → earlier_of (depths_in f.typing m).before (instruction_deep f p (Input m)) ≡ source_deep f.typing m
input_found f p m =
    let s : Typing = f.typing in
    ap (earlier_of (depths_in s m).before) (earlier_none (acts_deep (Input m) (source_acts s m (λ k. act.Actual k mode.Out false false))))
    ∙ source_whole s (Input m) (λ k. act.Actual k mode.Out false false) m (λ q k. deep_one q k)
