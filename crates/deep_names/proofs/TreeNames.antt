-- What is found in a tree is what the points before its use and its own acts have.
use Rattle.std.proofs.Common.{◌≡◌, ℕ, ◌+◌, Bool, true, false, ◌||◌, List, [], ◌∷◌, ◌++◌, length, refl, sym, ap, ◌∙◌, Option, None}
use Rattle.std.specs.Prelude.{if◌then◌else◌}
use Rattle.spark_base.specs.declared.position.Pos.{Pos}
use Rattle.place_names.specs.declared.act.Act.TheVariants as act
use Rattle.place_names.specs.declared.act.Mode.{Mode}
use Rattle.place_names.specs.declared.act.Mode.TheVariants as mode
use Rattle.place_names.specs.declared.act.Placed.{Placed}
use Rattle.typed_tree.specs.Trees.{TypedTree, Number, Literal, Null, Text, Name, Component, Designated, Element, Call, EndOfFile, Image, Parens, Unary, Binary, Short, IsNull, Aggregate, Alike, New, NoMore, More}
use Rattle.flow_paths.specs.declared.point.LeakSpot.{LeakSpot}
use Rattle.flow_paths.specs.Instructions.{Instruction}
use Rattle.flow_paths.specs.Objects.{Typing, Passing, ByValue, Traversed, Place}
use Rattle.flow_paths.specs.Names.{name_of, written, has_call}
use Rattle.flow_paths.specs.Acts.{placed, used, naming, acts_in, index_acts, actual_values, actual_act, actual_acts, actual_spots, call_spots}
use Rattle.deep_names.specs.Found.{earlier_of, written_deep}
use Rattle.deep_names.specs.Trees.{depths_in, actual_deep, actuals_deep, place_deep, used_deep}
use Rattle.deep_names.proofs.Earlier.{earlier_none, earlier_group, earlier_four, earlier_again}
use Rattle.deep_names.proofs.DeepNames.{deep_one}
use Rattle.deep_names.proofs.Acts.{acts_deep, acts_append, naming_deep, used_names, leaks_deep, leaks_append, spots_names}

pub record TreeFacts (s : Typing) (e : TypedTree) : Type 0 where
  pub calls : has_call e ≡ (depths_in s e).calls
  pub indexes : (i : Instruction) → earlier_of (depths_in s e).before (acts_deep i (index_acts s e)) ≡ (depths_in s e).indexes
  pub all : (i : Instruction) → earlier_of (depths_in s e).before (acts_deep i (acts_in s e)) ≡ (depths_in s e).all

-- ---- two parts

abbrev PairAll : Typing → TypedTree → TypedTree → Type 0
PairAll s a b =
    (i : Instruction) → earlier_of (earlier_of (depths_in s a).before (depths_in s b).before) (acts_deep i (acts_in s a ++ acts_in s b))
    ≡ earlier_of (depths_in s a).all (depths_in s b).all

pair_all : (s : Typing) (a b : TypedTree) → TreeFacts s a → TreeFacts s b → PairAll s a b
pair_all s a b ha hb i =
    ap (earlier_of (earlier_of (depths_in s a).before (depths_in s b).before)) (acts_append i (acts_in s a) (acts_in s b))
    ∙ earlier_four (depths_in s a).before (depths_in s b).before (acts_deep i (acts_in s a)) (acts_deep i (acts_in s b))
    ∙ (λ j. earlier_of (ha.all i j) (hb.all i j))

-- Both operands of a short circuit are evaluated before, or neither is.
short_all : (s : Typing) (a b : TypedTree) → PairAll s a b → (c d : Bool) → c ≡ d → (i : Instruction)
    → earlier_of (if d then earlier_of (depths_in s a).all (depths_in s b).all else earlier_of (depths_in s a).before (depths_in s b).before)
    (acts_deep i (if c then [] else acts_in s a ++ acts_in s b))
    ≡ earlier_of (depths_in s a).all (depths_in s b).all
short_all s a b pair c d same i =
    (λ j. earlier_of (if d then earlier_of (depths_in s a).all (depths_in s b).all else earlier_of (depths_in s a).before (depths_in s b).before)
    (acts_deep i (if same j then [] else acts_in s a ++ acts_in s b)))
    ∙ by d
  where
    by : (d : Bool)
        → earlier_of (if d then earlier_of (depths_in s a).all (depths_in s b).all else earlier_of (depths_in s a).before (depths_in s b).before)
        (acts_deep i (if d then [] else acts_in s a ++ acts_in s b))
        ≡ earlier_of (depths_in s a).all (depths_in s b).all
    by true = earlier_none (earlier_of (depths_in s a).all (depths_in s b).all)
    by false = pair i

-- ---- names

named_all : (s : Typing) (p : Pos) (x : ℕ) (steps : TypedTree) (t : ℕ) → TreeFacts s steps → (i : Instruction)
    → earlier_of (depths_in s steps).before (acts_deep i (acts_in s steps ++ placed p (used s (name_of x steps) t) ∷ []))
    ≡ earlier_of (depths_in s steps).all (used_deep s p (name_of x steps) t)
named_all s p x steps t h i =
    ap (earlier_of (depths_in s steps).before) (acts_append i (acts_in s steps) (placed p (used s (name_of x steps) t) ∷ []))
    ∙ sym (earlier_group (depths_in s steps).before (acts_deep i (acts_in s steps)) (acts_deep i (placed p (used s (name_of x steps) t) ∷ [])))
    ∙ (λ j. earlier_of (h.all i j) (used_names i s p (name_of x steps) t j))

-- A name that is compared with `null` has the acts of its indexes, and its own.
looked_acts : (s : Typing) (equal : Bool) (e : TypedTree) → acts_in s (IsNull equal e) ≡ index_acts s e ++ naming (written e) act.Look
unfolding acts_in
looked_acts s equal (Name p x steps t) = refl
looked_acts s equal (Number v) = refl
looked_acts s equal (Literal v) = refl
looked_acts s equal Null = refl
looked_acts s equal (Text v) = refl
looked_acts s equal (Component i e) = refl
looked_acts s equal (Designated e) = refl
looked_acts s equal (Element a low high b) = refl
looked_acts s equal (Call p f a) = refl
looked_acts s equal EndOfFile = refl
looked_acts s equal (Parens e) = refl
looked_acts s equal (Image t e) = refl
looked_acts s equal (Unary op e) = refl
looked_acts s equal (Binary op a b) = refl
looked_acts s equal (Short op p a q b) = refl
looked_acts s equal (IsNull by e) = refl
looked_acts s equal (Aggregate t e) = refl
looked_acts s equal (Alike t e) = refl
looked_acts s equal (New t e) = refl
looked_acts s equal NoMore = refl
looked_acts s equal (More a b) = refl

looked_all : (s : Typing) (equal : Bool) (e : TypedTree) → TreeFacts s e → (i : Instruction)
    → earlier_of (depths_in s e).before (acts_deep i (acts_in s (IsNull equal e))) ≡ earlier_of (depths_in s e).indexes (written_deep (written e))
looked_all s equal e h i =
    ap (λ acts. earlier_of (depths_in s e).before (acts_deep i acts)) (looked_acts s equal e)
    ∙ ap (earlier_of (depths_in s e).before) (acts_append i (index_acts s e) (naming (written e) act.Look))
    ∙ sym (earlier_group (depths_in s e).before (acts_deep i (index_acts s e)) (acts_deep i (naming (written e) act.Look)))
    ∙ (λ j. earlier_of (h.indexes i j) (naming_deep i act.Look (written e) (λ p m. deep_one p m) j))

-- ---- trees

pub tree_facts : (s : Typing) (e : TypedTree) → TreeFacts s e
unfolding depths_in has_call acts_in
tree_facts s (Name p x steps t) =
    let h : TreeFacts s steps = tree_facts s steps in
    record { calls = h.calls; indexes = λ i. h.all i; all = λ i. named_all s p x steps t h i }
tree_facts s (IsNull equal e) =
    let h : TreeFacts s e = tree_facts s e in
    record { calls = h.calls; indexes = λ i. earlier_none (depths_in s e).before; all = λ i. looked_all s equal e h i }
tree_facts s (Call p sub actuals) = record {
  calls = refl;
  indexes = λ i. earlier_none (depths_in s (Call p sub actuals)).before;
  all = λ i. earlier_none (depths_in s (Call p sub actuals)).before;
}
tree_facts s (Short op p a q b) =
    let ha : TreeFacts s a = tree_facts s a in
    let hb : TreeFacts s b = tree_facts s b in
    record {
      calls = λ j. ha.calls j || hb.calls j;
      indexes = λ i. earlier_none (depths_in s (Short op p a q b)).before;
      all = λ i. short_all s a b (pair_all s a b ha hb) (has_call b) (depths_in s b).calls hb.calls i;
    }
tree_facts s (Binary op a b) =
    let ha : TreeFacts s a = tree_facts s a in
    let hb : TreeFacts s b = tree_facts s b in
    record {
      calls = λ j. ha.calls j || hb.calls j;
      indexes = λ i. earlier_none (earlier_of (depths_in s a).before (depths_in s b).before);
      all = λ i. pair_all s a b ha hb i;
    }
tree_facts s (More a b) =
    let ha : TreeFacts s a = tree_facts s a in
    let hb : TreeFacts s b = tree_facts s b in
    record {
      calls = λ j. ha.calls j || hb.calls j;
      indexes = λ i. earlier_none (earlier_of (depths_in s a).before (depths_in s b).before);
      all = λ i. pair_all s a b ha hb i;
    }
tree_facts s (Element a low high b) =
    let ha : TreeFacts s a = tree_facts s a in
    let hb : TreeFacts s b = tree_facts s b in
    record {
      calls = λ j. ha.calls j || hb.calls j;
      indexes = λ i. earlier_none (earlier_of (depths_in s a).before (depths_in s b).before);
      all = λ i. pair_all s a b ha hb i;
    }
tree_facts s (Component c e) =
    let h : TreeFacts s e = tree_facts s e in
    record { calls = h.calls; indexes = λ i. earlier_none (depths_in s e).before; all = λ i. h.all i }
tree_facts s (Designated e) =
    let h : TreeFacts s e = tree_facts s e in
    record { calls = h.calls; indexes = λ i. earlier_none (depths_in s e).before; all = λ i. h.all i }
tree_facts s (Image t e) =
    let h : TreeFacts s e = tree_facts s e in
    record { calls = h.calls; indexes = λ i. earlier_none (depths_in s e).before; all = λ i. h.all i }
tree_facts s (Parens e) =
    let h : TreeFacts s e = tree_facts s e in
    record { calls = h.calls; indexes = λ i. earlier_none (depths_in s e).before; all = λ i. h.all i }
tree_facts s (Unary op e) =
    let h : TreeFacts s e = tree_facts s e in
    record { calls = h.calls; indexes = λ i. earlier_none (depths_in s e).before; all = λ i. h.all i }
tree_facts s (Aggregate t e) =
    let h : TreeFacts s e = tree_facts s e in
    record { calls = h.calls; indexes = λ i. earlier_none (depths_in s e).before; all = λ i. h.all i }
tree_facts s (Alike t e) =
    let h : TreeFacts s e = tree_facts s e in
    record { calls = h.calls; indexes = λ i. earlier_none (depths_in s e).before; all = λ i. h.all i }
tree_facts s (New t e) =
    let h : TreeFacts s e = tree_facts s e in
    record { calls = h.calls; indexes = λ i. earlier_none (depths_in s e).before; all = λ i. h.all i }
tree_facts s (Number v) = record { calls = refl; indexes = λ i. refl; all = λ i. refl }
tree_facts s (Literal v) = record { calls = refl; indexes = λ i. refl; all = λ i. refl }
tree_facts s Null = record { calls = refl; indexes = λ i. refl; all = λ i. refl }
tree_facts s (Text v) = record { calls = refl; indexes = λ i. refl; all = λ i. refl }
tree_facts s EndOfFile = record { calls = refl; indexes = λ i. refl; all = λ i. refl }
tree_facts s NoMore = record { calls = refl; indexes = λ i. refl; all = λ i. refl }

-- ---- actuals

abbrev value_acts : Typing → Passing → TypedTree → List Placed
value_acts s ByValue e = acts_in s e
value_acts s Traversed e = index_acts s e
value_acts s (Place how owning access) e = index_acts s e

values_more : (s : Typing) (way : Passing) (ways : List Passing) (e rest : TypedTree)
    → actual_values s (way ∷ ways) (More e rest) ≡ value_acts s way e ++ actual_values s ways rest
values_more s ByValue ways e rest = refl
values_more s Traversed ways e rest = refl
values_more s (Place m owning access) ways e rest = refl

-- What one actual has at the point of its call.
abbrev one_deep : Typing → Instruction → Passing → TypedTree → ℕ → Option Pos
one_deep s i way e n = earlier_of (acts_deep i (value_acts s way e ++ actual_act way e)) (leaks_deep (actual_spots s way e n))

one_valued : (s : Typing) (i : Instruction) (e : TypedTree) (acts : List Placed) (n : ℕ) (found : Option Pos)
    → earlier_of (depths_in s e).before (acts_deep i acts) ≡ found
    → earlier_of (depths_in s e).before (earlier_of (acts_deep i (acts ++ [])) (leaks_deep [])) ≡ earlier_of (depths_in s e).before found
one_valued s i e acts n found is =
    ap (λ x. earlier_of (depths_in s e).before (earlier_of x None)) (acts_append i acts [] ∙ earlier_none (acts_deep i acts))
    ∙ ap (earlier_of (depths_in s e).before) (earlier_none (acts_deep i acts))
    ∙ sym (earlier_again (depths_in s e).before (acts_deep i acts))
    ∙ ap (earlier_of (depths_in s e).before) is

place_leaks : (s : Typing) (how : Mode) (owning access : Bool) (e : TypedTree) (n : ℕ)
    → earlier_of (written_deep (written e)) (leaks_deep (actual_spots s (Place how owning access) e n)) ≡ place_deep s how (written e)
place_leaks s mode.In owning access e n = earlier_none (written_deep (written e))
place_leaks s mode.InOut owning access e n = earlier_none (written_deep (written e))
place_leaks s mode.Out owning access e n = ap (earlier_of (written_deep (written e))) (spots_names s (written e) n)

one_placed : (s : Typing) (i : Instruction) (how : Mode) (owning access : Bool) (e : TypedTree) (n : ℕ) → TreeFacts s e
    → earlier_of (depths_in s e).before (one_deep s i (Place how owning access) e n)
    ≡ earlier_of (depths_in s e).before (earlier_of (depths_in s e).indexes (place_deep s how (written e)))
one_placed s i how owning access e n h =
    let b : Option Pos = (depths_in s e).before in
    let x : Option Pos = acts_deep i (index_acts s e) in
    let l : Option Pos = leaks_deep (actual_spots s (Place how owning access) e n) in
    let w : Option Pos = written_deep (written e) in
    let named : acts_deep i (naming (written e) (λ k. act.Actual k how owning access)) ≡ w =
    naming_deep i (λ k. act.Actual k how owning access) (written e) (λ p m. deep_one p m) in
    ap (λ y. earlier_of b (earlier_of y l)) (acts_append i (index_acts s e) (naming (written e) (λ k. act.Actual k how owning access)) ∙ ap (earlier_of x) named)
    ∙ ap (earlier_of b) (earlier_group x w l ∙ ap (earlier_of x) (place_leaks s how owning access e n))
    ∙ sym (earlier_again b (earlier_of x (place_deep s how (written e))))
    ∙ ap (earlier_of b) (sym (earlier_group b x (place_deep s how (written e))))
    ∙ ap (λ y. earlier_of b (earlier_of y (place_deep s how (written e)))) (h.indexes i)

one_named : (s : Typing) (i : Instruction) (way : Passing) (e : TypedTree) (n : ℕ) → TreeFacts s e
    → earlier_of (depths_in s e).before (one_deep s i way e n) ≡ earlier_of (depths_in s e).before (actual_deep s way (written e) (depths_in s e))
one_named s i ByValue e n h = one_valued s i e (acts_in s e) n (depths_in s e).all (h.all i)
one_named s i Traversed e n h = one_valued s i e (index_acts s e) n (depths_in s e).indexes (h.indexes i)
one_named s i (Place how owning access) e n h = one_placed s i how owning access e n h

-- What the point of a call has.
abbrev pub all_deep : Typing → Instruction → List Passing → TypedTree → ℕ → Option Pos
all_deep s i ways e n = earlier_of (acts_deep i (actual_values s ways e ++ actual_acts ways e)) (leaks_deep (call_spots s ways e n))

-- One actual before others.
all_more : (s : Typing) (i : Instruction) (way : Passing) (ways : List Passing) (e rest : TypedTree) (n : ℕ)
    → all_deep s i (way ∷ ways) (More e rest) n
    ≡ earlier_of (one_deep s i way e n) (all_deep s i ways rest (n + length (actual_act way e)))
all_more s i way ways e rest n =
    let v : List Placed = value_acts s way e in
    let vs : List Placed = actual_values s ways rest in
    let a : List Placed = actual_act way e in
    let later : List Placed = actual_acts ways rest in
    let l : List LeakSpot = actual_spots s way e n in
    let ls : List LeakSpot = call_spots s ways rest (n + length (actual_act way e)) in
    let acts : acts_deep i (actual_values s (way ∷ ways) (More e rest) ++ (a ++ later))
    ≡ earlier_of (acts_deep i (v ++ a)) (acts_deep i (vs ++ later)) =
    ap (λ x. acts_deep i (x ++ (a ++ later))) (values_more s way ways e rest)
    ∙ acts_append i (v ++ vs) (a ++ later)
    ∙ (λ j. earlier_of (acts_append i v vs j) (acts_append i a later j))
    ∙ earlier_four (acts_deep i v) (acts_deep i vs) (acts_deep i a) (acts_deep i later)
    ∙ (λ j. earlier_of (sym (acts_append i v a) j) (sym (acts_append i vs later) j)) in
    (λ j. earlier_of (acts j) (leaks_append l ls j))
    ∙ earlier_four (acts_deep i (v ++ a)) (acts_deep i (vs ++ later)) (leaks_deep l) (leaks_deep ls)

all_step : (s : Typing) (i : Instruction) (way : Passing) (ways : List Passing) (e rest : TypedTree) (n : ℕ) → TreeFacts s e
    → earlier_of (depths_in s rest).before (all_deep s i ways rest (n + length (actual_act way e))) ≡ earlier_of (depths_in s rest).before (actuals_deep s ways rest)
    → earlier_of (depths_in s (More e rest)).before (all_deep s i (way ∷ ways) (More e rest) n)
    ≡ earlier_of (depths_in s (More e rest)).before (actuals_deep s (way ∷ ways) (More e rest))
unfolding depths_in actuals_deep
all_step s i way ways e rest n h later =
    let m : ℕ = n + length (actual_act way e) in
    let b : Option Pos = (depths_in s e).before in
    let c : Option Pos = (depths_in s rest).before in
    ap (earlier_of (earlier_of b c)) (all_more s i way ways e rest n)
    ∙ earlier_four b c (one_deep s i way e n) (all_deep s i ways rest m)
    ∙ (λ j. earlier_of (one_named s i way e n h j) (later j))
    ∙ earlier_four b (actual_deep s way (written e) (depths_in s e)) c (actuals_deep s ways rest)

pub actuals_named : (s : Typing) (i : Instruction) (ways : List Passing) (e : TypedTree) (n : ℕ)
    → earlier_of (depths_in s e).before (all_deep s i ways e n) ≡ earlier_of (depths_in s e).before (actuals_deep s ways e)
unfolding actuals_deep
actuals_named s i [] e n = refl
actuals_named s i (way ∷ ways) (More e rest) n =
    all_step s i way ways e rest n (tree_facts s e) (actuals_named s i ways rest (n + length (actual_act way e)))
actuals_named s i (ByValue ∷ ways) e n = refl
actuals_named s i (Traversed ∷ ways) e n = refl
actuals_named s i (Place m owning access ∷ ways) e n = refl
