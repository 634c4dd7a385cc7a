-- The names of actuals are within the limit of selectors, since those of the acts of their calls
-- are.
use Rattle.std.proofs.Common.{◌≡◌, refl, sym, ap, ◌∙◌, subst, ◌⊎◌, inl, inr, ℕ, ◌+◌, ◌≤◌, Bool, true, false, not, List, [], ◌∷◌, ◌++◌, map, flat_map, filter, length, get_or, Option, Some, None, is_some, cond}
use Rattle.std.proofs.lemmas.Bool.{ltb-false}
use Rattle.std.proofs.Math.Bridge.{le_prop}
use Rattle.std.proofs.Math.Logic.{∥∥₁_elim}
use Rattle.spark_base.specs.Lists.{Has}
use Rattle.spark_base.specs.declared.limits.TheConstants.{SELECTORS}
use Rattle.spark_base.specs.declared.position.Pos.{Pos}
use Rattle.spark_base.proofs.Lists.{Has-append_left, Has-append_right, Has-append_cases, Has-map, Has-map_from, Has-filter_passes}
use Rattle.place_names.specs.Names.{Name as PlaceName}
use Rattle.place_names.specs.declared.act.Act.TheVariants as act
use Rattle.place_names.specs.declared.act.Mode.{Mode}
use Rattle.place_names.specs.declared.act.Mode.TheVariants as mode
use Rattle.place_names.specs.declared.act.Placed.{Placed}
use Rattle.type_definitions.specs.Types.{Table, is_owning, parts}
use Rattle.typed_tree.specs.Trees.{TypedTree, Number, Literal, Null, Text, Name, Component, Designated, Element, Call as CallOf, EndOfFile, Parens, Image, Unary, Binary, Short, IsNull, Aggregate, Alike, New, NoMore, More}
use Rattle.typed_tree.specs.Programs.{TypedSub, TypedProgram}
use Rattle.flow_paths.specs.Instructions.{Call}
use Rattle.flow_paths.specs.Objects.{Typing, Signature, sub_at, Passing, ByValue, Traversed, Place, passing_by, passing, passings, first_traversed, traverses}
use Rattle.flow_paths.specs.Names.{written, name_of}
use Rattle.flow_paths.specs.Acts.{Frame, placed, used, acts_in, actual_values, actual_act, actual_acts, acts_of}
use Rattle.flow_paths.specs.Points.{FlowPoint, flow_point}
use Rattle.flow_paths.specs.Laid.{FlowSub, FlowProgram, NamedSub, sub_temporaries, named_subs, all_named, flow_sub, numbered, frame_of, number_in, kept_roots, sub_facts, signature, typing_of, flow_typing, flow_named, flow_program}
use Rattle.flow_paths.specs.Limits.{act_name, is_deep, NameAt, name_at, act_names, point_names, program_names, earliest, deep_name, fault_of, lay_fault, name_pos}
use Rattle.flow_paths.specs.Aliases.{Passed, passed_as, passed}
use Rattle.laid_program.specs.Layouts.{IsLayout}
use Rattle.alias_rules.specs.Steps.{AreShallow}

-- ---- a program within the limits

Has-flat_map : {A B : Type 0} (f : A → List B) (xs : List A) (x : A) (y : B) → Has xs x → Has (f x) y → Has (flat_map f xs) y
Has-flat_map f [] x y h k = absurd h
Has-flat_map f (z ∷ xs) x y h k = elim h [
  | inl e ↦ Has-append_left (f z) (flat_map f xs) y (subst (λ w. Has (f w) y) (sym e) k)
  | inr h ↦ Has-append_right (f z) (flat_map f xs) y (Has-flat_map f xs x y h k)
]

none_deep : (program : FlowProgram) → lay_fault program ≡ None → deep_name program ≡ None
unfolding lay_fault
none_deep program e = from (deep_name program) refl
  where
    from : (d : Option Pos) → deep_name program ≡ d → deep_name program ≡ None
    from None is = is
    from (Some p) is = absurd (let never : Some _ ≡ None = ap (λ o. fault_of o program.subs) (sym is) ∙ e in cc)

none_earliest : (ps : List Pos) → earliest ps ≡ None → (p : Pos) → Has ps p → ⊥
none_earliest [] e p h = absurd h
none_earliest (q ∷ ps) e p h = cc

shallow_names : (program : FlowProgram) → lay_fault program ≡ None → (n : NameAt) → Has (program_names program) n → length n.name.sels ≤ SELECTORS
shallow_names program e n h = from (is_deep n.name) refl
  where
    from : (b : Bool) → is_deep n.name ≡ b → length n.name.sels ≤ SELECTORS
    from false is = ltb-false SELECTORS (length n.name.sels) is
    from true is = absurd (none_earliest _ (none_deep program e) n.pos
        (Has-map (λ (n : NameAt). n.pos) (filter (λ n. is_deep n.name) (program_names program)) n
        (Has-filter_passes (λ n. is_deep n.name) (program_names program) n h is)))

shallow_act : (program : FlowProgram) (sub : FlowSub) (p : FlowPoint) (a : Placed) → lay_fault program ≡ None → Has program.subs sub → Has sub.points p
    → Has p.acts a → length (act_name a.act).sels ≤ SELECTORS
shallow_act program sub p a e hs hp ha =
    let n : NameAt = name_at (name_pos p.instr a a.act) (act_name a.act) in
    let of_point : Has (point_names p) n = Has-append_left (flat_map (act_names p.instr) p.acts) _ n
    (Has-flat_map (act_names p.instr) p.acts a n ha (inl refl)) in
    shallow_names program e n (Has-flat_map (λ (s : FlowSub). flat_map point_names s.points) program.subs sub n hs
    (Has-flat_map point_names sub.points p n hp of_point))

-- ---- the acts of a point that is laid out

pub record IsActed (s : Typing) (p : FlowPoint) : Type 0 where
  pub frame : Frame
  pub typing : frame.typing ≡ s
  pub acts : p.acts ≡ acts_of frame p.pos p.instr

acted_in : (s : Typing) (named : List NamedSub) (sub : FlowSub) (p : FlowPoint) → Has (map (flow_sub s) named) sub → Has sub.points p → IsActed s p
acted_in s named sub p hs hp =
    let n = Has-map_from (flow_sub s) named sub hs in
    let frame : Frame = frame_of s n.0.sub (kept_roots s 0 s.objects (sub_facts s n.0.sub n.0.points)) in
    let here : Has (numbered frame n.0.points) p = subst (λ (x : FlowSub). Has x.points p) (sym n.2) hp in
    let q = Has-map_from (flow_point frame (number_in n.0.points)) n.0.points p here in
    subst (IsActed s) q.2 (record { frame = frame; typing = refl; acts = refl })

named_signatures : (s : Typing) (n : ℕ) (subs : List TypedSub) → map (λ (m : NamedSub). signature m.sub) (named_subs s n subs) ≡ map signature subs
named_signatures s n [] = refl
named_signatures s n (sub ∷ rest) = ap (λ l. signature sub ∷ l) (named_signatures s (n + length (sub_temporaries s sub)) rest)

all_signatures : (s : Typing) (subs : List TypedSub) → map (λ (m : NamedSub). signature m.sub) (all_named s subs) ≡ map signature subs
all_signatures s [] = refl
all_signatures s (sub ∷ rest) = ap (λ l. signature sub ∷ l) (named_signatures s (length s.objects) rest)

map_map : {A B C : Type 0} (f : B → C) (h : A → B) (xs : List A) → map f (map h xs) ≡ map (λ x. f (h x)) xs
map_map f h [] = refl
map_map f h (x ∷ xs) = ap (λ l. f (h x) ∷ l) (map_map f h xs)

-- a program that is laid out has the signatures of the typed program
laid_signatures : (table : Table) (source : TypedProgram) → (flow_typing (flow_program table source)).subs ≡ (typing_of table source).subs
unfolding flow_program
laid_signatures table source =
    map_map _ (flow_sub (typing_of table source)) (all_named (typing_of table source) source.subs)
    ∙ all_signatures (typing_of table source) source.subs

laid_acts : (table : Table) (source : TypedProgram) (sub : FlowSub) (p : FlowPoint) → Has (flow_program table source).subs sub → Has sub.points p
    → IsActed (typing_of table source) p
unfolding flow_program
laid_acts table source sub p hs hp = acted_in (typing_of table source) (flow_named table source) sub p hs hp

-- ---- the actuals among the acts

-- an act with this name
abbrev pub Named : List Placed → PlaceName → Type 0
Named acts m = (a : Placed) × Has acts a × (act_name a.act ≡ m)

named_left : (xs ys : List Placed) (m : PlaceName) → Named xs m → Named (xs ++ ys) m
named_left xs ys m n = (n.0, Has-append_left xs ys n.0 n.1, n.2)

named_right : (xs ys : List Placed) (m : PlaceName) → Named ys m → Named (xs ++ ys) m
named_right xs ys m n = (n.0, Has-append_right xs ys n.0 n.1, n.2)

used_name : (b : Bool) (m : PlaceName) (t : ℕ) (s : Typing) → act_name (cond b (act.Move m (parts s.table t)) (act.Read m)) ≡ m
used_name true m t s = refl
used_name false m t s = refl

value_named : (s : Typing) (p : Pos) (x : ℕ) (steps : TypedTree) (t : ℕ) → Named (acts_in s (Name p x steps t)) (name_of x steps)
unfolding acts_in
value_named s p x steps t =
    named_right (acts_in s steps) (placed p (used s (name_of x steps) t) ∷ []) (name_of x steps)
    (placed p (used s (name_of x steps) t), inl refl, used_name (is_owning s.table t) (name_of x steps) t s)

-- how an actual is passed where no traversal goes through it
abbrev pub IsPassed : Passing → Type 0
IsPassed way = (way ≡ ByValue) ⊎ ((m : Mode) × (o : Bool) × (a : Bool) × (way ≡ Place m o a))

owning_passed : (o a b : Bool) → IsPassed (cond b (Place mode.In o a) ByValue)
owning_passed o a true = inr (mode.In, o, a, refl)
owning_passed o a false = inl refl

mode_passed : (m : Mode) (o a : Bool) → IsPassed (passing_by m o a)
mode_passed mode.In o a = owning_passed o a o
mode_passed mode.Out o a = inr (mode.Out, o, a, refl)
mode_passed mode.InOut o a = inr (mode.InOut, o, a, refl)

-- the acts of the actuals of a call
abbrev pub actuals_acts : Typing → List Passing → TypedTree → List Placed
actuals_acts s ways actuals = actual_values s ways actuals ++ actual_acts ways actuals

-- a name, or none
name_or : (e : TypedTree) → ((p : Pos) × (x : ℕ) × (steps : TypedTree) × (t : ℕ) × (e ≡ Name p x steps t)) ⊎ (written e ≡ None)
name_or (Name p x steps t) = inl (p, x, steps, t, refl)
name_or (Number v) = inr refl
name_or (Literal v) = inr refl
name_or Null = inr refl
name_or (Text v) = inr refl
name_or (Component i r) = inr refl
name_or (Designated r) = inr refl
name_or (Element i low high r) = inr refl
name_or (CallOf p sub a) = inr refl
name_or EndOfFile = inr refl
name_or (Parens e) = inr refl
name_or (Image t e) = inr refl
name_or (Unary op e) = inr refl
name_or (Binary op a b) = inr refl
name_or (Short op p a q b) = inr refl
name_or (IsNull b e) = inr refl
name_or (Aggregate t e) = inr refl
name_or (Alike t e) = inr refl
name_or (New t v) = inr refl
name_or NoMore = inr refl
name_or (More e rest) = inr refl

-- a list with a first element, or one that passes nothing
list_or : (t : TypedTree) → ((e : TypedTree) × (rest : TypedTree) × (t ≡ More e rest)) ⊎ ((x : ℕ) (formals : List ℕ) → passed (x ∷ formals) t ≡ [])
list_or (More e rest) = inl (e, rest, refl)
list_or (Name p x steps t) = inr (λ x formals. refl)
list_or (Number v) = inr (λ x formals. refl)
list_or (Literal v) = inr (λ x formals. refl)
list_or Null = inr (λ x formals. refl)
list_or (Text v) = inr (λ x formals. refl)
list_or (Component i r) = inr (λ x formals. refl)
list_or (Designated r) = inr (λ x formals. refl)
list_or (Element i low high r) = inr (λ x formals. refl)
list_or (CallOf p sub a) = inr (λ x formals. refl)
list_or EndOfFile = inr (λ x formals. refl)
list_or (Parens e) = inr (λ x formals. refl)
list_or (Image t e) = inr (λ x formals. refl)
list_or (Unary op e) = inr (λ x formals. refl)
list_or (Binary op a b) = inr (λ x formals. refl)
list_or (Short op p a q b) = inr (λ x formals. refl)
list_or (IsNull b e) = inr (λ x formals. refl)
list_or (Aggregate t e) = inr (λ x formals. refl)
list_or (Alike t e) = inr (λ x formals. refl)
list_or (New t v) = inr (λ x formals. refl)
list_or NoMore = inr (λ x formals. refl)

-- the first actual
first_named : (s : Typing) (way : Passing) (ways : List Passing) (p : Pos) (x : ℕ) (steps : TypedTree) (t : ℕ) (rest : TypedTree) → IsPassed way
    → Named (actuals_acts s (way ∷ ways) (More (Name p x steps t) rest)) (name_of x steps)
first_named s way ways p x steps t rest is = elim is [
  | inl value ↦ subst (λ w. Named (actuals_acts s (w ∷ ways) (More e rest)) m) (sym value)
      (named_left (actual_values s (ByValue ∷ ways) (More e rest)) (actual_acts (ByValue ∷ ways) (More e rest)) m
      (named_left (acts_in s e) (actual_values s ways rest) m (value_named s p x steps t)))
  | inr place ↦ (
      let w : Passing = Place place.0 place.1 place.2 in
      let a : Placed = placed p (act.Actual m place.0 place.1 place.2) in
      subst (λ w. Named (actuals_acts s (w ∷ ways) (More e rest)) m) (sym place.3)
      (named_right (actual_values s (w ∷ ways) (More e rest)) (actual_acts (w ∷ ways) (More e rest)) m
      (named_left (actual_act w e) (actual_acts ways rest) m (a, inl refl, refl))))
]
  where
    e : TypedTree
    e = Name p x steps t

    m : PlaceName
    m = name_of x steps

-- those after it
rest_values : (s : Typing) (way : Passing) (ways : List Passing) (e rest : TypedTree) (m : PlaceName) → Named (actual_values s ways rest) m
    → Named (actual_values s (way ∷ ways) (More e rest)) m
rest_values s ByValue ways e rest m n = named_right (acts_in s e) (actual_values s ways rest) m n
rest_values s Traversed ways e rest m n = named_right _ (actual_values s ways rest) m n
rest_values s (Place a o b) ways e rest m n = named_right _ (actual_values s ways rest) m n

rest_named : (s : Typing) (way : Passing) (ways : List Passing) (e rest : TypedTree) (m : PlaceName) → Named (actuals_acts s ways rest) m
    → Named (actuals_acts s (way ∷ ways) (More e rest)) m
rest_named s way ways e rest m n = elim (Has-append_cases (actual_values s ways rest) (actual_acts ways rest) n.0 n.1) [
  | inl value ↦ named_left (actual_values s (way ∷ ways) (More e rest)) (actual_acts (way ∷ ways) (More e rest)) m
      (rest_values s way ways e rest m (n.0, value, n.2))
  | inr place ↦ named_right (actual_values s (way ∷ ways) (More e rest)) (actual_acts (way ∷ ways) (More e rest)) m
      (named_right (actual_act way e) (actual_acts ways rest) m (n.0, place, n.2))
]

-- each actual that is a name is named by an act
actuals_named : (s : Typing) (b : Bool) (formals : List ℕ) (actuals : TypedTree) (a : Passed) → Has (passed formals actuals) a
    → Named (actuals_acts s (map (passing s b) formals) actuals) a.actual.name
actuals_named s b [] actuals a h = absurd h
actuals_named s b (x ∷ formals) actuals a h = elim (list_or actuals) [
  | inr none ↦ absurd (subst (λ l. Has l a) (none x formals) h)
  | inl more ↦ (
      let ways : List Passing = map (passing s b) formals in
      let is : IsPassed (passing s b x) = mode_passed _ _ _ in
      subst (λ t. Named (actuals_acts s (passing s b x ∷ ways) t) a.actual.name) (sym more.2)
      (elim (Has-append_cases (passed_as x (written more.0)) (passed formals more.1) a (subst (λ t. Has (passed (x ∷ formals) t) a) more.2 h)) [
        | inr behind ↦ rest_named s (passing s b x) ways more.0 more.1 a.actual.name (actuals_named s b formals more.1 a behind)
        | inl here ↦ elim (name_or more.0) [
          | inr none ↦ absurd (subst (λ o. Has (passed_as x o) a) none here)
          | inl name ↦ (
              let at : Has (passed_as x (written (Name name.0 name.1 name.2 name.3))) a = subst (λ e. Has (passed_as x (written e)) a) name.4 here in
              let named = first_named s (passing s b x) ways name.0 name.1 name.2 name.3 more.1 is in
              subst (λ e. Named (actuals_acts s (passing s b x ∷ ways) (More e more.1)) a.actual.name) (sym name.4)
              (elim at [
                | inl same ↦ subst (λ (y : Passed). Named (actuals_acts s (passing s b x ∷ ways) (More (Name name.0 name.1 name.2 name.3) more.1)) y.actual.name) same named
                | inr none ↦ absurd none
              ]))
        ]
      ]))
]

-- ---- the calls of a program

pub procedures_lead_nowhere : (table : Table) (given : Option ℕ) → is_some given ≡ false → traverses table given ≡ false
procedures_lead_nowhere table None is = refl
procedures_lead_nowhere table (Some t) is = cc

-- of a procedure, or of a function that doesn't traverse
ways_are : (s : Typing) (sub : Signature) → traverses s.table sub.result ≡ false → passings s sub ≡ map (passing s (not (is_some sub.result))) sub.formals
ways_are s sub e =
    let each : List Passing = map (passing s (not (is_some sub.result))) sub.formals in
    ap (λ b. cond b (first_traversed each) each) e

call_named : (s : Typing) (p : FlowPoint) (callee : ℕ) (actuals : TypedTree) (given : Option ℕ) (a : Passed) → IsActed s p → p.instr ≡ Call callee actuals given
    → traverses s.table (sub_at s callee).result ≡ false → Has (passed (sub_at s callee).formals actuals) a → Named p.acts a.actual.name
call_named s p callee actuals given a is call plain h =
    let f : Frame = is.frame in
    let acts : p.acts ≡ acts_of f p.pos (Call callee actuals given) = is.acts ∙ ap (acts_of f p.pos) call in
    let these : acts_of f p.pos (Call callee actuals given) ≡ actuals_acts s (passings s (sub_at s callee)) actuals =
    ap (λ t. actuals_acts t (passings t (sub_at t callee)) actuals) is.typing in
    let ways = ways_are s (sub_at s callee) plain in
    subst (λ l. Named l a.actual.name) (sym (acts ∙ these ∙ ap (λ w. actuals_acts s w actuals) ways))
    (actuals_named s (not (is_some (sub_at s callee).result)) (sub_at s callee).formals actuals a h)

-- the names of the actuals are within the limit
within_layout : (program : FlowProgram) (sub : FlowSub) (p : FlowPoint) (callee : ℕ) (actuals : TypedTree) (given : Option ℕ) → IsLayout program
    → Has program.subs sub → Has sub.points p → p.instr ≡ Call callee actuals given → traverses program.table (sub_at (flow_typing program) callee).result ≡ false
    → AreShallow (passed (sub_at (flow_typing program) callee).formals actuals)
within_layout program sub p callee actuals given layout hs hp call plain a h =
    let table : Table = program.table in
    let s : Typing = typing_of table layout.source in
    let same : sub_at (flow_typing program) callee ≡ sub_at s callee =
    ap (λ (x : FlowProgram). sub_at (flow_typing x) callee) layout.laid
    ∙ ap (λ (subs : List Signature). get_or subs callee (record { formals = []; result = None })) (laid_signatures table layout.source) in
    let acted = laid_acts table layout.source sub p (subst (λ (x : FlowProgram). Has x.subs sub) layout.laid hs) hp in
    let named = call_named s p callee actuals given a acted call (ap (λ (x : Signature). traverses table x.result) (sym same) ∙ plain)
    (subst (λ (x : Signature). Has (passed x.formals actuals) a) same h) in
    subst (λ (m : PlaceName). length m.sels ≤ SELECTORS) named.2 (shallow_act program sub p named.0 layout.within hs hp named.1)

pub shallow_call : (program : FlowProgram) (sub : FlowSub) (p : FlowPoint) (callee : ℕ) (actuals : TypedTree) (given : Option ℕ) → ∥ IsLayout program ∥₁
    → Has program.subs sub → Has sub.points p → p.instr ≡ Call callee actuals given → traverses program.table (sub_at (flow_typing program) callee).result ≡ false
    → AreShallow (passed (sub_at (flow_typing program) callee).formals actuals)
shallow_call program sub p callee actuals given right hs hp call plain a h =
    ∥∥₁_elim right le_prop (λ layout. within_layout program sub p callee actuals given layout hs hp call plain a h)
