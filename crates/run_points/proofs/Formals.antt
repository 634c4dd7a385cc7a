-- Formals are declared in the frame of a call, and what is passed by place is taken from there.
use Rattle.std.proofs.Common.{◌≡◌, inl, inr, ℕ, zero, suc, ◌+◌, ◌<◌, ◌≤◌, true, false, Bool, ◌&&◌, ◌||◌, List, [], ◌∷◌, ◌++◌, map, length, take, drop, refl, sym, ap, subst, ◌∙◌, arith, Some, ℤ, append-nil}
use Rattle.std.specs.Prelude.{◌==◌}
use Rattle.std.specs.List.{list_any}
use Rattle.spark_base.specs.Lists.{Has}
use Rattle.spark_base.specs.declared.position.Pos.{Pos}
use Rattle.typed_tree.specs.Trees.{TypedTree, More}
use Rattle.flow_paths.specs.Objects.{Typing, object_at}
use Rattle.machine.specs.Words.{Word, default, access_offsets}
use Rattle.machine.specs.Typed.{sorts}
use Rattle.machine.specs.Memory.{Memory, Slot, Base, Place, OfVariable, OfCell, fresh, with_variable, put, slots_at, slots_of, words_of, gone_at, moved_out, declared}
use Rattle.machine.specs.Evaluate.{Done}
use Rattle.machine.specs.Calls as machine
use Rattle.run_codes.specs.Flat.{Flat, Got, Given, Broken, and_then, kinds, all_fresh, Spot, InStack, InCell, held, spliced, with_stack}
use Rattle.run_codes.specs.Flat as flat
use Rattle.run_codes.specs.Lowered.{Kept, offset_from}
use Rattle.run_codes.specs.Points.{Passed, Value, FromSpot, ToSpot, with_formal, with_formals}
use Rattle.run_codes.specs.Related.{IsValue, Seen, table, now, types, LiesIn, Lying, lying_sorts}
use Rattle.run_codes.proofs.Places.{both_true}
use Rattle.run_codes.proofs.Stores.{with_there, with_others}
use Rattle.run_codes.proofs.Seeing.{stack_stored, declared_in_stack}
use Rattle.run_codes.proofs.Held.{is_held}
use Rattle.run_fills.specs.Filled.{IsWhole, at, Later}
use Rattle.run_fills.proofs.Wholes.{later_from, later_on, value_later}
use Rattle.run_fills.proofs.Values.{value_as}
use Rattle.run_fills.proofs.Moved.{is_taken}
use Rattle.run_fills.proofs.Outside.{object_outside}
use Rattle.run_points.specs.States.{IsLow, AreUndeclared}
use Rattle.run_points.specs.Frames.{AreDifferent}
use Rattle.run_points.proofs.Stacks.{spliced_long, undeclared_on}
use Rattle.run_points.proofs.Undeclares.{other_variables}
use Rattle.run_points.proofs.Flags.{FreesNone, frees_put, frees_moved, low_moved}
use Rattle.run_points.proofs.Offsets.{formal_words, AreFormals}
use Rattle.run_points.proofs.Passing.{IsFound, formal_type, PassedStands, AllStandPassed}
use Rattle.run_points.proofs.Actuals.{passed_more}
use Rattle.run_points.proofs.Reaching.{IsReached, reached}

-- While formals are declared in a frame: what was there when it entered, and what is there now.
pub record IsDeclaring (e : Seen) (all : List Lying) (d : ℕ) (n : Memory) (g : Flat) (m : Memory) (f : Flat) : Type 0 where
  pub later : Later (at e n g) all m f
  pub flags : FreesNone e.memory m
  pub undeclared : AreUndeclared e.site.typing (suc d) m

abbrev pub formal_lying : ℕ → ℕ → ℕ → Lying
formal_lying d x p = record { frame = d; object = x; at = p }

abbrev pub no_value : Typing → ℕ → List Word
no_value s x = default s.table (object_at s x).of

-- ---- places of frames below

lies_low : (e : Seen) (frame x start d : ℕ) → e.frame < d → LiesIn e frame x start → frame < d
lies_low e frame x start d low lies = elim lies [
  | inl own ↦ same frame e.frame d own.runs low
  | inr first ↦ none frame e.frame d first.first low
]
  where
    same : (a b d : ℕ) → a ≡ b → b < d → a < d
    same a b d is low = omega (arith, is, low)

    none : (a b d : ℕ) → a ≡ 0 → b < d → a < d
    none a b d is low = omega (arith, is, low)

pub found_low : (e : Seen) (made : List ℕ) (p : Place) (t : ℕ) (w : Spot) (d : ℕ) → e.frame < d → IsFound e made p t w → IsLow d p.base
found_low e made p t (InStack n) d low is = subst (λ b. IsLow d b) (sym is.base) (lies_low e is.frame is.object is.start d low is.lies)
found_low e made p t (InCell n o) d low is = subst (λ b. IsLow d b) (sym is.0) tt

higher : (n d : ℕ) (b : Base) → n ≤ d → IsLow n b → IsLow d b
higher n d (OfVariable frame x) le is = by frame is
  where
    by : (frame : ℕ) → frame < n → frame < d
    by frame is = omega (arith, le, is)
higher n d (OfCell k) le is = tt

-- Another variable has what it had.
put_other : (s : Typing) (b : Base) (slots : List Slot) (m : Memory) (d y : ℕ) → IsLow d b → slots_at s (put b slots m) (OfVariable d y) ≡ slots_at s m (OfVariable d y)
put_other s (OfVariable frame x) slots m d y low = with_others s frame x d y slots m.variables (ap (λ b. b && (x == y)) (apart frame d low))
  where
    apart : (a b : ℕ) → a < b → (a == b) ≡ false
    apart a b lt = grind arith
put_other s (OfCell zero) slots m d y low = refl
put_other s (OfCell (suc k)) slots m d y low = refl

moved_other : (s : Typing) (p : Place) (m : Memory) (d y : ℕ) → IsLow d p.base → slots_at s (moved_out s p m) (OfVariable d y) ≡ slots_at s m (OfVariable d y)
moved_other s p m d y low = put_other s p.base (take p.at (slots_at s m p.base) ++ slots ++ drop (p.at + length slots) (slots_at s m p.base)) m d y low
  where
    slots : List Slot
    slots = gone_at (access_offsets s.table p.of) (slots_of s m p)

-- ---- what is at a place

record IsMovedOut (e : Seen) (all : List Lying) (t : ℕ) (w : Spot) (p : Place) : Type 0 where
  zs : List ℤ
  held_is : held e.flat w (kinds (table e) t) ≡ Given zs
  value : IsValue (table e) (types e.memory) (sorts (table e) t) (words_of e.site.typing e.memory p) zs
  after : Flat
  gives : flat.moved_out e.flat w (kinds (table e) t) (access_offsets (table e) t) ≡ Given after
  later : Later e all (moved_out e.site.typing p e.memory) after

moves_out : (e : Seen) (all : List Lying) → IsWhole e all → (t : ℕ) (w : Spot) (p : Place) → IsReached e p t w → IsMovedOut e all t w p
moves_out e all whole t w p is =
    let ev = Done p (now e 0) in
    let value = is_held e whole.related.counted.few 0 t w is.zs ev is.place is.there in
    let gone = is_taken e all whole 0 t w is.zs ev is.place is.there in
    let zs : List ℤ = all_fresh (kinds (table e) t) (take (length (sorts (table e) t)) is.zs) in
    record {
      zs = zs;
      held_is = value.value;
      value = subst (λ q. IsValue (table e) (types e.memory) (sorts (table e) t) (words_of e.site.typing e.memory q) zs) is.same value.is;
      after = gone.after;
      gives = gone.gives;
      later = subst (λ q. Later e all (moved_out e.site.typing q e.memory) gone.after) is.same gone.later;
    }

-- ---- a formal has a value

value_declared : (e : Seen) (all : List Lying) (m : Memory) (f : Flat) → IsWhole (at e m f) all → (d x p : ℕ) → Has all (formal_lying d x p) → (ws : List Word) (zs : List ℤ)
    → IsValue (table e) (types m) (sorts (table e) (formal_type e x)) ws zs
    → (flat.stored f (InStack p) (kinds (table e) (formal_type e x)) zs ≡ Given (with_stack f (spliced p zs f.stack))) × Later (at e m f) all (declared d x ws m) (with_stack f (spliced p zs f.stack))
value_declared e all m f whole d x p has ws zs value =
    let l : Lying = formal_lying d x p in
    let within = whole.apart.within l has in
    let fits : p + length zs ≤ length f.stack = omega (arith, within, value.numbers) in (
      stack_stored f p (kinds (table e) (formal_type e x)) zs fits,
      later_from (at e m f) all (declared d x ws m) (with_stack f (spliced p zs f.stack)) [] whole (sym (append-nil (types m)))
          (declared_in_stack e.site.typing all m f l ws zs whole.related whole.apart has value) (spliced_long p zs f.stack fits) refl refl refl
          (λ c k out. object_outside e.site.typing all l p 0 zs f.stack c k has (none p) (small (length zs) (length (lying_sorts e.site.typing l)) value.numbers) within out),
    )
  where
    none : (n : ℕ) → n ≡ n + 0
    none n = omega arith

    small : (a b : ℕ) → a ≡ b → 0 + a ≤ b
    small a b is = omega (arith, is)

-- It has none, and has the words of an object without one already.
default_declared : (e : Seen) (all : List Lying) (m : Memory) (f : Flat) → IsWhole (at e m f) all → (d x : ℕ) → slots_at e.site.typing m (OfVariable d x) ≡ fresh (no_value e.site.typing x)
    → Later (at e m f) all (declared d x (no_value e.site.typing x) m) f
default_declared e all m f whole d x old =
    later_from (at e m f) all (declared d x (no_value e.site.typing x) m) f [] whole (sym (append-nil (types m)))
    (other_variables e.site.typing all m (with_variable d x (fresh (no_value e.site.typing x)) m.variables) m.variables f (λ l has. same l.frame l.object) whole.related) refl refl refl refl (λ c k out. refl)
  where
    same_number : (a b : ℕ) → (a == b) ≡ true → a ≡ b
    same_number a b is = grind arith

    same : (frame y : ℕ) → slots_at e.site.typing (declared d x (no_value e.site.typing x) m) (OfVariable frame y) ≡ slots_at e.site.typing m (OfVariable frame y)
    same frame y = by ((d == frame) && (x == y)) refl
      where
        by : (b : Bool) → ((d == frame) && (x == y)) ≡ b → slots_at e.site.typing (declared d x (no_value e.site.typing x) m) (OfVariable frame y) ≡ slots_at e.site.typing m (OfVariable frame y)
        by false apart = with_others e.site.typing d x frame y (fresh (no_value e.site.typing x)) m.variables apart
        by true is =
            let both = both_true (d == frame) (x == y) is in
            subst (λ i. slots_at e.site.typing (declared d x (no_value e.site.typing x) m) (OfVariable i y) ≡ slots_at e.site.typing m (OfVariable i y)) (same_number d frame both.0)
            (subst (λ j. slots_at e.site.typing (declared d x (no_value e.site.typing x) m) (OfVariable d j) ≡ slots_at e.site.typing m (OfVariable d j)) (same_number x y both.1)
            (with_there e.site.typing d x (fresh (no_value e.site.typing x)) m.variables ∙ sym old))

-- ---- one formal

-- The formal is declared on both sides.
pub record IsDeclared (e : Seen) (all : List Lying) (d : ℕ) (n : Memory) (g : Flat) (m : Memory) (got : Got Flat) : Type 0 where
  pub after : Flat
  pub gives : got ≡ Given after
  pub is : IsDeclaring e all d n g m after

low_declared : (s : Typing) (d x : ℕ) (ws : List Word) (m : Memory) → AreUndeclared s (suc d) m → AreUndeclared s (suc d) (declared d x ws m)
low_declared s d x ws m is = undeclared_on s (suc d) d x (fresh ws) m (last d) is
  where
    last : (n : ℕ) → n < suc n
    last n = omega arith

base_is : (e : Seen) (all : List Lying) (d : ℕ) (n : Memory) (g : Flat) (m : Memory) (f : Flat) → g.base ≡ e.flat.base → IsDeclaring e all d n g m f → f.base ≡ e.flat.base
base_is e all d n g m f base is = is.later.base ∙ base

passed_now : (e : Seen) (all : List Lying) (d : ℕ) (n : Memory) (g : Flat) (m : Memory) (f : Flat) → IsDeclaring e all d n g m f → (at_call : Pos) (x : ℕ) (arg : TypedTree) (a : machine.Passed) (q : Passed)
    → PassedStands e at_call (types n) x arg a q → PassedStands e at_call (types m) x arg a q
passed_now e all d n g m f is at_call x arg a q stands =
    subst (λ made. PassedStands e at_call made x arg a q) (sym is.later.grown) (passed_more e at_call (types n) is.later.more x arg a q stands)

above : (d : ℕ) → d ≤ suc d
above d = omega arith

formal_by : (e : Seen) (all : List Lying) (d : ℕ) (n : Memory) (g : Flat) (m : Memory) (f : Flat) → g.base ≡ e.flat.base → e.frame < d → IsDeclaring e all d n g m f → (at_call : Pos) (x : ℕ) (arg : TypedTree)
    → slots_at e.site.typing m (OfVariable d x) ≡ fresh (no_value e.site.typing x) → (p : ℕ) → Has all (formal_lying d x p) → (a : machine.Passed) (q : Passed) → PassedStands e at_call (types m) x arg a q
    → IsDeclared e all d n g (machine.with_formal e.site.typing d x a m) (with_formal (table e) p (formal_type e x) q f)
formal_by e all d n g m f base low is at_call x arg old p has (machine.Value ws) (Value zs) stands =
    let new = value_declared e all m f is.later.whole d x p has ws zs stands in
    record {
      after = with_stack f (spliced p zs f.stack);
      gives = new.0;
      is = record {
        later = later_on (at e n g) all m (declared d x ws m) f (with_stack f (spliced p zs f.stack)) is.later new.1;
        flags = frees_put e.memory (OfVariable d x) (fresh ws) m is.flags;
        undeclared = low_declared e.site.typing d x ws m is.undeclared;
      };
    }
formal_by e all d n g m f base low is at_call x arg old p has (machine.From k) (FromSpot w of) stands =
    let s : Typing = e.site.typing in
    let place = reached e all m f (base_is e all d n g m f base is) is.later.whole is.flags k of w stands.0 stands.1 in
    let gone = moves_out (at e m f) all is.later.whole of w k place in
    let m' : Memory = moved_out s k m in
    let ws : List Word = words_of s m k in
    let value = value_later (at e m f) all m' gone.after (sorts (table e) (formal_type e x)) ws gone.zs gone.later
    (value_as (table e) (types m) (sorts (table e) of) (sorts (table e) (formal_type e x)) ws gone.zs is.later.whole.laws stands.2 gone.value) in
    let new = value_declared e all m' gone.after gone.later.whole d x p has ws gone.zs value in
    let h : Flat = with_stack gone.after (spliced p gone.zs gone.after.stack) in
    let ks = kinds (table e) (formal_type e x) in
    record {
      after = h;
      gives =
          ap (λ y. and_then y (λ zs. and_then (flat.moved_out f w (kinds (table e) of) (access_offsets (table e) of)) (λ n. flat.stored n (InStack p) ks zs))) gone.held_is
          ∙ ap (λ y. and_then y (λ n. flat.stored n (InStack p) ks gone.zs)) gone.gives ∙ new.0;
      is = record {
        later = later_on (at e n g) all m (declared d x ws m') f h is.later (later_on (at e m f) all m' (declared d x ws m') gone.after h gone.later new.1);
        flags = frees_put e.memory (OfVariable d x) (fresh ws) m' (frees_moved e.memory s k m is.flags);
        undeclared = low_declared s d x ws m' (low_moved s (suc d) k m (higher d (suc d) k.base (above d) (found_low e (types m) k of w d low stands.1)) is.undeclared);
      };
    }
formal_by e all d n g m f base low is at_call x arg old p has (machine.To k) (ToSpot w of q) stands =
    let s : Typing = e.site.typing in
    let place = reached e all m f (base_is e all d n g m f base is) is.later.whole is.flags k of w stands.0 stands.1 in
    let gone = moves_out (at e m f) all is.later.whole of w k place in
    let m' : Memory = moved_out s k m in
    let below = found_low e (types m) k of w d low stands.1 in
    let new = default_declared e all m' gone.after gone.later.whole d x (moved_other s k m d x below ∙ old) in
    let ws : List Word = no_value s x in
    record {
      after = gone.after;
      gives = gone.gives;
      is = record {
        later = later_on (at e n g) all m (declared d x ws m') f gone.after is.later (later_on (at e m f) all m' (declared d x ws m') gone.after gone.after gone.later new);
        flags = frees_put e.memory (OfVariable d x) (fresh ws) m' (frees_moved e.memory s k m is.flags);
        undeclared = low_declared s d x ws m' (low_moved s (suc d) k m (higher d (suc d) k.base (above d) below) is.undeclared);
      };
    }
formal_by e all d n g m f base low is at_call x arg old p has (machine.Value ws) (FromSpot w of) stands = absurd stands
formal_by e all d n g m f base low is at_call x arg old p has (machine.Value ws) (ToSpot w of q) stands = absurd stands
formal_by e all d n g m f base low is at_call x arg old p has (machine.From k) (Value zs) stands = absurd stands
formal_by e all d n g m f base low is at_call x arg old p has (machine.From k) (ToSpot w of q) stands = absurd stands
formal_by e all d n g m f base low is at_call x arg old p has (machine.To k) (Value zs) stands = absurd stands
formal_by e all d n g m f base low is at_call x arg old p has (machine.To k) (FromSpot w of) stands = absurd stands

-- ---- all formals

-- Other formals have no value yet.
formal_other : (e : Seen) (made : List ℕ) (at_call : Pos) (d x y : ℕ) (arg : TypedTree) (m : Memory) (a : machine.Passed) (q : Passed) → e.frame < d → PassedStands e at_call made x arg a q → (x == y) ≡ false
    → slots_at e.site.typing (machine.with_formal e.site.typing d x a m) (OfVariable d y) ≡ slots_at e.site.typing m (OfVariable d y)
formal_other e made at_call d x y arg m (machine.Value ws) (Value zs) low stands other = with_others e.site.typing d x d y (fresh ws) m.variables (not_one d x y other)
  where
    and_false : (b : Bool) → (b && false) ≡ false
    and_false true = refl
    and_false false = refl

    not_one : (d x y : ℕ) → (x == y) ≡ false → ((d == d) && (x == y)) ≡ false
    not_one d x y other = ap (λ b. (d == d) && b) other ∙ and_false (d == d)
formal_other e made at_call d x y arg m (machine.From k) (FromSpot w of) low stands other =
    with_others e.site.typing d x d y (fresh (words_of e.site.typing m k)) (moved_out e.site.typing k m).variables (not_one d x y other)
    ∙ moved_other e.site.typing k m d y (found_low e made k of w d low stands.1)
  where
    and_false : (b : Bool) → (b && false) ≡ false
    and_false true = refl
    and_false false = refl

    not_one : (d x y : ℕ) → (x == y) ≡ false → ((d == d) && (x == y)) ≡ false
    not_one d x y other = ap (λ b. (d == d) && b) other ∙ and_false (d == d)
formal_other e made at_call d x y arg m (machine.To k) (ToSpot w of q) low stands other =
    with_others e.site.typing d x d y (fresh (no_value e.site.typing x)) (moved_out e.site.typing k m).variables (not_one d x y other)
    ∙ moved_other e.site.typing k m d y (found_low e made k of w d low stands.1)
  where
    and_false : (b : Bool) → (b && false) ≡ false
    and_false true = refl
    and_false false = refl

    not_one : (d x y : ℕ) → (x == y) ≡ false → ((d == d) && (x == y)) ≡ false
    not_one d x y other = ap (λ b. (d == d) && b) other ∙ and_false (d == d)
formal_other e made at_call d x y arg m (machine.Value ws) (FromSpot w of) low stands other = absurd stands
formal_other e made at_call d x y arg m (machine.Value ws) (ToSpot w of q) low stands other = absurd stands
formal_other e made at_call d x y arg m (machine.From k) (Value zs) low stands other = absurd stands
formal_other e made at_call d x y arg m (machine.From k) (ToSpot w of q) low stands other = absurd stands
formal_other e made at_call d x y arg m (machine.To k) (Value zs) low stands other = absurd stands
formal_other e made at_call d x y arg m (machine.To k) (FromSpot w of) low stands other = absurd stands

neither : (a b : Bool) → (a || b) ≡ false → (a ≡ false) × (b ≡ false)
neither false b is = (refl, is)
neither true b is = absurd (never is)
  where
    never : true ≡ false → ⊥
    never x = cc

not_among : (x y : ℕ) (formals : List ℕ) → list_any (λ z. z == x) formals ≡ false → Has formals y → (x == y) ≡ false
not_among x y [] lacks has = absurd has
not_among x y (z ∷ formals) lacks has =
    let both = neither (z == x) (list_any (λ z. z == x) formals) lacks in
    elim has [
      | inl same ↦ ap (λ k. x == k) (sym same) ∙ turned z x both.0
      | inr rest ↦ not_among x y formals both.1 rest
    ]
  where
    turned : (a b : ℕ) → (a == b) ≡ false → (b == a) ≡ false
    turned a b is = grind arith

-- Each formal lies at its offset.
abbrev pub FormalsLie : Typing → List Lying → ℕ → ℕ → List Kept → Type 0
FormalsLie s all d base kept = (x o : ℕ) → offset_from s 0 kept x ≡ Some o → Has all (formal_lying d x (base + o))

pub formals_declared : (e : Seen) (all : List Lying) (d base : ℕ) (kept : List Kept) (n : Memory) (g : Flat) (m : Memory) (f : Flat) → g.base ≡ e.flat.base → e.frame < d → FormalsLie e.site.typing all d base kept
    → IsDeclaring e all d n g m f → (at_call : Pos) (formals : List ℕ) (tree : TypedTree) (ps : List machine.Passed) (qs : List Passed) → AreDifferent formals
    → ((x : ℕ) → Has formals x → slots_at e.site.typing m (OfVariable d x) ≡ fresh (no_value e.site.typing x))
    → (o p : ℕ) → p ≡ base + o → AreFormals e.site.typing kept o formals → AllStandPassed e at_call (types n) formals tree ps qs
    → IsDeclared e all d n g (machine.with_formals e.site.typing d formals ps m) (with_formals (table e) p (map (λ x. formal_type e x) formals) qs f)
formals_declared e all d base kept n g m f based low lie is at_call [] tree [] [] different old o p at offsets stands = record { after = f; gives = refl; is = is }
formals_declared e all d base kept n g m f based low lie is at_call (x ∷ formals) (More arg rest) (a ∷ ps) (q ∷ qs) different old o p at offsets stands =
    let has : Has all (formal_lying d x p) = subst (λ i. Has all (formal_lying d x i)) (sym at) (lie x o offsets.0) in
    let first = formal_by e all d n g m f based low is at_call x arg (old x (inl refl)) p has a q (passed_now e all d n g m f is at_call x arg a q stands.0) in
    let m' : Memory = machine.with_formal e.site.typing d x a m in
    let more = formals_declared e all d base kept n g m' first.after based low lie first.is at_call formals rest ps qs different.1
    (λ y among. formal_other e (types n) at_call d x y arg m a q low stands.0 (not_among x y formals different.0 among) ∙ old y (inr among))
    (o + formal_words e.site.typing x) (p + formal_words e.site.typing x) (sums p base o (formal_words e.site.typing x) at) offsets.1 stands.1 in
    record {
      after = more.after;
      gives =
          ap (λ y. and_then y (with_formals (table e) (p + formal_words e.site.typing x) (map (λ x. formal_type e x) formals) qs)) first.gives ∙ more.gives;
      is = more.is;
    }
  where
    sums : (p b o w : ℕ) → p ≡ b + o → p + w ≡ b + (o + w)
    sums p b o w is = omega (arith, is)
formals_declared e all d base kept n g m f based low lie is at_call [] tree (a ∷ ps) qs different old o p at offsets stands = absurd stands
formals_declared e all d base kept n g m f based low lie is at_call [] tree [] (q ∷ qs) different old o p at offsets stands = absurd stands
formals_declared e all d base kept n g m f based low lie is at_call (x ∷ formals) (More arg rest) [] qs different old o p at offsets stands = absurd stands
formals_declared e all d base kept n g m f based low lie is at_call (x ∷ formals) (More arg rest) (a ∷ ps) [] different old o p at offsets stands = absurd stands
formals_declared e all d base kept n g m f based low lie is at_call (x ∷ formals) _ ps qs different old o p at offsets stands = absurd stands
