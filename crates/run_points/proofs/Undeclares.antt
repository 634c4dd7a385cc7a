-- An object that isn't declared any more has the words of one without a value.
use Rattle.std.proofs.Common.{◌≡◌, ℕ, true, false, Bool, not, List, [], ◌∷◌, length, drop, refl, sym, ap, subst, ◌∙◌, arith, if◌then◌else◌}
use Rattle.std.specs.Prelude.{◌==◌, ◌&&◌, filter}
use Rattle.spark_base.specs.Lists.{Has}
use Rattle.flow_paths.specs.Objects.{Typing, object_at}
use Rattle.flow_paths.specs.Laid.{flow_typing}
use Rattle.machine.specs.Words.{default}
use Rattle.machine.specs.Memory.{Memory, Variable, OfVariable, fresh, variable_slots, is_variable, with_variable, slots_at, declared, undeclared}
use Rattle.run_codes.specs.Flat.{Flat}
use Rattle.run_codes.specs.Related.{AllStand, types, Lying, lying_sorts, Related}
use Rattle.run_codes.proofs.Places.{both_true}
use Rattle.run_codes.proofs.Stores.{with_there, with_others}
use Rattle.run_points.specs.States.{Laid, AreUndeclared}
use Rattle.run_points.specs.Turns.{Turns, IsKept}

-- ---- variables that are removed

abbrev pub without : ℕ → ℕ → List Variable → List Variable
without frame x vs = filter (λ v. not (is_variable frame x v)) vs

same_number : (a b : ℕ) → (a == b) ≡ true → a ≡ b
same_number a b is = grind arith

equal : (n : ℕ) → (n == n) ≡ true
equal n = grind arith

gone_by : (s : Typing) (frame x : ℕ) (v : Variable) (vs : List Variable) → variable_slots s frame x (without frame x vs) ≡ fresh (default s.table (object_at s x).of)
    → (k : Bool) → is_variable frame x v ≡ k → variable_slots s frame x (if not k then v ∷ without frame x vs else without frame x vs) ≡ fresh (default s.table (object_at s x).of)
gone_by s frame x v vs rest true is = rest
gone_by s frame x v vs rest false is = ap (λ k. if k then v.slots else variable_slots s frame x (without frame x vs)) is ∙ rest

gone_there : (s : Typing) (frame x : ℕ) (vs : List Variable) → variable_slots s frame x (without frame x vs) ≡ fresh (default s.table (object_at s x).of)
gone_there s frame x [] = refl
gone_there s frame x (v ∷ vs) = gone_by s frame x v vs (gone_there s frame x vs) (is_variable frame x v) refl

not_both : (frame x other y : ℕ) (v : Variable) → ((frame == other) && (x == y)) ≡ false → is_variable frame x v ≡ true → is_variable other y v ≡ true → ⊥
not_both frame x other y v apart is has =
    let a = both_true (v.frame == frame) (v.object == x) is in
    let b = both_true (v.frame == other) (v.object == y) has in
    let frames : frame ≡ other = sym (same_number v.frame frame a.0) ∙ same_number v.frame other b.0 in
    let objects : x ≡ y = sym (same_number v.object x a.1) ∙ same_number v.object y b.1 in
    never (sym apart ∙ ap (λ k. (frame == k) && (x == y)) (sym frames) ∙ ap (λ k. (frame == frame) && (x == k)) (sym objects)
    ∙ ap (λ b. b && (x == x)) (equal frame) ∙ equal x)
  where
    never : false ≡ true → ⊥
    never z = cc

others_by : (s : Typing) (frame x other y : ℕ) (v : Variable) (vs rest : List Variable) → ((frame == other) && (x == y)) ≡ false
    → variable_slots s other y rest ≡ variable_slots s other y vs
    → (k j : Bool) → is_variable frame x v ≡ k → is_variable other y v ≡ j
    → variable_slots s other y (if not k then v ∷ rest else rest) ≡ variable_slots s other y (v ∷ vs)
others_by s frame x other y v vs rest apart same true true is has = absurd (not_both frame x other y v apart is has)
others_by s frame x other y v vs rest apart same true false is lacks = same ∙ sym (ap (λ k. if k then v.slots else variable_slots s other y vs) lacks)
others_by s frame x other y v vs rest apart same false j is has = ap (λ l. if is_variable other y v then v.slots else l) same

gone_others : (s : Typing) (frame x other y : ℕ) (vs : List Variable) → ((frame == other) && (x == y)) ≡ false
    → variable_slots s other y (without frame x vs) ≡ variable_slots s other y vs
gone_others s frame x other y [] apart = refl
gone_others s frame x other y (v ∷ vs) apart =
    others_by s frame x other y v vs (without frame x vs) apart (gone_others s frame x other y vs apart) (is_variable frame x v) (is_variable other y v) refl refl

-- All variables have what they have where the object is declared without a value.
pub undeclared_slots : (s : Typing) (frame x : ℕ) (m : Memory) (other y : ℕ)
    → slots_at s (undeclared frame x m) (OfVariable other y) ≡ slots_at s (declared frame x (default s.table (object_at s x).of) m) (OfVariable other y)
undeclared_slots s frame x m other y = by ((frame == other) && (x == y)) refl
  where
    new : List Variable
    new = with_variable frame x (fresh (default s.table (object_at s x).of)) m.variables

    by : (k : Bool) → ((frame == other) && (x == y)) ≡ k → variable_slots s other y (without frame x m.variables) ≡ variable_slots s other y new
    by false apart = gone_others s frame x other y m.variables apart ∙ sym (with_others s frame x other y (fresh (default s.table (object_at s x).of)) m.variables apart)
    by true same =
        let both = both_true (frame == other) (x == y) same in
        subst (λ i. variable_slots s i y (without frame x m.variables) ≡ variable_slots s i y new) (same_number frame other both.0)
        (subst (λ j. variable_slots s frame j (without frame x m.variables) ≡ variable_slots s frame j new) (same_number x y both.1)
        (gone_there s frame x m.variables ∙ sym (with_there s frame x (fresh (default s.table (object_at s x).of)) m.variables)))

-- ---- all of the memory

-- Other variables, with the same slots of the objects that lie in the stack.
pub other_variables : (s : Typing) (all : List Lying) (m : Memory) (vs ws : List Variable) (f : Flat)
    → ((l : Lying) → Has all l → variable_slots s l.frame l.object vs ≡ variable_slots s l.frame l.object ws)
    → Related s all (record m { variables = ws }) f → Related s all (record m { variables = vs }) f
other_variables s all m vs ws f same is = record {
  objects = λ l has. subst (λ xs. AllStand s.table (types m) (lying_sorts s l) xs (drop l.at f.stack)) (sym (same l has)) (is.objects l has);
  cells = is.cells;
  counted = record { made = is.counted.made; few = is.counted.few; live = is.counted.live; freed = is.counted.freed };
}

pub undeclared_related : (s : Typing) (all : List Lying) (frame x : ℕ) (m : Memory) (f : Flat) → Related s all (declared frame x (default s.table (object_at s x).of) m) f
    → Related s all (undeclared frame x m) f
undeclared_related s all frame x m f is =
    other_variables s all m (without frame x m.variables) (with_variable frame x (fresh (default s.table (object_at s x).of)) m.variables) f
    (λ l has. undeclared_slots s frame x m l.frame l.object) is

pub undeclared_low : (s : Typing) (count frame x : ℕ) (m : Memory) → AreUndeclared s count (declared frame x (default s.table (object_at s x).of) m)
    → AreUndeclared s count (undeclared frame x m)
undeclared_low s count frame x m is other y high = undeclared_slots s frame x m other y ∙ is other y high

-- An object of the frame that runs.
pub undeclared_kept : (b : Turns) (laid : Laid) (x : ℕ) (m : Memory) (f : Flat)
    → IsKept b laid (declared (length b.outer) x (default (flow_typing b.program).table (object_at (flow_typing b.program) x).of) m) f
    → IsKept b laid (undeclared (length b.outer) x m) f
undeclared_kept b laid x m f is = record {
  related = undeclared_related (flow_typing b.program) laid.objects (length b.outer) x m f is.related;
  more = is.more;
  made = is.made;
  long = is.long;
  undeclared = undeclared_low (flow_typing b.program) (length (b.frame ∷ b.outer)) (length b.outer) x m is.undeclared;
  loops = is.loops;
}
