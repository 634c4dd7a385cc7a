-- The objects that points give room.
use Rattle.std.proofs.Common.{◌≡◌, refl, sym, ap, ◌∙◌, subst, inl, inr, ℕ, Bool, true, false, ◌||◌, ◌==◌, List, [], ◌∷◌, ◌++◌, map, if◌then◌else◌, arith}
use Rattle.std.proofs.lemmas.Bool.{eq-eqb, false≢true}
use Rattle.std.proofs.lemmas.List.Folds.{list_any-append}
use Rattle.machine.specs.spark_base.Lists.{Has}
use Rattle.soundness.proofs.Lists.{Has-append_cases}
use Rattle.machine.specs.flow_paths.Instructions.{Instruction, Declare, Start}
use Rattle.machine.specs.flow_paths.Points.{FlowPoint}
use Rattle.run_codes.specs.Lowered.{Kept}
use Rattle.run_codes.specs.Programs.{kept, has_room, with_room, room_of, rooms_of, is_loop}
use Rattle.sound_files.proofs.TypedFiles.LoweredFiles.Opened.{Opens}

same_number : (a b : ℕ) → (a == b) ≡ true → a ≡ b
same_number a b is = grind arith

-- ---- what has room keeps it

room_left : (x : ℕ) (all more : List Kept) → has_room x all ≡ true → has_room x (all ++ more) ≡ true
room_left x all more has =
    list_any-append (λ (k : Kept). k.object == x) all more ∙ ap (λ b. b || has_room x more) has

with_kept : (x : ℕ) (k : Kept) (all : List Kept) → has_room x all ≡ true → has_room x (with_room k all) ≡ true
with_kept x k all has = by (has_room k.object all)
  where
    by : (b : Bool) → has_room x (if b then all else all ++ k ∷ []) ≡ true
    by true = has
    by false = room_left x all (k ∷ []) has

room_kept : (x : ℕ) (i : Instruction) (all : List Kept) → has_room x all ≡ true → has_room x (room_of i all) ≡ true
room_kept x (Declare y v) all has = with_kept x (kept y false) all has
room_kept x (Start y reversed low high) all has = with_kept x (kept y true) all has
room_kept x i all has = has

pub rooms_kept : (x : ℕ) (ps : List FlowPoint) (all : List Kept) → has_room x all ≡ true → has_room x (rooms_of ps all) ≡ true
rooms_kept x [] all has = has
rooms_kept x (p ∷ ps) all has = rooms_kept x ps (room_of p.instr all) (room_kept x p.instr all has)

-- ---- what is declared has room

with_new : (x y : ℕ) (loops : Bool) (all : List Kept) → y ≡ x → has_room x (with_room (kept y loops) all) ≡ true
with_new x y loops all e = by (has_room y all) refl
  where
    by : (b : Bool) → has_room y all ≡ b → has_room x (if b then all else all ++ kept y loops ∷ []) ≡ true
    by true is = subst (λ z. has_room z all ≡ true) e is
    by false is =
        list_any-append (λ (k : Kept). k.object == x) all (kept y loops ∷ []) ∙ last (has_room x all) (y == x) (eq-eqb y x e)
      where
        last : (a b : Bool) → b ≡ true → a || (b || false) ≡ true
        last a b e = grind (arith, e)

room_new : (x : ℕ) (i : Instruction) (all : List Kept) → Opens x i → has_room x (room_of i all) ≡ true
room_new x (Declare y v) all opens = with_new x y false all opens
room_new x (Start y reversed low high) all opens = with_new x y true all opens
room_new x i all opens = absurd opens

pub opened : (x : ℕ) (ps : List FlowPoint) (all : List Kept) (p : FlowPoint) → Has ps p → Opens x p.instr → has_room x (rooms_of ps all) ≡ true
opened x [] all p has opens = absurd has
opened x (q ∷ ps) all p (inl e) opens = rooms_kept x ps (room_of q.instr all) (room_new x q.instr all (subst (λ (z : FlowPoint). Opens x z.instr) (sym e) opens))
opened x (q ∷ ps) all p (inr has) opens = opened x ps (room_of q.instr all) p has opens

pub formal_room : (x : ℕ) (formals : List ℕ) → Has formals x → has_room x (map (λ y. kept y false) formals) ≡ true
formal_room x [] has = absurd has
formal_room x (y ∷ formals) (inl e) = ap (λ b. b || has_room x (map (λ y. kept y false) formals)) (eq-eqb y x e)
formal_room x (y ∷ formals) (inr has) = later (y == x) (has_room x (map (λ y. kept y false) formals)) (formal_room x formals has)
  where
    later : (a b : Bool) → b ≡ true → a || b ≡ true
    later a b e = grind (arith, e)

-- ---- rooms of loops

-- Each room of an object is that of a loop.
abbrev pub Loops : ℕ → List Kept → Type 0
Loops x all = (k : Kept) → Has all k → k.object ≡ x → k.loops ≡ true

-- A step declares it as the parameter of a loop alone.
abbrev pub Turns : ℕ → Instruction → Type 0
Turns x (Declare y v) = y ≡ x → ⊥
Turns x _ = Unit {0}

with_loops : (x : ℕ) (k : Kept) (all : List Kept) → Loops x all → (k.object ≡ x → k.loops ≡ true) → Loops x (with_room k all)
with_loops x k all loops own = by (has_room k.object all)
  where
    by : (b : Bool) → Loops x (if b then all else all ++ k ∷ [])
    by true = loops
    by false = λ j has is. elim (Has-append_cases all (k ∷ []) j has) [
      | inl before ↦ loops j before is
      | inr here ↦ elim here [ inl e ↦ subst (λ (z : Kept). z.object ≡ x → z.loops ≡ true) e own is | inr none ↦ absurd none ]
    ]

room_loops : (x : ℕ) (i : Instruction) (all : List Kept) → Turns x i → Loops x all → Loops x (room_of i all)
room_loops x (Declare y v) all turns loops = with_loops x (kept y false) all loops (λ is. absurd (turns is))
room_loops x (Start y reversed low high) all turns loops = with_loops x (kept y true) all loops (λ is. refl)
room_loops x i all turns loops = loops

pub rooms_loop : (x : ℕ) (ps : List FlowPoint) (all : List Kept) → ((p : FlowPoint) → Has ps p → Turns x p.instr) → Loops x all → Loops x (rooms_of ps all)
rooms_loop x [] all turns loops = loops
rooms_loop x (p ∷ ps) all turns loops = rooms_loop x ps (room_of p.instr all) (λ q has. turns q (inr has)) (room_loops x p.instr all (turns p (inl refl)) loops)

pub formals_loop : (x : ℕ) (formals : List ℕ) → (Has formals x → ⊥) → Loops x (map (λ y. kept y false) formals)
formals_loop x [] lacks k has is = absurd has
formals_loop x (y ∷ formals) lacks k (inl e) is = absurd (lacks (inl (subst (λ (z : Kept). z.object ≡ x) (sym e) is)))
formals_loop x (y ∷ formals) lacks k (inr has) is = formals_loop x formals (λ more. lacks (inr more)) k has is

pub loop_is : (x : ℕ) (all : List Kept) → has_room x all ≡ true → Loops x all → is_loop x all ≡ true
loop_is x [] has loops = absurd (false≢true has)
loop_is x (k ∷ all) has loops = by (k.object == x) refl (λ later. loop_is x all later (λ j more is. loops j (inr more) is))
  where
    after : (b : Bool) → b ≡ false → b || has_room x all ≡ true → has_room x all ≡ true
    after b e h = grind (arith, e, h)

    by : (b : Bool) → (k.object == x) ≡ b → (has_room x all ≡ true → is_loop x all ≡ true) → (if b then k.loops else is_loop x all) ≡ true
    by true is more = loops k (inl refl) (same_number k.object x is)
    by false is more = more (after (k.object == x) is has)
