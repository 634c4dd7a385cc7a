-- A frame is given back: what lies below it stands as it did.
use Rattle.std.proofs.Common.{◌≡◌, inl, inr, ℕ, zero, suc, ◌+◌, ◌<◌, ◌≤◌, true, false, Bool, not, List, [], ◌∷◌, length, take, drop, filter, refl, sym, ap, subst, ◌∙◌, arith, ℤ, nat_lt, if◌then◌else◌}
use Rattle.std.specs.Prelude.{◌==◌}
use Rattle.spark_base.specs.Lists.{Has}
use Rattle.type_definitions.specs.Types.{Table}
use Rattle.flow_paths.specs.Objects.{Typing, object_at}
use Rattle.flow_paths.specs.Laid.{FlowProgram, flow_typing}
use Rattle.flow_paths.specs.Instructions.{Finish}
use Rattle.machine.specs.Words.{default}
use Rattle.machine.specs.Typed.{Sort}
use Rattle.machine.specs.Memory.{Memory, Slot, Variable, Place, OfVariable, fresh, variable_slots, is_variable, without_frame, slots_at}
use Rattle.machine.specs.Evaluate.{Evaluated}
use Rattle.machine.specs.States as machine
use Rattle.machine.specs.Step as machine_step
use Rattle.run_codes.specs.Codes.{Does}
use Rattle.run_codes.specs.Codes as codes
use Rattle.run_codes.specs.Flat.{Flat, Made, Failed, Spot, InStack, InCell}
use Rattle.run_codes.specs.Flat as flat
use Rattle.run_codes.specs.Lowered.{Site}
use Rattle.run_codes.specs.Points.{Return, Frame, State, Outcome, counted, on_made, copied_back, done}
use Rattle.run_codes.specs.Points as points
use Rattle.run_codes.specs.Related.{AllStand, types, now, Lying, lying_sorts, IsSited}
use Rattle.run_codes.proofs.Places.{both_true, some_same, below, is_below}
use Rattle.run_fills.proofs.Wholes.{unchanged}
use Rattle.run_points.specs.Outcomes.{IsAlike}
use Rattle.run_points.specs.States.{LoopAt, LoopsApart, PlaceStands, ReturnsStand, Laid, site_of, FramesStand, FirstRuns, AreUndeclared, MemoryStands, StateStands, IsLow}
use Rattle.run_points.specs.Turns.{Turns, state, turn, flat_state, flat_turn, seen, TurnStands, DoesAlike}
use Rattle.run_points.proofs.Sizes.{sizes_same}
use Rattle.run_points.proofs.Ends.{start_is}
use Rattle.run_points.proofs.More.{frames_more}
use Rattle.run_points.proofs.Halts.{is_whole}
use Rattle.run_points.proofs.Undeclares.{other_variables}
use Rattle.run_points.proofs.Called.{stopping_alike}
use Rattle.run_points.proofs.Returns.{IsCopying, CopiesBack, machine_copied, copies_back}

-- ---- lists

kept_by : {A : Type 0} (p : A → Bool) (x a : A) (xs : List A) → (Has (filter p xs) a → Has xs a × (p a ≡ true)) → (b : Bool) → p x ≡ b → Has (if b then x ∷ filter p xs else filter p xs) a → Has (x ∷ xs) a × (p a ≡ true)
kept_by p x a xs rest true is has = elim has [
  | inl same ↦ (inl same, ap p (sym same) ∙ is)
  | inr more ↦ (let both = rest more in (inr both.0, both.1))
]
kept_by p x a xs rest false is has = let both = rest has in (inr both.0, both.1)

filtered : {A : Type 0} (p : A → Bool) (xs : List A) (a : A) → Has (filter p xs) a → Has xs a × (p a ≡ true)
filtered p [] a has = absurd has
filtered p (x ∷ xs) a has = kept_by p x a xs (λ has. filtered p xs a has) (p x) refl has

stays_by : {A : Type 0} (p : A → Bool) (x a : A) (xs : List A) → (Has xs a → Has (filter p xs) a) → p a ≡ true → (b : Bool) → p x ≡ b → Has (x ∷ xs) a → Has (if b then x ∷ filter p xs else filter p xs) a
stays_by p x a xs rest sure true is has = elim has [
  | inl same ↦ inl same
  | inr more ↦ inr (rest more)
]
stays_by p x a xs rest sure false is has = elim has [
  | inl same ↦ absurd (never (sym is ∙ ap p same ∙ sure))
  | inr more ↦ rest more
]
  where
    never : false ≡ true → ⊥
    never z = cc

stays : {A : Type 0} (p : A → Bool) (xs : List A) (a : A) → Has xs a → p a ≡ true → Has (filter p xs) a
stays p [] a has sure = absurd has
stays p (x ∷ xs) a has sure = stays_by p x a xs (λ has. stays p xs a has sure) sure (p x) refl has

-- ---- words of the stack below

stand_first : (table : Table) (made : List ℕ) (all : List Sort) (n : ℕ) (xs : List Slot) (zs : List ℤ) → length all ≤ n → AllStand table made all xs zs → AllStand table made all xs (take n zs)
stand_first table made [] n xs zs le is = tt
stand_first table made (s ∷ all) zero xs zs le is = absurd (omega (arith, le))
stand_first table made (s ∷ all) (suc n) [] zs le is = absurd is
stand_first table made (s ∷ all) (suc n) (x ∷ xs) [] le is = absurd is
stand_first table made (s ∷ all) (suc n) (x ∷ xs) (z ∷ zs) le is = (is.0, stand_first table made all n xs zs (omega (arith, le)) is.1)

stand_below : (table : Table) (made : List ℕ) (all : List Sort) (a n : ℕ) (xs : List Slot) (zs : List ℤ) → a + length all ≤ n → AllStand table made all xs (drop a zs) → AllStand table made all xs (drop a (take n zs))
stand_below table made all zero n xs zs le is = stand_first table made all n xs zs (omega (arith, le)) is
stand_below table made all (suc a) zero xs zs le is = absurd (omega (arith, le))
stand_below table made all (suc a) (suc n) xs [] le is = is
stand_below table made all (suc a) (suc n) xs (z ∷ zs) le is = stand_below table made all a n xs zs (omega (arith, le)) is

first_below : {A : Type 0} (k n : ℕ) (zs : List A) → k ≤ n → take k (take n zs) ≡ take k zs
first_below zero n zs le = refl
first_below (suc k) zero zs le = absurd (omega (arith, le))
first_below (suc k) (suc n) [] le = refl
first_below (suc k) (suc n) (z ∷ zs) le = ap (λ l. z ∷ l) (first_below k n zs (omega (arith, le)))

three_below : (c n : ℕ) (zs : List ℤ) → c + 3 ≤ n → take 3 (drop c (take n zs)) ≡ take 3 (drop c zs)
three_below zero n zs le = first_below 3 n zs (omega (arith, le))
three_below (suc c) zero zs le = absurd (omega (arith, le))
three_below (suc c) (suc n) [] le = refl
three_below (suc c) (suc n) (z ∷ zs) le = three_below c n zs (omega (arith, le))

within_first : (k n : ℕ) (zs : List ℤ) → k ≤ n → k ≤ length zs → k ≤ length (take n zs)
within_first zero n zs low le = none (length (take n zs))
  where
    none : (n : ℕ) → 0 ≤ n
    none n = omega arith
within_first (suc k) zero zs low le = absurd (omega (arith, low))
within_first (suc k) (suc n) [] low le = absurd (omega (arith, le))
within_first (suc k) (suc n) (z ∷ zs) low le = let more = within_first k n zs (omega (arith, low)) (omega (arith, le)) in omega (arith, more)

-- ---- variables

abbrev below_frame : ℕ → List Variable → List Variable
below_frame d vs = filter (λ (v : Variable). not (v.frame == d)) vs

same_number : (a b : ℕ) → (a == b) ≡ true → a ≡ b
same_number a b is = grind arith

equal : (n : ℕ) → (n == n) ≡ true
equal n = grind arith

-- Variables of other frames stay.
other_by : (s : Typing) (d frame x : ℕ) (v : Variable) (vs rest : List Variable) → (frame == d) ≡ false → variable_slots s frame x rest ≡ variable_slots s frame x vs → (k j : Bool) → (v.frame == d) ≡ k → is_variable frame x v ≡ j
    → variable_slots s frame x (if not k then v ∷ rest else rest) ≡ variable_slots s frame x (v ∷ vs)
other_by s d frame x v vs rest apart same false j is has = ap (λ l. if is_variable frame x v then v.slots else l) same
other_by s d frame x v vs rest apart same true false is lacks = same ∙ sym (ap (λ k. if k then v.slots else variable_slots s frame x vs) lacks)
other_by s d frame x v vs rest apart same true true is has =
    let both = both_true (v.frame == frame) (v.object == x) has in
    absurd (never (sym apart ∙ ap (λ n. n == d) (sym (same_number v.frame frame both.0)) ∙ is))
  where
    never : false ≡ true → ⊥
    never z = cc

others_stay : (s : Typing) (d frame x : ℕ) (vs : List Variable) → (frame == d) ≡ false → variable_slots s frame x (below_frame d vs) ≡ variable_slots s frame x vs
others_stay s d frame x [] apart = refl
others_stay s d frame x (v ∷ vs) apart = other_by s d frame x v vs (below_frame d vs) apart (others_stay s d frame x vs apart) (v.frame == d) (is_variable frame x v) refl refl

-- Those of the frame aren't there any more.
gone_by : (s : Typing) (d x : ℕ) (v : Variable) (rest : List Variable) → variable_slots s d x rest ≡ fresh (default s.table (object_at s x).of) → (k j : Bool) → (v.frame == d) ≡ k → is_variable d x v ≡ j
    → variable_slots s d x (if not k then v ∷ rest else rest) ≡ fresh (default s.table (object_at s x).of)
gone_by s d x v rest gone true j is has = gone
gone_by s d x v rest gone false false is lacks = ap (λ k. if k then v.slots else variable_slots s d x rest) lacks ∙ gone
gone_by s d x v rest gone false true is has = absurd (never (sym is ∙ (both_true (v.frame == d) (v.object == x) has).0))
  where
    never : false ≡ true → ⊥
    never z = cc

frame_gone : (s : Typing) (d x : ℕ) (vs : List Variable) → variable_slots s d x (below_frame d vs) ≡ fresh (default s.table (object_at s x).of)
frame_gone s d x [] = refl
frame_gone s d x (v ∷ vs) = gone_by s d x v (below_frame d vs) (frame_gone s d x vs) (v.frame == d) (is_variable d x v) refl refl

pub undeclared_below : (s : Typing) (d : ℕ) (m : Memory) → AreUndeclared s (suc d) m → AreUndeclared s d (without_frame d m)
undeclared_below s d m is frame x high = by (frame == d) refl
  where
    higher : (a d : ℕ) → d ≤ a → (a == d) ≡ false → suc d ≤ a
    higher a d high other = grind arith

    by : (b : Bool) → (frame == d) ≡ b → variable_slots s frame x (below_frame d m.variables) ≡ fresh (default s.table (object_at s x).of)
    by true same =
        subst (λ n. variable_slots s n x (below_frame d m.variables) ≡ fresh (default s.table (object_at s x).of)) (sym (same_number frame d same)) (frame_gone s d x m.variables)
    by false other = others_stay s d frame x m.variables other ∙ is frame x (higher frame d high other)

-- ---- what lies below

abbrev is_under : ℕ → Lying → Bool
is_under d l = nat_lt l.frame d

abbrev loop_under : ℕ → LoopAt → Bool
loop_under d c = nat_lt c.frame d

abbrev laid_below : Laid → ℕ → Laid
laid_below laid d = record { objects = filter (is_under d) laid.objects; loops = filter (loop_under d) laid.loops }

not_same : (a d : ℕ) → a < d → (a == d) ≡ false
not_same a d low = grind arith

memory_below : (program : FlowProgram) (laid : Laid) (d base : ℕ) (m : Memory) (f : Flat) → MemoryStands program laid (suc d) m f
    → ((l : Lying) → Has laid.objects l → l.frame < d → l.at + length (lying_sorts (flow_typing program) l) ≤ base) → ((c : LoopAt) → Has laid.loops c → c.frame < d → c.at + 3 ≤ base)
    → MemoryStands program (laid_below laid d) d (without_frame d m) (record f { stack = take base f.stack })
memory_below program laid d base m f is under loops_under = record {
  related = other_variables s (laid_below laid d).objects m (below_frame d m.variables) m.variables (record f { stack = take base f.stack })
      (λ l has. others_stay s d l.frame l.object m.variables (not_same l.frame d (object l has).1))
      (record {
        objects = λ l has.
            let sure = object l has in
            stand_below s.table (types m) (lying_sorts s l) l.at base (slots_at s m (OfVariable l.frame l.object)) f.stack (under l sure.0 sure.1) (is.related.objects l sure.0);
        cells = is.related.cells;
        counted = record { made = is.related.counted.made; few = is.related.counted.few; live = is.related.counted.live; freed = is.related.counted.freed };
      });
  apart = record {
    within = λ l has. let sure = object l has in within_first (l.at + length (lying_sorts s l)) base f.stack (under l sure.0 sure.1) (is.apart.within l sure.0);
    apart = λ l k has other. is.apart.apart l k (object l has).0 (object k other).0;
  };
  loops_apart = record {
    within = λ c has. let sure = loop c has in within_first (c.at + 3) base f.stack (loops_under c sure.0 sure.1) (is.loops_apart.within c sure.0);
    objects = λ l c has other. is.loops_apart.objects l c (object l has).0 (loop c other).0;
    apart = λ b c has other. is.loops_apart.apart b c (loop b has).0 (loop c other).0;
  };
  undeclared = undeclared_below s d m is.undeclared;
  low = λ l has. (object l has).1;
  loops_low = λ c has. (loop c has).1;
}
  where
    s : Typing
    s = flow_typing program

    object : (l : Lying) → Has (laid_below laid d).objects l → Has laid.objects l × (l.frame < d)
    object l has = let sure = filtered (is_under d) laid.objects l has in (sure.0, below l.frame d sure.1)

    loop : (c : LoopAt) → Has (laid_below laid d).loops c → Has laid.loops c × (c.frame < d)
    loop c has = let sure = filtered (loop_under d) laid.loops c has in (sure.0, below c.frame d sure.1)

-- ---- frames below

sited_below : (c : Site) (laid : Laid) (d frame base : ℕ) → frame < d → IsSited c frame base laid.objects → IsSited c frame base (laid_below laid d).objects
sited_below c laid d frame base low is = record {
  own = λ x at there own. stays (is_under d) laid.objects (record { frame = frame; object = x; at = base + at }) (is.own x at there own) (is_below frame d low);
  packages = λ x at there own. stays (is_under d) laid.objects (record { frame = 0; object = x; at = at }) (is.packages x at there own) (is_below 0 d (first frame d low));
}
  where
    first : (a d : ℕ) → a < d → 0 < d
    first a d low = omega (arith, low)

place_below : (s : Typing) (laid : Laid) (d n : ℕ) (made : List ℕ) (p : Place) (w : Spot) → n < d → IsLow n p.base → PlaceStands s laid.objects made p w → PlaceStands s (laid_below laid d).objects made p w
place_below s laid d n made p (InStack k) less low is =
    let frame : is.0.frame < n = subst (λ b. IsLow n b) is.2 low in
    (is.0, stays (is_under d) laid.objects is.0 is.1 (is_below is.0.frame d (omega (arith, frame, less))), is.2, is.3, is.4)
place_below s laid d n made p (InCell k o) less low is = is

returns_below : (c : Site) (laid : Laid) (d n : ℕ) (made : List ℕ) (rs : List machine.Return) (qs : List Return) → n < d → ReturnsStand c laid.objects n made rs qs → ReturnsStand c (laid_below laid d).objects n made rs qs
returns_below c laid d n made [] [] less is = tt
returns_below c laid d n made (r ∷ rs) (q ∷ qs) less is = (
  record { own = is.0.own; at = is.0.at; from = is.0.from; of = is.0.of; to = place_below c.typing laid d n made r.to q.to less is.0.low is.0.to; low = is.0.low; fits = is.0.fits },
  returns_below c laid d n made rs qs less is.1,
)
returns_below c laid d n made [] (q ∷ qs) less is = absurd is
returns_below c laid d n made (r ∷ rs) [] less is = absurd is

-- Words of loops below are as they were.
frames_below : (program : FlowProgram) (laid : Laid) (made : List ℕ) (stack other : List ℤ) (d : ℕ) (fs : List machine.Frame) (gs : List Frame) → length fs ≤ d
    → ((c : LoopAt) → Has laid.loops c → c.frame < d → take 3 (drop c.at other) ≡ take 3 (drop c.at stack)) → FramesStand program laid made stack fs gs
    → FramesStand program (laid_below laid d) made other fs gs
frames_below program laid made stack other d [] [] le same is = tt
frames_below program laid made stack other d (f ∷ fs) (g ∷ gs) le same is =
    let less : length fs < d = omega (arith, le) in (
      record {
        next = is.0.next;
        within = is.0.within;
        words = is.0.words;
        few = is.0.few;
        waits = is.0.waits;
        sited = sited_below (site_of program f.sub []) laid d (length fs) g.base less is.0.sited;
        lying = λ l has of. is.0.lying l (filtered (is_under d) laid.objects l has).0 of;
        looping = λ c has of. is.0.looping c (filtered (loop_under d) laid.loops c has).0 of;
        first = is.0.first;
        turning = λ x at there. stays (loop_under d) laid.loops (record { frame = length fs; parameter = x; at = g.base + (at + 1) }) (is.0.turning x at there) (is_below (length fs) d less);
        loops = λ c has of. (let sure = filtered (loop_under d) laid.loops c has in same c sure.0 (below c.frame d sure.1) ∙ is.0.loops c sure.0 of);
        bounds = is.0.bounds;
        returns = returns_below (site_of program f.sub []) laid d (length fs) made f.returns g.returns less is.0.returns;
        below = λ l has low. is.0.below l (filtered (is_under d) laid.objects l has).0 low;
        loops_below = λ c has low. is.0.loops_below c (filtered (loop_under d) laid.loops c has).0 low;
      },
      frames_below program laid made stack other d fs gs (omega (arith, le)) same is.1,
    )
frames_below program laid made stack other d [] (g ∷ gs) le same is = absurd is
frames_below program laid made stack other d (f ∷ fs) [] le same is = absurd is

-- ---- the state after the call

-- The frame that is innermost now runs, where it isn't the first one.
runs_below : (program : FlowProgram) (laid : Laid) (made : List ℕ) (stack : List ℤ) (f h : machine.Frame) (fs : List machine.Frame) (gs : List Frame) → FramesStand program laid made stack (f ∷ h ∷ fs) gs → FirstRuns program (f ∷ h ∷ fs)
runs_below program laid made stack f h fs [] is = absurd is
runs_below program laid made stack f h fs (g ∷ gs) is = elim is.0.within [
  | inl runs ↦ runs
  | inr first ↦ absurd (never (length fs) (is.0.first first).0)
]
  where
    never : (n : ℕ) → suc n ≡ 0 → ⊥
    never n is = omega (arith, is)

same : (n : ℕ) → n ≤ n
same n = omega arith

copied_memory : (b : Turns) (laid : Laid) → TurnStands b laid → (m : Memory) (f : Flat) → IsCopying (seen b) laid.objects m f → MemoryStands b.program laid (suc (length b.outer)) m f
copied_memory b laid is m f copying = record {
  related = copying.later.whole.related;
  apart = copying.later.whole.apart;
  loops_apart = subst (λ n. LoopsApart (flow_typing b.program) laid.objects laid.loops n) (sym copying.later.long) is.memory.loops_apart;
  undeclared = copying.undeclared;
  low = is.memory.low;
  loops_low = is.memory.loops_low;
}

below_stands : (b : Turns) (laid : Laid) → TurnStands b laid → (m : Memory) (f : Flat) → IsCopying (seen b) laid.objects m f
    → FramesStand b.program (laid_below laid (length b.outer)) (types (without_frame (length b.outer) m)) (take b.flat_frame.base f.stack) b.outer b.flat_outer
below_stands b laid is m f copying =
    let base : ℕ = b.flat_frame.base in
    let d : ℕ = length b.outer in
    let frames = frames_below b.program laid (types b.memory) b.flat.stack (take base f.stack) d b.outer b.flat_outer (same d)
    (λ c has low. three_below c.at base f.stack (is.frame.loops_below c has low)
    ∙ copying.later.elsewhere c.at 3 (λ l there. is.memory.loops_apart.objects l c there has)) is.outer in
    subst (λ made. FramesStand b.program (laid_below laid d) made (take base f.stack) b.outer b.flat_outer) (sym copying.later.grown)
    (frames_more b.program (laid_below laid d) (types b.memory) copying.later.more (take base f.stack) b.outer b.flat_outer frames)

-- ---- the step

abbrev machine_left : Turns → List machine.Frame → Memory → machine.Outcome
machine_left b (outer ∷ []) m = machine.Ends machine.Normal (machine_step.counted (record (state b) { frames = outer ∷ []; memory = without_frame (length b.outer) m }))
machine_left b outer m = machine.Goes (machine_step.counted (record (state b) { frames = outer; memory = without_frame (length b.outer) m }))

abbrev flat_left : Turns → List Frame → Flat → Outcome
flat_left b (outer ∷ []) m = points.Ends machine.Normal (counted (record (flat_state b) { memory = m; frames = outer ∷ [] }))
flat_left b outer m = points.Goes (counted (record (flat_state b) { memory = m; frames = outer }))

left_alike : (b : Turns) (laid : Laid) (m : Memory) (f : Flat) (fs : List machine.Frame) (gs : List Frame) → length fs ≡ length b.outer → MemoryStands b.program laid (length b.outer) (without_frame (length b.outer) m) f
    → FramesStand b.program laid (types (without_frame (length b.outer) m)) f.stack fs gs → IsAlike (StateStands b.program) (machine_left b fs m) (flat_left b gs f)
left_alike b laid m f [] [] long memory frames = record {
  laid = laid;
  memory = subst (λ n. MemoryStands b.program laid n (without_frame (length b.outer) m) f) (sym long) memory;
  frames = tt;
  runs = tt;
  at = refl;
  output = refl;
  leaks = refl;
  steps = refl;
}
left_alike b laid m f (x ∷ []) (y ∷ []) long memory frames =
    (refl, record { output = refl; leaks = refl; steps = refl; made = memory.related.counted.made; freed = memory.related.counted.freed; sizes = sizes_same (flow_typing b.program) _ _ _ memory.related })
left_alike b laid m f (x ∷ h ∷ fs) (y ∷ i ∷ gs) long memory frames = record {
  laid = laid;
  memory = subst (λ n. MemoryStands b.program laid n (without_frame (length b.outer) m) f) (sym long) memory;
  frames = frames;
  runs = runs_below b.program laid (types (without_frame (length b.outer) m)) f.stack x h fs (y ∷ i ∷ gs) frames;
  at = refl;
  output = refl;
  leaks = refl;
  steps = refl;
}
left_alike b laid m f [] (y ∷ gs) long memory frames = absurd frames
left_alike b laid m f (x ∷ fs) [] long memory frames = absurd frames
left_alike b laid m f (x ∷ []) (y ∷ i ∷ gs) long memory frames = absurd frames.1
left_alike b laid m f (x ∷ h ∷ fs) (y ∷ []) long memory frames = absurd frames.1

finish_by : (b : Turns) (laid : Laid) → TurnStands b laid → (ev : Evaluated Memory) (made : Made Flat) → CopiesBack (seen b) laid.objects ev made
    → IsAlike (StateStands b.program) (machine_step.evaluated (turn b) ev (λ m now. machine_left b b.outer m))
    (on_made (flat_turn b codes.Finish) made (λ a m. flat_left b b.flat_outer (record a { stack = take b.flat_frame.base a.stack })))
finish_by b laid is ev (flat.Done a f) back =
    let m : Memory = back.0 in
    subst (λ v. IsAlike (StateStands b.program) (machine_step.evaluated (turn b) v (λ m now. machine_left b b.outer m)) (flat_left b b.flat_outer (record a { stack = take b.flat_frame.base a.stack }))) (sym back.1)
    (subst (λ y. IsAlike (StateStands b.program) (machine_left b b.outer m) (flat_left b b.flat_outer (record y { stack = take b.flat_frame.base y.stack }))) (sym back.2)
    (left_alike b (laid_below laid (length b.outer)) m (record f { stack = take b.flat_frame.base f.stack }) b.outer b.flat_outer refl
    (memory_below b.program laid (length b.outer) b.flat_frame.base m f (copied_memory b laid is m f back.3) is.frame.below is.frame.loops_below) (below_stands b laid is m f back.3)))
finish_by b laid is ev (flat.Halted stop f) back = stopping_alike b laid is codes.Finish stop f ev (λ m now. machine_left b b.outer m) back
finish_by b laid is ev Failed back = absurd back

pub finish_alike : (b : Turns) (laid : Laid) → TurnStands b laid → DoesAlike b Finish
finish_alike b laid is d lowers =
    subst (λ d. IsAlike (StateStands b.program) (machine_step.finish (turn b)) (done (flat_turn b d) d)) (some_same codes.Finish d lowers)
    (subst (λ t. IsAlike (StateStands b.program) (machine_step.evaluated (turn b) (machine_copied (machine_step.here (turn b)) b.frame.returns t) (λ m now. machine_left b b.outer m)) (done (flat_turn b codes.Finish) codes.Finish))
    (sym (start_is b laid is))
    (finish_by b laid is (machine_copied (machine_step.here (turn b)) b.frame.returns (now (seen b) 0)) (copied_back (flow_typing b.program).table b.flat_frame.returns (seen b).flat)
    (copies_back (seen b) laid.objects b.memory (seen b).flat
    (record { later = unchanged (seen b) laid.objects (is_whole b laid is); undeclared = is.memory.undeclared }) b.frame.returns b.flat_frame.returns is.frame.returns)))
