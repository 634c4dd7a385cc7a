-- The words of a loop, which lie after its parameter; and the start of a loop, which is the machine's.
use Rattle.std.proofs.Common.{◌≡◌, ◌⊎◌, inl, inr, ℕ, ◌+◌, ◌≤◌, true, false, Bool, not, ◌&&◌, List, [], ◌∷◌, length, map, take, drop, refl, sym, ap, subst, ◌∙◌, arith, Option, Some, None, ℤ, pos, int_le, if◌then◌else◌}
use Rattle.std.specs.Prelude.{◌==◌, option_and_then}
use Rattle.spark_base.specs.Lists.{Has}
use Rattle.type_definitions.specs.declared.table.Shape.{Shape}
use Rattle.type_definitions.specs.declared.table.Shape.TheVariants as shape
use Rattle.type_definitions.specs.Types.{Table, shape_of}
use Rattle.typed_tree.specs.Trees.{TypedTree}
use Rattle.flow_paths.specs.Objects.{Typing, object_at, is_package_object}
use Rattle.flow_paths.specs.Instructions.{Start}
use Rattle.flow_paths.specs.Names.{waiting}
use Rattle.flow_paths.specs.Laid.{flow_typing}
use Rattle.machine.specs.Words.{Word, fits_type}
use Rattle.machine.specs.Typed.{Sort, Whole, Position, sorts}
use Rattle.machine.specs.Memory.{Memory, declared}
use Rattle.machine.specs.Evaluate.{Now, Evaluated, Done, followed_by, ConstraintError, AsValue, value, value_of}
use Rattle.machine.specs.States.{Waiting, Loop}
use Rattle.machine.specs.States as machine
use Rattle.machine.specs.Step as machine_step
use Rattle.machine.specs.Step.{Bounds, number, successor, loop_of, without_loop}
use Rattle.run_codes.specs.Codes.{Code, Does}
use Rattle.run_codes.specs.Codes as codes
use Rattle.run_codes.specs.Flat.{Flat, Got, Given, Stops, Broken, and_then, kind_of, kinds, are_words, constraint, is_between, word, spliced, with_stack}
use Rattle.run_codes.specs.Lowered.{offset_of, lowered, Scalar, scalar_of, same_scalar}
use Rattle.run_codes.specs.Programs.{going, on_next, own_offset, own_loop, scalar_code, is_loop}
use Rattle.run_codes.specs.Points.{State, Outcome, halted, on_got, put_words, goes, done}
use Rattle.run_codes.specs.Points as points
use Rattle.run_codes.specs.Related.{Stands, IsValue, Same, types, now, AreApart}
use Rattle.run_codes.proofs.Places.{impossible, some_same, if_some, stopped_on}
use Rattle.run_codes.proofs.Held.{stands_word}
use Rattle.run_codes.proofs.Stores.{spliced_is, splice_on}
use Rattle.run_codes.proofs.Seeing.{stack_stored}
use Rattle.run_codes.proofs.Expressions.{and_then_some, simulates}
use Rattle.run_fills.specs.Filled.{at}
use Rattle.run_fills.proofs.Outside.{block_kept}
use Rattle.run_fills.proofs.Single.{one_value, whole_fits, listed_fits, few_types}
use Rattle.run_fills.proofs.Wholes.{unchanged}
use Rattle.run_points.specs.Outcomes.{IsAlike}
use Rattle.run_points.specs.States.{site_of, LoopAt, loop_words, LoopsStand, Laid, StateStands, MainBegins}
use Rattle.run_points.specs.Turns.{Turns, state, turn, flat_turn, around, seen, TurnStands, IsKept, DoesAlike}
use Rattle.run_points.proofs.Waits.{is_seen}
use Rattle.run_points.proofs.Goes.{way, after_stands}
use Rattle.run_points.proofs.Ends.{start_is, raised_alike, stopped_alike, waits_on}
use Rattle.run_points.proofs.Stacks.{spliced_long, outside_kept}
use Rattle.run_points.proofs.Tests.{DoneAlike}
use Rattle.run_points.proofs.Halts.{is_whole}
use Rattle.run_points.proofs.Declares.{is_declared}
use Rattle.run_points.proofs.LoopLists.{IsChanged, started_changed}

-- ---- a word of a scalar type

pub record IsBoundWord (b : Turns) (t : ℕ) (low high : ℤ) (w : Word) (z : ℤ) : Type 0 where
  pub number : value_of w ≡ z
  pub fits : fits_type (flow_typing b.program).table t (w ∷ []) ≡ is_between low high z
  pub value : IsValue (flow_typing b.program).table (types b.memory) (sorts (flow_typing b.program).table t) (w ∷ []) (z ∷ [])
  pub word : are_words (kinds (flow_typing b.program).table t) (z ∷ []) ≡ true

bound_word : (b : Turns) (laid : Laid) → TurnStands b laid → (t : ℕ) (sh : Shape) → shape_of (flow_typing b.program).table t ≡ sh → (s : Scalar) → scalar_of sh ≡ Some s → (w : Word) (z : ℤ)
    → Stands (flow_typing b.program).table (types b.memory) s.sort w z → IsBoundWord b t s.low s.high w z
bound_word b laid is t (shape.Whole low high) sh s found w z =
    subst (λ (s : Scalar). Stands table made s.sort w z → IsBoundWord b t s.low s.high w z) (some_same (record { sort = Whole; low = low; high = high }) s found)
    (λ stands. record {
      number = ap value_of stands.0;
      fits = whole_fits table made t low high z w sh stands;
      value = subst (λ l. IsValue table made l (w ∷ []) (z ∷ [])) (sym one) (one_value table made Whole w z stands tt);
      word = ap (λ l. are_words (map kind_of l) (z ∷ [])) one ∙ ap (λ c. c && true) (stands_word table made Whole w z (few_types (seen b) laid.objects (is_whole b laid is)) stands);
    })
  where
    table : Table
    table = (flow_typing b.program).table

    made : List ℕ
    made = types b.memory

    one : sorts table t ≡ Whole ∷ []
    one = is.laws.whole t low high sh
bound_word b laid is t (shape.Listed literals low high) sh s found w z =
    subst (λ (s : Scalar). Stands table made s.sort w z → IsBoundWord b t s.low s.high w z) (some_same (record { sort = Position; low = pos low; high = pos high }) s found)
    (λ stands. record {
      number = ap value_of stands.0 ∙ sym stands.1;
      fits = listed_fits table made t low high z w literals sh stands;
      value = subst (λ l. IsValue table made l (w ∷ []) (z ∷ [])) (sym one) (one_value table made Position w z stands tt);
      word = ap (λ l. are_words (map kind_of l) (z ∷ [])) one ∙ ap (λ c. c && true) (stands_word table made Position w z (few_types (seen b) laid.objects (is_whole b laid is)) stands);
    })
  where
    table : Table
    table = (flow_typing b.program).table

    made : List ℕ
    made = types b.memory

    one : sorts table t ≡ Position ∷ []
    one = is.laws.listed t low high literals sh
bound_word b laid is t (shape.Access designated constant named) sh s found w z = impossible s found
bound_word b laid is t (shape.Fields components) sh s found w z = impossible s found
bound_word b laid is t (shape.Elements low high element) sh s found w z = impossible s found
bound_word b laid is t (shape.Same of) sh s found w z = impossible s found

-- ---- where a loop lies

pub record IsOwnLoop (b : Turns) (laid : Laid) (x offset : ℕ) : Type 0 where
  pub own : own_offset (around b) x ≡ Some offset
  pub there : Has laid.loops (record { frame = length b.outer; parameter = x; at = b.flat_frame.base + (offset + 1) })

pub own_loop_there : (b : Turns) (laid : Laid) → TurnStands b laid → (x offset : ℕ) → own_loop (around b) x ≡ Some offset → IsOwnLoop b laid x offset
own_loop_there b laid is x offset has =
    let sure = if_some (is_loop x (around b).site.own) (own_offset (around b) x) offset has in
    let inside = if_some (if is_package_object (flow_typing b.program) x then (around b).is_first else not (around b).is_first) (offset_of (around b).site x) offset sure.1 in
    record {
      own = sure.1;
      there = is.frame.turning x offset (ap (λ c. if c then offset_of (site_of b.program b.frame.sub []) x else None) sure.0 ∙ inside.1);
    }

-- ---- other words of a loop

three_there : (n : ℕ) (x y z : ℤ) (all : List ℤ) → n + 3 ≤ length all → take 3 (drop n (spliced n (x ∷ y ∷ z ∷ []) all)) ≡ x ∷ y ∷ z ∷ []
three_there n x y z all inside =
    ap (λ l. take 3 (drop n l)) (spliced_is n (x ∷ y ∷ z ∷ []) all) ∙ ap (take 3) (splice_on n 0 n (x ∷ y ∷ z ∷ []) all (none n) (omega (arith, inside)))
  where
    none : (n : ℕ) → n ≡ n + 0
    none n = omega arith

pub record IsLooped (b : Turns) (laid : Laid) (loops : List Loop) (m : Memory) (f : Flat) (n : ℕ) (words : List ℤ) : Type 0 where
  pub kept : IsKept b laid m (with_stack f (spliced n words f.stack))
  pub turning : LoopsStand laid.loops (length b.outer) (spliced n words f.stack) loops
  pub fits : n + length words ≤ length f.stack

pub is_looped : (b : Turns) (laid : Laid) → TurnStands b laid → (m : Memory) (f : Flat) → IsKept b laid m f → LoopsStand laid.loops (length b.outer) f.stack b.frame.loops
    → (c : LoopAt) → Has laid.loops c → c.frame ≡ length b.outer → (loops : List Loop) (x y z : ℤ) → IsChanged (flow_typing b.program) c.parameter b.frame.loops loops (x ∷ y ∷ z ∷ [])
    → IsLooped b laid loops m f c.at (x ∷ y ∷ z ∷ [])
is_looped b laid is m f kept turning c has runs loops x y z changes =
    record {
      kept = record {
        related = outside_kept s laid.objects m f c.at new kept.related (subst (λ k. AreApart s laid.objects k) (sym kept.long) is.memory.apart) fits
            (λ l there. is.memory.loops_apart.objects l c there has);
        more = kept.more;
        made = kept.made;
        long = spliced_long c.at new f.stack fits ∙ kept.long;
        undeclared = kept.undeclared;
        loops = λ e there other. elim (is.memory.loops_apart.apart c e has there) [
          | inl same ↦ absurd (not_other c.frame e.frame (length b.outer) runs same.0 other)
          | inr apart ↦ disjoint e apart.1 ∙ kept.loops e there other
        ];
      };
      turning = λ e there of. elim (is.memory.loops_apart.apart c e has there) [
        | inl same ↦
            subst (λ k. take 3 (drop k (spliced c.at new f.stack)) ≡ loop_words (loop_of e.parameter loops)) same.2
            (subst (λ p. take 3 (drop c.at (spliced c.at new f.stack)) ≡ loop_words (loop_of p loops)) same.1
            (three_there c.at x y z f.stack fits ∙ sym changes.here))
        | inr apart ↦
            disjoint e apart.1 ∙ turning e there of
            ∙ sym (ap loop_words (changes.others e.parameter (other_parameter c.frame e.frame c.parameter e.parameter (runs ∙ sym of) apart.0)))
      ];
      fits = fits;
    }
  where
    s : Typing
    s = flow_typing b.program

    new : List ℤ
    new = x ∷ y ∷ z ∷ []

    fits : c.at + 3 ≤ length f.stack
    fits = subst (λ k. c.at + 3 ≤ k) (sym kept.long) (is.memory.loops_apart.within c has)

    not_other : (a d n : ℕ) → a ≡ n → a ≡ d → (d == n) ≡ false → ⊥
    not_other a d n is same other = grind arith

    other_parameter : (a d p q : ℕ) → a ≡ d → ((a == d) && (p == q)) ≡ false → (p == q) ≡ false
    other_parameter a d p q same apart = grind arith

    disjoint : (e : LoopAt) → (c.at + 3 ≤ e.at) ⊎ (e.at + 3 ≤ c.at) → take 3 (drop e.at (spliced c.at new f.stack)) ≡ take 3 (drop e.at f.stack)
    disjoint e apart = block_kept e.at 3 c.at new f.stack fits (elim apart [
      | inl after ↦ inr after
      | inr before ↦ inl before
    ])

-- ---- a parameter and its loop

-- Both are stored one after the other.
pub two_put : (b : Turns) (offset : ℕ) (v : ℤ) (words : List ℤ) → b.flat_frame.base + offset + 1 ≤ length b.flat.stack
    → b.flat_frame.base + (offset + 1) + length words ≤ length (spliced (b.flat_frame.base + offset) (v ∷ []) b.flat.stack)
    → and_then (put_words (seen b).flat offset (v ∷ [])) (λ m. put_words m (offset + 1) words)
    ≡ Given (with_stack (with_stack (seen b).flat (spliced (b.flat_frame.base + offset) (v ∷ []) b.flat.stack))
    (spliced (b.flat_frame.base + (offset + 1)) words (spliced (b.flat_frame.base + offset) (v ∷ []) b.flat.stack)))
two_put b offset v words first second =
    ap (λ g. and_then g (λ m. put_words m (offset + 1) words)) (stack_stored (seen b).flat (b.flat_frame.base + offset) [] (v ∷ []) first)
    ∙ stack_stored (with_stack (seen b).flat (spliced (b.flat_frame.base + offset) (v ∷ []) b.flat.stack)) (b.flat_frame.base + (offset + 1)) [] words second

-- ---- words one after the other

word_then : {A : Type 0} (b : Turns) (laid : Laid) → TurnStands b laid → (d : Does) (s : Sort) (k : ℕ) (ev : Evaluated (List Word)) (got : Got ℤ)
    → (on : List Word → Now → Evaluated A) (go : A → Memory → machine.Outcome) (further : ℤ → Outcome) → Same (seen b) s k ev got
    → ((w : Word) (z : ℤ) → Stands (flow_typing b.program).table (types b.memory) s w z
    → IsAlike (StateStands b.program) (machine_step.evaluated (turn b) (on (w ∷ []) (now (seen b) k)) go) (further z))
    → IsAlike (StateStands b.program) (machine_step.evaluated (turn b) (followed_by ev on) go) (on_got (flat_turn b d) (seen b).flat got further)
word_then b laid is d s k ev (Given z) on go further same next =
    subst (λ v. IsAlike (StateStands b.program) (machine_step.evaluated (turn b) (followed_by v on) go) (further z)) (sym same.1) (next same.0 z same.2)
word_then b laid is d s k ev (Stops stop) on go further same next =
    stopped_alike b laid is d stop (followed_by ev on) go (stopped_on b.memory stop ev on same)
word_then b laid is d s k ev Broken on go further same next = absurd same

-- ---- a loop starts

abbrev begun : Turns → ℕ → Bounds → Memory → machine.Outcome
begun b x bounds m =
    if int_le (number bounds.low) (number bounds.high)
    && not (fits_type (flow_typing b.program).table (object_at (flow_typing b.program) x).of bounds.low && fits_type (flow_typing b.program).table (object_at (flow_typing b.program) x).of bounds.high)
    then machine_step.raised (turn b) ConstraintError m
    else machine.Goes (machine_step.with_loop (record { parameter = x; low = number bounds.low; high = number bounds.high; first = true })
    (machine_step.behind (turn b) (machine_step.waiting (turn b)) (declared (length b.outer) x bounds.low m) 0))

abbrev pub put_loop : Turns → Does → ℕ → ℤ → List ℤ → Option ℕ → Outcome
put_loop b d offset v words n =
    on_got (flat_turn b d) (seen b).flat (and_then (put_words (seen b).flat offset (v ∷ [])) (λ m. put_words m (offset + 1) words)) (λ m. goes (flat_turn b d) m n)

abbrev begins_flat : Turns → Does → ℕ → ℤ → ℤ → Option ℕ → ℤ → ℤ → Outcome
begins_flat b d offset first last n z y =
    if int_le z y && not (is_between first last z && is_between first last y) then halted (flat_turn b d) constraint (seen b).flat
    else put_loop b d offset z (z ∷ y ∷ pos 1 ∷ []) n

-- Where a point follows, the loop is one of the frame.
with_loop_is : (b : Turns) (l : Loop) (ws : List Waiting) (m : Memory) (i : ℕ) → successor (turn b) 0 ≡ Some i
    → machine_step.with_loop l (machine_step.behind (turn b) ws m 0)
    ≡ machine_step.counted (record (state b) {
      frames = machine_step.led (turn b) (record b.frame { waits = ws; loops = l ∷ without_loop l.parameter b.frame.loops }) (successor (turn b) 0);
      memory = m;
    })
with_loop_is b l ws m i is = by (successor (turn b) 0) is
  where
    by : (o : Option ℕ) → o ≡ Some i
        → machine_step.with_loop l (machine_step.counted (record (state b) { frames = machine_step.led (turn b) (record b.frame { waits = ws }) o; memory = m }))
        ≡ machine_step.counted (record (state b) { frames = machine_step.led (turn b) (record b.frame { waits = ws; loops = l ∷ without_loop l.parameter b.frame.loops }) o; memory = m })
    by None is = impossible i is
    by (Some j) is = refl

-- The point that follows.
follows : (b : Turns) (k : ℕ) → going (around b) b.point 0 ≡ Some (Some k) → (i : ℕ) × (successor (turn b) 0 ≡ Some i)
follows b k leads = elim (way b 0 (Some k) leads) [
  | inl on ↦ (on.0, on.1)
  | inr out ↦ impossible k (sym out.1)
]

loop_begun : (b : Turns) (laid : Laid) → TurnStands b laid → MainBegins b.program b.lowered → (d : Does) (k : ℕ) → going (around b) b.point 0 ≡ Some (Some k)
    → (x offset : ℕ) → own_loop (around b) x ≡ Some offset → (low high : ℤ) (w u : Word) (z y : ℤ)
    → IsBoundWord b (object_at (flow_typing b.program) x).of low high w z → IsBoundWord b (object_at (flow_typing b.program) x).of low high u y
    → IsAlike (StateStands b.program)
    (machine.Goes (machine_step.with_loop (record { parameter = x; low = z; high = y; first = true })
    (machine_step.behind (turn b) (machine_step.waiting (turn b)) (declared (length b.outer) x (w ∷ []) b.memory) 0)))
    (put_loop b d offset z (z ∷ y ∷ pos 1 ∷ []) (Some k))
loop_begun b laid is begins d k leads x offset there low high w u z y one other =
    let l : Loop = record { parameter = x; low = z; high = y; first = true } in
    let own = own_loop_there b laid is x offset there in
    let m : Memory = declared (length b.outer) x (w ∷ []) b.memory in
    let f : Flat = with_stack (seen b).flat (spliced (b.flat_frame.base + offset) (z ∷ []) b.flat.stack) in
    let c : LoopAt = record { frame = length b.outer; parameter = x; at = b.flat_frame.base + (offset + 1) } in
    let loops : List Loop = l ∷ without_loop x b.frame.loops in
    let put = is_declared b laid is x offset own.own (w ∷ []) (z ∷ []) b.memory (seen b).flat (unchanged (seen b) laid.objects (is_whole b laid is)) is.memory.undeclared one.value in
    let changes = started_changed (flow_typing b.program) l b.frame.loops is.frame.bounds (record { low = one.word; high = other.word }) in
    let looped = is_looped b laid is m f put.kept put.turning c own.there refl loops z y (pos 1) changes in
    let next = follows b k leads in
    subst (λ s. IsAlike (StateStands b.program) (machine.Goes s) (put_loop b d offset z (z ∷ y ∷ pos 1 ∷ []) (Some k))) (sym (with_loop_is b l (machine_step.waiting (turn b)) m next.0 next.1))
    (subst (λ g. IsAlike (StateStands b.program)
    (machine.Goes (machine_step.counted (record (state b) {
      frames = machine_step.led (turn b) (record b.frame { waits = machine_step.waiting (turn b); loops = loops }) (successor (turn b) 0);
      memory = m;
    })))
    (on_got (flat_turn b d) (seen b).flat g (λ m. goes (flat_turn b d) m (Some k))))
    (sym (two_put b offset z (z ∷ y ∷ pos 1 ∷ []) put.fits looped.fits))
    (after_stands b laid is begins d 0 (Some k) leads (machine_step.waiting (turn b)) (points.waiting (flat_turn b d)) (waits_on b laid is d) loops m
    (with_stack f (spliced c.at (z ∷ y ∷ pos 1 ∷ []) f.stack)) looped.kept looped.turning changes.bounds))

-- Both bounds are of the parameter's subtype, or there is no turn.
bounds_alike : (b : Turns) (laid : Laid) → TurnStands b laid → MainBegins b.program b.lowered → (d : Does) (k : ℕ) → going (around b) b.point 0 ≡ Some (Some k)
    → (x offset : ℕ) → own_loop (around b) x ≡ Some offset → (low high : ℤ) (w u : Word) (z y : ℤ)
    → IsBoundWord b (object_at (flow_typing b.program) x).of low high w z → IsBoundWord b (object_at (flow_typing b.program) x).of low high u y
    → IsAlike (StateStands b.program) (begun b x (record { low = w ∷ []; high = u ∷ [] }) b.memory) (begins_flat b d offset low high (Some k) z y)
bounds_alike b laid is begins d k leads x offset there low high w u z y one other =
    subst (λ v. Alike (tried v (value_of u) (fits w && fits u))) (sym one.number)
    (subst (λ v. Alike (tried z v (fits w && fits u))) (sym other.number)
    (subst (λ c. Alike (tried z y (c && fits u))) (sym one.fits)
    (subst (λ c. Alike (tried z y (is_between low high z && c))) (sym other.fits)
    (by (int_le z y && not (is_between low high z && is_between low high y))))))
  where
    fits : Word → Bool
    fits v = fits_type (flow_typing b.program).table (object_at (flow_typing b.program) x).of (v ∷ [])

    begun_with : ℤ → ℤ → machine.Outcome
    begun_with p q = machine.Goes (machine_step.with_loop (record { parameter = x; low = p; high = q; first = true })
        (machine_step.behind (turn b) (machine_step.waiting (turn b)) (declared (length b.outer) x (w ∷ []) b.memory) 0))

    tried : ℤ → ℤ → Bool → machine.Outcome
    tried p q c = if int_le p q && not c then machine_step.raised (turn b) ConstraintError b.memory else begun_with p q

    Alike : machine.Outcome → Type 0
    Alike out = IsAlike (StateStands b.program) out (begins_flat b d offset low high (Some k) z y)

    by : (c : Bool) → IsAlike (StateStands b.program) (if c then machine_step.raised (turn b) ConstraintError b.memory else begun_with z y)
        (if c then halted (flat_turn b d) constraint (seen b).flat else put_loop b d offset z (z ∷ y ∷ pos 1 ∷ []) (Some k))
    by true = raised_alike b laid is d ConstraintError
    by false = loop_begun b laid is begins d k leads x offset there low high w u z y one other

-- ---- the instruction

never : {A : Type 0} → false ≡ true → A
never is = absurd (no_way is)
  where
    no_way : false ≡ true → ⊥
    no_way is = cc

same_sort : (a c : Sort) → same_scalar a c ≡ true → c ≡ a
same_sort Whole Whole is = refl
same_sort Position Position is = refl
same_sort a c is = never is

-- A bound, after so many values were taken.
bound_same : (b : Turns) (laid : Laid) → TurnStands b laid → (e : TypedTree) (k : ℕ) (s : Sort) (c : Code) → option_and_then (scalar_code s) (lowered (around b).site k AsValue e) ≡ Some c
    → Same (seen b) s (k + waiting e) (value (machine_step.here (turn b)) e (now (seen b) k)) (word (seen b).flat c)
bound_same b laid is e k s c lowers =
    let l = and_then_some (scalar_code s) (lowered (around b).site k AsValue e) c lowers in
    let sure = if_some (same_scalar s l.0.sort) (Some l.0.code) c l.2 in
    subst (λ t. Same (seen b) t (k + waiting e) (value (machine_step.here (turn b)) e (now (seen b) k)) (word (seen b).flat c)) (same_sort s l.0.sort sure.0)
    (subst (λ x. Same (seen b) l.0.sort (k + waiting e) (value (machine_step.here (turn b)) e (now (seen b) k)) (word (seen b).flat x)) (some_same l.0.code c sure.1)
    (simulates (seen b) (is_seen b laid is) e k AsValue l.0 l.1))

start_row : (b : Turns) (laid : Laid) → TurnStands b laid → MainBegins b.program b.lowered → (x : ℕ) (low high : TypedTree) (offset : ℕ) → own_loop (around b) x ≡ Some offset
    → (s : Scalar) → scalar_of (shape_of (flow_typing b.program).table (object_at (flow_typing b.program) x).of) ≡ Some s
    → (l h : Code) → option_and_then (scalar_code s.sort) (lowered (around b).site 0 AsValue low) ≡ Some l
    → option_and_then (scalar_code s.sort) (lowered (around b).site (waiting low) AsValue high) ≡ Some h → (k : ℕ) → going (around b) b.point 0 ≡ Some (Some k)
    → DoneAlike b (machine_step.start_loop (turn b) x low high) (codes.Start offset (offset + 1) l h s.low s.high (Some k))
start_row b laid is begins x low high offset there s scalar l h first second k leads =
    subst (λ n. IsAlike (StateStands b.program) (machine_step.evaluated (turn b) (machine_step.bounds (turn b) low high n) (begun b x)) (done (flat_turn b d) d)) (sym (start_is b laid is))
    (word_then b laid is d s.sort (0 + waiting low) (value (machine_step.here (turn b)) low (now (seen b) 0)) (word (seen b).flat l) (after_low b) (begun b x)
    (λ z. on_got (flat_turn b d) (seen b).flat (word (seen b).flat h) (begins_flat b d offset s.low s.high (Some k) z)) (bound_same b laid is low 0 s.sort l first)
    (λ w z low_stands.
    word_then b laid is d s.sort (0 + waiting low + waiting high) (value (machine_step.here (turn b)) high (now (seen b) (0 + waiting low))) (word (seen b).flat h)
    (λ u n. Done (record { low = w ∷ []; high = u }) n) (begun b x) (begins_flat b d offset s.low s.high (Some k) z)
    (bound_same b laid is high (0 + waiting low) s.sort h (subst (λ n. option_and_then (scalar_code s.sort) (lowered (around b).site n AsValue high) ≡ Some h) (none (waiting low)) second))
    (λ u y high_stands.
    bounds_alike b laid is begins d k leads x offset there s.low s.high w u z y (bound_word b laid is t (shape_of (flow_typing b.program).table t) refl s scalar w z low_stands)
    (bound_word b laid is t (shape_of (flow_typing b.program).table t) refl s scalar u y high_stands))))
  where
    d : Does
    d = codes.Start offset (offset + 1) l h s.low s.high (Some k)

    t : ℕ
    t = (object_at (flow_typing b.program) x).of

    after_low : Turns → List Word → Now → Evaluated Bounds
    after_low b a n = followed_by (value (machine_step.here (turn b)) high n) (λ c n. Done (record { low = a; high = c }) n)

    none : (n : ℕ) → n ≡ 0 + n
    none n = omega arith

pub start_alike : (b : Turns) (laid : Laid) → TurnStands b laid → MainBegins b.program b.lowered → (x : ℕ) (reversed : Bool) (low high : TypedTree) → DoesAlike b (Start x reversed low high)
start_alike b laid is begins x reversed low high d lowers =
    let offset = and_then_some (λ at. option_and_then (on_scalar at) scalars) (own_loop (around b) x) d lowers in
    let s = and_then_some (on_scalar offset.0) scalars d offset.2 in
    let l = and_then_some (on_low offset.0 s.0) (option_and_then (scalar_code s.0.sort) (lowered (around b).site 0 AsValue low)) d s.2 in
    let h = and_then_some (on_high offset.0 s.0 l.0) (option_and_then (scalar_code s.0.sort) (lowered (around b).site (waiting low) AsValue high)) d l.2 in
    let n = following (λ n. Some (codes.Start offset.0 (offset.0 + 1) l.0 h.0 s.0.low s.0.high n)) (going (around b) b.point 0) h.2 in
    subst (λ y. DoneAlike b (machine_step.start_loop (turn b) x low high) y) (some_same (codes.Start offset.0 (offset.0 + 1) l.0 h.0 s.0.low s.0.high (Some n.0)) d n.2)
    (start_row b laid is begins x low high offset.0 offset.1 s.0 s.1 l.0 h.0 l.1 h.1 n.0 n.1)
  where
    scalars : Option Scalar
    scalars = scalar_of (shape_of (flow_typing b.program).table (object_at (flow_typing b.program) x).of)

    on_high : ℕ → Scalar → Code → Code → Option Does
    on_high at s l h = on_next (around b) b.point (λ n. Some (codes.Start at (at + 1) l h s.low s.high n))

    on_low : ℕ → Scalar → Code → Option Does
    on_low at s l = option_and_then (on_high at s l) (option_and_then (scalar_code s.sort) (lowered (around b).site (waiting low) AsValue high))

    on_scalar : ℕ → Scalar → Option Does
    on_scalar at s = option_and_then (on_low at s) (option_and_then (scalar_code s.sort) (lowered (around b).site 0 AsValue low))

    by : (Option ℕ → Option Does) → Option ℕ → Option Does
    by f None = None
    by f (Some n) = f (Some n)

    following : (f : Option ℕ → Option Does) (o : Option (Option ℕ)) → option_and_then (by f) o ≡ Some d → (k : ℕ) × (o ≡ Some (Some k)) × (f (Some k) ≡ Some d)
    following f None is = impossible d is
    following f (Some None) is = impossible d is
    following f (Some (Some k)) is = (k, refl, is)
