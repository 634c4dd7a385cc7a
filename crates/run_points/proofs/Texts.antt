-- Output writes what the machine's output writes.
use Rattle.std.proofs.Common.{◌≡◌, ℕ, ◌+◌, Bool, List, [], ◌∷◌, ◌++◌, map, get_or, refl, sym, ap, subst, ◌∙◌, arith, Option, Some, append_assoc, append-nil, ℤ, if◌then◌else◌}
use Rattle.std.specs.Prelude.{option_and_then, unsigned_abs}
use Rattle.std.specs.Char.{to_ascii_uppercase}
use Rattle.type_definitions.specs.Types.{Table, base, shape_of}
use Rattle.typed_tree.specs.Trees.{TypedTree, Text, Image, Parens, Binary, More}
use Rattle.flow_paths.specs.Names.{waiting, first}
use Rattle.flow_paths.specs.Laid.{FlowProgram}
use Rattle.run_values.specs.Images.{image}
use Rattle.machine.specs.Words.{Word}
use Rattle.machine.specs.Typed.{Sort, Whole, Position, Pointer}
use Rattle.machine.specs.Evaluate.{AsValue, Now, Evaluated, Done, followed_by, value, literals, image_of, text_of}
use Rattle.machine.specs.States as machine
use Rattle.machine.specs.Step as machine_step
use Rattle.run_codes.specs.Codes.{Code, Does, Output, Piece, Bytes, NumberImage, LiteralImage}
use Rattle.run_codes.specs.Flat.{Flat, Got, Given, Stops, Broken, and_then, word}
use Rattle.run_codes.specs.Lowered.{lowered}
use Rattle.run_codes.specs.Programs.{going, on_going, image_piece, pieces, text_pieces}
use Rattle.run_codes.specs.Points.{State, Outcome, Goes, on_got, after, piece_bytes, text}
use Rattle.run_codes.specs.Points as points
use Rattle.run_codes.specs.Related.{Stands, Stopped, Same, Seen, table, here, now, types, IsSeen}
use Rattle.run_codes.proofs.Places.{impossible, some_same, stopped_on}
use Rattle.run_codes.proofs.Expressions.{and_then_some, simulates}
use Rattle.run_points.specs.Outcomes.{IsAlike}
use Rattle.run_points.specs.States.{Laid, StateStands, MainBegins}
use Rattle.run_points.specs.Turns.{Turns, turn, flat_turn, around, seen, TurnStands}
use Rattle.run_points.proofs.Waits.{is_seen}
use Rattle.run_points.proofs.Goes.{after_stands, unchanged}
use Rattle.run_points.proofs.Ends.{stopped_alike, start_is, waits_on}
use Rattle.run_points.proofs.Tests.{both_there, DoneAlike}

-- The bytes are those of the machine, after so many values were taken, or both stop.
abbrev pub TextSame : Seen → ℕ → Evaluated (List ℕ) → Got (List ℕ) → Type 0
TextSame e k ev (Given bytes) = ev ≡ Done bytes (now e k)
TextSame e k ev (Stops stop) = Stopped e.memory stop ev
TextSame e k ev Broken = ⊥

-- ---- pieces one after the other

abbrev joined : Got (List ℕ) → Got (List ℕ) → Got (List ℕ)
joined x y = and_then x (λ a. and_then y (λ b. Given (a ++ b)))

regrouped : (x y z : Got (List ℕ)) → joined x (joined y z) ≡ joined (joined x y) z
regrouped (Given a) (Given b) (Given c) = ap (λ l. Given l) (sym (append_assoc a b c))
regrouped (Given a) (Given b) (Stops s) = refl
regrouped (Given a) (Given b) Broken = refl
regrouped (Given a) (Stops s) z = refl
regrouped (Given a) Broken z = refl
regrouped (Stops s) y z = refl
regrouped Broken y z = refl

none_before : (x : Got (List ℕ)) → joined (Given []) x ≡ x
none_before (Given a) = refl
none_before (Stops s) = refl
none_before Broken = refl

text_joined : (t : Table) (m : Flat) (ps qs : List Piece) → text t m (ps ++ qs) ≡ joined (text t m ps) (text t m qs)
text_joined t m [] qs = sym (none_before (text t m qs))
text_joined t m (p ∷ ps) qs = ap (joined (piece_bytes t m p)) (text_joined t m ps qs) ∙ regrouped (piece_bytes t m p) (text t m ps) (text t m qs)

-- ---- the evaluations

both_texts : (e : Seen) (i j : ℕ) (ev : Evaluated (List ℕ)) (ev' : Now → Evaluated (List ℕ)) (x y : Got (List ℕ)) → TextSame e i ev x → TextSame e j (ev' (now e i)) y
    → TextSame e j (followed_by ev (λ left n. followed_by (ev' n) (λ right n. Done (left ++ right) n))) (joined x y)
both_texts e i j ev ev' (Given a) (Given b) is more =
    ap (λ v. followed_by v (λ left n. followed_by (ev' n) (λ right n. Done (left ++ right) n))) is ∙ ap (λ v. followed_by v (λ right n. Done (a ++ right) n)) more
both_texts e i j ev ev' (Given a) (Stops s) is more =
    subst (λ v. Stopped e.memory s (followed_by v (λ left n. followed_by (ev' n) (λ right n. Done (left ++ right) n)))) (sym is)
    (stopped_on e.memory s (ev' (now e i)) (λ right n. Done (a ++ right) n) more)
both_texts e i j ev ev' (Given a) Broken is more = absurd more
both_texts e i j ev ev' (Stops s) y is more = stopped_on e.memory s ev (λ left n. followed_by (ev' n) (λ right n. Done (left ++ right) n)) is
both_texts e i j ev ev' Broken y is more = absurd is

one_text : (e : Seen) (s : Sort) (k : ℕ) (ev : Evaluated (List Word)) (got : Got ℤ) (f : List Word → List ℕ) (g : ℤ → List ℕ) → Same e s k ev got
    → ((w : Word) (z : ℤ) → Stands (table e) (types e.memory) s w z → f (w ∷ []) ≡ g z)
    → TextSame e k (followed_by ev (λ ws n. Done (f ws) n)) (joined (and_then got (λ w. Given (g w))) (Given []))
one_text e s k ev (Given z) f g same on =
    ap (λ v. followed_by v (λ ws n. Done (f ws) n)) same.1 ∙ ap (λ bytes. Done bytes (now e k)) (on same.0 z same.2 ∙ sym (append-nil (g z)))
one_text e s k ev (Stops stop) f g same on = stopped_on e.memory stop ev (λ ws n. Done (f ws) n) same
one_text e s k ev Broken f g same on = absurd same

image_same : (e : Seen) (t k : ℕ) (c : Code) (s : Sort) (ps : List Piece) (ev : Evaluated (List Word)) → image_piece (table e) t (record { code = c; sort = s }) ≡ Some ps
    → Same e s k ev (word e.flat c) → TextSame e k (followed_by ev (λ ws n. Done (image_of (table e) t ws) n)) (text (table e) e.flat ps)
image_same e t k c Whole ps ev is same =
    subst (λ l. TextSame e k (followed_by ev (λ ws n. Done (image_of (table e) t ws) n)) (text (table e) e.flat l)) (some_same (NumberImage c ∷ []) ps is)
    (one_text e Whole k ev (word e.flat c) (image_of (table e) t) image same (λ w z stands. ap (λ x. image_of (table e) t (x ∷ [])) stands.0))
image_same e t k c Position ps ev is same =
    subst (λ l. TextSame e k (followed_by ev (λ ws n. Done (image_of (table e) t ws) n)) (text (table e) e.flat l)) (some_same (LiteralImage c (base (table e) t) ∷ []) ps is)
    (one_text e Position k ev (word e.flat c) (image_of (table e) t) (λ z. map to_ascii_uppercase (get_or (literals (shape_of (table e) (base (table e) t))) (unsigned_abs z) [])) same
    (λ w z stands. ap (λ x. image_of (table e) t (x ∷ [])) stands.0))
image_same e t k c (Pointer d) ps ev is same = impossible ps is

pub texts : (e : Seen) → IsSeen e → (t : TypedTree) (k : ℕ) (ps : List Piece) → pieces e.site k t ≡ Some ps
    → TextSame e (k + waiting t) (text_of (here e) t (now e k)) (text (table e) e.flat ps)
unfolding pieces text_of waiting
texts e seen (Text bytes) k ps is =
    subst (λ l. TextSame e (k + 0) (Done bytes (now e k)) (text (table e) e.flat l)) (some_same (Bytes bytes ∷ []) ps is)
    (ap (λ b. Done b (now e k)) (sym (append-nil bytes)) ∙ ap (λ n. Done (bytes ++ []) (now e n)) (none k))
  where
    none : (k : ℕ) → k ≡ k + 0
    none k = omega arith
texts e seen (Image t v) k ps is =
    let l = and_then_some (image_piece (table e) t) (lowered e.site k AsValue v) ps is in
    image_same e t (k + waiting v) l.0.code l.0.sort ps (value (here e) v (now e k)) l.2 (simulates e seen v k AsValue l.0 l.1)
texts e seen (Parens t) k ps is = texts e seen t k ps is
texts e seen (Binary op a b) k ps is =
    let both = both_there (pieces e.site k a) (pieces e.site (k + waiting a) b) ps is in
    let more = both.2 in
    subst (λ l. TextSame e (k + (waiting a + waiting b)) (text_of (here e) (Binary op a b) (now e k)) (text (table e) e.flat l)) more.2
    (subst (λ g. TextSame e (k + (waiting a + waiting b)) (text_of (here e) (Binary op a b) (now e k)) g) (sym (text_joined (table e) e.flat both.0 more.0))
    (subst (λ j. TextSame e j (text_of (here e) (Binary op a b) (now e k)) (joined (text (table e) e.flat both.0) (text (table e) e.flat more.0))) (on k (waiting a) (waiting b))
    (both_texts e (k + waiting a) (k + waiting a + waiting b) (text_of (here e) a (now e k)) (text_of (here e) b) (text (table e) e.flat both.0) (text (table e) e.flat more.0)
    (texts e seen a k both.0 both.1) (texts e seen b (k + waiting a) more.0 more.1))))
  where
    on : (k a b : ℕ) → k + a + b ≡ k + (a + b)
    on k a b = omega arith
texts e seen _ k ps is = impossible ps is

-- ---- the point

with_output : (program : FlowProgram) (s : machine.State) (g : State) (o u : List ℕ) → u ≡ o → StateStands program s g → StateStands program (record s { output = o }) (record g { output = u })
with_output program s g o u same is = record {
  laid = is.laid;
  memory = is.memory;
  frames = is.frames;
  runs = is.runs;
  at = is.at;
  output = same;
  leaks = is.leaks;
  steps = is.steps;
}

abbrev line_end : Bool → List ℕ
line_end line = if line then 10 ∷ [] else []

-- Bytes are written.
written : (b : Turns) (laid : Laid) → TurnStands b laid → MainBegins b.program b.lowered → (line : Bool) (d : Does) (n : Option ℕ) → going (around b) b.point 0 ≡ Some n
    → (k : ℕ) (ev : Evaluated (List ℕ)) (got : Got (List ℕ)) → TextSame (seen b) k ev got
    → IsAlike (StateStands b.program)
    (machine_step.evaluated (turn b) ev (λ bytes m. machine.Goes (record (machine_step.behind (turn b) (machine_step.waiting (turn b)) m 0) { output = b.output ++ bytes ++ line_end line })))
    (on_got (flat_turn b d) (seen b).flat got
    (λ bytes. Goes (record (after (flat_turn b d) (points.waiting (flat_turn b d)) (seen b).flat n) {
      output = (after (flat_turn b d) (points.waiting (flat_turn b d)) (seen b).flat n).output ++ (bytes ++ line_end line);
    })))
written b laid is begins line d n goes k ev (Given bytes) same =
    let on = after_stands b laid is begins d 0 n goes (machine_step.waiting (turn b)) (points.waiting (flat_turn b d)) (waits_on b laid is d) b.frame.loops b.memory (seen b).flat
    (unchanged b laid is) is.frame.loops is.frame.bounds in
    let s : machine.State = machine_step.behind (turn b) (machine_step.waiting (turn b)) b.memory 0 in
    let g : State = after (flat_turn b d) (points.waiting (flat_turn b d)) (seen b).flat n in
    subst (λ v. IsAlike (StateStands b.program)
    (machine_step.evaluated (turn b) v (λ bytes m. machine.Goes (record (machine_step.behind (turn b) (machine_step.waiting (turn b)) m 0) { output = b.output ++ bytes ++ line_end line })))
    (Goes (record g { output = g.output ++ (bytes ++ line_end line) }))) (sym same)
    (with_output b.program s g (b.output ++ bytes ++ line_end line) (g.output ++ (bytes ++ line_end line))
    (ap (λ o. o ++ (bytes ++ line_end line)) on.output ∙ sym (append_assoc b.output bytes (line_end line))) on)
written b laid is begins line d n goes k ev (Stops stop) same =
    stopped_alike b laid is d stop ev (λ bytes m. machine.Goes (record (machine_step.behind (turn b) (machine_step.waiting (turn b)) m 0) { output = b.output ++ bytes ++ line_end line })) same
written b laid is begins line d n goes k ev Broken same = absurd same

-- The one text, or none.
first_same : (b : Turns) (laid : Laid) → TurnStands b laid → (t : TypedTree) (ps : List Piece) → text_pieces (around b).site t ≡ Some ps
    → TextSame (seen b) (0 + waiting (first t)) (text_of (machine_step.here (turn b)) (first t) (machine_step.start (turn b))) (text (table (seen b)) (seen b).flat ps)
unfolding text_of waiting
first_same b laid is (More t rest) ps lowers =
    subst (λ n. TextSame (seen b) (0 + waiting t) (text_of (machine_step.here (turn b)) t n) (text (table (seen b)) (seen b).flat ps)) (sym (start_is b laid is))
    (texts (seen b) (is_seen b laid is) t 0 ps lowers)
first_same b laid is _ ps lowers =
    subst (λ l. TextSame (seen b) (0 + 0) (Done [] (machine_step.start (turn b))) (text (table (seen b)) (seen b).flat l)) (some_same [] ps lowers) (ap (λ n. Done [] n) (start_is b laid is))

pub output_alike : (b : Turns) (laid : Laid) → TurnStands b laid → MainBegins b.program b.lowered → (t : TypedTree) (line : Bool) (d : Does)
    → option_and_then (λ ps. on_going (around b) b.point (λ n. Some (Output ps line n))) (text_pieces (around b).site t) ≡ Some d
    → DoneAlike b (machine_step.output (turn b) t line) d
output_alike b laid is begins t line d lowers =
    let ps = and_then_some (λ ps. on_going (around b) b.point (λ n. Some (Output ps line n))) (text_pieces (around b).site t) d lowers in
    let n = and_then_some (λ n. Some (Output ps.0 line n)) (going (around b) b.point 0) d ps.2 in
    let x : Does = Output ps.0 line n.0 in
    subst (λ x. DoneAlike b (machine_step.output (turn b) t line) x) (some_same x d n.2)
    (written b laid is begins line x n.0 n.1 (0 + waiting (first t)) (text_of (machine_step.here (turn b)) (first t) (machine_step.start (turn b))) (text (table (seen b)) (seen b).flat ps.0)
    (first_same b laid is t ps.0 ps.1))
