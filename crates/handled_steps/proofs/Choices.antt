-- Points that choose what comes next, over both heaps.
use Rattle.std.proofs.Common.{◌≡◌, refl, sym, ap, subst, ℕ, Bool, List, [], ◌∷◌, ◌++◌, length, drop, Option, Some, None, ℤ}
use Rattle.handled_runs.specs.type_definitions.Types.{Table}
use Rattle.handled_runs.specs.type_definitions.Entries.{boolean}
use Rattle.handled_runs.specs.run_values.declared.value.Kind.{Kind}
use Rattle.handled_runs.specs.machine.Evaluate.{ProgramError}
use Rattle.handled_runs.specs.run_codes.Codes.{Code, Choice}
use Rattle.handled_runs.specs.run_codes.Flat.{Flat, Given, Raises, and_then, constraint, kinds}
use Rattle.handled_runs.specs.run_codes.Flat as flat
use Rattle.handled_runs.specs.run_codes.Points.{Held, chosen, truth_held}
use Rattle.handled_runs.specs.run_codes.Points as points
use Rattle.handled_runs.specs.Slots.{Slots}
use Rattle.handled_runs.specs.Slots as slots
use Rattle.handled_runs.specs.Beside.{all_renamed, NameWords, Beside}
use Rattle.handled_runs.proofs.Words.{data_renamed}
use Rattle.handled_runs.proofs.Names.{named_data}
use Rattle.handled_steps.specs.States.{Outcome, Goes, Turn, waiting, start, halted, on_got, goes, after}
use Rattle.handled_steps.specs.Steps.{test, choice, choose, evaluate_left, evaluate_right}
use Rattle.handled_steps.specs.Alike.{HeldAlike, OutcomesAlike, led_kinds, got_kinds, tested, decided_by}
use Rattle.handled_steps.specs.Backs.{IsOneData}
use Rattle.handled_steps.specs.Looks.{LooksData, taken_kinds}
use Rattle.handled_steps.proofs.Pairs.{paired_drop}
use Rattle.handled_steps.proofs.Turns.{Both, flat_turn, slot_turn, start_more, got_on, goes_alike, halted_alike, after_alike, waiting_on, back_on}
use Rattle.handled_steps.proofs.Gots.{data_gots}

pub truth_alike : (table : Table) (handles : List ℕ) (w : ℤ) → IsOneData (kinds table boolean) → HeldAlike table handles (truth_held w) (truth_held w)
truth_alike table handles w (k, is, data_kind) = record {
  of = refl;
  words = subst (λ ks. w ∷ [] ≡ all_renamed handles ks (w ∷ [])) (sym is) (ap (λ x. x ∷ []) (sym (data_renamed handles k w data_kind)));
  known = ap length is;
  names = subst (λ ks. NameWords (length handles) ks (w ∷ [])) (sym is) (named_data (length handles) k w data_kind, tt);
}

module _ (handles : List ℕ) (here : List Kind) (z : Both handles here) where
  abbrev t : points.Turn
  t = flat_turn handles here z

  abbrev u : Turn
  u = slot_turn handles here z

  abbrev takes : List Kind
  takes = taken_kinds t

  abbrev m : Flat
  m = points.start t

  abbrev s : Slots
  s = start u

  abbrev Same : List Kind → points.Outcome → Outcome → Type 0
  Same = OutcomesAlike z.table handles

  beside : Beside (handles ++ []) here takes m s
  beside = start_more handles here z

  pub go_alike : (n : Option ℕ) → Same (led_kinds t here n) (points.goes t m n) (goes u s n)
  go_alike = goes_alike handles here z [] takes m s beside

  pub fall_alike : Same here (points.halted t (Raises ProgramError) m) (halted u (Raises ProgramError) s)
  fall_alike = halted_alike handles here z [] here takes m s beside here (Raises ProgramError)

  -- A word that names no cell is read.
  pub word_on : (there : List Kind) (c : Code) (F : ℤ → points.Outcome) (G : ℤ → Outcome) → LooksData m here takes c → ((w : ℤ) → flat.word m c ≡ Given w → Same there (F w) (G w))
      → Same there (points.on_got t m (flat.word m c) F) (on_got u s (slots.word s c) G)
  word_on there c F G looks on =
      got_on handles here z [] here takes m s beside (λ a b. b ≡ a) there (flat.word m c) (slots.word s c) F G (data_gots (handles ++ []) here takes m s beside z.clear c looks)
      (λ w v found same. subst (λ x. Same there (F w) (G x)) (sym same) (on w found))

  -- what follows is told by the word
  led_by : (c : Code) (to : ℤ → Option ℕ) (w : ℤ) → flat.word m c ≡ Given w → got_kinds t here (and_then (flat.word m c) (λ v. Given (to v))) ≡ led_kinds t here (to w)
  led_by c to w found = ap (λ g. got_kinds t here (and_then g (λ v. Given (to v)))) found

  pub test_alike : (c : Code) (holds fails : Option ℕ) → LooksData m here takes c
      → Same (got_kinds t here (and_then (flat.word m c) (λ w. Given (tested holds fails w)))) (points.test t c holds fails) (test u c holds fails)
  test_alike c holds fails looks =
      word_on (got_kinds t here (and_then (flat.word m c) (λ w. Given (tested holds fails w)))) c (λ w. points.goes t m (tested holds fails w)) (λ w. goes u s (tested holds fails w)) looks
      (λ w found. subst (λ ks. Same ks (points.goes t m (tested holds fails w)) (goes u s (tested holds fails w))) (sym (led_by c (tested holds fails) w found)) (go_alike (tested holds fails w)))

  abbrev flat_choice : Option ℕ → points.Outcome
  flat_choice None = points.halted t constraint m
  flat_choice (Some n) = points.goes t m (Some n)

  choice_alike : (n : Option ℕ) → Same here (flat_choice n) (choice u n)
  choice_alike None = halted_alike handles here z [] here takes m s beside here constraint
  choice_alike (Some n) = go_alike (Some n)

  pub choose_alike : (c : Code) (choices : List Choice) → LooksData m here takes c → Same here (points.choose t c choices) (choose u c choices)
  choose_alike c choices looks = word_on here c (λ w. flat_choice (chosen w choices)) (λ w. choice u (chosen w choices)) looks (λ w found. choice_alike (chosen w choices))

  pub left_alike : (c : Code) (or_else : Bool) (n decided : Option ℕ) → LooksData m here takes c → IsOneData (kinds z.table boolean)
      → Same (got_kinds t here (and_then (flat.word m c) (λ w. Given (decided_by or_else n decided w)))) (points.evaluate_left t c or_else n decided) (evaluate_left u c or_else n decided)
  left_alike c or_else n decided looks one =
      word_on (got_kinds t here (and_then (flat.word m c) (λ w. Given (decided_by or_else n decided w)))) c
      (λ w. points.Goes (points.after t (truth_held w ∷ points.waiting t) m (decided_by or_else n decided w))) (λ w. Goes (after u (truth_held w ∷ waiting u) s (decided_by or_else n decided w))) looks
      (λ w found.
      subst (λ ks. Same ks (points.Goes (points.after t (truth_held w ∷ points.waiting t) m (decided_by or_else n decided w))) (Goes (after u (truth_held w ∷ waiting u) s (decided_by or_else n decided w))))
      (sym (led_by c (decided_by or_else n decided) w found)) (
        [],
        after_alike handles here z [] here takes m s beside (truth_held w ∷ points.waiting t) (truth_held w ∷ waiting u)
            (truth_alike z.table (handles ++ []) w one, waiting_on handles here z [] here takes m s beside) (decided_by or_else n decided w),
        back_on handles here z m beside.known (truth_held w ∷ points.waiting t) (decided_by or_else n decided w),
      ))

  pub right_alike : (c : Code) (n : Option ℕ) → LooksData m here takes c → IsOneData (kinds z.table boolean)
      → Same (led_kinds t here n) (points.evaluate_right t c n) (evaluate_right u c n)
  right_alike c n looks one =
      word_on (led_kinds t here n) c (λ w. points.Goes (points.after t (truth_held w ∷ drop 1 (points.waiting t)) m n)) (λ w. Goes (after u (truth_held w ∷ drop 1 (waiting u)) s n)) looks
      (λ w found. (
        [],
        after_alike handles here z [] here takes m s beside (truth_held w ∷ drop 1 (points.waiting t)) (truth_held w ∷ drop 1 (waiting u)) (
          truth_alike z.table (handles ++ []) w one,
          paired_drop (HeldAlike z.table (handles ++ [])) 1 (points.waiting t) (waiting u) (waiting_on handles here z [] here takes m s beside),
        ) n,
        back_on handles here z m beside.known (truth_held w ∷ drop 1 (points.waiting t)) n,
      ))
