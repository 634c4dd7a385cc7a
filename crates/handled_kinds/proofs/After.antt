-- The law: the kinds of the stack after a point are those of the frames that there are.
use Rattle.std.proofs.Common.{◌≡◌, refl, ap, ◌∙◌, ℕ, ◌+◌, List, [], ◌∷◌, ◌++◌, take, length, Option, Some, None}
use Rattle.run_values.specs.declared.value.Kind.{Kind}
use Rattle.run_codes.specs.Codes.{Does, Go, Put, Store, Assign, Call, Output, Input, Release, Test, Choose, Start, Next, EvaluateLeft, EvaluateRight, Hold, EndPointer, EndScope, Finish, Fall}
use Rattle.run_codes.specs.Flat.{Got, Given, Stops, Broken, and_then, word}
use Rattle.run_codes.specs.Points.{Frame, sub_at, next_value}
use Rattle.run_codes.specs.Points as points
use Rattle.handled_steps.specs.Alike.{frame_kinds, left_kinds, begun_kinds, led_kinds, got_kinds, stack_word, turn_next, tested, decided_by, kinds_after}
use Rattle.handled_kinds.specs.Stacks.{stack_kinds, begun_subs, left_subs, led_subs, got_subs, subs_after}

take_first : (ks js : List Kind) → take (length ks) (ks ++ js) ≡ ks
take_first [] js = refl
take_first (k ∷ ks) js = ap (λ all. k ∷ all) (take_first ks js)

module _ (t : points.Turn) where
  abbrev all : List ℕ → List Kind
  all ns = stack_kinds t.table t.program ns

  begun_same : (ns : List ℕ) (main : Option ℕ) → begun_kinds t (all ns) main ≡ all (begun_subs ns main)
  begun_same ns None = refl
  begun_same ns (Some main) = refl

  left_same : (ns : List ℕ) (outer : List Frame) → left_kinds t (all ns) outer ≡ all (left_subs t ns outer)
  left_same ns [] = begun_same ns t.program.main
  left_same ns (g ∷ outer) = refl

  led_same : (ns : List ℕ) (n : Option ℕ) → led_kinds t (all ns) n ≡ all (led_subs t ns n)
  led_same ns (Some n) = refl
  led_same ns None = left_same ns t.outer

  got_same : (ns : List ℕ) (g : Got (Option ℕ)) → got_kinds t (all ns) g ≡ all (got_subs t ns g)
  got_same ns (Given n) = led_same ns n
  got_same ns (Stops x) = refl
  got_same ns Broken = refl

  pub after_same : (sub : ℕ) (rest : List ℕ) (d : Does) → t.frame.base ≡ length (all rest) → kinds_after t (all (sub ∷ rest)) d ≡ all (subs_after t (sub ∷ rest) d)
  after_same sub rest (Go n) base = led_same (sub ∷ rest) n
  after_same sub rest (Put at v n) base = led_same (sub ∷ rest) n
  after_same sub rest (Store p v k n) base = led_same (sub ∷ rest) n
  after_same sub rest (Assign p v of checks n) base = led_same (sub ∷ rest) n
  after_same sub rest (Call called actuals n) base = led_same (called ∷ sub ∷ rest) n
  after_same sub rest (Output pieces line n) base = led_same (sub ∷ rest) n
  after_same sub rest (Input p low high n) base = led_same (sub ∷ rest) n
  after_same sub rest (Release p of at n) base = led_same (sub ∷ rest) n
  after_same sub rest (Test c holds fails) base = got_same (sub ∷ rest) (and_then (word (points.start t) c) (λ w. Given (tested holds fails w)))
  after_same sub rest (Choose c choices) base = refl
  after_same sub rest (Start at counter low high first last n) base = led_same (sub ∷ rest) n
  after_same sub rest (Next at counter reversed default turn leave) base =
      got_same (sub ∷ rest) (and_then (stack_word t at) (λ v. and_then (stack_word t counter) (λ low. and_then (stack_word t (counter + 1))
      (λ high. and_then (stack_word t (counter + 2)) (λ first. Given (turn_next turn leave (next_value reversed low high first v)))))))
  after_same sub rest (EvaluateLeft c or_else n decided) base = got_same (sub ∷ rest) (and_then (word (points.start t) c) (λ w. Given (decided_by or_else n decided w)))
  after_same sub rest (EvaluateRight c n) base = led_same (sub ∷ rest) n
  after_same sub rest (Hold v of n) base = refl
  after_same sub rest (EndPointer at n) base = led_same (sub ∷ rest) n
  after_same sub rest (EndScope at of n) base = led_same (sub ∷ rest) n
  after_same sub rest Finish base = ap (λ n. take n (all (sub ∷ rest))) base ∙ take_first (all rest) (frame_kinds t.table (sub_at t.program sub))
  after_same sub rest Fall base = refl
