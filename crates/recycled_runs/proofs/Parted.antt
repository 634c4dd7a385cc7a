-- Equal results of one constructor hold equal parts, and those of two constructors aren't equal: one lemma each, so that
-- no proof within a long section searches for it.
use Rattle.std.proofs.Common.{◌≡◌, Bool, true, false}
use Rattle.machine.specs.Evaluate as machine
use Rattle.machine.specs.States as states
use Rattle.run_codes.specs.Flat.{Flat, Got, Given, Made, Done}
use Rattle.run_codes.specs.Points as points

-- Which constructor a result has.
abbrev pub is_done_value : {A : Type 0} → machine.Evaluated A → Bool
is_done_value (machine.Done a n) = true
is_done_value v = false

abbrev pub is_given : {A : Type 0} → Got A → Bool
is_given (Given a) = true
is_given v = false

abbrev pub is_made : {A : Type 0} → Made A → Bool
is_made (Done a n) = true
is_made v = false

abbrev pub is_going : points.Outcome → Bool
is_going (points.Goes a) = true
is_going v = false

pub given_values : {A : Type 0} {a b : A} → ◌≡◌ {A = Got A} (Given a) (Given b) → a ≡ b
given_values e = cc

pub made_values : {A : Type 0} {a b : A} {m n : Flat} → ◌≡◌ {A = Made A} (Done a m) (Done b n) → a ≡ b
made_values e = cc

pub made_memories : {A : Type 0} {a b : A} {m n : Flat} → ◌≡◌ {A = Made A} (Done a m) (Done b n) → m ≡ n
made_memories e = cc

pub evaluated_values : {A : Type 0} {a b : A} {m n : machine.Now} → ◌≡◌ {A = machine.Evaluated A} (machine.Done a m) (machine.Done b n) → a ≡ b
evaluated_values e = cc

pub goes_states : {s t : states.State} → states.Goes s ≡ states.Goes t → s ≡ t
goes_states e = cc

pub evaluated_nows : {A : Type 0} {a b : A} {m n : machine.Now} → ◌≡◌ {A = machine.Evaluated A} (machine.Done a m) (machine.Done b n) → m ≡ n
evaluated_nows e = cc
