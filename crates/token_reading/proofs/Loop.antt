-- What each iteration keeps of a loop that reads one part after the other.
use Rattle.std.proofs.Common.{◌≡◌, refl, sym, ap, ◌∙◌, subst, ℕ, zero, suc, ◌≤◌, ◌<◌, true, false, List, [], ◌∷◌, ◌++◌, length, arith}
use Rattle.std.specs.Prelude.{if◌then◌else◌, Result, Ok, Err}
use Rattle.std.specs.Result.{IsErrAnd}
use Rattle.std.proofs.lemmas.List.{append_assoc, append-nil}
use Rattle.token_reading.specs.declared.fault.ReadFault.{ReadFault}
use Rattle.token_reading.specs.declared.fault.ReadFault.TheVariants as fault
use Rattle.token_reading.specs.Spelled.{Spelled}
use Rattle.token_reading.specs.Reading.{Cause, Refused, OverLimit, Outcome, Got, Fails, Ahead, at, Gives, Reader, starts, and_then, many_up_to, many}
use Rattle.token_reading.proofs.Lists.{if_true, if_false}
use Rattle.token_reading.proofs.Many.{add_front, turn}

turn_same : {A : Type 0} (o : Outcome A) (q r : Reader (List A)) → ((a : A) (j : ℕ) (more : List Spelled) → o ≡ Got a j more → q j more ≡ r j more)
    → turn o q ≡ turn o r
turn_same (Got a j more) q r same = ap (λ out. and_then out (add_front a)) (same a j more refl)
turn_same (Fails c more) q r same = refl

-- What a reader owes so that the count of the tokens is enough iterations.
abbrev pub Shortens : {A : Type 0} → Reader A → Type 0
Shortens {A} p = (k : ℕ) (ts : List Spelled) (a : A) (j : ℕ) (rest : List Spelled) → p k ts ≡ Got a j rest → length rest < length ts

-- What was read in earlier iterations, before what an outcome has.
abbrev pub with_front : {A : Type 0} → List A → Outcome (List A) → Outcome (List A)
with_front xs o = and_then o (λ ys j rest. Got (xs ++ ys) j rest)

pub front_none : {A : Type 0} (o : Outcome (List A)) → with_front [] o ≡ o
front_none (Got xs j rest) = refl
front_none (Fails c rest) = refl

front_more : {A : Type 0} (xs : List A) (a : A) (o : Outcome (List A)) → with_front xs (and_then o (add_front a)) ≡ with_front (xs ++ a ∷ []) o
front_more xs a (Got ys j rest) = ap (λ zs. Got zs j rest) (sym (append_assoc xs (a ∷ []) ys))
front_more xs a (Fails c rest) = refl

module _ {A : Type 0} (ms : List ℕ) (p : Reader A) (shortens : Shortens p) where
  enough : (n m k : ℕ) (ts : List Spelled) → length ts ≤ n → length ts ≤ m → many_up_to ms p n k ts ≡ many_up_to ms p m k ts
  enough zero zero k ts h l = refl
  enough zero (suc m) k [] h l = refl
  enough zero (suc m) k (t ∷ ts) h l = absurd (omega arith)
  enough (suc n) zero k [] h l = refl
  enough (suc n) zero k (t ∷ ts) h l = absurd (omega arith)
  enough (suc n) (suc m) k ts h l =
      ap (λ o. if starts ms ts then o else Got [] k ts) (turn_same (p k ts) (many_up_to ms p n) (many_up_to ms p m)
      (λ a j more e. let fewer : length more < length ts = shortens k ts a j more e in enough n m j more (omega arith) (omega arith)))

  many_turn : (k : ℕ) (ts : List Spelled) → many ms p k ts ≡ (if starts ms ts then turn (p k ts) (many ms p) else Got [] k ts)
  unfolding many
  many_turn k [] = refl
  many_turn k (t ∷ ts) = ap (λ o. if starts ms (t ∷ ts) then o else Got [] k (t ∷ ts)) (turn_same (p k (t ∷ ts)) (many_up_to ms p (length ts)) (many ms p)
      (λ a j more e. let fewer : length more < length (t ∷ ts) = shortens k (t ∷ ts) a j more e in enough (length ts) (length more) j more (omega arith) (omega arith)))

  -- an iteration reads one more
  pub goes_on : (xs : List A) (old new : Ahead) (a : A) (o : Outcome (List A)) → starts ms old.tokens ≡ true
      → at p old ≡ Got a new.operators new.tokens → with_front xs (at (many ms p) old) ≡ o → with_front (xs ++ a ∷ []) (at (many ms p) new) ≡ o
  goes_on xs old new a o sees one before =
      let here : at (many ms p) old ≡ and_then (at (many ms p) new) (add_front a) =
      many_turn old.operators old.tokens ∙ if_true (starts ms old.tokens) _ _ sees ∙ ap (λ out. turn out (many ms p)) one in
      sym (front_more xs a (at (many ms p) new)) ∙ ap (with_front xs) (sym here) ∙ before

  -- the loop ends
  pub ends : (xs : List A) (old : Ahead) (o : Outcome (List A)) → starts ms old.tokens ≡ false → with_front xs (at (many ms p) old) ≡ o
      → o ≡ Got xs old.operators old.tokens
  ends xs old o sees before =
      let here : at (many ms p) old ≡ Got [] old.operators old.tokens = many_turn old.operators old.tokens ∙ if_false (starts ms old.tokens) _ _ sees in
      sym before ∙ ap (with_front xs) here ∙ ap (λ zs. Got zs old.operators old.tokens) (append-nil xs)

  breaks : (xs : List A) (old : Ahead) (c : Cause) (more : List Spelled) (o : Outcome (List A)) → starts ms old.tokens ≡ true → at p old ≡ Fails c more
      → with_front xs (at (many ms p) old) ≡ o → o ≡ Fails c more
  breaks xs old c more o sees one before =
      let here : at (many ms p) old ≡ Fails c more =
      many_turn old.operators old.tokens ∙ if_true (starts ms old.tokens) _ _ sees ∙ ap (λ out. turn out (many ms p)) one in
      sym before ∙ ap (with_front xs) here

  -- an iteration fails
  pub breaks_off : (cause : ReadFault) (xs : List A) (old new : Ahead) (o : Outcome (List A)) → starts ms old.tokens ≡ true
      → Gives (at p old) (Err cause) new → with_front xs (at (many ms p) old) ≡ o → Gives o (Err cause) new
  breaks_off fault.Refused xs old new o sees one before = breaks xs old Refused new.tokens o sees one before
  breaks_off fault.OverLimit xs old new o sees one before = breaks xs old OverLimit new.tokens o sees one before
  breaks_off fault.Memory xs old new o sees one before = tt

-- An error that `?` hands on as it is.
pub handed_on : {A : Type 0} (o : Outcome A) (cause : ReadFault) (result : Result A ReadFault) (new : Ahead)
    → Gives o (Err cause) new → IsErrAnd result (λ e. e ≡ cause) → Gives o result new
handed_on o cause (Ok a) new read is = absurd is
handed_on o cause (Err e) new read is = subst (λ f. Gives o (Err f) new) (sym is) read
