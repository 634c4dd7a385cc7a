-- A reader that hands what it has read to the next one reads as the sequence and the choice do, of
-- which there are laws.
use Rattle.std.proofs.Common.{◌≡◌, refl, ap, ◌∙◌, ℕ, Bool, true, false, List, inl, inr}
use Rattle.std.specs.Prelude.{if◌then◌else◌}
use Rattle.token_reading.specs.Spelled.{Spelled}
use Rattle.token_reading.specs.Reading.{Outcome, Got, Fails, Reader, starts, and_then, to, seq_on, seq, chain, either, choose}
use Rattle.token_reading.proofs.Choice.{cases}

-- Both readers give the same outcome on each list.
abbrev pub Same : {A : Type 0} → Reader A → Reader A → Type 0
Same p q = (k : ℕ) (ts : List Spelled) → p k ts ≡ q k ts

module _ {A B C : Type 0} (ms : List ℕ) (f : A → C) (h : B → C) (p : Reader A) (q : Reader B) where
  one_of_two : (r : Bool) (o : Outcome A) (u : Outcome B)
      → (if r then and_then o (λ a j rest. Got (f a) j rest) else and_then u (λ b j rest. Got (h b) j rest))
      ≡ and_then (if r then and_then o (λ a j rest. Got (inl a) j rest) else and_then u (λ b j rest. Got (inr b) j rest))
      (λ x j rest. Got (cases f h x) j rest)
  one_of_two true (Got a j rest) u = refl
  one_of_two true (Fails c rest) u = refl
  one_of_two false o (Got b j rest) = refl
  one_of_two false o (Fails c rest) = refl

  pub either_choice : (v l : Reader C) → Same v (to f p) → Same l (to h q) → Same (either ms v l) (to (cases f h) (choose ms p q))
  either_choice v l first second k ts =
      ap (λ o. if starts ms ts then o else l k ts) (first k ts) ∙ ap (λ o. if starts ms ts then to f p k ts else o) (second k ts)
      ∙ one_of_two (starts ms ts) (p k ts) (q k ts)

-- What is made of a pair, and of what follows each first part.
abbrev pub of_pair : {A B C : Type 0} → (A → B → C) → A × B → C
of_pair make x = make x.0 x.1

abbrev pair_up : {A B : Type 0} → A → B → Reader (A × B)
pair_up a b j rest = Got (a, b) j rest

module _ {A B C : Type 0} (make : A → B → C) (p : Reader A) (q : A → Reader B) where
  behind_one : (a : A) (o : Outcome B) → and_then o (λ b j rest. Got (make a b) j rest)
      ≡ and_then (and_then o (pair_up a)) (λ x j rest. Got (of_pair make x) j rest)
  behind_one a (Got b j rest) = refl
  behind_one a (Fails c rest) = refl

  behind_front : (v : A → Reader C) → ((a : A) → Same (v a) (to (make a) (q a))) → (o : Outcome A)
      → and_then o v ≡ and_then (and_then o (λ a j more. and_then (q a j more) (pair_up a))) (λ x j rest. Got (of_pair make x) j rest)
  behind_front v same (Got a j more) = same a j more ∙ behind_one a (q a j more)
  behind_front v same (Fails c more) = refl

  pub chain_seq_on : (v : A → Reader C) → ((a : A) → Same (v a) (to (make a) (q a))) → Same (chain p v) (to (of_pair make) (seq_on p q))
  chain_seq_on v same k ts = behind_front v same (p k ts)

pub chain_seq : {A B C : Type 0} (make : A → B → C) (p : Reader A) (q : Reader B) (v : A → Reader C) → ((a : A) → Same (v a) (to (make a) q))
    → Same (chain p v) (to (of_pair make) (seq p q))
chain_seq make p q v same = chain_seq_on make p (λ a. q) v same

module _ {A B C D : Type 0} (f : A → C) (make : C × B → D) (p : Reader A) (q : Reader B) where
  made_first : (o : Outcome A) → and_then (and_then (and_then o (λ a j more. Got (f a) j more)) (λ c j more. and_then (q j more) (pair_up c)))
      (λ x j rest. Got (make x) j rest)
      ≡ and_then (and_then o (λ a j more. and_then (q j more) (pair_up a))) (λ x j rest. Got (make (f x.0, x.1)) j rest)
  made_first (Got a i more) = behind (q i more)
    where
      behind : (u : Outcome B) → and_then (and_then u (pair_up (f a))) (λ x j rest. Got (make x) j rest)
          ≡ and_then (and_then u (pair_up a)) (λ x j rest. Got (make (f x.0, x.1)) j rest)
      behind (Got b j rest) = refl
      behind (Fails c rest) = refl
  made_first (Fails c more) = refl

  -- The first of two parts is made first, or with the whole.
  pub seq_made : (v : Reader C) → Same v (to f p) → Same (to make (seq v q)) (to (λ x. make (f x.0, x.1)) (seq p q))
  seq_made v same k ts =
      ap (λ o. and_then (and_then o (λ c j more. and_then (q j more) (pair_up c))) (λ x j rest. Got (make x) j rest)) (same k ts) ∙ made_first (p k ts)
