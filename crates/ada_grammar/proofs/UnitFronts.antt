-- A part that is made in two steps, or made before what follows it is read, reads as its
-- parts do.
use Rattle.std.proofs.Common.{◌≡◌, refl, ap, ◌∙◌}
use Rattle.token_reading.specs.Reading.{Outcome, Got, Fails, Reader, and_then, to, seq, chain}
use Rattle.token_reading.proofs.Fronts.{Same, of_pair, chain_seq}

module _ {A B C : Type 0} (f : A → B) (g : B → C) (p : Reader A) where
  made_of_outcome : (o : Outcome A) → and_then (and_then o (λ a j rest. Got (f a) j rest)) (λ b j rest. Got (g b) j rest)
      ≡ and_then o (λ a j rest. Got (g (f a)) j rest)
  made_of_outcome (Got a j rest) = refl
  made_of_outcome (Fails c rest) = refl

  pub made_twice : Same (to g (to f p)) (to (λ a. g (f a)) p)
  made_twice k ts = made_of_outcome (p k ts)

module _ {A B C D : Type 0} (f : A → B) (make : B → C → D) (p : Reader A) (q : Reader C) where
  handed_on_outcome : (v : B → Reader D) → (o : Outcome A) → and_then (and_then o (λ a j rest. Got (f a) j rest)) v
      ≡ and_then o (λ a. v (f a))
  handed_on_outcome v (Got a j rest) = refl
  handed_on_outcome v (Fails c rest) = refl

  pub chain_made : (v : B → Reader D) → ((b : B) → Same (v b) (to (make b) q))
      → Same (chain (to f p) v) (to (of_pair (λ a. make (f a))) (seq p q))
  chain_made v same k ts =
      handed_on_outcome v (p k ts) ∙ chain_seq (λ a. make (f a)) p q (λ a. v (f a)) (λ a. same (f a)) k ts

-- A made part that is made into more.
pub made_of : {A B C : Type 0} (f : A → B) (g : B → C) (p : Reader A) (q : Reader B) → Same q (to f p) → Same (to g q) (to (λ a. g (f a)) p)
made_of f g p q same k ts = ap (λ o. and_then o (λ b j rest. Got (g b) j rest)) (same k ts) ∙ made_twice f g p k ts
