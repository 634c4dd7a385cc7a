-- The laws of forms that open a construct, where a level is left for it and where none is.
use Rattle.std.proofs.Common.{◌≡◌, refl, sym, ap, ◌∙◌, subst, ℕ, Bool, false, List, [], ◌∷◌, ◌++◌, inl, inr}
use Rattle.ada_lexer.specs.declared.token.Reserved.{Reserved}
use Rattle.ada_lexer.specs.declared.token.Symbol.{Symbol}
use lib.Dec.{leb}
use Rattle.spark_base.specs.declared.limits.TheConstants.{NESTING}
use Rattle.token_reading.specs.declared.side.Side.{Side}
use Rattle.token_reading.specs.declared.side.Side.TheVariants.{Apart}
use Rattle.token_reading.specs.Spelled.{Spelled, Word, Delimiter}
use Rattle.token_reading.specs.Weights.{WeighedToken, bare, after, WithinLimits, opens}
use Rattle.token_reading.specs.Reading.{Cause, Refused, OverLimit, Outcome, Got, Fails, Reader, starts, and_then, of_word, of_symbol, opens_word, opens_symbol, seq_on, seq}
use Rattle.token_reading.proofs.Sets.{Leads}
use Rattle.token_reading.proofs.Lists.{bare-append, bare_both, after-append}
use Rattle.token_reading.proofs.Tokens.{Any, law_opens_word, law_opens_symbol}
use Rattle.token_reading.proofs.Seq.{pair_up, on_whole, in_first, in_second, BothOn, joined_on, Both, joined}
use Rattle.token_reading.proofs.Law.{Read, Accepted, Broken, Law, Leaves, put, left_same, and_then_got, and_then_fails, got_fails, read_same, accepted_then, accepted_made, left_made, put_made, prefix, goes_past}

-- A law is owed of the second part only after a first part within the limits: after others it is
-- never reached.
module _ {A B : Type 0} {p : Reader A} {q : A → Reader B} {g : A → Type 0} {h : A → B → Type 0} {s : A → List WeighedToken} {t : A → B → List WeighedToken}
    {first fq lq : List ℕ} {n : Bool} (P : Law p g s first [] false)
    (Q : (k : ℕ) (a : A) → g a → WithinLimits k (s a) → Law (q a) (h a) (t a) fq lq n) (example : (a : A) → g a → (b : B) × h a b) where
  abbrev Good : A × B → Type 0
  Good = BothOn g h

  abbrev spelling : A × B → List WeighedToken
  spelling = joined_on s t

  abbrev behind : A → Reader (A × B)
  behind a j more = and_then (q a j more) (pair_up a)

  leads_on : (us vs : List Spelled) → Leads false first us → Leads false first (us ++ vs)
  leads_on [] vs l = absurd (cc)
  leads_on (u ∷ us) vs l = l

  guarded_leads : (x : A × B) → Good x → Leads false first (bare (spelling x))
  guarded_leads x good =
      subst (λ us. Leads false first us) (sym (bare-append (s x.0) (t x.0 x.1)))
      (leads_on (bare (s x.0)) (bare (t x.0 x.1)) (P.leads x.0 good.0))

  guarded_sound : (k : ℕ) (ts : List Spelled) (x : A × B) (i : ℕ) (rest : List Spelled) → seq_on p q k ts ≡ Got x i rest
      → Read Good spelling k ts x i rest
  guarded_sound k ts x i rest e =
      let one = and_then_got (p k ts) behind x i rest e in
      let two = and_then_got (q one.0 one.1.0 one.1.1.0) (pair_up one.0) x i rest one.1.1.1.1 in
      let front = P.sound k ts one.0 one.1.0 one.1.1.0 one.1.1.1.0 in
      let back = (Q k one.0 front.fits front.within_limits).sound one.1.0 one.1.1.0 two.0 two.1.0 two.1.1.0 two.1.1.1.0 in
      read_same {A = A × B} k ts (one.0, two.0) x two.1.0 i two.1.1.0 rest two.1.1.1.1
      (on_whole g h s t k ts one.0 one.1.0 one.1.1.0 two.0 two.1.0 two.1.1.0 front back)

  starts_none : (ts : List Spelled) → starts [] ts ≡ false
  starts_none [] = refl
  starts_none (u ∷ ts) = refl

  second_accepts : (k : ℕ) (x : A × B) (rest : List Spelled) → Good x → WithinLimits k (s x.0) → starts lq rest ≡ false
      → Accepted x (after k (s x.0)) (t x.0 x.1) rest (behind x.0 (after k (s x.0)) (bare (t x.0 x.1) ++ rest))
  second_accepts k x rest good within_limits e =
      let j : ℕ = after k (s x.0) in
      accepted_made (λ (b : B). (x.0, b)) x.1 x j (t x.0 x.1) rest (q x.0 j (bare (t x.0 x.1) ++ rest)) refl
      ((Q k x.0 good.0 within_limits).accepts j x.1 rest good.1 e)

  guarded_accepts : (k : ℕ) (x : A × B) (rest : List Spelled) → Good x → starts lq rest ≡ false
      → Accepted x k (spelling x) rest (seq_on p q k (bare (spelling x) ++ rest))
  guarded_accepts k x rest good e =
      let left : List Spelled = bare (t x.0 x.1) ++ rest in
      subst (λ us. Accepted x k (spelling x) rest (seq_on p q k us)) (sym (bare_both (s x.0) (t x.0 x.1) rest))
      (accepted_then x.0 k (s x.0) (t x.0 x.1) x rest behind (p k (bare (s x.0) ++ left)) (P.accepts k x.0 left good.0 (starts_none left))
      (λ within_limits. second_accepts k x rest good within_limits e))

  guarded_breaks : (k : ℕ) (ts : List Spelled) (c : Cause) (rest : List Spelled) → seq_on p q k ts ≡ Fails c rest → Broken Good spelling k c ts rest
  guarded_breaks k ts c rest e = elim (and_then_fails (p k ts) behind c rest e) [
    | inl early ↦ in_first g h s t k ts c rest example (P.breaks k ts c rest early)
    | inr one ↦
        let front = P.sound k ts one.0 one.1.0 one.1.1.0 one.1.1.1.0 in
        elim (and_then_fails (q one.0 one.1.0 one.1.1.0) (pair_up one.0) c rest one.1.1.1.1) [
          | inl second ↦
              in_second g h s t k ts one.0 one.1.0 one.1.1.0 c rest front ((Q k one.0 front.fits front.within_limits).breaks one.1.0 one.1.1.0 c rest second)
          | inr two ↦ absurd (got_fails {A = A × B} (one.0, two.0) two.1.0 c two.1.1.0 rest two.1.1.1.1)
        ]
  ]

  guarded_local : (k : ℕ) (u : List Spelled) (x : Spelled) (r z : List Spelled) → Leaves (seq_on p q k (u ++ (x ∷ r))) (x ∷ r)
      → seq_on p q k (u ++ (x ∷ z)) ≡ put (x ∷ z) (seq_on p q k (u ++ (x ∷ r)))
  guarded_local k u x r z e = of_first (p k (u ++ (x ∷ r))) refl e
    where
      of_first : (o : Outcome A) → p k (u ++ (x ∷ r)) ≡ o → Leaves (and_then o behind) (x ∷ r)
          → seq_on p q k (u ++ (x ∷ z)) ≡ put (x ∷ z) (and_then o behind)
      of_first (Fails c rest) is at =
          ap (λ o. and_then o behind) (P.local k u x r z (left_same (p k (u ++ (x ∷ r))) (Fails c rest) (x ∷ r) is at) ∙ ap (put (x ∷ z)) is)
      of_first (Got a j mid) is at =
          let front = P.sound k (u ++ (x ∷ r)) a j mid is in
          let second = Q k a front.fits front.within_limits in
          let leaves = left_made (λ (b : B). (a, b)) (q a j mid) (x ∷ r) at in
          let cut = prefix second j mid in
          let split : mid ≡ cut.0 ++ (x ∷ r) = cut.1 ∙ ap (λ ts. cut.0 ++ ts) leaves in
          let past = goes_past P k u x r z a j mid cut.0 is split in
          let there = subst (λ ts. Leaves (q a j ts) (x ∷ r)) split leaves in
          let more = second.local j cut.0 x r z there in
          ap (λ o. and_then o behind) past ∙ ap (λ o. and_then o (pair_up a)) (more ∙ ap (λ ts. put (x ∷ z) (q a j ts)) (sym split))
          ∙ put_made (λ (b : B). (a, b)) (x ∷ z) (q a j mid)

  pub law_guarded : Law (seq_on p q) (BothOn g h) (joined_on s t) first lq false
  law_guarded =
      let other = example P.example P.sample in
      record {
        example = (P.example, other.0);
        sample = (P.sample, other.1);
        leads = guarded_leads;
        sound = guarded_sound;
        accepts = guarded_accepts;
        breaks = guarded_breaks;
        local = guarded_local;
      }

-- ---- an opener and the rest of its construct, which has a law only where a level is left

module _ {B : Type 0} {q : Reader B} {h : B → Type 0} {t : B → List WeighedToken} {fq lq : List ℕ} {n : Bool} (example : B) (sample : h example) where
  pub law_opened_word : (v : Reserved) (d : ℕ) → (leb NESTING d ≡ false → Law q h t fq lq n)
      → Law (seq (opens_word v d) q) (Both Any h) (joined (λ p. opens Apart d (Word v p) ∷ []) t) (of_word v ∷ []) lq false
  law_opened_word v d Q = law_guarded (law_opens_word v d) (λ k a good within_limits. Q within_limits.0.allowed) (λ a good. (example, sample))

  pub law_opened_symbol : (side : Side) (v : Symbol) (d : ℕ) → (leb NESTING d ≡ false → Law q h t fq lq n)
      → Law (seq (opens_symbol side v d) q) (Both Any h) (joined (λ p. opens side d (Delimiter v p) ∷ []) t) (of_symbol v ∷ []) lq false
  law_opened_symbol side v d Q = law_guarded (law_opens_symbol side v d) (λ k a good within_limits. Q within_limits.0.allowed) (λ a good. (example, sample))
