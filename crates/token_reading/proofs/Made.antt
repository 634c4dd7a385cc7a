-- The laws of a reader whose tree is made of what another one read, and other words for the same
-- law.
use Rattle.std.proofs.Common.{◌≡◌, refl, sym, ap, ◌∙◌, subst, ℕ, Bool, true, false, List, [], ◌∷◌, ◌++◌, inl, inr}
use Rattle.token_reading.specs.Spelled.{Spelled}
use Rattle.token_reading.specs.Weights.{WeighedToken, bare, after, WithinLimits}
use Rattle.token_reading.specs.Reading.{Cause, Outcome, Got, Fails, Reader, starts, and_then, to, nothing}
use Rattle.token_reading.proofs.Sets.{within, Leads, stops_within, leads_within, leads_may}
use Rattle.token_reading.proofs.Lists.{nothing_before}
use Rattle.token_reading.proofs.Tokens.{Any}
use Rattle.token_reading.proofs.Law.{Read, Accepted, Broken, Law, Leaves, put, left_same, and_then_got, and_then_fails, got_fails, read_same, accepted_made, left_made, put_made}

module _ {A B : Type 0} {p : Reader A} {g : A → Type 0} {s : A → List WeighedToken} {first last : List ℕ} {may : Bool}
    (f : A → B) (h : B → Type 0) (t : B → List WeighedToken) (P : Law p g s first last may)
    (makes : (a : A) → g a → h (f a)) (spells : (a : A) → g a → t (f a) ≡ s a) (onto : (b : B) → h b → (a : A) × (g a × (f a ≡ b))) where
  abbrev finish : A → Reader B
  finish a j rest = Got (f a) j rest

  -- the spelling of a tree is that of what it is made of
  from_spelling : (b : B) (a : A) → g a → f a ≡ b → t b ≡ s a
  from_spelling b a good e = ap t (sym e) ∙ spells a good

  made_leads : (b : B) → h b → Leads may first (bare (t b))
  made_leads b good =
      let from = onto b good in
      subst (λ us. Leads may first (bare us)) (sym (from_spelling b from.0 from.1.0 from.1.1)) (P.leads from.0 from.1.0)

  made_whole : (k : ℕ) (ts : List Spelled) (a : A) (j : ℕ) (rest : List Spelled) → Read g s k ts a j rest → Read h t k ts (f a) j rest
  made_whole k ts a j rest read =
      let same = sym (spells a read.fits) in
      record {
        fits = makes a read.fits;
        within_limits = subst (WithinLimits k) same read.within_limits;
        count = read.count ∙ ap (after k) same;
        whole = read.whole ∙ ap (λ ms. bare ms ++ rest) same;
      }

  made_sound : (k : ℕ) (ts : List Spelled) (b : B) (i : ℕ) (rest : List Spelled) → to f p k ts ≡ Got b i rest → Read h t k ts b i rest
  made_sound k ts b i rest e =
      let one = and_then_got (p k ts) finish b i rest e in
      read_same k ts (f one.0) b one.1.0 i one.1.1.0 rest one.1.1.1.1
      (made_whole k ts one.0 one.1.0 one.1.1.0 (P.sound k ts one.0 one.1.0 one.1.1.0 one.1.1.1.0))

  made_accepts : (k : ℕ) (b : B) (rest : List Spelled) → h b → starts last rest ≡ false
      → Accepted b k (t b) rest (to f p k (bare (t b) ++ rest))
  made_accepts k b rest good e =
      let from = onto b good in
      let a : A = from.0 in
      let same = from_spelling b a from.1.0 from.1.1 in
      let one = P.accepts k a rest from.1.0 e in
      subst (λ ms. Accepted b k ms rest (to f p k (bare ms ++ rest))) (sym same)
      (accepted_made f a b k (s a) rest (p k (bare (s a) ++ rest)) from.1.1 one)

  made_breaks : (k : ℕ) (ts : List Spelled) (c : Cause) (rest : List Spelled) → to f p k ts ≡ Fails c rest → Broken h t k c ts rest
  made_breaks k ts c rest e = elim (and_then_fails (p k ts) finish c rest e) [
    | inl first ↦
        let broken = P.breaks k ts c rest first in
        record {
          before = broken.before;
          tree = f broken.tree;
          reached = broken.reached;
          more = broken.more;
          fits = makes broken.tree broken.fits;
          clear = broken.clear;
          reach = broken.reach;
          splits = broken.splits;
          goes_on = spells broken.tree broken.fits ∙ broken.goes_on;
        }
    | inr one ↦ absurd (got_fails (f one.0) one.1.0 c one.1.1.0 rest one.1.1.1.1)
  ]

  made_local : (k : ℕ) (u : List Spelled) (x : Spelled) (r z : List Spelled) → Leaves (to f p k (u ++ (x ∷ r))) (x ∷ r)
      → to f p k (u ++ (x ∷ z)) ≡ put (x ∷ z) (to f p k (u ++ (x ∷ r)))
  made_local k u x r z e =
      let left = left_made f (p k (u ++ (x ∷ r))) (x ∷ r) e in
      ap (λ o. and_then o finish) (P.local k u x r z left) ∙ put_made f (x ∷ z) (p k (u ++ (x ∷ r)))

  -- The tree that is made.
  pub law_to : Law (to f p) h t first last may
  law_to = record {
    example = f P.example;
    sample = makes P.example P.sample;
    leads = made_leads;
    sound = made_sound;
    accepts = made_accepts;
    breaks = made_breaks;
    local = made_local;
  }

pub law_nothing : Law nothing Any (λ u. []) [] [] true
law_nothing = record {
  example = tt;
  sample = tt;
  leads = λ a g. refl;
  sound = λ k ts a j rest e. record { fits = tt; within_limits = tt; count = cc; whole = cc };
  accepts = λ k a rest g e. (refl, refl, refl, tt);
  breaks = λ k ts c rest e. absurd (cc);
  local = λ k u x r z e. let none : u ≡ [] = nothing_before u (x ∷ r) e in ap (λ v. Got tt k (v ++ (x ∷ z))) none;
}

-- The same law of another reader that gives the same outcomes.
pub law_same : {A : Type 0} {p : Reader A} {g : A → Type 0} {s : A → List WeighedToken} {first last : List ℕ} {may : Bool} (q : Reader A)
    → Law p g s first last may → ((k : ℕ) (ts : List Spelled) → q k ts ≡ p k ts) → Law q g s first last may
law_same {p = p} {s = s} q P same = record {
  example = P.example;
  sample = P.sample;
  leads = P.leads;
  sound = λ k ts a j rest e. P.sound k ts a j rest (sym (same k ts) ∙ e);
  accepts = λ k a rest good e. subst (λ o. Accepted a k (s a) rest o) (sym (same k (bare (s a) ++ rest))) (P.accepts k a rest good e);
  breaks = λ k ts c rest e. P.breaks k ts c rest (sym (same k ts) ∙ e);
  local = λ k u x r z e. same k (u ++ (x ∷ z)) ∙ P.local k u x r z (left_same (p k (u ++ (x ∷ r))) (q k (u ++ (x ∷ r))) (x ∷ r) (sym (same k (u ++ (x ∷ r)))) e) ∙ ap (put (x ∷ z)) (sym (same k (u ++ (x ∷ r))));
}

to_itself : {A : Type 0} (o : Outcome A) → o ≡ and_then o (λ a j rest. Got a j rest)
to_itself (Got a j rest) = refl
to_itself (Fails c rest) = refl

-- The same law in other words for the good trees and their spelling.
pub law_reworded : {A : Type 0} {p : Reader A} {g : A → Type 0} {s : A → List WeighedToken} {first last : List ℕ} {may : Bool}
    (h : A → Type 0) (t : A → List WeighedToken) → Law p g s first last may → ((a : A) → g a → h a) → ((a : A) → h a → g a)
    → ((a : A) → g a → t a ≡ s a) → Law p h t first last may
law_reworded {p = p} h t P makes onto spells =
    law_same p (law_to (λ a. a) h t P makes spells (λ a good. (a, (onto a good, refl)))) (λ k ts. to_itself (p k ts))

-- The same law with larger sets.
pub law_wider : {A : Type 0} {p : Reader A} {g : A → Type 0} {s : A → List WeighedToken} {first last : List ℕ} {may : Bool} (fs ls : List ℕ)
    → Law p g s first last may → within first fs ≡ true → within last ls ≡ true → Law p g s fs ls may
law_wider {first = first} {last = last} {may = may} fs ls P f l = record {
  example = P.example;
  sample = P.sample;
  leads = λ a good. leads_within first fs f may _ (P.leads a good);
  sound = P.sound;
  accepts = λ k a rest good e. P.accepts k a rest good (stops_within last ls l rest e);
  breaks = P.breaks;
  local = P.local;
}

-- The same law where it is left open whether a spelling may be empty.
pub law_may : {A : Type 0} {p : Reader A} {g : A → Type 0} {s : A → List WeighedToken} {first last : List ℕ} → Law p g s first last false → Law p g s first last true
law_may {first = first} P = record {
  example = P.example;
  sample = P.sample;
  leads = λ a good. leads_may first _ (P.leads a good);
  sound = P.sound;
  accepts = P.accepts;
  breaks = P.breaks;
  local = P.local;
}
