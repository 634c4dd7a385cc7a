-- The laws of one of two readers, and of a reader that may be left out.
use Rattle.std.proofs.Common.{◌≡◌, refl, sym, ap, ◌∙◌, subst, ℕ, Bool, true, false, List, [], ◌∷◌, ◌++◌, Option, Some, None, ◌⊎◌, inl, inr}
use Rattle.std.specs.Prelude.{if◌then◌else◌}
use Rattle.token_reading.specs.Spelled.{Spelled}
use Rattle.token_reading.specs.Weights.{WeighedToken, bare, after}
use Rattle.token_reading.specs.Reading.{Cause, Got, Fails, Reader, starts, to, either, choose, optional}
use Rattle.token_reading.proofs.Sets.{apart, within, Leads, stops_both, stops_last, stops_before, starts_within, leads_left, leads_right}
use Rattle.token_reading.proofs.Lists.{if_true, if_false}
use Rattle.token_reading.proofs.Tokens.{Any}
use Rattle.token_reading.proofs.Made.{law_to, law_nothing}
use Rattle.token_reading.proofs.Law.{Read, Accepted, Broken, Law, Leaves, put}

-- The front of a list is the same, whatever follows a token.
pub same_start : (ms : List ℕ) (u : List Spelled) (x : Spelled) (r z : List Spelled) → starts ms (u ++ (x ∷ z)) ≡ starts ms (u ++ (x ∷ r))
same_start ms [] x r z = refl
same_start ms (t ∷ u) x r z = refl

module _ {A : Type 0} {p q : Reader A} {g h : A → Type 0} {s : A → List WeighedToken} {fp lp fq lq : List ℕ} {n : Bool}
    (ms : List ℕ) (good : A → Type 0) (P : Law p g s fp lp false) (Q : Law q h s fq lq n)
    (first : (a : A) → g a → good a) (second : (a : A) → h a → good a) (which : (a : A) → good a → g a ⊎ h a)
    (taken_in : within fp ms ≡ true) (side : apart ms fq ≡ true) where
  read_first : (k : ℕ) (ts : List Spelled) (a : A) (j : ℕ) (rest : List Spelled) → Read g s k ts a j rest → Read good s k ts a j rest
  read_first k ts a j rest read = record { fits = first a read.fits; within_limits = read.within_limits; count = read.count; whole = read.whole }

  read_second : (k : ℕ) (ts : List Spelled) (a : A) (j : ℕ) (rest : List Spelled) → Read h s k ts a j rest → Read good s k ts a j rest
  read_second k ts a j rest read = record { fits = second a read.fits; within_limits = read.within_limits; count = read.count; whole = read.whole }

  either_sound : (r : Bool) (k : ℕ) (ts : List Spelled) (a : A) (j : ℕ) (rest : List Spelled) → (if r then p k ts else q k ts) ≡ Got a j rest
      → Read good s k ts a j rest
  either_sound true k ts a j rest e = read_first k ts a j rest (P.sound k ts a j rest e)
  either_sound false k ts a j rest e = read_second k ts a j rest (Q.sound k ts a j rest e)

  abbrev last : List ℕ
  last = if n then ms ++ (lp ++ lq) else (lp ++ lq)

  either_accepts : (k : ℕ) (a : A) (rest : List Spelled) → good a → starts last rest ≡ false
      → Accepted a k (s a) rest (either ms p q k (bare (s a) ++ rest))
  either_accepts k a rest fits e =
      let ts : List Spelled = bare (s a) ++ rest in
      let stops = stops_last n ms (lp ++ lq) rest e in
      let both = stops_both lp lq rest stops.1 in
      elim (which a fits) [
        | inl fits_first ↦ subst (λ o. Accepted a k (s a) rest o)
            (sym (if_true (starts ms ts) (p k ts) (q k ts) (starts_within fp ms taken_in (bare (s a)) rest (P.leads a fits_first))))
            (P.accepts k a rest fits_first both.0)
        | inr fits_second ↦ subst (λ o. Accepted a k (s a) rest o)
            (sym (if_false (starts ms ts) (p k ts) (q k ts) (stops_before ms fq side n (bare (s a)) rest (Q.leads a fits_second) stops.0)))
            (Q.accepts k a rest fits_second both.1)
      ]

  either_leads : (a : A) → good a → Leads n (fp ++ fq) (bare (s a))
  either_leads a fits = elim (which a fits) [
    | inl fits_first ↦ leads_left n fp fq (bare (s a)) (P.leads a fits_first)
    | inr fits_second ↦ leads_right n fp fq (bare (s a)) (Q.leads a fits_second)
  ]

  cut_either : (k : ℕ) (ts : List Spelled) (c : Cause) (rest : List Spelled) (f : A → Type 0) → ((a : A) → f a → good a)
      → Broken f s k c ts rest → Broken good s k c ts rest
  cut_either k ts c rest f to_good broken = record {
    before = broken.before;
    tree = broken.tree;
    reached = broken.reached;
    more = broken.more;
    fits = to_good broken.tree broken.fits;
    clear = broken.clear;
    reach = broken.reach;
    splits = broken.splits;
    goes_on = broken.goes_on;
  }

  either_breaks : (r : Bool) (k : ℕ) (ts : List Spelled) (c : Cause) (rest : List Spelled) → (if r then p k ts else q k ts) ≡ Fails c rest
      → Broken good s k c ts rest
  either_breaks true k ts c rest e = cut_either k ts c rest g first (P.breaks k ts c rest e)
  either_breaks false k ts c rest e = cut_either k ts c rest h second (Q.breaks k ts c rest e)

  either_local : (b : Bool) (k : ℕ) (u : List Spelled) (x : Spelled) (r z : List Spelled)
      → Leaves (if b then p k (u ++ (x ∷ r)) else q k (u ++ (x ∷ r))) (x ∷ r)
      → (if b then p k (u ++ (x ∷ z)) else q k (u ++ (x ∷ z))) ≡ put (x ∷ z) (if b then p k (u ++ (x ∷ r)) else q k (u ++ (x ∷ r)))
  either_local true k u x r z e = P.local k u x r z e
  either_local false k u x r z e = Q.local k u x r z e

  pub law_either : Law (either ms p q) good s (fp ++ fq) last n
  law_either = record {
    example = P.example;
    sample = first P.example P.sample;
    leads = either_leads;
    sound = λ k ts a j rest e. either_sound (starts ms ts) k ts a j rest e;
    accepts = either_accepts;
    breaks = λ k ts c rest e. either_breaks (starts ms ts) k ts c rest e;
    local = λ k u x r z e.
        ap (λ b. if b then p k (u ++ (x ∷ z)) else q k (u ++ (x ∷ z))) (same_start ms u x r z)
        ∙ either_local (starts ms (u ++ (x ∷ r))) k u x r z e;
  }

-- ---- told apart

abbrev pub Either : {A B : Type 0} → (A → Type 0) → (B → Type 0) → A ⊎ B → Type 0
Either g h (inl a) = g a
Either g h (inr b) = h b

abbrev pub cases : {A B C : Type 0} → (A → C) → (B → C) → A ⊎ B → C
cases s t (inl a) = s a
cases s t (inr b) = t b

-- The spelling of the one that stands there.
abbrev pub of_either : {A B : Type 0} → (A → List WeighedToken) → (B → List WeighedToken) → A ⊎ B → List WeighedToken
of_either s t (inl a) = s a
of_either s t (inr b) = t b

abbrev Never : {A : Type 0} → A → Type 0
Never a = ⊥

module _ {A B : Type 0} {p : Reader A} {q : Reader B} {g : A → Type 0} {h : B → Type 0} {s : A → List WeighedToken} {t : B → List WeighedToken}
    {fp lp fq lq : List ℕ} {n : Bool} (ms : List ℕ) (P : Law p g s fp lp false) (Q : Law q h t fq lq n) where
  onto_left : (x : A ⊎ B) → Either g Never x → (a : A) × (g a × (inl a ≡ x))
  onto_left (inl a) good = (a, (good, refl))
  onto_left (inr b) good = absurd good

  onto_right : (x : A ⊎ B) → Either Never h x → (b : B) × (h b × (inr b ≡ x))
  onto_right (inl a) good = absurd good
  onto_right (inr b) good = (b, (good, refl))

  is_left : (x : A ⊎ B) → Either g Never x → Either g h x
  is_left (inl a) good = good
  is_left (inr b) good = absurd good

  is_right : (x : A ⊎ B) → Either Never h x → Either g h x
  is_right (inl a) good = absurd good
  is_right (inr b) good = good

  which_one : (x : A ⊎ B) → Either g h x → Either g Never x ⊎ Either Never h x
  which_one (inl a) good = inl good
  which_one (inr b) good = inr good

  law_left : Law (to inl p) (Either g Never) (of_either s t) fp lp false
  law_left = law_to inl (Either g Never) (of_either s t) P (λ a good. good) (λ a good. refl) onto_left

  law_right : Law (to inr q) (Either Never h) (of_either s t) fq lq n
  law_right = law_to inr (Either Never h) (of_either s t) Q (λ b good. good) (λ b good. refl) onto_right

  pub law_choose : within fp ms ≡ true → apart ms fq ≡ true
      → Law (choose ms p q) (Either g h) (of_either s t) (fp ++ fq) (if n then ms ++ (lp ++ lq) else (lp ++ lq)) n
  law_choose taken_in side = law_either ms (Either g h) law_left law_right is_left is_right which_one taken_in side

-- ---- left out or not

abbrev pub Maybe : {A : Type 0} → (A → Type 0) → Option A → Type 0
Maybe g (Some a) = g a
Maybe g None = Unit {0}

abbrev pub maybe_spelled : {A : Type 0} → (A → List WeighedToken) → Option A → List WeighedToken
maybe_spelled s (Some a) = s a
maybe_spelled s None = []

abbrev There : {A : Type 0} → (A → Type 0) → Option A → Type 0
There g (Some a) = g a
There g None = ⊥

abbrev Absent : {A : Type 0} → Option A → Type 0
Absent (Some a) = ⊥
Absent None = Unit {0}

module _ {A : Type 0} {p : Reader A} {g : A → Type 0} {s : A → List WeighedToken} {fp lp : List ℕ}
    (ms : List ℕ) (P : Law p g s fp lp false) where
  onto_some : (x : Option A) → There g x → (a : A) × (g a × (Some a ≡ x))
  onto_some (Some a) good = (a, (good, refl))
  onto_some None good = absurd good

  onto_none : (x : Option A) → Absent x → (u : Unit {0}) × (Any u × (None ≡ x))
  onto_none (Some a) good = absurd good
  onto_none None good = (tt, (tt, refl))

  is_there : (x : Option A) → There g x → Maybe g x
  is_there (Some a) good = good
  is_there None good = absurd good

  is_absent : (x : Option A) → Absent x → Maybe g x
  is_absent (Some a) good = absurd good
  is_absent None good = tt

  there_or_not : (x : Option A) → Maybe g x → There g x ⊎ Absent x
  there_or_not (Some a) good = inl good
  there_or_not None good = inr tt

  pub law_optional : within fp ms ≡ true → Law (optional ms p) (Maybe g) (maybe_spelled s) (fp ++ []) (ms ++ (lp ++ [])) true
  law_optional taken_in = law_either ms (Maybe g)
      (law_to Some (There g) (maybe_spelled s) P (λ a good. good) (λ a good. refl) onto_some)
      (law_to (λ u. None) Absent (maybe_spelled s) law_nothing (λ u good. tt) (λ u good. refl) onto_none)
      is_there is_absent there_or_not taken_in (apart_none ms)
    where
      apart_none : (ns : List ℕ) → apart ns [] ≡ true
      apart_none [] = refl
      apart_none (m ∷ ns) = apart_none ns
