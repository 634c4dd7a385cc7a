-- The law of one reader and then another.
use Rattle.std.proofs.Common.{◌≡◌, refl, sym, ap, ◌∙◌, subst, ℕ, Bool, true, false, List, ◌∷◌, ◌++◌, inl, inr}
use Rattle.std.specs.Prelude.{◌&&◌, if◌then◌else◌}
use Rattle.std.proofs.lemmas.List.{append_assoc}
use Rattle.token_reading.specs.Spelled.{Spelled}
use Rattle.token_reading.specs.Weights.{WeighedToken, bare, after}
use Rattle.token_reading.specs.Reading.{Cause, Outcome, Got, Fails, Reader, starts, and_then, seq_on, seq}
use Rattle.token_reading.proofs.Sets.{apart, Leads, stops_last, stops_before, leads_first}
use Rattle.token_reading.proofs.Lists.{bare-append, bare_both, after-append, within_limits-append}
use Rattle.token_reading.proofs.Law.{Read, Accepted, Reached, Broken, Law, Leaves, put, left_same, and_then_got, and_then_fails, got_fails, read_same, accepted_then, accepted_made, left_made, put_made, prefix, goes_past}

abbrev pub BothOn : {A B : Type 0} → (A → Type 0) → (A → B → Type 0) → A × B → Type 0
BothOn g h x = g x.0 × h x.0 x.1

abbrev pub joined_on : {A B : Type 0} → (A → List WeighedToken) → (A → B → List WeighedToken) → A × B → List WeighedToken
joined_on s t x = s x.0 ++ t x.0 x.1

-- ---- what is read, or cut short, in one of two parts

module _ {A B : Type 0} (g : A → Type 0) (h : A → B → Type 0) (s : A → List WeighedToken) (t : A → B → List WeighedToken) where
  pub on_whole : (k : ℕ) (ts : List Spelled) (a : A) (j : ℕ) (mid : List Spelled) (b : B) (i : ℕ) (rest : List Spelled)
      → Read g s k ts a j mid → Read (h a) (t a) j mid b i rest → Read (BothOn g h) (joined_on s t) k ts (a, b) i rest
  on_whole k ts a j mid b i rest front behind_front =
      let back = subst (λ l. Read (h a) (t a) l mid b i rest) front.count behind_front in
      record {
        fits = (front.fits, back.fits);
        within_limits = within_limits-append k (s a) (t a b) front.within_limits back.within_limits;
        count = back.count ∙ sym (after-append k (s a) (t a b));
        whole = front.whole ∙ ap (λ r. bare (s a) ++ r) back.whole ∙ sym (bare_both (s a) (t a b) rest);
      }

  -- after a first part that is cut short, any second part will do
  pub in_first : (k : ℕ) (ts : List Spelled) (c : Cause) (rest : List Spelled) → ((a : A) → g a → (b : B) × h a b) → Broken g s k c ts rest
      → Broken (BothOn g h) (joined_on s t) k c ts rest
  in_first k ts c rest example broken =
      let other = example broken.tree broken.fits in
      let second : List WeighedToken = t broken.tree other.0 in
      record {
        before = broken.before;
        tree = (broken.tree, other.0);
        reached = broken.reached;
        more = broken.more ++ second;
        fits = (broken.fits, other.1);
        clear = broken.clear;
        reach = broken.reach;
        splits = broken.splits;
        goes_on = ap (λ ms. ms ++ second) broken.goes_on ∙ append_assoc broken.before (broken.reached ++ broken.more) second
            ∙ ap (λ ms. broken.before ++ ms) (append_assoc broken.reached broken.more second);
      }

  pub in_second : (k : ℕ) (ts : List Spelled) (a : A) (j : ℕ) (mid : List Spelled) (c : Cause) (rest : List Spelled)
      → Read g s k ts a j mid → Broken (h a) (t a) j c mid rest → Broken (BothOn g h) (joined_on s t) k c ts rest
  in_second k ts a j mid c rest front cut =
      let broken = subst (λ l. Broken (h a) (t a) l c mid rest) front.count cut in
      record {
        before = s a ++ broken.before;
        tree = (a, broken.tree);
        reached = broken.reached;
        more = broken.more;
        fits = (front.fits, broken.fits);
        clear = within_limits-append k (s a) broken.before front.within_limits broken.clear;
        reach = subst (λ l. Reached c l broken.reached rest) (sym (after-append k (s a) broken.before)) broken.reach;
        splits = front.whole ∙ ap (λ r. bare (s a) ++ r) broken.splits ∙ sym (bare_both (s a) broken.before rest);
        goes_on = ap (λ ms. s a ++ ms) broken.goes_on ∙ sym (append_assoc (s a) broken.before (broken.reached ++ broken.more));
      }

abbrev pub pair_up : {A B : Type 0} → A → B → Reader (A × B)
pair_up a b i rest = Got (a, b) i rest

module _ {A B : Type 0} {p : Reader A} {q : A → Reader B} {g : A → Type 0} {h : A → B → Type 0} {s : A → List WeighedToken}
    {t : A → B → List WeighedToken} {fp lp fq lq : List ℕ} {m n : Bool}
    (P : Law p g s fp lp m) (Q : (a : A) → g a → Law (q a) (h a) (t a) fq lq n) (side : apart lp fq ≡ true) where
  abbrev behind : A → Reader (A × B)
  behind a j more = and_then (q a j more) (pair_up a)

  on_leads : (x : A × B) → BothOn g h x → Leads (m && n) (if m then fp ++ fq else fp) (bare (joined_on s t x))
  on_leads x good =
      subst (λ us. Leads (m && n) (if m then fp ++ fq else fp) us) (sym (bare-append (s x.0) (t x.0 x.1)))
      (leads_first m n fp fq (bare (s x.0)) (bare (t x.0 x.1)) (P.leads x.0 good.0) ((Q x.0 good.0).leads x.1 good.1))

  on_sound : (k : ℕ) (ts : List Spelled) (x : A × B) (i : ℕ) (rest : List Spelled) → seq_on p q k ts ≡ Got x i rest
      → Read (BothOn g h) (joined_on s t) k ts x i rest
  on_sound k ts x i rest e =
      let one = and_then_got (p k ts) behind x i rest e in
      let two = and_then_got (q one.0 one.1.0 one.1.1.0) (pair_up one.0) x i rest one.1.1.1.1 in
      let front = P.sound k ts one.0 one.1.0 one.1.1.0 one.1.1.1.0 in
      let back = (Q one.0 front.fits).sound one.1.0 one.1.1.0 two.0 two.1.0 two.1.1.0 two.1.1.1.0 in
      read_same {A = A × B} k ts (one.0, two.0) x two.1.0 i two.1.1.0 rest two.1.1.1.1
      (on_whole g h s t k ts one.0 one.1.0 one.1.1.0 two.0 two.1.0 two.1.1.0 front back)

  on_accepts : (k : ℕ) (x : A × B) (rest : List Spelled) → BothOn g h x → starts (if n then lp ++ lq else lq) rest ≡ false
      → Accepted x k (joined_on s t x) rest (seq_on p q k (bare (joined_on s t x) ++ rest))
  on_accepts k x rest good e =
      let first : List WeighedToken = s x.0 in
      let second : List WeighedToken = t x.0 x.1 in
      let j : ℕ = after k first in
      let last = stops_last n lp lq rest e in
      let law = Q x.0 good.0 in
      let between = stops_before lp fq side n (bare second) rest (law.leads x.1 good.1) last.0 in
      let one = P.accepts k x.0 (bare second ++ rest) good.0 between in
      let two = law.accepts j x.1 rest good.1 last.1 in
      let pair = accepted_made (λ (b : B). (x.0, b)) x.1 x j second rest (q x.0 j (bare second ++ rest)) refl two in
      subst (λ ts. Accepted x k (first ++ second) rest (seq_on p q k ts)) (sym (bare_both first second rest))
      (accepted_then x.0 k first second x rest behind (p k (bare first ++ (bare second ++ rest))) one (λ within_limits. pair))

  on_breaks : (k : ℕ) (ts : List Spelled) (c : Cause) (rest : List Spelled) → seq_on p q k ts ≡ Fails c rest → Broken (BothOn g h) (joined_on s t) k c ts rest
  on_breaks k ts c rest e = elim (and_then_fails (p k ts) behind c rest e) [
    | inl first ↦ in_first g h s t k ts c rest (λ a good. ((Q a good).example, (Q a good).sample)) (P.breaks k ts c rest first)
    | inr one ↦
        let front = P.sound k ts one.0 one.1.0 one.1.1.0 one.1.1.1.0 in
        elim (and_then_fails (q one.0 one.1.0 one.1.1.0) (pair_up one.0) c rest one.1.1.1.1) [
          | inl second ↦ in_second g h s t k ts one.0 one.1.0 one.1.1.0 c rest front ((Q one.0 front.fits).breaks one.1.0 one.1.1.0 c rest second)
          | inr two ↦ absurd (got_fails {A = A × B} (one.0, two.0) two.1.0 c two.1.1.0 rest two.1.1.1.1)
        ]
  ]

  on_local : (k : ℕ) (u : List Spelled) (x : Spelled) (r z : List Spelled) → Leaves (seq_on p q k (u ++ (x ∷ r))) (x ∷ r)
      → seq_on p q k (u ++ (x ∷ z)) ≡ put (x ∷ z) (seq_on p q k (u ++ (x ∷ r)))
  on_local k u x r z e = of_first (p k (u ++ (x ∷ r))) refl e
    where
      of_first : (o : Outcome A) → p k (u ++ (x ∷ r)) ≡ o → Leaves (and_then o behind) (x ∷ r)
          → seq_on p q k (u ++ (x ∷ z)) ≡ put (x ∷ z) (and_then o behind)
      of_first (Fails c rest) is at =
          ap (λ o. and_then o behind) (P.local k u x r z (left_same (p k (u ++ (x ∷ r))) (Fails c rest) (x ∷ r) is at) ∙ ap (put (x ∷ z)) is)
      of_first (Got a j mid) is at =
          let front = P.sound k (u ++ (x ∷ r)) a j mid is in
          let second = Q a front.fits in
          let leaves = left_made (λ (b : B). (a, b)) (q a j mid) (x ∷ r) at in
          let cut = prefix second j mid in
          let split : mid ≡ cut.0 ++ (x ∷ r) = cut.1 ∙ ap (λ ts. cut.0 ++ ts) leaves in
          let past = goes_past P k u x r z a j mid cut.0 is split in
          let there = subst (λ ts. Leaves (q a j ts) (x ∷ r)) split leaves in
          let more = second.local j cut.0 x r z there in
          ap (λ o. and_then o behind) past ∙ ap (λ o. and_then o (pair_up a)) (more ∙ ap (λ ts. put (x ∷ z) (q a j ts)) (sym split))
          ∙ put_made (λ (b : B). (a, b)) (x ∷ z) (q a j mid)

  pub law_seq_on : Law (seq_on p q) (BothOn g h) (joined_on s t) (if m then fp ++ fq else fp) (if n then lp ++ lq else lq) (m && n)
  law_seq_on = record {
    example = (P.example, (Q P.example P.sample).example);
    sample = (P.sample, (Q P.example P.sample).sample);
    leads = on_leads;
    sound = on_sound;
    accepts = on_accepts;
    breaks = on_breaks;
    local = on_local;
  }

-- ---- where the second part does not hang on the first

abbrev pub Both : {A B : Type 0} → (A → Type 0) → (B → Type 0) → A × B → Type 0
Both g h = BothOn g (λ a. h)

abbrev pub joined : {A B : Type 0} → (A → List WeighedToken) → (B → List WeighedToken) → A × B → List WeighedToken
joined s t x = s x.0 ++ t x.1

pub law_seq : {A B : Type 0} {p : Reader A} {q : Reader B} {g : A → Type 0} {h : B → Type 0} {s : A → List WeighedToken} {t : B → List WeighedToken}
    {fp lp fq lq : List ℕ} {m n : Bool} → Law p g s fp lp m → Law q h t fq lq n → apart lp fq ≡ true
    → Law (seq p q) (Both g h) (joined s t) (if m then fp ++ fq else fp) (if n then lp ++ lq else lq) (m && n)
law_seq P Q side = law_seq_on P (λ a good. Q) side
