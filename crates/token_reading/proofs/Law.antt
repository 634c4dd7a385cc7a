-- What a reader owes, whatever it is made of.
use Rattle.std.proofs.Common.{◌≡◌, refl, sym, ap, ◌∙◌, subst, ℕ, Bool, true, false, List, [], ◌∷◌, ◌++◌, ◌⊎◌, inl, inr}
use Rattle.std.proofs.lemmas.List.{append_assoc, append_cancel_right}
use Rattle.token_reading.specs.Spelled.{Spelled}
use Rattle.token_reading.specs.Weights.{WeighedToken, bare, after, WithinLimits}
use Rattle.token_reading.specs.Reading.{Cause, Refused, OverLimit, Outcome, Got, Fails, Reader, starts, and_then}
use Rattle.token_reading.proofs.Sets.{Leads}
use Rattle.token_reading.proofs.Lists.{bare_both, after-append, within_limits-append}

-- A tree is good, none of its tokens exceeds the limit, and the list begins with its spelling.
pub record Read {A : Type 0} (good : A → Type 0) (s : A → List WeighedToken) (k : ℕ) (ts : List Spelled) (a : A) (j : ℕ) (rest : List Spelled) : Type 0 where
  pub fits : good a
  pub within_limits : WithinLimits k (s a)
  pub count : j ≡ after k (s a)
  pub whole : ts ≡ bare (s a) ++ rest

-- The first of the weighed tokens that exceeds the limit, and what is left from it on.
pub record FirstExceeds (k : ℕ) (ms : List WeighedToken) (rest more : List Spelled) : Type 0 where
  pub front : List WeighedToken
  pub weighed : WeighedToken
  pub behind : List WeighedToken
  pub splits : ms ≡ front ++ (weighed ∷ behind)
  pub clear : WithinLimits k front
  pub exceeds_limit : weighed.weight.exceeds (after k front) ≡ true
  pub at : more ≡ weighed.token ∷ (bare behind ++ rest)

-- A list that begins with the spelling of a tree gives that tree, or the first of its tokens that
-- exceeds the limit. So trees with such tokens are trees too, and no source begins as a refused
-- list does, not even one over the limits.
abbrev pub Accepted : {A : Type 0} → A → ℕ → List WeighedToken → List Spelled → Outcome A → Type 0
Accepted a k ms rest (Got b i more) = (b ≡ a) × (i ≡ after k ms) × (more ≡ rest) × WithinLimits k ms
Accepted a k ms rest (Fails OverLimit more) = FirstExceeds k ms rest more
Accepted a k ms rest (Fails Refused more) = ⊥

-- The first of the tokens left exceeds the limit, where so many operators stand before it.
pub record OneOverLimit (k : ℕ) (reached : List WeighedToken) (rest : List Spelled) : Type 0 where
  pub weighed : WeighedToken
  pub exceeds_limit : weighed.weight.exceeds k ≡ true
  pub alone : reached ≡ weighed ∷ []
  pub behind : List Spelled
  pub at : rest ≡ weighed.token ∷ behind

-- What is reached of the tokens left: none where the first one can't stand there.
abbrev pub Reached : Cause → ℕ → List WeighedToken → List Spelled → Type 0
Reached Refused k reached rest = reached ≡ []
Reached OverLimit k reached rest = OneOverLimit k reached rest

-- The tokens before the faulty one, and through it where it exceeds the limit, begin the spelling
-- of a good tree, and none before it exceeds the limit.
pub record Broken {A : Type 0} (good : A → Type 0) (s : A → List WeighedToken) (k : ℕ) (c : Cause) (ts rest : List Spelled) : Type 0 where
  pub before : List WeighedToken
  pub tree : A
  pub reached : List WeighedToken
  pub more : List WeighedToken
  pub fits : good tree
  pub clear : WithinLimits k before
  pub reach : Reached c (after k before) reached rest
  pub splits : ts ≡ bare before ++ rest
  pub goes_on : s tree ≡ before ++ (reached ++ more)

-- A failure of a reader of such trees.
abbrev pub failed : (A : Type 0) → Cause → List Spelled → Outcome A
failed A c rest = Fails c rest

-- The tokens that an outcome leaves, and the outcome that leaves others.
abbrev pub rest_of : {A : Type 0} → Outcome A → List Spelled
rest_of (Got a k rest) = rest
rest_of (Fails c rest) = rest

abbrev pub Leaves : {A : Type 0} → Outcome A → List Spelled → Type 0
Leaves o ts = rest_of o ≡ ts

abbrev pub put : {A : Type 0} → List Spelled → Outcome A → Outcome A
put new (Got a k rest) = Got a k new
put new (Fails c rest) = Fails c new

-- `good` trees are read, and `s` is their spelling. It begins with a kind of `first`, and is empty
-- only if `may`. The token after a spelling is one that the reader would not take, of no kind of
-- `last`.
pub record Law {A : Type 0} (p : Reader A) (good : A → Type 0) (s : A → List WeighedToken) (first last : List ℕ) (may : Bool) : Type 0 where
  pub example : A
  pub sample : good example
  pub leads : (a : A) → good a → Leads may first (bare (s a))
  pub sound : (k : ℕ) (ts : List Spelled) (a : A) (j : ℕ) (rest : List Spelled) → p k ts ≡ Got a j rest → Read good s k ts a j rest
  pub accepts : (k : ℕ) (a : A) (rest : List Spelled) → good a → starts last rest ≡ false
      → Accepted a k (s a) rest (p k (bare (s a) ++ rest))
  pub breaks : (k : ℕ) (ts : List Spelled) (c : Cause) (rest : List Spelled) → p k ts ≡ Fails c rest → Broken good s k c ts rest
  -- the outcome hangs on the tokens through the first one left
  pub local : (k : ℕ) (u : List Spelled) (x : Spelled) (r q : List Spelled) → Leaves (p k (u ++ (x ∷ r))) (x ∷ r)
      → p k (u ++ (x ∷ q)) ≡ put (x ∷ q) (p k (u ++ (x ∷ r)))

-- ---- outcomes taken apart

pub and_then_got : {A B : Type 0} (o : Outcome A) (q : A → Reader B) (b : B) (i : ℕ) (rest : List Spelled) → and_then o q ≡ Got b i rest
    → (a : A) × ((j : ℕ) × ((more : List Spelled) × ((o ≡ Got a j more) × (q a j more ≡ Got b i rest))))
and_then_got (Got a j more) q b i rest e = (a, (j, (more, (refl, e))))
and_then_got (Fails c more) q b i rest e = absurd (cc)

pub got_same : {A : Type 0} (a b : A) (j i : ℕ) (rest more : List Spelled) → Got a j rest ≡ Got b i more → (a ≡ b) × (j ≡ i) × (rest ≡ more)
got_same a b j i rest more e = (cc, cc, cc)

pub got_fails : {A : Type 0} (a : A) (j : ℕ) (c : Cause) (rest more : List Spelled) → Got a j rest ≡ Fails c more → ⊥
got_fails a j c rest more e = cc

pub and_then_fails : {A B : Type 0} (o : Outcome A) (q : A → Reader B) (c : Cause) (rest : List Spelled) → and_then o q ≡ Fails c rest
    → (o ≡ Fails c rest) ⊎ ((a : A) × ((j : ℕ) × ((more : List Spelled) × ((o ≡ Got a j more) × (q a j more ≡ Fails c rest)))))
and_then_fails (Got a j more) q c rest e = inr (a, (j, (more, (refl, e))))
and_then_fails (Fails d more) q c rest e = inl (cc)

pub read_same : {A : Type 0} {good : A → Type 0} {s : A → List WeighedToken} (k : ℕ) (ts : List Spelled) (a b : A) (j i : ℕ) (rest more : List Spelled)
    → Got a j rest ≡ Got b i more → Read good s k ts a j rest → Read good s k ts b i more
read_same {good = good} {s = s} k ts a b j i rest more e read =
    let same = got_same a b j i rest more e in
    subst (λ c. Read good s k ts c i more) same.0
    (subst (λ l. Read good s k ts a l more) same.1 (subst (λ r. Read good s k ts a j r) same.2 read))

-- The first token that exceeds the limit is the same where more tokens follow.
exceeds_before : (k : ℕ) (ms ns : List WeighedToken) (rest more : List Spelled) → FirstExceeds k ms (bare ns ++ rest) more
    → FirstExceeds k (ms ++ ns) rest more
exceeds_before k ms ns rest more e = record {
  front = e.front;
  weighed = e.weighed;
  behind = e.behind ++ ns;
  splits = ap (λ us. us ++ ns) e.splits ∙ append_assoc e.front (e.weighed ∷ e.behind) ns;
  clear = e.clear;
  exceeds_limit = e.exceeds_limit;
  at = e.at ∙ ap (λ us. e.weighed.token ∷ us) (sym (bare_both e.behind ns rest));
}

-- Where none exceeds it before them, it is the first of these.
exceeds_behind : (k : ℕ) (ms ns : List WeighedToken) (rest more : List Spelled) → WithinLimits k ms → FirstExceeds (after k ms) ns rest more
    → FirstExceeds k (ms ++ ns) rest more
exceeds_behind k ms ns rest more within_limits e = record {
  front = ms ++ e.front;
  weighed = e.weighed;
  behind = e.behind;
  splits = ap (λ us. ms ++ us) e.splits ∙ sym (append_assoc ms e.front (e.weighed ∷ e.behind));
  clear = within_limits-append k ms e.front within_limits e.clear;
  exceeds_limit = ap (λ l. e.weighed.weight.exceeds l) (after-append k ms e.front) ∙ e.exceeds_limit;
  at = e.at;
}

accepted_behind : {B : Type 0} (b : B) (k : ℕ) (ms ns : List WeighedToken) (rest : List Spelled) (o : Outcome B) → WithinLimits k ms
    → Accepted b (after k ms) ns rest o → Accepted b k (ms ++ ns) rest o
accepted_behind b k ms ns rest (Got c i more) within_limits two =
    (two.0, two.1 ∙ sym (after-append k ms ns), two.2, within_limits-append k ms ns within_limits two.3)
accepted_behind b k ms ns rest (Fails OverLimit more) within_limits two = exceeds_behind k ms ns rest more within_limits two
accepted_behind b k ms ns rest (Fails Refused more) within_limits two = absurd two

-- What is accepted is handed to the next reader.
pub accepted_then : {A B : Type 0} (a : A) (k : ℕ) (ms ns : List WeighedToken) (b : B) (rest : List Spelled) (q : A → Reader B) (o : Outcome A)
    → Accepted a k ms (bare ns ++ rest) o
    → (WithinLimits k ms → Accepted b (after k ms) ns rest (q a (after k ms) (bare ns ++ rest))) → Accepted b k (ms ++ ns) rest (and_then o q)
accepted_then a k ms ns b rest q (Got c l ts) one two =
    let first : a ≡ c = sym one.0 in
    let second : after k ms ≡ l = sym one.1 in
    let third : bare ns ++ rest ≡ ts = sym one.2 in
    let same : Got a (after k ms) (bare ns ++ rest) ≡ Got c l ts = cc in
    subst (λ o. Accepted b k (ms ++ ns) rest (and_then o q)) same
    (accepted_behind b k ms ns rest (q a (after k ms) (bare ns ++ rest)) one.3 (two one.3))
accepted_then a k ms ns b rest q (Fails OverLimit ts) one two = exceeds_before k ms ns rest ts one
accepted_then a k ms ns b rest q (Fails Refused ts) one two = absurd one

-- What is accepted is made into a tree.
pub accepted_made : {A B : Type 0} (f : A → B) (a : A) (b : B) (k : ℕ) (ms : List WeighedToken) (rest : List Spelled) (o : Outcome A) → f a ≡ b
    → Accepted a k ms rest o → Accepted b k ms rest (and_then o (λ c j more. Got (f c) j more))
accepted_made f a b k ms rest (Got c l ts) makes one = (ap f one.0 ∙ makes, one.1, one.2, one.3)
accepted_made f a b k ms rest (Fails OverLimit ts) makes one = one
accepted_made f a b k ms rest (Fails Refused ts) makes one = absurd one

pub left_same : {A : Type 0} (o u : Outcome A) (ts : List Spelled) → o ≡ u → Leaves u ts → Leaves o ts
left_same o u ts e l = subst (λ v. Leaves v ts) (sym e) l

pub left_made : {A B : Type 0} (f : A → B) (o : Outcome A) (ts : List Spelled)
    → Leaves (and_then o (λ a j rest. Got (f a) j rest)) ts → Leaves o ts
left_made f (Got a j rest) ts l = l
left_made f (Fails d rest) ts l = l

-- Making a tree of what is read leaves the tokens as they are.
pub put_made : {A B : Type 0} (f : A → B) (new : List Spelled) (o : Outcome A)
    → and_then (put new o) (λ a j rest. Got (f a) j rest) ≡ put new (and_then o (λ a j rest. Got (f a) j rest))
put_made f new (Got a j rest) = refl
put_made f new (Fails d rest) = refl

-- A token that can't stand at the front of the list.
pub refused_here : {A : Type 0} {good : A → Type 0} {s : A → List WeighedToken} (a : A) → good a → (k : ℕ) (ts : List Spelled) (c : Cause) (rest : List Spelled)
    → failed A Refused ts ≡ Fails c rest → Broken good s k c ts rest
refused_here {s = s} a g k ts Refused rest e =
    record { before = []; tree = a; reached = []; more = s a; fits = g; clear = tt; reach = refl; splits = cc; goes_on = refl }
refused_here a g k ts OverLimit rest e = absurd (cc)

-- ---- what follows from a law

module _ {A : Type 0} {p : Reader A} {good : A → Type 0} {s : A → List WeighedToken} {first last : List ℕ} {may : Bool}
    (P : Law p good s first last may) where
  -- The tokens that are left end the list.
  pub prefix : (k : ℕ) (ts : List Spelled) → (u : List Spelled) × (ts ≡ u ++ rest_of (p k ts))
  prefix k ts = of_outcome (p k ts) refl
    where
      of_outcome : (o : Outcome A) → p k ts ≡ o → (u : List Spelled) × (ts ≡ u ++ rest_of o)
      of_outcome (Got a j rest) e = (bare (s a), (P.sound k ts a j rest e).whole)
      of_outcome (Fails c rest) e = let broken = P.breaks k ts c rest e in (bare broken.before, broken.splits)

  -- What is read is read too where later tokens are others.
  pub steady : (k : ℕ) (u v : List Spelled) (x : Spelled) (r q : List Spelled) (a : A) (j : ℕ) → p k (u ++ (v ++ (x ∷ r))) ≡ Got a j (v ++ (x ∷ r))
      → p k (u ++ (v ++ (x ∷ q))) ≡ Got a j (v ++ (x ∷ q))
  steady k u [] x r q a j e = P.local k u x r q (left_same (p k (u ++ (x ∷ r))) (Got a j (x ∷ r)) (x ∷ r) e refl) ∙ ap (put (x ∷ q)) e
  steady k u (y ∷ v) x r q a j e = P.local k u y (v ++ (x ∷ r)) (v ++ (x ∷ q)) (left_same (p k (u ++ (y ∷ (v ++ (x ∷ r))))) (Got a j (y ∷ (v ++ (x ∷ r)))) (y ∷ (v ++ (x ∷ r))) e refl) ∙ ap (put (y ∷ (v ++ (x ∷ q)))) e

  -- The same where what is left reaches to the position from which the tokens are others.
  pub goes_past : (k : ℕ) (u : List Spelled) (x : Spelled) (r q : List Spelled) (a : A) (j : ℕ) (mid v : List Spelled)
      → p k (u ++ (x ∷ r)) ≡ Got a j mid → mid ≡ v ++ (x ∷ r) → p k (u ++ (x ∷ q)) ≡ Got a j (v ++ (x ∷ q))
  goes_past k u x r q a j mid v e at =
      let read = P.sound k (u ++ (x ∷ r)) a j mid e in
      let w : List Spelled = bare (s a) in
      let whole : u ++ (x ∷ r) ≡ (w ++ v) ++ (x ∷ r) = read.whole ∙ ap (λ ts. w ++ ts) at ∙ sym (append_assoc w v (x ∷ r)) in
      let front : u ≡ w ++ v = append_cancel_right u (w ++ v) (x ∷ r) whole in
      let split : (y : List Spelled) → u ++ (x ∷ y) ≡ w ++ (v ++ (x ∷ y)) = λ y. ap (λ z. z ++ (x ∷ y)) front ∙ append_assoc w v (x ∷ y) in
      ap (λ ts. p k ts) (split q) ∙ steady k w v x r q a j (ap (λ ts. p k ts) (sym (split r)) ∙ e ∙ ap (λ ts. Got a j ts) at)
