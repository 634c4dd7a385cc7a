-- The laws of one after the other.
use Rattle.std.proofs.Common.{◌≡◌, refl, sym, ap, ◌∙◌, subst, ℕ, zero, suc, ◌+◌, ◌≤◌, ◌<◌, Bool, true, false, List, [], ◌∷◌, ◌++◌, inl, inr, length, arith}
use Rattle.std.specs.Prelude.{if◌then◌else◌}
use Rattle.std.specs.List.{flat_map}
use Rattle.std.proofs.lemmas.List.{append_assoc, append-nil, length-append}
use Rattle.token_reading.specs.Spelled.{Spelled}
use Rattle.token_reading.specs.Weights.{WeighedToken, bare, after, row_spelling}
use Rattle.token_reading.specs.Reading.{Cause, Outcome, Got, Fails, Reader, starts, and_then, many_up_to, many, in_front, some, Each}
use Rattle.token_reading.proofs.Sets.{apart, within, Leads, stops_both, stops_before, starts_within}
use Rattle.token_reading.proofs.Lists.{bare-append, bare_both, after-append, within_limits-append, row_spelling_flat, nothing_before, if_true, if_false}
use Rattle.token_reading.proofs.Made.{law_to, law_reworded}
use Rattle.token_reading.proofs.Seq.{Both, law_seq}
use Rattle.token_reading.proofs.Choice.{same_start}
use Rattle.token_reading.proofs.Law.{Read, Accepted, Reached, Broken, Law, Leaves, rest_of, put, left_same, and_then_got, and_then_fails, got_fails, read_same, accepted_then, accepted_made, left_made, put_made, goes_past}

abbrev pub add_front : {A : Type 0} → A → List A → Reader (List A)
add_front a xs i rest = Got (a ∷ xs) i rest

-- One iteration: what `p` reads, and then as many as there are iterations left.
abbrev pub turn : {A : Type 0} → Outcome A → Reader (List A) → Outcome (List A)
turn o q = and_then o (λ a j more. and_then (q j more) (add_front a))

module _ {A : Type 0} {p : Reader A} {g : A → Type 0} {s : A → List WeighedToken} {fp lp : List ℕ} (ms : List ℕ)
    (P : Law p g s fp lp false) (taken_in : within fp ms ≡ true) (side : apart lp fp ≡ true) where
  abbrev up : ℕ → Reader (List A)
  up n = many_up_to ms p n

  abbrev later : ℕ → A → Reader (List A)
  later n a j more = and_then (up n j more) (add_front a)

  -- each spelling has a token
  some_token : (us : List Spelled) → Leads false fp us → 0 < length us
  some_token [] l = absurd (cc)
  some_token (u ∷ us) l = omega arith

  pub shorter : (k : ℕ) (ts : List Spelled) (a : A) (j : ℕ) (rest : List Spelled) → p k ts ≡ Got a j rest → length rest < length ts
  shorter k ts a j rest e =
      let read = P.sound k ts a j rest e in
      let has : 0 < length (bare (s a)) = some_token (bare (s a)) (P.leads a read.fits) in
      let whole : length ts ≡ length (bare (s a)) + length rest = ap length read.whole ∙ length-append (bare (s a)) rest in
      omega arith

  many_whole : (k : ℕ) (ts : List Spelled) (a : A) (j : ℕ) (mid : List Spelled) (xs : List A) (i : ℕ) (rest : List Spelled)
      → Read g s k ts a j mid → Read (Each g) (row_spelling s) j mid xs i rest
      → Read (Each g) (row_spelling s) k ts (a ∷ xs) i rest
  many_whole k ts a j mid xs i rest front behind =
      let back = subst (λ l. Read (Each g) (row_spelling s) l mid xs i rest) front.count behind in
      record {
        fits = (front.fits, back.fits);
        within_limits = within_limits-append k (s a) (row_spelling s xs) front.within_limits back.within_limits;
        count = back.count ∙ sym (after-append k (s a) (row_spelling s xs));
        whole = front.whole ∙ ap (λ r. bare (s a) ++ r) back.whole ∙ sym (bare_both (s a) (row_spelling s xs) rest);
      }

  none_read : (k : ℕ) (ts : List Spelled) (xs : List A) (i : ℕ) (rest : List Spelled) → Got [] k ts ≡ Got xs i rest
      → Read (Each g) (row_spelling s) k ts xs i rest
  none_read k ts xs i rest e = read_same k ts [] xs k i ts rest e (record { fits = tt; within_limits = tt; count = refl; whole = refl })

  turn_sound : (n : ℕ)
      → ((k : ℕ) (ts : List Spelled) (xs : List A) (i : ℕ) (rest : List Spelled) → up n k ts ≡ Got xs i rest → Read (Each g) (row_spelling s) k ts xs i rest)
      → (r : Bool) (k : ℕ) (ts : List Spelled) (xs : List A) (i : ℕ) (rest : List Spelled) → (if r then turn (p k ts) (up n) else Got [] k ts) ≡ Got xs i rest
      → Read (Each g) (row_spelling s) k ts xs i rest
  turn_sound n ih true k ts xs i rest e =
      let one = and_then_got (p k ts) (later n) xs i rest e in
      let two = and_then_got (up n one.1.0 one.1.1.0) (add_front one.0) xs i rest one.1.1.1.1 in
      let front = P.sound k ts one.0 one.1.0 one.1.1.0 one.1.1.1.0 in
      let back = ih one.1.0 one.1.1.0 two.0 two.1.0 two.1.1.0 two.1.1.1.0 in
      read_same k ts (one.0 ∷ two.0) xs two.1.0 i two.1.1.0 rest two.1.1.1.1
      (many_whole k ts one.0 one.1.0 one.1.1.0 two.0 two.1.0 two.1.1.0 front back)
  turn_sound n ih false k ts xs i rest e = none_read k ts xs i rest e

  up_sound : (n k : ℕ) (ts : List Spelled) (xs : List A) (i : ℕ) (rest : List Spelled) → up n k ts ≡ Got xs i rest
      → Read (Each g) (row_spelling s) k ts xs i rest
  up_sound zero k ts xs i rest e = none_read k ts xs i rest e
  up_sound (suc n) k ts xs i rest e = turn_sound n (up_sound n) (starts ms ts) k ts xs i rest e

  leads_more : (us vs : List Spelled) → Leads false fp us → Leads true fp (us ++ vs)
  leads_more [] vs l = absurd (cc)
  leads_more (u ∷ us) vs l = l

  leads_many : (xs : List A) → Each g xs → Leads true fp (bare (row_spelling s xs))
  leads_many [] good = refl
  leads_many (x ∷ xs) good =
      subst (λ us. Leads true fp us) (sym (bare-append (s x) (row_spelling s xs)))
      (leads_more (bare (s x)) (bare (row_spelling s xs)) (P.leads x good.0))

  up_accepts : (n k : ℕ) (xs : List A) (rest : List Spelled) → Each g xs → starts (ms ++ lp) rest ≡ false
      → length (bare (row_spelling s xs) ++ rest) ≤ n → Accepted xs k (row_spelling s xs) rest (up n k (bare (row_spelling s xs) ++ rest))
  up_accepts zero k [] rest good e le = (refl, refl, refl, tt)
  up_accepts zero k (x ∷ xs) rest good e le =
      let has : 0 < length (bare (s x)) = some_token (bare (s x)) (P.leads x good.0) in
      let later : List Spelled = bare (row_spelling s xs) ++ rest in
      let whole : length (bare (s x ++ row_spelling s xs) ++ rest) ≡ length (bare (s x)) + length later =
      ap length (bare_both (s x) (row_spelling s xs) rest) ∙ length-append (bare (s x)) later in
      absurd (omega arith)
  up_accepts (suc n) k [] rest good e le =
      subst (λ o. Accepted [] k [] rest o) (sym (if_false (starts ms rest) (turn (p k rest) (up n)) (Got [] k rest) (stops_both ms lp rest e).0)) (refl, refl, refl, tt)
  up_accepts (suc n) k (x ∷ xs) rest good e le =
      let has : 0 < length (bare (s x)) = some_token (bare (s x)) (P.leads x good.0) in
      let front : List WeighedToken = s x in
      let back : List WeighedToken = row_spelling s xs in
      let more_of : List Spelled = bare back ++ rest in
      let ts : List Spelled = bare front ++ more_of in
      let same : bare (front ++ back) ++ rest ≡ ts = bare_both front back rest in
      let whole : length (bare (front ++ back) ++ rest) ≡ length (bare front) + length more_of =
      ap length same ∙ length-append (bare front) more_of in
      let fewer : length more_of ≤ n = omega arith in
      let between : starts lp more_of ≡ false =
      stops_before lp fp side true (bare back) rest (leads_many xs good.1) (λ _. (stops_both ms lp rest e).1) in
      let j : ℕ = after k front in
      let one = P.accepts k x more_of good.0 between in
      let more = up_accepts n j xs rest good.1 e fewer in
      let here : starts ms ts ≡ true = starts_within fp ms taken_in (bare front) more_of (P.leads x good.0) in
      let all : List A = x ∷ xs in
      let list = accepted_made (λ (ys : List A). x ∷ ys) xs all j back rest (up n j more_of) refl more in
      subst (λ us. Accepted all k (front ++ back) rest (up (suc n) k us)) (sym same)
      (subst (λ o. Accepted all k (front ++ back) rest o) (sym (if_true (starts ms ts) (turn (p k ts) (up n)) (Got [] k ts) here))
      (accepted_then x k front back all rest (later n) (p k ts) one (λ within_limits. list)))

  -- what is read in the first iteration is cut short, or in a later one
  cut_first : (k : ℕ) (ts : List Spelled) (c : Cause) (rest : List Spelled) → Broken g s k c ts rest → Broken (Each g) (row_spelling s) k c ts rest
  cut_first k ts c rest broken = record {
    before = broken.before;
    tree = broken.tree ∷ [];
    reached = broken.reached;
    more = broken.more;
    fits = (broken.fits, tt);
    clear = broken.clear;
    reach = broken.reach;
    splits = broken.splits;
    goes_on = append-nil (s broken.tree) ∙ broken.goes_on;
  }

  cut_later : (k : ℕ) (ts : List Spelled) (a : A) (j : ℕ) (mid : List Spelled) (c : Cause) (rest : List Spelled)
      → Read g s k ts a j mid → Broken (Each g) (row_spelling s) j c mid rest → Broken (Each g) (row_spelling s) k c ts rest
  cut_later k ts a j mid c rest front cut =
      let broken = subst (λ l. Broken (Each g) (row_spelling s) l c mid rest) front.count cut in
      record {
        before = s a ++ broken.before;
        tree = a ∷ broken.tree;
        reached = broken.reached;
        more = broken.more;
        fits = (front.fits, broken.fits);
        clear = within_limits-append k (s a) broken.before front.within_limits broken.clear;
        reach = subst (λ l. Reached c l broken.reached rest) (sym (after-append k (s a) broken.before)) broken.reach;
        splits = front.whole ∙ ap (λ r. bare (s a) ++ r) broken.splits ∙ sym (bare_both (s a) broken.before rest);
        goes_on = ap (λ ns. s a ++ ns) broken.goes_on ∙ sym (append_assoc (s a) broken.before (broken.reached ++ broken.more));
      }

  turn_breaks : (n : ℕ)
      → ((k : ℕ) (ts : List Spelled) (c : Cause) (rest : List Spelled) → up n k ts ≡ Fails c rest → Broken (Each g) (row_spelling s) k c ts rest)
      → (r : Bool) (k : ℕ) (ts : List Spelled) (c : Cause) (rest : List Spelled) → (if r then turn (p k ts) (up n) else Got [] k ts) ≡ Fails c rest
      → Broken (Each g) (row_spelling s) k c ts rest
  turn_breaks n ih true k ts c rest e = elim (and_then_fails (p k ts) (later n) c rest e) [
    | inl first ↦ cut_first k ts c rest (P.breaks k ts c rest first)
    | inr one ↦
        let front = P.sound k ts one.0 one.1.0 one.1.1.0 one.1.1.1.0 in
        elim (and_then_fails (up n one.1.0 one.1.1.0) (add_front one.0) c rest one.1.1.1.1) [
          | inl second ↦ cut_later k ts one.0 one.1.0 one.1.1.0 c rest front (ih one.1.0 one.1.1.0 c rest second)
          | inr two ↦ absurd (got_fails (one.0 ∷ two.0) two.1.0 c two.1.1.0 rest two.1.1.1.1)
        ]
  ]
  turn_breaks n ih false k ts c rest e = absurd (got_fails [] k c ts rest e)

  up_breaks : (n k : ℕ) (ts : List Spelled) (c : Cause) (rest : List Spelled) → up n k ts ≡ Fails c rest → Broken (Each g) (row_spelling s) k c ts rest
  up_breaks zero k ts c rest e = absurd (got_fails [] k c ts rest e)
  up_breaks (suc n) k ts c rest e = turn_breaks n (up_breaks n) (starts ms ts) k ts c rest e

  up_prefix : (n k : ℕ) (ts : List Spelled) → (u : List Spelled) × (ts ≡ u ++ rest_of (up n k ts))
  up_prefix n k ts = of_outcome (up n k ts) refl
    where
      of_outcome : (o : Outcome (List A)) → up n k ts ≡ o → (u : List Spelled) × (ts ≡ u ++ rest_of o)
      of_outcome (Got xs j rest) e = (bare (row_spelling s xs), (up_sound n k ts xs j rest e).whole)
      of_outcome (Fails c rest) e = let broken = up_breaks n k ts c rest e in (bare broken.before, broken.splits)

  some_length : (u : List Spelled) (x : Spelled) (r : List Spelled) → 0 < length (u ++ (x ∷ r))
  some_length [] x r = omega arith
  some_length (t ∷ u) x r = omega arith

  -- what is owed of the later iterations
  abbrev Local : ℕ → ℕ → Type 0
  Local n m = (k : ℕ) (u : List Spelled) (x : Spelled) (r z : List Spelled) → length (u ++ (x ∷ r)) ≤ n → length (u ++ (x ∷ z)) ≤ m
      → Leaves (up n k (u ++ (x ∷ r))) (x ∷ r) → up m k (u ++ (x ∷ z)) ≡ put (x ∷ z) (up n k (u ++ (x ∷ r)))

  first_local : (n m : ℕ) → Local n m → (k : ℕ) (u : List Spelled) (x : Spelled) (r z : List Spelled) → length (u ++ (x ∷ r)) ≤ suc n
      → length (u ++ (x ∷ z)) ≤ suc m → (o : Outcome A) → p k (u ++ (x ∷ r)) ≡ o → Leaves (turn o (up n)) (x ∷ r)
      → turn (p k (u ++ (x ∷ z))) (up m) ≡ put (x ∷ z) (turn o (up n))
  first_local n m ih k u x r z le lm (Fails c rest) is at = ap (λ o. turn o (up m)) (P.local k u x r z (left_same (p k (u ++ (x ∷ r))) (Fails c rest) (x ∷ r) is at) ∙ ap (put (x ∷ z)) is)
  first_local n m ih k u x r z le lm (Got a j mid) is at =
      let leaves = left_made (λ (xs : List A). a ∷ xs) (up n j mid) (x ∷ r) at in
      let cut = up_prefix n j mid in
      let split : mid ≡ cut.0 ++ (x ∷ r) = cut.1 ∙ ap (λ ts. cut.0 ++ ts) leaves in
      let past = goes_past P k u x r z a j mid cut.0 is split in
      let there = subst (λ ts. Leaves (up n j ts) (x ∷ r)) split leaves in
      let less : length mid < length (u ++ (x ∷ r)) = shorter k (u ++ (x ∷ r)) a j mid is in
      let size : length mid ≡ length (cut.0 ++ (x ∷ r)) = ap length split in
      let fewer : length (cut.0 ++ (x ∷ z)) < length (u ++ (x ∷ z)) = shorter k (u ++ (x ∷ z)) a j (cut.0 ++ (x ∷ z)) past in
      let more = ih j cut.0 x r z (omega arith) (omega arith) there in
      ap (λ o. turn o (up m)) past ∙ ap (λ o. and_then o (add_front a)) (more ∙ ap (λ ts. put (x ∷ z) (up n j ts)) (sym split))
      ∙ put_made (λ (xs : List A). a ∷ xs) (x ∷ z) (up n j mid)

  turn_local : (n m : ℕ) → Local n m → (k : ℕ) (u : List Spelled) (x : Spelled) (r z : List Spelled) → length (u ++ (x ∷ r)) ≤ suc n
      → length (u ++ (x ∷ z)) ≤ suc m → (b : Bool) → Leaves (if b then turn (p k (u ++ (x ∷ r))) (up n) else Got [] k (u ++ (x ∷ r))) (x ∷ r)
      → (if b then turn (p k (u ++ (x ∷ z))) (up m) else Got [] k (u ++ (x ∷ z)))
      ≡ put (x ∷ z) (if b then turn (p k (u ++ (x ∷ r))) (up n) else Got [] k (u ++ (x ∷ r)))
  turn_local n m ih k u x r z le lm true at = first_local n m ih k u x r z le lm (p k (u ++ (x ∷ r))) refl at
  turn_local n m ih k u x r z le lm false at = let none : u ≡ [] = nothing_before u (x ∷ r) at in ap (λ v. Got [] k (v ++ (x ∷ z))) none

  up_local : (n m : ℕ) → Local n m
  up_local zero m k u x r z le lm e = let some : 0 < length (u ++ (x ∷ r)) = some_length u x r in absurd (omega arith)
  up_local (suc n) zero k u x r z le lm e = let some : 0 < length (u ++ (x ∷ z)) = some_length u x z in absurd (omega arith)
  up_local (suc n) (suc m) k u x r z le lm e =
      ap (λ b. if b then turn (p k (u ++ (x ∷ z))) (up m) else Got [] k (u ++ (x ∷ z))) (same_start ms u x r z)
      ∙ turn_local n m (up_local n m) k u x r z le lm (starts ms (u ++ (x ∷ r))) e

  pub law_many : Law (many ms p) (Each g) (row_spelling s) fp (ms ++ lp) true
  unfolding many
  law_many = record {
    example = [];
    sample = tt;
    leads = leads_many;
    sound = λ k ts xs i rest e. up_sound (length ts) k ts xs i rest e;
    accepts = λ k xs rest good e. up_accepts (length (bare (row_spelling s xs) ++ rest)) k xs rest good e (omega arith);
    breaks = λ k ts c rest e. up_breaks (length ts) k ts c rest e;
    local = λ k u x r z e. up_local (length (u ++ (x ∷ r))) (length (u ++ (x ∷ z))) k u x r z (omega arith) (omega arith) e;
  }

-- The same, spelled as the lists of the library are made flat.
pub law_each : {A : Type 0} {p : Reader A} {g : A → Type 0} {s : A → List WeighedToken} {fp lp : List ℕ} (ms : List ℕ)
    → Law p g s fp lp false → within fp ms ≡ true → apart lp fp ≡ true → Law (many ms p) (Each g) (flat_map s) fp (ms ++ lp) true
law_each {g = g} {s = s} ms P taken_in side =
    law_reworded (Each g) (flat_map s) (law_many ms P taken_in side) (λ xs good. good) (λ xs good. good)
    (λ xs good. sym (row_spelling_flat s xs))

-- ---- at least one

abbrev pub SomeEach : {A : Type 0} → (A → Type 0) → List A → Type 0
SomeEach g [] = ⊥
SomeEach g (x ∷ xs) = g x × Each g xs

module _ {A : Type 0} {p : Reader A} {g : A → Type 0} {s : A → List WeighedToken} {fp lp : List ℕ} (ms : List ℕ)
    (P : Law p g s fp lp false) (taken_in : within fp ms ≡ true) (side : apart lp fp ≡ true) where
  onto_some : (xs : List A) → SomeEach g xs → (x : A × List A) × (Both g (Each g) x × (in_front x ≡ xs))
  onto_some [] good = absurd good
  onto_some (x ∷ xs) good = ((x, xs), (good, refl))

  pub law_some : Law (some ms p) (SomeEach g) (row_spelling s) fp (lp ++ (ms ++ lp)) false
  law_some = law_to in_front (SomeEach g) (row_spelling s)
      (law_seq P (law_many ms P taken_in side) side) (λ x good. good) (λ x good. refl) onto_some

-- The same, spelled as the lists of the library are made flat.
pub law_some_each : {A : Type 0} {p : Reader A} {g : A → Type 0} {s : A → List WeighedToken} {fp lp : List ℕ} (ms : List ℕ)
    → Law p g s fp lp false → within fp ms ≡ true → apart lp fp ≡ true
    → Law (some ms p) (SomeEach g) (flat_map s) fp (lp ++ (ms ++ lp)) false
law_some_each {g = g} {s = s} ms P taken_in side =
    law_reworded (SomeEach g) (flat_map s) (law_some ms P taken_in side) (λ xs good. good) (λ xs good. good)
    (λ xs good. sym (row_spelling_flat s xs))
