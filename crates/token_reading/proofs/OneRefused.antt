-- A list of tokens has one refused token, where the reader of its tree has a law.
use Rattle.std.proofs.Common.{◌≡◌, refl, sym, ap, ◌∙◌, subst, ℕ, Bool, true, false, List, [], ◌∷◌, ◌++◌}
use Rattle.std.proofs.lemmas.List.{append_assoc, append_cancel_right}
use Rattle.token_reading.specs.Spelled.{Spelled, EndOfFile}
use Rattle.token_reading.specs.Weights.{WeighedToken, bare, after, WithinLimits}
use Rattle.token_reading.specs.Reading.{Refused, OverLimit, Outcome, Got, Fails, Reader, of_end, is_in}
use Rattle.token_reading.specs.Sources.{file_of, IsTreeOf, Begins, BeginsWithinLimits, IsFaulty, IsOverLimit}
use Rattle.token_reading.proofs.Lists.{bare_both}
use Rattle.token_reading.proofs.Law.{FirstExceeds, Accepted, Law, failed, put, rest_of}

-- ---- two tokens of one list: the same one, or one before the other

pub data Order {T : Type 0} (before : List T) (token : T) (behind before2 : List T) (token2 : T) (behind2 : List T) : Type 0 where
  same : before ≡ before2 → token ≡ token2 → behind ≡ behind2 → Order before token behind before2 token2 behind2
  earlier : (between : List T) → before2 ≡ before ++ (token ∷ between) → Order before token behind before2 token2 behind2
  later : (between : List T) → before ≡ before2 ++ (token2 ∷ between) → Order before token behind before2 token2 behind2

pub heads : {T : Type 0} (x y : T) (xs ys : List T) → x ∷ xs ≡ y ∷ ys → (x ≡ y) × (xs ≡ ys)
heads x y xs ys e = (cc, cc)

further : {T : Type 0} (x y : T) (before : List T) (token : T) (behind before2 : List T) (token2 : T) (behind2 : List T) → x ≡ y
    → Order before token behind before2 token2 behind2 → Order (x ∷ before) token behind (y ∷ before2) token2 behind2
further x y before token behind before2 token2 behind2 head (same fronts tokens backs) = same (cc) tokens backs
further x y before token behind before2 token2 behind2 head (earlier between splits) = earlier between (cc)
further x y before token behind before2 token2 behind2 head (later between splits) = later between (cc)

pub order : {T : Type 0} (before : List T) (token : T) (behind before2 : List T) (token2 : T) (behind2 : List T)
    → before ++ (token ∷ behind) ≡ before2 ++ (token2 ∷ behind2) → Order before token behind before2 token2 behind2
order [] token behind [] token2 behind2 e = let both = heads token token2 behind behind2 e in same refl both.0 both.1
order [] token behind (y ∷ before2) token2 behind2 e =
    let both = heads token y behind (before2 ++ (token2 ∷ behind2)) e in earlier before2 (ap (λ z. z ∷ before2) (sym both.0))
order (x ∷ before) token behind [] token2 behind2 e =
    let both = heads x token2 (before ++ (token ∷ behind)) behind2 e in later before (ap (λ z. z ∷ before) both.0)
order (x ∷ before) token behind (y ∷ before2) token2 behind2 e =
    let both = heads x y (before ++ (token ∷ behind)) (before2 ++ (token2 ∷ behind2)) e in
    further x y before token behind before2 token2 behind2 both.0 (order before token behind before2 token2 behind2 both.1)

-- ---- the first weighed token that exceeds the limit

-- no token of a list within the limits exceeds one
pub within_at : (k : ℕ) (front : List WeighedToken) (m : WeighedToken) (back : List WeighedToken) → WithinLimits k (front ++ (m ∷ back))
    → m.weight.exceeds (after k front) ≡ false
within_at k [] m back l = l.0.allowed
within_at k (n ∷ front) m back l = within_at (n.weight.step k) front m back l.1

pub never_both : (b : Bool) → b ≡ true → b ≡ false → ⊥
never_both true e f = cc
never_both false e f = cc

record IsFirst (k : ℕ) (ms front : List WeighedToken) (weighed : WeighedToken) (behind : List WeighedToken) : Type 0 where
  clear : WithinLimits k front
  exceeds_limit : weighed.weight.exceeds (after k front) ≡ true
  splits : ms ≡ front ++ (weighed ∷ behind)

first_within : (k : ℕ) (ms front : List WeighedToken) (weighed : WeighedToken) (behind : List WeighedToken) → IsFirst k ms front weighed behind
    → WithinLimits k ms → ⊥
first_within k ms front weighed behind first l =
    never_both (weighed.weight.exceeds (after k front)) first.exceeds_limit
    (within_at k front weighed behind (subst (WithinLimits k) first.splits l))

first_once : (k : ℕ) (ms front : List WeighedToken) (m : WeighedToken) (back front2 : List WeighedToken) (m2 : WeighedToken) (back2 : List WeighedToken)
    → IsFirst k ms front m back → IsFirst k ms front2 m2 back2 → (m ≡ m2) × (back ≡ back2)
first_once k ms front m back front2 m2 back2 one two =
    of_order (order front m back front2 m2 back2 (sym one.splits ∙ two.splits))
  where
    of_order : Order front m back front2 m2 back2 → (m ≡ m2) × (back ≡ back2)
    of_order (same fronts tokens backs) = (tokens, backs)
    of_order (earlier between splits) = absurd
        (never_both (m.weight.exceeds (after k front)) one.exceeds_limit (within_at k front m between (subst (WithinLimits k) splits two.clear)))
    of_order (later between splits) = absurd
        (never_both (m2.weight.exceeds (after k front2)) two.exceeds_limit (within_at k front2 m2 between (subst (WithinLimits k) splits one.clear)))

-- a token that stands within a front that is clear doesn't exceed the limit
clear_at : (k : ℕ) (front back f : List WeighedToken) (m : WeighedToken) (g : List WeighedToken) (x : Spelled) (between : List Spelled)
    → front ++ back ≡ f ++ (m ∷ g) → bare front ≡ bare f ++ (x ∷ between) → WithinLimits k front → m.weight.exceeds (after k f) ≡ false
clear_at k [] back [] m g x between whole longer l = absurd (cc)
clear_at k [] back (h ∷ f) m g x between whole longer l = absurd (cc)
clear_at k (n ∷ front) back [] m g x between whole longer l =
    subst (λ (w : WeighedToken). w.weight.exceeds k ≡ false) (heads n m (front ++ back) g whole).0 l.0.allowed
clear_at k (n ∷ front) back (h ∷ f) m g x between whole longer l =
    let both = heads n h (front ++ back) (f ++ (m ∷ g)) whole in
    let rest = clear_at (n.weight.step k) front back f m g x between both.1 (heads n.token h.token (bare front) (bare f ++ (x ∷ between)) longer).1 l.1 in
    subst (λ (w : WeighedToken). m.weight.exceeds (after (w.weight.step k) f) ≡ false) both.0 rest

-- ---- what each of the two facts says of the tokens of a tree

module _ {A : Type 0} (good : A → Type 0) (s : A → List WeighedToken) where
  abbrev file_end_of : List WeighedToken → List Spelled
  file_end_of ms = bare ms ++ (EndOfFile ∷ [])

  -- a source goes on through each token of its file
  begins_through : (tree : A) (before : List Spelled) (token : Spelled) (behind : List Spelled) → good tree
      → file_of (s tree) ≡ before ++ (token ∷ behind) → Begins good s (before ++ (token ∷ []))
  begins_through tree before token behind fits e =
      record { tree = tree; fits = fits; behind = behind; whole = e ∙ sym (append_assoc before (token ∷ []) behind) }

  possible_file : (before : List Spelled) (possible : BeginsWithinLimits good s before)
      → file_of (s possible.tree) ≡ before ++ file_end_of possible.behind
  possible_file before possible =
      ap file_of possible.whole ∙ bare_both possible.front possible.behind (EndOfFile ∷ [])
      ∙ ap (λ us. us ++ file_end_of possible.behind) possible.begun

  over_limit_tokens : (before : List Spelled) (token : Spelled) (over : IsOverLimit good s before token)
      → file_of (s over.tree) ≡ before ++ (token ∷ file_end_of over.behind)
  over_limit_tokens before token over =
      ap file_of over.whole ∙ bare_both over.front (over.weighed ∷ over.behind) (EndOfFile ∷ [])
      ∙ ap (λ us. us ++ (over.weighed.token ∷ file_end_of over.behind)) over.begun
      ∙ ap (λ t. before ++ (t ∷ file_end_of over.behind)) over.is_token

  -- ---- two tokens, each of which makes the tokens no viable prefix

  not_past_faulty : (before : List Spelled) (token : Spelled) (between before2 : List Spelled) → IsFaulty good s before token
      → BeginsWithinLimits good s before2 → before2 ≡ before ++ (token ∷ between) → ⊥
  not_past_faulty before token between before2 one possible longer =
      let left : List Spelled = file_end_of possible.behind in
      one.impossible (begins_through possible.tree before token (between ++ left) possible.fits
      (possible_file before2 possible ∙ ap (λ us. us ++ left) longer ∙ append_assoc before (token ∷ between) left))

  pub faulty_once : (before : List Spelled) (token : Spelled) (behind before2 : List Spelled) (token2 : Spelled) (behind2 : List Spelled)
      → before ++ (token ∷ behind) ≡ before2 ++ (token2 ∷ behind2) → IsFaulty good s before token → IsFaulty good s before2 token2
      → (before ≡ before2) × (token ≡ token2)
  faulty_once before token behind before2 token2 behind2 e one two = of_order (order before token behind before2 token2 behind2 e)
    where
      of_order : Order before token behind before2 token2 behind2 → (before ≡ before2) × (token ≡ token2)
      of_order (same fronts tokens backs) = (fronts, tokens)
      of_order (earlier between splits) = absurd (not_past_faulty before token between before2 one two.possible splits)
      of_order (later between splits) = absurd (not_past_faulty before2 token2 between before two one.possible splits)

  pub tree_not_faulty : (ts : List Spelled) (tree : A) (before : List Spelled) (token : Spelled) (behind : List Spelled)
      → IsTreeOf good s ts tree → ts ≡ before ++ (token ∷ behind) → IsFaulty good s before token → ⊥
  tree_not_faulty ts tree before token behind is e faulty =
      faulty.impossible (begins_through tree before token behind is.spells.fits (is.spells.spelled ∙ e))

-- ---- where a token exceeds the limit, the reader tells of it

module _ {A : Type 0} {p : Reader A} {good : A → Type 0} {s : A → List WeighedToken} {first last : List ℕ} {may : Bool}
    (P : Law p good s first last may) (ends : is_in last of_end ≡ false) where
  abbrev end : List Spelled
  end = EndOfFile ∷ []

  pub over_limit_read : (before : List Spelled) (token : Spelled) → IsOverLimit good s before token → (z : List Spelled)
      → p 0 (before ++ (token ∷ z)) ≡ Fails OverLimit (token ∷ z)
  over_limit_read before token over z =
      let left : List Spelled = bare over.behind ++ end in
      let there : p 0 (before ++ (token ∷ left)) ≡ Fails OverLimit (token ∷ left) =
      ap (λ us. p 0 us) (sym (over_limit_tokens good s before token over))
      ∙ of_outcome (p 0 (file_of (s over.tree))) (P.accepts 0 over.tree end over.fits ends) in
      P.local 0 before token left z (ap rest_of there) ∙ ap (put (token ∷ z)) there
    where
      is_first : IsFirst 0 (s over.tree) over.front over.weighed over.behind
      is_first = record { clear = over.clear; exceeds_limit = over.exceeds_limit; splits = over.whole }

      of_outcome : (o : Outcome A) → Accepted over.tree 0 (s over.tree) end o → o ≡ Fails OverLimit (token ∷ (bare over.behind ++ end))
      of_outcome (Got a j more) accepted = absurd (first_within 0 (s over.tree) over.front over.weighed over.behind is_first accepted.3)
      of_outcome (Fails OverLimit more) accepted =
          let both = first_once 0 (s over.tree) accepted.front accepted.weighed accepted.behind over.front over.weighed over.behind
          (record { clear = accepted.clear; exceeds_limit = accepted.exceeds_limit; splits = accepted.splits }) is_first in
          ap (λ us. Fails OverLimit us) (accepted.at ∙ ap (λ (m : WeighedToken). m.token ∷ (bare accepted.behind ++ end)) both.0
          ∙ ap (λ (t : Spelled). t ∷ (bare accepted.behind ++ end)) over.is_token ∙ ap (λ ms. token ∷ (bare ms ++ end)) both.1)
      of_outcome (Fails Refused more) accepted = absurd accepted

  pub over_limit_once : (before : List Spelled) (token : Spelled) (behind before2 : List Spelled) (token2 : Spelled) (behind2 : List Spelled)
      → before ++ (token ∷ behind) ≡ before2 ++ (token2 ∷ behind2) → IsOverLimit good s before token → IsOverLimit good s before2 token2
      → (before ≡ before2) × (token ≡ token2)
  over_limit_once before token behind before2 token2 behind2 e one two =
      let fails : failed A OverLimit (token ∷ behind) ≡ Fails OverLimit (token2 ∷ behind2) =
      sym (over_limit_read before token one behind) ∙ ap (λ us. p 0 us) e ∙ over_limit_read before2 token2 two behind2 in
      let left : token ∷ behind ≡ token2 ∷ behind2 = ap rest_of fails in
      (append_cancel_right before before2 (token2 ∷ behind2) (ap (λ us. before ++ us) (sym left) ∙ e), (heads token token2 behind behind2 left).0)

  -- The token exceeds the limit in each tree that goes on through it.
  exceeds_in_tree : (tree : A) (before : List Spelled) (token : Spelled) (left : List Spelled) → good tree
      → file_of (s tree) ≡ before ++ (token ∷ left) → IsOverLimit good s before token → FirstExceeds 0 (s tree) end (token ∷ left)
  exceeds_in_tree tree before token left fits e over =
      subst (λ o. Accepted tree 0 (s tree) end o) (ap (λ us. p 0 us) e ∙ over_limit_read before token over left) (P.accepts 0 tree end fits ends)

  -- So no source goes on through it within the limits.
  over_limit_then_possible : (before : List Spelled) (token : Spelled) (between before2 : List Spelled) → IsOverLimit good s before token
      → BeginsWithinLimits good s before2 → before2 ≡ before ++ (token ∷ between) → ⊥
  over_limit_then_possible before token between before2 over possible longer =
      let left : List Spelled = between ++ (bare possible.behind ++ end) in
      let whole : file_of (s possible.tree) ≡ before ++ (token ∷ left) =
      possible_file good s before2 possible ∙ ap (λ us. us ++ (bare possible.behind ++ end)) longer
      ∙ append_assoc before (token ∷ between) (bare possible.behind ++ end) in
      let exceeds = exceeds_in_tree possible.tree before token left possible.fits whole over in
      let m : WeighedToken = exceeds.weighed in
      let front : bare exceeds.front ≡ before = append_cancel_right (bare exceeds.front) before (token ∷ left)
      (ap (λ us. bare exceeds.front ++ us) exceeds.at ∙ sym (bare_both exceeds.front (m ∷ exceeds.behind) end)
      ∙ sym (ap file_of exceeds.splits) ∙ whole) in
      never_both (m.weight.exceeds (after 0 exceeds.front)) exceeds.exceeds_limit
      (clear_at 0 possible.front possible.behind exceeds.front m exceeds.behind token between (sym possible.whole ∙ exceeds.splits)
      (possible.begun ∙ longer ∙ ap (λ us. us ++ (token ∷ between)) (sym front)) possible.clear)

  -- A list with a token that makes it no viable prefix has none that exceeds the limit.
  pub not_both : (before : List Spelled) (token : Spelled) (behind before2 : List Spelled) (token2 : Spelled) (behind2 : List Spelled)
      → before ++ (token ∷ behind) ≡ before2 ++ (token2 ∷ behind2) → IsFaulty good s before token → IsOverLimit good s before2 token2 → ⊥
  not_both before token behind before2 token2 behind2 e faulty over = of_order (order before token behind before2 token2 behind2 e)
    where
      left : List Spelled
      left = bare over.behind ++ end

      tokens : file_of (s over.tree) ≡ before2 ++ (token2 ∷ left)
      tokens = over_limit_tokens good s before2 token2 over

      of_order : Order before token behind before2 token2 behind2 → ⊥
      of_order (same fronts at backs) =
          faulty.impossible (begins_through good s over.tree before token left over.fits
          (tokens ∙ ap (λ us. us ++ (token2 ∷ left)) (sym fronts) ∙ ap (λ t. before ++ (t ∷ left)) (sym at)))
      of_order (earlier between splits) =
          faulty.impossible (begins_through good s over.tree before token (between ++ (token2 ∷ left)) over.fits
          (tokens ∙ ap (λ us. us ++ (token2 ∷ left)) splits ∙ append_assoc before (token ∷ between) (token2 ∷ left)))
      of_order (later between splits) = over_limit_then_possible before2 token2 between before over faulty.possible splits

  pub tree_not_over_limit : (ts : List Spelled) (tree : A) (before : List Spelled) (token : Spelled) (behind : List Spelled)
      → IsTreeOf good s ts tree → ts ≡ before ++ (token ∷ behind) → IsOverLimit good s before token → ⊥
  tree_not_over_limit ts tree before token behind is e over =
      let exceeds = exceeds_in_tree tree before token behind is.spells.fits (is.spells.spelled ∙ e) over in
      first_within 0 (s tree) exceeds.front exceeds.weighed exceeds.behind
      (record { clear = exceeds.clear; exceeds_limit = exceeds.exceeds_limit; splits = exceeds.splits }) is.within_limits
