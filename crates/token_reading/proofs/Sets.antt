-- Sets of kinds: apart from each other, one within the other, and what they say of the front of a
-- list.
use Rattle.std.proofs.Common.{◌≡◌, refl, sym, ap, ◌∙◌, subst, ℕ, Bool, true, false, not, List, [], ◌∷◌, ◌++◌}
use Rattle.std.specs.Prelude.{◌==◌, ◌||◌, ◌&&◌, if◌then◌else◌}
use Rattle.std.proofs.lemmas.Bool.Decides.{Decides-eqb}
use Rattle.token_reading.specs.Spelled.{Spelled}
use Rattle.token_reading.specs.Reading.{code, is_in, starts}

-- No kind is in both sets.
abbrev pub apart : List ℕ → List ℕ → Bool
apart [] fs = true
apart (m ∷ ms) fs = not (is_in fs m) && apart ms fs

-- Each kind of the first set is in the second.
abbrev pub within : List ℕ → List ℕ → Bool
within [] fs = true
within (m ∷ ms) fs = is_in fs m && within ms fs

-- The list begins with a token of these kinds, or is empty where that may be.
abbrev pub Leads : Bool → List ℕ → List Spelled → Type 0
Leads may first [] = may ≡ true
Leads may first (t ∷ ts) = is_in first (code t) ≡ true

and_parts : (a b : Bool) → (a && b) ≡ true → (a ≡ true) × (b ≡ true)
and_parts true b e = (refl, e)
and_parts false b e = absurd (cc)

pub or_parts : (a b : Bool) → (a || b) ≡ false → (a ≡ false) × (b ≡ false)
or_parts true b e = absurd (cc)
or_parts false b e = (refl, e)

pub or_right : (a b : Bool) → b ≡ true → (a || b) ≡ true
or_right true b e = refl
or_right false b e = e

or_assoc : (a b c : Bool) → (a || (b || c)) ≡ ((a || b) || c)
or_assoc true b c = refl
or_assoc false b c = refl

pub is_in-append : (ms ns : List ℕ) (k : ℕ) → is_in (ms ++ ns) k ≡ (is_in ms k || is_in ns k)
is_in-append [] ns k = refl
is_in-append (m ∷ ms) ns k = ap (λ b. (k == m) || b) (is_in-append ms ns k) ∙ or_assoc (k == m) (is_in ms k) (is_in ns k)

pub is_in-own : (k : ℕ) → is_in (k ∷ []) k ≡ true
is_in-own k = let e : (k == k) ≡ true = (Decides-eqb k k).1 refl in own_or (k == k) e
  where
    own_or : (a : Bool) → a ≡ true → (a || false) ≡ true
    own_or a e = cc

in_neither : (fs : List ℕ) (k m : ℕ) (a b : Bool) → ((k == m) ≡ a) → not (is_in fs m) ≡ true → is_in fs k ≡ true → b ≡ false → (a || b) ≡ false
in_neither fs k m true b e out has f =
    let same : k ≡ m = (Decides-eqb k m).0 e in
    let has_m : is_in fs m ≡ true = subst (λ n. is_in fs n ≡ true) same has in
    absurd (not_both (is_in fs m) has_m out)
  where
    not_both : (c : Bool) → c ≡ true → not c ≡ true → ⊥
    not_both true h g = cc
    not_both false h g = cc
in_neither fs k m false b e out has f = f

pub apart_out : (ms fs : List ℕ) (k : ℕ) → apart ms fs ≡ true → is_in fs k ≡ true → is_in ms k ≡ false
apart_out [] fs k h has = refl
apart_out (m ∷ ms) fs k h has =
    let both = and_parts (not (is_in fs m)) (apart ms fs) h in
    in_neither fs k m (k == m) (is_in ms k) refl both.0 has (apart_out ms fs k both.1 has)

in_first : (fs : List ℕ) (k m : ℕ) (a b : Bool) → ((k == m) ≡ a) → is_in fs m ≡ true → (b ≡ true → is_in fs k ≡ true) → (a || b) ≡ true → is_in fs k ≡ true
in_first fs k m true b e has f h = subst (λ n. is_in fs n ≡ true) (sym ((Decides-eqb k m).0 e)) has
in_first fs k m false b e has f h = f h

pub within_in : (ms fs : List ℕ) (k : ℕ) → within ms fs ≡ true → is_in ms k ≡ true → is_in fs k ≡ true
within_in [] fs k h e = absurd (cc)
within_in (m ∷ ms) fs k h e =
    let both = and_parts (is_in fs m) (within ms fs) h in
    in_first fs k m (k == m) (is_in ms k) refl both.0 (λ f. within_in ms fs k both.1 f) e

out_of : (a b : Bool) → (a ≡ true → b ≡ true) → b ≡ false → a ≡ false
out_of true b f e = absurd (let g : b ≡ true = f refl in cc)
out_of false b f e = refl

-- ---- what follows for the front of a list

pub stops_within : (ms fs : List ℕ) → within ms fs ≡ true → (ts : List Spelled) → starts fs ts ≡ false → starts ms ts ≡ false
stops_within ms fs h [] e = refl
stops_within ms fs h (t ∷ ts) e = out_of (is_in ms (code t)) (is_in fs (code t)) (within_in ms fs (code t) h) e

pub stops_both : (ms ns : List ℕ) (ts : List Spelled) → starts (ms ++ ns) ts ≡ false → (starts ms ts ≡ false) × (starts ns ts ≡ false)
stops_both ms ns [] e = (refl, refl)
stops_both ms ns (t ∷ ts) e = or_parts (is_in ms (code t)) (is_in ns (code t)) (sym (is_in-append ms ns (code t)) ∙ e)

-- The last set of two parts: that of the first counts where the second may be empty.
pub stops_last : (may : Bool) (ms ns : List ℕ) (ts : List Spelled) → starts (if may then ms ++ ns else ns) ts ≡ false
    → (may ≡ true → starts ms ts ≡ false) × (starts ns ts ≡ false)
stops_last true ms ns ts e = let both = stops_both ms ns ts e in ((λ _. both.0), both.1)
stops_last false ms ns ts e = ((λ f. absurd (cc)), e)

-- After a part, what may follow stops it.
pub stops_before : (ms fs : List ℕ) → apart ms fs ≡ true → (may : Bool) (us rest : List Spelled) → Leads may fs us
    → (may ≡ true → starts ms rest ≡ false) → starts ms (us ++ rest) ≡ false
stops_before ms fs h may [] rest l f = f l
stops_before ms fs h may (t ∷ us) rest l f = apart_out ms fs (code t) h l

pub starts_within : (fs ms : List ℕ) → within fs ms ≡ true → (us rest : List Spelled) → Leads false fs us → starts ms (us ++ rest) ≡ true
starts_within fs ms h [] rest l = absurd (cc)
starts_within fs ms h (t ∷ us) rest l = within_in fs ms (code t) h l

pub leads_within : (fs ms : List ℕ) → within fs ms ≡ true → (may : Bool) (us : List Spelled) → Leads may fs us → Leads may ms us
leads_within fs ms h may [] l = l
leads_within fs ms h may (t ∷ us) l = within_in fs ms (code t) h l

pub leads_may : (fs : List ℕ) (us : List Spelled) → Leads false fs us → Leads true fs us
leads_may fs [] l = refl
leads_may fs (t ∷ us) l = l

-- The first set of two parts: that of the second counts where the first may be empty.
pub leads_first : (m n : Bool) (fs gs : List ℕ) (us vs : List Spelled) → Leads m fs us → Leads n gs vs
    → Leads (m && n) (if m then fs ++ gs else fs) (us ++ vs)
leads_first true n fs gs [] [] l k = k
leads_first true n fs gs [] (v ∷ vs) l k = is_in-append fs gs (code v) ∙ or_right (is_in fs (code v)) (is_in gs (code v)) k
leads_first true n fs gs (u ∷ us) vs l k = is_in-append fs gs (code u) ∙ or_left (is_in fs (code u)) (is_in gs (code u)) l
  where
    or_left : (a b : Bool) → a ≡ true → (a || b) ≡ true
    or_left true b e = refl
    or_left false b e = absurd (cc)
leads_first false n fs gs [] vs l k = absurd (cc)
leads_first false n fs gs (u ∷ us) vs l k = l

pub leads_left : (m : Bool) (fs gs : List ℕ) (us : List Spelled) → Leads false fs us → Leads m (fs ++ gs) us
leads_left m fs gs [] l = absurd (cc)
leads_left m fs gs (u ∷ us) l = is_in-append fs gs (code u) ∙ or_left (is_in fs (code u)) (is_in gs (code u)) l
  where
    or_left : (a b : Bool) → a ≡ true → (a || b) ≡ true
    or_left true b e = refl
    or_left false b e = absurd (cc)

pub leads_right : (m : Bool) (fs gs : List ℕ) (us : List Spelled) → Leads m gs us → Leads m (fs ++ gs) us
leads_right m fs gs [] l = l
leads_right m fs gs (u ∷ us) l = is_in-append fs gs (code u) ∙ or_right (is_in fs (code u)) (is_in gs (code u)) l
