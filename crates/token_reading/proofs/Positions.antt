-- The law of a part that begins with another part, and keeps its position.
use Rattle.std.proofs.Common.{◌≡◌, refl, sym, ap, ◌∙◌, subst, ℕ, false, List, [], ◌∷◌, ◌++◌, Option, Some, None, inl, inr}
use Rattle.spark_base.specs.declared.position.Pos.{Pos}
use Rattle.token_reading.specs.Spelled.{Spelled, Word, Ident, Number, Str, Delimiter, EndOfFile}
use Rattle.token_reading.specs.Weights.{WeighedToken, bare, after}
use Rattle.token_reading.specs.Reading.{Cause, Refused, Got, Fails, Reader, of_end, is_in, starts, and_then, position, stays, here, seq, StartsAt}
use Rattle.token_reading.proofs.Sets.{Leads}
use Rattle.token_reading.proofs.Lists.{nothing_before}
use Rattle.token_reading.proofs.Law.{Read, Accepted, Broken, Law, failed, Leaves, put, left_made, put_made, and_then_got, and_then_fails, got_fails, read_same, accepted_made, refused_here}

-- `Stands a pos` says that a tree's first token stands at a position.
module _ {A : Type 0} {p : Reader A} {g : A → Type 0} {s : A → List WeighedToken} {first last : List ℕ} (P : Law p g s first last false)
    (Stands : A → Pos → Type 0) (tells : (a : A) (pos : Pos) → g a → StartsAt pos (bare (s a)) → Stands a pos)
    (gives : (a : A) (pos : Pos) → g a → Stands a pos → StartsAt pos (bare (s a))) (somewhere : (a : A) → g a → (pos : Pos) × Stands a pos) where
  abbrev pub Placed : Pos × A → Type 0
  Placed x = g x.1 × Stands x.1 x.0

  abbrev pub of_second : Pos × A → List WeighedToken
  of_second x = s x.1

  abbrev with_position : Pos → Reader (Pos × A)
  with_position pos j more = and_then (p j more) (λ a i rest. Got (pos, a) i rest)

  stays_got : (o : Option Pos) (k : ℕ) (ts : List Spelled) (pos : Pos) (j : ℕ) (rest : List Spelled) → stays o k ts ≡ Got pos j rest
      → (o ≡ Some pos) × (k ≡ j) × (ts ≡ rest)
  stays_got (Some at) k ts pos j rest e = (cc, cc, cc)
  stays_got None k ts pos j rest e = absurd (cc)

  here_got : (k : ℕ) (ts : List Spelled) (pos : Pos) (j : ℕ) (rest : List Spelled) → here k ts ≡ Got pos j rest → StartsAt pos ts × (k ≡ j) × (ts ≡ rest)
  here_got k [] pos j rest e = absurd (cc)
  here_got k (t ∷ ts) pos j rest e = stays_got (position t) k (t ∷ ts) pos j rest e

  here_fails : (k : ℕ) (ts : List Spelled) (c : Cause) (rest : List Spelled) → here k ts ≡ Fails c rest → failed (Pos × A) Refused ts ≡ Fails c rest
  here_fails k [] c rest e = cc
  here_fails k (t ∷ ts) c rest e = of_position (position t) e
    where
      of_position : (o : Option Pos) → stays o k (t ∷ ts) ≡ Fails c rest → failed (Pos × A) Refused (t ∷ ts) ≡ Fails c rest
      of_position (Some pos) f = absurd (cc)
      of_position None f = cc

  here_stands : (k : ℕ) (ts : List Spelled) (pos : Pos) → StartsAt pos ts → here k ts ≡ Got pos k ts
  here_stands k [] pos at = absurd at
  here_stands k (t ∷ ts) pos at = ap (λ o. stays o k (t ∷ ts)) at

  -- the first token is that of what stands in front
  front_of : (us rest : List Spelled) (pos : Pos) → Leads false first us → StartsAt pos (us ++ rest) → StartsAt pos us
  front_of [] rest pos l at = absurd (cc)
  front_of (u ∷ us) rest pos l at = at

  with_rest : (us rest : List Spelled) (pos : Pos) → StartsAt pos us → StartsAt pos (us ++ rest)
  with_rest [] rest pos at = absurd at
  with_rest (u ∷ us) rest pos at = at

  placed_whole : (k : ℕ) (ts : List Spelled) (pos : Pos) (a : A) (i : ℕ) (rest : List Spelled) → StartsAt pos ts → Read g s k ts a i rest
      → Read Placed of_second k ts (pos, a) i rest
  placed_whole k ts pos a i rest at read =
      let front = front_of (bare (s a)) rest pos (P.leads a read.fits) (subst (StartsAt pos) read.whole at) in
      record { fits = (read.fits, tells a pos read.fits front); within_limits = read.within_limits; count = read.count; whole = read.whole }

  placed_sound : (k : ℕ) (ts : List Spelled) (x : Pos × A) (i : ℕ) (rest : List Spelled) → seq here p k ts ≡ Got x i rest
      → Read Placed of_second k ts x i rest
  placed_sound k ts x i rest e =
      let one = and_then_got (here k ts) with_position x i rest e in
      let two = and_then_got (p one.1.0 one.1.1.0) (λ a i rest. Got (one.0, a) i rest) x i rest one.1.1.1.1 in
      let at = here_got k ts one.0 one.1.0 one.1.1.0 one.1.1.1.0 in
      let read = P.sound one.1.0 one.1.1.0 two.0 two.1.0 two.1.1.0 two.1.1.1.0 in
      let read_here = subst (λ l. Read g s l ts two.0 two.1.0 two.1.1.0) (sym at.1)
      (subst (λ us. Read g s one.1.0 us two.0 two.1.0 two.1.1.0) (sym at.2) read) in
      read_same {A = Pos × A} k ts (one.0, two.0) x two.1.0 i two.1.1.0 rest two.1.1.1.1
      (placed_whole k ts one.0 two.0 two.1.0 two.1.1.0 at.0 read_here)

  placed_accepts : (k : ℕ) (x : Pos × A) (rest : List Spelled) → Placed x → starts last rest ≡ false
      → Accepted x k (s x.1) rest (seq here p k (bare (s x.1) ++ rest))
  placed_accepts k x rest good e =
      let ts : List Spelled = bare (s x.1) ++ rest in
      let at = with_rest (bare (s x.1)) rest x.0 (gives x.1 x.0 good.0 good.1) in
      subst (λ o. Accepted x k (s x.1) rest (and_then o with_position)) (sym (here_stands k ts x.0 at))
      (accepted_made (λ (a : A). (x.0, a)) x.1 x k (s x.1) rest (p k ts) refl (P.accepts k x.1 rest good.0 e))

  cut_placed : (k : ℕ) (ts : List Spelled) (c : Cause) (rest : List Spelled) → Broken g s k c ts rest → Broken Placed of_second k c ts rest
  cut_placed k ts c rest broken =
      let at = somewhere broken.tree broken.fits in
      record {
        before = broken.before;
        tree = (at.0, broken.tree);
        reached = broken.reached;
        more = broken.more;
        fits = (broken.fits, at.1);
        clear = broken.clear;
        reach = broken.reach;
        splits = broken.splits;
        goes_on = broken.goes_on;
      }

  placed_breaks : (k : ℕ) (ts : List Spelled) (c : Cause) (rest : List Spelled) → seq here p k ts ≡ Fails c rest → Broken Placed of_second k c ts rest
  placed_breaks k ts c rest e = elim (and_then_fails (here k ts) with_position c rest e) [
    | inl early ↦
        let at = somewhere P.example P.sample in
        refused_here {A = Pos × A} (at.0, P.example) (P.sample, at.1) k ts c rest (here_fails k ts c rest early)
    | inr one ↦
        let at = here_got k ts one.0 one.1.0 one.1.1.0 one.1.1.1.0 in
        elim (and_then_fails (p one.1.0 one.1.1.0) (λ a i rest. Got (one.0, a) i rest) c rest one.1.1.1.1) [
          | inl second ↦
              cut_placed k ts c rest (P.breaks k ts c rest (ap (λ l. p l ts) at.1 ∙ ap (λ us. p one.1.0 us) at.2 ∙ second))
          | inr two ↦ absurd (got_fails {A = Pos × A} (one.0, two.0) two.1.0 c two.1.1.0 rest two.1.1.1.1)
        ]
  ]

  -- one token in front, whose position is known or isn't
  of_front : (o : Option Pos) (k : ℕ) (u : List Spelled) (x : Spelled) (r z : List Spelled)
      → (o ≡ None → u ≡ []) → Leaves (and_then (stays o k (u ++ (x ∷ r))) with_position) (x ∷ r)
      → and_then (stays o k (u ++ (x ∷ z))) with_position ≡ put (x ∷ z) (and_then (stays o k (u ++ (x ∷ r))) with_position)
  of_front (Some pos) k u x r z none e =
      let leaves = left_made (λ (a : A). (pos, a)) (p k (u ++ (x ∷ r))) (x ∷ r) e in
      ap (λ o. and_then o (λ a i rest. Got (pos, a) i rest)) (P.local k u x r z leaves)
      ∙ put_made (λ (a : A). (pos, a)) (x ∷ z) (p k (u ++ (x ∷ r)))
  of_front None k u x r z none e = ap (λ v. Fails Refused (v ++ (x ∷ z))) (none refl)

  nothing_left : (o : Option Pos) (k : ℕ) (u : List Spelled) (x : Spelled) (r : List Spelled)
      → Leaves (and_then (stays o k (u ++ (x ∷ r))) with_position) (x ∷ r) → o ≡ None → u ≡ []
  nothing_left (Some pos) k u x r e is = absurd (cc)
  nothing_left None k u x r e is = nothing_before u (x ∷ r) e

  placed_local : (k : ℕ) (u : List Spelled) (x : Spelled) (r z : List Spelled) → Leaves (seq here p k (u ++ (x ∷ r))) (x ∷ r)
      → seq here p k (u ++ (x ∷ z)) ≡ put (x ∷ z) (seq here p k (u ++ (x ∷ r)))
  placed_local k [] x r z e = of_front (position x) k [] x r z (λ is. refl) e
  placed_local k (t ∷ u) x r z e = of_front (position t) k (t ∷ u) x r z (nothing_left (position t) k (t ∷ u) x r e) e

  pub law_here : Law (seq here p) Placed of_second first last false
  law_here =
      let at = somewhere P.example P.sample in
      record {
        example = (at.0, P.example);
        sample = (P.sample, at.1);
        leads = λ x good. P.leads x.1 good.0;
        sound = placed_sound;
        accepts = placed_accepts;
        breaks = placed_breaks;
        local = placed_local;
      }

-- The position is that of the spelling's first token. A spelling that begins with the end of the
-- file has none.
module _ {A : Type 0} {p : Reader A} {g : A → Type 0} {s : A → List WeighedToken} {first last : List ℕ} (P : Law p g s first last false)
    (inside : is_in first of_end ≡ false) where
  first_position : (us : List Spelled) → Leads false first us → (pos : Pos) × StartsAt pos us
  first_position [] l = absurd (cc)
  first_position (Word v pos ∷ us) l = (pos, refl)
  first_position (Ident pos text ∷ us) l = (pos, refl)
  first_position (Number n pos ∷ us) l = (pos, refl)
  first_position (Str pos text ∷ us) l = (pos, refl)
  first_position (Delimiter v pos ∷ us) l = (pos, refl)
  first_position (EndOfFile ∷ us) l = absurd (cc)

  pub law_placed : Law (seq here p) (λ x. g x.1 × StartsAt x.0 (bare (s x.1))) (λ x. s x.1) first last false
  law_placed = law_here P (λ a pos. StartsAt pos (bare (s a))) (λ a pos good at. at) (λ a pos good at. at)
      (λ a good. first_position (bare (s a)) (P.leads a good))
