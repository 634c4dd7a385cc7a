-- Lists in relation, and frames with more handles.
use Rattle.std.proofs.Common.{◌≡◌, refl, sym, ap, ◌∙◌, subst, ℕ, zero, suc, arith, List, [], ◌∷◌, ◌++◌, map, take, drop, length, length-append}
use Rattle.std.specs.Prelude.{flat_map}
use Rattle.std.proofs.lemmas.List.{get_or_append_left}
use mathlib.Core.List.{reverse, reverse-cons}
use Rattle.handled_runs.specs.type_definitions.Types.{Table}
use Rattle.handled_runs.specs.run_codes.Flat.{Spot, InStack, InCell, kinds}
use Rattle.handled_runs.specs.run_codes.Points.{Held, Return, Frame}
use Rattle.handled_runs.specs.Beside.{all_renamed, spot_renamed, NameWords, NamesSpot}
use Rattle.handled_runs.proofs.Cells.{words_on, names_on}
use Rattle.handled_runs.proofs.Outcomes.{renamed_append, names_append}
use Rattle.handled_steps.specs.Alike.{Paired, HeldAlike, ReturnAlike, FrameAlike}

-- ---- lists in relation

module _ {A B : Type 0} (R : A → B → Type 0) where
  pub paired_take : (n : ℕ) (xs : List A) (ys : List B) → Paired R xs ys → Paired R (take n xs) (take n ys)
  paired_take zero xs ys p = tt
  paired_take (suc n) [] [] p = tt
  paired_take (suc n) [] (y ∷ ys) p = absurd p
  paired_take (suc n) (x ∷ xs) [] p = absurd p
  paired_take (suc n) (x ∷ xs) (y ∷ ys) p = (p.0, paired_take n xs ys p.1)

  pub paired_drop : (n : ℕ) (xs : List A) (ys : List B) → Paired R xs ys → Paired R (drop n xs) (drop n ys)
  paired_drop zero xs ys p = p
  paired_drop (suc n) [] [] p = tt
  paired_drop (suc n) [] (y ∷ ys) p = absurd p
  paired_drop (suc n) (x ∷ xs) [] p = absurd p
  paired_drop (suc n) (x ∷ xs) (y ∷ ys) p = paired_drop n xs ys p.1

  pub paired_append : (xs vs : List A) (ys ws : List B) → Paired R xs ys → Paired R vs ws → Paired R (xs ++ vs) (ys ++ ws)
  paired_append [] vs [] ws p q = q
  paired_append [] vs (y ∷ ys) ws p q = absurd p
  paired_append (x ∷ xs) vs [] ws p q = absurd p
  paired_append (x ∷ xs) vs (y ∷ ys) ws p q = (p.0, paired_append xs vs ys ws p.1 q)

  pub paired_reverse : (xs : List A) (ys : List B) → Paired R xs ys → Paired R (reverse xs) (reverse ys)
  paired_reverse [] [] p = tt
  paired_reverse [] (y ∷ ys) p = absurd p
  paired_reverse (x ∷ xs) [] p = absurd p
  paired_reverse (x ∷ xs) (y ∷ ys) p =
      subst (λ all. Paired R all (reverse (y ∷ ys))) (sym (reverse-cons x xs))
      (subst (Paired R (reverse xs ++ x ∷ [])) (sym (reverse-cons y ys)) (paired_append (reverse xs) (x ∷ []) (reverse ys) (y ∷ []) (paired_reverse xs ys p.1) (p.0, tt)))

  pub paired_on : (S : A → B → Type 0) → ((x : A) (y : B) → R x y → S x y) → (xs : List A) (ys : List B) → Paired R xs ys → Paired S xs ys
  paired_on S on [] [] p = tt
  paired_on S on [] (y ∷ ys) p = absurd p
  paired_on S on (x ∷ xs) [] p = absurd p
  paired_on S on (x ∷ xs) (y ∷ ys) p = (on x y p.0, paired_on S on xs ys p.1)

  pub paired_map : {C : Type 0} (f : A → C) (g : B → C) → ((x : A) (y : B) → R x y → g y ≡ f x) → (xs : List A) (ys : List B) → Paired R xs ys → map g ys ≡ map f xs
  paired_map f g same [] [] p = refl
  paired_map f g same [] (y ∷ ys) p = absurd p
  paired_map f g same (x ∷ xs) [] p = absurd p
  paired_map f g same (x ∷ xs) (y ∷ ys) p = ap (λ z. z ∷ map g ys) (same x y p.0) ∙ ap (λ rest. f x ∷ rest) (paired_map f g same xs ys p.1)

-- ---- more handles

module _ (handles added : List ℕ) where
  pub spot_on : (q : Spot) → NamesSpot (length handles) q → spot_renamed handles q ≡ spot_renamed (handles ++ added) q
  spot_on (InStack n) is = refl
  spot_on (InCell n o) is = ap (λ h. InCell h o) (sym (get_or_append_left handles added 0 n is))

  pub spot_named_on : (q : Spot) → NamesSpot (length handles) q → NamesSpot (length (handles ++ added)) q
  spot_named_on (InStack n) is = tt
  spot_named_on (InCell n o) is = let long = length-append handles added in omega (arith, is, long)

  pub return_on : (a b : Return) → ReturnAlike handles a b → ReturnAlike (handles ++ added) a b
  return_on a b is = record {
    at = is.at;
    from = is.from;
    to = is.to ∙ spot_on a.to is.names;
    of = is.of;
    names = spot_named_on a.to is.names;
  }

  module _ (table : Table) where
    pub held_on : (a b : Held) → HeldAlike table handles a b → HeldAlike table (handles ++ added) a b
    held_on a b is = record {
      of = is.of;
      words = is.words ∙ words_on handles added (kinds table a.of) a.words is.names;
      known = is.known;
      names = names_on handles added (kinds table a.of) a.words is.names;
    }

    pub frame_on : (a b : Frame) → FrameAlike table handles a b → FrameAlike table (handles ++ added) a b
    frame_on a b is = record {
      base = is.base;
      next = is.next;
      words = is.words;
      waits = paired_on (HeldAlike table handles) (HeldAlike table (handles ++ added)) held_on a.waits b.waits is.waits;
      returns = paired_on (ReturnAlike handles) (ReturnAlike (handles ++ added)) return_on a.returns b.returns is.returns;
    }

    pub frames_on : (all others : List Frame) → Paired (FrameAlike table handles) all others → Paired (FrameAlike table (handles ++ added)) all others
    frames_on = paired_on (FrameAlike table handles) (FrameAlike table (handles ++ added)) frame_on

-- ---- values that wait

module _ (table : Table) (handles : List ℕ) where
  abbrev AllHeld : List Held → List Held → Type 0
  AllHeld = Paired (HeldAlike table handles)

  pub held_words : (all others : List Held) → AllHeld all others
      → flat_map (λ (h : Held). h.words) others ≡ all_renamed handles (flat_map (λ (h : Held). kinds table h.of) all) (flat_map (λ (h : Held). h.words) all)
  held_words [] [] p = refl
  held_words [] (y ∷ ys) p = absurd p
  held_words (x ∷ xs) [] p = absurd p
  held_words (x ∷ xs) (y ∷ ys) p =
      ap (λ zs. zs ++ flat_map (λ (h : Held). h.words) ys) p.0.words
      ∙ (ap (λ zs. all_renamed handles (kinds table x.of) x.words ++ zs) (held_words xs ys p.1)
      ∙ sym (renamed_append handles (kinds table x.of) (flat_map (λ (h : Held). kinds table h.of) xs) x.words (flat_map (λ (h : Held). h.words) xs) p.0.known))

  pub held_names : (all others : List Held) → AllHeld all others
      → NameWords (length handles) (flat_map (λ (h : Held). kinds table h.of) all) (flat_map (λ (h : Held). h.words) all)
  held_names [] [] p = tt
  held_names [] (y ∷ ys) p = absurd p
  held_names (x ∷ xs) [] p = absurd p
  held_names (x ∷ xs) (y ∷ ys) p =
      names_append (length handles) (kinds table x.of) (flat_map (λ (h : Held). kinds table h.of) xs) x.words (flat_map (λ (h : Held). h.words) xs) p.0.known p.0.names (held_names xs ys p.1)
