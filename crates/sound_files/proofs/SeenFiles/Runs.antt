-- What lists of events do to what is in scope, one after the other.
use Rattle.std.proofs.Common.{◌≡◌, ℕ, Bool, true, false, not, ◌&&◌, List, [], ◌∷◌, ◌++◌, length, refl, sym, ap, ◌∙◌, subst, append_assoc, Some, None, true≢false}
use Rattle.std.specs.Prelude.{slice_get, unwrap_or}
use Rattle.std.specs.List.{flat_map}
use Rattle.machine.specs.spark_base.Lists.{Has}
use Rattle.ada_tree.specs.declared.identifier.Identifier.{Identifier}
use Rattle.name_events.specs.declared.event.Event.{Event}
use Rattle.name_events.specs.declared.event.Event.TheVariants as e
use Rattle.name_events.specs.declared.event.FoldedIdentifier.{FoldedIdentifier}
use Rattle.name_events.specs.declared.declaration.DeclarationForm.{DeclarationForm}
use Rattle.name_events.specs.Laws.{is_mention}
use Rattle.name_events.specs.Declarations.{Entry, is_package_form}
use Rattle.name_events.specs.ExpressionOutline.{declares, folded_identifier}
use Rattle.name_events.specs.Known.{Known}
use Rattle.name_events.specs.Completions.{completed_by}
use Rattle.name_events.specs.KnownBehind.{known_behind, known_behind_all, behind_declaration}
use Rattle.name_events.specs.Identified.{completed_or_next}
use Rattle.expression_lowering.specs.LoweredExpressions.{Numbers, number_of}
use Rattle.sound_files.specs.SeenFiles.Uses.{name_number, AreAllowed}
use Rattle.sound_files.specs.SeenFiles.Fits.{IsKept}
use Rattle.sound_files.specs.SeenFiles.Reached.{is_object_form, is_object, IsObjectIn, IsAt, IsSince, AreTold}
use Rattle.sound_files.proofs.SeenFiles.Expressions.{both_so, and_so, all_mention, Speaks}
use Rattle.sound_files.proofs.SeenFiles.Steps.{at_more, since_self, since_then, Both, same_at, completes_nothing, other_declared, object_at, ends_at, outer_ends_at, opens_at, closes_at}

-- This holds, and is known after events.
pub record IsRun (one : Type 0) (now after : Known) (scope waiting : List ℕ) : Type 0 where
  pub is : one
  pub at : IsAt after scope waiting
  pub since : IsSince now after

run_of : (now after : Known) (scope waiting : List ℕ) → Both now after scope waiting → IsRun (Unit {0}) now after scope waiting
run_of now after scope waiting both = record { is = tt; at = both.0; since = both.1 }

pub behind_both : (xs ys : List Event) (now : Known) → known_behind_all now (xs ++ ys) ≡ known_behind_all (known_behind_all now xs) ys
behind_both [] ys now = refl
behind_both (x ∷ rest) ys now = behind_both rest ys (known_behind now x)

-- Events that declare no object and no package, and open and close no region.
abbrev pub is_calm : Event → Bool
is_calm (e.UnitBegins body_of) = false
is_calm e.RegionOpens = false
is_calm (e.PackageBodyOpens id) = false
is_calm e.PrivatePartBegins = false
is_calm e.RegionCloses = false
is_calm (e.Declares new id) = not (is_object_form new) && not (is_package_form new)
is_calm _ = true

abbrev pub all_calm : List Event → Bool
all_calm [] = true
all_calm (x ∷ rest) = is_calm x && all_calm rest

pub calm_both : (xs ys : List Event) → all_calm xs ≡ true → all_calm ys ≡ true → all_calm (xs ++ ys) ≡ true
calm_both [] ys a b = b
calm_both (x ∷ rest) ys a b =
    let s = both_so (is_calm x) (all_calm rest) a in
    and_so (is_calm x) (all_calm (rest ++ ys)) s.0 (calm_both rest ys s.1 b)

pub calm_each : {A : Type 0} (f : A → List Event) → ((x : A) → all_calm (f x) ≡ true) → (xs : List A) → all_calm (flat_map f xs) ≡ true
calm_each f one [] = refl
calm_each f one (x ∷ rest) = calm_both (f x) (flat_map f rest) (one x) (calm_each f one rest)

pub mention_calm : (xs : List Event) → all_mention xs ≡ true → all_calm xs ≡ true
mention_calm [] a = refl
mention_calm (x ∷ rest) a =
    let s = both_so (is_mention x) (all_mention rest) a in
    and_so (is_calm x) (all_calm rest) (one x s.0) (mention_calm rest s.1)
  where
    one : (x : Event) → is_mention x ≡ true → is_calm x ≡ true
    one (e.Mentions c name) a = refl
    one x a = absurd (true≢false (sym a))

-- Each statement of what a list does is over the same text.
module _ (numbers : Numbers) (whole : Known) where
  pub told_both : (xs ys : List Event) (now : Known) → AreTold numbers whole now (xs ++ ys)
      → AreTold numbers whole now xs × AreTold numbers whole (known_behind_all now xs) ys
  told_both [] ys now told = (tt, told)
  told_both (x ∷ rest) ys now told = let r = told_both rest ys (known_behind now x) told.1 in ((told.0, r.0), r.1)

  -- What these events do, from one scope to another one.
  abbrev pub Goes : Type 0 → List ℕ → List ℕ → List ℕ → List ℕ → List Event → Type 0
  Goes one scope waiting scope_then waiting_then xs =
      (now : Known) → IsAt now scope waiting → AreTold numbers whole now xs
      → IsRun one now (known_behind_all now xs) scope_then waiting_then

  pub goes_then : (one two : Type 0) (s w t v u z : List ℕ) (xs ys : List Event) → Goes one s w t v xs → Goes two t v u z ys
      → Goes (one × two) s w u z (xs ++ ys)
  goes_then one two s w t v u z xs ys first second now at told =
      let n = told_both xs ys now told in
      let middle : Known = known_behind_all now xs in
      let a = first now at n.0 in
      let b = second middle a.at n.1 in
      subst (λ after. IsRun (one × two) now after u z) (sym (behind_both xs ys now))
      (record { is = (a.is, b.is); at = b.at; since = since_then now middle (known_behind_all middle ys) a.since b.since })

  pub goes_so : (one two : Type 0) (s w t v : List ℕ) (xs : List Event) → (one → two) → Goes one s w t v xs → Goes two s w t v xs
  goes_so one two s w t v xs f goes now at told =
      let a = goes now at told in
      record { is = f a.is; at = a.at; since = a.since }

  -- the same with more in scope after it
  pub goes_more : (one : Type 0) (s w t v u z : List ℕ) (xs : List Event) → ((n : ℕ) → Has t n → Has u n) → ((n : ℕ) → Has v n → Has z n)
      → Goes one s w t v xs → Goes one s w u z xs
  goes_more one s w t v u z xs more waits goes now at told =
      let a = goes now at told in
      record { is = a.is; at = at_more (known_behind_all now xs) t u v z more waits a.at; since = a.since }

  pub goes_nothing : (s w : List ℕ) → Goes (Unit {0}) s w s w []
  goes_nothing s w now at told = record { is = tt; at = at; since = since_self now }

  -- what is said of the first part alone, or of the second
  pub goes_first : (one : Type 0) (s w t v u z : List ℕ) (xs ys : List Event) → Goes one s w t v xs → Goes (Unit {0}) t v u z ys
      → Goes one s w u z (xs ++ ys)
  goes_first one s w t v u z xs ys first second =
      goes_so (one × Unit {0}) one s w u z (xs ++ ys) (λ p. p.0) (goes_then one (Unit {0}) s w t v u z xs ys first second)

  pub goes_second : (two : Type 0) (s w t v u z : List ℕ) (xs ys : List Event) → Goes (Unit {0}) s w t v xs → Goes two t v u z ys
      → Goes two s w u z (xs ++ ys)
  goes_second two s w t v u z xs ys first second =
      goes_so (Unit {0} × two) two s w u z (xs ++ ys) (λ p. p.1) (goes_then (Unit {0}) two s w t v u z xs ys first second)

  -- ---- names that are used

  pub goes_mentions : (s w : List ℕ) (xs : List Event) → all_mention xs ≡ true
      → Goes (AreAllowed numbers (IsKept (IsObjectIn whole) s) xs) s w s w xs
  unfolding AreAllowed known_behind
  goes_mentions s w [] mentions now at told = record { is = tt; at = at; since = since_self now }
  goes_mentions s w (e.Mentions c name ∷ rest) mentions now at told =
      let after : Known = known_behind now (e.Mentions c name) in
      let one = same_at now after s w refl refl refl refl at in
      let more = goes_mentions s w rest mentions after one.0 told.1 in
      record {
        is = ((λ is. kept is), more.is);
        at = more.at;
        since = since_then now after (known_behind_all after rest) one.1 more.since;
      }
    where
      unsome : {x y : Entry} → Some x ≡ Some y → x ≡ y
      unsome {x = x} e = ap (λ o. unwrap_or o x) e

      kept : IsObjectIn whole (name_number numbers name) → Has s (name_number numbers name)
      kept is =
          let t = told.0 in
          let stands : slice_get whole.declared (name_number numbers name) ≡ Some t.0
          = subst (λ n. slice_get whole.declared n ≡ Some t.0) (sym t.3) t.4 in
          let same : is.0 ≡ t.0 = unsome (sym is.1 ∙ stands) in
          subst (Has s) (sym t.3) (at.seen t.0 t.1 (subst (λ y. is_object y ≡ true) same is.2) t.2)
  goes_mentions s w (x ∷ rest) mentions now at told = absurd (true≢false (sym mentions))

  pub goes_speaks : (one : Type 0) (s w : List ℕ) (xs : List Event) → Speaks numbers (IsKept (IsObjectIn whole) s) xs one → Goes one s w s w xs
  goes_speaks one s w xs speaks =
      goes_so (AreAllowed numbers (IsKept (IsObjectIn whole) s) xs) one s w s w xs speaks.1 (goes_mentions s w xs speaks.0)

  -- ---- declarations of other things

  calm_run : (s : List ℕ) (x : Event) → is_calm x ≡ true → (now : Known) → IsAt now s [] → Both now (known_behind now x) s []
  unfolding known_behind
  calm_run s (e.UnitHasWith name) calm now at = same_at now (known_behind now (e.UnitHasWith name)) s [] refl refl refl refl at
  calm_run s (e.Mentions c name) calm now at = same_at now (known_behind now (e.Mentions c name)) s [] refl refl refl refl at
  calm_run s e.UseClauseEnds calm now at = same_at now (known_behind now e.UseClauseEnds) s [] refl refl refl refl at
  calm_run s (e.Declares new id) calm now at =
      let p = both_so (not (is_object_form new)) (not (is_package_form new)) calm in
      other_declared now new id s [] (flip (is_package_form new) p.1) (flip (is_object_form new) p.0) at
    where
      flip : (b : Bool) → not b ≡ true → b ≡ false
      flip true is = absurd (true≢false (sym is))
      flip false is = refl
  calm_run s e.DeclarationsEnd calm now at = ends_at now s [] at
  calm_run s e.OuterDeclarationsEnd calm now at = outer_ends_at now s at
  calm_run s e.RecordBegins calm now at = same_at now (known_behind now e.RecordBegins) s [] refl refl refl refl at
  calm_run s (e.DeclaresComponent id) calm now at = same_at now (known_behind now (e.DeclaresComponent id)) s [] refl refl refl refl at
  calm_run s (e.EndsWithName id expected) calm now at = same_at now (known_behind now (e.EndsWithName id expected)) s [] refl refl refl refl at
  calm_run s x calm now at = absurd (true≢false (sym calm))

  pub goes_calm : (s : List ℕ) (xs : List Event) → all_calm xs ≡ true → Goes (Unit {0}) s [] s [] xs
  goes_calm s [] calm now at told = goes_nothing s [] now at told
  goes_calm s (x ∷ rest) calm now at told =
      let c = both_so (is_calm x) (all_calm rest) calm in
      let after : Known = known_behind now x in
      let one = calm_run s x c.0 now at in
      let more = goes_calm s rest c.1 after one.0 told.1 in
      record { is = tt; at = more.at; since = since_then now after (known_behind_all after rest) one.1 more.since }

  -- ---- declarations of objects

  pub goes_declares : (new : DeclarationForm) → is_object_form new ≡ true → (id : Identifier) (s w : List ℕ)
      → Goes (IsObjectIn whole (number_of numbers id)) s w s (number_of numbers id ∷ w) (declares new id ∷ [])
  unfolding known_behind
  goes_declares new is id s w now at told =
      let f : FoldedIdentifier = folded_identifier id in
      let nothing : completed_by now new f.name ≡ None = completes_nothing now new f.name is in
      let number : number_of numbers id ≡ length now.declared = told.0.0 ∙ ap (completed_or_next now) nothing in
      let both : Both now (behind_declaration now new f (completed_by now new f.name)) s (number_of numbers id ∷ w)
      = subst (λ o. Both now (behind_declaration now new f o) s (number_of numbers id ∷ w)) (sym nothing)
      (subst (λ n. Both now (behind_declaration now new f None) s (n ∷ w)) (sym number) (object_at now new f s w is at)) in
      record { is = told.0.1 is; at = both.0; since = both.1 }

  pub goes_ends : (s w : List ℕ) → Goes (Unit {0}) s w (w ++ s) [] (e.DeclarationsEnd ∷ [])
  goes_ends s w now at told = run_of now (known_behind now e.DeclarationsEnd) (w ++ s) [] (ends_at now s w at)

  -- ---- regions

  pub goes_region : (one : Type 0) (s t : List ℕ) (xs : List Event) → Goes one s [] t [] xs
      → Goes one s [] s [] (e.RegionOpens ∷ (xs ++ e.RegionCloses ∷ []))
  goes_region one s t xs goes now at told =
      let inner : Known = known_behind now e.RegionOpens in
      let n = told_both xs (e.RegionCloses ∷ []) inner told.1 in
      let a = goes inner (opens_at now s at) n.0 in
      let middle : Known = known_behind_all inner xs in
      let both = closes_at now middle s t at a.at a.since in
      subst (λ after. IsRun one now after s []) (sym (behind_both xs (e.RegionCloses ∷ []) inner))
      (record { is = a.is; at = both.0; since = both.1 })

  pub goes_regions : (one two : Type 0) (s t v : List ℕ) (xs ys : List Event) → Goes one s [] t [] xs → Goes two t [] v [] ys
      → Goes (one × two) s [] s [] (e.RegionOpens ∷ (xs ++ (ys ++ e.RegionCloses ∷ [])))
  goes_regions one two s t v xs ys first second =
      subst (λ zs. Goes (one × two) s [] s [] (e.RegionOpens ∷ zs)) (append_assoc xs ys (e.RegionCloses ∷ []))
      (goes_region (one × two) s v (xs ++ ys) (goes_then one two s [] t [] v [] xs ys first second))
