-- Each view of a frame has a root in the text, and what has the first formal for its one root sees what
-- that sees, or goes on from there.
use Rattle.std.proofs.Common.{◌≡◌, refl, sym, ap, ◌∙◌, subst, ◌⊎◌, inl, inr, ℕ, Bool, true, false, not, ◌&&◌, ◌||◌, List, Some, IsTrue, Option}
use Rattle.std.proofs.lemmas.Bool.{false≢true, true≢false}
use Rattle.machine.specs.place_names.declared.act.Act.{Act}
use Rattle.machine.specs.typed_tree.declared.object.ObjectKind.{ObjectKind}
use Rattle.machine.specs.typed_tree.declared.object.ObjectKind.TheVariants as object_kind
use Rattle.machine.specs.flow_paths.Objects.{Typing, object_at, is_formal_kind, is_variable, is_borrowing, is_observing, view_of}
use Rattle.machine.specs.flow_paths.Views.{Roots, itself, borrows, observes, IsOnlyRoot, holds_loans}
use Rattle.soundness.specs.OwnedWays.Ways.{Way, Under}
use Rattle.soundness.specs.OwnedLoans.Views.{Views, expand}
use Rattle.soundness.proofs.OwnedLoans.Ways.{under_on, on_under, lifted_way}
use Rattle.soundness.specs.Seen.{is_view_formal}
use Rattle.soundness.proofs.Contents.{bool_cases}
use Rattle.soundness.specs.ViewedSoundness.Holds.{is_view, is_bundle, GoesBy}
use Rattle.viewed_steps.specs.Traversals.{IsSourceIn, IsRootedIn, AreRooted}
use Rattle.soundness.proofs.Parted.{by_either}

-- what is no view holds no loans
no_loans : (v b o f : Bool) → (b || o) || f ≡ false → not ((v && b) || (v && o)) ≡ true
no_loans true false false f e = refl
no_loans true true o f e = absurd (true≢false e)
no_loans true false true f e = absurd (true≢false e)
no_loans false b o f e = refl

is_true : (b : Bool) → b ≡ true → IsTrue b
is_true true e = refl
is_true false e = absurd (false≢true e)

module _ (s : Typing) (acts : List Act) (f : ℕ) (first : Option Way) where
  -- an object that is no view is its own root
  pub own_root : (x : ℕ) → is_view s x ≡ false → Roots s acts x x
  own_root x plain =
      itself x (is_true (not (holds_loans s x))
      (no_loans (is_variable (object_at s x).kind) (is_borrowing (view_of s x)) (is_observing (view_of s x)) (is_view_formal s x) plain))

  -- so is a formal
  pub formal_root : (x : ℕ) → is_variable (object_at s x).kind ≡ false → Roots s acts x x
  formal_root x formal =
      itself x (is_true (not (holds_loans s x)) (unheld (is_variable (object_at s x).kind) (is_borrowing (view_of s x)) (is_observing (view_of s x)) formal))
    where
      unheld : (v b o : Bool) → v ≡ false → not ((v && b) || (v && o)) ≡ true
      unheld true b o e = absurd (true≢false e)
      unheld false b o e = refl

  module _ (view : (is_view s f ≡ true) × (is_bundle s f ≡ false)) where
    plain_apart : (r : ℕ) → is_view s r ≡ false → r ≡ f → ⊥
    plain_apart r plain same = (let no : false ≡ true = sym plain ∙ ap (is_view s) same ∙ view.0 in absurd (false≢true no))

    bundle_apart : (r : ℕ) → is_bundle s r ≡ true → r ≡ f → ⊥
    bundle_apart r bundle same = (let no : true ≡ false = sym bundle ∙ ap (is_bundle s) same ∙ view.1 in absurd (true≢false no))

    -- a formal with parts is its own root
    bundle_root : (x : ℕ) → is_bundle s x ≡ true → Roots s acts x x
    bundle_root x bundle = formal_root x (by_kind (object_at s x).kind (first_true _ _ (first_true _ _ (first_true _ _ bundle))))
      where
        first_true : (a b : Bool) → a && b ≡ true → a ≡ true
        first_true true b e = refl
        first_true false b e = absurd (false≢true e)

        by_kind : (k : ObjectKind) → is_formal_kind k ≡ true → is_variable k ≡ false
        by_kind object_kind.Formal is = refl
        by_kind k is = absurd (false≢true is)

    module _ (before later : Views) where
      -- from what its source has
      from_source : (x y : ℕ) (w : Way) → ((r : ℕ) → Roots s acts y r → Roots s acts x r)
          → (is_bundle s y ≡ false → is_view s y ≡ true → (k : Way) × (before.way y ≡ Some k) × Under k w) → AreRooted s acts f first before → IsRootedIn s acts f first x w
      from_source x y w roots under rooted = elim (bool_cases (is_view s y)) [
        | inr plain ↦ (y, roots y (own_root y plain), λ same. absurd (plain_apart y plain same))
        | inl is ↦ elim (bool_cases (is_bundle s y)) [
          | inl bundle ↦ (y, roots y (bundle_root y bundle), λ same. absurd (bundle_apart y bundle same))
          | inr bare ↦ (
              let from = under bare is in
              let old = rooted y from.0 from.1 in (
                old.0,
                roots old.0 old.1,
                λ same. (let it = old.2 same in (it.0, it.1, under_on it.0 from.0 w it.2 from.2)),
              ))
        ]
      ]

      by_source : (x y : ℕ) (w : Way) → IsSourceIn acts x y → (is_bundle s y ≡ false → is_view s y ≡ true → (k : Way) × (before.way y ≡ Some k) × Under k w) → AreRooted s acts f first before
          → IsRootedIn s acts f first x w
      by_source x y w (inl same) under rooted = from_source x y w (λ r root. subst (λ z. Roots s acts z r) same root) under rooted
      by_source x y w (inr (m, root, inl has)) under rooted =
          from_source x y w (λ r there. borrows x r m has (subst (λ z. Roots s acts z r) (sym root) there)) under rooted
      by_source x y w (inr (m, root, inr (b, has))) under rooted =
          from_source x y w (λ r there. observes x r m b has (subst (λ z. Roots s acts z r) (sym root) there)) under rooted

      -- Views that have their ways, or got them from sources in the text, are rooted.
      pub rooted_on : ((x : ℕ) (w : Way) → later.way x ≡ Some w → (before.way x ≡ Some w)
          ⊎ ((y : ℕ) × IsSourceIn acts x y × (is_bundle s y ≡ false → is_view s y ≡ true → (k : Way) × (before.way y ≡ Some k) × Under k w)))
          → AreRooted s acts f first before → AreRooted s acts f first later
      rooted_on turned rooted x w has = by_either (turned x w has) (λ same. (rooted x w same)) (λ (y, source, under). (by_source x y w source under rooted))

    -- What has the first formal for its one root goes on from what that sees.
    pub goes_on_from : (v : Views) → AreRooted s acts f first v → (y : ℕ) → IsOnlyRoot s acts y f → (k : Way) → GoesBy s v y k
        → (w : Way) × (first ≡ Some w) × Under w (expand v k)
    goes_on_from v rooted y only k goes = by_either (bool_cases (is_view s y))
        (λ is. (by_either (bool_cases (is_bundle s y))
        (λ bundle. (absurd (bundle_apart y bundle (only.1 y (bundle_root y bundle)))))
        (λ bare. (
        let l = goes.0 bare is in
        let old = rooted l.0.object l.0.way l.0.has in
        let same : old.0 ≡ f = only.1 old.0 (subst (λ z. Roots s acts z old.0) l.1 old.1) in
        let it = old.2 same in
        (it.0, it.1, under_on it.0 l.0.way (expand v k) it.2 (subst (Under l.0.way) (sym (lifted_way v k l.0)) (on_under l.0.way l.0.rest)))))))
        (λ plain. (absurd (plain_apart y plain (only.1 y (own_root y plain)))))
