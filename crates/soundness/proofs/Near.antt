-- Ways that begin near a frame: names of the frame do, and what begins with such a way.
use Rattle.std.proofs.Common.{ap, ◌∙◌, sym, subst, inl, inr, ℕ, List, [], ◌∷◌, if◌then◌else◌}
use Rattle.machine.specs.flow_paths.Objects.{Typing, is_package_object}
use Rattle.soundness.specs.OwnedWays.Ways.{Step, OfVariable, OfHand, Way, Object, Lost, Into, All, Under, Past, Named, along}
use Rattle.soundness.specs.Seen.{home, IsNear}
use Rattle.soundness.proofs.Contents.{bool_cases}

pub named_near : (s : Typing) (frame : ℕ) (w : Way) → Named (home s frame) w → IsNear frame w
named_near s frame (Object (OfVariable f x)) named = elim (bool_cases (is_package_object s x)) [
  | inl e ↦ inl (named ∙ ap (λ b. if b then 0 else frame) e)
  | inr e ↦ inr (named ∙ ap (λ b. if b then 0 else frame) e)
]
named_near s frame (Object (OfHand h)) named = tt
named_near s frame (Lost n) named = absurd named
named_near s frame (Into w i) named = named_near s frame w named
named_near s frame (All w) named = named_near s frame w named

-- both ways along what a way begins
pub near_under : (frame : ℕ) (t w : Way) → Under t w → IsNear frame t → IsNear frame w
near_under frame t (Object r) e near = subst (IsNear frame) e near
near_under frame t (Lost n) e near = subst (IsNear frame) e near
near_under frame t (Into w i) (inl e) near = subst (IsNear frame) e near
near_under frame t (Into w i) (inr u) near = near_under frame t w u near
near_under frame t (All w) (inl e) near = subst (IsNear frame) e near
near_under frame t (All w) (inr u) near = near_under frame t w u near

pub under_near : (frame : ℕ) (t w : Way) → Under t w → IsNear frame w → IsNear frame t
under_near frame t (Object r) e near = subst (IsNear frame) (sym e) near
under_near frame t (Lost n) e near = absurd near
under_near frame t (Into w i) (inl e) near = subst (IsNear frame) (sym e) near
under_near frame t (Into w i) (inr u) near = under_near frame t w u near
under_near frame t (All w) (inl e) near = subst (IsNear frame) (sym e) near
under_near frame t (All w) (inr u) near = under_near frame t w u near

pub past_near : (frame : ℕ) (t w : Way) → Past t w → IsNear frame w → IsNear frame t
past_near frame t (Object r) never near = absurd never
past_near frame t (Lost n) never near = absurd never
past_near frame t (Into w i) past near = past_near frame t w past near
past_near frame t (All w) under near = under_near frame t w under near

pub near_along : (frame : ℕ) (w : Way) (p : List Step) → IsNear frame w → IsNear frame (along w p)
near_along frame w [] near = near
near_along frame w (i ∷ p) near = near_along frame w p near
