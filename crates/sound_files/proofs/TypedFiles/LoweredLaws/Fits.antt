-- Expressions whose names have room and whose literals are words.
use Rattle.std.proofs.Common.{inl, inr, refl, ℕ, ◌≤◌, List}
use Rattle.machine.specs.spark_base.Lists.{Has}
use Rattle.soundness.proofs.Lists.{Has-append_left, Has-append_right}
use Rattle.machine.specs.typed_tree.Trees.{TypedTree, Literal, Name, Component, Designated, Element, Parens, Image, Unary, Binary, Short, IsNull, Aggregate, Alike, New, More}
use Rattle.settled_types.specs.OrderLaws.ScopeLaws.Code.{roots}
use Rattle.run_codes.specs.Lowered.{Site, max_position}
use Rattle.sound_files.specs.TypedFiles.LoweredLaws.Lowers.{HasRoom, literals}

unfoldable pub Fits : Site → TypedTree → Type 0
Fits c (Literal n) = n ≤ max_position
Fits c (Name p x steps t) = HasRoom c x × Fits c steps
Fits c (Component i rest) = Fits c rest
Fits c (Designated rest) = Fits c rest
Fits c (Element index low high rest) = Fits c index × Fits c rest
Fits c (Image t e) = Fits c e
Fits c (Parens e) = Fits c e
Fits c (Unary op e) = Fits c e
Fits c (Binary op a b) = Fits c a × Fits c b
Fits c (Short op p a q b) = Fits c a × Fits c b
Fits c (IsNull equal e) = Fits c e
Fits c (Aggregate t es) = Fits c es
Fits c (Alike t e) = Fits c e
Fits c (New t v) = Fits c v
Fits c (More e rest) = Fits c e × Fits c rest
Fits c e = Unit {0}

-- Each of some objects has room, and each of some positions is a word.
abbrev pub AllRoom : Site → List ℕ → Type 0
AllRoom c xs = (x : ℕ) → Has xs x → HasRoom c x

abbrev pub AllWords : List ℕ → Type 0
AllWords ns = (n : ℕ) → Has ns n → n ≤ max_position

pub fits : (c : Site) (e : TypedTree) → AllRoom c (roots e) → AllWords (literals e) → Fits c e
unfolding Fits roots literals
fits c (Literal n) room words = words n (inl refl)
fits c (Name p x steps t) room words = (room x (inl refl), fits c steps (λ y has. room y (inr has)) words)
fits c (Component i rest) room words = fits c rest room words
fits c (Designated rest) room words = fits c rest room words
fits c (Element index low high rest) room words = (
  fits c index (λ x has. room x (Has-append_left (roots index) (roots rest) x has)) (λ n has. words n (Has-append_left (literals index) (literals rest) n has)),
  fits c rest (λ x has. room x (Has-append_right (roots index) (roots rest) x has)) (λ n has. words n (Has-append_right (literals index) (literals rest) n has)),
)
fits c (Image t e) room words = fits c e room words
fits c (Parens e) room words = fits c e room words
fits c (Unary op e) room words = fits c e room words
fits c (Binary op a b) room words = (
  fits c a (λ x has. room x (Has-append_left (roots a) (roots b) x has)) (λ n has. words n (Has-append_left (literals a) (literals b) n has)),
  fits c b (λ x has. room x (Has-append_right (roots a) (roots b) x has)) (λ n has. words n (Has-append_right (literals a) (literals b) n has)),
)
fits c (Short op p a q b) room words = (
  fits c a (λ x has. room x (Has-append_left (roots a) (roots b) x has)) (λ n has. words n (Has-append_left (literals a) (literals b) n has)),
  fits c b (λ x has. room x (Has-append_right (roots a) (roots b) x has)) (λ n has. words n (Has-append_right (literals a) (literals b) n has)),
)
fits c (IsNull equal e) room words = fits c e room words
fits c (Aggregate t es) room words = fits c es room words
fits c (Alike t e) room words = fits c e room words
fits c (New t v) room words = fits c v room words
fits c (More e rest) room words = (
  fits c e (λ x has. room x (Has-append_left (roots e) (roots rest) x has)) (λ n has. words n (Has-append_left (literals e) (literals rest) n has)),
  fits c rest (λ x has. room x (Has-append_right (roots e) (roots rest) x has)) (λ n has. words n (Has-append_right (literals e) (literals rest) n has)),
)
fits c e room words = tt
