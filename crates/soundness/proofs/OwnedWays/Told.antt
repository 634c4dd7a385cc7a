-- What a fact calls moved is gone: so an excused leak check can't fail.
use Rattle.std.proofs.Common.{◌≡◌, sym, ap, ◌∙◌, subst, ◌⊎◌, inl, inr, List}
use Rattle.soundness.specs.OwnedWays.Ways.{Step, Loc, Way, Object, Lost, Into, All, Gone, View, part, along, Below, Reaches, IsRooted, Under, Told}
use Rattle.soundness.proofs.OwnedWays.Locations.{under_along, under_itself, reaches_along}
use Rattle.soundness.proofs.OwnedWays.Unique.{one_location, one_way}
use Rattle.soundness.proofs.OwnedWays.Moving.{Given, owner_before, owned_after, target_there, source_there}

off_target : (s t : View) (f k : Way) (from to : Loc) → Given s t f k from to → (w : Way) (l : Loc) → (Under k w → ⊥) → Reaches t w l → Below to l → ⊥
off_target s t f k from to g w l none r b =
    none (subst (Under k) (sym (one_way t (owned_after s t f k from to g) w (along k b.0) l r
    (subst (Reaches t (along k b.0)) (sym b.1) (reaches_along t k to b.0 (target_there s t f k from to g))))) (under_along k k b.0 (under_itself k)))

reached_before : (s t : View) (f k : Way) (from to : Loc) → Given s t f k from to → (w : Way) (l : Loc) → IsRooted w → (Under k w → ⊥)
    → Reaches t w l → Reaches s w l
reached_before s t f k from to g (Object x) l n none r = r
reached_before s t f k from to g (Lost x) l n none r = absurd n
reached_before s t f k from to g (Into w i) l n none (m, r, e) = (m, reached_before s t f k from to g w m n (λ u. none (inr u)) r, e)
reached_before s t f k from to g (All w) l n none (m, c, r, h, e) = elim (owner_before s t from to g.move m c h) [
  | inl x ↦ absurd (off_target s t f k from to g w m (λ u. none (inr u)) r (x.0, x.1))
  | inr y ↦ (m, c, reached_before s t f k from to g w m n (λ u. none (inr u)) r, y.word, e)
]

pub told_after : (s t : View) (f k : Way) (from to : Loc) (moved moved' : Way → Type 0) → ((w : Way) → moved w → IsRooted w) → Given s t f k from to
    → Told s moved → ((v : Way) → Under f v → moved v → ⊥)
    → ((w : Way) → moved' w → (moved w × (Under k w → ⊥)) ⊎ ((p : List Step) × (w ≡ along f p) × (t.word (part from p) ≡ Gone)))
    → Told t moved'
told_after s t f k from to moved moved' rooted g told clean only w l m r = elim (only w m) [
  | inr x ↦ (
      let here = subst (λ z. Reaches t z l) x.1 r in
      let there = reaches_along t f from x.0 (source_there s t f k from to g) in
      ap t.word (one_location t (along f x.0) l (part from x.0) here there) ∙ x.2)
  | inl x ↦ (
      let old = reached_before s t f k from to g w l (rooted w x.0) x.1 r in
      g.move.off l (off_target s t f k from to g w l x.1 r)
      (λ b. clean w (subst (Under f) (sym (one_way s g.owned w (along f b.0) l old
      (subst (Reaches s (along f b.0)) (sym b.1) (reaches_along s f from b.0 g.source)))) (under_along f f b.0 (under_itself f))) x.0)
      ∙ told w l x.0 old)
]
