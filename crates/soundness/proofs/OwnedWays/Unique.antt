-- A way reaches one location, and a location is reached by one way.
use Rattle.std.proofs.Common.{◌≡◌, sym, ap, ◌∙◌, subst, true}
use Rattle.std.proofs.lemmas.Bool.{false≢true}
use Rattle.soundness.specs.OwnedWays.Ways.{Loc, OfRoot, OfCell, Inside, Way, Object, Lost, Into, All, Held, View, Reaches, Owned}
use Rattle.soundness.proofs.Constructors.{is_inside_loc, is_of_cell_loc}

pub one_location : (s : View) (w : Way) (l k : Loc) → Reaches s w l → Reaches s w k → l ≡ k
one_location s (Object x) l k a b = a ∙ sym b
one_location s (Lost n) l k a b = a.1 ∙ sym b.1
one_location s (Into w i) l k (m, a, e) (m', b, f) = e ∙ ap (λ x. Inside x i) (one_location s w m m' a b) ∙ sym f
one_location s (All w) l k (m, n, a, h, e) (m', n', b, h', f) =
    let same = one_location s w m m' a b in
    let held : s.word m' ≡ Held n = subst (λ x. s.word x ≡ Held n) same h in
    let number : n ≡ n' = cc in
    e ∙ ap OfCell number ∙ sym f

pub one_way : (s : View) → Owned s → (w v : Way) (l : Loc) → Reaches s w l → Reaches s v l → w ≡ v
one_way s g (Object x) (Object y) l a b = let is : OfRoot x ≡ OfRoot y = sym a ∙ b in cc
one_way s g (Object x) (Lost n) l a b = let is : OfRoot x ≡ OfCell n = sym a ∙ b.1 in absurd (false≢true (ap is_of_cell_loc is))
one_way s g (Object x) (Into v i) l a (m, b, e) = let is : OfRoot x ≡ Inside m i = sym a ∙ e in absurd (false≢true (ap is_inside_loc is))
one_way s g (Object x) (All v) l a (m, n, b, h, e) = let is : OfRoot x ≡ OfCell n = sym a ∙ e in absurd (false≢true (ap is_of_cell_loc is))
one_way s g (Lost n) (Object x) l a b = let is : OfRoot x ≡ OfCell n = sym b ∙ a.1 in absurd (false≢true (ap is_of_cell_loc is))
one_way s g (Lost n) (Lost k) l a b = let is : OfCell n ≡ OfCell k = sym a.1 ∙ b.1 in cc
one_way s g (Lost n) (Into v i) l a (m, b, e) = let is : OfCell n ≡ Inside m i = sym a.1 ∙ e in absurd (false≢true (ap is_inside_loc is))
one_way s g (Lost n) (All v) l a (m, k, b, h, e) =
    let is : OfCell n ≡ OfCell k = sym a.1 ∙ e in
    let same : n ≡ k = cc in
    let lost : s.leaked k ≡ true = subst (λ x. s.leaked x ≡ true) same a.0 in
    let kept = g.kept m k h in cc
one_way s g (Into w i) (Object x) l (m, a, e) b = let is : OfRoot x ≡ Inside m i = sym b ∙ e in absurd (false≢true (ap is_inside_loc is))
one_way s g (Into w i) (Lost n) l (m, a, e) b = let is : OfCell n ≡ Inside m i = sym b.1 ∙ e in absurd (false≢true (ap is_inside_loc is))
one_way s g (Into w i) (Into v j) l (m, a, e) (m', b, f) =
    let is : Inside m i ≡ Inside m' j = sym e ∙ f in
    let place : m ≡ m' = cc in
    let step : i ≡ j = cc in
    let same = one_way s g w v m' (subst (Reaches s w) place a) b in
    ap (λ x. Into x i) same ∙ ap (Into v) step
one_way s g (Into w i) (All v) l (m, a, e) (m', n, b, h, f) = let is : Inside m i ≡ OfCell n = sym e ∙ f in absurd (false≢true (ap is_of_cell_loc is))
one_way s g (All w) (Object x) l (m, n, a, h, e) b = let is : OfRoot x ≡ OfCell n = sym b ∙ e in absurd (false≢true (ap is_of_cell_loc is))
one_way s g (All w) (Lost k) l (m, n, a, h, e) b =
    let is : OfCell k ≡ OfCell n = sym b.1 ∙ e in
    let same : k ≡ n = cc in
    let lost : s.leaked n ≡ true = subst (λ x. s.leaked x ≡ true) same b.0 in
    let kept = g.kept m n h in cc
one_way s g (All w) (Into v i) l (m, n, a, h, e) (m', b, f) = let is : OfCell n ≡ Inside m' i = sym e ∙ f in absurd (false≢true (ap is_inside_loc is))
one_way s g (All w) (All v) l (m, n, a, h, e) (m', n', b, h', f) =
    let is : OfCell n ≡ OfCell n' = sym e ∙ f in
    let number : n ≡ n' = cc in
    let held : s.word m' ≡ Held n = subst (λ x. s.word m' ≡ Held x) (sym number) h' in
    let place = g.unique m m' n h held in
    ap All (one_way s g w v m' (subst (Reaches s w) place a) b)
