-- The order of positions is total, and tells any two of them apart.
use Rattle.std.proofs.Common.{◌≡◌, ◌⊎◌, inl, inr, ◌<◌, ℕ, refl, sym, ap, ◌∙◌}
use Rattle.std.specs.declared.cmp.Ordering.{Ordering}
use Rattle.std.specs.declared.cmp.Ordering.TheVariants.{Less, Equal, Greater}
use Rattle.std.specs.Ordering.{ordering_then, ordering_reverse, nat_cmp}
use Rattle.std.specs.Cmp.{IsTotalOrder, nat_cmp_total, on_total, then_total, tied_itself}
use Rattle.spark_base.specs.declared.position.Pos.{Pos}
use Rattle.spark_base.specs.contracts.position.PosOrd.TheImpl as pos_ord
use Rattle.spark_base.specs.Positions.{position_cmp, Precedes}
use Rattle.spark_base.proofs.Orders.{then_equal, then_less, nat_cmp-equal, nat_cmp-less, less-nat_cmp}

-- the flip, transitivity, and that equal positions are ordered alike
pub position_cmp_total : IsTotalOrder position_cmp
position_cmp_total =
    then_total (on_total (λ (p : Pos). p.file) nat_cmp_total)
    (then_total (on_total (λ (p : Pos). p.line) nat_cmp_total) (on_total (λ (p : Pos). p.column) nat_cmp_total))

-- the derived order of the program is this one
pub derived_position_cmp : (a b : Pos) → (pos_ord.ghosts).cmp a b ≡ position_cmp a b
derived_position_cmp a b = refl

pub position_cmp-self : (p : Pos) → position_cmp p p ≡ Equal
position_cmp-self p = tied_itself position_cmp_total p

pub position_cmp-equal : (a b : Pos) → position_cmp a b ≡ Equal → a ≡ b
position_cmp-equal a b e =
    let files = then_equal (nat_cmp a.file b.file) _ e in
    let lines = then_equal (nat_cmp a.line b.line) _ files.1 in
    let file = nat_cmp-equal a.file b.file files.0 in
    let line = nat_cmp-equal a.line b.line lines.0 in
    let column = nat_cmp-equal a.column b.column lines.1 in
    λ i. record { file = file i; line = line i; column = column i }

pub position_cmp-flip : (a b : Pos) → position_cmp a b ≡ ordering_reverse (position_cmp b a)
position_cmp-flip a b = position_cmp_total.antisymm a b

pub Precedes-trans : (a b c : Pos) → Precedes a b → Precedes b c → Precedes a c
Precedes-trans a b c = position_cmp_total.trans a b c

pub Precedes-irrefl : (p : Pos) → Precedes p p → ⊥
Precedes-irrefl p e = let same : Less ≡ Equal = sym e ∙ position_cmp-self p in cc

pub Precedes-asym : (a b : Pos) → Precedes a b → Precedes b a → ⊥
Precedes-asym a b e f = Precedes-irrefl a (Precedes-trans a b a e f)

-- of two positions one stands before the other, or they are the same
pub Precedes-cases : (a b : Pos) → Precedes a b ⊎ ((a ≡ b) ⊎ Precedes b a)
Precedes-cases a b = by (position_cmp a b) refl
  where
    by : (o : Ordering) → position_cmp a b ≡ o → Precedes a b ⊎ ((a ≡ b) ⊎ Precedes b a)
    by Less e = inl e
    by Equal e = inr (inl (position_cmp-equal a b e))
    by Greater e = inr (inr (position_cmp-flip b a ∙ ap ordering_reverse e))

-- ---- in terms of files, lines and columns

same_first : (x y : ℕ) (rest : Ordering) → x ≡ y → ordering_then (nat_cmp x y) rest ≡ rest
same_first x y rest e =
    ap (λ n. ordering_then (nat_cmp x n) rest) (sym e) ∙ ap (λ o. ordering_then o rest) (tied_itself nat_cmp_total x)

pub file-Precedes : (a b : Pos) → a.file < b.file → Precedes a b
file-Precedes a b l = ap (λ o. ordering_then o (ordering_then (nat_cmp a.line b.line) (nat_cmp a.column b.column))) (less-nat_cmp a.file b.file l)

pub line-Precedes : (a b : Pos) → a.file ≡ b.file → a.line < b.line → Precedes a b
line-Precedes a b file l =
    same_first a.file b.file _ file ∙ ap (λ o. ordering_then o (nat_cmp a.column b.column)) (less-nat_cmp a.line b.line l)

pub column-Precedes : (a b : Pos) → a.file ≡ b.file → a.line ≡ b.line → a.column < b.column → Precedes a b
column-Precedes a b file line l =
    same_first a.file b.file _ file ∙ same_first a.line b.line _ line ∙ less-nat_cmp a.column b.column l

pub Precedes-parts : (a b : Pos) → Precedes a b
    → (a.file < b.file) ⊎ ((a.file ≡ b.file) × ((a.line < b.line) ⊎ ((a.line ≡ b.line) × (a.column < b.column))))
Precedes-parts a b e = elim (then_less (nat_cmp a.file b.file) _ e) [
  | inl file ↦ inl (nat_cmp-less a.file b.file file)
  | inr later ↦ inr (
    nat_cmp-equal a.file b.file later.0,
    elim (then_less (nat_cmp a.line b.line) _ later.1) [
      | inl line ↦ inl (nat_cmp-less a.line b.line line)
      | inr last ↦ inr (nat_cmp-equal a.line b.line last.0, nat_cmp-less a.column b.column last.1)
    ],
  )
]
