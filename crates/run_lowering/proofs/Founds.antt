-- Places that are found stay where nodes are added.
use Rattle.std.proofs.Common.{◌≡◌, refl, sym, ap, ◌∙◌, ℕ, ◌<◌, Bool, ◌&&◌, List, length, nat_lt, Option, Some, None, IsTrue, arith}
use Rattle.std.specs.Prelude.{ℤ, option_and_then}
use Rattle.code_rows.specs.declared.node.Node.{Node}
use Rattle.code_rows.specs.Rows.{code_at, Grew}
use Rattle.run_codes.specs.Codes.{Code, Behind}
use Rattle.type_definitions.specs.Types.{Table}
use Rattle.run_codes.specs.Lowered.{Lowered, element_of, whole_code}
use Rattle.run_lowering.specs.declared.found.Typed.{Typed}
use Rattle.run_lowering.specs.declared.found.Base.{Base}
use Rattle.run_lowering.specs.declared.found.Base.TheVariants as base
use Rattle.run_lowering.specs.declared.found.Found.{Found}
use Rattle.run_lowering.specs.Found.{index_of, place_in, placed, is_offset, index_there, base_there, is_there, lowered_in}

and_both : (a b : Bool) → IsTrue a → IsTrue b → IsTrue (a && b)
and_both a b p q = grind arith

and_first : (a b : Bool) → IsTrue (a && b) → IsTrue a
and_first a b p = grind arith

and_second : (a b : Bool) → IsTrue (a && b) → IsTrue b
and_second a b p = grind arith

below : (i n : ℕ) → IsTrue (nat_lt i n) → i < n
below i n p = grind arith

is_below_more : (i n m : ℕ) → i < m → IsTrue (nat_lt i m)
is_below_more i n m p = grind arith

kept_index : (a b : List Node) (i : Option ℕ) → Grew a b → IsTrue (index_there a i)
    → IsTrue (index_there b i) × (index_of b i ≡ index_of a i)
kept_index a b None g is = (refl, refl)
kept_index a b (Some i) g is =
    let lt : i < length a = below i (length a) (and_first (nat_lt i (length a)) (is_offset (code_at a i)) is) in
    let same : code_at b i ≡ code_at a i = g.same i lt in (
      and_both (nat_lt i (length b)) (is_offset (code_at b i)) (is_below_more i (length a) (length b) (omega (arith, lt, g.more)))
          (ap is_offset same ∙ and_second (nat_lt i (length a)) (is_offset (code_at a i)) is),
      same,
    )

kept_base : (a b : List Node) (x : Base) (at : ℕ) (i : Code) → Grew a b → IsTrue (base_there a x)
    → IsTrue (base_there b x) × (place_in b x at i ≡ place_in a x at i)
kept_base a b base.Frame at i g is = (refl, refl)
kept_base a b base.Packages at i g is = (refl, refl)
kept_base a b (base.Cell p) at i g is =
    let lt : p < length a = below p (length a) is in
    (is_below_more p (length a) (length b) (omega (arith, lt, g.more)), ap (λ c. Behind c at i) (g.same p lt))

pub kept_found : (a b : List Node) (f : Found) → Grew a b → IsTrue (is_there a f) → IsTrue (is_there b f)
kept_found a b f g is =
    let index = kept_index a b f.index g (and_second (base_there a f.base) (index_there a f.index) is) in
    let place = kept_base a b f.base f.at (index_of b f.index) g (and_first (base_there a f.base) (index_there a f.index) is) in
    and_both (base_there b f.base) (index_there b f.index) place.0 index.0

pub kept_placed : (a b : List Node) (f : Found) → Grew a b → IsTrue (is_there a f) → placed b f ≡ placed a f
kept_placed a b f g is =
    let index = kept_index a b f.index g (and_second (base_there a f.base) (index_there a f.index) is) in
    let place = kept_base a b f.base f.at (index_of b f.index) g (and_first (base_there a f.base) (index_there a f.index) is) in
    ap (λ p. record { place = p; of = f.of }) (place.1 ∙ ap (λ c. place_in a f.base f.at c) index.1)

-- The element that an index leads to, over the nodes that are there then.
pub indexed_is : (table : Table) (a b : List Node) (o : Option Lowered) (w : Typed) (f : Found) (low high : ℤ)
    → o ≡ Some (lowered_in b w) → placed b f ≡ placed a f
    → option_and_then (λ c. element_of table c low high (placed a f)) (option_and_then whole_code o)
    ≡ option_and_then (λ c. element_of table c low high (placed b f)) (whole_code (lowered_in b w))
indexed_is table a b o w f low high is same =
    ap (λ o. option_and_then (λ c. element_of table c low high (placed a f)) (option_and_then whole_code o)) is
    ∙ ap (λ p. option_and_then (λ c. element_of table c low high p) (whole_code (lowered_in b w))) (sym same)
