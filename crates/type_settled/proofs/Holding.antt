-- Types that a type has in itself, at a depth of one more.
use Rattle.std.proofs.Common.{◌≡◌, refl, ℕ, suc, ◌+◌, Bool, true, false, ◌||◌, nat_eq, arith}
use Rattle.std.specs.Prelude.{slice_get}
use Rattle.type_definitions.specs.Types.{Table, base, info, shape_found}
use Rattle.type_definitions.specs.Declarations.{holds_parent, holds_shape}
use Rattle.type_settled.specs.Holding.{has, has_below}

or_assoc : (a b c : Bool) → ((a || b) || c) ≡ (a || (b || c))
or_assoc true b c = refl
or_assoc false b c = refl

pub has_none : (table : Table) (part n t : ℕ) → n ≡ 0 → has table part n t ≡ false
has_none table part n t is = rw is refl

pub has_more : (table : Table) (part n k t : ℕ) → n ≡ k + 1 → has table part n t ≡ (nat_eq (base table t) part || has_below table part k t)
has_more table part n k t is =
    let more : n ≡ suc k = omega (arith, is) in
    rw more (or_assoc (nat_eq (base table t) part) (holds_shape (has table part k) (shape_found (slice_get table t)))
    (holds_parent (has table part k) (info table t).parent))
