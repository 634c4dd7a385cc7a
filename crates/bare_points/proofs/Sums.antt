-- Sums of extents.
use Rattle.std.proofs.Common.{◌≡◌, ◌+◌, arith}
use Rattle.numbered_points.specs.Extents.{Extent, extent, nothing, both}

pub both_assoc : (a b c : Extent) → both (both a b) c ≡ both a (both b c)
both_assoc a b c =
    let own : a.own + b.own + c.own ≡ a.own + (b.own + c.own) = omega arith in
    let exits : a.exits + b.exits + c.exits ≡ a.exits + (b.exits + c.exits) = omega arith in
    let returns : a.returns + b.returns + c.returns ≡ a.returns + (b.returns + c.returns) = omega arith in
    let filled : a.filled + b.filled + c.filled ≡ a.filled + (b.filled + c.filled) = omega arith in
    λ i. extent (own i) (exits i) (returns i) (filled i)

pub both_none : (a : Extent) → both a nothing ≡ a
both_none a =
    let own : a.own + 0 ≡ a.own = omega arith in
    let exits : a.exits + 0 ≡ a.exits = omega arith in
    let returns : a.returns + 0 ≡ a.returns = omega arith in
    let filled : a.filled + 0 ≡ a.filled = omega arith in
    λ i. extent (own i) (exits i) (returns i) (filled i)

pub none_both : (a : Extent) → both nothing a ≡ a
none_both a =
    let own : 0 + a.own ≡ a.own = omega arith in
    let exits : 0 + a.exits ≡ a.exits = omega arith in
    let returns : 0 + a.returns ≡ a.returns = omega arith in
    let filled : 0 + a.filled ≡ a.filled = omega arith in
    λ i. extent (own i) (exits i) (returns i) (filled i)

pub ruleset sums = (both_assoc, both_none, none_both)
