use Rattle.std.proofs.Common.{◌≡◌, ℕ, length, map, get_or, refl, ap, ◌∙◌, arith}
use Rattle.type_table.specs.Sizes.{no_size}
use Rattle.type_sizes.specs.Sizes.{sized, shape_size}
use Rattle.type_sizes.proofs.Sized.{sized_first, sized_whole, round_small, round_step}
use Rattle.type_sizes.proofs.rounds.rounds.Goals as goal

pub rounds-init : goal.rounds-init
rounds-init c t = ap (λ xs. get_or xs t no_size) c.new-sizes.ensures.items ∙ sized_first c.args.table.now t

pub round-requires : goal.round-requires
round-requires c t lt =
    let now : (u : ℕ) → get_or c.deref.result.now u no_size ≡ sized c.rounds._round c.args.table.now u =
    λ u. ap (λ xs. get_or xs u no_size) c.deref.ensures.value ∙ c.rounds.invariant u in
    round_small c.args.table.now c.deref.result.now c.rounds._round c.requires (omega (arith, c.rounds-test.true)) now t lt

pub rounds-preserved : goal.rounds-preserved
rounds-preserved c =
    let is = c.in_ok-sizes.ensures ∙ ap (λ xs. map (λ i. shape_size xs i.shape) c.args.table.now) c.deref.ensures.value in
    round_step c.args.table.now c.rounds.sizes.items c.in_ok-sizes.sizes.items c.rounds._round _ c.rounds.invariant is refl

pub returns : goal.returns
returns c t =
    let e : c.rounds._round ≡ length c.args.table.now = omega (arith, c.rounds-test.false, c.rounds.auto._round-end) in
    c.rounds.invariant t ∙ ap (λ n. sized n c.args.table.now t) e ∙ sized_whole c.args.table.now t
