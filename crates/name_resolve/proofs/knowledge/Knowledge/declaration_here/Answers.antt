use Rattle.std.proofs.Common.{◌≡◌, ap, length, arith}
use Rattle.std.proofs.lemmas.List.{length-map}
use Rattle.name_resolve.proofs.knowledge.Knowledge.declaration_here.Goals as goal

pub returns : goal.returns
returns c now s =
    let number : c.len.result ≡ length now.declared = omega (arith, c.len.ensures, ap length s.declarations.all, length-map now.declared (λ entry. entry.1)) in
    let region = c.here-inner.ensures.region _ _ _ _ s.regions in
    let open_part = c.here-inner.ensures.part _ _ _ _ s.regions in
    λ j. record { number = number j; pos = c.args.pos; form = c.args.form; region = region j; part = open_part j; own_region = s.regions.count j }
