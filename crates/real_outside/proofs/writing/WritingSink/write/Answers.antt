use Rattle.real_outside.proofs.Parts.{Comes-part}
use Rattle.real_outside.proofs.writing.WritingSink.write.Goals as goal

pub parts-preserved : goal.parts-preserved
parts-preserved g c = (Comes-part _ _ _ _ c.parts.rest.now c.in-Ok.count c.parts.invariant.0 c.in-Ok.ensures.bytes, c.parts.invariant.1)
