use Rattle.std.proofs.Common.{length}
use Rattle.name_resolve.proofs.sighting.+see_regions.Given as goal

abbrev pub decreases-see_regions : goal.decreases-see_regions
decreases-see_regions l = length l.around.now
