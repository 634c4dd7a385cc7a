use Rattle.std.proofs.Common.{length}
use Rattle.name_resolve.proofs.learn.+add_named.Given as goal

abbrev pub decreases-add_named : goal.decreases-add_named
decreases-add_named l = length l.rest.now
