use Rattle.std.proofs.Common.{◌*◌, ◌+◌, length}
use Rattle.name_resolve.proofs.rules.+following.Given as goal

abbrev pub decreases-follow : goal.decreases-follow
decreases-follow l = 2 * length l.rest.now + 1

abbrev pub decreases-go_on : goal.decreases-go_on
decreases-go_on l = 2 * length l.rest.now
