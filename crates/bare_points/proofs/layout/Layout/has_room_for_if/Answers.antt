use Rattle.bare_points.proofs.Steps.{if_room}
use Rattle.bare_points.proofs.layout.Layout.has_room_for_if.Goals as goal

pub returns-clause-room : goal.returns-clause-room
returns-clause-room c = (if_room _ _ _ _ c.args.ways.now _ _ c.requires.list c.requires.room c.requires.temporaries).0

pub returns-clause-temporaries : goal.returns-clause-temporaries
returns-clause-temporaries c = (if_room _ _ _ _ c.args.ways.now _ _ c.requires.list c.requires.room c.requires.temporaries).1
