use Rattle.bare_points.proofs.Steps.{more_room}
use Rattle.bare_points.proofs.layout.Layout.has_room_for_list.Goals as goal

pub returns-clause-room : goal.returns-clause-room
returns-clause-room c = (more_room _ _ _ _ c.args.ways.now _ _ c.requires.list c.requires.room c.requires.temporaries).0

pub returns-clause-temporaries : goal.returns-clause-temporaries
returns-clause-temporaries c = (more_room _ _ _ _ c.args.ways.now _ _ c.requires.list c.requires.room c.requires.temporaries).1
