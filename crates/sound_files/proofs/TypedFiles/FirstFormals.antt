-- A list of formals begins with a formal, or it has none.
use Rattle.machine.specs.place_names.declared.act.Mode.{Mode}
use Rattle.machine.specs.resolved_tree.Trees.{Code, NoMore, More, Formals}
use Rattle.settled_types.specs.NamedFiles.Formals.{HasFirst}

pub on_first : (P : Code → Type 0) → ((d ids : Code) (m : Mode) (of more : Code) → P (More (Formals (More d ids) m of) more)) → P NoMore → (formals : Code) → HasFirst formals
    → P formals
on_first P some none (More (Formals (More d ids) m of) more) first = some d ids m of more
on_first P some none (More (Formals ids m of) more) first = absurd first
on_first P some none (More group more) first = absurd first
on_first P some none NoMore first = none
on_first P some none formals first = absurd first
