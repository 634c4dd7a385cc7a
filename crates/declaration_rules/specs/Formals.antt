-- A formal of a body, as it is compared with that of the declaration.
use Rattle.std.specs.Prelude.{false}
use Rattle.place_names.specs.declared.act.Mode.{Mode}
use Rattle.resolved_tree.specs.Trees.{Code}
use Rattle.type_definitions.specs.declared.table.FormalInfo.{FormalInfo}
use Rattle.type_definitions.specs.declared.table.Known.{Known}
use Rattle.type_definitions.specs.Gathered.{declared_number, declared_text, indicated, indicates_type}

abbrev pub formal_of : Known → Mode → Code → Code → FormalInfo
formal_of known m of d = record {
  name = declared_text d;
  mode = m;
  of = indicated known (declared_number d) of;
  typed = indicates_type known of;
  traversed = false;
}
