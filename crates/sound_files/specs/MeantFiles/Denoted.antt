-- Code whose names denote declarations as asked, and which declares such objects.
use Rattle.std.specs.Prelude.{ℕ}
use Rattle.machine.specs.resolved_tree.Trees.{Code, Bounds, Constrained, Objects, Numbers, SubBody, Package, PackageBody, Assign, Call, Exit, Return, If, Branch, Case, When, Loop, While, For, Block, More}
use Rattle.machine.specs.type_definitions.Gathered.{declared_number}
use Rattle.sound_files.specs.SeenFiles.Uses.{Uses}
use Rattle.sound_files.specs.SeenFiles.Fits.{all_numbers, AreObjects}

abbrev pub RangeDenoted : (ℕ → Type 0) → Code → Type 0
RangeDenoted asked (Bounds low high) = Uses asked low × Uses asked high
RangeDenoted asked (Constrained m low high) = Uses asked low × Uses asked high
RangeDenoted asked range = Unit {0}

unfoldable pub AreDenoted : (ℕ → Type 0) → Code → Type 0
AreDenoted asked (Objects ids constant i v) = AreObjects asked (all_numbers ids) × Uses asked v
AreDenoted asked (Numbers ids e) = AreObjects asked (all_numbers ids) × Uses asked e
AreDenoted asked (SubBody front items stmts end) = AreDenoted asked items × AreDenoted asked stmts
AreDenoted asked (Package d visible hidden) = AreDenoted asked visible × AreDenoted asked hidden
AreDenoted asked (PackageBody d parts) = AreDenoted asked parts
AreDenoted asked (Assign target e) = Uses asked target × Uses asked e
AreDenoted asked (Call name) = Uses asked name
AreDenoted asked (Exit p when) = Uses asked when
AreDenoted asked (Return p v) = Uses asked v
AreDenoted asked (If p branches otherwise) = AreDenoted asked branches × AreDenoted asked otherwise
AreDenoted asked (Branch p e stmts) = Uses asked e × AreDenoted asked stmts
AreDenoted asked (Case p e whens) = Uses asked e × AreDenoted asked whens
AreDenoted asked (When choices stmts) = AreDenoted asked stmts
AreDenoted asked (Loop p stmts) = AreDenoted asked stmts
AreDenoted asked (While p e stmts) = Uses asked e × AreDenoted asked stmts
AreDenoted asked (For p d reversed range stmts) = asked (declared_number d) × RangeDenoted asked range × AreDenoted asked stmts
AreDenoted asked (Block p items stmts end) = AreDenoted asked items × AreDenoted asked stmts
AreDenoted asked (More a rest) = AreDenoted asked a × AreDenoted asked rest
AreDenoted asked code = Unit {0}
