-- Subprograms that were made.
use Rattle.std.specs.Prelude.{◌≡◌, ◌<◌, List, map, length}
use Rattle.std.specs.List.{All as Each}
use Rattle.typed_tree.specs.Nodes.{TypedNodes, typed_code_at}
use Rattle.typed_tree.specs.Programs.{TypedSub}
use Rattle.typed_statements.specs.declared.subs.Subprogram.{Subprogram}

-- The body of a subprogram stands in rows.
abbrev pub sub_at : TypedNodes → Subprogram → TypedSub
sub_at rows b = record {
  pos = b.pos;
  end = b.end;
  formals = b.formals;
  result = b.result;
  body = typed_code_at rows b.body;
}

abbrev pub HoldsSub : TypedNodes → Subprogram → TypedSub → Type 0
HoldsSub rows b t = (b.body < length rows.1) × (sub_at rows b ≡ t)

abbrev pub HoldsSubs : TypedNodes → List Subprogram → List TypedSub → Type 0
HoldsSubs rows bodies subs = Each (λ b. b.body < length rows.1) bodies × (map (sub_at rows) bodies ≡ subs)
