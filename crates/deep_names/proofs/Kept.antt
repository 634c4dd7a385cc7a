-- Programs as they are kept: each subprogram with the number of its body.
use Rattle.std.proofs.Common.{◌≡◌, ℕ, List, [], ◌∷◌, map, refl, sym, ap, ◌∙◌, Option}
use Rattle.spark_base.specs.declared.position.Pos.{Pos}
use Rattle.type_definitions.specs.Types.{Table}
use Rattle.typed_tree.specs.Nodes.{TypedNodes, typed_code_at}
use Rattle.typed_tree.specs.Programs.{TypedSub, TypedProgram}
use Rattle.flow_paths.specs.Objects.{Typing}
use Rattle.flow_paths.specs.Laid.{typing_of, flow_program}
use Rattle.flow_paths.specs.Limits.{deep_name}
use Rattle.deep_names.specs.Bodies.{IsProgram}

kept_code : {A : Type 0} (rows : TypedNodes) (sub : A → TypedSub) (number : A → ℕ) (kept : List A)
    → ((k : A) → (sub k).body ≡ typed_code_at rows (number k))
    → map (λ (t : TypedSub). t.body) (map sub kept) ≡ map (typed_code_at rows) (map number kept)
kept_code rows sub number [] each = refl
kept_code rows sub number (k ∷ kept) each = λ j. each k j ∷ kept_code rows sub number kept each j

-- `sub` and `number` give the subprogram that a kept one stands for, and the number of its body.
pub kept_program : {A : Type 0} (rows : TypedNodes) (s : Typing) (table : Table) (program : TypedProgram)
    → (sub : A → TypedSub) (number : A → ℕ) (kept : List A) (bodies : List ℕ)
    → ((k : A) → (sub k).body ≡ typed_code_at rows (number k))
    → map sub kept ≡ program.subs → bodies ≡ map number kept → s ≡ typing_of table program
    → IsProgram rows s bodies program
kept_program rows s table program sub number kept bodies each subs numbers known = record {
  code = ap (map (λ (t : TypedSub). t.body)) (sym subs) ∙ kept_code rows sub number kept each ∙ ap (map (typed_code_at rows)) (sym numbers);
  known = ap (λ (t : Typing). typing_of t.table program) known ∙ sym known;
}

-- The first deep name, told by the table itself.
pub kept_name : (s : Typing) (table : Table) (program : TypedProgram) (found : Option Pos)
    → s ≡ typing_of table program → found ≡ deep_name (flow_program s.table program) → found ≡ deep_name (flow_program table program)
kept_name s table program found known is = is ∙ ap (λ (t : Typing). deep_name (flow_program t.table program)) known
