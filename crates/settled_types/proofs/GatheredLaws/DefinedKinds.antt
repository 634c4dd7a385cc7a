-- After a turn over the text each full type has the kind of its definition.
use Rattle.std.proofs.Common.{◌≡◌, inl, ℕ, ◌+◌, ◌≤◌, true, List, refl, ap, ◌∙◌, arith, Some}
use Rattle.std.specs.Prelude.{slice_get}
use Rattle.machine.specs.spark_base.declared.position.Pos.{Pos}
use Rattle.machine.specs.spark_base.Lists.{Has}
use Rattle.machine.specs.resolved_tree.Trees.{More, Code, Enumeration, Record, Array, Access, TypeDecl, SubBody, Package, PackageBody, If, Branch, Case, When, Loop, While, For, Block}
use Rattle.machine.specs.type_definitions.declared.table.Info.{Info}
use Rattle.machine.specs.type_definitions.declared.table.Known.{Known}
use Rattle.machine.specs.type_definitions.declared.table.Entry.TheVariants as entry
use Rattle.machine.specs.type_definitions.declared.table.Shape.TheVariants as shape
use Rattle.machine.specs.type_definitions.Types.{Table, shape_found}
use Rattle.machine.specs.type_definitions.Names.{Context}
use Rattle.machine.specs.type_definitions.Gathered.{gather, defined, with_literals, with_definition, with_entry, with_type, full_info, declared_number, in_hidden}
use Rattle.settled_types.proofs.Cases.{definition_end, on_enumeration}
use Rattle.settled_types.specs.Wholes.{written}
use Rattle.settled_types.specs.Orderly.{Past, with_defined, definition_marks, within, past_after, Orderly}
use Rattle.settled_types.specs.Stamped.{IsFixed}
use Rattle.settled_types.proofs.Rows.{slice_in}
use Rattle.settled_types.proofs.Gathered.{without_it}
use Rattle.settled_types.specs.GatheredLaws.DefinitionKinds.{kind, kind_defined, Kinds}
use Rattle.settled_types.proofs.GatheredLaws.Nodes.{Node, stays, fixes, list_node, if_node, block_node, inside, body_node, branch_node, case_node, when_node, loop_node, while_node, with_parameter, for_node, in_front, package_node, package_body_node}

pub defined_kind : (c : Context) (def : Code) → kind (defined c def) ≡ kind_defined def
defined_kind c (Enumeration literals) = refl
defined_kind c (Record components) = refl
defined_kind c (Array range m) = refl
defined_kind c (Access m) = refl
defined_kind c def = refl

literals_table : (t n : ℕ) (ids : Code) (c : Context) → (with_literals t n ids c).known.table ≡ c.known.table
literals_table t n (More d rest) c = literals_table t (n + 1) rest (with_entry (declared_number d) (entry.Literal t n) c)
literals_table t n ids c = refl

-- Literals aren't rows.
pub definition_table : (t : ℕ) (def : Code) (c : Context) → (with_definition t def c).known.table ≡ c.known.table
definition_table t = on_enumeration (λ def. (c : Context) → (with_definition t def c).known.table ≡ c.known.table)
    (λ literals c.
    literals_table t 0 literals c)
    (λ def other c. rw (definition_end t def c other) (refl))

module _ (final : Known) (count : ℕ) (all : List ℕ) (start : Table)
    (unlike : (d of : ℕ) → 15 ≤ d → Has all d → written start d ≡ shape.Same of → ⊥) (T : Table) where
  abbrev At : Code → Past → Context → Type 0
  At = Node final count all start unlike

  -- the table has what is fixed
  abbrev Until : Past → Table → Type 0
  Until q table = (t : ℕ) → IsFixed q t → slice_get T t ≡ slice_get table t

  earlier : (code : Code) (p : Past) (c : Context) → At code p c → Until (past_after code p) (gather code c).known.table → Until p c.known.table
  earlier code p c node until t is =
      until t (fixes final count all start unlike code p c node t is) ∙ stays final count all start unlike code p c node t is

  full_kind : (d def : Code) (end : Pos) (p : Past) (c : Context) → At (TypeDecl d def end) p c
      → Until (past_after (TypeDecl d def end) p) (gather (TypeDecl d def end) c).known.table → kind (written T (declared_number d)) ≡ kind_defined def
  unfolding gather Orderly past_after
  full_kind d def end p c node until =
      let n : ℕ = declared_number d in
      let i : Info = full_info c n def end in
      let long = node.rows.long in
      let less = node.orderly.0.1 in
      let fixed : IsFixed (with_defined n (definition_marks def p.marks) p) n
      = (inl refl, (λ is. (without_it final count all start unlike n n p.private is).1 refl), (λ is. (without_it final count all start unlike n n p.incomplete is).1 refl)) in
      let row : slice_get T n ≡ Some i
      = until n fixed ∙ ap (λ (xs : Table). slice_get xs n) (definition_table n def (with_type n i c)) ∙ slice_in c.known.table n i (omega (arith, long, less)) in
      ap (λ o. kind (shape_found o)) row ∙ defined_kind c def

  pub kinds : (code : Code) (p : Past) (c : Context) → At code p c → Until (past_after code p) (gather code c).known.table → Kinds T code
  unfolding gather past_after Kinds
  kinds (TypeDecl d def end) p c node until = full_kind d def end p c node until
  kinds (SubBody front items stmts end) p c node until =
      let two = body_node final count all start unlike front items stmts end p c node in (
        kinds items p (inside final count all start unlike front c) two.first
            (earlier stmts (past_after items p) (gather items (inside final count all start unlike front c)) two.second until),
        kinds stmts (past_after items p) (gather items (inside final count all start unlike front c)) two.second until,
      )
  kinds (Package d visible hidden) p c node until =
      let two = package_node final count all start unlike d visible hidden p c node in
      let inner : Context = in_front final count all start unlike d c in
      let q : Past = past_after visible (within true p) in
      let middle : Context = in_hidden (declared_number d) (gather visible inner) in (
        kinds visible (within true p) inner two.first (λ t is. earlier hidden (within true q) middle two.second (λ t is. until t is) t is),
        kinds hidden (within true q) middle two.second (λ t is. until t is),
      )
  kinds (PackageBody d parts) p c node until =
      kinds parts (within true p) (in_hidden (declared_number d) c) (package_body_node final count all start unlike d parts p c node) (λ t is. until t is)
  kinds (If at a b) p c node until =
      let two = if_node final count all start unlike at a b p c node in
      (kinds a p c two.first (earlier b (past_after a p) (gather a c) two.second until), kinds b (past_after a p) (gather a c) two.second until)
  kinds (Branch at e a) p c node until = kinds a p c (branch_node final count all start unlike at e a p c node) until
  kinds (Case at e a) p c node until = kinds a p c (case_node final count all start unlike at e a p c node) until
  kinds (When choices a) p c node until = kinds a p c (when_node final count all start unlike choices a p c node) until
  kinds (Loop at a) p c node until = kinds a p c (loop_node final count all start unlike at a p c node) until
  kinds (While at e a) p c node until = kinds a p c (while_node final count all start unlike at e a p c node) until
  kinds (For at d reversed range a) p c node until =
      kinds a p (with_parameter final count all start unlike d range c) (for_node final count all start unlike at d reversed range a p c node) until
  kinds (Block at a b end) p c node until =
      let two = block_node final count all start unlike at end a b p c node in
      (kinds a p c two.first (earlier b (past_after a p) (gather a c) two.second until), kinds b (past_after a p) (gather a c) two.second until)
  kinds (More a b) p c node until =
      let two = list_node final count all start unlike a b p c node in
      (kinds a p c two.first (earlier b (past_after a p) (gather a c) two.second until), kinds b (past_after a p) (gather a c) two.second until)
  kinds code p c node until = tt
