-- A piece of the text of a program in order, where a turn over the text meets it, and the pieces in it.
use Rattle.std.proofs.Common.{◌≡◌, ℕ, ◌≤◌, true, List, refl, ◌∙◌}
use Rattle.std.specs.Prelude.{slice_get}
use Rattle.machine.specs.spark_base.Lists.{Has}
use Rattle.machine.specs.resolved_tree.Trees.{More, Code, SubBody, Package, PackageBody, If, Branch, Case, When, Loop, While, For, Block}
use Rattle.machine.specs.type_definitions.declared.table.Known.{Known}
use Rattle.machine.specs.type_definitions.declared.table.Entry.{Entry}
use Rattle.machine.specs.type_definitions.declared.table.Entry.TheVariants as entry
use Rattle.machine.specs.type_definitions.declared.table.Kind.TheVariants as kind
use Rattle.machine.specs.type_definitions.declared.table.Shape.TheVariants as shape
use Rattle.machine.specs.type_definitions.Types.{Table}
use Rattle.machine.specs.type_definitions.Entries.{entry_of}
use Rattle.machine.specs.type_definitions.Names.{Context}
use Rattle.machine.specs.type_definitions.Gathered.{gather, declared_number, in_subprogram, in_visible, in_hidden, with_body_front, with_entry, is_subprogram, front_number, plain_object, parameter_type}
use Rattle.settled_types.specs.Wholes.{written}
use Rattle.settled_types.specs.Orderly.{Past, within, past_after, Orderly}
use Rattle.settled_types.specs.Stamped.{Opens, IsFixed, AreRows, LeadsTo}
use Rattle.settled_types.proofs.Homes.{AtHome, homes, body_home}
use Rattle.settled_types.proofs.Turns.{Turn, within_turn, entry_turn, body_turn}
use Rattle.settled_types.proofs.Gathered.{gathered}

-- `all` has the numbers of all types of the program that are completed later, and `start` is the table
-- before the turn.
module _ (final : Known) (count : ℕ) (all : List ℕ) (start : Table)
    (unlike : (d of : ℕ) → 15 ≤ d → Has all d → written start d ≡ shape.Same of → ⊥) where
  pub record Node (code : Code) (p : Past) (c : Context) : Type 0 where
    pub orderly : Orderly count p code
    pub opens : Opens final code
    pub home : AtHome p c
    pub within_all : (d : ℕ) → Has (past_after code p).awaited d → Has all d
    pub rows : AreRows count start p c.known

  pub turn : (code : Code) (p : Past) (c : Context) → Node code p c → Turn final count all start p c.known (past_after code p) (gather code c).known
  turn code p c node = gathered final count all start unlike code p c node.orderly node.opens node.home

  pub rows_after : (code : Code) (p : Past) (c : Context) → Node code p c → AreRows count start (past_after code p) (gather code c).known
  rows_after code p c node = ((turn code p c node).goes node.within_all node.rows).rows

  -- what is fixed before stays up to the end
  pub stays : (code : Code) (p : Past) (c : Context) → Node code p c → (t : ℕ) → IsFixed p t
      → slice_get (gather code c).known.table t ≡ slice_get c.known.table t
  stays code p c node = ((turn code p c node).goes node.within_all node.rows).stays

  pub fixes : (code : Code) (p : Past) (c : Context) → Node code p c → (t : ℕ) → IsFixed p t → IsFixed (past_after code p) t
  fixes code p c node = (turn code p c node).fixes

  -- so what leads on from there leads on from here
  pub leads_before : (code : Code) (p : Past) (c : Context) → Node code p c → LeadsTo final (past_after code p) (gather code c).known
      → LeadsTo final p c.known
  leads_before code p c node later = record {
    keeps = λ v is. later.keeps v (((turn code p c node).goes node.within_all node.rows).keeps v is);
    fixed = λ t is. later.fixed t (fixes code p c node t is) ∙ stays code p c node t is;
  }

  -- ---- two pieces in a row

  pub record Two (a b : Code) (p : Past) (c : Context) : Type 0 where
    pub first : Node a p c
    pub second : Node b (past_after a p) (gather a c)

  two : (a b : Code) (p : Past) (c : Context) → Orderly count p a → Orderly count (past_after a p) b → Opens final a → Opens final b → AtHome p c
      → ((d : ℕ) → Has (past_after b (past_after a p)).awaited d → Has all d) → AreRows count start p c.known → Two a b p c
  two a b p c orderly more opens others home within_all rows =
      let q : Past = past_after a p in
      let middle : Context = gather a c in
      let on : Turn final count all start q middle.known (past_after b q) (gather b middle).known
      = gathered final count all start unlike b q middle more others (homes a p c home) in
      let one : Node a p c = record { orderly = orderly; opens = opens; home = home; within_all = λ d is. within_all d (on.awaits d is); rows = rows } in
      record {
        first = one;
        second = record { orderly = more; opens = others; home = homes a p c home; within_all = within_all; rows = rows_after a p c one };
      }

  pub list_node : (a b : Code) (p : Past) (c : Context) → Node (More a b) p c → Two a b p c
  unfolding gather Orderly Opens past_after
  list_node a b p c n = two a b p c n.orderly.0 n.orderly.1 n.opens.0 n.opens.1 n.home n.within_all n.rows

  pub if_node : (at : _) (a b : Code) (p : Past) (c : Context) → Node (If at a b) p c → Two a b p c
  unfolding gather Orderly Opens past_after
  if_node at a b p c n = two a b p c n.orderly.0 n.orderly.1 n.opens.0 n.opens.1 n.home n.within_all n.rows

  pub block_node : (at end : _) (a b : Code) (p : Past) (c : Context) → Node (Block at a b end) p c → Two a b p c
  unfolding gather Orderly Opens past_after
  block_node at end a b p c n = two a b p c n.orderly.0 n.orderly.1 n.opens.0 n.opens.1 n.home n.within_all n.rows

  -- what a body stands in
  abbrev pub inside : Code → Context → Context
  inside front c = in_subprogram front (with_body_front front c)

  pub body_node : (front a b : Code) (end : _) (p : Past) (c : Context) → Node (SubBody front a b end) p c → Two a b p (inside front c)
  unfolding gather Orderly Opens past_after
  body_node front a b end p c n =
      let q : Past = past_after a p in
      let inner : Context = inside front c in
      let home : AtHome p inner = body_home front p c n.home in
      let one : Turn final count all start p inner.known q (gather a inner).known = gathered final count all start unlike a p inner n.orderly.1.0 n.opens.0 home in
      let other : Turn final count all start q (gather a inner).known (past_after b q) (gather b (gather a inner)).known
      = gathered final count all start unlike b q (gather a inner) n.orderly.1.1 n.opens.1 (homes a p inner home) in
      two a b p inner n.orderly.1.0 n.orderly.1.1 n.opens.0 n.opens.1 home n.within_all
      ((body_turn final count all start unlike (is_subprogram (entry_of c.known (front_number front))) front p c n.orderly.0).goes
      (λ d is. n.within_all d (other.awaits d (one.awaits d is))) n.rows).rows

  -- ---- one piece in another one

  pub branch_node : (at e : _) (a : Code) (p : Past) (c : Context) → Node (Branch at e a) p c → Node a p c
  unfolding gather Orderly Opens past_after
  branch_node at e a p c n = record { orderly = n.orderly; opens = n.opens; home = n.home; within_all = n.within_all; rows = n.rows }

  pub case_node : (at e : _) (a : Code) (p : Past) (c : Context) → Node (Case at e a) p c → Node a p c
  unfolding gather Orderly Opens past_after
  case_node at e a p c n = record { orderly = n.orderly; opens = n.opens; home = n.home; within_all = n.within_all; rows = n.rows }

  pub when_node : (choices a : Code) (p : Past) (c : Context) → Node (When choices a) p c → Node a p c
  unfolding gather Orderly Opens past_after
  when_node choices a p c n = record { orderly = n.orderly; opens = n.opens; home = n.home; within_all = n.within_all; rows = n.rows }

  pub loop_node : (at : _) (a : Code) (p : Past) (c : Context) → Node (Loop at a) p c → Node a p c
  unfolding gather Orderly Opens past_after
  loop_node at a p c n = record { orderly = n.orderly; opens = n.opens; home = n.home; within_all = n.within_all; rows = n.rows }

  pub while_node : (at e : _) (a : Code) (p : Past) (c : Context) → Node (While at e a) p c → Node a p c
  unfolding gather Orderly Opens past_after
  while_node at e a p c n = record { orderly = n.orderly; opens = n.opens; home = n.home; within_all = n.within_all; rows = n.rows }

  -- a loop over a range declares its parameter
  abbrev pub with_parameter : Code → Code → Context → Context
  with_parameter d range c = with_entry (declared_number d) (entry.Object (plain_object (parameter_type c range) kind.Parameter)) c

  pub for_node : (at : _) (d : Code) (reversed : _) (range a : Code) (p : Past) (c : Context) → Node (For at d reversed range a) p c → Node a p (with_parameter d range c)
  unfolding gather Orderly Opens past_after
  for_node at d reversed range a p c n =
      let inner : Context = with_parameter d range c in
      let o : Entry = entry.Object (plain_object (parameter_type c range) kind.Parameter) in
      let one : Turn final count all start p inner.known (past_after a p) (gather a inner).known = gathered final count all start unlike a p inner n.orderly.1 n.opens n.home in
      record {
        orderly = n.orderly.1;
        opens = n.opens;
        home = n.home;
        within_all = n.within_all;
        rows = ((entry_turn final count all start unlike (declared_number d) o p c.known n.orderly.0 refl).goes (λ d is. n.within_all d (one.awaits d is)) n.rows).rows;
      }

  -- ---- packages

  rows_within : (in_package : _) (p : Past) (known : Known) → ((d : ℕ) → Has p.awaited d → Has all d) → AreRows count start p known
      → AreRows count start (within in_package p) known
  rows_within in_package p known within_all rows = ((within_turn final count all start unlike in_package p known).goes within_all rows).rows

  abbrev pub in_front : Code → Context → Context
  in_front d c = in_visible (declared_number d) (with_entry (declared_number d) entry.Package c)

  pub record Halves (d a b : Code) (p : Past) (c : Context) : Type 0 where
    pub first : Node a (within true p) (in_front d c)
    pub second : Node b (within true (past_after a (within true p))) (in_hidden (declared_number d) (gather a (in_front d c)))

  pub package_node : (d a b : Code) (p : Past) (c : Context) → Node (Package d a b) p c → Halves d a b p c
  unfolding gather Orderly Opens past_after
  package_node d a b p c n =
      let inner : Context = in_front d c in
      let p1 : Past = within true p in
      let q : Past = past_after a p1 in
      let q1 : Past = within true q in
      let middle : Context = in_hidden (declared_number d) (gather a inner) in
      let one : Turn final count all start p1 inner.known q (gather a inner).known = gathered final count all start unlike a p1 inner n.orderly.1.0 n.opens.0 (λ is. refl) in
      let other : Turn final count all start q1 middle.known (past_after b q1) (gather b middle).known
      = gathered final count all start unlike b q1 middle n.orderly.1.1 n.opens.1 (λ is. refl) in
      let all_first : (d : ℕ) → Has q.awaited d → Has all d = λ d is. n.within_all d (other.awaits d is) in
      let all_start : (d : ℕ) → Has p.awaited d → Has all d = λ d is. all_first d (one.awaits d is) in
      let front : Node a p1 inner = record {
        orderly = n.orderly.1.0;
        opens = n.opens.0;
        home = λ is. refl;
        within_all = all_first;
        rows = rows_within true p inner.known all_start
            ((entry_turn final count all start unlike (declared_number d) entry.Package p c.known n.orderly.0 refl).goes all_start n.rows).rows;
      } in
      record {
        first = front;
        second = record {
          orderly = n.orderly.1.1;
          opens = n.opens.1;
          home = λ is. refl;
          within_all = n.within_all;
          rows = rows_within true q middle.known all_first (rows_after a p1 inner front);
        };
      }

  pub package_body_node : (d a : Code) (p : Past) (c : Context) → Node (PackageBody d a) p c → Node a (within true p) (in_hidden (declared_number d) c)
  unfolding gather Orderly Opens past_after
  package_body_node d a p c n =
      let inner : Context = in_hidden (declared_number d) c in
      let p1 : Past = within true p in
      let one : Turn final count all start p1 inner.known (past_after a p1) (gather a inner).known = gathered final count all start unlike a p1 inner n.orderly n.opens (λ is. refl) in
      record {
        orderly = n.orderly;
        opens = n.opens;
        home = λ is. refl;
        within_all = n.within_all;
        rows = rows_within true p c.known (λ d is. n.within_all d (one.awaits d is)) n.rows;
      }
