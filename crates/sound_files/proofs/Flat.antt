-- Code as the grammar has it has packages as units alone.
use Rattle.std.proofs.Common.{◌≡◌, Bool, true, false, ◌&&◌, ◌||◌, refl, sym, true≢false}
use Rattle.machine.specs.resolved_tree.Trees.{Code, Incomplete, Private, TypeDecl, Subtype, ConstrainedSubtype, Objects, Numbers, Instance, SubDecl, SubBody, Package, PackageBody, NoMore}
use Rattle.settled_types.specs.OrderLaws.Written.{is_declaration, are_declarations, are_statements, is_body, are_parts, is_procedure, is_unit}
use Rattle.settled_types.specs.SteadyTypes.Flat.{IsFlat, IsFlatUnit}
use Rattle.settled_types.proofs.OrderLaws.Grammar.{on_declarations, on_parts, StatementLaws, on_statements}

first : (a b : Bool) → a && b ≡ true → a ≡ true
first true b is = refl
first false b is = absurd (true≢false (sym is))

second : (a b : Bool) → a && b ≡ true → b ≡ true
second true b is = is
second false b is = absurd (true≢false (sym is))

never : {A : Type 0} → false ≡ true → A
never is = absurd (true≢false (sym is))

declaration_flat : (code : Code) → is_declaration code ≡ true → IsFlat code
unfolding IsFlat
declaration_flat (Incomplete d) is = tt
declaration_flat (Private d) is = tt
declaration_flat (TypeDecl d def end) is = tt
declaration_flat (Subtype d m) is = tt
declaration_flat (ConstrainedSubtype d m low high) is = tt
declaration_flat (Objects ids constant i v) is = tt
declaration_flat (Numbers ids e) is = tt
declaration_flat (Instance d m args) is = tt
declaration_flat (SubDecl front) is = tt
declaration_flat NoMore is = tt
declaration_flat _ is = never is

declarations_flat : (code : Code) → are_declarations code ≡ true → IsFlat code
unfolding IsFlat
declarations_flat = on_declarations IsFlat (λ a rest one more. (declaration_flat a one, more)) tt

flat_laws : StatementLaws (λ looped code. IsFlat code) (λ looped code. IsFlat code) (λ looped code. IsFlat code) (λ looped code. IsFlat code)
unfolding IsFlat
flat_laws = record {
  list = λ looped a rest one more. (one, more);
  none = λ looped. tt;
  skip = λ looped p. tt;
  assign = λ looped target v. tt;
  call = λ looped name. tt;
  exit = λ looped p when e. tt;
  return = λ looped p v. tt;
  choice = λ looped p branches otherwise one more. (one, more);
  cases = λ looped p v whens one. one;
  loop = λ looped p stmts one. one;
  while = λ looped p v stmts one. one;
  for = λ looped p d reversed range stmts one. one;
  block = λ looped p items stmts end declares one. (declarations_flat items declares, one);
  branches = λ looped a rest one more. (one, more);
  no_branches = λ looped. tt;
  branch = λ looped p v stmts one. one;
  alternatives = λ looped a rest one more. (one, more);
  no_alternatives = λ looped. tt;
  alternative = λ looped choices stmts one. one;
  no_alternative = λ looped. tt;
}

statements_flat : (looped : Bool) (code : Code) → are_statements looped code ≡ true → IsFlat code
statements_flat = on_statements flat_laws

body_flat : (code : Code) → is_body code ≡ true → IsFlat code
unfolding IsFlat
body_flat (SubBody front items stmts end) is =
    (declarations_flat items (first (are_declarations items) (are_statements false stmts) is), statements_flat false stmts (second (are_declarations items) (are_statements false stmts) is))
body_flat _ is = never is

either_flat : (a : Code) (b : Bool) → is_declaration a ≡ b → b || is_body a ≡ true → IsFlat a
either_flat a true declared is = declaration_flat a declared
either_flat a false declared is = body_flat a is

parts_flat : (code : Code) → are_parts code ≡ true → IsFlat code
unfolding IsFlat
parts_flat = on_parts IsFlat (λ a rest one more. (either_flat a (is_declaration a) refl one, more)) tt

pub unit_flat : (u : Code) → is_unit u ≡ true → IsFlatUnit u
unfolding IsFlat
unit_flat (SubBody front items stmts end) is =
    let all = second (is_procedure front) (are_declarations items && are_statements false stmts) is in
    (declarations_flat items (first (are_declarations items) (are_statements false stmts) all), statements_flat false stmts (second (are_declarations items) (are_statements false stmts) all))
unit_flat (Package d visible hidden) is =
    (declarations_flat visible (first (are_declarations visible) (are_declarations hidden) is), declarations_flat hidden (second (are_declarations visible) (are_declarations hidden) is))
unit_flat (PackageBody d parts) is = parts_flat parts is
unit_flat _ is = never is
