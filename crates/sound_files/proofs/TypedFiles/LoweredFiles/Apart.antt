-- The parameters of loops are declared by nothing else.
use Rattle.std.proofs.Common.{sym, subst, inl, inr, ℕ, List, ◌++◌}
use Rattle.machine.specs.spark_base.Lists.{Has}
use Rattle.soundness.proofs.Lists.{Has-append_left, Has-append_right, Has-append_cases}
use Rattle.machine.specs.typed_tree.Trees.{TypedCode}
use Rattle.machine.specs.typed_tree.Trees as typed
use Rattle.machine.specs.flow_paths.Laid.{declared_within}
use Rattle.settled_types.specs.OrderLaws.ScopeLaws.Code.{Once}
use Rattle.settled_types.proofs.OrderLaws.ScopeLaws.Lists.{once_left, once_right, once_apart}
use Rattle.settled_types.specs.OrderLaws.Placed.{parameters}
use Rattle.sound_files.specs.TypedFiles.LoweredFiles.Code.{plain_objects}

in_both : (xs ys ds es : List ℕ) (x : ℕ) → (Has xs x → Has ds x) → (Has ys x → Has es x) → Has (xs ++ ys) x → Has (ds ++ es) x
in_both xs ys ds es x first second has = elim (Has-append_cases xs ys x has) [
  | inl here ↦ Has-append_left ds es x (first here)
  | inr later ↦ Has-append_right ds es x (second later)
]

pub plain_within : (c : TypedCode) (x : ℕ) → Has (plain_objects c) x → Has (declared_within c) x
unfolding plain_objects declared_within
plain_within (typed.Declare p y v) x has = has
plain_within (typed.If branches otherwise) x has =
    in_both (plain_objects branches) (plain_objects otherwise) (declared_within branches) (declared_within otherwise) x (plain_within branches x) (plain_within otherwise x) has
plain_within (typed.More a rest) x has =
    in_both (plain_objects a) (plain_objects rest) (declared_within a) (declared_within rest) x (plain_within a x) (plain_within rest x) has
plain_within (typed.Branch p e stmts) x has = plain_within stmts x has
plain_within (typed.Case p e whens) x has = plain_within whens x has
plain_within (typed.When choices stmts) x has = plain_within stmts x has
plain_within (typed.Loop stmts) x has = plain_within stmts x has
plain_within (typed.While p e stmts) x has = plain_within stmts x has
plain_within (typed.Block n stmts end) x has = plain_within stmts x has
plain_within (typed.For p y reversed low high stmts) x has = inr (plain_within stmts x has)
plain_within c x has = absurd has

pub parameters_within : (c : TypedCode) (x : ℕ) → Has (parameters c) x → Has (declared_within c) x
unfolding parameters declared_within
parameters_within (typed.If branches otherwise) x has =
    in_both (parameters branches) (parameters otherwise) (declared_within branches) (declared_within otherwise) x (parameters_within branches x) (parameters_within otherwise x) has
parameters_within (typed.More a rest) x has =
    in_both (parameters a) (parameters rest) (declared_within a) (declared_within rest) x (parameters_within a x) (parameters_within rest x) has
parameters_within (typed.Branch p e stmts) x has = parameters_within stmts x has
parameters_within (typed.Case p e whens) x has = parameters_within whens x has
parameters_within (typed.When choices stmts) x has = parameters_within stmts x has
parameters_within (typed.Loop stmts) x has = parameters_within stmts x has
parameters_within (typed.While p e stmts) x has = parameters_within stmts x has
parameters_within (typed.Block n stmts end) x has = parameters_within stmts x has
parameters_within (typed.For p y reversed low high stmts) x (inl e) = inl e
parameters_within (typed.For p y reversed low high stmts) x (inr has) = inr (parameters_within stmts x has)
parameters_within c x has = absurd has

two_apart : (ps qs rs ts ds es : List ℕ) (x : ℕ) → Once (ds ++ es) → (Has ps x → Has ds x) → (Has qs x → Has ds x) → (Has rs x → Has es x) → (Has ts x → Has es x)
    → (Once ds → Has ps x → Has qs x → ⊥) → (Once es → Has rs x → Has ts x → ⊥) → Has (ps ++ rs) x → Has (qs ++ ts) x → ⊥
two_apart ps qs rs ts ds es x once p q r t first second has there = elim (Has-append_cases ps rs x has) [
  | inl a ↦ elim (Has-append_cases qs ts x there) [
    | inl b ↦ first (once_left ds es once) a b
    | inr b ↦ once_apart ds es x once (p a) (t b)
  ]
  | inr a ↦ elim (Has-append_cases qs ts x there) [
    | inl b ↦ once_apart ds es x once (q b) (r a)
    | inr b ↦ second (once_right ds es once) a b
  ]
]

pub apart : (c : TypedCode) (x : ℕ) → Once (declared_within c) → Has (plain_objects c) x → Has (parameters c) x → ⊥
unfolding plain_objects parameters declared_within
apart (typed.If branches otherwise) x once has there =
    two_apart (plain_objects branches) (parameters branches) (plain_objects otherwise) (parameters otherwise) (declared_within branches) (declared_within otherwise) x once (plain_within branches x) (parameters_within branches x)
    (plain_within otherwise x) (parameters_within otherwise x) (λ one. apart branches x one) (λ one. apart otherwise x one) has there
apart (typed.More a rest) x once has there =
    two_apart (plain_objects a) (parameters a) (plain_objects rest) (parameters rest) (declared_within a) (declared_within rest) x once (plain_within a x) (parameters_within a x)
    (plain_within rest x) (parameters_within rest x) (λ one. apart a x one) (λ one. apart rest x one) has there
apart (typed.Branch p e stmts) x once has there = apart stmts x once has there
apart (typed.Case p e whens) x once has there = apart whens x once has there
apart (typed.When choices stmts) x once has there = apart stmts x once has there
apart (typed.Loop stmts) x once has there = apart stmts x once has there
apart (typed.While p e stmts) x once has there = apart stmts x once has there
apart (typed.Block n stmts end) x once has there = apart stmts x once has there
apart (typed.For p y reversed low high stmts) x once has (inl e) = once.0 (subst (Has (declared_within stmts)) (sym e) (plain_within stmts x has))
apart (typed.For p y reversed low high stmts) x once has (inr there) = apart stmts x once.1 has there
apart c x once has there = absurd there
