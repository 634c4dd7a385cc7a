-- In a package there is one whose private part or body may be open.
use Rattle.std.proofs.Common.{◌≡◌, ℕ, ◌+◌, Bool, true, false, refl, sym, ap, ◌∙◌, is_some, if◌then◌else◌, true≢false}
use Rattle.machine.specs.resolved_tree.Trees.{More, Code, Incomplete, Private, TypeDecl, Subtype, ConstrainedSubtype, Objects, Numbers, Instance, SubDecl, SubBody, Package, PackageBody, If, Branch, Case, When, Loop, While, For, Block}
use Rattle.machine.specs.type_definitions.Entries.{entry_of}
use Rattle.machine.specs.type_definitions.Names.{Context}
use Rattle.machine.specs.type_definitions.Gathered.{gather, each, with_entry, with_indication, with_object, constant_value, with_number, initial_value, with_formal, with_formal_group, with_formals, with_result, with_front, with_body_front, with_literals, with_definition, full_info, with_type, is_subprogram, front_number, in_subprogram, declared_number, plain_object, parameter_type}
use Rattle.machine.specs.type_definitions.declared.table.Entry.TheVariants as entry
use Rattle.machine.specs.type_definitions.declared.table.Kind.TheVariants as kind
use Rattle.settled_types.proofs.Cases.{definition_end, each_end, formals_end, front_end, group_end, indication_end, on_access, on_enumeration, on_front, on_group, on_more, result_end}
use Rattle.settled_types.specs.Orderly.{Past, past_after}

abbrev pub AtHome : Past → Context → Type 0
AtHome p c = p.in_package ≡ true → is_some c.home ≡ true

each_home : (f : Code → Context → Context) → ((a : Code) (c : Context) → (f a c).home ≡ c.home) → (code : Code) (c : Context)
    → (each f code c).home ≡ c.home
each_home f same = on_more (λ code. (c : Context) → (each f code c).home ≡ c.home)
    (λ a rest next c.
    next (f a c) ∙ same a c)
    (λ code other c. rw (each_end f code c other) (refl))

indication_home : (d : ℕ) (i : Code) (c : Context) → (with_indication d i c).home ≡ c.home
indication_home d = on_access (λ i. (c : Context) → (with_indication d i c).home ≡ c.home)
    (λ p constant m c.
    refl)
    (λ i other c. rw (indication_end d i c other) (refl))

group_home : (group : Code) (c : Context) → (with_formal_group group c).home ≡ c.home
group_home = on_group (λ group. (c : Context) → (with_formal_group group c).home ≡ c.home)
    (λ names m of c.
    each_home (with_formal of) (λ d c. indication_home (declared_number d) of c) names c)
    (λ group other c. rw (group_end group c other) (refl))

result_home : (d : ℕ) (result : Code) (c : Context) → (with_result d result c).home ≡ c.home
result_home d = on_more (λ result. (c : Context) → (with_result d result c).home ≡ c.home)
    (λ i rest _ c.
    indication_home d i c)
    (λ result other c. rw (result_end d result c other) (refl))

front_home : (front : Code) (c : Context) → (with_front front c).home ≡ c.home
front_home = on_front (λ front. (c : Context) → (with_front front c).home ≡ c.home)
    (λ d formals result c.
    each_home with_formal_group group_home formals (with_result (declared_number d) result c) ∙ result_home (declared_number d) result c)
    (λ front other c. rw (front_end front c other) (refl))

formals_home : (front : Code) (c : Context) → (with_formals front c).home ≡ c.home
formals_home = on_front (λ front. (c : Context) → (with_formals front c).home ≡ c.home)
    (λ d formals result c.
    each_home with_formal_group group_home formals c)
    (λ front other c. rw (formals_end front c other) (refl))

either_home : (declared : Bool) (front : Code) (c : Context) → (if declared then with_formals front c else with_front front c).home ≡ c.home
either_home true front c = formals_home front c
either_home false front c = front_home front c

pub body_home : (front : Code) (p : Past) (c : Context) → AtHome p c → AtHome p (in_subprogram front (with_body_front front c))
body_home front p c at is = ap is_some (either_home (is_subprogram (entry_of c.known (front_number front))) front c) ∙ at is

literals_home : (t n : ℕ) (code : Code) (c : Context) → (with_literals t n code c).home ≡ c.home
literals_home t n (More d rest) c = literals_home t (n + 1) rest (with_entry (declared_number d) (entry.Literal t n) c)
literals_home t n _ c = refl

definition_home : (t : ℕ) (def : Code) (c : Context) → (with_definition t def c).home ≡ c.home
definition_home t = on_enumeration (λ def. (c : Context) → (with_definition t def c).home ≡ c.home)
    (λ literals c.
    literals_home t 0 literals c)
    (λ def other c. rw (definition_end t def c other) (refl))

pub homes : (code : Code) (p : Past) (c : Context) → AtHome p c → AtHome (past_after code p) (gather code c)
unfolding gather past_after
homes (Incomplete d) p c at = at
homes (Private d) p c at = at
homes (TypeDecl d def end) p c at = λ is.
    let n : ℕ = declared_number d in
    ap is_some (definition_home n def (with_type n (full_info c n def end) c)) ∙ at is
homes (Subtype d m) p c at = at
homes (ConstrainedSubtype d m low high) p c at = at
homes (Objects ids constant i v) p c at = λ is.
    ap is_some (each_home (with_object constant i (constant_value c constant v)) (λ d c. indication_home (declared_number d) i c) ids c) ∙ at is
homes (Numbers ids e) p c at = λ is. ap is_some (each_home (with_number (initial_value c e)) (λ d c. refl) ids c) ∙ at is
homes (Instance d m args) p c at = at
homes (SubDecl front) p c at = λ is. ap is_some (front_home front c) ∙ at is
homes (SubBody front items stmts end) p c at =
    let inner : Context = in_subprogram front (with_body_front front c) in
    homes stmts (past_after items p) (gather items inner) (homes items p inner (body_home front p c at))
homes (Package d visible hidden) p c at = λ is. absurd (true≢false (sym is))
homes (PackageBody d parts) p c at = λ is. absurd (true≢false (sym is))
homes (If x branches otherwise) p c at = homes otherwise (past_after branches p) (gather branches c) (homes branches p c at)
homes (Branch x e stmts) p c at = homes stmts p c at
homes (Case x e whens) p c at = homes whens p c at
homes (When choices stmts) p c at = homes stmts p c at
homes (Loop x stmts) p c at = homes stmts p c at
homes (While x e stmts) p c at = homes stmts p c at
homes (For x d reversed range stmts) p c at =
    homes stmts p (with_entry (declared_number d) (entry.Object (plain_object (parameter_type c range) kind.Parameter)) c) at
homes (Block x items stmts end) p c at = homes stmts (past_after items p) (gather items c) (homes items p c at)
homes (More a rest) p c at = homes rest (past_after a p) (gather a c) (homes a p c at)
homes _ p c at = at
