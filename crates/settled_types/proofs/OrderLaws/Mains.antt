-- The main procedure has its number among the subprograms, and no result.
use Rattle.std.proofs.Common.{◌≡◌, refl, sym, ap, ◌∙◌, subst, inl, inr, ℕ, suc, ◌+◌, Bool, true, false, nat_eq, List, [], ◌∷◌, ◌++◌, arith, Option, Some, None}
use Rattle.std.specs.Prelude.{flat_map, is_some}
use Rattle.std.specs.List.{position_or_len}
use Rattle.std.proofs.lemmas.Bool.{false≢true}
use Rattle.machine.specs.spark_base.Lists.{Has}
use Rattle.spark_base.proofs.Lists.{Has-append_left, Has-append_right}
use Rattle.machine.specs.spark_base.declared.position.Pos.{Pos}
use Rattle.machine.specs.resolved_tree.Trees.{Code, Front, SubBody, PackageBody, NoMore, More}
use Rattle.machine.specs.type_definitions.declared.judgement.Fault.{Fault}
use Rattle.machine.specs.type_definitions.declared.table.Known.{Known}
use Rattle.machine.specs.type_definitions.declared.table.Profile.{Profile}
use Rattle.machine.specs.type_definitions.Faults.{demand}
use Rattle.machine.specs.type_definitions.Names.{Context}
use Rattle.machine.specs.type_definitions.Entries.{entry_of}
use Rattle.machine.specs.type_definitions.Expressions.{profile_of}
use Rattle.machine.specs.type_definitions.Gathered.{front_number, in_hidden, declared_number, formal_infos, anonymous_result}
use Rattle.machine.specs.type_definitions.Declarations.{code_faults, body_faults, front_faults, front_pos, agrees, in_body, same_formals, same_result}
use Rattle.machine.specs.typed_tree.Expressions.{Site, sub_number}
use Rattle.machine.specs.typed_tree.Statements.{scope_count}
use Rattle.machine.specs.typed_tree.Programs.{TypedSub, subs_in, placed, bodies_in, over_units, main_of}
use Rattle.settled_types.proofs.OrderLaws.ScopeLaws.Lists.{and_second}
use Rattle.settled_types.specs.OrderLaws.ReadyLaws.InOrder.{IsSub}
use Rattle.settled_types.specs.OrderLaws.Written.{is_procedure}
use Rattle.settled_types.proofs.OrderLaws.Parts.{either, same_number, number_here, number_later}

-- ---- subprograms and the numbers of their declarations

abbrev result_in : Known → ℕ → Option ℕ
result_in known d = (profile_of (entry_of known d)).result

-- Each subprogram has the result of its declaration.
abbrev Aligned : Known → List ℕ → List TypedSub → Type 0
Aligned known [] [] = Unit {0}
Aligned known (d ∷ ds) (sub ∷ subs) = (sub.result ≡ result_in known d) × Aligned known ds subs
Aligned known _ _ = ⊥

aligned_both : (known : Known) (ds es : List ℕ) (subs more : List TypedSub) → Aligned known ds subs → Aligned known es more → Aligned known (ds ++ es) (subs ++ more)
aligned_both known [] es [] more h g = g
aligned_both known [] es (sub ∷ subs) more h g = absurd h
aligned_both known (d ∷ ds) es [] more h g = absurd h
aligned_both known (d ∷ ds) es (sub ∷ subs) more h g = (h.0, aligned_both known ds es subs more h.1 g)

code_aligned : (s : Site) (n : ℕ) (c : Code) → Aligned s.context.known (bodies_in c) (subs_in s n c)
unfolding bodies_in subs_in
code_aligned s n (SubBody front items stmts end) = (refl, tt)
code_aligned s n (PackageBody d parts) = code_aligned (placed (in_hidden (declared_number d)) s) n parts
code_aligned s n (More a rest) =
    aligned_both s.context.known (bodies_in a) (bodies_in rest) (subs_in s n a) (subs_in s (n + scope_count a) rest) (code_aligned s n a) (code_aligned s (n + scope_count a) rest)
code_aligned s n _ = tt

units_aligned : (s : Site) (n : ℕ) (us : List Code) → Aligned s.context.known (flat_map bodies_in us) (over_units (subs_in s) n us)
units_aligned s n [] = tt
units_aligned s n (u ∷ us) =
    aligned_both s.context.known (bodies_in u) (flat_map bodies_in us) (subs_in s n u) (over_units (subs_in s) (n + scope_count u) us) (code_aligned s n u)
    (units_aligned s (n + scope_count u) us)

-- A declaration of a body has its subprogram.
aligned_at : (known : Known) (ds : List ℕ) (subs : List TypedSub) → Aligned known ds subs → (d : ℕ) → Has ds d
    → (sub : TypedSub) × IsSub subs (position_or_len (nat_eq d) ds) sub × (sub.result ≡ result_in known d)
aligned_at known [] subs h d has = absurd has
aligned_at known (e ∷ ds) [] h d has = absurd h
aligned_at known (e ∷ ds) (sub ∷ subs) h d has = elim (either (nat_eq d e)) [
  | inl here ↦ (sub, ([], subs, refl, sym (number_here d e ds here)), h.0 ∙ ap (result_in known) (sym (same_number d e here)))
  | inr other ↦ (let later = aligned_at known ds subs h.1 d (behind has other) in (
    later.0,
    (let at = later.1 in (sub ∷ at.0, at.1, ap (λ z. sub ∷ z) at.2, ap suc at.3 ∙ suc_is (position_or_len (nat_eq d) ds) ∙ sym (number_later d e ds other))),
    later.2,
  ))
]
  where
    itself : (d e : ℕ) → nat_eq d e ≡ false → e ≡ d → ⊥
    itself d e other is = grind (arith, other, is)

    behind : Has (e ∷ ds) d → nat_eq d e ≡ false → Has ds d
    behind (inl is) other = absurd (itself d e other is)
    behind (inr later) other = later

    suc_is : (n : ℕ) → suc n ≡ 1 + n
    suc_is n = omega arith

-- ---- the main procedure

-- It is a library procedure among the units.
pub main_unit : (s : Site) (us : List Code) (n : ℕ) → main_of s us ≡ Some n
    → (front : Code) × (items : Code) × (stmts : Code) × (end : Pos) × Has us (SubBody front items stmts end) × (n ≡ sub_number s (front_number front))
main_unit s [] n is = absurd (false≢true (ap is_some is))
main_unit s (SubBody front items stmts end ∷ us) n is = (front, items, stmts, end, inl refl, sym (one is))
  where
    one : Some (sub_number s (front_number front)) ≡ Some n → sub_number s (front_number front) ≡ n
    one e = cc
main_unit s (_ ∷ us) n is = (let later = main_unit s us n is in (later.0, later.1, later.2, later.3, inr later.4, later.5))

in_units : (us : List Code) (front items stmts : Code) (end : Pos) → Has us (SubBody front items stmts end) → Has (flat_map bodies_in us) (front_number front)
unfolding bodies_in
in_units [] front items stmts end has = absurd has
in_units (u ∷ us) front items stmts end (inl e) =
    Has-append_left (bodies_in u) (flat_map bodies_in us) (front_number front) (subst (λ z. Has (bodies_in z) (front_number front)) (sym e) (inl refl))
in_units (u ∷ us) front items stmts end (inr has) = Has-append_right (bodies_in u) (flat_map bodies_in us) (front_number front) (in_units us front items stmts end has)

pub main_at : (s : Site) (us : List Code) → s.bodies ≡ flat_map bodies_in us → (m : ℕ) (front items stmts : Code) (end : Pos) → Has us (SubBody front items stmts end)
    → (n : ℕ) × (sub_number s (front_number front) ≡ suc n) × (sub : TypedSub) × IsSub (over_units (subs_in s) m us) n sub
    × (sub.result ≡ result_in s.context.known (front_number front))
main_at s us is m front items stmts end has =
    let found = aligned_at s.context.known (flat_map bodies_in us) (over_units (subs_in s) m us) (units_aligned s m us) (front_number front) (in_units us front items stmts end has) in (
      position_or_len (nat_eq (front_number front)) (flat_map bodies_in us),
      ap (λ ds. position_or_len (nat_eq (front_number front)) ds + 1) is ∙ suc_is (position_or_len (nat_eq (front_number front)) (flat_map bodies_in us)),
      found.0,
      found.1,
      found.2,
    )
  where
    suc_is : (n : ℕ) → n + 1 ≡ suc n
    suc_is n = omega arith

-- ---- a procedure has no result

pub nothing_left : (a b : List Fault) → a ++ b ≡ [] → a ≡ []
nothing_left [] b e = refl
nothing_left (x ∷ a) b e = cc

pub nothing_right : (a b : List Fault) → a ++ b ≡ [] → b ≡ []
nothing_right [] b e = e
nothing_right (x ∷ a) b e = cc

pub demanded : (n : ℕ) (p : Pos) (b : Bool) → demand n p b ≡ [] → b ≡ true
demanded n p true e = refl
demanded n p false e = cc

by_result : (known : Known) (p : Profile) (d formals : Code) → same_result known p.result NoMore ≡ true → p.result ≡ None
by_result known p d formals e = by_option p.result e
  where
    by_option : (r : Option ℕ) → same_result known r NoMore ≡ true → r ≡ None
    by_option None e = refl
    by_option (Some t) e = absurd (false≢true e)

-- The profile of a body without faults is that of its declaration.
pub procedure_result : (c : Context) (front items stmts : Code) (end : Pos) → is_procedure front ≡ true → code_faults c (SubBody front items stmts end) ≡ []
    → result_in c.known (front_number front) ≡ None
unfolding code_faults
procedure_result c (Front d formals NoMore) items stmts end h faults =
    let whole = nothing_left (body_faults c (Front d formals NoMore)) (code_faults (in_body (Front d formals NoMore) c) items ++ code_faults (in_body (Front d formals NoMore) c) stmts) faults in
    let last = nothing_right (front_faults c (Front d formals NoMore)) (demand 3 (front_pos (Front d formals NoMore)) (agrees c.known (Front d formals NoMore))) whole in
    let agree = demanded 3 (front_pos (Front d formals NoMore)) (agrees c.known (Front d formals NoMore)) last in
    let p : Profile = profile_of (entry_of c.known (front_number (Front d formals NoMore))) in
    by_result c.known p d formals
    (and_second (same_formals c.known.table p.formals (formal_infos c.known (anonymous_result NoMore) formals)) (same_result c.known p.result NoMore) agree)
procedure_result c _ items stmts end h faults = absurd (false≢true h)
