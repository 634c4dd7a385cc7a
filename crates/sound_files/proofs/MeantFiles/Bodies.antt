-- The code of files declares as many as there are, with their kinds, and each subprogram of it has a body.
use Rattle.std.proofs.Common.{◌≡◌, ◌⊎◌, inl, inr, ℕ, zero, suc, ◌+◌, true, false, List, [], ◌∷◌, ◌++◌, flat_map, length, refl, sym, ap, ◌∙◌, arith, subst, Some, None, true≢false}
use Rattle.std.specs.Prelude.{slice_get, unwrap_or, is_some}
use Rattle.std.proofs.lemmas.Bool.{false≢true}
use Rattle.machine.specs.spark_base.Lists.{Has}
use Rattle.soundness.proofs.Lists.{Has-append_cases, Has-append_left, Has-append_right}
use Rattle.ada_tree.specs.declared.unit.SourceUnit.{SourceUnit}
use Rattle.machine.specs.resolved_tree.Trees.{Code, Front, SubDecl, SubBody, Package, PackageBody, If, Branch, Case, When, Loop, While, For, Block, More}
use Rattle.name_events.specs.declared.event.Event.{Event}
use Rattle.name_events.specs.declared.declaration.DeclarationForm.{DeclarationForm}
use Rattle.name_events.specs.declared.declaration.DeclarationForm.TheVariants as form
use Rattle.name_events.specs.declared.declaration.DeclKind.{DeclKind}
use Rattle.name_events.specs.declared.declaration.DeclKind.TheVariants as kinds
use Rattle.name_events.specs.Declarations.{Entry, is_body_form}
use Rattle.name_events.specs.Predefined.{predefined_entries}
use Rattle.name_events.specs.Completions.{awaits}
use Rattle.name_events.specs.Outline.{source_events}
use Rattle.name_events.specs.KnownBehind.{known_at_first}
use Rattle.name_events.specs.Denotes.{kind_of, known_of}
use Rattle.name_events.specs.Faults.{first_fault}
use Rattle.expression_lowering.specs.LoweredExpressions.{Numbers}
use Rattle.tree_lowering.specs.Lowered.{lowered_files}
use Rattle.machine.specs.typed_tree.Programs.{bodies_in}
use Rattle.sound_files.specs.MeantFiles.Declarations.{Declarations, front_declarations, body_form, form_of_result, declarations, declared_by}
use Rattle.sound_files.specs.MeantFiles.Followed.{AreFollowed}
use Rattle.sound_files.specs.MeantFiles.Counted.{is_completing, Counts, kind_at}
use Rattle.sound_files.proofs.MeantFiles.Walk.{files_declared, files_bodied}
use Rattle.sound_files.proofs.MeantFiles.Events.{AreListed, counts_all, kinds_all, completed_all, awaiting_all}
use Rattle.sound_files.specs.CalledSubs.Called.{sub_numbers}

-- ---- subprograms of code

-- A declaration of a subprogram or a body, with this number.
abbrev IsOne : Declarations → ℕ → Type 0
IsOne all n = (new : DeclarationForm) × Has all (new, n) × ((new ≡ form.SubprogramDeclaration) ⊎ (is_body_form new ≡ true))

one_left : (L K : Declarations) (n : ℕ) → IsOne L n → IsOne (L ++ K) n
one_left L K n one = (one.0, Has-append_left L K (one.0, n) one.1, one.2)

one_right : (L K : Declarations) (n : ℕ) → IsOne K n → IsOne (L ++ K) n
one_right L K n one = (one.0, Has-append_right L K (one.0, n) one.1, one.2)

body_is : (front : Code) → is_body_form (body_form front) ≡ true
body_is (Front d formals result) = by result
  where
    by : (result : Code) → is_body_form (form_of_result result) ≡ true
    by (More i rest) = refl
    by _ = refl
body_is _ = refl

two : (x y : Code) (n : ℕ) → Has (sub_numbers x ++ sub_numbers y) n → (Has (sub_numbers x) n → IsOne (declarations x) n) → (Has (sub_numbers y) n → IsOne (declarations y) n)
    → IsOne (declarations x ++ declarations y) n
two x y n has first second = elim (Has-append_cases (sub_numbers x) (sub_numbers y) n has) [
  | inl here ↦ one_left (declarations x) (declarations y) n (first here)
  | inr there ↦ one_right (declarations x) (declarations y) n (second there)
]

listed : (code : Code) (n : ℕ) → Has (sub_numbers code) n → IsOne (declarations code) n
listed (SubDecl front) n (inl same) = (form.SubprogramDeclaration, inl (ap (λ m. (form.SubprogramDeclaration, m)) same), inl refl)
listed (SubDecl front) n (inr never) = absurd never
listed (SubBody front items stmts end) n (inl same) = (body_form front, inl (ap (λ m. (body_form front, m)) same), inr (body_is front))
listed (SubBody front items stmts end) n (inr has) =
    let L : Declarations = declarations items ++ declarations stmts in
    let one = one_right (front_declarations front) L n (two items stmts n has (λ here. listed items n here) (λ there. listed stmts n there)) in
    (one.0, inr one.1, one.2)
listed (Package d visible hidden) n has =
    let one = two visible hidden n has (λ here. listed visible n here) (λ there. listed hidden n there) in
    (one.0, inr one.1, one.2)
listed (PackageBody d parts) n has = listed parts n has
listed (If p x y) n has = two x y n has (λ here. listed x n here) (λ there. listed y n there)
listed (Branch p e x) n has = listed x n has
listed (Case p e x) n has = listed x n has
listed (When choices x) n has = listed x n has
listed (Loop p x) n has = listed x n has
listed (While p e x) n has = listed x n has
listed (For p d reversed range x) n has = let one = listed x n has in (one.0, inr one.1, one.2)
listed (Block p x y end) n has = two x y n has (λ here. listed x n here) (λ there. listed y n there)
listed (More x y) n has = two x y n has (λ here. listed x n here) (λ there. listed y n there)
listed _ n has = absurd has

all_listed : (units : List Code) (n : ℕ) → Has (flat_map sub_numbers units) n → IsOne (flat_map declarations units) n
all_listed [] n has = absurd has
all_listed (u ∷ units) n has = elim (Has-append_cases (sub_numbers u) (flat_map sub_numbers units) n has) [
  | inl here ↦ one_left (declarations u) (flat_map declarations units) n (listed u n here)
  | inr there ↦ one_right (declarations u) (flat_map declarations units) n (all_listed units n there)
]

-- ---- files

-- Their numbers are their indexes from the i-th on, and none is completed.
abbrev AreFirst : ℕ → List Entry → Type 0
AreFirst n [] = Unit {0}
AreFirst n (x ∷ rest) = (x.1.number ≡ n) × (awaits x.1.form ≡ false) × AreFirst (suc n) rest

first_at : (n : ℕ) (xs : List Entry) → AreFirst n xs → (i : ℕ) (x : Entry) → slice_get xs i ≡ Some x → (x.1.number ≡ n + i) × (awaits x.1.form ≡ false)
first_at n [] are i x is = absurd (false≢true (ap is_some is))
first_at n (y ∷ rest) are zero x is =
    let same = ap (λ o. unwrap_or o y) is in
    let number = ap (λ (x : Entry). x.1.number) (sym same) ∙ are.0 in
    (omega (arith, number), ap (λ (x : Entry). awaits x.1.form) (sym same) ∙ are.1)
first_at n (y ∷ rest) are (suc i) x is = let later = first_at (suc n) rest are.2 i x is in let number = later.0 in (omega (arith, number), later.1)

are_first : AreFirst 0 predefined_entries
are_first = (refl, refl, (refl, refl, (refl, refl, (refl, refl, (refl, refl, (refl, refl, (refl, refl, (refl, refl, (refl, refl, (refl, refl, (refl, refl, (refl, refl, (refl, refl, (refl, refl, (refl, refl, tt)))))))))))))))

first_listed : AreListed known_at_first.declared
first_listed = record {
  indexed = λ i x is. let a = (first_at 0 predefined_entries are_first i x is).0 in omega (arith, a);
  late = λ i x is waits. absurd (true≢false (sym waits ∙ (first_at 0 predefined_entries are_first i x is).1));
  many = let a : length predefined_entries ≡ 15 = refl in omega (arith, a);
}

module _ (files : List (List SourceUnit)) (numbers : Numbers) where
  abbrev events : List Event
  events = source_events files

  abbrev units : List Code
  units = lowered_files numbers files

  abbrev pub kind_in : ℕ → DeclKind
  kind_in = kind_at (known_of files).declared

  module _ (followed : AreFollowed numbers known_at_first events) where
    same : declared_by numbers events ≡ flat_map declarations units
    same = files_declared numbers files

    pub files_counted : Counts 15 (flat_map declarations units) (length (known_of files).declared)
    unfolding known_of
    files_counted = subst (λ L. Counts 15 L (length (known_of files).declared)) same (counts_all numbers events known_at_first first_listed followed)

    pub files_kinds : (new : DeclarationForm) (n : ℕ) → Has (flat_map declarations units) (new, n) → kind_of new ≡ kind_in n
    unfolding known_of
    files_kinds new n has =
        kinds_all numbers events known_at_first (known_of files).declared first_listed followed (λ i x is. is) new n
        (subst (λ L. Has L (new, n)) (sym same) has)

    is_body : (new : DeclarationForm) → is_completing new ≡ true → kind_of new ≡ kinds.Subprogram → is_body_form new ≡ true
    is_body form.FullType is kind = cc
    is_body form.ProcedureBody is kind = refl
    is_body form.FunctionBody is kind = refl
    is_body _ is kind = absurd (true≢false (sym is))

    -- Each subprogram that the code declares has a body.
    pub files_have_bodies : first_fault (known_of files) known_at_first events ≡ None → (n : ℕ) → Has (flat_map sub_numbers units) n → Has (flat_map bodies_in units) n
    unfolding known_of
    files_have_bodies none n has = let one = all_listed units n has in elim one.2 [
      | inr body ↦ files_bodied numbers files one.0 n one.1 body
      | inl declared ↦
          (let there : Has (flat_map declarations units) (form.SubprogramDeclaration, n) = subst (λ new. Has (flat_map declarations units) (new, n)) declared one.1 in
          let waits = awaiting_all numbers events (known_of files) known_at_first followed none n (subst (λ L. Has L (form.SubprogramDeclaration, n)) (sym same) there) in
          elim (completed_all numbers events known_at_first n first_listed followed waits) [
            | inl never ↦ absurd (true≢false (sym never))
            | inr done ↦
                (let body = subst (λ L. Has L (done.0, n)) same done.1 in
                files_bodied numbers files done.0 n body (is_body done.0 done.2 (files_kinds done.0 n body ∙ sym (files_kinds form.SubprogramDeclaration n there))))
          ])
    ]
