-- The formals of bodies are known as formals, where files are meant.
use Rattle.std.proofs.Common.{◌≡◌, refl, sym, ap, ◌∙◌, subst, inl, inr, ℕ, suc, ◌+◌, Bool, true, false, not, cond, List, [], ◌∷◌, ◌++◌, map, flat_map, get_or, nat_eq, arith, None}
use Rattle.std.specs.List.{position_or_len}
use Rattle.std.proofs.lemmas.Bool.{eqb-true, eq-eqb}
use Rattle.machine.specs.spark_base.Lists.{Has}
use Rattle.soundness.proofs.Lists.{Has-append_cases, Has-append_left, Has-append_right}
use Rattle.machine.specs.resolved_tree.Trees.{Code, More, Formals, Front, SubBody, PackageBody, Program, code_items}
use Rattle.machine.specs.type_definitions.declared.table.Known.{Known}
use Rattle.machine.specs.type_definitions.Entries.{entry_of}
use Rattle.machine.specs.type_definitions.Names.{Context}
use Rattle.machine.specs.type_definitions.Gathered.{declared_number, in_hidden}
use Rattle.machine.specs.type_definitions.Whole.{outside, known_of}
use Rattle.machine.specs.typed_tree.declared.object.ObjectKind.TheVariants as object_kind
use Rattle.machine.specs.typed_tree.Expressions.{Site, object_number}
use Rattle.machine.specs.typed_tree.Statements.{scope_count}
use Rattle.machine.specs.typed_tree.Programs.{kind_of, entry_kind, TypedSub, DeclaredObject, program_objects, text_io, front_formals, formal_numbers, placed, subs_in, over_units, site_of, typed_program}
use Rattle.machine.specs.flow_paths.Objects.{is_formal, is_formal_kind}
use Rattle.sound_files.specs.SeenFiles.Fits.{all_numbers, group_numbers, front_numbers}
use Rattle.sound_files.specs.MeantFiles.Typed.{AreOf, IsGroupTyped, AreGroupsTyped, IsFrontTyped, AreTyped}
use Rattle.sound_files.proofs.MeantFiles.Objects.{object_numbers, units_same}
use Rattle.settled_types.specs.OrderLaws.Orderly.{typing_in, bodies_of}
use Rattle.sound_files.proofs.Kinded.{AreKinded, program_kinded}

-- It is the object of a declaration among these, which is known as that of a formal.
abbrev Found : Site → Known → List ℕ → ℕ → Type 0
Found s known ns x = (d : ℕ) × (x ≡ object_number s d) × Has ns d × (entry_kind (entry_of known d) ≡ object_kind.Formal)

left : (s : Site) (known : Known) (ns ms : List ℕ) (x : ℕ) → Found s known ns x → Found s known (ns ++ ms) x
left s known ns ms x f = (f.0, f.1, Has-append_left ns ms f.0 f.2, f.3)

right : (s : Site) (known : Known) (ns ms : List ℕ) (x : ℕ) → Found s known ms x → Found s known (ns ++ ms) x
right s known ns ms x f = (f.0, f.1, Has-append_right ns ms f.0 f.2, f.3)

-- ---- the formals of a body

ids_found : (s : Site) (known : Known) (of ids : Code) (x : ℕ) → AreOf known of ids → Has (map (λ d. object_number s (declared_number d)) (code_items ids)) x
    → Found s known (all_numbers ids) x
ids_found s known of (More d rest) x typed (inl same) =
    let one = typed.0 in
    (declared_number d, sym same, inl refl, ap entry_kind one.1 ∙ ap kind_of one.3)
ids_found s known of (More d rest) x typed (inr has) = (let f = ids_found s known of rest x typed.1 has in (f.0, f.1, inr f.2, f.3))
ids_found s known of ids x typed has = absurd has

group_found : (s : Site) (known : Known) (group : Code) (x : ℕ) → IsGroupTyped known group → Has (formal_numbers s group) x → Found s known (group_numbers group) x
group_found s known (Formals ids m of) x typed has = ids_found s known of ids x typed has
group_found s known group x typed has = absurd has

groups_found : (s : Site) (known : Known) (formals : Code) (x : ℕ) → AreGroupsTyped known formals → Has (flat_map (formal_numbers s) (code_items formals)) x
    → Found s known (flat_map group_numbers (code_items formals)) x
groups_found s known (More group rest) x typed has =
    let ns : List ℕ = group_numbers group in
    let ms : List ℕ = flat_map group_numbers (code_items rest) in
    elim (Has-append_cases (formal_numbers s group) (flat_map (formal_numbers s) (code_items rest)) x has) [
      | inl here ↦ left s known ns ms x (group_found s known group x typed.0 here)
      | inr more ↦ right s known ns ms x (groups_found s known rest x typed.1 more)
    ]
groups_found s known formals x typed has = absurd has

front_found : (s : Site) (known : Known) (front : Code) (x : ℕ) → IsFrontTyped known front → Has (flat_map (formal_numbers s) (front_formals front)) x
    → Found s known (front_numbers front) x
front_found s known (Front d formals result) x typed has = groups_found s known formals x typed has
front_found s known front x typed has = absurd has

-- ---- all bodies

sub_found : (made : ℕ → Type 0) (s : Site) (n : ℕ) (c : Context) (u : Code) (sub : TypedSub) (x : ℕ) → AreTyped made c u → Has (subs_in s n u) sub → Has sub.formals x
    → Found s c.known (object_numbers u) x
unfolding subs_in AreTyped
sub_found made s n c (SubBody front items stmts end) sub x typed (inl same) has =
    left s c.known (front_numbers front) (object_numbers items ++ object_numbers stmts) x
    (front_found s c.known front x typed.0 (subst (λ (t : TypedSub). Has t.formals x) (sym same) has))
sub_found made s n c (SubBody front items stmts end) sub x typed (inr never) has = absurd never
sub_found made s n c (PackageBody d parts) sub x typed among has =
    sub_found made (placed (in_hidden (declared_number d)) s) n (in_hidden (declared_number d) c) parts sub x typed among has
sub_found made s n c (More a rest) sub x typed among has = elim (Has-append_cases (subs_in s n a) (subs_in s (n + scope_count a) rest) sub among) [
  | inl here ↦ left s c.known (object_numbers a) (object_numbers rest) x (sub_found made s n c a sub x typed.0 here has)
  | inr more ↦ right s c.known (object_numbers a) (object_numbers rest) x (sub_found made s (n + scope_count a) c rest sub x typed.1 more has)
]
sub_found made s n c u sub x typed among has = absurd among

units_found : (made : ℕ → Type 0) (s : Site) (n : ℕ) (c : Context) (units : List Code) (sub : TypedSub) (x : ℕ) → ((u : Code) → Has units u → AreTyped made c u)
    → Has (over_units (subs_in s) n units) sub → Has sub.formals x → Found s c.known (flat_map object_numbers units) x
units_found made s n c [] sub x typed among has = absurd among
units_found made s n c (u ∷ rest) sub x typed among has = elim (Has-append_cases (subs_in s n u) (over_units (subs_in s) (n + scope_count u) rest) sub among) [
  | inl here ↦ left s c.known (object_numbers u) (flat_map object_numbers rest) x (sub_found made s n c u sub x (typed u (inl refl)) here has)
  | inr more ↦
      right s c.known (object_numbers u) (flat_map object_numbers rest) x
      (units_found made s (n + scope_count u) c rest sub x (λ v has. typed v (inr has)) more has)
]

-- ---- objects by number

pub kind_at : (known : Known) (d : ℕ) (os : List DeclaredObject) → AreKinded known os → Has (map (λ (o : DeclaredObject). o.number) os) d
    → (get_or (map (λ (o : DeclaredObject). o.object) os) (position_or_len (nat_eq d) (map (λ (o : DeclaredObject). o.number) os)) text_io).kind ≡ entry_kind (entry_of known d)
kind_at known d [] all has = absurd has
kind_at known d (o ∷ os) all has = by (nat_eq d o.number) refl (λ more. kind_at known d os all.1 more)
  where
    at : ℕ
    at = position_or_len (nat_eq d) (map (λ (o : DeclaredObject). o.number) os)

    by : (b : Bool) → nat_eq d o.number ≡ b
        → (Has (map (λ (o : DeclaredObject). o.number) os) d → (get_or (map (λ (o : DeclaredObject). o.object) os) at text_io).kind ≡ entry_kind (entry_of known d))
        → (get_or (map (λ (o : DeclaredObject). o.object) (o ∷ os)) (cond (not b) (1 + at) 0) text_io).kind ≡ entry_kind (entry_of known d)
    by true is on = all.0 ∙ ap (λ n. entry_kind (entry_of known n)) (sym (eqb-true d o.number is))
    by false is on =
        let next : suc at ≡ 1 + at = omega arith in
        subst (λ i. (get_or (map (λ (o : DeclaredObject). o.object) (o ∷ os)) i text_io).kind ≡ entry_kind (entry_of known d)) next (on (elim has [
          | inl same ↦ absurd (let f : nat_eq d d ≡ false = subst (λ x. nat_eq d x ≡ false) same is in let g = eq-eqb d d refl in cc)
          | inr more ↦ more
        ]))

module _ (p : Program) where
  known_formal : (d : ℕ) → Has (flat_map object_numbers p.units) d → entry_kind (entry_of (known_of p) d) ≡ object_kind.Formal
      → is_formal (typing_in p) (object_number (site_of (known_of p) p.units) d) ≡ true
  unfolding typed_program
  known_formal d has is =
      let os : List DeclaredObject = program_objects (known_of p) p.units in
      let at : ℕ = position_or_len (nat_eq d) (map (λ (o : DeclaredObject). o.number) os) in
      let next : suc at ≡ at + 1 = omega arith in
      let there = subst (λ ns. Has ns d) (sym (units_same p.units (record { known = known_of p; identifier = None }) 1 p.units)) has in
      subst (λ i. is_formal_kind (get_or (text_io ∷ map (λ (o : DeclaredObject). o.object) os) i text_io).kind ≡ true) next
      (ap is_formal_kind (kind_at (known_of p) d os (program_kinded (known_of p) p.units) there ∙ is))

  -- Formals are known as such.
  pub formals_known : (made : ℕ → Type 0) → ((u : Code) → Has p.units u → AreTyped made (outside (known_of p)) u) → (sub : TypedSub) → Has (bodies_of p) sub
      → (x : ℕ) → Has sub.formals x → is_formal (typing_in p) x ≡ true
  formals_known made typed sub among x has =
      let f = units_found made (site_of (known_of p) p.units) 1 (outside (known_of p)) p.units sub x typed among has in
      subst (λ y. is_formal (typing_in p) y ≡ true) (sym f.1) (known_formal f.0 f.2 f.3)
