-- The faults of choices as a whole, where all are taken.
use Rattle.std.proofs.Common.{◌≡◌, refl, sym, ap, ◌∙◌, ℕ, Bool, true, false, not, ◌&&◌, ◌||◌, List, [], ◌++◌, Option, flat_map}
use Rattle.spark_base.specs.declared.position.Pos.{Pos}
use Rattle.resolved_tree.specs.Trees.{Tree, Code}
use Rattle.type_definitions.specs.declared.judgement.Fault.{Fault}
use Rattle.type_definitions.specs.declared.judgement.Cover.{Cover}
use Rattle.type_definitions.specs.Faults.{noted, demand}
use Rattle.type_definitions.specs.Types.{full}
use Rattle.type_definitions.specs.Names.{Context}
use Rattle.type_definitions.specs.Expressions.{own_type}
use Rattle.type_definitions.specs.Statements.{all_sound, any_others, bounds_of, chosen_type, cover_of, coverage, doubled, has_gap, type_or_integer}
use Rattle.statement_rules.specs.declared.case_choices.Choices.{Choices}
use Rattle.statement_rules.specs.Taken.{Takes, is_passed, taken_faults}

not_true : (b : Bool) → not b ≡ true → b ≡ false
not_true true e = cc
not_true false e = refl

not_false : (b : Bool) → not b ≡ false → b ≡ true
not_false true e = refl
not_false false e = cc

abbrev covers : Context → Tree → List Code → List Cover
covers c e choices = flat_map (cover_of c (type_or_integer (own_type c e))) choices

abbrev gap_in : Context → Tree → List Cover → Bool
gap_in c e all = has_gap (bounds_of (full c.known.table (chosen_type c e))).0 (bounds_of (full c.known.table (chosen_type c e))).1 all

abbrev whole : Context → Pos → Tree → List Code → List Fault
whole c p e choices =
    doubled [] (covers c e choices)
    ++ demand 4 p (any_others choices || not (all_sound c (type_or_integer (own_type c e)) choices) || not (gap_in c e (covers c e choices)))

coverage_is : (c : Context) (p : Pos) (e : Tree) (choices : List Code) → is_passed c e ≡ false → coverage c p e choices ≡ whole c p e choices
coverage_is c p e choices is = rw is refl

pub passed_faults : (c : Context) (p : Pos) (e : Tree) (choices : List Code) (found : Option Fault) → not (is_passed c e) ≡ false
    → found ≡ noted found (coverage c p e choices)
passed_faults c p e choices found is = let passed : is_passed c e ≡ true = not_false (is_passed c e) is in rw passed refl

pub taken_whole : (c : Context) (p : Pos) (e : Tree) (choices : List Code) (found f : Option Fault) (y k : Choices) (t : ℕ)
    → not (is_passed c e) ≡ true → y.covers.items ≡ [] → y.has_others ≡ false → y.are_sound ≡ true
    → t ≡ type_or_integer (own_type c e)
    → Takes c t choices y k → f ≡ noted found (taken_faults c p e k) → f ≡ noted found (coverage c p e choices)
taken_whole c p e choices found f y k t chosen none no_others sound of taken is =
    let takes : Takes c (type_or_integer (own_type c e)) choices y k = rw (sym of) taken in
    let all : k.covers.items ≡ covers c e choices = takes.covers ∙ ap (λ front. front ++ covers c e choices) none in
    let others : k.has_others ≡ any_others choices = takes.others ∙ ap (λ b. b || any_others choices) no_others in
    let sounds : k.are_sound ≡ all_sound c (type_or_integer (own_type c e)) choices =
    takes.sound ∙ ap (λ b. b && all_sound c (type_or_integer (own_type c e)) choices) sound in
    let same : taken_faults c p e k ≡ whole c p e choices = rw all (rw others (rw sounds refl)) in
    is ∙ ap (noted found) (same ∙ sym (coverage_is c p e choices (not_true (is_passed c e) chosen)))
