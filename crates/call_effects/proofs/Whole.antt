-- The lists of all objects are the effects.
use Rattle.std.proofs.Common.{◌≡◌, refl, sym, ap, ◌∙◌, inl, inr, ℕ, suc, ◌<◌, ◌≤◌, Bool, true, false, ◌&&◌, ◌==◌, eqb-true, List, [], ◌∷◌, map, length, is_some, not, arith}
use Rattle.std.proofs.Math.ListN.{get_or-eq_default}
use Rattle.std.proofs.lemmas.Bool.{cases_lt}
use Rattle.place_names.proofs.Names.{both_parts}
use Rattle.spark_base.specs.Lists.{Has}
use Rattle.typed_tree.specs.declared.object.Object.{Object}
use Rattle.typed_tree.specs.Programs.{text_io}
use Rattle.flow_paths.specs.declared.report.Effects.{Effects}
use Rattle.flow_paths.specs.Stands.{flow_sub_of}
use Rattle.flow_paths.specs.Objects.{Typing, object_at, is_package_object, is_state}
use Rattle.flow_paths.specs.Laid.{flow_typing}
use Rattle.flow_paths.specs.Effects.{is_global, AreEffects}
use Rattle.laid_program.specs.declared.laid.Laid.{Laid}
use Rattle.laid_program.specs.Programs.{program_of}
use Rattle.call_effects.specs.Uses.{Uses}
use Rattle.call_effects.specs.Rows.{row}
use Rattle.call_effects.specs.Spreads.{AreWhole}
use Rattle.call_effects.proofs.Filed.{or_parts}

-- what is no object of the program is none of a package
object_there : (s : Typing) (g : ℕ) → is_package_object s g ≡ true → g < length s.objects
object_there s g e = elim (cases_lt g (length s.objects)) [
  | inl lt ↦ lt
  | inr le ↦ absurd (
      let past : object_at s g ≡ text_io = get_or-eq_default s.objects text_io le in
      let never : is_package_object s g ≡ false = ap (λ (o : Object). is_some o.«package» && not (is_state o.kind)) past in
      true_false (sym e ∙ never))
]
  where
    true_false : true ≡ false → ⊥
    true_false e = cc

pub global_there : (s : Typing) (n g : ℕ) → length s.objects ≤ n → 0 < n → is_global s g ≡ true → g < n
global_there s n g all some e = elim (or_parts (g == 0) (is_package_object s g) e) [
  | inl zero_ ↦ (let is = eqb-true g 0 zero_ in omega arith)
  | inr object_ ↦ (let there = object_there s g object_ in omega arith)
]

subs_counted : (laid : Laid) → length (program_of laid).subs ≡ length laid.subs
subs_counted laid = counted (flow_sub_of laid.rows) laid.subs
  where
    counted : {A B : Type 0} (f : A → B) (xs : List A) → length (map f xs) ≡ length xs
    counted f [] = refl
    counted f (x ∷ xs) = ap suc (counted f xs)

whole_all : (w : Bool) (laid : Laid) (lists : List (List ℕ)) → AreWhole w laid lists → (p g : ℕ) → Uses w (program_of laid) p g → Has (row lists p) g
whole_all w laid lists l p g u =
    l.listed.all p g (global_there (flow_typing (program_of laid)) l.behind g l.objects l.some (both_parts _ _ u.own).0) u

pub are_effects : (laid : Laid) (effects : Effects) → AreWhole false laid effects.read → AreWhole true laid effects.written
    → AreEffects (program_of laid) effects
are_effects laid effects r w = record {
  read_count = r.ordered.sized ∙ sym (subs_counted laid);
  written_count = w.ordered.sized ∙ sym (subs_counted laid);
  read_order = r.ordered.order;
  written_order = w.ordered.order;
  reads = λ p g lt. (
    λ h. (let u = r.listed.only p g h in record { last = u.last; chain = u.chain; own = u.own }),
    λ e. whole_all false laid effects.read r p g (record { last = e.last; chain = e.chain; own = e.own }),
  );
  writes = λ p g lt. (
    λ h. (let u = w.listed.only p g h in record { last = u.last; chain = u.chain; own = u.own }),
    λ e. whole_all true laid effects.written w p g (record { last = e.last; chain = e.chain; own = e.own }),
  );
}
