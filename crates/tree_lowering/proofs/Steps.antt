-- One more in front of what is made of a list.
use Rattle.std.proofs.Common.{◌≡◌, ℕ, suc, ◌+◌, ◌<◌, List, [], ◌∷◌, ◌++◌, drop, take, map, length, refl, sym, ap, ◌∙◌, arith, get_or, append_assoc}
use Rattle.std.specs.List.{flat_map}
use Rattle.std.proofs.lemmas.List.{take_more, map-append, append-nil}
use Rattle.std.proofs.lemmas.Grind.{flat_map-append}
use Rattle.std.proofs.Math.Seq.{drop-cons}
use Rattle.resolved_tree.specs.Trees.{Code}
use Rattle.ada_tree.specs.declared.unit.SourceUnit.{SourceUnit}
use Rattle.ada_tree.specs.declared.trees.Trees.{Trees}
use Rattle.expression_lowering.specs.LoweredExpressions.{Numbers}
use Rattle.tree_lowering.specs.Lowered.{before_all, lowered_unit, lowered_files}

pub before_step : {A : Type 0} (before : Code → A → Code) (parts : List A) (i j : ℕ) (d : A) → i < length parts → j ≡ i + 1
    → before_all before (drop i parts) ≡ before (before_all before (drop j parts)) (get_or parts i d)
before_step before parts i j d lt e =
    let e : j ≡ suc i = omega (arith, e) in
    rw (drop-cons parts i d lt) (rw e refl)

pub units_step : (numbers : Numbers) (codes : List Code) (trees : List SourceUnit) (i : ℕ) (d : SourceUnit) → i < length trees
    → codes ++ map (lowered_unit numbers) (take (i + 1) trees)
    ≡ (codes ++ map (lowered_unit numbers) (take i trees)) ++ lowered_unit numbers (get_or trees i d) ∷ []
units_step numbers codes trees i d lt =
    let front = map (lowered_unit numbers) (take i trees) in
    ap (λ ts. codes ++ map (lowered_unit numbers) ts) (take_more trees i d lt)
    ∙ ap (λ cs. codes ++ cs) (map-append (lowered_unit numbers) (take i trees) (get_or trees i d ∷ []))
    ∙ sym (append_assoc codes front (lowered_unit numbers (get_or trees i d) ∷ []))

pub files_step : (numbers : Numbers) (files : List Trees) (i : ℕ) (d : Trees) → i < length files
    → lowered_files numbers (map (λ trees. trees.units) (take (i + 1) files))
    ≡ lowered_files numbers (map (λ trees. trees.units) (take i files)) ++ map (lowered_unit numbers) (get_or files i d).units
unfolding lowered_files
files_step numbers files i d lt =
    let units : Trees → List SourceUnit = λ trees. trees.units in
    let f = map (lowered_unit numbers) in
    let front = map units (take i files) in
    ap (λ fs. flat_map f (map units fs)) (take_more files i d lt)
    ∙ ap (flat_map f) (map-append units (take i files) (get_or files i d ∷ []))
    ∙ flat_map-append f front (units (get_or files i d) ∷ [])
    ∙ ap (λ cs. flat_map f front ++ cs) (append-nil (f (units (get_or files i d))))
