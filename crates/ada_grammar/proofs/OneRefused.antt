-- A list of tokens has one refused token, with one code, and a list with a tree has none.
use Rattle.std.proofs.Common.{◌≡◌, refl, sym, ap, ◌∙◌, true, false, List, [], ◌∷◌, ◌++◌}
use Rattle.std.specs.Prelude.{map}
use Rattle.std.proofs.lemmas.List.{map-append}
use Rattle.token_reading.specs.Spelled.{Spelled}
use Rattle.token_reading.proofs.OneRefused.{Order, same, earlier, later, order, heads, never_both, faulty_once, over_limit_once, not_both, tree_not_faulty, tree_not_over_limit}
use Rattle.ada_tree.specs.declared.unit.SourceUnit.{SourceUnit}
use Rattle.ada_tree.specs.Spelling.{source_spelling}
use Rattle.ada_tree.specs.Refusals.{IsSource, IsTreeOf, Code, Syntax, TooDeep, LeftOut, IsRefused, is_left_out}
use Rattle.ada_grammar.proofs.UnitLaws.{law_source}

-- The same code, and the same token after the same list.
abbrev pub IsSameRefusal : Code → List Spelled → Spelled → Code → List Spelled → Spelled → Type 0
IsSameRefusal code before token code2 before2 token2 = (code ≡ code2) × (before ≡ before2) × (token ≡ token2)

-- a word is left out or isn't
one_kind : (a b : Spelled) → a ≡ b → is_left_out a ≡ true → is_left_out b ≡ false → ⊥
one_kind a b equal out stays = never_both (is_left_out b) (ap is_left_out (sym equal) ∙ out) stays

pub one_refused : (code : Code) (before : List Spelled) (token : Spelled) (behind : List Spelled) (code2 : Code) (before2 : List Spelled) (token2 : Spelled)
    (behind2 : List Spelled) → before ++ (token ∷ behind) ≡ before2 ++ (token2 ∷ behind2) → IsRefused code before token
    → IsRefused code2 before2 token2 → IsSameRefusal code before token code2 before2 token2
one_refused Syntax before token behind Syntax before2 token2 behind2 e one two =
    let at = faulty_once IsSource source_spelling before token behind before2 token2 behind2 e one.0 two.0 in (refl, at.0, at.1)
one_refused LeftOut before token behind LeftOut before2 token2 behind2 e one two =
    let at = faulty_once IsSource source_spelling before token behind before2 token2 behind2 e one.0 two.0 in (refl, at.0, at.1)
one_refused Syntax before token behind LeftOut before2 token2 behind2 e one two =
    let at = faulty_once IsSource source_spelling before token behind before2 token2 behind2 e one.0 two.0 in
    absurd (one_kind token2 token (sym at.1) two.1 one.1)
one_refused LeftOut before token behind Syntax before2 token2 behind2 e one two =
    let at = faulty_once IsSource source_spelling before token behind before2 token2 behind2 e one.0 two.0 in
    absurd (one_kind token token2 at.1 one.1 two.1)
one_refused TooDeep before token behind TooDeep before2 token2 behind2 e one two =
    let at = over_limit_once law_source refl before token behind before2 token2 behind2 e one two in (refl, at.0, at.1)
one_refused Syntax before token behind TooDeep before2 token2 behind2 e one two =
    absurd (not_both law_source refl before token behind before2 token2 behind2 e one.0 two)
one_refused LeftOut before token behind TooDeep before2 token2 behind2 e one two =
    absurd (not_both law_source refl before token behind before2 token2 behind2 e one.0 two)
one_refused TooDeep before token behind Syntax before2 token2 behind2 e one two =
    absurd (not_both law_source refl before2 token2 behind2 before token behind (sym e) two.0 one)
one_refused TooDeep before token behind LeftOut before2 token2 behind2 e one two =
    absurd (not_both law_source refl before2 token2 behind2 before token behind (sym e) two.0 one)

pub tree_not_refused : (ts : List Spelled) (units : List SourceUnit) (code : Code) (before : List Spelled) (token : Spelled) (behind : List Spelled)
    → IsTreeOf ts units → ts ≡ before ++ (token ∷ behind) → IsRefused code before token → ⊥
tree_not_refused ts units Syntax before token behind is e refused =
    tree_not_faulty IsSource source_spelling ts units before token behind is e refused.0
tree_not_refused ts units LeftOut before token behind is e refused =
    tree_not_faulty IsSource source_spelling ts units before token behind is e refused.0
tree_not_refused ts units TooDeep before token behind is e refused =
    tree_not_over_limit law_source refl ts units before token behind is e refused

-- ---- tokens that the grammar sees in part

not_longer : {T : Type 0} (xs : List T) (x : T) (ys : List T) → xs ≡ xs ++ (x ∷ ys) → ⊥
not_longer [] x ys e = cc
not_longer (z ∷ xs) x ys e = not_longer xs x ys (heads z z xs (xs ++ (x ∷ ys)) e).1

module _ {T : Type 0} (tell : T → Spelled) where
  tells_longer : (before : List T) (token : T) (between before2 : List T) → before2 ≡ before ++ (token ∷ between) → map tell before ≡ map tell before2 → ⊥
  tells_longer before token between before2 longer e =
      not_longer (map tell before) (tell token) (map tell between) (e ∙ ap (map tell) longer ∙ map-append tell before (token ∷ between))

  pub one_refused_of : (code : Code) (before : List T) (token : T) (behind : List T) (code2 : Code) (before2 : List T) (token2 : T) (behind2 : List T)
      → before ++ (token ∷ behind) ≡ before2 ++ (token2 ∷ behind2) → IsRefused code (map tell before) (tell token)
      → IsRefused code2 (map tell before2) (tell token2) → (code ≡ code2) × (token ≡ token2)
  one_refused_of code before token behind code2 before2 token2 behind2 e one two =
      let told : map tell before ++ (tell token ∷ map tell behind) ≡ map tell before2 ++ (tell token2 ∷ map tell behind2) =
      sym (map-append tell before (token ∷ behind)) ∙ ap (map tell) e ∙ map-append tell before2 (token2 ∷ behind2) in
      let is = one_refused code (map tell before) (tell token) (map tell behind) code2 (map tell before2) (tell token2) (map tell behind2) told one two in
      (is.0, of_order is.1 (order before token behind before2 token2 behind2 e))
    where
      of_order : map tell before ≡ map tell before2 → Order before token behind before2 token2 behind2 → token ≡ token2
      of_order fronts (same front tokens backs) = tokens
      of_order fronts (earlier between longer) = absurd (tells_longer before token between before2 longer fronts)
      of_order fronts (later between longer) = absurd (tells_longer before2 token2 between before longer (sym fronts))

  pub tree_not_refused_of : (ts : List T) (units : List SourceUnit) (code : Code) (before : List T) (token : T) (behind : List T)
      → IsTreeOf (map tell ts) units → ts ≡ before ++ (token ∷ behind) → IsRefused code (map tell before) (tell token) → ⊥
  tree_not_refused_of ts units code before token behind is e refused =
      tree_not_refused (map tell ts) units code (map tell before) (tell token) (map tell behind) is
      (ap (map tell) e ∙ map-append tell before (token ∷ behind)) refused
