-- The laws of packages and of their bodies, with no construct open around them.
use Rattle.std.proofs.Common.{◌≡◌, refl, false, List, [], ◌∷◌, Option, Some, None}
use Rattle.std.specs.List.{flat_map}
use Rattle.spark_base.specs.declared.position.Pos.{Pos}
use Rattle.ada_lexer.specs.declared.token.Reserved.TheVariants as w
use Rattle.token_reading.specs.declared.side.Side.TheVariants.{Apart}
use Rattle.token_reading.specs.Weights.{WeighedToken}
use Rattle.token_reading.specs.Reading.{of_word, of_ident, Each}
use Rattle.token_reading.proofs.Law.{Law}
use Rattle.token_reading.proofs.Tokens.{Any, law_word}
use Rattle.token_reading.proofs.Seq.{Both, joined, law_seq}
use Rattle.token_reading.proofs.Made.{law_to, law_wider}
use Rattle.ada_tree.specs.declared.subprogram.Decl.{Decl}
use Rattle.ada_tree.specs.declared.unit.PrivatePart.{PrivatePart}
use Rattle.ada_tree.specs.declared.unit.Package.{Package}
use Rattle.ada_tree.specs.declared.unit.PackageBody.{PackageBody}
use Rattle.ada_tree.specs.Spelling as spelling
use Rattle.ada_tree.specs.Spelling.{mode_spelling, decl_spelling, body_part_spelling, private_spelling, package_spelling, package_body_spelling}
use Rattle.ada_tree.specs.WellPlaced.{EachSome, DeclPlaced, BodyPartPlaced, PrivatePlaced, PackagePlaced, PackageBodyPlaced}
use Rattle.ada_tree.specs.FixedNames.{ModeNamed, DeclNamed, BodyPartNamed, PrivateNamed, PackageNamed, PackageBodyNamed}
use Rattle.ada_grammar.specs.Units.{make_private, private_part, decl_first, PackageParts, package_parts, make_package, PackageBodyParts, package_body_parts, make_package_body}
use Rattle.ada_grammar.proofs.ExpressionNames.{law_identifier}
use Rattle.ada_grammar.proofs.ItemParts.{law_optional_part}
use Rattle.ada_grammar.proofs.StatementParts.{each_both, both_each}
use Rattle.ada_grammar.proofs.UnitParts.{law_mode, GoodClosing, closing_spelling, law_closing}
use Rattle.ada_grammar.proofs.UnitDecls.{is_spelling, id_spelling, GoodDecl, law_decls}
use Rattle.ada_grammar.proofs.UnitBodies.{GoodPart, law_body_parts}

some_both : {A : Type 0} (P Q : A → Type 0) (a : Option A) → EachSome (λ x. P x × Q x) a → EachSome P a × EachSome Q a
some_both P Q None good = (tt, tt)
some_both P Q (Some x) good = good

both_some : {A : Type 0} (P Q : A → Type 0) (a : Option A) → EachSome P a × EachSome Q a → EachSome (λ x. P x × Q x) a
both_some P Q None good = tt
both_some P Q (Some x) good = good

-- ---- private parts

abbrev GoodPrivate : PrivatePart → Type 0
GoodPrivate x = PrivatePlaced 1 x × PrivateNamed x

good_private : (x : Pos × List Decl) → Both Any (Each GoodDecl) x → GoodPrivate (make_private x)
unfolding PrivatePlaced PrivateNamed
good_private x good = each_both (DeclPlaced 1) DeclNamed x.1 good.1

spelled_private : (x : Pos × List Decl) → private_spelling 1 (make_private x)
    ≡ joined (λ p. spelling.word Apart w.KwPrivate p ∷ []) (flat_map (decl_spelling 1)) x
unfolding private_spelling
spelled_private x = refl

onto_private : (a : PrivatePart) → GoodPrivate a → (x : Pos × List Decl) × (Both Any (Each GoodDecl) x × (make_private x ≡ a))
unfolding PrivatePlaced PrivateNamed
onto_private a good = ((a.pos, a.decls), ((tt, both_each (DeclPlaced 1) DeclNamed a.decls good), refl))

-- "private" {decl}
law_private_part : Law private_part GoodPrivate (private_spelling 1) (of_word w.KwPrivate ∷ []) decl_first false
unfolding private_part
law_private_part =
    law_wider (of_word w.KwPrivate ∷ []) decl_first
    (law_to make_private GoodPrivate (private_spelling 1) (law_seq (law_word Apart w.KwPrivate) law_decls refl)
    good_private (λ x good. spelled_private x) onto_private) refl refl

-- ---- packages, after "package"

abbrev pub GoodPackageParts : PackageParts → Type 0
GoodPackageParts =
    Both Any (Both (EachSome ModeNamed) (Both Any (Both (Each GoodDecl) (Both (EachSome GoodPrivate) GoodClosing))))

abbrev pub package_parts_spelling : PackageParts → List WeighedToken
package_parts_spelling =
    joined id_spelling (joined (spelling.optional mode_spelling) (joined is_spelling (joined (flat_map (decl_spelling 1))
    (joined (spelling.optional (private_spelling 1)) closing_spelling))))

-- id mode "is" {decl} ["private" {decl}] "end" [id] ";"
pub law_package_parts : Law package_parts GoodPackageParts package_parts_spelling (of_ident ∷ []) [] false
law_package_parts =
    law_wider (of_ident ∷ []) []
    (law_seq (law_identifier Apart) (law_seq law_mode (law_seq (law_word Apart w.KwIs) (law_seq law_decls
    (law_seq (law_optional_part (of_word w.KwPrivate ∷ []) law_private_part refl) law_closing refl) refl) refl) refl) refl) refl refl

abbrev pub GoodPackage : Package → Type 0
GoodPackage x = PackagePlaced 0 x × PackageNamed x

pub good_package : (pos : Pos) (x : PackageParts) → GoodPackageParts x → GoodPackage (make_package pos x)
unfolding PackagePlaced PackageNamed
good_package pos x good =
    let visible = each_both (DeclPlaced 1) DeclNamed x.1.1.1.0 good.1.1.1.0 in
    let hidden = some_both (PrivatePlaced 1) PrivateNamed x.1.1.1.1.0 good.1.1.1.1.0 in
    ((visible.0, hidden.0), (good.1.0, visible.1, hidden.1))

abbrev pub parts_of_package : Package → PackageParts
parts_of_package a = (a.name, (a.mode, (a.is, (a.visible, (a.private, (a.end, (a.closing, a.semicolon)))))))

pub package_parts_good : (a : Package) → GoodPackage a → GoodPackageParts (parts_of_package a)
unfolding PackagePlaced PackageNamed
package_parts_good a good = (
  tt,
  (
    good.1.0,
    (
      tt,
      (
        both_each (DeclPlaced 1) DeclNamed a.visible (good.0.0, good.1.1),
        (both_some (PrivatePlaced 1) PrivateNamed a.private (good.0.1, good.1.2), (tt, (tt, tt))),
      ),
    ),
  ),
)

-- ---- bodies of packages, after "package"

abbrev pub GoodPackageBodyParts : PackageBodyParts → Type 0
GoodPackageBodyParts = Both Any (Both Any (Both (EachSome ModeNamed) (Both Any (Both (Each GoodPart) GoodClosing))))

abbrev pub package_body_parts_spelling : PackageBodyParts → List WeighedToken
package_body_parts_spelling =
    joined (λ p. spelling.word Apart w.KwBody p ∷ []) (joined id_spelling (joined (spelling.optional mode_spelling) (joined is_spelling
    (joined (flat_map (body_part_spelling 1)) closing_spelling))))

-- "body" id mode "is" {decl | subbody} "end" [id] ";"
pub law_package_body_parts : Law package_body_parts GoodPackageBodyParts package_body_parts_spelling (of_word w.KwBody ∷ []) [] false
law_package_body_parts =
    law_wider (of_word w.KwBody ∷ []) []
    (law_seq (law_word Apart w.KwBody) (law_seq (law_identifier Apart) (law_seq law_mode (law_seq (law_word Apart w.KwIs)
    (law_seq law_body_parts law_closing refl) refl) refl) refl) refl) refl refl

abbrev pub GoodPackageBody : PackageBody → Type 0
GoodPackageBody x = PackageBodyPlaced 0 x × PackageBodyNamed x

pub good_package_body : (pos : Pos) (x : PackageBodyParts) → GoodPackageBodyParts x → GoodPackageBody (make_package_body pos x)
unfolding PackageBodyPlaced PackageBodyNamed
good_package_body pos x good =
    let parts = each_both (BodyPartPlaced 1) BodyPartNamed x.1.1.1.1.0 good.1.1.1.1.0 in (parts.0, (good.1.1.0, parts.1))

abbrev pub parts_of_package_body : PackageBody → PackageBodyParts
parts_of_package_body a = (a.body, (a.name, (a.mode, (a.is, (a.parts, (a.end, (a.closing, a.semicolon)))))))

pub package_body_parts_good : (a : PackageBody) → GoodPackageBody a → GoodPackageBodyParts (parts_of_package_body a)
unfolding PackageBodyPlaced PackageBodyNamed
package_body_parts_good a good =
    (tt, (tt, (good.1.0, (tt, (both_each (BodyPartPlaced 1) BodyPartNamed a.parts (good.0, good.1.1), (tt, (tt, tt)))))))
