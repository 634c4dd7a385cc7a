-- The identifiers of units and files stand in the order of their events.
use Rattle.std.proofs.Common.{ℕ, suc, ◌≡◌, refl, List, [], ◌∷◌, ◌++◌, Option, Some, None, subst, ◌∙◌}
use Rattle.std.proofs.lemmas.List.{append-nil}
use Rattle.std.specs.List.{flat_map}
use Rattle.token_reading.specs.Weights.{WeighedToken}
use Rattle.token_reading.specs.declared.side.Side.TheVariants.{Apart}
use Rattle.ada_tree.specs.declared.subprogram.Subspec.{Subspec}
use Rattle.ada_tree.specs.declared.subprogram.Subspec.TheVariants as subspec
use Rattle.ada_tree.specs.declared.subprogram.Formals.{Formals}
use Rattle.ada_tree.specs.declared.subprogram.NextFormal.{NextFormal}
use Rattle.ada_tree.specs.declared.subprogram.NextFormal.TheVariants as next_formal
use Rattle.ada_tree.specs.declared.subprogram.Formal.{Formal}
use Rattle.ada_tree.specs.declared.subprogram.Formal.TheVariants as formal
use Rattle.ada_tree.specs.declared.subprogram.Decl.{Decl}
use Rattle.ada_tree.specs.declared.subprogram.Decl.TheVariants as decl
use Rattle.ada_tree.specs.declared.unit.SourceUnit.{SourceUnit}
use Rattle.ada_tree.specs.declared.unit.SourceUnit.TheVariants as unit
use Rattle.ada_tree.specs.declared.unit.Context.{Context}
use Rattle.ada_tree.specs.declared.unit.Context.TheVariants as context
use Rattle.ada_tree.specs.declared.unit.Package.{Package}
use Rattle.ada_tree.specs.declared.unit.PrivatePart.{PrivatePart}
use Rattle.ada_tree.specs.declared.unit.PackageBody.{PackageBody}
use Rattle.ada_tree.specs.declared.unit.BodyPart.{BodyPart}
use Rattle.ada_tree.specs.declared.unit.BodyPart.TheVariants as body_part
use Rattle.ada_tree.specs.declared.unit.SubprogramBody.{SubprogramBody}
use Rattle.ada_tree.specs.Spelling.{optional, optional_word, mode_spelling, formal_spelling, next_formal_spelling, formals_spelling, subspec_spelling, decl_spelling, subprogram_spelling, body_part_spelling, private_spelling, package_spelling, package_body_spelling, context_spelling, unit_spelling, source_spelling}
use Rattle.name_events.specs.declared.event.Event.{Event}
use Rattle.name_events.specs.declared.event.Event.TheVariants as e
use Rattle.name_events.specs.declared.declaration.DeclarationForm.{DeclarationForm}
use Rattle.name_events.specs.ExpressionOutline.{folded}
use Rattle.name_events.specs.Outline.{formal_events, next_formal_events, formals_events, subspec_events, body_form, subspec_name, subprogram_events, decl_events, body_part_events, private_events, package_events, package_body_events, with_events, context_events, unit_front, unit_events}
use Rattle.settled_types.specs.FilePositions.Order.{event_position, event_positions, Follows}
use Rattle.settled_types.proofs.FilePositions.Rows.{none, both, past, behind, ahead, each, maybe, silent, declared, defined, dotted_follows, closing_follows, body_declared, withs_silent, quiet_row}
use Rattle.settled_types.proofs.FilePositions.Statements.{indication_follows, next_dotteds, use_follows, item_follows, items_follow, stmts_follow}

-- an event without a position at the end
at_end : (x : Event) → event_position x ≡ [] → {xs : List Event} {ms : List WeighedToken} → Follows xs ms → Follows (xs ++ x ∷ []) ms
at_end x e {xs = xs} {ms = ms} a = subst (Follows (xs ++ x ∷ [])) (append-nil ms) (both a (silent x e (none {ms = []})))

formal_follows : (f : Formal) → Follows (formal_events f) (formal_spelling f)
unfolding formal_events formal_spelling
formal_follows (formal.Moded pos first rest colon in_word out_word mark) =
    defined _ first rest colon (behind (optional_word _ in_word) (behind (optional_word _ out_word)
    (at_end e.DeclarationsEnd refl (dotted_follows _ _ mark))))
formal_follows (formal.Anonymous pos first rest colon access constant designated) =
    defined _ first rest colon (past _ (behind (optional_word _ constant)
    (at_end e.DeclarationsEnd refl (dotted_follows _ _ designated))))

next_formal_follows : (f : NextFormal) → Follows (next_formal_events f) (next_formal_spelling f)
unfolding next_formal_events next_formal_spelling
next_formal_follows (next_formal.Semicolon pos part) = past _ (formal_follows part)

formals_follow : (d : ℕ) (f : Formals) → Follows (formals_events f) (formals_spelling d f)
unfolding formals_spelling
formals_follow d f =
    past _ (both (formal_follows f.first) (ahead _ (each next_formal_events next_formal_spelling next_formal_follows f.rest)))

subspec_follows : (d : ℕ) (f : DeclarationForm) (s : Subspec) → Follows (subspec_events f s) (subspec_spelling d s)
unfolding subspec_events subspec_spelling
subspec_follows d f (subspec.Procedure pos id formals) =
    past _ (declared _ Apart id (silent e.RegionOpens refl (at_end e.OuterDeclarationsEnd refl (maybe formals_events (formals_spelling (suc d)) (formals_follow (suc d)) formals))))
subspec_follows d f (subspec.Function pos id formals return_word result) =
    past _ (declared _ Apart id (silent e.RegionOpens refl (both (maybe formals_events (formals_spelling (suc d)) (formals_follow (suc d)) formals)
    (past _ (at_end e.OuterDeclarationsEnd refl (indication_follows result))))))

subprogram_follows : (d : ℕ) (b : SubprogramBody) → Follows (subprogram_events b) (subprogram_spelling d b)
unfolding subprogram_events subprogram_spelling
subprogram_follows d b =
    both (subspec_follows d (body_form b.spec) b.spec) (behind (optional mode_spelling b.mode) (past _ (both (items_follow (suc d) b.items)
    (past _ (both (stmts_follow (suc d) b.stmts) (silent e.RegionCloses refl (closing_follows (subspec_name b.spec) b.closing)))))))

decl_follows : (d : ℕ) (x : Decl) → Follows (decl_events x) (decl_spelling d x)
unfolding decl_events decl_spelling
decl_follows d (decl.OfItem pos declared) = item_follows d declared
decl_follows d (decl.Subprogram pos spec mode semicolon) =
    both (subspec_follows d _ spec) (silent e.RegionCloses refl none)

body_part_follows : (d : ℕ) (x : BodyPart) → Follows (body_part_events x) (body_part_spelling d x)
unfolding body_part_events body_part_spelling
body_part_follows d (body_part.Declared pos declared) = decl_follows d declared
body_part_follows d (body_part.Completed pos body) = subprogram_follows d body

private_follows : (d : ℕ) (p : PrivatePart) → Follows (private_events p) (private_spelling d p)
unfolding private_spelling
private_follows d p = past _ (silent e.PrivatePartBegins refl (each decl_events (decl_spelling d) (decl_follows d) p.decls))

package_follows : (d : ℕ) (p : Package) → Follows (package_events p) (package_spelling d p)
unfolding package_spelling
package_follows d p =
    past _ (declared _ Apart p.name (silent e.DeclarationsEnd refl (silent e.RegionOpens refl (behind (optional mode_spelling p.mode) (past _
    (both (each decl_events (decl_spelling (suc d)) (decl_follows (suc d)) p.visible)
    (both (maybe private_events (private_spelling (suc d)) (private_follows (suc d)) p.private)
    (silent e.RegionCloses refl (closing_follows p.name p.closing)))))))))

package_body_follows : (d : ℕ) (b : PackageBody) → Follows (package_body_events b) (package_body_spelling d b)
unfolding package_body_spelling
package_body_follows d b =
    past _ (past _ (body_declared Apart b.name (behind (optional mode_spelling b.mode) (past _
    (both (each body_part_events (body_part_spelling (suc d)) (body_part_follows (suc d)) b.parts)
    (silent e.RegionCloses refl (closing_follows b.name b.closing)))))))

context_follows : (c : Context) → Follows (context_events c) (context_spelling c)
unfolding context_events context_spelling
context_follows (context.With pos first rest semicolon) =
    past _ (both (dotted_follows _ _ first) (ahead _ (next_dotteds _ rest)))
context_follows (context.Use pos c) = use_follows c
context_follows (context.Pragma pos c) = none

-- what a unit begins with, but for its context, has no position
withs : (clauses : List Context) → event_positions (flat_map with_events clauses) ≡ []
unfolding with_events
withs [] = refl
withs (context.With pos first rest semicolon ∷ others) = withs_silent first rest (flat_map with_events others) ∙ withs others
withs (context.Use pos c ∷ others) = withs others
withs (context.Pragma pos c ∷ others) = withs others

front_follows : (body_of : Option (List ℕ)) (clauses : List Context) → Follows (unit_front body_of clauses) (flat_map context_spelling clauses)
front_follows body_of clauses =
    silent (e.UnitBegins body_of) refl (both (quiet_row (flat_map with_events clauses) (withs clauses)) (each context_events context_spelling context_follows clauses))

unit_follows : (u : SourceUnit) → Follows (unit_events u) (unit_spelling u)
unfolding unit_events unit_spelling
unit_follows (unit.OfPackage pos clauses whole) = both (front_follows None clauses) (package_follows 0 whole)
unit_follows (unit.OfBody pos clauses body) = both (front_follows (Some (folded body.name)) clauses) (package_body_follows 0 body)
unit_follows (unit.OfSubprogram pos clauses body) = both (front_follows None clauses) (subprogram_follows 0 body)

-- The events of a file.
pub file_follows : (units : List SourceUnit) → Follows (flat_map unit_events units) (source_spelling units)
file_follows units = each unit_events unit_spelling unit_follows units
