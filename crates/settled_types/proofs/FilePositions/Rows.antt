-- Parts in a row, events and tokens.
use Rattle.std.proofs.Common.{◌≡◌, inl, inr, refl, sym, List, [], ◌∷◌, ◌++◌, map, Option, Some, None, subst, append_assoc}
use Rattle.std.specs.List.{flat_map}
use Rattle.std.proofs.lemmas.List.Concat.{flat_map-append}
use Rattle.machine.specs.spark_base.declared.position.Pos.{Pos}
use Rattle.token_reading.specs.Weights.{WeighedToken}
use Rattle.name_events.specs.declared.event.Event.{Event}
use Rattle.name_events.specs.declared.event.Event.TheVariants as e
use Rattle.name_events.specs.ExpressionOutline.{each_of, declares, declares_all, next_name, part_name, folded_identifier, mention, named, folded, next_dotted_name}
use Rattle.name_events.specs.Outline.{closing_events, has_with}
use Rattle.ada_lexer.specs.declared.token.Symbol.TheVariants as s
use Rattle.ada_tree.specs.declared.identifier.Identifier.{Identifier}
use Rattle.ada_tree.specs.declared.identifier.NextIdentifier.{NextIdentifier}
use Rattle.ada_tree.specs.declared.identifier.NextIdentifier.TheVariants as next_id
use Rattle.ada_tree.specs.declared.identifier.Dotted.{Dotted}
use Rattle.ada_tree.specs.declared.identifier.NextDotted.{NextDotted}
use Rattle.ada_tree.specs.declared.identifier.NextPart.{NextPart}
use Rattle.ada_tree.specs.declared.identifier.NextPart.TheVariants as next_part
use Rattle.token_reading.specs.declared.side.Side.{Side}
use Rattle.token_reading.specs.declared.side.Side.TheVariants.{Apart}
use Rattle.name_events.specs.declared.declaration.DeclarationForm.{DeclarationForm}
use Rattle.name_events.specs.declared.event.Clause.{Clause}
use Rattle.name_events.specs.declared.event.FoldedIdentifier.{FoldedIdentifier}
use Rattle.ada_tree.specs.Spelling.{optional, id_mark, symbol, next_identifier_spelling, next_part_spelling, dotted_spelling, defining_spelling}
use Rattle.settled_types.specs.FilePositions.Order.{IsLeftOf, token_position, event_position, event_positions, spelled_positions, Follows}

pub left_behind : (ps us bs : List Pos) → IsLeftOf ps bs → IsLeftOf ps (us ++ bs)
left_behind ps [] bs a = a
left_behind [] (x ∷ us) bs a = tt
left_behind (p ∷ ps) (x ∷ us) bs a = inr (left_behind (p ∷ ps) us bs a)

pub left_both : (ps qs us bs : List Pos) → IsLeftOf ps us → IsLeftOf qs bs → IsLeftOf (ps ++ qs) (us ++ bs)
left_both [] qs us bs a b = left_behind qs us bs b
left_both (p ∷ ps) qs [] bs a b = absurd a
left_both (p ∷ ps) qs (x ∷ us) bs (inl (e, r)) b = inl (e, left_both ps qs us bs r b)
left_both (p ∷ ps) qs (x ∷ us) bs (inr r) b = inr (left_both (p ∷ ps) qs us bs r b)

pub none : {ms : List WeighedToken} → Follows [] ms
none = record { in_order = tt }

pub both : {xs ys : List Event} {ms ns : List WeighedToken} → Follows xs ms → Follows ys ns → Follows (xs ++ ys) (ms ++ ns)
both {xs = xs} {ys = ys} {ms = ms} {ns = ns} a b = record {
  in_order = rw (flat_map-append event_position xs ys) rw (flat_map-append (λ (m : WeighedToken). token_position m.token) ms ns)
      (left_both (event_positions xs) (event_positions ys) (spelled_positions ms) (spelled_positions ns) a.in_order b.in_order);
}

-- events in other groups
pub grouped : (xs ys zs : List Event) {ms : List WeighedToken} → Follows (xs ++ (ys ++ zs)) ms → Follows ((xs ++ ys) ++ zs) ms
grouped xs ys zs {ms = ms} a = subst (λ all. Follows all ms) (sym (append_assoc xs ys zs)) a

pub ungrouped : (xs ys zs : List Event) {ms : List WeighedToken} → Follows ((xs ++ ys) ++ zs) ms → Follows (xs ++ (ys ++ zs)) ms
ungrouped xs ys zs {ms = ms} a = subst (λ all. Follows all ms) (append_assoc xs ys zs) a

-- a token without an event
pub past : (m : WeighedToken) {ys : List Event} {ns : List WeighedToken} → Follows ys ns → Follows ys (m ∷ ns)
past m {ys = ys} {ns = ns} a = record { in_order = left_behind (event_positions ys) (token_position m.token) (spelled_positions ns) a.in_order }

pub behind : (ms : List WeighedToken) {ys : List Event} {ns : List WeighedToken} → Follows ys ns → Follows ys (ms ++ ns)
behind ms a = both (none {ms = ms}) a

-- tokens at the end
pub ahead : (ns : List WeighedToken) {xs : List Event} {ms : List WeighedToken} → Follows xs ms → Follows xs (ms ++ ns)
ahead ns {xs = xs} {ms = ms} a = record {
  in_order = rw (flat_map-append (λ (m : WeighedToken). token_position m.token) ms ns) (by (event_positions xs) (spelled_positions ms) a.in_order);
}
  where
    by : (ps us : List Pos) → IsLeftOf ps us → IsLeftOf ps (us ++ spelled_positions ns)
    by [] us r = tt
    by (p ∷ ps) [] r = absurd r
    by (p ∷ ps) (x ∷ us) (inl (e, r)) = inl (e, by ps us r)
    by (p ∷ ps) (x ∷ us) (inr r) = inr (by (p ∷ ps) us r)

-- lists
pub each : {A : Type 0} (f : A → List Event) (s : A → List WeighedToken) → ((x : A) → Follows (f x) (s x)) → (xs : List A)
    → Follows (flat_map f xs) (flat_map s xs)
each f s one [] = none
each f s one (x ∷ rest) = both (one x) (each f s one rest)

pub maybe : {A : Type 0} (f : A → List Event) (s : A → List WeighedToken) → ((x : A) → Follows (f x) (s x)) → (o : Option A)
    → Follows (each_of f o) (optional s o)
maybe f s one None = none
maybe f s one (Some x) = one x

-- ---- one event

pub silent : (x : Event) {ys : List Event} {ms : List WeighedToken} → event_position x ≡ [] → Follows ys ms → Follows (x ∷ ys) ms
silent x e a = record { in_order = rw e a.in_order }

pub declared : (f : DeclarationForm) (side : Side) (id : Identifier) {ys : List Event} {ms : List WeighedToken} → Follows ys ms
    → Follows (declares f id ∷ ys) (id_mark side id ∷ ms)
declared f side id a = record { in_order = inl (refl, a.in_order) }

nexts : (f : DeclarationForm) (rest : List NextIdentifier)
    → IsLeftOf (event_positions (map (declares f) (map next_name rest))) (spelled_positions (flat_map next_identifier_spelling rest))
unfolding next_identifier_spelling next_name
nexts f [] = tt
nexts f (next_id.FurtherIdentifier pos id ∷ rest) = inr (inl (refl, nexts f rest))

pub all_declared : (f : DeclarationForm) (first : Identifier) (rest : List NextIdentifier)
    → Follows (declares_all f first rest) (id_mark Apart first ∷ flat_map next_identifier_spelling rest)
all_declared f first rest = record { in_order = inl (refl, nexts f rest) }

pub defined : (f : DeclarationForm) (first : Identifier) (rest : List NextIdentifier) (colon : Pos) {ys : List Event} {ms : List WeighedToken}
    → Follows ys ms → Follows (declares_all f first rest ++ ys) (defining_spelling first rest colon ms)
defined f first rest colon a = both (all_declared f first rest) (past (symbol Apart s.Colon colon) a)

-- components have no declaration
fields : (rest : List NextIdentifier)
    → event_positions (map (λ id. e.DeclaresComponent (folded_identifier id)) (map next_name rest)) ≡ []
fields [] = refl
fields (x ∷ rest) = fields rest

pub components_follow : (first : Identifier) (rest : List NextIdentifier)
    → Follows (map (λ id. e.DeclaresComponent (folded_identifier id)) (first ∷ map next_name rest)) (id_mark Apart first ∷ flat_map next_identifier_spelling rest)
components_follow first rest = record { in_order = rw (fields rest) tt }

parts : (side : Side) (rest : List NextPart)
    → IsLeftOf (map (λ id. id.pos) (map (λ p. folded_identifier (part_name p)) rest) ++ []) (spelled_positions (flat_map (next_part_spelling side) rest))
unfolding next_part_spelling part_name
parts side [] = tt
parts side (next_part.FurtherPart pos id ∷ rest) = inr (inl (refl, parts side rest))

pub dotted_follows : (c : Clause) (side : Side) (dotted : Dotted) → Follows (mention c dotted ∷ []) (dotted_spelling side dotted)
unfolding dotted_spelling
dotted_follows c side dotted = record { in_order = inl (refl, parts side dotted.rest) }

pub mentioned : (c : Clause) (side : Side) (dotted : Dotted) {ys : List Event} {ms : List WeighedToken} → Follows ys ms
    → Follows (mention c dotted ∷ ys) (dotted_spelling side dotted ++ ms)
mentioned c side dotted a = both (dotted_follows c side dotted) a

-- ---- names

-- A name goes on with these identifiers, and then come these events.
pub record GoesOn (ids : List FoldedIdentifier) (xs : List Event) (ms : List WeighedToken) : Type 0 where
  pub in_order : IsLeftOf (map (λ id. id.pos) ids ++ event_positions xs) (spelled_positions ms)

pub no_more : {xs : List Event} {ms : List WeighedToken} → Follows xs ms → GoesOn [] xs ms
no_more a = record { in_order = a.in_order }

pub one_more : (m : WeighedToken) (side : Side) (id : Identifier) {ids : List FoldedIdentifier} {xs : List Event} {ms : List WeighedToken} → GoesOn ids xs ms
    → GoesOn (folded_identifier id ∷ ids) xs (m ∷ id_mark side id ∷ ms)
one_more m side id {ids = ids} {xs = xs} {ms = ms} a = record {
  in_order = left_behind (map (λ id. id.pos) (folded_identifier id ∷ ids) ++ event_positions xs) (token_position m.token)
      (spelled_positions (id_mark side id ∷ ms)) (inl (refl, a.in_order));
}

pub whole_name : (c : Clause) (side : Side) (id : Identifier) {ids : List FoldedIdentifier} {xs : List Event} {ms : List WeighedToken} → GoesOn ids xs ms
    → Follows (e.Mentions c (named id ids) ∷ xs) (id_mark side id ∷ ms)
whole_name c side id a = record { in_order = inl (refl, a.in_order) }

-- ---- what has no position

-- events without a position, and no token
pub quiet_row : (xs : List Event) → event_positions xs ≡ [] → Follows xs []
quiet_row xs e = record { in_order = rw e tt }

pub closing_follows : (of : Identifier) (closing : Option Identifier) {ms : List WeighedToken} → Follows (closing_events of closing) ms
closing_follows of None = none
closing_follows of (Some id) = silent (e.EndsWithName (folded_identifier id) (folded of)) refl none

nexts_silent : (rest : List NextDotted) (others : List Event)
    → event_positions (map has_with (map next_dotted_name rest) ++ others) ≡ event_positions others
nexts_silent [] others = refl
nexts_silent (x ∷ rest) others = nexts_silent rest others

pub withs_silent : (first : Dotted) (rest : List NextDotted) (others : List Event)
    → event_positions (map has_with (first ∷ map next_dotted_name rest) ++ others) ≡ event_positions others
withs_silent first rest others = nexts_silent rest others

pub body_declared : (side : Side) (id : Identifier) {ys : List Event} {ms : List WeighedToken} → Follows ys ms
    → Follows (e.PackageBodyOpens (folded_identifier id) ∷ ys) (id_mark side id ∷ ms)
body_declared side id a = record { in_order = inl (refl, a.in_order) }
