-- Lists of positions that ascend.
use Rattle.std.proofs.Common.{◌≡◌, inl, inr, ℕ, suc, ◌≤◌, arith, refl, sym, ap, ◌∙◌, subst, List, [], ◌∷◌, ◌++◌, map}
use Rattle.std.specs.List.{flat_map}
use Rattle.std.proofs.lemmas.List.{append-nil}
use Rattle.std.proofs.lemmas.List.Concat.{flat_map-append}
use Rattle.machine.specs.spark_base.declared.position.Pos.{Pos}
use Rattle.machine.specs.spark_base.Positions.{Precedes}
use Rattle.machine.specs.spark_base.Lists.{Has}
use Rattle.spark_base.proofs.Lists.{Has-append_cases}
use Rattle.spark_base.proofs.Positions.{file-Precedes}
use Rattle.ada_lexer.specs.declared.token.TokenKind.{TokenKind}
use Rattle.ada_lexer.specs.declared.token.TokenKind.TheVariants as kind
use Rattle.ada_lexer.specs.Tokens.{Cut}
use Rattle.token_reading.specs.Spelled.{EndOfFile, told_as}
use Rattle.token_reading.specs.Weights.{WeighedToken, bare}
use Rattle.token_reading.specs.Sources.{file_of}
use Rattle.ada_tree.specs.declared.unit.SourceUnit.{SourceUnit}
use Rattle.ada_tree.specs.Spelling.{source_spelling}
use Rattle.name_events.specs.Outline.{unit_events, source_events}
use Rattle.settled_types.specs.FilePositions.Order.{Ascends, IsLeftOf, token_position, token_positions, spelled_positions, event_position, event_positions}
use Rattle.settled_types.specs.FilePositions.Texts.{told_cut, AreInOrder, AreParsed}
use Rattle.settled_types.proofs.FilePositions.Rows.{left_both}
use Rattle.settled_types.proofs.FilePositions.Units.{file_follows}

-- ---- what is left of a list

pub left_has : (ps qs : List Pos) → IsLeftOf ps qs → (p : Pos) → Has ps p → Has qs p
left_has [] qs a p is = absurd is
left_has (x ∷ ps) [] a p is = absurd a
left_has (x ∷ ps) (q ∷ qs) (inl (e, a)) p is = elim is [ inl same ↦ inl (e ∙ same) | inr is ↦ inr (left_has ps qs a p is) ]
left_has (x ∷ ps) (q ∷ qs) (inr a) p is = inr (left_has (x ∷ ps) qs a p is)

pub left_ascends : (ps qs : List Pos) → IsLeftOf ps qs → Ascends qs → Ascends ps
left_ascends [] qs a up = tt
left_ascends (x ∷ ps) [] a up = absurd a
left_ascends (x ∷ ps) (q ∷ qs) (inl (e, a)) up =
    ((λ p is. subst (λ from. Precedes from p) e (up.0 p (left_has ps qs a p is))), left_ascends ps qs a up.1)
left_ascends (x ∷ ps) (q ∷ qs) (inr a) up = left_ascends (x ∷ ps) qs a up.1

ascends_both : (ps qs : List Pos) → Ascends ps → Ascends qs → ((p q : Pos) → Has ps p → Has qs q → Precedes p q) → Ascends (ps ++ qs)
ascends_both [] qs a b across = b
ascends_both (x ∷ ps) qs a b across = (
  λ q is. elim (Has-append_cases ps qs q is) [ inl is ↦ a.0 q is | inr is ↦ across x q (inl refl) is ],
  ascends_both ps qs a.1 b (λ p q is that. across p q (inr is) that),
)

-- ---- the tokens of one text

token_has : (k : TokenKind) (pos : Pos) (text : List ℕ) (p : Pos) → Has (token_position (told_as k pos text)) p → pos ≡ p
token_has (kind.Word word) pos text p is = elim is [ inl e ↦ e | inr never ↦ absurd never ]
token_has kind.Ident pos text p is = elim is [ inl e ↦ e | inr never ↦ absurd never ]
token_has (kind.Number number) pos text p is = elim is [ inl e ↦ e | inr never ↦ absurd never ]
token_has kind.Str pos text p is = elim is [ inl e ↦ e | inr never ↦ absurd never ]
token_has (kind.Symbol symbol) pos text p is = elim is [ inl e ↦ e | inr never ↦ absurd never ]
token_has kind.EndOfFile pos text p is = absurd is

one_ascends : (k : TokenKind) (pos : Pos) (text : List ℕ) → Ascends (token_position (told_as k pos text))
one_ascends (kind.Word word) pos text = ((λ q is. absurd is), tt)
one_ascends kind.Ident pos text = ((λ q is. absurd is), tt)
one_ascends (kind.Number number) pos text = ((λ q is. absurd is), tt)
one_ascends kind.Str pos text = ((λ q is. absurd is), tt)
one_ascends (kind.Symbol symbol) pos text = ((λ q is. absurd is), tt)
one_ascends kind.EndOfFile pos text = tt

-- each position is that of a token
stands_at : (P : Pos → Type 0) (cuts : List Cut) → ((x : Cut) → Has cuts x → P x.pos) → (p : Pos) → Has (token_positions (map told_cut cuts)) p → P p
stands_at P [] all p is = absurd is
stands_at P (t ∷ rest) all p is = elim (Has-append_cases (token_position (told_cut t)) (token_positions (map told_cut rest)) p is) [
  | inl here ↦ subst P (token_has t.kind t.pos t.text p here) (all t (inl refl))
  | inr later ↦ stands_at P rest (λ x has. all x (inr has)) p later
]

tokens_ascend : (cuts : List Cut) → AreInOrder cuts → Ascends (token_positions (map told_cut cuts))
tokens_ascend [] ordered = tt
tokens_ascend (t ∷ rest) ordered =
    ascends_both (token_position (told_cut t)) (token_positions (map told_cut rest)) (one_ascends t.kind t.pos t.text)
    (tokens_ascend rest ordered.1)
    (λ p q here later. subst (λ from. Precedes from q) (token_has t.kind t.pos t.text p here)
    (stands_at (Precedes t.pos) rest ordered.0 q later))

bare_positions : (ms : List WeighedToken) → token_positions (bare ms) ≡ spelled_positions ms
bare_positions [] = refl
bare_positions (m ∷ ms) = ap (λ ps. token_position m.token ++ ps) (bare_positions ms)

pub file_positions : (ms : List WeighedToken) → token_positions (file_of ms) ≡ spelled_positions ms
file_positions ms = flat_map-append token_position (bare ms) (EndOfFile ∷ []) ∙ append-nil (token_positions (bare ms)) ∙ bare_positions ms

-- ---- texts

abbrev pub text_positions : List (List Cut) → List Pos
text_positions texts = flat_map (λ cuts. token_positions (map told_cut cuts)) texts

later_files : (file : ℕ) (texts : List (List Cut)) (files : List (List SourceUnit)) → AreParsed file texts files
    → (p : Pos) → Has (text_positions texts) p → file ≤ p.file
later_files file [] [] are p is = absurd is
later_files file [] (units ∷ files) are p is = absurd are
later_files file (cuts ∷ texts) [] are p is = absurd are
later_files file (cuts ∷ texts) (units ∷ files) are p is =
    elim (Has-append_cases (token_positions (map told_cut cuts)) (text_positions texts) p is) [
      | inl here ↦ let e = stands_at (λ (q : Pos). q.file ≡ file) cuts are.0.in_file p here in omega (arith, e)
      | inr later ↦ let less = later_files (suc file) texts files are.2 p later in omega (arith, less)
    ]

-- The positions of all tokens ascend.
pub texts_ascend : (file : ℕ) (texts : List (List Cut)) (files : List (List SourceUnit)) → AreParsed file texts files → Ascends (text_positions texts)
texts_ascend file [] [] are = tt
texts_ascend file [] (units ∷ files) are = absurd are
texts_ascend file (cuts ∷ texts) [] are = absurd are
texts_ascend file (cuts ∷ texts) (units ∷ files) are =
    ascends_both (token_positions (map told_cut cuts)) (text_positions texts) (tokens_ascend cuts are.0.ordered)
    (texts_ascend (suc file) texts files are.2) (λ p q here later.
    let e = stands_at (λ (q : Pos). q.file ≡ file) cuts are.0.in_file p here in
    let less = later_files (suc file) texts files are.2 q later in
    file-Precedes p q (omega (arith, e, less)))

-- ---- events

pub events_left : (file : ℕ) (texts : List (List Cut)) (files : List (List SourceUnit)) → AreParsed file texts files
    → IsLeftOf (event_positions (source_events files)) (text_positions texts)
unfolding source_events
events_left file [] [] are = tt
events_left file [] (units ∷ files) are = absurd are
events_left file (cuts ∷ texts) [] are = absurd are
events_left file (cuts ∷ texts) (units ∷ files) are =
    let spelled : spelled_positions (source_spelling units) ≡ token_positions (map told_cut cuts)
    = sym (file_positions (source_spelling units)) ∙ ap token_positions are.1.spelled in
    let here = subst (IsLeftOf (event_positions (flat_map unit_events units))) spelled (file_follows units).in_order in
    subst (λ ps. IsLeftOf ps (text_positions (cuts ∷ texts))) (sym (flat_map-append event_position (flat_map unit_events units) (source_events files)))
    (left_both (event_positions (flat_map unit_events units)) (event_positions (source_events files)) (token_positions (map told_cut cuts)) (text_positions texts)
    here (events_left (suc file) texts files are.2))

-- The events of parsed files stand in the order of their identifiers.
pub events_ascend : (texts : List (List Cut)) (files : List (List SourceUnit)) → AreParsed 0 texts files
    → Ascends (event_positions (source_events files))
events_ascend texts files are =
    left_ascends (event_positions (source_events files)) (text_positions texts) (events_left 0 texts files are) (texts_ascend 0 texts files are)
