-- Pure readers of lists of tokens, and how larger ones are made of them.
--
-- A reader takes a tree from the front of a list, or tells from where on the list can't be read,
-- and why. It is told how many operators the outermost expression has so far, and tells how many
-- there are after what it read.
use Rattle.std.specs.Prelude.{◌≡◌, ℕ, zero, suc, ◌+◌, Bool, false, ◌==◌, ◌||◌, if◌then◌else◌, List, [], ◌∷◌, length, map, Option, Some, None, Result, Ok, Err, ◌⊎◌, refl}
use Rattle.std.specs.Coded.{Coded, code_by, coded×, coded_ℕ, coded_list}
use Rattle.std.specs.Str.{bytes_eq}
use Rattle.std.specs.Char.{to_ascii_lowercase}
use Rattle.std.proofs.Common.{inl, inr}
use denote.Enum.Bare.{sameb}
use denote.Enum.Declared.{tag_of}
use Rattle.spark_base.specs.declared.position.Pos.{Pos}
use Rattle.ada_lexer.specs.declared.token.Reserved.{Reserved}
use Rattle.ada_lexer.specs.declared.token.Symbol.{Symbol}
use Rattle.ada_lexer.specs.contracts.token.Reserved as reserved
use Rattle.ada_lexer.specs.contracts.token.Symbol as symbols
use Rattle.token_reading.specs.declared.fault.ReadFault.{ReadFault}
use Rattle.token_reading.specs.declared.fault.ReadFault.TheVariants as fault
use Rattle.token_reading.specs.declared.side.Side.{Side}
use Rattle.token_reading.specs.declared.side.Side.TheVariants.{Apart, Within}
use Rattle.token_reading.specs.Weights.{Weight, resting, opening, operating}
use Rattle.token_reading.specs.Spelled.{Spelled, Word, Ident, Number, Str, Delimiter, EndOfFile, spelled_code}

pub data Cause : Type 0 where
  -- the token can't stand there
  Refused : Cause
  -- the token opens a construct or is an operator, and exceeds the limit
  OverLimit : Cause

pub data Outcome (A : Type 0) : Type 0 where
  -- what was read, the operators so far, and the tokens after it
  Got : A → ℕ → List Spelled → Outcome A
  -- the tokens from the faulty one on
  Fails : Cause → List Spelled → Outcome A

-- by the operators so far and the tokens
abbrev pub Reader : Type 0 → Type 0
Reader A = ℕ → List Spelled → Outcome A

-- What a cursor has: the operators of the outermost expression so far, and the tokens that haven't
-- been read.
pub record Ahead : Type 0 where
  pub operators : ℕ
  pub tokens : List Spelled

-- A result tells of this outcome, but where memory runs out.
abbrev pub Gives : {A : Type 0} → Outcome A → Result A ReadFault → Ahead → Type 0
Gives outcome (Ok a) new = outcome ≡ Got a new.operators new.tokens
Gives outcome (Err fault.Refused) new = outcome ≡ Fails Refused new.tokens
Gives outcome (Err fault.OverLimit) new = outcome ≡ Fails OverLimit new.tokens
Gives outcome (Err fault.Memory) new = Unit {0}

-- The outcome of a reader at a cursor.
abbrev pub at : {A : Type 0} → Reader A → Ahead → Outcome A
at p old = p old.operators old.tokens

-- What a function promises that reads from a cursor as this reader does.
abbrev pub Reads : {A : Type 0} → Reader A → Ahead → Result A ReadFault → Ahead → Type 0
Reads p old result new = Gives (at p old) result new

-- ---- how such a cursor is coded as a value that a contract sees

abbrev pub ahead_code : Coded Ahead
ahead_code = code_by (ℕ × List Spelled) (coded× coded_ℕ (coded_list spelled_code))
    (λ a. (a.operators, a.tokens)) (λ x. record { operators = x.0; tokens = x.1 }) (λ a. refl)

-- ---- kinds of tokens by number, so that sets of them are lists of numbers

abbrev pub of_word : Reserved → ℕ
of_word word = tag_of reserved.the_type word

abbrev pub of_symbol : Symbol → ℕ
of_symbol symbol = 100 + tag_of symbols.the_type symbol

abbrev pub of_ident : ℕ
of_ident = 200

abbrev pub of_number : ℕ
of_number = 201

abbrev pub of_string : ℕ
of_string = 202

abbrev pub of_end : ℕ
of_end = 203

abbrev pub code : Spelled → ℕ
code (Word word pos) = of_word word
code (Ident pos text) = of_ident
code (Number value pos) = of_number
code (Str pos text) = of_string
code (Delimiter symbol pos) = of_symbol symbol
code EndOfFile = of_end

abbrev pub is_in : List ℕ → ℕ → Bool
is_in [] k = false
is_in (m ∷ ms) k = (k == m) || is_in ms k

-- The next token is of one of these kinds.
abbrev pub starts : List ℕ → List Spelled → Bool
starts ms [] = false
starts ms (t ∷ ts) = is_in ms (code t)

-- ---- one token

abbrev pub weighed : {A : Type 0} → Weight → A → ℕ → Spelled → List Spelled → Outcome A
weighed w a k t ts = if w.exceeds k then Fails OverLimit (t ∷ ts) else Got a (w.step k) ts

abbrev pub taken : {A : Type 0} → Weight → Option A → ℕ → Spelled → List Spelled → Outcome A
taken w (Some a) k t ts = weighed w a k t ts
taken w None k t ts = Fails Refused (t ∷ ts)

abbrev pub one_of : {A : Type 0} → Weight → (Spelled → Option A) → Reader A
one_of w f k [] = Fails Refused []
one_of w f k (t ∷ ts) = taken w (f t) k t ts

abbrev pub word_position : Reserved → Spelled → Option Pos
word_position word (Word it pos) = if sameb reserved.the_type it word then Some pos else None
word_position word _ = None

-- the reserved word, as its position
abbrev pub word : Side → Reserved → Reader Pos
word side v = one_of (resting side) (word_position v)

-- the reserved word apart from all expressions, which opens a construct, with so many open around
-- it
abbrev pub opens_word : Reserved → ℕ → Reader Pos
opens_word v depth = one_of (opening Apart depth) (word_position v)

-- the reserved word, which is an operator
abbrev pub operator_word : Reserved → Reader Pos
operator_word v = one_of operating (word_position v)

abbrev pub symbol_position : Symbol → Spelled → Option Pos
symbol_position symbol (Delimiter it pos) = if sameb symbols.the_type it symbol then Some pos else None
symbol_position symbol _ = None

-- the delimiter, as its position
abbrev pub symbol : Side → Symbol → Reader Pos
symbol side v = one_of (resting side) (symbol_position v)

-- the delimiter, which opens a construct, with so many open around it
abbrev pub opens_symbol : Side → Symbol → ℕ → Reader Pos
opens_symbol side v depth = one_of (opening side depth) (symbol_position v)

-- the delimiter, which is an operator
abbrev pub operator_symbol : Symbol → Reader Pos
operator_symbol v = one_of operating (symbol_position v)

-- A position, and the text that stands there.
abbrev pub PositionedText : Type 0
PositionedText = Pos × List ℕ

abbrev pub identifier_of : Spelled → Option PositionedText
identifier_of (Ident pos text) = Some (pos, text)
identifier_of _ = None

abbrev pub ident : Side → Reader PositionedText
ident side = one_of (resting side) identifier_of

abbrev pub called_of : List ℕ → Spelled → Option PositionedText
called_of name (Ident pos text) = if bytes_eq (map to_ascii_lowercase text) name then Some (pos, text) else None
called_of name _ = None

-- the identifier with this spelling in lower case, apart from all expressions
abbrev pub ident_called : List ℕ → Reader PositionedText
ident_called name = one_of (resting Apart) (called_of name)

abbrev pub string_of : Spelled → Option PositionedText
string_of (Str pos text) = Some (pos, text)
string_of _ = None

abbrev pub string : Reader PositionedText
string = one_of (resting Within) string_of

abbrev pub number_of : Spelled → Option (Pos × ℕ)
number_of (Number value pos) = Some (pos, value)
number_of _ = None

-- the number, as its position and its value
abbrev pub number : Reader (Pos × ℕ)
number = one_of (resting Within) number_of

abbrev pub end_of : Spelled → Option (Unit {0})
end_of EndOfFile = Some tt
end_of _ = None

abbrev pub file_end : Reader (Unit {0})
file_end = one_of (resting Apart) end_of

-- ---- larger readers

abbrev pub and_then : {A B : Type 0} → Outcome A → (A → Reader B) → Outcome B
and_then (Got a k rest) q = q a k rest
and_then (Fails c rest) q = Fails c rest

-- one reader, then one that may look at what was read
abbrev pub chain : {A B : Type 0} → Reader A → (A → Reader B) → Reader B
chain p q k ts = and_then (p k ts) q

-- what is read, made into a tree
abbrev pub to : {A B : Type 0} → (A → B) → Reader A → Reader B
to f p k ts = and_then (p k ts) (λ a j rest. Got (f a) j rest)

-- one reader, then another that may look at what was read
abbrev pub seq_on : {A B : Type 0} → Reader A → (A → Reader B) → Reader (A × B)
seq_on p q k ts = and_then (p k ts) (λ a j more. and_then (q a j more) (λ b i rest. Got (a, b) i rest))

-- one reader, then another
abbrev pub seq : {A B : Type 0} → Reader A → Reader B → Reader (A × B)
seq p q = seq_on p (λ a. q)

abbrev pub nothing : Reader (Unit {0})
nothing k ts = Got tt k ts

-- the first reader where the next token is of one of these kinds, else the second
abbrev pub either : {A : Type 0} → List ℕ → Reader A → Reader A → Reader A
either ms p q k ts = if starts ms ts then p k ts else q k ts

-- the same, which tells the two apart
abbrev pub choose : {A B : Type 0} → List ℕ → Reader A → Reader B → Reader (A ⊎ B)
choose ms p q k ts = if starts ms ts then to inl p k ts else to inr q k ts

-- the reader where the next token is of one of these kinds, else nothing
abbrev pub optional : {A : Type 0} → List ℕ → Reader A → Reader (Option A)
optional ms p k ts = if starts ms ts then to Some p k ts else Got None k ts

abbrev pub many_up_to : {A : Type 0} → List ℕ → Reader A → ℕ → Reader (List A)
many_up_to ms p zero k ts = Got [] k ts
many_up_to ms p (suc n) k ts =
    if starts ms ts then and_then (p k ts) (λ a j more. and_then (many_up_to ms p n j more) (λ more_of i rest. Got (a ∷ more_of) i rest))
    else Got [] k ts

-- one after the other while the next token is of one of these kinds; each takes a token, so their
-- count is enough
unfoldable pub many : {A : Type 0} → List ℕ → Reader A → Reader (List A)
many ms p k ts = many_up_to ms p (length ts) k ts

abbrev pub in_front : {A : Type 0} → A × List A → List A
in_front x = x.0 ∷ x.1

-- at least one, and then one after the other while the next token is of one of these kinds
abbrev pub some : {A : Type 0} → List ℕ → Reader A → Reader (List A)
some ms p = to in_front (seq p (many ms p))

-- a whole file: what this reader reads, and then the end of the file
abbrev pub whole_file : {A : Type 0} → Reader A → Reader A
whole_file p = to (λ x. x.0) (seq p file_end)

-- ---- the position of a part that begins with another part

abbrev pub position : Spelled → Option Pos
position (Word word pos) = Some pos
position (Ident pos text) = Some pos
position (Number value pos) = Some pos
position (Str pos text) = Some pos
position (Delimiter symbol pos) = Some pos
position EndOfFile = None

abbrev pub stays : Option Pos → ℕ → List Spelled → Outcome Pos
stays (Some pos) k ts = Got pos k ts
stays None k ts = Fails Refused ts

-- the position of the next token, which stays
abbrev pub here : Reader Pos
here k [] = Fails Refused []
here k (t ∷ ts) = stays (position t) k (t ∷ ts)

-- what is read, made into a tree with the position of its first token
abbrev pub placed : {A B : Type 0} → (Pos → A → B) → Reader A → Reader B
placed f p = to (λ x. f x.0 x.1) (seq here p)

-- The first of the tokens stands there.
abbrev pub StartsAt : Pos → List Spelled → Type 0
StartsAt pos [] = ⊥
StartsAt pos (t ∷ ts) = position t ≡ Some pos

-- The fact holds of each element.
abbrev pub Each : {A : Type 0} → (A → Type 0) → List A → Type 0
Each P [] = Unit {0}
Each P (x ∷ xs) = P x × Each P xs
