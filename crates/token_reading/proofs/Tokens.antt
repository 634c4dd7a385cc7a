-- The laws of the readers of one token.
use Rattle.std.proofs.Common.{◌≡◌, refl, sym, ap, ◌∙◌, subst, ℕ, Bool, true, false, List, [], ◌∷◌, ◌++◌, Option, Some, None}
use Rattle.std.specs.Prelude.{if◌then◌else◌, map, codes}
use Rattle.std.specs.Char.{to_ascii_lowercase}
use Rattle.std.specs.Str.{bytes_eq}
use Rattle.std.specs.Cmp.Lexicographic.{bytes_decides}
use Rattle.spark_base.specs.declared.position.Pos.{Pos}
use denote.Enum.Bare.{sameb, same_true, true_same}
use Rattle.ada_lexer.specs.declared.token.Reserved.{Reserved}
use Rattle.ada_lexer.specs.declared.token.Symbol.{Symbol}
use Rattle.ada_lexer.specs.contracts.token.Reserved as reserved
use Rattle.ada_lexer.specs.contracts.token.Symbol as symbols
use Rattle.token_reading.specs.Spelled.{Spelled, Word, Ident, Number, Str, Delimiter, EndOfFile}
use Rattle.token_reading.specs.declared.side.Side.{Side}
use Rattle.token_reading.specs.declared.side.Side.TheVariants.{Apart, Within}
use Rattle.token_reading.specs.Weights.{Weight, resting, opening, operating, WeighedToken, plain, opens, operates}
use Rattle.token_reading.specs.Reading.{Cause, Refused, OverLimit, Got, Fails, of_word, of_symbol, of_ident, of_number, of_string, code, is_in, taken, one_of, word_position, word, opens_word, operator_word, symbol_position, symbol, opens_symbol, operator_symbol, PositionedText, identifier_of, ident, called_of, ident_called, string_of, string, number_of, number}
use Rattle.token_reading.proofs.Sets.{is_in-own}
use Rattle.token_reading.proofs.Lists.{nothing_before, not_longer}
use Rattle.token_reading.proofs.Law.{Read, Accepted, Broken, Law, failed, Leaves, put, refused_here}

abbrev pub Any : {A : Type 0} → A → Type 0
Any a = Unit {0}

pub some_same : {A : Type 0} (a b : A) → Some a ≡ Some b → a ≡ b
some_same a b e = cc

-- ---- any one token

module _ {A : Type 0} (w : Weight) (f : Spelled → Option A) (good : A → Type 0) (token_of : A → Spelled) (first : List ℕ)
    (tells : (t : Spelled) (a : A) → f t ≡ Some a → good a × (t ≡ token_of a)) (takes : (a : A) → good a → f (token_of a) ≡ Some a)
    (begins : (a : A) → is_in first (code (token_of a)) ≡ true) (inside : (a : A) → token_of a ≡ EndOfFile → ⊥)
    (example : A) (sample : good example) where
  abbrev one_weighed : A → List WeighedToken
  one_weighed a = record { token = token_of a; weight = w } ∷ []

  weighed_got : (h : Bool) (b : A) (i : ℕ) (t : Spelled) (ts : List Spelled) (a : A) (j : ℕ) (rest : List Spelled)
      → (if h then Fails OverLimit (t ∷ ts) else Got b i ts) ≡ Got a j rest → (h ≡ false) × (b ≡ a) × (i ≡ j) × (ts ≡ rest)
  weighed_got true b i t ts a j rest e = absurd (cc)
  weighed_got false b i t ts a j rest e = (refl, cc, cc, cc)

  taken_sound : (o : Option A) (k : ℕ) (t : Spelled) (ts : List Spelled) (a : A) (j : ℕ) (rest : List Spelled) → f t ≡ o
      → taken w o k t ts ≡ Got a j rest → Read good one_weighed k (t ∷ ts) a j rest
  taken_sound (Some b) k t ts a j rest is e =
      let got = weighed_got (w.exceeds k) b (w.step k) t ts a j rest e in
      let told = tells t a (is ∙ ap (λ c. Some c) got.1) in
      let head : t ≡ token_of a = told.1 in
      let tail : ts ≡ rest = got.3 in
      record { fits = told.0; within_limits = (record { allowed = got.0; within_file = inside a }, tt); count = sym got.2; whole = cc }
  taken_sound None k t ts a j rest is e = absurd (cc)

  one_sound : (k : ℕ) (ts : List Spelled) (a : A) (j : ℕ) (rest : List Spelled) → one_of w f k ts ≡ Got a j rest
      → Read good one_weighed k ts a j rest
  one_sound k [] a j rest e = absurd (cc)
  one_sound k (t ∷ ts) a j rest e = taken_sound (f t) k t ts a j rest refl e

  weighed_accepts : (h : Bool) (k : ℕ) (a : A) (rest : List Spelled) → w.exceeds k ≡ h
      → Accepted a k (one_weighed a) rest (if h then Fails OverLimit (token_of a ∷ rest) else Got a (w.step k) rest)
  weighed_accepts true k a rest exceeds = record {
    front = [];
    weighed = record { token = token_of a; weight = w };
    behind = [];
    splits = refl;
    clear = tt;
    exceeds_limit = exceeds;
    at = refl;
  }
  weighed_accepts false k a rest exceeds = (refl, refl, refl, (record { allowed = exceeds; within_file = inside a }, tt))

  one_accepts : (k : ℕ) (a : A) (rest : List Spelled) → good a → Accepted a k (one_weighed a) rest (one_of w f k (token_of a ∷ rest))
  one_accepts k a rest g =
      subst (λ o. Accepted a k (one_weighed a) rest (taken w o k (token_of a) rest)) (sym (takes a g)) (weighed_accepts (w.exceeds k) k a rest refl)

  weighed_breaks : (h : Bool) (a : A) (k : ℕ) (t : Spelled) (ts : List Spelled) (c : Cause) (rest : List Spelled) → w.exceeds k ≡ h
      → good a → t ≡ token_of a → (if h then failed A OverLimit (t ∷ ts) else Got a (w.step k) ts) ≡ Fails c rest
      → Broken good one_weighed k c (t ∷ ts) rest
  weighed_breaks true a k t ts OverLimit rest exceeds g at e = record {
    before = [];
    tree = a;
    reached = one_weighed a;
    more = [];
    fits = g;
    clear = tt;
    reach = record { weighed = record { token = token_of a; weight = w }; exceeds_limit = exceeds; alone = refl; behind = ts; at = cc };
    splits = cc;
    goes_on = refl;
  }
  weighed_breaks true a k t ts Refused rest exceeds g at e = absurd (cc)
  weighed_breaks false a k t ts c rest exceeds g at e = absurd (cc)

  taken_breaks : (o : Option A) (k : ℕ) (t : Spelled) (ts : List Spelled) (c : Cause) (rest : List Spelled) → f t ≡ o
      → taken w o k t ts ≡ Fails c rest → Broken good one_weighed k c (t ∷ ts) rest
  taken_breaks (Some a) k t ts c rest is e =
      let told = tells t a is in weighed_breaks (w.exceeds k) a k t ts c rest refl told.0 told.1 e
  taken_breaks None k t ts c rest is e = refused_here example sample k (t ∷ ts) c rest e

  one_breaks : (k : ℕ) (ts : List Spelled) (c : Cause) (rest : List Spelled) → one_of w f k ts ≡ Fails c rest → Broken good one_weighed k c ts rest
  one_breaks k [] c rest e = refused_here example sample k [] c rest e
  one_breaks k (t ∷ ts) c rest e = taken_breaks (f t) k t ts c rest refl e

  weighed_local : (h : Bool) (a : A) (i : ℕ) (t : Spelled) (u : List Spelled) (x : Spelled) (r q : List Spelled)
      → Leaves (if h then failed A OverLimit (t ∷ (u ++ (x ∷ r))) else Got a i (u ++ (x ∷ r))) (x ∷ r)
      → (if h then failed A OverLimit (t ∷ (u ++ (x ∷ q))) else Got a i (u ++ (x ∷ q)))
      ≡ put (x ∷ q) (if h then failed A OverLimit (t ∷ (u ++ (x ∷ r))) else Got a i (u ++ (x ∷ r)))
  weighed_local true a i t u x r q e = absurd (not_longer t u (x ∷ r) e)
  weighed_local false a i t u x r q e = let none : u ≡ [] = nothing_before u (x ∷ r) e in ap (λ v. Got a i (v ++ (x ∷ q))) none

  taken_local : (o : Option A) (k : ℕ) (t : Spelled) (u : List Spelled) (x : Spelled) (r q : List Spelled)
      → Leaves (taken w o k t (u ++ (x ∷ r))) (x ∷ r) → taken w o k t (u ++ (x ∷ q)) ≡ put (x ∷ q) (taken w o k t (u ++ (x ∷ r)))
  taken_local (Some a) k t u x r q e = weighed_local (w.exceeds k) a (w.step k) t u x r q e
  taken_local None k t u x r q e = absurd (not_longer t u (x ∷ r) e)

  weighed_first : (h : Bool) (a : A) (i : ℕ) (x : Spelled) (r q : List Spelled)
      → Leaves (if h then failed A OverLimit (x ∷ r) else Got a i r) (x ∷ r)
      → (if h then failed A OverLimit (x ∷ q) else Got a i q) ≡ put (x ∷ q) (if h then failed A OverLimit (x ∷ r) else Got a i r)
  weighed_first true a i x r q e = refl
  weighed_first false a i x r q e = absurd (not_longer x [] r (sym e))

  taken_first : (o : Option A) (k : ℕ) (x : Spelled) (r q : List Spelled)
      → Leaves (taken w o k x r) (x ∷ r) → taken w o k x q ≡ put (x ∷ q) (taken w o k x r)
  taken_first (Some a) k x r q e = weighed_first (w.exceeds k) a (w.step k) x r q e
  taken_first None k x r q e = refl

  one_local : (k : ℕ) (u : List Spelled) (x : Spelled) (r q : List Spelled) → Leaves (one_of w f k (u ++ (x ∷ r))) (x ∷ r)
      → one_of w f k (u ++ (x ∷ q)) ≡ put (x ∷ q) (one_of w f k (u ++ (x ∷ r)))
  one_local k [] x r q e = taken_first (f x) k x r q e
  one_local k (t ∷ u) x r q e = taken_local (f t) k t u x r q e

  pub law_one : Law (one_of w f) good (λ a. record { token = token_of a; weight = w } ∷ []) first [] false
  law_one = record {
    example = example;
    sample = sample;
    leads = λ a g. begins a;
    sound = one_sound;
    accepts = λ k a rest g e. one_accepts k a rest g;
    breaks = one_breaks;
    local = one_local;
  }

-- ---- each kind of token

abbrev pub some_position : Pos
some_position = record { file = 0; line = 1; column = 1 }

pub if_some : {A : Type 0} (r : Bool) (a b : A) → (if r then Some a else None) ≡ Some b → (r ≡ true) × (a ≡ b)
if_some true a b e = (refl, cc)
if_some false a b e = absurd (cc)

pub some_if : {A : Type 0} (r : Bool) (a : A) → r ≡ true → (if r then Some a else None) ≡ Some a
some_if true a e = refl
some_if false a e = absurd (cc)

word_tells : (v : Reserved) (t : Spelled) (p : Pos) → word_position v t ≡ Some p → Any p × (t ≡ Word v p)
word_tells v (Word it pos) p e =
    let got = if_some (sameb reserved.the_type it v) pos p e in
    let same : it ≡ v = same_true reserved.the_type tt it v got.0 in
    let at : pos ≡ p = got.1 in
    (tt, cc)
word_tells v (Ident pos text) p e = absurd (cc)
word_tells v (Number n pos) p e = absurd (cc)
word_tells v (Str pos text) p e = absurd (cc)
word_tells v (Delimiter s pos) p e = absurd (cc)
word_tells v EndOfFile p e = absurd (cc)

-- A word of any weight.
pub law_weighed_word : (v : Reserved) (w : Weight)
    → Law (one_of w (word_position v)) Any (λ p. record { token = Word v p; weight = w } ∷ []) (of_word v ∷ []) [] false
law_weighed_word v w = law_one w (word_position v) Any (λ p. Word v p) (of_word v ∷ []) (word_tells v)
    (λ p g. some_if (sameb reserved.the_type v v) p (true_same reserved.the_type v v refl)) (λ p. is_in-own (of_word v)) (λ p e. cc) some_position tt

pub law_word : (side : Side) (v : Reserved) → Law (word side v) Any (λ p. plain side (Word v p) ∷ []) (of_word v ∷ []) [] false
law_word side v = law_weighed_word v (resting side)

pub law_opens_word : (v : Reserved) (d : ℕ) → Law (opens_word v d) Any (λ p. opens Apart d (Word v p) ∷ []) (of_word v ∷ []) [] false
law_opens_word v d = law_weighed_word v (opening Apart d)

pub law_operator_word : (v : Reserved) → Law (operator_word v) Any (λ p. operates (Word v p) ∷ []) (of_word v ∷ []) [] false
law_operator_word v = law_weighed_word v operating

symbol_tells : (v : Symbol) (t : Spelled) (p : Pos) → symbol_position v t ≡ Some p → Any p × (t ≡ Delimiter v p)
symbol_tells v (Delimiter it pos) p e =
    let got = if_some (sameb symbols.the_type it v) pos p e in
    let same : it ≡ v = same_true symbols.the_type tt it v got.0 in
    let at : pos ≡ p = got.1 in
    (tt, cc)
symbol_tells v (Ident pos text) p e = absurd (cc)
symbol_tells v (Number n pos) p e = absurd (cc)
symbol_tells v (Str pos text) p e = absurd (cc)
symbol_tells v (Word s pos) p e = absurd (cc)
symbol_tells v EndOfFile p e = absurd (cc)

-- A delimiter of any weight.
pub law_weighed_symbol : (v : Symbol) (w : Weight)
    → Law (one_of w (symbol_position v)) Any (λ p. record { token = Delimiter v p; weight = w } ∷ []) (of_symbol v ∷ []) [] false
law_weighed_symbol v w = law_one w (symbol_position v) Any (λ p. Delimiter v p) (of_symbol v ∷ []) (symbol_tells v)
    (λ p g. some_if (sameb symbols.the_type v v) p (true_same symbols.the_type v v refl)) (λ p. is_in-own (of_symbol v)) (λ p e. cc) some_position tt

pub law_symbol : (side : Side) (v : Symbol) → Law (symbol side v) Any (λ p. plain side (Delimiter v p) ∷ []) (of_symbol v ∷ []) [] false
law_symbol side v = law_weighed_symbol v (resting side)

pub law_opens_symbol : (side : Side) (v : Symbol) (d : ℕ)
    → Law (opens_symbol side v d) Any (λ p. opens side d (Delimiter v p) ∷ []) (of_symbol v ∷ []) [] false
law_opens_symbol side v d = law_weighed_symbol v (opening side d)

pub law_operator_symbol : (v : Symbol) → Law (operator_symbol v) Any (λ p. operates (Delimiter v p) ∷ []) (of_symbol v ∷ []) [] false
law_operator_symbol v = law_weighed_symbol v operating

abbrev pub id_token : PositionedText → Spelled
id_token x = Ident x.0 x.1

ident_tells : (t : Spelled) (x : PositionedText) → identifier_of t ≡ Some x → Any x × (t ≡ id_token x)
ident_tells (Ident pos text) x e = (tt, ap id_token (some_same (pos, text) x e))
ident_tells (Word v pos) x e = absurd (cc)
ident_tells (Number n pos) x e = absurd (cc)
ident_tells (Str pos text) x e = absurd (cc)
ident_tells (Delimiter s pos) x e = absurd (cc)
ident_tells EndOfFile x e = absurd (cc)

pub law_ident : (side : Side) → Law (ident side) Any (λ x. plain side (id_token x) ∷ []) (of_ident ∷ []) [] false
law_ident side = law_one (resting side) identifier_of Any id_token (of_ident ∷ []) ident_tells (λ x g. refl) (λ x. refl) (λ x e. cc)
    (some_position, codes "a") tt

-- The identifier has this spelling, which is in lower case.
abbrev pub IsCalled : List ℕ → PositionedText → Type 0
IsCalled name x = map to_ascii_lowercase x.1 ≡ name

called_tells : (name : List ℕ) (t : Spelled) (x : PositionedText) → called_of name t ≡ Some x → IsCalled name x × (t ≡ id_token x)
called_tells name (Ident pos text) x e =
    let got = if_some {A = PositionedText} (bytes_eq (map to_ascii_lowercase text) name) (pos, text) x e in
    (subst (IsCalled name) got.1 ((bytes_decides (map to_ascii_lowercase text) name).0 got.0), ap id_token got.1)
called_tells name (Word v pos) x e = absurd (cc)
called_tells name (Number n pos) x e = absurd (cc)
called_tells name (Str pos text) x e = absurd (cc)
called_tells name (Delimiter s pos) x e = absurd (cc)
called_tells name EndOfFile x e = absurd (cc)

pub law_called : (name : List ℕ) → map to_ascii_lowercase name ≡ name
    → Law (ident_called name) (IsCalled name) (λ x. plain Apart (id_token x) ∷ []) (of_ident ∷ []) [] false
law_called name lower = law_one (resting Apart) (called_of name) (IsCalled name) id_token (of_ident ∷ []) (called_tells name)
    (λ x g. some_if (bytes_eq (map to_ascii_lowercase x.1) name) x ((bytes_decides (map to_ascii_lowercase x.1) name).1 g)) (λ x. refl) (λ x e. cc)
    (some_position, name) lower

abbrev pub string_token : PositionedText → Spelled
string_token x = Str x.0 x.1

string_tells : (t : Spelled) (x : PositionedText) → string_of t ≡ Some x → Any x × (t ≡ string_token x)
string_tells (Str pos text) x e = (tt, ap string_token (some_same (pos, text) x e))
string_tells (Word v pos) x e = absurd (cc)
string_tells (Number n pos) x e = absurd (cc)
string_tells (Ident pos text) x e = absurd (cc)
string_tells (Delimiter s pos) x e = absurd (cc)
string_tells EndOfFile x e = absurd (cc)

pub law_string : Law string Any (λ x. plain Within (string_token x) ∷ []) (of_string ∷ []) [] false
law_string = law_one (resting Within) string_of Any string_token (of_string ∷ []) string_tells (λ x g. refl) (λ x. refl) (λ x e. cc)
    (some_position, 34 ∷ 34 ∷ []) tt

abbrev pub number_token : Pos × ℕ → Spelled
number_token x = Number x.1 x.0

number_tells : (t : Spelled) (x : Pos × ℕ) → number_of t ≡ Some x → Any x × (t ≡ number_token x)
number_tells (Number n pos) x e = (tt, ap number_token (some_same (pos, n) x e))
number_tells (Word v pos) x e = absurd (cc)
number_tells (Ident pos text) x e = absurd (cc)
number_tells (Str pos text) x e = absurd (cc)
number_tells (Delimiter s pos) x e = absurd (cc)
number_tells EndOfFile x e = absurd (cc)

pub law_number : Law number Any (λ x. plain Within (number_token x) ∷ []) (of_number ∷ []) [] false
law_number = law_one (resting Within) number_of Any number_token (of_number ∷ []) number_tells (λ x g. refl) (λ x. refl) (λ x e. cc)
    (some_position, 0) tt
