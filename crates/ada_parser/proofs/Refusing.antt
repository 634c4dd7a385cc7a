-- What a fault in reading a whole file tells of its tokens.
use Rattle.std.proofs.Common.{◌≡◌, refl, sym, ap, ◌∙◌, subst, ℕ, suc, ◌+◌, ◌-◌, ◌≤◌, Bool, true, false, List, [], ◌∷◌, ◌++◌, length, Option, Some, arith}
use Rattle.std.specs.Prelude.{map, Ok, Err, IfSome, if◌then◌else◌}
use Rattle.std.specs.List.{slice_get}
use Rattle.std.proofs.lemmas.List.{length-map, length-append}
use Rattle.spark_base.specs.declared.position.Pos.{Pos}
use Rattle.ada_lexer.specs.declared.token.Token.{Token}
use Rattle.ada_lexer.specs.Tokens.{EndsOnce, kinds_of}
use Rattle.token_reading.specs.declared.fault.ReadFault.{ReadFault}
use Rattle.token_reading.specs.declared.fault.ReadFault.TheVariants as fault
use Rattle.token_reading.specs.Spelled.{Spelled, told}
use Rattle.token_reading.specs.Reading.{Ahead, Refused, OverLimit, Fails, Gives, whole_file}
use Rattle.token_reading.specs.Sources.{AtFirst, IsFaulty, IsOverLimit}
use Rattle.token_reading.proofs.Theorem.{is_file, read_file, refused_file, over_limit_file}
use Rattle.ada_tree.specs.declared.unit.SourceUnit.{SourceUnit}
use Rattle.ada_tree.specs.Refusals.{IsSource, IsTreeOf, Code, Syntax, TooDeep, LeftOut, is_left_out}
use Rattle.ada_tree.specs.Spelling.{source_spelling}
use Rattle.ada_grammar.specs.Units.{source}
use Rattle.ada_grammar.proofs.UnitLaws.{law_source}
use Rattle.ada_grammar.proofs.OneRefused.{one_refused_of, tree_not_refused_of}
use Rattle.ada_parser.specs.declared.refusal.ParseRefusal.{ParseRefusal}
use Rattle.ada_parser.specs.declared.refusal.ParseRefusal.TheVariants as refusal
use Rattle.ada_parser.specs.Refused.{IsRefusal, RefusedAt, refusal_as}
use Rattle.ada_parser.specs.Refusing.{StandsAtToken, TellsOf, first_left, refusal_at}

-- ---- a split of what tokens are to the grammar is one of the tokens

record Split (tokens : List Token) (front : List Spelled) (x : Spelled) (back : List Spelled) : Type 0 where
  before : List Token
  token : Token
  behind : List Token
  splits : tokens ≡ before ++ (token ∷ behind)
  front_is : map told before ≡ front
  token_is : told token ≡ x
  back_is : map told behind ≡ back

first_is : (t : Token) (ts : List Token) (x : Spelled) (back : List Spelled) → told t ∷ map told ts ≡ x ∷ back
    → (told t ≡ x) × (map told ts ≡ back)
first_is t ts x back e = (cc, cc)

split : (tokens : List Token) (front : List Spelled) (x : Spelled) (back : List Spelled) → map told tokens ≡ front ++ (x ∷ back)
    → Split tokens front x back
split [] [] x back e = absurd (cc)
split [] (u ∷ front) x back e = absurd (cc)
split (t ∷ ts) [] x back e =
    let parts = first_is t ts x back e in
    record { before = []; token = t; behind = ts; splits = refl; front_is = refl; token_is = parts.0; back_is = parts.1 }
split (t ∷ ts) (u ∷ front) x back e =
    let parts = first_is t ts u (front ++ (x ∷ back)) e in
    let rest = split ts front x back parts.1 in
    record {
      before = t ∷ rest.before;
      token = rest.token;
      behind = rest.behind;
      splits = ap (λ us. t ∷ us) rest.splits;
      front_is = let head = parts.0 in let tail = rest.front_is in cc;
      token_is = rest.token_is;
      back_is = rest.back_is;
    }

-- ---- the token of the file at which a fault stands

behind_front : (before : List Token) (t : Token) (behind : List Token) → slice_get (before ++ (t ∷ behind)) (length before) ≡ Some t
behind_front [] t behind = refl
behind_front (u ∷ before) t behind = behind_front before t behind

counts : (before : List Token) (t : Token) (behind : List Token)
    → length (before ++ (t ∷ behind)) ≡ length before + suc (length behind)
counts before t behind = length-append before (t ∷ behind)

record Located (fact : List Spelled → Spelled → Type 0) (tokens : List Token) (left : ℕ) : Type 0 where
  before : List Token
  token : Token
  behind : List Token
  splits : tokens ≡ before ++ (token ∷ behind)
  is_first : first_left tokens left ≡ Some token
  some : 1 ≤ left
  within : left ≤ length tokens
  holds : fact (map told before) (told token)

located : (fact : List Spelled → Spelled → Type 0) (tokens : List Token) (rest : List Spelled)
    → AtFirst fact (map told tokens) rest → Located fact tokens (length rest)
located fact tokens rest first =
    let whole : map told tokens ≡ first.before ++ (first.token ∷ first.behind) = first.splits ∙ ap (λ r. first.before ++ r) first.at in
    let s = split tokens first.before first.token first.behind whole in
    let left : length rest ≡ suc (length s.behind) =
    ap length first.at ∙ ap suc (sym (ap length s.back_is) ∙ length-map s.behind told) in
    let all : length tokens ≡ length s.before + suc (length s.behind) = ap length s.splits ∙ counts s.before s.token s.behind in
    let front : length tokens - length rest ≡ length s.before = omega arith in
    record {
      before = s.before;
      token = s.token;
      behind = s.behind;
      splits = s.splits;
      is_first = ap (slice_get tokens) front ∙ ap (λ ts. slice_get ts (length s.before)) s.splits
          ∙ behind_front s.before s.token s.behind;
      some = omega arith;
      within = omega arith;
      holds = subst (λ x. fact (map told s.before) x) (sym s.token_is) (subst (λ us. fact us first.token) (sym s.front_is) first.holds);
    }

-- ---- what each fault of reading the tokens as a whole file tells

faulty : (tokens : List Token) → EndsOnce (kinds_of tokens) → (rest : List Spelled)
    → whole_file source 0 (map told tokens) ≡ Fails Refused rest → Located (IsFaulty IsSource source_spelling) tokens (length rest)
faulty tokens once rest e =
    located (IsFaulty IsSource source_spelling) tokens rest (refused_file law_source refl (map told tokens) rest (is_file tokens once) e)

too_many : (tokens : List Token) (rest : List Spelled) → whole_file source 0 (map told tokens) ≡ Fails OverLimit rest
    → Located (IsOverLimit IsSource source_spelling) tokens (length rest)
too_many tokens rest e =
    located (IsOverLimit IsSource source_spelling) tokens rest (over_limit_file law_source refl (map told tokens) rest e)

pub stands : (tokens : List Token) → EndsOnce (kinds_of tokens) → (cause : ReadFault) (new : Ahead)
    → Gives (whole_file source 0 (map told tokens)) (Err cause) new → StandsAtToken tokens (length new.tokens) cause
stands tokens once fault.Refused new e = let at = faulty tokens once new.tokens e in (at.some, at.within)
stands tokens once fault.OverLimit new e = let at = too_many tokens new.tokens e in (at.some, at.within)
stands tokens once fault.Memory new e = tt

by_code : (tokens : List Token) {left : ℕ} (at : Located (IsFaulty IsSource source_spelling) tokens left) (out : Bool)
    → is_left_out (told at.token) ≡ out → IsRefusal tokens (if out then refusal.LeftOut at.token.pos else refusal.Syntax at.token.pos)
by_code tokens at true e = record {
  before = at.before;
  token = at.token;
  behind = at.behind;
  splits = at.splits;
  position = refl;
  refused = (at.holds, e);
}
by_code tokens at false e = record {
  before = at.before;
  token = at.token;
  behind = at.behind;
  splits = at.splits;
  position = refl;
  refused = (at.holds, e);
}

told_of : (tokens : List Token) (left : ℕ) (token : Token) (P : Token → Type 0) → first_left tokens left ≡ Some token
    → IfSome (first_left tokens left) P → P token
told_of tokens left token P e is = subst (λ o. IfSome o P) e is

-- a fault in reading the tokens as a whole file is told as their refusal
pub refused : (tokens : List Token) → EndsOnce (kinds_of tokens) → (cause : ReadFault) (new : Ahead)
    → Gives (whole_file source 0 (map told tokens)) (Err cause) new → (found : ParseRefusal)
    → TellsOf tokens (length new.tokens) cause found → IsRefusal tokens found
refused tokens once fault.Refused new e found tells =
    let at = faulty tokens once new.tokens e in
    let is = told_of tokens (length new.tokens) at.token (λ t. found ≡ refusal_at t) at.is_first tells in
    subst (IsRefusal tokens) (sym is) (by_code tokens at (is_left_out (told at.token)) refl)
refused tokens once fault.OverLimit new e found tells =
    let at = too_many tokens new.tokens e in
    let is = told_of tokens (length new.tokens) at.token (λ t. found ≡ refusal.TooDeep t.pos) at.is_first tells in
    subst (IsRefusal tokens) (sym is) (record {
      before = at.before;
      token = at.token;
      behind = at.behind;
      splits = at.splits;
      position = refl;
      refused = at.holds;
    })
refused tokens once fault.Memory new e found tells = subst (IsRefusal tokens) (sym tells) tt

-- what is read of the whole file is its tree
pub found : (tokens : List Token) → EndsOnce (kinds_of tokens) → (units : List SourceUnit) (new : Ahead)
    → Gives (whole_file source 0 (map told tokens)) (Ok units) new → IsTreeOf (map told tokens) units
found tokens once units new e =
    (read_file law_source refl (map told tokens) units new.operators new.tokens (is_file tokens once) e).0

-- ---- what is refused is refused at one token, with one code

pub none_refused : (tokens : List Token) (units : List SourceUnit) → IsTreeOf (map told tokens) units → (code : Code) (at : Pos)
    → RefusedAt code tokens at → ⊥
none_refused tokens units is code at r = tree_not_refused_of told tokens units code r.before r.token r.behind is r.splits r.refused

refused_once : (tokens : List Token) (code : Code) (at : Pos) (code2 : Code) (at2 : Pos) → RefusedAt code tokens at → RefusedAt code2 tokens at2
    → refusal_as code at ≡ refusal_as code2 at2
refused_once tokens code at code2 at2 one two =
    let is = one_refused_of told code one.before one.token one.behind code2 two.before two.token two.behind (sym one.splits ∙ two.splits)
    one.refused two.refused in
    ap (λ c. refusal_as c at) is.0
    ∙ ap (refusal_as code2) (sym one.position ∙ ap (λ (t : Token). t.pos) is.1 ∙ two.position)

pub only_refusal : (tokens : List Token) (found : ParseRefusal) → IsRefusal tokens found → (found ≡ refusal.Memory → ⊥) → (code : Code) (at : Pos)
    → RefusedAt code tokens at → found ≡ refusal_as code at
only_refusal tokens (refusal.Syntax pos) is memory code at r = refused_once tokens Syntax pos code at is r
only_refusal tokens (refusal.TooDeep pos) is memory code at r = refused_once tokens TooDeep pos code at is r
only_refusal tokens (refusal.LeftOut pos) is memory code at r = refused_once tokens LeftOut pos code at is r
only_refusal tokens refusal.Memory is memory code at r = absurd (memory refl)
