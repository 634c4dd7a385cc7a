-- What a reader of a whole file tells, where the reader of its tree has a law.
use Rattle.std.proofs.Common.{◌≡◌, refl, sym, ap, ◌∙◌, subst, ℕ, Bool, false, List, [], ◌∷◌, ◌++◌, ◌⊎◌, inl, inr}
use Rattle.std.specs.Prelude.{map}
use Rattle.std.proofs.lemmas.List.{append_assoc, append-nil}
use Rattle.spark_base.specs.declared.position.Pos.{Pos}
use Rattle.ada_lexer.specs.declared.token.Token.{Token}
use Rattle.ada_lexer.specs.declared.token.TokenKind.{TokenKind}
use Rattle.ada_lexer.specs.declared.token.TokenKind.TheVariants as kind
use Rattle.ada_lexer.specs.Tokens.{EndsOnce, kinds_of}
use Rattle.token_reading.specs.Spelled.{Spelled, Word, Ident, Number, Str, Delimiter, EndOfFile, told, told_as}
use Rattle.token_reading.specs.Weights.{WeighedToken, bare, after, WithinLimits}
use Rattle.token_reading.specs.Reading.{Cause, Refused, OverLimit, Outcome, Got, Fails, Reader, of_end, is_in, and_then, file_end, whole_file}
use Rattle.token_reading.specs.Sources.{file_of, IsSpelledBy, IsTreeOf, Begins, IsFaulty, IsOverLimit, AtFirst, IsFile}
use Rattle.token_reading.proofs.Law.{Read, Accepted, OneOverLimit, Broken, Law, put, and_then_got, and_then_fails, got_same, got_fails, left_same}

-- ---- lists that end at their one end of the file

pub not_at_end : (k : ℕ) (us : List WeighedToken) → WithinLimits k us → IsFile (bare us) → ⊥
not_at_end k [] within_limits file = file
not_at_end k (m ∷ []) within_limits file = within_limits.0.within_file file
not_at_end k (m ∷ (n ∷ us)) within_limits file = not_at_end (m.weight.step k) (n ∷ us) within_limits.1 file.1

-- nothing follows the end
pub ends_there : (us : List Spelled) (rest : List Spelled) → IsFile (us ++ (EndOfFile ∷ rest)) → rest ≡ []
ends_there [] [] file = refl
ends_there [] (r ∷ rest) file = absurd (file.0 refl)
ends_there (u ∷ []) rest file = ends_there [] rest file.1
ends_there (u ∷ (v ∷ us)) rest file = ends_there (v ∷ us) rest file.1

first_ends : (k : TokenKind) (pos : Pos) (text : List ℕ) (ks : List TokenKind) → EndsOnce (k ∷ ks)
    → ((ks ≡ []) × (told_as k pos text ≡ EndOfFile)) ⊎ (EndsOnce ks × (told_as k pos text ≡ EndOfFile → ⊥))
first_ends kind.EndOfFile pos text ks once = inl (once, refl)
first_ends (kind.Word w) pos text ks once = inr (once, λ e. cc)
first_ends kind.Ident pos text ks once = inr (once, λ e. cc)
first_ends (kind.Number n) pos text ks once = inr (once, λ e. cc)
first_ends kind.Str pos text ks once = inr (once, λ e. cc)
first_ends (kind.Symbol s) pos text ks once = inr (once, λ e. cc)

-- The tokens of a text are those of a file.
pub is_file : (ts : List Token) → EndsOnce (kinds_of ts) → IsFile (map told ts)
is_file [] once = once
is_file (t ∷ []) once = elim (first_ends t.kind t.pos t.text.now [] once) [ inl last ↦ last.1 | inr more ↦ absurd more.0 ]
is_file (t ∷ (u ∷ ts)) once =
    elim (first_ends t.kind t.pos t.text.now (kinds_of (u ∷ ts)) once)
    [ inl last ↦ let never : kinds_of (u ∷ ts) ≡ [] = last.0 in absurd (cc) | inr more ↦ (more.1, is_file (u ∷ ts) more.0) ]

-- ---- the end of the file

end_got : (t : Spelled) (ts : List Spelled) (k : ℕ) (a : Unit {0}) (j : ℕ) (rest : List Spelled) → file_end k (t ∷ ts) ≡ Got a j rest
    → (t ≡ EndOfFile) × (ts ≡ rest)
end_got EndOfFile ts k a j rest e = (refl, cc)
end_got (Word v pos) ts k a j rest e = absurd (cc)
end_got (Ident pos text) ts k a j rest e = absurd (cc)
end_got (Number n pos) ts k a j rest e = absurd (cc)
end_got (Str pos text) ts k a j rest e = absurd (cc)
end_got (Delimiter v pos) ts k a j rest e = absurd (cc)

end_fails : (t : Spelled) (ts : List Spelled) (k : ℕ) (c : Cause) (rest : List Spelled) → file_end k (t ∷ ts) ≡ Fails c rest
    → (t ≡ EndOfFile → ⊥) × (c ≡ Refused) × (t ∷ ts ≡ rest)
end_fails EndOfFile ts k c rest e = absurd (cc)
end_fails (Word v pos) ts k c rest e = (λ is. cc, cc, cc)
end_fails (Ident pos text) ts k c rest e = (λ is. cc, cc, cc)
end_fails (Number n pos) ts k c rest e = (λ is. cc, cc, cc)
end_fails (Str pos text) ts k c rest e = (λ is. cc, cc, cc)
end_fails (Delimiter v pos) ts k c rest e = (λ is. cc, cc, cc)

got_as : {A : Type 0} (o : Outcome A) (a b : A) (i : ℕ) (mid rest : List Spelled) → o ≡ Got a i mid → a ≡ b → mid ≡ rest → o ≡ Got b i rest
got_as o a b i mid rest e same left = subst (λ r. o ≡ Got b i r) left (subst (λ c. o ≡ Got c i mid) same e)

-- ---- the four things that are told

module _ {A : Type 0} {p : Reader A} {good : A → Type 0} {s : A → List WeighedToken} {first last : List ℕ} {may : Bool}
    (P : Law p good s first last may) (ends : is_in last of_end ≡ false) where
  -- two trees of one file are one
  unique : (ts : List Spelled) (a b : A) (j : ℕ) (rest : List Spelled) → p 0 ts ≡ Got a j rest → IsSpelledBy good s ts b → b ≡ a
  unique ts a b j rest e spells =
      let accepted : Accepted b 0 (s b) (EndOfFile ∷ []) (p 0 (file_of (s b))) = P.accepts 0 b (EndOfFile ∷ []) spells.fits ends in
      let same = subst (λ o. Accepted b 0 (s b) (EndOfFile ∷ []) o) (ap (λ us. p 0 us) spells.spelled ∙ e) accepted in
      sym same.0

  abbrev after_tree : A → Reader (A × Unit {0})
  after_tree a j more = and_then (file_end j more) (λ u i rest. Got (a, u) i rest)

  abbrev made_tree : A × Unit {0} → Reader A
  made_tree x j rest = Got x.0 j rest

  at_end : (k : ℕ) (ts : List Spelled) (a : Unit {0}) (j : ℕ) (rest : List Spelled) → file_end k ts ≡ Got a j rest → ts ≡ EndOfFile ∷ rest
  at_end k [] a j rest e = absurd (cc)
  at_end k (t ∷ ts) a j rest e = let got = end_got t ts k a j rest e in let head : t ≡ EndOfFile = got.0 in let tail : ts ≡ rest = got.1 in cc

  file_got : (ts : List Spelled) (tree : A) (j : ℕ) (rest : List Spelled) → whole_file p 0 ts ≡ Got tree j rest
      → (i : ℕ) × (p 0 ts ≡ Got tree i (EndOfFile ∷ rest))
  file_got ts tree j rest e =
      let one = and_then_got (and_then (p 0 ts) after_tree) made_tree tree j rest e in
      let two = and_then_got (p 0 ts) after_tree one.0 one.1.0 one.1.1.0 one.1.1.1.0 in
      let three = and_then_got (file_end two.1.0 two.1.1.0) (λ u i rest. Got (two.0, u) i rest) one.0 one.1.0 one.1.1.0 two.1.1.1.1 in
      let pair = got_same {A = A × Unit {0}} (two.0, three.0) one.0 three.1.0 one.1.0 three.1.1.0 one.1.1.0 three.1.1.1.1 in
      let made = got_same one.0.0 tree one.1.0 j one.1.1.0 rest one.1.1.1.1 in
      let same : two.0 ≡ tree = ap (λ y. y.0) pair.0 ∙ made.0 in
      let left : two.1.1.0 ≡ EndOfFile ∷ rest =
      at_end two.1.0 two.1.1.0 three.0 three.1.0 three.1.1.0 three.1.1.1.0 ∙ ap (λ r. EndOfFile ∷ r) (pair.2 ∙ made.2) in
      (two.1.0, got_as (p 0 ts) two.0 tree two.1.0 two.1.1.0 (EndOfFile ∷ rest) two.1.1.1.0 same left)

  file_fails : (ts : List Spelled) (c : Cause) (rest : List Spelled) → whole_file p 0 ts ≡ Fails c rest
      → (p 0 ts ≡ Fails c rest) ⊎ ((a : A) × ((i : ℕ) × ((mid : List Spelled) × ((p 0 ts ≡ Got a i mid) × (file_end i mid ≡ Fails c rest)))))
  file_fails ts c rest e = elim (and_then_fails (and_then (p 0 ts) after_tree) made_tree c rest e) [
    | inl one ↦ elim (and_then_fails (p 0 ts) after_tree c rest one) [
      | inl early ↦ inl early
      | inr two ↦ elim (and_then_fails (file_end two.1.0 two.1.1.0) (λ u i rest. Got (two.0, u) i rest) c rest two.1.1.1.1) [
        | inl late ↦ inr (two.0, (two.1.0, (two.1.1.0, (two.1.1.1.0, late))))
        | inr three ↦ absurd (got_fails {A = A × Unit {0}} (two.0, three.0) three.1.0 c three.1.1.0 rest three.1.1.1.1)
      ]
    ]
    | inr one ↦ absurd (got_fails one.0.0 one.1.0 c one.1.1.0 rest one.1.1.1.1)
  ]

  pub read_file : (ts : List Spelled) (tree : A) (j : ℕ) (rest : List Spelled) → IsFile ts → whole_file p 0 ts ≡ Got tree j rest
      → IsTreeOf good s ts tree × (rest ≡ [])
  read_file ts tree j rest file e =
      let got = file_got ts tree j rest e in
      let read = P.sound 0 ts tree got.0 (EndOfFile ∷ rest) got.1 in
      let none : rest ≡ [] = ends_there (bare (s tree)) rest (subst IsFile read.whole file) in (
        record {
          spells = record { fits = read.fits; spelled = sym (read.whole ∙ ap (λ r. bare (s tree) ++ (EndOfFile ∷ r)) none) };
          within_limits = read.within_limits;
          only = λ other spells. unique ts tree other got.0 (EndOfFile ∷ rest) got.1 spells;
        },
        none,
      )

  -- no source begins as a refused list does through its first token left
  pub faulty : (u : List Spelled) (x : Spelled) (r : List Spelled) → p 0 (u ++ (x ∷ r)) ≡ Fails Refused (x ∷ r)
      → Begins good s (u ++ (x ∷ [])) → ⊥
  faulty u x r e begins =
      let z : List Spelled = begins.behind in
      let there : p 0 (u ++ (x ∷ z)) ≡ Fails Refused (x ∷ z) =
      P.local 0 u x r z (left_same (p 0 (u ++ (x ∷ r))) (Fails Refused (x ∷ r)) (x ∷ r) e refl) ∙ ap (put (x ∷ z)) e in
      let whole : file_of (s begins.tree) ≡ u ++ (x ∷ z) = begins.whole ∙ append_assoc u (x ∷ []) z in
      let accepted : Accepted begins.tree 0 (s begins.tree) (EndOfFile ∷ []) (p 0 (file_of (s begins.tree))) =
      P.accepts 0 begins.tree (EndOfFile ∷ []) begins.fits ends in
      subst (λ o. Accepted begins.tree 0 (s begins.tree) (EndOfFile ∷ []) o) (ap (λ us. p 0 us) whole ∙ there) accepted

  -- no source begins with a whole tree and a token that isn't the end of the file
  pub faulty_behind : (u : List Spelled) (x : Spelled) (r : List Spelled) (a : A) (j : ℕ) → p 0 (u ++ (x ∷ r)) ≡ Got a j (x ∷ r)
      → (x ≡ EndOfFile → ⊥) → Begins good s (u ++ (x ∷ [])) → ⊥
  faulty_behind u x r a j e other begins =
      let z : List Spelled = begins.behind in
      let there : p 0 (u ++ (x ∷ z)) ≡ Got a j (x ∷ z) =
      P.local 0 u x r z (left_same (p 0 (u ++ (x ∷ r))) (Got a j (x ∷ r)) (x ∷ r) e refl) ∙ ap (put (x ∷ z)) e in
      let whole : file_of (s begins.tree) ≡ u ++ (x ∷ z) = begins.whole ∙ append_assoc u (x ∷ []) z in
      let accepted : Accepted begins.tree 0 (s begins.tree) (EndOfFile ∷ []) (p 0 (file_of (s begins.tree))) =
      P.accepts 0 begins.tree (EndOfFile ∷ []) begins.fits ends in
      let same = subst (λ o. Accepted begins.tree 0 (s begins.tree) (EndOfFile ∷ []) o) (ap (λ us. p 0 us) whole ∙ there) accepted in
      let left : x ∷ z ≡ EndOfFile ∷ [] = same.2 in
      other (cc)

  refused_early : (ts rest : List Spelled) → IsFile ts → p 0 ts ≡ Fails Refused rest → Broken good s 0 Refused ts rest
      → AtFirst (IsFaulty good s) ts rest
  refused_early ts [] file e broken =
      absurd (not_at_end 0 broken.before broken.clear (subst IsFile (broken.splits ∙ append-nil (bare broken.before)) file))
  refused_early ts (x ∷ r) file e broken = record {
    before = bare broken.before;
    token = x;
    behind = r;
    at = refl;
    splits = broken.splits;
    holds = record {
      possible = record {
        tree = broken.tree;
        fits = broken.fits;
        front = broken.before;
        behind = broken.reached ++ broken.more;
        clear = broken.clear;
        begun = refl;
        whole = broken.goes_on;
      };
      impossible = faulty (bare broken.before) x r (ap (λ us. p 0 us) (sym broken.splits) ∙ e);
    };
  }

  refused_late : (ts : List Spelled) (a : A) (i : ℕ) (mid rest : List Spelled) → IsFile ts → p 0 ts ≡ Got a i mid → file_end i mid ≡ Fails Refused rest
      → Read good s 0 ts a i mid → AtFirst (IsFaulty good s) ts rest
  refused_late ts a i [] rest file got e read =
      absurd (not_at_end 0 (s a) read.within_limits (subst IsFile (read.whole ∙ append-nil (bare (s a))) file))
  refused_late ts a i (x ∷ r) rest file got e read =
      let fails = end_fails x r i Refused rest e in
      record {
        before = bare (s a);
        token = x;
        behind = r;
        at = sym fails.2;
        splits = read.whole ∙ ap (λ us. bare (s a) ++ us) fails.2;
        holds = record {
          possible = record {
            tree = a;
            fits = read.fits;
            front = s a;
            behind = [];
            clear = read.within_limits;
            begun = refl;
            whole = sym (append-nil (s a));
          };
          impossible = faulty_behind (bare (s a)) x r a i (ap (λ us. p 0 us) (sym read.whole) ∙ got) fails.0;
        };
      }

  pub refused_file : (ts rest : List Spelled) → IsFile ts → whole_file p 0 ts ≡ Fails Refused rest → AtFirst (IsFaulty good s) ts rest
  refused_file ts rest file e = elim (file_fails ts Refused rest e) [
    | inl early ↦ refused_early ts rest file early (P.breaks 0 ts Refused rest early)
    | inr late ↦
        refused_late ts late.0 late.1.0 late.1.1.0 rest file late.1.1.1.0 late.1.1.1.1 (P.sound 0 ts late.0 late.1.0 late.1.1.0 late.1.1.1.0)
  ]

  never_over_limit : (i : ℕ) (mid rest : List Spelled) → file_end i mid ≡ Fails OverLimit rest → ⊥
  never_over_limit i [] rest e = cc
  never_over_limit i (x ∷ r) rest e = let fails = end_fails x r i OverLimit rest e in let same : OverLimit ≡ Refused = fails.1 in cc

  pub over_limit_file : (ts rest : List Spelled) → whole_file p 0 ts ≡ Fails OverLimit rest → AtFirst (IsOverLimit good s) ts rest
  over_limit_file ts rest e = elim (file_fails ts OverLimit rest e) [
    | inl early ↦
        let broken = P.breaks 0 ts OverLimit rest early in
        let reach : OneOverLimit (after 0 broken.before) broken.reached rest = broken.reach in
        record {
          before = bare broken.before;
          token = reach.weighed.token;
          behind = reach.behind;
          at = reach.at;
          splits = broken.splits;
          holds = record {
            tree = broken.tree;
            fits = broken.fits;
            front = broken.before;
            weighed = reach.weighed;
            behind = broken.more;
            clear = broken.clear;
            begun = refl;
            is_token = refl;
            exceeds_limit = reach.exceeds_limit;
            whole = broken.goes_on ∙ ap (λ ms. broken.before ++ (ms ++ broken.more)) reach.alone;
          };
        }
    | inr late ↦ absurd (never_over_limit late.1.0 late.1.1.0 rest late.1.1.1.1)
  ]
