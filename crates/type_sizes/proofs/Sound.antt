-- Where no sentence is broken, each declaration of a type breaks none.
use Rattle.std.proofs.Common.{◌≡◌, refl, ap, ◌∙◌, arith, ℕ, Bool, true, false, not, ◌&&◌, ◌||◌, List, [], ◌∷◌, ◌++◌, nat_eq, IsTrue, Option, Some, None, if◌then◌else◌}
use Rattle.std.specs.Prelude.{flat_map}
use Rattle.resolved_tree.specs.Trees.{Code, TypeDecl, Subtype, ConstrainedSubtype, SubBody, Package, PackageBody, If, Branch, Case, When, Loop, While, For, Block, NoMore, More, code_items}
use Rattle.type_definitions.specs.declared.table.Known.{Known}
use Rattle.type_definitions.specs.declared.table.Made.{Made}
use Rattle.type_definitions.specs.declared.judgement.Fault.{Fault}
use Rattle.type_definitions.specs.declared.judgement.Where.TheVariants as stands
use Rattle.type_definitions.specs.Types.{is_nil}
use Rattle.type_definitions.specs.Faults.{noted, first, precedes}
use Rattle.type_definitions.specs.Entries.{boolean}
use Rattle.type_definitions.specs.Expressions.{faults, own_type}
use Rattle.type_definitions.specs.Statements.{range_faults, coverage, type_or_integer, is_one_choice}
use Rattle.type_definitions.specs.Gathered.{declared_number, front_number}
use Rattle.type_definitions.specs.Declarations.{type_faults, subtype_faults, body_faults, selector_faults, choices_of, choices_faults, is_last, code_faults, alternatives_faults, alternative_faults}
use Rattle.type_definitions.specs.Whole.{made, made_here, is_unsound, unit_faults, main_faults, sentence_faults, all_made, outside}
use Rattle.type_sizes.specs.Formed.{is_formed, are_alternatives, is_alternative, all_formed}
use Rattle.type_sizes.proofs.Contexts.{context, type_same, subtype_same}

and_first : (a b : Bool) → IsTrue (a && b) → IsTrue a
and_first a b p = grind arith

and_second : (a b : Bool) → IsTrue (a && b) → IsTrue b
and_second a b p = grind arith

none_front : {A : Type 0} → (a b : List A) → a ++ b ≡ [] → a ≡ []
none_front [] b none = refl
none_front (x ∷ a) b none = cc

none_back : {A : Type 0} → (a b : List A) → a ++ b ≡ [] → b ≡ []
none_back [] b none = none
none_back (x ∷ a) b none = cc

-- ---- all are sound

abbrev pub all_sound : List Made → Bool
all_sound [] = true
all_sound (m ∷ rest) = m.sound && all_sound rest

both : (a b : Bool) → IsTrue a → IsTrue b → IsTrue (a && b)
both a b p q = grind arith

sound_append : (a b : List Made) → IsTrue (all_sound a) → IsTrue (all_sound b) → IsTrue (all_sound (a ++ b))
sound_append [] b p q = q
sound_append (m ∷ rest) b p q =
    both m.sound (all_sound (rest ++ b)) (and_first m.sound (all_sound rest) p)
    (sound_append rest b (and_second m.sound (all_sound rest) p) q)

here_sound : (d : Code) (full : Bool) (found : List Fault) → found ≡ [] → IsTrue (all_sound (made_here d full found))
here_sound d full found none = ap (λ fs. is_nil fs && true) none

-- What is made of code in any body, where the code breaks no sentence.
module _ (k : Known) (st : Bool) where
  mutual
    unfolding made code_faults alternatives_faults alternative_faults is_formed are_alternatives is_alternative

    code_sound : (code : Code) (h w s r : Option ℕ) (l m : Bool) → IsTrue (is_formed code) → code_faults (context k h w st s l) code ≡ []
        → IsTrue (all_sound (made (context k h w st r m) code))
    code_sound (TypeDecl d def end) h w s r l m formed none =
        here_sound d true (type_faults (context k h w st r m) d def) (type_same k h w st r s m l d def ∙ none)
    code_sound (Subtype d mark) h w s r l m formed none = ap (λ fs. is_nil fs && true) none
    code_sound (ConstrainedSubtype d mark low high) h w s r l m formed none =
        here_sound d false (subtype_faults (context k h w st r m) mark low high) (subtype_same k h w st r s m l mark low high ∙ none)
    code_sound (SubBody front items stmts end) h w s r l m formed none =
        let inner : List Fault = code_faults (context k h w st (Some (front_number front)) false) items in
        let behind : List Fault = code_faults (context k h w st (Some (front_number front)) false) stmts in
        let rest : inner ++ behind ≡ [] = none_back (body_faults (context k h w st s l) front) (inner ++ behind) none in
        sound_append (made (context k h w st r m) items) (made (context k h w st r m) stmts)
        (code_sound items h w (Some (front_number front)) r false m (and_first (is_formed items) (is_formed stmts) formed)
        (none_front inner behind rest))
        (code_sound stmts h w (Some (front_number front)) r false m (and_second (is_formed items) (is_formed stmts) formed)
        (none_back inner behind rest))
    code_sound (Package d visible hidden) h w s r l m formed none =
        let first : List Fault = code_faults (context k (Some (declared_number d)) w st s l) visible in
        let second : List Fault = code_faults (context k (Some (declared_number d)) (Some (declared_number d)) st s l) hidden in
        sound_append (made (context k (Some (declared_number d)) w st r m) visible)
        (made (context k (Some (declared_number d)) (Some (declared_number d)) st r m) hidden)
        (code_sound visible (Some (declared_number d)) w s r l m (and_first (is_formed visible) (is_formed hidden) formed)
        (none_front first second none))
        (code_sound hidden (Some (declared_number d)) (Some (declared_number d)) s r l m
        (and_second (is_formed visible) (is_formed hidden) formed) (none_back first second none))
    code_sound (PackageBody d parts) h w s r l m formed none =
        code_sound parts (Some (declared_number d)) (Some (declared_number d)) s r l m formed none
    code_sound (If p branches otherwise) h w s r l m formed none =
        let first : List Fault = code_faults (context k h w st s l) branches in
        let second : List Fault = code_faults (context k h w st s l) otherwise in
        sound_append (made (context k h w st r m) branches) (made (context k h w st r m) otherwise)
        (code_sound branches h w s r l m (and_first (is_formed branches) (is_formed otherwise) formed) (none_front first second none))
        (code_sound otherwise h w s r l m (and_second (is_formed branches) (is_formed otherwise) formed) (none_back first second none))
    code_sound (Branch p x stmts) h w s r l m formed none =
        code_sound stmts h w s r l m formed
        (none_back (faults (context k h w st s l) stands.Elsewhere boolean x) (code_faults (context k h w st s l) stmts) none)
    code_sound (Case p x whens) h w s r l m formed none =
        let c : _ = context k h w st s l in
        let within : List Fault = alternatives_faults c (type_or_integer (own_type c x)) whens in
        let rest : coverage c p x (choices_of whens) ++ within ≡ [] =
        none_back (selector_faults c x) (coverage c p x (choices_of whens) ++ within) none in
        whens_sound whens (type_or_integer (own_type c x)) h w s r l m formed (none_back (coverage c p x (choices_of whens)) within rest)
    code_sound (When choices stmts) h w s r l m formed none = cc
    code_sound (Loop p stmts) h w s r l m formed none = code_sound stmts h w s r true m formed none
    code_sound (While p x stmts) h w s r l m formed none =
        code_sound stmts h w s r true m formed
        (none_back (faults (context k h w st s l) stands.Elsewhere boolean x) (code_faults (context k h w st s true) stmts) none)
    code_sound (For p d reversed range stmts) h w s r l m formed none =
        code_sound stmts h w s r true m formed
        (none_back (range_faults (context k h w st s l) range) (code_faults (context k h w st s true) stmts) none)
    code_sound (Block p items stmts end) h w s r l m formed none =
        let first : List Fault = code_faults (context k h w st s l) items in
        let second : List Fault = code_faults (context k h w st s l) stmts in
        sound_append (made (context k h w st r m) items) (made (context k h w st r m) stmts)
        (code_sound items h w s r l m (and_first (is_formed items) (is_formed stmts) formed) (none_front first second none))
        (code_sound stmts h w s r l m (and_second (is_formed items) (is_formed stmts) formed) (none_back first second none))
    code_sound (More a rest) h w s r l m formed none =
        let first : List Fault = code_faults (context k h w st s l) a in
        let second : List Fault = code_faults (context k h w st s l) rest in
        sound_append (made (context k h w st r m) a) (made (context k h w st r m) rest)
        (code_sound a h w s r l m (and_first (is_formed a) (is_formed rest) formed) (none_front first second none))
        (code_sound rest h w s r l m (and_second (is_formed a) (is_formed rest) formed) (none_back first second none))
    code_sound _ h w s r l m formed none = refl

    whens_sound : (code : Code) (t : ℕ) (h w s r : Option ℕ) (l m : Bool) → IsTrue (are_alternatives code)
        → alternatives_faults (context k h w st s l) t code ≡ [] → IsTrue (all_sound (made (context k h w st r m) code))
    whens_sound (More a rest) t h w s r l m formed none =
        let first : List Fault = alternative_faults (context k h w st s l) t (is_last rest) a in
        let second : List Fault = alternatives_faults (context k h w st s l) t rest in
        sound_append (made (context k h w st r m) a) (made (context k h w st r m) rest)
        (when_sound a t (is_last rest) h w s r l m (and_first (is_alternative a) (are_alternatives rest) formed) (none_front first second none))
        (whens_sound rest t h w s r l m (and_second (is_alternative a) (are_alternatives rest) formed) (none_back first second none))
    whens_sound NoMore t h w s r l m formed none = refl
    whens_sound _ t h w s r l m formed none = cc

    when_sound : (code : Code) (t : ℕ) (last : Bool) (h w s r : Option ℕ) (l m : Bool) → IsTrue (is_alternative code)
        → alternative_faults (context k h w st s l) t last code ≡ [] → IsTrue (all_sound (made (context k h w st r m) code))
    when_sound (When choices stmts) t last h w s r l m formed none =
        code_sound stmts h w s r l m formed
        (none_back (choices_faults (context k h w st s l) t (is_one_choice (code_items choices) && last) choices)
        (code_faults (context k h w st s l) stmts) none)
    when_sound NoMore t last h w s r l m formed none = refl
    when_sound _ t last h w s r l m formed none = cc

-- ---- a program

pub all_units_sound : (known : Known) (units : List Code) → IsTrue (all_formed units) → sentence_faults known units ≡ []
    → IsTrue (all_sound (all_made known units))
unfolding sentence_faults all_made
all_units_sound known [] formed none = refl
all_units_sound known (u ∷ rest) formed none =
    let here : List Fault = unit_faults (outside known) u in
    let others : List Fault = flat_map (unit_faults (outside known)) rest in
    sound_append (made (outside known) u) (flat_map (made (outside known)) rest)
    (code_sound known false u None None None None false false (and_first (is_formed u) (all_formed rest) formed)
    (none_front (code_faults (outside known) u) (main_faults u) (none_front here others none)))
    (all_units_sound known rest (and_second (is_formed u) (all_formed rest) formed) (none_back here others none))

-- Then none is unsound.
pub none_unsound : (all : List Made) → IsTrue (all_sound all) → (t : ℕ) → is_unsound all t ≡ false
none_unsound [] sound t = refl
none_unsound (m ∷ rest) sound t =
    ap (λ b. nat_eq m.number t && not b || is_unsound rest t) (and_first m.sound (all_sound rest) sound)
    ∙ no_mark (nat_eq m.number t) (is_unsound rest t) (none_unsound rest (and_second m.sound (all_sound rest) sound) t) where
      no_mark : (a b : Bool) → b ≡ false → a && false || b ≡ false
      no_mark a b is = grind arith

some_first : (rest : List Fault) (f : Fault) → noted (Some f) rest ≡ None → ⊥
some_first [] f none = cc
some_first (g ∷ rest) f none = some_first rest (if precedes g f then g else f) none

-- Where there is no first fault there is none.
pub no_first : (found : List Fault) → first found ≡ None → found ≡ []
no_first [] none = refl
no_first (f ∷ rest) none = absurd (some_first rest f none)
