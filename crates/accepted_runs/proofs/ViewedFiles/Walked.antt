-- So it is in all of the code: views have sources, and are variables of subprograms.
use Rattle.std.proofs.Common.{◌≡◌, refl, ℕ, ◌+◌, Bool, true, false, ◌&&◌, List, [], ◌∷◌, ◌++◌, None}
use Rattle.std.specs.List.{AllByRecursion}
use Rattle.std.proofs.lemmas.Bool.{false≢true}
use Rattle.machine.specs.place_names.declared.act.Mode.TheVariants as mode
use Rattle.machine.specs.resolved_tree.Trees.{Tree, Code, Incomplete, Private, TypeDecl, Subtype, ConstrainedSubtype, Objects, Numbers, Instance, SubDecl, Package, When, NoMore, More, code_items}
use Rattle.machine.specs.resolved_tree.Trees as resolved
use Rattle.machine.specs.type_definitions.declared.table.Entry.{Entry}
use Rattle.machine.specs.type_definitions.declared.table.Entry.TheVariants as entry
use Rattle.machine.specs.type_definitions.declared.table.Predefined.{Predefined}
use Rattle.machine.specs.type_definitions.declared.table.Predefined.TheVariants as predefined
use Rattle.machine.specs.type_definitions.declared.judgement.Where.TheVariants as stands
use Rattle.machine.specs.type_definitions.Types.{Table, full, is_scalar}
use Rattle.machine.specs.type_definitions.Entries.{entry_of, boolean}
use Rattle.machine.specs.type_definitions.Names.{Context}
use Rattle.machine.specs.type_definitions.Expressions.{faults, own_type, call_arguments}
use Rattle.machine.specs.type_definitions.Statements.{target_faults, range_faults, type_or_integer, is_one_choice, coverage}
use Rattle.machine.specs.type_definitions.Gathered.{declared_number, parameter_type}
use Rattle.machine.specs.type_definitions.Declarations.{in_package, code_faults, alternatives_faults, alternative_faults, choices_faults, selector_faults, choices_of, is_last}
use Rattle.machine.specs.typed_tree.Trees.{TypedCode, typed_code_list}
use Rattle.machine.specs.typed_tree.declared.object.Object.{Object}
use Rattle.machine.specs.typed_tree.Expressions.{Site}
use Rattle.machine.specs.typed_tree.Statements.{scope_count, statements, typed_call, call_of, predefined_call, typed_body}
use Rattle.machine.specs.typed_tree.Programs.{DeclaredObject, Home, objects_in}
use Rattle.machine.specs.flow_paths.Objects.{Typing, Signature}
use Rattle.soundness.specs.TypedLaws.Fine.{Laws}
use Rattle.soundness.proofs.TypedLaws.Agreeing.{nil_left, nil_right}
use Rattle.soundness.specs.TypedLaws.TypedPoints.Meant.{IsMeantCode, AreAlternatives}
use Rattle.soundness.proofs.TypedLaws.TypedPoints.Flags.{flagged}
use Rattle.soundness.proofs.TypedLaws.TypedPoints.Statements.{parameter_scalar}
use Rattle.settled_types.proofs.OrderLaws.ScopeLaws.Lists.{both_true, all_both}
use Rattle.settled_types.specs.OrderLaws.Written.{is_declaration, are_declarations, are_statements}
use Rattle.sound_files.specs.MeantFiles.Denoted.{AreDenoted}
use Rattle.sound_files.specs.MeantFiles.Typed.{AreTyped}
use Rattle.accepted_runs.specs.ViewedFiles.Sources.{has_source, all_fit}
use Rattle.settled_types.proofs.OrderLaws.Grammar.{on_declarations, StatementLaws, on_statements}
use Rattle.accepted_runs.proofs.ViewedFiles.Sources as source
use Rattle.accepted_runs.proofs.ViewedFiles.Sources.{IsLocalView, DeclaresPlain, scalar_plain}

module _ (s : Site) (objects : List Object) (subs : List Signature) (made : ℕ → Type 0) (laws : Laws s.context.known made)
    (marks : source.AreMarksPlain s objects subs made laws)
    (units : List Code) (h : Home) (same : h.known ≡ s.context.known) (outside : in_package s.context ≡ false → h.identifier ≡ None) where
  abbrev y : Typing
  y = record { table = s.context.known.table; objects = objects; subs = subs }

  abbrev table : Table
  table = s.context.known.table

  -- No name in code denotes a formal of an anonymous access type.
  abbrev pub Rooted : Code → Type 0
  Rooted c = AreDenoted (source.IsRootFormal s objects subs made laws) c

  abbrev Sourced : TypedCode → Type 0
  Sourced c = all_fit (has_source y) c ≡ true

  abbrev Fits : List TypedCode → Type 0
  Fits cs = AllByRecursion Sourced cs

  abbrev AreLocal : List DeclaredObject → Type 0
  AreLocal os = AllByRecursion (IsLocalView table) os

  pub listed : (cs : List TypedCode) → Fits cs → Sourced (typed_code_list cs)
  unfolding all_fit
  listed [] h = refl
  listed (c ∷ cs) h = both_true (all_fit (has_source y) c) (all_fit (has_source y) (typed_code_list cs)) h.0 (listed cs h.1)

  call_fits : (name : Tree) → Sourced (typed_call s name)
  unfolding all_fit
  call_fits (resolved.Named p d rest) = by (entry_of s.context.known d)
    where
      by_predefined : (which : Predefined) → Sourced (predefined_call s p which (call_arguments rest))
      by_predefined predefined.Put = refl
      by_predefined predefined.PutLine = refl
      by_predefined predefined.NewLine = refl
      by_predefined predefined.Get = refl
      by_predefined predefined.EndOfFile = refl
      by_predefined predefined.Deallocation = refl

      by : (e : Entry) → Sourced (call_of s p d e rest)
      by (entry.Subprogram profile) = refl
      by (entry.Instance t) = refl
      by (entry.Predefined which) = by_predefined which
      by (entry.Object o) = refl
      by (entry.Literal t n) = refl
      by entry.Type = refl
      by entry.Nothing = refl
      by entry.Package = refl
  call_fits _ = refl

  -- Statements have sources, and objects are no views or local variables.
  abbrev Went : ℕ → ℕ → ℕ → Code → Type 0
  Went a n m c = Fits (statements s n c) × AreLocal (objects_in units h a m c)

  abbrev Faultless : Bool → Code → Type 0
  Faultless looped c = code_faults (flagged looped s.context.starts s.context) c ≡ []

  abbrev pub Declares : Bool → (a n m : ℕ) → Code → Type 0
  Declares looped a n m c = IsMeantCode s y made c → AreTyped made s.context c → Faultless looped c → Went a n m c

  abbrev pub Goes : Bool → (a n m : ℕ) → Code → Type 0
  Goes looped a n m c = Rooted c → IsMeantCode s y made c → AreTyped made s.context c → Faultless looped c → Went a n m c

  went_both : (a n k m l : ℕ) (c d : Code) → Went a n m c → Went a k l d
      → Fits (statements s n c ++ statements s k d) × AreLocal (objects_in units h a m c ++ objects_in units h a l d)
  went_both a n k m l c d x z = (
    all_both Sourced (statements s n c) (statements s k d) x.0 z.0,
    all_both (IsLocalView table) (objects_in units h a m c) (objects_in units h a l d) x.1 z.1,
  )

  pub one_declaration : (looped : Bool) (a n m : ℕ) (c : Code) → is_declaration c ≡ true → Declares looped a n m c
  unfolding statements objects_in IsMeantCode AreTyped code_faults
  one_declaration looped a n m (Objects ids constant i v) e meant are none = (
    source.objects_fit s objects subs made laws looped marks ids i constant v meant.0 meant.1 none,
    source.objects_local s objects subs made laws looped marks h same outside a ids i constant v are none,
  )
  one_declaration looped a n m (Numbers ids v) e meant are none = (
    source.numbers_fit s objects subs made laws ids _ meant.0,
    source.numbers_local s objects subs made laws looped marks h same outside a ids are,
  )
  one_declaration looped a n m (Incomplete d) e meant are none = (tt, tt)
  one_declaration looped a n m (Private d) e meant are none = (tt, tt)
  one_declaration looped a n m (TypeDecl d def end) e meant are none = (tt, tt)
  one_declaration looped a n m (Subtype d mark) e meant are none = (tt, tt)
  one_declaration looped a n m (ConstrainedSubtype d mark low high) e meant are none = (tt, tt)
  one_declaration looped a n m (Instance d mark args) e meant are none = (tt, tt)
  one_declaration looped a n m (SubDecl front) e meant are none = (tt, tt)
  one_declaration looped a n m NoMore e meant are none = (tt, tt)
  one_declaration looped a n m _ e meant are none = absurd (false≢true e)

  pub declarations_went : (looped : Bool) (a n m : ℕ) (c : Code) → are_declarations c ≡ true → Declares looped a n m c
  unfolding statements objects_in IsMeantCode AreTyped code_faults
  declarations_went looped a n m c e =
      on_declarations (λ c. (n m : ℕ) → Declares looped a n m c)
      (λ c rest one later n m meant are none.
      let z : Context = flagged looped s.context.starts s.context in
      went_both a n (n + scope_count c) m (m + scope_count c) c rest
      (one_declaration looped a n m c one meant.0 are.0 (nil_left (code_faults z c) (code_faults z rest) none))
      (later (n + scope_count c) (m + scope_count c) meant.1 are.1 (nil_right (code_faults z c) (code_faults z rest) none)))
      (λ n m meant are none. (tt, tt)) c e n m

  -- What a package declares is no view.
  abbrev pub DeclaresNoView : ℕ → Code → Type 0
  DeclaresNoView n c = IsMeantCode s y made c → Faultless false c → AllByRecursion (DeclaresPlain y) (statements s n c)

  pub declaration_plain : (n : ℕ) (c : Code) → in_package s.context ≡ true → is_declaration c ≡ true → DeclaresNoView n c
  unfolding statements IsMeantCode code_faults
  declaration_plain n (Objects ids constant i v) shared e = λ meant none. source.objects_plain s objects subs made laws false marks ids i constant v _ shared meant.0 none
  declaration_plain n (Numbers ids v) shared e = λ meant none. source.numbers_plain s objects subs made laws ids _ meant.0
  declaration_plain n (Incomplete d) shared e = λ meant none. tt
  declaration_plain n (Private d) shared e = λ meant none. tt
  declaration_plain n (TypeDecl d def end) shared e = λ meant none. tt
  declaration_plain n (Subtype d mark) shared e = λ meant none. tt
  declaration_plain n (ConstrainedSubtype d mark low high) shared e = λ meant none. tt
  declaration_plain n (Instance d mark args) shared e = λ meant none. tt
  declaration_plain n (SubDecl front) shared e = λ meant none. tt
  declaration_plain n NoMore shared e = λ meant none. tt
  declaration_plain n _ shared e = absurd (false≢true e)

  pub declarations_plain : (n : ℕ) (c : Code) → in_package s.context ≡ true → are_declarations c ≡ true → DeclaresNoView n c
  unfolding statements IsMeantCode code_faults
  declarations_plain n c shared e =
      on_declarations (λ c. (n : ℕ) → DeclaresNoView n c)
      (λ c rest one later n meant none.
      let z : Context = flagged false s.context.starts s.context in
      all_both (DeclaresPlain y) (statements s n c) (statements s (n + scope_count c) rest)
      (declaration_plain n c shared one meant.0 (nil_left (code_faults z c) (code_faults z rest) none))
      (later (n + scope_count c) meant.1 (nil_right (code_faults z c) (code_faults z rest) none)))
      (λ n meant none. tt) c e n

  -- The formals of what is called, and what the rules ask of code, are given; the loop that the rules know of may not be one
  -- that the grammar knows of.
  abbrev GoesAll : Bool → Code → Type 0
  GoesAll inside c = (looped : Bool) (a n m : ℕ) → Goes looped a n m c

  abbrev AlternativesGo : Bool → Code → Type 0
  AlternativesGo inside c = (looped : Bool) (a n m t : ℕ) → Rooted c → AreAlternatives s y made c → AreTyped made s.context c
      → alternatives_faults (flagged looped s.context.starts s.context) t c ≡ [] → Went a n m c

  abbrev AlternativeGoes : Bool → Code → Type 0
  AlternativeGoes inside c = (rest : Code) → AlternativesGo inside rest → AlternativesGo inside (More c rest)

  list_goes : (inside : Bool) (c rest : Code) → GoesAll inside c → GoesAll inside rest → GoesAll inside (More c rest)
  unfolding statements objects_in IsMeantCode AreDenoted AreTyped code_faults
  list_goes inside c rest one more looped a n m roots meant are none =
      let z : Context = flagged looped s.context.starts s.context in
      went_both a n (n + scope_count c) m (m + scope_count c) c rest
      (one looped a n m roots.0 meant.0 are.0 (nil_left (code_faults z c) (code_faults z rest) none))
      (more looped a (n + scope_count c) (m + scope_count c) roots.1 meant.1 are.1 (nil_right (code_faults z c) (code_faults z rest) none))

  went_laws : StatementLaws GoesAll GoesAll AlternativesGo AlternativeGoes
  unfolding statements objects_in IsMeantCode AreAlternatives AreDenoted AreTyped code_faults alternatives_faults alternative_faults all_fit
  went_laws = record {
    list = list_goes;
    none = λ inside looped a n m roots meant are none. (tt, tt);
    skip = λ inside p looped a n m roots meant are none. ((refl, tt), tt);
    assign = λ inside target v looped a n m roots meant are none.
        (let z : Context = flagged looped s.context.starts s.context in
        ((source.assign_fit s objects subs made laws looped s.context.starts target v roots.0 meant.0 meant.1 (nil_left (target_faults z target) _ none) (nil_right (target_faults z target) _ none), tt), tt));
    call = λ inside name looped a n m roots meant are none. ((call_fits name, tt), tt);
    exit = λ inside p when e looped a n m roots meant are none. ((refl, tt), tt);
    return = λ inside p v looped a n m roots meant are none. ((refl, tt), tt);
    choice = λ inside p branches otherwise one more looped a n m roots meant are none.
        (let z : Context = flagged looped s.context.starts s.context in
        let first = one looped a n m roots.0 meant.0 are.0 (nil_left (code_faults z branches) (code_faults z otherwise) none) in
        let second = more looped a (n + scope_count branches) (m + scope_count branches) roots.1 meant.1 are.1 (nil_right (code_faults z branches) (code_faults z otherwise) none) in (
          (
            both_true (all_fit (has_source y) (typed_code_list (statements s n branches))) (all_fit (has_source y) (typed_code_list (statements s (n + scope_count branches) otherwise)))
                (listed (statements s n branches) first.0) (listed (statements s (n + scope_count branches) otherwise) second.0),
            tt,
          ),
          all_both (IsLocalView table) (objects_in units h a m branches) (objects_in units h a (m + scope_count branches) otherwise) first.1 second.1,
        ));
    cases = λ inside p v whens one looped a n m roots meant are none.
        (let z : Context = flagged looped s.context.starts s.context in
        let more = nil_right (selector_faults z v) _ none in
        let first = one looped a n m (type_or_integer (own_type z v)) roots.1 meant.1 are (nil_right (coverage z p v (choices_of whens)) _ more) in
        ((listed (statements s n whens) first.0, tt), first.1));
    loop = λ inside p stmts one looped a n m roots meant are none. (let first = one true a n m roots meant are none in ((listed (statements s n stmts) first.0, tt), first.1));
    while = λ inside p v stmts one looped a n m roots meant are none.
        (let z : Context = flagged looped s.context.starts s.context in
        let first = one true a n m roots.1 meant.1 are (nil_right (faults z stands.Elsewhere boolean v) _ none) in ((listed (statements s n stmts) first.0, tt), first.1));
    for = λ inside p d reversed range stmts one looped a n m roots meant are none.
        (let z : Context = flagged looped s.context.starts s.context in
        let first = one true m (n + 1) (m + 1) roots.2 meant.2 are.1 (nil_right (range_faults z range) _ none) in
        let scalar : is_scalar (full table (parameter_type s.context range)) ≡ true =
        parameter_scalar s objects subs made laws looped s.context.starts range meant.0 (nil_left (range_faults z range) _ none) in (
          (listed (statements s (n + 1) stmts) first.0, tt),
          (
            source.plain_object s objects subs made laws looped marks h same outside m (declared_number d) (parameter_type s.context range) mode.In d are.0.0 refl are.0.1 are.0.2
                (scalar_plain (full table (parameter_type s.context range)) scalar),
            first.1,
          ),
        ));
    block = λ inside p items stmts end declares one looped a n m roots meant are none.
        (let z : Context = flagged looped s.context.starts s.context in
        let k : ℕ = n + 1 + scope_count items in
        let l : ℕ = m + 1 + scope_count items in
        let whole = went_both m (n + 1) k (m + 1) l items stmts
        (declarations_went looped m (n + 1) (m + 1) items declares meant.0 are.0 (nil_left (code_faults z items) (code_faults z stmts) none))
        (one looped m k l roots.1 meant.1 are.1 (nil_right (code_faults z items) (code_faults z stmts) none)) in
        ((listed (statements s (n + 1) items ++ statements s k stmts) whole.0, tt), whole.1));
    branches = list_goes;
    no_branches = λ inside looped a n m roots meant are none. (tt, tt);
    branch = λ inside p v stmts one looped a n m roots meant are none.
        (let z : Context = flagged looped s.context.starts s.context in
        let first = one looped a n m roots.1 meant.1 are (nil_right (faults z stands.Elsewhere boolean v) _ none) in ((listed (statements s n stmts) first.0, tt), first.1));
    alternatives = λ inside c rest one more. one rest more;
    no_alternatives = λ inside looped a n m t roots meant are none. (tt, tt);
    alternative = λ inside choices stmts one rest more looped a n m t roots meant are none.
        (let z : Context = flagged looped s.context.starts s.context in
        let here = alternative_faults z t (is_last rest) (When choices stmts) in
        let before = choices_faults z t (is_one_choice (code_items choices) && is_last rest) choices in
        let first = one looped a n m roots.0 meant.0 are.0 (nil_right before _ (nil_left here (alternatives_faults z t rest) none)) in
        went_both a n (n + scope_count (When choices stmts)) m (m + scope_count (When choices stmts)) (When choices stmts) rest ((listed (statements s n stmts) first.0, tt), first.1)
        (more looped a (n + scope_count (When choices stmts)) (m + scope_count (When choices stmts)) t roots.1 meant.1 are.1 (nil_right here (alternatives_faults z t rest) none)));
    no_alternative = λ inside rest more looped a n m t roots meant are none. absurd meant;
  }

  pub statements_went : (looped inside : Bool) (a n m : ℕ) (c : Code) → are_statements inside c ≡ true → Goes looped a n m c
  statements_went looped inside a n m c e = on_statements went_laws inside c e looped a n m

  -- ---- bodies

  pub body_went : (a n m : ℕ) (items stmts : Code) → are_declarations items ≡ true → are_statements false stmts ≡ true → Rooted stmts → IsMeantCode s y made items → IsMeantCode s y made stmts
      → AreTyped made s.context items → AreTyped made s.context stmts → Faultless false items → Faultless false stmts
      → Sourced (typed_body s n items stmts) × AreLocal (objects_in units h a m items ++ objects_in units h a (m + scope_count items) stmts)
  body_went a n m items stmts e f roots meant more are others none nothing =
      let whole = went_both a n (n + scope_count items) m (m + scope_count items) items stmts (declarations_went false a n m items e meant are none)
      (statements_went false false a (n + scope_count items) (m + scope_count items) stmts f roots more others nothing) in
      (listed (statements s n items ++ statements s (n + scope_count items) stmts) whole.0, whole.1)
