-- What a refusal says of the faults of a program.
use Rattle.std.proofs.Common.{◌≡◌, ℕ, Bool, true, false, IsTrue, List, length, Option, None, Some, Result, refl, sym, ap, ◌∙◌, subst}
use Rattle.std.specs.List.{flat_map}
use Rattle.std.specs.Coded.{Coded, code_by, coded×, coded_list, coded_ℕ}
use Rattle.ada_tree.specs.declared.unit.SourceUnit.{SourceUnit}
use Rattle.name_events.specs.declared.declaration.Identified.{Identified}
use Rattle.name_events.specs.Denotes.{decl_infos}
use Rattle.name_events.specs.Identified.{identified}
use Rattle.resolved_tree.specs.Trees.{Code, Program}
use Rattle.resolved_tree.specs.Nodes.{Rows, HoldsAllCode}
use Rattle.tree_lowering.specs.Lowered.{lowered_files}
use Rattle.type_definitions.specs.declared.judgement.Fault.{Fault}
use Rattle.type_definitions.specs.declared.table.Known.{Known}
use Rattle.type_definitions.specs.declared.table.Made.{Made}
use Rattle.type_definitions.specs.declared.refusal.TypeRefusal.{TypeRefusal}
use Rattle.type_definitions.specs.declared.refusal.TypeRefusal.TheVariants.{TooLarge, TooManyParts, NoElements, WrongType, NotVariable, WrongProfile, BadChoices, OwningPlace, AnonymousPlace, NotStatic, PackageValue, Memory}
use Rattle.type_definitions.specs.Faults.{first, noted}
use Rattle.type_definitions.specs.Refusals.{Judges, Says, refusal_of, size_refusal, sentence_refusal}
use Rattle.type_definitions.specs.Whole.{TypeFault, Size, Sentence, all_made, decided, fault_known, known_of, told, made_faults, sentence_faults, type_fault, type_sizes}
use Rattle.typing_steps.specs.Programs.{program_of, sentence_fault}

says : (r : TypeRefusal) (fault : TypeFault) → r ≡ refusal_of fault → Says r (Some fault)
says (TooLarge p) fault is = is
says (TooManyParts p) fault is = is
says (NoElements p) fault is = is
says (WrongType p) fault is = is
says (NotVariable p) fault is = is
says (WrongProfile p) fault is = is
says (BadChoices p) fault is = is
says (OwningPlace p) fault is = is
says (AnonymousPlace p) fault is = is
says (NotStatic p) fault is = is
says (PackageValue p) fault is = is
says Memory fault is = tt

-- the first type that exceeds a limit
first_size : (known : Known) (units : List Code) (made : List Made) (found : Option Fault) → made ≡ all_made known units
    → found ≡ noted None (flat_map (made_faults known.table made) made) → first (type_sizes known units) ≡ found
unfolding type_sizes
first_size known units made found is sized =
    ap (λ (m : List Made). noted None (flat_map (made_faults known.table m) m)) (sym is) ∙ sym sized

pub size_said : (known : Known) (units : List Code) (made : List Made) (found : Option Fault) (fault : Fault) (r : TypeRefusal) → made ≡ all_made known units
    → found ≡ noted None (flat_map (made_faults known.table made) made) → found ≡ Some fault → r ≡ size_refusal fault.code fault.pos
    → Says r (fault_known known units)
size_said known units made found fault r is sized some refused =
    subst (λ (f : Option Fault). Says r (decided f (first (sentence_faults known units)))) (sym (first_size known units made found is sized ∙ some))
    (says r (Size fault) refused)

-- no type exceeds a limit
pub sentence_judged : {A : Type 0} (known : Known) (units : List Code) (made : List Made) (found : Option Fault) (r : Result A TypeRefusal)
    → made ≡ all_made known units → found ≡ noted None (flat_map (made_faults known.table made) made) → found ≡ None
    → Judges r (sentence_fault known units) → Judges r (fault_known known units)
sentence_judged {A} known units made found r is sized none judged =
    subst (λ (f : Option Fault). Judges r (decided f (first (sentence_faults known units)))) (sym (first_size known units made found is sized ∙ none)) judged

-- the first broken sentence
pub sentence_said : (known : Known) (units : List Code) (found : Option Fault) (fault : Fault) (r : TypeRefusal) → found ≡ noted None (sentence_faults known units)
    → found ≡ Some fault → r ≡ sentence_refusal fault.code fault.pos → Says r (sentence_fault known units)
sentence_said known units found fault r is some refused =
    subst (λ (f : Option Fault). Says r (decided None f)) (sym (sym is ∙ some)) (says r (Sentence fault) refused)

pub no_sentence : (known : Known) (units : List Code) (found : Option Fault) → found ≡ noted None (sentence_faults known units) → found ≡ None
    → sentence_fault known units ≡ None
no_sentence known units found is none = ap (λ (f : Option Fault). decided None f) (sym is ∙ none)

-- the program of the files
abbrev pub with_units : ℕ → List Code → Program
with_units count units = record { count = count; units = units }

pub program_is : (files : List (List SourceUnit)) (units : List Code) (count : ℕ) (numbers : List Identified) → units ≡ lowered_files numbers files
    → count ≡ length (decl_infos files) → numbers ≡ identified files → with_units count units ≡ program_of files
program_is files units count numbers lowered counted numbered =
    ap (with_units count) (lowered ∙ ap (λ (n : List Identified). lowered_files n files) numbered)
    ∙ ap (λ (n : ℕ). with_units n (lowered_files (identified files) files)) counted

-- What is told of a program that breaks a sentence.
pub files_told : (r : TypeRefusal) (files : List (List SourceUnit)) (units : List Code) (count : ℕ) (numbers : List Identified)
    → Says r (type_fault (with_units count units)) → units ≡ lowered_files numbers files → count ≡ length (decl_infos files) → numbers ≡ identified files
    → Says r (type_fault (program_of files))
files_told r files units count numbers says lowered counted numbered =
    subst (λ (p : Program). Says r (type_fault p)) (program_is files units count numbers lowered counted numbered) says

pub said_of : (r : TypeRefusal) (known : Known) (units : List Code) (count : ℕ) → Says r (fault_known known units)
    → known ≡ known_of (with_units count units) → Says r (fault_known (known_of (with_units count units)) units)
said_of r known units count says gathered = subst (λ (k : Known). Says r (fault_known k units)) gathered says

-- ---- what is told

nothing_named : (r : TypeRefusal) → Says r None → r ≡ Memory
nothing_named (TooLarge p) says = absurd says
nothing_named (TooManyParts p) says = absurd says
nothing_named (NoElements p) says = absurd says
nothing_named (WrongType p) says = absurd says
nothing_named (NotVariable p) says = absurd says
nothing_named (WrongProfile p) says = absurd says
nothing_named (BadChoices p) says = absurd says
nothing_named (OwningPlace p) says = absurd says
nothing_named (AnonymousPlace p) says = absurd says
nothing_named (NotStatic p) says = absurd says
nothing_named (PackageValue p) says = absurd says
nothing_named Memory says = refl

memory_says : (r : TypeRefusal) (found : Option TypeFault) → r ≡ Memory → Says r found
memory_says r found is = subst (λ (z : TypeRefusal). Says z found) (sym is) tt

pub not_memory : (r : TypeRefusal) (b : Bool) → (r ≡ Memory → IsTrue b) → b ≡ false → r ≡ Memory → ⊥
not_memory r true memory not_so is = cc
not_memory r false memory not_so is = let so : IsTrue false = memory is in cc

-- The first fault is told again, where nothing else is found.
pub first_told : (r : TypeRefusal) (found causes : Option TypeFault) → Says r found → causes ≡ None → Says r (told found causes)
first_told r None None says none = says
first_told r None (Some g) says none = cc
first_told r (Some f) None says none = says
first_told r (Some f) (Some g) says none = cc

-- Else what is found.
pub other_told : (r other : TypeRefusal) (found causes : Option TypeFault) → (r ≡ Memory → ⊥) → Says r found → Says other causes → Says other (told found causes)
other_told r other None causes named said says = absurd (named (nothing_named r said))
other_told r other (Some f) None named said says = memory_says other (Some f) (nothing_named other says)
other_told r other (Some f) (Some g) named said says = says

-- the code of the files
pub lowered_is : (files found : List (List SourceUnit)) (rows : Rows) (units : List ℕ) (numbers : List Identified)
    → HoldsAllCode rows units (lowered_files numbers found) → found ≡ files → numbers ≡ identified files
    → HoldsAllCode rows units (program_of files).units
lowered_is files found rows units numbers holds same numbered =
    let is : lowered_files numbers found ≡ lowered_files (identified files) files = λ j. lowered_files (numbered j) (same j) in
    subst (λ (codes : List Code). HoldsAllCode rows units codes) is holds

-- lists of identifiers with their declarations are told apart by their numbers
pub identified_code : Coded (List Identified)
identified_code =
    coded_list (code_by ((ℕ × (ℕ × ℕ)) × ℕ) (coded× (coded× coded_ℕ (coded× coded_ℕ coded_ℕ)) coded_ℕ)
    (λ i. ((i.pos.file, (i.pos.line, i.pos.column)), i.number))
    (λ p. record { pos = record { file = p.0.0; line = p.0.1.0; column = p.0.1.1 }; number = p.1 }) (λ _. refl))
