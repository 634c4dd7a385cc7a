-- Reserved words (docs/LANGUAGE.md, "Lexical elements"; Ada 2012, 2.9).
use Rattle.std.specs.Prelude.{if◌then◌else◌, List, [], ◌∷◌, Option, Some, None}
use Rattle.std.specs.Str.{str_eq_ignore_ascii_case}
use lib.Chars.{codes}
use Rattle.ada_lexer.specs.declared.token.Reserved.{Reserved}
use Rattle.ada_lexer.specs.declared.token.Reserved.TheVariants as kw
use Rattle.ada_lexer.specs.Characters.{Text}

-- The 73 words, in the order of the manual.
unfoldable pub reserved_words : List (Text × Reserved)
reserved_words =
    (codes "abort", kw.KwAbort) ∷ (codes "abs", kw.KwAbs) ∷ (codes "abstract", kw.KwAbstract) ∷
    (codes "accept", kw.KwAccept) ∷ (codes "access", kw.KwAccess) ∷ (codes "aliased", kw.KwAliased) ∷
    (codes "all", kw.KwAll) ∷ (codes "and", kw.KwAnd) ∷ (codes "array", kw.KwArray) ∷
    (codes "at", kw.KwAt) ∷ (codes "begin", kw.KwBegin) ∷ (codes "body", kw.KwBody) ∷
    (codes "case", kw.KwCase) ∷ (codes "constant", kw.KwConstant) ∷ (codes "declare", kw.KwDeclare) ∷
    (codes "delay", kw.KwDelay) ∷ (codes "delta", kw.KwDelta) ∷ (codes "digits", kw.KwDigits) ∷
    (codes "do", kw.KwDo) ∷ (codes "else", kw.KwElse) ∷ (codes "elsif", kw.KwElsif) ∷
    (codes "end", kw.KwEnd) ∷ (codes "entry", kw.KwEntry) ∷ (codes "exception", kw.KwException) ∷
    (codes "exit", kw.KwExit) ∷ (codes "for", kw.KwFor) ∷ (codes "function", kw.KwFunction) ∷
    (codes "generic", kw.KwGeneric) ∷ (codes "goto", kw.KwGoto) ∷ (codes "if", kw.KwIf) ∷
    (codes "in", kw.KwIn) ∷ (codes "interface", kw.KwInterface) ∷ (codes "is", kw.KwIs) ∷
    (codes "limited", kw.KwLimited) ∷ (codes "loop", kw.KwLoop) ∷ (codes "mod", kw.KwMod) ∷
    (codes "new", kw.KwNew) ∷ (codes "not", kw.KwNot) ∷ (codes "null", kw.KwNull) ∷
    (codes "of", kw.KwOf) ∷ (codes "or", kw.KwOr) ∷ (codes "others", kw.KwOthers) ∷
    (codes "out", kw.KwOut) ∷ (codes "overriding", kw.KwOverriding) ∷ (codes "package", kw.KwPackage) ∷
    (codes "pragma", kw.KwPragma) ∷ (codes "private", kw.KwPrivate) ∷
    (codes "procedure", kw.KwProcedure) ∷ (codes "protected", kw.KwProtected) ∷
    (codes "raise", kw.KwRaise) ∷ (codes "range", kw.KwRange) ∷ (codes "record", kw.KwRecord) ∷
    (codes "rem", kw.KwRem) ∷ (codes "renames", kw.KwRenames) ∷ (codes "requeue", kw.KwRequeue) ∷
    (codes "return", kw.KwReturn) ∷ (codes "reverse", kw.KwReverse) ∷ (codes "select", kw.KwSelect) ∷
    (codes "separate", kw.KwSeparate) ∷ (codes "some", kw.KwSome) ∷ (codes "subtype", kw.KwSubtype) ∷
    (codes "synchronized", kw.KwSynchronized) ∷ (codes "tagged", kw.KwTagged) ∷
    (codes "task", kw.KwTask) ∷ (codes "terminate", kw.KwTerminate) ∷ (codes "then", kw.KwThen) ∷
    (codes "type", kw.KwType) ∷ (codes "until", kw.KwUntil) ∷ (codes "use", kw.KwUse) ∷
    (codes "when", kw.KwWhen) ∷ (codes "while", kw.KwWhile) ∷ (codes "with", kw.KwWith) ∷
    (codes "xor", kw.KwXor) ∷ []

-- The entry whose spelling is the given one but for letter case.
abbrev pub entry_of : List (Text × Reserved) → Text → Option Reserved
entry_of [] word = None
entry_of (entry ∷ entries) word =
    if str_eq_ignore_ascii_case entry.0 word then Some entry.1 else entry_of entries word

-- The reserved word that these bytes spell, in any letter case.
unfoldable pub reserved : Text → Option Reserved
reserved = entry_of reserved_words
