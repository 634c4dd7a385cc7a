-- The table of refusals (docs/TOOL.md, "Refusals").
use Rattle.std.specs.Prelude.{ℕ, List, codes}
use Rattle.rule_reports.specs.declared.code.Code.{Code}
use Rattle.rule_reports.specs.declared.code.Code.TheVariants.{S1, L1, L2, L3, L4, L5, P1, P2, P3, N1, N2, N3, N4, N5, N6, Y1, Y2, Y3, K1, K2, K3, K4, K5, K6, K7, K8, M1, G1, G2}

-- The letters and the text of each code.
abbrev pub code_row : Code → List ℕ × List ℕ
code_row S1 = (codes "S1", codes "sources too large")
code_row L1 = (codes "L1", codes "bad byte")
code_row L2 = (codes "L2", codes "bad identifier")
code_row L3 = (codes "L3", codes "bad number")
code_row L4 = (codes "L4", codes "unclosed string")
code_row L5 = (codes "L5", codes "too many tokens")
code_row P1 = (codes "P1", codes "syntax")
code_row P2 = (codes "P2", codes "nesting too deep")
code_row P3 = (codes "P3", codes "construct left out")
code_row N1 = (codes "N1", codes "unknown name")
code_row N2 = (codes "N2", codes "declared twice")
code_row N3 = (codes "N3", codes "not visible")
code_row N4 = (codes "N4", codes "used before its declaration")
code_row N5 = (codes "N5", codes "body missing")
code_row N6 = (codes "N6", codes "closing name differs")
code_row Y1 = (codes "Y1", codes "type too large")
code_row Y2 = (codes "Y2", codes "too many access parts")
code_row Y3 = (codes "Y3", codes "array without elements")
code_row K1 = (codes "K1", codes "wrong type")
code_row K2 = (codes "K2", codes "not a variable")
code_row K3 = (codes "K3", codes "wrong profile")
code_row K4 = (codes "K4", codes "choice missing or doubled")
code_row K5 = (codes "K5", codes "owning expression out of place")
code_row K6 = (codes "K6", codes "anonymous access out of place")
code_row K7 = (codes "K7", codes "not static")
code_row K8 = (codes "K8", codes "package value")
code_row M1 = (codes "M1", codes "name too deep")
code_row G1 = (codes "G1", codes "too many points")
code_row G2 = (codes "G2", codes "too many facts")

abbrev pub code_letters : Code → List ℕ
code_letters code = (code_row code).0

abbrev pub code_text : Code → List ℕ
code_text code = (code_row code).1
