-- What a run gives is coded by numbers, so equations of it are propositions.
use Rattle.std.proofs.Common.{◌≡◌, ℕ, zero, suc, List, refl}
use Rattle.std.specs.Coded.{Coded, code_by, coded×, coded_ℕ, coded_list}
use Rattle.spark_base.specs.declared.position.Pos.{Pos}
use Rattle.machine.specs.Evaluate.{Exception, ConstraintError, ProgramError, StorageError, DataError, EndError, Trap, Touched, Twice}
use Rattle.machine.specs.States.{Leak, Ending, Normal, Raised, Spent, Trapped}
use Rattle.run_codes.specs.Points.{Ran}

-- ---- positions and leaks

abbrev Numbers : Type 0
Numbers = ℕ × (ℕ × ℕ)

abbrev numbers_code : Coded Numbers
numbers_code = coded× coded_ℕ (coded× coded_ℕ coded_ℕ)

abbrev numbers : Pos → Numbers
numbers p = (p.file, (p.line, p.column))

abbrev position : Numbers → Pos
position n = record { file = n.0; line = n.1.0; column = n.1.1 }

abbrev leak_code : Coded Leak
leak_code = code_by (ℕ × Numbers) (coded× coded_ℕ numbers_code) (λ l. (l.number, numbers l.pos)) (λ p. record { number = p.0; pos = position p.1 }) (λ _. refl)

-- ---- endings

abbrev exception_number : Exception → ℕ
exception_number ConstraintError = 0
exception_number ProgramError = 1
exception_number StorageError = 2
exception_number DataError = 3
exception_number EndError = 4

abbrev exception : ℕ → Exception
exception zero = ConstraintError
exception (suc zero) = ProgramError
exception (suc (suc zero)) = StorageError
exception (suc (suc (suc zero))) = DataError
exception (suc (suc (suc (suc n)))) = EndError

exception_back : (e : Exception) → exception (exception_number e) ≡ e
exception_back ConstraintError = refl
exception_back ProgramError = refl
exception_back StorageError = refl
exception_back DataError = refl
exception_back EndError = refl

abbrev exception_code : Coded Exception
exception_code = code_by ℕ coded_ℕ exception_number exception exception_back

abbrev trap_number : Trap → ℕ
trap_number Touched = 0
trap_number Twice = 1

abbrev trap : ℕ → Trap
trap zero = Touched
trap (suc n) = Twice

-- Which ending, why, and where.
abbrev Parts : Type 0
Parts = ℕ × (ℕ × Numbers)

abbrev parts : Ending → Parts
parts Normal = (0, (0, (0, (0, 0))))
parts (Raised e p) = (1, (exception_number e, numbers p))
parts Spent = (2, (0, (0, (0, 0))))
parts (Trapped t p) = (3, (trap_number t, numbers p))

abbrev ending_at : ℕ → ℕ → Pos → Ending
ending_at zero n p = Normal
ending_at (suc zero) n p = Raised (exception n) p
ending_at (suc (suc zero)) n p = Spent
ending_at (suc (suc (suc k))) n p = Trapped (trap n) p

abbrev ending : Parts → Ending
ending x = ending_at x.0 x.1.0 (position x.1.1)

ending_back : (e : Ending) → ending (parts e) ≡ e
ending_back Normal = refl
ending_back (Raised ConstraintError p) = refl
ending_back (Raised ProgramError p) = refl
ending_back (Raised StorageError p) = refl
ending_back (Raised DataError p) = refl
ending_back (Raised EndError p) = refl
ending_back Spent = refl
ending_back (Trapped Touched p) = refl
ending_back (Trapped Twice p) = refl

abbrev ending_code : Coded Ending
ending_code = code_by Parts (coded× coded_ℕ (coded× coded_ℕ numbers_code)) parts ending ending_back

-- ---- what a run gives

abbrev Given : Type 0
Given = List ℕ × (List Leak × (Ending × (ℕ × (ℕ × (ℕ × ℕ)))))

pub ran_code : Coded Ran
ran_code =
    code_by Given (coded× (coded_list coded_ℕ) (coded× (coded_list leak_code) (coded× ending_code (coded× coded_ℕ (coded× coded_ℕ (coded× coded_ℕ coded_ℕ))))))
    (λ r. (r.output, (r.leaks, (r.ending, (r.steps, (r.made, (r.freed, r.leaked)))))))
    (λ g. record { output = g.0; leaks = g.1.0; ending = g.1.1.0; steps = g.1.1.1.0; made = g.1.1.1.1.0; freed = g.1.1.1.1.1.0; leaked = g.1.1.1.1.1.1 })
    (λ _. refl)
