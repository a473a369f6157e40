-- The numbers of refusals, as include/vetxarno.h lists them call by call.
use Rattle.std.specs.Prelude.{ℕ, Result, Ok, Err}
use Rattle.language.specs.declared.refusals.Refusal.{Refusal}

abbrev pub refusal_number : Refusal → ℕ
refusal_number Refusal.TextTooLong = 1
refusal_number Refusal.TextUnread = 2
refusal_number Refusal.RuleBroken = 3
refusal_number Refusal.DeclaredTwice = 4
refusal_number Refusal.UndeclaredValue = 5
refusal_number Refusal.UnfitValue = 6
refusal_number Refusal.OverLimit = 7
refusal_number Refusal.RegisterTooShort = 8
refusal_number Refusal.NoRegister = 11
refusal_number Refusal.QueryTooLong = 12
refusal_number Refusal.QueryUnread = 13
refusal_number Refusal.TooDeep = 14
refusal_number Refusal.BadName = 15
refusal_number Refusal.BadPiece = 16
refusal_number Refusal.Undeclared = 17
refusal_number Refusal.UnfitPiece = 18
refusal_number Refusal.TooManyNodes = 19
refusal_number Refusal.QueryTooShort = 20
refusal_number Refusal.NoQuery = 21
refusal_number Refusal.NoAskedRegister = 22
refusal_number Refusal.Mismatch = 23
refusal_number Refusal.MarksTooShort = 24
refusal_number Refusal.KindsClash = 32
refusal_number Refusal.TreeTooShort = 33
refusal_number Refusal.NoTree = 34

-- The number of what a call answers, 0 where it refuses nothing.
abbrev pub number_of : {A : Type 0} → Result A Refusal → ℕ
number_of (Ok a) = 0
number_of (Err r) = refusal_number r
