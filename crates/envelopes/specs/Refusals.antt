-- Why a call of this layer is refused, by number. Assumes nothing.
use Rattle.std.specs.Prelude.{ℕ, Result}
use Rattle.tokens.specs.Refusals.{Told, told_as}
use Rattle.tokens.specs.declared.time.MomentRefusal.{MomentRefusal}
use Rattle.tokens.specs.declared.time.MomentRefusal.TheVariants.{TooEarly, TooLate}
use Rattle.envelopes.specs.declared.refusal.Refusal.{Refusal}
use Rattle.envelopes.specs.declared.refusal.Refusal.TheVariants.{Rate, Maximum, Volume, NinthFlow, SumOfRates, BothFlags, Buckets, NoTokens, Rank, BeforeLatest, AfterDayEnd}

abbrev pub number : Refusal → ℕ
number Rate = 1
number Maximum = 2
number Volume = 3
number NinthFlow = 4
number SumOfRates = 5
number BothFlags = 6
number Buckets = 7
number NoTokens = 8
number Rank = 9
number BeforeLatest = 10
number AfterDayEnd = 11

-- a refusal of a moment, as one of a call
abbrev pub of_moment : MomentRefusal → Refusal
of_moment TooEarly = BeforeLatest
of_moment TooLate = AfterDayEnd

-- what a result tells, where its answer is read by `f`: the answer, or the refusal's number
abbrev pub told_by : {A B : Type 0} → (A → B) → Result A Refusal → Told B
told_by = told_as number

abbrev pub told : {A : Type 0} → Result A Refusal → Told A
told = told_by (λ answer. answer)
