-- Why a call is refused, by number, and what it tells its caller: an answer or that number. Assumes nothing.
use Rattle.std.specs.Prelude.{ℕ, Bool, cond, List, [], ◌∷◌, Ok, Err, Result}
use Rattle.tokens.specs.declared.refusal.Refusal.{Refusal}
use Rattle.tokens.specs.declared.refusal.Refusal.TheVariants.{NoTokens, BeforeLatest, AfterDayEnd, RateOrBurst}
use Rattle.tokens.specs.declared.time.MomentRefusal.{MomentRefusal}
use Rattle.tokens.specs.declared.time.MomentRefusal.TheVariants.{TooEarly, TooLate}

abbrev pub number : Refusal → ℕ
number NoTokens = 8
number BeforeLatest = 10
number AfterDayEnd = 11
number RateOrBurst = 16

-- a refusal of a moment, as one of a call
abbrev pub of_moment : MomentRefusal → Refusal
of_moment TooEarly = BeforeLatest
of_moment TooLate = AfterDayEnd

-- what a call tells its caller
pub data Told (A : Type 0) : Type 0 where
  answered : A → Told A
  refused : ℕ → Told A

-- what a result tells, where its answer is read by `f` and its refusal has the number that `numbered` says
abbrev pub told_as : {A B E : Type 0} → (E → ℕ) → (A → B) → Result A E → Told B
told_as numbered f (Ok answer) = answered (f answer)
told_as numbered f (Err e) = refused (numbered e)

abbrev pub told_by : {A B : Type 0} → (A → B) → Result A Refusal → Told B
told_by = told_as number

abbrev pub told : {A : Type 0} → Result A Refusal → Told A
told = told_by (λ answer. answer)

abbrev pub moment_told : {A B : Type 0} → (A → B) → Result A MomentRefusal → Told B
moment_told = told_as (λ cause. number (of_moment cause))

-- a cause of refusal: whether it applies, and its number
pub record Cause : Type 0 where
  pub applies : Bool
  pub number : ℕ

-- the first cause that applies refuses the call; where none does, it answers
abbrev pub unless_refused : {A : Type 0} → List Cause → A → Told A
unless_refused [] answer = answered answer
unless_refused (c ∷ cs) answer = cond c.applies (refused c.number) (unless_refused cs answer)

-- what a call leaves: where a cause applies what was there before, else what the call made of it
abbrev pub kept_if_refused : {S : Type 0} → List Cause → S → S → S
kept_if_refused [] before after = after
kept_if_refused (c ∷ cs) before after = cond c.applies before (kept_if_refused cs before after)
