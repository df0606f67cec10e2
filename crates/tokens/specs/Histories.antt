-- Lists of calls upon a meter, and what holds of them whatever the form of the meter. Assumes nothing.
use Rattle.std.specs.Prelude.{◌≡◌, ℕ, ◌+◌, ◌-◌, ◌*◌, ◌<◌, ◌≤◌, Bool, cond, List, [], ◌∷◌, map, ◌≢◌}
use Rattle.std.specs.List.{AllByRecursion}
use Rattle.tokens.specs.Meters.{Metered, fresh, packet_told, wait_told, charged, waited}
use Rattle.tokens.specs.Refusals.{Told, answered, refused}
use Rattle.tokens.specs.Units.{grains}
use Rattle.tokens.specs.declared.calls.Answer.{Answer}
use Rattle.tokens.specs.declared.calls.Answer.TheVariants.{Yes, No, Moved}
use Rattle.tokens.specs.declared.calls.Call.{Call}
use Rattle.tokens.specs.declared.calls.Call.TheVariants.{Question, Charge, Wait}

-- an answer read by `f`; a refusal stays as it is
abbrev pub read_by : {A B : Type 0} → (A → B) → Told A → Told B
read_by f (answered a) = answered (f a)
read_by f (refused number) = refused number

-- whether a packet passes, as an answer
abbrev pub yes_or_no : Bool → Answer
yes_or_no passes = cond passes Yes No

-- what each call tells, and what it leaves
abbrev pub answer : Metered → Call → Told Answer
answer m (Question tokens moment) = read_by yes_or_no (packet_told m tokens moment)
answer m (Charge tokens moment) = read_by yes_or_no (packet_told m tokens moment)
answer m (Wait moment) = read_by (λ _. Moved) (wait_told m moment)

abbrev pub after : Metered → Call → Metered
after m (Question tokens moment) = m
after m (Charge tokens moment) = charged m tokens moment
after m (Wait moment) = waited m moment

-- a call keeps its promise: what it told, and what the meter means afterwards, follow from what it meant before
pub record Kept (before : Metered) (call : Call) (told : Told Answer) (left : Metered) : Type 0 where
  pub tells : told ≡ answer before call
  pub leaves : left ≡ after before call

-- a call with what it told
pub record Event : Type 0 where
  pub call : Call
  pub told : Told Answer

-- the events led from one state of a meter to another: one after the other, each call kept its promise
abbrev pub History : {M : Type 0} → (M → Metered) → M → List Event → M → Type 0
History meaning first [] last = meaning last ≡ meaning first
History {M} meaning first (e ∷ es) last =
    (left : M) × Kept (meaning first) e.call e.told (meaning left) × History meaning left es last

-- the tokens of the charges that passed
abbrev pub charged_tokens : Call → ℕ
charged_tokens (Question tokens moment) = 0
charged_tokens (Charge tokens moment) = tokens
charged_tokens (Wait moment) = 0

abbrev pub if_yes : Told Answer → ℕ → ℕ
if_yes (answered Yes) tokens = tokens
if_yes (answered No) tokens = 0
if_yes (answered Moved) tokens = 0
if_yes (refused number) tokens = 0

abbrev pub passed : List Event → ℕ
passed [] = 0
passed (e ∷ es) = if_yes e.told (charged_tokens e.call) + passed es

-- what a meter is for: between any two states of it, in grains, what passed is at most the level at the first and
-- what the rate brings in the time between
abbrev pub PassedWithinLevelAndRate : {M : Type 0} → (M → Metered) → Type 0
PassedWithinLevelAndRate {M} meaning =
    (first last : M) (es : List Event) → History meaning first es last →
    grains (passed es) ≤ (meaning first).level + (meaning first).rate * ((meaning last).latest - (meaning first).latest)

-- the tokens that a call asks for, if any
abbrev pub tokens_of : Call → ℕ
tokens_of (Question tokens moment) = tokens
tokens_of (Charge tokens moment) = tokens
tokens_of (Wait moment) = 0

-- a packet larger than the burst never passes, however long the pause before it
abbrev pub LargerThanBurstNeverPasses : {M : Type 0} → (M → Metered) → Type 0
LargerThanBurstNeverPasses {M} meaning =
    (first last : M) (es : List Event) → History meaning first es last →
    AllByRecursion (λ e. (meaning first).burst < tokens_of e.call → e.told ≢ answered Yes) es

pub record KeepsToLimits {M : Type 0} (meaning : M → Metered) : Type 0 where
  pub passed_within_level_and_rate : PassedWithinLevelAndRate meaning
  pub larger_than_burst_never_passes : LargerThanBurstNeverPasses meaning

-- meters of two forms, new at the same rate and burst and given the same calls, answer alike throughout
abbrev pub AnswerAlike : {M N : Type 0} → (M → Metered) → (N → Metered) → Type 0
AnswerAlike {M} {N} m_meaning n_meaning =
    (rate burst : ℕ) (m m_last : M) (n n_last : N) → m_meaning m ≡ fresh rate burst → n_meaning n ≡ fresh rate burst →
    (xs ys : List Event) → History m_meaning m xs m_last → History n_meaning n ys n_last →
    map (λ e. e.call) xs ≡ map (λ e. e.call) ys → map (λ e. e.told) xs ≡ map (λ e. e.told) ys

-- what a list of calls tells, one after the other
abbrev pub answers : Metered → List Call → List (Told Answer)
answers m [] = []
answers m (c ∷ cs) = answer m c ∷ answers (after m c) cs

-- the worked figure: at rate 1,000 and burst 1,500, a burst at the start passes; a token is there again after a
-- thousandth of a second and not before; a packet larger than the burst does not pass after an hour either
abbrev pub figure_calls : List Call
figure_calls = Charge 1500 0 ∷ Charge 1 999 ∷ Charge 1 1000 ∷ Charge 1501 3600000000 ∷ []

abbrev pub MeterFigure : Type 0
MeterFigure =
    answers (fresh 1000 1500) figure_calls ≡ answered Yes ∷ answered No ∷ answered Yes ∷ answered No ∷ []
