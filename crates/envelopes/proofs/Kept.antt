-- A call that checks first and then does what it is for keeps its promise. Assumes nothing.
use Rattle.std.proofs.Common.{◌≡◌, ℕ, ◌*◌, ◌≤◌, Bool, true, false, cond, ◌||◌, eqb, ltb, List, [], ◌∷◌, length, IsErrAnd, Result, sym, refl, ap, ◌∙◌, arith}
use Rattle.std.proofs.lemmas.Result.{err_from_is_err_and}
use Rattle.std.proofs.lemmas.Bool.{not-false}
use Rattle.std.proofs.lemmas.Bool.Decides.{nat_tests}
use Rattle.tokens.specs.Meters.{moment_causes}
use Rattle.tokens.specs.Refusals.{Cause, Told, answered, kept_if_refused, refused, unless_refused}
use Rattle.tokens.specs.Units.{day_end}
use Rattle.envelopes.specs.Profiles.{Profile}
use Rattle.envelopes.specs.Promises.{Keeps, Seen, bucket_cause, fill_causes, judge_causes, rank_cause, read_causes, tokens_cause, volumes}
use Rattle.envelopes.specs.Refusals.{number, told}
use Rattle.envelopes.specs.declared.colour.Request.{Request}
use Rattle.envelopes.specs.declared.refusal.Refusal.{Refusal}
use Rattle.envelopes.proofs.Causes.{answered_leaves}
use Rattle.envelopes.proofs.Matched.{same_decides}

-- the checks alone tell nothing but whether the call is refused
abbrev pub checked : List Cause → Told (Unit {0})
checked cs = unless_refused cs tt

module _ {A : Type 0} (answer : A) where
  one_passed : (applies : Bool) (number : ℕ) (rest : Told (Unit {0})) (onward : Told A) → (rest ≡ answered tt → onward ≡ answered answer) → cond applies (refused number) rest ≡ answered tt → cond applies (refused number) onward ≡ answered answer
  one_passed true number rest onward more passed = let z : ◌≡◌ {A = ℕ} 0 1 = cc in absurd (omega arith)
  one_passed false number rest onward more passed = more passed

  passed_answers : (cs : List Cause) → checked cs ≡ answered tt → unless_refused cs answer ≡ answered answer
  passed_answers [] passed = refl
  passed_answers (c ∷ cs) passed = one_passed c.applies c.number _ _ (passed_answers cs) passed

  module _ (n : ℕ) (before after : Seen) where
    one_refused : (applies : Bool) (number : ℕ) (rest : Told (Unit {0})) (onward : Told A) (left : Seen) → (rest ≡ refused n → (onward ≡ refused n) × (left ≡ before)) → cond applies (refused number) rest ≡ refused n → (cond applies (refused number) onward ≡ refused n) × (cond applies before left ≡ before)
    one_refused true number rest onward left more told =
        let same : number ≡ n = cc in (cc, refl)
    one_refused false number rest onward left more told = more told

    refused_tells : (cs : List Cause) → checked cs ≡ refused n → (unless_refused cs answer ≡ refused n) × (kept_if_refused cs before after ≡ before)
    refused_tells [] told = let z : ◌≡◌ {A = ℕ} 0 1 = cc in absurd (omega arith)
    refused_tells (c ∷ cs) told = one_refused c.applies c.number _ _ _ (refused_tells cs) told

  -- as the checks alone tell it, where they answer with a moment
  one_passed_as : (applies : Bool) (number : ℕ) (given : A) (rest : Told A) (alone : Told (Unit {0})) → (answered given ≡ rest → (answered tt ≡ alone) × (given ≡ answer)) → answered given ≡ cond applies (refused number) rest → (answered tt ≡ cond applies (refused number) alone) × (given ≡ answer)
  one_passed_as true number given rest alone more told = let z : ◌≡◌ {A = ℕ} 0 1 = cc in absurd (omega arith)
  one_passed_as false number given rest alone more told = more told

  pub passed_as : (given : A) (cs : List Cause) → answered given ≡ unless_refused cs answer → (answered tt ≡ checked cs) × (given ≡ answer)
  passed_as given [] told = let same : given ≡ answer = cc in (refl, same)
  passed_as given (c ∷ cs) told = one_passed_as c.applies c.number given _ _ (passed_as given cs) told

  one_refused_as : (n : ℕ) (applies : Bool) (number : ℕ) (rest : Told A) (alone : Told (Unit {0})) → (refused n ≡ rest → refused n ≡ alone) → refused n ≡ cond applies (refused number) rest → refused n ≡ cond applies (refused number) alone
  one_refused_as n true number rest alone more told = let same : n ≡ number = cc in ap refused same
  one_refused_as n false number rest alone more told = more told

  pub refused_as : (n : ℕ) (cs : List Cause) → refused n ≡ unless_refused cs answer → refused n ≡ checked cs
  refused_as n [] told = let z : ◌≡◌ {A = ℕ} 0 1 = cc in absurd (omega arith)
  refused_as n (c ∷ cs) told = one_refused_as n c.applies c.number _ _ (refused_as n cs) told

  pub keeps_by_answer : (cs : List Cause) (told : Told A) (before after left : Seen) → answered tt ≡ checked cs → told ≡ answered answer → left ≡ after → Keeps cs told answer before after left
  keeps_by_answer cs told before after left passed nat_tests leaves =
      let done = passed_answers cs (sym passed) in
      record { tells = nat_tests ∙ sym done; leaves = leaves ∙ sym (answered_leaves answer answer before after cs done) }

  pub keeps_by_refusal : (cs : List Cause) (n : ℕ) (told : Told A) (before after left : Seen) → refused n ≡ checked cs → told ≡ refused n → left ≡ before → Keeps cs told answer before after left
  keeps_by_refusal cs n told before after left why nat_tests leaves =
      let done = refused_tells n before after cs (sym why) in
      record { tells = nat_tests ∙ sym done.0; leaves = leaves ∙ sym done.1 }

-- a refusal that is passed on is told by its number
pub passed_on : {A : Type 0} (r : Result A Refusal) (e : Refusal) → IsErrAnd r (λ y. y ≡ e) → told r ≡ refused (number e)
passed_on r e why =
    let found = err_from_is_err_and r why in ap told found.1 ∙ ap (λ y. refused (number y)) found.2

-- What a call that passed its checks knows.

pub first_passed : (c : Cause) (cs : List Cause) → answered tt ≡ checked (c ∷ cs) → (c.applies ≡ false) × (answered tt ≡ checked cs)
first_passed c cs passed = go c.applies refl passed
  where
    go : (b : Bool) → c.applies ≡ b → answered tt ≡ cond b (refused c.number) (checked cs) → (c.applies ≡ false) × (answered tt ≡ checked cs)
    go true is told = let z : ◌≡◌ {A = ℕ} 0 1 = cc in absurd (omega arith)
    go false is told = (is, told)

pub moment_passed : (latest moment : ℕ) → answered tt ≡ checked (moment_causes latest moment) → (latest ≤ moment) × (moment ≤ day_end)
moment_passed latest moment passed =
    let late : Cause = record { applies = ltb day_end moment; number = 11 } in
    let first = first_passed (record { applies = ltb moment latest; number = 10 }) (late ∷ []) passed in
    let second = first_passed late [] first.1 in (grind (arith, nat_tests, first.0), grind (arith, nat_tests, second.0))

pub buckets_passed : (p : Profile) (s : Seen) (cs : List Cause) → answered tt ≡ checked (bucket_cause p s ∷ cs) → (s.volumes ≡ volumes p.flows) × (answered tt ≡ checked cs)
buckets_passed p s cs passed =
    let first = first_passed (bucket_cause p s) cs passed in (sym ((same_decides _ _).0 (not-false _ first.0)), first.1)

pub rank_passed : (p : Profile) (rank : ℕ) (cs : List Cause) → answered tt ≡ checked (rank_cause p rank ∷ cs) → (1 ≤ rank) × (rank ≤ length p.flows) × (answered tt ≡ checked cs)
rank_passed p rank cs passed =
    let first = first_passed (rank_cause p rank) cs passed in
    let rank_is : (eqb rank 0 || ltb (length p.flows) rank) ≡ false = first.0 in (grind (arith, nat_tests), grind (arith, nat_tests), first.1)

pub right_number : (p : Profile) (s : Seen) → length s.volumes ≡ 2 * length p.flows → answered tt ≡ checked (fill_causes p s)
right_number p s even = grind (arith, nat_tests)

pub wrong_number_refused : (p : Profile) (s : Seen) → (length s.volumes ≡ 2 * length p.flows → ⊥) → refused 7 ≡ checked (fill_causes p s)
wrong_number_refused p s differ = grind (arith, nat_tests, differ)

-- what an accepted request knows
pub request_passed : (p : Profile) (s : Seen) (q : Request) → answered tt ≡ checked (judge_causes p s q) → (s.volumes ≡ volumes p.flows) × (1 ≤ q.rank) × (q.rank ≤ length p.flows) × (s.latest ≤ q.moment) × (q.moment ≤ day_end)
request_passed p s q passed =
    let fit = buckets_passed p s (tokens_cause q.tokens ∷ rank_cause p q.rank ∷ moment_causes s.latest q.moment) passed in
    let some = first_passed (tokens_cause q.tokens) (rank_cause p q.rank ∷ moment_causes s.latest q.moment) fit.1 in
    let rank = rank_passed p q.rank (moment_causes s.latest q.moment) some.1 in
    let moment = moment_passed s.latest q.moment rank.2 in (fit.0, rank.0, rank.1, moment.0, moment.1)

pub read_passed : (p : Profile) (s : Seen) (rank : ℕ) → answered tt ≡ checked (read_causes p s rank) → (s.volumes ≡ volumes p.flows) × (1 ≤ rank) × (rank ≤ length p.flows)
read_passed p s rank passed =
    let fit = buckets_passed p s (rank_cause p rank ∷ []) passed in
    let known = rank_passed p rank [] fit.1 in (fit.0, known.0, known.1)
