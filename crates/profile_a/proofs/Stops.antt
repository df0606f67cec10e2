-- A step of the run whose call is answered stops for want of memory alone. Assumes nothing.
use Rattle.std.proofs.Common.{◌≡◌, ℕ, List, Ok, Err, Result}
use Rattle.std.specs.Result.{IsErrAnd}
use Rattle.tokens.specs.Refusals.{Told, answered}
use Rattle.profile_a.specs.Stops.{GoesOn, Writes}
use Rattle.profile_a.specs.declared.stop.Stop.{Stop}
use Rattle.profile_a.specs.declared.stop.Stop.TheVariants.{Refused, OutOfMemory}

-- and so does the run
pub stops_for_memory : {A : Type 0} (e : Stop) (r : Result (Unit {0}) Stop) (told : Told A) (answer : A) → told ≡ answered answer → GoesOn (Err e) told → IsErrAnd r (λ x. x ≡ e) → (before after text : List ℕ) → Writes r before after text
stops_for_memory (Refused refusal) r told answer told_is goes is_err before after text = cc
stops_for_memory (OutOfMemory e) (Ok done) told answer told_is goes is_err before after text = absurd is_err
stops_for_memory (OutOfMemory e) (Err (Refused refusal)) told answer told_is goes is_err before after text = cc
stops_for_memory (OutOfMemory e) (Err (OutOfMemory e')) told answer told_is goes is_err before after text = tt
