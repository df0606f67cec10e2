-- How a step of the run ends, and what it has then written. Assumes nothing.
use Rattle.std.specs.Prelude.{◌≡◌, ℕ, true, List, ◌++◌, Ok, Err, Result}
use Rattle.tokens.specs.Refusals.{Told, refused}
use Rattle.envelopes.specs.Histories.{is_answer}
use Rattle.envelopes.specs.Refusals.{number}
use Rattle.profile_a.specs.Lines.{refusal_line}
use Rattle.profile_a.specs.declared.stop.Stop.{Stop}
use Rattle.profile_a.specs.declared.stop.Stop.TheVariants.{Refused, OutOfMemory}

-- a text is written, but for the refusal that is handed on
abbrev pub Writes : Result (Unit {0}) Stop → List ℕ → List ℕ → List ℕ → Type 0
Writes (Ok done) before after text = after ≡ before ++ text
Writes (Err (Refused refusal)) before after text = after ++ refusal_line (number refusal) ≡ before ++ text
Writes (Err (OutOfMemory e)) before after text = Unit {0}

-- a step goes on where its call is answered, and hands on why it is refused
abbrev pub GoesOn : {A : Type 0} → Result (Unit {0}) Stop → Told A → Type 0
GoesOn (Ok done) told = is_answer told ≡ true
GoesOn (Err (Refused refusal)) told = told ≡ refused (number refusal)
GoesOn (Err (OutOfMemory e)) told = Unit {0}
