-- The words of a command line as the settings of a run. Assumes nothing.
use Rattle.std.specs.Prelude.{ℕ, cond, List, Some, None, Ok, Err, codes, Option, Result}
use Rattle.std.specs.Str.{bytes_eq}
use Rattle.traces.specs.Bytes.{number_in}
use Rattle.traces.specs.declared.arguments.Arguments.{Arguments}
use Rattle.traces.specs.declared.arguments.Form.{Form}
use Rattle.traces.specs.declared.arguments.Form.TheVariants.{Token, Schedule, Leaky}
use Rattle.traces.specs.declared.arguments.Misuse.{Misuse}
use Rattle.traces.specs.declared.arguments.Misuse.TheVariants.{Rate, Burst, UnknownForm}

abbrev pub form_in : List ℕ → Option Form
form_in word =
    cond (bytes_eq word (codes "token")) (Some Token)
    (cond (bytes_eq word (codes "schedule")) (Some Schedule) (cond (bytes_eq word (codes "leaky")) (Some Leaky) None))

-- the first word that is not what its place asks for is the misuse
abbrev pub arguments_from : Option ℕ → Option ℕ → Option Form → Result Arguments Misuse
arguments_from None burst form = Err Rate
arguments_from (Some rate) None form = Err Burst
arguments_from (Some rate) (Some burst) None = Err UnknownForm
arguments_from (Some rate) (Some burst) (Some form) = Ok (record { rate = rate; burst = burst; form = form })

abbrev pub arguments_in : List ℕ → List ℕ → List ℕ → Result Arguments Misuse
arguments_in rate burst form = arguments_from (number_in rate) (number_in burst) (form_in form)

-- what the user is told
abbrev pub misuse_text : Misuse → List ℕ
misuse_text Rate = codes "RATE is not a whole number"
misuse_text Burst = codes "BURST is not a whole number"
misuse_text UnknownForm = codes "FORM is none of token, schedule and leaky"
