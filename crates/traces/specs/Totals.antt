-- The report on a trace in the words of the layer below: what the meter answers, packet by packet, and the sums.
-- Assumes nothing.
use Rattle.std.specs.Prelude.{◌≡◌, ℕ, ◌+◌, Bool, cond, List, [], ◌∷◌, ◌++◌, map, length, Some}
use Rattle.tokens.specs.Histories.{answers}
use Rattle.tokens.specs.Meters.{fresh, new_told}
use Rattle.tokens.specs.Refusals.{answered}
use Rattle.tokens.specs.declared.calls.Answer.{Answer}
use Rattle.tokens.specs.declared.calls.Answer.TheVariants.{Yes, No}
use Rattle.tokens.specs.declared.calls.Call.{Call}
use Rattle.tokens.specs.declared.calls.Call.TheVariants.{Charge}
use Rattle.traces.specs.Bytes.{lines}
use Rattle.traces.specs.Packets.{packet_in}
use Rattle.traces.specs.Reports.{last_line, packet_line, report_of}
use Rattle.traces.specs.declared.packet.Packet.{Packet}
use Rattle.traces.specs.declared.report.Ending.TheVariants.{Complete}
use Rattle.traces.specs.declared.tally.Tally.{Tally}

-- a packet as a call upon a meter, and what a verdict is as an answer
abbrev pub charge_of : Packet → Call
charge_of p = Charge p.tokens p.moment

abbrev pub yes_or_no : Bool → Answer
yes_or_no passes = cond passes Yes No

-- a line for each packet with its verdict, numbered onward
abbrev pub listed : ℕ → List Packet → List Bool → List ℕ
listed number [] verdicts = []
listed number (p ∷ ps) [] = []
listed number (p ∷ ps) (v ∷ vs) = packet_line number p v ++ listed (number + 1) ps vs

-- the packets whose verdict is yes
abbrev pub passing : List Packet → List Bool → List Packet
passing [] verdicts = []
passing (p ∷ ps) [] = []
passing (p ∷ ps) (v ∷ vs) = cond v (p ∷ passing ps vs) (passing ps vs)

abbrev pub tokens_in : List Packet → ℕ
tokens_in [] = 0
tokens_in (p ∷ ps) = p.tokens + tokens_in ps

abbrev pub totals : List Packet → List Packet → Tally
totals all passed =
    record { packets = length all; passed = length passed; tokens = tokens_in all; passed_tokens = tokens_in passed }

-- where a meter takes the rate and burst, each line of the trace is a packet, and the meter answers each charge with
-- yes or no, the report lists every packet with that answer and closes with the sums
abbrev pub ListsAnswersAndSums : Type 0
ListsAnswersAndSums =
    (rate burst : ℕ) (trace : List ℕ) (ps : List Packet) (verdicts : List Bool) →
    new_told rate burst ≡ answered (fresh rate burst) → map packet_in (lines trace) ≡ map Some ps →
    answers (fresh rate burst) (map charge_of ps) ≡ map (λ v. answered (yes_or_no v)) verdicts →
    report_of rate burst trace ≡ record { text = listed 1 ps verdicts ++ last_line (totals ps (passing ps verdicts)); ending = Complete }
