-- What a trace comes to against a meter: the text of the report, and how the run ends. Assumes nothing.
use Rattle.std.specs.Prelude.{ℕ, ◌+◌, Bool, cond, List, [], ◌∷◌, ◌++◌, Some, None, codes, decimal, Option}
use Rattle.tokens.specs.Meters.{Metered, new_told, packet_told, charged}
use Rattle.tokens.specs.Refusals.{Told, answered, refused}
use Rattle.traces.specs.Bytes.{lines}
use Rattle.traces.specs.Packets.{packet_in}
use Rattle.traces.specs.declared.packet.Packet.{Packet}
use Rattle.traces.specs.declared.report.Ending.{Ending}
use Rattle.traces.specs.declared.report.Ending.TheVariants.{Complete, Fault, NotTwoNumbers}
use Rattle.traces.specs.declared.tally.Tally.{Tally}

-- how many packets and tokens there were, and how many of them passed
abbrev pub none_yet : Tally
none_yet = record { packets = 0; passed = 0; tokens = 0; passed_tokens = 0 }

abbrev pub only : Bool → ℕ → ℕ
only passes n = cond passes n 0

abbrev pub counted : Tally → ℕ → Bool → Tally
counted t tokens passes =
    record {
      packets = t.packets + 1;
      passed = t.passed + only passes 1;
      tokens = t.tokens + tokens;
      passed_tokens = t.passed_tokens + only passes tokens;
    }

-- the three kinds of line that a report has; byte 10 ends a line
abbrev pub packet_line : ℕ → Packet → Bool → List ℕ
packet_line number p passes =
    decimal number ++ (codes " " ++ (decimal p.tokens ++ (codes " " ++ (decimal p.moment ++ (codes " " ++ (cond passes (codes "yes") (codes "no") ++ (10 ∷ [])))))))

abbrev pub fault_line : ℕ → ℕ → List ℕ
fault_line number refusal = codes "fault " ++ (decimal number ++ (codes " " ++ (decimal refusal ++ (10 ∷ []))))

abbrev pub last_line : Tally → List ℕ
last_line t =
    codes "passed " ++ (decimal t.passed ++ (codes " of " ++ (decimal t.packets ++ (codes " packets, " ++
    (decimal t.passed_tokens ++ (codes " of " ++ (decimal t.tokens ++ (codes " tokens" ++ (10 ∷ [])))))))))

-- a run so far: what the meter means, and the tally
pub record Run : Type 0 where
  pub meter : Metered
  pub tally : Tally

abbrev pub run : Metered → Tally → Run
run m t = record { meter = m; tally = t }

-- a line of the trace either lets the run go on or ends it
pub data Next : Type 0 where
  goes_on : Run → Next
  ends : Ending → Next

-- what a line adds to the report, and what comes next
pub record Lined : Type 0 where
  pub text : List ℕ
  pub next : Next

-- what comes next, by what a line's call left and answered
abbrev pub next_by : Option Ending → Run → Next
next_by None r = goes_on r
next_by (Some e) r = ends e

-- the line `number` of the trace, a packet, by what its charge told
abbrev pub charged_line : ℕ → Run → Packet → Told Bool → Lined
charged_line number r p (answered passes) =
    record {
      text = packet_line number p passes;
      next = goes_on (run (charged r.meter p.tokens p.moment) (counted r.tally p.tokens passes));
    }
charged_line number r p (refused refusal) = record { text = fault_line number refusal; next = ends Fault }

abbrev pub read_line : ℕ → Run → Option Packet → Lined
read_line number r None = record { text = []; next = ends (NotTwoNumbers number) }
read_line number r (Some p) = charged_line number r p (packet_told r.meter p.tokens p.moment)

-- every line before was a packet, so the tally numbers the lines
abbrev pub lined : Run → List ℕ → Lined
lined r line = read_line (r.tally.packets + 1) r (packet_in line)

-- the report whole
pub record Outcome : Type 0 where
  pub text : List ℕ
  pub ending : Ending

abbrev pub after_text : List ℕ → Outcome → Outcome
after_text front o = record { text = front ++ o.text; ending = o.ending }

abbrev pub continued : Next → (Run → Outcome) → Outcome
continued (goes_on r) more = more r
continued (ends e) more = record { text = []; ending = e }

abbrev pub reported : Run → List (List ℕ) → Outcome
reported r [] = record { text = last_line r.tally; ending = Complete }
reported r (l ∷ ls) = after_text (lined r l).text (continued (lined r l).next (λ s. reported s ls))

-- from the start: a rate or burst that no meter takes is a fault at line 0
abbrev pub started : Told Metered → List (List ℕ) → Outcome
started (answered m) ls = reported (run m none_yet) ls
started (refused refusal) ls = record { text = fault_line 0 refusal; ending = Fault }

abbrev pub report_of : ℕ → ℕ → List ℕ → Outcome
report_of rate burst trace = started (new_told rate burst) (lines trace)

-- what the user is told of a line that is no packet
abbrev pub complaint_text : ℕ → List ℕ
complaint_text line = codes "line " ++ (decimal line ++ codes " is not two numbers, TOKENS up to 4294967295 and MOMENT, with one space between")
