-- A complete run lists the meter's answers and closes with the sums. Assumes nothing.
use Rattle.std.proofs.Common.{◌≡◌, ℕ, ◌+◌, Bool, true, false, List, [], ◌∷◌, ◌++◌, map, Some, sym, refl, ap, ◌∙◌, append_assoc, arith}
use Rattle.tokens.specs.Histories.{answers, read_by}
use Rattle.tokens.specs.Meters.{Metered, charged, fresh, packet_told}
use Rattle.tokens.specs.Refusals.{Told, answered, refused}
use Rattle.traces.specs.Bytes.{lines}
use Rattle.traces.specs.Packets.{packet_in}
use Rattle.traces.specs.Reports.{Outcome, Run, after_text, charged_line, continued, counted, last_line, lined, none_yet, packet_line, read_line, reported, run, started}
use Rattle.traces.specs.Totals.{ListsAnswersAndSums, charge_of, listed, passing, totals, yes_or_no}
use Rattle.traces.specs.declared.packet.Packet.{Packet}
use Rattle.traces.specs.declared.report.Ending.TheVariants.{Complete}
use Rattle.traces.specs.declared.tally.Tally.{Tally}

-- two tallies together
abbrev both : Tally → Tally → Tally
both t u =
    record {
      packets = t.packets + u.packets;
      passed = t.passed + u.passed;
      tokens = t.tokens + u.tokens;
      passed_tokens = t.passed_tokens + u.passed_tokens;
    }

counted_first : (t : Tally) (p : Packet) (ps : List Packet) (v : Bool) (vs : List Bool) → both (counted t p.tokens v) (totals ps (passing ps vs)) ≡ both t (totals (p ∷ ps) (passing (p ∷ ps) (v ∷ vs)))
counted_first t p ps true vs = grind arith
counted_first t p ps false vs = grind arith

-- a yes or no comes from a verdict
verdict_of : (told : Told Bool) (v : Bool) → read_by yes_or_no told ≡ answered (yes_or_no v) → told ≡ answered v
verdict_of (answered true) true e = refl
verdict_of (answered true) false e = cc
verdict_of (answered false) true e = cc
verdict_of (answered false) false e = refl
verdict_of (refused number) v e = cc

none_more : (t : Tally) → both t (totals [] []) ≡ t
none_more t = grind arith

none_before : (t : Tally) → both none_yet t ≡ t
none_before t = grind arith

abbrev complete : ℕ → Tally → List Packet → List Bool → Outcome
complete number t ps vs = record { text = listed number ps vs ++ last_line (both t (totals ps (passing ps vs))); ending = Complete }

-- the line of a packet that is charged
module _ (m : Metered) (t : Tally) (l : List ℕ) (p : Packet) (v : Bool) (here : packet_in l ≡ Some p) (told : packet_told m p.tokens p.moment ≡ answered v) where
  abbrev next : Run
  next = run (charged m p.tokens p.moment) (counted t p.tokens v)

  line_of : lined (run m t) l ≡ charged_line (t.packets + 1) (run m t) p (answered v)
  line_of = ap (read_line (t.packets + 1) (run m t)) here ∙ ap (charged_line (t.packets + 1) (run m t) p) told

  line_first : (ls : List (List ℕ)) → reported (run m t) (l ∷ ls) ≡ after_text (packet_line (t.packets + 1) p v) (reported next ls)
  line_first ls = ap (λ x. after_text x.text (continued x.next (λ s. reported s ls))) line_of

lines_listed : (ls : List (List ℕ)) (m : Metered) (t : Tally) (ps : List Packet) (vs : List Bool) → map packet_in ls ≡ map Some ps → answers m (map charge_of ps) ≡ map (λ v. answered (yes_or_no v)) vs → reported (run m t) ls ≡ complete (t.packets + 1) t ps vs
lines_listed [] m t [] vs packets told = ap (λ u. record { text = last_line u; ending = Complete }) (sym (none_more t))
lines_listed [] m t (p ∷ ps) vs packets told = cc
lines_listed (l ∷ ls) m t [] vs packets told = cc
lines_listed (l ∷ ls) m t (p ∷ ps) [] packets told = cc
lines_listed (l ∷ ls) m t (p ∷ ps) (v ∷ vs) packets told =
    let here : packet_in l ≡ Some p = cc in
    let later : map packet_in ls ≡ map Some ps = cc in
    let first : read_by yes_or_no (packet_told m p.tokens p.moment) ≡ answered (yes_or_no v) = cc in
    let rest : answers (charged m p.tokens p.moment) (map charge_of ps) ≡ map (λ v. answered (yes_or_no v)) vs = cc in
    let line = packet_line (t.packets + 1) p v in
    line_first m t l p v here (verdict_of (packet_told m p.tokens p.moment) v first) ls ∙
    ap (after_text line) (lines_listed ls (charged m p.tokens p.moment) (counted t p.tokens v) ps vs later rest) ∙
    ap (λ u. record { text = line ++ (listed (t.packets + 1 + 1) ps vs ++ last_line u); ending = Complete }) (counted_first t p ps v vs) ∙
    ap (λ x. record { text = x; ending = Complete }) (sym (append_assoc line (listed (t.packets + 1 + 1) ps vs) _))

pub lists_answers_and_sums : ListsAnswersAndSums
lists_answers_and_sums rate burst trace ps vs made packets told =
    ap (λ m. started m (lines trace)) made ∙ lines_listed (lines trace) (fresh rate burst) none_yet ps vs packets told ∙
    ap (λ u. record { text = listed 1 ps vs ++ last_line u; ending = Complete }) (none_before (totals ps (passing ps vs)))
