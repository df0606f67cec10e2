-- A line of a trace as a packet. Assumes nothing.
use Rattle.std.specs.Prelude.{ℕ, cond, List, Some, None, Option, nat_le}
use Rattle.traces.specs.Bytes.{before, beyond, number_in}
use Rattle.traces.specs.declared.packet.Packet.{Packet}

-- two numbers make a packet where 32 bits hold its tokens
abbrev pub packet_from : Option ℕ → Option ℕ → Option Packet
packet_from None moment = None
packet_from (Some tokens) None = None
packet_from (Some tokens) (Some moment) = cond (nat_le tokens 4_294_967_295) (Some (record { tokens = tokens; moment = moment })) None

-- a line is a packet where it is two numbers, tokens and moment, with one space between, which is byte 32
abbrev pub packet_in : List ℕ → Option Packet
packet_in line = packet_from (number_in (before 32 line)) (number_in (beyond 32 line))
