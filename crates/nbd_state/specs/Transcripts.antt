-- What a transcript states.
use Rattle.std.specs.Prelude.{ℕ, List, map, Option, Some, None}
use Rattle.nbd_wire.specs.protocol.Reports as definitions
use Rattle.nbd_wire.specs.Prelude.{Report, Exporting}
use Rattle.nbd_state.specs.{declared.{asked.{Asked.Asked, Exchange.Exchange}, state.{Export.Export, Phase.{Phase, TheVariants.Transmission}}}, Showing.{shown_in, exporting_if, outcome_of}}

-- a request as a report states it
abbrev pub report_of_request : Asked → definitions.Asked
report_of_request a = record {
  flags = a.flags;
  command = a.command;
  cookie = a.cookie;
  offset = a.offset;
  length = a.length;
  payload = a.payload;
  proper = a.proper;
  outside = a.outside;
  known_at = a.known_at;
  shown = shown_in a;
  ended_at = a.ended_at;
  outcome = outcome_of a.outcome;
  pieces = a.pieces.items;
}

-- the same, of a request if there is one
abbrev pub report_of_request_if : Option Asked → Option definitions.Asked
report_of_request_if (Some a) = Some (report_of_request a)
report_of_request_if None = None

-- size and flags of an export, if there is one
abbrev pub size_and_flags : Option Exporting → Option (ℕ × ℕ)
size_and_flags (Some export) = Some (export.size, export.flags)
size_and_flags None = None

-- the report of this export and these exchanges
abbrev pub transcript_report : Option Export → List Exchange → Report
transcript_report export exchanges = record {
  export = exporting_if export;
  asked = map (λ x. report_of_request x.asked) exchanges;
}

-- the export of transmission, if it was reached
abbrev pub export_of : Phase → Option Export
export_of (Transmission export) = Some export
export_of phase = None
