-- What is decided and read, by each truth value that it depends on.
use Rattle.nbd_laws.proofs.Common.{decide, simple_of, simple_payload_length, ℕ, List, drop, number_at, Request, ExtendedRequest, Bool, true, false, Option, Some, None, if◌then◌else◌, Message, WireFault, Exporting, Operation, Core, Decision, Reading, More, Whole, chunk_to, operation_of, reply_with, request_by, simple_to, unless}

-- bytes that begin no reply
abbrev pub no_reply : List ℕ → Decision
no_reply bytes = decide 4 false None 0 None (simple_of bytes)

-- how many bytes a simple reply carries
abbrev pub simple_length : Operation → ℕ → ℕ
simple_length e error = simple_payload_length (Some e) error

abbrev pub short_request : Core → List ℕ → Decision
short_request now bytes = request_by false now bytes

abbrev pub extended_request : Core → List ℕ → Decision
extended_request now bytes = request_by true now bytes

abbrev pub request_unless : (disconnected : Bool) → Core → List ℕ → Option Decision
request_unless disconnected now bytes = if disconnected then None else Some (request_by now.extended now bytes)

abbrev pub reply_by : (is_chunk is_simple : Bool) → Exporting → Core → Option Operation → List ℕ → Decision
reply_by is_chunk is_simple export now to bytes =
    if is_chunk then chunk_to false export now to bytes else if is_simple then simple_to export now to bytes else no_reply bytes

abbrev pub extended_reply_by : (is_chunk : Bool) → Exporting → Core → Option Operation → List ℕ → Decision
extended_reply_by is_chunk export now to bytes = if is_chunk then chunk_to true export now to bytes else no_reply bytes

abbrev pub reply : Exporting → (old now : Core) → List ℕ → Decision
reply export old now bytes = reply_with export (operation_of old now) now bytes

abbrev pub staged_reading_by : Bool → Option WireFault → Bool → Reading → Reading
staged_reading_by short fault whole end = if short then More else unless fault (if whole then end else More)

abbrev pub last_reading : Option WireFault → Message → Reading
last_reading fault m = unless fault (Whole m)
