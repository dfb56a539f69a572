-- Which line each kind of message has. The format is this project's choice.
use Rattle.std.specs.Prelude.{ℕ, ◌^◌, ◌-◌, Bool, true, false, if◌then◌else◌, List, [], ◌∷◌, codes}
use Rattle.nbd_wire.specs.declared.message.Message.{Message}
use Rattle.nbd_wire.specs.declared.message.Message.TheVariants as messages
use Rattle.nbd_lines.specs.declared.forms.{Field.Field, Form.{Form, TheVariants.{Greeting, ClientFlags, Choice, Answer, Exported, Request, Simple, Chunk, ExtendedRequest, ExtendedChunk}}, Name.Name}
use Rattle.nbd_lines.specs.declared.forms.Name.TheVariants as names

-- the words at the beginning: the sender's letter, and the kind of message
abbrev pub words : Form → List ℕ
words Greeting = codes "S greeting"
words ClientFlags = codes "C client-flags"
words Choice = codes "C option"
words Answer = codes "S answer"
words Exported = codes "S export"
words Request = codes "C request"
words Simple = codes "S simple"
words Chunk = codes "S chunk"
words ExtendedRequest = codes "C extended-request"
words ExtendedChunk = codes "S extended-chunk"

-- a field of this name that holds a number of so many bits
abbrev pub field : Name → ℕ → Field
field n bits = record { name = n; most = 2 ^ bits - 1 }

-- the numbers after the words, in order
abbrev pub fields : Form → List Field
fields Greeting = field names.Flags 16 ∷ []
fields ClientFlags = field names.Flags 32 ∷ []
fields Choice = field names.Id 32 ∷ []
fields Answer = field names.Option 32 ∷ field names.Kind 32 ∷ []
fields Exported = field names.Size 64 ∷ field names.Flags 16 ∷ field names.Padded 1 ∷ []
fields Request = field names.Flags 16 ∷ field names.Command 16 ∷ field names.Cookie 64 ∷ field names.Offset 64 ∷ field
    names.Length 32 ∷ []
fields Simple = field names.Error 32 ∷ field names.Cookie 64 ∷ []
fields Chunk = field names.Flags 16 ∷ field names.Kind 16 ∷ field names.Cookie 64 ∷ []
fields ExtendedRequest = field names.Flags 16 ∷ field names.Command 16 ∷ field names.Cookie 64 ∷ field names.Offset 64 ∷
    field names.Length 64 ∷ []
fields ExtendedChunk = field names.Flags 16 ∷ field names.Kind 16 ∷ field names.Cookie 64 ∷ field names.Offset 64 ∷ []

-- whether a payload stands after the numbers
abbrev pub has_payload : Form → Bool
has_payload Greeting = false
has_payload ClientFlags = false
has_payload Exported = false
has_payload _ = true

-- a field's name, as it stands in a line
abbrev pub field_name : Name → List ℕ
field_name names.Flags = codes "flags"
field_name names.Id = codes "id"
field_name names.Option = codes "option"
field_name names.Kind = codes "kind"
field_name names.Size = codes "size"
field_name names.Padded = codes "padded"
field_name names.Command = codes "command"
field_name names.Cookie = codes "cookie"
field_name names.Offset = codes "offset"
field_name names.Length = codes "length"
field_name names.Error = codes "error"

-- the form of a message's line
abbrev pub line_form : Message → Form
line_form (messages.Greeting flags) = Greeting
line_form (messages.ClientFlags flags) = ClientFlags
line_form (messages.Choice id payload) = Choice
line_form (messages.Answer option kind payload) = Answer
line_form (messages.Exported size flags padded) = Exported
line_form (messages.Request flags command cookie offset len payload) = Request
line_form (messages.Simple error cookie payload) = Simple
line_form (messages.Chunk flags kind cookie payload) = Chunk
line_form (messages.ExtendedRequest flags command cookie offset len payload) = ExtendedRequest
line_form (messages.ExtendedChunk flags kind cookie offset payload) = ExtendedChunk

-- the numbers of a message, in the order of its line; padded is 1, not padded 0
abbrev pub numbers : Message → List ℕ
numbers (messages.Greeting flags) = flags ∷ []
numbers (messages.ClientFlags flags) = flags ∷ []
numbers (messages.Choice id payload) = id ∷ []
numbers (messages.Answer option kind payload) = option ∷ kind ∷ []
numbers (messages.Exported size flags padded) = size ∷ flags ∷ (if padded then 1 else 0) ∷ []
numbers (messages.Request flags command cookie offset len payload) = flags ∷ command ∷ cookie ∷ offset ∷ len ∷ []
numbers (messages.Simple error cookie payload) = error ∷ cookie ∷ []
numbers (messages.Chunk flags kind cookie payload) = flags ∷ kind ∷ cookie ∷ []
numbers (messages.ExtendedRequest flags command cookie offset len payload) =
    flags ∷ command ∷ cookie ∷ offset ∷ len ∷ []
numbers (messages.ExtendedChunk flags kind cookie offset payload) = flags ∷ kind ∷ cookie ∷ offset ∷ []

-- the payload that a message carries, if its form has one
abbrev pub payload_of : Message → List ℕ
payload_of (messages.Choice id payload) = payload
payload_of (messages.Answer option kind payload) = payload
payload_of (messages.Request flags command cookie offset len payload) = payload
payload_of (messages.Simple error cookie payload) = payload
payload_of (messages.Chunk flags kind cookie payload) = payload
payload_of (messages.ExtendedRequest flags command cookie offset len payload) = payload
payload_of (messages.ExtendedChunk flags kind cookie offset payload) = payload
payload_of _ = []
