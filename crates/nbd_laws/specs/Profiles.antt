-- What the profiles have in common.
use Rattle.std.specs.Prelude.{◌≡◌, ◌≢◌, List, Some, All, IsTrue, [], ◌∷◌, ◌≤◌, Ok, drop, ℕ, ◌⊎◌, ◌++◌, ◌+◌, length, false}
use Rattle.nbd_wire.specs.declared.{message.{Side.TheVariants.Server, Message.{Message, TheVariants.Answer}}, fault.WireFault.WireFault, entry.Entry.Entry, sizes.Sizes.Sizes, profile.Profile.{Profile, TheVariants.{Base, Wide}}}
use Rattle.nbd_wire.specs.Prelude.{IsRunOf, Answering, Phase, Transmission, begins, is_error_chunk, ArePairs, Reader, fresh_of, reads, pairs, without_service, Asked, Report, asked_at, due_in, report, is_error, number_at, IsPlaceOf, IsUnderWayOf, Pair, IsExplainedOf, Start, Item, completed_messages, info_of, ends_at, sizes_of, Core, start_of, extends, are_allowed}
use Rattle.nbd_wire.specs.declared.head_lengths.TheConstants as head_lengths
use Rattle.nbd_wire.specs.declared.chunks.TheConstants as chunks
use Rattle.nbd_wire.specs.declared.magics.TheConstants as magics
use Rattle.nbd_wire.specs.declared.commands.TheConstants as commands
use Rattle.nbd_wire.specs.declared.answers.TheConstants as answers

-- the same, held to this profile
abbrev pub with_profile : Profile → Core → Core
with_profile profile core = record core { profile = profile }

-- items lead to the same, whatever the profile, but for the profile itself
abbrev pub EndsAgree : Type 0
EndsAgree = (p q : Profile) (items : List Item)
    → with_profile q (ends_at (start_of p) items).core ≡ (ends_at (start_of q) items).core

-- the message announces no block sizes that a server may not announce
abbrev pub AnnouncesAllowed : Message → Type 0
AnnouncesAllowed (Answer option kind payload) = kind ≡ answers.INFO → (sizes : Sizes)
    → sizes_of (info_of payload) ≡ Some sizes → IsTrue (are_allowed sizes)
AnnouncesAllowed m = Unit {0}

-- what is explained in Base is explained in Wide, but for such announcements
abbrev pub BaseIsWide : Type 0
BaseIsWide = (capture : List Pair) (order : List Entry) (initial : Start)
    (explained : IsExplainedOf Base capture order initial) → All AnnouncesAllowed (completed_messages explained.items)
    → IsExplainedOf Wide capture order initial

-- a server's bytes hold the head of an answer of success to an option that Wide alone follows
abbrev pub IsExtendingHead : Phase → List ℕ → Type 0
IsExtendingHead (Answering option payload info) bytes =
    IsTrue (extends option) × (head_lengths.ANSWER ≤ length bytes) × (is_error (number_at 12 4 bytes) ≡ false)
IsExtendingHead phase bytes = ⊥

-- a server's bytes are a whole answer that announces block sizes which a server may not announce
abbrev pub IsFalseAnnouncement : Phase → List ℕ → Type 0
IsFalseAnnouncement (Answering option payload info) bytes =
    (length bytes ≡ head_lengths.ANSWER + number_at 16 4 bytes) × (number_at 12 4 bytes ≡ answers.INFO)
    × ((sizes : Sizes) × (sizes_of (info_of (drop head_lengths.ANSWER bytes)) ≡ Some sizes)
    × (are_allowed sizes ≡ false))
IsFalseAnnouncement phase bytes = ⊥

-- bytes that begin so are a message of this length, a chunk of an error's type that is neither ERROR nor ERROR_OFFSET
abbrev pub IsUnknownErrorOf : (magic len : ℕ) → List ℕ → Type 0
IsUnknownErrorOf magic len bytes =
    IsTrue (begins magic bytes) × (length bytes ≡ len) × IsTrue (is_error_chunk (number_at 6 2 bytes))
    × (number_at 6 2 bytes ≢ chunks.ERROR) × (number_at 6 2 bytes ≢ chunks.ERROR_OFFSET)

-- a server's bytes are such a chunk, with an extended header or not
abbrev pub IsUnknownError : Phase → List ℕ → Type 0
IsUnknownError (Transmission export) bytes =
    IsUnknownErrorOf magics.CHUNK_MAGIC (head_lengths.CHUNK + number_at 16 4 bytes) bytes
    ⊎ IsUnknownErrorOf magics.EXTENDED_CHUNK_MAGIC (head_lengths.EXTENDED_CHUNK + number_at 24 8 bytes) bytes
IsUnknownError phase bytes = ⊥

-- the profiles may take these bytes of the server differently
abbrev pub IsParting : Phase → List ℕ → Type 0
IsParting phase bytes = IsExtendingHead phase bytes ⊎ IsFalseAnnouncement phase bytes ⊎ IsUnknownError phase bytes

-- from this reader on, no byte of the server makes its bytes such
abbrev pub NothingFrom : Reader → List Pair → Type 0
NothingFrom reader ps = (before more : List Pair) (b : ℕ) (mid : Reader)
    → ps ≡ before ++ record { from = Server; byte = b } ∷ more → reads reader before ≡ Ok mid
    → IsParting mid.core.phase (mid.rests.server.bytes ++ b ∷ []) → ⊥

-- in these bytes, read in the profile, no such bytes come
abbrev pub NothingParts : Profile → List Pair → Type 0
NothingParts profile ps = NothingFrom (fresh_of profile) ps

-- where nothing parts the profiles, a run of the one is one of the other, but for the moments of service
abbrev pub RunsAgree : Type 0
RunsAgree = (p q : Profile) (items : List Item) → ArePairs (pairs items) → NothingParts p (pairs items)
    → IsRunOf p items → (items' : List Item) × IsRunOf q items' × (without_service items' ≡ without_service items)

-- each READ was answered at once, or not at all: no request completed from where the first message of its reply
-- started to where the last one had come
abbrev pub AnswersAtOnce : Report → Type 0
AnswersAtOnce r = (k : ℕ) (a : Asked) → asked_at k r.asked ≡ Some a → a.command ≡ commands.READ
    → a.known_at ≡ a.ended_at

-- where it is so, the same is due in both profiles
abbrev pub DuesAgree : Type 0
DuesAgree = (p q profile : Profile) (items : List Item) (k x : ℕ) → IsRunOf profile items
    → AnswersAtOnce (report items) → due_in p (report items) k x ≡ due_in q (report items) k x

-- and bytes have the same place in both, with the same fault
abbrev pub PlacesAgree : Type 0
PlacesAgree = (p q : Profile) (ps : List Pair) (messages : List Message) (fault : WireFault)
    → NothingParts p ps → IsPlaceOf p ps messages fault → IsPlaceOf q ps messages fault

-- and are a session under way in both
abbrev pub UnderWayAgrees : Type 0
UnderWayAgrees = (p q : Profile) (ps : List Pair) (messages : List Message) → NothingParts p ps
    → IsUnderWayOf p ps messages → IsUnderWayOf q ps messages
