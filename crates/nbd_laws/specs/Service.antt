-- What a run says of its requests at a moment: after its first items, `prefix`.
use Rattle.std.specs.Prelude.{◌≡◌, List, ◌<◌, ◌≤◌, ℕ, [], ◌∷◌, ◌++◌, Some, false, length, IsTrue}
use Rattle.nbd_wire.specs.declared.{entry.Entry.Entry, profile.Profile.Profile, message.{Side.TheVariants.{Client, Server}, Message.{Message, TheVariants.{Request, ExtendedRequest}}}}
use Rattle.nbd_wire.specs.{Prelude.{Item, pairs, service_order, report, IsRunOf, IsFaultless, IsServedAt, MayServe, IsExplainedOf, Start, operations_of, Completes, Starts, Serves, Operation, Exporting, is_finished, request_of_reply, cookie_of, ends_at, inside_at, makes_due, operation, start, start_of}, protocol.Reports.export_of}
use Rattle.nbd_wire.specs.declared.commands.TheConstants as commands
use Rattle.nbd_laws.specs.Prefixes.{ended_messages}

-- where the order has no fault, a run with the same bytes is served in it
abbrev pub LatestMoments : Type 0
LatestMoments = (profile : Profile) (items : List Item) (order : List Entry) → IsRunOf profile items
    → IsFaultless profile (report items) order →
    (items' : List Item) × IsRunOf profile items' × (pairs items' ≡ pairs items) × (service_order items' ≡ order)

-- the order in which a run is served has no fault
abbrev pub OrdersAreFaultless : Type 0
OrdersAreFaultless = (profile : Profile) (items : List Item) → IsRunOf profile items
    → IsFaultless profile (report items) (service_order items)

-- request k is outstanding after these items
pub record IsOutstanding (prefix : List Item) (k : ℕ) (e : Operation) : Type 0 where
  pub numbered : operation k (operations_of prefix) ≡ Some e
  pub unfinished : is_finished e ≡ false

-- no two outstanding requests have one cookie
abbrev pub CookiesAreDistinct : Type 0
CookiesAreDistinct = (profile : Profile) (prefix back : List Item) → IsRunOf profile (prefix ++ back)
    → (j k : ℕ) (d e : Operation) →
    IsOutstanding prefix j d → IsOutstanding prefix k e → d.cookie ≡ e.cookie → j ≡ k

-- the request that a reply answers: it is outstanding with the reply's cookie when the reply starts, what that makes
-- due was served before, and it is the only one
pub record AnswersRequest (profile : Profile) (prefix : List Item) (m : Message) (k : ℕ) (e : Operation) : Type 0 where
  pub outstanding : IsOutstanding prefix k e
  pub cookie : cookie_of m ≡ Some e.cookie
  pub was_served : (x : ℕ) → IsTrue (makes_due (ends_at (start_of profile) prefix).core (Starts Server m) k x)
      → IsServedAt (inside_at (ends_at start prefix).core k) (service_order prefix) k x
  pub only : (j : ℕ) (d : Operation) → IsOutstanding prefix j d → cookie_of m ≡ Some d.cookie → j ≡ k

-- each server message of transmission answers exactly one request, completed before its first byte
abbrev pub EachReplyAnswersOne : Type 0
EachReplyAnswersOne = (profile : Profile) (prefix back : List Item) (m : Message) (export : Exporting)
    → IsRunOf profile (prefix ++ Starts Server m ∷ back) → export_of prefix ≡ Some export →
    (k : ℕ) × (e : Operation) × AnswersRequest profile prefix m k e

-- what is served is of a request that has completed; a part is inside it, not empty, and none of it was served before
abbrev pub ServedOnceAfterCompletion : Type 0
ServedOnceAfterCompletion = (profile : Profile) (prefix back : List Item) (e : Entry)
    → IsRunOf profile (prefix ++ Serves e ∷ back) →
    (0 < e.request) × (e.request ≤ length (operations_of prefix))
    × MayServe (inside_at (ends_at start prefix).core e.request) (service_order prefix) e

-- the empty capture is explained by the empty order, from every start
abbrev pub EmptyIsExplained : Type 0
EmptyIsExplained = (profile : Profile) (initial : Start) → IsExplainedOf profile [] [] initial

-- a DISC with this offset and length, with an extended header or not
pub data IsDisconnect : Message → (offset len : ℕ) → Type 0 where
  short : (flags cookie offset len : ℕ) (payload : List ℕ)
      → IsDisconnect (Request flags commands.DISC cookie offset len payload) offset len
  extended : (flags cookie offset len : ℕ) (payload : List ℕ)
      → IsDisconnect (ExtendedRequest flags commands.DISC cookie offset len payload) offset len

-- a DISC is empty (proto.md, "Request types")
abbrev pub DisconnectsAreEmpty : Type 0
DisconnectsAreEmpty = (profile : Profile) (prefix back : List Item) (disc : Message) (offset len : ℕ) →
    IsDisconnect disc offset len → IsRunOf profile (prefix ++ Completes Client disc ∷ back) → (offset ≡ 0) × (len ≡ 0)

-- the client starts nothing after a DISC (proto.md, "Request types")
abbrev pub NothingAfterDisconnect : Type 0
NothingAfterDisconnect = (profile : Profile) (prefix middle back : List Item) (disc : Message) (offset len : ℕ)
    (m : Message) → IsDisconnect disc offset len →
    IsRunOf profile (prefix ++ Completes Client disc ∷ (middle ++ Starts Client m ∷ back)) → ⊥

-- the reply that completes next is the one that started, and it still answers the same request
abbrev pub RepliesEndAsTheyStart : Type 0
RepliesEndAsTheyStart = (profile : Profile) (prefix middle back : List Item) (m n : Message) (export : Exporting) →
    IsRunOf profile (prefix ++ Starts Server m ∷ (middle ++ Completes Server n ∷ back))
    → export_of prefix ≡ Some export
    → ended_messages Server middle ≡ [] →
    (n ≡ m) × (request_of_reply (ends_at start (prefix ++ Starts Server m ∷ middle)).core m
    ≡ request_of_reply (ends_at start prefix).core m)
