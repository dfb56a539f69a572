-- Sessions one after another on one export, each from what the ones before left, and starts that know less.
use Rattle.std.specs.Prelude.{ℕ, List, [], ◌∷◌, ◌++◌, ◌≡◌, ◌<◌, ◌↔◌, true, Option, Some, None, if◌then◌else◌, slice_get, take}
use Rattle.nbd_wire.specs.declared.commands.TheConstants as commands
use Rattle.nbd_order.specs.{Common.{Entry, Part, Profile, FitsImage, IsExplainedOf, Start, start_byte, Effect, IsWrongOf, byte_or_start, effects, later, touch_of, Item, pairs, Asked, Report, report, IsRunOf, IsFaultless, Exporting, AreSameBelow, size_of}, Leaving.{is_open, left}, Sure.sure}

-- below n what is known of a byte on the left is known of it on the right
abbrev pub KnowsLess : ℕ → (less more : ℕ → Option ℕ) → Type 0
KnowsLess n less more = (x b : ℕ) → x < n → less x ≡ Some b → more x ≡ Some b

-- what an order explains it explains from a start that knows less, where that has the export's size if it has one
abbrev pub ExplainedFromLess : Type 0
ExplainedFromLess = (profile : Profile) (items : List Item) (order : List Entry) (less more : Start)
    → IsRunOf profile items → FitsImage (report items).export less
    → KnowsLess (size_of (report items).export) (start_byte less) (start_byte more)
    → IsExplainedOf profile (pairs items) order more → IsExplainedOf profile (pairs items) order less

-- from bytes at first of which less is known, less is known of what an order leaves
abbrev pub LeavesLess : Type 0
LeavesLess = (r : Report) (order : List Entry) (n : ℕ) (less more : ℕ → Option ℕ) → KnowsLess n less more
    → KnowsLess n (left r order less) (left r order more)

-- a session of a chain: what it says of its requests, and the order in which they were served
pub record Link : Type 0 where
  pub report : Report
  pub order : List Entry

-- the bytes that these sessions leave, each from what the one before left
abbrev pub left_by_chain : List Link → (initial : ℕ → Option ℕ) → ℕ → Option ℕ
left_by_chain [] initial = initial
left_by_chain (link ∷ links) initial = left_by_chain links (left link.report link.order initial)

-- what an order serves of these requests: which part of which, if there is one
abbrev pub served_of : (ℕ → Option Effect) → List Entry → List (Option Part × Option Effect)
served_of requests [] = []
served_of requests (entry ∷ order) = (entry.part, requests entry.request) ∷ served_of requests order

-- a TRIM of a request's range
abbrev pub trim_of : Asked → Effect
trim_of a = record {
  command = commands.TRIM;
  offset = a.offset;
  length = a.length;
  payload = [];
  succeeded = true;
  read = λ x. None;
}

-- one of each change that no reply has finished, whole
abbrev pub trims : List Asked → List (Option Part × Option Effect)
trims [] = []
trims (a ∷ asked) = if is_open a then (None, Some (trim_of a)) ∷ trims asked else trims asked

-- all that these sessions serve, one after the other, behind each session its TRIMs
abbrev pub served_by_chain : List Link → List (Option Part × Option Effect)
served_by_chain [] = []
served_by_chain (link ∷ links) =
    (served_of (effects link.report) link.order ++ trims link.report.asked) ++ served_by_chain links

-- the request of the last of these that touches x
abbrev pub last_served : ℕ → List (Option Part × Option Effect) → Option Effect
last_served x [] = None
last_served x (one ∷ served) = later (last_served x served) (touch_of one.0 one.1 x)

-- the export's byte at x at entry i, counted from 0, of a session behind these: what the last change of all sessions
-- before it left, or else the byte before the first session
abbrev pub byte_in_chain : List Link → Report → List Entry → (initial : ℕ → Option ℕ) → ℕ → ℕ → Option ℕ
byte_in_chain links r order initial i x =
    byte_or_start (last_served x (served_by_chain links ++ served_of (effects r) (take i order))) initial x

-- no entry of a session behind these serves a wrong byte, against what all sessions before it left
abbrev pub HasNoneWrongInChain : List Link → Report → List Entry → (initial : ℕ → Option ℕ) → Type 0
HasNoneWrongInChain links r order initial =
    (i x : ℕ) (entry : Entry) → slice_get order i ≡ Some entry
    → IsWrongOf (effects r) entry (byte_in_chain links r order initial i) x → ⊥

-- a session is explained from what these leave exactly where its order has no fault and serves no wrong byte, against
-- the last changes of all sessions
abbrev pub ChainsAreOneHistory : Type 0
ChainsAreOneHistory = (profile : Profile) (items : List Item) (order : List Entry) (links : List Link)
    (initial : ℕ → Option ℕ) (start : Start) → IsRunOf profile items → FitsImage (report items).export start
    → AreSameBelow (size_of (report items).export) (start_byte start) (left_by_chain links initial)
    → IsExplainedOf profile (pairs items) order start
    ↔ IsFaultless profile (report items) order × HasNoneWrongInChain links (report items) order initial

-- where an order explains the bytes of a run of the profile, it leaves each byte of the export that is sure
abbrev pub SureIsLeft : Type 0
SureIsLeft = (profile : Profile) (items : List Item) (order : List Entry) (initial : Start) (export : Exporting)
    (x b : ℕ) → IsRunOf profile items → IsExplainedOf profile (pairs items) order initial
    → (report items).export ≡ Some export → x < export.size
    → sure (report items) (start_byte initial) x ≡ Some b → left (report items) order (start_byte initial) x ≡ Some b

-- the same, from a start that knows less than the one from which the order explains them
abbrev pub SureOfLessIsLeft : Type 0
SureOfLessIsLeft = (profile : Profile) (items : List Item) (order : List Entry) (less more : Start) (export : Exporting)
    → IsRunOf profile items → IsExplainedOf profile (pairs items) order more → (report items).export ≡ Some export
    → KnowsLess export.size (start_byte less) (start_byte more)
    → KnowsLess export.size (sure (report items) (start_byte less)) (left (report items) order (start_byte more))
