-- Captures whose bytes the reader reads up to the last one, which it refuses.
use Rattle.nbd_laws.proofs.Common.{arith, and_parts, ◌≡◌, ℕ, List, [], ◌∷◌, ◌++◌, take, refl, sym, ◌∙◌, ap, subst, Option, Some, None, Result, Ok, Err, Bool, true, ◌&&◌, nat_lt, ltb-true, WireFault, BadMagic, NotFixedNewstyle, BadClientFlags, OutOfTurn, OutOfProfile, UnknownCookie, BadDisconnect, IncompleteStatus, Message, Greeting, Client, Server, Profile, Base, Wide, ArePairs, Pair, flat, is_proper_option, next_phase, content_of, context_of, failure_of, queries_of, info_of, is_go, is_listed, status_of, ends_reply, is_failing, is_proper, has, has_only, piece_of, complete, IsPlace, IsPlaceOf, target, hasty_client, Reader, fresh_of, on_ok, reads, context_messages, opening_messages, status_asked_messages}
use Rattle.nbd_laws.proofs.judge.BlockLemmas.{reads-append}
use Rattle.nbd_laws.specs.captures.Refused as refused

abbrev are_bytes : List Pair → Bool
are_bytes [] = true
are_bytes (p ∷ ps) = nat_lt p.byte 256 && are_bytes ps

are_pairs : (ps : List Pair) → are_bytes ps ≡ true → ArePairs ps
are_pairs [] e = tt
are_pairs (p ∷ ps) e = let h = and_parts (nat_lt p.byte 256) (are_bytes ps) e in (ltb-true p.byte 256 h.0, are_pairs ps h.1)

-- the messages of what was read
abbrev messages_in : Result Reader WireFault → Option (List Message)
messages_in (Ok reader) = Some reader.messages
messages_in (Err fault) = None

worked : (profile : Profile) (prefix : List Pair) (p : Pair) (messages : List Message) (fault : WireFault) → are_bytes prefix ≡ true → are_bytes (prefix ++ p ∷ []) ≡ true → messages_in (reads (fresh_of profile) prefix) ≡ Some messages →
    reads (fresh_of profile) (prefix ++ p ∷ []) ≡ Err fault → IsPlaceOf profile (prefix ++ p ∷ []) messages fault
worked profile prefix p messages fault some bytes read refused = go (reads (fresh_of profile) prefix) refl read (sym (reads-append (fresh_of profile) prefix (p ∷ [])) ∙ refused)
  where
    go : (o : Result Reader WireFault) → reads (fresh_of profile) prefix ≡ o → messages_in o ≡ Some messages → on_ok o (λ next. reads next (p ∷ [])) ≡ Err fault → IsPlaceOf profile (prefix ++ p ∷ []) messages fault
    go (Err f) e m r = absurd (cc)
    go (Ok mid) e m r = record {
      are_pairs = are_pairs (prefix ++ p ∷ []) bytes;
      prefix = prefix;
      last = p;
      parts = refl;
      before = record { are_pairs = are_pairs prefix some; end = mid; reads_it = e; has_messages = (cc) };
      refused = grind arith;
    }

at_of : (profile : Profile) (ps : List Pair) (n : ℕ) (p : Pair) (messages : List Message) (fault : WireFault) → take n ps ++ p ∷ [] ≡ ps → are_bytes (take n ps) ≡ true → are_bytes ps ≡ true → messages_in (reads (fresh_of profile) (take n ps)) ≡ Some messages →
    reads (fresh_of profile) ps ≡ Err fault → IsPlaceOf profile ps messages fault
at_of profile ps n p messages fault parts some bytes read refused = subst (λ qs. IsPlaceOf profile qs messages fault) parts
    (worked profile (take n ps) p messages fault some (ap are_bytes parts ∙ bytes) read (ap (reads (fresh_of profile)) parts ∙ refused))

at : (ps : List Pair) (n : ℕ) (p : Pair) (messages : List Message) (fault : WireFault) → take n ps ++ p ∷ [] ≡ ps → are_bytes (take n ps) ≡ true → are_bytes ps ≡ true → messages_in (reads (fresh_of Base) (take n ps)) ≡ Some messages → reads (fresh_of Base) ps ≡ Err fault →
    IsPlace ps messages fault
at ps n p messages fault parts some bytes read refused = at_of Base ps n p messages fault parts some bytes read refused

pub client_first : IsPlace (flat hasty_client) [] OutOfTurn
unfolding complete next_phase target has has_only is_proper is_proper_option info_of is_listed is_go content_of failure_of ends_reply is_failing piece_of
client_first = at (flat hasty_client) 0 (record { from = Client; byte = 0 }) [] OutOfTurn refl refl refl refl refl

pub wrong_greeting : IsPlace (flat refused.wrong_greeting) [] BadMagic
unfolding complete next_phase target has has_only is_proper is_proper_option info_of is_listed is_go content_of failure_of ends_reply is_failing piece_of
wrong_greeting = at (flat refused.wrong_greeting) 17 (record { from = Server; byte = 3 }) [] BadMagic refl refl refl refl refl

pub old_greeting : IsPlace (flat refused.old_greeting) [] NotFixedNewstyle
unfolding complete next_phase target has has_only is_proper is_proper_option info_of is_listed is_go content_of failure_of ends_reply is_failing piece_of
old_greeting = at (flat refused.old_greeting) 17 (record { from = Server; byte = 2 }) [] NotFixedNewstyle refl refl refl refl refl

pub wrong_old_greeting : IsPlace (flat refused.wrong_old_greeting) [] BadMagic
unfolding complete next_phase target has has_only is_proper is_proper_option info_of is_listed is_go content_of failure_of ends_reply is_failing piece_of
wrong_old_greeting = at (flat refused.wrong_old_greeting) 17 (record { from = Server; byte = 2 }) [] BadMagic refl refl refl refl refl

pub greedy_client : IsPlace (flat refused.greedy_client) (Greeting 1 ∷ []) BadClientFlags
unfolding complete next_phase target has has_only is_proper is_proper_option info_of is_listed is_go content_of failure_of ends_reply is_failing piece_of
greedy_client = at (flat refused.greedy_client) 21 (record { from = Client; byte = 3 }) (Greeting 1 ∷ []) BadClientFlags refl refl refl refl refl

pub strange_client : IsPlace (flat refused.strange_client) (Greeting 3 ∷ []) NotFixedNewstyle
unfolding complete next_phase target has has_only is_proper is_proper_option info_of is_listed is_go content_of failure_of ends_reply is_failing piece_of
strange_client = at (flat refused.strange_client) 21 (record { from = Client; byte = 4 }) (Greeting 3 ∷ []) NotFixedNewstyle refl refl refl refl refl

pub unasked_reply : IsPlace (flat refused.unasked_reply) opening_messages UnknownCookie
unfolding complete next_phase target has has_only is_proper is_proper_option info_of is_listed is_go content_of failure_of ends_reply is_failing piece_of
unasked_reply = at (flat refused.unasked_reply) 111 (record { from = Server; byte = 1 }) opening_messages UnknownCookie refl refl refl refl refl

pub long_disconnect : IsPlace (flat refused.long_disconnect) opening_messages BadDisconnect
unfolding complete next_phase target has has_only is_proper is_proper_option info_of is_listed is_go content_of failure_of ends_reply is_failing piece_of
long_disconnect = at (flat refused.long_disconnect) 123 (record { from = Client; byte = 1 }) opening_messages BadDisconnect refl refl refl refl refl

pub context_in_base : IsPlaceOf Base (flat refused.context_head) context_messages OutOfProfile
unfolding complete next_phase target has has_only is_proper is_proper_option queries_of context_of info_of is_listed is_go content_of failure_of ends_reply is_failing piece_of
context_in_base = at_of Base (flat refused.context_head) 120 (record { from = Server; byte = 19 }) context_messages OutOfProfile refl refl refl refl refl

pub status_missing : IsPlaceOf Wide (flat refused.status_missing) status_asked_messages IncompleteStatus
unfolding complete next_phase target has has_only is_proper is_proper_option queries_of context_of info_of is_listed is_go content_of failure_of status_of ends_reply is_failing piece_of
status_missing = at_of Wide (flat refused.status_missing) 281 (record { from = Server; byte = 0 }) status_asked_messages IncompleteStatus refl refl refl refl refl

pub ruleset worked_places = (client_first, wrong_greeting, old_greeting, wrong_old_greeting, greedy_client, strange_client, unasked_reply, long_disconnect, context_in_base, status_missing)
