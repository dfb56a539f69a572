-- A session before its first byte.
use Rattle.nbd_session.proofs.{Common.{arith, ◌≡◌, List, [], ◌∷◌, Option, Some, AreShown, export_in, Exchange, Exporting, refl, sym, ap, subst, None, Profile, Side, Client, Server, start_of, Monitor, Past, Follows, fresh_of, holding_of, incoming_of, bytes_come, nothing_come, IsKnown, decided, empty_session_of, known_if, slice_get, Shows, Holding, IsReadTo, Stands}, judge.PieceLemmas.kept}
use Rattle.nbd_session.proofs.steps.KnownLemmas.{nothing_known}

abbrev nothing : Past
nothing = record { pairs = []; messages = [] }

abbrev empty : Profile → Holding
empty profile = record { profile = profile; past = nothing; client = []; server = []; counted = 0 }

read_empty : (profile : Profile) → IsReadTo (empty profile) (fresh_of profile)
read_empty profile = grind arith

stands_empty : (profile : Profile) (held : Monitor) → held.closed ≡ None → Shows held.state (start_of profile).core → held.state.exchanges.items ≡ [] → held.client ≡ nothing_come → held.server ≡ nothing_come →
    held.counted ≡ 0 → held.taken ≡ 0 → Stands held nothing
stands_empty profile held unclosed shows none client server counted taken =
    let holds : holding_of held nothing ≡ empty profile = (λ i. record { profile = shows.profile_is i; past = nothing; client = bytes_come (client i); server = bytes_come (server i); counted = counted i }) in
    record {
      unclosed = unclosed;
      reader = fresh_of profile;
      read_to = subst (λ h. IsReadTo h (fresh_of profile)) (sym holds) (read_empty profile);
      shows = shows;
      known = λ place. sym (ap (λ xs. known_if (slice_get xs place)) none);
      taken_is = taken;
      knows = known;
    }
  where
    known : (s : Side) → IsKnown (decided (fresh_of profile) s) (fresh_of profile).core (incoming_of held s)
    known Client = subst (IsKnown (decided (fresh_of profile) Client) (fresh_of profile).core) (sym client) (nothing_known (fresh_of profile).core Client (fresh_of profile).rests.client refl)
    known Server = subst (IsKnown (decided (fresh_of profile) Server) (fresh_of profile).core) (sym server) (nothing_known (fresh_of profile).core Server (fresh_of profile).rests.server refl)

-- no request was shown
none_shown : (export : Option Exporting) (xs : List Exchange) → AreShown export [] xs → xs ≡ []
none_shown export [] s = refl
none_shown None (x ∷ xs) s = absurd s
none_shown (Some e) (x ∷ xs) s = absurd s

pub begins : (profile : Profile) (held : Monitor) → held.closed ≡ None → Shows held.state (start_of profile).core → held.client ≡ nothing_come → held.server ≡ nothing_come → held.counted ≡ 0 → held.taken ≡ 0 →
    Follows held (empty_session_of profile)
begins profile held unclosed shows client server counted taken = record {
  kept = kept held nothing (stands_empty profile held unclosed shows (none_shown (export_in (start_of profile).core.phase) held.state.exchanges.items shows.are_shown) client server counted taken);
  profile_is = shows.profile_is;
  client_is = ap bytes_come client;
  server_is = ap bytes_come server;
  closed_is = unclosed;
}
