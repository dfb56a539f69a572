-- What an export holds behind a session: what an order leaves, but for changes that may still be carried out.
use Rattle.std.specs.Prelude.{ℕ, List, [], ◌∷◌, ◌≡◌, ◌&&◌, ◌||◌, Bool, false, not, Option, Some, None, if◌then◌else◌}
use Rattle.nbd_order.specs.{Common.{Entry, Profile, Verdict, Start, start_byte, Exporting, is_change, is_in, Asked, Report, is_answered, held, held_from, SaysYes, byte_behind, IsJudged, IsVerdict}, declared.leaving.Left.{Left, TheVariants.{Contents, NoExport, Refused}}}

-- a WRITE, TRIM or WRITE_ZEROES that no reply has finished; it may be carried out behind the end of the recording,
-- whether an order names it or not (this project's choice)
abbrev pub is_open : Asked → Bool
is_open a = is_change a.command && not (is_answered a.outcome)

-- it is such a one, with x in its range
abbrev pub is_open_at : ℕ → Asked → Bool
is_open_at x a = is_open a && is_in a.offset a.length x

-- the same, of one of these requests
abbrev pub are_open_at : List Asked → ℕ → Bool
are_open_at [] x = false
are_open_at (a ∷ asked) x = is_open_at x a || are_open_at asked x

-- the bytes, but for those in the range of such a change of these requests, which are unknown
abbrev pub forgotten : List Asked → (ℕ → Option ℕ) → ℕ → Option ℕ
forgotten asked byte x = if are_open_at asked x then None else byte x

-- the byte at x that an order leaves, where the export's bytes were these at first
abbrev pub left : Report → List Entry → (ℕ → Option ℕ) → ℕ → Option ℕ
left r order initial x = forgotten r.asked (byte_behind r order initial) x

-- what an order leaves: its bytes, where it explains the session and there is an export
abbrev pub IsLeft : Profile → Report → List Entry → Start → Left → Type 0
IsLeft profile r order initial (Contents contents) =
    ((v : Verdict) × IsVerdict profile r order initial v × SaysYes v)
    × ((export : Exporting) × (r.export ≡ Some export)
    × (held contents ≡ held_from (left r order (start_byte initial)) 0 export.size))
IsLeft profile r order initial NoExport =
    ((v : Verdict) × IsVerdict profile r order initial v × SaysYes v) × (r.export ≡ None)
IsLeft profile r order initial (Refused v) = IsVerdict profile r order initial v × (SaysYes v → ⊥)

-- what the verdict on a session without an export comes to
abbrev pub IsLeftWithout : Verdict → Left → Type 0
IsLeftWithout v NoExport = SaysYes v
IsLeftWithout v (Refused w) = (w ≡ v) × (SaysYes v → ⊥)
IsLeftWithout v (Contents contents) = ⊥

-- what an order leaves on an export of this size with these bytes at first
abbrev pub IsLeftOn : Profile → Report → List Entry → (size : ℕ) → (ℕ → Option ℕ) → Left → Type 0
IsLeftOn profile r order size initial (Contents contents) =
    ((v : Verdict) × IsJudged profile r order initial v × SaysYes v)
    × (held contents ≡ held_from (left r order initial) 0 size)
IsLeftOn profile r order size initial NoExport = ⊥
IsLeftOn profile r order size initial (Refused v) = IsJudged profile r order initial v × (SaysYes v → ⊥)
