-- A capture is refused in one way at most, and has one answer at most.
use Rattle.nbd_judge.proofs.{Common.{◌≡◌, ℕ, List, [], ◌∷◌, ◌++◌, ◌⊎◌, length, refl, sym, ◌∙◌, ap, subst, inl, inr, append-nil, Profile, Entry, WireFault, Message, Pair, Start, report, IsPlaceOf, one_place, prefixes_have_no_place, under_way_agree, IsOpenEndOf, no_run_of, Verdict, Wire, HasVerdict, IsChecked, IsFaultOf, OneAnswer, OneWireFault, IsRefusalOf}, verdicts.SingleLemmas.one_verdict}
use Rattle.nbd_session.specs.declared.fault.SessionFault.TheVariants as session

-- of two prefixes of a list one begins with the other
prefixes : {A : Type 0} (xs ys us vs : List A) → xs ++ us ≡ ys ++ vs → ((w : List A) × (ys ≡ xs ++ w)) ⊎ ((w : List A) × (xs ≡ ys ++ w))
prefixes [] ys us vs e = inl (ys, refl)
prefixes (x ∷ xs) [] us vs e = inr (x ∷ xs, refl)
prefixes (x ∷ xs) (y ∷ ys) us vs e =
    let same : x ≡ y = cc in
    let rest : xs ++ us ≡ ys ++ vs = cc in
    elim (prefixes xs ys us vs rest) [
      | inl w ↦ inl (w.0, ap (λ l. y ∷ l) w.1 ∙ ap (λ z. z ∷ (xs ++ w.0)) (sym same))
      | inr w ↦ inr (w.0, ap (λ l. x ∷ l) w.1 ∙ ap (λ z. z ∷ (ys ++ w.0)) same)
    ]

-- a capture is refused at the last byte of a prefix
abbrev IsRefusedAt : Profile → List Pair → List Message → ℕ → WireFault → Type 0
IsRefusedAt profile capture messages at fault = (prefix : List Pair) × (rest : List Pair) × (prefix ++ rest ≡ capture) × (at ≡ length prefix) × IsRefusalOf profile prefix messages fault

-- a longer prefix of a capture with a place has none
module _ {profile : Profile} (capture : List Pair) (messages more : List Message) (at place : ℕ) (fault other : WireFault) where
  longer : (a : IsRefusedAt profile capture messages at fault) (b : IsRefusedAt profile capture more place other) (w : List Pair) → b.0 ≡ a.0 ++ w → (at ≡ place) × (fault ≡ other) × (messages ≡ more)
  longer a b w e =
      let none : w ≡ [] = prefixes_have_no_place profile a.0 w more messages other fault (subst (λ ps. IsPlaceOf profile ps more other) e b.4.place) a.4.place in
      let same : b.0 ≡ a.0 = e ∙ ap (λ l. a.0 ++ l) none ∙ append-nil a.0 in
      let one = one_place profile a.0 messages more fault other a.4.place (subst (λ ps. IsPlaceOf profile ps more other) same b.4.place) in
      (a.3 ∙ ap length (sym same) ∙ sym b.3, one.1, one.0)

  open_end : IsRefusedAt profile capture messages at fault → IsOpenEndOf profile capture more → ⊥
  open_end a b = b.accepted.placeless a.0 a.1 messages fault a.2 a.4.place

pub one_wire_fault : OneWireFault
one_wire_fault profile capture messages more at place fault other (inl a) (inl b) = elim (prefixes a.0 b.0 a.1 b.1 (a.2 ∙ sym b.2)) [
  | inl w ↦ longer capture messages more at place fault other a b w.0 w.1
  | inr w ↦ (let back = longer capture more messages place at other fault b a w.0 w.1 in (sym back.0, sym back.1, sym back.2))
]
one_wire_fault profile capture messages more at place fault other (inl a) (inr b) = absurd (open_end capture messages more at place fault other a b.2)
one_wire_fault profile capture messages more at place fault other (inr a) (inl b) = absurd (open_end capture more messages place at other fault b a.2)
one_wire_fault profile capture messages more at place fault other (inr a) (inr b) =
    (a.1 ∙ sym b.1, a.0 ∙ sym b.0, under_way_agree profile capture messages more a.2.accepted.under_way b.2.accepted.under_way)

-- an answer is a wire fault or the verdict on a run
abbrev IsRefusing : Profile → List Pair → Verdict → Type 0
IsRefusing profile capture v = (at : ℕ) × (fault : WireFault) × (v ≡ Wire at fault) × IsFaultOf profile capture (session.Wire at fault)

parts_of : {profile : Profile} (capture : List Pair) (order : List Entry) (initial : Start) (v : Verdict) → IsChecked profile capture order initial v
    → IsRefusing profile capture v ⊎ HasVerdict profile capture order initial v
parts_of capture order initial (Wire at fault) c = inl (at, fault, refl, c)
parts_of capture order initial v h = inr h

pub one_answer : OneAnswer
one_answer profile capture order initial v w p q = go (parts_of {profile = profile} capture order initial v p) (parts_of {profile = profile} capture order initial w q)
  where
    no_both : (u : Verdict) → IsRefusing profile capture u → (x : Verdict) → HasVerdict profile capture order initial x → ⊥
    no_both u (at, fault, is, of) x h = no_run_of capture of.0 at fault of.1 h.items h.is_run h.has_pairs

    go : IsRefusing profile capture v ⊎ HasVerdict profile capture order initial v → IsRefusing profile capture w ⊎ HasVerdict profile capture order initial w → v ≡ w
    go (inl (at, fault, is, of)) (inl (place, other, has, to)) =
        let one = one_wire_fault profile capture of.0 to.0 at place fault other of.1 to.1 in
        is ∙ ap (λ at. Wire at fault) one.0 ∙ ap (Wire place) one.1 ∙ sym has
    go (inl a) (inr h) = absurd (no_both v a w h)
    go (inr h) (inl b) = absurd (no_both w b v h)
    go (inr h) (inr k) = one_verdict profile (report h.items) order initial v w (h.is_verdict h.items h.is_run h.has_pairs) (k.is_verdict h.items h.is_run h.has_pairs)
