-- Reading is a function, and takes what a run begins with: so bytes have one place at most, and no run begins with it.
use Rattle.nbd_laws.proofs.{Common.{arith, ◌≡◌, List, [], ◌∷◌, ◌++◌, length, refl, sym, ◌∙◌, ap, Ok, Err, append_assoc, WireFault, Message, Profile, Pair, Reader, fresh_of, reads, IsPlaceOf, within, BeginningsAreUnderWay, HaveOnePlace, PlacesBeginNoRun, PrefixesHaveNoPlace, UnderWayAgree}, judge.{BlockLemmas.reads-append, ExactLemmas.{exact, none_refused}}, reading.MarkLemmas.IsRead}
use Rattle.nbd_laws.proofs.runs.RunLemmas.{marks_law}

pub but_last : (ps qs : List Pair) (p q : Pair) → ps ++ p ∷ [] ≡ qs ++ q ∷ [] → (ps ≡ qs) × (p ≡ q)
but_last [] [] p q e = (refl, (cc))
but_last [] (x ∷ []) p q e = absurd (cc)
but_last (x ∷ []) [] p q e = absurd (cc)
but_last (x ∷ ps) (y ∷ qs) p q e =
    let rest : ps ++ p ∷ [] ≡ qs ++ q ∷ [] = cc in
    let h = but_last ps qs p q rest in
    grind (arith, rest, h)
but_last ps qs p q e = absurd (cc)

-- a place is refused
pub place_refused : {profile : Profile} (ps : List Pair) (messages : List Message) (fault : WireFault) → IsPlaceOf profile ps messages fault → reads (fresh_of profile) ps ≡ Err fault
place_refused {profile} ps messages fault place = grind (arith, reads-append)

-- what was read has no place, nor has a prefix of it
pub read_no_place : {profile : Profile} (ps more : List Pair) (end : Reader) → reads (fresh_of profile) (ps ++ more) ≡ Ok end → (messages : List Message) (fault : WireFault) → IsPlaceOf profile ps messages fault → ⊥
read_no_place {profile} ps more end e messages fault place = grind (arith, place_refused, reads-append)

pub under_way_agree : UnderWayAgree
under_way_agree profile ps messages more u v = cc

pub one_place : HaveOnePlace
one_place profile ps m n f g a b = grind (arith, but_last, place_refused, under_way_agree)

pub places_begin_no_run : PlacesBeginNoRun
places_begin_no_run profile ps messages fault place items run begins = search (none_refused, place_refused)

pub prefixes_have_no_place : PrefixesHaveNoPlace
prefixes_have_no_place profile prefix [] messages more fault other place first = refl
prefixes_have_no_place profile prefix (p ∷ rest) messages more fault other place first =
    let l = last_of p rest in
    let parts : place.prefix ++ place.last ∷ [] ≡ (prefix ++ l.0) ++ l.1 ∷ [] = sym place.parts ∙ ap (λ qs. prefix ++ qs) l.2 ∙ sym (append_assoc prefix l.0 (l.1 ∷ [])) in
    let same = but_last place.prefix (prefix ++ l.0) place.last l.1 parts in
    absurd (read_no_place prefix l.0 place.before.end (ap (reads (fresh_of profile)) (sym same.0) ∙ place.before.reads_it) more other first)
  where
    last_of : (p : Pair) (ps : List Pair) → (init : List Pair) × (last : Pair) × (p ∷ ps ≡ init ++ last ∷ [])
    last_of p [] = ([], p, refl)
    last_of p (q ∷ ps) = let h = last_of q ps in (p ∷ h.0, h.1, ap (λ l. p ∷ l) h.2)

pub beginnings_are_under_way : BeginningsAreUnderWay
beginnings_are_under_way profile items ps run are begins =
    let r : IsRead (fresh_of profile) ps (within (length ps) items) = marks_law exact items run ps begins.0 are begins.1 in
    record { are_pairs = are; end = r.end; reads_it = r.reads_it; has_messages = r.messages_are }

pub ruleset places = (beginnings_are_under_way, one_place, under_way_agree)
