-- A session over chunks that ends in a fault.
use Rattle.nbd_judge.proofs.Common.{◌≡◌, ℕ, suc, ◌<◌, List, ◌∷◌, ◌++◌, length, sym, ◌∙◌, ap, subst, take, drop, drop-cons, get_or, append_assoc, inl, Result, Ok, Err, IfOk, IfErr, take-append-drop, Global, Profile, Entry, Side, IsExplainedOf, Start, Pair, flat, side_pairs, SessionFault, Memory, EndsIn, IsRefusalOf, IsWireFaultOf, Refuses, AddsPrefix, IsAtEnd, SessionView, pairs_of, sent-append, no_run_of, Verdict, IsChecked, IsFaultOf, SaysYes, records_of, ◌↔◌}
use Rattle.nbd_judge.proofs.verdicts.ChunkLemmas.{joined}
use Rattle.std.proofs.Common.{Vec}
use Rattle.nbd_session.specs.declared.fault.SessionFault.TheVariants.{Wire}
use Rattle.nbd_wire.specs.declared.verdict.Verdict.TheVariants as verdict

-- before a chunk, the chunk, and after it
split_at : (cs : List (Side × Vec ℕ Global)) (i : ℕ) (c : Side × Vec ℕ Global) → i < length cs → c ≡ get_or cs i c →
    flat (records_of cs) ≡ flat (records_of (take i cs)) ++ (side_pairs c.0 c.1.items ++ flat (records_of (drop (suc i) cs)))
split_at cs i c w e =
    ap (λ l. flat (records_of l)) (sym (take-append-drop i cs)) ∙ joined (take i cs) (drop i cs)
    ∙ ap (λ l. flat (records_of (take i cs)) ++ flat (records_of l)) (drop-cons cs i c w ∙ ap (λ d. d ∷ drop (suc i) cs) (sym e))

-- a fault in a chunk is that of the capture
pub fault_in : {profile : Profile} (cs : List (Side × Vec ℕ Global)) (i : ℕ) (c : Side × Vec ℕ Global) (piece : List ℕ) (old new : SessionView) (fault : SessionFault) → i < length cs → c ≡ get_or cs i c → piece ≡ c.1.items →
    new.profile ≡ profile → pairs_of old ≡ flat (records_of (take i cs)) → AddsPrefix old new c.0 piece → IsAtEnd new fault → Refuses new fault → IsFaultOf profile (flat (records_of cs)) fault
fault_in cs i c piece old new Memory w e same p took prefix is refuses = tt
fault_in cs i c piece old new (Wire at fault) w e same p took prefix is refuses =
    let added = prefix.1 in
    let behind : List Pair = flat (records_of (drop (suc i) cs)) in
    let whole : side_pairs c.0 added.prefix ++ side_pairs c.0 prefix.0 ≡ side_pairs c.0 c.1.items = sym (sent-append c.0 added.prefix prefix.0) ∙ ap (side_pairs c.0) (added.parts ∙ same) in (
      new.messages,
      inl (
        pairs_of new,
        side_pairs c.0 prefix.0 ++ behind,
        ap (λ ps. ps ++ (side_pairs c.0 prefix.0 ++ behind)) added.has_pairs
            ∙ append_assoc (pairs_of old) (side_pairs c.0 added.prefix) (side_pairs c.0 prefix.0 ++ behind)
            ∙ ap (λ ps. pairs_of old ++ ps) (sym (append_assoc (side_pairs c.0 added.prefix) (side_pairs c.0 prefix.0) behind) ∙ ap (λ ps. ps ++ behind) whole)
            ∙ ap (λ ps. ps ++ (side_pairs c.0 c.1.items ++ behind)) took
            ∙ sym (split_at cs i c w e),
        is,
        subst (λ q. IsRefusalOf q (pairs_of new) new.messages fault) p refuses.1,
      ),
    )

end_fault : {profile : Profile} (r : SessionView) (capture : List Pair) (fault : SessionFault) → r.profile ≡ profile → pairs_of r ≡ capture → EndsIn r fault → IsFaultOf profile capture fault
end_fault r capture Memory p same e = tt
end_fault {profile} r capture (Wire at fault) p same e =
    (r.messages, subst (λ ps. IsWireFaultOf profile ps r.messages at fault) same (subst (λ q. IsWireFaultOf q (pairs_of r) r.messages at fault) p e))

-- so is one at the end
pub finish_fault : {A : Type 0} {profile : Profile} (r : SessionView) (capture : List Pair) (o : Result A SessionFault) → r.profile ≡ profile → pairs_of r ≡ capture → IfErr o (EndsIn r) → IfErr o (IsFaultOf profile capture)
finish_fault r capture (Ok told) p same h = tt
finish_fault r capture (Err fault) p same h = end_fault r capture fault p same h

-- yes is said of exactly the captures that are explained
says_exactly : (profile : Profile) (capture : List Pair) (order : List Entry) (initial : Start) (v : Verdict) → IsChecked profile capture order initial v
    → SaysYes v ↔ IsExplainedOf profile capture order initial
says_exactly profile capture order initial (verdict.Yes a b c) is = ((λ y. is.answers.explained), λ x. tt)
says_exactly profile capture order initial (verdict.Wire at fault) is = ((λ y. absurd y), λ x. no_run_of capture is.0 at fault is.1 x.items x.is_run x.has_pairs)
says_exactly profile capture order initial (verdict.Order e f) is = ((λ y. absurd y), λ x. is.answers.0 x)
says_exactly profile capture order initial v is = ((λ y. absurd y), λ x. is.answers x)

pub answers_exactly : {E : Type 0} (profile : Profile) (capture : List Pair) (order : List Entry) (initial : Start) (o : Result Verdict E) → IfOk o (IsChecked profile capture order initial)
    → IfOk o (λ v. SaysYes v ↔ IsExplainedOf profile capture order initial)
answers_exactly profile capture order initial (Ok v) is = says_exactly profile capture order initial v is
answers_exactly profile capture order initial (Err e) is = tt
