-- A run may have each request served atomically where it completes.
use Rattle.nbd_laws.proofs.{Common.{arith, ◌≡◌, List, [], ◌∷◌, ◌++◌, refl, ◌∙◌, ap, Entry, Profile, Item, Byte, Starts, Completes, Serves, without_service, Both, IsRunOf, Obeys, complete, Core, start_of}, reading.ReaderLemmas.{Open, Walk, ended, final, loose, middle, opening, serving}}
use Rattle.nbd_laws.proofs.runs.{BlockLemmas.Idles, FollowLemmas.Follows, RunLemmas.{fresh_canonical, run_of}, TraceLemmas.{IsCanonical, IsGrown, canonical_serviced, canonical_serves, length-complete, obeys_service, service, serviced, walk_service}}

-- the same marks, with that service
abbrev pub canon : Core → List Item → List Item
canon core [] = []
canon core (Byte s b ∷ items) = Byte s b ∷ canon core items
canon core (Starts s m ∷ items) = Starts s m ∷ canon core items
canon core (Completes s m ∷ items) = Completes s m ∷ (service core (complete core m) (length-complete core m) ++ canon (complete core m) items)
canon core (Serves e ∷ items) = canon core items

obeys_canon : (items : List Item) (core : Core) (js : List Entry) → IsCanonical (record { core = core; served = js }) → Follows core items → Obeys (record { core = core; served = js }) (canon core items)
obeys_canon [] core js c f = tt
obeys_canon (Byte s b ∷ items) core js c f = (tt, obeys_canon items core js c f)
obeys_canon (Starts s m ∷ items) core js c f = ((f.0.sided, f.0.are_bytes, f.0.starts, canonical_serves _ c (Starts s m)), obeys_canon items core js c f.1)
obeys_canon (Completes s m ∷ items) core js c f =
    let next : Core = complete core m in
    let grown : IsGrown core next = length-complete core m in (
      (f.0, canonical_serves _ c (Completes s m)),
      obeys_service core next grown js (canon next items) c (obeys_canon items next (serviced core next grown js) (canonical_serviced core next grown js c) f.1),
    )
obeys_canon (Serves e ∷ items) core js c f = obeys_canon items core js c f

walk_canon : {P : Type 0} {o : Both Open} {items : List Item} → Walk P o items → (core : Core) → Walk P o (canon core items)
walk_canon (ended c s) core = ended c s
walk_canon (serving k w) core = walk_canon w core
walk_canon (opening s m b left e f g w) core = opening s m b left e f g (walk_canon w core)
walk_canon (middle s m b left e f w) core = middle s m b left e f (walk_canon w core)
walk_canon (final s m b {items = items} e w) core = final s m b e (walk_service core (complete core m) (length-complete core m) _ (canon (complete core m) items) (walk_canon w (complete core m)))
walk_canon (loose s b p e w) core = loose s b p e (walk_canon w core)

pub unserved_canon : (core : Core) (items : List Item) → without_service (canon core items) ≡ without_service items
unserved_canon core [] = refl
unserved_canon core (Byte s b ∷ items) = ap (λ l. Byte s b ∷ l) (unserved_canon core items)
unserved_canon core (Starts s m ∷ items) = ap (λ l. Starts s m ∷ l) (unserved_canon core items)
unserved_canon core (Completes s m ∷ items) = ap (λ l. Completes s m ∷ l) ((grind arith) ∙ unserved_canon (complete core m) items)
unserved_canon core (Serves e ∷ items) = unserved_canon core items

-- marks that are allowed, whatever was served, are those of a run
pub canonical_run : (profile : Profile) (items : List Item) → Walk ⊥ Idles items → Follows (start_of profile).core items → IsRunOf profile (canon (start_of profile).core items)
canonical_run profile items w f = run_of (λ x. x) (walk_canon w (start_of profile).core) (obeys_canon items (start_of profile).core [] fresh_canonical f)
