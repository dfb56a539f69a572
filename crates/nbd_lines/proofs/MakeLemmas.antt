-- What `make` answers: that a script's messages fit, and what stands written after a fault.
use Rattle.nbd_lines.proofs.{Common.{ℕ, inl, inr, List, ◌++◌, sym, subst, AllByRecursion, Message, FitsItsHead, empty, line, IsScript}, ScriptLineLemmas.forms}

-- each message of a script fits its head
pub all_fit : (text : List ℕ) (messages : List Message) → IsScript text messages → AllByRecursion FitsItsHead messages
all_fit _ _ empty = tt
all_fit _ _ (line bytes said rest messages u f r) =
    let more = all_fit rest messages r in
    elim (forms bytes said f) [
      | inl silent ↦ subst (λ l. AllByRecursion FitsItsHead (l ++ messages)) (sym silent.1) more
      | inr tells ↦ subst (λ l. AllByRecursion FitsItsHead (l ++ messages)) (sym tells.all) (tells.fits, more)
    ]
