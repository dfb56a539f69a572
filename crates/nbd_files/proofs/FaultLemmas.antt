-- What is printed of a fault, by its parts.
use Rattle.nbd_files.proofs.Common.{◌≡◌, ℕ, List, ◌++◌, refl, sym, subst, Some, None, codes, decimal, RunFault, CaptureLine, CaptureRead, OrderLine, OrderRead, ImageRead, ContentsLine, ContentsRead, AgainstRead, ScriptLine, ScriptRead, Write, Memory, words, line_of, name_of}
use Rattle.std.proofs.Common.{Option}

-- the words behind the first one
abbrev words_by : RunFault → Option ℕ → List ℕ
words_by fault (Some n) = codes "fault " ++ (name_of fault ++ (codes " line " ++ decimal n))
words_by fault None = codes "fault " ++ name_of fault

by_parts : (fault : RunFault) → words_by fault (line_of fault) ≡ words fault
by_parts (CaptureLine n) = refl
by_parts CaptureRead = refl
by_parts (OrderLine n) = refl
by_parts OrderRead = refl
by_parts ImageRead = refl
by_parts (ContentsLine n) = refl
by_parts ContentsRead = refl
by_parts AgainstRead = refl
by_parts (ScriptLine n) = refl
by_parts ScriptRead = refl
by_parts Write = refl
by_parts Memory = refl

-- of a malformed line, and of another fault
pub numbered : (fault : RunFault) (n : ℕ) → Some n ≡ line_of fault → codes "fault " ++ (name_of fault ++ (codes " line " ++ decimal n)) ≡ words fault
numbered fault n e = subst (λ o. words_by fault o ≡ words fault) (sym e) (by_parts fault)
