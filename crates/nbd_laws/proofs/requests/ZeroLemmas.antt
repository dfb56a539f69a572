-- What a status calls zero: pieces in its request's range, which share no offset.
use Rattle.nbd_laws.proofs.Common.{and_parts, ◌≡◌, ℕ, ◌+◌, ◌-◌, ◌<◌, ◌≤◌, ◌==◌, ◌&&◌, List, [], ◌∷◌, ◌++◌, min, refl, sym, ◌∙◌, ap, subst, None, Bool, true, false, not, if◌then◌else◌, nat_le, nat_lt, arith, IsTrue, eqb-true, eq-eqb, ◌||◌, and_assoc, and_zero_r, bit_and, Piece, Hole, Extent, Exporting, Operation, allowed_flags, is_proper, may_carry, has, has_only, byte_at, zeroes, zeroes_in}
use Rattle.nbd_laws.proofs.requests.LaidLemmas.{AreApart, AreInside}
use Rattle.std.proofs.Common.{leb-true, leb-false, ltb-true}
use Rattle.nbd_wire.specs.declared.command_flags.TheConstants as command_flags
use Rattle.nbd_wire.specs.declared.commands.TheConstants as commands
use Rattle.nbd_wire.specs.declared.states.TheConstants as states

-- the bytes of an extent, if there are some and it calls them zero
abbrev pub zero_part : (offset size flags : ℕ) → List Piece
zero_part offset size flags = if has flags states.ZERO && not (size == 0) then Hole offset size ∷ [] else []

-- a shorter range further on lies in the range
wider : (offset len at size : ℕ) (ps : List Piece) → offset ≤ at → at + size ≤ offset + len → AreInside at size ps → AreInside offset len ps
wider offset len at size [] l u i = tt
wider offset len at size (p ∷ ps) l u i = grind (arith, wider offset len at size ps l u i.1)

-- what lies behind an offset has none before it
behind : (at size : ℕ) (ps : List Piece) (x : ℕ) → AreInside at size ps → x < at → byte_at ps x ≡ None
behind at size [] x i l = refl
behind at size (p ∷ ps) x i l = grind (arith, and_parts, nat_le, nat_lt, leb-true, behind at size ps x i.1 l)

-- of a range of no byte none is zero
pub none_of_none : (offset : ℕ) (xs : List Extent) → zeroes_in offset 0 xs ≡ []
none_of_none offset [] = refl
none_of_none offset (x ∷ xs) = grind (arith, min, none_of_none (offset + x.length) xs)

-- they lie in the range
pub zeroes_inside : (offset size : ℕ) (xs : List Extent) → AreInside offset size (zeroes_in offset size xs)
zeroes_inside offset size [] = tt
zeroes_inside offset size (x ∷ xs) = part (zero_part offset (min x.length size) x.flags) (zeroes_in (offset + x.length) (size - x.length) xs) (later (zeroes_inside (offset + x.length) (size - x.length) xs)) (grind arith)
  where
    later : AreInside (offset + x.length) (size - x.length) (zeroes_in (offset + x.length) (size - x.length) xs) → AreInside offset size (zeroes_in (offset + x.length) (size - x.length) xs)
    later i = go (nat_le x.length size) refl
      where
        go : (b : Bool) → nat_le x.length size ≡ b → AreInside offset size (zeroes_in (offset + x.length) (size - x.length) xs)
        go true h = wider offset size (offset + x.length) (size - x.length) _ (omega arith) (let l = leb-true x.length size h in omega (arith, l)) i
        go false h = subst (λ n. AreInside offset size (zeroes_in (offset + x.length) n xs)) (let l = leb-false x.length size h in omega (arith, l)) (subst (AreInside offset size) (sym (none_of_none (offset + x.length) xs)) tt)

    part : (ps qs : List Piece) → AreInside offset size qs → AreInside offset size ps → AreInside offset size (ps ++ qs)
    part [] qs q p = q
    part (y ∷ ps) qs q p = (p.0, part ps qs q p.1)

-- and share no offset
pub zeroes_apart : (offset size : ℕ) (xs : List Extent) → AreApart (zeroes_in offset size xs)
zeroes_apart offset size [] = tt
zeroes_apart offset size (x ∷ xs) = grind (arith, min, and_parts, nat_le, nat_lt, ltb-true, behind, zeroes_inside, zeroes_apart (offset + x.length) (size - x.length) xs)

-- what a request was told
pub data Told (export : Exporting) (e : Operation) : Type 0 where
  content : zeroes export e ≡ [] → Told export e
  told : e.command ≡ commands.BLOCK_STATUS → IsTrue (is_proper export e) → AreInside e.offset e.length (zeroes export e) → AreApart (zeroes export e) → Told export e

pub told_of : (export : Exporting) (e : Operation) → Told export e
told_of export e = grind (arith, zeroes_inside, zeroes_apart, told, eqb-true, content)

-- a proper BLOCK_STATUS does not carry DF
pub no_df : (export : Exporting) (e : Operation) → e.command ≡ commands.BLOCK_STATUS → IsTrue (is_proper export e) → IsTrue (has e.flags command_flags.DF) → ⊥
unfolding is_proper has has_only
no_df export e k p d =
    let a = and_parts _ (not (e.command == commands.FLUSH) || ((e.offset == 0) && (e.length == 0))) p in
    let b = and_parts _ (has_only e.flags (allowed_flags (may_carry export.flags e) export.flags e.command)) a.0 in
    let only : bit_and e.flags (allowed_flags (may_carry export.flags e) export.flags e.command) ≡ e.flags = eqb-true _ _ b.1 in
    let none : bit_and e.flags command_flags.DF ≡ 0 =
    ap (λ f. bit_and f command_flags.DF) (sym only) ∙ and_assoc command_flags.DF e.flags (allowed_flags (may_carry export.flags e) export.flags e.command)
    ∙ ap (λ c. bit_and e.flags (bit_and (allowed_flags (may_carry export.flags e) export.flags c) command_flags.DF)) k ∙ ap (bit_and e.flags) ((grind arith)) ∙ and_zero_r e.flags in
    let w : true ≡ false = sym d ∙ ap not (eq-eqb (bit_and e.flags command_flags.DF) 0 none) in absurd (cc)
