-- Message lines: a line stands for one message at most.
use Rattle.nbd_lines.proofs.Common.{◌≡◌, ℕ, zero, suc, ◌^◌, ◌<◌, Bool, true, false, List, [], ◌++◌, drop, get_or, refl, sym, ◌∙◌, subst, arith, nat_eq, ◌==◌, if◌then◌else◌, AllByRecursion, append_cancel_left, Message, FitsItsHead, AreDigits, decodes, Field, Form, Greeting, ClientFlags, Choice, Answer, Exported, Request, Simple, Chunk, ExtendedRequest, ExtendedChunk, IsEnd, IsMessageLine, numbers_text, payload_words, BeginsNumbers, EndsWord, ReadsNumbers, payload_of, fields, has_payload, line_form, numbers, words}
use Rattle.nbd_lines.proofs.NumberLemmas.{one_list}
use Rattle.nbd_wire.specs.declared.message.Message.TheVariants as messages

-- the first, the third and the fifth letter of a line state its form
unfoldable pub form_by : List ℕ → Form
form_by text =
    if get_or text 0 0 == 67
    then (if get_or text 2 0 == 99 then ClientFlags else (if get_or text 2 0 == 111 then Choice else (if get_or text 2 0 == 101 then ExtendedRequest else Request)))
    else (if get_or text 2 0 == 103 then Greeting else (if get_or text 2 0 == 97 then Answer else (if get_or text 2 0 == 101 then (if get_or text 4 0 == 112 then Exported else ExtendedChunk) else (if get_or text 2 0 == 115 then Simple else Chunk))))

pub form_by-words : (f : Form) (rest : List ℕ) → form_by (words f ++ rest) ≡ f
unfolding form_by
form_by-words f rest = grind arith

-- a line begins with the words of one form
pub one_form : (f g : Form) (x y : List ℕ) → words f ++ x ≡ words g ++ y → (f ≡ g) × (x ≡ y)
one_form f g x y e = grind (arith, form_by-words, append_cancel_left)

pub end_ends : (p : Bool) (bytes end : List ℕ) → IsEnd p bytes end → EndsWord end
end_ends p bytes end h = grind arith

-- an end, taken apart
pub record Carries (bytes end : List ℕ) : Type 0 where
  pub digits : List ℕ
  pub spelled : AreDigits digits bytes
  pub whole : end ≡ payload_words ++ digits

unfoldable pub EndsSo : Bool → List ℕ → List ℕ → Type 0
EndsSo true bytes end = Carries bytes end
EndsSo false bytes end = (bytes ≡ []) × (end ≡ [])

pub ends_so : (p : Bool) (bytes end : List ℕ) → IsEnd p bytes end → EndsSo p bytes end
unfolding EndsSo
ends_so p bytes end h = grind arith

-- an end spells one payload
pub one_payload : (p : Bool) (a b end : List ℕ) → IsEnd p a end → IsEnd p b end → a ≡ b
unfolding EndsSo
one_payload p a b end x y = grind (arith, decodes, append_cancel_left, ends_so)

-- the numbers of a list, from its beginning
abbrev pub nth : ℕ → List ℕ → ℕ
nth zero ns = get_or ns 0 0
nth (suc k) ns = nth k (drop 1 ns)

-- the message of a form with these numbers and this payload
unfoldable pub built : Form → List ℕ → List ℕ → Message
built Greeting ns bytes = messages.Greeting (nth 0 ns)
built ClientFlags ns bytes = messages.ClientFlags (nth 0 ns)
built Choice ns bytes = messages.Choice (nth 0 ns) bytes
built Answer ns bytes = messages.Answer (nth 0 ns) (nth 1 ns) bytes
built Exported ns bytes = messages.Exported (nth 0 ns) (nth 1 ns) (nat_eq (nth 2 ns) 1)
built Request ns bytes = messages.Request (nth 0 ns) (nth 1 ns) (nth 2 ns) (nth 3 ns) (nth 4 ns) bytes
built Simple ns bytes = messages.Simple (nth 0 ns) (nth 1 ns) bytes
built Chunk ns bytes = messages.Chunk (nth 0 ns) (nth 1 ns) (nth 2 ns) bytes
built ExtendedRequest ns bytes = messages.ExtendedRequest (nth 0 ns) (nth 1 ns) (nth 2 ns) (nth 3 ns) (nth 4 ns) bytes
built ExtendedChunk ns bytes = messages.ExtendedChunk (nth 0 ns) (nth 1 ns) (nth 2 ns) (nth 3 ns) bytes

-- messages are their parts
pub same_message : (a b : Message) → line_form a ≡ line_form b → numbers a ≡ numbers b → payload_of a ≡ payload_of b → a ≡ b
unfolding built
same_message a b f n p = grind arith

pub fields_small : (f : Form) → AllByRecursion (λ (g : Field). g.most < 2 ^ 64) (fields f)
fields_small f = grind arith

-- a line as its parts: a form, its numbers and its payload
pub record Spells (line : List ℕ) (f : Form) (ns bytes : List ℕ) : Type 0 where
  pub end : List ℕ
  pub begins : BeginsNumbers (fields f) ns (numbers_text (fields f) ns ++ end) end
  pub is_end : IsEnd (has_payload f) bytes end
  pub whole : line ≡ words f ++ (numbers_text (fields f) ns ++ end)

spells : (line : List ℕ) (m : Message) (f : Form) → line_form m ≡ f → IsMessageLine line m → Spells line f (numbers m) (payload_of m)
spells line m f e h = grind arith

-- a line that begins with the words of a form is of this form
spells_rest : (line rest : List ℕ) (f : Form) (m : Message) → line ≡ words f ++ rest → IsMessageLine line m → Spells line f (numbers m) (payload_of m)
spells_rest line rest f m e h = grind (arith, one_form, spells)

rest_of : (line rest : List ℕ) (f : Form) (ns bytes : List ℕ) (e : line ≡ words f ++ rest) (s : Spells line f ns bytes) → BeginsNumbers (fields f) ns rest s.end
rest_of line rest f ns bytes e s = record { within = s.begins.within; whole = append_cancel_left (words f) rest _ (sym e ∙ s.whole) }

pub no_form : (line : List ℕ) → ((f : Form) (rest : List ℕ) → line ≡ words f ++ rest → ⊥) → (m : Message) → IsMessageLine line m → ⊥
no_form line none m h = none (line_form m) _ h.whole

pub no_numbers : (line rest : List ℕ) (f : Form) → line ≡ words f ++ rest
    → ((ns behind : List ℕ) → EndsWord behind → BeginsNumbers (fields f) ns rest behind → ⊥) → (m : Message) → IsMessageLine line m → ⊥
no_numbers line rest f e none m h =
    let s = spells_rest line rest f m e h in
    none (numbers m) s.end (end_ends (has_payload f) (payload_of m) s.end s.is_end) (rest_of line rest f (numbers m) (payload_of m) e s)

pub no_end : (line rest end : List ℕ) (f : Form) (ns : List ℕ) → line ≡ words f ++ rest → ReadsNumbers (fields f) ns rest end
    → ((bytes : List ℕ) → IsEnd (has_payload f) bytes end → ⊥) → (m : Message) → IsMessageLine line m → ⊥
no_end line rest end f ns e reads none m h =
    let s = spells_rest line rest f m e h in
    let same = reads.only (numbers m) s.end (end_ends (has_payload f) (payload_of m) s.end s.is_end) (rest_of line rest f (numbers m) (payload_of m) e s) in
    none (payload_of m) (subst (IsEnd (has_payload f) (payload_of m)) same.1 s.is_end)

-- the message of the parts that were read has the line
pub from_parts : (line rest end : List ℕ) (f : Form) (ns bytes : List ℕ) (m : Message) → line ≡ words f ++ rest → ReadsNumbers (fields f) ns rest end
    → IsEnd (has_payload f) bytes end → line_form m ≡ f → numbers m ≡ ns → payload_of m ≡ bytes → IsMessageLine line m
from_parts line rest end f ns bytes m e reads is_end ef en ec = grind arith

-- a line stands for one message
pub one_message : (line : List ℕ) (a b : Message) → IsMessageLine line a → IsMessageLine line b → a ≡ b
one_message line a b x y =
    let f = line_form a in
    let s = spells line a f refl x in
    let t = spells_rest line _ f b s.whole y in
    let left = rest_of line _ f (numbers a) (payload_of a) s.whole s in
    let right = rest_of line _ f (numbers b) (payload_of b) s.whole t in
    let form : line_form a ≡ line_form b = (one_form f (line_form b) _ _ (sym s.whole ∙ y.whole)).0 in
    let same = one_list (fields f) (fields_small f) (numbers a) (numbers b) _ s.end t.end
    (end_ends (has_payload f) (payload_of a) s.end s.is_end) (end_ends (has_payload f) (payload_of b) t.end t.is_end) left right in
    let end : IsEnd (has_payload f) (payload_of b) s.end = subst (IsEnd (has_payload f) (payload_of b)) (sym same.1) t.is_end in
    same_message a b form same.0 (one_payload (has_payload f) (payload_of a) (payload_of b) s.end s.is_end end)

pub misfit : (line : List ℕ) (a : Message) → IsMessageLine line a → (FitsItsHead a → ⊥) → (b : Message) → IsMessageLine line b → FitsItsHead b → ⊥
misfit line a x unfit b y fit = unfit (subst FitsItsHead (one_message line b a y x) fit)
