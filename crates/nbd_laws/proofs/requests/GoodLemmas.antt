-- What a request keeps as replies to it complete.
use Rattle.nbd_laws.proofs.Common.{and_from, and_parts, ◌≡◌, Option, ℕ, ◌≤◌, ◌==◌, List, [], ◌∷◌, ◌++◌, length, refl, sym, ◌∙◌, ap, subst, inl, inr, None, Bool, true, false, ◌&&◌, if◌then◌else◌, eqb-true, eq-eqb, arith, IsTrue, append-nil, nat_le, nat_lt, le_refl, leb-true, ltb-true, Profile, read_as, done_fault, Message, Simple, Chunk, ExtendedRequest, ExtendedChunk, Piece, Sizes, Context, length_by, content_of, filter_in, written, Covers, Operation, Exporting, Success, list_any, ends_reply, has_failed, is_failing, is_finished, is_proper, outcome, pieces, option_to_list, piece_of, simple_piece, has, IsSendable, with_reply}
use Rattle.nbd_laws.proofs.{judge.{DecideLemmas.simple_length, AllowLemmas.{IsChunk, chunk_allow, extended_allow, finish_allow, simple_allow, total_covers}, KindLemmas.{kind_content, no_content, none_content, status_content}}, requests.LaidLemmas.{AreApart, AreInside, apart_snoc, inside_snoc, pieces-snoc}}
unfoldable use Rattle.nbd_laws.proofs.judge.WholeLemmas.{MayReply}
use Rattle.nbd_wire.specs.declared.chunks.TheConstants as chunks
use Rattle.nbd_wire.specs.declared.command_flags.TheConstants as command_flags
use Rattle.nbd_wire.specs.declared.commands.TheConstants as commands

pub record IsGood (export : Exporting) (e : Operation) : Type 0 where
  pub carried : e.command ≡ commands.WRITE → length e.payload ≡ e.length
  pub inside : AreInside e.offset e.length (pieces e)
  pub apart : AreApart (pieces e)
  pub reads : (e.command ≡ commands.READ → ⊥) → pieces e ≡ []
  pub single : IsTrue (is_proper export e) → IsTrue (has e.flags command_flags.DF) → length (pieces e) ≤ 1
  pub success : outcome e ≡ Success → IsTrue (is_proper export e)
  pub covered : outcome e ≡ Success → e.command ≡ commands.READ → Covers e (pieces e)

-- what a success means
pub record Succeeds (e : Operation) : Type 0 where
  finished : is_finished e ≡ true
  unfailed : has_failed e ≡ false

pub succeeds : (e : Operation) → outcome e ≡ Success → Succeeds e
succeeds e h = grind arith

pub any-last : (p : Message → Bool) (ms : List Message) (m : Message) → list_any p ms ≡ false → list_any p (ms ++ m ∷ []) ≡ true → p m ≡ true
any-last p [] m f h = grind arith
any-last p (n ∷ ms) m f h = grind (arith, any-last p ms m)

-- what a request with one more reply keeps
pub record Keeps (export : Exporting) (e : Operation) (ps : List Piece) : Type 0 where
  inside : AreInside e.offset e.length ps
  apart : AreApart ps
  reads : (e.command ≡ commands.READ → ⊥) → ps ≡ []
  single : IsTrue (is_proper export e) → IsTrue (has e.flags command_flags.DF) → length ps ≤ 1

-- a chunk adds the piece that its payload is
abbrev AddsPiece : Operation → (kind : ℕ) (payload : List ℕ) → Message → Type 0
AddsPiece e kind payload m = pieces (with_reply e m) ≡ pieces e ++ option_to_list (content_of kind payload)

added_none : (e : Operation) (kind : ℕ) (payload : List ℕ) (m : Message) → AddsPiece e kind payload m → content_of kind payload ≡ None → pieces (with_reply e m) ≡ pieces e
added_none e kind payload m a q = a ∙ ap (λ o. pieces e ++ option_to_list o) q ∙ append-nil (pieces e)

pub kept_chunk : (profile : Profile) (extended : Bool) (export : Exporting) (e : Operation) (flags kind : ℕ) (payload : List ℕ) (m : Message) → AddsPiece e kind payload m → IsGood export e → IsChunk profile extended export e flags kind payload →
    Keeps export e (pieces (with_reply e m))
kept_chunk profile extended export e flags kind payload m a g h = elim h [
  | inl q ↦ same (added_none e kind payload m a (ap (λ k. content_of k payload) q.0 ∙ none_content payload))
  | inr r ↦ elim r [
    | inl (piece, is, fit) ↦ (let s : pieces e ++ piece ∷ [] ≡ pieces (with_reply e m) = sym ((grind arith)) in
        subst (Keeps export e) s (record {
          inside = inside_snoc e.offset e.length (pieces e) piece g.inside fit.1 fit.2;
          apart = apart_snoc (pieces e) piece g.apart fit.3;
          reads = λ n. absurd (n fit.0);
          single = λ p d. subst (λ l. length (l ++ piece ∷ []) ≤ 1) (sym (fit.4 (and_from _ _ p d))) (le_refl 1);
        }))
    | inr o ↦ elim o [
      | inl (f, is, x) ↦ same (added_none e kind payload m a (sym (kind_content profile kind payload) ∙ no_content (read_as profile kind) payload f is))
      | inr (k, x) ↦ same (added_none e kind payload m a (status_content _ kind payload k))
    ]
  ]
]
  where
    same : pieces (with_reply e m) ≡ pieces e → Keeps export e (pieces (with_reply e m))
    same s = subst (Keeps export e) (sym s) (record { inside = g.inside; apart = g.apart; reads = g.reads; single = g.single })

-- a chunk, with an extended header or not
good_by : (profile : Profile) (extended : Bool) (export : Exporting) (e : Operation) (flags kind : ℕ) (payload : List ℕ) (m : Message) → AddsPiece e kind payload m → ends_reply m ≡ has flags chunks.DONE → IsGood export e → is_finished e ≡ false →
    IsChunk profile extended export e flags kind payload → done_fault (has flags chunks.DONE) export (with_reply e m) ≡ None → IsGood export (with_reply e m)
unfolding is_proper
good_by profile extended export e flags kind payload m a ends g open_ is d =
    let k : Keeps export e (pieces (with_reply e m)) = kept_chunk profile extended export e flags kind payload m a g is in
    record { carried = g.carried; inside = k.inside; apart = k.apart; reads = k.reads; single = k.single; success = λ s. (finish k s).0; covered = λ s. (finish k s).1 }
  where
    finish : Keeps export e (pieces (with_reply e m)) → outcome (with_reply e m) ≡ Success → IsTrue (is_proper export (with_reply e m)) × (e.command ≡ commands.READ → Covers e (pieces (with_reply e m)))
    finish k s =
        let w : Succeeds (with_reply e m) = succeeds (with_reply e m) s in
        let done : has flags chunks.DONE ≡ true = sym ends ∙ any-last ends_reply e.replies m open_ w.finished in
        let r = finish_allow export (with_reply e m) w.unfailed (subst (λ b. done_fault b export (with_reply e m) ≡ None) done d) in
        (r.0, λ c. total_covers (with_reply e m) k.inside k.apart (r.1 c))

pub good_chunk : (profile : Profile) (structured : Bool) (export : Exporting) (e : Operation) (flags kind cookie : ℕ) (payload : List ℕ) → IsGood export e → is_finished e ≡ false → MayReply profile structured export e (Chunk flags kind cookie payload) →
    IsGood export (with_reply e (Chunk flags kind cookie payload))
unfolding ends_reply piece_of
good_chunk profile structured export e flags kind cookie payload g open_ h =
    let c = chunk_allow profile structured export e flags kind cookie payload h in
    good_by profile false export e flags kind payload (Chunk flags kind cookie payload) (pieces-snoc e.offset e.replies (Chunk flags kind cookie payload)) refl g open_ c.1 c.2

pub good_extended : (profile : Profile) (structured : Bool) (export : Exporting) (e : Operation) (flags kind cookie at : ℕ) (payload : List ℕ) → IsGood export e → is_finished e ≡ false → MayReply profile structured export e (ExtendedChunk flags kind cookie at payload) →
    IsGood export (with_reply e (ExtendedChunk flags kind cookie at payload))
unfolding ends_reply piece_of
good_extended profile structured export e flags kind cookie at payload g open_ h =
    let c = extended_allow profile structured export e flags kind cookie at payload h in
    good_by profile true export e flags kind payload (ExtendedChunk flags kind cookie at payload) (pieces-snoc e.offset e.replies (ExtendedChunk flags kind cookie at payload)) refl g open_ c.1 c.2

-- a request with one simple reply
abbrev pub once : Operation → (error cookie : ℕ) (payload : List ℕ) → Operation
once e error cookie payload = record e { replies = Simple error cookie payload ∷ [] }

pub no_error : (e : Operation) (error cookie : ℕ) (payload : List ℕ) → outcome (once e error cookie payload) ≡ Success → error ≡ 0
unfolding ends_reply is_failing
no_error e error cookie payload h = grind (arith, eqb-true)

pub simple_none : (e : Operation) (error : ℕ) → (e.command ≡ commands.READ → ⊥) → simple_length e error ≡ 0
simple_none e error n = grind (arith, eqb-true)

pub simple_all : (e : Operation) (error : ℕ) → e.command ≡ commands.READ → error ≡ 0 → simple_length e error ≡ e.length
simple_all e error c z = ap (λ b. if b && (error == 0) then e.length else 0) (eq-eqb e.command commands.READ c) ∙ ap (λ b. if true && b then e.length else 0) (eq-eqb error 0 z)

pub simple_keeps : (export : Exporting) (e : Operation) (payload : List ℕ) → length payload ≤ e.length → ((e.command ≡ commands.READ → ⊥) → length payload ≡ 0) → Keeps export e (simple_piece e.offset payload ++ [])
simple_keeps export e payload l r = grind (arith, le_refl)

pub simple_covers : (e : Operation) (payload : List ℕ) → length payload ≡ e.length → Covers e (simple_piece e.offset payload ++ [])
simple_covers e payload l x i = grind (arith, nat_le, nat_lt, and_parts, leb-true, ltb-true)

pub good_simple : (profile : Profile) (structured : Bool) (export : Exporting) (e : Operation) (error cookie : ℕ) (payload : List ℕ) → IsGood export e → MayReply profile structured export e (Simple error cookie payload) → IsGood export (with_reply e (Simple error cookie payload))
unfolding piece_of is_proper
good_simple profile structured export e error cookie payload g may =
    let h = simple_allow profile structured export e error cookie payload may in
    let k : Keeps export e (simple_piece e.offset payload ++ []) = simple_keeps export e payload (subst (λ n. n ≤ e.length) (sym h.3) ((grind (arith, le_refl)))) (λ n. h.3 ∙ simple_none e error n) in
    let good : IsGood export (once e error cookie payload) = record {
      carried = g.carried;
      inside = k.inside;
      apart = k.apart;
      reads = k.reads;
      single = k.single;
      success = λ s. h.4 (no_error e error cookie payload s);
      covered = λ s c. simple_covers e payload (h.3 ∙ simple_all e error c (no_error e error cookie payload s));
    } in
    grind (arith, h, good)

pub good_asked : (export : Exporting) (flags command cookie offset len : ℕ) (payload : List ℕ) (contexts : List Context) (has_contexts : Bool) (sizes : Option Sizes) → IsSendable (ExtendedRequest flags command cookie offset len payload) →
    IsGood export (record { extended = true; flags = flags; command = command; cookie = cookie; offset = offset; length = length_by (filter_in has_contexts flags command payload) len; payload = written command payload; contexts = contexts; filter = filter_in has_contexts flags command payload; sizes = sizes; replies = [] })
unfolding IsSendable
good_asked export flags command cookie offset len payload contexts has_contexts sizes sn = grind (arith, eq-eqb)
