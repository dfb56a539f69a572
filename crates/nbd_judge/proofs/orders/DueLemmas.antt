-- When what an entry serves was due.
use Rattle.nbd_judge.proofs.Common.{◌≡◌, ℕ, ◌⊎◌, inl, inr, refl, sym, ◌∙◌, ap, subst, Option, Some, None, arith, Bool, true, false, IsTrue, if◌then◌else◌, IsLeast, Span, Entry, Part, Profile, in_part, is_in, Asked, Report, asked_at, due_by_chunk, due_in, due_of, first_shown, inside_in, lesser_of, IsFair, IsLeastDue, ServesDue, ShowsIn, is_chunked}
use Rattle.nbd_judge.proofs.contents.CompareLemmas.{in_from, itself, least_as, least_lesser, one_least}

-- by whether the profile serves the request by chunk
pub due_whole : (profile : Profile) (within : ℕ → Bool) (a : Asked) (x : ℕ) → is_chunked profile a.command ≡ false → due_of profile within (Some a) x ≡ a.known_at
due_whole profile within a x e = ap (λ b. if b then due_by_chunk within a x else a.known_at) e

pub due_chunked : (profile : Profile) (within : ℕ → Bool) (a : Asked) (x : ℕ) → is_chunked profile a.command ≡ true → due_of profile within (Some a) x ≡ due_by_chunk within a x
due_chunked profile within a x e = ap (λ b. if b then due_by_chunk within a x else a.known_at) e

pub due_none : (profile : Profile) (within : ℕ → Bool) (x : ℕ) → due_of profile within None x ≡ None
due_none profile within x = refl

module _ (profile : Profile) (r : Report) (e : Entry) (a : Asked) (told : asked_at e.request r.asked ≡ Some a) (fair : IsFair r e) where
  -- an entry serves an offset
  some_offset : (x : ℕ) × IsTrue (in_part e.part x)
  some_offset = go e.part refl
    where
      go : (p : Option Part) → e.part ≡ p → (x : ℕ) × IsTrue (in_part p x)
      go None q = (0, refl)
      go (Some p) q = (p.offset, in_from p.offset p.length p.offset (omega arith) (let l = (fair.part p q).0 in omega (arith, l)))

  pub least_whole : is_chunked profile a.command ≡ false → IsLeastDue (due_in profile r) e a.known_at
  least_whole whole = least_as (λ n. a.known_at ≡ Some n) (ServesDue (due_in profile r) e) a.known_at (λ n q. (some_offset.0, some_offset.1, due some_offset.0 ∙ q)) (λ n (x, p, d). sym (due x) ∙ d) (itself a.known_at)
    where
      due : (x : ℕ) → due_in profile r e.request x ≡ a.known_at
      due x = ap (λ o. due_of profile (inside_in r e.request) o x) told ∙ due_whole profile (inside_in r e.request) a x whole

  module _ (chunked : is_chunked profile a.command ≡ true) (span : Span) (least : Option ℕ) (shown : IsLeast (ShowsIn a span) least)
      (into : (x : ℕ) → IsTrue (in_part e.part x) → IsTrue (inside_in r e.request x) → IsTrue (is_in span.offset span.size x))
      (back : (x : ℕ) → IsTrue (is_in span.offset span.size x) → IsTrue (in_part e.part x) × IsTrue (inside_in r e.request x)) where
    -- what is shown at x, where it lies inside
    abbrev here : ℕ → Option ℕ
    here x = if inside_in r e.request x then first_shown a.shown x else None

    due_is : (x : ℕ) → due_in profile r e.request x ≡ lesser_of (here x) a.ended_at
    due_is x = ap (λ o. due_of profile (inside_in r e.request) o x) told ∙ due_chunked profile (inside_in r e.request) a x chunked

    -- what is shown at an offset that the entry serves is shown in the span
    shows : (x n : ℕ) → IsTrue (in_part e.part x) → here x ≡ Some n → ShowsIn a span n
    shows x n p h = (let i : inside_in r e.request x ≡ true = grind arith in (x, into x p i, grind arith))

    served : (n : ℕ) → ShowsIn a span n → (x : ℕ) × IsTrue (in_part e.part x) × (here x ≡ Some n)
    served n (x, i, f) = (let b = back x i in (x, b.0, ap (λ t. if t then first_shown a.shown x else None) b.1 ∙ f))

    -- what is due at x is the least of what is shown and what has ended
    lesser_at : (x : ℕ) → IsLeast (λ n. (here x ≡ Some n) ⊎ (a.ended_at ≡ Some n)) (lesser_of (here x) a.ended_at)
    lesser_at x = least_lesser (λ n. here x ≡ Some n) (λ n. a.ended_at ≡ Some n) (here x) a.ended_at (itself (here x)) (itself a.ended_at)

    among : (n : ℕ) → ServesDue (due_in profile r) e n → ShowsIn a span n ⊎ (a.ended_at ≡ Some n)
    among n (x, p, d) = elim (subst (IsLeast (λ n. (here x ≡ Some n) ⊎ (a.ended_at ≡ Some n))) (sym (due_is x) ∙ d) (lesser_at x)).0 [ inl h ↦ inl (shows x n p h) | inr q ↦ inr q ]

    pub least_chunked : IsLeastDue (due_in profile r) e (lesser_of least a.ended_at)
    least_chunked = go (lesser_of least a.ended_at) (least_lesser (ShowsIn a span) (λ n. a.ended_at ≡ Some n) least a.ended_at shown (itself a.ended_at))
      where
        go : (o : Option ℕ) → IsLeast (λ n. ShowsIn a span n ⊎ (a.ended_at ≡ Some n)) o → IsLeast (ServesDue (due_in profile r) e) o
        go None h = λ n d. h n (among n d)
        go (Some m) h = (elim h.0 [ inl s ↦ (let t = served m s in at t.0 t.1 (inl t.2)) | inr q ↦ at some_offset.0 some_offset.1 (inr q) ], λ n l d. h.1 n l (among n d))
          where
            at : (x : ℕ) → IsTrue (in_part e.part x) → (here x ≡ Some m) ⊎ (a.ended_at ≡ Some m) → ServesDue (due_in profile r) e m
            at x p one = (
              x,
              p,
              due_is x ∙ one_least (λ n. (here x ≡ Some n) ⊎ (a.ended_at ≡ Some n)) (lesser_of (here x) a.ended_at) m (lesser_at x)
                  (one, λ n l s. h.1 n l (elim s [ inl f ↦ inl (shows x n p f) | inr q ↦ inr q ])),
            )
