-- What entries serve of a request.
use Rattle.nbd_judge.proofs.Common.{◌≡◌, ℕ, zero, suc, ◌+◌, ◌-◌, ◌<◌, ◌≤◌, ◌==◌, ◌&&◌, ◌||◌, ◌⊎◌, inl, inr, List, [], ◌∷◌, ◌++◌, refl, sym, ◌∙◌, ap, subst, Option, Some, None, Bool, true, false, is_some, if◌then◌else◌, arith, nat_le, eqb-true, eq-eqb, append_assoc, append-nil, nat_tests, cases_Bool, cases_lt, cases_eq, Entry, Part, Piece, Hole, IsServedAt, MayServe, Names, NamesWhole, in_part, is_served, SharesNone, byte_at, holds, is_in, piece_byte, piece_offset, piece_size, is_apart, is_apart_from, total, apart_from-shares, covered_total, full_total_covers, no_overlap, total_within, apart_snoc, whole_names, Span, HasMore, IsApart, IsBare, IsFree, IsHeld, IsIndex, Meets, index-more, index-none, AreParts, IsSpanOf, LieApart, part_pieces, parts_of, IsMisplaced}
use Rattle.nbd_judge.proofs.contents.CompareLemmas.{from_in, in_from}
use Rattle.nbd_laws.proofs.requests.LaidLemmas.{AreApart, AreInside}

-- a test passes at each offset of a range, or fails at one
pub all_or_one : (f : ℕ → Bool) (offset size : ℕ) → ((x : ℕ) → offset ≤ x → x < offset + size → f x ≡ true) ⊎ ((x : ℕ) × (offset ≤ x) × (x < offset + size) × (f x ≡ false))
all_or_one f offset zero = inl (λ x lo hi. absurd (omega arith))
all_or_one f offset (suc size) = elim (cases_Bool (f offset)) [
  | inr fails ↦ inr (offset, omega arith, omega arith, fails)
  | inl passes ↦ elim (all_or_one f (suc offset) size) [
    | inl all ↦ inl (λ x lo hi. elim (cases_eq offset x) [ inl s ↦ subst (λ y. f y ≡ true) s passes | inr ne ↦ all x (omega arith) (omega arith) ])
    | inr (x, lo, hi, fails) ↦ inr (x, omega (arith, lo), omega (arith, hi), fails)
  ]
]

-- where no entry serves the request atomically, its served offsets are those of its parts
pub served_parts : (es : List Entry) (k x : ℕ) → (NamesWhole es k → ⊥) → is_served es k x ≡ is_some (byte_at (parts_of es k) x)
served_parts [] k x none = refl
served_parts (e ∷ es) k x none = elim (cases_Bool (e.request == k)) [
  | inl named ↦
      ap (λ b. (b && in_part e.part x) || is_served es k x) named ∙ part e.part refl (eqb-true e.request k named) (served_parts es k x (λ n. none (inr n)))
      ∙ sym (ap (λ b. is_some (byte_at ((if b then part_pieces e.part else []) ++ parts_of es k) x)) named)
  | inr other ↦ grind (arith, other, served_parts es k x (λ n. none (inr n)))
]
  where
    part : (p : Option Part) → e.part ≡ p → e.request ≡ k → is_served es k x ≡ is_some (byte_at (parts_of es k) x) →
        (in_part p x || is_served es k x) ≡ is_some (byte_at (part_pieces p ++ parts_of es k) x)
    part None q n ih = absurd (none (inl (n, q)))
    part (Some p) q n ih = grind arith

-- one more part
pub parts_push : (es : List Entry) (k : ℕ) (p : Option Part) → parts_of (es ++ record { request = k; part = p } ∷ []) k ≡ parts_of es k ++ part_pieces p
parts_push [] k p = ap (λ b. (if b then part_pieces p else []) ++ []) (eq-eqb k k refl) ∙ append-nil (part_pieces p)
parts_push (e ∷ es) k p =
    ap (λ l. (if e.request == k then part_pieces e.part else []) ++ l) (parts_push es k p)
    ∙ sym (append_assoc (if e.request == k then part_pieces e.part else []) (parts_of es k) (part_pieces p))

pub parts_unnamed : (es : List Entry) (k : ℕ) → (Names es k → ⊥) → parts_of es k ≡ []
parts_unnamed [] k none = refl
parts_unnamed (e ∷ es) k none = elim (cases_Bool (e.request == k)) [
  | inl named ↦ absurd (none (inl (eqb-true e.request k named)))
  | inr other ↦ ap (λ b. (if b then part_pieces e.part else []) ++ parts_of es k) other ∙ parts_unnamed es k (λ n. none (inr n))
]

-- an entry with a part does not serve the request atomically
pub whole_push : (es : List Entry) (k : ℕ) (p : Part) → (NamesWhole es k → ⊥) → NamesWhole (es ++ record { request = k; part = Some p } ∷ []) k → ⊥
whole_push [] k p none h = elim h [ inl q ↦ (let e : Some p ≡ None = q.1 in absurd (cc)) | inr n ↦ n ]
whole_push (e ∷ es) k p none h = elim h [ inl q ↦ none (inl q) | inr n ↦ whole_push es k p (λ m. none (inr m)) n ]

-- pieces in a span that share no offset
are_inside : (span : Span) (ps : List Piece) → LieApart span ps → AreInside span.offset span.size ps
are_inside span [] l = tt
are_inside span (p ∷ ps) l = ((l.0, l.1), are_inside span ps l.4)

are_apart : (span : Span) (ps : List Piece) → LieApart span ps → AreApart ps
are_apart span [] l = tt
are_apart span (p ∷ ps) l = (l.3, are_apart span ps l.4)

laid_push : (span : Span) (ps : List Piece) (q : Piece) → LieApart span ps → span.offset ≤ piece_offset q → piece_offset q + piece_size q ≤ span.offset + span.size → 0 < piece_size q → SharesNone q ps → LieApart span (ps ++ q ∷ [])
laid_push span [] q l lo hi some none = (lo, hi, some, (λ x h. refl), tt)
laid_push span (p ∷ ps) q l lo hi some none =
    (l.0, l.1, l.2, (apart_snoc (p ∷ ps) q (are_apart span (p ∷ ps) l) none).0, laid_push span ps q l.4 lo hi some (λ x h. (let n = none x h in grind arith)))

total_push : (ps : List Piece) (q : Piece) → total (ps ++ q ∷ []) ≡ total ps + piece_size q
total_push [] q = omega arith
total_push (p ∷ ps) q = let ih : total (ps ++ q ∷ []) ≡ total ps + piece_size q = total_push ps q in omega arith

-- a piece that does not lie apart from others, none of them empty, shares an offset with them
shared : (span : Span) (p : Piece) (ps : List Piece) → 0 < piece_size p → LieApart span ps → is_apart_from p ps ≡ false → (x : ℕ) × (holds p x ≡ true) × (is_some (byte_at ps x) ≡ true)
shared span p [] some l e = absurd (cc)
shared span p (q ∷ ps) some l e = elim (cases_Bool (is_apart p q)) [
  | inl apart ↦ (let r = shared span p ps some l.4 (grind arith) in (r.0, r.1, grind (arith, r.2)))
  | inr meets ↦ (let o = no_overlap p q some l.2 meets in (o.0, o.1, ap (λ b. is_some (if b then Some (piece_byte q o.0) else byte_at ps o.0)) o.2))
]

module _ (span : Span) (within : ℕ → Bool) (is_span : IsSpanOf span within) (before : List Entry) (k : ℕ) where
  module _ (sizes : ℕ → Option ℕ) (left : ℕ) (h : AreParts sizes left span before k) where
    pub full : Names before k → left ≡ 0 → (x : ℕ) → IsServedAt within before k x
    full named e x = record {
      named = named;
      covered = λ i.
          (let r = from_in span.offset span.size x (sym (is_span x) ∙ i) in
          let count = h.count in
          let within = total_within span.offset span.size (parts_of before k) (are_inside span (parts_of before k) h.laid) (are_apart span (parts_of before k) h.laid) in
          served_parts before k x h.in_parts
          ∙ full_total_covers span.offset span.size (parts_of before k) (are_inside span (parts_of before k) h.laid) (are_apart span (parts_of before k) h.laid) (omega arith) x r.0 r.1);
    }

    pub not_full : (left ≡ 0 → ⊥) → (x : ℕ) × (IsServedAt within before k x → ⊥)
    not_full ne = elim (all_or_one (is_served before k) span.offset span.size) [
      | inl all ↦ (let t = covered_total span.offset span.size (parts_of before k) (are_inside span (parts_of before k) h.laid) (are_apart span (parts_of before k) h.laid)
          (λ x lo hi. sym (served_parts before k x h.in_parts) ∙ all x lo hi) in let count = h.count in absurd (ne (omega arith)))
      | inr (x, lo, hi, none) ↦ (x, λ w. (let q : false ≡ true = sym none ∙ w.covered (is_span x ∙ in_from span.offset span.size x lo hi) in (cc)))
    ]

    -- an offset in a span of the index is served, and one in none is not
    pub served_held : (x : ℕ) → IsHeld sizes x → is_served before k x ≡ true
    served_held x (j, n, at, i) =
        let b = from_in j n x i in
        let lo : j ≤ x = b.0 in
        let hi : x < j + n = b.1 in
        let met : is_apart_from (Hole x 1) (parts_of before k) ≡ false = h.index.meets (Hole x 1) j n at (λ a. elim a [ inl l ↦ absurd (omega arith) | inr l ↦ absurd (omega arith) ]) in
        let s = shared span (Hole x 1) (parts_of before k) (omega arith) h.laid met in
        let c = from_in x 1 s.0 s.1 in
        let same : s.0 ≡ x = (let l : x ≤ s.0 = c.0 in let u : s.0 < x + 1 = c.1 in omega arith) in
        served_parts before k x h.in_parts ∙ subst (λ y. is_some (byte_at (parts_of before k) y) ≡ true) same s.2

    pub served_bare : (x : ℕ) → IsBare sizes x → is_served before k x ≡ false
    served_bare x bare =
        let free : IsFree sizes x 1 = λ j n at. apart j n (bare j n at) in
        let none : SharesNone (Hole x 1) (parts_of before k) = apart_from-shares (Hole x 1) (parts_of before k) (h.index.free (Hole x 1) free) in
        served_parts before k x h.in_parts ∙ ap (λ o. is_some o) (none x (in_from x 1 x (omega arith) (omega arith)))
      where
        apart : (j n : ℕ) → is_in j n x ≡ false → IsApart x 1 j n
        apart j n out = elim (cases_lt x j) [
          | inl l ↦ inl (omega arith)
          | inr lo ↦ inr (let past : x < j + n → ⊥ = λ hi. (let q : true ≡ false = sym (in_from j n x lo hi) ∙ out in (cc)) in omega (arith, past))
        ]

    pub covered_here : Names before k → (x : ℕ) → IsHeld sizes x → IsServedAt within before k x
    covered_here named x held = record { named = named; covered = λ i. served_held x held }

    pub bare_here : (x : ℕ) → within x ≡ true → IsBare sizes x → IsServedAt within before k x → ⊥
    bare_here x inside bare w = (let q : false ≡ true = sym (served_bare x bare) ∙ w.covered inside in (cc))

    -- a part may be served where it is not empty, lies in the span, and apart from the others
    module _ (p : Part) (some : 0 < p.length) (lo : span.offset ≤ p.offset) (hi : p.offset + p.length ≤ span.offset + span.size) (free : IsFree sizes p.offset p.length) where
      none_shared : SharesNone (Hole p.offset p.length) (parts_of before k)
      none_shared = apart_from-shares (Hole p.offset p.length) (parts_of before k) (h.index.free (Hole p.offset p.length) free)

      pub may_serve : MayServe within before (record { request = k; part = Some p })
      may_serve = (
        h.in_parts,
        λ m. elim m [
          | inl empty ↦ absurd (omega arith)
          | inr m ↦ elim m [
            | inl out ↦ (let i = from_in p.offset p.length out.0 out.1 in
                let at_p : p.offset ≤ out.0 = i.0 in
                let below : out.0 < p.offset + p.length = i.1 in
                let q : true ≡ false = sym (in_from span.offset span.size out.0 (omega arith) (omega arith)) ∙ sym (is_span out.0) ∙ out.2 in absurd (cc))
            | inr twice ↦ (let q : true ≡ false = sym twice.2 ∙ served_parts before k twice.0 h.in_parts ∙ ap (λ o. is_some o) (none_shared twice.0 twice.1) in absurd (cc))
          ]
        ],
      )

      pub one_more : (new : ℕ → Option ℕ) → HasMore sizes new p.offset p.length → AreParts new (left - p.length) span (before ++ record { request = k; part = Some p } ∷ []) k
      one_more new more = record {
        in_parts = whole_push before k p h.in_parts;
        index = subst (IsIndex new) (sym (parts_push before k (Some p))) (index-more sizes new (parts_of before k) (Hole p.offset p.length) h.index more);
        laid = subst (LieApart span) (sym (parts_push before k (Some p))) (laid_push span (parts_of before k) (Hole p.offset p.length) h.laid lo hi some none_shared);
        count = (let c : left ≡ span.size - total (parts_of before k) = h.count in
            let t : total (parts_of before k ++ Hole p.offset p.length ∷ []) ≡ total (parts_of before k) + p.length = total_push (parts_of before k) (Hole p.offset p.length) in
            let r : left - p.length ≡ span.size - total (parts_of before k ++ Hole p.offset p.length ∷ []) = omega arith in
            r ∙ ap (λ ps. span.size - total ps) (sym (parts_push before k (Some p))));
      }

    -- a part that does not lie in the span, or meets another, is bad
    pub out_of_span : (p : Part) → (span.offset ≤ p.offset → p.offset + p.length ≤ span.offset + span.size → ⊥) → IsMisplaced within before k (Some p)
    out_of_span p out = elim (all_or_one (is_in span.offset span.size) p.offset p.length) [
      | inl all ↦ elim (cases_eq p.length 0) [
        | inl empty ↦ inl empty
        | inr some ↦ absurd (
            let first = from_in span.offset span.size p.offset (all p.offset (omega arith) (omega arith)) in
            let last = from_in span.offset span.size (p.offset + (p.length - 1)) (all (p.offset + (p.length - 1)) (omega arith) (omega arith)) in
            let end = last.1 in out first.0 (omega (arith, end)))
      ]
      | inr (x, lo, hi, none) ↦ inr (inl (x, in_from p.offset p.length x lo hi, is_span x ∙ none))
    ]

    pub meets_part : (p : Part) → (p.length ≡ 0) ⊎ Meets sizes p.offset p.length → IsMisplaced within before k (Some p)
    meets_part p (inl empty) = inl empty
    meets_part p (inr m) = elim (cases_eq p.length 0) [
      | inl empty ↦ inl empty
      | inr some ↦ (let s = shared span (Hole p.offset p.length) (parts_of before k) (omega arith) h.laid (h.index.meets (Hole p.offset p.length) m.0 m.1 m.2 m.3) in
          inr (inr (s.0, s.1, served_parts before k s.0 h.in_parts ∙ s.2)))
    ]

-- a request of which nothing is served
pub no_parts : (sizes : ℕ → Option ℕ) (span : Span) (before : List Entry) (k : ℕ) → ((n : ℕ) → sizes n ≡ None) → (Names before k → ⊥) → AreParts sizes span.size span before k
no_parts sizes span before k none unnamed = record {
  in_parts = λ h. unnamed (whole_names before k h);
  index = subst (IsIndex sizes) (sym (parts_unnamed before k unnamed)) (index-none sizes none);
  laid = subst (LieApart span) (sym (parts_unnamed before k unnamed)) tt;
  count = (let all : span.size ≡ span.size - 0 = omega arith in all ∙ ap (λ ps. span.size - total ps) (sym (parts_unnamed before k unnamed)));
}

-- the spans' test, as bounds
pub in_span : (span : Span) (p : Part) → (nat_le span.offset p.offset && nat_le (p.offset + p.length) (span.offset + span.size)) ≡ true → (span.offset ≤ p.offset) × (p.offset + p.length ≤ span.offset + span.size)
in_span span p e = grind arith

pub off_span : (span : Span) (p : Part) → (nat_le span.offset p.offset && nat_le (p.offset + p.length) (span.offset + span.size)) ≡ false → span.offset ≤ p.offset → p.offset + p.length ≤ span.offset + span.size → ⊥
off_span span p e lo hi = grind (arith, nat_tests)
