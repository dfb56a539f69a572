use Rattle.nbd_judge.proofs.{Common.{◌≡◌, ◌&&◌, ℕ, None, Some, slice_get, slice_index_or, inl, inr, sym, ◌∙◌, ap, length, subst, arith, IsTrue, and_from, and_parts, cases_eq, slice_get-get_or, option_copied, Span, shown_in, with_counts, Piece, is_in, piece_offset, piece_size, first_shown, IsFaultOfService}, contents.CompareLemmas.from_in}
use Rattle.nbd_judge.proofs.{orders.ShownLemmas.{fault_from, first_has, has_first, in_range, looked_up, place_of, read_shows, shown_none, shown_one, span_at}, order.fault_shown.Goals.{in-Some+then-here-gt0+in_default-fault_in, in-Some+else-here-gt0, in_default}}
use Rattle.nbd_judge.proofs.order.fault_shown.Goals as goal

pub returns-in-Some-fault_in : goal.returns-in-Some-fault_in
returns-in-Some-fault_in c within entries k sp sv =
    let ps = c.args.one.now.pieces.items in
    let cs = c.args.one.now.pieces.counts in
    let bound = ap length c.counts-i-end.ensures in
    let i : ℕ = c.loop-i.i in
    let here : Span = c.meet-here.result in
    let inside : Span = c.args.inside in
    let p : Piece = c.in-Some.piece.now in
    let at : slice_get ps i ≡ Some p = sym (looked_up c.deref.result.now i c.get.result c.get.ensures.lookup ∙ ap (λ xs. slice_get xs i) c.deref.ensures) ∙ ap option_copied c.in-Some.is in
    let n : ℕ = slice_index_or cs i 0 in
    let counted : slice_get cs i ≡ Some n = slice_get-get_or cs i 0 (omega (arith, bound)) in
    let met : (x : ℕ) → is_in here.offset here.size x ≡ (is_in (piece_offset p) (piece_size p) x && is_in inside.offset inside.size x) = λ x. c.meet-here.ensures.both x ∙ ap (λ (s : Span). is_in s.offset s.size x && is_in inside.offset inside.size x) c.of.ensures in
    let both : (x : ℕ) → IsTrue (is_in here.offset here.size x) → IsTrue (is_in (piece_offset p) (piece_size p) x) × IsTrue (is_in inside.offset inside.size x) = λ x h. and_parts (is_in (piece_offset p) (piece_size p) x) (is_in inside.offset inside.size x) (sym (met x) ∙ h) in
    fault_from within entries k (shown_in c.args.one.now) here
    (λ x h. (sp x ∙ (both x h).1, subst (λ ws. (m : ℕ) × (first_shown ws x ≡ Some m)) (read_shows c.args.one.now c.requires.read) (has_first (with_counts ps cs) x i (span_at n p) (shown_one ps cs i p n at counted) (both x h).0)))
    c.if-here-gt0.true c.in-Some-fault_in.fault
    (subst (IsFaultOfService (λ x. IsTrue (is_in here.offset here.size x)) within entries k) c.in-Some-fault_in.is (c.fault_in.ensures inside within entries k sp sv (λ x h. sp x ∙ (both x h).1)))

pub loop-i-preserved : goal.loop-i-preserved
loop-i-preserved c within entries k sp sv x n h l w =
    let ps = c.args.one.now.pieces.items in
    let cs = c.args.one.now.pieces.counts in
    let bound = ap length c.counts-i-end.ensures in
    let i : ℕ = c.loop-i.i in
    let inside : Span = c.args.inside in
    let found : option_copied c.get.result ≡ slice_get ps i = looked_up c.deref.result.now i c.get.result c.get.ensures.lookup ∙ ap (λ xs. slice_get xs i) c.deref.ensures in
    let m : ℕ = slice_index_or cs i 0 in
    let counted : slice_get cs i ≡ Some m = slice_get-get_or cs i 0 (omega (arith, bound)) in
    elim (cases_eq h.place i) [
      | inr ne ↦ c.loop-i.invariant within entries k sp sv x n h (omega (arith, l, ne)) w
      | inl q ↦ (elim c.match-get.branch [
        | in-Some+then-here-gt0+in_default-fault_in b ↦
            (let p : Piece = b.in-Some.piece.now in
            let at : slice_get ps i ≡ Some p = sym found ∙ ap option_copied b.in-Some.is in
            let here : Span = b.meet-here.result in
            let met : (y : ℕ) → is_in here.offset here.size y ≡ (is_in (piece_offset p) (piece_size p) y && is_in inside.offset inside.size y) = λ y. b.meet-here.ensures.both y ∙ ap (λ (s : Span). is_in s.offset s.size y && is_in inside.offset inside.size y) b.of.ensures in
            subst (IsFaultOfService (λ y. IsTrue (is_in here.offset here.size y)) within entries k) b.in_default-fault_in.is
            (b.fault_in.ensures inside within entries k sp sv (λ y g. sp y ∙ (and_parts (is_in (piece_offset p) (piece_size p) y) (is_in inside.offset inside.size y) (sym (met y) ∙ g)).1))
            x (met x ∙ and_from (is_in (piece_offset p) (piece_size p) x) (is_in inside.offset inside.size x) (in_range ps cs i p m at counted x n h q) (sym (sp x) ∙ w)))
        | in-Some+else-here-gt0 b ↦
            (let p : Piece = b.in-Some.piece.now in
            let at : slice_get ps i ≡ Some p = sym found ∙ ap option_copied b.in-Some.is in
            let here : Span = b.meet-here.result in
            let met : is_in here.offset here.size x ≡ (is_in (piece_offset p) (piece_size p) x && is_in inside.offset inside.size x) = b.meet-here.ensures.both x ∙ ap (λ (s : Span). is_in s.offset s.size x && is_in inside.offset inside.size x) b.of.ensures in
            let z = from_in here.offset here.size x (met ∙ and_from (is_in (piece_offset p) (piece_size p) x) (is_in inside.offset inside.size x) (in_range ps cs i p m at counted x n h q) (sym (sp x) ∙ w)) in
            absurd (let e = b.if-here-gt0 in omega (arith, z.0, z.1, e)))
        | in_default b ↦ absurd (let none = shown_none ps cs i (sym found ∙ ap option_copied b.in_default.is) in let z : None ≡ Some h.range = sym none ∙ ap (slice_get (with_counts ps cs)) (sym q) ∙ h.at in (cc))
      ])
    ]

pub returns : goal.returns
returns c within entries k sp sv =
    let ps = c.args.one.now.pieces.items in
    let cs = c.args.one.now.pieces.counts in
    let bound = ap length c.counts-i-end.ensures in (
      λ x (w, (n, f)). (let h = first_has (with_counts ps cs) x n (subst (λ ws. first_shown ws x ≡ Some n) (sym (read_shows c.args.one.now c.requires.read)) f) in
          let l = place_of ps cs x n h in
          c.loop-i.invariant within entries k sp sv x n h (omega (arith, l, bound)) w),
      λ fault q. absurd (let z : None ≡ Some fault = q in (cc)),
    )
