use Rattle.nbd_judge.proofs.{Common.{◌≡◌, ℕ, None, Some, sym, ◌∙◌, given_length, initial_of}, contents.StartLemmas.{image_fits, same_start, start_fits}, concluding.begin.Goals.{in-Some+else-image-size, in_default}}
use Rattle.nbd_judge.proofs.concluding.begin.Goals as goal

pub new-requires : goal.new-requires
new-requires c = start_fits c.args.size c.args.start
    (λ n q. elim c.match-given_len.branch [
      | in-Some+else-image-size w ↦
          (let s : Some n ≡ Some w.in-Some.image = sym q ∙ sym c.given_len.ensures ∙ w.in-Some.is in
          let image : w.in-Some.image ≡ c.args.size = w.if-image-size.false in cc)
      | in_default w ↦ (let s : Some n ≡ None = sym q ∙ sym c.given_len.ensures ∙ w.in_default.is in absurd (cc))
    ])

pub returns : goal.returns
returns c =
    let has_size : (n : ℕ) → given_length (initial_of c.args.start) ≡ Some n → n ≡ c.args.size =
    (λ n q. elim c.match-given_len.branch [
      | in-Some+else-image-size w ↦
          (let s : Some n ≡ Some w.in-Some.image = sym q ∙ sym c.given_len.ensures ∙ w.in-Some.is in
          let image : w.in-Some.image ≡ c.args.size = w.if-image-size.false in cc)
      | in_default w ↦ (let s : Some n ≡ None = sym q ∙ sym c.given_len.ensures ∙ w.in_default.is in absurd (cc))
    ]) in (
      c.in_ok-new.ensures.size,
      λ x l. c.in_ok-new.ensures.bytes x l ∙ same_start c.args.size c.args.start (start_fits c.args.size c.args.start has_size) x l,
      λ export sized. image_fits (Some export) c.args.size (initial_of c.args.start) sized has_size,
    )
