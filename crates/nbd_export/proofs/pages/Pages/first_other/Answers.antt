use Rattle.nbd_export.proofs.{Common.{◌≡◌, ◌+◌, ◌-◌, ◌<◌, ℕ, Option, Some, length, get_or, take, drop, sym, ◌∙◌, ap, arith, get_or-take, length-take, stored_byte, bytes_from}, LeastLemmas.{bytes_from-part, least_unequal, none_unequal}}
use Rattle.nbd_export.proofs.pages.Pages.first_other.Goals as goal

pub returns-in-Some : goal.returns-in-Some
returns-in-Some c =
    let done = c.loop-done.done in
    let at = c.args.offset + done in
    let n = c.min-len.result in
    let stored = c.rest_of_page-stored.result.now in
    let bytes = c.args.bytes.now in
    let f : ℕ → Option ℕ = λ x. Some (stored_byte c.args.self.now x) in
    let m : length (take n stored) ≡ n = simp length-take (omega arith) in
    let left : (j : ℕ) → j < length (take n stored) → f (at + j) ≡ Some (get_or (take n stored) j 0) =
    λ j l. ap Some (sym (get_or-take n stored j 0 (omega arith) ∙ c.rest_of_page-stored.ensures.bytes j (omega arith))) in
    least_unequal f (bytes_from c.args.offset bytes) c.args.offset (length bytes) at (length (take n stored)) (λ j. get_or (take n stored) j 0) (λ j. get_or (take (done + n - done) (drop done bytes)) j 0)
    (omega arith) (omega arith) left (λ j l. bytes_from-part c.args.offset done n j bytes (omega arith) (omega arith)) c.loop-done.invariant.none c.in-Some.i c.in-Some.ensures

pub loop-done-preserved : goal.loop-done-preserved
loop-done-preserved c =
    let done = c.loop-done.done in
    let at = c.args.offset + done in
    let n = c.min-len.result in
    let stored = c.rest_of_page-stored.result.now in
    let bytes = c.args.bytes.now in
    let f : ℕ → Option ℕ = λ x. Some (stored_byte c.args.self.now x) in
    let m : length (take n stored) ≡ n = simp length-take (omega arith) in
    let left : (j : ℕ) → j < length (take n stored) → f (at + j) ≡ Some (get_or (take n stored) j 0) =
    λ j l. ap Some (sym (get_or-take n stored j 0 (omega arith) ∙ c.rest_of_page-stored.ensures.bytes j (omega arith))) in
    record {
      fits = omega arith;
      none = λ x l. none_unequal f (bytes_from c.args.offset bytes) c.args.offset (length bytes) at (length (take n stored)) (λ j. get_or (take n stored) j 0) (λ j. get_or (take (done + n - done) (drop done bytes)) j 0)
          (omega arith) (omega arith) left (λ j l. bytes_from-part c.args.offset done n j bytes (omega arith) (omega arith)) c.loop-done.invariant.none (λ j d. c.in_default.ensures j d) x (omega arith);
    }

pub returns : goal.returns
returns c = λ n d. c.loop-done.invariant.none n (omega arith) d
